-- A call that is replaced by the body of its callee.
use Rattle.safl_reshape.proofs.Common.{Cons, Nil, Parameter, Program, Term, Terms, Var, calls, is_member}
use Rattle.std.proofs.Common.{◌≡◌, ℕ, zero, suc, ◌+◌, ◌<◌, List, [], ◌∷◌, ◌++◌, length, map, Some, Bool, true, false, refl, sym, ap, ◌∙◌, subst, arith}
use Rattle.std.proofs.lemmas.List.{length-append, append-nil}
use Rattle.safl_term.specs.Terms as terms
use Rattle.safl_term.specs.Slots.{count}
use Rattle.safl_typing.specs.Rewriting.{Expression, Variable, Let, Expressions, no_expression, an_expression, Bindings, no_binding, a_binding}
use Rattle.safl_typing.specs.Heads.{Slot, Head, Known, slot_of}
use Rattle.safl_typing.specs.Typing.{Differ, names, slots, widths_of, innermost, Has, HaveAll, HaveBound}
use Rattle.safl_reshape.specs.Reshaped.{result_name}
use Rattle.safl_reshape.proofs.Alike.{Alike, alike_unfolded, alike_bare}
use Rattle.safl_reshape.proofs.Scopes.{seen_behind}
use Rattle.safl_reshape.proofs.Moves.{MovedIn, AllMovedIn, moved}
use Rattle.safl_reshape.proofs.Sites.{Sites}
use Rattle.safl_reshape.proofs.Calls.{IsProgramOf, sees, is_same, any_tail, unchanged, unchanged_same, inner_move}

abbrev pub params_bound : List Parameter → Expressions → Bindings
params_bound [] es = no_binding
params_bound (p ∷ ps) no_expression = no_binding
params_bound (p ∷ ps) (an_expression e es) = a_binding p.place p.name (Some p.width) e (params_bound ps es)

abbrev pub under : ℕ → List Parameter → Expressions → Expression → Expression
under place [] es body = body
under place (p ∷ ps) no_expression body = body
under place (p ∷ ps) (an_expression e es) body = Let place (params_bound (p ∷ ps) (an_expression e es)) body

-- the let that stands in place of a call
abbrev pub unfolded_expression : ℕ → List Parameter → ℕ → Expressions → Expression → Expression
unfolded_expression place ps width es body = Let place (a_binding place result_name (Some width) (under place ps es body) no_binding) (Variable place result_name)

abbrev pub slots_of : List Parameter → List Slot
slots_of ps = map slot_of ps

params_have : (b : Known) (z : List Slot) (lo hi : ℕ) (ps : List Parameter) (es : Expressions) (us : Terms) → HaveAll b z lo hi es
    (widths_of (slots_of ps)) us → HaveBound b z lo hi (params_bound ps es) (widths_of (slots_of ps)) us
params_have b z lo hi [] no_expression us h = h
params_have b z lo hi [] (an_expression e es) us h = absurd h
params_have b z lo hi (p ∷ ps) no_expression us h = absurd h
params_have b z lo hi (p ∷ ps) (an_expression e es) us (m, t, ts, he, hs, q) = (m, t, ts, refl, he, params_have b z m hi ps es ts hs, q)

params_names : (b : Known) (z : List Slot) (lo hi : ℕ) (ps : List Parameter) (es : Expressions) (us : Terms) → HaveAll b z lo hi es
    (widths_of (slots_of ps)) us → names (params_bound ps es) ≡ map (λ (p : Parameter). p.name) ps
params_names b z lo hi [] no_expression us h = refl
params_names b z lo hi [] (an_expression e es) us h = absurd h
params_names b z lo hi (p ∷ ps) no_expression us h = absurd h
params_names b z lo hi (p ∷ ps) (an_expression e es) us (m, t, ts, he, hs, q) = ap (λ (l : List (List ℕ)). p.name ∷ l) (params_names b z m hi ps es ts hs)

params_slots : (b : Known) (z : List Slot) (lo hi : ℕ) (ps : List Parameter) (es : Expressions) (us : Terms) → HaveAll b z lo hi es
    (widths_of (slots_of ps)) us → slots (params_bound ps es) (widths_of (slots_of ps)) ≡ slots_of ps
params_slots b z lo hi [] no_expression us h = refl
params_slots b z lo hi [] (an_expression e es) us h = absurd h
params_slots b z lo hi (p ∷ ps) no_expression us h = absurd h
params_slots b z lo hi (p ∷ ps) (an_expression e es) us (m, t, ts, he, hs, q) = ap (λ (l : List Slot). slot_of p ∷ l) (params_slots b z m hi ps es ts hs)

one_name : (x : List ℕ) → Differ (x ∷ [])
one_name x zero zero y p q = refl
one_name x zero (suc j) y p q = absurd cc
one_name x (suc i) zero y p q = absurd cc
one_name x (suc i) (suc j) y p q = absurd cc

-- `let r:w = B in r`, where the expression B has width w
under_result : (b : Known) (z : List Slot) (end : Bool) (from hi p : ℕ) (e : Expression) (w width : ℕ) (u : Term) → width ≡ w → Has b z false from hi e w u
    → Has b z end from hi (Let p (a_binding p result_name (Some width) e no_binding) (Variable p result_name)) w (terms.Let (Cons u Nil) (Var (length z)))
under_result b z end from hi p e w width u eq h =
    let i : innermost result_name 0 (z ++ (record { name = result_name; width = w } ∷ [])) ≡ Some (record { slot = length z + 0; width = w }) =
    seen_behind result_name z (record { name = result_name; width = w } ∷ []) 0 w refl in
    let n : length z + 0 ≡ length z = omega arith in
    (hi, w ∷ [], Cons u Nil, Var (length z), one_name result_name, (hi, u, Nil, eq, h, (refl, refl), refl), (refl, length z, i ∙ ap (λ (s : ℕ). Some (record { slot = s; width = w })) n, refl), refl)

-- the callee's body
pub record IsBodyOf (C : Program) (at : ℕ → Bool) (all : List Head) (u i : ℕ) (ps : List Parameter) (width : ℕ) (body : Expression) : Type 0 where
  pub first : ℕ
  pub end : ℕ
  pub has : Has (sees all u) (slots_of ps) true first end body width (C.body i)
  pub alone : calls is_member (sees all u) body ≡ false
  pub within : Sites (λ j f. at j ≡ false) (C.body i)
  pub differ : Differ (map (λ (p : Parameter). p.name) ps)

module _ (C : Program) (at : ℕ → Bool) (all : List Head) (u v : ℕ) (is : IsProgramOf C all) (lt : u < v) (i : ℕ) (width : ℕ) (body : Expression) where
  abbrev b : Known
  b = sees all v

  -- the body, after what is seen at the call
  body_moved : (ps : List Parameter) (of : IsBodyOf C at all u i ps width body) (z : List Slot) (from : ℕ) → MovedIn C is_same at b z (slots_of ps)
      (length (z ++ slots_of ps)) false from body width (C.body i)
  body_moved ps of z from =
      subst (λ (e : Expression). MovedIn C is_same at b z (slots_of ps) (length (z ++ slots_of ps)) false from e width (C.body i)) (unchanged_same (sees all u) of.first body)
      (moved C is_same at (sees all u) b unchanged z any_tail is_member (λ j f. at j ≡ false) (λ f lo p x es. refl) tt (inner_move C at all u v z is lt)
      (slots_of ps) (length (z ++ slots_of ps)) true false of.first of.end of.first body width (C.body i) refl tt refl of.alone of.within of.has from)

  pub call_unfolded : (ps : List Parameter) (of : IsBodyOf C at all u i ps width body) (pre s : List Slot) (end : Bool) (from p : ℕ)
      (fs : Expressions) (lo : ℕ) (us : Terms) (w : ℕ) → at lo ≡ true → width ≡ w
      → ((from : ℕ) → AllMovedIn C is_same at b pre s (length (pre ++ s)) from fs (widths_of (slots_of ps)) us)
      → count us ≡ length (slots_of ps)
      → MovedIn C is_same at b pre s (length (pre ++ s)) end from (unfolded_expression p ps width fs body) w (terms.Call i lo us)
  call_unfolded [] of pre s end from p fs lo Nil w on eq args c =
      let z = pre ++ s in
      let r = body_moved [] of z from in
      let h = subst (λ (l : List Slot). Has b l false from r.0 body width r.1) (append-nil z) r.2 in
      let g = subst (λ (l : List Slot). Alike C is_same at (length z) (length l) (C.body i) r.1) (append-nil z) r.3 in
      (r.0, terms.Let (Cons r.1 Nil) (Var (length z)), under_result b z end from r.0 p body w width r.1 eq (subst (λ (x : ℕ). Has b z false from r.0 body x r.1) eq h), alike_bare on g)
  call_unfolded [] of pre s end from p fs lo (Cons t ts) w on eq args c = absurd (omega (arith, c))
  call_unfolded (q ∷ ps) of pre s end from p no_expression lo us w on eq args c = absurd (args from).2
  call_unfolded (q ∷ ps) of pre s end from p (an_expression e es) lo us w on eq args c =
      let fs = an_expression e es in
      let z = pre ++ s in
      let a = args from in
      let r = body_moved (q ∷ ps) of z a.0 in
      let n : length (z ++ slots_of (q ∷ ps)) ≡ length z + count us = omega (arith, length-append z (slots_of (q ∷ ps)), c) in
      let g = subst (λ (l : ℕ). Alike C is_same at (length z) l (C.body i) r.1) n r.3 in
      let h = subst (λ (l : List Slot). Has b (z ++ l) false a.0 r.0 body width r.1) (sym (params_slots b z from a.0 (q ∷ ps) fs a.1 a.2)) r.2 in
      let k : Has b z false from r.0 (under p (q ∷ ps) fs body) width (terms.Let a.1 r.1) =
      (a.0, widths_of (slots_of (q ∷ ps)), a.1, r.1, subst Differ (sym (params_names b z from a.0 (q ∷ ps) fs a.1 a.2)) of.differ, params_have b z from a.0 (q ∷ ps) fs a.1 a.2, h, refl) in (
        r.0,
        terms.Let (Cons (terms.Let a.1 r.1) Nil) (Var (length z)),
        under_result b z end from r.0 p (under p (q ∷ ps) fs body) w width
            (terms.Let a.1 r.1) eq (subst (λ (x : ℕ). Has b z false from r.0 (under p (q ∷ ps) fs body) x (terms.Let a.1 r.1)) eq k),
        alike_unfolded on a.3 g,
      )
