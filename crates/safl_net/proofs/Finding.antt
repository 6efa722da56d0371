-- Names that are looked up.
use Rattle.safl_net.proofs.Common.{Global, IsNetlist, Row, Sig, named_signal}
use Rattle.std.proofs.Common.{◌≡◌, ℕ, zero, suc, ◌+◌, ◌<◌, List, [], ◌∷◌, length, get_or, position, Option, Some, None, Bool, true, false, cond, ◌||◌}
use Rattle.std.proofs.Common.{is_some, String, string_bytes, bytes_eq, refl, sym, ap, ◌∙◌, arith, slice_get, IfSome}
use Rattle.std.specs.Map.{lookup, keys_of}
use Rattle.std.proofs.lemmas.List.Quantifiers.{position-Some}
use Rattle.safl_word.proofs.Lists.{bytes_flip}
use Rattle.safl_net.specs.Netlist.{Netlist, Signal, place, output_place}
use Rattle.safl_net.specs.Stored.{signals_of, outputs_of, number_of}
use Rattle.safl_net.proofs.Tables.{signal_found}

first_place : (es : List (String Global × Row)) (x : List ℕ) (j i : ℕ) → i < length es
    → ((d : String Global) → bytes_eq x (string_bytes (get_or (keys_of es) i d)) ≡ true)
    → ((d : String Global) (k : ℕ) → k < i → bytes_eq x (string_bytes (get_or (keys_of es) k d)) ≡ false)
    → place (signals_of es) x j ≡ Some (i + j)
unfolding place
first_place [] x j i h t f = absurd (omega arith)
first_place (e ∷ es) x j zero h t f =
    ap (λ b. cond b (Some j) (place (signals_of es) x (suc j))) (bytes_flip (string_bytes e.0) x ∙ t e.0) ∙ ap Some (omega arith)
first_place (e ∷ es) x j (suc i) h t f =
    ap (λ b. cond b (Some j) (place (signals_of es) x (suc j))) (bytes_flip (string_bytes e.0) x ∙ f e.0 0 (omega arith))
    ∙ first_place es x (suc j) i (omega (arith, h)) t (λ d k l. f d (suc k) (omega (arith, l)))
    ∙ ap Some (omega arith)

no_place : (gs : List Signal) (x : List ℕ) (j : ℕ) → named_signal gs x ≡ false → place gs x j ≡ None
unfolding place
no_place [] x j e = refl
no_place (g ∷ gs) x j e = by (bytes_eq x g.name) refl e (λ r. no_place gs x (suc j) r)
  where
    by : (b : Bool) → bytes_eq x g.name ≡ b → (b || named_signal gs x) ≡ false → (named_signal gs x ≡ false → place gs x (suc j) ≡ None) → cond (bytes_eq g.name x) (Some j) (place gs x (suc j)) ≡ None
    by true q r k = absurd (cc)
    by false q r k = ap (λ b. cond b (Some j) (place gs x (suc j))) (bytes_flip g.name x ∙ q) ∙ k r

output_shown : (os : List (String Global × Sig)) (x : List ℕ) → number_of (lookup (λ k. bytes_eq x (string_bytes k)) os) ≡ output_place (outputs_of os) x
output_shown [] x = refl
output_shown (o ∷ os) x = by (bytes_eq x (string_bytes o.0)) refl (output_shown os x)
  where
    by : (b : Bool) → bytes_eq x (string_bytes o.0) ≡ b → number_of (lookup (λ k. bytes_eq x (string_bytes k)) os) ≡ output_place (outputs_of os) x
        → number_of (cond b (Some o.1) (lookup (λ k. bytes_eq x (string_bytes k)) os)) ≡ cond (bytes_eq (string_bytes o.0) x) (Some o.1.0) (output_place (outputs_of os) x)
    by true q r = ap (λ b. cond b (Some o.1.0) (output_place (outputs_of os) x)) (sym (bytes_flip (string_bytes o.0) x ∙ q))
    by false q r = r ∙ ap (λ b. cond b (Some o.1.0) (output_place (outputs_of os) x)) (sym (bytes_flip (string_bytes o.0) x ∙ q))

-- the place of a key among the names
pub placed : (es : List (String Global × Row)) (x : List ℕ) (i : ℕ) → i < length es
    → position (λ k. bytes_eq x (string_bytes k)) (keys_of es) ≡ Some i → Some i ≡ place (signals_of es) x 0
placed es x i h e =
    sym (first_place es x 0 i h
    (λ d. (position-Some (λ k. bytes_eq x (string_bytes k)) (keys_of es) i d e).1)
    (λ d. (position-Some (λ k. bytes_eq x (string_bytes k)) (keys_of es) i d e).2)
    ∙ ap Some (omega arith))

pub not_placed : (es : List (String Global × Row)) (x : List ℕ) → is_some (lookup (λ k. bytes_eq x (string_bytes k)) es) ≡ false → None ≡ place (signals_of es) x 0
not_placed es x e = sym (no_place (signals_of es) x 0 (sym (signal_found es x) ∙ e))

pub shown : (os : List (String Global × Sig)) (x : List ℕ) (o : Option Sig) → o ≡ lookup (λ k. bytes_eq x (string_bytes k)) os → number_of o ≡ output_place (outputs_of os) x
shown os x o e = ap number_of e ∙ output_shown os x

-- what an output shows
pub record Shows (os : List (List ℕ × ℕ)) (s : ℕ) : Type 0 where
  pub index : ℕ
  pub output : List ℕ × ℕ
  pub at : slice_get os index ≡ Some output
  pub same : output.1 ≡ s

pub shows : (os : List (List ℕ × ℕ)) (x : List ℕ) (s : ℕ) → output_place os x ≡ Some s → Shows os s
shows [] x s e = absurd (cc)
shows (o ∷ os) x s e = by (bytes_eq o.0 x) e (λ f. shows os x s f)
  where
    by : (b : Bool) → cond b (Some o.1) (output_place os x) ≡ Some s → (output_place os x ≡ Some s → Shows os s) → Shows (o ∷ os) s
    by true f k = record { index = 0; output = o; at = refl; same = cc }
    by false f k = let q = k f in record { index = suc q.index; output = q.output; at = q.at; same = q.same }

pub shown_known : (n : Netlist) (x : List ℕ) (r : Option Sig) → IsNetlist n → number_of r ≡ output_place n.outputs x → IfSome r (λ s. s.0 < length n.signals)
shown_known n x None w e = tt
shown_known n x (Some s) w e =
    let q = shows n.outputs x s.0 (sym e) in
    let f = (w.outputs q.index q.output q.at).1 in
    let g = q.same in
    omega (arith, f, g)
