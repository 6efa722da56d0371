-- The limits of a body: where they are kept, the walk finds none passed, and the other way round.
use Rattle.safl_typing.proofs.Common.{Fault, names, or_else}
use Rattle.std.proofs.Common.{◌≡◌, ℕ, suc, ◌≤◌, List, length, map, Option, Some, None, refl, sym, ap, ◌∙◌, subst, ⊎_elim}
use Rattle.std.proofs.lemmas.Option.{slice_get_past, slice_get_cases}
use Rattle.safl_typing.specs.Rewriting.{Expression, Number, Sized, Variable, If, Let, Op, Call, Expressions, no_expression, an_expression, Bindings, no_binding, a_binding}
use Rattle.safl_typing.specs.Rewriting.{excess, long_let, long_let_in, long_let_bound, placed}
use Rattle.safl_word.specs.Limits.{bindings_max}
use Rattle.safl_typing.specs.Forms.{HasShortLets, HaveShortLets, HaveShortBound}
use Rattle.std.specs.Option.{option_or as or_place}
use Rattle.safl_typing.specs.Walk.{limit}
use Rattle.safl_typing.proofs.Names.{some_none}

pub none_both : (a b : Option Fault) → or_else a b ≡ None → (a ≡ None) × (b ≡ None)
none_both (Some f) b e = some_none f e
none_both None b e = (refl, e)

place_none : (a b : Option ℕ) → a ≡ None → b ≡ None → or_place a b ≡ None
place_none a b p q = rw p q

none_places : (a b : Option ℕ) → or_place a b ≡ None → (a ≡ None) × (b ≡ None)
none_places (Some p) b e = some_none p e
none_places None b e = (refl, e)

pub limit_none : (n v : ℕ) (o : Option ℕ) → o ≡ None → limit n v o ≡ None
limit_none n v o e = rw e refl

pub none_limit : (n v : ℕ) (o : Option ℕ) → limit n v o ≡ None → o ≡ None
none_limit n v None e = refl
none_limit n v (Some p) e = some_none _ e

pub excess_none : (n : ℕ) (xs : List ℕ) → length xs ≤ n → excess n xs ≡ None
excess_none n xs h = slice_get_past xs n h

pub none_excess : (n : ℕ) (xs : List ℕ) → excess n xs ≡ None → length xs ≤ n
none_excess n xs e = ⊎_elim (λ q. some_none q.0 (sym q.2 ∙ e)) (λ q. q.0) (slice_get_cases xs n).1

places_length : (bs : Bindings) → length (map (λ x. x.place) (placed bs)) ≡ length (names bs)
places_length no_binding = refl
places_length (a_binding p x w e bs) = ap (λ n. suc n) (places_length bs)

mutual
  pub short_lets : (e : Expression) → HasShortLets e → long_let e ≡ None
  short_lets (Number p n) h = refl
  short_lets (Sized p w n) h = refl
  short_lets (Variable p x) h = refl
  short_lets (If p c a b) h = place_none _ _ (short_lets c h.0) (place_none _ _ (short_lets a h.1) (short_lets b h.2))
  short_lets (Let p bs b) h =
      place_none _ _ (excess_none bindings_max (map (λ x. x.place) (placed bs)) (subst (λ (n : ℕ). n ≤ bindings_max) (sym (places_length bs)) h.0))
      (place_none _ _ (short_lets_bound bs h.1) (short_lets b h.2))
  short_lets (Op p o es) h = short_lets_in es h
  short_lets (Call p f es) h = short_lets_in es h

  short_lets_in : (es : Expressions) → HaveShortLets es → long_let_in es ≡ None
  short_lets_in no_expression h = refl
  short_lets_in (an_expression e es) h = place_none _ _ (short_lets e h.0) (short_lets_in es h.1)

  short_lets_bound : (bs : Bindings) → HaveShortBound bs → long_let_bound bs ≡ None
  short_lets_bound no_binding h = refl
  short_lets_bound (a_binding p x w e bs) h = place_none _ _ (short_lets e h.0) (short_lets_bound bs h.1)

mutual
  pub no_long_let : (e : Expression) → long_let e ≡ None → HasShortLets e
  no_long_let (Number p n) h = tt
  no_long_let (Sized p w n) h = tt
  no_long_let (Variable p x) h = tt
  no_long_let (If p c a b) h =
      let q = none_places (long_let c) _ h in
      let r = none_places (long_let a) _ q.1 in
      (no_long_let c q.0, no_long_let a r.0, no_long_let b r.1)
  no_long_let (Let p bs b) h =
      let q = none_places (excess bindings_max (map (λ x. x.place) (placed bs))) _ h in
      let r = none_places (long_let_bound bs) _ q.1 in
      (subst (λ (n : ℕ). n ≤ bindings_max) (places_length bs) (none_excess bindings_max _ q.0), no_long_bound bs r.0, no_long_let b r.1)
  no_long_let (Op p o es) h = no_long_in es h
  no_long_let (Call p f es) h = no_long_in es h

  no_long_in : (es : Expressions) → long_let_in es ≡ None → HaveShortLets es
  no_long_in no_expression h = tt
  no_long_in (an_expression e es) h = let q = none_places (long_let e) _ h in (no_long_let e q.0, no_long_in es q.1)

  no_long_bound : (bs : Bindings) → long_let_bound bs ≡ None → HaveShortBound bs
  no_long_bound no_binding h = tt
  no_long_bound (a_binding p x w e bs) h = let q = none_places (long_let e) _ h in (no_long_let e q.0, no_long_bound bs q.1)
