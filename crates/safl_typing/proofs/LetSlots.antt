-- A let's own slots are as many as its bound terms.
use Rattle.safl_typing.proofs.Common.{Bindings, Known, Slot, a_binding, length-append, no_binding, shown_terms, sites, slots}
use Rattle.std.proofs.Common.{◌≡◌, ℕ, suc, ◌+◌, ◌++◌, List, [], length, false, refl, ap, subst, ◌∙◌, arith}
use Rattle.std.specs.Prelude.{Ok}
use Rattle.safl_term.specs.declared.term.Term.{Term}
use Rattle.safl_term.specs.Slots.{count}
use Rattle.safl_term.specs.Terms.{Nil}
use Rattle.safl_term.proofs.SlotsOfLets.{count_forest}
use Rattle.safl_typing.specs.Walk.{TypedAll, after, wanted_by, check, check_bound}
use Rattle.safl_typing.proofs.Sound.{after_ok, ok_is}
use Rattle.safl_typing.proofs.WalkByForms.{joined}

counted : (k : Known) (s : List Slot) (lo : ℕ) (bs : Bindings) (r : TypedAll) → check_bound k s lo bs ≡ Ok r → length (slots bs r.widths) ≡ count r.terms
counted k s lo no_binding r e = subst (λ (z : TypedAll). length (slots no_binding z.widths) ≡ count z.terms) (ok_is (record { widths = []; terms = Nil }) r e) refl
counted k s lo (a_binding p x v y bs) r e =
    let q = after_ok (check k s false lo (wanted_by v) y) (λ a. after (check_bound k s (lo + sites k y) bs) (λ b. Ok (joined a b))) r e in
    let u = after_ok (check_bound k s (lo + sites k y) bs) (λ b. Ok (joined q.0 b)) r q.2 in
    subst (λ (z : TypedAll). length (slots (a_binding p x v y bs) z.widths) ≡ count z.terms) (ok_is (joined q.0 u.0) r u.2) (ap suc (counted k s (lo + sites k y) bs u.0 u.1))

-- the body sees as many slots more
pub body_sees : (k : Known) (s own : List Slot) (lo : ℕ) (bs : Bindings) (r : TypedAll) (ts : List Term) → check_bound k s lo bs ≡ Ok r → own ≡ slots
    bs r.widths → r.terms ≡ shown_terms ts → length (s ++ own) ≡ length s + length ts
body_sees k s own lo bs r ts e o t =
    let n : length own ≡ length ts = ap (λ (l : List Slot). length l) o ∙ counted k s lo bs r e ∙ ap count t ∙ count_forest ts in
    omega (arith, length-append s own, n)
