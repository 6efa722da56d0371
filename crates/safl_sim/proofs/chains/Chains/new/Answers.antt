use Rattle.std.proofs.Common.{◌≡◌, ◌+◌, ◌∷◌, ◌++◌, [], ℕ, List, Some, length, slice_get, slice_index, sym, ap, subst, ◌∙◌, arith}
use Rattle.safl_sim.specs.Chains.{lists_of, AreChains}
use Rattle.safl_sim.specs.declared.chains.Link.{Link}
use Rattle.safl_sim.proofs.Chaining.{lists_none, lists_long, no_chains, zeros_push}
use Rattle.safl_sim.proofs.chains.Chains.new.Goals as goal

pub places-preserved : goal.places-preserved
places-preserved c = record {
  long = (let a = ap length c.in_ok-push.ensures.items in let b = c.places.invariant.long in let d = zeros_long c.places.heads.items in omega (arith, a, b, d));
  none = λ p. ap (λ l. slice_index l p) c.in_ok-push.ensures.items ∙ zeros_push c.places.heads.items c.places.invariant.none p;
}
  where
    zeros_long : (xs : List ℕ) → length (xs ++ 0 ∷ []) ≡ length xs + 1
    zeros_long [] = omega arith
    zeros_long (x ∷ xs) = let e = zeros_long xs in omega (arith, e)

pub invariant_of-result : goal.invariant_of-result
invariant_of-result c = subst (λ (l : List Link). AreChains c.places.heads.items l) (sym c.new.ensures.items) (no_chains c.places.heads.items c.places.invariant.none)

pub returns-clause-long : goal.returns-clause-long
returns-clause-long c =
    let a = lists_long c.places.heads.items c.new.result.items in
    let b = c.places.invariant.long in
    let d = c.places-test.false in
    let e = c.places.auto._p-end in
    omega (arith, a, b, d, e)

pub returns-clause-none : goal.returns-clause-none
returns-clause-none c = λ p v e.
    lists_none c.places.heads.items c.places.invariant.none p v (subst (λ (l : List Link). slice_get (lists_of c.places.heads.items l) p ≡ Some v) c.new.ensures.items e)
