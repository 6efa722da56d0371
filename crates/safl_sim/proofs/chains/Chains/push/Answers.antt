use Rattle.std.proofs.Common.{◌≡◌, ◌+◌, ◌∷◌, ◌++◌, [], ◌<◌, ℕ, List, length, set, slice_get, slice_index, sym, ap, subst, ◌∙◌, arith}
use Rattle.std.proofs.lemmas.List.{get_or_read}
use Rattle.safl_sim.specs.Chains.{lists_of, AreChains}
use Rattle.safl_sim.specs.declared.chains.Link.{Link}
use Rattle.safl_sim.proofs.Chaining.{lists_long, chains_pushed, still_chains}
use Rattle.safl_sim.proofs.chains.Chains.push.Goals as goal

pub invariant_of-self-2 : goal.invariant_of-self-2
invariant_of-self-2 c =
    let n = c.self.inside in
    let heads = n.heads.items in
    let links = n.links.items in
    let p = c.args.place in
    let number = c.args.number in
    let known : p < length heads = (let a = c.requires in let b = ap length c.self.view_is in let d = lists_long heads links in omega (arith, a, b, d)) in
    let head = get_or_read heads p _ known c.index-next.ensures 0 in
    let count : c.len-count.result ≡ length links = (let a = c.len-count.ensures in let b = n.links.ok.0 in omega (arith, a, b)) in
    let all = c.in_ok-push.ensures.items ∙ ap (λ (x : ℕ). links ++ (record { number = number; next = x }) ∷ []) head in
    subst (λ (l : List Link). AreChains (set heads p (c.len-count.result + 1)) l) (sym all)
    (subst (λ x. AreChains (set heads p (x + 1)) (links ++ (record { number = number; next = slice_index heads p }) ∷ [])) (sym count) (still_chains heads links p number c.self.invariant))

pub returns-clause-pushed : goal.returns-clause-pushed
returns-clause-pushed c = λ v e.
    let n = c.self.inside in
    let heads = n.heads.items in
    let links = n.links.items in
    let p = c.args.place in
    let number = c.args.number in
    let known : p < length heads = (let a = c.requires in let b = ap length c.self.view_is in let d = lists_long heads links in omega (arith, a, b, d)) in
    let head = get_or_read heads p _ known c.index-next.ensures 0 in
    let count : c.len-count.result ≡ length links = (let a = c.len-count.ensures in let b = n.links.ok.0 in omega (arith, a, b)) in
    let all = c.in_ok-push.ensures.items ∙ ap (λ (x : ℕ). links ++ (record { number = number; next = x }) ∷ []) head in
    ap (λ (l : List Link). lists_of (set heads p (c.len-count.result + 1)) l) all
    ∙ ap (λ x. lists_of (set heads p (x + 1)) (links ++ (record { number = number; next = slice_index heads p }) ∷ [])) count
    ∙ chains_pushed heads links p number c.self.invariant v (ap (λ (l : List (List ℕ)). slice_get l p) c.self.view_is ∙ e)
    ∙ ap (λ (l : List (List ℕ)). set l p (number ∷ v)) c.self.view_is
