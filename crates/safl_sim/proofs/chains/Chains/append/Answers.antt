use Rattle.std.proofs.Common.{◌-◌, ◌∷◌, ◌++◌, [], ◌<◌, ℕ, List, length, slice_get, refl, sym, ap, ◌∙◌, append_assoc, arith}
use Rattle.std.proofs.lemmas.List.{append-nil, get_or_read}
use Rattle.safl_word.proofs.Lists.{get_read}
use Rattle.safl_sim.specs.Chains.{chain, numbers_of, nexts_of}
use Rattle.safl_sim.proofs.Chaining.{lists_long, list_at, next_at, some_before, chain_link}
use Rattle.safl_sim.proofs.chains.Chains.append.Goals as goal

pub index-at-requires : goal.index-at-requires
index-at-requires c =
    let n = c.self.inside in
    let a = c.requires in
    let b = ap length c.self.view_is in
    let d = lists_long n.heads.items n.links.items in
    let ok = n.heads.ok.0 in
    omega (arith, a, b, d, ok)

pub links-init : goal.links-init
links-init c =
    let n = c.self.inside in
    let known : c.args.place < length n.heads.items = (let a = c.requires in let b = ap length c.self.view_is in let d = lists_long n.heads.items n.links.items in omega (arith, a, b, d)) in
    let head = get_or_read n.heads.items c.args.place _ known c.index-at.ensures 0 in
    record {
      known = (let a = c.self.invariant.known c.args.place in omega (arith, a, head));
      rest = refl;
    }

pub index-link-requires : goal.index-link-requires
index-link-requires c =
    let a = some_before c.links.at c.links-test.true in
    let b = c.links.invariant.known in
    let ok = c.self.inside.links.ok.0 in
    omega (arith, a, b, ok)

pub links-smaller : goal.links-smaller
links-smaller c =
    let links = c.self.inside.links.items in
    let some = some_before c.links.at c.links-test.true in
    let inside : c.links.at - 1 < length links = (let b = c.links.invariant.known in omega (arith, some, b)) in
    let at = get_read links (c.links.at - 1) c.index-link.result.now inside c.index-link.ensures in
    let a = next_at links (c.links.at - 1) c.index-link.result.now at in
    let b = c.self.invariant.earlier (c.links.at - 1) in
    omega (arith, a, b, some)

pub links-preserved : goal.links-preserved
links-preserved c =
    let links = c.self.inside.links.items in
    let ns = numbers_of links in
    let xs = nexts_of links in
    let link = c.index-link.result.now in
    let some = some_before c.links.at c.links-test.true in
    let inside : c.links.at - 1 < length links = (let b = c.links.invariant.known in omega (arith, some, b)) in
    let at = get_read links (c.links.at - 1) link inside c.index-link.ensures in
    record {
      known = (let a = next_at links (c.links.at - 1) link at in let b = c.self.invariant.earlier (c.links.at - 1) in omega (arith, a, b, inside));
      rest =
          ap (λ (l : List ℕ). l ++ chain ns xs link.next) c.in_ok-push.ensures.items
          ∙ append_assoc c.links.out.items (link.number ∷ []) (chain ns xs link.next)
          ∙ ap (λ (l : List ℕ). c.links.out.items ++ l) (sym (chain_link links c.links.at link c.self.invariant.earlier some at))
          ∙ c.links.invariant.rest;
    }

pub returns : goal.returns
returns c = λ v e.
    let n = c.self.inside in
    let ns = numbers_of n.links.items in
    let xs = nexts_of n.links.items in
    let known : c.args.place < length n.heads.items = (let a = c.requires in let b = ap length c.self.view_is in let d = lists_long n.heads.items n.links.items in omega (arith, a, b, d)) in
    let head = get_or_read n.heads.items c.args.place _ known c.index-at.ensures 0 in
    let own = list_at n.heads.items n.links.items c.args.place v (ap (λ (l : List (List ℕ)). slice_get l c.args.place) c.self.view_is ∙ e) in
    sym (append-nil c.links.out.items)
    ∙ ap (λ (k : ℕ). c.links.out.items ++ chain ns xs k) (sym c.links-test.false)
    ∙ c.links.invariant.rest
    ∙ ap (λ (l : List ℕ). c.args.out.now.items ++ l) (ap (chain ns xs) head ∙ sym own)
