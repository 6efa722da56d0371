use Rattle.safl_sites.proofs.Common.{Adds, ArePeers, Has, HasAt, SiteSet, arith, length, slice_set, subst, sym, unit_for, ℕ, ◌+◌, ◌<◌, ◌≡◌}
use Rattle.safl_sites.proofs.PeersByOne.{peers_more}
use Rattle.safl_sites.proofs.SetsByWords.{set_found}
use Rattle.safl_sites.proofs.peers.peers.Goals as goal

pub loop-done-preserved : goal.loop-done-preserved
loop-done-preserved c =
    let C = c.args.c.now.program in
    let k = c.loop-done.done + 1 in
    let peers = c.loop-done.peers.items in
    let to = c.unit_for.ensures.number in
    let low : unit_for C k < C.functions = omega (arith, c.unit_for.ensures.number, c.unit_for.ensures.within) in
    let within : c.unit_for.result < length peers = omega (arith, c.loop-done.invariant.count) in
    let is = set_found peers c.unit_for.result c.index_mut.result.now within c.index_mut.ensures.value in
    let insert : (j : ℕ) → Adds (HasAt peers (unit_for C k) j) (Has c.insert.new.self j) (j ≡ k) =
    λ j. subst (λ (u : ℕ). Adds (HasAt peers u j) (Has c.insert.new.self j) (j ≡ k)) to (subst (λ (r : SiteSet). Adds (Has r j) (Has c.insert.new.self j) (j ≡ k)) is (c.insert.ensures j)) in
    subst (λ (u : ℕ). ArePeers C k (slice_set peers u c.insert.new.self)) (sym to) (peers_more C c.loop-done.done k peers c.insert.new.self (omega arith) low c.loop-done.invariant insert)
