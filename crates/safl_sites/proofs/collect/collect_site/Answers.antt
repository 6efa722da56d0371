use Rattle.safl_sites.proofs.Common.{Adds, Has, IsCollected, IsCommon, Meets, no_set, unit_for}
use Rattle.std.proofs.Common.{◌≡◌, ℕ, ◌-◌, true, get_or, slice_set, arith, sym, subst}
use Rattle.std.proofs.lemmas.Bool.{both_ways}
use Rattle.safl_sites.proofs.ConflictsByOne.{collected_more, collected_none}
use Rattle.safl_sites.proofs.PeersByOne.{unit_within}
use Rattle.safl_sites.proofs.collect.collect_site.Goals as goal

pub returns-then-meets : goal.returns-then-meets
returns-then-meets c =
    let C = c.args.c.now.program in
    let k = c.args.k in
    let B = c.args.before.now in
    let P = c.args.peers.now in
    let set = get_or B k no_set in
    let to : c.unit_for-unit.result ≡ unit_for C k = c.unit_for-unit.ensures.number in
    let low = unit_within c.args.c.now c.requires.checked k c.requires.least c.requires.most in
    let meets : Meets set (get_or P (unit_for C k) no_set) k = subst (λ (u : ℕ). Meets set (get_or P u no_set) k) to (c.meets.ensures.0 c.if-meets.true) in
    let common : (j : ℕ) → Adds (Has c.insert.new.self j) (Has c.add_common.new.self j) (IsCommon set (get_or P (unit_for C k) no_set) k j) =
    λ j. subst (λ (u : ℕ). Adds (Has c.insert.new.self j) (Has c.add_common.new.self j) (IsCommon set (get_or P u no_set) k j)) to (c.add_common.ensures j) in
    subst (λ (u : ℕ). IsCollected C k (slice_set c.args.arbiters.now u true) c.add_common.new.self) (sym to)
    (collected_more C (k - 1) k B P (omega (arith, c.requires.least)) c.requires.most c.requires.conflicts c.requires.peers c.args.arbiters.now
    c.args.kept.now c.insert.new.self c.add_common.new.self low c.requires.collected meets c.insert.ensures common)

pub returns-else-meets : goal.returns-else-meets
returns-else-meets c =
    let C = c.args.c.now.program in
    let k = c.args.k in
    let B = c.args.before.now in
    let P = c.args.peers.now in
    let to : c.unit_for-unit.result ≡ unit_for C k = c.unit_for-unit.ensures.number in
    let none : Meets (get_or B k no_set) (get_or P (unit_for C k) no_set) k → ⊥ =
    λ h. both_ways c.meets.result c.if-meets.false (c.meets.ensures.1 (subst (λ (u : ℕ). Meets (get_or B k no_set) (get_or P u no_set) k) (sym to) h)) in
    collected_none C (k - 1) k B P (omega (arith, c.requires.least)) c.requires.most c.requires.conflicts c.requires.peers c.args.arbiters.now c.args.kept.now c.requires.collected none
