use Rattle.safl_sites.proofs.Common.{Keeping, Term, arity, get_or, length, no_set, shown_term, subst, sym, ℕ, ◌∙◌, ◌≡◌}
use Rattle.safl_sites.specs.Keeping.{MayKeep, Walks}
use Rattle.safl_sites.proofs.KeptByBodies.{body_may_keep, body_kept}
use Rattle.safl_sites.proofs.kept.keep_body.Goals as goal

pub walk-requires : goal.walk-requires
walk-requires c =
    let C = c.args.c.now.program in
    let U = c.args.units.now in
    let P = c.args.peers.now in
    let g = c.args.g in
    let count : length c.in_ok-slots.slots.items ≡ arity C g = c.in_ok-slots.ensures.count ∙ c.params.ensures.count in
    let may = body_may_keep c.args.c.now c.body.ensures.checked g U P c.requires.within c.requires.units c.requires.peers in
    subst (λ (n : ℕ). MayKeep C U P n (shown_term c.body.result.now)) (sym count) (subst (λ (x : Term). MayKeep C U P (arity C g) x) (sym c.body.ensures.term) may)

pub returns : goal.returns
returns c = λ k.
    let p = c.args.c.now in
    let C = p.program in
    let g = c.args.g in
    let S = c.in_ok-slots.slots.items in
    let count : length S ≡ arity C g = c.in_ok-slots.ensures.count ∙ c.params.ensures.count in
    let a : Keeping = record { decides = c.new.result; held = c.new-2.result } in
    let w : Walks C S c.new-feeds.result c.walk.new.feeds a c.walk.new.keeps (C.body g) = subst
    (λ (x : Term). Walks C S c.new-feeds.result c.walk.new.feeds a c.walk.new.keeps x) c.body.ensures.term c.in_ok-walk.ensures.done in
    let table = λ (j : ℕ). c.requires.bodies.sets g j c.requires.within in
    body_kept p c.body.ensures.checked g S c.args.peers.now (get_or c.args.bodies.now g no_set) c.new.result c.new.result c.new-feeds.result
    c.walk.new.feeds a c.walk.new.keeps c.requires.within c.requires.peers count c.in_ok-slots.ensures.empty c.new.ensures c.new-2.ensures w table
    k (c.keep_own.ensures k)
