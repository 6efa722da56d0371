use Rattle.std.proofs.Common.{ℕ, ◌+◌, ◌≤◌, List, slice_index, sym, subst, arith}
use Rattle.safl_sim.specs.Readers.{HasMarked}
use Rattle.safl_sim.proofs.Nearing.{group_marked}
use Rattle.safl_sim.proofs.readers.mark_group.Goals as goal

pub returns : goal.returns
returns c = λ p inside near.
    let steps = c.args.plan.now.steps.items in
    let readers = c.args.plan.now.readers.items in
    let from = slice_index c.args.plan.now.starts.items p in
    let to = slice_index c.args.plan.now.starts.items (p + 1) in
    let g = c.args.group in
    let values = c.args.values.now in
    let others = subst (λ (x : ℕ). HasMarked steps readers g.near.first x p values c.join.new.self c.mark_readers.new.marks) near.last
    (c.mark_readers.ensures p (inside, near.least, subst (λ (x : ℕ). x ≤ to) (sym near.last) (omega arith))) in
    group_marked readers from to g.word g.near near c.args.marks.now steps p values c.mark_readers.new.marks c.requires.known
    (subst (λ (l : List ℕ). HasMarked steps readers g.near.first to p values l c.mark_readers.new.marks) c.join.ensures others)
