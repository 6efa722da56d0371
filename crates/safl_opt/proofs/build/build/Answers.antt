use Rattle.std.proofs.Common.{length, refl, sym, subst, ◌∙◌}
use Rattle.safl_opt.specs.Stages.{Placed, HaveNumbers, SetBelow, Shown}
use Rattle.safl_opt.proofs.Showing.{all_named, builds}
use Rattle.safl_opt.proofs.build.build.Goals as goal

pub declare_kept-requires-clause-folds : goal.declare_kept-requires-clause-folds
declare_kept-requires-clause-folds c = (c.requires.folds.0, c.requires.folds.2)

pub set_kept-requires-clause-placed : goal.set_kept-requires-clause-placed
set_kept-requires-clause-placed c = subst (λ l. Placed c.args.old.now c.args.values.now c.args.read.now (length c.args.values.now.nodes) l
    c.make_nodes.new.net) (sym c.as_slice.ensures.value) c.in_ok-made.ensures

pub show_outputs-requires-clause-numbers : goal.show_outputs-requires-clause-numbers
show_outputs-requires-clause-numbers c = subst (λ l. HaveNumbers c.args.old.now c.args.values.now l c.set_kept.new.net)
    (c.as_slice.ensures.value ∙ sym c.as_slice-2.ensures.value) c.set_kept.ensures.numbers

pub show_outputs-requires-clause-named : goal.show_outputs-requires-clause-named
show_outputs-requires-clause-named c =
    all_named c.args.old.now c.requires.folds.0 c.args.values.now c.requires.folds.2 c.args.read.now c.in_ok-made.made.items c.make_nodes.new.net
    c.set_kept.new.net c.set_kept.new.net c.in_ok-made.ensures
    (subst (λ l. SetBelow c.args.old.now c.args.values.now l c.make_nodes.new.net c.args.values.now.kept c.set_kept.new.net) c.as_slice.ensures.value c.set_kept.ensures.below)

pub show_outputs-requires-clause-empty : goal.show_outputs-requires-clause-empty
show_outputs-requires-clause-empty c = c.set_kept.ensures.below.outputs ∙ c.in_ok-made.ensures.outputs

pub show_outputs-requires-clause-new_tidy : goal.show_outputs-requires-clause-new_tidy
show_outputs-requires-clause-new_tidy c = c.set_kept.ensures.below.tidy

pub returns-clause-built : goal.returns-clause-built
returns-clause-built c = (
  c.in_ok-made.made.items,
  builds c.args.old.now c.requires.folds.0 c.args.values.now c.requires.folds.2 c.args.read.now c.in_ok-made.made.items c.make_nodes.new.net
      c.set_kept.new.net c.show_outputs.new.net c.in_ok-made.ensures
      (subst (λ l. SetBelow c.args.old.now c.args.values.now l c.make_nodes.new.net c.args.values.now.kept c.set_kept.new.net) c.as_slice.ensures.value c.set_kept.ensures.below)
      (length c.args.old.now.outputs) refl
      (subst (λ l. Shown c.args.old.now c.args.values.now l c.set_kept.new.net (length c.args.old.now.outputs) c.show_outputs.new.net) c.as_slice-2.ensures.value c.in_ok-show_outputs.ensures),
)

pub returns-clause-tidy : goal.returns-clause-tidy
returns-clause-tidy c = c.in_ok-show_outputs.ensures.tidy
