use Rattle.safl_tree.proofs.PrintedPrograms.{printed_spells}
use Rattle.safl_reshape.proofs.LevelsUnplaced.{spelled_keeps}
use Rattle.safl_reshape.proofs.laws.levels_law.Goals as goal

pub returns : goal.returns
returns c = λ ds formed. (λ k. printed_spells ds (record { formed = formed; kept = k }), λ s. spelled_keeps ds s)
