-- The stages that the code keeps, as stages of the definitions.
use Rattle.std.specs.Prelude.{ℕ, List, Option, get_or}
use Rattle.safl_calls.specs.Machine as machine
use Rattle.safl_word.specs.Words.{Word}
use Rattle.safl_term.specs.Readiness as plain
use Rattle.safl_evaluate.specs.declared.stage.Stage.{Stage}
use Rattle.safl_evaluate.specs.declared.stage.Stage.TheVariants.{Unsent, Sent, Returned}

abbrev pub stage_of : Stage → plain.Stage
stage_of Unsent = plain.Unsent
stage_of Sent = plain.Sent
stage_of (Returned v) = plain.Returned v

-- the stage of a site. A site that does not exist is unsent
abbrev pub stage_at : List Stage → ℕ → plain.Stage
stage_at sites k = stage_of (get_or sites k Unsent)

-- the words that the sites have got back
abbrev pub back_at : List Stage → ℕ → Option Word
back_at sites = machine.back (record { unit = λ u. machine.Idle; site = stage_at sites })
