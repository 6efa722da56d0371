-- Nothing is given at a status with which a command refuses what it reads.
use Rattle.safl_tool.proofs.Common.{Status, copies, made_args, made_source, may_give, unfolds}
use Rattle.std.proofs.Common.{◌≡◌, ℕ, List, [], ◌∷◌, false}
use Rattle.std.specs.Prelude.{codes}
use Rattle.safl_command.specs.Commands.{Command, Check, Build, Sim, Walk, Run, Optimise, Report, Gen, Bench, CopySite, UnfoldSite, Session, Aig, Aigstat}
use Rattle.safl_tool.specs.CommandTasks.{command_task, RefusesSourceOf, RefusesGiven, RefusesText, RefusesReshaping, RefusesSession}
use Rattle.safl_tool.specs.BitLevel.{RefusesAig, RefusesBitsOf}
use Rattle.safl_tool.proofs.Reshaped.{reshaping_quiet}
use Rattle.safl_task.specs.Tasks.{Only, Both}
use Rattle.safl_tool.proofs.Simulated.{source_quiet, given_quiet}
use Rattle.safl_tool.proofs.Ran.{text_quiet}
use Rattle.safl_tool.proofs.Bits.{bits_quiet, aig_quiet}
use Rattle.safl_tool.proofs.Conversed.{session_quiet}

only : (R : List ℕ → Status → List ℕ → Type 0) → ((content : List ℕ) (s : Status) (line : List ℕ) → R content s line → may_give s ≡ false)
    → (contents : List (List ℕ)) (s : Status) (line : List ℕ) → Only (λ content. R content s line) contents → may_give s ≡ false
only R quiet [] s line h = absurd h
only R quiet (c ∷ []) s line h = quiet c s line h
only R quiet (c ∷ (d ∷ cs)) s line h = absurd h

both : (R : List ℕ → List ℕ → Status → List ℕ → Type 0) → ((first second : List ℕ) (s : Status) (line : List ℕ) → R first second s line → may_give s ≡ false)
    → (contents : List (List ℕ)) (s : Status) (line : List ℕ) → Both (λ first second. R first second s line) contents → may_give s ≡ false
both R quiet [] s line h = absurd h
both R quiet (c ∷ []) s line h = absurd h
both R quiet (c ∷ (d ∷ [])) s line h = quiet c d s line h
both R quiet (c ∷ (d ∷ (e ∷ cs))) s line h = absurd h

pub quiet : (m : Command) (contents : List (List ℕ)) (s : Status) (line : List ℕ) → (command_task m).Refuses contents s line → may_give s ≡ false
quiet (Check input) contents s line h = only (RefusesSourceOf input) (source_quiet input) contents s line h
quiet (Build input output) contents s line h = only (RefusesSourceOf input) (source_quiet input) contents s line h
quiet (Optimise input output) contents s line h = only (RefusesSourceOf input) (source_quiet input) contents s line h
quiet (Sim input limit traces args) contents s line h = only (RefusesGiven input args) (given_quiet input args) contents s line h
quiet (Walk input seed steps args) contents s line h = only (RefusesGiven input args) (given_quiet input args) contents s line h
quiet (Run input limit args) contents s line h = only (RefusesText input args) (text_quiet input args) contents s line h
quiet (Report input) contents s line h = only (RefusesSourceOf input) (source_quiet input) contents s line h
quiet (Gen seed count) contents s line h = absurd h
quiet (Bench seed count limit) contents s line h = given_quiet (codes "bench") (made_args seed count) (made_source seed count) s line h
quiet (CopySite input output site) contents s line h = only (RefusesReshaping (copies site) input site) (reshaping_quiet (copies site) input site) contents s line h
quiet (UnfoldSite input output site) contents s line h = only (RefusesReshaping (unfolds site) input site) (reshaping_quiet (unfolds site) input site) contents s line h
quiet (Session input script limit) contents s line h = both (RefusesSession input) (session_quiet input) contents s line h
quiet (Aig input output) contents s line h = only (RefusesBitsOf input) (bits_quiet input) contents s line h
quiet (Aigstat input) contents s line h = only (RefusesAig input) (aig_quiet input) contents s line h
