-- What `check`, runs and walks print. Each line ends with its line feed.
use Rattle.std.specs.Prelude.{ℕ, ◌+◌, List, ◌++◌, Option, Some, None, codes}
use Rattle.std.specs.Fmt.{decimal}
use Rattle.safl_sim.specs.declared.done.Done.{Done}
use Rattle.safl_session.specs.Transcripts.{late_line}

-- what `check` prints: the numbers of the program's functions and call sites
abbrev pub program_lines : ℕ → ℕ → List ℕ
program_lines functions sites = codes "functions " ++ decimal functions ++ codes "\nsites " ++ decimal sites ++ codes "\n"

-- what a run prints if it has a result: the result, and the cycle in which it came
abbrev pub done_lines : ℕ → ℕ → List ℕ
done_lines result cycle = codes "result " ++ decimal result ++ codes "\ncycle " ++ decimal cycle ++ codes "\n"

-- what a run prints: its result, or that no result came within this many cycles
abbrev pub outcome_lines : ℕ → Option Done → List ℕ
outcome_lines limit (Some d) = done_lines d.result.bits d.cycle
outcome_lines limit None = late_line limit

-- ---- lines that stand in a definition, by name

-- what a walk prints: main's result, the number of events and the greatest number of busy units; or that no result came within
-- this many events
abbrev pub walk_lines : ℕ → ℕ → ℕ → List ℕ
walk_lines result events units = codes "result " ++ decimal result ++ codes "\nevents " ++ decimal events ++ codes "\nunits " ++ decimal units ++ codes "\n"

abbrev pub short_line : ℕ → List ℕ
short_line steps = codes "no result in " ++ decimal steps ++ codes " events\n"
