use Rattle.safl_aiger.proofs.Common.{drop, length, named, text_lines, ◌-◌}
use Rattle.safl_aiger.proofs.Naming.{Underway}
use Rattle.safl_aiger.proofs.symbols.read_symbols.Given as goal

abbrev pub invariant-loop-place : goal.invariant-loop-place
invariant-loop-place l = Underway (text_lines (drop l.fn.at l.text)) l.before (named l.initial.names) (named l.names) (text_lines (drop l.place l.text)) l.count

abbrev pub decreases-loop-place : goal.decreases-loop-place
decreases-loop-place l = length l.text - l.place
