use Rattle.safl_aiger.proofs.Common.{drop, names_of, ◌++◌, ◌≡◌}
use Rattle.safl_aiger.specs.Texts.{joined_lines, symbols_text}
use Rattle.safl_aiger.proofs.text.push_symbols.Given as goal

abbrev pub invariant-loop-i : goal.invariant-loop-i
invariant-loop-i l = l.out.items ++ joined_lines (symbols_text l.letter l.i (drop l.i (names_of l.names))) ≡ l.initial.out.items ++ joined_lines (symbols_text l.letter 0 (names_of l.names))
