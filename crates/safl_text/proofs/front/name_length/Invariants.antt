use Rattle.std.proofs.Common.{◌≡◌, take, true}
use Rattle.std.specs.List.{list_all}
use Rattle.safl_word.specs.Tokens.{in_name}
use Rattle.safl_text.proofs.front.name_length.Given as goal

abbrev pub invariant-loop-i : goal.invariant-loop-i
invariant-loop-i l = list_all in_name (take l.i l.text) ≡ true
