use Rattle.std.proofs.Common.{◌≡◌, take, true}
use Rattle.std.specs.List.{list_all}
use Rattle.safl_net.specs.Names.{is_part}
use Rattle.safl_vparse.proofs.front.part_length.Given as goal

abbrev pub invariant-loop-i : goal.invariant-loop-i
invariant-loop-i l = list_all is_part (take l.i l.text) ≡ true
