use Rattle.std.proofs.Common.{◌≡◌, ◌+◌, ◌≤◌, take, not, ◌==◌}
use Rattle.std.specs.List.{suffix_len}
use Rattle.safl_tool.proofs.refusal.column_number.Given as goal

abbrev pub invariant-loop-c : goal.invariant-loop-c
invariant-loop-c l =
    record {
      bound : l.column ≤ l.c-index + 1;
      is : l.column ≡ suffix_len (λ x. not (x == 10)) (take l.c-index (take l.place l.source)) + 1;
    }
