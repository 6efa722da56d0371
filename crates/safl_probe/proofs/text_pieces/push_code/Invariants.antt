use Rattle.std.proofs.Common.{◌≡◌, ◌++◌}
use Rattle.safl_probe.specs.Texts.{code}
use Rattle.safl_probe.proofs.text_pieces.push_code.Given as goal

abbrev pub invariant-digits : goal.invariant-digits
invariant-digits l = l.out.items ++ code l.rest ≡ l.fn.out.items ++ code l.fn.i

abbrev pub decreases-digits : goal.decreases-digits
decreases-digits l = l.rest
