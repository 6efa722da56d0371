use Rattle.safl_parse.proofs.Common.{comes, length, read_many, shown_parameters, terminals, ◌≡◌}
use Rattle.safl_tree.specs.Reader.{comma, read_another_param, read_params}
use Rattle.safl_parse.proofs.parser.Parser.params.Given as goal

abbrev pub invariant-list : goal.invariant-list
invariant-list l = read_many (comes comma) read_another_param (shown_parameters l.params.items) (terminals l.self.text.now l.rest) ≡ read_params (terminals l.self.text.now l.fn.tokens)

abbrev pub decreases-list : goal.decreases-list
decreases-list l = length (terminals l.self.text.now l.rest)
