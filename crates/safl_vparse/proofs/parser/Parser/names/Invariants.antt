use Rattle.safl_vparse.proofs.Common.{[], length, read_many, ◌∷◌, ◌≡◌}
use Rattle.safl_verilog.specs.Reader.{comes, read_another_id, read_ids}
use Rattle.safl_vparse.specs.Shown.{shown_all, shown_spots}
use Rattle.safl_vparse.proofs.parser.Parser.names.Given as goal

abbrev pub invariant-list : goal.invariant-list
invariant-list l = read_many (comes (22 ∷ [])) read_another_id (shown_spots l.self.text.now l.names.items) (shown_all l.self.text.now l.rest) ≡ read_ids (shown_all l.self.text.now l.fn.tokens)

abbrev pub decreases-list : goal.decreases-list
decreases-list l = length (shown_all l.self.text.now l.rest)
