use Rattle.safl_vparse.proofs.Common.{[], length, read_many, ◌∷◌, ◌≡◌}
use Rattle.safl_verilog.specs.Reader.{comes, read_another_stmt, read_stmts}
use Rattle.safl_vparse.specs.Shown.{shown_all, shown_statements}
use Rattle.safl_vparse.proofs.parser.Parser.statements.Given as goal

abbrev pub invariant-list : goal.invariant-list
invariant-list l = read_many (comes (10 ∷ 11 ∷ [])) read_another_stmt (shown_statements l.self.text.now l.statements.items)
    (shown_all l.self.text.now l.rest) ≡ read_stmts (shown_all l.self.text.now l.fn.tokens)

abbrev pub decreases-list : goal.decreases-list
decreases-list l = length (shown_all l.self.text.now l.rest)
