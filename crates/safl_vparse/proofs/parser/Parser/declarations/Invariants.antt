use Rattle.safl_vparse.proofs.Common.{length, read_many, sort_codes, ◌≡◌}
use Rattle.safl_verilog.specs.Reader.{comes, read_another_decl, read_decls}
use Rattle.safl_vparse.specs.Shown.{shown_all, shown_declarations}
use Rattle.safl_vparse.proofs.parser.Parser.declarations.Given as goal

abbrev pub invariant-list : goal.invariant-list
invariant-list l = read_many (comes sort_codes) read_another_decl (shown_declarations l.self.text.now l.declarations.items)
    (shown_all l.self.text.now l.rest) ≡ read_decls (shown_all l.self.text.now l.fn.tokens)

abbrev pub decreases-list : goal.decreases-list
decreases-list l = length (shown_all l.self.text.now l.rest)
