use Rattle.safl_parse.proofs.Common.{[], comes, length, read_many, shown_definitions, terminals, word_code, ◌∷◌, ◌≡◌}
use Rattle.safl_word.specs.declared.token.Key.TheVariants as keys
use Rattle.safl_tree.specs.Reader.{expr_at, read_another_group, read_program}
use Rattle.safl_parse.proofs.parser.Parser.groups.Given as goal

abbrev pub invariant-list : goal.invariant-list
invariant-list l = read_many (comes (word_code keys.Fun ∷ [])) (read_another_group (expr_at 100)) (shown_definitions l.defs.items)
    (terminals l.self.text.now l.rest) ≡ read_program (expr_at 100) (terminals l.self.text.now l.fn.tokens)

abbrev pub decreases-list : goal.decreases-list
decreases-list l = length (terminals l.self.text.now l.rest)
