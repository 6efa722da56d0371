use Rattle.safl_parse.proofs.Common.{[], comes, length, read_many, shown_definitions, terminals, word_code, ◌∷◌, ◌≡◌}
use Rattle.safl_word.specs.declared.token.Key.TheVariants as keys
use Rattle.safl_tree.specs.Reader.{expr_at, read_another_one, read_group}
use Rattle.safl_parse.proofs.parser.Parser.group.Given as goal

abbrev pub invariant-members : goal.invariant-members
invariant-members l = read_many (comes (word_code keys.And ∷ [])) (read_another_one (expr_at 100)) (shown_definitions l.defs.items)
    (terminals l.self.text.now l.rest) ≡ read_group (expr_at 100) (shown_definitions l.fn.defs.items) (terminals l.self.text.now l.fn.tokens)

abbrev pub decreases-members : goal.decreases-members
decreases-members l = length (terminals l.self.text.now l.rest)
