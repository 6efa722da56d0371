-- A program that a source spells has the form of the same program, read again.
use Rattle.std.proofs.Common.{ℕ, List, subst}
use Rattle.safl_tree.specs.Tree.{Definition}
use Rattle.safl_tree.specs.Source.{SpellsProgram}
use Rattle.safl_tree.specs.Laws.{OneProgram}
use Rattle.safl_typing.specs.Forms.{Form, IsFormOf, HasForm}

pub has_form : (text : List ℕ) (p q : List Definition) (c : Form) → OneProgram → SpellsProgram text p → SpellsProgram text q → IsFormOf q c → HasForm p
has_form text p q c one s t is = (c, subst (λ (l : List Definition). IsFormOf l c) (one text q p t s) is)
