-- A function of the parser returns what a reader gives for the tokens.
use Rattle.std.specs.Prelude.{List, Result, Vec}
use Rattle.std.specs.Global.{Global}
use Rattle.std.specs.Borrow.{Bor}
use Rattle.safl_grammar.specs.Reading.{Reading}
use Rattle.safl_word.specs.declared.token.Token.{Token}
use Rattle.safl_tree.specs.declared.tree.Def.{Def}
use Rattle.safl_tree.specs.Tree.{Tree, Bound, Definition}
use Rattle.safl_tree.specs.Terminals.{Terminal, terminals}
use Rattle.safl_tree.specs.Grammar.{ArmList}
use Rattle.safl_tree.specs.Shown.{shown_tree, shown_trees, shown_bounds, shown_labelled, shown_definitions}
use Rattle.safl_parse.specs.declared.error.ReadError.{ReadError}
use Rattle.safl_parse.specs.declared.parser.Parser.{Parser}
use Rattle.safl_parse.specs.declared.part.AllArms.{AllArms}
use Rattle.safl_parse.specs.declared.part.Bindings.{Bindings}
use Rattle.safl_parse.specs.declared.part.Part.{Part}
use Rattle.safl_parse.specs.declared.part.Parts.{Parts}
use Rattle.safl_parse.specs.Gives.{Gives}

-- the result, seen by this view, is the value that the reader gives and the rest of the tokens
abbrev pub Reads : {X Y : Type 0} → Parser → List Token → (X → Y × List Token) → Result X ReadError → Reading Terminal Y → Type 0
Reads p ts view result reading = Gives p.text.now view result (reading (terminals p.text.now ts))

-- an expression is read
abbrev pub ReadsTree : Parser → List Token → Result (Part × Bor (List Token)) ReadError → Reading Terminal Tree → Type 0
ReadsTree p ts result reading = Reads p ts (λ x. (shown_tree x.0.expr, x.1.now)) result reading

-- operands or arguments are read
abbrev pub ReadsTrees : Parser → List Token → Result (Parts × Bor (List Token)) ReadError → Reading Terminal (List Tree) → Type 0
ReadsTrees p ts result reading = Reads p ts (λ x. (shown_trees x.0.exprs.items, x.1.now)) result reading

abbrev pub ReadsBindings : Parser → List Token → Result (Bindings × Bor (List Token)) ReadError → Reading Terminal (List Bound) → Type 0
ReadsBindings p ts result reading = Reads p ts (λ x. (shown_bounds x.0.binds.items, x.1.now)) result reading

-- the arms of a case are read
abbrev pub ReadsArms : Parser → List Token → Result (AllArms × Bor (List Token)) ReadError → Reading Terminal ArmList → Type 0
ReadsArms p ts result reading =
    Reads p ts (λ x. (record { labelled = shown_labelled x.0.arms.items; default = shown_tree x.0.default }, x.1.now)) result reading

abbrev pub ReadsDefinitions : Parser → List Token → Result (Vec Def Global × Bor (List Token)) ReadError → Reading Terminal (List Definition) → Type 0
ReadsDefinitions p ts result reading = Reads p ts (λ x. (shown_definitions x.0.items, x.1.now)) result reading
