-- The checker refuses no printable program that has a form.
use Rattle.safl_reshape.proofs.Common.{Definition, List, arith, sym, ◌∙◌}
use Rattle.safl_word.specs.declared.fault.Fault.{Fault}
use Rattle.safl_word.specs.Limits.{depth_max}
use Rattle.safl_tree.specs.Laws.{PrintedSpells, SourcesAreShallow}
use Rattle.safl_tree.specs.Printable.{IsFormedProgram, IsPrintable}
use Rattle.safl_tree.specs.Printed.{printed}
use Rattle.safl_typing.specs.Laws.{FaultOrForm}
use Rattle.safl_typing.specs.Forms.{HasForm}
use Rattle.safl_typing.proofs.Names.{some_none}
use Rattle.safl_check.specs.Answers.{IsTooDeep, IsRefused}
use Rattle.safl_reshape.proofs.Unplaced.{shallow_without_places}

-- a program with a form has no fault
pub never_refused : (ds : List Definition) (f : Fault) → FaultOrForm → IsFormedProgram ds → HasForm ds → IsRefused ds f → ⊥
never_refused ds f law formed has r = some_none f (sym r.0 ∙ (law ds formed).1 has)

-- the printed text spells a program that is as shallow as a source
pub never_deep : (ds : List Definition) → PrintedSpells → SourcesAreShallow → IsPrintable ds → IsTooDeep ds → ⊥
never_deep ds spelled shallow p d =
    let s = spelled ds p in
    d.1 (shallow_without_places 1100 depth_max s.0 ds (omega arith) s.2 (shallow (printed ds) s.0 s.1))
