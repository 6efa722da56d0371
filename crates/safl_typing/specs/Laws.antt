-- The laws of checking.
use Rattle.std.specs.Prelude.{◌≡◌, ◌↔◌, ℕ, List, [], ◌∷◌, Some, None, Ok, slice_get, false}
use Rattle.safl_tree.specs.Tree.{Definition}
use Rattle.safl_tree.specs.Printable.{IsFormedProgram}
use Rattle.safl_term.specs.Checked.{CheckedProgram, IsChecked}
use Rattle.safl_typing.specs.Forms.{FunctionForm, Form, AreShallow, IsFormOf, shown_form}
use Rattle.safl_typing.specs.Walk.{outcome}
use Rattle.safl_typing.specs.FirstFault.{first_fault}

-- checking gives exactly the form that the program has
abbrev pub WalkGivesForm : Type 0
WalkGivesForm = (ds : List Definition) (c : Form) → IsFormedProgram ds → (outcome ds ≡ Ok c) ↔ IsFormOf ds c

-- a program has no fault exactly if it has a form
abbrev pub FaultOrForm : Type 0
FaultOrForm = (ds : List Definition) → IsFormedProgram ds → (first_fault ds ≡ None) ↔ ((c : Form) × IsFormOf ds c)

-- a program has at most one form
abbrev pub OneForm : Type 0
OneForm = (ds : List Definition) (c d : Form) → IsFormOf ds c → IsFormOf ds d → c ≡ d

-- a program with a form, whose bodies are shallow, is well formed, within limits, and in the order of the text
abbrev pub FormsAreChecked : Type 0
FormsAreChecked = (ds : List Definition) (c : CheckedProgram) → IsFormedProgram ds → AreShallow ds → IsFormOf ds (shown_form c) → IsChecked c

-- no definition belongs to the group of the one before it
abbrev pub NoneJoined : List Definition → Type 0
NoneJoined [] = Unit {0}
NoneJoined (d ∷ ds) = (d.joined ≡ false) × NoneJoined ds

-- if no definition is joined, each function is a group of its own
abbrev pub AloneUnits : Type 0
AloneUnits = (ds : List Definition) (c : Form) (n : ℕ) (f : FunctionForm) → NoneJoined ds → IsFormOf ds c → slice_get c.functions n ≡ Some f → f.unit ≡ n
