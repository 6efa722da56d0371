-- Reshaped sources.
use Rattle.std.specs.Prelude.{◌≡◌, ℕ, suc, zero, ◌<◌, true, ◌⊎◌, List, length, codes, ◌++◌}
use Rattle.std.specs.List.{list_any}
use Rattle.std.specs.Str.{bytes_eq}
use Rattle.std.specs.Fmt.{decimal}
use Rattle.safl_tree.specs.Tree.{Definition}
use Rattle.safl_tree.specs.Printed.{printed}
use Rattle.safl_tree.specs.Laws.{SpelledBy}
use Rattle.safl_term.specs.Program.{Program}
use Rattle.safl_term.specs.Names.{Names}
use Rattle.safl_typing.specs.Heads.{heads}
use Rattle.safl_typing.specs.Forms.{nodes_of, function_names}
use Rattle.safl_reshape.specs.declared.error.ReshapeErr.{ReshapeErr}
use Rattle.safl_reshape.specs.declared.error.ReshapeErr.TheVariants as errors
use Rattle.safl_reshape.specs.Laws.{IsAlike, Spares}
use Rattle.safl_reshape.specs.Limits.{site_total}
use Rattle.safl_reshape.specs.Refusals.{HasSite, is_grouped, name_for}
use Rattle.safl_reshape.specs.Reshaped.{copied, unfolded, is_recursive}
use Rattle.safl_compiler.specs.Sources.{IsSourceOf}
use Rattle.safl_word.specs.Limits.{source_max, name_max, functions_max, sites_max, nodes_max}
use Rattle.safl_tool.specs.Lines.{site_line}
use Rattle.safl_task.specs.Tasks.{Given, only_writes}
use Rattle.safl_task.specs.declared.status.Status.{Status}
use Rattle.safl_task.specs.declared.status.Status.TheVariants as status

-- ---- why a site cannot be reshaped

-- it is for this reason, if its cause holds, and else for one of those that follow
abbrev pub FirstOf : Type 0 → List ℕ → (List ℕ → Type 0) → List ℕ → Type 0
FirstOf Cause reason Later text = (Cause × (text ≡ reason)) ⊎ ((Cause → ⊥) × Later text)

-- why a reshaped program is not given. Its text nests too deep exactly if it does not spell the program, places aside
abbrev pub NoText : List Definition → List ℕ → Type 0
NoText es =
    FirstOf (functions_max < length es) (codes "limit: functions 1000")
    (FirstOf (sites_max < site_total (heads es) 0 0 es) (codes "limit: sites 4000")
    (FirstOf (nodes_max < nodes_of es) (codes "limit: nodes 50000")
    (FirstOf (SpelledBy (printed es) es → ⊥) (codes "nesting too deep")
    (FirstOf (source_max < length (printed es)) (codes "text too long") (λ text. ⊥)))))

-- why the function that site k calls is not copied for that call
abbrev pub NoCopy : ℕ → Program → List Definition → List ℕ → Type 0
NoCopy k C ds =
    FirstOf (HasSite C k → ⊥) (codes "no such site")
    (FirstOf (is_grouped ds (C.callee k) ≡ true) (codes "grouped")
    (FirstOf (name_max < length (name_for ds k (C.callee k))) (codes "name too long")
    (FirstOf (list_any (bytes_eq (name_for ds k (C.callee k))) (function_names ds) ≡ true) (codes "name taken") (NoText (copied ds k (C.callee k))))))

-- why the call of site k is not unfolded
abbrev pub NoUnfolding : ℕ → Program → List Definition → List ℕ → Type 0
NoUnfolding k C ds =
    FirstOf (HasSite C k → ⊥) (codes "no such site")
    (FirstOf (is_recursive ds (C.callee k) ≡ true) (codes "recursive") (NoText (unfolded ds k)))

-- ---- what is given

-- a way of reshaping: what refuses it, in words, what a program is reshaped to, and what that keeps
pub record Reshaping : Type 1 where
  pub Refuses : Program → List Definition → List ℕ → Type 0
  pub reshaped : Program → List Definition → List Definition
  pub Keeps : Program → Program → Type 0

abbrev pub copies : ℕ → Reshaping
copies site = record { Refuses = NoCopy site; reshaped = λ C ds. copied ds site (C.callee site); Keeps = IsAlike }

abbrev pub unfolds : ℕ → Reshaping
unfolds site = record { Refuses = NoUnfolding site; reshaped = λ C ds. unfolded ds site; Keeps = Spares site }

-- the program of the source cannot be reshaped at this site, and the line says why
abbrev pub IsUnshaped : Reshaping → ℕ → List ℕ → Status → List ℕ → Type 0
IsUnshaped r site source s line =
    (s ≡ status.ReshapeRefused) × (C : Program) × (D : Names) × (source_of : IsSourceOf source C D) × (reason : List ℕ)
    × r.Refuses C source_of.definitions reason × (line ≡ codes "site " ++ decimal site ++ codes ": " ++ reason ++ codes "\n")

-- the source has a program, and nothing refuses its reshaping
pub record IsReshapable (r : Reshaping) (source : List ℕ) : Type 0 where
  pub program : Program
  pub names : Names
  pub source_of : IsSourceOf source program names
  pub passes : (reason : List ℕ) → r.Refuses program source_of.definitions reason → ⊥

-- The text of the reshaped program is given. It is accepted, and the program that is read from it keeps what the first one gives.
pub record GivesReshaped (r : Reshaping) (source : List ℕ) (g : Given) : Type 0 where
  pub from : IsReshapable r source
  pub reshaped : List Definition
  pub is_reshaped : reshaped ≡ r.reshaped from.program from.source_of.definitions
  pub after : Program
  pub names_after : Names
  pub accepted : IsSourceOf (printed reshaped) after names_after
  pub keeps : r.Keeps from.program after
  pub is : g ≡ only_writes (printed reshaped)

-- ---- what the code says of its errors

-- the name of a limit by its number: 1, 4 or 5
abbrev pub limit_text : ℕ → List ℕ
limit_text (suc zero) = codes "limit: functions 1000"
limit_text (suc (suc (suc (suc zero)))) = codes "limit: sites 4000"
limit_text _ = codes "limit: nodes 50000"

-- why a site cannot be reshaped, in words. Out of memory is no such reason
abbrev pub HasReason : ReshapeErr → List ℕ → Type 0
HasReason errors.NoSite text = text ≡ codes "no such site"
HasReason errors.Grouped text = text ≡ codes "grouped"
HasReason errors.Recursive text = text ≡ codes "recursive"
HasReason errors.NameLong text = text ≡ codes "name too long"
HasReason errors.NameTaken text = text ≡ codes "name taken"
HasReason (errors.Limit i) text = text ≡ limit_text i
HasReason errors.TooDeep text = text ≡ codes "nesting too deep"
HasReason errors.NoMemory text = ⊥

-- the line says why the site cannot be reshaped, or that the text would be longer than a source may be
abbrev pub TellsReason : ℕ → ReshapeErr → Status → List ℕ → Type 0
TellsReason site e s line = (s ≡ status.ReshapeRefused) × (text : List ℕ) × HasReason e text × (line ≡ site_line site text)

abbrev pub TellsLong : ℕ → List ℕ → Status → List ℕ → Type 0
TellsLong site text s line = (s ≡ status.ReshapeRefused) × (source_max < length text) × (line ≡ site_line site (codes "text too long"))
