-- What a use of each kind of argument makes, and that it has no fault.
use Rattle.safl_command.proofs.Common.{CommandLine, or_else}
use Rattle.std.proofs.Common.{◌≡◌, ℕ, List, [], ◌∷◌, Bool, true, false, Some, refl, ap, codes, ◌&&◌}
use Rattle.std.specs.Prelude.{if◌then◌else◌, not}
use Rattle.clap.specs.Words.{Row, Rule, Text, Kinds, new_rule}
use Rattle.clap.specs.Simple.{filled, with_index}
use Rattle.clap.specs.Walk.{used, has_row, with_values, reading_by}
use Rattle.clap.specs.Faults.{use_fault}
use Rattle.clap.specs.declared.builder.action.ArgAction.TheVariants.{Append, SetTrue}
use Rattle.clap.specs.declared.error.kind.ErrorKind.TheVariants as kind
use Rattle.safl_command.proofs.Rows.{more, without_none}

-- an option with a value, which may have to be given
abbrev pub valued : Bool → Text → Rule
valued required id = filled (record (new_rule id) { long = Some id; required = required })

-- an option without a value
abbrev pub flagged : Text → Rule
flagged id = filled (record (new_rule id) { long = Some id; action = Some SetTrue })

-- a word at this place, and all words from this place on
abbrev pub placed : ℕ → Text → Rule
placed index id = with_index index (filled (record (new_rule id) { required = true }))

abbrev pub rest_placed : ℕ → Text → Rule
rest_placed index id = with_index index (filled (record (new_rule id) { action = Some Append }))

-- the use has no fault, and adds a value
pub record Adds (again : Bool) (a : Rule) (vs : List Text) (v : Text) (rows : List Row) : Type 0 where
  pub fault : use_fault again a vs rows ≡ []
  pub rows_are : used a vs rows ≡ more a v rows

abbrev pub repeated : Bool → Bool → Kinds
repeated again there = or_else (if there && not again then kind.ArgumentConflict ∷ [] else []) []

module _ (again : Bool) (id v : Text) (rows : List Row) where
  pub adds_valued : (required : Bool) → has_row id rows ≡ false → Adds again (valued required id) (v ∷ []) v rows
  adds_valued required h = record {
    fault = ap (repeated again) h;
    rows_are = ap (with_values id (reading_by (valued required id)) CommandLine (v ∷ [])) (without_none id rows h);
  }

  pub adds_flagged : has_row id rows ≡ false → Adds again (flagged id) [] (codes "true") rows
  adds_flagged h = record {
    fault = ap (repeated again) h;
    rows_are = ap (with_values id (reading_by (flagged id)) CommandLine (codes "true" ∷ [])) (without_none id rows h);
  }

  pub adds_placed : (index : ℕ) → has_row id rows ≡ false → Adds again (placed index id) (v ∷ []) v rows
  adds_placed index h = record {
    fault = ap (repeated again) h;
    rows_are = ap (with_values id (reading_by (placed index id)) CommandLine (v ∷ [])) (without_none id rows h);
  }

  pub adds_rest : (index : ℕ) → Adds again (rest_placed index id) (v ∷ []) v rows
  adds_rest index = record { fault = refl; rows_are = refl }
