-- Labels that each function keeps are those of the program.
use Rattle.std.proofs.Common.{◌≡◌, ℕ, ◌<◌, ◌≤◌, ◌⊎◌, List, [], ◌∷◌, Bool, length, slice_get, refl, sym, ap, subst, ◌∙◌, inl, inr, arith}
use Rattle.std.proofs.lemmas.Bool.{cases_lt}
use Rattle.std.proofs.lemmas.Option.{slice_get_past}
use Rattle.safl_word.specs.Words.{no_word}
use Rattle.safl_calls.specs.Labels.{Twins, t_const}
use Rattle.safl_circuit.specs.Blind.{IsLabelling}
use Rattle.safl_term.specs.Checked.{CheckedProgram}
use Rattle.safl_term.specs.Tables.{Tables, program_of}
use Rattle.safl_term.specs.Terms.{Term, Const}
use Rattle.safl_term.proofs.HeldByChecked.{each_checked}
use Rattle.safl_labels.specs.declared.labels.Labels.{Labels}
use Rattle.safl_labels.specs.Kept.{IsKept}
use Rattle.safl_labels.specs.Shown.{shown_labels, label_in, first_label}

-- a function that does not exist
abbrev Missing : CheckedProgram → Type 0
Missing c = (f : ℕ) → c.program.functions ≤ f → (c.program.body f ≡ Const no_word) × (c.program.unit f ≡ 0)

missing_of : (t : Tables) (f : ℕ) → (program_of t).functions ≤ f → ((program_of t).body f ≡ Const no_word) × ((program_of t).unit f ≡ 0)
unfolding program_of
missing_of t f h = (rw (slice_get_past t.functions f h) refl, rw (slice_get_past t.functions f h) refl)

missing : (c : CheckedProgram) → Missing c
missing = each_checked Missing missing_of

first_of : (bs : List Bool) → first_label bs ≡ label_in bs (slice_get bs 0)
first_of [] = refl
first_of (b ∷ bs) = refl

module _ (c : CheckedProgram) (l : Labels) (few : length l.results.items ≤ c.program.functions) (all : (f : ℕ) → f < c.program.functions → IsKept c.program (shown_labels l) f) where
  grouped_at : (f : ℕ) → (f < c.program.functions) ⊎ (c.program.functions ≤ f) → (shown_labels l).result f ≡ (shown_labels l).result (c.program.unit f)
  grouped_at f (inl h) = (all f h).grouped
  grouped_at f (inr h) =
      let past = slice_get_past l.results.items f (omega (arith, few, h)) in
      ap (label_in l.results.items) past ∙ (first_of l.results.items ∙ ap (shown_labels l).result (sym (missing c f h).1))

  twins_at : (f : ℕ) → (f < c.program.functions) ⊎ (c.program.functions ≤ f)
      → Twins (shown_labels l) ((shown_labels l).params f) (c.program.body f) (c.program.body f) ((shown_labels l).result f)
  twins_at f (inl h) = (all f h).twins
  twins_at f (inr h) =
      subst (λ (t : Term). Twins (shown_labels l) ((shown_labels l).params f) t t ((shown_labels l).result f)) (sym (missing c f h).0) t_const

  pub labelling_of : IsLabelling c.program (shown_labels l)
  labelling_of = record {
    keeps = λ f. twins_at f (cases_lt f c.program.functions);
    grouped = λ f g e. grouped_at f (cases_lt f c.program.functions)
        ∙ (ap (shown_labels l).result e ∙ sym (grouped_at g (cases_lt g c.program.functions)));
  }
