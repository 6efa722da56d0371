-- What a machine keeps at first.
use Rattle.safl_core.proofs.Common.{HasRoom, IsKnown, IsTrue, false≢true, fun_ext, slice_get, stage_at, state_of, unit_at, widths_len}
use Rattle.std.proofs.Common.{◌≡◌, ℕ, suc, ◌+◌, ◌<◌, ◌≤◌, List, [], ◌∷◌, ◌++◌, length, take, Bool, true, false, Option, Some, None, get_or, refl, sym, ap, ◌∙◌, arith}
use Rattle.std.proofs.lemmas.List.{get_or-map, get_or_read, take_all}
use Rattle.std.proofs.Math.Seq.{take-suc}
use Rattle.std.proofs.lemmas.Option.{slice_get_within}
use Rattle.safl_word.specs.Words.{Word, no_word, widths}
use Rattle.safl_word.proofs.Lists.{get_or_is}
use Rattle.safl_term.specs.Checked.{CheckedProgram, IsChecked}
use Rattle.safl_term.specs.Readiness as plain
use Rattle.safl_term.proofs.HeldByChecked.{few_nodes}
use Rattle.safl_calls.specs.Machine as core
use Rattle.safl_core.specs.declared.mode.Mode.{Mode}
use Rattle.safl_evaluate.specs.declared.stage.Stage.{Stage}
use Rattle.safl_core.specs.Shown.{shown_of, IsKept, IsReached}
use Rattle.safl_core.proofs.WritesAreSteps.{state_is}

pub enough_room : (c : CheckedProgram) (room : ℕ) → IsChecked c → 50016 ≤ room → HasRoom c.program room
enough_room c room h le = λ f lt. omega (arith, h.limits.params f, few_nodes c h f, le)

module _ (c : CheckedProgram) (args : List Word) (units : List Mode) (sites : List Stage) (answers : List plain.Answer) (wants : List (Option (List Word))) (room : ℕ) where
  pub opens : ((u : ℕ) → unit_at units u ≡ core.Idle) → ((k : ℕ) → stage_at sites k ≡ plain.Unsent) → state_of units sites ≡ core.opening
  opens idle unsent = state_is (unit_at units) (λ u. core.Idle) (stage_at sites) (λ k. plain.Unsent) (fun_ext idle) (fun_ext unsent)

  first_reached : state_of units sites ≡ core.opening → IsReached (shown_of c args units sites 0)
  unfolding core.Legal core.after_event
  first_reached e = record { list = []; count = refl; legal = tt; ends = sym e }

  first_known : ((u : ℕ) → unit_at units u ≡ core.Idle) → ((u : ℕ) → get_or answers u plain.NotYet ≡ plain.NotYet) →
      ((k : ℕ) → get_or wants k None ≡ None) → (u : ℕ) → IsKnown c.program (state_of units sites) answers wants u
  first_known idle none unwanted u = record {
    outcome = none u ∙ ap (core.says_as c.program (core.back (state_of units sites))) (sym (idle u));
    wants = λ k pos le on. unwanted k ∙ ap (λ m. core.asked_as c.program (core.back (state_of units sites)) m (c.program.caller k) k) (sym (idle u));
  }

  pub kept_open : IsChecked c → widths args ≡ c.program.params c.program.main
      → ((u : ℕ) → unit_at units u ≡ core.Idle) → ((k : ℕ) → stage_at sites k ≡ plain.Unsent) → ((u : ℕ) → get_or answers u plain.NotYet ≡ plain.NotYet) → ((k : ℕ) → get_or wants k None ≡ None)
      → length units ≡ c.program.functions → length sites ≡ suc c.program.sites → length answers ≡ c.program.functions → length wants ≡ suc c.program.sites → 50016 ≤ room
      → IsKept (shown_of c args units sites 0) answers wants room
  kept_open checked given idle unsent none unwanted l1 l2 l3 l4 le = record {
    checked = checked;
    units = l1;
    sites = l2;
    answers_all = l3;
    wants_all = l4;
    given = given;
    room_all = enough_room c room checked le;
    reached = first_reached (opens idle unsent);
    known = first_known idle none unwanted;
  }

-- ---- one more argument has its width

width_at : (args : List Word) (i w : ℕ) (v : Word) → i < length args → v ≡ get_or args i v → w ≡ v.width → get_or (widths args) i 0 ≡ w
width_at args i w v lt is e = get_or-map (λ z. z.width) args i no_word 0 lt ∙ (ap (λ z. z.width) (sym (get_or_read args i v lt is no_word)) ∙ sym e)

abbrev pub Tested : Bool → List Word → List ℕ → Type 0
Tested b args ps = (IsTrue b → widths args ≡ ps) × (widths args ≡ ps → IsTrue b)

pub fits_count : (args : List Word) (ps : List ℕ) → (length args ≡ length ps → ⊥) → Tested false args ps
fits_count args ps ne = (λ t. absurd (false≢true t), λ e. absurd (ne (sym (widths_len args) ∙ ap (λ (x : List ℕ). length x) e)))

pub fits_off : (args : List Word) (ps : List ℕ) (i w p : ℕ) (v : Word) → i < length args → v ≡ get_or args i v → w ≡ v.width → slice_get ps i ≡ Some p → (w ≡ p → ⊥) → Tested false args ps
fits_off args ps i w p v lt is e f ne = (λ t. absurd (false≢true t), λ q. absurd (ne (sym (width_at args i w v lt is e) ∙ (ap (λ (l : List ℕ). get_or l i 0) q ∙ get_or_is ps i p f))))

pub fits_more : (args : List Word) (ps : List ℕ) (i w p : ℕ) (v : Word) → take i (widths args) ≡ take i ps → i < length args → v ≡ get_or args i v → w
    ≡ v.width → slice_get ps i ≡ Some p → w ≡ p → take (i + 1) (widths args) ≡ take (i + 1) ps
fits_more args ps i w p v before lt is e f same =
    let one : i + 1 ≡ suc i = omega arith in
    let inside : i < length (widths args) = omega (arith, lt, widths_len args) in
    ap (λ n. take n (widths args)) one ∙ (take-suc (widths args) i 0 inside ∙ (ap (λ l. l ++ get_or (widths args) i 0 ∷ []) before
    ∙ (ap (λ x. take i ps ++ x ∷ []) (width_at args i w v lt is e ∙ (same ∙ sym (get_or_is ps i p f))) ∙ (sym (take-suc ps i 0 (slice_get_within ps i p f)) ∙ sym (ap (λ n. take n ps) one)))))

pub fits_all : (args : List Word) (ps : List ℕ) (n : ℕ) → take n (widths args) ≡ take n ps → length args ≤ n → length args ≡ length ps → Tested true args ps
fits_all args ps n e le long = (λ t. sym (take_all n (widths args) (omega (arith, le, widths_len args))) ∙ (e ∙ take_all n ps (omega (arith, le, long))), λ q. refl)
