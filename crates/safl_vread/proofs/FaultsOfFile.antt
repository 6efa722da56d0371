-- The faults of a whole file.
use Rattle.safl_vread.proofs.Common.{File, VErr, VFault, declared_names, flat_map, later_faults}
use Rattle.std.proofs.Common.{◌≡◌, ℕ, List, [], ◌∷◌, ◌++◌, None, Some, Result, Ok, Err, append_assoc, refl, sym, ap, subst, ◌∙◌}
use Rattle.std.specs.Prelude.{IfErr}
use Rattle.safl_verilog.specs.Faults.{faults, all_number_faults, repeat_faults, all_port_faults, all_statement_faults, missing_faults}
use Rattle.safl_verilog.specs.Reads.{broken}
use Rattle.safl_vparse.specs.Parsed.{IsFileText, RefusesText}
use Rattle.safl_vparse.specs.declared.error.VErr.TheVariants as errors
use Rattle.safl_vread.specs.Firsts.{first, RefusesFirst, Answers}
use Rattle.safl_vread.proofs.FirstOfSeveral.{first_some}

pub empty : (fs : List VFault) → None ≡ first fs → fs ≡ []
empty [] h = refl
empty (f ∷ fs) h = absurd cc

regroup : {A : Type 0} (a b c d e f : List A) → ((((a ++ (b ++ c)) ++ d) ++ e) ++ f) ≡ a ++ (b ++ (c ++ ((d ++ e) ++ f)))
regroup a b c d e f = simp append_assoc

pub parted : (f : File) → faults f ≡ all_number_faults f ++ (repeat_faults [] f.header ++ (repeat_faults [] (declared_names f.declarations) ++ later_faults f))
unfolding faults
parted f = regroup (all_number_faults f) (repeat_faults [] f.header) (repeat_faults [] (declared_names f.declarations)) (all_port_faults f)
    (all_statement_faults f.declarations [] f.statements) (flat_map (missing_faults f.statements) f.declarations)

module _ (f : File) where
  pub numbers_first : (g : VFault) → Some g ≡ first (all_number_faults f) → Some g ≡ first (faults f)
  numbers_first g k = first_some (all_number_faults f) _ g k ∙ sym (ap first (parted f))

  module _ (a : all_number_faults f ≡ []) where
    behind_numbers : faults f ≡ repeat_faults [] f.header ++ (repeat_faults [] (declared_names f.declarations) ++ later_faults f)
    behind_numbers = parted f ∙ ap (λ (l : List VFault). l ++ (repeat_faults [] f.header ++ (repeat_faults [] (declared_names f.declarations) ++ later_faults f))) a

    pub header_first : (e : VErr) → RefusesFirst (repeat_faults [] f.header) e → RefusesFirst (faults f) e
    header_first errors.NoMemory k = tt
    header_first (errors.Refused g) k = first_some (repeat_faults [] f.header) _ g k ∙ sym (ap first behind_numbers)

    module _ (b : repeat_faults [] f.header ≡ []) where
      behind_header : faults f ≡ repeat_faults [] (declared_names f.declarations) ++ later_faults f
      behind_header = behind_numbers ∙ ap (λ (l : List VFault). l ++ (repeat_faults [] (declared_names f.declarations) ++ later_faults f)) b

      pub declared_first : (e : VErr) → RefusesFirst (repeat_faults [] (declared_names f.declarations)) e → RefusesFirst (faults f) e
      declared_first errors.NoMemory k = tt
      declared_first (errors.Refused g) k = first_some (repeat_faults [] (declared_names f.declarations)) _ g k ∙ sym (ap first behind_header)

      pub later_answers : {A : Type 0} (r : Result A VErr) → repeat_faults [] (declared_names f.declarations) ≡ [] → Answers (later_faults f) r → Answers (faults f) r
      later_answers r c k = subst (λ (l : List VFault). Answers l r) (sym (behind_header ∙ ap (λ (l : List VFault). l ++ later_faults f) c)) k

first_is : (fs : List VFault) (g : VFault) → Some g ≡ first fs → (more : List VFault) × (fs ≡ g ∷ more)
first_is [] g h = absurd cc
first_is (x ∷ fs) g h = let e : x ≡ g = cc in (fs, ap (λ y. y ∷ fs) e)

pub refuses_text : {A : Type 0} (text : List ℕ) (f : File) (r : Result A VErr) → IsFileText text f → Answers (faults f) r → IfErr r (λ e. RefusesText text e)
refuses_text text f (Ok x) d k = tt
refuses_text text f (Err (errors.Refused g)) d k = let m = first_is (faults f) g k in broken d.tokens f m.0 d.cut d.derived m.1
refuses_text text f (Err errors.NoMemory) d k = tt
