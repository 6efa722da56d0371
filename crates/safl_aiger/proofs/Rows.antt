-- The lines of a circuit's numbers are those of its sections, one after another.
use Rattle.safl_aiger.proofs.Common.{Circuit, Lit, base}
use Rattle.std.proofs.Common.{◌≡◌, ℕ, zero, suc, ◌+◌, ◌*◌, List, [], ◌∷◌, ◌++◌, map, refl, sym, ap, ◌∙◌, append_assoc}
use Rattle.std.proofs.lemmas.List.{map-append}
use Rattle.safl_aiger.specs.Reads.{own_numbers, latch_numbers, output_numbers, and_numbers, body_numbers}
use Rattle.safl_aiger.specs.Texts.{numbers_line, row_line, input_text, latch_text, output_text, and_text, body_text, symbol_lines}

inputs_rows : (first k : ℕ) → map row_line (own_numbers first k) ≡ input_text first k
inputs_rows first zero = refl
inputs_rows first (suc k) = ap (λ x. numbers_line (2 * first) [] ∷ x) (inputs_rows (suc first) k)

latches_rows : (first : ℕ) (ls : List Lit) → map row_line (latch_numbers first ls) ≡ latch_text first ls
latches_rows first [] = refl
latches_rows first (l ∷ ls) = ap (λ x. numbers_line (2 * first) (l.0 ∷ []) ∷ x) (latches_rows (suc first) ls)

outputs_rows : (ls : List Lit) → map row_line (output_numbers ls) ≡ output_text ls
outputs_rows [] = refl
outputs_rows (l ∷ ls) = ap (λ x. numbers_line l.0 [] ∷ x) (outputs_rows ls)

ands_rows : (first : ℕ) (ps : List (Lit × Lit)) → map row_line (and_numbers first ps) ≡ and_text first ps
ands_rows first [] = refl
ands_rows first (p ∷ ps) = ap (λ x. numbers_line (2 * first) (p.0.0 ∷ p.1.0 ∷ []) ∷ x) (ands_rows (suc first) ps)

joined_four : (a b c d e f g h : List (List ℕ)) → a ≡ e → b ≡ f → c ≡ g → d ≡ h → a ++ (b ++ (c ++ d)) ≡ e ++ (f ++ (g ++ h))
joined_four a b c d e f g h p q r s = cc

pub body_rows : (a : Circuit) → map row_line (body_numbers a) ≡ body_text a
body_rows a =
    let i : List (List ℕ) = own_numbers 1 a.inputs in
    let l : List (List ℕ) = latch_numbers (1 + a.inputs) a.nexts in
    let o : List (List ℕ) = output_numbers a.outputs in
    let n : List (List ℕ) = and_numbers (base a) a.ands in
    map-append row_line i (l ++ (o ++ n))
    ∙ ap (λ x. map row_line i ++ x) (map-append row_line l (o ++ n))
    ∙ ap (λ x. map row_line i ++ (map row_line l ++ x)) (map-append row_line o n)
    ∙ joined_four (map row_line i) (map row_line l) (map row_line o) (map row_line n)
    (input_text 1 a.inputs) (latch_text (1 + a.inputs) a.nexts) (output_text a.outputs) (and_text (base a) a.ands)
    (inputs_rows 1 a.inputs) (latches_rows (1 + a.inputs) a.nexts) (outputs_rows a.outputs) (ands_rows (base a) a.ands)

-- the lines after the header
pub section_rows : (a : Circuit)
    → input_text 1 a.inputs ++ (latch_text (1 + a.inputs) a.nexts ++ (output_text a.outputs ++ (and_text (base a) a.ands ++ symbol_lines a)))
    ≡ map row_line (body_numbers a) ++ symbol_lines a
section_rows a =
    let i : List (List ℕ) = input_text 1 a.inputs in
    let l : List (List ℕ) = latch_text (1 + a.inputs) a.nexts in
    let o : List (List ℕ) = output_text a.outputs in
    let n : List (List ℕ) = and_text (base a) a.ands in
    let s : List (List ℕ) = symbol_lines a in
    sym (append_assoc i (l ++ (o ++ n)) s ∙ ap (λ x. i ++ x) (append_assoc l (o ++ n) s ∙ ap (λ x. l ++ x) (append_assoc o n s)))
    ∙ ap (λ x. x ++ s) (sym (body_rows a))
