-- The text of a bit-level circuit.
use Rattle.std.specs.Prelude.{ℕ, zero, suc, ◌+◌, ◌*◌, List, [], ◌∷◌, ◌++◌, map, length, codes, decimal}
use Rattle.std.specs.List.{flat_map}
use Rattle.safl_aiger.specs.declared.literal.Lit.{Lit}
use Rattle.safl_aiger.specs.Circuits.{Circuit, latches, variables, base}
use Rattle.safl_aiger.specs.Reads.{body_numbers}

-- numbers in decimal, with a space between them
abbrev pub numbers_line : ℕ → List ℕ → List ℕ
numbers_line n ns = decimal n ++ flat_map (λ k. 32 ∷ decimal k) ns

-- the line of a row of numbers
abbrev pub row_line : List ℕ → List ℕ
row_line [] = []
row_line (n ∷ ns) = numbers_line n ns

-- the symbol line of something that has a name: the letter and its number, a space and the name
abbrev pub symbol_row : ℕ → ℕ → List ℕ → List (List ℕ)
symbol_row letter k [] = []
symbol_row letter k (c ∷ cs) = (letter ∷ decimal k ++ 32 ∷ c ∷ cs) ∷ []

abbrev pub symbols_text : ℕ → ℕ → List (List ℕ) → List (List ℕ)
symbols_text letter k [] = []
symbols_text letter k (x ∷ xs) = symbol_row letter k x ++ symbols_text letter (suc k) xs

-- The text has these lines, each followed by a line feed: `aag` with the numbers of variables, inputs, latches, outputs and ANDs; the
-- rows of numbers of these; and the symbols of those that have names.
abbrev pub written_circuit : Circuit → List ℕ
written_circuit a =
    flat_map (λ (l : List ℕ). l ++ 10 ∷ [])
    ((codes "aag " ++ numbers_line (variables a) (a.inputs ∷ latches a ∷ length a.outputs ∷ length a.ands ∷ [])) ∷ (map row_line (body_numbers a)
    ++ (symbols_text 105 0 a.input_names ++ (symbols_text 108 0 a.latch_names ++ symbols_text 111 0 a.output_names))))

-- ---- the lines of each section

-- The lines of inputs, latches, outputs and ANDs. The first variable of a section is this number; a line has its own literal, if
-- there is one, and the other literals.
abbrev pub input_text : ℕ → ℕ → List (List ℕ)
input_text first zero = []
input_text first (suc k) = numbers_line (2 * first) [] ∷ input_text (suc first) k

abbrev pub latch_text : ℕ → List Lit → List (List ℕ)
latch_text first [] = []
latch_text first (l ∷ ls) = numbers_line (2 * first) (l.0 ∷ []) ∷ latch_text (suc first) ls

abbrev pub output_text : List Lit → List (List ℕ)
output_text [] = []
output_text (l ∷ ls) = numbers_line l.0 [] ∷ output_text ls

abbrev pub and_text : ℕ → List (Lit × Lit) → List (List ℕ)
and_text first [] = []
and_text first (p ∷ ps) = numbers_line (2 * first) (p.0.0 ∷ p.1.0 ∷ []) ∷ and_text (suc first) ps

-- the lines between the header and the symbols
abbrev pub body_text : Circuit → List (List ℕ)
body_text a = input_text 1 a.inputs ++ (latch_text (1 + a.inputs) a.nexts ++ (output_text a.outputs ++ and_text (base a) a.ands))

-- ---- parts by name

abbrev pub joined_lines : List (List ℕ) → List ℕ
joined_lines ls = flat_map (λ (l : List ℕ). l ++ 10 ∷ []) ls

abbrev pub header_line : Circuit → List ℕ
header_line a = codes "aag " ++ numbers_line (variables a) (a.inputs ∷ latches a ∷ length a.outputs ∷ length a.ands ∷ [])

abbrev pub symbol_lines : Circuit → List (List ℕ)
symbol_lines a = symbols_text 105 0 a.input_names ++ (symbols_text 108 0 a.latch_names ++ symbols_text 111 0 a.output_names)
