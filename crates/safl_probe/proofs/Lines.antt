-- What the lines of a dump tell.
use Rattle.safl_probe.proofs.Common.{Watched, eqb-suc-zero, number_digits_of}
use Rattle.std.proofs.Common.{◌≡◌, ℕ, zero, suc, ◌+◌, ◌-◌, ◌<◌, ◌^◌, inl, inr, List, [], ◌∷◌, ◌++◌, map, length, reverse, Bool, true, false, ◌==◌}
use Rattle.std.proofs.Common.{◌&&◌, refl, sym, ap, subst, ◌∙◌, append_assoc, arith, codes}
use Rattle.std.specs.Prelude.{if◌then◌else◌, nat_le, not}
use Rattle.std.specs.List.{list_all}
use Rattle.std.specs.Fmt.{decimal}
use Rattle.std.specs.Int.Digits.{digits_of, number_from_digits}
use Rattle.std.proofs.lemmas.Bool.Decides.{nat_tests, eqb_tells}
use Rattle.std.proofs.lemmas.Bool.{and_parts, not-true}
use Rattle.safl_word.specs.Numerals.{binary, is_digit}
use Rattle.safl_word.proofs.WordLaws.{decimal_counts}
use Rattle.safl_net.specs.Names.{is_good, is_identifier, is_reserved, is_start, is_part, are_parts}
use Rattle.safl_probe.specs.Texts.{Text, code, value_text, variable, variable_texts, value_texts, changed, changes, header, time, timed, dump}
use Rattle.safl_probe.proofs.Codes.{code_of}
use Rattle.safl_probe.specs.Following.{lines, before_first, before_space, behind_space, binary_number, told_by, Line, Time, Change, Other}

-- no byte is this one
abbrev pub Free : ℕ → Text → Type 0
Free x [] = Unit {0}
Free x (c ∷ cs) = ((c == x) ≡ false) × Free x cs

free_more : (x : ℕ) (a b : Text) → Free x a → Free x b → Free x (a ++ b)
free_more x [] b f g = g
free_more x (c ∷ a) b f g = (f.0, free_more x a b f.1 g)

other_byte : (x c : ℕ) → x < c → (c == x) ≡ false
other_byte x c h = grind (arith, nat_tests)

free_from : (x k : ℕ) (ds : List ℕ) → x < k → Free x (map (λ d. k + d) ds)
free_from x k [] h = tt
free_from x k (d ∷ ds) h = (other_byte x (k + d) (omega (arith, h)), free_from x k ds h)

-- a test that fails at a line feed
feedless_by : (p : ℕ → Bool) → p 10 ≡ false → (c : ℕ) → p c ≡ true → (c == 10) ≡ false
feedless_by p misses c passes = elim (eqb_tells c 10) [ inl e ↦ absurd (let here : p 10 ≡ true = subst (λ x. p x ≡ true) e.1 passes in cc) | inr e ↦ e.0 ]

-- by a test of each byte
free_test : (x : ℕ) (w : Text) → list_all (λ c. not (c == x)) w ≡ true → Free x w
free_test x [] h = tt
free_test x (c ∷ w) h = let b = and_parts (not (c == x)) (list_all (λ d. not (d == x)) w) h in (not-true (c == x) b.0, free_test x w b.1)

free_digits : (w : Text) → list_all (is_digit 10) w ≡ true → Free 10 w
free_digits [] h = tt
free_digits (c ∷ w) h = let b = and_parts (is_digit 10 c) (list_all (is_digit 10) w) h in (feedless_by (is_digit 10) refl c b.0, free_digits w b.1)

free_decimal : (n : ℕ) → n < 2 ^ 128 → Free 10 (decimal n)
free_decimal n h = free_digits (decimal n) (decimal_counts n h).0.numeral.digits

free_parts : (w : Text) → are_parts w ≡ true → Free 10 w
free_parts [] h = tt
free_parts (c ∷ w) h = let b = and_parts (is_part c) (are_parts w) h in (feedless_by is_part refl c b.0, free_parts w b.1)

free_identifier : (w : Text) → is_identifier w ≡ true → Free 10 w
free_identifier [] h = tt
free_identifier (c ∷ w) h = let b = and_parts (is_start c) (are_parts w) h in (feedless_by is_start refl c b.0, free_parts w b.1)

pub free_name : (w : Text) → is_good w ≡ true → Free 10 w
unfolding is_good
free_name w h = free_identifier w (and_parts (is_identifier w) (nat_le (length w) 200) (and_parts (is_identifier w && nat_le (length w) 200) (not (is_reserved w)) h).0).0

pub free_code : (i : ℕ) → Free 10 (code i)
unfolding code
free_code zero = (refl, tt)
free_code (suc i) = subst (Free 10) (sym (code_of (suc i) (omega arith))) (free_from 10 33 (reverse (digits_of 94 (suc i))) (omega arith))

binary_of : (n : ℕ) → binary (suc n) ≡ map (λ d. 48 + d) (digits_of 2 (suc n))
binary_of n = ap (λ (b : Bool). if b then codes "0" else map (λ d. 48 + d) (digits_of 2 (suc n))) (eqb-suc-zero n)

free_binary : (x n : ℕ) → x < 48 → Free x (binary n)
free_binary x zero h = (other_byte x 48 h, tt)
free_binary x (suc n) h = subst (Free x) (sym (binary_of n)) (free_from x 48 (digits_of 2 (suc n)) h)

-- ---- lines and their parts

lines_more : (l rest : Text) → Free 10 l → lines (l ++ 10 ∷ rest) ≡ l ∷ lines rest
lines_more [] rest f = refl
lines_more (c ∷ l) rest f = ap (λ b. if b then [] ∷ lines (l ++ 10 ∷ rest) else before_first c (lines (l ++ 10 ∷ rest))) f.0 ∙ ap (before_first c) (lines_more l rest f.1)

before_at : (a b : Text) → Free 32 a → before_space (a ++ 32 ∷ b) ≡ a
before_at [] b f = refl
before_at (c ∷ a) b f = ap (λ t. if t then [] else c ∷ before_space (a ++ 32 ∷ b)) f.0 ∙ ap (λ l. c ∷ l) (before_at a b f.1)

behind_at : (a b : Text) → Free 32 a → behind_space (a ++ 32 ∷ b) ≡ b
behind_at [] b f = refl
behind_at (c ∷ a) b f = ap (λ t. if t then a ++ 32 ∷ b else behind_space (a ++ 32 ∷ b)) f.0 ∙ behind_at a b f.1

binary_is : (n : ℕ) → binary_number (binary n) ≡ n
binary_is zero = refl
binary_is (suc n) = ap binary_number (binary_of n) ∙ ap (number_from_digits 2) (less (digits_of 2 (suc n))) ∙ number_digits_of 2 (suc n) (omega arith)
  where
    less : (ds : List ℕ) → map (λ c. c - 48) (map (λ d. 48 + d) ds) ≡ ds
    less [] = refl
    less (d ∷ ds) = let e : 48 + d - 48 ≡ d = omega arith in ap (λ x. x ∷ map (λ c. c - 48) (map (λ k. 48 + k) ds)) e ∙ ap (λ l. d ∷ l) (less ds)

-- a text tells these lines
pub record Tells (text : Text) (ls : List Line) : Type 0 where
  pub more : (rest : Text) → map told_by (lines (text ++ rest)) ≡ ls ++ map told_by (lines rest)

pub tells_none : Tells [] []
tells_none = record { more = λ rest. refl }

tells_line : (line : Text) (l : Line) → Free 10 line → told_by line ≡ l → Tells (line ++ codes "\n") (l ∷ [])
tells_line line l f is = record {
  more = λ rest.
      ap (λ x. map told_by (lines x)) (append_assoc line (codes "\n") rest) ∙ ap (map told_by) (lines_more line rest f) ∙ ap (λ x. x ∷ map told_by (lines rest)) is;
}

pub tells_both : (a b : Text) (xs ys : List Line) → Tells a xs → Tells b ys → Tells (a ++ b) (xs ++ ys)
tells_both a b xs ys f g = record {
  more = λ rest.
      ap (λ x. map told_by (lines x)) (append_assoc a b rest) ∙ f.more (b ++ rest) ∙ ap (λ l. xs ++ l) (g.more rest) ∙ sym (append_assoc xs ys (map told_by (lines rest)));
}

-- an empty text tells none
pub none_told : (ls : List Line) → Tells [] ls → ls ≡ []
none_told [] f = refl
none_told (l ∷ ls) f = absurd (let e : [] ≡ l ∷ (ls ++ []) = f.more [] in cc)

-- ---- the pieces of a dump

pub tells_time : (t : ℕ) → t < 2 ^ 128 → Tells (time t) (Time t ∷ [])
tells_time t h = tells_line (codes "#" ++ decimal t) (Time t) (refl, free_decimal t h) (ap Time (decimal_counts t h).1)

tells_bit : (i number : ℕ) → number < 2 → Tells (binary number ++ code i ++ codes "\n") (Change number (code i) ∷ [])
tells_bit i zero h = tells_line (48 ∷ code i) (Change 0 (code i)) (refl, free_code i) refl
tells_bit i (suc zero) h = tells_line (49 ∷ code i) (Change 1 (code i)) (refl, free_code i) refl
tells_bit i (suc (suc n)) h = absurd (omega (arith, h))

tells_wide : (i number : ℕ) → Tells ((codes "b" ++ binary number ++ codes " ") ++ code i ++ codes "\n") (Change number (code i) ∷ [])
tells_wide i number =
    let digits : Text = binary number in
    let rest : Text = (digits ++ codes " ") ++ code i in
    let parts : rest ≡ digits ++ 32 ∷ code i = append_assoc digits (codes " ") (code i) in
    let free : Free 10 rest = free_more 10 (digits ++ codes " ") (code i) (free_more 10 digits (codes " ") (free_binary 10 number (omega arith)) (refl, tt)) (free_code i) in
    let is : told_by (98 ∷ rest) ≡ Change number (code i) =
    ap (λ (x : Text). Change (binary_number (before_space x)) (behind_space x)) parts
    ∙ ap (λ (x : Text). Change (binary_number x) (behind_space (digits ++ 32 ∷ code i))) (before_at digits (code i) (free_binary 32 number (omega arith)))
    ∙ ap (λ (k : ℕ). Change k (behind_space (digits ++ 32 ∷ code i))) (binary_is number)
    ∙ ap (λ (x : Text). Change number x) (behind_at digits (code i) (free_binary 32 number (omega arith))) in
    tells_line (98 ∷ rest) (Change number (code i)) (refl, free) is

tells_value : (i width number : ℕ) → (width ≡ 1 → number < 2) → Tells (value_text i width number) (Change number (code i) ∷ [])
tells_value i width number fits = elim (eqb_tells width 1) [
  | inl e ↦ subst (λ (b : Bool). Tells ((if b then binary number else codes "b" ++ binary number ++ codes " ") ++ code i ++ codes "\n")
      (Change number (code i) ∷ [])) (sym e.0) (tells_bit i number (fits e.1))
  | inr e ↦ subst (λ (b : Bool). Tells ((if b then binary number else codes "b" ++ binary number ++ codes " ") ++ code i ++ codes "\n") (Change number (code i) ∷ [])) (sym e.0) (tells_wide i number)
]

-- numbers of one bit are 0 or 1
abbrev pub Fitting : List Watched → List ℕ → Type 0
Fitting [] now = Unit {0}
Fitting (w ∷ ws) [] = Unit {0}
Fitting (w ∷ ws) (x ∷ now) = (w.width ≡ 1 → x < 2) × Fitting ws now

abbrev pub value_lines : ℕ → List Watched → List ℕ → List Line
value_lines i [] now = []
value_lines i (w ∷ ws) [] = []
value_lines i (w ∷ ws) (x ∷ now) = Change x (code i) ∷ value_lines (suc i) ws now

pub tells_values : (i : ℕ) (ws : List Watched) (now : List ℕ) → Fitting ws now → Tells (value_texts i ws now) (value_lines i ws now)
tells_values i [] now f = tells_none
tells_values i (w ∷ ws) [] f = tells_none
tells_values i (w ∷ ws) (x ∷ now) f = tells_both (value_text i w.width x) (value_texts (suc i) ws now) (Change x (code i) ∷ []) (value_lines (suc i) ws now)
    (tells_value i w.width x f.0) (tells_values (suc i) ws now f.1)

abbrev pub changed_line : ℕ → ℕ → ℕ → List Line
changed_line i x y = if x == y then [] else Change y (code i) ∷ []

abbrev pub change_lines : ℕ → List Watched → List ℕ → List ℕ → List Line
change_lines i [] last now = []
change_lines i (w ∷ ws) [] now = []
change_lines i (w ∷ ws) (x ∷ last) [] = []
change_lines i (w ∷ ws) (x ∷ last) (y ∷ now) = changed_line i x y ++ change_lines (suc i) ws last now

tells_changed : (i width x y : ℕ) → (width ≡ 1 → y < 2) → Tells (changed i width x y) (changed_line i x y)
tells_changed i width x y fits = go (x == y)
  where
    go : (b : Bool) → Tells (if b then [] else value_text i width y) (if b then [] else Change y (code i) ∷ [])
    go true = tells_none
    go false = tells_value i width y fits

pub tells_changes : (i : ℕ) (ws : List Watched) (last now : List ℕ) → Fitting ws now → Tells (changes i ws last now) (change_lines i ws last now)
tells_changes i [] last now f = tells_none
tells_changes i (w ∷ ws) [] now f = tells_none
tells_changes i (w ∷ ws) (x ∷ last) [] f = tells_none
tells_changes i (w ∷ ws) (x ∷ last) (y ∷ now) f =
    tells_both (changed i w.width x y) (changes (suc i) ws last now) (changed_line i x y) (change_lines (suc i) ws last now) (tells_changed i w.width x y f.0) (tells_changes (suc i) ws last now f.1)

abbrev pub timed_lines : ℕ → Text → List Line → List Line
timed_lines t [] ls = ls
timed_lines t (c ∷ cs) ls = Time t ∷ ls

pub tells_timed : (t : ℕ) (text : Text) (ls : List Line) → t < 2 ^ 128 → Tells text ls → Tells (timed t text) (timed_lines t text ls)
tells_timed t [] ls h f = f
tells_timed t (c ∷ cs) ls h f = tells_both (time t) (c ∷ cs) (Time t ∷ []) ls (tells_time t h) f

pub tells_dump : (t : ℕ) (ws : List Watched) (now : List ℕ) → t < 2 ^ 128 → Fitting ws now → Tells (dump t ws now) (Time t ∷ Other ∷ (value_lines 0 ws now ++ Other ∷ []))
tells_dump t ws now h f =
    tells_both (time t ++ codes "$dumpvars\n" ++ value_texts 0 ws now) (codes "$end\n") (Time t ∷ Other ∷ value_lines 0 ws now) (Other ∷ [])
    (tells_both (time t ++ codes "$dumpvars\n") (value_texts 0 ws now) (Time t ∷ Other ∷ []) (value_lines 0 ws now)
    (tells_both (time t) (codes "$dumpvars\n") (Time t ∷ []) (Other ∷ []) (tells_time t h) (record { more = λ rest. refl }))
    (tells_values 0 ws now f))
    (record { more = λ rest. refl })

-- names without line feeds, and widths of words
abbrev pub Named : List Watched → Type 0
Named [] = Unit {0}
Named (w ∷ ws) = Free 10 w.name × (w.width < 2 ^ 128) × Named ws

abbrev pub variable_lines : List Watched → List Line
variable_lines [] = []
variable_lines (w ∷ ws) = Other ∷ variable_lines ws

tells_variable : (i : ℕ) (w : Watched) → Free 10 w.name → w.width < 2 ^ 128 → Tells (variable i w) (Other ∷ [])
tells_variable i w named wide =
    let front : Text = codes "$var wire " ++ decimal w.width ++ codes " " ++ code i ++ codes " " ++ w.name in
    let free : Free 10 front =
    free_more 10 (codes "$var wire " ++ decimal w.width ++ codes " " ++ code i ++ codes " ") w.name
    (free_more 10 (codes "$var wire " ++ decimal w.width ++ codes " " ++ code i) (codes " ")
    (free_more 10 (codes "$var wire " ++ decimal w.width ++ codes " ") (code i)
    (free_more 10 (codes "$var wire " ++ decimal w.width) (codes " ")
    (free_more 10 (codes "$var wire ") (decimal w.width) (free_test 10 (codes "$var wire ") refl) (free_decimal w.width wide))
    (refl, tt))
    (free_code i))
    (refl, tt))
    named in
    subst (λ (x : Text). Tells x (Other ∷ [])) (append_assoc front (codes " $end") (codes "\n"))
    (tells_line (front ++ codes " $end") Other (free_more 10 front (codes " $end") free (free_test 10 (codes " $end") refl)) refl)

tells_variables : (i : ℕ) (ws : List Watched) → Named ws → Tells (variable_texts i ws) (variable_lines ws)
tells_variables i [] named = tells_none
tells_variables i (w ∷ ws) named = tells_both (variable i w) (variable_texts (suc i) ws) (Other ∷ []) (variable_lines ws) (tells_variable i w named.0 named.1) (tells_variables (suc i) ws named.2)

abbrev pub header_lines : List Watched → List Line
header_lines ws = Other ∷ Other ∷ (variable_lines ws ++ Other ∷ Other ∷ [])

pub tells_header : (ws : List Watched) → Named ws → Tells (header ws) (header_lines ws)
tells_header ws named =
    tells_both (codes "$timescale 1 ns $end\n$scope module safl $end\n" ++ variable_texts 0 ws) (codes "$upscope $end\n$enddefinitions $end\n") (Other ∷ Other ∷ variable_lines ws) (Other ∷ Other ∷ [])
    (tells_both (codes "$timescale 1 ns $end\n$scope module safl $end\n") (variable_texts 0 ws) (Other ∷ Other ∷ []) (variable_lines ws) (record { more = λ rest. refl }) (tells_variables 0 ws named))
    (record { more = λ rest. refl })
