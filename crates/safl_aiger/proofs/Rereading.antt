-- What is written is read again.
use Rattle.safl_aiger.proofs.Common.{Lit, Sort}
use Rattle.std.proofs.Common.{◌≡◌, ◌≢◌, ℕ, zero, suc, ◌+◌, ◌*◌, ◌<◌, ◌≤◌, ◌^◌, ◌%◌, List, [], ◌∷◌, ◌++◌, map, length, replicate, codes, decimal, Some}
use Rattle.std.proofs.Common.{slice_get, slice_set, refl, sym, ap, ◌∙◌, subst, arith, append_assoc}
use Rattle.std.specs.List.{All, flat_map}
use Rattle.std.proofs.lemmas.List.{append-nil, length_push}
use Rattle.std.proofs.lemmas.List.Elements.{All-head, All-tail}
use Rattle.std.proofs.lemmas.Fmt.{decimal_by_steps, length-decimal-le}
use Rattle.safl_word.proofs.WordLaws.{decimal_counts}
use Rattle.safl_aiger.specs.declared.reading.LineKind.TheVariants.{Input, Latch, Output, And}
use Rattle.safl_aiger.specs.declared.symbols.Sort.TheVariants as sorts
use Rattle.safl_aiger.specs.Circuits.{Circuit, latches, variables, base, IsLine, AreBelow, IsCircuit}
use Rattle.safl_aiger.specs.Lines.{text_lines, fields, IsDecimal, AreDecimals, HasNumbers}
use Rattle.safl_aiger.specs.Texts.{joined_lines, numbers_line, header_line, input_text, latch_text, output_text, and_text, symbol_row, symbols_text, body_text, symbol_lines, written_circuit}
use Rattle.safl_aiger.specs.Reads.{AreGood, kinds_from, own_numbers, latch_numbers, output_numbers, and_numbers, counts_of, Named, NamePlaces}
use Rattle.safl_aiger.specs.Reads.{NamesPlace, symbol_line, letter, unnamed, named_of, AigReads}
use Rattle.safl_aiger.specs.TextLaws.{BodyReads}
use Rattle.safl_aiger.proofs.Cutting.{Free, lines_feed, fields_space, fields_last}
use Rattle.safl_aiger.proofs.Passing.{good-append}
use Rattle.safl_aiger.proofs.Rows.{body_rows}

-- ---- bytes that don't occur

free-append : (c : ℕ) (xs ys : List ℕ) → Free c xs → Free c ys → Free c (xs ++ ys)
free-append c [] ys h k = k
free-append c (x ∷ xs) ys h k = (h.0, free-append c xs ys h.1 k)

digit_apart : (d c : ℕ) → c < 48 → 48 + d ≢ c
digit_apart d c h e = omega (arith, h, e)

pub decimal_free : (c n : ℕ) → c < 48 → n < 2 ^ 64 → Free c (decimal n)
decimal_free c n h l = decimal_by_steps (λ k ds. Free c ds) (λ k i. (digit_apart k c h, tt)) (λ k ds i f. free-append c ds ((48 + k % 10) ∷ []) f (digit_apart (k % 10) c h, tt)) n l

abbrev AllFree : List (List ℕ) → Type 0
AllFree [] = Unit {0}
AllFree (l ∷ ls) = Free 10 l × AllFree ls

all-append : (xs ys : List (List ℕ)) → AllFree xs → AllFree ys → AllFree (xs ++ ys)
all-append [] ys h k = k
all-append (x ∷ xs) ys h k = (h.0, all-append xs ys h.1 k)

lines_joined : (ls : List (List ℕ)) → AllFree ls → text_lines (joined_lines ls) ≡ ls
lines_joined [] h = refl
lines_joined (l ∷ ls) h = ap text_lines (append_assoc l (10 ∷ []) (joined_lines ls)) ∙ lines_feed l (joined_lines ls) h.0 ∙ ap (λ x. l ∷ x) (lines_joined ls h.1)

-- ---- lines of numbers

abbrev AllSmall : List ℕ → Type 0
AllSmall [] = Unit {0}
AllSmall (n ∷ ns) = (n < 2 ^ 31) × AllSmall ns

pub is_decimal : (n : ℕ) → n < 2 ^ 31 → IsDecimal (decimal n) n
is_decimal n h =
    let d = decimal_counts n (omega (arith, h)) in
    record { bounded = record { numeral = d.0.numeral; short = length-decimal-le 10 n (omega arith) (omega (arith, h)) (omega (arith, h)); small = subst (λ k. k < 2 ^ 31) (sym d.1) h }; is = sym d.1 }

line_fields : (n : ℕ) (ns : List ℕ) → n < 2 ^ 31 → AllSmall ns → fields (numbers_line n ns) ≡ decimal n ∷ map decimal ns
line_fields n [] h s = ap fields (append-nil (decimal n)) ∙ fields_last (decimal n) (decimal_free 32 n (omega arith) (omega (arith, h)))
line_fields n (k ∷ ks) h s = fields_space (decimal n) (numbers_line k ks) (decimal_free 32 n (omega arith) (omega (arith, h))) ∙ ap (λ l. decimal n ∷ l) (line_fields k ks s.0 s.1)

are_decimals : (ns : List ℕ) → AllSmall ns → AreDecimals (map decimal ns) ns
are_decimals [] s = tt
are_decimals (n ∷ ns) s = (is_decimal n s.0, are_decimals ns s.1)

line_numbers : (n : ℕ) (ns : List ℕ) → n < 2 ^ 31 → AllSmall ns → HasNumbers (numbers_line n ns) (n ∷ ns)
line_numbers n ns h s = subst (λ ws. AreDecimals ws (n ∷ ns)) (sym (line_fields n ns h s)) (is_decimal n h, are_decimals ns s)

line_free : (n : ℕ) (ns : List ℕ) → n < 2 ^ 31 → AllSmall ns → Free 10 (numbers_line n ns)
line_free n ns h s = free-append 10 (decimal n) (flat_map (λ k. 32 ∷ decimal k) ns) (decimal_free 10 n (omega arith) (omega (arith, h))) (rest ns s)
  where
    rest : (ns : List ℕ) → AllSmall ns → Free 10 (flat_map (λ k. 32 ∷ decimal k) ns)
    rest [] s = tt
    rest (k ∷ ks) s = ((λ e. cc), free-append 10 (decimal k) (flat_map (λ k. 32 ∷ decimal k) ks) (decimal_free 10 k (omega arith) (let z = s.0 in omega (arith, z))) (rest ks s.1))

-- ---- sections

inputs_good : (most first k : ℕ) → first + k ≤ 2 ^ 30 → AreGood most (kinds_from Input first k) (input_text first k) (own_numbers first k)
inputs_good most first zero h = tt
inputs_good most first (suc k) h = (line_numbers (2 * first) [] (omega (arith, h)) tt, refl, inputs_good most (suc first) k (omega (arith, h)))

inputs_free : (first k : ℕ) → first + k ≤ 2 ^ 30 → AllFree (input_text first k)
inputs_free first zero h = tt
inputs_free first (suc k) h = (line_free (2 * first) [] (omega (arith, h)) tt, inputs_free (suc first) k (omega (arith, h)))

abbrev IsLow : ℕ → Lit → Type 0
IsLow most l = l.0 ≤ 2 * most + 1

latches_good : (most first : ℕ) (ls : List Lit) → most < 2 ^ 30 → first + length ls ≤ 2 ^ 30 → All (IsLow most) ls → AreGood most
    (kinds_from Latch first (length ls)) (latch_text first ls) (latch_numbers first ls)
latches_good most first [] m h a = tt
latches_good most first (l ∷ ls) m h a =
    let b = All-head (IsLow most) l ls a in
    (line_numbers (2 * first) (l.0 ∷ []) (omega (arith, h)) (omega (arith, b, m), tt), (refl, b), latches_good most (suc first) ls m (omega (arith, h)) (All-tail (IsLow most) l ls a))

latches_free : (most first : ℕ) (ls : List Lit) → most < 2 ^ 30 → first + length ls ≤ 2 ^ 30 → All (IsLow most) ls → AllFree (latch_text first ls)
latches_free most first [] m h a = tt
latches_free most first (l ∷ ls) m h a =
    let b = All-head (IsLow most) l ls a in
    (line_free (2 * first) (l.0 ∷ []) (omega (arith, h)) (omega (arith, b, m), tt), latches_free most (suc first) ls m (omega (arith, h)) (All-tail (IsLow most) l ls a))

outputs_good : (most : ℕ) (ls : List Lit) → most < 2 ^ 30 → All (IsLow most) ls → AreGood most (replicate (length ls) Output) (output_text ls) (output_numbers ls)
outputs_good most [] m a = tt
outputs_good most (l ∷ ls) m a = let b = All-head (IsLow most) l ls a in (line_numbers l.0 [] (omega (arith, b, m)) tt, b, outputs_good most ls m (All-tail (IsLow most) l ls a))

outputs_free : (most : ℕ) (ls : List Lit) → most < 2 ^ 30 → All (IsLow most) ls → AllFree (output_text ls)
outputs_free most [] m a = tt
outputs_free most (l ∷ ls) m a = let b = All-head (IsLow most) l ls a in (line_free l.0 [] (omega (arith, b, m)) tt, outputs_free most ls m (All-tail (IsLow most) l ls a))

below_tail : (first : ℕ) (p : Lit × Lit) (ps : List (Lit × Lit)) → AreBelow first (p ∷ ps) → AreBelow (suc first) ps
below_tail first p ps h = λ k q e. let b = h (suc k) q e in (let z = b.0 in omega (arith, z), let z = b.1 in omega (arith, z))

ands_good : (most first : ℕ) (ps : List (Lit × Lit)) → first + length ps ≤ 2 ^ 30 → AreBelow first ps → AreGood most (kinds_from And first (length ps)) (and_text first ps) (and_numbers first ps)
ands_good most first [] h b = tt
ands_good most first (p ∷ ps) h b =
    let c = b 0 p refl in
    let x : p.0.0 < 2 * first = let z = c.0 in omega (arith, z) in
    let y : p.1.0 < 2 * first = let z = c.1 in omega (arith, z) in (
      line_numbers (2 * first) (p.0.0 ∷ p.1.0 ∷ []) (omega (arith, h)) (omega (arith, x, h), (omega (arith, y, h), tt)),
      (refl, x, y),
      ands_good most
          (suc first) ps (omega (arith, h)) (below_tail first p ps b),
    )

ands_free : (first : ℕ) (ps : List (Lit × Lit)) → first + length ps ≤ 2 ^ 30 → AreBelow first ps → AllFree (and_text first ps)
ands_free first [] h b = tt
ands_free first (p ∷ ps) h b =
    let c = b 0 p refl in
    let x : p.0.0 < 2 * first = let z = c.0 in omega (arith, z) in
    let y : p.1.0 < 2 * first = let z = c.1 in omega (arith, z) in
    (line_free (2 * first) (p.0.0 ∷ p.1.0 ∷ []) (omega (arith, h)) (omega (arith, x, h), (omega (arith, y, h), tt)), ands_free (suc first) ps (omega (arith, h)) (below_tail first p ps b))

-- ---- symbols

name_free : (cs : List ℕ) → IsLine cs → Free 10 cs
name_free [] h = tt
name_free (c ∷ cs) h = (All-head (λ x. x ≢ 10) c cs h, name_free cs (All-tail (λ x. x ≢ 10) c cs h))

symbol_free : (letter k : ℕ) (cs : List ℕ) → letter ≢ 10 → k < 2 ^ 64 → IsLine cs → AllFree (symbol_row letter k cs)
symbol_free letter k [] a l h = tt
symbol_free letter k (c ∷ cs) a l h = ((a, free-append 10 (decimal k) (32 ∷ c ∷ cs) (decimal_free 10 k (omega arith) l) ((λ e. cc), name_free (c ∷ cs) h)), tt)

symbols_free : (letter k : ℕ) (xs : List (List ℕ)) → letter ≢ 10 → k + length xs < 2 ^ 64 → All IsLine xs → AllFree (symbols_text letter k xs)
symbols_free letter k [] a l h = tt
symbols_free letter k (x ∷ xs) a l h =
    all-append (symbol_row letter k x) (symbols_text letter (suc k) xs) (symbol_free letter k x a (omega (arith, l)) (All-head IsLine x xs h))
    (symbols_free letter (suc k) xs a (omega (arith, l)) (All-tail IsLine x xs h))

-- ---- the whole

pub rereads : (a : Circuit) → IsCircuit a → BodyReads a
rereads a c =
    let few = c.few in
    let most = variables a in
    let in_few : 1 + a.inputs ≤ 2 ^ 30 = omega (arith, few) in
    let latch_few : (1 + a.inputs) + length a.nexts ≤ 2 ^ 30 = omega (arith, few) in
    let and_few : base a + length a.ands ≤ 2 ^ 30 = omega (arith, few) in
    let out_few = c.output_count in
    let counts : AllSmall (a.inputs ∷ latches a ∷ length a.outputs ∷ length a.ands ∷ []) = (omega (arith, few), (omega (arith, few), (omega (arith, out_few), (omega (arith, few), tt)))) in
    let top : variables a < 2 ^ 31 = omega (arith, few) in
    let free : AllFree (body_text a) = all-append (input_text 1 a.inputs) _ (inputs_free 1 a.inputs in_few)
    (all-append (latch_text (1 + a.inputs) a.nexts) _ (latches_free most (1 + a.inputs) a.nexts few latch_few c.nexts)
    (all-append (output_text a.outputs) _ (outputs_free most a.outputs few c.outputs) (ands_free (base a) a.ands and_few c.ands))) in
    let named : AllFree (symbol_lines a) = all-append (symbols_text 105 0 a.input_names) _ (symbols_free 105 0 a.input_names (λ e. cc) (let z = c.input_names in omega (arith, z, few)) c.input_lines)
    (all-append (symbols_text 108 0 a.latch_names) _ (symbols_free 108 0 a.latch_names (λ e. cc) (let z = c.latch_names in omega (arith, z, few))
    c.latch_lines) (symbols_free 111 0 a.output_names (λ e. cc) (let z = c.output_names in omega (arith, z, out_few)) c.output_lines)) in
    let head : Free 10 (header_line a) = free-append 10 (codes "aag ")
    (numbers_line (variables a) (a.inputs ∷ latches a ∷ length a.outputs ∷ length a.ands ∷ []))
    ((λ e. cc), ((λ e. cc), ((λ e. cc), ((λ e. cc), tt)))) (line_free (variables a) (a.inputs ∷ latches a ∷ length a.outputs ∷ length a.ands ∷ []) top counts) in
    record {
      lines_are = ap (λ l. text_lines (joined_lines (header_line a ∷ (l ++ symbol_lines a)))) (body_rows a) ∙ lines_joined (header_line a ∷ (body_text a ++ symbol_lines a))
          (head, all-append (body_text a) (symbol_lines a) free named);
      header = (
        numbers_line (variables a) (a.inputs ∷ latches a ∷ length a.outputs ∷ length a.ands ∷ []),
        refl,
        line_numbers (variables a)
            (a.inputs ∷ latches a ∷ length a.outputs ∷ length a.ands ∷ []) top counts,
      );
      good = good-append most (kinds_from Input 1 a.inputs) _ (input_text 1 a.inputs) _ (own_numbers 1 a.inputs) _ (inputs_good most 1 a.inputs in_few)
          (good-append most (kinds_from Latch (1 + a.inputs) (latches a)) _ (latch_text (1 + a.inputs) a.nexts) _
          (latch_numbers (1 + a.inputs) a.nexts) _ (latches_good most (1 + a.inputs) a.nexts few latch_few c.nexts)
          (good-append most (replicate (length a.outputs) Output) _ (output_text a.outputs) _ (output_numbers a.outputs) _
          (outputs_good most a.outputs few c.outputs) (ands_good most (base a) a.ands and_few c.ands)));
    }

-- ---- names

pub places-append : (xs ys : List (List ℕ)) (a b c : Named) → NamePlaces xs a b → NamePlaces ys b c → NamePlaces (xs ++ ys) a c
places-append [] ys a b c h k = subst (λ (x : Named). NamePlaces ys x c) h k
places-append (x ∷ xs) ys a b c h k = (h.0, h.1, places-append xs ys h.0 b c h.2 k)

get_here : (xs ys : List (List ℕ)) (x : List ℕ) (k : ℕ) → length xs ≡ k → slice_get (xs ++ x ∷ ys) k ≡ Some x
get_here [] ys x k l = ap (slice_get (x ∷ ys)) (sym l)
get_here (y ∷ xs) ys x zero l = absurd (omega (arith, l))
get_here (y ∷ xs) ys x (suc k) l = get_here xs ys x k (omega (arith, l))

set_here : (xs ys : List (List ℕ)) (x y : List ℕ) (k : ℕ) → length xs ≡ k → xs ++ y ∷ ys ≡ slice_set (xs ++ x ∷ ys) k y
set_here [] ys x y k l = ap (λ j. slice_set (x ∷ ys) j y) l
set_here (z ∷ xs) ys x y zero l = absurd (omega (arith, l))
set_here (z ∷ xs) ys x y (suc k) l = ap (λ r. z ∷ r) (set_here xs ys x y k (omega (arith, l)))

-- a place that has no name gets one
record Sets (old : List (List ℕ)) (k : ℕ) (name : List ℕ) (new : List (List ℕ)) : Type 0 where
  free : slice_get old k ≡ Some []
  some : name ≢ []
  sets : new ≡ slice_set old k name

-- the names of one sort, where others stay
section_named : (sort : Sort) (put : List (List ℕ) → Named) → ((k : ℕ) (name : List ℕ) (old new : List (List ℕ)) → Sets old k name new → NamesPlace (symbol_line sort k name) (put old) (put new))
    → (pre xs : List (List ℕ)) (k : ℕ) → length pre ≡ k → NamePlaces (symbols_text (letter sort) k xs) (put (pre ++ replicate (length xs) [])) (put (pre ++ xs))
section_named sort put one pre [] k l = refl
section_named sort put one pre ([] ∷ xs) k l =
    let e = length_push pre [] in
    subst (λ a. NamePlaces (symbols_text (letter sort) (suc k) xs) (put a) (put (pre ++ [] ∷ xs))) (append_assoc pre ([] ∷ []) (replicate (length xs) []))
    (subst (λ b. NamePlaces (symbols_text (letter sort) (suc k) xs) (put ((pre ++ [] ∷ []) ++ replicate (length xs) [])) (put b))
    (append_assoc pre ([] ∷ []) xs) (section_named sort put one (pre ++ [] ∷ []) xs (suc k) (omega (arith, e, l))))
section_named sort put one pre ((c ∷ cs) ∷ xs) k l =
    let x : List ℕ = c ∷ cs in
    let e = length_push pre x in
    let rest = replicate (length xs) [] in
    let old = pre ++ [] ∷ rest in
    let new = pre ++ x ∷ rest in
    let s : Sets old k x new = record { free = get_here pre rest [] k l; some = (λ q. cc); sets = set_here pre rest [] x k l } in (
      put new,
      one k x old new s,
      subst (λ a. NamePlaces (symbols_text (letter sort) (suc k) xs) (put a) (put (pre ++ x ∷ xs))) (append_assoc pre (x ∷ []) rest)
          (subst (λ b. NamePlaces (symbols_text (letter sort) (suc k) xs) (put ((pre ++ x ∷ []) ++ rest)) (put b)) (append_assoc pre (x ∷ []) xs)
          (section_named sort put one (pre ++ x ∷ []) xs (suc k) (omega (arith, e, l)))),
    )

abbrev all_of : List (List ℕ) → List (List ℕ) → List (List ℕ) → Named
all_of i l o = record { inputs = i; latches = l; outputs = o }

pub all_named : (a : Circuit) → IsCircuit a → NamePlaces (symbol_lines a) (unnamed (counts_of a)) (named_of a)
all_named a c =
    let i = a.input_names in
    let l = a.latch_names in
    let o = a.output_names in
    let li : length i ≡ a.inputs = c.input_names in
    let ll : length l ≡ latches a = c.latch_names in
    let lo : length o ≡ length a.outputs = c.output_names in
    let start : unnamed (counts_of a) ≡ all_of (replicate (length i) []) (replicate (length l) []) (replicate (length o) []) =
    (λ k. all_of (replicate (sym li k) []) (replicate (sym ll k) []) (replicate (sym lo k) [])) in
    let p = section_named sorts.Input (λ x. all_of x (replicate (length l) []) (replicate (length o) []))
    (λ k name old new s. record {
      sort = sorts.Input;
      place = k;
      name = name;
      is = refl;
      free = s.free;
      some = s.some;
      sets = ap
          (λ x. all_of x (replicate (length l) []) (replicate (length o) [])) s.sets;
    }) [] i 0 refl in
    let q = section_named sorts.Latch (λ x. all_of i x (replicate (length o) []))
    (λ k name old new s. record {
      sort = sorts.Latch;
      place = k;
      name = name;
      is = refl;
      free = s.free;
      some = s.some;
      sets = ap
          (λ x. all_of i x (replicate (length o) [])) s.sets;
    }) [] l 0 refl in
    let r = section_named sorts.Output (λ x. all_of i l x) (λ k name old new s. record
    { sort = sorts.Output; place = k; name = name; is = refl; free = s.free; some = s.some; sets = ap (λ x. all_of i l x) s.sets }) [] o 0 refl in
    subst (λ (x : Named). NamePlaces (symbol_lines a) x (named_of a)) (sym start)
    (places-append (symbols_text 105 0 i) (symbols_text 108 0 l ++ symbols_text 111 0 o)
    (all_of (replicate (length i) []) (replicate (length l) []) (replicate (length o) []))
    (all_of i (replicate (length l) []) (replicate (length o) [])) (all_of i l o) p
    (places-append (symbols_text 108 0 l) (symbols_text 111 0 o) (all_of i (replicate (length l) []) (replicate (length o) [])) (all_of i l (replicate (length o) [])) (all_of i l o) q r))

pub reads_written : (a : Circuit) → IsCircuit a → AigReads (written_circuit a) a
reads_written a c =
    let r = rereads a c in
    record {
      body = body_text a;
      symbols = symbol_lines a;
      rest = [];
      begins = record { head = header_line a; lines_are = r.lines_are ∙ ap (λ l. header_line a ∷ (body_text a ++ l)) (sym (append-nil (symbol_lines a))); header = r.header };
      good = r.good;
      names = all_named a c;
      ends = tt;
    }
