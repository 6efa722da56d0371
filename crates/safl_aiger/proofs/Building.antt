-- The circuit of lines that were read.
use Rattle.safl_aiger.proofs.Common.{LineKind, Lit, Sort}
use Rattle.std.proofs.Common.{◌≡◌, ◌≢◌, ℕ, zero, suc, ◌+◌, ◌*◌, ◌^◌, ◌<◌, ◌≤◌, ◌==◌, List, [], ◌∷◌, ◌++◌, length, replicate, decimal, slice_get, Some}
use Rattle.std.proofs.Common.{Bool, true, false, cond, refl, sym, ap, ◌∙◌, subst, arith, length-append}
use Rattle.std.specs.List.{All}
use Rattle.std.proofs.lemmas.List.{length-replicate, length-set}
use Rattle.std.proofs.lemmas.List.Elements.{All-nil, All-cons, All-replicate, All-set}
use Rattle.safl_aiger.specs.declared.reading.LineKind.TheVariants.{Input, Latch, Output, And}
use Rattle.safl_aiger.specs.declared.symbols.Sort.TheVariants as sorts
use Rattle.safl_aiger.specs.Circuits.{Circuit, latches, variables, base, IsLine, AreBelow, IsCircuit}
use Rattle.safl_aiger.specs.Lines.{grown, text_lines, fields, HasNumbers}
use Rattle.safl_aiger.specs.Reads.{Counts, IsGood, line_kinds, AreGood, kinds_from, own_numbers, latch_numbers, output_numbers, and_numbers}
use Rattle.safl_aiger.specs.Reads.{body_numbers, counts_of, Named, NamesPlace, NamePlaces, with_name, symbol_line, unnamed, named_of}
use Rattle.safl_aiger.proofs.Cutting.{Free, decimals_small}
use Rattle.safl_aiger.proofs.Passing.{kinds_long}

-- ---- parts of lines

-- the lines of the first kinds and of the others
pub record Parts (most : ℕ) (ws vs : List LineKind) (ls nss mss : List (List ℕ)) : Type 0 where
  pub first : List (List ℕ)
  pub second : List (List ℕ)
  pub is : ls ≡ first ++ second
  pub first_good : AreGood most ws first nss
  pub second_good : AreGood most vs second mss

pub parts : (most : ℕ) (ws vs : List LineKind) (ls nss mss : List (List ℕ)) → length ws ≡ length nss → AreGood most (ws ++ vs) ls (nss ++ mss) → Parts most ws vs ls nss mss
parts most [] vs ls [] mss l g = record { first = []; second = ls; is = refl; first_good = tt; second_good = g }
parts most [] vs ls (n ∷ nss) mss l g = absurd (omega (arith, l))
parts most (w ∷ ws) vs ls [] mss l g = absurd (omega (arith, l))
parts most (w ∷ ws) vs [] (n ∷ nss) mss l g = absurd g
parts most (w ∷ ws) vs (x ∷ ls) (n ∷ nss) mss l g =
    let p = parts most ws vs ls nss mss (omega (arith, l)) g.2 in
    record { first = x ∷ p.first; second = p.second; is = ap (λ r. x ∷ r) p.is; first_good = (g.0, g.1, p.first_good); second_good = p.second_good }

pub good_long : (most : ℕ) (ws : List LineKind) (ls nss : List (List ℕ)) → AreGood most ws ls nss → length ls ≡ length ws
good_long most [] [] [] g = refl
good_long most [] [] (n ∷ nss) g = absurd g
good_long most [] (l ∷ ls) nss g = absurd g
good_long most (w ∷ ws) [] nss g = absurd g
good_long most (w ∷ ws) (l ∷ ls) [] g = absurd g
good_long most (w ∷ ws) (l ∷ ls) (n ∷ nss) g = ap suc (good_long most ws ls nss g.2)

pub own_long : (first k : ℕ) → length (own_numbers first k) ≡ k
own_long first zero = refl
own_long first (suc k) = ap suc (own_long (suc first) k)

pub latch_long : (first : ℕ) (ls : List Lit) → length (latch_numbers first ls) ≡ length ls
latch_long first [] = refl
latch_long first (l ∷ ls) = ap suc (latch_long (suc first) ls)

pub output_long : (ls : List Lit) → length (output_numbers ls) ≡ length ls
output_long [] = refl
output_long (l ∷ ls) = ap suc (output_long ls)

pub kinds_count : (c : Counts) → length (line_kinds c) ≡ c.inputs + c.latches + c.outputs + c.ands
kinds_count c =
    let one = kinds_from Input 1 c.inputs in
    let two = kinds_from Latch (1 + c.inputs) c.latches in
    let three : List LineKind = replicate c.outputs Output in
    let four = kinds_from And (1 + c.inputs + c.latches) c.ands in
    let a = length-append one (two ++ (three ++ four)) in
    let b = length-append two (three ++ four) in
    let d = length-append three four in
    let i = kinds_long Input 1 c.inputs in
    let l = kinds_long Latch (1 + c.inputs) c.latches in
    let o : length three ≡ c.outputs = length-replicate c.outputs Output in
    let n = kinds_long And (1 + c.inputs + c.latches) c.ands in
    omega (arith, a, b, d, i, l, o, n)

-- ---- each section

latches_low : (most first : ℕ) (ls : List Lit) (xs : List (List ℕ)) → AreGood most (kinds_from Latch first (length ls)) xs (latch_numbers first ls) → All (λ (l : Lit). l.0 ≤ 2 * most + 1) ls
latches_low most first [] xs g = All-nil (λ (l : Lit). l.0 ≤ 2 * most + 1)
latches_low most first (l ∷ ls) [] g = absurd g
latches_low most first (l ∷ ls) (x ∷ xs) g = All-cons (λ (l : Lit). l.0 ≤ 2 * most + 1) l ls g.1.1 (latches_low most (suc first) ls xs g.2)

outputs_low : (most : ℕ) (ls : List Lit) (xs : List (List ℕ)) → AreGood most (replicate (length ls) Output) xs (output_numbers ls) → All (λ (l : Lit). l.0 ≤ 2 * most + 1) ls
outputs_low most [] xs g = All-nil (λ (l : Lit). l.0 ≤ 2 * most + 1)
outputs_low most (l ∷ ls) [] g = absurd g
outputs_low most (l ∷ ls) (x ∷ xs) g = All-cons (λ (l : Lit). l.0 ≤ 2 * most + 1) l ls g.1 (outputs_low most ls xs g.2)

ands_below : (most first : ℕ) (ps : List (Lit × Lit)) (xs : List (List ℕ)) → AreGood most (kinds_from And first (length ps)) xs (and_numbers first ps) → AreBelow first ps
ands_below most first [] xs g = λ k p e. absurd (cc)
ands_below most first (q ∷ ps) [] g = absurd g
ands_below most first (q ∷ ps) (x ∷ xs) g = by (ands_below most (suc first) ps xs g.2)
  where
    by : AreBelow (suc first) ps → (k : ℕ) (p : Lit × Lit) → slice_get (q ∷ ps) k ≡ Some p → (p.0.0 < 2 * (first + k)) × (p.1.0 < 2 * (first + k))
    by rest zero p e =
        let h : q ≡ p = cc in
        let a = g.1.1 in
        let b = g.1.2 in
        subst (λ (r : Lit × Lit). (r.0.0 < 2 * (first + 0)) × (r.1.0 < 2 * (first + 0))) h (omega (arith, a), omega (arith, b))
    by rest (suc k) p e =
        let r = rest k p e in
        let a = r.0 in
        let b = r.1 in
        (omega (arith, a), omega (arith, b))

-- the own literal of a section's last line is a decimal, so that it is below 2 to the 31st
last_small : (most : ℕ) (f : ℕ → LineKind) → ((v : ℕ) (l ns : List ℕ) → HasNumbers l ns → IsGood most (f v) ns → 2 * v < 2 ^ 31) → (first k : ℕ)
    (xs nss : List (List ℕ)) → AreGood most (kinds_from f first k) xs nss → 1 ≤ k → first + k ≤ 2 ^ 30
last_small most f small first zero xs nss g h = absurd (omega (arith, h))
last_small most f small first (suc k) [] nss g h = absurd g
last_small most f small first (suc k) (x ∷ xs) [] g h = absurd g
last_small most f small first (suc zero) (x ∷ xs) (n ∷ nss) g h = let z = small first x n g.0 g.1 in omega (arith, z)
last_small most f small first (suc (suc k)) (x ∷ xs) (n ∷ nss) g h = let z = last_small most f small (suc first) (suc k) xs nss g.2 (omega arith) in omega (arith, z)

input_small : (most v : ℕ) (l ns : List ℕ) → HasNumbers l ns → IsGood most (Input v) ns → 2 * v < 2 ^ 31
input_small most v l [] h g = absurd g
input_small most v l (x ∷ []) h g = let z = decimals_small (fields l) (x ∷ []) 0 x h refl in omega (arith, z, g)
input_small most v l (x ∷ (y ∷ ns)) h g = absurd g

latch_small : (most v : ℕ) (l ns : List ℕ) → HasNumbers l ns → IsGood most (Latch v) ns → 2 * v < 2 ^ 31
latch_small most v l [] h g = absurd g
latch_small most v l (x ∷ []) h g = absurd g
latch_small most v l (x ∷ (y ∷ [])) h g = let z = decimals_small (fields l) (x ∷ (y ∷ [])) 0 x h refl in let e = g.0 in omega (arith, z, e)
latch_small most v l (x ∷ (y ∷ (u ∷ ns))) h g = absurd g

and_small : (most v : ℕ) (l ns : List ℕ) → HasNumbers l ns → IsGood most (And v) ns → 2 * v < 2 ^ 31
and_small most v l [] h g = absurd g
and_small most v l (x ∷ []) h g = absurd g
and_small most v l (x ∷ (y ∷ [])) h g = absurd g
and_small most v l (x ∷ (y ∷ (u ∷ []))) h g = let z = decimals_small (fields l) (x ∷ (y ∷ (u ∷ []))) 0 x h refl in let e = g.0 in omega (arith, z, e)
and_small most v l (x ∷ (y ∷ (u ∷ (w ∷ ns)))) h g = absurd g

-- ---- names

-- lines without a line feed
abbrev pub AllFree : List (List ℕ) → Type 0
AllFree [] = Unit {0}
AllFree (l ∷ ls) = Free 10 l × AllFree ls

grown_free : (c : ℕ) (ls : List (List ℕ)) → c ≢ 10 → AllFree ls → AllFree (grown c ls)
grown_free c [] h f = ((h, tt), tt)
grown_free c (l ∷ ls) h f = ((h, f.0), f.1)

pub lines_free : (t : List ℕ) → AllFree (text_lines t)
lines_free [] = tt
lines_free (c ∷ t) = by (c == 10) refl (lines_free t)
  where
    by : (b : Bool) → (c == 10) ≡ b → AllFree (text_lines t) → AllFree (cond b ([] ∷ text_lines t) (grown c (text_lines t)))
    by true e f = (tt, f)
    by false e f = grown_free c (text_lines t) (λ q. let z : (c == 10) ≡ true = ap (λ x. x == 10) q in cc) f

pub free_parts : (xs ys : List (List ℕ)) → AllFree (xs ++ ys) → AllFree xs × AllFree ys
free_parts [] ys f = (tt, f)
free_parts (x ∷ xs) ys f = let r = free_parts xs ys f.1 in ((f.0, r.0), r.1)

free_behind : (u : List ℕ) (c : ℕ) (x : List ℕ) → Free 10 (u ++ c ∷ x) → Free 10 x
free_behind [] c x f = f.1
free_behind (a ∷ u) c x f = free_behind u c x f.1

line_is : (cs : List ℕ) → Free 10 cs → IsLine cs
line_is [] f = All-nil (λ x. x ≢ 10)
line_is (c ∷ cs) f = All-cons (λ x. x ≢ 10) c cs f.0 (line_is cs f.1)

-- as many names as places, and no line feed in them
pub record NamesFit (c : Counts) (n : Named) : Type 0 where
  pub inputs : length n.inputs ≡ c.inputs
  pub latches : length n.latches ≡ c.latches
  pub outputs : length n.outputs ≡ c.outputs
  pub input_lines : All IsLine n.inputs
  pub latch_lines : All IsLine n.latches
  pub output_lines : All IsLine n.outputs

unnamed_fit : (c : Counts) → NamesFit c (unnamed c)
unnamed_fit c = record {
  inputs = length-replicate c.inputs [];
  latches = length-replicate c.latches [];
  outputs = length-replicate c.outputs [];
  input_lines = All-replicate IsLine c.inputs [] (All-nil (λ x. x ≢ 10));
  latch_lines = All-replicate IsLine c.latches [] (All-nil (λ x. x ≢ 10));
  output_lines = All-replicate IsLine c.outputs [] (All-nil (λ x. x ≢ 10));
}

with_fit : (c : Counts) (s : Sort) (k : ℕ) (name : List ℕ) (old : Named) → IsLine name → NamesFit c old → NamesFit c (with_name s k name old)
with_fit c sorts.Input k name old l f = record {
  inputs = length-set old.inputs k name ∙ f.inputs;
  latches = f.latches;
  outputs = f.outputs;
  input_lines = All-set IsLine old.inputs k name l f.input_lines;
  latch_lines = f.latch_lines;
  output_lines = f.output_lines;
}
with_fit c sorts.Latch k name old l f = record {
  inputs = f.inputs;
  latches = length-set old.latches k name ∙ f.latches;
  outputs = f.outputs;
  input_lines = f.input_lines;
  latch_lines = All-set IsLine old.latches k name l f.latch_lines;
  output_lines = f.output_lines;
}
with_fit c sorts.Output k name old l f = record {
  inputs = f.inputs;
  latches = f.latches;
  outputs = length-set old.outputs k name ∙ f.outputs;
  input_lines = f.input_lines;
  latch_lines = f.latch_lines;
  output_lines = All-set IsLine old.outputs k name l f.output_lines;
}

name_free : (s : Sort) (k : ℕ) (name : List ℕ) → Free 10 (symbol_line s k name) → Free 10 name
name_free sorts.Input k name f = free_behind (105 ∷ decimal k) 32 name f
name_free sorts.Latch k name f = free_behind (108 ∷ decimal k) 32 name f
name_free sorts.Output k name f = free_behind (111 ∷ decimal k) 32 name f

place_fits : (c : Counts) (line : List ℕ) (old new : Named) → Free 10 line → NamesPlace line old new → NamesFit c old → NamesFit c new
place_fits c line old new f p n = subst (λ (x : Named). NamesFit c x) (sym p.sets)
    (with_fit c p.sort p.place p.name old (line_is p.name (name_free p.sort p.place p.name (subst (λ (x : List ℕ). Free 10 x) p.is f))) n)

places_fit : (c : Counts) (ls : List (List ℕ)) (old new : Named) → AllFree ls → NamePlaces ls old new → NamesFit c old → NamesFit c new
places_fit c [] old new f p n = subst (λ (x : Named). NamesFit c x) (sym p) n
places_fit c (l ∷ ls) old new f p n = places_fit c ls p.0 new f.1 p.2 (place_fits c l old p.0 f.0 p.1 n)

pub names_fit : (c : Counts) (ls : List (List ℕ)) (new : Named) → AllFree ls → NamePlaces ls (unnamed c) new → NamesFit c new
names_fit c ls new f p = places_fit c ls (unnamed c) new f p (unnamed_fit c)

-- ---- the circuit

few : (i l n : ℕ) → (1 ≤ i → 1 + i ≤ 2 ^ 30) → (1 ≤ l → (1 + i) + l ≤ 2 ^ 30) → (1 ≤ n → (1 + i + l) + n ≤ 2 ^ 30) → i + l + n < 2 ^ 30
few zero zero zero a b d = omega arith
few (suc i) zero zero a b d = let z = a (omega arith) in omega (arith, z)
few i (suc l) zero a b d = let z = b (omega arith) in omega (arith, z)
few i l (suc n) a b d = let z = d (omega arith) in omega (arith, z)

pub is_circuit : (a : Circuit) (xs : List (List ℕ)) → AreGood (variables a) (line_kinds (counts_of a)) xs (body_numbers a) → length a.outputs < 2 ^ 31
    → NamesFit (counts_of a) (named_of a) → IsCircuit a
is_circuit a xs g o n =
    let most = variables a in
    let one = kinds_from Input 1 a.inputs in
    let two = kinds_from Latch (1 + a.inputs) (latches a) in
    let three : List LineKind = replicate (length a.outputs) Output in
    let four = kinds_from And (base a) (length a.ands) in
    let n1 = own_numbers 1 a.inputs in
    let n2 = latch_numbers (1 + a.inputs) a.nexts in
    let n3 = output_numbers a.outputs in
    let n4 = and_numbers (base a) a.ands in
    let p = parts most one (two ++ (three ++ four)) xs n1 (n2 ++ (n3 ++ n4)) (kinds_long Input 1 a.inputs ∙ sym (own_long 1 a.inputs)) g in
    let q = parts most two (three ++ four) p.second n2 (n3 ++ n4) (kinds_long Latch (1 + a.inputs) (latches a) ∙ sym (latch_long (1 + a.inputs) a.nexts)) p.second_good in
    let three_long : length three ≡ length n3 = length-replicate (length a.outputs) Output ∙ sym (output_long a.outputs) in
    let r = parts most three four q.second n3 n4 three_long q.second_good in
    record {
      few = few a.inputs (latches a) (length a.ands) (last_small most Input (input_small most) 1 a.inputs p.first n1 p.first_good)
          (last_small most Latch (latch_small most) (1 + a.inputs) (latches a) q.first n2 q.first_good)
          (last_small most And (and_small most) (base a) (length a.ands) r.second n4 r.second_good);
      nexts = latches_low most (1 + a.inputs) a.nexts q.first q.first_good;
      outputs = outputs_low most a.outputs r.first r.first_good;
      output_count = o;
      ands = ands_below most (base a) a.ands r.second r.second_good;
      input_names = n.inputs;
      latch_names = n.latches;
      output_names = n.outputs;
      input_lines = n.input_lines;
      latch_lines = n.latch_lines;
      output_lines = n.output_lines;
    }
