-- Values of variables, one AND after another.
use Rattle.std.proofs.Common.{◌≡◌, ◌⊎◌, inl, inr, ℕ, zero, suc, ◌+◌, ◌-◌, ◌*◌, ◌/◌, ◌%◌, ◌<◌, ◌≤◌, ◌==◌, List, [], ◌∷◌, ◌++◌, length, get_or, Bool}
use Rattle.std.proofs.Common.{false, not, cond, ◌&&◌, Some, slice_get, refl, sym, ap, ◌∙◌, arith, append_assoc, length-append}
use Rattle.std.specs.List.{AllByRecursion}
use Rattle.std.proofs.lemmas.List.{append-nil, get_or_append_left, get_or_at, length-map, length_push}
use Rattle.std.proofs.lemmas.Bool.{cases_lt}
use Rattle.safl_aiger.specs.declared.literal.Lit.{Lit}
use Rattle.safl_aiger.specs.Literals.{Assignment, on, on_number}
use Rattle.safl_aiger.specs.Circuits.{Circuit, latches, variables, base, AreBelow, IsCircuit}
use Rattle.safl_aiger.specs.Runs.{variable_bits, next_bits, FitsCircuit, all_false, RunsFrom}

-- the values of a list, and false after it
abbrev pub look : List Bool → Assignment
look vs v = get_or vs v false

-- the value of each AND is put after those before it
abbrev pub evaluated : List (Lit × Lit) → List Bool → List Bool
evaluated [] vs = vs
evaluated (p ∷ ps) vs = evaluated ps (vs ++ (on (look vs) p.0 && on (look vs) p.1) ∷ [])

pub evaluated_front : (ps : List (Lit × Lit)) (vs : List Bool) (v : ℕ) → v < length vs → look (evaluated ps vs) v ≡ look vs v
evaluated_front [] vs v h = refl
evaluated_front (p ∷ ps) vs v h =
    let b = on (look vs) p.0 && on (look vs) p.1 in
    evaluated_front ps (vs ++ b ∷ []) v (let e = length_push vs b in omega (arith, e, h)) ∙ get_or_append_left vs (b ∷ []) false v h

-- literals of variables that two values share
pub same_on : (m n : Assignment) (l k : ℕ) → l < 2 * k → ((v : ℕ) → v < k → m v ≡ n v) → on_number m l ≡ on_number n l
same_on m n l k h s = let e = s (l / 2) (omega (arith, h)) in (λ i. cond (l % 2 == 0) (e i) (not (e i)))

pub evaluated_wired : (ps : List (Lit × Lit)) (vs : List Bool) (first : ℕ) → length vs ≡ first → AreBelow first ps → (k : ℕ) (p : Lit × Lit) →
    slice_get ps k ≡ Some p → look (evaluated ps vs) (first + k) ≡ (on (look (evaluated ps vs)) p.0 && on (look (evaluated ps vs)) p.1)
evaluated_wired [] vs first l h k p e = absurd (cc)
evaluated_wired (q ∷ ps) vs first l h zero p e =
    let z : q ≡ p = cc in
    let b = on (look vs) q.0 && on (look vs) q.1 in
    let below = h 0 q refl in
    let all = evaluated (q ∷ ps) vs in
    let old : (v : ℕ) → v < first → look all v ≡ look vs v = λ v u. evaluated_front (q ∷ ps) vs v (omega (arith, l, u)) in
    let here : look all first ≡ b = evaluated_front ps (vs ++ b ∷ []) first (let y = length_push vs b in omega (arith, y, l)) ∙ get_or_at vs b [] false first l in
    let y : first + 0 ≡ first = omega arith in
    ap (look all) y ∙ here
    ∙ sym (λ i. same_on (look all) (look vs) q.0.0 first (let c = below.0 in omega (arith, c)) old i && same_on (look all) (look vs) q.1.0 first (let c = below.1 in omega (arith, c)) old i)
    ∙ ap (λ (r : Lit × Lit). on (look all) r.0 && on (look all) r.1) z
evaluated_wired (q ∷ ps) vs first l h (suc k) p e =
    let b = on (look vs) q.0 && on (look vs) q.1 in
    let y : first + suc k ≡ suc first + k = omega arith in
    ap (look (evaluated (q ∷ ps) vs)) y
    ∙ evaluated_wired ps (vs ++ b ∷ []) (suc first) (length_push vs b ∙ (let z : length vs + 1 ≡ suc first = omega (arith, l) in z))
    (λ j r f. let g = h (suc j) r f in (let u = g.0 in omega (arith, u), let u = g.1 in omega (arith, u))) k p e

-- a stretch of a list, as variables
pub stretch : (xs ys zs : List Bool) (n : ℕ) → length xs ≡ n → variable_bits (look (xs ++ (ys ++ zs))) n (length ys) ≡ ys
stretch xs [] zs n l = refl
stretch xs (y ∷ ys) zs n l =
    let here : look (xs ++ (y ∷ (ys ++ zs))) n ≡ y = get_or_at xs y (ys ++ zs) false n l in
    let rest = stretch (xs ++ y ∷ []) ys zs (suc n) (length_push xs y ∙ (let z : length xs + 1 ≡ suc n = omega (arith, l) in z)) in
    (λ i. here i ∷ (ap (λ w. variable_bits (look w) (suc n) (length ys)) (sym (append_assoc xs (y ∷ []) (ys ++ zs))) ∙ rest) i)

bits_same : (m n : Assignment) (first k : ℕ) → ((v : ℕ) → v < first + k → m v ≡ n v) → variable_bits m first k ≡ variable_bits n first k
bits_same m n first zero h = refl
bits_same m n first (suc k) h = λ i. h first (omega arith) i ∷ bits_same m n (suc first) k (λ v l. h v (omega (arith, l))) i

pub fit : (a : Circuit) → IsCircuit a → (state given : List Bool) → length state ≡ latches a → length given ≡ a.inputs → (m : Assignment) × FitsCircuit a state given m
fit a c state given ls lg =
    let start = (false ∷ given) ++ state in
    let long : length start ≡ base a = length-append (false ∷ given) state ∙ (let z : length (false ∷ given) + length state ≡ base a = omega (arith, ls, lg) in z) in
    let vs = evaluated a.ands start in
    let same : (v : ℕ) → v < base a → look vs v ≡ look start v = λ v l. evaluated_front a.ands start v (omega (arith, l, long)) in (
      look vs,
      record {
        inputs = bits_same (look vs) (look start) 1 a.inputs (λ v l. same v (omega (arith, l))) ∙ ap (variable_bits (look start) 1) (sym lg) ∙ stretch (false ∷ []) given state 1 refl;
        latches = bits_same (look vs) (look start) (1 + a.inputs) (latches a) (λ v l. same v (omega (arith, l))) ∙ ap (variable_bits (look start) (1 + a.inputs)) (sym ls)
            ∙ ap (λ w. variable_bits (look w) (1 + a.inputs) (length state)) (ap (λ w. (false ∷ given) ++ w) (sym (append-nil state))) ∙ stretch
            (false ∷ given) state [] (1 + a.inputs) (let z : length (false ∷ given) ≡ 1 + a.inputs = omega (arith, lg) in z);
        wired = record { bottom = same 0 (omega arith); each = evaluated_wired a.ands start (base a) long c.ands };
      },
    )

-- ---- no two

at_bits : (m n : Assignment) (first k v : ℕ) → variable_bits m first k ≡ variable_bits n first k → first ≤ v → v < first + k → m v ≡ n v
at_bits m n first zero v e l h = absurd (omega (arith, l, h))
at_bits m n first (suc k) v e l h = elim (lower first v l) [
  | inl q ↦ ap m (sym q) ∙ heads e ∙ ap n q
  | inr q ↦ at_bits m n (suc first) k v (tails e) q (omega (arith, h))
]
  where
    lower : (x y : ℕ) → x ≤ y → (x ≡ y) ⊎ (suc x ≤ y)
    lower zero zero h = inl refl
    lower zero (suc y) h = inr (omega arith)
    lower (suc x) zero h = absurd (omega (arith, h))
    lower (suc x) (suc y) h = elim (lower x y (omega (arith, h))) [ inl q ↦ inl (ap suc q) | inr q ↦ inr (omega (arith, q)) ]

    heads : {x y : Bool} {xs ys : List Bool} → (x ∷ xs) ≡ (y ∷ ys) → x ≡ y
    heads e = cc

    tails : {x y : Bool} {xs ys : List Bool} → (x ∷ xs) ≡ (y ∷ ys) → xs ≡ ys
    tails e = cc

there : (ps : List (Lit × Lit)) (k : ℕ) → k < length ps → (p : Lit × Lit) × (slice_get ps k ≡ Some p)
there [] k h = absurd (omega (arith, h))
there (p ∷ ps) zero h = (p, refl)
there (p ∷ ps) (suc k) h = there ps k (omega (arith, h))

pub alone : (a : Circuit) → IsCircuit a → (state given : List Bool) (m n : Assignment) → FitsCircuit a state given m → FitsCircuit a state given n → (k v : ℕ) → v < k → v ≤ variables a → m v ≡ n v
alone a c state given m n f g zero v l h = absurd (omega (arith, l))
alone a c state given m n f g (suc k) zero l h = f.wired.bottom ∙ sym g.wired.bottom
alone a c state given m n f g (suc k) (suc w) l h = elim (cases_lt (suc w) (1 + a.inputs)) [
  | inl x ↦ at_bits m n 1 a.inputs (suc w) (f.inputs ∙ sym g.inputs) (omega arith) (omega (arith, x))
  | inr x ↦ elim (cases_lt (suc w) (base a)) [
    | inl y ↦ at_bits m n (1 + a.inputs) (latches a) (suc w) (f.latches ∙ sym g.latches) x (omega (arith, y))
    | inr y ↦
        let j = suc w - base a in
        let e : base a + j ≡ suc w = omega (arith, y) in
        let t = there a.ands j (omega (arith, y, h)) in
        let b = c.ands j t.0 t.1 in
        let old : (v : ℕ) → v < suc w → m v ≡ n v = λ v u. alone a c state given m n f g k v (omega (arith, u, l)) (omega (arith, u, h)) in
        ap m (sym e) ∙ f.wired.each j t.0 t.1 ∙ (λ i. same_on m n t.0.0.0 (suc w) (let z = b.0 in omega (arith, z, e)) old i && same_on m n t.0.1.0
        (suc w) (let z = b.1 in omega (arith, z, e)) old i) ∙ sym (g.wired.each j t.0 t.1) ∙ ap n e
  ]
]

-- ---- runs

pub false_long : (n : ℕ) → length (all_false n) ≡ n
false_long zero = refl
false_long (suc n) = ap suc (false_long n)

pub run : (a : Circuit) → IsCircuit a → (state : List Bool) → length state ≡ latches a → (xs : List (List Bool)) → AllByRecursion
    (λ x. length x ≡ a.inputs) xs → (ms : List Assignment) × RunsFrom a state xs ms
run a c state l [] h = ([], tt)
run a c state l (x ∷ xs) h =
    let f = fit a c state x l h.0 in
    let r = run a c (next_bits a f.0) (length-map a.nexts (on f.0)) xs h.1 in
    (f.0 ∷ r.0, (f.1, r.1))
