-- Lists of expressions, one by one.
use Rattle.safl_typing.proofs.Common.{Bound, Known, all_flexible, drop_read, flexible, sites, sites_bound, sites_in, take_all}
use Rattle.std.proofs.Common.{◌≡◌, ℕ, zero, suc, ◌+◌, ◌<◌, ◌≤◌, arith, drop, get_or, List, [], ◌∷◌, ◌++◌, length, take, Bool, true, false, refl, sym, ap, ◌∙◌}
use Rattle.std.specs.Prelude.{◌&&◌, min}
use Rattle.safl_typing.specs.declared.expression.Expression as code
use Rattle.safl_typing.specs.declared.heads.Slot as code_slot
use Rattle.safl_typing.specs.Plain.{shown_expression, shown_expressions, shown_bindings}

-- where an element is flexible, the rest decides; where it is not, all are not flexible
flexible_cons : (e : code.Expression) (es : List code.Expression) (b : Bool) → flexible (shown_expression e) ≡ b → all_flexible (shown_expressions (e ∷ es)) ≡ b && all_flexible (shown_expressions es)
flexible_cons e es b q = ap (λ (z : Bool). z && all_flexible (shown_expressions es)) q

pub flexible_next : (es : List code.Expression) (i : ℕ) (e : code.Expression) → i < length es → e ≡ get_or es i e → flexible (shown_expression e) ≡
    true → all_flexible (shown_expressions es) ≡ all_flexible (shown_expressions (drop i es)) → all_flexible (shown_expressions es) ≡ all_flexible
    (shown_expressions (drop (i + 1) es))
flexible_next es i e lt is q h = h ∙ ap (λ (l : List code.Expression). all_flexible (shown_expressions l)) (drop_read es i e lt is) ∙ flexible_cons e (drop (i + 1) es) true q

pub flexible_not : (es : List code.Expression) (i : ℕ) (e : code.Expression) → i < length es → e ≡ get_or es i e → flexible (shown_expression e) ≡
    false → all_flexible (shown_expressions es) ≡ all_flexible (shown_expressions (drop i es)) → all_flexible (shown_expressions es) ≡ false
flexible_not es i e lt is q h = h ∙ ap (λ (l : List code.Expression). all_flexible (shown_expressions l)) (drop_read es i e lt is) ∙ flexible_cons e (drop (i + 1) es) false q

pub upto : (es : List code.Expression) (i : ℕ) (e : code.Expression) → i < length es → e ≡ get_or es i e → take (i + 1) es ≡ take i es ++ e ∷ []
upto [] i e lt is = absurd (omega (arith, lt))
upto (y ∷ ys) zero e lt is = ap (λ (z : code.Expression). z ∷ []) (sym is)
upto (y ∷ ys) (suc i) e lt is =
    let s : suc i + 1 ≡ suc (i + 1) = omega arith in
    ap (λ (j : ℕ). take j (y ∷ ys)) s ∙ ap (λ (l : List code.Expression). y ∷ l) (upto ys i e (omega (arith, lt)) is)

pub slots_upto : (ps : List code_slot.Slot) (i : ℕ) (p : code_slot.Slot) → i < length ps → p ≡ get_or ps i p → take (i + 1) ps ≡ take i ps ++ p ∷ []
slots_upto [] i p lt is = absurd (omega (arith, lt))
slots_upto (y ∷ ys) zero p lt is = ap (λ (z : code_slot.Slot). z ∷ []) (sym is)
slots_upto (y ∷ ys) (suc i) p lt is =
    let s : suc i + 1 ≡ suc (i + 1) = omega arith in
    ap (λ (j : ℕ). take j (y ∷ ys)) s ∙ ap (λ (l : List code_slot.Slot). y ∷ l) (slots_upto ys i p (omega (arith, lt)) is)

bound_upto : (es : List Bound) (i : ℕ) (e : Bound) → i < length es → e ≡ get_or es i e → take (i + 1) es ≡ take i es ++ e ∷ []
bound_upto [] i e lt is = absurd (omega (arith, lt))
bound_upto (y ∷ ys) zero e lt is = ap (λ (z : Bound). z ∷ []) (sym is)
bound_upto (y ∷ ys) (suc i) e lt is =
    let s : suc i + 1 ≡ suc (i + 1) = omega arith in
    ap (λ (j : ℕ). take j (y ∷ ys)) s ∙ ap (λ (l : List Bound). y ∷ l) (bound_upto ys i e (omega (arith, lt)) is)

pub and_true : (a b : Bool) → a ≡ true → (a && b) ≡ b
and_true true b e = refl
and_true false b e = absurd cc

-- ---- sites

sites_end : (k : Known) (xs : List code.Expression) (x : code.Expression) → sites_in k (shown_expressions (xs ++ x ∷ [])) ≡ sites_in k (shown_expressions xs) + sites k (shown_expression x)
sites_end k [] x = omega arith
sites_end k (y ∷ ys) x = omega (arith, sites_end k ys x)

pub sites_next : (k : Known) (es : List code.Expression) (i : ℕ) (e : code.Expression) (counted total next : ℕ) → i < length es → e ≡ get_or es i e →
    total ≡ min 4001 (counted + sites_in k (shown_expressions (take i es))) → next ≡ min 4001 (total + sites k (shown_expression e)) → next ≡ min 4001
    (counted + sites_in k (shown_expressions (take (i + 1) es)))
sites_next k es i e counted total next lt is h q =
    let s : sites_in k (shown_expressions (take (i + 1) es)) ≡ sites_in k (shown_expressions (take i es)) + sites k (shown_expression e) = ap
    (λ (l : List code.Expression). sites_in k (shown_expressions l)) (upto es i e lt is) ∙ sites_end k (take i es) e in
    omega (arith, h, q, s)

pub sites_all : (k : Known) (es : List code.Expression) (i counted total : ℕ) → length es ≤ i → total ≡ min 4001 (counted + sites_in k
    (shown_expressions (take i es))) → total ≡ min 4001 (counted + sites_in k (shown_expressions es))
sites_all k es i counted total le h = h ∙ ap (λ (l : List code.Expression). min 4001 (counted + sites_in k (shown_expressions l))) (take_all i es le)

bound_sites_end : (k : Known) (xs : List Bound) (x : Bound) → sites_bound k (shown_bindings (xs ++ x ∷ [])) ≡ sites_bound k (shown_bindings xs) + sites k (shown_expression x.value)
bound_sites_end k [] x = omega arith
bound_sites_end k (y ∷ ys) x = omega (arith, bound_sites_end k ys x)

pub bound_sites_next : (k : Known) (es : List Bound) (i : ℕ) (e : Bound) (counted total next : ℕ) → i < length es → e ≡ get_or es i e → total ≡ min
    4001 (counted + sites_bound k (shown_bindings (take i es))) → next ≡ min 4001 (total + sites k (shown_expression e.value)) → next ≡ min 4001
    (counted + sites_bound k (shown_bindings (take (i + 1) es)))
bound_sites_next k es i e counted total next lt is h q =
    let s : sites_bound k (shown_bindings (take (i + 1) es)) ≡ sites_bound k (shown_bindings (take i es)) + sites k (shown_expression e.value) = ap
    (λ (l : List Bound). sites_bound k (shown_bindings l)) (bound_upto es i e lt is) ∙ bound_sites_end k (take i es) e in
    omega (arith, h, q, s)

pub bound_sites_all : (k : Known) (es : List Bound) (i counted total : ℕ) → length es ≤ i → total ≡ min 4001 (counted + sites_bound k
    (shown_bindings (take i es))) → total ≡ min 4001 (counted + sites_bound k (shown_bindings es))
bound_sites_all k es i counted total le h = h ∙ ap (λ (l : List Bound). min 4001 (counted + sites_bound k (shown_bindings l))) (take_all i es le)
