-- Entries of tables by function and by site.
use Rattle.safl_unit.proofs.Common.{CheckedProgram, IsChecked, UnitPins, main_is_last, slice_get_read, unit_for}
use Rattle.std.proofs.Common.{◌≡◌, ℕ, suc, ◌+◌, ◌-◌, ◌<◌, List, length, Some, slice_get, slice_index_or, refl, sym, ap, ◌∙◌, add-one, arith}

-- the registers of the next site's unit, and its own
pub unit_at : (a b : CheckedProgram) (us : List UnitPins) (m r : ℕ) (u : UnitPins) → IsChecked b → b ≡ a → m < b.program.sites → r ≡
    b.program.callee (m + 1) → length us ≡ a.program.functions → u ≡ slice_index_or us r u
    → slice_get us (a.program.callee (suc m)) ≡ Some u
unit_at a b us m r u checked same l q count e =
    let n = (checked.formed.calls (m + 1) (omega arith) (omega (arith, l))).1 in
    let f = ap (λ (x : CheckedProgram). x.program.functions) same in
    let k : r < length us = omega (arith, n, f, q, count) in
    ap (slice_get us) (sym (q ∙ ap (λ (x : CheckedProgram). x.program.callee (m + 1)) same ∙ ap a.program.callee (add-one m))) ∙ slice_get_read us (length us) r u refl k e

pub site_at : {A : Type 0} (ss : List A) (m n : ℕ) (s : A) → m < n → length ss ≡ suc n → s ≡ slice_index_or ss (m + 1) s → slice_get ss (suc m) ≡ Some s
site_at ss m n s l count e = let k : m + 1 < length ss = omega (arith, l, count) in ap (slice_get ss) (sym (add-one m)) ∙ slice_get_read ss (length ss) (m + 1) s refl k e

-- the registers of main's unit
pub main_at : (a b : CheckedProgram) (us : List UnitPins) (n : ℕ) (u : UnitPins) → IsChecked b → b ≡ a → n ≡ b.program.functions → length us ≡
    a.program.functions → u ≡ slice_index_or us (n - 1) u → slice_get us (a.program.main) ≡ Some u
main_at a b us n u checked same q count e =
    let f = ap (λ (x : CheckedProgram). x.program.functions) same in
    let m = main_is_last a in
    let i = checked.formed.main_in in
    let p : n - 1 ≡ a.program.main = omega (arith, f, m, q) in
    let k : n - 1 < length us = omega (arith, f, q, count, i) in
    ap (slice_get us) (sym p) ∙ slice_get_read us (length us) (n - 1) u refl k e

-- the unit of the next site's callee is among the functions
pub place_within : (a b : CheckedProgram) (m r place : ℕ) → IsChecked b → b ≡ a → m < b.program.sites → r ≡ b.program.callee (m + 1) → place ≡ b.program.unit r
    → (place ≡ unit_for a.program (suc m)) × (unit_for a.program (suc m) < a.program.functions)
place_within a b m r place checked same l q e =
    let n = (checked.formed.calls (m + 1) (omega arith) (omega (arith, l))).1 in
    let u = (checked.formed.first (b.program.callee (m + 1)) n).0 in
    let is : place ≡ b.program.unit (b.program.callee (m + 1)) = e ∙ ap b.program.unit q in
    let at : b.program.unit (b.program.callee (m + 1)) ≡ unit_for a.program (suc m) = ap
    (λ (x : CheckedProgram). unit_for x.program (m + 1)) same ∙ ap (unit_for a.program) (add-one m) in
    let f = ap (λ (x : CheckedProgram). x.program.functions) same in
    (is ∙ at, omega (arith, n, u, at, f))
