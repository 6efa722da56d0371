-- Names of temporaries in a tidy net.
use Rattle.safl_opt.proofs.Common.{IsNetlist, IsTidy, SigKind, is_temp, kind_in, name_in, nat_tests, one_wire, sort_of, wires}
use Rattle.std.proofs.Common.{◌≡◌, ℕ, ◌+◌, ◌<◌, ◌≤◌, ◌^◌, ◌%◌, List, [], ◌∷◌, ◌++◌, take, decimal, Some, Bool, true, false, nat_le, ◌==◌, ◌&&◌, slice_get, refl, ap, ◌∙◌, arith}
use Rattle.std.proofs.lemmas.Fmt.{decimal_by_steps}
use Rattle.std.proofs.lemmas.List.{length-take}
use Rattle.safl_net.specs.Netlist.{Netlist, Signal, Kind, Input, Reg, Wire}
use Rattle.safl_net.proofs.Tables.{wires_few}
use Rattle.safl_opt.specs.Lean.{are_digits, is_numeral, is_numbered, IsTemporary}

pub numbered_temp : (name : List ℕ) → is_numbered name ≡ true → is_temp name ≡ true
numbered_temp [] e = absurd (cc)
numbered_temp (a ∷ []) e = absurd (cc)
numbered_temp (a ∷ (b ∷ ds)) e = by (a == 110) (b == 36) e
  where
    by : (x y : Bool) → (x && y && is_numeral ds) ≡ true → (x && y) ≡ true
    by true true e = refl
    by true false e = absurd (cc)
    by false y e = absurd (cc)

digits_push : (ds : List ℕ) (d : ℕ) → are_digits ds ≡ true → 48 ≤ d → d ≤ 57 → are_digits (ds ++ d ∷ []) ≡ true
digits_push [] d e h k = by (nat_le 48 d) (nat_le d 57) (grind (arith, nat_tests)) (grind (arith, nat_tests))
  where
    by : (x y : Bool) → x ≡ true → y ≡ true → (x && y && true) ≡ true
    by true true p q = refl
    by true false p q = absurd (cc)
    by false y p q = absurd (cc)
digits_push (c ∷ ds) d e h k = by (nat_le 48 c) (nat_le c 57) e (λ r. digits_push ds d r h k)
  where
    by : (x y : Bool) → (x && y && are_digits ds) ≡ true → (are_digits ds ≡ true → are_digits (ds ++ d ∷ []) ≡ true) → (x && y && are_digits (ds ++ d ∷ [])) ≡ true
    by true true e f = f e
    by true false e f = absurd (cc)
    by false y e f = absurd (cc)

some_pushed : (ds : List ℕ) (d : ℕ) → is_numeral (ds ++ d ∷ []) ≡ are_digits (ds ++ d ∷ [])
some_pushed [] d = refl
some_pushed (c ∷ ds) d = refl

numeral_digits : (ds : List ℕ) → is_numeral ds ≡ true → are_digits ds ≡ true
numeral_digits [] e = absurd (cc)
numeral_digits (d ∷ ds) e = e

decimal_numeral : (i : ℕ) → i < 2 ^ 64 → is_numeral (decimal i) ≡ true
decimal_numeral i h = decimal_by_steps (λ m ds. is_numeral ds ≡ true)
    (λ m k. digits_push [] (48 + m) refl (omega arith) (omega (arith, k)))
    (λ m ds k e. some_pushed ds (48 + m % 10) ∙ digits_push ds (48 + m % 10) (numeral_digits ds e) (omega arith) (omega arith))
    i h

-- what is not temporary has another name
pub not_temp : (n : Netlist) → IsNetlist n → IsTidy n → (s : ℕ) (g : Signal) → slice_get n.signals s ≡ Some g → ¬ IsTemporary n s → is_temp g.name ≡ false
not_temp n made_n tidy s g e no_t = by (is_temp g.name) refl
  where
    wire_sort : (k : Kind) → one_wire k ≡ 1 → sort_of k ≡ SigKind.Wire
    wire_sort Input q = absurd (omega (arith, q))
    wire_sort (Reg init next) q = absurd (omega (arith, q))
    wire_sort (Wire cell) q = refl

    few : wires (take s n.signals) < 2 ^ 64
    few =
        let a = wires_few (take s n.signals) in
        let c = length-take s n.signals in
        let d = made_n.few in
        omega (arith, a, c, d)

    by : (c : Bool) → is_temp g.name ≡ c → is_temp g.name ≡ false
    by false q = q
    by true q =
        let t = tidy.signals s g e q in
        absurd (no_t (record {
          wire = ap (λ o. sort_of (kind_in o)) e ∙ wire_sort g.kind t.0;
          name = ap (λ o. is_numbered (name_in o)) e ∙ ap is_numbered t.1 ∙ decimal_numeral (wires (take s n.signals)) few;
        }))
