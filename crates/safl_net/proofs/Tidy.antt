-- Tidy nets, and names of temporaries.
use Rattle.safl_net.proofs.Common.{Netlist, Signal, get_pushed, nat_tests, slice_get_within, with_output, with_signal}
use Rattle.std.proofs.Common.{◌≡◌, ℕ, zero, suc, ◌+◌, ◌<◌, ◌≤◌, ◌^◌, ◌%◌, List, [], ◌∷◌, ◌++◌, length, take, decimal, Some, Result, Ok, Err, OnOk}
use Rattle.std.proofs.Common.{OnErr, Bool, true, false, ◌||◌, ◌&&◌, ◌==◌, nat_le, inl, inr, slice_get, refl, sym, ap, subst, ◌∙◌, arith}
use Rattle.std.proofs.lemmas.List.{take-append-le, take_at}
use Rattle.std.proofs.lemmas.Fmt.{decimal_injective, decimal_by_steps, length-decimal-le}
use Rattle.std.proofs.lemmas.Bool.{and_from}
use Rattle.safl_word.proofs.Booleans.{all_three}
use Rattle.safl_net.specs.Names.{is_good, is_reserved, are_parts, is_part, is_start, is_temp, temp_name, has_name, one_wire, wires, IsTidy}
use Rattle.safl_net.proofs.Naming.{has_no_name}

wires_before : (gs : List Signal) (s : ℕ) (g : Signal) → slice_get gs s ≡ Some g → wires (take s gs) + one_wire g.kind ≤ wires gs
wires_before [] s g e = absurd (cc)
wires_before (h ∷ gs) zero g e =
    let q : h ≡ g = cc in
    let w = ap (λ (x : Signal). one_wire x.kind) q in
    omega (arith, w)
wires_before (h ∷ gs) (suc s) g e = let q = wires_before gs s g e in omega (arith, q)

temp_is : (a b : List ℕ) → 110 ∷ 36 ∷ a ≡ 110 ∷ 36 ∷ b → a ≡ b
temp_is a b e = cc

-- the next temporary's name is free
pub temp_free : (n : Netlist) → IsTidy n → wires n.signals < 2 ^ 64 → has_name n (temp_name (wires n.signals)) ≡ false
temp_free n t few = has_no_name n (temp_name (wires n.signals)) (record {
  signals = λ s g e f.
      let q = t.signals s g e (sym (ap is_temp f)) in
      let b = wires_before n.signals s g e in
      let one = q.0 in
      let same = decimal_injective (wires n.signals) (wires (take s n.signals)) few (omega (arith, few, b)) (temp_is _ _ (f ∙ q.1)) in
      absurd (omega (arith, same, b, one));
  outputs = λ i o e f. let q = ap is_temp f ∙ t.outputs i o e in absurd (cc);
})

pub tidy_pushed : (n : Netlist) (g : Signal) → IsTidy n → (is_temp g.name ≡ true → (one_wire g.kind ≡ 1) × (g.name ≡ temp_name (wires n.signals))) → IsTidy (with_signal n g)
tidy_pushed n g t h = record {
  signals = λ s k e f. elim (get_pushed n.signals g k s e) [
    | inl q ↦
        let r = t.signals s k q f in
        let here = slice_get_within n.signals s k q in
        (r.0, r.1 ∙ ap (λ gs. temp_name (wires gs)) (sym (take-append-le s n.signals (g ∷ []) (omega (arith, here)))))
    | inr q ↦
        let r = h (sym (ap (λ (x : Signal). is_temp x.name) q.1) ∙ f) in (
          ap (λ (x : Signal). one_wire x.kind) q.1 ∙ r.0,
          ap (λ (x : Signal). x.name) q.1 ∙ r.1 ∙ ap (λ gs. temp_name (wires gs)) (sym (take_at n.signals (g ∷ []) s (sym q.0))),
        )
  ];
  outputs = t.outputs;
}

-- a signal of another name
pub tidy_named : (n : Netlist) (g : Signal) → IsTidy n → is_temp g.name ≡ false → IsTidy (with_signal n g)
tidy_named n g t e = tidy_pushed n g t (λ f. absurd (let q = sym e ∙ f in cc))

-- the next temporary
pub tidy_temp : (n : Netlist) (g : Signal) → IsTidy n → one_wire g.kind ≡ 1 → g.name ≡ temp_name (wires n.signals) → IsTidy (with_signal n g)
tidy_temp n g t e f = tidy_pushed n g t (λ h. (e, f))

pub tidy_made : {A E : Type 0} (r : Result A E) (n m : Netlist) (g : Signal) → OnOk r (m ≡ with_signal n g) → OnErr r (m ≡ n) → IsTidy n → one_wire
    g.kind ≡ 1 → g.name ≡ temp_name (wires n.signals) → IsTidy m
tidy_made (Ok x) n m g a b t e f = subst IsTidy (sym a) (tidy_temp n g t e f)
tidy_made (Err x) n m g a b t e f = subst IsTidy (sym b) t

-- an output of another name
pub tidy_output : (n : Netlist) (name : List ℕ) (s : ℕ) → IsTidy n → is_temp name ≡ false → IsTidy (with_output n name s)
tidy_output n name s t e = record {
  signals = t.signals;
  outputs = λ i o f. elim (get_pushed n.outputs (name, s) o i f) [
    | inl q ↦ t.outputs i o q
    | inr q ↦ ap (λ (x : List ℕ × ℕ). is_temp x.0) q.1 ∙ e
  ];
}

digit_part : (b : ℕ) → 48 ≤ b → b ≤ 57 → is_part b ≡ true
digit_part b h k = by (is_start b) (nat_le 48 b) (nat_le b 57) (grind (arith, nat_tests)) (grind (arith, nat_tests))
  where
    by : (a c d : Bool) → c ≡ true → d ≡ true → (a || (c && d) || (b == 36)) ≡ true
    by true c d e f = refl
    by false true true e f = refl
    by false true false e f = absurd (cc)
    by false false d e f = absurd (cc)

parts_push : (ds : List ℕ) (d : ℕ) → are_parts ds ≡ true → is_part d ≡ true → are_parts (ds ++ d ∷ []) ≡ true
parts_push [] d e f = and_from (is_part d) true f refl
parts_push (c ∷ ds) d e f = by (is_part c) e (λ r. parts_push ds d r f)
  where
    by : (a : Bool) → (a && are_parts ds) ≡ true → (are_parts ds ≡ true → are_parts (ds ++ d ∷ []) ≡ true) → (a && are_parts (ds ++ d ∷ [])) ≡ true
    by true r k = k r
    by false r k = absurd (cc)

decimal_parts : (n : ℕ) → n < 2 ^ 64 → are_parts (decimal n) ≡ true
decimal_parts n h = decimal_by_steps (λ m ds. are_parts ds ≡ true)
    (λ m k. parts_push [] (48 + m) refl (digit_part (48 + m) (omega arith) (omega (arith, k))))
    (λ m ds k e. parts_push ds (48 + m % 10) e (digit_part (48 + m % 10) (omega arith) (omega arith)))
    n h

-- the names of temporaries are good
pub temp_good : (i : ℕ) → i < 2 ^ 32 → is_good (temp_name i) ≡ true
unfolding is_good is_reserved
temp_good i h =
    let long = length-decimal-le 10 i (omega arith) (omega (arith, h)) (omega (arith, h)) in
    all_three (are_parts (decimal i)) (nat_le (length (temp_name i)) 200) true (decimal_parts i (omega (arith, h))) (grind (arith, nat_tests)) refl
