-- The names of signals are all different, and there are no more of them than declarations.
use Rattle.safl_vread.proofs.Common.{Each, Sort, each_join, filter, map-append, names, signals_of}
use Rattle.std.proofs.Common.{◌≡◌, suc, ◌+◌, ◌≤◌, List, [], ◌∷◌, ◌++◌, length, Bool, true, false, cond, ◌&&◌, ◌||◌, refl, sym, ap, subst, ◌∙◌, inl, inr, arith, length-append}
use Rattle.safl_verilog.specs.declared.token.Sort.TheVariants as sorts
use Rattle.safl_verilog.specs.Files.{Declaration}
use Rattle.safl_verilog.specs.Faults.{is_data, is_input, is_reg, is_wire, is_signal}
use Rattle.safl_verilog.proofs.Distinct.{Name, Has, Distinct, Apart, has_either, distinct_join}

has_filtered : (p : Declaration → Bool) (ds : List Declaration) (w : Name) → Has w (names (filter p ds)) → Has w (names ds)
has_filtered p [] w h = h
has_filtered p (d ∷ ds) w h = by (p d) h (has_filtered p ds w)
  where
    by : (b : Bool) → Has w (names (cond b (d ∷ filter p ds) (filter p ds))) → (Has w (names (filter p ds)) → Has w (names ds)) → Has w (names (d ∷ ds))
    by true (inl e) k = inl e
    by true (inr h) k = inr (k h)
    by false h k = inr (k h)

distinct_filtered : (p : Declaration → Bool) (ds : List Declaration) → Distinct (names ds) → Distinct (names (filter p ds))
distinct_filtered p [] h = tt
distinct_filtered p (d ∷ ds) h = by (p d) (distinct_filtered p ds h.1)
  where
    by : (b : Bool) → Distinct (names (filter p ds)) → Distinct (names (cond b (d ∷ filter p ds) (filter p ds)))
    by true k = (λ m. h.0 (has_filtered p ds d.name.bytes m), k)
    by false k = k

-- no declaration passes both tests
abbrev Excludes : (Declaration → Bool) → (Declaration → Bool) → Type 0
Excludes p q = (d : Declaration) → p d ≡ true → q d ≡ true → ⊥

filtered_apart : (p q : Declaration → Bool) → Excludes p q → (ds : List Declaration) → Distinct (names ds) → Apart (names (filter p ds)) (names (filter q ds))
filtered_apart p q x [] h = λ w a b. a
filtered_apart p q x (d ∷ ds) h = by (p d) refl (q d) refl (filtered_apart p q x ds h.1)
  where
    by : (a : Bool) → p d ≡ a → (b : Bool) → q d ≡ b → Apart (names (filter p ds)) (names (filter q ds)) → Apart
        (names (cond a (d ∷ filter p ds) (filter p ds))) (names (cond b (d ∷ filter q ds) (filter q ds)))
    by true e true g m w k l = x d e g
    by true e false g m w (inl s) l = h.0 (subst (λ (v : Name). Has v (names ds)) (sym s) (has_filtered q ds w l))
    by true e false g m w (inr k) l = m w k l
    by false e true g m w k (inl s) = h.0 (subst (λ (v : Name). Has v (names ds)) (sym s) (has_filtered p ds w k))
    by false e true g m w k (inr l) = m w k l
    by false e false g m w k l = m w k l

no_data_register : (s : Sort) (a b : Bool) → (is_input s && a && b) ≡ true → is_reg s ≡ true → ⊥
no_data_register sorts.Input a b h k = cc
no_data_register sorts.Output a b h k = cc
no_data_register sorts.Reg a b h k = cc
no_data_register sorts.Wire a b h k = cc

no_data_wire : (s : Sort) (a b : Bool) → (is_input s && a && b) ≡ true → is_wire s ≡ true → ⊥
no_data_wire sorts.Input a b h k = cc
no_data_wire sorts.Output a b h k = cc
no_data_wire sorts.Reg a b h k = cc
no_data_wire sorts.Wire a b h k = cc

no_register_wire : (s : Sort) → is_reg s ≡ true → is_wire s ≡ true → ⊥
no_register_wire sorts.Input h k = cc
no_register_wire sorts.Output h k = cc
no_register_wire sorts.Reg h k = cc
no_register_wire sorts.Wire h k = cc

data_register : Excludes is_data (λ (d : Declaration). is_reg d.sort)
data_register d h k = no_data_register d.sort _ _ h k

data_wire : Excludes is_data (λ (d : Declaration). is_wire d.sort)
data_wire d h k = no_data_wire d.sort _ _ h k

register_wire : Excludes (λ (d : Declaration). is_reg d.sort) (λ (d : Declaration). is_wire d.sort)
register_wire d h k = no_register_wire d.sort h k

pub signals_distinct : (ds : List Declaration) → Distinct (names ds) → Distinct (names (signals_of ds))
signals_distinct ds h =
    let r : Declaration → Bool = λ (d : Declaration). is_reg d.sort in
    let w : Declaration → Bool = λ (d : Declaration). is_wire d.sort in
    let name : Declaration → Name = λ (d : Declaration). d.name.bytes in
    let front : Distinct (names (filter is_data ds) ++ names (filter r ds)) =
    distinct_join (names (filter is_data ds)) (names (filter r ds)) (distinct_filtered is_data ds h) (distinct_filtered r ds h) (filtered_apart is_data r data_register ds h) in
    let all : Distinct ((names (filter is_data ds) ++ names (filter r ds)) ++ names (filter w ds)) =
    distinct_join (names (filter is_data ds) ++ names (filter r ds)) (names (filter w ds)) front (distinct_filtered w ds h)
    (λ (v : Name) a b. elim (has_either v (names (filter is_data ds)) (names (filter r ds)) a) [
      | inl k ↦ filtered_apart is_data w data_wire ds h v k b
      | inr k ↦ filtered_apart r w register_wire ds h v k b
    ]) in
    let joined : names (signals_of ds) ≡ (names (filter is_data ds) ++ names (filter r ds)) ++ names (filter w ds) =
    map-append name (filter is_data ds ++ filter r ds) (filter w ds) ∙ ap (λ (l : List Name). l ++ names (filter w ds)) (map-append name (filter is_data ds) (filter r ds)) in
    subst Distinct (sym joined) all

three_few : (p q r : Declaration → Bool) → Excludes p q → Excludes p r → Excludes q r → (ds : List Declaration) → length (filter p ds) + length (filter q ds) + length (filter r ds) ≤ length ds
three_few p q r x y z [] = omega arith
three_few p q r x y z (d ∷ ds) = by (p d) refl (q d) refl (r d) refl (three_few p q r x y z ds)
  where
    by : (a : Bool) → p d ≡ a → (b : Bool) → q d ≡ b → (c : Bool) → r d ≡ c → length (filter p ds) + length (filter q ds) + length (filter r ds) ≤ length ds
        → length (cond a (d ∷ filter p ds) (filter p ds)) + length (cond b (d ∷ filter q ds) (filter q ds)) + length (cond c (d ∷ filter r ds) (filter r ds)) ≤ suc (length ds)
    by true e true f c g m = absurd (x d e f)
    by true e false f true g m = absurd (y d e g)
    by true e false f false g m = omega (arith, m)
    by false e true f true g m = absurd (z d f g)
    by false e true f false g m = omega (arith, m)
    by false e false f true g m = omega (arith, m)
    by false e false f false g m = omega (arith, m)

pub signals_few : (ds : List Declaration) → length (signals_of ds) ≤ length ds
signals_few ds =
    let r : Declaration → Bool = λ (d : Declaration). is_reg d.sort in
    let w : Declaration → Bool = λ (d : Declaration). is_wire d.sort in
    omega (arith, three_few is_data r w data_register data_wire register_wire ds, length-append (filter is_data ds ++ filter r ds) (filter w ds), length-append (filter is_data ds) (filter r ds))

-- ---- signals pass the test on signals

kept : (p : Declaration → Bool) → ((d : Declaration) → p d ≡ true → is_signal d ≡ true) → (ds : List Declaration) → Each (λ (d : Declaration). is_signal d ≡ true) (filter p ds)
kept p f [] = tt
kept p f (d ∷ ds) = by (p d) refl (kept p f ds)
  where
    by : (b : Bool) → p d ≡ b → Each (λ (d : Declaration). is_signal d ≡ true) (filter p ds) → Each (λ (d : Declaration). is_signal d ≡ true) (cond b (d ∷ filter p ds) (filter p ds))
    by true e k = (f d e, k)
    by false e k = k

or_first : (a b c : Bool) → a ≡ true → (a || b || c) ≡ true
or_first a b c h = rw h refl

or_second : (a b c : Bool) → b ≡ true → (a || b || c) ≡ true
or_second true b c h = refl
or_second false b c h = rw h refl

or_third : (a b c : Bool) → c ≡ true → (a || b || c) ≡ true
or_third true b c h = refl
or_third false true c h = refl
or_third false false c h = h

pub are_signals : (ds : List Declaration) → Each (λ (d : Declaration). is_signal d ≡ true) (signals_of ds)
are_signals ds =
    let r : Declaration → Bool = λ (d : Declaration). is_reg d.sort in
    let w : Declaration → Bool = λ (d : Declaration). is_wire d.sort in
    let P : Declaration → Type 0 = λ (d : Declaration). is_signal d ≡ true in
    each_join P (filter is_data ds ++ filter r ds) (filter w ds)
    (each_join P (filter is_data ds) (filter r ds) (kept is_data (λ d h. or_first (is_data d) (is_reg d.sort) (is_wire d.sort) h) ds)
    (kept r (λ d h. or_second (is_data d) (is_reg d.sort) (is_wire d.sort) h) ds))
    (kept w (λ d h. or_third (is_data d) (is_reg d.sort) (is_wire d.sort) h) ds)
