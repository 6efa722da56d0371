-- The first probe of a kind is asked.
use Rattle.safl_tool.proofs.Common.{IsAsked, TraceKind, kind_of}
use Rattle.std.proofs.Common.{◌≡◌, ℕ, zero, suc, ◌<◌, List, [], ◌∷◌, Bool, true, false, not, Option, Some, None, is_some, refl, ap, ◌∙◌, arith}
use Rattle.std.specs.Prelude.{◌||◌}
use Rattle.safl_probe.specs.declared.kind.TraceKind.TheVariants.{Vcd, Starts, Toggles}
use Rattle.safl_command.specs.Traces.{Traces}
use Rattle.safl_tool.specs.Laws.{kind_at, EachIsAsked, FirstAreAsked}
use Rattle.safl_tool.specs.Tracing.{asked_by, file_of_kind, have_probes, without}
use Rattle.safl_tool.proofs.Asked.{asked_sound, asked_place, still, gone}

first : (t : Traces) (kinds : List ℕ) (i j : ℕ) (name : List ℕ) → IsAsked (asked_by t kinds) i name → j < i → kind_at kinds j ≡ kind_at kinds i → ⊥
first t [] i j name h lt e = cc
first t (m ∷ ms) zero j name h lt e = absurd (omega (arith, lt))
first t (m ∷ ms) (suc i) zero name h lt e =
    gone (kind_of m) t name (ap (file_of_kind (without t (kind_of m))) e ∙ asked_sound (without t (kind_of m)) ms i name h)
first t (m ∷ ms) (suc i) (suc j) name h lt e = first (without t (kind_of m)) ms i j name h (omega (arith, lt)) e

-- a kind without a file
none_given : (t : Traces) (k : TraceKind) → ((name : List ℕ) → file_of_kind t k ≡ Some name → ⊥) → is_some (file_of_kind t k) ≡ false
none_given t k h = go (file_of_kind t k) refl
  where
    go : (o : Option (List ℕ)) → file_of_kind t k ≡ o → is_some (file_of_kind t k) ≡ false
    go None e = ap is_some e
    go (Some name) e = absurd (h name e)

three : (a b c : Bool) → a ≡ false → b ≡ false → c ≡ false → not (a || (b || c)) ≡ true
three false false false e f g = refl
three true b c e f g = absurd (cc)
three false true c e f g = absurd (cc)
three false false true e f g = absurd (cc)

there : (t : Traces) (kinds : List ℕ) → EachIsAsked t kinds → have_probes t kinds ≡ true
there t [] h =
    let none : (k : TraceKind) (name : List ℕ) → file_of_kind t k ≡ Some name → ⊥ = λ k name e. let n : None ≡ Some name = (h k name e).1 in cc in
    three (is_some t.vcd) (is_some t.starts) (is_some t.toggles) (none_given t Vcd (none Vcd)) (none_given t Starts (none Starts)) (none_given t Toggles (none Toggles))
there t (m ∷ ms) h = there (without t (kind_of m)) ms (λ k name e. later k name e (h k name (still (kind_of m) k t name e)))
  where
    later : (k : TraceKind) (name : List ℕ) → file_of_kind (without t (kind_of m)) k ≡ Some name
        → (i : ℕ) × IsAsked (asked_by t (m ∷ ms)) i name × (kind_at (m ∷ ms) i ≡ k)
        → (i : ℕ) × IsAsked (asked_by (without t (kind_of m)) ms) i name × (kind_at ms i ≡ k)
    later k name e (zero, asked, is) = absurd (gone (kind_of m) t name (ap (file_of_kind (without t (kind_of m))) is ∙ e))
    later k name e (suc i, asked, is) = (i, asked, is)

pub first_asked : FirstAreAsked
first_asked t kinds = record { sound = asked_sound t kinds; first = first t kinds; whole = asked_place t kinds; there = there t kinds }
