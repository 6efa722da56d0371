-- One cycle more of a run that is watched.
use Rattle.safl_probe.proofs.Common.{Files, Shown, TellsOn, Valuation, cycle_texts, file_of}
use Rattle.std.proofs.Common.{◌≡◌, ℕ, List, [], ◌∷◌, ◌++◌, map, Option, Some, None, OnSome, refl, sym, subst, ◌∙◌, arith}
use Rattle.safl_probe.specs.Probing.{ProbeState, Tells, after_frame, cycle_text}
use Rattle.safl_probe.specs.Asked.{Asked, IsAsked, NoneAsked, AreApart, probe_at}
use Rattle.safl_probe.specs.Growth.{AllGrow, Longer, LongerPart, Grown, GrownPart, AllThere, NowThere}
use Rattle.safl_probe.specs.Stopping.{SameProbes, KeepsProbes}
use Rattle.safl_probe.specs.declared.moment.Moment.TheVariants as moments
use Rattle.safl_probe.proofs.Growing.{told_same, told_weaker, longer_same}
use Rattle.safl_probe.proofs.Frames.{text_more, told_more, all_longer, all_longer_part}

-- the files of the probes that were told of a cycle are longer by its texts
module _ (t : ℕ) (v : Valuation) (names : Asked) (ps : List ProbeState) (x y : Option Files) where
  pub cycle_grown : (AreApart names → TellsOn (AllGrow (Grown (moments.Frame t)) names (λ i. cycle_text v (probe_at ps i))) x y) →
      AreApart names → TellsOn (AllGrow Longer names (λ i. cycle_text v (probe_at ps i))) x y
  cycle_grown h apart =
      told_weaker (AllGrow (Grown (moments.Frame t)) names (λ i. cycle_text v (probe_at ps i))) (AllGrow Longer names (λ i. cycle_text v (probe_at ps i)))
      (λ a b g. record { files = λ i name k. g.files i name k; others = λ name no. g.others name no }) x y (h apart)

  pub cycle_part : (AreApart names → TellsOn (AllGrow (GrownPart (moments.Frame t)) names (λ i. cycle_text v (probe_at ps i))) x y) →
      AreApart names → TellsOn (AllGrow LongerPart names (λ i. cycle_text v (probe_at ps i))) x y
  cycle_part h apart =
      told_weaker (AllGrow (GrownPart (moments.Frame t)) names (λ i. cycle_text v (probe_at ps i))) (AllGrow LongerPart names (λ i. cycle_text v (probe_at ps i)))
      (λ a b g. record { files = λ i name k. g.files i name k; others = λ name no. g.others name no }) x y (h apart)

-- files that are there
pub there_now : (names : Asked) (x : Option Files) → AllThere moments.End names x → TellsOn (λ _ now. NowThere names now) x x
there_now names None h = tt
there_now names (Some a) h = h

pub there_then : (names : Asked) (x y z : Option Files) → TellsOn (λ _ now. NowThere names now) x y →
    (AllThere moments.End names y → TellsOn (λ _ now. NowThere names now) y z) → TellsOn (λ _ now. NowThere names now) x z
there_then names None y z t f = tt
there_then names (Some a) None z t f = absurd t
there_then names (Some a) (Some b) z t f = f t

-- what the probes were shown
module _ (names : Asked) (ps : List ProbeState) where
  pub shown_none : (x : Option Files) → Shown [] names ps ps x x
  shown_none x = record {
    told = λ i name k. refl;
    files = λ apart. told_same (AllGrow Longer names (λ i. [])) (λ a. record { files = λ i name k. longer_same (file_of a name) (file_of a name) refl; others = λ name no. refl }) x x refl;
    there = λ h. there_now names x h;
  }

  -- if no probe is asked, all cycles are shown to all asked ones
  pub shown_unasked : NoneAsked names → (fs : List Valuation) (x : Option Files) → Shown fs names ps ps x x
  shown_unasked none fs x = record {
    told = λ i name k. absurd (none name i k);
    files = λ apart.
        told_same (AllGrow Longer names (λ i. cycle_texts fs (probe_at ps i))) (λ a. record { files = λ i name k. absurd (none name i k); others = λ name no. refl }) x x refl;
    there = λ h. there_now names x h;
  }

  pub shown_more : (fs : List Valuation) (v : Valuation) (qs rs : List ProbeState) (x y z : Option Files) → Shown fs names ps qs x y →
      ((i : ℕ) (name : List ℕ) → IsAsked names i name → Tells (after_frame v (probe_at qs i)) (probe_at rs i))
      → (AreApart names → TellsOn (AllGrow Longer names (λ i. cycle_text v (probe_at qs i))) y z)
      → (AllThere moments.End names y → TellsOn (λ _ now. NowThere names now) y z) → Shown (fs ++ v ∷ []) names ps rs x z
  shown_more fs v qs rs x y z s tells grown there = record {
    told = λ i name k. told_more fs v (probe_at ps i) (probe_at qs i) (probe_at rs i) (s.told i name k) (tells i name k);
    files = λ apart.
        all_longer names (λ i. cycle_texts fs (probe_at ps i)) (λ i. cycle_text v (probe_at qs i)) (λ i. cycle_texts (fs ++ v ∷ []) (probe_at ps i))
        (λ i name k. text_more fs v (probe_at ps i) (probe_at qs i) (s.told i name k)) x y z (s.files apart) (grown apart);
    there = λ h. there_then names x y z (s.there h) there;
  }

  pub shown_part : (fs : List Valuation) (v : Valuation) (qs : List ProbeState) (x y z : Option Files) → Shown fs names ps qs x y →
      (AreApart names → TellsOn (AllGrow LongerPart names (λ i. cycle_text v (probe_at qs i))) y z)
      → AreApart names → TellsOn (AllGrow LongerPart names (λ i. cycle_texts (fs ++ v ∷ []) (probe_at ps i))) x z
  shown_part fs v qs x y z s part apart =
      all_longer_part names (λ i. cycle_texts fs (probe_at ps i)) (λ i. cycle_text v (probe_at qs i)) (λ i. cycle_texts (fs ++ v ∷ []) (probe_at ps i))
      (λ i name k. text_more fs v (probe_at ps i) (probe_at qs i) (s.told i name k)) x y z (s.files apart) (part apart)

pub shown_along : (fs gs : List Valuation) (names : Asked) (ps qs : List ProbeState) (x y : Option Files) → fs ≡ gs → Shown gs names ps qs x y → Shown fs names ps qs x y
shown_along fs gs names ps qs x y e s = subst (λ l. Shown l names ps qs x y) (sym e) s

-- what stays
pub same_then : (ps qs rs : List ProbeState) → SameProbes ps qs → SameProbes qs rs → SameProbes ps rs
same_then ps qs rs f g = record {
  count = g.count ∙ f.count;
  kinds = λ i. g.kinds i ∙ f.kinds i;
  faults = λ i. let a = f.faults i in let b = g.faults i in omega (arith, a, b);
}

module _ {P : Type 0} (names : Asked) (tell : P → ProbeState) where
  pub kept_then : (ps qs rs : List P) → KeepsProbes names tell ps qs → KeepsProbes names tell qs rs → KeepsProbes names tell ps rs
  kept_then ps qs rs f g = record {
    probes = same_then (map tell ps) (map tell qs) (map tell rs) f.probes g.probes;
    unasked = λ i none p. g.unasked i none p ∙ f.unasked i none p;
  }

  pub kept_same : (ps : List P) → KeepsProbes names tell ps ps
  kept_same ps = record { probes = record { count = refl; kinds = λ i. refl; faults = λ i. omega arith }; unasked = λ i none p. refl }

pub strays_then : (names : Asked) (x y : Option Files) (before middle after : ℕ) → OnSome x (middle ≡ before) → TellsOn (λ _ now. NowThere names now)
    x y → (AllThere moments.End names y → OnSome y (after ≡ middle)) → OnSome x (after ≡ before)
strays_then names None y before middle after s t f = tt
strays_then names (Some a) None before middle after s t f = absurd t
strays_then names (Some a) (Some b) before middle after s t f = f t ∙ s
