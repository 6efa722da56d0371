-- What the asked probes give at the beginning and at the end of a run.
use Rattle.safl_probe.proofs.Common.{AreApart, Asked, Beginning, End, Files, IsAsked, Netlist, TellsOn, Valuation, after_frames, probe_at}
use Rattle.std.proofs.Common.{◌≡◌, ℕ, List, Option, ap, subst}
use Rattle.safl_probe.specs.Probing.{ProbeState, IsWatching, Tells, begun, begin_text, finish_text}
use Rattle.safl_probe.specs.Growth.{AllGrow, Made, Longer, LongerPart, OldOrPart, Grown, GrownPart}
use Rattle.safl_probe.proofs.Growing.{told_weaker}
use Rattle.safl_probe.proofs.Frames.{watching_more}

-- ---- at the beginning

module _ (m n : Netlist) (e : m ≡ n) (names : Asked) (ps : List ProbeState) where
  pub opened_whole : (x y : Option Files) → (AreApart names → TellsOn (AllGrow (Grown Beginning) names (λ i. begin_text m (probe_at ps i))) x y)
      → AreApart names → TellsOn (AllGrow Made names (λ i. begin_text n (probe_at ps i))) x y
  opened_whole x y h apart =
      subst (λ (k : Netlist). TellsOn (AllGrow Made names (λ i. begin_text k (probe_at ps i))) x y) e
      (told_weaker (AllGrow (Grown Beginning) names (λ i. begin_text m (probe_at ps i))) (AllGrow Made names (λ i. begin_text m (probe_at ps i)))
      (λ a b g. record { files = λ i name k. g.files i name k; others = λ name no. g.others name no }) x y (h apart))

  pub opened_part : (x y : Option Files) → (AreApart names → TellsOn (AllGrow (GrownPart Beginning) names (λ i. begin_text m (probe_at ps i))) x y)
      → AreApart names → TellsOn (AllGrow OldOrPart names (λ i. begin_text n (probe_at ps i))) x y
  opened_part x y h apart =
      subst (λ (k : Netlist). TellsOn (AllGrow OldOrPart names (λ i. begin_text k (probe_at ps i))) x y) e
      (told_weaker (AllGrow (GrownPart Beginning) names (λ i. begin_text m (probe_at ps i))) (AllGrow OldOrPart names (λ i. begin_text m (probe_at ps i)))
      (λ a b g. record { files = λ i name k. g.files i name k; others = λ name no. g.others name no }) x y (h apart))

  pub told_begun : (qs : List ProbeState) → ((i : ℕ) (name : List ℕ) → IsAsked names i name → Tells (begun m (probe_at ps i)) (probe_at qs i))
      → (i : ℕ) (name : List ℕ) → IsAsked names i name → Tells (begun n (probe_at ps i)) (probe_at qs i)
  told_begun qs h i name k = subst (λ (l : Netlist). Tells (begun l (probe_at ps i)) (probe_at qs i)) e (h i name k)

-- ---- at the end

module _ (names : Asked) (ps : List ProbeState) where
  pub closed_whole : (x y : Option Files) → (AreApart names → TellsOn (AllGrow (Grown End) names (λ i. finish_text (probe_at ps i))) x y)
      → AreApart names → TellsOn (AllGrow Longer names (λ i. finish_text (probe_at ps i))) x y
  closed_whole x y h apart =
      told_weaker (AllGrow (Grown End) names (λ i. finish_text (probe_at ps i))) (AllGrow Longer names (λ i. finish_text (probe_at ps i)))
      (λ a b g. record { files = λ i name k. g.files i name k; others = λ name no. g.others name no }) x y (h apart)

  pub closed_part : (x y : Option Files) → (AreApart names → TellsOn (AllGrow (GrownPart End) names (λ i. finish_text (probe_at ps i))) x y)
      → AreApart names → TellsOn (AllGrow LongerPart names (λ i. finish_text (probe_at ps i))) x y
  closed_part x y h apart =
      told_weaker (AllGrow (GrownPart End) names (λ i. finish_text (probe_at ps i))) (AllGrow LongerPart names (λ i. finish_text (probe_at ps i)))
      (λ a b g. record { files = λ i name k. g.files i name k; others = λ name no. g.others name no }) x y (h apart)

-- a probe that was begun, and was shown frames, may be told of the end
pub can_finish : (n : Netlist) (frames : List Valuation) (p q r : ProbeState) → Tells (begun n p) q → Tells (after_frames frames q) r → IsWatching r
can_finish n frames p q r t u = watching_more frames q r (ap (λ (y : ProbeState). y.stage) t) u
