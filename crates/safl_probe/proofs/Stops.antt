-- Why a run stopped, and what it left, stated from before it.
use Rattle.safl_probe.proofs.Common.{AllGrow, AreApart, Asked, DriveErr, Files, Netlist, ProbeState, Relation, SameReads, ShelfState}
use Rattle.safl_probe.proofs.Common.{TellsOn, Valuation, Word, probe_at, rose_later}
use Rattle.std.proofs.Common.{◌≡◌, ℕ, List, map, Option, sym, subst, ◌∙◌}
use Rattle.safl_probe.specs.Runs.{AreShown, IsRunOf, trace_at, until_done}
use Rattle.safl_probe.specs.Stopping.{Stopped, SameProbes, KeepsProbes}
use Rattle.safl_probe.specs.declared.drive_err.DriveErr.TheVariants as why

-- a failure of a later part of a run, where the probes and the shelf were others at its beginning
pub stopped_later : (e : DriveErr) (names : Asked) (ps qs rs : List ProbeState) (a b c : ShelfState) → SameProbes ps qs → SameReads a b → Stopped e names qs rs b c → Stopped e names ps rs a c
stopped_later (why.Probe kind) names ps qs rs a b c s r h = record {
  place = h.place;
  name = h.name;
  asked = h.asked;
  of_kind = sym (s.kinds h.place) ∙ h.of_kind;
  rose = rose_later (probe_at ps h.place).faults (probe_at qs h.place).faults (probe_at rs h.place).faults (s.faults h.place) h.rose;
  failed = h.failed;
}
stopped_later (why.Write place) names ps qs rs a b c s r h = record { name = h.name; asked = h.asked; rose = rose_later a.write_faults b.write_faults c.write_faults r.writes h.rose }
stopped_later why.NoMemory names ps qs rs a b c s r h = tt

-- the probes of a list, of which a slice was lent
module _ (P : Type 0) (st : P → ProbeState) (old lent new back : List P) (e : lent ≡ old) (f : back ≡ new) where
  pub lent_probes : (names : Asked) → KeepsProbes names st lent new → KeepsProbes names st old back
  lent_probes names h = subst (λ (l : List P). KeepsProbes names st l back) e (subst (λ (l : List P). KeepsProbes names st lent l) (sym f) h)

  pub lent_stopped : (k : DriveErr) (names : Asked) (a b : ShelfState) → Stopped k names (map st lent) (map st new) a b → Stopped k names (map st old) (map st back) a b
  lent_stopped k names a b h =
      subst (λ (l : List P). Stopped k names (map st l) (map st back) a b) e (subst (λ (l : List P). Stopped k names (map st lent) (map st l) a b) (sym f) h)

  pub lent_traces : (R : Relation) (n : Netlist) (args : List Word) (limit : ℕ) (names : Asked) (x y : Option Files)
      → ((vs : List Valuation) → IsRunOf n args limit vs → AreApart names → TellsOn (AllGrow R names (trace_at n vs (map st lent))) x y)
      → (vs : List Valuation) → IsRunOf n args limit vs → AreApart names → TellsOn (AllGrow R names (trace_at n vs (map st old))) x y
  lent_traces R n args limit names x y h vs r apart = subst (λ (l : List P). TellsOn (AllGrow R names (trace_at n vs (map st l))) x y) e (h vs r apart)

  pub lent_told : (n : Netlist) (args : List Word) (limit : ℕ) (names : Asked)
      → ((vs : List Valuation) → IsRunOf n args limit vs → AreShown n (until_done n vs) names (map st lent) (map st new))
      → (vs : List Valuation) → IsRunOf n args limit vs → AreShown n (until_done n vs) names (map st old) (map st back)
  lent_told n args limit names h vs r =
      subst (λ (l : List P). AreShown n (until_done n vs) names (map st l) (map st back)) e
      (subst (λ (l : List P). AreShown n (until_done n vs) names (map st lent) (map st l)) (sym f) (h vs r))
