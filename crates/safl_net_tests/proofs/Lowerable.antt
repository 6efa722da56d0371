-- The body of a function between ports that are inputs.
use Rattle.std.proofs.Common.{◌≡◌, ℕ, zero, suc, ◌+◌, ◌≤◌, ◌<◌, List, [], ◌∷◌, length, slice_get, Some, sym, ap, subst, ◌∙◌, arith}
use Rattle.safl_term.specs.Checked.{CheckedProgram, IsChecked}
use Rattle.safl_term.proofs.HeldByChecked.{few_nodes}
use Rattle.safl_net.specs.declared.cell.Sig.{Sig}
use Rattle.safl_net.specs.declared.cell.SigKind.{SigKind}
use Rattle.safl_net.specs.Netlist.{Netlist, Signal, Kind, Input, Reg, Wire, width_of, width_in}
use Rattle.safl_net.specs.Making.{kind_at, kind_in, sort_of}
use Rattle.safl_net.specs.Growth.{maybe_width}
use Rattle.safl_net.specs.Settled.{IsDriven, IsDrivenIn}
use Rattle.safl_lower.specs.Sources.{IsSource, AreSources}
use Rattle.safl_lower.proofs.Cells.{one_source}
use Rattle.safl_lower.specs.declared.lowered.SitePorts.{SitePorts}
use Rattle.safl_lower.specs.declared.lowered.Ports.{Ports}
use Rattle.safl_lower.specs.Lowering.{Sited}
use Rattle.safl_lower.specs.Bodies.{CanLower}
use Rattle.safl_net_tests.specs.Choices.{ChoosesCall, ArePorts}

-- ---- inputs may be read

driven : (k : Kind) → sort_of k ≡ SigKind.Input → IsDriven k
driven Input e = tt
driven (Reg init next) e = tt
driven (Wire cell) e = absurd (cc)

input_at : (gs : List Signal) (s w : ℕ) → s < length gs → sort_of (kind_in (slice_get gs s)) ≡ SigKind.Input → width_in (slice_get gs s) ≡ w →
    (maybe_width (slice_get gs s) ≡ Some w) × IsDrivenIn (slice_get gs s)
input_at [] s w l k e = absurd (omega (arith, l))
input_at (g ∷ gs) zero w l k e = (ap Some e, driven g.kind k)
input_at (g ∷ gs) (suc s) w l k e = input_at gs s w (omega (arith, l)) k e

pub input_source : (n : Netlist) (s : Sig) (w : ℕ) → s.0 < length n.signals → sort_of (kind_at n s.0) ≡ SigKind.Input → width_of n s.0 ≡ w → IsSource n s w
input_source n s w l k e = let h = input_at n.signals s.0 w l k e in record { width = h.0; steady = h.1 }

-- ---- what the program is like

pub one_byte : (ws : List ℕ) → length ws ≡ 1 → slice_get ws 0 ≡ Some 8 → ws ≡ 8 ∷ []
one_byte [] e g = absurd (cc)
one_byte (w ∷ []) e g = let q : w ≡ 8 = cc in ap (λ x. x ∷ []) q
one_byte (w ∷ v ∷ ws) e g = absurd (omega (arith, e))

-- ---- a function of one byte with two sites

pub able : (c : CheckedProgram) (f : ℕ) (n : Netlist) (P : Ports) (a : Sig) (p q : SitePorts) → IsChecked c → length n.signals ≤ 1000
    → ArePorts n P.run a p q → P.args.items ≡ a ∷ [] → P.sites.items ≡ p ∷ q ∷ [] → ChoosesCall c f → CanLower c f n P
able c f n P a p q h small ports arg sites chooses = record {
  run = ports.run_bit;
  args = subst (λ (xs : List Sig). AreSources n xs (c.program.params f)) (sym arg) (subst (AreSources n (a ∷ [])) (sym chooses.params) (one_source ports.parameter));
  count = ap (λ (ps : List SitePorts). c.first_site f + length ps) sites ∙ chooses.own;
  sites = λ i x at.
      subst (λ (k : ℕ). Sited n x (c.program.result (c.program.callee (k + i)))) (sym chooses.first)
      (by i x (ap (λ (ps : List SitePorts). slice_get ps i) (sym sites) ∙ at));
  room = let k = few_nodes c h f in omega (arith, k, small);
}
  where
    by : (i : ℕ) (x : SitePorts) → slice_get (p ∷ q ∷ []) i ≡ Some x → Sited n x (c.program.result (c.program.callee (1 + i)))
    by zero x e =
        let same : p ≡ x = cc in
        subst (λ (y : SitePorts). Sited n y (c.program.result (c.program.callee 1))) same (subst (Sited n p) (sym chooses.one) ports.first_site)
    by (suc zero) x e =
        let same : q ≡ x = cc in
        subst (λ (y : SitePorts). Sited n y (c.program.result (c.program.callee 2))) same (subst (Sited n q) (sym chooses.two) ports.second_site)
    by (suc (suc i)) x e = absurd (cc)
