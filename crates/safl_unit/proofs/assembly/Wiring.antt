-- Named wires that copy what the controls show are as the equations say.
use Rattle.safl_unit.proofs.Common.{Choice, Controls, Cycle, HasControls, IsSource, Names, Netlist, Pins, PinsFit, Program, Sig, UnitPins}
use Rattle.safl_unit.proofs.Common.{Val, Wired, Wires, Word, codes, on, pin, unit_for}
use Rattle.std.proofs.Common.{◌≡◌, ℕ, zero, suc, ◌<◌, ◌≤◌, Some, Bool, true, false, cond, not, is_some, slice_get, ◌==◌, ◌&&◌, refl, sym, ap, ◌∙◌, arith}
use Rattle.safl_net.specs.Valuations.{Valuation, read, read_output}
use Rattle.safl_net.proofs.Growth.{fits}
use Rattle.safl_circuit.specs.Equations.{Registers, Inputs, want, wants_at, go}
use Rattle.safl_calls.specs.Picks.{first}
use Rattle.safl_circuit.specs.Names.{of_function, of_site, bit}

-- each named wire and output has the number of its control
pub record Copied (C : Program) (D : Names) (P : Choice) (n : Netlist) (v : Valuation) (w : Val) (T : Controls) (main : UnitPins) : Type 0 where
  pub ends : (f : ℕ) → f < C.functions → read n v (of_function D (codes "end$") f) ≡ (w (pin T.ends.items f).0).bits
  pub loops : (f : ℕ) → f < C.functions → read n v (of_function D (codes "loop$") f) ≡ (w (pin T.loops.items f).0).bits
  pub wants : (k : ℕ) → 0 < k → k ≤ C.sites → read n v (of_site (codes "want$") k) ≡ (w (pin T.wants.items k).0).bits
  pub rets : (k : ℕ) → 0 < k → k ≤ C.sites → read n v (of_site (codes "ret$") k) ≡ (w (pin T.rets.items k).0).bits
  pub arbs : (k : ℕ) → 0 < k → k ≤ C.sites → P.arbiter (unit_for C k) ≡ true → read n v (of_site (codes "arb$") k) ≡ (w (pin T.goes.items k).0).bits
  pub granted : (k : ℕ) → 0 < k → k ≤ C.sites → P.arbiter (unit_for C k) ≡ true → read n v (of_site (codes "go$") k) ≡ (w (pin T.goes.items k).0).bits
  pub direct : (k : ℕ) → 0 < k → k ≤ C.sites → P.arbiter (unit_for C k) ≡ false → read n v (of_site (codes "go$") k) ≡ (w (pin T.wants.items k).0).bits
  pub goes_main : read n v (codes "go$main") ≡ (w (pin T.goes.items 0).0).bits
  pub done : read_output n v (codes "done") ≡ (w main.fin.0).bits
  pub result : read_output n v (codes "result") ≡ (w main.res.0).bits

bit_one : (a : ℕ) (b : Bool) → a < 2 → (a == 1) ≡ b → a ≡ bit b
bit_one zero b l e = ap bit e
bit_one (suc zero) b l e = ap bit e
bit_one (suc (suc a)) b l e = absurd (omega (arith, l))

-- a bit's number
pub bit_is : (n : Netlist) (w : Val) (s : Sig) (b : Bool) → Wired n w → IsSource n s 1 → on w s ≡ b → (w s.0).bits ≡ bit b
bit_is n w s b wired q e = bit_one (w s.0).bits b (fits n w s.0 1 wired q.width).bits e

-- a site whose unit has no arbiter starts where it wants
direct_go : (C : Program) (P : Choice) (r : Registers) (i : Inputs) (k : ℕ) → 0 < k → P.arbiter (unit_for C k) ≡ false → go C P r i k ≡ want C P r k
unfolding go
direct_go C P r i zero pos e = absurd (omega (arith, pos))
direct_go C P r i (suc k) pos e =
    ap (λ t. cond t (want C P r (suc k) && (not (r.run (unit_for C (suc k))) && not (is_some (first (wants_at C P r (unit_for C (suc k))) (suc k))))) (want C P r (suc k))) e

pub wires_hold : (C : Program) (D : Names) (P : Choice) (old n : Netlist) (p : Pins) (T : Controls) (main : UnitPins) (v : Valuation) (w : Val) (r : Registers) (i : Inputs)
    → PinsFit C old p → HasControls C P old p T → slice_get p.bank.units.items C.main ≡ Some main → Cycle C P old p w r i → Copied C D P n v w T main → Wires C D P n v r i
wires_hold C D P old n p T main v w r i pins controls is_main cycle copied = record {
  ends = λ f l. copied.ends f l ∙ bit_is old w _ _ cycle.wired (controls.fits.ends f l) (controls.ends w r i cycle f l);
  loops = λ f l. copied.loops f l ∙ bit_is old w _ _ cycle.wired (controls.fits.loops f l) (controls.loops w r i cycle f l);
  wants = λ k pos le. copied.wants k pos le ∙ bit_is old w _ _ cycle.wired (controls.fits.wants k pos le) (controls.wants w r i cycle k pos le);
  rets = λ k pos le. copied.rets k pos le ∙ bit_is old w _ _ cycle.wired (controls.fits.rets k pos le) (controls.rets w r i cycle k pos le);
  arbs = λ k pos le a. copied.arbs k pos le a ∙ bit_is old w _ _ cycle.wired (controls.fits.goes k le) (controls.goes w r i cycle k le);
  goes = λ k pos le. by k pos le (P.arbiter (unit_for C k)) refl;
  goes_main = copied.goes_main ∙ bit_is old w _ _ cycle.wired (controls.fits.goes 0 (omega arith)) (controls.goes w r i cycle 0 (omega arith));
  done = copied.done ∙ bit_is old w main.fin _ cycle.wired (pins.bank.units C.main main is_main).fin (cycle.bank.units C.main main is_main).fin;
  result = copied.result ∙ ap (λ (x : Word). x.bits) (cycle.bank.units C.main main is_main).res;
}
  where
    by : (k : ℕ) → 0 < k → k ≤ C.sites → (b : Bool) → P.arbiter (unit_for C k) ≡ b → read n v (of_site (codes "go$") k) ≡ bit (go C P r i k)
    by k pos le true a = copied.granted k pos le a ∙ bit_is old w _ _ cycle.wired (controls.fits.goes k le) (controls.goes w r i cycle k le)
    by k pos le false a = copied.direct k pos le a ∙ bit_is old w _ _ cycle.wired (controls.fits.wants k pos le) (controls.wants w r i cycle k pos le) ∙ ap bit (sym (direct_go C P r i k pos a))
