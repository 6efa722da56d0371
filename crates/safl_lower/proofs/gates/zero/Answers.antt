use Rattle.safl_lower.proofs.Common.{IsSource, Netlist, Sig, Val, Wired, Word, on}
use Rattle.std.proofs.Common.{◌≡◌, IfOk, Ok, Err, Result, false, ap, subst, ◌∙◌, ◌==◌}
use Rattle.safl_lower.proofs.gates.zero.Goals as goal

never : {E : Type 0} (m : Netlist) (r : Result Sig E) (w : Word) → w ≡ record { width = 1; bits = 0 } → IfOk r
    (λ s. (v : Val) → Wired m v → v s.0 ≡ w) → IfOk r (λ s. (v : Val) → Wired m v → on v s ≡ false)
never m (Ok s) w e h = λ v k. ap (λ (x : Word). x.bits == 1) (h v k ∙ e)
never m (Err x) w e h = tt

pub returns : goal.returns
returns c =
    let e = c.constant.ensures in
    let is = c.from_low_bits.ensures in
    record {
      built = e.built;
      fits = subst (λ (w : Word). IfOk c.constant.result (λ s. IsSource c.constant.new.net s w.width)) is e.fits;
      value = never c.constant.new.net c.constant.result c.from_low_bits.result is e.value;
    }
