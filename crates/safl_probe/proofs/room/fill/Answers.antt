use Rattle.safl_probe.proofs.Common.{Netlist, Word, lower_or_last}
use Rattle.std.proofs.Common.{◌≡◌, ℕ, ◌+◌, ◌<◌, List, map, set, get_or, length, sym, ap, ◌∙◌, inl, inr, arith}
use Rattle.std.proofs.lemmas.List.{map-set, length-map, get_or-set_same, get_or-set_other, ext_get_or}
use Rattle.std.proofs.Math.Seq.{map-set_same}
use Rattle.safl_probe.proofs.Widths.{same_width, same_length}
use Rattle.safl_probe.proofs.room.fill.Goals as goal

filled_more : (ws : List Word) (vs : List ℕ) (i : ℕ) (w : Word) → i < length ws → w.bits ≡ get_or vs i 0 → ((k : ℕ) → k < i → get_or (map (λ (x : Word). x.bits) ws) k 0 ≡ get_or vs k 0)
    → (k : ℕ) → k < i + 1 → get_or (map (λ (x : Word). x.bits) (set ws i w)) k 0 ≡ get_or vs k 0
filled_more ws vs i w lt e all k below =
    let bits : List ℕ = map (λ (x : Word). x.bits) ws in
    let same : get_or (map (λ (x : Word). x.bits) (set ws i w)) k 0 ≡ get_or (set bits i w.bits) k 0 = ap (λ l. get_or l k 0) (map-set (λ (x : Word). x.bits) ws i w) in
    elim (lower_or_last k i below) [
      | inl lower ↦ same ∙ get_or-set_other bits i k w.bits 0 (λ f. omega (arith, lower, f)) ∙ all k lower
      | inr f ↦
          same ∙ ap (λ j. get_or (set bits i w.bits) j 0) f
          ∙ get_or-set_same bits i w.bits 0 (let a = length-map ws (λ (x : Word). x.bits) in omega (arith, lt, a)) ∙ e ∙ ap (λ j. get_or vs j 0) (sym f)
    ]

pub renew-requires : goal.renew-requires
renew-requires c =
    let long = same_length c.args.sim.now.net c.signals.frame c.signals.invariant.frame in
    let d = c.signals-test.true in
    let e = c.signals-i-end.ensures.count in
    let f = ap (λ (n : Netlist). length n.signals) c.net.ensures in
    sym (ap (λ (w : Word). w.width) c.index-frame-i.is)
    ∙ same_width c.args.sim.now.net.signals c.signals.frame c.signals.i c.index-frame-i.result c.signals.invariant.frame (omega (arith, long, d, e, f)) c.index-frame-i.is
    ∙ sym (ap (λ (w : Word). w.width) c.value.ensures)

pub signals-preserved : goal.signals-preserved
signals-preserved c =
    let long = same_length c.args.sim.now.net c.signals.frame c.signals.invariant.frame in
    let d = c.signals-test.true in
    let e = c.signals-i-end.ensures.count in
    let f = ap (λ (n : Netlist). length n.signals) c.net.ensures in
    let within : c.signals.i < length c.signals.frame = omega (arith, long, d, e, f) in
    let was : c.index-frame-i.result.width ≡ c.value.result.width =
    same_width c.args.sim.now.net.signals c.signals.frame c.signals.i c.index-frame-i.result c.signals.invariant.frame within c.index-frame-i.is
    ∙ sym (ap (λ (w : Word). w.width) c.value.ensures) in
    record {
      values = filled_more c.signals.frame c.args.sim.now.values c.signals.i c.renew.new.word within (ap (λ (w : Word). w.bits) (c.renew.ensures ∙ c.value.ensures)) c.signals.invariant.values;
      frame =
          map-set_same (λ (w : Word). w.width) c.signals.frame c.signals.i c.renew.new.word c.index-frame-i.result
          (ap (λ (w : Word). w.width) c.renew.ensures ∙ sym was ∙ ap (λ (w : Word). w.width) c.index-frame-i.is)
          ∙ c.signals.invariant.frame;
    }

pub returns-clause-values : goal.returns-clause-values
returns-clause-values c =
    let long = same_length c.args.sim.now.net c.signals.frame c.signals.invariant.frame in
    let v = c.requires.values in
    let m = length-map c.signals.frame (λ (x : Word). x.bits) in
    let d = c.signals-test.false in
    let e = c.signals-i-end.ensures.count in
    let f = ap (λ (n : Netlist). length n.signals) c.net.ensures in
    ext_get_or 0 (map (λ (x : Word). x.bits) c.signals.frame) c.args.sim.now.values (omega (arith, long, v, m)) (λ k lt. c.signals.invariant.values k (omega (arith, long, v, m, d, e, f, lt)))
