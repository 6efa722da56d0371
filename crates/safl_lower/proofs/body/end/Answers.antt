use Rattle.safl_lower.proofs.Common.{IsSource, Readiness, gate, is_ready, on, one_word, wired_before}
use Rattle.std.proofs.Common.{Some, Bool, sym, ap, subst, ◌∙◌, arith}
use Rattle.safl_lower.proofs.Building.{source_grown, source_kept, builds_on, builds_within}
use Rattle.safl_lower.proofs.Arms.{gate_none, gate_gate}
use Rattle.safl_lower.proofs.Ending.{one_load_fits, one_load_takes}
use Rattle.safl_lower.proofs.body.end.Goals as goal

pub returns-in_ok-load-in-Never : goal.returns-in_ok-load-in-Never
returns-in_ok-load-in-Never c =
    let z = c.in_ok-bit-in-Never.ensures in
    let n = c.in_ok-value-in-Never.ensures in
    let l = c.in_ok-load-in-Never.ensures in
    record {
      built = builds_on z.built n.built;
      fits = λ w s e. one_load_fits c.in_ok-load-in-Never.load l.bit l.operands (source_kept n.built z.fits)
          (subst (λ k. IsSource c.no_value.new.net c.in_ok-value-in-Never.value k) (sym (e c.in-Never.is)) n.fits);
      value = λ v w.
          one_load_takes v c.in_ok-load-in-Never.load l.bit l.operands
          ∙ ap (λ (b : Bool). one_word (gate b (Some (v c.in_ok-value-in-Never.value.0)))) (z.value v (wired_before n.built.grows w))
          ∙ sym (ap one_word (ap (λ (r : Readiness). gate (on v c.args.run) (gate (is_ready v r) (Some (v c.args.body.value.0)))) c.in-Never.is ∙ gate_none (on v c.args.run)));
    }

pub returns-in_ok-load-in_default : goal.returns-in_ok-load-in_default
returns-in_ok-load-in_default c =
    let e = c.in_ok-bit-in_default.ensures in
    let l = c.in_ok-load-in_default.ensures in
    record {
      built = builds_within 2 e.built (omega arith);
      fits = λ w s n. one_load_fits c.in_ok-load-in_default.load l.bit l.operands e.fits (source_grown e.built.grows c.args.body.value w (s.width c.in_default.not-Never));
      value = λ v w.
          one_load_takes v c.in_ok-load-in_default.load l.bit l.operands
          ∙ ap one_word (ap (λ (b : Bool). gate b (Some (v c.args.body.value.0))) (e.value v w) ∙ sym (gate_gate (on v c.args.run) (is_ready v c.args.body.ready) (Some (v c.args.body.value.0))));
    }

pub returns-in_err-bit-in-Never-clause-built : goal.returns-in_err-bit-in-Never-clause-built
returns-in_err-bit-in-Never-clause-built c = builds_within 2 c.zero.ensures.built (omega arith)

pub returns-in_err-value-in-Never-clause-built : goal.returns-in_err-value-in-Never-clause-built
returns-in_err-value-in-Never-clause-built c = builds_on c.zero.ensures.built c.no_value.ensures.built

pub returns-in_err-load-in-Never-clause-built : goal.returns-in_err-load-in-Never-clause-built
returns-in_err-load-in-Never-clause-built c = builds_on c.zero.ensures.built c.no_value.ensures.built

pub returns-in_err-bit-in_default-clause-built : goal.returns-in_err-bit-in_default-clause-built
returns-in_err-bit-in_default-clause-built c = builds_within 2 c.and_ready.ensures.built (omega arith)

pub returns-in_err-load-in_default-clause-built : goal.returns-in_err-load-in_default-clause-built
returns-in_err-load-in_default-clause-built c = builds_within 2 c.and_ready.ensures.built (omega arith)
