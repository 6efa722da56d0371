use Rattle.safl_evaluate.proofs.Common.{back_at, word_of}
use Rattle.std.proofs.Common.{◌≡◌, Some, take, refl, sym, ap, ◌∙◌, arith}
use Rattle.std.proofs.lemmas.List.{take-set}
use Rattle.safl_evaluate.proofs.AnswersByParts as step
use Rattle.safl_evaluate.proofs.LooksWhole as whole
use Rattle.safl_evaluate.proofs.LooksWhole.{finds_is}
use Rattle.safl_evaluate.proofs.RunsByParts as may
use Rattle.safl_evaluate.proofs.evaluate.is_known.Goals as goal

pub returns-in-Const-clause-finds : goal.returns-in-Const-clause-finds
returns-in-Const-clause-finds c = λ known. finds_is c.in-Const.ensures (whole.finds_const c.in-Const.number
    (step.slot_set c.args.env.now c.args.to c.put.new.word c.put.result c.requires.place known c.put.ensures))

pub returns-in-Var-clause-finds : goal.returns-in-Var-clause-finds
returns-in-Var-clause-finds c = λ known.
    let place = may.var_place c.in-Var.slot (may.can_is refl refl c.in-Var.ensures c.requires.may.can) in
    let read : c.index-env-slot.result ≡ _ = step.slot_is c.args.env.now c.args.spot.slots c.in-Var.slot _ place c.index-env-slot.is in
    finds_is c.in-Var.ensures (whole.finds_var c.in-Var.slot (step.slot_set c.args.env.now c.args.to c.put-in-Var.new.word c.put-in-Var.result
    c.requires.place known (c.put-in-Var.ensures ∙ (ap Some read ∙ ap word_of
    (sym (step.answer_var (back_at c.args.facts.now.stages.now) (take c.args.spot.slots c.args.env.now) c.in-Var.slot))))))

pub returns-then-is_skipped : goal.returns-then-is_skipped
returns-then-is_skipped c =
    let skip = c.is_skipped.ensures c.if-is_skipped.true in
    let laid = c.requires.may.laid.0 in
    record {
      finds = λ known. whole.finds_still skip.site skip.is c.requires.may.stood (λ st. let s = laid.sites skip.site st in skip.apart s.0 s.1)
          (omega (arith, skip.parts, laid.next)) (step.slot_set c.args.env.now c.args.to c.recall.new.word c.recall.result c.requires.place known c.recall.ensures);
      kept = take-set c.args.env.now c.args.to c.recall.new.word;
    }
