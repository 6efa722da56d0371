use Rattle.safl_typing.proofs.Common.{IfOk-weaker, false≢true, slots-Const}
use Rattle.safl_typing.proofs.SlotsTyped.{sized_refused}
use Rattle.safl_typing.proofs.typed.typed_sized.Goals as goal

pub returns-in-None : goal.returns-in-None
returns-in-None c = record {
  says = sized_refused c.args.place c.args.width c.args.value c.args.wanted c.refused.result c.requires
      (λ h. false≢true (c.in-None.ensures.some.1 h)) c.refused.ensures;
  slots = tt;
  memory = λ h. let g = c.refused.ensures in absurd (cc);
}

pub returns-in-Some-clause-slots : goal.returns-in-Some-clause-slots
returns-in-Some-clause-slots c = IfOk-weaker c.settled.result _ _ (λ t h n. h n (slots-Const n c.in-Some.word)) c.settled.ensures.slots
