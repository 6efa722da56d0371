use Rattle.safl_typing.proofs.Common.{false≢true, slots-Const}
use Rattle.safl_typing.proofs.SlotsTyped.{number_refused}
use Rattle.safl_typing.proofs.typed.typed_number.Goals as goal

pub returns-in-None : goal.returns-in-None
returns-in-None c = record {
  says = number_refused c.args.place c.args.value c.in-Exactly.width c.args.wanted c.refused-in-None.result c.requires
      c.in-Exactly.is (λ h. false≢true (c.in-None.ensures.some.1 h)) c.refused-in-None.ensures;
  slots = tt;
  memory = λ h. let g = c.refused-in-None.ensures in absurd (cc);
}

pub returns-in-Some-clause-slots : goal.returns-in-Some-clause-slots
returns-in-Some-clause-slots c n = slots-Const n c.in-Some.word
