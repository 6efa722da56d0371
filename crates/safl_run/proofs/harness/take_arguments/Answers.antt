use Rattle.std.proofs.Common.{slice_get, ap, ◌∙◌}
use Rattle.safl_sim.specs.Words.{bit_word}
use Rattle.safl_run.proofs.Harnessing.{first_is, kept_on}
use Rattle.safl_run.proofs.harness.take_arguments.Goals as goal

pub returns : goal.returns
returns c =
    let k = c.requires.harness in
    let put = c.put_arguments.ensures (bit_word 1) (ap (λ l. slice_get l c.args.harness.now.room.start) c.deref_mut.ensures.value ∙ k.is_room.one) in
    record {
      is = kept_on c.args.net.now c.args.harness.now k c.args.args.now c.requires.arguments c.put_arguments.new.words put;
      arguments = c.requires.arguments;
      first = first_is c.args.net.now c.args.harness.now k c.args.args.now c.requires.arguments c.put_arguments.new.words put;
    }
