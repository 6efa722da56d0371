use Rattle.std.proofs.Common.{◌∙◌}
use Rattle.std.proofs.lemmas.List.{take_rest}
use Rattle.safl_run.proofs.InputsAroundStart.{put_round}
use Rattle.safl_run.proofs.input_words.put_arguments.Goals as goal

pub returns : goal.returns
returns c = λ w at.
    put_round c.args.words.now c.args.args.now c.copy_from_slice.new.self c.copy_from_slice-2.new.self c.args.place w c.requires.within at c.copy_from_slice.ensures.after
    (c.copy_from_slice-2.ensures.after ∙ take_rest c.args.args.now c.args.place)
