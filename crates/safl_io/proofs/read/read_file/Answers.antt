use Rattle.std.proofs.Common.{rules, arith, ◌<◌, length, refl, ◌∙◌}
use Rattle.std.proofs.lemmas.Grind.{common_steps}
use Rattle.safl_io.proofs.Keeping.{files_same, files_then}
use Rattle.safl_io.proofs.Reading.{read_start, read_longer}
use Rattle.safl_io.proofs.read.read_file.Goals as goal

pub loop-text-init : goal.loop-text-init
loop-text-init g c = record {
  room = search rules;
  read = rw c.new-text.ensures.items (read_start _ _);
  quiet = search rules;
  same_files = files_same _ _ refl;
  same_strays = search rules;
}

pub loop-text-preserved : goal.loop-text-preserved
loop-text-preserved g c =
    let more = rw c.loop-text.invariant.same_files.holds at c.in_ok-count.ensures.more in
    let strays = rw c.loop-text.invariant.same_files.holds at c.in_ok-count.ensures.same_strays in
    record {
      room = grind (arith, common_steps);
      read = more c.loop-text.invariant.read;
      quiet = c.in_ok-count.ensures.quiet ∙ c.loop-text.invariant.quiet;
      same_files = files_then _ _ _ c.loop-text.invariant.same_files c.in_ok-count.ensures.same_files;
      same_strays = λ held. strays held ∙ c.loop-text.invariant.same_strays held;
    }

pub returns-clause-too_long : goal.returns-clause-too_long
returns-clause-too_long g c =
    let more : c.args.limit < length c.loop-text.text.items = search rules in
    λ long. read_longer _ _ _ _ more c.loop-text.invariant.read
