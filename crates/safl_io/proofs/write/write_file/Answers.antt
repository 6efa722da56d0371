use Rattle.std.proofs.Common.{rules, arith, ◌∙◌}
use Rattle.safl_io.proofs.Keeping.{reads_then}
use Rattle.safl_io.proofs.Writing.{TellsOn-append, TellsOn-part, no_stray}
use Rattle.safl_io.proofs.write.write_file.Goals as goal

pub returns-in_err-append-clause-not_written : goal.returns-in_err-append-clause-not_written
returns-in_err-append-clause-not_written g c =
    let part = TellsOn-part _ _ _ _ _ _ _ c.loop-at.invariant.written c.in_err-append.ensures.not_appended in
    search (rules, part)

pub loop-at-preserved : goal.loop-at-preserved
loop-at-preserved g c = record {
  within = omega arith;
  written = TellsOn-append _ _ _ _ (omega arith) _ _ _ c.loop-at.invariant.written c.in_ok-append.ensures.appended;
  quiet = c.in_ok-append.ensures.quiet ∙ c.loop-at.invariant.quiet;
  same_reads = reads_then _ _ _ c.loop-at.invariant.same_reads c.in_ok-append.ensures.same_reads;
  same_strays = no_stray _ _ _ _ _ _ _ c.loop-at.invariant.written c.loop-at.invariant.same_strays c.in_ok-append.ensures.stray;
}
