use Rattle.std.proofs.Common.{ℕ, List, map, string_bytes, sym, ap, subst, ◌∙◌}
use Rattle.safl_word.specs.Words.{Word, widths}
use Rattle.safl_term.specs.Checked.{CheckedProgram}
use Rattle.safl_session.specs.Lines.{AreArguments}
use Rattle.safl_tool.proofs.Simulated.{arguments_refused, read_widths}
use Rattle.safl_timing.proofs.timing.time_source.Goals as goal

pub returns-in-Err-read_arguments-clause-refused : goal.returns-in-Err-read_arguments-clause-refused
returns-in-Err-read_arguments-clause-refused c =
    let same = c.deref.ensures.value ∙ (c.in-Ok-main_widths.ensures ∙ ap (λ (x : CheckedProgram). x.program.params x.program.main) c.checked.ensures.same) in
    arguments_refused c.args.name.now c.args.source.now c.in-Ok.planned.checked.program c.in-Ok.planned.checked.names (map string_bytes c.args.args.now) c.deref.result.now
    same c.in-Ok.ensures.planned c.in-Err-read_arguments.refusal c.in-Err-read_arguments.ensures.refused

pub returns-in-Ok-time_lines-clause-gives : goal.returns-in-Ok-time_lines-clause-gives
returns-in-Ok-time_lines-clause-gives c =
    let same = c.deref.ensures.value ∙ (c.in-Ok-main_widths.ensures ∙ ap (λ (x : CheckedProgram). x.program.params x.program.main) c.checked.ensures.same) in
    record {
      program = c.in-Ok.planned.checked.program;
      names = c.in-Ok.planned.checked.names;
      choice = c.in-Ok.planned.choice;
      words = c.deref-2.result.now;
      source_of = c.in-Ok.ensures.planned;
      plan = c.checked.ensures.plan;
      arguments = subst (λ (l : List Word). AreArguments (c.in-Ok.planned.checked.program.params c.in-Ok.planned.checked.program.main) (map string_bytes c.args.args.now) l)
          (sym c.deref-2.ensures.value)
          (subst (λ (l : List ℕ). AreArguments l (map string_bytes c.args.args.now) c.in-Ok-read_arguments.words.items) same c.in-Ok-read_arguments.ensures.read);
      gives = c.in-Ok-time_lines.ensures;
    }

pub time_lines-requires : goal.time_lines-requires
time_lines-requires c =
    let same = c.deref.ensures.value ∙ (c.in-Ok-main_widths.ensures ∙ ap (λ (x : CheckedProgram). x.program.params x.program.main) c.checked.ensures.same) in
    ap widths c.deref-2.ensures.value
    ∙ (read_widths c.deref.result.now (map string_bytes c.args.args.now) c.in-Ok-read_arguments.words.items c.in-Ok-read_arguments.ensures.read ∙ same)
