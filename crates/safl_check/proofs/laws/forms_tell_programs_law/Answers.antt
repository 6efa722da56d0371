use Rattle.std.proofs.Common.{sym, ap, ◌∙◌}
use Rattle.safl_check.specs.Numbered.{program_in, names_in}
use Rattle.safl_check.proofs.NumberedForms.{numbered}
use Rattle.safl_check.proofs.laws.forms_tell_programs_law.Goals as goal

pub returns : goal.returns
returns c = λ a b e.
    let p = numbered a in
    let q = numbered b in
    record {
      program = p.program ∙ ap program_in e ∙ sym q.program;
      names = p.names ∙ ap names_in e ∙ sym q.names;
    }
