use Rattle.safl_tool.proofs.Common.{List, WalksFrom, Word, ap, err_from_is_err_and, map, string_bytes, subst, ℕ, ◌∙◌}
use Rattle.safl_session.specs.Lines.{AreArguments}
use Rattle.safl_tool.proofs.Simulated.{read_widths, arguments_refused, source_refused}
use Rattle.safl_tool.proofs.walk.walk_machine.Goals as goal

pub returns-in_err-checked-clause-refused : goal.returns-in_err-checked-clause-refused
returns-in_err-checked-clause-refused c =
    let p = err_from_is_err_and c.from_residual.result c.from_residual.ensures.1 in
    rw (p.1, p.2) (source_refused c.args.name.now c.args.source.now (map string_bytes c.args.args.now) c.in_err-checked.field-0.0 c.in_err-checked.ensures.refused)

pub returns-in_err-words-clause-refused : goal.returns-in_err-words-clause-refused
returns-in_err-words-clause-refused c =
    let p = err_from_is_err_and c.from_residual-in_err-words.result c.from_residual-in_err-words.ensures.1 in
    rw (p.1, p.2)
    (arguments_refused c.args.name.now c.args.source.now c.in_ok-checked.checked.program c.in_ok-checked.checked.names (map string_bytes c.args.args.now) c.deref.result.now
    (c.deref.ensures.value ∙ c.in_ok-widths.ensures) c.in_ok-checked.ensures.accepted c.in_err-words.field-0.0 c.in_err-words.ensures.refused)

pub walk_with-requires : goal.walk_with-requires
walk_with-requires c =
    ap (λ l. map (λ (w : Word). w.width) l) c.deref-2.ensures.value
    ∙ read_widths c.deref.result.now (map string_bytes c.args.args.now) c.in_ok-words.words.items c.in_ok-words.ensures.read
    ∙ (c.deref.ensures.value ∙ c.in_ok-widths.ensures)

pub returns-clause-walks : goal.returns-clause-walks
returns-clause-walks c = (
  c.in_ok-checked.checked.program,
  c.in_ok-checked.checked.names,
  c.in_ok-words.words.items,
  c.in_ok-checked.ensures.accepted,
  subst (λ (l : List ℕ). AreArguments l (map string_bytes c.args.args.now) c.in_ok-words.words.items)
      (c.deref.ensures.value ∙ c.in_ok-widths.ensures) c.in_ok-words.ensures.read,
  subst (λ (l : List Word). WalksFrom c.in_ok-checked.checked.program l c.args.turns.seed c.args.turns.steps c.in_ok-walk_with.field-0) c.deref-2.ensures.value c.in_ok-walk_with.ensures,
)
