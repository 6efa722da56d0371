use Rattle.safl_command.proofs.Common.{ErrorKind, IfOk, false≢true, option_map}
use Rattle.std.proofs.Common.{◌≡◌, ◌∙◌, ℕ, List, [], map, true, Option, Bor, sym, ap, subst, inl, inr}
use denote.Enum.Bare.{sameb}
use Rattle.clap.specs.contracts.error.kind.ErrorKind.{the_type}
use Rattle.clap.specs.declared.error.kind.ErrorKind.TheVariants as kinds-of
use Rattle.clap.specs.Words.{App, Text, app_of, fault_of, subcommand_of, subcommand_rows_of, is_simple, is_simple_and_free, HasKind, kind_of}
use Rattle.safl_command.specs.Forms.{app}
use Rattle.safl_command.specs.Commands.{Command, shown_command}
use Rattle.safl_command.proofs.Parsed.{app_simple, app_free, parsed, not_parsed}
use Rattle.safl_command.proofs.reading.read_line.Goals as goal

pub returns-in-Ok : goal.returns-in-Ok
returns-in-Ok c =
    let line : List Text = map (λ (word : Bor (List ℕ)). word.now) c.args.line.now in
    let is : app_of c.in_ok-program.program ≡ app = c.in_ok-program.ensures in
    let none : fault_of app line ≡ [] = subst (λ (a : App). fault_of a line ≡ []) is (c.in-Ok.ensures.kinds (subst (λ (a : App). is_simple_and_free a ≡ true) (sym is) app_free)) in
    let rows : subcommand_rows_of c.in-Ok.matches ≡ subcommand_of app line =
    subst (λ (a : App). subcommand_rows_of c.in-Ok.matches ≡ subcommand_of a line) is (c.in-Ok.ensures.matches (subst (λ (a : App). is_simple a ≡ true) (sym is) app_simple)).1 in
    subst (λ (o : Option Command). IfOk c.read_matches.result (λ r. option_map shown_command r ≡ o)) (parsed line c.in-Ok.matches none rows) c.read_matches.ensures

pub returns-in-Err-2 : goal.returns-in-Err-2
returns-in-Err-2 c =
    let line : List Text = map (λ (word : Bor (List ℕ)). word.now) c.args.line.now in
    let is : app_of c.in_ok-program.program ≡ app = c.in_ok-program.ensures in
    let kinds : HasKind (fault_of app line) c.in-Err.error =
    subst (λ (a : App). HasKind (fault_of a line) c.in-Err.error) is (c.in-Err.ensures.kinds (subst (λ (a : App). is_simple_and_free a ≡ true) (sym is) app_free)) in
    elim kinds [
      | inl memory ↦ absurd (false≢true (sym c.if-eq.false ∙ c.eq.ensures ∙ ap (λ (k : ErrorKind). sameb the_type k kinds-of.OutOfMemory) (c.kind.ensures ∙ memory)))
      | inr among ↦ not_parsed line (kind_of c.in-Err.error) among
    ]
