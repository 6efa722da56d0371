use Rattle.std.proofs.Common.{◌≡◌, ◌∙◌, List, Option, Some, None, ap, subst}
use Rattle.std.specs.Prelude.{IfOk, option_map, unwrap_or}
use Rattle.std.specs.Box.{box_value}
use Rattle.clap.specs.Words.{Row, Text, found_of, rows_of}
use Rattle.clap.specs.declared.parser.matches.ArgMatches.TheViews.{out-ArgMatches, out-SubCommand}
use Rattle.safl_command.specs.Commands.{given, command_in, shown_command}
use Rattle.safl_command.proofs.reading.read_matches.Goals as goal

-- the name and the rows of what was entered
abbrev both : {X : Type 0} → (X → Text) → (X → List Row) → X → Text × List Row
both n r b = (n b, r b)

abbrev entry : Text → List Row → Option (Text × List Row)
entry w v = Some (w, v)

matched : {X : Type 0} (n : X → Text) (r : X → List Row) (s : Option X) (w : Text) (v : List Row) → Some w ≡ option_map n s
    → Some v ≡ option_map (λ (p : Text × List Row). p.1) (option_map (both n r) s) → entry w v ≡ option_map (both n r) s
matched n r None w v e f = absurd (cc)
matched n r (Some b) w v e f =
    let a : w ≡ n b = ap (λ (o : Option Text). unwrap_or o w) e in
    let d : v ≡ r b = ap (λ (o : Option (List Row)). unwrap_or o v) f in
    ap (λ (x : Text). entry x v) a ∙ ap (λ (y : List Row). entry (n b) y) d

pub returns-in-Some : goal.returns-in-Some
returns-in-Some c =
    subst (λ (o : Option (Text × List Row)). IfOk c.command_in.result (λ r. option_map shown_command r ≡ given o (λ e. command_in e.0 e.1)))
    (matched (λ b. (out-SubCommand (box_value b)).name.now) (λ b. rows_of (found_of (out-SubCommand (box_value b)).matches)) (out-ArgMatches c.args.matches.now).subcommand
    c.in-Some.word.now (rows_of (found_of c.in-Some.values.now)) c.in-Some.ensures.name c.in-Some.ensures.rows) c.command_in.ensures
