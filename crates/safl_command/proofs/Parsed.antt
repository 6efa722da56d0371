-- What a parse of a line says of its command.
use Rattle.std.proofs.Common.{◌≡◌, List, [], ◌∷◌, Option, None, true, refl, sym, ap, ◌∙◌}
use Rattle.clap.specs.Words.{Row, Text, Kinds, IsAmong, fault_of, subcommand_of, subcommand_rows_of, is_simple, is_simple_and_free}
use Rattle.clap.specs.declared.error.kind.ErrorKind.{ErrorKind}
use Rattle.clap.specs.declared.parser.matches.ArgMatches.{ArgMatches}
use Rattle.clap.proofs.OnLiterals.{clap_on_literals}
use Rattle.safl_command.specs.Forms.{app}
use Rattle.safl_command.specs.Commands.{command_of_line, command_in, faultless, given}

-- the program's command is one whose matches and faults `clap` defines
pub app_simple : is_simple app ≡ true
unfolding app clap_on_literals
app_simple = refl

pub app_free : is_simple_and_free app ≡ true
unfolding app clap_on_literals
app_free = refl

pub parsed : (line : List Text) (m : ArgMatches) → fault_of app line ≡ [] → subcommand_rows_of m ≡ subcommand_of app line
    → given (subcommand_rows_of m) (λ e. command_in e.0 e.1) ≡ command_of_line line
unfolding command_of_line
parsed line m none is = ap (λ (o : Option (Text × List Row)). given o (λ e. command_in e.0 e.1)) is ∙ ap (λ (ks : Kinds). faultless ks (subcommand_of app line)) (sym none)

pub not_parsed : (line : List Text) (k : ErrorKind) → IsAmong k (fault_of app line) → None ≡ command_of_line line
unfolding command_of_line
not_parsed line k among = go (fault_of app line) among
  where
    go : (ks : Kinds) → IsAmong k ks → None ≡ faultless ks (subcommand_of app line)
    go [] h = absurd h
    go (x ∷ xs) h = refl
