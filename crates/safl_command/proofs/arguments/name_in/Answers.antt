use Rattle.safl_command.proofs.Common.{IfOk, List, Option, found_of, option_map, string_bytes, subst, sym, ℕ, ◌≡◌}
use Rattle.safl_command.specs.Values.{filled}
use Rattle.safl_command.proofs.Values.{value_is}
use Rattle.safl_command.proofs.arguments.name_in.Goals as goal

pub returns-in-Some : goal.returns-in-Some
returns-in-Some c =
    subst (λ (o : Option (List ℕ)). IfOk c.filled.result (λ name. option_map string_bytes name ≡ o))
    (sym (value_is (found_of c.args.values.now) c.args.id.now filled c.get_str.result c.in-Some.word c.get_str.ensures c.in-Some.is)) c.filled.ensures
