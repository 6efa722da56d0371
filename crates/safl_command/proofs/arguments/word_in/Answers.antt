use Rattle.safl_command.proofs.Common.{IfOk, List, Option, found_of, option_map, string_bytes, subst, ℕ, ◌≡◌}
use Rattle.safl_command.proofs.Values.{first_is}
use Rattle.safl_command.proofs.arguments.word_in.Goals as goal

pub returns-in-Some : goal.returns-in-Some
returns-in-Some c =
    subst (λ (o : Option (List ℕ)). IfOk c.copied.result (λ copy. option_map string_bytes copy ≡ o))
    (first_is (found_of c.args.values.now) c.args.id.now c.get_str.result c.in-Some.word c.get_str.ensures c.in-Some.is) c.copied.ensures
