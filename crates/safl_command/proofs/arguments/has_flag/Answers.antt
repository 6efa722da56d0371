use Rattle.safl_command.proofs.Common.{found_of, option_map_or}
use Rattle.std.proofs.Common.{◌∙◌, List, ℕ, Option, false, codes, bytes_eq, ap}
use Rattle.safl_command.proofs.Values.{first_is}
use Rattle.safl_command.proofs.arguments.has_flag.Goals as goal

pub returns-in-Some : goal.returns-in-Some
returns-in-Some c =
    c.is_true.ensures
    ∙ ap (λ (o : Option (List ℕ)). option_map_or (λ word. bytes_eq word (codes "true")) o false)
    (first_is (found_of c.args.values.now) c.args.id.now c.get_str.result c.in-Some.word c.get_str.ensures c.in-Some.is)
