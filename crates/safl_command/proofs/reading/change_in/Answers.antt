use Rattle.std.proofs.Common.{◌∙◌, List, ℕ, Option, codes, string_bytes, ap}
use Rattle.clap.specs.Words.{found_of, rows_of, first_of}
use Rattle.std.specs.Prelude.{option_map}
use Rattle.safl_command.specs.Commands.{reshaped}
use Rattle.safl_command.proofs.Values.{first_shown}
use Rattle.safl_command.proofs.reading.change_in.Goals as goal

pub returns : goal.returns
returns c =
    let f = found_of c.args.values.now in
    let i : List ℕ = string_bytes c.args.input in
    let o : List ℕ = string_bytes c.args.output in
    c.reshaped.ensures
    ∙ ap (λ (x : Option (List ℕ)). reshaped i o x (option_map (λ w. w.now) c.get_str-unfolded.result)) (first_shown f (codes "copy") c.get_str-copied.result c.get_str-copied.ensures)
    ∙ ap (λ (x : Option (List ℕ)). reshaped i o (first_of (codes "copy") (rows_of f)) x) (first_shown f (codes "unfold") c.get_str-unfolded.result c.get_str-unfolded.ensures)
