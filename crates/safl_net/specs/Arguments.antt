-- The arguments of a net: a word for each input other than `start`.
use Rattle.std.specs.Prelude.{◌≡◌, ℕ, List, [], ◌∷◌, map, cond}
use Rattle.safl_word.specs.Words.{Word}
use Rattle.safl_net.specs.Netlist.{Netlist, Signal, width_of}
use Rattle.safl_net.specs.Making.{kind_at, name_at}
use Rattle.safl_net.specs.Runs.{is_argument}

-- the widths of the inputs other than `start`, in order
unfoldable pub argument_widths : List Signal → List ℕ
argument_widths [] = []
argument_widths (g ∷ gs) = cond (is_argument g.name g.kind) (g.width ∷ argument_widths gs) (argument_widths gs)

-- the width of a signal, if it is an input other than `start`
abbrev pub argument_width : Netlist → ℕ → List ℕ
argument_width n s = cond (is_argument (name_at n s) (kind_at n s)) (width_of n s ∷ []) []

-- one word of the right width for each of these inputs, in order
abbrev pub AreArguments : Netlist → List Word → Type 0
AreArguments n args = map (λ (w : Word). w.width) args ≡ argument_widths n.signals
