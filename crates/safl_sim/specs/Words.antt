-- The words of a net's inputs in a cycle.
use Rattle.std.specs.Prelude.{ℕ, List, [], ◌∷◌, ◌++◌, take, drop, Bool, true, false, codes}
use Rattle.std.specs.Str.{bytes_eq}
use Rattle.safl_word.specs.Words.{Word}
use Rattle.safl_net.specs.Netlist.{Signal, Kind, Input, Reg, Wire}

-- the word of a signal, if it is an input: that of `start`, or the first of the arguments that are left
abbrev pub own_word : Kind → Bool → Word → List Word → List Word
own_word Input true start args = start ∷ []
own_word Input false start args = take 1 args
own_word (Reg init next) b start args = []
own_word (Wire cell) b start args = []

-- the arguments that are left for the signals after it
abbrev pub others : Kind → Bool → List Word → List Word
others Input true args = args
others Input false args = drop 1 args
others (Reg init next) b args = args
others (Wire cell) b args = args

abbrev pub is_start : List ℕ → Bool
is_start name = bytes_eq name (codes "start")

unfoldable pub input_words : List Signal → Word → List Word → List Word
input_words [] start args = []
input_words (g ∷ gs) start args = own_word g.kind (is_start g.name) start args ++ input_words gs start (others g.kind (is_start g.name) args)

-- the word 0 of the same width
abbrev pub zero_of : Word → Word
zero_of w = record { width = w.width; bits = 0 }

abbrev pub bit_word : ℕ → Word
bit_word b = record { width = 1; bits = b }
