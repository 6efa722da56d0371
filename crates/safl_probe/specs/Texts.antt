-- The texts of traces, byte by byte.
use Rattle.std.specs.Prelude.{ℕ, suc, ◌+◌, List, [], ◌∷◌, ◌++◌, map, length, Option, Some, None, ◌==◌, if◌then◌else◌, codes, reverse, bit_xor, count_ones}
use Rattle.std.specs.Fmt.{decimal}
use Rattle.std.specs.Int.Digits.{digits_of}
use Rattle.safl_word.specs.Numerals.{binary}
use Rattle.safl_net.specs.Netlist.{Netlist}
use Rattle.safl_net.specs.Valuations.{Valuation}
use Rattle.safl_probe.specs.Watching.{Watched, kind_of, watched_by, seen}
use Rattle.safl_probe.specs.declared.kind.TraceKind.{TraceKind}
use Rattle.safl_probe.specs.declared.kind.TraceKind.TheVariants.{Vcd, Starts, Toggles, Silent}
pub use Rattle.safl_word.specs.Lists.{Text}

-- ---- VCD

-- The code of watched signal i: the digits of i in base 94, at least one, the lowest first. Digit d is written as character 33 + d.
unfoldable pub code : ℕ → Text
code i = if i == 0 then codes "!" else map (λ d. 33 + d) (reverse (digits_of 94 i))

-- The line with a number of signal i: of one bit, its digit and the code; of any other, `b`, its binary digits, a space and the code.
abbrev pub value_text : ℕ → ℕ → ℕ → Text
value_text i width number = (if width == 1 then binary number else codes "b" ++ binary number ++ codes " ") ++ code i ++ codes "\n"

-- the declarations of the signals from i on; the lines with all their numbers; and the lines with those that changed
abbrev pub variable_texts : ℕ → List Watched → Text
variable_texts i [] = []
variable_texts i (w ∷ ws) = (codes "$var wire " ++ decimal w.width ++ codes " " ++ code i ++ codes " " ++ w.name ++ codes " $end\n") ++ variable_texts (suc i) ws

abbrev pub value_texts : ℕ → List Watched → List ℕ → Text
value_texts i (w ∷ ws) (x ∷ now) = value_text i w.width x ++ value_texts (suc i) ws now
value_texts i _ _ = []

abbrev pub changes : ℕ → List Watched → List ℕ → List ℕ → Text
changes i (w ∷ ws) (x ∷ last) (y ∷ now) = (if x == y then [] else value_text i w.width y) ++ changes (suc i) ws last now
changes i _ _ _ = []

-- the line with the time of a frame; and that line before a text, unless the text is empty
abbrev pub time : ℕ → Text
time t = codes "#" ++ decimal t ++ codes "\n"

abbrev pub timed : ℕ → Text → Text
timed t [] = []
timed t (c ∷ cs) = time t ++ c ∷ cs

-- ---- starts and toggles

-- a line for each signal that is 1
abbrev pub start_lines : ℕ → List Watched → List ℕ → Text
start_lines t (w ∷ ws) (x ∷ now) = (if x == 1 then decimal t ++ codes " " ++ w.name ++ codes "\n" else []) ++ start_lines t ws now
start_lines t _ _ = []

-- how many bits of the numbers differ
abbrev pub toggled : List ℕ → List ℕ → ℕ
toggled (x ∷ last) (y ∷ now) = count_ones (bit_xor x y) + toggled last now
toggled _ _ = 0

abbrev pub toggles : ℕ → ℕ → Text
toggles t count = decimal t ++ codes " " ++ decimal count ++ codes "\n"

-- ---- what a probe of each kind writes

-- the text of the beginning
abbrev pub opening_text : TraceKind → List Watched → Text
opening_text Vcd ws = codes "$timescale 1 ns $end\n$scope module safl $end\n" ++ variable_texts 0 ws ++ codes "$upscope $end\n$enddefinitions $end\n"
opening_text _ ws = []

-- the text of cycle t. The watched signals have these numbers, and had those in the frame before, if there was one
abbrev pub frame_text : TraceKind → List Watched → ℕ → Option (List ℕ) → List ℕ → Text
frame_text Vcd ws t None now = time t ++ codes "$dumpvars\n" ++ value_texts 0 ws now ++ codes "$end\n"
frame_text Vcd ws t (Some last) now = timed t (changes 0 ws last now)
frame_text Starts ws t last now = start_lines t ws now
frame_text Toggles ws t None now = toggles t 0
frame_text Toggles ws t (Some last) now = toggles t (toggled last now)
frame_text Silent ws t last now = []

-- the text of the end, after this many frames
abbrev pub closing : TraceKind → ℕ → Text
closing Vcd turn = time turn
closing _ turn = []

-- the texts of the frames from cycle t on
abbrev pub frames_text : TraceKind → List Watched → ℕ → Option (List ℕ) → List Valuation → Text
frames_text kind ws t last [] = []
frames_text kind ws t last (f ∷ fs) = frame_text kind ws t last (seen ws f) ++ frames_text kind ws (suc t) (Some (seen ws f)) fs

-- the whole trace of a run, by the number of its kind
abbrev pub trace : ℕ → Netlist → List Valuation → Text
trace number n frames =
    let kind = kind_of number in
    let ws = watched_by kind n in
    opening_text kind ws ++ frames_text kind ws 0 None frames ++ closing kind (length frames)

-- ---- parts of texts, by name

abbrev pub variable : ℕ → Watched → Text
variable i w = codes "$var wire " ++ decimal w.width ++ codes " " ++ code i ++ codes " " ++ w.name ++ codes " $end\n"

abbrev pub changed : ℕ → ℕ → ℕ → ℕ → Text
changed i width old new = if old == new then [] else value_text i width new

abbrev pub header : List Watched → Text
header ws = codes "$timescale 1 ns $end\n$scope module safl $end\n" ++ variable_texts 0 ws ++ codes "$upscope $end\n$enddefinitions $end\n"

abbrev pub dump : ℕ → List Watched → List ℕ → Text
dump t ws now = time t ++ codes "$dumpvars\n" ++ value_texts 0 ws now ++ codes "$end\n"

abbrev pub start : ℕ → List ℕ → ℕ → Text
start t name number = if number == 1 then decimal t ++ codes " " ++ name ++ codes "\n" else []
