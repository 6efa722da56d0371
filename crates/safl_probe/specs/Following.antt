-- What a reader of a value change dump sees.
-- The dump is read from its beginning, and each number holds until the next change of its code.
use Rattle.std.specs.Prelude.{◌≡◌, ℕ, ◌-◌, ◌<◌, ◌^◌, List, [], ◌∷◌, map, length, Option, Some, None, Bool, false, if◌then◌else◌, ◌==◌, nat_lt, slice_get, slice_index}
use Rattle.std.specs.Str.{bytes_eq}
use Rattle.std.specs.Option.{option_or}
use Rattle.std.specs.Int.Digits.{number_from_digits}
use Rattle.safl_word.specs.Numerals.{between, value as counted}
use Rattle.safl_net.specs.Netlist.{Netlist}
use Rattle.safl_net.specs.Rules.{IsNetlist}
use Rattle.safl_net.specs.Laws.{FitWidths}
use Rattle.safl_net.specs.Valuations.{Valuation}
use Rattle.safl_probe.specs.Watching.{Watched, watched_by}
use Rattle.safl_probe.specs.Texts.{Text, code, trace}
use Rattle.safl_probe.specs.declared.kind.TraceKind.TheVariants.{Vcd}

-- the lines of a text, without their line feeds
abbrev pub before_first : ℕ → List Text → List Text
before_first c [] = (c ∷ []) ∷ []
before_first c (line ∷ rest) = (c ∷ line) ∷ rest

abbrev pub lines : Text → List Text
lines [] = []
lines (c ∷ cs) = if c == 10 then [] ∷ lines cs else before_first c (lines cs)

-- the part of a line before its first space; and the part after it
abbrev pub before_space : Text → Text
before_space [] = []
before_space (c ∷ cs) = if c == 32 then [] else c ∷ before_space cs

abbrev pub behind_space : Text → Text
behind_space [] = []
behind_space (c ∷ cs) = if c == 32 then cs else behind_space cs

-- what a line says: a time, or the number that a code has from now on, or something else
pub data Line : Type 0 where
  Time : (t : ℕ) → Line
  Change : (number : ℕ) (code : Text) → Line
  Other : Line

-- the forms of lines: `#` and a decimal; `b`, binary digits, a space and a code; a digit 0 or 1 and a code
abbrev pub binary_number : Text → ℕ
binary_number digits = number_from_digits 2 (map (λ c. c - 48) digits)

abbrev pub told_by : Text → Line
told_by [] = Other
told_by (c ∷ cs) =
    if c == 35 then Time (counted 10 cs) else if c == 98 then Change (binary_number (before_space cs)) (behind_space cs) else if between 48 49 c then Change (c - 48) cs else Other

-- the lines up to a time: those before the first line that says a later one
abbrev pub is_later : ℕ → Line → Bool
is_later t (Time s) = nat_lt t s
is_later t (Change number code) = false
is_later t Other = false

abbrev pub up_to : ℕ → List Line → List Line
up_to t [] = []
up_to t (l ∷ ls) = if is_later t l then [] else l ∷ up_to t ls

-- the number that a code has after some lines: that of its last change
abbrev pub change_of : Text → Line → Option ℕ
change_of code (Time t) = None
change_of code (Change number other) = if bytes_eq other code then Some number else None
change_of code Other = None

abbrev pub stands : Text → List Line → Option ℕ
stands code [] = None
stands code (l ∷ ls) = option_or (stands code ls) (change_of code l)

-- the number that a code has at a time
abbrev pub shown_number : Text → ℕ → Text → Option ℕ
shown_number text t code = stands code (up_to t (map told_by (lines text)))

-- the numbers of all frames fit the widths of their signals
abbrev pub FramesFit : Netlist → List Valuation → Type 0
FramesFit n frames = (t : ℕ) (frame : Valuation) → slice_get frames t ≡ Some frame → FitWidths n (slice_index frame)

-- at each time below the number of frames, each traced signal has its number in that frame
abbrev pub DumpsShowFrames : Type 0
DumpsShowFrames =
    (n : Netlist) → IsNetlist n → (frames : List Valuation) → FramesFit n frames → length frames < 2 ^ 64
    → (t i : ℕ) (frame : Valuation) (w : Watched) → slice_get frames t ≡ Some frame → slice_get (watched_by Vcd n) i ≡ Some w
    → shown_number (trace 1 n frames) t (code i) ≡ Some (slice_index frame w.signal)
