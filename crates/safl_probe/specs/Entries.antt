-- What a probe notes of the signals that it watches.
use Rattle.std.specs.Prelude.{ℕ, suc, List, [], ◌∷◌, map, Option, Some, None, cond, ◌==◌, string_bytes, slice_get, slice_index}
use Rattle.safl_net.specs.Valuations.{Valuation}
use Rattle.safl_probe.specs.Watching.{Watched, seen}
use Rattle.safl_probe.specs.Texts.{Text, frame_text, changed, changes}
use Rattle.safl_probe.specs.Probing.{ProbeState}
use Rattle.safl_probe.specs.declared.entry.Entry.{Entry}
use Rattle.safl_probe.specs.declared.entry.Spot.{Spot}
use Rattle.safl_probe.specs.declared.kind.TraceKind.{TraceKind}
use Rattle.safl_probe.specs.declared.stage.Stage.{Stage}

-- the watched signals of entries
abbrev pub watched_in : Entry → Watched
watched_in e = record { name = string_bytes e.name; signal = e.signal; width = e.width }

abbrev pub watched_all : List Entry → List Watched
watched_all es = map watched_in es

-- the spot of an entry, before the first frame
abbrev pub spot_of : Entry → Spot
spot_of e = record { signal = e.signal; width = e.width; number = 0 }

-- the watched signals of spots, with the names of the entries from i on
abbrev pub name_of : Option Entry → List ℕ
name_of None = []
name_of (Some e) = string_bytes e.name

abbrev pub named : List ℕ → Spot → Watched
named name s = record { name = name; signal = s.signal; width = s.width }

abbrev pub watched_from : ℕ → List Entry → List Spot → List Watched
watched_from i es [] = []
watched_from i es (s ∷ ss) = named (name_of (slice_get es i)) s ∷ watched_from (suc i) es ss

-- the watched signals of spots, without names
abbrev pub nameless : List Spot → List Watched
nameless ss = map (named []) ss

-- the numbers that the signals of spots had in the last frame
abbrev pub numbers : List Spot → List ℕ
numbers ss = map (λ (s : Spot). s.number) ss

-- these numbers, if there was a last frame
abbrev pub last_of : ℕ → List Spot → Option (List ℕ)
last_of turn ss = cond (turn == 0) None (Some (numbers ss))

-- a spot after one more frame; and all spots
abbrev pub looked : Valuation → Spot → Spot
looked frame s = record s { number = slice_index frame s.signal }

abbrev pub looked_all : Valuation → List Spot → List Spot
looked_all frame ss = map (looked frame) ss

-- the text of a frame in cycle t, given the entries, the spots and the numbers of the frame before
abbrev pub frame_text_of : TraceKind → List Entry → List Spot → ℕ → Option (List ℕ) → Valuation → Text
frame_text_of kind es ss t last frame = frame_text kind (watched_from 0 es ss) t last (seen (watched_from 0 es ss) frame)

-- the line of spot i if its number changes with a frame; and the lines of all spots
abbrev pub changed_in : ℕ → Spot → Valuation → Text
changed_in i s frame = changed i s.width s.number (slice_index frame s.signal)

abbrev pub changes_in : List Spot → Valuation → Text
changes_in ss frame = changes 0 (nameless ss) (numbers ss) (seen (nameless ss) frame)

-- what a probe tells that has come so far and has these entries and spots, on a net of this many signals, after this many frames
abbrev pub told_of : ℕ → Stage → ℕ → List Entry → List Spot → ℕ → ProbeState
told_of kind stage signals es ss turn =
    record {
      kind = kind;
      stage = stage;
      shape = record { signals = signals; watched = watched_from 0 es ss };
      last = last_of turn ss;
      turn = turn;
      faults = 0;
    }
