-- What a probe tells, and what its calls append.
use Rattle.std.specs.Prelude.{◌≡◌, ◌≤◌, ◌<◌, ℕ, ◌+◌, List, [], length, Option, Some, None}
use Rattle.safl_net.specs.Netlist.{Netlist}
use Rattle.safl_net.specs.Valuations.{Valuation}
use Rattle.safl_probe.specs.Watching.{ProbeShape, kind_of, shape_of, seen}
use Rattle.safl_probe.specs.Texts.{Text, opening_text, frame_text, closing}
use Rattle.safl_probe.specs.declared.stage.Stage.{Stage}
use Rattle.safl_probe.specs.declared.stage.Stage.TheVariants as stage

-- its kind; how far it has come; what it watches, once it was begun; the numbers that it saw in the last frame, if there was one; how
-- many frames it was given; and how often it failed
pub record ProbeState : Type 0 where
  pub kind : ℕ
  pub stage : Stage
  pub shape : ProbeShape
  pub last : Option (List ℕ)
  pub turn : ℕ
  pub faults : ℕ

-- a probe before it begins
abbrev pub fresh : ℕ → ProbeState
fresh kind = record { kind = kind; stage = stage.Waiting; shape = record { signals = 0; watched = [] }; last = None; turn = 0; faults = 0 }

-- it has not begun; it has begun, and has neither ended nor failed; and it has failed
abbrev pub IsWaiting : ProbeState → Type 0
IsWaiting s = s.stage ≡ stage.Waiting

abbrev pub IsWatching : ProbeState → Type 0
IsWatching s = s.stage ≡ stage.Watching

abbrev pub HasFailed : ProbeState → Type 0
HasFailed s = s.stage ≡ stage.Failed

-- it tells this
abbrev pub Tells : ProbeState → ProbeState → Type 0
Tells want now = now ≡ want

-- it is of the same kind, and its count of faults did not fall
pub record SameProbe (old new : ProbeState) : Type 0 where
  pub kind : new.kind ≡ old.kind
  pub faults : old.faults ≤ new.faults

-- it may be given the frame of cycle t: it watches, the frame has a number for each signal, and t is the number of frames so far, and
-- not the last one of 64 bits
pub record TakesFrame (t : ℕ) (frame : Valuation) (s : ProbeState) : Type 0 where
  pub watching : IsWatching s
  pub fits : length frame ≡ s.shape.signals
  pub turn : t ≡ s.turn
  pub room : t < 0xffff_ffff_ffff_ffff

-- a probe after it has begun on a net; after a frame; and after its end
abbrev pub begun : Netlist → ProbeState → ProbeState
begun n s = record s { stage = stage.Watching; shape = shape_of s.kind n; last = None; turn = 0 }

abbrev pub after_frame : Valuation → ProbeState → ProbeState
after_frame frame s = record s { last = Some (seen s.shape.watched frame); turn = s.turn + 1 }

abbrev pub ended : ProbeState → ProbeState
ended s = record s { stage = stage.Ended }

-- the text of the beginning on a net; of a frame; and of the end
abbrev pub opening_on : ℕ → ProbeShape → Text
opening_on number shape = opening_text (kind_of number) shape.watched

abbrev pub begin_text : Netlist → ProbeState → Text
begin_text n s = opening_on s.kind (shape_of s.kind n)

abbrev pub cycle_text : Valuation → ProbeState → Text
cycle_text frame s = frame_text (kind_of s.kind) s.shape.watched s.turn s.last (seen s.shape.watched frame)

abbrev pub finish_text : ProbeState → Text
finish_text s = closing (kind_of s.kind) s.turn
