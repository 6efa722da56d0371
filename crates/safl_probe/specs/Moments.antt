-- The moments of a run at which a probe writes text.
use Rattle.safl_net.specs.Netlist.{Netlist}
use Rattle.safl_net.specs.Valuations.{Valuation}
use Rattle.safl_probe.specs.Texts.{Text}
use Rattle.safl_probe.specs.Probing.{ProbeState, TakesFrame, IsWaiting, IsWatching, begun, after_frame, ended, begin_text, cycle_text, finish_text}
use Rattle.safl_probe.specs.declared.moment.Moment.{Moment}
use Rattle.safl_probe.specs.declared.moment.Moment.TheVariants.{Beginning, Frame, End}

-- a probe may be told of this moment
abbrev pub CanTell : Moment → Valuation → ProbeState → Type 0
CanTell Beginning v s = IsWaiting s
CanTell (Frame t) v s = TakesFrame t v s
CanTell End v s = IsWatching s

-- the text that a probe gives at this moment; and what it tells afterwards
abbrev pub text_at : Moment → Netlist → Valuation → ProbeState → Text
text_at Beginning n v s = begin_text n s
text_at (Frame t) n v s = cycle_text v s
text_at End n v s = finish_text s

abbrev pub state_at : Moment → Netlist → Valuation → ProbeState → ProbeState
state_at Beginning n v s = begun n s
state_at (Frame t) n v s = after_frame v s
state_at End n v s = ended s
