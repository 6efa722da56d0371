-- The texts that the calls of a probe give.
use Rattle.std.specs.Prelude.{◌≡◌, List, [], ◌∷◌, ◌++◌}
use Rattle.safl_net.specs.Netlist.{Netlist}
use Rattle.safl_net.specs.Valuations.{Valuation}
use Rattle.safl_probe.specs.Texts.{Text, trace}
use Rattle.safl_probe.specs.Probing.{ProbeState, begun, after_frame, begin_text, cycle_text, finish_text}

-- the texts of frames, given one after the other; and what the probe tells afterwards
abbrev pub cycle_texts : List Valuation → ProbeState → Text
cycle_texts [] s = []
cycle_texts (f ∷ fs) s = cycle_text f s ++ cycle_texts fs (after_frame f s)

abbrev pub after_frames : List Valuation → ProbeState → ProbeState
after_frames [] s = s
after_frames (f ∷ fs) s = after_frames fs (after_frame f s)

-- the texts of the beginning, of all frames and of the end, joined in order, are the trace
abbrev pub CallsMakeTraces : Type 0
CallsMakeTraces =
    (n : Netlist) (s : ProbeState) (frames : List Valuation)
    → begin_text n s ++ cycle_texts frames (begun n s) ++ finish_text (after_frames frames (begun n s)) ≡ trace s.kind n frames
