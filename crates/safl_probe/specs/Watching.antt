-- Which signals of a net a probe watches.
use Rattle.std.specs.Prelude.{ℕ, suc, List, [], ◌∷◌, ◌++◌, map, length, Bool, true, false, not, cond, ◌==◌, if◌then◌else◌, codes, nat_eq, slice_index}
use Rattle.std.specs.List.{starts_with}
use Rattle.safl_word.specs.Words.{Word}
use Rattle.safl_net.specs.declared.cell.SigKind.{SigKind}
use Rattle.safl_net.specs.declared.cell.SigKind.TheVariants.{Input, Reg, Wire}
use Rattle.safl_net.specs.Netlist.{Netlist, Signal, width_of}
use Rattle.safl_net.specs.Names.{is_temp}
use Rattle.safl_net.specs.Making.{sort_of, name_at, kind_at}
use Rattle.safl_net.specs.Valuations.{Valuation}
use Rattle.safl_probe.specs.declared.kind.TraceKind.{TraceKind}
use Rattle.safl_probe.specs.declared.kind.TraceKind.TheVariants.{Vcd, Starts, Toggles, Silent}
use Rattle.safl_probe.specs.declared.kind.Group.{Group}
use Rattle.safl_probe.specs.declared.kind.Group.TheVariants.{Inputs, Registers, NamedWires, StartWires}

-- the kind with this number: 1 is VCD, 2 is starts, 3 is toggles, and any other kind writes nothing
abbrev pub kind_of : ℕ → TraceKind
kind_of number = if number == 1 then Vcd else if number == 2 then Starts else if number == 3 then Toggles else Silent

-- a signal that is watched: its name in the trace, its number, and its width
pub record Watched : Type 0 where
  pub name : List ℕ
  pub signal : ℕ
  pub width : ℕ

-- whether a signal is in a group: inputs; registers; wires whose name does not begin with `n$`; wires whose name begins with `go$`
abbrev pub belongs : Group → SigKind → List ℕ → Bool
belongs Inputs Input name = true
belongs Registers Reg name = true
belongs NamedWires Wire name = not (is_temp name)
belongs StartWires Wire name = starts_with nat_eq name (codes "go$")
belongs _ _ name = false

-- the signals of a group. The first signal has the number i
abbrev pub group_from : Group → List Signal → ℕ → List Watched
group_from group [] i = []
group_from group (g ∷ gs) i =
    cond (belongs group (sort_of g.kind) g.name) (record { name = g.name; signal = i; width = g.width } ∷ []) [] ++ group_from group gs (suc i)

-- what a probe of each kind watches: for VCD the inputs, the registers, the named wires and the outputs, each in order
abbrev pub watched_by : TraceKind → Netlist → List Watched
watched_by Vcd n =
    group_from Inputs n.signals 0 ++ group_from Registers n.signals 0 ++ group_from NamedWires n.signals 0
    ++ map (λ (o : List ℕ × ℕ). record { name = o.0; signal = o.1; width = width_of n o.1 }) n.outputs
watched_by Starts n = group_from StartWires n.signals 0
watched_by Toggles n = group_from Registers n.signals 0
watched_by Silent n = []

-- a net as a probe sees it: the number of its signals, and those that are watched
pub record ProbeShape : Type 0 where
  pub signals : ℕ
  pub watched : List Watched

abbrev pub shape_of : ℕ → Netlist → ProbeShape
shape_of number n = record { signals = length n.signals; watched = watched_by (kind_of number) n }

-- the signal with a number
abbrev pub signal_at : Netlist → ℕ → Signal
signal_at n s = record { name = name_at n s; width = width_of n s; kind = kind_at n s }

-- the numbers of a frame's words
abbrev pub shown_frame : List Word → Valuation
shown_frame words = map (λ (w : Word). w.bits) words

-- the numbers of the watched signals in a frame, which has a number for each signal of the net
abbrev pub seen : List Watched → Valuation → List ℕ
seen ws frame = map (λ (w : Watched). slice_index frame w.signal) ws

-- ---- parts by name

abbrev pub one_watched : Group → Signal → ℕ → List Watched
one_watched group g i = cond (belongs group (sort_of g.kind) g.name) (record { name = g.name; signal = i; width = g.width } ∷ []) []

abbrev pub output_watched : Netlist → List ℕ × ℕ → Watched
output_watched n o = record { name = o.0; signal = o.1; width = width_of n o.1 }
