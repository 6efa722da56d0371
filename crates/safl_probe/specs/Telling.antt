-- Asked probes that are told of a moment of the run, and their files.
use Rattle.std.specs.Prelude.{ℕ, ◌≡◌, List, map, length}
use Rattle.safl_io.specs.Shelf.{ShelfState}
use Rattle.safl_io.specs.Told.{TellsOn}
use Rattle.safl_net.specs.Netlist.{Netlist}
use Rattle.safl_net.specs.Valuations.{Valuation}
use Rattle.safl_sim.specs.Simulation.{Simulation}
use Rattle.safl_probe.specs.Watching.{shown_frame}
use Rattle.safl_probe.specs.Probing.{ProbeState, Tells}
use Rattle.safl_probe.specs.Asked.{FileNames, IsAsked, asked, probe_at}
use Rattle.safl_probe.specs.Moments.{CanTell, text_at, state_at}
use Rattle.safl_probe.specs.Growth.{Relation, Grows, Grown, GrownPart, FilesGrow, LeavesAllThere}
use Rattle.safl_probe.specs.Stopping.{StopsRun}
use Rattle.safl_probe.specs.declared.drive_err.DriveErr.{DriveErr}
use Rattle.safl_probe.specs.declared.moment.Moment.{Moment}
use Rattle.safl_probe.specs.declared.moment.Moment.TheVariants.{Frame}
use Rattle.safl_probe.specs.declared.room.Room.{Room}

-- the frame that a room holds
abbrev pub frame_in : Room → Valuation
frame_in room = shown_frame room.frame.items

-- each probe has its place among the names, and each asked one may be told of a moment with this frame
pub record AllCanTell {P : Type 0} (moment : Moment) (frame : Valuation) (names : FileNames) (tell : P → ProbeState) (ps : List P) : Type 0 where
  pub files : length names ≡ length ps
  pub can : (i : ℕ) (name : List ℕ) → IsAsked (asked names) i name → CanTell moment frame (probe_at (map tell ps) i)

-- what each asked probe tells is this step of what it told before
abbrev pub AllTell : {P : Type 0} → FileNames → (ProbeState → ProbeState) → (P → ProbeState) → List P → List P → Type 0
AllTell names step tell ps qs = (i : ℕ) (name : List ℕ) → IsAsked (asked names) i name → Tells (step (probe_at (map tell ps) i)) (probe_at (map tell qs) i)

-- at a moment, the file with a name is in this relation to its old text, with the text that the probe gives, if the shelf tells
abbrev pub GrowsAt : (Moment → Relation) → Moment → Netlist → Valuation → List ℕ → ProbeState → ShelfState → ShelfState → Type 0
GrowsAt R moment n frame name s old new = TellsOn (Grows (R moment) name (text_at moment n frame s)) old.holds new.holds

-- at a moment, the files of all asked probes are in this relation to their old texts
abbrev pub AllGrowAt : {P : Type 0} → (Moment → Relation) → Moment → Netlist → Valuation → FileNames → (P → ProbeState) → List P
    → ShelfState → ShelfState → Type 0
AllGrowAt R moment n frame names tell ps old new = FilesGrow (R moment) names (text_at moment n frame) tell ps old new

-- a probe was told of a moment: it tells what the moment makes of it, and no write failed
pub record WasTold (moment : Moment) (n : Netlist) (frame : Valuation) (p q : ProbeState) (old new : ShelfState) : Type 0 where
  pub tells : Tells (state_at moment n frame p) q
  pub quiet : new.write_faults ≡ old.write_faults

-- all asked probes were told of a moment: their files grew by their texts, and no write failed; each tells what the moment makes
-- of it; and where the files were there they are there afterwards
pub record AllTold {P : Type 0} (moment : Moment) (n : Netlist) (frame : Valuation) (names : FileNames) (tell : P → ProbeState) (ps qs : List P)
    (old new : ShelfState) : Type 0 where
  pub grown : AllGrowAt Grown moment n frame names tell ps old new
  pub quiet : new.write_faults ≡ old.write_faults
  pub tells : AllTell names (state_at moment n frame) tell ps qs
  pub there : LeavesAllThere moment names old new

-- they were told up to an error: their files grew by parts of their texts, and this is why
pub record ToldPart {P : Type 0} (moment : Moment) (n : Netlist) (frame : Valuation) (names : FileNames) (tell : P → ProbeState) (ps qs : List P)
    (old new : ShelfState) (why : DriveErr) : Type 0 where
  pub grown : AllGrowAt GrownPart moment n frame names tell ps old new
  pub stopped : StopsRun names tell ps qs old new why

-- they were shown a cycle of a simulation, to the end or up to an error
abbrev pub AllShown : {P : Type 0} → ℕ → Simulation → FileNames → (P → ProbeState) → List P → List P → ShelfState → ShelfState → Type 0
AllShown t sim names tell ps qs old new = AllTold (Frame t) sim.net sim.values names tell ps qs old new

abbrev pub ShownPart : {P : Type 0} → ℕ → Simulation → FileNames → (P → ProbeState) → List P → List P → ShelfState → ShelfState → DriveErr → Type 0
ShownPart t sim names tell ps qs old new why = ToldPart (Frame t) sim.net sim.values names tell ps qs old new why
