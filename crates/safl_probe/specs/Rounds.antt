-- What probes are shown of a call, cycle by cycle.
use Rattle.std.specs.Prelude.{ℕ, ◌≡◌, ◌<◌, ◌≤◌, ◌+◌, List, map, length, Option, Some, slice_get, slice_index, codes}
use Rattle.safl_word.specs.Words.{Word}
use Rattle.safl_io.specs.Shelf.{Files, ShelfState}
use Rattle.safl_io.specs.Told.{TellsOn}
use Rattle.safl_net.specs.Netlist.{Netlist}
use Rattle.safl_net.specs.Valuations.{Valuation, read_output}
use Rattle.safl_sim.specs.Outcomes.{IsCallRun}
use Rattle.safl_sim.specs.Simulation.{Simulation}
use Rattle.safl_run.specs.Calls.{Answers, cycles_of}
use Rattle.safl_run.specs.Steps.{IsCalled}
use Rattle.safl_run.specs.declared.harness.Harness.{Harness}
use Rattle.safl_sim.specs.declared.done.Done.{Done}
use Rattle.safl_probe.specs.Probing.{ProbeState, Tells, IsWatching}
use Rattle.safl_probe.specs.Calls.{cycle_texts, after_frames}
use Rattle.safl_probe.specs.Asked.{Asked, FileNames, IsAsked, AreApart, asked, probe_at}
use Rattle.safl_probe.specs.Growth.{AllGrow, Longer, LongerPart, AllThere, NowThere}
use Rattle.safl_probe.specs.Stopping.{StopsRun}
use Rattle.safl_probe.specs.declared.drive_err.DriveErr.{DriveErr}
use Rattle.safl_probe.specs.declared.moment.Moment.TheVariants.{End}

-- the probe has begun on the net, and has seen no frame
pub record IsReady (n : Netlist) (s : ProbeState) : Type 0 where
  pub watching : IsWatching s
  pub signals : s.shape.signals ≡ length n.signals
  pub turn : s.turn ≡ 0

-- each probe has its place among the names, and each asked one is ready
pub record AllReady {P : Type 0} (n : Netlist) (names : FileNames) (tell : P → ProbeState) (ps : List P) : Type 0 where
  pub files : length names ≡ length ps
  pub ready : (i : ℕ) (name : List ℕ) → IsAsked (asked names) i name → IsReady n (probe_at (map tell ps) i)

-- the asked probes were shown these frames, their files have the texts of these more, and where the files were there they still are
pub record Shown (frames : List Valuation) (names : Asked) (ps qs : List ProbeState) (old new : Option Files) : Type 0 where
  pub told : (i : ℕ) (name : List ℕ) → IsAsked names i name → Tells (after_frames frames (probe_at ps i)) (probe_at qs i)
  pub files : AreApart names → TellsOn (AllGrow Longer names (λ i. cycle_texts frames (probe_at ps i))) old new
  pub there : AllThere End names old → TellsOn (λ _ now. NowThere names now) old new

-- a call was answered, and the asked probes were shown its cycles
pub record Watches (n : Netlist) (state : ℕ → ℕ) (args : List Word) (limit : ℕ) (names : Asked) (ps qs : List ProbeState)
    (old new : Option Files) (answer : Option Done) (after : ℕ → ℕ) : Type 0 where
  pub answers : Answers n limit state args answer after
  pub shown : Shown (cycles_of n limit state args answer after answers) names ps qs old new

-- A call was watched up to an error. The files have a part of the texts of its cycles, and `done` was 0 in all of these but
-- perhaps the last.
pub record BreaksOff (n : Netlist) (state : ℕ → ℕ) (args : List Word) (limit : ℕ) (names : Asked) (ps : List ProbeState) (old new : Option Files) : Type 0 where
  pub frames : List Valuation
  pub call : IsCallRun n state args frames
  pub in_time : length frames ≤ limit
  pub off : (c : ℕ) (v : Valuation) → c + 1 < length frames → slice_get frames c ≡ Some v → read_output n v (codes "done") ≡ 0
  pub files : AreApart names → TellsOn (AllGrow LongerPart names (λ i. cycle_texts frames (probe_at ps i))) old new

-- a call with the words of a harness was answered, the asked probes were shown its cycles, and no write failed
pub record IsShown {P : Type 0} (sim after : Simulation) (harness : Harness) (limit : ℕ) (names : FileNames) (tell : P → ProbeState) (ps qs : List P)
    (old new : ShelfState) (answer : Option Done) : Type 0 where
  pub watches : (args : List Word) → IsCalled sim.net args harness
      → Watches sim.net (slice_index sim.state) args limit (asked names) (map tell ps) (map tell qs) old.holds new.holds answer (slice_index after.state)
  pub quiet : new.write_faults ≡ old.write_faults

-- it was watched up to an error, and this is why
pub record ShowsPart {P : Type 0} (sim : Simulation) (harness : Harness) (limit : ℕ) (names : FileNames) (tell : P → ProbeState) (ps qs : List P)
    (old new : ShelfState) (why : DriveErr) : Type 0 where
  pub broken : (args : List Word) → IsCalled sim.net args harness
      → BreaksOff sim.net (slice_index sim.state) args limit (asked names) (map tell ps) old.holds new.holds
  pub stopped : StopsRun names tell ps qs old new why
