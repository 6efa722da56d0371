-- Why a run that probes watch stopped, and what holds in any case.
use Rattle.std.specs.Prelude.{ℕ, ◌≡◌, ◌≤◌, List, map, length}
use Rattle.safl_io.specs.Counts.{Rose}
use Rattle.safl_io.specs.Shelf.{ShelfState, SameReads, UsesNoStray}
use Rattle.safl_probe.specs.Probing.{ProbeState, HasFailed}
use Rattle.safl_io.specs.declared.fault.OutErr.{OutErr}
use Rattle.safl_io.specs.declared.fault.OutErr.TheVariants as out
use Rattle.safl_probe.specs.declared.probe.ProbeErr.{ProbeErr}
use Rattle.safl_probe.specs.declared.probe.ProbeErr.TheVariants as probe
use Rattle.safl_probe.specs.Asked.{Asked, FileNames, IsAsked, SameUnasked, asked, probe_at}
use Rattle.safl_probe.specs.declared.drive_err.DriveErr.{DriveErr}
use Rattle.safl_probe.specs.declared.drive_err.DriveErr.TheVariants as why

-- the error of a file that cannot be written further; and the error of a probe that gives no more text
abbrev pub unwritten : ℕ → OutErr → DriveErr
unwritten place out.Failed = why.Write place
unwritten place out.NoMemory = why.NoMemory

abbrev pub unprobed : ℕ → ProbeErr → DriveErr
unprobed kind probe.Failed = why.Probe kind
unprobed kind probe.NoMemory = why.NoMemory

-- this one probe failed, or the file at its place was not written
abbrev pub Blames : DriveErr → ℕ → ProbeState → ProbeState → ShelfState → ShelfState → Type 0
Blames (why.Probe kind) place p q old new = (p.kind ≡ kind) × Rose p.faults q.faults × HasFailed q
Blames (why.Write i) place p q old new = (i ≡ place) × Rose old.write_faults new.write_faults
Blames why.NoMemory place p q old new = Unit {0}

-- an asked probe of this kind failed, and was used no more
pub record ProbeFailed (kind : ℕ) (names : Asked) (old new : List ProbeState) : Type 0 where
  pub place : ℕ
  pub name : List ℕ
  pub asked : IsAsked names place name
  pub of_kind : (probe_at old place).kind ≡ kind
  pub rose : Rose (probe_at old place).faults (probe_at new place).faults
  pub failed : HasFailed (probe_at new place)

-- the file of the asked probe at this place was not written
pub record WriteFailed (place : ℕ) (names : Asked) (old new : ShelfState) : Type 0 where
  pub name : List ℕ
  pub asked : IsAsked names place name
  pub rose : Rose old.write_faults new.write_faults

abbrev pub Stopped : DriveErr → Asked → List ProbeState → List ProbeState → ShelfState → ShelfState → Type 0
Stopped (why.Probe kind) names ps qs old new = ProbeFailed kind names ps qs
Stopped (why.Write place) names ps qs old new = WriteFailed place names old new
Stopped why.NoMemory names ps qs old new = Unit {0}

-- why a run stopped, said by what the probes and the shelf tell before and after
abbrev pub StopsRun : {P : Type 0} → FileNames → (P → ProbeState) → List P → List P → ShelfState → ShelfState → DriveErr → Type 0
StopsRun names tell ps qs old new e = Stopped e (asked names) (map tell ps) (map tell qs) old new

-- there are as many probes as before, of the same kinds, and no count of faults fell
pub record SameProbes (old new : List ProbeState) : Type 0 where
  pub count : length new ≡ length old
  pub kinds : (i : ℕ) → (probe_at new i).kind ≡ (probe_at old i).kind
  pub faults : (i : ℕ) → (probe_at old i).faults ≤ (probe_at new i).faults

-- the same, and those that aren't asked are as they were
pub record KeepsProbes {P : Type 0} (names : Asked) (tell : P → ProbeState) (old new : List P) : Type 0 where
  pub probes : SameProbes (map tell old) (map tell new)
  pub unasked : SameUnasked names old new

-- a shelf's count of failed reads is the same, no other count of it fell, and where it tells what it holds no stray name was used
pub record KeepsShelf (old new : ShelfState) : Type 0 where
  pub reads : SameReads old new
  pub strays : UsesNoStray old new
