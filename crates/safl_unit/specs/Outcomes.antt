-- The circuit of one body within the circuit of its program, and how its tail calls follow those of the bodies before it.
use Rattle.std.specs.Prelude.{◌≡◌, ℕ, suc, ◌+◌, ◌<◌, ◌≤◌, ◌⊎◌, List, [], ◌∷◌, ◌++◌, length, Option, None, Some, Vec, slice_get}
use Rattle.safl_sites.specs.Plan.{Choice}
use Rattle.std.specs.Global.{Global}
use Rattle.safl_term.specs.Checked.{CheckedProgram}
use Rattle.safl_term.specs.Sizes.{nodes}
use Rattle.safl_net.specs.Netlist.{Netlist}
use Rattle.safl_net.specs.Growth.{Val}
use Rattle.safl_lower.specs.declared.loads.Load.{Load}
use Rattle.safl_lower.specs.Tables.{entry_in, taken, taken_at, taken_from, one_word}
use Rattle.safl_lower.specs.Rows.{row_at}
use Rattle.safl_lower.specs.declared.lowered.SitePorts.{SitePorts}
use Rattle.safl_lower.specs.declared.lowered.Body.{Body}
use Rattle.safl_lower.specs.Loads.{loads_cost}
use Rattle.safl_lower.specs.Bodies.{IsGroup, BodyFits}
use Rattle.safl_circuit.specs.Equations.{Registers, end_word, body_wants, loop_from}
use Rattle.safl_unit.specs.declared.pins.Pins.{Pins}
use Rattle.safl_unit.specs.Cycles.{InEachCycle}

-- the ports of the sites in the body of f
pub record AreOwnPorts (c : CheckedProgram) (all : List SitePorts) (f : ℕ) (own : List SitePorts) : Type 0 where
  pub count : c.first_site f + length own ≡ c.first_site (suc f)
  pub same : (i : ℕ) → i < length own → slice_get own i ≡ slice_get all (c.first_site f + i)

-- the end of the body, the wants of its sites and its tail calls are as the equations say
pub record BodyShows (c : CheckedProgram) (P : Choice) (f : ℕ) (b : Body) (v : Val) (r : Registers) : Type 0 where
  pub end : taken v b.end ≡ one_word (end_word c.program P r f)
  pub wants : (i : ℕ) → i < length b.wants.items → taken_at v b.wants.items i ≡ body_wants c.program P r (c.first_site f + i)
  pub loops : (i : ℕ) → i < length b.loops.items → taken_from v b.loops.items i ≡ loop_from c.program P r (c.program.unit f + i) f

-- the circuit of the body of f, with a load for each site in it, and a place for each function of its group
pub record HasBody (c : CheckedProgram) (P : Choice) (n : Netlist) (p : Pins) (f : ℕ) (b : Body) : Type 0 where
  pub count : c.first_site f + length b.wants.items ≡ c.first_site (suc f)
  pub group : IsGroup c.program f (length b.loops.items)
  pub tails : loads_cost b.loops.items ≤ nodes (c.program.body f)
  pub fits : BodyFits c f n b
  pub shows : InEachCycle c.program P n p (λ v r i. BodyShows c P f b v r)

-- a row with a load, or an empty row if there is none
abbrev pub maybe_load : Option Load → List Load
maybe_load None = []
maybe_load (Some l) = l ∷ []

-- the first `count` loads are appended to the rows from number `first` on
pub record PushesLoads (first count : ℕ) (own : List (Option Load)) (old new : List (Vec Load Global)) : Type 0 where
  pub pushed : (i : ℕ) → i < count → row_at new (first + i) ≡ row_at old (first + i) ++ maybe_load (entry_in (slice_get own i))
  pub others : (h : ℕ) → (h < first) ⊎ (first + count ≤ h) → row_at new h ≡ row_at old h
