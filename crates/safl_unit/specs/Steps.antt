-- The next words of registers, from their words now.
use Rattle.std.specs.Prelude.{◌≡◌, ℕ, suc, ◌<◌, List, [], ◌∷◌, length, Option, Some, Result, IfOk, Bool, true, ◌&&◌, ◌||◌, ◌⊎◌, not, cond, is_some, slice_get}
use Rattle.std.specs.Prelude.{unwrap_or}
use Rattle.safl_sites.specs.Plan.{Choice}
use Rattle.safl_word.specs.Words.{Word}
use Rattle.safl_term.specs.Program.{Program}
use Rattle.safl_net.specs.declared.cell.Sig.{Sig}
use Rattle.safl_net.specs.Netlist.{Netlist}
use Rattle.safl_net.specs.Growth.{Val, Wired, words}
use Rattle.safl_net.specs.Bits.{on}
use Rattle.safl_circuit.specs.Equations.{many}
use Rattle.safl_lower.specs.declared.loads.Load.{Load}
use Rattle.safl_lower.specs.Tables.{EachAt, pin, taken_in, taken_from, on_in, on_from, FitsIn}
use Rattle.safl_unit.specs.declared.pins.UnitPins.{UnitPins}
use Rattle.safl_unit.specs.declared.pins.MemberPins.{MemberPins}
use Rattle.safl_unit.specs.declared.pins.SitePins.{SitePins}
use Rattle.safl_unit.specs.declared.pins.Pins.{Pins}
use Rattle.safl_unit.specs.declared.pins.Returns.{Returns}
use Rattle.safl_unit.specs.declared.pins.Outcomes.{Outcomes}
use Rattle.safl_unit.specs.declared.events.Events.{Events}
use Rattle.safl_unit.specs.declared.next.Entry.{Entry}
use Rattle.safl_unit.specs.Cycles.{UnitFits, MemberFits, SiteFits}

-- of a unit, by the word with which it ends, and whether it starts
pub record UnitStep (v : Val) (end : Option (List Word)) (start : Bool) (now after : UnitPins) : Type 0 where
  pub run : on v after.run ≡ ((start || on v now.run) && not (is_some end))
  pub fin : on v after.fin ≡ is_some end
  pub res : v after.res.0 ∷ [] ≡ unwrap_or end (v now.res.0 ∷ [])

-- of a function, by whether its unit has others, whether it or one of these starts, and what a site and a tail call load
pub record MemberStep (v : Val) (many entry rival : Bool) (load looped : Option (List Word)) (now after : MemberPins) : Type 0 where
  pub at : many ≡ true → on v after.at ≡ ((entry || on v now.at) && not rival)
  pub args : words v after.args.items ≡ unwrap_or load (unwrap_or looped (words v now.args.items))

-- of a site, by whether it keeps its word, is delivered to, starts and is cleared, and by the word of its unit
pub record SiteStep (v : Val) (kept ret go clear : Bool) (res : Word) (now after : SitePins) : Type 0 where
  pub sent : on v after.sent ≡ ((on v now.sent || go) && not clear)
  pub got : on v after.got ≡ ((on v now.got || ret) && not clear)
  pub keep : kept ≡ true → v after.keep.0 ≡ cond ret res (v now.keep.0)

-- these signals have the next words of a unit's registers, for results of this width
abbrev pub IsNextUnit : Netlist → Option Load → Option Sig → UnitPins → ℕ → UnitPins → Type 0
IsNextUnit n end start now w y = UnitFits n y w × ((v : Val) → Wired n v → UnitStep v (taken_in v end) (on_in v start) now y)

-- on success, these are the signals that the list has for the unit, or otherwise have the next words of its registers
abbrev pub GivesUnit : {E : Type 0} → Result UnitPins E → Netlist → Netlist → List UnitPins → ℕ → Option Load → Option Sig → UnitPins → Type 0
GivesUnit r old new all unit end start now = (w : ℕ) → FitsIn old end (w ∷ []) → UnitFits old now w
    → IfOk r (λ y. (slice_get all unit ≡ Some y) ⊎ IsNextUnit new end start now w y)

-- these signals have the next words of a function's registers
abbrev pub IsNextMember : Netlist → Bool → Entry → Option Load → Option Load → MemberPins → MemberPins → Type 0
IsNextMember n many entry load looped now y =
    (v : Val) → Wired n v → MemberStep v many (on_in v entry.own) (on_in v entry.rival) (taken_in v load) (taken_in v looped) now y

-- on success, these signals have the widths of the function's registers
abbrev pub KeepsMember : {E : Type 0} → Result MemberPins E → Netlist → Netlist → Option Load → Option Load → MemberPins → Type 0
KeepsMember r old new load looped now = (ws : List ℕ)
    → FitsIn old load ws → FitsIn old looped ws → MemberFits old now ws → IfOk r (λ y. MemberFits new y ws)

-- for the first functions, the registers of their units after the edge
pub record UnitsNext (C : Program) (n : Netlist) (now : List UnitPins) (ends : List (Option Load)) (starts : List (Option Sig))
    (after : List UnitPins) (count : ℕ) : Type 0 where
  pub entries : length after ≡ count
  pub fits : EachAt after (λ f y. UnitFits n y (C.result f))
  pub shows : (v : Val) → Wired n v → EachAt after (λ f y. (x : UnitPins) → slice_get now (C.unit f) ≡ Some x
      → UnitStep v (taken_from v ends (C.unit f)) (on_from v starts (C.unit f)) x y)

-- for the first functions, their own registers after the edge
pub record MembersNext (C : Program) (n : Netlist) (now : List MemberPins) (entries rivals : List (Option Sig)) (loads looped : List (Option Load))
    (after : List MemberPins) (count : ℕ) : Type 0 where
  pub entries_after : length after ≡ count
  pub fits : EachAt after (λ f y. MemberFits n y (C.params f))
  pub shows : (v : Val) → Wired n v → EachAt after (λ f y. (x : MemberPins) → slice_get now f ≡ Some x
      → MemberStep v (many C f) (on_from v entries f) (on_from v rivals f) (taken_from v loads f) (taken_from v looped f) x y)

-- for the sites up to a number, their registers after the edge
pub record SitesNext (C : Program) (P : Choice) (n : Netlist) (units : List UnitPins) (now : List SitePins) (rets goes : List Sig)
    (clears : List (Option Sig)) (after : List SitePins) (last : ℕ) : Type 0 where
  pub entries : length after ≡ suc last
  pub fits : EachAt after (λ k y. 0 < k → SiteFits n y (C.result (C.callee k)))
  pub shows : (v : Val) → Wired n v → EachAt after (λ k y. 0 < k → (u : UnitPins) (x : SitePins) → slice_get units (C.callee k) ≡ Some u
      → slice_get now k ≡ Some x
      → SiteStep v (P.kept k) (on v (pin rets k)) (on v (pin goes k)) (on_from v clears (C.unit (C.caller k))) (v u.res.0) x y)

-- for all functions and sites, their registers after the edge
abbrev pub AllUnitsNext : Program → Netlist → Pins → List (Option Load) → List (Option Sig) → List UnitPins → Type 0
AllUnitsNext C n p ends starts after = UnitsNext C n p.bank.units.items ends starts after C.functions

abbrev pub AllMembersNext : Program → Netlist → Pins → Events → Outcomes → List MemberPins → Type 0
AllMembersNext C n p e o after =
    MembersNext C n p.bank.members.items e.entries.items e.rivals.items e.loads.items o.loops.items after C.functions

abbrev pub AllSitesNext : Program → Choice → Netlist → Pins → Returns → List Sig → List (Option Sig) → List SitePins → Type 0
AllSitesNext C P n p s goes clears after = SitesNext C P n p.bank.units.items p.bank.sites.items s.ret.items goes clears after C.sites
