-- What drives declared names.
use Rattle.std.specs.Prelude.{◌≡◌, ℕ, List, [], ◌∷◌, ◌++◌, ◌≤◌, length, All, None, Some, Result, Ok, Err, Bool, true, false, not, ◌||◌, slice_get}
use Rattle.std.specs.Prelude.{is_none}
use Rattle.std.specs.Str.{bytes_eq}
use Rattle.safl_word.specs.Words.{Word}
use Rattle.safl_word.specs.Numerals.{value}
use Rattle.safl_word.specs.Limits.{width_max}
use Rattle.safl_word.specs.declared.primitive.Primitive.TheVariants as prims
use Rattle.safl_net.specs.declared.cell.Op.{Op}
use Rattle.safl_net.specs.declared.cell.Op.TheVariants as ops
use Rattle.safl_net.specs.Widths.{op_width}
use Rattle.safl_verilog.specs.declared.fault.VRule.TheVariants as rules
use Rattle.safl_verilog.specs.declared.fault.VFault.{VFault}
use Rattle.safl_verilog.specs.declared.token.Sort.{Sort}
use Rattle.safl_verilog.specs.Files.{Spot, RightSide, Declaration, Statement, Assign, Always}
use Rattle.safl_verilog.specs.Faults.{at, where_not, is_clock, is_reset, find, passes, is_signal, is_target, is_output, is_wire, is_reg, is_plain, range_width, width_declared, operation, operands, expression_width, assigned, updated, literal_value, statement_faults}
use Rattle.safl_vparse.specs.declared.file.Update.{Update}
use Rattle.safl_vparse.specs.Shown.{shown_spot}
use Rattle.safl_vread.specs.declared.scope.Item.{Item}
use Rattle.safl_vread.specs.declared.driver.Operands.{Operands}
use Rattle.safl_vread.specs.declared.driver.Operands.TheVariants as operand
use Rattle.safl_vread.specs.declared.driver.Driver.{Driver}
use Rattle.safl_vread.specs.declared.driver.Driver.TheVariants as driver
use Rattle.safl_vread.specs.Firsts.{first}
use Rattle.safl_vread.specs.declared.scope.Scope.{Scope}
use Rattle.safl_vread.specs.Scopes.{declared_in, spot_in, ShowsDeclaration}

-- a name is declared, its declaration passes the test, and the item shows it
pub record Found (ds : List Declaration) (x : Spot) (p : Declaration → Bool) (item : Item) : Type 0 where
  pub declared : Declaration
  pub found : find ds x.bytes ≡ Some declared
  pub shown : ShowsDeclaration ds declared item
  pub passed : p declared ≡ true

-- the result is such an item, or this fault if there is none
abbrev pub Chosen : List Declaration → Spot → (Declaration → Bool) → VFault → Result Item VFault → Type 0
Chosen ds x p f (Ok item) = Found ds x p item
Chosen ds x p f (Err g) = (passes p (find ds x.bytes) ≡ false) × (g ≡ f)

-- the operation of a slice with these ends
abbrev pub bits_between : Spot → Spot → Op
bits_between high low = ops.Apply (prims.Bits (value 10 high.bytes) (value 10 low.bytes))

-- no widths of operands fit the operation
abbrev pub HasNoWidth : Op → Type 0
HasNoWidth op = (ws : List ℕ) → All (λ w. w ≤ width_max) ws → op_width op ws ≡ None

abbrev pub is_open : Driver → Bool
is_open driver.Open = true
is_open (driver.Cell op xs) = false
is_open (driver.Next w place) = false

abbrev pub places_of : Operands → List ℕ
places_of operand.None = []
places_of (operand.One a) = a ∷ []
places_of (operand.Two a b) = a ∷ b ∷ []
places_of (operand.Three a b c) = a ∷ b ∷ c ∷ []

-- the name is that of a signal, which is declared at this place
pub record IsAt (ds : List Declaration) (place : ℕ) (x : Spot) : Type 0 where
  pub declared : Declaration
  pub there : slice_get ds place ≡ Some declared
  pub found : find ds x.bytes ≡ Some declared
  pub fit : is_signal declared ≡ true

abbrev pub AreAt : List Declaration → List ℕ → List Spot → Type 0
AreAt ds [] [] = Unit {0}
AreAt ds (p ∷ ps) (x ∷ xs) = IsAt ds p x × AreAt ds ps xs
AreAt ds [] (x ∷ xs) = ⊥
AreAt ds (p ∷ ps) [] = ⊥

-- the first of the statements to assign to the name assigns this operation on the names at these places
pub record IsAssigned (ds : List Declaration) (before : List Statement) (d : Declaration) (op : Op) (places : List ℕ) : Type 0 where
  pub target : is_target d ≡ true
  pub value : RightSide
  pub assigned_is : assigned before d.name.bytes ≡ Some value
  pub operation_is : op ≡ operation value
  pub operands_at : AreAt ds places (operands value)
  pub width : range_width d.range ≡ expression_width ds value
  pub plain : is_output d.sort ≡ true → is_plain value ≡ true

-- the first of the statements to update the register gives it this word at reset, and otherwise the word of the signal at this
-- place
pub record IsUpdated (ds : List Declaration) (before : List Statement) (d : Declaration) (w : Word) (place : ℕ) : Type 0 where
  pub register : is_reg d.sort ≡ true
  pub initial : Spot
  pub source : Spot
  pub updated_is : updated before d.name.bytes ≡ Some (initial, source)
  pub bits : w.bits ≡ literal_value initial.bytes
  pub width : w.width ≡ range_width d.range
  pub next_at : IsAt ds place source
  pub next_width : range_width d.range ≡ width_declared ds source.bytes

abbrev pub Drives : List Declaration → List Statement → Declaration → Driver → Type 0
Drives ds before d driver.Open = (assigned before d.name.bytes ≡ None) × (updated before d.name.bytes ≡ None)
Drives ds before d (driver.Cell op xs) = IsAssigned ds before d op (places_of xs)
Drives ds before d (driver.Next w place) = IsUpdated ds before d w place

-- the list says what drives each declared name after these statements
pub record HasDrivers (ds : List Declaration) (before : List Statement) (drivers : List Driver) : Type 0 where
  pub full : length drivers ≡ length ds
  pub each : (i : ℕ) (d : Declaration) (v : Driver) → slice_get ds i ≡ Some d → slice_get drivers i ≡ Some v → Drives ds before d v

abbrev pub target_of : Statement → List ℕ
target_of (Assign x e) = x.bytes
target_of (Always clock reset target initial second source) = target.bytes

-- the statement breaks no rule, and gives this driver to the name of its target, which is declared at this place
pub record Sets (ds : List Declaration) (before : List Statement) (s : Statement) (place : ℕ) (v : Driver) : Type 0 where
  pub kept : statement_faults ds before s ≡ []
  pub declared : Declaration
  pub there : slice_get ds place ≡ Some declared
  pub named : declared.name.bytes ≡ target_of s
  pub drives : Drives ds (before ++ s ∷ []) declared v

-- the result is what the statement sets, or its first fault
abbrev pub Steps : List Declaration → List Statement → Statement → Result (ℕ × Driver) VFault → Type 0
Steps ds before s (Ok r) = Sets ds before s r.0 r.1
Steps ds before s (Err f) = Some f ≡ first (statement_faults ds before s)

-- what a statement does after any statements with these drivers
abbrev pub StepsFrom : Scope → List Driver → Statement → Result (ℕ × Driver) VFault → Type 0
StepsFrom s drivers x result = (before : List Statement) → HasDrivers (declared_in s) before drivers → Steps (declared_in s) before x result

-- the result has no fault if there is none, and otherwise the first one
abbrev pub Judges : {A : Type 0} → List VFault → Result A VFault → Type 0
Judges faults (Ok x) = faults ≡ []
Judges faults (Err f) = Some f ≡ first faults

-- the faults of an update, up to that of a second update
abbrev pub register_faults : List Declaration → List Statement → (clock reset target second : Spot) → List VFault
register_faults ds before clock reset target second =
    where_not (is_clock clock.bytes) (at rules.V08 clock.place)
    ++ where_not (is_reset reset.bytes) (at rules.V08 reset.place)
    ++ where_not (passes (λ d. is_reg d.sort) (find ds target.bytes)) (at rules.V08 target.place)
    ++ where_not (bytes_eq second.bytes target.bytes) (at rules.V08 second.place)
    ++ where_not (is_none (updated before target.bytes)) (at rules.V08 target.place)

-- the register that is updated, or the first of these faults
abbrev pub Names : List Declaration → List Statement → (clock reset target second : Spot) → Result Item VFault → Type 0
Names ds before clock reset target second (Ok item) =
    (register_faults ds before clock reset target second ≡ [])
    × (is_none (updated before target.bytes) ≡ true)
    × Found ds target (λ d. is_reg d.sort) item
Names ds before clock reset target second (Err f) = Some f ≡ first (register_faults ds before clock reset target second)

-- the register that is updated after any statements with these drivers, or the first of these faults
abbrev pub NamesFrom : Scope → List Driver → Update → Result Item VFault → Type 0
NamesFrom s drivers u result =
    (before : List Statement) → HasDrivers (declared_in s) before drivers
    → Names (declared_in s) before (spot_in s u.clock) (spot_in s u.reset) (spot_in s u.target) (spot_in s u.second) result

abbrev pub always_at : List ℕ → Update → Statement
always_at text u =
    Always (shown_spot text u.clock) (shown_spot text u.reset) (shown_spot text u.target)
    (shown_spot text u.initial) (shown_spot text u.second) (shown_spot text u.source)

-- the faults of a declaration that no statement drives
abbrev pub open_faults : Sort → ℕ → Driver → List VFault
open_faults sort place v =
    where_not (not (is_wire sort || is_output sort) || not (is_open v)) (at rules.V07 place)
    ++ where_not (not (is_reg sort) || not (is_open v)) (at rules.V08 place)
