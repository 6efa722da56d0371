-- Nets that grow, under one valuation that gives a word to each signal's number.
use Rattle.std.specs.Prelude.{◌≡◌, ℕ, suc, ◌<◌, ◌^◌, List, [], ◌∷◌, ◌++◌, map, Option, Some, None, slice_get}
use Rattle.safl_word.specs.Words.{Word}
use Rattle.safl_net.specs.declared.cell.Sig.{Sig}
use Rattle.safl_net.specs.Netlist.{Netlist, Signal, Kind, Input, Reg, Wire}
use Rattle.safl_net.specs.Valuations.{cell_word}
use Rattle.safl_net.specs.Names.{temp_name, wires}

abbrev pub Val : Type 0
Val = ℕ → Word

-- the words of signals
abbrev pub words : Val → List Sig → List Word
words v xs = map (λ (s : Sig). v s.0) xs

-- the word that the kind of a signal demands. Inputs, registers and wires without a cell are free
abbrev pub KindHolds : Val → Word → Kind → Type 0
KindHolds v w Input = Unit {0}
KindHolds v w (Reg init next) = Unit {0}
KindHolds v w (Wire None) = Unit {0}
KindHolds v w (Wire (Some c)) = w ≡ cell_word c.op (map v c.operands)

pub record SignalHolds (v : Val) (w : Word) (g : Signal) : Type 0 where
  pub width : w.width ≡ g.width
  pub bits : w.bits < 2 ^ g.width
  pub kind : KindHolds v w g.kind

-- each signal has a word of its width, and each wire with a cell the word of the cell
pub record Wired (n : Netlist) (v : Val) : Type 0 where
  pub each : (s : ℕ) (g : Signal) → slice_get n.signals s ≡ Some g → SignalHolds v (v s) g

-- the width of a signal, if there is one
abbrev pub maybe_width : Option Signal → Option ℕ
maybe_width None = None
maybe_width (Some g) = Some g.width

abbrev pub width_at : Netlist → ℕ → Option ℕ
width_at n s = maybe_width (slice_get n.signals s)

-- the signals have these widths
abbrev pub Sized : Netlist → List Sig → List ℕ → Type 0
Sized n [] [] = Unit {0}
Sized n [] (w ∷ ws) = ⊥
Sized n (s ∷ ss) [] = ⊥
Sized n (s ∷ ss) (w ∷ ws) = (width_at n s.0 ≡ Some w) × Sized n ss ws

-- the signal is a wire with a cell
abbrev pub HasCell : Kind → Type 0
HasCell Input = ⊥
HasCell (Reg init next) = ⊥
HasCell (Wire None) = ⊥
HasCell (Wire (Some c)) = Unit {0}

-- the signals are temporaries. The first of them is wire number n
abbrev pub AreTemps : ℕ → List Signal → Type 0
AreTemps i [] = Unit {0}
AreTemps i (g ∷ gs) = (g.name ≡ temp_name i) × HasCell g.kind × AreTemps (suc i) gs

-- the net has more temporaries, and nothing else is new
pub record Grows (old new : Netlist) : Type 0 where
  pub more : List Signal
  pub is : new.signals ≡ old.signals ++ more
  pub temps : AreTemps (wires old.signals) more
  pub outputs : new.outputs ≡ old.outputs

-- the new net implies the old one: its valuations are valuations of the old net, and widths stay
pub record Says (old new : Netlist) : Type 0 where
  pub before : (v : Val) → Wired new v → Wired old v
  pub widths : (s w : ℕ) → width_at old s ≡ Some w → width_at new s ≡ Some w
