-- Operations on signals.
use Rattle.std.specs.Prelude.{◌≡◌, ℕ, List, Some, Option, Result, IfOk}
use Rattle.safl_word.specs.Words.{Word}
use Rattle.safl_net.specs.declared.cell.Sig.{Sig}
use Rattle.safl_net.specs.Netlist.{Netlist}
use Rattle.safl_net.specs.Growth.{Val, words, Wired}
use Rattle.safl_lower.specs.Sources.{IsSource, AreSources}

-- the signals may be read, and an operation has a width on theirs
abbrev pub CanOperate : Netlist → (List ℕ → Option ℕ) → List Sig → Type 0
CanOperate n width xs = (ws : List ℕ) × (w : ℕ) × AreSources n xs ws × (width ws ≡ Some w)

-- on success, a signal has the width of an operation on signals, and its word on theirs
pub record GivesWord {E : Type 0} (r : Result Sig E) (old new : Netlist) (width : List ℕ → Option ℕ) (word : List Word → Word) (xs : List Sig) : Type 0 where
  pub fits : (ws : List ℕ) (w : ℕ) → AreSources old xs ws → width ws ≡ Some w → IfOk r (λ s. IsSource new s w)
  pub value : IfOk r (λ s. (v : Val) → Wired new v → v s.0 ≡ word (words v xs))
