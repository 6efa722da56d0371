-- Words that are 0 unless they are ready.
use Rattle.std.specs.Prelude.{◌≡◌, ℕ, List, [], ◌∷◌, Option, Some, None, Result, Vec, IfOk, cond, slice_get, unwrap_or}
use Rattle.std.specs.Global.{Global}
use Rattle.safl_word.specs.Words.{Word}
use Rattle.safl_net.specs.declared.cell.Sig.{Sig}
use Rattle.safl_net.specs.Netlist.{Netlist}
use Rattle.safl_net.specs.Growth.{Val, words, Wired}
use Rattle.safl_net.specs.Bits.{on}
use Rattle.safl_lower.specs.declared.loads.Load.{Load}
use Rattle.safl_lower.specs.declared.lowered.Lowered.{Lowered}
use Rattle.safl_lower.specs.declared.resets.Form.{Form}
use Rattle.safl_lower.specs.declared.resets.Form.TheVariants.{Zero, Choice, Other}
use Rattle.safl_lower.specs.Sources.{IsSource, AreSources}
use Rattle.safl_lower.specs.Lowering.{gives, Shaped}
use Rattle.safl_lower.specs.Tables.{pin, taken_in, FitsIn}

abbrev pub zero_word : ℕ → Word
zero_word w = record { width = w; bits = 0 }

-- the word of what is lowered if it is ready, else the word 0 of a width
abbrev pub word_or_zero : Val → ℕ → Lowered → Word
word_or_zero v w r = unwrap_or (gives v r) (zero_word w)

-- the signal has the word of what is lowered, or 0 where that is not ready
abbrev pub HasWordOf : Netlist → ℕ → Sig → Lowered → Type 0
HasWordOf n w s r = (v : Val) → Wired n v → v s.0 ≡ word_or_zero v w r

-- the word of a load at a place, if the load is there and taken, else another
abbrev pub word_in : Val → Option Load → ℕ → Word → Word
word_in v None i other = other
word_in v (Some l) i other = cond (on v l.bit) (v (pin l.words.items i).0) other

abbrev pub LoadsWord : Netlist → Option Load → ℕ → ℕ → Lowered → Lowered → Type 0
LoadsWord n load i w other r = (v : Val) → Wired n v → word_or_zero v w r ≡ word_in v load i (word_or_zero v w other)

-- the signal has the word of a load at a place, if the load is there and taken, else another
abbrev pub HasLoaded : Netlist → Option Load → ℕ → ℕ → Lowered → Sig → Type 0
HasLoaded n load i w other s = (v : Val) → Wired n v → v s.0 ≡ word_in v load i (word_or_zero v w other)

-- the signal has the word that a bit chooses
abbrev pub HasChosen : Netlist → Sig → Sig → ℕ → Lowered → Sig → Type 0
HasChosen n bit s w other r = (v : Val) → Wired n v → v r.0 ≡ cond (on v bit) (v s.0) (word_or_zero v w other)

-- a bit chooses the word of a signal from two words, each of which is 0 unless it is ready
abbrev pub Splits : Netlist → ℕ → Sig → Sig → Lowered → Lowered → Type 0
Splits n w s c taken other = (v : Val) → Wired n v → v s.0 ≡ cond (on v c) (word_or_zero v w taken) (word_or_zero v w other)

-- a bit chooses the word of a signal from the words of two signals of its width
pub record Chooses (n : Netlist) (s c a b : Sig) (w : ℕ) : Type 0 where
  pub test : IsSource n c 1
  pub taken : IsSource n a w
  pub other : IsSource n b w
  pub word : (v : Val) → Wired n v → v s.0 ≡ cond (on v c) (v a.0) (v b.0)

-- the form is right for a signal of a width
abbrev pub IsOfForm : Netlist → Sig → ℕ → Form → Type 0
IsOfForm n s w Zero = (v : Val) → Wired n v → v s.0 ≡ zero_word w
IsOfForm n s w (Choice c a b) = Chooses n s c a b w
IsOfForm n s w Other = Unit {0}

-- the form is right for a word; and for three operands
abbrev pub IsConstantForm : Word → Form → Type 0
IsConstantForm w Zero = w.bits ≡ 0
IsConstantForm w (Choice c a b) = ⊥
IsConstantForm w Other = Unit {0}

abbrev pub IsChoiceForm : List Sig → Form → Type 0
IsChoiceForm xs (Choice c a b) = xs ≡ c ∷ a ∷ b ∷ []
IsChoiceForm xs _ = ⊥

-- ---- parts by name: what holds on success

-- the words have the widths of the loads and of the words before
abbrev pub KeepsWords : {E : Type 0} → Result (Vec Sig Global) E → Netlist → Netlist → Option Load → Option Load → List Sig → Type 0
KeepsWords r old new load looped xs = (ws : List ℕ) → FitsIn old load ws → FitsIn old looped ws → AreSources old xs ws → IfOk r (λ ys. AreSources new ys.items ws)

-- the words are those of the first load that is taken, or else those before
abbrev pub AreLoaded : Netlist → Option Load → Option Load → List Sig → List Sig → Type 0
AreLoaded n load looped xs ys = (v : Val) → Wired n v → words v ys ≡ unwrap_or (taken_in v load) (unwrap_or (taken_in v looped) (words v xs))

-- of the word at a place of a load, and of another word of its width
abbrev pub KeepsShape : {E : Type 0} → Result Lowered E → Netlist → Netlist → Option Load → ℕ → Lowered → Type 0
KeepsShape r old new load i other = (ws : List ℕ) (w : ℕ) → FitsIn old load ws → slice_get ws i ≡ Some w → Shaped old other w → IfOk r (λ x. Shaped new x w)

abbrev pub Loads : {E : Type 0} → Result Lowered E → Netlist → Netlist → Option Load → ℕ → Lowered → Type 0
Loads r old new load i other = (ws : List ℕ) (w : ℕ) → FitsIn old load ws → slice_get ws i ≡ Some w → IfOk r (λ x. LoadsWord new load i w other x)

abbrev pub KeepsWidth : {E : Type 0} → Result Sig E → Netlist → Netlist → Option Load → ℕ → Lowered → Sig → Type 0
KeepsWidth r old new load i other like = (ws : List ℕ) (w : ℕ) → FitsIn old load ws → slice_get ws i ≡ Some w → Shaped old other w → IsSource old like w
    → IfOk r (λ s. IsSource new s w)

abbrev pub LoadsLast : {E : Type 0} → Result Sig E → Netlist → Netlist → Option Load → ℕ → Lowered → Sig → Type 0
LoadsLast r old new load i other like = (ws : List ℕ) (w : ℕ) → FitsIn old load ws → slice_get ws i ≡ Some w → IsSource old like w
    → IfOk r (λ s. HasLoaded new load i w other s)

abbrev pub ChoosesWidth : {E : Type 0} → Result Sig E → Netlist → Netlist → Sig → Lowered → Lowered → Sig → Type 0
ChoosesWidth r old new s word other like = (w : ℕ) → IsSource old s w → Shaped old word w → Shaped old other w → IsSource old like w → IfOk r (λ x. IsSource new x w)
