-- Widths in range: of slots, of heads, and of what is written in an expression.
use Rattle.std.specs.Prelude.{◌≡◌, ℕ, ◌≤◌, List, [], ◌∷◌, Some}
use Rattle.safl_word.specs.Limits.{width_max}
use Rattle.safl_typing.specs.Rewriting.{Expression, Number, Sized, Variable, If, Let, Op, Call, Expressions, no_expression, an_expression, Bindings, no_binding, a_binding}
use Rattle.safl_typing.specs.Heads.{Slot, Head}

pub record IsWide (w : ℕ) : Type 0 where
  pub some : 1 ≤ w
  pub bounded : w ≤ width_max

abbrev pub AreWide : List ℕ → Type 0
AreWide [] = Unit {0}
AreWide (w ∷ ws) = IsWide w × AreWide ws

abbrev pub WideSlots : List Slot → Type 0
WideSlots [] = Unit {0}
WideSlots (v ∷ vs) = IsWide v.width × WideSlots vs

pub record IsWideHead (h : Head) : Type 0 where
  pub width : IsWide h.width
  pub params : WideSlots h.params

abbrev pub WideHeads : List Head → Type 0
WideHeads [] = Unit {0}
WideHeads (h ∷ hs) = IsWideHead h × WideHeads hs

-- written widths and the widths of sized numbers are in range
abbrev mutual
  pub IsInRange : Expression → Type 0
  IsInRange (Number p n) = Unit {0}
  IsInRange (Sized p w n) = IsWide w
  IsInRange (Variable p x) = Unit {0}
  IsInRange (If p c a b) = IsInRange c × IsInRange a × IsInRange b
  IsInRange (Let p bs b) = BoundInRange bs × IsInRange b
  IsInRange (Op p o es) = AreInRange es
  IsInRange (Call p f es) = AreInRange es

  pub AreInRange : Expressions → Type 0
  AreInRange no_expression = Unit {0}
  AreInRange (an_expression e es) = IsInRange e × AreInRange es

  pub BoundInRange : Bindings → Type 0
  BoundInRange no_binding = Unit {0}
  BoundInRange (a_binding p x w e bs) = ((v : ℕ) → w ≡ Some v → IsWide v) × IsInRange e × BoundInRange bs
