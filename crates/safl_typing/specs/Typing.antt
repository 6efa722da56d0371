-- Which widths an expression has, and which term stands for it: a relation, without an order of checking.
use Rattle.std.specs.Prelude.{◌≡◌, ℕ, suc, List, [], ◌∷◌, ◌++◌, map, Option, Some, None, Bool, true, false, slice_get, if◌then◌else◌, ◌⊎◌}
use Rattle.std.specs.List.{AllByRecursion}
use Rattle.std.specs.Option.{option_or}
use Rattle.std.specs.Str.{bytes_eq}
use Rattle.safl_word.specs.Words.{Word, IsWord, as_word}
use Rattle.safl_word.specs.declared.primitive.Primitive.{Primitive}
use Rattle.safl_word.specs.Primitives.{result_width}
use Rattle.safl_term.specs.Terms as terms
use Rattle.safl_term.specs.Terms.{Term, Const, Var, Loop, Terms, Nil, Cons}
use Rattle.safl_typing.specs.Rewriting.{Expression, Number, Sized, Variable, If, Let, Op, Call, Expressions, no_expression, an_expression, Bindings, no_binding, a_binding, Shape, Alike, Comparing, Shifting, Resizing, shape, flexible, all_flexible, Placed, placed}
use Rattle.safl_typing.specs.Heads.{Slot, Known, Callee, Member, Above, Unknown, callee}

-- the number and the width of a slot
pub record At : Type 0 where
  pub slot : ℕ
  pub width : ℕ

-- the innermost variable with a name, which is the last one. The slots are numbered from i on
abbrev pub innermost : List ℕ → ℕ → List Slot → Option At
innermost x i [] = None
innermost x i (v ∷ vs) = option_or (innermost x (suc i) vs) (if bytes_eq v.name x then Some (record { slot = i; width = v.width }) else None)

-- no name is twice in the list
abbrev pub Differ : List (List ℕ) → Type 0
Differ list = (i j : ℕ) (name : List ℕ) → slice_get list i ≡ Some name → slice_get list j ≡ Some name → i ≡ j

-- the slots of bindings with these widths
abbrev pub slots : Bindings → List ℕ → List Slot
slots (a_binding p x v e bs) (w ∷ ws) = record { name = x; width = w } ∷ slots bs ws
slots bs ws = []

-- a binding has the width that is written, or no width is written and it is rigid
abbrev pub KeepsWritten : Option ℕ → Expression → ℕ → Type 0
KeepsWritten (Some v) e w = v ≡ w
KeepsWritten None e w = flexible e ≡ false

abbrev pub AllRigid : Expressions → Type 0
AllRigid no_expression = Unit {0}
AllRigid (an_expression e es) = (flexible e ≡ false) × AllRigid es

-- each expression is rigid, or is flexible and has width w
abbrev pub RigidOr : ℕ → Expressions → List ℕ → Type 0
RigidOr w no_expression vs = Unit {0}
RigidOr w (an_expression e es) [] = ⊥
RigidOr w (an_expression e es) (v ∷ vs) = ((flexible e ≡ false) ⊎ (v ≡ w)) × RigidOr w es vs

-- the first operand of a shift is rigid and has width w
abbrev pub Shifts : ℕ → Expressions → List ℕ → Type 0
Shifts w (an_expression e es) (v ∷ vs) = (flexible e ≡ false) × (v ≡ w) × RigidOr w es vs
Shifts w es vs = ⊥

-- Operands with widths vs suit the operator, whose result then has width w. Either all have width w; or it is a comparison, w is 1, and all
-- have one width, at least one rigid; or it is a shift; or they are rigid and the table of widths has a row.
abbrev pub Suits : Shape → Primitive → Expressions → List ℕ → ℕ → Type 0
Suits Alike o es vs w = AllByRecursion (λ (v : ℕ). v ≡ w) vs
Suits Comparing o es vs w = (w ≡ 1) × (u : ℕ) × AllByRecursion (λ (v : ℕ). v ≡ u) vs × (all_flexible es ≡ false)
Suits Shifting o es vs w = Shifts w es vs
Suits Resizing o es vs w = AllRigid es × (result_width o vs ≡ Some w)

-- A call with arguments us of widths ws. If it names a function of the caller's own group, it is a loop, and must be in tail position. If
-- it names a function of an earlier group, it has a site, which comes before those of its arguments.
abbrev pub Calls : Callee → Bool → ℕ → ℕ → List ℕ → Terms → ℕ → Term → Type 0
Calls (Member i h) tail lo m ws us w t = (tail ≡ true) × (m ≡ lo) × (ws ≡ map (λ p. p.width) h.params) × (h.width ≡ w) × (t ≡ Loop i us)
Calls (Above i h) tail lo m ws us w t = (m ≡ suc lo) × (ws ≡ map (λ p. p.width) h.params) × (h.width ≡ w) × (t ≡ terms.Call i lo us)
Calls Unknown tail lo m ws us w t = ⊥

-- In a body that sees the functions of k, with slots s, the expression has width w and term t, and in the order of the text the sites from
-- lo up to, but not including, hi. The branches of an if and the body of a let are in tail position if it is, no other part.
abbrev mutual
  pub Has : Known → List Slot → Bool → ℕ → ℕ → Expression → ℕ → Term → Type 0
  Has k s tail lo hi (Number p n) w t = (lo ≡ hi) × IsWord (as_word w n) × (t ≡ Const (as_word w n))
  Has k s tail lo hi (Sized p v n) w t = (lo ≡ hi) × (v ≡ w) × IsWord (as_word v n) × (t ≡ Const (as_word v n))
  Has k s tail lo hi (Variable p x) w t = (lo ≡ hi) × (i : ℕ) × (innermost x 0 s ≡ Some (record { slot = i; width = w })) × (t ≡ Var i)
  Has k s tail lo hi (If p c a b) w t = (m : ℕ) × (n : ℕ) × (x : Term) × (y : Term) × (z : Term) × Has k s false lo m c 1 x × Has k s tail m n a w y × Has k s tail n hi b w z × (t ≡ terms.If x y z)
  Has k s tail lo hi (Let p bs b) w t = (m : ℕ) × (ws : List ℕ) × (us : Terms) × (y : Term) × Differ (map (λ (x : Placed). x.name) (placed bs)) × HaveBound k s lo m bs ws us × Has k (s ++ slots bs ws) tail m hi b w y × (t ≡ terms.Let us y)
  Has k s tail lo hi (Op p o es) w t = (ws : List ℕ) × (us : Terms) × HaveAll k s lo hi es ws us × Suits (shape o) o es ws w × (t ≡ terms.Op o us)
  Has k s tail lo hi (Call p f es) w t = (m : ℕ) × (ws : List ℕ) × (us : Terms) × HaveAll k s m hi es ws us × Calls (callee k f) tail lo m ws us w t

  -- operands or arguments with their widths and terms
  pub HaveAll : Known → List Slot → ℕ → ℕ → Expressions → List ℕ → Terms → Type 0
  HaveAll k s lo hi no_expression [] us = (lo ≡ hi) × (us ≡ Nil)
  HaveAll k s lo hi (an_expression e es) (w ∷ ws) us = (m : ℕ) × (t : Term) × (ts : Terms) × Has k s false lo m e w t × HaveAll k s m hi es ws ts × (us ≡ Cons t ts)
  HaveAll k s lo hi es ws us = ⊥

  -- bindings with their widths and terms. They see only the outer slots
  pub HaveBound : Known → List Slot → ℕ → ℕ → Bindings → List ℕ → Terms → Type 0
  HaveBound k s lo hi no_binding [] us = (lo ≡ hi) × (us ≡ Nil)
  HaveBound k s lo hi (a_binding p x v e bs) (w ∷ ws) us = (m : ℕ) × (t : Term) × (ts : Terms) × KeepsWritten v e w × Has k s false lo m e w t × HaveBound k s m hi bs ws ts × (us ≡ Cons t ts)
  HaveBound k s lo hi bs ws us = ⊥

-- ---- parts by name

abbrev pub widths_of : List Slot → List ℕ
widths_of ps = map (λ p. p.width) ps

abbrev pub names : Bindings → List (List ℕ)
names bs = map (λ (x : Placed). x.name) (placed bs)

abbrev pub AreAll : ℕ → List ℕ → Type 0
AreAll w vs = AllByRecursion (λ v. v ≡ w) vs

abbrev pub word : ℕ → ℕ → Word
word w n = record { width = w; bits = n }
