-- Which programs can be printed: they are well formed, and their text with as few parentheses as possible keeps the levels.
use Rattle.std.specs.Prelude.{◌≡◌, ℕ, suc, ◌+◌, ◌<◌, ◌≤◌, max, List, [], ◌∷◌, Option, Some, None, Bool, true, false, not, ◌==◌, ◌&&◌, nat_le, if◌then◌else◌}
use Rattle.safl_word.specs.declared.primitive.Primitive.{Primitive}
use Rattle.safl_word.specs.declared.primitive.Primitive.TheVariants as prims
use Rattle.safl_word.specs.Limits.{width_max, value_bound}
use Rattle.safl_word.specs.Tokens.{IsSourceName}
use Rattle.safl_word.specs.Operators.{layer_of}
use Rattle.safl_tree.specs.Tree.{Tree, Number, Sized, Variable, If, Let, Cases, Op, Call, Trees, no_tree, a_tree, Binds, no_bind, a_bind, Arms, default_arm, an_arm, Parameter, Definition, depth}
use Rattle.safl_tree.specs.Grammar.{is_written_width}

-- ---- well-formed programs

-- how many operands an operator has
abbrev pub operands : Primitive → ℕ
operands prims.Not = 1
operands (prims.Bits h l) = 1
operands (prims.Ext n) = 1
operands _ = 2

abbrev pub count : Trees → ℕ
count no_tree = 0
count (a_tree t ts) = 1 + count ts

-- the numbers of an operator are in range
abbrev pub InRange : Primitive → Type 0
InRange (prims.Bits h l) = (h < width_max) × (l < width_max)
InRange (prims.Ext n) = is_written_width n ≡ true
InRange _ = Unit {0}

abbrev pub HasBinding : Binds → Type 0
HasBinding no_bind = ⊥
HasBinding (a_bind p x w t bs) = Unit {0}

-- the expression is a label: a number or a sized number
abbrev pub IsLabel : Tree → Type 0
IsLabel (Number p n) = n < value_bound
IsLabel (Sized p w n) = (is_written_width w ≡ true) × (n < value_bound)
IsLabel (Variable p x) = ⊥
IsLabel (If p c a b) = ⊥
IsLabel (Let p bs t) = ⊥
IsLabel (Cases p e arms) = ⊥
IsLabel (Op p o ts) = ⊥
IsLabel (Call p f ts) = ⊥

-- a width is not written, or it is in range
abbrev pub FitsWritten : Option ℕ → Type 0
FitsWritten None = Unit {0}
FitsWritten (Some w) = is_written_width w ≡ true

-- names are names of the source, operators have the right numbers of operands, each let has a binding, and numbers are in range
abbrev mutual
  pub IsFormed : Tree → Type 0
  IsFormed (Number p n) = n < value_bound
  IsFormed (Sized p w n) = (is_written_width w ≡ true) × (n < value_bound)
  IsFormed (Variable p x) = IsSourceName x
  IsFormed (If p c a b) = IsFormed c × IsFormed a × IsFormed b
  IsFormed (Let p bs t) = HasBinding bs × AreFormedBinds bs × IsFormed t
  IsFormed (Cases p e arms) = IsFormed e × AreFormedArms arms
  IsFormed (Op p o ts) = (count ts ≡ operands o) × InRange o × AreFormed ts
  IsFormed (Call p f ts) = IsSourceName f × AreFormed ts

  pub AreFormed : Trees → Type 0
  AreFormed no_tree = Unit {0}
  AreFormed (a_tree t ts) = IsFormed t × AreFormed ts

  pub AreFormedBinds : Binds → Type 0
  AreFormedBinds no_bind = Unit {0}
  AreFormedBinds (a_bind p x w t bs) = IsSourceName x × FitsWritten w × IsFormed t × AreFormedBinds bs

  pub AreFormedArms : Arms → Type 0
  AreFormedArms (default_arm t) = IsFormed t
  AreFormedArms (an_arm l t arms) = IsLabel l × IsFormed t × AreFormedArms arms

-- ---- levels

-- whether an operator stands between its operands
abbrev pub is_binary : Primitive → Bool
is_binary prims.Not = false
is_binary prims.Cat = false
is_binary (prims.Bits h l) = false
is_binary (prims.Ext n) = false
is_binary _ = true

-- How many layers of operators may stand right of an operator without parentheses: those below its own. With 8 any expression may.
abbrev pub right_context : Primitive → ℕ
right_context o = layer_of o

-- How many layers may stand left of an operator: also its own layer, since operators group to the left, except for comparisons.
abbrev pub left_context : Primitive → ℕ
left_context o = if is_binary o && not (layer_of o == 3) then suc (layer_of o) else layer_of o

-- how many levels the operands of an operator are below it: none if it is binary, otherwise one
abbrev pub below_of : Primitive → ℕ
below_of o = if is_binary o then 0 else 1

-- How many layers an expression needs without parentheses. An if, let and case need 8, an operator its own layer and those below.
abbrev pub layers_of : Tree → ℕ
layers_of (If p c a b) = 8
layers_of (Let p bs t) = 8
layers_of (Cases p e arms) = 8
layers_of (Op p o ts) = if is_binary o then suc (right_context o) else 0
layers_of _ = 0

-- the levels of an expression in a context of k layers: one more if it needs more layers, and so parentheses
abbrev pub lifted : ℕ → ℕ → ℕ → ℕ
lifted k layers n = if nat_le layers k then n else suc n

-- how many levels the text of an expression takes, its own included
abbrev mutual
  pub levels : Tree → ℕ
  levels (Number p n) = 1
  levels (Sized p w n) = 1
  levels (Variable p x) = 1
  levels (If p c a b) = 1 + max (levels c) (max (levels a) (levels b))
  levels (Let p bs t) = 1 + max (most_bind bs) (levels t)
  levels (Cases p e arms) = 1 + max (levels e) (most_arm arms)
  levels (Op p o ts) = below_of o + most_operand (left_context o) (right_context o) ts
  levels (Call p f ts) = 1 + most ts

  pub most : Trees → ℕ
  most no_tree = 0
  most (a_tree t ts) = max (levels t) (most ts)

  -- the levels of operands, the first in a context of this many layers, and the others in one of this many
  pub most_operand : ℕ → ℕ → Trees → ℕ
  most_operand k right no_tree = 0
  most_operand k right (a_tree t ts) = max (lifted k (layers_of t) (levels t)) (most_operand right right ts)

  pub most_bind : Binds → ℕ
  most_bind no_bind = 0
  most_bind (a_bind p x w t bs) = max (levels t) (most_bind bs)

  -- the levels of the arms of a case. Each arm is one level below the one before it
  pub most_arm : Arms → ℕ
  most_arm (default_arm t) = 1 + levels t
  most_arm (an_arm l t arms) = 1 + max (levels t) (most_arm arms)

-- the left operands have a depth of at most 99
abbrev pub LeftShallow : Trees → Type 0
LeftShallow no_tree = Unit {0}
LeftShallow (a_tree t ts) = depth t < 100

abbrev pub OfBinary : Bool → Type 0 → Type 0
OfBinary true P = P
OfBinary false P = Unit {0}

abbrev mutual
  pub IsShallow : Tree → Type 0
  IsShallow (Number p n) = Unit {0}
  IsShallow (Sized p w n) = Unit {0}
  IsShallow (Variable p x) = Unit {0}
  IsShallow (If p c a b) = IsShallow c × IsShallow a × IsShallow b
  IsShallow (Let p bs t) = AreShallowBinds bs × IsShallow t
  IsShallow (Cases p e arms) = IsShallow e × AreShallowArms arms
  IsShallow (Op p o ts) = OfBinary (is_binary o) (LeftShallow ts) × AreShallow ts
  IsShallow (Call p f ts) = AreShallow ts

  pub AreShallow : Trees → Type 0
  AreShallow no_tree = Unit {0}
  AreShallow (a_tree t ts) = IsShallow t × AreShallow ts

  pub AreShallowBinds : Binds → Type 0
  AreShallowBinds no_bind = Unit {0}
  AreShallowBinds (a_bind p x w t bs) = IsShallow t × AreShallowBinds bs

  pub AreShallowArms : Arms → Type 0
  AreShallowArms (default_arm t) = IsShallow t
  AreShallowArms (an_arm l t arms) = IsShallow t × AreShallowArms arms

-- the text of the body takes at most 100 levels, and left operands are shallow
abbrev pub KeepsLevels : Tree → Type 0
KeepsLevels t = (levels t ≤ 100) × IsShallow t

-- ---- programs

abbrev pub IsFormedParameter : Parameter → Type 0
IsFormedParameter p = IsSourceName p.name × (is_written_width p.width ≡ true)

abbrev pub AreFormedParameters : List Parameter → Type 0
AreFormedParameters [] = Unit {0}
AreFormedParameters (p ∷ ps) = IsFormedParameter p × AreFormedParameters ps

abbrev pub IsFormedDefinition : Definition → Type 0
IsFormedDefinition d = IsSourceName d.name × AreFormedParameters d.params × (is_written_width d.width ≡ true) × IsFormed d.body

abbrev pub AreFormedDefinitions : List Definition → Type 0
AreFormedDefinitions [] = Unit {0}
AreFormedDefinitions (d ∷ ds) = IsFormedDefinition d × AreFormedDefinitions ds

abbrev pub AllKeepLevels : List Definition → Type 0
AllKeepLevels [] = Unit {0}
AllKeepLevels (d ∷ ds) = KeepsLevels d.body × AllKeepLevels ds

-- the first definition is not joined to one before it
abbrev pub OpensGroup : List Definition → Type 0
OpensGroup [] = Unit {0}
OpensGroup (d ∷ ds) = d.joined ≡ false

-- a program that is well formed, levels aside
pub record IsFormedProgram (p : List Definition) : Type 0 where
  pub opens : OpensGroup p
  pub formed : AreFormedDefinitions p

-- a program that is well formed and whose text keeps the levels
pub record IsPrintable (p : List Definition) : Type 0 where
  pub formed : IsFormedProgram p
  pub kept : AllKeepLevels p

-- ---- parts by name

abbrev pub operator_layers : Primitive → ℕ
operator_layers o = if is_binary o then suc (right_context o) else 0
