-- Programs as plain trees of numbers and lists.
use Rattle.std.specs.Prelude.{Bool, ℕ, ◌+◌, max, List, [], ◌∷◌, Option}
use Rattle.safl_word.specs.declared.primitive.Primitive.{Primitive}

mutual
  -- an expression. The first field of each variant is its place; names are lists of bytes
  pub data Tree : Type 0 where
    Number : (place value : ℕ) → Tree
    Sized : (place width value : ℕ) → Tree
    Variable : (place : ℕ) → (name : List ℕ) → Tree
    If : (place : ℕ) → (condition first second : Tree) → Tree
    Let : (place : ℕ) → Binds → Tree → Tree
    Cases : (place : ℕ) → Tree → Arms → Tree
    Op : (place : ℕ) → Primitive → Trees → Tree
    Call : (place : ℕ) → (name : List ℕ) → Trees → Tree

  pub data Trees : Type 0 where
    no_tree : Trees
    a_tree : Tree → Trees → Trees

  -- bindings. Each has its place, its name, its width if one is written, and its value
  pub data Binds : Type 0 where
    no_bind : Binds
    a_bind : (place : ℕ) → (name : List ℕ) → Option ℕ → Tree → Binds → Binds

  -- labelled arms, and then the default
  pub data Arms : Type 0 where
    default_arm : Tree → Arms
    an_arm : (label value : Tree) → Arms → Arms

-- a single binding
pub record Bound : Type 0 where
  pub place : ℕ
  pub name : List ℕ
  pub width : Option ℕ
  pub value : Tree

-- a single labelled arm
pub record Labelled : Type 0 where
  pub label : Tree
  pub value : Tree

pub record Parameter : Type 0 where
  pub place : ℕ
  pub name : List ℕ
  pub width : ℕ

-- a definition. It is joined if it belongs to the group of the one before it
pub record Definition : Type 0 where
  pub joined : Bool
  pub place : ℕ
  pub name : List ℕ
  pub params : List Parameter
  pub width : ℕ
  pub body : Tree

abbrev pub trees_of : List Tree → Trees
trees_of [] = no_tree
trees_of (t ∷ ts) = a_tree t (trees_of ts)

abbrev pub binds_of : List Bound → Binds
binds_of [] = no_bind
binds_of (b ∷ bs) = a_bind b.place b.name b.width b.value (binds_of bs)

abbrev pub arms_of : List Labelled → Tree → Arms
arms_of [] t = default_arm t
arms_of (a ∷ arms) t = an_arm a.label a.value (arms_of arms t)

abbrev pub place_of : Tree → ℕ
place_of (Number p n) = p
place_of (Sized p w n) = p
place_of (Variable p x) = p
place_of (If p c a b) = p
place_of (Let p bs t) = p
place_of (Cases p e arms) = p
place_of (Op p o ts) = p
place_of (Call p f ts) = p

-- the expression with another place. An expression in parentheses has the place of the `(`
abbrev pub with_place : ℕ → Tree → Tree
with_place q (Number p n) = Number q n
with_place q (Sized p w n) = Sized q w n
with_place q (Variable p x) = Variable q x
with_place q (If p c a b) = If q c a b
with_place q (Let p bs t) = Let q bs t
with_place q (Cases p e arms) = Cases q e arms
with_place q (Op p o ts) = Op q o ts
with_place q (Call p f ts) = Call q f ts

-- The depth of an expression: 1 for numbers, variables, and calls without arguments; any other is one deeper than its deepest part.
abbrev mutual
  pub depth : Tree → ℕ
  depth (If p c a b) = 1 + max (depth c) (max (depth a) (depth b))
  depth (Let p bs t) = 1 + max (deepest_bind bs) (depth t)
  depth (Cases p e arms) = 1 + max (depth e) (deepest_arm arms)
  depth (Op p o ts) = 1 + deepest ts
  depth (Call p f ts) = 1 + deepest ts
  depth _ = 1

  pub deepest : Trees → ℕ
  deepest no_tree = 0
  deepest (a_tree t ts) = max (depth t) (deepest ts)

  pub deepest_bind : Binds → ℕ
  deepest_bind no_bind = 0
  deepest_bind (a_bind p x w t bs) = max (depth t) (deepest_bind bs)

  -- The depth of the arms of a case: a let of its value over an if for each arm, whose test has depth 2.
  pub deepest_arm : Arms → ℕ
  deepest_arm (default_arm t) = depth t
  deepest_arm (an_arm l t arms) = 1 + max 2 (max (depth t) (deepest_arm arms))
