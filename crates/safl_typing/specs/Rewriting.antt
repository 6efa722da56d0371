-- Expressions in which each `case` is rewritten as a let and ifs.
use Rattle.std.specs.Prelude.{ℕ, ◌+◌, List, [], ◌∷◌, map, slice_get, Option, None, Bool, true, false, ◌&&◌, ◌==◌, if◌then◌else◌, codes}
use Rattle.safl_word.specs.Limits.{bindings_max}
use Rattle.safl_word.specs.Operators.{layer_of}
use Rattle.std.specs.Option.{option_or}
use Rattle.safl_word.specs.declared.primitive.Primitive.{Primitive}
use Rattle.safl_word.specs.declared.primitive.Primitive.TheVariants as prims
use Rattle.safl_tree.specs.Tree as source
use Rattle.safl_tree.specs.Tree.{Tree, Trees, Binds, Arms, place_of}

mutual
  -- an expression without `case`. The first field of each variant is its place
  pub data Expression : Type 0 where
    Number : (place value : ℕ) → Expression
    Sized : (place width value : ℕ) → Expression
    Variable : (place : ℕ) → (name : List ℕ) → Expression
    If : (place : ℕ) → (condition first second : Expression) → Expression
    Let : (place : ℕ) → Bindings → Expression → Expression
    Op : (place : ℕ) → Primitive → Expressions → Expression
    Call : (place : ℕ) → (name : List ℕ) → Expressions → Expression

  pub data Expressions : Type 0 where
    no_expression : Expressions
    an_expression : Expression → Expressions → Expressions

  -- bindings. Each has its place, its name, its width if one is written, and its value
  pub data Bindings : Type 0 where
    no_binding : Bindings
    a_binding : (place : ℕ) → (name : List ℕ) → Option ℕ → Expression → Bindings → Bindings

-- the name that the selecting value of a `case` is bound to. No name of a source has a `$`
abbrev pub scrutinee : List ℕ
scrutinee = codes "$case"

-- A case is a let of its selecting value over an if for each labelled arm, in order, and then the default. The let and the ifs
-- have the place of the `case`; the test whether the selecting value equals a label has the place of the label.
abbrev mutual
  pub rewritten : Tree → Expression
  rewritten (source.Number p n) = Number p n
  rewritten (source.Sized p w n) = Sized p w n
  rewritten (source.Variable p x) = Variable p x
  rewritten (source.If p c a b) = If p (rewritten c) (rewritten a) (rewritten b)
  rewritten (source.Let p bs t) = Let p (rewritten_binds bs) (rewritten t)
  rewritten (source.Cases p e arms) = Let p (a_binding p scrutinee None (rewritten e) no_binding) (rewritten_arms p arms)
  rewritten (source.Op p o ts) = Op p o (rewritten_all ts)
  rewritten (source.Call p f ts) = Call p f (rewritten_all ts)

  pub rewritten_all : Trees → Expressions
  rewritten_all source.no_tree = no_expression
  rewritten_all (source.a_tree t ts) = an_expression (rewritten t) (rewritten_all ts)

  pub rewritten_binds : Binds → Bindings
  rewritten_binds source.no_bind = no_binding
  rewritten_binds (source.a_bind p x w t bs) = a_binding p x w (rewritten t) (rewritten_binds bs)

  pub rewritten_arms : ℕ → Arms → Expression
  rewritten_arms p (source.default_arm t) = rewritten t
  rewritten_arms p (source.an_arm l t arms) =
      If p (Op (place_of l) prims.Eq (an_expression (Variable (place_of l) scrutinee) (an_expression (rewritten l) no_expression)))
      (rewritten t) (rewritten_arms p arms)

-- What an operator requires of the widths of its operands. Alike: all have one width, and so has the result (`+ - * & | ^ ~`).
-- Comparing: all have one width, and the result has one bit. Shifting: the result has the width of the first operand. Resizing:
-- the operator has a row in the table of widths (`cat`, `bits`, `ext`).
pub data Shape : Type 0 where
  Alike : Shape
  Comparing : Shape
  Shifting : Shape
  Resizing : Shape

-- by the layer in which an operator binds: shifts are those of layer 2, comparisons those of layer 3
abbrev pub shape : Primitive → Shape
shape prims.Cat = Resizing
shape (prims.Bits high low) = Resizing
shape (prims.Ext n) = Resizing
shape o = if layer_of o == 2 then Shifting else if layer_of o == 3 then Comparing else Alike

abbrev pub takes_width : Shape → Bool
takes_width Alike = true
takes_width _ = false

-- Which expressions are flexible: a number; an operator whose operands have one width, if all of them are flexible; an if with
-- two flexible branches; and a let with a flexible body. Every other expression is rigid.
abbrev mutual
  pub flexible : Expression → Bool
  flexible (Number p n) = true
  flexible (If p c a b) = flexible a && flexible b
  flexible (Let p bs b) = flexible b
  flexible (Op p o ts) = takes_width (shape o) && all_flexible ts
  flexible _ = false

  pub all_flexible : Expressions → Bool
  all_flexible no_expression = true
  all_flexible (an_expression e es) = flexible e && all_flexible es

abbrev pub count : Expressions → ℕ
count no_expression = 0
count (an_expression e es) = 1 + count es

-- What is gathered from all parts of an expression, in the order of the text: `own` adds what an expression has by itself to what
-- its parts have, and `join` puts together what two parts have.
abbrev mutual
  pub gathered_over : {A : Type 0} → (Expression → A → A) → (A → A → A) → A → Expression → A
  gathered_over own join none (If p c a b) = own (If p c a b) (join (gathered_over own join none c) (join (gathered_over own join none a) (gathered_over own join none b)))
  gathered_over own join none (Let p bs b) = own (Let p bs b) (join (gathered_bound own join none bs) (gathered_over own join none b))
  gathered_over own join none (Op p o es) = own (Op p o es) (gathered_in own join none es)
  gathered_over own join none (Call p f es) = own (Call p f es) (gathered_in own join none es)
  gathered_over own join none e = own e none

  pub gathered_in : {A : Type 0} → (Expression → A → A) → (A → A → A) → A → Expressions → A
  gathered_in own join none no_expression = none
  gathered_in own join none (an_expression e es) = join (gathered_over own join none e) (gathered_in own join none es)

  pub gathered_bound : {A : Type 0} → (Expression → A → A) → (A → A → A) → A → Bindings → A
  gathered_bound own join none no_binding = none
  gathered_bound own join none (a_binding p x w e bs) = join (gathered_over own join none e) (gathered_bound own join none bs)

-- how many expressions a tree has, itself included
abbrev pub nodes : Expression → ℕ
nodes e = gathered_over (λ (x : Expression) (n : ℕ). 1 + n) (λ (m n : ℕ). m + n) 0 e

abbrev pub nodes_in : Expressions → ℕ
nodes_in es = gathered_in (λ (x : Expression) (n : ℕ). 1 + n) (λ (m n : ℕ). m + n) 0 es

abbrev pub nodes_bound : Bindings → ℕ
nodes_bound bs = gathered_bound (λ (x : Expression) (n : ℕ). 1 + n) (λ (m n : ℕ). m + n) 0 bs

-- ---- long lets

-- a name with its place
pub record Placed : Type 0 where
  pub place : ℕ
  pub name : List ℕ

abbrev pub placed : Bindings → List Placed
placed no_binding = []
placed (a_binding p x w e bs) = record { place = p; name = x } ∷ placed bs

-- the place in the list after the first n of them, if there is one
abbrev pub excess : ℕ → List ℕ → Option ℕ
excess n places = slice_get places n

-- the place of the expression's own first binding beyond the limit, or else o
abbrev pub own_excess_or : Expression → Option ℕ → Option ℕ
own_excess_or (Let p bs b) o = option_or (slice_get (map (λ x. x.place) (placed bs)) bindings_max) o
own_excess_or _ o = o

-- the place of the first binding beyond the limit, in the first let that has too many
abbrev pub long_let : Expression → Option ℕ
long_let e = gathered_over own_excess_or (λ (o p : Option ℕ). option_or o p) None e

abbrev pub long_let_in : Expressions → Option ℕ
long_let_in es = gathered_in own_excess_or (λ (o p : Option ℕ). option_or o p) None es

abbrev pub long_let_bound : Bindings → Option ℕ
long_let_bound bs = gathered_bound own_excess_or (λ (o p : Option ℕ). option_or o p) None bs

-- ---- parts by name

abbrev pub test_at : ℕ → Expression → Expression
test_at p l = Op p prims.Eq (an_expression (Variable p scrutinee) (an_expression l no_expression))
