-- The text of a program, with as few parentheses as possible.
use Rattle.std.specs.Prelude.{◌≡◌, ℕ, List, [], ◌∷◌, ◌++◌, Option, Some, None, Bool, true, false, nat_le, codes, decimal, map}
use Rattle.std.specs.List.{flat_map}
use Rattle.safl_word.specs.declared.token.Key.{Key}
use Rattle.safl_word.specs.declared.token.Key.TheVariants as keys
use Rattle.safl_word.specs.declared.token.Sym.{Sym}
use Rattle.safl_word.specs.declared.token.Sym.TheVariants as syms
use Rattle.safl_word.specs.declared.token.TokenKind.{TokenKind}
use Rattle.safl_word.specs.declared.token.TokenKind.TheVariants as kinds
use Rattle.safl_word.specs.declared.primitive.Primitive.{Primitive}
use Rattle.safl_word.specs.declared.primitive.Primitive.TheVariants as prims
use Rattle.safl_word.specs.Tokens.{key_text, sym_text}
use Rattle.safl_word.specs.Operators.{symbol_of}
use Rattle.safl_tree.specs.Tree.{Tree, Number, Sized, Variable, If, Let, Cases, Op, Call, Trees, no_tree, a_tree, Binds, no_bind, a_bind, Arms, default_arm, an_arm, Labelled, Parameter, Definition}
use Rattle.safl_tree.specs.Printable.{left_context, right_context, layers_of}

-- ---- tokens

-- a token without its place: its kind and its text
pub record PrintedToken : Type 0 where
  pub kind : TokenKind
  pub text : List ℕ

abbrev pub key : Key → PrintedToken
key k = record { kind = kinds.Key k; text = key_text k }

abbrev pub sym : Sym → PrintedToken
sym s = record { kind = kinds.Sym s; text = sym_text s }

abbrev pub name : List ℕ → PrintedToken
name x = record { kind = kinds.Name; text = x }

-- the word of a number, in as few decimal digits as possible
abbrev pub number_word : ℕ → PrintedToken
number_word n = record { kind = kinds.Num n; text = decimal n }

-- ---- expressions

-- words of several parts, with a word between each and the next
abbrev pub separated : PrintedToken → List (List PrintedToken) → List PrintedToken
separated s [] = []
separated s (x ∷ []) = x
separated s (x ∷ y ∷ xs) = x ++ (s ∷ separated s (y ∷ xs))

-- words, in parentheses or not
abbrev pub enclosed : Bool → List PrintedToken → List PrintedToken
enclosed true ws = ws
enclosed false ws = sym syms.OpenParen ∷ (ws ++ (sym syms.CloseParen ∷ []))

-- the words of an operator and its operands
abbrev pub applied : Primitive → List (List PrintedToken) → List PrintedToken
applied prims.Not parts = sym syms.Tilde ∷ separated (sym syms.Comma) parts
applied prims.Cat parts = key keys.Cat ∷ (sym syms.OpenParen ∷ (separated (sym syms.Comma) parts ++ (sym syms.CloseParen ∷ [])))
applied (prims.Bits h l) parts = key keys.Bits ∷ (sym syms.OpenParen ∷ (separated (sym syms.Comma) parts ++ (sym syms.Comma ∷ (number_word h ∷ (sym syms.Comma ∷ (number_word l ∷ (sym syms.CloseParen ∷ [])))))))
applied (prims.Ext n) parts = key keys.Ext ∷ (sym syms.OpenParen ∷ (separated (sym syms.Comma) parts ++ (sym syms.Comma ∷ (number_word n ∷ (sym syms.CloseParen ∷ [])))))
applied o parts = separated (sym (symbol_of o)) parts

-- `:` and the width, if one is written
abbrev pub width_words : Option ℕ → List PrintedToken
width_words None = []
width_words (Some w) = sym syms.Colon ∷ (number_word w ∷ [])

-- the words of an expression, without parentheses around it
abbrev mutual
  pub words : Tree → List PrintedToken
  words (Number p n) = number_word n ∷ []
  words (Sized p w n) = record { kind = kinds.Sized w n; text = decimal w ++ codes "'d" ++ decimal n } ∷ []
  words (Variable p x) = name x ∷ []
  words (If p c a b) = key keys.If ∷ (words c ++ (key keys.Then ∷ (words a ++ (key keys.Else ∷ words b))))
  words (Let p bs t) = key keys.Let ∷ (separated (sym syms.Comma) (bind_words bs) ++ (key keys.In ∷ words t))
  words (Cases p e arms) = key keys.Case ∷ (words e ++ (sym syms.OpenBrace ∷ (arm_words arms ++ (sym syms.CloseBrace ∷ []))))
  words (Op p o ts) = applied o (part_words (left_context o) (right_context o) ts)
  words (Call p f ts) = name f ∷ (sym syms.OpenParen ∷ (separated (sym syms.Comma) (part_words 8 8 ts) ++ (sym syms.CloseParen ∷ [])))

  -- the words of operands: the first in a context of so many layers, the others of so many; in parentheses if they need more layers
  pub part_words : ℕ → ℕ → Trees → List (List PrintedToken)
  part_words k right no_tree = []
  part_words k right (a_tree t ts) = enclosed (nat_le (layers_of t) k) (words t) ∷ part_words right right ts

  pub bind_words : Binds → List (List PrintedToken)
  bind_words no_bind = []
  bind_words (a_bind p x w t bs) = (name x ∷ (width_words w ++ (sym syms.Assign ∷ words t))) ∷ bind_words bs

  pub arm_words : Arms → List PrintedToken
  arm_words (default_arm t) = key keys.Default ∷ (sym syms.Arrow ∷ words t)
  arm_words (an_arm l t arms) = words l ++ (sym syms.Arrow ∷ (words t ++ (sym syms.Comma ∷ arm_words arms)))

-- the words of labelled arms
abbrev pub labelled_words : List Labelled → List PrintedToken
labelled_words [] = []
labelled_words (a ∷ arms) = words a.label ++ (sym syms.Arrow ∷ (words a.value ++ (sym syms.Comma ∷ labelled_words arms)))

-- ---- programs

-- the words of a definition without its `fun` or `and`
abbrev pub one_words : Definition → List PrintedToken
one_words d =
    name d.name ∷ (sym syms.OpenParen
    ∷ (separated (sym syms.Comma) (map (λ (p : Parameter). name p.name ∷ (sym syms.Colon ∷ (number_word p.width ∷ []))) d.params)
    ++ (sym syms.CloseParen ∷ (sym syms.Colon ∷ (number_word d.width ∷ (sym syms.Assign ∷ words d.body))))))

-- a joined definition begins with `and`, any other with `fun`
abbrev pub opening_word : Bool → PrintedToken
opening_word true = key keys.And
opening_word false = key keys.Fun

-- ---- texts

abbrev pub spaced : List PrintedToken → List ℕ
spaced ws = flat_map (λ (x : PrintedToken). 32 ∷ x.text) ws

-- the line of a definition: its words with a space before each, and a line feed
abbrev pub line : Definition → List ℕ
line d = (opening_word d.joined).text ++ (flat_map (λ (x : PrintedToken). 32 ∷ x.text) (one_words d) ++ (10 ∷ []))

abbrev pub printed : List Definition → List ℕ
printed ds = flat_map line ds

-- the text of these words is appended to what was there
abbrev pub Writes : List ℕ → List ℕ → List PrintedToken → Type 0
Writes old new ws = new ≡ old ++ spaced ws

-- ---- parts by name

abbrev pub sized : ℕ → ℕ → PrintedToken
sized w n = record { kind = kinds.Sized w n; text = decimal w ++ codes "'d" ++ decimal n }

abbrev pub bound_words : List ℕ → Option ℕ → List PrintedToken → List PrintedToken
bound_words x w value = name x ∷ (width_words w ++ (sym syms.Assign ∷ value))

abbrev pub param_words : List Parameter → List (List PrintedToken)
param_words ps = map (λ (p : Parameter). name p.name ∷ (sym syms.Colon ∷ (number_word p.width ∷ []))) ps
