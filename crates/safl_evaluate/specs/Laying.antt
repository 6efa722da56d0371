-- Places: where the nodes of terms lie in a table.
use Rattle.std.specs.Prelude.{◌≡◌, ℕ, ◌+◌, ◌<◌, ◌≤◌, List, length, get_or, false}
use Rattle.safl_term.specs.Program.{Program}
use Rattle.safl_term.specs.Sizes.{nodes, nodes_in}
use Rattle.safl_term.specs.Standing.{Stands, StandsIn}
use Rattle.safl_term.specs.Terms.{Term, Const, Var, Op, If, Let, Call, Loop, Terms, Nil, Cons}
use Rattle.safl_evaluate.specs.declared.places.Place.{Place}
use Rattle.safl_evaluate.specs.declared.places.Plan.{Plan}
use Rattle.safl_evaluate.specs.Plain.{plain_term, plain_terms, plain_body}

abbrev pub nowhere : Place
nowhere = record { next = 0; first = 0; last = 0; is_plain = false; is_plain_body = false }

abbrev pub place : List Place → ℕ → Place
place P p = get_or P p nowhere

-- The place of a term whose nodes lie from p on: the place after them, two numbers between which all its sites are, and whether
-- it is a plain term and whether it is a plain body.
pub record IsPlace (x : Place) (p : ℕ) (t : Term) : Type 0 where
  pub next : x.next ≡ p + nodes t
  pub plain : x.is_plain ≡ plain_term t
  pub body : x.is_plain_body ≡ plain_body t
  pub sites : (k : ℕ) → Stands k t → (x.first ≤ k) × (k ≤ x.last)

-- the same facts for several terms, one after the other
pub record IsRoom (x : Place) (p : ℕ) (ts : Terms) : Type 0 where
  pub next : x.next ≡ p + nodes_in ts
  pub plain : x.is_plain ≡ plain_terms ts
  pub body : x.is_plain_body ≡ plain_terms ts
  pub sites : (k : ℕ) → StandsIn k ts → (x.first ≤ k) × (k ≤ x.last)

unfoldable mutual
  -- the nodes of the parts of a term lie after its own node at p, in the order of the text, but the bindings of a let after its
  -- body
  pub LaidBelow : List Place → ℕ → Term → Type 0
  LaidBelow P p (Const w) = Unit {0}
  LaidBelow P p (Var i) = Unit {0}
  LaidBelow P p (Op o ts) = LaidIn P (p + 1) ts
  LaidBelow P p (If c a b) =
      (IsPlace (place P (p + 1)) (p + 1) c × LaidBelow P (p + 1) c)
      × (IsPlace (place P (p + 1 + nodes c)) (p + 1 + nodes c) a × LaidBelow P (p + 1 + nodes c) a)
      × (IsPlace (place P (p + 1 + nodes c + nodes a)) (p + 1 + nodes c + nodes a) b × LaidBelow P (p + 1 + nodes c + nodes a) b)
  LaidBelow P p (Let ts b) = LaidIn P (p + 1 + nodes b) ts × IsPlace (place P (p + 1)) (p + 1) b × LaidBelow P (p + 1) b
  LaidBelow P p (Call f k ts) = LaidIn P (p + 1) ts
  LaidBelow P p (Loop h ts) = LaidIn P (p + 1) ts

  pub LaidIn : List Place → ℕ → Terms → Type 0
  LaidIn P p Nil = Unit {0}
  LaidIn P p (Cons t ts) = (IsPlace (place P p) p t × LaidBelow P p t) × LaidIn P (p + nodes t) ts

-- the nodes of the term lie from p on
abbrev pub Laid : List Place → ℕ → Term → Type 0
Laid P p t = IsPlace (place P p) p t × LaidBelow P p t

-- the places outside these two numbers are the same
pub record SameOutside (from upto : ℕ) (P P' : List Place) : Type 0 where
  pub below : (q : ℕ) → q < from → place P' q ≡ place P q
  pub above : (q : ℕ) → upto ≤ q → place P' q ≡ place P q

-- the two numbers of one place are between those of the other
pub record Covers (x y : Place) : Type 0 where
  pub first : x.first ≤ y.first
  pub last : y.last ≤ x.last

-- where a function's body lies
abbrev pub body_at : Plan → ℕ → ℕ
body_at plan f = get_or plan.bodies.items f 0

-- the bodies lie one after the other in a table of `count` places
pub record IsPlan (C : Program) (plan : Plan) (count : ℕ) : Type 0 where
  pub bodies : length plan.bodies.items ≡ C.functions
  pub places : length plan.places.items ≡ count
  pub laid : (f : ℕ) → f < C.functions → Laid plan.places.items (body_at plan f) (C.body f)
  pub within : (f : ℕ) → f < C.functions → body_at plan f + nodes (C.body f) ≤ count
  pub apart : (f g : ℕ) → f < g → g < C.functions → body_at plan f + nodes (C.body f) ≤ body_at plan g
