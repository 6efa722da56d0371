-- What is kept of each node between evaluations.
use Rattle.std.specs.Prelude.{◌≡◌, ℕ, ◌+◌, ◌<◌, ◌≤◌, ◌==◌, List, ◌++◌, length, take, Option, Some, None, Bool, true, false, cond, is_some, get_or}
use Rattle.safl_word.specs.Words.{Word}
use Rattle.safl_term.specs.Readiness.{Answer, Ready, answer, answers, word_of}
use Rattle.safl_term.specs.Sizes.{nodes, nodes_in}
use Rattle.safl_term.specs.Standing.{Stands, StandsIn}
use Rattle.safl_term.specs.Terms.{Term, Const, Var, Op, If, Let, Call, Loop, Terms, Nil, Cons}
use Rattle.safl_evaluate.specs.declared.kept.Kept as code
use Rattle.safl_evaluate.specs.declared.kept.Kept.{Kept}
use Rattle.safl_evaluate.specs.declared.places.Place.{Place}
use Rattle.safl_evaluate.specs.declared.stage.Stage.{Stage}
use Rattle.safl_evaluate.specs.Evaluating.{CanRun, CanRunAll, Unasked, UnaskedIn}
use Rattle.safl_evaluate.specs.Laying.{place, Laid, LaidIn}
use Rattle.safl_evaluate.specs.Plain.{plain_body}
use Rattle.safl_evaluate.specs.Stages.{back_at}

-- the word that is kept, if there is one
abbrev pub word_kept : Kept → Option Word
word_kept (code.TheVariants.Ready v) = Some v
word_kept code.TheVariants.Open = None
word_kept code.TheVariants.Shut = None

-- whether the condition of an if, or the bindings of a let, were ready
abbrev pub is_open : Kept → Bool
is_open (code.TheVariants.Ready v) = true
is_open code.TheVariants.Open = true
is_open code.TheVariants.Shut = false

abbrev pub cell : List Kept → ℕ → Kept
cell W p = get_or W p code.TheVariants.Shut

-- the condition is ready, and selects the first branch; or the second one
abbrev pub SelectsFirst : Answer → Type 0
SelectsFirst q = (v : Word) × (q ≡ Ready v) × (v.bits ≡ 1)

abbrev pub SelectsSecond : Answer → Type 0
SelectsSecond q = (v : Word) × (q ≡ Ready v) × (v.bits ≡ 1 → ⊥)

-- what is kept of the node itself is right. Of constants and variables nothing has to be kept
abbrev pub IsCell : (ℕ → Option Word) → List Word → Term → Kept → Type 0
IsCell back env (Const w) x = Unit {0}
IsCell back env (Var i) x = Unit {0}
IsCell back env (Op o ts) x = word_kept x ≡ word_of (answer back env (Op o ts))
IsCell back env (If c a b) x = (word_kept x ≡ word_of (answer back env (If c a b))) × (is_open x ≡ is_some (word_of (answer back env c)))
IsCell back env (Let ts b) x = (word_kept x ≡ word_of (answer back env (Let ts b))) × (is_open x ≡ is_some (answers back env ts))
IsCell back env (Call f k ts) x = word_kept x ≡ back k
IsCell back env (Loop h ts) x = word_kept x ≡ None

-- this holds, unless the term is a plain body
abbrev pub UnlessPlain : Term → Type 0 → Type 0
UnlessPlain t held = plain_body t ≡ false → held

unfoldable mutual
  -- What is kept of the parts of a term, from place p on, is right for these returned words: of a branch if the condition is
  -- ready and selects it, and of a let's body if all bindings are ready. Of the parts of a plain body nothing has to be kept.
  -- A part that was not looked at asks for no site; every other part asks for its sites with the words of their arguments, if
  -- these are ready.
  pub Below : (ℕ → Option Word) → List Word → List (Option (List Word)) → List Kept → ℕ → Term → Type 0
  Below back env A W p (Const w) = Unit {0}
  Below back env A W p (Var i) = Unit {0}
  Below back env A W p (Op o ts) = UnlessPlain (Op o ts) (BelowIn back env A W (p + 1) ts)
  Below back env A W p (If c a b) = UnlessPlain (If c a b) (
      (IsCell back env c (cell W (p + 1)) × Below back env A W (p + 1) c)
      × (SelectsFirst (answer back env c) → IsCell back env a (cell W (p + 1 + nodes c)) × Below back env A W (p + 1 + nodes c) a)
      × ((SelectsFirst (answer back env c) → ⊥) → Unasked A a)
      × (SelectsSecond (answer back env c) → IsCell back env b (cell W (p + 1 + nodes c + nodes a)) × Below back env A W (p + 1 + nodes c + nodes a) b)
      × ((SelectsSecond (answer back env c) → ⊥) → Unasked A b))
  Below back env A W p (Let ts b) = UnlessPlain (Let ts b) (
      BelowIn back env A W (p + 1 + nodes b) ts
      × ((vs : List Word) → answers back env ts ≡ Some vs → IsCell back (env ++ vs) b (cell W (p + 1)) × Below back (env ++ vs) A W (p + 1) b)
      × (answers back env ts ≡ None → Unasked A b))
  Below back env A W p (Call f k ts) = (get_or A k None ≡ answers back env ts) × BelowIn back env A W (p + 1) ts
  Below back env A W p (Loop h ts) = UnlessPlain (Loop h ts) (BelowIn back env A W (p + 1) ts)

  pub BelowIn : (ℕ → Option Word) → List Word → List (Option (List Word)) → List Kept → ℕ → Terms → Type 0
  BelowIn back env A W p Nil = Unit {0}
  BelowIn back env A W p (Cons t ts) = (IsCell back env t (cell W p) × Below back env A W p t) × BelowIn back env A W (p + nodes t) ts

-- what is kept of a term and of its parts is right
abbrev pub Holds : (ℕ → Option Word) → List Word → List (Option (List Word)) → List Kept → ℕ → Term → Type 0
Holds back env A W p t = IsCell back env t (cell W p) × Below back env A W p t

-- the returned words without that of site k
abbrev pub without : (ℕ → Option Word) → ℕ → ℕ → Option Word
without back k j = cond (k == j) None (back j)

-- What is kept of a term was right before site k returned; or the term is looked at for the first time, and none of its sites was
-- asked for.
abbrev pub Stood : (ℕ → Option Word) → Option ℕ → List Word → List (Option (List Word)) → List Kept → ℕ → Term → Type 0
Stood back None env A W p t = Unasked A t
Stood back (Some k) env A W p t = Holds (without back k) env A W p t

abbrev pub StoodIn : (ℕ → Option Word) → Option ℕ → List Word → List (Option (List Word)) → List Kept → ℕ → Terms → Type 0
StoodIn back None env A W p ts = UnaskedIn A ts
StoodIn back (Some k) env A W p ts = BelowIn (without back k) env A W p ts

-- a plain body is looked at as if for the first time, since nothing is kept of its parts
pub record IsAnew (news : Option ℕ) (t : Term) : Type 0 where
  pub none : plain_body t ≡ true → news ≡ None

-- nothing differs outside the places from one number to another, and these sites
pub record Only (from upto : ℕ) (site : ℕ → Type 0) (A A' : List (Option (List Word))) (W W' : List Kept) : Type 0 where
  pub below : (q : ℕ) → q < from → cell W' q ≡ cell W q
  pub above : (q : ℕ) → upto ≤ q → cell W' q ≡ cell W q
  pub asks : (k : ℕ) → (site k → ⊥) → get_or A' k None ≡ get_or A k None

-- the slots of a term are filled, its nodes have places, and what was kept of it stood right
pub record MayLook (S : List Stage) (P : List Place) (A : List (Option (List Word))) (F : List Word) (W : List Kept) (n p : ℕ) (news : Option ℕ) (t : Term) : Type 0 where
  pub can : CanRun S (length A) (take n F) t
  pub room : n + nodes t ≤ length F
  pub laid : Laid P p t
  pub places : p + nodes t ≤ length P
  pub cells : p + nodes t ≤ length W
  pub stood : Stood (back_at S) news (take n F) A W p t

pub record MayLookAll (S : List Stage) (P : List Place) (A : List (Option (List Word))) (F : List Word) (W : List Kept) (n p : ℕ) (news : Option ℕ) (ts : Terms) : Type 0 where
  pub can : CanRunAll S (length A) (take n F) ts
  pub room : n + nodes_in ts ≤ length F
  pub laid : LaidIn P p ts
  pub places : p + nodes_in ts ≤ length P
  pub cells : p + nodes_in ts ≤ length W
  pub stood : StoodIn (back_at S) news (take n F) A W p ts

-- what is kept of an open if or let
abbrev pub opened_with : Option Word → Kept
opened_with None = code.TheVariants.Open
opened_with (Some v) = code.TheVariants.Ready v

-- before and after the parts of a term are looked at: this is found of the term, what is kept of its parts is right, and nothing
-- else differs
pub record Looks (S : List Stage) (A A' : List (Option (List Word))) (F : List Word) (W W' : List Kept) (n p : ℕ) (t : Term) (x : Kept) : Type 0 where
  pub word : word_kept x ≡ word_of (answer (back_at S) (take n F) t)
  pub own : IsCell (back_at S) (take n F) t x
  pub below : Below (back_at S) (take n F) A' W' p t
  pub only : Only (p + 1) (p + nodes t) (λ k. Stands k t) A A' W W'

-- before and after a term is evaluated: this is found of the term, what is kept of it and of its parts is right, and nothing else
-- differs
pub record Finds (S : List Stage) (A A' : List (Option (List Word))) (F : List Word) (W W' : List Kept) (n p : ℕ) (t : Term) (o : Option Word) : Type 0 where
  pub word : o ≡ word_of (answer (back_at S) (take n F) t)
  pub holds : Holds (back_at S) (take n F) A' W' p t
  pub only : Only p (p + nodes t) (λ k. Stands k t) A A' W W'

pub record FindsAll (S : List Stage) (A A' : List (Option (List Word))) (F : List Word) (W W' : List Kept) (n p : ℕ) (ts : Terms) (o : Option (List Word)) : Type 0 where
  pub words : answers (back_at S) (take n F) ts ≡ o
  pub holds : BelowIn (back_at S) (take n F) A' W' p ts
  pub only : Only p (p + nodes_in ts) (λ k. StandsIn k ts) A A' W W'

-- the term at this place has parts, and the site that has returned since it was last looked at is none of its own
pub record IsSkipped (P : List Place) (p : ℕ) (news : Option ℕ) : Type 0 where
  pub site : ℕ
  pub is : news ≡ Some site
  pub parts : p + 1 < (place P p).next
  pub apart : (place P p).first ≤ site → site ≤ (place P p).last → ⊥
