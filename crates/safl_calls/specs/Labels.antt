-- Which words may decide how long a body takes: public ones alone.
use Rattle.std.specs.Prelude.{◌≡◌, ℕ, zero, suc, List, [], ◌∷◌, ◌++◌, Bool, true, false, ◌&&◌}
use Rattle.safl_word.specs.Words.{Word}
use Rattle.safl_word.specs.declared.primitive.Primitive.{Primitive}
use Rattle.safl_term.specs.Program.{Program}
use Rattle.safl_term.specs.Terms.{Term, Const, Var, Op, If, Let, Call, Loop, Terms, Nil, Cons}
use Rattle.safl_term.specs.Meaning.{Main}
use Rattle.safl_calls.specs.Span.{main_span}

-- which parameters of a function, and which results, are public
pub record Labels : Type 0 where
  pub params : ℕ → List Bool
  pub result : ℕ → Bool

-- the label of a slot; whether all labels are public
unfoldable pub label : List Bool → ℕ → Bool
label [] i = false
label (b ∷ bs) zero = b
label (b ∷ bs) (suc i) = label bs i

unfoldable pub all_public : List Bool → Bool
all_public [] = true
all_public (b ∷ bs) = b && all_public bs

mutual
  -- a term without calls and loops is ready at once
  pub data IsPlainTerm : Term → Type 0 where
    p_const : {w : Word} → IsPlainTerm (Const w)
    p_var : {i : ℕ} → IsPlainTerm (Var i)
    p_op : {o : Primitive} {ts : Terms} → ArePlain ts → IsPlainTerm (Op o ts)
    p_if : {c x y : Term} → IsPlainTerm c → IsPlainTerm x → IsPlainTerm y → IsPlainTerm (If c x y)
    p_let : {ts : Terms} {y : Term} → ArePlain ts → IsPlainTerm y → IsPlainTerm (Let ts y)

  pub data ArePlain : Terms → Type 0 where
    p_nil : ArePlain Nil
    p_cons : {t : Term} {ts : Terms} → IsPlainTerm t → ArePlain ts → ArePlain (Cons t ts)

mutual
  -- Two terms are twins if, wherever the public slots hold the same, they take the same time, start the same calls with arguments that
  -- are the same where they are public, and give the same word if b is true. So a term that is its own twin tells no secret by its time.
  pub data Twins (L : Labels) : List Bool → Term → Term → Bool → Type 0 where
    t_const : {ls : List Bool} {w : Word} {b : Bool} → Twins L ls (Const w) (Const w) b
    t_var : {ls : List Bool} {i : ℕ} {b : Bool} → (b ≡ true → label ls i ≡ true) → Twins L ls (Var i) (Var i) b
    -- plain terms take the same time
    t_plain : {ls : List Bool} {t u : Term} → IsPlainTerm t → IsPlainTerm u → Twins L ls t u false
    t_op : {ls ms : List Bool} {o : Primitive} {ts us : Terms} {b : Bool}
        → AllTwins L ls ts us ms → (b ≡ true → all_public ms ≡ true) → Twins L ls (Op o ts) (Op o us) b
    -- public conditions select the same branch
    t_if : {ls : List Bool} {c d x y u v : Term} {b : Bool}
        → Twins L ls c d true → Twins L ls x u b → Twins L ls y v b → Twins L ls (If c x y) (If d u v) b
    -- secret conditions may select any two branches
    t_choose : {ls : List Bool} {c d x y u v : Term} {b : Bool} → Twins L ls c d false
        → Twins L ls x u b → Twins L ls x v b → Twins L ls y u b → Twins L ls y v b → Twins L ls (If c x y) (If d u v) b
    -- an if with a plain condition takes the time of its branches
    t_left : {ls : List Bool} {c x y u : Term} {b : Bool} → IsPlainTerm c → Twins L ls x u b → Twins L ls y u b → Twins L ls (If c x y) u b
    t_right : {ls : List Bool} {t c u v : Term} {b : Bool} → IsPlainTerm c → Twins L ls t u b → Twins L ls t v b → Twins L ls t (If c u v) b
    t_let : {ls ms : List Bool} {ts us : Terms} {x u : Term} {b : Bool}
        → AllTwins L ls ts us ms → Twins L (ls ++ ms) x u b → Twins L ls (Let ts x) (Let us u) b
    -- calls at one site, or tail calls to one function: what they pass to a public parameter is public
    t_call : {ls : List Bool} {f k : ℕ} {ts us : Terms} {b : Bool}
        → AllTwins L ls ts us (L.params f) → (b ≡ true → L.result f ≡ true) → Twins L ls (Call f k ts) (Call f k us) b
    t_loop : {ls : List Bool} {h : ℕ} {ts us : Terms} {b : Bool}
        → AllTwins L ls ts us (L.params h) → (b ≡ true → L.result h ≡ true) → Twins L ls (Loop h ts) (Loop h us) b

  pub data AllTwins (L : Labels) : List Bool → Terms → Terms → List Bool → Type 0 where
    t_nil : {ls : List Bool} → AllTwins L ls Nil Nil []
    t_cons : {ls : List Bool} {t u : Term} {ts us : Terms} {b : Bool} {bs : List Bool}
        → Twins L ls t u b → AllTwins L ls ts us bs → AllTwins L ls (Cons t ts) (Cons u us) (b ∷ bs)

-- each body is its own twin
abbrev pub KeepsLabels : Program → Labels → Type 0
KeepsLabels C L = (f : ℕ) → Twins L (L.params f) (C.body f) (C.body f) (L.result f)

-- words that are equal where they are public
abbrev pub Alike : List Bool → List Word → List Word → Type 0
Alike [] [] [] = Unit {0}
Alike (b ∷ bs) (v ∷ vs) (w ∷ ws) = (b ≡ true → v ≡ w) × Alike bs vs ws
Alike _ _ _ = ⊥

-- where each body keeps the labels, the span of main's evaluation does not depend on arguments that are not public
abbrev pub IsBlind : Program → Type 0
IsBlind C =
    (L : Labels) → KeepsLabels C L → (args other : List Word) → Alike (L.params (C.callee 0)) args other
    → (v w : Word) (d : Main C args v) (e : Main C other w) → main_span C args d ≡ main_span C other e
