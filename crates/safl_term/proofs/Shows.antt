-- What partial evaluation shows, as relations.
use Rattle.safl_term.proofs.Common.{Primitive, Program, Word, apply_prim, choose, slot}
use Rattle.std.proofs.Common.{◌≡◌, ℕ, List, [], ◌∷◌, ◌++◌}
use Rattle.safl_term.specs.Readiness.{Stage, Returned}
use Rattle.safl_term.specs.Meaning.{Gives, gives_const, gives_var, gives_op, gives_if, gives_let, gives_call, gives_loop, GivesAll, gives_nil, gives_cons}
use Rattle.safl_term.specs.Terms.{Term, Const, Var, If, Let, Op, Call, Loop, Terms, Nil, Cons}

mutual
  -- the term is ready with v, all its evaluated sites have returned, and rightly
  pub data Done (p : Program) (s : ℕ → Stage) : List Word → Term → Word → Type 0 where
    d_const : {env : List Word} {w : Word} → Done p s env (Const w) w
    d_var : {env : List Word} {i : ℕ} → Done p s env (Var i) (slot env i)
    d_op : {env : List Word} {o : Primitive} {ts : Terms} {vs : List Word} → DoneAll p s env ts vs → Done p s env (Op o ts) (apply_prim o vs)
    d_if : {env : List Word} {c a b : Term} {u v : Word} → Done p s env c u → Done p s env (choose u a b) v → Done p s env (If c a b) v
    d_let : {env : List Word} {ts : Terms} {b : Term} {us : List Word} {v : Word} → DoneAll p s env ts us → Done p s (env ++ us) b v → Done p s env (Let ts b) v
    d_call : {env : List Word} {f k : ℕ} {ts : Terms} {us : List Word} {v : Word} → DoneAll p s env ts us → s k ≡ Returned v → Gives p us (p.body f) v → Done p s env (Call f k ts) v

  pub data DoneAll (p : Program) (s : ℕ → Stage) : List Word → Terms → List Word → Type 0 where
    d_nil : {env : List Word} → DoneAll p s env Nil []
    d_cons : {env : List Word} {t : Term} {ts : Terms} {v : Word} {vs : List Word} → Done p s env t v → DoneAll p s env ts vs → DoneAll p s env (Cons t ts) (v ∷ vs)

-- the term is a loop to h
pub data Tail (p : Program) (s : ℕ → Stage) : List Word → Term → ℕ → List Word → Type 0 where
  t_loop : {env : List Word} {h : ℕ} {ts : Terms} {us : List Word} → DoneAll p s env ts us → Tail p s env (Loop h ts) h us
  t_if : {env : List Word} {c a b : Term} {u : Word} {h : ℕ} {ws : List Word} → Done p s env c u → Tail p s env (choose u a b) h ws → Tail p s env (If c a b) h ws
  t_let : {env : List Word} {ts : Terms} {b : Term} {us ws : List Word} {h : ℕ} → DoneAll p s env ts us → Tail p s (env ++ us) b h ws → Tail p s env (Let ts b) h ws

mutual
  -- call k is reached, and its arguments are ready with ws
  pub data Asks (p : Program) (s : ℕ → Stage) : List Word → Term → ℕ → List Word → Type 0 where
    a_here : {env : List Word} {f k : ℕ} {ts : Terms} {ws : List Word} → DoneAll p s env ts ws → Asks p s env (Call f k ts) k ws
    a_arg : {env : List Word} {f j k : ℕ} {ts : Terms} {ws : List Word} → AsksIn p s env ts k ws → Asks p s env (Call f j ts) k ws
    a_loop : {env : List Word} {h k : ℕ} {ts : Terms} {ws : List Word} → AsksIn p s env ts k ws → Asks p s env (Loop h ts) k ws
    a_op : {env : List Word} {o : Primitive} {k : ℕ} {ts : Terms} {ws : List Word} → AsksIn p s env ts k ws → Asks p s env (Op o ts) k ws
    a_cond : {env : List Word} {c a b : Term} {k : ℕ} {ws : List Word} → Asks p s env c k ws → Asks p s env (If c a b) k ws
    a_branch : {env : List Word} {c a b : Term} {u : Word} {k : ℕ} {ws : List Word} → Done p s env c u → Asks p s env (choose u a b) k ws → Asks p s env (If c a b) k ws
    a_bind : {env : List Word} {ts : Terms} {b : Term} {k : ℕ} {ws : List Word} → AsksIn p s env ts k ws → Asks p s env (Let ts b) k ws
    a_body : {env : List Word} {ts : Terms} {b : Term} {us ws : List Word} {k : ℕ} → DoneAll p s env ts us → Asks p s (env ++ us) b k ws → Asks p s env (Let ts b) k ws

  pub data AsksIn (p : Program) (s : ℕ → Stage) : List Word → Terms → ℕ → List Word → Type 0 where
    a_head : {env : List Word} {t : Term} {ts : Terms} {k : ℕ} {ws : List Word} → Asks p s env t k ws → AsksIn p s env (Cons t ts) k ws
    a_tail : {env : List Word} {t : Term} {ts : Terms} {k : ℕ} {ws : List Word} → AsksIn p s env ts k ws → AsksIn p s env (Cons t ts) k ws

-- what was returned stays
abbrev pub Keeps : (ℕ → Stage) → (ℕ → Stage) → Type 0
Keeps s r = (k : ℕ) (v : Word) → s k ≡ Returned v → r k ≡ Returned v

mutual
  pub done_keep : (p : Program) (s r : ℕ → Stage) → Keeps s r → {env : List Word} {t : Term} {v : Word} → Done p s env t v → Done p r env t v
  done_keep p s r h d_const = d_const
  done_keep p s r h d_var = d_var
  done_keep p s r h (d_op ds) = d_op (done_all_keep p s r h ds)
  done_keep p s r h (d_if c d) = d_if (done_keep p s r h c) (done_keep p s r h d)
  done_keep p s r h (d_let ds d) = d_let (done_all_keep p s r h ds) (done_keep p s r h d)
  done_keep p s r h (d_call {k = k} {v = v} ds e g) = d_call (done_all_keep p s r h ds) (h k v e) g

  pub done_all_keep : (p : Program) (s r : ℕ → Stage) → Keeps s r → {env : List Word} {ts : Terms} {vs : List Word} → DoneAll p s env ts vs → DoneAll p r env ts vs
  done_all_keep p s r h d_nil = d_nil
  done_all_keep p s r h (d_cons d ds) = d_cons (done_keep p s r h d) (done_all_keep p s r h ds)

mutual
  pub asks_keep : (p : Program) (s r : ℕ → Stage) → Keeps s r → {env : List Word} {t : Term} {k : ℕ} {ws : List Word} → Asks p s env t k ws → Asks p r env t k ws
  asks_keep p s r h (a_here ds) = a_here (done_all_keep p s r h ds)
  asks_keep p s r h (a_arg a) = a_arg (asks_in_keep p s r h a)
  asks_keep p s r h (a_loop a) = a_loop (asks_in_keep p s r h a)
  asks_keep p s r h (a_op a) = a_op (asks_in_keep p s r h a)
  asks_keep p s r h (a_cond a) = a_cond (asks_keep p s r h a)
  asks_keep p s r h (a_branch c a) = a_branch (done_keep p s r h c) (asks_keep p s r h a)
  asks_keep p s r h (a_bind a) = a_bind (asks_in_keep p s r h a)
  asks_keep p s r h (a_body ds a) = a_body (done_all_keep p s r h ds) (asks_keep p s r h a)

  pub asks_in_keep : (p : Program) (s r : ℕ → Stage) → Keeps s r → {env : List Word} {ts : Terms} {k : ℕ} {ws : List Word} → AsksIn p s env ts k ws → AsksIn p r env ts k ws
  asks_in_keep p s r h (a_head a) = a_head (asks_keep p s r h a)
  asks_in_keep p s r h (a_tail a) = a_tail (asks_in_keep p s r h a)

mutual
  pub done_gives : (p : Program) (s : ℕ → Stage) {env : List Word} {t : Term} {v : Word} → Done p s env t v → Gives p env t v
  done_gives p s d_const = gives_const
  done_gives p s d_var = gives_var
  done_gives p s (d_op ds) = gives_op (done_all_gives p s ds)
  done_gives p s (d_if c d) = gives_if (done_gives p s c) (done_gives p s d)
  done_gives p s (d_let ds d) = gives_let (done_all_gives p s ds) (done_gives p s d)
  done_gives p s (d_call ds e g) = gives_call (done_all_gives p s ds) g

  pub done_all_gives : (p : Program) (s : ℕ → Stage) {env : List Word} {ts : Terms} {vs : List Word} → DoneAll p s env ts vs → GivesAll p env ts vs
  done_all_gives p s d_nil = gives_nil
  done_all_gives p s (d_cons d ds) = gives_cons (done_gives p s d) (done_all_gives p s ds)

pub tail_gives : (p : Program) (s : ℕ → Stage) {env : List Word} {t : Term} {h : ℕ} {ws : List Word} (v : Word) → Tail p s env t h ws → Gives p ws (p.body h) v → Gives p env t v
tail_gives p s v (t_loop ds) g = gives_loop (done_all_gives p s ds) g
tail_gives p s v (t_if c t) g = gives_if (done_gives p s c) (tail_gives p s v t g)
tail_gives p s v (t_let ds t) g = gives_let (done_all_gives p s ds) (tail_gives p s v t g)
