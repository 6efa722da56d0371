-- What a running body still owes, by an evaluation of it.
use Rattle.safl_calls.proofs.Common.{Program, Returned, Sent, Spans, SpansAll, Stage, Term, Terms, Unsent, Word, choose, fits_all_le}
use Rattle.safl_calls.proofs.Common.{fits_choose, fits_le, one_list, one_value, place, place_in}
use Rattle.std.proofs.Common.{◌≡◌, ℕ, suc, ◌+◌, ◌<◌, ◌≤◌, List, ◌++◌, Bool, false, refl, sym, ap, subst, arith, inl, inr, ◌⊎◌}
use Rattle.std.specs.Prelude.{◌≢◌}
use Rattle.safl_calls.proofs.Activities.{fresh}
use Rattle.safl_term.proofs.Shows.{Done, d_const, d_var, d_op, d_if, d_let, d_call, DoneAll, d_nil, d_cons, Tail, t_loop, t_if, t_let, Asks, a_here}
use Rattle.safl_term.proofs.Shows.{a_arg, a_loop, a_op, a_cond, a_branch, a_bind, a_body, AsksIn, a_head, a_tail, done_gives, done_all_gives}
use Rattle.safl_term.specs.Meaning.{Gives, gives_const, gives_var, gives_op, gives_if, gives_let, gives_call, gives_loop, GivesAll, gives_nil, gives_cons, cost, costs}

-- what each kind of event counts
pub record Weights : Type 0 where
  pub accept : ℕ → List Word → ℕ
  pub loop : ℕ → List Word → ℕ
  pub finish : ℕ
  pub give : ℕ

abbrev pub if_unsent : Stage → ℕ → ℕ
if_unsent Unsent n = n
if_unsent Sent n = 0
if_unsent (Returned v) n = 0

abbrev mutual
  pub owed : (p : Program) (w : Weights) (s : ℕ → Stage) {env : List Word} {t : Term} {v : Word} → Gives p env t v → ℕ
  owed p w s gives_const = 0
  owed p w s gives_var = 0
  owed p w s (gives_op ds) = owed_all p w s ds
  owed p w s (gives_if c d) = owed p w s c + owed p w s d
  owed p w s (gives_let ds d) = owed_all p w s ds + owed p w s d
  owed p w s (gives_call {f = f} {k = k} {us = us} ds d) = owed_all p w s ds + if_unsent (s k) (w.accept f us + (w.finish + (w.give + owed p w fresh d)))
  owed p w s (gives_loop {h = h} {us = us} ds d) = owed_all p w s ds + (w.loop h us + owed p w fresh d)

  pub owed_all : (p : Program) (w : Weights) (s : ℕ → Stage) {env : List Word} {ts : Terms} {vs : List Word} → GivesAll p env ts vs → ℕ
  owed_all p w s gives_nil = 0
  owed_all p w s (gives_cons d ds) = owed p w s d + owed_all p w s ds

-- the sites of the interval owe alike
abbrev pub Alike : (ℕ → Stage) → (ℕ → Stage) → ℕ → ℕ → Type 0
Alike s r lo hi = (k : ℕ) → lo ≤ k → k < hi → (n : ℕ) → if_unsent (s k) n ≡ if_unsent (r k) n

mutual
  pub owed_alike : (p : Program) (w : Weights) (s r : ℕ → Stage) (g : ℕ) (tail : Bool) (lo hi : ℕ) {env : List Word} {t : Term} {v : Word}
      (d : Gives p env t v) → Spans p g tail lo hi t → Alike s r lo hi → owed p w s d ≡ owed p w r d
  owed_alike p w s r g tail lo hi gives_const x h = refl
  owed_alike p w s r g tail lo hi gives_var x h = refl
  owed_alike p w s r g tail lo hi (gives_op ds) x h = owed_all_alike p w s r g lo hi ds x h
  owed_alike p w s r g tail lo hi (gives_if {c = c} {a = a} {b = b} {u = u} q d) (m, n, x, y, z) h =
      let ch = fits_choose p g tail m n hi a b u y z in
      let xm = fits_le p g false lo m c x in
      let ym = fits_le p g tail m n a y in
      let zm = fits_le p g tail n hi b z in
      let first = owed_alike p w s r g false lo m q x (λ k i j. h k i (omega arith)) in
      let second = owed_alike p w s r g tail ch.low ch.high d ch.fits (λ k i j. h k (omega (arith, ch.above)) (omega (arith, ch.below))) in
      omega (arith, first, second)
  owed_alike p w s r g tail lo hi (gives_let {ts = ts} {b = b} ds d) (m, x, y) h =
      let xm = fits_all_le p g lo m ts x in
      let ym = fits_le p g tail m hi b y in
      let first = owed_all_alike p w s r g lo m ds x (λ k i j. h k i (omega arith)) in
      let second = owed_alike p w s r g tail m hi d y (λ k i j. h k (omega arith) j) in
      omega (arith, first, second)
  owed_alike p w s r g tail lo hi (gives_call {f = f} {k = k} {ts = ts} {us = us} ds d) (e, e1, e2, lt, x) h =
      let xm = fits_all_le p g (suc lo) hi ts x in
      let first = owed_all_alike p w s r g (suc lo) hi ds x (λ j i l. h j (omega arith) l) in
      let second = h k (omega arith) (omega arith) (w.accept f us + (w.finish + (w.give + owed p w fresh d))) in
      omega (arith, first, second)
  owed_alike p w s r g tail lo hi (gives_loop ds d) (e, e1, x) h =
      let first = owed_all_alike p w s r g lo hi ds x h in
      omega (arith, first)

  pub owed_all_alike : (p : Program) (w : Weights) (s r : ℕ → Stage) (g lo hi : ℕ) {env : List Word} {ts : Terms} {vs : List Word}
      (d : GivesAll p env ts vs) → SpansAll p g lo hi ts → Alike s r lo hi → owed_all p w s d ≡ owed_all p w r d
  owed_all_alike p w s r g lo hi gives_nil x h = refl
  owed_all_alike p w s r g lo hi (gives_cons {t = t} {ts = ts} d ds) (m, x, y) h =
      let xm = fits_le p g false lo m t x in
      let ym = fits_all_le p g m hi ts y in
      let first = owed_alike p w s r g false lo m d x (λ k i j. h k i (omega arith)) in
      let second = owed_all_alike p w s r g m hi ds y (λ k i j. h k (omega arith) j) in
      omega (arith, first, second)

-- a ready term owes nothing
mutual
  pub done_owed : (p : Program) (w : Weights) (s : ℕ → Stage) {env : List Word} {t : Term} {v x : Word} → Done p s env t v → (d : Gives p env t x) → owed p w s d ≡ 0
  done_owed p w s d_const gives_const = refl
  done_owed p w s d_var gives_var = refl
  done_owed p w s (d_op ds) (gives_op es) = done_all_owed p w s ds es
  done_owed p w s {x = x} (d_if {env = env} {a = a} {b = b} {u = u} c d) (gives_if {u = u'} c' d') =
      let e = (one_value p (cost p c') (done_gives p s c) c' refl).0 in
      let q = subst (λ y. (k : Gives p env (choose y a b) x) → owed p w s k ≡ 0) e (λ k. done_owed p w s d k) d' in
      omega (arith, done_owed p w s c c', q)
  done_owed p w s {x = x} (d_let {env = env} {b = b} ds d) (gives_let ds' d') =
      let e = (one_list p (costs p ds') (done_all_gives p s ds) ds' refl).0 in
      let q = subst (λ y. (k : Gives p (env ++ y) b x) → owed p w s k ≡ 0) e (λ k. done_owed p w s d k) d' in
      omega (arith, done_all_owed p w s ds ds', q)
  done_owed p w s (d_call {k = k} ds e g) (gives_call {f = f} {us = us} ds' d') =
      let q = ap (λ y. if_unsent y (w.accept f us + (w.finish + (w.give + owed p w fresh d')))) e in
      omega (arith, done_all_owed p w s ds ds', q)

  pub done_all_owed : (p : Program) (w : Weights) (s : ℕ → Stage) {env : List Word} {ts : Terms} {vs xs : List Word} → DoneAll p s env ts vs → (d : GivesAll p env ts xs) → owed_all p w s d ≡ 0
  done_all_owed p w s d_nil gives_nil = refl
  done_all_owed p w s (d_cons d ds) (gives_cons e es) = omega (arith, done_owed p w s d e, done_all_owed p w s ds es)

-- a loop owes its event and what follows
abbrev pub LoopOwed : (p : Program) (w : Weights) → ℕ → List Word → Word → ℕ → Type 0
LoopOwed p w h ws v n = (d : Gives p ws (p.body h) v) × (n ≡ w.loop h ws + owed p w fresh d)

pub tail_owed : (p : Program) (w : Weights) (s : ℕ → Stage) {env : List Word} {t : Term} {h : ℕ} {ws : List Word} {v : Word} (n : ℕ) → Tail p s env t
    h ws → (d : Gives p env t v) → n ≡ owed p w s d → LoopOwed p w h ws v n
tail_owed p w s {v = v} n (t_loop {h = h} ds) (gives_loop {us = us} ds' d') q =
    let e = (one_list p (costs p ds') (done_all_gives p s ds) ds' refl).0 in
    let z = done_all_owed p w s ds ds' in
    let all : n ≡ w.loop h us + owed p w fresh d' = omega arith in
    subst (λ y. LoopOwed p w h y v n) (sym e) (d', all)
tail_owed p w s {h = h} {ws = ws} {v = v} n (t_if {env = env} {a = a} {b = b} c t) (gives_if c' d') q =
    let e = (one_value p (cost p c') (done_gives p s c) c' refl).0 in
    let z = done_owed p w s c c' in
    subst (λ y. (k : Gives p env (choose y a b) v) → n ≡ owed p w s k → LoopOwed p w h ws v n) e (λ k i. tail_owed p w s n t k i) d' (omega arith)
tail_owed p w s {h = h} {ws = ws} {v = v} n (t_let {env = env} {b = b} ds t) (gives_let ds' d') q =
    let e = (one_list p (costs p ds') (done_all_gives p s ds) ds' refl).0 in
    let z = done_all_owed p w s ds ds' in
    subst (λ y. (k : Gives p (env ++ y) b v) → n ≡ owed p w s k → LoopOwed p w h ws v n) e (λ k i. tail_owed p w s n t k i) d' (omega arith)

-- where a term is ready, what it asks has returned
mutual
  pub done_asks : (p : Program) (s : ℕ → Stage) {env : List Word} {t : Term} {v : Word} {k : ℕ} {ws : List Word} → Done p s env t v → Asks p s env t k ws → (w : Word) × (s k ≡ Returned w)
  done_asks p s d_const q = elim q [ ]
  done_asks p s d_var q = elim q [ ]
  done_asks p s (d_op ds) (a_op q) = done_all_asks p s ds q
  done_asks p s (d_if c d) (a_cond q) = done_asks p s c q
  done_asks p s {k = k} {ws = ws} (d_if {env = env} {a = a} {b = b} c d) (a_branch c' q) =
      let e = (one_value p (cost p (done_gives p s c)) (done_gives p s c') (done_gives p s c) refl).0 in
      done_asks p s d (subst (λ y. Asks p s env (choose y a b) k ws) e q)
  done_asks p s (d_let ds d) (a_bind q) = done_all_asks p s ds q
  done_asks p s {k = k} {ws = ws} (d_let {env = env} {b = b} ds d) (a_body ds' q) =
      let e = (one_list p (costs p (done_all_gives p s ds)) (done_all_gives p s ds') (done_all_gives p s ds) refl).0 in
      done_asks p s d (subst (λ y. Asks p s (env ++ y) b k ws) e q)
  done_asks p s (d_call {v = v} ds e g) (a_here q) = (v, e)
  done_asks p s (d_call ds e g) (a_arg q) = done_all_asks p s ds q

  pub done_all_asks : (p : Program) (s : ℕ → Stage) {env : List Word} {ts : Terms} {vs : List Word} {k : ℕ} {ws : List Word} → DoneAll p s env ts vs →
      AsksIn p s env ts k ws → (w : Word) × (s k ≡ Returned w)
  done_all_asks p s d_nil q = elim q [ ]
  done_all_asks p s (d_cons d ds) (a_head q) = done_asks p s d q
  done_all_asks p s (d_cons d ds) (a_tail q) = done_all_asks p s ds q

pub tail_asks : (p : Program) (s : ℕ → Stage) {env : List Word} {t : Term} {h k : ℕ} {vs ws : List Word} → Tail p s env t h vs → Asks p s env t k ws → (w : Word) × (s k ≡ Returned w)
tail_asks p s (t_loop ds) (a_loop q) = done_all_asks p s ds q
tail_asks p s (t_if c t) (a_cond q) = done_asks p s c q
tail_asks p s {k = k} {ws = ws} (t_if {env = env} {a = a} {b = b} c t) (a_branch c' q) =
    let e = (one_value p (cost p (done_gives p s c)) (done_gives p s c') (done_gives p s c) refl).0 in
    tail_asks p s t (subst (λ y. Asks p s env (choose y a b) k ws) e q)
tail_asks p s (t_let ds t) (a_bind q) = done_all_asks p s ds q
tail_asks p s {k = k} {ws = ws} (t_let {env = env} {b = b} ds t) (a_body ds' q) =
    let e = (one_list p (costs p (done_all_gives p s ds)) (done_all_gives p s ds') (done_all_gives p s ds) refl).0 in
    tail_asks p s t (subst (λ y. Asks p s (env ++ y) b k ws) e q)

-- r is s, but that k, unsent in s, is sent
pub record Marked (s r : ℕ → Stage) (k : ℕ) : Type 0 where
  pub was : s k ≡ Unsent
  pub now : r k ≡ Sent
  pub others : (j : ℕ) → j ≢ k → r j ≡ s j

-- the evaluation of the call that is sent, and what the caller owed for it
abbrev pub CallOwed : (p : Program) (w : Weights) → ℕ → List Word → ℕ → ℕ → Type 0
CallOwed p w f ws n n' = (v : Word) × (d : Gives p ws (p.body f) v) × (n ≡ n' + (w.accept f ws + (w.finish + (w.give + owed p w fresh d))))

call_more : (p : Program) (w : Weights) (f : ℕ) (ws : List Word) (n n' m m' : ℕ) → m + n' ≡ m' + n → CallOwed p w f ws n n' → CallOwed p w f ws m m'
call_more p w f ws n n' m m' e (v, d, q) = (v, d, omega (arith, e, q))

marked_alike : (s r : ℕ → Stage) (k lo hi : ℕ) → Marked s r k → ((k < lo) ⊎ (hi ≤ k)) → Alike s r lo hi
marked_alike s r k lo hi m out j i l n = ap (λ y. if_unsent y n) (sym (m.others j (λ e. not_in out e)))
  where
    not_in : (k < lo) ⊎ (hi ≤ k) → j ≡ k → ⊥
    not_in (inl x) e = omega arith
    not_in (inr x) e = omega arith

mutual
  pub owed_call : (p : Program) (w : Weights) (s r : ℕ → Stage) (g : ℕ) (tail : Bool) (lo hi : ℕ) {env : List Word} {t : Term} {k : ℕ}
      {ws : List Word} {v : Word} → Asks p s env t k ws → (d : Gives p env t v) → Spans p g tail lo hi t → Marked s r k → CallOwed p w (p.callee k) ws
      (owed p w s d) (owed p w r d)
  owed_call p w s r g tail lo hi (a_here {f = f} {k = k} {ts = ts} ds) (gives_call {us = us} {v = v} ds' d') (e, e1, e2, lt, x) m =
      let q = (one_list p (costs p ds') (done_all_gives p s ds) ds' refl).0 in
      let due = w.accept f us + (w.finish + (w.give + owed p w fresh d')) in
      let before = ap (λ y. if_unsent y due) m.was in
      let after = ap (λ y. if_unsent y due) m.now in
      let args = owed_all_alike p w s r g (suc lo) hi ds' x (marked_alike s r k (suc lo) hi m (inl (omega arith))) in
      let n = owed_all p w s ds' + if_unsent (s k) due in
      let n' = owed_all p w r ds' + if_unsent (r k) due in
      let all : n ≡ n' + due = omega (arith, before, after, args) in
      subst (λ y. CallOwed p w (p.callee k) y n n') (sym q) (subst (λ y. CallOwed p w y us n n') (sym e1) (v, d', all))
  owed_call p w s r g tail lo hi (a_arg {f = f} {j = j} {k = k} {ts = ts} {ws = ws} a) (gives_call {us = us} ds' d') (e, e1, e2, lt, x) m =
      let q = owed_in p w s r g (suc lo) hi a ds' x m in
      let pl = place_in p s g (suc lo) hi x a in
      let same = ap (λ y. if_unsent y (w.accept f us + (w.finish + (w.give + owed p w fresh d')))) (m.others j (λ i. omega (arith, pl.above))) in
      call_more p w (p.callee k) ws (owed_all p w s ds') (owed_all p w r ds') _ _ (omega (arith, same)) q
  owed_call p w s r g tail lo hi (a_loop {k = k} {ws = ws} a) (gives_loop ds' d') (e, e1, x) m =
      call_more p w (p.callee k) ws (owed_all p w s ds') (owed_all p w r ds') _ _ (omega arith) (owed_in p w s r g lo hi a ds' x m)
  owed_call p w s r g tail lo hi (a_op a) (gives_op ds') x m = owed_in p w s r g lo hi a ds' x m
  owed_call p w s r g tail lo hi (a_cond {a = a} {b = b} {k = k} {ws = ws} q) (gives_if {u = u} c' d') (i, n, x, y, z) m =
      let ch = fits_choose p g tail i n hi a b u y z in
      let pl = place p s g false lo i x q in
      let rest = owed_alike p w s r g tail ch.low ch.high d' ch.fits (marked_alike s r k ch.low ch.high m (inl (omega (arith, pl.below, ch.above)))) in
      call_more p w (p.callee k) ws (owed p w s c') (owed p w r c') _ _ (omega (arith, rest)) (owed_call p w s r g false lo i q c' x m)
  owed_call p w s r g tail lo hi {v = v} (a_branch {env = env} {c = c} {a = a} {b = b} {u = u} {k = k} {ws = ws} d q) (gives_if {u = u'} c' d') (i, n, x, y, z) m =
      let e = (one_value p (cost p c') (done_gives p s d) c' refl).0 in
      let ch = fits_choose p g tail i n hi a b u y z in
      let pl = place p s g tail ch.low ch.high ch.fits q in
      let rest = owed_alike p w s r g false lo i c' x (marked_alike s r k lo i m (inr (omega (arith, pl.above, ch.above)))) in
      let part = subst (λ o. (h : Gives p env (choose o a b) v) → CallOwed p w (p.callee k) ws (owed p w s h) (owed p w r h)) e (λ h. owed_call p w s r g tail ch.low ch.high q h ch.fits m) d' in
      call_more p w (p.callee k) ws (owed p w s d') (owed p w r d') _ _ (omega (arith, rest)) part
  owed_call p w s r g tail lo hi (a_bind {b = b} {k = k} {ws = ws} q) (gives_let ds' d') (i, x, y) m =
      let pl = place_in p s g lo i x q in
      let rest = owed_alike p w s r g tail i hi d' y (marked_alike s r k i hi m (inl pl.below)) in
      call_more p w (p.callee k) ws (owed_all p w s ds') (owed_all p w r ds') _ _ (omega (arith, rest)) (owed_in p w s r g lo i q ds' x m)
  owed_call p w s r g tail lo hi {v = v} (a_body {env = env} {b = b} {us = us} {ws = ws} {k = k} ds q) (gives_let ds' d') (i, x, y) m =
      let e = (one_list p (costs p ds') (done_all_gives p s ds) ds' refl).0 in
      let pl = place p s g tail i hi y q in
      let rest = owed_all_alike p w s r g lo i ds' x (marked_alike s r k lo i m (inr pl.above)) in
      let part = subst (λ o. (h : Gives p (env ++ o) b v) → CallOwed p w (p.callee k) ws (owed p w s h) (owed p w r h)) e (λ h. owed_call p w s r g tail i hi q h y m) d' in
      call_more p w (p.callee k) ws (owed p w s d') (owed p w r d') _ _ (omega (arith, rest)) part

  pub owed_in : (p : Program) (w : Weights) (s r : ℕ → Stage) (g lo hi : ℕ) {env : List Word} {ts : Terms} {k : ℕ} {ws : List Word} {vs : List Word} →
      AsksIn p s env ts k ws → (d : GivesAll p env ts vs) → SpansAll p g lo hi ts → Marked s r k → CallOwed p w (p.callee k) ws (owed_all p w s d) (owed_all p w r d)
  owed_in p w s r g lo hi (a_head {ts = ts} {k = k} {ws = ws} q) (gives_cons d ds) (i, x, y) m =
      let pl = place p s g false lo i x q in
      let rest = owed_all_alike p w s r g i hi ds y (marked_alike s r k i hi m (inl pl.below)) in
      call_more p w (p.callee k) ws (owed p w s d) (owed p w r d) _ _ (omega (arith, rest)) (owed_call p w s r g false lo i q d x m)
  owed_in p w s r g lo hi (a_tail {t = t} {k = k} {ws = ws} q) (gives_cons d ds) (i, x, y) m =
      let pl = place_in p s g i hi y q in
      let rest = owed_alike p w s r g false lo i d x (marked_alike s r k lo i m (inr pl.above)) in
      call_more p w (p.callee k) ws (owed_all p w s ds) (owed_all p w r ds) _ _ (omega (arith, rest)) (owed_in p w s r g i hi q ds y m)
