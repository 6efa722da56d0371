-- A body that is not ready and asks for no unsent site is ready no later if its path begins a cycle later.
use Rattle.safl_calls.proofs.Common.{Primitive, Program, Spans, SpansAll, Term, Terms, Word, choose, eq-eqb, false≢true, fits_all_le}
use Rattle.safl_calls.proofs.Common.{fits_choose, fits_le, ne_eqb, one_list, one_value, pick, place_in, span}
use Rattle.std.proofs.Common.{◌≡◌, ℕ, zero, suc, ◌+◌, ◌<◌, ◌≤◌, List, ◌++◌, Option, Some, None, Bool, true, false, cond, is_some, refl, sym, ap, ◌∙◌, subst, arith}
use Rattle.safl_calls.proofs.Bodies.{or_first, or_second}
use Rattle.safl_calls.proofs.Ready.{by_stage, ready, ready_all, ready_from, ready_all_from, ready_later, done_ready, done_all_ready}
use Rattle.safl_term.proofs.Bridge.{back_of, Held, HeldIn, part_cond, part_branch, part_bind, part_body, part_head, part_tail, part_op, part_loop, part_arg, part_here}
use Rattle.safl_term.proofs.Shows.{Done, d_const, d_var, d_op, d_if, d_let, d_call, DoneAll, d_nil, d_cons, Tail, t_loop, t_if, t_let, Asks, a_here}
use Rattle.safl_term.proofs.Shows.{a_arg, a_loop, a_op, a_cond, a_branch, a_bind, a_body, AsksIn, a_head, a_tail, done_all_gives}
use Rattle.safl_term.specs.Readiness.{Stage, Unsent, Sent, Returned, back_word, Answer, Ready, LoopTo, NotYet, answer, answers, wanted, wanted_in}
use Rattle.safl_term.specs.Readiness.{both, select, apply_to, loop_to, with_all, ready_from as ready_word}
use Rattle.safl_term.specs.Meaning.{Gives, gives_const, gives_var, gives_op, gives_if, gives_let, gives_call, gives_loop, GivesAll, gives_nil, gives_cons, cost, costs}

-- a branch that is selected says what the selected branch says
pick_says : (b : Term → Answer) (n : ℕ) (x y : Term) → pick n (b x) (b y) ≡ b (pick n x y)
pick_says b zero x y = refl
pick_says b (suc zero) x y = refl
pick_says b (suc (suc n)) x y = refl

pick_wants : (b : Term → Option (List Word)) (n : ℕ) (x y : Term) → is_some (pick n (b x) (b y)) ≡ is_some (b (pick n x y))
pick_wants b zero x y = refl
pick_wants b (suc zero) x y = refl
pick_wants b (suc (suc n)) x y = refl

-- a term that is ready says so
mutual
  unfolding answer

  pub done_answers : (p : Program) (s : ℕ → Stage) {env : List Word} {t : Term} {v : Word} → Done p s env t v → answer (back_of s) env t ≡ Ready v
  done_answers p s d_const = refl
  done_answers p s d_var = refl
  done_answers p s (d_op {o = o} ds) = ap (apply_to o) (done_all_answers p s ds)
  done_answers p s (d_if {env = env} {a = a} {b = b} {u = u} c d) =
      ap (λ x. select x NotYet (answer (back_of s) env a) (answer (back_of s) env b)) (done_answers p s c) ∙ pick_says (answer (back_of s) env) u.bits a b ∙ done_answers p s d
  done_answers p s (d_let {env = env} {b = b} ds d) =
      ap (λ o. with_all o NotYet (λ vs. answer (back_of s) (env ++ vs) b)) (done_all_answers p s ds) ∙ done_answers p s d
  done_answers p s (d_call ds e g) = ap (λ y. ready_word (back_word y)) e

  pub done_all_answers : (p : Program) (s : ℕ → Stage) {env : List Word} {ts : Terms} {vs : List Word} → DoneAll p s env ts vs → answers (back_of s) env ts ≡ Some vs
  done_all_answers p s d_nil = refl
  done_all_answers p s (d_cons {env = env} {ts = ts} {v = v} d ds) = ap (λ a. both a (answers (back_of s) env ts)) (done_answers p s d) ∙ ap (both (Ready v)) (done_all_answers p s ds)

pub tail_answers : (p : Program) (s : ℕ → Stage) {env : List Word} {t : Term} {h : ℕ} {ws : List Word} → Tail p s env t h ws → answer (back_of s) env t ≡ LoopTo h ws
unfolding answer
tail_answers p s (t_loop {h = h} ds) = ap (loop_to h) (done_all_answers p s ds)
tail_answers p s (t_if {env = env} {a = a} {b = b} {u = u} c d) =
    ap (λ x. select x NotYet (answer (back_of s) env a) (answer (back_of s) env b)) (done_answers p s c) ∙ pick_says (answer (back_of s) env) u.bits a b ∙ tail_answers p s d
tail_answers p s (t_let {env = env} {b = b} ds d) =
    ap (λ o. with_all o NotYet (λ vs. answer (back_of s) (env ++ vs) b)) (done_all_answers p s ds) ∙ tail_answers p s d

-- a call that is asked for is wanted
mutual
  unfolding wanted

  pub asks_wanted : (p : Program) (s : ℕ → Stage) (g : ℕ) (tail : Bool) (lo hi : ℕ) {env : List Word} {t : Term} {k : ℕ} {ws : List Word} → Spans p g tail lo hi t
      → Asks p s env t k ws → is_some (wanted (back_of s) env t k) ≡ true
  asks_wanted p s g tail lo hi (e, e1, e2, lt, x) (a_here {env = env} {k = k} {ts = ts} ds) =
      ap (λ b. is_some (cond b (answers (back_of s) env ts) (wanted_in (back_of s) env ts k))) (eq-eqb k k refl) ∙ ap is_some (done_all_answers p s ds)
  asks_wanted p s g tail lo hi (e, e1, e2, lt, x) (a_arg {env = env} {j = j} {k = k} {ts = ts} a) =
      let pl = place_in p s g (suc lo) hi x a in
      ap (λ b. is_some (cond b (answers (back_of s) env ts) (wanted_in (back_of s) env ts k))) (ne_eqb j k (λ z. omega (arith, pl.above, e, z))) ∙ asks_wanted_in p s g (suc lo) hi x a
  asks_wanted p s g tail lo hi (e, e1, x) (a_loop a) = asks_wanted_in p s g lo hi x a
  asks_wanted p s g tail lo hi x (a_op a) = asks_wanted_in p s g lo hi x a
  asks_wanted p s g tail lo hi (m, n, x, y, z) (a_cond {env = env} {c = c} {k = k} a) = or_first (wanted (back_of s) env c k) _ (asks_wanted p s g false lo m x a)
  asks_wanted p s g tail lo hi (m, n, x, y, z) (a_branch {env = env} {c = c} {a = a} {b = b} {u = u} {k = k} d q) =
      let ch = fits_choose p g tail m n hi a b u y z in
      or_second (wanted (back_of s) env c k) _
      (ap (λ i. is_some (select i None (wanted (back_of s) env a k) (wanted (back_of s) env b k))) (done_answers p s d)
      ∙ pick_wants (λ t. wanted (back_of s) env t k) u.bits a b ∙ asks_wanted p s g tail ch.low ch.high ch.fits q)
  asks_wanted p s g tail lo hi (m, x, y) (a_bind {env = env} {ts = ts} {k = k} a) = or_first (wanted_in (back_of s) env ts k) _ (asks_wanted_in p s g lo m x a)
  asks_wanted p s g tail lo hi (m, x, y) (a_body {env = env} {ts = ts} {b = b} {k = k} ds a) =
      or_second (wanted_in (back_of s) env ts k) _
      (ap (λ o. is_some (with_all o None (λ vs. wanted (back_of s) (env ++ vs) b k))) (done_all_answers p s ds) ∙ asks_wanted p s g tail m hi y a)

  asks_wanted_in : (p : Program) (s : ℕ → Stage) (g lo hi : ℕ) {env : List Word} {ts : Terms} {k : ℕ} {ws : List Word} → SpansAll p g lo hi ts
      → AsksIn p s env ts k ws → is_some (wanted_in (back_of s) env ts k) ≡ true
  asks_wanted_in p s g lo hi (m, x, y) (a_head {env = env} {t = t} {k = k} a) = or_first (wanted (back_of s) env t k) _ (asks_wanted p s g false lo m x a)
  asks_wanted_in p s g lo hi (m, x, y) (a_tail {env = env} {t = t} {k = k} a) = or_second (wanted (back_of s) env t k) _ (asks_wanted_in p s g m hi y a)

-- no unsent site of the interval is asked for
abbrev pub NoneAsked : Program → (ℕ → Stage) → List Word → Term → Type 0
NoneAsked p s env t = (k : ℕ) (ws : List Word) → Asks p s env t k ws → s k ≡ Unsent → ⊥

abbrev pub NoneAskedIn : Program → (ℕ → Stage) → List Word → Terms → Type 0
NoneAskedIn p s env ts = (k : ℕ) (ws : List Word) → AsksIn p s env ts k ws → s k ≡ Unsent → ⊥

-- the term is ready, or comes to a loop, or is ready no later if its path begins a cycle later
pub data Standing (p : Program) (due : ℕ → ℕ) (s : ℕ → Stage) (now : ℕ) (tail : Bool) {env : List Word} {t : Term} {v : Word} (d : Gives p env t v) : Type 0 where
  is_done : Done p s env t v → Standing p due s now tail d
  is_tail : {h : ℕ} {ws : List Word} → tail ≡ true → Tail p s env t h ws → Standing p due s now tail d
  is_stuck : ready p due s (suc now) d ≤ ready p due s now d → Standing p due s now tail d

pub data StandingIn (p : Program) (due : ℕ → ℕ) (s : ℕ → Stage) (now : ℕ) {env : List Word} {ts : Terms} {vs : List Word} (d : GivesAll p env ts vs) : Type 0 where
  are_done : DoneAll p s env ts vs → StandingIn p due s now d
  are_stuck : ready_all p due s (suc now) d ≤ ready_all p due s now d → StandingIn p due s now d

-- a site in flight is due later
abbrev pub Late : (ℕ → ℕ) → (ℕ → Stage) → ℕ → Type 0
Late due s now = (k : ℕ) → s k ≡ Sent → now < due k

module _ (p : Program) (due : ℕ → ℕ) (s : ℕ → Stage) (now : ℕ) (late : Late due s now) (g : ℕ) where
  if_standing : (tail : Bool) {env : List Word} {c a b : Term} {u v : Word} (q : Gives p env c u) (d : Gives p env (choose u a b) v) → Standing p due s now false q
      → (Done p s env c u → Standing p due s now tail d) → Standing p due s now tail (gives_if q d)
  if_standing tail q d (is_done x) h = by (h x)
    where
      by : Standing p due s now tail d → Standing p due s now tail (gives_if q d)
      by (is_done y) = is_done (d_if x y)
      by (is_tail e y) = is_tail e (t_if x y)
      by (is_stuck y) =
          let one = ap (λ i. ready p due s i d) (done_ready p due s now x q) in
          let two = ap (λ i. ready p due s i d) (done_ready p due s (suc now) x q) in
          is_stuck (omega (arith, one, two, y))
  if_standing tail q d (is_tail e x) h = absurd (false≢true e)
  if_standing tail q d (is_stuck x) h = is_stuck (ready_later p due s _ _ x d)

  let_standing : (tail : Bool) {env : List Word} {ts : Terms} {b : Term} {us : List Word} {v : Word} (ds : GivesAll p env ts us) (d : Gives p (env ++ us) b v) → StandingIn p due s now ds
      → (DoneAll p s env ts us → Standing p due s now tail d) → Standing p due s now tail (gives_let ds d)
  let_standing tail ds d (are_done x) h = by (h x)
    where
      by : Standing p due s now tail d → Standing p due s now tail (gives_let ds d)
      by (is_done y) = is_done (d_let x y)
      by (is_tail e y) = is_tail e (t_let x y)
      by (is_stuck y) =
          let one = ap (λ i. ready p due s i d) (done_all_ready p due s now x ds) in
          let two = ap (λ i. ready p due s i d) (done_all_ready p due s (suc now) x ds) in
          is_stuck (omega (arith, one, two, y))
  let_standing tail ds d (are_stuck x) h = is_stuck (ready_later p due s _ _ x d)

  op_standing : (tail : Bool) {env : List Word} {o : Primitive} {ts : Terms} {vs : List Word} (ds : GivesAll p env ts vs) → StandingIn p due s now ds → Standing p due s now tail (gives_op {o = o} ds)
  op_standing tail ds (are_done x) = is_done (d_op x)
  op_standing tail ds (are_stuck x) = is_stuck x

  loop_standing : (tail : Bool) {env : List Word} {h : ℕ} {ts : Terms} {us : List Word} {v : Word} (ds : GivesAll p env ts us) (d : Gives p us (p.body h) v) → tail ≡ true
      → StandingIn p due s now ds → Standing p due s now tail (gives_loop ds d)
  loop_standing tail ds d e (are_done x) = is_tail e (t_loop x)
  loop_standing tail ds d e (are_stuck x) = is_stuck (omega (arith, x))

  call_standing : (tail : Bool) {env : List Word} {f k : ℕ} {ts : Terms} {us : List Word} {v : Word} (ds : GivesAll p env ts us) (d : Gives p us (p.body f) v) (x : Stage) → s k ≡ x
      → ((w : Word) → s k ≡ Returned w → DoneAll p s env ts us × (w ≡ v)) → (DoneAll p s env ts us → s k ≡ Unsent → ⊥) → StandingIn p due s now ds → Standing p due s now tail (gives_call {k = k} ds d)
  call_standing tail {k = k} ds d Unsent e held none (are_done x) = absurd (none x e)
  call_standing tail {k = k} ds d Unsent e held none (are_stuck x) =
      let one = ap (λ y. by_stage y (ready_all p due s now ds + (2 + span p d)) (due k) now) e in
      let two = ap (λ y. by_stage y (ready_all p due s (suc now) ds + (2 + span p d)) (due k) (suc now)) e in
      is_stuck (omega (arith, one, two, x))
  call_standing tail {k = k} ds d Sent e held none h =
      let one = ap (λ y. by_stage y (ready_all p due s now ds + (2 + span p d)) (due k) now) e in
      let two = ap (λ y. by_stage y (ready_all p due s (suc now) ds + (2 + span p d)) (due k) (suc now)) e in
      let l = late k e in
      is_stuck (omega (arith, one, two, l))
  call_standing tail {us = us} {v = v} ds d (Returned w) e held none h =
      let r = held w e in
      is_done (d_call r.0 (e ∙ ap Returned r.1) d)

  cons_standing : {env : List Word} {t : Term} {ts : Terms} {v : Word} {vs : List Word} (d : Gives p env t v) (ds : GivesAll p env ts vs) → Standing p due s now false d → StandingIn p due s now ds
      → StandingIn p due s now (gives_cons d ds)
  cons_standing d ds (is_done x) (are_done y) = are_done (d_cons x y)
  cons_standing d ds (is_done x) (are_stuck y) =
      let one = done_ready p due s (suc now) x d in
      let from = ready_all_from p due s (suc now) ds in
      are_stuck (omega (arith, one, from, y))
  cons_standing d ds (is_tail e x) h = absurd (false≢true e)
  cons_standing d ds (is_stuck x) (are_done y) =
      let one = done_all_ready p due s (suc now) y ds in
      let from = ready_from p due s (suc now) d in
      are_stuck (omega (arith, one, from, x))
  cons_standing d ds (is_stuck x) (are_stuck y) = are_stuck (omega (arith, x, y))

  mutual
    pub standing : (tail : Bool) (lo hi : ℕ) {env : List Word} {t : Term} {v : Word} (d : Gives p env t v) → Spans p g tail lo hi t → Held p s env lo hi t → NoneAsked p s env t
        → Standing p due s now tail d
    standing tail lo hi gives_const h held none = is_done d_const
    standing tail lo hi gives_var h held none = is_done d_var
    standing tail lo hi {env = env} (gives_op {o = o} {ts = ts} ds) h held none =
        op_standing tail ds (standing_in lo hi ds h (λ k w i j e. let r = held k w i j e in (r.0, part_op p s g env o ts k r.0 r.1, r.2)) (λ k ws q un. none k ws (a_op q) un))
    standing tail lo hi {env = env} (gives_if {c = c} {a = a} {b = b} {u = u} q d) (m, n, x, y, z) held none =
        let ch = fits_choose p g tail m n hi a b u y z in
        let xm = fits_le p g false lo m c x in
        let ym = fits_le p g tail m n a y in
        let zm = fits_le p g tail n hi b z in
        if_standing tail q d
        (standing false lo m q x (λ k w i j e. let r = held k w i (omega arith) e in (r.0, part_cond p s g env tail m n hi c a b k r.0 y z j r.1, r.2)) (λ k ws o un. none k ws (a_cond o) un))
        (λ done. standing tail ch.low ch.high d ch.fits
        (λ k w i j e. let r = held k w (omega (arith, i, ch.above)) (omega (arith, j, ch.below)) e in (r.0, part_branch p s g env lo m c a b u k r.0 x done (omega (arith, i, ch.above)) r.1, r.2))
        (λ k ws o un. none k ws (a_branch done o) un))
    standing tail lo hi {env = env} (gives_let {ts = ts} {b = b} {us = us} ds d) (m, x, y) held none =
        let xm = fits_all_le p g lo m ts x in
        let ym = fits_le p g tail m hi b y in
        let_standing tail ds d
        (standing_in lo m ds x (λ k w i j e. let r = held k w i (omega arith) e in (r.0, part_bind p s g env tail m hi ts b k r.0 y j r.1, r.2)) (λ k ws o un. none k ws (a_bind o) un))
        (λ done. standing tail m hi d y
        (λ k w i j e. let r = held k w (omega arith) j e in (r.0, part_body p s g env lo m ts b us k r.0 x done i r.1, r.2))
        (λ k ws o un. none k ws (a_body done o) un))
    standing tail lo hi {env = env} (gives_call {f = f} {k = k} {ts = ts} {us = us} {v = v} ds d) (e, e1, e2, lt, x) held none =
        let hm = fits_all_le p g (suc lo) hi ts x in
        call_standing tail ds d (s k) refl
        (λ w q.
        let r = held k w (omega arith) (omega arith) q in
        let all = part_here p s g env hi f k k ts r.0 refl (subst (λ n. SpansAll p g (suc n) hi ts) (sym e) x) r.1 in
        let same = (one_list p (costs p ds) (done_all_gives p s all) ds refl).0 in
        let gives = subst (λ n. Gives p r.0 (p.body n) w) e1 r.2 in
        let gives' = subst (λ ws. Gives p ws (p.body f) w) same gives in
        (subst (λ ws. DoneAll p s env ts ws) same all, (one_value p (cost p d) gives' d refl).0))
        (λ done un. none k us (a_here done) un)
        (standing_in (suc lo) hi ds x (λ j w i l q. let r = held j w (omega arith) l q in (r.0, part_arg p s g env f k ts j r.0 (omega arith) r.1, r.2)) (λ j ws o un. none j ws (a_arg o) un))
    standing tail lo hi {env = env} (gives_loop {h = h} {ts = ts} ds d) (e, e1, x) held none =
        loop_standing tail ds d e (standing_in lo hi ds x (λ k w i j q. let r = held k w i j q in (r.0, part_loop p s g env h ts k r.0 r.1, r.2)) (λ k ws o un. none k ws (a_loop o) un))

    standing_in : (lo hi : ℕ) {env : List Word} {ts : Terms} {vs : List Word} (d : GivesAll p env ts vs) → SpansAll p g lo hi ts → HeldIn p s env lo hi ts → NoneAskedIn p s env ts
        → StandingIn p due s now d
    standing_in lo hi gives_nil h held none = are_done d_nil
    standing_in lo hi {env = env} (gives_cons {t = t} {ts = ts} d ds) (m, x, y) held none =
        let xm = fits_le p g false lo m t x in
        let ym = fits_all_le p g m hi ts y in
        cons_standing d ds
        (standing false lo m d x (λ k w i j e. let r = held k w i (omega arith) e in (r.0, part_head p s g env m hi t ts k r.0 y j r.1, r.2)) (λ k ws o un. none k ws (a_head o) un))
        (standing_in m hi ds y (λ k w i j e. let r = held k w (omega arith) j e in (r.0, part_tail p s g env lo m t ts k r.0 x i r.1, r.2)) (λ k ws o un. none k ws (a_tail o) un))
