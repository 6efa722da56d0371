-- When a running body is ready, by an evaluation of it.
use Rattle.safl_calls.proofs.Common.{Program, Returned, Sent, Spans, SpansAll, Stage, Term, Terms, Unsent, Word, cases_order, choose}
use Rattle.safl_calls.proofs.Common.{fits_all_le, fits_choose, fits_le, one_list, one_value, place, place_in, span, spans}
use Rattle.std.proofs.Common.{◌≡◌, ℕ, suc, ◌+◌, ◌<◌, ◌≤◌, max, List, ◌++◌, Bool, false, refl, sym, ap, ◌∙◌, subst, arith, inl, inr, ◌⊎◌, ⊎_elim}
use Rattle.std.specs.Prelude.{◌≢◌}
use Rattle.safl_calls.proofs.Activities.{fresh}
use Rattle.safl_calls.proofs.Owed.{Marked}
use Rattle.safl_term.proofs.Shows.{Done, d_const, d_var, d_op, d_if, d_let, d_call, DoneAll, d_nil, d_cons, Tail, t_loop, t_if, t_let, Asks, a_here}
use Rattle.safl_term.proofs.Shows.{a_arg, a_loop, a_op, a_cond, a_branch, a_bind, a_body, AsksIn, a_head, a_tail, done_gives, done_all_gives}
use Rattle.safl_term.specs.Meaning.{Gives, gives_const, gives_var, gives_op, gives_if, gives_let, gives_call, gives_loop, GivesAll, gives_nil, gives_cons, cost, costs}

-- when a call is ready whose path begins now: if it is unsent, later; if it is in flight, when it is due; if it has returned, now
abbrev pub by_stage : Stage → ℕ → ℕ → ℕ → ℕ
by_stage Unsent later due now = later
by_stage Sent later due now = max now due
by_stage (Returned v) later due now = now

abbrev mutual
  -- when the term is ready whose path begins now. The sites are at these stages, and those in flight are due then.
  pub ready : (p : Program) (due : ℕ → ℕ) (s : ℕ → Stage) (now : ℕ) {env : List Word} {t : Term} {v : Word} → Gives p env t v → ℕ
  ready p due s now gives_const = now
  ready p due s now gives_var = now
  ready p due s now (gives_op ds) = ready_all p due s now ds
  ready p due s now (gives_if c d) = ready p due s (ready p due s now c) d
  ready p due s now (gives_let ds d) = ready p due s (ready_all p due s now ds) d
  ready p due s now (gives_call {k = k} ds d) = by_stage (s k) (ready_all p due s now ds + (2 + span p d)) (due k) now
  ready p due s now (gives_loop ds d) = ready_all p due s now ds + (1 + span p d)

  pub ready_all : (p : Program) (due : ℕ → ℕ) (s : ℕ → Stage) (now : ℕ) {env : List Word} {ts : Terms} {vs : List Word} → GivesAll p env ts vs → ℕ
  ready_all p due s now gives_nil = now
  ready_all p due s now (gives_cons d ds) = max (ready p due s now d) (ready_all p due s now ds)

stage_from : (x : Stage) (later due now : ℕ) → now ≤ later → now ≤ by_stage x later due now
stage_from Unsent later due now le = le
stage_from Sent later due now le = omega arith
stage_from (Returned v) later due now le = omega arith

stage_later : (x : Stage) (l l' due now now' : ℕ) → l ≤ l' → now ≤ now' → by_stage x l due now ≤ by_stage x l' due now'
stage_later Unsent l l' due now now' le lt = le
stage_later Sent l l' due now now' le lt = omega arith
stage_later (Returned v) l l' due now now' le lt = lt

-- nothing is ready before its path begins
mutual
  pub ready_from : (p : Program) (due : ℕ → ℕ) (s : ℕ → Stage) (now : ℕ) {env : List Word} {t : Term} {v : Word} (d : Gives p env t v) → now ≤ ready p due s now d
  ready_from p due s now gives_const = omega arith
  ready_from p due s now gives_var = omega arith
  ready_from p due s now (gives_op ds) = ready_all_from p due s now ds
  ready_from p due s now (gives_if c d) = omega (arith, ready_from p due s now c, ready_from p due s (ready p due s now c) d)
  ready_from p due s now (gives_let ds d) = omega (arith, ready_all_from p due s now ds, ready_from p due s (ready_all p due s now ds) d)
  ready_from p due s now (gives_call {k = k} ds d) =
      stage_from (s k) (ready_all p due s now ds + (2 + span p d)) (due k) now (omega (arith, ready_all_from p due s now ds))
  ready_from p due s now (gives_loop ds d) = omega (arith, ready_all_from p due s now ds)

  pub ready_all_from : (p : Program) (due : ℕ → ℕ) (s : ℕ → Stage) (now : ℕ) {env : List Word} {ts : Terms} {vs : List Word} (d : GivesAll p env ts vs) → now ≤ ready_all p due s now d
  ready_all_from p due s now gives_nil = omega arith
  ready_all_from p due s now (gives_cons d ds) = omega (arith, ready_all_from p due s now ds)

-- what begins later is not ready sooner
mutual
  pub ready_later : (p : Program) (due : ℕ → ℕ) (s : ℕ → Stage) (now now' : ℕ) → now ≤ now' → {env : List Word} {t : Term} {v : Word}
      (d : Gives p env t v) → ready p due s now d ≤ ready p due s now' d
  ready_later p due s now now' le gives_const = le
  ready_later p due s now now' le gives_var = le
  ready_later p due s now now' le (gives_op ds) = ready_all_later p due s now now' le ds
  ready_later p due s now now' le (gives_if c d) = ready_later p due s _ _ (ready_later p due s now now' le c) d
  ready_later p due s now now' le (gives_let ds d) = ready_later p due s _ _ (ready_all_later p due s now now' le ds) d
  ready_later p due s now now' le (gives_call {k = k} ds d) = let h = ready_all_later p due s now now' le ds in
      stage_later (s k) (ready_all p due s now ds + (2 + span p d)) (ready_all p due s now' ds + (2 + span p d)) (due k) now now' (omega (arith, h)) le
  ready_later p due s now now' le (gives_loop ds d) = omega (arith, ready_all_later p due s now now' le ds)

  pub ready_all_later : (p : Program) (due : ℕ → ℕ) (s : ℕ → Stage) (now now' : ℕ) → now ≤ now' → {env : List Word} {ts : Terms} {vs : List Word}
      (d : GivesAll p env ts vs) → ready_all p due s now d ≤ ready_all p due s now' d
  ready_all_later p due s now now' le gives_nil = le
  ready_all_later p due s now now' le (gives_cons d ds) = omega (arith, ready_later p due s now now' le d, ready_all_later p due s now now' le ds)

-- a body of which no site was sent takes its span
mutual
  pub ready_fresh : (p : Program) (due : ℕ → ℕ) (now : ℕ) {env : List Word} {t : Term} {v : Word} (d : Gives p env t v) → ready p due fresh now d ≡ now + span p d
  ready_fresh p due now gives_const = omega arith
  ready_fresh p due now gives_var = omega arith
  ready_fresh p due now (gives_op ds) = ready_all_fresh p due now ds
  ready_fresh p due now (gives_if c d) = omega (arith, ready_fresh p due now c, ready_fresh p due (ready p due fresh now c) d)
  ready_fresh p due now (gives_let ds d) = omega (arith, ready_all_fresh p due now ds, ready_fresh p due (ready_all p due fresh now ds) d)
  ready_fresh p due now (gives_call ds d) = omega (arith, ready_all_fresh p due now ds)
  ready_fresh p due now (gives_loop ds d) = omega (arith, ready_all_fresh p due now ds)

  pub ready_all_fresh : (p : Program) (due : ℕ → ℕ) (now : ℕ) {env : List Word} {ts : Terms} {vs : List Word} (d : GivesAll p env ts vs) → ready_all p due fresh now d ≡ now + spans p d
  ready_all_fresh p due now gives_nil = omega arith
  ready_all_fresh p due now (gives_cons d ds) = omega (arith, ready_fresh p due now d, ready_all_fresh p due now ds)

-- from a cycle on, the sites of the interval are ready alike
abbrev pub AlikeFrom : ℕ → (ℕ → ℕ) → (ℕ → Stage) → (ℕ → ℕ) → (ℕ → Stage) → ℕ → ℕ → Type 0
AlikeFrom first due s due' r lo hi =
    (k : ℕ) → lo ≤ k → k < hi → (later now : ℕ) → first ≤ now → by_stage (s k) later (due k) now ≡ by_stage (r k) later (due' k) now

mutual
  pub ready_alike : (p : Program) (first : ℕ) (due : ℕ → ℕ) (s : ℕ → Stage) (due' : ℕ → ℕ) (r : ℕ → Stage) (now : ℕ) (g : ℕ) (tail : Bool) (lo hi : ℕ)
      {env : List Word} {t : Term} {v : Word} (d : Gives p env t v) → Spans p g tail lo hi t → AlikeFrom first due s due' r lo hi → first ≤ now
      → ready p due s now d ≡ ready p due' r now d
  ready_alike p first due s due' r now g tail lo hi gives_const x h le = refl
  ready_alike p first due s due' r now g tail lo hi gives_var x h le = refl
  ready_alike p first due s due' r now g tail lo hi (gives_op ds) x h le = ready_all_alike p first due s due' r now g lo hi ds x h le
  ready_alike p first due s due' r now g tail lo hi (gives_if {c = c} {a = a} {b = b} {u = u} q d) (m, n, x, y, z) h le =
      let ch = fits_choose p g tail m n hi a b u y z in
      let xm = fits_le p g false lo m c x in
      let ym = fits_le p g tail m n a y in
      let zm = fits_le p g tail n hi b z in
      let one = ready_alike p first due s due' r now g false lo m q x (λ k i j. h k i (omega arith)) le in
      let from = ready_from p due s now q in
      let two = ready_alike p first due s due' r (ready p due s now q) g tail ch.low ch.high d ch.fits (λ k i j. h k (omega (arith, ch.above)) (omega (arith, ch.below))) (omega (arith, from, le)) in
      two ∙ ap (λ i. ready p due' r i d) one
  ready_alike p first due s due' r now g tail lo hi (gives_let {ts = ts} {b = b} ds d) (m, x, y) h le =
      let xm = fits_all_le p g lo m ts x in
      let ym = fits_le p g tail m hi b y in
      let one = ready_all_alike p first due s due' r now g lo m ds x (λ k i j. h k i (omega arith)) le in
      let from = ready_all_from p due s now ds in
      let two = ready_alike p first due s due' r (ready_all p due s now ds) g tail m hi d y (λ k i j. h k (omega arith) j) (omega (arith, from, le)) in
      two ∙ ap (λ i. ready p due' r i d) one
  ready_alike p first due s due' r now g tail lo hi (gives_call {f = f} {k = k} {ts = ts} {us = us} ds d) (e, e1, e2, lt, x) h le =
      let xm = fits_all_le p g (suc lo) hi ts x in
      let one = ready_all_alike p first due s due' r now g (suc lo) hi ds x (λ j i l. h j (omega arith) l) le in
      h k (omega arith) (omega arith) (ready_all p due s now ds + (2 + span p d)) now le ∙ ap (λ i. by_stage (r k) (i + (2 + span p d)) (due' k) now) one
  ready_alike p first due s due' r now g tail lo hi (gives_loop ds d) (e, e1, x) h le =
      let one = ready_all_alike p first due s due' r now g lo hi ds x h le in
      omega (arith, one)

  pub ready_all_alike : (p : Program) (first : ℕ) (due : ℕ → ℕ) (s : ℕ → Stage) (due' : ℕ → ℕ) (r : ℕ → Stage) (now : ℕ) (g lo hi : ℕ) {env : List Word} {ts : Terms} {vs : List Word}
      (d : GivesAll p env ts vs) → SpansAll p g lo hi ts → AlikeFrom first due s due' r lo hi → first ≤ now → ready_all p due s now d ≡ ready_all p due' r now d
  ready_all_alike p first due s due' r now g lo hi gives_nil x h le = refl
  ready_all_alike p first due s due' r now g lo hi (gives_cons {t = t} {ts = ts} d ds) (m, x, y) h le =
      let xm = fits_le p g false lo m t x in
      let ym = fits_all_le p g m hi ts y in
      let one = ready_alike p first due s due' r now g false lo m d x (λ k i j. h k i (omega arith)) le in
      let two = ready_all_alike p first due s due' r now g m hi ds y (λ k i j. h k (omega arith) j) le in
      omega (arith, one, two)

-- a term that is ready is ready now
mutual
  pub done_ready : (p : Program) (due : ℕ → ℕ) (s : ℕ → Stage) (now : ℕ) {env : List Word} {t : Term} {v x : Word} → Done p s env t v → (d : Gives p env t x) → ready p due s now d ≡ now
  done_ready p due s now d_const gives_const = refl
  done_ready p due s now d_var gives_var = refl
  done_ready p due s now (d_op ds) (gives_op es) = done_all_ready p due s now ds es
  done_ready p due s now {x = x} (d_if {env = env} {a = a} {b = b} {u = u} c d) (gives_if {u = u'} c' d') =
      let e = (one_value p (cost p c') (done_gives p s c) c' refl).0 in
      let q = subst (λ y. (k : Gives p env (choose y a b) x) → ready p due s now k ≡ now) e (λ k. done_ready p due s now d k) d' in
      ap (λ i. ready p due s i d') (done_ready p due s now c c') ∙ q
  done_ready p due s now {x = x} (d_let {env = env} {b = b} ds d) (gives_let ds' d') =
      let e = (one_list p (costs p ds') (done_all_gives p s ds) ds' refl).0 in
      let q = subst (λ y. (k : Gives p (env ++ y) b x) → ready p due s now k ≡ now) e (λ k. done_ready p due s now d k) d' in
      ap (λ i. ready p due s i d') (done_all_ready p due s now ds ds') ∙ q
  done_ready p due s now (d_call {k = k} ds e g) (gives_call {f = f} {us = us} ds' d') =
      ap (λ y. by_stage y (ready_all p due s now ds' + (2 + span p d')) (due k) now) e

  pub done_all_ready : (p : Program) (due : ℕ → ℕ) (s : ℕ → Stage) (now : ℕ) {env : List Word} {ts : Terms} {vs xs : List Word} → DoneAll p s env ts vs
      → (d : GivesAll p env ts xs) → ready_all p due s now d ≡ now
  done_all_ready p due s now d_nil gives_nil = refl
  done_all_ready p due s now (d_cons d ds) (gives_cons e es) = omega (arith, done_ready p due s now d e, done_all_ready p due s now ds es)

-- after a loop comes one more cycle, and the span of the next body
abbrev pub LoopReady : (p : Program) → ℕ → ℕ → List Word → Word → ℕ → Type 0
LoopReady p now h ws v n = (d : Gives p ws (p.body h) v) × (n ≡ now + (1 + span p d))

pub tail_ready : (p : Program) (due : ℕ → ℕ) (s : ℕ → Stage) (now : ℕ) {env : List Word} {t : Term} {h : ℕ} {ws : List Word} {v : Word} (n : ℕ) → Tail p s env t h ws
    → (d : Gives p env t v) → n ≡ ready p due s now d → LoopReady p now h ws v n
tail_ready p due s now {v = v} n (t_loop {h = h} ds) (gives_loop {us = us} ds' d') q =
    let e = (one_list p (costs p ds') (done_all_gives p s ds) ds' refl).0 in
    let z = done_all_ready p due s now ds ds' in
    let all : n ≡ now + (1 + span p d') = omega (arith, q, z) in
    subst (λ y. LoopReady p now h y v n) (sym e) (d', all)
tail_ready p due s now {h = h} {ws = ws} {v = v} n (t_if {env = env} {a = a} {b = b} c t) (gives_if c' d') q =
    let e = (one_value p (cost p c') (done_gives p s c) c' refl).0 in
    let z = done_ready p due s now c c' in
    subst (λ y. (k : Gives p env (choose y a b) v) → n ≡ ready p due s now k → LoopReady p now h ws v n) e (λ k i. tail_ready p due s now n t k i) d' (q ∙ ap (λ i. ready p due s i d') z)
tail_ready p due s now {h = h} {ws = ws} {v = v} n (t_let {env = env} {b = b} ds t) (gives_let ds' d') q =
    let e = (one_list p (costs p ds') (done_all_gives p s ds) ds' refl).0 in
    let z = done_all_ready p due s now ds ds' in
    subst (λ y. (k : Gives p (env ++ y) b v) → n ≡ ready p due s now k → LoopReady p now h ws v n) e (λ k i. tail_ready p due s now n t k i) d' (q ∙ ap (λ i. ready p due s i d') z)

-- new dues for site k, which is due then, and the same for all others in flight
pub record Dues (due due' : ℕ → ℕ) (s : ℕ → Stage) (k then : ℕ) : Type 0 where
  pub at : due' k ≡ then
  pub others : (j : ℕ) → j ≢ k → s j ≡ Sent → due' j ≡ due j

-- the evaluation of the call that is sent now: with it the caller is ready as before
abbrev pub CallReady : (p : Program) → (ℕ → ℕ) → (ℕ → Stage) → ℕ → ℕ → ℕ → List Word → ((ℕ → ℕ) → ℕ) → ℕ → Type 0
CallReady p due s now k f ws new n = (v : Word) × (d : Gives p ws (p.body f) v) × ((due' : ℕ → ℕ) → Dues due due' s k (now + (2 + span p d)) → new due' ≡ n)

call_in : (p : Program) (due : ℕ → ℕ) (s : ℕ → Stage) (now k f : ℕ) (ws : List Word) (new new' : (ℕ → ℕ) → ℕ) (n n' : ℕ)
    → ((due' : ℕ → ℕ) (then : ℕ) → Dues due due' s k then → new due' ≡ n → new' due' ≡ n') → CallReady p due s now k f ws new n → CallReady p due s now k f ws new' n'
call_in p due s now k f ws new new' n n' h (v, d, q) = (v, d, λ due' m. h due' _ m (q due' m))

-- sites apart from k are ready alike
apart_alike : (due due' : ℕ → ℕ) (s r : ℕ → Stage) (k then first lo hi : ℕ) → Marked s r k → Dues due due' s k then → ((k < lo) ⊎ (hi ≤ k)) → AlikeFrom first due s due' r lo hi
apart_alike due due' s r k then first lo hi m q out j i l later now le =
    by (s j) refl ∙ ap (λ x. by_stage x later (due' j) now) (sym (m.others j apart))
  where
    apart : j ≢ k
    apart e = not_in out
      where
        not_in : (k < lo) ⊎ (hi ≤ k) → ⊥
        not_in (inl x) = omega (arith, x, e, i)
        not_in (inr x) = omega (arith, x, e, l)

    by : (x : Stage) → s j ≡ x → by_stage (s j) later (due j) now ≡ by_stage (s j) later (due' j) now
    by Unsent e = ap (λ y. by_stage y later (due j) now) e ∙ sym (ap (λ y. by_stage y later (due' j) now) e)
    by Sent e = ap (λ i. by_stage (s j) later i now) (sym (q.others j apart e))
    by (Returned v) e = ap (λ y. by_stage y later (due j) now) e ∙ sym (ap (λ y. by_stage y later (due' j) now) e)

stage_alike : (s r : ℕ → Stage) (due due' : ℕ → ℕ) (k j then : ℕ) → Marked s r k → Dues due due' s k then → j ≢ k → (a b now : ℕ) → a ≡ b
    → by_stage (r j) a (due' j) now ≡ by_stage (s j) b (due j) now
stage_alike s r due due' k j then m q apart a b now e =
    ap (λ i. by_stage (r j) i (due' j) now) e ∙ sym (apart_alike due due' s r k then now j (suc j) m q (by (lt_or k j apart)) j (omega arith) (omega arith) b now (omega arith))
  where
    by : (k < j) ⊎ (j < k) → (k < j) ⊎ (suc j ≤ k)
    by (inl x) = inl x
    by (inr x) = inr (omega (arith, x))

    lt_or : (k j : ℕ) → j ≢ k → (k < j) ⊎ (j < k)
    lt_or k j apart = ⊎_elim (λ e. absurd (apart (sym e))) (λ d. d) (cases_order k j)

mutual
  pub ready_call : (p : Program) (due : ℕ → ℕ) (s r : ℕ → Stage) (now : ℕ) (g : ℕ) (tail : Bool) (lo hi : ℕ) {env : List Word} {t : Term} {k : ℕ}
      {ws : List Word} {v : Word} → Asks p s env t k ws → (d : Gives p env t v) → Spans p g tail lo hi t → Marked s r k
      → CallReady p due s now k (p.callee k) ws (λ due'. ready p due' r now d) (ready p due s now d)
  ready_call p due s r now g tail lo hi (a_here {f = f} {k = k} {ts = ts} ds) (gives_call {us = us} {v = v} ds' d') (e, e1, e2, lt, x) m =
      let q = (one_list p (costs p ds') (done_all_gives p s ds) ds' refl).0 in
      let args = done_all_ready p due s now ds ds' in
      let before = ap (λ y. by_stage y (ready_all p due s now ds' + (2 + span p d')) (due k) now) m.was in
      let n = by_stage (s k) (ready_all p due s now ds' + (2 + span p d')) (due k) now in
      let new : (ℕ → ℕ) → ℕ = λ due'. by_stage (r k) (ready_all p due' r now ds' + (2 + span p d')) (due' k) now in
      let all : (due' : ℕ → ℕ) → Dues due due' s k (now + (2 + span p d')) → new due' ≡ n = λ due' z.
      let after = ap (λ y. by_stage y (ready_all p due' r now ds' + (2 + span p d')) (due' k) now) m.now in
      omega (arith, after, before, args, z.at) in
      subst (λ y. CallReady p due s now k (p.callee k) y new n) (sym q) (subst (λ y. CallReady p due s now k y us new n) (sym e1) (v, d', all))
  ready_call p due s r now g tail lo hi (a_arg {f = f} {j = j} {k = k} {ts = ts} {ws = ws} a) (gives_call {us = us} ds' d') (e, e1, e2, lt, x) m =
      let q = ready_call_in p due s r now g (suc lo) hi a ds' x m in
      let pl = place_in p s g (suc lo) hi x a in
      call_in p due s now k (p.callee k) ws (λ due'. ready_all p due' r now ds') _ (ready_all p due s now ds') _
      (λ due' then z i. stage_alike s r due due' k j then m z (λ l. omega (arith, pl.above)) _ _ now (ap (λ y. y + (2 + span p d')) i)) q
  ready_call p due s r now g tail lo hi (a_loop {k = k} {ws = ws} a) (gives_loop ds' d') (e, e1, x) m =
      call_in p due s now k (p.callee k) ws (λ due'. ready_all p due' r now ds') _ (ready_all p due s now ds') _
      (λ due' then z i. ap (λ y. y + (1 + span p d')) i) (ready_call_in p due s r now g lo hi a ds' x m)
  ready_call p due s r now g tail lo hi (a_op a) (gives_op ds') x m = ready_call_in p due s r now g lo hi a ds' x m
  ready_call p due s r now g tail lo hi (a_cond {a = a} {b = b} {k = k} {ws = ws} q) (gives_if {u = u} c' d') (i, n, x, y, z) m =
      let ch = fits_choose p g tail i n hi a b u y z in
      let pl = place p s g false lo i x q in
      call_in p due s now k (p.callee k) ws (λ due'. ready p due' r now c') _ (ready p due s now c') _
      (λ due' then l o.
      let from = ready_from p due s now c' in
      ap (λ j. ready p due' r j d') o
      ∙ sym (ready_alike p now due s due' r (ready p due s now c') g tail ch.low ch.high d' ch.fits
      (apart_alike due due' s r k then now ch.low ch.high m l (inl (omega (arith, pl.below, ch.above)))) from))
      (ready_call p due s r now g false lo i q c' x m)
  ready_call p due s r now g tail lo hi {v = v} (a_branch {env = env} {c = c} {a = a} {b = b} {u = u} {k = k} {ws = ws} d q) (gives_if {u = u'} c' d') (i, n, x, y, z) m =
      let e = (one_value p (cost p c') (done_gives p s d) c' refl).0 in
      let ch = fits_choose p g tail i n hi a b u y z in
      let pl = place p s g tail ch.low ch.high ch.fits q in
      let part = subst (λ o. (h : Gives p env (choose o a b) v) → CallReady p due s now k (p.callee k) ws (λ due'. ready p due' r now h) (ready p due s now h)) e
      (λ h. ready_call p due s r now g tail ch.low ch.high q h ch.fits m) d' in
      let at = done_ready p due s now d c' in
      call_in p due s now k (p.callee k) ws (λ due'. ready p due' r now d') _ (ready p due s now d') _
      (λ due' then l o.
      let same = ready_alike p now due s due' r now g false lo i c' x (apart_alike due due' s r k then now lo i m l (inr (omega (arith, pl.above, ch.above)))) (omega arith) in
      ap (λ j. ready p due' r j d') (sym same ∙ at) ∙ o ∙ sym (ap (λ j. ready p due s j d') at))
      part
  ready_call p due s r now g tail lo hi (a_bind {b = b} {k = k} {ws = ws} q) (gives_let ds' d') (i, x, y) m =
      let pl = place_in p s g lo i x q in
      call_in p due s now k (p.callee k) ws (λ due'. ready_all p due' r now ds') _ (ready_all p due s now ds') _
      (λ due' then l o.
      let from = ready_all_from p due s now ds' in
      ap (λ j. ready p due' r j d') o
      ∙ sym (ready_alike p now due s due' r (ready_all p due s now ds') g tail i hi d' y (apart_alike due due' s r k then now i hi m l (inl (omega (arith, pl.below)))) from))
      (ready_call_in p due s r now g lo i q ds' x m)
  ready_call p due s r now g tail lo hi {v = v} (a_body {env = env} {ts = ts} {b = b} {us = us} {ws = ws} {k = k} ds q) (gives_let ds' d') (i, x, y) m =
      let e = (one_list p (costs p ds') (done_all_gives p s ds) ds' refl).0 in
      let pl = place p s g tail i hi y q in
      let part = subst (λ o. (h : Gives p (env ++ o) b v) → CallReady p due s now k (p.callee k) ws (λ due'. ready p due' r now h) (ready p due s now h)) e
      (λ h. ready_call p due s r now g tail i hi q h y m) d' in
      let at = done_all_ready p due s now ds ds' in
      call_in p due s now k (p.callee k) ws (λ due'. ready p due' r now d') _ (ready p due s now d') _
      (λ due' then l o.
      let same = ready_all_alike p now due s due' r now g lo i ds' x (apart_alike due due' s r k then now lo i m l (inr (omega (arith, pl.above)))) (omega arith) in
      ap (λ j. ready p due' r j d') (sym same ∙ at) ∙ o ∙ sym (ap (λ j. ready p due s j d') at))
      part

  ready_call_in : (p : Program) (due : ℕ → ℕ) (s r : ℕ → Stage) (now : ℕ) (g lo hi : ℕ) {env : List Word} {ts : Terms} {k : ℕ}
      {ws : List Word} {vs : List Word} → AsksIn p s env ts k ws → (d : GivesAll p env ts vs) → SpansAll p g lo hi ts → Marked s r k
      → CallReady p due s now k (p.callee k) ws (λ due'. ready_all p due' r now d) (ready_all p due s now d)
  ready_call_in p due s r now g lo hi (a_head {k = k} {ws = ws} q) (gives_cons d ds) (i, x, y) m =
      let pl = place p s g false lo i x q in
      call_in p due s now k (p.callee k) ws (λ due'. ready p due' r now d) _ (ready p due s now d) _
      (λ due' then l o.
      let rest = ready_all_alike p now due s due' r now g i hi ds y (apart_alike due due' s r k then now i hi m l (inl (omega (arith, pl.below)))) (omega arith) in
      ap (λ j. max j (ready_all p due' r now ds)) o ∙ ap (max (ready p due s now d)) (sym rest))
      (ready_call p due s r now g false lo i q d x m)
  ready_call_in p due s r now g lo hi (a_tail {k = k} {ws = ws} q) (gives_cons d ds) (i, x, y) m =
      let pl = place_in p s g i hi y q in
      call_in p due s now k (p.callee k) ws (λ due'. ready_all p due' r now ds) _ (ready_all p due s now ds) _
      (λ due' then l o.
      let rest = ready_alike p now due s due' r now g false lo i d x (apart_alike due due' s r k then now lo i m l (inr (omega (arith, pl.above)))) (omega arith) in
      ap (λ j. max j (ready_all p due' r now ds)) (sym rest) ∙ ap (max (ready p due s now d)) o)
      (ready_call_in p due s r now g i hi q ds y m)
