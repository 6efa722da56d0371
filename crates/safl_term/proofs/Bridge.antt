-- From partial evaluation, a function, to what it shows, where the returned words are right.
use Rattle.safl_term.proofs.Common.{Primitive, Program, Spans, SpansAll, Word, choose, pick, same_Some}
use Rattle.std.proofs.Common.{◌≡◌, ℕ, zero, suc, ◌<◌, ◌≤◌, List, [], ◌++◌, Option, Some, None, Bool, true, false, cond, refl, sym, ap, ◌∙◌, subst, arith, inl, inr, ◌⊎◌, ⊎_elim}
use Rattle.std.specs.Prelude.{◌≢◌, ◌==◌}
use Rattle.std.proofs.lemmas.Bool.{false≢true, eq-eqb, ne_eqb, cases_eq}
use Rattle.safl_term.specs.Terms.{Term, Const, Var, If, Let, Op, Call, Loop, Terms, Nil, Cons}
use Rattle.safl_term.specs.Meaning.{Gives, cost, costs}
use Rattle.safl_term.specs.Readiness.{Stage, Unsent, Sent, Returned, back_word, Answer, Ready, LoopTo, NotYet, answer, answers, wanted, wanted_in}
use Rattle.safl_term.specs.Readiness.{both, apply_to, loop_to, ready_from, select, with_all, or_else}
use Rattle.safl_term.proofs.Shows.{Done, d_const, d_var, d_op, d_if, d_let, d_call, DoneAll, d_nil, d_cons, Tail, t_loop, t_if, t_let, Asks, a_here}
use Rattle.safl_term.proofs.Shows.{a_arg, a_loop, a_op, a_cond, a_branch, a_bind, a_body, AsksIn, a_head, a_tail, done_gives, done_all_gives}
use Rattle.safl_term.proofs.Unique.{one_value, one_list}
use Rattle.safl_term.proofs.Places.{fits_le, fits_all_le, fits_choose, place, place_in}
use Rattle.safl_term.proofs.OrElse.{or_from}

-- the returned words of sites of these stages
abbrev pub back_of : (ℕ → Stage) → ℕ → Option Word
back_of s k = back_word (s k)

-- each returned site of the interval is asked by the term, and its word is right
abbrev pub Held : Program → (ℕ → Stage) → List Word → ℕ → ℕ → Term → Type 0
Held p s env lo hi t = (k : ℕ) (w : Word) → lo ≤ k → k < hi → s k ≡ Returned w → (ws : List Word) × Asks p s env t k ws × Gives p ws (p.body (p.callee k)) w

abbrev pub HeldIn : Program → (ℕ → Stage) → List Word → ℕ → ℕ → Terms → Type 0
HeldIn p s env lo hi ts = (k : ℕ) (w : Word) → lo ≤ k → k < hi → s k ≡ Returned w → (ws : List Word) × AsksIn p s env ts k ws × Gives p ws (p.body (p.callee k)) w

-- each wanted site is asked
abbrev pub Wants : Type 0
Wants = ℕ → Option (List Word)

abbrev pub Sound : Program → (ℕ → Stage) → List Word → Term → Wants → Type 0
Sound p s env t l = (k : ℕ) (ws : List Word) → l k ≡ Some ws → Asks p s env t k ws

abbrev pub SoundIn : Program → (ℕ → Stage) → List Word → Terms → Wants → Type 0
SoundIn p s env ts l = (k : ℕ) (ws : List Word) → l k ≡ Some ws → AsksIn p s env ts k ws

-- what holds a body up: a site that is wanted and unsent, or one in flight
abbrev pub Blocked : (ℕ → Stage) → Wants → Type 0
Blocked s l = ((k : ℕ) × (ws : List Word) × (l k ≡ Some ws) × (s k ≡ Unsent)) ⊎ ((k : ℕ) × (s k ≡ Sent))

pub data View (p : Program) (s : ℕ → Stage) (env : List Word) (tail : Bool) (t : Term) : Answer → Wants → Type 0 where
  ready : {v : Word} {l : Wants} → Done p s env t v → Sound p s env t l → View p s env tail t (Ready v) l
  loops : {h : ℕ} {ws : List Word} {l : Wants} → tail ≡ true → Tail p s env t h ws → Sound p s env t l → View p s env tail t (LoopTo h ws) l
  waits : {l : Wants} → Blocked s l → Sound p s env t l → View p s env tail t NotYet l

pub data ViewIn (p : Program) (s : ℕ → Stage) (env : List Word) (ts : Terms) : Option (List Word) → Wants → Type 0 where
  readys : {vs : List Word} {l : Wants} → DoneAll p s env ts vs → SoundIn p s env ts l → ViewIn p s env ts (Some vs) l
  waitin : {l : Wants} → Blocked s l → SoundIn p s env ts l → ViewIn p s env ts None l

abbrev or_both : Wants → Wants → Wants
or_both l m k = or_else (l k) (m k)

blocked_left : (s : ℕ → Stage) (l m : Wants) → Blocked s l → Blocked s (or_both l m)
blocked_left s l m (inl (k, ws, e, u)) = inl (k, ws, ap (λ o. or_else o (m k)) e, u)
blocked_left s l m (inr x) = inr x

blocked_right : (s : ℕ → Stage) (l m : Wants) → Blocked s m → Blocked s (or_both l m)
blocked_right s l m (inl (k, ws, e, u)) = by (l k) refl
  where
    by : (o : Option (List Word)) → l k ≡ o → Blocked s (or_both l m)
    by None q = inl (k, ws, ap (λ o. or_else o (m k)) q ∙ e, u)
    by (Some zs) q = inl (k, zs, ap (λ o. or_else o (m k)) q, u)
blocked_right s l m (inr x) = inr x

none_some : {A : Type 0} (ws : List Word) → None ≡ Some ws → A
none_some ws e = cc

-- the parts of a term, as far as they ask
module _ (p : Program) (s : ℕ → Stage) (g : ℕ) (env : List Word) where
  pub part_cond : (tail : Bool) (m n hi : ℕ) (c a b : Term) (k : ℕ) (ws : List Word) → Spans p g tail m n a → Spans p g tail n hi b → k < m → Asks p s env (If c a b) k ws → Asks p s env c k ws
  part_cond tail m n hi c a b k ws y z lt (a_cond q) = q
  part_cond tail m n hi c a b k ws y z lt (a_branch {u = u} d q) =
      let ch = fits_choose p g tail m n hi a b u y z in
      let pl = place p s g tail ch.low ch.high ch.fits q in
      absurd (omega (arith, ch.above, pl.above))

  pub part_branch : (lo m : ℕ) (c a b : Term) (u : Word) (k : ℕ) (ws : List Word) → Spans p g false lo m c → Done p s env c u → m ≤ k → Asks p s env (If c a b) k ws → Asks p s env (choose u a b) k ws
  part_branch lo m c a b u k ws x d le (a_cond q) = let pl = place p s g false lo m x q in absurd (omega (arith, pl.below))
  part_branch lo m c a b u k ws x d le (a_branch {u = u'} d' q) =
      let e = (one_value p (cost p (done_gives p s d)) (done_gives p s d') (done_gives p s d) refl).0 in
      subst (λ v. Asks p s env (choose v a b) k ws) e q

  pub part_bind : (tail : Bool) (m hi : ℕ) (ts : Terms) (b : Term) (k : ℕ) (ws : List Word) → Spans p g tail m hi b → k < m → Asks p s env (Let ts b) k ws → AsksIn p s env ts k ws
  part_bind tail m hi ts b k ws y lt (a_bind q) = q
  part_bind tail m hi ts b k ws y lt (a_body ds q) = let pl = place p s g tail m hi y q in absurd (omega (arith, pl.above))

  pub part_body : (lo m : ℕ) (ts : Terms) (b : Term) (us : List Word) (k : ℕ) (ws : List Word) → SpansAll p g lo m ts → DoneAll p s env ts us → m ≤ k
      → Asks p s env (Let ts b) k ws → Asks p s (env ++ us) b k ws
  part_body lo m ts b us k ws x ds le (a_bind q) = let pl = place_in p s g lo m x q in absurd (omega (arith, pl.below))
  part_body lo m ts b us k ws x ds le (a_body {us = vs} ds' q) =
      let e = (one_list p (costs p (done_all_gives p s ds)) (done_all_gives p s ds') (done_all_gives p s ds) refl).0 in
      subst (λ v. Asks p s (env ++ v) b k ws) e q

  pub part_head : (m hi : ℕ) (t : Term) (ts : Terms) (k : ℕ) (ws : List Word) → SpansAll p g m hi ts → k < m → AsksIn p s env (Cons t ts) k ws → Asks p s env t k ws
  part_head m hi t ts k ws y lt (a_head q) = q
  part_head m hi t ts k ws y lt (a_tail q) = let pl = place_in p s g m hi y q in absurd (omega (arith, pl.above))

  pub part_tail : (lo m : ℕ) (t : Term) (ts : Terms) (k : ℕ) (ws : List Word) → Spans p g false lo m t → m ≤ k → AsksIn p s env (Cons t ts) k ws → AsksIn p s env ts k ws
  part_tail lo m t ts k ws x le (a_head q) = let pl = place p s g false lo m x q in absurd (omega (arith, pl.below))
  part_tail lo m t ts k ws x le (a_tail q) = q

  pub part_op : (o : Primitive) (ts : Terms) (k : ℕ) (ws : List Word) → Asks p s env (Op o ts) k ws → AsksIn p s env ts k ws
  part_op o ts k ws (a_op q) = q

  pub part_loop : (h : ℕ) (ts : Terms) (k : ℕ) (ws : List Word) → Asks p s env (Loop h ts) k ws → AsksIn p s env ts k ws
  part_loop h ts k ws (a_loop q) = q

  pub part_arg : (f j : ℕ) (ts : Terms) (k : ℕ) (ws : List Word) → j < k → Asks p s env (Call f j ts) k ws → AsksIn p s env ts k ws
  part_arg f j ts k ws lt (a_here ds) = absurd (omega arith)
  part_arg f j ts k ws lt (a_arg q) = q

  pub part_here : (hi f j k : ℕ) (ts : Terms) (ws : List Word) → j ≡ k → SpansAll p g (suc j) hi ts → Asks p s env (Call f j ts) k ws → DoneAll p s env ts ws
  part_here hi f j k ts ws e x (a_here ds) = ds
  part_here hi f j k ts ws e x (a_arg q) = let pl = place_in p s g (suc j) hi x q in absurd (omega (arith, pl.above))

other_branch : (n : ℕ) (a b : Term) (P : Term → Type 0) → n ≢ 1 → P (pick n a b) → P b
other_branch zero a b P h x = x
other_branch (suc zero) a b P h x = absurd (h refl)
other_branch (suc (suc n)) a b P h x = x

-- what the parts show, put together
module _ (p : Program) (s : ℕ → Stage) (env : List Word) where
  view_op : (tail : Bool) (o : Primitive) (ts : Terms) {x : Option (List Word)} {l : Wants} → ViewIn p s env ts x l → View p s env tail (Op o ts) (apply_to o x) l
  view_op tail o ts (readys ds h) = ready (d_op ds) (λ k ws c. a_op (h k ws c))
  view_op tail o ts (waitin b h) = waits b (λ k ws c. a_op (h k ws c))

  view_loop : (tail : Bool) (h : ℕ) (ts : Terms) {x : Option (List Word)} {l : Wants} → tail ≡ true → ViewIn p s env ts x l → View p s env tail (Loop h ts) (loop_to h x) l
  view_loop tail f ts e (readys ds h) = loops e (t_loop ds) (λ k ws c. a_loop (h k ws c))
  view_loop tail f ts e (waitin b h) = waits b (λ k ws c. a_loop (h k ws c))

  sound_both : (t : Term) (l m : Wants) → Sound p s env t l → Sound p s env t m → Sound p s env t (or_both l m)
  sound_both t l m x y k ws c = ⊎_elim (λ h. x k ws h) (λ h. y k ws h) (or_from (l k) (m k) ws c)

  sound_none : (t : Term) → Sound p s env t (λ k. None)
  sound_none t k ws c = none_some ws c

  view_branch : (tail : Bool) (c a b : Term) (u : Word) {x : Answer} (l : Wants) {m : Wants} → Done p s env c u → Sound p s env c l → View p s env
      tail (choose u a b) x m → View p s env tail (If c a b) x (or_both l m)
  view_branch tail c a b u l {m = m} d h (ready q i) =
      ready (d_if d q) (sound_both (If c a b) l m (λ k ws e. a_cond (h k ws e)) (λ k ws e. a_branch d (i k ws e)))
  view_branch tail c a b u l {m = m} d h (loops e q i) =
      loops e (t_if d q) (sound_both (If c a b) l m (λ k ws e. a_cond (h k ws e)) (λ k ws e. a_branch d (i k ws e)))
  view_branch tail c a b u l {m = m} d h (waits q i) =
      waits (blocked_right s l m q) (sound_both (If c a b) l m (λ k ws e. a_cond (h k ws e)) (λ k ws e. a_branch d (i k ws e)))

  view_pick : (tail : Bool) (a b : Term) (n : ℕ) (xa xb : Answer) (la lb : Wants) → (n ≡ 1 → View p s env tail a xa la) →
      (n ≢ 1 → View p s env tail b xb lb) → View p s env tail (pick n a b) (pick n xa xb) (λ k. pick n (la k) (lb k))
  view_pick tail a b zero xa xb la lb va vb = vb (omega arith)
  view_pick tail a b (suc zero) xa xb la lb va vb = va refl
  view_pick tail a b (suc (suc n)) xa xb la lb va vb = vb (omega arith)

  view_if : (tail : Bool) (c a b : Term) {x : Answer} {l : Wants} (xa xb : Answer) (la lb : Wants) → View p s env false c x l →
      ((u : Word) → Done p s env c u → u.bits ≡ 1 → View p s env tail a xa la) →
      ((u : Word) → Done p s env c u → u.bits ≢ 1 → View p s env tail b xb lb) → View p s env tail (If c a b) (select x NotYet xa xb)
      (λ k. or_else (l k) (select x None (la k) (lb k)))
  view_if tail c a b {l = l} xa xb la lb (ready {v = u} d h) va vb = view_branch tail c a b u l {m = λ k. pick u.bits (la k) (lb k)} d h (view_pick tail a b u.bits xa xb la lb (va u d) (vb u d))
  view_if tail c a b xa xb la lb (loops e q k) va vb = absurd (false≢true e)
  view_if tail c a b {l = l} xa xb la lb (waits q h) va vb =
      waits (blocked_left s l (λ k. None) q) (sound_both (If c a b) l (λ k. None) (λ k ws e. a_cond (h k ws e)) (sound_none (If c a b)))

  view_body : (tail : Bool) (ts : Terms) (b : Term) (us : List Word) (l : Wants) {x : Answer} {m : Wants} → DoneAll p s env ts us → SoundIn p s env ts
      l → View p s (env ++ us) tail b x m → View p s env tail (Let ts b) x (or_both l m)
  view_body tail ts b us l {m = m} d h (ready q i) =
      ready (d_let d q) (sound_both (Let ts b) l m (λ k ws e. a_bind (h k ws e)) (λ k ws e. a_body d (i k ws e)))
  view_body tail ts b us l {m = m} d h (loops e q i) =
      loops e (t_let d q) (sound_both (Let ts b) l m (λ k ws e. a_bind (h k ws e)) (λ k ws e. a_body d (i k ws e)))
  view_body tail ts b us l {m = m} d h (waits q i) =
      waits (blocked_right s l m q) (sound_both (Let ts b) l m (λ k ws e. a_bind (h k ws e)) (λ k ws e. a_body d (i k ws e)))

  view_let : (tail : Bool) (ts : Terms) (b : Term) {x : Option (List Word)} {l : Wants} (xs : List Word → Answer) (ls : List Word → Wants) → ViewIn p
      s env ts x l → ((us : List Word) → DoneAll p s env ts us → View p s (env ++ us) tail b (xs us) (ls us)) → View p s env tail (Let ts b)
      (with_all x NotYet xs) (λ k. or_else (l k) (with_all x None (λ us. ls us k)))
  view_let tail ts b {l = l} xs ls (readys {vs = us} ds h) v = view_body tail ts b us l {m = ls us} ds h (v us ds)
  view_let tail ts b {l = l} xs ls (waitin q h) v =
      waits (blocked_left s l (λ k. None) q) (sound_both (Let ts b) l (λ k. None) (λ k ws e. a_bind (h k ws e)) (sound_none (Let ts b)))

  in_both : (ts : Terms) (l m : Wants) → SoundIn p s env ts l → SoundIn p s env ts m → SoundIn p s env ts (or_both l m)
  in_both ts l m x y k ws c = ⊎_elim (λ h. x k ws h) (λ h. y k ws h) (or_from (l k) (m k) ws c)

  view_nil : ViewIn p s env Nil (Some []) (λ k. None)
  view_nil = readys d_nil (λ k ws c. none_some ws c)

  view_cons : (t : Term) (ts : Terms) {x : Answer} {y : Option (List Word)} {l m : Wants} → View p s env false t x l → ViewIn p s env ts y m → ViewIn p s env (Cons t ts) (both x y) (or_both l m)
  view_cons t ts {l = l} {m = m} (ready d h) (readys ds i) =
      readys (d_cons d ds) (in_both (Cons t ts) l m (λ k ws e. a_head (h k ws e)) (λ k ws e. a_tail (i k ws e)))
  view_cons t ts {l = l} {m = m} (ready d h) (waitin q i) =
      waitin (blocked_right s l m q) (in_both (Cons t ts) l m (λ k ws e. a_head (h k ws e)) (λ k ws e. a_tail (i k ws e)))
  view_cons t ts (loops e q h) v = absurd (false≢true e)
  view_cons t ts {l = l} {m = m} (waits q h) (readys ds i) =
      waitin (blocked_left s l m q) (in_both (Cons t ts) l m (λ k ws e. a_head (h k ws e)) (λ k ws e. a_tail (i k ws e)))
  view_cons t ts {l = l} {m = m} (waits q h) (waitin r i) =
      waitin (blocked_left s l m q) (in_both (Cons t ts) l m (λ k ws e. a_head (h k ws e)) (λ k ws e. a_tail (i k ws e)))

  -- the call itself, or a call in its arguments
  sound_call : (f k : ℕ) (ts : Terms) (y : Option (List Word)) (l : Wants) → ((ws : List Word) → y ≡ Some ws → DoneAll p s env ts ws) → SoundIn p s
      env ts l → Sound p s env (Call f k ts) (λ j. cond (k == j) y (l j))
  sound_call f k ts y l here h j ws e =
      ⊎_elim
      (λ q. subst (λ i. Asks p s env (Call f k ts) i ws) q (a_here (here ws (sym (ap (λ b. cond b y (l j)) (eq-eqb k j q)) ∙ e))))
      (λ q. a_arg (h j ws (sym (ap (λ b. cond b y (l j)) (ne_eqb k j q)) ∙ e)))
      (cases_eq k j)

  view_call : (tail : Bool) (f k : ℕ) (ts : Terms) (x : Stage) {y : Option (List Word)} {l : Wants} → s k ≡ x →
      ((ws : List Word) → AsksIn p s env ts k ws → ⊥) → ViewIn p s env ts y l →
      ((v : Word) → s k ≡ Returned v → (ws : List Word) × DoneAll p s env ts ws × Gives p ws (p.body f) v) → View p s env tail (Call f k ts)
      (ready_from (back_word x)) (λ j. cond (k == j) y (l j))
  view_call tail f k ts Unsent {l = l} e apart (readys {vs = us} ds h) held =
      waits (inl (k, us, ap (λ b. cond b (Some us) (l k)) (eq-eqb k k refl), e))
      (sound_call f k ts (Some us) l (λ ws q. subst (λ zs. DoneAll p s env ts zs) (same_Some us ws q) ds) h)
  view_call tail f k ts Unsent {l = l} e apart (waitin q h) held =
      waits (blocked_args q) (sound_call f k ts None l (λ ws z. none_some ws z) h)
    where
      blocked_args : Blocked s l → Blocked s (λ j. cond (k == j) None (l j))
      blocked_args (inl (j, ws, z, u)) =
          ⊎_elim
          (λ i. absurd (apart ws (subst (λ n. AsksIn p s env ts n ws) (sym i) (h j ws z))))
          (λ i. inl (j, ws, ap (λ b. cond b None (l j)) (ne_eqb k j i) ∙ z, u))
          (cases_eq k j)
      blocked_args (inr z) = inr z
  view_call tail f k ts Sent {l = l} e apart (readys {vs = us} ds h) held =
      waits (inr (k, e)) (sound_call f k ts (Some us) l (λ ws q. subst (λ zs. DoneAll p s env ts zs) (same_Some us ws q) ds) h)
  view_call tail f k ts Sent {l = l} e apart (waitin q h) held =
      waits (inr (k, e)) (sound_call f k ts None l (λ ws z. none_some ws z) h)
  view_call tail f k ts (Returned v) {l = l} e apart (readys {vs = us} ds h) held =
      let r = held v e in
      ready (d_call r.1 e r.2) (sound_call f k ts (Some us) l (λ ws q. subst (λ zs. DoneAll p s env ts zs) (same_Some us ws q) ds) h)
  view_call tail f k ts (Returned v) {l = l} e apart (waitin q h) held =
      let r = held v e in
      ready (d_call r.1 e r.2) (sound_call f k ts None l (λ ws z. none_some ws z) h)

mutual
  unfolding answer wanted

  pub bridge : (p : Program) (s : ℕ → Stage) (g : ℕ) (tail : Bool) (lo hi : ℕ) (env : List Word) (t : Term) → Spans p g tail lo hi t → Held p s env lo
      hi t → View p s env tail t (answer (back_of s) env t) (wanted (back_of s) env t)
  bridge p s g tail lo hi env (Const w) h held = ready d_const (sound_none p s env (Const w))
  bridge p s g tail lo hi env (Var i) h held = ready d_var (sound_none p s env (Var i))
  bridge p s g tail lo hi env (If c a b) (m, n, x, y, z) held =
      let ym = fits_le p g tail m n a y in
      let zm = fits_le p g tail n hi b z in
      let xm = fits_le p g false lo m c x in
      view_if p s env tail c a b _ _ _ _
      (bridge p s g false lo m env c x (λ k w i j e. let r = held k w i (omega arith) e in (r.0, part_cond p s g env tail m n hi c a b k r.0 y z j r.1, r.2)))
      (λ u d one. bridge p s g tail m n env a y (λ k w i j e. let r = held k w (omega arith) (omega arith) e in
      (r.0, subst (λ v. Asks p s env (pick v a b) k r.0) one (part_branch p s g env lo m c a b u k r.0 x d i r.1), r.2)))
      (λ u d other. bridge p s g tail n hi env b z (λ k w i j e. let r = held k w (omega arith) j e in
      (r.0, other_branch u.bits a b (λ t. Asks p s env t k r.0) other (part_branch p s g env lo m c a b u k r.0 x d (omega arith) r.1), r.2)))
  bridge p s g tail lo hi env (Let ts b) (m, x, y) held =
      let xm = fits_all_le p g lo m ts x in
      let ym = fits_le p g tail m hi b y in
      view_let p s env tail ts b _ _
      (bridge_in p s g lo m env ts x (λ k w i j e. let r = held k w i (omega arith) e in (r.0, part_bind p s g env tail m hi ts b k r.0 y j r.1, r.2)))
      (λ us ds. bridge p s g tail m hi (env ++ us) b y (λ k w i j e. let r = held k w (omega arith) j e in (r.0, part_body p s g env lo m ts b us k r.0 x ds i r.1, r.2)))
  bridge p s g tail lo hi env (Op o ts) h held =
      view_op p s env tail o ts (bridge_in p s g lo hi env ts h (λ k w i j e. let r = held k w i j e in (r.0, part_op p s g env o ts k r.0 r.1, r.2)))
  bridge p s g tail lo hi env (Call f k ts) (e, e1, e2, lt, h) held =
      let hm = fits_all_le p g (suc lo) hi ts h in
      view_call p s env tail f k ts (s k) refl
      (λ ws q. let pl = place_in p s g (suc lo) hi h q in absurd (omega (arith, pl.above)))
      (bridge_in p s g (suc lo) hi env ts h (λ j w i l q. let r = held j w (omega arith) l q in (r.0, part_arg p s g env f k ts j r.0 (omega arith) r.1, r.2)))
      (λ v q. let r = held k v (omega arith) (omega arith) q in
      (r.0, part_here p s g env hi f k k ts r.0 refl (subst (λ n. SpansAll p g (suc n) hi ts) (sym e) h) r.1, subst (λ n. Gives p r.0 (p.body n) v) e1 r.2))
  bridge p s g tail lo hi env (Loop f ts) (e, e1, h) held =
      view_loop p s env tail f ts e (bridge_in p s g lo hi env ts h (λ k w i j q. let r = held k w i j q in (r.0, part_loop p s g env f ts k r.0 r.1, r.2)))

  pub bridge_in : (p : Program) (s : ℕ → Stage) (g lo hi : ℕ) (env : List Word) (ts : Terms) → SpansAll p g lo hi ts → HeldIn p s env lo hi ts →
      ViewIn p s env ts (answers (back_of s) env ts) (wanted_in (back_of s) env ts)
  bridge_in p s g lo hi env Nil h held = view_nil p s env
  bridge_in p s g lo hi env (Cons t ts) (m, x, y) held =
      let xm = fits_le p g false lo m t x in
      let ym = fits_all_le p g m hi ts y in
      view_cons p s env t ts
      (bridge p s g false lo m env t x (λ k w i j e. let r = held k w i (omega arith) e in (r.0, part_head p s g env m hi t ts k r.0 y j r.1, r.2)))
      (bridge_in p s g m hi env ts y (λ k w i j e. let r = held k w (omega arith) j e in (r.0, part_tail p s g env lo m t ts k r.0 x i r.1, r.2)))
