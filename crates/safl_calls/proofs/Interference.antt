-- Two sites of one unit that are both wanted or in flight conflict.
use Rattle.safl_calls.proofs.Common.{Program, Word, pick_one, pick_other, sent_unsent, some_at, unit_for}
use Rattle.std.proofs.Common.{◌≡◌, ◌≢◌, ℕ, zero, suc, ◌+◌, ◌*◌, ◌<◌, ◌≤◌, List, [], ◌++◌, Option, Some, None, Bool, true, false, cond, is_some, refl, sym, ap, ◌∙◌, subst, inl, inr, ⊎_elim, ◌⊎◌, arith}
use Rattle.std.proofs.lemmas.Bool.{cases_eq, cases_order, eq-eqb, ne_eqb, false≢true, true≢false}
use Rattle.safl_calls.proofs.Bodies.{or_some, settled, settled_in, wanted_stands, wanted_stands_in}
use Rattle.safl_calls.proofs.Invariant.{Inv, inv_after, Asks, found}
use Rattle.safl_calls.proofs.Numbered.{Numbered}
use Rattle.safl_calls.specs.Machine.{State, Mode, Idle, Runs, Delivers, opening, after_event, back}
use Rattle.safl_calls.proofs.Basics.{serves}
use Rattle.safl_sites.specs.Conflicts.{Reaches, Here, Through, ReachesIn, Apart, ApartIn, Conflict}
use Rattle.safl_calls.specs.Interference.{Busy, BusySitesConflict, OneInUse}
use Rattle.safl_term.proofs.Once.{Once, OnceIn}
use Rattle.safl_term.specs.Readiness.{Answer, Ready, LoopTo, NotYet, select, with_all, answer, answers, wanted, wanted_in, Unsent, Sent, back_word}
use Rattle.safl_term.specs.Standing.{Stands, StandsIn}
use Rattle.safl_term.specs.Terms.{Term, Terms, Const, Var, Op, If, Let, Call, Loop, Nil, Cons}
use Rattle.safl_term.proofs.Picking.{pick_two, pick_either, pick_cases, Takes, Skips}

-- each site that has returned is wanted
abbrev pub Sound : (ℕ → Option Word) → List Word → Term → Type 0
Sound b env t = (j : ℕ) → Stands j t → is_some (b j) ≡ true → is_some (wanted b env t j) ≡ true

abbrev pub SoundIn : (ℕ → Option Word) → List Word → Terms → Type 0
SoundIn b env ts = (j : ℕ) → StandsIn j ts → is_some (b j) ≡ true → is_some (wanted_in b env ts j) ≡ true

pub select_of : (q : Answer) (x y : Option (List Word)) → is_some (select q None x y) ≡ true → (q ≡ NotYet → ⊥) × ((is_some x ≡ true) ⊎ (is_some y ≡ true))
select_of (Ready u) x y e = (ready u, pick_either u.bits x y (λ z. is_some z ≡ true) e)
  where
    ready : (n : Word) → Ready n ≡ NotYet → ⊥
    ready n e = grind arith
select_of (LoopTo h vs) x y e = absurd (false≢true e)
select_of NotYet x y e = absurd (false≢true e)

-- two words wanted from a choice are wanted in one branch
pub one_branch : (q : Answer) (x x' y y' : Option (List Word)) → is_some (select q None x y) ≡ true → is_some (select q None x' y') ≡ true →
    (Takes q × (is_some x ≡ true) × (is_some x' ≡ true)) ⊎ (Skips q × (is_some y ≡ true) × (is_some y' ≡ true))
one_branch (Ready u) x x' y y' e f =
    pick_cases u.bits x y x' y' (λ z z'. (is_some z ≡ true) × (is_some z' ≡ true))
    ((Takes (Ready u) × (is_some x ≡ true) × (is_some x' ≡ true)) ⊎ (Skips (Ready u) × (is_some y ≡ true) × (is_some y' ≡ true)))
    (λ one p. inl ((u, refl, one), p.0, p.1)) (λ other p. inr ((u, refl, other), p.0, p.1))
    (pick_two u.bits x y x' y' (λ z z'. is_some z ≡ true → is_some z' ≡ true → (is_some z ≡ true) × (is_some z' ≡ true)) (λ i j. (i, j)) (λ i j. (i, j)) e f)
one_branch (LoopTo h vs) x x' y y' e f = absurd (false≢true e)
one_branch NotYet x x' y y' e f = absurd (false≢true e)

pub with_of : (o : Option (List Word)) (f : List Word → Option (List Word)) → is_some (with_all o None f) ≡ true → (vs : List Word) × (o ≡ Some vs) × (is_some (f vs) ≡ true)
with_of None f e = absurd (false≢true e)
with_of (Some vs) f e = (vs, refl, e)

module _ (b : ℕ → Option Word) (env : List Word) where
  pub sound_c : (d x y : Term) → Once (If d x y) → Sound b env (If d x y) → Sound b env d
  unfolding Once Stands wanted
  sound_c d x y once h j st got = ⊎_elim (λ z. z)
      (λ z. absurd (once.3 j st (⊎_elim (λ l. inl (wanted_stands b env x j l)) (λ l. inr (wanted_stands b env y j l)) (select_of (answer b env d) (wanted b env x j) (wanted b env y j) z).1)))
      (or_some (wanted b env d j) (select (answer b env d) None (wanted b env x j) (wanted b env y j)) (h j (inl st) got))

  pub sound_x : (d x y : Term) → Once (If d x y) → Sound b env (If d x y) → Takes (answer b env d) → Sound b env x
  unfolding Once Stands wanted
  sound_x d x y once h t j st got = ⊎_elim
      (λ z. absurd (once.3 j (wanted_stands b env d j z) (inl st)))
      (λ z. sym (ap is_some (pick_one t.0.bits (wanted b env x j) (wanted b env y j) t.2)) ∙ subst (λ q. is_some (select q None (wanted b env x j) (wanted b env y j)) ≡ true) t.1 z)
      (or_some (wanted b env d j) (select (answer b env d) None (wanted b env x j) (wanted b env y j)) (h j (inr (inl st)) got))

  pub sound_y : (d x y : Term) → Once (If d x y) → Sound b env (If d x y) → Skips (answer b env d) → Sound b env y
  unfolding Once Stands wanted
  sound_y d x y once h t j st got = ⊎_elim
      (λ z. absurd (once.3 j (wanted_stands b env d j z) (inr st)))
      (λ z. sym (ap is_some (pick_other t.0.bits (wanted b env x j) (wanted b env y j) t.2)) ∙ subst (λ q. is_some (select q None (wanted b env x j) (wanted b env y j)) ≡ true) t.1 z)
      (or_some (wanted b env d j) (select (answer b env d) None (wanted b env x j) (wanted b env y j)) (h j (inr (inr st)) got))

  pub sound_bs : (bs : Terms) (x : Term) → Once (Let bs x) → Sound b env (Let bs x) → SoundIn b env bs
  unfolding Once Stands wanted
  sound_bs bs x once h j st got = ⊎_elim (λ z. z)
      (λ z. let w = with_of (answers b env bs) (λ vs. wanted b (env ++ vs) x j) z in absurd (once.2 j st (wanted_stands b (env ++ w.0) x j w.2)))
      (or_some (wanted_in b env bs j) (with_all (answers b env bs) None (λ vs. wanted b (env ++ vs) x j)) (h j (inl st) got))

  pub sound_body : (bs : Terms) (x : Term) → Once (Let bs x) → Sound b env (Let bs x) → (vs : List Word) → answers b env bs ≡ Some vs → Sound b (env ++ vs) x
  unfolding Once Stands wanted
  sound_body bs x once h vs is j st got = ⊎_elim
      (λ z. absurd (once.2 j (wanted_stands_in b env bs j z) st))
      (λ z. subst (λ o. is_some (with_all o None (λ vs. wanted b (env ++ vs) x j)) ≡ true) is z)
      (or_some (wanted_in b env bs j) (with_all (answers b env bs) None (λ vs. wanted b (env ++ vs) x j)) (h j (inr st) got))

  pub sound_args : (f i : ℕ) (ts : Terms) → Once (Call f i ts) → Sound b env (Call f i ts) → SoundIn b env ts
  unfolding Once Stands wanted
  sound_args f i ts once h j st got =
      subst (λ t. is_some (cond t (answers b env ts) (wanted_in b env ts j)) ≡ true) (ne_eqb i j (λ is. once.1 (subst (λ n. StandsIn n ts) (sym is) st))) (h j (inr st) got)

  pub sound_head : (t : Term) (ts : Terms) → OnceIn (Cons t ts) → SoundIn b env (Cons t ts) → Sound b env t
  unfolding Once Stands wanted
  sound_head t ts once h j st got = ⊎_elim (λ z. z) (λ z. absurd (once.2 j st (wanted_stands_in b env ts j z))) (or_some (wanted b env t j) (wanted_in b env ts j) (h j (inl st) got))

  pub sound_rest : (t : Term) (ts : Terms) → OnceIn (Cons t ts) → SoundIn b env (Cons t ts) → SoundIn b env ts
  unfolding Once Stands wanted
  sound_rest t ts once h j st got = ⊎_elim (λ z. absurd (once.2 j (wanted_stands b env t j z) st)) (λ z. z) (or_some (wanted b env t j) (wanted_in b env ts j) (h j (inr st) got))

module _ (C : Program) (b : ℕ → Option Word) (a c j k : ℕ) (apart : a ≢ c) (out_a : is_some (b a) ≡ false) (out_c : is_some (b c) ≡ false)
    (up : (t : Term) → Stands a t → Reaches C j t) (vp : (t : Term) → Stands c t → Reaches C k t) where
  up_in : (ts : Terms) → StandsIn a ts → ReachesIn C j ts
  unfolding Stands ReachesIn
  up_in Nil st = absurd st
  up_in (Cons t ts) (inl st) = inl (up t st)
  up_in (Cons t ts) (inr st) = inr (up_in ts st)

  vp_in : (ts : Terms) → StandsIn c ts → ReachesIn C k ts
  unfolding Stands ReachesIn
  vp_in Nil st = absurd st
  vp_in (Cons t ts) (inl st) = inl (vp t st)
  vp_in (Cons t ts) (inr st) = inr (vp_in ts st)

  not_a : is_some (b a) ≡ true → ⊥
  not_a e = true≢false (sym e ∙ out_a)

  not_c : is_some (b c) ≡ true → ⊥
  not_c e = true≢false (sym e ∙ out_c)

  mutual
    unfolding Once wanted Apart Stands ReachesIn

    part : (env : List Word) (t : Term) → Once t → Sound b env t → is_some (wanted b env t a) ≡ true → is_some (wanted b env t c) ≡ true → Apart C j k t
    part env (Const n) once h wa wc = absurd (false≢true wa)
    part env (Var i) once h wa wc = absurd (false≢true wa)
    part env (Op p ts) once h wa wc = part_in env ts once h wa wc
    part env (If d x y) once h wa wc =
        let pa = or_some (wanted b env d a) (select (answer b env d) None (wanted b env x a) (wanted b env y a)) wa in
        let pc = or_some (wanted b env d c) (select (answer b env d) None (wanted b env x c) (wanted b env y c)) wc in
        let hd = sound_c b env d x y once h in
        ⊎_elim
        (λ da. ⊎_elim
        (λ dc. inl (part env d once.0 hd da dc))
        (λ bc. absurd (not_a (settled b env d once.0 hd (answer b env d) refl (select_of (answer b env d) (wanted b env x c) (wanted b env y c) bc).0 a da)))
        pc)
        (λ ba. ⊎_elim
        (λ dc. absurd (not_c (settled b env d once.0 hd (answer b env d) refl (select_of (answer b env d) (wanted b env x a) (wanted b env y a) ba).0 c dc)))
        (λ bc. ⊎_elim
        (λ l. inr (inl (part env x once.1 (sound_x b env d x y once h l.0) l.1 l.2)))
        (λ l. inr (inr (part env y once.2 (sound_y b env d x y once h l.0) l.1 l.2)))
        (one_branch (answer b env d) (wanted b env x a) (wanted b env x c) (wanted b env y a) (wanted b env y c) ba bc))
        pc)
        pa
    part env (Let bs x) once h wa wc =
        let pa = or_some (wanted_in b env bs a) (with_all (answers b env bs) None (λ vs. wanted b (env ++ vs) x a)) wa in
        let pc = or_some (wanted_in b env bs c) (with_all (answers b env bs) None (λ vs. wanted b (env ++ vs) x c)) wc in
        let hb = sound_bs b env bs x once h in
        ⊎_elim
        (λ da. ⊎_elim
        (λ dc. inl (part_in env bs once.0 hb da dc))
        (λ bc. let w = with_of (answers b env bs) (λ vs. wanted b (env ++ vs) x c) bc in absurd (not_a (settled_in b env bs once.0 hb w.0 w.1 a da)))
        pc)
        (λ ba.
        let w = with_of (answers b env bs) (λ vs. wanted b (env ++ vs) x a) ba in
        ⊎_elim
        (λ dc. absurd (not_c (settled_in b env bs once.0 hb w.0 w.1 c dc)))
        (λ bc.
        let wc' : is_some (wanted b (env ++ w.0) x c) ≡ true = subst (λ o. is_some (with_all o None (λ vs. wanted b (env ++ vs) x c)) ≡ true) w.1 bc in
        inr (part (env ++ w.0) x once.1 (sound_body b env bs x once h w.0 w.1) w.2 wc'))
        pc)
        pa
    part env (Call f i ts) once h wa wc =
        let hs = sound_args b env f i ts once h in
        ⊎_elim
        (λ ia.
        let vs = some_at (answers b env ts) (subst (λ t. is_some (cond t (answers b env ts) (wanted_in b env ts a)) ≡ true) (eq-eqb i a ia) wa) in
        let wc' : is_some (wanted_in b env ts c) ≡ true = subst (λ t. is_some (cond t (answers b env ts) (wanted_in b env ts c)) ≡ true) (ne_eqb i c (λ ic. apart (sym ia ∙ ic))) wc in
        absurd (not_c (settled_in b env ts once.0 hs vs.0 vs.1 c wc')))
        (λ na.
        let wa' : is_some (wanted_in b env ts a) ≡ true = subst (λ t. is_some (cond t (answers b env ts) (wanted_in b env ts a)) ≡ true) (ne_eqb i a na) wa in
        ⊎_elim
        (λ ic.
        let vs = some_at (answers b env ts) (subst (λ t. is_some (cond t (answers b env ts) (wanted_in b env ts c)) ≡ true) (eq-eqb i c ic) wc) in
        absurd (not_a (settled_in b env ts once.0 hs vs.0 vs.1 a wa')))
        (λ nc. part_in env ts once.0 hs wa' (subst (λ t. is_some (cond t (answers b env ts) (wanted_in b env ts c)) ≡ true) (ne_eqb i c nc) wc))
        (cases_eq i c))
        (cases_eq i a)
    part env (Loop m ts) once h wa wc = part_in env ts once h wa wc

    part_in : (env : List Word) (ts : Terms) → OnceIn ts → SoundIn b env ts → is_some (wanted_in b env ts a) ≡ true → is_some (wanted_in b env ts c) ≡ true → ApartIn C j k ts
    part_in env Nil once h wa wc = absurd (false≢true wa)
    part_in env (Cons t ts) once h wa wc =
        let pa = or_some (wanted b env t a) (wanted_in b env ts a) wa in
        let pc = or_some (wanted b env t c) (wanted_in b env ts c) wc in
        ⊎_elim
        (λ ta. ⊎_elim
        (λ tc. inl (inl (part env t once.0 (sound_head b env t ts once h) ta tc)))
        (λ sc. inr (inl (up t (wanted_stands b env t a ta), vp_in ts (wanted_stands_in b env ts c sc))))
        pc)
        (λ sa. ⊎_elim
        (λ tc. inr (inr (vp t (wanted_stands b env t c tc), up_in ts (wanted_stands_in b env ts a sa))))
        (λ sc. inl (inr (part_in env ts once.1 (sound_rest b env t ts once h) sa sc)))
        pc)
        pa

abbrev member_of : Mode → ℕ
member_of Idle = 0
member_of (Runs f k ws) = f
member_of (Delivers k v) = 0

abbrev args_of : Mode → List Word
args_of Idle = []
args_of (Runs f k ws) = ws
args_of (Delivers k v) = []

pub record Live (C : Program) (s : State) (k : ℕ) : Type 0 where
  pub pos : 0 < k
  pub within : k ≤ C.sites
  pub asks : Asks C s k
  pub out : is_some (back s k) ≡ false

module _ (C : Program) (good : Numbered C) (s : State) (inv : Inv C s) where
  pub sent_live : (k : ℕ) → s.site (suc k) ≡ Sent → Live C s (suc k)
  sent_live k sent =
      let un = λ (u : s.site (suc k) ≡ Unsent). sent_unsent (sym sent ∙ u) in
      record { pos = omega arith; within = inv.known (suc k) un; asks = inv.asks (suc k) (omega arith) un; out = ap (λ x. is_some (back_word x)) sent }

  -- what a running body wants, by its own function and arguments
  pub wanted_here : (f j : ℕ) (ws : List Word) (k : ℕ) → s.unit (C.unit f) ≡ Runs f j ws → C.unit (C.caller k) ≡ C.unit f → Asks C s k →
      (C.caller k ≡ f) × (is_some (wanted (back s) ws (C.body f) k) ≡ true)
  wanted_here f j ws k e in_u a =
      let both : Runs (C.caller k) a.serves a.args ≡ Runs f j ws = sym a.runs ∙ ap s.unit in_u ∙ e in (
        ap member_of both,
        ap (λ g. is_some (wanted (back s) ws (C.body g) k)) (sym (ap member_of both)) ∙ ap (λ vs. is_some (wanted (back s) vs (C.body (C.caller k)) k)) (sym (ap args_of both)) ∙ ap is_some a.asks,
      )

  pub sound_at : (f j : ℕ) (ws : List Word) → f < C.functions → s.unit (C.unit f) ≡ Runs f j ws → Sound (back s) ws (C.body f)
  sound_at f j ws lt e zero st got = absurd (false≢true got)
  sound_at f j ws lt e (suc i) st got =
      let o = good.own f (suc i) lt st in
      let un = λ (u : s.site (suc i) ≡ Unsent). false≢true (sym (ap (λ x. is_some (back_word x)) u) ∙ got) in
      (wanted_here f j ws (suc i) e (ap C.unit o.2) (inv.asks (suc i) (omega arith) un)).1

  pub stands_at : (k : ℕ) → Live C s k → Stands k (C.body (C.caller k))
  stands_at k l = wanted_stands (back s) l.asks.args (C.body (C.caller k)) k (ap is_some l.asks.asks)

  pub caller_lt : (k : ℕ) → Live C s k → C.caller k < C.functions
  caller_lt k l = good.caller_in k l.pos l.within

  -- the site that a caller's unit serves
  above : (k m : ℕ) → Live C s k → C.unit (C.caller k) < C.unit (C.caller m) → C.caller m < C.functions → (p : ℕ) × Live C s p × (unit_for C p ≡ C.unit (C.caller k))
  above k m l lt ltm = by l.asks.serves refl
    where
      by : (p : ℕ) → l.asks.serves ≡ p → (p : ℕ) × Live C s p × (unit_for C p ≡ C.unit (C.caller k))
      by zero e =
          let sv = inv.serving (C.unit (C.caller k)) 0 (ap serves l.asks.runs ∙ ap Some e) in
          let main = ap C.unit good.outside in
          let last = good.last (C.caller m) ltm in
          absurd (omega (arith, sv.1, main, last, lt))
      by (suc p) e =
          let sv = inv.serving (C.unit (C.caller k)) (suc p) (ap serves l.asks.runs ∙ ap Some e) in
          (suc p, sent_live p sv.0, sv.1)

  -- from two live sites the body in which they part is reached
  abbrev pub Climbs : ℕ → ℕ → ℕ → Type 0
  Climbs j k n = (a c : ℕ) → Live C s a → Live C s c → a ≢ c → unit_for C a < C.unit (C.caller c) → unit_for C c < C.unit (C.caller a)
      → ((t : Term) → Stands a t → Reaches C j t) → ((t : Term) → Stands c t → Reaches C k t)
      → 2 * C.functions ≤ n + C.unit (C.caller a) + C.unit (C.caller c)
      → (g : ℕ) × (g < C.functions) × Apart C j k (C.body g)

  climb_step : (j k n : ℕ) → Climbs j k n → Climbs j k (suc n)
  climb_step j k n next a c la lc other ac ca up vp bound = ⊎_elim same (λ d. ⊎_elim lower higher d) (cases_order (C.unit (C.caller a)) (C.unit (C.caller c)))
    where
      same : C.unit (C.caller a) ≡ C.unit (C.caller c) → (g : ℕ) × (g < C.functions) × Apart C j k (C.body g)
      same e =
          let w = wanted_here (C.caller a) la.asks.serves la.asks.args c la.asks.runs (sym e) lc.asks in (
            C.caller a,
            caller_lt a la,
            part C (back s) a c j k other la.out lc.out up vp la.asks.args (C.body (C.caller a)) (good.once (C.caller a) (caller_lt a la))
                (sound_at (C.caller a) la.asks.serves la.asks.args (caller_lt a la) la.asks.runs) (ap is_some la.asks.asks) w.1,
          )

      lower : C.unit (C.caller a) < C.unit (C.caller c) → (g : ℕ) × (g < C.functions) × Apart C j k (C.body g)
      lower lt =
          let p = above a c la lt (caller_lt c lc) in
          let e = good.earlier p.0 p.1.pos p.1.within in
          next p.0 c p.1 lc (λ is. omega (arith, ap (unit_for C) is, p.2, ca)) (omega (arith, p.2, lt)) (omega (arith, e, p.2, ca))
          (λ t st. Through p.0 (C.caller a) st (caller_lt a la) (sym p.2) (up (C.body (C.caller a)) (stands_at a la))) vp
          (omega (arith, bound, e, p.2))

      higher : C.unit (C.caller c) < C.unit (C.caller a) → (g : ℕ) × (g < C.functions) × Apart C j k (C.body g)
      higher lt =
          let p = above c a lc lt (caller_lt a la) in
          let e = good.earlier p.0 p.1.pos p.1.within in
          next a p.0 la p.1 (λ is. omega (arith, ap (unit_for C) is, p.2, ac)) (omega (arith, e, p.2, ac)) (omega (arith, p.2, lt))
          up (λ t st. Through p.0 (C.caller c) st (caller_lt c lc) (sym p.2) (vp (C.body (C.caller c)) (stands_at c lc)))
          (omega (arith, bound, e, p.2))

  pub climb : (j k n : ℕ) → Climbs j k n
  climb j k zero a c la lc other ac ca up vp bound =
      let fa = good.first (C.caller a) (caller_lt a la) in
      let fc = good.first (C.caller c) (caller_lt c lc) in
      let ga = caller_lt a la in
      let gc = caller_lt c lc in
      absurd (omega (arith, fa, fc, ga, gc, bound))
  climb j k (suc n) a c la lc other ac ca up vp bound = climb_step j k n (climb j k n) a c la lc other ac ca up vp bound

  conflicts : (j k : ℕ) → Live C s j → Live C s k → j ≢ k → unit_for C j ≡ unit_for C k → Conflict C j k
  conflicts j k lj lk other same =
      let ej = good.earlier j lj.pos lj.within in
      let ek = good.earlier k lk.pos lk.within in
      let g = climb j k (2 * C.functions) j k lj lk other (omega (arith, ek, same)) (omega (arith, ej, same)) (λ t st. Here st) (λ t st. Here st) (omega arith) in
      record { other = other; same = same; body = g.0; is_body = g.1; apart = g.2 }

  busy_live : (args : List Word) (k : ℕ) → 0 < k → Busy C args s k → Live C s k
  busy_live args zero pos busy = absurd (omega (arith, pos))
  busy_live args (suc k) pos (inl w) =
      let f = found C args s (suc k) w.0 w.1 in
      record { pos = pos; within = f.within; asks = f.asks pos; out = ap (λ x. is_some (back_word x)) f.unsent }
  busy_live args (suc k) pos (inr sent) = sent_live k sent

pub busy_conflict : (C : Program) → Numbered C → BusySitesConflict C
busy_conflict C good args es legal j k pj pk other same bj bk =
    let s = after_event C args opening es in
    let inv = inv_after C args good es legal in
    conflicts C good s inv j k (busy_live C good s inv args j pj bj) (busy_live C good s inv args k pk bk) other same

pub arbiter_serves : (C : Program) (arbiter : ℕ → Bool) → Numbered C → ((j k : ℕ) → Conflict C j k → arbiter (unit_for C j) ≡ true) → OneInUse C arbiter
arbiter_serves C arbiter good arbs = record {
  one = λ args es legal j k pj pk same no_arb bj bk.
      let s = after_event C args opening es in
      let inv = inv_after C args good es legal in
      ⊎_elim (λ is. is)
      (λ other. absurd (true≢false (sym (arbs j k (conflicts C good s inv j k (busy_live C good s inv args j pj bj) (busy_live C good s inv args k pk bk) other same)) ∙ no_arb)))
      (cases_eq j k);
}
