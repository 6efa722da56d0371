-- Where a site that has returned stands to one that is in flight.
use Rattle.safl_calls.proofs.Common.{Call, Cons, Const, If, Let, Loop, Nil, Op, Program, Term, Terms, Var, Word, some_at, unit_for}
use Rattle.std.proofs.Common.{◌≡◌, ◌≢◌, ℕ, zero, suc, ◌+◌, ◌*◌, ◌<◌, ◌≤◌, List, ◌++◌, Option, Some, None, true, false, cond, is_some, refl, sym, ap, ◌∙◌, subst, inl, inr, ⊎_elim, ◌⊎◌, arith}
use Rattle.std.proofs.lemmas.Bool.{cases_eq, cases_order, eq-eqb, ne_eqb, false≢true, true≢false}
use Rattle.safl_calls.proofs.Bodies.{or_some, settled, settled_in, wanted_stands, wanted_stands_in}
use Rattle.safl_calls.proofs.Invariant.{Inv, Asks}
use Rattle.safl_calls.proofs.Numbered.{Numbered}
use Rattle.safl_calls.specs.Machine.{State, back}
use Rattle.safl_calls.proofs.Basics.{serves}
use Rattle.safl_calls.proofs.Effects.{Before, BeforeIn}
use Rattle.safl_calls.proofs.Interference.{Sound, SoundIn, sound_c, sound_x, sound_y, sound_bs, sound_body, sound_args, sound_head, sound_rest}
use Rattle.safl_calls.proofs.Interference.{select_of, one_branch, with_of, Live, sent_live, wanted_here, sound_at, stands_at, caller_lt}
use Rattle.safl_calls.proofs.Interference.{climb}
use Rattle.safl_sites.specs.Conflicts.{Reaches, Here, Through, ReachesIn, Apart, ApartIn, Conflict}
use Rattle.safl_term.proofs.Once.{Once, OnceIn}
use Rattle.safl_term.specs.Readiness.{select, with_all, answer, answers, wanted, wanted_in, Sent, Returned}
use Rattle.safl_term.specs.Standing.{Stands, StandsIn}
use Rattle.safl_term.proofs.Apart.{returned_sent}

module _ (C : Program) (b : ℕ → Option Word) (a c k : ℕ) (apart : a ≢ c) (out_c : is_some (b c) ≡ false) (vp : (t : Term) → Stands c t → Reaches C k t) where
  up_in : (ts : Terms) → StandsIn a ts → ReachesIn C a ts
  unfolding Stands ReachesIn
  up_in Nil st = absurd st
  up_in (Cons t ts) (inl st) = inl (Here st)
  up_in (Cons t ts) (inr st) = inr (up_in ts st)

  vp_in : (ts : Terms) → StandsIn c ts → ReachesIn C k ts
  unfolding Stands ReachesIn
  vp_in Nil st = absurd st
  vp_in (Cons t ts) (inl st) = inl (vp t st)
  vp_in (Cons t ts) (inr st) = inr (vp_in ts st)

  not_c : is_some (b c) ≡ true → ⊥
  not_c e = true≢false (sym e ∙ out_c)

  mutual
    unfolding Once wanted Apart Stands ReachesIn Before

    pub place : (env : List Word) (t : Term) → Once t → Sound b env t → is_some (wanted b env t a) ≡ true → is_some (wanted b env t c) ≡ true → Apart C a k t ⊎ Before a c t
    place env (Const n) once h wa wc = absurd (false≢true wa)
    place env (Var i) once h wa wc = absurd (false≢true wa)
    place env (Op p ts) once h wa wc = place_in env ts once h wa wc
    place env (If d x y) once h wa wc =
        let pa = or_some (wanted b env d a) (select (answer b env d) None (wanted b env x a) (wanted b env y a)) wa in
        let pc = or_some (wanted b env d c) (select (answer b env d) None (wanted b env x c) (wanted b env y c)) wc in
        let hd = sound_c b env d x y once h in
        ⊎_elim
        (λ da. ⊎_elim
        (λ dc. ⊎_elim (λ z. inl (inl z)) (λ z. inr (inr (inl z))) (place env d once.0 hd da dc))
        (λ bc. inr (inl (
          wanted_stands b env d a da,
          ⊎_elim (λ l. inl (wanted_stands b env x c l)) (λ l. inr (wanted_stands b env y c l))
              (select_of (answer b env d) (wanted b env x c) (wanted b env y c) bc).1,
        )))
        pc)
        (λ ba. ⊎_elim
        (λ dc. absurd (not_c (settled b env d once.0 hd (answer b env d) refl (select_of (answer b env d) (wanted b env x a) (wanted b env y a) ba).0 c dc)))
        (λ bc. ⊎_elim
        (λ l. ⊎_elim (λ z. inl (inr (inl z))) (λ z. inr (inr (inr (inl z)))) (place env x once.1 (sound_x b env d x y once h l.0) l.1 l.2))
        (λ l. ⊎_elim (λ z. inl (inr (inr z))) (λ z. inr (inr (inr (inr z)))) (place env y once.2 (sound_y b env d x y once h l.0) l.1 l.2))
        (one_branch (answer b env d) (wanted b env x a) (wanted b env x c) (wanted b env y a) (wanted b env y c) ba bc))
        pc)
        pa
    place env (Let bs x) once h wa wc =
        let pa = or_some (wanted_in b env bs a) (with_all (answers b env bs) None (λ vs. wanted b (env ++ vs) x a)) wa in
        let pc = or_some (wanted_in b env bs c) (with_all (answers b env bs) None (λ vs. wanted b (env ++ vs) x c)) wc in
        let hb = sound_bs b env bs x once h in
        ⊎_elim
        (λ da. ⊎_elim
        (λ dc. ⊎_elim (λ z. inl (inl z)) (λ z. inr (inr (inl z))) (place_in env bs once.0 hb da dc))
        (λ bc. let w = with_of (answers b env bs) (λ vs. wanted b (env ++ vs) x c) bc in inr (inl (wanted_stands_in b env bs a da, wanted_stands b (env ++ w.0) x c w.2)))
        pc)
        (λ ba.
        let w = with_of (answers b env bs) (λ vs. wanted b (env ++ vs) x a) ba in
        ⊎_elim
        (λ dc. absurd (not_c (settled_in b env bs once.0 hb w.0 w.1 c dc)))
        (λ bc.
        let wc' : is_some (wanted b (env ++ w.0) x c) ≡ true = subst (λ o. is_some (with_all o None (λ vs. wanted b (env ++ vs) x c)) ≡ true) w.1 bc in
        ⊎_elim (λ z. inl (inr z)) (λ z. inr (inr (inr z))) (place (env ++ w.0) x once.1 (sound_body b env bs x once h w.0 w.1) w.2 wc'))
        pc)
        pa
    place env (Call f i ts) once h wa wc =
        let hs = sound_args b env f i ts once h in
        ⊎_elim
        (λ ia.
        let vs = some_at (answers b env ts) (subst (λ t. is_some (cond t (answers b env ts) (wanted_in b env ts a)) ≡ true) (eq-eqb i a ia) wa) in
        let wc' : is_some (wanted_in b env ts c) ≡ true = subst (λ t. is_some (cond t (answers b env ts) (wanted_in b env ts c)) ≡ true) (ne_eqb i c (λ ic. apart (sym ia ∙ ic))) wc in
        absurd (not_c (settled_in b env ts once.0 hs vs.0 vs.1 c wc')))
        (λ na.
        let wa' : is_some (wanted_in b env ts a) ≡ true = subst (λ t. is_some (cond t (answers b env ts) (wanted_in b env ts a)) ≡ true) (ne_eqb i a na) wa in
        ⊎_elim
        (λ ic. inr (inl (wanted_stands_in b env ts a wa', ic)))
        (λ nc. ⊎_elim (λ z. inl z) (λ z. inr (inr z)) (place_in env ts once.0 hs wa' (subst (λ t. is_some (cond t (answers b env ts) (wanted_in b env ts c)) ≡ true) (ne_eqb i c nc) wc)))
        (cases_eq i c))
        (cases_eq i a)
    place env (Loop m ts) once h wa wc = place_in env ts once h wa wc

    pub place_in : (env : List Word) (ts : Terms) → OnceIn ts → SoundIn b env ts → is_some (wanted_in b env ts a) ≡ true → is_some (wanted_in b env ts c) ≡ true → ApartIn C a k ts ⊎ BeforeIn a c ts
    place_in env Nil once h wa wc = absurd (false≢true wa)
    place_in env (Cons t ts) once h wa wc =
        let pa = or_some (wanted b env t a) (wanted_in b env ts a) wa in
        let pc = or_some (wanted b env t c) (wanted_in b env ts c) wc in
        ⊎_elim
        (λ ta. ⊎_elim
        (λ tc. ⊎_elim (λ z. inl (inl (inl z))) (λ z. inr (inl z)) (place env t once.0 (sound_head b env t ts once h) ta tc))
        (λ sc. inl (inr (inl (Here (wanted_stands b env t a ta), vp_in ts (wanted_stands_in b env ts c sc)))))
        pc)
        (λ sa. ⊎_elim
        (λ tc. inl (inr (inr (vp t (wanted_stands b env t c tc), up_in ts (wanted_stands_in b env ts a sa)))))
        (λ sc. ⊎_elim (λ z. inl (inl (inr z))) (λ z. inr (inr z)) (place_in env ts once.1 (sound_rest b env t ts once h) sa sc))
        pc)
        pa

-- how a site p comes under a site b: it is b, or stands in reach of what b calls
pub data Under (C : Program) (p b : ℕ) : Type 0 where
  Itself : p ≡ b → Under C p b
  Below : (m : ℕ) → m < C.functions → C.unit m ≡ unit_for C b → Reaches C p (C.body m) → Under C p b

pub under_reaches : (C : Program) (p b : ℕ) → Under C p b → (t : Term) → Stands b t → Reaches C p t
under_reaches C p b (Itself is) t st = Here (subst (λ n. Stands n t) (sym is) st)
under_reaches C p b (Below m lt in_u r) t st = Through b m st lt in_u r

-- a site in flight of k's own caller, after k, that p comes under
pub record After (C : Program) (s : State) (k p : ℕ) : Type 0 where
  pub site : ℕ
  pub pos : 0 < site
  pub own : C.caller site ≡ C.caller k
  pub sent : s.site site ≡ Sent
  pub under : Under C p site
  pub before : Before k site (C.body (C.caller k))

module _ (C : Program) (good : Numbered C) (s : State) (inv : Inv C s) where
  -- the site that a caller's unit serves
  served : (k h : ℕ) → Asks C s k → C.unit (C.caller k) < C.unit (C.caller h) → C.caller h < C.functions → (p : ℕ) × Live C s p × (unit_for C p ≡ C.unit (C.caller k)) × (s.site p ≡ Sent)
  served k h l lt lth = by l.serves refl
    where
      by : (p : ℕ) → l.serves ≡ p → (p : ℕ) × Live C s p × (unit_for C p ≡ C.unit (C.caller k)) × (s.site p ≡ Sent)
      by zero e =
          let sv = inv.serving (C.unit (C.caller k)) 0 (ap serves l.runs ∙ ap Some e) in
          let main = ap C.unit good.outside in
          let last = good.last (C.caller h) lth in
          absurd (omega (arith, sv.1, main, last, lt))
      by (suc p) e =
          let sv = inv.serving (C.unit (C.caller k)) (suc p) (ap serves l.runs ∙ ap Some e) in
          (suc p, sent_live C good s inv p sv.0, sv.1, sv.0)

  module _ (k p : ℕ) (v : Word) (pos : 0 < k) (within : k ≤ C.sites) (ak : Asks C s k) (back_k : s.site k ≡ Returned v) (same : unit_for C k ≡ unit_for C p) (other : k ≢ p) where
    ltk : C.caller k < C.functions
    ltk = good.caller_in k pos within

    stands_k : Stands k (C.body (C.caller k))
    stands_k = wanted_stands (back s) ak.args (C.body (C.caller k)) k (ap is_some ak.asks)

    abbrev Result : Type 0
    Result = Conflict C k p ⊎ After C s k p

    abbrev Finds : ℕ → Type 0
    Finds n = (a : ℕ) → Live C s a → s.site a ≡ Sent → Under C p a → unit_for C a < C.unit (C.caller k) → C.unit (C.caller k) ≤ n + C.unit (C.caller a) → Result

    find_same : (a : ℕ) → Live C s a → s.site a ≡ Sent → Under C p a → C.unit (C.caller a) ≡ C.unit (C.caller k) → Result
    find_same a la sent under e =
        let w = wanted_here C good s inv (C.caller k) ak.serves ak.args a ak.runs e la.asks in
        let got = place C (back s) k a p (λ is. returned_sent v (sym back_k ∙ ap s.site is ∙ sent)) la.out (under_reaches C p a under) ak.args
        (C.body (C.caller k)) (good.once (C.caller k) ltk) (sound_at C good s inv (C.caller k) ak.serves ak.args ltk ak.runs) (ap is_some ak.asks) w.1 in
        ⊎_elim
        (λ z. inl (record { other = other; same = same; body = C.caller k; is_body = ltk; apart = z }))
        (λ z. inr (record { site = a; pos = la.pos; own = w.0; sent = sent; under = under; before = z }))
        got

    find_above : (a : ℕ) → Live C s a → Under C p a → unit_for C a < C.unit (C.caller k) → C.unit (C.caller k) < C.unit (C.caller a) → Result
    find_above a la under lower lt =
        let c = served k a ak lt (caller_lt C good s inv a la) in
        let e = good.earlier c.0 c.1.pos c.1.within in
        let g = climb C good s inv k p (2 * C.functions) c.0 a c.1 la (λ is. omega (arith, ap (unit_for C) is, c.2, lower)) (omega (arith, c.2, lt)) (omega (arith, e, c.2, lower))
        (λ t st. Through c.0 (C.caller k) st ltk (sym c.2) (Here stands_k)) (under_reaches C p a under) (omega arith) in
        inl (record { other = other; same = same; body = g.0; is_body = g.1; apart = g.2 })

    find_step : (n : ℕ) → ((a : ℕ) → C.unit (C.caller a) < C.unit (C.caller k) → Live C s a → s.site a ≡ Sent → Under C p a → unit_for C a < C.unit
        (C.caller k) → C.unit (C.caller k) ≤ n + C.unit (C.caller a) → Result) → Finds n
    find_step n next a la sent under lower bound = ⊎_elim (λ e. find_same a la sent under e)
        (λ d. ⊎_elim (λ lt. next a lt la sent under lower bound) (λ gt. find_above a la under lower gt) d) (cases_order (C.unit (C.caller a)) (C.unit (C.caller k)))

    find : (n : ℕ) → Finds n
    find zero = find_step zero (λ a lt la sent under lower bound. absurd (omega (arith, lt, bound)))
    find (suc n) = find_step (suc n) (λ a lt la sent under lower bound.
        let q = served a k la.asks lt ltk in
        let e = good.earlier q.0 q.1.pos q.1.within in
        find n q.0 q.1 q.3 (Below (C.caller a) (caller_lt C good s inv a la) (sym q.2)
        (under_reaches C p a under (C.body (C.caller a)) (stands_at C good s inv a la))) (omega (arith, q.2, lt)) (omega (arith, e, q.2, bound)))

    pub found_after : (lp : Live C s p) → s.site p ≡ Sent → Conflict C k p ⊎ After C s k p
    found_after lp sent =
        let e = good.earlier k pos within in
        find (C.unit (C.caller k)) p lp sent (Itself refl) (omega (arith, e, same)) (omega arith)
