-- The machine's states as scenes, and its events as steps.
use Rattle.safl_calls.proofs.Common.{Program, Word, back_of, fun_ext, not_loop, same_Some, sent_unsent, unit_for}
use Rattle.std.proofs.Common.{◌≡◌, ◌≢◌, ℕ, zero, suc, ◌<◌, List, [], ◌∷◌, Some, cond, ◌==◌, refl, sym, ap, ◌∙◌, subst, arith, ⊎_elim}
use Rattle.std.proofs.lemmas.Bool.{cases_eq, eq-eqb, ne_eqb, and_parts}
use Rattle.safl_term.specs.Readiness.{Stage, Unsent, Sent, Returned, back_word, Ready, LoopTo, answer, wanted}
use Rattle.safl_term.specs.Standing.{Stands}
use Rattle.safl_calls.specs.Machine.{State, Mode, Idle, Runs, Delivers, Event, Accept, Finish, Return, LoopInto, put, back, says_as, says, asked_as}
use Rattle.safl_calls.specs.Machine.{asked, Enabled, ended, accept, finish, give_back, loop_into, fire, Legal, after_event}
use Rattle.safl_calls.proofs.Basics.{serves}
use Rattle.safl_calls.proofs.Numbered.{Numbered}
use Rattle.safl_calls.proofs.Basics.{put_at, put_off, cond_some, unsent_is}
use Rattle.safl_calls.proofs.Locality.{answer_local, wanted_local}
use Rattle.safl_calls.proofs.Invariant.{Inv, found, inv_fire}
use Rattle.safl_calls.proofs.Activities.{fresh, Activity, Free, Active, Giving, Scene, mark, Step, accept_main, accept as step_accept}
use Rattle.safl_calls.proofs.Activities.{finish as step_finish, loop as step_loop, return_main, give, Trail, l_none, l_more}
use Rattle.safl_calls.proofs.Apart.{runs_delivers, runs_idle}

-- the stages of the own sites of f
abbrev pub own : Program → (ℕ → Stage) → ℕ → ℕ → Stage
own C site f zero = Unsent
own C site f (suc k) = cond (C.caller (suc k) == f) (site (suc k)) Unsent

abbrev pub activity : Program → (ℕ → Stage) → Mode → Activity
activity C site Idle = Free
activity C site (Runs f k ws) = Active f ws (own C site f) k
activity C site (Delivers k v) = Giving v k

abbrev pub picture : Program → State → Scene
picture C s = record { units = λ u. activity C s.site (s.unit u); outside = s.site 0 }

same_scene : (U V : ℕ → Activity) (o q : Stage) → ((u : ℕ) → U u ≡ V u) → o ≡ q → ◌≡◌ {A = Scene} (record { units = U; outside = o }) (record { units = V; outside = q })
same_scene U V o q h e = λ i. record { units = fun_ext h i; outside = e i }

module _ (C : Program) where
  pub own_same : (site site' : ℕ → Stage) (f : ℕ) → ((j : ℕ) → C.caller (suc j) ≡ f → site (suc j) ≡ site' (suc j)) → (k : ℕ) → own C site f k ≡ own C site' f k
  own_same site site' f h zero = refl
  own_same site site' f h (suc k) =
      ⊎_elim
      (λ e. ap (λ x. cond (C.caller (suc k) == f) x Unsent) (h k e))
      (λ e. ap (λ b. cond b (site (suc k)) Unsent) (ne_eqb (C.caller (suc k)) f e) ∙ sym (ap (λ b. cond b (site' (suc k)) Unsent) (ne_eqb (C.caller (suc k)) f e)))
      (cases_eq (C.caller (suc k)) f)

  pub own_fresh : (site : ℕ → Stage) (f : ℕ) → ((j : ℕ) → C.caller (suc j) ≡ f → site (suc j) ≡ Unsent) → (k : ℕ) → fresh k ≡ own C site f k
  own_fresh site f h zero = refl
  own_fresh site f h (suc k) =
      ⊎_elim
      (λ e. sym (h k e) ∙ sym (ap (λ b. cond b (site (suc k)) Unsent) (eq-eqb (C.caller (suc k)) f e)))
      (λ e. sym (ap (λ b. cond b (site (suc k)) Unsent) (ne_eqb (C.caller (suc k)) f e)))
      (cases_eq (C.caller (suc k)) f)

  pub own_at : (site : ℕ → Stage) (f k : ℕ) → C.caller (suc k) ≡ f → own C site f (suc k) ≡ site (suc k)
  own_at site f k e = ap (λ b. cond b (site (suc k)) Unsent) (eq-eqb (C.caller (suc k)) f e)

  activity_same : (site site' : ℕ → Stage) (m : Mode) → ((f k : ℕ) (ws : List Word) → m ≡ Runs f k ws → (j : ℕ) → C.caller (suc j) ≡ f → site (suc j)
      ≡ site' (suc j)) → activity C site m ≡ activity C site' m
  activity_same site site' Idle h = refl
  activity_same site site' (Runs f k ws) h = ap (λ (r : ℕ → Stage). Active f ws r k) (fun_ext (own_same site site' f (h f k ws refl)))
  activity_same site site' (Delivers k v) h = refl

module _ (C : Program) (args : List Word) (good : Numbered C) (s : State) (inv : Inv C s) where
  -- the own sites of the members of an idle unit are unsent
  idle_unsent : (u : ℕ) → s.unit u ≡ Idle → (j : ℕ) → C.unit (C.caller (suc j)) ≡ u → s.site (suc j) ≡ Unsent
  idle_unsent u idle j at_u = by (s.site (suc j)) refl
    where
      by : (x : Stage) → s.site (suc j) ≡ x → s.site (suc j) ≡ Unsent
      by Unsent e = e
      by Sent e =
          let a = inv.asks (suc j) (omega arith) (λ z. sent_unsent (sym e ∙ z)) in
          absurd (runs_idle (C.caller (suc j)) a.serves a.args (sym a.runs ∙ ap s.unit at_u ∙ idle))
      by (Returned v) e =
          let a = inv.asks (suc j) (omega arith) (λ z. returned_not v (sym e ∙ z)) in
          absurd (runs_idle (C.caller (suc j)) a.serves a.args (sym a.runs ∙ ap s.unit at_u ∙ idle))
        where
          returned_not : (v : Word) → Returned v ≡ Unsent → ⊥
          returned_not v e = grind arith

  -- a running body reads the same words in both
  own_back : (f : ℕ) → f < C.functions → (j : ℕ) → Stands j (C.body f) → back_of (own C s.site f) j ≡ back s j
  own_back f lt zero st = absurd (omega (arith, (good.own f zero lt st).0))
  own_back f lt (suc j) st = ap back_word (own_at C s.site f j (good.own f (suc j) lt st).2)

  pub own_answer : (u f k : ℕ) (ws : List Word) → s.unit u ≡ Runs f k ws → answer (back_of (own C s.site f)) ws (C.body f) ≡ answer (back s) ws (C.body f)
  own_answer u f k ws e = answer_local (back_of (own C s.site f)) (back s) ws (C.body f) (own_back f (inv.member u f k ws e).1)

  pub own_wanted : (u f k : ℕ) (ws : List Word) (j : ℕ) → s.unit u ≡ Runs f k ws → wanted (back_of (own C s.site f)) ws (C.body f) j ≡ wanted (back s) ws (C.body f) j
  own_wanted u f k ws j e = wanted_local (back_of (own C s.site f)) (back s) ws (C.body f) j (own_back f (inv.member u f k ws e).1)

  -- a unit at which site k does not stand, after its stage has changed
  put_apart : (k u : ℕ) (x : Stage) → (0 < k → C.unit (C.caller k) ≢ u) → activity C s.site (s.unit u) ≡ activity C (put s.site k x) (s.unit u)
  put_apart k u x apart =
      activity_same C s.site (put s.site k x) (s.unit u)
      (λ f i ws e j from. sym (put_off s.site k (suc j) x (λ q. apart (omega (arith, q)) (ap (λ n. C.unit (C.caller n)) q ∙ ap C.unit from ∙ (inv.member u f i ws e).0))))

  -- the caller's unit, where the site's stage changes
  marked : (k j : ℕ) (xs : List Word) (x : Stage) → s.unit (C.unit (C.caller (suc k))) ≡ Runs (C.caller (suc k)) j xs
      → mark (activity C s.site (s.unit (C.unit (C.caller (suc k))))) (suc k) x ≡ activity C (put s.site (suc k) x) (s.unit (C.unit (C.caller (suc k))))
  marked k j xs x runs =
      ap (λ m. mark (activity C s.site m) (suc k) x) runs
      ∙ ap (λ (r : ℕ → Stage). Active g xs r j) (fun_ext stage)
      ∙ sym (ap (activity C (put s.site (suc k) x)) runs)
    where
      g : ℕ
      g = C.caller (suc k)

      stage : (i : ℕ) → put (own C s.site g) (suc k) x i ≡ own C (put s.site (suc k) x) g i
      stage zero = put_off (own C s.site g) (suc k) zero x (λ q. absurd (omega (arith, q)))
      stage (suc i) =
          ⊎_elim
          (λ q. put_at (own C s.site g) (suc k) (suc i) x q ∙ sym (put_at s.site (suc k) (suc i) x q) ∙ sym (own_at C (put s.site (suc k) x) g i (sym (ap C.caller q))))
          (λ q. put_off (own C s.site g) (suc k) (suc i) x q ∙ ap (λ z. cond (C.caller (suc i) == g) z Unsent) (sym (put_off s.site (suc k) (suc i) x q)))
          (cases_eq (suc k) (suc i))

  -- the scene after a site and its callee's unit have changed
  moved_scene : (k j : ℕ) (xs : List Word) (x : Stage) (m : Mode) (y : Activity) → s.unit (C.unit (C.caller (suc k))) ≡ Runs (C.caller (suc k)) j xs → C.unit (C.caller (suc k)) ≢ unit_for C (suc k)
      → y ≡ activity C (put s.site (suc k) x) m
      → ◌≡◌ {A = Scene}
      (record { units = put (put (picture C s).units (C.unit (C.caller (suc k))) (mark ((picture C s).units (C.unit (C.caller (suc k)))) (suc k) x)) (unit_for C (suc k)) y; outside = s.site 0 })
      (picture C (record { unit = put s.unit (unit_for C (suc k)) m; site = put s.site (suc k) x }))
  moved_scene k j xs x m y runs apart same =
      same_scene _ _ _ _ units (sym (put_off s.site (suc k) 0 x (λ q. absurd (omega (arith, q)))))
    where
      c : ℕ
      c = C.unit (C.caller (suc k))

      e : ℕ
      e = unit_for C (suc k)

      new : Activity
      new = mark ((picture C s).units c) (suc k) x

      units : (u : ℕ) → put (put (picture C s).units c new) e y u ≡ activity C (put s.site (suc k) x) (put s.unit e m u)
      units u =
          ⊎_elim
          (λ q. put_at (put (picture C s).units c new) e u y q ∙ same ∙ sym (ap (activity C (put s.site (suc k) x)) (put_at s.unit e u m q)))
          (λ q.
          put_off (put (picture C s).units c new) e u y q
          ∙ ⊎_elim
          (λ r. put_at (picture C s).units c u new r ∙ marked k j xs x runs ∙ ap (λ n. activity C (put s.site (suc k) x) (s.unit n)) r)
          (λ r. put_off (picture C s).units c u new r ∙ put_apart (suc k) u x (λ pos. r))
          (cases_eq c u)
          ∙ sym (ap (activity C (put s.site (suc k) x)) (put_off s.unit e u m q)))
          (cases_eq e u)

  -- the scene after main's site and unit have changed
  main_scene : (x : Stage) (m : Mode) (y : Activity) → y ≡ activity C (put s.site 0 x) m
      → ◌≡◌ {A = Scene} (record { units = put (picture C s).units (unit_for C 0) y; outside = x }) (picture C (record { unit = put s.unit (unit_for C 0) m; site = put s.site 0 x }))
  main_scene x m y same = same_scene _ _ _ _ units (sym (put_at s.site 0 0 x refl))
    where
      e : ℕ
      e = unit_for C 0

      units : (u : ℕ) → put (picture C s).units e y u ≡ activity C (put s.site 0 x) (put s.unit e m u)
      units u =
          ⊎_elim
          (λ q. put_at (picture C s).units e u y q ∙ same ∙ sym (ap (activity C (put s.site 0 x)) (put_at s.unit e u m q)))
          (λ q. put_off (picture C s).units e u y q ∙ put_apart 0 u x (λ pos. absurd (omega (arith, pos))) ∙ sym (ap (activity C (put s.site 0 x)) (put_off s.unit e u m q)))
          (cases_eq e u)

  -- the scene after a unit has ended its sites
  ended_scene : (w : ℕ) (m : Mode) (y : Activity) → y ≡ activity C (ended C w s.site) m
      → ◌≡◌ {A = Scene} (record { units = put (picture C s).units w y; outside = s.site 0 }) (picture C (record { unit = put s.unit w m; site = ended C w s.site }))
  ended_scene w m y same = same_scene _ _ _ _ units refl
    where
      other : (u : ℕ) → (w ≡ u → ⊥) → activity C s.site (s.unit u) ≡ activity C (ended C w s.site) (s.unit u)
      other u apart =
          activity_same C s.site (ended C w s.site) (s.unit u)
          (λ f i ws q j from. sym (ap (λ b. cond b Unsent (s.site (suc j))) (ne_eqb (C.unit (C.caller (suc j))) w (λ z. apart (sym z ∙ ap C.unit from ∙ (inv.member u f i ws q).0)))))

      units : (u : ℕ) → put (picture C s).units w y u ≡ activity C (ended C w s.site) (put s.unit w m u)
      units u =
          ⊎_elim
          (λ q. put_at (picture C s).units w u y q ∙ same ∙ sym (ap (activity C (ended C w s.site)) (put_at s.unit w u m q)))
          (λ q. put_off (picture C s).units w u y q ∙ other u q ∙ sym (ap (activity C (ended C w s.site)) (put_off s.unit w u m q)))
          (cases_eq w u)

  ended_fresh : (w h : ℕ) → C.unit h ≡ w → (k : ℕ) → fresh k ≡ own C (ended C w s.site) h k
  ended_fresh w h at_w = own_fresh C (ended C w s.site) h (λ j from. ap (λ b. cond b Unsent (s.site (suc j))) (eq-eqb (C.unit (C.caller (suc j))) w (ap C.unit from ∙ at_w)))

  begin_main : (ws : List Word) → asked C args s 0 ≡ Some ws → s.unit (unit_for C 0) ≡ Idle → Step C args (picture C s) (Accept 0) (picture C (accept C s 0 (asked C args s 0)))
  begin_main ws h idle =
      let a = cond_some _ _ ws h in
      let is : asked C args s 0 ≡ Some args = h ∙ ap Some (sym (same_Some args ws a.1)) in
      let un = unsent_is (s.site 0) (and_parts _ _ a.0).0 in
      let start = own_fresh C (put s.site 0 Sent) (C.callee 0) (λ j from. put_off s.site 0 (suc j) Sent (λ q. absurd (omega (arith, q))) ∙ idle_unsent (unit_for C 0) idle j (ap C.unit from)) in
      subst (λ o. Step C args (picture C s) (Accept 0) (picture C (accept C s 0 o))) (sym is)
      (subst (λ t. Step C args (picture C s) (Accept 0) t)
      (main_scene Sent (Runs (C.callee 0) 0 args) (Active (C.callee 0) args fresh 0) (ap (λ (r : ℕ → Stage). Active (C.callee 0) args r 0) (fun_ext start)))
      (accept_main un))

  begin_site : (k : ℕ) (ws : List Word) → asked C args s (suc k) ≡ Some ws → s.unit (unit_for C (suc k)) ≡ Idle → Step C args (picture C s)
      (Accept (suc k)) (picture C (accept C s (suc k) (asked C args s (suc k))))
  begin_site k ws h idle =
      let f = found C args s (suc k) ws h in
      let a = f.asks (omega arith) in
      let g = C.caller (suc k) in
      let e = unit_for C (suc k) in
      let c = cond_some _ _ ws h in
      let want = cond_some _ _ ws (sym (ap (λ m. asked_as C (back s) m g (suc k)) a.runs) ∙ c.1) in
      let apart : C.unit g ≢ e = λ q. runs_idle g a.serves a.args (sym a.runs ∙ ap s.unit q ∙ idle) in
      let start = own_fresh C (put s.site (suc k) Sent) (C.callee (suc k))
      (λ j from. put_off s.site (suc k) (suc j) Sent (λ q. apart (ap (λ n. C.unit (C.caller n)) q ∙ ap C.unit from)) ∙ idle_unsent e idle j (ap C.unit from)) in
      subst (λ o. Step C args (picture C s) (Accept (suc k)) (picture C (accept C s (suc k) o))) (sym h)
      (subst (λ t. Step C args (picture C s) (Accept (suc k)) t)
      (moved_scene k a.serves a.args Sent (Runs (C.callee (suc k)) (suc k) ws) (Active (C.callee (suc k)) ws fresh (suc k)) a.runs apart
      (ap (λ (r : ℕ → Stage). Active (C.callee (suc k)) ws r (suc k)) (fun_ext start)))
      (step_accept (ap (activity C s.site) a.runs) (own_at C s.site g k refl ∙ f.unsent) (own_wanted (C.unit g) g a.serves a.args (suc k) a.runs ∙ want.1) (ap (activity C s.site) idle)))

  begin_finish : (f k : ℕ) (ws : List Word) (v : Word) → s.unit (C.unit f) ≡ Runs f k ws → says C s (C.unit f) ≡ Ready v → Step C args (picture C s)
      (Finish f) (picture C (finish C s (C.unit f) (s.unit (C.unit f)) (says C s (C.unit f))))
  begin_finish f k ws v runs is =
      let body : answer (back s) ws (C.body f) ≡ Ready v = sym (ap (says_as C (back s)) runs) ∙ is in
      let end : finish C s (C.unit f) (s.unit (C.unit f)) (says C s (C.unit f)) ≡ finish C s (C.unit f) (Runs f k ws) (Ready v) = ap
      (λ m. finish C s (C.unit f) m (says C s (C.unit f))) runs ∙ ap (finish C s (C.unit f) (Runs f k ws)) is in
      subst (λ t. Step C args (picture C s) (Finish f) (picture C t)) (sym end)
      (subst (λ t. Step C args (picture C s) (Finish f) t) (ended_scene (C.unit f) (Delivers k v) (Giving v k) refl)
      (step_finish (ap (activity C s.site) runs) (own_answer (C.unit f) f k ws runs ∙ body)))

  begin_loop : (h : ℕ) (vs : List Word) → says C s (C.unit h) ≡ LoopTo h vs → Step C args (picture C s) (LoopInto h) (picture C (loop_into C s (C.unit h) (s.unit (C.unit h)) (says C s (C.unit h))))
  begin_loop h vs is = by (s.unit (C.unit h)) refl
    where
      by : (m : Mode) → s.unit (C.unit h) ≡ m → Step C args (picture C s) (LoopInto h) (picture C (loop_into C s (C.unit h) (s.unit (C.unit h)) (says C s (C.unit h))))
      by Idle e = absurd (not_loop h vs (sym (ap (says_as C (back s)) e) ∙ is))
      by (Delivers k v) e = absurd (not_loop h vs (sym (ap (says_as C (back s)) e) ∙ is))
      by (Runs f k ws) runs =
          let body : answer (back s) ws (C.body f) ≡ LoopTo h vs = sym (ap (says_as C (back s)) runs) ∙ is in
          let end : loop_into C s (C.unit h) (s.unit (C.unit h)) (says C s (C.unit h)) ≡ loop_into C s (C.unit h) (Runs f k ws) (LoopTo h vs) = ap
          (λ m. loop_into C s (C.unit h) m (says C s (C.unit h))) runs ∙ ap (loop_into C s (C.unit h) (Runs f k ws)) is in
          subst (λ t. Step C args (picture C s) (LoopInto h) (picture C t)) (sym end)
          (subst (λ t. Step C args (picture C s) (LoopInto h) t) (ended_scene (C.unit h) (Runs h k vs) (Active h vs fresh k)
          (ap (λ (r : ℕ → Stage). Active h vs r k) (fun_ext (ended_fresh (C.unit h) h refl))))
          (step_loop (ap (activity C s.site) runs) (own_answer (C.unit h) f k ws runs ∙ body)))

  begin_return : (k : ℕ) (v : Word) → s.unit (unit_for C k) ≡ Delivers k v → Step C args (picture C s) (Return k) (picture C (give_back C s k (Delivers k v)))
  begin_return zero v del =
      subst (λ t. Step C args (picture C s) (Return 0) t) (main_scene (Returned v) Idle Free refl)
      (return_main (ap (activity C s.site) del))
  begin_return (suc k) v del =
      let sent = (inv.serving (unit_for C (suc k)) (suc k) (ap serves del)).0 in
      let a = inv.asks (suc k) (omega arith) (λ z. sent_unsent (sym sent ∙ z)) in
      let apart : C.unit (C.caller (suc k)) ≢ unit_for C (suc k) = λ q. runs_delivers (C.caller (suc k)) a.serves (suc k) v a.args (sym a.runs ∙ ap s.unit q ∙ del) in
      subst (λ t. Step C args (picture C s) (Return (suc k)) t) (moved_scene k a.serves a.args (Returned v) Idle Free a.runs apart refl)
      (give (ap (activity C s.site) del))

  pub step_of : (e : Event) → Enabled C args s e → Step C args (picture C s) e (picture C (fire C args s e))
  step_of (Accept zero) h = begin_main h.0 h.1 h.2
  step_of (Accept (suc k)) h = begin_site k h.0 h.1 h.2
  step_of (Finish f) h = begin_finish f h.0 h.1 h.2 h.3 h.4
  step_of (Return k) h = subst (λ m. Step C args (picture C s) (Return k) (picture C (give_back C s k m))) (sym h.1) (begin_return k h.0 h.1)
  step_of (LoopInto m) h = begin_loop m h.0 h.1

module _ (C : Program) (args : List Word) (good : Numbered C) where
  unfoldable pub trail : (s : State) (es : List Event) → Inv C s → Legal C args s es → Trail C args (picture C s) es (picture C (after_event C args s es))
  unfolding Legal after_event
  trail s [] inv legal = l_none
  trail s (e ∷ es) inv legal = l_more (step_of C args good s inv e legal.0) (trail (fire C args s e) es (inv_fire C args good s e inv legal.0) legal.1)
