-- Until main has returned some event is enabled, and afterwards none is.
use Rattle.safl_calls.proofs.Common.{IsNumbered, Program, Spans, Term, Word, fits_choose, place}
use Rattle.std.proofs.Common.{◌≡◌, ℕ, zero, suc, ◌<◌, ◌≤◌, List, Some, Bool, true, refl, sym, ap, ◌∙◌, subst, arith, inl, inr}
use Rattle.std.specs.Prelude.{◌≢◌}
use Rattle.safl_calls.proofs.Activities.{Activity, Free, Active, Giving, Scene, Step, accept_main, accept, finish, loop, return_main, give}
use Rattle.safl_calls.proofs.Holds.{Serves, Running, Outside, running_at, delivering_at, view_of}
use Rattle.safl_calls.proofs.Preserved.{Fine, all_idle}
use Rattle.safl_calls.specs.Machine.{Event, Accept, Finish, Return, LoopInto}
use Rattle.safl_term.proofs.Bridge.{View, ready, loops, waits, Wants}
use Rattle.safl_term.proofs.Shows.{Tail, t_loop, t_if, t_let}
use Rattle.safl_term.specs.Readiness.{Stage, Unsent, Sent, Returned, Answer, Ready, LoopTo, NotYet, answer, wanted}
use Rattle.safl_term.proofs.Bridge.{back_of}
use Rattle.safl_term.proofs.Apart.{returned_not_sent}

abbrev pub Enabled : Program → List Word → Scene → Type 0
Enabled p args s = (e : Event) × (t : Scene) × Step p args s e t

-- a loop stays in the unit
tail_unit : (p : Program) (s : ℕ → Stage) (g : ℕ) (tail : Bool) (lo hi : ℕ) {env : List Word} {t : Term} {h : ℕ} {ws : List Word} → Tail p s env t h ws → Spans p g tail lo hi t → p.unit h ≡ p.unit g
tail_unit p s g tail lo hi (t_loop ds) (e, e1, x) = e1
tail_unit p s g tail lo hi (t_if {a = a} {b = b} {u = u} c q) (m, n, x, y, z) =
    let ch = fits_choose p g tail m n hi a b u y z in
    tail_unit p s g tail ch.low ch.high q ch.fits
tail_unit p s g tail lo hi (t_let ds q) (m, x, y) = tail_unit p s g tail m hi q y

abbrev pub Busy : Activity → Type 0
Busy Free = ⊥
Busy (Active f xs s k) = Unit {0}
Busy (Giving v k) = Unit {0}

serves_busy : (x : Activity) (k : ℕ) → Serves x k → Busy x
serves_busy Free k q = q
serves_busy (Active f xs s j) k q = tt
serves_busy (Giving v j) k q = tt

module _ (p : Program) (n : ℕ) (args : List Word) (s : Scene) (wf : IsNumbered p n) (h : Fine p args s) where
  -- a unit below, where it is busy, has an event enabled
  delivers_enabled : (u : ℕ) (v : Word) (k : ℕ) → s.units u ≡ Giving v k → Enabled p args s
  delivers_enabled u v zero e =
      let d = delivering_at p args s.units s.outside u v 0 h e in
      (Return 0, _, return_main (ap s.units d.home ∙ e))
  delivers_enabled u v (suc k) e =
      let d = delivering_at p args s.units s.outside u v (suc k) h e in
      (Return (suc k), _, give (ap s.units d.home ∙ e))

  accept_enabled : (u f j k : ℕ) (xs ws : List Word) (r : ℕ → Stage) → s.units u ≡ Active f xs r j → p.unit f ≡ u → p.caller k ≡ f → 1 ≤ k → r k ≡
      Unsent → wanted (back_of r) xs (p.body f) k ≡ Some ws → s.units (p.unit (p.callee k)) ≡ Free → Enabled p args s
  accept_enabled u f j zero xs ws r e own from pos unsent want idle = absurd (omega arith)
  accept_enabled u f j (suc k) xs ws r e own from pos unsent want idle = (
    Accept (suc k),
    _,
    accept {xs = xs} {ws = ws} {sites = r}
        (ap (λ g. s.units (p.unit g)) from ∙ ap s.units own ∙ e ∙ ap (λ g. Active g xs r j) (sym from)) unsent
        (subst (λ g. wanted (back_of r) xs (p.body g) (suc k) ≡ Some ws) (sym from) want) idle,
  )

  runs_enabled : (u f j : ℕ) (xs : List Word) (r : ℕ → Stage) → s.units u ≡ Active f xs r j → Running p args s.units s.outside u f xs r j →
      ((w : ℕ) → w < u → Busy (s.units w) → Enabled p args s) → (x : Answer) (l : Wants) → answer (back_of r) xs (p.body f) ≡ x → wanted (back_of r)
      xs (p.body f) ≡ l → View p r xs true (p.body f) x l → Enabled p args s
  runs_enabled u f j xs r e q below (Ready v) l a m (ready d i) = (Finish f, _, finish (ap s.units q.own ∙ e) a)
  runs_enabled u f j xs r e q below (LoopTo g ws) l a m (loops t d i) =
      let b = wf.bodies f in
      (LoopInto g, _, loop (ap s.units (tail_unit p r f true b.0 b.1 d b.3 ∙ q.own) ∙ e) a)
  runs_enabled u f j xs r e q below NotYet l a m (waits (inl (k, ws, c, unsent)) i) =
      let b = wf.bodies f in
      let pl = place p r f true b.0 b.1 b.3 (i k ws c) in
      by_callee (s.units (p.unit (p.callee k))) refl
      (λ idle. accept_enabled u f j k xs ws r e q.own pl.caller (omega (arith, b.2, pl.above)) unsent (ap (λ z. z k) m ∙ c) idle)
      (λ busy. below (p.unit (p.callee k)) (omega (arith, pl.lower, q.own)) busy)
    where
      by_callee : (x : Activity) → s.units (p.unit (p.callee k)) ≡ x → (s.units (p.unit (p.callee k)) ≡ Free → Enabled p args s) →
          (Busy (s.units (p.unit (p.callee k))) → Enabled p args s) → Enabled p args s
      by_callee Free z f g = f z
      by_callee (Active _ _ _ _) z f g = g (subst Busy (sym z) tt)
      by_callee (Giving _ _) z f g = g (subst Busy (sym z) tt)
  runs_enabled u f j xs r e q below NotYet l a m (waits (inr (k, z)) i) =
      let g = q.sent k z in
      let b = wf.bodies f in
      let pl = place p r f true b.0 b.1 b.3 g.1 in
      below (p.unit (p.callee k)) (omega (arith, pl.lower, q.own)) (serves_busy (s.units (p.unit (p.callee k))) k g.2)

  pub busy_enabled : (m u : ℕ) → u < m → Busy (s.units u) → Enabled p args s
  busy_enabled zero u lt b = absurd (omega arith)
  busy_enabled (suc m) u lt b = by_unit (s.units u) refl (λ w l. busy_enabled m w (omega arith))
    where
      by_unit : (x : Activity) → s.units u ≡ x → ((w : ℕ) → w < u → Busy (s.units w) → Enabled p args s) → Enabled p args s
      by_unit Free e below = absurd (subst Busy e b)
      by_unit (Active f xs r j) e below =
          let q = running_at p args s.units s.outside u f xs r j h e in
          runs_enabled u f j xs r e q below (answer (back_of r) xs (p.body f)) (wanted (back_of r) xs (p.body f)) refl refl (view_of p n args s.units s.outside u f xs r j wf q)
      by_unit (Giving v k) e below = delivers_enabled u v k e

  pub progress : ((v : Word) → s.outside ≢ Returned v) → Enabled p args s
  progress open_ = by_outside s.outside refl h.main
    where
      by_outside : (x : Stage) → s.outside ≡ x → Outside p args s.units x → Enabled p args s
      by_outside Unsent e m = (Accept 0, _, accept_main e)
      by_outside Sent e m = let u = p.unit (p.callee 0) in busy_enabled (suc u) u (omega arith) (serves_busy (s.units u) 0 m)
      by_outside (Returned v) e m = absurd (open_ v e)

returned_not_unsent : (x : Stage) (v : Word) → x ≡ Returned v → x ≡ Unsent → ⊥
returned_not_unsent x v e q = cc

idle_not_busy : (x y : Activity) → x ≡ Free → x ≡ y → Busy y → ⊥
idle_not_busy x y e q b = subst Busy (sym q ∙ e) b

pub over : (p : Program) (n : ℕ) (args : List Word) {s t : Scene} {e : Event} (v : Word) → IsNumbered p n → Fine p args s → s.outside ≡ Returned v → Step p args s e t → ⊥
over p n args v wf h r (accept_main {s = s} e) = returned_not_unsent s.outside v r e
over p n args v wf h r (accept {s = s} {k = k} runs unsent want idle) = idle_not_busy _ _
    (all_idle p n args s.units s.outside wf h (returned_not_sent s.outside v r) n (p.unit (p.caller (suc k))) (omega arith)) runs tt
over p n args v wf h r (finish {s = s} {f = f} runs a) = idle_not_busy _ _ (all_idle p n args s.units s.outside wf h (returned_not_sent s.outside v r) n (p.unit f) (omega arith)) runs tt
over p n args v wf h r (loop {s = s} {h = g} runs a) = idle_not_busy _ _ (all_idle p n args s.units s.outside wf h (returned_not_sent s.outside v r) n (p.unit g) (omega arith)) runs tt
over p n args v wf h r (return_main {s = s} del) = idle_not_busy _ _ (all_idle p n args s.units s.outside wf h (returned_not_sent s.outside v r) n (p.unit (p.callee 0)) (omega arith)) del tt
over p n args v wf h r (give {s = s} {k = k} del) = idle_not_busy _ _ (all_idle p n args s.units s.outside wf h (returned_not_sent s.outside v r) n (p.unit (p.callee (suc k))) (omega arith)) del tt
