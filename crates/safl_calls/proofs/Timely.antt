-- No unit delivers before it is due, given an evaluation of main.
use Rattle.safl_calls.proofs.Common.{Event, Gives, IsNumbered, Program, Word, back_of, cases_eq, cases_order, not_ready, place, put, span}
use Rattle.std.proofs.Common.{◌≡◌, ℕ, suc, ◌+◌, ◌<◌, ◌≤◌, max, List, Some, true, is_some, refl, sym, ap, ◌∙◌, subst, arith, inl, inr, ◌⊎◌, ⊎_elim}
use Rattle.std.specs.Prelude.{◌≢◌}
use Rattle.safl_calls.proofs.Activities.{fresh, Activity, Free, Active, Giving, Scene, mark, Step, accept_main, accept, finish, loop, return_main, give}
use Rattle.safl_calls.proofs.Holds.{put_same, put_other, Holds, Outside, Serves, running_at, delivering_at, running_done, running_tail, running_wants}
use Rattle.safl_calls.proofs.Preserved.{Fine, all_idle, asked_site, moved, outside_words}
use Rattle.safl_calls.proofs.Owed.{Marked}
use Rattle.safl_calls.proofs.Ready.{by_stage, ready, ready_from, ready_later, ready_fresh, ready_alike, done_ready, tail_ready, Dues, ready_call}
use Rattle.safl_calls.proofs.Waiting.{Standing, is_done, is_tail, is_stuck, Late, standing, done_answers, tail_answers, asks_wanted}
use Rattle.safl_calls.specs.Cycles.{since_event, MayAct}
use Rattle.safl_term.specs.Readiness.{Stage, Unsent, Sent, Returned, Ready, LoopTo, NotYet, answer, wanted}
use Rattle.safl_term.proofs.Shows.{Asks}
use Rattle.safl_term.proofs.Apart.{unsent_not_sent, not_loop}

-- when the sites in flight are due, by when their units are
abbrev pub by_site : Program → (ℕ → ℕ) → ℕ → ℕ
by_site p due k = due (p.unit (p.callee k))

-- a unit that may act since that cycle delivers no sooner than this, in cycle c; and no later where E holds
abbrev pub Lasts : Program → Type 0 → ℕ → ℕ → (ℕ → ℕ) → Activity → ℕ → Type 0
Lasts p E c since due Free n = Unit {0}
Lasts p E c since due (Active f xs s j) n =
    (v : Word) × (d : Gives p xs (p.body f) v) × (n ≤ 1 + ready p (by_site p due) s (max c since) d) × (E → 1 + ready p (by_site p due) s (max c since) d ≤ n)
Lasts p E c since due (Giving v j) n = (n ≤ since) × (E → since ≤ n)

-- main is due no sooner than in the last cycle that is given, and has returned no sooner; where E holds, it is due no later
abbrev pub Awaits : Type 0 → ℕ → Stage → ℕ → ℕ → Type 0
Awaits E c Unsent last n = E → c ≡ 0
Awaits E c Sent last n = (last ≤ n) × (E → n ≤ last)
Awaits E c (Returned v) last n = last ≤ c

pub record Timed (p : Program) (E : Type 0) (last c : ℕ) (since : ℕ → ℕ) (U : ℕ → Activity) (o : Stage) : Type 0 where
  pub due : ℕ → ℕ
  pub each : (u : ℕ) → Lasts p E c (since u) due (U u) (due u)
  pub main : Awaits E c o last (due (p.unit (p.callee 0)))

-- at the end of cycle c no unit that has not changed in it could have done more, and main was called
pub record Prompt (p : Program) (c : ℕ) (since : ℕ → ℕ) (U : ℕ → Activity) (o : Stage) : Type 0 where
  pub ended : (u f j : ℕ) (xs : List Word) (s : ℕ → Stage) → U u ≡ Active f xs s j → since u ≤ c → answer (back_of s) xs (p.body f) ≡ NotYet
  pub called : (u f j : ℕ) (xs : List Word) (s : ℕ → Stage) → U u ≡ Active f xs s j → since u ≤ c → (k : ℕ) → s k ≡ Unsent → is_some (wanted (back_of s) xs (p.body f) k) ≡ true → ⊥
  pub returned : (u k : ℕ) (v : Word) → U u ≡ Giving v k → c < since u
  pub begun : o ≡ Unsent → ⊥

-- a cycle later
lasts_later : (p : Program) (n : ℕ) (args : List Word) (E : Type 0) (last c u : ℕ) (since : ℕ → ℕ) (U : ℕ → Activity) (o : Stage) → IsNumbered p n → Holds p args U o
    → (E → Prompt p c since U o) → (q : Timed p E last c since U o) → (x : Activity) → U u ≡ x → Lasts p E c (since u) q.due x (q.due u) → Lasts p E (suc c) (since u) q.due x (q.due u)
lasts_later p n args E last c u since U o wf h prompt q Free is l = tt
lasts_later p n args E last c u since U o wf h prompt q (Giving v j) is l = l
lasts_later p n args E last c u since U o wf h prompt q (Active f xs s j) is (v, d, low, high) =
    let later = ready_later p (by_site p q.due) s (max c (since u)) (max (suc c) (since u)) (omega arith) d in
    (v, d, omega (arith, low, later), λ y. by y (cases_le (since u) c))
  where
    cases_le : (a b : ℕ) → (a ≤ b) ⊎ (b < a)
    cases_le a b = ⊎_elim (λ z. inl (omega (arith, z))) (λ z. ⊎_elim (λ l. inl (omega (arith, l))) (λ g. inr g) z) (cases_order a b)

    by : E → (since u ≤ c) ⊎ (c < since u) → 1 + ready p (by_site p q.due) s (max (suc c) (since u)) d ≤ q.due u
    by y (inr g) =
        let same : max (suc c) (since u) ≡ max c (since u) = omega (arith, g) in
        let e = ap (λ i. ready p (by_site p q.due) s i d) same in
        omega (arith, e, high y)
    by y (inl le) =
        let pr = prompt y in
        let r = running_at p args U o u f xs s j h is in
        let b = wf.bodies f in
        let at : max c (since u) ≡ c = omega (arith, le) in
        let at' : max (suc c) (since u) ≡ suc c = omega (arith, le) in
        let e = ap (λ i. ready p (by_site p q.due) s i d) at in
        let e' = ap (λ i. ready p (by_site p q.due) s i d) at' in
        of_standing (standing p (by_site p q.due) s c late f true b.0 b.1 d b.3 (λ k w _ _ z. r.good k w z) (λ k ws a un. pr.called u f j xs s is le k un (asks_wanted p s f true b.0 b.1 b.3 a)))
      where
        late : Late (by_site p q.due) s c
        late k sent =
            let r = running_at p args U o u f xs s j h is in
            due_late (p.unit (p.callee k)) (U (p.unit (p.callee k))) refl (r.sent k sent).2 (q.each (p.unit (p.callee k)))
          where
            due_late : (e : ℕ) (x : Activity) → U e ≡ x → Serves x k → Lasts p E c (since e) q.due x (q.due e) → c < q.due e
            due_late e Free i sv l = absurd sv
            due_late e (Active f' xs' s' j') i sv (v', d', _, up) =
                let from = ready_from p (by_site p q.due) s' (max c (since e)) d' in
                omega (arith, from, up y)
            due_late e (Giving v' j') i sv l = let z = (prompt y).returned e j' v' i in omega (arith, z, l.1 y)

        of_standing : Standing p (by_site p q.due) s c true d → 1 + ready p (by_site p q.due) s (max (suc c) (since u)) d ≤ q.due u
        of_standing (is_done z) = absurd (not_ready _ (sym ((prompt y).ended u f j xs s is le) ∙ done_answers p s z))
        of_standing (is_tail {h = g} {ws = ws} _ z) = absurd (not_loop g ws (sym ((prompt y).ended u f j xs s is le) ∙ tail_answers p s z))
        of_standing (is_stuck z) =
            let at : max c (since u) ≡ c = omega (arith, le) in
            let at' : max (suc c) (since u) ≡ suc c = omega (arith, le) in
            let e = ap (λ i. ready p (by_site p q.due) s i d) at in
            let e' = ap (λ i. ready p (by_site p q.due) s i d) at' in
            omega (arith, e, e', z, high y)

pub timed_later : (p : Program) (n : ℕ) (args : List Word) (E : Type 0) (last c : ℕ) (since : ℕ → ℕ) (U : ℕ → Activity) (o : Stage) → IsNumbered p n → Holds p args U o
    → (E → Prompt p c since U o) → Timed p E last c since U o → Timed p E last (suc c) since U o
timed_later p n args E last c since U o wf h prompt q =
    record { due = q.due; each = λ u. lasts_later p n args E last c u since U o wf h prompt q (U u) refl (q.each u); main = by o refl q.main }
  where
    by : (o' : Stage) → o ≡ o' → Awaits E c o' last (q.due (p.unit (p.callee 0))) → Awaits E (suc c) o' last (q.due (p.unit (p.callee 0)))
    by Unsent e x = λ y. absurd ((prompt y).begun e)
    by Sent e x = x
    by (Returned v) e x = omega arith

-- a unit that is due as before, while units are due alike at which it waits
lasts_alike : (p : Program) (E : Type 0) (n c since : ℕ) (due due' : ℕ → ℕ) (x : Activity) (m : ℕ) → IsNumbered p n
    → ((f j : ℕ) (xs : List Word) (s : ℕ → Stage) → x ≡ Active f xs s j → (k : ℕ) → s k ≡ Sent → by_site p due k ≡ by_site p due' k)
    → Lasts p E c since due x m → Lasts p E c since due' x m
lasts_alike p E n c since due due' Free m wf same h = tt
lasts_alike p E n c since due due' (Active f xs s j) m wf same (v, d, h, i) =
    let b = wf.bodies f in
    let e = ready_alike p 0 (by_site p due) s (by_site p due') s (max c since) f true b.0 b.1 d b.3 (λ k i l later now le. by k (s k) refl later now) (omega arith) in
    (v, d, omega (arith, h, e), λ y. omega (arith, i y, e))
  where
    by : (k : ℕ) (y : Stage) → s k ≡ y → (later now : ℕ) → by_stage (s k) later (by_site p due k) now ≡ by_stage (s k) later (by_site p due' k) now
    by k Unsent e later now = ap (λ y. by_stage y later (by_site p due k) now) e ∙ sym (ap (λ y. by_stage y later (by_site p due' k) now) e)
    by k Sent e later now = ap (λ i. by_stage (s k) later i now) (same f j xs s refl k e)
    by k (Returned w) e later now = ap (λ y. by_stage y later (by_site p due k) now) e ∙ sym (ap (λ y. by_stage y later (by_site p due' k) now) e)
lasts_alike p E n c since due due' (Giving v j) m wf same h = h

lasts_at : (p : Program) (E : Type 0) (c since n : ℕ) (due : ℕ → ℕ) (x y : Activity) → x ≡ y → Lasts p E c since due x n → Lasts p E c since due y n
lasts_at p E c since n due x y e h = subst (λ z. Lasts p E c since due z n) e h

-- one unit changes, and is due as before
one_turns : (p : Program) (E : Type 0) (last c m i : ℕ) (since : ℕ → ℕ) (U : ℕ → Activity) (y : Activity) (o q : Stage) (h : Timed p E last c since U o)
    → Lasts p E c i h.due y (h.due m) → Awaits E c q last (h.due (p.unit (p.callee 0))) → Timed p E last c (put since m i) (put U m y) q
one_turns p E last c m i since U y o q h new main =
    record {
      due = h.due;
      each = λ u. ⊎_elim
          (λ e. subst (λ z. Lasts p E c (put since m i u) h.due z (h.due u)) (sym (put_same U m u y e))
          (subst (λ z. Lasts p E c z h.due y (h.due u)) (sym (put_same since m u i e)) (subst (λ z. Lasts p E c i h.due y (h.due z)) (sym e) new)))
          (λ e. subst (λ z. Lasts p E c (put since m i u) h.due z (h.due u)) (sym (put_other U m u y e))
          (subst (λ z. Lasts p E c z h.due (U u) (h.due u)) (sym (put_other since m u i e)) (h.each u)))
          (cases_eq u m);
      main = main;
    }

module _ (p : Program) (E : Type 0) (n : ℕ) (args : List Word) (v : Word) (d : Gives p args (p.body (p.callee 0)) v) (wf : IsNumbered p n) where
  abbrev last : ℕ
  last = 2 + span p d

  -- main's call is accepted: main is due when its span has passed
  timed_main : (c : ℕ) (since : ℕ → ℕ) (U : ℕ → Activity) (o : Stage) → Holds p args U o → ((u : ℕ) → U u ≡ Free) → o ≡ Unsent → Timed p E last c since U o
      → Timed p E last c (put since (p.unit (p.callee 0)) (suc c)) (put U (p.unit (p.callee 0)) (Active (p.callee 0) args fresh 0)) Sent
  timed_main c since U o h idle un q =
      let m = p.unit (p.callee 0) in
      let y : Activity = Active (p.callee 0) args fresh 0 in
      let due : ℕ → ℕ = λ u. last in
      let e = ready_fresh p (by_site p due) (max c (suc c)) d in
      let first : E → c ≡ 0 = subst (λ x. Awaits E c x last (q.due m)) un q.main in
      let new : Lasts p E c (suc c) due y last = (v, d, omega (arith, e), λ x. omega (arith, e, first x)) in
      record {
        due = due;
        each = λ u. ⊎_elim
            (λ e. subst (λ z. Lasts p E c (put since m (suc c) u) due z last) (sym (put_same U m u y e))
            (subst (λ z. Lasts p E c z due y last) (sym (put_same since m u (suc c) e)) new))
            (λ e. subst (λ z. Lasts p E c (put since m (suc c) u) due z last) (sym (put_other U m u y e ∙ idle u)) tt)
            (cases_eq u m);
        main = (omega arith, λ x. omega arith);
      }

  module _ (c : ℕ) (since : ℕ → ℕ) (U : ℕ → Activity) (o : Stage) (h : Holds p args U o) (q : Timed p E last c since U o) where
    -- a free unit is awaited by none
    none_at : (e i : ℕ) → U e ≡ Free → Serves (U (p.unit (p.callee i))) i → p.unit (p.callee i) ≢ e
    none_at e i idle sv is = subst (λ x. Serves x i) (ap U is ∙ idle) sv

    -- a unit waits for no site of a free unit
    not_free : (u e : ℕ) → U e ≡ Free → (f j : ℕ) (xs : List Word) (s : ℕ → Stage) → U u ≡ Active f xs s j → (k : ℕ) → s k ≡ Sent → p.unit (p.callee k) ≢ e
    not_free u e idle f j xs s runs k sent =
        let r = running_at p args U o u f xs s j h runs in
        none_at e k idle (r.sent k sent).2

    main_apart : (o' : Stage) → o ≡ o' → (e x : ℕ) → U e ≡ Free → Awaits E c o' last (q.due (p.unit (p.callee 0))) → Awaits E c o' last (put q.due e x (p.unit (p.callee 0)))
    main_apart Unsent eo e x idle w = w
    main_apart Sent eo e x idle w =
        let sv = subst (λ y. Outside p args U y) eo h.main in
        let same = put_other q.due e (p.unit (p.callee 0)) x (none_at e 0 idle sv) in
        (omega (arith, w.0, same), λ x. omega (arith, w.1 x, same))
    main_apart (Returned y) eo e x idle w = w

    timed_accept : (k j : ℕ) (xs ws : List Word) (s : ℕ → Stage) → U (p.unit (p.caller k)) ≡ Active (p.caller k) xs s j → s k ≡ Unsent
        → wanted (back_of s) xs (p.body (p.caller k)) k ≡ Some ws → U (p.unit (p.callee k)) ≡ Free → since (p.unit (p.caller k)) ≤ c
        → Timed p E last c (put since (p.unit (p.callee k)) (suc c)) (moved U (p.unit (p.caller k)) (p.unit (p.callee k)) k Sent (Active (p.callee k) ws fresh k)) o
    timed_accept k j xs ws s runs unsent want idle may =
        let g = p.caller k in
        let f = p.callee k in
        let cu = p.unit g in
        let e = p.unit f in
        let now = max c (since cu) in
        let r = running_at p args U o cu g xs s j h runs in
        let a : Asks p s xs (p.body g) k ws = running_wants p n args U o cu g xs s j wf r k ws want in
        let b = wf.bodies g in
        let pl = place p s g true b.0 b.1 b.3 a in
        let apart : cu ≢ e = λ z. omega (arith, pl.lower, z) in
        let (x, dx, ex, fx) = lasts_at p E c (since cu) (q.due cu) q.due (U cu) (Active g xs s j) runs (q.each cu) in
        let mk : Marked s (put s k Sent) k = record { was = unsent; now = put_same s k k Sent refl; others = λ i z. put_other s k i Sent z } in
        let (y, dy, ey) = ready_call p (by_site p q.due) s (put s k Sent) now g true b.0 b.1 a dx b.3 mk in
        let then = now + (2 + span p dy) in
        let due' = put q.due e then in
        let dues : Dues (by_site p q.due) (by_site p due') s k then = record {
          at = put_same q.due e e then refl;
          others = λ i z sent. put_other q.due e (p.unit (p.callee i)) then (not_free cu e idle g j xs s runs i sent);
        } in
        let same = ey (by_site p due') dues in
        let at_e = put_same q.due e e then refl in
        let at_c = put_other q.due e cu then apart in
        let new = Active f ws fresh k in
        let fr = ready_fresh p (by_site p due') (max c (suc c)) dy in
        let callee : Lasts p E c (suc c) due' new (due' e) = (y, dy, omega (arith, at_e, fr, may), λ z. omega (arith, at_e, fr, may)) in
        let caller : Lasts p E c (since cu) due' (Active g xs (put s k Sent) j) (due' cu) = (x, dx, omega (arith, ex, same, at_c), λ z. omega (arith, fx z, same, at_c)) in
        let V = moved U cu e k Sent new in
        let since' = put since e (suc c) in
        let V_c : V cu ≡ Active g xs (put s k Sent) j = put_other (put U cu (mark (U cu) k Sent)) e cu new apart ∙ put_same U cu cu (mark (U cu) k Sent) refl ∙ ap (λ z. mark z k Sent) runs in
        record {
          due = due';
          each = λ u. ⊎_elim
              (λ z. subst (λ i. Lasts p E c (since' i) due' (V i) (due' i)) (sym z)
              (subst (λ l. Lasts p E c l due' (V e) (due' e)) (sym (put_same since e e (suc c) refl))
              (subst (λ l. Lasts p E c (suc c) due' l (due' e)) (sym (put_same (put U cu (mark (U cu) k Sent)) e e new refl)) callee)))
              (λ z. ⊎_elim
              (λ w. subst (λ i. Lasts p E c (since' i) due' (V i) (due' i)) (sym w)
              (subst (λ l. Lasts p E c l due' (V cu) (due' cu)) (sym (put_other since e cu (suc c) apart))
              (subst (λ l. Lasts p E c (since cu) due' l (due' cu)) (sym V_c) caller)))
              (λ w.
              let V_u : V u ≡ U u = put_other (put U cu (mark (U cu) k Sent)) e u new z ∙ put_other U cu u (mark (U cu) k Sent) w in
              subst (λ l. Lasts p E c l due' (V u) (due' u)) (sym (put_other since e u (suc c) z))
              (subst (λ l. Lasts p E c (since u) due' l (due' u)) (sym V_u)
              (subst (λ l. Lasts p E c (since u) due' (U u) l) (sym (put_other q.due e u then z))
              (lasts_alike p E n c (since u) q.due due' (U u) (q.due u) wf
              (λ f' j' xs' s' is i sent. sym (put_other q.due e (p.unit (p.callee i)) then (not_free u e idle f' j' xs' s' is i sent))) (q.each u)))))
              (cases_eq u cu))
              (cases_eq u e);
          main = main_apart o refl e then idle q.main;
        }

    timed_finish : (f j : ℕ) (x : Word) (xs : List Word) (s : ℕ → Stage) → U (p.unit f) ≡ Active f xs s j → answer (back_of s) xs (p.body f) ≡ Ready x
        → since (p.unit f) ≤ c → Timed p E last c (put since (p.unit f) (suc c)) (put U (p.unit f) (Giving x j)) o
    timed_finish f j x xs s runs a may =
        let u = p.unit f in
        let r = running_at p args U o u f xs s j h runs in
        let done = running_done p n args U o u f xs s j x wf r a in
        let (y, dy, ey, fy) = lasts_at p E c (since u) (q.due u) q.due (U u) (Active f xs s j) runs (q.each u) in
        let now = done_ready p (by_site p q.due) s (max c (since u)) done dy in
        one_turns p E last c u (suc c) since U (Giving x j) o o q (omega (arith, ey, now, may), λ z. omega (arith, fy z, now, may)) q.main

    timed_loop : (f g j : ℕ) (xs ws : List Word) (s : ℕ → Stage) → U (p.unit g) ≡ Active f xs s j → answer (back_of s) xs (p.body f) ≡ LoopTo g ws
        → since (p.unit g) ≤ c → Timed p E last c (put since (p.unit g) (suc c)) (put U (p.unit g) (Active g ws fresh j)) o
    timed_loop f g j xs ws s runs a may =
        let u = p.unit g in
        let r = running_at p args U o u f xs s j h runs in
        let tail = running_tail p n args U o u f xs s j g ws wf r a in
        let (y, dy, ey, fy) = lasts_at p E c (since u) (q.due u) q.due (U u) (Active f xs s j) runs (q.each u) in
        let (dz, ez) = tail_ready p (by_site p q.due) s (max c (since u)) _ tail dy refl in
        let fr = ready_fresh p (by_site p q.due) (max c (suc c)) dz in
        one_turns p E last c u (suc c) since U (Active g ws fresh j) o o q (y, dz, omega (arith, ey, ez, fr, may), λ z. omega (arith, fy z, ez, fr, may)) q.main

    timed_return : (x : Word) → o ≡ Sent → U (p.unit (p.callee 0)) ≡ Giving x 0 → since (p.unit (p.callee 0)) ≤ c
        → Timed p E last c since (put U (p.unit (p.callee 0)) Free) (Returned x)
    timed_return x sent del may =
        let m = p.unit (p.callee 0) in
        let w : (last ≤ q.due m) × (E → q.due m ≤ last) = subst (λ y. Awaits E c y last (q.due m)) sent q.main in
        let l = lasts_at p E c (since m) (q.due m) q.due (U m) (Giving x 0) del (q.each m) in
        record {
          due = q.due;
          each = λ u. ⊎_elim
              (λ e. subst (λ z. Lasts p E c (since u) q.due z (q.due u)) (sym (put_same U m u Free e)) tt)
              (λ e. subst (λ z. Lasts p E c (since u) q.due z (q.due u)) (sym (put_other U m u Free e)) (q.each u))
              (cases_eq u m);
          main = omega (arith, w.0, l.0, may);
        }

    timed_give : (k : ℕ) (x : Word) → k ≢ 0 → U (p.unit (p.callee k)) ≡ Giving x k → since (p.unit (p.callee k)) ≤ c
        → Timed p E last c since (moved U (p.unit (p.caller k)) (p.unit (p.callee k)) k (Returned x) Free) o
    timed_give k x nz del may =
        let g = p.caller k in
        let cu = p.unit g in
        let e = p.unit (p.callee k) in
        let m = delivering_at p args U o e x k h del in
        let (j, xs, s, runs, is_sent, asks) = asked_site p n args U o k m.words nz m.asked in
        let b = wf.bodies g in
        let pl = place p s g true b.0 b.1 b.3 asks in
        let apart : cu ≢ e = λ z. omega (arith, pl.lower, z) in
        let l = lasts_at p E c (since e) (q.due e) q.due (U e) (Giving x k) del (q.each e) in
        let (y, dy, ey, fy) = lasts_at p E c (since cu) (q.due cu) q.due (U cu) (Active g xs s j) runs (q.each cu) in
        let same = ready_alike p c (by_site p q.due) s (by_site p q.due) (put s k (Returned x)) (max c (since cu)) g true b.0 b.1 dy b.3
        (λ i _ _ later now le. came s k x (by_site p q.due) c is_sent (omega (arith, l.0, may)) i later now le) (omega arith) in
        let caller : Lasts p E c (since cu) q.due (Active g xs (put s k (Returned x)) j) (q.due cu) = (y, dy, omega (arith, ey, same), λ z. omega (arith, fy z, same)) in
        let V = moved U cu e k (Returned x) Free in
        let V_c : V cu ≡ Active g xs (put s k (Returned x)) j = put_other (put U cu (mark (U cu) k (Returned x))) e cu Free apart
        ∙ put_same U cu cu (mark (U cu) k (Returned x)) refl ∙ ap (λ z. mark z k (Returned x)) runs in
        record {
          due = q.due;
          each = λ u. ⊎_elim
              (λ z. subst (λ i. Lasts p E c (since u) q.due i (q.due u)) (sym (put_same (put U cu (mark (U cu) k (Returned x))) e u Free z)) tt)
              (λ z. ⊎_elim
              (λ w. subst (λ i. Lasts p E c (since i) q.due (V i) (q.due i)) (sym w) (subst (λ i. Lasts p E c (since cu) q.due i (q.due cu)) (sym V_c) caller))
              (λ w. subst (λ i. Lasts p E c (since u) q.due i (q.due u))
              (sym (put_other (put U cu (mark (U cu) k (Returned x))) e u Free z ∙ put_other U cu u (mark (U cu) k (Returned x)) w)) (q.each u))
              (cases_eq u cu))
              (cases_eq u e);
          main = q.main;
        }
      where
        came : (s : ℕ → Stage) (k : ℕ) (x : Word) (due : ℕ → ℕ) (c : ℕ) → s k ≡ Sent → due k ≤ c → (i later now : ℕ) → c ≤ now
            → by_stage (s i) later (due i) now ≡ by_stage (put s k (Returned x) i) later (due i) now
        came s k x due c sent le i later now from =
            ⊎_elim
            (λ z.
            let one = ap (λ r. by_stage r later (due i) now) (ap s z ∙ sent) in
            let two = ap (λ r. by_stage r later (due i) now) (put_same s k i (Returned x) z) in
            let is = ap due z in
            omega (arith, one, two, is, le, from))
            (λ z. sym (ap (λ r. by_stage r later (due i) now) (put_other s k i (Returned x) z)))
            (cases_eq i k)

  pub timed_step : {s t : Scene} {e : Event} (c : ℕ) (since : ℕ → ℕ) → Fine p args s → Step p args s e t → MayAct p c since e → Timed p E last c since s.units s.outside
      → Timed p E last c (since_event p c since e) t.units t.outside
  timed_step c since h (accept_main {s = s} e) may q =
      timed_main c since s.units s.outside h (λ u. all_idle p n args s.units s.outside wf h (unsent_not_sent s.outside e) n u (omega arith)) e q
  timed_step c since h (accept {s = s} {k = k} {j = j} {xs = xs} {ws = ws} {sites = r} runs unsent want idle) may q =
      timed_accept c since s.units s.outside h q (suc k) j xs ws r runs unsent want idle may
  timed_step c since h (finish {s = s} {f = f} {j = j} {v = x} {xs = xs} {sites = r} runs a) may q =
      timed_finish c since s.units s.outside h q f j x xs r runs a may
  timed_step c since h (loop {s = s} {f = f} {h = g} {j = j} {xs = xs} {ws = ws} {sites = r} runs a) may q =
      timed_loop c since s.units s.outside h q f g j xs ws r runs a may
  timed_step c since h (return_main {s = s} {v = x} del) may q =
      let m = delivering_at p args s.units s.outside (p.unit (p.callee 0)) x 0 h del in
      timed_return c since s.units s.outside h q x (outside_words p n args s.units s.outside 0 m.words wf refl m.asked).1 del may
  timed_step c since h (give {s = s} {k = k} {v = x} del) may q =
      timed_give c since s.units s.outside h q (suc k) x (λ z. absurd (omega (arith, z))) del may
