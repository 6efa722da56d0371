-- Each event keeps the invariant.
use Rattle.safl_calls.proofs.Common.{Event, Gives, IsNumbered, Program, Word, back_of, cases_eq, place, put}
use Rattle.std.proofs.Common.{◌≡◌, ℕ, zero, suc, ◌+◌, ◌≤◌, List, Some, true, refl, sym, ap, ◌∙◌, subst, arith, ⊎_elim}
use Rattle.std.specs.Prelude.{◌≢◌}
use Rattle.safl_calls.proofs.Activities.{fresh, Activity, Free, Active, Giving, Scene, opening, mark, Step, accept_main, accept, finish, loop, return_main, give, Trail, l_none, l_more}
use Rattle.safl_term.proofs.Shows.{Asks, Keeps, asks_keep}
use Rattle.safl_term.specs.Readiness.{Stage, Unsent, Sent, Returned, wanted}
use Rattle.safl_term.proofs.Apart.{sent_returned, unsent_not_sent}
use Rattle.safl_calls.proofs.Holds.{Asked, At, Holds, NotReturned, NotRunning, Running, Serves, delivering_at, frame, fresh_not, fresh_unsent}
use Rattle.safl_calls.proofs.Holds.{from_outside, from_site, holds_finish, holds_loop, not_sent, outside_kept, put_other, put_same, running_at}
use Rattle.safl_calls.proofs.Holds.{running_wants}

mark_serves : (y : Activity) (i k : ℕ) (x : Stage) → Serves y k → Serves (mark y i x) k
mark_serves Free i k x q = q
mark_serves (Active f xs s j) i k x q = q
mark_serves (Giving v j) i k x q = q

marked_keeps : (s : ℕ → Stage) (i : ℕ) (x : Stage) → ((w : Word) → s i ≡ Returned w → ⊥) → Keeps s (put s i x)
marked_keeps s i x never k w e =
    ⊎_elim (λ q. absurd (never w (subst (λ y. s y ≡ Returned w) q e))) (λ q. put_other s i k x q ∙ e) (cases_eq k i)

-- the units after c's site i came into state x, and unit e into y
abbrev pub moved : (ℕ → Activity) → ℕ → ℕ → ℕ → Stage → Activity → ℕ → Activity
moved U c e i x y = put (put U c (mark (U c) i x)) e y

unsent_returned : (x : Stage) (w : Word) → x ≡ Unsent → x ≡ Returned w → ⊥
unsent_returned x w e q = cc

same_word : (v w : Word) → Returned v ≡ Returned w → v ≡ w
same_word v w e = cc

-- a caller's site i comes into another state, and so does the unit of its callee
module _ (p : Program) (n : ℕ) (args : List Word) (U : ℕ → Activity) (o : Stage) (c e i : ℕ) (x : Stage) (y : Activity) (wf : IsNumbered p n)
    (apart : c ≢ e) (not_returned : NotReturned i (U c)) (not_running : NotRunning (U e)) where
  moved_at_c : (u : ℕ) → u ≡ c → (moved U c e i x y) u ≡ mark (U u) i x
  moved_at_c u q =
      put_other (put U c (mark (U c) i x)) e u y (λ z. apart (sym q ∙ z)) ∙ put_same U c u (mark (U c) i x) q ∙ ap (λ z. mark (U z) i x) (sym q)

  moved_at_e : (u : ℕ) → u ≡ e → (moved U c e i x y) u ≡ y
  moved_at_e u q = put_same (put U c (mark (U c) i x)) e u y q

  moved_at_other : (u : ℕ) → u ≢ c → u ≢ e → (moved U c e i x y) u ≡ U u
  moved_at_other u q r = put_other (put U c (mark (U c) i x)) e u y r ∙ put_other U c u (mark (U c) i x) q

  moved_asked : (k : ℕ) (ws : List Word) → k ≢ i → Asked p args U o k ws → Asked p args (moved U c e i x y) o k ws
  moved_asked k ws other (from_outside z q) = from_outside z q
  moved_asked k ws other (from_site {j = j} {xs = zs} {s = r} eu es a) =
      ⊎_elim
      (λ q.
      let never = subst (NotReturned i) (ap U (sym q) ∙ eu) not_returned in
      from_site (moved_at_c (p.unit (p.caller k)) q ∙ ap (λ z. mark z i x) eu) (put_other r i k x other ∙ es) (asks_keep p r (put r i x) (marked_keeps r i x never) a))
      (λ q. ⊎_elim
      (λ z. absurd (subst NotRunning (ap U (sym z) ∙ eu) not_running))
      (λ z. from_site (moved_at_other (p.unit (p.caller k)) q z ∙ eu) es a)
      (cases_eq (p.unit (p.caller k)) e))
      (cases_eq (p.unit (p.caller k)) c)

  moved_served : (u k : ℕ) → (Serves (U e) k → ⊥) → Serves (U u) k → Serves ((moved U c e i x y) u) k
  moved_served u k never q =
      ⊎_elim
      (λ z. subst (λ w. Serves w k) (sym (moved_at_c u z)) (mark_serves (U u) i k x q))
      (λ z. ⊎_elim
      (λ r. absurd (never (subst (λ w. Serves (U w) k) r q)))
      (λ r. subst (λ w. Serves w k) (sym (moved_at_other u z r)) q)
      (cases_eq u e))
      (cases_eq u c)

  -- the units that are neither
  moved_rest : (u : ℕ) → p.unit (p.callee i) ≡ e → ((k : ℕ) → 1 ≤ k → p.unit (p.caller k) ≡ u → Serves (U e) k → ⊥) → u ≢ c → u ≢ e → At p args U o u
      (U u) → At p args (moved U c e i x y) o u ((moved U c e i x y) u)
  moved_rest u home never q r h =
      subst (At p args (moved U c e i x y) o u) (sym (moved_at_other u q r))
      (frame p n args U (moved U c e i x y) o o u (U u) wf
      (λ k ws z a. moved_asked k ws (λ l. r (sym z ∙ ap (λ w. p.unit (p.callee w)) l ∙ home)) a)
      (λ k l z a. moved_served (p.unit (p.callee k)) k (never k l z) a)
      h)

  -- the caller
  moved_caller : (f : ℕ) (xs : List Word) (s : ℕ → Stage) (j : ℕ) → p.unit (p.callee i) ≡ e → ((k : ℕ) → k ≢ i → Serves (U e) k → ⊥) → U c ≡ Active f xs s j → Running p args U o c f xs s j
      → ((w : Word) → x ≡ Returned w → (ws : List Word) × Asks p s xs (p.body f) i ws × Gives p ws (p.body (p.callee i)) w)
      → (x ≡ Sent → (ws : List Word) × Asks p s xs (p.body f) i ws × Serves y i)
      → At p args (moved U c e i x y) o c ((moved U c e i x y) c)
  moved_caller f xs s j home never runs r good sent =
      let none = subst (NotReturned i) runs not_returned in
      let keeps = marked_keeps s i x none in
      let new : Running p args (moved U c e i x y) o c f xs (put s i x) j = record {
        own = r.own;
        good = λ k w q. ⊎_elim
            (λ z.
            let g = good w (sym (put_same s i k x z) ∙ q) in
            (g.0, subst (λ l. Asks p (put s i x) xs (p.body f) l g.0) (sym z) (asks_keep p s (put s i x) keeps g.1), subst (λ l. Gives p g.0 (p.body (p.callee l)) w) (sym z) g.2))
            (λ z. let g = r.good k w (sym (put_other s i k x z) ∙ q) in (g.0, asks_keep p s (put s i x) keeps g.1, g.2))
            (cases_eq k i);
        sent = λ k q. ⊎_elim
            (λ z.
            let g = sent (sym (put_same s i k x z) ∙ q) in
            let at_e = moved_at_e (p.unit (p.callee k)) (ap (λ l. p.unit (p.callee l)) z ∙ home) in
            (g.0, subst (λ l. Asks p (put s i x) xs (p.body f) l g.0) (sym z) (asks_keep p s (put s i x) keeps g.1), subst (λ w. Serves w k) (sym at_e) (subst (λ l. Serves y l) (sym z) g.2)))
            (λ z. let g = r.sent k (sym (put_other s i k x z) ∙ q) in (g.0, asks_keep p s (put s i x) keeps g.1, moved_served (p.unit (p.callee k)) k (never k z) g.2))
            (cases_eq k i);
        words = r.words;
        asked = moved_asked j r.words (λ z. apart (sym r.home ∙ ap (λ l. p.unit (p.callee l)) z ∙ home)) r.asked;
        chain = r.chain;
        home = r.home;
      } in
      subst (At p args (moved U c e i x y) o c) (sym (moved_at_c c refl ∙ ap (λ z. mark z i x) runs)) new

pub asked_site : (p : Program) (n : ℕ) (args : List Word) (U : ℕ → Activity) (o : Stage) (k : ℕ) (ws : List Word) → k ≢ 0 → Asked p args U o k ws →
    (j : ℕ) × (xs : List Word) × (s : ℕ → Stage) × (U (p.unit (p.caller k)) ≡ Active (p.caller k) xs s j) × (s k ≡ Sent) × Asks p s xs (p.body (p.caller k)) k ws
asked_site p n args U o k ws z (from_outside q e) = absurd (z q)
asked_site p n args U o k ws z (from_site {j = j} {xs = xs} {s = s} eu es a) = (j, xs, s, eu, es, a)

sent_unsent : (x : Stage) → x ≡ Unsent → x ≡ Sent → ⊥
sent_unsent x e q = cc

pub holds_accept : (p : Program) (n : ℕ) (args : List Word) (U : ℕ → Activity) (o : Stage) (k j : ℕ) (xs ws : List Word) (s : ℕ → Stage) → IsNumbered
    p n → Holds p args U o → U (p.unit (p.caller k)) ≡ Active (p.caller k) xs s j → s k ≡ Unsent → wanted (back_of s) xs (p.body (p.caller k)) k ≡
    Some ws → U (p.unit (p.callee k)) ≡ Free
    → Holds p args (moved U (p.unit (p.caller k)) (p.unit (p.callee k)) k Sent (Active (p.callee k) ws fresh k)) o
holds_accept p n args U o k j xs ws s wf h runs unsent want idle =
    let g = p.caller k in
    let f = p.callee k in
    let c = p.unit g in
    let e = p.unit f in
    let y : Activity = Active f ws fresh k in
    let r = running_at p args U o c g xs s j h runs in
    let q : Asks p s xs (p.body g) k ws × (s k ≡ Unsent) = (running_wants p n args U o c g xs s j wf r k ws want, unsent) in
    let b = wf.bodies g in
    let pl = place p s g true b.0 b.1 b.3 q.0 in
    let apart : c ≢ e = λ z. omega (arith, pl.lower) in
    let not_returned : NotReturned k (U c) = subst (NotReturned k) (sym runs) (λ w z. unsent_returned (s k) w q.1 z) in
    let not_running : NotRunning (U e) = subst NotRunning (sym idle) tt in
    let free : (i : ℕ) → Serves (U e) i → ⊥ = λ i z. subst (λ w. Serves w i) idle z in
    let caller = moved_caller p n args U o c e k Sent y wf apart not_returned not_running g xs s j refl (λ i l z. free i z) runs r
    (λ w z. absurd (sent_returned w z))
    (λ z. (ws, q.0, refl)) in
    let callee : At p args (moved U c e k Sent y) o e y = record {
      own = refl;
      good = λ i w z. absurd (fresh_not i w z);
      sent = λ i z. absurd (fresh_unsent i z);
      words = ws;
      asked = from_site
          (moved_at_c p n args U o c e k Sent y wf apart not_returned not_running c refl ∙ ap (λ z. mark z k Sent) runs)
          (put_same s k k Sent refl)
          (asks_keep p s (put s k Sent) (marked_keeps s k Sent (λ w z. unsent_returned (s k) w q.1 z)) q.0);
      chain = λ v z. z;
      home = refl;
    } in
    record {
      at = λ u. ⊎_elim
          (λ z. subst (λ v. At p args (moved U c e k Sent y) o v (moved U c e k Sent y v)) (sym z)
          (subst (At p args (moved U c e k Sent y) o e) (sym (moved_at_e p n args U o c e k Sent y wf apart not_returned not_running e refl)) callee))
          (λ z. ⊎_elim
          (λ l. subst (λ v. At p args (moved U c e k Sent y) o v (moved U c e k Sent y v)) (sym l) caller)
          (λ l. moved_rest p n args U o c e k Sent y wf apart not_returned not_running u refl (λ i a b m. free i m) l z (h.at u))
          (cases_eq u c))
          (cases_eq u e);
      main = outside_kept p args U (moved U c e k Sent y) o (λ z. moved_served p n args U o c e k Sent y wf apart not_returned not_running (p.unit (p.callee 0)) 0 (free 0) z) h.main;
    }

pub holds_give : (p : Program) (n : ℕ) (args : List Word) (U : ℕ → Activity) (o : Stage) (k : ℕ) (v : Word) → k ≢ 0 → IsNumbered p n → Holds p args U o → U (p.unit (p.callee k)) ≡ Giving v k
    → Holds p args (moved U (p.unit (p.caller k)) (p.unit (p.callee k)) k (Returned v) Free) o
holds_give p n args U o k v nz wf h del =
    let g = p.caller k in
    let f = p.callee k in
    let c = p.unit g in
    let e = p.unit f in
    let d = delivering_at p args U o e v k h del in
    let (j, xs, s, runs, is_sent, asks) = asked_site p n args U o k d.words nz d.asked in
    let r = running_at p args U o c g xs s j h runs in
    let b = wf.bodies g in
    let pl = place p s g true b.0 b.1 b.3 asks in
    let apart : c ≢ e = λ z. omega (arith, pl.lower) in
    let not_returned : NotReturned k (U c) = subst (NotReturned k) (sym runs) (λ w z. not_sent (s k) w z is_sent) in
    let not_running : NotRunning (U e) = subst NotRunning (sym del) tt in
    let served : (i : ℕ) → Serves (U e) i → k ≡ i = λ i z. subst (λ w. Serves w i) del z in
    let caller = moved_caller p n args U o c e k (Returned v) Free wf apart not_returned not_running g xs s j refl (λ i l z. l (sym (served i z))) runs r
    (λ w z. (d.words, asks, subst (λ w. Gives p d.words (p.body f) w) (same_word v w z) d.value))
    (λ z. absurd (sent_returned v (sym z))) in
    record {
      at = λ u. ⊎_elim
          (λ z. subst (At p args (moved U c e k (Returned v) Free) o u) (sym (moved_at_e p n args U o c e k (Returned v) Free wf apart not_returned not_running u z)) tt)
          (λ z. ⊎_elim
          (λ l. subst (λ w. At p args (moved U c e k (Returned v) Free) o w (moved U c e k (Returned v) Free w)) (sym l) caller)
          (λ l. moved_rest p n args U o c e k (Returned v) Free wf apart not_returned not_running u refl (λ i a b m. l (sym b ∙ ap (λ w. p.unit (p.caller w)) (sym (served i m)))) l z (h.at u))
          (cases_eq u c))
          (cases_eq u e);
      main = outside_kept p args U (moved U c e k (Returned v) Free) o
          (λ z. moved_served p n args U o c e k (Returned v) Free wf apart not_returned not_running (p.unit (p.callee 0)) 0 (λ m. nz (served 0 m)) z) h.main;
    }

-- while the call from outside is not in flight, all units are idle
pub all_idle : (p : Program) (n : ℕ) (args : List Word) (U : ℕ → Activity) (o : Stage) → IsNumbered p n → Holds p args U o → o ≢ Sent → (m u : ℕ) → n ≤ u + m → U u ≡ Free
all_idle p n args U o wf h out zero u le = by_unit (U u) refl
  where
    by_unit : (x : Activity) → U u ≡ x → U u ≡ Free
    by_unit Free q = q
    by_unit (Active f xs s k) q = let r = running_at p args U o u f xs s k h q in absurd (omega (arith, r.home, wf.below (p.callee k)))
    by_unit (Giving v k) q = let r = delivering_at p args U o u v k h q in absurd (omega (arith, r.home, wf.below (p.callee k)))
all_idle p n args U o wf h out (suc m) u le = by_unit (U u) refl (λ w l. all_idle p n args U o wf h out m w l)
  where
    by_asked : (k : ℕ) (ws : List Word) → p.unit (p.callee k) ≡ u → Asked p args U o k ws → ((w : ℕ) → n ≤ w + m → U w ≡ Free) → ⊥
    by_asked k ws home (from_outside z e) above = out e
    by_asked k ws home (from_site {xs = xs} {s = s} eu es a) above =
        let b = wf.bodies (p.caller k) in
        let pl = place p s (p.caller k) true b.0 b.1 b.3 a in
        subst NotRunning (sym (above (p.unit (p.caller k)) (omega (arith, pl.lower, home))) ∙ eu) tt

    by_unit : (x : Activity) → U u ≡ x → ((w : ℕ) → n ≤ w + m → U w ≡ Free) → U u ≡ Free
    by_unit Free q above = q
    by_unit (Active f xs s k) q above = let r = running_at p args U o u f xs s k h q in absurd (by_asked k r.words r.home r.asked above)
    by_unit (Giving v k) q above = let r = delivering_at p args U o u v k h q in absurd (by_asked k r.words r.home r.asked above)

pub holds_main : (p : Program) (n : ℕ) (args : List Word) (U : ℕ → Activity) (o : Stage) → IsNumbered p n → Holds p args U o → o ≡ Unsent → Holds p
    args (put U (p.unit (p.callee 0)) (Active (p.callee 0) args fresh 0)) Sent
holds_main p n args U o wf h e =
    let m = p.unit (p.callee 0) in
    let y : Activity = Active (p.callee 0) args fresh 0 in
    let new : At p args (put U m y) Sent m y = record {
      own = refl;
      good = λ i w z. absurd (fresh_not i w z);
      sent = λ i z. absurd (fresh_unsent i z);
      words = args;
      asked = from_outside refl refl;
      chain = λ v z. z;
      home = refl;
    } in
    record {
      at = λ u. ⊎_elim
          (λ z. subst (λ x. At p args (put U m y) Sent x (put U m y x)) (sym z) (subst (At p args (put U m y) Sent m) (sym (put_same U m m y refl)) new))
          (λ z. subst (At p args (put U m y) Sent u) (sym (put_other U m u y z ∙ all_idle p n args U o wf h (unsent_not_sent o e) n u (omega arith))) tt)
          (cases_eq u m);
      main = subst (λ x. Serves x 0) (sym (put_same U m m y refl)) refl;
    }

-- what main was asked
pub outside_words : (p : Program) (n : ℕ) (args : List Word) (U : ℕ → Activity) (o : Stage) (k : ℕ) (ws : List Word) → IsNumbered p n → k ≡ 0 → Asked p args U o k ws → (ws ≡ args) × (o ≡ Sent)
outside_words p n args U o k ws wf z (from_outside q e) = (refl, e)
outside_words p n args U o k ws wf z (from_site {s = s} eu es a) =
    let b = wf.bodies (p.caller k) in
    let pl = place p s (p.caller k) true b.0 b.1 b.3 a in
    absurd (omega (arith, pl.above, b.2))

pub holds_return : (p : Program) (n : ℕ) (args : List Word) (U : ℕ → Activity) (o : Stage) (v : Word) → IsNumbered p n → Holds p args U o → U
    (p.unit (p.callee 0)) ≡ Giving v 0 → Holds p args (put U (p.unit (p.callee 0)) Free) (Returned v)
holds_return p n args U o v wf h del =
    let m = p.unit (p.callee 0) in
    let d = delivering_at p args U o m v 0 h del in
    let same = (outside_words p n args U o 0 d.words wf refl d.asked).0 in
    record {
      at = λ u. ⊎_elim
          (λ z. subst (At p args (put U m Free) (Returned v) u) (sym (put_same U m u Free z)) tt)
          (λ z. subst (At p args (put U m Free) (Returned v) u) (sym (put_other U m u Free z))
          (frame p n args U (put U m Free) o (Returned v) u (U u) wf (λ k ws home q. asked_on k ws u home z q)
          (λ k l i q. served_on k (p.unit (p.callee k)) l q) (h.at u)))
          (cases_eq u m);
      main = subst (λ ws. Gives p ws (p.body (p.callee 0)) v) same d.value;
    }
  where
    asked_on : (k : ℕ) (ws : List Word) (u : ℕ) → p.unit (p.callee k) ≡ u → u ≢ p.unit (p.callee 0) → Asked p args U o k ws → Asked p args (put U (p.unit (p.callee 0)) Free) (Returned v) k ws
    asked_on k ws u home z (from_outside q e) = absurd (z (sym home ∙ ap (λ i. p.unit (p.callee i)) q))
    asked_on k ws u home z (from_site eu es a) =
        ⊎_elim
        (λ l. absurd (subst NotRunning (sym del ∙ ap U (sym l) ∙ eu) tt))
        (λ l. from_site (put_other U (p.unit (p.callee 0)) (p.unit (p.caller k)) Free l ∙ eu) es a)
        (cases_eq (p.unit (p.caller k)) (p.unit (p.callee 0)))

    served_on : (k u : ℕ) → 1 ≤ k → Serves (U u) k → Serves (put U (p.unit (p.callee 0)) Free u) k
    served_on k u l q =
        ⊎_elim
        (λ z. let i : 0 ≡ k = subst (λ x. Serves x k) (ap U z ∙ del) q in absurd (omega arith))
        (λ z. subst (λ x. Serves x k) (sym (put_other U (p.unit (p.callee 0)) u Free z)) q)
        (cases_eq u (p.unit (p.callee 0)))

-- of a state
abbrev pub Fine : Program → List Word → Scene → Type 0
Fine p args s = Holds p args s.units s.outside

pub fine_opening : (p : Program) (args : List Word) → Fine p args opening
fine_opening p args = record { at = λ u. tt; main = tt }

pub fine_step : (p : Program) (n : ℕ) (args : List Word) {s t : Scene} {e : Event} → IsNumbered p n → Fine p args s → Step p args s e t → Fine p args t
fine_step p n args wf h (accept_main {s = s} e) = holds_main p n args s.units s.outside wf h e
fine_step p n args wf h (accept {s = s} {k = k} {j = j} {xs = xs} {ws = ws} {sites = r} runs unsent want idle) = holds_accept p n args s.units s.outside (suc k) j xs ws r wf h runs unsent want idle
fine_step p n args wf h (finish {s = s} {f = f} {j = j} {v = v} {xs = xs} {sites = r} runs a) = holds_finish p n args s.units s.outside f xs r j v wf h runs a
fine_step p n args wf h (loop {s = s} {f = f} {h = g} {j = j} {xs = xs} {ws = ws} {sites = r} runs a) = holds_loop p n args s.units s.outside f g xs ws r j wf h runs a
fine_step p n args wf h (return_main {s = s} {v = v} del) = holds_return p n args s.units s.outside v wf h del
fine_step p n args wf h (give {s = s} {k = k} {v = v} del) = holds_give p n args s.units s.outside (suc k) v (λ z. absurd (omega arith)) wf h del

pub fine_legal : (p : Program) (n : ℕ) (args : List Word) {s t : Scene} {es : List Event} → IsNumbered p n → Fine p args s → Trail p args s es t → Fine p args t
fine_legal p n args wf h l_none = h
fine_legal p n args wf h (l_more e l) = fine_legal p n args wf (fine_step p n args wf h e) l
