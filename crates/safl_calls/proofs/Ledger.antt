-- What is still owed after each event, given an evaluation of main.
use Rattle.safl_calls.proofs.Common.{Gives, IsNumbered, Main, Program, Word, back_of, cases_eq, place}
use Rattle.std.proofs.Common.{◌≡◌, ℕ, zero, suc, ◌+◌, ◌<◌, ◌≤◌, List, true, refl, sym, ap, ◌∙◌, subst, arith, ⊎_elim, Some}
use Rattle.std.specs.Prelude.{◌≢◌}
use Rattle.safl_calls.proofs.Activities.{fresh, Activity, Free, Active, Giving, Scene, opening, mark, Step, accept_main, accept, finish, loop, return_main, give, Trail, l_none, l_more, words_of}
use Rattle.safl_calls.proofs.Holds.{put_same, put_other, Holds, running_at, delivering_at, running_done, running_tail, running_wants}
use Rattle.safl_calls.proofs.Preserved.{Fine, fine_step, fine_legal, fine_opening, asked_site, all_idle, moved, outside_words}
use Rattle.safl_calls.proofs.Owed.{Weights, if_unsent, owed, owed_alike, done_owed, tail_owed, Marked, owed_call}
use Rattle.safl_calls.specs.Machine.{put, Event, Accept, Finish, Return, LoopInto}
use Rattle.safl_term.specs.Readiness.{Stage, Unsent, Sent, Returned, Ready, LoopTo, answer, wanted}
use Rattle.safl_term.proofs.Shows.{Asks}
use Rattle.safl_term.proofs.Apart.{returned_not_sent, unsent_not_sent}

abbrev pub sum_to : ℕ → (ℕ → ℕ) → ℕ
sum_to zero f = 0
sum_to (suc n) f = sum_to n f + f n

sum_alike : (n : ℕ) (f g : ℕ → ℕ) → ((i : ℕ) → i < n → f i ≡ g i) → sum_to n f ≡ sum_to n g
sum_alike zero f g h = refl
sum_alike (suc n) f g h = let a = sum_alike n f g (λ i l. h i (omega arith)) in omega (arith, a, h n (omega arith))

sum_zero : (n : ℕ) (f : ℕ → ℕ) → ((i : ℕ) → i < n → f i ≡ 0) → sum_to n f ≡ 0
sum_zero zero f h = refl
sum_zero (suc n) f h = let a = sum_zero n f (λ i l. h i (omega arith)) in omega (arith, a, h n (omega arith))

sum_put : (n : ℕ) (f : ℕ → ℕ) (u x : ℕ) → u < n → sum_to n (put f u x) + f u ≡ sum_to n f + x
sum_put zero f u x lt = absurd (omega arith)
sum_put (suc n) f u x lt =
    ⊎_elim
    (λ e.
    let a = sum_alike n (put f u x) f (λ i l. put_other f u i x (λ z. omega (arith, z, e))) in
    let b = put_same f u n x (sym e) in
    let c = ap f e in
    omega (arith, a, b, c))
    (λ e.
    let a = sum_put n f u x (omega arith) in
    let b = put_other f u n x (λ z. e (sym z)) in
    omega (arith, a, b))
    (cases_eq u n)

-- what a unit owes
abbrev pub Owes : Program → Weights → Activity → ℕ → Type 0
Owes p w Free n = n ≡ 0
Owes p w (Active f xs s j) n = (v : Word) × (d : Gives p xs (p.body f) v) × (n ≡ w.finish + (w.give + owed p w s d))
Owes p w (Giving v j) n = n ≡ w.give

-- what the call from outside owes
abbrev pub outside_due : Stage → ℕ → ℕ
outside_due Unsent n = n
outside_due Sent n = 0
outside_due (Returned v) n = 0

abbrev pub full : (p : Program) (w : Weights) (args : List Word) {v : Word} → Gives p args (p.body (p.callee 0)) v → ℕ
full p w args d = w.accept (p.callee 0) args + (w.finish + (w.give + owed p w fresh d))

pub record Due (p : Program) (w : Weights) (n all : ℕ) (U : ℕ → Activity) (o : Stage) (due : ℕ) : Type 0 where
  pub by_unit : ℕ → ℕ
  pub each : (u : ℕ) → Owes p w (U u) (by_unit u)
  pub total : sum_to n by_unit + outside_due o all ≡ due

-- what an event counts, by the state after it
abbrev pub counts : Program → Weights → Event → Scene → ℕ
counts p w (Accept k) t = w.accept (p.callee k) (words_of (t.units (p.unit (p.callee k))))
counts p w (Finish f) t = w.finish
counts p w (Return k) t = w.give
counts p w (LoopInto h) t = w.loop h (words_of (t.units (p.unit h)))

owes_put : (p : Program) (w : Weights) (U : ℕ → Activity) (b : ℕ → ℕ) (m x : ℕ) (y : Activity) → ((u : ℕ) → Owes p w (U u) (b u)) → Owes p w y x → (u : ℕ) → Owes p w (put U m y u) (put b m x u)
owes_put p w U b m x y h q u =
    ⊎_elim
    (λ e. subst (λ z. Owes p w z (put b m x u)) (sym (put_same U m u y e)) (subst (λ z. Owes p w y z) (sym (put_same b m u x e)) q))
    (λ e. subst (λ z. Owes p w z (put b m x u)) (sym (put_other U m u y e)) (subst (λ z. Owes p w (U u) z) (sym (put_other b m u x e)) (h u)))
    (cases_eq u m)

owes_at : (p : Program) (w : Weights) (U : ℕ → Activity) (b : ℕ → ℕ) (u : ℕ) (x : Activity) → U u ≡ x → ((i : ℕ) → Owes p w (U i) (b i)) → Owes p w x (b u)
owes_at p w U b u x e h = subst (λ z. Owes p w z (b u)) e (h u)

-- what is due after an event that counts c
abbrev pub After : Program → Weights → ℕ → ℕ → ℕ → ℕ → (ℕ → Activity) → Stage → Type 0
After p w n all due c U o = (rest : ℕ) × (due ≡ c + rest) × Due p w n all U o rest

-- one unit changes
one_changes : (p : Program) (w : Weights) (n all due c m x : ℕ) (U : ℕ → Activity) (y : Activity) (o q : Stage) (h : Due p w n all U o due) → m < n →
    Owes p w y x → h.by_unit m + outside_due o all ≡ c + x + outside_due q all → After p w n all due c (put U m y) q
one_changes p w n all due c m x U y o q h lt owes e =
    let s = sum_put n h.by_unit m x lt in
    let t = h.total in (
      sum_to n (put h.by_unit m x) + outside_due q all,
      omega (arith, s, t, e),
      record {
        by_unit = put h.by_unit m x;
        each = owes_put p w U h.by_unit m x y h.each owes;
        total = refl;
      },
    )

-- a caller and a callee change
two_change : (p : Program) (w : Weights) (n all due c m i x z k : ℕ) (U : ℕ → Activity) (y : Activity) (o t : Stage) (h : Due p w n all U o due) → m <
    n → i < n → m ≢ i → Owes p w (mark (U m) k t) x → Owes p w y z → h.by_unit m + h.by_unit i ≡ c + x + z → After p w n all due c (moved U m i k t y) o
two_change p w n all due c m i x z k U y o t h lt lt' apart owes owes' e =
    let b = put h.by_unit m x in
    let s = sum_put n h.by_unit m x lt in
    let r = sum_put n b i z lt' in
    let same = put_other h.by_unit m i x (λ l. apart (sym l)) in
    let total = h.total in (
      sum_to n (put b i z) + outside_due o all,
      omega (arith, s, r, same, total, e),
      record {
        by_unit = put b i z;
        each = owes_put p w (put U m (mark (U m) k t)) b i z y (owes_put p w U h.by_unit m x (mark (U m) k t) h.each owes) owes';
        total = refl;
      },
    )

unsent_due : (o : Stage) (n : ℕ) → o ≡ Unsent → outside_due o n ≡ n
unsent_due o n e = ap (λ x. outside_due x n) e

sent_due : (o : Stage) (n : ℕ) → o ≡ Sent → outside_due o n ≡ 0
sent_due o n e = ap (λ x. outside_due x n) e

-- the words of a unit that was put there
put_words : (U : ℕ → Activity) (m u f j : ℕ) (xs : List Word) (s : ℕ → Stage) → u ≡ m → words_of (put U m (Active f xs s j) u) ≡ xs
put_words U m u f j xs s e = ap words_of (put_same U m u (Active f xs s j) e)

module _ (p : Program) (w : Weights) (n : ℕ) (args : List Word) (v : Word) (d : Gives p args (p.body (p.callee 0)) v) (wf : IsNumbered p n) where
  due_main : (U : ℕ → Activity) (o : Stage) (due : ℕ) → Holds p args U o → o ≡ Unsent → Due p w n (full p w args d) U o due → After p w n
      (full p w args d) due (counts p w (Accept 0) (record {
        units = put U (p.unit (p.callee 0)) (Active (p.callee 0) args fresh 0);
        outside = Sent;
      })) (put U (p.unit (p.callee 0)) (Active (p.callee 0) args fresh 0)) Sent
  due_main U o due h e q =
      let m = p.unit (p.callee 0) in
      let idle = all_idle p n args U o wf h (unsent_not_sent o e) n m (omega arith) in
      let none = owes_at p w U q.by_unit m Free idle q.each in
      let opened = unsent_due o (full p w args d) e in
      let words = ap (w.accept (p.callee 0)) (put_words U m m (p.callee 0) 0 args fresh refl) in
      one_changes p w n (full p w args d) due _ m (w.finish + (w.give + owed p w fresh d)) U (Active (p.callee 0) args fresh 0) o Sent q
      (wf.below (p.callee 0)) (v, d, refl) (omega (arith, none, opened, words))

  due_accept : (U : ℕ → Activity) (o : Stage) (due k j : ℕ) (xs ws : List Word) (s : ℕ → Stage) → Holds p args U o → U (p.unit (p.caller k)) ≡ Active
      (p.caller k) xs s j → s k ≡ Unsent → wanted (back_of s) xs (p.body (p.caller k)) k ≡ Some ws → U (p.unit (p.callee k)) ≡ Free → Due p w n (full p w args d) U o due
      → After p w n (full p w args d) due (counts p w (Accept k)
      (record { units = moved U (p.unit (p.caller k)) (p.unit (p.callee k)) k Sent (Active (p.callee k) ws fresh k); outside = o }))
      (moved U (p.unit (p.caller k)) (p.unit (p.callee k)) k Sent (Active (p.callee k) ws fresh k)) o
  due_accept U o due k j xs ws s h runs unsent want idle q =
      let g = p.caller k in
      let f = p.callee k in
      let c = p.unit g in
      let e = p.unit f in
      let r = running_at p args U o c g xs s j h runs in
      let a : Asks p s xs (p.body g) k ws × (s k ≡ Unsent) = (running_wants p n args U o c g xs s j wf r k ws want, unsent) in
      let b = wf.bodies g in
      let pl = place p s g true b.0 b.1 b.3 a.0 in
      let apart : c ≢ e = λ z. omega (arith, pl.lower) in
      let (x, dx, ex) = owes_at p w U q.by_unit c (Active g xs s j) runs q.each in
      let mk : Marked s (put s k Sent) k = record { was = a.1; now = put_same s k k Sent refl; others = λ i z. put_other s k i Sent z } in
      let (y, dy, ey) = owed_call p w s (put s k Sent) g true b.0 b.1 a.0 dx b.3 mk in
      let none = owes_at p w U q.by_unit e Free idle q.each in
      let words = ap (w.accept f) (put_words (put U c (mark (U c) k Sent)) e e f k ws fresh refl) in
      let caller : Owes p w (mark (U c) k Sent) (w.finish + (w.give + owed p w (put s k Sent) dx)) = subst
      (λ z. Owes p w (mark z k Sent) (w.finish + (w.give + owed p w (put s k Sent) dx))) (sym runs) (x, dx, refl) in
      two_change p w n (full p w args d) due _ c e (w.finish + (w.give + owed p w (put s k Sent) dx)) (w.finish + (w.give + owed p w fresh dy)) k U
      (Active f ws fresh k) o Sent q (wf.below g) (wf.below f) apart caller (y, dy, refl)
      (omega (arith, ex, ey, none, words))

  due_finish : (U : ℕ → Activity) (o : Stage) (due f j : ℕ) (x : Word) (xs : List Word) (s : ℕ → Stage) → Holds p args U o → U (p.unit f) ≡ Active f
      xs s j → answer (back_of s) xs (p.body f) ≡ Ready x → Due p w n (full p w args d) U o due → After p w n (full p w args d) due w.finish
      (put U (p.unit f) (Giving x j)) o
  due_finish U o due f j x xs s h runs a q =
      let u = p.unit f in
      let r = running_at p args U o u f xs s j h runs in
      let done = running_done p n args U o u f xs s j x wf r a in
      let (y, dy, ey) = owes_at p w U q.by_unit u (Active f xs s j) runs q.each in
      let none = done_owed p w s done dy in
      one_changes p w n (full p w args d) due w.finish u w.give U (Giving x j) o o q (wf.below f) refl (omega (arith, ey, none))

  due_loop : (U : ℕ → Activity) (o : Stage) (due f g j : ℕ) (xs ws : List Word) (s : ℕ → Stage) → Holds p args U o → U (p.unit g) ≡ Active f xs s j →
      answer (back_of s) xs (p.body f) ≡ LoopTo g ws → Due p w n (full p w args d) U o due → After p w n (full p w args d) due
      (counts p w (LoopInto g) (record { units = put U (p.unit g) (Active g ws fresh j); outside = o })) (put U (p.unit g) (Active g ws fresh j)) o
  due_loop U o due f g j xs ws s h runs a q =
      let u = p.unit g in
      let r = running_at p args U o u f xs s j h runs in
      let tail = running_tail p n args U o u f xs s j g ws wf r a in
      let (y, dy, ey) = owes_at p w U q.by_unit u (Active f xs s j) runs q.each in
      let (dz, ez) = tail_owed p w s (owed p w s dy) tail dy refl in
      let words = ap (w.loop g) (put_words U u u g j ws fresh refl) in
      one_changes p w n (full p w args d) due _ u (w.finish + (w.give + owed p w fresh dz)) U (Active g ws fresh j) o o q (wf.below g) (y, dz, refl) (omega (arith, ey, ez, words))

  due_return : (U : ℕ → Activity) (o : Stage) (due : ℕ) (x : Word) → o ≡ Sent → U (p.unit (p.callee 0)) ≡ Giving x 0 → Due p w n (full p w args d) U o
      due → After p w n (full p w args d) due w.give (put U (p.unit (p.callee 0)) Free) (Returned x)
  due_return U o due x e del q =
      let u = p.unit (p.callee 0) in
      let ey = owes_at p w U q.by_unit u (Giving x 0) del q.each in
      let sent = sent_due o (full p w args d) e in
      one_changes p w n (full p w args d) due w.give u 0 U Free o (Returned x) q (wf.below (p.callee 0)) refl (omega (arith, ey, sent))

  due_give : (U : ℕ → Activity) (o : Stage) (due k : ℕ) (x : Word) → k ≢ 0 → Holds p args U o → U (p.unit (p.callee k)) ≡ Giving x k → Due p w n
      (full p w args d) U o due → After p w n (full p w args d) due w.give (moved U (p.unit (p.caller k)) (p.unit (p.callee k)) k (Returned x) Free) o
  due_give U o due k x nz h del q =
      let g = p.caller k in
      let c = p.unit g in
      let e = p.unit (p.callee k) in
      let m = delivering_at p args U o e x k h del in
      let (j, xs, s, runs, is_sent, asks) = asked_site p n args U o k m.words nz m.asked in
      let b = wf.bodies g in
      let pl = place p s g true b.0 b.1 b.3 asks in
      let apart : c ≢ e = λ z. omega (arith, pl.lower) in
      let (y, dy, ey) = owes_at p w U q.by_unit c (Active g xs s j) runs q.each in
      let ez = owes_at p w U q.by_unit e (Giving x k) del q.each in
      let alike = owed_alike p w s (put s k (Returned x)) g true b.0 b.1 dy b.3 (λ i l z t. returned_alike s k x i t is_sent) in
      let caller : Owes p w (mark (U c) k (Returned x)) (q.by_unit c) = subst (λ z. Owes p w (mark z k (Returned x)) (q.by_unit c)) (sym runs) (y, dy, omega (arith, ey, alike)) in
      two_change p w n (full p w args d) due w.give c e (q.by_unit c) 0 k U Free o (Returned x) q (wf.below g) (wf.below (p.callee k)) apart caller refl (omega (arith, ez))
    where
      returned_alike : (s : ℕ → Stage) (k : ℕ) (x : Word) (i t : ℕ) → s k ≡ Sent → if_unsent (s i) t ≡ if_unsent (put s k (Returned x) i) t
      returned_alike s k x i t e =
          ⊎_elim
          (λ z. ap (λ r. if_unsent r t) (ap s z ∙ e) ∙ sym (ap (λ r. if_unsent r t) (put_same s k i (Returned x) z)))
          (λ z. sym (ap (λ r. if_unsent r t) (put_other s k i (Returned x) z)))
          (cases_eq i k)

  due_step : {s t : Scene} {e : Event} (due : ℕ) → Fine p args s → Step p args s e t → Due p w n (full p w args d) s.units s.outside due → After p w n
      (full p w args d) due (counts p w e t) t.units t.outside
  due_step due h (accept_main {s = s} e) q = due_main s.units s.outside due h e q
  due_step due h (accept {s = s} {k = k} {j = j} {xs = xs} {ws = ws} {sites = r} runs unsent want idle) q = due_accept s.units s.outside due (suc k) j xs ws r h runs unsent want idle q
  due_step due h (finish {s = s} {f = f} {j = j} {v = x} {xs = xs} {sites = r} runs a) q = due_finish s.units s.outside due f j x xs r h runs a q
  due_step due h (loop {s = s} {f = f} {h = g} {j = j} {xs = xs} {ws = ws} {sites = r} runs a) q = due_loop s.units s.outside due f g j xs ws r h runs a q
  due_step due h (return_main {s = s} {v = x} del) q =
      let m = delivering_at p args s.units s.outside (p.unit (p.callee 0)) x 0 h del in
      due_return s.units s.outside due x (outside_words p n args s.units s.outside 0 m.words wf refl m.asked).1 del q
  due_step due h (give {s = s} {k = k} {v = x} del) q = due_give s.units s.outside due (suc k) x (λ z. absurd (omega arith)) h del q

-- what the events of a list count
abbrev pub counted : (p : Program) (w : Weights) {args : List Word} {s t : Scene} {es : List Event} → Trail p args s es t → ℕ
counted p w l_none = 0
counted p w (l_more {t = t} {e = e} q l) = counts p w e t + counted p w l

module _ (p : Program) (w : Weights) (n : ℕ) (args : List Word) (v : Word) (d : Main p args v) (wf : IsNumbered p n) where
  due_legal : {s t : Scene} {es : List Event} (due : ℕ) → Fine p args s → (l : Trail p args s es t) → Due p w n (full p w args d) s.units s.outside
      due → After p w n (full p w args d) due (counted p w l) t.units t.outside
  due_legal due h l_none q = (due, omega arith, q)
  due_legal due h (l_more e l) q =
      let (rest, e1, q1) = due_step p w n args v d wf due h e q in
      let (last, e2, q2) = due_legal rest (fine_step p n args wf h e) l q1 in
      (last, omega (arith, e1, e2), q2)

  opening_due : Due p w n (full p w args d) opening.units opening.outside (full p w args d)
  opening_due = record { by_unit = λ u. 0; each = λ u. refl; total = let z = sum_zero n (λ u. 0) (λ i l. refl) in omega (arith, z) }

  pub counted_at_most : {t : Scene} {es : List Event} (l : Trail p args opening es t) → counted p w l ≤ full p w args d
  counted_at_most l = let q = due_legal (full p w args d) (fine_opening p args) l opening_due in omega (arith, q.1)

  pub counted_all : {t : Scene} {es : List Event} (x : Word) (l : Trail p args opening es t) → t.outside ≡ Returned x → counted p w l ≡ full p w args d
  counted_all {t = t} x l r =
      let (rest, e, q) = due_legal (full p w args d) (fine_opening p args) l opening_due in
      let h = fine_legal p n args wf (fine_opening p args) l in
      let zero_of = λ (u : ℕ) (lt : u < n). owes_at p w t.units q.by_unit u Free (all_idle p n args t.units t.outside wf h (returned_not_sent t.outside x r) n u (omega arith)) q.each in
      let none = sum_zero n q.by_unit zero_of in
      let out = ap (λ o. outside_due o (full p w args d)) r in
      let total = q.total in
      omega (arith, e, none, out, total)
