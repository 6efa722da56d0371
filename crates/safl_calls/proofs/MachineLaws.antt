-- The laws of the machine, from those of the picture.
use Rattle.safl_calls.proofs.Common.{IsNumbered, IsPermutation, Program, back_of, bytes_eq-Decides, sent_unsent, unit_for}
use Rattle.std.proofs.Common.{◌≡◌, ◌≢◌, ℕ, zero, suc, ◌+◌, ◌*◌, ◌≤◌, List, [], ◌∷◌, ◌++◌, length, Some, None, cond, ◌==◌, nat_le, refl, sym, ap, ◌∙◌, subst, arith, is_some}
use Rattle.std.proofs.lemmas.Bool.{eq-eqb, and_from, le-leb}
use Rattle.safl_word.specs.Words.{Word, no_word, widths}
use Rattle.safl_term.specs.Readiness.{Stage, Unsent, Returned, Answer, LoopTo, NotYet, answer, wanted}
use Rattle.safl_term.specs.Meaning.{Main, main_cost, main_calls, loops, at_function}
use Rattle.safl_calls.specs.Machine.{State, Mode, Idle, Runs, Delivers, Event, Accept, Finish, Return, LoopInto, opening, is_unsent, back, says_as}
use Rattle.safl_calls.specs.Machine.{says, asked_as, Enabled, accept, loop_into, fire, Legal, after_event}
use Rattle.safl_calls.proofs.Basics.{serves}
use Rattle.safl_calls.specs.Starts.{event_start, starts_of, listed, goes_with}
use Rattle.safl_calls.proofs.Numbered.{Numbered}
use Rattle.safl_calls.proofs.Basics.{put_at}
use Rattle.safl_calls.proofs.Bodies.{wanted_stands}
use Rattle.safl_calls.proofs.Invariant.{Inv, inv_after, inv_fire, inv_open}
use Rattle.safl_calls.proofs.Activities.{Activity, Free, Active, Giving, Scene, Step, accept_main, accept as step_accept, finish as step_finish}
use Rattle.safl_calls.proofs.Activities.{loop as step_loop, return_main, give, Trail, applied, applied_by, words_of}
use Rattle.safl_calls.proofs.Picture.{own, own_at, activity, picture, trail, own_answer, own_wanted, step_of}
use Rattle.safl_calls.proofs.PictureLaws as law
use Rattle.safl_calls.specs.Starts.{starts_count}
use Rattle.safl_calls.specs.Moves.{moves_count}
use Rattle.std.specs.Str.{bytes_eq}

abbrev member_in : Activity → ℕ
member_in Free = 0
member_in (Active f xs s j) = f
member_in (Giving v j) = 0

abbrev args_in : Activity → List Word
args_in Free = []
args_in (Active f xs s j) = xs
args_in (Giving v j) = []

abbrev sites_in : Activity → ℕ → Stage
sites_in Free = λ k. Unsent
sites_in (Active f xs s j) = s
sites_in (Giving v j) = λ k. Unsent

abbrev serves_in : Activity → ℕ
serves_in Free = 0
serves_in (Active f xs s j) = j
serves_in (Giving v j) = j

abbrev word_in : Activity → Word
word_in Free = no_word
word_in (Active f xs s j) = no_word
word_in (Giving v j) = v

free_active : (f j : ℕ) (xs : List Word) (r : ℕ → Stage) → Free ≡ Active f xs r j → ⊥
free_active f j xs r e = grind arith

giving_active : (v : Word) (i f j : ℕ) (xs : List Word) (r : ℕ → Stage) → Giving v i ≡ Active f xs r j → ⊥
giving_active v i f j xs r e = grind arith

active_free : (f j : ℕ) (xs : List Word) (r : ℕ → Stage) → Active f xs r j ≡ Free → ⊥
active_free f j xs r e = grind arith

giving_free : (v : Word) (i : ℕ) → Giving v i ≡ Free → ⊥
giving_free v i e = grind arith

free_giving : (v : Word) (i : ℕ) → Free ≡ Giving v i → ⊥
free_giving v i e = grind arith

active_giving : (f j : ℕ) (xs : List Word) (r : ℕ → Stage) (v : Word) (i : ℕ) → Active f xs r j ≡ Giving v i → ⊥
active_giving f j xs r v i e = grind arith

module _ (C : Program) (site : ℕ → Stage) where
  pub as_runs : (m : Mode) (f j : ℕ) (xs : List Word) (r : ℕ → Stage) → activity C site m ≡ Active f xs r j → (m ≡ Runs f j xs) × (own C site f ≡ r)
  as_runs Idle f j xs r e = absurd (free_active f j xs r e)
  as_runs (Delivers i v) f j xs r e = absurd (giving_active v i f j xs r e)
  as_runs (Runs g i ws) f j xs r e = (
    ap (λ n. Runs n i ws) (ap member_in e) ∙ ap (λ n. Runs f n ws) (ap serves_in e) ∙ ap (Runs f j) (ap args_in e),
    sym (ap (own C site) (ap member_in e)) ∙ ap sites_in e,
  )

  as_idle : (m : Mode) → activity C site m ≡ Free → m ≡ Idle
  as_idle Idle e = refl
  as_idle (Runs g i ws) e = absurd (active_free g i ws _ e)
  as_idle (Delivers i v) e = absurd (giving_free v i e)

  pub as_delivers : (m : Mode) (v : Word) (k : ℕ) → activity C site m ≡ Giving v k → m ≡ Delivers k v
  as_delivers Idle v k e = absurd (free_giving v k e)
  as_delivers (Runs g i ws) v k e = absurd (active_giving g i ws _ v k e)
  as_delivers (Delivers i w) v k e = ap (λ n. Delivers n w) (ap serves_in e) ∙ ap (Delivers k) (ap word_in e)

module _ (C : Program) (args : List Word) (good : Numbered C) (s : State) (inv : Inv C s) (sized : widths args ≡ C.params C.main) where
  -- before main was accepted, main's unit is idle
  main_idle : s.site 0 ≡ Unsent → s.unit (unit_for C 0) ≡ Idle
  main_idle un = by (s.unit (unit_for C 0)) refl
    where
      never : (k : ℕ) → serves (s.unit (unit_for C 0)) ≡ Some k → ⊥
      never zero e = sent_unsent (sym (inv.serving (unit_for C 0) zero e).0 ∙ un)
      never (suc k) e = let v = inv.serving (unit_for C 0) (suc k) e in good.main_last (suc k) (omega arith) v.2 (v.1 ∙ ap C.unit good.outside)

      by : (m : Mode) → s.unit (unit_for C 0) ≡ m → s.unit (unit_for C 0) ≡ Idle
      by Idle e = e
      by (Runs f k ws) e = absurd (never k (ap serves e))
      by (Delivers k v) e = absurd (never k (ap serves e))

  enabled_of : (e : Event) (t : Scene) → Step C args (picture C s) e t → Enabled C args s e
  enabled_of e t (accept_main un) =
      let given = (bytes_eq-Decides (widths args) (C.params C.main)).1 sized in
      (args, ap (λ b. cond b (Some args) None) (and_from (is_unsent (s.site 0)) (bytes_eq (widths args) (C.params C.main)) (ap is_unsent un) given), main_idle un)
  enabled_of e t (step_accept {k = k} {j = j} {xs = xs} {ws = ws} {sites = r} runs un want idle) =
      let g = C.caller (suc k) in
      let a = as_runs C s.site (s.unit (C.unit g)) g j xs r runs in
      let m = inv.member (C.unit g) g j xs a.0 in
      let unsent : s.site (suc k) ≡ Unsent = sym (own_at C s.site g k refl) ∙ ap (λ (z : ℕ → Stage). z (suc k)) a.1 ∙ un in
      let asks : wanted (back s) xs (C.body g) (suc k) ≡ Some ws = sym (own_wanted C args good s inv (C.unit g) g j xs (suc k) a.0) ∙ ap
      (λ (z : ℕ → Stage). wanted (back_of z) xs (C.body g) (suc k)) a.1 ∙ want in
      let stands = wanted_stands (back s) xs (C.body g) (suc k) (ap is_some asks) in
      let within = (good.own g (suc k) m.1 stands).1 in (
        ws,
        ap (λ b. cond b (asked_as C (back s) (s.unit (C.unit g)) g (suc k)) None) (and_from (is_unsent (s.site (suc k))) (nat_le (suc k) C.sites) (ap is_unsent unsent) (le-leb (suc k) C.sites within))
            ∙ ap (λ z. asked_as C (back s) z g (suc k)) a.0 ∙ ap (λ b. cond b (wanted (back s) xs (C.body g) (suc k)) None) (eq-eqb g g refl) ∙ asks,
        as_idle C s.site (s.unit (unit_for C (suc k))) idle,
      )
  enabled_of e t (step_finish {f = f} {j = j} {v = v} {xs = xs} {sites = r} runs is) =
      let a = as_runs C s.site (s.unit (C.unit f)) f j xs r runs in
      (j, xs, v, a.0, ap (says_as C (back s)) a.0 ∙ sym (own_answer C args good s inv (C.unit f) f j xs a.0) ∙ ap (λ (z : ℕ → Stage). answer (back_of z) xs (C.body f)) a.1 ∙ is)
  enabled_of e t (step_loop {f = f} {h = h} {j = j} {xs = xs} {ws = ws} {sites = r} runs is) =
      let a = as_runs C s.site (s.unit (C.unit h)) f j xs r runs in
      (ws, ap (says_as C (back s)) a.0 ∙ sym (own_answer C args good s inv (C.unit h) f j xs a.0) ∙ ap (λ (z : ℕ → Stage). answer (back_of z) xs (C.body f)) a.1 ∙ is)
  enabled_of e t (return_main {v = v} del) = (v, as_delivers C s.site (s.unit (unit_for C 0)) v 0 del)
  enabled_of e t (give {k = k} {v = v} del) = (v, as_delivers C s.site (s.unit (unit_for C (suc k))) v (suc k) del)

module _ (C : Program) (args : List Word) where
  loop_started : (s : State) (h : ℕ) (vs : List Word) (m : Mode) (q : Answer) (f : ℕ) → q ≡ says_as C (back s) m → q ≡ LoopTo h vs → at_function f h
      (words_of (activity C (loop_into C s (C.unit h) m q).site ((loop_into C s (C.unit h) m q).unit (C.unit h)))) ≡ cond (h == f) (goes_with q) []
  loop_started s h vs Idle q f is e = absurd (not_loop (sym is ∙ e))
    where
      not_loop : NotYet ≡ LoopTo h vs → ⊥
      not_loop z = grind arith
  loop_started s h vs (Delivers k v) q f is e = absurd (not_loop (sym is ∙ e))
    where
      not_loop : NotYet ≡ LoopTo h vs → ⊥
      not_loop z = grind arith
  loop_started s h vs (Runs g k ws) q f is e =
      subst (λ z. at_function f h (words_of (activity C (loop_into C s (C.unit h) (Runs g k ws) z).site
      ((loop_into C s (C.unit h) (Runs g k ws) z).unit (C.unit h)))) ≡ cond (h == f) (goes_with z) []) (sym e)
      (ap (λ m. at_function f h (words_of (activity C (loop_into C s (C.unit h) (Runs g k ws) (LoopTo h vs)).site m))) (put_at s.unit (C.unit h) (C.unit h) (Runs h k vs) refl))

  start_of : (s : State) (e : Event) (f : ℕ) → Enabled C args s e → applied_by C f e (picture C (fire C args s e)) ≡ event_start C args s e f
  start_of s (Accept k) f h =
      subst (λ o. at_function f (C.callee k) (words_of (activity C (accept C s k o).site ((accept C s k o).unit (unit_for C k)))) ≡ cond (C.callee k == f) (listed o) []) (sym h.1)
      (ap (λ m. at_function f (C.callee k) (words_of (activity C (accept C s k (Some h.0)).site m))) (put_at s.unit (unit_for C k) (unit_for C k) (Runs (C.callee k) k h.0) refl))
  start_of s (Finish g) f h = refl
  start_of s (Return k) f h = refl
  start_of s (LoopInto m) f h = loop_started s m h.0 (s.unit (C.unit m)) (says C s (C.unit m)) f refl h.1

  same_starts : (good : Numbered C) (s : State) (es : List Event) (inv : Inv C s) (legal : Legal C args s es) (f : ℕ) → applied C f (trail C args good s es inv legal) ≡ starts_of C args s es f
  unfolding starts_of Legal trail
  same_starts good s [] inv legal f = refl
  same_starts good s (e ∷ es) inv legal f = ap (λ l. l ++ applied C f
      (trail C args good (fire C args s e) es (inv_fire C args good s e inv legal.0) legal.1)) (start_of s e f legal.0) ∙ ap
      (λ l. event_start C args s e f ++ l) (same_starts good (fire C args s e) es (inv_fire C args good s e inv legal.0) legal.1 f)

module _ (C : Program) (n : ℕ) (good : Numbered C) (wf : IsNumbered C n) (args : List Word) (es : List Event) (legal : Legal C args opening es) where
  path : Trail C args (picture C opening) es (picture C (after_event C args opening es))
  path = trail C args good opening es (inv_open C args good) legal

  pub right : (v : Word) → (after_event C args opening es).site 0 ≡ Returned v → (d : Main C args v) × (length es + 2 * loops C d ≡ 3 * main_cost C args d)
  right v e = law.right C n wf args es (picture C (after_event C args opening es)) v path e

  pub goes_on : widths args ≡ C.params C.main → ((v : Word) → (after_event C args opening es).site 0 ≢ Returned v) → (e : Event) × Enabled C args (after_event C args opening es) e
  goes_on sized not_yet =
      let q = law.goes_on C n wf args es (picture C (after_event C args opening es)) path not_yet in
      (q.0, enabled_of C args good (after_event C args opening es) (inv_after C args good es legal) sized q.0 q.1 q.2)

  pub stops : (v : Word) (e : Event) → (after_event C args opening es).site 0 ≡ Returned v → Enabled C args (after_event C args opening es) e → ⊥
  stops v e is h = law.stops C n wf args es (picture C (after_event C args opening es)) _ v e path is (step_of C args good (after_event C args opening es) (inv_after C args good es legal) e h)

  pub bounded : (v : Word) (d : Main C args v) → length es + 2 * loops C d ≤ 3 * main_cost C args d
  bounded v d = law.bounded C n wf args es (picture C (after_event C args opening es)) v d path

  pub same_calls : (v w : Word) (d : Main C args w) → (after_event C args opening es).site 0 ≡ Returned v → (f : ℕ) → IsPermutation (main_calls C args d f) (starts_of C args opening es f)
  unfolding path
  same_calls v w d e f =
      subst (λ l. IsPermutation (main_calls C args d f) l) (same_starts C args good opening es (inv_open C args good) legal f)
      (law.same_calls C n wf args es (picture C (after_event C args opening es)) v w d path e f)

  pub started : (v w : Word) (d : Main C args w) → (after_event C args opening es).site 0 ≡ Returned v → starts_count es ≡ main_cost C args d
  started v w d e = law.started C n wf args es (picture C (after_event C args opening es)) v w d path e

  pub few_moves : (v : Word) (d : Main C args v) → moves_count es + loops C d ≤ 2 * main_cost C args d
  few_moves v d = law.few_moves C n wf args es (picture C (after_event C args opening es)) v d path

  pub all_moves : (v w : Word) (d : Main C args w) → (after_event C args opening es).site 0 ≡ Returned v → moves_count es + loops C d ≡ 2 * main_cost C args d
  all_moves v w d e = law.all_moves C n wf args es (picture C (after_event C args opening es)) v w d path e
