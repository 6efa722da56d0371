-- The laws of the machine, of one that is kept.
use Rattle.safl_core.proofs.Common.{CanFire, GoesOn, IsBounded, IsKept, IsOver, IsTrue, IsValue, Program, Shown, Word, bytes_eq-Decides}
use Rattle.safl_core.proofs.Common.{can, delivers_to, found, get_or_read, is_idle, is_ready, is_sent, loops_to, none-some, numbered, runs}
use Rattle.safl_core.proofs.Common.{same_Some, stage_at, stage_of, state, unit_for, wanted_at, widths}
use Rattle.std.proofs.Common.{◌≡◌, ◌+◌, ◌*◌, ◌≤◌, ◌<◌, ℕ, get_or, List, length, Option, Some, None, Bool, true, false, is_some, cond, eqb, nat_le, zero, suc, ◌&&◌, refl, sym, ap, ◌∙◌, subst, arith}
use Rattle.std.proofs.lemmas.Bool.{eqb-true, eq-eqb, and_parts, and_from, false≢true, le-leb}
use Rattle.std.proofs.Math.Bool.{and-false}
use Rattle.safl_calls.proofs.Basics.{serves, some_of}
use Rattle.safl_evaluate.specs.declared.stage.Stage as declared
use Rattle.safl_term.specs.Meaning.{loops}
use Rattle.safl_term.specs.Readiness.{Stage, Unsent, Sent, Returned, Answer, Ready, LoopTo, NotYet, back_word}
use Rattle.safl_calls.specs.Machine.{State, Mode, Idle, Runs, Delivers, Event, Accept, Finish, Return, LoopInto, opening, after_event, asked, asked_as, back, says, Enabled, is_unsent}
use Rattle.safl_calls.proofs.MachineLaws as law
use Rattle.safl_core.proofs.KeptByEvents.{inv}
use Rattle.std.specs.Str.{bytes_eq}

returned_is : (x : Stage) (v : Word) → back_word x ≡ Some v → x ≡ Returned v
returned_is Unsent v e = absurd (none-some v e)
returned_is Sent v e = absurd (none-some v e)
returned_is (Returned w) v e = ap Returned (same_Some w v e)

module _ {m : Shown} {answers : List Answer} {wants : List (Option (List Word))} {room : ℕ} (h : IsKept m answers wants room) where
  ends : (v : Word) → back_word ((state m).site 0) ≡ Some v → (after_event m.program m.args opening h.reached.list).site 0 ≡ Returned v
  ends v e = ap (λ s. s.site 0) h.reached.ends ∙ returned_is ((state m).site 0) v e

  pub sized : widths m.args ≡ m.program.params m.program.main
  sized = h.given

  pub value_of : (v : Word) → back_word ((state m).site 0) ≡ Some v → IsValue m v
  value_of v e =
      let C = m.program in
      let r = law.right C C.functions (numbered C h.checked.formed) h.checked.formed.numbered m.args h.reached.list h.reached.legal v (ends v e) in
      (r.0, ap (λ n. n + 2 * loops C r.0) (sym h.reached.count) ∙ r.1)

  pub bounded : IsBounded m
  bounded v d =
      let C = m.program in
      let b = law.bounded C C.functions (numbered C h.checked.formed) h.checked.formed.numbered m.args h.reached.list h.reached.legal v d in
      omega (arith, b, h.reached.count)

  pub goes_on : back_word ((state m).site 0) ≡ None → GoesOn m
  goes_on e =
      let C = m.program in
      let q = law.goes_on C C.functions (numbered C h.checked.formed) h.checked.formed.numbered m.args h.reached.list h.reached.legal sized
      (λ v r. none-some v (sym e ∙ ap back_word (sym (ap (λ s. s.site 0) h.reached.ends) ∙ r))) in
      (q.0, subst (λ s. Enabled C m.args s q.0) h.reached.ends q.1)

  pub over : (v : Word) → back_word ((state m).site 0) ≡ Some v → IsOver m
  over v e = λ x q.
      let C = m.program in
      law.stops C C.functions (numbered C h.checked.formed) h.checked.formed.numbered m.args h.reached.list h.reached.legal v x (ends v e) (subst (λ s. Enabled C m.args s x) (sym h.reached.ends) q)

-- the stage that was read first
pub read_stage : (stages : List declared.Stage) (x y : declared.Stage) → 0 < length stages → x ≡ get_or stages 0 x → x ≡ y → stage_at stages 0 ≡ stage_of y
read_stage stages x y lt e is = ap stage_of (sym (get_or_read stages 0 x lt e declared.TheVariants.Unsent) ∙ is)

-- ---- what enables an event

pub idle_is : (m : Mode) → is_idle m ≡ true → m ≡ Idle
idle_is Idle e = refl
idle_is (Runs f k ws) e = absurd (false≢true e)
idle_is (Delivers k v) e = absurd (false≢true e)

abbrev member_of : Mode → ℕ
member_of Idle = 0
member_of (Runs f k ws) = f
member_of (Delivers k v) = 0

abbrev site_of : Mode → ℕ
site_of Idle = 0
site_of (Runs f k ws) = 0
site_of (Delivers k v) = k

pub runs_is : (m : Mode) (f : ℕ) → runs m f ≡ true → (k : ℕ) × (ws : List Word) × (m ≡ Runs f k ws)
runs_is Idle f e = absurd (false≢true e)
runs_is (Runs g k ws) f e = (k, ws, ap (λ n. Runs n k ws) (eqb-true g f e))
runs_is (Delivers k v) f e = absurd (false≢true e)

pub delivers_is : (m : Mode) (k : ℕ) → delivers_to m k ≡ true → (v : Word) × (m ≡ Delivers k v)
delivers_is Idle k e = absurd (false≢true e)
delivers_is (Runs g j ws) k e = absurd (false≢true e)
delivers_is (Delivers j v) k e = (v, ap (λ n. Delivers n v) (eqb-true j k e))

pub ready_is : (a : Answer) → is_ready a ≡ true → (v : Word) × (a ≡ Ready v)
ready_is (Ready v) e = (v, refl)
ready_is (LoopTo h vs) e = absurd (false≢true e)
ready_is NotYet e = absurd (false≢true e)

pub loops_is : (a : Answer) (h : ℕ) → loops_to a h ≡ true → (vs : List Word) × (a ≡ LoopTo h vs)
loops_is (Ready v) h e = absurd (false≢true e)
loops_is (LoopTo g vs) h e = (vs, ap (λ n. LoopTo n vs) (eqb-true g h e))
loops_is NotYet h e = absurd (false≢true e)

-- an event is enabled exactly where its test holds
module _ (C : Program) (args : List Word) (s : State) where
  pub enabled_of : (e : Event) → can C args s e ≡ true → Enabled C args s e
  enabled_of (Accept k) e =
      let p = and_parts _ _ e in
      let o = some_of (asked C args s k) p.0 in
      (o.0, o.1, idle_is (s.unit (unit_for C k)) p.1)
  enabled_of (Finish f) e =
      let p = and_parts _ _ e in
      let r = runs_is (s.unit (C.unit f)) f p.0 in
      let v = ready_is (says C s (C.unit f)) p.1 in
      (r.0, r.1, v.0, r.2, v.1)
  enabled_of (Return k) e = delivers_is (s.unit (unit_for C k)) k e
  enabled_of (LoopInto h) e = loops_is (says C s (C.unit h)) h e

  pub enabled_can : (e : Event) → Enabled C args s e → can C args s e ≡ true
  enabled_can (Accept k) h = and_from _ _ (ap is_some h.1) (ap is_idle h.2)
  enabled_can (Finish f) h = and_from _ _ (ap (λ m. runs m f) h.3 ∙ eq-eqb f f refl) (ap is_ready h.4)
  enabled_can (Return k) h = ap (λ m. delivers_to m k) h.1 ∙ eq-eqb k k refl
  enabled_can (LoopInto m) h = ap (λ a. loops_to a m) h.1 ∙ eq-eqb m m refl

  -- what the code answers, where it is the test
  pub tested : (e : Event) (b : Bool) → b ≡ can C args s e → (IsTrue b → Enabled C args s e) × (Enabled C args s e → IsTrue b)
  tested e b is = (λ t. enabled_of e (sym is ∙ t), λ h. is ∙ enabled_can e h)

  -- and where it is not enabled
  pub refused : (e : Event) → (Enabled C args s e → ⊥) → (IsTrue false → Enabled C args s e) × (Enabled C args s e → IsTrue false)
  refused e never = (λ t. absurd (false≢true t), λ h. absurd (never h))

-- ---- the tests of the code

module _ {m : Shown} {answers : List Answer} {wants : List (Option (List Word))} {room : ℕ} (h : IsKept m answers wants room) where
  -- a site waits where it is unsent and wanted
  pub waits_test : (k : ℕ) → k ≤ m.program.sites → (is_unsent ((state m).site k) && wanted_at wants k)
      ≡ is_some (asked m.program m.args (state m) k)
  waits_test zero le =
      first (is_unsent ((state m).site 0)) (bytes_eq (widths m.args) (m.program.params m.program.main)) ((bytes_eq-Decides (widths m.args) (m.program.params m.program.main)).1 (sized h))
    where
      first : (x y : Bool) → y ≡ true → (x && true) ≡ is_some (cond (x && y) (Some m.args) None)
      first true y q = ap (λ z. is_some (cond z (Some m.args) None)) (sym q)
      first false y q = refl
  waits_test (suc k) le =
      let C = m.program in
      rest (is_unsent ((state m).site (suc k))) (nat_le (suc k) C.sites) (get_or wants (suc k) None)
      (asked_as C (back (state m)) ((state m).unit (C.unit (C.caller (suc k)))) (C.caller (suc k)) (suc k))
      (le-leb (suc k) C.sites le) ((h.known (C.unit (C.caller (suc k)))).wants (suc k) (omega arith) le refl)
    where
      rest : (x y : Bool) (o p : Option (List Word)) → y ≡ true → o ≡ p → (x && is_some o) ≡ is_some (cond (x && y) p None)
      rest true y o p q r = ap is_some r ∙ ap (λ z. is_some (cond z p None)) (sym q)
      rest false y o p q r = refl

  pub accept_test : (k : ℕ) (u : ℕ) (b : Bool) → k ≤ m.program.sites
      → b ≡ ((is_unsent ((state m).site k) && wanted_at wants k) && is_idle ((state m).unit (unit_for m.program k)))
      → b ≡ can m.program m.args (state m) (Accept k)
  accept_test k u b le e = e ∙ ap (λ x. x && is_idle ((state m).unit (unit_for m.program k))) (waits_test k le)

  pub finish_test : (f u : ℕ) (b : Bool) → u ≡ m.program.unit f → b ≡ (runs ((state m).unit u) f && is_ready (get_or answers u NotYet)) →
      b ≡ can m.program m.args (state m) (Finish f)
  finish_test f u b at e =
      let C = m.program in
      e ∙ (ap (λ a. runs ((state m).unit u) f && is_ready a) (h.known u).outcome ∙ ap (λ n. runs ((state m).unit n) f && is_ready (says C (state m) n)) at)

  -- a site that a unit delivers to is sent
  pub return_test : (k : ℕ) (b : Bool) → b ≡ (is_sent ((state m).site k) && delivers_to ((state m).unit (unit_for m.program k)) k) → b ≡
      can m.program m.args (state m) (Return k)
  return_test k b e = e ∙ by ((state m).unit (unit_for m.program k)) refl
    where
      sent : (x t : Bool) → (t ≡ true → x ≡ true) → (x && t) ≡ t
      sent x true q = ap (λ z. z && true) (q refl)
      sent x false q = and-false x

      by : (x : Mode) → (state m).unit (unit_for m.program k) ≡ x → (is_sent ((state m).site k) && delivers_to x k) ≡ delivers_to x k
      by Idle q = and-false (is_sent ((state m).site k))
      by (Runs f j ws) q = and-false (is_sent ((state m).site k))
      by (Delivers j v) q = sent (is_sent ((state m).site k)) (eqb j k)
          (λ t. ap is_sent ((inv h).serving (unit_for m.program k) k (ap serves q ∙ ap Some (eqb-true j k t))).0)

  pub loop_test : (n u : ℕ) (b : Bool) → u ≡ m.program.unit n → b ≡ loops_to (get_or answers u NotYet) n → b ≡ can m.program m.args (state m) (LoopInto n)
  loop_test n u b at e =
      let C = m.program in
      e ∙ (ap (λ a. loops_to a n) (h.known u).outcome ∙ ap (λ i. loops_to (says C (state m) i) n) at)

  -- numbers that are too great
  pub accept_within : (k : ℕ) → CanFire m (Accept k) → k ≤ m.program.sites
  accept_within k q = (found m.program m.args (state m) k q.0 q.1).within

  pub tested_as : (n : Shown) (e x : Event) (b : Bool) → m ≡ n → x ≡ e → b ≡ can m.program m.args (state m) e → (IsTrue b → CanFire n x) × (CanFire n x → IsTrue b)
  tested_as n e x b is same q =
      subst (λ y. (IsTrue b → CanFire n y) × (CanFire n y → IsTrue b)) (sym same)
      (subst (λ z. (IsTrue b → CanFire z e) × (CanFire z e → IsTrue b)) is (tested m.program m.args (state m) e b q))

  pub refused_as : (n : Shown) (e x : Event) → m ≡ n → x ≡ e → (CanFire m e → ⊥) → (IsTrue false → CanFire n x) × (CanFire n x → IsTrue false)
  refused_as n e x is same never =
      subst (λ y. (IsTrue false → CanFire n y) × (CanFire n y → IsTrue false)) (sym same)
      (subst (λ z. (IsTrue false → CanFire z e) × (CanFire z e → IsTrue false)) is (refused m.program m.args (state m) e never))
