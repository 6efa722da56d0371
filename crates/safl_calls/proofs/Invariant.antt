-- What holds of the machine after every legal list.
use Rattle.safl_calls.proofs.Common.{Program, arity, bytes_eq-Decides, same_Some, unit_for}
use Rattle.std.proofs.Common.{◌≡◌, ◌≢◌, ℕ, zero, suc, ◌<◌, ◌≤◌, List, [], ◌∷◌, length, Some, true, is_some, refl, sym, ap, ◌∙◌, subst, ⊎_elim, arith}
use Rattle.std.proofs.lemmas.Bool.{cases_eq, eqb-true, eq-eqb, ne_eqb, leb-true, and_parts, false≢true}
use Rattle.safl_calls.proofs.Basics.{put_at, put_off, some_none, some_of, cond_some, unsent_is}
use Rattle.safl_calls.proofs.Bodies.{wanted_grows, settled, goes_stands, wanted_sized, goes_sized}
use Rattle.safl_calls.proofs.Numbered.{Numbered}
use Rattle.safl_calls.specs.Machine.{State, Mode, Idle, Runs, Delivers, Event, Accept, Finish, Return, LoopInto, opening, Enabled, CallerRests, Legal}
use Rattle.safl_calls.specs.Machine.{after_event, fire, accept, finish, give_back, loop_into, ended, back, put, asked, asked_as, says, says_as}
use Rattle.safl_calls.proofs.Basics.{serves}
use Rattle.safl_term.specs.Readiness.{Answer, Ready, LoopTo, NotYet, answer, wanted, Stage, Unsent, Sent, Returned, back_word}
use Rattle.safl_term.specs.Standing.{Stands}
use Rattle.safl_word.specs.Words.{Word, widths}
use Rattle.safl_term.proofs.Apart.{loop_not_yet, not_loop, ready_not_yet, returned_sent, returned_unsent, sent_unsent}
use Rattle.safl_calls.proofs.Apart.{delivers_runs, idle_runs, runs_delivers, runs_idle}
use Rattle.std.proofs.lemmas.List.{length-map}

-- a caller whose body asks for site k
pub record Asks (C : Program) (s : State) (k : ℕ) : Type 0 where
  pub serves : ℕ
  pub args : List Word
  pub runs : s.unit (C.unit (C.caller k)) ≡ Runs (C.caller k) serves args
  pub words : List Word
  pub asks : wanted (back s) args (C.body (C.caller k)) k ≡ Some words

pub record Inv (C : Program) (s : State) : Type 0 where
  pub serving : (u k : ℕ) → serves (s.unit u) ≡ Some k → (s.site k ≡ Sent) × (unit_for C k ≡ u) × (k ≤ C.sites)
  pub flight : (k : ℕ) → s.site k ≡ Sent → serves (s.unit (unit_for C k)) ≡ Some k
  pub known : (k : ℕ) → s.site k ≢ Unsent → k ≤ C.sites
  pub asks : (k : ℕ) → 0 < k → s.site k ≢ Unsent → Asks C s k
  pub member : (u f k : ℕ) (ws : List Word) → s.unit u ≡ Runs f k ws → (C.unit f ≡ u) × (f < C.functions) × (length ws ≡ arity C f)

-- what an Accept finds
pub record Found (C : Program) (args : List Word) (s : State) (k : ℕ) (ws : List Word) : Type 0 where
  pub unsent : s.site k ≡ Unsent
  pub within : k ≤ C.sites
  pub asks : 0 < k → Asks C s k

asking : (C : Program) (s : State) (k : ℕ) (ws : List Word) (m : Mode) → s.unit (C.unit (C.caller k)) ≡ m → asked_as C (back s) m (C.caller k) k ≡ Some ws → Asks C s k
asking C s k ws Idle e h = absurd (some_none ws (sym h))
asking C s k ws (Delivers j v) e h = absurd (some_none ws (sym h))
asking C s k ws (Runs g j vs) e h =
    let a = cond_some _ _ ws h in
    record { serves = j; args = vs; runs = e ∙ ap (λ f. Runs f j vs) (eqb-true g (C.caller k) a.0); words = ws; asks = a.1 }

pub found : (C : Program) (args : List Word) (s : State) (k : ℕ) (ws : List Word) → asked C args s k ≡ Some ws → Found C args s k ws
found C args s zero ws h = record { unsent = unsent_is (s.site 0) (and_parts _ _ (cond_some _ _ ws h).0).0; within = omega arith; asks = λ pos. absurd (omega (arith, pos)) }
found C args s (suc k) ws h =
    let a = cond_some _ _ ws h in
    let b = and_parts _ _ a.0 in
    record { unsent = unsent_is (s.site (suc k)) b.0; within = leb-true (suc k) C.sites b.1; asks = λ pos. asking C s (suc k) ws _ refl a.1 }

abbrev member_of : Mode → ℕ
member_of Idle = 0
member_of (Runs f k ws) = f
member_of (Delivers k v) = 0

abbrev args_of : Mode → List Word
args_of Idle = []
args_of (Runs f k ws) = ws
args_of (Delivers k v) = []

-- a caller goes on asking where its unit is the same and no word of its sites is lost
keep_asking : (C : Program) (s s' : State) (k : ℕ) → Asks C s k → s'.unit (C.unit (C.caller k)) ≡ s.unit (C.unit (C.caller k)) →
    ((j : ℕ) (v : Word) → Stands j (C.body (C.caller k)) → back s j ≡ Some v → back s' j ≡ Some v) → Asks C s' k
keep_asking C s s' k a same grows =
    let w = some_of _ (wanted_grows (back s) (back s') a.args (C.body (C.caller k)) grows k (ap is_some a.asks)) in
    record { serves = a.serves; args = a.args; runs = same ∙ a.runs; words = w.0; asks = w.1 }

module _ (C : Program) (args : List Word) (good : Numbered C) where
  asked_sized : (s : State) (k : ℕ) (ws : List Word) → Inv C s → asked C args s k ≡ Some ws → length ws ≡ arity C (C.callee k)
  asked_sized s zero ws inv h =
      let a = cond_some _ _ ws h in
      ap length (sym (same_Some args ws a.1)) ∙ sym (length-map args (λ (v : Word). v.width))
      ∙ ap length ((bytes_eq-Decides (widths args) (C.params C.main)).0 (and_parts _ _ a.0).1) ∙ ap (arity C) (sym good.outside)
  asked_sized s (suc k) ws inv h =
      let a = cond_some _ _ ws h in
      let b = and_parts _ _ a.0 in
      let lt = good.caller_in (suc k) (omega arith) (leb-true (suc k) C.sites b.1) in
      by lt (s.unit (C.unit (C.caller (suc k)))) a.1
    where
      by : C.caller (suc k) < C.functions → (m : Mode) → asked_as C (back s) m (C.caller (suc k)) (suc k) ≡ Some ws → length ws ≡ arity C (C.callee (suc k))
      by lt Idle e = absurd (some_none ws (sym e))
      by lt (Delivers j v) e = absurd (some_none ws (sym e))
      by lt (Runs g j vs) e = wanted_sized C (back s) vs (C.body (C.caller (suc k))) (good.counted (C.caller (suc k)) lt) (suc k) ws (cond_some _ _ ws e).1

  inv_accept : (s : State) (k : ℕ) (ws : List Word) → Inv C s → asked C args s k ≡ Some ws → s.unit (unit_for C k) ≡ Idle → Inv C (accept C s k (Some ws))
  inv_accept s k ws inv asked' idle = record {
    serving = λ u j e. ⊎_elim
        (λ same.
        let j_is : k ≡ j = same_Some k j (sym (ap serves (put_at s.unit w u (Runs (C.callee k) k ws) same)) ∙ e) in
        (put_at s.site k j Sent j_is, ap (unit_for C) (sym j_is) ∙ same, subst (λ j. j ≤ C.sites) j_is at.within))
        (λ other.
        let sv = inv.serving u j (sym (ap serves (put_off s.unit w u (Runs (C.callee k) k ws) other)) ∙ e) in
        (sent_too j sv.0, sv.1, sv.2))
        (cases_eq w u);
    flight = λ j e. ⊎_elim
        (λ same. ap serves (put_at s.unit w (unit_for C j) (Runs (C.callee k) k ws) (ap (unit_for C) same)) ∙ ap Some same)
        (λ other.
        let before = inv.flight j (sym (put_off s.site k j Sent other) ∙ e) in
        ap serves (put_off s.unit w (unit_for C j) (Runs (C.callee k) k ws) (λ at_w. some_none j (sym before ∙ ap serves (ap s.unit (sym at_w) ∙ idle)))) ∙ before)
        (cases_eq k j);
    known = λ j e. ⊎_elim (λ same. subst (λ j. j ≤ C.sites) same at.within) (λ other. inv.known j (λ un. e (put_off s.site k j Sent other ∙ un))) (cases_eq k j);
    asks = λ j pos e. ⊎_elim
        (λ same. kept j (subst (λ j. 0 < j → Asks C s j) same at.asks pos))
        (λ other. kept j (inv.asks j pos (λ un. e (put_off s.site k j Sent other ∙ un))))
        (cases_eq k j);
    member = λ u f j vs e. ⊎_elim
        (λ same.
        let f_is : C.callee k ≡ f = ap member_of (sym (put_at s.unit w u (Runs (C.callee k) k ws) same) ∙ e) in (
          ap C.unit (sym f_is) ∙ same,
          subst (λ f. f < C.functions) f_is (good.callee_in k at.within),
          subst (λ vs. length vs ≡ arity C f)
              (ap args_of (sym (put_at s.unit w u (Runs (C.callee k) k ws) same) ∙ e)) (asked_sized s k ws inv asked' ∙ ap (arity C) f_is),
        ))
        (λ other. inv.member u f j vs (sym (put_off s.unit w u (Runs (C.callee k) k ws) other) ∙ e))
        (cases_eq w u);
  }
    where
      w : ℕ
      w = unit_for C k

      at : Found C args s k ws
      at = found C args s k ws asked'

      sent_too : (j : ℕ) → s.site j ≡ Sent → put s.site k Sent j ≡ Sent
      sent_too j e = ⊎_elim (λ same. put_at s.site k j Sent same) (λ other. put_off s.site k j Sent other ∙ e) (cases_eq k j)

      grows : (j : ℕ) (v : Word) → back s j ≡ Some v → back (accept C s k (Some ws)) j ≡ Some v
      grows zero v e = e
      grows (suc j) v e = ⊎_elim
          (λ same. absurd (some_none v (sym e ∙ ap back_word (ap s.site (sym same) ∙ at.unsent))))
          (λ other. ap back_word (put_off s.site k (suc j) Sent other) ∙ e)
          (cases_eq k (suc j))

      kept : (j : ℕ) → Asks C s j → Asks C (accept C s k (Some ws)) j
      kept j a = keep_asking C s (accept C s k (Some ws)) j a
          (put_off s.unit w (C.unit (C.caller j)) (Runs (C.callee k) k ws) (λ at_w. runs_idle _ _ _ (sym a.runs ∙ ap s.unit (sym at_w) ∙ idle)))
          (λ i v st e. grows i v e)

  inv_return : (s : State) (k : ℕ) (v : Word) → Inv C s → s.unit (unit_for C k) ≡ Delivers k v → Inv C (give_back C s k (Delivers k v))
  inv_return s k v inv d = record {
    serving = λ u j e. ⊎_elim
        (λ same. absurd (some_none j (sym e ∙ ap serves (put_at s.unit w u Idle same))))
        (λ other.
        let sv = inv.serving u j (sym (ap serves (put_off s.unit w u Idle other)) ∙ e) in
        (put_off s.site k j (Returned v) (λ same. other (ap (unit_for C) same ∙ sv.1)) ∙ sv.0, sv.1, sv.2))
        (cases_eq w u);
    flight = λ j e. ⊎_elim
        (λ same. absurd (returned_sent v (sym (put_at s.site k j (Returned v) same) ∙ e)))
        (λ other.
        let before = inv.flight j (sym (put_off s.site k j (Returned v) other) ∙ e) in
        ap serves (put_off s.unit w (unit_for C j) Idle (λ at_w. other (same_Some k j (sym (ap serves (ap s.unit (sym at_w) ∙ d)) ∙ before)))) ∙ before)
        (cases_eq k j);
    known = λ j e. ⊎_elim (λ same. subst (λ j. j ≤ C.sites) same was.2) (λ other. inv.known j (λ un. e (put_off s.site k j (Returned v) other ∙ un))) (cases_eq k j);
    asks = λ j pos e. kept j (inv.asks j pos (⊎_elim (λ same un. sent_unsent (sym was.0 ∙ ap s.site same ∙ un)) (λ other un. e (put_off s.site k j (Returned v) other ∙ un)) (cases_eq k j)));
    member = λ u f j vs e. ⊎_elim
        (λ same. absurd (idle_runs f j vs (sym (put_at s.unit w u Idle same) ∙ e)))
        (λ other. inv.member u f j vs (sym (put_off s.unit w u Idle other) ∙ e))
        (cases_eq w u);
  }
    where
      w : ℕ
      w = unit_for C k

      was : (s.site k ≡ Sent) × (unit_for C k ≡ w) × (k ≤ C.sites)
      was = inv.serving w k (ap serves d)

      grows : (j : ℕ) (x : Word) → back s j ≡ Some x → back (give_back C s k (Delivers k v)) j ≡ Some x
      grows zero x e = e
      grows (suc j) x e = ⊎_elim
          (λ same. absurd (some_none x (sym e ∙ ap back_word (ap s.site (sym same) ∙ was.0))))
          (λ other. ap back_word (put_off s.site k (suc j) (Returned v) other) ∙ e)
          (cases_eq k (suc j))

      kept : (j : ℕ) → Asks C s j → Asks C (give_back C s k (Delivers k v)) j
      kept j a = keep_asking C s (give_back C s k (Delivers k v)) j a
          (put_off s.unit w (C.unit (C.caller j)) Idle (λ at_w. runs_delivers _ _ _ _ _ (sym a.runs ∙ ap s.unit (sym at_w) ∙ d)))
          (λ i x st e. grows i x e)

  -- the own sites of a unit that ends or loops have all returned
  none_in_flight : (s : State) → Inv C s → (w f k : ℕ) (ws : List Word) (a : Answer) → s.unit w ≡ Runs f k ws → answer (back s) ws (C.body f) ≡ a →
      (a ≡ NotYet → ⊥) → (j : ℕ) → C.unit (C.caller (suc j)) ≡ w → s.site (suc j) ≡ Sent → ⊥
  none_in_flight s inv w f k ws a e says' some j in_w sent =
      let m = inv.member w f k ws e in
      let own = asks_here (suc j) (omega arith) in_w (λ un. sent_unsent (sym sent ∙ un)) in
      let back' = settled (back s) ws (C.body f) (good.once f m.1) returned_asks a says' some (suc j) own in
      absurd (false≢true (ap is_some (sym (ap back_word sent)) ∙ back'))
    where
      asks_here : (i : ℕ) → 0 < i → C.unit (C.caller i) ≡ w → s.site i ≢ Unsent → is_some (wanted (back s) ws (C.body f) i) ≡ true
      asks_here i pos in_w un =
          let b = inv.asks i pos un in
          let both : Runs (C.caller i) b.serves b.args ≡ Runs f k ws = sym b.runs ∙ ap s.unit in_w ∙ e in
          ap (λ g. is_some (wanted (back s) ws (C.body g) i)) (sym (ap member_of both)) ∙ ap (λ vs. is_some (wanted (back s) vs (C.body (C.caller i)) i)) (sym (ap args_of both)) ∙ ap is_some b.asks

      returned_asks : (i : ℕ) → Stands i (C.body f) → is_some (back s i) ≡ true → is_some (wanted (back s) ws (C.body f) i) ≡ true
      returned_asks zero st back' = absurd (false≢true back')
      returned_asks (suc i) st back' =
          let m = inv.member w f k ws e in
          let o = good.own f (suc i) m.1 st in
          asks_here (suc i) (omega arith) (ap C.unit o.2 ∙ m.0) (λ un. false≢true (ap is_some (sym (ap back_word un)) ∙ back'))

  inv_end : (s : State) → Inv C s → (w f k : ℕ) (ws : List Word) (a : Answer) → s.unit w ≡ Runs f k ws → answer (back s) ws (C.body f) ≡ a →
      (a ≡ NotYet → ⊥) → (m : Mode) → serves m ≡ Some k → ((g j : ℕ) (us : List Word) → m ≡ Runs g j us → (C.unit g ≡ w) × (g < C.functions) ×
      (length us ≡ arity C g)) → Inv C (record { unit = put s.unit w m; site = ended C w s.site })
  inv_end s inv w f k ws a e says' some m serves_k in_w = record {
    serving = λ u j h. ⊎_elim
        (λ same.
        let j_is : k ≡ j = same_Some k j (sym serves_k ∙ sym (ap serves (put_at s.unit w u m same)) ∙ h) in
        let sv = inv.serving w k (ap serves e) in
        let sv' = subst (λ j. (ended C w s.site j ≡ Sent) × (unit_for C j ≡ w) × (j ≤ C.sites)) j_is (served k sv.0 sv.1 sv.2, sv.1, sv.2) in
        (sv'.0, sv'.1 ∙ same, sv'.2))
        (λ other.
        let sv = inv.serving u j (sym (ap serves (put_off s.unit w u m other)) ∙ h) in
        (still j sv.0, sv.1, sv.2))
        (cases_eq w u);
    flight = λ j h.
        let before = inv.flight j (was_sent j h) in
        ⊎_elim
        (λ same. ap serves (put_at s.unit w (unit_for C j) m same) ∙ serves_k ∙ sym (ap serves (ap s.unit (sym same) ∙ e)) ∙ before)
        (λ other. ap serves (put_off s.unit w (unit_for C j) m other) ∙ before)
        (cases_eq w (unit_for C j));
    known = λ j h. inv.known j (λ un. h (ended_unsent j un));
    asks = λ j pos h. asks_on j pos h;
    member = λ u g j vs h. ⊎_elim
        (λ same. let r = in_w g j vs (sym (put_at s.unit w u m same) ∙ h) in (r.0 ∙ same, r.1, r.2))
        (λ other. inv.member u g j vs (sym (put_off s.unit w u m other) ∙ h))
        (cases_eq w u);
  }
    where
      s' : State
      s' = record { unit = put s.unit w m; site = ended C w s.site }

      off : (j : ℕ) → (C.unit (C.caller (suc j)) ≡ w → ⊥) → ended C w s.site (suc j) ≡ s.site (suc j)
      off j other = rw (ne_eqb (C.unit (C.caller (suc j))) w other) refl

      cleared : (j : ℕ) → C.unit (C.caller (suc j)) ≡ w → ended C w s.site (suc j) ≡ Unsent
      cleared j same = rw (eq-eqb (C.unit (C.caller (suc j))) w same) refl

      served : (j : ℕ) → s.site j ≡ Sent → unit_for C j ≡ w → j ≤ C.sites → ended C w s.site j ≡ Sent
      served zero sent at le = sent
      served (suc j) sent at le = off j (λ same. let lt = good.earlier (suc j) (omega arith) le in omega (arith, lt, at, same)) ∙ sent

      still : (j : ℕ) → s.site j ≡ Sent → ended C w s.site j ≡ Sent
      still zero sent = sent
      still (suc j) sent = off j (λ same. none_in_flight s inv w f k ws a e says' some j same sent) ∙ sent

      ended_unsent : (j : ℕ) → s.site j ≡ Unsent → ended C w s.site j ≡ Unsent
      ended_unsent zero un = un
      ended_unsent (suc j) un = ⊎_elim (λ same. cleared j same) (λ other. off j other ∙ un) (cases_eq (C.unit (C.caller (suc j))) w)

      was_sent : (j : ℕ) → ended C w s.site j ≡ Sent → s.site j ≡ Sent
      was_sent zero h = h
      was_sent (suc j) h = ⊎_elim (λ same. absurd (sent_unsent (sym h ∙ cleared j same))) (λ other. sym (off j other) ∙ h) (cases_eq (C.unit (C.caller (suc j))) w)

      asks_on : (j : ℕ) → 0 < j → ended C w s.site j ≢ Unsent → Asks C s' j
      asks_on zero pos h = absurd (omega (arith, pos))
      asks_on (suc j) pos h =
          let un = λ (u : s.site (suc j) ≡ Unsent). h (ended_unsent (suc j) u) in
          let other = λ (same : C.unit (C.caller (suc j)) ≡ w). h (cleared j same) in
          let ltc = good.caller_in (suc j) pos (inv.known (suc j) un) in
          keep_asking C s s' (suc j) (inv.asks (suc j) pos un)
          (put_off s.unit w (C.unit (C.caller (suc j))) m (λ at_w. other (sym at_w)))
          (λ i x st b. keeps i x (good.own (C.caller (suc j)) i ltc st).2 other b)
        where
          keeps : (i : ℕ) (x : Word) → C.caller i ≡ C.caller (suc j) → (C.unit (C.caller (suc j)) ≡ w → ⊥) → back s i ≡ Some x → back s' i ≡ Some x
          keeps zero x same other b = b
          keeps (suc i) x same other b = ap back_word (off i (λ at_w. other (ap C.unit (sym same) ∙ at_w))) ∙ b

  inv_finish : (s : State) → Inv C s → (f k : ℕ) (ws : List Word) (v : Word) → s.unit (C.unit f) ≡ Runs f k ws → says C s (C.unit f) ≡ Ready v → Inv C
      (finish C s (C.unit f) (s.unit (C.unit f)) (says C s (C.unit f)))
  inv_finish s inv f k ws v e says' =
      let is : finish C s (C.unit f) (s.unit (C.unit f)) (says C s (C.unit f)) ≡ finish C s (C.unit f) (Runs f k ws) (Ready v) = ap
      (λ m. finish C s (C.unit f) m (says C s (C.unit f))) e ∙ ap (finish C s (C.unit f) (Runs f k ws)) says' in
      subst (Inv C) (sym is) (inv_end s inv (C.unit f) f k ws (Ready v) e (sym (ap (says_as C (back s)) e) ∙ says') (ready_not_yet v) (Delivers k v)
      refl (λ g j us h. absurd (delivers_runs g j k v us h)))

  inv_go_on : (s : State) → Inv C s → (h : ℕ) (vs : List Word) → says C s (C.unit h) ≡ LoopTo h vs → Inv C (loop_into C s (C.unit h) (s.unit (C.unit h)) (says C s (C.unit h)))
  inv_go_on s inv h vs says' = by (s.unit (C.unit h)) refl
    where
      by : (m : Mode) → s.unit (C.unit h) ≡ m → Inv C (loop_into C s (C.unit h) (s.unit (C.unit h)) (says C s (C.unit h)))
      by Idle e = absurd (not_loop h vs (sym (ap (says_as C (back s)) e) ∙ says'))
      by (Delivers k v) e = absurd (not_loop h vs (sym (ap (says_as C (back s)) e) ∙ says'))
      by (Runs f k ws) e =
          let is : loop_into C s (C.unit h) (s.unit (C.unit h)) (says C s (C.unit h)) ≡ loop_into C s (C.unit h) (Runs f k ws) (LoopTo h vs) = ap
          (λ m. loop_into C s (C.unit h) m (says C s (C.unit h))) e ∙ ap (loop_into C s (C.unit h) (Runs f k ws)) says' in
          let body : answer (back s) ws (C.body f) ≡ LoopTo h vs = sym (ap (says_as C (back s)) e) ∙ says' in
          let m = inv.member (C.unit h) f k ws e in
          let l = good.loops f h m.1 (goes_stands (back s) ws (C.body f) h vs body) in
          subst (Inv C) (sym is) (inv_end s inv (C.unit h) f k ws (LoopTo h vs) e body (loop_not_yet h vs) (Runs h k vs) refl
          (λ g j us e'. (
            ap C.unit (sym (ap member_of e')),
            subst (λ g. g < C.functions) (ap member_of e') l.0,
            ap length (sym (ap args_of e')) ∙
                goes_sized C (back s) ws (C.body f) (good.counted f m.1) h vs body ∙ ap (arity C) (ap member_of e'),
          )))

  pub inv_fire : (s : State) (e : Event) → Inv C s → Enabled C args s e → Inv C (fire C args s e)
  inv_fire s (Accept k) inv h = subst (λ o. Inv C (accept C s k o)) (sym h.1) (inv_accept s k h.0 inv h.1 h.2)
  inv_fire s (Finish f) inv h = inv_finish s inv f h.0 h.1 h.2 h.3 h.4
  inv_fire s (Return k) inv h = subst (λ m. Inv C (give_back C s k m)) (sym h.1) (inv_return s k h.0 inv h.1)
  inv_fire s (LoopInto m) inv h = inv_go_on s inv m h.0 h.1

  pub inv_open : Inv C opening
  inv_open = record {
    serving = λ u k e. absurd (some_none k (sym e));
    flight = λ k e. absurd (sent_unsent (sym e));
    known = λ k e. absurd (e refl);
    asks = λ k pos e. absurd (e refl);
    member = λ u f k ws e. absurd (idle_runs f k ws e);
  }

  inv_all : (s : State) (es : List Event) → Inv C s → Legal C args s es → Inv C (after_event C args s es)
  unfolding Legal after_event
  inv_all s [] inv legal = inv
  inv_all s (e ∷ es) inv legal = inv_all (fire C args s e) es (inv_fire s e inv legal.0) legal.1

pub inv_after : (C : Program) (args : List Word) → Numbered C → (es : List Event) → Legal C args opening es → Inv C (after_event C args opening es)
inv_after C args good es legal = inv_all C args good opening es (inv_open C args good) legal

-- a site that is sent or returned has a caller that runs
pub unsent_at_rest : (C : Program) (s : State) (k : ℕ) → Inv C s → 0 < k → CallerRests C s k → s.site k ≡ Unsent
unsent_at_rest C s k inv pos rests = by (s.site k) refl
  where
    runs : s.site k ≢ Unsent → ⊥
    runs un = let a = inv.asks k pos un in rests a.serves a.args a.runs

    by : (x : Stage) → s.site k ≡ x → s.site k ≡ Unsent
    by Unsent e = e
    by Sent e = absurd (runs (λ un. sent_unsent (sym e ∙ un)))
    by (Returned v) e = absurd (runs (λ un. returned_unsent v (sym e ∙ un)))
