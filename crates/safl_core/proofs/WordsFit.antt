-- The widths of words in a state that is reached.
use Rattle.safl_core.proofs.Common.{Program, Word, cases_eq, eqb-true, not_loop, numbered, same_Some, unit_for, widths}
use Rattle.std.proofs.Common.{◌≡◌, ℕ, zero, suc, ◌<◌, ◌≤◌, List, [], ◌∷◌, cond, eqb, Some, Bool, true, false, ◌⊎◌, inl, inr, refl, sym, ap, ◌∙◌, subst, ⊎_elim}
use Rattle.safl_term.specs.Readiness.{Unsent, Sent, Returned, Ready, LoopTo, answer, wanted, back_word}
use Rattle.safl_term.specs.WellFormed.{IsWellFormed, HasWidth}
use Rattle.safl_term.proofs.Widths.{answer_width, loop_widths, wanted_widths}
use Rattle.safl_calls.specs.Machine.{State, Mode, Idle, Runs, Delivers, Event, Accept, Finish, Return, LoopInto, opening, put, back, says, says_as}
use Rattle.safl_calls.specs.Machine.{asked, asked_as, Enabled, Legal, after_event, fire, accept, finish, give_back, loop_into, ended}
use Rattle.safl_calls.proofs.Basics.{serves, put_at, put_off, some_none, cond_some}
use Rattle.safl_calls.proofs.Invariant.{Inv, inv_fire, inv_open}
use Rattle.safl_calls.proofs.Apart.{delivers_runs, idle_delivers, idle_runs, runs_delivers}

pub record Fits (C : Program) (s : State) : Type 0 where
  pub runs : (u f k : ℕ) (ws : List Word) → s.unit u ≡ Runs f k ws → widths ws ≡ C.params f
  pub gives : (u k : ℕ) (v : Word) → s.unit u ≡ Delivers k v → v.width ≡ C.result (C.callee k)
  pub back : (k : ℕ) (v : Word) → back s k ≡ Some v → v.width ≡ C.result (C.callee k)

abbrev member_of : Mode → ℕ
member_of Idle = 0
member_of (Runs f k ws) = f
member_of (Delivers k v) = 0

abbrev args_of : Mode → List Word
args_of Idle = []
args_of (Runs f k ws) = ws
args_of (Delivers k v) = []

abbrev site_of : Mode → ℕ
site_of Idle = 0
site_of (Runs f k ws) = k
site_of (Delivers k v) = k

abbrev word_of : Mode → Word → Word
word_of Idle d = d
word_of (Runs f k ws) d = d
word_of (Delivers k v) d = v

-- a part of the state as before, or the one that was put there
put_cases : {A : Type 0} (f : ℕ → A) (i j : ℕ) (x y : A) → put f i x j ≡ y → ((i ≡ j) × (x ≡ y)) ⊎ (f j ≡ y)
put_cases f i j x y e = ⊎_elim (λ same. inl (same, sym (put_at f i j x same) ∙ e)) (λ other. inr (sym (put_off f i j x other) ∙ e)) (cases_eq i j)

module _ (C : Program) (wf : IsWellFormed C) where
  -- a body's parts, where its unit runs it
  answer_fits : (s : State) (f : ℕ) (ws : List Word) (v : Word) → Fits C s → f < C.functions → widths ws ≡ C.params f → answer (back s) ws (C.body f) ≡ Ready v → v.width ≡ C.result f
  answer_fits s f ws v fits lt e is =
      let b = wf.numbered.bodies f in
      answer_width C (back s) f true b.0 b.1 ws (C.body f) (C.result f) v b.3 (subst (λ l. HasWidth C l (C.body f) (C.result f)) (sym e) (wf.widths f lt)) (λ k w st q. fits.back k w q) is

  loop_fits : (s : State) (f h : ℕ) (ws vs : List Word) → Fits C s → f < C.functions → widths ws ≡ C.params f → answer (back s) ws (C.body f) ≡ LoopTo h vs → widths vs ≡ C.params h
  loop_fits s f h ws vs fits lt e is =
      let b = wf.numbered.bodies f in
      loop_widths C (back s) f true b.0 b.1 ws (C.body f) (C.result f) h vs b.3 (subst (λ l. HasWidth C l (C.body f) (C.result f)) (sym e) (wf.widths f lt)) (λ k w st q. fits.back k w q) is

  wanted_fits : (s : State) (f k : ℕ) (ws us : List Word) → Fits C s → f < C.functions → widths ws ≡ C.params f → wanted (back s) ws (C.body f) k ≡ Some us → widths us ≡ C.params (C.callee k)
  wanted_fits s f k ws us fits lt e is =
      let b = wf.numbered.bodies f in
      wanted_widths C (back s) f true b.0 b.1 ws (C.body f) (C.result f) k us b.3 (subst (λ l. HasWidth C l (C.body f) (C.result f)) (sym e) (wf.widths f lt)) (λ k w st q. fits.back k w q) is

  module _ (args : List Word) (given : widths args ≡ C.params C.main) (s : State) (inv : Inv C s) (fits : Fits C s) where
    asked_fits : (k : ℕ) (ws : List Word) → asked C args s k ≡ Some ws → widths ws ≡ C.params (C.callee k)
    asked_fits zero ws e = sym (ap widths (same_Some args ws (cond_some _ _ ws e).1)) ∙ (given ∙ ap C.params (sym wf.main))
    asked_fits (suc k) ws e = by (s.unit (C.unit (C.caller (suc k)))) refl (cond_some _ _ ws e).1
      where
        by : (m : Mode) → s.unit (C.unit (C.caller (suc k))) ≡ m → asked_as C (back s) m (C.caller (suc k)) (suc k) ≡ Some ws → widths ws ≡ C.params (C.callee (suc k))
        by Idle q h = absurd (some_none ws (sym h))
        by (Delivers j v) q h = absurd (some_none ws (sym h))
        by (Runs g j vs) q h =
            let a = cond_some _ _ ws h in
            let same = eqb-true g (C.caller (suc k)) a.0 in
            let m = inv.member _ g j vs q in
            wanted_fits s g (suc k) vs ws fits m.1 (fits.runs _ g j vs q) (ap (λ f. wanted (back s) vs (C.body f) (suc k)) same ∙ a.1)

    fits_accept : (k : ℕ) (ws : List Word) → asked C args s k ≡ Some ws → Fits C (accept C s k (Some ws))
    fits_accept k ws e = record {
      runs = λ u f j vs q. ⊎_elim (λ p. sym (ap widths (ap args_of p.1)) ∙ (asked_fits k ws e ∙ ap C.params (ap member_of p.1)))
          (λ p. fits.runs u f j vs p) (put_cases s.unit (unit_for C k) u (Runs (C.callee k) k ws) (Runs f j vs) q);
      gives = λ u j v q. ⊎_elim (λ p. runs_delivers _ _ _ _ _ p.1) (λ p. fits.gives u j v p) (put_cases s.unit (unit_for C k) u (Runs (C.callee k) k ws) (Delivers j v) q);
      back = back_sent;
    }
      where
        back_sent : (j : ℕ) (v : Word) → back (accept C s k (Some ws)) j ≡ Some v → v.width ≡ C.result (C.callee j)
        back_sent zero v q = absurd (some_none v (sym q))
        back_sent (suc j) v q = ⊎_elim
            (λ same. absurd (some_none v (sym (sym (ap back_word (put_at s.site k (suc j) Sent same)) ∙ q))))
            (λ other. fits.back (suc j) v (sym (ap back_word (put_off s.site k (suc j) Sent other)) ∙ q))
            (cases_eq k (suc j))

    back_ended : (u k : ℕ) (v : Word) (m : ℕ → Mode) → back (record { unit = m; site = ended C u s.site }) k ≡ Some v → v.width ≡ C.result (C.callee k)
    back_ended u zero v m q = absurd (some_none v (sym q))
    back_ended u (suc k) v m q = by (eqb (C.unit (C.caller (suc k))) u) q
      where
        by : (b : Bool) → back_word (cond b Unsent (s.site (suc k))) ≡ Some v → v.width ≡ C.result (C.callee (suc k))
        by true z = absurd (some_none v (sym z))
        by false z = fits.back (suc k) v z

    -- the members of a unit have one result width
    same_result : (f k : ℕ) → f < C.functions → k ≤ C.sites → unit_for C k ≡ C.unit f → C.result f ≡ C.result (C.callee k)
    same_result f k lt le e =
        let callee = (numbered C wf).callee_in k le in
        sym (wf.first f lt).2 ∙ (ap C.result (sym e) ∙ (wf.first (C.callee k) callee).2)

    fits_finish : (f k : ℕ) (ws : List Word) (v : Word) → s.unit (C.unit f) ≡ Runs f k ws → says C s (C.unit f) ≡ Ready v → Fits C
        (record { unit = put s.unit (C.unit f) (Delivers k v); site = ended C (C.unit f) s.site })
    fits_finish f k ws v e is =
        let m = inv.member (C.unit f) f k ws e in
        let serving = inv.serving (C.unit f) k (ap serves e) in
        let wide = answer_fits s f ws v fits m.1 (fits.runs (C.unit f) f k ws e) (sym (ap (says_as C (back s)) e) ∙ is) ∙ same_result f k m.1 serving.2 serving.1 in
        record {
          runs = λ u g j vs q. ⊎_elim (λ p. delivers_runs _ _ _ _ _ p.1) (λ p. fits.runs u g j vs p) (put_cases s.unit (C.unit f) u (Delivers k v) (Runs g j vs) q);
          gives = λ u j w q. ⊎_elim (λ p. sym (ap (λ z. (word_of z v).width) p.1) ∙ (wide ∙ ap (λ n. C.result (C.callee n)) (ap site_of p.1)))
              (λ p. fits.gives u j w p) (put_cases s.unit (C.unit f) u (Delivers k v) (Delivers j w) q);
          back = λ j w q. back_ended (C.unit f) j w (put s.unit (C.unit f) (Delivers k v)) q;
        }

    fits_return : (k : ℕ) (v : Word) → s.unit (unit_for C k) ≡ Delivers k v → Fits C (give_back C s k (Delivers k v))
    fits_return k v e = record {
      runs = λ u g j vs q. ⊎_elim (λ p. idle_runs _ _ _ p.1) (λ p. fits.runs u g j vs p) (put_cases s.unit (unit_for C k) u Idle (Runs g j vs) q);
      gives = λ u j w q. ⊎_elim (λ p. idle_delivers _ _ p.1) (λ p. fits.gives u j w p) (put_cases s.unit (unit_for C k) u Idle (Delivers j w) q);
      back = back_given;
    }
      where
        back_given : (j : ℕ) (w : Word) → back (give_back C s k (Delivers k v)) j ≡ Some w → w.width ≡ C.result (C.callee j)
        back_given zero w q = absurd (some_none w (sym q))
        back_given (suc j) w q = ⊎_elim
            (λ same. sym (ap (λ z. z.width) (same_Some v w (sym (ap back_word (put_at s.site k (suc j) (Returned v) same)) ∙ q))) ∙
            (fits.gives (unit_for C k) k v e ∙ ap (λ n. C.result (C.callee n)) same))
            (λ other. fits.back (suc j) w (sym (ap back_word (put_off s.site k (suc j) (Returned v) other)) ∙ q))
            (cases_eq k (suc j))

    fits_loop : (h f k : ℕ) (ws vs : List Word) → s.unit (C.unit h) ≡ Runs f k ws → says C s (C.unit h) ≡ LoopTo h vs → Fits C
        (record { unit = put s.unit (C.unit h) (Runs h k vs); site = ended C (C.unit h) s.site })
    fits_loop h f k ws vs e is =
        let m = inv.member (C.unit h) f k ws e in
        let wide = loop_fits s f h ws vs fits m.1 (fits.runs (C.unit h) f k ws e) (sym (ap (says_as C (back s)) e) ∙ is) in
        record {
          runs = λ u g j us q. ⊎_elim (λ p. sym (ap widths (ap args_of p.1)) ∙ (wide ∙ ap C.params (ap member_of p.1))) (λ p. fits.runs u g j us p)
              (put_cases s.unit (C.unit h) u (Runs h k vs) (Runs g j us) q);
          gives = λ u j w q. ⊎_elim (λ p. runs_delivers _ _ _ _ _ p.1) (λ p. fits.gives u j w p) (put_cases s.unit (C.unit h) u (Runs h k vs) (Delivers j w) q);
          back = λ j w q. back_ended (C.unit h) j w (put s.unit (C.unit h) (Runs h k vs)) q;
        }

    pub fits_fire : (e : Event) → Enabled C args s e → Fits C (fire C args s e)
    fits_fire (Accept k) h = subst (λ o. Fits C (accept C s k o)) (sym h.1) (fits_accept k h.0 h.1)
    fits_fire (Finish f) h =
        subst (λ m. Fits C (finish C s (C.unit f) m (says C s (C.unit f)))) (sym h.3)
        (subst (λ a. Fits C (finish C s (C.unit f) (Runs f h.0 h.1) a)) (sym h.4) (fits_finish f h.0 h.1 h.2 h.3 h.4))
    fits_fire (Return k) h = subst (λ m. Fits C (give_back C s k m)) (sym h.1) (fits_return k h.0 h.1)
    fits_fire (LoopInto m) h = by (s.unit (C.unit m)) refl
      where
        by : (x : Mode) → s.unit (C.unit m) ≡ x → Fits C (loop_into C s (C.unit m) (s.unit (C.unit m)) (says C s (C.unit m)))
        by Idle q = not_loop m h.0 (sym (ap (says_as C (back s)) q) ∙ h.1)
        by (Delivers j v) q = not_loop m h.0 (sym (ap (says_as C (back s)) q) ∙ h.1)
        by (Runs f k ws) q =
            subst (λ x. Fits C (loop_into C s (C.unit m) x (says C s (C.unit m)))) (sym q)
            (subst (λ a. Fits C (loop_into C s (C.unit m) (Runs f k ws) a)) (sym h.1) (fits_loop m f k ws h.0 q h.1))

  pub fits_all : (args : List Word) → widths args ≡ C.params C.main → (s : State) (es : List Event) → Inv C s → Fits C s → Legal C args s es → Fits C (after_event C args s es)
  unfolding Legal after_event
  fits_all args given s [] inv fits legal = fits
  fits_all args given s (e ∷ es) inv fits legal = fits_all args given (fire C args s e) es (inv_fire C args (numbered C wf) s e inv legal.0) (fits_fire args given s inv fits e legal.0) legal.1

  pub fits_open : Fits C opening
  fits_open = record {
    runs = λ u f k ws e. idle_runs f k ws e;
    gives = λ u k v e. idle_delivers k v e;
    back = λ k v e. absurd (nothing k v e);
  }
    where
      nothing : (k : ℕ) (v : Word) → back opening k ≡ Some v → ⊥
      nothing zero v e = some_none v (sym e)
      nothing (suc k) v e = some_none v (sym e)

  pub fits_after : (args : List Word) (es : List Event) → widths args ≡ C.params C.main → Legal C args opening es → Fits C (after_event C args opening es)
  fits_after args es given legal = fits_all args given opening es (inv_open C args (numbered C wf)) fits_open legal
