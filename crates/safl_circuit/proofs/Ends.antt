-- The Finishes and the Loops of a cycle.
use Rattle.safl_circuit.proofs.Common.{Choice, Inv, Numbered, Program, Stands, Word, cond_same, fun_ext, loop_not_yet, none_of}
use Rattle.safl_circuit.proofs.Common.{ready_not_yet, runs_idle, same_Some, unwrap_or}
use Rattle.std.proofs.Common.{◌≡◌, ℕ, zero, suc, ◌<◌, ◌≤◌, List, [], ◌∷◌, ◌++◌, Option, Some, None, Bool, true, false, cond, ◌&&◌, ◌==◌, is_some}
use Rattle.std.proofs.Common.{refl, sym, ap, ◌∙◌, subst, inl, inr, ⊎_elim, ◌⊎◌, arith}
use Rattle.std.proofs.lemmas.Bool.{cases_Bool, cases_eq, eqb-true, eq-eqb, ne_eqb, and_parts, true≢false}
use Rattle.safl_circuit.proofs.Accepts.{Meets, Started, begun, not_started, back_same}
use Rattle.safl_circuit.proofs.Middle.{member_says}
use Rattle.safl_circuit.specs.Equations.{Registers, Inputs, body_says, end_word, goes_to, loop_words, finishes, goes_on}
use Rattle.safl_circuit.proofs.Searched.{end_in, loop_in}
use Rattle.safl_calls.proofs.Basics.{put_at, put_off, sweep, last_append, first_some, first_only, first_skip, first_zero, all_none, some_none, some_of, cond_some, not_some}
use Rattle.safl_calls.proofs.Locality.{answer_local}
use Rattle.safl_calls.specs.Machine.{State, Mode, Idle, Runs, Delivers, Finish, LoopInto, Enabled, Legal, after_event, fire, finish, loop_into, ended, put, back, says, says_as, last_word, finished_as}
use Rattle.safl_calls.specs.Picks.{first, picks}
use Rattle.safl_term.specs.Readiness.{Answer, Ready, LoopTo, NotYet, answer, word_of, Unsent, back_word}
use Rattle.safl_term.proofs.Widths.{ready_loop}

pub ready_of : (a : Answer) (v : Word) → word_of a ≡ Some v → a ≡ Ready v
ready_of (Ready w) v h = ap Ready (same_Some w v h)
ready_of (LoopTo g vs) v h = absurd (some_none v (sym h))
ready_of NotYet v h = absurd (some_none v (sym h))

pub goes_of : (h : ℕ) (a : Answer) (vs : List Word) → goes_to h a ≡ Some vs → a ≡ LoopTo h vs
goes_of h (Ready w) vs e = absurd (some_none vs (sym e))
goes_of h (LoopTo g ws) vs e =
    let c = cond_some _ _ vs e in
    ap (λ j. LoopTo j ws) (eqb-true g h c.0) ∙ ap (LoopTo h) (same_Some ws vs c.1)
goes_of h NotYet vs e = absurd (some_none vs (sym e))

abbrev pub goal_of : Answer → ℕ
goal_of (Ready v) = 0
goal_of (LoopTo h vs) = h
goal_of NotYet = 0

abbrev pub member_of : Mode → ℕ
member_of Idle = 0
member_of (Runs f k ws) = f
member_of (Delivers k v) = 0

-- a member that says something runs
pub record Running (C : Program) (t : State) (f : ℕ) (a : Answer) : Type 0 where
  pub serves : ℕ
  pub args : List Word
  pub runs : t.unit (C.unit f) ≡ Runs f serves args
  pub answer : answer (back t) args (C.body f) ≡ a

runs_as : (C : Program) (t : State) (f : ℕ) (a : Answer) → (a ≡ NotYet → ⊥) → (m : Mode) → t.unit (C.unit f) ≡ m → member_says C (back t) m f ≡ a → Running C t f a
runs_as C t f a some Idle e h = absurd (some (sym h))
runs_as C t f a some (Delivers k v) e h = absurd (some (sym h))
runs_as C t f a some (Runs g k ws) e h = by (g == f) refl h
  where
    by : (b : Bool) → (g == f) ≡ b → cond b (answer (back t) ws (C.body f)) NotYet ≡ a → Running C t f a
    by true is h = record { serves = k; args = ws; runs = e ∙ ap (λ j. Runs j k ws) (eqb-true g f is); answer = h }
    by false is h = absurd (some (sym h))

module _ (C : Program) (P : Choice) (args : List Word) (good : Numbered C) (r : Registers) (i : Inputs) (t : State) (inv : Inv C t) (meets : Meets C P args r i t) where
  pub running : (f : ℕ) (a : Answer) → f < C.functions → (a ≡ NotYet → ⊥) → body_says C P r f ≡ a → Running C t f a
  running f a lt some h = runs_as C t f a some (t.unit (C.unit f)) refl (sym (meets.says f lt) ∙ h)

  -- one member of a unit says something
  pub one_says : (f g : ℕ) (a b : Answer) → f < C.functions → g < C.functions → C.unit f ≡ C.unit g → (a ≡ NotYet → ⊥) → (b ≡ NotYet → ⊥) → body_says C P r f ≡ a → body_says C P r g ≡ b → f ≡ g
  one_says f g a b ltf ltg e somea someb ha hb =
      let x = running f a ltf somea ha in
      let y = running g b ltg someb hb in
      ap member_of (sym x.runs ∙ ap t.unit e ∙ y.runs)

  pub end_found : (u f : ℕ) (v : Word) → end_in C P r u f ≡ Some v → (C.unit f ≡ u) × (body_says C P r f ≡ Ready v)
  end_found u f v h = let a = cond_some _ _ v h in (eqb-true _ u a.0, ready_of _ v a.1)

  pub loop_found : (h : ℕ) (vs : List Word) → loop_words C P r h ≡ Some vs → (g : ℕ) × (g < C.functions) × (C.unit g ≡ C.unit h) × (body_says C P r g ≡ LoopTo h vs)
  loop_found h vs e =
      let a = first_some _ C.functions vs e in
      let b = cond_some _ _ vs a.2 in
      (a.0, a.1, eqb-true _ _ b.0, goes_of h _ vs b.1)

  pub end_off : (u f : ℕ) → (C.unit f ≡ u → ⊥) → end_in C P r u f ≡ None
  end_off u f other = rw (ne_eqb (C.unit f) u other) refl

  -- the one end of a unit
  pub ends_at : (f : ℕ) (v : Word) (n u : ℕ) → f < n → n ≤ C.functions → body_says C P r f ≡ Ready v → C.unit f ≡ u → first (end_in C P r u) n ≡ Some v
  ends_at f v n u lt le h e = first_only (end_in C P r u) n v f lt (rw (eq-eqb (C.unit f) u e) (ap word_of h)) only
    where
      only : (j : ℕ) → j < n → (y : Word) → end_in C P r u j ≡ Some y → y ≡ v
      only j lt' y h' =
          let a = end_found u j y h' in
          let same : j ≡ f = one_says j f (Ready y) (Ready v) (omega (arith, lt', le)) (omega (arith, lt, le)) (a.0 ∙ sym e) (ready_not_yet y) (ready_not_yet v) a.1 h in
          same_Some y v (ap word_of (sym a.1 ∙ ap (body_says C P r) same ∙ h))

  module _ (x : State) (st : Started C P args good r i t inv meets (suc C.sites) x) where
    -- a unit that runs is not started
    pub still : (u f k : ℕ) (ws : List Word) → t.unit u ≡ Runs f k ws → x.unit u ≡ Runs f k ws
    still u f k ws e = st.unit u ∙ ap (λ o. begun C P args good r i t inv meets o (t.unit u)) (not_started C P args good r i t inv meets u (suc C.sites) (λ idle. runs_idle f k ws (sym e ∙ idle))) ∙ e

    pub back_x : back x ≡ back t
    back_x = fun_ext (back_same C P args good r i t inv meets (suc C.sites) x st)

    -- a body says the same where its own sites are as they were
    pub says_still : (f : ℕ) (ws : List Word) (z : State) → f < C.functions → ((k : ℕ) → C.caller (suc k) ≡ f → z.site (suc k) ≡ x.site (suc k)) →
        answer (back z) ws (C.body f) ≡ answer (back t) ws (C.body f)
    says_still f ws z lt same =
        answer_local (back z) (back x) ws (C.body f) own ∙ ap (λ b. answer b ws (C.body f)) back_x
      where
        own : (k : ℕ) → Stands k (C.body f) → back z k ≡ back x k
        own zero s = refl
        own (suc k) s = ap back_word (same k (good.own f (suc k) lt s).2)

    abbrev pub done_as : Option Word → Mode → Mode
    done_as None m = m
    done_as (Some v) Idle = Idle
    done_as (Some v) (Runs f k ws) = Delivers k v
    done_as (Some v) (Delivers k w) = Delivers k w

    pub record Ended (n : ℕ) (y : State) : Type 0 where
      pub unit : (u : ℕ) → y.unit u ≡ done_as (first (end_in C P r u) n) (x.unit u)
      pub site : (k : ℕ) → y.site (suc k) ≡ cond (is_some (first (end_in C P r (C.unit (C.caller (suc k)))) n)) Unsent (x.site (suc k))
      pub outer : y.site 0 ≡ x.site 0

    end_fires : (n : ℕ) (y : State) → n < C.functions → Ended n y → is_some (end_word C P r n) ≡ true → Enabled C args y (Finish n) × Ended (suc n) (fire C args y (Finish n))
    end_fires n y lt en up =
        let v = some_of (end_word C P r n) up in
        let is : body_says C P r n ≡ Ready v.0 = ready_of _ v.0 v.1 in
        fires v.0 is (running n (Ready v.0) lt (ready_not_yet v.0) is)
      where
        w : ℕ
        w = C.unit n

        none : first (end_in C P r w) n ≡ None
        none = all_none _ n (λ j below. not_some _ (λ v h.
            let a = end_found w j v h in
            let is = ready_of _ (some_of (end_word C P r n) up).0 (some_of (end_word C P r n) up).1 in
            omega (arith, one_says j n (Ready v) (Ready (some_of (end_word C P r n) up).0) (omega (arith, below, lt)) lt a.0 (ready_not_yet v) (ready_not_yet _) a.1 is, below)))

        fires : (v : Word) → body_says C P r n ≡ Ready v → Running C t n (Ready v) → Enabled C args y (Finish n) × Ended (suc n) (fire C args y (Finish n))
        fires v is run =
            let k = run.serves in
            let ws = run.args in
            let before : x.unit w ≡ Runs n k ws = still w n k ws run.runs in
            let now : y.unit w ≡ Runs n k ws = en.unit w ∙ ap (λ o. done_as o (x.unit w)) none ∙ before in
            let own = λ (j : ℕ) (e : C.caller (suc j) ≡ n). en.site j ∙ ap (λ o. cond (is_some o) Unsent (x.site (suc j))) (ap (λ f. first (end_in C P r (C.unit f)) n) e ∙ none) in
            let says' : says C y w ≡ Ready v = ap (says_as C (back y)) now ∙ says_still n ws y lt own ∙ run.answer in
            let e : finish C y w (y.unit w) (says C y w) ≡ finish C y w (Runs n k ws) (Ready v) = ap (λ m. finish C y w m (says C y w)) now ∙ ap (finish C y w (Runs n k ws)) says' in
            ((k, ws, v, now, says'), subst (Ended (suc n)) (sym e) (record { unit = units v k ws is before; site = sites v is; outer = en.outer }))
          where
            units : (v : Word) (k : ℕ) (ws : List Word) → body_says C P r n ≡ Ready v → x.unit w ≡ Runs n k ws → (u : ℕ) → put y.unit w (Delivers k v)
                u ≡ done_as (first (end_in C P r u) (suc n)) (x.unit u)
            units v k ws is before u = ⊎_elim
                (λ same. put_at y.unit w u (Delivers k v) same ∙ sym (ap (λ o. done_as o (x.unit u)) (ends_at n v (suc n) u (omega arith) lt is same)
                ∙ ap (done_as (Some v)) (ap x.unit (sym same) ∙ before)))
                (λ other. put_off y.unit w u (Delivers k v) other ∙ en.unit u ∙ ap (λ o. done_as o (x.unit u)) (sym (first_skip (end_in C P r u) n (end_off u n other))))
                (cases_eq w u)

            sites : (v : Word) → body_says C P r n ≡ Ready v → (j : ℕ) → ended C w y.site (suc j) ≡ cond (is_some (first (end_in C P r (C.unit (C.caller (suc j)))) (suc n))) Unsent (x.site (suc j))
            sites v is j = ⊎_elim
                (λ same. rw (eq-eqb (C.unit (C.caller (suc j))) w same, ends_at n v (suc n) (C.unit (C.caller (suc j))) (omega arith) lt is (sym same)) refl)
                (λ other. rw (ne_eqb (C.unit (C.caller (suc j))) w other)
                (en.site j ∙ ap (λ o. cond (is_some o) Unsent (x.site (suc j)))
                (sym (first_skip (end_in C P r (C.unit (C.caller (suc j)))) n (end_off _ n (λ e. other (sym e)))))))
                (cases_eq (C.unit (C.caller (suc j))) w)

    end_skips : (n : ℕ) (y : State) → n < C.functions → Ended n y → is_some (end_word C P r n) ≡ false → Ended (suc n) y
    end_skips n y lt en down = record {
      unit = λ u. en.unit u ∙ ap (λ o. done_as o (x.unit u)) (sym (first_skip (end_in C P r u) n (none u)));
      site = λ j. en.site j ∙ ap (λ o. cond (is_some o) Unsent (x.site (suc j))) (sym (first_skip (end_in C P r (C.unit (C.caller (suc j)))) n (none _)));
      outer = en.outer;
    }
      where
        none : (u : ℕ) → end_in C P r u n ≡ None
        none u = rw (none_of (end_word C P r n) down) (cond_same (C.unit n == u) None)

    pub finished_to : (n : ℕ) → n ≤ C.functions → Legal C args x (finishes C P r n) × Ended n (after_event C args x (finishes C P r n))
    finished_to n le =
        let none : Ended 0 x = record {
          unit = λ u. ap (λ o. done_as o (x.unit u)) (sym (first_zero (end_in C P r u)));
          site = λ k. ap
              (λ o. cond (is_some o) Unsent (x.site (suc k))) (sym (first_zero (end_in C P r (C.unit (C.caller (suc k))))));
          outer = refl;
        } in
        sweep C args Ended (λ f. is_some (end_word C P r f)) Finish C.functions end_fires end_skips x none n le

    -- what a unit says when its end is reached in the sweep
    pub end_says : (n : ℕ) (v : Word) (y : State) → n < C.functions → Ended n y → body_says C P r n ≡ Ready v → says C y (C.unit n) ≡ Ready v
    end_says n v y lt en is =
        let w = C.unit n in
        let run : Running C t n (Ready v) = running n (Ready v) lt (ready_not_yet v) is in
        let none : first (end_in C P r w) n ≡ None = all_none _ n (λ j below. not_some _ (λ v' h.
        let a = end_found w j v' h in
        let same : j ≡ n = one_says j n (Ready v') (Ready v) (omega (arith, below, lt)) lt a.0 (ready_not_yet v') (ready_not_yet v) a.1 is in
        omega (arith, same, below))) in
        let now : y.unit w ≡ Runs n run.serves run.args = en.unit w ∙ ap (λ o. done_as o (x.unit w)) none ∙ still w n run.serves run.args run.runs in
        let own = λ (j : ℕ) (e : C.caller (suc j) ≡ n). en.site j ∙ ap (λ o. cond (is_some o) Unsent (x.site (suc j))) (ap (λ f. first (end_in C P r (C.unit f)) n) e ∙ none) in
        ap (says_as C (back y)) now ∙ says_still n run.args y lt own ∙ run.answer

    -- the words that the ends leave
    pub last_end : (u : ℕ) (d : Word) (n : ℕ) → n ≤ C.functions → last_word C args x (finishes C P r n) u d ≡ unwrap_or (first (end_in C P r u) n) d
    unfolding picks last_word
    last_end u d zero le = ap (λ o. unwrap_or o d) (sym (first_zero (end_in C P r u)))
    last_end u d (suc n) le = by (is_some (end_word C P r n)) refl (last_end u d n (omega arith))
      where
        q : State
        q = after_event C args x (finishes C P r n)

        en : Ended n q
        en = (finished_to n (omega arith)).1

        up_at : (v : Word) → body_says C P r n ≡ Ready v → (e : Word) → e ≡ unwrap_or (first (end_in C P r u) n) d → cond (C.unit n == u)
            (finished_as (says C q u) e) e ≡ unwrap_or (first (end_in C P r u) (suc n)) d
        up_at v is e ih = ⊎_elim
            (λ same. rw (eq-eqb (C.unit n) u same) (ap (λ a. finished_as a e) (ap (says C q) (sym same) ∙ end_says n v q (omega arith) en is) ∙ sym
            (ap (λ o. unwrap_or o d) (ends_at n v (suc n) u (omega arith) le is same))))
            (λ other. rw (ne_eqb (C.unit n) u other) (ih ∙ ap (λ o. unwrap_or o d) (sym (first_skip (end_in C P r u) n (end_off u n other)))))
            (cases_eq (C.unit n) u)

        by : (b : Bool) → is_some (end_word C P r n) ≡ b → last_word C args x (finishes C P r n) u d ≡ unwrap_or (first (end_in C P r u) n) d →
            last_word C args x (finishes C P r n ++ cond b (Finish n ∷ []) []) u d ≡ unwrap_or (first (end_in C P r u) (suc n)) d
        by true is ih =
            let v = some_of (end_word C P r n) is in
            last_append C args x (finishes C P r n) (Finish n ∷ []) u d
            ∙ up_at v.0 (ready_of _ v.0 v.1) (last_word C args x (finishes C P r n) u d) ih
        by false is ih =
            last_append C args x (finishes C P r n) [] u d ∙ ih ∙ ap (λ o. unwrap_or o d) (sym (first_skip (end_in C P r u) n (rw (none_of (end_word C P r n) is) (cond_same (C.unit n == u) None))))

    module _ (y : State) (en : Ended C.functions y) where
      -- the one loop of a unit
      pub loop_in_found : (u h j : ℕ) → h < C.functions → loop_in C P r u h ≡ Some j → (j ≡ h) × (C.unit h ≡ u) × (is_some (loop_words C P r h) ≡ true)
      loop_in_found u h j lt e =
          let a = cond_some _ _ j e in
          let b = and_parts _ _ a.0 in
          (sym (same_Some h j a.1), eqb-true _ u b.0, b.1)

      -- two loops of a unit are one
      pub one_loop : (h j : ℕ) → h < C.functions → j < C.functions → C.unit h ≡ C.unit j → is_some (loop_words C P r h) ≡ true → is_some (loop_words C P r j) ≡ true → h ≡ j
      one_loop h j lth ltj e a b =
          let p = some_of _ a in
          let q = some_of _ b in
          let f = loop_found h p.0 p.1 in
          let g = loop_found j q.0 q.1 in
          let same : f.0 ≡ g.0 = one_says f.0 g.0 (LoopTo h p.0) (LoopTo j q.0) f.1 g.1 (f.2 ∙ e ∙ sym g.2) (loop_not_yet h p.0) (loop_not_yet j q.0) f.3 g.3 in
          ap goal_of (sym f.3 ∙ ap (body_says C P r) same ∙ g.3)

      pub loops_at : (h n u : ℕ) → h < n → n ≤ C.functions → is_some (loop_words C P r h) ≡ true → C.unit h ≡ u → first (loop_in C P r u) n ≡ Some h
      loops_at h n u lt le up e = first_only (loop_in C P r u) n h h lt (rw (eq-eqb (C.unit h) u e, up) refl) only
        where
          only : (j : ℕ) → j < n → (y : ℕ) → loop_in C P r u j ≡ Some y → y ≡ h
          only j lt' y e' =
              let a = loop_in_found u j y (omega (arith, lt', le)) e' in
              a.0 ∙ one_loop j h (omega (arith, lt', le)) (omega (arith, lt, le)) (a.1 ∙ sym e) a.2 up

      pub loop_off : (u h : ℕ) → (C.unit h ≡ u → is_some (loop_words C P r h) ≡ true → ⊥) → loop_in C P r u h ≡ None
      loop_off u h never = by (cases_Bool (C.unit h == u && is_some (loop_words C P r h)))
        where
          by : ((C.unit h == u && is_some (loop_words C P r h)) ≡ true) ⊎ ((C.unit h == u && is_some (loop_words C P r h)) ≡ false) → loop_in C P r u h ≡ None
          by (inl a) = let b = and_parts _ _ a in absurd (never (eqb-true _ u b.0) b.1)
          by (inr a) = rw a refl

      -- a unit that loops does not end
      pub no_end : (g h n : ℕ) (vs : List Word) → n ≤ C.functions → g < C.functions → body_says C P r g ≡ LoopTo h vs → first (end_in C P r (C.unit g)) n ≡ None
      no_end g h n vs le lt is = all_none _ n (λ j below. not_some _ (λ v e.
          let a = end_found (C.unit g) j v e in
          let same : j ≡ g = one_says j g (Ready v) (LoopTo h vs) (omega (arith, below, le)) lt a.0 (ready_not_yet v) (loop_not_yet h vs) a.1 is in
          ready_loop h vs v (sym a.1 ∙ ap (body_says C P r) same ∙ is)))

      abbrev pub moved_as : Option ℕ → Mode → Mode
      moved_as None m = m
      moved_as (Some h) Idle = Idle
      moved_as (Some h) (Runs f k ws) = Runs h k (unwrap_or (loop_words C P r h) [])
      moved_as (Some h) (Delivers k w) = Delivers k w

      pub record Moved (n : ℕ) (z : State) : Type 0 where
        pub unit : (u : ℕ) → z.unit u ≡ moved_as (first (loop_in C P r u) n) (y.unit u)
        pub site : (k : ℕ) → z.site (suc k) ≡ cond (is_some (first (loop_in C P r (C.unit (C.caller (suc k)))) n)) Unsent (y.site (suc k))
        pub outer : z.site 0 ≡ x.site 0

      loop_fires : (n : ℕ) (z : State) → n < C.functions → Moved n z → is_some (loop_words C P r n) ≡ true → Enabled C args z (LoopInto n) × Moved (suc n) (fire C args z (LoopInto n))
      loop_fires n z lt mv up =
          let p = some_of (loop_words C P r n) up in
          let f = loop_found n p.0 p.1 in
          fires p.0 p.1 f.0 f.1 f.2 f.3 (running f.0 (LoopTo n p.0) f.1 (loop_not_yet n p.0) f.3)
        where
          w : ℕ
          w = C.unit n

          none : first (loop_in C P r w) n ≡ None
          none = all_none _ n (λ j below. loop_off w j (λ e upj. omega (arith, one_loop j n (omega (arith, below, lt)) lt e upj up, below)))

          fires : (vs : List Word) → loop_words C P r n ≡ Some vs → (g : ℕ) → g < C.functions → C.unit g ≡ w → body_says C P r g ≡ LoopTo n vs →
              Running C t g (LoopTo n vs) → Enabled C args z (LoopInto n) × Moved (suc n) (fire C args z (LoopInto n))
          fires vs words g ltg in_w is run =
              let k = run.serves in
              let ws = run.args in
              let no_end' : first (end_in C P r w) C.functions ≡ None = ap (λ u. first (end_in C P r u) C.functions) (sym in_w) ∙ no_end g n C.functions vs (omega arith) ltg is in
              let began : x.unit w ≡ Runs g k ws = still w g k ws (ap t.unit (sym in_w) ∙ run.runs) in
              let before : y.unit w ≡ Runs g k ws = en.unit w ∙ ap (λ o. done_as o (x.unit w)) no_end' ∙ began in
              let now : z.unit w ≡ Runs g k ws = mv.unit w ∙ ap (λ o. moved_as o (y.unit w)) none ∙ before in
              let at = λ (j : ℕ) (e : C.caller (suc j) ≡ g). (let u : C.unit (C.caller (suc j)) ≡ w = ap C.unit e ∙ in_w in u) in
              let own = λ (j : ℕ) (e : C.caller (suc j) ≡ g).
              mv.site j ∙ ap (λ o. cond (is_some o) Unsent (y.site (suc j))) (ap (λ u. first (loop_in C P r u) n) (at j e) ∙ none)
              ∙ en.site j ∙ ap (λ o. cond (is_some o) Unsent (x.site (suc j))) (ap (λ u. first (end_in C P r u) C.functions) (at j e) ∙ no_end') in
              let says' : says C z w ≡ LoopTo n vs = ap (says_as C (back z)) now ∙ says_still g ws z ltg own ∙ run.answer in
              let e : loop_into C z w (z.unit w) (says C z w) ≡ loop_into C z w (Runs g k ws) (LoopTo n vs) = ap (λ m. loop_into C z w m (says C z w)) now ∙ ap (loop_into C z w (Runs g k ws)) says' in
              ((vs, says'), subst (Moved (suc n)) (sym e) (record { unit = units vs k g ws words before; site = sites; outer = mv.outer }))
            where
              units : (vs : List Word) (k g : ℕ) (ws : List Word) → loop_words C P r n ≡ Some vs → y.unit w ≡ Runs g k ws → (u : ℕ) → put z.unit w
                  (Runs n k vs) u ≡ moved_as (first (loop_in C P r u) (suc n)) (y.unit u)
              units vs k g ws words before u = ⊎_elim
                  (λ same. put_at z.unit w u (Runs n k vs) same ∙ sym (ap (λ o. moved_as o (y.unit u)) (loops_at n (suc n) u (omega arith) lt up same)
                  ∙ ap (moved_as (Some n)) (ap y.unit (sym same) ∙ before) ∙ ap (λ o. Runs n k (unwrap_or o [])) words))
                  (λ other. put_off z.unit w u (Runs n k vs) other ∙ mv.unit u ∙ ap (λ o. moved_as o (y.unit u)) (sym (first_skip (loop_in C P r u) n (loop_off u n (λ e upn. other e)))))
                  (cases_eq w u)

              sites : (j : ℕ) → ended C w z.site (suc j) ≡ cond (is_some (first (loop_in C P r (C.unit (C.caller (suc j)))) (suc n))) Unsent (y.site (suc j))
              sites j = ⊎_elim
                  (λ same. rw (eq-eqb (C.unit (C.caller (suc j))) w same, loops_at n (suc n) (C.unit (C.caller (suc j))) (omega arith) lt up (sym same)) refl)
                  (λ other. rw (ne_eqb (C.unit (C.caller (suc j))) w other)
                  (mv.site j ∙ ap (λ o. cond (is_some o) Unsent (y.site (suc j)))
                  (sym (first_skip (loop_in C P r (C.unit (C.caller (suc j)))) n (loop_off _ n (λ e upn. other (sym e)))))))
                  (cases_eq (C.unit (C.caller (suc j))) w)

      loop_skips : (n : ℕ) (z : State) → n < C.functions → Moved n z → is_some (loop_words C P r n) ≡ false → Moved (suc n) z
      loop_skips n z lt mv down = record {
        unit = λ u. mv.unit u ∙ ap (λ o. moved_as o (y.unit u)) (sym (first_skip (loop_in C P r u) n (loop_off u n (λ e up. absurd (true≢false (sym up ∙ down))))));
        site = λ j. mv.site j ∙ ap (λ o. cond (is_some o) Unsent (y.site (suc j)))
            (sym (first_skip (loop_in C P r (C.unit (C.caller (suc j)))) n (loop_off _ n (λ e up. absurd (true≢false (sym up ∙ down))))));
        outer = mv.outer;
      }

      pub moved_to : (n : ℕ) → n ≤ C.functions → Legal C args y (goes_on C P r n) × Moved n (after_event C args y (goes_on C P r n))
      moved_to n le =
          let none : Moved 0 y = record {
            unit = λ u. ap (λ o. moved_as o (y.unit u)) (sym (first_zero (loop_in C P r u)));
            site = λ k. ap
                (λ o. cond (is_some o) Unsent (y.site (suc k))) (sym (first_zero (loop_in C P r (C.unit (C.caller (suc k))))));
            outer = en.outer;
          } in
          sweep C args Moved (λ h. is_some (loop_words C P r h)) LoopInto C.functions loop_fires loop_skips y none n le

      pub moved_all : Legal C args y (goes_on C P r C.functions) × Moved C.functions (after_event C args y (goes_on C P r C.functions))
      moved_all = moved_to C.functions (omega arith)

      -- what a unit says when its loop is reached in the sweep
      pub loop_says : (n : ℕ) (vs : List Word) (z : State) → n < C.functions → Moved n z → loop_words C P r n ≡ Some vs → says C z (C.unit n) ≡ LoopTo n vs
      loop_says n vs z lt mv words =
          let w = C.unit n in
          let f = loop_found n vs words in
          let g = f.0 in
          let in_w = f.2 in
          let run : Running C t g (LoopTo n vs) = running g (LoopTo n vs) f.1 (loop_not_yet n vs) f.3 in
          let none : first (loop_in C P r w) n ≡ None = all_none _ n (λ j below. loop_off w j (λ e upj. omega (arith, one_loop j n (omega (arith, below, lt)) lt e upj (ap is_some words), below))) in
          let no_end' : first (end_in C P r w) C.functions ≡ None = ap (λ u. first (end_in C P r u) C.functions) (sym in_w) ∙ no_end g n C.functions vs (omega arith) f.1 f.3 in
          let began : x.unit w ≡ Runs g run.serves run.args = still w g run.serves run.args (ap t.unit (sym in_w) ∙ run.runs) in
          let before : y.unit w ≡ Runs g run.serves run.args = en.unit w ∙ ap (λ o. done_as o (x.unit w)) no_end' ∙ began in
          let now : z.unit w ≡ Runs g run.serves run.args = mv.unit w ∙ ap (λ o. moved_as o (y.unit w)) none ∙ before in
          let own = λ (j : ℕ) (e : C.caller (suc j) ≡ g).
          mv.site j ∙ ap (λ o. cond (is_some o) Unsent (y.site (suc j))) (ap (λ u. first (loop_in C P r u) n) (ap C.unit e ∙ in_w) ∙ none)
          ∙ en.site j ∙ ap (λ o. cond (is_some o) Unsent (x.site (suc j))) (ap (λ u. first (end_in C P r u) C.functions) (ap C.unit e ∙ in_w) ∙ no_end') in
          ap (says_as C (back z)) now ∙ says_still g run.args z f.1 own ∙ run.answer
