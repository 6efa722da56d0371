-- A word whose use is past changes nothing.
use Rattle.safl_calls.proofs.Common.{Program, Word, bool_at, fun_ext, ready_not_yet, same_Some, slot}
use Rattle.std.proofs.Common.{◌≡◌, ◌≢◌, ℕ, zero, suc, ◌+◌, List, [], ◌∷◌, ◌++◌, length, length-append, Option, Some, None, Bool, true, false, cond}
use Rattle.std.proofs.Common.{◌==◌, is_some, refl, sym, ap, ◌∙◌, subst, inl, inr, ⊎_elim, ◌⊎◌, arith}
use Rattle.std.proofs.lemmas.Bool.{cases_Bool, eq-eqb, ne_eqb, false≢true, true≢false, false_from_ne_true}
use Rattle.safl_calls.proofs.Basics.{some_none}
use Rattle.safl_calls.proofs.Bodies.{or_some, settled, settled_in, wanted_stands, wanted_stands_in}
use Rattle.safl_calls.proofs.Locality.{answer_local, all_local, wanted_local, wanted_in_local}
use Rattle.safl_calls.proofs.Interference.{Sound, SoundIn, sound_c, sound_x, sound_y, sound_bs, sound_body, sound_args, sound_head, sound_rest, select_of, with_of}
use Rattle.safl_calls.proofs.Spared.{AgreeOn, agree_at, agree_append, Alike, AlikeAll, alike, alike_all, wants_too, wants_in_too, answer_env, wanted_env}
use Rattle.safl_sites.specs.Conflicts.{Reaches, ReachesIn}
use Rattle.safl_sites.specs.Kept.{feeds, feeds_each, Uses, Decides, DecidesIn, InBody, Held, HeldIn}
use Rattle.safl_term.proofs.Once.{Once, OnceIn}
use Rattle.safl_term.specs.Readiness.{Answer, Ready, LoopTo, NotYet, apply_to, loop_to, both, select, with_all, or_else, ready_from, answer, answers, wanted, wanted_in}
use Rattle.safl_term.specs.Standing.{Stands, StandsIn}
use Rattle.safl_term.specs.Terms.{Term, Terms, Const, Var, Op, If, Let, Call, Loop, Nil, Cons}
use Rattle.safl_word.proofs.Options.{none_of, some_at}
use Rattle.safl_term.proofs.Picking.{pick_cases, Takes, Skips}

unfoldable mutual
  unfolding Stands

  -- k stands in a condition, a binding or an argument, and b in the branch, the let's body or the call after it
  pub Before : ℕ → ℕ → Term → Type 0
  Before k b (Const n) = ⊥
  Before k b (Var i) = ⊥
  Before k b (Op p ts) = BeforeIn k b ts
  Before k b (If d x y) = (Stands k d × (Stands b x ⊎ Stands b y)) ⊎ (Before k b d ⊎ (Before k b x ⊎ Before k b y))
  Before k b (Let bs x) = (StandsIn k bs × Stands b x) ⊎ (BeforeIn k b bs ⊎ Before k b x)
  Before k b (Call f i ts) = (StandsIn k ts × (i ≡ b)) ⊎ BeforeIn k b ts
  Before k b (Loop h ts) = BeforeIn k b ts

  pub BeforeIn : ℕ → ℕ → Terms → Type 0
  BeforeIn k b Nil = ⊥
  BeforeIn k b (Cons t ts) = Before k b t ⊎ BeforeIn k b ts

mutual
  unfolding Stands Before

  before_stands : (k b : ℕ) (t : Term) → Before k b t → Stands k t × Stands b t
  before_stands k b (Const n) h = absurd h
  before_stands k b (Var i) h = absurd h
  before_stands k b (Op p ts) h = before_stands_in k b ts h
  before_stands k b (If d x y) (inl h) = (inl h.0, inr h.1)
  before_stands k b (If d x y) (inr (inl h)) = let p = before_stands k b d h in (inl p.0, inl p.1)
  before_stands k b (If d x y) (inr (inr (inl h))) = let p = before_stands k b x h in (inr (inl p.0), inr (inl p.1))
  before_stands k b (If d x y) (inr (inr (inr h))) = let p = before_stands k b y h in (inr (inr p.0), inr (inr p.1))
  before_stands k b (Let bs x) (inl h) = (inl h.0, inr h.1)
  before_stands k b (Let bs x) (inr (inl h)) = let p = before_stands_in k b bs h in (inl p.0, inl p.1)
  before_stands k b (Let bs x) (inr (inr h)) = let p = before_stands k b x h in (inr p.0, inr p.1)
  before_stands k b (Call f i ts) (inl h) = (inr h.0, inl h.1)
  before_stands k b (Call f i ts) (inr h) = let p = before_stands_in k b ts h in (inr p.0, inr p.1)
  before_stands k b (Loop g ts) h = before_stands_in k b ts h

  before_stands_in : (k b : ℕ) (ts : Terms) → BeforeIn k b ts → StandsIn k ts × StandsIn b ts
  before_stands_in k b Nil h = absurd h
  before_stands_in k b (Cons t ts) (inl h) = let p = before_stands k b t h in (inl p.0, inl p.1)
  before_stands_in k b (Cons t ts) (inr h) = let p = before_stands_in k b ts h in (inr p.0, inr p.1)

pub agree_refl : (fe : List Bool) (env : List Word) → length fe ≡ length env → AgreeOn fe env env
agree_refl [] [] len = tt
agree_refl (f ∷ fe) (x ∷ env) len = (λ e. refl, agree_refl fe env (omega (arith, len)))
agree_refl [] (x ∷ env) len = absurd (omega (arith, len))
agree_refl (f ∷ fe) [] len = absurd (omega (arith, len))

agree_length : (fe : List Bool) (xs ys : List Word) → AgreeOn fe xs ys → (length fe ≡ length xs) × (length xs ≡ length ys)
agree_length [] [] [] h = (refl, refl)
agree_length (f ∷ fe) (x ∷ xs) (y ∷ ys) h = let p = agree_length fe xs ys h.1 in (omega (arith, p.0), omega (arith, p.1))
agree_length [] [] (y ∷ ys) h = absurd h
agree_length [] (x ∷ xs) ys h = absurd h
agree_length (f ∷ fe) [] ys h = absurd h
agree_length (f ∷ fe) (x ∷ xs) [] h = absurd h

alike_ready : (f : Bool) (q q' : Answer) (n : Word) → f ≡ false → Alike f q q' → q ≡ Ready n → q' ≡ q
alike_ready f (Ready v) (Ready w) n none h e = ap Ready (sym (h none))
alike_ready f (LoopTo i vs) q' n none h e = absurd (grind arith)
alike_ready f NotYet q' n none h e = absurd (grind arith)
alike_ready f (Ready v) (LoopTo j ws) n none h e = absurd h
alike_ready f (Ready v) NotYet n none h e = absurd h

alike_some : (fs : List Bool) (vs : List Word) (q : Option (List Word)) → AlikeAll fs (Some vs) q → (ws : List Word) × (q ≡ Some ws) × AgreeOn fs vs ws
alike_some fs vs None h = absurd h
alike_some fs vs (Some ws) h = (ws, refl, h)

select_ready : (q : Answer) (x y : Option (List Word)) → is_some (select q None x y) ≡ true → (n : Word) × (q ≡ Ready n)
select_ready (Ready n) x y e = (n, refl)
select_ready (LoopTo h vs) x y e = absurd (false≢true e)
select_ready NotYet x y e = absurd (false≢true e)

taken_x : (q : Answer) (x y : Option (List Word)) → is_some (select q None x y) ≡ true → (is_some y ≡ true → ⊥) → Takes q × (is_some x ≡ true)
taken_x (Ready u) x y e never = pick_cases u.bits x y x y (λ z z'. is_some z ≡ true) (Takes (Ready u) × (is_some x ≡ true)) (λ one p. ((u, refl, one), p)) (λ other p. absurd (never p)) e
taken_x (LoopTo h vs) x y e never = absurd (false≢true e)
taken_x NotYet x y e never = absurd (false≢true e)

taken_y : (q : Answer) (x y : Option (List Word)) → is_some (select q None x y) ≡ true → (is_some x ≡ true → ⊥) → Skips q × (is_some y ≡ true)
taken_y (Ready u) x y e never = pick_cases u.bits x y x y (λ z z'. is_some z ≡ true) (Skips (Ready u) × (is_some y ≡ true)) (λ one p. absurd (never p)) (λ other p. ((u, refl, other), p)) e
taken_y (LoopTo h vs) x y e never = absurd (false≢true e)
taken_y NotYet x y e never = absurd (false≢true e)

-- what stands after an environment
app_agree : (env vs ws : List Word) (i : ℕ) → ((j : ℕ) → i ≡ length env + j → slot vs j ≡ slot ws j) → slot (env ++ vs) i ≡ slot (env ++ ws) i
app_agree [] vs ws i h = h i (omega arith)
app_agree (x ∷ env) vs ws zero h = refl
app_agree (x ∷ env) vs ws (suc i) h = app_agree env vs ws i (λ j e. h j (omega (arith, e)))

module _ (C : Program) (k b0 k' : ℕ) (r c : ℕ → Option Word) (other : (j : ℕ) → (j ≡ k → ⊥) → r j ≡ c j)
    (there : (j : ℕ) → is_some (r j) ≡ is_some (c j)) (via : (t : Term) → Stands b0 t → Reaches C k' t) where
  -- where k does not stand
  qp : (env : List Word) (t : Term) → (Stands k t → ⊥) → answer c env t ≡ answer r env t
  qp env t never = answer_local c r env t (λ j st. sym (other j (λ is. never (subst (λ n. Stands n t) is st))))

  qp_in : (env : List Word) (ts : Terms) → (StandsIn k ts → ⊥) → answers c env ts ≡ answers r env ts
  qp_in env ts never = all_local c r env ts (λ j st. sym (other j (λ is. never (subst (λ n. StandsIn n ts) is st))))

  qw : (env : List Word) (t : Term) (m : ℕ) → (Stands k t → ⊥) → wanted c env t m ≡ wanted r env t m
  qw env t m never = wanted_local c r env t m (λ j st. sym (other j (λ is. never (subst (λ n. Stands n t) is st))))

  qw_in : (env : List Word) (ts : Terms) (m : ℕ) → (StandsIn k ts → ⊥) → wanted_in c env ts m ≡ wanted_in r env ts m
  qw_in env ts m never = wanted_in_local c r env ts m (λ j st. sym (other j (λ is. never (subst (λ n. StandsIn n ts) is st))))

  -- where a part is ready, no site is wanted that has not returned
  done_none : (env : List Word) (t : Term) → Once t → Sound r env t → (a : Answer) → answer r env t ≡ a → (a ≡ NotYet → ⊥) → (m : ℕ) → is_some (r m) ≡ false → is_some (wanted r env t m) ≡ false
  done_none env t once h a e some m out = false_from_ne_true _ (λ w. true≢false (sym (settled r env t once h a e some m w) ∙ out))

  done_none_in : (env : List Word) (ts : Terms) → OnceIn ts → SoundIn r env ts → (vs : List Word) → answers r env ts ≡ Some vs → (m : ℕ) → is_some
      (r m) ≡ false → is_some (wanted_in r env ts m) ≡ false
  done_none_in env ts once h vs e m out = false_from_ne_true _ (λ w. true≢false (sym (settled_in r env ts once h vs e m w) ∙ out))

  none_same : (o p : Option (List Word)) → is_some p ≡ false → is_some p ≡ is_some o → o ≡ p
  none_same o p e same = none_of o (sym same ∙ e) ∙ sym (none_of p e)

  via_in : (ts : Terms) → StandsIn b0 ts → ReachesIn C k' ts
  unfolding Stands ReachesIn
  via_in Nil st = absurd st
  via_in (Cons t ts) (inl st) = inl (via t st)
  via_in (Cons t ts) (inr st) = inr (via_in ts st)

  -- a let's body after its bindings changed in slots that are fed
  module _ (fe fs : List Bool) (env vs ws : List Word) (len : length fe ≡ length env) (agree : AgreeOn fs vs ws) where
    by_slots : (x : Term) → InBody C k' x → ((i : ℕ) → bool_at fs i ≡ true → Uses (length fe + i) x → InBody C k' x → ⊥) → (i : ℕ) → Uses i x → slot (env ++ ws) i ≡ slot (env ++ vs) i
    by_slots x inb never i uses = sym (app_agree env vs ws i (λ j e. ⊎_elim
        (λ fed. absurd (never j fed (subst (λ n. Uses n x) (e ∙ ap (λ l. l + j) (sym len)) uses) inb))
        (λ not_fed. agree_at fs vs ws agree j not_fed)
        (cases_Bool (bool_at fs j))))

    lens : length (env ++ ws) ≡ length (env ++ vs)
    lens = omega (arith, length-append env ws, length-append env vs, (agree_length fs vs ws agree).1)

    slots_same : (x : Term) → InBody C k' x → ((i : ℕ) → bool_at fs i ≡ true → Uses (length fe + i) x → InBody C k' x → ⊥) →
        (answer r (env ++ ws) x ≡ answer r (env ++ vs) x) × ((m : ℕ) → m ≢ b0 → is_some (r m) ≡ false → wanted r (env ++ ws) x m ≡ wanted r (env ++ vs) x m)
    slots_same x inb never = (answer_env r (env ++ ws) (env ++ vs) x lens (by_slots x inb never), λ m apart out. wanted_env r (env ++ ws) (env ++ vs) x m lens (by_slots x inb never))

    body_same : (x : Term) → Stands b0 x → Once x → Sound r (env ++ vs) x → (Decides k (fe ++ fs) x → ⊥) → is_some (wanted r (env ++ vs) x b0) ≡ true
        → ((i : ℕ) → bool_at fs i ≡ true → Uses (length fe + i) x → InBody C k' x → ⊥) → (answer r (env ++ ws) x ≡ answer r (env ++ vs) x) ×
        ((m : ℕ) → m ≢ b0 → is_some (r m) ≡ false → wanted r (env ++ ws) x m ≡ wanted r (env ++ vs) x m)
    unfolding InBody Stands Once wanted answer Decides
    body_same (Const n) st once h no_if w never = slots_same (Const n) (via (Const n) st) never
    body_same (Var i) st once h no_if w never = slots_same (Var i) (via (Var i) st) never
    body_same (Op p ts) st once h no_if w never = slots_same (Op p ts) (via (Op p ts) st) never
    body_same (If d x y) st once h no_if w never = slots_same (If d x y) (via (If d x y) st) never
    body_same (Let bs x) st once h no_if w never = slots_same (Let bs x) (via (Let bs x) st) never
    body_same (Loop g ts) st once h no_if w never = slots_same (Loop g ts) (via (Loop g ts) st) never
    body_same (Call f i ts) (inr st) once h no_if w never = slots_same (Call f i ts) (via_in ts st) never
    body_same (Call f i ts) (inl is) once h no_if w never =
        let all = some_at (answers r (env ++ vs) ts) (subst (λ t. is_some (cond t (answers r (env ++ vs) ts) (wanted_in r (env ++ vs) ts b0)) ≡ true) (eq-eqb i b0 is) w) in
        let lfe : length (fe ++ fs) ≡ length (env ++ vs) = omega (arith, length-append fe fs, length-append env vs, len, (agree_length fs vs ws agree).0) in (
          refl,
          λ m apart out.
              let none = done_none_in (env ++ vs) ts once.0 (sound_args r (env ++ vs) f i ts once h) all.0 all.1 m out in
              let same = wants_in_too k r r (λ j e. refl) (λ j. refl) (fe ++ fs) (env ++ vs) (env ++ ws) ts (agree_append fe env env fs vs ws (agree_refl fe env len) agree) no_if m in
              let off = ne_eqb i m (λ e. apart (sym e ∙ is)) in
              ap (λ t. cond t (answers r (env ++ ws) ts) (wanted_in r (env ++ ws) ts m)) off
              ∙ none_same (wanted_in r (env ++ ws) ts m) (wanted_in r (env ++ vs) ts m) none same
              ∙ sym (ap (λ t. cond t (answers r (env ++ vs) ts) (wanted_in r (env ++ vs) ts m)) off),
        )

  each_length : (fe : List Bool) (env : List Word) (ts : Terms) (vs : List Word) → answers r env ts ≡ Some vs → length (feeds_each k fe ts) ≡ length vs
  unfolding answer feeds
  each_length fe env Nil vs e = ap length (same_Some [] vs e)
  each_length fe env (Cons t ts) vs e = by (each_length fe env ts) (answer r env t) (answers r env ts) refl e
    where
      by : ((us : List Word) → answers r env ts ≡ Some us → length (feeds_each k fe ts) ≡ length us) → (a : Answer) (o : Option (List Word)) → answers
          r env ts ≡ o → both a o ≡ Some vs → length (feeds k fe t ∷ feeds_each k fe ts) ≡ length vs
      by ih (Ready v) (Some us) is e = let l = ih us is in omega (arith, l, ap length (same_Some (v ∷ us) vs e))
      by ih (Ready v) None is e = absurd (some_none vs (sym e))
      by ih (LoopTo g ws) o is e = absurd (some_none vs (sym e))
      by ih NotYet o is e = absurd (some_none vs (sym e))

  -- what a change of k's word leaves
  abbrev pub Same : List Word → Term → Type 0
  Same env t = (answer c env t ≡ answer r env t) × ((m : ℕ) → m ≢ b0 → is_some (r m) ≡ false → wanted c env t m ≡ wanted r env t m)

  abbrev pub SameIn : List Word → Terms → Type 0
  SameIn env ts = (answers c env ts ≡ answers r env ts) × ((m : ℕ) → m ≢ b0 → is_some (r m) ≡ false → wanted_in c env ts m ≡ wanted_in r env ts m)

  mutual
    unfolding Stands Before Once wanted answer Decides Held

    pub effect : (fe : List Bool) (env : List Word) (t : Term) → length fe ≡ length env → Once t → Sound r env t → Before k b0 t →
        (Decides k fe t → ⊥) → (Held C k k' fe t → ⊥) → is_some (wanted r env t b0) ≡ true → Same env t
    effect fe env (Const n) len once h before no_if held w = absurd before
    effect fe env (Var i) len once h before no_if held w = absurd before
    effect fe env (Op p ts) len once h before no_if held w =
        let e = effect_in fe env ts len once h before no_if held w in (ap (apply_to p) e.0, e.1)
    effect fe env (Loop g ts) len once h before no_if held w =
        let e = effect_in fe env ts len once h before no_if held w in (ap (loop_to g) e.0, e.1)
    effect fe env (Call f i ts) len once h (inl in_args) no_if held w =
        let not_k : i ≡ k → ⊥ = λ is. once.1 (subst (λ n. StandsIn n ts) (sym is) in_args.0) in
        let all = some_at (answers r env ts) (subst (λ t. is_some (cond t (answers r env ts) (wanted_in r env ts b0)) ≡ true) (eq-eqb i b0 in_args.1) w) in (
          ap ready_from (sym (other i not_k)),
          λ m apart out.
              let none = done_none_in env ts once.0 (sound_args r env f i ts once h) all.0 all.1 m out in
              let same = wants_in_too k r c other there fe env env ts (agree_refl fe env len) no_if m in
              let off = ne_eqb i m (λ e. apart (sym e ∙ in_args.1)) in
              ap (λ t. cond t (answers c env ts) (wanted_in c env ts m)) off ∙ none_same (wanted_in c env ts m) (wanted_in r env ts m) none same ∙ sym
              (ap (λ t. cond t (answers r env ts) (wanted_in r env ts m)) off),
        )
    effect fe env (Call f i ts) len once h (inr before) no_if held w =
        let st = before_stands_in k b0 ts before in
        let not_k : i ≡ k → ⊥ = λ is. once.1 (subst (λ n. StandsIn n ts) (sym is) st.0) in
        let not_b : i ≡ b0 → ⊥ = λ is. once.1 (subst (λ n. StandsIn n ts) (sym is) st.1) in
        let w' : is_some (wanted_in r env ts b0) ≡ true = subst (λ t. is_some (cond t (answers r env ts) (wanted_in r env ts b0)) ≡ true) (ne_eqb i b0 not_b) w in
        let e = effect_in fe env ts len once.0 (sound_args r env f i ts once h) before no_if held w' in (
          ap ready_from (sym (other i not_k)),
          λ m apart out. ap (λ o. cond (i == m) o (wanted_in c env ts m)) e.0 ∙ ap (λ o. cond (i == m) (answers r env ts) o) (e.1 m apart out),
        )
    effect fe env (If d x y) len once h (inl split) no_if held w =
        let in_branch : is_some (select (answer r env d) None (wanted r env x b0) (wanted r env y b0)) ≡ true = ⊎_elim
        (λ z. absurd (once.3 b0 (wanted_stands r env d b0 z) split.1)) (λ z. z)
        (or_some (wanted r env d b0) (select (answer r env d) None (wanted r env x b0) (wanted r env y b0)) w) in
        let ready = select_ready (answer r env d) (wanted r env x b0) (wanted r env y b0) in_branch in
        let no_d : Decides k fe d → ⊥ = λ z. no_if (inr (inl z)) in
        let eqd : answer c env d ≡ answer r env d = alike_ready (feeds k fe d) (answer r env d) (answer c env d) ready.0
        (false_from_ne_true _ (λ z. no_if (inl z))) (alike k r c other there fe env env d (agree_refl fe env len) no_d) ready.1 in
        let nx : Stands k x → ⊥ = λ st. once.3 k split.0 (inl st) in
        let ny : Stands k y → ⊥ = λ st. once.3 k split.0 (inr st) in (
          ap (λ q. select q NotYet (answer c env x) (answer c env y)) eqd ∙ ap (λ a. select (answer r env d) NotYet a (answer c env y)) (qp env x nx)
              ∙ ap (λ a. select (answer r env d) NotYet (answer r env x) a) (qp env y ny),
          λ m apart out.
              let none = done_none env d once.0 (sound_c r env d x y once h) (Ready ready.0) ready.1 (ready_not_yet ready.0) m out in
              let same = wants_too k r c other there fe env env d (agree_refl fe env len) no_d m in
              ap (λ o. or_else o (select (answer c env d) None (wanted c env x m) (wanted c env y m))) (none_same (wanted c env d m) (wanted r env d m) none same)
              ∙ ap (λ q. or_else (wanted r env d m) (select q None (wanted c env x m) (wanted c env y m))) eqd
              ∙ ap (λ o. or_else (wanted r env d m) (select (answer r env d) None o (wanted c env y m))) (qw env x m nx)
              ∙ ap (λ o. or_else (wanted r env d m) (select (answer r env d) None (wanted r env x m) o)) (qw env y m ny),
        )
    effect fe env (If d x y) len once h (inr (inl before)) no_if held w =
        let st = before_stands k b0 d before in
        let in_d : is_some (wanted r env d b0) ≡ true = ⊎_elim (λ z. z)
        (λ z. absurd (once.3 b0 st.1 (⊎_elim (λ l. inl (wanted_stands r env x b0 l)) (λ l. inr (wanted_stands r env y b0 l))
        (select_of (answer r env d) (wanted r env x b0) (wanted r env y b0) z).1)))
        (or_some (wanted r env d b0) (select (answer r env d) None (wanted r env x b0) (wanted r env y b0)) w) in
        let e = effect fe env d len once.0 (sound_c r env d x y once h) before (λ z. no_if (inr (inl z))) (λ z. held (inl z)) in_d in
        let nx : Stands k x → ⊥ = λ s. once.3 k st.0 (inl s) in
        let ny : Stands k y → ⊥ = λ s. once.3 k st.0 (inr s) in (
          ap (λ q. select q NotYet (answer c env x) (answer c env y)) e.0 ∙ ap (λ a. select (answer r env d) NotYet a (answer c env y)) (qp env x nx)
              ∙ ap (λ a. select (answer r env d) NotYet (answer r env x) a) (qp env y ny),
          λ m apart out.
              ap (λ o. or_else o (select (answer c env d) None (wanted c env x m) (wanted c env y m))) (e.1 m apart out)
              ∙ ap (λ q. or_else (wanted r env d m) (select q None (wanted c env x m) (wanted c env y m))) e.0
              ∙ ap (λ o. or_else (wanted r env d m) (select (answer r env d) None o (wanted c env y m))) (qw env x m nx)
              ∙ ap (λ o. or_else (wanted r env d m) (select (answer r env d) None (wanted r env x m) o)) (qw env y m ny),
        )
    effect fe env (If d x y) len once h (inr (inr (inl before))) no_if held w =
        let st = before_stands k b0 x before in
        let nd : Stands k d → ⊥ = λ s. once.3 k s (inl st.0) in
        let ny : Stands k y → ⊥ = λ s. once.4 k st.0 s in
        let in_branch : is_some (select (answer r env d) None (wanted r env x b0) (wanted r env y b0)) ≡ true = ⊎_elim
        (λ z. absurd (once.3 b0 (wanted_stands r env d b0 z) (inl st.1))) (λ z. z)
        (or_some (wanted r env d b0) (select (answer r env d) None (wanted r env x b0) (wanted r env y b0)) w) in
        let taken = taken_x (answer r env d) (wanted r env x b0) (wanted r env y b0) in_branch (λ z. once.4 b0 st.1 (wanted_stands r env y b0 z)) in
        let e = effect fe env x len once.1 (sound_x r env d x y once h taken.0) before (λ z. no_if (inr (inr (inl z)))) (λ z. held (inr (inl z))) taken.1 in (
          ap (λ q. select q NotYet (answer c env x) (answer c env y)) (qp env d nd) ∙ ap (λ a. select (answer r env d) NotYet a (answer c env y)) e.0
              ∙ ap (λ a. select (answer r env d) NotYet (answer r env x) a) (qp env y ny),
          λ m apart out.
              ap (λ o. or_else o (select (answer c env d) None (wanted c env x m) (wanted c env y m))) (qw env d m nd)
              ∙ ap (λ q. or_else (wanted r env d m) (select q None (wanted c env x m) (wanted c env y m))) (qp env d nd)
              ∙ ap (λ o. or_else (wanted r env d m) (select (answer r env d) None o (wanted c env y m))) (e.1 m apart out)
              ∙ ap (λ o. or_else (wanted r env d m) (select (answer r env d) None (wanted r env x m) o)) (qw env y m ny),
        )
    effect fe env (If d x y) len once h (inr (inr (inr before))) no_if held w =
        let st = before_stands k b0 y before in
        let nd : Stands k d → ⊥ = λ s. once.3 k s (inr st.0) in
        let nx : Stands k x → ⊥ = λ s. once.4 k s st.0 in
        let in_branch : is_some (select (answer r env d) None (wanted r env x b0) (wanted r env y b0)) ≡ true = ⊎_elim
        (λ z. absurd (once.3 b0 (wanted_stands r env d b0 z) (inr st.1))) (λ z. z)
        (or_some (wanted r env d b0) (select (answer r env d) None (wanted r env x b0) (wanted r env y b0)) w) in
        let taken = taken_y (answer r env d) (wanted r env x b0) (wanted r env y b0) in_branch (λ z. once.4 b0 (wanted_stands r env x b0 z) st.1) in
        let e = effect fe env y len once.2 (sound_y r env d x y once h taken.0) before (λ z. no_if (inr (inr (inr z)))) (λ z. held (inr (inr z))) taken.1 in (
          ap (λ q. select q NotYet (answer c env x) (answer c env y)) (qp env d nd) ∙ ap (λ a. select (answer r env d) NotYet a (answer c env y))
              (qp env x nx) ∙ ap (λ a. select (answer r env d) NotYet (answer r env x) a) e.0,
          λ m apart out.
              ap (λ o. or_else o (select (answer c env d) None (wanted c env x m) (wanted c env y m))) (qw env d m nd)
              ∙ ap (λ q. or_else (wanted r env d m) (select q None (wanted c env x m) (wanted c env y m))) (qp env d nd)
              ∙ ap (λ o. or_else (wanted r env d m) (select (answer r env d) None o (wanted c env y m))) (qw env x m nx)
              ∙ ap (λ o. or_else (wanted r env d m) (select (answer r env d) None (wanted r env x m) o)) (e.1 m apart out),
        )
    effect fe env (Let bs x) len once h (inl split) no_if held w =
        let nx : Stands k x → ⊥ = λ s. once.2 k split.0 s in
        let in_body : is_some (with_all (answers r env bs) None (λ vs. wanted r (env ++ vs) x b0)) ≡ true = ⊎_elim
        (λ z. absurd (once.2 b0 (wanted_stands_in r env bs b0 z) split.1)) (λ z. z)
        (or_some (wanted_in r env bs b0) (with_all (answers r env bs) None (λ vs. wanted r (env ++ vs) x b0)) w) in
        let v = with_of (answers r env bs) (λ vs. wanted r (env ++ vs) x b0) in_body in
        let fs = feeds_each k fe bs in
        let al : AlikeAll fs (Some v.0) (answers c env bs) = subst (λ o. AlikeAll fs o (answers c env bs)) v.1
        (alike_all k r c other there fe env env bs (agree_refl fe env len) (λ z. no_if (inl z))) in
        let u = alike_some fs v.0 (answers c env bs) al in
        let same = body_same fe fs env v.0 u.0 len u.2 x split.1 once.1 (sound_body r env bs x once h v.0 v.1) (λ z. no_if (inr z)) v.2 (λ i fed uses inb. held (inl (i, fed, uses, inb))) in (
          ap (λ o. with_all o NotYet (λ vs. answer c (env ++ vs) x)) u.1 ∙ qp (env ++ u.0) x nx ∙ same.0 ∙ sym (ap (λ o. with_all o NotYet (λ vs. answer r (env ++ vs) x)) v.1),
          λ m apart out.
              let none = done_none_in env bs once.0 (sound_bs r env bs x once h) v.0 v.1 m out in
              let too = wants_in_too k r c other there fe env env bs (agree_refl fe env len) (λ z. no_if (inl z)) m in
              ap (λ o. or_else o (with_all (answers c env bs) None (λ vs. wanted c (env ++ vs) x m))) (none_same (wanted_in c env bs m) (wanted_in r env bs m) none too)
              ∙ ap (or_else (wanted_in r env bs m)) (ap (λ o. with_all o None (λ vs. wanted c (env ++ vs) x m)) u.1 ∙ qw (env ++ u.0) x m nx ∙ same.1
              m apart out ∙ sym (ap (λ o. with_all o None (λ vs. wanted r (env ++ vs) x m)) v.1)),
        )
    effect fe env (Let bs x) len once h (inr (inl before)) no_if held w =
        let st = before_stands_in k b0 bs before in
        let nx : Stands k x → ⊥ = λ s. once.2 k st.0 s in
        let in_bs : is_some (wanted_in r env bs b0) ≡ true = ⊎_elim (λ z. z)
        (λ z. let v = with_of (answers r env bs) (λ vs. wanted r (env ++ vs) x b0) z in absurd
        (once.2 b0 st.1 (wanted_stands r (env ++ v.0) x b0 v.2)))
        (or_some (wanted_in r env bs b0) (with_all (answers r env bs) None (λ vs. wanted r (env ++ vs) x b0)) w) in
        let e = effect_in fe env bs len once.0 (sound_bs r env bs x once h) before (λ z. no_if (inl z)) (λ z. held (inr (inl z))) in_bs in (
          ap (λ o. with_all o NotYet (λ vs. answer c (env ++ vs) x)) e.0 ∙ ap (with_all (answers r env bs) NotYet) (fun_ext (λ vs. qp (env ++ vs) x nx)),
          λ m apart out.
              ap (λ o. or_else o (with_all (answers c env bs) None (λ vs. wanted c (env ++ vs) x m))) (e.1 m apart out)
              ∙ ap (λ o. or_else (wanted_in r env bs m) (with_all o None (λ vs. wanted c (env ++ vs) x m))) e.0
              ∙ ap (λ g. or_else (wanted_in r env bs m) (with_all (answers r env bs) None g)) (fun_ext (λ vs. qw (env ++ vs) x m nx)),
        )
    effect fe env (Let bs x) len once h (inr (inr before)) no_if held w =
        let st = before_stands k b0 x before in
        let nb : StandsIn k bs → ⊥ = λ s. once.2 k s st.0 in
        let in_body : is_some (with_all (answers r env bs) None (λ vs. wanted r (env ++ vs) x b0)) ≡ true = ⊎_elim
        (λ z. absurd (once.2 b0 (wanted_stands_in r env bs b0 z) st.1)) (λ z. z)
        (or_some (wanted_in r env bs b0) (with_all (answers r env bs) None (λ vs. wanted r (env ++ vs) x b0)) w) in
        let v = with_of (answers r env bs) (λ vs. wanted r (env ++ vs) x b0) in_body in
        let fs = feeds_each k fe bs in
        let lfs : length fs ≡ length v.0 = each_length fe env bs v.0 v.1 in
        let e = effect (fe ++ fs) (env ++ v.0) x (omega (arith, length-append fe fs, length-append env v.0, len, lfs)) once.1
        (sound_body r env bs x once h v.0 v.1) before (λ z. no_if (inr z)) (λ z. held (inr (inr z))) v.2 in (
          ap (λ o. with_all o NotYet (λ vs. answer c (env ++ vs) x)) (qp_in env bs nb ∙ v.1) ∙ e.0 ∙ sym (ap (λ o. with_all o NotYet (λ vs. answer r (env ++ vs) x)) v.1),
          λ m apart out.
              ap (λ o. or_else o (with_all (answers c env bs) None (λ vs. wanted c (env ++ vs) x m))) (qw_in env bs m nb)
              ∙ ap (or_else (wanted_in r env bs m)) (ap (λ o. with_all o None (λ vs. wanted c (env ++ vs) x m)) (qp_in env bs nb ∙ v.1) ∙ e.1 m apart
              out ∙ sym (ap (λ o. with_all o None (λ vs. wanted r (env ++ vs) x m)) v.1)),
        )

    pub effect_in : (fe : List Bool) (env : List Word) (ts : Terms) → length fe ≡ length env → OnceIn ts → SoundIn r env ts → BeforeIn k b0 ts →
        (DecidesIn k fe ts → ⊥) → (HeldIn C k k' fe ts → ⊥) → is_some (wanted_in r env ts b0) ≡ true → SameIn env ts
    effect_in fe env Nil len once h before no_if held w = absurd before
    effect_in fe env (Cons t ts) len once h (inl before) no_if held w =
        let st = before_stands k b0 t before in
        let nts : StandsIn k ts → ⊥ = λ s. once.2 k st.0 s in
        let in_t : is_some (wanted r env t b0) ≡ true = ⊎_elim (λ z. z) (λ z. absurd (once.2 b0 st.1 (wanted_stands_in r env ts b0 z))) (or_some (wanted r env t b0) (wanted_in r env ts b0) w) in
        let e = effect fe env t len once.0 (sound_head r env t ts once h) before (λ z. no_if (inl z)) (λ z. held (inl z)) in_t in (
          ap (λ a. both a (answers c env ts)) e.0 ∙ ap (both (answer r env t)) (qp_in env ts nts),
          λ m apart out. ap (λ o. or_else o (wanted_in c env ts m)) (e.1 m apart out) ∙ ap (or_else (wanted r env t m)) (qw_in env ts m nts),
        )
    effect_in fe env (Cons t ts) len once h (inr before) no_if held w =
        let st = before_stands_in k b0 ts before in
        let nt : Stands k t → ⊥ = λ s. once.2 k s st.0 in
        let in_ts : is_some (wanted_in r env ts b0) ≡ true = ⊎_elim (λ z. absurd (once.2 b0 (wanted_stands r env t b0 z) st.1)) (λ z. z) (or_some (wanted r env t b0) (wanted_in r env ts b0) w) in
        let e = effect_in fe env ts len once.1 (sound_rest r env t ts once h) before (λ z. no_if (inr z)) (λ z. held (inr z)) in_ts in (
          ap (λ a. both a (answers c env ts)) (qp env t nt) ∙ ap (both (answer r env t)) e.0,
          λ m apart out. ap (λ o. or_else o (wanted_in c env ts m)) (qw env t m nt) ∙ ap (or_else (wanted r env t m)) (e.1 m apart out),
        )
