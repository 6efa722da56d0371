-- A site whose word is not kept shows its unit's last word, or its use is past.
use Rattle.safl_calls.proofs.Common.{Program, Term, Word, arity, no_word, unit_for}
use Rattle.std.proofs.Common.{◌≡◌, ◌≢◌, ℕ, zero, suc, ◌<◌, ◌≤◌, List, [], ◌∷◌, length, replicate, Option, Some, Bool, true, false, cond, nat_lt}
use Rattle.std.proofs.Common.{is_some, refl, sym, ap, ◌∙◌, subst, inl, inr, ⊎_elim, ◌⊎◌, arith}
use Rattle.std.proofs.lemmas.List.{length-replicate}
use Rattle.std.proofs.lemmas.Bool.{cases_eq, eq-eqb, ne_eqb, lt-ltb, le-ltb, true≢false, cases_lt}
use Rattle.safl_calls.proofs.Basics.{put_at, put_off}
use Rattle.safl_calls.proofs.Bodies.{wanted_stands}
use Rattle.safl_calls.proofs.Invariant.{Inv, inv_after, inv_fire, inv_open}
use Rattle.safl_calls.proofs.Locality.{answer_local, wanted_local}
use Rattle.safl_calls.proofs.Numbered.{Numbered}
use Rattle.safl_calls.specs.Machine.{State, Mode, Idle, Runs, Delivers, Event, Accept, Finish, Return, LoopInto, opening, Enabled, Legal, after_event, fire}
use Rattle.safl_calls.specs.Machine.{accept, finish, give_back, loop_into, ended, put, back, says, says_as, finished, finished_as, last_word}
use Rattle.safl_calls.proofs.Basics.{serves}
use Rattle.safl_calls.proofs.Effects.{Before, agree_refl, effect}
use Rattle.safl_calls.proofs.Interference.{Sound, sent_live, wanted_here, sound_at}
use Rattle.safl_calls.proofs.Positions.{Under, under_reaches, found_after}
use Rattle.safl_calls.proofs.Spared.{wants_too}
use Rattle.safl_sites.specs.Conflicts.{Reaches}
use Rattle.safl_sites.specs.Kept.{Decides, Held, Kept}
use Rattle.safl_calls.specs.Interference.{shown_words, shown_as, ShownWordsServe}
use Rattle.safl_term.specs.Readiness.{Ready, LoopTo, answer, wanted, Stage, Unsent, Sent, Returned, back_word}
use Rattle.safl_term.specs.Standing.{Stands}
use Rattle.safl_term.proofs.Apart.{not_loop, returned_unsent, sent_returned, sent_unsent, unsent_returned}
use Rattle.safl_calls.proofs.Apart.{idle_delivers, runs_delivers}

-- a site of k's caller that came after k, by which k's unit has finished again
pub record Spent (C : Program) (s : State) (k : ℕ) : Type 0 where
  pub site : ℕ
  pub pos : 0 < site
  pub own : C.caller site ≡ C.caller k
  pub used : s.site site ≢ Unsent
  pub because : ℕ
  pub other : k ≢ because
  pub same : unit_for C k ≡ unit_for C because
  pub under : Under C because site
  pub before : Before k site (C.body (C.caller k))

pub record Hist (C : Program) (kept : ℕ → Bool) (s : State) (l : ℕ → Word) : Type 0 where
  pub delivers : (u k : ℕ) (v : Word) → s.unit u ≡ Delivers k v → l u ≡ v
  pub words : (k : ℕ) (v : Word) → 0 < k → kept k ≡ false → s.site k ≡ Returned v → (l (unit_for C k) ≡ v) ⊎ Spent C s k

abbrev word_in : Mode → Word
word_in Idle = no_word
word_in (Runs f k ws) = no_word
word_in (Delivers k v) = v

abbrev stage_word : Stage → Word
stage_word Unsent = no_word
stage_word Sent = no_word
stage_word (Returned v) = v

spent_move : (C : Program) (s s' : State) (k : ℕ) → ((b : ℕ) → 0 < b → C.caller b ≡ C.caller k → s.site b ≢ Unsent → s'.site b ≢ Unsent) → Spent C s k → Spent C s' k
spent_move C s s' k keeps p = record {
  site = p.site;
  pos = p.pos;
  own = p.own;
  used = keeps p.site p.pos p.own p.used;
  because = p.because;
  other =
      p.other;
  same = p.same;
  under = p.under;
  before = p.before;
}

module _ (C : Program) (kept : ℕ → Bool) (args : List Word) (good : Numbered C) (keeps : (k : ℕ) → 0 < k → k ≤ C.sites → Kept C k → kept k ≡ true) where
  hist_accept : (s : State) (l : ℕ → Word) (j : ℕ) (ws : List Word) → Hist C kept s l → Hist C kept (accept C s j (Some ws)) l
  hist_accept s l j ws h = record {
    delivers = λ u k v e. ⊎_elim
        (λ same. absurd (runs_delivers _ _ k v _ (sym (put_at s.unit (unit_for C j) u (Runs (C.callee j) j ws) same) ∙ e)))
        (λ off. h.delivers u k v (sym (put_off s.unit (unit_for C j) u (Runs (C.callee j) j ws) off) ∙ e))
        (cases_eq (unit_for C j) u);
    words = λ k v pos not_kept e. ⊎_elim
        (λ same. absurd (sent_returned v (sym (put_at s.site j k Sent same) ∙ e)))
        (λ off. ⊎_elim (λ z. inl z) (λ z. inr (spent_move C s (accept C s j (Some ws)) k (λ b pb own used. still b used) z)) (h.words k v pos not_kept (sym (put_off s.site j k Sent off) ∙ e)))
        (cases_eq j k);
  }
    where
      still : (b : ℕ) → s.site b ≢ Unsent → put s.site j Sent b ≢ Unsent
      still b used un = ⊎_elim (λ same. sent_unsent (sym (put_at s.site j b Sent same) ∙ un)) (λ off. used (sym (put_off s.site j b Sent off) ∙ un)) (cases_eq j b)

  hist_return : (s : State) (l : ℕ → Word) (j : ℕ) (v : Word) → Hist C kept s l → s.unit (unit_for C j) ≡ Delivers j v → Hist C kept (give_back C s j (Delivers j v)) l
  hist_return s l j v h d = record {
    delivers = λ u k w e. ⊎_elim
        (λ same. absurd (idle_delivers k w (sym (put_at s.unit (unit_for C j) u Idle same) ∙ e)))
        (λ off. h.delivers u k w (sym (put_off s.unit (unit_for C j) u Idle off) ∙ e))
        (cases_eq (unit_for C j) u);
    words = λ k w pos not_kept e. ⊎_elim
        (λ same. inl (ap l (ap (unit_for C) (sym same)) ∙ h.delivers (unit_for C j) j v d ∙ ap stage_word (sym (put_at s.site j k (Returned v) same) ∙ e)))
        (λ off. ⊎_elim (λ z. inl z) (λ z. inr (spent_move C s (give_back C s j (Delivers j v)) k (λ b pb own used. still b used) z))
        (h.words k w pos not_kept (sym (put_off s.site j k (Returned v) off) ∙ e)))
        (cases_eq j k);
  }
    where
      still : (b : ℕ) → s.site b ≢ Unsent → put s.site j (Returned v) b ≢ Unsent
      still b used un = ⊎_elim (λ same. returned_unsent v (sym (put_at s.site j b (Returned v) same) ∙ un)) (λ off. used (sym (put_off s.site j b (Returned v) off) ∙ un)) (cases_eq j b)

  -- own sites of a unit that ends
  module _ (s : State) (w : ℕ) (s' : State) (sites : (k : ℕ) → s'.site k ≡ ended C w s.site k) where
    off_unit : (k : ℕ) (v : Word) → 0 < k → s'.site k ≡ Returned v → (C.unit (C.caller k) ≡ w → ⊥) × (s.site k ≡ Returned v)
    off_unit zero v pos e = absurd (omega (arith, pos))
    off_unit (suc k) v pos e = ⊎_elim
        (λ same. absurd (unsent_returned v (sym (ap (λ b. cond b Unsent (s.site (suc k))) (eq-eqb (C.unit (C.caller (suc k))) w same)) ∙ sym (sites (suc k)) ∙ e)))
        (λ off. (off, sym (ap (λ b. cond b Unsent (s.site (suc k))) (ne_eqb (C.unit (C.caller (suc k))) w off)) ∙ sym (sites (suc k)) ∙ e))
        (cases_eq (C.unit (C.caller (suc k))) w)

    still_used : (k b : ℕ) → (C.unit (C.caller k) ≡ w → ⊥) → 0 < b → C.caller b ≡ C.caller k → s.site b ≢ Unsent → s'.site b ≢ Unsent
    still_used k zero off pos own used un = absurd (omega (arith, pos))
    still_used k (suc b) off pos own used un =
        used (sym (ap (λ t. cond t Unsent (s.site (suc b))) (ne_eqb (C.unit (C.caller (suc b))) w (λ e. off (ap C.unit (sym own) ∙ e)))) ∙ sym (sites (suc b)) ∙ un)

  hist_finish : (s : State) (l : ℕ → Word) (f p : ℕ) (ws : List Word) (v : Word) → Inv C s → Hist C kept s l → s.unit (C.unit f) ≡ Runs f p ws → says
      C s (C.unit f) ≡ Ready v → Hist C kept (finish C s (C.unit f) (Runs f p ws) (Ready v)) (λ u. finished C s (Finish f) u (l u))
  hist_finish s l f p ws v inv h e says' = record {
    delivers = λ u k x d. ⊎_elim
        (λ same. ap (λ b. cond b (finished_as (says C s u) (l u)) (l u)) (eq-eqb w u same) ∙ ap (λ a. finished_as a (l u))
        (ap (says C s) (sym same) ∙ says') ∙ ap word_in (sym (put_at s.unit w u (Delivers p v) same) ∙ d))
        (λ off. ap (λ b. cond b (finished_as (says C s u) (l u)) (l u)) (ne_eqb w u off) ∙ h.delivers u k x (sym (put_off s.unit w u (Delivers p v) off) ∙ d))
        (cases_eq w u);
    words = λ k x pos not_kept back_k.
        let o = off_unit s w s' (λ j. refl) k x pos back_k in
        ⊎_elim
        (λ at_w. inr (again k x pos not_kept o.0 o.1 (sym at_w)))
        (λ off. ⊎_elim (λ z. inl (ap (λ b. cond b (finished_as (says C s (unit_for C k)) (l (unit_for C k))) (l (unit_for C k))) (ne_eqb w (unit_for C k) off) ∙ z))
        (λ z. inr (spent_move C s s' k (λ b pb own used. still_used s w s' (λ j. refl) k b o.0 pb own used) z)) (h.words k x pos not_kept o.1))
        (cases_eq w (unit_for C k));
  }
    where
      w : ℕ
      w = C.unit f

      s' : State
      s' = finish C s (C.unit f) (Runs f p ws) (Ready v)

      sv : (s.site p ≡ Sent) × (unit_for C p ≡ w) × (p ≤ C.sites)
      sv = inv.serving w p (ap serves e)

      again : (k : ℕ) (x : Word) → 0 < k → kept k ≡ false → (C.unit (C.caller k) ≡ w → ⊥) → s.site k ≡ Returned x → unit_for C k ≡ w → Spent C s' k
      again k x pos not_kept off back_k at_w = by p sv
        where
          not_unsent : s.site k ≡ Unsent → ⊥
          not_unsent un = returned_unsent x (sym back_k ∙ un)

          by : (p : ℕ) → (s.site p ≡ Sent) × (unit_for C p ≡ w) × (p ≤ C.sites) → Spent C s' k
          by zero sv = absurd (good.main_last k pos (inv.known k not_unsent) (at_w ∙ sym sv.1 ∙ ap C.unit good.outside))
          by (suc p) sv =
              let other : k ≢ suc p = λ is. sent_returned x (sym sv.0 ∙ ap s.site (sym is) ∙ back_k) in
              let same : unit_for C k ≡ unit_for C (suc p) = at_w ∙ sym sv.1 in
              ⊎_elim
              (λ c. absurd (true≢false (sym (keeps k pos (inv.known k not_unsent) (record { because = suc p; other = other; same = same; why = inl c })) ∙ not_kept)))
              (λ a. record {
                site = a.site;
                pos = a.pos;
                own = a.own;
                used = still_used s w s' (λ j. refl) k a.site off a.pos a.own (λ un. sent_unsent (sym a.sent ∙ un));
                because = suc p;
                other = other;
                same = same;
                under = a.under;
                before = a.before;
              })
              (found_after C good s inv k (suc p) x pos (inv.known k not_unsent) (inv.asks k pos not_unsent) back_k same other (sent_live C good s inv p sv.0) sv.0)

  hist_go_on : (s : State) (l : ℕ → Word) (h p f : ℕ) (ws vs : List Word) → Hist C kept s l → s.unit (C.unit h) ≡ Runs f p ws → Hist C kept (loop_into C s (C.unit h) (Runs f p ws) (LoopTo h vs)) l
  hist_go_on s l h p f ws vs hist e = record {
    delivers = λ u k x d. ⊎_elim
        (λ same. absurd (runs_delivers _ _ k x _ (sym (put_at s.unit (C.unit h) u (Runs h p vs) same) ∙ d)))
        (λ off. hist.delivers u k x (sym (put_off s.unit (C.unit h) u (Runs h p vs) off) ∙ d))
        (cases_eq (C.unit h) u);
    words = λ k x pos not_kept back_k.
        let o = off_unit s (C.unit h) s' (λ j. refl) k x pos back_k in
        ⊎_elim (λ z. inl z) (λ z. inr (spent_move C s s' k (λ b pb own used. still_used s (C.unit h) s' (λ j. refl) k b o.0 pb own used) z)) (hist.words k x pos not_kept o.1);
  }
    where
      s' : State
      s' = loop_into C s (C.unit h) (Runs f p ws) (LoopTo h vs)

  hist_fire : (s : State) (l : ℕ → Word) (e : Event) → Inv C s → Hist C kept s l → Enabled C args s e → Hist C kept (fire C args s e) (λ u. finished C s e u (l u))
  hist_fire s l (Accept k) inv h on = subst (λ o. Hist C kept (accept C s k o) l) (sym on.1) (hist_accept s l k on.0 h)
  hist_fire s l (Return k) inv h on = subst (λ m. Hist C kept (give_back C s k m) l) (sym on.1) (hist_return s l k on.0 h on.1)
  hist_fire s l (Finish f) inv h on =
      let is : finish C s (C.unit f) (s.unit (C.unit f)) (says C s (C.unit f)) ≡ finish C s (C.unit f) (Runs f on.0 on.1) (Ready on.2) = ap
      (λ m. finish C s (C.unit f) m (says C s (C.unit f))) on.3 ∙ ap (finish C s (C.unit f) (Runs f on.0 on.1)) on.4 in
      subst (λ q. Hist C kept q (λ u. finished C s (Finish f) u (l u))) (sym is) (hist_finish s l f on.0 on.1 on.2 inv h on.3 on.4)
  hist_fire s l (LoopInto g) inv h on = by (s.unit (C.unit g)) refl
    where
      by : (m : Mode) → s.unit (C.unit g) ≡ m → Hist C kept (loop_into C s (C.unit g) (s.unit (C.unit g)) (says C s (C.unit g))) l
      by Idle e = absurd (not_loop g on.0 (sym (ap (says_as C (back s)) e) ∙ on.1))
      by (Delivers k v) e = absurd (not_loop g on.0 (sym (ap (says_as C (back s)) e) ∙ on.1))
      by (Runs f k ws) e =
          let is : loop_into C s (C.unit g) (s.unit (C.unit g)) (says C s (C.unit g)) ≡ loop_into C s (C.unit g) (Runs f k ws) (LoopTo g on.0) = ap
          (λ m. loop_into C s (C.unit g) m (says C s (C.unit g))) e ∙ ap (loop_into C s (C.unit g) (Runs f k ws)) on.1 in
          subst (λ q. Hist C kept q l) (sym is) (hist_go_on s l g k f ws on.0 h e)

  hist_all : (s : State) (l : ℕ → Word) (es : List Event) → Inv C s → Hist C kept s l → Legal C args s es → Hist C kept (after_event C args s es) (λ u. last_word C args s es u (l u))
  unfolding Legal after_event last_word
  hist_all s l [] inv h legal = h
  hist_all s l (e ∷ es) inv h legal = hist_all (fire C args s e) (λ u. finished C s e u (l u)) es (inv_fire C args good s e inv legal.0) (hist_fire s l e inv h legal.0) legal.1

  hist_open : (l : ℕ → Word) → Hist C kept opening l
  hist_open l = record { delivers = λ u k v e. absurd (idle_delivers k v e); words = λ k v pos not_kept e. absurd (unsent_returned v e) }

  module _ (d : ℕ → Word) (es : List Event) (legal : Legal C args opening es) where
    abbrev s : State
    s = after_event C args opening es

    inv : Inv C (after_event C args opening es)
    inv = inv_after C args good es legal

    hist : Hist C kept (after_event C args opening es) (λ u. last_word C args opening es u (d u))
    hist = hist_all opening d es (inv_open C args good) (hist_open d) legal

    abbrev r : ℕ → Option Word
    r = back s

    abbrev r' : ℕ → Option Word
    r' = shown_words C kept d args es

    -- the shown words below i, and the returned ones from i on
    abbrev hyb : ℕ → ℕ → Option Word
    hyb i j = cond (nat_lt j i) (r' j) (r j)

    shown_there : (j : ℕ) → is_some (r' j) ≡ is_some (r j)
    shown_there zero = refl
    shown_there (suc j) = by (s.site (suc j))
      where
        by : (x : Stage) → is_some (shown_as (kept (suc j)) (last_word C args opening es (unit_for C (suc j)) (d (unit_for C (suc j)))) x) ≡ is_some (back_word x)
        by Unsent = refl
        by Sent = refl
        by (Returned v) = refl

    hyb_there : (i j : ℕ) → is_some (hyb i j) ≡ is_some (r j)
    hyb_there i j = by (nat_lt j i)
      where
        by : (b : Bool) → is_some (cond b (r' j) (r j)) ≡ is_some (r j)
        by true = shown_there j
        by false = refl

    hyb_off : (i j : ℕ) → (j ≡ i → ⊥) → hyb i j ≡ hyb (suc i) j
    hyb_off i j apart = ap (λ b. cond b (r' j) (r j)) (⊎_elim (λ lt. lt-ltb j i lt ∙ sym (lt-ltb j (suc i) (omega (arith, lt))))
        (λ ge. le-ltb j i ge ∙ sym (le-ltb j (suc i) (omega (arith, ge, apart)))) (cases_lt j i))

    module _ (u f q : ℕ) (ws : List Word) (runs : s.unit u ≡ Runs f q ws) where
      m : (C.unit f ≡ u) × (f < C.functions) × (length ws ≡ arity C f)
      m = inv.member u f q ws runs

      runs' : s.unit (C.unit f) ≡ Runs f q ws
      runs' = ap s.unit m.0 ∙ runs

      abbrev body : Term
      body = C.body f

      pub record Step (i : ℕ) : Type 0 where
        pub answer : answer (hyb i) ws body ≡ answer r ws body
        pub asks : (n : ℕ) → s.site n ≡ Unsent → wanted (hyb i) ws body n ≡ wanted r ws body n
        pub there : (n : ℕ) → is_some (wanted (hyb i) ws body n) ≡ is_some (wanted r ws body n)

      -- a site whose change changes no reader of the body
      plain : (i : ℕ) → ((j : ℕ) → Stands j body → hyb (suc i) j ≡ hyb i j) → Step i → Step (suc i)
      plain i same st = record {
        answer = answer_local (hyb (suc i)) (hyb i) ws body same ∙ st.answer;
        asks = λ n un. wanted_local (hyb (suc i)) (hyb i) ws body n same ∙ st.asks n un;
        there = λ n. ap is_some (wanted_local (hyb (suc i)) (hyb i) ws body n same) ∙ st.there n;
      }

      same_word : (i : ℕ) → r' i ≡ r i → (j : ℕ) → Stands j body → hyb (suc i) j ≡ hyb i j
      same_word i e j st = ⊎_elim
          (λ is. ap (λ b. cond b (r' j) (r j)) (lt-ltb j (suc i) (omega (arith, is))) ∙ subst (λ k. r' k ≡ r k) (sym is) e ∙ sym (ap (λ b. cond b (r' j) (r j)) (le-ltb j i (omega (arith, is)))))
          (λ apart. sym (hyb_off i j apart))
          (cases_eq j i)

      not_own : (i : ℕ) → (C.caller i ≡ f → ⊥) → (j : ℕ) → Stands j body → hyb (suc i) j ≡ hyb i j
      not_own i other j st = sym (hyb_off i j (λ is. other (ap C.caller (sym is) ∙ (good.own f j m.1 st).2)))

      spent_step : (i : ℕ) (v : Word) → 0 < i → kept i ≡ false → s.site i ≡ Returned v → C.caller i ≡ f → Spent C s i → Step i → Step (suc i)
      spent_step i v pos not_kept back_i own sp st =
          let b0 = sp.site in
          let k' = sp.because in
          let fe = replicate (arity C (C.caller i)) false in
          let len : length fe ≡ length ws = length-replicate (arity C (C.caller i)) false ∙ ap (arity C) own ∙ sym m.2 in
          let here = wanted_here C good s inv f q ws b0 runs' (ap C.unit (sp.own ∙ own)) (inv.asks b0 sp.pos sp.used) in
          let before : Before i b0 body = subst (λ g. Before i b0 (C.body g)) own sp.before in
          let reaches : Reaches C k' body = under_reaches C k' b0 sp.under body (wanted_stands r ws body b0 here.1) in
          let within : i ≤ C.sites = inv.known i (λ un. returned_unsent v (sym back_i ∙ un)) in
          let no_if : Decides i fe body → ⊥ = λ z. true≢false (sym
          (keeps i pos within (record {
            because = k';
            other = sp.other;
            same = sp.same;
            why = inr
                (inl (subst (λ g. Decides i fe (C.body g) × Reaches C k' (C.body g)) (sym own) (z, reaches)));
          })) ∙ not_kept) in
          let held : Held C i k' fe body → ⊥ = λ z. true≢false (sym
          (keeps i pos within (record {
            because = k';
            other = sp.other;
            same = sp.same;
            why = inr
                (inr (subst (λ g. Held C i k' fe (C.body g)) (sym own) z));
          })) ∙ not_kept) in
          let other = hyb_off i in
          let there = λ (j : ℕ). hyb_there i j ∙ sym (hyb_there (suc i) j) in
          let sound : Sound (hyb i) ws body = λ j stj got. st.there j ∙ sound_at C good s inv f q ws m.1 runs' j stj (sym (hyb_there i j) ∙ got) in
          let e = effect C i b0 k' (hyb i) (hyb (suc i)) other there (λ t stb. under_reaches C k' b0 sp.under t stb) fe ws body len (good.once f m.1) sound before no_if held (st.there b0 ∙ here.1) in
          record {
            answer = e.0 ∙ st.answer;
            asks = λ n un. e.1 n (λ is. sp.used (ap s.site (sym is) ∙ un)) (hyb_there i n ∙ out n un) ∙ st.asks n un;
            there = λ n. sym (wants_too i (hyb i) (hyb (suc i)) other there fe ws ws body (agree_refl fe ws len) no_if n) ∙ st.there n;
          }
        where
          out : (n : ℕ) → s.site n ≡ Unsent → is_some (r n) ≡ false
          out zero un = refl
          out (suc n) un = ap (λ x. is_some (back_word x)) un

      step : (i : ℕ) → Step i → Step (suc i)
      step zero st = plain zero (same_word zero refl) st
      step (suc i) st = by (s.site (suc i)) refl
        where
          w : ℕ
          w = unit_for C (suc i)

          last : Word
          last = last_word C args opening es w (d w)

          word_is : (x : Stage) → s.site (suc i) ≡ x → shown_as (kept (suc i)) last x ≡ back_word x → r' (suc i) ≡ r (suc i)
          word_is x e h = ap (shown_as (kept (suc i)) last) e ∙ h ∙ sym (ap back_word e)

          by_kept : (v : Word) → s.site (suc i) ≡ Returned v → (b : Bool) → kept (suc i) ≡ b → Step (suc (suc i))
          by_kept v e true is = plain (suc i) (same_word (suc i) (word_is (Returned v) e (ap (λ b. Some (cond b v last)) is))) st
          by_kept v e false is = ⊎_elim
              (λ fresh. plain (suc i) (same_word (suc i) (word_is (Returned v) e (ap (λ b. Some (cond b v last)) is ∙ ap Some fresh))) st)
              (λ sp. ⊎_elim (λ own. spent_step (suc i) v (omega arith) is e own sp st) (λ other. plain (suc i) (not_own (suc i) other) st) (cases_eq (C.caller (suc i)) f))
              (hist.words (suc i) v (omega arith) is e)

          by : (x : Stage) → s.site (suc i) ≡ x → Step (suc (suc i))
          by Unsent e = plain (suc i) (same_word (suc i) (word_is Unsent e refl)) st
          by Sent e = plain (suc i) (same_word (suc i) (word_is Sent e refl)) st
          by (Returned v) e = by_kept v e (kept (suc i)) refl

      start : Step 0
      start = record { answer = answer_local (hyb 0) r ws body none; asks = λ n un. wanted_local (hyb 0) r ws body n none; there = λ n. ap is_some (wanted_local (hyb 0) r ws body n none) }
        where
          none : (j : ℕ) → Stands j body → hyb 0 j ≡ r j
          none j st = ap (λ b. cond b (r' j) (r j)) (le-ltb j 0 (omega arith))

      upto : (i : ℕ) → Step i
      upto zero = start
      upto (suc i) = step i (upto i)

      all_of : (j : ℕ) → Stands j body → r' j ≡ hyb (suc C.sites) j
      all_of j st = sym (ap (λ b. cond b (r' j) (r j)) (lt-ltb j (suc C.sites) (omega (arith, (good.own f j m.1 st).1))))

      pub answer_same : answer r' ws body ≡ answer r ws body
      answer_same = answer_local r' (hyb (suc C.sites)) ws body all_of ∙ (upto (suc C.sites)).answer

      pub asks_same : (n : ℕ) → s.site n ≡ Unsent → wanted r' ws body n ≡ wanted r ws body n
      asks_same n un = wanted_local r' (hyb (suc C.sites)) ws body n all_of ∙ (upto (suc C.sites)).asks n un

pub kept_serves : (C : Program) (kept : ℕ → Bool) → Numbered C → ((k : ℕ) → 0 < k → k ≤ C.sites → Kept C k → kept k ≡ true) → ShownWordsServe C kept
kept_serves C kept good keeps = record {
  same_answer = λ d args es legal u f k ws runs. answer_same C kept args good keeps d es legal u f k ws runs;
  same_wants = λ d args es legal u f j ws runs n un. asks_same C kept args good keeps d es legal u f j ws runs n un;
}
