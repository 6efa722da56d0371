-- What is kept of the bodies that run, unit by unit.
use Rattle.safl_core.proofs.Common.{Inv, IsPlan, Kept, Numbered, Program, Word, back_at, body_at, cases_eq, cases_lt, eq-eqb, ne_eqb, nodes}
use Rattle.safl_core.proofs.Common.{put_at, put_off, serves, unit_at, unit_for}
use Rattle.std.proofs.Common.{◌≡◌, ◌≢◌, ℕ, zero, suc, ◌+◌, ◌<◌, ◌≤◌, ◌⊎◌, List, [], length, take, Option, Some, None, cond, get_or, inl, inr, refl, sym, ap, ◌∙◌, subst, ⊎_elim, arith}
use Rattle.safl_term.specs.Terms.{Term, Const, Var, Op, If, Let, Call, Loop, Terms, Nil, Cons}
use Rattle.safl_term.specs.Standing.{Stands, StandsIn}
use Rattle.safl_term.specs.Readiness.{NotYet, Sent, Returned, back_word, wanted}
use Rattle.safl_calls.specs.Machine.{Mode, Idle, Runs, Delivers, asked_as, says_as, back, give_back}
use Rattle.safl_calls.specs.Machine as core
use Rattle.safl_calls.proofs.Apart.{idle_runs}
use Rattle.safl_core.specs.declared.mode.Mode as modes_declared
use Rattle.safl_evaluate.specs.declared.places.Place.{Place}
use Rattle.safl_evaluate.specs.declared.places.Plan.{Plan}
use Rattle.safl_evaluate.specs.declared.stage.Stage.{Stage}
use Rattle.safl_evaluate.specs.Evaluating.{CanRun}
use Rattle.safl_evaluate.specs.Keeping.{cell, Holds, Stood, Only, MayLook, Finds, without}
use Rattle.safl_core.specs.declared.state.State.{State}
use Rattle.safl_core.specs.Remembering.{Remembers, MayRenew}
use Rattle.safl_core.specs.States.{Steps, Recalls, CanRenew, calls_of}
use Rattle.safl_evaluate.proofs.HeldByParts.{holds_frame, holds_local, asked_held}
use Rattle.safl_evaluate.proofs.RunsByParts.{not_wanted}
use Rattle.safl_core.proofs.SeenByUnits.{Local, local_return}

abbrev Asks : Type 0
Asks = List (Option (List Word))

either : {X Y : Type 0} → X ⊎ (X → ⊥) → Y ⊎ (Y → ⊥) → (X ⊎ Y) ⊎ (X ⊎ Y → ⊥)
either (inl x) q = inl (inl x)
either (inr p) (inl y) = inl (inr y)
either (inr p) (inr q) = inr (λ z. ⊎_elim p q z)

mutual
  unfolding Stands

  -- a site stands in a term or does not
  pub stands_or_not : (k : ℕ) (t : Term) → Stands k t ⊎ (Stands k t → ⊥)
  stands_or_not k (Const w) = inr (λ z. z)
  stands_or_not k (Var i) = inr (λ z. z)
  stands_or_not k (Op o ts) = stands_in_or_not k ts
  stands_or_not k (If d x y) = either (stands_or_not k d) (either (stands_or_not k x) (stands_or_not k y))
  stands_or_not k (Let ts x) = either (stands_in_or_not k ts) (stands_or_not k x)
  stands_or_not k (Call f j ts) = either (cases_eq j k) (stands_in_or_not k ts)
  stands_or_not k (Loop m ts) = stands_in_or_not k ts

  pub stands_in_or_not : (k : ℕ) (ts : Terms) → StandsIn k ts ⊎ (StandsIn k ts → ⊥)
  stands_in_or_not k Nil = inr (λ z. z)
  stands_in_or_not k (Cons t ts) = either (stands_or_not k t) (stands_in_or_not k ts)

module _ {C : Program} {plan : Plan} {n : ℕ} (good : Numbered C) (lies : IsPlan C plan n) where
  -- a unit whose mode, whose sites and whose cells are the same
  pub remembers_still : (given given' : ℕ → Option Word) (modes modes' : List modes_declared.Mode) (noted noted' : Asks) (table table' : List Kept) (v : ℕ) → unit_at modes' v ≡ unit_at modes v
      → ((j : ℕ) → 0 < j → j ≤ C.sites → C.unit (C.caller j) ≡ v → (given j ≡ given' j) × (get_or noted' j None ≡ get_or noted j None))
      → ((f q : ℕ) → f < C.functions → C.unit f ≡ v → body_at plan f ≤ q → q < body_at plan f + nodes (C.body f) → cell table' q ≡ cell table q)
      → Remembers C plan given modes noted table v → Remembers C plan given' modes' noted' table' v
  remembers_still given given' modes modes' noted noted' table table' v same sites cells h = record {
    member = λ f k ws r. h.member f k ws (sym same ∙ r);
    holds = λ f k ws r.
        let runs : unit_at modes v ≡ Runs f k ws = sym same ∙ r in
        let m = h.member f k ws runs in
        let own : (j : ℕ) → Stands j (C.body f) → (given j ≡ given' j) × (get_or noted' j None ≡ get_or noted j None) =
        λ j st. let o = good.own f j m.1 st in sites j o.0 o.1 (ap C.unit o.2 ∙ m.0) in
        holds_frame given' ws noted noted' table table' (body_at plan f) (C.body f)
        (holds_local given given' ws noted table (body_at plan f) (C.body f) (h.holds f k ws runs) (λ j st. (own j st).0))
        (λ q x y. cells f q m.1 m.0 x y)
        (λ j st. (own j st).1);
  }

  -- the cells of another body, where those of one body may differ
  pub cells_apart : (f g q : ℕ) {noted noted' : Asks} {table table' : List Kept} → Only (body_at plan f) (body_at plan f + nodes (C.body f))
      (λ k. Stands k (C.body f)) noted noted' table table' → f < C.functions → g < C.functions → g ≢ f
      → body_at plan g ≤ q → q < body_at plan g + nodes (C.body g) → cell table' q ≡ cell table q
  cells_apart f g q o lf lg ne x y = ⊎_elim
      (λ lt. o.below q (omega (arith, lies.apart g f lt lf, y)))
      (λ ge. o.above q (omega (arith, lies.apart f g (omega (arith, ge, ne)) lg, x)))
      (cases_lt g f)

  -- the asks of the sites of another unit, where those of one body may differ
  pub asks_apart : (f j v : ℕ) {noted noted' : Asks} {table table' : List Kept} {p u : ℕ} → Only p u (λ k. Stands k (C.body f)) noted noted' table table' → f < C.functions → C.unit f
      ≢ v → C.unit (C.caller j) ≡ v → get_or noted' j None ≡ get_or noted j None
  asks_apart f j v o lf ne is = o.asks j (λ st. ne (sym (ap C.unit (good.own f j lf st).2) ∙ is))

  -- a body was looked at: another unit is remembered as before
  pub remembers_other : (given : ℕ → Option Word) (modes : List modes_declared.Mode) (noted noted' : Asks) (table table' : List Kept) (f u v : ℕ) → f < C.functions → C.unit f ≡ u → v ≢ u
      → Only (body_at plan f) (body_at plan f + nodes (C.body f)) (λ k. Stands k (C.body f)) noted noted' table table' → Remembers C plan given modes noted table v
      → Remembers C plan given modes noted' table' v
  remembers_other given modes noted noted' table table' f u v lf is ne o h = remembers_still given given modes modes noted noted' table table' v refl
      (λ j pos le own. (refl, asks_apart f j v o lf (λ q. ne (sym q ∙ is)) own))
      (λ g q lg own x y. cells_apart f g q o lf lg (λ e. ne (sym own ∙ (ap C.unit e ∙ is))) x y)
      h

  -- a step that a unit does not see
  pub recalls_step : (s t : State) (later : core.State) (u w v : ℕ) → Steps C s t later → Local C (calls_of s) later u w → v ≢ u → v ≢ w → Recalls C plan s v → Recalls C plan t v
  recalls_step s t later u w v step local ne other h = remembers_still (back_at s.stages.items) (back_at t.stages.items) s.modes.items t.modes.items
      s.wants.each.items t.wants.each.items s.kept.items t.kept.items v
      (ap (λ (x : core.State). x.unit v) step.next ∙ local.units v ne)
      (λ j pos le own. (sym (ap (λ (x : core.State). back x j) step.next ∙ local.backs v ne other j own), ap (λ (x : Asks). get_or x j None) step.wants))
      (λ f q lf is x y. ap (λ (x : List Kept). cell x q) step.kept)
      h

  -- a unit that does not see that site k gets its word; the one that delivered it is idle
  pub recalls_return : (s t : State) (k : ℕ) (word : Word) (w v : ℕ) → Steps C s t (give_back C (calls_of s) k (Delivers k word)) → (0 < k → w ≡ C.unit (C.caller k)) → (v ≡ w → v ≡ unit_for C k)
      → Recalls C plan s v → Recalls C plan t v
  recalls_return s t k word w v step is same h = ⊎_elim
      (λ e.
      let idle = ap (λ (x : core.State). x.unit v) step.next ∙ put_at (calls_of s).unit (unit_for C k) v Idle (sym e) in
      record { member = λ f i ws r. absurd (idle_runs f i ws (sym idle ∙ r)); holds = λ f i ws r. absurd (idle_runs f i ws (sym idle ∙ r)) })
      (λ ne. recalls_step s t _ (unit_for C k) w v step (local_return C (calls_of s) k word w is) ne (λ q. ne (same q)) h)
      (cases_eq v (unit_for C k))

  -- what is asked for of a unit that runs a body is what the body wants
  pub wants_held : (given : ℕ → Option Word) (noted first_noted : Asks) (table : List Kept) (f k : ℕ) (ws : List Word) → f < C.functions → Holds given ws noted table (body_at plan f) (C.body f)
      → ((j : ℕ) → (Stands j (C.body f) → ⊥) → get_or noted j None ≡ get_or first_noted j None)
      → ((j : ℕ) → 0 < j → j ≤ C.sites → C.unit (C.caller j) ≡ C.unit f → (Stands j (C.body f) → ⊥) → get_or first_noted j None ≡ None)
      → (j : ℕ) → 0 < j → j ≤ C.sites → C.unit (C.caller j) ≡ C.unit f → get_or noted j None ≡ asked_as C given (Runs f k ws) (C.caller j) j
  wants_held given noted first_noted table f k ws lf h same quiet j pos le own = ⊎_elim
      (λ st.
      let is : C.caller j ≡ f = (good.own f j lf st).2 in
      asked_held given ws noted table (body_at plan f) (C.body f) (good.once f lf) h.1 j st
      ∙ sym (ap (λ t. cond t (wanted given ws (C.body (C.caller j)) j) None) (eq-eqb f (C.caller j) (sym is)) ∙ ap (λ g. wanted given ws (C.body g) j) is))
      (λ off. same j off ∙ (quiet j pos le own off ∙ sym (none off (cases_eq f (C.caller j)))))
      (stands_or_not j (C.body f))
    where
      none : (Stands j (C.body f) → ⊥) → (f ≡ C.caller j) ⊎ (f ≡ C.caller j → ⊥) → asked_as C given (Runs f k ws) (C.caller j) j ≡ None
      none off (inl e) = ap (λ t. cond t (wanted given ws (C.body (C.caller j)) j) None) (eq-eqb f (C.caller j) e)
          ∙ (ap (λ g. wanted given ws (C.body g) j) (sym e) ∙ not_wanted given ws (C.body f) j off)
      none off (inr ne) = ap (λ t. cond t (wanted given ws (C.body (C.caller j)) j) None) (ne_eqb f (C.caller j) ne)

-- ---- a body that was looked at

abbrev member_of : Mode → ℕ
member_of Idle = 0
member_of (Runs f k ws) = f
member_of (Delivers k v) = 0

abbrev words_of : Mode → List Word
words_of Idle = []
words_of (Runs f k ws) = ws
words_of (Delivers k v) = []

module _ {C : Program} {plan : Plan} {n : ℕ} (good : Numbered C) (lies : IsPlan C plan n) (given : ℕ → Option Word) (modes : List modes_declared.Mode)
    (noted noted' : Asks) (table table' : List Kept) (u f k : ℕ) (ws : List Word)
    (runs : unit_at modes u ≡ Runs f k ws) (is : C.unit f ≡ u) (lf : f < C.functions)
    (o : Only (body_at plan f) (body_at plan f + nodes (C.body f)) (λ j. Stands j (C.body f)) noted noted' table table') where
  -- the sites of its unit are wanted as the body wants them
  pub wants_found : Holds given ws noted' table' (body_at plan f) (C.body f) → {news : Option ℕ} → MayRenew C plan given news modes noted table u
      → (j : ℕ) → 0 < j → j ≤ C.sites → C.unit (C.caller j) ≡ u → get_or noted' j None ≡ asked_as C given (unit_at modes u) (C.caller j) j
  wants_found holds may j pos le own = wants_held good lies given noted' noted table' f k ws lf holds (λ i off. o.asks i off)
      (λ i p l q off. may.quiet i p l (q ∙ is) (λ g m vs r st. off (subst (λ x. Stands i (C.body x)) (sym (ap member_of (sym runs ∙ r))) st)))
      j pos le (own ∙ sym is)
      ∙ ap (λ m. asked_as C given m (C.caller j) j) (sym runs)

  -- those of other units as before
  pub others_found : (j : ℕ) → 0 < j → j ≤ C.sites → (C.unit (C.caller j) ≡ u → ⊥) → get_or noted' j None ≡ get_or noted j None
  others_found j pos le apart = o.asks j (λ st. apart (ap C.unit (good.own f j lf st).2 ∙ is))

  -- what is kept is right for this unit, and for each other one for which it was
  pub recalls_found : Holds given ws noted' table' (body_at plan f) (C.body f) → (v : ℕ) → ((v ≡ u → ⊥) → Remembers C plan given modes noted table v) → Remembers C plan given modes noted' table' v
  recalls_found holds v before = ⊎_elim
      (λ e. subst (λ x. Remembers C plan given modes noted' table' x) (sym e) (record {
        member = λ g m vs r. let same : f ≡ g = ap member_of (sym runs ∙ r) in (subst (λ x. C.unit x ≡ u) same is, subst (λ x. x < C.functions) same lf);
        holds = λ g m vs r.
            subst (λ x. Holds given vs noted' table' (body_at plan x) (C.body x)) (ap member_of (sym runs ∙ r))
            (subst (λ (x : List Word). Holds given x noted' table' (body_at plan f) (C.body f)) (ap words_of (sym runs ∙ r)) holds);
      }))
      (λ ne. remembers_other good lies given modes noted noted' table table' f u v lf is ne o (before ne))
      (cases_eq v u)

-- the body that a unit runs may be looked at, with its arguments in the first slots; and what is kept of it afterwards
module _ {C : Program} {plan : Plan} (stages : List Stage) (modes : List modes_declared.Mode) (noted : Asks) (frame : List Word) (table : List Kept) (u f k slots : ℕ)
    (args : List Word) (lies : IsPlan C plan (length table)) (lf : f < C.functions)
    (filled : take slots frame ≡ args) where
  pub may_look : {news : Option ℕ} → CanRun stages (length noted) args (C.body f) → slots + nodes (C.body f) ≤ length frame → unit_at modes u ≡ Runs f k args
      → MayRenew C plan (back_at stages) news modes noted table u
      → MayLook stages plan.places.items noted frame table slots (body_at plan f) news (C.body f)
  may_look {news} can room runs may = record {
    can = subst (λ (l : List Word). CanRun stages (length noted) l (C.body f)) (sym filled) can;
    room = room;
    laid = lies.laid f lf;
    places = omega (arith, lies.within f lf, lies.places);
    cells = lies.within f lf;
    stood = subst (λ (l : List Word). Stood (back_at stages) news l noted table (body_at plan f) (C.body f)) (sym filled) (may.stood f k args runs);
  }

  pub held_body : {noted' : Asks} {table' : List Kept} {o : Option Word} → Finds stages noted noted' frame table table' slots (body_at plan f) (C.body f) o
      → Holds (back_at stages) args noted' table' (body_at plan f) (C.body f)
  held_body {noted'} {table'} {o} h = subst (λ (l : List Word). Holds (back_at stages) l noted' table' (body_at plan f) (C.body f)) filled h.holds

-- a unit that runs nothing
module _ {C : Program} {plan : Plan} (given : ℕ → Option Word) (modes : List modes_declared.Mode) (noted : Asks) (table : List Kept) (u : ℕ)
    (idle : (f k : ℕ) (ws : List Word) → unit_at modes u ≡ Runs f k ws → ⊥) where
  pub recalls_idle : (v : ℕ) → ((v ≡ u → ⊥) → Remembers C plan given modes noted table v) → Remembers C plan given modes noted table v
  recalls_idle v before = ⊎_elim
      (λ e. subst (λ x. Remembers C plan given modes noted table x) (sym e) (record { member = λ f k ws r. absurd (idle f k ws r); holds = λ f k ws r. absurd (idle f k ws r) }))
      before
      (cases_eq v u)

-- ---- a unit that returns a word to site k

-- the words that had come back before are those without that of k
before : (given given' : ℕ → Option Word) (k : ℕ) → given k ≡ None → ((j : ℕ) → j ≢ k → given' j ≡ given j) → (j : ℕ) → given j ≡ without given' k j
before given given' k none off j = ⊎_elim
    (λ e. ap given (sym e) ∙ (none ∙ sym (ap (λ t. cond t None (given' j)) (eq-eqb k j e))))
    (λ ne. sym (ap (λ t. cond t None (given' j)) (ne_eqb k j ne) ∙ off j (λ q. ne (sym q))))
    (cases_eq k j)

module _ {C : Program} {plan : Plan} (good : Numbered C) where
  pub may_renew : (given given' : ℕ → Option Word) (modes modes' : List modes_declared.Mode) (noted : Asks) (table : List Kept) (k u : ℕ) → given k ≡ None
      → ((j : ℕ) → j ≢ k → given' j ≡ given j) → unit_at modes' u ≡ unit_at modes u
      → ((j : ℕ) → 0 < j → j ≤ C.sites → C.unit (C.caller j) ≡ u → get_or noted j None ≡ asked_as C given (unit_at modes u) (C.caller j) j)
      → Remembers C plan given modes noted table u → MayRenew C plan given' (Some k) modes' noted table u
  may_renew given given' modes modes' noted table k u none off same wants h = record {
    stood = λ f i ws r. holds_local given (without given' k) ws noted table (body_at plan f) (C.body f) (h.holds f i ws (sym same ∙ r)) (λ j st. before given given' k none off j);
    quiet = λ j pos le own apart. wants j pos le own ∙ silent (unit_at modes u) refl j own (λ f i ws r. apart f i ws (same ∙ r));
  }
    where
      silent : (m : Mode) → unit_at modes u ≡ m → (j : ℕ) → C.unit (C.caller j) ≡ u →
          ((f i : ℕ) (ws : List Word) → unit_at modes u ≡ Runs f i ws → Stands j (C.body f) → ⊥) → asked_as C given (unit_at modes u) (C.caller j) j ≡ None
      silent Idle e j own apart = ap (λ m. asked_as C given m (C.caller j) j) e
      silent (Delivers i v) e j own apart = ap (λ m. asked_as C given m (C.caller j) j) e
      silent (Runs f i ws) e j own apart = ap (λ m. asked_as C given m (C.caller j) j) e ∙ by (cases_eq f (C.caller j))
        where
          by : (f ≡ C.caller j) ⊎ (f ≡ C.caller j → ⊥) → asked_as C given (Runs f i ws) (C.caller j) j ≡ None
          by (inl q) = ap (λ t. cond t (wanted given ws (C.body (C.caller j)) j) None) (eq-eqb f (C.caller j) q) ∙
              (ap (λ g. wanted given ws (C.body g) j) (sym q) ∙ not_wanted given ws (C.body f) j (apart f i ws e))
          by (inr ne) = ap (λ t. cond t (wanted given ws (C.body (C.caller j)) j) None) (ne_eqb f (C.caller j) ne)

  pub can_renew : (s t : State) (k : ℕ) (word : Word) → Inv C (calls_of s) → 0 < k → (calls_of s).unit (unit_for C k) ≡ Delivers k word → Steps C s t (give_back C (calls_of s) k (Delivers k word))
      → ((j : ℕ) → 0 < j → j ≤ C.sites → C.unit (C.caller j) ≡ C.unit (C.caller k) → get_or s.wants.each.items j None ≡ asked_as C (back (calls_of s))
      ((calls_of s).unit (C.unit (C.caller k))) (C.caller j) j)
      → Recalls C plan s (C.unit (C.caller k)) → CanRenew C plan (Some k) t (C.unit (C.caller k))
  can_renew s t k word inv pos delivers step wants h =
      let u = C.unit (C.caller k) in
      let serving = inv.serving (unit_for C k) k (ap serves delivers) in
      let lt : unit_for C k < u = good.earlier k pos serving.2 in
      let may = may_renew (back_at s.stages.items) (back_at t.stages.items) s.modes.items t.modes.items s.wants.each.items s.kept.items k u
      (none k pos serving.0)
      (λ j ne. ap (λ (x : core.State). back x j) step.next ∙ off j ne)
      (ap (λ (x : core.State). x.unit u) step.next ∙ put_off (calls_of s).unit (unit_for C k) u Idle (λ q. absurd (omega (arith, lt, q))))
      wants h in
      subst (λ (x : Asks). MayRenew C plan (back_at t.stages.items) (Some k) t.modes.items x t.kept.items u) (sym step.wants)
      (subst (λ (x : List Kept). MayRenew C plan (back_at t.stages.items) (Some k) t.modes.items s.wants.each.items x u) (sym step.kept) may)
    where
      none : (j : ℕ) → 0 < j → (calls_of s).site j ≡ Sent → back (calls_of s) j ≡ None
      none zero less e = absurd (omega (arith, less))
      none (suc j) less e = ap back_word e

      off : (j : ℕ) → j ≢ k → back (give_back C (calls_of s) k (Delivers k word)) j ≡ back (calls_of s) j
      off zero ne = refl
      off (suc j) ne = ap back_word (put_off (calls_of s).site k (suc j) (Returned word) (λ q. ne (sym q)))

-- ---- the same under other names

pub look_as : {stages stages' : List Stage} {P P' : List Place} {noted noted' : Asks} {frame frame' : List Word} {table table' : List Kept} {n n1 p p1 : ℕ} {news : Option ℕ} {t t1 : Term}
    → stages' ≡ stages → P' ≡ P → noted' ≡ noted → frame' ≡ frame → table' ≡ table → n1 ≡ n → p1 ≡ p → t1 ≡ t → MayLook stages P noted frame table n p news t
    → MayLook stages' P' noted' frame' table' n1 p1 news t1
look_as {stages} {stages'} {P} {P'} {noted} {noted'} {frame} {frame'} {table} {table'} {n} {n1} {p} {p1} {news} {t} {t1} a b c d e f g i h =
    subst (λ (x : List Stage). MayLook x P' noted' frame' table' n1 p1 news t1) (sym a)
    (subst (λ (x : List Place). MayLook stages x noted' frame' table' n1 p1 news t1) (sym b)
    (subst (λ (x : Asks). MayLook stages P x frame' table' n1 p1 news t1) (sym c)
    (subst (λ (x : List Word). MayLook stages P noted x table' n1 p1 news t1) (sym d)
    (subst (λ (x : List Kept). MayLook stages P noted frame x n1 p1 news t1) (sym e)
    (subst (λ (x : ℕ). MayLook stages P noted frame table x p1 news t1) (sym f)
    (subst (λ (x : ℕ). MayLook stages P noted frame table n x news t1) (sym g)
    (subst (λ (x : Term). MayLook stages P noted frame table n p news x) (sym i) h)))))))

pub finds_as : {stages stages' : List Stage} {noted noted' later : Asks} {frame frame' : List Word} {table table' later_table : List Kept} {n p p1 : ℕ} {t t1 : Term} {o : Option Word}
    → stages' ≡ stages → noted' ≡ noted → frame' ≡ frame → table' ≡ table → p1 ≡ p → t1 ≡ t → Finds stages' noted' later frame' table' later_table n p1 t1 o
    → Finds stages noted later frame table later_table n p t o
finds_as {stages} {stages'} {noted} {noted'} {later} {frame} {frame'} {table} {table'} {later_table} {n} {p} {p1} {t} {t1} {o} a c d e g i h =
    subst (λ (x : List Stage). Finds x noted later frame table later_table n p t o) a
    (subst (λ (x : Asks). Finds stages' x later frame table later_table n p t o) c
    (subst (λ (x : List Word). Finds stages' noted' later x table later_table n p t o) d
    (subst (λ (x : List Kept). Finds stages' noted' later frame' x later_table n p t o) e
    (subst (λ (x : ℕ). Finds stages' noted' later frame' table' later_table n x t o) g
    (subst (λ (x : Term). Finds stages' noted' later frame' table' later_table n p1 x o) i h)))))

pub remembers_as : {C : Program} {plan : Plan} {given : ℕ → Option Word} {modes : List modes_declared.Mode} {noted noted' : Asks} {table table' : List Kept} {v : ℕ} → noted' ≡ noted
    → table' ≡ table → Remembers C plan given modes noted table v → Remembers C plan given modes noted' table' v
remembers_as {C} {plan} {given} {modes} {noted} {noted'} {table} {table'} {v} a e h =
    subst (λ (x : Asks). Remembers C plan given modes x table' v) (sym a) (subst (λ (x : List Kept). Remembers C plan given modes noted x v) (sym e) h)

-- ---- a unit that runs nothing says nothing, and asks for nothing

pub idle_says : (C : Program) (given : ℕ → Option Word) (m : Mode) → ((f k : ℕ) (ws : List Word) → m ≡ Runs f k ws → ⊥) → says_as C given m ≡ NotYet
idle_says C given Idle h = refl
idle_says C given (Runs f k ws) h = absurd (h f k ws refl)
idle_says C given (Delivers k v) h = refl

pub idle_asks : (C : Program) (given : ℕ → Option Word) (m : Mode) (g j : ℕ) → ((f k : ℕ) (ws : List Word) → m ≡ Runs f k ws → ⊥) → asked_as C given m g j ≡ None
idle_asks C given Idle g j h = refl
idle_asks C given (Runs f k ws) g j h = absurd (h f k ws refl)
idle_asks C given (Delivers k v) g j h = refl
