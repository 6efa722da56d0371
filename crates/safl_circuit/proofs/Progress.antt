-- Where an event is enabled after the Returns of a cycle, the cycle has another event.
use Rattle.safl_circuit.proofs.Common.{Choice, Inv, Numbered, Program, Word, is_delivering, is_running, is_there, unit_for}
use Rattle.std.proofs.Common.{◌≡◌, ℕ, zero, suc, ◌<◌, ◌≤◌, List, [], ◌∷◌, ◌+◌, Option, Some, None, Bool, true, false, cond, not, ◌&&◌, is_some, refl, sym, ap, ◌∙◌, inl, inr, ⊎_elim, ◌⊎◌, arith}
use Rattle.std.proofs.lemmas.Bool.{cases_Bool, cases_eq, eqb-true, eq-eqb, and_parts, and_from, true≢false}
use Rattle.safl_circuit.proofs.Accepts.{Meets, asked_parts}
use Rattle.safl_circuit.proofs.Middle.{member_says}
use Rattle.safl_circuit.specs.Equations.{Registers, Inputs, accepts, finishes, goes_on, body_says, want, wants_at, go, end_word, loop_from, loop_words}
use Rattle.safl_calls.proofs.Basics.{moves_append, first_none, some_none, cond_some}
use Rattle.safl_calls.proofs.Bodies.{goes_stands}
use Rattle.safl_calls.specs.Machine.{State, Mode, Idle, Runs, Delivers, Event, Accept, Finish, Return, LoopInto, Enabled, says_as, asked, back}
use Rattle.safl_calls.specs.Picks.{picks, first}
use Rattle.safl_calls.specs.Moves.{move_count, moves_count}
use Rattle.safl_term.specs.Readiness.{Ready, LoopTo, NotYet, answer, word_of, or_else}

-- where a number passes, and its event is no Return, there is a move
picks_move : (p : ℕ → Bool) (e : ℕ → Event) → ((k : ℕ) → move_count (e k) ≡ 1) → (n k : ℕ) → k < n → p k ≡ true → 0 < moves_count (picks p e n)
unfolding picks moves_count
picks_move p e move zero k lt up = absurd (omega arith)
picks_move p e move (suc n) k lt up =
    let sum = moves_append (picks p e n) (cond (p n) (e n ∷ []) []) in
    ⊎_elim
    (λ same.
    let one : moves_count (cond (p n) (e n ∷ []) []) ≡ move_count (e n) + 0 = ap (λ b. moves_count (cond b (e n ∷ []) [])) (ap p (sym same) ∙ up) in
    omega (arith, sum, one, move n))
    (λ other. let h = picks_move p e move n k (omega (arith, other)) up in omega (arith, sum, h))
    (cases_eq k n)

-- some number below n passes, or none
pub some_up : (p : ℕ → Bool) (n : ℕ) → ((k : ℕ) × (k < n) × (p k ≡ true)) ⊎ ((k : ℕ) → k < n → p k ≡ false)
some_up p zero = inr (λ k lt. absurd (omega arith))
some_up p (suc n) = ⊎_elim
    (λ found. inl (found.0, omega (arith, found.1), found.2))
    (λ none. ⊎_elim
    (λ up. inl (n, omega arith, up))
    (λ down. inr (λ k lt. ⊎_elim (λ same. ap p same ∙ down) (λ other. none k (omega (arith, other))) (cases_eq k n)))
    (cases_Bool (p n)))
    (some_up p n)

-- the least place
first_least : {A : Type 0} (g : ℕ → Option A) (n : ℕ) (x : A) → first g n ≡ Some x → (i : ℕ) × (i < n) × (g i ≡ Some x) × (first g i ≡ None)
unfolding first
first_least g zero x h = absurd (some_none x (sym h))
first_least {A} g (suc n) x h = by (first_least g n x) (first g n) refl h
  where
    by : (first g n ≡ Some x → (i : ℕ) × (i < n) × (g i ≡ Some x) × (first g i ≡ None)) → (o : Option A) → first g n ≡ o → or_else o (g n) ≡ Some x →
        (i : ℕ) × (i < suc n) × (g i ≡ Some x) × (first g i ≡ None)
    by ih None e h = (n, omega arith, h, e)
    by ih (Some y) e h = let t = ih (e ∙ h) in (t.0, omega (arith, t.1), t.2, t.3)

module _ (C : Program) (P : Choice) (args : List Word) (good : Numbered C) (r : Registers) (i : Inputs) (t : State) (inv : Inv C t) (meets : Meets C P args r i t) where
  -- a wanted call at an idle unit lets some call go there
  pub some_go : (k : ℕ) (ws : List Word) → asked C args t (suc k) ≡ Some ws → t.unit (unit_for C (suc k)) ≡ Idle → suc k ≤ C.sites
      → (j : ℕ) × (0 < j) × (j ≤ C.sites) × (unit_for C j ≡ unit_for C (suc k)) × (go C P r i j ≡ true)
  unfolding go
  some_go k ws asked' idle le = by (P.arbiter w) refl
    where
      w : ℕ
      w = unit_for C (suc k)

      wants_k : want C P r (suc k) ≡ true
      wants_k = ap is_some (meets.wants k ∙ asked')

      not_run : not (r.run w) ≡ true
      not_run = ap not (meets.run w ∙ ap is_running idle)

      up_from : (j : ℕ) → unit_for C (suc j) ≡ w → want C P r (suc j) ≡ true → P.arbiter w ≡ true → first (wants_at C P r w) (suc j) ≡ None → go C P r i (suc j) ≡ true
      up_from j e wants arbiter none =
          ap (λ b. cond b (want C P r (suc j) && (not (r.run (unit_for C (suc j))) && not
          (is_some (first (wants_at C P r (unit_for C (suc j))) (suc j))))) (want C P r (suc j))) (ap P.arbiter e ∙ arbiter)
          ∙ and_from _ _ wants (and_from _ _ (ap (λ u. not (r.run u)) e ∙ not_run) (ap (λ u. not (is_some (first (wants_at C P r u) (suc j)))) e ∙ ap (λ o. not (is_some o)) none))

      lowest : P.arbiter w ≡ true → (o : Option ℕ) → first (wants_at C P r w) (suc k) ≡ o → (j : ℕ) × (0 < j) × (j ≤ C.sites) × (unit_for C j ≡ w) × (go C P r i j ≡ true)
      lowest arbiter None e = (suc k, omega arith, le, refl, up_from k refl wants_k arbiter e)
      lowest arbiter (Some x) e = let l = first_least (wants_at C P r w) (suc k) x e in least arbiter l.0 l.1 x l.2 l.3
        where
          least : P.arbiter w ≡ true → (j : ℕ) → j < suc k → (x : ℕ) → wants_at C P r w j ≡ Some x → first (wants_at C P r w) j ≡ None
              → (j : ℕ) × (0 < j) × (j ≤ C.sites) × (unit_for C j ≡ w) × (go C P r i j ≡ true)
          least arbiter zero lt x h none = absurd (some_none x (sym h))
          least arbiter (suc j) lt x h none =
              let a = and_parts _ _ (cond_some _ _ x h).0 in
              (suc j, omega arith, omega (arith, lt, le), eqb-true _ w a.0, up_from j (eqb-true _ w a.0) a.1 arbiter none)

      by : (b : Bool) → P.arbiter w ≡ b → (j : ℕ) × (0 < j) × (j ≤ C.sites) × (unit_for C j ≡ w) × (go C P r i j ≡ true)
      by true arbiter = lowest arbiter _ refl
      by false no_arb =
          let is = ap (λ b. cond b (want C P r (suc k) && (not (r.run w) && not (is_some (first (wants_at C P r w) (suc k))))) (want C P r (suc k))) no_arb in
          (suc k, omega arith, le, refl, is ∙ wants_k)

  -- the cycle has an Accept, a Finish or a Loop
  abbrev pub Moving : Type 0
  Moving = (0 < moves_count (accepts C P r i (suc C.sites))) ⊎ ((0 < moves_count (finishes C P r C.functions)) ⊎ (0 < moves_count (goes_on C P r C.functions)))

  -- after the Returns an enabled event makes one of the others
  pub moves : (e : Event) → Enabled C args t e → (e ≡ Accept 0 → go C P r i 0 ≡ true) → Moving
  moves (Return k) h main = absurd (true≢false (sym (ap is_delivering h.1) ∙ meets.rest (unit_for C k)))
  moves (Accept zero) h main = inl (picks_move (go C P r i) Accept (λ k. refl) (suc C.sites) 0 (omega arith) (main refl))
  moves (Accept (suc k)) h main =
      let w = asked_parts C args t k h.0 h.1 in
      let g = some_go k h.0 h.1 h.2 w.within in
      inl (picks_move (go C P r i) Accept (λ k. refl) (suc C.sites) g.0 (omega (arith, g.2)) g.4)
  moves (Finish f) h main =
      let m = inv.member (C.unit f) f h.0 h.1 h.3 in
      let ready : answer (back t) h.1 (C.body f) ≡ Ready h.2 = sym (ap (says_as C (back t)) h.3) ∙ h.4 in
      let says' : body_says C P r f ≡ Ready h.2 = meets.says f m.1 ∙ ap (λ m. member_says C (back t) m f) h.3 ∙ ap (λ b. cond b (answer (back t) h.1 (C.body f)) NotYet) (eq-eqb f f refl) ∙ ready in
      inr (inl (picks_move (λ f. is_some (end_word C P r f)) Finish (λ f. refl) C.functions f m.1 (ap (λ a. is_some (word_of a)) says')))
  moves (LoopInto h') h main = by (t.unit (C.unit h')) refl
    where
      goes_not : NotYet ≡ LoopTo h' h.0 → ⊥
      goes_not e = grind arith

      by : (m : Mode) → t.unit (C.unit h') ≡ m → Moving
      by Idle e = absurd (goes_not (sym (ap (says_as C (back t)) e) ∙ h.1))
      by (Delivers k v) e = absurd (goes_not (sym (ap (says_as C (back t)) e) ∙ h.1))
      by (Runs g k ws) e =
          let m = inv.member (C.unit h') g k ws e in
          let body : answer (back t) ws (C.body g) ≡ LoopTo h' h.0 = sym (ap (says_as C (back t)) e) ∙ h.1 in
          let says' : body_says C P r g ≡ LoopTo h' h.0 = meets.says g m.1 ∙ ap (λ m. member_says C (back t) m g) (ap t.unit m.0 ∙ e) ∙ ap
          (λ b. cond b (answer (back t) ws (C.body g)) NotYet) (eq-eqb g g refl) ∙ body in
          let from : loop_from C P r h' g ≡ Some h.0 = rw (eq-eqb (C.unit g) (C.unit h') m.0, says', eq-eqb h' h' refl) refl in
          let some : is_some (loop_words C P r h') ≡ true = is_there (loop_words C P r h') (λ none. some_none h.0 (sym from ∙ first_none (loop_from C P r h') C.functions none g m.1)) in
          inr (inr (picks_move (λ j. is_some (loop_words C P r j)) LoopInto (λ j. refl) C.functions h' (good.loops g h' m.1 (goes_stands (back t) ws (C.body g) h' h.0 body)).0 some))
