-- What becomes of each unit in a cycle.
use Rattle.safl_circuit.proofs.Common.{Choice, Inv, LoopTo, Numbered, Program, Ready, Returned, Word, is_returned, is_running, loop_not_yet}
use Rattle.safl_circuit.proofs.Common.{ready_not_yet, unit_for, unwrap_or, was_sent}
use Rattle.std.proofs.Common.{◌≡◌, ℕ, suc, ◌<◌, ◌≤◌, List, [], Option, Some, None, true, cond, ◌||◌, ◌==◌, is_some, refl, sym, ap, ◌∙◌, arith}
use Rattle.safl_circuit.proofs.Accepts.{Meets, Started, begun, not_started, go_found}
use Rattle.safl_circuit.proofs.Ends.{Ended, done_as, Moved, moved_as, running, end_found, loop_found, loop_in_found, no_end, Running}
use Rattle.safl_circuit.specs.Equations.{Registers, Inputs, ret, many, body_says, loop_words, go, go_words}
use Rattle.safl_circuit.proofs.Searched.{end_in, loop_in, go_in}
use Rattle.safl_calls.proofs.Basics.{first_some, some_none, some_of, not_some}
use Rattle.safl_calls.specs.Machine.{State, Idle, Runs, Delivers}
use Rattle.safl_calls.specs.Picks.{first}

-- what the registers hold of the state after the Returns
pub record Holds (C : Program) (P : Choice) (r : Registers) (t : State) : Type 0 where
  pub at : (u f k : ℕ) (ws : List Word) → t.unit u ≡ Runs f k ws → (g : ℕ) → g < C.functions → C.unit g ≡ u → many C g ≡ true → r.at g ≡ (f == g)
  pub arg : (u f k : ℕ) (ws : List Word) → t.unit u ≡ Runs f k ws → r.arg f ≡ ws
  pub sent : (k : ℕ) → r.sent (suc k) ≡ was_sent (t.site (suc k))
  pub got : (k : ℕ) → (r.got (suc k) || ret C r (suc k)) ≡ is_returned (t.site (suc k))
  pub keep : (k : ℕ) (v : Word) → P.kept (suc k) ≡ true → t.site (suc k) ≡ Returned v → cond (ret C r (suc k)) (r.res (unit_for C (suc k))) (r.keep (suc k)) ≡ v

pub data Fate (C : Program) (P : Choice) (r : Registers) (i : Inputs) (t z : State) (u : ℕ) : Type 0 where
  Stays : first (end_in C P r u) C.functions ≡ None → first (loop_in C P r u) C.functions ≡ None → first (go_in C P r i u) (suc C.sites) ≡ None → z.unit u ≡ t.unit u → Fate C P r i t z u
  Starts : (k : ℕ) → first (end_in C P r u) C.functions ≡ None → first (loop_in C P r u) C.functions ≡ None → first (go_in C P r i u) (suc C.sites) ≡
      Some k → k ≤ C.sites → unit_for C k ≡ u → go C P r i k ≡ true → z.unit u ≡ Runs (C.callee k) k (unwrap_or (go_words C P r i k) []) → Fate C P r i t z u
  EndsWith : (v : Word) (j : ℕ) → first (end_in C P r u) C.functions ≡ Some v → first (loop_in C P r u) C.functions ≡ None → first (go_in C P r i u)
      (suc C.sites) ≡ None → z.unit u ≡ Delivers j v → Fate C P r i t z u
  LoopsTo : (h j : ℕ) (vs : List Word) → is_running (t.unit u) ≡ true → first (end_in C P r u) C.functions ≡ None → first (loop_in C P r u)
      C.functions ≡ Some h → first (go_in C P r i u) (suc C.sites) ≡ None → h < C.functions → C.unit h ≡ u → loop_words C P r h ≡ Some vs → z.unit u ≡
      Runs h j vs → Fate C P r i t z u

module _ (C : Program) (P : Choice) (args : List Word) (good : Numbered C) (r : Registers) (i : Inputs) (t : State) (inv : Inv C t)
    (meets : Meets C P args r i t) (x : State) (st : Started C P args good r i t inv meets (suc C.sites) x) (y : State)
    (en : Ended C P args good r i t inv meets x st C.functions y) (z : State) (mv : Moved C P args good r i t inv meets x st y en C.functions z) where
  runs_not_idle : (u f k : ℕ) (ws : List Word) → t.unit u ≡ Runs f k ws → t.unit u ≡ Idle → ⊥
  runs_not_idle u f k ws e idle = apart (sym e ∙ idle)
    where
      apart : Runs f k ws ≡ Idle → ⊥
      apart e = grind arith

  no_start : (u f k : ℕ) (ws : List Word) → t.unit u ≡ Runs f k ws → first (go_in C P r i u) (suc C.sites) ≡ None
  no_start u f k ws e = not_started C P args good r i t inv meets u (suc C.sites) (runs_not_idle u f k ws e)

  -- the unit after the cycle, from what was found
  after_all : (u : ℕ) (e : Option Word) (l s : Option ℕ) → first (end_in C P r u) C.functions ≡ e → first (loop_in C P r u) C.functions ≡ l → first
      (go_in C P r i u) (suc C.sites) ≡ s → z.unit u ≡ moved_as C P args good r i t inv meets x st y en l
      (done_as C P args good r i t inv meets x st e (begun C P args good r i t inv meets s (t.unit u)))
  after_all u e l s he hl hs =
      mv.unit u ∙ ap (λ o. moved_as C P args good r i t inv meets x st y en o (y.unit u)) hl
      ∙ ap (moved_as C P args good r i t inv meets x st y en l)
      (en.unit u ∙ ap (λ o. done_as C P args good r i t inv meets x st o (x.unit u)) he
      ∙ ap (done_as C P args good r i t inv meets x st e) (st.unit u ∙ ap (λ o. begun C P args good r i t inv meets o (t.unit u)) hs))

  fate_as : (u : ℕ) (e : Option Word) (l s : Option ℕ) → first (end_in C P r u) C.functions ≡ e → first (loop_in C P r u) C.functions ≡ l → first
      (go_in C P r i u) (suc C.sites) ≡ s → Fate C P r i t z u
  fate_as u None None None he hl hs = Stays he hl hs (after_all u None None None he hl hs)
  fate_as u None None (Some k) he hl hs =
      let a = first_some (go_in C P r i u) (suc C.sites) k hs in
      let b = go_found C P args good r i t inv meets u a.0 k a.2 in
      let same : a.0 ≡ k = sym b.0 in
      Starts k he hl hs (omega (arith, a.1, same)) (ap (unit_for C) (sym same) ∙ b.1) (ap (go C P r i) (sym same) ∙ b.2) (after_all u None None (Some k) he hl hs)
  fate_as u (Some v) l s he hl hs = ends_so
    where
      a : (f : ℕ) × (f < C.functions) × (end_in C P r u f ≡ Some v)
      a = first_some (end_in C P r u) C.functions v he

      b : (C.unit a.0 ≡ u) × (body_says C P r a.0 ≡ Ready v)
      b = end_found C P args good r i t inv meets u a.0 v a.2

      run : Running C t a.0 (Ready v)
      run = running C P args good r i t inv meets a.0 (Ready v) a.1 (ready_not_yet v) b.1

      at : t.unit u ≡ Runs a.0 run.serves run.args
      at = ap t.unit (sym b.0) ∙ run.runs

      no_loop : first (loop_in C P r u) C.functions ≡ None
      no_loop = not_some _ (λ h e.
          let c = first_some (loop_in C P r u) C.functions h e in
          let d = loop_in_found C P args good r i t inv meets x st y en u c.0 h c.1 c.2 in
          let p = some_of _ d.2 in
          let g = loop_found C P args good r i t inv meets c.0 p.0 p.1 in
          let none : first (end_in C P r u) C.functions ≡ None = ap (λ u. first (end_in C P r u) C.functions) (sym (g.2 ∙ d.1)) ∙ no_end C P args good
          r i t inv meets x st y en g.0 c.0 C.functions p.0 (omega arith) g.1 g.3 in
          some_none v (sym he ∙ none))

      ends_so : Fate C P r i t z u
      ends_so = EndsWith v run.serves he no_loop (no_start u _ _ _ at) (after_all u (Some v) None None he no_loop (no_start u _ _ _ at) ∙ ap (done_as C P args good r i t inv meets x st (Some v)) at)
  fate_as u None (Some h) s he hl hs = loops_so
    where
      c : (h' : ℕ) × (h' < C.functions) × (loop_in C P r u h' ≡ Some h)
      c = first_some (loop_in C P r u) C.functions h hl

      d : (h ≡ c.0) × (C.unit c.0 ≡ u) × (is_some (loop_words C P r c.0) ≡ true)
      d = loop_in_found C P args good r i t inv meets x st y en u c.0 h c.1 c.2

      p : (vs : List Word) × (loop_words C P r c.0 ≡ Some vs)
      p = some_of _ d.2

      g : (g : ℕ) × (g < C.functions) × (C.unit g ≡ C.unit c.0) × (body_says C P r g ≡ LoopTo c.0 p.0)
      g = loop_found C P args good r i t inv meets c.0 p.0 p.1

      run : Running C t g.0 (LoopTo c.0 p.0)
      run = running C P args good r i t inv meets g.0 (LoopTo c.0 p.0) g.1 (loop_not_yet c.0 p.0) g.3

      at : t.unit u ≡ Runs g.0 run.serves run.args
      at = ap t.unit (sym (g.2 ∙ d.1)) ∙ run.runs

      words : loop_words C P r h ≡ Some p.0
      words = ap (loop_words C P r) d.0 ∙ p.1

      loops_so : Fate C P r i t z u
      loops_so = LoopsTo h run.serves p.0 (ap is_running at) he hl (no_start u _ _ _ at) (omega (arith, c.1, d.0)) (ap C.unit d.0 ∙ d.1) words
          (after_all u None (Some h) None he hl (no_start u _ _ _ at) ∙ ap (moved_as C P args good r i t inv meets x st y en (Some h)) at ∙ ap (λ o. Runs h run.serves (unwrap_or o [])) words)

  pub fate : (u : ℕ) → Fate C P r i t z u
  fate u = fate_as u _ _ _ refl refl refl
