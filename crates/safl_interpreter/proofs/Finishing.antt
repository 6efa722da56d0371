-- The words of all parts are known, and the term goes on.
use Rattle.safl_interpreter.proofs.Common.{HasWidth, IsWellFormed, Primitive, Program, apply_prim, widths_append}
use Rattle.std.proofs.Common.{◌≡◌, ℕ, zero, suc, ◌+◌, ◌<◌, ◌≤◌, List, [], ◌∷◌, ◌++◌, length, Bool, true, false, refl, sym, ap, ◌∙◌, subst, arith}
use Rattle.std.proofs.lemmas.List.{append-nil, length-set}
use Rattle.safl_word.specs.Words.{Word, slot, choose, pick, widths}
use Rattle.safl_word.proofs.Widths.{apply_width}
use Rattle.safl_term.specs.Terms.{Term, Terms, Nil}
use Rattle.safl_term.specs.Meaning.{gives_nil}
use Rattle.safl_term.specs.Sizes.{nodes}
use Rattle.safl_interpreter.specs.Accounts.{Account, booked, cycles, one_if}
use Rattle.safl_interpreter.specs.Turns.{Then, Choose, Bind, Operate, Apply, Frame, Turn, Enter, Within, Leave}
use Rattle.safl_interpreter.specs.Comes.{Comes, Returns, Figures, Finishes}
use Rattle.safl_interpreter.specs.Sound.{Fits, FitsFrame, IsStep}

-- a frame of which no part remains
abbrev pub ended : Then → List Word → List Word → ℕ → ℕ → Frame
ended then words slots begun ready = record { then = then; rest = Nil; words = words; slots = slots; begun = begun; ready = ready }

pub ended_as : (words slots : List Word) (begun ready : ℕ) {r q : Then} {ts : Terms} → r ≡ q → ts ≡ Nil →
    ◌≡◌ {A = Frame} (record { then = r; rest = ts; words = words; slots = slots; begun = begun; ready = ready }) (ended q words slots begun ready)
ended_as words slots begun ready {r} {q} {ts} e f =
    ap (λ (x : Then). let z : Frame = record { then = x; rest = ts; words = words; slots = slots; begun = begun; ready = ready } in z) e
    ∙ ap (λ (x : Terms). let z : Frame = record { then = q; rest = x; words = words; slots = slots; begun = begun; ready = ready } in z) f

module _ (C : Program) (then : Then) (words slots : List Word) (begun n : ℕ) (acc : Account) (P : Figures → Type 0) where
  pub ended_in : Comes C (Within (ended then words slots begun n)) acc P → Finishes C then slots words n acc P
  ended_in (us, gives_nil, h) = subst (λ l. Finishes C then slots l n acc P) (append-nil words) h

  ended_out : Finishes C then slots words n acc P → Comes C (Within (ended then words slots begun n)) acc P
  ended_out h = ([], gives_nil, subst (λ l. Finishes C then slots l n acc P) (sym (append-nil words)) h)

-- the words of an ended frame fit
pub ended_fits : (C : Program) (then : Then) (words slots : List Word) (begun ready m : ℕ) → FitsFrame C
    (ended then words slots begun ready) (widths words) m → Fits C then (widths slots) (widths words) m
ended_fits C then words slots begun ready m ([], h, g) = subst (λ l. Fits C then (widths slots) l m) (append-nil (widths words)) g
ended_fits C then words slots begun ready m (w ∷ ws, h, g) = absurd h

pub step_from : (C : Program) {r q : Frame} {s t : Turn} {a b : Account} → r ≡ q → t ≡ s → IsStep C (Within q) a s b → IsStep C (Within r) a t b
step_from C {r} {q} {s} {t} {a} {b} e f h = subst (λ x. IsStep C (Within x) a t b) (sym e) (subst (λ x. IsStep C (Within q) a x b) (sym f) h)

choose_width : (C : Program) (slots : List ℕ) (a b : Term) (n i : ℕ) → HasWidth C slots a n → HasWidth C slots b n → HasWidth C slots (pick i a b) n
choose_width C slots a b n zero h g = g
choose_width C slots a b n (suc zero) h g = h
choose_width C slots a b n (suc (suc i)) h g = g

choose_nodes : (a b : Term) (i : ℕ) → nodes (pick i a b) ≤ nodes a + nodes b
choose_nodes a b zero = omega arith
choose_nodes a b (suc zero) = omega arith
choose_nodes a b (suc (suc i)) = omega arith

module _ (C : Program) (words slots : List Word) (begun n : ℕ) (acc : Account) where
  pub choose_step : (a b : Term) → IsStep C (Within (ended (Choose a b) words slots begun n)) acc (Enter (choose (slot words 0) a b) slots n) acc
  choose_step a b =
      let few = choose_nodes a b (slot words 0).bits in
      record {
        alike = λ rs out. (ended_in C (Choose a b) words slots begun n acc (Returns C rs out), ended_out C (Choose a b) words slots begun n acc (Returns C rs out));
        fits = λ m h. let g = ended_fits C (Choose a b) words slots begun n m h in choose_width C (widths slots) a b m (slot words 0).bits g.1 g.2;
        early = λ h. h.1;
        account = λ h. h;
        more = omega arith;
        within = λ m h k. h;
        less = omega (arith, few);
      }

  pub bind_step : (b : Term) → IsStep C (Within (ended (Bind b) words slots begun n)) acc (Enter b (slots ++ words) n) acc
  bind_step b =
      record {
        alike = λ rs out. (ended_in C (Bind b) words slots begun n acc (Returns C rs out), ended_out C (Bind b) words slots begun n acc (Returns C rs out));
        fits = λ m h. subst (λ l. HasWidth C l b m) (sym (widths_append slots words)) (ended_fits C (Bind b) words slots begun n m h);
        early = λ h. h.1;
        account = λ h. h;
        more = omega arith;
        within = λ m h k. h;
        less = omega arith;
      }

  pub operate_step : (p : Primitive) → IsStep C (Within (ended (Operate p) words slots begun n)) acc (Leave (apply_prim p words) n) acc
  operate_step p =
      record {
        alike = λ rs out. (ended_in C (Operate p) words slots begun n acc (Returns C rs out), ended_out C (Operate p) words slots begun n acc (Returns C rs out));
        fits = λ m h. apply_width p words m (ended_fits C (Operate p) words slots begun n m h);
        early = λ h. h.1;
        account = λ h. h;
        more = omega arith;
        within = λ m h k. h;
        less = omega arith;
      }

  few_cycles : (is_loop : Bool) → cycles is_loop ≤ 2
  few_cycles true = omega arith
  few_cycles false = omega arith

  few_loops : (is_loop : Bool) → one_if is_loop ≤ 1
  few_loops true = omega arith
  few_loops false = omega arith

  pub apply_step : (f : ℕ) (is_loop : Bool) → ((m : ℕ) → Fits C (Apply f is_loop) (widths slots) (widths words) m → HasWidth C (widths words) (C.body f) m) → nodes (C.body f) ≤ 50000 →
      IsStep C (Within (ended (Apply f is_loop) words slots begun n)) acc (Enter (C.body f) words (n + cycles is_loop)) (booked f is_loop acc)
  apply_step f is_loop body few =
      let two = few_cycles is_loop in
      let one = few_loops is_loop in
      record {
        alike = λ rs out. (ended_in C (Apply f is_loop) words slots begun n acc (Returns C rs out), ended_out C (Apply f is_loop) words slots begun n acc (Returns C rs out));
        fits = λ m h. body m (ended_fits C (Apply f is_loop) words slots begun n m h);
        early = λ h. omega (arith, h.1, two);
        account = λ h. record { loops = omega (arith, h.loops, one); called = length-set acc.called f true ∙ h.called };
        more = omega arith;
        within = λ m h k. omega (arith, k refl);
        less = omega (arith, few);
      }

-- the body of a function fits words of its parameters
pub body_fits : (C : Program) → IsWellFormed C → (words slots : List Word) (f : ℕ) (is_loop : Bool) (m : ℕ) → Fits C
    (Apply f is_loop) (widths slots) (widths words) m → HasWidth C (widths words) (C.body f) m
body_fits C wf words slots f is_loop m h =
    subst (λ l. HasWidth C l (C.body f) m) (sym h.0) (subst (λ k. HasWidth C (C.params f) (C.body f) k) h.1 (wf.widths f h.2))

pub one_word : (words : List Word) → widths words ≡ 1 ∷ [] → 0 < length words
one_word [] e = absurd (cc)
one_word (w ∷ ws) e = omega arith

pub applied_as : (p : Primitive) {us vs : List Word} → us ≡ vs → apply_prim p us ≡ apply_prim p vs
applied_as p e = ap (apply_prim p) e

pub enter_as : (slots : List Word) {t u : Term} {m n : ℕ} → t ≡ u → m ≡ n → Enter t slots m ≡ Enter u slots n
enter_as slots {t} {u} {m} {n} e f = ap (λ x. Enter x slots m) e ∙ ap (λ x. Enter u slots x) f
