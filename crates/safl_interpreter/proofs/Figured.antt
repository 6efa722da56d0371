-- The figures that come out are those of an evaluation of main.
use Rattle.safl_interpreter.proofs.Common.{Figures, HasWidth, IsWellFormed, Program, Word, figures, widths}
use Rattle.std.proofs.Common.{◌≡◌, ℕ, zero, suc, ◌-◌, ◌<◌, ◌≤◌, List, [], ◌∷◌, ◌++◌, length, get_or, Some, Bool, true, false, ⊎_elim, inr, refl, sym, ap, ◌∙◌, subst, arith}
use Rattle.std.specs.Prelude.{slice_get, ◌↔◌, ◌≢◌}
use Rattle.std.proofs.Math.ListN.{replicate}
use Rattle.std.proofs.lemmas.List.{length-append, length-replicate}
use Rattle.safl_term.specs.Meaning.{Main, main_cost, main_calls, loops, calls_to, at_function}
use Rattle.safl_calls.specs.Span.{main_span}
use Rattle.safl_interpreter.specs.Accounts.{Account, opening, counted, ready}
use Rattle.safl_interpreter.specs.Measured.{AreCalled, IsTimed}
use Rattle.safl_interpreter.specs.Rounds.{IsState, Ends}
use Rattle.safl_interpreter.specs.Turns.{Frame, Turn, Enter}
use Rattle.safl_interpreter.specs.declared.evaluation.Timing.{Timing}
use Rattle.safl_interpreter.proofs.Counting.{counted_calls, counted_loops, counted_length, counted_marks, ready_span, Marks, both_marks, at_some, at_none}

-- ---- the beginning

opening_length : (n : ℕ) → 0 < n → length (opening n).called ≡ n
opening_length n some = omega (arith, length-append (replicate (n - 1) false) (true ∷ []), length-replicate (n - 1) false, some)

pub start : (C : Program) (wf : IsWellFormed C) (args : List Word) (budget : ℕ) → widths args ≡ C.params C.main → 1 ≤ budget →
    IsState C [] (Enter (C.body (C.callee 0)) args 2) (opening C.functions) budget
start C wf args budget fit some =
    record {
      width = C.result C.main;
      fits = subst (λ k. HasWidth C (widths args) (C.body k) (C.result C.main)) (sym wf.main) (subst (λ l. HasWidth C l (C.body C.main) (C.result C.main)) (sym fit) (wf.widths C.main wf.main_in));
      fit = tt;
      early = omega arith;
      are_early = tt;
      account = record { loops = omega arith; called = opening_length C.functions (let l = wf.main_in in omega arith) };
      within = some;
    }

pub started : (C : Program) (args : List Word) (budget : ℕ) {rs : List Frame} {s : Turn} {a : Account} →
    rs ≡ [] → s ≡ Enter (C.body (C.callee 0)) args 2 → a ≡ opening C.functions → IsState C [] (Enter (C.body (C.callee 0)) args 2) (opening C.functions) budget →
    ((out : Figures) → Ends C [] (Enter (C.body (C.callee 0)) args 2) (opening C.functions) out ↔ Ends C rs s a out) × IsState C rs s a budget
started C args budget {rs} {s} {a} e f g h =
    let S = Enter (C.body (C.callee 0)) args 2 in
    let A = opening C.functions in
    subst (λ x. ((out : Figures) → Ends C [] S A out ↔ Ends C x s a out) × IsState C x s a budget) (sym e)
    (subst (λ x. ((out : Figures) → Ends C [] S A out ↔ Ends C [] x a out) × IsState C [] x a budget) (sym f)
    (subst (λ x. ((out : Figures) → Ends C [] S A out ↔ Ends C [] S x out) × IsState C [] S x budget) (sym g) (λ out. (λ z. z, λ z. z), h)))

-- ---- the functions that are called

last_mark : (m f : ℕ) → get_or (replicate m false ++ true ∷ []) f false ≡ true → f ≡ m
last_mark zero zero e = refl
last_mark zero (suc f) e = absurd (cc)
last_mark (suc m) zero e = absurd (cc)
last_mark (suc m) (suc f) e = ap suc (last_mark m f e)

mark_last : (m : ℕ) → get_or (replicate m false ++ true ∷ []) m false ≡ true
mark_last zero = refl
mark_last (suc m) = mark_last m

-- before main was called
abbrev nothing : Account
nothing = record { calls = 0; loops = 0; called = [] }

opening_marks : (n f g : ℕ) (args : List Word) → g ≡ n - 1 → Marks f nothing (opening n) (at_function f g args)
opening_marks n f g args e =
    record {
      from = λ h. inr (at_some f g args (e ∙ sym (last_mark (n - 1) f h)));
      kept = λ h. absurd (cc);
      new = λ h. subst (λ k. get_or (replicate (n - 1) false ++ true ∷ []) k false ≡ true) (sym e ∙ at_none f g args h) (mark_last (n - 1));
    }

get_true : (l : List Bool) (f : ℕ) (b : Bool) → slice_get l f ≡ Some b → (f < length l) × (get_or l f false ≡ b)
get_true [] f b e = absurd (cc)
get_true (x ∷ l) zero b e = let q : x ≡ b = cc in (omega arith, q)
get_true (x ∷ l) (suc f) b e = let q = get_true l f b e in (omega (arith, q.0), q.1)

none_if : {A : Type 0} (xs : List A) → (0 < length xs → ⊥) → xs ≡ []
none_if [] h = refl
none_if (x ∷ xs) h = absurd (h (omega arith))

true_false : {A : Type 0} → true ≡ false → A
true_false e = absurd (cc)

not_none : {A : Type 0} (xs : List A) → 0 < length xs → xs ≢ []
not_none xs some e = absurd (omega (arith, some, ap length e))

are_called : (C : Program) (args : List Word) {v : Word} (d : Main C args v) → 0 < C.functions → C.callee 0 ≡ C.functions - 1 → AreCalled C args d (counted C d (opening C.functions)).called
are_called C args d some main =
    let n = C.functions in
    let all : length (counted C d (opening n)).called ≡ n = counted_length C d (opening n) ∙ opening_length n some in
    let marks : (f : ℕ) → f < n → Marks f nothing (counted C d (opening n)) (main_calls C args d f) = λ f lt.
    both_marks f nothing (opening n) _ (at_function f (C.callee 0) args) (calls_to C f d) (opening_marks n f (C.callee 0) args main)
    (counted_marks C f d (opening n) (omega (arith, lt, opening_length n some))) in
    record {
      all = all;
      is_called = λ f e. let q = get_true _ f true e in not_none (main_calls C args d f) (⊎_elim (λ z. true_false (sym z)) (λ l. l) ((marks f (omega (arith, q.0, all))).from q.1));
      is_not = λ f e. let q = get_true _ f false e in none_if (main_calls C args d f) (λ l. true_false (sym ((marks f (omega (arith, q.0, all))).new l) ∙ q.1));
    }

-- ---- the figures

-- the figures of an evaluation that comes to a word
record Packed (C : Program) (args : List Word) (t : Timing) (v : Word) : Type 0 where
  evaluation : Main C args v
  calls : t.calls ≡ main_cost C args evaluation
  loops : t.loops ≡ loops C evaluation
  span : t.span ≡ main_span C args evaluation
  called : AreCalled C args evaluation t.called.items

pub timed : (C : Program) (args : List Word) (t : Timing) {v : Word} (d : Main C args v) → 0 < C.functions → C.callee 0 ≡ C.functions - 1 →
    figures v (ready C d 2) (counted C d (opening C.functions)) ≡ figures t.word t.span (record { calls = t.calls; loops = t.loops; called = t.called.items }) → IsTimed C args t
timed C args t {v} d some main e =
    let calls = ap (λ (x : Figures). x.account.calls) e in
    let loops = ap (λ (x : Figures). x.account.loops) e in
    let time = ap (λ (x : Figures). x.time) e in
    let packed : Packed C args t v = record {
      evaluation = d;
      calls = omega (arith, calls, counted_calls C d (opening C.functions));
      loops = omega (arith, loops, counted_loops C d (opening C.functions));
      span = omega (arith, time, ready_span C d 2);
      called = subst (λ l. AreCalled C args d l) (ap (λ (x : Figures). x.account.called) e) (are_called C args d some main);
    } in
    let q = subst (Packed C args t) (ap (λ (x : Figures). x.word) e) packed in
    record { evaluation = q.evaluation; calls = q.calls; loops = q.loops; span = q.span; called = q.called }
