-- A round leads from a state to one that comes to the same figures.
use Rattle.safl_interpreter.proofs.Common.{Program, Word, choose, shown_terms, slot, widths, widths_append}
use Rattle.std.proofs.Common.{◌≡◌, ℕ, ◌*◌, ◌<◌, ◌≤◌, List, [], ◌∷◌, ◌++◌, length, true, false, append_assoc, refl, sym, ap, ◌∙◌, subst, arith}
use Rattle.std.specs.Prelude.{max}
use Rattle.safl_term.specs.Terms.{Term, Terms, Nil, Cons}
use Rattle.safl_term.specs.Meaning.{Gives, gives_const, gives_var, gives_op, gives_if, gives_let, gives_call, gives_loop, GivesAll, gives_nil, gives_cons}
use Rattle.safl_interpreter.specs.Accounts.{Account, booked, counted, counted_all, ready, ready_all}
use Rattle.safl_interpreter.specs.Turns.{Then, Choose, Bind, Operate, Apply, Frame, Turn, Enter, Within, Leave, with_word, applies, shown_frame}
use Rattle.safl_interpreter.specs.Comes.{Returns, Figures, figures, Evaluates, Finishes}
use Rattle.safl_interpreter.specs.Sound.{Fits, FitsFrame, FitsTurn, FitFrames, IsStep, CanFinish, AreEarly, may_call}
use Rattle.safl_interpreter.specs.Rounds.{IsState, IsNext, Ends, shown_stack}
use Rattle.safl_interpreter.specs.declared.frame.Frame as declared
use Rattle.safl_term.specs.declared.term.Term as term
use Rattle.safl_interpreter.proofs.Finishing.{ended, ended_in}

-- ---- a step

pub still_early : (m n : ℕ) → m ≤ n → (rs : List Frame) → AreEarly m rs → AreEarly n rs
still_early m n le [] h = tt
still_early m n le (r ∷ rs) h = (omega (arith, h.0), omega (arith, h.1), still_early m n le rs h.2)

pub next_of_step : (C : Program) (rs : List Frame) (s t : Turn) (a b : Account) (budget : ℕ) → IsState C rs s a budget → IsStep C s a t b →
    (may_call s ≡ true → a.calls < budget) → IsNext C rs s a rs t b budget
next_of_step C rs s t a b budget h step room =
    record {
      alike = λ out. step.alike rs out;
      state = record {
        width = h.width;
        fits = step.fits h.width h.fits;
        fit = h.fit;
        early = step.early h.early;
        are_early = still_early (2 * a.calls) (2 * b.calls) (let m = step.more in omega arith) rs h.are_early;
        account = step.account h.account;
        within = step.within budget h.within room;
      };
      less = let l = step.less in omega arith;
    }

-- ---- a word goes to the frame on top

pub next_of_word : (C : Program) (r : Frame) (rs : List Frame) (v : Word) (n : ℕ) (a : Account) (budget : ℕ) →
    IsState C (r ∷ rs) (Leave v n) a budget → IsNext C (r ∷ rs) (Leave v n) a rs (Within (with_word r v n)) a budget
next_of_word C r rs v n a budget h =
    let fit = h.fit in
    let same : widths r.words ++ h.width ∷ [] ≡ widths (r.words ++ v ∷ []) = ap (λ k. widths r.words ++ k ∷ []) (sym h.fits) ∙ sym (widths_append r.words (v ∷ [])) in
    record {
      alike = λ out. (λ x. x, λ x. x);
      state = record {
        width = fit.0;
        fits = subst (λ l. FitsFrame C r l fit.0) same fit.1;
        fit = fit.2;
        early = (h.are_early.0, omega (arith, h.are_early.1, h.early));
        are_early = h.are_early.2;
        account = h.account;
        within = h.within;
      };
      less = omega arith;
    }

-- ---- the first of the parts

-- a frame with these parts left
abbrev pub going : Then → Terms → List Word → List Word → ℕ → ℕ → Frame
going then ts words slots begun n = record { then = then; rest = ts; words = words; slots = slots; begun = begun; ready = n }

module _ (C : Program) (then : Then) (t : Term) (ts : Terms) (words slots : List Word) (begun n : ℕ) (a : Account) (rs : List Frame) (out : Figures) where
  part_in : Ends C rs (Within (going then (Cons t ts) words slots begun n)) a out → Ends C (going then ts words slots begun n ∷ rs) (Enter t slots begun) a out
  part_in (us, gives_cons {v = v} {vs = vs} d ds, h) = (
    v,
    d,
    (
      vs,
      ds,
      subst (λ l. Finishes C then slots l (ready_all C ds begun (max n (ready C d begun))) (counted_all C ds (counted C d a)) (Returns C rs out))
          (sym (append_assoc words (v ∷ []) vs)) h,
    ),
  )

  part_out : Ends C (going then ts words slots begun n ∷ rs) (Enter t slots begun) a out → Ends C rs (Within (going then (Cons t ts) words slots begun n)) a out
  part_out (v, d, (vs, ds, h)) = (
    v ∷ vs,
    gives_cons d ds,
    subst (λ l. Finishes C then slots l (ready_all C ds begun (max n (ready C d begun))) (counted_all C ds (counted C d a)) (Returns C rs out))
        (append_assoc words (v ∷ []) vs) h,
  )

part_fits : (C : Program) (then : Then) (t : Term) (ts : Terms) (words slots : List Word) (begun n : ℕ) (rs : List Frame) (m : ℕ) →
    FitsTurn C (Within (going then (Cons t ts) words slots begun n)) m → FitFrames C rs m → (k : ℕ) × FitsTurn C (Enter t slots begun) k × FitFrames C (going then ts words slots begun n ∷ rs) k
part_fits C then t ts words slots begun n rs m ([], h, f) g = absurd h
part_fits C then t ts words slots begun n rs m (w ∷ ws, h, f) g =
    (w, h.0, (m, (ws, h.1, subst (λ l. Fits C then (widths slots) l m) (sym (append_assoc (widths words) (w ∷ []) ws)) f), g))

pub next_of_part : (C : Program) (then : Then) (t : Term) (ts : Terms) (words slots : List Word) (begun n : ℕ) (rs : List Frame) (a : Account) (budget : ℕ) →
    IsState C rs (Within (going then (Cons t ts) words slots begun n)) a budget →
    IsNext C rs (Within (going then (Cons t ts) words slots begun n)) a (going then ts words slots begun n ∷ rs) (Enter t slots begun) a budget
next_of_part C then t ts words slots begun n rs a budget h =
    let f = part_fits C then t ts words slots begun n rs h.width h.fits h.fit in
    record {
      alike = λ out. (part_in C then t ts words slots begun n a rs out, part_out C then t ts words slots begun n a rs out);
      state = record {
        width = f.0;
        fits = f.1;
        fit = f.2;
        early = h.early.0;
        are_early = (h.early.0, h.early.1, h.are_early);
        account = h.account;
        within = h.within;
      };
      less = omega arith;
    }

-- ---- more calls than those of the budget

mutual
  pub counted_more : (C : Program) {env : List Word} {t : Term} {v : Word} (d : Gives C env t v) (a : Account) → a.calls ≤ (counted C d a).calls
  counted_more C gives_const a = omega arith
  counted_more C gives_var a = omega arith
  counted_more C (gives_op ds) a = all_counted_more C ds a
  counted_more C (gives_if c d) a = omega (arith, counted_more C c a, counted_more C d (counted C c a))
  counted_more C (gives_let ds d) a = omega (arith, all_counted_more C ds a, counted_more C d (counted_all C ds a))
  counted_more C (gives_call {f = f} ds d) a = omega (arith, all_counted_more C ds a, counted_more C d (booked f false (counted_all C ds a)))
  counted_more C (gives_loop {h = h} ds d) a = omega (arith, all_counted_more C ds a, counted_more C d (booked h true (counted_all C ds a)))

  pub all_counted_more : (C : Program) {env : List Word} {ts : Terms} {vs : List Word} (ds : GivesAll C env ts vs) (a : Account) → a.calls ≤ (counted_all C ds a).calls
  all_counted_more C gives_nil a = omega arith
  all_counted_more C (gives_cons d ds) a = omega (arith, counted_more C d a, all_counted_more C ds (counted C d a))

-- no calls are lost on the way to the figures
abbrev Keeps : (Figures → Type 0) → Figures → Type 0
Keeps P out = (x : Figures) → P x → x.account.calls ≤ out.account.calls

evaluates_more : (C : Program) (env : List Word) (t : Term) (n : ℕ) (a : Account) (P : Figures → Type 0) (out : Figures) → Keeps P out → Evaluates C env t n a P → a.calls ≤ out.account.calls
evaluates_more C env t n a P out keeps (v, d, h) = omega (arith, counted_more C d a, keeps (figures v (ready C d n) (counted C d a)) h)

finishes_more : (C : Program) (then : Then) (env vs : List Word) (n : ℕ) (a : Account) (P : Figures → Type 0) (out : Figures) → Keeps P out → Finishes C then env vs n a P → a.calls ≤ out.account.calls
finishes_more C (Choose x y) env vs n a P out keeps h = evaluates_more C env (choose (slot vs 0) x y) n a P out keeps h
finishes_more C (Bind b) env vs n a P out keeps h = evaluates_more C (env ++ vs) b n a P out keeps h
finishes_more C (Operate p) env vs n a P out keeps h = keeps _ h
finishes_more C (Apply f is_loop) env vs n a P out keeps h = let e = evaluates_more C vs (C.body f) _ (booked f is_loop a) P out keeps h in omega arith

returns_more : (C : Program) (rs : List Frame) (out : Figures) → Keeps (Returns C rs out) out
returns_more C [] out x h = let e = ap (λ (z : Figures). z.account.calls) h in omega arith
returns_more C (r ∷ rs) out x (us, ds, h) =
    let e = finishes_more C r.then r.slots ((r.words ++ x.word ∷ []) ++ us) _ _ (Returns C rs out) out (returns_more C rs out) h in
    omega (arith, e, all_counted_more C ds x.account)

pub spent : (C : Program) (rs : List Frame) (then : Then) (words slots : List Word) (begun n : ℕ) (a : Account) (budget : ℕ) → applies then ≡ true → a.calls ≡ budget →
    (out : Figures) → Ends C rs (Within (ended then words slots begun n)) a out → budget < out.account.calls
spent C rs (Choose x y) words slots begun n a budget e q out h = absurd (cc)
spent C rs (Bind b) words slots begun n a budget e q out h = absurd (cc)
spent C rs (Operate p) words slots begun n a budget e q out h = absurd (cc)
spent C rs (Apply f is_loop) words slots begun n a budget e q out h =
    let g = ended_in C (Apply f is_loop) words slots begun n a (Returns C rs out) h in
    let more = evaluates_more C words (C.body f) _ (booked f is_loop a) (Returns C rs out) out (returns_more C rs out) g in
    omega (arith, more, q)

-- ---- the stack

pub stack_top : (rs : List declared.Frame) (r : declared.Frame) → shown_stack (rs ++ r ∷ []) ≡ shown_frame r ∷ shown_stack rs
stack_top [] r = refl
stack_top (x ∷ xs) r = ap (λ l. l ++ shown_frame x ∷ []) (stack_top xs r)

-- a round under other names
pub next_as : (C : Program) {rs ps : List Frame} {s r : Turn} {a : Account} {qs os : List Frame} {t u : Turn} {b : Account} {budget : ℕ} →
    rs ≡ ps → s ≡ r → qs ≡ os → t ≡ u → IsNext C ps r a os u b budget → IsNext C rs s a qs t b budget
next_as C {rs} {ps} {s} {r} {a} {qs} {os} {t} {u} {b} {budget} e f g k h =
    subst (λ x. IsNext C x s a qs t b budget) (sym e)
    (subst (λ x. IsNext C ps x a qs t b budget) (sym f) (subst (λ x. IsNext C ps r a x t b budget) (sym g) (subst (λ x. IsNext C ps r a os x b budget) (sym k) h)))

pub no_call : {A : Type 0} → false ≡ true → A
no_call e = absurd (cc)

pub can_finish : (C : Program) (rs : List Frame) (r : Frame) (a : Account) (budget : ℕ) → IsState C rs (Within r) a budget → r.rest ≡ Nil →
    budget ≤ 4294967295 → (applies r.then ≡ true → a.calls < budget) → CanFinish C r a
can_finish C rs r a budget h e most room =
    record {
      ended = e;
      width = h.width;
      fits = h.fits;
      account = h.account;
      room = λ q. let l = room q in omega arith;
      early = h.early.1;
    }

pub no_parts : (ts : List term.Term) → length ts ≡ 0 → shown_terms ts ≡ Nil
no_parts [] e = refl
no_parts (t ∷ ts) e = absurd (omega (arith, e))

pub below : (m n : ℕ) → m ≤ n → (m ≡ n → ⊥) → m < n
below m n le ne = omega (arith, le, ne)
