-- The account of an evaluation, by the meaning of programs.
use Rattle.safl_interpreter.proofs.Common.{Program, Word}
use Rattle.std.proofs.Common.{◌≡◌, ℕ, zero, suc, ◌+◌, ◌<◌, ◌≤◌, List, [], ◌∷◌, ◌++◌, length, get_or, Bool, true, false, cond, ◌⊎◌, inl, inr, ⊎_elim, eq-eqb, refl, sym, ap, ◌∙◌, subst, arith}
use Rattle.std.proofs.lemmas.Bool.{eqb-true}
use Rattle.std.specs.Prelude.{max, set, ◌==◌}
use Rattle.std.proofs.lemmas.List.{length-set, length-append}
use Rattle.safl_term.specs.Terms.{Term, Terms}
use Rattle.safl_term.specs.Meaning.{Gives, gives_const, gives_var, gives_op, gives_if, gives_let, gives_call, gives_loop, GivesAll, gives_nil, gives_cons}
use Rattle.safl_term.specs.Meaning.{cost, costs, loops, loops_all, calls_to, calls_all, at_function}
use Rattle.safl_calls.specs.Span.{span, spans}
use Rattle.safl_interpreter.specs.Accounts.{Account, booked, counted, counted_all, ready, ready_all}

-- ---- calls, tail calls and time

mutual
  pub counted_calls : (C : Program) {env : List Word} {t : Term} {v : Word} (d : Gives C env t v) (a : Account) → (counted C d a).calls ≡ a.calls + cost C d
  counted_calls C gives_const a = omega arith
  counted_calls C gives_var a = omega arith
  counted_calls C (gives_op ds) a = all_counted_calls C ds a
  counted_calls C (gives_if c d) a = omega (arith, counted_calls C c a, counted_calls C d (counted C c a))
  counted_calls C (gives_let ds d) a = omega (arith, all_counted_calls C ds a, counted_calls C d (counted_all C ds a))
  counted_calls C (gives_call {f = f} ds d) a = omega (arith, all_counted_calls C ds a, counted_calls C d (booked f false (counted_all C ds a)))
  counted_calls C (gives_loop {h = h} ds d) a = omega (arith, all_counted_calls C ds a, counted_calls C d (booked h true (counted_all C ds a)))

  all_counted_calls : (C : Program) {env : List Word} {ts : Terms} {vs : List Word} (ds : GivesAll C env ts vs) (a : Account) → (counted_all C ds a).calls ≡ a.calls + costs C ds
  all_counted_calls C gives_nil a = omega arith
  all_counted_calls C (gives_cons d ds) a = omega (arith, counted_calls C d a, all_counted_calls C ds (counted C d a))

mutual
  pub counted_loops : (C : Program) {env : List Word} {t : Term} {v : Word} (d : Gives C env t v) (a : Account) → (counted C d a).loops ≡ a.loops + loops C d
  counted_loops C gives_const a = omega arith
  counted_loops C gives_var a = omega arith
  counted_loops C (gives_op ds) a = all_counted_loops C ds a
  counted_loops C (gives_if c d) a = omega (arith, counted_loops C c a, counted_loops C d (counted C c a))
  counted_loops C (gives_let ds d) a = omega (arith, all_counted_loops C ds a, counted_loops C d (counted_all C ds a))
  counted_loops C (gives_call {f = f} ds d) a = omega (arith, all_counted_loops C ds a, counted_loops C d (booked f false (counted_all C ds a)))
  counted_loops C (gives_loop {h = h} ds d) a = omega (arith, all_counted_loops C ds a, counted_loops C d (booked h true (counted_all C ds a)))

  all_counted_loops : (C : Program) {env : List Word} {ts : Terms} {vs : List Word} (ds : GivesAll C env ts vs) (a : Account) → (counted_all C ds a).loops ≡ a.loops + loops_all C ds
  all_counted_loops C gives_nil a = omega arith
  all_counted_loops C (gives_cons d ds) a = omega (arith, counted_loops C d a, all_counted_loops C ds (counted C d a))

mutual
  pub ready_span : (C : Program) {env : List Word} {t : Term} {v : Word} (d : Gives C env t v) (n : ℕ) → ready C d n ≡ n + span C d
  ready_span C gives_const n = omega arith
  ready_span C gives_var n = omega arith
  ready_span C (gives_op ds) n = omega (arith, ready_spans C ds n n (omega arith))
  ready_span C (gives_if c d) n = omega (arith, ready_span C c n, ready_span C d (max n (ready C c n)))
  ready_span C (gives_let ds d) n = omega (arith, ready_spans C ds n n (omega arith), ready_span C d (ready_all C ds n n))
  ready_span C (gives_call ds d) n = omega (arith, ready_spans C ds n n (omega arith), ready_span C d (ready_all C ds n n + 2))
  ready_span C (gives_loop ds d) n = omega (arith, ready_spans C ds n n (omega arith), ready_span C d (ready_all C ds n n + 1))

  ready_spans : (C : Program) {env : List Word} {ts : Terms} {vs : List Word} (ds : GivesAll C env ts vs) (n m : ℕ) → n ≤ m → ready_all C ds n m ≡ max m (n + spans C ds)
  ready_spans C gives_nil n m le = omega arith
  ready_spans C (gives_cons d ds) n m le = omega (arith, ready_span C d n, ready_spans C ds n (max m (ready C d n)) (omega arith))

-- ---- which functions are called

mutual
  pub counted_length : (C : Program) {env : List Word} {t : Term} {v : Word} (d : Gives C env t v) (a : Account) → length (counted C d a).called ≡ length a.called
  counted_length C gives_const a = refl
  counted_length C gives_var a = refl
  counted_length C (gives_op ds) a = all_counted_length C ds a
  counted_length C (gives_if c d) a = counted_length C d (counted C c a) ∙ counted_length C c a
  counted_length C (gives_let ds d) a = counted_length C d (counted_all C ds a) ∙ all_counted_length C ds a
  counted_length C (gives_call {f = f} ds d) a = counted_length C d (booked f false (counted_all C ds a)) ∙ (length-set (counted_all C ds a).called f true ∙ all_counted_length C ds a)
  counted_length C (gives_loop {h = h} ds d) a = counted_length C d (booked h true (counted_all C ds a)) ∙ (length-set (counted_all C ds a).called h true ∙ all_counted_length C ds a)

  all_counted_length : (C : Program) {env : List Word} {ts : Terms} {vs : List Word} (ds : GivesAll C env ts vs) (a : Account) → length (counted_all C ds a).called ≡ length a.called
  all_counted_length C gives_nil a = refl
  all_counted_length C (gives_cons d ds) a = all_counted_length C ds (counted C d a) ∙ counted_length C d a

-- f is marked
abbrev pub Marked : ℕ → Account → Type 0
Marked f a = get_or a.called f false ≡ true

-- between two accounts, f got these calls
pub record Marks (f : ℕ) (a b : Account) (xs : List (List Word)) : Type 0 where
  pub from : Marked f b → Marked f a ⊎ (0 < length xs)
  pub kept : Marked f a → Marked f b
  pub new : 0 < length xs → Marked f b

no_marks : (f : ℕ) (a : Account) → Marks f a a []
no_marks f a = record { from = λ h. inl h; kept = λ h. h; new = λ h. absurd (omega arith) }

in_two : (xs ys : List (List Word)) → 0 < length (xs ++ ys) → (0 < length xs) ⊎ (0 < length ys)
in_two [] ys h = inr h
in_two (x ∷ xs) ys h = inl (omega arith)

pub both_marks : (f : ℕ) (a b c : Account) (xs ys : List (List Word)) → Marks f a b xs → Marks f b c ys → Marks f a c (xs ++ ys)
both_marks f a b c xs ys g h =
    let all = length-append xs ys in
    record {
      from = λ m. ⊎_elim (λ k. ⊎_elim (λ i. inl i) (λ l. inr (omega (arith, l, all))) (g.from k)) (λ l. inr (omega (arith, l, all))) (h.from m);
      kept = λ m. h.kept (g.kept m);
      new = λ l. ⊎_elim (λ k. h.kept (g.new k)) (λ k. h.new k) (in_two xs ys l);
    }

eqb_same : (f g : ℕ) → f ≡ g → (g == f) ≡ true
eqb_same f g e = eq-eqb g f (sym e)

booked_from : (f g : ℕ) (l : List Bool) → get_or (set l g true) f false ≡ true → (get_or l f false ≡ true) ⊎ (g ≡ f)
booked_from f g [] h = inl h
booked_from zero zero (x ∷ l) h = inr refl
booked_from (suc f) zero (x ∷ l) h = inl h
booked_from zero (suc g) (x ∷ l) h = inl h
booked_from (suc f) (suc g) (x ∷ l) h = ⊎_elim (λ k. inl k) (λ e. inr (ap suc e)) (booked_from f g l h)

booked_kept : (f g : ℕ) (l : List Bool) → get_or l f false ≡ true → get_or (set l g true) f false ≡ true
booked_kept f g [] h = h
booked_kept zero zero (x ∷ l) h = refl
booked_kept (suc f) zero (x ∷ l) h = h
booked_kept zero (suc g) (x ∷ l) h = h
booked_kept (suc f) (suc g) (x ∷ l) h = booked_kept f g l h

booked_new : (f : ℕ) (l : List Bool) → f < length l → get_or (set l f true) f false ≡ true
booked_new f [] h = absurd (omega arith)
booked_new zero (x ∷ l) h = refl
booked_new (suc f) (x ∷ l) h = booked_new f l (omega arith)

pub at_some : (f g : ℕ) (us : List Word) → g ≡ f → 0 < length (at_function f g us)
at_some f g us e = subst (λ (b : Bool). 0 < length (cond b (us ∷ []) [])) (sym (eqb_same f g (sym e))) (omega arith)

pub at_none : (f g : ℕ) (us : List Word) → 0 < length (at_function f g us) → g ≡ f
at_none f g us h = from (g == f) refl h
  where
    from : (b : Bool) → (g == f) ≡ b → 0 < length (cond b (us ∷ []) []) → g ≡ f
    from true e l = eqb-true g f e
    from false e l = absurd (omega arith)

book_marks : (f g : ℕ) (is_loop : Bool) (us : List Word) (a : Account) → f < length a.called → Marks f a (booked g is_loop a) (at_function f g us)
book_marks f g is_loop us a lt =
    record {
      from = λ h. ⊎_elim (λ k. inl k) (λ e. inr (at_some f g us e)) (booked_from f g a.called h);
      kept = λ h. booked_kept f g a.called h;
      new = λ h. subst (λ k. get_or (set a.called k true) f false ≡ true) (sym (at_none f g us h)) (booked_new f a.called lt);
    }

-- the arguments, the call and its body
apply_marks : (f g : ℕ) (is_loop : Bool) (us : List Word) (a b c : Account) (xs ys : List (List Word)) → f < length a.called → length b.called ≡ length a.called → Marks f a b xs →
    (f < length (booked g is_loop b).called → Marks f (booked g is_loop b) c ys) → Marks f a c (xs ++ (at_function f g us ++ ys))
apply_marks f g is_loop us a b c xs ys lt same h k =
    let lb : f < length b.called = omega (arith, lt, same) in
    let lc : f < length (booked g is_loop b).called = omega (arith, lb, length-set b.called g true) in
    both_marks f a b c xs (at_function f g us ++ ys) h (both_marks f b (booked g is_loop b) c (at_function f g us) ys (book_marks f g is_loop us b lb) (k lc))

mutual
  pub counted_marks : (C : Program) (f : ℕ) {env : List Word} {t : Term} {v : Word} (d : Gives C env t v) (a : Account) → f < length a.called → Marks f a (counted C d a) (calls_to C f d)
  counted_marks C f gives_const a lt = no_marks f a
  counted_marks C f gives_var a lt = no_marks f a
  counted_marks C f (gives_op ds) a lt = all_counted_marks C f ds a lt
  counted_marks C f (gives_if c d) a lt =
      both_marks f a (counted C c a) _ (calls_to C f c) (calls_to C f d) (counted_marks C f c a lt) (counted_marks C f d (counted C c a) (omega (arith, lt, counted_length C c a)))
  counted_marks C f (gives_let ds d) a lt =
      both_marks f a (counted_all C ds a) _ (calls_all C f ds) (calls_to C f d) (all_counted_marks C f ds a lt)
      (counted_marks C f d (counted_all C ds a) (omega (arith, lt, all_counted_length C ds a)))
  counted_marks C f (gives_call {f = g} {us = us} ds d) a lt =
      apply_marks f g false us a (counted_all C ds a) _ (calls_all C f ds) (calls_to C f d) lt (all_counted_length C ds a)
      (all_counted_marks C f ds a lt) (λ l. counted_marks C f d (booked g false (counted_all C ds a)) l)
  counted_marks C f (gives_loop {h = g} {us = us} ds d) a lt =
      apply_marks f g true us a (counted_all C ds a) _ (calls_all C f ds) (calls_to C f d) lt (all_counted_length C ds a)
      (all_counted_marks C f ds a lt) (λ l. counted_marks C f d (booked g true (counted_all C ds a)) l)

  all_counted_marks : (C : Program) (f : ℕ) {env : List Word} {ts : Terms} {vs : List Word} (ds : GivesAll C env ts vs)
      (a : Account) → f < length a.called → Marks f a (counted_all C ds a) (calls_all C f ds)
  all_counted_marks C f gives_nil a lt = no_marks f a
  all_counted_marks C f (gives_cons d ds) a lt =
      both_marks f a (counted C d a) _ (calls_to C f d) (calls_all C f ds) (counted_marks C f d a lt) (all_counted_marks C f ds (counted C d a) (omega (arith, lt, counted_length C d a)))
