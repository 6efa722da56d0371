-- Two runs whose public arguments are equal have the same control.
use Rattle.safl_circuit.proofs.Common.{Choice, IsWellFormed, Numbered, Program, Word, first_cong, numbered, some_none, unit_for}
use Rattle.std.proofs.Common.{◌≡◌, ℕ, zero, suc, ◌<◌, List, Option, Some, None, Bool, true, false, cond, not, ◌&&◌, ◌||◌, ◌==◌, nat_le, is_some}
use Rattle.std.proofs.Common.{refl, sym, ap, ◌∙◌, subst, inl, inr, ◌⊎◌, arith}
use Rattle.std.specs.Option.{option_or}
use Rattle.std.proofs.lemmas.Bool.{leb-true, eqb-true, and_parts, and_right, false≢true}
use Rattle.safl_circuit.specs.Blind.{IsLabelling, SameControl, ControlIsBlind}
use Rattle.safl_circuit.specs.Equations.{Registers, Inputs, ret, many, path, on_wires, word_on, body_says, body_wants, want, wants_at, go}
use Rattle.safl_circuit.specs.Equations.{go_words, goes_to, loop_from, loop_words, end_word, ends, taken_loop, starts, loads, clears, starts_it, starts_other, next}
use Rattle.safl_circuit.specs.Steps.{input_at, registers_at}
use Rattle.safl_circuit.proofs.Awake.{either, not_cleared, Begins, awake, at_started, at_left, path_before}
use Rattle.safl_circuit.proofs.Searched.{end_in, loop_in, go_in, load_in, if_other}
use Rattle.safl_calls.proofs.Labelled.{ListsAlike, WordsAlike, AnswersAlike, BacksAlike, lists_some, words_some, lists_or, lists_if, words_if, first_lists, first_words, lists_unwrap, words_unwrap}
use Rattle.safl_calls.proofs.Labelled.{word_alike, answers_alike, wants_alike}
use Rattle.safl_calls.specs.Labels.{Labels, Alike}
use Rattle.safl_calls.specs.Picks.{first}
use Rattle.safl_term.specs.Readiness.{Answer, Ready, LoopTo, NotYet, answer, wanted}

-- The two have the same control, and words that are equal where they are public and count: the arguments of a body that has its path,
-- the result of a unit that has just finished or whose word a site has got, and the kept word of a site that has got it.
record Low (C : Program) (L : Labels) (r q : Registers) : Type 0 where
  control : SameControl C r q
  arg : (f : ℕ) → f < C.functions → path C r f ≡ true → Alike (L.params f) (r.arg f) (q.arg f)
  res : (f : ℕ) → L.result f ≡ true → r.fin (C.unit f) ≡ true → r.res (C.unit f) ≡ q.res (C.unit f)
  seen : (k : ℕ) → L.result (C.callee (suc k)) ≡ true → r.got (suc k) ≡ true → r.res (unit_for C (suc k)) ≡ q.res (unit_for C (suc k))
  keep : (k : ℕ) → L.result (C.callee (suc k)) ≡ true → r.got (suc k) ≡ true → r.keep (suc k) ≡ q.keep (suc k)

-- and so have the inputs
record LowInputs (C : Program) (L : Labels) (i j : Inputs) : Type 0 where
  start : i.start ≡ j.start
  words : i.start ≡ true → Alike (L.params C.main) i.words j.words

answers_if : (L : Labels) (m a b : Bool) (x y : Answer) → a ≡ b → (a ≡ true → AnswersAlike L m x y) → AnswersAlike L m (cond a x NotYet) (cond b y NotYet)
answers_if L m true true x y e h = h refl
answers_if L m false false x y e h = tt
answers_if L m true false x y e h = absurd (false≢true (sym e))
answers_if L m false true x y e h = absurd (false≢true e)

goes_alike : (L : Labels) (b : Bool) (h : ℕ) (x y : Answer) → AnswersAlike L b x y → ListsAlike (L.params h) (goes_to h x) (goes_to h y)
goes_alike L b h (Ready v) (Ready w) e = tt
goes_alike L b h (Ready v) (LoopTo g ws) e = absurd e
goes_alike L b h (Ready v) NotYet e = absurd e
goes_alike L b h (LoopTo g vs) (Ready w) e = absurd e
goes_alike L b h (LoopTo g vs) (LoopTo g' ws) e =
    lists_if (L.params h) (g == h) (g' == h) (Some vs) (Some ws) (ap (λ n. n == h) e.0) (λ up. subst (λ n. Alike (L.params n) vs ws) (eqb-true g h up) e.1)
goes_alike L b h (LoopTo g vs) NotYet e = absurd e
goes_alike L b h NotYet (Ready w) e = absurd e
goes_alike L b h NotYet (LoopTo g ws) e = absurd e
goes_alike L b h NotYet NotYet e = tt

words_any : (b : Bool) (o p : Option Word) → WordsAlike b o p → WordsAlike false o p
words_any b None None h = tt
words_any b None (Some w) h = absurd h
words_any b (Some v) None h = absurd h
words_any b (Some v) (Some w) h = λ z. absurd (false≢true z)

module _ (C : Program) (P : Choice) (wf : IsWellFormed C) (L : Labels) (lab : IsLabelling C L) (i j : Inputs) (ins : LowInputs C L i j) (r q : Registers) (low : Low C L r q) where
  good : Numbered C
  good = numbered C wf

  same : SameControl C r q
  same = low.control

  ret_same : (k : ℕ) → ret C r k ≡ ret C q k
  ret_same zero = same.fin (C.unit C.main)
  ret_same (suc k) = rw (same.fin (unit_for C (suc k)), same.sent (suc k) (omega arith), same.got (suc k) (omega arith)) refl

  path_same : (f : ℕ) → f < C.functions → path C r f ≡ path C q f
  path_same f lt = by (r.run (C.unit f)) refl
    where
      off : (x : Registers) → x.run (C.unit f) ≡ false → path C x f ≡ false
      off x is = ap (λ b. b && (not (many C f) || x.at f)) is

      at_same : r.run (C.unit f) ≡ true → (b : Bool) → many C f ≡ b → (not b || r.at f) ≡ (not b || q.at f)
      at_same on true is = same.at f lt is on
      at_same on false is = refl

      by : (b : Bool) → r.run (C.unit f) ≡ b → path C r f ≡ path C q f
      by true on = ap (λ b. b && (not (many C f) || r.at f)) (same.run (C.unit f)) ∙ ap (λ b. q.run (C.unit f) && b) (at_same on (many C f) refl)
      by false is = off r is ∙ sym (off q (sym (same.run (C.unit f)) ∙ is))

  ret_ends : (k : ℕ) → ret C r (suc k) ≡ true → r.fin (unit_for C (suc k)) ≡ true
  ret_ends k now = (and_parts _ _ now).0

  -- a site that gets its word now shows that of its unit
  now_shown : (x : Registers) (k : ℕ) → ret C x (suc k) ≡ true → word_on C P x (suc k) ≡ x.res (unit_for C (suc k))
  now_shown x k now =
      ap (λ b. cond (P.kept (suc k) && not b) (x.keep (suc k)) (x.res (unit_for C (suc k)))) now
      ∙ ap (λ b. cond b (x.keep (suc k)) (x.res (unit_for C (suc k)))) (and_right (P.kept (suc k)) false refl)

  word_low : (k : ℕ) → L.result (C.callee (suc k)) ≡ true → (r.got (suc k) || ret C r (suc k)) ≡ true → word_on C P r (suc k) ≡ word_on C P q (suc k)
  word_low k up shown = by (either _ _ shown)
    where
      by : (r.got (suc k) ≡ true) ⊎ (ret C r (suc k) ≡ true) → word_on C P r (suc k) ≡ word_on C P q (suc k)
      by (inl got) =
          ap (λ b. cond (P.kept (suc k) && not b) (r.keep (suc k)) (r.res (unit_for C (suc k)))) (ret_same (suc k))
          ∙ ap (λ w. cond (P.kept (suc k) && not (ret C q (suc k))) w (r.res (unit_for C (suc k)))) (low.keep k up got)
          ∙ ap (cond (P.kept (suc k) && not (ret C q (suc k))) (q.keep (suc k))) (low.seen k up got)
      by (inr now) =
          now_shown r k now ∙ low.res (C.callee (suc k)) up (ret_ends k now) ∙ sym (now_shown q k (sym (ret_same (suc k)) ∙ now))

  backs : BacksAlike C L (on_wires C P r) (on_wires C P q)
  backs zero = tt
  backs (suc k) =
      words_if (L.result (C.callee (suc k))) (r.got (suc k) || ret C r (suc k)) (q.got (suc k) || ret C q (suc k))
      (Some (word_on C P r (suc k))) (Some (word_on C P q (suc k)))
      (ap (λ b. b || ret C r (suc k)) (same.got (suc k) (omega arith)) ∙ ap (λ b. q.got (suc k) || b) (ret_same (suc k))) (λ shown up. word_low k up shown)

  says_low : (f : ℕ) → f < C.functions → AnswersAlike L (L.result f) (body_says C P r f) (body_says C P q f)
  unfolding body_says
  says_low f lt =
      let b = wf.numbered.bodies f in
      answers_if L (L.result f) (path C r f) (path C q f) (answer (on_wires C P r) (r.arg f) (C.body f)) (answer (on_wires C P q) (q.arg f) (C.body f)) (path_same f lt)
      (λ up. answers_alike C L (on_wires C P r) (on_wires C P q) backs f (L.params f) (r.arg f) (q.arg f) (L.result f) true b.0 b.1 (low.arg f lt up) (lab.keeps f) b.3)

  wants_low : (k : ℕ) → ListsAlike (L.params (C.callee (suc k))) (body_wants C P r (suc k)) (body_wants C P q (suc k))
  unfolding body_wants
  wants_low k =
      let f = C.caller (suc k) in
      let b = wf.numbered.bodies f in
      let ls = L.params (C.callee (suc k)) in
      let x = wanted (on_wires C P r) (r.arg f) (C.body f) (suc k) in
      let y = wanted (on_wires C P q) (q.arg f) (C.body f) (suc k) in
      lists_if ls (not (r.sent (suc k)) && nat_le (suc k) C.sites) (not (q.sent (suc k)) && nat_le (suc k) C.sites) (cond (path C r f) x None) (cond (path C q f) y None)
      (ap (λ b. not b && nat_le (suc k) C.sites) (same.sent (suc k) (omega arith)))
      (λ h.
      let lt = good.caller_in (suc k) (omega arith) (leb-true (suc k) C.sites (and_parts _ _ h).1) in
      lists_if ls (path C r f) (path C q f) x y (path_same f lt)
      (λ up. wants_alike C L (on_wires C P r) (on_wires C P q) backs f (suc k) (L.params f) (r.arg f) (q.arg f) (L.result f) true b.0 b.1 (low.arg f lt up) (lab.keeps f) b.3))

  want_same : (k : ℕ) → want C P r (suc k) ≡ want C P q (suc k)
  want_same k = lists_some (L.params (C.callee (suc k))) (body_wants C P r (suc k)) (body_wants C P q (suc k)) (wants_low k)

  wants_at_same : (u k : ℕ) → wants_at C P r u k ≡ wants_at C P q u k
  wants_at_same u zero = refl
  wants_at_same u (suc k) = ap (λ b. cond (unit_for C (suc k) == u && b) (Some (suc k)) None) (want_same k)

  go_same : (k : ℕ) → go C P r i k ≡ go C P q j k
  unfolding go
  go_same zero = ap (λ b. b && not (r.run (C.unit C.main))) ins.start ∙ ap (λ b. j.start && not b) (same.run (C.unit C.main))
  go_same (suc k) =
      let w = unit_for C (suc k) in
      ap (λ b. cond (P.arbiter w) (b && (not (r.run w) && not (is_some (first (wants_at C P r w) (suc k))))) b) (want_same k)
      ∙ ap (λ b. cond (P.arbiter w) (want C P q (suc k) && (not b && not (is_some (first (wants_at C P r w) (suc k))))) (want C P q (suc k))) (same.run w)
      ∙ ap (λ o. cond (P.arbiter w) (want C P q (suc k) && (not (q.run w) && not (is_some o))) (want C P q (suc k)))
      (first_cong (wants_at C P r w) (wants_at C P q w) (suc k) (λ n lt. wants_at_same w n))

  go_starts : go C P r i 0 ≡ true → i.start ≡ true
  unfolding go
  go_starts up = (and_parts _ _ up).0

  go_words_low : (k : ℕ) → ListsAlike (L.params (C.callee k)) (go_words C P r i k) (go_words C P q j k)
  go_words_low zero =
      lists_if (L.params (C.callee 0)) (go C P r i 0) (go C P q j 0) (Some i.words) (Some j.words) (go_same 0)
      (λ up. subst (λ f. Alike (L.params f) i.words j.words) (sym good.outside) (ins.words (go_starts up)))
  go_words_low (suc k) =
      lists_if (L.params (C.callee (suc k))) (go C P r i (suc k)) (go C P q j (suc k)) (body_wants C P r (suc k)) (body_wants C P q (suc k)) (go_same (suc k)) (λ up. wants_low k)

  loop_words_low : (h : ℕ) → ListsAlike (L.params h) (loop_words C P r h) (loop_words C P q h)
  loop_words_low h = first_lists (L.params h) (loop_from C P r h) (loop_from C P q h) C.functions
      (λ g lt. lists_if (L.params h) (C.unit g == C.unit h) (C.unit g == C.unit h) (goes_to h (body_says C P r g)) (goes_to h (body_says C P q g)) refl
      (λ up. goes_alike L (L.result g) h (body_says C P r g) (body_says C P q g) (says_low g lt)))

  loop_some : (h : ℕ) → is_some (loop_words C P r h) ≡ is_some (loop_words C P q h)
  loop_some h = lists_some (L.params h) (loop_words C P r h) (loop_words C P q h) (loop_words_low h)

  loads_low : (f : ℕ) → ListsAlike (L.params f) (loads C P r i f) (loads C P q j f)
  unfolding loads
  loads_low f = first_lists (L.params f) (load_in C P r i f) (load_in C P q j f) (suc C.sites)
      (λ k lt. lists_if (L.params f) (C.callee k == f) (C.callee k == f) (go_words C P r i k) (go_words C P q j k) refl
      (λ up. subst (λ g. ListsAlike (L.params g) (go_words C P r i k) (go_words C P q j k)) (eqb-true (C.callee k) f up) (go_words_low k)))

  loads_some : (f : ℕ) → is_some (loads C P r i f) ≡ is_some (loads C P q j f)
  loads_some f = lists_some (L.params f) (loads C P r i f) (loads C P q j f) (loads_low f)

  ends_low : (f : ℕ) → WordsAlike (L.result f) (ends C P r (C.unit f)) (ends C P q (C.unit f))
  unfolding ends
  ends_low f = first_words (L.result f) (end_in C P r (C.unit f)) (end_in C P q (C.unit f)) C.functions
      (λ g lt. words_if (L.result f) (C.unit g == C.unit f) (C.unit g == C.unit f) (end_word C P r g) (end_word C P q g) refl
      (λ up. subst (λ b. WordsAlike b (end_word C P r g) (end_word C P q g)) (lab.grouped g f (eqb-true (C.unit g) (C.unit f) up))
      (word_alike L (L.result g) (body_says C P r g) (body_says C P q g) (says_low g lt))))

  ends_some : (u : ℕ) → is_some (ends C P r u) ≡ is_some (ends C P q u)
  unfolding ends
  ends_some u = words_some false (first (end_in C P r u) C.functions) (first (end_in C P q u) C.functions)
      (first_words false (end_in C P r u) (end_in C P q u) C.functions
      (λ g lt. words_if false (C.unit g == u) (C.unit g == u) (end_word C P r g) (end_word C P q g) refl
      (λ up. words_any (L.result g) (end_word C P r g) (end_word C P q g) (word_alike L (L.result g) (body_says C P r g) (body_says C P q g) (says_low g lt)))))

  loops_same : (u : ℕ) → taken_loop C P r u ≡ taken_loop C P q u
  unfolding taken_loop
  loops_same u = first_cong (loop_in C P r u) (loop_in C P q u) C.functions (λ h lt. ap (λ b. cond (C.unit h == u && b) (Some h) None) (loop_some h))

  starts_same : (u : ℕ) → starts C P r i u ≡ starts C P q j u
  unfolding starts
  starts_same u = first_cong (go_in C P r i u) (go_in C P q j u) (suc C.sites) (λ k lt. ap (λ b. cond (unit_for C k == u && b) (Some k) None) (go_same k))

  clears_same : (u : ℕ) → clears C P r u ≡ clears C P q u
  clears_same u = ap (λ b. b || is_some (taken_loop C P r u)) (ends_some u) ∙ ap (λ o. is_some (ends C P q u) || is_some o) (loops_same u)

  starts_it_same : (f : ℕ) → starts_it C P r i f ≡ starts_it C P q j f
  starts_it_same f = ap (λ b. b || is_some (loop_words C P r f)) (loads_some f) ∙ ap (λ b. is_some (loads C P q j f) || b) (loop_some f)

  starts_other_same : (f : ℕ) → starts_other C P r i f ≡ starts_other C P q j f
  starts_other_same f = ap is_some (first_cong (if_other C P r i f) (if_other C P q j f) C.functions
      (λ g lt. ap (λ b. cond (C.unit g == C.unit f && (not (g == f) && b)) (Some g) None) (starts_it_same g)))

  at_low : (f : ℕ) → f < C.functions → many C f ≡ true → (next C P i r).run (C.unit f) ≡ true → (next C P i r).at f ≡ (next C P j q).at f
  unfolding next
  at_low f lt is up = by (awake C P good i r f up)
    where
      by : (r.run (C.unit f) ≡ true) ⊎ Begins C P good i r f → (next C P i r).at f ≡ (next C P j q).at f
      by (inl on) = rw (starts_other_same f, same.at f lt is on, starts_it_same f) refl
      by (inr (inl it)) =
          at_started C P good i r f it
          ∙ ap (λ b. cond b false true) (starts_other_same f)
          ∙ sym (at_started C P good j q f (sym (starts_it_same f) ∙ it))
      by (inr (inr other)) = at_left C P good i r f other ∙ sym (at_left C P good j q f (sym (starts_other_same f) ∙ other))

  arg_low : (f : ℕ) → f < C.functions → path C (next C P i r) f ≡ true → Alike (L.params f) ((next C P i r).arg f) ((next C P j q).arg f)
  unfolding next
  arg_low f lt up =
      lists_unwrap (L.params f) (new r i) (new q j) (r.arg f) (q.arg f)
      (lists_or (L.params f) (loads C P r i f) (loads C P q j f) (loop_words C P r f) (loop_words C P q f) (loads_low f) (loop_words_low f))
      (λ none. low.arg f lt (path_before C P good i r f (off (loads C P r i f) (loop_words C P r f) none) up))
    where
      new : Registers → Inputs → Option (List Word)
      new x h = option_or (loads C P x h f) (loop_words C P x f)

      off : (o p : Option (List Word)) → option_or o p ≡ None → (is_some o || is_some p) ≡ false
      off None None none = refl
      off None (Some ws) none = absurd (some_none ws none)
      off (Some ws) p none = absurd (some_none ws none)

  res_low : (f : ℕ) → L.result f ≡ true → (next C P i r).fin (C.unit f) ≡ true → (next C P i r).res (C.unit f) ≡ (next C P j q).res (C.unit f)
  unfolding next
  res_low f up ends_now =
      words_unwrap (L.result f) (ends C P r (C.unit f)) (ends C P q (C.unit f)) (r.res (C.unit f)) (q.res (C.unit f)) (ends_low f)
      (λ none. absurd (false≢true (sym (ap is_some none) ∙ ends_now))) up

  seen_low : (k : ℕ) → L.result (C.callee (suc k)) ≡ true → (next C P i r).got (suc k) ≡ true
      → (next C P i r).res (unit_for C (suc k)) ≡ (next C P j q).res (unit_for C (suc k))
  unfolding next
  seen_low k up shown =
      words_unwrap (L.result f) (ends C P r (C.unit f)) (ends C P q (C.unit f)) (r.res (C.unit f)) (q.res (C.unit f)) (ends_low f)
      (λ none on. by (either _ _ (not_cleared _ _ shown))) up
    where
      f : ℕ
      f = C.callee (suc k)

      by : (r.got (suc k) ≡ true) ⊎ (ret C r (suc k) ≡ true) → r.res (unit_for C (suc k)) ≡ q.res (unit_for C (suc k))
      by (inl got) = low.seen k up got
      by (inr now) = low.res (C.callee (suc k)) up (ret_ends k now)

  keep_low : (k : ℕ) → L.result (C.callee (suc k)) ≡ true → (next C P i r).got (suc k) ≡ true → (next C P i r).keep (suc k) ≡ (next C P j q).keep (suc k)
  unfolding next
  keep_low k up shown = by (ret C r (suc k)) refl (either _ _ (not_cleared _ _ shown))
    where
      kept_as : (x : Registers) (b : Bool) → ret C x (suc k) ≡ b
          → cond (ret C x (suc k)) (x.res (unit_for C (suc k))) (x.keep (suc k)) ≡ cond b (x.res (unit_for C (suc k))) (x.keep (suc k))
      kept_as x b is = ap (λ c. cond c (x.res (unit_for C (suc k))) (x.keep (suc k))) is

      by : (b : Bool) → ret C r (suc k) ≡ b → (r.got (suc k) ≡ true) ⊎ (ret C r (suc k) ≡ true) → (next C P i r).keep (suc k) ≡ (next C P j q).keep (suc k)
      by true now h = kept_as r true now ∙ low.res (C.callee (suc k)) up (ret_ends k now) ∙ sym (kept_as q true (sym (ret_same (suc k)) ∙ now))
      by false off (inl got) = kept_as r false off ∙ low.keep k up got ∙ sym (kept_as q false (sym (ret_same (suc k)) ∙ off))
      by false off (inr now) = absurd (false≢true (sym off ∙ now))

  next_low : Low C L (next C P i r) (next C P j q)
  unfolding next
  next_low = record {
    control = record {
      run = λ u. rw (ends_some u, same.run u, starts_same u) refl;
      fin = λ u. ends_some u;
      at = at_low;
      sent = λ k pos. rw (clears_same (C.unit (C.caller k)), same.sent k pos, go_same k) refl;
      got = λ k pos. rw (clears_same (C.unit (C.caller k)), same.got k pos, ret_same k) refl;
    };
    arg = arg_low;
    res = res_low;
    seen = seen_low;
    keep = keep_low;
  }

pub control_is_blind : ControlIsBlind
unfolding registers_at
control_is_blind C P L wf lab r0 q0 quiet quiet' args other alike later beside c = let l = at c in (l.control, l.control.fin (C.unit C.main))
  where
    ins : (n : ℕ) → LowInputs C L (input_at args later n) (input_at other beside n)
    ins zero = record { start = refl; words = λ up. alike }
    ins (suc n) = record { start = refl; words = λ up. absurd (false≢true up) }

    first_low : Low C L r0 q0
    first_low = record {
      control = record {
        run = λ u. quiet.run u ∙ sym (quiet'.run u);
        fin = λ u. quiet.fin u ∙ sym (quiet'.fin u);
        at = λ f lt is on. absurd (false≢true (sym (quiet.run (C.unit f)) ∙ on));
        sent = λ k pos. quiet.sent k pos ∙ sym (quiet'.sent k pos);
        got = λ k pos. quiet.got k pos ∙ sym (quiet'.got k pos);
      };
      arg = λ f lt up. absurd (false≢true (sym (quiet.run (C.unit f)) ∙ (and_parts _ _ up).0));
      res = λ f up fin. absurd (false≢true (sym (quiet.fin (C.unit f)) ∙ fin));
      seen = λ k up got. absurd (false≢true (sym (quiet.got (suc k) (omega arith)) ∙ got));
      keep = λ k up got. absurd (false≢true (sym (quiet.got (suc k) (omega arith)) ∙ got));
    }

    at : (n : ℕ) → Low C L (registers_at C P r0 args later n) (registers_at C P q0 other beside n)
    at zero = first_low
    at (suc n) =
        next_low C P wf L lab (input_at args later n) (input_at other beside n) (ins n) (registers_at C P r0 args later n)
        (registers_at C P q0 other beside n) (at n)
