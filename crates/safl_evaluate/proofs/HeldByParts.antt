-- What is kept of a term, by its parts.
use Rattle.safl_evaluate.proofs.Common.{Kept, nodes, nodes_in, pick_other, some_none}
use Rattle.std.proofs.Common.{◌≡◌, ℕ, zero, suc, ◌+◌, ◌<◌, ◌≤◌, ◌⊎◌, List, ◌++◌, Option, Some, None, cond, eqb, is_some, get_or, inl, inr, refl, sym, ap, ◌∙◌, subst, ⊎_elim, arith}
use Rattle.std.proofs.lemmas.Bool.{cases_eq, eq-eqb, ne_eqb}
use Rattle.safl_word.specs.Words.{Word, pick}
use Rattle.safl_term.specs.Readiness.{Answer, Ready, LoopTo, NotYet, answer, answers, wanted, wanted_in, word_of, or_else, select, with_all}
use Rattle.safl_term.specs.Standing.{Stands, StandsIn}
use Rattle.safl_term.specs.Terms.{Term, Const, Var, Op, If, Let, Call, Loop, Terms, Nil, Cons}
use Rattle.safl_term.proofs.Once.{Once, OnceIn}
use Rattle.safl_term.proofs.OrElse.{with_none}
use Rattle.safl_calls.proofs.Locality.{answer_local, all_local}
use Rattle.safl_evaluate.specs.Keeping.{cell, SelectsFirst, SelectsSecond, IsCell, Below, BelowIn}
use Rattle.safl_evaluate.proofs.PlainByParts.{stands_not_body}
use Rattle.safl_evaluate.proofs.RunsByParts.{not_wanted, not_wanted_in}

abbrev Asks : Type 0
Asks = List (Option (List Word))

-- ---- the same places and sites

own : (p : ℕ) (t : Term) → p < p + nodes t
own p (Const w) = omega arith
own p (Var i) = omega arith
own p (Op o ts) = omega arith
own p (If d x y) = omega arith
own p (Let ts x) = omega arith
own p (Call f k ts) = omega arith
own p (Loop m ts) = omega arith

mutual
  unfolding Below Stands

  pub below_frame : (B : ℕ → Option Word) (E : List Word) (A A' : Asks) (W W' : List Kept) (p : ℕ) (t : Term) → Below B E A W p t
      → ((q : ℕ) → p < q → q < p + nodes t → cell W' q ≡ cell W q) → ((k : ℕ) → Stands k t → get_or A' k None ≡ get_or A k None) → Below B E A' W' p t
  below_frame B E A A' W W' p (Const w) h c a = tt
  below_frame B E A A' W W' p (Var i) h c a = tt
  below_frame B E A A' W W' p (Op o ts) h c a = λ calls. below_in_frame B E A A' W W' (p + 1) ts (h calls) (λ q x y. c q (omega (arith, x)) (omega
      (arith, y))) a
  below_frame B E A A' W W' p (If d x y) g c a = λ calls. let h = g calls in (
    (
      subst (λ (v : Kept). IsCell B E d v) (sym (c (p + 1) (omega arith) (omega (arith, own (p + 1) d)))) h.0.0,
      below_frame B E A A' W W' (p + 1) d
          h.0.1 (λ q m n. c q (omega (arith, m)) (omega (arith, n))) (λ k st. a k (inl st)),
    ),
    λ s. (
      subst (λ (v : Kept). IsCell B E x v) (sym (c (p + 1 + nodes d) (omega arith) (omega (arith, own (p + 1 + nodes d) x)))) (h.1 s).0,
      below_frame B E A A' W W' (p + 1 + nodes d) x (h.1 s).1 (λ q m n. c q (omega (arith, m)) (omega (arith, n))) (λ k st. a k (inr (inl st))),
    ),
    λ s. record { none = λ k st. a k (inr (inl st)) ∙ (h.2 s).none k st },
    λ s. (
      subst (λ (v : Kept). IsCell B E y v) (sym (c (p + 1 + nodes d + nodes x) (omega arith) (omega (arith, own (p + 1 + nodes d + nodes x) y))))
          (h.3 s).0,
      below_frame B E A A' W W' (p + 1 + nodes d + nodes x) y (h.3 s).1 (λ q m n. c q (omega (arith, m)) (omega (arith, n))) (λ k st. a k (inr (inr st))),
    ),
    λ s. record { none = λ k st. a k (inr (inr st)) ∙ (h.4 s).none k st },
  )
  below_frame B E A A' W W' p (Let bs x) g c a = λ calls. let h = g calls in (
    below_in_frame B E A A' W W' (p + 1 + nodes x) bs h.0 (λ q m n. c q (omega (arith, m)) (omega (arith, n))) (λ k st. a k (inl st)),
    λ vs e. (
      subst (λ (v : Kept). IsCell B (E ++ vs) x v) (sym (c (p + 1) (omega arith) (omega (arith, own (p + 1) x)))) (h.1 vs e).0,
      below_frame B
          (E ++ vs) A A' W W' (p + 1) x (h.1 vs e).1 (λ q m n. c q (omega (arith, m)) (omega (arith, n))) (λ k st. a k (inr st)),
    ),
    λ e. record { none = λ k st. a k (inr st) ∙ (h.2 e).none k st },
  )
  below_frame B E A A' W W' p (Call f j ts) h c a = (
    a j (inl refl) ∙ h.0,
    below_in_frame B E A A' W W' (p + 1) ts h.1 (λ q m n. c q (omega (arith, m)) (omega (arith, n))) (λ k st. a k (inr st)),
  )
  below_frame B E A A' W W' p (Loop m ts) h c a = λ calls. below_in_frame B E A A' W W' (p + 1) ts (h calls) (λ q x y. c q (omega (arith, x)) (omega
      (arith, y))) a

  pub below_in_frame : (B : ℕ → Option Word) (E : List Word) (A A' : Asks) (W W' : List Kept) (p : ℕ) (ts : Terms) → BelowIn B E A W p ts
      → ((q : ℕ) → p ≤ q → q < p + nodes_in ts → cell W' q ≡ cell W q) → ((k : ℕ) → StandsIn k ts → get_or A' k None ≡ get_or A k None) → BelowIn B E A' W' p ts
  below_in_frame B E A A' W W' p Nil h c a = tt
  below_in_frame B E A A' W W' p (Cons t ts) h c a = (
    (
      subst (λ (v : Kept). IsCell B E t v) (sym (c p (omega arith) (omega (arith, own p t)))) h.0.0,
      below_frame B E A A' W W' p t h.0.1
          (λ q m n. c q (omega (arith, m)) (omega (arith, n))) (λ k st. a k (inl st)),
    ),
    below_in_frame B E A A' W W' (p + nodes t) ts h.1 (λ q m n. c q (omega (arith, m)) (omega (arith, n))) (λ k st. a k (inr st)),
  )

pub holds_frame : (B : ℕ → Option Word) (E : List Word) (A A' : Asks) (W W' : List Kept) (p : ℕ) (t : Term) → IsCell B E t (cell W p) × Below B E A W p t
    → ((q : ℕ) → p ≤ q → q < p + nodes t → cell W' q ≡ cell W q) → ((k : ℕ) → Stands k t → get_or A' k None ≡ get_or A k None) → IsCell B E t (cell W' p) × Below B E A' W' p t
holds_frame B E A A' W W' p t h c a = (
  subst (λ (x : Kept). IsCell B E t x) (sym (c p (omega arith) (own p t))) h.0,
  below_frame B E A A' W W' p t h.1 (λ q x y. c q (omega (arith, x)) y) a,
)

-- ---- the same words of the sites that stand in a term

cell_local : (B B' : ℕ → Option Word) (E : List Word) (t : Term) (x : Kept) → IsCell B E t x → ((k : ℕ) → Stands k t → B k ≡ B' k) → IsCell B' E t x
unfolding Stands
cell_local B B' E (Const w) x h b = tt
cell_local B B' E (Var i) x h b = tt
cell_local B B' E (Op o ts) x h b = h ∙ ap word_of (answer_local B B' E (Op o ts) b)
cell_local B B' E (If d u v) x h b = (h.0 ∙ ap word_of (answer_local B B' E (If d u v) b), h.1 ∙ ap (λ q. is_some (word_of q)) (answer_local B B' E d (λ k st. b k (inl st))))
cell_local B B' E (Let bs u) x h b = (h.0 ∙ ap word_of (answer_local B B' E (Let bs u) b), h.1 ∙ ap is_some (all_local B B' E bs (λ k st. b k (inl st))))
cell_local B B' E (Call f j ts) x h b = h ∙ b j (inl refl)
cell_local B B' E (Loop m ts) x h b = h

mutual
  unfolding Below Stands

  pub below_local : (B B' : ℕ → Option Word) (E : List Word) (A : Asks) (W : List Kept) (p : ℕ) (t : Term) → Below B E A W p t → ((k : ℕ) → Stands k t → B k ≡ B' k) → Below B' E A W p t
  below_local B B' E A W p (Const w) h b = tt
  below_local B B' E A W p (Var i) h b = tt
  below_local B B' E A W p (Op o ts) h b = λ calls. below_in_local B B' E A W (p + 1) ts (h calls) b
  below_local B B' E A W p (If d x y) g b = λ calls.
      let h = g calls in
      let same : answer B' E d ≡ answer B E d = sym (answer_local B B' E d (λ k st. b k (inl st))) in (
        (cell_local B B' E d (cell W (p + 1)) h.0.0 (λ k st. b k (inl st)), below_local B B' E A W (p + 1) d h.0.1 (λ k st. b k (inl st))),
        λ s. (
          cell_local B B' E x (cell W (p + 1 + nodes d)) (h.1 (subst (λ q. SelectsFirst q) same s)).0 (λ k st. b k (inr (inl st))),
          below_local B
              B' E A W (p + 1 + nodes d) x (h.1 (subst (λ q. SelectsFirst q) same s)).1 (λ k st. b k (inr (inl st))),
        ),
        λ s. h.2 (λ z. s (subst (λ q. SelectsFirst q) (sym same) z)),
        λ s. (
          cell_local B B' E y (cell W (p + 1 + nodes d + nodes x)) (h.3 (subst (λ q. SelectsSecond q) same s)).0 (λ k st. b k (inr (inr st))),
          below_local B B' E A W (p + 1 + nodes d + nodes x) y (h.3 (subst (λ q. SelectsSecond q) same s)).1 (λ k st. b k (inr (inr st))),
        ),
        λ s. h.4 (λ z. s (subst (λ q. SelectsSecond q) (sym same) z)),
      )
  below_local B B' E A W p (Let bs x) g b = λ calls.
      let h = g calls in
      let same : answers B E bs ≡ answers B' E bs = all_local B B' E bs (λ k st. b k (inl st)) in (
        below_in_local B B' E A W (p + 1 + nodes x) bs h.0 (λ k st. b k (inl st)),
        λ vs e. (cell_local B B' (E ++ vs) x (cell W (p + 1)) (h.1 vs (same ∙ e)).0 (λ k st. b k (inr st)), below_local B B' (E ++ vs) A W (p + 1) x (h.1 vs (same ∙ e)).1 (λ k st. b k (inr st))),
        λ e. h.2 (same ∙ e),
      )
  below_local B B' E A W p (Call f j ts) h b = (h.0 ∙ all_local B B' E ts (λ k st. b k (inr st)), below_in_local B B' E A W (p + 1) ts h.1 (λ k st. b k (inr st)))
  below_local B B' E A W p (Loop m ts) h b = λ calls. below_in_local B B' E A W (p + 1) ts (h calls) b

  pub below_in_local : (B B' : ℕ → Option Word) (E : List Word) (A : Asks) (W : List Kept) (p : ℕ) (ts : Terms) → BelowIn B E A W p ts → ((k : ℕ) → StandsIn k ts → B k ≡ B' k) → BelowIn B' E A W p ts
  below_in_local B B' E A W p Nil h b = tt
  below_in_local B B' E A W p (Cons t ts) h b = (
    (
      cell_local B B' E t (cell W p) h.0.0 (λ k st. b k (inl st)),
      below_local B B' E A W p t h.0.1
          (λ k st. b k (inl st)),
    ),
    below_in_local B B' E A W (p + nodes t) ts h.1 (λ k st. b k (inr st)),
  )

pub holds_local : (B B' : ℕ → Option Word) (E : List Word) (A : Asks) (W : List Kept) (p : ℕ) (t : Term) → IsCell B E t (cell W p) × Below B E A W p t
    → ((k : ℕ) → Stands k t → B k ≡ B' k) → IsCell B' E t (cell W p) × Below B' E A W p t
holds_local B B' E A W p t h b = (cell_local B B' E t (cell W p) h.0 b, below_local B B' E A W p t h.1 b)

-- ---- what is wanted is what was asked for

pub first_or_not : (q : Answer) → SelectsFirst q ⊎ (SelectsFirst q → ⊥)
first_or_not (Ready v) = ⊎_elim (λ e. inl (v, refl, e)) (λ ne. inr (λ s. ne (ap (λ (o : Option Word). bits_of o) (ap word_of s.1) ∙ s.2))) (cases_eq v.bits 1)
  where
    bits_of : Option Word → ℕ
    bits_of None = 0
    bits_of (Some u) = u.bits
first_or_not (LoopTo h vs) = inr (λ s. some_none s.0 (sym (ap word_of s.1)))
first_or_not NotYet = inr (λ s. some_none s.0 (sym (ap word_of s.1)))

pub second_or_not : (q : Answer) → SelectsSecond q ⊎ (SelectsSecond q → ⊥)
second_or_not (Ready v) = ⊎_elim (λ e. inr (λ s. s.2 (ap (λ (o : Option Word). bits_of o) (sym (ap word_of s.1)) ∙ e))) (λ ne. inl (v, refl, ne)) (cases_eq v.bits 1)
  where
    bits_of : Option Word → ℕ
    bits_of None = 0
    bits_of (Some u) = u.bits
second_or_not (LoopTo h vs) = inr (λ s. some_none s.0 (sym (ap word_of s.1)))
second_or_not NotYet = inr (λ s. some_none s.0 (sym (ap word_of s.1)))

select_first : {A : Type 0} (q : Answer) (none a b : A) → SelectsFirst q → select q none a b ≡ a
select_first q none a b s = ap (λ z. select z none a b) s.1 ∙ ap (λ n. pick n a b) s.2

select_second : {A : Type 0} (q : Answer) (none a b : A) → SelectsSecond q → select q none a b ≡ b
select_second q none a b s = ap (λ z. select z none a b) s.1 ∙ pick_other s.0.bits a b s.2

select_same : {A : Type 0} (q : Answer) (x : A) → select q x x x ≡ x
select_same (Ready v) x = by v.bits
  where
    by : (n : ℕ) → pick n x x ≡ x
    by zero = refl
    by (suc zero) = refl
    by (suc (suc n)) = refl
select_same (LoopTo h vs) x = refl
select_same NotYet x = refl

or_left : (o p : Option (List Word)) → p ≡ None → or_else o p ≡ o
or_left None p e = e
or_left (Some x) p e = refl

or_right : (o p : Option (List Word)) → o ≡ None → or_else o p ≡ p
or_right o p e = ap (λ x. or_else x p) e

by_bound : (B : ℕ → Option Word) (E : List Word) (A : Asks) (bs : Terms) (x : Term) (k : ℕ) →
    ((vs : List Word) → answers B E bs ≡ Some vs → get_or A k None ≡ wanted B (E ++ vs) x k) → (answers B E bs ≡ None → get_or A k None ≡ None)
    → (o : Option (List Word)) → answers B E bs ≡ o → get_or A k None ≡ with_all (answers B E bs) None (λ vs. wanted B (E ++ vs) x k)
by_bound B E A bs x k some none None e = none e ∙ sym (ap (λ o. with_all o None (λ vs. wanted B (E ++ vs) x k)) e)
by_bound B E A bs x k some none (Some vs) e = some vs e ∙ sym (ap (λ o. with_all o None (λ us. wanted B (E ++ us) x k)) e)

rest_first : (q : Answer) (x y : Option (List Word)) → (SelectsFirst q → ⊥) → y ≡ None → select q None x y ≡ None
rest_first (Ready v) x y s e = ⊎_elim (λ one. absurd (s (v, refl, one))) (λ ne. pick_other v.bits x y ne ∙ e) (cases_eq v.bits 1)
rest_first (LoopTo h vs) x y s e = refl
rest_first NotYet x y s e = refl

rest_second : (q : Answer) (x y : Option (List Word)) → (SelectsSecond q → ⊥) → x ≡ None → select q None x y ≡ None
rest_second (Ready v) x y s e = ⊎_elim (λ one. ap (λ n. pick n x y) one ∙ e) (λ ne. absurd (s (v, refl, ne))) (cases_eq v.bits 1)
rest_second (LoopTo h vs) x y s e = refl
rest_second NotYet x y s e = refl

mutual
  unfolding Below Stands Once wanted

  pub asked_held : (B : ℕ → Option Word) (E : List Word) (A : Asks) (W : List Kept) (p : ℕ) (t : Term) → Once t → Below B E A W p t → (k : ℕ) → Stands k t → get_or A k None ≡ wanted B E t k
  asked_held B E A W p (Const w) once h k st = absurd st
  asked_held B E A W p (Var i) once h k st = absurd st
  asked_held B E A W p (Op o ts) once h k st = asked_in_held B E A W (p + 1) ts once (h (stands_not_body k (Op o ts) st)) k st
  asked_held B E A W p (If d x y) once g k st = let h = g (stands_not_body k (If d x y) st) in ⊎_elim
      (λ s. asked_held B E A W (p + 1) d once.0 h.0.1 k s ∙ sym
      (or_left (wanted B E d k) _ (ap (λ o. select (answer B E d) None o (wanted B E y k)) (not_wanted B E x k (λ z. once.3 k s (inl z))) ∙
      (ap (λ o. select (answer B E d) None None o) (not_wanted B E y k (λ z. once.3 k s (inr z))) ∙ select_same (answer B E d) None))))
      (λ r. ⊎_elim
      (λ s. ⊎_elim
      (λ f. asked_held B E A W (p + 1 + nodes d) x once.1 (h.1 f).1 k s ∙ sym
      (or_right _ _ (not_wanted B E d k (λ z. once.3 k z (inl s))) ∙ select_first (answer B E d) None (wanted B E x k) (wanted B E y k) f))
      (λ f. (h.2 f).none k s ∙ sym (or_right _ _ (not_wanted B E d k (λ z. once.3 k z (inl s))) ∙ rest_first (answer B E d) (wanted B E x k)
      (wanted B E y k) f (not_wanted B E y k (λ z. once.4 k s z))))
      (first_or_not (answer B E d)))
      (λ s. ⊎_elim
      (λ f. asked_held B E A W (p + 1 + nodes d + nodes x) y once.2 (h.3 f).1 k s ∙ sym
      (or_right _ _ (not_wanted B E d k (λ z. once.3 k z (inr s))) ∙ select_second (answer B E d) None (wanted B E x k) (wanted B E y k) f))
      (λ f. (h.4 f).none k s ∙ sym (or_right _ _ (not_wanted B E d k (λ z. once.3 k z (inr s))) ∙ rest_second (answer B E d) (wanted B E x k)
      (wanted B E y k) f (not_wanted B E x k (λ z. once.4 k z s))))
      (second_or_not (answer B E d)))
      r)
      st
  asked_held B E A W p (Let bs x) once g k st = let h = g (stands_not_body k (Let bs x) st) in ⊎_elim
      (λ s. asked_in_held B E A W (p + 1 + nodes x) bs once.0 h.0 k s ∙ sym
      (or_left (wanted_in B E bs k) _ (with_none (answers B E bs) (λ vs. wanted B (E ++ vs) x k) (λ vs. not_wanted B (E ++ vs) x k (λ z. once.2 k s z)))))
      (λ s. by_bound B E A bs x k (λ vs e. asked_held B (E ++ vs) A W (p + 1) x once.1 (h.1 vs e).1 k s) (λ e. (h.2 e).none k s) (answers B E bs) refl
      ∙ sym (or_right _ _ (not_wanted_in B E bs k (λ z. once.2 k z s))))
      st
  asked_held B E A W p (Call f j ts) once h k st = ⊎_elim
      (λ same. subst (λ n. get_or A n None ≡ cond (eqb j n) (answers B E ts) (wanted_in B E ts n)) same (h.0 ∙ sym (ap (λ b. cond b (answers B E ts) (wanted_in B E ts j)) (eq-eqb j j refl))))
      (λ ne. ⊎_elim (λ same. absurd (ne same)) (λ s. asked_in_held B E A W (p + 1) ts once.0 h.1 k s ∙ sym (ap (λ b. cond b (answers B E ts) (wanted_in B E ts k)) (ne_eqb j k ne))) st)
      (cases_eq j k)
  asked_held B E A W p (Loop m ts) once h k st = asked_in_held B E A W (p + 1) ts once (h (stands_not_body k (Loop m ts) st)) k st

  pub asked_in_held : (B : ℕ → Option Word) (E : List Word) (A : Asks) (W : List Kept) (p : ℕ) (ts : Terms) → OnceIn ts → BelowIn B E A W p ts →
      (k : ℕ) → StandsIn k ts → get_or A k None ≡ wanted_in B E ts k
  asked_in_held B E A W p Nil once h k st = absurd st
  asked_in_held B E A W p (Cons t ts) once h k st = ⊎_elim
      (λ s. asked_held B E A W p t once.0 h.0.1 k s ∙ sym (or_left (wanted B E t k) _ (not_wanted_in B E ts k (λ z. once.2 k s z))))
      (λ s. asked_in_held B E A W (p + nodes t) ts once.1 h.1 k s ∙ sym (or_right _ _ (not_wanted B E t k (λ z. once.2 k z s))))
      st
