-- What is found of a term, by what is found of its parts.
use Rattle.safl_evaluate.proofs.Common.{Kept, Place, Primitive, Stage, Word, back_at, nodes, nodes_in, same_Some, some_none}
use Rattle.std.proofs.Common.{◌≡◌, ℕ, ◌+◌, ◌<◌, ◌≤◌, List, [], ◌∷◌, ◌++◌, length, take, Option, Some, None, Bool, true, false, cond, is_some, get_or}
use Rattle.std.proofs.Common.{slice_set, inl, inr, refl, sym, ap, ◌∙◌, subst, arith}
use Rattle.std.proofs.lemmas.Bool.{ne_eqb, false≢true}
use Rattle.std.proofs.lemmas.List.{get_or-set_other, get_or-set_same}
use Rattle.safl_term.specs.Readiness.{Answer, Ready, LoopTo, NotYet, answer, answers, word_of, apply_to, select, with_all}
use Rattle.safl_term.specs.Standing.{Stands, StandsIn}
use Rattle.safl_term.specs.Terms.{Term, Const, Var, Op, If, Let, Call, Loop, Terms, Nil, Cons}
use Rattle.safl_term.proofs.Once.{Once, OnceIn}
use Rattle.safl_term.proofs.PlainTerms.{shown_call}
use Rattle.safl_calls.proofs.Locality.{all_local}
use Rattle.safl_evaluate.specs.declared.kept.Kept as code
use Rattle.safl_evaluate.specs.declared.kept.Found as found
use Rattle.safl_evaluate.specs.Finding.{cell_of, if_open, if_ready, is_ready}
use Rattle.safl_evaluate.specs.Keeping.{word_kept, is_open, cell, SelectsFirst, SelectsSecond, IsCell, Below, BelowIn, Holds, without, Stood, Only}
use Rattle.safl_evaluate.specs.Keeping.{MayLook, MayLookAll, opened_with, Looks, Finds, FindsAll}
use Rattle.safl_evaluate.specs.Plain.{plain_term, plain_body, ComesTo, ConcludesIn}
use Rattle.safl_evaluate.proofs.AnswersByParts as step
use Rattle.safl_evaluate.proofs.HeldByParts.{holds_local, below_frame, below_in_local}
use Rattle.safl_evaluate.proofs.PlainByParts.{two_words, concludes_word, plain_is_body}
use Rattle.safl_evaluate.proofs.LooksByParts as part
use Rattle.safl_evaluate.proofs.LooksByParts.{only_none, only_more, only_both, only_own, holds_still, below_in_still, unasked_still, either_branch}
use Rattle.safl_evaluate.proofs.LooksByParts.{none_first, none_second, found_ready, rest_first, rest_second, rest_body}
use Rattle.safl_evaluate.proofs.RunsByParts.{once, once_in}

abbrev Asks : Type 0
Asks = List (Option (List Word))

pub opened_word : (o : Option Word) → word_kept (opened_with o) ≡ o
opened_word None = refl
opened_word (Some v) = refl

pub opened_open : (o : Option Word) → is_open (opened_with o) ≡ true
opened_open None = refl
opened_open (Some v) = refl

pub opened_cell : (r : Bool) (v : Word) (f : found.Found) → f ≡ if_open r → cell_of f v ≡ opened_with (cond r (Some v) None)
opened_cell true v f e = ap (λ x. cell_of x v) e
opened_cell false v f e = ap (λ x. cell_of x v) e

pub ready_cell : (r : Bool) (v : Word) (f : found.Found) → f ≡ if_ready r → word_kept (cell_of f v) ≡ cond r (Some v) None
ready_cell true v f e = ap (λ x. word_kept (cell_of x v)) e
ready_cell false v f e = ap (λ x. word_kept (cell_of x v)) e

pub kept_word : (v : Word) (f : found.Found) (r : Bool) → r ≡ is_ready f → cond r (Some v) None ≡ word_kept (cell_of f v)
kept_word v found.TheVariants.Ready r e = ap (λ b. cond b (Some v) None) e
kept_word v found.TheVariants.Open r e = ap (λ b. cond b (Some v) None) e
kept_word v found.TheVariants.Shut r e = ap (λ b. cond b (Some v) None) e

pub finds_with : {S : List Stage} {A A' : Asks} {F : List Word} {W W' : List Kept} {n p : ℕ} {t : Term} {o r : Option Word} → o ≡ r → Finds S A A' F W W' n p t r → Finds S A A' F W W' n p t o
finds_with {S} {A} {A'} {F} {W} {W'} {n} {p} {t} {o} {r} e h = subst (λ z. Finds S A A' F W W' n p t z) (sym e) h

-- the first word of a table of two
pub one_word : (ws : List Word) (r : Bool) (v : Word) → length ws ≡ 2 → cond r (Some (take 1 (slice_set ws 0 v))) None ≡ cond r (Some (v ∷ [])) None
one_word [] r v e = absurd (omega (arith, e))
one_word (w ∷ ws) r v e = refl

pub looks_is : {S : List Stage} {A A' : Asks} {F : List Word} {W W' : List Kept} {n p : ℕ} {t u : Term} {x : Kept} → t ≡ u → Looks S A A' F W W' n p u x → Looks S A A' F W W' n p t x
looks_is {S} {A} {A'} {F} {W} {W'} {n} {p} {t} {u} {x} e h = subst (λ z. Looks S A A' F W W' n p z x) (sym e) h

pub looks_with : {S : List Stage} {A A' : Asks} {F : List Word} {W W' : List Kept} {n p : ℕ} {t : Term} {x y : Kept} → x ≡ y → Looks S A A' F W W' n p t y → Looks S A A' F W W' n p t x
looks_with {S} {A} {A'} {F} {W} {W'} {n} {p} {t} {x} {y} e h = subst (λ z. Looks S A A' F W W' n p t z) (sym e) h

pub looks_slots : {S : List Stage} {A A' : Asks} {F : List Word} {W W' : List Kept} {n m p q : ℕ} {t : Term} {x : Kept} → m ≡ n → q ≡ p → Looks
    S A A' F W W' m q t x → Looks S A A' F W W' n p t x
looks_slots {S} {A} {A'} {F} {W} {W'} {n} {m} {p} {q} {t} {x} d e h = subst (λ i. Looks S A A' F W W' i p t x) d (subst (λ i. Looks S A A' F W W' m i t x) e h)

pub looks_asks : {S : List Stage} {A A' A'' : Asks} {F : List Word} {W W' : List Kept} {n p : ℕ} {t : Term} {x : Kept} → A'' ≡ A' → Looks S A A' F W W' n p t x → Looks S A A'' F W W' n p t x
looks_asks {S} {A} {A'} {A''} {F} {W} {W'} {n} {p} {t} {x} e h = subst (λ (l : Asks). Looks S A l F W W' n p t x) (sym e) h

pub finds_is : {S : List Stage} {A A' : Asks} {F : List Word} {W W' : List Kept} {n p : ℕ} {t u : Term} {o : Option Word} → t ≡ u → Finds S A A' F W W' n p u o → Finds S A A' F W W' n p t o
finds_is {S} {A} {A'} {F} {W} {W'} {n} {p} {t} {u} {o} e h = subst (λ z. Finds S A A' F W W' n p z o) (sym e) h

pub finds_all_is : {S : List Stage} {A A' : Asks} {F : List Word} {W W' : List Kept} {n p : ℕ} {ts us : Terms} {o : Option (List Word)} → ts ≡ us →
    FindsAll S A A' F W W' n p us o → FindsAll S A A' F W W' n p ts o
finds_all_is {S} {A} {A'} {F} {W} {W'} {n} {p} {ts} {us} {o} e h = subst (λ z. FindsAll S A A' F W W' n p z o) (sym e) h

-- a part that is looked at with other slots, at another place
pub finds_at : {S : List Stage} {A A' : Asks} {E G : List Word} {W W' : List Kept} {m p q : ℕ} {t : Term} {o : Option Word} → take m G ≡ E → q ≡ p →
    Finds S A A' G W W' m q t o → (o ≡ word_of (answer (back_at S) E t)) × Holds (back_at S) E A' W' p t × Only p (p + nodes t) (λ k. Stands k t) A A' W W'
finds_at {S} {A} {A'} {E} {G} {W} {W'} {m} {p} {q} {t} {o} d e h = (
  h.word ∙ ap (λ l. word_of (answer (back_at S) l t)) d,
  subst (λ l. Holds (back_at S) l A' W' p t) d (subst (λ i. Holds (back_at S) (take m G) A' W' i t) e h.holds),
  subst (λ i. Only i (i + nodes t) (λ k. Stands k t) A A' W W') e h.only,
)

module _ {S : List Stage} {A A' : Asks} {F : List Word} {W W' : List Kept} {n p : ℕ} where
  -- what is found of a term is kept
  pub finds_kept : {t : Term} {x : Kept} → Looks S A A' F W W' n p t x → p < length W' → {V : List Kept} → V ≡ slice_set W' p x → Finds S A A' F W V n p t (word_kept x)
  unfolding Below BelowIn Stands StandsIn Once OnceIn
  finds_kept {t} {x} h lt {V} e = subst (λ (z : List Kept). Finds S A A' F W z n p t (word_kept x)) (sym e) (record {
    word = h.word;
    holds = (
      subst (λ z. IsCell (back_at S) (take n F) t z) (sym (get_or-set_same W' p x code.TheVariants.Shut lt)) h.own,
      below_frame (back_at S) (take n F) A' A' W' (slice_set W' p x) p t h.below (λ q m o. get_or-set_other W' p q x code.TheVariants.Shut (omega (arith, m))) (λ k st. refl),
    );
    only = only_both (only_more h.only (omega arith) (omega arith) (λ k z. z)) (only_more (only_own {p = p} {s = λ k. Stands k t} {A = A'} {W = W'} x) (omega arith) (own p t) (λ k z. z));
  })
    where
      own : (p : ℕ) (t : Term) → p + 1 ≤ p + nodes t
      own p (Const w) = omega arith
      own p (Var i) = omega arith
      own p (Op o ts) = omega arith
      own p (If d x y) = omega arith
      own p (Let ts x) = omega arith
      own p (Call f k ts) = omega arith
      own p (Loop m ts) = omega arith

-- ---- a term that the word of site k does not concern

pub held_word : (B : ℕ → Option Word) (E : List Word) (t : Term) (x : Kept) → 2 ≤ nodes t → IsCell B E t x → word_kept x ≡ word_of (answer B E t)
held_word B E (Const w) x le h = absurd (omega (arith, le))
held_word B E (Var i) x le h = absurd (omega (arith, le))
held_word B E (Op o ts) x le h = h
held_word B E (If d u v) x le h = h.0
held_word B E (Let ts u) x le h = h.0
held_word B E (Call f j ts) x le h = h ∙ (shown_call (B j) ∙ ap word_of (step.answer_call B E ts f j))
held_word B E (Loop m ts) x le h = h ∙ step.word_loop B E ts m

pub finds_still : {S : List Stage} {A : Asks} {F : List Word} {W : List Kept} {n p : ℕ} {t : Term} {news : Option ℕ} (k : ℕ) → news ≡ Some k → Stood
    (back_at S) news (take n F) A W p t → (Stands k t → ⊥) → 2 ≤ nodes t → {o : Option Word} → o ≡ word_kept (cell W p) → Finds S A A F W W n p t o
finds_still {S} {A} {F} {W} {n} {p} {t} {news} k is stood apart le {o} e =
    let B = back_at S in
    let same : (j : ℕ) → Stands j t → without B k j ≡ B j = λ j st. ap (λ b. cond b None (B j)) (ne_eqb k j (λ q. apart (subst (λ i. Stands i t) (sym q) st))) in
    let holds = holds_local (without B k) B (take n F) A W p t (subst (λ x. Stood B x (take n F) A W p t) is stood) same in
    record { word = e ∙ held_word B (take n F) t (cell W p) le holds.0; holds = holds; only = only_none }

pub looks_op : {S : List Stage} {A A' : Asks} {F : List Word} {W W' : List Kept} {n p : ℕ} {o : Primitive} {ts : Terms} {x : Kept}
    {vs : Option (List Word)} → FindsAll S A A' F W W' n (p + 1) ts vs → word_kept x ≡ word_of (apply_to o vs) → Looks S A A' F W W' n p (Op o ts) x
unfolding Below BelowIn Stands StandsIn Once OnceIn
looks_op {S} {A} {A'} {F} {W} {W'} {n} {p} {o} {ts} {x} {vs} fs e =
    let word : word_kept x ≡ word_of (answer (back_at S) (take n F) (Op o ts)) = e ∙ (ap (λ z. word_of (apply_to o z)) (sym fs.words) ∙ ap word_of (step.answer_op (back_at S) (take n F) ts o)) in
    record { word = word; own = word; below = λ calls. fs.holds; only = only_more fs.only (omega arith) (omega arith) (λ k z. z) }

pub looks_loop : {S : List Stage} {A A' : Asks} {F : List Word} {W W' : List Kept} {n p : ℕ} {l : ℕ} {ts : Terms} {vs : Option (List Word)} → FindsAll
    S A A' F W W' n (p + 1) ts vs → Looks S A A' F W W' n p (Loop l ts) code.TheVariants.Shut
unfolding Below BelowIn Stands StandsIn Once OnceIn
looks_loop {S} {A} {A'} {F} {W} {W'} {n} {p} {l} {ts} fs = record {
  word = step.word_loop (back_at S) (take n F) ts l;
  own = refl;
  below = λ calls. fs.holds;
  only = only_more fs.only (omega arith) (omega arith) (λ k z. z);
}

-- a word before others
pub word_before : Option Word → Option (List Word) → Option (List Word)
word_before None o = None
word_before (Some v) None = None
word_before (Some v) (Some vs) = Some (v ∷ vs)

pub answers_first : (B : ℕ → Option Word) (E : List Word) (t : Term) (ts : Terms) (o : Option Word) → o ≡ word_of (answer B E t) → answers B E (Cons t ts) ≡ word_before o (answers B E ts)
unfolding word_before
answers_first B E t ts None e = step.answers_not B E ts t e
answers_first B E t ts (Some v) e = step.answers_more B E ts t v (answers B E ts) e refl ∙ by (answers B E ts)
  where
    by : (o : Option (List Word)) → step.joined v o ≡ word_before (Some v) o
    by None = refl
    by (Some vs) = refl

pub answers_one : (B : ℕ → Option Word) (E : List Word) (t : Term) (r : Bool) (v : Word) → cond r (Some v) None ≡ word_of (answer B E t) → answers B E (Cons t Nil) ≡ cond r (Some (v ∷ [])) None
unfolding word_before
answers_one B E t r v e = answers_first B E t Nil (cond r (Some v) None) e ∙ (ap (word_before (cond r (Some v) None)) (step.answers_nil B E) ∙ by r)
  where
    by : (b : Bool) → word_before (cond b (Some v) None) (Some []) ≡ cond b (Some (v ∷ [])) None
    by true = refl
    by false = refl

-- the words of two terms, the first of which is ready, in a table of two
pub answers_two : (B : ℕ → Option Word) (E G : List Word) (a b : Term) (v w : Word) (r : Bool) (ws : List Word) → Some v ≡ word_of (answer B E a) →
    cond r (Some w) None ≡ word_of (answer B G b) → G ≡ E → length ws ≡ 2
    → answers B E (Cons a (Cons b Nil)) ≡ cond r (Some (take 2 (slice_set (slice_set ws 0 v) 1 w))) None
unfolding word_before
answers_two B E G a b v w r ws e f g long = answers_first B E a (Cons b Nil) (Some v) e
    ∙ (ap (word_before (Some v)) (ap (λ (l : List Word). answers B l (Cons b Nil)) (sym g) ∙ answers_one B G b r w f) ∙ by r)
  where
    by : (x : Bool) → word_before (Some v) (cond x (Some (w ∷ [])) None) ≡ cond x (Some (take 2 (slice_set (slice_set ws 0 v) 1 w))) None
    by true = ap Some (sym (two_words ws v w long))
    by false = refl

pub finds_one : {S : List Stage} {A A' : Asks} {F : List Word} {W W' : List Kept} {n p : ℕ} {t : Term} {o : Option Word} → Finds S A A' F W W' n p t o
    → {r : Option (List Word)} → answers (back_at S) (take n F) (Cons t Nil) ≡ r → FindsAll S A A' F W W' n p (Cons t Nil) r
unfolding Below BelowIn Stands StandsIn
finds_one f g = record { words = g; holds = (f.holds, tt); only = only_more f.only (omega arith) (omega arith) (λ k z. inl z) }

pub finds_slots : {S : List Stage} {A A' : Asks} {F : List Word} {W W' : List Kept} {n m p q : ℕ} {t : Term} {o : Option Word} → m ≡ n → q ≡ p → Finds
    S A A' F W W' m q t o → Finds S A A' F W W' n p t o
finds_slots {S} {A} {A'} {F} {W} {W'} {n} {m} {p} {q} {t} {o} d e h = subst (λ i. Finds S A A' F W W' i p t o) d (subst (λ i. Finds S A A' F W W' m i t o) e h)

pub finds_all_slots : {S : List Stage} {A A' : Asks} {F : List Word} {W W' : List Kept} {n m p q : ℕ} {ts : Terms} {o : Option (List Word)} → m ≡ n →
    q ≡ p → FindsAll S A A' F W W' m q ts o → FindsAll S A A' F W W' n p ts o
finds_all_slots {S} {A} {A'} {F} {W} {W'} {n} {m} {p} {q} {ts} {o} d e h = subst (λ i. FindsAll S A A' F W W' i p ts o) d (subst (λ i. FindsAll S A A' F W W' m i ts o) e h)

-- what was found of terms is found of them too with other words behind the slots
pub finds_all_still : {S : List Stage} {A A' : Asks} {F G : List Word} {W W' : List Kept} {n p : ℕ} {ts : Terms} {o : Option (List Word)} → take n G ≡
    take n F → FindsAll S A A' G W W' n p ts o → FindsAll S A A' F W W' n p ts o
finds_all_still {S} {A} {A'} {F} {G} {W} {W'} {n} {p} {ts} {o} kept h = record {
  words = ap (λ (E : List Word). answers (back_at S) E ts) (sym kept) ∙ h.words;
  holds = subst (λ (E : List Word). BelowIn (back_at S) E A' W' p ts) kept h.holds;
  only = h.only;
}

-- ---- a plain body

condition_is_ready : (q a b r : Answer) → select q NotYet a b ≡ r → (r ≡ NotYet → ⊥) → is_some (word_of q) ≡ true
condition_is_ready (Ready w) a b r e settled = refl
condition_is_ready (LoopTo h vs) a b r e settled = absurd (settled (sym e))
condition_is_ready NotYet a b r e settled = absurd (settled (sym e))

bindings_are_ready : (o : Option (List Word)) (go : List Word → Answer) (r : Answer) → with_all o NotYet go ≡ r → (r ≡ NotYet → ⊥) → is_some o ≡ true
bindings_are_ready None go r e settled = absurd (settled (sym e))
bindings_are_ready (Some vs) go r e settled = refl

module _ (B : ℕ → Option Word) (E : List Word) where
  concluded_word : {t : Term} {q : Answer} → ConcludesIn E t q → word_kept (opened_with (word_of q)) ≡ word_of (answer B E t)
  concluded_word {t} {q} h = opened_word (word_of q) ∙ ap word_of (sym (h.answer_is B))

  concluded_cell : (t : Term) (q : Answer) → ConcludesIn E t q → plain_body t ≡ true → IsCell B E t (opened_with (word_of q))
  unfolding answer
  concluded_cell (Const w) q h plain = tt
  concluded_cell (Var i) q h plain = tt
  concluded_cell (Op o ts) q h plain = concluded_word h
  concluded_cell (If c a b) q h plain = (
    concluded_word h,
    opened_open (word_of q) ∙ sym (condition_is_ready (answer B E c) (answer B E a) (answer B E b) q (h.answer_is B) h.settled),
  )
  concluded_cell (Let ts b) q h plain = (
    concluded_word h,
    opened_open (word_of q) ∙ sym (bindings_are_ready (answers B E ts) (λ vs. answer B (E ++ vs) b) q (h.answer_is B) h.settled),
  )
  concluded_cell (Call f j ts) q h plain = absurd (false≢true plain)
  concluded_cell (Loop m ts) q h plain = concluded_word h ∙ sym (step.word_loop B E ts m)

  plain_below : (A : Asks) (W : List Kept) (p : ℕ) (t : Term) → plain_body t ≡ true → Below B E A W p t
  unfolding Below
  plain_below A W p (Const w) plain = tt
  plain_below A W p (Var i) plain = tt
  plain_below A W p (Op o ts) plain = λ calls. absurd (false≢true (sym calls ∙ plain))
  plain_below A W p (If c a b) plain = λ calls. absurd (false≢true (sym calls ∙ plain))
  plain_below A W p (Let ts b) plain = λ calls. absurd (false≢true (sym calls ∙ plain))
  plain_below A W p (Call f j ts) plain = absurd (false≢true plain)
  plain_below A W p (Loop m ts) plain = λ calls. absurd (false≢true (sym calls ∙ plain))

module _ {S : List Stage} {A : Asks} {F : List Word} {W : List Kept} {n p : ℕ} where
  -- no site is asked for, and nothing of the parts is kept
  pub looks_concluded : {t : Term} {q : Answer} → ConcludesIn (take n F) t q → plain_body t ≡ true → Looks S A A F W W n p t (opened_with (word_of q))
  looks_concluded {t} {q} h plain = record {
    word = concluded_word (back_at S) (take n F) h;
    own = concluded_cell (back_at S) (take n F) t q h plain;
    below = plain_below (back_at S) (take n F) A W p t plain;
    only = only_none;
  }

  pub looks_plain : {t : Term} {v : Word} → ComesTo (take n F) t v → plain_term t ≡ true → Looks S A A F W W n p t (code.TheVariants.Ready v)
  looks_plain {t} {v} h plain = looks_concluded (concludes_word h refl) (plain_is_body t plain)

-- ---- results

module _ {S : List Stage} {P : List Place} {A A' A'' : Asks} {F G : List Word} {W W' W'' : List Kept} {n m p q : ℕ} {news : Option ℕ} where
  pub looks_then : {c a b : Term} {o : Option Word} (v : Word) → MayLook S P A F W n p news (If c a b) → Finds S A A' F W W' n (p + 1) c (Some v) → v.bits ≡ 1
      → take m G ≡ take n F → q ≡ p + 1 + nodes c → Finds S A' A'' G W' W'' m q a o → Looks S A A'' F W W'' n p (If c a b) (opened_with o)
  unfolding Below BelowIn Stands StandsIn Once OnceIn
  looks_then {c} {a} {b} {o} v h fc one d e f =
      let B = back_at S in
      let E = take n F in
      let apart = once (If c a b) h.can in
      let fa = finds_at d e f in
      let sel : SelectsFirst (answer B E c) = (v, found_ready _ v fc.word, one) in
      let word : word_kept (opened_with o) ≡ word_of (answer B E (If c a b)) = opened_word o ∙ (fa.0 ∙ ap word_of (step.answer_then B E c a b v fc.word one)) in
      record {
        word = word;
        own = (word, opened_open o ∙ ap is_some fc.word);
        below = λ calls. (
          holds_still fa.2 B E _ _ fc.holds (inl (omega arith)) (λ k x y. apart.3 k x (inl y)),
          λ s. fa.1,
          λ s. absurd (s sel),
          λ s. absurd (either_branch (answer B E c) sel s),
          λ s. unasked_still fa.2 (unasked_still fc.only (rest_second B E A W p news c a b calls h.stood s) (λ k x y. apart.3 k y (inr x)))
              (λ k x y. apart.4 k y x),
        );
        only = only_both (only_more fc.only (omega arith) (omega arith) (λ k z. inl z)) (only_more fa.2 (omega arith) (omega arith) (λ k z. inr (inl z)));
      }

  pub looks_else : {c a b : Term} {o : Option Word} (v : Word) → MayLook S P A F W n p news (If c a b) → Finds S A A' F W W' n (p + 1) c (Some v) → (v.bits ≡ 1 → ⊥)
      → take m G ≡ take n F → q ≡ p + 1 + nodes c + nodes a → Finds S A' A'' G W' W'' m q b o → Looks S A A'' F W W'' n p (If c a b) (opened_with o)
  unfolding Below BelowIn Stands StandsIn Once OnceIn
  looks_else {c} {a} {b} {o} v h fc other d e f =
      let B = back_at S in
      let E = take n F in
      let apart = once (If c a b) h.can in
      let fb = finds_at d e f in
      let sel : SelectsSecond (answer B E c) = (v, found_ready _ v fc.word, other) in
      let word : word_kept (opened_with o) ≡ word_of (answer B E (If c a b)) = opened_word o ∙ (fb.0 ∙ ap word_of (step.answer_else B E c a b v fc.word other)) in
      record {
        word = word;
        own = (word, opened_open o ∙ ap is_some fc.word);
        below = λ calls. (
          holds_still fb.2 B E _ _ fc.holds (inl (omega arith)) (λ k x y. apart.3 k x (inr y)),
          λ s. absurd (either_branch (answer B E c) s sel),
          λ s. unasked_still fb.2 (unasked_still fc.only (rest_first B E A W p news c a b calls h.stood s) (λ k x y. apart.3 k y (inl x)))
              (λ k x y. apart.4 k x y),
          λ s. fb.1,
          λ s. absurd (s sel),
        );
        only = only_both (only_more fc.only (omega arith) (omega arith) (λ k z. inl z)) (only_more fb.2 (omega arith) (omega arith) (λ k z. inr (inr z)));
      }

  pub looks_let : {ts : Terms} {b : Term} {o : Option Word} (vs : List Word) → MayLook S P A F W n p news (Let ts b) → FindsAll S A A' F W W' n (p + 1 + nodes b) ts (Some vs)
      → take m G ≡ take n F ++ vs → q ≡ p + 1 → Finds S A' A'' G W' W'' m q b o → Looks S A A'' F W W'' n p (Let ts b) (opened_with o)
  unfolding Below BelowIn Stands StandsIn Once OnceIn
  looks_let {ts} {b} {o} vs h fs d e f =
      let B = back_at S in
      let E = take n F in
      let apart = once (Let ts b) h.can in
      let holds = subst (λ l. Holds B l A'' W'' (p + 1) b) d (subst (λ i. Holds B (take m G) A'' W'' i b) e f.holds) in
      let only = subst (λ i. Only i (i + nodes b) (λ k. Stands k b) A' A'' W' W'') e f.only in
      let word : word_kept (opened_with o) ≡ word_of (answer B E (Let ts b)) = opened_word o ∙ (f.word ∙ (ap (λ l. word_of (answer B l b)) d ∙ ap word_of (step.answer_let B E ts b vs fs.words))) in
      record {
        word = word;
        own = (word, opened_open o ∙ sym (ap is_some fs.words));
        below = λ calls. (
          below_in_still only B E _ _ fs.holds (inr (omega arith)) (λ k x y. apart.2 k x y),
          λ us g. subst (λ l. Holds B (E ++ l) A'' W'' (p + 1) b) (same_Some vs us (sym fs.words ∙ g)) holds,
          λ g. absurd (some_none vs (sym fs.words ∙ g)),
        );
        only = only_both (only_more fs.only (omega arith) (omega arith) (λ k z. inl z)) (only_more only (omega arith) (omega arith) (λ k z. inr z));
      }

-- the call returned that is looked at: its arguments are as they were
pub looks_returned : {S : List Stage} {P : List Place} {A : Asks} {F : List Word} {W : List Kept} {n p : ℕ} {news : Option ℕ} {f j : ℕ} {ts : Terms} {x : Kept} →
    MayLook S P A F W n p news (Call f j ts) → news ≡ Some j → word_kept x ≡ back_at S j → Looks S A A F W W n p (Call f j ts) x
unfolding Below BelowIn Stands StandsIn Once OnceIn
looks_returned {S} {P} {A} {F} {W} {n} {p} {news} {f} {j} {ts} {x} h is back =
    let B = back_at S in
    let E = take n F in
    let apart = once (Call f j ts) h.can in
    let stood : Holds (without B j) E A W p (Call f j ts) = subst (λ i. Stood B i E A W p (Call f j ts)) is h.stood in
    let same : (k : ℕ) → StandsIn k ts → without B j k ≡ B k =
    λ k st. ap (λ b. cond b None (B k)) (ne_eqb j k (λ q. apart.1 (subst (λ i. StandsIn i ts) (sym q) st))) in
    record {
      word = back ∙ (shown_call (B j) ∙ ap word_of (step.answer_call B E ts f j));
      own = back;
      below = (stood.1.0 ∙ all_local (without B j) B E ts same, below_in_local (without B j) B E A W (p + 1) ts stood.1.1 same);
      only = only_none;
    }

module _ {S : List Stage} {P : List Place} {A A' : Asks} {F : List Word} {W W' : List Kept} {n p : ℕ} {news : Option ℕ} where
  pub looks_shut : {c a b : Term} → MayLook S P A F W n p news (If c a b) → Finds S A A' F W W' n (p + 1) c None → Looks S A A' F W W' n p (If c a b) code.TheVariants.Shut
  unfolding Below BelowIn Stands StandsIn Once OnceIn
  looks_shut {c} {a} {b} h fc =
      let B = back_at S in
      let E = take n F in
      let apart = once (If c a b) h.can in
      let word : None ≡ word_of (answer B E (If c a b)) = ap word_of (step.answer_if_not B E c a b fc.word) in
      record {
        word = word;
        own = (word, ap is_some fc.word);
        below = λ calls. (
          fc.holds,
          λ s. absurd (none_first (answer B E c) fc.word s),
          λ s. unasked_still fc.only (rest_first B E A W p news c a b calls h.stood s) (λ k x y. apart.3 k y (inl x)),
          λ s. absurd (none_second (answer B E c) fc.word s),
          λ s. unasked_still fc.only (rest_second B E A W p news c a b calls h.stood s) (λ k x y. apart.3 k y (inr x)),
        );
        only = only_more fc.only (omega arith) (omega arith) (λ k z. inl z);
      }

  pub looks_let_shut : {ts : Terms} {b : Term} → MayLook S P A F W n p news (Let ts b) → FindsAll S A A' F W W' n (p + 1 + nodes b) ts None → Looks S A A' F W W' n p (Let ts b) code.TheVariants.Shut
  unfolding Below BelowIn Stands StandsIn Once OnceIn
  looks_let_shut {ts} {b} h fs =
      let B = back_at S in
      let E = take n F in
      let apart = once (Let ts b) h.can in
      let word : None ≡ word_of (answer B E (Let ts b)) = ap word_of (step.answer_let_not B E ts b fs.words) in
      record {
        word = word;
        own = (word, sym (ap is_some fs.words));
        below = λ calls. (
          fs.holds,
          λ vs g. absurd (some_none vs (sym g ∙ fs.words)),
          λ g. unasked_still fs.only (rest_body B E A W p news ts b calls h.stood g) (λ k x y. apart.2 k y x),
        );
        only = only_more fs.only (omega arith) (omega arith) (λ k z. inl z);
      }

  -- the call is asked for with its arguments
  pub looks_asked : {f j : ℕ} {ts : Terms} {x : Kept} (vs : List Word) → MayLook S P A F W n p news (Call f j ts) → FindsAll S A A' F W W' n (p + 1) ts (Some vs) → j < length A'
      → {A'' : Asks} {o : Option (List Word)} → o ≡ Some vs → A'' ≡ slice_set A' j o → word_kept x ≡ back_at S j → Looks S A A'' F W W' n p (Call f j ts) x
  unfolding Below BelowIn Stands StandsIn Once OnceIn
  looks_asked {f} {j} {ts} {x} vs h fs lt {A''} {o} q e back =
      let B = back_at S in
      let E = take n F in
      let apart = once (Call f j ts) h.can in
      let off : (k : ℕ) → (k ≡ j → ⊥) → get_or A'' k None ≡ get_or A' k None = λ k ne. ap (λ (l : Asks). get_or l k None) e ∙ get_or-set_other A' j k o None ne in
      record {
        word = back ∙ (shown_call (B j) ∙ ap word_of (step.answer_call B E ts f j));
        own = back;
        below = (
          ap (λ (l : Asks). get_or l j None) e ∙ (get_or-set_same A' j o None lt ∙ (q ∙ sym fs.words)),
          part.below_in_same B E A' A'' W' (p + 1) ts fs.holds (λ k st. off k (λ z. apart.1 (subst (λ i. StandsIn i ts) z st))),
        );
        only = record {
          below = λ r m. fs.only.below r (omega (arith, m));
          above = λ r m. fs.only.above r (omega (arith, m));
          asks = λ k m. off k (λ z. m (inl (sym z))) ∙ fs.only.asks k (λ z. m (inr z));
        };
      }

  pub looks_unasked : {f j : ℕ} {ts : Terms} {x : Kept} → MayLook S P A F W n p news (Call f j ts) → FindsAll S A A' F W W' n (p + 1) ts None →
      word_kept x ≡ back_at S j → Looks S A A' F W W' n p (Call f j ts) x
  unfolding Below BelowIn Stands StandsIn Once OnceIn
  looks_unasked {f} {j} {ts} {x} h fs back =
      let B = back_at S in
      let E = take n F in
      let apart = once (Call f j ts) h.can in
      record {
        word = back ∙ (shown_call (B j) ∙ ap word_of (step.answer_call B E ts f j));
        own = back;
        below = (fs.only.asks j apart.1 ∙ (part.unasked_call_site B E A W p news f j ts h.stood (λ vs g. some_none vs (sym g ∙ fs.words)) ∙ sym fs.words), fs.holds);
        only = only_more fs.only (omega arith) (omega arith) (λ k z. inr z);
      }

  pub finds_more : {A'' : Asks} {G : List Word} {W'' : List Kept} {t : Term} {ts : Terms} {o : Option Word} {os : Option (List Word)} {q : ℕ} →
      MayLookAll S P A F W n p news (Cons t ts) → Finds S A A' F W W' n p t o
      → take n G ≡ take n F → q ≡ p + nodes t → FindsAll S A' A'' G W' W'' n q ts os → {r : Option (List Word)} → answers (back_at S) (take n F)
      (Cons t ts) ≡ r → FindsAll S A A'' F W W'' n p (Cons t ts) r
  unfolding Below BelowIn Stands StandsIn Once OnceIn
  finds_more {A''} {G} {W''} {t} {ts} {o} {os} {q} h ft d e fs g =
      let B = back_at S in
      let E = take n F in
      let apart = once_in (Cons t ts) h.can in
      let rest = subst (λ l. BelowIn B l A'' W'' (p + nodes t) ts) d (subst (λ i. BelowIn B (take n G) A'' W'' i ts) e fs.holds) in
      let only = subst (λ i. Only i (i + nodes_in ts) (λ k. StandsIn k ts) A' A'' W' W'') e fs.only in
      record {
        words = g;
        holds = (holds_still only B E _ _ ft.holds (inl (omega arith)) (λ k x y. apart.2 k x y), rest);
        only = only_both (only_more ft.only (omega arith) (omega arith) (λ k z. inl z)) (only_more only (omega arith) (omega arith) (λ k z. inr z));
      }

module _ {S : List Stage} {A : Asks} {F : List Word} {W : List Kept} {n p : ℕ} where
  pub looks_const : (w : Word) {x : Kept} → word_kept x ≡ Some w → Looks S A A F W W n p (Const w) x
  unfolding Below BelowIn Stands StandsIn Once OnceIn
  looks_const w e = record { word = e ∙ ap word_of (sym (step.answer_const (back_at S) (take n F) w)); own = tt; below = tt; only = only_none }

  pub looks_var : (i : ℕ) {x : Kept} → word_kept x ≡ word_of (answer (back_at S) (take n F) (Var i)) → Looks S A A F W W n p (Var i) x
  unfolding Below BelowIn Stands StandsIn Once OnceIn
  looks_var i e = record { word = e; own = tt; below = tt; only = only_none }

  pub finds_const : (w : Word) {o : Option Word} → o ≡ Some w → Finds S A A F W W n p (Const w) o
  unfolding Below BelowIn Stands StandsIn Once OnceIn
  finds_const w e = record { word = e ∙ ap word_of (sym (step.answer_const (back_at S) (take n F) w)); holds = (tt, tt); only = only_none }

  pub finds_var : (i : ℕ) {o : Option Word} → o ≡ word_of (answer (back_at S) (take n F) (Var i)) → Finds S A A F W W n p (Var i) o
  unfolding Below BelowIn Stands StandsIn Once OnceIn
  finds_var i e = record { word = e; holds = (tt, tt); only = only_none }

  pub finds_nil : {r : Option (List Word)} → Some [] ≡ r → FindsAll S A A F W W n p Nil r
  unfolding Below BelowIn Stands StandsIn Once OnceIn
  finds_nil e = record { words = step.answers_nil (back_at S) (take n F) ∙ e; holds = tt; only = only_none }
