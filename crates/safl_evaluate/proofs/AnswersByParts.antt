-- What a term comes to and wants, by its parts.
use Rattle.safl_evaluate.proofs.Common.{Primitive, false≢true, nodes_in, pick_other, shown_term, shown_terms, some_none}
use Rattle.std.proofs.Common.{◌≡◌, ℕ, zero, suc, ◌+◌, ◌<◌, ◌≤◌, List, [], ◌∷◌, ◌++◌, length, take, drop, cond, Option, Some, None, Bool, true, IsTrue, slice_get}
use Rattle.std.proofs.Common.{false, get_or, slice_set, refl, sym, ap, ◌∙◌, subst, arith, add-one}
use Rattle.std.proofs.lemmas.List.{drop-set, get_or-take, get_or_read, length-take, take-take}
use Rattle.std.proofs.Math.Seq.{take-add}
use Rattle.safl_word.specs.Words.{Word, slot, pick, no_word}
use Rattle.safl_word.proofs.Lists.{slice_set_here}
use Rattle.safl_term.specs.Readiness.{Answer, Ready, LoopTo, NotYet, answer, answers, select, with_all, both, apply_to, loop_to, ready_from, word_of}
use Rattle.safl_term.specs.Terms.{Term, Const, Var, If, Let, Op, Call, Loop, Terms, Nil, Cons}
use Rattle.safl_term.specs.declared.term.Term as declared
use Rattle.safl_term.proofs.Once.{count}
use Rattle.safl_term.proofs.PlainTerms.{loop_word, some_nodes}

-- one word before others
abbrev pub joined : Word → Option (List Word) → Option (List Word)
joined v o = both (Ready v) o

-- ---- an answer by its word

ready_as : (q : Answer) (v : Word) → Some v ≡ word_of q → Ready v ≡ q
ready_as (Ready w) v e = ap ready_from e
ready_as (LoopTo h vs) v e = absurd (some_none v e)
ready_as NotYet v e = absurd (some_none v e)

select_not : {A : Type 0} (q : Answer) (none a b : A) → None ≡ word_of q → select q none a b ≡ none
select_not (Ready w) none a b e = absurd (some_none w (sym e))
select_not (LoopTo h vs) none a b e = refl
select_not NotYet none a b e = refl

both_not : (q : Answer) (o : Option (List Word)) → None ≡ word_of q → both q o ≡ None
both_not (Ready w) o e = absurd (some_none w (sym e))
both_not (LoopTo h vs) o e = refl
both_not NotYet o e = refl

-- a primitive and a site come to a word or to nothing yet, and a tail call to no word
applied_word : (p : Primitive) (o : Option (List Word)) → ready_from (word_of (apply_to p o)) ≡ apply_to p o
applied_word p None = refl
applied_word p (Some vs) = refl

back_word_from : (o : Option Word) → ready_from (word_of (ready_from o)) ≡ ready_from o
back_word_from None = refl
back_word_from (Some v) = refl

module _ (B : ℕ → Option Word) where
  pub answer_is : {E F : List Word} {t u : Term} → E ≡ F → t ≡ u → answer B E t ≡ answer B F u
  answer_is {E} {F} {t} {u} e f = ap (λ l. answer B l t) e ∙ ap (answer B F) f

  pub answers_is : {E F : List Word} {t u : Terms} → E ≡ F → t ≡ u → answers B E t ≡ answers B F u
  answers_is {E} {F} {t} {u} e f = ap (λ l. answers B l t) e ∙ ap (answers B F) f

module _ (B : ℕ → Option Word) (E : List Word) where
  pub answer_const : (w : Word) → answer B E (Const w) ≡ Ready w
  unfolding answer
  answer_const w = refl

  pub answer_var : (i : ℕ) → answer B E (Var i) ≡ Ready (slot E i)
  unfolding answer
  answer_var i = refl

  module _ (c a b : Term) where
    pub answer_then : (v : Word) → Some v ≡ word_of (answer B E c) → v.bits ≡ 1 → answer B E a ≡ answer B E (If c a b)
    unfolding answer
    answer_then v e one = sym (ap (λ q. select q NotYet (answer B E a) (answer B E b)) (sym (ready_as (answer B E c) v e)) ∙ ap (λ n. pick n (answer B E a) (answer B E b)) one)

    pub answer_else : (v : Word) → Some v ≡ word_of (answer B E c) → (v.bits ≡ 1 → ⊥) → answer B E b ≡ answer B E (If c a b)
    unfolding answer
    answer_else v e other = sym (ap (λ q. select q NotYet (answer B E a) (answer B E b)) (sym (ready_as (answer B E c) v e)) ∙ pick_other v.bits (answer B E a) (answer B E b) other)

    pub answer_if_not : None ≡ word_of (answer B E c) → NotYet ≡ answer B E (If c a b)
    unfolding answer
    answer_if_not e = sym (select_not (answer B E c) NotYet (answer B E a) (answer B E b) e)

  module _ (ts : Terms) where
    pub answer_let : (b : Term) (vs : List Word) → answers B E ts ≡ Some vs → answer B (E ++ vs) b ≡ answer B E (Let ts b)
    unfolding answer
    answer_let b vs e = sym (ap (λ o. with_all o NotYet (λ us. answer B (E ++ us) b)) e)

    pub answer_let_not : (b : Term) → answers B E ts ≡ None → NotYet ≡ answer B E (Let ts b)
    unfolding answer
    answer_let_not b e = sym (ap (λ o. with_all o NotYet (λ us. answer B (E ++ us) b)) e)

    pub answer_op : (p : Primitive) → apply_to p (answers B E ts) ≡ answer B E (Op p ts)
    unfolding answer
    answer_op p = refl

    pub answer_loop : (h : ℕ) (vs : List Word) → answers B E ts ≡ Some vs → LoopTo h vs ≡ answer B E (Loop h ts)
    unfolding answer
    answer_loop h vs e = sym (ap (loop_to h) e)

    pub answer_loop_not : (h : ℕ) → answers B E ts ≡ None → NotYet ≡ answer B E (Loop h ts)
    unfolding answer
    answer_loop_not h e = sym (ap (loop_to h) e)

    pub settled_op : {t : Term} (p : Primitive) → t ≡ Op p ts → ready_from (word_of (answer B E t)) ≡ answer B E t
    unfolding answer
    settled_op {t} p e = subst (λ x. ready_from (word_of (answer B E x)) ≡ answer B E x) (sym e) (applied_word p (answers B E ts))

    pub settled_call : {t : Term} (f k : ℕ) → t ≡ Call f k ts → ready_from (word_of (answer B E t)) ≡ answer B E t
    unfolding answer
    settled_call {t} f k e = subst (λ x. ready_from (word_of (answer B E x)) ≡ answer B E x) (sym e) (back_word_from (B k))

    pub word_loop : (h : ℕ) → None ≡ word_of (answer B E (Loop h ts))
    unfolding answer
    word_loop h = loop_word h (answers B E ts)

    pub answer_call : (f k : ℕ) → ready_from (B k) ≡ answer B E (Call f k ts)
    unfolding answer
    answer_call f k = refl

    pub answers_more : (t : Term) (v : Word) (o : Option (List Word)) → Some v ≡ word_of (answer B E t) → answers B E ts ≡ o → answers B E (Cons t ts) ≡ both (Ready v) o
    unfolding answer
    answers_more t v o e f = ap (λ q. both q (answers B E ts)) (sym (ready_as (answer B E t) v e)) ∙ ap (both (Ready v)) f

    pub answers_not : (t : Term) → None ≡ word_of (answer B E t) → answers B E (Cons t ts) ≡ None
    unfolding answer
    answers_not t e = both_not (answer B E t) (answers B E ts) e

  pub answers_nil : answers B E Nil ≡ Some []
  unfolding answer
  answers_nil = refl

module _ (B : ℕ → Option Word) (E : List Word) where
  pub answers_one : (a : Term) (v : Word) → Some v ≡ word_of (answer B E a) → answers B E (Cons a Nil) ≡ Some (v ∷ [])
  answers_one a v e = answers_more B E Nil a v (Some []) e (answers_nil B E)

  pub answers_two : (a b : Term) (v w : Word) → Some v ≡ word_of (answer B E a) → Some w ≡ word_of (answer B E b) → answers B E (Cons a (Cons b Nil)) ≡ Some (v ∷ w ∷ [])
  answers_two a b v w e f = answers_more B E (Cons b Nil) a v (Some (w ∷ [])) e (answers_one b w f)

pub count_forest : (ts : List declared.Term) → count (shown_terms ts) ≡ length ts
count_forest [] = refl
count_forest (t ∷ ts) = ap suc (count_forest ts)

-- a list of one term, and of two
pub one_item : (ts : List declared.Term) (t : declared.Term) → 1 ≤ length ts → length ts < 2 → t ≡ get_or ts 0 t → ts ≡ t ∷ []
one_item [] t least most e = absurd (omega (arith, least))
one_item (u ∷ []) t least most e = ap (λ (x : declared.Term). x ∷ []) (sym e)
one_item (u ∷ (v ∷ ts)) t least most e = absurd (omega (arith, most))

pub two_items : (ts : List declared.Term) (t u : declared.Term) → 2 ≤ length ts → length ts < 3 → t ≡ get_or ts 0 t → u ≡ get_or ts 1 u → ts ≡ t ∷ u ∷ []
two_items [] t u least most e f = absurd (omega (arith, least))
two_items (x ∷ []) t u least most e f = absurd (omega (arith, least))
two_items (x ∷ (y ∷ [])) t u least most e f = ap (λ (z : declared.Term). z ∷ y ∷ []) (sym e) ∙ ap (λ (z : declared.Term). t ∷ z ∷ []) (sym f)
two_items (x ∷ (y ∷ (z ∷ ts))) t u least most e f = absurd (omega (arith, most))

-- the first word is put before those of the rest
pub words_more : (F : List Word) (at n : ℕ) (v : Word) (r : Bool) → at < length F → both (Ready v) (cond r (Some (take n (drop (at + 1) F))) None) ≡
    cond r (Some (take (suc n) (drop at (slice_set F at v)))) None
words_more F at n v false lt = refl
words_more F at n v true lt = ap Some (sym (ap (take (suc n)) (drop-set F at v lt)))

-- ---- lists of terms, and slots

pub forest_nodes : (ts : List declared.Term) → length ts ≤ nodes_in (shown_terms ts)
forest_nodes [] = omega arith
forest_nodes (t ∷ ts) = omega (arith, some_nodes (shown_term t), forest_nodes ts)

-- the word that was found last, where it was written
pub slot_set : (F : List Word) (at : ℕ) (v : Word) (r : Bool) {o : Option Word} → at < length F → IsTrue r → cond r (Some v) None ≡ o → slice_get (slice_set F at v) at ≡ o
slot_set F at v true within ready e = slice_set_here F at v within ∙ e
slot_set F at v false within ready e = absurd (false≢true ready)

-- the words of a list of terms, where that of the first was written before the others
first_and_rest : (F G : List Word) (at n : ℕ) {o : Option Word} → slice_get F at ≡ o → at < length F → take (suc at) G ≡ take (suc at) F
    → (v : Word) × (o ≡ Some v) × (both (Ready v) (Some (take n (drop (suc at) G))) ≡ Some (take (suc n) (drop at G)))
first_and_rest [] G at n e within same = absurd (omega (arith, within))
first_and_rest (x ∷ F) [] at n e within same = absurd (omega (arith, ap length same))
first_and_rest (x ∷ F) (y ∷ G) zero n e within same = let g : y ≡ x = cc in (x, sym e, ap (λ (w : Word). Some (w ∷ take n G)) (sym g))
first_and_rest (x ∷ F) (y ∷ G) (suc at) n e within same = let g : take (suc at) G ≡ take (suc at) F = cc in first_and_rest F G at n e (omega (arith, within)) g

pub words_known : (F G : List Word) (at n : ℕ) {o : Option Word} → slice_get F at ≡ o → at < length F → take (at + 1) G ≡ take (at + 1) F
    → (v : Word) × (o ≡ Some v) × (both (Ready v) (Some (take n (drop (at + 1) G))) ≡ Some (take (suc n) (drop at G)))
words_known F G at n e within same =
    let k = add-one at in
    let r = first_and_rest F G at n e within (ap (λ (j : ℕ). take j G) (sym k) ∙ same ∙ ap (λ (j : ℕ). take j F) k) in
    (r.0, r.1, ap (λ (j : ℕ). both (Ready r.0) (Some (take n (drop j G)))) k ∙ r.2)

-- the first words of a list are those of the other too if more are
pub take_fewer : (F G : List Word) (n m : ℕ) → n ≤ m → take m F ≡ take m G → take n F ≡ take n G
take_fewer F G n m le e = sym (take-take n m F le) ∙ ap (take n) e ∙ take-take n m G le

-- the word of a slot
pub slot_is : (F : List Word) (n i : ℕ) (v : Word) → i < length (take n F) → v ≡ get_or F i v → v ≡ slot (take n F) i
slot_is F n i v lt e =
    let l = length-take n F in
    let under : i < n = omega (arith, l, lt) in
    let within : i < length F = omega (arith, l, lt) in
    get_or_read F i v within e no_word ∙ sym (get_or-take n F i no_word under)

pub slots_and : (F E : List Word) (n m : ℕ) → take n F ≡ E → take (n + m) F ≡ E ++ take m (drop n F)
slots_and F E n m e = take-add n m F ∙ ap (λ l. l ++ take m (drop n F)) e

pub slots_kept : (F G : List Word) (n m : ℕ) → take (n + m) F ≡ take (n + m) G → take n F ≡ take n G
slots_kept F G n m e = sym (fewer F n m) ∙ (ap (take n) e ∙ fewer G n m)
  where
    fewer : (H : List Word) (n m : ℕ) → take n (take (n + m) H) ≡ take n H
    fewer H n m = take-take n (n + m) H (omega arith)

pub part_few : (n : ℕ) (F : List Word) → length (take n F) ≤ n
part_few n F = omega (arith, length-take n F)
