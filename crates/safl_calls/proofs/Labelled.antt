-- What running twins say and want, where words that are not public differ.
use Rattle.safl_calls.proofs.Common.{Program, Spans, SpansAll, Word, apply_prim, cases_eq, eq-eqb, false≢true, ne_eqb, pick, slot}
use Rattle.std.proofs.Common.{◌≡◌, ℕ, zero, suc, ◌<◌, List, [], ◌∷◌, ◌++◌, Option, Some, None, Bool, true, false, cond, ◌==◌, is_some, refl, sym, ap, ◌∙◌, subst, inl, inr, ◌⊎◌, arith}
use Rattle.std.specs.Prelude.{unwrap_or}
use Rattle.safl_calls.proofs.Labels.{alike_append, alike_slot, alike_all, pick_any, pick_left, pick_right, pick_same}
use Rattle.safl_calls.specs.Labels.{Labels, Twins, t_const, t_var, t_plain, t_op, t_if, t_choose, t_left, t_right, t_let, t_call, t_loop, AllTwins, t_nil, t_cons}
use Rattle.safl_calls.specs.Labels.{Alike, IsPlainTerm, p_const, p_var, p_op, p_if, p_let, ArePlain, p_nil, p_cons}
use Rattle.safl_calls.specs.Picks.{first}
use Rattle.safl_term.specs.Readiness.{apply_to, Answer, Ready, LoopTo, NotYet, answer, answers, wanted, wanted_in, both, select, with_all, ready_from, or_else, word_of}
use Rattle.safl_term.specs.Terms.{Term, Terms, Const, Var, Op, If, Let, Call, Loop, Nil, Cons}

-- two lists of words, or none twice
abbrev pub ListsAlike : List Bool → Option (List Word) → Option (List Word) → Type 0
ListsAlike ls None None = Unit {0}
ListsAlike ls (Some vs) (Some ws) = Alike ls vs ws
ListsAlike ls _ _ = ⊥

-- two words, or none twice
abbrev pub WordsAlike : Bool → Option Word → Option Word → Type 0
WordsAlike b None None = Unit {0}
WordsAlike b (Some v) (Some w) = b ≡ true → v ≡ w
WordsAlike b _ _ = ⊥

abbrev pub AnswersAlike : Labels → Bool → Answer → Answer → Type 0
AnswersAlike L b (Ready v) (Ready w) = b ≡ true → v ≡ w
AnswersAlike L b (LoopTo h vs) (LoopTo g ws) = (h ≡ g) × Alike (L.params h) vs ws
AnswersAlike L b NotYet NotYet = Unit {0}
AnswersAlike L b _ _ = ⊥

pub lists_some : (ls : List Bool) (o p : Option (List Word)) → ListsAlike ls o p → is_some o ≡ is_some p
lists_some ls None None h = refl
lists_some ls None (Some w) h = absurd h
lists_some ls (Some v) None h = absurd h
lists_some ls (Some v) (Some w) h = refl

pub words_some : (b : Bool) (o p : Option Word) → WordsAlike b o p → is_some o ≡ is_some p
words_some b None None h = refl
words_some b None (Some w) h = absurd h
words_some b (Some v) None h = absurd h
words_some b (Some v) (Some w) h = refl

pub lists_or : (ls : List Bool) (o o' p p' : Option (List Word)) → ListsAlike ls o o' → ListsAlike ls p p' → ListsAlike ls (or_else o p) (or_else o' p')
lists_or ls None None p p' h k = k
lists_or ls None (Some w) p p' h k = absurd h
lists_or ls (Some v) None p p' h k = absurd h
lists_or ls (Some v) (Some w) p p' h k = h

pub words_or : (b : Bool) (o o' p p' : Option Word) → WordsAlike b o o' → WordsAlike b p p' → WordsAlike b (or_else o p) (or_else o' p')
words_or b None None p p' h k = k
words_or b None (Some w) p p' h k = absurd h
words_or b (Some v) None p p' h k = absurd h
words_or b (Some v) (Some w) p p' h k = h

pub lists_if : (ls : List Bool) (a b : Bool) (o o' : Option (List Word)) → a ≡ b → (a ≡ true → ListsAlike ls o o') → ListsAlike ls (cond a o None) (cond b o' None)
lists_if ls true true o o' e h = h refl
lists_if ls false false o o' e h = tt
lists_if ls true false o o' e h = absurd (false≢true (sym e))
lists_if ls false true o o' e h = absurd (false≢true e)

pub words_if : (m a b : Bool) (o o' : Option Word) → a ≡ b → (a ≡ true → WordsAlike m o o') → WordsAlike m (cond a o None) (cond b o' None)
words_if m true true o o' e h = h refl
words_if m false false o o' e h = tt
words_if m true false o o' e h = absurd (false≢true (sym e))
words_if m false true o o' e h = absurd (false≢true e)

pub first_lists : (ls : List Bool) (g h : ℕ → Option (List Word)) (n : ℕ) → ((k : ℕ) → k < n → ListsAlike ls (g k) (h k)) → ListsAlike ls (first g n) (first h n)
unfolding first
first_lists ls g h zero e = tt
first_lists ls g h (suc n) e = lists_or ls (first g n) (first h n) (g n) (h n) (first_lists ls g h n (λ k lt. e k (omega arith))) (e n (omega arith))

pub first_words : (b : Bool) (g h : ℕ → Option Word) (n : ℕ) → ((k : ℕ) → k < n → WordsAlike b (g k) (h k)) → WordsAlike b (first g n) (first h n)
unfolding first
first_words b g h zero e = tt
first_words b g h (suc n) e = words_or b (first g n) (first h n) (g n) (h n) (first_words b g h n (λ k lt. e k (omega arith))) (e n (omega arith))

pub lists_unwrap : (ls : List Bool) (o o' : Option (List Word)) (vs ws : List Word) → ListsAlike ls o o' → (o ≡ None → Alike ls vs ws) → Alike ls (unwrap_or o vs) (unwrap_or o' ws)
lists_unwrap ls None None vs ws h k = k refl
lists_unwrap ls None (Some x) vs ws h k = absurd h
lists_unwrap ls (Some x) None vs ws h k = absurd h
lists_unwrap ls (Some x) (Some y) vs ws h k = h

pub words_unwrap : (b : Bool) (o o' : Option Word) (v w : Word) → WordsAlike b o o' → (o ≡ None → b ≡ true → v ≡ w) → b ≡ true → unwrap_or o v ≡ unwrap_or o' w
words_unwrap b None None v w h k up = k refl up
words_unwrap b None (Some x) v w h k up = absurd h
words_unwrap b (Some x) None v w h k up = absurd h
words_unwrap b (Some x) (Some y) v w h k up = h up

pub word_alike : (L : Labels) (b : Bool) (a a' : Answer) → AnswersAlike L b a a' → WordsAlike b (word_of a) (word_of a')
word_alike L b (Ready v) (Ready w) h = h
word_alike L b (Ready v) (LoopTo g ws) h = absurd h
word_alike L b (Ready v) NotYet h = absurd h
word_alike L b (LoopTo g ws) (Ready v) h = absurd h
word_alike L b (LoopTo g ws) (LoopTo h' vs) h = tt
word_alike L b (LoopTo g ws) NotYet h = absurd h
word_alike L b NotYet (Ready v) h = absurd h
word_alike L b NotYet (LoopTo g ws) h = absurd h
word_alike L b NotYet NotYet h = tt

-- two conditions with the same answer select the same branches
select_same : {A : Type 0} (R : A → A → Type 0) (L : Labels) (a c : Answer) (none x y u v : A) → AnswersAlike L true a c → R none none → R x u → R y v
    → R (select a none x y) (select c none u v)
select_same R L (Ready v) (Ready w) none x y u z h n k l = pick_same R v.bits w.bits x y u z (ap (λ (q : Word). q.bits) (h refl)) k l
select_same R L (Ready v) (LoopTo g ws) none x y u z h n k l = absurd h
select_same R L (Ready v) NotYet none x y u z h n k l = absurd h
select_same R L (LoopTo g ws) (Ready v) none x y u z h n k l = absurd h
select_same R L (LoopTo g ws) (LoopTo g' vs) none x y u z h n k l = n
select_same R L (LoopTo g ws) NotYet none x y u z h n k l = absurd h
select_same R L NotYet (Ready v) none x y u z h n k l = absurd h
select_same R L NotYet (LoopTo g ws) none x y u z h n k l = absurd h
select_same R L NotYet NotYet none x y u z h n k l = n

-- two conditions that are ready together may select any branches
select_any : {A : Type 0} (R : A → A → Type 0) (L : Labels) (a c : Answer) (none x y u v : A) → AnswersAlike L false a c → R none none
    → R x u → R x v → R y u → R y v → R (select a none x y) (select c none u v)
select_any R L (Ready v) (Ready w) none x y u z h n xu xz yu yz = pick_any R v.bits w.bits x y u z xu xz yu yz
select_any R L (Ready v) (LoopTo g ws) none x y u z h n xu xz yu yz = absurd h
select_any R L (Ready v) NotYet none x y u z h n xu xz yu yz = absurd h
select_any R L (LoopTo g ws) (Ready v) none x y u z h n xu xz yu yz = absurd h
select_any R L (LoopTo g ws) (LoopTo g' vs) none x y u z h n xu xz yu yz = n
select_any R L (LoopTo g ws) NotYet none x y u z h n xu xz yu yz = absurd h
select_any R L NotYet (Ready v) none x y u z h n xu xz yu yz = absurd h
select_any R L NotYet (LoopTo g ws) none x y u z h n xu xz yu yz = absurd h
select_any R L NotYet NotYet none x y u z h n xu xz yu yz = n

with_answers : (L : Labels) (b : Bool) (ms : List Bool) (o o' : Option (List Word)) (f g : List Word → Answer) → ListsAlike ms o o'
    → ((vs ws : List Word) → Alike ms vs ws → AnswersAlike L b (f vs) (g ws)) → AnswersAlike L b (with_all o NotYet f) (with_all o' NotYet g)
with_answers L b ms None None f g h k = tt
with_answers L b ms None (Some ws) f g h k = absurd h
with_answers L b ms (Some vs) None f g h k = absurd h
with_answers L b ms (Some vs) (Some ws) f g h k = k vs ws h

with_lists : (ls ms : List Bool) (o o' : Option (List Word)) (f g : List Word → Option (List Word)) → ListsAlike ms o o'
    → ((vs ws : List Word) → Alike ms vs ws → ListsAlike ls (f vs) (g ws)) → ListsAlike ls (with_all o None f) (with_all o' None g)
with_lists ls ms None None f g h k = tt
with_lists ls ms None (Some ws) f g h k = absurd h
with_lists ls ms (Some vs) None f g h k = absurd h
with_lists ls ms (Some vs) (Some ws) f g h k = k vs ws h

from_word : (L : Labels) (b m : Bool) (o o' : Option Word) → WordsAlike m o o' → (b ≡ true → m ≡ true) → AnswersAlike L b (ready_from o) (ready_from o')
from_word L b m None None h k = tt
from_word L b m None (Some w) h k = absurd h
from_word L b m (Some v) None h k = absurd h
from_word L b m (Some v) (Some w) h k = λ z. h (k z)

both_lists : (L : Labels) (b : Bool) (bs : List Bool) (a a' : Answer) (o o' : Option (List Word)) → AnswersAlike L b a a' → ListsAlike bs o o' → ListsAlike (b ∷ bs) (both a o) (both a' o')
both_lists L b bs (Ready v) (Ready w) None None h k = tt
both_lists L b bs (Ready v) (Ready w) None (Some ws) h k = absurd k
both_lists L b bs (Ready v) (Ready w) (Some vs) None h k = absurd k
both_lists L b bs (Ready v) (Ready w) (Some vs) (Some ws) h k = (h, k)
both_lists L b bs (Ready v) (LoopTo g ws) o o' h k = absurd h
both_lists L b bs (Ready v) NotYet o o' h k = absurd h
both_lists L b bs (LoopTo g ws) (Ready v) o o' h k = absurd h
both_lists L b bs (LoopTo g ws) (LoopTo g' vs) o o' h k = tt
both_lists L b bs (LoopTo g ws) NotYet o o' h k = absurd h
both_lists L b bs NotYet (Ready v) o o' h k = absurd h
both_lists L b bs NotYet (LoopTo g ws) o o' h k = absurd h
both_lists L b bs NotYet NotYet o o' h k = tt

-- an answer is a word
abbrev IsReady : Answer → Type 0
IsReady a = (v : Word) × (a ≡ Ready v)

ready_pick : (n : ℕ) (x y : Answer) → IsReady x → IsReady y → IsReady (pick n x y)
ready_pick zero x y h k = k
ready_pick (suc zero) x y h k = h
ready_pick (suc (suc n)) x y h k = k

ready_alike : (L : Labels) (a c : Answer) → IsReady a → IsReady c → AnswersAlike L false a c
ready_alike L a c h k = subst (λ z. AnswersAlike L false z c) (sym h.1) (subst (λ z. AnswersAlike L false (Ready h.0) z) (sym k.1) (λ z. absurd (false≢true z)))

-- a condition that is ready selects a branch
select_left : {A : Type 0} (R : A → A → Type 0) (a : Answer) (none x y u : A) → IsReady a → R x u → R y u → R (select a none x y) u
select_left R a none x y u h k l = subst (λ z. R (select z none x y) u) (sym h.1) (pick_left R h.0.bits x y u k l)

select_right : {A : Type 0} (R : A → A → Type 0) (a : Answer) (none x u v : A) → IsReady a → R x u → R x v → R x (select a none u v)
select_right R a none x u v h k l = subst (λ z. R x (select z none u v)) (sym h.1) (pick_right R h.0.bits x u v k l)

-- a plain term is ready, and wants nothing
mutual
  unfolding answer

  plain_ready : (back : ℕ → Option Word) (env : List Word) (t : Term) → IsPlainTerm t → IsReady (answer back env t)
  plain_ready back env (Const w) p_const = (w, refl)
  plain_ready back env (Var i) p_var = (slot env i, refl)
  plain_ready back env (Op o ts) (p_op h) = let r = plain_readies back env ts h in (apply_prim o r.0, ap (apply_to o) r.1)
  plain_ready back env (If c x y) (p_if h k l) =
      let r = plain_ready back env c h in
      let q = ready_pick r.0.bits (answer back env x) (answer back env y) (plain_ready back env x k) (plain_ready back env y l) in
      (q.0, ap (λ a. select a NotYet (answer back env x) (answer back env y)) r.1 ∙ q.1)
  plain_ready back env (Let ts y) (p_let h k) =
      let r = plain_readies back env ts h in
      let q = plain_ready back (env ++ r.0) y k in
      (q.0, ap (λ o. with_all o NotYet (λ vs. answer back (env ++ vs) y)) r.1 ∙ q.1)
  plain_ready back env (Call f k ts) h = elim h [ ]
  plain_ready back env (Loop f ts) h = elim h [ ]

  plain_readies : (back : ℕ → Option Word) (env : List Word) (ts : Terms) → ArePlain ts → (vs : List Word) × (answers back env ts ≡ Some vs)
  plain_readies back env Nil p_nil = ([], refl)
  plain_readies back env (Cons t ts) (p_cons h hs) =
      let r = plain_ready back env t h in
      let q = plain_readies back env ts hs in
      (r.0 ∷ q.0, ap (λ a. both a (answers back env ts)) r.1 ∙ ap (both (Ready r.0)) q.1)

select_none : (a : Answer) (p q : Option (List Word)) → p ≡ None → q ≡ None → select a None p q ≡ None
select_none (Ready v) p q h k = by v.bits
  where
    by : (n : ℕ) → pick n p q ≡ None
    by zero = k
    by (suc zero) = h
    by (suc (suc n)) = k
select_none (LoopTo g ws) p q h k = refl
select_none NotYet p q h k = refl

with_nothing : (o : Option (List Word)) (f : List Word → Option (List Word)) → ((vs : List Word) → f vs ≡ None) → with_all o None f ≡ None
with_nothing None f h = refl
with_nothing (Some vs) f h = h vs

or_none : (o p : Option (List Word)) → o ≡ None → p ≡ None → or_else o p ≡ None
or_none o p e f = ap (λ x. or_else x p) e ∙ f

mutual
  unfolding wanted

  plain_wants : (back : ℕ → Option Word) (env : List Word) (t : Term) (k : ℕ) → IsPlainTerm t → wanted back env t k ≡ None
  plain_wants back env (Const w) k p_const = refl
  plain_wants back env (Var i) k p_var = refl
  plain_wants back env (Op o ts) k (p_op h) = plain_wants_in back env ts k h
  plain_wants back env (If c x y) k (p_if h l m) =
      or_none (wanted back env c k) _ (plain_wants back env c k h)
      (select_none (answer back env c) (wanted back env x k) (wanted back env y k) (plain_wants back env x k l) (plain_wants back env y k m))
  plain_wants back env (Let ts y) k (p_let h l) =
      or_none (wanted_in back env ts k) _ (plain_wants_in back env ts k h) (with_nothing (answers back env ts) (λ vs. wanted back (env ++ vs) y k) (λ vs. plain_wants back (env ++ vs) y k l))
  plain_wants back env (Call f j ts) k h = elim h [ ]
  plain_wants back env (Loop f ts) k h = elim h [ ]

  plain_wants_in : (back : ℕ → Option Word) (env : List Word) (ts : Terms) (k : ℕ) → ArePlain ts → wanted_in back env ts k ≡ None
  plain_wants_in back env Nil k p_nil = refl
  plain_wants_in back env (Cons t ts) k (p_cons h hs) = or_none (wanted back env t k) (wanted_in back env ts k) (plain_wants back env t k h) (plain_wants_in back env ts k hs)

lists_none : (ls : List Bool) (o p : Option (List Word)) → o ≡ None → p ≡ None → ListsAlike ls o p
lists_none ls o p e f = subst (λ z. ListsAlike ls z p) (sym e) (subst (λ z. ListsAlike ls None z) (sym f) tt)

-- the returned words of two bodies
abbrev pub BacksAlike : Program → Labels → (ℕ → Option Word) → (ℕ → Option Word) → Type 0
BacksAlike p L x y = (k : ℕ) → WordsAlike (L.result (p.callee k)) (x k) (y k)

module _ (p : Program) (L : Labels) (x y : ℕ → Option Word) (backs : BacksAlike p L x y) (g : ℕ) where
  -- twins have answers that are alike; g's body has the first one
  mutual
    unfolding answer

    pub answers_alike : (ls : List Bool) (env other : List Word) {t u : Term} (b tail : Bool) (lo hi : ℕ) → Alike ls env other → Twins L ls t u b
        → Spans p g tail lo hi t → AnswersAlike L b (answer x env t) (answer y other u)
    answers_alike ls env other b tail lo hi h t_const sp = λ z. refl
    answers_alike ls env other b tail lo hi h (t_var {i = i} q) sp = λ z. alike_slot ls env other i h (q z)
    answers_alike ls env other {t = t} {u = u} b tail lo hi h (t_plain k l) sp = ready_alike L (answer x env t) (answer y other u) (plain_ready x env t k) (plain_ready y other u l)
    answers_alike ls env other b tail lo hi h (t_op {ms = ms} {o = o} {ts = ts} {us = us} ks q) sp =
        with_answers L b ms (answers x env ts) (answers y other us) (λ vs. Ready (apply_prim o vs)) (λ vs. Ready (apply_prim o vs))
        (all_alike ls env other ms lo hi h ks sp) (λ vs ws a. λ z. ap (apply_prim o) (alike_all ms vs ws a (q z)))
    answers_alike ls env other b tail lo hi h (t_if {c = c} {d = c'} {x = a} {y = d} {u = a'} {v = d'} kc ka kd) (m, n, s1, s2, s3) =
        select_same (AnswersAlike L b) L (answer x env c) (answer y other c') NotYet (answer x env a) (answer x env d) (answer y other a') (answer y other d')
        (answers_alike ls env other true false lo m h kc s1) tt
        (answers_alike ls env other b tail m n h ka s2) (answers_alike ls env other b tail n hi h kd s3)
    answers_alike ls env other b tail lo hi h (t_choose {c = c} {d = c'} {x = a} {y = d} {u = a'} {v = d'} kc aa ad da dd) (m, n, s1, s2, s3) =
        select_any (AnswersAlike L b) L (answer x env c) (answer y other c') NotYet (answer x env a) (answer x env d) (answer y other a') (answer y other d')
        (answers_alike ls env other false false lo m h kc s1) tt
        (answers_alike ls env other b tail m n h aa s2) (answers_alike ls env other b tail m n h ad s2)
        (answers_alike ls env other b tail n hi h da s3) (answers_alike ls env other b tail n hi h dd s3)
    answers_alike ls env other {u = u} b tail lo hi h (t_left {c = c} {x = a} {y = d} k ka kd) (m, n, s1, s2, s3) =
        select_left (AnswersAlike L b) (answer x env c) NotYet (answer x env a) (answer x env d) (answer y other u) (plain_ready x env c k)
        (answers_alike ls env other b tail m n h ka s2) (answers_alike ls env other b tail n hi h kd s3)
    answers_alike ls env other {t = t} b tail lo hi h (t_right {c = c} {u = a} {v = d} k ka kd) sp =
        select_right (AnswersAlike L b) (answer y other c) NotYet (answer x env t) (answer y other a) (answer y other d) (plain_ready y other c k)
        (answers_alike ls env other b tail lo hi h ka sp) (answers_alike ls env other b tail lo hi h kd sp)
    answers_alike ls env other b tail lo hi h (t_let {ms = ms} {ts = ts} {us = us} {x = d} {u = e} ks k) (m, s1, s2) =
        with_answers L b ms (answers x env ts) (answers y other us) (λ vs. answer x (env ++ vs) d) (λ vs. answer y (other ++ vs) e)
        (all_alike ls env other ms lo m h ks s1)
        (λ vs ws a. answers_alike (ls ++ ms) (env ++ vs) (other ++ ws) b tail m hi (alike_append ls ms env other vs ws h a) k s2)
    answers_alike ls env other b tail lo hi h (t_call {k = k} ks q) (e, e1, e2, lt, s1) =
        from_word L b (L.result (p.callee k)) (x k) (y k) (backs k) (λ z. ap L.result e1 ∙ q z)
    answers_alike ls env other b tail lo hi h (t_loop {h = f} {ts = ts} {us = us} ks q) (e, e1, s1) =
        with_answers L b (L.params f) (answers x env ts) (answers y other us) (λ vs. LoopTo f vs) (λ vs. LoopTo f vs)
        (all_alike ls env other (L.params f) lo hi h ks s1) (λ vs ws a. (refl, a))

    pub all_alike : (ls : List Bool) (env other : List Word) {ts us : Terms} (bs : List Bool) (lo hi : ℕ) → Alike ls env other → AllTwins L ls ts us bs
        → SpansAll p g lo hi ts → ListsAlike bs (answers x env ts) (answers y other us)
    all_alike ls env other bs lo hi h t_nil sp = tt
    all_alike ls env other bs lo hi h (t_cons {t = t} {u = u} {ts = ts} {us = us} {b = b} {bs = cs} k ks) (m, s1, s2) =
        both_lists L b cs (answer x env t) (answer y other u) (answers x env ts) (answers y other us)
        (answers_alike ls env other b false lo m h k s1) (all_alike ls env other cs m hi h ks s2)

  module _ (j : ℕ) where
    abbrev Wants : Option (List Word) → Option (List Word) → Type 0
    Wants o o' = ListsAlike (L.params (p.callee j)) o o'

    wants_call : (k : ℕ) (ts us : Terms) (env other : List Word) (f : ℕ) → p.callee k ≡ f → ListsAlike (L.params f) (answers x env ts) (answers y other us)
        → Wants (wanted_in x env ts j) (wanted_in y other us j)
        → Wants (cond (k == j) (answers x env ts) (wanted_in x env ts j)) (cond (k == j) (answers y other us) (wanted_in y other us j))
    wants_call k ts us env other f e1 a rest = by (cases_eq k j)
      where
        by : (k ≡ j) ⊎ (k ≡ j → ⊥) → Wants (cond (k == j) (answers x env ts) (wanted_in x env ts j)) (cond (k == j) (answers y other us) (wanted_in y other us j))
        by (inl same) =
            let b = subst (λ n. ListsAlike (L.params n) (answers x env ts) (answers y other us)) (sym e1 ∙ ap p.callee same) a in
            rw (eq-eqb k j same) b
        by (inr apart) = rw (ne_eqb k j apart) rest

    -- a plain condition wants nothing
    wants_nothing : (o q : Option (List Word)) → o ≡ None → or_else o q ≡ q
    wants_nothing o q e = ap (λ z. or_else z q) e

    mutual
      unfolding wanted

      pub wants_alike : (ls : List Bool) (env other : List Word) {t u : Term} (b tail : Bool) (lo hi : ℕ) → Alike ls env other → Twins L ls t u b
          → Spans p g tail lo hi t → Wants (wanted x env t j) (wanted y other u j)
      wants_alike ls env other b tail lo hi h t_const sp = tt
      wants_alike ls env other b tail lo hi h (t_var q) sp = tt
      wants_alike ls env other {t = t} {u = u} b tail lo hi h (t_plain k l) sp =
          lists_none (L.params (p.callee j)) (wanted x env t j) (wanted y other u j) (plain_wants x env t j k) (plain_wants y other u j l)
      wants_alike ls env other b tail lo hi h (t_op {ms = ms} ks q) sp = wants_all_alike ls env other ms lo hi h ks sp
      wants_alike ls env other b tail lo hi h (t_if {c = c} {d = c'} {x = a} {y = d} {u = a'} {v = d'} kc ka kd) (m, n, s1, s2, s3) =
          lists_or (L.params (p.callee j)) (wanted x env c j) (wanted y other c' j) _ _
          (wants_alike ls env other true false lo m h kc s1)
          (select_same Wants L (answer x env c) (answer y other c') None (wanted x env a j) (wanted x env d j) (wanted y other a' j) (wanted y other d' j)
          (answers_alike ls env other true false lo m h kc s1) tt
          (wants_alike ls env other b tail m n h ka s2) (wants_alike ls env other b tail n hi h kd s3))
      wants_alike ls env other b tail lo hi h (t_choose {c = c} {d = c'} {x = a} {y = d} {u = a'} {v = d'} kc aa ad da dd) (m, n, s1, s2, s3) =
          lists_or (L.params (p.callee j)) (wanted x env c j) (wanted y other c' j) _ _
          (wants_alike ls env other false false lo m h kc s1)
          (select_any Wants L (answer x env c) (answer y other c') None (wanted x env a j) (wanted x env d j) (wanted y other a' j) (wanted y other d' j)
          (answers_alike ls env other false false lo m h kc s1) tt
          (wants_alike ls env other b tail m n h aa s2) (wants_alike ls env other b tail m n h ad s2)
          (wants_alike ls env other b tail n hi h da s3) (wants_alike ls env other b tail n hi h dd s3))
      wants_alike ls env other {u = u} b tail lo hi h (t_left {c = c} {x = a} {y = d} k ka kd) (m, n, s1, s2, s3) =
          subst (λ o. Wants o (wanted y other u j)) (sym (wants_nothing (wanted x env c j) _ (plain_wants x env c j k)))
          (select_left Wants (answer x env c) None (wanted x env a j) (wanted x env d j) (wanted y other u j) (plain_ready x env c k)
          (wants_alike ls env other b tail m n h ka s2) (wants_alike ls env other b tail n hi h kd s3))
      wants_alike ls env other {t = t} b tail lo hi h (t_right {c = c} {u = a} {v = d} k ka kd) sp =
          subst (λ o. Wants (wanted x env t j) o) (sym (wants_nothing (wanted y other c j) _ (plain_wants y other c j k)))
          (select_right Wants (answer y other c) None (wanted x env t j) (wanted y other a j) (wanted y other d j) (plain_ready y other c k)
          (wants_alike ls env other b tail lo hi h ka sp) (wants_alike ls env other b tail lo hi h kd sp))
      wants_alike ls env other b tail lo hi h (t_let {ms = ms} {ts = ts} {us = us} {x = d} {u = e} ks k) (m, s1, s2) =
          lists_or (L.params (p.callee j)) (wanted_in x env ts j) (wanted_in y other us j) _ _
          (wants_all_alike ls env other ms lo m h ks s1)
          (with_lists (L.params (p.callee j)) ms (answers x env ts) (answers y other us) (λ vs. wanted x (env ++ vs) d j) (λ vs. wanted y (other ++ vs) e j)
          (all_alike ls env other ms lo m h ks s1)
          (λ vs ws a. wants_alike (ls ++ ms) (env ++ vs) (other ++ ws) b tail m hi (alike_append ls ms env other vs ws h a) k s2))
      wants_alike ls env other b tail lo hi h (t_call {f = f} {k = k} {ts = ts} {us = us} ks q) (e, e1, e2, lt, s1) =
          wants_call k ts us env other f e1 (all_alike ls env other (L.params f) (suc lo) hi h ks s1)
          (wants_all_alike ls env other (L.params f) (suc lo) hi h ks s1)
      wants_alike ls env other b tail lo hi h (t_loop {h = f} ks q) (e, e1, s1) =
          wants_all_alike ls env other (L.params f) lo hi h ks s1

      wants_all_alike : (ls : List Bool) (env other : List Word) {ts us : Terms} (bs : List Bool) (lo hi : ℕ) → Alike ls env other → AllTwins L ls ts us bs
          → SpansAll p g lo hi ts → Wants (wanted_in x env ts j) (wanted_in y other us j)
      wants_all_alike ls env other bs lo hi h t_nil sp = tt
      wants_all_alike ls env other bs lo hi h (t_cons {t = t} {u = u} {ts = ts} {us = us} {b = b} {bs = cs} k ks) (m, s1, s2) =
          lists_or (L.params (p.callee j)) (wanted x env t j) (wanted y other u j) _ _
          (wants_alike ls env other b false lo m h k s1) (wants_all_alike ls env other cs m hi h ks s2)
