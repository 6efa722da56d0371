-- Plain terms, by their parts.
use Rattle.safl_evaluate.proofs.Common.{Primitive, back_at, nodes, some_none}
use Rattle.std.proofs.Common.{◌≡◌, ℕ, suc, ◌+◌, ◌<◌, ◌≤◌, List, [], ◌∷◌, ◌++◌, length, take, drop, Option, Some, Bool, true, false, ◌&&◌, slice_set, refl, sym, ap, ◌∙◌, subst, ⊎_elim, arith}
use Rattle.std.proofs.lemmas.Bool.{and_parts, and_from, and_left, and_right, false≢true}
use Rattle.std.proofs.lemmas.List.{append-nil, append_assoc, drop-set, length_push}
use Rattle.safl_word.specs.Words.{Word, slot}
use Rattle.safl_word.specs.Primitives.{apply_prim}
use Rattle.safl_term.specs.Readiness.{NotYet, Answer, Ready, LoopTo, apply_to, word_of}
use Rattle.safl_term.specs.Standing.{Stands, StandsIn}
use Rattle.safl_term.specs.Terms.{Term, Const, Var, Op, If, Let, Call, Loop, Terms, Nil, Cons}
use Rattle.safl_term.proofs.Apart.{loop_not_yet, ready_not_yet}
use Rattle.safl_evaluate.specs.Answers.{passed_on, HasRoom}
use Rattle.safl_evaluate.specs.Keeping.{IsAnew}
use Rattle.safl_evaluate.specs.Plain.{plain_term, plain_terms, plain_body, ComesTo, ComeTo, ConcludesIn, PassesOn, PassesOne, CanCompute, CanComputeAll, CanConclude}
use Rattle.safl_evaluate.proofs.AnswersByParts as step
use Rattle.safl_evaluate.proofs.RunsByParts as may
use Rattle.safl_evaluate.proofs.RunsByParts.{can_is, can_all_is}

-- ---- no site stands in a plain term

mutual
  unfolding Stands

  pub stands_not_plain : (k : ℕ) (t : Term) → Stands k t → plain_term t ≡ false
  stands_not_plain k (Const w) st = absurd st
  stands_not_plain k (Var i) st = absurd st
  stands_not_plain k (Op o ts) st = stands_not_plain_in k ts st
  stands_not_plain k (If c a b) st = ⊎_elim
      (λ s. and_left (plain_term c) (plain_term a && plain_term b) (stands_not_plain k c s))
      (λ r. and_right (plain_term c) (plain_term a && plain_term b) (⊎_elim
      (λ s. and_left (plain_term a) (plain_term b) (stands_not_plain k a s))
      (λ s. and_right (plain_term a) (plain_term b) (stands_not_plain k b s))
      r))
      st
  stands_not_plain k (Let ts b) st = ⊎_elim
      (λ s. and_left (plain_terms ts) (plain_term b) (stands_not_plain_in k ts s))
      (λ s. and_right (plain_terms ts) (plain_term b) (stands_not_plain k b s))
      st
  stands_not_plain k (Call f j ts) st = refl
  stands_not_plain k (Loop m ts) st = refl

  pub stands_not_plain_in : (k : ℕ) (ts : Terms) → StandsIn k ts → plain_terms ts ≡ false
  stands_not_plain_in k Nil st = absurd st
  stands_not_plain_in k (Cons t ts) st = ⊎_elim
      (λ s. and_left (plain_term t) (plain_terms ts) (stands_not_plain k t s))
      (λ s. and_right (plain_term t) (plain_terms ts) (stands_not_plain_in k ts s))
      st

pub stands_not_body : (k : ℕ) (t : Term) → Stands k t → plain_body t ≡ false
unfolding Stands
stands_not_body k (Const w) st = absurd st
stands_not_body k (Var i) st = absurd st
stands_not_body k (Op o ts) st = stands_not_plain_in k ts st
stands_not_body k (If c a b) st = ⊎_elim
    (λ s. and_left (plain_term c) (plain_body a && plain_body b) (stands_not_plain k c s))
    (λ r. and_right (plain_term c) (plain_body a && plain_body b) (⊎_elim
    (λ s. and_left (plain_body a) (plain_body b) (stands_not_body k a s))
    (λ s. and_right (plain_body a) (plain_body b) (stands_not_body k b s))
    r))
    st
stands_not_body k (Let ts b) st = ⊎_elim
    (λ s. and_left (plain_terms ts) (plain_body b) (stands_not_plain_in k ts s))
    (λ s. and_right (plain_terms ts) (plain_body b) (stands_not_body k b s))
    st
stands_not_body k (Call f j ts) st = refl
stands_not_body k (Loop m ts) st = stands_not_plain_in k ts st

if_parts : (c a b : Term) → plain_term (If c a b) ≡ true → (plain_term c ≡ true) × (plain_term a ≡ true) × (plain_term b ≡ true)
if_parts c a b h =
    let first = and_parts (plain_term c) (plain_term a && plain_term b) h in
    let rest = and_parts (plain_term a) (plain_term b) first.1 in
    (first.0, rest.0, rest.1)

body_parts : (c a b : Term) → plain_body (If c a b) ≡ true → (plain_term c ≡ true) × (plain_body a ≡ true) × (plain_body b ≡ true)
body_parts c a b h =
    let first = and_parts (plain_term c) (plain_body a && plain_body b) h in
    let rest = and_parts (plain_body a) (plain_body b) first.1 in
    (first.0, rest.0, rest.1)

pub plain_is_body : (t : Term) → plain_term t ≡ true → plain_body t ≡ true
plain_is_body (Const w) h = refl
plain_is_body (Var i) h = refl
plain_is_body (Op o ts) h = h
plain_is_body (If c a b) h =
    let parts = if_parts c a b h in
    and_from (plain_term c) (plain_body a && plain_body b) parts.0
    (and_from (plain_body a) (plain_body b) (plain_is_body a parts.1) (plain_is_body b parts.2))
plain_is_body (Let ts b) h =
    let parts = and_parts (plain_terms ts) (plain_term b) h in
    and_from (plain_terms ts) (plain_body b) parts.0 (plain_is_body b parts.1)
plain_is_body (Call f j ts) h = absurd (false≢true h)
plain_is_body (Loop m ts) h = absurd (false≢true h)

-- what a place says of its term
pub says : {f g p b : Bool} → f ≡ g → g ≡ p → f ≡ b → p ≡ b
says is of value = sym (is ∙ of) ∙ value

pub anew_is : {news : Option ℕ} {t u : Term} → t ≡ u → IsAnew news t → IsAnew news u
anew_is e h = record { none = λ q. h.none (ap plain_body e ∙ q) }

pub anew_as : {news : Option ℕ} {t : Term} → plain_body t ≡ false → IsAnew news t
anew_as h = record { none = λ q. absurd (false≢true (sym h ∙ q)) }

pub not_body : (k : ℕ) (t : Term) → IsAnew (Some k) t → plain_body t ≡ false
not_body k t h = by (plain_body t) refl
  where
    by : (b : Bool) → plain_body t ≡ b → plain_body t ≡ false
    by true e = absurd (some_none k (h.none e))
    by false e = e

-- ---- what may be computed

pub compute_is : {F : List Word} {n : ℕ} {t u : Term} → t ≡ u → CanCompute F n t → CanCompute F n u
compute_is {F} {n} e h = subst (λ x. CanCompute F n x) e h

pub compute_all_is : {F : List Word} {n : ℕ} {ts us : Terms} → ts ≡ us → CanComputeAll F n ts → CanComputeAll F n us
compute_all_is {F} {n} e h = subst (λ x. CanComputeAll F n x) e h

pub conclude_is : {F : List Word} {n : ℕ} {t u : Term} → t ≡ u → CanConclude F n t → CanConclude F n u
conclude_is {F} {n} e h = subst (λ x. CanConclude F n x) e h

module _ {F : List Word} {n : ℕ} where
  pub compute_condition : {c a b : Term} → CanCompute F n (If c a b) → CanCompute F n c
  compute_condition {c} {a} {b} h = record {
    stages = h.stages;
    sites = h.sites;
    can = may.can_condition c a b h.can;
    room = omega (arith, h.room);
    plain = (if_parts c a b h.plain).0;
  }

  pub compute_bound : {ts : Terms} {b : Term} → CanCompute F n (Let ts b) → CanComputeAll F n ts
  compute_bound {ts} {b} h = record {
    stages = h.stages;
    sites = h.sites;
    can = may.can_bound ts b h.can;
    room = omega (arith, h.room);
    plain = (and_parts (plain_terms ts) (plain_term b) h.plain).0;
  }

  pub compute_op : {o : Primitive} {ts : Terms} → CanCompute F n (Op o ts) → CanComputeAll F n ts
  compute_op {o} {ts} h = record { stages = h.stages; sites = h.sites; can = may.can_op o ts h.can; room = omega (arith, h.room); plain = h.plain }

  pub compute_first : {t : Term} {ts : Terms} → CanComputeAll F n (Cons t ts) → CanCompute F n t
  compute_first {t} {ts} h = record {
    stages = h.stages;
    sites = h.sites;
    can = may.can_first t ts h.can;
    room = omega (arith, h.room);
    plain = (and_parts (plain_term t) (plain_terms ts) h.plain).0;
  }

  pub conclude_condition : {c a b : Term} → CanConclude F n (If c a b) → CanCompute F n c
  conclude_condition {c} {a} {b} h = record {
    stages = h.stages;
    sites = h.sites;
    can = may.can_condition c a b h.can;
    room = omega (arith, h.room);
    plain = (body_parts c a b h.plain).0;
  }

  pub conclude_bound : {ts : Terms} {b : Term} → CanConclude F n (Let ts b) → CanComputeAll F n ts
  conclude_bound {ts} {b} h = record {
    stages = h.stages;
    sites = h.sites;
    can = may.can_bound ts b h.can;
    room = omega (arith, h.room);
    plain = (and_parts (plain_terms ts) (plain_body b) h.plain).0;
  }

  pub conclude_loop : {m : ℕ} {ts : Terms} → CanConclude F n (Loop m ts) → CanComputeAll F n ts
  conclude_loop {m} {ts} h = record { stages = h.stages; sites = h.sites; can = may.can_loop m ts h.can; room = omega (arith, h.room); plain = h.plain }

  pub conclude_op : {o : Primitive} {ts : Terms} → CanConclude F n (Op o ts) → CanCompute F n (Op o ts)
  conclude_op h = record { stages = h.stages; sites = h.sites; can = h.can; room = h.room; plain = h.plain }

  module _ {G : List Word} (long : length G ≡ length F) where
    pub conclude_body : {ts : Terms} {b : Term} (vs : List Word) → CanConclude F n (Let ts b) → ComeTo (take n F) ts vs → {m : ℕ} → take m G ≡ take n F ++ vs
        → m + nodes b ≤ length F → CanConclude G m b
    conclude_body {ts} {b} vs h come {m} d room = record {
      stages = h.stages;
      sites = h.sites;
      can = can_is refl (sym d) refl (may.can_body ts b vs h.can (come.words (back_at h.stages)));
      room = omega (arith, room, long);
      plain = (and_parts (plain_terms ts) (plain_body b) h.plain).1;
    }

    pub compute_body : {ts : Terms} {b : Term} (vs : List Word) → CanCompute F n (Let ts b) → ComeTo (take n F) ts vs → {m : ℕ} → take m G ≡ take n F ++ vs
        → m + nodes b ≤ length F → CanCompute G m b
    compute_body {ts} {b} vs h come {m} d room = record {
      stages = h.stages;
      sites = h.sites;
      can = can_is refl (sym d) refl (may.can_body ts b vs h.can (come.words (back_at h.stages)));
      room = omega (arith, room, long);
      plain = (and_parts (plain_terms ts) (plain_term b) h.plain).1;
    }

    module _ (kept : take n G ≡ take n F) where
      pub compute_then : {c a b : Term} → CanCompute F n (If c a b) → CanCompute G n a
      compute_then {c} {a} {b} h = record {
        stages = h.stages;
        sites = h.sites;
        can = can_is refl (sym kept) refl (may.can_then c a b h.can);
        room = omega (arith, h.room, long);
        plain = (if_parts c a b h.plain).1;
      }

      pub compute_else : {c a b : Term} → CanCompute F n (If c a b) → CanCompute G n b
      compute_else {c} {a} {b} h = record {
        stages = h.stages;
        sites = h.sites;
        can = can_is refl (sym kept) refl (may.can_else c a b h.can);
        room = omega (arith, h.room, long);
        plain = (if_parts c a b h.plain).2;
      }

      pub conclude_then : {c a b : Term} → CanConclude F n (If c a b) → CanConclude G n a
      conclude_then {c} {a} {b} h = record {
        stages = h.stages;
        sites = h.sites;
        can = can_is refl (sym kept) refl (may.can_then c a b h.can);
        room = omega (arith, h.room, long);
        plain = (body_parts c a b h.plain).1;
      }

      pub conclude_else : {c a b : Term} → CanConclude F n (If c a b) → CanConclude G n b
      conclude_else {c} {a} {b} h = record {
        stages = h.stages;
        sites = h.sites;
        can = can_is refl (sym kept) refl (may.can_else c a b h.can);
        room = omega (arith, h.room, long);
        plain = (body_parts c a b h.plain).2;
      }

      pub compute_rest : {t : Term} {ts : Terms} → CanComputeAll F n (Cons t ts) → CanComputeAll G n ts
      compute_rest {t} {ts} h = record {
        stages = h.stages;
        sites = h.sites;
        can = can_all_is refl (sym kept) refl (may.can_rest t ts h.can);
        room = omega (arith, h.room, long);
        plain = (and_parts (plain_term t) (plain_terms ts) h.plain).1;
      }

-- ---- the words that they come to

pub comes_is : {E G : List Word} {t u : Term} {v : Word} → E ≡ G → t ≡ u → ComesTo G u v → ComesTo E t v
comes_is e f h = record { word = λ B. step.answer_is B e f ∙ h.word B }

pub come_is : {E G : List Word} {ts us : Terms} {vs : List Word} → E ≡ G → ts ≡ us → ComeTo G us vs → ComeTo E ts vs
come_is e f h = record { words = λ B. step.answers_is B e f ∙ h.words B }

pub come_with : {E : List Word} {ts : Terms} {vs ws : List Word} → vs ≡ ws → ComeTo E ts vs → ComeTo E ts ws
come_with e h = record { words = λ B. h.words B ∙ ap Some e }

module _ {E : List Word} where
  pub comes_const : (w : Word) → ComesTo E (Const w) w
  comes_const w = record { word = λ B. step.answer_const B E w }

  pub comes_var : (i : ℕ) {v : Word} → v ≡ slot E i → ComesTo E (Var i) v
  comes_var i e = record { word = λ B. step.answer_var B E i ∙ ap Ready (sym e) }

  pub comes_then : {c a b : Term} {v w : Word} → ComesTo E c v → v.bits ≡ 1 → ComesTo E a w → ComesTo E (If c a b) w
  comes_then {c} {a} {b} {v} {w} hc one ha = record { word = λ B. sym (step.answer_then B E c a b v (ap word_of (sym (hc.word B))) one) ∙ ha.word B }

  pub comes_else : {c a b : Term} {v w : Word} → ComesTo E c v → (v.bits ≡ 1 → ⊥) → ComesTo E b w → ComesTo E (If c a b) w
  comes_else {c} {a} {b} {v} {w} hc other hb = record { word = λ B. sym (step.answer_else B E c a b v (ap word_of (sym (hc.word B))) other) ∙ hb.word B }

  pub comes_let : {ts : Terms} {b : Term} {vs : List Word} {w : Word} → ComeTo E ts vs → ComesTo (E ++ vs) b w → ComesTo E (Let ts b) w
  comes_let {ts} {b} {vs} {w} hs hb = record { word = λ B. sym (step.answer_let B E ts b vs (hs.words B)) ∙ hb.word B }

  pub comes_op : {o : Primitive} {ts : Terms} {vs : List Word} {w : Word} → ComeTo E ts vs → w ≡ apply_prim o vs → ComesTo E (Op o ts) w
  comes_op {o} {ts} {vs} {w} hs e = record { word = λ B. sym (step.answer_op B E ts o) ∙ (ap (apply_to o) (hs.words B) ∙ ap Ready (sym e)) }

  pub come_nil : ComeTo E Nil []
  come_nil = record { words = λ B. step.answers_nil B E }

  pub come_more : {t : Term} {ts : Terms} {v : Word} {vs : List Word} → ComesTo E t v → ComeTo E ts vs → ComeTo E (Cons t ts) (v ∷ vs)
  come_more {t} {ts} {v} {vs} h hs = record { words = λ B. step.answers_more B E ts t v (Some vs) (ap word_of (sym (h.word B))) (hs.words B) }

-- ---- what plain bodies come to

pub concludes_is : {E G : List Word} {t u : Term} {q : Answer} → E ≡ G → t ≡ u → ConcludesIn G u q → ConcludesIn E t q
concludes_is e f h = record { answer_is = λ B. step.answer_is B e f ∙ h.answer_is B; settled = h.settled }

module _ {E : List Word} where
  pub concludes_word : {t : Term} {v : Word} {q : Answer} → ComesTo E t v → q ≡ Ready v → ConcludesIn E t q
  concludes_word {t} {v} {q} h e = record { answer_is = λ B. h.word B ∙ sym e; settled = λ z. ready_not_yet v (sym e ∙ z) }

  pub concludes_loop : {m : ℕ} {ts : Terms} {vs : List Word} {q : Answer} → ComeTo E ts vs → q ≡ LoopTo m vs → ConcludesIn E (Loop m ts) q
  concludes_loop {m} {ts} {vs} {q} hs e = record {
    answer_is = λ B. sym (step.answer_loop B E ts m vs (hs.words B)) ∙ sym e;
    settled = λ z. loop_not_yet m vs (sym e ∙ z);
  }

  pub concludes_then : {c a b : Term} {v : Word} {q : Answer} → ComesTo E c v → v.bits ≡ 1 → ConcludesIn E a q → ConcludesIn E (If c a b) q
  concludes_then {c} {a} {b} {v} hc one ha = record {
    answer_is = λ B. sym (step.answer_then B E c a b v (ap word_of (sym (hc.word B))) one) ∙ ha.answer_is B;
    settled = ha.settled;
  }

  pub concludes_else : {c a b : Term} {v : Word} {q : Answer} → ComesTo E c v → (v.bits ≡ 1 → ⊥) → ConcludesIn E b q → ConcludesIn E (If c a b) q
  concludes_else {c} {a} {b} {v} hc other hb = record {
    answer_is = λ B. sym (step.answer_else B E c a b v (ap word_of (sym (hc.word B))) other) ∙ hb.answer_is B;
    settled = hb.settled;
  }

  pub concludes_let : {ts : Terms} {b : Term} {vs : List Word} {q : Answer} → ComeTo E ts vs → ConcludesIn (E ++ vs) b q → ConcludesIn E (Let ts b) q
  concludes_let {ts} {b} {vs} hs hb = record { answer_is = λ B. sym (step.answer_let B E ts b vs (hs.words B)) ∙ hb.answer_is B; settled = hb.settled }

-- ---- the words of a tail call, one after the other

pub room_first : {q : Answer} {n m : ℕ} → n ≡ suc m → HasRoom q n → HasRoom q 1
room_first e r = record { member = r.member; words = r.words; is = r.is; few = omega (arith, e, r.few) }

pub room_rest : {E : List Word} {t : Term} {q q1 : Answer} {n m : ℕ} → PassesOne E t q q1 → n ≡ suc m → HasRoom q n → HasRoom q1 m
room_rest h long r = record {
  member = r.member;
  words = r.words ++ h.word ∷ [];
  is = h.told ∙ ap (λ z. passed_on z (h.word ∷ [])) r.is;
  few = omega (arith, length_push r.words h.word, long, r.few);
}

passed_twice : (q : Answer) (v : Word) (vs : List Word) → passed_on (passed_on q (v ∷ [])) vs ≡ passed_on q (v ∷ vs)
passed_twice (Ready w) v vs = refl
passed_twice (LoopTo m ws) v vs = ap (LoopTo m) (append_assoc ws (v ∷ []) vs)
passed_twice NotYet v vs = refl

passed_none : (q : Answer) → q ≡ passed_on q []
passed_none (Ready w) = refl
passed_none (LoopTo m ws) = ap (LoopTo m) (sym (append-nil ws))
passed_none NotYet = refl

pub passes_none : {E : List Word} {q : Answer} → PassesOn E Nil q q
passes_none {E} {q} = record { words = []; come = come_nil; told = passed_none q }

pub passes_more : {E : List Word} {t : Term} {ts : Terms} {q q1 q2 : Answer} → PassesOne E t q q1 → PassesOn E ts q1 q2 → PassesOn E (Cons t ts) q q2
passes_more {E} {t} {ts} {q} h p = record {
  words = h.word ∷ p.words;
  come = come_more h.comes p.come;
  told = p.told ∙ (ap (λ z. passed_on z p.words) h.told ∙ passed_twice q h.word p.words);
}

pub passes_is : {E G : List Word} {ts us : Terms} {q q1 : Answer} → E ≡ G → ts ≡ us → PassesOn G us q q1 → PassesOn E ts q q1
passes_is e f h = record { words = h.words; come = come_is e f h.come; told = h.told }

-- ---- the words of a table

pub one_word : (ws : List Word) (v : Word) → length ws ≡ 2 → take 1 (slice_set ws 0 v) ≡ v ∷ []
one_word [] v e = absurd (omega (arith, e))
one_word (w ∷ ws) v e = refl

pub two_words : (ws : List Word) (v w : Word) → length ws ≡ 2 → take 2 (slice_set (slice_set ws 0 v) 1 w) ≡ v ∷ w ∷ []
two_words [] v w e = absurd (omega (arith, e))
two_words (x ∷ []) v w e = absurd (omega (arith, e))
two_words (x ∷ (y ∷ ws)) v w e = refl

-- the first word is put before those of the rest
pub words_more : (F : List Word) (at n : ℕ) (v : Word) → at < length F → v ∷ take n (drop (at + 1) F) ≡ take (suc n) (drop at (slice_set F at v))
words_more F at n v lt = sym (ap (take (suc n)) (drop-set F at v lt))
