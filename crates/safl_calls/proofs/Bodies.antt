-- Partial evaluation of a body, as more of its sites return.
use Rattle.safl_calls.proofs.Common.{Primitive, Program, Word, apply_prim, arity, cases_eq, eq-eqb, false≢true, ne_eqb, not_loop, pick_one}
use Rattle.safl_calls.proofs.Common.{pick_other, ready_not_yet, same_Some, some_at}
use Rattle.std.proofs.Common.{◌≡◌, ℕ, suc, List, [], ◌∷◌, ◌++◌, length, Option, Some, None, Bool, true, false, cond, ◌==◌, is_some, refl, sym, ap, ◌∙◌, subst, inl, inr, ⊎_elim, ◌⊎◌, ◌≢◌}
use Rattle.safl_calls.proofs.Basics.{some_none}
use Rattle.safl_term.proofs.Once.{Once, OnceIn, LoopsTo, count, Counted, CountedIn}
use Rattle.safl_term.specs.Readiness.{Answer, Ready, LoopTo, NotYet, apply_to, loop_to, both, select, with_all, or_else, ready_from, answer, answers, wanted, wanted_in}
use Rattle.safl_term.specs.Standing.{Stands, StandsIn}
use Rattle.safl_term.specs.Terms.{Term, Terms, Const, Var, Op, If, Let, Call, Loop, Nil, Cons}
use Rattle.safl_term.proofs.Picking.{pick_two, pick_either, pick_cases}
use Rattle.safl_term.proofs.Widths.{ready_loop}
use Rattle.safl_term.proofs.OrElse.{or_from}

pub or_some : {A : Type 0} (o p : Option A) → is_some (or_else o p) ≡ true → (is_some o ≡ true) ⊎ (is_some p ≡ true)
or_some None p h = inr h
or_some (Some x) p h = inl refl

pub or_first : {A : Type 0} (o p : Option A) → is_some o ≡ true → is_some (or_else o p) ≡ true
or_first None p h = absurd (false≢true h)
or_first (Some x) p h = refl

pub or_second : {A : Type 0} (o p : Option A) → is_some p ≡ true → is_some (or_else o p) ≡ true
or_second None p h = h
or_second (Some x) p h = refl

-- where a body says something
pub apply_some : (p : Primitive) (o : Option (List Word)) (a : Answer) → apply_to p o ≡ a → (a ≡ NotYet → ⊥) → (vs : List Word) × (o ≡ Some vs)
apply_some p None a e some = absurd (some (sym e))
apply_some p (Some vs) a e some = (vs, refl)

pub go_some : (h : ℕ) (o : Option (List Word)) (a : Answer) → loop_to h o ≡ a → (a ≡ NotYet → ⊥) → (vs : List Word) × (o ≡ Some vs)
go_some h None a e some = absurd (some (sym e))
go_some h (Some vs) a e some = (vs, refl)

pub from_some : (o : Option Word) (a : Answer) → ready_from o ≡ a → (a ≡ NotYet → ⊥) → (v : Word) × (o ≡ Some v)
from_some None a e some = absurd (some (sym e))
from_some (Some v) a e some = (v, refl)

both_parts : (a : Answer) (o : Option (List Word)) (vs : List Word) → both a o ≡ Some vs → (v : Word) × (ws : List Word) × (a ≡ Ready v) × (o ≡ Some ws)
both_parts (Ready v) None vs e = absurd (some_none vs (sym e))
both_parts (Ready v) (Some ws) vs e = (v, ws, refl, refl)
both_parts (LoopTo h ws) o vs e = absurd (some_none vs (sym e))
both_parts NotYet o vs e = absurd (some_none vs (sym e))

if_grows : (q q' x x' y y' a : Answer) → ((r : Answer) → q ≡ r → (r ≡ NotYet → ⊥) → q' ≡ r) → (x ≡ a → (a ≡ NotYet → ⊥) → x' ≡ a) →
    (y ≡ a → (a ≡ NotYet → ⊥) → y' ≡ a) → select q NotYet x y ≡ a → (a ≡ NotYet → ⊥) → select q' NotYet x' y' ≡ a
if_grows (Ready u) q' x x' y y' a hq hx hy e some = ap (λ r. select r NotYet x' y') (hq (Ready u) refl (ready_not_yet u)) ∙ pick_two u.bits x y x' y'
    (λ z z'. z ≡ a → z' ≡ a) (λ i. hx i some) (λ i. hy i some) e
if_grows (LoopTo h vs) q' x x' y y' a hq hx hy e some = absurd (some (sym e))
if_grows NotYet q' x x' y y' a hq hx hy e some = absurd (some (sym e))

let_grows : (o o' : Option (List Word)) (f g : List Word → Answer) (a : Answer) → ((vs : List Word) → o ≡ Some vs → o' ≡ Some vs) →
    ((vs : List Word) → f vs ≡ a → (a ≡ NotYet → ⊥) → g vs ≡ a) → with_all o NotYet f ≡ a → (a ≡ NotYet → ⊥) → with_all o' NotYet g ≡ a
let_grows None o' f g a ho hf e some = absurd (some (sym e))
let_grows (Some vs) o' f g a ho hf e some = ap (λ o. with_all o NotYet g) (ho vs refl) ∙ hf vs e some

mutual
  unfolding answer wanted Stands

  -- what is ready stays so
  pub answer_grows : (b c : ℕ → Option Word) (env : List Word) (t : Term) → ((k : ℕ) (v : Word) → Stands k t → b k ≡ Some v → c k ≡ Some v) →
      (a : Answer) → answer b env t ≡ a → (a ≡ NotYet → ⊥) → answer c env t ≡ a
  answer_grows b c env (Const n) h a e some = e
  answer_grows b c env (Var i) h a e some = e
  answer_grows b c env (Op p ts) h a e some =
      let o = apply_some p (answers b env ts) a e some in
      ap (apply_to p) (all_grows b c env ts h o.0 o.1) ∙ sym (ap (apply_to p) o.1) ∙ e
  answer_grows b c env (If d x y) h a e some =
      if_grows (answer b env d) (answer c env d) (answer b env x) (answer c env x) (answer b env y) (answer c env y) a
      (λ q e' s. answer_grows b c env d (λ k v st. h k v (inl st)) q e' s)
      (λ e' s. answer_grows b c env x (λ k v st. h k v (inr (inl st))) a e' s)
      (λ e' s. answer_grows b c env y (λ k v st. h k v (inr (inr st))) a e' s) e some
  answer_grows b c env (Let bs x) h a e some =
      let_grows (answers b env bs) (answers c env bs) (λ vs. answer b (env ++ vs) x) (λ vs. answer c (env ++ vs) x) a
      (λ vs e'. all_grows b c env bs (λ k v st. h k v (inl st)) vs e')
      (λ vs e' s. answer_grows b c (env ++ vs) x (λ k v st. h k v (inr st)) a e' s) e some
  answer_grows b c env (Call f j ts) h a e some =
      let o = from_some (b j) a e some in
      ap ready_from (h j o.0 (inl refl) o.1) ∙ sym (ap ready_from o.1) ∙ e
  answer_grows b c env (Loop m ts) h a e some =
      let o = go_some m (answers b env ts) a e some in
      ap (loop_to m) (all_grows b c env ts h o.0 o.1) ∙ sym (ap (loop_to m) o.1) ∙ e

  pub all_grows : (b c : ℕ → Option Word) (env : List Word) (ts : Terms) → ((k : ℕ) (v : Word) → StandsIn k ts → b k ≡ Some v → c k ≡ Some v) →
      (vs : List Word) → answers b env ts ≡ Some vs → answers c env ts ≡ Some vs
  all_grows b c env Nil h vs e = e
  all_grows b c env (Cons t ts) h vs e =
      let p = both_parts (answer b env t) (answers b env ts) vs e in
      ap (λ a. both a (answers c env ts)) (answer_grows b c env t (λ k v st. h k v (inl st)) (Ready p.0) p.2 (ready_not_yet p.0))
      ∙ ap (both (Ready p.0)) (all_grows b c env ts (λ k v st. h k v (inr st)) p.1 p.3)
      ∙ sym (ap (λ a. both a (answers b env ts)) p.2 ∙ ap (both (Ready p.0)) p.3) ∙ e

select_wants : (q q' : Answer) (x x' y y' : Option (List Word)) → ((r : Answer) → q ≡ r → (r ≡ NotYet → ⊥) → q' ≡ r) →
    (is_some x ≡ true → is_some x' ≡ true) → (is_some y ≡ true → is_some y' ≡ true) → is_some (select q None x y) ≡ true → is_some (select q' None x' y') ≡ true
select_wants (Ready u) q' x x' y y' hq hx hy e = ap (λ r. is_some (select r None x' y')) (hq (Ready u) refl (ready_not_yet u)) ∙ pick_two u.bits x y x' y'
    (λ z z'. is_some z ≡ true → is_some z' ≡ true) hx hy e
select_wants (LoopTo h vs) q' x x' y y' hq hx hy e = absurd (false≢true e)
select_wants NotYet q' x x' y y' hq hx hy e = absurd (false≢true e)

let_wants : (o o' : Option (List Word)) (f g : List Word → Option (List Word)) → ((vs : List Word) → o ≡ Some vs → o' ≡ Some vs) →
    ((vs : List Word) → is_some (f vs) ≡ true → is_some (g vs) ≡ true) → is_some (with_all o None f) ≡ true → is_some (with_all o' None g) ≡ true
let_wants None o' f g ho hf e = absurd (false≢true e)
let_wants (Some vs) o' f g ho hf e = ap (λ o. is_some (with_all o None g)) (ho vs refl) ∙ hf vs e

all_some : (o o' : Option (List Word)) → ((vs : List Word) → o ≡ Some vs → o' ≡ Some vs) → is_some o ≡ true → is_some o' ≡ true
all_some None o' h e = absurd (false≢true e)
all_some (Some vs) o' h e = ap is_some (h vs refl)

or_wants : (o o' p p' : Option (List Word)) → (is_some o ≡ true → is_some o' ≡ true) → (is_some p ≡ true → is_some p' ≡ true) → is_some (or_else o p) ≡ true → is_some (or_else o' p') ≡ true
or_wants o o' p p' ho hp e = ⊎_elim (λ a. or_first o' p' (ho a)) (λ b. or_second o' p' (hp b)) (or_some o p e)

cond_wants : (t : Bool) (o o' p p' : Option (List Word)) → (is_some o ≡ true → is_some o' ≡ true) → (is_some p ≡ true → is_some p' ≡ true) → is_some (cond t o p) ≡ true → is_some (cond t o' p') ≡ true
cond_wants true o o' p p' ho hp e = ho e
cond_wants false o o' p p' ho hp e = hp e

mutual
  unfolding answer wanted Stands

  -- what is wanted stays so
  pub wanted_grows : (b c : ℕ → Option Word) (env : List Word) (t : Term) → ((k : ℕ) (v : Word) → Stands k t → b k ≡ Some v → c k ≡ Some v) → (k : ℕ)
      → is_some (wanted b env t k) ≡ true → is_some (wanted c env t k) ≡ true
  wanted_grows b c env (Const n) h k e = e
  wanted_grows b c env (Var i) h k e = e
  wanted_grows b c env (Op p ts) h k e = wanted_in_grows b c env ts h k e
  wanted_grows b c env (If d x y) h k e =
      or_wants _ _ _ _ (wanted_grows b c env d (λ k v st. h k v (inl st)) k)
      (select_wants (answer b env d) (answer c env d) _ _ _ _
      (λ q e' s. answer_grows b c env d (λ k v st. h k v (inl st)) q e' s)
      (wanted_grows b c env x (λ k v st. h k v (inr (inl st))) k)
      (wanted_grows b c env y (λ k v st. h k v (inr (inr st))) k)) e
  wanted_grows b c env (Let bs x) h k e =
      or_wants _ _ _ _ (wanted_in_grows b c env bs (λ k v st. h k v (inl st)) k)
      (let_wants (answers b env bs) (answers c env bs) _ _
      (λ vs e'. all_grows b c env bs (λ k v st. h k v (inl st)) vs e')
      (λ vs. wanted_grows b c (env ++ vs) x (λ k v st. h k v (inr st)) k)) e
  wanted_grows b c env (Call f j ts) h k e =
      cond_wants (j == k) _ _ _ _ (all_some _ _ (all_grows b c env ts (λ k v st. h k v (inr st)))) (wanted_in_grows b c env ts (λ k v st. h k v (inr st)) k) e
  wanted_grows b c env (Loop m ts) h k e = wanted_in_grows b c env ts h k e

  pub wanted_in_grows : (b c : ℕ → Option Word) (env : List Word) (ts : Terms) → ((k : ℕ) (v : Word) → StandsIn k ts → b k ≡ Some v → c k ≡ Some v) →
      (k : ℕ) → is_some (wanted_in b env ts k) ≡ true → is_some (wanted_in c env ts k) ≡ true
  wanted_in_grows b c env Nil h k e = e
  wanted_in_grows b c env (Cons t ts) h k e =
      or_wants _ _ _ _ (wanted_grows b c env t (λ k v st. h k v (inl st)) k) (wanted_in_grows b c env ts (λ k v st. h k v (inr st)) k) e

select_some : (q : Answer) (x y : Option (List Word)) → is_some (select q None x y) ≡ true → (is_some x ≡ true) ⊎ (is_some y ≡ true)
select_some (Ready u) x y e = pick_either u.bits x y (λ z. is_some z ≡ true) e
select_some (LoopTo h vs) x y e = absurd (false≢true e)
select_some NotYet x y e = absurd (false≢true e)

let_some : (o : Option (List Word)) (f : List Word → Option (List Word)) → is_some (with_all o None f) ≡ true → (vs : List Word) × (is_some (f vs) ≡ true)
let_some None f e = absurd (false≢true e)
let_some (Some vs) f e = (vs, e)

mutual
  unfolding wanted Stands

  -- what is wanted stands there
  pub wanted_stands : (b : ℕ → Option Word) (env : List Word) (t : Term) (k : ℕ) → is_some (wanted b env t k) ≡ true → Stands k t
  wanted_stands b env (Const n) k e = absurd (false≢true e)
  wanted_stands b env (Var i) k e = absurd (false≢true e)
  wanted_stands b env (Op p ts) k e = wanted_stands_in b env ts k e
  wanted_stands b env (If d x y) k e =
      ⊎_elim (λ a. inl (wanted_stands b env d k a))
      (λ s. ⊎_elim (λ a. inr (inl (wanted_stands b env x k a))) (λ a. inr (inr (wanted_stands b env y k a))) (select_some (answer b env d) _ _ s)) (or_some _ _ e)
  wanted_stands b env (Let bs x) k e =
      ⊎_elim (λ a. inl (wanted_stands_in b env bs k a)) (λ s. let v = let_some (answers b env bs) (λ vs. wanted b (env ++ vs) x k) s in inr (wanted_stands b (env ++ v.0) x k v.1)) (or_some _ _ e)
  wanted_stands b env (Call f j ts) k e =
      ⊎_elim (λ same. inl same) (λ other. inr (wanted_stands_in b env ts k (subst (λ t. is_some (cond t (answers b env ts) (wanted_in b env ts k)) ≡ true) (ne_eqb j k other) e))) (cases_eq j k)
  wanted_stands b env (Loop m ts) k e = wanted_stands_in b env ts k e

  pub wanted_stands_in : (b : ℕ → Option Word) (env : List Word) (ts : Terms) (k : ℕ) → is_some (wanted_in b env ts k) ≡ true → StandsIn k ts
  wanted_stands_in b env Nil k e = absurd (false≢true e)
  wanted_stands_in b env (Cons t ts) k e = ⊎_elim (λ a. inl (wanted_stands b env t k a)) (λ a. inr (wanted_stands_in b env ts k a)) (or_some _ _ e)

select_says : (q x y a : Answer) → select q NotYet x y ≡ a → (a ≡ NotYet → ⊥) → (q ≡ NotYet → ⊥) × ((n : Word) × (q ≡ Ready n))
select_says (Ready n) x y a e some = (ready_not_yet n, (n, refl))
select_says (LoopTo h vs) x y a e some = absurd (some (sym e))
select_says NotYet x y a e some = absurd (some (sym e))

-- a word that one of two parts wants
either : (o p : Option (List Word)) (Q : Type 0) → (is_some o ≡ true → Q) → (is_some p ≡ true → Q) → is_some (or_else o p) ≡ true → Q
either o p Q f g e = ⊎_elim f g (or_some o p e)

-- one branch of a choice
branch_settled : (q x y a : Answer) (wx wy : Option (List Word)) (Q : Type 0) →
    ((u : Word) → q ≡ Ready u → u.bits ≡ 1 → x ≡ a → is_some wx ≡ true → Q) → ((u : Word) → q ≡ Ready u → u.bits ≢ 1 → y ≡ a → is_some wy ≡ true → Q)
    → select q NotYet x y ≡ a → (a ≡ NotYet → ⊥) → is_some (select q None wx wy) ≡ true → Q
branch_settled (Ready u) x y a wx wy Q fx fy e some w = pick_cases u.bits x y wx wy (λ z v. (z ≡ a) × (is_some v ≡ true)) Q
    (λ one p. fx u refl one p.0 p.1) (λ other p. fy u refl other p.0 p.1)
    (pick_two u.bits x y wx wy (λ z v. z ≡ a → is_some v ≡ true → (z ≡ a) × (is_some v ≡ true)) (λ i j. (i, j)) (λ i j. (i, j)) e w)
branch_settled (LoopTo h vs) x y a wx wy Q fx fy e some w = absurd (false≢true w)
branch_settled NotYet x y a wx wy Q fx fy e some w = absurd (false≢true w)

let_settled : (o : Option (List Word)) (f : List Word → Answer) (a : Answer) → with_all o NotYet f ≡ a → (a ≡ NotYet → ⊥) → (vs : List Word) × (o ≡ Some vs) × (f vs ≡ a)
let_settled None f a e some = absurd (some (sym e))
let_settled (Some vs) f a e some = (vs, refl, e)

mutual
  unfolding answer wanted Stands Once

  -- where a body says something, each site that it wants has returned, if each that has returned is wanted
  pub settled : (b : ℕ → Option Word) (env : List Word) (t : Term) → Once t →
      ((j : ℕ) → Stands j t → is_some (b j) ≡ true → is_some (wanted b env t j) ≡ true) → (a : Answer) → answer b env t ≡ a → (a ≡ NotYet → ⊥) →
      (k : ℕ) → is_some (wanted b env t k) ≡ true → is_some (b k) ≡ true
  settled b env (Const n) once h a e some k w = absurd (false≢true w)
  settled b env (Var i) once h a e some k w = absurd (false≢true w)
  settled b env (Op p ts) once h a e some k w =
      let o = apply_some p (answers b env ts) a e some in
      settled_in b env ts once h o.0 o.1 k w
  settled b env (If d x y) once h a e some k w =
      let q = select_says (answer b env d) (answer b env x) (answer b env y) a e some in
      either (wanted b env d k) (select (answer b env d) None (wanted b env x k) (wanted b env y k)) (is_some (b k) ≡ true)
      (λ wd. settled b env d once.0 (λ j st back. either (wanted b env d j) (select (answer b env d) None (wanted b env x j) (wanted b env y j)) (is_some (wanted b env d j) ≡ true) (λ z. z)
      (λ z. absurd (once.3 j st (⊎_elim (λ l. inl (wanted_stands b env x j l)) (λ l. inr (wanted_stands b env y j l))
      (select_some (answer b env d) (wanted b env x j) (wanted b env y j) z)))) (h j (inl st) back)) (answer b env d) refl q.0 k wd)
      (λ wb. branch_settled (answer b env d) (answer b env x) (answer b env y) a (wanted b env x k) (wanted b env y k) (is_some (b k) ≡ true)
      (λ u is one e' wx. settled b env x once.1 (λ j st back. either (wanted b env d j) (select (answer b env d) None (wanted b env x j) (wanted b env y j)) (is_some (wanted b env x j) ≡ true)
      (λ z. absurd (once.3 j (wanted_stands b env d j z) (inl st)))
      (λ z. sym (ap is_some (pick_one u.bits (wanted b env x j) (wanted b env y j) one)) ∙ subst
      (λ q. is_some (select q None (wanted b env x j) (wanted b env y j)) ≡ true) is z) (h j (inr (inl st)) back)) a e' some k wx)
      (λ u is other e' wy. settled b env y once.2 (λ j st back. either (wanted b env d j) (select (answer b env d) None (wanted b env x j) (wanted b env y j)) (is_some (wanted b env y j) ≡ true)
      (λ z. absurd (once.3 j (wanted_stands b env d j z) (inr st)))
      (λ z. sym (ap is_some (pick_other u.bits (wanted b env x j) (wanted b env y j) other)) ∙ subst
      (λ q. is_some (select q None (wanted b env x j) (wanted b env y j)) ≡ true) is z) (h j (inr (inr st)) back)) a e' some k wy)
      e some wb) w
  settled b env (Let bs x) once h a e some k w =
      let l = let_settled (answers b env bs) (λ vs. answer b (env ++ vs) x) a e some in
      let at = λ (j : ℕ) (z : is_some (with_all (answers b env bs) None (λ vs. wanted b (env ++ vs) x j)) ≡ true). subst
      (λ o. is_some (with_all o None (λ vs. wanted b (env ++ vs) x j)) ≡ true) l.1 z in
      either (wanted_in b env bs k) (with_all (answers b env bs) None (λ vs. wanted b (env ++ vs) x k)) (is_some (b k) ≡ true)
      (λ wd. settled_in b env bs once.0 (λ j st back. either (wanted_in b env bs j) (with_all (answers b env bs) None (λ vs. wanted b (env ++ vs) x j)) (is_some (wanted_in b env bs j) ≡ true) (λ z. z)
      (λ z. absurd (once.2 j st (wanted_stands b (env ++ l.0) x j (at j z)))) (h j (inl st) back)) l.0 l.1 k wd)
      (λ wx. settled b (env ++ l.0) x once.1 (λ j st back. either (wanted_in b env bs j)
      (with_all (answers b env bs) None (λ vs. wanted b (env ++ vs) x j)) (is_some (wanted b (env ++ l.0) x j) ≡ true)
      (λ z. absurd (once.2 j (wanted_stands_in b env bs j z) st)) (λ z. at j z) (h j (inr st) back)) a l.2 some k (at k wx)) w
  settled b env (Call f j ts) once h a e some k w =
      let o = from_some (b j) a e some in
      let args : is_some (answers b env ts) ≡ true = subst (λ t. is_some (cond t (answers b env ts) (wanted_in b env ts j)) ≡ true) (eq-eqb j j refl) (h j (inl refl) (ap is_some o.1)) in
      let vs = some_at (answers b env ts) args in
      ⊎_elim (λ same. ap is_some (ap b (sym same) ∙ o.1))
      (λ other. settled_in b env ts once.0 (λ i st back. subst (λ t. is_some (cond t (answers b env ts) (wanted_in b env ts i)) ≡ true)
      (ne_eqb j i (λ is. once.1 (subst (λ n. StandsIn n ts) (sym is) st))) (h i (inr st) back)) vs.0 vs.1 k
      (subst (λ t. is_some (cond t (answers b env ts) (wanted_in b env ts k)) ≡ true) (ne_eqb j k other) w)) (cases_eq j k)
  settled b env (Loop m ts) once h a e some k w =
      let o = go_some m (answers b env ts) a e some in
      settled_in b env ts once h o.0 o.1 k w

  pub settled_in : (b : ℕ → Option Word) (env : List Word) (ts : Terms) → OnceIn ts →
      ((j : ℕ) → StandsIn j ts → is_some (b j) ≡ true → is_some (wanted_in b env ts j) ≡ true) → (vs : List Word) → answers b env ts ≡ Some vs →
      (k : ℕ) → is_some (wanted_in b env ts k) ≡ true → is_some (b k) ≡ true
  settled_in b env Nil once h vs e k w = absurd (false≢true w)
  settled_in b env (Cons t ts) once h vs e k w =
      let p = both_parts (answer b env t) (answers b env ts) vs e in
      either (wanted b env t k) (wanted_in b env ts k) (is_some (b k) ≡ true)
      (λ wt. settled b env t once.0 (λ j st back. either (wanted b env t j) (wanted_in b env ts j) (is_some (wanted b env t j) ≡ true) (λ z. z)
      (λ z. absurd (once.2 j st (wanted_stands_in b env ts j z))) (h j (inl st) back)) (Ready p.0) p.2 (ready_not_yet p.0) k wt)
      (λ ws. settled_in b env ts once.1 (λ j st back. either (wanted b env t j) (wanted_in b env ts j) (is_some (wanted_in b env ts j) ≡ true)
      (λ z. absurd (once.2 j (wanted_stands b env t j z) st)) (λ z. z) (h j (inr st) back)) p.1 p.3 k ws) w

abbrev goal_of : Answer → ℕ
goal_of (Ready v) = 0
goal_of (LoopTo h vs) = h
goal_of NotYet = 0

-- a body goes only to members that stand in it
pub goes_stands : (b : ℕ → Option Word) (env : List Word) (t : Term) (h : ℕ) (vs : List Word) → answer b env t ≡ LoopTo h vs → LoopsTo h t
unfolding answer LoopsTo
goes_stands b env (Const n) h vs e = absurd (ready_loop h vs n e)
goes_stands b env (Var i) h vs e = absurd (ready_loop h vs _ e)
goes_stands b env (Op p ts) h vs e = by (answers b env ts) e
  where
    by : (o : Option (List Word)) → apply_to p o ≡ LoopTo h vs → ⊥
    by None e = not_loop h vs e
    by (Some ws) e = ready_loop h vs (apply_prim p ws) e
goes_stands b env (If d x y) h vs e = by (goes_stands b env x h vs) (goes_stands b env y h vs) (answer b env d) e
  where
    by : (answer b env x ≡ LoopTo h vs → LoopsTo h x) → (answer b env y ≡ LoopTo h vs → LoopsTo h y) → (q : Answer) → select q NotYet (answer b env x)
        (answer b env y) ≡ LoopTo h vs → LoopsTo h x ⊎ LoopsTo h y
    by fx fy (Ready u) e = ⊎_elim (λ z. inl (fx z)) (λ z. inr (fy z)) (pick_either u.bits (answer b env x) (answer b env y) (λ z. z ≡ LoopTo h vs) e)
    by fx fy (LoopTo g us) e = absurd (not_loop h vs e)
    by fx fy NotYet e = absurd (not_loop h vs e)
goes_stands b env (Let bs x) h vs e = by (λ us. goes_stands b (env ++ us) x h vs) (answers b env bs) e
  where
    by : ((us : List Word) → answer b (env ++ us) x ≡ LoopTo h vs → LoopsTo h x) → (o : Option (List Word)) → with_all o NotYet (λ us. answer b (env ++ us) x) ≡ LoopTo h vs → LoopsTo h x
    by f None e = absurd (not_loop h vs e)
    by f (Some us) e = f us e
goes_stands b env (Call f k ts) h vs e = by (b k) e
  where
    by : (o : Option Word) → ready_from o ≡ LoopTo h vs → ⊥
    by None e = not_loop h vs e
    by (Some v) e = ready_loop h vs v e
goes_stands b env (Loop m ts) h vs e = by (answers b env ts) e
  where
    by : (o : Option (List Word)) → loop_to m o ≡ LoopTo h vs → m ≡ h
    by None e = absurd (not_loop h vs e)
    by (Some us) e = ap goal_of e

all_sized : (b : ℕ → Option Word) (env : List Word) (ts : Terms) (vs : List Word) → answers b env ts ≡ Some vs → length vs ≡ count ts
unfolding answer
all_sized b env Nil vs e = sym (ap length (same_Some [] vs e))
all_sized b env (Cons t ts) vs e =
    let p = both_parts (answer b env t) (answers b env ts) vs e in
    let len = all_sized b env ts p.1 p.3 in
    let is : p.0 ∷ p.1 ≡ vs = same_Some (p.0 ∷ p.1) vs (sym (ap (λ a. both a (answers b env ts)) p.2 ∙ ap (both (Ready p.0)) p.3) ∙ e) in
    sym (ap length is) ∙ ap suc len

select_one : (q : Answer) (x y : Option (List Word)) (ws : List Word) → select q None x y ≡ Some ws → (x ≡ Some ws) ⊎ (y ≡ Some ws)
select_one (Ready u) x y ws e = pick_either u.bits x y (λ z. z ≡ Some ws) e
select_one (LoopTo h vs) x y ws e = absurd (some_none ws (sym e))
select_one NotYet x y ws e = absurd (some_none ws (sym e))

with_one : (o : Option (List Word)) (g : List Word → Option (List Word)) (ws : List Word) → with_all o None g ≡ Some ws → (vs : List Word) × (g vs ≡ Some ws)
with_one None g ws e = absurd (some_none ws (sym e))
with_one (Some vs) g ws e = (vs, e)

mutual
  unfolding wanted answer Counted

  -- a wanted call has as many arguments as its callee has parameters
  pub wanted_sized : (C : Program) (b : ℕ → Option Word) (env : List Word) (t : Term) → Counted C t → (k : ℕ) (ws : List Word) → wanted b env t k ≡ Some ws → length ws ≡ arity C (C.callee k)
  wanted_sized C b env (Const n) c k ws e = absurd (some_none ws (sym e))
  wanted_sized C b env (Var i) c k ws e = absurd (some_none ws (sym e))
  wanted_sized C b env (Op p ts) c k ws e = wanted_in_sized C b env ts c k ws e
  wanted_sized C b env (If d x y) c k ws e =
      ⊎_elim (λ z. wanted_sized C b env d c.0 k ws z)
      (λ z. ⊎_elim (λ l. wanted_sized C b env x c.1 k ws l) (λ l. wanted_sized C b env y c.2 k ws l) (select_one (answer b env d) (wanted b env x k) (wanted b env y k) ws z))
      (or_from (wanted b env d k) (select (answer b env d) None (wanted b env x k) (wanted b env y k)) ws e)
  wanted_sized C b env (Let bs x) c k ws e =
      ⊎_elim (λ z. wanted_in_sized C b env bs c.0 k ws z)
      (λ z. let v = with_one (answers b env bs) (λ vs. wanted b (env ++ vs) x k) ws z in wanted_sized C b (env ++ v.0) x c.1 k ws v.1)
      (or_from (wanted_in b env bs k) (with_all (answers b env bs) None (λ vs. wanted b (env ++ vs) x k)) ws e)
  wanted_sized C b env (Call f j ts) c k ws e =
      ⊎_elim
      (λ is. all_sized b env ts ws (subst (λ t. cond t (answers b env ts) (wanted_in b env ts k) ≡ Some ws) (eq-eqb j k is) e) ∙ c.0 ∙ ap (λ n. arity C (C.callee n)) is)
      (λ off. wanted_in_sized C b env ts c.1 k ws (subst (λ t. cond t (answers b env ts) (wanted_in b env ts k) ≡ Some ws) (ne_eqb j k off) e))
      (cases_eq j k)
  wanted_sized C b env (Loop m ts) c k ws e = wanted_in_sized C b env ts c.1 k ws e

  pub wanted_in_sized : (C : Program) (b : ℕ → Option Word) (env : List Word) (ts : Terms) → CountedIn C ts → (k : ℕ) (ws : List Word) → wanted_in b
      env ts k ≡ Some ws → length ws ≡ arity C (C.callee k)
  wanted_in_sized C b env Nil c k ws e = absurd (some_none ws (sym e))
  wanted_in_sized C b env (Cons t ts) c k ws e =
      ⊎_elim (λ z. wanted_sized C b env t c.0 k ws z) (λ z. wanted_in_sized C b env ts c.1 k ws z) (or_from (wanted b env t k) (wanted_in b env ts k) ws e)

abbrev words_of : Answer → List Word
words_of (Ready v) = []
words_of (LoopTo h vs) = vs
words_of NotYet = []

pub goes_sized : (C : Program) (b : ℕ → Option Word) (env : List Word) (t : Term) → Counted C t → (h : ℕ) (vs : List Word) → answer b env t ≡ LoopTo h vs → length vs ≡ arity C h
unfolding answer Counted
goes_sized C b env (Const n) c h vs e = absurd (ready_loop h vs n e)
goes_sized C b env (Var i) c h vs e = absurd (ready_loop h vs _ e)
goes_sized C b env (Op p ts) c h vs e = absurd (by (answers b env ts) e)
  where
    by : (o : Option (List Word)) → apply_to p o ≡ LoopTo h vs → ⊥
    by None e = not_loop h vs e
    by (Some ws) e = ready_loop h vs (apply_prim p ws) e
goes_sized C b env (If d x y) c h vs e = by (goes_sized C b env x c.1 h vs) (goes_sized C b env y c.2 h vs) (answer b env d) e
  where
    by : (answer b env x ≡ LoopTo h vs → length vs ≡ arity C h) → (answer b env y ≡ LoopTo h vs → length vs ≡ arity C h) → (q : Answer) → select q
        NotYet (answer b env x) (answer b env y) ≡ LoopTo h vs → length vs ≡ arity C h
    by fx fy (Ready u) e = ⊎_elim fx fy (pick_either u.bits (answer b env x) (answer b env y) (λ z. z ≡ LoopTo h vs) e)
    by fx fy (LoopTo g us) e = absurd (not_loop h vs e)
    by fx fy NotYet e = absurd (not_loop h vs e)
goes_sized C b env (Let bs x) c h vs e = by (λ us. goes_sized C b (env ++ us) x c.1 h vs) (answers b env bs) e
  where
    by : ((us : List Word) → answer b (env ++ us) x ≡ LoopTo h vs → length vs ≡ arity C h) → (o : Option (List Word)) → with_all o NotYet
        (λ us. answer b (env ++ us) x) ≡ LoopTo h vs → length vs ≡ arity C h
    by f None e = absurd (not_loop h vs e)
    by f (Some us) e = f us e
goes_sized C b env (Call f k ts) c h vs e = absurd (by (b k) e)
  where
    by : (o : Option Word) → ready_from o ≡ LoopTo h vs → ⊥
    by None e = not_loop h vs e
    by (Some v) e = ready_loop h vs v e
goes_sized C b env (Loop m ts) c h vs e = by (answers b env ts) refl e
  where
    by : (o : Option (List Word)) → answers b env ts ≡ o → loop_to m o ≡ LoopTo h vs → length vs ≡ arity C h
    by None is e = absurd (not_loop h vs e)
    by (Some us) is e = sym (ap length (ap words_of e)) ∙ all_sized b env ts us is ∙ c.0 ∙ ap (arity C) (ap goal_of e)
