-- What a term of a width answers, loops with and wants has the widths that it should have.
use Rattle.safl_term.proofs.Common.{Program, Word, apply_prim, apply_width, result_width, same_Some, slot, widths}
use Rattle.std.proofs.Common.{◌≡◌, ℕ, zero, suc, List, [], ◌∷◌, ◌++◌, Option, Some, None, Bool, false, cond, refl, sym, ap, ◌∙◌, subst, inl, inr, ◌⊎◌, ⊎_elim, arith}
use Rattle.std.specs.Prelude.{slice_get}
use Rattle.std.proofs.lemmas.Bool.{cases_eq, eq-eqb, ne_eqb}
use Rattle.safl_term.specs.Terms.{Term, Const, Var, Op, If, Let, Call, Loop, Terms, Nil, Cons}
use Rattle.safl_term.specs.Readiness.{Answer, Ready, LoopTo, NotYet, both, ready_from, apply_to, loop_to, select, with_all, answer, answers, wanted, wanted_in}
use Rattle.safl_term.specs.Standing.{Stands, StandsIn}
use Rattle.safl_term.specs.WellFormed.{Spans, SpansAll, HasWidth, HaveWidths}
use Rattle.safl_term.proofs.Picking.{pick_either}
use Rattle.safl_term.proofs.Apart.{not_loop}
use Rattle.safl_term.proofs.OrElse.{or_from}

none_some : {A : Type 0} {B : Type 0} (x : B) → None ≡ Some x → A
none_some x e = cc

pub ready_is : (v w : Word) → Ready v ≡ Ready w → v ≡ w
ready_is v w e = cc

pub not_ready : {A : Type 0} (v : Word) → NotYet ≡ Ready v → A
not_ready v e = absurd (grind arith)

loop_ready : {A : Type 0} (h : ℕ) (vs : List Word) (v : Word) → LoopTo h vs ≡ Ready v → A
loop_ready h vs v e = absurd (grind arith)

pub ready_loop : {A : Type 0} (h : ℕ) (vs : List Word) (v : Word) → Ready v ≡ LoopTo h vs → A
ready_loop h vs v e = absurd (grind arith)

abbrev loop_member : Answer → ℕ
loop_member (Ready v) = 0
loop_member (LoopTo h vs) = h
loop_member NotYet = 0

abbrev loop_args : Answer → List Word
loop_args (Ready v) = []
loop_args (LoopTo h vs) = vs
loop_args NotYet = []

pub widths_append : (us vs : List Word) → widths (us ++ vs) ≡ widths us ++ widths vs
widths_append [] vs = refl
widths_append (u ∷ us) vs = ap (λ l. u.width ∷ l) (widths_append us vs)

slot_width : (env : List Word) (i n : ℕ) → slice_get (widths env) i ≡ Some n → (slot env i).width ≡ n
slot_width [] i n e = none_some n e
slot_width (x ∷ xs) zero n e = same_Some x.width n e
slot_width (x ∷ xs) (suc i) n e = slot_width xs i n e

select_from : {A : Type 0} (q : Answer) (none x y : A) (P : A → Type 0) → P (select q none x y) → (P none) ⊎ (P x ⊎ P y)
select_from (Ready u) none x y P p = inr (pick_either u.bits x y P p)
select_from (LoopTo h vs) none x y P p = inl p
select_from NotYet none x y P p = inl p

both_parts : (a : Answer) (o : Option (List Word)) (vs : List Word) → both a o ≡ Some vs → (v : Word) × (ws : List Word) × (a ≡ Ready v) × (o ≡ Some ws) × (v ∷ ws ≡ vs)
both_parts (Ready v) None vs e = none_some vs e
both_parts (Ready v) (Some ws) vs e = (v, ws, refl, refl, same_Some (v ∷ ws) vs e)
both_parts (LoopTo h ws) o vs e = none_some vs e
both_parts NotYet o vs e = none_some vs e

with_from : {A : Type 0} (o : Option (List Word)) (none : A) (go : List Word → A) (P : A → Type 0) → P (with_all o none go) → P none ⊎ ((vs : List Word) × (o ≡ Some vs) × P (go vs))
with_from None none go P p = inl p
with_from (Some vs) none go P p = inr (vs, refl, p)

module _ (C : Program) (back : ℕ → Option Word) where
  -- the words that have come back have their callees' widths
  abbrev pub BackIn : Term → Type 0
  BackIn t = (k : ℕ) (v : Word) → Stands k t → back k ≡ Some v → v.width ≡ C.result (C.callee k)

  abbrev pub AllBackIn : Terms → Type 0
  AllBackIn ts = (k : ℕ) (v : Word) → StandsIn k ts → back k ≡ Some v → v.width ≡ C.result (C.callee k)

  mutual
    unfolding answer Stands

    pub answer_width : (g : ℕ) (tail : Bool) (lo hi : ℕ) (env : List Word) (t : Term) (n : ℕ) (v : Word) → Spans C g tail lo hi t → HasWidth C
        (widths env) t n → BackIn t → answer back env t ≡ Ready v → v.width ≡ n
    answer_width g tail lo hi env (Const w) n v s h b e = sym (ap (λ z. z.width) (ready_is w v e)) ∙ h.1
    answer_width g tail lo hi env (Var i) n v s h b e = sym (ap (λ z. z.width) (ready_is (slot env i) v e)) ∙ slot_width env i n h
    answer_width g tail lo hi env (Op o ts) n v s (ws, h, r) b e = by (answers back env ts) refl e (λ vs q. answers_widths g lo hi env ts ws vs s h b q)
      where
        by : (x : Option (List Word)) → answers back env ts ≡ x → apply_to o x ≡ Ready v → ((vs : List Word) → answers back env ts ≡ Some vs → widths vs ≡ ws) → v.width ≡ n
        by None q z all = not_ready v z
        by (Some vs) q z all = sym (ap (λ z. z.width) (ready_is (apply_prim o vs) v z)) ∙ apply_width o vs n (ap (result_width o) (all vs q) ∙ r)
    answer_width g tail lo hi env (If c x y) n v (m, k, sc, sx, sy) h b e =
        ⊎_elim (λ z. not_ready v z)
        (λ p. ⊎_elim
        (λ z. answer_width g tail m k env x n v sx h.1 (λ i w st. b i w (inr (inl st))) z)
        (λ z. answer_width g tail k hi env y n v sy h.2 (λ i w st. b i w (inr (inr st))) z) p)
        (select_from (answer back env c) NotYet (answer back env x) (answer back env y) (λ z. z ≡ Ready v) e)
    answer_width g tail lo hi env (Let ts x) n v (m, st, sx) (ws, h, hx) b e =
        ⊎_elim (λ z. not_ready v z)
        (λ p.
        let all = answers_widths g lo m env ts ws p.0 st h (λ i w q. b i w (inl q)) p.1 in
        answer_width g tail m hi (env ++ p.0) x n v sx (subst (λ l. HasWidth C l x n) (sym (widths_append env p.0 ∙ ap (λ l. widths env ++ l) all)) hx) (λ i w q. b i w (inr q)) p.2)
        (with_from (answers back env ts) NotYet (λ vs. answer back (env ++ vs) x) (λ z. z ≡ Ready v) e)
    answer_width g tail lo hi env (Call f k ts) n v (i, callee, s2, s3, s4) h b e = by (back k) refl e
      where
        by : (x : Option Word) → back k ≡ x → ready_from x ≡ Ready v → v.width ≡ n
        by None q z = not_ready v z
        by (Some w) q z = sym (ap (λ z. z.width) (ready_is w v z)) ∙ b k w (inl refl) q ∙ ap C.result callee ∙ h.1
    answer_width g tail lo hi env (Loop m ts) n v s h b e = by (answers back env ts) e
      where
        by : (x : Option (List Word)) → loop_to m x ≡ Ready v → v.width ≡ n
        by None z = not_ready v z
        by (Some vs) z = loop_ready m vs v z

    pub answers_widths : (g lo hi : ℕ) (env : List Word) (ts : Terms) (ws : List ℕ) (vs : List Word) → SpansAll C g lo hi ts → HaveWidths C
        (widths env) ts ws → AllBackIn ts → answers back env ts ≡ Some vs → widths vs ≡ ws
    answers_widths g lo hi env Nil [] vs s h b e = sym (ap widths (same_Some [] vs e))
    answers_widths g lo hi env Nil (w ∷ ws) vs s h b e = absurd h
    answers_widths g lo hi env (Cons t ts) [] vs s h b e = absurd h
    answers_widths g lo hi env (Cons t ts) (w ∷ ws) vs (m, st, sts) h b e =
        let p = both_parts (answer back env t) (answers back env ts) vs e in
        sym (ap widths p.4)
        ∙ ap (λ z. z ∷ widths p.1) (answer_width g false lo m env t w p.0 st h.0 (λ i v q. b i v (inl q)) p.2)
        ∙ ap (λ l. w ∷ l) (answers_widths g m hi env ts ws p.1 sts h.1 (λ i v q. b i v (inr q)) p.3)

  pub loop_widths : (g : ℕ) (tail : Bool) (lo hi : ℕ) (env : List Word) (t : Term) (n h : ℕ) (vs : List Word) → Spans C g tail lo hi t → HasWidth C
      (widths env) t n → BackIn t → answer back env t ≡ LoopTo h vs → widths vs ≡ C.params h
  unfolding answer Stands
  loop_widths g tail lo hi env (Const w) n h vs s hw b e = ready_loop h vs w e
  loop_widths g tail lo hi env (Var i) n h vs s hw b e = ready_loop h vs (slot env i) e
  loop_widths g tail lo hi env (Op o ts) n h vs s hw b e = by (answers back env ts) e
    where
      by : (x : Option (List Word)) → apply_to o x ≡ LoopTo h vs → widths vs ≡ C.params h
      by None z = not_loop h vs z
      by (Some ws) z = ready_loop h vs (apply_prim o ws) z
  loop_widths g tail lo hi env (If c x y) n h vs (m, k, sc, sx, sy) hw b e =
      ⊎_elim (λ z. not_loop h vs z)
      (λ p. ⊎_elim
      (λ z. loop_widths g tail m k env x n h vs sx hw.1 (λ i w st. b i w (inr (inl st))) z)
      (λ z. loop_widths g tail k hi env y n h vs sy hw.2 (λ i w st. b i w (inr (inr st))) z) p)
      (select_from (answer back env c) NotYet (answer back env x) (answer back env y) (λ z. z ≡ LoopTo h vs) e)
  loop_widths g tail lo hi env (Let ts x) n h vs (m, st, sx) (ws, hb, hx) b e =
      ⊎_elim (λ z. not_loop h vs z)
      (λ p.
      let all = answers_widths g lo m env ts ws p.0 st hb (λ i w q. b i w (inl q)) p.1 in
      loop_widths g tail m hi (env ++ p.0) x n h vs sx (subst (λ l. HasWidth C l x n) (sym (widths_append env p.0 ∙ ap (λ l. widths env ++ l) all)) hx) (λ i w q. b i w (inr q)) p.2)
      (with_from (answers back env ts) NotYet (λ us. answer back (env ++ us) x) (λ z. z ≡ LoopTo h vs) e)
  loop_widths g tail lo hi env (Call f k ts) n h vs s hw b e = by (back k) e
    where
      by : (x : Option Word) → ready_from x ≡ LoopTo h vs → widths vs ≡ C.params h
      by None z = not_loop h vs z
      by (Some w) z = ready_loop h vs w z
  loop_widths g tail lo hi env (Loop m ts) n h vs (s0, s1, s2) hw b e = by (answers back env ts) refl e
    where
      by : (x : Option (List Word)) → answers back env ts ≡ x → loop_to m x ≡ LoopTo h vs → widths vs ≡ C.params h
      by None q z = not_loop h vs z
      by (Some us) q z = sym (ap widths (ap loop_args z)) ∙ answers_widths g lo hi env ts (C.params m) us s2 hw.0 b q ∙ ap C.params (ap loop_member z)

  mutual
    unfolding wanted Stands

    pub wanted_widths : (g : ℕ) (tail : Bool) (lo hi : ℕ) (env : List Word) (t : Term) (n k : ℕ) (us : List Word) → Spans C g tail lo hi t → HasWidth
        C (widths env) t n → BackIn t → wanted back env t k ≡ Some us → widths us ≡ C.params (C.callee k)
    wanted_widths g tail lo hi env (Const w) n k us s h b e = none_some us e
    wanted_widths g tail lo hi env (Var i) n k us s h b e = none_some us e
    wanted_widths g tail lo hi env (Op o ts) n k us s (ws, h, r) b e = wanted_in_widths g lo hi env ts ws k us s h b e
    wanted_widths g tail lo hi env (If c x y) n k us (m, l, sc, sx, sy) h b e =
        ⊎_elim
        (λ z. wanted_widths g false lo m env c 1 k us sc h.0 (λ i w st. b i w (inl st)) z)
        (λ q. ⊎_elim (λ z. none_some us z)
        (λ p. ⊎_elim
        (λ z. wanted_widths g tail m l env x n k us sx h.1 (λ i w st. b i w (inr (inl st))) z)
        (λ z. wanted_widths g tail l hi env y n k us sy h.2 (λ i w st. b i w (inr (inr st))) z) p)
        (select_from (answer back env c) None (wanted back env x k) (wanted back env y k) (λ z. z ≡ Some us) q))
        (or_from (wanted back env c k) (select (answer back env c) None (wanted back env x k) (wanted back env y k)) us e)
    wanted_widths g tail lo hi env (Let ts x) n k us (m, st, sx) (ws, h, hx) b e =
        ⊎_elim
        (λ z. wanted_in_widths g lo m env ts ws k us st h (λ i w q. b i w (inl q)) z)
        (λ q. ⊎_elim (λ z. none_some us z)
        (λ p.
        let all = answers_widths g lo m env ts ws p.0 st h (λ i w q. b i w (inl q)) p.1 in
        wanted_widths g tail m hi (env ++ p.0) x n k us sx (subst (λ l. HasWidth C l x n) (sym (widths_append env p.0 ∙ ap (λ l. widths env ++ l) all)) hx) (λ i w q. b i w (inr q)) p.2)
        (with_from (answers back env ts) None (λ vs. wanted back (env ++ vs) x k) (λ z. z ≡ Some us) q))
        (or_from (wanted_in back env ts k) (with_all (answers back env ts) None (λ vs. wanted back (env ++ vs) x k)) us e)
    wanted_widths g tail lo hi env (Call f j ts) n k us (s0, callee, s2, s3, st) h b e =
        ⊎_elim
        (λ q. answers_widths g (suc lo) hi env ts (C.params f) us st h.0 (λ i w z. b i w (inr z))
        (sym (ap (λ c. cond c (answers back env ts) (wanted_in back env ts k)) (eq-eqb j k q)) ∙ e) ∙ ap C.params (sym callee ∙ ap C.callee q))
        (λ q. wanted_in_widths g (suc lo) hi env ts (C.params f) k us st h.0 (λ i w z. b i w (inr z)) (sym (ap (λ c. cond c (answers back env ts) (wanted_in back env ts k)) (ne_eqb j k q)) ∙ e))
        (cases_eq j k)
    wanted_widths g tail lo hi env (Loop m ts) n k us (s0, s1, s2) h b e = wanted_in_widths g lo hi env ts (C.params m) k us s2 h.0 b e

    pub wanted_in_widths : (g lo hi : ℕ) (env : List Word) (ts : Terms) (ws : List ℕ) (k : ℕ) (us : List Word) → SpansAll C g lo hi ts → HaveWidths C
        (widths env) ts ws → AllBackIn ts → wanted_in back env ts k ≡ Some us → widths us ≡ C.params (C.callee k)
    wanted_in_widths g lo hi env Nil ws k us s h b e = none_some us e
    wanted_in_widths g lo hi env (Cons t ts) [] k us s h b e = absurd h
    wanted_in_widths g lo hi env (Cons t ts) (w ∷ ws) k us (m, st, sts) h b e =
        ⊎_elim
        (λ z. wanted_widths g false lo m env t w k us st h.0 (λ i v q. b i v (inl q)) z)
        (λ z. wanted_in_widths g m hi env ts ws k us sts h.1 (λ i v q. b i v (inr q)) z)
        (or_from (wanted back env t k) (wanted_in back env ts k) us e)
