-- Whether an expression calls a member of its group, by its parts.
use Rattle.safl_reshape.proofs.Common.{Arm, Bound, Callee, Known, Labelled, Primitive, Tree, arms_of, binds_of, callee, calls, calls_bound}
use Rattle.safl_reshape.proofs.Common.{calls_in, calls_labelled, drop_read, shown_labelled, shown_tree, trees_of, ◌||◌}
use Rattle.std.proofs.Common.{◌≡◌, ℕ, ◌+◌, ◌<◌, List, [], ◌∷◌, length, drop, get_or, Bool, true, false, refl, sym, ap, ◌∙◌}
use Rattle.safl_word.proofs.Booleans.{or_assoc}
use Rattle.safl_tree.specs.Tree as source
use Rattle.safl_typing.specs.Rewriting.{rewritten, rewritten_all, rewritten_binds, rewritten_arms}

arm_calls : (l v r : Bool) → ((false || (l || false)) || (v || r)) ≡ ((l || v) || r)
arm_calls true v r = refl
arm_calls false v r = refl

or_right_false : (a b : Bool) → ((a || false) || b) ≡ (a || b)
or_right_false true b = refl
or_right_false false b = refl

module _ (test : Callee → Bool) (k : Known) where
  arms_calls : (p : ℕ) (ls : List Labelled) (t : Tree) → calls test k (rewritten_arms p (arms_of ls t)) ≡ (calls_labelled test k ls || calls test k (rewritten t))
  arms_calls p [] t = refl
  arms_calls p (a ∷ ls) t =
      arm_calls (calls test k (rewritten a.label)) (calls test k (rewritten a.value)) (calls test k (rewritten_arms p (arms_of ls t)))
      ∙ (ap (λ (b : Bool). (calls test k (rewritten a.label) || calls test k (rewritten a.value)) || b) (arms_calls p ls t) ∙ sym
      (or_assoc (calls test k (rewritten a.label) || calls test k (rewritten a.value)) (calls_labelled test k ls) (calls test k (rewritten t))))

  pub let_calls : {p : ℕ} (xs : List Bound) {t n : Tree} {r a b : Bool} → n ≡ source.Let p (binds_of xs) t → a ≡ calls_bound test k
      (rewritten_binds (binds_of xs)) → b ≡ calls test k (rewritten t) → r ≡ (a || b) → r ≡ calls test k (rewritten n)
  let_calls {p} xs {t} {n} {r} {a} {b} e f g h = h ∙ (cc (f, g) ∙ ap (λ (z : Tree). calls test k (rewritten z)) (sym e))

  pub if_calls : {p : ℕ} {v t u n : Tree} {r : Bool} → n ≡ source.If p v t u → calls test k (rewritten v) ≡ false → calls test k (rewritten t) ≡ false
      → r ≡ calls test k (rewritten u) → r ≡ calls test k (rewritten n)
  if_calls {p} {v} {t} {u} {n} {r} e f g h =
      h ∙ (sym (ap (λ (z : Bool). z || (calls test k (rewritten t) || calls test k (rewritten u))) f ∙ ap (λ (z : Bool). z || calls test k (rewritten u)) g)
      ∙ ap (λ (z : Tree). calls test k (rewritten z)) (sym e))

  -- what an arm that calls no such function leaves to the others
  pub arms_go_on : (arms : List Arm) (i : ℕ) (arm : Arm) (b : Bool) → i < length arms → arm ≡ get_or arms i arm
      → calls test k (rewritten (shown_tree arm.label)) ≡ false → calls test k (rewritten (shown_tree arm.value)) ≡ false
      → calls_labelled test k (shown_labelled (drop i arms)) ≡ b → calls_labelled test k (shown_labelled (drop (i + 1) arms)) ≡ b
  arms_go_on arms i arm b lt is label value h =
      let rest = calls_labelled test k (shown_labelled (drop (i + 1) arms)) in
      sym (ap (λ (l : List Arm). calls_labelled test k (shown_labelled l)) (drop_read arms i arm lt is)
      ∙ (ap (λ (z : Bool). (z || calls test k (rewritten (shown_tree arm.value))) || rest) label ∙ ap (λ (z : Bool). z || rest) value)) ∙ h

  pub case_calls : {p : ℕ} {v : Tree} (ls : List Labelled) (t : Tree) {n : Tree} {r a b c : Bool} → n ≡ source.Cases p v (arms_of ls t) → a ≡ calls test k
      (rewritten v) → b ≡ calls_labelled test k ls → c ≡ calls test k (rewritten t) → r ≡ (a || (b || c)) → r ≡ calls test k (rewritten n)
  case_calls {p} {v} ls t {n} {r} {a} {b} {c} e f g h i =
      i ∙ (ap (λ (z : Bool). z || (b || c)) f ∙ (ap (λ (z : Bool). calls test k (rewritten v) || (z || c)) g ∙ (ap (λ (z : Bool). calls test k (rewritten v) || (calls_labelled test k ls || z)) h
      ∙ (ap (λ (z : Bool). calls test k (rewritten v) || z) (sym (arms_calls p ls t)) ∙
      (sym (or_right_false (calls test k (rewritten v)) (calls test k (rewritten_arms p (arms_of ls t)))) ∙ ap (λ (z : Tree). calls test k (rewritten z)) (sym e))))))

  pub op_calls : {p : ℕ} {o : Primitive} (xs : List Tree) {n : Tree} {r : Bool} → n ≡ source.Op p o (trees_of xs) → r ≡ calls_in test k (rewritten_all (trees_of xs)) → r ≡ calls test k (rewritten n)
  op_calls {p} {o} xs {n} {r} e f = f ∙ ap (λ (z : Tree). calls test k (rewritten z)) (sym e)

  pub call_calls : {p : ℕ} {x : List ℕ} (xs : List Tree) {n : Tree} {r a b : Bool} → n ≡ source.Call p x (trees_of xs) → a ≡ test (callee k x) → b ≡
      calls_in test k (rewritten_all (trees_of xs)) → r ≡ (a || b) → r ≡ calls test k (rewritten n)
  call_calls {p} {x} xs {n} {r} {a} {b} e f g h = h ∙ (cc (f, g) ∙ ap (λ (z : Tree). calls test k (rewritten z)) (sym e))
