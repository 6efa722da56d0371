-- Where the word of a site no longer matters.
use Rattle.safl_calls.proofs.Common.{Primitive, Word, apply_prim, bool_at, fun_ext, slot}
use Rattle.std.proofs.Common.{◌≡◌, ℕ, zero, suc, List, [], ◌∷◌, ◌++◌, length, length-append, Option, Some, None, Bool, true, false, cond, ◌||◌, ◌==◌}
use Rattle.std.proofs.Common.{is_some, refl, ap, ◌∙◌, subst, inl, inr, arith}
use Rattle.std.proofs.lemmas.Bool.{eqb-false, false≢true, true≢false, or_parts, false_from_ne_true}
use Rattle.safl_sites.specs.Kept.{feeds, feeds_any, feeds_each, Uses, UsesIn, Decides, DecidesIn}
use Rattle.safl_term.specs.Readiness.{Answer, Ready, LoopTo, NotYet, apply_to, loop_to, both, select, with_all, or_else, ready_from, answer, answers, wanted, wanted_in}
use Rattle.safl_term.specs.Terms.{Term, Terms, Const, Var, Op, If, Let, Call, Loop, Nil, Cons}
use Rattle.safl_term.proofs.Picking.{pick_two}
use Rattle.safl_term.proofs.OrElse.{or_alike}

-- the words of two environments agree where no feed says otherwise
abbrev pub AgreeOn : List Bool → List Word → List Word → Type 0
AgreeOn [] [] [] = Unit {0}
AgreeOn (b ∷ bs) (x ∷ xs) (y ∷ ys) = (b ≡ false → x ≡ y) × AgreeOn bs xs ys
AgreeOn _ _ _ = ⊥

pub agree_at : (bs : List Bool) (xs ys : List Word) → AgreeOn bs xs ys → (i : ℕ) → bool_at bs i ≡ false → slot xs i ≡ slot ys i
agree_at [] [] [] h i e = refl
agree_at (b ∷ bs) (x ∷ xs) (y ∷ ys) h zero e = h.0 e
agree_at (b ∷ bs) (x ∷ xs) (y ∷ ys) h (suc i) e = agree_at bs xs ys h.1 i e
agree_at [] [] (y ∷ ys) h i e = absurd h
agree_at [] (x ∷ xs) ys h i e = absurd h
agree_at (b ∷ bs) [] ys h i e = absurd h
agree_at (b ∷ bs) (x ∷ xs) [] h i e = absurd h

pub agree_append : (bs : List Bool) (xs ys : List Word) (cs : List Bool) (us vs : List Word) → AgreeOn bs xs ys → AgreeOn cs us vs → AgreeOn (bs ++ cs) (xs ++ us) (ys ++ vs)
agree_append [] [] [] cs us vs h k = k
agree_append (b ∷ bs) (x ∷ xs) (y ∷ ys) cs us vs h k = (h.0, agree_append bs xs ys cs us vs h.1 k)
agree_append [] [] (y ∷ ys) cs us vs h k = absurd h
agree_append [] (x ∷ xs) ys cs us vs h k = absurd h
agree_append (b ∷ bs) [] ys cs us vs h k = absurd h
agree_append (b ∷ bs) (x ∷ xs) [] cs us vs h k = absurd h

-- two answers of one kind, and of one word where no feed says otherwise
abbrev pub Alike : Bool → Answer → Answer → Type 0
Alike f (Ready v) (Ready w) = f ≡ false → v ≡ w
Alike f (LoopTo h vs) (LoopTo g ws) = h ≡ g
Alike f NotYet NotYet = Unit {0}
Alike f _ _ = ⊥

abbrev pub AlikeAll : List Bool → Option (List Word) → Option (List Word) → Type 0
AlikeAll fs (Some vs) (Some ws) = AgreeOn fs vs ws
AlikeAll fs None None = Unit {0}
AlikeAll fs _ _ = ⊥

both_alike : (f : Bool) (fs : List Bool) (a c : Answer) (o p : Option (List Word)) → Alike f a c → AlikeAll fs o p → AlikeAll (f ∷ fs) (both a o) (both c p)
both_alike f fs (Ready v) (Ready w) (Some vs) (Some ws) h k = (h, k)
both_alike f fs (Ready v) (Ready w) None None h k = tt
both_alike f fs (Ready v) (Ready w) None (Some ws) h k = absurd k
both_alike f fs (Ready v) (Ready w) (Some vs) None h k = absurd k
both_alike f fs (Ready v) (LoopTo g ws) o p h k = absurd h
both_alike f fs (Ready v) NotYet o p h k = absurd h
both_alike f fs (LoopTo g vs) (Ready w) o p h k = absurd h
both_alike f fs (LoopTo g vs) (LoopTo i ws) o p h k = tt
both_alike f fs (LoopTo g vs) NotYet o p h k = absurd h
both_alike f fs NotYet (Ready w) o p h k = absurd h
both_alike f fs NotYet (LoopTo i ws) o p h k = absurd h
both_alike f fs NotYet NotYet o p h k = tt

-- the environments are alike in all, where nothing is fed
all_agree : (k : ℕ) (fe : List Bool) (ts : Terms) (vs ws : List Word) → feeds_any k fe ts ≡ false → AgreeOn (feeds_each k fe ts) vs ws → vs ≡ ws
unfolding feeds
all_agree k fe Nil [] [] e h = refl
all_agree k fe Nil [] (y ∷ ys) e h = absurd h
all_agree k fe Nil (x ∷ xs) ys e h = absurd h
all_agree k fe (Cons t ts) (x ∷ xs) (y ∷ ys) e h =
    let p = or_parts (feeds k fe t) (feeds_any k fe ts) e in
    ap (λ z. z ∷ xs) (h.0 p.0) ∙ ap (λ zs. y ∷ zs) (all_agree k fe ts xs ys p.1 h.1)
all_agree k fe (Cons t ts) [] ys e h = absurd h
all_agree k fe (Cons t ts) (x ∷ xs) [] e h = absurd h

apply_alike : (p : Primitive) (f : Bool) (fs : List Bool) (o q : Option (List Word)) → AlikeAll fs o q →
    ((vs ws : List Word) → f ≡ false → AgreeOn fs vs ws → vs ≡ ws) → Alike f (apply_to p o) (apply_to p q)
apply_alike p f fs (Some vs) (Some ws) h all = λ e. ap (apply_prim p) (all vs ws e h)
apply_alike p f fs None None h all = tt
apply_alike p f fs None (Some ws) h all = absurd h
apply_alike p f fs (Some vs) None h all = absurd h

go_alike : (m : ℕ) (f : Bool) (fs : List Bool) (o q : Option (List Word)) → AlikeAll fs o q → Alike f (loop_to m o) (loop_to m q)
go_alike m f fs (Some vs) (Some ws) h = refl
go_alike m f fs None None h = tt
go_alike m f fs None (Some ws) h = absurd h
go_alike m f fs (Some vs) None h = absurd h

weaken : (f g : Bool) (a c : Answer) → (g ≡ false → f ≡ false) → Alike f a c → Alike g a c
weaken f g (Ready v) (Ready w) h k = λ e. k (h e)
weaken f g (LoopTo i vs) (LoopTo j ws) h k = k
weaken f g NotYet NotYet h k = tt
weaken f g (Ready v) (LoopTo j ws) h k = absurd k
weaken f g (Ready v) NotYet h k = absurd k
weaken f g (LoopTo i vs) (Ready w) h k = absurd k
weaken f g (LoopTo i vs) NotYet h k = absurd k
weaken f g NotYet (Ready w) h k = absurd k
weaken f g NotYet (LoopTo j ws) h k = absurd k

select_alike : (fd fx fy : Bool) (q q' x x' y y' : Answer) → fd ≡ false → Alike fd q q' → Alike fx x x' → Alike fy y y' → Alike (fd || (fx || fy)) (select q NotYet x y) (select q' NotYet x' y')
select_alike fd fx fy (Ready v) (Ready w) x x' y y' none h hx hy = subst (λ w. Alike (fd || (fx || fy)) (select (Ready v) NotYet x y) (select (Ready w) NotYet x' y')) (h none) (by v)
  where
    by : (v : Word) → Alike (fd || (fx || fy)) (select (Ready v) NotYet x y) (select (Ready v) NotYet x' y')
    by u = pick_two u.bits x y x' y' (Alike (fd || (fx || fy)))
        (weaken fx (fd || (fx || fy)) x x' (λ e. (or_parts fx fy (or_parts fd (fx || fy) e).1).0) hx)
        (weaken fy (fd || (fx || fy)) y y' (λ e. (or_parts fx fy (or_parts fd (fx || fy) e).1).1) hy)
select_alike fd fx fy (LoopTo i vs) (LoopTo j ws) x x' y y' none h hx hy = tt
select_alike fd fx fy NotYet NotYet x x' y y' none h hx hy = tt
select_alike fd fx fy (Ready v) (LoopTo j ws) x x' y y' none h hx hy = absurd h
select_alike fd fx fy (Ready v) NotYet x x' y y' none h hx hy = absurd h
select_alike fd fx fy (LoopTo i vs) (Ready w) x x' y y' none h hx hy = absurd h
select_alike fd fx fy (LoopTo i vs) NotYet x x' y y' none h hx hy = absurd h
select_alike fd fx fy NotYet (Ready w) x x' y y' none h hx hy = absurd h
select_alike fd fx fy NotYet (LoopTo j ws) x x' y y' none h hx hy = absurd h

with_alike : (f : Bool) (fs : List Bool) (o q : Option (List Word)) (g g' : List Word → Answer) → AlikeAll fs o q →
    ((vs ws : List Word) → AgreeOn fs vs ws → Alike f (g vs) (g' ws)) → Alike f (with_all o NotYet g) (with_all q NotYet g')
with_alike f fs (Some vs) (Some ws) g g' h all = all vs ws h
with_alike f fs None None g g' h all = tt
with_alike f fs None (Some ws) g g' h all = absurd h
with_alike f fs (Some vs) None g g' h all = absurd h

from_alike : (f : Bool) (o q : Option Word) → is_some o ≡ is_some q → (f ≡ false → o ≡ q) → Alike f (ready_from o) (ready_from q)
from_alike f None None e h = tt
from_alike f (Some v) (Some w) e h = λ none. grind (arith, h none)
from_alike f None (Some w) e h = absurd (false≢true e)
from_alike f (Some v) None e h = absurd (true≢false e)

module _ (k : ℕ) (b c : ℕ → Option Word) (other : (j : ℕ) → (j ≡ k → ⊥) → b j ≡ c j) (there : (j : ℕ) → is_some (b j) ≡ is_some (c j)) where
  mutual
    unfolding answer feeds Decides

    pub alike : (fe : List Bool) (env env' : List Word) (t : Term) → AgreeOn fe env env' → (Decides k fe t → ⊥) → Alike (feeds k fe t) (answer b env t) (answer c env' t)
    alike fe env env' (Const n) a no_if = λ e. refl
    alike fe env env' (Var i) a no_if = λ e. agree_at fe env env' a i e
    alike fe env env' (Op p ts) a no_if =
        apply_alike p (feeds_any k fe ts) (feeds_each k fe ts) _ _ (alike_all fe env env' ts a no_if) (λ vs ws e h. all_agree k fe ts vs ws e h)
    alike fe env env' (If d x y) a no_if =
        select_alike (feeds k fe d) (feeds k fe x) (feeds k fe y) _ _ _ _ _ _ (false_from_ne_true _ (λ e. no_if (inl e)))
        (alike fe env env' d a (λ z. no_if (inr (inl z)))) (alike fe env env' x a (λ z. no_if (inr (inr (inl z))))) (alike fe env env' y a (λ z. no_if (inr (inr (inr z)))))
    alike fe env env' (Let bs x) a no_if =
        with_alike _ (feeds_each k fe bs) (answers b env bs) (answers c env' bs) (λ vs. answer b (env ++ vs) x) (λ vs. answer c (env' ++ vs) x) (alike_all fe env env' bs a (λ z. no_if (inl z)))
        (λ vs ws h. alike (fe ++ feeds_each k fe bs) (env ++ vs) (env' ++ ws) x (agree_append fe env env' (feeds_each k fe bs) vs ws a h) (λ z. no_if (inr z)))
    alike fe env env' (Call f j ts) a no_if = from_alike (j == k) (b j) (c j) (there j) (λ e. other j (λ is. eqb-false j k e is))
    alike fe env env' (Loop m ts) a no_if = go_alike m false (feeds_each k fe ts) _ _ (alike_all fe env env' ts a no_if)

    pub alike_all : (fe : List Bool) (env env' : List Word) (ts : Terms) → AgreeOn fe env env' → (DecidesIn k fe ts → ⊥) → AlikeAll (feeds_each k fe ts) (answers b env ts) (answers c env' ts)
    alike_all fe env env' Nil a no_if = tt
    alike_all fe env env' (Cons t ts) a no_if =
        both_alike (feeds k fe t) (feeds_each k fe ts) _ _ _ _ (alike fe env env' t a (λ z. no_if (inl z))) (alike_all fe env env' ts a (λ z. no_if (inr z)))

pub all_there : (fs : List Bool) (o q : Option (List Word)) → AlikeAll fs o q → is_some o ≡ is_some q
all_there fs None None h = refl
all_there fs (Some vs) (Some ws) h = refl
all_there fs None (Some ws) h = absurd h
all_there fs (Some vs) None h = absurd h

select_there : (f : Bool) (q q' : Answer) (x x' y y' : Option (List Word)) → f ≡ false → Alike f q q' → is_some x ≡ is_some x' → is_some y ≡ is_some
    y' → is_some (select q None x y) ≡ is_some (select q' None x' y')
select_there f (Ready v) (Ready w) x x' y y' none h hx hy = subst (λ w. is_some (select (Ready v) None x y) ≡ is_some (select (Ready w) None x' y')) (h none) (by v)
  where
    by : (v : Word) → is_some (select (Ready v) None x y) ≡ is_some (select (Ready v) None x' y')
    by u = pick_two u.bits x y x' y' (λ z z'. is_some z ≡ is_some z') hx hy
select_there f (LoopTo i vs) (LoopTo j ws) x x' y y' none h hx hy = refl
select_there f NotYet NotYet x x' y y' none h hx hy = refl
select_there f (Ready v) (LoopTo j ws) x x' y y' none h hx hy = absurd h
select_there f (Ready v) NotYet x x' y y' none h hx hy = absurd h
select_there f (LoopTo i vs) (Ready w) x x' y y' none h hx hy = absurd h
select_there f (LoopTo i vs) NotYet x x' y y' none h hx hy = absurd h
select_there f NotYet (Ready w) x x' y y' none h hx hy = absurd h
select_there f NotYet (LoopTo j ws) x x' y y' none h hx hy = absurd h

with_there : (fs : List Bool) (o q : Option (List Word)) (g g' : List Word → Option (List Word)) → AlikeAll fs o q →
    ((vs ws : List Word) → AgreeOn fs vs ws → is_some (g vs) ≡ is_some (g' ws)) → is_some (with_all o None g) ≡ is_some (with_all q None g')
with_there fs (Some vs) (Some ws) g g' h all = all vs ws h
with_there fs None None g g' h all = refl
with_there fs None (Some ws) g g' h all = absurd h
with_there fs (Some vs) None g g' h all = absurd h

cond_there : (t : Bool) (o o' p p' : Option (List Word)) → is_some o ≡ is_some o' → is_some p ≡ is_some p' → is_some (cond t o p) ≡ is_some (cond t o' p')
cond_there true o o' p p' ho hp = ho
cond_there false o o' p p' ho hp = hp

module _ (k : ℕ) (b c : ℕ → Option Word) (other : (j : ℕ) → (j ≡ k → ⊥) → b j ≡ c j) (there : (j : ℕ) → is_some (b j) ≡ is_some (c j)) where
  mutual
    unfolding answer wanted feeds Decides

    -- the same sites are wanted
    pub wants_too : (fe : List Bool) (env env' : List Word) (t : Term) → AgreeOn fe env env' → (Decides k fe t → ⊥) → (m : ℕ) → is_some (wanted b env t m) ≡ is_some (wanted c env' t m)
    wants_too fe env env' (Const n) a no_if m = refl
    wants_too fe env env' (Var i) a no_if m = refl
    wants_too fe env env' (Op p ts) a no_if m = wants_in_too fe env env' ts a no_if m
    wants_too fe env env' (If d x y) a no_if m =
        or_alike _ _ _ _ (wants_too fe env env' d a (λ z. no_if (inr (inl z))) m)
        (select_there (feeds k fe d) (answer b env d) (answer c env' d) _ _ _ _ (false_from_ne_true _ (λ e. no_if (inl e))) (alike k b c other there fe env env' d a (λ z. no_if (inr (inl z))))
        (wants_too fe env env' x a (λ z. no_if (inr (inr (inl z)))) m) (wants_too fe env env' y a (λ z. no_if (inr (inr (inr z)))) m))
    wants_too fe env env' (Let bs x) a no_if m =
        or_alike _ _ _ _ (wants_in_too fe env env' bs a (λ z. no_if (inl z)) m)
        (with_there (feeds_each k fe bs) (answers b env bs) (answers c env' bs) (λ vs. wanted b (env ++ vs) x m) (λ vs. wanted c (env' ++ vs) x m)
        (alike_all k b c other there fe env env' bs a (λ z. no_if (inl z)))
        (λ vs ws h. wants_too (fe ++ feeds_each k fe bs) (env ++ vs) (env' ++ ws) x (agree_append fe env env' (feeds_each k fe bs) vs ws a h) (λ z. no_if (inr z)) m))
    wants_too fe env env' (Call f j ts) a no_if m =
        cond_there (j == m) _ _ _ _ (all_there (feeds_each k fe ts) _ _ (alike_all k b c other there fe env env' ts a no_if)) (wants_in_too fe env env' ts a no_if m)
    wants_too fe env env' (Loop h ts) a no_if m = wants_in_too fe env env' ts a no_if m

    pub wants_in_too : (fe : List Bool) (env env' : List Word) (ts : Terms) → AgreeOn fe env env' → (DecidesIn k fe ts → ⊥) → (m : ℕ) → is_some (wanted_in b env ts m) ≡ is_some (wanted_in c env' ts m)
    wants_in_too fe env env' Nil a no_if m = refl
    wants_in_too fe env env' (Cons t ts) a no_if m =
        or_alike _ _ _ _ (wants_too fe env env' t a (λ z. no_if (inl z)) m) (wants_in_too fe env env' ts a (λ z. no_if (inr z)) m)

-- environments that agree on the slots that are used
same_append : (xs ys us : List Word) (i : ℕ) → length xs ≡ length ys → slot xs i ≡ slot ys i → slot (xs ++ us) i ≡ slot (ys ++ us) i
same_append [] [] us i len e = refl
same_append (x ∷ xs) (y ∷ ys) us zero len e = e
same_append (x ∷ xs) (y ∷ ys) us (suc i) len e = same_append xs ys us i (omega (arith, len)) e
same_append [] (y ∷ ys) us i len e = absurd (omega (arith, len))
same_append (x ∷ xs) [] us i len e = absurd (omega (arith, len))

longer : (xs ys us : List Word) → length xs ≡ length ys → length (xs ++ us) ≡ length (ys ++ us)
longer xs ys us len = omega (arith, length-append xs us, length-append ys us, len)

mutual
  unfolding answer Uses

  pub answer_env : (b : ℕ → Option Word) (env env' : List Word) (t : Term) → length env ≡ length env' → ((i : ℕ) → Uses i t → slot env i ≡ slot env' i) → answer b env t ≡ answer b env' t
  answer_env b env env' (Const n) len h = refl
  answer_env b env env' (Var i) len h = ap Ready (h i refl)
  answer_env b env env' (Op p ts) len h = ap (apply_to p) (all_env b env env' ts len h)
  answer_env b env env' (If d x y) len h =
      ap (λ a. select a NotYet (answer b env x) (answer b env y)) (answer_env b env env' d len (λ i s. h i (inl s)))
      ∙ ap (λ a. select (answer b env' d) NotYet a (answer b env y)) (answer_env b env env' x len (λ i s. h i (inr (inl s))))
      ∙ ap (λ a. select (answer b env' d) NotYet (answer b env' x) a) (answer_env b env env' y len (λ i s. h i (inr (inr s))))
  answer_env b env env' (Let bs x) len h =
      ap (λ o. with_all o NotYet (λ vs. answer b (env ++ vs) x)) (all_env b env env' bs len (λ i s. h i (inl s)))
      ∙ ap (λ g. with_all (answers b env' bs) NotYet g) (fun_ext (λ vs. answer_env b (env ++ vs) (env' ++ vs) x (longer env env' vs len) (λ i s. same_append env env' vs i len (h i (inr s)))))
  answer_env b env env' (Call f j ts) len h = refl
  answer_env b env env' (Loop m ts) len h = ap (loop_to m) (all_env b env env' ts len h)

  pub all_env : (b : ℕ → Option Word) (env env' : List Word) (ts : Terms) → length env ≡ length env' → ((i : ℕ) → UsesIn i ts → slot env i ≡ slot env' i) → answers b env ts ≡ answers b env' ts
  all_env b env env' Nil len h = refl
  all_env b env env' (Cons t ts) len h =
      ap (λ a. both a (answers b env ts)) (answer_env b env env' t len (λ i s. h i (inl s)))
      ∙ ap (both (answer b env' t)) (all_env b env env' ts len (λ i s. h i (inr s)))

mutual
  unfolding answer wanted Uses

  pub wanted_env : (b : ℕ → Option Word) (env env' : List Word) (t : Term) (m : ℕ) → length env ≡ length env' → ((i : ℕ) → Uses i t → slot env i ≡ slot env' i) → wanted b env t m ≡ wanted b env' t m
  wanted_env b env env' (Const n) m len h = refl
  wanted_env b env env' (Var i) m len h = refl
  wanted_env b env env' (Op p ts) m len h = wanted_in_env b env env' ts m len h
  wanted_env b env env' (If d x y) m len h =
      ap (λ o. or_else o (select (answer b env d) None (wanted b env x m) (wanted b env y m))) (wanted_env b env env' d m len (λ i s. h i (inl s)))
      ∙ ap (λ a. or_else (wanted b env' d m) (select a None (wanted b env x m) (wanted b env y m))) (answer_env b env env' d len (λ i s. h i (inl s)))
      ∙ ap (λ o. or_else (wanted b env' d m) (select (answer b env' d) None o (wanted b env y m))) (wanted_env b env env' x m len (λ i s. h i (inr (inl s))))
      ∙ ap (λ o. or_else (wanted b env' d m) (select (answer b env' d) None (wanted b env' x m) o)) (wanted_env b env env' y m len (λ i s. h i (inr (inr s))))
  wanted_env b env env' (Let bs x) m len h =
      ap (λ o. or_else o (with_all (answers b env bs) None (λ vs. wanted b (env ++ vs) x m))) (wanted_in_env b env env' bs m len (λ i s. h i (inl s)))
      ∙ ap (λ o. or_else (wanted_in b env' bs m) (with_all o None (λ vs. wanted b (env ++ vs) x m))) (all_env b env env' bs len (λ i s. h i (inl s)))
      ∙ ap (λ g. or_else (wanted_in b env' bs m) (with_all (answers b env' bs) None g))
      (fun_ext (λ vs. wanted_env b (env ++ vs) (env' ++ vs) x m (longer env env' vs len) (λ i s. same_append env env' vs i len (h i (inr s)))))
  wanted_env b env env' (Call f j ts) m len h =
      ap (λ o. cond (j == m) o (wanted_in b env ts m)) (all_env b env env' ts len h) ∙ ap (λ o. cond (j == m) (answers b env' ts) o) (wanted_in_env b env env' ts m len h)
  wanted_env b env env' (Loop g ts) m len h = wanted_in_env b env env' ts m len h

  pub wanted_in_env : (b : ℕ → Option Word) (env env' : List Word) (ts : Terms) (m : ℕ) → length env ≡ length env' →
      ((i : ℕ) → UsesIn i ts → slot env i ≡ slot env' i) → wanted_in b env ts m ≡ wanted_in b env' ts m
  wanted_in_env b env env' Nil m len h = refl
  wanted_in_env b env env' (Cons t ts) m len h =
      ap (λ o. or_else o (wanted_in b env ts m)) (wanted_env b env env' t m len (λ i s. h i (inl s))) ∙ ap (or_else (wanted b env' t m)) (wanted_in_env b env env' ts m len (λ i s. h i (inr s)))
