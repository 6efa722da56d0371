-- The two meanings agree.
use Rattle.safl_term.proofs.Common.{Program, Word, apply_prim, choose, pick, slot}
use Rattle.std.proofs.Common.{◌≡◌, ℕ, zero, suc, ◌+◌, ◌≤◌, List, [], ◌∷◌, ◌++◌, refl, ap, ◌∙◌, subst, arith}
use Rattle.safl_term.specs.Fuel.{Outcome, Nothing, Gave, Outcomes, NoWords, Words, with_word, with_words, with_rest, with_head, Apply, eval, eval_all, apply, GivesInCalls}
use Rattle.safl_term.specs.Meaning.{Gives, gives_const, gives_var, gives_op, gives_if, gives_let, gives_call, gives_loop, GivesAll, gives_nil, gives_cons, cost, costs, Main, main_cost}
use Rattle.safl_term.specs.Terms.{Term, Const, Var, If, Let, Op, Call, Loop, Terms, Nil, Cons}

-- an evaluation that uses up n but for m
abbrev Uses : Program → List Word → Term → Word → ℕ → ℕ → Type 0
Uses p env t v n m = (d : Gives p env t v) × (cost p d + m ≡ n)

abbrev UsesAll : Program → List Word → Terms → List Word → ℕ → ℕ → Type 0
UsesAll p env ts vs n m = (d : GivesAll p env ts vs) × (costs p d + m ≡ n)

abbrev IsRight : Program → Apply → Type 0
IsRight p f = (n g : ℕ) (v : Word) (m : ℕ) (us : List Word) → f n g us ≡ Gave v m → (k : ℕ) × (n ≡ suc k) × Uses p us (p.body g) v k m

pub nothing_word : {A : Type 0} (v : Word) (m : ℕ) → Nothing ≡ Gave v m → A
nothing_word v m e = cc

pub same_word : (v : Word) (m : ℕ) (w : Word) (k : ℕ) → Gave v m ≡ Gave w k → (v ≡ w) × (m ≡ k)
same_word v m w k e = (cc, cc)

pub no_words : {A : Type 0} (vs : List Word) (m : ℕ) → NoWords ≡ Words vs m → A
no_words vs m e = cc

pub same_words : (vs ws : List Word) (m k : ℕ) → Words vs m ≡ Words ws k → (vs ≡ ws) × (m ≡ k)
same_words vs ws m k e = (cc, cc)

chosen_pick : (u : ℕ) (x y : Outcome) (P : Term → Type 0) (a b : Term) (v : Word) (m : ℕ) → (x ≡ Gave v m → P a) → (y ≡ Gave v m → P b) → pick u x y ≡ Gave v m → P (pick u a b)
chosen_pick zero x y P a b v m f g e = g e
chosen_pick (suc zero) x y P a b v m f g e = f e
chosen_pick (suc (suc u)) x y P a b v m f g e = g e

chosen : (u : Word) (x y : Outcome) (P : Term → Type 0) (a b : Term) (v : Word) (m : ℕ) → (x ≡ Gave v m → P a) → (y ≡ Gave v m → P b) → choose u x y ≡ Gave v m → P (choose u a b)
chosen u x y P a b v m f g e = chosen_pick u.bits x y P a b v m f g e

module _ (p : Program) (f : Apply) (r : IsRight p f) where
  mutual
    eval_gives : (t : Term) (n : ℕ) (env : List Word) (v : Word) (m : ℕ) → eval p f t n env ≡ Gave v m → Uses p env t v n m
    eval_gives (Const w) n env v m e = let q = same_word w n v m e in subst (λ x. Uses p env (Const w) x n m) q.0 (gives_const, omega (arith, q.1))
    eval_gives (Var i) n env v m e = let q = same_word _ n v m e in subst (λ x. Uses p env (Var i) x n m) q.0 (gives_var, omega (arith, q.1))
    eval_gives (If c a b) n env v m e =
        go (eval p f c n env) (λ u k i. eval_gives c n env u k i) (λ u k z. chosen u _ _ (λ t. Uses p env t v k m) a b v m (λ i. eval_gives a k env v m i) (λ i. eval_gives b k env v m i) z) refl e
      where
        go : (x : Outcome) → ((u : Word) (k : ℕ) → eval p f c n env ≡ Gave u k → Uses p env c u n k) →
            ((u : Word) (k : ℕ) → choose u (eval p f a k env) (eval p f b k env) ≡ Gave v m → Uses p env (choose u a b) v k m) → eval p f c n env ≡ x
            → with_word x (λ u k. choose u (eval p f a k env) (eval p f b k env)) ≡ Gave v m → Uses p env (If c a b) v n m
        go Nothing h g i z = nothing_word v m z
        go (Gave u k) h g i z = let x = h u k i in let y = g u k z in (gives_if x.0 y.0, omega (arith, x.1, y.1))
    eval_gives (Let ts b) n env v m e =
        go (eval_all p f ts n env) (λ us k i. eval_all_gives ts n env us k i) (λ us k z. eval_gives b k (env ++ us) v m z) refl e
      where
        go : (x : Outcomes) → ((us : List Word) (k : ℕ) → eval_all p f ts n env ≡ Words us k → UsesAll p env ts us n k) →
            ((us : List Word) (k : ℕ) → eval p f b k (env ++ us) ≡ Gave v m → Uses p (env ++ us) b v k m) → eval_all p f ts n env ≡ x → with_words x
            (λ us k. eval p f b k (env ++ us)) ≡ Gave v m → Uses p env (Let ts b) v n m
        go NoWords h g i z = nothing_word v m z
        go (Words us k) h g i z = let x = h us k i in let y = g us k z in (gives_let x.0 y.0, omega (arith, x.1, y.1))
    eval_gives (Op o ts) n env v m e =
        go (eval_all p f ts n env) (λ us k i. eval_all_gives ts n env us k i) refl e
      where
        go : (x : Outcomes) → ((us : List Word) (k : ℕ) → eval_all p f ts n env ≡ Words us k → UsesAll p env ts us n k) → eval_all p f ts n env ≡ x →
            with_words x (λ us k. Gave (apply_prim o us) k) ≡ Gave v m → Uses p env (Op o ts) v n m
        go NoWords h i z = nothing_word v m z
        go (Words us k) h i z =
            let x = h us k i in
            let q = same_word (apply_prim o us) k v m z in
            subst (λ y. Uses p env (Op o ts) y n m) q.0 (gives_op x.0, omega (arith, x.1, q.1))
    eval_gives (Call g j ts) n env v m e =
        go (eval_all p f ts n env) (λ us k i. eval_all_gives ts n env us k i) refl e
      where
        go : (x : Outcomes) → ((us : List Word) (k : ℕ) → eval_all p f ts n env ≡ Words us k → UsesAll p env ts us n k) → eval_all p f ts n env ≡ x →
            with_words x (λ us k. f k g us) ≡ Gave v m → Uses p env (Call g j ts) v n m
        go NoWords h i z = nothing_word v m z
        go (Words us k) h i z = let x = h us k i in let y = r k g v m us z in (gives_call x.0 y.2.0, omega (arith, x.1, y.1, y.2.1))
    eval_gives (Loop g ts) n env v m e =
        go (eval_all p f ts n env) (λ us k i. eval_all_gives ts n env us k i) refl e
      where
        go : (x : Outcomes) → ((us : List Word) (k : ℕ) → eval_all p f ts n env ≡ Words us k → UsesAll p env ts us n k) → eval_all p f ts n env ≡ x →
            with_words x (λ us k. f k g us) ≡ Gave v m → Uses p env (Loop g ts) v n m
        go NoWords h i z = nothing_word v m z
        go (Words us k) h i z = let x = h us k i in let y = r k g v m us z in (gives_loop x.0 y.2.0, omega (arith, x.1, y.1, y.2.1))

    eval_all_gives : (ts : Terms) (n : ℕ) (env : List Word) (vs : List Word) (m : ℕ) → eval_all p f ts n env ≡ Words vs m → UsesAll p env ts vs n m
    eval_all_gives Nil n env vs m e = let q = same_words [] vs n m e in subst (λ x. UsesAll p env Nil x n m) q.0 (gives_nil, omega (arith, q.1))
    eval_all_gives (Cons t ts) n env vs m e =
        go (eval p f t n env) (λ v k i. eval_gives t n env v k i) (λ k us j z. eval_all_gives ts k env us j z) refl e
      where
        rest : (v : Word) (k : ℕ) (y : Outcomes) → Uses p env t v n k → ((us : List Word) (j : ℕ) → y ≡ Words us j → UsesAll p env ts us k j) →
            with_rest y v ≡ Words vs m → UsesAll p env (Cons t ts) vs n m
        rest v k NoWords x h z = no_words vs m z
        rest v k (Words us j) x h z =
            let q = same_words (v ∷ us) vs j m z in
            let y = h us j refl in
            subst (λ l. UsesAll p env (Cons t ts) l n m) q.0 (gives_cons x.0 y.0, omega (arith, x.1, y.1, q.1))

        go : (x : Outcome) → ((v : Word) (k : ℕ) → eval p f t n env ≡ Gave v k → Uses p env t v n k) →
            ((k : ℕ) (us : List Word) (j : ℕ) → eval_all p f ts k env ≡ Words us j → UsesAll p env ts us k j) → eval p f t n env ≡ x → with_head x
            (λ k. eval_all p f ts k env) ≡ Words vs m → UsesAll p env (Cons t ts) vs n m
        go Nothing h g i z = no_words vs m z
        go (Gave v k) h g i z = rest v k (eval_all p f ts k env) (h v k i) (λ us j l. g k us j l) z

apply_right : (p : Program) (d : ℕ) → IsRight p (apply p d)
apply_right p zero n g v m us e = nothing_word v m e
apply_right p (suc d) zero g v m us e = nothing_word v m e
apply_right p (suc d) (suc n) g v m us e = (n, refl, eval_gives p (apply p d) (apply_right p d) (p.body g) n us v m e)

-- an evaluation is found where the depth is at least what is left
choose_at_pick : (u : ℕ) (a b : Term) (F : Term → Outcome) → pick u (F a) (F b) ≡ F (pick u a b)
choose_at_pick zero a b F = refl
choose_at_pick (suc zero) a b F = refl
choose_at_pick (suc (suc u)) a b F = refl

choose_at : (u : Word) (a b : Term) (F : Term → Outcome) → choose u (F a) (F b) ≡ F (choose u a b)
choose_at u a b F = choose_at_pick u.bits a b F

mutual
  gives_eval : (p : Program) (d : ℕ) {env : List Word} {t : Term} {v : Word} (n m : ℕ) (g : Gives p env t v) → cost p g + m ≡ n → n ≤ d → eval p (apply p d) t n env ≡ Gave v m
  gives_eval p d n m (gives_const {w = w}) e le = ap (λ x. Gave w x) (omega arith)
  gives_eval p d n m (gives_var {env = env} {i = i}) e le = let q : n ≡ m = omega arith in ap (λ x. Gave (slot env i) x) q
  gives_eval p d n m (gives_op {env = env} {o = o} {ts = ts} ds) e le =
      ap (λ x. with_words x (λ vs k. Gave (apply_prim o vs) k)) (gives_eval_all p d n m ds e le)
  gives_eval p d n m (gives_if {env = env} {a = a} {b = b} {u = u} c g) e le =
      let k = cost p g + m in
      ap (λ x. with_word x (λ u l. choose u (eval p (apply p d) a l env) (eval p (apply p d) b l env))) (gives_eval p d n k c (omega arith) le)
      ∙ choose_at u a b (λ t. eval p (apply p d) t k env)
      ∙ gives_eval p d k m g refl (omega arith)
  gives_eval p d n m (gives_let {env = env} {b = b} ds g) e le =
      let k = cost p g + m in
      ap (λ x. with_words x (λ us l. eval p (apply p d) b l (env ++ us))) (gives_eval_all p d n k ds (omega arith) le)
      ∙ gives_eval p d k m g refl (omega arith)
  gives_eval p zero n m (gives_call ds g) e le = absurd (omega arith)
  gives_eval p (suc d) n m (gives_call {f = f} ds g) e le =
      let k = cost p g + m in
      ap (λ x. with_words x (λ us l. apply p (suc d) l f us)) (gives_eval_all p (suc d) n (suc k) ds (omega arith) le)
      ∙ gives_eval p d k m g refl (omega arith)
  gives_eval p zero n m (gives_loop ds g) e le = absurd (omega arith)
  gives_eval p (suc d) n m (gives_loop {h = f} ds g) e le =
      let k = cost p g + m in
      ap (λ x. with_words x (λ us l. apply p (suc d) l f us)) (gives_eval_all p (suc d) n (suc k) ds (omega arith) le)
      ∙ gives_eval p d k m g refl (omega arith)

  gives_eval_all : (p : Program) (d : ℕ) {env : List Word} {ts : Terms} {vs : List Word} (n m : ℕ) (g : GivesAll p env ts vs) → costs p g + m ≡ n → n ≤ d → eval_all p (apply p d) ts n env ≡ Words vs m
  gives_eval_all p d n m gives_nil e le = let q : n ≡ m = omega arith in ap (λ x. Words [] x) q
  gives_eval_all p d n m (gives_cons {env = env} {ts = ts} {v = v} g gs) e le =
      let k = costs p gs + m in
      ap (λ x. with_head x (λ l. eval_all p (apply p d) ts l env)) (gives_eval p d n k g (omega arith) le)
      ∙ ap (λ x. with_rest x v) (gives_eval_all p d k m gs refl (omega arith))

pub agree_to : (p : Program) (args : List Word) (v : Word) (n : ℕ) → GivesInCalls p args v n → (d : Main p args v) × (main_cost p args d ≡ n)
agree_to p args v n e = let q = apply_right p n n (p.callee 0) v 0 args e in (q.2.0, omega (arith, q.1, q.2.1))

pub agree_from : (p : Program) (args : List Word) (v : Word) (d : Main p args v) → GivesInCalls p args v (main_cost p args d)
agree_from p args v d = gives_eval p (cost p d) (cost p d) 0 d (omega arith) (omega arith)
