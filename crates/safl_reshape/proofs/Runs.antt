-- Programs whose bodies are alike give the same words; a call that is unfolded is spared.
use Rattle.std.proofs.Common.{◌≡◌, ℕ, zero, suc, ◌+◌, List, [], ◌∷◌, ◌++◌, length, Bool, refl, sym, ap, ◌∙◌, subst, arith}
use Rattle.std.proofs.lemmas.List.{append_assoc, length-append, append-nil}
use Rattle.safl_word.specs.Words.{Word, pick, slot}
use Rattle.safl_term.specs.Terms.{Term, Var, Let, Call, Terms, Nil, Cons}
use Rattle.safl_term.specs.Program.{Program, arity}
use Rattle.safl_term.specs.Slots.{count}
use Rattle.safl_term.specs.Meaning.{Gives, gives_const, gives_var, gives_op, gives_if, gives_let, gives_call, gives_loop, GivesAll, gives_nil, gives_cons, cost, costs}
use Rattle.safl_reshape.specs.Executions.{one_if, executions, executions_all}
use Rattle.safl_reshape.proofs.Alike.{Alike, alike_const, alike_var, alike_op, alike_if, alike_let, alike_call, alike_loop, alike_unfolded, alike_bare, AllAlike, none_alike, more_alike}

slot_behind : (pre env : List Word) (i : ℕ) → slot (pre ++ env) (length pre + i) ≡ slot env i
slot_behind [] env i = let e : 0 + i ≡ i = omega arith in ap (λ (j : ℕ). slot env j) e
slot_behind (p ∷ pre) env i = let e : suc (length pre) + i ≡ suc (length pre + i) = omega arith in ap (λ (j : ℕ). slot (p ∷ (pre ++ env)) j) e ∙ slot_behind pre env i

slot_last : (env : List Word) (v : Word) → slot (env ++ (v ∷ [])) (length env) ≡ v
slot_last [] v = refl
slot_last (e ∷ env) v = slot_last env v

-- a variable further on
slot_moved : (pre env pe : List Word) (d i j : ℕ) → pe ≡ pre ++ env → length pre ≡ d → j ≡ d + i → slot pe j ≡ slot env i
slot_moved pre env pe d i j e l q =
    let r : j ≡ length pre + i = omega (arith, q, l) in
    ap (λ (x : List Word). slot x j) e ∙ ap (λ (x : ℕ). slot (pre ++ env) x) r ∙ slot_behind pre env i

slot_end : (env : List Word) (v : Word) (n : ℕ) → length env ≡ n → slot (env ++ (v ∷ [])) n ≡ v
slot_end env v n e = ap (λ (x : ℕ). slot (env ++ (v ∷ [])) x) (sym e) ∙ slot_last env v

pub given_count : (C : Program) {env : List Word} {ts : Terms} {vs : List Word} → GivesAll C env ts vs → length vs ≡ count ts
given_count C gives_nil = refl
given_count C (gives_cons d ds) = ap (λ n. suc n) (given_count C ds)

same_count : (C : Program) (same : ℕ → ℕ → Type 0) (at : ℕ → Bool) {d n : ℕ} {ts us : Terms} → AllAlike C same at d n ts us → count us ≡ count ts
same_count C same at none_alike = refl
same_count C same at (more_alike a al) = ap (λ n. suc n) (same_count C same at al)

module _ (C B : Program) (same : ℕ → ℕ → Type 0) (at : ℕ → Bool) (bodies : (f g : ℕ) → same f g → Alike C same at 0 (arity C f) (C.body f) (B.body g)) where
  chosen_pick : (m : ℕ) {d n : ℕ} {a b y z : Term} → Alike C same at d n a y → Alike C same at d n b z → Alike C same at d n (pick m a b) (pick m y z)
  chosen_pick zero h k = k
  chosen_pick (suc zero) h k = h
  chosen_pick (suc (suc m)) h k = k

  -- what is left of the cost
  abbrev Spared : List Word → Term → Word → ℕ → ℕ → Type 0
  Spared env t v x y = (e : Gives B env t v) × (cost B e + x ≡ y)

  mutual
    pub runs : (d n : ℕ) (pre pe : List Word) {env : List Word} {t u : Term} {v : Word} (g : Gives C env t v) → Alike C same at d n t u → pe ≡ pre ++
        env → length pre ≡ d → length pe ≡ n → (e : Gives B pe u v) × (cost B e + executions C at g ≡ cost C g)
    runs d n pre pe gives_const alike_const e l m = (gives_const, refl)
    runs d n pre pe (gives_var {env = env} {i = i}) (alike_var {j = j} q) e l m = subst (λ (x : Word). Spared pe (Var j) x 0 0) (slot_moved pre env pe d i j e l q) (gives_var, refl)
    runs d n pre pe (gives_op ds) (alike_op al) e l m = let r = runs_all d n pre pe ds al e l m in (gives_op r.0, r.1)
    runs d n pre pe (gives_if {u = w} c g) (alike_if ac aa ab) e l m =
        let r = runs d n pre pe c ac e l m in
        let q = runs d n pre pe g (chosen_pick w.bits aa ab) e l m in
        (gives_if r.0 q.0, omega (arith, r.1, q.1))
    runs d n pre pe (gives_let {env = env} {ts = ts} {us = us} ds g) (alike_let al ab) e l m =
        let r = runs_all d n pre pe ds al e l m in
        let k : length (pe ++ us) ≡ n + count ts = omega (arith, length-append pe us, m, given_count C ds) in
        let q = runs d (n + count ts) pre (pe ++ us) g ab (ap (λ (x : List Word). x ++ us) e ∙ append_assoc pre env us) l k in
        (gives_let r.0 q.0, omega (arith, r.1, q.1))
    runs d n pre pe (gives_call {f = f} {k = k} {us = us} ds g) (alike_call {g = h} nk sm ar al) e l m =
        let r = runs_all d n pre pe ds al e l m in
        let q = runs 0 (arity C f) [] us g (bodies f h sm) refl refl (given_count C ds ∙ ar) in
        let z : one_if (at k) ≡ 0 = ap one_if nk in
        (gives_call r.0 q.0, omega (arith, r.1, q.1, z))
    runs d n pre pe (gives_call {k = k} {ts = ts} {us = us} {v = v} ds g) (alike_unfolded {us = xs} {b = b} ya al ab) e l m =
        let r = runs_all d n pre pe ds al e l m in
        let c : length (pe ++ us) ≡ n + count ts = omega (arith, length-append pe us, m, given_count C ds) in
        let q = runs n (n + count ts) pe (pe ++ us) g ab refl m c in
        let z : one_if (at k) ≡ 1 = ap one_if ya in
        subst (λ (x : Word). Spared pe (Let (Cons (Let xs b) Nil) (Var n)) x (executions_all C at ds + (one_if (at k) + executions C at g)) (costs C ds + suc (cost C g))) (slot_end pe v n m)
        (gives_let (gives_cons (gives_let r.0 q.0) gives_nil) gives_var, omega (arith, r.1, q.1, z))
    runs d n pre pe (gives_call {k = k} {v = v} gives_nil g) (alike_bare {b = b} ya ab) e l m =
        let q = runs n n pe pe g ab (sym (append-nil pe)) m m in
        let z : one_if (at k) ≡ 1 = ap one_if ya in
        subst (λ (x : Word). Spared pe (Let (Cons b Nil) (Var n)) x (0 + (one_if (at k) + executions C at g)) (0 + suc (cost C g))) (slot_end pe v n m)
        (gives_let (gives_cons q.0 gives_nil) gives_var, omega (arith, q.1, z))
    runs d n pre pe (gives_loop {h = f} {us = us} ds g) (alike_loop {g = h} sm ar al) e l m =
        let r = runs_all d n pre pe ds al e l m in
        let q = runs 0 (arity C f) [] us g (bodies f h sm) refl refl (given_count C ds ∙ ar) in
        (gives_loop r.0 q.0, omega (arith, r.1, q.1))

    pub runs_all : (d n : ℕ) (pre pe : List Word) {env : List Word} {ts us : Terms} {vs : List Word} (gs : GivesAll C env ts vs) → AllAlike C same at
        d n ts us → pe ≡ pre ++ env → length pre ≡ d → length pe ≡ n → (e : GivesAll B pe us vs) × (costs B e + executions_all C at gs ≡ costs C gs)
    runs_all d n pre pe gives_nil none_alike e l m = (gives_nil, refl)
    runs_all d n pre pe (gives_cons g gs) (more_alike a al) e l m =
        let r = runs d n pre pe g a e l m in
        let q = runs_all d n pre pe gs al e l m in
        (gives_cons r.0 q.0, omega (arith, r.1, q.1))

  mutual
    -- and nk others
    pub ran : (d n : ℕ) (pre env : List Word) {pe : List Word} {t u : Term} {v : Word} → Gives B pe u v → Alike C same at d n t u → pe ≡ pre ++ env → length pre ≡ d → length pe ≡ n → Gives C env t v
    ran d n pre env gives_const alike_const e l m = gives_const
    ran d n pre env (gives_var {env = pe} {i = j}) (alike_var {i = i} q) e l m = subst (λ (x : Word). Gives C env (Var i) x) (sym (slot_moved pre env pe d i j e l q)) gives_var
    ran d n pre env (gives_op ds) (alike_op al) e l m = gives_op (ran_all d n pre env ds al e l m)
    ran d n pre env (gives_if {u = w} c g) (alike_if ac aa ab) e l m = gives_if (ran d n pre env c ac e l m) (ran d n pre env g (chosen_pick w.bits aa ab) e l m)
    ran d n pre env (gives_let {env = pe} {us = vs} ds g) (alike_let {ts = ts} al ab) e l m =
        let k : length (pe ++ vs) ≡ n + count ts = omega (arith, length-append pe vs, m, given_count B ds, same_count C same at al) in
        gives_let (ran_all d n pre env ds al e l m) (ran d (n + count ts) pre (env ++ vs) g ab (ap (λ (x : List Word). x ++ vs) e ∙ append_assoc pre env vs) l k)
    ran d n pre env (gives_call {us = vs} ds g) (alike_call {f = f} {g = h} nk sm ar al) e l m =
        gives_call (ran_all d n pre env ds al e l m) (ran 0 (arity C f) [] vs g (bodies f h sm) refl refl (given_count B ds ∙ (same_count C same at al ∙ ar)))
    ran d n pre env (gives_let {env = pe} (gives_cons {v = v} (gives_let {us = vs} ds g) gives_nil) gives_var) (alike_unfolded {f = f} {k = k} {ts = ts} ya al ab) e l m =
        let c : length (pe ++ vs) ≡ n + count ts = omega (arith, length-append pe vs, m, given_count B ds, same_count C same at al) in
        subst (λ (x : Word). Gives C env (Call f k ts) x) (sym (slot_end pe v n m))
        (gives_call (ran_all d n pre env ds al e l m) (ran n (n + count ts) pe vs g ab refl m c))
    ran d n pre env (gives_let {env = pe} (gives_cons {v = v} g gives_nil) gives_var) (alike_bare {f = f} {k = k} ya ab) e l m =
        subst (λ (x : Word). Gives C env (Call f k Nil) x) (sym (slot_end pe v n m))
        (gives_call gives_nil (ran n n pe [] g ab (sym (append-nil pe)) m m))
    ran d n pre env (gives_loop {us = vs} ds g) (alike_loop {f = f} {g = h} sm ar al) e l m =
        gives_loop (ran_all d n pre env ds al e l m) (ran 0 (arity C f) [] vs g (bodies f h sm) refl refl (given_count B ds ∙ (same_count C same at al ∙ ar)))

    pub ran_all : (d n : ℕ) (pre env : List Word) {pe : List Word} {ts us : Terms} {vs : List Word} → GivesAll B pe us vs → AllAlike C same at d n ts
        us → pe ≡ pre ++ env → length pre ≡ d → length pe ≡ n → GivesAll C env ts vs
    ran_all d n pre env gives_nil none_alike e l m = gives_nil
    ran_all d n pre env (gives_cons g gs) (more_alike a al) e l m = gives_cons (ran d n pre env g a e l m) (ran_all d n pre env gs al e l m)
