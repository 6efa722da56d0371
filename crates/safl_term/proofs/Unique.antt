-- At most one value and one cost, and as many loops and the same calls.
use Rattle.safl_term.proofs.Common.{Program, Word, apply_prim, choose}
use Rattle.std.proofs.Common.{◌≡◌, ℕ, List, ◌∷◌, ◌++◌, refl, sym, ap, ◌∙◌, subst, arith}
use Rattle.safl_term.specs.Meaning.{Gives, gives_const, gives_var, gives_op, gives_if, gives_let, gives_call, gives_loop, GivesAll, gives_nil}
use Rattle.safl_term.specs.Meaning.{gives_cons, cost, costs, loops, loops_all, at_function, calls_to, calls_all}
use Rattle.safl_term.specs.Terms.{Term, Terms}

-- the term evaluates to v at this cost
abbrev pub GivesIn : Program → List Word → Term → Word → ℕ → Type 0
GivesIn p env t v n = (d : Gives p env t v) × (cost p d ≡ n)

mutual
  pub one_value : (p : Program) {env : List Word} {t : Term} {v w : Word} (n : ℕ) (d : Gives p env t v) (e : Gives p env t w) → cost p e ≡ n → (v ≡ w) × (cost p d ≡ n)
  one_value p n gives_const gives_const h = (refl, h)
  one_value p n gives_var gives_var h = (refl, h)
  one_value p n (gives_op {o = o} ds) (gives_op es) h =
      let r = one_list p n ds es h in
      (ap (apply_prim o) r.0, r.1)
  one_value p n (gives_if {env = env} {a = a} {b = b} {u = u} c d) (gives_if {u = u'} {v = v'} c' d') h =
      let r = one_value p (cost p c') c c' refl in
      let moved = subst (λ x. GivesIn p env (choose x a b) v' (cost p d')) (sym r.0) (d', refl) in
      let q = one_value p (cost p d') d moved.0 moved.1 in
      (q.0, omega (arith, r.1, q.1, h))
  one_value p n (gives_let {env = env} {b = b} ds d) (gives_let {v = v'} ds' d') h =
      let r = one_list p (costs p ds') ds ds' refl in
      let moved = subst (λ x. GivesIn p (env ++ x) b v' (cost p d')) (sym r.0) (d', refl) in
      let q = one_value p (cost p d') d moved.0 moved.1 in
      (q.0, omega (arith, r.1, q.1, h))
  one_value p n (gives_call {f = f} ds d) (gives_call {v = v'} ds' d') h =
      let r = one_list p (costs p ds') ds ds' refl in
      let moved = subst (λ x. GivesIn p x (p.body f) v' (cost p d')) (sym r.0) (d', refl) in
      let q = one_value p (cost p d') d moved.0 moved.1 in
      (q.0, omega (arith, r.1, q.1, h))
  one_value p n (gives_loop {h = g} ds d) (gives_loop {v = v'} ds' d') h =
      let r = one_list p (costs p ds') ds ds' refl in
      let moved = subst (λ x. GivesIn p x (p.body g) v' (cost p d')) (sym r.0) (d', refl) in
      let q = one_value p (cost p d') d moved.0 moved.1 in
      (q.0, omega (arith, r.1, q.1, h))

  pub one_list : (p : Program) {env : List Word} {ts : Terms} {vs ws : List Word} (n : ℕ) (d : GivesAll p env ts vs) (e : GivesAll p env ts ws) → costs p e ≡ n → (vs ≡ ws) × (costs p d ≡ n)
  one_list p n gives_nil gives_nil h = (refl, h)
  one_list p n (gives_cons {vs = vs} d ds) (gives_cons {v = w} e es) h =
      let r = one_value p (cost p e) d e refl in
      let q = one_list p (costs p es) ds es refl in
      (ap (λ x. x ∷ vs) r.0 ∙ ap (λ x. w ∷ x) q.0, omega (arith, r.1, q.1, h))

value_of : (p : Program) {env : List Word} {t : Term} {v w : Word} (d : Gives p env t v) (e : Gives p env t w) → v ≡ w
value_of p d e = (one_value p (cost p e) d e refl).0

list_of : (p : Program) {env : List Word} {ts : Terms} {vs ws : List Word} (d : GivesAll p env ts vs) (e : GivesAll p env ts ws) → vs ≡ ws
list_of p d e = (one_list p (costs p e) d e refl).0

-- the term evaluates to v with so many loops
abbrev LoopsIn : Program → List Word → Term → Word → ℕ → Type 0
LoopsIn p env t v n = (d : Gives p env t v) × (loops p d ≡ n)

mutual
  pub one_loops : (p : Program) {env : List Word} {t : Term} {v w : Word} (n : ℕ) (d : Gives p env t v) (e : Gives p env t w) → loops p e ≡ n → loops p d ≡ n
  one_loops p n gives_const gives_const h = h
  one_loops p n gives_var gives_var h = h
  one_loops p n (gives_op ds) (gives_op es) h = one_loops_in p n ds es h
  one_loops p n (gives_if {env = env} {a = a} {b = b} c d) (gives_if {v = v'} c' d') h =
      let r = one_loops p (loops p c') c c' refl in
      let moved = subst (λ x. LoopsIn p env (choose x a b) v' (loops p d')) (sym (value_of p c c')) (d', refl) in
      let q = one_loops p (loops p d') d moved.0 moved.1 in
      omega (arith, r, q, h)
  one_loops p n (gives_let {env = env} {b = b} ds d) (gives_let {v = v'} ds' d') h =
      let r = one_loops_in p (loops_all p ds') ds ds' refl in
      let moved = subst (λ x. LoopsIn p (env ++ x) b v' (loops p d')) (sym (list_of p ds ds')) (d', refl) in
      let q = one_loops p (loops p d') d moved.0 moved.1 in
      omega (arith, r, q, h)
  one_loops p n (gives_call {f = f} ds d) (gives_call {v = v'} ds' d') h =
      let r = one_loops_in p (loops_all p ds') ds ds' refl in
      let moved = subst (λ x. LoopsIn p x (p.body f) v' (loops p d')) (sym (list_of p ds ds')) (d', refl) in
      let q = one_loops p (loops p d') d moved.0 moved.1 in
      omega (arith, r, q, h)
  one_loops p n (gives_loop {h = g} ds d) (gives_loop {v = v'} ds' d') h =
      let r = one_loops_in p (loops_all p ds') ds ds' refl in
      let moved = subst (λ x. LoopsIn p x (p.body g) v' (loops p d')) (sym (list_of p ds ds')) (d', refl) in
      let q = one_loops p (loops p d') d moved.0 moved.1 in
      omega (arith, r, q, h)

  one_loops_in : (p : Program) {env : List Word} {ts : Terms} {vs ws : List Word} (n : ℕ) (d : GivesAll p env ts vs) (e : GivesAll p env ts ws) → loops_all p e ≡ n → loops_all p d ≡ n
  one_loops_in p n gives_nil gives_nil h = h
  one_loops_in p n (gives_cons d ds) (gives_cons e es) h =
      let r = one_loops p (loops p e) d e refl in
      let q = one_loops_in p (loops_all p es) ds es refl in
      omega (arith, r, q, h)

-- the term evaluates to v with these argument lists of f
abbrev CallsIn : Program → ℕ → List Word → Term → Word → List (List Word) → Type 0
CallsIn p f env t v l = (d : Gives p env t v) × (calls_to p f d ≡ l)

joined : (a b c d : List (List Word)) → a ≡ c → b ≡ d → a ++ b ≡ c ++ d
joined a b c d x y = cc

mutual
  pub one_calls : (p : Program) (f : ℕ) {env : List Word} {t : Term} {v w : Word} (l : List (List Word)) (d : Gives p env t v) (e : Gives p env t w) → calls_to p f e ≡ l → calls_to p f d ≡ l
  one_calls p f l gives_const gives_const h = h
  one_calls p f l gives_var gives_var h = h
  one_calls p f l (gives_op ds) (gives_op es) h = one_calls_in p f l ds es h
  one_calls p f l (gives_if {env = env} {a = a} {b = b} c d) (gives_if {v = v'} c' d') h =
      let r = one_calls p f (calls_to p f c') c c' refl in
      let moved = subst (λ x. CallsIn p f env (choose x a b) v' (calls_to p f d')) (sym (value_of p c c')) (d', refl) in
      let q = one_calls p f (calls_to p f d') d moved.0 moved.1 in
      joined _ _ _ _ r q ∙ h
  one_calls p f l (gives_let {env = env} {b = b} ds d) (gives_let {v = v'} ds' d') h =
      let r = one_calls_in p f (calls_all p f ds') ds ds' refl in
      let moved = subst (λ x. CallsIn p f (env ++ x) b v' (calls_to p f d')) (sym (list_of p ds ds')) (d', refl) in
      let q = one_calls p f (calls_to p f d') d moved.0 moved.1 in
      joined _ _ _ _ r q ∙ h
  one_calls p f l (gives_call {f = g} ds d) (gives_call {v = v'} ds' d') h =
      let r = one_calls_in p f (calls_all p f ds') ds ds' refl in
      let moved = subst (λ x. CallsIn p f x (p.body g) v' (calls_to p f d')) (sym (list_of p ds ds')) (d', refl) in
      let q = one_calls p f (calls_to p f d') d moved.0 moved.1 in
      joined _ _ _ _ r (joined _ _ _ _ (ap (at_function f g) (list_of p ds ds')) q) ∙ h
  one_calls p f l (gives_loop {h = g} ds d) (gives_loop {v = v'} ds' d') h =
      let r = one_calls_in p f (calls_all p f ds') ds ds' refl in
      let moved = subst (λ x. CallsIn p f x (p.body g) v' (calls_to p f d')) (sym (list_of p ds ds')) (d', refl) in
      let q = one_calls p f (calls_to p f d') d moved.0 moved.1 in
      joined _ _ _ _ r (joined _ _ _ _ (ap (at_function f g) (list_of p ds ds')) q) ∙ h

  one_calls_in : (p : Program) (f : ℕ) {env : List Word} {ts : Terms} {vs ws : List Word} (l : List (List Word)) (d : GivesAll p env ts vs)
      (e : GivesAll p env ts ws) → calls_all p f e ≡ l → calls_all p f d ≡ l
  one_calls_in p f l gives_nil gives_nil h = h
  one_calls_in p f l (gives_cons d ds) (gives_cons e es) h =
      let r = one_calls p f (calls_to p f e) d e refl in
      let q = one_calls_in p f (calls_all p f es) ds es refl in
      joined _ _ _ _ r q ∙ h
