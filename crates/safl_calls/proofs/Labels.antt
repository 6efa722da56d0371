-- Where each body is its own twin, words that are not public do not change a span.
use Rattle.safl_calls.proofs.Common.{Program, Term, Terms, Word, apply_prim, pick, slot, span, spans}
use Rattle.std.proofs.Common.{◌≡◌, ℕ, zero, suc, List, [], ◌∷◌, ◌++◌, Bool, true, false, refl, sym, ap, ◌∙◌, subst, arith}
use Rattle.std.proofs.lemmas.Bool.{and_parts, false≢true, true≢false}
use Rattle.safl_calls.specs.Labels.{Labels, label, all_public, Twins, t_const, t_var, t_plain, t_op, t_if, t_choose, t_left, t_right, t_let, t_call, t_loop, AllTwins, t_nil, t_cons}
use Rattle.safl_calls.specs.Labels.{KeepsLabels, Alike, IsBlind, IsPlainTerm, p_const, p_var, p_op, p_if, p_let, ArePlain, p_nil, p_cons}
use Rattle.safl_term.specs.Meaning.{Gives, gives_const, gives_var, gives_op, gives_if, gives_let, gives_call, gives_loop, GivesAll, gives_nil, gives_cons}

pub alike_append : (bs cs : List Bool) (vs ws xs ys : List Word) → Alike bs vs ws → Alike cs xs ys → Alike (bs ++ cs) (vs ++ xs) (ws ++ ys)
alike_append [] cs [] [] xs ys h k = k
alike_append [] cs [] (w ∷ ws) xs ys h k = absurd h
alike_append [] cs (v ∷ vs) ws xs ys h k = absurd h
alike_append (b ∷ bs) cs [] ws xs ys h k = absurd h
alike_append (b ∷ bs) cs (v ∷ vs) [] xs ys h k = absurd h
alike_append (b ∷ bs) cs (v ∷ vs) (w ∷ ws) xs ys h k = (h.0, alike_append bs cs vs ws xs ys h.1 k)

pub alike_slot : (bs : List Bool) (vs ws : List Word) (i : ℕ) → Alike bs vs ws → label bs i ≡ true → slot vs i ≡ slot ws i
unfolding label
alike_slot [] vs ws i h e = absurd (false≢true e)
alike_slot (b ∷ bs) [] ws i h e = absurd h
alike_slot (b ∷ bs) (v ∷ vs) [] i h e = absurd h
alike_slot (b ∷ bs) (v ∷ vs) (w ∷ ws) zero h e = h.0 e
alike_slot (b ∷ bs) (v ∷ vs) (w ∷ ws) (suc i) h e = alike_slot bs vs ws i h.1 e

pub alike_all : (bs : List Bool) (vs ws : List Word) → Alike bs vs ws → all_public bs ≡ true → vs ≡ ws
unfolding all_public
alike_all [] [] [] h e = refl
alike_all [] [] (w ∷ ws) h e = absurd h
alike_all [] (v ∷ vs) ws h e = absurd h
alike_all (b ∷ bs) [] ws h e = absurd h
alike_all (b ∷ bs) (v ∷ vs) [] h e = absurd h
alike_all (b ∷ bs) (v ∷ vs) (w ∷ ws) h e =
    let p = and_parts b (all_public bs) e in
    ap (λ x. x ∷ vs) (h.0 p.0) ∙ ap (λ x. w ∷ x) (alike_all bs vs ws h.1 p.1)

-- what holds of both branches holds of the one that is selected
pub pick_left : {A B : Type 0} (R : A → B → Type 0) (n : ℕ) (x y : A) (u : B) → R x u → R y u → R (pick n x y) u
pick_left R zero x y u h k = k
pick_left R (suc zero) x y u h k = h
pick_left R (suc (suc n)) x y u h k = k

pub pick_right : {A B : Type 0} (R : A → B → Type 0) (n : ℕ) (x : A) (u v : B) → R x u → R x v → R x (pick n u v)
pick_right R zero x u v h k = k
pick_right R (suc zero) x u v h k = h
pick_right R (suc (suc n)) x u v h k = k

-- what holds of any two branches, or of those on the same side, holds of the two that are selected
pub pick_any : {A B : Type 0} (R : A → B → Type 0) (m n : ℕ) (x y : A) (u v : B) → R x u → R x v → R y u → R y v → R (pick m x y) (pick n u v)
pick_any R m n x y u v xu xv yu yv = pick_left R m x y (pick n u v) (pick_right R n x u v xu xv) (pick_right R n y u v yu yv)

pub pick_same : {A B : Type 0} (R : A → B → Type 0) (m n : ℕ) (x y : A) (u v : B) → m ≡ n → R x u → R y v → R (pick m x y) (pick n u v)
pick_same R m n x y u v e h k = subst (λ j. R (pick m x y) (pick j u v)) e (at m)
  where
    at : (m : ℕ) → R (pick m x y) (pick m u v)
    at zero = k
    at (suc zero) = h
    at (suc (suc m)) = k

plain_pick : (n : ℕ) (x y : Term) → IsPlainTerm x → IsPlainTerm y → IsPlainTerm (pick n x y)
plain_pick zero x y h k = k
plain_pick (suc zero) x y h k = h
plain_pick (suc (suc n)) x y h k = k

-- a plain term has no span
mutual
  plain_span : (C : Program) {env : List Word} {t : Term} {v : Word} → IsPlainTerm t → (d : Gives C env t v) → span C d ≡ 0
  plain_span C p_const gives_const = refl
  plain_span C p_var gives_var = refl
  plain_span C (p_op h) (gives_op ds) = plain_spans C h ds
  plain_span C (p_if {x = x} {y = y} c h k) (gives_if {u = u} q d) = omega (arith, plain_span C c q, plain_span C (plain_pick u.bits x y h k) d)
  plain_span C (p_let h k) (gives_let ds d) = omega (arith, plain_spans C h ds, plain_span C k d)

  plain_spans : (C : Program) {env : List Word} {ts : Terms} {vs : List Word} → ArePlain ts → (d : GivesAll C env ts vs) → spans C d ≡ 0
  plain_spans C p_nil gives_nil = refl
  plain_spans C (p_cons h hs) (gives_cons d ds) = omega (arith, plain_span C h d, plain_spans C hs ds)

-- whether the second term begins with an if that has a plain condition, by the rule for it
is_right : {L : Labels} {ls : List Bool} {t u : Term} {b : Bool} → Twins L ls t u b → Bool
is_right (t_right p h k) = true
is_right _ = false

-- the second term's branch behind all such ifs, with the same word and span
record Peeled (C : Program) (L : Labels) (ls : List Bool) (other : List Word) (t : Term) (b : Bool) (w : Word) (n : ℕ) : Type 0 where
  term : Term
  twins : Twins L ls t term b
  head : is_right twins ≡ false
  gives : Gives C other term w
  lasts : n ≡ span C gives

peel : (C : Program) (L : Labels) (ls : List Bool) (t : Term) (b : Bool) {other : List Word} {u : Term} {w : Word} → Twins L ls t u b → (e : Gives C other u w)
    → Peeled C L ls other t b w (span C e)
unfolding is_right
peel C L ls t b (t_right {u = u} {v = v} p h k) (gives_if {u = q} c e) =
    let r = peel C L ls t b (pick_right (λ x y. Twins L ls x y b) q.bits t u v h k) e in
    record { term = r.term; twins = r.twins; head = r.head; gives = r.gives; lasts = omega (arith, plain_span C p c, r.lasts) }
peel C L ls t b {u = u} k e = record { term = u; twins = k; head = refl; gives = e; lasts = refl }

module _ (C : Program) (L : Labels) (all : KeepsLabels C L) where
  -- two evaluations of twins: their words are equal if they are public, and their spans are
  abbrev Both : Bool → Word → Word → ℕ → ℕ → Type 0
  Both b v w m n = (b ≡ true → v ≡ w) × (m ≡ n)

  abbrev BothAll : List Bool → List Word → List Word → ℕ → ℕ → Type 0
  BothAll bs vs ws m n = Alike bs vs ws × (m ≡ n)

  behind : {ls : List Bool} {other : List Word} {t : Term} {b : Bool} {v w : Word} {m n : ℕ} → (p : Peeled C L ls other t b w n) → Both b v w m (span C p.gives)
      → Both b v w m n
  behind p q = (q.0, q.1 ∙ sym p.lasts)

  mutual
    unfolding is_right

    blind : (ls : List Bool) {env other : List Word} {t u : Term} {v w : Word} {b : Bool} → Alike ls env other → (k : Twins L ls t u b) → is_right k ≡ false
        → (d : Gives C env t v) → (e : Gives C other u w) → Both b v w (span C d) (span C e)
    blind ls h t_const off gives_const gives_const = (λ i. refl, refl)
    blind ls {env = env} {other = other} h (t_var {i = i} q) off gives_var gives_var = (λ z. alike_slot ls env other i h (q z), refl)
    blind ls h (t_plain p q) off d e = (λ z. absurd (false≢true z), plain_span C p d ∙ sym (plain_span C q e))
    blind ls h (t_op {ms = ms} {o = o} ks q) off (gives_op {vs = vs} ds) (gives_op {vs = ws} es) =
        let r = blind_all ls h ks ds es in
        (λ z. ap (apply_prim o) (alike_all ms vs ws r.0 (q z)), r.1)
    blind ls {b = b} h (t_if {x = x} {y = y} {u = u} {v = v} kc kx ky) off (gives_if {u = m} c d) (gives_if {u = n} c' d') =
        let pc = peel C L ls _ true kc c' in
        let r = behind pc (blind ls h pc.twins pc.head c pc.gives) in
        let k = pick_same (λ s t. Twins L ls s t b) m.bits n.bits x y u v (ap (λ (a : Word). a.bits) (r.0 refl)) kx ky in
        let pd = peel C L ls _ b k d' in
        let q = behind pd (blind ls h pd.twins pd.head d pd.gives) in
        (q.0, omega (arith, r.1, q.1))
    blind ls {b = b} h (t_choose {x = x} {y = y} {u = u} {v = v} kc xu xv yu yv) off (gives_if {u = m} c d) (gives_if {u = n} c' d') =
        let pc = peel C L ls _ false kc c' in
        let r = behind pc (blind ls h pc.twins pc.head c pc.gives) in
        let k = pick_any (λ s t. Twins L ls s t b) m.bits n.bits x y u v xu xv yu yv in
        let pd = peel C L ls _ b k d' in
        let q = behind pd (blind ls h pd.twins pd.head d pd.gives) in
        (q.0, omega (arith, r.1, q.1))
    blind ls {b = b} h (t_left {x = x} {y = y} {u = u} p xu yu) off (gives_if {u = m} c d) e =
        let k = pick_left (λ s t. Twins L ls s t b) m.bits x y u xu yu in
        let pd = peel C L ls _ b k e in
        let q = behind pd (blind ls h pd.twins pd.head d pd.gives) in
        (q.0, omega (arith, plain_span C p c, q.1))
    blind ls h (t_right p tu tv) off d e = absurd (true≢false off)
    blind ls {b = b} h (t_let {ms = ms} ks k) off (gives_let {us = us} ds d) (gives_let {us = us'} es e) =
        let r = blind_all ls h ks ds es in
        let pd = peel C L (ls ++ ms) _ b k e in
        let q = behind pd (blind (ls ++ ms) (alike_append ls ms _ _ us us' h r.0) pd.twins pd.head d pd.gives) in
        (q.0, omega (arith, r.1, q.1))
    blind ls h (t_call {f = f} ks q) off (gives_call ds d) (gives_call es e) =
        let r = blind_all ls h ks ds es in
        let pd = peel C L (L.params f) _ (L.result f) (all f) e in
        let s = behind pd (blind (L.params f) r.0 pd.twins pd.head d pd.gives) in
        (λ z. s.0 (q z), omega (arith, r.1, s.1))
    blind ls h (t_loop {h = f} ks q) off (gives_loop ds d) (gives_loop es e) =
        let r = blind_all ls h ks ds es in
        let pd = peel C L (L.params f) _ (L.result f) (all f) e in
        let s = behind pd (blind (L.params f) r.0 pd.twins pd.head d pd.gives) in
        (λ z. s.0 (q z), omega (arith, r.1, s.1))

    blind_all : (ls : List Bool) {env other : List Word} {ts us : Terms} {vs ws : List Word} {bs : List Bool} → Alike ls env other → AllTwins L ls ts us bs
        → (d : GivesAll C env ts vs) → (e : GivesAll C other us ws) → BothAll bs vs ws (spans C d) (spans C e)
    blind_all ls h t_nil gives_nil gives_nil = (tt, refl)
    blind_all ls h (t_cons {b = b} k ks) (gives_cons d ds) (gives_cons e es) =
        let pd = peel C L ls _ b k e in
        let r = behind pd (blind ls h pd.twins pd.head d pd.gives) in
        let q = blind_all ls h ks ds es in
        ((r.0, q.0), omega (arith, r.1, q.1))

pub is_blind : (C : Program) → IsBlind C
is_blind C L all args other h v w d e =
    let f = C.callee 0 in
    let p = peel C L (L.params f) (C.body f) (L.result f) (all f) e in
    let r = behind C L all p (blind C L all (L.params f) h p.twins p.head d p.gives) in
    omega (arith, r.1)
