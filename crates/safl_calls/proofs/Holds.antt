-- The invariant of the machine, and that a unit that finishes or loops keeps it.
use Rattle.safl_calls.proofs.Common.{Gives, IsNumbered, Program, Term, Word, cases_eq, eq-eqb, ne_eqb, place, put}
use Rattle.std.proofs.Common.{◌≡◌, ℕ, ◌≤◌, List, Bool, true, cond, refl, sym, ap, ◌∙◌, subst, arith, ⊎_elim}
use Rattle.std.specs.Prelude.{◌≢◌}
use Rattle.safl_calls.proofs.Activities.{fresh, Activity, Free, Active, Giving}
use Rattle.safl_calls.proofs.Owed.{done_asks, tail_asks}
use Rattle.safl_term.proofs.Bridge.{Sound, View, ready, loops, waits, bridge, Wants}
use Rattle.safl_term.proofs.Shows.{Done, Tail, Asks, done_gives, tail_gives}
use Rattle.safl_term.specs.Readiness.{Stage, Unsent, Sent, Returned, Answer, Ready, LoopTo, answer, wanted}
use Rattle.safl_term.proofs.Bridge.{back_of}

pub put_same : {A : Type 0} (f : ℕ → A) (i j : ℕ) (x : A) → j ≡ i → put f i x j ≡ x
put_same f i j x e = ap (λ b. cond b x (f j)) (eq-eqb i j (sym e))

pub put_other : {A : Type 0} (f : ℕ → A) (i j : ℕ) (x : A) → j ≢ i → put f i x j ≡ f j
put_other f i j x e = ap (λ b. cond b x (f j)) (ne_eqb i j (λ q. e (sym q)))

-- a unit runs or delivers for site k
abbrev pub Serves : Activity → ℕ → Type 0
Serves Free k = ⊥
Serves (Active f xs s j) k = j ≡ k
Serves (Giving v j) k = j ≡ k

-- site k is sent, with these words
pub data Asked (p : Program) (args : List Word) (U : ℕ → Activity) (o : Stage) : ℕ → List Word → Type 0 where
  from_outside : {k : ℕ} → k ≡ 0 → o ≡ Sent → Asked p args U o k args
  from_site : {k j : ℕ} {xs ws : List Word} {s : ℕ → Stage} → U (p.unit (p.caller k)) ≡ Active (p.caller k) xs s j → s k ≡ Sent → Asks p s xs (p.body (p.caller k)) k ws → Asked p args U o k ws

pub record Running (p : Program) (args : List Word) (U : ℕ → Activity) (o : Stage) (u f : ℕ) (xs : List Word) (s : ℕ → Stage) (k : ℕ) : Type 0 where
  pub own : p.unit f ≡ u
  pub good : (j : ℕ) (w : Word) → s j ≡ Returned w → (ws : List Word) × Asks p s xs (p.body f) j ws × Gives p ws (p.body (p.callee j)) w
  pub sent : (j : ℕ) → s j ≡ Sent → (ws : List Word) × Asks p s xs (p.body f) j ws × Serves (U (p.unit (p.callee j))) j
  pub words : List Word
  pub asked : Asked p args U o k words
  pub chain : (v : Word) → Gives p xs (p.body f) v → Gives p words (p.body (p.callee k)) v
  pub home : p.unit (p.callee k) ≡ u

pub record Delivering (p : Program) (args : List Word) (U : ℕ → Activity) (o : Stage) (u : ℕ) (v : Word) (k : ℕ) : Type 0 where
  pub words : List Word
  pub asked : Asked p args U o k words
  pub value : Gives p words (p.body (p.callee k)) v
  pub home : p.unit (p.callee k) ≡ u

abbrev pub At : Program → List Word → (ℕ → Activity) → Stage → ℕ → Activity → Type 0
At p args U o u Free = Unit {0}
At p args U o u (Active f xs s k) = Running p args U o u f xs s k
At p args U o u (Giving v k) = Delivering p args U o u v k

-- the call from outside
abbrev pub Outside : Program → List Word → (ℕ → Activity) → Stage → Type 0
Outside p args U Unsent = Unit {0}
Outside p args U Sent = Serves (U (p.unit (p.callee 0))) 0
Outside p args U (Returned v) = Gives p args (p.body (p.callee 0)) v

pub record Holds (p : Program) (args : List Word) (U : ℕ → Activity) (o : Stage) : Type 0 where
  pub at : (u : ℕ) → At p args U o u (U u)
  pub main : Outside p args U o

-- what an event that leaves a unit alone has to keep for it
pub frame : (p : Program) (n : ℕ) (args : List Word) (U V : ℕ → Activity) (o q : Stage) (u : ℕ) (x : Activity) → IsNumbered p n
    → ((k : ℕ) (ws : List Word) → p.unit (p.callee k) ≡ u → Asked p args U o k ws → Asked p args V q k ws)
    → ((k : ℕ) → 1 ≤ k → p.unit (p.caller k) ≡ u → Serves (U (p.unit (p.callee k))) k → Serves (V (p.unit (p.callee k))) k)
    → At p args U o u x → At p args V q u x
frame p n args U V o q u Free wf keep_asked keep_served h = tt
frame p n args U V o q u (Active f xs s k) wf keep_asked keep_served h =
    let b = wf.bodies f in
    record {
      own = h.own;
      good = h.good;
      sent = λ j e. let r = h.sent j e in let pl = place p s f true b.0 b.1 b.3 r.1 in (r.0, r.1, keep_served j (omega (arith, b.2, pl.above)) (ap (p.unit) pl.caller ∙ h.own) r.2);
      words = h.words;
      asked = keep_asked k h.words h.home h.asked;
      chain = h.chain;
      home = h.home;
    }
frame p n args U V o q u (Giving v k) wf keep_asked keep_served h =
    record { words = h.words; asked = keep_asked k h.words h.home h.asked; value = h.value; home = h.home }

pub of_ready : (p : Program) (s : ℕ → Stage) (env : List Word) (tail : Bool) (t : Term) (v : Word) (l : Wants) → View p s env tail t (Ready v) l → Done p s env t v
of_ready p s env tail t v l (ready d h) = d

pub of_loop : (p : Program) (s : ℕ → Stage) (env : List Word) (tail : Bool) (t : Term) (h : ℕ) (ws : List Word) (l : Wants) → View p s env tail t (LoopTo h ws) l → Tail p s env t h ws
of_loop p s env tail t f ws l (loops e d h) = d

pub of_wants : {p : Program} {s : ℕ → Stage} {env : List Word} {tail : Bool} {t : Term} {x : Answer} {l : Wants} → View p s env tail t x l → Sound p s env t l
of_wants (ready d h) = h
of_wants (loops e d h) = h
of_wants (waits q h) = h

-- what a running unit shows
pub view_of : (p : Program) (n : ℕ) (args : List Word) (U : ℕ → Activity) (o : Stage) (u f : ℕ) (xs : List Word) (s : ℕ → Stage) (k : ℕ) → IsNumbered
    p n → Running p args U o u f xs s k → View p s xs true (p.body f) (answer (back_of s) xs (p.body f)) (wanted (back_of s) xs (p.body f))
view_of p n args U o u f xs s k wf r = let b = wf.bodies f in bridge p s f true b.0 b.1 xs (p.body f) b.3 (λ j w x y e. r.good j w e)

pub running_done : (p : Program) (n : ℕ) (args : List Word) (U : ℕ → Activity) (o : Stage) (u f : ℕ) (xs : List Word) (s : ℕ → Stage) (k : ℕ)
    (v : Word) → IsNumbered p n → Running p args U o u f xs s k → answer (back_of s) xs (p.body f) ≡ Ready v → Done p s xs (p.body f) v
running_done p n args U o u f xs s k v wf r e =
    of_ready p s xs true (p.body f) v (wanted (back_of s) xs (p.body f)) (subst (λ x. View p s xs true (p.body f) x (wanted (back_of s) xs (p.body f))) e (view_of p n args U o u f xs s k wf r))

pub running_tail : (p : Program) (n : ℕ) (args : List Word) (U : ℕ → Activity) (o : Stage) (u f : ℕ) (xs : List Word) (s : ℕ → Stage) (k h : ℕ)
    (ws : List Word) → IsNumbered p n → Running p args U o u f xs s k → answer (back_of s) xs (p.body f) ≡ LoopTo h ws → Tail p s xs (p.body f) h ws
running_tail p n args U o u f xs s k h ws wf r e =
    of_loop p s xs true (p.body f) h ws (wanted (back_of s) xs (p.body f)) (subst (λ x. View p s xs true (p.body f) x (wanted (back_of s) xs (p.body f))) e (view_of p n args U o u f xs s k wf r))

pub running_wants : (p : Program) (n : ℕ) (args : List Word) (U : ℕ → Activity) (o : Stage) (u f : ℕ) (xs : List Word) (s : ℕ → Stage) (k : ℕ) →
    IsNumbered p n → Running p args U o u f xs s k → Sound p s xs (p.body f) (wanted (back_of s) xs (p.body f))
running_wants p n args U o u f xs s k wf r = of_wants (view_of p n args U o u f xs s k wf r)

-- a fact about what a unit runs
abbrev pub NoSent : Program → Activity → Type 0
NoSent p Free = Unit {0}
NoSent p (Active f xs s j) = (k : ℕ) (ws : List Word) → Asks p s xs (p.body f) k ws → s k ≡ Sent → ⊥
NoSent p (Giving v j) = Unit {0}

abbrev pub NotReturned : ℕ → Activity → Type 0
NotReturned k Free = Unit {0}
NotReturned k (Active f xs s j) = (w : Word) → s k ≡ Returned w → ⊥
NotReturned k (Giving v j) = Unit {0}

abbrev pub NotRunning : Activity → Type 0
NotRunning Free = Unit {0}
NotRunning (Active f xs s j) = ⊥
NotRunning (Giving v j) = Unit {0}

pub outside_kept : (p : Program) (args : List Word) (U V : ℕ → Activity) (o : Stage) →
    (Serves (U (p.unit (p.callee 0))) 0 → Serves (V (p.unit (p.callee 0))) 0) → Outside p args U o → Outside p args V o
outside_kept p args U V Unsent h x = x
outside_kept p args U V Sent h x = h x
outside_kept p args U V (Returned v) h x = x

-- a unit that ran, and had no site in flight, does something else for the same site
module _ (p : Program) (n : ℕ) (args : List Word) (U : ℕ → Activity) (o : Stage) (m f : ℕ) (xs : List Word) (s : ℕ → Stage) (j : ℕ) (y : Activity)
    (wf : IsNumbered p n) (h : Holds p args U o) (runs : U m ≡ Active f xs s j)
    (no_sent : (k : ℕ) (ws : List Word) → Asks p s xs (p.body f) k ws → s k ≡ Sent → ⊥) (serves : (k : ℕ) → j ≡ k → Serves y k) where
  turn_asked : (k : ℕ) (ws : List Word) → Asked p args U o k ws → Asked p args (put U m y) o k ws
  turn_asked k ws (from_outside z e) = from_outside z e
  turn_asked k ws (from_site {j = i} {xs = zs} {s = r} eu es a) =
      ⊎_elim
      (λ e. let none = subst (NoSent p) (sym runs ∙ ap U (sym e) ∙ eu) no_sent in absurd (none k ws a es))
      (λ e. from_site (put_other U m (p.unit (p.caller k)) y e ∙ eu) es a)
      (cases_eq (p.unit (p.caller k)) m)

  turn_served : (u k : ℕ) → Serves (U u) k → Serves (put U m y u) k
  turn_served u k q =
      ⊎_elim
      (λ e. let same : Serves (Active f xs s j) k = subst (λ x. Serves x k) (ap U e ∙ runs) q in subst (λ x. Serves x k) (sym (put_same U m u y e)) (serves k same))
      (λ e. subst (λ x. Serves x k) (sym (put_other U m u y e)) q)
      (cases_eq u m)

  turned : (At p args (put U m y) o m y) → Holds p args (put U m y) o
  turned new = record {
    at = λ u. ⊎_elim
        (λ e. subst (λ x. At p args (put U m y) o x (put U m y x)) (sym e) (subst (At p args (put U m y) o m) (sym (put_same U m m y refl)) new))
        (λ e. subst (At p args (put U m y) o u) (sym (put_other U m u y e))
        (frame p n args U (put U m y) o o u (U u) wf (λ k ws i q. turn_asked k ws q) (λ k i l q. turn_served (p.unit (p.callee k)) k q) (h.at u)))
        (cases_eq u m);
    main = outside_kept p args U (put U m y) o (λ q. turn_served (p.unit (p.callee 0)) 0 q) h.main;
  }

pub running_at : (p : Program) (args : List Word) (U : ℕ → Activity) (o : Stage) (u f : ℕ) (xs : List Word) (s : ℕ → Stage) (k : ℕ) → Holds p args U o
    → U u ≡ Active f xs s k → Running p args U o u f xs s k
running_at p args U o u f xs s k h e = subst (At p args U o u) e (h.at u)

pub delivering_at : (p : Program) (args : List Word) (U : ℕ → Activity) (o : Stage) (u : ℕ) (v : Word) (k : ℕ) → Holds p args U o → U u ≡ Giving v k → Delivering p args U o u v k
delivering_at p args U o u v k h e = subst (At p args U o u) e (h.at u)

pub not_sent : (s : Stage) (v : Word) → s ≡ Returned v → s ≡ Sent → ⊥
not_sent s v e q = cc

pub holds_finish : (p : Program) (n : ℕ) (args : List Word) (U : ℕ → Activity) (o : Stage) (f : ℕ) (xs : List Word) (s : ℕ → Stage) (j : ℕ) (v : Word)
    → IsNumbered p n → Holds p args U o → U (p.unit f) ≡ Active f xs s j → answer (back_of s) xs (p.body f) ≡ Ready v → Holds p args (put U (p.unit f) (Giving v j)) o
holds_finish p n args U o f xs s j v wf h e a =
    let r = running_at p args U o (p.unit f) f xs s j h e in
    let d = running_done p n args U o (p.unit f) f xs s j v wf r a in
    let never = λ (k : ℕ) (ws : List Word) (q : Asks p s xs (p.body f) k ws) (z : s k ≡ Sent). let i = done_asks p s d q in not_sent (s k) i.0 i.1 z in
    turned p n args U o (p.unit f) f xs s j (Giving v j) wf h e never (λ k i. i)
    (record { words = r.words; asked = turn_asked p n args U o (p.unit f) f xs s j (Giving v j) wf h e never (λ k i. i) j r.words r.asked; value = r.chain v (done_gives p s d); home = r.home })

pub fresh_not : (k : ℕ) (v : Word) → fresh k ≡ Returned v → ⊥
fresh_not k v e = cc

pub fresh_unsent : (k : ℕ) → fresh k ≡ Sent → ⊥
fresh_unsent k e = cc

pub holds_loop : (p : Program) (n : ℕ) (args : List Word) (U : ℕ → Activity) (o : Stage) (f g : ℕ) (xs ws : List Word) (s : ℕ → Stage) (j : ℕ) →
    IsNumbered p n → Holds p args U o → U (p.unit g) ≡ Active f xs s j → answer (back_of s) xs (p.body f) ≡ LoopTo g ws → Holds p args
    (put U (p.unit g) (Active g ws fresh j)) o
holds_loop p n args U o f g xs ws s j wf h e a =
    let r = running_at p args U o (p.unit g) f xs s j h e in
    let d = running_tail p n args U o (p.unit g) f xs s j g ws wf r a in
    let never = λ (k : ℕ) (zs : List Word) (q : Asks p s xs (p.body f) k zs) (z : s k ≡ Sent). let i = tail_asks p s d q in not_sent (s k) i.0 i.1 z in
    turned p n args U o (p.unit g) f xs s j (Active g ws fresh j) wf h e never (λ k i. i)
    (record {
      own = refl;
      good = λ k w i. absurd (fresh_not k w i);
      sent = λ k i. absurd (fresh_unsent k i);
      words = r.words;
      asked = turn_asked p n args U o (p.unit g) f xs s j (Active g ws fresh j) wf h e never (λ k i. i) j r.words r.asked;
      chain = λ v q. r.chain v (tail_gives p s v d q);
      home = r.home;
    })
