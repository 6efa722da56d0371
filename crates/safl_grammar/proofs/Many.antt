-- Any number of turns.
use Rattle.std.proofs.Common.{◌≡◌, ℕ, zero, suc, ◌≤◌, ◌<◌, Bool, true, false, cond, List, [], ◌∷◌, ◌++◌, length, Option, Ok, Err, refl, sym, ap}
use Rattle.std.proofs.Common.{subst, ◌∙◌, inl, inr, append_assoc, length-append, arith}
use Rattle.safl_grammar.specs.Sets.{Set, Only, within, subset, apart, union}
use Rattle.safl_grammar.specs.Syntax.{Rule, Deep, Unexpected, Range, Syntax, nothing, follows, either, turns, any_turns}
use Rattle.safl_grammar.specs.Reading.{Read, Reading, ◌>>=◌, head_of, read_nothing, read_follows, read_either, read_turns, read_many}
use Rattle.safl_grammar.proofs.Sets.{apart_within}
use Rattle.safl_grammar.proofs.Parses.{Parses, At, Next, Ends, Past, Stops, ok_parts, bind_ok, bind_err, left, past_left, nil_front, cuts, parses_nothing, parses_within}
use Rattle.safl_grammar.proofs.Follows.{at_first, at_second, parses_follows}
use Rattle.safl_grammar.proofs.Either.{at_left, parses_either}

bind_same : {T A B : Type 0} (y : Read T A) (f f' : A × List T → Read T B) → ((x : A × List T) → y ≡ Ok x → f x ≡ f' x) → (y >>= f) ≡ (y >>= f')
bind_same (Ok x) f f' h = h x refl
bind_same (Err d) f f' h = refl

module _ {T A : Type 0} (test : Option T → Bool) (go : A → Reading T A) (eats : (a : A) (w r : List T) (x : A) → go a w ≡ Ok (x, r) → length r < length w) where
  -- fuel above the length is enough
  enough : (k j : ℕ) (a : A) (w : List T) → length w < k → length w < j → read_turns k test go a w ≡ read_turns j test go a w
  enough zero j a w h i = absurd (omega arith)
  enough (suc k) zero a w h i = absurd (omega arith)
  enough (suc k) (suc j) a w h i =
      ap (λ (z : Read T A). cond (test (head_of w)) z (Ok (a, w)))
      (bind_same (go a w) (λ x. read_turns k test go x.0 x.1) (λ x. read_turns j test go x.0 x.1)
      (λ x e. let lt = eats a w x.1 x.0 e in enough k j x.0 x.1 (omega arith) (omega arith)))

  pub many_step : (a : A) (w : List T) → read_many test go a w ≡ read_either test (read_follows (go a) (read_many test go)) (read_nothing a) w
  unfolding read_many
  many_step a w =
      ap (λ (z : Read T A). cond (test (head_of w)) z (Ok (a, w)))
      (bind_same (go a w) (λ x. read_turns (length w) test go x.0 x.1) (λ x. read_turns (suc (length x.1)) test go x.0 x.1)
      (λ x e. let lt = eats a w x.1 x.0 e in enough (length w) (suc (length x.1)) x.0 x.1 (omega arith) (omega arith)))

join : {T : Type 0} (w u1 m u2 r : List T) → w ≡ u1 ++ m → m ≡ u2 ++ r → w ≡ (u1 ++ u2) ++ r
join w u1 m u2 r e f = e ∙ ap (λ (l : List _). u1 ++ l) f ∙ sym (append_assoc u1 u2 r)

abbrev pub Done : {T A : Type 0} → Reading T A → Syntax T A → Type 0
Done {T} {A} p s = (w r : List T) (x : A) → p w ≡ Ok (x, r) → (u : List T) × (w ≡ u ++ r) × s.derives u x

abbrev pub Bad : {T A : Type 0} → Reading T A → Syntax T A → Type 0
Bad {T} {A} p s = (w r : List T) (e : Rule) → p w ≡ Err (e, r) → (u : List T) × (w ≡ u ++ r) × s.begins u × At s e u r

-- ---- what is read is there

turn_done : {T A : Type 0} (p : Reading T A) (b : Bool) (s : Syntax T A) (f : A → Syntax T A) (a : A) (q : A → Reading T A) → Done p s →
    ((x : A) → Done (q x) (f x)) → (w r : List T) (x : A) → cond b (p w >>= λ y. q y.0 y.1) (Ok (a, w)) ≡ Ok (x, r) → (u : List T) × (w ≡ u ++ r) ×
    (either (follows s f) (nothing a)).derives u x
turn_done p true s f a q done next w r x e =
    let b = bind_ok (p w) (λ y. q y.0 y.1) (x, r) e in
    let d1 = done w b.0.1 b.0.0 b.1 in
    let d2 = next b.0.0 b.0.1 r x b.2 in
    (d1.0 ++ d2.0, join w d1.0 b.0.1 d2.0 r d1.1 d2.1, inl (d1.0, d2.0, b.0.0, refl, d1.2, d2.2))
turn_done p false s f a q done next w r x e = let k = ok_parts a x w r e in ([], k.1, inr (refl, k.0))

turn_bad : {T A : Type 0} (p : Reading T A) (b : Bool) (s : Syntax T A) (f : A → Syntax T A) (a : A) (q : A → Reading T A) → Done p s → Bad p s →
    ((x : A) → Bad (q x) (f x)) → (w r : List T) (e : Rule) → cond b (p w >>= λ y. q y.0 y.1) (Ok (a, w)) ≡ Err (e, r) → (u : List T) × (w ≡ u ++ r) ×
    (either (follows s f) (nothing a)).begins u × At (either (follows s f) (nothing a)) e u r
turn_bad p true s f a q done bad next w r e h =
    elim (bind_err (p w) (λ y. q y.0 y.1) (e, r) h) [
      | inl b ↦ let d = bad w r e b in (d.0, d.1, inl (inl d.2), at_left (follows s f) (nothing a) e d.0 r (at_first s f e d.0 r d.3))
      | inr b ↦
          let d1 = done w b.0.1 b.0.0 b.1 in
          let d2 = next b.0.0 b.0.1 r e b.2 in (
            d1.0 ++ d2.0,
            join w d1.0 b.0.1 d2.0 r d1.1 d2.1,
            inl (inr (d1.0, d2.0, b.0.0, refl, d1.2, d2.2)),
            at_left (follows s f) (nothing a) e
                (d1.0 ++ d2.0) r (at_second s f b.0.0 e d1.0 d2.0 r d1.2 d2.3),
          )
    ]
turn_bad p false s f a q done bad next w r e h = absurd cc

module _ {T A : Type 0} (test : Option T → Bool) (go : A → Reading T A) (step : A → Syntax T A) (done : (a : A) → Done (go a) (step a)) (bad : (a : A) → Bad (go a) (step a)) where
  turns_done : (k : ℕ) (a : A) → Done (read_turns k test go a) (turns k step a)
  turns_done zero a w r x e = let p = ok_parts a x w r e in ([], p.1, (refl, p.0))
  turns_done (suc k) a w r x e = turn_done (go a) (test (head_of w)) (step a) (turns k step) a (read_turns k test go) (done a) (turns_done k) w r x e

  turns_bad : (k : ℕ) (a : A) → Bad (read_turns k test go a) (turns k step a)
  turns_bad zero a w r e h = absurd cc
  turns_bad (suc k) a w r e h = turn_bad (go a) (test (head_of w)) (step a) (turns k step) a (read_turns k test go) (done a) (bad a) (turns_bad k) w r e h

  at_many : (k : ℕ) (a : A) (e : Rule) (u r : List T) → At (turns k step a) e u r → At (any_turns step a) e u r
  at_many k a Deep u r h = (k, h)
  at_many k a Unexpected u r h = tt
  at_many k a Range u r h = ((k, h.0), next_many u r h.1)
    where
      next_many : (u r : List T) → Next (turns k step a) u r → Next (any_turns step a) u r
      next_many u [] h = h
      next_many u (t ∷ r) h = (k, h)

  many_done : (a : A) → Done (read_many test go a) (any_turns step a)
  unfolding read_many
  many_done a w r x e = let d = turns_done (suc (length w)) a w r x e in (d.0, d.1, (suc (length w), d.2))

  many_bad : (a : A) → Bad (read_many test go a) (any_turns step a)
  unfolding read_many
  many_bad a w r e h = let d = turns_bad (suc (length w)) a w r e h in (d.0, d.1, (suc (length w), d.2), at_many (suc (length w)) a e d.0 r d.3)

turns_covered : {T A : Type 0} (step : A → Syntax T A) → ((a : A) (u : List T) (x : A) → (step a).derives u x → (step a).begins u) → (k : ℕ) (a : A)
    (u : List T) (x : A) → (turns k step a).derives u x → (turns k step a).begins u
turns_covered step h zero a u x d = d.0
turns_covered step h (suc k) a u x (inl (v, w, y, e, d1, d2)) = inl (inr (v, w, y, e, d1, turns_covered step h k y w x d2))
turns_covered step h (suc k) a u x (inr d) = inr d.0

turns_shorter : {T A : Type 0} (step : A → Syntax T A) → ((a : A) (u : List T) (x : A) → (step a).derives u x → (step a).begins u) →
    ((a : A) (u v : List T) → (step a).begins (u ++ v) → (step a).begins u) → (k : ℕ) (a : A) (u v : List T) → (turns k step a).begins (u ++ v) →
    (turns k step a).begins u
turns_shorter step g h zero a u v e = nil_front u v e
turns_shorter step g h (suc k) a u v (inl (inl b)) = inl (inl (h a u v b))
turns_shorter step g h (suc k) a u v (inl (inr (p, q, y, e, d, b))) =
    elim (cuts u v p q e) [
      | inl c ↦ inl (inl (h a u c.0 (subst (λ (l : List _). (step a).begins l) c.1 (g a p y d))))
      | inr c ↦ inl (inr (p, c.0, y, c.1, d, turns_shorter step g h k y c.0 v (subst (λ (l : List _). (turns k step y).begins l) c.2 b)))
    ]
turns_shorter step g h (suc k) a u v (inr e) = inr (nil_front u v e)

-- the same reading under another name
pub parses_as : {T A : Type 0} (code : Option T → ℕ) (p p' : Reading T A) (s s' c : Syntax T A) (N : Bool) (G L F : Set) → ((w : List T) → p' w ≡ p w)
    → Done p' s' → Bad p' s' → s'.begins [] → ((u : List T) (x : A) → s'.derives u x → s'.begins u) →
    ((u v : List T) → s'.begins (u ++ v) → s'.begins u) → (N ≡ false → (x : A) → s'.derives [] x → ⊥) → Parses code p s c N G L F → Parses code p' s' c N G L F
parses_as code p p' s s' c N G L F same done bad empty covered shorter firm h = record {
  done = done;
  bad = bad;
  empty = empty;
  covered = covered;
  shorter = shorter;
  firm = firm;
  solid = h.solid;
  whole = h.whole;
  starts = h.starts;
  limits = h.limits;
  opens = h.opens;
  ends = λ u r x d f. subst (λ (y : Read _ _). Ends y x r) (sym (same (u ++ r))) (h.ends u r x d f);
  past = λ u r b. subst (λ (y : Read _ _). Past y r) (sym (same (u ++ r))) (h.past u r b);
  limit = λ e u r l. subst (λ (y : Read _ _). Stops e y r) (sym (same (u ++ r))) (h.limit e u r l);
}

module _ {T A : Type 0} (code : Option T → ℕ) (g : Set) (go : A → Reading T A) (sstep cstep : A → Syntax T A) (G L F1 G' L' F : Set)
    (each : (a : A) → Parses code (go a) (sstep a) (cstep a) false G L F1) (in_follow : subset (union G' F) F1 ≡ true) (in_open : subset L' F1 ≡ true)
    (in_test : subset G g ≡ true) (open_test : subset L g ≡ true) (others : apart (union (Only []) F) g ≡ true) (apart_f : apart F g ≡ true)
    (more : subset (union G (Only [])) G' ≡ true) (opening : subset (union L (Only [])) L' ≡ true) (less : subset F F ≡ true) where
  many_eats : (a : A) (w r : List T) (x : A) → go a w ≡ Ok (x, r) → length r < length w
  many_eats a w r x e = let d = (each a).done w r x e in longer d.0 d.1 d.2
    where
      longer : (u : List T) → w ≡ u ++ r → (sstep a).derives u x → length r < length w
      longer [] i d = absurd ((each a).firm refl x d)
      longer (t ∷ u) i d = omega (arith, ap length i, length-append u r)

  many_empty : (a : A) → (any_turns sstep a).begins []
  many_empty a = (zero, refl)

  is_covered : (a : A) (u : List T) (x : A) → (any_turns sstep a).derives u x → (any_turns sstep a).begins u
  is_covered a u x d = (d.0, turns_covered sstep (λ a. (each a).covered) d.0 a u x d.1)

  is_shorter : (a : A) (u v : List T) → (any_turns sstep a).begins (u ++ v) → (any_turns sstep a).begins u
  is_shorter a u v b = (b.0, turns_shorter sstep (λ a. (each a).covered) (λ a. (each a).shorter) b.0 a u v b.1)

  is_done : (a : A) → Done (read_many (λ h. within g (code h)) go a) (any_turns sstep a)
  is_done a = many_done (λ h. within g (code h)) go sstep (λ a. (each a).done) (λ a. (each a).bad) a

  is_bad : (a : A) → Bad (read_many (λ h. within g (code h)) go a) (any_turns sstep a)
  is_bad a = many_bad (λ h. within g (code h)) go sstep (λ a. (each a).done) (λ a. (each a).bad) a

  -- no turn
  none_ends : (a : A) (r : List T) → within F (code (head_of r)) ≡ true → read_many (λ h. within g (code h)) go a r ≡ Ok (a, r)
  none_ends a r f =
      let e = apart_within F g (code (head_of r)) apart_f f in
      many_step (λ h. within g (code h)) go many_eats a r ∙ ap (λ (b : Bool). cond b (go a r >>= λ y. read_many (λ h. within g (code h)) go y.0 y.1) (Ok (a, r))) e

  small_many : (a : A) (w : List T) (y : Read T A) → read_many (λ h. within g (code h)) go a w ≡ y → length (left y) ≤ length w
  small_many a w (Ok y) e = let d = is_done a w y.1 y.0 e in omega (arith, ap length d.1, length-append d.0 y.1)
  small_many a w (Err f) e = let d = is_bad a w f.1 f.0 e in omega (arith, ap length d.1, length-append d.0 f.1)

  no_turn : (a : A) → Parses code (read_many (λ h. within g (code h)) go a) (any_turns sstep a) (nothing a) true G' L' F
  no_turn a = record {
    done = is_done a;
    bad = is_bad a;
    empty = many_empty a;
    covered = is_covered a;
    shorter = is_shorter a;
    firm = λ e. absurd cc;
    solid = λ e. absurd cc;
    whole = λ u y d. d.0;
    starts = λ t v b. absurd cc;
    limits = λ e t u h l. absurd l;
    opens = λ e h l. absurd l;
    ends = λ u r x d f. subst (λ (y : Read T A). Ends y x r) (sym (ap (λ (l : List T). read_many (λ h. within g (code h)) go a (l ++ r)) d.0 ∙ none_ends a r f)) (d.1, refl);
    past = λ u r b. subst (λ (l : List T). Past (read_many (λ h. within g (code h)) go a (l ++ r)) r) (sym b)
        (past_left (read_many (λ h. within g (code h)) go a r) r (small_many a r (read_many (λ h. within g (code h)) go a r) refl));
    limit = λ e u r l. absurd l;
  }

  parses_turns : (k : ℕ) (a : A) → Parses code (read_many (λ h. within g (code h)) go a) (any_turns sstep a) (turns k cstep a) true G' L' F
  parses_turns zero a = no_turn a
  parses_turns (suc k) a =
      let turn = parses_follows code (go a) (sstep a) (cstep a) false G L F1 (read_many (λ h. within g (code h)) go) (any_turns sstep) (turns k cstep) true
      G' L' F (each a) (parses_turns k) in_follow in_open in
      let or_none = parses_either code g (read_follows (go a) (read_many (λ h. within g (code h)) go)) (read_nothing a)
      (follows (sstep a) (any_turns sstep)) (follows (cstep a) (turns k cstep)) G L F (nothing a) (nothing a) true (Only []) (Only []) turn
      (parses_nothing code a F) in_test open_test others refl in
      parses_as code (read_either (λ h. within g (code h)) (read_follows (go a) (read_many (λ h. within g (code h)) go)) (read_nothing a))
      (read_many (λ h. within g (code h)) go a) (either (follows (sstep a) (any_turns sstep)) (nothing a)) (any_turns sstep a) (turns (suc k) cstep a) true
      G' L' F (many_step (λ h. within g (code h)) go many_eats a) (is_done a) (is_bad a) (many_empty a) (is_covered a) (is_shorter a)
      (λ e. absurd cc) (parses_within code _ _ _ true (union G (Only [])) (union L (Only [])) F G' L' F more opening less or_none)

  pub parses_many : (a : A) → Parses code (read_many (λ h. within g (code h)) go a) (any_turns sstep a) (any_turns cstep a) true G' L' F
  parses_many a = record {
    done = is_done a;
    bad = is_bad a;
    empty = many_empty a;
    covered = is_covered a;
    shorter = is_shorter a;
    firm = λ e. absurd cc;
    solid = λ e. absurd cc;
    whole = λ u y d. (d.0, (parses_turns d.0 a).whole u y d.1);
    starts = λ t v b. (parses_turns b.0 a).starts t v b.1;
    limits = λ e t u h l. (parses_turns l.0 a).limits e t u h l.1;
    opens = λ e h l. (parses_turns l.0 a).opens e h l.1;
    ends = λ u r y d f. (parses_turns d.0 a).ends u r y d.1 f;
    past = λ u r b. (parses_turns b.0 a).past u r b.1;
    limit = λ e u r l. (parses_turns l.0 a).limit e u r l.1;
  }

-- ---- a loop over the turns

module _ {T A : Type 0} (test : Option T → Bool) (go : A → Reading T A)
    (eats : (a : A) (w r : List T) (x : A) → go a w ≡ Ok (x, r) → length r < length w) (a : A) (w : List T) (total : Read T A)
    (so_far : read_many test go a w ≡ total) where
  unrolled : total ≡ cond (test (head_of w)) (go a w >>= λ y. read_many test go y.0 y.1) (Ok (a, w))
  unrolled = sym so_far ∙ many_step test go eats a w

  pub goes_on : (b : A) (r : List T) → test (head_of w) ≡ true → go a w ≡ Ok (b, r) → read_many test go b r ≡ total
  goes_on b r t h = sym (unrolled ∙ ap (λ (c : Bool). cond c (go a w >>= λ y. read_many test go y.0 y.1) (Ok (a, w))) t ∙ ap (λ (y : Read T A). y >>= λ y. read_many test go y.0 y.1) h)

  pub stops_here : test (head_of w) ≡ false → total ≡ Ok (a, w)
  stops_here t = unrolled ∙ ap (λ (c : Bool). cond c (go a w >>= λ y. read_many test go y.0 y.1) (Ok (a, w))) t

  pub fails_here : (f : Rule × List T) → test (head_of w) ≡ true → go a w ≡ Err f → total ≡ Err f
  fails_here f t h = unrolled ∙ ap (λ (c : Bool). cond c (go a w >>= λ y. read_many test go y.0 y.1) (Ok (a, w))) t ∙ ap (λ (y : Read T A). y >>= λ y. read_many test go y.0 y.1) h
