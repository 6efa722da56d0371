-- One or the other, and what a limit at the first token changes.
use Rattle.std.proofs.Common.{◌≡◌, ℕ, Bool, true, false, cond, List, [], ◌∷◌, ◌++◌, Option, Some, Ok, Err, refl, sym, ap, subst, ◌∙◌, inl, inr}
use Rattle.safl_grammar.specs.Sets.{Set, within, subset, apart, union, union_if}
use Rattle.safl_grammar.specs.Syntax.{Rule, Deep, Unexpected, Range, Syntax, either, without_begin}
use Rattle.safl_grammar.specs.Reading.{Read, Reading, head_of, read_either}
use Rattle.safl_grammar.proofs.Sets.{subset_within, apart_within, union_first, union_second}
use Rattle.safl_grammar.proofs.Parses.{Parses, At, Next, Ends, Past, Stops, past_none}

pub at_left : {T A : Type 0} (s t : Syntax T A) (e : Rule) (u r : List T) → At s e u r → At (either s t) e u r
at_left s t Deep u r h = inl h
at_left s t Unexpected u r h = tt
at_left s t Range u r h = (inl h.0, next_left s t u r h.1)
  where
    next_left : {T A : Type 0} (s t : Syntax T A) (u r : List T) → Next s u r → Next (either s t) u r
    next_left s t u [] h = h
    next_left s t u (x ∷ r) h = inl h

pub at_right : {T A : Type 0} (s t : Syntax T A) (e : Rule) (u r : List T) → At t e u r → At (either s t) e u r
at_right s t Deep u r h = inr h
at_right s t Unexpected u r h = tt
at_right s t Range u r h = (inr h.0, next_right s t u r h.1)
  where
    next_right : {T A : Type 0} (s t : Syntax T A) (u r : List T) → Next t u r → Next (either s t) u r
    next_right s t u [] h = h
    next_right s t u (x ∷ r) h = inr h

either_done : {T A : Type 0} (g : Option T → Bool) (b : Bool) (p q : Reading T A) (s t : Syntax T A) (w r : List T) (x : A) →
    ((w r : List T) (x : A) → p w ≡ Ok (x, r) → (u : List T) × (w ≡ u ++ r) × s.derives u x) →
    ((w r : List T) (x : A) → q w ≡ Ok (x, r) → (u : List T) × (w ≡ u ++ r) × t.derives u x) → cond b (p w) (q w) ≡ Ok (x, r) → (u : List T) ×
    (w ≡ u ++ r) × (either s t).derives u x
either_done g true p q s t w r x h k e = let d = h w r x e in (d.0, d.1, inl d.2)
either_done g false p q s t w r x h k e = let d = k w r x e in (d.0, d.1, inr d.2)

either_bad : {T A : Type 0} (b : Bool) (p q : Reading T A) (s t : Syntax T A) (w r : List T) (e : Rule) →
    ((w r : List T) (e : Rule) → p w ≡ Err (e, r) → (u : List T) × (w ≡ u ++ r) × s.begins u × At s e u r) →
    ((w r : List T) (e : Rule) → q w ≡ Err (e, r) → (u : List T) × (w ≡ u ++ r) × t.begins u × At t e u r) → cond b (p w) (q w) ≡ Err (e, r) →
    (u : List T) × (w ≡ u ++ r) × (either s t).begins u × At (either s t) e u r
either_bad true p q s t w r x h k e = let d = h w r x e in (d.0, d.1, inl d.2, at_left s t x d.0 r d.3)
either_bad false p q s t w r x h k e = let d = k w r x e in (d.0, d.1, inr d.2, at_right s t x d.0 r d.3)

module _ {T A : Type 0} (code : Option T → ℕ) (g : Set) (p q : Reading T A) (s c : Syntax T A) (G1 L1 F : Set) (t d : Syntax T A) (N2 : Bool)
    (G2 L2 : Set) (first : Parses code p s c false G1 L1 F) (second : Parses code q t d N2 G2 L2 F) (in_test : subset G1 g ≡ true)
    (in_open : subset L1 g ≡ true) (others : apart (union_if N2 G2 F) g ≡ true) where
  test : Option T → Bool
  test h = within g (code h)

  goes_first : (w : List T) (P : Read T A → Type 0) → within G1 (code (head_of w)) ≡ true → P (p w) → P (read_either (λ h. within g (code h)) p q w)
  goes_first w P m h = let e = subset_within G1 g (code (head_of w)) in_test m in subst (λ (b : Bool). P (cond b (p w) (q w))) (sym e) h

  goes_open : (w : List T) (P : Read T A → Type 0) → within g (code (head_of w)) ≡ false → P (q w) → P (read_either (λ h. within g (code h)) p q w)
  goes_open w P e h = subst (λ (b : Bool). P (cond b (p w) (q w))) (sym e) h

  goes_second : (w : List T) (P : Read T A → Type 0) → within (union_if N2 G2 F) (code (head_of w)) ≡ true → P (q w) → P (read_either (λ h. within g (code h)) p q w)
  goes_second w P m h = let e = apart_within (union_if N2 G2 F) g (code (head_of w)) others m in subst (λ (b : Bool). P (cond b (p w) (q w))) (sym e) h

  in_second : (k : ℕ) → within G2 k ≡ true → within (union_if N2 G2 F) k ≡ true
  in_second k m = go N2
    where
      go : (n : Bool) → within (union_if n G2 F) k ≡ true
      go true = union_first G2 F k m
      go false = m

  in_follow : (x : A) → d.derives [] x → (k : ℕ) → within F k ≡ true → within (union_if N2 G2 F) k ≡ true
  in_follow x e k m = go N2 (second.solid)
    where
      go : (n : Bool) → (n ≡ false → (x : A) → d.derives [] x → ⊥) → within (union_if n G2 F) k ≡ true
      go true h = union_second G2 F k m
      go false h = absurd (h refl x e)

  either_ends : (u r : List T) (x : A) → (either c d).derives u x → within F (code (head_of r)) ≡ true → Ends (read_either (λ h. within g (code h)) p q (u ++ r)) x r
  either_ends [] r x (inl e) f = absurd (first.solid refl x e)
  either_ends (a ∷ u) r x (inl e) f = goes_first (a ∷ u ++ r) (λ y. Ends y x r) (first.starts a u (first.whole (a ∷ u) x e)) (first.ends (a ∷ u) r x e f)
  either_ends [] r x (inr e) f = goes_second r (λ y. Ends y x r) (in_follow x e (code (head_of r)) f) (second.ends [] r x e f)
  either_ends (a ∷ u) r x (inr e) f = goes_second (a ∷ u ++ r) (λ y. Ends y x r) (in_second (code (Some a)) (second.starts a u (second.whole (a ∷ u) x e))) (second.ends (a ∷ u) r x e f)

  none_past : (r : List T) (b : Bool) → Past (cond b (p r) (q r)) r
  none_past r true = past_none code p s c false G1 L1 F first r
  none_past r false = past_none code q t d N2 G2 L2 F second r

  either_past : (u r : List T) → (either c d).begins u → Past (read_either (λ h. within g (code h)) p q (u ++ r)) r
  either_past [] r b = none_past r (within g (code (head_of r)))
  either_past (a ∷ u) r (inl b) = goes_first (a ∷ u ++ r) (λ y. Past y r) (first.starts a u b) (first.past (a ∷ u) r b)
  either_past (a ∷ u) r (inr b) = goes_second (a ∷ u ++ r) (λ y. Past y r) (in_second (code (Some a)) (second.starts a u b)) (second.past (a ∷ u) r b)

  first_limit : (e : Rule) (u r : List T) → c.passes e u (head_of r) → Stops e (read_either (λ h. within g (code h)) p q (u ++ r)) r
  first_limit e [] r l = let k = subset_within L1 g (code (head_of r)) in_open (first.opens e (head_of r) l) in subst (λ (b : Bool). Stops e (cond b (p r) (q r)) r) (sym k) (first.limit e [] r l)
  first_limit e (a ∷ u) r l = goes_first (a ∷ u ++ r) (λ y. Stops e y r) (first.limits e a u (head_of r) l) (first.limit e (a ∷ u) r l)

  second_limit : (e : Rule) (u r : List T) → (u ≡ [] → within g (code (head_of r)) ≡ false) → d.passes e u (head_of r) → Stops e (read_either (λ h. within g (code h)) p q (u ++ r)) r
  second_limit e [] r k l = goes_open r (λ y. Stops e y r) (k refl) (second.limit e [] r l)
  second_limit e (a ∷ u) r k l = goes_second (a ∷ u ++ r) (λ y. Stops e y r) (in_second (code (Some a)) (second.limits e a u (head_of r) l)) (second.limit e (a ∷ u) r l)

  either_limit : (apart L2 g ≡ true) → (e : Rule) (u r : List T) → (either c d).passes e u (head_of r) → Stops e (read_either (λ h. within g (code h)) p q (u ++ r)) r
  either_limit away e u r (inl l) = first_limit e u r l
  either_limit away e u r (inr l) = second_limit e u r (λ i. apart_within L2 g (code (head_of r)) away (second.opens e (head_of r) (subst (λ (u : List T). d.passes e u (head_of r)) i l))) l

  unless_limit : (e : Rule) (u r : List T) → (either c (without_begin (λ h. within g (code h)) d)).passes e u (head_of r) → Stops e (read_either (λ h. within g (code h)) p q (u ++ r)) r
  unless_limit e u r (inl l) = first_limit e u r l
  unless_limit e u r (inr l) = second_limit e u r l.1 l.0

  covered_of : (u : List T) (x : A) → (either s t).derives u x → (either s t).begins u
  covered_of u x (inl e) = inl (first.covered u x e)
  covered_of u x (inr e) = inr (second.covered u x e)

  shorter_of : (u v : List T) → (either s t).begins (u ++ v) → (either s t).begins u
  shorter_of u v (inl b) = inl (first.shorter u v b)
  shorter_of u v (inr b) = inr (second.shorter u v b)

  begun_none : N2 ≡ false → (x : A) → (either s t).derives [] x → ⊥
  begun_none n x (inl e) = first.firm refl x e
  begun_none n x (inr e) = second.firm n x e

  ends_none : N2 ≡ false → (x : A) → (either c d).derives [] x → ⊥
  ends_none n x (inl e) = first.solid refl x e
  ends_none n x (inr e) = second.solid n x e

  whole_of : (u : List T) (x : A) → (either c d).derives u x → (either c d).begins u
  whole_of u x (inl e) = inl (first.whole u x e)
  whole_of u x (inr e) = inr (second.whole u x e)

  starts_of : (a : T) (u : List T) → (either c d).begins (a ∷ u) → within (union G1 G2) (code (Some a)) ≡ true
  starts_of a u (inl b) = union_first G1 G2 (code (Some a)) (first.starts a u b)
  starts_of a u (inr b) = union_second G1 G2 (code (Some a)) (second.starts a u b)

  limits_of : (e : Rule) (a : T) (u : List T) (h : Option T) → (either c d).passes e (a ∷ u) h → within (union G1 G2) (code (Some a)) ≡ true
  limits_of e a u h (inl l) = union_first G1 G2 (code (Some a)) (first.limits e a u h l)
  limits_of e a u h (inr l) = union_second G1 G2 (code (Some a)) (second.limits e a u h l)

  opens_of : (e : Rule) (h : Option T) → (either c d).passes e [] h → within (union L1 L2) (code h) ≡ true
  opens_of e h (inl l) = union_first L1 L2 (code h) (first.opens e h l)
  opens_of e h (inr l) = union_second L1 L2 (code h) (second.opens e h l)

  without : (e : Rule) (u : List T) (h : Option T) → (either c (without_begin (λ h. within g (code h)) d)).passes e u h → (either c d).passes e u h
  without e u h (inl l) = inl l
  without e u h (inr l) = inr l.0

  pub parses_either : apart L2 g ≡ true → Parses code (read_either (λ h. within g (code h)) p q) (either s t) (either c d) N2 (union G1 G2) (union L1 L2) F
  parses_either away = record {
    done = λ w r x e. either_done (λ h. within g (code h)) (within g (code (head_of w))) p q s t w r x first.done second.done e;
    bad = λ w r e h. either_bad (within g (code (head_of w))) p q s t w r e first.bad second.bad h;
    empty = inl first.empty;
    covered = covered_of;
    shorter = shorter_of;
    firm = begun_none;
    solid = ends_none;
    whole = whole_of;
    starts = starts_of;
    limits = limits_of;
    opens = opens_of;
    ends = either_ends;
    past = either_past;
    limit = either_limit away;
  }

  -- the second, where no token of the test comes first
  at_unless : (e : Rule) (u r : List T) → (u ≡ [] → within g (code (head_of r)) ≡ false) → At t e u r → At (without_begin (λ h. within g (code h)) t) e u r
  at_unless Deep u r k h = (h, k)
  at_unless Unexpected u r k h = tt
  at_unless Range u r k h = ((h.0, k), next_unless u r h.1)
    where
      next_unless : (u r : List T) → Next t u r → Next (without_begin (λ h. within g (code h)) t) u r
      next_unless u [] h = h
      next_unless u (a ∷ r) h = h

  unless_bad : (b : Bool) (w r : List T) (e : Rule) → within g (code (head_of w)) ≡ b → cond b (p w) (q w) ≡ Err (e, r) → (u : List T) × (w ≡ u ++ r)
      × (either s (without_begin (λ h. within g (code h)) t)).begins u × At (either s (without_begin (λ h. within g (code h)) t)) e u r
  unless_bad true w r x b e = let d = first.bad w r x e in (d.0, d.1, inl d.2, at_left s (without_begin (λ h. within g (code h)) t) x d.0 r d.3)
  unless_bad false w r x b e =
      let d = second.bad w r x e in (
        d.0,
        d.1,
        inr d.2,
        at_right s (without_begin (λ h. within g (code h)) t) x d.0 r
            (at_unless x d.0 r (λ i. subst (λ (l : List T). within g (code (head_of l)) ≡ false) (d.1 ∙ ap (λ (u : List T). u ++ r) i) b) d.3),
      )

  pub parses_either_unless : Parses code (read_either (λ h. within g (code h)) p q) (either s (without_begin (λ h. within g (code h)) t))
      (either c (without_begin (λ h. within g (code h)) d)) N2 (union G1 G2) (union L1 L2) F
  parses_either_unless = record {
    done = λ w r x e. either_done (λ h. within g (code h)) (within g (code (head_of w))) p q s t w r x first.done second.done e;
    bad = λ w r e h. unless_bad (within g (code (head_of w))) w r e refl h;
    empty = inl first.empty;
    covered = covered_of;
    shorter = shorter_of;
    firm = begun_none;
    solid = ends_none;
    whole = whole_of;
    starts = starts_of;
    limits = λ e a u h l. limits_of e a u h (without e (a ∷ u) h l);
    opens = λ e h l. opens_of e h (without e [] h l);
    ends = either_ends;
    past = either_past;
    limit = unless_limit;
  }
