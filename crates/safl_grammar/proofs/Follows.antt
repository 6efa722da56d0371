-- One after the other.
use Rattle.std.proofs.Common.{◌≡◌, ℕ, ◌≤◌, Bool, true, false, cond, List, [], ◌∷◌, ◌++◌, length, Option, Some, None, Ok, Err, refl, sym, ap, subst, ◌∙◌, inl, inr, append_assoc, length-append, arith}
use Rattle.safl_grammar.specs.Sets.{Set, within, subset, union_if}
use Rattle.safl_grammar.specs.Syntax.{Rule, Deep, Unexpected, Range, Syntax, follows}
use Rattle.safl_grammar.specs.Reading.{Read, Reading, ◌>>=◌, head_of, read_follows}
use Rattle.safl_grammar.proofs.Sets.{subset_within, if_first, if_second}
use Rattle.safl_grammar.proofs.Parses.{Parses, At, Next, IsLimit, Ends, NotBefore, Past, Stops, bind_ok, bind_err, lead, left, shrinks, past_left, cuts}

pub at_first : {T A B : Type 0} (s : Syntax T A) (f : A → Syntax T B) (e : Rule) (u r : List T) → At s e u r → At (follows s f) e u r
at_first s f Deep u r h = inl h
at_first s f Unexpected u r h = tt
at_first s f Range u r h = (inl h.0, next_first s f u r h.1)
  where
    next_first : {T A B : Type 0} (s : Syntax T A) (f : A → Syntax T B) (u r : List T) → Next s u r → Next (follows s f) u r
    next_first s f u [] h = h
    next_first s f u (t ∷ r) h = inl h

pub at_second : {T A B : Type 0} (s : Syntax T A) (f : A → Syntax T B) (x : A) (e : Rule) (u v r : List T) → s.derives u x → At (f x) e v r → At (follows s f) e (u ++ v) r
at_second s f x Deep u v r d h = inr (u, v, x, refl, d, h)
at_second s f x Unexpected u v r d h = tt
at_second s f x Range u v r d h = (inr (u, v, x, refl, d, h.0), next_second s f x u v r d h.1)
  where
    next_second : {T A B : Type 0} (s : Syntax T A) (f : A → Syntax T B) (x : A) (u v r : List T) → s.derives u x → Next (f x) v r → Next (follows s f) (u ++ v) r
    next_second s f x u v [] d h = h
    next_second s f x u v (t ∷ r) d h = inr (u, v ++ t ∷ [], x, append_assoc u v (t ∷ []), d, h)

ends_then : {T A B : Type 0} (y : Read T A) (q : A × List T → Read T B) (x : A) (v r : List T) (z : B) → length r ≤ length v → Ends y x v → Ends (q (x, v)) z r → Ends (y >>= q) z r
ends_then (Ok y) q x v r z le e h = subst (λ (y : _ × List _). Ends (q y) z r) (sym (ap (λ a. (a, y.1)) e.0 ∙ ap (λ l. (x, l)) e.1)) h
ends_then (Err f) q x v r z le e h = (e.0, omega (arith, e.1))

past_then : {T A B : Type 0} (y : Read T A) (q : A × List T → Read T B) (r : List T) → ((x : A × List T) → length (left (q x)) ≤ length x.1) → Past y r → Past (y >>= q) r
past_then (Ok y) q r small h = past_left (q y) r (omega (arith, small y, h))
past_then (Err f) q r small h = h

past_after : {T A B : Type 0} (y : Read T A) (q : A × List T → Read T B) (x : A) (v r : List T) → Ends y x v → Past (q (x, v)) r → Past (y >>= q) r
past_after (Ok y) q x v r e h = subst (λ (y : _ × List _). Past (q y) r) (sym (ap (λ a. (a, y.1)) e.0 ∙ ap (λ l. (x, l)) e.1)) h
past_after (Err f) q x v r e h = limit_past f.0 f.1 r e.0
  where
    limit_past : {T : Type 0} (e : Rule) (r' r : List T) → IsLimit e → NotBefore e r' r
    limit_past Unexpected r' r h = absurd h
    limit_past Deep r' r h = tt
    limit_past Range r' r h = tt

stops_then : {T A B : Type 0} (y : Read T A) (q : A × List T → Read T B) (e : Rule) (r : List T) → Stops e y r → Stops e (y >>= q) r
stops_then (Ok y) q e r h = absurd h
stops_then (Err f) q e r h = h

stops_after : {T A B : Type 0} (y : Read T A) (q : A × List T → Read T B) (e : Rule) (x : A) (v r : List T) → length r ≤ length v → Ends y x v → Stops e (q (x, v)) r → Stops e (y >>= q) r
stops_after (Ok y) q e x v r le h s = subst (λ (y : _ × List _). Stops e (q y) r) (sym (ap (λ a. (a, y.1)) h.0 ∙ ap (λ l. (x, l)) h.1)) s
stops_after (Err f) q e x v r le h s = inl (omega (arith, h.1))

empty_both : {T A B : Type 0} (s : Syntax T A) (f : A → Syntax T B) (n1 n2 : Bool) → cond n1 n2 false ≡ false →
    (n1 ≡ false → (x : A) → s.derives [] x → ⊥) → (n2 ≡ false → (x : A) (z : B) → (f x).derives [] z → ⊥) → (z : B) → (follows s f).derives [] z → ⊥
empty_both {T} {A} s f n1 n2 n h1 h2 z (u, v, x, e, d1, d2) = split n1 n2 n h1 (h2x) u v e d1 d2
  where
    h2x : n2 ≡ false → (f x).derives [] z → ⊥
    h2x m d = h2 m x z d

    split : (n1 n2 : Bool) → cond n1 n2 false ≡ false → (n1 ≡ false → (x : A) → s.derives [] x → ⊥) → (n2 ≡ false → (f x).derives [] z → ⊥) →
        (u v : List T) → [] ≡ u ++ v → s.derives u x → (f x).derives v z → ⊥
    split true n2 n h1 h2 [] [] e d1 d2 = h2 n d2
    split false n2 n h1 h2 [] [] e d1 d2 = h1 refl x d1
    split n1 n2 n h1 h2 [] (t ∷ v) e d1 d2 = absurd cc
    split n1 n2 n h1 h2 (t ∷ u) v e d1 d2 = absurd cc

module _ {T A B : Type 0} (code : Option T → ℕ) (p : Reading T A) (s c : Syntax T A) (N1 : Bool) (G1 L1 F1 : Set) (q : A → Reading T B)
    (f g : A → Syntax T B) (N2 : Bool) (G2 L2 F : Set) (first : Parses code p s c N1 G1 L1 F1)
    (second : (x : A) → Parses code (q x) (f x) (g x) N2 G2 L2 F) (in_follow : subset (union_if N2 G2 F) F1 ≡ true) (in_open : subset L2 F1 ≡ true) where
  follow_here : (x : A) (z : B) (v r : List T) → (g x).derives v z → within F (code (head_of r)) ≡ true → within F1 (code (head_of (v ++ r))) ≡ true
  follow_here x z [] r d h = subset_within (union_if N2 G2 F) F1 (code (head_of r)) in_follow (if_second N2 G2 F (code (head_of r)) (can_end N2 ((second x).solid)) h)
    where
      can_end : (n : Bool) → (n ≡ false → (z : B) → (g x).derives [] z → ⊥) → n ≡ true
      can_end true h = refl
      can_end false h = absurd (h refl z d)
  follow_here x z (t ∷ v) r d h = subset_within (union_if N2 G2 F) F1 (code (Some t)) in_follow (if_first N2 G2 F (code (Some t)) ((second x).starts t v ((second x).whole (t ∷ v) z d)))

  follow_limit : (x : A) (e : Rule) (v r : List T) → (g x).passes e v (head_of r) → within F1 (code (head_of (v ++ r))) ≡ true
  follow_limit x e [] r l = subset_within L2 F1 (code (head_of r)) in_open ((second x).opens e (head_of r) l)
  follow_limit x e (t ∷ v) r l = subset_within (union_if N2 G2 F) F1 (code (Some t)) in_follow (if_first N2 G2 F (code (Some t)) ((second x).limits e t v (head_of r) l))

  grouped : (u v r : List T) (P : Read T B → Type 0) → P (read_follows p q (u ++ (v ++ r))) → P (read_follows p q ((u ++ v) ++ r))
  grouped u v r P h = subst (λ (l : List T). P (read_follows p q l)) (sym (append_assoc u v r)) h

  small : (x : A × List T) → length (left (q x.0 x.1)) ≤ length x.1
  small x = shrinks code (q x.0) (f x.0) (g x.0) N2 G2 L2 F (second x.0) x.1 (q x.0 x.1) refl

  after : (A × List T → Read T B)
  after y = q y.0 y.1

  then_done : (w r : List T) (z : B) → read_follows p q w ≡ Ok (z, r) → (u : List T) × (w ≡ u ++ r) × (follows s f).derives u z
  then_done w r z e =
      let b = bind_ok (p w) (λ y. q y.0 y.1) (z, r) e in
      let d1 = first.done w b.0.1 b.0.0 b.1 in
      let d2 = (second b.0.0).done b.0.1 r z b.2 in
      (d1.0 ++ d2.0, d1.1 ∙ ap (λ (l : List T). d1.0 ++ l) d2.1 ∙ sym (append_assoc d1.0 d2.0 r), (d1.0, d2.0, b.0.0, refl, d1.2, d2.2))

  then_bad : (w r : List T) (e : Rule) → read_follows p q w ≡ Err (e, r) → (u : List T) × (w ≡ u ++ r) × (follows s f).begins u × At (follows s f) e u r
  then_bad w r e h =
      elim (bind_err (p w) (λ y. q y.0 y.1) (e, r) h) [
        | inl b ↦ let d = first.bad w r e b in (d.0, d.1, inl d.2, at_first s f e d.0 r d.3)
        | inr b ↦
            let d1 = first.done w b.0.1 b.0.0 b.1 in
            let d2 = (second b.0.0).bad b.0.1 r e b.2 in
            (d1.0 ++ d2.0, d1.1 ∙ ap (λ (l : List T). d1.0 ++ l) d2.1 ∙ sym (append_assoc d1.0 d2.0 r), inr (d1.0, d2.0, b.0.0, refl, d1.2, d2.2), at_second s f b.0.0 e d1.0 d2.0 r d1.2 d2.3)
      ]

  then_ends : (w r : List T) (z : B) → (follows c g).derives w z → within F (code (head_of r)) ≡ true → Ends (read_follows p q (w ++ r)) z r
  then_ends w r z (u, v, x, e, d1, d2) h =
      let one = first.ends u (v ++ r) x d1 (follow_here x z v r d2 h) in
      let two = ends_then (p (u ++ (v ++ r))) (λ y. q y.0 y.1) x (v ++ r) r z (omega (arith, length-append v r)) one ((second x).ends v r z d2 h) in
      subst (λ (w : List T). Ends (read_follows p q (w ++ r)) z r) (sym e) (grouped u v r (λ y. Ends y z r) two)

  past_second : (u v r : List T) (x : A) → c.derives u x → (g x).begins v → Past (read_follows p q ((u ++ v) ++ r)) r
  past_second u [] r x d b =
      grouped u [] r (λ y. Past y r) (past_then (p (u ++ r)) (λ y. q y.0 y.1) r small (first.past u r (first.whole u x d)))
  past_second u (t ∷ v) r x d b =
      let here = subset_within (union_if N2 G2 F) F1 (code (Some t)) in_follow (if_first N2 G2 F (code (Some t)) ((second x).starts t v b)) in
      grouped u (t ∷ v) r (λ y. Past y r) (past_after (p (u ++ (t ∷ v ++ r))) (λ y. q y.0 y.1) x (t ∷ v ++ r) r (first.ends u (t ∷ v ++ r) x d here) ((second x).past (t ∷ v) r b))

  then_past : (w r : List T) → (follows c g).begins w → Past (read_follows p q (w ++ r)) r
  then_past w r (inl b) = past_then (p (w ++ r)) (λ y. q y.0 y.1) r small (first.past w r b)
  then_past w r (inr (u, v, x, e, d, b)) = subst (λ (w : List T). Past (read_follows p q (w ++ r)) r) (sym e) (past_second u v r x d b)

  then_limit : (e : Rule) (w r : List T) → (follows c g).passes e w (head_of r) → Stops e (read_follows p q (w ++ r)) r
  then_limit e w r (inl l) = stops_then (p (w ++ r)) (λ y. q y.0 y.1) e r (first.limit e w r l)
  then_limit e w r (inr (u, v, x, i, d, l)) =
      let one = first.ends u (v ++ r) x d (follow_limit x e v r l) in
      subst (λ (w : List T). Stops e (read_follows p q (w ++ r)) r) (sym i)
      (grouped u v r (λ y. Stops e y r) (stops_after (p (u ++ (v ++ r))) (λ y. q y.0 y.1) e x (v ++ r) r (omega (arith, length-append v r)) one
      ((second x).limit e v r l)))

  -- where the first has no token, the second one's begin the whole
  lead_second : (x : A) (u v : List T) (h : Option T) → c.derives u x → within G2 (code (lead v h)) ≡ true → within (union_if N1 G1 G2) (code (lead (u ++ v) h)) ≡ true
  lead_second x [] v h d m = if_second N1 G1 G2 (code (lead v h)) (can_end N1 (first.solid)) m
    where
      can_end : (n : Bool) → (n ≡ false → (z : A) → c.derives [] z → ⊥) → n ≡ true
      can_end true h = refl
      can_end false h = absurd (h refl x d)
  lead_second x (t ∷ u) v h d m = if_first N1 G1 G2 (code (Some t)) (first.starts t u (first.whole (t ∷ u) x d))

  then_starts : (t : T) (v : List T) → (follows c g).begins (t ∷ v) → within (union_if N1 G1 G2) (code (Some t)) ≡ true
  then_starts t w (inl b) = if_first N1 G1 G2 (code (Some t)) (first.starts t w b)
  then_starts t w (inr (u, v, x, e, d, b)) = split u v e d b
    where
      split : (u v : List T) → t ∷ w ≡ u ++ v → c.derives u x → (g x).begins v → within (union_if N1 G1 G2) (code (Some t)) ≡ true
      split u [] e d b = subst (λ (l : List T). within (union_if N1 G1 G2) (code (lead l None)) ≡ true) (sym (e ∙ end u)) (at_front u e d)
        where
          end : (u : List T) → u ++ [] ≡ u
          end [] = refl
          end (t ∷ u) = ap (λ (l : List T). t ∷ l) (end u)

          at_front : (u : List T) → t ∷ w ≡ u ++ [] → c.derives u x → within (union_if N1 G1 G2) (code (lead u None)) ≡ true
          at_front [] e d = absurd cc
          at_front (t' ∷ u) e d = if_first N1 G1 G2 (code (Some t')) (first.starts t' u (first.whole (t' ∷ u) x d))
      split u (t' ∷ v) e d b = subst (λ (l : List T). within (union_if N1 G1 G2) (code (lead l None)) ≡ true) (sym e) (lead_second x u (t' ∷ v) None d ((second x).starts t' v b))

  then_limits : (e : Rule) (t : T) (w : List T) (h : Option T) → (follows c g).passes e (t ∷ w) h → within (union_if N1 G1 G2) (code (Some t)) ≡ true
  then_limits e t w h (inl l) = if_first N1 G1 G2 (code (Some t)) (first.limits e t w h l)
  then_limits e t w h (inr (u, v, x, i, d, l)) = split u v i d l
    where
      split : (u v : List T) → t ∷ w ≡ u ++ v → c.derives u x → (g x).passes e v h → within (union_if N1 G1 G2) (code (Some t)) ≡ true
      split [] [] i d l = absurd cc
      split [] (t' ∷ v) i d l = subst (λ (l : List T). within (union_if N1 G1 G2) (code (lead l None)) ≡ true) (sym i) (lead_second x [] (t' ∷ v) None d ((second x).limits e t' v h l))
      split (t' ∷ u) v i d l = subst (λ (l : List T). within (union_if N1 G1 G2) (code (lead l None)) ≡ true) (sym i)
          (if_first N1 G1 G2 (code (Some t')) (first.starts t' u (first.whole (t' ∷ u) x d)))

  then_opens : (e : Rule) (h : Option T) → (follows c g).passes e [] h → within (union_if N1 L1 L2) (code h) ≡ true
  then_opens e h (inl l) = if_first N1 L1 L2 (code h) (first.opens e h l)
  then_opens e h (inr (u, v, x, i, d, l)) = split u v i d l
    where
      can_end : (n : Bool) → (n ≡ false → (z : A) → c.derives [] z → ⊥) → c.derives [] x → n ≡ true
      can_end true f d = refl
      can_end false f d = absurd (f refl x d)

      split : (u v : List T) → [] ≡ u ++ v → c.derives u x → (g x).passes e v h → within (union_if N1 L1 L2) (code h) ≡ true
      split [] [] i d l = if_second N1 L1 L2 (code h) (can_end N1 first.solid d) ((second x).opens e h l)
      split [] (t' ∷ v) i d l = absurd cc
      split (t' ∷ u) v i d l = absurd cc

  then_shorter : (w r : List T) → (follows s f).begins (w ++ r) → (follows s f).begins w
  then_shorter w r (inl b) = inl (first.shorter w r b)
  then_shorter w r (inr (u, v, x, e, d, b)) =
      elim (cuts w r u v e) [
        | inl k ↦ inl (first.shorter w k.0 (subst (λ (l : List T). s.begins l) k.1 (first.covered u x d)))
        | inr k ↦ inr (u, k.0, x, k.1, d, (second x).shorter k.0 r (subst (λ (l : List T). (f x).begins l) k.2 b))
      ]

  pub parses_follows : Parses code (read_follows p q) (follows s f) (follows c g) (cond N1 N2 false) (union_if N1 G1 G2) (union_if N1 L1 L2) F
  parses_follows = record {
    done = λ w r z e. then_done w r z e;
    bad = λ w r e h. then_bad w r e h;
    empty = inl first.empty;
    covered = λ w z d. inr (d.0, d.1, d.2, d.3, d.4, (second d.2).covered d.1 z d.5);
    shorter = then_shorter;
    firm = λ n z d. empty_both s f N1 N2 n first.firm (λ m x. (second x).firm m) z d;
    solid = λ n z d. empty_both c g N1 N2 n first.solid (λ m x. (second x).solid m) z d;
    whole = λ w z d. inr (d.0, d.1, d.2, d.3, d.4, (second d.2).whole d.1 z d.5);
    starts = λ t v b. then_starts t v b;
    limits = λ e t w h l. then_limits e t w h l;
    opens = λ e h l. then_opens e h l;
    ends = λ w r z d h. then_ends w r z d h;
    past = λ w r b. then_past w r b;
    limit = λ e w r l. then_limit e w r l;
  }
