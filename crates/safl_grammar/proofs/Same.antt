-- Two syntaxes that say the same.
use Rattle.std.proofs.Common.{ℕ, Bool, List, [], ◌∷◌, ◌++◌, Option, Some, inl, inr}
use Rattle.std.specs.Prelude.{◌⊎◌, ◌↔◌}
use Rattle.safl_grammar.specs.Sets.{Set}
use Rattle.safl_grammar.specs.Syntax.{Rule, Deep, Unexpected, Range, Syntax, follows, either}
use Rattle.safl_grammar.specs.Reading.{Reading, head_of}
use Rattle.safl_grammar.proofs.Parses.{Parses, At}

pub record Same {T A : Type 0} (s t : Syntax T A) : Type 0 where
  pub derives : (w : List T) (x : A) → s.derives w x ↔ t.derives w x
  pub begins : (w : List T) → s.begins w ↔ t.begins w
  pub passes : (e : Rule) (w : List T) (h : Option T) → s.passes e w h ↔ t.passes e w h

pub same : {T A : Type 0} (s : Syntax T A) → Same s s
same s = record { derives = λ w x. (λ d. d, λ d. d); begins = λ w. (λ d. d, λ d. d); passes = λ e w h. (λ d. d, λ d. d) }

same_at : {T A : Type 0} (s t : Syntax T A) → Same s t → (e : Rule) (u r : List T) → At s e u r → At t e u r
same_at s t m Deep u r h = (m.passes Deep u (head_of r)).0 h
same_at s t m Unexpected u r h = tt
same_at s t m Range u [] h = absurd h.1
same_at s t m Range u (a ∷ r) h = ((m.passes Range u (Some a)).0 h.0, (m.begins (u ++ a ∷ [])).0 h.1)

-- a reading of the one is a reading of the other
pub parses_same : {T A : Type 0} {code : Option T → ℕ} {p : Reading T A} {s c : Syntax T A} {N : Bool} {G L F : Set} (s' c' : Syntax T A) → Parses
    code p s c N G L F → Same s s' → Same c c' → Parses code p s' c' N G L F
parses_same {s = s} {c = c} s' c' h m n = record {
  done = λ w r x e. let d = h.done w r x e in (d.0, d.1, (m.derives d.0 x).0 d.2);
  bad = λ w r e i. let d = h.bad w r e i in (d.0, d.1, (m.begins d.0).0 d.2, same_at s s' m e d.0 r d.3);
  empty = (m.begins []).0 h.empty;
  covered = λ u x d. (m.begins u).0 (h.covered u x ((m.derives u x).1 d));
  shorter = λ u v b. (m.begins u).0 (h.shorter u v ((m.begins (u ++ v)).1 b));
  firm = λ i x d. h.firm i x ((m.derives [] x).1 d);
  solid = λ i x d. h.solid i x ((n.derives [] x).1 d);
  whole = λ u x d. (n.begins u).0 (h.whole u x ((n.derives u x).1 d));
  starts = λ t v b. h.starts t v ((n.begins (t ∷ v)).1 b);
  limits = λ e t u o l. h.limits e t u o ((n.passes e (t ∷ u) o).1 l);
  opens = λ e o l. h.opens e o ((n.passes e [] o).1 l);
  ends = λ u r x d i. h.ends u r x ((n.derives u x).1 d) i;
  past = λ u r b. h.past u r ((n.begins u).1 b);
  limit = λ e u r l. h.limit e u r ((n.passes e u (head_of r)).1 l);
}

either_same : {A B A' B' : Type 0} → A ↔ A' → B ↔ B' → (A ⊎ B) ↔ (A' ⊎ B')
either_same {A} {B} {A'} {B'} f g = (there, back)
  where
    there : A ⊎ B → A' ⊎ B'
    there (inl a) = inl (f.0 a)
    there (inr b) = inr (g.0 b)

    back : A' ⊎ B' → A ⊎ B
    back (inl a) = inl (f.1 a)
    back (inr b) = inr (g.1 b)

pub same_either : {T A : Type 0} {s s' t t' : Syntax T A} → Same s s' → Same t t' → Same (either s t) (either s' t')
same_either m n = record {
  derives = λ w x. either_same (m.derives w x) (n.derives w x);
  begins = λ w. either_same (m.begins w) (n.begins w);
  passes = λ e w h. either_same (m.passes e w h) (n.passes e w h);
}

-- two productions that begin alike
module _ {T A B : Type 0} (s : Syntax T A) (f g : A → Syntax T B) where
  pub same_factored : Same (follows s (λ x. either (f x) (g x))) (either (follows s f) (follows s g))
  same_factored = record { derives = λ w z. (apart_derives w z, one_derives w z); begins = λ w. (apart_begins w, one_begins w); passes = λ e w h. (apart_passes e w h, one_passes e w h) }
    where
      apart_derives : (w : List T) (z : B) → (follows s (λ x. either (f x) (g x))).derives w z → (either (follows s f) (follows s g)).derives w z
      apart_derives w z (u, v, x, e, d, inl k) = inl (u, v, x, e, d, k)
      apart_derives w z (u, v, x, e, d, inr k) = inr (u, v, x, e, d, k)

      one_derives : (w : List T) (z : B) → (either (follows s f) (follows s g)).derives w z → (follows s (λ x. either (f x) (g x))).derives w z
      one_derives w z (inl (u, v, x, e, d, k)) = (u, v, x, e, d, inl k)
      one_derives w z (inr (u, v, x, e, d, k)) = (u, v, x, e, d, inr k)

      apart_begins : (w : List T) → (follows s (λ x. either (f x) (g x))).begins w → (either (follows s f) (follows s g)).begins w
      apart_begins w (inl b) = inl (inl b)
      apart_begins w (inr (u, v, x, e, d, inl k)) = inl (inr (u, v, x, e, d, k))
      apart_begins w (inr (u, v, x, e, d, inr k)) = inr (inr (u, v, x, e, d, k))

      one_begins : (w : List T) → (either (follows s f) (follows s g)).begins w → (follows s (λ x. either (f x) (g x))).begins w
      one_begins w (inl (inl b)) = inl b
      one_begins w (inr (inl b)) = inl b
      one_begins w (inl (inr (u, v, x, e, d, k))) = inr (u, v, x, e, d, inl k)
      one_begins w (inr (inr (u, v, x, e, d, k))) = inr (u, v, x, e, d, inr k)

      apart_passes : (r : Rule) (w : List T) (h : Option T) → (follows s (λ x. either (f x) (g x))).passes r w h → (either (follows s f) (follows s g)).passes r w h
      apart_passes r w h (inl b) = inl (inl b)
      apart_passes r w h (inr (u, v, x, e, d, inl k)) = inl (inr (u, v, x, e, d, k))
      apart_passes r w h (inr (u, v, x, e, d, inr k)) = inr (inr (u, v, x, e, d, k))

      one_passes : (r : Rule) (w : List T) (h : Option T) → (either (follows s f) (follows s g)).passes r w h → (follows s (λ x. either (f x) (g x))).passes r w h
      one_passes r w h (inl (inl b)) = inl b
      one_passes r w h (inr (inl b)) = inl b
      one_passes r w h (inl (inr (u, v, x, e, d, k))) = inr (u, v, x, e, d, inl k)
      one_passes r w h (inr (inr (u, v, x, e, d, k))) = inr (u, v, x, e, d, inr k)

pub same_then : {T A : Type 0} {s t u : Syntax T A} → Same s t → Same t u → Same s u
same_then m n = record {
  derives = λ w x. (λ d. (n.derives w x).0 ((m.derives w x).0 d), λ d. (m.derives w x).1 ((n.derives w x).1 d));
  begins = λ w. (λ d. (n.begins w).0 ((m.begins w).0 d), λ d. (m.begins w).1 ((n.begins w).1 d));
  passes = λ e w h. (λ d. (n.passes e w h).0 ((m.passes e w h).0 d), λ d. (m.passes e w h).1 ((n.passes e w h).1 d));
}
