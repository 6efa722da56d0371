-- A fact of all values that a reading gives, from a fact of all tokens.
use Rattle.std.proofs.Common.{◌≡◌, ℕ, zero, suc, Bool, true, false, cond, List, [], ◌∷◌, length, Option, Some, Ok, Err, refl, subst}
use Rattle.safl_grammar.specs.Syntax.{Rule}
use Rattle.safl_grammar.specs.Reading.{Reading, ◌>>=◌, head_of, read_nothing, read_token, read_limited, checked, read_follows, read_either, read_turns, read_many, read_below}
use Rattle.safl_grammar.proofs.Parses.{ok_parts, bind_ok, taken_ok, value}

abbrev pub Each : {T : Type 0} → (T → Type 0) → List T → Type 0
Each Q [] = Unit {0}
Each Q (t ∷ ts) = Q t × Each Q ts

-- where each token has the one fact, what is read has the other, and each token that is left still has its own
pub record Yields {T A : Type 0} (Q : T → Type 0) (p : Reading T A) (P : A → Type 0) : Type 0 where
  pub gives : (w r : List T) (x : A) → Each Q w → p w ≡ Ok (x, r) → P x × Each Q r

pub yields_nothing : {T A : Type 0} {Q : T → Type 0} (P : A → Type 0) (x : A) → P x → Yields Q (read_nothing x) P
yields_nothing {Q = Q} P x h = record { gives = λ w r y q e. let p = ok_parts x y w r e in (subst P p.0 h, subst (Each Q) p.1 q) }

pub yields_below : {T A : Type 0} {Q : T → Type 0} (P : A → Type 0) → Yields {T = T} {A = A} Q read_below P
yields_below P = record { gives = λ w r y q e. absurd cc }

pub yields_token : {T A : Type 0} {Q : T → Type 0} (P : A → Type 0) (class : T → Option A) → ((t : T) (x : A) → Q t → class t ≡ Some x → P x) → Yields Q (read_token class) P
yields_token {T} {A} {Q} P class f = record { gives = go }
  where
    go : (w r : List T) (x : A) → Each Q w → read_token class w ≡ Ok (x, r) → P x × Each Q r
    go [] r x q e = absurd cc
    go (t ∷ ts) r x q e = let p = taken_ok (class t) ts (t ∷ ts) r x e in (f t x q.0 p.0, subst (Each Q) p.1 q.1)

checked_fits : {T A : Type 0} (rule : Rule) (b : Bool) (all : List T) (x : A × List T) (y : A) (r : List T) → cond b (Ok x) (Err (rule, all)) ≡ value y r → (b ≡ true) × (x.0 ≡ y) × (x.1 ≡ r)
checked_fits rule true all x y r e = let p = ok_parts x.0 y x.1 r e in (refl, p.0, p.1)
checked_fits rule false all x y r e = absurd cc

pub yields_limited : {T A : Type 0} {Q : T → Type 0} (P : A → Type 0) (rule : Rule) (fits : A → Bool) (class : T → Option A) →
    ((t : T) (x : A) → Q t → class t ≡ Some x → fits x ≡ true → P x) → Yields Q (read_limited rule fits class) P
yields_limited {T} {A} {Q} P rule fits class f = record {
  gives = λ w r x q e.
      let b = bind_ok (read_token class w) (checked rule fits w) (x, r) e in
      let k = checked_fits rule (fits b.0.0) w b.0 x r b.2 in
      let h = (yields_token (λ (y : A). fits y ≡ true → P y) class (λ t y s c i. f t y s c i)).gives w b.0.1 b.0.0 q b.1 in
      (subst P k.1 (h.0 k.0), subst (Each Q) k.2 h.1);
}

pub yields_follows : {T A B : Type 0} {Q : T → Type 0} {p : Reading T A} {q : A → Reading T B} {P : A → Type 0} (R : B → Type 0) → Yields Q p P →
    ((x : A) → P x → Yields Q (q x) R) → Yields Q (read_follows p q) R
yields_follows {p = p} {q = q} R h k = record {
  gives = λ w r x s e.
      let b = bind_ok (p w) (λ y. q y.0 y.1) (x, r) e in
      let n = h.gives w b.0.1 b.0.0 s b.1 in
      (k b.0.0 n.0).gives b.0.1 r x n.1 b.2;
}

either_gives : {T A : Type 0} {Q : T → Type 0} {p q : Reading T A} {P : A → Type 0} → Yields Q p P → Yields Q q P → (b : Bool) (w r : List T) (x : A)
    → Each Q w → cond b (p w) (q w) ≡ Ok (x, r) → P x × Each Q r
either_gives h k true w r x s e = h.gives w r x s e
either_gives h k false w r x s e = k.gives w r x s e

pub yields_either : {T A : Type 0} {Q : T → Type 0} (g : Option T → Bool) {p q : Reading T A} {P : A → Type 0} → Yields Q p P → Yields Q q P → Yields Q (read_either g p q) P
yields_either g h k = record { gives = λ w r x s e. either_gives h k (g (head_of w)) w r x s e }

turns_give : {T A : Type 0} {Q : T → Type 0} (g : Option T → Bool) (go : A → Reading T A) (P : A → Type 0) → ((a : A) → P a → Yields Q (go a) P) →
    (k : ℕ) (a : A) → P a → (w r : List T) (x : A) → Each Q w → read_turns k g go a w ≡ Ok (x, r) → P x × Each Q r
turns_give {Q = Q} g go P h zero a p w r x s e = let i = ok_parts a x w r e in (subst P i.0 p, subst (Each Q) i.1 s)
turns_give {T} {A} {Q} g go P h (suc k) a p w r x s e = turn (g (head_of w)) (λ y i j d. turns_give g go P h k y.0 i y.1 r x j d) e
  where
    turn : (b : Bool) → ((y : A × List T) → P y.0 → Each Q y.1 → read_turns k g go y.0 y.1 ≡ Ok (x, r) → P x × Each Q r) → cond b
        (go a w >>= λ y. read_turns k g go y.0 y.1) (Ok (a, w)) ≡ Ok (x, r) → P x × Each Q r
    turn true f e =
        let b = bind_ok (go a w) (λ y. read_turns k g go y.0 y.1) (x, r) e in
        let n = (h a p).gives w b.0.1 b.0.0 s b.1 in
        f b.0 n.0 n.1 b.2
    turn false f e = let i = ok_parts a x w r e in (subst P i.0 p, subst (Each Q) i.1 s)

pub yields_many : {T A : Type 0} {Q : T → Type 0} (g : Option T → Bool) (go : A → Reading T A) (P : A → Type 0) → ((a : A) → P a → Yields Q (go a) P) → (a : A) → P a → Yields Q (read_many g go a) P
unfolding read_many
yields_many g go P h a p = record { gives = λ w r x s e. turns_give g go P h (suc (length w)) a p w r x s e }
