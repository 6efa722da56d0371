-- A reading leaves no more than it was given.
use Rattle.std.proofs.Common.{◌≡◌, ℕ, zero, suc, ◌≤◌, ◌<◌, Bool, true, false, cond, List, [], ◌∷◌, ◌++◌, length, Option, Ok, Err, refl, ap, length-append, arith}
use Rattle.safl_grammar.specs.Sets.{Set}
use Rattle.safl_grammar.specs.Syntax.{Rule, Syntax}
use Rattle.safl_grammar.specs.Reading.{Reading, ◌>>=◌, head_of, read_nothing, read_token, read_limited, checked, read_follows, read_either, read_turns, read_many}
use Rattle.safl_grammar.proofs.Parses.{Parses, ok_parts, bind_ok, taken_ok, value}

pub record Small {T A : Type 0} (p : Reading T A) : Type 0 where
  pub left : (w r : List T) (x : A) → p w ≡ Ok (x, r) → length r ≤ length w

pub record Eats {T A : Type 0} (p : Reading T A) : Type 0 where
  pub left : (w r : List T) (x : A) → p w ≡ Ok (x, r) → length r < length w

pub small : {T A : Type 0} {p : Reading T A} → Eats p → Small p
small h = record { left = λ w r x e. let k = h.left w r x e in omega arith }

pub small_nothing : {T A : Type 0} (x : A) → Small (read_nothing {T = T} x)
small_nothing x = record { left = λ w r y e. let p = ok_parts x y w r e in omega (arith, ap length p.1) }

pub eats_token : {T A : Type 0} (class : T → Option A) → Eats (read_token class)
eats_token {T} {A} class = record { left = go }
  where
    go : (w r : List T) (x : A) → read_token class w ≡ Ok (x, r) → length r < length w
    go [] r x e = absurd cc
    go (t ∷ ts) r x e = let p = taken_ok (class t) ts (t ∷ ts) r x e in omega (arith, ap length p.1)

checked_is : {T A : Type 0} (rule : Rule) (b : Bool) (all : List T) (x : A × List T) (y : A) (r : List T) → cond b (Ok x) (Err (rule, all)) ≡ value y r → x.1 ≡ r
checked_is rule true all x y r e = (ok_parts x.0 y x.1 r e).1
checked_is rule false all x y r e = absurd cc

pub eats_limited : {T A : Type 0} (rule : Rule) (fits : A → Bool) (class : T → Option A) → Eats (read_limited rule fits class)
eats_limited {T} {A} rule fits class = record {
  left = λ w r x e.
      let b = bind_ok (read_token class w) (checked rule fits w) (x, r) e in
      let k = checked_is rule (fits b.0.0) w b.0 x r b.2 in
      let n = (eats_token class).left w b.0.1 b.0.0 b.1 in
      omega (arith, ap length k);
}

pub small_follows : {T A B : Type 0} {p : Reading T A} {q : A → Reading T B} → Small p → ((x : A) → Small (q x)) → Small (read_follows p q)
small_follows {p = p} {q = q} h k = record {
  left = λ w r x e.
      let b = bind_ok (p w) (λ y. q y.0 y.1) (x, r) e in
      let n = h.left w b.0.1 b.0.0 b.1 in
      let m = (k b.0.0).left b.0.1 r x b.2 in
      omega arith;
}

pub eats_follows : {T A B : Type 0} {p : Reading T A} {q : A → Reading T B} → Eats p → ((x : A) → Small (q x)) → Eats (read_follows p q)
eats_follows {p = p} {q = q} h k = record {
  left = λ w r x e.
      let b = bind_ok (p w) (λ y. q y.0 y.1) (x, r) e in
      let n = h.left w b.0.1 b.0.0 b.1 in
      let m = (k b.0.0).left b.0.1 r x b.2 in
      omega arith;
}

either_left : {T A : Type 0} {p q : Reading T A} → Small p → Small q → (b : Bool) (w r : List T) (x : A) → cond b (p w) (q w) ≡ Ok (x, r) → length r ≤ length w
either_left h k true w r x e = h.left w r x e
either_left h k false w r x e = k.left w r x e

pub small_either : {T A : Type 0} (g : Option T → Bool) {p q : Reading T A} → Small p → Small q → Small (read_either g p q)
small_either g h k = record { left = λ w r x e. either_left h k (g (head_of w)) w r x e }

turns_left : {T A : Type 0} (g : Option T → Bool) (go : A → Reading T A) → ((a : A) → Small (go a)) → (k : ℕ) (a : A) (w r : List T) (x : A) → read_turns k g go a w ≡ Ok (x, r) → length r ≤ length w
turns_left g go h zero a w r x e = let p = ok_parts a x w r e in omega (arith, ap length p.1)
turns_left {T} {A} g go h (suc k) a w r x e = turn (g (head_of w)) (λ y. turns_left g go h k y.0 y.1 r x) e
  where
    turn : (b : Bool) → ((y : A × List T) → read_turns k g go y.0 y.1 ≡ Ok (x, r) → length r ≤ length y.1) → cond b
        (go a w >>= λ y. read_turns k g go y.0 y.1) (Ok (a, w)) ≡ Ok (x, r) → length r ≤ length w
    turn true f e =
        let b = bind_ok (go a w) (λ y. read_turns k g go y.0 y.1) (x, r) e in
        let n = (h a).left w b.0.1 b.0.0 b.1 in
        let m = f b.0 b.2 in
        omega arith
    turn false f e = let p = ok_parts a x w r e in omega (arith, ap length p.1)

pub small_many : {T A : Type 0} (g : Option T → Bool) (go : A → Reading T A) → ((a : A) → Small (go a)) → (a : A) → Small (read_many g go a)
unfolding read_many
small_many g go h a = record { left = λ w r x e. turns_left g go h (suc (length w)) a w r x e }

pub small_parses : {T A : Type 0} {code : Option T → ℕ} {p : Reading T A} {s c : Syntax T A} {N : Bool} {G L F : Set} → Parses code p s c N G L F → Small p
small_parses h = record { left = λ w r x e. let d = h.done w r x e in omega (arith, ap length d.1, length-append d.0 r) }

pub eats_parses : {T A : Type 0} {code : Option T → ℕ} {p : Reading T A} {s c : Syntax T A} {G L F : Set} → Parses code p s c false G L F → Eats p
eats_parses {T} {A} {p = p} {s = s} h = record { left = λ w r x e. let d = h.done w r x e in longer w r x d.0 d.1 d.2 }
  where
    longer : (w r : List T) (x : A) (u : List T) → w ≡ u ++ r → s.derives u x → length r < length w
    longer w r x [] i d = absurd (h.firm refl x d)
    longer w r x (t ∷ u) i d = omega (arith, ap length i, length-append u r)
