-- Sites conflict where one comes before the other.
use Rattle.safl_sites.proofs.Common.{Call, Cons, Const, If, Let, Loop, Nil, Op, Program, Term, Terms, Var, inl, inr, unit_for, ℕ, ◌≡◌, ◌⊎◌}
use Rattle.safl_sites.specs.Conflicts.{Apart, ApartIn, Conflict}
use Rattle.safl_sites.specs.Parallel.{Before, BeforeIn, ComesBefore}

module _ (C : Program) (j k : ℕ) where
  mutual
    unfolding Apart Before

    apart_of : (t : Term) → Apart C j k t → Before C j k t ⊎ Before C k j t
    apart_of (Const w) h = absurd h
    apart_of (Var i) h = absurd h
    apart_of (Op o ts) h = apart_in_of ts h
    apart_of (If c a b) (inl h) = elim (apart_of c h) [ inl x ↦ inl (inl x) | inr x ↦ inr (inl x) ]
    apart_of (If c a b) (inr (inl h)) = elim (apart_of a h) [ inl x ↦ inl (inr (inl x)) | inr x ↦ inr (inr (inl x)) ]
    apart_of (If c a b) (inr (inr h)) = elim (apart_of b h) [ inl x ↦ inl (inr (inr x)) | inr x ↦ inr (inr (inr x)) ]
    apart_of (Let ts b) (inl h) = elim (apart_in_of ts h) [ inl x ↦ inl (inl x) | inr x ↦ inr (inl x) ]
    apart_of (Let ts b) (inr h) = elim (apart_of b h) [ inl x ↦ inl (inr x) | inr x ↦ inr (inr x) ]
    apart_of (Call f i ts) h = apart_in_of ts h
    apart_of (Loop f ts) h = apart_in_of ts h

    apart_in_of : (ts : Terms) → ApartIn C j k ts → BeforeIn C j k ts ⊎ BeforeIn C k j ts
    apart_in_of Nil h = absurd h
    apart_in_of (Cons t ts) (inl (inl h)) = elim (apart_of t h) [ inl x ↦ inl (inl (inl x)) | inr x ↦ inr (inl (inl x)) ]
    apart_in_of (Cons t ts) (inl (inr h)) = elim (apart_in_of ts h) [ inl x ↦ inl (inl (inr x)) | inr x ↦ inr (inl (inr x)) ]
    apart_in_of (Cons t ts) (inr (inl h)) = inl (inr h)
    apart_in_of (Cons t ts) (inr (inr h)) = inr (inr h)

  mutual
    unfolding Apart Before

    apart_by : (t : Term) → Before C j k t ⊎ Before C k j t → Apart C j k t
    apart_by (Const w) h = elim h [ inl x ↦ x | inr x ↦ x ]
    apart_by (Var i) h = elim h [ inl x ↦ x | inr x ↦ x ]
    apart_by (Op o ts) h = apart_in_by ts h
    apart_by (If c a b) (inl (inl x)) = inl (apart_by c (inl x))
    apart_by (If c a b) (inl (inr (inl x))) = inr (inl (apart_by a (inl x)))
    apart_by (If c a b) (inl (inr (inr x))) = inr (inr (apart_by b (inl x)))
    apart_by (If c a b) (inr (inl x)) = inl (apart_by c (inr x))
    apart_by (If c a b) (inr (inr (inl x))) = inr (inl (apart_by a (inr x)))
    apart_by (If c a b) (inr (inr (inr x))) = inr (inr (apart_by b (inr x)))
    apart_by (Let ts b) (inl (inl x)) = inl (apart_in_by ts (inl x))
    apart_by (Let ts b) (inl (inr x)) = inr (apart_by b (inl x))
    apart_by (Let ts b) (inr (inl x)) = inl (apart_in_by ts (inr x))
    apart_by (Let ts b) (inr (inr x)) = inr (apart_by b (inr x))
    apart_by (Call f i ts) h = apart_in_by ts h
    apart_by (Loop f ts) h = apart_in_by ts h

    apart_in_by : (ts : Terms) → BeforeIn C j k ts ⊎ BeforeIn C k j ts → ApartIn C j k ts
    apart_in_by Nil h = elim h [ inl x ↦ x | inr x ↦ x ]
    apart_in_by (Cons t ts) (inl (inl (inl x))) = inl (inl (apart_by t (inl x)))
    apart_in_by (Cons t ts) (inl (inl (inr x))) = inl (inr (apart_in_by ts (inl x)))
    apart_in_by (Cons t ts) (inl (inr x)) = inr (inl x)
    apart_in_by (Cons t ts) (inr (inl (inl x))) = inl (inl (apart_by t (inr x)))
    apart_in_by (Cons t ts) (inr (inl (inr x))) = inl (inr (apart_in_by ts (inr x)))
    apart_in_by (Cons t ts) (inr (inr x)) = inr (inr x)

  pub conflict_of : (j ≡ k → ⊥) → unit_for C j ≡ unit_for C k → ComesBefore C j k ⊎ ComesBefore C k j → Conflict C j k
  conflict_of other same h = elim h [
    | inl b ↦ record { other = other; same = same; body = b.body; is_body = b.is_body; apart = apart_by (C.body b.body) (inl b.before) }
    | inr b ↦ record { other = other; same = same; body = b.body; is_body = b.is_body; apart = apart_by (C.body b.body) (inr b.before) }
  ]

  pub conflict_by : Conflict C j k → ComesBefore C j k ⊎ ComesBefore C k j
  conflict_by h = elim (apart_of (C.body h.body) h.apart) [
    | inl x ↦ inl (record { body = h.body; is_body = h.is_body; before = x })
    | inr x ↦ inr (record { body = h.body; is_body = h.is_body; before = x })
  ]
