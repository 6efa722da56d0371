-- Heights of gates, in nets that grow and above rows that are halved.
use Rattle.safl_lower.proofs.Common.{Builds, Load, Sig}
use Rattle.std.proofs.Common.{◌≡◌, ℕ, zero, suc, ◌+◌, ◌*◌, ◌<◌, ◌≤◌, ◌/◌, ◌^◌, inl, inr, List, [], ◌∷◌, ◌++◌, length, Option, Some, None, append_assoc}
use Rattle.std.proofs.Common.{Result, Ok, Err, IfOk, OnOk, slice_get, slice_index_or, refl, sym, ap, subst, ◌∙◌, arith}
use Rattle.std.proofs.Math.Nat.{pow-succ'}
use Rattle.std.proofs.lemmas.Bool.{cases_eq}
use Rattle.safl_net.specs.declared.cell.Op.{Op}
use Rattle.safl_net.specs.Netlist.{Netlist, Signal}
use Rattle.safl_net.specs.Making.{with_signal, temporary, numbers}
use Rattle.safl_net.proofs.Growth.{get_kept, get_new}
use Rattle.safl_lower.specs.Rows.{maybe_one}
use Rattle.safl_lower.specs.Heights.{maybe_reads, IsGateOf, EachOf, IsOneOf, Within, AllWithin, own_parts, load_parts, parts, Stands}

each_map : (P Q : ℕ → Type 0) → ((s : ℕ) → P s → Q s) → (xs : List ℕ) → EachOf P xs → EachOf Q xs
each_map P Q f [] h = tt
each_map P Q f (x ∷ xs) h = (f x h.0, each_map P Q f xs h.1)

-- ---- as the net grows

reads_kept : {a b : Netlist} {k : ℕ} → Builds a b k → (s : ℕ) (ops : List ℕ) → maybe_reads (slice_get a.signals s) ≡ Some ops → maybe_reads (slice_get b.signals s) ≡ Some ops
reads_kept {a} {b} g s ops e = by (slice_get a.signals s) refl
  where
    by : (o : Option Signal) → slice_get a.signals s ≡ o → maybe_reads (slice_get b.signals s) ≡ Some ops
    by None q = let f : None ≡ Some ops = sym (ap maybe_reads q) ∙ e in absurd (cc)
    by (Some x) q = ap maybe_reads (get_kept g.grows s x q) ∙ sym (ap maybe_reads q) ∙ e

pub gate_kept : {a b : Netlist} {k : ℕ} → Builds a b k → (s : Sig) (xs : List Sig) → IsGateOf a s xs → IsGateOf b s xs
gate_kept g s xs q = reads_kept g s.0 (numbers xs) q

pub within_kept : {a b : Netlist} {k : ℕ} → Builds a b k → (from : List Sig) (h s : ℕ) → Within a from h s → Within b from h s
within_kept g from zero s q = q
within_kept {a} {b} g from (suc h) s q = elim q [
  | inl r ↦ inl (within_kept g from h s r)
  | inr r ↦ inr (r.0, reads_kept g s r.0 r.1, each_map (Within a from h) (Within b from h) (within_kept g from h) r.0 r.2)
]

pub all_kept : {a b : Netlist} {k : ℕ} → Builds a b k → (from : List Sig) (h : ℕ) (xs : List Sig) → AllWithin a from h xs → AllWithin b from h xs
all_kept g from h [] q = tt
all_kept g from h (x ∷ xs) q = (within_kept g from h x.0 q.0, all_kept g from h xs q.1)

-- ---- above more signals

pub within_from : (n : Netlist) (from to : List Sig) → ((s : ℕ) → IsOneOf from s → IsOneOf to s) → (h s : ℕ) → Within n from h s → Within n to h s
within_from n from to f zero s q = f s q
within_from n from to f (suc h) s q = elim q [
  | inl r ↦ inl (within_from n from to f h s r)
  | inr r ↦ inr (r.0, r.1, each_map (Within n from h) (Within n to h) (within_from n from to f h) r.0 r.2)
]

pub all_from : (n : Netlist) (from to : List Sig) → ((s : ℕ) → IsOneOf from s → IsOneOf to s) → (h : ℕ) (xs : List Sig) → AllWithin n from h xs → AllWithin n to h xs
all_from n from to f h [] q = tt
all_from n from to f h (x ∷ xs) q = (within_from n from to f h x.0 q.0, all_from n from to f h xs q.1)

pub one_front : (xs ys : List Sig) (s : ℕ) → IsOneOf xs s → IsOneOf (xs ++ ys) s
one_front [] ys s h = absurd h
one_front (x ∷ xs) ys s h = elim h [ inl e ↦ inl e | inr q ↦ inr (one_front xs ys s q) ]

pub one_back : (xs ys : List Sig) (s : ℕ) → IsOneOf ys s → IsOneOf (xs ++ ys) s
one_back [] ys s h = h
one_back (x ∷ xs) ys s h = inr (one_back xs ys s h)

-- ---- at more height

pub within_up : (n : Netlist) (from : List Sig) (h k s : ℕ) → h ≤ k → Within n from h s → Within n from k s
within_up n from h zero s l q = let e : h ≡ zero = omega (arith, l) in subst (λ (j : ℕ). Within n from j s) e q
within_up n from h (suc k) s l q = elim (cases_eq h (suc k)) [
  | inl e ↦ subst (λ (j : ℕ). Within n from j s) e q
  | inr e ↦ inl (within_up n from h k s (omega (arith, l, e)) q)
]

pub all_up : (n : Netlist) (from : List Sig) (h k : ℕ) (xs : List Sig) → h ≤ k → AllWithin n from h xs → AllWithin n from k xs
all_up n from h k [] l q = tt
all_up n from h k (x ∷ xs) l q = (within_up n from h k x.0 l q.0, all_up n from h k xs l q.1)

-- signals that are among those
pub own_within : (n : Netlist) (from : List Sig) (h s : ℕ) → IsOneOf from s → Within n from h s
own_within n from zero s q = q
own_within n from (suc h) s q = inl (own_within n from h s q)

pub all_own : (n : Netlist) (from : List Sig) (h : ℕ) (xs : List Sig) → ((s : ℕ) → IsOneOf xs s → IsOneOf from s) → AllWithin n from h xs
all_own n from h [] f = tt
all_own n from h (x ∷ xs) f = (own_within n from h x.0 (f x.0 (inl refl)), all_own n from h xs (λ s q. f s (inr q)))

-- ---- one gate higher

pub one_of_all : (n : Netlist) (from : List Sig) (h : ℕ) (base : List Sig) (s : ℕ) → AllWithin n from h base → IsOneOf base s → Within n from h s
one_of_all n from h [] s a q = absurd q
one_of_all n from h (x ∷ base) s a q = elim q [
  | inl e ↦ subst (λ (j : ℕ). Within n from h j) e a.0
  | inr r ↦ one_of_all n from h base s a.1 r
]

pub over : (n : Netlist) (from : List Sig) (h : ℕ) (base : List Sig) (s : ℕ) → AllWithin n from h base → Within n base 1 s → Within n from (suc h) s
over n from h base s a q = elim q [
  | inl r ↦ inl (one_of_all n from h base s a r)
  | inr r ↦ inr (r.0, r.1, each_map (IsOneOf base) (Within n from h) (λ x i. one_of_all n from h base x a i) r.0 r.2)
]

pub all_over : (n : Netlist) (from : List Sig) (h : ℕ) (base xs : List Sig) → AllWithin n from h base → AllWithin n base 1 xs → AllWithin n from (suc h) xs
all_over n from h base [] a q = tt
all_over n from h base (x ∷ xs) a q = (over n from h base x.0 a q.0, all_over n from h base xs a q.1)

each_read : (n : Netlist) (from : List Sig) (h : ℕ) (xs : List Sig) → AllWithin n from h xs → EachOf (Within n from h) (numbers xs)
each_read n from h [] a = tt
each_read n from h (x ∷ xs) a = (a.0, each_read n from h xs a.1)

pub gate_within : (n : Netlist) (from : List Sig) (h : ℕ) (s : Sig) (xs : List Sig) → IsGateOf n s xs → AllWithin n from h xs → Within n from (suc h) s.0
gate_within n from h s xs q a = inr (numbers xs, q, each_read n from h xs a)

pub gate_made : {E : Type 0} (n m : Netlist) (r : Result Sig E) (op : Op) (xs : List Sig) → OnOk r (m ≡ with_signal n (temporary n op xs)) → IfOk r
    (λ s. s.0 ≡ length n.signals) → IfOk r (λ s. IsGateOf m s xs)
gate_made n m (Ok s) op xs a b = ap maybe_reads (get_new n m (temporary n op xs) s.0 a b)
gate_made n m (Err e) op xs a b = tt

-- ---- rows of signals

pub all_join : (n : Netlist) (from : List Sig) (h : ℕ) (xs ys : List Sig) → AllWithin n from h xs → AllWithin n from h ys → AllWithin n from h (xs ++ ys)
all_join n from h [] ys p q = q
all_join n from h (x ∷ xs) ys p q = (p.0, all_join n from h xs ys p.1 q)

pub all_front : (n : Netlist) (from : List Sig) (h : ℕ) (xs ys : List Sig) → AllWithin n from h (xs ++ ys) → AllWithin n from h xs
all_front n from h [] ys p = tt
all_front n from h (x ∷ xs) ys p = (p.0, all_front n from h xs ys p.1)

pub all_back : (n : Netlist) (from : List Sig) (h : ℕ) (xs ys : List Sig) → AllWithin n from h (xs ++ ys) → AllWithin n from h ys
all_back n from h [] ys p = p
all_back n from h (x ∷ xs) ys p = all_back n from h xs ys p.1

-- a signal of a list
pub one_at : (xs : List Sig) (i : ℕ) (d : Sig) → i < length xs → IsOneOf xs (slice_index_or xs i d).0
one_at [] i d l = absurd (omega (arith, l))
one_at (x ∷ xs) zero d l = inl refl
one_at (x ∷ xs) (suc i) d l = inr (one_at xs i d (omega (arith, l)))

-- one more of the words that are chosen
pub chosen_within : (n : Netlist) (c : Sig) (a b all : List Sig) (next : Sig) (i : ℕ) (d : Sig) → i < length a → i < length b → AllWithin n
    (c ∷ (a ++ b)) 1 all → IsGateOf n next (c ∷ slice_index_or a i d ∷ slice_index_or b i d ∷ [])
    → AllWithin n (c ∷ (a ++ b)) 1 (all ++ next ∷ [])
chosen_within n c a b all next i d l m h g =
    let from = c ∷ (a ++ b) in
    let x = slice_index_or a i d in
    let y = slice_index_or b i d in
    let here : AllWithin n from 0 (c ∷ x ∷ y ∷ []) = (inl refl, (inr (one_front a b x.0 (one_at a i d l)), (inr (one_back a b y.0 (one_at b i d m)), tt))) in
    all_join n from 1 all (next ∷ []) h (gate_within n from 0 next (c ∷ x ∷ y ∷ []) g here, tt)

-- ---- halves

pub halved : {A : Type 0} (xs low high : List A) (h : ℕ) → (length xs ≡ 1 → ⊥) → 0 < length xs → length low ≡ length xs / 2 → length high + length xs / 2 ≡ length xs → length xs ≤ 2 ^ h
    → (k : ℕ) × (h ≡ suc k) × (length low ≤ 2 ^ k) × (length high ≤ 2 ^ k)
halved xs low high zero many some l r few = absurd (many (omega (arith, some, few)))
halved xs low high (suc h) many some l r few = let p = pow-succ' 2 h in (h, refl, omega (arith, l, r, few, p), omega (arith, l, r, few, p))

-- a row of one bit
pub alone_within : (n : Netlist) (xs : List Sig) (d : Sig) (h : ℕ) → length xs ≡ 1 → Within n xs h (slice_index_or xs 0 d).0
alone_within n [] d h e = absurd (omega (arith, e))
alone_within n (x ∷ xs) d h e = own_within n (x ∷ xs) h x.0 (inl refl)

-- two halves of a row of bits
module _ (n : Netlist) (xs low high : List Sig) (e : xs ≡ low ++ high) where
  pub within_low : (h s : ℕ) → Within n low h s → Within n xs h s
  within_low h s q = subst (λ (l : List Sig). Within n l h s) (sym e) (within_from n low (low ++ high) (one_front low high) h s q)

  pub within_high : (h s : ℕ) → Within n high h s → Within n xs h s
  within_high h s q = subst (λ (l : List Sig). Within n l h s) (sym e) (within_from n high (low ++ high) (one_back low high) h s q)

  pub within_both : (k : ℕ) (a b s : Sig) → Within n low k a.0 → Within n high k b.0 → IsGateOf n s (a ∷ b ∷ []) → Within n xs (suc k) s.0
  within_both k a b s p q g = gate_within n xs k s (a ∷ b ∷ []) g (within_low k a.0 p, (within_high k b.0 q, tt))

-- ---- rows of loads

parts_join : (xs ys : List Load) → parts (xs ++ ys) ≡ parts xs ++ parts ys
parts_join [] ys = refl
parts_join (x ∷ xs) ys = ap (λ (l : List Sig). own_parts x ++ l) (parts_join xs ys) ∙ sym (append_assoc (own_parts x) (parts xs) (parts ys))

module _ (n : Netlist) (xs low high : List Load) (e : xs ≡ low ++ high) where
  pub parts_low : (h : ℕ) (ss : List Sig) → AllWithin n (parts low) h ss → AllWithin n (parts xs) h ss
  parts_low h ss q =
      let f : parts xs ≡ parts low ++ parts high = ap parts e ∙ parts_join low high in
      subst (λ (l : List Sig). AllWithin n l h ss) (sym f) (all_from n (parts low) (parts low ++ parts high) (one_front (parts low) (parts high)) h ss q)

  pub parts_high : (h : ℕ) (ss : List Sig) → AllWithin n (parts high) h ss → AllWithin n (parts xs) h ss
  parts_high h ss q =
      let f : parts xs ≡ parts low ++ parts high = ap parts e ∙ parts_join low high in
      subst (λ (l : List Sig). AllWithin n l h ss) (sym f) (all_from n (parts high) (parts low ++ parts high) (one_back (parts low) (parts high)) h ss q)

-- a load alone
pub alone_parts : (n : Netlist) (ls : List Load) (l : Load) (h : ℕ) → ls ≡ l ∷ [] → AllWithin n (parts ls) h (own_parts l)
alone_parts n ls l h e = subst (λ (k : List Load). AllWithin n (parts k) h (own_parts l)) (sym e) (all_own n (own_parts l ++ []) h (own_parts l) (λ s q. one_front (own_parts l) [] s q))

-- ---- what is free

pub stands_low : (n : Netlist) (from xs low high : List Sig) (free : Sig) (f h k m : ℕ) → xs ≡ low ++ high → h ≡ suc k → length low ≤ 2 ^ k → Stands n from xs free f h m → Stands n from low free f k m
stands_low n from xs low high free f h k m e q few s = record {
  few = few;
  deep = let d = s.deep in omega (arith, d, q);
  room = let r = s.room in omega (arith, r, q);
  bits = all_front n from 0 low high (subst (λ (l : List Sig). AllWithin n from 0 l) e s.bits);
  base = s.base;
}

-- the high half is free one gate later, if no bit of the low half is 1
pub stands_high : (a b : Netlist) (j : ℕ) (from xs low high : List Sig) (free any rest still : Sig) (f h k m : ℕ) → Builds a b j → xs ≡ low ++ high →
    h ≡ suc k → length high ≤ 2 ^ k → Stands a from xs free f h m
    → Within b low k any.0 → IsGateOf b rest (any ∷ []) → IsGateOf b still (free ∷ rest ∷ []) → Stands b from high still (suc f) k m
stands_high a b j from xs low high free any rest still f h k m g e q few s wa gr gs =
    let d = s.deep in
    let r = s.room in
    let bits = all_kept g from 0 (low ++ high) (subst (λ (l : List Sig). AllWithin a from 0 l) e s.bits) in
    let lows = all_front b from 0 low high bits in
    let wany = within_from b low from (λ x i. one_of_all b from 0 low x lows i) k any.0 wa in
    let wrest = within_up b from (suc k) f rest.0 (omega (arith, d, q)) (gate_within b from k rest (any ∷ []) gr (wany, tt)) in
    record {
      few = few;
      deep = omega (arith, d, q);
      room = omega (arith, r, q);
      bits = all_back b from 0 low high bits;
      base = gate_within b from f still (free ∷ rest ∷ []) gs (within_kept g from f free.0 s.base, (wrest, tt));
    }

-- a row of one
pub pushed_within : (n : Netlist) (from row out new : List Sig) (free : Sig) (f h m : ℕ) → Stands n from row free f h m → AllWithin n from m out → new ≡ out ++ free ∷ [] → AllWithin n from m new
pushed_within n from row out new free f h m s q e =
    let r = s.room in
    subst (λ (l : List Sig). AllWithin n from m l) (sym e) (all_join n from m out (free ∷ []) q (within_up n from f m free.0 (omega (arith, r)) s.base, tt))

-- ---- joined loads

skip : (xs ys : List Sig) (b : Sig) (s : ℕ) → IsOneOf (xs ++ ys) s → IsOneOf (xs ++ (b ∷ ys)) s
skip [] ys b s q = inr q
skip (x ∷ xs) ys b s q = elim q [ inl e ↦ inl e | inr r ↦ inr (skip xs ys b s r) ]

pub joined_within : (n : Netlist) (o : Option Load) (l : Load) (bit any : Sig) (ops us ws : List Sig) → o ≡ Some l → us ≡ l.words.items → IsGateOf n
    any (l.bit ∷ bit ∷ []) → AllWithin n (l.bit ∷ (us ++ ops)) 1 ws
    → AllWithin n (load_parts o ++ (bit ∷ ops)) 1 (any ∷ ws)
joined_within n o l bit any ops us ws e f g h =
    let from = l.bit ∷ (l.words.items ++ (bit ∷ ops)) in
    let here : AllWithin n from 0 (l.bit ∷ bit ∷ []) = (inl refl, (inr (one_back l.words.items (bit ∷ ops) bit.0 (inl refl)), tt)) in
    let words = subst (λ (xs : List Sig). AllWithin n (l.bit ∷ (xs ++ ops)) 1 ws) f h in
    subst (λ (x : Option Load). AllWithin n (load_parts x ++ (bit ∷ ops)) 1 (any ∷ ws)) (sym e)
    (gate_within n from 0 any (l.bit ∷ bit ∷ []) g here, all_from n (l.bit ∷ (l.words.items ++ ops)) from into 1 ws words)
  where
    into : (s : ℕ) → IsOneOf (l.bit ∷ (l.words.items ++ ops)) s → IsOneOf (l.bit ∷ (l.words.items ++ (bit ∷ ops))) s
    into s q = elim q [ inl k ↦ inl k | inr r ↦ inr (skip l.words.items ops bit s r) ]

pub alone_load : (n : Netlist) (o : Option Load) (bit : Sig) (ops ws : List Sig) → o ≡ None → ws ≡ ops → AllWithin n (load_parts o ++ (bit ∷ ops)) 1 (bit ∷ ws)
alone_load n o bit ops ws e f =
    subst (λ (x : Option Load). AllWithin n (load_parts x ++ (bit ∷ ops)) 1 (bit ∷ ws)) (sym e)
    (subst (λ (xs : List Sig). AllWithin n (bit ∷ ops) 1 (bit ∷ xs)) (sym f) (all_own n (bit ∷ ops) 1 (bit ∷ ops) (λ s q. q)))

-- ---- one of two bits, of which the first may not be there, and pairs

pub or_within : {E : Type 0} (n : Netlist) (r : Result Sig E) (o : Option Sig) (a b : Sig) → o ≡ Some a → IfOk r (λ s. IsGateOf n s (a ∷ b ∷ [])) → IfOk r (λ s. Within n (maybe_one o ++ b ∷ []) 1 s.0)
or_within n (Ok s) o a b e g =
    subst (λ (x : Option Sig). Within n (maybe_one x ++ b ∷ []) 1 s.0) (sym e) (gate_within n (a ∷ b ∷ []) 0 s (a ∷ b ∷ []) g (inl refl, (inr (inl refl), tt)))
or_within n (Err x) o a b e g = tt

pub or_alone : (n : Netlist) (o : Option Sig) (b : Sig) → o ≡ None → Within n (maybe_one o ++ b ∷ []) 1 b.0
or_alone n o b e = subst (λ (x : Option Sig). Within n (maybe_one x ++ b ∷ []) 1 b.0) (sym e) (own_within n (b ∷ []) 1 b.0 (inl refl))

pub two_within : (n : Netlist) (xs : List Sig) (k : ℕ) (a b pair first two : Sig) (low high : Option Sig) → AllWithin n xs k (a ∷ b ∷ []) → IsGateOf n
    pair (a ∷ b ∷ []) → AllWithin n xs (3 * k) (maybe_one low) → AllWithin n xs (3 * k) (maybe_one high)
    → Within n (maybe_one low ++ pair ∷ []) 1 first.0 → Within n (maybe_one high ++ first ∷ []) 1 two.0 → Within n xs (3 * suc k) two.0
two_within n xs k a b pair first two low high ab g l h fw tw =
    let j = suc (3 * k) in
    let p = within_up n xs (suc k) j pair.0 (omega arith) (gate_within n xs k pair (a ∷ b ∷ []) g ab) in
    let f = over n xs j (maybe_one low ++ pair ∷ []) first.0 (all_join n xs j (maybe_one low) (pair ∷ []) (all_up n xs (3 * k) j (maybe_one low) (omega arith) l) (p, tt)) fw in
    let t = over n xs (suc j) (maybe_one high ++ first ∷ []) two.0 (all_join n xs (suc j) (maybe_one high) (first ∷ []) (all_up n xs (3 * k) (suc j) (maybe_one high) (omega arith) h) (f, tt)) tw in
    let e : suc (suc (suc (3 * k))) ≡ 3 * suc k = omega arith in
    subst (λ (i : ℕ). Within n xs i two.0) e t

-- the two halves of a row
module _ (n : Netlist) (xs low high : List Sig) (e : xs ≡ low ++ high) where
  pub all_low : (h : ℕ) (ss : List Sig) → AllWithin n low h ss → AllWithin n xs h ss
  all_low h ss q = subst (λ (l : List Sig). AllWithin n l h ss) (sym e) (all_from n low (low ++ high) (one_front low high) h ss q)

  pub all_high : (h : ℕ) (ss : List Sig) → AllWithin n high h ss → AllWithin n xs h ss
  all_high h ss q = subst (λ (l : List Sig). AllWithin n l h ss) (sym e) (all_from n high (low ++ high) (one_back low high) h ss q)
