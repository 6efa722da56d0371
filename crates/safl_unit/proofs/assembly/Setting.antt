-- Registers and wires that are set one after another.
use Rattle.safl_unit.proofs.Common.{EachAt, IsSteady, Says, Settles, Sig, eqb-false, eqb-true, take_suc}
use Rattle.std.proofs.Common.{◌≡◌, ℕ, zero, suc, ◌+◌, ◌<◌, ◌≤◌, List, [], ◌∷◌, ◌++◌, map, length, length-append, take, Some, None, slice_get, ◌⊎◌}
use Rattle.std.proofs.Common.{inl, inr, refl, sym, ap, subst, ◌∙◌, arith, append_assoc, true}
use Rattle.std.proofs.Common.{Bool, false, ◌==◌}
use Rattle.std.proofs.lemmas.List.{length-map, length-take-le, map-append}
use Rattle.safl_net.specs.Netlist.{Netlist, Signal, Kind, Reg, Wire, width_of}
use Rattle.safl_net.specs.Making.{with_kind, set_kind, kind_in, kind_at}
use Rattle.safl_net.specs.Names.{one_wire, IsTidy}
use Rattle.safl_net.proofs.Settling.{settles_same, settles_on, settles_next, settles_cell, steady_cell}
use Rattle.safl_net.proofs.Saying.{says_same, says_on, says_next, says_cell}
use Rattle.safl_net.proofs.SignalKinds.{set_other, tidy_kind}
use Rattle.safl_net.proofs.Keeping.{set_length, set_width}
use Rattle.safl_unit.specs.Ties.{Tie, line_of, sig_of}
use Rattle.safl_unit.specs.Finished.{open_register, open_wire, set_register, set_wire}
use Rattle.safl_unit.specs.Setting.{with_kinds, next_kind, copy_kind, Takes}

-- ---- kinds in a row

pub kinds_after : (n : Netlist) (t : ℕ) (ks : List Kind) (u : ℕ) → t + length ks ≤ u → slice_get (with_kinds n t ks).signals u ≡ slice_get n.signals u
kinds_after n t [] u l = refl
kinds_after n t (k ∷ ks) u l = kinds_after (with_kind n t k) (suc t) ks u (omega (arith, l)) ∙ set_other n.signals t k u (λ e. absurd (omega (arith, e, l)))

pub kinds_width : (n : Netlist) (t : ℕ) (ks : List Kind) (u : ℕ) → width_of (with_kinds n t ks) u ≡ width_of n u
kinds_width n t [] u = refl
kinds_width n t (k ∷ ks) u = kinds_width (with_kind n t k) (suc t) ks u ∙ set_width n.signals t k u

pub kinds_long : (n : Netlist) (t : ℕ) (ks : List Kind) → length (with_kinds n t ks).signals ≡ length n.signals
kinds_long n t [] = refl
kinds_long n t (k ∷ ks) = kinds_long (with_kind n t k) (suc t) ks ∙ set_length n.signals t k

set_names : (gs : List Signal) (t : ℕ) (k : Kind) → map (λ (g : Signal). g.name) (set_kind gs t k) ≡ map (λ (g : Signal). g.name) gs
set_names [] t k = refl
set_names (g ∷ gs) zero k = refl
set_names (g ∷ gs) (suc t) k = ap (λ l. g.name ∷ l) (set_names gs t k)

pub kinds_names : (n : Netlist) (t : ℕ) (ks : List Kind) → map (λ (g : Signal). g.name) (with_kinds n t ks).signals ≡ map (λ (g : Signal). g.name) n.signals
kinds_names n t [] = refl
kinds_names n t (k ∷ ks) = kinds_names (with_kind n t k) (suc t) ks ∙ set_names n.signals t k

pub kinds_outputs : (n : Netlist) (t : ℕ) (ks : List Kind) → (with_kinds n t ks).outputs ≡ n.outputs
kinds_outputs n t [] = refl
kinds_outputs n t (k ∷ ks) = kinds_outputs (with_kind n t k) (suc t) ks

kinds_end : (n : Netlist) (t : ℕ) (ks : List Kind) (k : Kind) → with_kinds n t (ks ++ k ∷ []) ≡ with_kind (with_kinds n t ks) (t + length ks) k
kinds_end n t [] k = ap (λ x. with_kind n x k) (let e : t ≡ t + 0 = omega arith in e)
kinds_end n t (j ∷ ks) k = kinds_end (with_kind n t j) (suc t) ks k ∙ ap (λ x. with_kind (with_kinds (with_kind n t j) (suc t) ks) x k)
    (let e : suc t + length ks ≡ t + suc (length ks) = omega arith in e)

pub takes_kept : (n : Netlist) (t : ℕ) (ks : List Kind) (u : ℕ) (k : Kind) (s : Sig) → t + length ks ≤ u → Takes n u k s → Takes (with_kinds n t ks) u k s
takes_kept n t ks u k s l h = record {
  kind = ap kind_in (kinds_after n t ks u l) ∙ h.kind;
  known = let a = kinds_long n t ks in let b = h.known in omega (arith, a, b);
  width = kinds_width n t ks s.0 ∙ h.width ∙ sym (kinds_width n t ks u);
}

-- ---- one more, as a loop has it

module _ (n m : Netlist) (first i : ℕ) (make : Sig → Kind) (all : List Sig) (s : Sig) (at : slice_get all i ≡ Some s) (inside : i < length all)
    (is : m ≡ with_kinds n first (map make (take i all))) where
  here : first + i ≡ first + length (map make (take i all))
  here = let a = length-map (take i all) make in let b = length-take-le i all (omega (arith, inside)) in omega (arith, a, b)

  pub takes_next : (r : ℕ) (k : Kind) → r ≡ first + i → EachAt all (λ j x. Takes n (first + j) k x) → Takes m r k s
  takes_next r k e h =
      subst (λ x. Takes x r k s) (sym is)
      (subst (λ x. Takes (with_kinds n first (map make (take i all))) x k s) (sym e) (takes_kept n first (map make (take i all)) (first + i) k s (let a = here in omega (arith, a)) (h i s at)))

  pub kinds_next : (r : ℕ) (a : Netlist) → r ≡ first + i → a ≡ with_kind m r (make s) → a ≡ with_kinds n first (map make (take (i + 1) all))
  kinds_next r a e q =
      q ∙ ap (λ x. with_kind x r (make s)) is ∙ ap (λ x. with_kind (with_kinds n first (map make (take i all))) x (make s)) (e ∙ here)
      ∙ sym (kinds_end n first (map make (take i all)) (make s))
      ∙ ap (λ l. with_kinds n first l) (sym (map-append make (take i all) (s ∷ [])) ∙ ap (map make) (sym (take_suc all i s at)))
      ∙ ap (λ j. with_kinds n first (map make (take j all))) (let p : suc i ≡ i + 1 = omega arith in p)

-- ---- the list of signals

abbrev pub kinded : List Signal → List Kind → List Signal
kinded [] ks = []
kinded (x ∷ xs) [] = x ∷ xs
kinded (x ∷ xs) (k ∷ ks) = record { name = x.name; width = x.width; kind = k } ∷ kinded xs ks

set_there : (front back : List Signal) (x : Signal) (k : Kind) → set_kind (front ++ x ∷ back) (length front) k ≡ front ++ record { name = x.name; width = x.width; kind = k } ∷ back
set_there [] back x k = refl
set_there (g ∷ front) back x k = ap (λ l. g ∷ l) (set_there front back x k)

pub kinds_list : (n : Netlist) (first : ℕ) (front xs back : List Signal) (ks : List Kind) → first ≡ length front → length xs ≡ length ks → n.signals ≡
    front ++ (xs ++ back) → (with_kinds n first ks).signals ≡ front ++ (kinded xs ks ++ back)
kinds_list n first front [] back [] f l e = e
kinds_list n first front [] back (k ∷ ks) f l e = absurd (omega (arith, l))
kinds_list n first front (x ∷ xs) back [] f l e = e
kinds_list n first front (x ∷ xs) back (k ∷ ks) f l e =
    let y : Signal = record { name = x.name; width = x.width; kind = k } in
    let long = length-append front (y ∷ []) in
    kinds_list (with_kind n first k) (suc first) (front ++ y ∷ []) xs back ks (omega (arith, f, long)) (omega (arith, l))
    (ap (λ g. set_kind g first k) e ∙ ap (λ j. set_kind (front ++ (x ∷ (xs ++ back))) j k) f ∙ set_there front (xs ++ back) x k ∙ sym (append_assoc front (y ∷ []) (xs ++ back)))
    ∙ append_assoc front (y ∷ []) (kinded xs ks ++ back)

pub registers_set : (ts : List Tie) → kinded (map open_register (map line_of ts)) (map next_kind (map sig_of ts)) ≡ map set_register ts
registers_set [] = refl
registers_set (t ∷ ts) = ap (λ l. set_register t ∷ l) (registers_set ts)

pub wires_set : (ts : List Tie) → kinded (map open_wire (map line_of ts)) (map copy_kind (map sig_of ts)) ≡ map set_wire ts
wires_set [] = refl
wires_set (t ∷ ts) = ap (λ l. set_wire t ∷ l) (wires_set ts)

-- ---- what is kept

-- signals of one kind in a row
abbrev pub IsOpen : Netlist → ℕ → Kind → List Sig → Type 0
IsOpen n t k ss = EachAt ss (λ i s. kind_at n (t + i) ≡ k)

open_here : (n : Netlist) (t : ℕ) (k : Kind) (s : Sig) (ss : List Sig) → IsOpen n t k (s ∷ ss) → kind_at n t ≡ k
open_here n t k s ss h = ap (kind_at n) (let e : t ≡ t + 0 = omega arith in e) ∙ h 0 s refl

open_rest : (n : Netlist) (t : ℕ) (k j : Kind) (s : Sig) (ss : List Sig) → IsOpen n t k (s ∷ ss) → IsOpen (with_kind n t j) (suc t) k ss
open_rest n t k j s ss h = λ i x e.
    ap kind_in (set_other n.signals t j (suc t + i) (λ q. absurd (omega (arith, q))))
    ∙ ap (kind_at n) (let e : suc t + i ≡ t + suc i = omega arith in e) ∙ h (suc i) x e

pub settles_nexts : (n : Netlist) (t : ℕ) (ss : List Sig) → Settles n (with_kinds n t (map next_kind ss))
settles_nexts n t [] = settles_same n n refl
settles_nexts n t (s ∷ ss) = settles_on (settles_next n (with_kind n t (next_kind s)) t 0 (Some s.0) refl) (settles_nexts (with_kind n t (next_kind s)) (suc t) ss)

pub says_nexts : (n : Netlist) (t : ℕ) (ss : List Sig) → IsOpen n t (Reg 0 None) ss → Says n (with_kinds n t (map next_kind ss))
says_nexts n t [] h = says_same n
says_nexts n t (s ∷ ss) h =
    says_on (says_next n t 0 s.0 (open_here n t (Reg 0 None) s ss h)) (says_nexts (with_kind n t (next_kind s)) (suc t) ss (open_rest n t (Reg 0 None) (next_kind s) s ss h))

pub says_copies : (n : Netlist) (t : ℕ) (ss : List Sig) → IsOpen n t (Wire None) ss → Says n (with_kinds n t (map copy_kind ss))
says_copies n t [] h = says_same n
says_copies n t (s ∷ ss) h =
    says_on (says_cell n t _ (open_here n t (Wire None) s ss h)) (says_copies (with_kind n t (copy_kind s)) (suc t) ss (open_rest n t (Wire None) (copy_kind s) s ss h))

-- a wire copies a steady signal or one that is set before it
pub settles_copies : (n : Netlist) (t : ℕ) (ss : List Sig) → IsOpen n t (Wire None) ss → EachAt ss (λ i s. IsSteady n s.0 ⊎ ((t ≤ s.0) × (s.0 < t + i))) → Settles n (with_kinds n t (map copy_kind ss))
settles_copies n t [] h f = settles_same n n refl
settles_copies n t (s ∷ ss) h f =
    let m = with_kind n t (copy_kind s) in
    settles_on one (settles_copies m (suc t) ss (open_rest n t (Wire None) (copy_kind s) s ss h) (λ i x e. later i x (f (suc i) x e)))
  where
    now : (IsSteady n s.0 ⊎ ((t ≤ s.0) × (s.0 < t + 0))) → IsSteady n s.0
    now (inl q) = q
    now (inr q) = let a = q.0 in let b = q.1 in absurd (omega (arith, a, b))

    one : Settles n (with_kind n t (copy_kind s))
    one = settles_cell n (with_kind n t (copy_kind s)) t _ (s ∷ []) (open_here n t (Wire None) s ss h) (now (f 0 s refl), tt) refl

    by : (b : Bool) (x : Sig) (i : ℕ) → (x.0 == t) ≡ b → t ≤ x.0 → x.0 < t + suc i → IsSteady (with_kind n t (copy_kind s)) x.0 ⊎ ((suc t ≤ x.0) × (x.0 < suc t + i))
    by true x i e l m = inl (subst (IsSteady (with_kind n t (copy_kind s))) (sym (eqb-true x.0 t e)) (steady_cell n (with_kind n t (copy_kind s)) t _ (open_here n t (Wire None) s ss h) refl))
    by false x i e l m = let o = eqb-false x.0 t e in inr (omega (arith, l, o), omega (arith, m))

    later : (i : ℕ) (x : Sig) → (IsSteady n x.0 ⊎ ((t ≤ x.0) × (x.0 < t + suc i))) → IsSteady (with_kind n t (copy_kind s)) x.0 ⊎ ((suc t ≤ x.0) × (x.0 < suc t + i))
    later i x (inl q) = inl (one.steady x.0 q)
    later i x (inr q) = by (x.0 == t) x i refl q.0 q.1

pub tidy_kinds : (n : Netlist) (t : ℕ) (k : Kind) (make : Sig → Kind) (ss : List Sig) → ((s : Sig) → one_wire (make s) ≡ one_wire k) → IsOpen n t k ss
    → IsTidy n → IsTidy (with_kinds n t (map make ss))
tidy_kinds n t k make [] e h w = w
tidy_kinds n t k make (s ∷ ss) e h w =
    tidy_kinds (with_kind n t (make s)) (suc t) k make ss e (open_rest n t k (make s) s ss h) (tidy_kind n t (make s) (e s ∙ ap one_wire (sym (open_here n t k s ss h))) w)
