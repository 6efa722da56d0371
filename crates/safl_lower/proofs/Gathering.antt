-- Tail calls merged one after another, from the first.
use Rattle.safl_lower.proofs.Common.{AreSources, Builds, HasRoom, IsSource, IsTidy, Load, Netlist, Owner, TailCall, Val, Wired, Word, gate}
use Rattle.safl_lower.proofs.Common.{map_push, on, option_or, or_else, take_all, take_next, wired_before, words}
use Rattle.std.proofs.Common.{◌≡◌, ℕ, zero, suc, ◌+◌, ◌-◌, ◌<◌, ◌≤◌, List, [], ◌∷◌, ◌++◌, map, take, length, Option, Some, None, Bool, true, false}
use Rattle.std.proofs.Common.{◌&&◌, ◌==◌, inl, inr, slice_get, refl, sym, ap, subst, ◌∙◌, arith}
use Rattle.std.proofs.lemmas.Bool.{eq-eqb, ne_eqb, eqb-true, eqb-false}
use Rattle.safl_term.proofs.OrElse.{or_else_assoc, or_else_none, or_is}
use Rattle.safl_lower.specs.Tables.{taken_in, taken_from, entry_in, SomeFit}
use Rattle.safl_lower.proofs.Building.{builds_same, builds_on, builds_within, source_kept, sources_kept}
use Rattle.safl_lower.specs.Entries.{member_of, Between, LoopFits, LoopsFit, cost}
use Rattle.safl_lower.specs.Loads.{Listed, member_widths, taken_to, loads_cost, Merged}
use Rattle.safl_lower.proofs.Gathered.{cost_end}
use Rattle.safl_lower.proofs.Laid.{none_fits}
use Rattle.safl_lower.proofs.Costs.{no_cost, stays_none, cost_more}

-- ---- lists of tail calls

call_fits : (F : Owner) (n : Netlist) (es : List TailCall) (i : ℕ) (e : TailCall) → LoopsFit F n es → slice_get es i ≡ Some e → LoopFits F n e
call_fits F n [] i e h q = absurd (cc)
call_fits F n (d ∷ es) zero e h q = let s : d ≡ e = cc in subst (LoopFits F n) s h.0
call_fits F n (d ∷ es) (suc i) e h q = call_fits F n es i e h.1 q

pub call_within : (a b : ℕ) (es : List TailCall) (i : ℕ) (e : TailCall) → Between a b (map member_of es) → slice_get es i ≡ Some e → (a ≤ e.member) × (e.member < b)
call_within a b [] i e h q = absurd (cc)
call_within a b (d ∷ es) zero e h q = let s : d ≡ e = cc in subst (λ (x : TailCall). (a ≤ x.member) × (x.member < b)) s (h.0, h.1)
call_within a b (d ∷ es) (suc i) e h q = call_within a b es i e h.2 q

cost_so_far : (es : List TailCall) (i : ℕ) → cost (take i es) ≤ cost es
cost_so_far [] zero = omega arith
cost_so_far [] (suc i) = omega arith
cost_so_far (e ∷ es) zero = omega arith
cost_so_far (e ∷ es) (suc i) = let h = cost_so_far es i in omega (arith, h)

taken_end : (v : Val) (es : List TailCall) (e : TailCall) (h : ℕ) → taken_to v (es ++ e ∷ []) h ≡ or_else (taken_to v es h) (gate ((e.member == h) && on v e.taken) (Some (words v e.args.items)))
taken_end v [] e h = or_else_none (gate ((e.member == h) && on v e.taken) (Some (words v e.args.items)))
taken_end v (d ∷ es) e h = ap (or_else (gate ((d.member == h) && on v d.taken) (Some (words v d.args.items)))) (taken_end v es e h) ∙ sym
    (or_else_assoc (gate ((d.member == h) && on v d.taken) (Some (words v d.args.items))) (taken_to v es h)
    (gate ((e.member == h) && on v e.taken) (Some (words v e.args.items))))

listed_more : (k : ℕ) (js : List ℕ) (j : ℕ) → Listed k js → Listed k (js ++ j ∷ [])
listed_more k [] j h = absurd h
listed_more k (i ∷ js) j (inl e) = inl e
listed_more k (i ∷ js) j (inr h) = inr (listed_more k js j h)

listed_last : (js : List ℕ) (j k : ℕ) → j ≡ k → Listed k (js ++ j ∷ [])
listed_last [] j k e = inl e
listed_last (i ∷ js) j k e = inr (listed_last js j k e)

-- a member's place is its number after the first
place_test : (first m i : ℕ) → first ≤ m → (i == m - first) ≡ (m == first + i)
place_test first m i l = by (m == first + i) refl
  where
    by : (b : Bool) → (m == first + i) ≡ b → (i == m - first) ≡ (m == first + i)
    by true t = let s = eqb-true m (first + i) t in eq-eqb i (m - first) (omega (arith, s, l)) ∙ sym t
    by false t = let d = eqb-false m (first + i) t in ne_eqb i (m - first) (λ s. d (omega (arith, s, l))) ∙ sym t

-- ---- the tail calls before number `j` are merged

pub record Merging (first count : ℕ) (old cur : Netlist) (all : List TailCall) (j : ℕ) (xs : List (Option Load)) : Type 0 where
  pub built : Builds old cur (cost (take j all))
  pub size : length xs ≡ count
  pub fits : (F : Owner) → LoopsFit F old all → SomeFit cur xs (member_widths F first)
  pub paid : loads_cost xs ≤ cost (take j all)
  pub idle : (i : ℕ) → ¬ Listed (first + i) (map member_of (take j all)) → entry_in (slice_get xs i) ≡ None
  pub told : (v : Val) → Wired cur v → (i : ℕ) → taken_from v xs i ≡ taken_to v (take j all) (first + i)

pub merging_start : (first count : ℕ) (n : Netlist) → IsTidy n → (all : List TailCall) (xs : List (Option Load))
    → length xs ≡ count → ((i : ℕ) → entry_in (slice_get xs i) ≡ None) → Merging first count n n all 0 xs
merging_start first count n t all xs e h = record {
  built = builds_same n n t refl 0;
  size = e;
  fits = λ F x i. none_fits n xs i (member_widths F first i) (h i);
  paid = let z = no_cost xs h in omega (arith, z);
  idle = λ i no. h i;
  told = λ v w i. ap (taken_in v) (h i);
}

module _ {first count : ℕ} {old cur : Netlist} {all : List TailCall} {j : ℕ} {xs : List (Option Load)} (e : TailCall) (at : slice_get all j ≡ Some e) (h : Merging first count old cur all j xs)
    (within : Between first (first + count) (map member_of all)) where
  next : take (j + 1) all ≡ take j all ++ e ∷ []
  next = take_next all j e at

  pub cost_next : cost (take (j + 1) all) ≡ cost (take j all) + (1 + length e.args.items)
  cost_next = ap cost next ∙ cost_end (take j all) e

  pub member_in : (first ≤ e.member) × (e.member < first + count)
  member_in = call_within first (first + count) all j e within at

  pub in_table : e.member - first < length xs
  in_table = let a = member_in.0 in let b = member_in.1 in let c = h.size in omega (arith, a, b, c)

  place_is : first + (e.member - first) ≡ e.member
  place_is = let a = member_in.0 in omega (arith, a)

  pub call_room : HasRoom old (cost all) → HasRoom cur (1 + length e.args.items)
  call_room r = let a = h.built.count in let b = cost_so_far all (j + 1) in let c = cost_next in omega (arith, r, a, b, c)

  module _ (F : Owner) (fit : LoopsFit F old all) where
    pub call_bit : IsSource cur e.taken 1
    call_bit = source_kept h.built (call_fits F old all j e fit at).bit

    pub call_sized : AreSources cur e.args.items (member_widths F first (e.member - first))
    call_sized = subst (λ (k : ℕ). AreSources cur e.args.items (F.program.params k)) (sym place_is) (sources_kept h.built (call_fits F old all j e fit at).sized)

  module _ {new : Netlist} (ys : List (Option Load)) (F : Owner) (fit : LoopsFit F old all) (b : Builds cur new (1 + length e.args.items)) (long : length ys ≡ length xs)
      (widths : (ws : ℕ → List ℕ) → SomeFit cur xs ws → AreSources cur e.args.items (ws (e.member - first)) → SomeFit new ys ws)
      (shows : (v : Val) → Wired new v → (i : ℕ) → taken_from v ys i ≡ option_or (taken_from v xs i) (gate ((i == (e.member - first)) && on v e.taken) (Some (words v e.args.items)))) where
    idle_by : (i : ℕ) → ¬ Listed (first + i) (map member_of (take (j + 1) all)) → entry_in (slice_get ys i) ≡ None
    idle_by i unlisted =
        let split = ap (map member_of) next ∙ map_push member_of (take j all) e in
        let not_in : Listed (first + i) (map member_of (take j all) ++ e.member ∷ []) → ⊥ = λ g. unlisted (subst (Listed (first + i)) (sym split) g) in
        let place = place_is in
        stays_none cur new xs ys e.args.items (e.member - first) widths (member_widths F first) (h.fits F fit) (call_sized F fit) i
        (λ s. not_in (listed_last (map member_of (take j all)) e.member (first + i) (omega (arith, s, place))))
        (h.idle i (λ g. not_in (listed_more (first + i) (map member_of (take j all)) e.member g)))

    told_by : (v : Val) → Wired new v → (i : ℕ) → taken_from v ys i ≡ taken_to v (take (j + 1) all) (first + i)
    told_by v w i =
        let us = Some (words v e.args.items) in
        shows v w i
        ∙ or_is (taken_from v xs i) (gate ((i == (e.member - first)) && on v e.taken) us)
        ∙ ap (λ (o : Option (List Word)). or_else o (gate ((i == (e.member - first)) && on v e.taken) us)) (h.told v (wired_before b.grows w) i)
        ∙ ap (λ (t : Bool). or_else (taken_to v (take j all) (first + i)) (gate (t && on v e.taken) us)) (place_test first e.member i member_in.0)
        ∙ sym (taken_end v (take j all) e (first + i))
        ∙ ap (λ (es : List TailCall). taken_to v es (first + i)) (sym next)

    pub merging_step : Merging first count old new all (j + 1) ys
    merging_step = record {
      built = let c = cost_next in builds_within _ (builds_on h.built b) (omega (arith, c));
      size = long ∙ h.size;
      fits = λ G x. widths (member_widths G first) (h.fits G x) (call_sized G x);
      paid =
          let a = cost_more cur new xs ys e.args.items (e.member - first) widths (member_widths F first) (h.fits F fit) (call_sized F fit) long in
          let p = h.paid in
          let c = cost_next in
          omega (arith, a, p, c);
      idle = idle_by;
      told = told_by;
    }

pub merging_end : (first count : ℕ) (old new : Netlist) (all : List TailCall) (j : ℕ) (xs : List (Option Load)) → length all ≤ j → Merging first count
    old new all j xs → Builds old new (cost all) × Merged first count old new all xs
merging_end first count old new all j xs l h =
    let whole = take_all j all l in (
      subst (λ (es : List TailCall). Builds old new (cost es)) whole h.built,
      record {
        size = h.size;
        fits = h.fits;
        paid = subst (λ (es : List TailCall). loads_cost xs ≤ cost es) whole h.paid;
        idle = λ i no. h.idle i (subst (λ (es : List TailCall). ¬ Listed (first + i) (map member_of es)) (sym whole) no);
        told = λ v w i. h.told v w i ∙ ap (λ (es : List TailCall). taken_to v es (first + i)) whole;
      },
    )
