-- What is found by the names of a file whose names are all different.
use Rattle.safl_verilog.proofs.Common.{Each, each_stands, map-append, slice_get}
use Rattle.std.proofs.Common.{◌≡◌, ◌≢◌, ℕ, zero, suc, List, [], ◌∷◌, ◌++◌, map, true, false, cond, not, ◌||◌, Some, None, refl, sym, ap, subst, ◌∙◌, inl, inr, bytes_eq, append_assoc}
use Rattle.std.proofs.Math.Bool.{or-true}
use Rattle.safl_verilog.specs.declared.fault.VRule.TheVariants as rules
use Rattle.safl_verilog.specs.Files.{Spot, Declaration, Statement, Assign, Always}
use Rattle.safl_verilog.specs.Faults.{where_not, at, among, repeat_faults, find, assigned, updated}
use Rattle.safl_verilog.specs.Netlists.{declared_place}
use Rattle.safl_verilog.proofs.Distinct.{Name, Has, Distinct, has_right, distinct_apart, same_name, other_name}

abbrev pub spot_names : List Spot → List Name
spot_names xs = map (λ (x : Spot). x.bytes) xs

abbrev pub names : List Declaration → List Name
names ds = map (λ (d : Declaration). d.name.bytes) ds

-- ---- spots

not_among : (xs : List Spot) (w : Name) → (Has w (spot_names xs) → ⊥) → among xs w ≡ false
not_among [] w h = refl
not_among (x ∷ xs) w h = ap (λ b. b || among xs w) (other_name x.bytes w (λ e. h (inl e))) ∙ not_among xs w (λ k. h (inr k))

pub is_among : (xs : List Spot) (w : Name) → Has w (spot_names xs) → among xs w ≡ true
is_among [] w h = absurd h
is_among (x ∷ xs) w (inl e) = let s : bytes_eq x.bytes w ≡ true = ap (λ v. bytes_eq v w) e ∙ same_name w in rw s refl
is_among (x ∷ xs) w (inr h) = ap (λ b. bytes_eq x.bytes w || b) (is_among xs w h) ∙ or-true (bytes_eq x.bytes w)

pub no_repeats : (before xs : List Spot) → Distinct (spot_names before ++ spot_names xs) → repeat_faults before xs ≡ []
no_repeats before [] h = refl
no_repeats before (x ∷ xs) h =
    let new = not_among before x.bytes (λ k. distinct_apart (spot_names before) (spot_names (x ∷ xs)) h x.bytes k (inl refl)) in
    let moved : spot_names (before ++ x ∷ []) ++ spot_names xs ≡ spot_names before ++ spot_names (x ∷ xs) = ap (λ (l : List Name). l ++ spot_names xs)
    (map-append (λ (x : Spot). x.bytes) before (x ∷ [])) ∙ append_assoc (spot_names before) (x.bytes ∷ []) (spot_names xs) in
    ap (λ b. where_not (not b) (at rules.V03 x.place) ++ repeat_faults (before ++ x ∷ []) xs) new ∙ no_repeats (before ++ x ∷ []) xs (subst Distinct (sym moved) h)

pub each_has : (xs : List Spot) (more : List Name) → Each (λ (x : Spot). Has x.bytes (more ++ spot_names xs)) xs
each_has [] more = tt
each_has (x ∷ xs) more =
    let moved : (more ++ x.bytes ∷ []) ++ spot_names xs ≡ more ++ spot_names (x ∷ xs) = append_assoc more (x.bytes ∷ []) (spot_names xs) in (
      has_right x.bytes more (spot_names (x ∷ xs)) (inl refl),
      each_stands _ _ (λ (y : Spot) h. subst (λ (l : List Name). Has y.bytes l) moved h) xs (each_has xs (more ++ x.bytes ∷ [])),
    )

-- ---- declarations

-- each is found by its name
found_in : (ds : List Declaration) → Distinct (names ds) → Each (λ (d : Declaration). (find ds d.name.bytes ≡ Some d) × Has d.name.bytes (names ds)) ds
found_in [] h = tt
found_in (d ∷ ds) h =
    let here : find (d ∷ ds) d.name.bytes ≡ Some d = ap (λ b. cond b (Some d) (find ds d.name.bytes)) (same_name d.name.bytes) in (
      (here, inl refl),
      each_stands _ _ (λ (e : Declaration) k.
          let other = other_name d.name.bytes e.name.bytes (λ g. h.0 (subst (λ (w : Name). Has w (names ds)) (sym g) k.1)) in
          (ap (λ b. cond b (Some d) (find ds e.name.bytes)) other ∙ k.0, inr k.1)) ds (found_in ds h.1),
    )

pub each_found : (ds : List Declaration) → Distinct (names ds) → Each (λ (d : Declaration). find ds d.name.bytes ≡ Some d) ds
each_found ds h = each_stands _ _ (λ d k. k.0) ds (found_in ds h)

pub place_at : (ds : List Declaration) → Distinct (names ds) → (i : ℕ) (d : Declaration) → slice_get ds i ≡ Some d → declared_place ds d.name.bytes ≡ i
place_at [] h i d e = absurd cc
place_at (x ∷ ds) h zero d e =
    let same : x ≡ d = cc in
    let t : bytes_eq x.name.bytes d.name.bytes ≡ true = ap (λ (y : Declaration). bytes_eq x.name.bytes y.name.bytes) (sym same) ∙ same_name x.name.bytes in
    ap (λ b. cond b 0 (suc (declared_place ds d.name.bytes))) t
place_at (x ∷ ds) h (suc i) d e =
    let other = other_name x.name.bytes d.name.bytes (λ g. h.0 (subst (λ (w : Name). Has w (names ds)) (sym g) (at_has ds i d e))) in
    ap (λ b. cond b 0 (suc (declared_place ds d.name.bytes))) other ∙ ap suc (place_at ds h.1 i d e)
  where
    at_has : (ds : List Declaration) (i : ℕ) (d : Declaration) → slice_get ds i ≡ Some d → Has d.name.bytes (names ds)
    at_has [] i d e = absurd cc
    at_has (x ∷ ds) zero d e = let same : x ≡ d = cc in inl (ap (λ (y : Declaration). y.name.bytes) same)
    at_has (x ∷ ds) (suc i) d e = inr (at_has ds i d e)

-- ---- statements

abbrev pub target : Statement → Name
target (Assign x e) = x.bytes
target (Always clock reset t initial second source) = t.bytes

abbrev pub targets : List Statement → List Name
targets ss = map target ss

pub not_assigned : (ss : List Statement) (w : Name) → (Has w (targets ss) → ⊥) → assigned ss w ≡ None
not_assigned [] w h = refl
not_assigned (Assign x e ∷ ss) w h = ap (λ b. cond b (Some e) (assigned ss w)) (other_name x.bytes w (λ k. h (inl k))) ∙ not_assigned ss w (λ k. h (inr k))
not_assigned (Always clock reset t initial second source ∷ ss) w h = not_assigned ss w (λ k. h (inr k))

pub not_updated : (ss : List Statement) (w : Name) → (Has w (targets ss) → ⊥) → updated ss w ≡ None
not_updated [] w h = refl
not_updated (Assign x e ∷ ss) w h = not_updated ss w (λ k. h (inr k))
not_updated (Always clock reset t initial second source ∷ ss) w h = ap (λ b. cond b (Some (initial, source)) (updated ss w)) (other_name t.bytes w (λ k. h (inl k))) ∙ not_updated ss w (λ k. h (inr k))

-- what a statement assigns to its target, and how it updates it
abbrev pub Does : List Statement → Statement → Type 0
Does ss (Assign x e) = assigned ss x.bytes ≡ Some e
Does ss (Always clock reset t initial second source) = updated ss t.bytes ≡ Some (initial, source)

does_still : (s : Statement) (ss : List Statement) (t : Statement) → (target s ≢ target t) → Does ss t → Does (s ∷ ss) t
does_still (Assign y f) ss (Assign x e) n h = ap (λ b. cond b (Some f) (assigned ss x.bytes)) (other_name y.bytes x.bytes n) ∙ h
does_still (Assign y f) ss (Always clock reset t initial second source) n h = h
does_still (Always c r u i s v) ss (Assign x e) n h = h
does_still (Always c r u i s v) ss (Always clock reset t initial second source) n h = ap (λ b. cond b (Some (i, v)) (updated ss t.bytes)) (other_name u.bytes t.bytes n) ∙ h

does_first : (s : Statement) (ss : List Statement) → Does (s ∷ ss) s
does_first (Assign x e) ss = ap (λ b. cond b (Some e) (assigned ss x.bytes)) (same_name x.bytes)
does_first (Always clock reset t initial second source) ss = ap (λ b. cond b (Some (initial, source)) (updated ss t.bytes)) (same_name t.bytes)

does_in : (ss : List Statement) → Distinct (targets ss) → Each (λ s. Does ss s × Has (target s) (targets ss)) ss
does_in [] h = tt
does_in (s ∷ ss) h =
    ((does_first s ss, inl refl), each_stands _ _ (λ t k. (does_still s ss t (λ e. h.0 (subst (λ (w : Name). Has w (targets ss)) (sym e) k.1)) k.0, inr k.1)) ss (does_in ss h.1))

pub each_does : (ss : List Statement) → Distinct (targets ss) → Each (λ s. Does ss s) ss
each_does ss h = each_stands _ _ (λ s k. k.0) ss (does_in ss h)
