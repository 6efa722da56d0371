-- The order of signals.
use Rattle.safl_vread.proofs.Common.{Sort, filter, option_map, signals_of, slice_get-get_or, slice_get-map, slice_get_within}
use Rattle.std.proofs.Common.{◌≡◌, ℕ, zero, suc, ◌+◌, ◌<◌, List, [], ◌∷◌, ◌++◌, length, get_or, map, drop, true, false, cond, Option, Some, refl, sym, ap, ◌∙◌, arith, append_assoc, slice_get}
use Rattle.std.proofs.lemmas.List.{map-append, length-map, drop_more}
use Rattle.safl_verilog.specs.Files.{Declaration}
use Rattle.safl_vread.specs.Signals.{is_of, IsOrder}

-- ---- a place of the order, and the declaration there

pub record Placed {X : Type 0} (f : ℕ → Option X) (p : ℕ) (xs : List X) (s : ℕ) : Type 0 where
  pub item : X
  pub there : f p ≡ Some item
  pub at : slice_get xs s ≡ Some item

pub placed : {X : Type 0} (f : ℕ → Option X) (order : List ℕ) (xs : List X) → map f order ≡ map Some xs → (s p : ℕ) → slice_get order s ≡ Some p → Placed f p xs s
placed f [] xs e s p h = absurd cc
placed f (o ∷ order) [] e s p h = absurd cc
placed f (o ∷ order) (x ∷ xs) e zero p h =
    let same : o ≡ p = cc in
    let here : f o ≡ Some x = cc in
    record { item = x; there = ap f (sym same) ∙ here; at = refl }
placed f (o ∷ order) (x ∷ xs) e (suc s) p h =
    let rest : map f order ≡ map Some xs = cc in
    let k = placed f order xs rest s p h in
    record { item = k.item; there = k.there; at = k.at }

pub record Ordered {X : Type 0} (f : ℕ → Option X) (order : List ℕ) (s : ℕ) (x : X) : Type 0 where
  pub place : ℕ
  pub at : slice_get order s ≡ Some place
  pub there : f place ≡ Some x

pub ordered : {X : Type 0} (f : ℕ → Option X) (order : List ℕ) (xs : List X) → map f order ≡ map Some xs → (s : ℕ) (x : X) → slice_get xs s ≡ Some x → Ordered f order s x
ordered f order [] e s x h = absurd cc
ordered f [] (y ∷ xs) e s x h = absurd cc
ordered f (o ∷ order) (y ∷ xs) e zero x h =
    let same : y ≡ x = cc in
    let here : f o ≡ Some y = cc in
    record { place = o; at = refl; there = here ∙ ap Some same }
ordered f (o ∷ order) (y ∷ xs) e (suc s) x h =
    let rest : map f order ≡ map Some xs = cc in
    let k = ordered f order xs rest s x h in
    record { place = k.place; at = k.at; there = k.there }

pub order_long : (ds : List Declaration) (order : List ℕ) → IsOrder ds order → length order ≡ length (signals_of ds)
order_long ds order h = sym (length-map order (slice_get ds)) ∙ ap length h ∙ length-map (signals_of ds) Some

pub place_inside : {X : Type 0} (g : X → Declaration) (xs : List X) (order : List ℕ) → IsOrder (map g xs) order → (i : ℕ) → i < length order → get_or order i 0 < length xs
place_inside g xs order h i l =
    let k = placed (slice_get (map g xs)) order (signals_of (map g xs)) h i (get_or order i 0) (slice_get-get_or order i 0 l) in
    omega (arith, slice_get_within (map g xs) (get_or order i 0) k.item k.there, length-map xs g)

-- ---- one more place

pub record Adds {X : Type 0} (ds : List Declaration) (g : X → Declaration) (xs : List X) (sort : Sort) (old now : List ℕ) (i : ℕ) : Type 0 where
  pub is : map (slice_get ds) now ++ map Some (filter (is_of sort) (map g (drop i xs))) ≡ map (slice_get ds) old ++ map Some (filter (is_of sort) ds)

module _ {X : Type 0} (g : X → Declaration) (xs : List X) (sort : Sort) (old now : List ℕ) (i : ℕ) (x : X) (l : i < length xs) (h : Adds (map g xs) g xs sort old now i) where
  here : Declaration
  here = g (get_or xs i x)

  rest : List Declaration
  rest = map g (drop (i + 1) xs)

  parted : map g (drop i xs) ≡ g (get_or xs i x) ∷ map g (drop (i + 1) xs)
  parted = ap (map g) (drop_more xs i x l)

  there : slice_get (map g xs) i ≡ Some (g (get_or xs i x))
  there = slice_get-map g xs i ∙ ap (option_map g) (slice_get-get_or xs i x l)

  pub adds_place : is_of sort (g (get_or xs i x)) ≡ true → Adds (map g xs) g xs sort old (now ++ i ∷ []) (i + 1)
  adds_place t =
      let more : filter (is_of sort) (map g (drop i xs)) ≡ g (get_or xs i x) ∷ filter (is_of sort) (map g (drop (i + 1) xs)) =
      ap (filter (is_of sort)) parted ∙ ap (λ b. cond b (g (get_or xs i x) ∷ filter (is_of sort) (map g (drop (i + 1) xs))) (filter (is_of sort) (map g (drop (i + 1) xs)))) t in
      let pushed : map (slice_get (map g xs)) (now ++ i ∷ []) ≡ map (slice_get (map g xs)) now ++ Some (g (get_or xs i x)) ∷ [] =
      map-append (slice_get (map g xs)) now (i ∷ []) ∙ ap (λ (o : Option Declaration). map (slice_get (map g xs)) now ++ o ∷ []) there in
      record {
        is = ap (λ (k : List (Option Declaration)). k ++ map Some (filter (is_of sort) (map g (drop (i + 1) xs)))) pushed
            ∙ append_assoc (map (slice_get (map g xs)) now) (Some (g (get_or xs i x)) ∷ []) (map Some (filter (is_of sort) (map g (drop (i + 1) xs))))
            ∙ sym (ap (λ (k : List Declaration). map (slice_get (map g xs)) now ++ map Some k) more) ∙ h.is;
      }

  pub skips_place : is_of sort (g (get_or xs i x)) ≡ false → Adds (map g xs) g xs sort old now (i + 1)
  skips_place t =
      let less : filter (is_of sort) (map g (drop i xs)) ≡ filter (is_of sort) (map g (drop (i + 1) xs)) =
      ap (filter (is_of sort)) parted ∙ ap (λ b. cond b (g (get_or xs i x) ∷ filter (is_of sort) (map g (drop (i + 1) xs))) (filter (is_of sort) (map g (drop (i + 1) xs)))) t in
      record { is = sym (ap (λ (k : List Declaration). map (slice_get (map g xs)) now ++ map Some k) less) ∙ h.is }
