-- Declarations that are found by their names.
use Rattle.safl_vread.proofs.Common.{Item, Sort, bytes_eq-Decides, bytes_flip, nat_tests, option_map}
use Rattle.std.proofs.Common.{◌≡◌, ℕ, zero, suc, ◌+◌, List, [], ◌∷◌, length, get_or, map, position, Option, None, Some, Bool, true, false, not, cond}
use Rattle.std.proofs.Common.{bytes_eq, refl, sym, ap, subst, ◌∙◌, arith, nat_lt, slice_get}
use Rattle.std.specs.List.{position_or_len}
use Rattle.safl_verilog.specs.Files.{Declaration}
use Rattle.safl_verilog.specs.Faults.{find, passes, is_signal, range_width}
use Rattle.safl_vread.specs.Lists.{names_of}
use Rattle.safl_vread.specs.Scopes.{ShowsDeclaration, Describes}

positive : (n : ℕ) → nat_lt 0 (suc n) ≡ true
positive n = grind (arith, nat_tests)

shifted : (k n : ℕ) → nat_lt (1 + k) (suc n) ≡ nat_lt k n
shifted k n = by (nat_lt k n) refl
  where
    by : (b : Bool) → nat_lt k n ≡ b → nat_lt (1 + k) (suc n) ≡ b
    by true h = grind (arith, nat_tests)
    by false h = grind (arith, nat_tests)

pub position_cons : {X : Type 0} (p : X → Bool) (x : X) (xs : List X) → position p (x ∷ xs) ≡ cond (p x) (Some 0) (option_map suc (position p xs))
position_cons p x xs = by (p x)
  where
    k : ℕ
    k = position_or_len p xs

    by : (b : Bool) → cond (nat_lt (cond (not b) (1 + position_or_len p xs) 0) (suc (length xs))) (Some (cond (not b) (1 + position_or_len p xs) 0))
        None ≡ cond b (Some 0) (option_map suc (position p xs))
    by true = ap (λ c. cond c (Some 0) None) (positive (length xs))
    by false = ap (λ c. cond c (Some (1 + position_or_len p xs)) None) (shifted (position_or_len p xs) (length xs)) ∙ inner (nat_lt (position_or_len p xs) (length xs))
      where
        inner : (c : Bool) → cond c (Some (1 + position_or_len p xs)) None ≡ option_map suc (cond c (Some (position_or_len p xs)) None)
        inner true = ap Some (omega arith)
        inner false = refl

abbrev pub Finds : List Declaration → List ℕ → Option Declaration → Option ℕ → Type 0
Finds ds name None None = Unit {0}
Finds ds name (Some d) (Some i) = (slice_get ds i ≡ Some d) × (d.name.bytes ≡ name)
Finds ds name None (Some i) = ⊥
Finds ds name (Some d) None = ⊥

finds_later : (d : Declaration) (ds : List Declaration) (name : List ℕ) (o : Option Declaration) (p : Option ℕ) → Finds ds name o p → Finds (d ∷ ds) name o (option_map suc p)
finds_later d ds name None None h = tt
finds_later d ds name (Some e) (Some i) h = h
finds_later d ds name None (Some i) h = h
finds_later d ds name (Some e) None h = h

pub finds : (ds : List Declaration) (name : List ℕ) → Finds ds name (find ds name) (position (bytes_eq name) (names_of ds))
finds [] name = tt
finds (d ∷ ds) name = subst (λ p. Finds (d ∷ ds) name (find (d ∷ ds) name) p) (sym (position_cons (bytes_eq name) d.name.bytes (names_of ds))) (by (bytes_eq d.name.bytes name) refl (finds ds name))
  where
    by : (b : Bool) → bytes_eq d.name.bytes name ≡ b → Finds ds name (find ds name) (position (bytes_eq name) (names_of ds)) → Finds (d ∷ ds) name
        (cond (bytes_eq d.name.bytes name) (Some d) (find ds name)) (cond (bytes_eq name d.name.bytes) (Some 0) (option_map suc (position (bytes_eq name) (names_of ds))))
    by true h k = rw (bytes_flip name d.name.bytes, h) (refl, (bytes_eq-Decides d.name.bytes name).0 h)
    by false h k = rw (bytes_flip name d.name.bytes, h) (finds_later d ds name (find ds name) (position (bytes_eq name) (names_of ds)) k)

pub mapped_at : {X Y : Type 0} (g : X → Y) (xs : List X) (i : ℕ) (x : X) (y : Y) → slice_get (map g xs) i ≡ Some y → g (get_or xs i x) ≡ y
mapped_at g [] i x y h = none i h
  where
    none : (i : ℕ) → slice_get (map g []) i ≡ Some y → g (get_or [] i x) ≡ y
    none i h = absurd cc
mapped_at g (z ∷ xs) zero x y h = cc
mapped_at g (z ∷ xs) (suc i) x y h = mapped_at g xs i x y h

pub found_at : {X Y : Type 0} (f : X → Y) (xs : List X) (i : ℕ) (x : X) (y : Y) → slice_get xs i ≡ Some x → get_or (map f xs) i y ≡ f x
found_at f [] i x y h = absurd cc
found_at f (z ∷ xs) zero x y h = let e : z ≡ x = cc in ap f e
found_at f (z ∷ xs) (suc i) x y h = found_at f xs i x y h

signal_of : (d : Declaration) (sort : Sort) (name : List ℕ) → d.sort ≡ sort → d.name.bytes ≡ name → is_signal
    (record { sort = sort; range = None; name = record { place = 0; bytes = name } }) ≡ is_signal d
signal_of d sort name e f = rw (e, f) refl

-- what was found, and what is shown of it
pub describes : (ds : List Declaration) (name : List ℕ) (o : Option Declaration) (item : Item) → Finds ds name o (Some item.place)
    → ((d : Declaration) → slice_get ds item.place ≡ Some d → item.sort ≡ d.sort) → ((d : Declaration) → slice_get ds item.place ≡ Some d → item.width ≡ range_width d.range)
    → item.signal ≡ is_signal (record { sort = item.sort; range = None; name = record { place = 0; bytes = name } }) → Describes ds o (Some item)
describes ds name None item h s w g = h
describes ds name (Some d) item h s w g = record { place = h.0; sort = s d h.0; width = w d h.0; signal = g ∙ signal_of d item.sort name (sym (s d h.0)) h.1 }

pub undescribed : (ds : List Declaration) (name : List ℕ) (o : Option Declaration) → Finds ds name o None → Describes ds o None
undescribed ds name None h = tt
undescribed ds name (Some d) h = h

-- ---- tests on what was found

pub none_passes : (ds : List Declaration) (o : Option Declaration) (p : Declaration → Bool) → Describes ds o None → false ≡ passes p o
none_passes ds None p h = refl
none_passes ds (Some d) p h = absurd h

pub some_passes : (ds : List Declaration) (o : Option Declaration) (item : Item) (p : Declaration → Bool) (b : Bool) → Describes ds o (Some item) →
    ((d : Declaration) → ShowsDeclaration ds d item → b ≡ p d) → b ≡ passes p o
some_passes ds None item p b h k = absurd h
some_passes ds (Some d) item p b h k = k d h
