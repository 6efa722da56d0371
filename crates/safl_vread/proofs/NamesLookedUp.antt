-- Names that are looked up, and names that stand twice.
use Rattle.safl_vread.proofs.Common.{Spot, bytes_flip, first}
use Rattle.std.proofs.Common.{◌≡◌, ℕ, zero, suc, ◌+◌, ◌<◌, List, [], ◌∷◌, ◌++◌, length, take, drop, get_or, map, position, Some, Bool, true, false}
use Rattle.std.proofs.Common.{not, cond, ◌||◌, Bor, bytes_eq, refl, sym, ap, ◌∙◌, drop-cons, add-one}
use Rattle.std.specs.List.{list_any, position_or_len}
use Rattle.std.proofs.lemmas.List.{drop-map, length-map}
use Rattle.safl_verilog.specs.declared.fault.VRule.TheVariants as rules
use Rattle.safl_verilog.specs.Faults.{at, where_not, among, repeat_faults}
use Rattle.safl_vread.specs.Lists.{shown_keys, bytes_of_all, has, with_new}

-- ---- keys of a set

pub any_shown : (t : List ℕ → Bool) (ks : List (Bor (List ℕ))) → list_any (λ (k : Bor (List ℕ)). t k.now) ks ≡ list_any t (shown_keys ks)
any_shown t [] = refl
any_shown t (k ∷ ks) = ap (λ b. t k.now || b) (any_shown t ks)

len_shown : (t : List ℕ → Bool) (ks : List (Bor (List ℕ))) → position_or_len (λ (k : Bor (List ℕ)). t k.now) ks ≡ position_or_len t (shown_keys ks)
len_shown t [] = refl
len_shown t (k ∷ ks) = ap (λ n. cond (not (t k.now)) (1 + n) 0) (len_shown t ks)

pub place_shown : (t : List ℕ → Bool) (ks : List (Bor (List ℕ))) → position (λ (k : Bor (List ℕ)). t k.now) ks ≡ position t (shown_keys ks)
place_shown t ks = rw (len_shown t ks, sym (length-map ks (λ (k : Bor (List ℕ)). k.now))) refl

-- ---- lists from a place on

module _ {X Y : Type 0} (g : X → Y) (xs : List X) where
  pub item_at : (i : ℕ) (d : X) → i < length xs → drop i (map g xs) ≡ g (get_or xs i d) ∷ drop (i + 1) (map g xs)
  item_at i d h = drop-map g i xs ∙ ap (map g) (drop-cons xs i d h) ∙ ap (λ (l : List Y). g (get_or xs i d) ∷ l) (sym (drop-map g (suc i) xs) ∙ ap (λ k. drop k (map g xs)) (sym (add-one i)))

pub take_next : {X : Type 0} (xs rest : List X) (i : ℕ) (x : X) → drop i xs ≡ x ∷ rest → take (suc i) xs ≡ take i xs ++ x ∷ []
take_next [] rest zero x h = absurd cc
take_next [] rest (suc i) x h = absurd cc
take_next (y ∷ xs) rest zero x h = let e : y ≡ x = cc in ap (λ z. z ∷ []) e
take_next (y ∷ xs) rest (suc i) x h = ap (λ l. y ∷ l) (take_next xs rest i x h)

module _ {X Y Z : Type 0} (f : Y → Z) (g : X → Y) (xs : List X) where
  pub item_at_both : (i : ℕ) (d : X) → i < length xs → drop i (map f (map g xs)) ≡ f (g (get_or xs i d)) ∷ drop (i + 1) (map f (map g xs))
  item_at_both i d h = drop-map f i (map g xs) ∙ ap (map f) (item_at g xs i d h) ∙ ap (λ (l : List Z). f (g (get_or xs i d)) ∷ l) (sym (drop-map f (i + 1) (map g xs)))

-- ---- names that stand twice

pub among_has : (xs : List Spot) (w : List ℕ) → among xs w ≡ has (bytes_of_all xs) w
among_has [] w = refl
among_has (x ∷ xs) w = ap (λ b. b || among xs w) (bytes_flip x.bytes w) ∙ ap (λ b. bytes_eq w x.bytes || b) (among_has xs w)

bytes_more : (xs : List Spot) (x : Spot) → bytes_of_all (xs ++ x ∷ []) ≡ bytes_of_all xs ++ x.bytes ∷ []
bytes_more [] x = refl
bytes_more (y ∷ xs) x = ap (λ (l : List (List ℕ)). y.bytes ∷ l) (bytes_more xs x)

-- so far no name stands twice, and these are the names
pub record IsApart (xs : List Spot) (i : ℕ) (names : List (List ℕ)) : Type 0 where
  pub names_are : names ≡ bytes_of_all (take i xs)
  pub before : repeat_faults [] xs ≡ repeat_faults (take i xs) (drop i xs)

module _ (xs : List Spot) (i : ℕ) (x : Spot) (names : List (List ℕ)) (here : drop i xs ≡ x ∷ drop (i + 1) xs) (so_far : IsApart xs i names) where
  known : among (take i xs) x.bytes ≡ has names x.bytes
  known = among_has (take i xs) x.bytes ∙ ap (λ (l : List (List ℕ)). has l x.bytes) (sym so_far.names_are)

  all_faults : repeat_faults [] xs ≡ where_not (not (among (take i xs) x.bytes)) (at rules.V03 x.place) ++ repeat_faults (take i xs ++ x ∷ []) (drop (i + 1) xs)
  all_faults = so_far.before ∙ ap (repeat_faults (take i xs)) here

  pub stands_twice : has names x.bytes ≡ true → Some (at rules.V03 x.place) ≡ first (repeat_faults [] xs)
  stands_twice h = sym (ap first (all_faults ∙ ap (λ b. where_not (not b) (at rules.V03 x.place) ++ repeat_faults (take i xs ++ x ∷ []) (drop (i + 1) xs)) (known ∙ h)))

  pub stands_once : (new : List (List ℕ)) → has names x.bytes ≡ false → new ≡ names ++ x.bytes ∷ [] → IsApart xs (i + 1) new
  stands_once new h e =
      let more : take (i + 1) xs ≡ take i xs ++ x ∷ [] = ap (λ k. take k xs) (add-one i) ∙ take_next xs (drop (i + 1) xs) i x here in
      record {
        names_are = e ∙ ap (λ (l : List (List ℕ)). l ++ x.bytes ∷ []) so_far.names_are ∙ sym (bytes_more (take i xs) x) ∙ ap bytes_of_all (sym more);
        before = all_faults ∙ ap (λ b. where_not (not b) (at rules.V03 x.place) ++ repeat_faults (take i xs ++ x ∷ []) (drop (i + 1) xs)) (known ∙ h)
            ∙ ap (λ (l : List Spot). repeat_faults l (drop (i + 1) xs)) (sym more);
      }

is_true : (b : Bool) → false ≡ not b → b ≡ true
is_true true h = refl
is_true false h = absurd cc

is_false : (b : Bool) → true ≡ not b → b ≡ false
is_false true h = absurd cc
is_false false h = refl

-- the same of what an insertion answers
module _ (xs : List Spot) (i : ℕ) (x : Spot) (names : List (List ℕ)) (here : drop i xs ≡ x ∷ drop (i + 1) xs) (so_far : IsApart xs i names)
    (w : List ℕ) (same : w ≡ x.bytes) (new : Bool) (told : new ≡ not (has names w)) where
  known_new : new ≡ not (has names x.bytes)
  known_new = told ∙ ap (λ v. not (has names v)) same

  pub refused : new ≡ false → Some (at rules.V03 x.place) ≡ first (repeat_faults [] xs)
  refused h = stands_twice xs i x names here so_far (is_true (has names x.bytes) (sym h ∙ known_new))

  pub added : (after : List (List ℕ)) → after ≡ with_new names w new → new ≡ true → IsApart xs (i + 1) after
  added after e h = stands_once xs i x names here so_far after (is_false (has names x.bytes) (sym h ∙ known_new)) (e ∙ ap (with_new names w) h ∙ ap (λ v. names ++ v ∷ []) same)
