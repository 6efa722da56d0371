-- Lists: what stands at a place, in a prefix, in a list that is mapped or joined.
use Rattle.std.proofs.Common.{Bool, List, [], Some, add-one, ap, append-nil, append_assoc, arith, bytes_eq, drop, false, get_or, inl, inr, length, length-drop, map, refl, slice_get, slice_index}
use Rattle.std.proofs.Common.{slice_index_or, slice_set, suc, sym, take, true, zero, ℕ, ⊎_elim, ◌++◌, ◌+◌, ◌-◌, ◌<◌, ◌∙◌, ◌∷◌, ◌≡◌, ◌≢◌, ◌≤◌, ◌⊎◌}
use Rattle.std.proofs.lemmas.List.{drop_at, drop_more, take_at}
use Rattle.std.specs.Cmp.{both_ways}
use Rattle.std.proofs.lemmas.Option.{same_Some, slice_get_cases}
use Rattle.std.proofs.lemmas.List.FromFn.{map-range_with_len_more}
use Rattle.std.specs.List.{concat, range_with_len, sum_by}
use Rattle.std.proofs.lemmas.Slice.Eq.{bytes_eq-Decides}
use Rattle.std.proofs.lemmas.List.Sums.{sum_by-append}
use Rattle.std.proofs.lemmas.List.Folds.{concat-append}
use Rattle.safl_word.specs.Lists.{summed}
use Rattle.safl_word.proofs.NumeralsRead.{taken}
use Rattle.safl_word.proofs.Options.{none_is}

pub summed_more : (f : ℕ → ℕ) (k : ℕ) → summed f (k + 1) ≡ summed f k + f k
summed_more f k = ap (summed f) (add-one k)

pub append_parts : {A : Type 0} (xs ys us vs : List A) → length xs ≡ length us → xs ++ ys ≡ us ++ vs → (xs ≡ us) × (ys ≡ vs)
append_parts xs ys us vs l e = (
  sym (take_at xs ys (length xs) refl) ∙ ap (take (length xs)) e ∙ take_at us vs (length xs) (sym l),
  sym (drop_at xs ys (length xs) refl) ∙ ap (drop (length xs)) e ∙ drop_at us vs (length xs) (sym l),
)

pub first_and_rest : (line : List ℕ) → 1 ≤ length line → line ≡ get_or line 0 0 ∷ drop 1 line
first_and_rest [] h = absurd (omega (arith, h))
first_and_rest (c ∷ cs) h = refl

pub not_empty : (name : List ℕ) → name ≢ [] → 1 ≤ length name
not_empty [] n = absurd (n refl)
not_empty (c ∷ name) n = omega arith

pub drop_read : {A : Type 0} (xs : List A) (i : ℕ) (x : A) → i < length xs → x ≡ get_or xs i x → drop i xs ≡ x ∷ drop (i + 1) xs
drop_read xs i x h e = drop_more xs i x h ∙ ap (λ y. y ∷ drop (i + 1) xs) (sym e)

pub get_some : {A : Type 0} (xs : List A) (i : ℕ) → i < length xs → (x : A) × (slice_get xs i ≡ Some x)
get_some xs i lt = ⊎_elim (λ q. (q.0, q.2)) (λ q. absurd (omega (arith, q.0, lt))) (slice_get_cases xs i).1

pub nil_at_end : {A : Type 0} (xs : List A) → xs ≡ xs ++ []
nil_at_end [] = refl
nil_at_end (x ∷ xs) = ap (λ (l : List _). x ∷ l) (nil_at_end xs)

pub get_end : {A : Type 0} (xs : List A) (x : A) → slice_get (xs ++ x ∷ []) (length xs) ≡ Some x
get_end [] x = refl
get_end (y ∷ xs) x = get_end xs x

pub get_front : {A : Type 0} (xs ys : List A) (s : ℕ) (y : A) → slice_get xs s ≡ Some y → slice_get (xs ++ ys) s ≡ Some y
get_front [] ys s y e = absurd (cc)
get_front (x ∷ xs) ys zero y e = e
get_front (x ∷ xs) ys (suc s) y e = get_front xs ys s y e

pub get_pushed : {A : Type 0} (xs : List A) (x y : A) (i : ℕ) → slice_get (xs ++ x ∷ []) i ≡ Some y → (slice_get xs i ≡ Some y) ⊎ ((i ≡ length xs) × (y ≡ x))
get_pushed [] x y zero e = inr (refl, cc)
get_pushed [] x y (suc i) e = absurd (cc)
get_pushed (a ∷ xs) x y zero e = inl e
get_pushed (a ∷ xs) x y (suc i) e = elim (get_pushed xs x y i e) [ inl h ↦ inl h | inr h ↦ inr (ap suc h.0, h.1) ]

pub get_or_is : (ps : List ℕ) (i p : ℕ) → slice_get ps i ≡ Some p → get_or ps i 0 ≡ p
get_or_is [] i p e = none_is p e
get_or_is (x ∷ xs) zero p e = same_Some x p e
get_or_is (x ∷ xs) (suc i) p e = get_or_is xs i p e

pub concat_more : (f : ℕ → List ℕ) (a n j : ℕ) (start before now : List ℕ) → a + n ≡ j → before ≡ start ++ concat (map f (range_with_len a n)) → now ≡
    before ++ f j → now ≡ start ++ concat (map f (range_with_len a (n + 1)))
concat_more f a n j start before now at b h =
    let lines = map f (range_with_len a n) in
    let more : concat (map f (range_with_len a (n + 1))) ≡ concat lines ++ f j =
    ap concat (map-range_with_len_more f a n j at) ∙ concat-append lines (f j ∷ []) ∙ ap (λ (l : List ℕ). concat lines ++ l) (append-nil (f j)) in
    h ∙ ap (λ (l : List ℕ). l ++ f j) b ∙ append_assoc start (concat lines) (f j) ∙ ap (λ (l : List ℕ). start ++ l) (sym more)

pub bytes_same : (pair name : List ℕ) → pair ≡ name → bytes_eq pair name ≡ true
bytes_same pair name same = (bytes_eq-Decides pair name).1 same

pub get_index : {A : Type 0} (xs : List A) (i : ℕ) (d : A) → i < length xs → slice_get xs i ≡ Some (slice_index_or xs i d)
get_index [] i d h = absurd (omega arith)
get_index (x ∷ xs) zero d h = refl
get_index (x ∷ xs) (suc i) d h = get_index xs i d (omega (arith, h))

pub take_suc : {A : Type 0} (xs : List A) (i : ℕ) (x : A) → slice_get xs i ≡ Some x → take (suc i) xs ≡ take i xs ++ x ∷ []
take_suc [] i x e = absurd (cc)
take_suc (y ∷ xs) zero x e = let s : y ≡ x = cc in ap (λ (z : _). z ∷ []) s
take_suc (y ∷ xs) (suc i) x e = ap (λ (l : List _). y ∷ l) (take_suc xs i x e)

pub take_next : {A : Type 0} (xs : List A) (i : ℕ) (x : A) → slice_get xs i ≡ Some x → take (i + 1) xs ≡ take i xs ++ x ∷ []
take_next xs i x e = ap (λ (k : ℕ). take k xs) (add-one i) ∙ take_suc xs i x e

pub get_map : {A B : Type 0} (g : A → B) (xs : List A) (i : ℕ) (x : A) → slice_get xs i ≡ Some x → slice_get (map g xs) i ≡ Some (g x)
get_map g [] i x e = absurd (cc)
get_map {A} {B} g (y ∷ xs) zero x e = let q : y ≡ x = cc in ap (λ (z : A). Some (g z)) q
get_map g (y ∷ xs) (suc i) x e = get_map g xs i x e

pub slice_set_length : {A : Type 0} (xs : List A) (i : ℕ) (x : A) → length (slice_set xs i x) ≡ length xs
slice_set_length [] i x = refl
slice_set_length (y ∷ xs) zero x = refl
slice_set_length (y ∷ xs) (suc i) x = let h = slice_set_length xs i x in omega (arith, h)

pub slice_set_here : {A : Type 0} (xs : List A) (j : ℕ) (x : A) → j < length xs → slice_get (slice_set xs j x) j ≡ Some x
slice_set_here [] j x h = absurd (omega arith)
slice_set_here (y ∷ xs) zero x h = refl
slice_set_here (y ∷ xs) (suc j) x h = slice_set_here xs j x (omega arith)

pub index_get : (ts : List ℕ) (i t : ℕ) → slice_get ts i ≡ Some t → slice_index_or ts i 0 ≡ t
index_get [] i t e = absurd (cc)
index_get (x ∷ ts) zero t e = cc
index_get (x ∷ ts) (suc i) t e = index_get ts i t e

pub bytes_flip : (x y : List ℕ) → bytes_eq x y ≡ bytes_eq y x
bytes_flip x y = both_ways (bytes_eq x y) (bytes_eq y x) (λ e. (bytes_eq-Decides y x).1 (sym ((bytes_eq-Decides x y).0 e))) (λ e. (bytes_eq-Decides x y).1 (sym ((bytes_eq-Decides y x).0 e)))

pub get_in_front : {A : Type 0} (xs ys : List A) (s : ℕ) → s < length xs → slice_get (xs ++ ys) s ≡ slice_get xs s
get_in_front [] ys s h = absurd (omega arith)
get_in_front (x ∷ xs) ys zero h = refl
get_in_front (x ∷ xs) ys (suc s) h = get_in_front xs ys s (omega arith)

pub map_at : {B : Type 0} (f g : ℕ → B) (xs : List ℕ) → ((i x : ℕ) → slice_get xs i ≡ Some x → f x ≡ g x) → map f xs ≡ map g xs
map_at f g [] h = refl
map_at f g (x ∷ xs) h = ap (λ a. a ∷ map f xs) (h 0 x refl) ∙ ap (λ l. g x ∷ l) (map_at f g xs (λ i y e. h (suc i) y e))

pub get_mapped : {A B : Type 0} (g : A → B) (xs : List A) (i : ℕ) (y : B) → slice_get (map g xs) i ≡ Some y → (x : A) × (slice_get xs i ≡ Some x) × (g x ≡ y)
get_mapped g [] i y e = absurd (cc)
get_mapped g (x ∷ xs) zero y e = (x, refl, (cc))
get_mapped g (x ∷ xs) (suc i) y e = get_mapped g xs i y e

pub get_back : {A : Type 0} (xs ys : List A) (e : ℕ) → slice_get (xs ++ ys) (length xs + e) ≡ slice_get ys e
get_back [] ys e = ap (slice_get ys) (let z : 0 + e ≡ e = omega arith in z)
get_back (x ∷ xs) ys e = ap (slice_get (x ∷ (xs ++ ys))) (let z : length (x ∷ xs) + e ≡ suc (length xs + e) = omega arith in z) ∙ get_back xs ys e

pub get_split : {A : Type 0} (xs ys : List A) (i : ℕ) (y : A) → slice_get (xs ++ ys) i ≡ Some y →
    (slice_get xs i ≡ Some y) ⊎ ((j : ℕ) × (i ≡ length xs + j) × (slice_get ys j ≡ Some y))
get_split [] ys i y e = inr (i, omega arith, e)
get_split (x ∷ xs) ys zero y e = inl e
get_split (x ∷ xs) ys (suc i) y e = elim (get_split xs ys i y e) [ inl h ↦ inl h | inr h ↦ inr (h.0, (let q = h.1 in omega (arith, q)), h.2) ]

pub get_read : {A : Type 0} (xs : List A) (i : ℕ) (x : A) → i < length xs → x ≡ get_or xs i x → slice_get xs i ≡ Some x
get_read [] i x h e = absurd (omega (arith, h))
get_read (y ∷ xs) zero x h e = ap Some (sym e)
get_read (y ∷ xs) (suc i) x h e = get_read xs i x (omega (arith, h)) e

pub drop_suc : {A : Type 0} (xs : List A) (i : ℕ) (x : A) → slice_get xs i ≡ Some x → drop i xs ≡ x ∷ drop (suc i) xs
drop_suc [] i x at = absurd (cc)
drop_suc (y ∷ ys) zero x at = let same : y ≡ x = cc in ap (λ z. z ∷ ys) same
drop_suc (y ∷ ys) (suc i) x at = drop_suc ys i x at

pub bytes_apart : (x y : List ℕ) → (x ≡ y → ⊥) → bytes_eq x y ≡ false
bytes_apart x y nn = by (bytes_eq x y) refl
  where
    by : (b : Bool) → bytes_eq x y ≡ b → bytes_eq x y ≡ false
    by true e = absurd (nn ((bytes_eq-Decides x y).0 e))
    by false e = e

pub get_seam : {A : Type 0} (xs : List A) (y : A) (ys : List A) (k : ℕ) → length xs ≡ k → slice_get (xs ++ y ∷ ys) k ≡ Some y
get_seam [] y ys k e = ap (slice_get (y ∷ ys)) (sym e)
get_seam (x ∷ xs) y ys zero e = absurd (omega (arith, e))
get_seam (x ∷ xs) y ys (suc k) e = get_seam xs y ys k (omega (arith, e))

pub joined_three : (old x y z a b c : List ℕ) → x ≡ old ++ a → y ≡ x ++ b → z ≡ y ++ c → z ≡ old ++ ((a ++ b) ++ c)
joined_three old x y z a b c p q r =
    r ∙ ap (λ (l : List ℕ). l ++ c) (q ∙ ap (λ (l : List ℕ). l ++ b) p) ∙ append_assoc (old ++ a) b c ∙ append_assoc old a (b ++ c) ∙ ap (λ (l : List ℕ). old ++ l) (sym (append_assoc a b c))

pub shown_at : (xs : List ℕ) (i : ℕ) → i < length xs → (x : ℕ) → x ≡ slice_index xs i → slice_get xs i ≡ Some x
shown_at [] i h x e = absurd (omega (arith, h))
shown_at (y ∷ xs) zero h x e = ap Some (sym e)
shown_at (y ∷ xs) (suc i) h x e = shown_at xs i (omega (arith, h)) x e

pub index_front : (xs : List ℕ) (x k : ℕ) → k < length xs → slice_index (xs ++ x ∷ []) k ≡ slice_index xs k
index_front [] x k h = absurd (omega (arith, h))
index_front (y ∷ xs) x zero h = refl
index_front (y ∷ xs) x (suc k) h = index_front xs x k (omega (arith, h))

pub index_end : (xs : List ℕ) (x : ℕ) → slice_index (xs ++ x ∷ []) (length xs) ≡ x
index_end [] x = refl
index_end (y ∷ xs) x = index_end xs x

pub get_drop : {A : Type 0} (xs : List A) (k b : ℕ) → slice_get (drop k xs) b ≡ slice_get xs (k + b)
get_drop [] zero b = refl
get_drop [] (suc k) b = refl
get_drop (x ∷ xs) zero b = ap (slice_get (x ∷ xs)) (omega arith)
get_drop (x ∷ xs) (suc k) b = get_drop xs k b ∙ ap (slice_get (x ∷ xs)) (let e : suc (k + b) ≡ suc k + b = omega arith in e)

pub map_take_next : {A B : Type 0} (f : A → B) (xs : List A) (i : ℕ) (x : A) → slice_get xs i ≡ Some x → map f (take (i + 1) xs) ≡ map f (take i xs) ++ f x ∷ []
map_take_next f [] i x e = absurd (cc)
map_take_next f (y ∷ xs) zero x e = let q : y ≡ x = cc in ap (λ z. f z ∷ []) q
map_take_next f (y ∷ xs) (suc i) x e =
    ap (λ k. map f (take k (y ∷ xs))) (let z : suc i + 1 ≡ suc (i + 1) = omega arith in z) ∙ ap (λ l. f y ∷ l) (map_take_next f xs i x e)

pub sum_last : {A : Type 0} (f : A → ℕ) (xs ys : List A) (x : A) → xs ≡ ys ++ x ∷ [] → sum_by f xs ≡ sum_by f ys + f x
sum_last f xs ys x e = omega (arith, ap (sum_by f) e, sum_by-append f ys (x ∷ []))

pub slice_rest : (text : List ℕ) (p : ℕ) → p ≤ length text → take (length text - p) (drop p text) ≡ drop p text
slice_rest text p le = taken (drop p text) (length text - p) (omega (arith, length-drop p text)) (omega (arith, length-drop p text))

pub append_empty : {A : Type 0} (a b : List A) → a ++ b ≡ [] → (a ≡ []) × (b ≡ [])
append_empty [] b h = (refl, h)
append_empty (x ∷ a) b h = absurd cc
