-- Lists of numbers as links in one array.
use Rattle.std.proofs.Common.{◌≡◌, inl, inr, ℕ, zero, suc, ◌+◌, ◌-◌, ◌≤◌, List, [], ◌∷◌, ◌++◌, map, length, set, Some, slice_get, slice_index, refl, sym, ap, subst, ◌∙◌, arith}
use Rattle.std.proofs.lemmas.Bool.{cases_eq, cases_lt}
use Rattle.std.proofs.lemmas.List.{length-map, length-set, length_push, map-set}
use Rattle.safl_sim.specs.Chains.{chain_of, chain, numbers_of, nexts_of, lists_of, AreChains}
use Rattle.safl_sim.specs.declared.chains.Link.{Link}
use Rattle.safl_word.proofs.Joining.{index_past}
use Rattle.safl_word.proofs.Naturals.{lower_or_last}
use Rattle.safl_word.proofs.Lists.{index_end, index_front}
use Rattle.safl_sim.proofs.Written.{index_here, index_other}

-- a bound above the first link's number changes nothing
pub bound_apart : (f g : ℕ) (numbers nexts : List ℕ) (k : ℕ) → ((i : ℕ) → slice_index nexts i ≤ i) → k ≤ f → k ≤ g → chain_of f numbers nexts k ≡ chain_of g numbers nexts k
bound_apart zero zero numbers nexts k w h l = refl
bound_apart zero (suc g) numbers nexts zero w h l = refl
bound_apart zero (suc g) numbers nexts (suc i) w h l = absurd (omega (arith, h))
bound_apart (suc f) zero numbers nexts zero w h l = refl
bound_apart (suc f) zero numbers nexts (suc i) w h l = absurd (omega (arith, l))
bound_apart (suc f) (suc g) numbers nexts zero w h l = refl
bound_apart (suc f) (suc g) numbers nexts (suc i) w h l = ap (λ r. slice_index numbers i ∷ r)
    (bound_apart f g numbers nexts (slice_index nexts i) w (let a = w i in omega (arith, a, h)) (let a = w i in omega (arith, a, l)))

-- the first link, and the list after it
pub chain_next : (numbers nexts : List ℕ) (i : ℕ) → ((i : ℕ) → slice_index nexts i ≤ i) → chain numbers nexts (suc i) ≡ slice_index numbers i ∷ chain numbers nexts (slice_index nexts i)
chain_next numbers nexts i w = ap (λ r. slice_index numbers i ∷ r) (bound_apart i (slice_index nexts i) numbers nexts (slice_index nexts i) w (w i) (omega arith))

-- one link more at the end changes no list that begins before it
chain_stays : (f : ℕ) (numbers nexts : List ℕ) (x y k : ℕ) → length numbers ≡ length nexts → ((i : ℕ) → slice_index nexts i ≤ i) → k ≤ length nexts →
    chain_of f (numbers ++ x ∷ []) (nexts ++ y ∷ []) k ≡ chain_of f numbers nexts k
chain_stays zero numbers nexts x y k e w h = refl
chain_stays (suc f) numbers nexts x y zero e w h = refl
chain_stays (suc f) numbers nexts x y (suc i) e w h =
    let next = index_front nexts y i (omega (arith, h)) in
    ap (λ n. n ∷ chain_of f (numbers ++ x ∷ []) (nexts ++ y ∷ []) (slice_index (nexts ++ y ∷ []) i)) (index_front numbers x i (omega (arith, h, e)))
    ∙ ap (λ n. slice_index numbers i ∷ chain_of f (numbers ++ x ∷ []) (nexts ++ y ∷ []) n) next
    ∙ ap (λ r. slice_index numbers i ∷ r) (chain_stays f numbers nexts x y (slice_index nexts i) e w (let a = w i in omega (arith, a, h)))

chain_new : (numbers nexts : List ℕ) (x y : ℕ) → length numbers ≡ length nexts → ((i : ℕ) → slice_index nexts i ≤ i) → y ≤ length nexts → chain
    (numbers ++ x ∷ []) (nexts ++ y ∷ []) (suc (length nexts)) ≡ x ∷ chain numbers nexts y
chain_new numbers nexts x y e w h =
    ap (λ n. n ∷ chain_of (length nexts) (numbers ++ x ∷ []) (nexts ++ y ∷ []) (slice_index (nexts ++ y ∷ []) (length nexts))) (ap (slice_index (numbers ++ x ∷ [])) (sym e) ∙ index_end numbers x)
    ∙ ap (λ n. x ∷ chain_of (length nexts) (numbers ++ x ∷ []) (nexts ++ y ∷ []) n) (index_end nexts y)
    ∙ ap (λ r. x ∷ r) (chain_stays (length nexts) numbers nexts x y y e w h ∙ bound_apart (length nexts) y numbers nexts y w h (omega arith))

numbers_push : (links : List Link) (l : Link) → numbers_of (links ++ l ∷ []) ≡ numbers_of links ++ l.number ∷ []
numbers_push [] l = refl
numbers_push (k ∷ links) l = ap (λ r. k.number ∷ r) (numbers_push links l)

nexts_push : (links : List Link) (l : Link) → nexts_of (links ++ l ∷ []) ≡ nexts_of links ++ l.next ∷ []
nexts_push [] l = refl
nexts_push (k ∷ links) l = ap (λ r. k.next ∷ r) (nexts_push links l)

pub numbers_long : (links : List Link) → length (numbers_of links) ≡ length links
numbers_long [] = refl
numbers_long (l ∷ links) = ap suc (numbers_long links)

pub nexts_long : (links : List Link) → length (nexts_of links) ≡ length links
nexts_long [] = refl
nexts_long (l ∷ links) = ap suc (nexts_long links)

pub lists_long : (heads : List ℕ) (links : List Link) → length (lists_of heads links) ≡ length heads
lists_long heads links = length-map heads (chain (numbers_of links) (nexts_of links))

map_at : (f : ℕ → List ℕ) (xs : List ℕ) (p : ℕ) (v : List ℕ) → slice_get (map f xs) p ≡ Some v → v ≡ f (slice_index xs p)
map_at f [] p v e = absurd (cc)
map_at f (x ∷ xs) zero v e = let q : f x ≡ v = cc in sym q
map_at f (x ∷ xs) (suc p) v e = map_at f xs p v e

pub list_at : (heads : List ℕ) (links : List Link) (p : ℕ) (v : List ℕ) → slice_get (lists_of heads links) p ≡ Some v → v ≡ chain (numbers_of links) (nexts_of links) (slice_index heads p)
list_at heads links p v e = map_at (chain (numbers_of links) (nexts_of links)) heads p v e

map_same : (f g : ℕ → List ℕ) (xs : List ℕ) → ((p : ℕ) → f (slice_index xs p) ≡ g (slice_index xs p)) → map f xs ≡ map g xs
map_same f g [] h = refl
map_same f g (x ∷ xs) h = ap (λ y. y ∷ map f xs) (h 0) ∙ ap (λ r. g x ∷ r) (map_same f g xs (λ p. h (suc p)))

earlier_push : (xs : List ℕ) (y : ℕ) → ((i : ℕ) → slice_index xs i ≤ i) → y ≤ length xs → (i : ℕ) → slice_index (xs ++ y ∷ []) i ≤ i
earlier_push xs y w le i = elim (cases_lt i (length xs)) [
  | inl h ↦ (let a = index_front xs y i h in let b = w i in omega (arith, a, b))
  | inr h ↦ elim (lower_or_last (length xs) i (omega (arith, h))) [
    | inl l ↦ (let b = length_push xs y in let a = index_past (xs ++ y ∷ []) i (omega (arith, b, l)) in omega (arith, a))
    | inr z ↦ (let a = ap (slice_index (xs ++ y ∷ [])) (sym z) ∙ index_end xs y in omega (arith, a, le, z))
  ]
]

pub zeros_push : (xs : List ℕ) → ((p : ℕ) → slice_index xs p ≡ 0) → (p : ℕ) → slice_index (xs ++ 0 ∷ []) p ≡ 0
zeros_push [] w zero = refl
zeros_push [] w (suc p) = refl
zeros_push (x ∷ xs) w zero = w 0
zeros_push (x ∷ xs) w (suc p) = zeros_push xs (λ q. w (suc q)) p

-- lists without a link
pub lists_none : (heads : List ℕ) → ((p : ℕ) → slice_index heads p ≡ 0) → (p : ℕ) (v : List ℕ) → slice_get (lists_of heads []) p ≡ Some v → v ≡ []
lists_none heads z p v e = list_at heads [] p v e ∙ ap (chain [] []) (z p)

pub no_chains : (heads : List ℕ) → ((p : ℕ) → slice_index heads p ≡ 0) → AreChains heads []
no_chains heads z = record { earlier = λ i. omega arith; known = λ p. (let a = z p in omega (arith, a)) }

module _ (heads : List ℕ) (links : List Link) (p number : ℕ) (w : AreChains heads links) where
  abbrev pub l : Link
  l = record { number = number; next = slice_index heads p }

  -- a number in front of a list
  pub chains_pushed : (v : List ℕ) → slice_get (lists_of heads links) p ≡ Some v → lists_of (set heads p (length links + 1)) (links ++ l ∷ []) ≡ set (lists_of heads links) p (number ∷ v)
  chains_pushed v e =
      let ns = numbers_of links in
      let xs = nexts_of links in
      let old = chain ns xs in
      let new = chain (numbers_of (links ++ l ∷ [])) (nexts_of (links ++ l ∷ [])) in
      let same : (k : ℕ) → new k ≡ chain (ns ++ number ∷ []) (xs ++ slice_index heads p ∷ []) k = λ k.
      ap (λ a. chain a (nexts_of (links ++ l ∷ [])) k) (numbers_push links l) ∙ ap (λ a. chain (ns ++ number ∷ []) a k) (nexts_push links l) in
      let both : length ns ≡ length xs = numbers_long links ∙ sym (nexts_long links) in
      let stays : (q : ℕ) → new (slice_index heads q) ≡ old (slice_index heads q) = λ q.
      same (slice_index heads q) ∙ chain_stays (slice_index heads q) ns xs number (slice_index heads p) (slice_index heads q) both w.earlier
      (let a = w.known q in let b = nexts_long links in omega (arith, a, b)) in
      let first : new (length links + 1) ≡ number ∷ v =
      ap new (let a = nexts_long links in let z : length links + 1 ≡ suc (length xs) = omega (arith, a) in z)
      ∙ same (suc (length xs))
      ∙ chain_new ns xs number (slice_index heads p) both w.earlier (let a = w.known p in let b = nexts_long links in omega (arith, a, b))
      ∙ ap (λ r. number ∷ r) (sym (list_at heads links p v e)) in
      map-set new heads p (length links + 1) ∙ ap (λ r. set r p (new (length links + 1))) (map_same new old heads stays) ∙ ap (set (map old heads) p) first

  pub still_chains : AreChains (set heads p (length links + 1)) (links ++ l ∷ [])
  still_chains = record {
    earlier = λ i. subst (λ x. slice_index x i ≤ i) (sym (nexts_push links l))
        (earlier_push (nexts_of links) (slice_index heads p) w.earlier (let a = w.known p in let b = nexts_long links in omega (arith, a, b)) i);
    known = λ q. elim (cases_eq q p) [
      | inl z ↦ here q z
      | inr n ↦ (let a = index_other heads p (length links + 1) q n in let b = w.known q in let c = length_push links l in omega (arith, a, b, c))
    ];
  }
    where
      here : (q : ℕ) → q ≡ p → slice_index (set heads p (length links + 1)) q ≤ length (links ++ l ∷ [])
      here q z = subst (λ x. slice_index (set heads p (length links + 1)) x ≤ length (links ++ l ∷ [])) (sym z) (elim (cases_lt p (length heads)) [
        | inl h ↦ (let a = index_here heads p (length links + 1) h in let b = length_push links l in omega (arith, a, b))
        | inr h ↦ (let c = length-set heads p (length links + 1) in let a = index_past (set heads p (length links + 1)) p (omega (arith, c, h)) in omega (arith, a))
      ])

-- ---- the links of a list, one after the other

pub number_at : (links : List Link) (i : ℕ) (k : Link) → slice_get links i ≡ Some k → slice_index (numbers_of links) i ≡ k.number
number_at [] i k e = absurd (cc)
number_at (x ∷ links) zero k e = let q : x ≡ k = cc in ap (λ (y : Link). y.number) q
number_at (x ∷ links) (suc i) k e = number_at links i k e

pub next_at : (links : List Link) (i : ℕ) (k : Link) → slice_get links i ≡ Some k → slice_index (nexts_of links) i ≡ k.next
next_at [] i k e = absurd (cc)
next_at (x ∷ links) zero k e = let q : x ≡ k = cc in ap (λ (y : Link). y.next) q
next_at (x ∷ links) (suc i) k e = next_at links i k e

pub some_before : (k : ℕ) → ¬ (k ≡ 0) → k ≡ suc (k - 1)
some_before zero n = absurd (n refl)
some_before (suc k) n = omega arith

-- the first link of a list that is not empty
pub chain_link : (links : List Link) (at : ℕ) (k : Link) → ((i : ℕ) → slice_index (nexts_of links) i ≤ i) → at ≡ suc (at - 1) → slice_get links (at - 1) ≡ Some k
    → chain (numbers_of links) (nexts_of links) at ≡ k.number ∷ chain (numbers_of links) (nexts_of links) k.next
chain_link links at k w e f =
    let ns = numbers_of links in
    let xs = nexts_of links in
    ap (chain ns xs) e ∙ chain_next ns xs (at - 1) w ∙ ap (λ n. n ∷ chain ns xs (slice_index xs (at - 1))) (number_at links (at - 1) k f) ∙ ap
    (λ n. k.number ∷ chain ns xs n) (next_at links (at - 1) k f)
