-- The wires of a stack whose top looks back are a loop.
use Rattle.safl_order.proofs.Common.{Frame, Mark, Netlist, Open, Sig, numbers, slice_get_within}
use Rattle.std.proofs.Common.{◌≡◌, ◌⊎◌, inl, inr, ℕ, zero, suc, ◌+◌, ◌-◌, ◌<◌, ◌≤◌, List, [], ◌∷◌, ◌++◌, map, length, take, drop, Some, slice_get, refl, sym, ap, subst, ◌∙◌, arith}
use Rattle.std.proofs.lemmas.List.{take_rest, length-drop, map-append, take-append-drop}
use Rattle.safl_word.proofs.Lists.{get_mapped, get_split, nil_at_end}
use Rattle.safl_order.specs.Order.{operands_of, ReadsSignal, Leads, IsLoop}
use Rattle.safl_order.specs.Walk.{Walks, Looks, IsOpenLoop, IsTurned}
use Rattle.safl_order.proofs.Places.{from_reverse}

abbrev wires_of : List Frame → List ℕ
wires_of fs = map (λ (f : Frame). f.wire.0) fs

-- a frame looks at operands of its wire
looks_reads : (n : Netlist) (f : Frame) (t : ℕ) → Looks n f t → ReadsSignal n f.wire.0 t
looks_reads n f t l = from_reverse (operands_of n f.wire.0) f.next t l

leads_frames : (n : Netlist) (fs : List Frame) (t : ℕ)
    → ((k : ℕ) (f g : Frame) → slice_get fs k ≡ Some f → slice_get fs (suc k) ≡ Some g → Looks n f g.wire.0)
    → ((k : ℕ) (f : Frame) → slice_get fs k ≡ Some f → suc k ≡ length fs → Looks n f t)
    → Leads n (wires_of fs) t
leads_frames n [] t path last = tt
leads_frames n (f ∷ []) t path last = looks_reads n f t (last 0 f refl refl)
leads_frames n (f ∷ (g ∷ fs)) t path last = (
  looks_reads n f g.wire.0 (path 0 f g refl refl),
  leads_frames n (g ∷ fs) t (λ k a b e h. path (suc k) a b e h) (λ k a e h. last (suc k) a e (ap suc h)),
)

leads_split : (n : Netlist) (xs : List ℕ) (b : ℕ) (ys : List ℕ) (t : ℕ) → Leads n (xs ++ b ∷ ys) t → Leads n xs b × Leads n (b ∷ ys) t
leads_split n [] b ys t h = (tt, h)
leads_split n (x ∷ []) b ys t h = (h.0, h.1)
leads_split n (x ∷ (y ∷ xs)) b ys t h = let q = leads_split n (y ∷ xs) b ys t h.1 in ((h.0, q.0), q.1)

leads_join : (n : Netlist) (xs : List ℕ) (b : ℕ) (ys : List ℕ) (t : ℕ) → Leads n xs b → Leads n (b ∷ ys) t → Leads n (xs ++ b ∷ ys) t
leads_join n [] b ys t g h = h
leads_join n (x ∷ []) b ys t g h = (g, h)
leads_join n (x ∷ (y ∷ xs)) b ys t g h = (g.0, leads_join n (y ∷ xs) b ys t g.1 h)

-- a loop may begin anywhere
leads_turned : (n : Netlist) (xs : List ℕ) (b : ℕ) (ys : List ℕ) (first : ℕ) → slice_get (xs ++ b ∷ ys) 0 ≡ Some first → Leads n (xs ++ b ∷ ys) first → Leads n ((b ∷ ys) ++ xs) b
leads_turned n [] b ys first e h =
    let same : b ≡ first = cc in
    subst (λ l. Leads n l b) (nil_at_end (b ∷ ys)) (subst (λ x. Leads n (b ∷ ys) x) (sym same) h)
leads_turned n (x ∷ xs) b ys first e h =
    let same : x ≡ first = cc in
    let q = leads_split n (x ∷ xs) b ys first h in
    leads_join n (b ∷ ys) x xs b (subst (λ y. Leads n (b ∷ ys) y) (sym same) q.1) q.0

get_drop : {A : Type 0} (xs : List A) (k i : ℕ) → slice_get (drop k xs) i ≡ slice_get xs (i + k)
get_drop xs zero i = ap (slice_get xs) (omega arith)
get_drop [] (suc k) i = refl
get_drop (x ∷ xs) (suc k) i = get_drop xs k i ∙ ap (slice_get (x ∷ xs)) (let e : suc (i + k) ≡ i + suc k = omega arith in e)

-- where an element of the turned list was
record Was (fs : List Frame) (p i : ℕ) (g : Frame) : Type 0 where
  place : ℕ
  at : slice_get fs place ≡ Some g
  turned : ((place ≡ i + p) × (i < length fs - p)) ⊎ ((i ≡ (length fs - p) + place) × (place < p))

get_take : {A : Type 0} (xs : List A) (k i : ℕ) (y : A) → slice_get (take k xs) i ≡ Some y → (slice_get xs i ≡ Some y) × (i < k)
get_take xs zero i y e = absurd (cc)
get_take [] (suc k) i y e = absurd (cc)
get_take (x ∷ xs) (suc k) zero y e = (e, omega arith)
get_take (x ∷ xs) (suc k) (suc i) y e = let q = get_take xs k i y e in (q.0, (let h = q.1 in omega (arith, h)))

was : (fs : List Frame) (p i : ℕ) (g : Frame) → slice_get (drop p fs ++ take p fs) i ≡ Some g → Was fs p i g
was fs p i g e = elim (get_split (drop p fs) (take p fs) i g e) [
  | inl h ↦ record { place = i + p; at = sym (get_drop fs p i) ∙ h; turned = inl (refl, (let a = slice_get_within (drop p fs) i g h in let b = length-drop p fs in omega (arith, a, b))) }
  | inr h ↦
      let q = get_take fs p h.0 g h.2 in
      record { place = h.0; at = q.0; turned = inr ((let a = h.1 in let b = length-drop p fs in omega (arith, a, b)), q.1) }
]

same_place : (fs : List Frame) (p i j : ℕ) (g h : Frame) (a : Was fs p i g) (b : Was fs p j h) → p ≤ length fs → a.place ≡ b.place → i ≡ j
same_place fs p i j g h a b l e = elim a.turned [
  | inl x ↦ elim b.turned [
    | inl y ↦ (let s = x.0 in let t = y.0 in omega (arith, s, t, e))
    | inr y ↦ absurd (let s = x.0 in let t = y.1 in omega (arith, s, t, e))
  ]
  | inr x ↦ elim b.turned [
    | inl y ↦ absurd (let s = x.1 in let t = y.0 in omega (arith, s, t, e))
    | inr y ↦ (let s = x.0 in let t = y.0 in omega (arith, s, t, e))
  ]
]

numbers_wires : (fs : List Frame) → numbers (map (λ (f : Frame). f.wire) fs) ≡ wires_of fs
numbers_wires [] = refl
numbers_wires (f ∷ fs) = ap (λ l. f.wire.0 ∷ l) (numbers_wires fs)

-- what stands on the stack from the place on, turned, is a loop
turned_loop : (n : Netlist) (fs : List Frame) (ws : List Sig) (low : ℕ) → IsTurned fs ws → Leads n (wires_of fs) low → slice_get (wires_of fs) 0 ≡ Some low
    → ((i j : ℕ) (f g : Frame) → slice_get fs i ≡ Some f → slice_get fs j ≡ Some g → f.wire.0 ≡ g.wire.0 → i ≡ j) → IsLoop n (numbers ws)
turned_loop n fs ws low t leads first apart = from (drop t.place fs) (get_drop fs t.place 0) refl
  where
    numbered : numbers ws ≡ wires_of (drop t.place fs ++ take t.place fs)
    numbered = ap numbers t.is ∙ numbers_wires (drop t.place fs ++ take t.place fs)

    from : (rest : List Frame) → slice_get rest 0 ≡ slice_get fs (0 + t.place) → rest ≡ drop t.place fs → IsLoop n (numbers ws)
    from [] e q = absurd (let a = ap length q in let b = length-drop t.place fs in let c = t.within in omega (arith, a, b, c))
    from (b ∷ rest) e q =
        let low_at : slice_get fs t.place ≡ Some b = ap (slice_get fs) (let z : t.place ≡ 0 + t.place = omega arith in z) ∙ sym e in
        let split : wires_of fs ≡ wires_of (take t.place fs) ++ b.wire.0 ∷ wires_of rest = ap wires_of (sym (take-append-drop t.place fs)) ∙ map-append
        (λ (f : Frame). f.wire.0) (take t.place fs) (drop t.place fs) ∙ ap (λ l. wires_of (take t.place fs) ++ wires_of l) (sym q) in
        let turned : numbers ws ≡ (b.wire.0 ∷ wires_of rest) ++ wires_of (take t.place fs) = numbered ∙ map-append (λ (f : Frame). f.wire.0)
        (drop t.place fs) (take t.place fs) ∙ ap (λ l. wires_of l ++ wires_of (take t.place fs)) (sym q) in
        record {
          first = b.wire.0;
          rest = wires_of rest ++ wires_of (take t.place fs);
          is = turned;
          leads = subst (λ l. Leads n l b.wire.0) (sym turned)
              (leads_turned n (wires_of (take t.place fs)) b.wire.0 (wires_of rest) low (ap (λ l. slice_get l 0) (sym split) ∙ first) (subst (λ l. Leads n l low) split leads));
          apart = λ i j s g h.
              let x = get_mapped (λ (f : Frame). f.wire.0) (drop t.place fs ++ take t.place fs) i s (ap (λ l. slice_get l i) (sym numbered) ∙ g) in
              let y = get_mapped (λ (f : Frame). f.wire.0) (drop t.place fs ++ take t.place fs) j s (ap (λ l. slice_get l j) (sym numbered) ∙ h) in
              let u = was fs t.place i x.0 x.1 in
              let v = was fs t.place j y.0 y.1 in
              same_place fs t.place i j x.0 y.0 u v (let c = t.within in omega (arith, c)) (apart u.place v.place x.0 y.0 u.at v.at (x.2 ∙ sym y.2));
          least = λ i s g.
              let x = get_mapped (λ (f : Frame). f.wire.0) (drop t.place fs ++ take t.place fs) i s (ap (λ l. slice_get l i) (sym numbered) ∙ g) in
              let u = was fs t.place i x.0 x.1 in
              let l = t.least u.place b x.0 low_at u.at in
              let m = x.2 in
              omega (arith, l, m);
        }

first_wire : (fs : List Frame) (f : Frame) → slice_get fs 0 ≡ Some f → slice_get (wires_of fs) 0 ≡ Some f.wire.0
first_wire [] f e = absurd (cc)
first_wire (g ∷ fs) f e = let q : g ≡ f = cc in ap (λ (x : Frame). Some x.wire.0) q

pub loop_found : (n : Netlist) (d : List Sig) (m : List Mark) (s : List Frame) (k : ℕ) (ws : List Sig) → Walks n d m s → IsOpenLoop n s k → IsTurned (drop k s) ws → IsLoop n (numbers ws)
loop_found n d m s k ws w o t =
    turned_loop n (drop k s) ws o.low.wire.0 t
    (leads_frames n (drop k s) o.low.wire.0
    (λ i f g e h. w.path (i + k) f g (sym (get_drop s k i) ∙ e) (ap (slice_get s) (let z : suc (i + k) ≡ suc i + k = omega arith in z) ∙ sym (get_drop s k (suc i)) ∙ h))
    (λ i f e h.
    let l = o.is_top.last in
    let a = length-drop k s in
    let b = slice_get_within s k o.low o.at in
    let same : Some o.top ≡ Some f = sym o.is_top.at ∙ ap (slice_get s) (let z : o.is_top.place ≡ i + k = omega (arith, l, a, b, h) in z) ∙ sym (get_drop s k i) ∙ e in
    let one : o.top ≡ f = cc in
    subst (λ y. Looks n y o.low.wire.0) one o.looks))
    (first_wire (drop k s) o.low (get_drop s k 0 ∙ ap (slice_get s) (let z : 0 + k ≡ k = omega arith in z) ∙ o.at))
    (λ i j f g e h q.
    let a = w.opened (i + k) f (sym (get_drop s k i) ∙ e) in
    let b = w.opened (j + k) g (sym (get_drop s k j) ∙ h) in
    let same : Some (Open (i + k)) ≡ Some (Open (j + k)) = sym a ∙ ap (slice_get m) q ∙ b in
    let one : i + k ≡ j + k = cc in
    omega (arith, one))

pub turned_made : (fs stack : List Frame) (first : ℕ) (none some all : List Sig) → fs ≡ stack → none ≡ []
    → some ≡ none ++ map (λ (f : Frame). f.wire) (take (length fs - first) (drop first fs)) → all ≡ some ++ map (λ (f : Frame). f.wire) (take first fs)
    → first < length fs → ((i : ℕ) (f g : Frame) → slice_get fs first ≡ Some f → slice_get fs i ≡ Some g → f.wire.0 ≤ g.wire.0) → IsTurned stack all
turned_made fs stack first none some all e f g h within least = subst (λ l. IsTurned l all) e (record {
  place = first;
  within = within;
  is =
      h ∙ ap (λ l. l ++ map (λ (x : Frame). x.wire) (take first fs))
      (g ∙ ap (λ l. l ++ map (λ (x : Frame). x.wire) (take (length fs - first) (drop first fs))) f ∙ ap (map (λ (x : Frame). x.wire)) (take_rest fs first))
      ∙ sym (map-append (λ (x : Frame). x.wire) (drop first fs) (take first fs));
  least = least;
})
