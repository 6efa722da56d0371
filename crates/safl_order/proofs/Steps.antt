-- The steps of a walk keep what it says.
use Rattle.safl_order.proofs.Common.{Done, Frame, Mark, Netlist, Open, Sig, Unseen, lower_or_last, slice_get_within}
use Rattle.std.proofs.Common.{◌≡◌, ℕ, zero, suc, ◌+◌, ◌<◌, ◌≤◌, List, [], ◌∷◌, ◌++◌, length, set, take, replicate, Option, Some, None, inl, inr, slice_get, refl, sym, ap, subst, ◌∙◌, arith}
use Rattle.std.proofs.lemmas.List.{length-set, length_push}
use Rattle.safl_word.proofs.Lists.{get_end, get_front, get_pushed, get_some}
use Rattle.safl_net.specs.Rules.{IsNetlist}
use Rattle.safl_order.specs.Order.{operands_of, IsWire}
use Rattle.safl_order.specs.Walk.{Walks, FrameFits, Looks, looked_at, DoneBelow, Goes, IsTop, one_unseen, unseen, stack_work, work}
use Rattle.safl_order.proofs.Places.{set_cases, set_other, set_here, past_end, unseen_set, stack_push, stack_set, split_last, to_reverse}

-- a mark that is not done
abbrev NotDone : Mark → Type 0
NotDone Unseen = Unit {0}
NotDone (Open k) = Unit {0}
NotDone (Done i) = ⊥

clash : (o : Option Mark) (m : Mark) (i : ℕ) → o ≡ Some m → NotDone m → o ≡ Some (Done i) → ⊥
clash o Unseen i e h f = let q = sym e ∙ f in cc
clash o (Open k) i e h f = let q = sym e ∙ f in cc
clash o (Done j) i e h f = h

done_other : (marks : List Mark) (t : ℕ) (x y : Mark) (s i : ℕ) → slice_get marks t ≡ Some y → NotDone y → slice_get marks s ≡ Some (Done i) → slice_get (set marks t x) s ≡ Some (Done i)
done_other marks t x y s i e h f = set_other marks t x s (Done i) (λ q. clash (slice_get marks s) y i (ap (slice_get marks) q ∙ e) h f) f

below_kept : (marks : List Mark) (t : ℕ) (x y : Mark) (i u : ℕ) → slice_get marks t ≡ Some y → NotDone y → DoneBelow marks i u → DoneBelow (set marks t x) i u
below_kept marks t x y i u e h d = (d.0, d.1, done_other marks t x y u d.0 e h d.2)

below_more : (marks : List Mark) (i j u : ℕ) → i ≤ j → DoneBelow marks i u → DoneBelow marks j u
below_more marks i j u h d = (d.0, (let q = d.1 in omega (arith, q, h)), d.2)

frame_kept : (n : Netlist) (marks : List Mark) (t : ℕ) (x y : Mark) (count more : ℕ) (f : Frame) → count ≤ more → slice_get marks t ≡ Some y → NotDone
    y → FrameFits n marks count f → FrameFits n (set marks t x) more f
frame_kept n marks t x y count more f l e h k = record {
  wire = k.wire;
  within = k.within;
  few = k.few;
  past = λ i u a b w. below_more (set marks t x) count more u l (below_kept marks t x y count u e h (k.past i u a b w));
}

pub goes_none : (marks : List Mark) → Goes marks marks
goes_none marks = record { done = λ s i e. e; seen = λ s e. e }

pub goes_on : (a b c : List Mark) → Goes a b → Goes b c → Goes a c
goes_on a b c g h = record { done = λ s i e. h.done s i (g.done s i e); seen = λ s e. g.seen s (h.seen s e) }

pub goes_set : (marks : List Mark) (t : ℕ) (x y : Mark) → slice_get marks t ≡ Some y → NotDone y → ¬ (x ≡ Unseen) → Goes marks (set marks t x)
goes_set marks t x y e h n = record {
  done = λ s i f. done_other marks t x y s i e h f;
  seen = λ s f. elim (set_cases marks t x s Unseen f) [ inl q ↦ absurd (n (sym q.1)) | inr q ↦ q.1 ];
}

abbrev fresh : Sig → Frame
fresh t = record { wire = t; next = 0 }

-- one more wire on the stack
pub walks_open : (n : Netlist) (done : List Sig) (marks : List Mark) (stack : List Frame) (t : Sig) → Walks n done marks stack → IsWire n t.0 → slice_get marks t.0 ≡ Some Unseen
    → ((k : ℕ) (f : Frame) → slice_get stack k ≡ Some f → suc k ≡ length stack → Looks n f t.0)
    → Walks n done (set marks t.0 (Open (length stack))) (stack ++ record { wire = t; next = 0 } ∷ [])
walks_open n done marks stack t w wire new looks =
    let x = Open (length stack) in
    record {
      made = w.made;
      long = length-set marks t.0 x ∙ w.long;
      done_at = λ s i e. elim (set_cases marks t.0 x s (Done i) e) [ inl q ↦ absurd (let r = q.1 in cc) | inr q ↦ w.done_at s i q.1 ];
      marked = λ i s e. done_other marks t.0 x Unseen s.0 i new tt (w.marked i s e);
      open_at = λ s k e. elim (set_cases marks t.0 x s (Open k) e) [
        | inl q ↦ (fresh t, (let r : k ≡ length stack = (let a = q.1 in cc) in ap (slice_get (stack ++ fresh t ∷ [])) r ∙ get_end stack (fresh t)), sym q.0)
        | inr q ↦ let f = w.open_at s k q.1 in (f.0, get_front stack (fresh t ∷ []) k f.0 f.1, f.2)
      ];
      opened = λ k f e. elim (get_pushed stack (fresh t) f k e) [
        | inl q ↦ let a = w.opened k f q in set_other marks t.0 x f.wire.0 (Open k) (λ r. let b = sym a ∙ ap (slice_get marks) r ∙ new in cc) a
        | inr q ↦ ap (λ (g : Frame). slice_get (set marks t.0 x) g.wire.0) q.1 ∙ set_here marks t.0 x Unseen new ∙ ap (λ j. Some (Open j)) (sym q.0)
      ];
      wires = w.wires;
      before = λ i s k u e f h. below_kept marks t.0 x Unseen i u new tt (w.before i s k u e f h);
      frames = λ k f e. elim (get_pushed stack (fresh t) f k e) [
        | inl q ↦ frame_kept n marks t.0 x Unseen (length done) (length done) f (omega arith) new tt (w.frames k f q)
        | inr q ↦ subst (λ g. FrameFits n (set marks t.0 x) (length done) g) (sym q.1) (record { wire = wire; within = omega arith; few = omega arith; past = λ i u h e v. absurd (omega (arith, h)) })
      ];
      count =
          let a = w.count in
          let b = unseen_set marks t.0 x Unseen new in
          let c = length_push stack (fresh t) in
          let d = length-set marks t.0 x in
          omega (arith, a, b, c, d);
      path = λ k f g e h. elim (get_pushed stack (fresh t) g (suc k) h) [
        | inl q ↦ elim (get_pushed stack (fresh t) f k e) [
          | inl r ↦ w.path k f g r q
          | inr r ↦ absurd (let a = slice_get_within stack (suc k) g q in let b = r.0 in omega (arith, a, b))
        ]
        | inr q ↦ elim (get_pushed stack (fresh t) f k e) [
          | inl r ↦ subst (λ (y : Frame). Looks n f y.wire.0) (sym q.1) (looks k f r q.0)
          | inr r ↦ absurd (let a = q.0 in let b = r.0 in omega (arith, a, b))
        ]
      ];
    }

pub less_open : (marks : List Mark) (stack : List Frame) (t : Sig) (x : Mark) → slice_get marks t.0 ≡ Some Unseen → one_unseen x ≡ 0 → work
    (set marks t.0 x) (stack ++ record { wire = t; next = 0 } ∷ []) < work marks stack
less_open marks stack t x e h =
    let a = unseen_set marks t.0 x Unseen e in
    let b = stack_push stack (fresh t) in
    omega (arith, a, b, h)

abbrev passed : Frame → Frame
passed f = record { wire = f.wire; next = f.next + 1 }

-- the wire on top is past an operand
pub walks_pass : (n : Netlist) (done : List Sig) (marks : List Mark) (stack : List Frame) (f : Frame) (t : ℕ) → Walks n done marks stack → (top : IsTop stack f) → Looks n f t → f.next < 3
    → (IsWire n t → DoneBelow marks (length done) t) → Walks n done marks (set stack top.place (record { wire = f.wire; next = f.next + 1 }))
walks_pass n done marks stack f t w top looks few past =
    let p = top.place in
    let old = w.frames p f top.at in
    record {
      made = w.made;
      long = w.long;
      done_at = w.done_at;
      marked = w.marked;
      open_at = λ s k e.
          let g = w.open_at s k e in
          let there = get_some (set stack p (passed f)) k (let a = slice_get_within stack k g.0 g.1 in let b = length-set stack p (passed f) in omega (arith, a, b)) in
          elim (set_cases stack p (passed f) k there.0 there.1) [
            | inl q ↦
                let same : Some f ≡ Some g.0 = sym top.at ∙ ap (slice_get stack) (sym q.0) ∙ g.1 in
                let one : f ≡ g.0 = cc in
                (there.0, there.1, ap (λ (y : Frame). y.wire.0) q.1 ∙ ap (λ (y : Frame). y.wire.0) one ∙ g.2)
            | inr q ↦
                let same : Some there.0 ≡ Some g.0 = sym q.1 ∙ g.1 in
                let one : there.0 ≡ g.0 = cc in
                (there.0, there.1, ap (λ (y : Frame). y.wire.0) one ∙ g.2)
          ];
      opened = λ k g e. elim (set_cases stack p (passed f) k g e) [
        | inl q ↦ ap (λ (y : Frame). slice_get marks y.wire.0) q.1 ∙ w.opened p f top.at ∙ ap (λ j. Some (Open j)) (sym q.0)
        | inr q ↦ w.opened k g q.1
      ];
      wires = w.wires;
      before = w.before;
      frames = λ k g e. elim (set_cases stack p (passed f) k g e) [
        | inl q ↦ subst (λ y. FrameFits n marks (length done) y) (sym q.1) (record {
          wire = old.wire;
          within = let a = slice_get_within (looked_at n f.wire.0) f.next t looks in omega (arith, a);
          few = omega (arith, few);
          past = λ i u h o v. by_place i u h o v (λ l. old.past i u l o v);
        })
        | inr q ↦ w.frames k g q.1
      ];
      count = let a = w.count in let b = length-set stack p (passed f) in omega (arith, a, b);
      path = λ k a b e h. elim (set_cases stack p (passed f) k a e) [
        | inl q ↦ absurd (let l = slice_get_within (set stack p (passed f)) (suc k) b h in let m = length-set stack p (passed f) in let r = q.0 in let v = top.last in omega (arith, l, m, r, v))
        | inr q ↦ elim (set_cases stack p (passed f) (suc k) b h) [
          | inl r ↦ subst (λ (y : Frame). Looks n a y.wire.0) (sym r.1) (w.path k a f q.1 (ap (slice_get stack) r.0 ∙ top.at))
          | inr r ↦ w.path k a b q.1 r.1
        ]
      ];
    }
  where
    by_place : (i u : ℕ) → i < f.next + 1 → slice_get (looked_at n f.wire.0) i ≡ Some u → IsWire n u → (i < f.next → DoneBelow marks (length done) u) → DoneBelow marks (length done) u
    by_place i u h o v below = elim (lower_or_last i f.next h) [
      | inl l ↦ below l
      | inr e ↦
          let same : Some u ≡ Some t = sym o ∙ ap (slice_get (looked_at n f.wire.0)) e ∙ looks in
          let one : u ≡ t = cc in
          subst (λ y. DoneBelow marks (length done) y) (sym one) (past (subst (λ y. IsWire n y) one v))
    ]

pub less_pass : (marks : List Mark) (stack : List Frame) (f : Frame) (k : ℕ) → slice_get stack k ≡ Some f → f.next < 4 → work marks
    (set stack k (record { wire = f.wire; next = f.next + 1 })) < work marks stack
less_pass marks stack f k e h = let a = stack_set stack k f (passed f) e in omega (arith, a, h)

-- the wire on top is done
pub walks_close : (n : Netlist) (done : List Sig) (marks : List Mark) (stack : List Frame) (f : Frame) → Walks n done marks stack →
    (top : IsTop stack f) → slice_get (looked_at n f.wire.0) f.next ≡ None
    → Walks n (done ++ f.wire ∷ []) (set marks f.wire.0 (Done (length done))) (take top.place stack)
walks_close n done marks stack f w top none =
    let p = top.place in
    let rest = take p stack in
    let x = Done (length done) in
    let here = w.opened p f top.at in
    let all : stack ≡ rest ++ f ∷ [] = split_last stack p f top.at top.last in
    let short : length rest ≡ p = (let a = ap length all ∙ length_push rest f in let b = top.last in omega (arith, a, b)) in
    let front : (k : ℕ) (g : Frame) → slice_get rest k ≡ Some g → slice_get stack k ≡ Some g = λ k g e. ap (λ l. slice_get l k) all ∙ get_front rest (f ∷ []) k g e in
    record {
      made = w.made;
      long = length-set marks f.wire.0 x ∙ w.long;
      done_at = λ s i e. elim (set_cases marks f.wire.0 x s (Done i) e) [
        | inl q ↦ (let r : i ≡ length done = (let a = q.1 in cc) in ap (slice_get (done ++ f.wire ∷ [])) r ∙ get_end done f.wire ∙ ap (λ (y : ℕ). Some (let g : Sig = record { 0 = y } in g)) (sym q.0))
        | inr q ↦ get_front done (f.wire ∷ []) i (record { 0 = s }) (w.done_at s i q.1)
      ];
      marked = λ i s e. elim (get_pushed done f.wire s i e) [
        | inl q ↦ done_other marks f.wire.0 x (Open p) s.0 i here tt (w.marked i s q)
        | inr q ↦ ap (λ (y : Sig). slice_get (set marks f.wire.0 x) y.0) q.1 ∙ set_here marks f.wire.0 x (Open p) here ∙ ap (λ j. Some (Done j)) (sym q.0)
      ];
      open_at = λ s k e. elim (set_cases marks f.wire.0 x s (Open k) e) [
        | inl q ↦ absurd (let r = q.1 in cc)
        | inr q ↦
            let g = w.open_at s k q.1 in
            elim (get_pushed rest f g.0 k (ap (λ l. slice_get l k) (sym all) ∙ g.1)) [
              | inl r ↦ (g.0, r, g.2)
              | inr r ↦ absurd (q.0 (sym g.2 ∙ ap (λ (y : Frame). y.wire.0) r.1))
            ]
      ];
      opened = λ k g e.
          let a = w.opened k g (front k g e) in
          let l = slice_get_within rest k g e in
          set_other marks f.wire.0 x g.wire.0 (Open k) (λ r.
          let same : Some (Open k) ≡ Some (Open p) = sym a ∙ ap (slice_get marks) r ∙ here in
          let one : k ≡ p = cc in
          omega (arith, one, l, short)) a;
      wires = λ i s e. elim (get_pushed done f.wire s i e) [
        | inl q ↦ w.wires i s q
        | inr q ↦ subst (λ (y : Sig). IsWire n y.0) (sym q.1) (w.frames p f top.at).wire
      ];
      before = λ i s k u e o v. elim (get_pushed done f.wire s i e) [
        | inl q ↦ below_kept marks f.wire.0 x (Open p) i u here tt (w.before i s k u q o v)
        | inr q ↦
            let o' : slice_get (operands_of n f.wire.0) k ≡ Some u = ap (λ (y : Sig). slice_get (operands_of n y.0) k) (sym q.1) ∙ o in
            let look = to_reverse (operands_of n f.wire.0) k u o' in
            let a = slice_get_within (looked_at n f.wire.0) look.0 u look.1 in
            let b = past_end (looked_at n f.wire.0) f.next none in
            let d = (w.frames p f top.at).past look.0 u (omega (arith, a, b)) look.1 v in
            subst (λ j. DoneBelow (set marks f.wire.0 x) j u) (sym q.0) (below_kept marks f.wire.0 x (Open p) (length done) u here tt d)
      ];
      frames = λ k g e. frame_kept n marks f.wire.0 x (Open p) (length done) (length (done ++ f.wire ∷ [])) g
          (let a = length_push done f.wire in omega (arith, a)) here tt (w.frames k g (front k g e));
      count =
          let a = w.count in
          let b = unseen_set marks f.wire.0 x (Open p) here in
          let d = length_push done f.wire in
          let g = length-set marks f.wire.0 x in
          let l = top.last in
          omega (arith, a, b, d, g, l, short);
      path = λ k g h e i. w.path k g h (front k g e) (front (suc k) h i);
    }

pub less_close : (marks : List Mark) (stack : List Frame) (f : Frame) (t : ℕ) (x y : Mark) → slice_get marks t ≡ Some y → one_unseen y ≡ 0 →
    one_unseen x ≡ 0 → (top : IsTop stack f) → f.next < 4 → work (set marks t x) (take top.place stack) < work marks stack
less_close marks stack f t x y e g h top few =
    let a = unseen_set marks t x y e in
    let b = ap stack_work (split_last stack top.place f top.at top.last) ∙ stack_push (take top.place stack) f in
    omega (arith, a, b, g, h, few)

-- nothing is seen
unseen_all : (count : ℕ) → unseen (replicate count Unseen) ≡ count
unseen_all zero = refl
unseen_all (suc count) = let e = unseen_all count in omega (arith, e)

all_unseen : (count s : ℕ) (m : Mark) → slice_get (replicate count Unseen) s ≡ Some m → m ≡ Unseen
all_unseen zero s m e = absurd (cc)
all_unseen (suc count) zero m e = cc
all_unseen (suc count) (suc s) m e = all_unseen count s m e

length_all : (count : ℕ) → length (replicate count Unseen) ≡ count
length_all zero = refl
length_all (suc count) = ap suc (length_all count)

pub walks_none : (n : Netlist) → IsNetlist n → Walks n [] (replicate (length n.signals) Unseen) []
walks_none n made = record {
  made = made;
  long = length_all (length n.signals);
  done_at = λ s i e. let q = all_unseen (length n.signals) s (Done i) e in absurd (cc);
  marked = λ i s e. absurd (cc);
  open_at = λ s k e. let q = all_unseen (length n.signals) s (Open k) e in absurd (cc);
  opened = λ k f e. absurd (cc);
  wires = λ i s e. absurd (cc);
  before = λ i s k t e. absurd (cc);
  frames = λ k f e. absurd (cc);
  count = let a = unseen_all (length n.signals) in let b = length_all (length n.signals) in omega (arith, a, b);
  path = λ k f g e. absurd (cc);
}
