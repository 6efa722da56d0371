-- What the steps of the code do to a walk.
use Rattle.safl_order.proofs.Common.{Done, Frame, Mark, Open, Sig, Stop, Unseen, lower_or_last, slice_get_within}
use Rattle.std.proofs.Common.{◌≡◌, inl, inr, ℕ, suc, ◌+◌, ◌-◌, ◌<◌, ◌≤◌, ◌^◌, List, [], ◌∷◌, ◌++◌, length, set, take, get_or, Option, Some}
use Rattle.std.proofs.Common.{None, Result, Ok, Err, OnOk, IfErr, slice_get, refl, sym, ap, subst, ◌∙◌, arith}
use Rattle.safl_word.proofs.Lists.{get_or_is, get_read, get_some}
use Rattle.safl_net.specs.Netlist.{Netlist, Signal, Kind, Input, Reg, Wire}
use Rattle.safl_net.specs.Making.{kind_at, kind_in, cell_in, next_in, sort_of}
use Rattle.safl_net.specs.Rules.{IsNetlist, KindFits}
use Rattle.safl_net.specs.declared.cell.SigKind.{SigKind}
use Rattle.safl_order.specs.declared.walk.Stop.TheVariants.{NoMemory}
use Rattle.safl_order.specs.Order.{operands_of, IsWire}
use Rattle.safl_order.specs.Walk.{Walks, Looks, LooksAt, looked_at, DoneBelow, Goes, IsTop, IsStop, IsOpenLoop, AllDone, work}
use Rattle.safl_order.proofs.Places.{set_here, from_reverse}
use Rattle.safl_order.proofs.Steps.{walks_open, less_open, walks_pass, less_pass, walks_close, less_close, goes_none, goes_set}

pub wire_in_net : (n : Netlist) (s : ℕ) → IsWire n s → s < length n.signals
wire_in_net n s w = by (slice_get n.signals s) refl w
  where
    by : (o : Option Signal) → slice_get n.signals s ≡ o → sort_of (kind_in o) ≡ SigKind.Wire → s < length n.signals
    by None q k = absurd (cc)
    by (Some g) q k = slice_get_within n.signals s g q

-- the walk goes on, with less to do
pub record Moves (n : Netlist) (done0 : List Sig) (marks0 : List Mark) (stack0 : List Frame) (done : List Sig) (marks : List Mark) (stack : List Frame) (r : Result (Unit {0}) Stop) : Type 0 where
  pub walks : Walks n done marks stack
  pub goes : Goes marks0 marks
  pub less : OnOk r (work marks stack < work marks0 stack0)
  pub stop : IfErr r (IsStop n stack)

pub same_walks : (n : Netlist) (d d' : List Sig) (m m' : List Mark) (s s' : List Frame) → d' ≡ d → m' ≡ m → s' ≡ s → Walks n d m s → Walks n d' m' s'
same_walks n d d' m m' s s' e f g w = subst (λ (x : List Sig). Walks n x m' s') (sym e) (subst (λ (x : List Mark). Walks n d x s') (sym f) (subst (λ (x : List Frame). Walks n d m x) (sym g) w))

pub top_at : (stack : List Frame) (f : Frame) (last : ℕ) (t : IsTop stack f) → suc last ≡ length stack → t.place ≡ last
top_at stack f last t e = let a = t.last in omega (arith, a, e)

-- an operand that is no wire, or done
pub moves_pass : (n : Netlist) (d d' : List Sig) (m m' : List Mark) (s s' : List Frame) (t last : ℕ) → Walks n d m s → LooksAt n s t → (IsWire n t → (j : ℕ) × (slice_get m t ≡ Some (Done j)))
    → d' ≡ d → m' ≡ m → suc last ≡ length s → ((f : Frame) → slice_get s last ≡ Some f → s' ≡ set s last (record { wire = f.wire; next = f.next + 1 })) → Moves n d m s d' m' s' (Ok tt)
moves_pass n d d' m m' s s' t last w l past e f long g =
    let top = l.is_top in
    let at : top.place ≡ last = top_at s l.top last top long in
    let here : slice_get s last ≡ Some l.top = ap (slice_get s) (sym at) ∙ top.at in
    let h = g l.top here in
    let i = h ∙ ap (λ k. set s k (record { wire = l.top.wire; next = l.top.next + 1 })) (sym at) in
    let below : IsWire n t → DoneBelow m (length d) t = λ v. let j = past v in (j.0, slice_get_within d j.0 _ (w.done_at t j.0 j.1), j.1) in
    record {
      walks = same_walks n d d' m m' _ s' e f i (walks_pass n d m s l.top t w top l.looks l.few below);
      goes = subst (λ (x : List Mark). Goes m x) (sym f) (goes_none m);
      less =
          let few = l.few in
          let a = less_pass m s l.top last here (omega (arith, few)) in
          let b = ap (λ (x : List Mark). work x s') f ∙ ap (λ (x : List Frame). work m x) h in
          less_by (work m' s') (work m (set s last (record { wire = l.top.wire; next = l.top.next + 1 }))) (work m s) b a;
      stop = tt;
    }
  where
    less_by : (a b c : ℕ) → a ≡ b → b < c → a < c
    less_by a b c e h = omega (arith, e, h)

-- a wire that is put on the stack
pub moves_open : (n : Netlist) (d d' : List Sig) (m m' : List Mark) (s s' : List Frame) (t : Sig) (r : Result (Unit {0}) Stop) → Walks n d m s → IsWire n t.0 → slice_get m t.0 ≡ Some Unseen
    → ((k : ℕ) (f : Frame) → slice_get s k ≡ Some f → suc k ≡ length s → Looks n f t.0)
    → d' ≡ d → OnOk r (m' ≡ set m t.0 (Open (length s))) → OnOk r (s' ≡ s ++ record { wire = t; next = 0 } ∷ []) → IfErr r (λ e. (e ≡ NoMemory) × (m' ≡ m) × (s' ≡ s))
    → Moves n d m s d' m' s' r
moves_open n d d' m m' s s' t (Ok u) w wire new looks e f g h = record {
  walks = same_walks n d d' _ m' _ s' e f g (walks_open n d m s t w wire new looks);
  goes = subst (λ (x : List Mark). Goes m x) (sym f) (goes_set m t.0 (Open (length s)) Unseen new tt (λ q. cc));
  less = subst (λ (x : List Mark). work x s' < work m s) (sym f) (subst (λ (x : List Frame). work (set m t.0 (Open (length s))) x < work m s) (sym g) (less_open m s t (Open (length s)) new refl));
  stop = tt;
}
moves_open n d d' m m' s s' t (Err x) w wire new looks e f g h = record {
  walks = same_walks n d d' m m' s s' e h.1 h.2 w;
  goes = subst (λ (y : List Mark). Goes m y) (sym h.1) (goes_none m);
  less = tt;
  stop = subst (λ y. IsStop n s' y) (sym h.0) tt;
}

-- a wire that is done
pub moves_close : (n : Netlist) (d d' : List Sig) (m m' : List Mark) (s s' : List Frame) (f : Frame) (last : ℕ) (r : Result (Unit {0}) Stop) → Walks n
    d m s → slice_get s last ≡ Some f → suc last ≡ length s
    → slice_get (looked_at n f.wire.0) f.next ≡ None → f.next < 4
    → OnOk r (d' ≡ d ++ f.wire ∷ []) → OnOk r (m' ≡ set m f.wire.0 (Done (length d))) → OnOk r (s' ≡ take last s)
    → IfErr r (λ e. (e ≡ NoMemory) × (d' ≡ d) × (m' ≡ m) × (s' ≡ s))
    → Moves n d m s d' m' s' r
moves_close n d d' m m' s s' f last (Ok u) w at long none few e g h i =
    let top : IsTop s f = record { place = last; last = long; at = at } in
    record {
      walks = same_walks n _ d' _ m' _ s' e g h (walks_close n d m s f w top none);
      goes = subst (λ (x : List Mark). Goes m x) (sym g) (goes_set m f.wire.0 (Done (length d)) (Open last) (w.opened last f at) tt (λ q. cc));
      less = subst (λ (x : List Mark). work x s' < work m s) (sym g)
          (subst (λ (x : List Frame). work (set m f.wire.0 (Done (length d))) x < work m s) (sym h)
          (less_close m s f f.wire.0 (Done (length d)) (Open last) (w.opened last f at) refl refl top few));
      stop = tt;
    }
moves_close n d d' m m' s s' f last (Err x) w at long none few e g h i = record {
  walks = same_walks n d d' m m' s s' i.1 i.2 i.3 w;
  goes = subst (λ (y : List Mark). Goes m y) (sym i.2) (goes_none m);
  less = tt;
  stop = subst (λ y. IsStop n s' y) (sym i.0) tt;
}

-- the wire on top looks at one that is on the stack
pub moves_loop : (n : Netlist) (d : List Sig) (m : List Mark) (s : List Frame) (t k : ℕ) → Walks n d m s → LooksAt n s t → slice_get m t ≡ Some (Open k) → IsOpenLoop n s k
moves_loop n d m s t k w l e =
    let f = w.open_at t k e in
    record { top = l.top; is_top = l.is_top; low = f.0; at = f.1; looks = subst (λ y. Looks n l.top y) (sym f.2) l.looks }

-- what is on the stack is a signal of the net, with at most four looks
pub frame_in : (n : Netlist) (d : List Sig) (m : List Mark) (s : List Frame) (k : ℕ) (f : Frame) → Walks n d m s → slice_get s k ≡ Some f → f.wire.0 < length n.signals
frame_in n d m s k f w e = let a = slice_get_within m f.wire.0 _ (w.opened k f e) in let b = w.long in omega (arith, a, b)

pub frame_few : (n : Netlist) (d : List Sig) (m : List Mark) (s : List Frame) (k : ℕ) (f : Frame) → Walks n d m s → slice_get s k ≡ Some f → f.next ≤ 3
frame_few n d m s k f w e = (w.frames k f e).few

-- places fit 32 bits
pub few_places : (n : Netlist) (d : List Sig) (m : List Mark) (s : List Frame) → Walks n d m s → (length d < 2 ^ 32) × (length s < 2 ^ 32)
few_places n d m s w = let a = w.count in let b = w.long in let c = w.made.few in (omega (arith, a, b, c), omega (arith, a, b, c))

pub top_looks : (n : Netlist) (s : List Frame) (t : ℕ) → LooksAt n s t → (k : ℕ) (f : Frame) → slice_get s k ≡ Some f → suc k ≡ length s → Looks n f t
top_looks n s t l k f e h =
    let top = l.is_top in
    let same : Some l.top ≡ Some f = sym top.at ∙ ap (slice_get s) (top_at s l.top k top h) ∙ e in
    let one : l.top ≡ f = cc in
    subst (λ y. Looks n y t) one l.looks

-- an operand is a signal of the net
pub operand_in : (n : Netlist) (s i t : ℕ) → IsNetlist n → slice_get (operands_of n s) i ≡ Some t → t < length n.signals
operand_in n s i t w e = by (slice_get n.signals s) refl e
  where
    on : (width : ℕ) (k : Kind) → KindFits n width k → slice_get (Rattle.safl_order.specs.Order.operands_in (cell_in k)) i ≡ Some t → t < length n.signals
    on width Input f h = absurd (cc)
    on width (Reg init next) f h = absurd (cc)
    on width (Wire None) f h = absurd (cc)
    on width (Wire (Some c)) f h = let a = f.known i 0 (slice_get_within c.operands i t h) in let b = get_or_is c.operands i t h in omega (arith, a, b)

    by : (o : Option Signal) → slice_get n.signals s ≡ o → slice_get (Rattle.safl_order.specs.Order.operands_in (cell_in (kind_in o))) i ≡ Some t → t < length n.signals
    by None q h = absurd (cc)
    by (Some g) q h = on g.width g.kind (w.signals s g q).kind h

-- so is one that a frame looks at
pub look_in : (n : Netlist) (f : Frame) (t : ℕ) → IsNetlist n → Looks n f t → t < length n.signals
look_in n f t w l = let r = from_reverse (operands_of n f.wire.0) f.next t l in operand_in n f.wire.0 r.0 t w r.1

-- a next signal is one of the net
pub next_known : (n : Netlist) → IsNetlist n → (s t : ℕ) → next_in (kind_at n s) ≡ Some t → t < length n.signals
next_known n made s t e = by (slice_get n.signals s) refl e
  where
    on : (width : ℕ) (k : Kind) → KindFits n width k → next_in k ≡ Some t → t < length n.signals
    on width Input f h = absurd (cc)
    on width (Wire cell) f h = absurd (cc)
    on width (Reg init None) f h = absurd (cc)
    on width (Reg init (Some m)) f h = let q : m ≡ t = cc in subst (λ x. x < length n.signals) q f.1

    by : (o : Option Signal) → slice_get n.signals s ≡ o → next_in (kind_in o) ≡ Some t → t < length n.signals
    by None q h = absurd (cc)
    by (Some g) q h = on g.width g.kind (made.signals s g q).kind h

pub number_some : (o : Option Sig) (t : Sig) (p : Option ℕ) → o ≡ Some t → Rattle.safl_net.specs.Stored.number_of o ≡ p → p ≡ Some t.0
number_some o t p e f = sym f ∙ ap Rattle.safl_net.specs.Stored.number_of e

pub number_none : (o : Option Sig) (p : Option ℕ) → o ≡ None → Rattle.safl_net.specs.Stored.number_of o ≡ p → p ≡ None
number_none o p e f = sym f ∙ ap Rattle.safl_net.specs.Stored.number_of e

pub last_read : {A : Type 0} (xs : List A) (count i : ℕ) (x : A) → count ≡ length xs → i ≡ count → 0 < count → x ≡ get_or xs (i - 1) x → slice_get xs (count - 1) ≡ Some x
last_read xs count i x long same some e = get_read xs (count - 1) x (omega (arith, long, some)) (e ∙ ap (λ k. get_or xs (k - 1) x) same)

-- with nothing on the stack what is seen is done
pub done_root : (n : Netlist) (d : List Sig) (m : List Mark) (s : List Frame) (root : ℕ) → Walks n d m s → s ≡ [] → root < length n.signals → ¬ (slice_get m root ≡ Some Unseen)
    → (i : ℕ) × (slice_get m root ≡ Some (Done i))
done_root n d m s root w e h seen =
    let g = get_some m root (let a = w.long in omega (arith, a, h)) in
    by g.0 g.1
  where
    by : (x : Mark) → slice_get m root ≡ Some x → (i : ℕ) × (slice_get m root ≡ Some (Done i))
    by Unseen q = absurd (seen q)
    by (Open k) q = let f = w.open_at root k q in absurd (let a = ap (λ l. slice_get l k) (sym e) ∙ f.1 in cc)
    by (Done i) q = (i, q)

pub done_after : {A : Type 0} (r : Result A Stop) (n : Netlist) (d : List Sig) (m : List Mark) (s : List Frame) (root : ℕ) → Walks n d m s → OnOk r
    (s ≡ []) → root < length n.signals → ¬ (slice_get m root ≡ Some Unseen)
    → OnOk r (IsWire n root → (i : ℕ) × (slice_get m root ≡ Some (Done i)))
done_after (Ok x) n d m s root w e h seen = λ v. done_root n d m s root w e h seen
done_after (Err x) n d m s root w e h seen = tt

-- what was just put on the stack is seen
pub seen_open : {A : Type 0} (r : Result A Stop) (x : A) (m m' m'' : List Mark) (t k : ℕ) → r ≡ Ok x → OnOk r (m' ≡ set m t (Open k)) → slice_get m t
    ≡ Some Unseen → Goes m' m'' → ¬ (slice_get m'' t ≡ Some Unseen)
seen_open r x m m' m'' t k is e f g h =
    let q = subst (λ (y : Result _ Stop). OnOk y (m' ≡ set m t (Open k))) is e in
    let a = g.seen t h in
    let b = ap (λ l. slice_get l t) q ∙ set_here m t (Open k) Unseen f in
    let c = sym b ∙ a in
    cc

pub seen_other : (m : List Mark) (t : ℕ) (x : Mark) → slice_get m t ≡ Some x → ¬ (x ≡ Unseen) → ¬ (slice_get m t ≡ Some Unseen)
seen_other m t x e n f = n (let a = sym e ∙ f in cc)

pub no_looks : (n : Netlist) (s : List Frame) (t : ℕ) → s ≡ [] → (k : ℕ) (f : Frame) → slice_get s k ≡ Some f → suc k ≡ length s → Looks n f t
no_looks n s t e k f g h = absurd (let a = ap (λ l. slice_get l k) (sym e) ∙ g in cc)

-- one more wire is done
pub done_more : (n : Netlist) (m m' : List Mark) (i : ℕ) → AllDone n m i → Goes m m' → (IsWire n i → (j : ℕ) × (slice_get m' i ≡ Some (Done j))) → AllDone n m' (i + 1)
done_more n m m' i a g last s h v = elim (lower_or_last s i h) [
  | inl l ↦ let d = a s l v in (d.0, g.done s d.0 d.1)
  | inr e ↦
      let d = last (subst (λ y. IsWire n y) e v) in
      (d.0, ap (slice_get m') e ∙ d.1)
]
