-- Temporaries that are made one after another for the nodes that are read.
use Rattle.safl_opt.proofs.Common.{Folds, IsNetlist, IsOrder, IsTidy, Node, Sig, Values, bool_at, cases_eq, ltb-false, ltb-true, map-map}
use Rattle.safl_opt.proofs.Common.{node_op, node_operands, op_width, sig_at, slice_get_within, temp_name, value_width, wires}
use Rattle.std.proofs.Common.{◌≡◌, ℕ, zero, suc, ◌+◌, ◌-◌, ◌<◌, ◌≤◌, List, [], ◌∷◌, ◌++◌, map, length, length-append, Some, Bool, true}
use Rattle.std.proofs.Common.{false, nat_lt, inl, inr, slice_get, refl, sym, ap, subst, ◌∙◌, arith}
use Rattle.safl_word.proofs.Lists.{get_end, get_in_front, get_pushed, get_some, map_at}
use Rattle.safl_net.specs.Netlist.{Netlist, Signal, Wire, Cell, width_in, width_of}
use Rattle.safl_net.specs.Making.{wired}
use Rattle.safl_opt.specs.Building.{AreRead, node_cell, IsNodeOf, IsAdded}
use Rattle.safl_opt.specs.Stages.{Declared, HasTemporary, IsOfNode, Placed}
use Rattle.safl_opt.proofs.Adding.{at_front, at_end, few_placed, kept_few}
use Rattle.safl_opt.proofs.Declaring.{declared_tidy}

-- what a value has as a signal: its number is one of the net and has the value's width
pub record HasNumber (n : Netlist) (f : Values) (made : List Sig) (m : Netlist) (x : ℕ) : Type 0 where
  pub known : sig_at made x < length m.signals
  pub width : width_of m (sig_at made x) ≡ value_width n f.signals.items x

module _ (n : Netlist) (kn : IsNetlist n) (ws : List ℕ) (order : IsOrder n ws) (f : Values) (h : Folds n ws (length ws) f) (read : List Bool) (marks : AreRead n f read) where
  -- a net of fewer than 2^31 signals has room for them
  pub room : f.kept + length f.nodes ≤ length n.signals + length n.signals
  room =
      let a = few_placed n kn ws order (length f.nodes) h.few in
      let b = kept_few n in
      let c = h.kept in
      omega (arith, a, b, c)

  pub placed_none : (made : List Sig) (m : Netlist) → IsTidy n → length made ≡ f.kept → ((x : ℕ) → x < f.kept → sig_at made x ≡ x) → Declared n f f.kept m → Placed n f read 0 made m
  placed_none made m tidy long own d = record {
    long = omega (arith, long);
    few = let a = d.long in omega (arith, a);
    own = own;
    kept = d.each;
    nodes = λ j node lt. absurd (omega (arith, lt));
    each = λ y g e le. absurd (let a = slice_get_within m.signals y g e in let b = d.long in omega (arith, a, b, le));
    once = λ i j lt. absurd (omega (arith, lt));
    outputs = d.outputs;
    tidy = declared_tidy n kn ws f h tidy m d;
  }

  module _ (count : ℕ) (made : List Sig) (m : Netlist) (p : Placed n f read count made m) where
    -- a value that is kept, or is read, has its number
    pub number : (x : ℕ) → x < f.kept + count → count ≤ length f.nodes → ((j : ℕ) → x ≡ f.kept + j → bool_at read x ≡ true) → HasNumber n f made m x
    number x lt le marked = by (nat_lt x f.kept) refl
      where
        by : (c : Bool) → nat_lt x f.kept ≡ c → HasNumber n f made m x
        by true q =
            let low = ltb-true x f.kept q in
            record {
              known = subst (λ y. y < length m.signals) (sym (p.own x low)) (slice_get_within m.signals x _ (p.kept x low));
              width = ap (width_of m) (p.own x low) ∙ ap width_in (p.kept x low);
            }
        by false q =
            let high = ltb-false x f.kept q in
            let same : x ≡ f.kept + (x - f.kept) = omega (arith, high) in
            let below : x - f.kept < count = omega (arith, lt, high) in
            let node = get_some f.nodes (x - f.kept) (omega (arith, below, le)) in
            let t = p.nodes (x - f.kept) node.0 below node.1 (ap (bool_at read) (sym same) ∙ marked (x - f.kept) same) in
            subst (HasNumber n f made m) (sym same) (record {
              known = slice_get_within m.signals (sig_at made (f.kept + (x - f.kept))) t.signal t.there;
              width = ap width_in t.there ∙ t.is.width;
            })

    module _ (node : Node) (at : slice_get f.nodes count ≡ Some node) where
      fits_here : count < length f.nodes
      fits_here = slice_get_within f.nodes count node at

      -- the operands of the next node
      pub operand : bool_at read (f.kept + count) ≡ true → (i x : ℕ) → slice_get (node_operands node) i ≡ Some x → (x < length made) × (sig_at made x < length m.signals)
      operand is_read i x o =
          let low = ((h.made count node at).lower i x o).0 in
          let k = number x low (omega (arith, fits_here)) (λ j e. marks.nodes count i x node at is_read o) in
          ((let a = p.long in omega (arith, low, a)), k.known)

      pub gives : bool_at read (f.kept + count) ≡ true → op_width (node_op node) (map (width_of m) (map (sig_at made) (node_operands node))) ≡ Some (value_width n f.signals.items (f.kept + count))
      gives is_read =
          ap (op_width (node_op node)) (
          map-map (width_of m) (sig_at made) (node_operands node)
          ∙ map_at (λ x. width_of m (sig_at made x)) (value_width n f.signals.items) (node_operands node)
          (λ i x o. (number x ((h.made count node at).lower i x o).0 (omega (arith, fits_here)) (λ j e. marks.nodes count i x node at is_read o)).width)
          )
          ∙ (h.made count node at).gives

    -- ---- one more number

    module _ (s : Sig) where
      old_at : (x : ℕ) → x < f.kept + count → sig_at (made ++ s ∷ []) x ≡ sig_at made x
      old_at x lt = at_front made (s ∷ []) x (let a = p.long in omega (arith, lt, a))

      new_at : sig_at (made ++ s ∷ []) (f.kept + count) ≡ s.0
      new_at = ap (sig_at (made ++ s ∷ [])) (sym p.long) ∙ at_end made s

      -- the cell of a node before it
      same_cell : (j : ℕ) (node : Node) → j < count → slice_get f.nodes j ≡ Some node → node_cell made node ≡ node_cell (made ++ s ∷ []) node
      same_cell j node lt e =
          ap (λ (l : List ℕ). let c : Cell = record { op = node_op node; operands = l } in c)
          (map_at (sig_at made) (sig_at (made ++ s ∷ [])) (node_operands node) (λ i x o. sym (old_at x (let a = ((h.made j node e).lower i x o).0 in omega (arith, a, lt)))))

      is_still : (j : ℕ) (node : Node) (g : Signal) → j < count → slice_get f.nodes j ≡ Some node → IsNodeOf n f made (f.kept + j) node g → IsNodeOf n f (made ++ s ∷ []) (f.kept + j) node g
      is_still j node g lt e is = record { name = is.name; width = is.width; kind = is.kind ∙ ap (λ c. Wire (Some c)) (same_cell j node lt e) }

      long_next : length (made ++ s ∷ []) ≡ f.kept + (count + 1)
      long_next = let a = length-append made (s ∷ []) in let b = p.long in omega (arith, a, b)

      own_next : (x : ℕ) → x < f.kept → sig_at (made ++ s ∷ []) x ≡ x
      own_next x lt = old_at x (omega (arith, lt)) ∙ p.own x lt

      of_node : (y : ℕ) → IsOfNode f read count made y → IsOfNode f read (count + 1) (made ++ s ∷ []) y
      of_node y o = record {
        place = o.place;
        node = o.node;
        below = let a = o.below in omega (arith, a);
        at = o.at;
        is_read = o.is_read;
        number = old_at (f.kept + o.place) (let a = o.below in omega (arith, a)) ∙ o.number;
      }

      -- the node is not read
      pub skipped : bool_at read (f.kept + count) ≡ false → Placed n f read (count + 1) (made ++ s ∷ []) m
      skipped unread = record {
        long = long_next;
        few = let a = p.few in omega (arith, a);
        own = own_next;
        kept = p.kept;
        nodes = λ j node lt e q.
            let low = before j lt q in
            let t = p.nodes j node low e q in
            let back = old_at (f.kept + j) (omega (arith, low)) in
            let b = t.behind in
            record { behind = omega (arith, b, back); signal = t.signal; there = ap (slice_get m.signals) back ∙ t.there; is = is_still j node t.signal low e t.is };
        each = λ y g e le. of_node y (p.each y g e le);
        once = λ i j li lj qi qj e.
            let a = before i li qi in
            let b = before j lj qj in
            p.once i j a b qi qj (sym (old_at (f.kept + i) (omega (arith, a))) ∙ e ∙ old_at (f.kept + j) (omega (arith, b)));
        outputs = p.outputs;
        tidy = p.tidy;
      }
        where
          before : (j : ℕ) → j < count + 1 → bool_at read (f.kept + j) ≡ true → j < count
          before j lt q = elim (cases_eq j count) [
            | inl same ↦ absurd (let z = sym q ∙ ap (λ k. bool_at read (f.kept + k)) same ∙ unread in cc)
            | inr ne ↦ omega (arith, lt, ne)
          ]

      -- it has its temporary
      module _ (node : Node) (at : slice_get f.nodes count ≡ Some node) (is_read : bool_at read (f.kept + count) ≡ true) (a : Netlist)
          (added : IsAdded m a (node_cell made node)) (last : s.0 ≡ length m.signals) (tidy : IsTidy a) where
        abbrev new : Signal
        new = wired (temp_name (wires m.signals)) added.width (node_cell made node)

        signals_are : a.signals ≡ m.signals ++ new ∷ []
        signals_are = ap (λ (x : Netlist). x.signals) added.added

        old_get : (y : ℕ) → y < length m.signals → slice_get a.signals y ≡ slice_get m.signals y
        old_get y lt = ap (λ l. slice_get l y) signals_are ∙ get_in_front m.signals (new ∷ []) y lt

        new_get : slice_get a.signals s.0 ≡ Some new
        new_get = ap (λ l. slice_get l s.0) signals_are ∙ ap (slice_get (m.signals ++ new ∷ [])) last ∙ get_end m.signals new

        own_cell : node_cell made node ≡ node_cell (made ++ s ∷ []) node
        own_cell =
            ap (λ (l : List ℕ). let c : Cell = record { op = node_op node; operands = l } in c)
            (map_at (sig_at made) (sig_at (made ++ s ∷ [])) (node_operands node) (λ i x o. sym (old_at x ((h.made count node at).lower i x o).0)))

        own_width : added.width ≡ value_width n f.signals.items (f.kept + count)
        own_width = let z : Some added.width ≡ Some (value_width n f.signals.items (f.kept + count)) = sym added.gives ∙ gives node at is_read in cc

        is_new : IsNodeOf n f (made ++ s ∷ []) (f.kept + count) node new
        is_new = record { name = refl; width = own_width; kind = ap (λ c. Wire (Some c)) own_cell }

        kept_behind : f.kept ≤ length m.signals
        kept_behind = by f.kept refl
          where
            by : (k : ℕ) → f.kept ≡ k → k ≤ length m.signals
            by zero q = omega arith
            by (suc k) q = let r = slice_get_within m.signals k _ (p.kept k (omega (arith, q))) in omega (arith, r)

        new_node : HasTemporary n f (made ++ s ∷ []) count node a
        new_node = record {
          behind = let k = kept_behind in let e = new_at in omega (arith, k, e, last);
          signal = new;
          there = ap (slice_get a.signals) new_at ∙ new_get;
          is = is_new;
        }

        old_node : (j : ℕ) (k : Node) → j < count → slice_get f.nodes j ≡ Some k → bool_at read (f.kept + j) ≡ true → HasTemporary n f (made ++ s ∷ []) j k a
        old_node j k lt e q =
            let t = p.nodes j k lt e q in
            let back = old_at (f.kept + j) (omega (arith, lt)) in
            let b = t.behind in
            record {
              behind = omega (arith, b, back);
              signal = t.signal;
              there = ap (slice_get a.signals) back ∙ old_get (sig_at made (f.kept + j)) (slice_get_within m.signals (sig_at made (f.kept + j)) t.signal t.there) ∙ t.there;
              is = is_still j k t.signal lt e t.is;
            }

        -- a number before it is lower
        lower : (j : ℕ) → j < count → bool_at read (f.kept + j) ≡ true → sig_at (made ++ s ∷ []) (f.kept + j) < sig_at (made ++ s ∷ []) (f.kept + count)
        lower j lt q =
            let k = get_some f.nodes j (let z = slice_get_within f.nodes count node at in omega (arith, z, lt)) in
            let t = p.nodes j k.0 lt k.1 q in
            let b = slice_get_within m.signals (sig_at made (f.kept + j)) t.signal t.there in
            let back = old_at (f.kept + j) (omega (arith, lt)) in
            let e = new_at in
            omega (arith, b, back, e, last)

        once_next : (i j : ℕ) → i < count + 1 → j < count + 1 → bool_at read (f.kept + i) ≡ true → bool_at read (f.kept + j) ≡ true → sig_at
            (made ++ s ∷ []) (f.kept + i) ≡ sig_at (made ++ s ∷ []) (f.kept + j) → i ≡ j
        once_next i j li lj qi qj e = elim (cases_eq i count) [
          | inl a ↦ elim (cases_eq j count) [
            | inl b ↦ a ∙ sym b
            | inr b ↦ let l = lower j (omega (arith, lj, b)) qj in let z = ap (λ k. sig_at (made ++ s ∷ []) (f.kept + k)) a in absurd (omega (arith, l, z, e))
          ]
          | inr a ↦ elim (cases_eq j count) [
            | inl b ↦ let l = lower i (omega (arith, li, a)) qi in let z = ap (λ k. sig_at (made ++ s ∷ []) (f.kept + k)) b in absurd (omega (arith, l, z, e))
            | inr b ↦
                let u : i < count = omega (arith, li, a) in
                let v : j < count = omega (arith, lj, b) in
                p.once i j u v qi qj (sym (old_at (f.kept + i) (omega (arith, u))) ∙ e ∙ old_at (f.kept + j) (omega (arith, v)))
          ]
        ]

        each_next : (y : ℕ) (g : Signal) → slice_get a.signals y ≡ Some g → f.kept ≤ y → IsOfNode f read (count + 1) (made ++ s ∷ []) y
        each_next y g e le = elim (get_pushed m.signals new g y (ap (λ l. slice_get l y) (sym signals_are) ∙ e)) [
          | inl q ↦ of_node y (p.each y g q le)
          | inr q ↦ record { place = count; node = node; below = omega arith; at = at; is_read = is_read; number = new_at ∙ last ∙ sym q.0 }
        ]

        node_next : (j : ℕ) (k : Node) → j < count + 1 → slice_get f.nodes j ≡ Some k → bool_at read (f.kept + j) ≡ true → HasTemporary n f (made ++ s ∷ []) j k a
        node_next j k lt e q = elim (cases_eq j count) [
          | inl same ↦
              let one : node ≡ k = (let z = sym at ∙ ap (slice_get f.nodes) (sym same) ∙ e in cc) in
              subst (λ i. HasTemporary n f (made ++ s ∷ []) i k a) (sym same) (subst (λ x. HasTemporary n f (made ++ s ∷ []) count x a) one new_node)
          | inr ne ↦ old_node j k (omega (arith, lt, ne)) e q
        ]

        pub placed : Placed n f read (count + 1) (made ++ s ∷ []) a
        placed = record {
          long = long_next;
          few = let b = ap length signals_are in let c = length-append m.signals (new ∷ []) in let d = p.few in omega (arith, b, c, d);
          own = own_next;
          kept = λ x lt. old_get x (let k = kept_behind in omega (arith, lt, k)) ∙ p.kept x lt;
          nodes = node_next;
          each = each_next;
          once = once_next;
          outputs = ap (λ (x : Netlist). x.outputs) added.added ∙ p.outputs;
          tidy = tidy;
        }
