use Rattle.safl_number_set.proofs.Common.{List, ap, arith, get_or, get_or_read, length, subst, sym, ℕ, ◌<◌, ◌∙◌, ◌≡◌}
use Rattle.safl_number_set.specs.Groups.{Grouped, Tallies, counted}
use Rattle.safl_number_set.proofs.CountedGroups.{bit_of, put_open, put_closed, open_least}
use Rattle.safl_number_set.proofs.grouped_set.GroupedSet.put.Goals as goal

pub shift-requires-clause-within : goal.shift-requires-clause-within
shift-requires-clause-within c =
    let n = c.self.inside in
    let s = n.groups in
    let h = c.self.invariant.0 in
    let t = c.self.invariant.1 in
    let k = c.args.k in
    let b = c.args.is_in in
    let lt : k < length s.group.items = subst (λ (a : Grouped). k < length a.group) (sym c.self.view_is) c.requires in
    let bit : c.index.result.now ≡ get_or s.within.items k 0 = get_or_read s.within.items k _ (omega (arith, lt, h.long)) c.index.ensures 0 in
    let was = bit_of (get_or s.within.items k 0) b (h.bits k) (λ e. c.if-index-bit.false (bit ∙ (e ∙ sym c.bit.ensures))) in
    let new = c.put.new.s in
    let same_group : c.put.new.s.group.items ≡ s.group.items = ap (λ (a : Grouped). a.group) c.put.ensures.now in
    let same_opened : c.put.new.s.opened.items ≡ s.opened.items = ap (λ (a : Grouped). a.opened) c.put.ensures.now in
    let lt_new : k < length c.put.new.s.group.items = omega (arith, lt, ap (λ (l : List ℕ). length l) same_group) in
    let read : c.index-2.result.now ≡ get_or c.put.new.s.group.items k 0 = get_or_read c.put.new.s.group.items k _ lt_new c.index-2.ensures 0 in
    let low : c.index-2.result.now < length c.put.new.s.opened.items = omega (arith, read, c.put.ensures.grouped.below k lt_new) in
    let open_bit : c.index-3.result.now ≡ get_or s.opened.items (get_or s.group.items k 0) 0 =
    get_or_read c.put.new.s.opened.items c.index-2.result.now _ low c.index-3.ensures 0
    ∙ (ap (λ (l : List ℕ). get_or l c.index-2.result.now 0) same_opened
    ∙ (ap (λ g. get_or s.opened.items g 0) read ∙ ap (λ (l : List ℕ). get_or s.opened.items (get_or l k 0) 0) same_group)) in
    let is = sym open_bit ∙ c.if-index-eq1.true in
    (open_least s h k b lt was is n.tally t).2

pub shift-requires-clause-few : goal.shift-requires-clause-few
shift-requires-clause-few c =
    let n = c.self.inside in
    let s = n.groups in
    let h = c.self.invariant.0 in
    let t = c.self.invariant.1 in
    let k = c.args.k in
    let b = c.args.is_in in
    let lt : k < length s.group.items = subst (λ (a : Grouped). k < length a.group) (sym c.self.view_is) c.requires in
    let bit : c.index.result.now ≡ get_or s.within.items k 0 = get_or_read s.within.items k _ (omega (arith, lt, h.long)) c.index.ensures 0 in
    let was = bit_of (get_or s.within.items k 0) b (h.bits k) (λ e. c.if-index-bit.false (bit ∙ (e ∙ sym c.bit.ensures))) in
    let new = c.put.new.s in
    let same_group : c.put.new.s.group.items ≡ s.group.items = ap (λ (a : Grouped). a.group) c.put.ensures.now in
    let same_opened : c.put.new.s.opened.items ≡ s.opened.items = ap (λ (a : Grouped). a.opened) c.put.ensures.now in
    let lt_new : k < length c.put.new.s.group.items = omega (arith, lt, ap (λ (l : List ℕ). length l) same_group) in
    let read : c.index-2.result.now ≡ get_or c.put.new.s.group.items k 0 = get_or_read c.put.new.s.group.items k _ lt_new c.index-2.ensures 0 in
    let low : c.index-2.result.now < length c.put.new.s.opened.items = omega (arith, read, c.put.ensures.grouped.below k lt_new) in
    let open_bit : c.index-3.result.now ≡ get_or s.opened.items (get_or s.group.items k 0) 0 =
    get_or_read c.put.new.s.opened.items c.index-2.result.now _ low c.index-3.ensures 0
    ∙ (ap (λ (l : List ℕ). get_or l c.index-2.result.now 0) same_opened
    ∙ (ap (λ g. get_or s.opened.items g 0) read ∙ ap (λ (l : List ℕ). get_or s.opened.items (get_or l k 0) 0) same_group)) in
    let is = sym open_bit ∙ c.if-index-eq1.true in
    let few = (open_least s h k b lt was is n.tally t).1 in
    omega (arith, few)

pub shift-requires-clause-enough : goal.shift-requires-clause-enough
shift-requires-clause-enough c =
    let n = c.self.inside in
    let s = n.groups in
    let h = c.self.invariant.0 in
    let t = c.self.invariant.1 in
    let k = c.args.k in
    let b = c.args.is_in in
    let lt : k < length s.group.items = subst (λ (a : Grouped). k < length a.group) (sym c.self.view_is) c.requires in
    let bit : c.index.result.now ≡ get_or s.within.items k 0 = get_or_read s.within.items k _ (omega (arith, lt, h.long)) c.index.ensures 0 in
    let was = bit_of (get_or s.within.items k 0) b (h.bits k) (λ e. c.if-index-bit.false (bit ∙ (e ∙ sym c.bit.ensures))) in
    let new = c.put.new.s in
    let same_group : c.put.new.s.group.items ≡ s.group.items = ap (λ (a : Grouped). a.group) c.put.ensures.now in
    let same_opened : c.put.new.s.opened.items ≡ s.opened.items = ap (λ (a : Grouped). a.opened) c.put.ensures.now in
    let lt_new : k < length c.put.new.s.group.items = omega (arith, lt, ap (λ (l : List ℕ). length l) same_group) in
    let read : c.index-2.result.now ≡ get_or c.put.new.s.group.items k 0 = get_or_read c.put.new.s.group.items k _ lt_new c.index-2.ensures 0 in
    let low : c.index-2.result.now < length c.put.new.s.opened.items = omega (arith, read, c.put.ensures.grouped.below k lt_new) in
    let open_bit : c.index-3.result.now ≡ get_or s.opened.items (get_or s.group.items k 0) 0 =
    get_or_read c.put.new.s.opened.items c.index-2.result.now _ low c.index-3.ensures 0
    ∙ (ap (λ (l : List ℕ). get_or l c.index-2.result.now 0) same_opened
    ∙ (ap (λ g. get_or s.opened.items g 0) read ∙ ap (λ (l : List ℕ). get_or s.opened.items (get_or l k 0) 0) same_group)) in
    let is = sym open_bit ∙ c.if-index-eq1.true in
    (open_least s h k b lt was is n.tally t).0

pub invariant_of-self : goal.invariant_of-self
invariant_of-self c =
    let n = c.self.inside in
    let s = n.groups in
    let h = c.self.invariant.0 in
    let t = c.self.invariant.1 in
    let k = c.args.k in
    let b = c.args.is_in in
    let lt : k < length s.group.items = subst (λ (a : Grouped). k < length a.group) (sym c.self.view_is) c.requires in
    let bit : c.index.result.now ≡ get_or s.within.items k 0 = get_or_read s.within.items k _ (omega (arith, lt, h.long)) c.index.ensures 0 in
    let was = bit_of (get_or s.within.items k 0) b (h.bits k) (λ e. c.if-index-bit.false (bit ∙ (e ∙ sym c.bit.ensures))) in
    let new = c.put.new.s in
    let same_group : c.put.new.s.group.items ≡ s.group.items = ap (λ (a : Grouped). a.group) c.put.ensures.now in
    let same_opened : c.put.new.s.opened.items ≡ s.opened.items = ap (λ (a : Grouped). a.opened) c.put.ensures.now in
    let lt_new : k < length c.put.new.s.group.items = omega (arith, lt, ap (λ (l : List ℕ). length l) same_group) in
    let read : c.index-2.result.now ≡ get_or c.put.new.s.group.items k 0 = get_or_read c.put.new.s.group.items k _ lt_new c.index-2.ensures 0 in
    let low : c.index-2.result.now < length c.put.new.s.opened.items = omega (arith, read, c.put.ensures.grouped.below k lt_new) in
    let open_bit : c.index-3.result.now ≡ get_or s.opened.items (get_or s.group.items k 0) 0 =
    get_or_read c.put.new.s.opened.items c.index-2.result.now _ low c.index-3.ensures 0
    ∙ (ap (λ (l : List ℕ). get_or l c.index-2.result.now 0) same_opened
    ∙ (ap (λ g. get_or s.opened.items g 0) read ∙ ap (λ (l : List ℕ). get_or s.opened.items (get_or l k 0) 0) same_group)) in
    let is = sym open_bit ∙ c.if-index-eq1.true in
    let tallies = put_open s h k b lt was is n.tally c.shift.new.self t c.shift.ensures in
    (c.put.ensures.grouped, subst (λ (a : Grouped). Tallies (counted a) c.shift.new.self) (sym c.put.ensures.now) tallies)

pub invariant_of-self-else-index-eq1 : goal.invariant_of-self-else-index-eq1
invariant_of-self-else-index-eq1 c =
    let n = c.self.inside in
    let s = n.groups in
    let h = c.self.invariant.0 in
    let t = c.self.invariant.1 in
    let k = c.args.k in
    let b = c.args.is_in in
    let lt : k < length s.group.items = subst (λ (a : Grouped). k < length a.group) (sym c.self.view_is) c.requires in
    let bit : c.index.result.now ≡ get_or s.within.items k 0 = get_or_read s.within.items k _ (omega (arith, lt, h.long)) c.index.ensures 0 in
    let was = bit_of (get_or s.within.items k 0) b (h.bits k) (λ e. c.if-index-bit.false (bit ∙ (e ∙ sym c.bit.ensures))) in
    let new = c.put.new.s in
    let same_group : c.put.new.s.group.items ≡ s.group.items = ap (λ (a : Grouped). a.group) c.put.ensures.now in
    let same_opened : c.put.new.s.opened.items ≡ s.opened.items = ap (λ (a : Grouped). a.opened) c.put.ensures.now in
    let lt_new : k < length c.put.new.s.group.items = omega (arith, lt, ap (λ (l : List ℕ). length l) same_group) in
    let read : c.index-2.result.now ≡ get_or c.put.new.s.group.items k 0 = get_or_read c.put.new.s.group.items k _ lt_new c.index-2.ensures 0 in
    let low : c.index-2.result.now < length c.put.new.s.opened.items = omega (arith, read, c.put.ensures.grouped.below k lt_new) in
    let open_bit : c.index-3.result.now ≡ get_or s.opened.items (get_or s.group.items k 0) 0 =
    get_or_read c.put.new.s.opened.items c.index-2.result.now _ low c.index-3.ensures 0
    ∙ (ap (λ (l : List ℕ). get_or l c.index-2.result.now 0) same_opened
    ∙ (ap (λ g. get_or s.opened.items g 0) read ∙ ap (λ (l : List ℕ). get_or s.opened.items (get_or l k 0) 0) same_group)) in
    let is : get_or s.opened.items (get_or s.group.items k 0) 0 ≡ 0 = omega (arith, open_bit, h.opens (get_or s.group.items k 0), c.if-index-eq1.false) in
    (c.put.ensures.grouped, subst (λ (a : Grouped). Tallies (counted a) n.tally) (sym c.put.ensures.now) (put_closed s h k b lt was is n.tally t))
