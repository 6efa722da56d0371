-- Where the nodes of a term lie, by its parts.
use Rattle.safl_evaluate.proofs.Common.{Place, Primitive, Word, get_or-set_other, get_or-set_same, nodes, nodes_in, some_nodes}
use Rattle.std.proofs.Common.{◌≡◌, ℕ, ◌+◌, ◌<◌, ◌≤◌, ◌⊎◌, List, length, Bool, true, false, ◌&&◌, slice_set, inl, inr, sym, ap, ◌∙◌, subst, ⊎_elim, arith}
use Rattle.safl_term.specs.Standing.{Stands, StandsIn}
use Rattle.safl_term.specs.Terms.{Term, Const, Var, Op, If, Let, Call, Loop, Terms, Nil, Cons}
use Rattle.safl_evaluate.specs.Laying.{nowhere, place, IsPlace, IsRoom, Laid, LaidIn, LaidBelow, SameOutside, Covers}

-- ---- the same places

own_frame : (P P' : List Place) (p : ℕ) (t : Term) → IsPlace (place P p) p t → ((q : ℕ) → p ≤ q → q < p + nodes t → place P' q ≡ place P q) → IsPlace (place P' p) p t
own_frame P P' p t h c = subst (λ (x : Place). IsPlace x p t) (sym (c p (omega arith) (omega (arith, some_nodes t)))) h

mutual
  unfolding LaidBelow

  pub laid_below_frame : (P P' : List Place) (p : ℕ) (t : Term) → LaidBelow P p t → ((q : ℕ) → p < q → q < p + nodes t → place P' q ≡ place P q) → LaidBelow P' p t
  laid_below_frame P P' p (Const w) h c = tt
  laid_below_frame P P' p (Var i) h c = tt
  laid_below_frame P P' p (Op o ts) h c = laid_in_frame P P' (p + 1) ts h (λ q x y. c q (omega (arith, x)) (omega (arith, y)))
  laid_below_frame P P' p (If d x y) h c = (
    (own_frame P P' (p + 1) d h.0.0 (λ q m n. c q (omega (arith, m)) (omega (arith, n))), laid_below_frame P P' (p + 1) d h.0.1 (λ q m n. c q (omega (arith, m)) (omega (arith, n)))),
    (
      own_frame P P' (p + 1 + nodes d) x h.1.0 (λ q m n. c q (omega (arith, m)) (omega (arith, n))),
      laid_below_frame P P' (p + 1 + nodes d) x h.1.1
          (λ q m n. c q (omega (arith, m)) (omega (arith, n))),
    ),
    (
      own_frame P P' (p + 1 + nodes d + nodes x) y h.2.0 (λ q m n. c q (omega (arith, m)) (omega (arith, n))),
      laid_below_frame P P'
          (p + 1 + nodes d + nodes x) y h.2.1 (λ q m n. c q (omega (arith, m)) (omega (arith, n))),
    ),
  )
  laid_below_frame P P' p (Let ts x) h c = (
    laid_in_frame P P' (p + 1 + nodes x) ts h.0 (λ q m n. c q (omega (arith, m)) (omega (arith, n))),
    own_frame P P' (p + 1) x h.1 (λ q m n. c q (omega (arith, m)) (omega (arith, n))),
    laid_below_frame P P' (p + 1) x h.2 (λ q m n. c q (omega (arith, m)) (omega (arith, n))),
  )
  laid_below_frame P P' p (Call f k ts) h c = laid_in_frame P P' (p + 1) ts h (λ q x y. c q (omega (arith, x)) (omega (arith, y)))
  laid_below_frame P P' p (Loop m ts) h c = laid_in_frame P P' (p + 1) ts h (λ q x y. c q (omega (arith, x)) (omega (arith, y)))

  pub laid_in_frame : (P P' : List Place) (p : ℕ) (ts : Terms) → LaidIn P p ts → ((q : ℕ) → p ≤ q → q < p + nodes_in ts → place P' q ≡ place P q) → LaidIn P' p ts
  laid_in_frame P P' p Nil h c = tt
  laid_in_frame P P' p (Cons t ts) h c = (
    (own_frame P P' p t h.0.0 (λ q m n. c q (omega (arith, m)) (omega (arith, n))), laid_below_frame P P' p t h.0.1 (λ q m n. c q (omega (arith, m)) (omega (arith, n)))),
    laid_in_frame P P' (p + nodes t) ts h.1 (λ q m n. c q (omega (arith, m)) (omega (arith, n))),
  )

pub laid_frame : (P P' : List Place) (p : ℕ) (t : Term) → Laid P p t → ((q : ℕ) → p ≤ q → q < p + nodes t → place P' q ≡ place P q) → Laid P' p t
laid_frame P P' p t h c = (own_frame P P' p t h.0 c, laid_below_frame P P' p t h.1 (λ q x y. c q (omega (arith, x)) y))

-- what lies before what was laid, and after it
pub laid_still : {P P' : List Place} {f u : ℕ} (p : ℕ) (t : Term) → SameOutside f u P P' → (p + nodes t ≤ f) ⊎ (u ≤ p) → Laid P p t → Laid P' p t
laid_still {P} {P'} p t o (inl e) h = laid_frame P P' p t h (λ q x y. o.below q (omega (arith, e, y)))
laid_still {P} {P'} p t o (inr e) h = laid_frame P P' p t h (λ q x y. o.above q (omega (arith, e, x)))

pub outside_more : {f u g v : ℕ} {P P' : List Place} → SameOutside f u P P' → g ≤ f → u ≤ v → SameOutside g v P P'
outside_more o x y = record { below = λ q m. o.below q (omega (arith, m, x)); above = λ q m. o.above q (omega (arith, m, y)) }

pub outside_both : {f u : ℕ} {P P' P'' : List Place} → SameOutside f u P P' → SameOutside f u P' P'' → SameOutside f u P P''
outside_both h i = record { below = λ q m. i.below q m ∙ h.below q m; above = λ q m. i.above q m ∙ h.above q m }

-- ---- the place of a term, by those of its parts

-- what covers a place has its sites too
pub covered : {x y : Place} (k : ℕ) → Covers x y → (y.first ≤ k) × (k ≤ y.last) → (x.first ≤ k) × (k ≤ x.last)
covered k c h = (omega (arith, c.first, h.0), omega (arith, c.last, h.1))

and_is : {a b x y : Bool} → a ≡ x → b ≡ y → (a && b) ≡ (x && y)
and_is {a} {b} {x} {y} e f = ap (λ z. z && b) e ∙ ap (λ z. x && z) f

pub place_if : {r bd a b d : Place} {p : ℕ} {c x y : Term} → IsPlace a (p + 1) c → IsPlace b (p + 1 + nodes c) x → IsPlace d (p + 1 + nodes c + nodes x) y
    → Covers bd b → Covers bd d → Covers r a → Covers r bd → r.next ≡ bd.next → bd.next ≡ d.next
    → bd.is_plain ≡ (b.is_plain && d.is_plain) → r.is_plain ≡ (a.is_plain && bd.is_plain)
    → bd.is_plain_body ≡ (b.is_plain_body && d.is_plain_body) → r.is_plain_body ≡ (a.is_plain && bd.is_plain_body) → IsPlace r p (If c x y)
unfolding Stands
place_if {r} {bd} {a} {b} {d} {p} {c} {x} {y} ha hb hd cb cd ca cbd e f g h i j = record {
  next = omega (arith, e, f, hd.next);
  plain = h ∙ and_is ha.plain (g ∙ and_is hb.plain hd.plain);
  body = j ∙ and_is ha.plain (i ∙ and_is hb.body hd.body);
  sites = λ k st. ⊎_elim (λ s. covered k ca (ha.sites k s)) (λ r. ⊎_elim (λ s. covered k cbd (covered k cb (hb.sites k s))) (λ s. covered k cbd (covered k cd
      (hd.sites k s))) r) st;
}

pub place_let : {r a b : Place} {p : ℕ} {ts : Terms} {x : Term} → IsPlace a (p + 1) x → IsRoom b (p + 1 + nodes x) ts → Covers r a → Covers r b
    → r.next ≡ b.next
    → r.is_plain ≡ (b.is_plain && a.is_plain) → r.is_plain_body ≡ (b.is_plain && a.is_plain_body) → IsPlace r p (Let ts x)
unfolding Stands
place_let {r} {a} {b} {p} {ts} {x} ha hb ca cb e f g = record {
  next = omega (arith, e, hb.next);
  plain = f ∙ and_is hb.plain ha.plain;
  body = g ∙ and_is hb.plain ha.body;
  sites = λ k st. ⊎_elim (λ s. covered k cb (hb.sites k s)) (λ s. covered k ca (ha.sites k s)) st;
}

pub place_op : {r : Place} {p : ℕ} {o : Primitive} {ts : Terms} → IsRoom r (p + 1) ts → IsPlace r p (Op o ts)
unfolding Stands
place_op h = record { next = omega (arith, h.next); plain = h.plain; body = h.body; sites = λ k st. h.sites k st }

pub place_loop : {r a : Place} {p m : ℕ} {ts : Terms} → IsRoom a (p + 1) ts → r ≡ record a { is_plain = false } → IsPlace r p (Loop m ts)
unfolding Stands
place_loop {r} {a} {p} {m} {ts} h e = record {
  next = omega (arith, ap (λ (x : Place). x.next) e, h.next);
  plain = ap (λ (x : Place). x.is_plain) e;
  body = ap (λ (x : Place). x.is_plain_body) e ∙ h.body;
  sites = λ k st.
      let s = h.sites k st in
      (omega (arith, ap (λ (x : Place). x.first) e, s.0), omega (arith, ap (λ (x : Place). x.last) e, s.1));
}

pub place_call : {r a : Place} {p f j : ℕ} {ts : Terms} → IsRoom a (p + 1) ts → Covers r a → r.next ≡ a.next → r.first ≤ j → j ≤ r.last → r.is_plain ≡ false
    → r.is_plain_body ≡ false → IsPlace r p (Call f j ts)
unfolding Stands
place_call {r} {a} {p} {f} {j} {ts} h c e first last plain body = record {
  next = omega (arith, e, h.next);
  plain = plain;
  body = body;
  sites = λ k st. ⊎_elim (λ q. (omega (arith, first, q), omega (arith, last, q))) (λ s. covered k c (h.sites k s)) st;
}

pub room_nil : {r : Place} {p : ℕ} → r.next ≡ p → r.is_plain ≡ true → r.is_plain_body ≡ true → IsRoom r p Nil
unfolding StandsIn
room_nil e f g = record { next = omega (arith, e); plain = f; body = g; sites = λ k st. absurd st }

pub room_more : {r a b : Place} {p : ℕ} {t : Term} {ts : Terms} → IsPlace a p t → IsRoom b (p + nodes t) ts → Covers r a → Covers r b → r.next ≡ b.next
    → r.is_plain ≡ (a.is_plain && b.is_plain) → r.is_plain_body ≡ (a.is_plain && b.is_plain_body) → IsRoom r p (Cons t ts)
unfolding StandsIn
room_more {r} {a} {b} {p} {t} {ts} ha hb ca cb e f g = record {
  next = omega (arith, e, hb.next);
  plain = f ∙ and_is ha.plain hb.plain;
  body = g ∙ and_is ha.plain hb.body;
  sites = λ k st. ⊎_elim (λ s. covered k ca (ha.sites k s)) (λ s. covered k cb (hb.sites k s)) st;
}

-- ---- the parts of a term that were laid one after the other

pub laid_if : {P' P'' P''' : List Place} (p : ℕ) (c x y : Term) → Laid P' (p + 1) c → Laid P'' (p + 1 + nodes c) x → Laid P''' (p + 1 + nodes c + nodes x) y
    → SameOutside (p + 1 + nodes c) (p + 1 + nodes c + nodes x) P' P'' → SameOutside (p + 1 + nodes c + nodes x) (p + 1 + nodes c + nodes x + nodes y) P'' P''' → LaidBelow P''' p (If c x y)
unfolding LaidBelow
laid_if {P'} {P''} {P'''} p c x y hc hx hy o2 o3 = (
  laid_still (p + 1) c o3 (inl (omega arith)) (laid_still (p + 1) c o2 (inl (omega arith)) hc),
  laid_still (p + 1 + nodes c) x o3 (inl (omega arith)) hx,
  hy,
)

pub laid_let : {P' P'' : List Place} (p : ℕ) (ts : Terms) (x : Term) → Laid P' (p + 1) x → LaidIn P'' (p + 1 + nodes x) ts → SameOutside
    (p + 1 + nodes x) (p + 1 + nodes x + nodes_in ts) P' P'' → LaidBelow P'' p (Let ts x)
unfolding LaidBelow
laid_let {P'} {P''} p ts x hx hs o = let body = laid_still (p + 1) x o (inl (omega arith)) hx in (hs, body.0, body.1)

pub laid_more : {P' P'' : List Place} (p : ℕ) (t : Term) (ts : Terms) → Laid P' p t → LaidIn P'' (p + nodes t) ts → SameOutside (p + nodes t) (p + nodes t + nodes_in ts) P' P''
    → LaidIn P'' p (Cons t ts)
unfolding LaidBelow
laid_more {P'} {P''} p t ts ht hs o = (laid_still p t o (inl (omega arith)) ht, hs)

-- ---- a term whose own place is noted last

pub laid_own : (P V : List Place) (p : ℕ) (t : Term) (x : Place) → LaidBelow P p t → IsPlace x p t → p < length P → V ≡ slice_set P p x → Laid V p t
laid_own P V p t x below is lt e = (
  subst (λ (y : Place). IsPlace y p t) (sym (ap (λ (l : List Place). place l p) e ∙ get_or-set_same P p x nowhere lt)) is,
  laid_below_frame P V p t below (λ q m n. ap (λ (l : List Place). place l q) e ∙ get_or-set_other P p q x nowhere (omega (arith, m))),
)

pub outside_own : {P P' V : List Place} (p u : ℕ) (x : Place) → SameOutside (p + 1) u P P' → p < u → V ≡ slice_set P' p x → SameOutside p u P V
outside_own {P} {P'} {V} p u x o lt e = record {
  below = λ q m. ap (λ (l : List Place). place l q) e ∙ (get_or-set_other P' p q x nowhere (omega (arith, m)) ∙ o.below q (omega (arith, m)));
  above = λ q m. ap (λ (l : List Place). place l q) e ∙ (get_or-set_other P' p q x nowhere (omega (arith, m, lt)) ∙ o.above q m);
}

-- ---- a term that is known under another name, and parts that lie where others end

pub below_is : (P : List Place) (p : ℕ) {t u : Term} → t ≡ u → LaidBelow P p u → LaidBelow P p t
below_is P p e h = subst (λ (z : Term). LaidBelow P p z) (sym e) h

pub in_is : (P : List Place) (p : ℕ) {ts us : Terms} → ts ≡ us → LaidIn P p us → LaidIn P p ts
in_is P p e h = subst (λ (z : Terms). LaidIn P p z) (sym e) h

pub place_is : {x : Place} {p : ℕ} {t u : Term} → t ≡ u → IsPlace x p u → IsPlace x p t
place_is {x} {p} e h = subst (λ (z : Term). IsPlace x p z) (sym e) h

pub room_is : {x : Place} {p : ℕ} {ts us : Terms} → ts ≡ us → IsRoom x p us → IsRoom x p ts
room_is {x} {p} e h = subst (λ (z : Terms). IsRoom x p z) (sym e) h

pub place_at : {x : Place} {p q : ℕ} {t : Term} → q ≡ p → IsPlace x q t → IsPlace x p t
place_at {x} {p} {q} {t} e h = subst (λ (i : ℕ). IsPlace x i t) e h

pub room_at : {x : Place} {p q : ℕ} {ts : Terms} → q ≡ p → IsRoom x q ts → IsRoom x p ts
room_at {x} {p} {q} {ts} e h = subst (λ (i : ℕ). IsRoom x i ts) e h

pub laid_at : (P : List Place) {p q : ℕ} (t : Term) → q ≡ p → Laid P q t → Laid P p t
laid_at P t e h = subst (λ (i : ℕ). Laid P i t) e h

pub laid_in_at : (P : List Place) {p q : ℕ} (ts : Terms) → q ≡ p → LaidIn P q ts → LaidIn P p ts
laid_in_at P ts e h = subst (λ (i : ℕ). LaidIn P i ts) e h

pub outside_at : {P P' : List Place} {p q : ℕ} (n : ℕ) → q ≡ p → SameOutside q (q + n) P P' → SameOutside p (p + n) P P'
outside_at {P} {P'} n e h = subst (λ (i : ℕ). SameOutside i (i + n) P P') e h

pub below_const : (P : List Place) (p : ℕ) (w : Word) → LaidBelow P p (Const w)
unfolding LaidBelow
below_const P p w = tt

pub below_var : (P : List Place) (p i : ℕ) → LaidBelow P p (Var i)
unfolding LaidBelow
below_var P p i = tt

pub below_op : (P : List Place) (p : ℕ) (o : Primitive) (ts : Terms) → LaidIn P (p + 1) ts → LaidBelow P p (Op o ts)
unfolding LaidBelow
below_op P p o ts h = h

pub below_call : (P : List Place) (p f k : ℕ) (ts : Terms) → LaidIn P (p + 1) ts → LaidBelow P p (Call f k ts)
unfolding LaidBelow
below_call P p f k ts h = h

pub below_loop : (P : List Place) (p m : ℕ) (ts : Terms) → LaidIn P (p + 1) ts → LaidBelow P p (Loop m ts)
unfolding LaidBelow
below_loop P p m ts h = h

pub in_nil : (P : List Place) (p : ℕ) → LaidIn P p Nil
unfolding LaidIn
in_nil P p = tt

pub place_const : {r : Place} {p : ℕ} {w : Word} → r.next ≡ p + 1 → r.is_plain ≡ true → r.is_plain_body ≡ true → IsPlace r p (Const w)
unfolding Stands
place_const e f g = record { next = omega (arith, e); plain = f; body = g; sites = λ k st. absurd st }

pub place_var : {r : Place} {p i : ℕ} → r.next ≡ p + 1 → r.is_plain ≡ true → r.is_plain_body ≡ true → IsPlace r p (Var i)
unfolding Stands
place_var e f g = record { next = omega (arith, e); plain = f; body = g; sites = λ k st. absurd st }
