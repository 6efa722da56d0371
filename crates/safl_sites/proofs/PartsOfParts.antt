-- The parts of a term that is part of a body are parts of it.
use Rattle.safl_sites.proofs.Common.{Call, Cons, If, Let, Loop, MayReach, MayReachIn, Nil, Op, Primitive, Program, SiteSet, Term, Terms}
use Rattle.std.proofs.Common.{◌≡◌, ℕ, suc, ◌+◌, ◌<◌, ◌≤◌, List, [], ◌∷◌, ◌++◌, length, length-append, refl, ap, subst, arith}
use Rattle.safl_term.specs.WellFormed.{HaveWidths}
use Rattle.safl_term.proofs.Places.{fits_le, fits_all_le}
use Rattle.safl_sites.specs.Parts.{IsPart, ArePart, terms_in}

pub have_length : (C : Program) (slots : List ℕ) (ts : Terms) (ws : List ℕ) → HaveWidths C slots ts ws → length ws ≡ terms_in ts
have_length C slots Nil [] h = refl
have_length C slots Nil (w ∷ ws) h = absurd h
have_length C slots (Cons t ts) [] h = absurd h
have_length C slots (Cons t ts) (w ∷ ws) h = ap suc (have_length C slots ts ws h.1)

first_rest : (C : Program) (g n : ℕ) (t : Term) (ts : Terms) (h : ArePart C g n (Cons t ts)) (ws : List ℕ) → HaveWidths C h.scope (Cons t ts) ws → IsPart C g n t × ArePart C g n ts
first_rest C g n t ts h [] p = absurd p
first_rest C g n t ts h (w ∷ ws) p =
    let (m, x, y) = h.spans in
    let e1 = fits_le C g _ h.lo m t x in
    let e2 = fits_all_le C g m h.hi ts y in (
      record { tail = _; lo = h.lo; hi = m; spans = x; least = h.least; most = omega (arith, e2, h.most); scope = h.scope; count = h.count; width = w; typed = p.0 },
      record { lo = m; hi = h.hi; spans = y; least = omega (arith, e1, h.least); most = h.most; scope = h.scope; count = h.count; widths = ws; typed = p.1 },
    )

-- a call of a lower unit, at a site of the program
pub record IsCall (C : Program) (g f k : ℕ) : Type 0 where
  pub callee : C.callee k ≡ f
  pub least : 1 ≤ k
  pub most : k ≤ C.sites
  pub lower : C.unit f < C.unit g
  pub within : f < C.functions

module _ {C : Program} {g n : ℕ} where
  part_cond : {c a b : Term} → IsPart C g n (If c a b) → IsPart C g n c
  part_cond {c} {a} {b} h =
      let (m, k, x, y, z) = h.spans in
      let e1 = fits_le C g h.tail m k a y in
      let e2 = fits_le C g h.tail k h.hi b z in
      record { tail = _; lo = h.lo; hi = m; spans = x; least = h.least; most = omega (arith, e1, e2, h.most); scope = h.scope; count = h.count; width = 1; typed = h.typed.0 }

  part_then : {c a b : Term} → IsPart C g n (If c a b) → IsPart C g n a
  part_then {c} {a} {b} h =
      let (m, k, x, y, z) = h.spans in
      let e1 = fits_le C g _ h.lo m c x in
      let e2 = fits_le C g h.tail k h.hi b z in
      record { tail = h.tail; lo = m; hi = k; spans = y; least = omega (arith, e1, h.least); most = omega (arith, e2, h.most); scope = h.scope; count = h.count; width = h.width; typed = h.typed.1 }

  part_else : {c a b : Term} → IsPart C g n (If c a b) → IsPart C g n b
  part_else {c} {a} {b} h =
      let (m, k, x, y, z) = h.spans in
      let e1 = fits_le C g _ h.lo m c x in
      let e2 = fits_le C g h.tail m k a y in
      record { tail = h.tail; lo = k; hi = h.hi; spans = z; least = omega (arith, e1, e2, h.least); most = h.most; scope = h.scope; count = h.count; width = h.width; typed = h.typed.2 }

  part_bound : {ts : Terms} {b : Term} → IsPart C g n (Let ts b) → ArePart C g n ts
  part_bound {ts} {b} h =
      let (m, x, y) = h.spans in
      let (ws, p, q) = h.typed in
      let e1 = fits_le C g h.tail m h.hi b y in
      record { lo = h.lo; hi = m; spans = x; least = h.least; most = omega (arith, e1, h.most); scope = h.scope; count = h.count; widths = ws; typed = p }

  part_body : {ts : Terms} {b : Term} → IsPart C g n (Let ts b) → IsPart C g (n + terms_in ts) b
  part_body {ts} {b} h =
      let (m, x, y) = h.spans in
      let (ws, p, q) = h.typed in
      let e1 = fits_all_le C g h.lo m ts x in
      let e2 = have_length C h.scope ts ws p in
      record {
        tail = h.tail;
        lo = m;
        hi = h.hi;
        spans = y;
        least = omega (arith, e1, h.least);
        most = h.most;
        scope = h.scope ++ ws;
        count = omega (arith, length-append h.scope ws, h.count, e2);
        width = h.width;
        typed = q;
      }

  part_op : {o : Primitive} {ts : Terms} → IsPart C g n (Op o ts) → ArePart C g n ts
  part_op h = record { lo = h.lo; hi = h.hi; spans = h.spans; least = h.least; most = h.most; scope = h.scope; count = h.count; widths = h.typed.0; typed = h.typed.1 }

  part_args : {f k : ℕ} {ts : Terms} → IsPart C g n (Call f k ts) → ArePart C g n ts
  part_args {f} {k} {ts} h =
      let (e, e1, e2, lt, s) = h.spans in
      record { lo = suc h.lo; hi = h.hi; spans = s; least = omega arith; most = h.most; scope = h.scope; count = h.count; widths = _; typed = h.typed.0 }

  part_loop : {f : ℕ} {ts : Terms} → IsPart C g n (Loop f ts) → ArePart C g n ts
  part_loop h = record { lo = h.lo; hi = h.hi; spans = h.spans.2; least = h.least; most = h.most; scope = h.scope; count = h.count; widths = _; typed = h.typed.0 }

  part_first : {t : Term} {ts : Terms} → ArePart C g n (Cons t ts) → IsPart C g n t
  part_first {t} {ts} h = (first_rest C g n t ts h h.widths h.typed).0

  part_rest : {t : Term} {ts : Terms} → ArePart C g n (Cons t ts) → ArePart C g n ts
  part_rest {t} {ts} h = (first_rest C g n t ts h h.widths h.typed).1

  pub part_call : {f k : ℕ} {ts : Terms} → IsPart C g n (Call f k ts) → IsCall C g f k
  part_call {f} {k} {ts} h =
      let (e, e1, e2, lt, s) = h.spans in
      let u = fits_all_le C g (suc h.lo) h.hi ts s in
      record { callee = e1; least = omega (arith, h.least); most = omega (arith, u, h.most); lower = lt; within = h.typed.2 }

-- the same with the sets of the units that may be called, of a term by its node
module _ {C : Program} {units : List SiteSet} {n : ℕ} where
  renamed : {t u : Term} → t ≡ u → MayReach C units n t → MayReach C units n u
  renamed e h = subst (λ (x : Term). MayReach C units n x) e h

  pub may_cond : {t c a b : Term} → t ≡ If c a b → MayReach C units n t → MayReach C units n c
  may_cond e h = let m = renamed e h in record { caller = m.caller; part = part_cond m.part; below = m.below; few = m.few }

  pub may_then : {t c a b : Term} → t ≡ If c a b → MayReach C units n t → MayReach C units n a
  may_then e h = let m = renamed e h in record { caller = m.caller; part = part_then m.part; below = m.below; few = m.few }

  pub may_else : {t c a b : Term} → t ≡ If c a b → MayReach C units n t → MayReach C units n b
  may_else e h = let m = renamed e h in record { caller = m.caller; part = part_else m.part; below = m.below; few = m.few }

  pub may_bound : {t b : Term} {ts : Terms} → t ≡ Let ts b → MayReach C units n t → MayReachIn C units n ts
  may_bound e h = let m = renamed e h in record { caller = m.caller; parts = part_bound m.part; below = m.below; few = m.few }

  pub may_body : {t b : Term} {ts : Terms} → t ≡ Let ts b → MayReach C units n t → MayReach C units (n + terms_in ts) b
  may_body e h = let m = renamed e h in record { caller = m.caller; part = part_body m.part; below = m.below; few = m.few }

  pub may_op : {t : Term} {o : Primitive} {ts : Terms} → t ≡ Op o ts → MayReach C units n t → MayReachIn C units n ts
  may_op e h = let m = renamed e h in record { caller = m.caller; parts = part_op m.part; below = m.below; few = m.few }

  pub may_args : {t : Term} {f k : ℕ} {ts : Terms} → t ≡ Call f k ts → MayReach C units n t → MayReachIn C units n ts
  may_args e h = let m = renamed e h in record { caller = m.caller; parts = part_args m.part; below = m.below; few = m.few }

  pub may_loop : {t : Term} {f : ℕ} {ts : Terms} → t ≡ Loop f ts → MayReach C units n t → MayReachIn C units n ts
  may_loop e h = let m = renamed e h in record { caller = m.caller; parts = part_loop m.part; below = m.below; few = m.few }

  pub may_first : {t : Term} {ts : Terms} → MayReachIn C units n (Cons t ts) → MayReach C units n t
  may_first h = record { caller = h.caller; part = part_first h.parts; below = h.below; few = h.few }

  pub may_rest : {t : Term} {ts : Terms} → MayReachIn C units n (Cons t ts) → MayReachIn C units n ts
  may_rest h = record { caller = h.caller; parts = part_rest h.parts; below = h.below; few = h.few }

  pub may_call : {t : Term} {f k : ℕ} {ts : Terms} → t ≡ Call f k ts → (h : MayReach C units n t) → IsCall C h.caller f k
  may_call {t} {f} {k} {ts} e h = part_call (subst (λ (x : Term). IsPart C h.caller n x) e h.part)
