-- A term begins, as a word or as its parts.
use Rattle.safl_interpreter.proofs.Common.{Primitive, Program, Word, apply_prim, slot, widths}
use Rattle.std.proofs.Common.{◌≡◌, ℕ, zero, suc, ◌<◌, List, [], ◌∷◌, length, Some, true, false, refl, sym, ap, ◌∙◌, subst, arith}
use Rattle.std.specs.Prelude.{slice_get}
use Rattle.safl_term.specs.Terms.{Term, Const, Var, If, Let, Op, Call, Loop, Terms, Nil, Cons}
use Rattle.safl_term.specs.Meaning.{gives_const, gives_var, gives_op, gives_if, gives_let, gives_call, gives_loop, gives_nil, gives_cons}
use Rattle.safl_interpreter.specs.Accounts.{Account}
use Rattle.safl_interpreter.specs.Turns.{Then, Choose, Bind, Operate, Apply, Turn, Enter, Within, Leave, begun}
use Rattle.safl_interpreter.specs.Comes.{Comes, Returns, Figures}
use Rattle.safl_interpreter.specs.Sound.{IsStep}

-- ---- what a term comes to, its parts come to

module _ (C : Program) (E : List Word) (n : ℕ) (acc : Account) (P : Figures → Type 0) where
  const_in : (w : Word) → Comes C (Enter (Const w) E n) acc P → Comes C (Leave w n) acc P
  const_in w (v, gives_const, h) = h

  const_out : (w : Word) → Comes C (Leave w n) acc P → Comes C (Enter (Const w) E n) acc P
  const_out w h = (w, gives_const, h)

  var_in : (i : ℕ) → Comes C (Enter (Var i) E n) acc P → Comes C (Leave (slot E i) n) acc P
  var_in i (v, gives_var, h) = h

  var_out : (i : ℕ) → Comes C (Leave (slot E i) n) acc P → Comes C (Enter (Var i) E n) acc P
  var_out i h = (slot E i, gives_var, h)

  if_in : (c a b : Term) → Comes C (Enter (If c a b) E n) acc P → Comes C (Within (begun (Choose a b) (Cons c Nil) E n)) acc P
  if_in c a b (v, gives_if {u = u} q d, h) = (u ∷ [], gives_cons q gives_nil, (v, d, h))

  if_out : (c a b : Term) → Comes C (Within (begun (Choose a b) (Cons c Nil) E n)) acc P → Comes C (Enter (If c a b) E n) acc P
  if_out c a b (us, gives_cons q gives_nil, (v, d, h)) = (v, gives_if q d, h)

  let_in : (ts : Terms) (b : Term) → Comes C (Enter (Let ts b) E n) acc P → Comes C (Within (begun (Bind b) ts E n)) acc P
  let_in ts b (v, gives_let {us = us} ds d, h) = (us, ds, (v, d, h))

  let_out : (ts : Terms) (b : Term) → Comes C (Within (begun (Bind b) ts E n)) acc P → Comes C (Enter (Let ts b) E n) acc P
  let_out ts b (us, ds, (v, d, h)) = (v, gives_let ds d, h)

  op_in : (p : Primitive) (ts : Terms) → Comes C (Enter (Op p ts) E n) acc P → Comes C (Within (begun (Operate p) ts E n)) acc P
  op_in p ts (v, gives_op {vs = us} ds, h) = (us, ds, h)

  op_out : (p : Primitive) (ts : Terms) → Comes C (Within (begun (Operate p) ts E n)) acc P → Comes C (Enter (Op p ts) E n) acc P
  op_out p ts (us, ds, h) = (apply_prim p us, gives_op ds, h)

  call_in : (f k : ℕ) (ts : Terms) → Comes C (Enter (Call f k ts) E n) acc P → Comes C (Within (begun (Apply f false) ts E n)) acc P
  call_in f k ts (v, gives_call {us = us} ds d, h) = (us, ds, (v, d, h))

  call_out : (f k : ℕ) (ts : Terms) → Comes C (Within (begun (Apply f false) ts E n)) acc P → Comes C (Enter (Call f k ts) E n) acc P
  call_out f k ts (us, ds, (v, d, h)) = (v, gives_call ds d, h)

  loop_in : (f : ℕ) (ts : Terms) → Comes C (Enter (Loop f ts) E n) acc P → Comes C (Within (begun (Apply f true) ts E n)) acc P
  loop_in f ts (v, gives_loop {us = us} ds d, h) = (us, ds, (v, d, h))

  loop_out : (f : ℕ) (ts : Terms) → Comes C (Within (begun (Apply f true) ts E n)) acc P → Comes C (Enter (Loop f ts) E n) acc P
  loop_out f ts (us, ds, (v, d, h)) = (v, gives_loop ds d, h)

-- ---- the steps

slot_width : (env : List Word) (i n : ℕ) → slice_get (widths env) i ≡ Some n → (slot env i).width ≡ n
slot_width [] i n e = absurd (cc)
slot_width (v ∷ env) zero n e = let q : v.width ≡ n = cc in q
slot_width (v ∷ env) (suc i) n e = slot_width env i n e

module _ (C : Program) (E : List Word) (n : ℕ) (acc : Account) where
  pub const_step : (w : Word) → IsStep C (Enter (Const w) E n) acc (Leave w n) acc
  const_step w = record {
    alike = λ rs out. (const_in C E n acc (Returns C rs out) w, const_out C E n acc (Returns C rs out) w);
    fits = λ m h. h.1;
    early = λ h. h;
    account = λ h. h;
    more = omega arith;
    within = λ m h k. h;
    less = omega arith;
  }

  pub var_step : (i : ℕ) → IsStep C (Enter (Var i) E n) acc (Leave (slot E i) n) acc
  var_step i = record {
    alike = λ rs out. (var_in C E n acc (Returns C rs out) i, var_out C E n acc (Returns C rs out) i);
    fits = λ m h. slot_width E i m h;
    early = λ h. h;
    account = λ h. h;
    more = omega arith;
    within = λ m h k. h;
    less = omega arith;
  }

  pub if_step : (c a b : Term) → IsStep C (Enter (If c a b) E n) acc (Within (begun (Choose a b) (Cons c Nil) E n)) acc
  if_step c a b = record {
    alike = λ rs out. (if_in C E n acc (Returns C rs out) c a b, if_out C E n acc (Returns C rs out) c a b);
    fits = λ m h. (1 ∷ [], (h.0, tt), (refl, h.1, h.2));
    early = λ h. (h, h);
    account = λ h. h;
    more = omega arith;
    within = λ m h k. h;
    less = omega arith;
  }

  pub let_step : (ts : Terms) (b : Term) → IsStep C (Enter (Let ts b) E n) acc (Within (begun (Bind b) ts E n)) acc
  let_step ts b = record {
    alike = λ rs out. (let_in C E n acc (Returns C rs out) ts b, let_out C E n acc (Returns C rs out) ts b);
    fits = λ m h. h;
    early = λ h. (h, h);
    account = λ h. h;
    more = omega arith;
    within = λ m h k. h;
    less = omega arith;
  }

  pub op_step : (p : Primitive) (ts : Terms) → IsStep C (Enter (Op p ts) E n) acc (Within (begun (Operate p) ts E n)) acc
  op_step p ts = record {
    alike = λ rs out. (op_in C E n acc (Returns C rs out) p ts, op_out C E n acc (Returns C rs out) p ts);
    fits = λ m h. h;
    early = λ h. (h, h);
    account = λ h. h;
    more = omega arith;
    within = λ m h k. h;
    less = omega arith;
  }

  pub call_step : (f k : ℕ) (ts : Terms) → IsStep C (Enter (Call f k ts) E n) acc (Within (begun (Apply f false) ts E n)) acc
  call_step f k ts = record {
    alike = λ rs out. (call_in C E n acc (Returns C rs out) f k ts, call_out C E n acc (Returns C rs out) f k ts);
    fits = λ m h. (C.params f, h.0, (refl, h.1, h.2));
    early = λ h. (h, h);
    account = λ h. h;
    more = omega arith;
    within = λ m h k. h;
    less = omega arith;
  }

  pub loop_step : (f : ℕ) (ts : Terms) → IsStep C (Enter (Loop f ts) E n) acc (Within (begun (Apply f true) ts E n)) acc
  loop_step f ts = record {
    alike = λ rs out. (loop_in C E n acc (Returns C rs out) f ts, loop_out C E n acc (Returns C rs out) f ts);
    fits = λ m h. (C.params f, h.0, (refl, h.1, h.2));
    early = λ h. (h, h);
    account = λ h. h;
    more = omega arith;
    within = λ m h k. h;
    less = omega arith;
  }

-- a step to the same turn under another name
pub step_as : (C : Program) (E : List Word) (n : ℕ) (acc : Account) {t u : Term} {s r : Turn} → t ≡ u → r ≡ s → IsStep C (Enter u E n) acc s acc → IsStep C (Enter t E n) acc r acc
step_as C E n acc {t} {u} {s} {r} e f h = subst (λ x. IsStep C (Enter x E n) acc r acc) (sym e) (subst (λ x. IsStep C (Enter u E n) acc x acc) (sym f) h)

pub slot_in : (env : List Word) (i w : ℕ) → slice_get (widths env) i ≡ Some w → i < length env
slot_in [] i w e = absurd (cc)
slot_in (v ∷ env) zero w e = omega arith
slot_in (v ∷ env) (suc i) w e = omega (arith, slot_in env i w e)

pub begun_as : (E : List Word) (n : ℕ) {r q : Then} {ts us : Terms} → r ≡ q → ts ≡ us → Within (begun r ts E n) ≡ Within (begun q us E n)
begun_as E n {r} {q} {ts} {us} e f = ap (λ x. Within (begun x ts E n)) e ∙ ap (λ x. Within (begun q x E n)) f
