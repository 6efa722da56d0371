-- What the calls for the parts of a term require.
use Rattle.safl_lower.proofs.Common.{AreSources, Grows, IsSource, Lowered, LoweredAll, Netlist, Out, Primitive, Program, ReadyAt, Sig}
use Rattle.safl_lower.proofs.Common.{SiteTable, fits_all_le, get_some, grows_on, nodes_in, result_width}
use Rattle.std.proofs.Common.{◌≡◌, ℕ, suc, ◌+◌, ◌-◌, ◌<◌, Bool, false, List, [], ◌∷◌, ◌++◌, length, Some, refl, sym, ap, subst, ◌∙◌, arith}
use Rattle.safl_term.specs.Terms.{Term, Var, Op, If, Let, Call, Loop, Terms, Nil, Cons}
use Rattle.safl_term.specs.WellFormed.{SpansAll, HasWidth, HaveWidths}
use Rattle.safl_lower.specs.Typing.{Owner, Typed, TypedAll}
use Rattle.safl_lower.specs.Lowering.{Sited, Setting, Lowerable, LowerableAll, HasPorts, Shaped, Lowers, LowersAll, ShowsPort}
use Rattle.safl_lower.proofs.Kept.{sited_kept, setting_on, setting_kept, setting_below}
use Rattle.safl_lower.proofs.Typing.{test_typed, yes_typed, no_typed, bound_typed, body_typed, parts_typed, args_typed, next_typed}
use Rattle.safl_lower.proofs.Leaves.{slot_within}
use Rattle.safl_lower.proofs.Branches.{Branches, Inner}
use Rattle.safl_lower.proofs.Building.{source_grown, sources_grown}

module _ {P : SiteTable} {slots : List Sig} {path : Sig} {n0 : Netlist} where
  pub able_var : {i : ℕ} → Lowerable n0 P slots path (Var i) → i < length slots
  able_var {i} h = slot_within n0 slots h.env i h.width h.setting.slots_sized h.typed.width

  pub able_test : {c a b : Term} → Lowerable n0 P slots path (If c a b) → Lowerable n0 P slots path c
  able_test {c} {a} {b} h = record { owner = h.owner; tail = false; env = h.env; width = 1; setting = h.setting; typed = test_typed h.typed; room = let r = h.room in omega arith }

  pub test_shape : {c a b : Term} {n1 : Netlist} {o0 o1 : Out} {test : Lowered} → Lowerable n0 P slots path (If c a b) → Lowers P slots path n0 n1 o0 o1 test c → Shaped n1 test 1
  test_shape h hc = hc.shape h.owner false h.env 1 h.setting (test_typed h.typed)

  pub test_bit : {c a b : Term} {n1 : Netlist} {o0 o1 : Out} {test : Lowered} → Lowerable n0 P slots path (If c a b) → Lowers P slots path n0 n1 o0 o1 test c → IsSource n1 test.value 1
  test_bit h hc = (hc.shape h.owner false h.env 1 h.setting (test_typed h.typed)).width (hc.ever h.owner h.env 1 (test_typed h.typed))

  pub path_kept : {t : Term} {n1 : Netlist} → Lowerable n0 P slots path t → Grows n0 n1 → IsSource n1 path 1
  path_kept h g = source_grown g path 1 h.setting.path_bit

  pub able_yes : {c a b : Term} {n1 n2 : Netlist} {o0 o1 : Out} {test : Lowered} {py pn : Sig} → Lowerable n0 P slots path (If c a b) → Lowers P slots
      path n0 n1 o0 o1 test c → Branches path n1 n2 test a b py pn → Lowerable n2 P slots py a
  able_yes {c} {a} {b} h hc hp = record {
    owner = h.owner;
    tail = h.tail;
    env = h.env;
    width = h.width;
    setting = setting_on
        (grows_on hc.grows hp.grows) h.setting hp.yes_bit;
    typed = yes_typed h.typed;
    room = let r = h.room in let i = hc.count in let j = hp.count in omega arith;
  }

  pub yes_shape : {c a b : Term} {n1 n2 n3 : Netlist} {o0 o1 o2 : Out} {test yes : Lowered} {py pn : Sig} → (h : Lowerable n0 P slots path (If c a b))
      → Lowers P slots path n0 n1 o0 o1 test c → Branches path n1 n2 test a b py pn → Lowers P slots py n2 n3 o1 o2 yes a → Shaped n3 yes h.width
  yes_shape h hc hp ha = ha.shape h.owner h.tail h.env h.width (setting_on (grows_on hc.grows hp.grows) h.setting hp.yes_bit) (yes_typed h.typed)

  pub able_no : {c a b : Term} {n1 n2 n3 : Netlist} {o0 o1 o2 : Out} {test yes : Lowered} {py pn : Sig} → Lowerable n0 P slots path (If c a b) →
      Lowers P slots path n0 n1 o0 o1 test c → Branches path n1 n2 test a b py pn → Lowers P slots py n2 n3 o1 o2 yes a → Lowerable n3 P slots pn b
  able_no {c} {a} {b} {pn = pn} h hc hp ha = record {
    owner = h.owner;
    tail = h.tail;
    env = h.env;
    width = h.width;
    setting = setting_on
        (grows_on hc.grows (grows_on hp.grows ha.grows)) h.setting (source_grown ha.grows pn 1 hp.no_bit);
    typed = no_typed h.typed;
    room = let r =
        h.room in let i = hc.count in let j = hp.count in let k = ha.count in omega arith;
  }

  pub no_shape : {c a b : Term} {n1 n2 n3 n4 : Netlist} {o0 o1 o2 o3 : Out} {test yes no : Lowered} {py pn : Sig} →
      (h : Lowerable n0 P slots path (If c a b)) → Lowers P slots path n0 n1 o0 o1 test c → Branches path n1 n2 test a b py pn → Lowers P slots py n2
      n3 o1 o2 yes a → Lowers P slots pn n3 n4 o2 o3 no b → Shaped n4 no h.width
  no_shape {pn = pn} h hc hp ha hb = hb.shape h.owner h.tail h.env h.width
      (setting_on (grows_on hc.grows (grows_on hp.grows ha.grows)) h.setting (source_grown ha.grows pn 1 hp.no_bit)) (no_typed h.typed)

  pub able_bound : {bs : Terms} {b : Term} → Lowerable n0 P slots path (Let bs b) → LowerableAll n0 P slots path bs
  able_bound {bs} {b} h = record { owner = h.owner; env = h.env; widths = h.typed.width.0; setting = h.setting; typed = bound_typed h.typed; room = let r = h.room in omega arith }

  pub bound_shape : {bs : Terms} {b : Term} {n1 : Netlist} {o0 o1 : Out} {bound : LoweredAll} → Lowerable n0 P slots path (Let bs b) → LowersAll P
      slots path n0 n1 o0 o1 bound bs → ReadyAt n1 bound.ready
  bound_shape h hs = (hs.shape h.owner h.env h.typed.width.0 h.setting (bound_typed h.typed)).ready

  pub able_inner : {bs : Terms} {b : Term} {n1 n2 : Netlist} {o0 o1 : Out} {bound : LoweredAll} {inner : Sig} → Lowerable n0 P slots path (Let bs b) →
      LowersAll P slots path n0 n1 o0 o1 bound bs → Inner path n1 n2 b bound.ready inner → Lowerable n2 P (slots ++ bound.values.items) inner b
  able_inner {bs} {b} {n1} {n2} {bound = bound} h hs hi =
      let ws = h.typed.width.0 in
      let a = hs.shape h.owner h.env ws h.setting (bound_typed h.typed) in
      record {
        owner = h.owner;
        tail = h.tail;
        env = h.env ++ ws;
        width = h.width;
        setting = setting_below bound.values.items ws (grows_on hs.grows hi.grows) h.setting hi.bit (sources_grown hi.grows bound.values.items ws a.widths);
        typed = body_typed h.typed;
        room = let r = h.room in let i = hs.count in let j = hi.count in omega arith;
      }

  pub body_shape : {bs : Terms} {b : Term} {n1 n2 n3 : Netlist} {o0 o1 o2 : Out} {bound : LoweredAll} {inner : Sig} {body : Lowered} →
      (h : Lowerable n0 P slots path (Let bs b)) → LowersAll P slots path n0 n1 o0 o1 bound bs → Inner path n1 n2 b bound.ready inner → Lowers P
      (slots ++ bound.values.items) inner n2 n3 o1 o2 body b → Shaped n3 body h.width
  unfolding able_inner
  body_shape h hs hi hb = let k = able_inner h hs hi in hb.shape h.owner h.tail (h.env ++ h.typed.width.0) h.width k.setting (body_typed h.typed)

  pub able_parts : {p : Primitive} {ts : Terms} → Lowerable n0 P slots path (Op p ts) → LowerableAll n0 P slots path ts
  able_parts {p} {ts} h = record { owner = h.owner; env = h.env; widths = h.typed.width.0; setting = h.setting; typed = parts_typed h.typed; room = let r = h.room in omega arith }

  pub parts_sized : {p : Primitive} {ts : Terms} {n1 : Netlist} {o0 o1 : Out} {all : LoweredAll} → Lowerable n0 P slots path (Op p ts) → LowersAll P
      slots path n0 n1 o0 o1 all ts → (ws : List ℕ) × (w : ℕ) × AreSources n1 all.values.items ws × (result_width p ws ≡ Some w)
  parts_sized h hs = (h.typed.width.0, h.width, (hs.shape h.owner h.env h.typed.width.0 h.setting (parts_typed h.typed)).widths, h.typed.width.2)

  pub able_args : {f k : ℕ} {ts : Terms} → Lowerable n0 P slots path (Call f k ts) → LowerableAll n0 P slots path ts
  able_args {f} {k} {ts} h = record { owner = h.owner; env = h.env; widths = h.owner.program.params f; setting = h.setting; typed = args_typed h.typed; room = let r = h.room in omega arith }

  pub args_ready : {f k : ℕ} {ts : Terms} {n1 : Netlist} {o0 o1 : Out} {all : LoweredAll} → Lowerable n0 P slots path (Call f k ts) → LowersAll P slots path n0 n1 o0 o1 all ts → ReadyAt n1 all.ready
  args_ready {f} h hs = (hs.shape h.owner h.env (h.owner.program.params f) h.setting (args_typed h.typed)).ready

  pub args_site : {f k : ℕ} {ts : Terms} {n1 : Netlist} → Lowerable n0 P slots path (Call f k ts) → Grows n0 n1 → HasPorts n1 P k
  args_site {f} {k} {ts} h g =
      let s = h.setting in
      let t = h.typed in
      let first = s.first in
      let last = s.last in
      let from = t.from in
      let upto = t.upto in
      let low = t.spans.0 in
      let below = fits_all_le h.owner.program h.owner.function (suc t.low) t.high ts t.spans.4 in
      let p = get_some P.ports.items (k - P.first) (omega (arith, first, last, from, upto, low, below)) in
      record { from = omega (arith, first, from, low); port = p.0; at = p.1; sent = source_grown g p.0.sent 1 (s.sites_sized (k - P.first) p.0 p.1).sent }

  -- what a call shows has the width of its callee's result
  pub call_shape : (F : Owner) (tail : Bool) (env : List ℕ) (w : ℕ) {f k : ℕ} {ts : Terms} {n1 : Netlist} {r : Lowered} → Grows n0 n1 → ShowsPort P k r →
      Setting n0 F P slots env path → Typed F tail env (Call f k ts) w → Shaped n1 r w
  call_shape F tail env w {f} {k} {ts} {n1} {r} g h s t =
      let first = s.first in
      let from = t.from in
      let low = t.spans.0 in
      let place : P.first + (k - P.first) ≡ k = omega (arith, first, from, low) in
      let wide : F.program.result (F.program.callee (P.first + (k - P.first))) ≡ w = ap (λ (i : ℕ). F.program.result (F.program.callee i)) place ∙ ap F.program.result t.spans.1 ∙ t.width.1 in
      let q = sited_kept g h.port w (subst (Sited n0 h.port) wide (s.sites_sized (k - P.first) h.port h.at)) in
      subst (λ (x : Lowered). Shaped n1 x w) (sym h.is) (record { ready = q.returned; width = λ ever. q.value })

  pub able_next : {g : ℕ} {ts : Terms} → Lowerable n0 P slots path (Loop g ts) → LowerableAll n0 P slots path ts
  able_next {g} {ts} h = record { owner = h.owner; env = h.env; widths = h.owner.program.params g; setting = h.setting; typed = next_typed h.typed; room = let r = h.room in omega arith }

  pub next_ready : {g : ℕ} {ts : Terms} {n1 : Netlist} {o0 o1 : Out} {all : LoweredAll} → Lowerable n0 P slots path (Loop g ts) → LowersAll P slots path n0 n1 o0 o1 all ts → ReadyAt n1 all.ready
  next_ready {g} h hs = (hs.shape h.owner h.env (h.owner.program.params g) h.setting (next_typed h.typed)).ready

-- ---- the next of a list of terms

abbrev pub joined : Terms → Terms → Terms
joined Nil us = us
joined (Cons t ts) us = Cons t (joined ts us)

-- the first of the terms, and the one after them
front_spans : (p : Program) (g lo hi : ℕ) (ts us : Terms) → SpansAll p g lo hi (joined ts us) → (m : ℕ) × SpansAll p g lo m ts × SpansAll p g m hi us
front_spans p g lo hi Nil us h = (lo, refl, h)
front_spans p g lo hi (Cons t ts) us (m, x, h) = let r = front_spans p g m hi ts us h in (r.0, (m, x, r.1), r.2)

front_widths : (p : Program) (env : List ℕ) (ts us : Terms) (ws : List ℕ) → HaveWidths p env (joined ts us) ws → (xs : List ℕ) × (ys : List ℕ) × HaveWidths p env ts xs × HaveWidths p env us ys
front_widths p env Nil us ws h = ([], ws, tt, h)
front_widths p env (Cons t ts) us [] h = absurd h
front_widths p env (Cons t ts) us (w ∷ ws) h = let r = front_widths p env ts us ws h.1 in (w ∷ r.0, r.1, (h.0, r.2), r.3)

typed_front : (F : Owner) (env : List ℕ) (ts us : Terms) (ws : List ℕ) → TypedAll F env (joined ts us) ws → (xs : List ℕ) × TypedAll F env ts xs
typed_front F env ts us ws h =
    let s = front_spans F.program F.function h.low h.high ts us h.spans in
    let w = front_widths F.program env ts us ws h.widths in
    let a = fits_all_le F.program F.function s.0 h.high us s.2 in
    (w.0, record { low = h.low; high = s.0; from = h.from; upto = let u = h.upto in omega (arith, a, u); spans = s.1; widths = w.2 })

first_width : (p : Program) (env : List ℕ) (t : Term) (us : Terms) (ws : List ℕ) → HaveWidths p env (Cons t us) ws → (w : ℕ) × HasWidth p env t w
first_width p env t us [] h = absurd h
first_width p env t us (w ∷ ws) h = (w, h.0)

typed_next : (F : Owner) (env : List ℕ) (ts : Terms) (t : Term) (us : Terms) (ws : List ℕ) → TypedAll F env (joined ts (Cons t us)) ws → (w : ℕ) × Typed F false env t w
typed_next F env ts t us ws h =
    let s = front_spans F.program F.function h.low h.high ts (Cons t us) h.spans in
    let w = front_widths F.program env ts (Cons t us) ws h.widths in
    let one = first_width F.program env t us w.1 w.3 in
    let a = fits_all_le F.program F.function h.low s.0 ts s.1 in
    let b = fits_all_le F.program F.function s.2.0 h.high us s.2.2 in
    (one.0, record { low = s.0; high = s.2.0; from = let u = h.from in omega (arith, a, u); upto = let u = h.upto in omega (arith, b, u); spans = s.2.1; width = one.1 })

nodes_joined : (ts us : Terms) → nodes_in (joined ts us) ≡ nodes_in ts + nodes_in us
nodes_joined Nil us = omega arith
nodes_joined (Cons t ts) us = let h = nodes_joined ts us in omega arith

pub able_at : {P : SiteTable} {slots : List Sig} {path : Sig} {n0 n1 : Netlist} {o0 o1 : Out} {r : LoweredAll} {ts : Terms} {t : Term} (us : Terms)
    → LowerableAll n0 P slots path (joined ts (Cons t us)) → LowersAll P slots path n0 n1 o0 o1 r ts → Lowerable n1 P slots path t
able_at {ts = ts} {t = t} us h hs =
    let w = typed_next h.owner h.env ts t us h.widths h.typed in
    record {
      owner = h.owner;
      tail = false;
      env = h.env;
      width = w.0;
      setting = setting_kept hs.grows h.setting;
      typed = w.1;
      room = let r = h.room in
          let i = hs.count in omega (arith, nodes_joined ts (Cons t us));
    }

pub front_ready : {P : SiteTable} {slots : List Sig} {path : Sig} {n0 n1 : Netlist} {o0 o1 : Out} {r : LoweredAll} {ts : Terms} (us : Terms)
    → LowerableAll n0 P slots path (joined ts us) → LowersAll P slots path n0 n1 o0 o1 r ts → ReadyAt n1 r.ready
front_ready {ts = ts} us h hs = let x = typed_front h.owner h.env ts us h.widths h.typed in (hs.shape h.owner h.env x.0 h.setting x.1).ready

pub one_ready : {P : SiteTable} {slots : List Sig} {path : Sig} {n1 n2 : Netlist} {o1 o2 : Out} {one : Lowered} {t : Term} → Lowerable n1 P slots path
    t → Lowers P slots path n1 n2 o1 o2 one t → ReadyAt n2 one.ready
one_ready h ht = (ht.shape h.owner h.tail h.env h.width h.setting h.typed).ready
