-- Schemes and plans carry over.
use Rattle.safl_circuit.proofs.Common.{Choice, Names, Program, bytes_eq-Decides, codes, is_temp}
use Rattle.std.proofs.Common.{◌≡◌, ℕ, suc, ◌+◌, List, [], ◌∷◌, ◌++◌, map, length, Option, Some, None, Bool, true, false, cond, bytes_eq, slice_get, refl, sym, ap, subst, ◌∙◌, arith, append_assoc}
use Rattle.std.proofs.lemmas.List.{append-nil}
use Rattle.safl_net.specs.declared.cell.Op.{Op}
use Rattle.safl_net.specs.declared.cell.Op.TheVariants.{Copy}
use Rattle.safl_net.specs.Netlist.{Netlist, Signal, Kind, Input, Reg, Wire, Cell, place}
use Rattle.safl_net.specs.Making.{kind_in, name_in, name_at}
use Rattle.safl_net.specs.Valuations.{Valuation, Fits, reset_number, reset_state, kind_reset}
use Rattle.safl_net.proofs.Reading.{place_of}
use Rattle.safl_circuit.specs.Equations.{next}
use Rattle.safl_circuit.specs.Names.{of_function, of_site, registers_now, registers_next, input_now}
use Rattle.safl_circuit.specs.Layout.{Line, layout_wires, register_kind, wire_kind, each_line, temporaries, IsCopy, HasPlan}
use Rattle.safl_circuit.specs.Scheme.{Agree, Wires, Scheme}
use Rattle.safl_net.specs.Mirrors.{ShowsCycle}
use Rattle.safl_net.proofs.Twins.{twin, own}
use Rattle.safl_circuit.specs.Mirrored.{AreMirrors, MirrorsKeepSchemes, MirrorsKeepPlans}
use Rattle.safl_circuit.proofs.MirrorLines.{wires_of, input_lines, register_lines, lasting_lines, lasting_more, wires_last, layout_last, temporaries_go, wires_then, temporaries_are}
use Rattle.safl_circuit.proofs.MirrorNumbers.{now_same, next_same, input_same}

-- ---- the layout

registers_same : (n m : Netlist) → AreMirrors n m → each_line register_kind m.signals ≡ each_line register_kind n.signals
registers_same n m a = register_lines m.signals ∙ ap (map (λ (x : Line × ℕ). x.0)) a.alike.registers ∙ sym (register_lines n.signals)

-- the wires of m are the named ones of n, and then its temporaries
wires_are : (C : Program) (D : Names) (P : Choice) (n m : Netlist) (a : AreMirrors n m) (others : List Line) → each_line wire_kind n.signals ≡ layout_wires C D P ++ others
    → each_line wire_kind m.signals ≡ layout_wires C D P ++ (lasting_lines others ++ each_line wire_kind a.laid_out.temporary)
wires_are C D P n m a others e =
    wires_then m a.laid_out
    ∙ ap (λ l. l ++ each_line wire_kind a.laid_out.temporary)
    (a.alike.wires ∙ wires_last n.signals ∙ ap lasting_lines e ∙ lasting_more (layout_wires C D P) others ∙ ap (λ l. l ++ lasting_lines others) (layout_last C D P))
    ∙ append_assoc (layout_wires C D P) (lasting_lines others) (each_line wire_kind a.laid_out.temporary)

-- registers reset to 0
resets : (n m : Netlist) → AreMirrors n m → ((s : ℕ) → reset_state n s ≡ 0) → (s : ℕ) → reset_state m s ≡ 0
resets n m a zeros s = by (slice_get m.signals s) refl
  where
    of_kind : (g : Signal) (k : Kind) → slice_get m.signals s ≡ Some g → g.kind ≡ k → kind_reset k ≡ 0
    of_kind g Input e is = refl
    of_kind g (Reg init next) e is =
        let t = twin m n (sym a.alike.registers) s init next g e is in
        sym (ap kind_reset t.kind) ∙ sym (ap reset_number t.there) ∙ zeros t.number
    of_kind g (Wire cell) e is = refl

    by : (o : Option Signal) → slice_get m.signals s ≡ o → reset_number o ≡ 0
    by None e = refl
    by (Some g) e = of_kind g g.kind e refl

-- ---- cycles

wires_shown : (C : Program) (D : Names) (P : Choice) (n m : Netlist) (v w : Valuation) → ShowsCycle n m v w
    → Wires C D P n v (registers_now C D n v) (input_now C n v) → Wires C D P m w (registers_now C D n v) (input_now C n v)
wires_shown C D P n m v w s h = record {
  ends = λ f lt. s.now (of_function D (codes "end$") f) refl ∙ h.ends f lt;
  loops = λ f lt. s.now (of_function D (codes "loop$") f) refl ∙ h.loops f lt;
  wants = λ k pos le. s.now (of_site (codes "want$") k) refl ∙ h.wants k pos le;
  rets = λ k pos le. s.now (of_site (codes "ret$") k) refl ∙ h.rets k pos le;
  arbs = λ k pos le is. s.now (of_site (codes "arb$") k) refl ∙ h.arbs k pos le is;
  goes = λ k pos le. s.now (of_site (codes "go$") k) refl ∙ h.goes k pos le;
  goes_main = s.now (codes "go$main") refl ∙ h.goes_main;
  done = s.outputs (codes "done") ∙ h.done;
  result = s.outputs (codes "result") ∙ h.result;
}

module _ (C : Program) (D : Names) (P : Choice) (n m : Netlist) (a : AreMirrors n m) (scheme : Scheme C D P n) where
  wires : (w : Valuation) (state : ℕ → ℕ) → Fits m state w → Wires C D P m w (registers_now C D m w) (input_now C m w)
  wires w state f =
      let c = a.mirrors w (own m state w f) in
      let h = wires_shown C D P n m c.0 w c.2 (scheme.wires c.0 _ c.1) in
      subst (λ i. Wires C D P m w (registers_now C D m w) i) (sym (input_same C n m a _ state c.0 w c.1 f c.2))
      (subst (λ r. Wires C D P m w r (input_now C n c.0)) (sym (now_same C D n m c.0 w c.2)) h)

  edge : (w : Valuation) (state : ℕ → ℕ) → Fits m state w → Agree C P (registers_next C D m w) (next C P (input_now C m w) (registers_now C D m w))
  edge w state f =
      let c = a.mirrors w (own m state w f) in
      let h = scheme.edge c.0 _ c.1 in
      subst (λ r. Agree C P r (next C P (input_now C m w) (registers_now C D m w))) (sym (next_same C D n m c.0 w c.2))
      (subst (λ i. Agree C P (registers_next C D n c.0) (next C P i (registers_now C D m w))) (sym (input_same C n m a _ state c.0 w c.1 f c.2))
      (subst (λ r. Agree C P (registers_next C D n c.0) (next C P (input_now C n c.0) r)) (sym (now_same C D n m c.0 w c.2)) h))

  scheme_kept : Scheme C D P m
  scheme_kept = record {
    whole = a.whole;
    acyclic = a.acyclic;
    params = scheme.params;
    distinct = a.new.apart;
    outputs = a.alike.outputs ∙ scheme.outputs;
    inputs = input_lines m.signals ∙ a.alike.inputs ∙ sym (input_lines n.signals) ∙ scheme.inputs;
    registers = registers_same n m a ∙ scheme.registers;
    others = lasting_lines scheme.others ++ each_line wire_kind a.laid_out.temporary;
    named = wires_are C D P n m a scheme.others scheme.named;
    resets = resets n m a scheme.resets;
    wires = wires;
    edge = edge;
  }

pub keeps_scheme : MirrorsKeepSchemes
keeps_scheme = scheme_kept

-- ---- copies

-- the signal of a place has the name that was looked up
record Placed (gs : List Signal) (name : List ℕ) (i k : ℕ) : Type 0 where
  pub number : ℕ
  pub is : k ≡ i + number
  pub signal : Signal
  pub there : slice_get gs number ≡ Some signal
  pub named : signal.name ≡ name

placed : (gs : List Signal) (name : List ℕ) (i k : ℕ) → place gs name i ≡ Some k → Placed gs name i k
unfolding place
placed [] name i k e = absurd (cc)
placed (g ∷ gs) name i k e = by (bytes_eq g.name name) refl e (λ h. placed gs name (suc i) k h)
  where
    by : (b : Bool) → bytes_eq g.name name ≡ b → cond b (Some i) (place gs name (suc i)) ≡ Some k → (place gs name (suc i) ≡ Some k → Placed gs name (suc i) k) → Placed (g ∷ gs) name i k
    by true q h f = let p : i ≡ k = cc in record { number = 0; is = omega (arith, p); signal = g; there = refl; named = (bytes_eq-Decides g.name name).0 q }
    by false q h f = let r = f h in let p = r.is in record { number = suc r.number; is = omega (arith, p); signal = r.signal; there = r.there; named = r.named }

placed_name : (n : Netlist) (name : List ℕ) (k : ℕ) → place n.signals name 0 ≡ Some k → name_at n k ≡ name
placed_name n name k e =
    let r = placed n.signals name 0 k e in
    let p : k ≡ r.number = let q = r.is in omega (arith, q) in
    ap (name_at n) p ∙ ap name_in r.there ∙ r.named

-- a place of a name, where the name is no empty one
some_at : (n : Netlist) (k b : ℕ) (name bs : List ℕ) → name_at n k ≡ name → name ≡ b ∷ bs → (g : Signal) × (slice_get n.signals k ≡ Some g) × (g.name ≡ name)
some_at n k b name bs e f = by (slice_get n.signals k) refl e
  where
    by : (o : Option Signal) → slice_get n.signals k ≡ o → name_in o ≡ name → (g : Signal) × (slice_get n.signals k ≡ Some g) × (g.name ≡ name)
    by None q h = absurd (let z = h ∙ f in cc)
    by (Some g) q h = (g, q, h)

only : (xs : List ℕ) → length xs ≡ 1 → (x : ℕ) × (xs ≡ x ∷ [])
only [] e = absurd (omega (arith, e))
only (x ∷ []) e = (x, refl)
only (x ∷ (y ∷ xs)) e = absurd (omega (arith, e))

cell_is : (c : Cell) (x : ℕ) → c.op ≡ Copy → c.operands ≡ x ∷ [] → c ≡ (let d : Cell = record { op = Copy; operands = x ∷ [] } in d)
cell_is c x e f = ap (λ (o : Op). (let d : Cell = record { op = o; operands = c.operands } in d)) e ∙ ap (λ (l : List ℕ). (let d : Cell = record { op = Copy; operands = l } in d)) f

copies : (n m : Netlist) → AreMirrors n m → (a b : ℕ) (name from ns bs : List ℕ) → name ≡ a ∷ ns → from ≡ b ∷ bs → is_temp name ≡ false → is_temp from ≡ false → IsCopy n name from → IsCopy m name from
copies n m x a b name from ns bs na nb la lb c =
    let called : name_at n c.number ≡ name = placed_name n name c.number c.named in
    let k = x.alike.cells c.number (record { op = Copy; operands = c.source ∷ [] }) (ap kind_in c.there ∙ c.copied) (ap is_temp called ∙ la) in
    let s = only k.cell.operands k.keeps.count in
    let source : name_at m s.0 ≡ from = k.keeps.operands 0 c.source s.0 refl (ap (λ l. slice_get l 0) s.1)
    (ap is_temp (placed_name n from c.source c.source_named) ∙ lb) ∙ placed_name n from c.source c.source_named in
    let g = some_at m k.number a name ns (k.named ∙ called) na in
    let h = some_at m s.0 b from bs source nb in
    record {
      number = k.number;
      signal = g.0;
      source = s.0;
      named = ap (λ l. place m.signals l 0) (sym g.2) ∙ place_of m k.number g.0 x.new g.1;
      there = g.1;
      source_named = ap (λ l. place m.signals l 0) (sym h.2) ∙ place_of m s.0 h.0 x.new h.1;
      copied = sym (ap kind_in g.1) ∙ k.wire ∙ ap (λ (d : Cell). Wire (Some d)) (cell_is k.cell s.0 k.keeps.op s.1);
    }

module _ (C : Program) (D : Names) (P : Choice) (n m : Netlist) (a : AreMirrors n m) (plan : HasPlan C D P n) where
  wires_lead : wires_of m.signals ≡ layout_wires C D P
  wires_lead =
      a.alike.wires ∙ wires_last n.signals ∙ ap lasting_lines plan.wires ∙ lasting_more (layout_wires C D P) _
      ∙ ap (λ l. l ++ lasting_lines (temporaries (length (layout_wires C D P)) plan.widths)) (layout_last C D P)
      ∙ ap (λ l. layout_wires C D P ++ l) (temporaries_go (length (layout_wires C D P)) plan.widths) ∙ append-nil (layout_wires C D P)

  plan_kept : HasPlan C D P m
  plan_kept = record {
    registers = registers_same n m a ∙ plan.registers;
    widths = map (λ (g : Signal). g.width) a.laid_out.temporary;
    wires =
        wires_then m a.laid_out
        ∙ ap (λ l. l ++ each_line wire_kind a.laid_out.temporary) wires_lead
        ∙ ap (λ l. layout_wires C D P ++ l) (temporaries_are m a.laid_out a.new_tidy ∙ ap (λ (l : List Line). temporaries (length l) (map (λ (g : Signal). g.width) a.laid_out.temporary)) wires_lead);
    direct = λ k pos le is. copies n m a _ _ (of_site (codes "go$") k) (of_site (codes "want$") k) _ _ refl refl refl refl (plan.direct k pos le is);
  }

pub keeps_plan : MirrorsKeepPlans
keeps_plan = plan_kept
