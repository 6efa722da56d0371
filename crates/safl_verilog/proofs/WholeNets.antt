-- What is known of the signals and ports of a whole net.
use Rattle.safl_verilog.proofs.Common.{IsWhole, bytes_eq-Decides, each_by_index, same_Some}
use Rattle.std.proofs.Common.{◌≡◌, ℕ, suc, ◌+◌, List, [], ◌∷◌, ◌++◌, Some, None, Option, refl, sym, ap, subst, ◌∙◌, inl, inr, arith, bytes_eq}
use Rattle.std.specs.Prelude.{slice_get, codes, IsSome}
use Rattle.safl_net.specs.Netlist
use Rattle.safl_net.specs.Netlist.{Netlist, Signal, Input, Reg, Wire, Cell, IsSet, AllSet, width_of, place, output_place}
use Rattle.safl_net.specs.Making
use Rattle.safl_net.specs.Arranged.{IsRegister, IsWire, Each}
use Rattle.safl_verilog.proofs.Runs.{chosen}
use Rattle.safl_verilog.proofs.Distinct.{each_left, each_right, each_both}

-- a register with a next signal, and a wire with a cell
abbrev pub IsUpdated : Signal → Type 0
IsUpdated g = (init next : ℕ) × (g.kind ≡ Reg init (Some next))

abbrev pub IsAssigned : Signal → Type 0
IsAssigned g = (c : Cell) × (g.kind ≡ Wire (Some c))

abbrev IsSetSignal : Signal → Type 0
IsSetSignal g = IsSet g.kind

updated : (g : Signal) → IsRegister g → IsSetSignal g → IsUpdated g
updated g r h = go r.1 r.2 (subst IsSet r.2 h)
  where
    go : (o : Option ℕ) → g.kind ≡ Reg r.0 o → IsSet (Reg r.0 o) → IsUpdated g
    go None e k = absurd k
    go (Some m) e k = (r.0, m, e)

assigned : (g : Signal) → IsWire g → IsSetSignal g → IsAssigned g
assigned g w h = go w.0 w.1 (subst IsSet w.1 h)
  where
    go : (o : Option Cell) → g.kind ≡ Wire o → IsSet (Wire o) → IsAssigned g
    go None e k = absurd k
    go (Some c) e k = (c, e)

-- in a whole net each register is updated, and each wire assigned
pub all_set : (n : Netlist) (is rs ws : List Signal) → AllSet n → n.signals ≡ is ++ (rs ++ ws) → Each IsRegister rs → Each IsWire ws → Each IsUpdated rs × Each IsAssigned ws
all_set n is rs ws set whole registers wires =
    let all = subst (λ (l : List Signal). Each IsSetSignal l) whole (each_by_index IsSetSignal n.signals set) in
    let later = each_right IsSetSignal is (rs ++ ws) all in (
      each_both IsRegister IsSetSignal IsUpdated updated rs registers (each_left IsSetSignal rs ws later),
      each_both IsWire IsSetSignal IsAssigned
          assigned ws wires (each_right IsSetSignal rs ws later),
    )

-- the ports that each file has: an input `start` and an output `done` of width 1, and an output `result`
pub record HasPorts (n : Netlist) : Type 0 where
  pub start : ℕ
  pub is_start : slice_get n.signals start ≡ Some (record { name = codes "start"; width = 1; kind = Input })
  pub done : ℕ
  pub done_shows : ℕ
  pub is_done : slice_get n.outputs done ≡ Some (codes "done", done_shows)
  pub done_bit : width_of n done_shows ≡ 1
  pub result : ℕ
  pub result_shows : ℕ
  pub is_result : slice_get n.outputs result ≡ Some (codes "result", result_shows)

-- ---- from the names of a net

placed : (gs : List Signal) (name : List ℕ) (i k : ℕ) → place gs name i ≡ Some k → (j : ℕ) × (g : Signal) × (k ≡ i + j) × (slice_get gs j ≡ Some g) × (g.name ≡ name)
unfolding place
placed [] name i k e = absurd cc
placed (g ∷ gs) name i k e = elim (chosen (bytes_eq g.name name) (Some i) (place gs name (suc i)) (Some k) e) [
  | inl h ↦ (0, g, (let s : i ≡ k = same_Some _ _ h.1 in omega arith), refl, (bytes_eq-Decides g.name name).0 h.0)
  | inr h ↦ (let m = placed gs name (suc i) k h.1 in (suc m.0, m.1, (let s : k ≡ suc i + m.0 = m.2 in omega arith), m.3, m.4))
]

shown_at : (os : List (List ℕ × ℕ)) (name : List ℕ) (s : ℕ) → output_place os name ≡ Some s → (i : ℕ) × (slice_get os i ≡ Some (name, s))
shown_at [] name s e = absurd cc
shown_at (o ∷ os) name s e = elim (chosen (bytes_eq o.0 name) (Some o.1) (output_place os name) (Some s) e) [
  | inl h ↦ (0, ap (λ w. Some (w, o.1)) ((bytes_eq-Decides o.0 name).0 h.0) ∙ ap (λ k. Some (name, k)) (same_Some _ _ h.1))
  | inr h ↦ (let m = shown_at os name s h.1 in (suc m.0, m.1))
]

some_shown : (o : Option ℕ) → IsSome o → (s : ℕ) × (o ≡ Some s)
some_shown None h = absurd cc
some_shown (Some s) h = (s, refl)

-- a whole net has the ports of a file
pub whole_ports : (n : Netlist) → IsWhole n → HasPorts n
whole_ports n h =
    let p = placed n.signals (codes "start") 0 h.start.signal h.start.at in
    let g = p.1 in
    let at : slice_get n.signals h.start.signal ≡ Some g = ap (slice_get n.signals) (let e : h.start.signal ≡ 0 + p.0 = p.2 in let f : h.start.signal ≡ p.0 = omega arith in f) ∙ p.3 in
    let kind : g.kind ≡ Input = ap Making.kind_in (sym at) ∙ h.start.input in
    let width : g.width ≡ 1 = ap Netlist.width_in (sym at) ∙ h.start.bit in
    let is : g ≡ record { name = codes "start"; width = 1; kind = Input } =
    ap (λ w. record { name = w; width = g.width; kind = g.kind }) p.4 ∙ ap (λ k. record { name = codes "start"; width = k; kind = g.kind }) width ∙ ap
    (λ k. record { name = codes "start"; width = 1; kind = k }) kind in
    let d = shown_at n.outputs (codes "done") h.done.signal h.done.at in
    let r = some_shown (output_place n.outputs (codes "result")) h.result in
    let q = shown_at n.outputs (codes "result") r.0 r.1 in
    record {
      start = h.start.signal;
      is_start = at ∙ ap (λ g. Some g) is;
      done = d.0;
      done_shows = h.done.signal;
      is_done = d.1;
      done_bit = h.done.bit;
      result = q.0;
      result_shows = r.0;
      is_result = q.1;
    }
