-- The signals of a netlist that is read stand in order.
use Rattle.safl_verilog.proofs.Common.{Cell, Declaration, File, Input, Reg, Signal, Sort, Spot, Wire, filter, map-append}
use Rattle.std.proofs.Common.{◌≡◌, ℕ, List, [], ◌∷◌, ◌++◌, map, cond, Bool, true, false, not, ◌&&◌, Option, Some, None, refl, ap, subst, ◌∙◌, append_assoc}
use Rattle.safl_net.specs.Arranged.{IsInput, IsRegister, IsWire, Each, IsInOrder}
use Rattle.safl_verilog.specs.declared.token.Sort.TheVariants as sorts
use Rattle.safl_verilog.specs.Faults.{is_clock, is_reset, is_data, is_input, is_reg, is_wire, literal_value, assigned, updated}
use Rattle.safl_verilog.specs.Netlists.{signal_number, driven, register_of, signal_kind, signal_of, netlist}
use Rattle.safl_verilog.specs.Laws.{ReadsInOrder}

each_kept : (f : File) (Q : Signal → Type 0) (p : Declaration → Bool) → ((d : Declaration) → p d ≡ true → Q (signal_of f d)) → (ds : List Declaration) → Each Q (map (signal_of f) (filter p ds))
each_kept f Q p h [] = tt
each_kept f Q p h (d ∷ ds) = by (p d) refl (each_kept f Q p h ds)
  where
    by : (b : Bool) → p d ≡ b → Each Q (map (signal_of f) (filter p ds)) → Each Q (map (signal_of f) (cond b (d ∷ filter p ds) (filter p ds)))
    by true e k = (h d e, k)
    by false e k = k

input_kept : (f : File) (s : Sort) (name : List ℕ) (a b : Bool) → (is_input s && a && b) ≡ true → signal_kind f s name ≡ Input
input_kept f sorts.Input name a b h = refl
input_kept f sorts.Output name a b h = absurd cc
input_kept f sorts.Reg name a b h = absurd cc
input_kept f sorts.Wire name a b h = absurd cc

register_made : (ds : List Declaration) (u : Option (Spot × Spot)) → (init : ℕ) × (next : Option ℕ) × (register_of ds u ≡ Reg init next)
register_made ds None = (0, None, refl)
register_made ds (Some u) = (literal_value u.0.bytes, Some (signal_number ds u.1.bytes), refl)

register_kept : (f : File) (s : Sort) (name : List ℕ) → is_reg s ≡ true → (init : ℕ) × (next : Option ℕ) × (signal_kind f s name ≡ Reg init next)
register_kept f sorts.Input name h = absurd cc
register_kept f sorts.Output name h = absurd cc
register_kept f sorts.Reg name h = register_made f.declarations (updated f.statements name)
register_kept f sorts.Wire name h = absurd cc

wire_kept : (f : File) (s : Sort) (name : List ℕ) → is_wire s ≡ true → (cell : Option Cell) × (signal_kind f s name ≡ Wire cell)
wire_kept f sorts.Input name h = absurd cc
wire_kept f sorts.Output name h = absurd cc
wire_kept f sorts.Reg name h = absurd cc
wire_kept f sorts.Wire name h = (driven f.declarations (assigned f.statements name), refl)

ordered : (f : File) → IsInOrder (netlist f)
unfolding netlist
ordered f =
    let ds : List Declaration = f.declarations in
    let made : Declaration → Signal = signal_of f in
    let register : Declaration → Bool = λ (d : Declaration). is_reg d.sort in
    let wire : Declaration → Bool = λ (d : Declaration). is_wire d.sort in
    record {
      inputs = map made (filter is_data ds);
      registers = map made (filter register ds);
      wires = map made (filter wire ds);
      joined = map-append made (filter is_data ds ++ filter register ds) (filter wire ds)
          ∙ ap (λ (gs : List Signal). gs ++ map made (filter wire ds)) (map-append made (filter is_data ds) (filter register ds))
          ∙ append_assoc (map made (filter is_data ds)) (map made (filter register ds)) (map made (filter wire ds));
      are_inputs = each_kept f IsInput is_data (λ d h. input_kept f d.sort d.name.bytes (not (is_clock d.name.bytes)) (not (is_reset d.name.bytes)) h) ds;
      are_registers = each_kept f IsRegister register (λ d h. register_kept f d.sort d.name.bytes h) ds;
      are_wires = each_kept f IsWire wire (λ d h. wire_kept f d.sort d.name.bytes h) ds;
    }

pub reads_in_order : ReadsInOrder
reads_in_order text n h = subst IsInOrder h.means (ordered h.file)
