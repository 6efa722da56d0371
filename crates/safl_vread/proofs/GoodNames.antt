-- The names of signals and outputs are good, so that none is refused.
use Rattle.safl_vread.proofs.Common.{GoodNames, IsFileText, Sort, and_parts, append_empty, declared_names, each_found, flat_map}
use Rattle.safl_vread.proofs.Common.{header_faults, later_faults, nat_tests, port_faults, slice_index}
use Rattle.std.proofs.Common.{◌≡◌, ◌≢◌, ℕ, zero, suc, ◌<◌, List, [], ◌∷◌, ◌++◌, length, Bool, true, false, not, ◌&&◌, ◌||◌, ◌==◌, nat_le, Option, Some, codes, refl, sym, ap, ◌∙◌, arith}
use Rattle.std.specs.Str.{IsUtf8, IsAscii}
use Rattle.std.proofs.lemmas.Str.{IsUtf8-from_ascii}
use Rattle.safl_net.specs.Names.{is_start, is_part, are_parts, is_identifier, is_reserved, is_good}
use Rattle.safl_verilog.specs.declared.token.Keyword.TheVariants as keywords
use Rattle.safl_verilog.specs.declared.token.Sort.TheVariants as sorts
use Rattle.safl_verilog.specs.declared.fault.VRule.TheVariants as rules
use Rattle.safl_verilog.specs.Tokens.{IsIdentifier}
use Rattle.safl_verilog.specs.Files.{Declaration, File}
use Rattle.safl_verilog.specs.Faults.{at, find, passes, where_not, is_clock, is_reset, is_input, is_output, is_reg, is_wire, has_bit, has_ports}
use Rattle.safl_verilog.specs.Faults.{range_width, faults, all_number_faults, repeat_faults}
use Rattle.safl_verilog.specs.Faults.{all_port_faults, all_statement_faults, missing_faults}
use Rattle.safl_word.proofs.Naturals.{short_enough}
use Rattle.safl_verilog.proofs.Distinct.{other_name, same_name, each_at}
use Rattle.safl_vread.proofs.FaultsOfFile.{parted}
use Rattle.safl_vread.proofs.Widths.{kept_true}
use Rattle.safl_vread.proofs.StatementsDrive.{distinct_names}
use Rattle.safl_vread.proofs.DeclaredNames.{declared_identifier}

-- ---- identifiers

part_ascii : (b : ℕ) → is_part b ≡ true → b < 128
part_ascii b h = grind (arith, nat_tests)

start_ascii : (b : ℕ) → is_start b ≡ true → b < 128
start_ascii b h = grind (arith, nat_tests)

parts_ascii : (w : List ℕ) → are_parts w ≡ true → IsAscii w
parts_ascii [] h = λ i. omega arith
parts_ascii (b ∷ w) h = let a = and_parts (is_part b) (are_parts w) h in λ i. by i a.0 (parts_ascii w a.1)
  where
    by : (i : ℕ) → is_part b ≡ true → IsAscii w → slice_index (b ∷ w) i < 128
    by zero k m = part_ascii b k
    by (suc i) k m = m i

identifier_ascii : (w : List ℕ) → is_identifier w ≡ true → IsAscii w
identifier_ascii [] h = absurd cc
identifier_ascii (b ∷ w) h = let a = and_parts (is_start b) (are_parts w) h in λ i. by i a.0 (parts_ascii w a.1)
  where
    by : (i : ℕ) → is_start b ≡ true → IsAscii w → slice_index (b ∷ w) i < 128
    by zero k m = start_ascii b k
    by (suc i) k m = m i

-- a good name is a text
pub good_text : (w : List ℕ) → is_good w ≡ true → IsUtf8 w
unfolding is_good
good_text w h = IsUtf8-from_ascii w (identifier_ascii w (and_parts (is_identifier w) (nat_le (length w) 200) (and_parts (is_identifier w && nat_le (length w) 200) (not (is_reserved w)) h).0).0)

not_reserved : (w : List ℕ) → IsIdentifier w → w ≢ codes "clk" → w ≢ codes "rst" → is_reserved w ≡ false
unfolding is_reserved
not_reserved w h a b =
    rw (
      other_name w (codes "clk") a,
      other_name w (codes "rst") b,
      other_name w (codes "module") (h.free keywords.Module),
      other_name w (codes "endmodule") (h.free keywords.Endmodule),
      other_name w (codes "input") (h.free keywords.Input),
      other_name w (codes "output") (h.free keywords.Output),
      other_name w (codes "reg") (h.free keywords.Reg),
      other_name w (codes "wire") (h.free keywords.Wire),
      other_name w (codes "assign") (h.free keywords.Assign),
      other_name w (codes "always") (h.free keywords.Always),
      other_name w (codes "posedge") (h.free keywords.Posedge),
      other_name w (codes "if") (h.free keywords.If),
      other_name w (codes "else") (h.free keywords.Else),
    ) refl

good_name : (w : List ℕ) → IsIdentifier w → w ≢ codes "clk" → w ≢ codes "rst" → is_good w ≡ true
unfolding is_good
good_name w h a b = rw (h.like, short_enough (length w) h.short, not_reserved w h a b) refl

-- ---- the clock and the reset

passed : (p : Declaration → Bool) (o : Option Declaration) (d : Declaration) → passes p o ≡ true → o ≡ Some d → p d ≡ true
passed p o d h e = ap (passes p) (sym e) ∙ h

no_clock : (s : Sort) (c r : Bool) → is_input s ≡ true → (c ≡ true) → ((((is_input s && not c) && not r) || is_reg s || is_wire s) || is_output s) ≡ true → ⊥
no_clock sorts.Input true r i c h = cc
no_clock sorts.Input false r i c h = cc
no_clock sorts.Output c r i k h = cc
no_clock sorts.Reg c r i k h = cc
no_clock sorts.Wire c r i k h = cc

no_reset : (s : Sort) (c r : Bool) → is_input s ≡ true → (r ≡ true) → ((((is_input s && not c) && not r) || is_reg s || is_wire s) || is_output s) ≡ true → ⊥
no_reset sorts.Input true true i k h = cc
no_reset sorts.Input false true i k h = cc
no_reset sorts.Input c false i k h = cc
no_reset sorts.Output c r i k h = cc
no_reset sorts.Reg c r i k h = cc
no_reset sorts.Wire c r i k h = cc

pub good_names : (text : List ℕ) (f : File) → IsFileText text f → faults f ≡ [] → GoodNames f.declarations
good_names text f t h = λ (i : ℕ) (d : Declaration) there fit.
    let ds : List Declaration = f.declarations in
    let a = append_empty (all_number_faults f) _ (sym (parted f) ∙ h) in
    let b = append_empty (repeat_faults [] f.header) _ a.1 in
    let c = append_empty (repeat_faults [] (declared_names ds)) (later_faults f) b.1 in
    let g = append_empty (all_port_faults f ++ all_statement_faults ds [] f.statements) (flat_map (missing_faults f.statements) ds) c.1 in
    let e = append_empty (all_port_faults f) (all_statement_faults ds [] f.statements) g.0 in
    let ports = kept_true (has_ports ds) (at rules.V10 0) (append_empty (flat_map (header_faults f) f.header ++ flat_map (port_faults f) ds) (where_not (has_ports ds) (at rules.V10 0)) e.0).1 in
    let p1 = and_parts _ (passes (λ d. is_output d.sort) (find ds (codes "result"))) ports in
    let p2 = and_parts _ (has_bit ds is_output (codes "done")) p1.0 in
    let p3 = and_parts _ (has_bit ds is_input (codes "start")) p2.0 in
    let p4 = and_parts (has_bit ds is_input (codes "clk")) (has_bit ds is_input (codes "rst")) p3.0 in
    let found : find ds d.name.bytes ≡ Some d = each_at (λ (d : Declaration). find ds d.name.bytes ≡ Some d) ds i d (each_found ds (distinct_names ds c.0)) there in
    let clock : d.name.bytes ≢ codes "clk" = λ (q : d.name.bytes ≡ codes "clk").
    let input = and_parts (is_input d.sort) (range_width d.range == 1) (passed (λ d. is_input d.sort && (range_width d.range == 1)) (find ds (codes "clk")) d p4.0 (ap (find ds) (sym q) ∙ found)) in
    no_clock d.sort (is_clock d.name.bytes) (is_reset d.name.bytes) input.0 (ap is_clock q ∙ same_name (codes "clk")) fit in
    let reset : d.name.bytes ≢ codes "rst" = λ (q : d.name.bytes ≡ codes "rst").
    let input = and_parts (is_input d.sort) (range_width d.range == 1) (passed (λ d. is_input d.sort && (range_width d.range == 1)) (find ds (codes "rst")) d p4.1 (ap (find ds) (sym q) ∙ found)) in
    no_reset d.sort (is_clock d.name.bytes) (is_reset d.name.bytes) input.0 (ap is_reset q ∙ same_name (codes "rst")) fit in
    good_name d.name.bytes (declared_identifier text f t i d there) clock reset
