-- The text that is written of a netlist is cut into tokens, and they are a file of the grammar.
use Rattle.safl_verilog.proofs.Common.{Each, Input, IsFile, IsNumeral, Kind, Netlist, Reg, Signal, Sort, Wire, each_by_index, each_join}
use Rattle.safl_verilog.proofs.Common.{each_stands, get_some, slice_get_within, unwrap_or-slice_get}
use Rattle.std.proofs.Common.{◌≡◌, ℕ, ◌-◌, ◌<◌, ◌≤◌, ◌^◌, List, [], ◌∷◌, length, map, Bool, true, Some, None, refl, sym, ap, subst, ◌∙◌, arith, lit≤, lit<, get_or}
use Rattle.std.specs.Prelude.{codes, All, slice_get, unwrap_or}
use Rattle.safl_net.specs.Netlist
use Rattle.safl_net.specs.Rules.{IsNetlist, SignalFits, KindFits}
use Rattle.safl_net.specs.Names.{is_good}
use Rattle.safl_net.specs.Making
use Rattle.safl_net.specs.Making.{name_at as name_of}
use Rattle.safl_net.specs.Written.{written}
use Rattle.safl_verilog.specs.declared.token.Sort.TheVariants as sorts
use Rattle.safl_verilog.specs.Tokens.{IsIdentifier, text_of_all, StandAll, tokens_from}
use Rattle.safl_verilog.specs.Files.{Spot, Declaration, Statement, File}
use Rattle.safl_verilog.proofs.Found.{no_keyword}
use Rattle.safl_verilog.proofs.Grammar.{spelled as file_spelled}
use Rattle.safl_verilog.proofs.Cells.{spelled, cell_sound}
use Rattle.safl_verilog.proofs.Decimals.{decimal_numeral}
use Rattle.safl_verilog.proofs.Distinct.{Name, each_mapped, each_where}
use Rattle.safl_verilog.proofs.Printed.{IsName, FineExpression, FineDeclaration, FineStatement, file_pieces}
use Rattle.safl_verilog.proofs.PrintedStands.{file_stands}
use Rattle.safl_verilog.proofs.PrintedReads.{reads_back}
use Rattle.safl_verilog.proofs.FileOf.{declare, declare_signal, declare_output, signal_spot, output_spot, clock, reset, ports, driver, assign_signal}
use Rattle.safl_verilog.proofs.FileOf.{assign_output, updated_by, update_signal, declarations_of, statements_of, input_kind, register_kind, wire_kind}
use Rattle.safl_verilog.proofs.FileOf.{updated_kind, assigned_kind, of_kind, written_ports, written_declarations, written_statements, file_text}
use Rattle.safl_verilog.proofs.WrittenNames.{good_identifier}

clock_name : IsName clock
clock_name = record { like = refl; short = lit≤ tt; free = no_keyword (codes "clk") refl }

reset_name : IsName reset
reset_name = record { like = refl; short = lit≤ tt; free = no_keyword (codes "rst") refl }

zero_numeral : IsNumeral 10 (48 ∷ [])
zero_numeral = record { some = lit≤ tt; digits = refl }

fine_declaration : (s : Sort) (w : ℕ) (name : Name) → w ≤ 128 → IsIdentifier name → FineDeclaration (declare s w name)
fine_declaration s w name b h =
    let big : 128 < 2 ^ 128 = lit< tt in
    record { range = (decimal_numeral (w - 1) (omega arith), zero_numeral); name = h }

-- the pieces of the text of a netlist, of its inputs, registers, wires, updated registers and driven wires
pub record LaidOut (n : Netlist) (is rs ws us ds : List Signal) : Type 0 where
  pub text : text_of_all (file_pieces clock (reset ∷ ports n is) (declarations_of n is rs ws) (statements_of n us ds)) ≡ written n
  pub stand : StandAll (file_pieces clock (reset ∷ ports n is) (declarations_of n is rs ws) (statements_of n us ds)) []
  pub statements : Each FineStatement (statements_of n us ds)

module _ (n : Netlist) (net : IsNetlist n) where
  -- a signal of the net, by its number
  record Named (s : ℕ) : Type 0 where
    name : IsIdentifier (name_of n s)
    narrow : Netlist.width_of n s ≤ 128

  named : (s : ℕ) → s < length n.signals → Named s
  named s h =
      let g = get_some n.signals s h in
      let f = net.signals s g.0 g.1 in
      let name : name_of n s ≡ g.0.name = ap Making.name_in g.1 in
      let width : Netlist.width_of n s ≡ g.0.width = ap Netlist.width_in g.1 in
      record {
        name = subst (λ (v : Name). IsIdentifier v) (sym name) (good_identifier g.0.name f.good);
        narrow = subst (λ (w : ℕ). w ≤ 128) (sym width) f.most;
      }

  abbrev Fits : Signal → Type 0
  Fits g = SignalFits n g

  abbrev Chosen : (Kind → Bool) → Signal → Type 0
  Chosen p g = Fits g × (p g.kind ≡ true)

  chosen : (p : Kind → Bool) → Each (Chosen p) (of_kind p n)
  chosen p = each_where Fits (λ (g : Signal). p g.kind) n.signals (each_by_index Fits n.signals net.signals)

  abbrev Shown : List ℕ × ℕ → Type 0
  Shown o = (is_good o.0 ≡ true) × (o.1 < length n.signals)

  shown : Each Shown n.outputs
  shown = each_by_index Shown n.outputs net.outputs

  -- ---- ports and declarations

  fine_ports : Each IsName (written_ports n)
  fine_ports =
      each_join IsName (map signal_spot (of_kind input_kind n)) (map output_spot n.outputs)
      (each_mapped IsName signal_spot (of_kind input_kind n) (each_stands (Chosen input_kind) (λ g. IsName (signal_spot g))
      (λ g c. good_identifier g.name c.0.good) (of_kind input_kind n) (chosen input_kind)))
      (each_mapped IsName output_spot n.outputs (each_stands Shown (λ o. IsName (output_spot o)) (λ o h. good_identifier o.0 h.0) n.outputs shown))

  fine_signals : (s : Sort) (p : Kind → Bool) → Each FineDeclaration (map (declare_signal s) (of_kind p n))
  fine_signals s p =
      each_mapped FineDeclaration (declare_signal s) (of_kind p n)
      (each_stands (Chosen p) (λ g. FineDeclaration (declare_signal s g)) (λ g c. fine_declaration s g.width g.name c.0.most (good_identifier g.name c.0.good)) (of_kind p n) (chosen p))

  fine_outputs : Each FineDeclaration (map (declare_output n) n.outputs)
  fine_outputs =
      each_mapped FineDeclaration (declare_output n) n.outputs
      (each_stands Shown (λ o. FineDeclaration (declare_output n o))
      (λ o h. fine_declaration sorts.Output (Netlist.width_of n o.1) o.0 (named o.1 h.1).narrow (good_identifier o.0 h.0)) n.outputs shown)

  fine_declarations : Each FineDeclaration (written_declarations n)
  fine_declarations = (
    record { range = tt; name = clock_name },
    (
      record { range = tt; name = reset_name },
      each_join FineDeclaration (map (declare_signal sorts.Input) (of_kind input_kind n)) _ (fine_signals sorts.Input input_kind)
          (each_join FineDeclaration (map (declare_output n) n.outputs) _ fine_outputs
          (each_join FineDeclaration (map (declare_signal sorts.Reg) (of_kind register_kind n)) _ (fine_signals sorts.Reg register_kind) (fine_signals sorts.Wire wire_kind))),
    ),
  )

  -- ---- statements

  at_all : (xs : List ℕ) (i s : ℕ) → All (λ s. s < length n.signals) xs → slice_get xs i ≡ Some s → s < length n.signals
  at_all xs i s h e =
      let here : get_or xs i s ≡ s = sym (unwrap_or-slice_get xs i s) ∙ ap (λ o. unwrap_or o s) e in
      subst (λ k. k < length n.signals) here (h i s (slice_get_within xs i s e))

  all_named : (xs : List ℕ) → All (λ s. s < length n.signals) xs → Each Named xs
  all_named xs h = each_by_index Named xs (λ i s e. named s (at_all xs i s h e))

  fine_driver : (width : ℕ) (k : Kind) → KindFits n width k → assigned_kind k ≡ true → FineExpression (driver n k)
  fine_driver width Input fits e = absurd cc
  fine_driver width (Reg init next) fits e = absurd cc
  fine_driver width (Wire None) fits e = absurd cc
  fine_driver width (Wire (Some c)) fits e =
      let u = all_named c.operands fits.known in
      let names = each_stands Named (λ s. IsIdentifier (name_of n s)) (λ s k. k.name) c.operands u in
      let narrow : (a : ℕ) → c.operands ≡ a ∷ [] → Netlist.width_of n a ≤ 128 = λ a e. (let k : Each Named (a ∷ []) = subst (λ (l : List ℕ). Each Named l) e u in k.0.narrow) in
      (cell_sound n c.op c.operands width narrow fits.gives fits.word names).fine

  fine_update : (g : Signal) (k : Kind) → Fits g → KindFits n g.width k → updated_kind k ≡ true → FineStatement (updated_by n g k)
  fine_update g Input f fits e = absurd cc
  fine_update g (Reg init None) f fits e = absurd cc
  fine_update g (Reg init (Some m)) f fits e =
      let name = good_identifier g.name f.good in
      record { clock = clock_name; reset = reset_name; target = name; initial = (spelled g.width init f.some f.most fits.0).written; second = name; source = (named m fits.1).name }
  fine_update g (Wire cell) f fits e = absurd cc

  fine_statements : Each FineStatement (written_statements n)
  fine_statements =
      each_join FineStatement (map (assign_signal n) (of_kind assigned_kind n)) _
      (each_mapped FineStatement (assign_signal n) (of_kind assigned_kind n)
      (each_stands (Chosen assigned_kind) (λ g. FineStatement (assign_signal n g))
      (λ g c. (good_identifier g.name c.0.good, fine_driver g.width g.kind c.0.kind c.1)) (of_kind assigned_kind n) (chosen assigned_kind)))
      (each_join FineStatement (map (assign_output n) n.outputs) _
      (each_mapped FineStatement (assign_output n) n.outputs (each_stands Shown (λ o. FineStatement (assign_output n o)) (λ o h. (good_identifier o.0 h.0, (named o.1 h.1).name)) n.outputs shown))
      (each_mapped FineStatement (update_signal n) (of_kind updated_kind n)
      (each_stands (Chosen updated_kind) (λ g. FineStatement (update_signal n g)) (λ g c. fine_update g g.kind c.0 c.0.kind c.1)
      (of_kind updated_kind n) (chosen updated_kind))))

  pub laid_out : LaidOut n (of_kind input_kind n) (of_kind register_kind n) (of_kind wire_kind n) (of_kind updated_kind n) (of_kind assigned_kind n)
  laid_out = record {
    text = file_text n;
    stand = file_stands clock (reset ∷ written_ports n) (written_declarations n) (written_statements n) clock_name (reset_name, fine_ports) fine_declarations fine_statements;
    statements = fine_statements;
  }

-- the pieces of a netlist's text, whose tokens are a file
pub record Laid (n : Netlist) : Type 0 where
  pub port : Spot
  pub ports : List Spot
  pub declarations : List Declaration
  pub statements : List Statement
  pub text : text_of_all (file_pieces port ports declarations statements) ≡ written n
  pub stand : StandAll (file_pieces port ports declarations statements) []
  pub file : File
  pub derived : IsFile (tokens_from 0 (file_pieces port ports declarations statements)) file

pub written_laid : (n : Netlist) → IsNetlist n → Laid n
written_laid n net =
    let l = laid_out n net in
    let x = written_ports n in
    let ds = written_declarations n in
    let ss = written_statements n in
    let back = reads_back clock (reset ∷ x) ds ss l.statements in
    record {
      port = clock;
      ports = reset ∷ x;
      declarations = ds;
      statements = ss;
      text = l.text;
      stand = l.stand;
      file = back.file;
      derived = file_spelled (tokens_from 0 (file_pieces clock (reset ∷ x) ds ss)) back.file [] back.read;
    }
