-- What the loops read.
use Rattle.safl_vparse.proofs.Common.{Unexpected, shown_all}
use Rattle.std.proofs.Common.{◌≡◌, ℕ, ◌<◌, Bool, true, List, length, Option, Ok}
use Rattle.safl_grammar.specs.Reading.{Read, Reading, head_of, read_many}
use Rattle.safl_grammar.proofs.Many.{fails_here}
use Rattle.safl_grammar.proofs.Small.{eats_parses}
use Rattle.safl_verilog.specs.Tokens.{VerilogTerminal}
use Rattle.safl_verilog.specs.Files.{Spot, Declaration, Statement}
use Rattle.safl_verilog.specs.Reader.{read_another_id, read_another_decl, read_another_stmt}
use Rattle.safl_verilog.proofs.Grammar.{another_id_parses, another_decl_parses, another_stmt_parses}
use Rattle.safl_vparse.specs.declared.parser.ReadError.{ReadError}
use Rattle.safl_vparse.specs.declared.parser.ReadError.TheVariants as errors
use Rattle.safl_vparse.specs.Gives.{Fails}

-- each turn of a loop takes a token
pub another_id_eats : (xs : List Spot) (w r : List VerilogTerminal) (x : List Spot) → read_another_id xs w ≡ Ok (x, r) → length r < length w
another_id_eats xs = (eats_parses (another_id_parses xs)).left

pub another_decl_eats : (ds : List Declaration) (w r : List VerilogTerminal) (x : List Declaration) → read_another_decl ds w ≡ Ok (x, r) → length r < length w
another_decl_eats ds = (eats_parses (another_decl_parses ds)).left

pub another_stmt_eats : (ss : List Statement) (w r : List VerilogTerminal) (x : List Statement) → read_another_stmt ss w ≡ Ok (x, r) → length r < length w
another_stmt_eats ss = (eats_parses (another_stmt_parses ss)).left

-- a turn that fails
pub fails : {A : Type 0} (text : List ℕ) (e : ReadError) (test : Option VerilogTerminal → Bool) (go : A → Reading VerilogTerminal A)
    (eats : (a : A) (w r : List VerilogTerminal) (x : A) → go a w ≡ Ok (x, r) → length r < length w) (a : A) (w : List VerilogTerminal) (total : Read VerilogTerminal A) →
    read_many test go a w ≡ total → test (head_of w) ≡ true → Fails text e (go a w) → Fails text e total
fails text errors.NoMemory test go eats a w total so_far t h = tt
fails text (errors.Unexpected rest) test go eats a w total so_far t h = fails_here test go eats a w total so_far (Unexpected, shown_all text rest.now) t h
