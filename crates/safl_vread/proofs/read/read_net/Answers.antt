use Rattle.safl_vread.proofs.Common.{GoodNames, Netlist, VErr, err_from_is_err_and, length-map}
use Rattle.std.proofs.Common.{◌≡◌, ℕ, List, Result, Err, length, sym, ap, subst, ◌∙◌, arith}
use Rattle.safl_verilog.specs.Files.{Declaration, File}
use Rattle.safl_vparse.specs.declared.file.Declaration.{Declaration as Parsed}
use Rattle.safl_vparse.specs.Shown.{shown_declaration, shown_declarations, shown_file}
use Rattle.safl_vread.proofs.FaultsOfFile.{refuses_text}
use Rattle.safl_vread.proofs.DeclaredNames.{declared_few}
use Rattle.safl_vread.proofs.GoodNames.{good_names}
use Rattle.safl_vread.proofs.Whole.{text_fits, text_suits, text_some, text_whole}
use Rattle.safl_vread.proofs.read.read_net.Goals as goal

pub returns-in_err-found-clause-refused : goal.returns-in_err-found-clause-refused
returns-in_err-found-clause-refused c =
    let p = err_from_is_err_and c.from_residual-in_err-found.result c.from_residual-in_err-found.ensures.1 in
    let r : Result Netlist VErr = Err c.in_err-found.field-0.0 in
    rw (p.1, p.2) (refuses_text c.args.text.now (shown_file c.args.text.now c.in_ok-file.file) r c.in_ok-file.ensures.parsed c.in_err-found.ensures.faults)

-- what was found is the file's
declared : (text t : List ℕ) (xs ds : List Parsed) → t ≡ text → xs ≡ ds → shown_declarations text ds ≡ shown_declarations t xs
declared text t xs ds e f = ap (shown_declarations text) (sym f) ∙ ap (λ (k : List ℕ). shown_declarations k xs) (sym e)

pub net_of-requires-clause-fit : goal.net_of-requires-clause-fit
net_of-requires-clause-fit c =
    let f : File = shown_file c.args.text.now c.in_ok-file.file in
    let e = declared c.args.text.now c.in_ok-found.found.scope.text.now c.in_ok-found.found.scope.declarations.now
    c.in_ok-file.file.declarations.items c.in_ok-found.ensures.text c.in_ok-found.ensures.declarations in
    text_fits f (shown_declarations c.in_ok-found.found.scope.text.now c.in_ok-found.found.scope.declarations.now) c.in_ok-found.found.drivers.items
    c.deref.result.now e c.deref.ensures.value c.in_ok-found.ensures.faults c.in_ok-found.ensures.drivers

pub net_of-requires-clause-suit : goal.net_of-requires-clause-suit
net_of-requires-clause-suit c =
    let f : File = shown_file c.args.text.now c.in_ok-file.file in
    let e = declared c.args.text.now c.in_ok-found.found.scope.text.now c.in_ok-found.found.scope.declarations.now
    c.in_ok-file.file.declarations.items c.in_ok-found.ensures.text c.in_ok-found.ensures.declarations in
    text_suits f (shown_declarations c.in_ok-found.found.scope.text.now c.in_ok-found.found.scope.declarations.now) c.in_ok-found.found.drivers.items
    c.deref.result.now e c.deref.ensures.value c.in_ok-found.ensures.drivers

pub net_of-requires-clause-names : goal.net_of-requires-clause-names
net_of-requires-clause-names c =
    let f : File = shown_file c.args.text.now c.in_ok-file.file in
    let e = declared c.args.text.now c.in_ok-found.found.scope.text.now c.in_ok-found.found.scope.declarations.now
    c.in_ok-file.file.declarations.items c.in_ok-found.ensures.text c.in_ok-found.ensures.declarations in
    subst (λ (ds : List Declaration). GoodNames ds) e (good_names c.args.text.now f c.in_ok-file.ensures.parsed c.in_ok-found.ensures.faults)

pub net_of-requires-clause-few : goal.net_of-requires-clause-few
net_of-requires-clause-few c =
    omega (
      arith,
      declared_few c.args.text.now (shown_file c.args.text.now c.in_ok-file.file) c.in_ok-file.ensures.parsed,
      length-map
          c.in_ok-file.file.declarations.items (shown_declaration c.args.text.now),
      ap length c.in_ok-found.ensures.declarations,
      c.requires,
    )

pub net_of-requires-clause-some : goal.net_of-requires-clause-some
net_of-requires-clause-some c =
    let f : File = shown_file c.args.text.now c.in_ok-file.file in
    let e = declared c.args.text.now c.in_ok-found.found.scope.text.now c.in_ok-found.found.scope.declarations.now
    c.in_ok-file.file.declarations.items c.in_ok-found.ensures.text c.in_ok-found.ensures.declarations in
    text_some c.args.text.now f (shown_declarations c.in_ok-found.found.scope.text.now c.in_ok-found.found.scope.declarations.now) e c.in_ok-file.ensures.parsed c.in_ok-found.ensures.faults

pub returns-clause-whole : goal.returns-clause-whole
returns-clause-whole c =
    let f : File = shown_file c.args.text.now c.in_ok-file.file in
    let e = declared c.args.text.now c.in_ok-found.found.scope.text.now c.in_ok-found.found.scope.declarations.now
    c.in_ok-file.file.declarations.items c.in_ok-found.ensures.text c.in_ok-found.ensures.declarations in
    text_whole c.args.text.now f (shown_declarations c.in_ok-found.found.scope.text.now c.in_ok-found.found.scope.declarations.now)
    c.in_ok-found.found.drivers.items c.deref.result.now c.in_ok-net_of.field-0 e c.deref.ensures.value c.in_ok-file.ensures.parsed
    c.in_ok-found.ensures.faults c.in_ok-found.ensures.drivers c.in_ok-net_of.ensures
