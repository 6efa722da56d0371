use Rattle.std.proofs.Common.{List, get_or, None, ap, ◌∙◌, arith}
use Rattle.safl_verilog.specs.declared.token.Sort.TheVariants as sorts
use Rattle.safl_verilog.specs.Files.{Declaration}
use Rattle.safl_vparse.specs.declared.file.Declaration.{Declaration as Parsed}
use Rattle.safl_vparse.specs.Shown.{shown_declaration, shown_declarations}
use Rattle.safl_vread.specs.declared.driver.Driver.TheVariants as driver
use Rattle.safl_vread.proofs.StatementsDrive.{distinct_names}
use Rattle.safl_vread.specs.Nets.{output_with, with_outputs}
use Rattle.safl_vread.proofs.Stages.{declared_there, some_width}
use Rattle.safl_vread.proofs.NewNames.{good_output, output_free}
use Rattle.safl_vread.proofs.Outputs.{begins_outputs, goes_on_outputs, ends_outputs}
use Rattle.safl_vread.proofs.make.show.Goals as goal

-- what is read where nothing is
abbrev nowhere : Parsed
nowhere = record { sort = sorts.Input; range = None; name = record { start = 0; stop = 0 } }

pub show_one-requires-clause-fits : goal.show_one-requires-clause-fits
show_one-requires-clause-fits c =
    some_width (shown_declaration c.args.scope.now.text.now) c.args.scope.now.declarations.now c.args.drivers.now c.loop-i.i _
    c.index-drivers-i.result c.requires.full c.loop-i-test.true c.index-drivers-i.is c.args.numbers.now c.requires.numbers c.requires.fit

pub show_one-requires-clause-good : goal.show_one-requires-clause-good
show_one-requires-clause-good c = λ out.
    let ds : List Declaration = shown_declarations c.args.scope.now.text.now c.args.scope.now.declarations.now in
    let there = declared_there (shown_declaration c.args.scope.now.text.now) c.args.scope.now.declarations.now c.args.drivers.now c.loop-i.i nowhere
    c.index-drivers-i.result c.requires.full c.loop-i-test.true c.index-drivers-i.is in
    good_output ds (distinct_names ds c.args.scope.now.apart) c.requires.names c.loop-i.i _ there out

pub show_one-requires-clause-new : goal.show_one-requires-clause-new
show_one-requires-clause-new c = λ out.
    let d : Parsed = get_or c.args.scope.now.declarations.now c.loop-i.i nowhere in
    let there = declared_there (shown_declaration c.args.scope.now.text.now) c.args.scope.now.declarations.now c.args.drivers.now c.loop-i.i nowhere
    c.index-drivers-i.result c.requires.full c.loop-i-test.true c.index-drivers-i.is in
    output_free c.loop-i.net c.args.net.now (shown_declaration c.args.scope.now.text.now d).name.bytes c.loop-i.invariant.signals
    (c.requires.new c.loop-i.i (shown_declaration c.args.scope.now.text.now d) there out)
    (c.loop-i.invariant.new c.loop-i.i (shown_declaration c.args.scope.now.text.now d) (omega arith) there)

pub loop-i-init : goal.loop-i-init
loop-i-init c = begins_outputs c.args.numbers.now (shown_declaration c.args.scope.now.text.now) c.args.scope.now.declarations.now c.args.drivers.now c.args.net.now c.requires.empty

pub loop-i-preserved : goal.loop-i-preserved
loop-i-preserved c =
    let ds : List Declaration = shown_declarations c.args.scope.now.text.now c.args.scope.now.declarations.now in
    let d : Parsed = get_or c.args.scope.now.declarations.now c.loop-i.i nowhere in
    goes_on_outputs c.args.numbers.now (shown_declaration c.args.scope.now.text.now) c.args.scope.now.declarations.now c.args.drivers.now
    c.args.net.now c.loop-i.net c.show_one.new.net c.loop-i.i nowhere c.index-drivers-i.result c.requires.full
    c.loop-i-test.true (distinct_names ds c.args.scope.now.apart) c.loop-i.invariant
    (c.in_ok-show_one.ensures ∙ ap (λ v. with_outputs c.loop-i.net (output_with c.args.numbers.now (shown_declaration c.args.scope.now.text.now d) v)) c.index-drivers-i.is)

pub returns : goal.returns
returns c = ends_outputs c.args.numbers.now (shown_declaration c.args.scope.now.text.now) c.args.scope.now.declarations.now c.args.drivers.now
    c.args.net.now c.loop-i.net c.loop-i.net c.loop-i.i nowhere driver.Open c.requires.full c.loop-i-test.false c.loop-i.invariant
