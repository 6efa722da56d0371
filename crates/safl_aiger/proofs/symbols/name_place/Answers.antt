use Rattle.safl_aiger.proofs.Common.{ap, drop, named, ◌∙◌}
use Rattle.safl_aiger.specs.declared.symbols.Sort.TheVariants.{Input, Latch, Output}
use Rattle.safl_aiger.specs.Reads.{symbol_line}
use Rattle.safl_aiger.proofs.Parsing.{name_taken}
use Rattle.safl_aiger.proofs.symbols.name_place.Goals as goal

pub returns-in-Input-clause-err : goal.returns-in-Input-clause-err
returns-in-Input-clause-err c =
    let s = c.in-Some.symbol in
    let i = c.in-Some.ensures.some in
    let name = drop s.start c.args.line.now in
    name_taken c.set_name.result c.args.line.now Input s.place name (named c.args.names.now) c.requires i.few (i.is ∙ ap (λ x. symbol_line x s.place name) c.in-Input.is) c.set_name.ensures.err

pub returns-in-Latch-clause-err : goal.returns-in-Latch-clause-err
returns-in-Latch-clause-err c =
    let s = c.in-Some.symbol in
    let i = c.in-Some.ensures.some in
    let name = drop s.start c.args.line.now in
    name_taken c.set_name-in-Latch.result c.args.line.now Latch s.place name (named c.args.names.now) c.requires i.few
    (i.is ∙ ap (λ x. symbol_line x s.place name) c.in-Latch.is) c.set_name-in-Latch.ensures.err

pub returns-in-Output-clause-err : goal.returns-in-Output-clause-err
returns-in-Output-clause-err c =
    let s = c.in-Some.symbol in
    let i = c.in-Some.ensures.some in
    let name = drop s.start c.args.line.now in
    name_taken c.set_name-in-Output.result c.args.line.now Output s.place name (named c.args.names.now) c.requires i.few
    (i.is ∙ ap (λ x. symbol_line x s.place name) c.in-Output.is) c.set_name-in-Output.ensures.err
