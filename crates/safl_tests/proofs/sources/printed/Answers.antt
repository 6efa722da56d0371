use Rattle.std.proofs.Common.{sym, subst}
use Rattle.safl_tree.specs.Printable.{IsPrintable}
use Rattle.safl_parse.specs.Spelled.{program_of}
use Rattle.safl_tests.proofs.sources.printed.Goals as goal

pub print-requires : goal.print-requires
print-requires c = subst IsPrintable (sym c.program.ensures) (c.printable_law.ensures c.args.source.now (program_of c.in-Ok.parsed) c.in-Ok.ensures.program.1)
