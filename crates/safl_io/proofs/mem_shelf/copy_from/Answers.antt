use Rattle.std.proofs.Common.{rules, arith, ◌≡◌, ◌++◌, length, take, drop, min}
use Rattle.std.proofs.lemmas.Grind.{common_steps}
use Rattle.safl_io.proofs.ShelfInMemory.{copied_reads}
use Rattle.safl_io.proofs.mem_shelf.copy_from.Goals as goal

pub returns-clause-read : goal.returns-clause-read
returns-clause-read c =
    let start : c.min-start.result ≡ min c.args.at (length c.args.file.now) = search rules in
    let count : c.min-count.result ≡ min (length c.args.buf.now) (length (drop c.min-start.result c.args.file.now)) = grind (arith, common_steps) in
    let copied : c.copy_from_slice.new.self ≡ take c.min-count.result (drop c.min-start.result c.args.file.now) = grind (arith, common_steps) in
    let size : length (c.copy_from_slice.new.self ++ drop c.min-count.result c.args.buf.now) ≡ length c.args.buf.now = grind (arith, common_steps) in
    copied_reads _ _ _ _ _ _ _ start count copied size
