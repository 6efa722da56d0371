use Rattle.std.proofs.Common.{rules, arith, ◌≡◌, ◌≤◌, ◌<◌, ◌++◌, take, length}
use Rattle.std.proofs.lemmas.Grind.{common_steps}
use Rattle.safl_io.proofs.Reading.{read_more, read_end}
use Rattle.safl_io.proofs.read.read_more.Goals as goal

pub returns-clause-more : goal.returns-clause-more
returns-clause-more g c =
    let here : c.len.result ≡ length c.args.text.now.items = search rules in
    let longer : c.extend_from_slice.new.self.items ≡ c.args.text.now.items ++ take c.in_ok-count.count c.read_at.new.buf = grind (arith, common_steps) in
    let within : c.in_ok-count.count ≤ length c.read_at.new.buf = omega (arith, c.in_ok-count.ensures.within) in
    read_more _ _ _ _ _ _ _ here longer within c.in_ok-count.ensures.read

pub returns-clause-end : goal.returns-clause-end
returns-clause-end g c =
    let here : c.len.result ≡ length c.args.text.now.items = search rules in
    let longer : c.extend_from_slice.new.self.items ≡ c.args.text.now.items ++ take c.in_ok-count.count c.read_at.new.buf = grind (arith, common_steps) in
    let room : 0 < length c.read_at.new.buf = omega arith in
    read_end _ _ _ _ _ _ _ here longer room c.in_ok-count.ensures.read
