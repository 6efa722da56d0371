use Rattle.std.proofs.Common.{◌≡◌, ◌+◌, ◌*◌, ◌/◌, length, subst, arith}
use Rattle.safl_net.specs.Making.{numbers}
use Rattle.safl_net.proofs.Keeping.{numbers_length}
use Rattle.safl_sim.specs.Marks.{first_register}
use Rattle.safl_sim.specs.Readers.{Lists, AreLists}
use Rattle.safl_sim.proofs.Cycle.{next_in}
use Rattle.safl_sim.proofs.Tables.{lists_none, lists_gap, table_lists, table_readers}
use Rattle.safl_sim.proofs.table.table_of.Goals as goal

pub push_nexts-requires-clause-few : goal.push_nexts-requires-clause-few
push_nexts-requires-clause-few c = (let a = c.requires.few in let b = c.requires.some in let d = c.word_count-words.ensures in omega (arith, a, b, d))

pub push_nexts-requires-clause-within : goal.push_nexts-requires-clause-within
push_nexts-requires-clause-within c = λ k r e.
    let a = next_in c.args.net.now c.args.registers.now (length c.args.net.now.signals) c.requires.netlist c.requires.registers k r e in
    let b = c.in_ok-lists.ensures.long in
    let d = c.signals-count.ensures.count in
    omega (arith, a, b, d)

pub push_steps-requires-clause-long : goal.push_steps-requires-clause-long
push_steps-requires-clause-long c = (let a = c.in_ok-push_nexts.ensures.long in let b = c.in_ok-lists.ensures.long in let d = c.signals-count.ensures.count in omega (arith, a, b, d))

pub flatten-requires : goal.flatten-requires
flatten-requires c = (let a = c.in_ok-push_steps.ensures.long in let e = c.in_ok-push_nexts.ensures.long in let b = c.in_ok-lists.ensures.long in omega (arith, a, b, e))

pub returns-clause-lists : goal.returns-clause-lists
returns-clause-lists c =
    let n = c.args.net.now in
    let ws = numbers c.args.wires.now in
    let regs = c.args.registers.now in
    let many = numbers_length c.args.wires.now in
    let first : c.word_count-words.result * 64 ≡ first_register (length ws) = (let a = c.word_count-words.ensures in omega (arith, a, many)) in
    let begun = lists_none n ws regs (c.word_count-words.result * 64 + length regs) c.in_ok-lists.lists (omega (arith, first)) c.in_ok-lists.ensures.none in
    let nexts = subst (λ x. AreLists n ws regs x 0 c.push_nexts.new.lists) first (c.in_ok-push_nexts.ensures.all n ws first begun) in
    let gap = subst (λ x. AreLists n ws regs x 0 c.push_nexts.new.lists) many (lists_gap n ws regs c.push_nexts.new.lists nexts) in
    let done = c.in_ok-push_steps.ensures.all regs gap in
    let places : length n.signals ≡ length c.push_steps.new.lists =
    (let a = c.in_ok-push_steps.ensures.long in let e = c.in_ok-push_nexts.ensures.long in let b = c.in_ok-lists.ensures.long in let d =
    c.signals-count.ensures.count in omega (arith, a, b, d, e)) in
    subst (λ k. Lists c.in_ok-table.table.starts.items c.in_ok-table.table.readers.items (length n.signals) k)
    (let z : (first_register (length ws) + length regs + 63) / 64 ≡ (first_register (length c.args.wires.now) + length regs + 63) / 64 = omega (arith, many) in z)
    (table_lists n ws regs c.in_ok-table.table.starts.items c.in_ok-table.table.readers.items c.push_steps.new.lists done c.in_ok-table.ensures (length n.signals) places)

pub returns-clause-readers : goal.returns-clause-readers
returns-clause-readers c =
    let n = c.args.net.now in
    let ws = numbers c.args.wires.now in
    let regs = c.args.registers.now in
    let many = numbers_length c.args.wires.now in
    let first : c.word_count-words.result * 64 ≡ first_register (length ws) = (let a = c.word_count-words.ensures in omega (arith, a, many)) in
    let begun = lists_none n ws regs (c.word_count-words.result * 64 + length regs) c.in_ok-lists.lists (omega (arith, first)) c.in_ok-lists.ensures.none in
    let nexts = subst (λ x. AreLists n ws regs x 0 c.push_nexts.new.lists) first (c.in_ok-push_nexts.ensures.all n ws first begun) in
    let gap = subst (λ x. AreLists n ws regs x 0 c.push_nexts.new.lists) many (lists_gap n ws regs c.push_nexts.new.lists nexts) in
    table_readers n ws regs c.in_ok-table.table.starts.items c.in_ok-table.table.readers.items c.push_steps.new.lists (c.in_ok-push_steps.ensures.all regs gap) c.in_ok-table.ensures
