use Rattle.std.proofs.Common.{rules, arith, ◌≡◌, ◌++◌, ◌/◌, length, take, ap, sym, ◌∙◌}
use Rattle.std.proofs.lemmas.Grind.{common_steps}
use Rattle.std.proofs.lemmas.List.{append-nil}
use Rattle.safl_io.specs.MemSink.{Sent}
use Rattle.safl_io.specs.Sink.{SendsPart}
use Rattle.safl_io.proofs.mem_sink.MemSinkSink.put.Goals as goal

pub returns-then-next_fails-clause-part : goal.returns-then-next_fails-clause-part
returns-then-next_fails-clause-part c =
    let half : c.extend_from_slice.new.self.items ≡ c.args.self.now.bytes ++ take (length c.args.bytes.now / 2) c.args.bytes.now = grind (arith, common_steps) in
    (length c.args.bytes.now / 2, half)

pub returns-in_err-extend_from_slice-2-clause-part : goal.returns-in_err-extend_from_slice-2-clause-part
returns-in_err-extend_from_slice-2-clause-part c =
    let same = c.in_err-extend_from_slice-2.ensures.items ∙ ap (λ (sink : Sent). sink.bytes) c.self.view_is in
    let part : SendsPart c.args.bytes.now c.args.self.now.bytes c.extend_from_slice-2.new.self.items = (0, same ∙ sym (append-nil c.args.self.now.bytes)) in
    search (rules, part)
