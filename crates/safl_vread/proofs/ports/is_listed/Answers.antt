use Rattle.safl_vread.proofs.Common.{Spot, shown_spot}
use Rattle.std.proofs.Common.{ap, sym, ◌∙◌, ◌≡◌, not, ◌||◌, List}
use Rattle.safl_verilog.specs.Faults.{among}
use Rattle.safl_vread.specs.Lists.{has, bytes_of_all}
use Rattle.safl_vread.proofs.NamesLookedUp.{among_has}
use Rattle.safl_vread.proofs.ports.is_listed.Goals as goal

pub returns-else-not-is_port : goal.returns-else-not-is_port
returns-else-not-is_port c = λ (hs : List Spot) (e : c.args.listed.now ≡ bytes_of_all hs).
    let w = (shown_spot c.args.text.now c.args.d.now.name).bytes in
    c.has.ensures ∙ ap (has c.args.listed.now) c.bytes_of.ensures ∙ ap (λ l. has l w) e ∙ sym (among_has hs w)
    ∙ ap (λ b. not b || among hs w) (sym c.if-not-is_port.false ∙ c.is_port.ensures)
