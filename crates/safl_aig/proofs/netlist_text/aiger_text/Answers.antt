use Rattle.safl_aig.proofs.Writing.{text_of}
use Rattle.safl_aig.proofs.netlist_text.aiger_text.Goals as goal

pub returns-in-Ok-aig_text-clause-text : goal.returns-in-Ok-aig_text-clause-text
returns-in-Ok-aig_text-clause-text c =
    let a = c.in-Ok.circuit in
    let made = c.in-Ok.ensures in
    text_of c.written_reads_law.ensures c.args.o.now.net a c.in-Ok-aig_text.text.items (record { zero = made.answers.0; light = made.answers.1 })
    (record { same = made.same; named = made.named; few = made.few }) c.inputs-inputs.ensures.circuit c.in-Ok-aig_text.ensures
