use Rattle.safl_aiger.proofs.Common.{Circuit, arith, drop, subst, sym, text_lines, ◌+◌, ◌∙◌}
use Rattle.safl_aiger.specs.Reads.{Named, AigReads, counts, unnamed, SymbolFault}
use Rattle.safl_aiger.specs.Symbols.{named, SymbolsPass, SymbolsFail}
use Rattle.safl_aiger.proofs.Concluding.{reads, reads_circuit, symbols_fault, lines_room}
use Rattle.safl_aiger.proofs.read.read_names.Goals as goal

pub read_symbols-requires-clause-lines : goal.read_symbols-requires-clause-lines
read_symbols-requires-clause-lines c =
    let r = lines_room c.args.text.now c.args.at (counts c.args.h) c.args.body c.requires.begins c.requires.body in
    omega (arith, r, c.requires.short)

pub new-requires : goal.new-requires
new-requires c =
    let ls = text_lines (drop c.args.body.next c.args.text.now) in
    let new = named c.read_symbols.new.names in
    let p : SymbolsPass ls (unnamed (counts c.args.h)) new = subst (λ (x : Named). SymbolsPass ls x new) c.in-Ok.ensures c.in-Ok-read_symbols.ensures.ok in
    reads_circuit c.args.text.now c.args.at (counts c.args.h) c.args.body c.read_symbols.new.names c.requires.outputs c.requires.begins c.requires.body p

pub returns-in-Ok-read_symbols-clause-reads : goal.returns-in-Ok-read_symbols-clause-reads
returns-in-Ok-read_symbols-clause-reads c =
    let ls = text_lines (drop c.args.body.next c.args.text.now) in
    let new = named c.read_symbols.new.names in
    let p : SymbolsPass ls (unnamed (counts c.args.h)) new = subst (λ (x : Named). SymbolsPass ls x new) c.in-Ok.ensures c.in-Ok-read_symbols.ensures.ok in
    subst (λ (a : Circuit). AigReads c.args.text.now a) (sym c.new.ensures)
    (reads c.args.text.now c.args.at (counts c.args.h) c.args.body c.read_symbols.new.names c.requires.outputs c.requires.begins c.requires.body p)

pub returns-in-Err-Stopped-clause-fault : goal.returns-in-Err-Stopped-clause-fault
returns-in-Err-Stopped-clause-fault c =
    let h = c.args.h in
    let ls = text_lines (drop c.args.body.next c.args.text.now) in
    let before = 1 + h.inputs + h.latches + h.outputs + h.ands in
    let f = subst (λ e. SymbolsFail ls before (named c.in-Ok.names) e) c.in-Err-Stopped.field-0-is c.in-Err-Stopped.ensures.err in
    let g : SymbolFault ls (unnamed (counts h)) f.0 = subst (λ (x : Named). SymbolFault ls x f.0) c.in-Ok.ensures f.1 in
    symbols_fault c.args.text.now c.args.at (counts h) c.args.body f.0 c.in-Err-Stopped.n c.requires.begins c.requires.body g (c.in-Err-Stopped.n-is ∙ f.2)
