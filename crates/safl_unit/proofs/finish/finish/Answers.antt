use Rattle.safl_unit.proofs.Common.{CheckedProgram, Netlist, slice_get_read}
use Rattle.std.proofs.Common.{◌≡◌, Some, length, slice_get, refl, sym, ap, ◌∙◌, arith}
use Rattle.safl_net.proofs.Growth.{within}
use Rattle.safl_unit.proofs.assembly.Finishing.{finishes}
use Rattle.safl_unit.proofs.titles.Outputs.{done_free, result_free}
use Rattle.safl_unit.proofs.finish.finish.Goals.{After-index-unit}
use Rattle.safl_unit.proofs.finish.finish.Goals as goal

-- the registers of main's unit
main_at : (c : After-index-unit) → slice_get c.args.pins.now.bank.units.items c.args.p.now.program.main ≡ Some c.index-unit.result.now
main_at c =
    let units = c.args.pins.now.bank.units.items in
    let main = c.main_function-main.result in
    let same = c.program-c.ensures.same in
    let f = ap (λ (x : CheckedProgram). x.program.functions) same in
    let inside = c.main_function-main.ensures.within in
    let long = c.requires.pins.units_length in
    ap (slice_get units) (sym (c.main_function-main.ensures.number ∙ ap (λ (x : CheckedProgram). x.program.main) same))
    ∙ slice_get_read units (length units) main c.index-unit.result.now refl (omega (arith, inside, f, long)) c.index-unit.ensures

pub add_output-requires-clause-known : goal.add_output-requires-clause-known
add_output-requires-clause-known c =
    let at = main_at (goal.at.add_output-requires-clause-known c).After-index-unit in
    let l = within c.args.net.now c.index-unit.result.now.fin.0 1 (c.requires.fits.bank.units c.args.p.now.program.main c.index-unit.result.now at).fin.width in
    let n = c.in_ok-set_all.ensures.set.count in
    omega (arith, l, n)

pub add_output-requires-2-clause-known : goal.add_output-requires-2-clause-known
add_output-requires-2-clause-known c =
    let C = c.args.p.now.program in
    let at = main_at (goal.at.add_output-requires-2-clause-known c).After-index-unit in
    let l = within c.args.net.now c.index-unit.result.now.res.0 (C.result C.main) (c.requires.fits.bank.units C.main c.index-unit.result.now at).res.width in
    let n = c.in_ok-set_all.ensures.set.count in
    let m = ap (λ (x : Netlist). length x.signals) c.in_ok-add_output.ensures.added in
    omega (arith, l, n, m)

pub returns-clause-done : goal.returns-clause-done
returns-clause-done c =
    let at = main_at (goal.at.returns-clause-done c).After-index-unit in
    finishes c.args.p.now.program c.args.p.now.names c.args.p.now.choice c.args.pins.now c.args.next.now
    c.args.controls.now c.index-unit.result.now c.args.net.now c.set_all.new.net c.add_output.new.net c.add_output-2.new.net
    c.in_ok-set_all.ensures.set c.requires.settled at c.in_ok-add_output.ensures.added c.in_ok-add_output-2.ensures.added

pub add_output-requires-clause-free : goal.add_output-requires-clause-free
add_output-requires-clause-free c =
    let set = c.in_ok-set_all.ensures.set in
    done_free c.args.p.now.checked c.program-c.ensures.checked c.args.p.now.choice c.args.net.now c.set_all.new.net c.requires.grown set.names set.outputs

pub add_output-requires-2-clause-free : goal.add_output-requires-2-clause-free
add_output-requires-2-clause-free c =
    let set = c.in_ok-set_all.ensures.set in
    result_free c.args.p.now.checked c.program-c.ensures.checked c.args.p.now.choice c.args.net.now c.set_all.new.net c.requires.grown set.names c.add_output.new.net
    c.index-unit.result.now.fin.0 set.outputs c.in_ok-add_output.ensures.added
