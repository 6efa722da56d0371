use Rattle.safl_unit.proofs.Common.{CheckedProgram, IsChecked, UnitPins, arity, input_line, numbered, open_register}
use Rattle.std.proofs.Common.{◌≡◌, ◌≤◌, List, suc, map, length, subst, sym, ap, ◌∙◌, arith}
use Rattle.safl_circuit.specs.Layout.{lines}
use Rattle.safl_unit.specs.Declaring.{with_signals, MayAdd, function_lines, port_lines, FunctionsPinned, SitesPinned}
use Rattle.safl_unit.proofs.layout.Declared.{inputs_few, registers_few, sites_few, net_declared, pins_are}
use Rattle.safl_unit.proofs.layout.Fitting.{pins_fit}
use Rattle.safl_unit.proofs.layout.Tidying.{declared_tidy, declared_settled}
use Rattle.safl_unit.proofs.layout.Adding.{may_now, may_declare, may_ports, may_functions, may_sites, may_wires}
use Rattle.safl_unit.proofs.declare.declare.Goals as goal

pub add_functions-requires-clause-room : goal.add_functions-requires-clause-room
add_functions-requires-clause-room c =
    let same = c.program-c.ensures.same in
    let checked = c.program-c.ensures.checked in
    let ports = subst (λ (x : CheckedProgram). c.add_ports.new.net ≡ with_signals c.add_input.new.net (map input_line (port_lines x.program x.names x.program.main))) same
    (c.in_ok-words.ensures.added ∙ ap (λ f. with_signals c.add_input.new.net
    (map input_line (port_lines c.program-c.result.now.program c.program-c.result.now.names f))) c.main_function-main.ensures.number) in
    let few : length c.add_ports.new.net.signals ≤ 17 = inputs_few c.args.p.now.checked checked c.args.p.now.program.main
    c.new-net.result c.add_input.new.net c.add_ports.new.net c.new-net.ensures c.in_ok-start.ensures.added ports in
    let k = (subst IsChecked (sym same) checked).limits.functions in
    omega (arith, few, k)

pub add_sites-requires-clause-room : goal.add_sites-requires-clause-room
add_sites-requires-clause-room c =
    let same = c.program-c.ensures.same in
    let checked = c.program-c.ensures.checked in
    let ports = subst (λ (x : CheckedProgram). c.add_ports.new.net ≡ with_signals c.add_input.new.net (map input_line (port_lines x.program x.names x.program.main))) same
    (c.in_ok-words.ensures.added ∙ ap (λ f. with_signals c.add_input.new.net
    (map input_line (port_lines c.program-c.result.now.program c.program-c.result.now.names f))) c.main_function-main.ensures.number) in
    let few : length c.add_ports.new.net.signals ≤ 17 = inputs_few c.args.p.now.checked checked c.args.p.now.program.main
    c.new-net.result c.add_input.new.net c.add_ports.new.net c.new-net.ensures c.in_ok-start.ensures.added ports in
    let functions = subst (λ (x : CheckedProgram). c.add_functions.new.net ≡ with_signals c.add_ports.new.net
    (map open_register (lines (function_lines x.program x.names) x.program.functions))) same c.in_ok-functions.ensures.added in
    let fewer : length c.add_functions.new.net.signals ≤ 20017 = registers_few c.args.p.now.checked checked c.add_ports.new.net c.add_functions.new.net few functions in
    let k = checked.limits.sites in
    omega (arith, fewer, k)

pub add_wires-requires-clause-room : goal.add_wires-requires-clause-room
add_wires-requires-clause-room c =
    let same = c.program-c.ensures.same in
    let checked = c.program-c.ensures.checked in
    let ports = subst (λ (x : CheckedProgram). c.add_ports.new.net ≡ with_signals c.add_input.new.net (map input_line (port_lines x.program x.names x.program.main))) same
    (c.in_ok-words.ensures.added ∙ ap (λ f. with_signals c.add_input.new.net
    (map input_line (port_lines c.program-c.result.now.program c.program-c.result.now.names f))) c.main_function-main.ensures.number) in
    let few : length c.add_ports.new.net.signals ≤ 17 = inputs_few c.args.p.now.checked checked c.args.p.now.program.main
    c.new-net.result c.add_input.new.net c.add_ports.new.net c.new-net.ensures c.in_ok-start.ensures.added ports in
    let functions = subst (λ (x : CheckedProgram). c.add_functions.new.net ≡ with_signals c.add_ports.new.net
    (map open_register (lines (function_lines x.program x.names) x.program.functions))) same c.in_ok-functions.ensures.added in
    let fewer : length c.add_functions.new.net.signals ≤ 20017 = registers_few c.args.p.now.checked checked c.add_ports.new.net c.add_functions.new.net few functions in
    let fewest : length c.add_sites.new.net.signals ≤ 32020 = sites_few c.args.p.now.checked checked c.args.p.now.choice c.add_functions.new.net
    c.add_sites.new.net fewer c.in_ok-sites.ensures.added in
    let k = checked.limits.sites in
    let m = checked.limits.functions in
    omega (arith, fewest, k, m)

pub returns-clause-net : goal.returns-clause-net
returns-clause-net c =
    let same = c.program-c.ensures.same in
    let checked = c.program-c.ensures.checked in
    let ports = subst (λ (x : CheckedProgram). c.add_ports.new.net ≡ with_signals c.add_input.new.net (map input_line (port_lines x.program x.names x.program.main))) same
    (c.in_ok-words.ensures.added ∙ ap (λ f. with_signals c.add_input.new.net
    (map input_line (port_lines c.program-c.result.now.program c.program-c.result.now.names f))) c.main_function-main.ensures.number) in
    let functions = subst (λ (x : CheckedProgram). c.add_functions.new.net ≡ with_signals c.add_ports.new.net
    (map open_register (lines (function_lines x.program x.names) x.program.functions))) same c.in_ok-functions.ensures.added in
    net_declared c.args.p.now.checked checked c.args.p.now.choice c.new-net.result c.add_input.new.net c.add_ports.new.net
    c.add_functions.new.net c.add_sites.new.net c.add_wires.new.net c.new-net.ensures c.in_ok-start.ensures.added ports functions
    c.in_ok-sites.ensures.added c.in_ok-add_wires.ensures

pub returns-clause-pins : goal.returns-clause-pins
returns-clause-pins c =
    let same = c.program-c.ensures.same in
    let checked = c.program-c.ensures.checked in
    let ports = subst (λ (x : CheckedProgram). c.add_ports.new.net ≡ with_signals c.add_input.new.net (map input_line (port_lines x.program x.names x.program.main))) same
    (c.in_ok-words.ensures.added ∙ ap (λ f. with_signals c.add_input.new.net
    (map input_line (port_lines c.program-c.result.now.program c.program-c.result.now.names f))) c.main_function-main.ensures.number) in
    let functions = subst (λ (x : CheckedProgram). c.add_functions.new.net ≡ with_signals c.add_ports.new.net
    (map open_register (lines (function_lines x.program x.names) x.program.functions))) same c.in_ok-functions.ensures.added in
    let pinned = subst (λ (x : CheckedProgram). FunctionsPinned x.program x.names (length c.add_ports.new.net.signals)
    x.program.functions c.in_ok-functions.functions.units.items c.in_ok-functions.functions.members.items) same c.in_ok-functions.ensures.pinned in
    let sited = subst (λ (us : List UnitPins). SitesPinned c.args.p.now.program c.args.p.now.choice
    (length c.add_functions.new.net.signals) (suc c.args.p.now.program.sites) us c.in_ok-sites.sites.items) c.as_slice.ensures.value
    c.in_ok-sites.ensures.pinned in
    let words = subst (λ (x : CheckedProgram). c.in_ok-words.words.items ≡ numbered (length c.add_input.new.net.signals) (arity x.program x.program.main)) same
    (c.in_ok-words.ensures.order ∙ ap (λ f. numbered (length c.add_input.new.net.signals) (arity c.program-c.result.now.program f)) c.main_function-main.ensures.number) in
    pins_are c.args.p.now.checked checked c.args.p.now.choice c.new-net.result c.add_input.new.net c.add_ports.new.net c.add_functions.new.net
    c.add_sites.new.net c.add_wires.new.net c.new-net.ensures c.in_ok-start.ensures.added ports functions c.in_ok-sites.ensures.added
    c.in_ok-add_wires.ensures _ c.in_ok-start.ensures.next words c.signals-first_register.ensures.count c.signals-first_wire.ensures.count pinned sited

pub returns-clause-fits : goal.returns-clause-fits
returns-clause-fits c =
    let same = c.program-c.ensures.same in
    let checked = c.program-c.ensures.checked in
    let ports = subst (λ (x : CheckedProgram). c.add_ports.new.net ≡ with_signals c.add_input.new.net (map input_line (port_lines x.program x.names x.program.main))) same
    (c.in_ok-words.ensures.added ∙ ap (λ f. with_signals c.add_input.new.net
    (map input_line (port_lines c.program-c.result.now.program c.program-c.result.now.names f))) c.main_function-main.ensures.number) in
    let functions = subst (λ (x : CheckedProgram). c.add_functions.new.net ≡ with_signals c.add_ports.new.net
    (map open_register (lines (function_lines x.program x.names) x.program.functions))) same c.in_ok-functions.ensures.added in
    let pinned = subst (λ (x : CheckedProgram). FunctionsPinned x.program x.names (length c.add_ports.new.net.signals)
    x.program.functions c.in_ok-functions.functions.units.items c.in_ok-functions.functions.members.items) same c.in_ok-functions.ensures.pinned in
    let sited = subst (λ (us : List UnitPins). SitesPinned c.args.p.now.program c.args.p.now.choice
    (length c.add_functions.new.net.signals) (suc c.args.p.now.program.sites) us c.in_ok-sites.sites.items) c.as_slice.ensures.value
    c.in_ok-sites.ensures.pinned in
    let words = subst (λ (x : CheckedProgram). c.in_ok-words.words.items ≡ numbered (length c.add_input.new.net.signals) (arity x.program x.program.main)) same
    (c.in_ok-words.ensures.order ∙ ap (λ f. numbered (length c.add_input.new.net.signals) (arity c.program-c.result.now.program f)) c.main_function-main.ensures.number) in
    pins_fit c.args.p.now.checked checked c.args.p.now.choice c.add_wires.new.net _
    (net_declared c.args.p.now.checked checked c.args.p.now.choice c.new-net.result c.add_input.new.net c.add_ports.new.net
    c.add_functions.new.net c.add_sites.new.net c.add_wires.new.net c.new-net.ensures c.in_ok-start.ensures.added ports functions
    c.in_ok-sites.ensures.added c.in_ok-add_wires.ensures)
    (pins_are c.args.p.now.checked checked c.args.p.now.choice c.new-net.result c.add_input.new.net c.add_ports.new.net c.add_functions.new.net
    c.add_sites.new.net c.add_wires.new.net c.new-net.ensures c.in_ok-start.ensures.added ports functions c.in_ok-sites.ensures.added
    c.in_ok-add_wires.ensures _ c.in_ok-start.ensures.next words c.signals-first_register.ensures.count c.signals-first_wire.ensures.count pinned sited)

pub returns-clause-tidy : goal.returns-clause-tidy
returns-clause-tidy c =
    let same = c.program-c.ensures.same in
    let checked = c.program-c.ensures.checked in
    let ports = subst (λ (x : CheckedProgram). c.add_ports.new.net ≡ with_signals c.add_input.new.net (map input_line (port_lines x.program x.names x.program.main))) same
    (c.in_ok-words.ensures.added ∙ ap (λ f. with_signals c.add_input.new.net
    (map input_line (port_lines c.program-c.result.now.program c.program-c.result.now.names f))) c.main_function-main.ensures.number) in
    let functions = subst (λ (x : CheckedProgram). c.add_functions.new.net ≡ with_signals c.add_ports.new.net
    (map open_register (lines (function_lines x.program x.names) x.program.functions))) same c.in_ok-functions.ensures.added in
    declared_tidy c.args.p.now.program c.args.p.now.names c.args.p.now.choice c.add_wires.new.net
    (net_declared c.args.p.now.checked checked c.args.p.now.choice c.new-net.result c.add_input.new.net c.add_ports.new.net
    c.add_functions.new.net c.add_sites.new.net c.add_wires.new.net c.new-net.ensures c.in_ok-start.ensures.added ports functions
    c.in_ok-sites.ensures.added c.in_ok-add_wires.ensures)

pub returns-clause-settled : goal.returns-clause-settled
returns-clause-settled c =
    let same = c.program-c.ensures.same in
    let checked = c.program-c.ensures.checked in
    let ports = subst (λ (x : CheckedProgram). c.add_ports.new.net ≡ with_signals c.add_input.new.net (map input_line (port_lines x.program x.names x.program.main))) same
    (c.in_ok-words.ensures.added ∙ ap (λ f. with_signals c.add_input.new.net
    (map input_line (port_lines c.program-c.result.now.program c.program-c.result.now.names f))) c.main_function-main.ensures.number) in
    let functions = subst (λ (x : CheckedProgram). c.add_functions.new.net ≡ with_signals c.add_ports.new.net
    (map open_register (lines (function_lines x.program x.names) x.program.functions))) same c.in_ok-functions.ensures.added in
    declared_settled c.args.p.now.program c.args.p.now.names c.args.p.now.choice c.add_wires.new.net
    (net_declared c.args.p.now.checked checked c.args.p.now.choice c.new-net.result c.add_input.new.net c.add_ports.new.net
    c.add_functions.new.net c.add_sites.new.net c.add_wires.new.net c.new-net.ensures c.in_ok-start.ensures.added ports functions
    c.in_ok-sites.ensures.added c.in_ok-add_wires.ensures)

pub add_input-requires-clause-free : goal.add_input-requires-clause-free
add_input-requires-clause-free c = may_now c.new-net.result _ _
    (may_declare c.program-c.result.now (subst IsChecked (sym c.program-c.ensures.same) c.program-c.ensures.checked) c.args.p.now.choice
    c.new-net.result c.new-net.ensures)

pub add_ports-requires-clause-free : goal.add_ports-requires-clause-free
add_ports-requires-clause-free c =
    let x = c.program-c.result.now in
    subst (λ f. MayAdd c.add_input.new.net (map input_line (port_lines x.program x.names f))) (sym c.main_function-main.ensures.number)
    (may_ports x (subst IsChecked (sym c.program-c.ensures.same) c.program-c.ensures.checked) c.args.p.now.choice c.new-net.result
    c.add_input.new.net c.new-net.ensures c.in_ok-start.ensures.added)

pub add_functions-requires-clause-free : goal.add_functions-requires-clause-free
add_functions-requires-clause-free c =
    let x = c.program-c.result.now in
    let ports = c.in_ok-words.ensures.added ∙ ap (λ f. with_signals c.add_input.new.net (map input_line (port_lines x.program x.names f))) c.main_function-main.ensures.number in
    may_functions x (subst IsChecked (sym c.program-c.ensures.same) c.program-c.ensures.checked) c.args.p.now.choice c.new-net.result
    c.add_input.new.net c.add_ports.new.net c.new-net.ensures c.in_ok-start.ensures.added ports

pub add_sites-requires-clause-free : goal.add_sites-requires-clause-free
add_sites-requires-clause-free c =
    let same = c.program-c.ensures.same in
    let checked = c.program-c.ensures.checked in
    let ports = subst (λ (x : CheckedProgram). c.add_ports.new.net ≡ with_signals c.add_input.new.net (map input_line (port_lines x.program x.names x.program.main))) same
    (c.in_ok-words.ensures.added ∙ ap (λ f. with_signals c.add_input.new.net
    (map input_line (port_lines c.program-c.result.now.program c.program-c.result.now.names f))) c.main_function-main.ensures.number) in
    let functions = subst (λ (x : CheckedProgram). c.add_functions.new.net ≡ with_signals c.add_ports.new.net
    (map open_register (lines (function_lines x.program x.names) x.program.functions))) same c.in_ok-functions.ensures.added in
    may_sites c.args.p.now.checked checked c.args.p.now.choice c.new-net.result c.add_input.new.net c.add_ports.new.net c.new-net.ensures
    c.in_ok-start.ensures.added ports c.add_functions.new.net functions

pub add_wires-requires-clause-free : goal.add_wires-requires-clause-free
add_wires-requires-clause-free c =
    let same = c.program-c.ensures.same in
    let checked = c.program-c.ensures.checked in
    let ports = subst (λ (x : CheckedProgram). c.add_ports.new.net ≡ with_signals c.add_input.new.net (map input_line (port_lines x.program x.names x.program.main))) same
    (c.in_ok-words.ensures.added ∙ ap (λ f. with_signals c.add_input.new.net
    (map input_line (port_lines c.program-c.result.now.program c.program-c.result.now.names f))) c.main_function-main.ensures.number) in
    let functions = subst (λ (x : CheckedProgram). c.add_functions.new.net ≡ with_signals c.add_ports.new.net
    (map open_register (lines (function_lines x.program x.names) x.program.functions))) same c.in_ok-functions.ensures.added in
    may_wires c.args.p.now.checked checked c.args.p.now.choice c.new-net.result c.add_input.new.net c.add_ports.new.net c.new-net.ensures
    c.in_ok-start.ensures.added ports c.add_functions.new.net c.add_sites.new.net functions c.in_ok-sites.ensures.added
