use Rattle.safl_aig.proofs.Common.{AllZero, Connected, next_lits, output_lits, weight}
use Rattle.std.proofs.Common.{◌≡◌, ◌≤◌, sym, subst, ap, ◌∙◌, arith}
use Rattle.safl_net.specs.Netlist.{AllSet}
use Rattle.safl_aiger.specs.Circuits.{Circuit}
use Rattle.safl_aig.specs.Mirrors.{Mirrors, SameBits}
use Rattle.safl_aig.proofs.Connecting.{first_light}
use Rattle.safl_aig.proofs.Mirroring.{IsMade, mirrors}
use Rattle.safl_aig.proofs.Naming.{makes_circuit, inputs_count}
use Rattle.safl_aig.proofs.Running.{law}
use Rattle.safl_aig.proofs.conversion.circuit.Goals as goal

pub overflow_cast-inputs : goal.overflow_cast-inputs
overflow_cast-inputs c =
    let n = c.net-net.result.now in
    let q : n ≡ c.args.o.now.net = c.net-net.ensures.net in
    let light : weight n ≤ 1000000 = subst (λ x. weight x ≤ 1000000) (sym q) c.requires.light in
    let made = c.signals-count.ensures.netlist in
    let f = first_light n in let e = c.count_bits-inputs.ensures in omega (arith, f, e, light)

pub overflow_cast-latches : goal.overflow_cast-latches
overflow_cast-latches c =
    let n = c.net-net.result.now in
    let q : n ≡ c.args.o.now.net = c.net-net.ensures.net in
    let light : weight n ≤ 1000000 = subst (λ x. weight x ≤ 1000000) (sym q) c.requires.light in
    let made = c.signals-count.ensures.netlist in
    let f = first_light n in let e = c.count_bits-latches.ensures in omega (arith, f, e, light)

pub new-requires : goal.new-requires
new-requires c =
    let n = c.net-net.result.now in
    let q : n ≡ c.args.o.now.net = c.net-net.ensures.net in
    let light : weight n ≤ 1000000 = subst (λ x. weight x ≤ 1000000) (sym q) c.requires.light in
    let made = c.signals-count.ensures.netlist in
    let set : AllSet n = subst (λ x. AllSet x) (sym q) c.net-net.ensures.set in
    let g = c.in_ok-graph.field-0.graph in
    let table = c.in_ok-graph.field-0.table.items in
    let done : Connected n g table = subst (λ x. Connected x g table) (sym q) c.in_ok-graph.ensures in
    let nexts_are : c.in_ok-nexts.nexts.items ≡ next_lits n table = c.in_ok-nexts.ensures ∙ ap (next_lits n) c.deref.ensures.value in
    let outputs_are : c.in_ok-outputs.outputs.items ≡ output_lits n table = c.in_ok-outputs.ensures ∙ ap (output_lits n) c.deref-2.ensures.value in
    let ands_are = c.in_ok-ands.ensures.ands in
    let gates = c.in_ok-ands.ensures.gates in
    let named = c.in_ok-names.ensures in
    let nexts = c.in_ok-nexts.nexts.items in
    let outputs = c.in_ok-outputs.outputs.items in
    let ands = c.in_ok-ands.ands.items in
    let names = c.in_ok-names.names in
    makes_circuit n g table nexts outputs ands names made set light done gates nexts_are outputs_are ands_are named.inputs named.latches named.outputs

pub returns-clause-mirrors : goal.returns-clause-mirrors
returns-clause-mirrors c =
    let n = c.net-net.result.now in
    let q : n ≡ c.args.o.now.net = c.net-net.ensures.net in
    let light : weight n ≤ 1000000 = subst (λ x. weight x ≤ 1000000) (sym q) c.requires.light in
    let made = c.signals-count.ensures.netlist in
    let set : AllSet n = subst (λ x. AllSet x) (sym q) c.net-net.ensures.set in
    let g = c.in_ok-graph.field-0.graph in
    let table = c.in_ok-graph.field-0.table.items in
    let done : Connected n g table = subst (λ x. Connected x g table) (sym q) c.in_ok-graph.ensures in
    let nexts_are : c.in_ok-nexts.nexts.items ≡ next_lits n table = c.in_ok-nexts.ensures ∙ ap (next_lits n) c.deref.ensures.value in
    let outputs_are : c.in_ok-outputs.outputs.items ≡ output_lits n table = c.in_ok-outputs.ensures ∙ ap (output_lits n) c.deref-2.ensures.value in
    let ands_are = c.in_ok-ands.ensures.ands in
    let gates = c.in_ok-ands.ensures.gates in
    let named = c.in_ok-names.ensures in
    let nexts = c.in_ok-nexts.nexts.items in
    let outputs = c.in_ok-outputs.outputs.items in
    let ands = c.in_ok-ands.ands.items in
    let names = c.in_ok-names.names in
    let zero : AllZero n = subst (λ x. AllZero x) (sym q) c.requires.zero in
    let e = c.new.ensures in
    let is : IsMade n g table c.new.result = record {
      ands = ap (λ (a : Circuit). a.ands) e ∙ ands_are;
      inputs = ap (λ (a : Circuit). a.inputs) e ∙ inputs_count n g table nexts outputs ands names made set light done gates nexts_are outputs_are ands_are named.inputs named.latches named.outputs;
      nexts = ap (λ (a : Circuit). a.nexts) e ∙ nexts_are;
      outputs = ap (λ (a : Circuit). a.outputs) e ∙ outputs_are;
    } in
    subst (λ x. Mirrors x c.new.result) q (mirrors n g table c.new.result made set zero done is)

pub returns-clause-same : goal.returns-clause-same
returns-clause-same c =
    let n = c.net-net.result.now in
    let q : n ≡ c.args.o.now.net = c.net-net.ensures.net in
    let light : weight n ≤ 1000000 = subst (λ x. weight x ≤ 1000000) (sym q) c.requires.light in
    let made = c.signals-count.ensures.netlist in
    let set : AllSet n = subst (λ x. AllSet x) (sym q) c.net-net.ensures.set in
    let g = c.in_ok-graph.field-0.graph in
    let table = c.in_ok-graph.field-0.table.items in
    let done : Connected n g table = subst (λ x. Connected x g table) (sym q) c.in_ok-graph.ensures in
    let nexts_are : c.in_ok-nexts.nexts.items ≡ next_lits n table = c.in_ok-nexts.ensures ∙ ap (next_lits n) c.deref.ensures.value in
    let outputs_are : c.in_ok-outputs.outputs.items ≡ output_lits n table = c.in_ok-outputs.ensures ∙ ap (output_lits n) c.deref-2.ensures.value in
    let ands_are = c.in_ok-ands.ensures.ands in
    let gates = c.in_ok-ands.ensures.gates in
    let named = c.in_ok-names.ensures in
    let nexts = c.in_ok-nexts.nexts.items in
    let outputs = c.in_ok-outputs.outputs.items in
    let ands = c.in_ok-ands.ands.items in
    let names = c.in_ok-names.names in
    let zero : AllZero n = subst (λ x. AllZero x) (sym q) c.requires.zero in
    let e = c.new.ensures in
    let is : IsMade n g table c.new.result = record {
      ands = ap (λ (a : Circuit). a.ands) e ∙ ands_are;
      inputs = ap (λ (a : Circuit). a.inputs) e ∙ inputs_count n g table nexts outputs ands names made set light done gates nexts_are outputs_are ands_are named.inputs named.latches named.outputs;
      nexts = ap (λ (a : Circuit). a.nexts) e ∙ nexts_are;
      outputs = ap (λ (a : Circuit). a.outputs) e ∙ outputs_are;
    } in
    subst (λ x. SameBits x c.new.result) q (law n c.new.result (mirrors n g table c.new.result made set zero done is))
