use Rattle.std.proofs.Common.{[], ◌∷◌, ◌++◌, map, string_bytes, ap, ◌∙◌, arith}
use Rattle.std.proofs.lemmas.List.{map_push}
use Rattle.safl_tool.proofs.Naming.{get_index, wire_known, names_more, names_all}
use Rattle.safl_tool.proofs.run_file.names_of.Goals as goal

pub name-requires : goal.name-requires
name-requires c = wire_known c.args.net.now c.args.wires.now c.wires.i _ c.requires (get_index c.args.wires.now c.wires.i c.wires-test.true)

pub wires-preserved : goal.wires-preserved
wires-preserved c =
    names_more c.args.net.now c.args.wires.now c.wires.i _ (map string_bytes c.wires.names.items) _ (get_index c.args.wires.now c.wires.i c.wires-test.true) c.wires.invariant
    (ap (map string_bytes) c.in_ok-push.ensures.items ∙ map_push string_bytes c.wires.names.items c.in_ok-name.name ∙ ap
    (λ x. map string_bytes c.wires.names.items ++ (x ∷ [])) (c.in_ok-name.ensures.ok ∙ c.name.ensures))

pub returns : goal.returns
returns c = names_all c.args.net.now c.args.wires.now c.wires.i _ (let a = c.wires-test.false in let b = c.wires.auto.i-end in omega (arith, a, b)) c.wires.invariant
