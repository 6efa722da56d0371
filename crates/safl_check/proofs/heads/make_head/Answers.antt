use Rattle.safl_check.proofs.Common.{Param, shown_parameters, shown_slots}
use Rattle.std.proofs.Common.{◌∙◌, ℕ, List, map, ap}
use Rattle.safl_typing.specs.Heads.{Slot, Head, slot_of}
use Rattle.safl_check.proofs.heads.make_head.Goals as goal

abbrev head_with : ℕ → ℕ → List ℕ → List Slot → Head
head_with width unit name params = record { name = name; params = params; width = width; unit = unit }

pub returns : goal.returns
returns c =
    let name = c.in_ok-name.ensures.bytes ∙ c.bytes.ensures.bytes in
    let params = c.in_ok-params.ensures ∙ ap (λ (ps : List Param). map slot_of (shown_parameters ps)) c.deref.ensures.value in
    let head = head_with c.args.def.now.width c.args.unit in
    ap (λ (n : List ℕ). head n (shown_slots c.in_ok-params.params.items)) name ∙ ap (λ (ps : List Slot). head c.args.def.now.name ps) params
