use Rattle.std.proofs.Common.{◌≡◌, ◌/◌, ◌<◌, length, set, get_or, refl, ap, ◌∙◌, arith}
use Rattle.std.proofs.lemmas.List.{get_or_read}
use Rattle.safl_number_set.proofs.LinkedBlocks.{linked_alone}
use Rattle.safl_number_set.proofs.links.link.Goals as goal
use Rattle.safl_number_set.proofs.links.link.Goals.{else-head-group-via-then-head-group+else-head-k, else-head-group-via-else-head-group}

pub returns-clause-linked : goal.returns-clause-linked
returns-clause-linked c =
    let G = c.args.group.now in
    let l = c.args.links.now in
    let k = c.args.k in
    let head : c.index-head.result.now ≡ get_or l.heads.items (get_or G k 0) 0 = get_or_read l.heads.items _ _
    (c.requires.below k c.requires.number) c.index-head.ensures 0 in
    let apart : get_or l.heads.items (get_or G k 0) 0 < length G → get_or l.heads.items (get_or G k 0) 0 / 32 ≡ k / 32
    → ⊥ = λ number block. elim c.else-head-group.branch [
      | else-head-group-via-then-head-group+else-head-k w ↦ w.if-head-k.false (ap (λ x. x / 32) head ∙ block)
      | else-head-group-via-else-head-group w ↦ absurd (omega (arith, w.if-head-group.false, number, head))
    ] in
    linked_alone G l _ k k c.requires.number c.requires.below c.requires.linked refl apart refl refl (ap (λ x. set l.nexts.items k x) head)
