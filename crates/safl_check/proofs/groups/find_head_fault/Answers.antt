use Rattle.safl_check.proofs.Common.{Fault, earlier, length-map, shown_definition, shown_definitions}
use Rattle.std.proofs.Common.{◌<◌, ◌∙◌, length, Option, Some, is_some, ap, sym, arith}
use Rattle.std.specs.Prelude.{ℕ}
use Rattle.safl_check.proofs.EarlierNames.{head_shown, head_named, head_other, head_same}
use Rattle.safl_check.proofs.SameNames.{namesake}
use Rattle.safl_check.proofs.Remaining.{as_many_heads}
use Rattle.safl_check.proofs.groups.find_head_fault.Goals as goal

pub before-namesake-requires : goal.before-namesake-requires
before-namesake-requires c = omega (arith, c.requires.number, as_many_heads (shown_definitions c.args.defs.now) c.args.all_heads.now c.requires.heads, length-map c.args.defs.now shown_definition)

pub returns-then-is_some : goal.returns-then-is_some
returns-then-is_some c =
    let lt : c.args.number < length c.args.all_heads.now = omega (
      arith,
      c.requires.number,
      as_many_heads (shown_definitions c.args.defs.now) c.args.all_heads.now c.requires.heads,
      length-map c.args.defs.now
          shown_definition,
    ) in
    let same = namesake c.args.all_heads.now c.args.defs.now c.args.number c.index-defs-number.result c.requires.heads lt c.requires.number c.index-defs-number.is in
    let named = sym same ∙ sym (ap (λ (o : Option ℕ). is_some o) c.before-namesake.ensures) ∙ sym c.is_some.ensures ∙ c.if-is_some.true in
    head_shown c.args.defs.now c.args.number c.args.width c.index-defs-number.result _ c.requires.number c.index-defs-number.is
    (ap (λ (f : Fault). Some f) c.fault_at.ensures ∙ sym (head_named (earlier (shown_definitions c.args.defs.now) c.args.number) c.args.width (shown_definition c.index-defs-number.result) named))

pub returns-then-def-width : goal.returns-then-def-width
returns-then-def-width c =
    let lt : c.args.number < length c.args.all_heads.now = omega (
      arith,
      c.requires.number,
      as_many_heads (shown_definitions c.args.defs.now) c.args.all_heads.now c.requires.heads,
      length-map c.args.defs.now
          shown_definition,
    ) in
    let same = namesake c.args.all_heads.now c.args.defs.now c.args.number c.index-defs-number.result c.requires.heads lt c.requires.number c.index-defs-number.is in
    let new = sym same ∙ sym (ap (λ (o : Option ℕ). is_some o) c.before-namesake.ensures) ∙ sym c.is_some.ensures ∙ c.if-is_some.false in
    let other = head_other (earlier (shown_definitions c.args.defs.now) c.args.number) c.args.width (shown_definition c.index-defs-number.result)
    c.from.result c.from-found.result new c.if-def-width.true c.from.ensures c.from-found.ensures in
    head_shown c.args.defs.now c.args.number c.args.width c.index-defs-number.result _ c.requires.number c.index-defs-number.is
    (ap (λ (f : Fault). Some f) c.fault_at-then-def-width.ensures ∙ sym other)

pub returns : goal.returns
returns c =
    let lt : c.args.number < length c.args.all_heads.now = omega (
      arith,
      c.requires.number,
      as_many_heads (shown_definitions c.args.defs.now) c.args.all_heads.now c.requires.heads,
      length-map c.args.defs.now
          shown_definition,
    ) in
    let same = namesake c.args.all_heads.now c.args.defs.now c.args.number c.index-defs-number.result c.requires.heads lt c.requires.number c.index-defs-number.is in
    let new = sym same ∙ sym (ap (λ (o : Option ℕ). is_some o) c.before-namesake.ensures) ∙ sym c.is_some.ensures ∙ c.if-is_some.false in
    head_shown c.args.defs.now c.args.number c.args.width c.index-defs-number.result _ c.requires.number c.index-defs-number.is
    (c.find_repeated_param.ensures ∙ sym (head_same (earlier (shown_definitions c.args.defs.now) c.args.number) c.args.width (shown_definition c.index-defs-number.result) new c.if-def-width.false))
