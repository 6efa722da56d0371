use Rattle.std.proofs.Common.{[], ◌∷◌, length, IfOk, sym, subst, ap, ◌∙◌}
use Rattle.std.proofs.lemmas.Result.{IfOk-weaker}
use Rattle.safl_net.specs.Widths.{op_width}
use Rattle.safl_aig.specs.Tables.{OpMade}
use Rattle.safl_aig.proofs.Cells.{may_take, one_applied}
use Rattle.safl_aig.proofs.wires.one_made.Goals as goal

pub apply_to_one-requires : goal.apply_to_one-requires
apply_to_one-requires c =
    let a = c.args.a.now in
    let t = c.requires.taken in
    let e = sym (ap (λ o. op_width o (length a ∷ [])) c.in-Apply.is) ∙ t.1 in
    record { taken = may_take c.in-Apply.p (length a) t.0 e }

pub returns-in-Apply : goal.returns-in-Apply
returns-in-Apply c =
    let a = c.args.a.now in
    let g = c.args.g.now in
    let t = c.requires.taken in
    let e = sym (ap (λ o. op_width o (length a ∷ [])) c.in-Apply.is) ∙ t.1 in
    record {
      made = subst (λ o. IfOk c.apply_to_one.result (λ r. OpMade o (a ∷ []) g r.items)) (sym c.in-Apply.is)
          (IfOk-weaker c.apply_to_one.result _ _ (λ r h. one_applied c.in-Apply.p a r.items g t.0 e h) (c.apply_to_one.ensures.made g c.requires.word));
    }
