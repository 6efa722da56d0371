use Rattle.safl_unit.proofs.Common.{Sig, builds_on, builds_within, frees, on, row_kept, wired_before}
use Rattle.std.proofs.Common.{suc, ◌+◌, ◌*◌, ◌++◌, List, [], ◌∷◌, Bool, map, length, inl, inr, refl, sym, ap, subst, ◌∙◌, arith}
use Rattle.safl_lower.specs.Heights.{AllWithin, Stands}
use Rattle.safl_lower.proofs.Heights.{all_own, gate_within, within_up}
use Rattle.safl_unit.proofs.arbiters.unit_row.Goals as goal

pub free_before-requires-clause-bits : goal.free_before-requires-clause-bits
free_before-requires-clause-bits c = row_kept c.inverse.ensures.built c.args.wants.now c.requires.wants

pub returns-clause-built : goal.returns-clause-built
returns-clause-built c =
    let l = c.if-wants-eq0.false in
    builds_within (3 * length c.args.wants.now) (builds_on c.inverse.ensures.built c.in_ok-free_before.ensures.built) (omega (arith, l))

pub returns-clause-value : goal.returns-clause-value
returns-clause-value c = λ v w a.
    c.in_ok-free_before.ensures.frees.shows v w ∙ ap (λ (xs : List Sig). map (on v) xs ++ frees v (on v c.in_ok-rests.rests) c.args.wants.now) c.new-row.ensures.items
    ∙ ap (λ (b : Bool). frees v b c.args.wants.now) (c.in_ok-rests.ensures.value v (wired_before c.in_ok-free_before.ensures.built.grows w))

pub returns-clause-long : goal.returns-clause-long
returns-clause-long c = λ a.
    let p = c.in_ok-free_before.ensures.frees.long in
    let q = ap (λ (xs : List Sig). length xs) c.new-row.ensures.items in
    omega (arith, p, q)

pub returns-clause-height : goal.returns-clause-height
returns-clause-height c = λ h few.
    let n = c.inverse.new.net in
    let ws = c.args.wants.now in
    let from = c.args.run ∷ ws in
    let m = 2 * h + 1 in
    let rests = c.in_ok-rests.rests in
    let one = gate_within n from 0 rests (c.args.run ∷ []) c.in_ok-rests.ensures.gate (inl refl, tt) in
    let stands : Stands n from ws rests (suc h) h m = record {
      few = few;
      deep = omega arith;
      room = omega arith;
      bits = all_own n from 0 ws (λ s q. inr q);
      base = within_up n from 1 (suc h) rests.0 (omega arith) one;
    } in
    c.in_ok-free_before.ensures.frees.height from (suc h) h m stands (subst (λ (xs : List Sig). AllWithin n from m xs) (sym c.new-row.ensures.items) tt)
