use Rattle.safl_opt.proofs.Common.{Sig, cases_eq, sig_at}
use Rattle.std.proofs.Common.{◌+◌, List, ◌∷◌, [], ◌++◌, length, length-append, sym, ap, ◌∙◌, inl, inr, arith}
use Rattle.safl_opt.proofs.Adding.{at_front, at_end}
use Rattle.safl_opt.proofs.build.own_numbers.Goals as goal

pub kept-preserved : goal.kept-preserved
kept-preserved c =
    let xs = c.kept.made.items in
    let s : Sig = record { 0 = c.kept.i } in
    let l = c.kept.invariant.long in
    record {
      long = let e = ap length c.in_ok-push.ensures.items in let a = length-append xs (s ∷ []) in omega (arith, e, l, a);
      own = λ x lt. ap (λ (zs : List Sig). sig_at zs x) c.in_ok-push.ensures.items ∙ elim (cases_eq x c.kept.i) [
        | inl same ↦ ap (sig_at (xs ++ s ∷ [])) (same ∙ sym l) ∙ at_end xs s ∙ sym same
        | inr ne ↦ at_front xs (s ∷ []) x (omega (arith, lt, ne, l)) ∙ c.kept.invariant.own x (omega (arith, lt, ne))
      ];
    }
