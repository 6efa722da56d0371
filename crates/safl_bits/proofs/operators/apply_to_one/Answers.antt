use Rattle.std.proofs.Common.{IfOk, length, sym, subst}
use Rattle.std.proofs.lemmas.Result.{IfOk-weaker}
use Rattle.safl_bits.specs.Results.{MakesOne, MayTake}
use Rattle.safl_bits.proofs.Applied.{not_makes, cut_makes}
use Rattle.safl_bits.proofs.Moving.{if_three}
use Rattle.safl_bits.proofs.operators.apply_to_one.Goals as goal

pub returns-in-Not : goal.returns-in-Not
returns-in-Not c = record {
  made = λ g h. subst (λ p. IfOk c.complement.result (λ r. MakesOne p c.args.a.now g r.items)) (sym c.in-Not.is)
      (let t = subst (λ p. MayTake p (length c.args.a.now)) c.in-Not.is c.requires.taken in
      if_three c.complement.result _ _ _ _ (c.complement.ensures.fits g h) c.complement.ensures.long c.complement.ensures.value (λ r f l v. not_makes g c.args.a.now r.items t.0 t.1 f l v));
}

pub returns-in-Bits : goal.returns-in-Bits
returns-in-Bits c = record {
  made = λ g h. subst (λ p. IfOk c.from_slice.result (λ r. MakesOne p c.args.a.now g r.items)) (sym c.in-Bits.is)
      (let t = subst (λ p. MayTake p (length c.args.a.now)) c.in-Bits.is c.requires.taken in
      IfOk-weaker c.from_slice.result _ _ (λ r e. cut_makes g c.args.a.now r.items c.in-Bits.high c.in-Bits.low t.0 t.1 t.2 h e) c.from_slice.ensures.items);
}
