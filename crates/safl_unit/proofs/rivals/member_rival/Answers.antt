use Rattle.safl_unit.proofs.Common.{IfOk-weaker, Netlist, Several, Sig, Val, others_on}
use Rattle.std.proofs.Common.{◌≡◌, List, [], ◌∷◌, length, Option, Some, None, Bool, false, ◌&&◌, refl, sym, ap, subst, ◌∙◌, arith}
use Rattle.safl_lower.specs.Joints.{IsSeveralOf, IsSeveralIn}
use Rattle.safl_unit.proofs.rivals.member_rival.Goals as goal

there : (n : Netlist) (row : List Sig) (o : Option Several) (s : Several) → o ≡ Some s → IsSeveralIn n row o → IsSeveralOf n row s
there n row o s e h = subst (IsSeveralIn n row) e h

none_there : (n : Netlist) (row : List Sig) (o : Option Several) → o ≡ None → IsSeveralIn n row o → length row ≡ 0
none_there n row o e h = subst (IsSeveralIn n row) e h

no_bits : (v : Val) (row : List Sig) (own : Option Sig) → length row ≡ 0 → false ≡ others_on v row own
no_bits v [] own e = refl
no_bits v (x ∷ row) own e = absurd (omega (arith, e))

pub returns-in-None-clause-value : goal.returns-in-None-clause-value
returns-in-None-clause-value c = λ row h v w. no_bits v row c.args.own (none_there c.args.net.now row c.args.several.now c.in-None.is h) ∙ ap
    (λ (b : Bool). b && others_on v row c.args.own) (sym c.if-not-many.false)

pub several_rival-requires-clause-several : goal.several_rival-requires-clause-several
several_rival-requires-clause-several c = let b = c.requires.several in (b.0, there c.args.net.now b.0 c.args.several.now c.in-Some.several c.in-Some.is b.1)

pub returns-in-Some-clause-value : goal.returns-in-Some-clause-value
returns-in-Some-clause-value c = λ row h.
    IfOk-weaker c.several_rival.result _ _ (λ o e v w. e v w ∙ ap (λ (b : Bool). b && others_on v row c.args.own) (sym c.if-not-many.false))
    (c.several_rival.ensures.value row (there c.args.net.now row c.args.several.now c.in-Some.several c.in-Some.is h))
