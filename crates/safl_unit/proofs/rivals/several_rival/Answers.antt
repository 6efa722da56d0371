use Rattle.safl_unit.proofs.Common.{Sig, builds_on, false≢true, maybe_bit_kept, on, on_any, on_two, others_on, wired_before}
use Rattle.std.proofs.Common.{◌≡◌, Option, Bool, true, false, not, ◌&&◌, ◌||◌, refl, ap, sym, ◌∙◌}
use Rattle.safl_lower.proofs.JoinedRows.{two_any}
use Rattle.safl_unit.proofs.rivals.several_rival.Goals as goal

no_own : (t a : Bool) → (t && not a) ≡ false → a ≡ (t || (a && not false))
no_own true true h = refl
no_own true false h = absurd (false≢true (sym h))
no_own false true h = refl
no_own false false h = refl

pub returns-in-None-clause-fits : goal.returns-in-None-clause-fits
returns-in-None-clause-fits c = c.requires.several.1.any_fits

pub returns-in-None-clause-value : goal.returns-in-None-clause-value
returns-in-None-clause-value c = λ row h v w. h.any_shows v w ∙ no_own (on_two v row) (on_any v row) (two_any v row) ∙ ap (λ (o : Option Sig). others_on v row o) (sym c.in-None.is)

pub and_not-requires-clause-first : goal.and_not-requires-clause-first
and_not-requires-clause-first c = c.requires.several.1.any_fits

pub or_some-requires-clause-first : goal.or_some-requires-clause-first
or_some-requires-clause-first c = maybe_bit_kept c.in_ok-others-in-Some.ensures.built c.args.several.two c.requires.several.1.two_fits

pub returns-in_ok-rival-in-Some-clause-value : goal.returns-in_ok-rival-in-Some-clause-value
returns-in_ok-rival-in-Some-clause-value c = λ row h v w.
    let w1 = wired_before c.in_ok-rival-in-Some.ensures.built.grows w in
    let w0 = wired_before c.in_ok-others-in-Some.ensures.built.grows w1 in
    c.in_ok-rival-in-Some.ensures.value v w ∙ ap (λ (b : Bool). b || on v c.in_ok-others-in-Some.others) (h.two_shows v w0) ∙ ap
    (λ (b : Bool). on_two v row || b) (c.in_ok-others-in-Some.ensures.value v w1)
    ∙ ap (λ (b : Bool). on_two v row || (b && not (on v c.in-Some.own))) (h.any_shows v w0) ∙ ap (λ (o : Option Sig). others_on v row o) (sym c.in-Some.is)

pub returns-in_ok-rival-in-Some-clause-built : goal.returns-in_ok-rival-in-Some-clause-built
returns-in_ok-rival-in-Some-clause-built c = builds_on c.in_ok-others-in-Some.ensures.built c.in_ok-rival-in-Some.ensures.built
