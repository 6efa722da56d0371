use Rattle.safl_evaluate.proofs.Common.{back_at, nil_from_length, shown_term, shown_terms}
use Rattle.std.proofs.Common.{rules, ◌≡◌, ◌<◌, ◌∷◌, [], List, Some, take, drop, length, refl, sym, ap, ◌∙◌, arith}
use Rattle.safl_term.specs.declared.term.Term as declared
use Rattle.safl_evaluate.proofs.AnswersByParts as step
use Rattle.safl_evaluate.proofs.LooksByParts as part
use Rattle.safl_evaluate.proofs.LooksByParts.{look_all_is, look_all_at}
use Rattle.safl_evaluate.proofs.LooksWhole as whole
use Rattle.safl_evaluate.proofs.LooksWhole.{finds_all_is}
use Rattle.safl_evaluate.proofs.evaluate.+are_known.Goals as goal

pub returns-in_default-clause-finds : goal.returns-in_default-clause-finds
returns-in_default-clause-finds t c = λ known.
    let e : c.args.ts.now ≡ [] = nil_from_length c.args.ts.now c.in_default.ensures.cases in
    finds_all_is (ap shown_terms e) (whole.finds_nil (ap (λ (x : List declared.Term). Some (take (length x) (drop c.args.to c.args.env.now))) (sym e)))

pub is_known-requires-clause-may : goal.is_known-requires-clause-may
is_known-requires-clause-may t c = part.may_first (look_all_is (ap shown_terms c.in-Some.ensures.cases.0) c.requires.may)

pub are_known-requires : goal.are_known-requires
are_known-requires t c =
    let e : c.args.ts.now ≡ c.in-Some.first.now ∷ c.in-Some.rest.now = c.in-Some.ensures.cases.0 in
    let long = ap (λ (x : List declared.Term). length x) e in
    let h = look_all_is (ap shown_terms e) c.requires.may in
    let kept = step.take_fewer c.is_known.new.env c.args.env.now c.args.spot.slots c.args.to c.requires.after c.is_known.ensures.kept in (
      search rules,
      (
        look_all_at c.after.ensures.slots refl c.after.ensures.news (part.may_rest refl (omega (arith, c.is_known.auto.env)) refl kept h
            (c.is_known.ensures.finds c.if-is_known.true) (c.after.ensures.at ∙ part.after_first h)),
        (omega (arith, long, c.requires.places, c.is_known.auto.env), omega (arith, c.requires.after, c.after.ensures.slots)),
      ),
    )

pub returns-then-is_known-clause-finds : goal.returns-then-is_known-clause-finds
returns-then-is_known-clause-finds t c = λ known.
    let B = back_at c.args.facts.now.stages.now in
    let E = take c.args.spot.slots c.args.env.now in
    let e : c.args.ts.now ≡ c.in-Some.first.now ∷ c.in-Some.rest.now = c.in-Some.ensures.cases.0 in
    let long = ap (λ (x : List declared.Term). length x) e in
    let h = look_all_is (ap shown_terms e) c.requires.may in
    let kept = step.take_fewer c.is_known.new.env c.args.env.now c.args.spot.slots c.args.to c.requires.after c.is_known.ensures.kept in
    let ft = c.is_known.ensures.finds c.if-is_known.true in
    let fs = whole.finds_all_slots c.after.ensures.slots refl (c.are_known.ensures.finds known) in
    let within : c.args.to < length c.is_known.new.env = omega (arith, long, c.requires.places, c.is_known.auto.env) in
    let word = step.words_known c.is_known.new.env c.are_known.new.env c.args.to (length c.in-Some.rest.now) refl within c.are_known.ensures.kept in
    let rest = sym (step.answers_is B kept refl) ∙ fs.words in
    finds_all_is (ap shown_terms e) (whole.finds_more h ft kept (c.after.ensures.at ∙ part.after_first h) fs
    (step.answers_more B E _ (shown_term c.in-Some.first.now) word.0 _ (sym word.1 ∙ ft.word) rest ∙ word.2
    ∙ ap (λ n. Some (take n (drop c.args.to c.are_known.new.env))) (sym long)))

pub returns-then-is_known-clause-kept : goal.returns-then-is_known-clause-kept
returns-then-is_known-clause-kept t c =
    step.take_fewer c.are_known.new.env c.is_known.new.env c.args.to _ (omega arith) c.are_known.ensures.kept ∙ c.is_known.ensures.kept
