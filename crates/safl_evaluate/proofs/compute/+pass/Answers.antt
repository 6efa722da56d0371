use Rattle.safl_evaluate.proofs.Common.{nil_from_length, shown_terms}
use Rattle.std.proofs.Common.{rules, ◌≡◌, ◌<◌, List, length, ◌∷◌, [], refl, sym, ap, arith}
use Rattle.safl_term.specs.declared.term.Term as declared
use Rattle.safl_evaluate.proofs.PlainByParts as part
use Rattle.safl_evaluate.proofs.PlainByParts.{compute_all_is, passes_is}
use Rattle.safl_evaluate.proofs.compute.+pass.Goals as goal

pub pass_one-requires-clause-can : goal.pass_one-requires-clause-can
pass_one-requires-clause-can t c =
    let e : c.args.ts.now ≡ c.in-Some.first.now ∷ c.in-Some.rest.now = c.in-Some.ensures.cases.0 in
    part.compute_first (compute_all_is (ap shown_terms e) c.requires.can)

pub pass_one-requires-clause-room : goal.pass_one-requires-clause-room
pass_one-requires-clause-room t c =
    let e : c.args.ts.now ≡ c.in-Some.first.now ∷ c.in-Some.rest.now = c.in-Some.ensures.cases.0 in
    part.room_first (ap (λ (x : List declared.Term). length x) e) c.requires.room

pub pass-requires : goal.pass-requires
pass-requires t c =
    let e : c.args.ts.now ≡ c.in-Some.first.now ∷ c.in-Some.rest.now = c.in-Some.ensures.cases.0 in
    let long = ap (λ (x : List declared.Term). length x) e in
    let smaller : length c.in-Some.rest.now < length c.args.ts.now = omega (arith, long) in (
      search rules,
      (
        part.compute_rest (omega (arith, c.pass_one.auto.env)) c.pass_one.ensures.kept (compute_all_is (ap shown_terms e) c.requires.can),
        part.room_rest c.pass_one.ensures.told long c.requires.room,
      ),
    )

pub returns : goal.returns
returns t c =
    let e : c.args.ts.now ≡ c.in-Some.first.now ∷ c.in-Some.rest.now = c.in-Some.ensures.cases.0 in
    passes_is refl (ap shown_terms e) (part.passes_more c.pass_one.ensures.told (passes_is (sym c.pass_one.ensures.kept) refl c.pass.ensures))

pub returns-in_default : goal.returns-in_default
returns-in_default t c =
    let e : c.args.ts.now ≡ [] = nil_from_length c.args.ts.now c.in_default.ensures.cases in
    passes_is refl (ap shown_terms e) part.passes_none
