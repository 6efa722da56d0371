use Rattle.safl_lower.proofs.Common.{AreSources, Sig, on, wired_before, words}
use Rattle.std.proofs.Common.{◌+◌, List, [], ◌∷◌, length, subst, sym, ap, ◌∙◌, arith, cond}
use Rattle.safl_lower.proofs.Building.{builds_on, builds_within, source_kept, sources_kept}
use Rattle.safl_lower.proofs.Joining.{first_fits, as_many, joined_shows}
use Rattle.safl_lower.proofs.Heights.{gate_kept, joined_within, alone_load}
use Rattle.safl_lower.proofs.loads.joined.Goals as goal

pub mux_all-requires-clause-branches : goal.mux_all-requires-clause-branches
mux_all-requires-clause-branches c =
    let b = c.requires.fits in
    let f = first_fits c.in-Some.is b.1 in
    (b.0, subst (λ (xs : List Sig). AreSources c.either.new.net xs b.0) (sym c.deref.ensures.value) (sources_kept c.either.ensures.built f.words), sources_kept c.either.ensures.built b.2)

pub mux_all-requires-clause-room : goal.mux_all-requires-clause-room
mux_all-requires-clause-room c =
    let b = c.requires.fits in
    let e = as_many (first_fits c.in-Some.is b.1).words b.2 in
    let d = ap (λ (xs : List Sig). length xs) c.deref.ensures.value in
    let k = c.either.ensures.built.count in
    let r = c.requires.room.room in
    record { tidy = c.either.ensures.built.tidy; room = omega (arith, e, d, k, r) }

pub returns-in_err-words-in-Some-clause-built : goal.returns-in_err-words-in-Some-clause-built
returns-in_err-words-in-Some-clause-built c =
    let b = c.requires.fits in
    let e = as_many (first_fits c.in-Some.is b.1).words b.2 in
    let d = ap (λ (xs : List Sig). length xs) c.deref.ensures.value in
    builds_within (1 + length c.args.operands.now) (builds_on c.either.ensures.built c.mux_all.ensures.built) (omega (arith, e, d))

pub returns-in_ok-words-in-Some-clause-built : goal.returns-in_ok-words-in-Some-clause-built
returns-in_ok-words-in-Some-clause-built c =
    let b = c.requires.fits in
    let e = as_many (first_fits c.in-Some.is b.1).words b.2 in
    let d = ap (λ (xs : List Sig). length xs) c.deref.ensures.value in
    builds_within (1 + length c.args.operands.now) (builds_on c.either.ensures.built c.mux_all.ensures.built) (omega (arith, e, d))

pub returns-in_ok-words-in-Some-clause-fits : goal.returns-in_ok-words-in-Some-clause-fits
returns-in_ok-words-in-Some-clause-fits c = λ ws p q. record {
  bit = source_kept c.mux_all.ensures.built c.in_ok-any-in-Some.ensures.fits;
  words = c.in_ok-words-in-Some.ensures.fits ws
      (subst (λ (xs : List Sig). AreSources c.either.new.net xs ws) (sym c.deref.ensures.value) (sources_kept c.either.ensures.built (first_fits c.in-Some.is p).words))
      (sources_kept c.either.ensures.built q);
}

pub returns-in_ok-words-in-Some-clause-shows : goal.returns-in_ok-words-in-Some-clause-shows
returns-in_ok-words-in-Some-clause-shows c = λ v w.
    let b = wired_before c.mux_all.ensures.built.grows w in
    joined_shows v c.in_ok-any-in-Some.any c.args.bit (words v c.in_ok-words-in-Some.words.items) (words v c.args.operands.now) c.args.load.now c.in-Some.first c.in-Some.is
    (c.in_ok-any-in-Some.ensures.value v b)
    (c.in_ok-words-in-Some.ensures.value v w ∙ ap (λ (xs : List Sig). cond (on v c.in-Some.first.bit) (words v xs) (words v c.args.operands.now)) c.deref.ensures.value)

pub returns-in_ok-words-in-None-clause-height : goal.returns-in_ok-words-in-None-clause-height
returns-in_ok-words-in-None-clause-height c = alone_load c.args.net.now c.args.load.now c.args.bit c.args.operands.now
    c.in_ok-words-in-None.words.items c.in-None.is c.in_ok-words-in-None.ensures.items

pub returns-in_ok-words-in-Some-clause-height : goal.returns-in_ok-words-in-Some-clause-height
returns-in_ok-words-in-Some-clause-height c =
    joined_within c.mux_all.new.net c.args.load.now c.in-Some.first c.args.bit c.in_ok-any-in-Some.any c.args.operands.now c.deref.result.now
    c.in_ok-words-in-Some.words.items c.in-Some.is c.deref.ensures.value
    (gate_kept c.mux_all.ensures.built c.in_ok-any-in-Some.any (c.in-Some.first.bit ∷ c.args.bit ∷ []) c.in_ok-any-in-Some.ensures.gate) c.in_ok-words-in-Some.ensures.height
