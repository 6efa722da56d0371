use Rattle.safl_vparse.proofs.Common.{RefusesBytes, VFault, slice_rest}
use Rattle.std.proofs.Common.{refl, sym, subst, arith}
use Rattle.safl_vparse.specs.declared.error.VErr.TheVariants as errors
use Rattle.safl_vparse.proofs.Cuts.{goes_over, takes, token_within, stops_at, whole}
use Rattle.safl_vparse.proofs.lexer.lex.Goals as goal

pub overflow_add-place : goal.overflow_add-place
overflow_add-place c =
    let r = goes_over c.args.text.now _ c.pieces.place c.in-Gap.n c.pieces.tokens.items
    (slice_rest c.args.text.now c.pieces.place c.pieces.invariant.within) c.pieces.invariant.within c.pieces.invariant.cut c.in-Gap.ensures in
    omega (arith, r.0)

pub pieces-preserved-in-Gap : goal.pieces-preserved-in-Gap
pieces-preserved-in-Gap c =
    let r = goes_over c.args.text.now _ c.pieces.place c.in-Gap.n c.pieces.tokens.items
    (slice_rest c.args.text.now c.pieces.place c.pieces.invariant.within) c.pieces.invariant.within c.pieces.invariant.cut c.in-Gap.ensures in
    record { within = r.0; cut = r.1 }

pub overflow_add-place-in-Found : goal.overflow_add-place-in-Found
overflow_add-place-in-Found c =
    let r = token_within c.args.text.now _ c.pieces.place c.in-Found.n c.in-Found.kind (slice_rest c.args.text.now c.pieces.place c.pieces.invariant.within) c.in-Found.ensures in
    omega (arith, r.0, c.pieces-test.true)

pub overflow_cast-place : goal.overflow_cast-place
overflow_cast-place c =
    let r = token_within c.args.text.now _ c.pieces.place c.in-Found.n c.in-Found.kind (slice_rest c.args.text.now c.pieces.place c.pieces.invariant.within) c.in-Found.ensures in
    omega (arith, r.0, c.pieces-test.true)

pub pieces-preserved : goal.pieces-preserved
pieces-preserved c =
    let r = takes c.args.text.now _ c.pieces.place c.in-Found.n c.in-Found.kind c.pieces.tokens.items c.push.new.self.items
    (slice_rest c.args.text.now c.pieces.place c.pieces.invariant.within) c.pieces.invariant.within c.pieces.invariant.cut c.in-Found.ensures
    c.in_ok-push-in-Found.ensures.items in
    record { within = r.0; cut = r.1 }

pub pieces-smaller-in-Gap : goal.pieces-smaller-in-Gap
pieces-smaller-in-Gap c =
    let r = goes_over c.args.text.now _ c.pieces.place c.in-Gap.n c.pieces.tokens.items
    (slice_rest c.args.text.now c.pieces.place c.pieces.invariant.within) c.pieces.invariant.within c.pieces.invariant.cut c.in-Gap.ensures in
    omega (arith, r.0, r.2, c.pieces-test.true)

pub pieces-smaller : goal.pieces-smaller
pieces-smaller c =
    let r = token_within c.args.text.now _ c.pieces.place c.in-Found.n c.in-Found.kind (slice_rest c.args.text.now c.pieces.place c.pieces.invariant.within) c.in-Found.ensures in
    omega (arith, r.0, r.1, c.pieces-test.true)

pub returns-in-Stuck-clause-refused : goal.returns-in-Stuck-clause-refused
returns-in-Stuck-clause-refused c =
    let stuck = stops_at c.args.text.now _ c.pieces.place c.pieces.tokens.items (slice_rest c.args.text.now c.pieces.place c.pieces.invariant.within)
    c.pieces-test.true c.pieces.invariant.cut c.in-Stuck.ensures in
    subst (λ (f : VFault). RefusesBytes c.args.text.now (errors.Refused f)) (sym c.new.ensures) (stuck, refl)

pub returns-clause-tokens : goal.returns-clause-tokens
returns-clause-tokens c = whole c.args.text.now c.pieces.place c.pieces.tokens.items c.pieces-test.false c.pieces.invariant.cut
