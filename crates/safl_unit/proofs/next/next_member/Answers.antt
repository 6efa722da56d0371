use Rattle.safl_unit.proofs.Common.{AreSources, List, Sig, ap, arith, builds_on, builds_within, length, maybe_load_kept, source_kept}
use Rattle.safl_unit.proofs.Common.{sources_kept, subst, sym, taken_in, unwrap_or, wired_before, words, ◌*◌, ◌+◌, ◌∙◌}
use Rattle.safl_unit.proofs.next.next_member.Goals as goal

pub next_at-requires-clause-at : goal.next_at-requires-clause-at
next_at-requires-clause-at c = let b = c.requires.fits in b.3.at

pub reset_words-requires-clause-settled : goal.reset_words-requires-clause-settled
reset_words-requires-clause-settled c = c.in_ok-at.ensures.built.settles.settled c.requires.settled

pub reset_words-requires-clause-fits : goal.reset_words-requires-clause-fits
reset_words-requires-clause-fits c =
    let b = c.requires.fits in
    let h = c.in_ok-at.ensures.built in (
      b.0,
      maybe_load_kept h c.args.load.now b.0 b.1,
      maybe_load_kept h c.args.looped.now b.0 b.2,
      subst (λ (xs : List Sig). AreSources c.next_at.new.net xs b.0) (sym c.deref.ensures.value) (sources_kept h b.3.args),
    )

pub reset_words-requires-clause-room : goal.reset_words-requires-clause-room
reset_words-requires-clause-room c =
    let d = ap (λ (xs : List Sig). length xs) c.deref.ensures.value in
    let k = c.in_ok-at.ensures.built.count in
    let r = c.requires.room.room in
    record { tidy = c.in_ok-at.ensures.built.tidy; room = omega (arith, d, k, r) }

pub returns-clause-built : goal.returns-clause-built
returns-clause-built c =
    let d = ap (λ (xs : List Sig). length xs) c.deref.ensures.value in
    builds_within (3 + 62 * length c.args.member.now.args.items) (builds_on c.in_ok-at.ensures.built c.in_ok-args.ensures.built) (omega (arith, d))

pub returns-clause-fits : goal.returns-clause-fits
returns-clause-fits c = λ ws p q m.
    let h = c.in_ok-at.ensures.built in
    record {
      at = source_kept c.in_ok-args.ensures.built c.in_ok-at.ensures.fits;
      args = c.in_ok-args.ensures.fits ws (maybe_load_kept h c.args.load.now ws p) (maybe_load_kept h c.args.looped.now ws q)
          (subst (λ (xs : List Sig). AreSources c.next_at.new.net xs ws) (sym c.deref.ensures.value) (sources_kept h m.args));
    }

pub returns-clause-shows : goal.returns-clause-shows
returns-clause-shows c = λ v w.
    record {
      at = c.in_ok-at.ensures.value v (wired_before c.in_ok-args.ensures.built.grows w);
      args = c.in_ok-args.ensures.shows v w
          ∙ ap (λ (xs : List Sig). unwrap_or (taken_in v c.args.load.now) (unwrap_or (taken_in v c.args.looped.now) (words v xs))) c.deref.ensures.value;
    }
