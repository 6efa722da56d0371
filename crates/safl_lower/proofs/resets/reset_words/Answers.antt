use Rattle.safl_lower.proofs.Common.{Always, AreSources, Sig, Word, get_index, take_next, unwrap_or, wired_before, word_in, words}
use Rattle.std.proofs.Common.{ℕ, ◌+◌, ◌*◌, List, [], ◌∷◌, ◌++◌, take, slice_index_or, ap, sym, subst, ◌∙◌, arith}
use Rattle.std.proofs.lemmas.List.{take_all, length-map}
use Rattle.safl_lower.specs.Tables.{taken_in}
use Rattle.safl_lower.proofs.Building.{source_kept, sources_kept, builds_on, builds_within}
use Rattle.safl_lower.proofs.KnownLoads.{maybe_load_kept}
use Rattle.safl_lower.proofs.Cells.{source_at, sources_length, sources_more}
use Rattle.safl_lower.proofs.Zeroing.{when_ready, always_shaped, loaded_at, loaded_long, mapped, words_end}
use Rattle.safl_lower.proofs.resets.reset_words.Goals as goal

abbrev nothing : Sig
nothing = record { 0 = 0 }

pub loaded-requires-clause-fits : goal.loaded-requires-clause-fits
loaded-requires-clause-fits c =
    let b = c.requires.fits in
    let i = c.loop-i.i in
    let xs = c.args.operands.now in
    let h = c.loop-i.invariant.built in
    let o = source_at c.args.net.now xs b.0 i (slice_index_or xs i nothing) b.3 (get_index xs i nothing c.loop-i-test.true) in
    let e = c.word_of-now.ensures in (
      b.0,
      o.0,
      maybe_load_kept h c.args.looped.now b.0 b.2,
      o.1,
      always_shaped c.loop-i.net c.word_of-now.result (slice_index_or xs i nothing) o.0 e.ready e.value (source_kept h o.2),
    )

pub last_word-requires-clause-fits : goal.last_word-requires-clause-fits
last_word-requires-clause-fits c =
    let b = c.requires.fits in
    let i = c.loop-i.i in
    let xs = c.args.operands.now in
    let h = c.loop-i.invariant.built in
    let o = source_at c.args.net.now xs b.0 i (slice_index_or xs i nothing) b.3 (get_index xs i nothing c.loop-i-test.true) in
    let e = c.word_of-now.ensures in
    let now = always_shaped c.loop-i.net c.word_of-now.result (slice_index_or xs i nothing) o.0 e.ready e.value (source_kept h o.2) in
    let k = c.in_ok-kept.ensures in (
      b.0,
      o.0,
      maybe_load_kept (builds_on h k.built) c.args.load.now b.0 b.1,
      o.1,
      k.shape b.0 o.0 (maybe_load_kept h c.args.looped.now b.0 b.2) o.1 now,
      source_kept (builds_on h k.built) o.2,
    )

pub loop-i-preserved : goal.loop-i-preserved
loop-i-preserved c =
    let i = c.loop-i.i in
    let xs = c.args.operands.now in
    let j = c.loop-i.invariant in
    let h = j.built in
    let k = c.in_ok-kept.ensures in
    let r = c.in_ok-word.ensures in
    let s = slice_index_or xs i nothing in
    let here = get_index xs i nothing c.loop-i-test.true in
    let back = builds_on k.built r.built in
    let items = c.in_ok-push.ensures.items in
    let e = c.word_of-now.ensures in
    record {
      built = builds_within (62 * (i + 1)) (builds_on h back) (omega arith);
      fits = λ ws p q m.
          let o = source_at c.args.net.now xs ws i s m here in
          let now = always_shaped c.loop-i.net c.word_of-now.result s o.0 e.ready e.value (source_kept h o.2) in
          let kept = k.shape ws o.0 (maybe_load_kept h c.args.looped.now ws q) o.1 now in
          let first = maybe_load_kept (builds_on h k.built) c.args.load.now ws p in
          subst (λ (ys : List Sig). AreSources c.last_word.new.net ys (take (i + 1) ws)) (sym items)
          (sources_more c.last_word.new.net c.loop-i.all.items ws i c.in_ok-word.word o.0 (sources_kept back (j.fits ws p q m)) o.1
          (r.fits ws o.0 first o.1 kept (source_kept (builds_on h k.built) o.2)));
      shows = λ v u.
          let b = c.requires.fits in
          let o = source_at c.args.net.now xs b.0 i s b.3 here in
          let u1 = wired_before r.built.grows u in
          let u0 = wired_before k.built.grows u1 in
          let first = maybe_load_kept (builds_on h k.built) c.args.load.now b.0 b.1 in
          let later = maybe_load_kept h c.args.looped.now b.0 b.2 in
          let now = when_ready v o.0 c.word_of-now.result Always e.ready ∙ ap (λ (x : Sig). v x.0) e.value in
          let word =
          r.value b.0 o.0 first o.1 (source_kept (builds_on h k.built) o.2) v u
          ∙ ap (λ (x : Word). word_in v c.args.load.now i x) (k.value b.0 o.0 later o.1 v u1 ∙ ap (λ (x : Word). word_in v c.args.looped.now i x) now) in
          let at =
          loaded_at c.args.net.now v c.args.load.now b.0 (unwrap_or (taken_in v c.args.looped.now) (words v xs)) i o.0
          (word_in v c.args.looped.now i (v s.0)) b.1 o.1
          (loaded_at c.args.net.now v c.args.looped.now b.0 (words v xs) i o.0 (v s.0) b.2 o.1 (mapped v xs i c.loop-i-test.true)) in
          let all = unwrap_or (taken_in v c.args.load.now) (unwrap_or (taken_in v c.args.looped.now) (words v xs)) in
          ap (words v) items ∙ words_end v c.loop-i.all.items c.in_ok-word.word ∙ ap (λ (l : List Word). l ++ v c.in_ok-word.word.0 ∷ []) (j.shows v u0)
          ∙ ap (λ (x : Word). take i all ++ x ∷ []) word ∙ sym (take_next all i (word_in v c.args.load.now i (word_in v c.args.looped.now i (v s.0))) at);
    }

pub returns-clause-fits : goal.returns-clause-fits
returns-clause-fits c = λ ws p q m.
    let l = c.loop-i-test.false in
    let e = sources_length c.args.net.now c.args.operands.now ws m in
    subst (λ (us : List ℕ). AreSources c.loop-i.net c.loop-i.all.items us) (take_all c.loop-i.i ws (omega (arith, e, l))) (c.loop-i.invariant.fits ws p q m)

pub returns-clause-shows : goal.returns-clause-shows
returns-clause-shows c = λ v u.
    let b = c.requires.fits in
    let n = c.args.net.now in
    let xs = c.args.operands.now in
    let l = c.loop-i-test.false in
    let e = sources_length n xs b.0 b.3 in
    let inner = loaded_long n v c.args.looped.now b.0 (words v xs) b.2 (length-map xs (λ (s : Sig). v s.0) ∙ e) in
    let long = loaded_long n v c.args.load.now b.0 (unwrap_or (taken_in v c.args.looped.now) (words v xs)) b.1 inner in
    c.loop-i.invariant.shows v u
    ∙ take_all c.loop-i.i (unwrap_or (taken_in v c.args.load.now) (unwrap_or (taken_in v c.args.looped.now) (words v xs))) (omega (arith, e, l, long))
