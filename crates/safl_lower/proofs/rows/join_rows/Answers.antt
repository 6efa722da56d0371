use Rattle.safl_lower.proofs.Common.{entry_in, slice_get_read}
use Rattle.std.proofs.Common.{ℕ, suc, ◌+◌, length, take, slice_get, refl, sym, ap, subst, ◌∙◌, add-one, arith}
use Rattle.std.proofs.lemmas.List.{length-take-le, length_push, take_all}
use Rattle.safl_lower.specs.Rows.{row_in, row_at, total}
use Rattle.safl_lower.proofs.Building.{builds_same, builds_on, builds_within}
use Rattle.safl_lower.proofs.JoinedRows.{total_next, total_front}
use Rattle.safl_lower.proofs.Joints.{row_joined}
use Rattle.safl_lower.proofs.rows.join_rows.Goals as goal

pub loop-i-init : goal.loop-i-init
loop-i-init g c = record {
  built = builds_same c.args.net.now c.args.net.now c.requires.room.tidy refl (total g.J.Joins.gates (take 0 c.args.rows.now));
  count = ap (λ l. length l) c.new-all.ensures.items;
  joined = λ j n k b.
      subst (λ l. g.J.Joins.Joined c.args.net.now n (row_at (take 0 c.args.rows.now) j) (entry_in (slice_get l j))) (sym c.new-all.ensures.items)
      (g.met.J.Joins.joined_none c.args.net.now n);
}

pub join-requires-clause-fits : goal.join-requires-clause-fits
join-requires-clause-fits g c =
    let rows = c.args.rows.now in
    let i = c.loop-i.i in
    let at = slice_get_read rows (length rows) i c.index-rows-i.result refl c.loop-i-test.true c.index-rows-i.is in
    subst (g.J.Joins.Fits c.loop-i.net) (sym (c.deref.ensures.value ∙ sym (ap row_in at)))
    (c.requires.fits i c.loop-i.net (total g.J.Joins.gates (take i rows)) c.loop-i.invariant.built)

pub join-requires-clause-room : goal.join-requires-clause-room
join-requires-clause-room g c =
    let rows = c.args.rows.now in
    let i = c.loop-i.i in
    let at = slice_get_read rows (length rows) i c.index-rows-i.result refl c.loop-i-test.true c.index-rows-i.is in
    let next = total_next g.J.Joins.gates rows i c.index-rows-i.result at in
    let most = total_front g.J.Joins.gates rows (suc i) in
    let own = ap g.J.Joins.gates c.deref.ensures.value in
    let b = c.loop-i.invariant.built.count in
    let r = c.requires.room.room in
    record { tidy = c.loop-i.invariant.built.tidy; room = omega (arith, next, most, own, b, r) }

pub loop-i-preserved : goal.loop-i-preserved
loop-i-preserved g c =
    let start = c.args.net.now in
    let rows = c.args.rows.now in
    let i = c.loop-i.i in
    let row = c.index-rows-i.result in
    let l = c.loop-i-test.true in
    let at = slice_get_read rows (length rows) i row refl l c.index-rows-i.is in
    let next = total_next g.J.Joins.gates rows i row at in
    let own = ap g.J.Joins.gates c.deref.ensures.value in
    let up = ap (λ (k : ℕ). total g.J.Joins.gates (take k rows)) (add-one i) in
    let long = length-take-le i rows (omega (arith, l)) in
    let n = c.loop-i.invariant.count in
    let one = c.in_ok-next.ensures.built in
    record {
      built = builds_within (total g.J.Joins.gates (take (i + 1) rows)) (builds_on c.loop-i.invariant.built one) (omega (arith, next, own, up));
      count = let p = ap (λ l. length l) c.in_ok-push.ensures.items in let q = length_push c.loop-i.all.items c.in_ok-next.next in omega (arith, p, q, n);
      joined = λ j m k b.
          subst (λ (k : ℕ). g.J.Joins.Joined start m (row_at (take k rows) j) (entry_in (slice_get c.push.new.self.items j))) (sym (add-one i))
          (row_joined (g.J.Joins.Joined start m) rows c.loop-i.all.items c.push.new.self.items i row c.in_ok-next.next (g.met.J.Joins.joined_none start m) at (n ∙ sym long)
          (λ h. c.loop-i.invariant.joined h m _ (builds_on one b))
          (subst (λ xs. g.J.Joins.Joined start m xs c.in_ok-next.next) c.deref.ensures.value (c.in_ok-next.ensures.joined start _ c.loop-i.invariant.built m k b)) c.in_ok-push.ensures.items j);
    }

pub returns-clause-built : goal.returns-clause-built
returns-clause-built g c =
    let rows = c.args.rows.now in
    let l = c.loop-i-test.false in
    let all = ap (λ xs. total g.J.Joins.gates xs) (take_all c.loop-i.i rows (omega (arith, l))) in
    builds_within (total g.J.Joins.gates rows) c.loop-i.invariant.built (omega (arith, all))

pub returns-clause-count : goal.returns-clause-count
returns-clause-count g c =
    let l = c.loop-i-test.false in
    let e = c.loop-i.auto.i-end in
    let n = c.loop-i.invariant.count in
    omega (arith, l, e, n)

pub returns-clause-joined : goal.returns-clause-joined
returns-clause-joined g c = λ j.
    let l = c.loop-i-test.false in
    let n = c.loop-i.net in
    subst (λ xs. g.J.Joins.Joined c.args.net.now n (row_at xs j) (entry_in (slice_get c.loop-i.all.items j)))
    (take_all c.loop-i.i c.args.rows.now (omega (arith, l))) (c.loop-i.invariant.joined j n _ (builds_same n n c.loop-i.invariant.built.tidy refl 0))
