use Rattle.safl_unit.proofs.Common.{AreBits, CheckedProgram, IsBitIn, Several, Sig, Val, bit_joins, builds_on, builds_same, builds_within}
use Rattle.safl_unit.proofs.Common.{entry_in, many, maybe_bit_kept, on_from, row_at, slice_get-get_or, slice_get_read, total}
use Rattle.std.proofs.Common.{◌≡◌, ℕ, ◌+◌, ◌*◌, ◌&&◌, List, length, Vec, Global, Option, None, slice_index_or, refl, sym, ap, subst, ◌∙◌, arith}
use Rattle.safl_lower.specs.Joints.{IsSeveralIn}
use Rattle.safl_lower.proofs.Joints.{several_in_kept}
use Rattle.safl_unit.specs.Edges.{one_below, entry_row, others_on, rival, ShowsBelow}
use Rattle.safl_unit.proofs.equations.Others.{entries_fit, rivals_are, below_none_yet, below_one_more}
use Rattle.safl_unit.proofs.rivals.function_rivals.Goals as goal

pub join_several-requires-clause-fits : goal.join_several-requires-clause-fits
join_several-requires-clause-fits c = λ u.
    let C = c.args.p.now.program in
    let n = c.args.net.now in
    subst (λ (rows : List (Vec Sig Global)). AreBits n (row_at rows u)) (sym c.deref.ensures.value)
    (subst (AreBits n) (sym (c.in_ok-rows.ensures.rows u)) (entries_fit C n c.args.entries.now u c.requires.entries.each C.functions))

pub join_several-requires-clause-room : goal.join_several-requires-clause-room
join_several-requires-clause-room c =
    let d = ap (total bit_joins) c.deref.ensures.value in
    let g = c.in_ok-rows.ensures.gates in
    let r = c.requires.room.room in
    record { tidy = c.requires.room.tidy; room = omega (arith, d, g, r) }

pub loop-f-init : goal.loop-f-init
loop-f-init c =
    let C = c.args.p.now.program in
    let n = c.join_several.new.net in
    record {
      built = builds_same n n c.join_several.ensures.tidy refl 0;
      table = below_none_yet n c.new-all.result.items (λ (v : Val) (f : ℕ). one_below (rival C (on_from v c.args.entries.now) f) C.functions) c.new-all.ensures.items;
    }

-- what was joined for a member's unit
several_at : goal.member_rival-requires-clause-several
several_at c =
    let C = c.args.p.now.program in
    let n = c.join_several.new.net in
    let u = c.unit_of-unit.result in
    let all = c.in_ok-several.several.items in
    let x = c.index.result.now in
    let l = c.loop-f-test.true in
    let k = c.function_count-functions.ensures.count in
    let w = c.unit_of-unit.ensures.within in
    let many = c.in_ok-several.ensures.count in
    let long = ap (λ (rows : List (Vec Sig Global)). length rows) c.deref.ensures.value in
    let rows = c.in_ok-rows.ensures.count in
    let at = slice_get_read all (length all) u x refl (omega (arith, l, k, w, many, long, rows)) c.index.ensures in
    let is = ap (λ (rows : List (Vec Sig Global)). row_at rows u) c.deref.ensures.value ∙ c.in_ok-rows.ensures.rows u in
    let said = subst (λ (o : Option (Option Several)). IsSeveralIn n (row_at c.deref.result.now u) (entry_in o)) at (c.in_ok-several.ensures.joined u) in
    (entry_row C c.args.entries.now u C.functions, several_in_kept c.loop-f.invariant.built (entry_row C c.args.entries.now u C.functions) x (subst (λ (xs : List Sig). IsSeveralIn n xs x) is said))

pub member_rival-requires-clause-several : goal.member_rival-requires-clause-several
member_rival-requires-clause-several c = several_at c

pub member_rival-requires-clause-own : goal.member_rival-requires-clause-own
member_rival-requires-clause-own c =
    let es = c.args.entries.now in
    let f = c.loop-f.f in
    let l = c.loop-f-test.true in
    let k = c.function_count-functions.ensures.count in
    let m = c.requires.entries.count in
    let g = slice_get-get_or es f None (omega (arith, l, k, m)) in
    maybe_bit_kept (builds_on c.in_ok-several.ensures.built c.loop-f.invariant.built) (slice_index_or es f None)
    (subst (λ (o : Option (Option Sig)). IsBitIn c.args.net.now (entry_in o)) g (c.requires.entries.each f))

pub member_rival-requires-clause-room : goal.member_rival-requires-clause-room
member_rival-requires-clause-room c =
    let d = ap (total bit_joins) c.deref.ensures.value in
    let g = c.in_ok-rows.ensures.gates in
    let l = c.loop-f-test.true in
    let k = c.function_count-functions.ensures.count in
    let a = c.in_ok-several.ensures.built.count in
    let b = c.loop-f.invariant.built.count in
    let r = c.requires.room.room in
    record { tidy = c.loop-f.invariant.built.tidy; room = omega (arith, d, g, l, k, a, b, r) }

pub loop-f-preserved : goal.loop-f-preserved
loop-f-preserved c =
    let C = c.args.p.now.program in
    let es = c.args.entries.now in
    let f = c.loop-f.f in
    let u = c.unit_of-unit.result in
    let n = c.join_several.new.net in
    let all = c.in_ok-several.several.items in
    let x = c.index.result.now in
    let l = c.loop-f-test.true in
    let k = c.function_count-functions.ensures.count in
    let w = c.unit_of-unit.ensures.within in
    let many_rows = c.in_ok-several.ensures.count in
    let long = ap (λ (rows : List (Vec Sig Global)). length rows) c.deref.ensures.value in
    let rows = c.in_ok-rows.ensures.count in
    let at = slice_get_read all (length all) u x refl (omega (arith, l, k, w, many_rows, long, rows)) c.index.ensures in
    let is = ap (λ (rs : List (Vec Sig Global)). row_at rs u) c.deref.ensures.value ∙ c.in_ok-rows.ensures.rows u in
    let said = subst (λ (o : Option (Option Several)). IsSeveralIn n (row_at c.deref.result.now u) (entry_in o)) at (c.in_ok-several.ensures.joined u) in
    let joined = several_in_kept c.loop-f.invariant.built (entry_row C es u C.functions) x (subst (λ (xs : List Sig). IsSeveralIn n xs x) is said) in
    let m = c.requires.entries.count in
    let entry = slice_get-get_or es f None (omega (arith, l, k, m)) in
    let peers : c.has_peers-many.result ≡ many C f = c.has_peers-many.ensures ∙ ap (λ (q : CheckedProgram). many q.program f) c.checked.ensures.same in
    let says = λ (v : Val) (i : ℕ). one_below (rival C (on_from v es) i) C.functions in
    record {
      built = builds_within (3 * (f + 1)) (builds_on c.loop-f.invariant.built c.in_ok-rival.ensures.built) (omega arith);
      table = below_one_more c.loop-f.net c.member_rival.new.net 3 f c.loop-f.all.items c.push.new.self.items c.in_ok-rival.rival says
          c.in_ok-rival.ensures.built c.loop-f.invariant.table c.in_ok-push.ensures.items c.in_ok-rival.ensures.fits
          (λ v q. c.in_ok-rival.ensures.value (entry_row C es u C.functions) joined v q
          ∙ ap (λ (y : ℕ). c.has_peers-many.result && others_on v (entry_row C es y C.functions) (slice_index_or es f None)) c.unit_of-unit.ensures.number
          ∙ rivals_are C v es f c.has_peers-many.result (slice_index_or es f None) (omega (arith, l, k)) peers entry);
    }

pub returns-clause-built : goal.returns-clause-built
returns-clause-built c =
    let d = ap (total bit_joins) c.deref.ensures.value in
    let g = c.in_ok-rows.ensures.gates in
    let b = c.loop-f.auto.f-end in
    let k = c.function_count-functions.ensures.count in
    builds_within (7 * c.args.p.now.program.functions) (builds_on c.in_ok-several.ensures.built c.loop-f.invariant.built) (omega (arith, d, g, b, k))

pub returns-clause-done : goal.returns-clause-done
returns-clause-done c =
    let C = c.args.p.now.program in
    let l = c.loop-f-test.false in
    let b = c.loop-f.auto.f-end in
    let k = c.function_count-functions.ensures.count in
    let e : c.loop-f.f ≡ C.functions = omega (arith, l, b, k) in
    subst (λ (m : ℕ). ShowsBelow c.loop-f.net c.loop-f.all.items m (λ (v : Val) (f : ℕ). one_below (rival C (on_from v c.args.entries.now) f) C.functions)) e c.loop-f.invariant.table
