use Rattle.safl_unit.proofs.Common.{CheckedProgram, FitsIn, IsBitIn, Load, MemberFits, Sig, arity, builds_on, builds_same, builds_within}
use Rattle.safl_unit.proofs.Common.{entry_in, many, maybe_bit_kept, maybe_load_kept, on_in, slice_get_read, sources_length, taken_in}
use Rattle.std.proofs.Common.{◌≡◌, ℕ, ◌+◌, ◌*◌, ◌<◌, length, Option, Bool, Some, slice_get, refl, ap, subst, ◌∙◌, arith}
use Rattle.safl_unit.specs.Steps.{MemberStep, MembersNext}
use Rattle.safl_unit.proofs.equations.Keeping.{member_kept}
use Rattle.safl_unit.proofs.equations.Stepping.{no_members, more_members}
use Rattle.safl_unit.proofs.edge.next_members.Goals.{After-index-now}
use Rattle.safl_unit.proofs.edge.next_members.Goals as goal

-- the entries of a number
record Entries (c : After-index-now) : Type 0 where
  at_entry : slice_get c.args.events.now.entries.items c.loop-f.f ≡ Some c.index-own.result.now
  at_rival : slice_get c.args.events.now.rivals.items c.loop-f.f ≡ Some c.index-rival.result.now
  at_load : slice_get c.args.events.now.loads.items c.loop-f.f ≡ Some c.index-load.result.now
  at_loop : slice_get c.args.outcomes.now.loops.items c.loop-f.f ≡ Some c.index-looped.result.now
  at : slice_get c.args.pins.now.bank.members.items c.loop-f.f ≡ Some c.index-now.result.now
  entry_fits : IsBitIn c.loop-f.net c.index-own.result.now
  rival_fits : IsBitIn c.loop-f.net c.index-rival.result.now
  load_fits : FitsIn c.loop-f.net c.index-load.result.now (c.args.p.now.program.params c.loop-f.f)
  loop_fits : FitsIn c.loop-f.net c.index-looped.result.now (c.args.p.now.program.params c.loop-f.f)
  fits : MemberFits c.loop-f.net c.index-now.result.now (c.args.p.now.program.params c.loop-f.f)
  count : length c.index-now.result.now.args.items ≡ arity c.args.p.now.program c.loop-f.f

entries_at : (c : After-index-now) → Entries c
entries_at c =
    let f = c.loop-f.f in
    let params = c.args.p.now.program.params f in
    let a = c.args.net.now in
    let e = c.args.events.now in
    let loops = c.args.outcomes.now.loops.items in
    let members = c.args.pins.now.bank.members.items in
    let entry = c.index-own.result.now in
    let rival = c.index-rival.result.now in
    let load = c.index-load.result.now in
    let looped = c.index-looped.result.now in
    let x = c.index-now.result.now in
    let pf = c.requires.pins.bank in
    let ef = c.requires.events in
    let of = c.requires.outcomes in
    let built = c.loop-f.invariant.built in
    let l : f < c.args.p.now.program.functions = (let t = c.loop-f-test.true in let k = c.function_count-functions.ensures.count in omega (arith, t, k)) in
    let n1 = ef.entries_length in
    let n2 = ef.rivals_length in
    let n3 = ef.loads_length in
    let n4 = of.loops_length in
    let n5 = pf.members_length in
    let g1 = slice_get_read e.entries.items (length e.entries.items) f entry refl (omega (arith, l, n1)) c.index-own.ensures in
    let g2 = slice_get_read e.rivals.items (length e.rivals.items) f rival refl (omega (arith, l, n2)) c.index-rival.ensures in
    let g3 = slice_get_read e.loads.items (length e.loads.items) f load refl (omega (arith, l, n3)) c.index-load.ensures in
    let g4 = slice_get_read loops (length loops) f looped refl (omega (arith, l, n4)) c.index-looped.ensures in
    let g5 = slice_get_read members (length members) f x refl (omega (arith, l, n5)) c.index-now.ensures in
    record {
      at_entry = g1;
      at_rival = g2;
      at_load = g3;
      at_loop = g4;
      at = g5;
      entry_fits = maybe_bit_kept built entry (subst (λ (t : Option (Option Sig)). IsBitIn a (entry_in t)) g1 (ef.entries f));
      rival_fits = maybe_bit_kept built rival (subst (λ (t : Option (Option Sig)). IsBitIn a (entry_in t)) g2 (ef.rivals f));
      load_fits = maybe_load_kept built load params (subst (λ (t : Option (Option Load)). FitsIn a (entry_in t) params) g3 (ef.loads f));
      loop_fits = maybe_load_kept built looped params (subst (λ (t : Option (Option Load)). FitsIn a (entry_in t) params) g4 (of.loops f));
      fits = member_kept built (pf.members f x g5);
      count = sources_length a x.args.items params (pf.members f x g5).args;
    }

pub loop-f-init : goal.loop-f-init
loop-f-init c =
    let n = c.args.net.now in
    let e = c.args.events.now in
    record {
      built = builds_same n n c.requires.room.tidy refl 0;
      table = no_members c.args.p.now.program n c.args.pins.now.bank.members.items e.entries.items e.rivals.items e.loads.items
          c.args.outcomes.now.loops.items c.new-all.result.items c.new-all.ensures.items;
    }

pub next_member-requires-clause-entry : goal.next_member-requires-clause-entry
next_member-requires-clause-entry c = (entries_at (goal.at.next_member-requires-clause-entry c).After-index-now).entry_fits

pub next_member-requires-clause-rival : goal.next_member-requires-clause-rival
next_member-requires-clause-rival c = (entries_at (goal.at.next_member-requires-clause-rival c).After-index-now).rival_fits

pub next_member-requires-clause-fits : goal.next_member-requires-clause-fits
next_member-requires-clause-fits c =
    let h = entries_at (goal.at.next_member-requires-clause-fits c).After-index-now in
    (c.args.p.now.program.params c.loop-f.f, h.load_fits, h.loop_fits, h.fits)

pub next_member-requires-clause-settled : goal.next_member-requires-clause-settled
next_member-requires-clause-settled c = c.loop-f.invariant.built.settles.settled c.requires.settled

pub next_member-requires-clause-room : goal.next_member-requires-clause-room
next_member-requires-clause-room c =
    let l = c.loop-f-test.true in
    let k = c.function_count-functions.ensures.count in
    let h = (entries_at (goal.at.next_member-requires-clause-room c).After-index-now).count in
    let a = c.function_count-functions.ensures.checked.limits.params c.loop-f.f in
    let b = c.loop-f.invariant.built.count in
    let r = c.requires.room.room in
    record { tidy = c.loop-f.invariant.built.tidy; room = omega (arith, l, k, h, a, b, r) }

pub loop-f-preserved : goal.loop-f-preserved
loop-f-preserved c =
    let C = c.args.p.now.program in
    let f = c.loop-f.f in
    let e = c.args.events.now in
    let o = c.args.outcomes.now in
    let h = entries_at (goal.at.loop-f-preserved c).After-index-now in
    let n = h.count in
    let a = c.function_count-functions.ensures.checked.limits.params f in
    let x = c.index-now.result.now in
    let y = c.in_ok-next.next in
    let built = c.in_ok-next.ensures.built in
    let peers : c.has_peers-many.result ≡ many C f = c.has_peers-many.ensures ∙ ap (λ (q : CheckedProgram). many q.program f) c.checked.ensures.same in
    record {
      built = builds_within (995 * (f + 1)) (builds_on c.loop-f.invariant.built built) (omega (arith, n, a));
      table = more_members C c.loop-f.net c.next_member.new.net (3 + 62 * length x.args.items) c.args.pins.now.bank.members.items e.entries.items
          e.rivals.items e.loads.items o.loops.items c.loop-f.all.items c.push.new.self.items f
          c.index-own.result.now c.index-rival.result.now c.index-load.result.now c.index-looped.result.now x y
          c.loop-f.invariant.table built h.at_entry h.at_rival h.at_load h.at_loop h.at (c.in_ok-next.ensures.fits (C.params f) h.load_fits h.loop_fits h.fits)
          (λ v w. subst (λ (m : Bool). MemberStep v m (on_in v c.index-own.result.now) (on_in v c.index-rival.result.now)
          (taken_in v c.index-load.result.now) (taken_in v c.index-looped.result.now) x y) peers (c.in_ok-next.ensures.shows v w))
          c.in_ok-push.ensures.items;
    }

pub returns-clause-tidy : goal.returns-clause-tidy
returns-clause-tidy c = c.loop-f.invariant.built.tidy

pub returns-clause-built : goal.returns-clause-built
returns-clause-built c =
    let b = c.loop-f.auto.f-end in
    let k = c.function_count-functions.ensures.count in
    builds_within (995 * c.args.p.now.program.functions) c.loop-f.invariant.built (omega (arith, b, k))

pub returns-clause-done : goal.returns-clause-done
returns-clause-done c =
    let C = c.args.p.now.program in
    let l = c.loop-f-test.false in
    let b = c.loop-f.auto.f-end in
    let k = c.function_count-functions.ensures.count in
    let e : c.loop-f.f ≡ C.functions = omega (arith, l, b, k) in
    subst (λ (m : ℕ). MembersNext C c.loop-f.net c.args.pins.now.bank.members.items c.args.events.now.entries.items c.args.events.now.rivals.items
    c.args.events.now.loads.items c.args.outcomes.now.loops.items c.loop-f.all.items m) e c.loop-f.invariant.table
