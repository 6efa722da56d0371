use Rattle.std.proofs.Common.{◌≡◌, ◌+◌, ◌*◌, ◌<◌, ◌≤◌, ℕ, length, get_or, set, slice_get, slice_index, Some, refl, sym, ap, subst, ◌∙◌, arith}
use Rattle.std.proofs.lemmas.List.{length-set}
use Rattle.safl_word.proofs.Lists.{get_read}
use Rattle.safl_sim.specs.declared.plan.Plan.{Plan}
use Rattle.safl_sim.specs.declared.step.Group.{Group}
use Rattle.safl_sim.specs.declared.step.Register.{Register}
use Rattle.safl_sim.specs.Marks.{holding, HasTaken}
use Rattle.safl_sim.specs.Nears.{GroupOf}
use Rattle.safl_sim.specs.Readers.{HasGiven}
use Rattle.safl_sim.specs.States.{AreLow}
use Rattle.safl_sim.specs.Writes.{ShowsWaiting}
use Rattle.safl_sim.proofs.MarksByOne.{taken_after}
use Rattle.safl_sim.proofs.Nearing.{holding_all, holding_long, no_marks}
use Rattle.safl_sim.proofs.Registers.{low_shown, shows_none, shows_step}
use Rattle.safl_sim.proofs.Updates.{goes_step, lists_same}
use Rattle.safl_sim.proofs.phases.show_word.Goals.{In-Some}
use Rattle.safl_sim.proofs.phases.show_word.Goals as goal

-- the registers are being shown
showing : (c : In-Some) → ShowsWaiting c.args.plan.now.registers.items c.requires.shows.0 c.registers.place c.requires.shows.1 c.registers.values
    (holding c.args.waiting.now c.args.word c.registers.held)
showing c = let r = c.requires.shows in c.registers.invariant.shows r.0 r.1 r.2 r.3

-- the mark that is taken
taken : (c : In-Some) → HasTaken (holding c.args.waiting.now c.args.word c.registers.held) (holding c.args.waiting.now c.args.word c.in-Some.taken.left) c.args.word
    (c.args.word * 64 + c.in-Some.taken.bit)
taken c = c.in-Some.ensures.some c.args.word c.args.waiting.now c.requires.word

-- it is the mark of a register
found : (c : In-Some) → c.args.word * 64 + c.in-Some.taken.bit < length c.args.plan.now.registers.items
found c = (showing c).within (c.args.word * 64 + c.in-Some.taken.bit) (taken c).was

-- a turn leads past it
past : (c : In-Some) → c.registers.place ≤ c.args.word * 64 + c.in-Some.taken.bit
past c = taken_after _ _ 0 c.registers.place c.args.word _ (λ k z h. (showing c).below k h) (omega arith) c.registers.invariant.from (taken c)

-- its group
group : (p : Plan) (i : ℕ) (r : Register) (g : Group) → i < length p.registers.items → slice_get p.registers.items i ≡ Some r → g ≡ get_or
    p.groups.items i g → GroupOf p.starts.items p.readers.items r g
group p i r g h at e = p.grouped.each i r g at (get_read p.groups.items i g (let a = p.grouped.long in omega (arith, a, h)) e)

pub index-requires : goal.index-requires
index-requires c =
    let a = found (goal.at.index-requires c).In-Some in
    let b = c.args.plan.now.registers.ok.0 in
    omega (arith, a, b)

pub index-requires-in-Some : goal.index-requires-in-Some
index-requires-in-Some c =
    let a = found (goal.at.index-requires-in-Some c).In-Some in
    let b = c.args.plan.now.groups.ok.0 in
    let d = c.args.plan.now.grouped.long in
    omega (arith, a, b, d)

pub bounds-state-i : goal.bounds-state-i
bounds-state-i c =
    let a = found (goal.at.bounds-state-i c).In-Some in
    let d = c.requires.shows.2.long in
    omega (arith, a, d)

pub show-requires-clause-lists : goal.show-requires-clause-lists
show-requires-clause-lists c = lists_same c.args.plan.now.starts.items c.args.plan.now.readers.items _ _ _ _ c.registers.invariant.wide c.registers.invariant.long c.requires.lists

pub show-requires-clause-group : goal.show-requires-clause-group
show-requires-clause-group c =
    let p = c.args.plan.now in
    let i = c.args.word * 64 + c.in-Some.taken.bit in
    let a = found (goal.at.show-requires-clause-group c).In-Some in
    group p i c.index.result.now c.index-in-Some.result.now a (get_read p.registers.items i c.index.result.now a c.index.ensures) c.index-in-Some.ensures

pub show-requires-clause-within : goal.show-requires-clause-within
show-requires-clause-within c =
    let i = c.args.word * 64 + c.in-Some.taken.bit in
    let f = found (goal.at.show-requires-clause-within c).In-Some in
    let a = c.requires.registers.within i c.index.result.now (get_read c.args.plan.now.registers.items i c.index.result.now f c.index.ensures) in
    let b = c.registers.invariant.wide in
    omega (arith, a, b)

pub show-requires-clause-low : goal.show-requires-clause-low
show-requires-clause-low c =
    let i = c.args.word * 64 + c.in-Some.taken.bit in
    let f = found (goal.at.show-requires-clause-low c).In-Some in
    c.registers.invariant.low i c.index.result.now (get_read c.args.plan.now.registers.items i c.index.result.now f c.index.ensures)

pub registers-smaller : goal.registers-smaller
registers-smaller c =
    let d = (goal.at.registers-smaller c).In-Some in
    let a = past d in
    let b = (taken d).within in
    omega (arith, a, b)

pub registers-preserved : goal.registers-preserved
registers-preserved c =
    let d = (goal.at.registers-preserved c).In-Some in
    let p = c.args.plan.now in
    let i = c.args.word * 64 + c.in-Some.taken.bit in
    let t = taken d in
    let f = found d in
    let own = c.index.result.now in
    let at = get_read p.registers.items i own f c.index.ensures in
    let known : own.signal.0 < length c.registers.values = (let a = c.requires.registers.within i own at in let b = c.registers.invariant.wide in omega (arith, a, b)) in
    let x = slice_index c.args.state.now i in
    let told = c.show.ensures in
    record {
      from = (let a = t.within in omega (arith, a));
      wide = (let a = c.registers.invariant.wide in let b = ap length told.is in let e = length-set c.registers.values own.signal.0 x in omega (arith, a, b, e));
      long = told.long ∙ c.registers.invariant.long;
      low = subst (λ l. AreLow p.registers.items l c.args.state.now) (sym told.is)
          (low_shown p.registers.items c.registers.values c.args.state.now i own c.requires.registers.once c.registers.invariant.low at known);
      shows = λ now start are w. shows_step p.registers.items now c.registers.place c.args.word i own start c.registers.values c.show.new.values
          (holding c.args.waiting.now c.args.word c.registers.held) (holding c.args.waiting.now c.args.word c.in-Some.taken.left)
          (c.registers.invariant.shows now start are w) c.registers.invariant.from t at known
          (told.is ∙ ap (set c.registers.values own.signal.0) (sym (are.each i own at)));
      goes = λ n ws now away are. goes_step n ws p.steps.items p.registers.items now p.starts.items p.readers.items own.signal.0 _ c.args.values.now
          c.registers.values c.show.new.values c.args.marks.now c.registers.marks c.show.new.marks (c.registers.invariant.goes n ws now away are)
          (away i own at) known (λ state s e. state own.signal.0 s e)
          (subst (λ y. HasGiven p.steps.items p.starts.items p.readers.items own.signal.0 y c.registers.values c.show.new.values c.registers.marks c.show.new.marks) (sym (are.each i own at)) told);
    }

pub registers-init : goal.registers-init
registers-init c = record {
  from = omega arith;
  wide = refl;
  long = refl;
  low = c.requires.registers.low;
  shows = λ now start at w.
      let p = c.args.plan.now in
      subst (λ h. ShowsWaiting p.registers.items now (c.args.word * 64) start c.args.values.now (holding c.args.waiting.now c.args.word h)) (sym c.get-held.ensures)
      (subst (λ l. ShowsWaiting p.registers.items now (c.args.word * 64) start c.args.values.now l) (sym (holding_all c.args.waiting.now c.args.word)) w);
  goes = λ n ws now away at r are state fits h. (fits, h);
}

pub returns-clause-count : goal.returns-clause-count
returns-clause-count c = record { marks = c.registers.invariant.long; waiting = ap length c.put.ensures ∙ holding_long c.args.waiting.now c.args.word 0 }

pub returns-clause-shows : goal.returns-clause-shows
returns-clause-shows c = λ now start at w.
    let p = c.args.plan.now in
    subst (λ l. ShowsWaiting p.registers.items now ((c.args.word + 1) * 64) start c.registers.values l) (sym c.put.ensures)
    (shows_none p.registers.items now c.registers.place c.args.word start c.registers.values (holding c.args.waiting.now c.args.word 0)
    (subst (λ h. ShowsWaiting p.registers.items now c.registers.place start c.registers.values (holding c.args.waiting.now c.args.word h))
    c.in_default.ensures.none (c.registers.invariant.shows now start at w))
    c.registers.invariant.from (no_marks c.args.waiting.now c.args.word c.requires.word))
