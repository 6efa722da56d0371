-- The values while the marked steps run.
use Rattle.std.proofs.Common.{◌≡◌, inl, inr, ℕ, ◌+◌, ◌*◌, ◌<◌, ◌≤◌, List, map, length, set, Some, slice_get, slice_index, sym, ap, subst, ◌∙◌, arith}
use Rattle.std.proofs.lemmas.Option.{slice_get-get_or, slice_get_within}
use Rattle.std.proofs.lemmas.Bool.{cases_eq, cases_lt}
use Rattle.std.proofs.lemmas.List.{length-set}
use Rattle.safl_word.proofs.Naturals.{below_power}
use Rattle.safl_net.specs.Netlist.{Signal, Wire, Cell}
use Rattle.safl_net.specs.Valuations.{signal_word, cell_word}
use Rattle.safl_net.specs.Making.{kind_at}
use Rattle.safl_net.specs.Laws.{FitWidths}
use Rattle.safl_net.proofs.SignalKinds.{wire_at}
use Rattle.safl_order.specs.Order.{Order, IsWire}
use Rattle.safl_sim.specs.declared.step.Step.{Step}
use Rattle.safl_sim.specs.declared.step.Register.{Register}
use Rattle.safl_sim.specs.Marks.{marked, first_register, HasNone, NoneBetween, HasTaken, HasRange}
use Rattle.safl_sim.specs.Readers.{Lists, HasGiven, Agrees}
use Rattle.safl_sim.specs.Steps.{action_number, Ready, LowStep, IsStep, Runs}
use Rattle.safl_sim.specs.Writes.{after_steps, AllReady}
use Rattle.safl_sim.proofs.Written.{index_here, index_other}
use Rattle.safl_sim.proofs.Scenes.{cell_number_fits, apart, step_low, all_steps}
use Rattle.safl_sim.proofs.Updates.{was_none, operands_same, fits_set, given_stays, given_kept, given_inside, given_below}
use Rattle.safl_sim.proofs.MarksByOne.{taken_after, taken_upto, none_upto, none_past}

-- what the numbers are once a step has been taken and its wire is given its number
pub record Takes (o : Order) (all : List Step) (regs : List Register) (now starts readers start : List ℕ) (word i : ℕ) (step : Step) (values marks marks' : List ℕ) : Type 0 where
  pub within : i < length all
  pub ready : Ready values step.action
  pub low : LowStep values step
  pub wire : step.wire.0 < length values
  pub lists : Lists starts readers (length values) (length marks')
  pub next : (values'' marks'' : List ℕ) → HasGiven all starts readers step.wire.0 (action_number (slice_index values) step.action) values values''
      marks' marks'' → Runs o all regs now starts readers start (i + 1) values'' marks''

module _ (o : Order) (all : List Step) (regs : List Register) (now starts readers start : List ℕ) (place word i : ℕ) (values marks marks' : List ℕ)
    (w : Runs o all regs now starts readers start place values marks) (le : place ≤ (word + 1) * 64) (from : word * 64 ≤ place)
    (t : HasTaken marks marks' word i) (early : (word + 1) * 64 ≤ first_register (length all)) where
  -- the step that is taken is none of those done, and is in range
  pub taken_from : place ≤ i
  taken_from = taken_after marks marks' 0 place word i (λ k f h. w.below k h) (omega arith) from t

  early_step : i < first_register (length all)
  early_step = let a = t.within in omega (arith, a, early)

  pub taken_within : i < length all
  taken_within = let b = w.steps.long in let a = w.holding.inside.step i t.was (let c = early_step in omega (arith, b, c)) in omega (arith, a, b)

  upto_none : (k : ℕ) → k ≤ i → marked marks' k ≡ 0
  upto_none k l = taken_upto marks marks' 0 place word i (λ k f h. w.below k h) (omega arith) from t k (omega arith) l

  gone : (k : ℕ) → k ≡ i → ¬ (marked marks' k ≡ 1)
  gone k q e = let a = t.gone in let b : marked marks' i ≡ 1 = ap (marked marks') (sym q) ∙ e in absurd (omega (arith, a, b))

  apart_marks : (k : ℕ) → ¬ (first_register (length o.wires) + k ≡ i)
  apart_marks k z = let a = early_step in let b = w.steps.long in absurd (omega (arith, a, b, z))

  pub takes : (step : Step) → slice_get all i ≡ Some step → Takes o all regs now starts readers start word i step values marks marks'
  takes step here =
      let wire = slice_get-get_or o.wires i 0 (let a = taken_within in let b = w.steps.long in omega (arith, a, b)) in
      let s = slice_index o.wires i in
      let is = w.steps.each i s step wire here in
      let g = wire_at o.net s is.cell is.is in
      let long = w.long in
      let x = action_number (slice_index values) step.action in
      let gives : x ≡ (cell_word is.cell.op (map (signal_word o.net values) is.cell.operands)).bits = is.performs.gives (slice_index values) w.fits in
      let inside : s < length values = (let a = slice_get_within o.net.signals s g.0 g.1 in omega (arith, a, long)) in
      let one = is.wire in
      record {
        within = taken_within;
        ready = is.performs.ready values w.long w.fits;
        low = step_low o.net s step values w.made is w.fits;
        wire = omega (arith, inside, one);
        lists = subst (λ l. Lists starts readers l (length marks')) (sym w.long) (subst (λ l. Lists starts readers (length o.net.signals) l) (sym t.long) w.lists);
        next = λ values'' marks'' g'. after s step wire is g.0 g.1 g.2 inside gives values'' marks'' (subst (λ y. HasGiven all starts readers y x values values'' marks' marks'') is.wire g');
      }
    where
      after : (s : ℕ) (step : Step) → slice_get o.wires i ≡ Some s → (is : IsStep o.net s step) → (g : Signal) → slice_get o.net.signals s ≡ Some g → g.kind ≡ Wire (Some is.cell) → s < length values
          → action_number (slice_index values) step.action ≡ (cell_word is.cell.op (map (signal_word o.net values) is.cell.operands)).bits
          → (values'' marks'' : List ℕ) → HasGiven all starts readers s (action_number (slice_index values) step.action) values values'' marks'
          marks'' → Runs o all regs now starts readers start (i + 1) values'' marks''
      after s step at is g sig kind inside gives values'' marks'' h =
          let x = action_number (slice_index values) step.action in
          let set_is = h.is in
          let fits' : FitWidths o.net (slice_index values'') = subst (λ l. FitWidths o.net (slice_index l)) (sym set_is) (fits_set o.net values s x inside (λ b e.
          let g' : Some b ≡ Some g = sym e ∙ sig in
          let one : b ≡ g = cc in
          below_power x (cell_word is.cell.op (map (signal_word o.net values) is.cell.operands)).bits g.width b.width gives
          (ap (λ (z : Signal). z.width) (sym one)) (cell_number_fits o.net values s is.cell g w.made w.fits sig kind)) w.fits) in
          record {
            made = w.made;
            order = w.order;
            steps = w.steps;
            lists = subst (λ l. Lists starts readers (length o.net.signals) l) (sym (h.long ∙ t.long)) w.lists;
            read = w.read;
            room = (let a = w.room in let b = h.long in let c = t.long in omega (arith, a, b, c));
            long = ap length set_is ∙ length-set values s x ∙ w.long;
            fits = fits';
            others = subst (λ l. (y : ℕ) → ¬ (IsWire o.net y) → slice_index l y ≡ slice_index start y) (sym set_is)
                (λ y v. index_other values s x y (λ q. v (subst (λ z. IsWire o.net z) (sym q) (w.order.wires i s at))) ∙ w.others y v);
            below = λ k l. given_below o.net o.wires all regs starts readers i s x values values'' marks' marks'' w.order w.read h at k (omega (arith, l)) (upto_none k (omega (arith, l)));
            holding = record {
              stays = λ k y d e f none. elim (cases_eq y s) [
                | inl q ↦
                    let same : Wire (Some d) ≡ Wire (Some is.cell) = sym f ∙ ap (kind_at o.net) q ∙ is.is in
                    let one : d ≡ is.cell = cc in
                    subst (λ l. Agrees o.net l y d) (sym set_is)
                    (ap (slice_index (set values s x)) q ∙ index_here values s x inside ∙ gives
                    ∙ ap (λ l. (cell_word is.cell.op l).bits) (sym (operands_same o.net values s x is.cell.operands
                    (λ j u m. apart o.net o.wires i i s s j u is.cell w.order at at (omega arith) is.is m)))
                    ∙ ap (λ (z : Cell). (cell_word z.op (map (signal_word o.net (set values s x)) z.operands)).bits) (sym one))
                | inr q ↦
                    let was : marked marks' k ≡ 0 = was_none marks' marks'' k h.grows none in
                    let other : ¬ (k ≡ i) = λ z. q (let m : Some y ≡ Some s = sym e ∙ ap (slice_get o.wires) z ∙ at in cc) in
                    given_stays o.net o.wires all regs starts readers s x values values'' marks' marks'' w.read w.steps w.fits fits' h k y d e f q
                    none (w.holding.stays k y d e f (sym (t.others k other) ∙ was))
              ];
              kept = given_kept o.net o.wires all regs now starts readers s x values values'' marks' marks'' w.read w.steps.long h
                  (λ k q e none. w.holding.kept k q e (sym (t.others (first_register (length o.wires) + k) (λ z. apart_marks k z)) ∙ none));
              inside = given_inside o.net o.wires all regs starts readers s x values values'' marks' marks'' w.read h (record {
                step = λ k e l. elim (cases_eq k i) [ inl q ↦ absurd (gone k q e) | inr q ↦ w.holding.inside.step k (sym (t.others k q) ∙ e) l ];
                register = λ k e. elim (cases_eq k i) [ inl q ↦ absurd (gone k q e) | inr q ↦ w.holding.inside.register k (sym (t.others k q) ∙ e) ];
              });
            };
          }

pub runs_to : (o : Order) (all : List Step) (regs : List Register) (now starts readers start : List ℕ) (place place' : ℕ) (values marks : List ℕ) →
    Runs o all regs now starts readers start place values marks → ((k : ℕ) → k < place' → marked marks k ≡ 0)
    → Runs o all regs now starts readers start place' values marks
runs_to o all regs now starts readers start place place' values marks w below = record {
  made = w.made;
  order = w.order;
  steps = w.steps;
  lists = w.lists;
  read = w.read;
  room = w.room;
  long = w.long;
  fits = w.fits;
  others = w.others;
  below = below;
  holding = w.holding;
}

-- a word with no mark left is done
pub none_left : (o : Order) (all : List Step) (regs : List Register) (now starts readers start : List ℕ) (place word : ℕ) (values marks : List ℕ) →
    Runs o all regs now starts readers start place values marks → word * 64 ≤ place → HasNone marks word
    → Runs o all regs now starts readers start ((word + 1) * 64) values marks
none_left o all regs now starts readers start place word values marks w from none = runs_to o all regs now starts readers start place ((word + 1) * 64) values marks w
    (λ k l. none_upto marks 0 place word (λ k f h. w.below k h) from none k (omega arith) l)

-- once all steps have run in turn, registers alone have to be marked
pub all_ran : (o : Order) (all : List Step) (regs : List Register) (now starts readers start values marks none marks' : List ℕ) → Runs o all regs now
    starts readers start 0 values marks → length none ≡ length marks → ((k : ℕ) → marked none k ≡ 0)
    → HasRange (first_register (length all)) (first_register (length all) + length regs) none marks' → Runs o all regs now starts readers start
    (first_register (length all)) (after_steps all values) marks'
all_ran o all regs now starts readers start values marks none marks' w long away m =
    let r = all_steps o.net o.wires all values w.made w.order w.steps w.long w.fits in
    let many = w.steps.long in
    let same : length marks' ≡ length marks = m.long ∙ long in
    record {
      made = w.made;
      order = w.order;
      steps = w.steps;
      lists = subst (λ l. Lists starts readers (length o.net.signals) l) (sym same) w.lists;
      read = w.read;
      room = (let a = w.room in omega (arith, a, same));
      long = r.scene.long;
      fits = r.scene.fits;
      others = λ s v. r.scene.others s v ∙ w.others s v;
      below = λ k l. m.below k l ∙ away k;
      holding = record {
        stays = λ k s c at kind e. r.scene.done k s c (let a = slice_get_within o.wires k s at in omega (arith, a, many)) at kind;
        kept = λ k q e none. absurd (let a = m.all (first_register (length o.wires) + k) (omega (arith, many))
            (let b = slice_get_within regs k q e in omega (arith, b, many)) in omega (arith, a, none));
        inside = record {
          step = λ k e l. absurd (let a = m.below k (omega (arith, l, many)) ∙ away k in omega (arith, a, e));
          register = λ k e. elim (cases_lt k (first_register (length all) + length regs)) [
            | inl h ↦ omega (arith, h, many)
            | inr h ↦ absurd (let a = m.above k h ∙ away k in omega (arith, a, e))
          ];
        };
      };
    }

pub all_ready : (o : Order) (all : List Step) (regs : List Register) (now starts readers start values marks : List ℕ) → Runs o all regs now starts readers start 0 values marks → AllReady all values
all_ready o all regs now starts readers start values marks w = (all_steps o.net o.wires all values w.made w.order w.steps w.long w.fits).ready

-- words with no mark left are done
pub runs_skip : (o : Order) (all : List Step) (regs : List Register) (now starts readers start : List ℕ) (from to : ℕ) (values marks : List ℕ) → Runs
    o all regs now starts readers start (from * 64) values marks → NoneBetween marks from to
    → Runs o all regs now starts readers start (to * 64) values marks
runs_skip o all regs now starts readers start from to values marks w none = runs_to o all regs now starts readers start (from * 64) (to * 64) values marks w
    (λ k l. none_past marks 0 from to (λ j f h. w.below j h) none k (omega arith) l)
