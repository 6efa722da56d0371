use Rattle.safl_probe.proofs.Common.{Frame, HasWidths, Netlist, ProbeState, Valuation, Word, probe_at}
use Rattle.std.proofs.Common.{◌≡◌, ℕ, List, ◌++◌, map, take, drop, length, Vec, Global, sym, ap, subst, ◌∙◌, arith}
use Rattle.std.proofs.lemmas.List.{append-nil, take_all, drop_all}
use Rattle.std.proofs.lemmas.Result.{IfErr-weaker, on_ok_weaker}
use Rattle.safl_probe.specs.Moments.{CanTell}
use Rattle.safl_probe.specs.Telling.{AllTold, ToldPart}
use Rattle.safl_probe.proofs.show.show.Goals as goal

-- a slice of all words was filled
back_is : (len : ℕ) (f items : List Word) → length f ≡ length items → length items ≡ len → take len (f ++ drop (length f) items) ≡ f
back_is len f items e g =
    ap (λ r. take len (f ++ r)) (drop_all (length f) items (omega (arith, e))) ∙ ap (take len) (append-nil f) ∙ take_all len f (omega (arith, e, g))

can_show : (t : ℕ) (u v : Valuation) (s : ProbeState) → u ≡ v → CanTell (Frame t) v s → CanTell (Frame t) u s
can_show t u v s e h = subst (λ (w : Valuation). CanTell (Frame t) w s) (sym e) h

-- what is said of a netlist and of words in the room is said of those of the simulation
said_of : (R : Netlist → Valuation → Type 0) (m n : Netlist) (u v : Valuation) → m ≡ n → u ≡ v → R m u → R n v
said_of R m n u v is e h = subst (λ (l : Netlist). R l v) is (subst (λ (w : Valuation). R m w) e h)

pub tell_all-requires : goal.tell_all-requires
tell_all-requires g c =
    let a = c.fill.auto.frame in
    let b = c.deref_mut.ensures.len in
    let d = ap (λ (l : List Word). length l) c.deref_mut.ensures.value in
    let back = back_is c.args.room.now.frame.len c.fill.new.frame c.args.room.now.frame.items (omega (arith, a, d)) (omega (arith, b, d)) in
    record {
      files = c.requires.can.files;
      can = λ i name k.
          can_show c.args.cycle _ c.args.sim.now.values (probe_at (map (λ p. (goal.Probe-dyn g (p.vtable, p.value)).state p.value) c.args.probes.now) i)
          (ap (map (λ (w : Word). w.bits)) back ∙ c.fill.ensures.values) (c.requires.can.can i name k);
    }

pub returns-clause-shown : goal.returns-clause-shown
returns-clause-shown g c =
    let a = c.fill.auto.frame in
    let b = c.deref_mut.ensures.len in
    let d = ap (λ (l : List Word). length l) c.deref_mut.ensures.value in
    let back = back_is c.args.room.now.frame.len c.fill.new.frame c.args.room.now.frame.items (omega (arith, a, d)) (omega (arith, b, d)) in
    let same = ap (map (λ (w : Word). w.bits)) back ∙ c.fill.ensures.values in
    on_ok_weaker c.tell_all.result
    (said_of
    (λ n v. AllTold (Frame c.args.cycle) n v c.args.files.now (λ p. (goal.Probe-dyn g (p.vtable, p.value)).state p.value)
    c.args.probes.now c.tell_all.new.probes (g.S.Shelf.told c.args.shelf.now) (g.S.Shelf.told c.tell_all.new.shelf))
    c.net.result.now c.args.sim.now.net _ c.args.sim.now.values c.net.ensures same)
    c.tell_all.ensures.told

pub returns-clause-part : goal.returns-clause-part
returns-clause-part g c =
    let a = c.fill.auto.frame in
    let b = c.deref_mut.ensures.len in
    let d = ap (λ (l : List Word). length l) c.deref_mut.ensures.value in
    let back = back_is c.args.room.now.frame.len c.fill.new.frame c.args.room.now.frame.items (omega (arith, a, d)) (omega (arith, b, d)) in
    let same = ap (map (λ (w : Word). w.bits)) back ∙ c.fill.ensures.values in
    IfErr-weaker c.tell_all.result _ _
    (λ why. said_of
    (λ n v. ToldPart (Frame c.args.cycle) n v c.args.files.now (λ p. (goal.Probe-dyn g (p.vtable, p.value)).state p.value)
    c.args.probes.now c.tell_all.new.probes (g.S.Shelf.told c.args.shelf.now) (g.S.Shelf.told c.tell_all.new.shelf) why)
    c.net.result.now c.args.sim.now.net _ c.args.sim.now.values c.net.ensures same)
    c.tell_all.ensures.part

pub fill-requires-clause-frame : goal.fill-requires-clause-frame
fill-requires-clause-frame g c = subst (HasWidths c.args.sim.now.net) (sym c.deref_mut.ensures.value) c.requires.room.frame

pub fill-requires-clause-values : goal.fill-requires-clause-values
fill-requires-clause-values g c = c.requires.room.values

pub returns-clause-room : goal.returns-clause-room
returns-clause-room g c =
    let a = c.fill.auto.frame in
    let b = c.deref_mut.ensures.len in
    let d = ap (λ (l : List Word). length l) c.deref_mut.ensures.value in
    let back = back_is c.args.room.now.frame.len c.fill.new.frame c.args.room.now.frame.items (omega (arith, a, d)) (omega (arith, b, d)) in
    subst (λ (v : Vec Word Global). HasWidths c.args.sim.now.net v.items) (sym c.tell_all.ensures.same_frame) (subst (HasWidths c.args.sim.now.net) (sym back) c.fill.ensures.frame)
