use Rattle.safl_probe.proofs.Common.{Moment, Netlist, Word, err_from_is_err_and, get_or-map, length-map, reads_same, reads_then}
use Rattle.std.proofs.Common.{◌≡◌, ◌≤◌, ℕ, ◌<◌, List, map, get_or, length, Option, Some, None, Vec, Global, String, string_bytes, option_map, refl, sym, ap, subst, ◌∙◌, arith}
use Rattle.safl_probe.specs.Probing.{ProbeState, Tells}
use Rattle.safl_probe.specs.Asked.{Asked, IsAsked, asked, probe_at}
use Rattle.safl_probe.specs.Moments.{CanTell, text_at, state_at}
use Rattle.safl_probe.specs.Growth.{Grown}
use Rattle.safl_probe.proofs.Growing.{told_none, told_more, told_skip, told_all, told_part, there_none, told_there_more, told_there_skip, told_there_all, strays_none, strays_more, is_within}
use Rattle.safl_probe.proofs.Telling.{ToldTo, none_told, skip_told, more_told, can_tell, keeps_more, stopped_at, text_was, asked_at}
use Rattle.safl_probe.proofs.tell.tell_all.Goals as goal
use Rattle.safl_probe.proofs.tell.tell_all.Goals.{in-Some+in_ok-tell_one, in_default}

-- the name that a probe is asked for, and a place where none is
asked_here : (files : List (Option (String Global))) (i : ℕ) (o : Option (String Global)) (name : String Global) (bytes : List ℕ) → i < length files →
    o ≡ get_or files i o → o ≡ Some name → bytes ≡ string_bytes name → IsAsked (asked files) i bytes
asked_here files i o name bytes lt is some e = subst (λ (b : List ℕ). IsAsked (asked files) i b) (sym e) (asked_at files i o name lt is some)

no_name : (o : Option (String Global)) → ((name : String Global) → o ≡ Some name → ⊥) → option_map string_bytes o ≡ None
no_name None free = refl
no_name (Some x) free = absurd (free x refl)

not_asked : (files : List (Option (String Global))) (i : ℕ) (o : Option (String Global)) → i < length files → o ≡ get_or files i o →
    ((name : String Global) → o ≡ Some name → ⊥) → get_or (asked files) i None ≡ None
not_asked files i o lt is free = get_or-map (option_map string_bytes) files i o None lt ∙ ap (option_map string_bytes) (sym is) ∙ no_name o free

-- the frame of the room stays the same
module _ (m : Moment) (n : Netlist) (f g : Vec Word Global) (e : f ≡ g) where
  can_here : (s : ProbeState) → CanTell m (map (λ (w : Word). w.bits) g.items) s → CanTell m (map (λ (w : Word). w.bits) f.items) s
  can_here s h = subst (λ (x : Vec Word Global). CanTell m (map (λ (w : Word). w.bits) x.items) s) (sym e) h

  tells_here : (s x : ProbeState) → Tells (state_at m n (map (λ (w : Word). w.bits) f.items) s) x → Tells (state_at m n (map (λ (w : Word). w.bits) g.items) s) x
  tells_here s x h = subst (λ (y : Vec Word Global). Tells (state_at m n (map (λ (w : Word). w.bits) y.items) s) x) e h

  piece_is : (P : Type 0) (st : P → ProbeState) (names : Asked) (ps qs : List P) (i : ℕ) (q : P) → i < length qs → q ≡ get_or qs i q → ToldTo P st m n
      (map (λ (w : Word). w.bits) g.items) names ps qs i
      → text_at m n (map (λ (w : Word). w.bits) f.items) (st q) ≡ text_at m n (map (λ (w : Word). w.bits) g.items) (probe_at (map st ps) i)
  piece_is P st names ps qs i q lt is t =
      ap (λ (x : Vec Word Global). text_at m n (map (λ (w : Word). w.bits) x.items) (st q)) e ∙ text_was P st m n (map (λ (w : Word). w.bits) g.items) names ps qs i q lt is t

within : (files : List (Option (String Global))) (count : ℕ) → length files ≡ count → length (asked files) ≡ count
within files count e = length-map files (option_map string_bytes) ∙ e

pub probes-init : goal.probes-init
probes-init g c = record {
  told = none_told _ (λ p. (goal.Probe-dyn g (p.vtable, p.value)).state p.value) c.args.moment c.args.net.now
      (map (λ (w : Word). w.bits) c.args.room.now.frame.items) (asked c.args.files.now) c.args.probes.now;
  grown = λ apart. told_none (Grown c.args.moment) (asked c.args.files.now) _ (g.S.Shelf.told c.args.shelf.now).holds;
  same_frame = refl;
  quiet = refl;
  reads = reads_same _ _ refl;
  strays = λ h. strays_none _ _;
  there = there_none c.args.moment (asked c.args.files.now) (g.S.Shelf.told c.args.shelf.now).holds;
}

pub tell_one-requires : goal.tell_one-requires
tell_one-requires g c =
    let t = c.probes.invariant.told in
    let lt : c.probes.i < length c.probes.probes = let a = c.probes-test.true in let b = t.long in omega (arith, a, b) in
    let lf : c.probes.i < length c.args.files.now = let a = c.probes-test.true in let b = c.requires.files in omega (arith, a, b) in
    let name = asked_here c.args.files.now c.probes.i c.index-files-i.result c.in-Some.name c.deref.result.now lf c.index-files-i.is c.in-Some.is c.deref.ensures in
    can_here c.args.moment c.args.net.now c.probes.room.frame c.args.room.now.frame c.probes.invariant.same_frame _
    (can_tell _ _ _ _ _ _ _ _ c.probes.i _ (get_or c.probes.probes c.probes.i c.index-probes-i.result) lt (ap (get_or c.probes.probes c.probes.i) c.index-probes-i.is) t name c.requires.can)

pub returns-in_err-tell_one-clause-part : goal.returns-in_err-tell_one-clause-part
returns-in_err-tell_one-clause-part g c =
    let t = c.probes.invariant.told in
    let lt : c.probes.i < length c.probes.probes = let a = c.probes-test.true in let b = t.long in omega (arith, a, b) in
    let lf : c.probes.i < length c.args.files.now = let a = c.probes-test.true in let b = c.requires.files in omega (arith, a, b) in
    let name = asked_here c.args.files.now c.probes.i c.index-files-i.result c.in-Some.name c.deref.result.now lf c.index-files-i.is c.in-Some.is c.deref.ensures in
    let piece = piece_is c.args.moment c.args.net.now c.probes.room.frame c.args.room.now.frame c.probes.invariant.same_frame _ _ _ _ _ c.probes.i
    (get_or c.probes.probes c.probes.i c.index-probes-i.result) lt (ap (get_or c.probes.probes c.probes.i) c.index-probes-i.is) t in
    let p = err_from_is_err_and c.from_residual.result c.from_residual.ensures.1 in
    rw (p.1, p.2)
    (record {
      grown = λ apart. told_part c.args.moment (asked c.args.files.now) _ c.probes.i c.deref.result.now _ _ _ _ apart name piece (c.probes.invariant.grown apart) c.in_err-tell_one.ensures.part;
      stopped = stopped_at _ _ _ _ _ _ _ _ c.probes.i c.deref.result.now (get_or c.probes.probes c.probes.i c.index-probes-i.result) c.tell_one.new.probe
          c.in_err-tell_one.field-0.0 _ _ _ lt (ap (get_or c.probes.probes c.probes.i) c.index-probes-i.is) name t c.probes.invariant.reads
          c.in_err-tell_one.ensures.blames;
    })

pub returns-in_err-tell_one-clause-probes : goal.returns-in_err-tell_one-clause-probes
returns-in_err-tell_one-clause-probes g c =
    let t = c.probes.invariant.told in
    let lt : c.probes.i < length c.probes.probes = let a = c.probes-test.true in let b = t.long in omega (arith, a, b) in
    let lf : c.probes.i < length c.args.files.now = let a = c.probes-test.true in let b = c.requires.files in omega (arith, a, b) in
    let name = asked_here c.args.files.now c.probes.i c.index-files-i.result c.in-Some.name c.deref.result.now lf c.index-files-i.is c.in-Some.is c.deref.ensures in
    keeps_more _ _ _ _ _ c.probes.i c.deref.result.now (get_or c.probes.probes c.probes.i c.index-probes-i.result) c.tell_one.new.probe lt
    (ap (get_or c.probes.probes c.probes.i) c.index-probes-i.is) name c.in_err-tell_one.ensures.same_probe.kind c.in_err-tell_one.ensures.same_probe.faults t.kept

pub returns-in_err-tell_one-clause-reads : goal.returns-in_err-tell_one-clause-reads
returns-in_err-tell_one-clause-reads g c = reads_then _ _ _ c.probes.invariant.reads c.in_err-tell_one.ensures.reads

pub probes-preserved : goal.probes-preserved
probes-preserved g c =
    let t = c.probes.invariant.told in
    let lt : c.probes.i < length c.probes.probes = let a = c.probes-test.true in let b = t.long in omega (arith, a, b) in
    let lf : c.probes.i < length c.args.files.now = let a = c.probes-test.true in let b = c.requires.files in omega (arith, a, b) in
    elim c.match-files-i.branch [
      | in-Some+in_ok-tell_one w ↦
          let name = asked_here c.args.files.now c.probes.i c.index-files-i.result w.in-Some.name w.deref.result.now lf c.index-files-i.is w.in-Some.is w.deref.ensures in
          let piece = piece_is c.args.moment c.args.net.now c.probes.room.frame c.args.room.now.frame c.probes.invariant.same_frame _ _ _ _ _
          c.probes.i (get_or c.probes.probes c.probes.i w.index-probes-i.result) lt (ap (get_or c.probes.probes c.probes.i) w.index-probes-i.is) t in
          rw (w.probes-is, w.shelf-is, w.room-is)
          (record {
            told = more_told _ _ _ _ _ _ _ _ c.probes.i w.deref.result.now (get_or c.probes.probes c.probes.i w.index-probes-i.result)
                w.tell_one.new.probe lt (ap (get_or c.probes.probes c.probes.i) w.index-probes-i.is) name
                (tells_here c.args.moment c.args.net.now c.probes.room.frame c.args.room.now.frame c.probes.invariant.same_frame _ _ w.in_ok-tell_one.ensures.told.tells)
                w.in_ok-tell_one.ensures.same_probe.kind w.in_ok-tell_one.ensures.same_probe.faults t;
            grown = λ apart. told_more (Grown c.args.moment) (asked c.args.files.now) _ c.probes.i w.deref.result.now _ _ _ _ apart name piece
                (c.probes.invariant.grown apart) w.in_ok-tell_one.ensures.grown;
            same_frame = w.in_ok-tell_one.ensures.same_frame ∙ c.probes.invariant.same_frame;
            quiet = w.in_ok-tell_one.ensures.told.quiet ∙ c.probes.invariant.quiet;
            reads = reads_then _ _ _ c.probes.invariant.reads w.in_ok-tell_one.ensures.reads;
            strays = λ h. strays_more c.args.moment (asked c.args.files.now) c.probes.i w.deref.result.now _ _ _ _ _ name (c.probes.invariant.there h)
                (c.probes.invariant.strays h) w.in_ok-tell_one.ensures.strays;
            there = λ h. told_there_more c.args.moment (asked c.args.files.now) c.probes.i w.deref.result.now _ _ _ _ name (c.probes.invariant.there h) w.in_ok-tell_one.ensures.grown;
          })
      | in_default w ↦
          let none = not_asked c.args.files.now c.probes.i c.index-files-i.result lf c.index-files-i.is w.in_default.not-Some in
          rw (w.probes-is, w.shelf-is, w.room-is)
          (record {
            told = skip_told _ _ _ _ _ _ _ _ c.probes.i none t;
            grown = λ apart. told_skip (Grown c.args.moment) (asked c.args.files.now) _ c.probes.i _ _ none (c.probes.invariant.grown apart);
            same_frame = c.probes.invariant.same_frame;
            quiet = c.probes.invariant.quiet;
            reads = c.probes.invariant.reads;
            strays = c.probes.invariant.strays;
            there = λ h. told_there_skip c.args.moment (asked c.args.files.now) c.probes.i _ _ none (c.probes.invariant.there h);
          })
    ]

pub returns-clause-told : goal.returns-clause-told
returns-clause-told g c =
    let long : length (asked c.args.files.now) ≤ c.probes.i =
    let a = c.probes-test.false in let b = within c.args.files.now _ c.requires.files in omega (arith, a, b) in
    record {
      grown = λ apart. told_all (Grown c.args.moment) (asked c.args.files.now) _ c.probes.i _ _ long (c.probes.invariant.grown apart);
      quiet = c.probes.invariant.quiet;
      tells = λ i name k.
          let w = is_within (asked c.args.files.now) i name k in
          let lt : i < c.probes.i = omega (arith, w, long) in
          c.probes.invariant.told.told i name lt k;
      there = λ h. told_there_all c.args.moment (asked c.args.files.now) c.probes.i _ _ long (c.probes.invariant.there h);
    }
