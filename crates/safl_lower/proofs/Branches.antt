-- The circuit of a branch and of a let from the circuits of its parts.
use Rattle.safl_lower.proofs.Common.{Grows, IsSource, Lowered, LoweredAll, Netlist, Never, Out, Readiness, ReadyAt, Settles, Sig, SiteTable}
use Rattle.safl_lower.proofs.Common.{TailCall, Val, Wired, Word, and-true, gate, grows_on, holds_calls, is_ready, on, or_else_assoc}
use Rattle.safl_lower.proofs.Common.{pick_ap, settles_on, sites_in, sites_of, tails_of, wired_before, words}
use Rattle.std.proofs.Common.{◌≡◌, ℕ, ◌+◌, ◌≤◌, List, ◌++◌, map, length, Option, Some, None, Bool, true, false, not, ◌&&◌, cond, ◌==◌, ◌⊎◌, ◌↔◌, refl, sym, ap, subst, ◌∙◌, ⊎_elim, inr, arith}
use Rattle.safl_term.specs.Terms.{Term, If, Let, Terms}
use Rattle.safl_term.specs.Readiness.{Answer, Ready, LoopTo, NotYet, word_of, select, with_all, or_else, answer, answers, wanted, wanted_in}
use Rattle.safl_lower.specs.Entries.{asked, went, Told, site_of, member_of, cost}
use Rattle.safl_lower.specs.Lowering.{back_of, sent_of, gives, goes_of, Shaped, Lowers, LowersAll}
use Rattle.safl_lower.proofs.Arms.{gate_or, gate_none, if_value, if_wants, let_value, let_wants}
use Rattle.safl_lower.proofs.Kept.{shaped_kept, setting_on, setting_below}
use Rattle.safl_lower.proofs.Typing.{test_typed, yes_typed, no_typed, bound_typed, body_typed}
use Rattle.safl_lower.proofs.Quiet.{no_wants, no_going}
use Rattle.safl_lower.proofs.Gathered.{words_more, stays, no_goes, more_twice, out_kept, told_by, told_more, never_is, gate_is_none, if_first, if_second, let_second, mates_same}
use Rattle.safl_lower.proofs.Building.{source_grown, sources_grown}

-- ---- an if

-- a branch that holds no calls gives none, whatever its path is
any_path : {A : Type 0} (h x y : Bool) (o : Option A) → (h ≡ true → x ≡ y) → (h ≡ false → o ≡ None) → gate x o ≡ gate y o
any_path true x y o e f = ap (λ (b : Bool). gate b o) (e refl)
any_path false x y o e f = ap (gate x) (f refl) ∙ gate_none x ∙ sym (ap (gate y) (f refl) ∙ gate_none y)

any_asked : {A : Type 0} (h x y q : Bool) (o a b : Option A) → (h ≡ true → x ≡ y) → (h ≡ false → o ≡ None) → b ≡ or_else a (gate (x && q) o) → b ≡ or_else a (gate (y && q) o)
any_asked h x y q o a b e f g = g ∙ ap (or_else a) (any_path h (x && q) (y && q) o (λ t. ap (λ (z : Bool). z && q) (e t)) f)

if_asked : {A : Type 0} (p q r : Bool) (w : Word) (pc : Answer) (x0 x1 x2 x3 wc wa wb : Option A)
    → gate r (Some w) ≡ word_of pc
    → x1 ≡ or_else x0 (gate (p && q) wc) → x2 ≡ or_else x1 (gate (((p && r) && (w.bits == 1)) && q) wa) → x3 ≡ or_else x2 (gate (((p && r) && not (w.bits == 1)) && q) wb)
    → x3 ≡ or_else x0 (gate (p && q) (or_else wc (select pc None wa wb)))
if_asked p q r w pc x0 x1 x2 x3 wc wa wb e e1 e2 e3 =
    let ga = gate (((p && r) && (w.bits == 1)) && q) wa in
    let gb = gate (((p && r) && not (w.bits == 1)) && q) wb in
    let gc = gate (p && q) wc in
    e3 ∙ ap (λ (x : Option _). or_else x gb) e2 ∙ or_else_assoc x1 ga gb
    ∙ ap (λ (x : Option _). or_else x (or_else ga gb)) e1 ∙ or_else_assoc x0 gc (or_else ga gb)
    ∙ ap (λ (x : Option _). or_else x0 (or_else gc x))
    (if_wants p q r w pc wa wb e)
    ∙ ap (or_else x0) (sym (gate_or (p && q) wc (select pc None wa wb)))

goes_select : (x y z : Answer) → goes_of (select x NotYet y z) ≡ select x None (goes_of y) (goes_of z)
goes_select (Ready w) y z = pick_ap goes_of w.bits y z
goes_select (LoopTo h vs) y z = refl
goes_select NotYet y z = refl

without : {A : Type 0} (x y z : Option A) (p : Bool) → x ≡ or_else y (gate p z) → x ≡ or_else y (gate (p && true) z)
without x y z p e = e ∙ ap (λ (b : Bool). or_else y (gate b z)) (sym (and-true p))

pub record Branches (path : Sig) (n m : Netlist) (test : Lowered) (a b : Term) (yes no : Sig) : Type 0 where
  pub grows : Grows n m
  pub count : length m.signals ≤ length n.signals + 4
  pub yes_bit : IsSource m yes 1
  pub no_bit : IsSource m no 1
  pub yes_on : holds_calls a ≡ true → (v : Val) → Wired m v → on v yes ≡ ((on v path && is_ready v test.ready) && on v test.value)
  pub no_on : holds_calls b ≡ true → (v : Val) → Wired m v → on v no ≡ ((on v path && is_ready v test.ready) && not (on v test.value))
  pub settles : Settles n m

pub record Chosen (n m : Netlist) (test yes no r : Lowered) : Type 0 where
  pub grows : Grows n m
  pub count : length m.signals ≤ length n.signals + 5
  pub shape : (w : ℕ) → Shaped n yes w → Shaped n no w → Shaped m r w
  pub value : (v : Val) → Wired m v → gives v r ≡ gate (is_ready v test.ready) (cond (on v test.value) (gives v yes) (gives v no))
  pub never : r.ready ≡ Never → (test.ready ≡ Never) ⊎ ((yes.ready ≡ Never) × (no.ready ≡ Never))
  pub settles : Settles n m

pub lowers_if : {P : SiteTable} {slots : List Sig} {path py pn : Sig} {n0 n1 n2 n3 n4 n5 : Netlist} {o0 o1 o2 o3 : Out} {test yes no r : Lowered} {c a b : Term}
    → Lowers P slots path n0 n1 o0 o1 test c → Branches path n1 n2 test a b py pn → Lowers P slots py n2 n3 o1 o2 yes a → Lowers P slots pn n3 n4 o2 o3 no b → Chosen n4 n5 test yes no r
    → Lowers P slots path n0 n5 o0 o3 r (If c a b)
unfolding answer wanted
lowers_if {P} {slots} {path} {py} {pn} {n0} {n1} {n2} {n3} {n4} {n5} {o0} {o1} {o2} {o3} {test} {yes} {no} {r} {c} {a} {b} hc hp ha hb hr = record {
  tails = λ F tail env w t. more_twice (map member_of o0.loops.items) (map member_of o2.loops.items) (map member_of o3.loops.items) (tails_of a)
      (tails_of b) (ha.tails F tail env w (yes_typed t) ∙ ap (λ (l : List TailCall). map member_of l ++ tails_of a) (hc.quiet F env 1 (test_typed t)))
      (hb.tails F tail env w (no_typed t));
  settles = settles_on hc.settles (settles_on hp.settles (settles_on ha.settles (settles_on hb.settles hr.settles)));
  quiet = λ F env w t. hb.quiet F env w (no_typed t) ∙ ha.quiet F env w (yes_typed t) ∙ hc.quiet F env 1 (test_typed t);
  cheap = λ F tail env w t. let i = ap cost (hc.quiet F env 1 (test_typed t)) in let j = ha.cheap F tail env w (yes_typed t) in let k = hb.cheap F tail env w (no_typed t) in omega (arith, i, j, k);
  within = λ F tail env w s t x.
      let s2 = setting_on (grows_on hc.grows hp.grows) s hp.yes_bit in
      let s3 = setting_on ha.grows s2 (source_grown ha.grows pn 1 hp.no_bit) in
      hb.within F tail env w s3 (no_typed t) (ha.within F tail env w s2 (yes_typed t) (hc.within F false env 1 s (test_typed t) x));
  more = hc.more ++ (ha.more ++ hb.more);
  loops_more = more_twice o0.loops.items o1.loops.items o3.loops.items hc.more (ha.more ++ hb.more) hc.loops_more
      (more_twice o1.loops.items o2.loops.items o3.loops.items ha.more hb.more ha.loops_more hb.loops_more);
  told = λ F tail scope w t v w5.
      let w4 = wired_before hr.grows w5 in
      let w3 = wired_before hb.grows w4 in
      let w2 = wired_before ha.grows w3 in
      let w1 = wired_before hp.grows w2 in
      let back = back_of v P in
      let env = words v slots in
      let pc = answer back env c in
      let ga = goes_of (answer back env a) in
      let gb = goes_of (answer back env b) in
      let yes_path = (on v path && is_ready v test.ready) && on v test.value in
      let no_path = (on v path && is_ready v test.ready) && not (on v test.value) in
      let all = gate (on v path) (select pc None ga gb) in
      subst (Told v (hc.more ++ (ha.more ++ hb.more))) (ap (gate (on v path)) (sym (goes_select pc (answer back env a) (answer back env b))))
      (told_more v hc.more (ha.more ++ hb.more) all
      (told_by v hc.more (gate (on v path) (goes_of pc)) all (λ z q. never_is z (gate (on v path) (goes_of pc))
      (gate_is_none (on v path) (goes_of pc) (no_goes back c env (test_typed t))) q) (hc.told F false scope 1 (test_typed t) v w1))
      (told_more v ha.more hb.more all
      (told_by v ha.more (gate (on v py) ga) all (λ z q. if_first (on v path) (is_ready v test.ready) (v test.value.0) pc ga gb z (hc.value v w1)
      (q ∙ any_path (holds_calls a) (on v py) yes_path ga (λ x. hp.yes_on x v w2) (no_going back a env))) (ha.told F tail scope w (yes_typed t) v w3))
      (told_by v hb.more (gate (on v pn) gb) all (λ z q. if_second (on v path) (is_ready v test.ready) (v test.value.0) pc ga gb z (hc.value v w1)
      (q ∙ any_path (holds_calls b) (on v pn) no_path gb (λ x. hp.no_on x v w2) (no_going back b env))) (hb.told F tail scope w (no_typed t) v w4))));
  sites = more_twice (map site_of o0.wants.items) (map site_of o1.wants.items) (map site_of o3.wants.items) (sites_of c) (sites_of a ++ sites_of b)
      hc.sites (more_twice (map site_of o1.wants.items) (map site_of o2.wants.items) (map site_of o3.wants.items) (sites_of a) (sites_of b) ha.sites hb.sites);
  fits = λ F tail env w s t x.
      let s2 = setting_on (grows_on hc.grows hp.grows) s hp.yes_bit in
      let s3 = setting_on ha.grows s2 (source_grown ha.grows pn 1 hp.no_bit) in
      out_kept hr.grows (hb.fits F tail env w s3 (no_typed t) (ha.fits F tail env w s2 (yes_typed t) (out_kept hp.grows (hc.fits F false env 1 s (test_typed t) x))));
  grows = grows_on hc.grows (grows_on hp.grows (grows_on ha.grows (grows_on hb.grows hr.grows)));
  count = let i = hc.count in let j = hp.count in let k = ha.count in let l = hb.count in let m = hr.count in omega arith;
  shape = λ F tail env w s t.
      let s2 = setting_on (grows_on hc.grows hp.grows) s hp.yes_bit in
      let s3 = setting_on ha.grows s2 (source_grown ha.grows pn 1 hp.no_bit) in
      hr.shape w (shaped_kept hb.grows yes w (ha.shape F tail env w s2 (yes_typed t))) (hb.shape F tail env w s3 (no_typed t));
  value = λ v w5.
      let w4 = wired_before hr.grows w5 in
      let w3 = wired_before hb.grows w4 in
      let w1 = wired_before hp.grows (wired_before ha.grows w3) in
      let back = back_of v P in
      let env = words v slots in
      hr.value v w5 ∙ if_value (is_ready v test.ready) (v test.value.0) (answer back env c) (answer back env a) (answer back env b) (gives v yes)
      (gives v no) (hc.value v w1) (ha.value v w3) (hb.value v w4);
  ever = λ F env w t no. ⊎_elim (hc.ever F env 1 (test_typed t)) (λ x. ha.ever F env w (yes_typed t) x.0) (hr.never no);
  wide = λ F tail env w s t no.
      let s2 = setting_on (grows_on hc.grows hp.grows) s hp.yes_bit in
      ⊎_elim (λ x. absurd (hc.ever F env 1 (test_typed t) x)) (λ x. ha.wide F tail env w s2 (yes_typed t) x.0) (hr.never no);
  wants = λ F tail scope w t v w5 k.
      let w4 = wired_before hr.grows w5 in
      let w3 = wired_before hb.grows w4 in
      let w2 = wired_before ha.grows w3 in
      let w1 = wired_before hp.grows w2 in
      let back = back_of v P in
      let env = words v slots in
      let unsent = not (sent_of v P k) in
      let reached = on v path && is_ready v test.ready in
      if_asked (on v path) unsent (is_ready v test.ready) (v test.value.0) (answer back env c) (asked v o0.wants.items k) (asked v o1.wants.items k)
      (asked v o2.wants.items k) (asked v o3.wants.items k) (wanted back env c k) (wanted back env a k) (wanted back env b k)
      (hc.value v w1) (hc.wants F false scope 1 (test_typed t) v w1 k)
      (any_asked (holds_calls a) (on v py) (reached && on v test.value) unsent (wanted back env a k) (asked v o1.wants.items k)
      (asked v o2.wants.items k) (λ x. hp.yes_on x v w2) (no_wants back a env k) (ha.wants F tail scope w (yes_typed t) v w3 k))
      (any_asked (holds_calls b) (on v pn) (reached && not (on v test.value)) unsent (wanted back env b k) (asked v o2.wants.items k)
      (asked v o3.wants.items k) (λ x. hp.no_on x v w2) (no_wants back b env k) (hb.wants F tail scope w (no_typed t) v w4 k));
  loops = λ F tail scope w t v w5.
      let w4 = wired_before hr.grows w5 in
      let w3 = wired_before hb.grows w4 in
      let w2 = wired_before ha.grows w3 in
      let w1 = wired_before hp.grows w2 in
      let back = back_of v P in
      let env = words v slots in
      let pc = answer back env c in
      let x0 = went v o0.loops.items in
      let ga = goes_of (answer back env a) in
      let gb = goes_of (answer back env b) in
      let x1 = went v o1.loops.items in
      let x2 = went v o2.loops.items in
      let x3 = went v o3.loops.items in
      let reached = on v path && is_ready v test.ready in
      if_asked (on v path) true (is_ready v test.ready) (v test.value.0) pc x0 x1 x2 x3 (goes_of pc) ga gb
      (hc.value v w1) (without x1 x0 (goes_of pc) (on v path) (hc.loops F false scope 1 (test_typed t) v w1))
      (any_asked (holds_calls a) (on v py) (reached && on v test.value) true ga x1 x2 (λ x. hp.yes_on x v w2) (no_going back a env)
      (without x2 x1 ga (on v py) (ha.loops F tail scope w (yes_typed t) v w3)))
      (any_asked (holds_calls b) (on v pn) (reached && not (on v test.value)) true gb x2 x3 (λ x. hp.no_on x v w2) (no_going back b env)
      (without x3 x2 gb (on v pn) (hb.loops F tail scope w (no_typed t) v w4)))
      ∙ ap (λ (u : Bool). or_else x0 (gate u (or_else (goes_of pc) (select pc None (goes_of (answer back env a)) (goes_of (answer back env b)))))) (and-true (on v path))
      ∙ ap (λ (o : Option (ℕ × List Word)). or_else x0 (gate (on v path) (or_else o (select pc None (goes_of (answer back env a)) (goes_of (answer back env b)))))) (no_goes back c env (test_typed t))
      ∙ ap (λ (o : Option (ℕ × List Word)). or_else x0 (gate (on v path) o)) (sym (goes_select pc (answer back env a) (answer back env b)));
}

-- ---- a let

goes_with_all : (o : Option (List Word)) (go : List Word → Answer) → goes_of (with_all o NotYet go) ≡ with_all o None (λ vs. goes_of (go vs))
goes_with_all None go = refl
goes_with_all (Some vs) go = refl

let_asked : {A : Type 0} (p q r : Bool) (ws : List Word) (o : Option (List Word)) (go : List Word → Option A) (x0 x1 x2 wb w : Option A)
    → gate r (Some ws) ≡ o → w ≡ go ws
    → x1 ≡ or_else x0 (gate (p && q) wb) → x2 ≡ or_else x1 (gate ((p && r) && q) w)
    → x2 ≡ or_else x0 (gate (p && q) (or_else wb (with_all o None go)))
let_asked p q r ws o go x0 x1 x2 wb w e g e1 e2 =
    let gw = gate ((p && r) && q) w in
    e2 ∙ ap (λ (x : Option _). or_else x gw) e1 ∙ or_else_assoc x0 (gate (p && q) wb) gw
    ∙ ap (λ (x : Option _). or_else x0 (or_else (gate (p && q) wb) x)) (ap (gate ((p && r) && q)) g ∙ let_wants p q r ws o go e)
    ∙ ap (or_else x0) (sym (gate_or (p && q) wb (with_all o None go)))

pub record Inner (path : Sig) (n m : Netlist) (b : Term) (ready : Readiness) (inner : Sig) : Type 0 where
  pub grows : Grows n m
  pub count : length m.signals ≤ length n.signals + 1
  pub bit : IsSource m inner 1
  pub is : holds_calls b ≡ true → (v : Val) → Wired m v → on v inner ≡ (on v path && is_ready v ready)
  pub settles : Settles n m

pub record Both (n m : Netlist) (q r s : Readiness) : Type 0 where
  pub grows : Grows n m
  pub count : length m.signals ≤ length n.signals + 1
  pub bit : ReadyAt m s
  pub is : (v : Val) → Wired m v → is_ready v s ≡ (is_ready v q && is_ready v r)
  pub never : (s ≡ Never) ↔ ((q ≡ Never) ⊎ (r ≡ Never))
  pub settles : Settles n m

pub lowers_let : {P : SiteTable} {slots : List Sig} {path inner : Sig} {n0 n1 n2 n3 n4 : Netlist} {o0 o1 o2 : Out} {bound : LoweredAll} {body : Lowered} {ready : Readiness} {bs : Terms} {b : Term}
    → LowersAll P slots path n0 n1 o0 o1 bound bs → Inner path n1 n2 b bound.ready inner → Lowers P (slots ++ bound.values.items) inner n2 n3 o1 o2 body b → Both n3 n4 bound.ready body.ready ready
    → Lowers P slots path n0 n4 o0 o2 (record { ready = ready; value = body.value }) (Let bs b)
unfolding answer wanted
lowers_let {P} {slots} {path} {inner} {n0} {n1} {n2} {n3} {n4} {o0} {o1} {o2} {bound} {body} {ready} {bs} {b} hs hi hb hr = record {
  tails = λ F tail env w t. hb.tails F tail (env ++ t.width.0) w (body_typed t) ∙ ap (λ (l : List TailCall). map member_of l ++ tails_of b) (hs.quiet F env t.width.0 (bound_typed t));
  settles = settles_on hs.settles (settles_on hi.settles (settles_on hb.settles hr.settles));
  quiet = λ F env w t. hb.quiet F (env ++ t.width.0) w (body_typed t) ∙ hs.quiet F env t.width.0 (bound_typed t);
  cheap = λ F tail env w t. let i = ap cost (hs.quiet F env t.width.0 (bound_typed t)) in let j = hb.cheap F tail (env ++ t.width.0) w (body_typed t) in omega (arith, i, j);
  within = λ F tail env w s t x.
      let a = hs.shape F env t.width.0 s (bound_typed t) in
      let k = setting_below bound.values.items t.width.0 (grows_on hs.grows hi.grows) s hi.bit (sources_grown hi.grows bound.values.items t.width.0 a.widths) in
      hb.within F tail (env ++ t.width.0) w k (body_typed t) (mates_same F o0.loops.items o1.loops.items (hs.quiet F env t.width.0 (bound_typed t)) x);
  more = hs.more ++ hb.more;
  loops_more = more_twice o0.loops.items o1.loops.items o2.loops.items hs.more hb.more hs.loops_more hb.loops_more;
  told = λ F tail scope w t v w4.
      let w3 = wired_before hr.grows w4 in
      let w2 = wired_before hb.grows w3 in
      let w1 = wired_before hi.grows w2 in
      let back = back_of v P in
      let env = words v slots in
      let ws = words v bound.values.items in
      let o = answers back env bs in
      let go = λ (vs : List Word). goes_of (answer back (env ++ vs) b) in
      let x = goes_of (answer back (words v (slots ++ bound.values.items)) b) in
      let all = gate (on v path) (with_all o None go) in
      subst (Told v (hs.more ++ hb.more)) (ap (gate (on v path)) (sym (goes_with_all o (λ vs. answer back (env ++ vs) b))))
      (told_more v hs.more hb.more all
      (told_by v hs.more None all (λ z q. never_is z None refl q) (hs.told F scope t.width.0 (bound_typed t) v w1))
      (told_by v hb.more (gate (on v inner) x) all (λ z q. let_second (on v path) (is_ready v bound.ready) ws o go x z (hs.value v w1)
      (ap (λ (l : List Word). goes_of (answer back l b)) (words_more v slots bound.values.items))
      (q ∙ any_path (holds_calls b) (on v inner) (on v path && is_ready v bound.ready) x (λ h. hi.is h v w2)
      (no_going back b (words v (slots ++ bound.values.items))))) (hb.told F tail (scope ++ t.width.0) w (body_typed t) v w3)));
  sites = more_twice (map site_of o0.wants.items) (map site_of o1.wants.items) (map site_of o2.wants.items) (sites_in bs) (sites_of b) hs.sites hb.sites;
  fits = λ F tail env w s t x.
      let a = hs.shape F env t.width.0 s (bound_typed t) in
      let k = setting_below bound.values.items t.width.0 (grows_on hs.grows hi.grows) s hi.bit (sources_grown hi.grows bound.values.items t.width.0 a.widths) in
      out_kept hr.grows (hb.fits F tail (env ++ t.width.0) w k (body_typed t) (out_kept hi.grows (hs.fits F env t.width.0 s (bound_typed t) x)));
  grows = grows_on hs.grows (grows_on hi.grows (grows_on hb.grows hr.grows));
  count = let i = hs.count in let j = hi.count in let k = hb.count in let l = hr.count in omega arith;
  shape = λ F tail env w s t.
      let a = hs.shape F env t.width.0 s (bound_typed t) in
      let k = setting_below bound.values.items t.width.0 (grows_on hs.grows hi.grows) s hi.bit (sources_grown hi.grows bound.values.items t.width.0 a.widths) in
      record { ready = hr.bit; width = λ ever. source_grown hr.grows body.value w ((hb.shape F tail (env ++ t.width.0) w k (body_typed t)).width (λ no. ever (hr.never.1 (inr no)))) };
  ever = λ F env w t no. ⊎_elim (hs.ever F env t.width.0 (bound_typed t)) (hb.ever F (env ++ t.width.0) w (body_typed t)) (hr.never.0 no);
  wide = λ F tail env w s t no.
      let a = hs.shape F env t.width.0 s (bound_typed t) in
      let k = setting_below bound.values.items t.width.0 (grows_on hs.grows hi.grows) s hi.bit (sources_grown hi.grows bound.values.items t.width.0 a.widths) in
      ⊎_elim (λ x. absurd (hs.ever F env t.width.0 (bound_typed t) x)) (hb.wide F tail (env ++ t.width.0) w k (body_typed t)) (hr.never.0 no);
  value = λ v w4.
      let w3 = wired_before hr.grows w4 in
      let w1 = wired_before hi.grows (wired_before hb.grows w3) in
      let back = back_of v P in
      let env = words v slots in
      let ws = words v bound.values.items in
      ap (λ (x : Bool). gate x (Some (v body.value.0))) (hr.is v w4)
      ∙ let_value (is_ready v bound.ready) (is_ready v body.ready) ws (answers back env bs) (v body.value.0) (λ vs. answer back (env ++ vs) b) (hs.value v w1)
      (hb.value v w3 ∙ ap (λ (l : List Word). word_of (answer back l b)) (words_more v slots bound.values.items));
  wants = λ F tail scope w t v w4 k.
      let w3 = wired_before hr.grows w4 in
      let w2 = wired_before hb.grows w3 in
      let w1 = wired_before hi.grows w2 in
      let back = back_of v P in
      let env = words v slots in
      let ws = words v bound.values.items in
      let unsent = not (sent_of v P k) in
      let below = words v (slots ++ bound.values.items) in
      let_asked (on v path) unsent (is_ready v bound.ready) ws (answers back env bs) (λ vs. wanted back (env ++ vs) b k) (asked v o0.wants.items k)
      (asked v o1.wants.items k) (asked v o2.wants.items k) (wanted_in back env bs k) (wanted back below b k)
      (hs.value v w1) (ap (λ (l : List Word). wanted back l b k) (words_more v slots bound.values.items)) (hs.wants F scope t.width.0 (bound_typed t) v w1 k)
      (any_asked (holds_calls b) (on v inner) (on v path && is_ready v bound.ready) unsent (wanted back below b k) (asked v o1.wants.items k)
      (asked v o2.wants.items k) (λ h. hi.is h v w2) (no_wants back b below k) (hb.wants F tail (scope ++ t.width.0) w (body_typed t) v w3 k));
  loops = λ F tail scope w t v w4.
      let w3 = wired_before hr.grows w4 in
      let w2 = wired_before hb.grows w3 in
      let w1 = wired_before hi.grows w2 in
      let back = back_of v P in
      let env = words v slots in
      let ws = words v bound.values.items in
      let x0 = went v o0.loops.items in
      let o = answers back env bs in
      let x1 = went v o1.loops.items in
      let x2 = went v o2.loops.items in
      let below = words v (slots ++ bound.values.items) in
      let g = goes_of (answer back below b) in
      let_asked (on v path) true (is_ready v bound.ready) ws o (λ vs. goes_of (answer back (env ++ vs) b)) x0 x1 x2 None g
      (hs.value v w1) (ap (λ (l : List Word). goes_of (answer back l b)) (words_more v slots bound.values.items)) (hs.loops F scope t.width.0 (bound_typed t) v w1 ∙ stays x0 (on v path && true))
      (any_asked (holds_calls b) (on v inner) (on v path && is_ready v bound.ready) true g x1 x2 (λ h. hi.is h v w2) (no_going back b below)
      (without x2 x1 g (on v inner) (hb.loops F tail (scope ++ t.width.0) w (body_typed t) v w3)))
      ∙ ap (λ (c : Bool). or_else x0 (gate c (with_all o None (λ vs. goes_of (answer back (env ++ vs) b))))) (and-true (on v path))
      ∙ ap (λ (y : Option (ℕ × List Word)). or_else x0 (gate (on v path) y)) (sym (goes_with_all o (λ vs. answer back (env ++ vs) b)));
}
