-- The circuits of a call and of a tail call.
use Rattle.safl_lower.proofs.Common.{AreSources, Grows, Lowered, LoweredAll, Netlist, Never, Out, Owner, Program, Readiness, ReadyAt}
use Rattle.safl_lower.proofs.Common.{Settles, Sig, SiteTable, Spans, SpansAll, TailCall, Typed, Val, When, Wired, Word, eqb_yes, false_true}
use Rattle.safl_lower.proofs.Common.{fits_all_le, fits_le, gate, grows_on, is_ready, map_push, ne_eqb, neither, nil_at_end, on}
use Rattle.safl_lower.proofs.Common.{or_else_assoc, or_else_none, settles_on, sites_in, wired_before, with_none, words}
use Rattle.std.proofs.Common.{◌≡◌, ℕ, suc, ◌+◌, ◌<◌, ◌≤◌, List, [], ◌∷◌, ◌++◌, map, length, Option, Some, None, Bool, true, false, not, ◌&&◌, cond, ◌==◌, T, refl, sym, ap, subst, ◌∙◌, arith}
use Rattle.safl_term.specs.Terms.{Term, Const, Var, Op, If, Let, Call, Loop, Terms, Nil, Cons}
use Rattle.safl_term.specs.Readiness.{Answer, Ready, LoopTo, NotYet, loop_to, select, with_all, or_else, answer, answers, wanted, wanted_in}
use Rattle.safl_term.proofs.PlainTerms.{loop_word, shown_call}
use Rattle.safl_lower.specs.Entries.{asked, went, site_of, member_of, Mates, WantsFit, LoopsFit, cost}
use Rattle.safl_lower.specs.Lowering.{returned_word, back_of, sent_of, open_at, gives, gathered, goes_of, Setting, Shaped, Lowers, LowersAll, ShowsPort, goes_with, Enters, Leaves}
use Rattle.safl_lower.proofs.Arms.{gate_or, gate_none}
use Rattle.safl_lower.proofs.Kept.{shaped_all_kept}
use Rattle.safl_lower.proofs.Typing.{args_typed, next_typed}
use Rattle.safl_lower.proofs.Gathered.{stays_by, pick_none, more_twice, out_kept, wants_end, loops_end, told_by, told_more, never_is, taken_tells, cost_end, mates_end, mates_same}
use Rattle.safl_lower.proofs.Goes.{goes_call}

-- ---- no site below the term's is wanted

pub select_none : {A : Type 0} (c : Answer) (x y : Option A) → x ≡ None → y ≡ None → select c None x y ≡ None
select_none (Ready u) x y e f = pick_none u.bits x y e f
select_none (LoopTo h vs) x y e f = refl
select_none NotYet x y e f = refl

mutual
  unfolding wanted

  wanted_below : (p : Program) (g : ℕ) (tail : Bool) (lo hi : ℕ) (back : ℕ → Option Word) (t : Term) (env : List Word) (j : ℕ) → Spans p g tail lo hi t → j < lo → wanted back env t j ≡ None
  wanted_below p g tail lo hi back (Const w) env j h l = refl
  wanted_below p g tail lo hi back (Var i) env j h l = refl
  wanted_below p g tail lo hi back (Op o ts) env j h l = wanted_below_in p g lo hi back ts env j h l
  wanted_below p g tail lo hi back (If c a b) env j (m, n, x, y, z) l =
      let i = fits_le p g false lo m c x in
      let k = fits_le p g tail m n a y in
      neither (wanted back env c j) (select (answer back env c) None (wanted back env a j) (wanted back env b j))
      (wanted_below p g false lo m back c env j x l) (select_none (answer back env c) (wanted back env a j) (wanted back env b j)
      (wanted_below p g tail m n back a env j y (omega (arith, i, l))) (wanted_below p g tail n hi back b env j z (omega (arith, i, k, l))))
  wanted_below p g tail lo hi back (Let bs b) env j (m, x, y) l =
      let i = fits_all_le p g lo m bs x in
      neither (wanted_in back env bs j) (with_all (answers back env bs) None (λ vs. wanted back (env ++ vs) b j))
      (wanted_below_in p g lo m back bs env j x l) (with_none (answers back env bs) (λ vs. wanted back (env ++ vs) b j)
      (λ vs. wanted_below p g tail m hi back b (env ++ vs) j y (omega (arith, i, l))))
  wanted_below p g tail lo hi back (Call f k ts) env j (e, e1, e2, lt, h) l =
      ap (λ (t : Bool). cond t (answers back env ts) (wanted_in back env ts j)) (ne_eqb k j (λ s. absurd (omega (arith, s, e, l)))) ∙ wanted_below_in p g (suc lo) hi back ts env j h (omega (arith, l))
  wanted_below p g tail lo hi back (Loop f ts) env j (e, e1, h) l = wanted_below_in p g lo hi back ts env j h l

  wanted_below_in : (p : Program) (g lo hi : ℕ) (back : ℕ → Option Word) (ts : Terms) (env : List Word) (j : ℕ) → SpansAll p g lo hi ts → j < lo → wanted_in back env ts j ≡ None
  wanted_below_in p g lo hi back Nil env j h l = refl
  wanted_below_in p g lo hi back (Cons t ts) env j (m, x, y) l =
      let i = fits_le p g false lo m t x in
      neither (wanted back env t j) (wanted_in back env ts j) (wanted_below p g false lo m back t env j x l) (wanted_below_in p g m hi back ts env j y (omega (arith, i, l)))

-- a call's own want may come last, since its site doesn't stand in its arguments
own_last : {A : Type 0} (own : Bool) (x y : Option A) → (own ≡ true → y ≡ None) → or_else y (cond own x None) ≡ cond own x y
own_last true x y h = ap (λ (z : Option _). or_else z x) (h refl)
own_last false x y h = or_else_none y

-- ---- a call

when_ever : {A : Type 0} (s : Sig) → When s ≡ Never → A
when_ever s e = cc

at_site : {A : Type 0} (t : Bool) (k j : ℕ) (p : Bool) (sent : ℕ → Bool) (o : Option A) → (k == j) ≡ t → gate t (gate (p && not (sent k)) o) ≡ gate (p && not (sent j)) (cond t o None)
at_site true k j p sent o e = ap (λ (i : ℕ). gate (p && not (sent i)) o) (eqb_yes (subst T (sym e) tt))
at_site false k j p sent o e = sym (gate_none (p && not (sent j)))

pub record Asked (P : SiteTable) (path : Sig) (n m : Netlist) (o p : Out) (k : ℕ) (all : LoweredAll) (r : Lowered) : Type 0 where
  pub grows : Grows n m
  pub count : length m.signals ≤ length n.signals + 3
  pub given : ShowsPort P k r
  pub entry : Enters m o.wants.items p.wants.items k all
  pub loops : p.loops.items ≡ o.loops.items
  pub wants : (v : Val) → Wired m v → (j : ℕ) → asked v p.wants.items j ≡ or_else (asked v o.wants.items j) (gate (k == j) (gate (open_at v P path k) (gathered v all)))
  pub settles : Settles n m

pub lowers_call : {P : SiteTable} {slots : List Sig} {path : Sig} {n0 n1 n2 : Netlist} {o0 o1 o2 : Out} {all : LoweredAll} {f k : ℕ} {ts : Terms} {r : Lowered}
    → LowersAll P slots path n0 n1 o0 o1 all ts → Asked P path n1 n2 o1 o2 k all r
    → ((F : Owner) (tail : Bool) (env : List ℕ) (w : ℕ) → Setting n0 F P slots env path → Typed F tail env (Call f k ts) w → Shaped n2 r w)
    → Lowers P slots path n0 n2 o0 o2 r (Call f k ts)
unfolding answer wanted
lowers_call {P} {slots} {path} {n0} {n1} {n2} {o0} {o1} {o2} {all} {f} {k} {ts} {r} hs ha x = record {
  tails = λ F tail env w t. ap (map member_of) (ha.loops ∙ hs.quiet F env (F.program.params f) (args_typed t)) ∙ nil_at_end (map member_of o0.loops.items);
  settles = settles_on hs.settles ha.settles;
  quiet = λ F env w t. ha.loops ∙ hs.quiet F env (F.program.params f) (args_typed t);
  cheap = λ F tail env w t. let i = ap cost (ha.loops ∙ hs.quiet F env (F.program.params f) (args_typed t)) in omega (arith, i);
  within = λ F tail env w s t x. mates_same F o0.loops.items o2.loops.items (ha.loops ∙ hs.quiet F env (F.program.params f) (args_typed t)) x;
  more = hs.more;
  loops_more = ha.loops ∙ hs.loops_more;
  told = λ F tail env w t v h. told_by v hs.more None _ (λ z q. never_is z None refl q) (hs.told F env (F.program.params f) (args_typed t) v (wired_before ha.grows h));
  sites = more_twice (map site_of o0.wants.items) (map site_of o1.wants.items) (map site_of o2.wants.items) (sites_in ts) (k ∷ []) hs.sites
      (ap (map site_of) ha.entry.is ∙ map_push site_of o1.wants.items _);
  fits = λ F tail env w s t x.
      let y = out_kept ha.grows (hs.fits F env (F.program.params f) s (args_typed t) x) in
      let a = shaped_all_kept ha.grows all (F.program.params f) (hs.shape F env (F.program.params f) s (args_typed t)) in
      record {
        wants = subst (WantsFit F n2) (sym ha.entry.is) (wants_end F n2 o1.wants.items _ y.wants
            (record { bit = ha.entry.bit; sized = subst (λ (g : ℕ). AreSources n2 all.values.items (F.program.params g)) (sym t.spans.1) a.widths }));
        loops = subst (LoopsFit F n2) (sym ha.loops) y.loops;
      };
  grows = grows_on hs.grows ha.grows;
  count = let i = hs.count in let j = ha.count in omega arith;
  shape = λ F tail env w s t. x F tail env w s t;
  ever = λ F env w t no. when_ever ha.given.port.returned (sym (ap (λ (y : Lowered). y.ready) ha.given.is) ∙ no);
  wide = λ F tail env w s t no. when_ever ha.given.port.returned (sym (ap (λ (y : Lowered). y.ready) ha.given.is) ∙ no);
  value = λ v h.
      ap (gives v) ha.given.is ∙ sym (ap (returned_word v) ha.given.at) ∙ shown_call (back_of v P k);
  wants = λ F tail scope w t v h j.
      let w1 = wired_before ha.grows h in
      let back = back_of v P in
      let env = words v slots in
      let g = open_at v P path j in
      let own = gate (k == j) (gate (open_at v P path k) (gathered v all)) in
      ha.wants v h j ∙ ap (λ (y : Option (List Word)). or_else y own) (hs.wants F scope (F.program.params f) (args_typed t) v w1 j) ∙ or_else_assoc
      (asked v o0.wants.items j) (gate g (wanted_in back env ts j)) own
      ∙ ap (λ (y : Option (List Word)). or_else (asked v o0.wants.items j) (or_else (gate g (wanted_in back env ts j)) y))
      (at_site (k == j) k j (on v path) (sent_of v P) (gathered v all) refl
      ∙ ap (λ (y : Option (List Word)). gate g (cond (k == j) y None)) (hs.value v w1))
      ∙ ap (or_else (asked v o0.wants.items j)) (sym (gate_or g (wanted_in back env ts j) (cond (k == j) (answers back env ts) None)))
      ∙ ap (λ (y : Option (List Word)). or_else (asked v o0.wants.items j) (gate g y)) (own_last (k == j) (answers back env ts) (wanted_in back env ts j)
      (λ e. let same : k ≡ j = eqb_yes (subst T (sym e) tt) in let low = t.spans.0 in wanted_below_in F.program F.function (suc t.low) t.high back ts env j t.spans.4 (omega (arith, same, low))));
  loops = λ F tail env w t v h.
      ap (went v) ha.loops ∙ hs.loops F env (F.program.params f) (args_typed t) v (wired_before ha.grows h) ∙ stays_by _ _ (on v path) (goes_call (back_of v P k));
}

-- ---- a tail call

goes_go_to : (h : ℕ) (o : Option (List Word)) → goes_with h o ≡ goes_of (loop_to h o)
goes_go_to h None = refl
goes_go_to h (Some vs) = refl

pub record Gone (path : Sig) (n m : Netlist) (o p : Out) (h : ℕ) (all : LoweredAll) (r : Lowered) : Type 0 where
  pub grows : Grows n m
  pub count : length m.signals ≤ length n.signals + 1
  pub entry : Leaves m o.loops.items p.loops.items path h all
  pub never : r.ready ≡ Never
  pub wants : p.wants.items ≡ o.wants.items
  pub loops : (v : Val) → Wired m v → went v p.loops.items ≡ or_else (went v o.loops.items) (gate (on v path) (goes_with h (gathered v all)))
  pub settles : Settles n m

pub lowers_loop : {P : SiteTable} {slots : List Sig} {path : Sig} {n0 n1 n2 : Netlist} {o0 o1 o2 : Out} {all : LoweredAll} {h : ℕ} {ts : Terms} {r : Lowered}
    → LowersAll P slots path n0 n1 o0 o1 all ts → Gone path n1 n2 o1 o2 h all r
    → Lowers P slots path n0 n2 o0 o2 r (Loop h ts)
unfolding answer wanted
lowers_loop {P} {slots} {path} {n0} {n1} {n2} {o0} {o1} {o2} {all} {h} {ts} {r} hs hg = record {
  tails = λ F tail env w t. ap (map member_of) hg.entry.is ∙ map_push member_of o1.loops.items _ ∙ ap
      (λ (l : List TailCall). map member_of l ++ h ∷ []) (hs.quiet F env (F.program.params h) (next_typed t));
  settles = settles_on hs.settles hg.settles;
  quiet = λ F env w t. false_true t.spans.0;
  cheap = λ F tail env w t. let i = ap cost (hs.quiet F env (F.program.params h) (next_typed t)) in let j = ap cost hg.entry.is ∙ cost_end
      o1.loops.items (record { member = h; taken = hg.entry.taken; args = all.values }) in let k = hs.long in omega (arith, i, j, k);
  within = λ F tail env w s t x.
      subst (Mates F) (sym (ap (map member_of) hg.entry.is ∙ map_push member_of o1.loops.items _))
      (mates_end F (map member_of o1.loops.items) h (mates_same F o0.loops.items o1.loops.items
      (hs.quiet F env (F.program.params h) (next_typed t)) x) t.width.2 t.spans.1);
  more = hs.more ++ record { member = h; taken = hg.entry.taken; args = all.values } ∷ [];
  loops_more = more_twice o0.loops.items o1.loops.items o2.loops.items hs.more _ hs.loops_more hg.entry.is;
  told = λ F tail env w t v q.
      let w1 = wired_before hg.grows q in
      told_more v hs.more _ _ (told_by v hs.more None _ (λ z q. never_is z None refl q) (hs.told F env (F.program.params h) (next_typed t) v w1)) (
        λ taken. taken_tells h (on v hg.entry.taken) (on v path) (is_ready v all.ready) (words v all.values.items)
            (answers (back_of v P) (words v slots) ts) (hg.entry.made v q) (hs.value v w1) taken,
        tt,
      );
  sites = ap (map site_of) hg.wants ∙ hs.sites;
  fits = λ F tail env w s t x.
      let y = out_kept hg.grows (hs.fits F env (F.program.params h) s (next_typed t) x) in
      let a = shaped_all_kept hg.grows all (F.program.params h) (hs.shape F env (F.program.params h) s (next_typed t)) in
      record {
        wants = subst (WantsFit F n2) (sym hg.wants) y.wants;
        loops = subst (LoopsFit F n2) (sym hg.entry.is) (loops_end F n2 o1.loops.items _ y.loops (record { bit = hg.entry.bit; sized = a.widths }));
      };
  grows = grows_on hs.grows hg.grows;
  count = let i = hs.count in let j = hg.count in omega arith;
  shape = λ F tail env w s t. record { ready = subst (ReadyAt n2) (sym hg.never) tt; width = λ ever. absurd (ever hg.never) };
  ever = λ F env w t. false_true t.spans.0;
  wide = λ F tail env w s t no. sym t.width.1 ∙ s.one_width h t.width.2 t.spans.1;
  value = λ v q. ap (λ (y : Readiness). gate (is_ready v y) (Some (v r.value.0))) hg.never ∙ loop_word h (answers (back_of v P) (words v slots) ts);
  wants = λ F tail env w t v q k. ap (λ l. asked v l k) hg.wants ∙ hs.wants F env (F.program.params h) (next_typed t) v (wired_before hg.grows q) k;
  loops = λ F tail env w t v q.
      let w1 = wired_before hg.grows q in
      hg.loops v q
      ∙ ap (λ (y : Option (ℕ × List Word)). or_else y (gate (on v path) (goes_with h (gathered v all)))) (hs.loops F env (F.program.params h) (next_typed t) v w1)
      ∙ ap (λ (y : Option (List Word)). or_else (went v o0.loops.items) (gate (on v path) (goes_with h y))) (hs.value v w1)
      ∙ ap (λ (y : Option (ℕ × List Word)). or_else (went v o0.loops.items) (gate (on v path) y)) (goes_go_to h (answers (back_of v P) (words v slots) ts));
}
