-- The circuits of a constant, of a slot and of an operator.
use Rattle.safl_lower.proofs.Common.{Always, AreSources, Builds, IsSource, LoweredAll, Netlist, Out, Primitive, Sig, SiteTable, Val, Wired}
use Rattle.safl_lower.proofs.Common.{apply_prim, gate, is_ready, nil_at_end, on, result_width, settles_on, settles_same, words}
use Rattle.std.proofs.Common.{◌≡◌, ℕ, zero, suc, ◌<◌, List, [], ◌∷◌, map, length, Option, Some, None, Bool, true, false, slice_get, refl, ap, subst, ◌∙◌, arith}
use Rattle.std.proofs.lemmas.Option.{slice_get_within}
use Rattle.safl_word.specs.Words.{Word, slot}
use Rattle.safl_term.specs.Terms.{Const, Var, Op, Terms}
use Rattle.safl_term.specs.Readiness.{word_of, apply_to, answer, answers, wanted}
use Rattle.safl_net.proofs.Growth.{grows_on, grows_none, wired_before}
use Rattle.safl_lower.specs.Entries.{asked, went, site_of, member_of, cost}
use Rattle.safl_lower.specs.Lowering.{back_of, goes_of, Lowers, LowersAll}
use Rattle.safl_lower.proofs.Kept.{ready_kept, apart}
use Rattle.safl_lower.proofs.Typing.{parts_typed}
use Rattle.safl_lower.proofs.Gathered.{stays, stays_by, out_kept, told_by, never_is, mates_same}
use Rattle.safl_lower.proofs.Cells.{source_at, sources_length}

-- ---- leaves

pub lowers_const : {P : SiteTable} {slots : List Sig} {path s : Sig} {n0 n1 : Netlist} {o : Out} {w : Word}
    → Builds n0 n1 1 → IsSource n1 s w.width → ((v : Val) → Wired n1 v → v s.0 ≡ w)
    → Lowers P slots path n0 n1 o o (record { ready = Always; value = s }) (Const w)
unfolding answer wanted
lowers_const {P} {slots} {path} {s} {n0} {n1} {o} {w} b x y = record {
  tails = λ F tail env n t. nil_at_end (map member_of o.loops.items);
  settles = b.settles;
  quiet = λ F env n t. refl;
  cheap = λ F tail env n t. omega arith;
  within = λ F tail env n s t x. x;
  more = [];
  loops_more = nil_at_end o.loops.items;
  told = λ F tail env n t v h. tt;
  sites = nil_at_end (map site_of o.wants.items);
  fits = λ F tail env n s t x. out_kept b.grows x;
  grows = b.grows;
  count = let c = b.count in omega (arith, c);
  shape = λ F tail env n h t. record { ready = tt; width = λ ever. subst (IsSource n1 s) t.width.1 x };
  ever = λ F env n t no. apart no;
  wide = λ F tail env n h t no. apart no;
  value = λ v h. ap (λ (u : Word). Some u) (y v h);
  wants = λ F tail env n t v h k. stays (asked v o.wants.items k) _;
  loops = λ F tail env n t v h. stays (went v o.loops.items) _;
}

slot_source : (n : Netlist) (slots : List Sig) (env : List ℕ) (i w : ℕ) (s : Sig) → AreSources n slots env → slice_get env i ≡ Some w → slice_get slots i ≡ Some s → IsSource n s w
slot_source n slots env i w s h e f = let x = source_at n slots env i s h f in let k : x.0 ≡ w = let g = x.1 in cc in subst (IsSource n s) k x.2

pub slot_within : (n : Netlist) (slots : List Sig) (env : List ℕ) (i w : ℕ) → AreSources n slots env → slice_get env i ≡ Some w → i < length slots
slot_within n slots env i w h e = let l = sources_length n slots env h in let k = slice_get_within env i w e in omega (arith, l, k)

slot_word : (v : Val) (slots : List Sig) (i : ℕ) (s : Sig) → slice_get slots i ≡ Some s → v s.0 ≡ slot (words v slots) i
slot_word v [] i s e = absurd (cc)
slot_word v (a ∷ slots) zero s e = let g : s ≡ a = cc in ap (λ (y : Sig). v y.0) g
slot_word v (a ∷ slots) (suc i) s e = slot_word v slots i s e

pub lowers_var : {P : SiteTable} {slots : List Sig} {path s : Sig} {n : Netlist} {o : Out} {i : ℕ} → slice_get slots i ≡ Some s
    → Lowers P slots path n n o o (record { ready = Always; value = s }) (Var i)
unfolding answer wanted
lowers_var {P} {slots} {path} {s} {n} {o} {i} e = record {
  tails = λ F tail env n t. nil_at_end (map member_of o.loops.items);
  settles = settles_same n n refl;
  quiet = λ F env n t. refl;
  cheap = λ F tail env n t. omega arith;
  within = λ F tail env n s t x. x;
  more = [];
  loops_more = nil_at_end o.loops.items;
  told = λ F tail env w t v h. tt;
  sites = nil_at_end (map site_of o.wants.items);
  fits = λ F tail env w s t x. x;
  grows = grows_none n;
  count = omega arith;
  shape = λ F tail env w h t. record { ready = tt; width = λ ever. slot_source n slots env i w s h.slots_sized t.width e };
  ever = λ F env w t no. apart no;
  wide = λ F tail env w h t no. apart no;
  value = λ v h. ap (λ (u : Word). Some u) (slot_word v slots i s e);
  wants = λ F tail env n t v h k. stays (asked v o.wants.items k) _;
  loops = λ F tail env w t v h. stays (went v o.loops.items) _;
}

-- ---- an operator

pub goes_op : (p : Primitive) (o : Option (List Word)) → goes_of (apply_to p o) ≡ None
goes_op p None = refl
goes_op p (Some vs) = refl

applied : (p : Primitive) (r : Bool) (ws : List Word) (o : Option (List Word)) → gate r (Some ws) ≡ o → gate r (Some (apply_prim p ws)) ≡ word_of (apply_to p o)
applied p true ws None e = absurd (cc)
applied p true ws (Some vs) e = let g : ws ≡ vs = cc in ap (λ (l : List Word). Some (apply_prim p l)) g
applied p false ws None e = refl
applied p false ws (Some vs) e = absurd (cc)

pub lowers_op : {P : SiteTable} {slots : List Sig} {path s : Sig} {n0 n1 n2 : Netlist} {o0 o1 : Out} {all : LoweredAll} {p : Primitive} {ts : Terms}
    → LowersAll P slots path n0 n1 o0 o1 all ts → Builds n1 n2 5
    → ((ws : List ℕ) (w : ℕ) → AreSources n1 all.values.items ws → result_width p ws ≡ Some w → IsSource n2 s w)
    → ((v : Val) → Wired n2 v → v s.0 ≡ apply_prim p (words v all.values.items))
    → Lowers P slots path n0 n2 o0 o1 (record { ready = all.ready; value = s }) (Op p ts)
unfolding answer wanted
lowers_op {P} {slots} {path} {s} {n0} {n1} {n2} {o0} {o1} {all} {p} {ts} hs d x y = record {
  tails = λ F tail env w t. ap (map member_of) (hs.quiet F env t.width.0 (parts_typed t)) ∙ nil_at_end (map member_of o0.loops.items);
  settles = settles_on hs.settles d.settles;
  quiet = λ F env w t. hs.quiet F env t.width.0 (parts_typed t);
  cheap = λ F tail env w t. let i = ap cost (hs.quiet F env t.width.0 (parts_typed t)) in omega (arith, i);
  within = λ F tail env w s t x. mates_same F o0.loops.items o1.loops.items (hs.quiet F env t.width.0 (parts_typed t)) x;
  more = hs.more;
  loops_more = hs.loops_more;
  told = λ F tail env w t v h. told_by v hs.more None _ (λ z q. never_is z None refl q) (hs.told F env t.width.0 (parts_typed t) v (wired_before d.grows h));
  sites = hs.sites;
  fits = λ F tail env w s t x. out_kept d.grows (hs.fits F env t.width.0 s (parts_typed t) x);
  grows = grows_on hs.grows d.grows;
  count = let i = hs.count in let j = d.count in omega (arith, i, j);
  shape = λ F tail env w h t.
      let a = hs.shape F env t.width.0 h (parts_typed t) in
      record { ready = ready_kept d.grows all.ready a.ready; width = λ ever. x t.width.0 w a.widths t.width.2 };
  ever = λ F env w t. hs.ever F env t.width.0 (parts_typed t);
  wide = λ F tail env w h t no. absurd (hs.ever F env t.width.0 (parts_typed t) no);
  value = λ v h.
      ap (λ (u : Word). gate (is_ready v all.ready) (Some u)) (y v h)
      ∙ applied p (is_ready v all.ready) (words v all.values.items) (answers (back_of v P) (words v slots) ts) (hs.value v (wired_before d.grows h));
  wants = λ F tail env w t v h k. hs.wants F env t.width.0 (parts_typed t) v (wired_before d.grows h) k;
  loops = λ F tail env w t v h. hs.loops F env t.width.0 (parts_typed t) v (wired_before d.grows h) ∙ stays_by _ _ (on v path) (goes_op p (answers (back_of v P) (words v slots) ts));
}
