-- The circuits of a list of terms.
use Rattle.safl_lower.proofs.Common.{Always, AreSources, Lowered, LoweredAll, Netlist, Out, Program, Readiness, ReadyAt, Sig, SiteTable}
use Rattle.safl_lower.proofs.Common.{Word, fits_all_le, fits_le, gate, is_ready, nil_at_end, nodes, nodes_in, on, or_else_assoc}
use Rattle.safl_lower.proofs.Common.{or_else_none, settles_on, settles_same, words}
use Rattle.std.proofs.Common.{◌≡◌, ℕ, ◌+◌, List, [], ◌∷◌, ◌++◌, map, length, Option, Some, None, Bool, false, ◌&&◌, refl, sym, ap, subst, ◌∙◌, arith, append_assoc, length-append, ⊎_elim}
use Rattle.safl_term.specs.WellFormed.{Spans, SpansAll, HasWidth, HaveWidths}
use Rattle.safl_lower.proofs.Branches.{Both}
use Rattle.safl_term.specs.Terms.{Term, Terms, Nil, Cons}
use Rattle.safl_term.specs.Readiness.{Answer, Ready, LoopTo, NotYet, word_of, both, or_else, answer, answers, wanted, wanted_in}
use Rattle.safl_net.proofs.Growth.{grows_on, grows_none, wired_before}
use Rattle.safl_term.proofs.PlainTerms.{some_nodes}
use Rattle.safl_lower.specs.Typing.{Owner, Typed, TypedAll, sites_of, sites_in}
use Rattle.safl_lower.specs.Entries.{asked, went, site_of}
use Rattle.safl_lower.specs.Lowering.{back_of, open_at, gives, goes_of, ShapedAll, Lowers, LowersAll}
use Rattle.safl_lower.proofs.Arms.{gate_or, and_then, join}
use Rattle.safl_lower.proofs.Kept.{setting_kept, apart}
use Rattle.safl_lower.proofs.Gathered.{words_more, stays, stays_by, no_goes, more_twice, out_kept, told_by, told_more, gate_is_none}
use Rattle.safl_lower.proofs.Building.{source_grown, sources_grown, sources_joined}
use Rattle.safl_lower.proofs.Cells.{one_source, no_sources}

-- ---- lists of terms

-- one more at the end
abbrev pub end : Terms → Term → Terms
end Nil t = Cons t Nil
end (Cons x ts) t = Cons x (end ts t)

both_word : (a : Answer) → both a (Some []) ≡ and_then (Some []) (word_of a)
both_word (Ready w) = refl
both_word (LoopTo h vs) = refl
both_word NotYet = refl

both_and : (a : Answer) (o : Option (List Word)) (w : Option Word) → both a (and_then o w) ≡ and_then (both a o) w
both_and (Ready x) None w = refl
both_and (Ready x) (Some vs) None = refl
both_and (Ready x) (Some vs) (Some y) = refl
both_and (LoopTo h ws) o w = refl
both_and NotYet o w = refl

peval_end : (back : ℕ → Option Word) (env : List Word) (ts : Terms) (t : Term) → answers back env (end ts t) ≡ and_then (answers back env ts) (word_of (answer back env t))
unfolding answer
peval_end back env Nil t = both_word (answer back env t)
peval_end back env (Cons x ts) t = ap (both (answer back env x)) (peval_end back env ts t) ∙ both_and (answer back env x) (answers back env ts) (word_of (answer back env t))

wanted_end : (back : ℕ → Option Word) (env : List Word) (ts : Terms) (t : Term) (k : ℕ) → wanted_in back env (end ts t) k ≡ or_else (wanted_in back env ts k) (wanted back env t k)
unfolding wanted
wanted_end back env Nil t k = or_else_none (wanted back env t k)
wanted_end back env (Cons x ts) t k = ap (or_else (wanted back env x k)) (wanted_end back env ts t k) ∙ sym (or_else_assoc (wanted back env x k) (wanted_in back env ts k) (wanted back env t k))

sites_end : (ts : Terms) (t : Term) → sites_in (end ts t) ≡ sites_in ts ++ sites_of t
sites_end Nil t = sym (nil_at_end (sites_of t))
sites_end (Cons x ts) t = ap (λ (l : List ℕ). sites_of x ++ l) (sites_end ts t) ∙ sym (append_assoc (sites_of x) (sites_in ts) (sites_of t))

pub nodes_end : (ts : Terms) (t : Term) → nodes_in (end ts t) ≡ nodes_in ts + nodes t
nodes_end Nil t = omega arith
nodes_end (Cons x ts) t = let h = nodes_end ts t in omega arith

pub record LastTyped (F : Owner) (env : List ℕ) (ts : Terms) (t : Term) (ws : List ℕ) : Type 0 where
  pub front : List ℕ
  pub width : ℕ
  pub is : ws ≡ front ++ width ∷ []
  pub typed : TypedAll F env ts front
  pub last : Typed F false env t width

-- the sites of the last are after those of the others
last_spans : (p : Program) (g lo hi : ℕ) (ts : Terms) (t : Term) → SpansAll p g lo hi (end ts t) → (m : ℕ) × SpansAll p g lo m ts × Spans p g false m hi t
last_spans p g lo hi Nil t (m, x, e) = (lo, refl, subst (λ (i : ℕ). Spans p g false lo i t) e x)
last_spans p g lo hi (Cons y ts) t (m, x, h) =
    let r = last_spans p g m hi ts t h in
    (r.0, (m, x, r.1), r.2)

last_widths : (p : Program) (env : List ℕ) (ts : Terms) (t : Term) (ws : List ℕ) → HaveWidths p env (end ts t) ws → (us : List ℕ) × (w : ℕ) ×
    (ws ≡ us ++ w ∷ []) × HaveWidths p env ts us × HasWidth p env t w
last_widths p env Nil t [] h = absurd h
last_widths p env Nil t (w ∷ []) h = ([], w, refl, tt, h.0)
last_widths p env Nil t (w ∷ x ∷ ws) h = absurd h.1
last_widths p env (Cons y ts) t [] h = absurd h
last_widths p env (Cons y ts) t (w ∷ ws) h =
    let r = last_widths p env ts t ws h.1 in
    (w ∷ r.0, r.1, ap (λ (l : List ℕ). w ∷ l) r.2, (h.0, r.3), r.4)

pub last_typed : (F : Owner) (env : List ℕ) (ts : Terms) (t : Term) (ws : List ℕ) → TypedAll F env (end ts t) ws → LastTyped F env ts t ws
last_typed F env ts t ws h =
    let s = last_spans F.program F.function h.low h.high ts t h.spans in
    let w = last_widths F.program env ts t ws h.widths in
    let a = fits_all_le F.program F.function h.low s.0 ts s.1 in
    let b = fits_le F.program F.function false s.0 h.high t s.2 in
    record {
      front = w.0;
      width = w.1;
      is = w.2;
      typed = record { low = h.low; high = s.0; from = h.from; upto = let u = h.upto in omega (arith, b, u); spans = s.1; widths = w.3 };
      last = record { low = s.0; high = h.high; from = let u = h.from in omega (arith, a, u); upto = h.upto; spans = s.2; width = w.4 };
    }

none_shape : (F : Owner) (env ws : List ℕ) (n : Netlist) (r : LoweredAll) → r.ready ≡ Always → r.values.items ≡ [] → HaveWidths F.program env Nil ws → ShapedAll n r ws
none_shape F env [] n r e f t = record { ready = subst (ReadyAt n) (sym e) tt; widths = subst (λ (l : List Sig). AreSources n l []) (sym f) (no_sources n) }
none_shape F env (w ∷ ws) n r e f t = absurd t

pub lowers_none : {P : SiteTable} {slots : List Sig} {path : Sig} {n : Netlist} {o : Out} {r : LoweredAll} → r.ready ≡ Always → r.values.items ≡ [] → LowersAll P slots path n n o o r Nil
unfolding answer wanted
lowers_none {P} {slots} {path} {n} {o} {r} e f = record {
  settles = settles_same n n refl;
  quiet = λ F env ws t. refl;
  long = let k = ap length f in omega (arith, k);
  more = [];
  loops_more = nil_at_end o.loops.items;
  told = λ F env ws t v h. tt;
  sites = nil_at_end (map site_of o.wants.items);
  fits = λ F env ws s t x. x;
  grows = grows_none n;
  count = omega arith;
  shape = λ F env ws s t. none_shape F env ws n r e f t.widths;
  ever = λ F env ws t no. apart (sym e ∙ no);
  value = λ v h. ap (λ (q : Readiness). gate (is_ready v q) (Some (words v r.values.items))) e ∙ ap (λ (l : List Sig). Some (words v l)) f;
  wants = λ F env ws t v h k. stays (asked v o.wants.items k) _;
  loops = λ F env ws t v h. refl;
}

pub lowers_more : {P : SiteTable} {slots : List Sig} {path : Sig} {n0 n1 n2 n3 : Netlist} {o0 o1 o2 : Out} {r s : LoweredAll} {one : Lowered} {ts : Terms} {t : Term}
    → LowersAll P slots path n0 n1 o0 o1 r ts → Lowers P slots path n1 n2 o1 o2 one t → Both n2 n3 r.ready one.ready s.ready → s.values.items ≡ r.values.items ++ one.value ∷ []
    → LowersAll P slots path n0 n3 o0 o2 s (end ts t)
lowers_more {P} {slots} {path} {n0} {n1} {n2} {n3} {o0} {o1} {o2} {r} {s} {one} {ts} {t} hs ht hb e = record {
  settles = settles_on hs.settles (settles_on ht.settles hb.settles);
  quiet = λ F env ws ty. let l = last_typed F env ts t ws ty in ht.quiet F env l.width l.last ∙ hs.quiet F env l.front l.typed;
  long = let k = ap length e ∙ length-append r.values.items (one.value ∷ []) in let i = hs.long in let j = some_nodes t in omega (arith, k, i, j, nodes_end ts t);
  more = hs.more ++ ht.more;
  loops_more = more_twice o0.loops.items o1.loops.items o2.loops.items hs.more ht.more hs.loops_more ht.loops_more;
  told = λ F env ws ty v w3.
      let l = last_typed F env ts t ws ty in
      let w2 = wired_before hb.grows w3 in
      let back = back_of v P in
      let g = goes_of (answer back (words v slots) t) in
      told_more v hs.more ht.more None (hs.told F env l.front l.typed v (wired_before ht.grows w2))
      (told_by v ht.more (gate (on v path) g) None (λ z q. q ∙ gate_is_none (on v path) g (no_goes back t (words v slots) l.last)) (ht.told F false env l.width l.last v w2));
  sites = more_twice (map site_of o0.wants.items) (map site_of o1.wants.items) (map site_of o2.wants.items) (sites_in ts) (sites_of t) hs.sites
      ht.sites ∙ ap (λ (l : List ℕ). (map site_of o0.wants.items) ++ l) (sym (sites_end ts t));
  fits = λ F env ws st ty x.
      let l = last_typed F env ts t ws ty in
      out_kept hb.grows (ht.fits F false env l.width (setting_kept hs.grows st) l.last (hs.fits F env l.front st l.typed x));
  grows = grows_on hs.grows (grows_on ht.grows hb.grows);
  count = let i = hs.count in let j = ht.count in let k = hb.count in omega (arith, nodes_end ts t);
  shape = λ F env ws st ty.
      let l = last_typed F env ts t ws ty in
      let a = hs.shape F env l.front st l.typed in
      let b = ht.shape F false env l.width (setting_kept hs.grows st) l.last in
      let g = grows_on ht.grows hb.grows in
      record {
        ready = hb.bit;
        widths = subst (λ (xs : List Sig). AreSources n3 xs ws) (sym e) (subst (λ (us : List ℕ). AreSources n3 (r.values.items ++ one.value ∷ []) us) (sym l.is)
            (sources_joined n3 r.values.items (one.value ∷ []) l.front (l.width ∷ []) (sources_grown g r.values.items l.front a.widths)
            (one_source (source_grown hb.grows one.value l.width (b.width (ht.ever F env l.width l.last))))));
      };
  ever = λ F env ws ty no. let l = last_typed F env ts t ws ty in ⊎_elim (hs.ever F env l.front l.typed) (ht.ever F env l.width l.last) (hb.never.0 no);
  value = λ v w3.
      let w2 = wired_before hb.grows w3 in
      let w1 = wired_before ht.grows w2 in
      let back = back_of v P in
      let env = words v slots in
      ap (λ (b : Bool). gate b (Some (words v s.values.items))) (hb.is v w3)
      ∙ ap (λ (xs : List Word). gate (is_ready v r.ready && is_ready v one.ready) (Some xs)) (ap (words v) e ∙ words_more v r.values.items (one.value ∷ []))
      ∙ sym (join (is_ready v r.ready) (is_ready v one.ready) (words v r.values.items) (v one.value.0))
      ∙ ap (λ (o : Option (List Word)). and_then o (gives v one)) (hs.value v w1)
      ∙ ap (and_then (answers back env ts)) (ht.value v w2)
      ∙ sym (peval_end back env ts t);
  wants = λ F scope ws ty v w3 k.
      let l = last_typed F scope ts t ws ty in
      let w2 = wired_before hb.grows w3 in
      let w1 = wired_before ht.grows w2 in
      let back = back_of v P in
      let env = words v slots in
      let g = open_at v P path k in
      ht.wants F false scope l.width l.last v w2 k ∙ ap (λ (y : Option (List Word)). or_else y (gate g (wanted back env t k))) (hs.wants F scope l.front l.typed v w1 k)
      ∙ or_else_assoc (asked v o0.wants.items k) (gate g (wanted_in back env ts k)) (gate g (wanted back env t k))
      ∙ ap (or_else (asked v o0.wants.items k)) (sym (gate_or g (wanted_in back env ts k) (wanted back env t k)))
      ∙ ap (λ (y : Option (List Word)). or_else (asked v o0.wants.items k) (gate g y)) (sym (wanted_end back env ts t k));
  loops = λ F env ws ty v w3.
      let l = last_typed F env ts t ws ty in
      let w2 = wired_before hb.grows w3 in
      ht.loops F false env l.width l.last v w2
      ∙ sym (stays_by (went v o1.loops.items) _ (on v path) (no_goes (back_of v P) t (words v slots) l.last))
      ∙ hs.loops F env l.front l.typed v (wired_before ht.grows w2);
}
