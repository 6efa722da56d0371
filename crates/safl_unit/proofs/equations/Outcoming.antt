-- The outcomes of the bodies below one, and one more body.
use Rattle.safl_unit.proofs.Common.{AreSources, Body, Builds, CheckedProgram, Choice, Cycle, Gathered, InEachCycle, IsChecked, IsFirstOf}
use Rattle.safl_unit.proofs.Common.{IsSource, Load, Netlist, Outcomes, Pins, PinsFit, Sig, Val, Word, cases_lt, gate, loads_cost, ne_eqb}
use Rattle.safl_unit.proofs.Common.{on, or_else, or_else_none, slice_get_within, words}
use Rattle.std.proofs.Common.{◌≡◌, ℕ, zero, suc, ◌+◌, ◌-◌, ◌<◌, ◌≤◌, List, [], ◌∷◌, ◌++◌, length, length-append, Vec, Global, Option, Some, None}
use Rattle.safl_term.specs.Sizes.{body_nodes}
use Rattle.std.proofs.Common.{cond, ◌⊎◌, inl, inr, add-one, slice_get, refl, sym, ap, subst, ◌∙◌, arith}
use Rattle.safl_term.proofs.HeldByChecked.{first_site_past}
use Rattle.safl_calls.specs.Picks.{first}
use Rattle.safl_circuit.specs.Equations.{Registers, Inputs, end_word, body_wants, body_says, goes_to, loop_from}
use Rattle.safl_lower.specs.Tables.{EachAt, taken, taken_in, taken_at, entry_in, one_word, LoadFits, LoadsFit, SomeFit}
use Rattle.safl_lower.specs.Rows.{AllFit, first_taken, row_at, first_at, load_joins, total, RowsFit}
use Rattle.safl_lower.proofs.KnownLoads.{loads_kept}
use Rattle.safl_lower.proofs.JoinedRows.{fit_kept, total_bare}
use Rattle.safl_unit.specs.Stages.{called, HasOutcomes}
use Rattle.safl_unit.specs.Outcomes.{BodyShows, HasBody, PushesLoads}
use Rattle.safl_unit.proofs.equations.Keeping.{cycle_before}
use Rattle.safl_unit.proofs.equations.Tables.{each_none, each_push}
use Rattle.safl_unit.proofs.equations.Joins.{each_append, taken_maybe, rows_more}
use Rattle.safl_unit.proofs.equations.Lowered.{first_site_least}

-- what the bodies of the functions below f show
pub record ShownUpTo (c : CheckedProgram) (P : Choice) (f : ℕ) (o : Gathered) (v : Val) (r : Registers) (i : Inputs) : Type 0 where
  pub ends : EachAt o.ends.items (λ g x. taken v x ≡ one_word (end_word c.program P r g))
  pub loops : (h : ℕ) → h < c.program.functions → first_at v o.rows.items h ≡ first (loop_from c.program P r h) f
  pub wants : EachAt o.wants.items (λ k x. taken v x ≡ called c.program P r i k)

pub record OutcomesUpTo (c : CheckedProgram) (P : Choice) (n : Netlist) (p : Pins) (f : ℕ) (o : Gathered) : Type 0 where
  pub ends_length : length o.ends.items ≡ f
  pub loops_length : length o.rows.items ≡ c.program.functions
  pub wants_length : length o.wants.items ≡ c.first_site f
  pub ends : LoadsFit n o.ends.items (λ g. c.program.result g ∷ [])
  pub loops : RowsFit n o.rows.items c.program.params
  pub gates : total load_joins o.rows.items ≤ body_nodes c.program f
  pub wants : LoadsFit n o.wants.items (λ k. c.program.params (c.program.callee k))
  pub shows : InEachCycle c.program P n p (λ v r i. ShownUpTo c P f o v r i)

-- ---- none yet

only : {A : Type 0} (xs : List A) (x : A) (Q : ℕ → A → Type 0) → xs ≡ x ∷ [] → Q 0 x → EachAt xs Q
only xs x Q e h = subst (λ l. EachAt l Q) (sym e) (each_push [] x Q (each_none Q) h)

pub none_outcomes : (c : CheckedProgram) → IsChecked c → (P : Choice) (n : Netlist) (p : Pins) (o : Gathered) (x : Load) → PinsFit c.program n p
    → o.ends.items ≡ [] → length o.rows.items ≡ c.program.functions
    → ((h : ℕ) → row_at o.rows.items h ≡ []) → o.wants.items ≡ x ∷ [] → x.bit ≡ p.start → x.words.items ≡ p.words.items → OutcomesUpTo c P n p 0 o
unfolding first
none_outcomes c h P n p o x fits a b none w bit own = record {
  ends_length = ap length a;
  loops_length = b;
  wants_length = ap length w ∙ sym h.first_site;
  ends = subst (λ l. LoadsFit n l (λ g. c.program.result g ∷ [])) (sym a) (each_none _);
  loops = λ g. subst (λ (y : List Load). AllFit n y (c.program.params g)) (sym (none g)) tt;
  gates = let e = total_bare load_joins o.rows.items refl none in omega (arith, e);
  wants = only o.wants.items x (λ k y. LoadFits n y (c.program.params (c.program.callee k))) w (record {
    bit = subst (λ (s : Sig). IsSource n s 1) (sym bit) fits.start;
    words = subst (λ (l : List Sig). AreSources n l (c.program.params (c.program.callee 0))) (sym own)
        (subst (λ m. AreSources n p.words.items (c.program.params m)) (sym h.formed.main) fits.words);
  });
  shows = λ v r i y. record {
    ends = subst (λ l. EachAt l (λ g (z : Load). taken v z ≡ one_word (end_word c.program P r g))) (sym a) (each_none _);
    loops = λ g l. ap (first_taken v) (none g);
    wants = only o.wants.items x (λ k z. taken v z ≡ called c.program P r i k) w
        (ap (λ (s : Sig). gate (on v s) (Some (words v x.words.items))) bit ∙ ap (λ (l : List Sig). gate (on v p.start) (Some (words v l))) own
        ∙ ap (λ t. gate t (Some (words v p.words.items))) y.start ∙ ap (λ (ws : List Word). gate i.start (Some ws)) y.words);
  };
}

-- ---- one more body

-- the loads of a body's tail calls, of all functions
loops_more : (c : CheckedProgram) (P : Choice) (n : Netlist) (p : Pins) (f : ℕ) (b : Body) (v : Val) (r : Registers) (old new : List (Vec Load Global)) → HasBody c P n p f b → BodyShows c P f b v r
    → PushesLoads (c.program.unit f) (length b.loops.items) b.loops.items old new
    → (h : ℕ) → h < c.program.functions → first_at v old h ≡ first (loop_from c.program P r h) f → first_at v new h ≡ first (loop_from c.program P r h) (suc f)
unfolding first
loops_more c P n p f b v r old new body shown joined h l e = at (cases_lt h (c.program.unit f))
    (cases_lt h (c.program.unit f + length b.loops.items)) ∙ ap (λ x. or_else x (loop_from c.program P r h f)) e
  where
    outside : (c.program.unit f ≡ c.program.unit h → ⊥) → (h < c.program.unit f) ⊎ (c.program.unit f + length b.loops.items ≤ h)
        → first_at v new h ≡ or_else (first_at v old h) (loop_from c.program P r h f)
    outside d o =
        ap (first_taken v) (joined.others h o) ∙ sym (or_else_none (first_at v old h))
        ∙ ap (λ t. or_else (first_at v old h) (cond t (goes_to h (body_says c.program P r f)) None)) (sym (ne_eqb (c.program.unit f) (c.program.unit h) d))

    inside : (i : ℕ) → i < length b.loops.items → first_at v new (c.program.unit f + i) ≡ or_else (first_at v old (c.program.unit f + i))
        (loop_from c.program P r (c.program.unit f + i) f)
    inside i m =
        ap (first_taken v) (joined.pushed i m)
        ∙ taken_maybe v (row_at old (c.program.unit f + i)) (entry_in (slice_get b.loops.items i))
        ∙ ap (or_else (first_at v old (c.program.unit f + i))) (shown.loops i m)

    at : (h < c.program.unit f) ⊎ (c.program.unit f ≤ h) → (h < c.program.unit f + length b.loops.items) ⊎ (c.program.unit f + length b.loops.items ≤ h)
        → first_at v new h ≡ or_else (first_at v old h) (loop_from c.program P r h f)
    at (inl x) o = outside (λ s. let k = body.group.members h l (sym s) in let y = k.0 in absurd (omega (arith, x, y))) (inl x)
    at (inr x) (inr y) = outside (λ s. let k = body.group.members h l (sym s) in let z = k.1 in absurd (omega (arith, y, z))) (inr y)
    at (inr x) (inl y) =
        let j : c.program.unit f + (h - c.program.unit f) ≡ h = omega (arith, x) in
        let m : h - c.program.unit f < length b.loops.items = omega (arith, x, y) in
        subst (λ k. first_at v new k ≡ or_else (first_at v old k) (loop_from c.program P r k f)) j (inside (h - c.program.unit f) m)

module _ (c : CheckedProgram) (h : IsChecked c) (P : Choice) (p : Pins) (f : ℕ) (l : f < c.program.functions) (n0 n1 : Netlist) (k1 : ℕ) (o q : Gathered) (b : Body)
    (old : OutcomesUpTo c P n0 p f o) (built : Builds n0 n1 k1) (body : HasBody c P n1 p f b)
    (ended : q.ends.items ≡ o.ends.items ++ b.end ∷ []) (wanted : q.wants.items ≡ o.wants.items ++ b.wants.items)
    (counted : length q.rows.items ≡ length o.rows.items) (joined : PushesLoads (c.program.unit f) (length b.loops.items) b.loops.items o.rows.items q.rows.items)
    (paid : total load_joins q.rows.items ≤ total load_joins o.rows.items + loads_cost b.loops.items) where
  ends_fit : LoadsFit n1 q.ends.items (λ g. c.program.result g ∷ [])
  ends_fit = subst (λ xs. LoadsFit n1 xs (λ g. c.program.result g ∷ [])) (sym ended)
      (each_push o.ends.items b.end (λ g x. LoadFits n1 x (c.program.result g ∷ [])) (loads_kept built o.ends.items (λ g. c.program.result g ∷ []) old.ends)
      (subst (λ g. LoadFits n1 b.end (c.program.result g ∷ [])) (sym old.ends_length) body.fits.end))

  wants_fit : LoadsFit n1 q.wants.items (λ k. c.program.params (c.program.callee k))
  wants_fit = subst (λ xs. LoadsFit n1 xs (λ k. c.program.params (c.program.callee k))) (sym wanted)
      (each_append o.wants.items b.wants.items (λ k x. LoadFits n1 x (c.program.params (c.program.callee k)))
      (loads_kept built o.wants.items (λ k. c.program.params (c.program.callee k)) old.wants)
      (λ i x s. subst (λ j. LoadFits n1 x (c.program.params (c.program.callee (j + i)))) (sym old.wants_length) (body.fits.wants i x s)))

  module _ (v : Val) (r : Registers) (i : Inputs) (y : Cycle c.program P n1 p v r i) where
    before : ShownUpTo c P f o v r i
    before = old.shows v r i (cycle_before built y)

    now : BodyShows c P f b v r
    now = body.shows v r i y

    ends_show : EachAt q.ends.items (λ g x. taken v x ≡ one_word (end_word c.program P r g))
    ends_show = subst (λ xs. EachAt xs (λ g (x : Load). taken v x ≡ one_word (end_word c.program P r g))) (sym ended)
        (each_push o.ends.items b.end (λ g x. taken v x ≡ one_word (end_word c.program P r g)) before.ends
        (now.end ∙ ap (λ g. one_word (end_word c.program P r g)) (sym old.ends_length)))

    want_is : (j : ℕ) → 0 < j → body_wants c.program P r j ≡ called c.program P r i j
    want_is zero d = absurd (omega (arith, d))
    want_is (suc j) d = refl

    wants_show : EachAt q.wants.items (λ k x. taken v x ≡ called c.program P r i k)
    wants_show = subst (λ xs. EachAt xs (λ k (x : Load). taken v x ≡ called c.program P r i k)) (sym wanted)
        (each_append o.wants.items b.wants.items (λ k x. taken v x ≡ called c.program P r i k) before.wants
        (λ j x s.
        let some = least in
        ap (taken_in v) (sym s) ∙ now.wants j (slice_get_within b.wants.items j x s)
        ∙ ap (λ d. body_wants c.program P r (d + j)) (sym old.wants_length) ∙ want_is (length o.wants.items + j) (omega (arith, some))))
      where
        least : 0 < length o.wants.items
        least = let a = old.wants_length in let d = first_site_least c h f (omega (arith, l)) in omega (arith, a, d)

  pub more_outcomes : OutcomesUpTo c P n1 p (suc f) q
  unfolding body_nodes
  more_outcomes = record {
    ends_length = ap length ended ∙ (let a = length-append o.ends.items (b.end ∷ []) in let d = old.ends_length in omega (arith, a, d));
    loops_length = counted ∙ old.loops_length;
    wants_length = ap length wanted ∙ length-append o.wants.items b.wants.items ∙ ap (λ x. x + length b.wants.items) old.wants_length ∙ body.count;
    ends = ends_fit;
    loops = rows_more n1 (c.program.unit f) b.loops.items o.rows.items q.rows.items c.program.params joined body.fits.loops
        (λ g. fit_kept built (row_at o.rows.items g) (c.program.params g) (old.loops g));
    gates = let a = old.gates in let d = body.tails in omega (arith, a, d, paid);
    wants = wants_fit;
    shows = λ v r i y. record {
      ends = ends_show v r i y;
      loops = λ g m. loops_more c P n1 p f b v r o.rows.items q.rows.items body (now v r i y) joined g m ((before v r i y).loops g m);
      wants = wants_show v r i y;
    };
  }

  pub next_outcomes : OutcomesUpTo c P n1 p (f + 1) q
  next_outcomes = subst (λ k. OutcomesUpTo c P n1 p k q) (sym (add-one f)) more_outcomes

-- ---- all bodies

each_taken : (v : Val) (xs : List Load) (g : ℕ → Option (List Word)) → EachAt xs (λ i x. taken v x ≡ g i) → (i : ℕ) → i < length xs → taken_at v xs i ≡ g i
each_taken v [] g h i l = absurd (omega (arith, l))
each_taken v (x ∷ xs) g h zero l = h 0 x refl
each_taken v (x ∷ xs) g h (suc i) l = each_taken v xs (λ j. g (suc j)) (λ j y e. h (suc j) y e) i (omega (arith, l))

pub all_outcomes : (c : CheckedProgram) (P : Choice) (n m : Netlist) (k : ℕ) (p : Pins) (f : ℕ) (o : Gathered) (q : Outcomes) → f ≡ c.program.functions → OutcomesUpTo c P n p f o → Builds n m k
    → q.ends ≡ o.ends → q.wants ≡ o.wants → length q.loops.items ≡ length o.rows.items → SomeFit m q.loops.items c.program.params
    → ((i : ℕ) → IsFirstOf m (row_at o.rows.items i) (entry_in (slice_get q.loops.items i))) → HasOutcomes c.program P m p q
all_outcomes c P n m k p f o q e h built x y count fits joined =
    let own = ap (λ (xs : Vec Load Global). xs.items) x in
    let all = ap (λ (xs : Vec Load Global). xs.items) y in
    let last = ap length all ∙ h.wants_length ∙ ap c.first_site e ∙ first_site_past c in
    record {
      fits = record {
        ends_length = ap length own ∙ h.ends_length ∙ e;
        loops_length = count ∙ h.loops_length;
        wants_length = last;
        ends = subst (λ (xs : List Load). LoadsFit m xs (λ g. c.program.result g ∷ [])) (sym own) (loads_kept built o.ends.items (λ g. c.program.result g ∷ []) h.ends);
        loops = fits;
        wants = subst (λ (xs : List Load). LoadsFit m xs (λ j. c.program.params (c.program.callee j))) (sym all)
            (loads_kept built o.wants.items (λ j. c.program.params (c.program.callee j)) h.wants);
      };
      shows = λ v r i z.
          let s = h.shows v r i (cycle_before built z) in
          let a = ap length own ∙ h.ends_length in
          record {
            ends = λ g l. each_taken v q.ends.items (λ j. one_word (end_word c.program P r j))
                (subst (λ (xs : List Load). EachAt xs (λ g (w : Load). taken v w ≡ one_word (end_word c.program P r g))) (sym own) s.ends) g
                (omega (arith, a, e, l));
            loops = λ g l. (joined g).shows v z.wired ∙ s.loops g l ∙ ap (first (loop_from c.program P r g)) e;
            wants = λ j l. each_taken v q.wants.items (called c.program P r i)
                (subst (λ (xs : List Load). EachAt xs (λ g (w : Load). taken v w ≡ called c.program P r i g)) (sym all) s.wants) j (omega (arith, last, l));
          };
    }
