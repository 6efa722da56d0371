-- The files of a whole run, and of one that stopped.
use Rattle.safl_probe.proofs.Common.{AllGrow, AreApart, Asked, Files, IsAsked, IsNetlist, Longer, LongerPart, Made, Netlist, OldOrPart}
use Rattle.safl_probe.proofs.Common.{Shown, TellsOn, Text, Word, after_frames, cycle_texts, probe_at, trace}
use Rattle.std.proofs.Common.{◌≡◌, ℕ, zero, suc, ◌+◌, ◌<◌, ◌≤◌, List, [], ◌∷◌, ◌++◌, length, take, drop, Option, Some, None, slice_get, slice_index}
use Rattle.std.proofs.Common.{Bool, true, false, ◌==◌, if◌then◌else◌, codes, refl, sym, ap, ◌∙◌, append_assoc, arith}
use Rattle.std.proofs.lemmas.List.{take-append-drop, length-take-le, append-nil, drop_all, length_push}
use Rattle.std.proofs.lemmas.Option.{slice_get_within}
use Rattle.safl_net.specs.Runs.{RunFrom, GoesOn}
use Rattle.safl_net.specs.Whole.{IsWhole}
use Rattle.safl_net.specs.Valuations.{Valuation, IsAcyclic, read_output, next_state, reset_state}
use Rattle.safl_sim.specs.Places.{resets}
use Rattle.safl_sim.specs.Outcomes.{IsCallRun, IsRun, IsOnlyRun}
use Rattle.safl_sim.specs.declared.done.Done.{Done}
use Rattle.safl_run.specs.Calls.{Answers, cycles_of}
use Rattle.safl_sim.proofs.OneCall.{only_run}
use Rattle.safl_run.proofs.OneAnswer.{call_along, from_reset}
use Rattle.safl_probe.specs.Probing.{ProbeState, Tells, begun, begin_text, finish_text}
use Rattle.safl_probe.specs.Runs.{IsRunOf, until_done, trace_at}
use Rattle.safl_probe.proofs.Frames.{same_texts, same_finish, tells_frames, all_made, all_made_part, all_part_more, trace_parts, trace_whole}

-- ---- the first cycles of a run

pub get_prefix : (k : ℕ) (vs : List Valuation) (c : ℕ) (v : Valuation) → slice_get (take k vs) c ≡ Some v → slice_get vs c ≡ Some v
get_prefix zero vs c v e = absurd (cc)
get_prefix (suc k) [] c v e = absurd (cc)
get_prefix (suc k) (u ∷ vs) zero v e = e
get_prefix (suc k) (u ∷ vs) (suc c) v e = get_prefix k vs c v e

goes_prefix : (n : Netlist) (state : ℕ → ℕ) (k : ℕ) (vs : List Valuation) → GoesOn n state vs → GoesOn n state (take k vs)
goes_prefix n state zero vs g = tt
goes_prefix n state (suc k) [] g = tt
goes_prefix n state (suc k) (v ∷ vs) g = (g.0, g.1, goes_prefix n (next_state n v) k vs g.2)

run_prefix : (n : Netlist) (state : ℕ → ℕ) (args : List ℕ) (k : ℕ) (vs : List Valuation) → RunFrom n state args vs → RunFrom n state args (take k vs)
run_prefix n state args zero vs g = tt
run_prefix n state args (suc k) [] g = tt
run_prefix n state args (suc k) (v ∷ vs) g = (g.0, g.1, g.2, goes_prefix n (next_state n v) k vs g.3)

pub is_prefix : (n : Netlist) (args : List Word) (k : ℕ) (vs : List Valuation) → IsRun n args vs → IsRun n args (take k vs)
is_prefix n args k vs r = record { run = run_prefix n _ _ k vs r.run; zeros = λ c v e. r.zeros c v (get_prefix k vs (suc c) v e) }

-- frames that are the only run begin each longer run
begins : (n : Netlist) (args : List Word) (limit : ℕ) (frames vs : List Valuation) → IsOnlyRun n args (length frames) frames → length frames ≤ limit →
    IsRunOf n args limit vs → vs ≡ frames ++ drop (length frames) vs
begins n args limit frames vs only le r =
    let long : length frames ≤ length vs = let e = r.long in omega (arith, e, le) in
    sym (take-append-drop (length frames) vs) ∙ ap (λ l. l ++ drop (length frames) vs)
    (only.alone (take (length frames) vs) (is_prefix n args (length frames) vs r.run) (length-take-le (length frames) vs long))

-- ---- cycles up to the first in which `done` is 1

module _ (n : Netlist) where
  abbrev IsLow : List Valuation → Type 0
  IsLow fs = (c : ℕ) (v : Valuation) → slice_get fs c ≡ Some v → read_output n v (codes "done") ≡ 0

  low_first : (f : Valuation) (xs : List Valuation) → read_output n f (codes "done") ≡ 0 → (if read_output n f (codes "done") == 1 then f ∷ [] else f ∷ xs) ≡ f ∷ xs
  low_first f xs e = ap (λ d. if d == 1 then f ∷ [] else f ∷ xs) e

  until_low : (fs gs : List Valuation) → IsLow fs → until_done n (fs ++ gs) ≡ fs ++ until_done n gs
  until_low [] gs low = refl
  until_low (f ∷ fs) gs low = low_first f (until_done n (fs ++ gs)) (low 0 f refl) ∙ ap (λ l. f ∷ l) (until_low fs gs (λ c v e. low (suc c) v e))

  until_high : (v : Valuation) (gs : List Valuation) → read_output n v (codes "done") ≡ 1 → until_done n (v ∷ gs) ≡ v ∷ []
  until_high v gs e = ap (λ d. if d == 1 then v ∷ [] else v ∷ until_done n gs) e

  either : (b : Bool) (v : Valuation) (xs : List Valuation) → (rest : List Valuation) × ((if b then v ∷ [] else v ∷ xs) ≡ v ∷ rest)
  either true v xs = ([], refl)
  either false v xs = (xs, refl)

  until_going : (fs gs : List Valuation) → ((c : ℕ) (v : Valuation) → c + 1 < length fs → slice_get fs c ≡ Some v → read_output n v (codes "done") ≡
      0) → (rest : List Valuation) × (until_done n (fs ++ gs) ≡ fs ++ rest)
  until_going [] gs low = (until_done n gs, refl)
  until_going (f ∷ []) gs low = either (read_output n f (codes "done") == 1) f (until_done n gs)
  until_going (f ∷ g ∷ fs) gs low =
      let more = until_going (g ∷ fs) gs (λ c v lt e. low (suc c) v (omega (arith, lt)) e) in
      (more.0, low_first f (until_done n (g ∷ fs ++ gs)) (low 0 f (omega arith) refl) ∙ ap (λ l. f ∷ l) more.1)

module _ (n : Netlist) (args : List Word) (limit : ℕ) (made : IsNetlist n) (whole : IsWhole n) (acyclic : IsAcyclic n) (state : List ℕ) (fresh : state ≡ resets n) where
  only_of : (frames : List Valuation) → IsCallRun n (slice_index state) args frames → IsOnlyRun n args (length frames) frames
  only_of frames call = only_run n made whole acyclic args frames (length frames) (call_along n (slice_index state) (reset_state n) args frames (from_reset n state fresh) call) refl

  pub going_begins : (frames vs : List Valuation) → IsCallRun n (slice_index state) args frames → length frames ≤ limit
      → ((c : ℕ) (v : Valuation) → c + 1 < length frames → slice_get frames c ≡ Some v → read_output n v (codes "done") ≡ 0) → IsRunOf n args limit vs
      → (rest : List Valuation) × (until_done n vs ≡ frames ++ rest)
  going_begins frames vs call in_time off r =
      let more = until_going n frames (drop (length frames) vs) off in
      (more.0, ap (until_done n) (begins n args limit frames vs (only_of frames call) in_time r) ∙ more.1)

  pub watched_are : (answer : Option Done) (after : ℕ → ℕ) (a : Answers n limit (slice_index state) args answer after) (vs : List Valuation) → IsRunOf n args limit vs
      → until_done n vs ≡ cycles_of n limit (slice_index state) args answer after a
  watched_are None after a vs r =
      let fs : List Valuation = a.cycles in
      let none : drop (length fs) vs ≡ [] = drop_all (length fs) vs (let x = a.long in let b = r.long in omega (arith, x, b)) in
      ap (until_done n) (begins n args limit fs vs (only_of fs a.call) (let x = a.long in omega (arith, x)) r)
      ∙ until_low n fs (drop (length fs) vs) (λ c v e. a.not_done c v (let l = a.long in let h = slice_get_within fs c v e in omega (arith, l, h)) e)
      ∙ ap (λ l. fs ++ until_done n l) none ∙ append-nil fs
  watched_are (Some d) after a vs r =
      let fs : List Valuation = a.before ++ a.last ∷ [] in
      let long : length fs ≡ d.cycle + 1 = length_push a.before a.last ∙ ap (λ k. k + 1) a.long in
      let gs : List Valuation = drop (length fs) vs in
      ap (until_done n) (begins n args limit fs vs (only_of fs a.call) (let t = a.in_time in omega (arith, t, long)) r ∙ append_assoc a.before (a.last ∷ []) gs)
      ∙ until_low n a.before (a.last ∷ gs) (λ c v e. a.not_done c v (let l = a.long in let h = slice_get_within a.before c v e in omega (arith, l, h)) e)
      ∙ ap (λ l. a.before ++ l) (until_high n a.last gs a.done)

-- ---- the files

module _ (n : Netlist) (names : Asked) (vs : List Valuation) (ps qs : List ProbeState)
    (told : (i : ℕ) (name : List ℕ) → IsAsked names i name → Tells (begun n (probe_at ps i)) (probe_at qs i)) (x y : Option Files) where
  abbrev opened : ℕ → Text
  opened i = begin_text n (probe_at ps i)

  abbrev so_far : List Valuation → ℕ → Text
  so_far frames i = begin_text n (probe_at ps i) ++ cycle_texts frames (begun n (probe_at ps i))

  so_far_is : (frames : List Valuation) (i : ℕ) (name : List ℕ) → IsAsked names i name → so_far frames i ≡ opened i ++ cycle_texts frames (probe_at qs i)
  so_far_is frames i name k = ap (λ l. opened i ++ l) (sym (same_texts frames (begun n (probe_at ps i)) (probe_at qs i) (told i name k)))

  made_so_far : (frames : List Valuation) (z : Option Files) → TellsOn (AllGrow Made names opened) x y → TellsOn
      (AllGrow Longer names (λ i. cycle_texts frames (probe_at qs i))) y z → TellsOn (AllGrow Made names (so_far frames)) x z
  made_so_far frames z b g = all_made names opened (λ i. cycle_texts frames (probe_at qs i)) (so_far frames) (so_far_is frames) x y z b g

  whole_is : (frames : List Valuation) (rs : List ProbeState) → until_done n vs ≡ frames →
      ((i : ℕ) (name : List ℕ) → IsAsked names i name → Tells (after_frames frames (probe_at qs i)) (probe_at rs i)) → (i : ℕ) (name : List ℕ) → IsAsked names i name
      → trace_at n vs ps i ≡ so_far frames i ++ finish_text (probe_at rs i)
  whole_is frames rs same shown i name k =
      ap (trace (probe_at ps i).kind n) same ∙ trace_whole n (probe_at ps i) frames
      ∙ ap (λ l. so_far frames i ++ l)
      (sym (same_finish (after_frames frames (begun n (probe_at ps i))) (probe_at rs i)
      (tells_frames frames (begun n (probe_at ps i)) (probe_at qs i) (probe_at rs i) (told i name k) (shown i name k))))

  pub traced : (frames : List Valuation) (rs : List ProbeState) (z w : Option Files) → until_done n vs ≡ frames →
      (AreApart names → TellsOn (AllGrow Made names opened) x y) → Shown frames names qs rs y z
      → (AreApart names → TellsOn (AllGrow Longer names (λ i. finish_text (probe_at rs i))) z w) → AreApart names → TellsOn (AllGrow Made names (trace_at n vs ps)) x w
  traced frames rs z w same b s e apart =
      all_made names (so_far frames) (λ i. finish_text (probe_at rs i)) (trace_at n vs ps) (whole_is frames rs same s.told) x z w (made_so_far frames z (b apart) (s.files apart)) (e apart)

  pub end_torn : (frames : List Valuation) (rs : List ProbeState) (z w : Option Files) → until_done n vs ≡ frames →
      (AreApart names → TellsOn (AllGrow Made names opened) x y) → Shown frames names qs rs y z
      → (AreApart names → TellsOn (AllGrow LongerPart names (λ i. finish_text (probe_at rs i))) z w) → AreApart names → TellsOn (AllGrow OldOrPart names (trace_at n vs ps)) x w
  end_torn frames rs z w same b s e apart =
      all_made_part names (so_far frames) (λ i. finish_text (probe_at rs i)) (trace_at n vs ps) (whole_is frames rs same s.told) x z w (made_so_far frames z (b apart) (s.files apart)) (e apart)

  pub run_torn : (frames rest : List Valuation) (z : Option Files) → until_done n vs ≡ frames ++ rest → (AreApart names → TellsOn (AllGrow Made names opened) x y)
      → (AreApart names → TellsOn (AllGrow LongerPart names (λ i. cycle_texts frames (probe_at qs i))) y z) → AreApart names → TellsOn (AllGrow OldOrPart names (trace_at n vs ps)) x z
  run_torn frames rest z same b g apart =
      all_part_more names (so_far frames) (λ i. cycle_texts rest (after_frames frames (begun n (probe_at ps i))) ++ finish_text
      (after_frames (frames ++ rest) (begun n (probe_at ps i)))) (trace_at n vs ps)
      (λ i name k. ap (trace (probe_at ps i).kind n) same ∙ trace_parts n (probe_at ps i) frames rest) x z
      (all_made_part names opened (λ i. cycle_texts frames (probe_at qs i)) (so_far frames) (so_far_is frames) x y z (b apart) (g apart))

pub begin_torn : (n : Netlist) (names : Asked) (vs : List Valuation) (ps : List ProbeState) (x y : Option Files) →
    (AreApart names → TellsOn (AllGrow OldOrPart names (λ i. begin_text n (probe_at ps i))) x y) → AreApart names
    → TellsOn (AllGrow OldOrPart names (trace_at n vs ps)) x y
begin_torn n names vs ps x y b apart =
    let frames : List Valuation = until_done n vs in
    all_part_more names (λ i. begin_text n (probe_at ps i)) (λ i. cycle_texts frames (begun n (probe_at ps i)) ++ finish_text (after_frames frames (begun n (probe_at ps i)))) (trace_at n vs ps)
    (λ i name k.
    trace_whole n (probe_at ps i) frames ∙ append_assoc (begin_text n (probe_at ps i)) (cycle_texts frames (begun n (probe_at ps i))) (finish_text (after_frames frames (begun n (probe_at ps i)))))
    x y (b apart)
