-- A dump shows each traced signal's number in each frame.
use Rattle.safl_probe.proofs.Common.{IsNetlist, Valuation, append-nil, get_some, option_or}
use Rattle.std.proofs.Common.{◌≡◌, ℕ, zero, suc, ◌+◌, ◌<◌, ◌≤◌, ◌^◌, List, [], ◌∷◌, ◌++◌, map, length, Some, None, Bool, true, false, cond, slice_get}
use Rattle.std.proofs.Common.{slice_index, refl, sym, ap, subst, ◌∙◌, add-zero, append_assoc, arith, lit<}
use Rattle.std.proofs.lemmas.Bool.{le-ltb}
use Rattle.safl_net.specs.Netlist.{Netlist, Signal, width_of, width_in}
use Rattle.safl_net.specs.Names.{is_good}
use Rattle.safl_net.specs.Laws.{FitWidths}
use Rattle.safl_net.specs.Making.{sort_of}
use Rattle.safl_probe.specs.declared.kind.Group.{Group}
use Rattle.safl_probe.specs.declared.kind.Group.TheVariants.{Inputs, Registers, NamedWires}
use Rattle.safl_probe.specs.declared.kind.TraceKind.TheVariants.{Vcd}
use Rattle.safl_probe.specs.Watching.{Watched, belongs, one_watched, group_from, output_watched, watched_by, seen}
use Rattle.safl_probe.specs.Texts.{Text, code, header, dump, changes, frame_text, frames_text, closing, time, trace}
use Rattle.safl_probe.specs.Following.{Line, Time, Other, lines, told_by, up_to, stands, FramesFit, DumpsShowFrames}
use Rattle.safl_probe.proofs.Lines.{Free, free_name, Tells, tells_both, tells_time, tells_timed, tells_changes, tells_dump, tells_header, Fitting}
use Rattle.safl_probe.proofs.Lines.{Named, value_lines, change_lines, variable_lines, header_lines, timed_lines}
use Rattle.safl_probe.proofs.Stands.{values_at, Passing, pass, passing_more, passing_values, seen_at, later_lines, AllFit, cut, follow, stands_more}

-- ---- what is traced has a name without a line feed and the width of its signal

pub record Good (n : Netlist) (w : Watched) : Type 0 where
  pub named : Free 10 w.name
  pub wide : w.width < 2 ^ 128
  pub fits : (f : ℕ → ℕ) → FitWidths n f → f w.signal < 2 ^ w.width

abbrev AllGood : Netlist → List Watched → Type 0
AllGood n [] = Unit {0}
AllGood n (w ∷ ws) = Good n w × AllGood n ws

good_more : (n : Netlist) (a b : List Watched) → AllGood n a → AllGood n b → AllGood n (a ++ b)
good_more n [] b f g = g
good_more n (w ∷ a) b f g = (f.0, good_more n a b f.1 g)

small_width : (w : ℕ) → w ≤ 128 → w < 2 ^ 128
small_width w h = let big : 128 < 2 ^ 128 = lit< tt in omega (arith, h, big)

good_signal : (n : Netlist) → IsNetlist n → (i : ℕ) (g : Signal) → slice_get n.signals i ≡ Some g → Good n (record { name = g.name; signal = i; width = g.width })
good_signal n made i g at = record {
  named = free_name g.name (made.signals i g at).good;
  wide = small_width g.width (made.signals i g at).most;
  fits = λ f h. h i g at;
}

good_group : (n : Netlist) → IsNetlist n → (group : Group) (gs : List Signal) (i : ℕ) →
    ((k : ℕ) (g : Signal) → slice_get gs k ≡ Some g → slice_get n.signals (i + k) ≡ Some g) → AllGood n (group_from group gs i)
good_group n made group [] i part = tt
good_group n made group (g ∷ gs) i part =
    good_more n (one_watched group g i) (group_from group gs (suc i)) (one (belongs group (sort_of g.kind) g.name))
    (good_group n made group gs (suc i) (λ k h e. let next : i + suc k ≡ suc i + k = omega arith in subst (λ m. slice_get n.signals m ≡ Some h) next (part (suc k) h e)))
  where
    here : slice_get n.signals i ≡ Some g
    here = subst (λ m. slice_get n.signals m ≡ Some g) (add-zero i) (part 0 g refl)

    one : (b : Bool) → AllGood n (cond b (record { name = g.name; signal = i; width = g.width } ∷ []) [])
    one true = (good_signal n made i g here, tt)
    one false = tt

good_outputs : (n : Netlist) → IsNetlist n → (os : List (List ℕ × ℕ)) →
    ((k : ℕ) (o : List ℕ × ℕ) → slice_get os k ≡ Some o → (is_good o.0 ≡ true) × (o.1 < length n.signals)) → AllGood n (map (output_watched n) os)
good_outputs n made [] part = tt
good_outputs n made (o ∷ os) part =
    let is = part 0 o refl in
    let g = get_some n.signals o.1 is.1 in
    let width : g.0.width ≡ width_of n o.1 = sym (ap width_in g.1) in
    let signal = good_signal n made o.1 g.0 g.1 in (
      record {
        named = free_name o.0 is.0;
        wide = subst (λ w. w < 2 ^ 128) width signal.wide;
        fits = λ f h. subst (λ w. f o.1 < 2 ^ w) width (signal.fits f h);
      },
      good_outputs n made os (λ k p e. part (suc k) p e),
    )

good_traced : (n : Netlist) → IsNetlist n → AllGood n (watched_by Vcd n)
good_traced n made =
    let at_start : (k : ℕ) (g : Signal) → slice_get n.signals k ≡ Some g → slice_get n.signals (0 + k) ≡ Some g = λ k g e. let same : k ≡ 0 + k =
    omega arith in subst (λ m. slice_get n.signals m ≡ Some g) same e in
    good_more n (group_from Inputs n.signals 0 ++ group_from Registers n.signals 0 ++ group_from NamedWires n.signals 0) (map (output_watched n) n.outputs)
    (good_more n (group_from Inputs n.signals 0 ++ group_from Registers n.signals 0) (group_from NamedWires n.signals 0)
    (good_more n (group_from Inputs n.signals 0) (group_from Registers n.signals 0) (good_group n made Inputs n.signals 0 at_start) (good_group n made Registers n.signals 0 at_start))
    (good_group n made NamedWires n.signals 0 at_start))
    (good_outputs n made n.outputs (λ k o e. made.outputs k o e))

named_of : (n : Netlist) (ws : List Watched) → AllGood n ws → Named ws
named_of n [] good = tt
named_of n (w ∷ ws) good = (good.0.named, good.0.wide, named_of n ws good.1)

fitting_of : (n : Netlist) (ws : List Watched) (frame : Valuation) → AllGood n ws → FitWidths n (slice_index frame) → Fitting ws (seen ws frame)
fitting_of n [] frame good fit = tt
fitting_of n (w ∷ ws) frame good fit =
    (λ one. let p : slice_index frame w.signal < 2 ^ 1 = subst (λ k. slice_index frame w.signal < 2 ^ k) one (good.0.fits (slice_index frame) fit) in p, fitting_of n ws frame good.1 fit)

fits_of : (n : Netlist) (ws : List Watched) (frames : List Valuation) → AllGood n ws → FramesFit n frames → AllFit ws frames
fits_of n ws [] good fit = tt
fits_of n ws (f ∷ fs) good fit = (fitting_of n ws f good (fit 0 f refl), fits_of n ws fs good (λ t g e. fit (suc t) g e))

-- ---- the whole text

tells_later : (ws : List Watched) (t : ℕ) (last : List ℕ) (fs : List Valuation) → AllFit ws fs → t + length fs < 2 ^ 128 → Tells
    (frames_text Vcd ws t (Some last) fs ++ closing Vcd (t + length fs)) (later_lines ws t last fs)
tells_later ws t last [] fit few = subst (λ k. Tells (time k) (Time t ∷ [])) (sym (add-zero t)) (tells_time t (omega (arith, few)))
tells_later ws t last (f ∷ fs) fit few =
    let now : List ℕ = seen ws f in
    let first : Text = frame_text Vcd ws t (Some last) now in
    let rest : Text = frames_text Vcd ws (suc t) (Some now) fs in
    let ends : suc t + length fs ≡ t + length (f ∷ fs) = omega arith in
    let after : Tells (rest ++ closing Vcd (suc t + length fs)) (later_lines ws (suc t) now fs) = tells_later ws (suc t) now fs fit.1 (omega (arith, few)) in
    subst (λ x. Tells x (later_lines ws t last (f ∷ fs))) (
    ap (λ k. first ++ (rest ++ closing Vcd k)) ends ∙ sym (append_assoc first rest (closing Vcd (t + length (f ∷ fs)))))
    (tells_both first (rest ++ closing Vcd (suc t + length fs)) (timed_lines t (changes 0 ws last now) (change_lines 0 ws last now)) (later_lines ws (suc t) now fs)
    (tells_timed t (changes 0 ws last now) (change_lines 0 ws last now) (omega (arith, few)) (tells_changes 0 ws last now fit.0))
    after)

abbrev dump_lines : List Watched → List ℕ → List Line
dump_lines ws now = Time 0 ∷ Other ∷ (value_lines 0 ws now ++ Other ∷ [])

abbrev head_lines : List Watched → List ℕ → List Line
head_lines ws now = header_lines ws ++ dump_lines ws now

tells_whole : (n : Netlist) (f : Valuation) (fs : List Valuation) → IsNetlist n → AllFit (watched_by Vcd n) (f ∷ fs) → 1 + length fs < 2 ^ 128
    → Tells (trace 1 n (f ∷ fs)) (head_lines (watched_by Vcd n) (seen (watched_by Vcd n) f) ++ later_lines (watched_by Vcd n) 1 (seen (watched_by Vcd n) f) fs)
tells_whole n f fs made fit few =
    let ws : List Watched = watched_by Vcd n in
    let now : List ℕ = seen ws f in
    let first : Text = dump 0 ws now in
    let rest : Text = frames_text Vcd ws 1 (Some now) fs in
    let ends : 1 + length fs ≡ length (f ∷ fs) = omega arith in
    subst (λ x. Tells x (head_lines ws now ++ later_lines ws 1 now fs)) (
    ap (λ k. (header ws ++ first) ++ (rest ++ closing Vcd k)) ends
    ∙ append_assoc (header ws) first (rest ++ closing Vcd (length (f ∷ fs)))
    ∙ ap (λ x. header ws ++ x) (sym (append_assoc first rest (closing Vcd (length (f ∷ fs)))))
    ∙ sym (append_assoc (header ws) (first ++ rest) (closing Vcd (length (f ∷ fs)))))
    (tells_both (header ws ++ first) (rest ++ closing Vcd (1 + length fs)) (head_lines ws now) (later_lines ws 1 now fs)
    (tells_both (header ws) first (header_lines ws) (dump_lines ws now) (tells_header ws (named_of n ws (good_traced n made))) (tells_dump 0 ws now (omega (arith, few)) fit.0))
    (tells_later ws 1 now fs fit.1 few))

told_whole : (text : Text) (ls : List Line) → Tells text ls → map told_by (lines text) ≡ ls
told_whole text ls t = ap (λ x. map told_by (lines x)) (sym (append-nil text)) ∙ t.more [] ∙ append-nil ls

passing_variables : (t : ℕ) (ws : List Watched) → Passing t (variable_lines ws)
passing_variables t [] = tt
passing_variables t (w ∷ ws) = (refl, passing_variables t ws)

passing_head : (t : ℕ) (ws : List Watched) (now : List ℕ) → Passing t (head_lines ws now)
passing_head t ws now =
    passing_more t (header_lines ws) (dump_lines ws now) (refl, (refl, passing_more t (variable_lines ws) (Other ∷ Other ∷ []) (passing_variables t ws) (refl, (refl, tt))))
    (le-ltb t 0 (omega arith), (refl, passing_more t (value_lines 0 ws now) (Other ∷ []) (passing_values t 0 ws now) (refl, tt)))

stands_head : (ws : List Watched) (i : ℕ) (w : Watched) (f : Valuation) → slice_get ws i ≡ Some w → stands (code i) (head_lines ws (seen ws f)) ≡ Some (slice_index f w.signal)
stands_head ws i w f is =
    let now : List ℕ = seen ws f in
    let values : stands (code i) (value_lines 0 ws now ++ Other ∷ []) ≡ Some (slice_index f w.signal) =
    stands_more (code i) (value_lines 0 ws now) (Other ∷ []) ∙ values_at i 0 i ws now w (slice_index f w.signal) (omega arith) is (seen_at ws i w f is) in
    stands_more (code i) (header_lines ws) (dump_lines ws now) ∙ ap (λ o. option_or (option_or (option_or o None) None) (stands (code i) (header_lines ws))) values

pub dumps_show_frames : DumpsShowFrames
dumps_show_frames n made [] fit few t i frame w at is = absurd (cc)
dumps_show_frames n made (f ∷ fs) fit few t i frame w at is =
    let ws : List Watched = watched_by Vcd n in
    let now : List ℕ = seen ws f in
    let fits : AllFit ws (f ∷ fs) = fits_of n ws (f ∷ fs) (good_traced n made) fit in
    let bound : 1 + length fs < 2 ^ 128 = let big : 2 ^ 64 < 2 ^ 128 = lit< tt in omega (arith, few, big) in
    let rest : List Line = up_to t (later_lines ws 1 now fs) in
    ap (λ ls. stands (code i) (up_to t ls)) (told_whole (trace 1 n (f ∷ fs)) (head_lines ws now ++ later_lines ws 1 now fs) (tells_whole n f fs made fits bound))
    ∙ ap (stands (code i)) (pass t (head_lines ws now) (later_lines ws 1 now fs) (passing_head t ws now))
    ∙ stands_more (code i) (head_lines ws now) rest
    ∙ ap (option_or (stands (code i) rest)) (stands_head ws i w f is)
    ∙ last t at
  where
    last : (q : ℕ) → slice_get (f ∷ fs) q ≡ Some frame → option_or
        (stands (code i) (up_to q (later_lines (watched_by Vcd n) 1 (seen (watched_by Vcd n) f) fs))) (Some (slice_index f w.signal)) ≡ Some (slice_index frame w.signal)
    last zero here =
        let same : f ≡ frame = cc in
        ap (λ l. option_or (stands (code i) l) (Some (slice_index f w.signal)))
        (cut (watched_by Vcd n) 0 1 (seen (watched_by Vcd n) f) fs (omega arith) (fits_of n (watched_by Vcd n) (f ∷ fs) (good_traced n made) fit).1)
        ∙ ap (λ (v : Valuation). Some (slice_index v w.signal)) same
    last (suc d) here =
        follow (watched_by Vcd n) i w is d (suc d) 1 (seen (watched_by Vcd n) f) fs (slice_index f w.signal) frame (omega arith)
        (seen_at (watched_by Vcd n) i w f is) here (fits_of n (watched_by Vcd n) (f ∷ fs) (good_traced n made) fit).1
