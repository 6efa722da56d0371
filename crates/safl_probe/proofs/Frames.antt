-- Frames that probes are shown, and the texts that they give.
use Rattle.safl_probe.proofs.Common.{AllGrow, Asked, Files, IsAsked, Longer, LongerPart, Made, Netlist, OldOrPart, Relation, TellsOn}
use Rattle.safl_probe.proofs.Common.{TellsOn-then, Text, Valuation, after_frames, cases_lt, cycle_texts, file_of, trace}
use Rattle.std.proofs.Common.{◌≡◌, ℕ, ◌+◌, List, [], ◌∷◌, ◌++◌, length, take, drop, Option, Some, None, refl, sym, ap, subst, ◌∙◌, inl, inr, append_assoc, add-zero, arith}
use Rattle.std.proofs.lemmas.List.{append-nil, take_at, drop_at, take_all, take-append-le}
use Rattle.std.proofs.Math.Seq.{take-add}
use Rattle.safl_probe.specs.Watching.{ProbeShape}
use Rattle.safl_probe.specs.Probing.{ProbeState, IsWatching, Tells, begun, after_frame, begin_text, cycle_text, finish_text}
use Rattle.safl_probe.proofs.Traced.{calls_make_traces}
use Rattle.safl_probe.specs.Rounds.{IsReady}
use Rattle.safl_probe.proofs.Growing.{told_weaker}

-- ---- a probe that tells the same

pub same_text : (frame : Valuation) (s q : ProbeState) → Tells s q → cycle_text frame q ≡ cycle_text frame s
same_text frame s q t = ap (cycle_text frame) t

pub same_finish : (s q : ProbeState) → Tells s q → finish_text q ≡ finish_text s
same_finish s q t = ap finish_text t

pub tells_after : (frame : Valuation) (s q x : ProbeState) → Tells s q → Tells (after_frame frame q) x → Tells (after_frame frame s) x
tells_after frame s q x t u = u ∙ ap (after_frame frame) t

pub same_texts : (fs : List Valuation) (s q : ProbeState) → Tells s q → cycle_texts fs q ≡ cycle_texts fs s
same_texts fs s q t = ap (cycle_texts fs) t

pub tells_frames : (fs : List Valuation) (s q x : ProbeState) → Tells s q → Tells (after_frames fs q) x → Tells (after_frames fs s) x
tells_frames fs s q x t u = u ∙ ap (after_frames fs) t

-- ---- one frame more

pub after_more : (fs gs : List Valuation) (s : ProbeState) → after_frames (fs ++ gs) s ≡ after_frames gs (after_frames fs s)
after_more [] gs s = refl
after_more (f ∷ fs) gs s = after_more fs gs (after_frame f s)

pub texts_more : (fs gs : List Valuation) (s : ProbeState) → cycle_texts (fs ++ gs) s ≡ cycle_texts fs s ++ cycle_texts gs (after_frames fs s)
texts_more [] gs s = refl
texts_more (f ∷ fs) gs s =
    ap (λ t. cycle_text f s ++ t) (texts_more fs gs (after_frame f s)) ∙ sym (append_assoc (cycle_text f s) (cycle_texts fs (after_frame f s)) (cycle_texts gs (after_frames fs (after_frame f s))))

pub text_more : (fs : List Valuation) (v : Valuation) (s q : ProbeState) → Tells (after_frames fs s) q → cycle_texts (fs ++ v ∷ []) s ≡ cycle_texts fs s ++ cycle_text v q
text_more fs v s q t =
    texts_more fs (v ∷ []) s ∙ ap (λ l. cycle_texts fs s ++ l) (append-nil (cycle_text v (after_frames fs s)) ∙ sym (same_text v (after_frames fs s) q t))

pub told_more : (fs : List Valuation) (v : Valuation) (s q x : ProbeState) → Tells (after_frames fs s) q → Tells (after_frame v q) x → Tells (after_frames (fs ++ v ∷ []) s) x
told_more fs v s q x t u = tells_after v (after_frames fs s) q x t u ∙ sym (after_more fs (v ∷ []) s)

shape_stays : (fs : List Valuation) (s : ProbeState) → (after_frames fs s).shape ≡ s.shape
shape_stays [] s = refl
shape_stays (f ∷ fs) s = shape_stays fs (after_frame f s)

pub watching_stays : (fs : List Valuation) (s : ProbeState) → IsWatching s → IsWatching (after_frames fs s)
watching_stays [] s w = w
watching_stays (f ∷ fs) s w = watching_stays fs (after_frame f s) w

pub watching_more : (fs : List Valuation) (s q : ProbeState) → IsWatching s → Tells (after_frames fs s) q → IsWatching q
watching_more fs s q w t = ap (λ (y : ProbeState). y.stage) t ∙ watching_stays fs s w

turn_rises : (fs : List Valuation) (s : ProbeState) → (after_frames fs s).turn ≡ s.turn + length fs
turn_rises [] s = sym (add-zero s.turn)
turn_rises (f ∷ fs) s = let e = turn_rises fs (after_frame f s) in omega (arith, e)

-- a probe that was ready, and was shown as many frames, may be shown one more
pub fits_more : (n : Netlist) (fs : List Valuation) (v : Valuation) (s q : ProbeState) → IsReady n s → Tells (after_frames fs s) q → length v ≡ length n.signals → length v ≡ q.shape.signals
fits_more n fs v s q r t long = long ∙ sym r.signals ∙ sym (ap (λ (y : ProbeState). y.shape.signals) t ∙ ap (λ (h : ProbeShape). h.signals) (shape_stays fs s))

pub turn_more : (n : Netlist) (fs : List Valuation) (s q : ProbeState) (c : ℕ) → IsReady n s → Tells (after_frames fs s) q → length fs ≡ c → c ≡ q.turn
turn_more n fs s q c r t long =
    let e : q.turn ≡ s.turn + length fs = ap (λ (y : ProbeState). y.turn) t ∙ turn_rises fs s in
    let z : s.turn ≡ 0 = r.turn in
    omega (arith, e, z, long)

pub ready : (n : Netlist) (p q : ProbeState) → Tells (begun n p) q → IsReady n q
ready n p q t = record {
  watching = ap (λ (y : ProbeState). y.stage) t;
  signals = ap (λ (y : ProbeState). y.shape.signals) t;
  turn = ap (λ (y : ProbeState). y.turn) t;
}

-- ---- texts, one after the other

longer_then : (had mid now : Option Text) (t u : Text) → Longer had t mid → Longer mid u now → Longer had (t ++ u) now
longer_then None mid now t u f g = tt
longer_then (Some h) mid now t u f g = subst (λ (o : Option Text). Longer o u now) f g ∙ ap (λ (x : Text). Some x) (append_assoc h t u)

take_more : (t u : Text) (count : ℕ) → take (length t + count) (t ++ u) ≡ t ++ take count u
take_more t u count = take-add (length t) count (t ++ u) ∙ ap (λ x. x ++ take count (drop (length t) (t ++ u))) (take_at t u (length t) refl) ∙ ap
    (λ x. t ++ take count x) (drop_at t u (length t) refl)

longer_part : (had mid now : Option Text) (t u : Text) → Longer had t mid → LongerPart mid u now → LongerPart had (t ++ u) now
longer_part None mid now t u f g = tt
longer_part (Some h) mid now t u f g =
    let k = subst (λ (o : Option Text). LongerPart o u now) f g in
    (length t + k.0, k.1 ∙ ap (λ (x : Text). Some x) (append_assoc h t (take k.0 u) ∙ ap (λ x. h ++ x) (sym (take_more t u k.0))))

made_then : (had mid now : Option Text) (t u : Text) → Made had t mid → Longer mid u now → Made had (t ++ u) now
made_then had mid now t u f g = subst (λ (o : Option Text). Longer o u now) f g

made_part : (had mid now : Option Text) (t u : Text) → Made had t mid → LongerPart mid u now → OldOrPart had (t ++ u) now
made_part had mid now t u f g =
    let k = subst (λ (o : Option Text). LongerPart o u now) f g in
    inr (length t + k.0, k.1 ∙ ap (λ (x : Text). Some x) (sym (take_more t u k.0)))

part_more : (had now : Option Text) (t u : Text) → OldOrPart had t now → OldOrPart had (t ++ u) now
part_more had now t u (inl e) = inl e
part_more had now t u (inr h) =
    elim (cases_lt (length t) h.0) [
      | inl long ↦ inr (length t, h.1 ∙ ap (λ (x : Text). Some x) (take_all h.0 t (omega (arith, long)) ∙ sym (take_at t u (length t) refl)))
      | inr short ↦ inr (h.0, h.1 ∙ ap (λ (x : Text). Some x) (sym (take-append-le h.0 t u short)))
    ]

-- the same for all asked files
all_asked : (R S T : Relation) (names : Asked) (t u w : ℕ → Text) →
    ((i : ℕ) (name : List ℕ) → IsAsked names i name → (had mid now : Option Text) → R had (t i) mid → S mid (u i) now → T had (w i) now) →
    (x y z : Option Files) → TellsOn (AllGrow R names t) x y
    → TellsOn (AllGrow S names u) y z → TellsOn (AllGrow T names w) x z
all_asked R S T names t u w f =
    TellsOn-then (AllGrow R names t) (AllGrow S names u) (AllGrow T names w)
    (λ a b c g h. record {
      files = λ i name k. f i name k (file_of a name) (file_of b name) (file_of c name) (g.files i name k) (h.files i name k);
      others = λ name no. h.others name no ∙ g.others name no;
    })

module _ (names : Asked) (t u w : ℕ → Text) (is : (i : ℕ) (name : List ℕ) → IsAsked names i name → w i ≡ t i ++ u i) (x y z : Option Files) where
  pub all_longer : TellsOn (AllGrow Longer names t) x y → TellsOn (AllGrow Longer names u) y z → TellsOn (AllGrow Longer names w) x z
  all_longer = all_asked Longer Longer Longer names t u w (λ i name k had mid now f g. subst (λ l. Longer had l now) (sym (is i name k)) (longer_then had mid now (t i) (u i) f g)) x y z

  pub all_longer_part : TellsOn (AllGrow Longer names t) x y → TellsOn (AllGrow LongerPart names u) y z → TellsOn (AllGrow LongerPart names w) x z
  all_longer_part = all_asked Longer LongerPart LongerPart names t u w
      (λ i name k had mid now f g. subst (λ l. LongerPart had l now) (sym (is i name k)) (longer_part had mid now (t i) (u i) f g)) x y z

  pub all_made : TellsOn (AllGrow Made names t) x y → TellsOn (AllGrow Longer names u) y z → TellsOn (AllGrow Made names w) x z
  all_made = all_asked Made Longer Made names t u w (λ i name k had mid now f g. subst (λ l. Made had l now) (sym (is i name k)) (made_then had mid now (t i) (u i) f g)) x y z

  pub all_made_part : TellsOn (AllGrow Made names t) x y → TellsOn (AllGrow LongerPart names u) y z → TellsOn (AllGrow OldOrPart names w) x z
  all_made_part = all_asked Made LongerPart OldOrPart names t u w (λ i name k had mid now f g. subst (λ l. OldOrPart had l now) (sym (is i name k)) (made_part had mid now (t i) (u i) f g)) x y z

pub all_part_more : (names : Asked) (t u w : ℕ → Text) → ((i : ℕ) (name : List ℕ) → IsAsked names i name → w i ≡ t i ++ u i) → (x y : Option Files) →
    TellsOn (AllGrow OldOrPart names t) x y → TellsOn (AllGrow OldOrPart names w) x y
all_part_more names t u w is =
    told_weaker (AllGrow OldOrPart names t) (AllGrow OldOrPart names w)
    (λ a b g. record {
      files = λ i name k. subst (λ l. OldOrPart (file_of a name) l (file_of b name)) (sym (is i name k)) (part_more (file_of a name) (file_of b name) (t i) (u i) (g.files i name k));
      others = g.others;
    })

-- other texts that are equal at the asked places
pub all_same : (R : Relation) (names : Asked) (t w : ℕ → Text) → ((i : ℕ) (name : List ℕ) → IsAsked names i name → w i ≡ t i) → (x y : Option Files) →
    TellsOn (AllGrow R names t) x y → TellsOn (AllGrow R names w) x y
all_same R names t w is =
    told_weaker (AllGrow R names t) (AllGrow R names w)
    (λ a b g. record { files = λ i name k. subst (λ l. R (file_of a name) l (file_of b name)) (sym (is i name k)) (g.files i name k); others = g.others })

pub all_untouched : (names : Asked) (w : ℕ → Text) (x : Option Files) → TellsOn (AllGrow OldOrPart names w) x x
all_untouched names w None = tt
all_untouched names w (Some a) = record { files = λ i name k. inl refl; others = λ name no. refl }

-- ---- the trace of frames

pub trace_parts : (n : Netlist) (s : ProbeState) (frames rest : List Valuation) → trace s.kind n (frames ++ rest) ≡
    (begin_text n s ++ cycle_texts frames (begun n s)) ++ (cycle_texts rest (after_frames frames (begun n s)) ++ finish_text (after_frames (frames ++ rest) (begun n s)))
trace_parts n s frames rest =
    let a : Text = begin_text n s in
    let b : Text = cycle_texts frames (begun n s) in
    let c : Text = cycle_texts rest (after_frames frames (begun n s)) in
    let d : Text = finish_text (after_frames (frames ++ rest) (begun n s)) in
    sym (calls_make_traces n s (frames ++ rest)) ∙ ap (λ l. a ++ l ++ d) (texts_more frames rest (begun n s)) ∙ ap (λ l. l ++ d) (sym (append_assoc a b c)) ∙ append_assoc (a ++ b) c d

pub trace_whole : (n : Netlist) (s : ProbeState) (frames : List Valuation) → trace s.kind n frames ≡ (begin_text n s ++ cycle_texts frames (begun n s)) ++ finish_text (after_frames frames (begun n s))
trace_whole n s frames = sym (calls_make_traces n s frames)
