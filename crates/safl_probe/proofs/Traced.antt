-- The texts of a probe's calls are the trace of the frames.
use Rattle.std.proofs.Common.{◌≡◌, ℕ, suc, ◌+◌, List, [], ◌∷◌, ◌++◌, length, Option, Some, None, refl, sym, ap, ◌∙◌, add-one, add-zero, arith}
use Rattle.safl_net.specs.Valuations.{Valuation}
use Rattle.safl_probe.specs.Watching.{ProbeShape, kind_of, shape_of, seen}
use Rattle.safl_probe.specs.Texts.{frame_text, frames_text, closing}
use Rattle.safl_probe.specs.Probing.{ProbeState, begun, begin_text, finish_text}
use Rattle.safl_probe.specs.declared.stage.Stage.TheVariants as stage
use Rattle.safl_probe.specs.Calls.{cycle_texts, after_frames, CallsMakeTraces}

module _ (kind : ℕ) (shape : ProbeShape) (faults : ℕ) where
  abbrev at : Option (List ℕ) → ℕ → ProbeState
  at last turn = record { kind = kind; stage = stage.Watching; shape = shape; last = last; turn = turn; faults = faults }

  pub texts_are : (fs : List Valuation) (last : Option (List ℕ)) (t : ℕ) → cycle_texts fs (at last t) ≡ frames_text (kind_of kind) shape.watched t last fs
  texts_are [] last t = refl
  texts_are (f ∷ fs) last t =
      let now : Option (List ℕ) = Some (seen shape.watched f) in
      ap (λ l. frame_text (kind_of kind) shape.watched t last (seen shape.watched f) ++ l) (ap (λ k. cycle_texts fs (at now k)) (add-one t) ∙ texts_are fs now (suc t))

  pub turn_after : (fs : List Valuation) (last : Option (List ℕ)) (t : ℕ) → finish_text (after_frames fs (at last t)) ≡ closing (kind_of kind) (t + length fs)
  turn_after [] last t = ap (closing (kind_of kind)) (sym (add-zero t))
  turn_after (f ∷ fs) last t =
      let now : Option (List ℕ) = Some (seen shape.watched f) in
      let same : t + 1 + length fs ≡ t + length (f ∷ fs) = omega arith in
      turn_after fs now (t + 1) ∙ ap (closing (kind_of kind)) same

pub calls_make_traces : CallsMakeTraces
calls_make_traces n s frames =
    let shape : ProbeShape = shape_of s.kind n in
    let none : 0 + length frames ≡ length frames = omega arith in
    ap (λ l. begin_text n s ++ l ++ finish_text (after_frames frames (begun n s))) (texts_are s.kind shape s.faults frames None 0)
    ∙ ap (λ l. begin_text n s ++ frames_text (kind_of s.kind) shape.watched 0 None frames ++ l) (turn_after s.kind shape s.faults frames None 0 ∙ ap (closing (kind_of s.kind)) none)
