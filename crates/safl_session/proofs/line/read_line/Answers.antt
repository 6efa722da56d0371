use Rattle.std.proofs.Common.{◌≡◌, ◌≤◌, ◌+◌, length, Some, None, slice_index, subst, sym, refl, ◌∙◌, inr, Vec, Global}
use Rattle.safl_word.specs.Words.{Word}
use Rattle.safl_word.proofs.Lists.{shown_at}
use Rattle.safl_session.specs.Lines.{Count, Argument}
use Rattle.safl_session.proofs.WordsOfLines.{SeenTo, is_absent, is_present, seen_none, seen_read, seen_bad, seen_over, seen_count, seen_call, seen_fault}
use Rattle.safl_session.proofs.line.read_line.Goals.{then-is_none+then-given-widths+in-None}
use Rattle.safl_session.proofs.line.read_line.Goals.{then-is_none+then-given-widths+in-Some-read_argument+in-Ok, else-is_none}
use Rattle.safl_session.proofs.line.read_line.Goals.{else-is_none-via-then-is_none+else-given-widths, else-is_none-via-else-is_none}
use Rattle.safl_session.proofs.line.read_line.Goals as goal

pub words-init : goal.words-init
words-init c = seen_none c.args.widths.now c.args.line.now c.args.words.now.items

pub words-preserved : goal.words-preserved
words-preserved c =
    let widths = c.args.widths.now in
    let line = c.args.line.now in
    let count = c.words.given in
    let rest = c.words.rest.now in
    let word = c.in-Some.word.now in
    let behind = c.in-Some.behind.now in
    let starts = c.in-Some.ensures.some in
    let old = c.args.words.now.items in
    let mid = c.words.words.items in
    elim c.if-is_none.branch [
      | then-is_none+then-given-widths+in-None w ↦
          let none = is_absent c.words.misread c.is_none.result c.is_none.ensures w.if-is_none.true in
          let seen = subst (λ m. SeenTo widths line count m rest old mid) none c.words.invariant in
          subst (λ m. SeenTo widths line (count + 1) m behind old c.if-is_none.words.items) (sym w.misread-is)
          (subst (λ (v : Vec Word Global). SeenTo widths line (count + 1) (Some (count + 1)) behind old v.items) (sym w.words-is)
          (seen_bad widths line count rest word behind starts (slice_index widths count) old mid seen (shown_at widths count w.if-given-widths.true _ refl) w.in-None.ensures.none))
      | then-is_none+then-given-widths+in-Some-read_argument+in-Ok w ↦
          let none = is_absent c.words.misread c.is_none.result c.is_none.ensures w.if-is_none.true in
          let seen = subst (λ m. SeenTo widths line count m rest old mid) none c.words.invariant in
          subst (λ m. SeenTo widths line (count + 1) m behind old c.if-is_none.words.items) (sym (w.misread-is ∙ none))
          (subst (λ (v : Vec Word Global). SeenTo widths line (count + 1) None behind old v.items) (sym w.words-is)
          (seen_read widths line count rest word behind starts (slice_index widths count) w.in-Some-read_argument.argument old mid _ seen (shown_at widths count w.if-given-widths.true _ refl)
          w.in-Some-read_argument.ensures.read w.in-Ok.ensures.items))
      | else-is_none w ↦
          let over : c.words.misread ≡ None → length widths ≤ count = elim w.else-is_none.branch [
            | else-is_none-via-then-is_none+else-given-widths u ↦ λ e. u.if-given-widths.false
            | else-is_none-via-else-is_none u ↦ λ e. absurd (is_present c.words.misread c.is_none.result c.is_none.ensures u.if-is_none.false e)
          ] in
          subst (λ m. SeenTo widths line (count + 1) m behind old c.if-is_none.words.items) (sym w.misread-is)
          (subst (λ (v : Vec Word Global). SeenTo widths line (count + 1) c.words.misread behind old v.items) (sym w.words-is)
          (seen_over widths line count rest word behind starts c.words.misread old mid c.words.invariant over))
    ]

pub returns-then-given-widths-2-clause-refused : goal.returns-then-given-widths-2-clause-refused
returns-then-given-widths-2-clause-refused c = inr (
  Count _ _,
  refl,
  (
    refl,
    seen_count c.args.widths.now c.args.line.now c.words.given c.words.rest.now c.in_default.ensures.none c.args.words.now.items c.words.words.items
        c.words.misread c.words.invariant c.if-given-widths-2.true,
  ),
)

pub returns-in-Some-misread-clause-refused : goal.returns-in-Some-misread-clause-refused
returns-in-Some-misread-clause-refused c =
    let seen = subst (λ m. SeenTo c.args.widths.now c.args.line.now c.words.given m c.words.rest.now c.args.words.now.items c.words.words.items) c.in-Some-misread.is c.words.invariant in
    inr (
      Argument _ _,
      refl,
      (
        refl,
        seen_fault c.args.widths.now c.args.line.now c.words.given c.words.rest.now c.in_default.ensures.none c.args.words.now.items c.words.words.items
            c.in-Some-misread.place seen c.if-given-widths-2.false,
      ),
    )

pub returns-in-None-misread-clause-read : goal.returns-in-None-misread-clause-read
returns-in-None-misread-clause-read c =
    let seen = subst (λ m. SeenTo c.args.widths.now c.args.line.now c.words.given m c.words.rest.now c.args.words.now.items c.words.words.items) c.in-None-misread.is c.words.invariant in
    seen_call c.args.widths.now c.args.line.now c.words.given c.words.rest.now c.in_default.ensures.none c.args.words.now.items c.words.words.items seen c.if-given-widths-2.false
