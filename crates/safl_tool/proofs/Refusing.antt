-- What a refusal says of a command.
use Rattle.safl_tool.proofs.Common.{IfOk, Refusal, SinkState, Status}
use Rattle.std.proofs.Common.{◌≡◌, ℕ, List, Result, Ok, Err, false, sym, subst, inl, inr}
use Rattle.safl_task.specs.Endings.{Outside, Untouched, Stops, refused, unread, long, starved, Ends, told, cut, may_give}
use Rattle.safl_task.specs.Inputs.{AreUnread}
use Rattle.safl_task.specs.Lines.{memory_line, read_line, long_line}
use Rattle.safl_task.specs.Tasks.{Task, AreContents}
use Rattle.safl_task.specs.declared.input.Unread.{Unread}
use Rattle.safl_task.specs.declared.input.Unread.TheVariants as unread_by
use Rattle.safl_task.specs.declared.status.Status.TheVariants as status
use Rattle.safl_task.proofs.Ending.{stop_left}
use Rattle.safl_tool.specs.Refusals.{StopsBy, RefusesBy, IsOfUnread, SendsLine, sent, SendsRefusal, made, unmade, status_of, line_of}
use Rattle.safl_tool.specs.Refusals as refusals

-- what refuses for one reason refuses for another that follows
pub refuses_more : (P Q : Status → List ℕ → Type 0) → ((s : Status) (line : List ℕ) → P s line → Q s line) → (r : Refusal) → RefusesBy P r → RefusesBy Q r
refuses_more P Q f r h = elim h [ inl e ↦ inl e | inr p ↦ inr (f (status_of r) (line_of r) p) ]

-- two facts of one result
pub both_ok : {X : Type 0} (r : Result X Refusal) (P Q R : X → Type 0) → ((x : X) → P x → Q x → R x) → IfOk r P → IfOk r Q → IfOk r R
both_ok (Ok x) P Q R f p q = f x p q
both_ok (Err e) P Q R f p q = tt

module _ (t : Task) (Unprobed : List ℕ → Type 0) (old new : Outside) where
  -- an input was not read
  pub unread_stops : Untouched old new → (why : Unread) → AreUnread t.inputs old.shelf new.shelf why → (r : Refusal) → IsOfUnread why r → StopsBy t Unprobed old new r
  unread_stops kept (unread_by.Failed name) (i, reached, h) r is =
      subst (λ (x : Refusal). StopsBy t Unprobed old new x) (sym is)
      (subst (λ (x : List ℕ). Stops t Unprobed old new status.ReadFault (read_line x)) (sym h.0) (unread i reached h.1 kept))
  unread_stops kept (unread_by.TooLong name limit) (i, reached, h) r is =
      subst (λ (x : Refusal). StopsBy t Unprobed old new x) (sym is)
      (subst (λ (x : List ℕ). Stops t Unprobed old new status.TooLong (long_line x limit)) (sym h.0)
      (subst (λ (k : ℕ). Stops t Unprobed old new status.TooLong (long_line i.name k)) (sym h.1) (long i reached h.2 kept)))
  unread_stops kept unread_by.NoMemory h r is = subst (λ (x : Refusal). StopsBy t Unprobed old new x) (sym is) (starved (inl kept))

  -- what was read is refused
  pub content_stops : (contents : List (List ℕ)) → AreContents old.shelf.holds t.inputs contents → ((s : Status) (line : List ℕ) → t.Refuses contents s line → may_give s ≡ false) → Untouched old new
      → (r : Refusal) → RefusesBy (t.Refuses contents) r → StopsBy t Unprobed old new r
  content_stops contents are quiet kept r h = elim h [
    | inl e ↦ subst (λ (x : Refusal). StopsBy t Unprobed old new x) (sym e) (starved (inl kept))
    | inr f ↦ refused (status_of r) (line_of r) (quiet (status_of r) (line_of r) f) (contents, are, f) kept
  ]

  -- the line was sent so
  line_ends : (before after : SinkState) (s : Status) (line : List ℕ) (end : Status) → Stops t Unprobed old new s line → SendsLine s line before after end → Ends t Unprobed old new before after end
  line_ends before after s line _ stops (sent g) = told s line stops g
  line_ends before after s line _ stops (refusals.cut p) = cut s line stops p

  pub refusal_ends : (before after : SinkState) (r : Refusal) (s : Status) → StopsBy t Unprobed old new r → SendsRefusal r before after s → Ends t Unprobed old new before after s
  refusal_ends before after r s stops (made h) = line_ends before after (status_of r) (line_of r) s stops h
  refusal_ends before after r s stops (unmade h) = line_ends before after status.NoMemory memory_line s (starved (stop_left t Unprobed old new (status_of r) (line_of r) stops)) h
