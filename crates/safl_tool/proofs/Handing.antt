-- A text is printed or a file is written, by what the shelf and the sink answer.
use Rattle.safl_tool.proofs.Common.{Bor, Lines, Sends, SendsPart, SinkState, Status, TellsOn, Vec, end_of, only_writes, outside}
use Rattle.std.proofs.Common.{◌≡◌, ℕ, List, [], ◌∷◌, Contains, refl, arith}
use Rattle.std.specs.declared.alloc.Global.{Global}
use Rattle.safl_io.specs.Shelf.{ShelfState, Leaves, LeavesOldOrPart}
use Rattle.safl_io.proofs.Telling.{nothing_part, nothing_sent}
use Rattle.safl_task.proofs.Ending.{same_all, same_parts, leaves_all, leaves_parts}
use Rattle.safl_tool.specs.Answers.{IsGiven, IsGivenInPart, printed}
use Rattle.safl_tool.specs.declared.answer.Answer.TheVariants as answer

module _ (shelf : ShelfState) (out out' : SinkState) (l : Lines) where
  -- a text is printed, or a part of it
  pub lines_given : (s : Status) → s ≡ end_of (printed l) → TellsOn (Sends l.text.items) out.sent out'.sent → out'.faults ≡ out.faults
      → IsGiven (answer.Printed l) (outside shelf out) (outside shelf out') s
  lines_given s is sent quiet = record {
    given = printed l;
    will = refl;
    all = record { files = same_all shelf.holds shelf.holds refl; printed = sent };
    counts = record { shelf = record { reads = refl; writes = refl }; prints = quiet };
    is = is;
  }

  pub lines_begun : TellsOn (SendsPart l.text.items) out.sent out'.sent → IsGivenInPart (answer.Printed l) (outside shelf out) (outside shelf out')
  lines_begun sent = record { whole = printed l; will = refl; part = record { files = same_parts [] shelf.holds shelf.holds refl; printed = sent } }

module _ (shelf shelf' : ShelfState) (out : SinkState) (name : Bor (List ℕ)) (text : Vec ℕ Global) where
  -- a file is written, or a part of it
  pub file_given : (s : Status) → s ≡ end_of (only_writes text.items) → TellsOn (Leaves name.now text.items) shelf.holds shelf'.holds
      → shelf'.read_faults ≡ shelf.read_faults → shelf'.write_faults ≡ shelf.write_faults → IsGiven (answer.File name text) (outside shelf out) (outside shelf' out) s
  file_given s is h reads writes = record {
    given = only_writes text.items;
    will = refl;
    all = record { files = leaves_all name.now text.items shelf.holds shelf'.holds h; printed = nothing_sent out.sent };
    counts = record { shelf = record { reads = reads; writes = writes }; prints = refl };
    is = is;
  }

  pub file_begun : TellsOn (LeavesOldOrPart name.now text.items) shelf.holds shelf'.holds → IsGivenInPart (answer.File name text) (outside shelf out) (outside shelf' out)
  file_begun h = record { whole = only_writes text.items; will = refl; part = record { files = leaves_parts name.now text.items shelf.holds shelf'.holds h; printed = nothing_part [] out.sent } }

-- the only name is among the names
pub only_name : (name : List ℕ) → Contains (name ∷ []) name
only_name name = (0, omega arith, refl)
