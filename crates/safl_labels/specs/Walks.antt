-- What is found on a walk over two terms.
use Rattle.std.specs.Prelude.{List, Bool}
use Rattle.safl_term.specs.Terms.{Term, Terms, If}
use Rattle.safl_term.specs.Tree.{shown_term}
use Rattle.safl_calls.specs.Labels.{AllTwins}
use Rattle.safl_labels.specs.declared.likeness.Likeness.{Likeness}
use Rattle.safl_labels.specs.declared.twins.Choice.{Choice}
use Rattle.safl_labels.specs.declared.twins.Walk.{Walk}
use Rattle.safl_labels.specs.Likeness.{IsLike}
use Rattle.safl_labels.specs.Shown.{shown_labels}

-- the tree of an if
abbrev pub shown_if : Choice → Term
shown_if c = If (shown_term c.condition.now) (shown_term c.first.now) (shown_term c.second.now)

abbrev pub AreLike : Walk → Term → Term → Likeness → Type 0
AreLike walk t u m = IsLike (shown_labels walk.labels.now) walk.slots.now t u m

abbrev pub AreAllLike : Walk → Terms → Terms → List Bool → Type 0
AreAllLike walk ts us found = AllTwins (shown_labels walk.labels.now) walk.slots.now ts us found
