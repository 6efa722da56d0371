-- The labels of the code, as labels.
use Rattle.std.specs.Prelude.{List, [], ◌∷◌, Option, Some, None, Bool, true, Vec, slice_get}
use Rattle.std.specs.declared.alloc.Global.{Global}
use Rattle.safl_calls.specs.Labels as calls
use Rattle.safl_labels.specs.declared.labels.Labels.{Labels}

abbrev pub labels_in : Option (Vec Bool Global) → List Bool
labels_in None = []
labels_in (Some labels) = labels.items

-- the label of the first function's result, which those that do not exist have too
abbrev pub first_label : List Bool → Bool
first_label [] = true
first_label (b ∷ bs) = b

abbrev pub label_in : List Bool → Option Bool → Bool
label_in bs None = first_label bs
label_in bs (Some b) = b

abbrev pub shown_labels : Labels → calls.Labels
shown_labels l = record { params = λ f. labels_in (slice_get l.params.items f); result = λ f. label_in l.results.items (slice_get l.results.items f) }
