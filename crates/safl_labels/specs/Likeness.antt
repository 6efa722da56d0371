-- How far two terms are alike.
use Rattle.std.specs.Prelude.{ℕ, List, [], ◌∷◌, Bool, true, false, ◌&&◌, ◌||◌, not, if◌then◌else◌}
use Rattle.safl_term.specs.Terms.{Term}
use Rattle.safl_calls.specs.Labels.{Labels, Twins}
use Rattle.safl_labels.specs.declared.likeness.Likeness.{Likeness}
use Rattle.safl_labels.specs.declared.likeness.Likeness.TheVariants.{Apart, SameTime, SameWord}

-- what each likeness says
abbrev pub IsLike : Labels → List Bool → Term → Term → Likeness → Type 0
IsLike L ls t u Apart = Unit {0}
IsLike L ls t u SameTime = Twins L ls t u false
IsLike L ls t u SameWord = Twins L ls t u true

abbrev pub least_of : Likeness → Likeness → Likeness
least_of Apart m = Apart
least_of SameTime Apart = Apart
least_of SameTime SameTime = SameTime
least_of SameTime SameWord = SameTime
least_of SameWord m = m

abbrev pub or_time_of : Likeness → Bool → Likeness
or_time_of Apart true = SameTime
or_time_of Apart false = Apart
or_time_of SameTime plain = SameTime
or_time_of SameWord plain = SameWord

abbrev pub is_word_of : Likeness → Bool
is_word_of Apart = false
is_word_of SameTime = false
is_word_of SameWord = true

abbrev pub is_apart_of : Likeness → Bool
is_apart_of Apart = true
is_apart_of SameTime = false
is_apart_of SameWord = false

-- whether the likeness is enough for a result with this label
abbrev pub suffices_for : Likeness → Bool → Bool
suffices_for Apart public = false
suffices_for SameTime public = not public
suffices_for SameWord public = true

abbrev pub same_if : Bool → Likeness
same_if true = SameWord
same_if false = SameTime

-- whether there is a label for each parameter, and what is passed to a public one is public
abbrev pub do_fit : List Bool → List Bool → Bool
do_fit [] [] = true
do_fit [] (p ∷ ps) = false
do_fit (b ∷ bs) [] = false
do_fit (b ∷ bs) (p ∷ ps) = (b || not p) && do_fit bs ps

-- what two calls of a function have in common, if their arguments have this in common
abbrev pub passed_of : Labels → ℕ → List Bool → Likeness
passed_of L f found = if do_fit found (L.params f) then same_if (L.result f) else Apart
