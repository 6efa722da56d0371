-- What evaluating a term finds.
use Rattle.std.specs.Prelude.{Bool, true, false}
use Rattle.safl_word.specs.Words.{Word}
use Rattle.safl_evaluate.specs.declared.kept.Found.{Found}
use Rattle.safl_evaluate.specs.declared.kept.Found.TheVariants.{Ready, Open, Shut}
use Rattle.safl_evaluate.specs.declared.kept.Kept as kept
use Rattle.safl_evaluate.specs.declared.kept.Kept.{Kept}

-- what is kept of a term, with its word
abbrev pub cell_of : Found → Word → Kept
cell_of Ready v = kept.TheVariants.Ready v
cell_of Open v = kept.TheVariants.Open
cell_of Shut v = kept.TheVariants.Shut

abbrev pub is_ready : Found → Bool
is_ready Ready = true
is_ready Open = false
is_ready Shut = false

-- what is found of an if or a let that is open; and of any other term
abbrev pub if_open : Bool → Found
if_open true = Ready
if_open false = Open

abbrev pub if_ready : Bool → Found
if_ready true = Ready
if_ready false = Shut

abbrev pub nothing : Kept
nothing = kept.TheVariants.Shut
