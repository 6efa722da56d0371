-- What it means to look at terms, in the tables of the code.
use Rattle.std.specs.Prelude.{ℕ, List, take, drop, Option, Some, None, Bool, cond}
use Rattle.safl_word.specs.Words.{Word}
use Rattle.safl_term.specs.Terms.{Term, Terms}
use Rattle.safl_evaluate.specs.declared.evaluate.Facts.{Facts}
use Rattle.safl_evaluate.specs.declared.evaluate.Spot.{Spot}
use Rattle.safl_evaluate.specs.declared.kept.Kept.{Kept}
use Rattle.safl_evaluate.specs.declared.wants.Wants.{Wants}
use Rattle.safl_evaluate.specs.Keeping.{MayLook, MayLookAll, Looks, Finds, FindsAll}

-- the term may be looked at
abbrev pub CanLook : Facts → Wants → List Word → List Kept → Spot → Term → Type 0
CanLook f A F W at t = MayLook f.stages.now f.places.now A.each.items F W at.slots at.at at.news t

abbrev pub CanLookAll : Facts → Wants → List Word → List Kept → Spot → Terms → Type 0
CanLookAll f A F W at ts = MayLookAll f.stages.now f.places.now A.each.items F W at.slots at.at at.news ts

-- the term has been looked at
abbrev pub HasLooked : Facts → Wants → Wants → List Word → List Kept → List Kept → Spot → Term → Kept → Type 0
HasLooked f A A' F W W' at t x = Looks f.stages.now A.each.items A'.each.items F W W' at.slots at.at t x

-- this was found of the term
abbrev pub HasFound : Facts → Wants → Wants → List Word → List Kept → List Kept → Spot → Term → Option Word → Type 0
HasFound f A A' F W W' at t o = Finds f.stages.now A.each.items A'.each.items F W W' at.slots at.at t o

abbrev pub HasFoundAll : Facts → Wants → Wants → List Word → List Kept → List Kept → Spot → Terms → Option (List Word) → Type 0
HasFoundAll f A A' F W W' at ts o = FindsAll f.stages.now A.each.items A'.each.items F W W' at.slots at.at ts o

-- this is found of terms without a look at their parts: nothing that is kept changes
abbrev pub IsFound : Facts → Wants → List Word → List Kept → Spot → Term → Option Word → Type 0
IsFound f A F W at t o = HasFound f A A F W W at t o

abbrev pub AreFound : Facts → Wants → List Word → List Kept → Spot → Terms → Option (List Word) → Type 0
AreFound f A F W at ts o = HasFoundAll f A A F W W at ts o

-- the word, if the test holds
abbrev pub word_if : Bool → Word → Option Word
word_if found v = cond found (Some v) None

abbrev pub words_if : Bool → List Word → Option (List Word)
words_if found vs = cond found (Some vs) None

-- `count` words from a place on; and these, if the test holds
abbrev pub words_at : List Word → ℕ → ℕ → List Word
words_at env at count = take count (drop at env)

abbrev pub words_if_at : Bool → List Word → ℕ → ℕ → Option (List Word)
words_if_at found env at count = words_if found (words_at env at count)
