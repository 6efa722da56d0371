-- What is found for some secret parameters.
use Rattle.std.specs.Prelude.{◌≡◌, List, [], ◌∷◌, Bool, true, false}
use Rattle.safl_labels.specs.declared.labels.Finding.{Finding}
use Rattle.safl_labels.specs.declared.labels.Finding.TheVariants.{Blind, Depends}
use Rattle.safl_labels.specs.declared.labels.Labels.{Labels}

-- P of the labels, if there are some
abbrev pub IfBlind : Finding → (Labels → Type 0) → Type 0
IfBlind (Blind l) P = P l
IfBlind (Depends o) P = Unit {0}

-- each parameter has a label, and no secret one is public
abbrev pub AreHidden : List Bool → List Bool → Type 0
AreHidden [] [] = Unit {0}
AreHidden (secret ∷ ss) (public ∷ ps) = (secret ≡ true → public ≡ false) × AreHidden ss ps
AreHidden _ _ = ⊥
