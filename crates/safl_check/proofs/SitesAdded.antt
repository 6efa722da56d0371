-- Sites that are added to others.
use Rattle.std.proofs.Common.{◌≡◌, ◌+◌, List, ◌++◌, append_assoc, sym, ap, ◌∙◌}
use Rattle.safl_term.specs.declared.checked.Site.{Site}

-- the first sites are added, and then the second ones
pub added : (old mid new first second all : List Site) → mid ≡ old ++ first → new ≡ mid ++ second → all ≡ first ++ second → new ≡ old ++ all
added old mid new first second all p q e =
    q ∙ ap (λ (l : List Site). l ++ second) p ∙ append_assoc old first second ∙ ap (λ (l : List Site). old ++ l) (sym e)
