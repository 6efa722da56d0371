-- Answers of calls and of lets that go nowhere, and words that are there.
use Rattle.safl_lower.proofs.Common.{Word, goes_of, one_word}
use Rattle.std.proofs.Common.{List, None, Option, Some, is_some, refl, ◌≡◌}
use Rattle.safl_term.specs.Readiness.{Answer, NotYet, ready_from, with_all}

pub goes_call : (o : Option Word) → goes_of (ready_from o) ≡ None
goes_call None = refl
goes_call (Some w) = refl

pub goes_with : (o : Option (List Word)) (go : List Word → Answer) → ((vs : List Word) → goes_of (go vs) ≡ None) → goes_of (with_all o NotYet go) ≡ None
goes_with None go e = refl
goes_with (Some vs) go e = e vs

pub one_some : (o : Option Word) → is_some (one_word o) ≡ is_some o
one_some None = refl
one_some (Some w) = refl
