-- Values that are apart.
use Rattle.safl_term.proofs.Common.{Word, ◌≢◌}
use Rattle.std.proofs.Common.{List, arith, ℕ, ◌≡◌}
use Rattle.safl_term.specs.Readiness.{LoopTo, NotYet, Ready, Returned, Sent, Stage, Unsent}

pub ready_not_yet : (v : Word) → Ready v ≡ NotYet → ⊥
ready_not_yet v e = grind arith

pub not_loop : {A : Type 0} (h : ℕ) (vs : List Word) → NotYet ≡ LoopTo h vs → A
not_loop h vs e = absurd (grind arith)

pub sent_unsent : Sent ≡ Unsent → ⊥
sent_unsent e = grind arith

pub returned_sent : (v : Word) → Returned v ≡ Sent → ⊥
returned_sent v e = grind arith

pub returned_unsent : (v : Word) → Returned v ≡ Unsent → ⊥
returned_unsent v e = grind arith

pub loop_not_yet : (h : ℕ) (vs : List Word) → LoopTo h vs ≡ NotYet → ⊥
loop_not_yet h vs e = grind arith

pub sent_returned : (v : Word) → Sent ≡ Returned v → ⊥
sent_returned v e = grind arith

pub unsent_returned : (v : Word) → Unsent ≡ Returned v → ⊥
unsent_returned v e = grind arith

pub unsent_not_sent : (o : Stage) → o ≡ Unsent → o ≢ Sent
unsent_not_sent o e q = cc

pub returned_not_sent : (o : Stage) (x : Word) → o ≡ Returned x → o ≢ Sent
returned_not_sent o x e q = cc
