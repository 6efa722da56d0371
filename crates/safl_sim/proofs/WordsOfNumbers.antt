-- Words that numbers stand for.
use Rattle.std.proofs.Common.{None, Option, Some, refl, ℕ, ◌≡◌}
use Rattle.safl_net.specs.Valuations.{Valuation, number_at}
use Rattle.safl_net.specs.Netlist.{Netlist}
use Rattle.safl_sim.specs.Outcomes.{word_at}
use Rattle.safl_sim.proofs.Giving.{bits}

pub word_bits : (n : Netlist) (v : Valuation) (o : Option ℕ) → (word_at n v o).bits ≡ number_at v o
word_bits n v None = refl
word_bits n v (Some s) = refl
