-- What is made of a tidy net is tidy.
use Rattle.std.proofs.Common.{◌≡◌, [], false, Result, Ok, Err, OnOk, OnErr, sym, subst}
use Rattle.safl_net.specs.Netlist.{Netlist, Signal}
use Rattle.safl_net.specs.Making.{with_signal}
use Rattle.safl_net.specs.Names.{is_temp, IsTidy}
use Rattle.safl_net.proofs.Tidy.{tidy_named}

-- no signals and no outputs
pub tidy_none : IsTidy (record { signals = []; outputs = [] })
tidy_none = record {
  signals = λ s g at temp. absurd (cc);
  outputs = λ i o at. absurd (cc);
}

-- a signal of another name than a temporary's, or none
pub tidy_placed : {A E : Type 0} (r : Result A E) (n m : Netlist) (g : Signal) → OnOk r (m ≡ with_signal n g) → OnErr r (m ≡ n) → IsTidy n → is_temp g.name ≡ false → IsTidy m
tidy_placed (Ok x) n m g a b t e = subst IsTidy (sym a) (tidy_named n g t e)
tidy_placed (Err x) n m g a b t e = subst IsTidy (sym b) t
