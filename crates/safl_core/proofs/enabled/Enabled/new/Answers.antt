use Rattle.std.proofs.Common.{◌≡◌, ℕ, suc, ◌+◌, true, List, replicate, ap, ◌∙◌, arith}
use Rattle.safl_number_set.specs.Groups.{Grouped, put_in, none_of}
use Rattle.safl_core.proofs.enabled.Enabled.new.Goals as goal

abbrev zeros_of : ℕ → List ℕ
zeros_of n = replicate n 0

pub returns : goal.returns
returns c =
    let C = c.args.c.now.program in
    let sites : c.sites.result + 1 ≡ suc C.sites = omega (arith, c.sites.ensures.count) in
    record {
      units = c.in_ok-units.units.items;
      called = c.in_ok-units.ensures;
      accepts = c.put.ensures ∙ ap (λ (a : Grouped). put_in a 0 true) (c.in_ok-accepts.ensures
          ∙ ap (λ n. none_of c.in_ok-units.units.items n) c.functions-functions.ensures.count);
      finishes = c.in_ok-finishes.ensures ∙ ap zeros_of c.functions-functions.ensures.count;
      returns = c.in_ok-returns.ensures ∙ ap zeros_of sites;
      loops = c.in_ok-loops.ensures ∙ ap zeros_of c.functions-functions.ensures.count;
      busy = c.in_ok-busy.ensures ∙ ap zeros_of c.functions-functions.ensures.count;
    }
