use Rattle.safl_lower.proofs.Common.{Load, Some, map, ◌≡◌}
use Rattle.std.proofs.lemmas.Result.{IfOk-weaker}
use Rattle.safl_lower.specs.Loads.{Spreads}
use Rattle.safl_lower.proofs.Laid.{all_placed, each_there}
use Rattle.safl_lower.proofs.calls_by_site.spread.Goals as goal

pub all_loads-requires : goal.all_loads-requires
all_loads-requires c = each_there c.args.first c.args.count c.args.calls.items c.in_ok-table.table.items c.in_ok-table.ensures c.requires.called

pub returns : goal.returns
returns c =
    IfOk-weaker c.all_loads.result (λ xs. map (λ (l : Load). Some l) xs.items ≡ c.in_ok-table.table.items) (λ xs. Spreads c.args.first c.args.count c.args.calls.items xs.items)
    (λ xs e. all_placed c.args.first c.args.count c.args.calls.items c.in_ok-table.table.items xs.items e c.in_ok-table.ensures) c.all_loads.ensures
