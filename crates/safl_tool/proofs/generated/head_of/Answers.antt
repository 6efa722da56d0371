use Rattle.std.proofs.Common.{rules}
use Rattle.safl_tool.proofs.generated.head_of.Goals as goal

pub returns : goal.returns
returns c = record {
  summary = c.in_ok-rest.rest.items;
  is_summary = c.in_ok-rest.ensures;
  is = search rules;
}
