-- The texts of the rules on AIGER files.
use Rattle.std.specs.Prelude.{ℕ, List, codes}
use Rattle.safl_aiger.specs.declared.reading.AigRule.{AigRule}
use Rattle.safl_aiger.specs.declared.reading.AigRule.TheVariants as rules

abbrev pub aig_rule_text : AigRule → List ℕ
aig_rule_text rules.B01 = codes "B01 bad header"
aig_rule_text rules.B02 = codes "B02 bad line"
aig_rule_text rules.B03 = codes "B03 bad literal"
aig_rule_text rules.B04 = codes "B04 bad symbol"
