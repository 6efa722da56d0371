-- The texts of faults.
use Rattle.std.specs.Prelude.{ℕ, zero, suc, List, [], ◌++◌, codes, decimal}
use Rattle.safl_word.specs.declared.fault.Rule.{Rule}
use Rattle.safl_word.specs.declared.fault.Rule.TheVariants as rules
use Rattle.safl_word.specs.declared.fault.Fault.{Fault}

-- the number of a rule, and its text. A fault may add numbers
abbrev pub rule_text : Rule → List ℕ
rule_text rules.E01 = codes "E01 foreign byte"
rule_text rules.E02 = codes "E02 unexpected token"
rule_text rules.E03 = codes "E03 name or number too long"
rule_text rules.E04 = codes "E04 nesting too deep"
rule_text rules.E05 = codes "E05 bad width or range"
rule_text rules.E06 = codes "E06 function defined twice"
rule_text rules.E07 = codes "E07 name twice in one list"
rule_text rules.E08 = codes "E08 unknown variable"
rule_text rules.E09 = codes "E09 function not defined above"
rule_text rules.E10 = codes "E10 own call outside tail position"
rule_text rules.E11 = codes "E11 wrong number of arguments"
rule_text rules.E12 = codes "E12 widths differ"
rule_text rules.E13 = codes "E13 literal too large"
rule_text rules.E14 = codes "E14 width not known"
rule_text rules.E15 = codes "E15 last definition is not main"
rule_text rules.E16 = codes "E16 limit"

-- the names of the limits: 1 functions, 2 parameters, 3 bindings, 4 sites, 5 nodes
abbrev pub limit_name : ℕ → List ℕ
limit_name (suc zero) = codes "functions"
limit_name (suc (suc zero)) = codes "parameters"
limit_name (suc (suc (suc zero))) = codes "bindings"
limit_name (suc (suc (suc (suc zero)))) = codes "sites"
limit_name (suc (suc (suc (suc (suc zero))))) = codes "nodes"
limit_name _ = []

-- the expected number and the one that was found
abbrev pub wanted_and_found : Fault → List ℕ
wanted_and_found f = codes ": " ++ decimal f.first ++ codes " and " ++ decimal f.second

-- what follows the text of the rule in the text of a fault: two numbers, or the name and the value of a limit
abbrev pub detail_text : Rule → Fault → List ℕ
detail_text rules.E11 f = wanted_and_found f
detail_text rules.E12 f = wanted_and_found f
detail_text rules.E16 f = codes ": " ++ limit_name f.first ++ codes " " ++ decimal f.second
detail_text _ f = []

-- the text of a fault without its place
abbrev pub fault_text : Fault → List ℕ
fault_text f = rule_text f.rule ++ detail_text f.rule f

-- the name of a limit, and its value
abbrev pub limit_text : Fault → List ℕ
limit_text f = codes ": " ++ limit_name f.first ++ codes " " ++ decimal f.second
