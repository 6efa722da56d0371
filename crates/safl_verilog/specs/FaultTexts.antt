-- The texts of the faults of Verilog files.
use Rattle.std.specs.Prelude.{ℕ, List, [], ◌++◌, codes}
use Rattle.std.specs.Fmt.{decimal}
use Rattle.safl_verilog.specs.declared.fault.VRule.{VRule}
use Rattle.safl_verilog.specs.declared.fault.VRule.TheVariants as rules
use Rattle.safl_verilog.specs.declared.fault.VFault.{VFault}

-- the number of a rule, and its text
abbrev pub vrule_text : VRule → List ℕ
vrule_text rules.V01 = codes "V01 foreign byte"
vrule_text rules.V02 = codes "V02 unexpected token"
vrule_text rules.V03 = codes "V03 name twice"
vrule_text rules.V04 = codes "V04 unknown name"
vrule_text rules.V05 = codes "V05 widths differ"
vrule_text rules.V06 = codes "V06 bad literal"
vrule_text rules.V07 = codes "V07 wire without exactly one assign"
vrule_text rules.V08 = codes "V08 register without exactly one update"
vrule_text rules.V10 = codes "V10 port missing"

-- what follows the text of the rule in the text of a fault: the width that is needed, and the one that was found
abbrev pub vdetail_text : VRule → VFault → List ℕ
vdetail_text rules.V05 f = codes ": " ++ decimal f.first ++ codes " and " ++ decimal f.second
vdetail_text _ f = []

-- the text of a fault without its place
abbrev pub vfault_text : VFault → List ℕ
vfault_text f = vrule_text f.rule ++ vdetail_text f.rule f

-- ---- parts by name

abbrev pub both_widths : VFault → List ℕ
both_widths f = codes ": " ++ decimal f.first ++ codes " and " ++ decimal f.second
