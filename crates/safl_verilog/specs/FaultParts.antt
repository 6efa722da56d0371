-- The faults of one declaration, or of one name of the header, by name.
use Rattle.std.specs.Prelude.{List, map, not, ◌||◌}
use Rattle.safl_verilog.specs.declared.fault.VRule.TheVariants as rules
use Rattle.safl_verilog.specs.declared.fault.VFault.{VFault}
use Rattle.safl_verilog.specs.Files.{Spot, Declaration, File}
use Rattle.safl_verilog.specs.Faults.{at, where_not, range_faults, passes, find, is_port, among}

-- the faults of the numbers of a declaration
abbrev pub declared_number_faults : Declaration → List VFault
declared_number_faults d = range_faults d.range

abbrev pub declared_names : List Declaration → List Spot
declared_names ds = map (λ (d : Declaration). d.name) ds

-- a name of the header that is no port; and a port that is not in the header
abbrev pub header_faults : File → Spot → List VFault
header_faults f x = where_not (passes (λ d. is_port d.sort) (find f.declarations x.bytes)) (at rules.V10 x.place)

abbrev pub port_faults : File → Declaration → List VFault
port_faults f d = where_not (not (is_port d.sort) || among f.header d.name.bytes) (at rules.V10 d.name.place)
