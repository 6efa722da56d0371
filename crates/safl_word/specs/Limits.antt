-- The limits of sources, and of what is made of them. `src/limits` has the same numbers under the same names, in capitals.
use Rattle.std.specs.Prelude.{ℕ, ◌+◌, ◌^◌}

-- the greatest width of a word, in bits; every word is below the bound
abbrev pub width_max : ℕ
width_max = 128

abbrev pub value_bound : ℕ
value_bound = 2 ^ width_max

-- the most bytes of a source, and of a name in it
abbrev pub source_max : ℕ
source_max = 1048576

abbrev pub name_max : ℕ
name_max = 64

-- the most digits of a number in a source, of a decimal number below 2 to the 64th, and of an argument
abbrev pub digits_max : ℕ
digits_max = 128

abbrev pub decimal_max : ℕ
decimal_max = 20

abbrev pub argument_max : ℕ
argument_max = 39

-- the most functions of a source, parameters of a function, and bindings of a let
abbrev pub functions_max : ℕ
functions_max = 1000

abbrev pub params_max : ℕ
params_max = 16

abbrev pub bindings_max : ℕ
bindings_max = 16

-- the most call sites and nodes of all bodies together, and up to which number each of them is counted
abbrev pub sites_max : ℕ
sites_max = 4000

abbrev pub nodes_max : ℕ
nodes_max = 50000

abbrev pub sites_counted : ℕ
sites_counted = sites_max + 1

abbrev pub nodes_counted : ℕ
nodes_counted = nodes_max + 1

-- how deep a checked body is at most
abbrev pub depth_max : ℕ
depth_max = 2000

-- the most functions of a generated source, besides main
abbrev pub generated_max : ℕ
generated_max = 900

-- the most bytes of a name in a netlist
abbrev pub net_name_max : ℕ
net_name_max = 200

-- the greatest count of 32 bits, as of signals and of outputs
abbrev pub count_max : ℕ
count_max = 4294967295

-- the most variables of a bit-level circuit, with variable 0: 2 to the 30th
abbrev pub variables_max : ℕ
variables_max = 1073741824
