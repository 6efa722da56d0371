-- What is printed about a program's plan and a netlist's registers.
use Rattle.std.specs.Prelude.{◌≡◌, ℕ, ◌++◌, ◌==◌, List, length, map, filter, count_by, sum_by, Bool, true, false, codes, decimal}
use Rattle.std.specs.List.{concat, range_with_len}
use Rattle.safl_term.specs.Names.{Names}
use Rattle.safl_term.specs.Program.{Program}
use Rattle.safl_sites.specs.Plan.{IsPlan}
use Rattle.safl_net.specs.Netlist.{Netlist, Signal, is_register}
pub use Rattle.safl_word.specs.Lists.{Text}

abbrev pub answer_word : Bool → Text
answer_word true = codes "yes"
answer_word false = codes "no"

-- how many of the program's sites call a function
abbrev pub calls_of : Program → ℕ → ℕ
calls_of C f = count_by (λ g. g == f) (map C.callee (range_with_len 1 C.sites))

abbrev pub registers : List Signal → List Signal
registers signals = filter (λ g. is_register g.kind) signals

-- the line with the number of registers, and of their bits
abbrev pub register_line : Netlist → Text
register_line n =
    codes "registers " ++ decimal (length (registers n.signals)) ++ codes " bits " ++ decimal (sum_by (λ (g : Signal). g.width) (registers n.signals))
    ++ codes "\n"

-- The line of each function, numbered from 0, has its name, how many sites call it, and whether its unit has an arbiter. The line of
-- each site, numbered from 1, has its number, the names of its callee and its caller, and whether it keeps its word.
abbrev pub function_lines : Program → Names → (ℕ → Bool) → Text
function_lines C D arbiter =
    concat (map (λ (f : ℕ). codes "function " ++ D.name f ++ codes " sites " ++ decimal (calls_of C f)
    ++ codes " arbiter " ++ answer_word (arbiter (C.unit f)) ++ codes "\n") (range_with_len 0 C.functions))

abbrev pub site_report : Program → Names → (ℕ → Bool) → Text
site_report C D kept =
    concat (map (λ (k : ℕ). codes "site " ++ decimal k ++ codes " " ++ D.name (C.callee k) ++ codes " in " ++ D.name (C.caller k)
    ++ codes " kept " ++ answer_word (kept k) ++ codes "\n") (range_with_len 1 C.sites))

-- The text is the report of a netlist and of the program's plan, which says which units need an arbiter and which sites keep words.
pub record IsReport (C : Program) (D : Names) (n : Netlist) (text : Text) : Type 0 where
  pub arbiter : ℕ → Bool
  pub kept : ℕ → Bool
  pub plan : IsPlan C arbiter kept
  pub lines : text ≡ function_lines C D arbiter ++ site_report C D kept ++ register_line n

-- the text is the summary of a netlist and of the program's only plan: how many functions have a unit with an arbiter, and the registers
pub record IsSummary (C : Program) (n : Netlist) (text : Text) : Type 0 where
  pub arbiter : ℕ → Bool
  pub kept : ℕ → Bool
  pub plan : IsPlan C arbiter kept
  pub lines : text ≡ codes "arbiters " ++ decimal (count_by arbiter (map C.unit (range_with_len 0 C.functions))) ++ codes "\n" ++ register_line n

-- ---- parts of lines, by name

abbrev pub function_text : Text → ℕ → Bool → Text
function_text name calls arbiter =
    codes "function " ++ name ++ codes " sites " ++ decimal calls ++ codes " arbiter " ++ answer_word arbiter ++ codes "\n"

abbrev pub site_text : ℕ → Text → Text → Bool → Text
site_text k callee caller kept =
    codes "site " ++ decimal k ++ codes " " ++ callee ++ codes " in " ++ caller ++ codes " kept " ++ answer_word kept ++ codes "\n"

abbrev pub bits_of : List Signal → ℕ
bits_of signals = sum_by (λ g. g.width) signals

abbrev pub register_text : ℕ → ℕ → Text
register_text count bits = codes "registers " ++ decimal count ++ codes " bits " ++ decimal bits ++ codes "\n"

abbrev pub arbiters_of : Program → (ℕ → Bool) → ℕ
arbiters_of C arbiter = count_by arbiter (map C.unit (range_with_len 0 C.functions))
