-- What is printed. Each line ends with its line feed.
use Rattle.std.specs.Prelude.{ℕ, List, ◌++◌, Bool, true, false, codes}
use Rattle.std.specs.Fmt.{decimal}

abbrev pub usage_line : List ℕ
usage_line = codes "usage: safl-time IN [ARG..] | safl-time IN --secret NAME,NAME | safl-time IN --public NAME,NAME\n"

abbrev pub yes_or_no : Bool → List ℕ
yes_or_no true = codes "yes"
yes_or_no false = codes "no"

-- a name and a number
abbrev pub figure : List ℕ → ℕ → List ℕ
figure name number = name ++ decimal number ++ codes "\n"

-- the result, the calls, the tail calls among them, the span, the last cycle in which done may come, and whether it comes exactly at the span
abbrev pub timing_lines : ℕ → ℕ → ℕ → ℕ → ℕ → Bool → List ℕ
timing_lines result calls loops span latest exact =
    figure (codes "result ") result ++ figure (codes "calls ") calls ++ figure (codes "tail calls ") loops ++ figure (codes "span ") span
    ++ figure (codes "latest ") latest ++ codes "exact " ++ yes_or_no exact ++ codes "\n"

-- the calls of the budget do not suffice
abbrev pub late_line : ℕ → List ℕ
late_line budget = codes "no result in " ++ decimal budget ++ codes " calls\n"

-- no secret parameter decides about time
abbrev pub blind_line : List ℕ
blind_line = codes "constant time\n"

abbrev pub nameless_line : List ℕ → List ℕ
nameless_line name = codes "main has no parameter " ++ name ++ codes "\n"
