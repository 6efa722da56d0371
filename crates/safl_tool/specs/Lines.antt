-- The lines that say why a command refuses what it reads, or that a probe failed. Each ends with its line feed.
use Rattle.std.specs.Prelude.{ℕ, ◌+◌, List, ◌++◌, take, not, ◌==◌, count_by, codes}
use Rattle.std.specs.List.{suffix_len}
use Rattle.std.specs.Fmt.{decimal}
use Rattle.safl_word.specs.declared.fault.Fault.{Fault}
use Rattle.safl_word.specs.Faults.{fault_text}

abbrev pub usage_line : List ℕ
usage_line = codes "usage: safl check IN | build IN OUT | sim IN --cycles L [ARG..] | run FILE --cycles L [ARG..] | walk IN --order SEED --steps N [ARG..] | report IN | gen SEED COUNT | bench SEED COUNT --cycles L\n"

-- main has this many parameters, and there are this many arguments
abbrev pub count_line : ℕ → ℕ → List ℕ
count_line params given = codes "main takes " ++ decimal params ++ codes " arguments, " ++ decimal given ++ codes " given\n"

-- the argument of this number, counted from 1, is no number of this many bits
abbrev pub argument_line : ℕ → ℕ → List ℕ
argument_line index width = codes "argument " ++ decimal index ++ codes " is no number of " ++ decimal width ++ codes " bits\n"

-- the line of a place: one more than the number of line feeds before it
abbrev pub line_at : List ℕ → ℕ → ℕ
line_at source place = count_by (λ c. c == 10) (take place source) + 1

-- the column of a place: one more than the number of bytes between the last line feed before it, or the beginning, and the place
abbrev pub column_at : List ℕ → ℕ → ℕ
column_at source place = suffix_len (λ c. not (c == 10)) (take place source) + 1

abbrev pub placed_line : List ℕ → ℕ → ℕ → List ℕ → List ℕ
placed_line name line column text =
    name ++ codes ":" ++ decimal line ++ codes ":" ++ decimal column ++ codes ": " ++ text ++ codes "\n"

-- ---- lines that stand in a definition, by name

-- a text about a line of a script, after the number of the line, counted from 1
abbrev pub numbered_line : ℕ → List ℕ → List ℕ
numbered_line number text = codes "line " ++ decimal number ++ codes ": " ++ text

-- a probe of this kind failed
abbrev pub probe_line : ℕ → List ℕ
probe_line kind = codes "probe " ++ decimal kind ++ codes " failed\n"

-- the site cannot be reshaped, for this reason
abbrev pub site_line : ℕ → List ℕ → List ℕ
site_line site text = codes "site " ++ decimal site ++ codes ": " ++ text ++ codes "\n"

-- a fault of a source, at its line and column
abbrev pub source_line : List ℕ → List ℕ → Fault → List ℕ
source_line name source f = placed_line name (line_at source f.place) (column_at source f.place) (fault_text f)
