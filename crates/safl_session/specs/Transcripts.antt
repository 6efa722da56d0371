-- The transcript of a session.
use Rattle.std.specs.Prelude.{ℕ, List, ◌++◌, length, Bool, if◌then◌else◌, ◌==◌, codes}
use Rattle.std.specs.List.{flat_map}
use Rattle.std.specs.Fmt.{decimal}
use Rattle.safl_sim.specs.declared.done.Done.{Done as Reply}
use Rattle.safl_session.specs.declared.transcript_line.Line.{Line}
use Rattle.safl_session.specs.declared.transcript_line.Line.TheVariants as line

-- the line of a reply: its word, and the cycle in which it came
abbrev pub reply_line : Reply → List ℕ
reply_line r = decimal r.result.bits ++ codes " " ++ decimal r.cycle ++ codes "\n"

-- the line with the number of calls that were made
abbrev pub calls_line : ℕ → List ℕ
calls_line count = codes "calls " ++ decimal count ++ codes "\n"

-- the line that no result came within this many cycles
abbrev pub late_line : ℕ → List ℕ
late_line limit = codes "no result in " ++ decimal limit ++ codes " cycles\n"

abbrev pub line_text : Line → List ℕ
line_text (line.Replied reply) = reply_line reply
line_text (line.Counted count) = calls_line count
line_text (line.Late limit) = late_line limit

-- The transcript: a line for each reply, and then the number of calls or, if a call has no reply, the line that says so.
abbrev pub transcript : ℕ → ℕ → List Reply → List ℕ
transcript limit count rs = flat_map reply_line rs ++ (if length rs == count then calls_line count else late_line limit)

-- ---- parts by name

abbrev pub reply_lines : List Reply → List ℕ
reply_lines rs = flat_map reply_line rs

abbrev pub are_all : ℕ → List Reply → Bool
are_all count rs = length rs == count
