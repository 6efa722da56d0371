-- From the answer on tokens to the answer on a text.
use Rattle.safl_vparse.proofs.Common.{RefusesBytes, VFault, shown_file}
use Rattle.std.proofs.Common.{ℕ, List, Ok, Err}
use Rattle.std.specs.Prelude.{Result, IfOk, IfErr}
use Rattle.safl_verilog.specs.Tokens.{VerilogTerminal, HasVerilogTokens}
use Rattle.safl_verilog.specs.Reads.{HasFault, lexical, unexpected}
use Rattle.safl_vparse.specs.declared.error.VErr.{VErr}
use Rattle.safl_vparse.specs.declared.error.VErr.TheVariants as errors
use Rattle.safl_vparse.specs.declared.file.File.{File}
use Rattle.safl_vparse.specs.Parsed.{IsFileText, RefusesText, IsUnparsed, misspelled, ungrammatical, RefusesUnparsed, TokensAnswer}

pub parsed : (text : List ℕ) (ts : List VerilogTerminal) (r : Result File VErr) → HasVerilogTokens text ts → TokensAnswer text ts r → IfOk r (λ f. IsFileText text (shown_file text f))
parsed text ts (Ok f) cut h = record { tokens = ts; cut = cut; derived = h }
parsed text ts (Err e) cut h = tt

pub unparsed : (text : List ℕ) (ts : List VerilogTerminal) (r : Result File VErr) → HasVerilogTokens text ts → TokensAnswer text ts r → IfErr r (λ e. RefusesUnparsed text e)
unparsed text ts (Ok f) cut h = tt
unparsed text ts (Err (errors.Refused f)) cut h = ungrammatical ts h.1 h.0 cut h.2 h.3
unparsed text ts (Err errors.NoMemory) cut h = tt

pub lexical_unparsed : (text : List ℕ) (e : VErr) → RefusesBytes text e → RefusesUnparsed text e
lexical_unparsed text (errors.Refused f) h = misspelled h.0 h.1
lexical_unparsed text errors.NoMemory h = tt

is_fault : (text : List ℕ) (f : VFault) → IsUnparsed text f → HasFault text f
is_fault text f (misspelled h e) = lexical f.place h e
is_fault text f (ungrammatical ts rest r cut h e) = unexpected ts rest r cut h e

pub refused_unparsed : (text : List ℕ) (e : VErr) → RefusesUnparsed text e → RefusesText text e
refused_unparsed text (errors.Refused f) h = is_fault text f h
refused_unparsed text errors.NoMemory h = tt

pub if_refused : (text : List ℕ) (r : Result File VErr) → IfErr r (λ e. RefusesUnparsed text e) → IfErr r (λ e. RefusesText text e)
if_refused text (Ok f) h = tt
if_refused text (Err e) h = refused_unparsed text e h
