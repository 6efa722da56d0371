-- The errors of the lexer as errors of the parser.
use Rattle.safl_text.specs.declared.error.LexErr.{LexErr}
use Rattle.safl_text.specs.declared.error.LexErr.TheVariants as lexing
use Rattle.safl_parse.specs.declared.syntax.ParseErr.{ParseErr}
use Rattle.safl_parse.specs.declared.syntax.ParseErr.TheVariants as parsing

abbrev pub error_of : LexErr → ParseErr
error_of (lexing.Refused f) = parsing.Refused f
error_of lexing.NoMemory = parsing.NoMemory
