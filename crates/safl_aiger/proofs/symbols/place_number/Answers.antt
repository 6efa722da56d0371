use Rattle.safl_aiger.proofs.Naming.{not_padded}
use Rattle.safl_aiger.proofs.Parsing.{number_found, number_none}
use Rattle.safl_aiger.proofs.symbols.place_number.Goals as goal

pub returns-then-is_padded-clause-none : goal.returns-then-is_padded-clause-none
returns-then-is_padded-clause-none c = λ _ n l. let p = c.is_padded.ensures.0 c.if-is_padded.true in not_padded c.args.field.now n l p.0 p.1

pub returns-clause-some : goal.returns-clause-some
returns-clause-some c = number_found c.number.result c.args.field.now c.number.ensures.some c.number.ensures.value (λ p. let t = c.is_padded.ensures.1 p in let f = c.if-is_padded.false in cc)

pub returns-clause-none : goal.returns-clause-none
returns-clause-none c = number_none c.number.result c.args.field.now c.number.ensures.some
