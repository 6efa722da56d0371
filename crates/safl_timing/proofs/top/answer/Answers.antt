use Rattle.std.proofs.Common.{ℕ, List, IfOk, sym, subst}
use Rattle.safl_timing.specs.Requests.{shown_asked}
use Rattle.safl_timing.specs.Secrets.{GivesBlind}
use Rattle.safl_timing.specs.Tasks.{Gives, shown}
use Rattle.safl_timing.specs.declared.request.Asked.{Asked}
use Rattle.safl_timing.proofs.top.answer.Goals as goal

pub returns-in-Ok-clause-gives : goal.returns-in-Ok-clause-gives
returns-in-Ok-clause-gives c = subst (λ (a : Asked). Gives (shown_asked a) c.args.source.now (shown c.in-Ok.lines)) (sym c.in-Time.is) c.in-Ok.ensures.gives

pub returns-in-Blind-clause-gives : goal.returns-in-Blind-clause-gives
returns-in-Blind-clause-gives c =
    subst (λ (a : Asked). IfOk c.blind_source.result (λ l. Gives (shown_asked a) c.args.source.now (shown l))) (sym c.in-Blind.is)
    (subst (λ (b : List ℕ). IfOk c.blind_source.result (λ l. GivesBlind c.in-Blind.listed b c.args.source.now (shown l))) c.as_bytes.ensures.value c.blind_source.ensures.gives)
