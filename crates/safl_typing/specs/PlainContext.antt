-- What a body sees, by the context of its check.
use Rattle.safl_typing.specs.declared.context.Context.{Context}
use Rattle.safl_typing.specs.Heads.{Known}
use Rattle.safl_typing.specs.PlainHeads.{known}

abbrev pub seen : Context → Known
seen c = known c.heads.now c.unit
