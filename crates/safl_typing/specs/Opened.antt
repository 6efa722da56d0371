-- The plain expression by what stands at its top, and when its marks are right.
use Rattle.safl_typing.specs.declared.opened.Opened.{Opened}
use Rattle.safl_typing.specs.declared.opened.Opened.TheVariants as opened
use Rattle.safl_typing.specs.Rewriting.{Expression, Number, Sized, Variable, If, Let, Op, Call}
use Rattle.safl_typing.specs.Heads.{Known}
use Rattle.safl_typing.specs.Plain.{shown_expression, shown_expressions, shown_bindings}
use Rattle.safl_typing.specs.Marks.{IsMarkOf, IsMarked, AreMarked, BoundMarked}

abbrev pub shown_opened : Opened → Expression
shown_opened (opened.Number p n) = Number p n
shown_opened (opened.Sized p w n) = Sized p w n
shown_opened (opened.Variable p x) = Variable p x.now
shown_opened (opened.If p m c a b) = If p (shown_expression c.now) (shown_expression a.now) (shown_expression b.now)
shown_opened (opened.Let p m bs b) = Let p (shown_bindings bs.now) (shown_expression b.now)
shown_opened (opened.Op p m o es) = Op p o (shown_expressions es.now)
shown_opened (opened.Call p m f es) = Call p f.now (shown_expressions es.now)

-- the marks at the top are right, and those of the parts
abbrev pub IsOpenedMarked : Known → Opened → Type 0
IsOpenedMarked k (opened.Number p n) = Unit {0}
IsOpenedMarked k (opened.Sized p w n) = Unit {0}
IsOpenedMarked k (opened.Variable p x) = Unit {0}
IsOpenedMarked k (opened.If p m c a b) =
    IsMarkOf k (If p (shown_expression c.now) (shown_expression a.now) (shown_expression b.now)) m × (IsMarked k c.now × IsMarked k a.now × IsMarked k b.now)
IsOpenedMarked k (opened.Let p m bs b) = IsMarkOf k (Let p (shown_bindings bs.now) (shown_expression b.now)) m × (BoundMarked k bs.now × IsMarked k b.now)
IsOpenedMarked k (opened.Op p m o es) = IsMarkOf k (Op p o (shown_expressions es.now)) m × AreMarked k es.now
IsOpenedMarked k (opened.Call p m f es) = IsMarkOf k (Call p f.now (shown_expressions es.now)) m × AreMarked k es.now
