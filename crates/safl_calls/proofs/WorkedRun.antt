-- A whole run of the machine by computation.
use Rattle.safl_calls.proofs.Common.{Call, Cons, Const, If, Loop, Op, Program, Var}
use Rattle.std.proofs.Common.{◌≡◌, List, [], ◌∷◌, refl}
use Rattle.safl_word.specs.declared.primitive.Primitive.TheVariants.{Eq}
use Rattle.safl_term.specs.Fuel.{Gave, apply}
use Rattle.safl_term.specs.Readiness.{Returned, answer, wanted}
use Rattle.safl_sites.proofs.SmallPrograms.{byte, just, next, main_over}
use Rattle.safl_calls.specs.Machine.{Event, Accept, Finish, Return, LoopInto, opening, Legal, after_event}

-- fun f(x:8):8 = x + 1 fun main(a:8):8 = if f(a) == 3 then a else main(a + 1)
abbrev climbing : Program
climbing = main_over (If (Op Eq (Cons (Call 0 1 (just (Var 0))) (just (Const (byte 3))))) (Var 0) (Loop 1 (just next))) 1

climbing_gives : apply climbing 4 4 1 (byte 1 ∷ []) ≡ Gave (byte 2) 0
climbing_gives = refl

-- four calls with one tail call are ten events
abbrev events : List Event
events = Accept 0 ∷ Accept 1 ∷ Finish 0 ∷ Return 1 ∷ LoopInto 1 ∷ Accept 1 ∷ Finish 0 ∷ Return 1 ∷ Finish 1 ∷ Return 0 ∷ []

returned : (after_event climbing (byte 1 ∷ []) opening events).site 0 ≡ Returned (byte 2)
unfolding after_event answer wanted
returned = refl

legal : Legal climbing (byte 1 ∷ []) opening events
unfolding Legal after_event answer wanted
legal = (
  (byte 1 ∷ [], refl, refl),
  (
    (byte 1 ∷ [], refl, refl),
    (
      (1, byte 1 ∷ [], byte 2, refl, refl),
      (
        (byte 2, refl),
        (
          (byte 2 ∷ [], refl),
          ((byte 2 ∷ [], refl, refl), ((1, byte 2 ∷ [], byte 3, refl, refl), ((byte 3, refl), ((0, byte 2 ∷ [], byte 2, refl, refl), ((byte 2, refl), tt))))),
        ),
      ),
    ),
  ),
)
