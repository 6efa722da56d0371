-- The first fault of a program, in the order of checking. An expression is checked for its width alone.
use Rattle.std.specs.Prelude.{ℕ, suc, ◌^◌, List, [], ◌∷◌, ◌++◌, length, map, Option, Some, None, Bool, true, false, ◌&&◌, ◌==◌, nat_lt, if◌then◌else◌, is_none, option_map, Result, Ok, Err, slice_get}
use Rattle.safl_word.specs.Limits.{functions_max}
use Rattle.std.specs.Result.{result_err}
use Rattle.safl_word.specs.declared.fault.Rule.TheVariants as rules
use Rattle.safl_word.specs.declared.fault.Fault.{Fault}
use Rattle.safl_word.specs.declared.primitive.Primitive.{Primitive}
use Rattle.safl_word.specs.Primitives.{result_width}
use Rattle.std.specs.Option.{option_or}
use Rattle.safl_tree.specs.Tree.{Definition}
use Rattle.safl_tree.specs.Source.{fault_at}
use Rattle.safl_typing.specs.Rewriting.{Expression, Number, Sized, Variable, If, Let, Op, Call, Expressions, no_expression, an_expression, Bindings, no_binding, a_binding, Shape, Alike, Comparing, Shifting, Resizing, shape, flexible, count, rewritten, placed}
use Rattle.safl_typing.specs.Heads.{Slot, Head, Known, Callee, Member, Above, Unknown, callee, unit_of, params_of, heads}
use Rattle.safl_typing.specs.Typing.{innermost, slots, widths_of}
use Rattle.safl_typing.specs.Walk.{fault_with, after, unless, needs, repeated, group_fault, main_fault, limit, limits_from}

-- ---- expressions. A width is expected of each, or its width is to be found

-- the width that was found. E12 if another is expected
abbrev pub settle : ℕ → Option ℕ → ℕ → Result ℕ Fault
settle p None v = Ok v
settle p (Some w) v = if w == v then Ok v else Err (fault_with rules.E12 p w v)

-- the width that was found, or else this fault
abbrev pub settle_or : Fault → ℕ → Option ℕ → Option ℕ → Result ℕ Fault
settle_or f p m None = Err f
settle_or f p m (Some v) = settle p m v

-- a number. It has any width that it fits
abbrev pub width_of_number : ℕ → ℕ → Option ℕ → Result ℕ Fault
width_of_number p n None = Err (fault_at rules.E14 p)
width_of_number p n (Some w) = if nat_lt n (2 ^ w) then Ok w else Err (fault_at rules.E13 p)

-- E14 if no width is expected of a flexible expression
abbrev pub unsettled : ℕ → Option ℕ → Bool → Option Fault
unsettled p None true = Some (fault_at rules.E14 p)
unsettled p None false = None
unsettled p (Some w) is_flexible = None

-- two parts of one width: the one that is checked first gives it. If no width is expected, a rigid part comes first
abbrev pub in_turn : Bool → Option ℕ → (Option ℕ → Result ℕ Fault) → (Option ℕ → Result ℕ Fault) → Result ℕ Fault
in_turn true m first second = after (second m) (λ w. after (first (Some w)) (λ v. Ok w))
in_turn false m first second = after (first m) (λ w. after (second (Some w)) (λ v. Ok w))

-- an operator, by what it requires of its operands
abbrev pub operated : Primitive → ℕ → Option ℕ → Shape → (Option ℕ → Result ℕ Fault) → Result ℕ Fault → Result (List ℕ) Fault
    → Result ℕ Fault
operated o p m Alike alike shift all = alike m
operated o p m Comparing alike shift all = after (alike None) (λ w. settle p m 1)
operated o p m Shifting alike shift all = after shift (λ w. settle p m w)
operated o p m Resizing alike shift all = after all (λ ws. settle_or (fault_at rules.E05 p) p m (result_width o ws))

-- a call: first its function, then the number of its arguments, and then these, each against the width of its parameter
abbrev pub arguments : ℕ → Option ℕ → Head → ℕ → (List ℕ → Result (List ℕ) Fault) → Result ℕ Fault
arguments p m h n args =
    unless (needs (length h.params == n) (fault_with rules.E11 p (length h.params) n))
    (after (args (widths_of h.params)) (λ ws. settle p m h.width))

abbrev pub called : Callee → Bool → ℕ → Option ℕ → ℕ → (List ℕ → Result (List ℕ) Fault) → Result ℕ Fault
called (Member i h) tail p m n args = unless (needs tail (fault_at rules.E10 p)) (arguments p m h n args)
called (Above i h) tail p m n args = arguments p m h n args
called Unknown tail p m n args = Err (fault_at rules.E09 p)

-- what is expected of each operand
abbrev pub expected : (Expression → Option ℕ) → Expressions → List (Option ℕ)
expected wanted no_expression = []
expected wanted (an_expression e es) = wanted e ∷ expected wanted es

-- Checks an expression in a body that sees the functions of k, with slots s. Of the operands of `cat`, `bits` and `ext` each width
-- is to be found; of a shift the first, and that of the second if it is rigid.
abbrev mutual
  pub check : Known → List Slot → Bool → Option ℕ → Expression → Result ℕ Fault
  check k s tail m (Number p n) = width_of_number p n m
  check k s tail m (Sized p v n) = if nat_lt n (2 ^ v) then settle p m v else Err (fault_at rules.E13 p)
  check k s tail m (Variable p x) = settle_or (fault_at rules.E08 p) p m (option_map (λ a. a.width) (innermost x 0 s))
  check k s tail m (If p c a b) =
      unless (unsettled p m (flexible a && flexible b))
      (after (check k s false (Some 1) c) (λ w. in_turn (is_none m && flexible a) m (λ v. check k s tail v a) (λ v. check k s tail v b)))
  check k s tail m (Let p bs b) =
      unless (unsettled p m (flexible b))
      (unless (repeated [] (placed bs)) (after (check_bound k s bs) (λ ws. check k (s ++ slots bs ws) tail m b)))
  check k s tail m (Op p o es) =
      operated o p m (shape o) (λ v. check_alike k s p v es) (check_shift k s p es) (check_all k s (expected (λ e. None) es) es)
  check k s tail m (Call p f es) = called (callee k f) tail p m (count es) (λ ws. check_all k s (map (λ w. Some w) ws) es)

  -- the widths of several expressions, in order, each checked as it is expected
  pub check_all : Known → List Slot → List (Option ℕ) → Expressions → Result (List ℕ) Fault
  check_all k s ms no_expression = Ok []
  check_all k s [] (an_expression e es) = Ok []
  check_all k s (m ∷ ms) (an_expression e es) = after (check k s false m e) (λ w. after (check_all k s ms es) (λ ws. Ok (w ∷ ws)))

  -- the width of operands of one width
  pub check_alike : Known → List Slot → ℕ → Option ℕ → Expressions → Result ℕ Fault
  check_alike k s p None no_expression = Err (fault_at rules.E14 p)
  check_alike k s p (Some w) no_expression = Ok w
  check_alike k s p m (an_expression e es) = in_turn (is_none m && flexible e) m (λ v. check k s false v e) (λ v. check_alike k s p v es)

  pub check_shift : Known → List Slot → ℕ → Expressions → Result ℕ Fault
  check_shift k s p no_expression = Err (fault_at rules.E14 p)
  check_shift k s p (an_expression e es) =
      after (check k s false None e) (λ w. after (check_all k s (expected (λ a. if flexible a then Some w else None) es) es) (λ ws. Ok w))

  -- the widths of bindings, each checked against its written width if it has one
  pub check_bound : Known → List Slot → Bindings → Result (List ℕ) Fault
  check_bound k s no_binding = Ok []
  check_bound k s (a_binding p x v e bs) = after (check k s false v e) (λ w. after (check_bound k s bs) (λ ws. Ok (w ∷ ws)))

-- ---- programs

-- the first fault of definitions: all heads of a group come before its first body
abbrev pub fault_from : List Head → List (List ℕ) → ℕ → ℕ → List Definition → Option Fault
fault_from all earlier n u [] = None
fault_from all earlier n u (d ∷ ds) =
    option_or (group_fault earlier d ds)
    (option_or (result_err (check (record { heads = all; unit = unit_of n u d }) (params_of d) true (Some d.width) (rewritten d.body)))
    (fault_from all (d.name ∷ earlier) (suc n) (unit_of n u d) ds))

-- the first fault of a program: first of the limits, then of the definitions, and then whether the last one is `main`
unfoldable pub first_fault : List Definition → Option Fault
first_fault ds =
    option_or (option_or (limit 1 functions_max (slice_get (map (λ d. d.place) ds) functions_max)) (limits_from (heads ds) 0 0 0 0 ds))
    (option_or (fault_from (heads ds) [] 0 0 ds) (main_fault ds))
