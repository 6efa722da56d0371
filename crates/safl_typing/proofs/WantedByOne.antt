-- The lists of how expressions are wanted, one by one.
use Rattle.safl_typing.proofs.Common.{flexible, shown_expression, shown_expressions, shown_slots, widths_of}
use Rattle.std.proofs.Common.{◌≡◌, ℕ, ◌+◌, ◌<◌, get_or, List, [], ◌∷◌, ◌++◌, length, take, Option, Some, None, Bool, refl, sym, ap, ◌∙◌}
use Rattle.std.specs.Prelude.{map}
use Rattle.std.proofs.lemmas.List.{map-append}
use Rattle.safl_typing.specs.declared.expression.Expression as code
use Rattle.safl_typing.specs.declared.heads.Slot as code_slot
use Rattle.safl_typing.specs.declared.typed.Wanted as code_wanted
use Rattle.safl_typing.specs.Walk.{Wanted, Any, Exactly, exactly}
use Rattle.safl_typing.specs.PlainTyped.{shown_wanted, operand_wanted, operands_wanted}
use Rattle.safl_typing.proofs.ListsByOne.{upto, slots_upto}

wanted_end : (ms : List code_wanted.Wanted) (m : code_wanted.Wanted) → map shown_wanted (ms ++ m ∷ []) ≡ map shown_wanted ms ++ shown_wanted m ∷ []
wanted_end ms m = map-append shown_wanted ms (m ∷ [])

operands_end : (o : Option ℕ) (xs : List code.Expression) (x : code.Expression)
    → operands_wanted o (shown_expressions (xs ++ x ∷ [])) ≡ operands_wanted o (shown_expressions xs) ++ operand_wanted o (flexible (shown_expression x)) ∷ []
operands_end None [] x = refl
operands_end (Some w) [] x = refl
operands_end None (y ∷ ys) x = ap (λ (l : List Wanted). Any ∷ l) (operands_end None ys x)
operands_end (Some w) (y ∷ ys) x = ap (λ (l : List Wanted). operand_wanted (Some w) (flexible (shown_expression y)) ∷ l) (operands_end (Some w) ys x)

pub operands_next : (o : Option ℕ) (es : List code.Expression) (i : ℕ) (e : code.Expression) (ms ns : List code_wanted.Wanted) (b : Bool) (m : code_wanted.Wanted)
    → i < length es → e ≡ get_or es i e → map shown_wanted ms ≡ operands_wanted o (shown_expressions (take i es)) → ns ≡ ms ++ m ∷ []
    → b ≡ flexible (shown_expression e) → shown_wanted m ≡ operand_wanted o b → map shown_wanted ns ≡ operands_wanted o (shown_expressions (take (i + 1) es))
operands_next o es i e ms ns b m lt is h q f w =
    ap (map shown_wanted) q ∙ wanted_end ms m ∙ ap (λ (l : List Wanted). l ++ shown_wanted m ∷ []) h
    ∙ ap (λ (z : Wanted). operands_wanted o (shown_expressions (take i es)) ++ z ∷ []) (w ∙ ap (operand_wanted o) f)
    ∙ sym (ap (λ (l : List code.Expression). operands_wanted o (shown_expressions l)) (upto es i e lt is) ∙ operands_end o (take i es) e)

arguments_end : (ps : List code_slot.Slot) (p : code_slot.Slot)
    → exactly (widths_of (shown_slots (ps ++ p ∷ []))) ≡ exactly (widths_of (shown_slots ps)) ++ Exactly p.width ∷ []
arguments_end [] p = refl
arguments_end (q ∷ ps) p = ap (λ (l : List Wanted). Exactly q.width ∷ l) (arguments_end ps p)

pub arguments_next : (ps : List code_slot.Slot) (i : ℕ) (p : code_slot.Slot) (ms ns : List code_wanted.Wanted) (m : code_wanted.Wanted)
    → i < length ps → p ≡ get_or ps i p → map shown_wanted ms ≡ exactly (widths_of (shown_slots (take i ps))) → ns ≡ ms ++ m ∷ []
    → shown_wanted m ≡ Exactly p.width → map shown_wanted ns ≡ exactly (widths_of (shown_slots (take (i + 1) ps)))
arguments_next ps i p ms ns m lt is h q w =
    ap (map shown_wanted) q ∙ wanted_end ms m ∙ ap (λ (l : List Wanted). l ++ shown_wanted m ∷ []) h
    ∙ ap (λ (z : Wanted). exactly (widths_of (shown_slots (take i ps))) ++ z ∷ []) w
    ∙ sym (ap (λ (l : List code_slot.Slot). exactly (widths_of (shown_slots l))) (slots_upto ps i p lt is) ∙ arguments_end (take i ps) p)
