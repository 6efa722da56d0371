-- Names of bindings, one by one.
use Rattle.safl_typing.proofs.Common.{Bound, bytes_eq, drop_read, fault, list_any, placed, repeated, shown_bindings, slice_get_read}
use Rattle.std.proofs.Common.{◌≡◌, ℕ, suc, ◌+◌, ◌<◌, arith, drop, get_or, List, ◌∷◌, length, Option, Some, Bool, false, cond, refl, sym, ap, ◌∙◌}
use Rattle.safl_word.specs.declared.fault.Rule.TheVariants as rules
use Rattle.safl_typing.specs.PlainNames.{name_of, earlier}

earlier_next : (bs : List Bound) (i : ℕ) (b : Bound) → i < length bs → b ≡ get_or bs i b → earlier bs (i + 1) ≡ b.name ∷ earlier bs i
earlier_next bs i b lt is =
    let e : i + 1 ≡ suc i = omega arith in
    ap (λ (n : ℕ). earlier bs n) e ∙ ap (λ (o : Option Bound). name_of o ∷ earlier bs i) (slice_get_read bs (length bs) i b refl lt is)

here : (bs : List Bound) (i : ℕ) (b : Bound) (c : Bool) → i < length bs → b ≡ get_or bs i b → list_any (bytes_eq b.name) (earlier bs i) ≡ c
    → repeated (earlier bs i) (placed (shown_bindings (drop i bs))) ≡ cond c (Some (fault rules.E07 b.place)) (repeated (earlier bs (i + 1)) (placed (shown_bindings (drop (i + 1) bs))))
here bs i b c lt is q =
    ap (λ (l : List Bound). repeated (earlier bs i) (placed (shown_bindings l))) (drop_read bs i b lt is)
    ∙ ap (λ (z : Bool). cond z (Some (fault rules.E07 b.place)) (repeated (b.name ∷ earlier bs i) (placed (shown_bindings (drop (i + 1) bs))))) q
    ∙ ap (λ (l : List (List ℕ)). cond c (Some (fault rules.E07 b.place)) (repeated l (placed (shown_bindings (drop (i + 1) bs))))) (sym (earlier_next bs i b lt is))

pub repeated_next : (bs : List Bound) (i : ℕ) (b : Bound) → i < length bs → b ≡ get_or bs i b → list_any (bytes_eq b.name) (earlier bs i) ≡ false →
    repeated (earlier bs i) (placed (shown_bindings (drop i bs))) ≡ repeated (earlier bs (i + 1)) (placed (shown_bindings (drop (i + 1) bs)))
repeated_next bs i b lt is q = here bs i b false lt is q
