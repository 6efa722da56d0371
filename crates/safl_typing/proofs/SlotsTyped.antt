-- Words that do not fit, and slots by their names.
use Rattle.safl_typing.proofs.Common.{CheckErr, IsWord, Slot, bytes_eq, slice_get_read}
use Rattle.std.proofs.Common.{◌≡◌, ℕ, zero, suc, ◌+◌, ◌<◌, ◌^◌, arith, take, get_or, List, [], ◌∷◌, ◌++◌, length, Option, Some, None, Bool, true, false, cond, refl, sym, ap, ◌∙◌, subst}
use Rattle.std.specs.Prelude.{nat_lt, IfSome, Err}
use Rattle.safl_word.specs.declared.fault.Rule.TheVariants as rules
use Rattle.safl_typing.specs.declared.typed.CheckErr.TheVariants as errors
use Rattle.safl_typing.specs.declared.typed.Wanted as code_wanted
use Rattle.safl_typing.specs.declared.typed.Wanted.TheVariants as wants
use Rattle.safl_typing.specs.Walk.{fault, check_number, sized}
use Rattle.std.proofs.lemmas.Bool.{ltb-true, false_from_ne_true}
use Rattle.safl_typing.specs.declared.heads.Slot as code
use Rattle.std.specs.Option.{option_or as later}
use Rattle.safl_typing.specs.Typing.{At, innermost, word}
use Rattle.safl_typing.specs.PlainHeads.{shown_slot, shown_slots}
use Rattle.safl_typing.specs.PlainTyped.{HasWidthOfWord, HasWideWanted, shown_wanted, Says, with_slot, at_slot}

pub not_fits : (w n : ℕ) → HasWidthOfWord w → (IsWord (word w n) → ⊥) → nat_lt n (2 ^ w) ≡ false
not_fits w n h f = false_from_ne_true _ (λ e. f (record { some = h.0; bounded = h.1; fits = ltb-true n (2 ^ w) e }))

pub later_again : (a b c : Option At) → later (later a b) c ≡ later a (later b c)
later_again None b c = refl
later_again (Some x) b c = refl

pub later_none : (a : Option At) → later a None ≡ a
later_none None = refl
later_none (Some x) = refl

-- one more slot at the end is looked at first
innermost_end : (x : List ℕ) (i : ℕ) (vs : List Slot) (v : Slot) → innermost x i (vs ++ v ∷ []) ≡ later
    (cond (bytes_eq v.name x) (Some (record { slot = i + length vs; width = v.width })) None) (innermost x i vs)
innermost_end x i [] v =
    let e : i ≡ i + 0 = omega arith in
    ap (λ (n : ℕ). cond (bytes_eq v.name x) (Some (record { slot = n; width = v.width })) None) e ∙ sym (later_none _)
innermost_end x i (u ∷ vs) v =
    let e : suc i + length vs ≡ i + suc (length vs) = omega arith in
    let last : ℕ → Option At = λ (n : ℕ). cond (bytes_eq v.name x) (Some (record { slot = n; width = v.width })) None in
    let first : Option At = cond (bytes_eq u.name x) (Some (record { slot = i; width = u.width })) None in
    ap (λ (o : Option At). later o first) (innermost_end x (suc i) vs v) ∙ later_again (last (suc i + length vs)) (innermost x (suc i) vs) first
    ∙ ap (λ (n : ℕ). later (last n) (later (innermost x (suc i) vs) first)) e

pub upto : (ss : List code.Slot) (i : ℕ) (s : code.Slot) → i < length ss → s ≡ get_or ss i s →
    (shown_slots (take (i + 1) ss) ≡ shown_slots (take i ss) ++ shown_slot s ∷ []) × (length (shown_slots (take i ss)) ≡ i)
upto [] i s lt is = absurd (omega (arith, lt))
upto (y ∷ ys) zero s lt is = (ap (λ (z : code.Slot). shown_slot z ∷ []) (sym is), refl)
upto (y ∷ ys) (suc i) s lt is =
    let e : suc i + 1 ≡ suc (i + 1) = omega arith in
    let r = upto ys i s (omega (arith, lt)) is in
    (ap (λ (j : ℕ). shown_slots (take j (y ∷ ys))) e ∙ ap (λ (l : List Slot). shown_slot y ∷ l) r.0, ap (λ (n : ℕ). suc n) r.1)

innermost_next : (x : List ℕ) (ss : List code.Slot) (i : ℕ) (s : code.Slot) (b : Bool) → i < length ss → s ≡ get_or ss i s → bytes_eq s.name x ≡ b
    → innermost x 0 (shown_slots (take (i + 1) ss)) ≡ later (cond b (Some (record { slot = i; width = s.width })) None) (innermost x 0 (shown_slots (take i ss)))
innermost_next x ss i s b lt is q =
    let r = upto ss i s lt is in
    let n : 0 + length (shown_slots (take i ss)) ≡ i = omega (arith, r.1) in
    ap (λ (l : List Slot). innermost x 0 l) r.0 ∙ innermost_end x 0 (shown_slots (take i ss)) (shown_slot s)
    ∙ ap (λ (k : ℕ). later (cond (bytes_eq s.name x) (Some (record { slot = k; width = s.width })) None) (innermost x 0 (shown_slots (take i ss)))) n
    ∙ ap (λ (c : Bool). later (cond c (Some (record { slot = i; width = s.width })) None) (innermost x 0 (shown_slots (take i ss)))) q

-- what is found among the slots before i
abbrev pub IsFound : List ℕ → List code.Slot → ℕ → Option ℕ → Type 0
IsFound x ss i found = IfSome found (λ n. n < length ss) × (at_slot ss found ≡ innermost x 0 (shown_slots (take i ss)))

pub slot_then : (x : List ℕ) (ss : List code.Slot) (i : ℕ) (s : code.Slot) (found : Option ℕ) → i < length ss → s ≡ get_or ss i s → bytes_eq s.name x
    ≡ true → found ≡ Some i → IsFound x ss (i + 1) found
slot_then x ss i s found lt is q e = subst (λ (o : Option ℕ). IsFound x ss (i + 1) o) (sym e)
    (lt, ap (λ (o : Option code.Slot). with_slot i o) (slice_get_read ss (length ss) i s refl lt is) ∙ sym (innermost_next x ss i s true lt is q))

pub slot_else : (x : List ℕ) (ss : List code.Slot) (i : ℕ) (s : code.Slot) (old found : Option ℕ) → i < length ss → s ≡ get_or ss i s → bytes_eq
    s.name x ≡ false → found ≡ old → IsFound x ss i old → IsFound x ss (i + 1) found
slot_else x ss i s old found lt is q e h = subst (λ (o : Option ℕ). IsFound x ss (i + 1) o) (sym e)
    (h.0, h.1 ∙ sym (innermost_next x ss i s false lt is q))

pub name_is : (x y u v : List ℕ) (r b : Bool) → r ≡ bytes_eq x y → r ≡ b → x ≡ u → y ≡ v → bytes_eq u v ≡ b
name_is x y u v r b e t p q = sym (ap (λ (z : List ℕ). bytes_eq z v) p) ∙ sym (ap (λ (z : List ℕ). bytes_eq x z) q) ∙ sym e ∙ t

-- ---- numbers that do not fit

pub number_refused : (p n w : ℕ) (m : code_wanted.Wanted) (r : CheckErr) → HasWideWanted m → m ≡ wants.Exactly w → (IsWord (word w n) → ⊥) → r ≡
    errors.Refused (fault rules.E13 p) → Says (Err r) (check_number p n (shown_wanted m))
number_refused p n w m r h e f q =
    let wide : HasWidthOfWord w = subst HasWideWanted e h in
    subst (λ (z : CheckErr). Says (Err z) (check_number p n (shown_wanted m))) (sym q)
    (subst (λ (z : code_wanted.Wanted). check_number p n (shown_wanted z) ≡ Err (fault rules.E13 p)) (sym e) (rw (not_fits w n wide f) refl))

pub sized_refused : (p w n : ℕ) (m : code_wanted.Wanted) (r : CheckErr) → HasWidthOfWord w → (IsWord (word w n) → ⊥) → r ≡ errors.Refused
    (fault rules.E13 p) → Says (Err r) (sized p w n (shown_wanted m))
sized_refused p w n m r h f q = subst (λ (z : CheckErr). Says (Err z) (sized p w n (shown_wanted m))) (sym q) (rw (not_fits w n h f) refl)
