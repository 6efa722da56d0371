-- Widths are from 1 to the greatest: of slots, heads and what the table gives.
use Rattle.safl_typing.proofs.Common.{Bindings, Primitive, a_binding, bytes_eq, no_binding, same_Some}
use Rattle.std.proofs.Common.{◌≡◌, ℕ, suc, List, [], ◌∷◌, ◌++◌, map, Option, Some, None, Bool, true, false, cond, refl, ap, ◌∙◌, subst, arith}
use Rattle.std.proofs.lemmas.Nat.{pow_pos}
use Rattle.safl_word.specs.Words.{Word, IsWord, AreWords}
use Rattle.safl_word.specs.Primitives.{result_width, apply_prim}
use Rattle.safl_word.proofs.Widths.{widths, apply_width}
use Rattle.safl_word.proofs.Fits.{apply_fits}
use Rattle.safl_typing.specs.Heads.{Slot, Head, Known, Numbered, first_head, Callee, Member, Above, Unknown, member_or, callee}
use Rattle.std.specs.Option.{option_or as later}
use Rattle.safl_typing.specs.Typing.{At, innermost, slots, word, widths_of}
use Rattle.safl_typing.specs.Ranges.{IsWide, AreWide, WideSlots, IsWideHead, WideHeads}

pub one_wide : IsWide 1
one_wide = record { some = omega arith; bounded = omega arith }

zero_word : (w : ℕ) → IsWide w → IsWord (word w 0)
zero_word w h = record { some = h.some; bounded = h.bounded; fits = pow_pos w }

words_back : (ws : List ℕ) → widths (map (λ w. word w 0) ws) ≡ ws
words_back [] = refl
words_back (w ∷ ws) = ap (λ l. w ∷ l) (words_back ws)

are_words : (ws : List ℕ) → AreWide ws → AreWords (map (λ w. word w 0) ws)
are_words [] h = tt
are_words (w ∷ ws) h = (zero_word w h.0, are_words ws h.1)

-- the table gives widths
pub table_wide : (o : Primitive) (ws : List ℕ) (w : ℕ) → AreWide ws → result_width o ws ≡ Some w → IsWide w
table_wide o ws w h e =
    let vs : List Word = map (λ w. word w 0) ws in
    let q : result_width o (widths vs) ≡ Some w = ap (result_width o) (words_back ws) ∙ e in
    let g : IsWord (apply_prim o vs) = apply_fits o vs w (are_words ws h) q in
    let r : (apply_prim o vs).width ≡ w = apply_width o vs w q in
    record { some = omega (arith, g.some, r); bounded = omega (arith, g.bounded, r) }

pub wide_widths : (ps : List Slot) → WideSlots ps → AreWide (widths_of ps)
wide_widths [] h = tt
wide_widths (p ∷ ps) h = (h.0, wide_widths ps h.1)

pub wide_append : (a b : List Slot) → WideSlots a → WideSlots b → WideSlots (a ++ b)
wide_append [] b h g = g
wide_append (v ∷ vs) b h g = (h.0, wide_append vs b h.1 g)

pub wide_slots : (bs : Bindings) (ws : List ℕ) → AreWide ws → WideSlots (slots bs ws)
wide_slots no_binding ws h = tt
wide_slots (a_binding p x v e bs) [] h = tt
wide_slots (a_binding p x v e bs) (w ∷ ws) h = (h.0, wide_slots bs ws h.1)

later_wide : (a b : Option At) (c : At) → later a b ≡ Some c → (a ≡ Some c → IsWide c.width) → (b ≡ Some c → IsWide c.width) → IsWide c.width
later_wide (Some a) b c e f g = f e
later_wide None b c e f g = g e

here_wide : (b : Bool) (i w : ℕ) (c : At) → cond b (Some (record { slot = i; width = w })) None ≡ Some c → IsWide w → IsWide c.width
here_wide true i w c e h = subst IsWide (ap (λ (a : At). a.width) (same_Some (record { slot = i; width = w }) c e)) h
here_wide false i w c e h = absurd cc

pub innermost_wide : (x : List ℕ) (i : ℕ) (s : List Slot) (a : At) → WideSlots s → innermost x i s ≡ Some a → IsWide a.width
innermost_wide x i [] a h e = absurd cc
innermost_wide x i (v ∷ vs) a h e =
    later_wide (innermost x (suc i) vs) _ a e (λ q. innermost_wide x (suc i) vs a h.1 q) (λ q. here_wide (bytes_eq v.name x) i v.width a q h.0)

head_here : (b : Bool) (n : ℕ) (h : Head) (rest : Option Numbered) (m : Numbered) → cond b (Some (record { number = n; head = h })) rest ≡ Some m →
    IsWideHead h → (rest ≡ Some m → IsWideHead m.head) → IsWideHead m.head
head_here true n h rest m e w f = subst IsWideHead (ap (λ (z : Numbered). z.head) (same_Some (record { number = n; head = h }) m e)) w
head_here false n h rest m e w f = f e

first_wide : (test : Head → Bool) (n : ℕ) (hs : List Head) (m : Numbered) → WideHeads hs → first_head test n hs ≡ Some m → IsWideHead m.head
first_wide test n [] m w e = absurd cc
first_wide test n (h ∷ hs) m w e = head_here (test h) n h _ m e w.0 (λ q. first_wide test (suc n) hs m w.1 q)

abbrev pub WideCallee : Callee → Type 0
WideCallee (Member i h) = IsWideHead h
WideCallee (Above i h) = IsWideHead h
WideCallee Unknown = Unit {0}

member_wide : (a b : Option Numbered) → ((m : Numbered) → a ≡ Some m → IsWideHead m.head) → ((m : Numbered) → b ≡ Some m → IsWideHead m.head) → WideCallee (member_or a b)
member_wide (Some m) b f g = f m refl
member_wide None (Some m) f g = g m refl
member_wide None None f g = tt

pub callee_wide : (k : Known) (f : List ℕ) → WideHeads k.heads → WideCallee (callee k f)
callee_wide k f w = member_wide _ _ (λ m e. first_wide _ 0 k.heads m w e) (λ m e. first_wide _ 0 k.heads m w e)
