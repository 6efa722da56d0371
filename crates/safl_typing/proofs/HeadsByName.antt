-- Finding heads by their names.
use Rattle.std.proofs.Common.{◌≡◌, ℕ, ◌<◌, arith, List, length, Option, Some, refl, sym, ap, ◌∙◌, ⊎_elim, suc, [], ◌∷◌}
use Rattle.std.specs.Prelude.{slice_get}
use Rattle.std.proofs.lemmas.Option.{slice_get_cases}
use Rattle.safl_typing.specs.declared.heads.Head as code
use Rattle.safl_typing.specs.Heads.{Numbered, member_or, is_site, Head}
use Rattle.safl_typing.specs.declared.heads.Callee as code_callee
use Rattle.safl_typing.specs.declared.heads.Callee.TheVariants as codes
use Rattle.safl_typing.specs.PlainHeads.{shown_head, with_number, a_member, an_earlier, shown_callee, site_of, IsOneOf, shown_heads}

pub heads_count : (hs : List code.Head) → length (shown_heads hs) ≡ length hs
heads_count [] = refl
heads_count (h ∷ hs) = ap (λ (n : ℕ). suc n) (heads_count hs)

pub found_member : (hs : List code.Head) (n : ℕ) (a b : Option Numbered) → n < length hs → with_number n (slice_get hs n) ≡ a → a_member (with_number n (slice_get hs n)) ≡ member_or a b
found_member hs n a b lt e = ⊎_elim
    (λ q. let g : with_number n (slice_get hs n) ≡ Some (record { number = n; head = shown_head q.0 }) = ap (λ (o : Option code.Head). with_number n o) q.2 in
    ap a_member g ∙ ap (λ (z : Option Numbered). member_or z b) (sym g ∙ e))
    (λ q. absurd (omega (arith, q.0, lt))) (slice_get_cases hs n).1

pub site_number : (hs : List code.Head) (n : ℕ) → n < length hs → (is_site (a_member (with_number n (slice_get hs n))) ≡ 0) × (is_site (an_earlier (with_number n (slice_get hs n))) ≡ 1)
site_number hs n lt = ⊎_elim
    (λ q. (ap (λ (o : Option code.Head). is_site (a_member (with_number n o))) q.2, ap (λ (o : Option code.Head). is_site (an_earlier (with_number n o))) q.2))
    (λ q. absurd (omega (arith, q.0, lt))) (slice_get_cases hs n).1

pub site_plain : (hs : List code.Head) (c : code_callee.Callee) → IsOneOf hs c → is_site (shown_callee hs c) ≡ site_of c
site_plain hs (codes.Member n) h = (site_number hs n h).0
site_plain hs (codes.Above n) h = (site_number hs n h).1
site_plain hs codes.Unknown h = refl
