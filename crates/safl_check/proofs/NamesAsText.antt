-- Names as text, and parameters.
use Rattle.safl_check.proofs.Common.{Param, Slot, shown_param, shown_parameter, shown_parameters, slot_of, string_bytes}
use Rattle.std.proofs.Common.{◌≡◌, ℕ, zero, suc, ◌+◌, ◌<◌, List, [], ◌∷◌, ◌++◌, get_or, take, length, map, subst, Global, String, true}
use Rattle.std.proofs.Common.{◌||◌, leb, sym, ap, ◌∙◌, arith, ⊎_elim}
use Rattle.std.specs.List.{list_all}
use Rattle.std.specs.Str.{IsUtf8}
use Rattle.std.proofs.lemmas.Bool.{leb-true, eqb-true, and_parts, or_cases}
use Rattle.std.proofs.lemmas.Str.{IsUtf8-from_ascii}
use Rattle.std.proofs.lemmas.List.{map-append}
use Rattle.safl_term.specs.declared.checked.Parameter.{Parameter}
use Rattle.safl_tree.specs.Printable.{AreFormedParameters}
use Rattle.safl_word.specs.Numerals.{between}
use Rattle.safl_word.specs.Tokens.{IsSourceName, IsNameLike, in_name, begins_name}

below : (low high c : ℕ) → high < 128 → between low high c ≡ true → c < 128
below low high c h e = omega (arith, leb-true c high (and_parts (leb low c) (leb c high) e).1)

begins_ascii : (c : ℕ) → begins_name c ≡ true → c < 128
begins_ascii c e =
    ⊎_elim
    (λ q. ⊎_elim (λ r. below 65 90 c (omega arith) r) (λ r. below 97 122 c (omega arith) r) (or_cases (between 65 90 c) (between 97 122 c) q))
    (λ q. omega (arith, eqb-true c 95 q))
    (or_cases (between 65 90 c || between 97 122 c) _ e)

ascii : (c : ℕ) → in_name c ≡ true → c < 128
ascii c e = ⊎_elim (λ q. begins_ascii c q) (λ q. below 48 57 c (omega arith) q) (or_cases (begins_name c) (between 48 57 c) e)

ascii_all : (w : List ℕ) → list_all in_name w ≡ true → (i : ℕ) → get_or w i 0 < 128
ascii_all [] h i = omega arith
ascii_all (c ∷ w) h zero = ascii c (and_parts (in_name c) (list_all in_name w) h).0
ascii_all (c ∷ w) h (suc i) = ascii_all w (and_parts (in_name c) (list_all in_name w) h).1 i

ascii_name : (w : List ℕ) → IsNameLike w → (i : ℕ) → get_or w i 0 < 128
ascii_name [] h i = absurd h
ascii_name (c ∷ w) h zero = begins_ascii c h.0
ascii_name (c ∷ w) h (suc i) = ascii_all w h.1 i

-- a name is text
pub utf8_name : (w : List ℕ) → IsSourceName w → IsUtf8 w
utf8_name w h = IsUtf8-from_ascii w (ascii_name w h.like)

-- each parameter of a definition has a name
pub param_name : (ps : List Param) (i : ℕ) (p : Param) → AreFormedParameters (shown_parameters ps) → i < length ps → p ≡ get_or ps i p → IsSourceName p.name
param_name [] i p h lt is = absurd (omega (arith, lt))
param_name (q ∷ ps) zero p h lt is = subst (λ (x : Param). IsSourceName x.name) (sym is) h.0.0
param_name (q ∷ ps) (suc i) p h lt is = param_name ps i p h.1 (omega (arith, lt)) is

upto : (ps : List Param) (i : ℕ) (p : Param) → i < length ps → p ≡ get_or ps i p → map slot_of (shown_parameters (take (i + 1) ps)) ≡ map slot_of
    (shown_parameters (take i ps)) ++ slot_of (shown_parameter p) ∷ []
upto [] i p lt is = absurd (omega (arith, lt))
upto (q ∷ ps) zero p lt is = ap (λ (x : Param). slot_of (shown_parameter x) ∷ []) (sym is)
upto (q ∷ ps) (suc i) p lt is =
    let e : suc i + 1 ≡ suc (i + 1) = omega arith in
    ap (λ (j : ℕ). map slot_of (shown_parameters (take j (q ∷ ps)))) e ∙ ap (λ (l : List Slot). slot_of (shown_parameter q) ∷ l) (upto ps i p (omega (arith, lt)) is)

-- one more parameter
pub params_next : (all more : List Parameter) (ps : List Param) (i : ℕ) (p : Param) (text : String Global) → i < length ps → p ≡ get_or ps i p
    → map shown_param all ≡ map slot_of (shown_parameters (take i ps)) → string_bytes text ≡ p.name → more ≡ all ++ record { name = text; width = p.width } ∷ []
    → map shown_param more ≡ map slot_of (shown_parameters (take (i + 1) ps))
params_next all more ps i p text lt is h name em =
    ap (λ (l : List Parameter). map shown_param l) em
    ∙ map-append shown_param all (record { name = text; width = p.width } ∷ [])
    ∙ ap (λ (l : List Slot). l ++ record { name = string_bytes text; width = p.width } ∷ []) h
    ∙ ap (λ (x : List ℕ). map slot_of (shown_parameters (take i ps)) ++ record { name = x; width = p.width } ∷ []) name
    ∙ sym (upto ps i p lt is)
