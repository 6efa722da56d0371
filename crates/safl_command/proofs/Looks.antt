-- What a word can look like: a plain word, `--`, an option, or letters after one hyphen.
use Rattle.safl_command.proofs.Common.{IsUnhyphened, Text}
use Rattle.std.proofs.Common.{◌≡◌, ◌∙◌, ℕ, suc, ◌+◌, [], ◌∷◌, ◌++◌, Bool, true, false, Some, None, cond, refl, sym, ap, subst, not, ◌||◌, take, drop, arith}
use Rattle.std.specs.Prelude.{◌==◌, if◌then◌else◌}
use Rattle.std.specs.List.{list_any, before_first, after_first, position_or_len}
use Rattle.std.proofs.lemmas.Bool.{false≢true, or_parts, eqb-true}
use Rattle.clap.specs.Lexer.{long_of, has_byte}

pub data Looks : Text → Type 0 where
  plain : (word : Text) → IsUnhyphened word → Looks word
  hyphens : Looks (45 ∷ (45 ∷ []))
  long : (e : ℕ) (es : Text) → Looks (45 ∷ (45 ∷ (e ∷ es)))
  short : (d : ℕ) (ds : Text) → (d == 45) ≡ false → Looks (45 ∷ (d ∷ ds))

after_hyphen : (d : ℕ) (ds : Text) (b : Bool) → (d == 45) ≡ b → Looks (45 ∷ (d ∷ ds))
after_hyphen d ds false e = short d ds e
after_hyphen d [] true e = subst (λ (x : ℕ). Looks (45 ∷ (x ∷ []))) (sym (eqb-true d 45 e)) hyphens
after_hyphen d (f ∷ fs) true e = subst (λ (x : ℕ). Looks (45 ∷ (x ∷ (f ∷ fs)))) (sym (eqb-true d 45 e)) (long f fs)

two_bytes : (c d : ℕ) (ds : Text) (b : Bool) → (c == 45) ≡ b → Looks (c ∷ (d ∷ ds))
two_bytes c d ds false e = plain (c ∷ (d ∷ ds)) (λ is. false≢true (sym e ∙ subst (λ (x : ℕ). (x == 45) ≡ true) (sym is) refl))
two_bytes c d ds true e = subst (λ (x : ℕ). Looks (x ∷ (d ∷ ds))) (sym (eqb-true c 45 e)) (after_hyphen d ds (d == 45) refl)

pub looks : (word : Text) → Looks word
looks [] = plain [] tt
looks (c ∷ []) = plain (c ∷ []) tt
looks (c ∷ (d ∷ ds)) = two_bytes c d ds (c == 45) refl

-- ---- the name of an option, and its value after an equals sign

abbrev is_equals : ℕ → Bool
is_equals x = x == 61

-- how many bytes stand before the equals sign
abbrev before_equals : Text → ℕ
before_equals xs = position_or_len is_equals xs

no_equals : (text : Text) → list_any is_equals text ≡ false → before_first is_equals text ≡ text
no_equals [] h = refl
no_equals (x ∷ xs) h =
    let p : ((x == 61) ≡ false) × (list_any is_equals xs ≡ false) = or_parts (x == 61) (list_any is_equals xs) h in
    let n : ℕ = position_or_len is_equals xs in
    let s : 1 + n ≡ suc n = omega arith in
    ap (λ (b : Bool). take (cond (not b) (1 + n) 0) (x ∷ xs)) p.0 ∙ ap (λ (k : ℕ). take k (x ∷ xs)) s ∙ ap (λ (l : Text). x ∷ l) (no_equals xs p.1)

cut_there : (text : Text) → list_any is_equals text ≡ true → (before_first is_equals text ++ (61 ∷ after_first is_equals text)) ≡ text
cut_there [] h = absurd (false≢true h)
cut_there (x ∷ xs) h = go (x == 61) refl (cut_there xs)
  where
    go : (b : Bool) → (x == 61) ≡ b → (list_any is_equals xs ≡ true → (before_first is_equals xs ++ (61 ∷ after_first is_equals xs)) ≡ xs)
        → (before_first is_equals (x ∷ xs) ++ (61 ∷ after_first is_equals (x ∷ xs))) ≡ x ∷ xs
    go true e ih =
        ap (λ (b : Bool). take (cond (not b) (1 + (before_equals xs)) 0) (x ∷ xs) ++ (61 ∷ drop (cond (not b) (1 + (before_equals xs)) 0 + 1) (x ∷ xs))) e
        ∙ ap (λ (y : ℕ). y ∷ xs) (sym (eqb-true x 61 e))
    go false e ih =
        let s : 1 + (before_equals xs) ≡ suc (before_equals xs) = omega arith in
        let t : 1 + (before_equals xs) + 1 ≡ suc ((before_equals xs) + 1) = omega arith in
        ap (λ (b : Bool). take (cond (not b) (1 + (before_equals xs)) 0) (x ∷ xs) ++ (61 ∷ drop (cond (not b) (1 + (before_equals xs)) 0 + 1) (x ∷ xs))) e
        ∙ ap (λ (k : ℕ). take k (x ∷ xs) ++ (61 ∷ drop (1 + (before_equals xs) + 1) (x ∷ xs))) s
        ∙ ap (λ (k : ℕ). take (suc (before_equals xs)) (x ∷ xs) ++ (61 ∷ drop k (x ∷ xs))) t
        ∙ ap (λ (l : Text). x ∷ l) (ih (subst (λ (b : Bool). (b || list_any is_equals xs) ≡ true) e h))

-- the name that an option's word has, and its value
pub data Cut (text : Text) : Type 0 where
  whole : (name : Text) → long_of (45 ∷ (45 ∷ text)) ≡ Some (name, None) → text ≡ name → Cut text
  cut : (name value : Text) → long_of (45 ∷ (45 ∷ text)) ≡ Some (name, Some value) → text ≡ name ++ (61 ∷ value) → Cut text

pub cut_of : (e : ℕ) (es : Text) → Cut (e ∷ es)
cut_of e es = go (has_byte 61 (e ∷ es)) refl
  where
    go : (b : Bool) → has_byte 61 (e ∷ es) ≡ b → Cut (e ∷ es)
    go false h =
        whole (before_first is_equals (e ∷ es))
        (ap (λ (b : Bool). Some (before_first is_equals (e ∷ es), if b then Some (after_first is_equals (e ∷ es)) else None)) h) (sym (no_equals (e ∷ es) h))
    go true h =
        cut (before_first is_equals (e ∷ es)) (after_first is_equals (e ∷ es))
        (ap (λ (b : Bool). Some (before_first is_equals (e ∷ es), if b then Some (after_first is_equals (e ∷ es)) else None)) h) (sym (cut_there (e ∷ es) h))
