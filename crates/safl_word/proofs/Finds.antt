-- The key and the symbol of a text.
use Rattle.safl_word.proofs.Common.{Key, Sym, and_parts, eqb-true}
use Rattle.std.proofs.Common.{◌≡◌, ◌≢◌, ℕ, ◌≤◌, List, [], ◌∷◌, length, Option, Some, None, Bool, true, false, ◌&&◌, ◌==◌, if◌then◌else◌, refl, sym, ◌∙◌, ap, arith}
use Rattle.safl_word.specs.Tokens.{key_text, sym_text, IsNameLike}
use Rattle.safl_word.specs.declared.token.Key.TheVariants as keys
use Rattle.safl_word.specs.declared.token.Sym.TheVariants as syms

abbrev pub same : List ℕ → List ℕ → Bool
same [] [] = true
same [] (d ∷ w) = false
same (c ∷ u) [] = false
same (c ∷ u) (d ∷ w) = (c == d) && same u w

pub same_is : (u w : List ℕ) → same u w ≡ true → u ≡ w
same_is [] [] h = refl
same_is [] (d ∷ w) h = cc
same_is (c ∷ u) [] h = cc
same_is (c ∷ u) (d ∷ w) h =
    let p = and_parts _ _ h in
    let e = eqb-true c d p.0 in
    let r = same_is u w p.1 in
    λ i. e i ∷ r i

-- the first in a list that has this text
abbrev pub find_by : {X : Type 0} → (X → List ℕ) → List ℕ → List X → Option X
find_by f w [] = None
find_by f w (x ∷ xs) = if same w (f x) then Some x else find_by f w xs

found_step : {X : Type 0} (f : X → List ℕ) (w : List ℕ) (x : X) (xs : List X) (y : X) (b : Bool) → same w (f x) ≡ b → (if b then Some x else find_by f w xs) ≡ Some y
    → (find_by f w xs ≡ Some y → w ≡ f y) → w ≡ f y
found_step f w x xs y true e h k = let i : x ≡ y = cc in same_is w (f x) e ∙ ap f i
found_step f w x xs y false e h k = k h

pub found : {X : Type 0} (f : X → List ℕ) (w : List ℕ) (xs : List X) (y : X) → find_by f w xs ≡ Some y → w ≡ f y
found f w [] y h = cc
found f w (x ∷ xs) y h = found_step f w x xs y (same w (f x)) refl h (found f w xs y)

abbrev pub all_keys : List Key
all_keys = keys.Fun ∷ keys.If ∷ keys.Then ∷ keys.Else ∷ keys.Let ∷ keys.In ∷ keys.Case ∷ keys.Default ∷ keys.Cat ∷ keys.Bits ∷ keys.Ext ∷ keys.And ∷ []

unfoldable pub key_at : List ℕ → Option Key
key_at w = find_by key_text w all_keys

pub key_found : (k : Key) → key_at (key_text k) ≡ Some k
unfolding key_at
key_found keys.Fun = refl
key_found _ = refl

pub key_sound : (w : List ℕ) (k : Key) → key_at w ≡ Some k → w ≡ key_text k
unfolding key_at
key_sound w k h = found key_text w all_keys k h

pub key_none : (w : List ℕ) → key_at w ≡ None → (k : Key) → w ≢ key_text k
key_none w h k e = let f = sym (ap key_at e) ∙ h in let g = key_found k in cc

pub same_key : (j k : Key) → key_text j ≡ key_text k → j ≡ k
same_key j k e = let g = sym (key_found j) ∙ ap key_at e ∙ key_found k in cc

-- keys have the shape of names, and are short
pub key_like : (k : Key) → IsNameLike (key_text k)
key_like keys.Fun = (refl, refl)
key_like _ = (refl, refl)

pub key_short : (k : Key) → length (key_text k) ≤ 7
key_short keys.Fun = omega arith
key_short _ = omega arith

abbrev pub all_syms : List Sym
all_syms =
    syms.OpenParen ∷ syms.CloseParen ∷ syms.OpenBrace ∷ syms.CloseBrace ∷ syms.Comma ∷ syms.Colon ∷ syms.Semicolon ∷ syms.Assign ∷ syms.Arrow ∷ syms.Equal ∷ syms.NotEqual
    ∷ syms.Less ∷ syms.LessEqual ∷ syms.Greater ∷ syms.GreaterEqual ∷ syms.ShiftLeft ∷ syms.ShiftRight ∷ syms.Plus ∷ syms.Minus ∷ syms.Star ∷ syms.Ampersand ∷ syms.Bar
    ∷ syms.Caret ∷ syms.Tilde ∷ []

unfoldable pub sym_at : List ℕ → Option Sym
sym_at w = find_by sym_text w all_syms

pub sym_found : (s : Sym) → sym_at (sym_text s) ≡ Some s
unfolding sym_at
sym_found syms.OpenParen = refl
sym_found _ = refl

pub sym_sound : (w : List ℕ) (s : Sym) → sym_at w ≡ Some s → w ≡ sym_text s
unfolding sym_at
sym_sound w s h = found sym_text w all_syms s h

pub sym_none : (w : List ℕ) → sym_at w ≡ None → (s : Sym) → w ≢ sym_text s
sym_none w h s e = let f = sym (ap sym_at e) ∙ h in let g = sym_found s in cc

pub same_sym : (s t : Sym) → sym_text s ≡ sym_text t → s ≡ t
same_sym s t e = let g = sym (sym_found s) ∙ ap sym_at e ∙ sym_found t in cc

pub sym_some : (s : Sym) → 1 ≤ length (sym_text s)
sym_some syms.OpenParen = omega arith
sym_some _ = omega arith

pub sym_short : (s : Sym) → length (sym_text s) ≤ 2
sym_short syms.OpenParen = omega arith
sym_short _ = omega arith
