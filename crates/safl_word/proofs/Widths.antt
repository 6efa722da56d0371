-- A primitive's result has the width of the table.
use Rattle.safl_word.proofs.Common.{Primitive, le-leb, same_Some, width_max}
use Rattle.std.proofs.Common.{◌≡◌, ℕ, ◌≤◌, List, [], ◌∷◌, map, Option, Some, None, Bool, true, false, cond, refl}
use Rattle.safl_word.specs.Words.{Word}
use Rattle.safl_word.specs.declared.primitive.Primitive.TheVariants.{Add, Sub, Mul, And, Or, Xor, Not, Eq, Ne, Lt, Le, Gt, Ge, Shl, Shr, Cat, Bits, Ext}
use Rattle.safl_word.specs.Primitives.{is_width, one_width, two_widths, where_true, result_width, one_word, two_words, apply_prim}
use Rattle.safl_word.proofs.Options.{none_is}

abbrev pub widths : List Word → List ℕ
widths vs = map (λ v. v.width) vs

pub where_is : (b : Bool) (m n : ℕ) → where_true b m ≡ Some n → (b ≡ true) × (m ≡ n)
where_is true m n e = (refl, same_Some m n e)
where_is false m n e = none_is n e

-- a width of a word passes the table's test
pub within : (w : ℕ) → 1 ≤ w → w ≤ width_max → is_width w ≡ true
within w some most = rw (le-leb 1 w some, le-leb w width_max most) refl

-- what is there under a test is there
pub only_where : (b : Bool) (o : Option ℕ) (n : ℕ) → cond b o None ≡ Some n → o ≡ Some n
only_where true o n e = e
only_where false o n e = none_is n e

pub one_case : (f : ℕ → Option ℕ) (g : Word → Word) (vs : List Word) (n : ℕ) → ((a : Word) → f a.width ≡ Some n → (g a).width ≡ n) → one_width f (widths vs) ≡ Some n → (one_word g vs).width ≡ n
one_case f g [] n h e = none_is n e
one_case f g (a ∷ []) n h e = h a (only_where _ _ n e)
one_case f g (a ∷ (b ∷ vs)) n h e = none_is n e

pub two_case : (f : ℕ → ℕ → Option ℕ) (g : Word → Word → Word) (vs : List Word) (n : ℕ) →
    ((a b : Word) → f a.width b.width ≡ Some n → (g a b).width ≡ n) → two_widths f (widths vs) ≡ Some n → (two_words g vs).width ≡ n
two_case f g [] n h e = none_is n e
two_case f g (a ∷ []) n h e = none_is n e
two_case f g (a ∷ (b ∷ [])) n h e = h a b (only_where _ _ n e)
two_case f g (a ∷ (b ∷ (c ∷ vs))) n h e = none_is n e

pub apply_width : (o : Primitive) (vs : List Word) (n : ℕ) → result_width o (widths vs) ≡ Some n → (apply_prim o vs).width ≡ n
apply_width Add vs n e = two_case _ _ vs n (λ a b h. (where_is _ _ n h).1) e
apply_width Sub vs n e = two_case _ _ vs n (λ a b h. (where_is _ _ n h).1) e
apply_width Mul vs n e = two_case _ _ vs n (λ a b h. (where_is _ _ n h).1) e
apply_width And vs n e = two_case _ _ vs n (λ a b h. (where_is _ _ n h).1) e
apply_width Or vs n e = two_case _ _ vs n (λ a b h. (where_is _ _ n h).1) e
apply_width Xor vs n e = two_case _ _ vs n (λ a b h. (where_is _ _ n h).1) e
apply_width Not vs n e = one_case _ _ vs n (λ a h. same_Some _ n h) e
apply_width Eq vs n e = two_case _ _ vs n (λ a b h. (where_is _ _ n h).1) e
apply_width Ne vs n e = two_case _ _ vs n (λ a b h. (where_is _ _ n h).1) e
apply_width Lt vs n e = two_case _ _ vs n (λ a b h. (where_is _ _ n h).1) e
apply_width Le vs n e = two_case _ _ vs n (λ a b h. (where_is _ _ n h).1) e
apply_width Gt vs n e = two_case _ _ vs n (λ a b h. (where_is _ _ n h).1) e
apply_width Ge vs n e = two_case _ _ vs n (λ a b h. (where_is _ _ n h).1) e
apply_width Shl vs n e = two_case _ _ vs n (λ a b h. same_Some _ n h) e
apply_width Shr vs n e = two_case _ _ vs n (λ a b h. same_Some _ n h) e
apply_width Cat vs n e = two_case _ _ vs n (λ a b h. (where_is _ _ n h).1) e
apply_width (Bits high low) vs n e = one_case _ _ vs n (λ a h. (where_is _ _ n h).1) e
apply_width (Ext m) vs n e = one_case _ _ vs n (λ a h. (where_is _ _ n h).1) e
