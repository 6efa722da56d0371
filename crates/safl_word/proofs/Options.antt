-- Options and results.
use Rattle.std.proofs.Common.{Bool, Err, List, None, Ok, OnErr, Option, Result, Some, ap, cond, false, is_some, refl, sym, true, ℕ, ◌∙◌, ◌≡◌}
use Rattle.std.specs.Option.{option_or}
use Rattle.std.proofs.lemmas.Bool.{false≢true, true≢false}
use Rattle.std.specs.Prelude.{OnOk, option_map}
use Rattle.safl_word.specs.Words.{Word}

pub none_of : {A : Type 0} (o : Option A) → is_some o ≡ false → o ≡ None
none_of None h = refl
none_of (Some x) h = absurd (true≢false h)

pub some_at : (o : Option (List Word)) → is_some o ≡ true → (vs : List Word) × (o ≡ Some vs)
some_at None h = absurd (false≢true h)
some_at (Some vs) h = (vs, refl)

pub is_there : {A : Type 0} (o : Option A) → (o ≡ None → ⊥) → is_some o ≡ true
is_there None h = absurd (h refl)
is_there (Some x) h = refl

pub none_is : {A : Type 0} (x : ℕ) → None ≡ Some x → A
none_is x e = cc

pub option_or_assoc : {A : Type 0} (a b c : Option A) → option_or (option_or a b) c ≡ option_or a (option_or b c)
option_or_assoc None b c = refl
option_or_assoc (Some x) b c = refl

pub option_or_none : {A : Type 0} (a : Option A) → a ≡ option_or a None
option_or_none None = refl
option_or_none (Some x) = refl

pub both_halves : (o : Option (List ℕ × ℕ)) (name : List ℕ) (s : ℕ) → Some name ≡ option_map (λ x. x.0) o → Some s ≡ option_map (λ x. x.1) o →
    o ≡ Some (name, s)
both_halves None name s a b = absurd (cc)
both_halves (Some x) name s a b = let p : name ≡ x.0 = cc in let q : s ≡ x.1 = cc in ap (λ y. Some (y, x.1)) (sym p) ∙ ap (λ y. Some (name, y)) (sym q)

pub on_err_always : {T E : Type 0} (r : Result T E) (P : Type 0) → P → OnErr r P
on_err_always (Ok x) P p = tt
on_err_always (Err e) P p = p

pub on_ok_always : {T E P : Type 0} (r : Result T E) → P → OnOk r P
on_ok_always (Ok x) p = p
on_ok_always (Err e) p = tt

pub some_if : {A : Type 0} (b : Bool) (x : A) → is_some (cond b (Some x) None) ≡ b
some_if true x = refl
some_if false x = refl
