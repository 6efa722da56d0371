-- What the tail calls to one member come to.
use Rattle.safl_lower.proofs.Common.{TailCall, Val, Word, gate, on, or_else, words}
use Rattle.std.proofs.Common.{◌≡◌, ℕ, zero, suc, List, [], ◌∷◌, take, Option, Some, None, Bool, true, false, ◌&&◌, cond, ◌==◌, refl, sym, ap, ◌∙◌}
use Rattle.safl_lower.specs.Entries.{went, Told}
use Rattle.safl_lower.specs.Loads.{taken_to, to_member}

-- an entry: m says that it goes to the member, o that it is made, w are its words, y what the rest comes to, z what the body does
one_more : {A : Type 0} (m o : Bool) (w : A) (y z : Option A) → (o ≡ true → cond m (Some w) None ≡ z) → (o ≡ false → y ≡ z) → (z ≡ None → y ≡ None) → or_else (gate (m && o) (Some w)) y ≡ z
one_more true true w y z f g h = f refl
one_more false true w y z f g h = let e = f refl in h (sym e) ∙ e
one_more true false w y z f g h = g refl
one_more false false w y z f g h = g refl

-- no tail call to a member is made where the body goes to none or to another
others : (v : Val) (es : List TailCall) (x : Option (ℕ × List Word)) (h : ℕ) → Told v es x → to_member h x ≡ None → taken_to v es h ≡ None
others v [] x h t e = refl
others v (d ∷ es) x h t e =
    let rest = others v es x h t.1 e in
    one_more (d.member == h) (on v d.taken) (words v d.args.items) (taken_to v es h) None (λ o. ap (to_member h) (t.0 o) ∙ e) (λ o. rest) (λ o. rest)

-- the first tail call to each member is the body's, where it goes to that member
pub member_told : (v : Val) (es : List TailCall) (x : Option (ℕ × List Word)) (h : ℕ) → Told v es x → went v es ≡ x → taken_to v es h ≡ to_member h x
member_told v [] x h t e = ap (to_member h) e
member_told v (d ∷ es) x h t e =
    one_more (d.member == h) (on v d.taken) (words v d.args.items) (taken_to v es h) (to_member h x)
    (λ o. ap (to_member h) (t.0 o))
    (λ o. member_told v es x h t.1 (sym (ap (λ (b : Bool). or_else (gate b (Some (d.member, words v d.args.items))) (went v es)) o) ∙ e))
    (λ q. others v es x h t.1 q)

take_none : {A : Type 0} (i : ℕ) → take {A = A} i [] ≡ []
take_none zero = refl
take_none (suc i) = refl
