-- What gates say of bits.
use Rattle.safl_lower.proofs.Common.{Netlist, Sig, Word, choose, fits, ne_eqb, on, pick, wired_before, word_eq}
use Rattle.std.proofs.Common.{◌≡◌, ℕ, T, zero, suc, ◌<◌, [], ◌∷◌, Some, Bool, true, false, not, ◌&&◌, ◌||◌, cond, ◌==◌, Result, Ok, Err, IfOk, refl, sym, ap, ◌∙◌, arith}
use Rattle.std.proofs.Math.Dec.{eqb_refl}
use Rattle.safl_word.specs.Primitives.{apply_prim, bit_of}
use Rattle.safl_word.specs.declared.primitive.Primitive.TheVariants.{And, Not, Or}
use Rattle.safl_net.specs.Growth.{Val, words, Wired, width_at, Grows}

a_bit : Bool → Word
a_bit b = record { width = 1; bits = bit_of b }

small : (b : ℕ) → b < 2 → b ≡ bit_of (b == 1)
small zero h = refl
small (suc zero) h = refl
small (suc (suc b)) h = absurd (omega arith)

-- a signal of width 1 has a bit
bit_word : (n : Netlist) (v : Val) (s : Sig) → Wired n v → width_at n s.0 ≡ Some 1 → v s.0 ≡ a_bit (on v s)
unfolding a_bit
bit_word n v s h e =
    let f = fits n v s.0 1 h e in
    let b = f.bits in
    word_eq (v s.0) (a_bit (on v s)) f.width (small (v s.0).bits (omega (arith, b)))

and_words : (a b : Bool) → ((apply_prim And (a_bit a ∷ a_bit b ∷ [])).bits == 1) ≡ (a && b)
unfolding a_bit
and_words true true = refl
and_words true false = refl
and_words false true = refl
and_words false false = refl

not_words : (a : Bool) → ((apply_prim Not (a_bit a ∷ [])).bits == 1) ≡ not a
unfolding a_bit
not_words true = refl
not_words false = refl

pub and_on : {E : Type 0} (n m : Netlist) (r : Result Sig E) (a b : Sig) → width_at n a.0 ≡ Some 1 → width_at n b.0 ≡ Some 1 → Grows n m → IfOk r
    (λ s. (v : Val) → Wired m v → v s.0 ≡ apply_prim And (words v (a ∷ b ∷ []))) → IfOk r (λ s. (v : Val) → Wired m v → on v s ≡ (on v a && on v b))
and_on n m (Ok s) a b p q g h = λ v w.
    let u = wired_before g w in
    ap (λ (x : Word). x.bits == 1) (h v w ∙ ap (λ (x : Word). apply_prim And (x ∷ v b.0 ∷ [])) (bit_word n v a u p) ∙ ap (λ (y : Word). apply_prim And (a_bit (on v a) ∷ y ∷ [])) (bit_word n v b u q))
    ∙ and_words (on v a) (on v b)
and_on n m (Err e) a b p q g h = tt

pub not_on : {E : Type 0} (n m : Netlist) (r : Result Sig E) (a : Sig) → width_at n a.0 ≡ Some 1 → Grows n m → IfOk r
    (λ s. (v : Val) → Wired m v → v s.0 ≡ apply_prim Not (words v (a ∷ []))) → IfOk r (λ s. (v : Val) → Wired m v → on v s ≡ not (on v a))
not_on n m (Ok s) a p g h = λ v w.
    let u = wired_before g w in
    ap (λ (x : Word). x.bits == 1) (h v w ∙ ap (λ (x : Word). apply_prim Not (x ∷ [])) (bit_word n v a u p)) ∙ not_words (on v a)
not_on n m (Err e) a p g h = tt

or_words : (a b : Bool) → ((apply_prim Or (a_bit a ∷ a_bit b ∷ [])).bits == 1) ≡ (a || b)
unfolding a_bit
or_words true true = refl
or_words true false = refl
or_words false true = refl
or_words false false = refl

pub or_on : {E : Type 0} (n m : Netlist) (r : Result Sig E) (a b : Sig) → width_at n a.0 ≡ Some 1 → width_at n b.0 ≡ Some 1 → Grows n m → IfOk r
    (λ s. (v : Val) → Wired m v → v s.0 ≡ apply_prim Or (words v (a ∷ b ∷ []))) → IfOk r (λ s. (v : Val) → Wired m v → on v s ≡ (on v a || on v b))
or_on n m (Ok s) a b p q g h = λ v w.
    let u = wired_before g w in
    ap (λ (x : Word). x.bits == 1) (h v w ∙ ap (λ (x : Word). apply_prim Or (x ∷ v b.0 ∷ [])) (bit_word n v a u p) ∙ ap (λ (y : Word). apply_prim Or (a_bit (on v a) ∷ y ∷ [])) (bit_word n v b u q))
    ∙ or_words (on v a) (on v b)
or_on n m (Err e) a b p q g h = tt

true_from : (b : Bool) → T b → b ≡ true
true_from true h = refl
true_from false h = absurd h

pub same : (w : ℕ) → (w == w) ≡ true
same w = true_from (w == w) (eqb_refl w)

-- the branch that a word selects
pick_is : {A : Type 0} (n : ℕ) (a b : A) → pick n a b ≡ cond (n == 1) a b
pick_is zero a b = refl
pick_is (suc zero) a b = refl
pick_is (suc (suc n)) a b = ap (λ (t : Bool). cond t a b) (sym (ne_eqb (suc (suc n)) 1 (λ e. absurd (omega (arith, e)))))

pub choose_is : {A : Type 0} (w : Word) (a b : A) → choose w a b ≡ cond (w.bits == 1) a b
choose_is w a b = pick_is w.bits a b

pub mux_value : {E : Type 0} (m : Netlist) (r : Result Sig E) (c a b : Sig) → IfOk r
    (λ s. (v : Val) → Wired m v → v s.0 ≡ choose (v c.0) (v a.0) (v b.0)) → IfOk r (λ s. (v : Val) → Wired m v → v s.0 ≡ cond (on v c) (v a.0) (v b.0))
mux_value m (Ok s) c a b h = λ v w. h v w ∙ choose_is (v c.0) (v a.0) (v b.0)
mux_value m (Err e) c a b h = tt
