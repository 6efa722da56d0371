-- Lines of different names, and what a name shows by its head.
use Rattle.std.proofs.Common.{◌≡◌, ℕ, zero, suc, ◌<◌, ◌≤◌, List, [], ◌∷◌, ◌++◌, map, length, Some, Bool, true, false, cond, slice_get, bytes_eq, refl, sym, ap, ◌∙◌, arith}
use Rattle.std.specs.Prelude.{codes}
use Rattle.safl_net.specs.Names.{is_good, is_reserved, is_identifier, are_parts}
use Rattle.safl_circuit.specs.Layout.{Line, lines, named}
use Rattle.safl_unit.proofs.titles.Legal.{IsPiece, good_headed, piece_parts, before_mark, after_mark, piece_whole}

-- ---- lines of different names

abbrev pub Each : (Line → Type 0) → List Line → Type 0
Each Q [] = Unit {0}
Each Q (l ∷ ls) = Q l × Each Q ls

abbrev pub Other : Line → Line → Type 0
Other l m = l.0 ≡ m.0 → ⊥

abbrev pub Differ : List Line → Type 0
Differ [] = Unit {0}
Differ (l ∷ ls) = Each (Other l) ls × Differ ls

abbrev Apart : List Line → List Line → Type 0
Apart xs ys = Each (λ x. Each (Other x) ys) xs

pub each_more : (Q : Line → Type 0) (xs ys : List Line) → Each Q xs → Each Q ys → Each Q (xs ++ ys)
each_more Q [] ys a b = b
each_more Q (x ∷ xs) ys a b = (a.0, each_more Q xs ys a.1 b)

pub each_weaker : (P Q : Line → Type 0) (xs : List Line) → ((l : Line) → P l → Q l) → Each P xs → Each Q xs
each_weaker P Q [] f a = tt
each_weaker P Q (x ∷ xs) f a = (f x a.0, each_weaker P Q xs f a.1)

pub each_cond : (Q : Line → Type 0) (b : Bool) (xs : List Line) → (b ≡ true → Each Q xs) → Each Q (cond b xs [])
each_cond Q true xs a = a refl
each_cond Q false xs a = tt

pub each_lines : (Q : Line → Type 0) (g : ℕ → List Line) (n : ℕ) → ((i : ℕ) → i < n → Each Q (g i)) → Each Q (lines g n)
unfolding lines
each_lines Q g zero f = tt
each_lines Q g (suc n) f = each_more Q (lines g n) (g n) (each_lines Q g n (λ i l. f i (omega (arith, l)))) (f n (omega arith))

pub each_named : (Q : Line → Type 0) (g : List ℕ → List ℕ) (xs : List (List ℕ)) (ws : List ℕ) → ((i w : ℕ) (x : List ℕ) → slice_get xs i ≡ Some x → Q (g x, w)) → Each Q (named (map g xs) ws)
each_named Q g [] ws f = tt
each_named Q g (x ∷ xs) [] f = tt
each_named Q g (x ∷ xs) (w ∷ ws) f = (f 0 w x refl, each_named Q g xs ws (λ i v y e. f (suc i) v y e))

pub apart_by : (P Q : Line → Type 0) (xs ys : List Line) → Each P xs → Each Q ys → ((x y : Line) → P x → Q y → Other x y) → Apart xs ys
apart_by P Q xs ys a b f = each_weaker P (λ x. Each (Other x) ys) xs (λ x p. each_weaker Q (Other x) ys (λ y q. f x y p q) b) a

pub differ_more : (xs ys : List Line) → Differ xs → Differ ys → Apart xs ys → Differ (xs ++ ys)
differ_more [] ys a b f = b
differ_more (x ∷ xs) ys a b f = (each_more (Other x) xs ys a.0 f.0, differ_more xs ys a.1 b f.1)

pub differ_cond : (b : Bool) (xs : List Line) → Differ xs → Differ (cond b xs [])
differ_cond true xs a = a
differ_cond false xs a = tt

pub differ_named : (g back : List ℕ → List ℕ) (xs : List (List ℕ)) (ws : List ℕ) → ((x : List ℕ) → back (g x) ≡ x)
    → ((i j : ℕ) (x : List ℕ) → slice_get xs i ≡ Some x → slice_get xs j ≡ Some x → i ≡ j) → Differ (named (map g xs) ws)
differ_named g back [] ws e f = tt
differ_named g back (x ∷ xs) [] e f = tt
differ_named g back (x ∷ xs) (w ∷ ws) e f = (
  each_named (Other (g x, w)) g xs ws (λ i v y q same. let z : x ≡ y = sym (e x) ∙ ap back same ∙ e y in let n = f 0 (suc i) y (ap Some z) q in absurd (omega (arith, n))),
  differ_named g back xs ws e (λ i j y p q. let n = f (suc i) (suc j) y p q in omega (arith, n)),
)

-- ---- heads, and what names are of

-- the heads in an order, each with a number
abbrev number_in : List (List ℕ) → List ℕ → ℕ
number_in [] x = 0
number_in (h ∷ hs) x = cond (bytes_eq x h) 0 (suc (number_in hs x))

abbrev pub head_of : List ℕ → ℕ
head_of x =
    number_in
    (codes "start" ∷ codes "in"
    ∷ codes "run" ∷ codes "fin" ∷ codes "res" ∷ codes "at" ∷ codes "arg"
    ∷ codes "sent" ∷ codes "got" ∷ codes "keep"
    ∷ codes "end" ∷ codes "loop"
    ∷ codes "want" ∷ codes "ret" ∷ codes "arb" ∷ codes "go"
    ∷ [])
    (before_mark x)

abbrev pub key_of : List ℕ → List ℕ
key_of x = before_mark (after_mark x)

-- a good name with one of these heads, of this
pub record Belongs (low high : ℕ) (key x : List ℕ) : Type 0 where
  pub good : is_good x ≡ true
  pub least : low ≤ head_of x
  pub most : head_of x < high
  pub key_is : key_of x ≡ key

-- a good name with one of these heads
pub record Between (low high : ℕ) (x : List ℕ) : Type 0 where
  pub good : is_good x ≡ true
  pub least : low ≤ head_of x
  pub most : head_of x < high

pub between_of : (low high : ℕ) (key x : List ℕ) → Belongs low high key x → Between low high x
between_of low high key x b = record { good = b.good; least = b.least; most = b.most }

pub heads_apart : (a b c d : ℕ) (xs ys : List Line) → b ≤ c → Each (λ l. Between a b l.0) xs → Each (λ l. Between c d l.0) ys → Apart xs ys
heads_apart a b c d xs ys l p q =
    apart_by (λ l. Between a b l.0) (λ l. Between c d l.0) xs ys p q (λ x y h k e. let s = ap head_of e in let m = h.most in let n = k.least in absurd (omega (arith, s, m, n, l)))

pub headed : (low high number : ℕ) (h x : List ℕ) → IsPiece x → is_identifier (h ++ x) ≡ are_parts x → length h ≤ 8 → is_reserved (h ++ x) ≡ false →
    head_of (h ++ x) ≡ number → low ≤ number → number < high → after_mark (h ++ x) ≡ x → Belongs low high x (h ++ x)
headed low high number h x p i l r e a b t =
    let s = p.short in
    record {
      good = good_headed h x i l r (piece_parts x p) (omega (arith, s));
      least = omega (arith, e, a);
      most = omega (arith, e, b);
      key_is = ap before_mark t ∙ piece_whole x p.all;
    }

-- lines of functions or sites, each of which has lines of its own
pub differ_lines : (low high : ℕ) (g : ℕ → List Line) (key : ℕ → List ℕ) (n : ℕ)
    → ((i : ℕ) → i < n → Differ (g i)) → ((i : ℕ) → i < n → Each (λ l. Belongs low high (key i) l.0) (g i)) → ((i j : ℕ) → i < n → j < n → key i ≡ key j → i ≡ j) → Differ (lines g n)
unfolding lines
differ_lines low high g key zero a b f = tt
differ_lines low high g key (suc n) a b f =
    differ_more (lines g n) (g n)
    (differ_lines low high g key n (λ i l. a i (omega (arith, l))) (λ i l. b i (omega (arith, l))) (λ i j l m e. f i j (omega (arith, l)) (omega (arith, m)) e))
    (a n (omega arith))
    (apart_by (λ l. key_of l.0 ≡ key n → ⊥) (λ l. Belongs low high (key n) l.0) (lines g n) (g n)
    (each_lines (λ l. key_of l.0 ≡ key n → ⊥) g n
    (λ i l. each_weaker (λ x. Belongs low high (key i) x.0) (λ x. key_of x.0 ≡ key n → ⊥) (g i)
    (λ x h e. let same = f i n (omega (arith, l)) (omega arith) (sym h.key_is ∙ e) in absurd (omega (arith, same, l)))
    (b i (omega (arith, l)))))
    (b n (omega arith))
    (λ x y h k e. h (ap key_of e ∙ k.key_is)))
