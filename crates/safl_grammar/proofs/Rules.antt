-- The laws of the combinators, with what antt can find left out.
use Rattle.std.proofs.Common.{◌≡◌, ℕ, Bool, true, false, cond, [], Option}
use Rattle.safl_grammar.specs.Sets.{Set, Only, within, subset, apart, union, union_if}
use Rattle.safl_grammar.specs.Syntax.{Syntax, follows, either, without_begin, any_turns}
use Rattle.safl_grammar.specs.Reading.{Reading, read_follows, read_either, read_many}
use Rattle.safl_grammar.proofs.Parses.{Parses, parses_within}
use Rattle.safl_grammar.proofs.Follows.{parses_follows}
use Rattle.safl_grammar.proofs.Either.{parses_either, parses_either_unless}
use Rattle.safl_grammar.proofs.Many.{parses_many}

pub then : {T A B : Type 0} {code : Option T → ℕ} {p : Reading T A} {s c : Syntax T A} {N1 : Bool} {G1 L1 F1 : Set} {q : A → Reading T B}
    {f g : A → Syntax T B} {N2 : Bool} {G2 L2 F : Set} → Parses code p s c N1 G1 L1 F1 → ((x : A) → Parses code (q x) (f x) (g x) N2 G2 L2 F) → subset
    (union_if N2 G2 F) F1 ≡ true → subset L2 F1 ≡ true → Parses code (read_follows p q) (follows s f) (follows c g) (cond N1 N2 false)
    (union_if N1 G1 G2) (union_if N1 L1 L2) F
then {code = code} {p = p} {s = s} {c = c} {N1 = N1} {G1 = G1} {L1 = L1} {F1 = F1} {q = q} {f = f} {g = g} {N2 = N2} {G2 = G2} {L2 = L2} {F = F} first
    second a b = parses_follows code p s c N1 G1 L1 F1 q f g N2 G2 L2 F first second a b

pub or_else : {T A : Type 0} {code : Option T → ℕ} {p q : Reading T A} {s c t d : Syntax T A} {G1 L1 F : Set} {N2 : Bool} {G2 L2 : Set} (test : Set) →
    Parses code p s c false G1 L1 F → Parses code q t d N2 G2 L2 F → subset G1 test ≡ true → subset L1 test ≡ true → apart (union_if N2 G2 F) test ≡
    true → apart L2 test ≡ true → Parses code (read_either (λ h. within test (code h)) p q) (either s t) (either c d) N2 (union G1 G2) (union L1 L2) F
or_else {code = code} {p = p} {q = q} {s = s} {c = c} {t = t} {d = d} {G1 = G1} {L1 = L1} {F = F} {N2 = N2} {G2 = G2} {L2 = L2} test first second a b
    e f = parses_either code test p q s c G1 L1 F t d N2 G2 L2 first second a b e f

pub or_unless : {T A : Type 0} {code : Option T → ℕ} {p q : Reading T A} {s c t d : Syntax T A} {G1 L1 F : Set} {N2 : Bool} {G2 L2 : Set} (test : Set)
    → Parses code p s c false G1 L1 F → Parses code q t d N2 G2 L2 F → subset G1 test ≡ true → subset L1 test ≡ true → apart (union_if N2 G2 F) test ≡
    true → Parses code (read_either (λ h. within test (code h)) p q) (either s (without_begin (λ h. within test (code h)) t))
    (either c (without_begin (λ h. within test (code h)) d)) N2 (union G1 G2) (union L1 L2) F
or_unless {code = code} {p = p} {q = q} {s = s} {c = c} {t = t} {d = d} {G1 = G1} {L1 = L1} {F = F} {N2 = N2} {G2 = G2} {L2 = L2} test first second a
    b e = parses_either_unless code test p q s c G1 L1 F t d N2 G2 L2 first second a b e

pub repeated : {T A : Type 0} {code : Option T → ℕ} {go : A → Reading T A} {s c : A → Syntax T A} {G L F1 : Set} (test F : Set) →
    ((a : A) → Parses code (go a) (s a) (c a) false G L F1) → subset (union G F) F1 ≡ true → subset L F1 ≡ true → subset G test ≡ true → subset L test
    ≡ true → apart (union (Only []) F) test ≡ true → apart F test ≡ true → subset (union G (Only [])) G ≡ true → subset (union L (Only [])) L ≡ true →
    subset F F ≡ true → (a : A) → Parses code (read_many (λ h. within test (code h)) go a) (any_turns s a) (any_turns c a) true G L F
repeated {code = code} {go = go} {s = s} {c = c} {G = G} {L = L} {F1 = F1} test F each a b d e f h i j k = parses_many code test go s c G L F1 G L F each a b d e f h i j k

pub narrowed : {T A : Type 0} {code : Option T → ℕ} {p : Reading T A} {s c : Syntax T A} {N : Bool} {G L F : Set} (G' L' F' : Set) → Parses code p s c
    N G L F → subset G G' ≡ true → subset L L' ≡ true → subset F' F ≡ true → Parses code p s c N G' L' F'
narrowed {code = code} {p = p} {s = s} {c = c} {N = N} {G = G} {L = L} {F = F} G' L' F' h a b d = parses_within code p s c N G L F G' L' F' a b d h
