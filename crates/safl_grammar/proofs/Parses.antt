-- A reading that answers as a syntax says, in both directions.
use Rattle.std.proofs.Common.{◌≡◌, ℕ, ◌≤◌, ◌<◌, Bool, true, false, List, [], ◌∷◌, ◌++◌, length, Option, Some, None, Ok, Err, refl, sym, ap, subst, ◌∙◌, inl, inr, length-append, arith}
use Rattle.std.specs.Prelude.{◌⊎◌}
use Rattle.safl_grammar.specs.Sets.{Set, Only, within, subset}
use Rattle.safl_grammar.specs.Syntax.{Rule, Deep, Unexpected, Range, Syntax, nothing, token}
use Rattle.safl_grammar.specs.Reading.{Read, Reading, ◌>>=◌, head_of, taken, read_nothing, read_token}
use Rattle.safl_grammar.proofs.Sets.{subset_within}

-- the token after these, or what comes first of these
abbrev pub lead : {T : Type 0} → List T → Option T → Option T
lead [] h = h
lead (t ∷ ts) h = Some t

abbrev pub Next : {T A : Type 0} → Syntax T A → List T → List T → Type 0
Next s u [] = ⊥
Next s u (t ∷ r) = s.begins (u ++ t ∷ [])

-- the fault is of this rule
abbrev pub At : {T A : Type 0} → Syntax T A → Rule → List T → List T → Type 0
At s Deep u r = s.passes Deep u (head_of r)
At s Unexpected u r = Unit {0}
At s Range u r = s.passes Range u (head_of r) × Next s u r

-- limits are passed before the end at the latest, or this is the answer
abbrev pub IsLimit : Rule → Type 0
IsLimit Unexpected = ⊥
IsLimit Deep = Unit {0}
IsLimit Range = Unit {0}

abbrev pub Ends : {T A : Type 0} → Read T A → A → List T → Type 0
Ends (Ok y) x r = (y.0 ≡ x) × (y.1 ≡ r)
Ends (Err f) x r = IsLimit f.0 × (length r < length f.1)

-- nothing unexpected is found before the rest
abbrev pub NotBefore : {T : Type 0} → Rule → List T → List T → Type 0
NotBefore Unexpected r' r = length r' ≤ length r
NotBefore Deep r' r = Unit {0}
NotBefore Range r' r = Unit {0}

abbrev pub Past : {T A : Type 0} → Read T A → List T → Type 0
Past (Ok y) r = length y.1 ≤ length r
Past (Err f) r = NotBefore f.0 f.1 r

abbrev pub rank : Rule → ℕ
rank Deep = 0
rank Unexpected = 1
rank Range = 2

abbrev pub Stops : {T A : Type 0} → Rule → Read T A → List T → Type 0
Stops e (Ok y) r = ⊥
Stops e (Err f) r = (length r < length f.1) ⊎ ((length r ≡ length f.1) × (rank f.0 ≤ rank e))

-- The reading p is sound for s and complete for c; N says whether c may be empty, a text of c begins within G, a limit of c is passed
-- before its first token within L, and what comes after a text is within F.
pub record Parses {T A : Type 0} (code : Option T → ℕ) (p : Reading T A) (s c : Syntax T A) (N : Bool) (G L F : Set) : Type 0 where
  pub done : (w r : List T) (x : A) → p w ≡ Ok (x, r) → (u : List T) × (w ≡ u ++ r) × s.derives u x
  pub bad : (w r : List T) (e : Rule) → p w ≡ Err (e, r) → (u : List T) × (w ≡ u ++ r) × s.begins u × At s e u r
  pub empty : s.begins []
  pub covered : (u : List T) (x : A) → s.derives u x → s.begins u
  pub shorter : (u v : List T) → s.begins (u ++ v) → s.begins u
  pub firm : N ≡ false → (x : A) → s.derives [] x → ⊥
  pub solid : N ≡ false → (x : A) → c.derives [] x → ⊥
  pub whole : (u : List T) (x : A) → c.derives u x → c.begins u
  pub starts : (t : T) (v : List T) → c.begins (t ∷ v) → within G (code (Some t)) ≡ true
  pub limits : (e : Rule) (t : T) (u : List T) (h : Option T) → c.passes e (t ∷ u) h → within G (code (Some t)) ≡ true
  pub opens : (e : Rule) (h : Option T) → c.passes e [] h → within L (code h) ≡ true
  pub ends : (u r : List T) (x : A) → c.derives u x → within F (code (head_of r)) ≡ true → Ends (p (u ++ r)) x r
  pub past : (u r : List T) → c.begins u → Past (p (u ++ r)) r
  pub limit : (e : Rule) (u r : List T) → c.passes e u (head_of r) → Stops e (p (u ++ r)) r

-- ---- steps

pub bind_ok : {T A B : Type 0} (r : Read T A) (f : A × List T → Read T B) (y : B × List T) → (r >>= f) ≡ Ok y → (x : A × List T) × (r ≡ Ok x) × (f x ≡ Ok y)
bind_ok (Ok x) f y e = (x, refl, e)
bind_ok (Err d) f y e = absurd cc

pub bind_err : {T A B : Type 0} (r : Read T A) (f : A × List T → Read T B) (y : Rule × List T) → (r >>= f) ≡ Err y → (r ≡ Err y) ⊎ ((x : A × List T) × (r ≡ Ok x) × (f x ≡ Err y))
bind_err (Ok x) f y e = inr (x, refl, e)
bind_err (Err d) f y e = inl (cc)

abbrev pub value : {T A : Type 0} → A → List T → Read T A
value x r = Ok (x, r)

abbrev pub fault : {T A : Type 0} → Rule → List T → Read T A
fault e r = Err (e, r)

pub ok_parts : {T A : Type 0} (x y : A) (r r' : List T) → value x r ≡ value y r' → (x ≡ y) × (r ≡ r')
ok_parts {T} {A} x y r r' e =
    let p : ◌≡◌ {A = A × List T} (x, r) (y, r') = pair e in
    (ap (λ (p : A × List T). p.0) p, ap (λ (p : A × List T). p.1) p)
  where
    pair : value x r ≡ value y r' → ◌≡◌ {A = A × List T} (x, r) (y, r')
    pair e = cc

pub err_parts : {T A : Type 0} (d e : Rule) (r r' : List T) → fault {T = T} {A = A} d r ≡ fault {T = T} {A = A} e r' → (d ≡ e) × (r ≡ r')
err_parts {T} {A} d e r r' h =
    let p : ◌≡◌ {A = Rule × List T} (d, r) (e, r') = pair h in
    (ap (λ (p : Rule × List T). p.0) p, ap (λ (p : Rule × List T). p.1) p)
  where
    pair : fault {T = T} {A = A} d r ≡ fault {T = T} {A = A} e r' → ◌≡◌ {A = Rule × List T} (d, r) (e, r')
    pair h = cc

pub taken_ok : {T A : Type 0} (o : Option A) (rest all r : List T) (x : A) → taken o rest all ≡ Ok (x, r) → (o ≡ Some x) × (rest ≡ r)
taken_ok None rest all r x e = absurd cc
taken_ok (Some y) rest all r x e = let p = ok_parts y x rest r e in (ap Some p.0, p.1)

pub taken_bad : {T A : Type 0} (o : Option A) (rest all r : List T) (e : Rule) → taken o rest all ≡ Err (e, r) → (Unexpected ≡ e) × (all ≡ r)
taken_bad {T} {A} None rest all r e h = err_parts {T = T} {A = A} Unexpected e all r h
taken_bad (Some y) rest all r e h = absurd cc

-- ---- what a reading leaves is no more than it was given

abbrev pub left : {T A : Type 0} → Read T A → List T
left (Ok y) = y.1
left (Err f) = f.1

pub shrinks : {T A : Type 0} (code : Option T → ℕ) (p : Reading T A) (s c : Syntax T A) (N : Bool) (G L F : Set) → Parses code p s c N G L F →
    (w : List T) (y : Read T A) → p w ≡ y → length (left y) ≤ length w
shrinks code p s c N G L F h w (Ok y) e = let d = h.done w y.1 y.0 e in omega (arith, ap length d.1, length-append d.0 y.1)
shrinks code p s c N G L F h w (Err f) e = let d = h.bad w f.1 f.0 e in omega (arith, ap length d.1, length-append d.0 f.1)

pub past_left : {T A : Type 0} (y : Read T A) (r : List T) → length (left y) ≤ length r → Past y r
past_left (Ok y) r h = h
past_left (Err f) r h = not_before f.0 f.1 r h
  where
    not_before : {T : Type 0} (e : Rule) (r' r : List T) → length r' ≤ length r → NotBefore e r' r
    not_before Unexpected r' r h = h
    not_before Deep r' r h = tt
    not_before Range r' r h = tt

-- nothing was begun
pub past_none : {T A : Type 0} (code : Option T → ℕ) (p : Reading T A) (s c : Syntax T A) (N : Bool) (G L F : Set) → Parses code p s c N G L F → (r : List T) → Past (p r) r
past_none code p s c N G L F h r = past_left (p r) r (shrinks code p s c N G L F h r (p r) refl)

-- ---- two ways to cut a list

pub nil_front : {T : Type 0} (u v : List T) → u ++ v ≡ [] → u ≡ []
nil_front [] v e = refl
nil_front (t ∷ u) v e = absurd cc

pub cuts : {T : Type 0} (u v a b : List T) → u ++ v ≡ a ++ b → ((z : List T) × (a ≡ u ++ z)) ⊎ ((z : List T) × (u ≡ a ++ z) × (b ≡ z ++ v))
cuts [] v a b e = inl (a, refl)
cuts (x ∷ u) v [] b e = inr (x ∷ u, refl, sym e)
cuts (x ∷ u) v (y ∷ a) b e =
    let same : x ≡ y = cc in
    let rest : u ++ v ≡ a ++ b = cc in
    elim (cuts u v a b rest) [
      | inl c ↦ let i : y ∷ a ≡ (x ∷ u) ++ c.0 = ap (λ (l : List _). y ∷ l) c.1 ∙ ap (λ h. h ∷ (u ++ c.0)) (sym same) in inl (c.0, i)
      | inr c ↦ let i : x ∷ u ≡ (y ∷ a) ++ c.0 = ap (λ (l : List _). x ∷ l) c.1 ∙ ap (λ h. h ∷ (a ++ c.0)) same in inr (c.0, i, c.2)
    ]

-- ---- no token, and one

pub parses_nothing : {T A : Type 0} (code : Option T → ℕ) (x : A) (F : Set) → Parses code (read_nothing x) (nothing x) (nothing x) true (Only []) (Only []) F
parses_nothing {T} {A} code x F = record {
  done = λ w r y e. let p = ok_parts x y w r e in ([], p.1, (refl, p.0));
  bad = λ w r e h. absurd cc;
  empty = refl;
  covered = λ u y d. d.0;
  shorter = λ u v e. nil_front u v e;
  firm = λ e. absurd cc;
  solid = λ e. absurd cc;
  whole = λ u y d. d.0;
  starts = λ t v b. absurd cc;
  limits = λ e t u h l. absurd l;
  opens = λ e h l. absurd l;
  ends = λ u r y d f. (d.1, ap (λ (l : List T). l ++ r) d.0);
  past = λ u r b. omega (arith, length-append u r, ap length b);
  limit = λ e u r l. absurd l;
}

pub token_ends : {T A : Type 0} (class : T → Option A) (u r : List T) (x : A) → (token class).derives u x → read_token class (u ++ r) ≡ Ok (x, r)
token_ends {T} {A} class u r x d =
    ap (λ (l : List T). read_token class (l ++ r)) d.1 ∙ ap (λ (o : Option A). taken o r (d.0 ∷ r)) d.2

pub token_begins : {T A : Type 0} (class : T → Option A) (G : T → Type 0) → ((t : T) (x : A) → class t ≡ Some x → G t) → (t : T) (v : List T) → (token class).begins (t ∷ v) → G t
token_begins class G g t v (inl e) = absurd cc
token_begins {T} {A} class G g t v (inr (t', x, e, c)) =
    let same : t ≡ t' = cc in
    subst (λ (t : T). G t) (sym same) (g t' x c)

pub ok_ends : {T A : Type 0} (y : Read T A) (x : A) (r : List T) → y ≡ Ok (x, r) → Ends y x r
ok_ends y x r e = subst (λ (y : Read _ _). Ends y x r) (sym e) (refl, refl)

pub ok_past : {T A : Type 0} (y : Read T A) (x : A) (r : List T) → y ≡ Ok (x, r) → Past y r
ok_past y x r e = subst (λ (y : Read _ _). Past y r) (sym e) (omega arith)

-- what begins it may be said to be more, and what comes after it less
pub parses_within : {T A : Type 0} (code : Option T → ℕ) (p : Reading T A) (s c : Syntax T A) (N : Bool) (G L F G' L' F' : Set) → subset G G' ≡ true →
    subset L L' ≡ true → subset F' F ≡ true → Parses code p s c N G L F → Parses code p s c N G' L' F'
parses_within code p s c N G L F G' L' F' more opening less h = record {
  done = h.done;
  bad = h.bad;
  empty = h.empty;
  covered = h.covered;
  shorter = h.shorter;
  firm = h.firm;
  solid = h.solid;
  whole = h.whole;
  starts = λ t v b. subset_within G G' (code (Some t)) more (h.starts t v b);
  limits = λ e t u o l. subset_within G G' (code (Some t)) more (h.limits e t u o l);
  opens = λ e o l. subset_within L L' (code o) opening (h.opens e o l);
  ends = λ u r x d f. h.ends u r x d (subset_within F' F (code (head_of r)) less f);
  past = h.past;
  limit = h.limit;
}

pub token_shorter : {T A : Type 0} (class : T → Option A) (u v : List T) → (token class).begins (u ++ v) → (token class).begins u
token_shorter class u v (inl e) = inl (nil_front u v e)
token_shorter class [] v (inr b) = inl refl
token_shorter class (a ∷ u) v (inr (t, x, e, c)) =
    let same : a ≡ t = cc in
    let none : u ++ v ≡ [] = cc in
    let i : a ∷ u ≡ t ∷ [] = ap (λ (l : List _). a ∷ l) (nil_front u v none) ∙ ap (λ h. h ∷ []) same in
    inr (t, x, i, c)
