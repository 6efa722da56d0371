-- One token.
use Rattle.std.proofs.Common.{◌≡◌, ℕ, ◌≤◌, Bool, true, false, cond, List, [], ◌∷◌, ◌++◌, length, Option, Some, Ok, Err, refl, sym, ap, subst, ◌∙◌, inl, inr, length-append, arith}
use Rattle.safl_grammar.specs.Sets.{Set, Every, Only, within}
use Rattle.safl_grammar.specs.Syntax.{Rule, Deep, Unexpected, Range, Syntax, token, limited}
use Rattle.safl_grammar.specs.Reading.{Read, ◌>>=◌, head_of, taken, checked, read_token, read_limited}
use Rattle.safl_grammar.proofs.Parses.{Parses, At, IsLimit, Ends, NotBefore, Past, rank, Stops, value, fault, ok_parts, err_parts, bind_ok, bind_err}
use Rattle.safl_grammar.proofs.Parses.{taken_ok, taken_bad, token_ends, token_begins, token_shorter, ok_ends, ok_past, left, past_left}

token_done : {T A : Type 0} (class : T → Option A) (w r : List T) (x : A) → read_token class w ≡ Ok (x, r) → (u : List T) × (w ≡ u ++ r) × (token class).derives u x
token_done class [] r x e = absurd cc
token_done class (t ∷ ts) r x e =
    let p = taken_ok (class t) ts (t ∷ ts) r x e in
    (t ∷ [], ap (λ (l : List _). t ∷ l) p.1, (t, refl, p.0))

token_bad : {T A : Type 0} (class : T → Option A) (w r : List T) (e : Rule) → read_token class w ≡ Err (e, r) → (Unexpected ≡ e) × (w ≡ r)
token_bad {T} {A} class [] r e h = err_parts {T = T} {A = A} Unexpected e [] r h
token_bad class (t ∷ ts) r e h = taken_bad (class t) ts (t ∷ ts) r e h

at_unexpected : {T A : Type 0} (s : Syntax T A) (e : Rule) (u r : List T) → Unexpected ≡ e → At s e u r
at_unexpected s e u r h = subst (λ (e : Rule). At s e u r) h tt

token_left : {T A : Type 0} (class : T → Option A) (w : List T) (y : Read T A) → read_token class w ≡ y → length (left y) ≤ length w
token_left class w (Ok y) e = let d = token_done class w y.1 y.0 e in omega (arith, ap length d.1, length-append d.0 y.1)
token_left class w (Err f) e = let d = token_bad class w f.1 f.0 e in omega (arith, ap length d.1)

token_past : {T A : Type 0} (class : T → Option A) (u r : List T) → (token class).begins u → Past (read_token class (u ++ r)) r
token_past class u r (inl e) =
    subst (λ (u : List _). Past (read_token class (u ++ r)) r) (sym e) (past_left (read_token class r) r (token_left class r (read_token class r) refl))
token_past class u r (inr (t, x, e, c)) = ok_past (read_token class (u ++ r)) x r (token_ends class u r x (t, e, c))

pub parses_token : {T A : Type 0} (code : Option T → ℕ) (class : T → Option A) (G : Set) →
    ((t : T) (x : A) → class t ≡ Some x → within G (code (Some t)) ≡ true) → Parses code (read_token class) (token class) (token class) false G (Only []) Every
parses_token {T} {A} code class G g = record {
  done = λ w r x e. token_done class w r x e;
  bad = λ w r e h. let p = token_bad class w r e h in ([], p.1, inl refl, at_unexpected (token class) e [] r p.0);
  empty = inl refl;
  covered = λ u x d. inr (d.0, x, d.1, d.2);
  shorter = λ u v b. token_shorter class u v b;
  firm = λ n x d. let e : [] ≡ d.0 ∷ [] = d.1 in absurd cc;
  solid = λ n x d. let e : [] ≡ d.0 ∷ [] = d.1 in absurd cc;
  whole = λ u x d. inr (d.0, x, d.1, d.2);
  starts = λ t v b. token_begins class (λ t. within G (code (Some t)) ≡ true) g t v b;
  limits = λ e t u h l. absurd l;
  opens = λ e h l. absurd l;
  ends = λ u r x d f. ok_ends (read_token class (u ++ r)) x r (token_ends class u r x d);
  past = λ u r b. token_past class u r b;
  limit = λ e u r l. absurd l;
}

-- ---- with a limit

checked_ok : {T A : Type 0} (b : Bool) (rule : Rule) (x : A × List T) (all : List T) (y : A) (r : List T) → cond b (Ok x) (Err (rule, all)) ≡ value y r → (x.0 ≡ y) × (x.1 ≡ r)
checked_ok true rule x all y r e = ok_parts x.0 y x.1 r e
checked_ok false rule x all y r e = absurd cc

checked_bad : {T A : Type 0} (b : Bool) (rule : Rule) (x : A × List T) (all : List T) (e : Rule) (r : List T) → cond b (Ok x) (Err (rule, all)) ≡
    fault {T = T} {A = A} e r → (b ≡ false) × (rule ≡ e) × (all ≡ r)
checked_bad true rule x all e r h = absurd cc
checked_bad {T} {A} false rule x all e r h = let p = err_parts {T = T} {A = A} rule e all r h in (refl, p.0, p.1)

module _ {T A : Type 0} (code : Option T → ℕ) (rule : Rule) (is_limit : IsLimit rule) (fits : A → Bool) (class : T → Option A) (G : Set)
    (g : (t : T) (x : A) → class t ≡ Some x → within G (code (Some t)) ≡ true) where
  lim : Syntax T A
  lim = limited rule fits class

  limited_done : (w r : List T) (x : A) → read_limited rule fits class w ≡ Ok (x, r) → (u : List T) × (w ≡ u ++ r) × (limited rule fits class).derives u x
  limited_done w r x e =
      let b = bind_ok (read_token class w) (checked rule fits w) (x, r) e in
      let k = checked_ok (fits b.0.0) rule b.0 w x r b.2 in
      let d = token_done class w b.0.1 b.0.0 b.1 in
      (d.0, d.1 ∙ ap (λ (l : List T). d.0 ++ l) k.1, (d.2.0, d.2.1, d.2.2 ∙ ap Some k.0))

  at_limit : (e : Rule) (t : T) (ts : List T) (x : A) → rule ≡ e → class t ≡ Some x → fits x ≡ false → At (limited rule fits class) e [] (t ∷ ts)
  at_limit Deep t ts x i c f = (sym i, refl, (t, x, refl, c, f))
  at_limit Unexpected t ts x i c f = tt
  at_limit Range t ts x i c f = ((sym i, refl, (t, x, refl, c, f)), inr (t, x, refl, c))

  at_token : (e : Rule) (w r u : List T) (x : A) → w ≡ u ++ r → (token class).derives u x → rule ≡ e → fits x ≡ false → At (limited rule fits class) e [] w
  at_token e w r u x i (t, j, c) n f = subst (λ (l : List T). At (limited rule fits class) e [] l) (sym (i ∙ ap (λ (l : List T). l ++ r) j)) (at_limit e t r x n c f)

  limited_bad : (w r : List T) (e : Rule) → read_limited rule fits class w ≡ Err (e, r) → (u : List T) × (w ≡ u ++ r) × (limited rule fits class).begins u × At (limited rule fits class) e u r
  limited_bad w r e h =
      elim (bind_err (read_token class w) (checked rule fits w) (e, r) h) [
        | inl b ↦ let p = token_bad class w r e b in ([], p.1, inl refl, at_unexpected (limited rule fits class) e [] r p.0)
        | inr b ↦
            let k = checked_bad (fits b.0.0) rule b.0 w e r b.2 in
            let d = token_done class w b.0.1 b.0.0 b.1 in
            ([], k.2, inl refl, subst (λ (l : List T). At (limited rule fits class) e [] l) k.2 (at_token e w b.0.1 d.0 b.0.0 d.1 d.2 k.1 k.0))
      ]

  -- what is read where a token of the class stands
  at_class : (t : T) (r : List T) (x : A) → class t ≡ Some x → read_limited rule fits class (t ∷ r) ≡ cond (fits x) (Ok (x, r)) (Err (rule, t ∷ r))
  at_class t r x c = ap (λ (o : Option A). taken o r (t ∷ r) >>= checked rule fits (t ∷ r)) c

  limited_ends : (u r : List T) (x : A) → (limited rule fits class).derives u x → Ends (read_limited rule fits class (u ++ r)) x r
  limited_ends u r x (t, i, c) =
      subst (λ (y : Read T A). Ends y x r) (sym (ap (λ (l : List T). read_limited rule fits class (l ++ r)) i ∙ at_class t r x c)) (both (fits x))
    where
      both : (b : Bool) → Ends (cond b (Ok (x, r)) (Err (rule, t ∷ r))) x r
      both true = (refl, refl)
      both false = (is_limit, omega arith)

  limit_past : (e : Rule) (r' r : List T) → IsLimit e → NotBefore e r' r
  limit_past Unexpected r' r h = absurd h
  limit_past Deep r' r h = tt
  limit_past Range r' r h = tt

  past_of : (y : Read T A) (x : A) (r : List T) → Ends y x r → Past y r
  past_of (Ok y) x r h = omega (arith, ap length h.1)
  past_of (Err f) x r h = limit_past f.0 f.1 r h.0

  none_left : (w : List T) (y : Read T A) → read_limited rule fits class w ≡ y → length (left y) ≤ length w
  none_left w (Ok y) e = let d = limited_done w y.1 y.0 e in omega (arith, ap length d.1, length-append d.0 y.1)
  none_left w (Err f) e = let d = limited_bad w f.1 f.0 e in omega (arith, ap length d.1, length-append d.0 f.1)

  limited_past : (u r : List T) → (limited rule fits class).begins u → Past (read_limited rule fits class (u ++ r)) r
  limited_past u r (inl e) = subst (λ (u : List T). Past (read_limited rule fits class (u ++ r)) r) (sym e)
      (past_left (read_limited rule fits class r) r (none_left r (read_limited rule fits class r) refl))
  limited_past u r (inr (t, x, e, c)) = past_of (read_limited rule fits class (u ++ r)) x r (limited_ends u r x (t, e, c))

  stops_at : (e : Rule) (r : List T) (t : T) (x : A) → e ≡ rule → head_of r ≡ Some t → class t ≡ Some x → fits x ≡ false → Stops e (read_limited rule fits class r) r
  stops_at e [] t x i j c f = absurd cc
  stops_at e (a ∷ r) t x i j c f =
      let same : class a ≡ Some x = ap class (some_is j) ∙ c in
      let is : read_limited rule fits class (a ∷ r) ≡ Err (rule, a ∷ r) = at_class a r x same ∙ ap (λ (b : Bool). cond b (value x r) (Err (rule, a ∷ r))) f in
      subst (λ (y : Read T A). Stops e y (a ∷ r)) (sym is) (inr (refl, subst (λ (n : ℕ). rank rule ≤ n) (sym (ap rank i)) (omega arith)))
    where
      some_is : Some a ≡ Some t → a ≡ t
      some_is e = cc

  limited_limit : (e : Rule) (u r : List T) → (limited rule fits class).passes e u (head_of r) → Stops e (read_limited rule fits class (u ++ r)) r
  limited_limit e u r (i, j, (t, x, h, c, f)) = subst (λ (u : List T). Stops e (read_limited rule fits class (u ++ r)) r) (sym j) (stops_at e r t x i h c f)

  pub parses_limited : Parses code (read_limited rule fits class) (limited rule fits class) (limited rule fits class) false G G Every
  parses_limited = record {
    done = λ w r x e. limited_done w r x e;
    bad = λ w r e h. limited_bad w r e h;
    empty = inl refl;
    covered = λ u x d. inr (d.0, x, d.1, d.2);
    shorter = λ u v b. token_shorter class u v b;
    firm = λ n x d. let e : [] ≡ d.0 ∷ [] = d.1 in absurd cc;
    solid = λ n x d. let e : [] ≡ d.0 ∷ [] = d.1 in absurd cc;
    whole = λ u x d. inr (d.0, x, d.1, d.2);
    starts = λ t v b. token_begins class (λ t. within G (code (Some t)) ≡ true) g t v b;
    limits = λ e t u h l. let i : t ∷ u ≡ [] = l.1 in absurd cc;
    opens = λ e h l. subst (λ (h : Option T). within G (code h) ≡ true) (sym l.2.2) (g l.2.0 l.2.1 l.2.3);
    ends = λ u r x d f. limited_ends u r x d;
    past = λ u r b. limited_past u r b;
    limit = λ e u r l. limited_limit e u r l;
  }
