-- A text is cut in one way only.
use Rattle.safl_word.proofs.Common.{EndsRun, Rule, TokenKind}
use Rattle.std.proofs.Common.{◌≡◌, ◌≢◌, ℕ, ◌≤◌, List, [], ◌∷◌, ◌++◌, length, true, false, not, ◌==◌, refl, sym, ◌∙◌, ap, subst, arith, append_assoc, length-append}
use Rattle.safl_word.specs.Tokens.{is_blank, IsLexeme, name_like, number_like, sized_like, symbol_like, IsToken, IsLongest}
use Rattle.safl_word.specs.Tokens.{Piece, Blank, Comment, Lexeme, text_of, text_of_all, EndsLine, StandsBefore, StandAll, IsBrokenAt, HasLexicalFault}
use Rattle.safl_word.specs.Breaks.{IsTooLong, long_name, long_number, long_sized, IsForeign, BeginsTooLong, BreaksAtFirst, BreaksAt}
use Rattle.safl_word.specs.declared.fault.Rule.TheVariants as rules
use Rattle.safl_word.proofs.Runs.{same_run}
use Rattle.safl_word.proofs.BytesBegin.{name_no_blank, name_no_slash, digit_no_blank, digit_no_slash}
use Rattle.safl_word.proofs.Lexemes.{same_head, same_tail, sym_head, name_head, number_head, sized_head, else_blank, else_slash}
use Rattle.safl_word.proofs.Finds.{sym_some}
use Rattle.safl_word.proofs.OneKind.{token_like, kinds_agree, not_too_long}
use Rattle.safl_word.proofs.Lists.{append_parts}

-- a token begins with no blank
pub token_no_blank : (w v : List ℕ) (c : ℕ) (x : List ℕ) → IsLexeme w → w ++ v ≡ c ∷ x → is_blank c ≡ false
token_no_blank w v c x (name_like m) e = name_no_blank c (name_head w v c x m e)
token_no_blank w v c x (number_like m) e = digit_no_blank c (number_head w v c x m e)
token_no_blank w v c x (sized_like s q m) e = digit_no_blank c (sized_head s v c x m (subst (λ k. k ++ v ≡ c ∷ x) q e))
token_no_blank w v c x (symbol_like s q) e =
    else_blank c (sym_head s v c x (subst (λ k. k ++ v ≡ c ∷ x) q e))

-- and with no slash
pub token_no_slash : (w v : List ℕ) (c : ℕ) (x : List ℕ) → IsLexeme w → w ++ v ≡ c ∷ x → (c == 47) ≡ false
token_no_slash w v c x (name_like m) e = name_no_slash c (name_head w v c x m e)
token_no_slash w v c x (number_like m) e = digit_no_slash c (number_head w v c x m e)
token_no_slash w v c x (sized_like s q m) e = digit_no_slash c (sized_head s v c x m (subst (λ k. k ++ v ≡ c ∷ x) q e))
token_no_slash w v c x (symbol_like s q) e =
    else_slash c (sym_head s v c x (subst (λ k. k ++ v ≡ c ∷ x) q e))

blank_clash : (w v : List ℕ) (c : ℕ) (x : List ℕ) {A : Type 0} → IsLexeme w → w ++ v ≡ c ∷ x → is_blank c ≡ true → A
blank_clash w v c x l e h = let f = token_no_blank w v c x l e in cc

slash_clash : (w v : List ℕ) (x : List ℕ) {A : Type 0} → IsLexeme w → w ++ v ≡ 47 ∷ x → A
slash_clash w v x l e = let f = token_no_slash w v 47 x l e in cc

blank_slash : (c : ℕ) (u w : List ℕ) {A : Type 0} → is_blank c ≡ true → c ∷ u ≡ 47 ∷ w → A
blank_slash c u w h e = let k = ap is_blank (sym (same_head c 47 u w e)) ∙ h in cc

line_fails : (v : List ℕ) → EndsLine v → EndsRun (λ c. not (c == 10)) v
line_fails [] h = tt
line_fails (c ∷ v) h = ap (λ d. not (d == 10)) h

-- two tokens at one place, each the longest
pub tokens_agree : (j k : TokenKind) (w x u v : List ℕ) → IsToken j w → IsLongest w u → IsToken k x → IsLongest x v → w ++ u ≡ x ++ v → (j ≡ k) × (w ≡ x) × (u ≡ v)
tokens_agree j k w x u v a l b m e =
    let p = m w u e (token_like j w a) in
    let q = l x v (sym e) (token_like k x b) in
    let r = append_parts w u x v (omega arith) e in
    (kinds_agree j k x (subst (IsToken j) r.0 a) b, r.0, r.1)

pub pieces_agree : (x y : Piece) (u v : List ℕ) → StandsBefore x u → StandsBefore y v → text_of x ++ u ≡ text_of y ++ v → (x ≡ y) × (u ≡ v)
pieces_agree (Blank c) (Blank d) u v a b e = (ap Blank (same_head c d u v e), same_tail c d u v e)
pieces_agree (Blank c) (Comment w) u v a b e = blank_slash c u _ a e
pieces_agree (Blank c) (Lexeme k w) u v a b e = blank_clash w v c u (token_like k w b.0) (sym e) a
pieces_agree (Comment w) (Blank d) u v a b e = blank_slash d v _ b (sym e)
pieces_agree (Comment w) (Comment x) u v a b e =
    let t : w ++ u ≡ x ++ v = cc in
    let r = same_run (λ c. not (c == 10)) w u x v a.0 b.0 (line_fails u a.1) (line_fails v b.1) t in
    (ap Comment r.0, r.1)
pieces_agree (Comment w) (Lexeme k x) u v a b e = slash_clash x v _ (token_like k x b.0) (sym e)
pieces_agree (Lexeme j w) (Blank d) u v a b e = blank_clash w u d v (token_like j w a.0) e b
pieces_agree (Lexeme j w) (Comment x) u v a b e = slash_clash w u _ (token_like j w a.0) e
pieces_agree (Lexeme j w) (Lexeme k x) u v a b e =
    let r = tokens_agree j k w x u v a.0 a.1 b.0 b.1 e in
    (λ i. Lexeme (r.0 i) (r.1 i), r.2)

-- no piece stands at the front
unfoldable pub NoPiece : List ℕ → Type 0
NoPiece u = (x : Piece) (r : List ℕ) → text_of x ++ r ≡ u → StandsBefore x r → ⊥

no_cons : (c : ℕ) (w : List ℕ) {A : Type 0} → c ∷ w ≡ [] → A
no_cons c w e = cc

pub token_some : (w : List ℕ) → IsLexeme w → w ≢ []
token_some [] (name_like m) e = m
token_some [] (number_like m) e = omega (arith, m.some)
token_some [] (sized_like s q m) e = omega (arith, ap length q, length-append s.width (39 ∷ s.letter ∷ s.digits))
token_some [] (symbol_like s q) e = omega (arith, sym_some s, ap length q)
token_some (c ∷ w) l e = cc

front_nil : (w r : List ℕ) → w ++ r ≡ [] → w ≡ []
front_nil [] r e = refl
front_nil (c ∷ w) r e = cc

pub none_at_end : NoPiece []
unfolding NoPiece
none_at_end (Blank c) r e h = no_cons c r e
none_at_end (Comment w) r e h = no_cons 47 _ e
none_at_end (Lexeme k w) r e h = token_some w (token_like k w h.0) (front_nil w r e)

too_long_like : (w : List ℕ) → IsTooLong w → IsLexeme w
too_long_like w (long_name n l) = name_like n
too_long_like w (long_number n l) = number_like n
too_long_like w (long_sized s e n l) = sized_like s e n

-- the same in two forms
pub no_piece : (u : List ℕ) → ((x : Piece) (after : List ℕ) → u ≡ text_of x ++ after → ¬ StandsBefore x after) → NoPiece u
unfolding NoPiece
no_piece u f x r e h = f x r (sym e) h

no_piece_stands : (u : List ℕ) → NoPiece u → (x : Piece) (after : List ℕ) → u ≡ text_of x ++ after → ¬ StandsBefore x after
unfolding NoPiece
no_piece_stands u n x after e h = n x after (sym e) h

pub none_at_foreign : (u : List ℕ) → IsForeign u → NoPiece u
unfolding NoPiece
none_at_foreign u f (Blank c) r e h = f.no_blank c r (sym e) h
none_at_foreign u f (Comment w) r e h = f.no_comment (w ++ r) (sym e)
none_at_foreign u f (Lexeme k w) r e h = f.no_token w r e (token_like k w h.0)

pub none_at_too_long : (u : List ℕ) → BeginsTooLong u → NoPiece u
unfolding NoPiece
none_at_too_long u f (Blank c) r e h = blank_clash f.front f.rest c r (too_long_like f.front f.too_long) (sym f.joined ∙ sym e) h
none_at_too_long u f (Comment w) r e h = slash_clash f.front f.rest _ (too_long_like f.front f.too_long) (sym f.joined ∙ sym e)
none_at_too_long u f (Lexeme k w) r e h =
    let p = h.1 f.front f.rest (sym f.joined ∙ sym e) (too_long_like f.front f.too_long) in
    let q = f.longest w r (e ∙ f.joined) (token_like k w h.0) in
    let s = append_parts w r f.front f.rest (omega arith) (e ∙ f.joined) in
    not_too_long k f.front (subst (IsToken k) s.0 h.0) f.too_long

pub none_at_fault : (d : Rule) (u : List ℕ) → BreaksAtFirst d u → NoPiece u
none_at_fault rules.E01 u b = none_at_foreign u b
none_at_fault rules.E03 u b = none_at_too_long u b
none_at_fault _ u b = absurd b

-- two cuts that go as far as they can are the same
pub cuts_agree : (xs ys : List Piece) (u v : List ℕ) → StandAll xs u → StandAll ys v → NoPiece u → NoPiece v → text_of_all xs ++ u ≡ text_of_all ys ++ v → (xs ≡ ys) × (u ≡ v)
unfolding NoPiece
cuts_agree [] [] u v a b m n e = (refl, e)
cuts_agree [] (y ∷ ys) u v a b m n e = absurd (m y (text_of_all ys ++ v) (sym (append_assoc (text_of y) (text_of_all ys) v) ∙ sym e) b.0)
cuts_agree (x ∷ xs) [] u v a b m n e = absurd (n x (text_of_all xs ++ u) (sym (append_assoc (text_of x) (text_of_all xs) u) ∙ e) a.0)
cuts_agree (x ∷ xs) (y ∷ ys) u v a b m n e =
    let h = pieces_agree x y (text_of_all xs ++ u) (text_of_all ys ++ v) a.0 b.0 (sym (append_assoc (text_of x) (text_of_all xs) u) ∙ e ∙ append_assoc (text_of y) (text_of_all ys) v) in
    let r = cuts_agree xs ys u v a.1 b.1 m n h.1 in
    (λ i. h.0 i ∷ r.0 i, r.1)

-- where no piece begins, one rule is broken
pub broken_agree : (d e : Rule) (u : List ℕ) → IsBrokenAt d u → IsBrokenAt e u → d ≡ e
broken_agree rules.E01 rules.E01 u a b = refl
broken_agree rules.E01 rules.E03 u a b = absurd (a b.0 b.1 b.2 b.3)
broken_agree rules.E03 rules.E01 u a b = absurd (b a.0 a.1 a.2 a.3)
broken_agree rules.E03 rules.E03 u a b = refl
broken_agree rules.E01 _ u a b = absurd b
broken_agree rules.E03 _ u a b = absurd b
broken_agree _ _ u a b = absurd a

-- none is broken at the end
pub no_fault_at_end : (d : Rule) → BreaksAtFirst d [] → ⊥
no_fault_at_end rules.E01 b = omega (arith, b.some)
no_fault_at_end rules.E03 b = token_some b.front (too_long_like b.front b.too_long) (front_nil b.front b.rest (sym b.joined))
no_fault_at_end _ b = b

some_broken : (d : Rule) (u : List ℕ) → BreaksAtFirst d u → 1 ≤ length u
some_broken d [] b = absurd (no_fault_at_end d b)
some_broken d (c ∷ u) b = omega arith

is_broken : (d : Rule) (u : List ℕ) → BreaksAtFirst d u → IsBrokenAt d u
is_broken rules.E01 u b = λ v w j l. b.no_token v w (sym j) l
is_broken rules.E03 u b = (b.front, b.rest, b.joined, too_long_like b.front b.too_long)
is_broken _ u b = absurd b

-- where a rule is broken, no piece begins
pub fault_of_break : (text : List ℕ) (e : Rule) (p : ℕ) → BreaksAt text e p → HasLexicalFault text e p
fault_of_break text e p h = (
  record {
    pieces = h.pieces;
    rest = h.rest;
    joined = h.joined;
    stand = h.stand;
    place_is = h.place_is;
    some = some_broken e h.rest h.broken;
    foreign = no_piece_stands h.rest (none_at_fault e h.rest h.broken);
  },
  is_broken e h.rest h.broken,
)
