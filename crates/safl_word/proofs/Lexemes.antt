-- Where the longest token ends.
use Rattle.safl_word.proofs.Common.{EndsRun, IsNumeral, Sym, is_digit, list_all}
use Rattle.std.proofs.Common.{◌≡◌, ℕ, List, [], ◌∷◌, ◌++◌, Some, Bool, true, false, ◌&&◌, ◌==◌, not, refl, sym, ◌∙◌, ap, subst, arith, append_assoc}
use Rattle.std.proofs.lemmas.Bool.{and_parts, not-true, or_left}
use Rattle.safl_word.specs.Tokens.{sym_text, is_blank, begins_name, in_name, base_of, IsNameLike, SizedParts, sized_text, IsSizedLike, name_like, number_like, sized_like, symbol_like, IsLongest}
use Rattle.safl_word.specs.declared.token.Sym.TheVariants as syms
use Rattle.safl_word.proofs.Runs.{run_short, same_run}
use Rattle.safl_word.proofs.BytesBegin.{name_not_digit}

pub same_head : (c d : ℕ) (u w : List ℕ) → c ∷ u ≡ d ∷ w → c ≡ d
same_head c d u w e = cc

pub same_tail : (c d : ℕ) (u w : List ℕ) → c ∷ u ≡ d ∷ w → u ≡ w
same_tail c d u w e = cc

pub no_cons : (c : ℕ) (w : List ℕ) {A : Type 0} → [] ≡ c ∷ w → A
no_cons c w e = cc

pub clash : (b : Bool) {A : Type 0} → b ≡ true → b ≡ false → A
clash b h e = cc

-- what begins a symbol begins no name and no number, and is no blank and no slash
abbrev pub begins_else : ℕ → Bool
begins_else c = not (begins_name c) && (not (is_digit 10 c) && (not (is_blank c) && not (c == 47)))

pub sym_head : (s : Sym) (v : List ℕ) (c : ℕ) (x : List ℕ) → sym_text s ++ v ≡ c ∷ x → begins_else c ≡ true
sym_head syms.OpenParen v c x e = ap begins_else (sym (same_head _ _ _ _ e))
sym_head _ v c x e = ap begins_else (sym (same_head _ _ _ _ e))

pub name_head : (u v : List ℕ) (c : ℕ) (x : List ℕ) → IsNameLike u → u ++ v ≡ c ∷ x → begins_name c ≡ true
name_head [] v c x h e = absurd h
name_head (d ∷ u) v c x h e = ap begins_name (sym (same_head d c _ _ e)) ∙ h.0

pub number_head : (u v : List ℕ) (c : ℕ) (x : List ℕ) → IsNumeral 10 u → u ++ v ≡ c ∷ x → is_digit 10 c ≡ true
number_head [] v c x h e = absurd (omega (arith, h.some))
number_head (d ∷ u) v c x h e = ap (is_digit 10) (sym (same_head d c _ _ e)) ∙ (and_parts _ _ h.digits).0

pub sized_parts : (s : SizedParts) (v : List ℕ) → sized_text s ++ v ≡ s.width ++ (39 ∷ s.letter ∷ (s.digits ++ v))
sized_parts s v = append_assoc s.width (39 ∷ s.letter ∷ s.digits) v

pub sized_head : (s : SizedParts) (v : List ℕ) (c : ℕ) (x : List ℕ) → IsSizedLike s → sized_text s ++ v ≡ c ∷ x → is_digit 10 c ≡ true
sized_head s v c x h e = number_head s.width _ c x h.width (sym (sized_parts s v) ∙ e)

pub else_name : (c : ℕ) {A : Type 0} → begins_else c ≡ true → begins_name c ≡ true → A
else_name c h e = clash (begins_name c) e (not-true _ (and_parts _ _ h).0)

pub else_digit : (c : ℕ) {A : Type 0} → begins_else c ≡ true → is_digit 10 c ≡ true → A
else_digit c h e = clash (is_digit 10 c) e (not-true _ (and_parts _ _ (and_parts _ _ h).1).0)

pub else_blank : (c : ℕ) → begins_else c ≡ true → is_blank c ≡ false
else_blank c h =
    let r = (and_parts (not (begins_name c)) (not (is_digit 10 c) && (not (is_blank c) && not (c == 47))) h).1 in
    let q = (and_parts (not (is_digit 10 c)) (not (is_blank c) && not (c == 47)) r).1 in
    not-true (is_blank c) (and_parts (not (is_blank c)) (not (c == 47)) q).0

pub else_slash : (c : ℕ) → begins_else c ≡ true → (c == 47) ≡ false
else_slash c h =
    let r = (and_parts (not (begins_name c)) (not (is_digit 10 c) && (not (is_blank c) && not (c == 47))) h).1 in
    let q = (and_parts (not (is_digit 10 c)) (not (is_blank c) && not (c == 47)) r).1 in
    not-true (c == 47) (and_parts (not (is_blank c)) (not (c == 47)) q).1

pub name_digit : (c : ℕ) {A : Type 0} → begins_name c ≡ true → is_digit 10 c ≡ true → A
name_digit c h e = clash (is_digit 10 c) e (name_not_digit c h)

pub all_in_name : (u : List ℕ) → IsNameLike u → list_all in_name u ≡ true
all_in_name [] h = absurd h
all_in_name (c ∷ u) h = rw (or_left (begins_name c) _ h.0) h.1

-- a name runs to the first byte that no name holds
pub name_longest : (c : ℕ) (w rest : List ℕ) → IsNameLike (c ∷ w) → EndsRun in_name rest → IsLongest (c ∷ w) rest
name_longest c w rest n h u v e (name_like m) = run_short in_name u v (c ∷ w) rest (all_in_name u m) h e
name_longest c w rest n h u v e (number_like m) = name_digit c n.0 (number_head u v c (w ++ rest) m e)
name_longest c w rest n h u v e (sized_like s q m) = name_digit c n.0 (sized_head s v c (w ++ rest) m (subst (λ k. k ++ v ≡ c ∷ (w ++ rest)) q e))
name_longest c w rest n h u v e (symbol_like s q) = else_name c (sym_head s v c (w ++ rest) (subst (λ k. k ++ v ≡ c ∷ (w ++ rest)) q e)) n.0

-- what follows a numeral makes it no sized number
unfoldable pub NoSizeFollows : List ℕ → Type 0
NoSizeFollows rest = (letter base : ℕ) (digits v : List ℕ) → base_of letter ≡ Some base → IsNumeral base digits → rest ≡ 39 ∷ letter ∷ (digits ++ v) → ⊥

-- a number runs to the first byte that is no digit, where no size follows
pub number_longest : (w rest : List ℕ) → IsNumeral 10 w → EndsRun (is_digit 10) rest → NoSizeFollows rest → IsLongest w rest
unfolding NoSizeFollows
number_longest [] rest n h f u v e l = absurd (omega (arith, n.some))
number_longest (c ∷ w) rest n h f u v e (name_like m) = name_digit c (name_head u v c (w ++ rest) m e) (and_parts _ _ n.digits).0
number_longest (c ∷ w) rest n h f u v e (number_like m) = run_short (is_digit 10) u v (c ∷ w) rest m.digits h e
number_longest (c ∷ w) rest n h f u v e (sized_like s q m) =
    let k : s.width ++ (39 ∷ s.letter ∷ (s.digits ++ v)) ≡ (c ∷ w) ++ rest = sym (sized_parts s v) ∙ subst (λ k. k ++ v ≡ (c ∷ w) ++ rest) q e in
    let r = same_run (is_digit 10) s.width (39 ∷ s.letter ∷ (s.digits ++ v)) (c ∷ w) rest m.width.digits n.digits refl h k in
    absurd (f s.letter s.base s.digits v m.based m.digits (sym r.1))
number_longest (c ∷ w) rest n h f u v e (symbol_like s q) = else_digit c (sym_head s v c (w ++ rest) (subst (λ k. k ++ v ≡ c ∷ (w ++ rest)) q e)) (and_parts _ _ n.digits).0
