-- What a text begins with, by its runs.
use Rattle.std.proofs.Common.{◌≡◌, ◌≢◌, ◌↔◌, IsSome, IfSome, ℕ, zero, suc, ◌+◌, ◌^◌, ◌<◌, ◌≤◌, ◌==◌, ◌⊎◌, inl, inr, List, [], ◌∷◌, ◌++◌, length}
use Rattle.std.proofs.Common.{take, drop, get_or, Option, Some, None, Bool, true, false, not, refl, sym, ◌∙◌, ap, subst, arith, append_assoc}
use Rattle.std.proofs.Common.{length-append}
use Rattle.std.proofs.lemmas.Bool.{and_parts, eqb-true, or_left}
use Rattle.std.proofs.lemmas.List.{take-append-drop, length-take-le}
use Rattle.std.proofs.Math.Seq.{take-append_seam, drop-append_seam}
use Rattle.std.specs.List.{list_all}
use Rattle.safl_word.specs.Numerals.{between, is_digit, value, IsNumeral, IsBounded}
use Rattle.safl_word.specs.Tokens.{key_text, sym_text, is_blank, begins_name, in_name, IsNameLike, SizedParts, sized_text, IsSizedLike, IsLongest}
use Rattle.safl_word.specs.Tokens.{FitsNumeral, Blank, Comment, StandsBefore}
use Rattle.safl_word.specs.Breaks.{Passes, long_name, long_number, long_sized}
use Rattle.safl_word.specs.declared.token.Key.{Key}
use Rattle.safl_word.specs.declared.token.Sym.{Sym}
use Rattle.safl_word.specs.declared.token.TokenKind.TheVariants as kinds
use Rattle.safl_word.specs.declared.fault.Rule.TheVariants as rules
use Rattle.safl_word.proofs.Lexemes.{same_tail, name_longest, number_longest, NoSizeFollows}
use Rattle.safl_word.proofs.Sizes.{sized_longest}
use Rattle.safl_word.proofs.Next.{fits_or_passes}
use Rattle.safl_word.proofs.Fronts.{NoPair, pair_longest, lone_longest, foreign, ends_line}
use Rattle.safl_word.specs.Runs.{IsRun}
use Rattle.safl_text.specs.Fronts.{HasSize, HasNoSize, begins_comment, HasNoPair, IsOther, Begins}
use Rattle.safl_text.specs.declared.front.Front.TheVariants as fronts

-- the front and the rest of a text
pub front_is : (text u v : List ℕ) (n : ℕ) → text ≡ u ++ v → length u ≡ n → (take n text ≡ u) × (drop n text ≡ v)
front_is text u v n e l = (
  subst (λ k. take k text ≡ u) l (ap (take (length u)) e ∙ take-append_seam u v),
  subst (λ k. drop k text ≡ v) l (ap (drop (length u)) e ∙ drop-append_seam u v),
)

run_head : (p : ℕ → Bool) (c : ℕ) (x : List ℕ) (n : ℕ) → IsRun p (c ∷ x) n → p c ≡ true → 1 ≤ n
run_head p c x zero r h = let e = r.ends in cc
run_head p c x (suc n) r h = omega arith

name_in : (c : ℕ) → begins_name c ≡ true → in_name c ≡ true
name_in c h = or_left (begins_name c) (between 48 57 c) h

-- a run of a name's bytes is a name's text, and the longest
pub record NameFront (text : List ℕ) (n : ℕ) : Type 0 where
  pub like : IsNameLike (take n text)
  pub longest : IsLongest (take n text) (drop n text)

pub name_run : (text : List ℕ) (n : ℕ) → 0 < length text → begins_name (get_or text 0 0) ≡ true → IsRun in_name text n → NameFront text n
name_run [] n lt h r = absurd (omega arith)
name_run (c ∷ x) zero lt h r = absurd (omega (arith, run_head in_name c x zero r (name_in c h)))
name_run (c ∷ x) (suc n) lt h r =
    let like : IsNameLike (c ∷ take n x) = (h, (and_parts (in_name c) (list_all in_name (take n x)) r.passes).1) in
    record { like = like; longest = name_longest c (take n x) (drop n x) like r.ends }

pub key_front : (text : List ℕ) (n : ℕ) (k : Key) → 0 < length text → begins_name (get_or text 0 0) ≡ true → IsRun in_name text n → take n text ≡ key_text k
    → Begins text (fronts.Found (kinds.Key k) n)
key_front text n k lt h r e = record { within = r.within; is = refl; stands = (e, (name_run text n lt h r).longest) }

pub name_front : (text : List ℕ) (n : ℕ) → 0 < length text → begins_name (get_or text 0 0) ≡ true → IsRun in_name text n → ((k : Key) → take n text ≢ key_text k) → n ≤ 64
    → Begins text (fronts.Found kinds.Name n)
name_front text n lt h r f l =
    let m = name_run text n lt h r in
    record { within = r.within; is = refl; stands = (record { like = m.like; free = f; short = omega (arith, length-take-le n text r.within) }, m.longest) }

pub long_name_front : (text : List ℕ) (n : ℕ) → 0 < length text → begins_name (get_or text 0 0) ≡ true → IsRun in_name text n → 64 < n → Begins text (fronts.Broken rules.E03)
long_name_front text n lt h r l =
    let m = name_run text n lt h r in
    record {
      front = take n text;
      rest = drop n text;
      joined = sym (take-append-drop n text);
      longest = m.longest;
      too_long = long_name m.like (omega (arith, length-take-le n text r.within));
    }

run_numeral : (base : ℕ) (text : List ℕ) (n : ℕ) → 1 ≤ n → IsRun (is_digit base) text n → IsNumeral base (take n text)
run_numeral base text n s r = record { some = omega (arith, length-take-le n text r.within); digits = r.passes }

plain_longest : (text : List ℕ) (n : ℕ) → 1 ≤ n → IsRun (is_digit 10) text n → HasNoSize (drop n text) → IsLongest (take n text) (drop n text)
unfolding NoSizeFollows
plain_longest text n s r h = number_longest (take n text) (drop n text) (run_numeral 10 text n s r) r.ends h

pub plain_front : (text : List ℕ) (n v : ℕ) → 1 ≤ n → IsRun (is_digit 10) text n → HasNoSize (drop n text) → IsBounded 10 128 (2 ^ 128) (take n text) → v ≡ value 10 (take n text)
    → Begins text (fronts.Found (kinds.Num v) n)
plain_front text n v s r h b e = record { within = r.within; is = refl; stands = ((b, e), plain_longest text n s r h) }

passes : (base : ℕ) (w : List ℕ) → IsNumeral base w → ¬ IsBounded base 128 (2 ^ 128) w → Passes base w
passes base w n f = by_cases (fits_or_passes base w n)
  where
    by_cases : FitsNumeral base w ⊎ Passes base w → Passes base w
    by_cases (inl k) = absurd (f k)
    by_cases (inr p) = p

pub plain_long : (text : List ℕ) (n : ℕ) → 1 ≤ n → IsRun (is_digit 10) text n → HasNoSize (drop n text) → ¬ IsBounded 10 128 (2 ^ 128) (take n text)
    → Begins text (fronts.Broken rules.E03)
plain_long text n s r h f =
    let m = run_numeral 10 text n s r in
    record { front = take n text; rest = drop n text; joined = sym (take-append-drop n text); longest = plain_longest text n s r h; too_long = long_number m (passes 10 (take n text) m f) }

-- the parts of a sized number
module _ (text : List ℕ) (n base count : ℕ) (s : 1 ≤ n) (r : IsRun (is_digit 10) text n) (h : HasSize (drop n text) base count) where
  parts : SizedParts
  parts = record { width = take n text; letter = h.letter; base = base; digits = take count h.digits }

  like : IsSizedLike parts
  unfolding parts
  like = record { based = h.based; width = run_numeral 10 text n s r; digits = run_numeral base h.digits count h.some h.run }

  whole : text ≡ sized_text parts ++ drop count h.digits
  unfolding parts
  whole =
      sym (take-append-drop n text) ∙ ap (λ w. take n text ++ w) (h.joined ∙ ap (λ w. 39 ∷ h.letter ∷ w) (sym (take-append-drop count h.digits)))
      ∙ sym (append_assoc (take n text) (39 ∷ h.letter ∷ take count h.digits) (drop count h.digits))

  long : length (sized_text parts) ≡ n + 2 + count
  unfolding parts
  long = omega (arith, length-append (take n text) (39 ∷ h.letter ∷ take count h.digits), length-take-le n text r.within, length-take-le count h.digits h.run.within)

  longest : IsLongest (sized_text parts) (drop count h.digits)
  unfolding parts
  longest = sized_longest parts (drop count h.digits) like h.run.ends

  -- the digits after the letter
  pub size_digits : drop 2 (drop n text) ≡ h.digits
  size_digits = ap (drop 2) h.joined

  pub size_within : n + 2 + count ≤ length text
  size_within = omega (arith, long, ap length whole, length-append (sized_text parts) (drop count h.digits))

  pub sized_front : (m v : ℕ) → IsBounded 10 128 (2 ^ 128) (take n text) → m ≡ value 10 (take n text) → IsBounded base 128 (2 ^ 128) (take count h.digits) → v ≡ value base (take count h.digits)
      → Begins text (fronts.Found (kinds.Sized m v) (n + 2 + count))
  unfolding parts
  sized_front m v a e b g =
      let f = front_is text (sized_text parts) (drop count h.digits) (n + 2 + count) whole long in
      record {
        within = size_within;
        is = refl;
        stands = (
          (parts, record { joined = f.0; like = like; width_fits = a; digits_fit = b; width_is = e; value_is = g }),
          subst (λ w. IsLongest w (drop (n + 2 + count) text)) (sym f.0) (subst (IsLongest (sized_text parts)) (sym f.1) longest),
        );
      }

  too_long : Passes 10 (take n text) ⊎ Passes base (take count h.digits) → Begins text (fronts.Broken rules.E03)
  unfolding parts
  too_long p = record { front = sized_text parts; rest = drop count h.digits; joined = whole; longest = longest; too_long = long_sized parts refl like p }

  pub long_width : ¬ IsBounded 10 128 (2 ^ 128) (take n text) → Begins text (fronts.Broken rules.E03)
  long_width f = too_long (inl (passes 10 (take n text) (run_numeral 10 text n s r) f))

  pub long_value : ¬ IsBounded base 128 (2 ^ 128) (take count h.digits) → Begins text (fronts.Broken rules.E03)
  long_value f = too_long (inr (passes base (take count h.digits) (run_numeral base h.digits count h.some h.run) f))

pub comment_front : (text : List ℕ) (n : ℕ) → begins_comment text ≡ true → IsRun (λ c. not (c == 10)) (drop 2 text) n → Begins text (fronts.Gap (2 + n))
comment_front [] n h r = cc
comment_front (c ∷ []) n h r = cc
comment_front (c ∷ (d ∷ x)) n h r =
    let p = and_parts (c == 47) (d == 47) h in
    let e : c ≡ 47 = eqb-true c 47 p.0 in
    let f : d ≡ 47 = eqb-true d 47 p.1 in
    let m : length (take n x) ≡ n = length-take-le n x r.within in
    let j : c ∷ d ∷ x ≡ (47 ∷ 47 ∷ take n x) ++ drop n x = λ i. e i ∷ f i ∷ sym (take-append-drop n x) i in
    let g = front_is (c ∷ d ∷ x) (47 ∷ 47 ∷ take n x) (drop n x) (2 + n) j (omega (arith, m)) in
    (Comment (take n x), record { within = omega (arith, r.within); is = sym g.0; stands = subst (λ v. StandsBefore (Comment (take n x)) v) (sym g.1) (r.passes, ends_line (drop n x) r.ends) }, tt)

pub blank_front : (text : List ℕ) → 0 < length text → is_blank (get_or text 0 0) ≡ true → Begins text (fronts.Gap 1)
blank_front [] lt h = absurd (omega arith)
blank_front (c ∷ x) lt h = (Blank c, record { within = omega arith; is = refl; stands = h }, tt)

no_pair : (c : ℕ) (x : List ℕ) → HasNoPair (c ∷ x) → NoPair c x
unfolding NoPair
no_pair c x h d r s e f = h c d r s (ap (λ w. c ∷ w) e) f

pub pair_front : (text : List ℕ) (s : Sym) → 2 ≤ length text → take 2 text ≡ sym_text s → Begins text (fronts.Found (kinds.Sym s) 2)
pair_front [] s l e = absurd (omega arith)
pair_front (c ∷ []) s l e = absurd (omega arith)
pair_front (c ∷ (d ∷ x)) s l e = record { within = l; is = refl; stands = (e, subst (λ w. IsLongest w x) (sym e) (pair_longest s c d x e)) }

pub lone_front : (text : List ℕ) (s : Sym) → 0 < length text → get_or text 0 0 ∷ [] ≡ sym_text s → HasNoPair text → Begins text (fronts.Found (kinds.Sym s) 1)
lone_front [] s l e h = absurd (omega arith)
lone_front (c ∷ x) s l e h = record { within = omega arith; is = refl; stands = (e, subst (λ w. IsLongest w x) (sym e) (lone_longest s c x e (no_pair c x h))) }

no_slashes : (c : ℕ) (x r : List ℕ) → begins_comment (c ∷ x) ≡ false → c ∷ x ≢ 47 ∷ 47 ∷ r
no_slashes c [] r h e = let t = same_tail c 47 _ _ e in cc
no_slashes c (d ∷ x) r h e =
    let g : begins_comment (47 ∷ 47 ∷ r) ≡ false = subst (λ w. begins_comment w ≡ false) e h in cc

pub foreign_front : (text : List ℕ) → IsOther text → begins_comment text ≡ false → ((s : Sym) → get_or text 0 0 ∷ [] ≢ sym_text s) → HasNoPair text → Begins text (fronts.Broken rules.E01)
foreign_front [] o b f h = absurd (omega (arith, o.some))
foreign_front (c ∷ x) o b f h = foreign c x o.no_blank o.no_name o.no_digit f (no_pair c x h) (λ r. no_slashes c x r b)

-- what a numeral's number, or its absence, says of its digits
pub read_some : (base : ℕ) (w u : List ℕ) (r : Option ℕ) (v : ℕ) → r ≡ Some v → IsSome r ↔ IsBounded base 128 (2 ^ 128) w → IfSome r (λ n. n ≡ value base w) → w ≡ u
    → IsBounded base 128 (2 ^ 128) u × (v ≡ value base u)
read_some base w u None v e h g q = cc
read_some base w u (Some n) v e h g q =
    let i : v ≡ n = cc in
    (subst (IsBounded base 128 (2 ^ 128)) q (h.0 refl), i ∙ g ∙ ap (value base) q)

pub read_none : (base : ℕ) (w u : List ℕ) (r : Option ℕ) → r ≡ None → IsSome r ↔ IsBounded base 128 (2 ^ 128) w → w ≡ u → ¬ IsBounded base 128 (2 ^ 128) u
read_none base w u (Some n) e h q b = cc
read_none base w u None e h q b = let f = h.1 (subst (IsBounded base 128 (2 ^ 128)) (sym q) b) in cc
