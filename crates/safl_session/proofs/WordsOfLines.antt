-- The words of a line, read one after the other.
use Rattle.safl_session.proofs.Common.{Word, get_in_front, get_seam, lower_same_higher, slice_get_within}
use Rattle.std.proofs.Common.{◌≡◌, ℕ, zero, suc, ◌+◌, ◌<◌, ◌≤◌, ◌⊎◌, List, [], ◌∷◌, ◌++◌, length, Option, Some, None, Bool, true, false, not}
use Rattle.std.proofs.Common.{slice_get, refl, sym, ap, subst, ◌∙◌, arith, inl, inr, append_assoc}
use Rattle.std.specs.Prelude.{◌≢◌, is_some}
use Rattle.std.proofs.lemmas.Bool.{true≢false, false≢true}
use Rattle.std.proofs.lemmas.List.{append-nil, length-append}
use Rattle.safl_session.specs.Pieces.{HasWords, Blank, StartsWith}
use Rattle.safl_session.specs.Lines.{IsArgument, AreArguments, IsCall, AppendsCall, HaveMisfit, ScriptFault, Count, Argument, HasScriptFault}
use Rattle.safl_session.proofs.PiecesOfText.{words_once, blank_words, first_word, behind_long}

-- the texts that have a width are these arguments
abbrev pub Begins : List ℕ → List (List ℕ) → List Word → Type 0
Begins [] ts vs = vs ≡ []
Begins (w ∷ ws) [] vs = vs ≡ []
Begins (w ∷ ws) (t ∷ ts) [] = ⊥
Begins (w ∷ ws) (t ∷ ts) (v ∷ vs) = IsArgument w t v × Begins ws ts vs

begins_none : (ws : List ℕ) → Begins ws [] []
begins_none [] = refl
begins_none (w ∷ ws) = refl

begins_more : (ws : List ℕ) (ts : List (List ℕ)) (vs : List Word) (w : ℕ) (t : List ℕ) (v : Word) → Begins ws ts vs → slice_get ws (length ts) ≡ Some
    w → IsArgument w t v → Begins ws (ts ++ t ∷ []) (vs ++ v ∷ [])
begins_more [] ts vs w t v b e is = absurd (cc)
begins_more (x ∷ ws) [] [] w t v b e is = let q : w ≡ x = cc in (subst (λ y. IsArgument y t v) q is, begins_none ws)
begins_more (x ∷ ws) [] (u ∷ vs) w t v b e is = absurd (cc)
begins_more (x ∷ ws) (s ∷ ts) [] w t v b e is = absurd b
begins_more (x ∷ ws) (s ∷ ts) (u ∷ vs) w t v b e is = (b.0, begins_more ws ts vs w t v b.1 e is)

begins_over : (ws : List ℕ) (ts : List (List ℕ)) (vs : List Word) (t : List ℕ) → Begins ws ts vs → length ws ≤ length ts → Begins ws (ts ++ t ∷ []) vs
begins_over [] ts vs t b h = b
begins_over (x ∷ ws) [] vs t b h = absurd (omega (arith, h))
begins_over (x ∷ ws) (s ∷ ts) [] t b h = absurd b
begins_over (x ∷ ws) (s ∷ ts) (u ∷ vs) t b h = (b.0, begins_over ws ts vs t b.1 (omega (arith, h)))

begins_at : (ws : List ℕ) (ts : List (List ℕ)) (vs : List Word) → Begins ws ts vs → (k w : ℕ) (t : List ℕ) → slice_get ws k ≡ Some w → slice_get ts k ≡ Some t → (v : Word) × IsArgument w t v
begins_at [] ts vs b k w t e f = absurd (cc)
begins_at (x ∷ ws) [] vs b k w t e f = absurd (cc)
begins_at (x ∷ ws) (s ∷ ts) [] b k w t e f = absurd b
begins_at (x ∷ ws) (s ∷ ts) (v ∷ vs) b zero w t e f =
    let p : x ≡ w = cc in
    let q : s ≡ t = cc in
    (v, subst (λ y. IsArgument y t v) p (subst (λ y. IsArgument x y v) q b.0))
begins_at (x ∷ ws) (s ∷ ts) (v ∷ vs) b (suc k) w t e f = begins_at ws ts vs b.1 k w t e f

begins_all : (ws : List ℕ) (ts : List (List ℕ)) (vs : List Word) → Begins ws ts vs → length ts ≡ length ws → AreArguments ws ts vs
begins_all [] [] [] b e = tt
begins_all [] [] (v ∷ vs) b e = absurd (cc)
begins_all [] (t ∷ ts) vs b e = absurd (omega (arith, e))
begins_all (w ∷ ws) [] vs b e = absurd (omega (arith, e))
begins_all (w ∷ ws) (t ∷ ts) [] b e = absurd b
begins_all (w ∷ ws) (t ∷ ts) (v ∷ vs) b e = (b.0, begins_all ws ts vs b.1 (omega (arith, e)))

-- the text of this number, from 1, is the first that is no argument of its width
pub record IsBad (widths : List ℕ) (texts : List (List ℕ)) (number : ℕ) : Type 0 where
  pub index : ℕ
  pub is : number ≡ index + 1
  pub width : ℕ
  pub text : List ℕ
  pub at_width : slice_get widths index ≡ Some width
  pub at_text : slice_get texts index ≡ Some text
  pub bad : (v : Word) → IsArgument width text v → ⊥
  pub before : (i w : ℕ) (t : List ℕ) → i < index → slice_get widths i ≡ Some w → slice_get texts i ≡ Some t → (v : Word) × IsArgument w t v

bad_here : (ws : List ℕ) (ts : List (List ℕ)) (vs : List Word) (w : ℕ) (t : List ℕ) → Begins ws ts vs → slice_get ws (length ts) ≡ Some w →
    ((v : Word) → IsArgument w t v → ⊥) → IsBad ws (ts ++ t ∷ []) (length ts + 1)
bad_here ws ts vs w t b e bad = record {
  index = length ts;
  is = refl;
  width = w;
  text = t;
  at_width = e;
  at_text = get_seam ts t [] (length ts) refl;
  bad = bad;
  before = λ k x s h f g. begins_at ws ts vs b k x s f (sym (get_in_front ts (t ∷ []) k h) ∙ g);
}

bad_more : (ws : List ℕ) (ts : List (List ℕ)) (t : List ℕ) (number : ℕ) → IsBad ws ts number → IsBad ws (ts ++ t ∷ []) number
bad_more ws ts t number b =
    let inside : b.index < length ts = slice_get_within ts b.index b.text b.at_text in
    record {
      index = b.index;
      is = b.is;
      width = b.width;
      text = b.text;
      at_width = b.at_width;
      at_text = get_in_front ts (t ∷ []) b.index inside ∙ b.at_text;
      bad = b.bad;
      before = λ k x s h f g. b.before k x s h f (sym (get_in_front ts (t ∷ []) k (omega (arith, h, inside))) ∙ g);
    }

-- the texts are arguments, which are appended, or one of them is the first that is none
abbrev pub Reads : List ℕ → List (List ℕ) → Option ℕ → List Word → List Word → Type 0
Reads widths texts None old new = (args : List Word) × Begins widths texts args × (new ≡ old ++ args)
Reads widths texts (Some place) old new = IsBad widths texts place

-- so many words of a line are seen
pub record SeenTo (widths line : List ℕ) (count : ℕ) (misread : Option ℕ) (rest : List ℕ) (old new : List Word) : Type 0 where
  pub texts : List (List ℕ)
  pub long : length texts ≡ count
  pub split : (ws : List (List ℕ)) → HasWords rest ws → HasWords line (texts ++ ws)
  pub small : count + length rest ≤ length line
  pub reads : Reads widths texts misread old new

pub seen_none : (widths line : List ℕ) (old : List Word) → SeenTo widths line 0 None line old old
seen_none widths line old = record { texts = []; long = refl; split = λ ws h. h; small = omega arith; reads = ([], begins_none widths, sym (append-nil old)) }

-- a word more is seen
module _ (widths line : List ℕ) (count : ℕ) (rest word behind : List ℕ) (s : StartsWith rest word behind) where
  seen_more : (before after : Option ℕ) (old mid new : List Word) (seen : SeenTo widths line count before rest old mid) → Reads widths
      (seen.texts ++ word ∷ []) after old new → SeenTo widths line (count + 1) after behind old new
  seen_more before after old mid new seen reads = record {
    texts = seen.texts ++ word ∷ [];
    long = length-append seen.texts (word ∷ []) ∙ ap (λ k. k + 1) seen.long;
    split = λ ws h. subst (HasWords line) (sym (append_assoc seen.texts (word ∷ []) ws)) (seen.split (word ∷ ws) (first_word rest word behind s ws h));
    small = (let a = seen.small in let b = behind_long rest word behind s in omega (arith, a, b));
    reads = reads;
  }

  pub seen_read : (w : ℕ) (v : Word) (old mid new : List Word) → SeenTo widths line count None rest old mid → slice_get widths count ≡ Some w →
      IsArgument w word v → new ≡ mid ++ v ∷ [] → SeenTo widths line (count + 1) None behind old new
  seen_read w v old mid new seen at is pushed =
      let r = seen.reads in
      seen_more None None old mid new seen (
        r.0 ++ v ∷ [],
        begins_more widths seen.texts r.0 w word v r.1 (ap (slice_get widths) seen.long ∙ at) is,
        pushed ∙ ap (λ l. l ++ v ∷ []) r.2 ∙ append_assoc old r.0 (v ∷ []),
      )

  pub seen_bad : (w : ℕ) (old mid : List Word) → SeenTo widths line count None rest old mid → slice_get widths count ≡ Some w →
      ((v : Word) → IsArgument w word v → ⊥) → SeenTo widths line (count + 1) (Some (count + 1)) behind old mid
  seen_bad w old mid seen at bad =
      let r = seen.reads in
      seen_more None (Some (count + 1)) old mid mid seen
      (subst (λ k. IsBad widths (seen.texts ++ word ∷ []) (k + 1)) seen.long (bad_here widths seen.texts r.0 w word r.1 (ap (slice_get widths) seen.long ∙ at) bad))

  -- beyond the widths, or after a word that is no argument
  pub seen_over : (misread : Option ℕ) (old mid : List Word) → SeenTo widths line count misread rest old mid →
      (misread ≡ None → length widths ≤ count) → SeenTo widths line (count + 1) misread behind old mid
  seen_over None old mid seen h =
      let r = seen.reads in
      seen_more None None old mid mid seen (r.0, begins_over widths seen.texts r.0 word r.1 (let a = h refl in let b = seen.long in omega (arith, a, b)), r.2)
  seen_over (Some place) old mid seen h = seen_more (Some place) (Some place) old mid mid seen (bad_more widths seen.texts word place seen.reads)

-- what makes a fault: the line has this many words, which is not the number of widths; or it has a word for each width, and the
-- first that is no argument of its width has this number, counted from 1
abbrev pub IsMiscounted : List ℕ → List ℕ → ℕ → Type 0
IsMiscounted widths line given = (words : List (List ℕ)) × HasWords line words × (length words ≡ given) × (given ≢ length widths)

abbrev pub IsMisread : List ℕ → List ℕ → ℕ → Type 0
IsMisread widths line number = (words : List (List ℕ)) × HasWords line words × (m : HaveMisfit widths words) × (number ≡ m.index + 1)

-- all words are seen
module _ (widths line : List ℕ) (count : ℕ) (rest : List ℕ) (blank : Blank rest) (old new : List Word) where
  all_words : (misread : Option ℕ) (seen : SeenTo widths line count misread rest old new) → HasWords line seen.texts
  all_words misread seen = subst (HasWords line) (append-nil seen.texts) (seen.split [] (blank_words rest blank))

  pub seen_count : (misread : Option ℕ) → SeenTo widths line count misread rest old new → (count ≡ length widths → ⊥) → IsMiscounted widths line count
  seen_count misread seen other = (seen.texts, all_words misread seen, seen.long, other)

  pub seen_call : SeenTo widths line count None rest old new → count ≡ length widths → AppendsCall widths line old new
  seen_call seen same =
      let r = seen.reads in
      (r.0, (seen.texts, all_words None seen, begins_all widths seen.texts r.0 r.1 (seen.long ∙ same)), r.2)

  pub seen_fault : (place : ℕ) → SeenTo widths line count (Some place) rest old new → count ≡ length widths → IsMisread widths line place
  seen_fault place seen same =
      let b : IsBad widths seen.texts place = seen.reads in
      let m : HaveMisfit widths seen.texts = record {
        same = seen.long ∙ same;
        index = b.index;
        width = b.width;
        text = b.text;
        at_width = b.at_width;
        at_text = b.at_text;
        bad = b.bad;
        before = b.before;
      } in
      (seen.texts, all_words (Some place) seen, m, b.is)

pub is_absent : (misread : Option ℕ) (absent : Bool) → is_some misread ≡ not absent → absent ≡ true → misread ≡ None
is_absent None absent e h = refl
is_absent (Some place) absent e h = absurd (true≢false (e ∙ ap not h))

pub is_present : (misread : Option ℕ) (absent : Bool) → is_some misread ≡ not absent → absent ≡ false → misread ≡ None → ⊥
is_present None absent e h none = false≢true (e ∙ ap not h)
is_present (Some place) absent e h none = cc

-- a line is one call, and a call has no fault
pub args_once : (ws : List ℕ) (ts : List (List ℕ)) (us vs : List Word) → AreArguments ws ts us → AreArguments ws ts vs → us ≡ vs
args_once [] [] [] [] a b = refl
args_once [] [] [] (v ∷ vs) a b = absurd b
args_once [] [] (u ∷ us) vs a b = absurd a
args_once [] (t ∷ ts) us vs a b = absurd a
args_once (w ∷ ws) [] us vs a b = absurd a
args_once (w ∷ ws) (t ∷ ts) [] vs a b = absurd a
args_once (w ∷ ws) (t ∷ ts) (u ∷ us) [] a b = absurd b
args_once (w ∷ ws) (t ∷ ts) (u ∷ us) (v ∷ vs) a b = ap (λ x. x ∷ us) (a.0.is ∙ sym b.0.is) ∙ ap (λ l. v ∷ l) (args_once ws ts us vs a.1 b.1)

pub call_once : (widths line : List ℕ) (us vs : List Word) → IsCall widths line us → IsCall widths line vs → us ≡ vs
call_once widths line us vs a b = args_once widths b.0 us vs (subst (λ l. AreArguments widths l us) (words_once line a.0 b.0 a.1 b.1) a.2) b.2

pub args_long : (ws : List ℕ) (ts : List (List ℕ)) (vs : List Word) → AreArguments ws ts vs → length ts ≡ length ws
args_long [] [] [] a = refl
args_long [] [] (v ∷ vs) a = absurd a
args_long [] (t ∷ ts) vs a = absurd a
args_long (w ∷ ws) [] vs a = absurd a
args_long (w ∷ ws) (t ∷ ts) [] a = absurd a
args_long (w ∷ ws) (t ∷ ts) (v ∷ vs) a = ap suc (args_long ws ts vs a.1)

pub words_long : (ws : List ℕ) (ts : List (List ℕ)) (vs : List Word) → AreArguments ws ts vs → length vs ≡ length ws
words_long [] [] [] a = refl
words_long [] [] (v ∷ vs) a = absurd a
words_long [] (t ∷ ts) vs a = absurd a
words_long (w ∷ ws) [] vs a = absurd a
words_long (w ∷ ws) (t ∷ ts) [] a = absurd a
words_long (w ∷ ws) (t ∷ ts) (v ∷ vs) a = ap suc (words_long ws ts vs a.1)

arg_at : (ws : List ℕ) (ts : List (List ℕ)) (vs : List Word) → AreArguments ws ts vs → (k w : ℕ) (t : List ℕ) → slice_get ws k ≡ Some w → slice_get ts k ≡ Some t → (v : Word) × IsArgument w t v
arg_at [] ts vs a k w t e f = absurd (cc)
arg_at (x ∷ ws) [] vs a k w t e f = absurd (cc)
arg_at (x ∷ ws) (s ∷ ts) [] a k w t e f = absurd a
arg_at (x ∷ ws) (s ∷ ts) (v ∷ vs) a zero w t e f =
    let p : x ≡ w = cc in
    let q : s ≡ t = cc in
    (v, subst (λ y. IsArgument y t v) p (subst (λ y. IsArgument x y v) q a.0))
arg_at (x ∷ ws) (s ∷ ts) (v ∷ vs) a (suc k) w t e f = arg_at ws ts vs a.1 k w t e f

pub no_fault : (widths line : List ℕ) (args : List Word) (number : ℕ) (e : ScriptFault) → IsCall widths line args → HasScriptFault widths line number e → ⊥
no_fault widths line args number (Count l given) a f =
    f.1.3 (sym f.1.2 ∙ ap length (words_once line f.1.0 a.0 f.1.1 a.1) ∙ args_long widths a.0 args a.2)
no_fault widths line args number (Argument l place) a f =
    let m : IsMisread widths line place = f.1 in
    let same = words_once line m.0 a.0 m.1 a.1 in
    let u : HaveMisfit widths m.0 = m.2 in
    let v = arg_at widths a.0 args a.2 u.index u.width u.text u.at_width (ap (λ ts. slice_get ts u.index) (sym same) ∙ u.at_text) in
    u.bad v.0 v.1

-- a line has one fault
misread_before : (widths line : List ℕ) (p q : ℕ) (a : IsMisread widths line p) (b : IsMisread widths line q) → a.2.index < b.2.index → ⊥
misread_before widths line p q a b h =
    let same = words_once line a.0 b.0 a.1 b.1 in
    let u : HaveMisfit widths a.0 = a.2 in
    let v = b.2.before u.index u.width u.text h u.at_width (ap (λ ts. slice_get ts u.index) (sym same) ∙ u.at_text) in
    u.bad v.0 v.1

pub places_same : (widths line : List ℕ) (p q : ℕ) → IsMisread widths line p → IsMisread widths line q → p ≡ q
places_same widths line p q a b = a.3 ∙ ap (λ k. k + 1) (by (lower_same_higher a.2.index b.2.index)) ∙ sym b.3
  where
    by : (a.2.index < b.2.index) ⊎ ((a.2.index ≡ b.2.index) ⊎ (b.2.index < a.2.index)) → a.2.index ≡ b.2.index
    by (inl h) = absurd (misread_before widths line p q a b h)
    by (inr (inl e)) = e
    by (inr (inr h)) = absurd (misread_before widths line q p b a h)

pub fault_once : (widths line : List ℕ) (number : ℕ) (e f : ScriptFault) → HasScriptFault widths line number e → HasScriptFault widths line number f → e ≡ f
fault_once widths line number (Count l given) (Count k other) a b =
    let p : l ≡ k = a.0 ∙ sym b.0 in
    let q : given ≡ other = sym a.1.2 ∙ ap length (words_once line a.1.0 b.1.0 a.1.1 b.1.1) ∙ b.1.2 in
    ap (λ x. Count x given) p ∙ ap (λ x. Count k x) q
fault_once widths line number (Count l given) (Argument k place) a b =
    let m : IsMisread widths line place = b.1 in
    absurd (a.1.3 (sym a.1.2 ∙ ap length (words_once line a.1.0 m.0 a.1.1 m.1) ∙ m.2.same))
fault_once widths line number (Argument l place) (Count k given) a b =
    let m : IsMisread widths line place = a.1 in
    absurd (b.1.3 (sym b.1.2 ∙ ap length (words_once line b.1.0 m.0 b.1.1 m.1) ∙ m.2.same))
fault_once widths line number (Argument l p) (Argument k q) a b =
    ap (λ x. Argument x p) (a.0 ∙ sym b.0) ∙ ap (λ x. Argument k x) (places_same widths line p q a.1 b.1)
