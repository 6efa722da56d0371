-- The lines of a script, read one after the other.
use Rattle.safl_session.proofs.Common.{Word, get_in_front, get_seam, lower_same_higher}
use Rattle.std.proofs.Common.{◌≡◌, ℕ, zero, suc, ◌+◌, ◌-◌, ◌*◌, ◌<◌, ◌≤◌, ◌⊎◌, List, [], ◌∷◌, ◌++◌, length, take, drop, Some, slice_get, Bool, true}
use Rattle.std.proofs.Common.{false, ◌==◌, refl, sym, ap, subst, ◌∙◌, arith, inl, inr, append_assoc, add-one}
use Rattle.std.proofs.lemmas.Bool.{eqb-true, true≢false}
use Rattle.std.proofs.lemmas.List.{append-nil, length-drop, drop-drop, take_all, take-append-le, drop-append-le, length-append}
use Rattle.std.proofs.Math.Nat.{mul-le-mul_right, suc-mul, zero-mul}
use Rattle.safl_session.specs.declared.script.ScriptErr.{ScriptErr}
use Rattle.safl_session.specs.Pieces.{HasLines, IsCut}
use Rattle.safl_session.specs.Lines.{IsCall, AppendsCall, ScriptFault, HasScriptFault, RefusesLine}
use Rattle.safl_session.specs.Scripts.{AreCalls, IsScript, IsScriptFault, RefusesScript, calls_of}
use Rattle.safl_session.specs.Laws.{OneScript, OneFault, NotBoth}
use Rattle.safl_session.proofs.PiecesOfText.{lines_of, lines_once, no_lines, first_line, cut_long}
use Rattle.safl_session.proofs.WordsOfLines.{words_long, call_once, no_fault, fault_once}

-- the calls of a list of words, one after the other
one_more : (arity count : ℕ) → suc count * arity ≡ arity + count * arity
one_more arity count = let e = suc-mul count arity in omega (arith, e)

pub calls_long : (count arity : ℕ) (words : List Word) → length (calls_of count arity words) ≡ count
calls_long zero arity words = refl
calls_long (suc count) arity words = ap suc (calls_long count arity (drop arity words))

pub call_below : (count arity : ℕ) (words : List Word) (calls : List (List Word)) (k : ℕ) → calls_of count arity words ≡ calls → k < length calls → k < count
call_below count arity words calls k is h = let a = ap length is in let b = calls_long count arity words in omega (arith, h, a, b)

-- the call of a number
pub call_of : (count arity : ℕ) (words : List Word) (k : ℕ) → k < count → slice_get (calls_of count arity words) k ≡ Some (take arity (drop (k * arity) words))
call_of zero arity words k h = absurd (omega (arith, h))
call_of (suc count) arity words zero h = ap (λ n. Some (take arity (drop n words))) (sym (zero-mul arity))
call_of (suc count) arity words (suc k) h =
    call_of count arity (drop arity words) k (omega (arith, h))
    ∙ ap (λ l. Some (take arity l)) (drop-drop (k * arity) arity words ∙ ap (λ n. drop n words) (sym (one_more arity k)))

-- its words stand in the list
pub call_within : (count arity k : ℕ) → k < count → k * arity + arity ≤ count * arity
call_within count arity k h =
    let a : suc k * arity ≤ count * arity = mul-le-mul_right arity h in
    let b = one_more arity k in
    omega (arith, a, b)

-- where they end, less where they begin
pub call_wide : (start arity : ℕ) → arity ≡ start + arity - start
call_wide start arity = omega arith

-- the words of a further call
words_more : (count arity : ℕ) (words args : List Word) → length words ≡ count * arity → length args ≡ arity → calls_of (suc count) arity (words ++ args) ≡ calls_of count arity words ++ args ∷ []
words_more zero arity [] args long e = ap (λ l. l ∷ []) (take_all arity args (omega (arith, e)))
words_more zero arity (w ∷ words) args long e = absurd (omega (arith, long))
words_more (suc count) arity words args long e =
    let m = one_more arity count in
    let within : arity ≤ length words = omega (arith, long, m) in
    let dropped = length-drop arity words in
    let rest : length (drop arity words) ≡ count * arity = omega (arith, dropped, long, m) in
    ap (λ l. l ∷ calls_of (suc count) arity (drop arity (words ++ args))) (take-append-le arity words args within)
    ∙ ap (λ l. take arity words ∷ calls_of (suc count) arity l) (drop-append-le arity words args within)
    ∙ ap (λ l. take arity words ∷ l) (words_more count arity (drop arity words) args rest e)

-- the lines up to the rest are the calls of these words
pub record ScriptTo (widths text : List ℕ) (count : ℕ) (words : List Word) (rest : List ℕ) : Type 0 where
  pub lines : List (List ℕ)
  pub long : length lines ≡ count
  pub split : (ls : List (List ℕ)) → HasLines rest ls → HasLines text (lines ++ ls)
  pub are : AreCalls widths lines (calls_of count (length widths) words)
  pub room : length words ≡ count * length widths
  pub small : count + length rest ≤ length text

pub script_none : (widths text : List ℕ) → ScriptTo widths text 0 [] text
script_none widths text = record { lines = []; long = refl; split = λ ls h. h; are = tt; room = omega arith; small = omega arith }

calls_more : (widths : List ℕ) (lines : List (List ℕ)) (calls : List (List Word)) (line : List ℕ) (args : List Word) → AreCalls widths lines calls →
    IsCall widths line args → AreCalls widths (lines ++ line ∷ []) (calls ++ args ∷ [])
calls_more widths [] [] line args a is = (is, tt)
calls_more widths [] (c ∷ calls) line args a is = absurd a
calls_more widths (l ∷ lines) [] line args a is = absurd a
calls_more widths (l ∷ lines) (c ∷ calls) line args a is = (a.0, calls_more widths lines calls line args a.1 is)

module _ (widths text : List ℕ) (count : ℕ) (words : List Word) (rest line behind : List ℕ) (s : ScriptTo widths text count words rest) (some : 0 < length rest) (cut : IsCut 10 rest line behind) where
  pub script_more : (new : List Word) → AppendsCall widths line words new → ScriptTo widths text (count + 1) new behind
  script_more new (args, is, e) =
      let arity = length widths in
      let same : length args ≡ arity = words_long widths is.0 args is.2 in
      let more : calls_of (count + 1) arity new ≡ calls_of count arity words ++ args ∷ [] =
      ap (λ k. calls_of k arity new) (add-one count) ∙ ap (calls_of (suc count) arity) e ∙ words_more count arity words args s.room same in
      record {
        lines = s.lines ++ line ∷ [];
        long = length-append s.lines (line ∷ []) ∙ ap (λ k. k + 1) s.long;
        split = λ ls h. subst (HasLines text) (sym (append_assoc s.lines (line ∷ []) ls)) (s.split (line ∷ ls) (first_line rest line behind some cut ls h));
        are = subst (AreCalls widths (s.lines ++ line ∷ [])) (sym more) (calls_more widths s.lines (calls_of count arity words) line args s.are is);
        room =
            (let a = ap length e ∙ length-append words args in
            let b = s.room in
            let d = one_more arity count in
            let f = ap (λ k. k * arity) (add-one count) in
            omega (arith, a, b, d, f, same));
        small = (let a = s.small in let b = (cut_long 10 rest line behind cut).1 some in omega (arith, a, b));
      }

  pub script_fault : (number : ℕ) (e : ScriptErr) → number ≡ count + 1 → RefusesLine widths line number e → RefusesScript widths text e
  script_fault number e n (inl none) = inl none
  script_fault number e n (inr (f, is, has)) =
      let tail = lines_of behind in
      inr (
        f,
        is,
        record {
          before = s.lines;
          line = line;
          after = tail.0;
          lines = s.split (line ∷ tail.0) (first_line rest line behind some cut tail.0 tail.1);
          calls = calls_of count (length widths) words;
          good = s.are;
          fault = subst (λ k. HasScriptFault widths line k f) (n ∙ ap (λ k. k + 1) (sym s.long)) has;
        },
      )

none_left : (xs : List ℕ) → length xs ≡ 0 → [] ≡ xs
none_left [] e = refl
none_left (x ∷ xs) e = absurd (omega (arith, e))

pub script_done : (widths text : List ℕ) (count : ℕ) (words : List Word) (rest : List ℕ) → ScriptTo widths text count words rest → length rest ≡ 0 →
    IsScript widths text (calls_of count (length widths) words)
script_done widths text count words rest s none =
    (s.lines, subst (HasLines text) (append-nil s.lines) (s.split [] (subst (λ l. HasLines l []) (none_left rest none) no_lines)), s.are)

-- a text is one script, or has one fault
calls_once : (widths : List ℕ) (lines : List (List ℕ)) (xs ys : List (List Word)) → AreCalls widths lines xs → AreCalls widths lines ys → xs ≡ ys
calls_once widths [] [] [] p q = refl
calls_once widths [] [] (y ∷ ys) p q = absurd q
calls_once widths [] (x ∷ xs) ys p q = absurd p
calls_once widths (l ∷ lines) [] ys p q = absurd p
calls_once widths (l ∷ lines) (x ∷ xs) [] p q = absurd q
calls_once widths (l ∷ lines) (x ∷ xs) (y ∷ ys) p q = ap (λ z. z ∷ xs) (call_once widths l x y p.0 q.0) ∙ ap (λ z. y ∷ z) (calls_once widths lines xs ys p.1 q.1)

pub one_script : OneScript
one_script widths text calls others a b = calls_once widths b.0 calls others (subst (λ l. AreCalls widths l calls) (lines_once text a.0 b.0 a.1 b.1) a.2) b.2

call_at : (widths : List ℕ) (lines : List (List ℕ)) (calls : List (List Word)) (k : ℕ) (line : List ℕ) → AreCalls widths lines calls → slice_get lines
    k ≡ Some line → (args : List Word) × IsCall widths line args
call_at widths [] calls k line a e = absurd (cc)
call_at widths (l ∷ lines) [] k line a e = absurd a
call_at widths (l ∷ lines) (c ∷ calls) zero line a e = (c, let q : l ≡ line = cc in subst (λ x. IsCall widths x c) q a.0)
call_at widths (l ∷ lines) (c ∷ calls) (suc k) line a e = call_at widths lines calls k line a.1 e

pub not_both : NotBoth
not_both widths text calls e a f =
    let same = lines_once text a.0 (f.before ++ f.line ∷ f.after) a.1 f.lines in
    let c = call_at widths a.0 calls (length f.before) f.line a.2 (ap (λ l. slice_get l (length f.before)) same ∙ get_seam f.before f.line f.after (length f.before) refl) in
    no_fault widths f.line c.0 (length f.before + 1) e c.1 f.fault

fault_before : (widths text : List ℕ) (e f : ScriptFault) (a : IsScriptFault widths text e) (b : IsScriptFault widths text f) → length a.before < length b.before → ⊥
fault_before widths text e f a b h =
    let same = lines_once text (a.before ++ a.line ∷ a.after) (b.before ++ b.line ∷ b.after) a.lines b.lines in
    let here : slice_get b.before (length a.before) ≡ Some a.line =
    sym (get_in_front b.before (b.line ∷ b.after) (length a.before) h) ∙ ap (λ l. slice_get l (length a.before)) (sym same) ∙ get_seam a.before a.line a.after (length a.before) refl in
    let c = call_at widths b.before b.calls (length a.before) a.line b.good here in
    no_fault widths a.line c.0 (length a.before + 1) e c.1 a.fault

pub one_fault : OneFault
one_fault widths text e f a b = by (lower_same_higher (length a.before) (length b.before))
  where
    by : (length a.before < length b.before) ⊎ ((length a.before ≡ length b.before) ⊎ (length b.before < length a.before)) → e ≡ f
    by (inl h) = absurd (fault_before widths text e f a b h)
    by (inr (inr h)) = absurd (fault_before widths text f e b a h)
    by (inr (inl h)) =
        let same = lines_once text (a.before ++ a.line ∷ a.after) (b.before ++ b.line ∷ b.after) a.lines b.lines in
        let x : Some a.line ≡ Some b.line =
        sym (get_seam a.before a.line a.after (length b.before) h) ∙ ap (λ l. slice_get l (length b.before)) same ∙ get_seam b.before b.line b.after (length b.before) refl in
        let l : a.line ≡ b.line = cc in
        fault_once widths b.line (length b.before + 1) e f (subst (λ k. HasScriptFault widths b.line (k + 1) e) h (subst (λ y. HasScriptFault widths y (length a.before + 1) e) l a.fault)) b.fault

-- whether the rest is empty
pub some_left : (xs : List ℕ) (b : Bool) → b ≡ (length xs == 0) → b ≡ false → 0 < length xs
some_left [] b e f = absurd (true≢false (sym e ∙ f))
some_left (x ∷ xs) b e f = omega arith

pub all_read : (xs : List ℕ) (b : Bool) → b ≡ (length xs == 0) → b ≡ true → length xs ≡ 0
all_read xs b e f = eqb-true (length xs) 0 (sym e ∙ f)
