-- What is found at the front of a text.
use Rattle.safl_vparse.proofs.Common.{Front, Keyword, Symbol, is_digit, measured, slice_rest}
use Rattle.std.proofs.Common.{◌≡◌, ◌≢◌, ℕ, suc, ◌+◌, ◌-◌, ◌<◌, ◌≤◌, List, [], ◌∷◌, length, take, drop, get_or, Bool, true, false, cond, not, ◌==◌}
use Rattle.std.proofs.Common.{◌&&◌, Some, None, Option, refl, sym, ap, ◌∙◌, arith, drop-cons, length-drop, drop-drop}
use Rattle.std.proofs.lemmas.List.{take-append-drop, length-take-le}
use Rattle.std.proofs.lemmas.Bool.{and_parts, le-leb, lt-leb, ne_eqb}
use Rattle.std.proofs.lemmas.Bool.Decides.{Decides-eqb}
use Rattle.safl_word.specs.Tokens.{is_blank}
use Rattle.safl_net.specs.Names.{is_start, is_part}
use Rattle.safl_verilog.specs.declared.token.TokenKind.TheVariants as kinds
use Rattle.safl_verilog.specs.Tokens.{keyword_text, symbol_text, stops, next_base}
use Rattle.safl_verilog.specs.Pieces.{run, named, all_keywords, single_symbols, double_symbols, word_kind, first_bytes, first_word, sized_length}
use Rattle.safl_verilog.specs.Pieces.{first_number, one_symbol, two_symbols, first_symbol, closing, one_more, first_comment, first_piece}
use Rattle.safl_verilog.proofs.Runs.{run_of, named_none}
use Rattle.safl_verilog.proofs.Symbols.{keyword_named}
use Rattle.safl_vparse.specs.declared.front.Front.TheVariants as fronts
use Rattle.safl_word.specs.Runs.{EndsRun, IsRun}

stops_of : (p : ℕ → Bool) (w : List ℕ) → EndsRun p w → stops p w ≡ true
stops_of p [] h = refl
stops_of p (c ∷ w) h = ap not h

pub run_is : (p : ℕ → Bool) (text : List ℕ) (n : ℕ) → IsRun p text n → run p text ≡ n
run_is p text n h =
    ap (run p) (sym (take-append-drop n text)) ∙ run_of p (take n text) (drop n text) h.passes (stops_of p (drop n text) h.ends) ∙ length-take-le n text h.within

-- ---- words

pub kind_keyword : (w : List ℕ) (k : Keyword) → w ≡ keyword_text k → kinds.Keyword k ≡ word_kind (named keyword_text all_keywords w)
kind_keyword w k e = ap word_kind (sym (ap (named keyword_text all_keywords) e ∙ keyword_named k))

pub kind_identifier : (w : List ℕ) → ((k : Keyword) → w ≢ keyword_text k) → kinds.Identifier ≡ word_kind (named keyword_text all_keywords w)
kind_identifier w h = ap word_kind (sym (named_none keyword_text all_keywords w h))

pub word_found : (text : List ℕ) (n : ℕ) → IsRun is_part text n → n ≤ 200 → measured (first_word (run is_part text) text) ≡ fronts.Found (word_kind (named keyword_text all_keywords (take n text))) n
word_found text n h le =
    ap (λ k. measured (first_word k text)) (run_is is_part text n h)
    ∙ ap (λ b. measured (cond b (first_bytes (word_kind (named keyword_text all_keywords (take n text))) n text) None)) (le-leb n 200 le)
    ∙ ap (λ k. fronts.Found (word_kind (named keyword_text all_keywords (take n text))) k) (length-take-le n text h.within)

pub word_long : (text : List ℕ) (n : ℕ) → IsRun is_part text n → 200 < n → measured (first_word (run is_part text) text) ≡ fronts.Stuck
word_long text n h lt =
    ap (λ k. measured (first_word k text)) (run_is is_part text n h)
    ∙ ap (λ b. measured (cond b (first_bytes (word_kind (named keyword_text all_keywords (take n text))) n text) None)) (lt-leb n 200 lt)

-- ---- numbers

pub base_long : (w : List ℕ) (base : ℕ) → next_base w ≡ Some base → 2 ≤ length w
base_long [] base e = absurd cc
base_long (q ∷ []) base e = absurd cc
base_long (q ∷ (b ∷ [])) base e = absurd cc
base_long (q ∷ (b ∷ (d ∷ w))) base e = omega arith

abbrev pub number_front : List ℕ → Front
number_front text = measured (first_number (next_base (drop (run (is_digit 10) text) text)) (run (is_digit 10) text) text)

at_run : (text : List ℕ) (n : ℕ) → IsRun (is_digit 10) text n → (o : Option ℕ) → next_base (drop n text) ≡ o → number_front text ≡ measured (first_number o n text)
at_run text n h o e =
    ap (λ k. measured (first_number (next_base (drop k text)) k text)) (run_is (is_digit 10) text n h) ∙ ap (λ b. measured (first_number b n text)) e

pub number_found : (text : List ℕ) (n : ℕ) → IsRun (is_digit 10) text n → next_base (drop n text) ≡ None → number_front text ≡ fronts.Found kinds.Number n
number_found text n h e = at_run text n h None e ∙ ap (λ k. fronts.Found kinds.Number k) (length-take-le n text h.within)

pub sized_found : (text : List ℕ) (n base count : ℕ) → IsRun (is_digit 10) text n → next_base (drop n text) ≡ Some base → IsRun (is_digit base)
    (drop 2 (drop n text)) count → number_front text ≡ fronts.Found kinds.Sized (n + (2 + count))
sized_found text n base count h e k =
    let two : suc (suc n) ≡ n + 2 = omega arith in
    let moved : drop (suc (suc n)) text ≡ drop 2 (drop n text) = ap (λ k. drop k text) two ∙ sym (drop-drop 2 n text) in
    let r : run (is_digit base) (drop (suc (suc n)) text) ≡ count = ap (run (is_digit base)) moved ∙ run_is (is_digit base) (drop 2 (drop n text)) count k in
    let size : sized_length n base text ≡ n + (2 + count) = ap (λ j. n + suc (suc j)) r ∙ (omega arith) in
    let within : n + (2 + count) ≤ length text = omega (arith, k.within, length-drop 2 (drop n text), length-drop n text, base_long (drop n text) base e) in
    at_run text n h (Some base) e ∙ ap (λ j. fronts.Found kinds.Sized (length (take j text))) size ∙ ap (λ j. fronts.Found kinds.Sized j) (length-take-le (n + (2 + count)) text within)

-- ---- symbols

pub one_missing : (c : ℕ) → ((s : Symbol) → c ∷ [] ≢ symbol_text s) → measured (one_symbol c (named symbol_text single_symbols (c ∷ []))) ≡ fronts.Stuck
one_missing c h = ap (λ o. measured (one_symbol c o)) (named_none symbol_text single_symbols (c ∷ []) h)

pub two_missing : (c d : ℕ) (w : List ℕ) → ((s : Symbol) → c ∷ d ∷ [] ≢ symbol_text s) → measured (first_symbol c (d ∷ w)) ≡ measured (one_symbol c (named symbol_text single_symbols (c ∷ [])))
two_missing c d w h = ap (λ o. measured (two_symbols c d o)) (named_none symbol_text double_symbols (c ∷ d ∷ []) h)

-- ---- the end of a comment

abbrev pub shifted : ℕ → Option ℕ → Option ℕ
shifted n None = None
shifted n (Some k) = Some (n + k)

shifted_more : (n : ℕ) (o : Option ℕ) → shifted n (one_more o) ≡ shifted (suc n) o
shifted_more n None = refl
shifted_more n (Some k) = ap (λ j. Some j) (omega arith)

two_at : (text : List ℕ) (i : ℕ) → 1 ≤ i → i < length text → drop (i - 1) text ≡ get_or text (i - 1) 0 ∷ get_or text i 0 ∷ drop (i + 1) text
two_at text i a b =
    let k : suc (i - 1) ≡ i = omega arith in
    let k2 : suc i ≡ i + 1 = omega arith in
    drop-cons text (i - 1) 0 (omega arith) ∙ ap (λ (l : List ℕ). get_or text (i - 1) 0 ∷ l) (ap (λ j. drop j text) k ∙ drop-cons text i 0 b ∙ ap (λ j. get_or text i 0 ∷ drop j text) k2)

not_both : (a b : ℕ) → (a ≡ 42 → b ≡ 47 → ⊥) → ((a == 42) && (b == 47)) ≡ false
not_both a b h = go ((a == 42) && (b == 47)) refl
  where
    go : (c : Bool) → ((a == 42) && (b == 47)) ≡ c → c ≡ false
    go true e = let p = and_parts (a == 42) (b == 47) e in absurd (h ((Decides-eqb a 42).0 p.0) ((Decides-eqb b 47).0 p.1))
    go false e = refl

pub closing_goes : (text : List ℕ) (i : ℕ) → 1 ≤ i → i < length text → (get_or text (i - 1) 0 ≡ 42 → get_or text i 0 ≡ 47 → ⊥) → closing text ≡
    shifted (i - 1) (closing (drop (i - 1) text)) → closing text ≡ shifted (i + 1 - 1) (closing (drop (i + 1 - 1) text))
closing_goes text i a b other h =
    let e = not_both (get_or text (i - 1) 0) (get_or text i 0) other in
    let k : i + 1 - 1 ≡ i = omega arith in
    let s : suc (i - 1) ≡ i = omega arith in
    let here : closing (drop (i - 1) text) ≡ one_more (closing (get_or text i 0 ∷ drop (i + 1) text)) = ap closing (two_at text i a b) ∙ ap
    (λ c. cond c (Some 0) (one_more (closing (get_or text i 0 ∷ drop (i + 1) text)))) e in
    let next : get_or text i 0 ∷ drop (i + 1) text ≡ drop i text = let k2 : suc i ≡ i + 1 = omega arith in sym (drop-cons text i 0 b ∙ ap (λ j. get_or text i 0 ∷ drop j text) k2) in
    h ∙ ap (shifted (i - 1)) here ∙ shifted_more (i - 1) (closing (get_or text i 0 ∷ drop (i + 1) text)) ∙ ap (λ n. shifted n (closing (get_or text i 0 ∷ drop (i + 1) text))) s
    ∙ ap (λ (l : List ℕ). shifted i (closing l)) next ∙ ap (λ n. shifted n (closing (drop n text))) (sym k)

short_closing : (w : List ℕ) → length w ≤ 1 → closing w ≡ None
short_closing [] h = refl
short_closing (c ∷ []) h = refl
short_closing (c ∷ (d ∷ w)) h = absurd (omega arith)

pub closing_ends : (text : List ℕ) (i : ℕ) → length text ≤ i → closing text ≡ shifted (i - 1) (closing (drop (i - 1) text)) → None ≡ closing text
closing_ends text i a h = sym (h ∙ ap (shifted (i - 1)) (short_closing (drop (i - 1) text) (omega (arith, length-drop (i - 1) text))))

-- ---- comments

pub line_found : (w : List ℕ) (n : ℕ) → IsRun (λ c. not (c == 10)) w n → fronts.Gap (2 + n) ≡ measured (first_comment (47 ∷ w))
line_found w n h = sym (ap (λ k. fronts.Gap (2 + length (take k w))) (run_is (λ c. not (c == 10)) w n h) ∙ ap (λ k. fronts.Gap (2 + k)) (length-take-le n w h.within))

-- ---- a symbol at the front

pub symbol_front : (w : List ℕ) (r : Front) → 1 ≤ length w → is_blank (get_or w 0 0) ≡ false → (get_or w 0 0 ≡ 47 → ⊥) → is_start (get_or w 0 0) ≡
    false → is_digit 10 (get_or w 0 0) ≡ false → r ≡ measured (first_symbol (get_or w 0 0) (take (length w - 1) (drop 1 w))) → r ≡ measured (first_piece w)
unfolding first_piece
symbol_front [] r le a b d e h = absurd (omega arith)
symbol_front (c ∷ w) r le a b d e h =
    let rest : take (length (c ∷ w) - 1) w ≡ w = slice_rest (c ∷ w) 1 le in
    h ∙ ap (λ (l : List ℕ). measured (first_symbol c l)) rest ∙ rw (a, ne_eqb c 47 b, d, e) refl
