-- A prefix of a written text that reads as a netlist is the whole text, with or without its last line feed.
use Rattle.safl_verilog.proofs.Common.{Decides-eqb, IsFile, IsNetlist, Keyword, Netlist, Reads, Symbol, TokenKind, and_parts, append-nil}
use Rattle.safl_verilog.proofs.Common.{base_of, codes, drop-append_seam, flat_map, is_digit, list_all, ◌⊎◌}
use Rattle.std.proofs.Common.{◌≡◌, ℕ, ◌+◌, ◌≤◌, Bool, true, false, not, ◌==◌, List, [], ◌∷◌, ◌++◌, length, Some, None, refl, sym, ap, subst, ◌∙◌, arith, lit≤, inl, inr, append_assoc, length-append}
use Rattle.std.proofs.Math.ListN.{drop}
use Rattle.std.proofs.lemmas.List.Folds.{list_all-append}
use Rattle.safl_net.specs.Names.{is_start, is_part, are_parts, is_identifier}
use Rattle.safl_net.specs.Written.{written}
use Rattle.safl_verilog.specs.declared.token.Keyword.TheVariants as keywords
use Rattle.safl_verilog.specs.declared.token.Symbol.TheVariants as symbols
use Rattle.safl_verilog.specs.declared.token.TokenKind.TheVariants as kinds
use Rattle.safl_verilog.specs.Tokens.{keyword_text, symbol_text, IsSized, IsVerilogToken, VerilogPiece, Blank, Line, Block}
use Rattle.safl_verilog.specs.Tokens.{Lexeme, piece_text, text_of_all, StandsInVerilog, StandAll, VerilogTerminal, tokens_from, HasVerilogTokens}
use Rattle.safl_verilog.specs.Pieces.{named, all_keywords, word_kind}
use Rattle.safl_verilog.specs.Files.{Spot, Declaration, Statement, File}
use Rattle.safl_verilog.specs.Codes.{keyword_code, symbol_code, code_of}
use Rattle.safl_verilog.proofs.Runs.{other_than, are_parts-all}
use Rattle.safl_verilog.proofs.Found.{word_kinds}
use Rattle.safl_verilog.proofs.Texts.{same_pieces, final_end, split}
use Rattle.safl_verilog.proofs.Grammar.{no_shorter}
use Rattle.safl_verilog.proofs.Printed.{space, line_end, kw, sy, id, spot_of, declaration_pieces, statement_pieces, port_pieces, last_pieces, body_pieces, header_end, file_pieces}
use Rattle.safl_verilog.proofs.PrintedStands.{text_append, stand_append}
use Rattle.safl_verilog.proofs.PrintedReads.{behind, tokens_append}
use Rattle.safl_verilog.proofs.WrittenLaid.{written_laid}
use Rattle.safl_verilog.proofs.Fronts.{Front, Inside, front_of}
use Rattle.safl_verilog.proofs.Endings.{EndsFile, file_ends}
use Rattle.safl_verilog.proofs.InPlace.{in_place, file_in_place, no_comment, no_name_behind}

-- ---- lists that end alike

nothing_behind : {A : Type 0} (a : List A) (t : A) → a ++ t ∷ [] ≡ [] → ⊥
nothing_behind [] t e = cc
nothing_behind (x ∷ a) t e = cc

all_but_last : {A : Type 0} (a b : List A) (t s e : A) → a ++ t ∷ [] ≡ b ++ s ∷ e ∷ [] → a ≡ b ++ s ∷ []
all_but_last [] [] t s e h = absurd cc
all_but_last [] (x ∷ b) t s e h = absurd (let none : b ++ s ∷ e ∷ [] ≡ [] = cc in nothing_behind (b ++ s ∷ []) e (append_assoc b (s ∷ []) (e ∷ []) ∙ none))
all_but_last (x ∷ []) [] t s e h = let same : x ≡ s = cc in ap (λ y. y ∷ []) same
all_but_last (x ∷ (y ∷ a)) [] t s e h = absurd (let none : a ++ t ∷ [] ≡ [] = cc in nothing_behind a t none)
all_but_last (x ∷ a) (y ∷ b) t s e h =
    let first : x ≡ y = cc in
    let more : a ++ t ∷ [] ≡ b ++ s ∷ e ∷ [] = cc in
    ap (λ z. z ∷ a) first ∙ ap (λ l. y ∷ l) (all_but_last a b t s e more)

-- the second of two lists is empty, or it has the last element
last_of : {A : Type 0} (a b before : List A) (s e : A) → a ++ b ≡ before ++ s ∷ e ∷ [] → (b ≡ []) ⊎ ((c : List A) × (b ≡ c ++ e ∷ []))
last_of [] b before s e h = inr (before ++ s ∷ [], h ∙ sym (append_assoc before (s ∷ []) (e ∷ [])))
last_of (x ∷ []) b [] s e h = inr ([], cc)
last_of (x ∷ (y ∷ [])) b [] s e h = inl cc
last_of (x ∷ (y ∷ (z ∷ a))) b [] s e h = absurd cc
last_of (x ∷ a) b (y ∷ before) s e h = let more : a ++ b ≡ before ++ s ∷ e ∷ [] = cc in last_of a b before s e more

-- ---- the end of a file

some_token : (xs : List VerilogPiece) (p : ℕ) → tokens_from p (xs ++ last_pieces) ≡ [] → ⊥
some_token [] p e = cc
some_token (Blank c ∷ xs) p e = some_token xs (p + 1) e
some_token (Line w ∷ xs) p e = some_token xs (p + length (piece_text (Line w))) e
some_token (Block w ∷ xs) p e = some_token xs (p + length (piece_text (Block w))) e
some_token (Lexeme k w ∷ xs) p e = cc

-- after its last token a file has no more than its last line feed
left_over : (done more before : List VerilogPiece) (p : ℕ) → done ++ more ≡ before ++ last_pieces → tokens_from p more ≡ [] → (more ≡ []) ⊎ (more ≡ line_end ∷ [])
left_over [] more before p e t = absurd (some_token before p (ap (tokens_from p) (sym e) ∙ t))
left_over (c ∷ []) more [] p e t = inr cc
left_over (c ∷ (d ∷ [])) more [] p e t = inl cc
left_over (c ∷ (d ∷ (x ∷ done))) more [] p e t = absurd cc
left_over (c ∷ done) more (x ∷ before) p e t = let rest : done ++ more ≡ before ++ last_pieces = cc in left_over done more before p rest t

abbrev Closes : List VerilogPiece → Type 0
Closes xs = (before : List VerilogPiece) × (xs ≡ before ++ last_pieces)

closes_behind : (xs ys : List VerilogPiece) → Closes ys → Closes (xs ++ ys)
closes_behind xs ys (before, e) = (xs ++ before, ap (λ (l : List VerilogPiece). xs ++ l) e ∙ sym (append_assoc xs before last_pieces))

body_closes : (ds : List Declaration) (ss : List Statement) → Closes (body_pieces ds ss)
body_closes ds ss = closes_behind (flat_map declaration_pieces ds) (flat_map statement_pieces ss ++ last_pieces) (flat_map statement_pieces ss, refl)

header_closes : (body : List VerilogPiece) → Closes body → Closes (header_end body)
header_closes body (before, e) = (header_end before, ap header_end e)

abbrev opening : Spot → List VerilogPiece
opening x = kw keywords.Module ∷ space ∷ id (spot_of (codes "safl")) ∷ space ∷ sy symbols.OpenParen ∷ id x ∷ []

file_closes : (x : Spot) (xs : List Spot) (ds : List Declaration) (ss : List Statement) → Closes (file_pieces x xs ds ss)
file_closes x xs ds ss =
    closes_behind (opening x) (flat_map port_pieces xs ++ header_end (body_pieces ds ss))
    (closes_behind (flat_map port_pieces xs) (header_end (body_pieces ds ss)) (header_closes (body_pieces ds ss) (body_closes ds ss)))

-- ---- the word `endmodule`

keyword_five : (k : Keyword) → keyword_code k ≡ 5 → keyword_text k ≡ codes "endmodule"
keyword_five keywords.Module e = absurd (omega (arith, e))
keyword_five keywords.Endmodule e = refl
keyword_five keywords.Input e = absurd (omega (arith, e))
keyword_five keywords.Output e = absurd (omega (arith, e))
keyword_five keywords.Reg e = absurd (omega (arith, e))
keyword_five keywords.Wire e = absurd (omega (arith, e))
keyword_five keywords.Assign e = absurd (omega (arith, e))
keyword_five keywords.Always e = absurd (omega (arith, e))
keyword_five keywords.Posedge e = absurd (omega (arith, e))
keyword_five keywords.If e = absurd (omega (arith, e))
keyword_five keywords.Else e = absurd (omega (arith, e))

symbol_five : (s : Symbol) → symbol_code s ≡ 5 → ⊥
symbol_five symbols.OpenParen e = omega (arith, e)
symbol_five symbols.CloseParen e = omega (arith, e)
symbol_five symbols.Comma e = omega (arith, e)
symbol_five symbols.Semicolon e = omega (arith, e)
symbol_five symbols.OpenBracket e = omega (arith, e)
symbol_five symbols.CloseBracket e = omega (arith, e)
symbol_five symbols.Colon e = omega (arith, e)
symbol_five symbols.Becomes e = omega (arith, e)
symbol_five symbols.Tilde e = omega (arith, e)
symbol_five symbols.Question e = omega (arith, e)
symbol_five symbols.OpenBrace e = omega (arith, e)
symbol_five symbols.CloseBrace e = omega (arith, e)
symbol_five symbols.At e = omega (arith, e)
symbol_five symbols.Plus e = omega (arith, e)
symbol_five symbols.Minus e = omega (arith, e)
symbol_five symbols.Star e = omega (arith, e)
symbol_five symbols.Ampersand e = omega (arith, e)
symbol_five symbols.Bar e = omega (arith, e)
symbol_five symbols.Caret e = omega (arith, e)
symbol_five symbols.Equal e = omega (arith, e)
symbol_five symbols.NotEqual e = omega (arith, e)
symbol_five symbols.Less e = omega (arith, e)
symbol_five symbols.LessEqual e = omega (arith, e)
symbol_five symbols.Greater e = omega (arith, e)
symbol_five symbols.GreaterEqual e = omega (arith, e)
symbol_five symbols.ShiftLeft e = omega (arith, e)
symbol_five symbols.ShiftRight e = omega (arith, e)

symbol_most : (s : Symbol) → length (symbol_text s) ≤ 2
symbol_most symbols.OpenParen = lit≤ tt
symbol_most symbols.CloseParen = lit≤ tt
symbol_most symbols.Comma = lit≤ tt
symbol_most symbols.Semicolon = lit≤ tt
symbol_most symbols.OpenBracket = lit≤ tt
symbol_most symbols.CloseBracket = lit≤ tt
symbol_most symbols.Colon = lit≤ tt
symbol_most symbols.Becomes = lit≤ tt
symbol_most symbols.Tilde = lit≤ tt
symbol_most symbols.Question = lit≤ tt
symbol_most symbols.OpenBrace = lit≤ tt
symbol_most symbols.CloseBrace = lit≤ tt
symbol_most symbols.At = lit≤ tt
symbol_most symbols.Plus = lit≤ tt
symbol_most symbols.Minus = lit≤ tt
symbol_most symbols.Star = lit≤ tt
symbol_most symbols.Ampersand = lit≤ tt
symbol_most symbols.Bar = lit≤ tt
symbol_most symbols.Caret = lit≤ tt
symbol_most symbols.Equal = lit≤ tt
symbol_most symbols.NotEqual = lit≤ tt
symbol_most symbols.Less = lit≤ tt
symbol_most symbols.LessEqual = lit≤ tt
symbol_most symbols.Greater = lit≤ tt
symbol_most symbols.GreaterEqual = lit≤ tt
symbol_most symbols.ShiftLeft = lit≤ tt
symbol_most symbols.ShiftRight = lit≤ tt

keyword_most : (k : Keyword) → length (keyword_text k) ≤ 9
keyword_most keywords.Module = lit≤ tt
keyword_most keywords.Endmodule = lit≤ tt
keyword_most keywords.Input = lit≤ tt
keyword_most keywords.Output = lit≤ tt
keyword_most keywords.Reg = lit≤ tt
keyword_most keywords.Wire = lit≤ tt
keyword_most keywords.Assign = lit≤ tt
keyword_most keywords.Always = lit≤ tt
keyword_most keywords.Posedge = lit≤ tt
keyword_most keywords.If = lit≤ tt
keyword_most keywords.Else = lit≤ tt

word_of_five : (k : TokenKind) (w rest : List ℕ) → IsVerilogToken k w rest → code_of k ≡ 5 → w ≡ codes "endmodule"
word_of_five kinds.Identifier w rest h e = absurd (omega (arith, e))
word_of_five kinds.Number w rest h e = absurd (omega (arith, e))
word_of_five kinds.Sized w rest h e = absurd (omega (arith, e))
word_of_five (kinds.Keyword k) w rest h e = h.0 ∙ keyword_five k e
word_of_five (kinds.Symbol s) w rest h e = absurd (symbol_five s e)

-- a text with the word in it
pub record Holds (w : List ℕ) : Type 0 where
  pub before : List ℕ
  pub behind : List ℕ
  pub joined : w ≡ before ++ (codes "endmodule" ++ behind)

holds_behind : (u v : List ℕ) → Holds v → Holds (u ++ v)
holds_behind u v h = record { before = u ++ h.before; behind = h.behind; joined = ap (λ (l : List ℕ). u ++ l) h.joined ∙ sym (append_assoc u h.before (codes "endmodule" ++ h.behind)) }

-- pieces whose last token is the word have it in their text
held : (xs : List VerilogPiece) (p : ℕ) (before : List VerilogTerminal) (t : VerilogTerminal) → StandAll xs [] → tokens_from p xs ≡ before ++ t ∷ [] → code_of t.kind ≡ 5 → Holds (text_of_all xs)
held [] p before t h e c = absurd (nothing_behind before t (sym e))
held (Blank d ∷ xs) p before t h e c = holds_behind (d ∷ []) (text_of_all xs) (held xs (p + 1) before t h.1 e c)
held (Line w ∷ xs) p before t h e c = holds_behind (piece_text (Line w)) (text_of_all xs) (held xs (p + length (piece_text (Line w))) before t h.1 e c)
held (Block w ∷ xs) p before t h e c = holds_behind (piece_text (Block w)) (text_of_all xs) (held xs (p + length (piece_text (Block w))) before t h.1 e c)
held (Lexeme k w ∷ xs) p [] t h e c =
    let same : record { place = p; kind = k; bytes = w } ≡ t = cc in
    let code : code_of k ≡ 5 = ap (λ (x : VerilogTerminal). code_of x.kind) same ∙ c in
    record { before = []; behind = text_of_all xs; joined = ap (λ (l : List ℕ). l ++ text_of_all xs) (word_of_five k w (text_of_all xs ++ []) h.0 code) }
held (Lexeme k w ∷ xs) p (b ∷ before) t h e c =
    let more : tokens_from (p + length w) xs ≡ before ++ t ∷ [] = cc in
    holds_behind w (text_of_all xs) (held xs (p + length w) before t h.1 more c)

-- its letter `m`, which is in no number
abbrev other : ℕ → Bool
other c = not (c == 109)

digits_other : (base : ℕ) (w : List ℕ) → list_all (is_digit base) w ≡ true → list_all other w ≡ true
digits_other base [] h = refl
digits_other base (c ∷ w) h =
    let a = and_parts (is_digit base c) (list_all (is_digit base) w) h in
    rw (other_than (is_digit base) c 109 a.0 refl, digits_other base w a.1) refl

letter_other : (c base : ℕ) → base_of c ≡ Some base → (c == 109) ≡ false
letter_other c base h = go (c == 109) refl
  where
    go : (b : Bool) → (c == 109) ≡ b → b ≡ false
    go true e = let same : c ≡ 109 = (Decides-eqb c 109).0 e in let none : None ≡ Some base = ap base_of (sym same) ∙ h in absurd cc
    go false e = refl

both_other : (u v : List ℕ) → list_all other u ≡ true → list_all other v ≡ true → list_all other (u ++ v) ≡ true
both_other u v h k = rw (list_all-append other u v, h, k) refl

sized_other : (w rest : List ℕ) → IsSized w rest → list_all other w ≡ true
sized_other w rest (p, joined, like, longest) =
    let tail : list_all other (39 ∷ p.letter ∷ p.digits) ≡ true = rw (letter_other p.letter p.base like.based, digits_other p.base p.digits like.digits.digits) refl in
    subst (λ (l : List ℕ). list_all other l ≡ true) (sym joined) (both_other p.width (39 ∷ p.letter ∷ p.digits) (digits_other 10 p.width like.width.digits) tail)

no_word : (w u v : List ℕ) → list_all other w ≡ true → w ≡ u ++ v → Holds u → ⊥
no_word w u v h e k =
    let word = codes "endmodule" ++ k.behind in
    let all : list_all other ((k.before ++ word) ++ v) ≡ true = ap (list_all other) (sym (e ∙ ap (λ (l : List ℕ). l ++ v) k.joined)) ∙ h in
    let front = and_parts (list_all other (k.before ++ word)) (list_all other v) (sym (list_all-append other (k.before ++ word) v) ∙ all) in
    let back = and_parts (list_all other k.before) (list_all other word) (sym (list_all-append other k.before word) ∙ front.0) in
    let clash : false ≡ true = back.1 in
    cc

too_short : (w u v : List ℕ) → length w ≤ 9 → w ≡ u ++ v → 1 ≤ length v → Holds u → ⊥
too_short w u v h e some k =
    let a = ap length e ∙ length-append u v in
    let b = ap length k.joined ∙ length-append k.before (codes "endmodule" ++ k.behind) in
    omega (arith, h, some, a, b)

-- ---- fronts of a name

name_front : (w u v : List ℕ) → is_identifier w ≡ true → w ≡ u ++ v → 1 ≤ length u → is_identifier u ≡ true
name_front w [] v h e some = absurd (omega (arith, some))
name_front w (c ∷ u) v h e some =
    let a = and_parts (is_start c) (are_parts (u ++ v)) (ap is_identifier (sym e) ∙ h) in
    let b = and_parts (list_all is_part u) (list_all is_part v) (sym (list_all-append is_part u v) ∙ sym (are_parts-all (u ++ v)) ∙ a.1) in
    rw (a.0, are_parts-all u, b.0) refl

-- ---- a front of a file

abbrev Final : List ℕ → Type 0
Final r = (x : VerilogPiece) (after : List ℕ) → r ≡ piece_text x ++ after → ¬ StandsInVerilog x after

cut_as : (f : List ℕ) (ts : List VerilogTerminal) (xs : List VerilogPiece) (r : List ℕ) → HasVerilogTokens f ts → f ≡ text_of_all xs ++ r → StandAll xs r → Final r → (ts ≡ tokens_from 0 xs) × (r ≡ [])
cut_as f ts xs r c e h g =
    let same = same_pieces c.pieces xs [] r c.stand h final_end g (append-nil (text_of_all c.pieces) ∙ sym c.joined ∙ e) in
    (c.tokens ∙ ap (tokens_from 0) same.0, sym same.1)

module _ (P : List VerilogPiece) (stand : StandAll P []) (b : File) (file : IsFile (tokens_from 0 P) b) (closes : Closes P) (place : in_place false P ≡ true)
    (f r : List ℕ) (text : text_of_all P ≡ f ++ r) (ts : List VerilogTerminal) (cut : HasVerilogTokens f ts) (a : File) (read : IsFile ts a) where
  ends : EndsFile ts
  ends = file_ends ts a read.derived.1

  -- where the tokens of the front are those of the pieces, no token is left
  none_left : (xs more : List VerilogPiece) → P ≡ xs ++ more → ts ≡ tokens_from 0 xs → tokens_from (behind 0 xs) more ≡ []
  none_left xs more j t =
      let whole : tokens_from 0 P ≡ ts ++ tokens_from (behind 0 xs) more =
      ap (tokens_from 0) j ∙ tokens_append xs more 0 ∙ ap (λ (l : List VerilogTerminal). l ++ tokens_from (behind 0 xs) more) (sym t) in
      no_shorter ts (tokens_from (behind 0 xs) more) a b read.derived.1 (subst (λ (l : List VerilogTerminal). IsFile l b) whole file)

  at_seam : (k : Front P f) → k.part ≡ [] → (r ≡ []) ⊎ (r ≡ 10 ∷ [])
  at_seam k e =
      let here : f ≡ text_of_all k.pieces ++ [] = k.text ∙ ap (λ (l : List ℕ). text_of_all k.pieces ++ l) e in
      let c = cut_as f ts k.pieces [] cut here (subst (λ (l : List ℕ). StandAll k.pieces l) e k.stand) final_end in
      let none = none_left k.pieces k.more k.joined c.0 in
      let left = left_over k.pieces k.more closes.0 (behind 0 k.pieces) (sym k.joined ∙ closes.1) none in
      let halves : text_of_all k.pieces ++ r ≡ text_of_all k.pieces ++ text_of_all k.more =
      ap (λ (l : List ℕ). l ++ r) (sym (here ∙ append-nil (text_of_all k.pieces))) ∙ sym text ∙ ap text_of_all k.joined ∙ text_append k.pieces k.more in
      let rest : r ≡ text_of_all k.more =
      sym (drop-append_seam (text_of_all k.pieces) r) ∙ ap (λ (l : List ℕ). drop (length (text_of_all k.pieces)) l) halves ∙ drop-append_seam (text_of_all k.pieces) (text_of_all k.more) in
      elim left [ inl m ↦ inl (rest ∙ ap text_of_all m) | inr m ↦ inr (rest ∙ ap text_of_all m) ]

  -- the pieces of a part, of which the last token is the file's last
  record Part (xs : List VerilogPiece) (u : List ℕ) : Type 0 where
    pieces : List VerilogPiece
    joined : u ≡ text_of_all pieces
    stands : StandAll pieces []
    before : List VerilogTerminal
    tokens : tokens_from (behind 0 xs) pieces ≡ before ++ ends.last ∷ []
    all : ts ≡ tokens_from 0 xs ++ tokens_from (behind 0 xs) pieces

  part_of : (xs more : List VerilogPiece) (u : List ℕ) → P ≡ xs ++ more → f ≡ text_of_all xs ++ u → StandAll xs u → (tokens_from (behind 0 xs) more ≡ [] → ⊥) → Part xs u
  part_of xs more u j e h some =
      let s = split u in
      let joined : f ≡ text_of_all (xs ++ s.pieces) ++ s.rest =
      e ∙ ap (λ (l : List ℕ). text_of_all xs ++ l) s.joined ∙ sym (append_assoc (text_of_all xs) (text_of_all s.pieces) s.rest) ∙ ap (λ (l : List ℕ). l ++ s.rest) (sym (text_append xs s.pieces)) in
      let stands = stand_append xs s.pieces s.rest (subst (λ (l : List ℕ). StandAll xs l) s.joined h) s.stand in
      let c = cut_as f ts (xs ++ s.pieces) s.rest cut joined stands s.final in
      let all : ts ≡ tokens_from 0 xs ++ tokens_from (behind 0 xs) s.pieces = c.0 ∙ tokens_append xs s.pieces 0 in
      elim (last_of (tokens_from 0 xs) (tokens_from (behind 0 xs) s.pieces) ends.before ends.semicolon ends.last (sym all ∙ ends.joined)) [
        | inl none ↦ absurd (some (none_left xs more j (all ∙ ap (λ (l : List VerilogTerminal). tokens_from 0 xs ++ l) none ∙ append-nil (tokens_from 0 xs))))
        | inr k ↦ record {
          pieces = s.pieces;
          joined = s.joined ∙ ap (λ (l : List ℕ). text_of_all s.pieces ++ l) c.1 ∙ append-nil (text_of_all s.pieces);
          stands = subst (λ (l : List ℕ). StandAll s.pieces l) c.1 s.stand;
          before = k.0;
          tokens = k.1;
          all = all;
        }
      ]

  holds : (xs : List VerilogPiece) (u : List ℕ) → Part xs u → Holds u
  holds xs u p = subst (λ (l : List ℕ). Holds l) (sym p.joined) (held p.pieces (behind 0 xs) p.before ends.last p.stands p.tokens ends.is)

  -- a part of a name is one word, which cannot end a file
  in_name : (w : List ℕ) (later xs : List VerilogPiece) (u v : List ℕ) → P ≡ xs ++ Lexeme kinds.Identifier w ∷ later → is_identifier w ≡ true → length w ≤ 200 → w ≡ u ++ v
      → 1 ≤ length u → Part xs u → ⊥
  in_name w later xs u v j like short e some p =
      let size = ap length e ∙ length-append u v in
      let o = named keyword_text all_keywords u in
      let stands = word_kinds u [] (name_front w u v like e some) (omega (arith, short, size)) refl o refl in
      let one : List VerilogPiece = Lexeme (word_kind o) u ∷ [] in
      let texts : text_of_all p.pieces ++ [] ≡ text_of_all one ++ [] = ap (λ (l : List ℕ). l ++ []) (sym p.joined ∙ sym (append-nil u)) in
      let same = same_pieces p.pieces one [] [] p.stands (stands, tt) final_end final_end texts in
      let tokens : ts ≡ tokens_from 0 xs ++ record { place = behind 0 xs; kind = word_kind o; bytes = u } ∷ [] = p.all ∙ ap
      (λ (l : List VerilogPiece). tokens_from 0 xs ++ tokens_from (behind 0 xs) l) same.0 in
      let front = all_but_last (tokens_from 0 xs) ends.before _ ends.semicolon ends.last (sym tokens ∙ ends.joined) in
      no_name_behind xs false w later 0 ends.before ends.semicolon (ap (in_place false) (sym j) ∙ place) front ends.closes

  in_token : (k : TokenKind) (w : List ℕ) (later xs : List VerilogPiece) (u : List ℕ) (next : ℕ) (left : List ℕ) → P ≡ xs ++ Lexeme k w ∷ later → IsVerilogToken k w
      (text_of_all later ++ []) → w ≡ u ++ next ∷ left → 1 ≤ length u → Part xs u → ⊥
  in_token kinds.Identifier w later xs u next left j h e some p = in_name w later xs u (next ∷ left) j h.0.like h.0.short e some p
  in_token kinds.Number w later xs u next left j h e some p = no_word w u (next ∷ left) (digits_other 10 w h.0.digits) e (holds xs u p)
  in_token kinds.Sized w later xs u next left j h e some p = no_word w u (next ∷ left) (sized_other w (text_of_all later ++ []) h) e (holds xs u p)
  in_token (kinds.Keyword k) w later xs u next left j h e some p =
      let size = ap length h.0 in let most = keyword_most k in too_short w u (next ∷ left) (omega (arith, size, most)) e (omega arith) (holds xs u p)
  in_token (kinds.Symbol s) w later xs u next left j h e some p =
      let size = ap length h.0 in let most = symbol_most s in too_short w u (next ∷ left) (omega (arith, size, most)) e (omega arith) (holds xs u p)

  inside : (x : VerilogPiece) (later xs : List VerilogPiece) (u : List ℕ) (next : ℕ) (left : List ℕ) → P ≡ xs ++ x ∷ later → StandsInVerilog x
      (text_of_all later ++ []) → piece_text x ≡ u ++ next ∷ left → f ≡ text_of_all xs ++ u → StandAll xs u → 1 ≤ length u → ⊥
  inside (Blank c) later xs u next left j h e t s some = let size = ap length e ∙ length-append u (next ∷ left) in omega (arith, size, some)
  inside (Line w) later xs u next left j h e t s some = let clash : true ≡ false = no_comment xs false (Line w) later (ap (in_place false) (sym j) ∙ place) in cc
  inside (Block w) later xs u next left j h e t s some = let clash : true ≡ false = no_comment xs false (Block w) later (ap (in_place false) (sym j) ∙ place) in cc
  inside (Lexeme k w) later xs u next left j h e t s some = in_token k w later xs u next left j h e some (part_of xs (Lexeme k w ∷ later) u j t s (λ none. cc))

  pub shorter_file : (r ≡ []) ⊎ (r ≡ 10 ∷ [])
  shorter_file = let k = front_of P f r stand (append-nil (text_of_all P) ∙ text) in go k k.ends
    where
      some_part : (k : Front P f) (i : Inside k.part k.more) (u : List ℕ) → k.part ≡ u → (r ≡ []) ⊎ (r ≡ 10 ∷ [])
      some_part k i [] e = at_seam k e
      some_part k i (c ∷ u) e =
          let some : 1 ≤ length k.part = let size = ap length e in omega (arith, size) in
          absurd (inside i.piece i.later k.pieces k.part i.next i.left (k.joined ∙ ap (λ (l : List VerilogPiece). k.pieces ++ l) i.parts) i.stands i.cut k.text k.stand some)

      go : (k : Front P f) → (k.part ≡ []) ⊎ Inside k.part k.more → (r ≡ []) ⊎ (r ≡ 10 ∷ [])
      go k (inl e) = at_seam k e
      go k (inr i) = some_part k i k.part refl

pub no_shorter_text : (n m : Netlist) (f r : List ℕ) → IsNetlist n → written n ≡ f ++ r → Reads f m → (r ≡ []) ⊎ (r ≡ 10 ∷ [])
no_shorter_text n m f r net e h =
    let l = written_laid n net in
    shorter_file (file_pieces l.port l.ports l.declarations l.statements) l.stand l.file l.derived
    (file_closes l.port l.ports l.declarations l.statements) (file_in_place l.port l.ports l.declarations l.statements)
    f r (l.text ∙ e) h.tokens h.cut h.file h.derived
