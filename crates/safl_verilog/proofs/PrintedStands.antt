-- The pieces of a written file stand one before the other.
use Rattle.safl_verilog.proofs.Common.{Each, Keyword, Symbol, codes, each_stands, is_digit, is_part}
use Rattle.std.proofs.Common.{◌≡◌, ◌≢◌, ℕ, List, [], ◌∷◌, ◌++◌, Bool, true, false, ◌==◌, ◌||◌, Some, None, Option, refl, sym, ap, subst, ◌∙◌, append_assoc}
use Rattle.std.proofs.Common.{lit≤}
use Rattle.std.specs.List.{flat_map, list_any}
use Rattle.safl_verilog.specs.declared.token.Symbol.TheVariants as symbols
use Rattle.safl_verilog.specs.Tokens.{keyword_text, symbol_text, stops, next_base, IsSized, VerilogPiece, piece_text, text_of_all, StandsInVerilog, StandAll}
use Rattle.safl_verilog.specs.Files.{Spot, RightSide, Literal, Plain, Inverted, Binary, Choice, Joined, Slice, Declaration, Statement, Assign, Always}
use Rattle.safl_verilog.specs.Pieces.{named, double_symbols}
use Rattle.safl_verilog.proofs.Symbols.{double_named}
use Rattle.safl_verilog.proofs.Found.{no_keyword}
use Rattle.safl_verilog.proofs.Printed.{line_end, sy, symbol_of, range_pieces, declaration_end, declaration_pieces, expression_pieces}
use Rattle.safl_verilog.proofs.Printed.{statement_pieces, port_pieces, last_pieces, body_pieces, header_end, file_pieces, IsWritten, IsName}
use Rattle.safl_verilog.proofs.Printed.{FineRange, FineDeclaration, FineExpression, FineStatement}

pub text_append : (xs ys : List VerilogPiece) → text_of_all (xs ++ ys) ≡ text_of_all xs ++ text_of_all ys
text_append [] ys = refl
text_append (x ∷ xs) ys = ap (λ (l : List ℕ). piece_text x ++ l) (text_append xs ys) ∙ sym (append_assoc (piece_text x) (text_of_all xs) (text_of_all ys))

pub stand_append : (xs ys : List VerilogPiece) (r : List ℕ) → StandAll xs (text_of_all ys ++ r) → StandAll ys r → StandAll (xs ++ ys) r
stand_append [] ys r h k = k
stand_append (x ∷ xs) ys r h k =
    let e : text_of_all xs ++ (text_of_all ys ++ r) ≡ text_of_all (xs ++ ys) ++ r = sym (append_assoc (text_of_all xs) (text_of_all ys) r) ∙ ap (λ (l : List ℕ). l ++ r) (sym (text_append xs ys)) in
    (subst (λ (l : List ℕ). StandsInVerilog x l) e h.0, stand_append xs ys r h.1 k)

pub stand_each : {X : Type 0} (item : X → List VerilogPiece) (xs : List X) (r : List ℕ) → Each (λ x. (s : List ℕ) → StandAll (item x) s) xs → StandAll (flat_map item xs) r
stand_each item [] r h = tt
stand_each item (x ∷ xs) r h = stand_append (item x) (flat_map item xs) r (h.0 (text_of_all (flat_map item xs) ++ r)) (stand_each item xs r h.1)

-- ---- single pieces

-- a symbol of one byte that begins no longer one
alone : (s : Symbol) (a : ℕ) (rest : List ℕ) → symbol_text s ≡ a ∷ [] → ((c : ℕ) → named symbol_text double_symbols (a ∷ c ∷ []) ≡ None) → StandsInVerilog (sy s) rest
alone s a rest e h = (
  refl,
  λ t c v f g.
      let text : symbol_text t ≡ a ∷ c ∷ [] = g ∙ ap (λ (l : List ℕ). l ++ c ∷ []) e in
      let found = sym (h c) ∙ ap (named symbol_text double_symbols) (sym text) ∙ double_named t a c text in
      let clash : None ≡ Some t = found in
      cc,
)

abbrev has_space : List ℕ → Bool
has_space w = list_any (λ c. c == 32) w

spaced_end : (w : List ℕ) → has_space (w ++ 32 ∷ []) ≡ true
spaced_end [] = refl
spaced_end (c ∷ w) = let h = spaced_end w in go (c == 32) h
  where
    go : (b : Bool) → has_space (w ++ 32 ∷ []) ≡ true → (b || has_space (w ++ 32 ∷ [])) ≡ true
    go true h = refl
    go false h = h

no_space : (t : Symbol) → has_space (symbol_text t) ≡ false
no_space symbols.OpenParen = refl
no_space symbols.CloseParen = refl
no_space symbols.Comma = refl
no_space symbols.Semicolon = refl
no_space symbols.OpenBracket = refl
no_space symbols.CloseBracket = refl
no_space symbols.Colon = refl
no_space symbols.Becomes = refl
no_space symbols.Tilde = refl
no_space symbols.Question = refl
no_space symbols.OpenBrace = refl
no_space symbols.CloseBrace = refl
no_space symbols.At = refl
no_space symbols.Plus = refl
no_space symbols.Minus = refl
no_space symbols.Star = refl
no_space symbols.Ampersand = refl
no_space symbols.Bar = refl
no_space symbols.Caret = refl
no_space symbols.Equal = refl
no_space symbols.NotEqual = refl
no_space symbols.Less = refl
no_space symbols.LessEqual = refl
no_space symbols.Greater = refl
no_space symbols.GreaterEqual = refl
no_space symbols.ShiftLeft = refl
no_space symbols.ShiftRight = refl

-- a symbol before a space
spaced : (s : Symbol) (rest : List ℕ) → StandsInVerilog (sy s) (32 ∷ rest)
spaced s rest = (
  refl,
  λ t c v f g.
      let same : 32 ≡ c = cc in
      let text : symbol_text t ≡ symbol_text s ++ 32 ∷ [] = g ∙ ap (λ k. symbol_text s ++ k ∷ []) (sym same) in
      let clash : false ≡ true = sym (no_space t) ∙ ap has_space text ∙ spaced_end (symbol_text s) in
      cc,
)

no_quote : (q : ℕ) (rest : List ℕ) → (q == 39) ≡ false → next_base (q ∷ rest) ≡ None
no_quote q [] h = refl
no_quote q (b ∷ []) h = refl
no_quote q (b ∷ (d ∷ rest)) h = rw h refl

written_stands : (x : Spot) (c : ℕ) (rest : List ℕ) → IsWritten x.bytes → is_digit 10 c ≡ false → IsSized x.bytes (c ∷ rest)
written_stands x c rest h e = (
  record { width = h.width; letter = 100; base = 10; digits = h.bits },
  h.joined,
  record { based = refl; width = h.width_numeral; digits = h.bits_numeral },
  rw e refl,
)

-- ---- declarations

declaration_end_stands : (x : Spot) (r : List ℕ) → IsName x → StandAll (declaration_end x) r
declaration_end_stands x r h = ((h, refl), (alone symbols.Semicolon 59 _ refl (λ c. refl), (refl, tt)))

range_stands : (o : Option (Spot × Spot)) (r : List ℕ) → FineRange o → StandAll (range_pieces o) r
range_stands None r h = tt
range_stands (Some x) r h = (
  alone symbols.OpenBracket 91 _ refl (λ c. refl),
  (
    (h.0, refl, no_quote 58 _ refl),
    (
      alone symbols.Colon 58 _ refl (λ c. refl),
      (
        (h.1, refl, no_quote 93 (32 ∷ r) refl),
        (alone symbols.CloseBracket 93 _ refl (λ c. refl), (refl, tt)),
      ),
    ),
  ),
)

declaration_stands : (d : Declaration) → FineDeclaration d → (r : List ℕ) → StandAll (declaration_pieces d) r
declaration_stands d h r =
    (refl, (refl, ((refl, refl), (refl, stand_append (range_pieces d.range) (declaration_end d.name) r (range_stands d.range _ h.range) (declaration_end_stands d.name r h.name)))))

-- ---- statements

expression_stands : (e : RightSide) (r : List ℕ) → FineExpression e → StandAll (expression_pieces e) (59 ∷ r)
expression_stands (Literal l) r h = (written_stands l 59 r h refl, tt)
expression_stands (Plain a) r h = ((h, refl), tt)
expression_stands (Inverted a) r h = (alone symbols.Tilde 126 _ refl (λ c. refl), ((h, refl), tt))
expression_stands (Binary p a b) r h = ((h.1, refl), (refl, (spaced (symbol_of p) _, (refl, ((h.2, refl), tt)))))
expression_stands (Choice a b c) r h = ((h.0, refl), (refl, (spaced symbols.Question _, (refl, ((h.1, refl), (refl, (spaced symbols.Colon _, (refl, ((h.2, refl), tt)))))))))
expression_stands (Joined a b) r h =
    (alone symbols.OpenBrace 123 _ refl (λ c. refl), ((h.0, refl), (spaced symbols.Comma _, (refl, ((h.1, refl), (alone symbols.CloseBrace 125 _ refl (λ c. refl), tt))))))
expression_stands (Slice a high low) r h = (
  (h.0, refl),
  (
    alone symbols.OpenBracket 91 _ refl (λ c. refl),
    (
      (h.1, refl, no_quote 58 _ refl),
      (
        alone symbols.Colon 58 _ refl (λ c. refl),
        (
          (h.2, refl, no_quote 93 (59 ∷ r) refl),
          (alone symbols.CloseBracket 93 _ refl (λ c. refl), tt),
        ),
      ),
    ),
  ),
)

statement_stands : (s : Statement) → FineStatement s → (r : List ℕ) → StandAll (statement_pieces s) r
statement_stands (Assign x e) h r = (
  refl,
  (
    refl,
    (
      (refl, refl),
      (
        refl,
        (
          (h.0, refl),
          (
            refl,
            (
              spaced symbols.Becomes _,
              (
                refl,
                stand_append (expression_pieces e) (sy symbols.Semicolon ∷ line_end ∷ []) r (expression_stands e (10 ∷ r) h.1) (alone symbols.Semicolon 59 _ refl (λ c. refl), (refl, tt)),
              ),
            ),
          ),
        ),
      ),
    ),
  ),
)
statement_stands (Always clock reset target initial second source) h r = (
  refl,
  (
    refl,
    (
      (refl, refl),
      (
        refl,
        (
          alone symbols.At 64 _ refl (λ c. refl),
          (
            alone symbols.OpenParen 40 _ refl (λ c. refl),
            (
              (refl, refl),
              (
                refl,
                (
                  (h.clock, refl),
                  (
                    alone symbols.CloseParen 41 _ refl (λ c. refl),
                    (
                      refl,
                      (
                        (refl, refl),
                        (
                          refl,
                          (
                            alone symbols.OpenParen 40 _ refl (λ c. refl),
                            (
                              (h.reset, refl),
                              (
                                alone symbols.CloseParen 41 _ refl (λ c. refl),
                                (
                                  refl,
                                  (
                                    (h.target, refl),
                                    (
                                      refl,
                                      (
                                        spaced symbols.LessEqual _,
                                        (
                                          refl,
                                          (
                                            written_stands initial 59 [] h.initial refl,
                                            (
                                              alone symbols.Semicolon 59 _ refl (λ c. refl),
                                              (
                                                refl,
                                                (
                                                  (refl, refl),
                                                  (
                                                    refl,
                                                    (
                                                      (h.second, refl),
                                                      (
                                                        refl,
                                                        (
                                                          spaced symbols.LessEqual _,
                                                          (
                                                            refl,
                                                            (
                                                              (h.source, refl),
                                                              (alone symbols.Semicolon 59 _ refl (λ c. refl), (refl, tt)),
                                                            ),
                                                          ),
                                                        ),
                                                      ),
                                                    ),
                                                  ),
                                                ),
                                              ),
                                            ),
                                          ),
                                        ),
                                      ),
                                    ),
                                  ),
                                ),
                              ),
                            ),
                          ),
                        ),
                      ),
                    ),
                  ),
                ),
              ),
            ),
          ),
        ),
      ),
    ),
  ),
)

-- ---- the header, and whole files

port_stands : (x : Spot) (r : List ℕ) → IsName x → stops is_part r ≡ true → StandAll (port_pieces x) r
port_stands x r h s = (spaced symbols.Comma _, (refl, ((h, s), tt)))

after_port : (xs : List Spot) (r : List ℕ) → stops is_part r ≡ true → stops is_part (text_of_all (flat_map port_pieces xs) ++ r) ≡ true
after_port [] r h = h
after_port (x ∷ xs) r h = refl

ports_stand : (xs : List Spot) (r : List ℕ) → Each IsName xs → stops is_part r ≡ true → StandAll (flat_map port_pieces xs) r
ports_stand [] r h s = tt
ports_stand (x ∷ xs) r h s = stand_append (port_pieces x) (flat_map port_pieces xs) r (port_stands x _ h.0 (after_port xs r s)) (ports_stand xs r h.1 s)

body_stands : (ds : List Declaration) (ss : List Statement) → Each FineDeclaration ds → Each FineStatement ss → StandAll (body_pieces ds ss) []
body_stands ds ss h k =
    stand_append (flat_map declaration_pieces ds) (flat_map statement_pieces ss ++ last_pieces) [] (stand_each declaration_pieces ds _ (each_stands FineDeclaration _ declaration_stands ds h))
    (stand_append (flat_map statement_pieces ss) last_pieces [] (stand_each statement_pieces ss _ (each_stands FineStatement _ statement_stands ss k)) ((refl, refl), (refl, tt)))

safl_free : (k : Keyword) → codes "safl" ≢ keyword_text k
safl_free = no_keyword (codes "safl") refl

pub file_stands : (x : Spot) (xs : List Spot) (ds : List Declaration) (ss : List Statement) → IsName x → Each IsName xs → Each FineDeclaration ds →
    Each FineStatement ss → StandAll (file_pieces x xs ds ss) []
file_stands x xs ds ss name names h k =
    let body = body_pieces ds ss in
    let after : stops is_part (text_of_all (flat_map port_pieces xs ++ header_end body) ++ []) ≡ true =
    ap (λ (l : List ℕ). stops is_part (l ++ [])) (text_append (flat_map port_pieces xs) (header_end body)) ∙ ap (stops is_part)
    (append_assoc (text_of_all (flat_map port_pieces xs)) (text_of_all (header_end body)) []) ∙ after_port xs (text_of_all (header_end body) ++ []) refl in
    let safl : IsName (record { place = 0; bytes = codes "safl" }) = record { like = refl; short = lit≤ tt; free = safl_free } in (
      (refl, refl),
      (
        refl,
        (
          (safl, refl),
          (
            refl,
            (
              alone symbols.OpenParen 40 _ refl (λ c. refl),
              (
                (name, after),
                stand_append (flat_map port_pieces xs) (header_end body) [] (ports_stand xs _ names refl)
                    (alone symbols.CloseParen 41 _ refl (λ c. refl), (alone symbols.Semicolon 59 _ refl (λ c. refl), (refl, body_stands ds ss h k))),
              ),
            ),
          ),
        ),
      ),
    )
