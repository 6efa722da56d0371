-- The words of a program are tokens, and its text is cut into them.
use Rattle.safl_tree.proofs.Common.{IsToken, Primitive, is_written_width, leb-true, terminals, width_max}
use Rattle.std.proofs.Common.{◌≡◌, ℕ, ◌+◌, ◌-◌, ◌^◌, ◌<◌, ◌≤◌, Bool, true, false, List, [], ◌∷◌, ◌++◌, map, length, take, drop}
use Rattle.std.proofs.Common.{Option, Some, None, refl, sym, ap, ◌∙◌, append_assoc, length-append, arith}
use Rattle.std.specs.Prelude.{nat_le}
use Rattle.std.proofs.lemmas.List.{map-append}
use Rattle.std.proofs.Math.Seq.{drop-append_seam, take-append_seam}
use Rattle.safl_word.specs.declared.token.Sym.TheVariants as syms
use Rattle.safl_word.specs.declared.token.TokenKind.TheVariants as kinds
use Rattle.safl_word.specs.declared.primitive.Primitive.TheVariants as prims
use Rattle.safl_word.specs.Spacing.{Spaced, AreSpaced, spaced_text, spaced_tokens}
use Rattle.safl_word.proofs.BlanksEndTokens.{number_token, size_token}
use Rattle.safl_tree.specs.Tree.{Tree, Number, Sized, Variable, If, Let, Cases, Op, Call, Trees, no_tree, a_tree, Binds, no_bind, a_bind, Arms, default_arm, an_arm, Parameter, Definition}
use Rattle.safl_tree.specs.Printable.{layers_of, left_context, right_context, InRange, IsLabel, FitsWritten, IsFormed, AreFormed, AreFormedBinds, AreFormedArms}
use Rattle.safl_tree.specs.Printable.{AreFormedParameters, IsFormedDefinition, AreFormedDefinitions}
use Rattle.safl_tree.specs.Printed
use Rattle.safl_tree.specs.Printed.{PrintedToken, separated, enclosed, applied, width_words, words, part_words, bind_words, arm_words, param_words, one_words, opening_word, spaced, line, printed}
use Rattle.safl_tree.proofs.Readings.{words_in}

-- ---- words are tokens

abbrev pub Genuine : List PrintedToken → Type 0
Genuine [] = Unit {0}
Genuine (x ∷ xs) = IsToken x.kind x.text × Genuine xs

abbrev AllGenuine : List (List PrintedToken) → Type 0
AllGenuine [] = Unit {0}
AllGenuine (x ∷ xs) = Genuine x × AllGenuine xs

pub joins : (u v : List PrintedToken) → Genuine u → Genuine v → Genuine (u ++ v)
joins [] v a b = b
joins (x ∷ u) v a b = (a.0, joins u v a.1 b)

separates : (s : PrintedToken) → IsToken s.kind s.text → (xs : List (List PrintedToken)) → AllGenuine xs → Genuine (separated s xs)
separates s h [] a = tt
separates s h (x ∷ []) a = a.0
separates s h (x ∷ y ∷ xs) a = joins x (s ∷ separated s (y ∷ xs)) a.0 (h, separates s h (y ∷ xs) a.1)

comma_separates : (xs : List (List PrintedToken)) → AllGenuine xs → Genuine (separated (Printed.sym syms.Comma) xs)
comma_separates xs a = separates (Printed.sym syms.Comma) refl xs a

encloses : (b : Bool) (ks : List PrintedToken) → Genuine ks → Genuine (enclosed b ks)
encloses true ks a = a
encloses false ks a = (refl, joins ks (Printed.sym syms.CloseParen ∷ []) a (refl, tt))

width_small : (n : ℕ) → is_written_width n ≡ true → n < 2 ^ 128
width_small n h = let k = within_width n h in omega (arith, k)
  where
    within_width : (n : ℕ) → is_written_width n ≡ true → n ≤ width_max
    within_width n h = leb-true n width_max (go (nat_le 1 n) (nat_le n width_max) h)
      where
        go : (a b : Bool) → Rattle.std.proofs.Common.cond a b false ≡ true → b ≡ true
        go true b h = h
        go false b h = absurd cc

width_word : (n : ℕ) → is_written_width n ≡ true → IsToken (kinds.Num n) (Printed.number_word n).text
width_word n h = number_token n (width_small n h)

applies : (o : Primitive) (parts : List (List PrintedToken)) → InRange o → AllGenuine parts → Genuine (applied o parts)
applies prims.Not parts r a = (refl, comma_separates parts a)
applies prims.Cat parts r a = (refl, (refl, joins (separated (Printed.sym syms.Comma) parts) (Printed.sym syms.CloseParen ∷ []) (comma_separates parts a) (refl, tt)))
applies (prims.Bits h l) parts r a = (
  refl,
  (
    refl,
    joins (separated (Printed.sym syms.Comma) parts) _ (comma_separates parts a)
        (refl, (number_token h (index_small h r.0), (refl, (number_token l (index_small l r.1), (refl, tt))))),
  ),
)
  where
    index_small : (n : ℕ) → n < width_max → n < 2 ^ 128
    index_small n h = omega (arith, h)
applies (prims.Ext n) parts r a = (refl, (refl, joins (separated (Printed.sym syms.Comma) parts) _ (comma_separates parts a) (refl, (width_word n r, (refl, tt)))))
applies prims.Mul parts r a = separates (Printed.sym syms.Star) refl parts a
applies prims.Add parts r a = separates (Printed.sym syms.Plus) refl parts a
applies prims.Sub parts r a = separates (Printed.sym syms.Minus) refl parts a
applies prims.Shl parts r a = separates (Printed.sym syms.ShiftLeft) refl parts a
applies prims.Shr parts r a = separates (Printed.sym syms.ShiftRight) refl parts a
applies prims.Eq parts r a = separates (Printed.sym syms.Equal) refl parts a
applies prims.Ne parts r a = separates (Printed.sym syms.NotEqual) refl parts a
applies prims.Lt parts r a = separates (Printed.sym syms.Less) refl parts a
applies prims.Le parts r a = separates (Printed.sym syms.LessEqual) refl parts a
applies prims.Gt parts r a = separates (Printed.sym syms.Greater) refl parts a
applies prims.Ge parts r a = separates (Printed.sym syms.GreaterEqual) refl parts a
applies prims.And parts r a = separates (Printed.sym syms.Ampersand) refl parts a
applies prims.Xor parts r a = separates (Printed.sym syms.Caret) refl parts a
applies prims.Or parts r a = separates (Printed.sym syms.Bar) refl parts a

writes : (w : Option ℕ) → FitsWritten w → Genuine (width_words w)
writes None h = tt
writes (Some n) h = (refl, (width_word n h, tt))

labels : (l : Tree) → IsLabel l → Genuine (words l)
labels (Number p n) h = (number_token n h, tt)
labels (Sized p w n) h = (size_token w n (width_small w h.0) h.1, tt)
labels (Variable p x) h = absurd h
labels (If p c a b) h = absurd h
labels (Let p bs t) h = absurd h
labels (Cases p e arms) h = absurd h
labels (Op p o ts) h = absurd h
labels (Call p f ts) h = absurd h

mutual
  genuine : (t : Tree) → IsFormed t → Genuine (words t)
  genuine (Number p n) f = (number_token n f, tt)
  genuine (Sized p w n) f = (size_token w n (width_small w f.0) f.1, tt)
  genuine (Variable p x) f = (f, tt)
  genuine (If p c a b) f = (refl, joins (words c) _ (genuine c f.0) (refl, joins (words a) _ (genuine a f.1) (refl, genuine b f.2)))
  genuine (Let p bs t) f = (refl, joins (separated (Printed.sym syms.Comma) (bind_words bs)) _ (comma_separates (bind_words bs) (genuine_binds bs f.1)) (refl, genuine t f.2))
  genuine (Cases p e arms) f = (refl, joins (words e) _ (genuine e f.0) (refl, joins (arm_words arms) _ (genuine_arms arms f.1) (refl, tt)))
  genuine (Op p o ts) f = applies o (part_words (left_context o) (right_context o) ts) f.1 (genuine_parts (left_context o) (right_context o) ts f.2)
  genuine (Call p x ts) f = (f.0, (refl, joins (separated (Printed.sym syms.Comma) (part_words 8 8 ts)) _ (comma_separates (part_words 8 8 ts) (genuine_parts 8 8 ts f.1)) (refl, tt)))

  genuine_parts : (k right : ℕ) (ts : Trees) → AreFormed ts → AllGenuine (part_words k right ts)
  genuine_parts k right no_tree f = tt
  genuine_parts k right (a_tree t ts) f = (encloses (nat_le (layers_of t) k) (words t) (genuine t f.0), genuine_parts right right ts f.1)

  genuine_binds : (bs : Binds) → AreFormedBinds bs → AllGenuine (bind_words bs)
  genuine_binds no_bind f = tt
  genuine_binds (a_bind p x w t bs) f = ((f.0, joins (width_words w) _ (writes w f.1) (refl, genuine t f.2)), genuine_binds bs f.3)

  genuine_arms : (arms : Arms) → AreFormedArms arms → Genuine (arm_words arms)
  genuine_arms (default_arm t) f = (refl, (refl, genuine t f))
  genuine_arms (an_arm l t arms) f = joins (words l) _ (labels l f.0) (refl, joins (words t) _ (genuine t f.1) (refl, genuine_arms arms f.2))

genuine_params : (ps : List Parameter) → AreFormedParameters ps → AllGenuine (param_words ps)
genuine_params [] f = tt
genuine_params (p ∷ ps) f = ((f.0.0, (refl, (width_word p.width f.0.1, tt))), genuine_params ps f.1)

pub genuine_one : (d : Definition) → IsFormedDefinition d → Genuine (one_words d)
genuine_one d f = (
  f.0,
  (
    refl,
    joins (separated (Printed.sym syms.Comma) (param_words d.params)) _
        (comma_separates (param_words d.params) (genuine_params d.params f.1)) (refl, (refl, (width_word d.width f.2, (refl, genuine d.body f.3)))),
  ),
)

opens : (b : Bool) → IsToken (opening_word b).kind (opening_word b).text
opens true = refl
opens false = refl

-- ---- the words of a whole program, and its text

abbrev pub program_words : List Definition → List PrintedToken
program_words [] = []
program_words (d ∷ ds) = opening_word d.joined ∷ (one_words d ++ program_words ds)

-- a line of words: the last has a line feed after it, and any other a space
abbrev lined : PrintedToken → List PrintedToken → List Spaced
lined x [] = record { kind = x.kind; text = x.text; blank = 10 } ∷ []
lined x (y ∷ ys) = record { kind = x.kind; text = x.text; blank = 32 } ∷ lined y ys

abbrev pub pieces : List Definition → List Spaced
pieces [] = []
pieces (d ∷ ds) = lined (opening_word d.joined) (one_words d) ++ pieces ds

lined_text : (x : PrintedToken) (ys : List PrintedToken) → spaced_text (lined x ys) ≡ x.text ++ (spaced ys ++ (10 ∷ []))
lined_text x [] = refl
lined_text x (y ∷ ys) = ap (λ (l : List ℕ). x.text ++ (32 ∷ l)) (lined_text y ys ∙ sym (append_assoc y.text (spaced ys) (10 ∷ [])))

text_append : (xs ys : List Spaced) → spaced_text (xs ++ ys) ≡ spaced_text xs ++ spaced_text ys
text_append [] ys = refl
text_append (x ∷ xs) ys = ap (λ (l : List ℕ). x.text ++ (x.blank ∷ l)) (text_append xs ys) ∙ sym (append_assoc x.text (x.blank ∷ spaced_text xs) (spaced_text ys))

pub pieces_text : (ds : List Definition) → spaced_text (pieces ds) ≡ printed ds
pieces_text [] = refl
pieces_text (d ∷ ds) =
    text_append (lined (opening_word d.joined) (one_words d)) (pieces ds)
    ∙ ap (λ (l : List ℕ). l ++ spaced_text (pieces ds)) (lined_text (opening_word d.joined) (one_words d))
    ∙ ap (λ (l : List ℕ). line d ++ l) (pieces_text ds)

lined_spaced : (x : PrintedToken) (ys : List PrintedToken) → IsToken x.kind x.text → Genuine ys → AreSpaced (lined x ys)
lined_spaced x [] h g = (record { token = h; blank = refl }, tt)
lined_spaced x (y ∷ ys) h g = (record { token = h; blank = refl }, lined_spaced y ys g.0 g.1)

spaced_append : (xs ys : List Spaced) → AreSpaced xs → AreSpaced ys → AreSpaced (xs ++ ys)
spaced_append [] ys a b = b
spaced_append (x ∷ xs) ys a b = (a.0, spaced_append xs ys a.1 b)

pub pieces_spaced : (ds : List Definition) → AreFormedDefinitions ds → AreSpaced (pieces ds)
pieces_spaced [] f = tt
pieces_spaced (d ∷ ds) f = spaced_append (lined (opening_word d.joined) (one_words d)) (pieces ds)
    (lined_spaced (opening_word d.joined) (one_words d) (opens d.joined) (genuine_one d f.0)) (pieces_spaced ds f.1)

abbrev piece_word : Spaced → PrintedToken
piece_word x = record { kind = x.kind; text = x.text }

lined_words : (x : PrintedToken) (ys : List PrintedToken) → map piece_word (lined x ys) ≡ x ∷ ys
lined_words x [] = refl
lined_words x (y ∷ ys) = ap (λ (l : List PrintedToken). x ∷ l) (lined_words y ys)

pieces_words : (ds : List Definition) → map piece_word (pieces ds) ≡ program_words ds
pieces_words [] = refl
pieces_words (d ∷ ds) =
    map-append piece_word (lined (opening_word d.joined) (one_words d)) (pieces ds)
    ∙ ap (λ (l : List PrintedToken). l ++ map piece_word (pieces ds)) (lined_words (opening_word d.joined) (one_words d))
    ∙ ap (λ (l : List PrintedToken). opening_word d.joined ∷ (one_words d ++ l)) (pieces_words ds)

-- the tokens of a spaced text have its words
spaced_terminals : (xs : List Spaced) (front text : List ℕ) (p : ℕ) → p ≡ length front → text ≡ front ++ spaced_text xs → words_in (terminals text (spaced_tokens p xs)) ≡ map piece_word xs
spaced_terminals [] front text p i j = refl
spaced_terminals (x ∷ xs) front text p i j =
    ap (λ (b : List ℕ). record { kind = x.kind; text = b } ∷ words_in (terminals text (spaced_tokens (p + length x.text + 1) xs))) (sym bytes)
    ∙ ap (λ (l : List PrintedToken). piece_word x ∷ l) (spaced_terminals xs (front ++ (x.text ++ (x.blank ∷ []))) text (p + length x.text + 1)
    (omega (arith, i, length-append front (x.text ++ (x.blank ∷ [])), length-append x.text (x.blank ∷ [])))
    (j ∙ ap (λ (l : List ℕ). front ++ l) (sym (append_assoc x.text (x.blank ∷ []) (spaced_text xs))) ∙ sym
    (append_assoc front (x.text ++ (x.blank ∷ [])) (spaced_text xs))))
  where
    bytes : x.text ≡ take (p + length x.text - p) (drop p text)
    bytes =
        let n : length x.text ≡ p + length x.text - p = omega arith in
        sym (take-append_seam x.text (x.blank ∷ spaced_text xs))
        ∙ ap (λ (l : List ℕ). take (length x.text) l) (sym (drop-append_seam front (x.text ++ (x.blank ∷ spaced_text xs))))
        ∙ ap (λ (l : List ℕ). take (length x.text) (drop (length front) l)) (sym j)
        ∙ ap (λ (k : ℕ). take (length x.text) (drop k text)) (sym i)
        ∙ ap (λ (k : ℕ). take k (drop p text)) n

pub printed_terminals : (ds : List Definition) → words_in (terminals (printed ds) (spaced_tokens 0 (pieces ds))) ≡ program_words ds
printed_terminals ds = spaced_terminals (pieces ds) [] (printed ds) 0 refl (sym (pieces_text ds)) ∙ pieces_words ds
