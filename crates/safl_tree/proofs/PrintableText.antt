-- A program that a text spells is printable.
use Rattle.safl_tree.proofs.Common.{Definition, Parameter, SpellsProgram, Terminal, Token, at_end, is_written_width, terminals}
use Rattle.std.proofs.Common.{◌≡◌, ℕ, ◌+◌, ◌-◌, ◌≤◌, Bool, true, false, List, [], ◌∷◌, ◌++◌, length, take, drop, Ok, refl, sym, ap, subst, ◌∙◌, arith, append_assoc, length-append}
use Rattle.std.proofs.Math.Seq.{drop-append_seam, take-append_seam}
use Rattle.safl_grammar.proofs.Parses.{bind_ok, ok_parts, value}
use Rattle.safl_grammar.proofs.Yields.{Each, Yields, yields_nothing, yields_follows, yields_either, yields_many}
use Rattle.safl_word.specs.declared.token.Key.TheVariants as keys
use Rattle.safl_word.specs.declared.token.Sym.TheVariants as syms
use Rattle.safl_word.specs.Tokens.{IsSourceName, IsToken, Piece, Blank, Comment, Lexeme, text_of, text_of_all, StandAll, tokens_from, HasTokens}
use Rattle.safl_tree.specs.Codes.{word_code, symbol_code, comes}
use Rattle.safl_tree.specs.Reader.{read_param, read_another_param, read_params, read_one, read_another_one, read_group, read_ended, read_another_group, read_program, read_source, expr_at, comma}
use Rattle.safl_tree.specs.Printable.{IsFormedParameter, AreFormedParameters, AreFormedDefinitions, AllKeepLevels, OpensGroup, IsPrintable}
use Rattle.safl_tree.proofs.Formed.{IsTerminal, any_word, any_symbol, a_name, a_width}
use Rattle.safl_tree.proofs.Kept.{Whole, each_end, expr_yields}
use Rattle.safl_tree.proofs.Programs.{read_again}

-- ---- programs

param_yields : Yields IsTerminal read_param IsFormedParameter
unfolding read_param
param_yields = yields_follows IsFormedParameter a_name (λ x n. yields_follows IsFormedParameter (any_symbol syms.Colon)
    (λ c u. yields_follows IsFormedParameter a_width (λ w h. yields_nothing IsFormedParameter (record { place = x.place; name = x.name; width = w.value }) (n, h))))

params_yields : Yields IsTerminal read_params (Each IsFormedParameter)
unfolding read_params read_another_param
params_yields = yields_either (comes (1 ∷ [])) (yields_follows (Each IsFormedParameter) param_yields
    (λ p h. yields_many (comes comma) read_another_param (Each IsFormedParameter)
    (λ ps k. yields_follows (Each IsFormedParameter) (any_symbol syms.Comma)
    (λ s u. yields_follows (Each IsFormedParameter) param_yields
    (λ p h. yields_nothing (Each IsFormedParameter) (ps ++ p ∷ []) (each_end IsFormedParameter ps p k h)))) (p ∷ []) (h, tt)))
    (yields_nothing (Each IsFormedParameter) [] tt)

params_formed : (ps : List Parameter) → Each IsFormedParameter ps → AreFormedParameters ps
params_formed [] e = tt
params_formed (p ∷ ps) e = (e.0, params_formed ps e.1)

record DefinedWell (d : Definition) : Type 0 where
  name : IsSourceName d.name
  params : Each IsFormedParameter d.params
  width : is_written_width d.width ≡ true
  body : Whole 100 d.body

abbrev Joins : Bool → Definition → Type 0
Joins j d = DefinedWell d × (d.joined ≡ j)

one_yields : (j : Bool) → Yields IsTerminal (read_one j (expr_at 100)) (Joins j)
unfolding read_one
one_yields j = yields_follows (Joins j) a_name (λ x n. yields_follows (Joins j) (any_symbol syms.OpenParen)
    (λ o u. yields_follows (Joins j) params_yields (λ ps k. yields_follows (Joins j) (any_symbol syms.CloseParen)
    (λ c u. yields_follows (Joins j) (any_symbol syms.Colon) (λ c u. yields_follows (Joins j) a_width
    (λ w h. yields_follows (Joins j) (any_symbol syms.Assign) (λ g u. yields_follows (Joins j) (expr_yields 100)
    (λ b v. yields_nothing (Joins j) (record { joined = j; place = x.place; name = x.name; params = ps; width = w.value; body = b })
    (record { name = n; params = k; width = h; body = v }, refl)))))))))

-- the definitions so far, of which the first is not joined
record Groups (ds : List Definition) : Type 0 where
  each : Each DefinedWell ds
  opens : OpensGroup ds

-- and some stand there
record Some (ds : List Definition) : Type 0 where
  groups : Groups ds
  some : 1 ≤ length ds

opens_end : (ds : List Definition) (d : Definition) → OpensGroup ds → 1 ≤ length ds → OpensGroup (ds ++ d ∷ [])
opens_end [] d o s = absurd (omega (arith, s))
opens_end (x ∷ ds) d o s = o

opens_first : (ds : List Definition) (d : Definition) → OpensGroup ds → d.joined ≡ false → OpensGroup (ds ++ d ∷ [])
opens_first [] d o j = j
opens_first (x ∷ ds) d o j = o

first_some : (ds : List Definition) (d : Definition) → Groups ds → Joins false d → Some (ds ++ d ∷ [])
first_some ds d g h = record { groups = record { each = each_end DefinedWell ds d g.each h.0; opens = opens_first ds d g.opens h.1 }; some = omega (arith, length-append ds (d ∷ [])) }

next_some : (ds : List Definition) (d : Definition) → Some ds → Joins true d → Some (ds ++ d ∷ [])
next_some ds d g h = record { groups = record { each = each_end DefinedWell ds d g.groups.each h.0; opens = opens_end ds d g.groups.opens g.some }; some = omega (arith, length-append ds (d ∷ [])) }

group_yields : (ds : List Definition) → Groups ds → Yields IsTerminal (read_group (expr_at 100) ds) Some
unfolding read_group read_another_one
group_yields ds g = yields_follows Some (any_word keys.Fun) (λ f u. yields_follows Some (one_yields false)
    (λ d h. yields_many (comes (word_code keys.And ∷ [])) (read_another_one (expr_at 100)) Some
    (λ ds k. yields_follows Some (any_word keys.And) (λ a u. yields_follows Some (one_yields true)
    (λ d h. yields_nothing Some (ds ++ d ∷ []) (next_some ds d k h)))) (ds ++ d ∷ []) (first_some ds d g h)))

another_group_yields : (ds : List Definition) → Groups ds → Yields IsTerminal (read_another_group (expr_at 100) ds) Groups
unfolding read_another_group read_ended
another_group_yields ds g = yields_follows Groups (group_yields ds g)
    (λ es h. yields_either (comes (symbol_code syms.Semicolon ∷ []))
    (yields_follows Groups (any_symbol syms.Semicolon) (λ s u. yields_nothing Groups es h.groups)) (yields_nothing Groups es h.groups))

program_yields : Yields IsTerminal (read_program (expr_at 100)) Groups
unfolding read_program
program_yields = yields_many (comes (word_code keys.Fun ∷ [])) (read_another_group (expr_at 100)) Groups another_group_yields [] (record { each = tt; opens = tt })

all_formed : (ds : List Definition) → Each DefinedWell ds → AreFormedDefinitions ds
all_formed [] e = tt
all_formed (d ∷ ds) e = ((e.0.name, params_formed d.params e.0.params, e.0.width, e.0.body.formed), all_formed ds e.1)

all_kept : (ds : List Definition) → Each DefinedWell ds → AllKeepLevels ds
all_kept [] e = tt
all_kept (d ∷ ds) e = ((e.0.body.kept, e.0.body.shallow), all_kept ds e.1)

ended : (x : List Definition) (r : List Terminal) (y : List Definition) (v : List Terminal) → at_end (x, r) ≡ value y v → x ≡ y
ended x [] y v e = (ok_parts x y [] v e).0
ended x (t ∷ r) y v e = absurd cc

read_groups : (w : List Terminal) (ds : List Definition) → Each IsTerminal w → read_source w ≡ Ok (ds, []) → Groups ds
unfolding read_source
read_groups w ds q e =
    let b = bind_ok (read_program (expr_at 100) w) at_end (ds, []) e in
    subst Groups (ended b.0.0 b.0.1 ds [] b.2) (program_yields.gives w b.0.1 b.0.0 q b.1).0

-- ---- the tokens of a text

pieces_terminals : (xs : List Piece) (front text : List ℕ) (p : ℕ) → p ≡ length front → text ≡ front ++ text_of_all xs → StandAll xs [] → Each IsTerminal (terminals text (tokens_from p xs))
pieces_terminals [] front text p i j s = tt
pieces_terminals (Blank c ∷ xs) front text p i j s = pieces_terminals xs (front ++ c ∷ []) text (p + 1)
    (omega (arith, i, length-append front (c ∷ []))) (j ∙ sym (append_assoc front (c ∷ []) (text_of_all xs))) s.1
pieces_terminals (Comment w ∷ xs) front text p i j s = pieces_terminals xs (front ++ text_of (Comment w)) text (p + length (text_of (Comment w)))
    (omega (arith, i, length-append front (text_of (Comment w)))) (j ∙ sym (append_assoc front (text_of (Comment w)) (text_of_all xs))) s.1
pieces_terminals (Lexeme k w ∷ xs) front text p i j s =
    (subst (IsToken k) bytes s.0.0, pieces_terminals xs (front ++ w) text (p + length w) (omega (arith, i, length-append front w)) (j ∙ sym (append_assoc front w (text_of_all xs))) s.1)
  where
    bytes : w ≡ take (p + length w - p) (drop p text)
    bytes =
        let n : length w ≡ p + length w - p = omega arith in
        sym (take-append_seam w (text_of_all xs))
        ∙ ap (λ (l : List ℕ). take (length w) l) (sym (drop-append_seam front (w ++ text_of_all xs)))
        ∙ ap (λ (l : List ℕ). take (length w) (drop (length front) l)) (sym j)
        ∙ ap (λ (x : ℕ). take (length w) (drop x text)) (sym i)
        ∙ ap (λ (x : ℕ). take x (drop p text)) n

pub token_terminals : (text : List ℕ) (ts : List Token) → HasTokens text ts → Each IsTerminal (terminals text ts)
token_terminals text ts h = subst (λ (l : List Token). Each IsTerminal (terminals text l)) (sym h.tokens) (pieces_terminals h.pieces [] text 0 refl h.joined h.stand)

pub printable : (text : List ℕ) (p : List Definition) → SpellsProgram text p → IsPrintable p
printable text p s =
    let g = read_groups (terminals text s.tokens) p (token_terminals text s.tokens s.cut) (read_again (terminals text s.tokens) p s.spelled) in
    record { formed = record { opens = g.opens; formed = all_formed p g.each }; kept = all_kept p g.each }
