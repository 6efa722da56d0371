-- A program is read again from its words, and its text spells it, places aside.
use Rattle.safl_tree.proofs.Common.{Definition, Every, HasTokens, Only, Parameter, SpellsProgram, Terminal, at_end, terminals, within}
use Rattle.std.proofs.Common.{◌≡◌, ℕ, ◌<◌, Bool, true, false, cond, List, [], ◌∷◌, ◌++◌, map, length, Ok, Err, refl, sym, ap, subst, ◌∙◌, append_assoc}
use Rattle.std.proofs.lemmas.List.{append-nil, map-append}
use Rattle.safl_grammar.specs.Reading.{Read, Reading, ◌>>=◌, head_of, read_follows, read_many}
use Rattle.safl_grammar.proofs.Many.{goes_on, stops_here, many_step}
use Rattle.safl_grammar.proofs.Small.{Small, small, small_nothing, eats_token, small_follows, eats_parses}
use Rattle.safl_word.specs.declared.token.Key.TheVariants as keys
use Rattle.safl_word.specs.declared.token.Sym.TheVariants as syms
use Rattle.safl_word.specs.Spacing.{spaced_tokens}
use Rattle.safl_word.proofs.BlanksEndTokens.{spaced_reads}
use Rattle.safl_tree.specs.Codes.{code, code_of, comes, word_code, symbol_code, marked, name, number}
use Rattle.safl_tree.specs.Grammar
use Rattle.safl_tree.specs.Grammar.{fits_width}
use Rattle.safl_tree.specs.Reader.{read_param, read_another_param, read_params, read_one, read_another_one, read_group, read_ended}
use Rattle.safl_tree.specs.Reader.{read_another_group, read_program, read_source, expr_at, close_paren}
use Rattle.safl_tree.specs.Printable.{IsFormedParameter, AreFormedParameters, IsFormedDefinition, AreFormedDefinitions, AllKeepLevels, OpensGroup, IsPrintable}
use Rattle.safl_tree.proofs.Leaves.{after_expr}
use Rattle.safl_tree.proofs.KeptLevels.{both_levels}
use Rattle.safl_tree.proofs.Programs.{another_one_parses, another_group_parses, spelled}
use Rattle.safl_tree.specs.Printed
use Rattle.safl_tree.specs.Printed.{separated, param_words, one_words, opening_word, printed}
use Rattle.safl_tree.specs.Places.{unplaced, unplaced_parameter, unplaced_definition, unplaced_program}
use Rattle.safl_tree.proofs.Readings.{Reads, words_in, first_of, cut, nil_of, kind_is, next_within, fits_next, AllRead, list_reads, reads_nothing}
use Rattle.safl_tree.proofs.Readings.{reads_then, reads_first, reads_none, reads_narrowed, reads_give, reads_key, reads_symbol, reads_name}
use Rattle.safl_tree.proofs.Readings.{reads_width}
use Rattle.safl_tree.proofs.Operators.{whole}
use Rattle.safl_tree.proofs.PrintedExpressions.{claim}
use Rattle.safl_tree.proofs.Tokens.{program_words, pieces, pieces_text, pieces_spaced, printed_terminals}

-- ---- parameters

abbrev parameter_at : ℕ → List ℕ → ℕ → Parameter
parameter_at p x w = record { place = p; name = x; width = w }

abbrev param_list : List ℕ
param_list = symbol_code syms.Comma ∷ symbol_code syms.CloseParen ∷ []

param_read : (p : Parameter) → IsFormedParameter p → Reads read_param (Printed.name p.name ∷ (Printed.sym syms.Colon ∷ (Printed.number_word p.width ∷ [])))
    (Only param_list) unplaced_parameter (unplaced_parameter p)
unfolding read_param
param_read p f = reads_narrowed Every (reads_then (reads_name p.name)
    (λ x e. reads_then (reads_symbol syms.Colon) (λ c u. reads_give (λ n. parameter_at x.place x.name n.value) unplaced_parameter
    (unplaced_parameter p) (reads_width p.width f.1) (λ n i. ap (λ (y : List ℕ). parameter_at 0 y n.value) e ∙ ap (parameter_at 0 p.name) i)) refl) refl) refl

param_small : Small read_param
unfolding read_param
param_small = small_follows (small (eats_token name)) (λ x. small_follows (small (eats_token (marked (symbol_code syms.Colon))))
    (λ c. small_follows (small (Rattle.safl_grammar.proofs.Small.eats_limited Rattle.safl_grammar.specs.Syntax.Range fits_width number))
    (λ n. small_nothing (parameter_at x.place x.name n.value))))

all_params : (ps : List Parameter) → AreFormedParameters ps → AllRead read_param (Only param_list) unplaced_parameter (param_words ps) (map unplaced_parameter ps)
all_params [] f = tt
all_params (p ∷ ps) f = (param_read p f.0, all_params ps f.1)

params_read : (ps : List Parameter) → AreFormedParameters ps → Reads read_params (separated (Printed.sym syms.Comma) (param_words ps))
    (Only close_paren) (map unplaced_parameter) (map unplaced_parameter ps)
unfolding read_params read_another_param
params_read [] f = reads_none (1 ∷ []) _ (reads_nothing (Only close_paren) (map unplaced_parameter) [] [] refl) refl
params_read (p ∷ []) f = reads_first (1 ∷ []) _ (list_reads read_param param_small param_list (Only close_paren) unplaced_parameter refl refl refl _
    (unplaced_parameter p) [] [] (param_read p f.0) tt) refl
params_read (p ∷ q ∷ ps) f = reads_first (1 ∷ []) _ (list_reads read_param param_small param_list (Only close_paren) unplaced_parameter refl refl refl
    _ (unplaced_parameter p) (param_words (q ∷ ps)) (map unplaced_parameter (q ∷ ps)) (param_read p f.0) (all_params (q ∷ ps) f.1)) refl

-- ---- a definition

pub record Definable (d : Definition) : Type 0 where
  pub formed : IsFormedDefinition d
  pub body : Reads (expr_at 100) (Printed.words d.body) after_expr unplaced (unplaced d.body)

abbrev definition_at : Bool → List ℕ → List Parameter → ℕ → Rattle.safl_tree.specs.Tree.Tree → Definition
definition_at j x ps n b = record { joined = j; place = 0; name = x; params = ps; width = n; body = b }

one_read : (joins : Bool) (d : Definition) → d.joined ≡ joins → Definable d → Reads (read_one joins (expr_at 100)) (one_words d) after_expr unplaced_definition (unplaced_definition d)
unfolding read_one
one_read joins d j f =
    reads_then (reads_name d.name) (λ x e. reads_then (reads_symbol syms.OpenParen)
    (λ o u. reads_then (params_read d.params f.formed.1) (λ ps i. reads_then (reads_symbol syms.CloseParen)
    (λ c u. reads_then (reads_symbol syms.Colon) (λ c u. reads_then (reads_width d.width f.formed.2)
    (λ n k. reads_then (reads_symbol syms.Assign) (λ g u. reads_give
    (λ b. record { joined = joins; place = x.place; name = x.name; params = ps; width = n.value; body = b }) unplaced_definition
    (unplaced_definition d) f.body (λ b l.
    ap (λ (y : List ℕ). definition_at joins y (map unplaced_parameter ps) n.value (unplaced b)) e
    ∙ ap (λ (y : List Parameter). definition_at joins d.name y n.value (unplaced b)) i
    ∙ ap (λ (y : ℕ). definition_at joins d.name (map unplaced_parameter d.params) y (unplaced b)) k
    ∙ ap (definition_at joins d.name (map unplaced_parameter d.params) d.width) l
    ∙ ap (λ (y : Bool). definition_at y d.name (map unplaced_parameter d.params) d.width (unplaced d.body)) (sym j))) refl) refl) refl) refl) refl) refl) refl

-- ---- groups

abbrev and_key : List ℕ
and_key = word_code keys.And ∷ []

abbrev fun_key : List ℕ
fun_key = word_code keys.Fun ∷ []

pub one_eats : (ds : List Definition) (w r : List Terminal) (x : List Definition) → read_another_one (expr_at 100) ds w ≡ Ok (x, r) → length r < length w
one_eats ds w r x e = (eats_parses (another_one_parses (expr_at 100) (Grammar.level 101 100).whole (Grammar.level 100 100).whole (both_levels 100 100).whole ds)).left w r x e

pub group_eats : (ds : List Definition) (w r : List Terminal) (x : List Definition) → read_another_group (expr_at 100) ds w ≡ Ok (x, r) → length r < length w
group_eats ds w r x e = (eats_parses (another_group_parses (expr_at 100) (Grammar.level 101 100).whole (Grammar.level 100 100).whole (both_levels 100 100).whole ds)).left w r x e

-- the loop over the joined definitions of a group, the loop over groups, and the one before the other
abbrev inner : List Definition → Reading Terminal (List Definition)
inner = read_many (comes and_key) (read_another_one (expr_at 100))

abbrev outer : List Definition → Reading Terminal (List Definition)
outer = read_many (comes fun_key) (read_another_group (expr_at 100))

abbrev rest_of : Read Terminal (List Definition) → Read Terminal (List Definition)
rest_of y = y >>= λ x. read_ended x.0 x.1 >>= λ z. outer z.0 z.1

bind_assoc : {A B C : Type 0} (y : Read Terminal A) (f : A × List Terminal → Read Terminal B) (g : B × List Terminal → Read Terminal C) → ((y >>= f) >>= g) ≡ (y >>= λ x. f x >>= g)
bind_assoc (Ok x) f g = refl
bind_assoc (Err e) f g = refl

-- what follows a definition: another one, or the end
next_fits : (ds : List Definition) → fits_next after_expr (program_words ds) (Only (0 ∷ [])) ≡ true
next_fits [] = refl
next_fits (d ∷ ds) = go d.joined
  where
    go : (b : Bool) → within after_expr (code_of (opening_word b).kind) ≡ true
    go true = refl
    go false = refl

another_read : (acc : List Definition) (d : Definition) → d.joined ≡ true → Definable d → Reads (read_another_one (expr_at 100) acc)
    (Printed.key keys.And ∷ one_words d) after_expr unplaced_program (unplaced_program acc ++ unplaced_definition d ∷ [])
unfolding read_another_one
another_read acc d j f = reads_then (reads_key keys.And) (λ k u. reads_give (λ x. acc ++ x ∷ []) unplaced_program
    (unplaced_program acc ++ unplaced_definition d ∷ []) (one_read true d j f)
    (λ x e. map-append unplaced_definition acc (x ∷ []) ∙ ap (λ (z : Definition). unplaced_program acc ++ z ∷ []) e)) refl

first_read : (d : Definition) → d.joined ≡ false → Definable d → Reads
    (read_follows (Rattle.safl_tree.specs.Reader.read_word keys.Fun) (λ f. read_one false (expr_at 100))) (Printed.key keys.Fun ∷ one_words d)
    after_expr unplaced_definition (unplaced_definition d)
first_read d j f = reads_then (reads_key keys.Fun) (λ k u. one_read false d j f) refl

-- `fun` begins a group, and the loop over its joined definitions goes on after its first one
group_step : (acc : List Definition) (d : Definition) (w v : List Terminal) → comes fun_key (head_of w) ≡ true → (y : Definition) → read_follows
    (Rattle.safl_tree.specs.Reader.read_word keys.Fun) (λ f. read_one false (expr_at 100)) w ≡ Ok (y, v) → outer acc w ≡ rest_of (inner (acc ++ y ∷ []) v)
unfolding read_another_group read_group
group_step acc d w v t y e =
    many_step (comes fun_key) (read_another_group (expr_at 100)) group_eats acc w
    ∙ ap (λ (b : Bool). cond b (read_another_group (expr_at 100) acc w >>= λ z. outer z.0 z.1) (Ok (acc, w))) t
    ∙ ap (λ (i : Read Terminal (List Definition)). (i >>= λ x. read_ended x.0 x.1) >>= λ z. outer z.0 z.1)
    (sym (bind_assoc (Rattle.safl_tree.specs.Reader.read_word keys.Fun w) (λ f. read_one false (expr_at 100) f.1)
    (λ x. inner (acc ++ x.0 ∷ []) x.1)) ∙ ap (λ (i : Read Terminal Definition). i >>= λ x. inner (acc ++ x.0 ∷ []) x.1) e)
    ∙ bind_assoc (inner (acc ++ y ∷ []) v) (λ x. read_ended x.0 x.1) (λ z. outer z.0 z.1)

abbrev AllDefinable : List Definition → Type 0
AllDefinable [] = Unit {0}
AllDefinable (d ∷ ds) = Definable d × AllDefinable ds

abbrev Ends : Read Terminal (List Definition) → List Definition → Type 0
Ends y v = (q : List Definition) × (unplaced_program q ≡ v) × (y ≡ Ok (q, []))

-- where the tokens end, or a group begins, the loop over joined definitions ends
inner_stops : (acc : List Definition) (w : List Terminal) → comes and_key (head_of w) ≡ false → comes (symbol_code syms.Semicolon ∷ []) (head_of w) ≡ false → rest_of (inner acc w) ≡ outer acc w
unfolding read_ended
inner_stops acc w a s =
    ap rest_of (stops_here (comes and_key) (read_another_one (expr_at 100)) one_eats acc w (inner acc w) refl a)
    ∙ ap (λ (b : Bool). cond b (Rattle.safl_tree.specs.Reader.read_symbol syms.Semicolon w >>= λ x. Ok (acc, x.1)) (Ok (acc, w)) >>= λ z. outer z.0 z.1) s

outer_ends : (acc : List Definition) → outer acc [] ≡ Ok (acc, [])
outer_ends acc = stops_here (comes fun_key) (read_another_group (expr_at 100)) group_eats acc [] (outer acc []) refl refl

shown_end : (acc : List Definition) (d : Definition) (ds : List Definition) (v : List Definition) → v ≡ unplaced_program acc ++ unplaced_definition d
    ∷ [] → v ++ unplaced_program ds ≡ unplaced_program acc ++ unplaced_program (d ∷ ds)
shown_end acc d ds v e = ap (λ (l : List Definition). l ++ unplaced_program ds) e ∙ append_assoc (unplaced_program acc) (unplaced_definition d ∷ []) (unplaced_program ds)

-- a group's first definition, where the definitions after it are read
first_ends : (d : Definition) (ds acc : List Definition) (w : List Terminal) → d.joined ≡ false → Definable d → words_in w ≡ program_words (d ∷ ds) →
    ((more : List Definition) (v : List Terminal) → words_in v ≡ program_words ds → Ends (rest_of (inner more v))
    (unplaced_program more ++ unplaced_program ds)) → (comes and_key (head_of w) ≡ false) ×
    (comes (symbol_code syms.Semicolon ∷ []) (head_of w) ≡ false) × Ends (outer acc w) (unplaced_program acc ++ unplaced_program (d ∷ ds))
first_ends d ds acc w j f e rest =
    let e' : words_in w ≡ (Printed.key keys.Fun ∷ one_words d) ++ program_words ds = e ∙ ap (λ (b : Bool). opening_word b ∷ (one_words d ++ program_words ds)) j in
    let h = first_of w (Printed.key keys.Fun) (one_words d ++ program_words ds) e' in
    let c = cut w (Printed.key keys.Fun ∷ one_words d) (program_words ds) e' in
    let back : c.back ++ [] ≡ c.back = append-nil c.back in
    let x = (first_read d j f).reads c.front c.back c.first (subst (λ (l : List Terminal). within after_expr (code (head_of l)) ≡ true) back
    (next_within after_expr (program_words ds) (Only (0 ∷ [])) c.back [] (next_fits ds) c.second refl)) in
    let tests : (b : Bool) → (codes : List ℕ) → within (Only codes) (word_code keys.Fun) ≡ b → comes codes (head_of w) ≡ b = λ b codes i. ap
    (λ (l : List Terminal). comes codes (head_of l)) h.is ∙ kind_is (Only codes) h.token (Printed.key keys.Fun) b h.word i in
    let y = rest (acc ++ x.0 ∷ []) c.back c.second in (
      tests false and_key refl,
      tests false (symbol_code syms.Semicolon ∷ []) refl,
      (
        y.0,
        y.1 ∙ shown_end acc d ds (unplaced_program (acc ++ x.0 ∷ []))
            (map-append unplaced_definition acc (x.0 ∷ []) ∙ ap (λ (z : Definition). unplaced_program acc ++ z ∷ []) x.1),
        group_step acc d w c.back
            (tests true fun_key refl) x.0 (ap (read_follows (Rattle.safl_tree.specs.Reader.read_word keys.Fun) (λ f. read_one false (expr_at 100))) c.is ∙ x.2) ∙ y.2,
      ),
    )

joined_ends : (d : Definition) (ds acc : List Definition) (w : List Terminal) → d.joined ≡ true → Definable d → words_in w ≡ program_words (d ∷ ds) →
    ((more : List Definition) (v : List Terminal) → words_in v ≡ program_words ds → Ends (rest_of (inner more v))
    (unplaced_program more ++ unplaced_program ds)) → Ends (rest_of (inner acc w)) (unplaced_program acc ++ unplaced_program (d ∷ ds))
joined_ends d ds acc w j f e rest =
    let e' : words_in w ≡ (Printed.key keys.And ∷ one_words d) ++ program_words ds = e ∙ ap (λ (b : Bool). opening_word b ∷ (one_words d ++ program_words ds)) j in
    let h = first_of w (Printed.key keys.And) (one_words d ++ program_words ds) e' in
    let c = cut w (Printed.key keys.And ∷ one_words d) (program_words ds) e' in
    let back : c.back ++ [] ≡ c.back = append-nil c.back in
    let x = (another_read acc d j f).reads c.front c.back c.first
    (subst (λ (l : List Terminal). within after_expr (code (head_of l)) ≡ true) back
    (next_within after_expr (program_words ds) (Only (0 ∷ [])) c.back [] (next_fits ds) c.second refl)) in
    let test : comes and_key (head_of w) ≡ true = ap (λ (l : List Terminal). comes and_key (head_of l)) h.is ∙ kind_is (Only and_key) h.token (Printed.key keys.And) true h.word refl in
    let y = rest x.0 c.back c.second in (
      y.0,
      y.1 ∙ shown_end acc d ds (unplaced_program x.0) x.1,
      ap rest_of
          (sym (goes_on (comes and_key) (read_another_one (expr_at 100)) one_eats acc w (inner acc w) refl x.0 c.back test
          (ap (read_another_one (expr_at 100) acc) c.is ∙ x.2))) ∙ y.2,
    )

rest_ends : (ds : List Definition) → AllDefinable ds → (acc : List Definition) (w : List Terminal) → words_in w ≡ program_words ds → Ends
    (rest_of (inner acc w)) (unplaced_program acc ++ unplaced_program ds)
rest_ends [] f acc w e =
    let i = nil_of w e in
    (acc, sym (append-nil (unplaced_program acc)), ap (λ (l : List Terminal). rest_of (inner acc l)) i ∙ inner_stops acc [] refl refl ∙ outer_ends acc)
rest_ends (d ∷ ds) f acc w e = by_joined d.joined refl (λ more v h. rest_ends ds f.1 more v h)
  where
    by_joined : (b : Bool) → d.joined ≡ b → ((more : List Definition) (v : List Terminal) → words_in v ≡ program_words ds → Ends
        (rest_of (inner more v)) (unplaced_program more ++ unplaced_program ds)) → Ends (rest_of (inner acc w)) (unplaced_program acc ++ unplaced_program (d ∷ ds))
    by_joined true j rest = joined_ends d ds acc w j f.0 e rest
    by_joined false j rest = let x = first_ends d ds acc w j f.0 e rest in (x.2.0, x.2.1, inner_stops acc w x.0 x.1 ∙ x.2.2)

program_ends : (ds : List Definition) → OpensGroup ds → AllDefinable ds → (w : List Terminal) → words_in w ≡ program_words ds → Ends (outer [] w) (unplaced_program ds)
program_ends [] o f w e = ([], refl, ap (outer []) (nil_of w e) ∙ outer_ends [])
program_ends (d ∷ ds) o f w e = (first_ends d ds [] w o f.0 e (λ more v h. rest_ends ds f.1 more v h)).2

source_ends : (ds : List Definition) → OpensGroup ds → AllDefinable ds → (w : List Terminal) → words_in w ≡ program_words ds → Ends (read_source w) (unplaced_program ds)
unfolding read_source read_program
source_ends ds o f w e = let x = program_ends ds o f w e in (x.0, x.1, ap (λ (y : Read Terminal (List Definition)). y >>= at_end) x.2)

-- ---- texts

definable : (ds : List Definition) → AreFormedDefinitions ds → AllKeepLevels ds → AllDefinable ds
definable [] f k = tt
definable (d ∷ ds) f k = (record { formed = f.0; body = whole d.body (claim d.body f.0.3 k.0.1) 100 k.0.0 }, definable ds f.1 k.1)

-- the text of a printable program spells it, places aside
pub printed_spells : (p : List Definition) → IsPrintable p → (q : List Definition) × SpellsProgram (printed p) q × (unplaced_program q ≡ unplaced_program p)
printed_spells p h =
    let tokens = spaced_tokens 0 (pieces p) in
    let x = source_ends p h.formed.opens (definable p h.formed.formed h.kept) (terminals (printed p) tokens) (printed_terminals p) in (
      x.0,
      record {
        tokens = tokens;
        cut = subst (λ (text : List ℕ). HasTokens text tokens) (pieces_text p)
            (spaced_reads (pieces p) (pieces_spaced p h.formed.formed));
        spelled = spelled (terminals (printed p) tokens) x.0 [] x.2;
      },
      x.1,
    )
