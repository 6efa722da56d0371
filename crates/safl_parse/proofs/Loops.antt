-- What the loops read.
use Rattle.std.proofs.Common.{◌≡◌, ℕ, zero, suc, ◌<◌, ◌-◌, Bool, true, false, List, [], ◌∷◌, ◌++◌, length, Option, Ok, refl, sym, ap, ◌∙◌, arith}
use Rattle.safl_grammar.specs.Reading.{Read, Reading, head_of, read_many}
use Rattle.safl_grammar.proofs.Many.{fails_here}
use Rattle.safl_grammar.proofs.Small.{small, small_nothing, eats_token, small_follows, eats_follows, small_parses, eats_parses}
use Rattle.safl_word.specs.declared.token.Key.TheVariants as keys
use Rattle.safl_word.specs.declared.token.Sym.TheVariants as syms
use Rattle.safl_tree.specs.Tree.{Tree, Bound, Parameter}
use Rattle.safl_tree.specs.Terminals.{Terminal}
use Rattle.safl_tree.specs.Codes.{word_code, symbol_code, marked, name, comes}
use Rattle.safl_tree.specs.Reader.{read_bind, read_chained, read_compared, read_layer, read_chain, expr_at, read_another, read_another_bind}
use Rattle.safl_tree.specs.Reader.{read_another_param, read_expr, read_cases, arms_at}
use Rattle.safl_tree.proofs.KeptLevels.{expr_small}
use Rattle.safl_tree.proofs.Expressions.{written_parses}
use Rattle.safl_tree.proofs.Programs.{another_param_parses}
use Rattle.safl_parse.specs.declared.error.ReadError.{ReadError}
use Rattle.safl_parse.specs.declared.error.ReadError.TheVariants as errors
use Rattle.safl_parse.specs.Gives.{Fails, rule_of}
use Rattle.safl_tree.specs.Terminals.{terminals}

-- each turn of a loop takes a token
pub another_eats : (m : ℕ) (xs : List Tree) (w r : List Terminal) (x : List Tree) → read_another (expr_at m) xs w ≡ Ok (x, r) → length r < length w
unfolding read_another
another_eats m xs = (eats_follows (eats_token (marked (symbol_code syms.Comma))) (λ sep. small_follows (expr_small m) (λ x. small_nothing (xs ++ x ∷ [])))).left

pub another_bind_eats : (m : ℕ) (bs : List Bound) (w r : List Terminal) (x : List Bound) → read_another_bind (expr_at m) bs w ≡ Ok (x, r) → length r < length w
unfolding read_another_bind read_bind
another_bind_eats m bs = (eats_follows (eats_token (marked (symbol_code syms.Comma)))
    (λ sep. small_follows (small_follows (small (eats_token name))
    (λ x. small_follows (small_parses written_parses) (λ w. small_follows (small (eats_token (marked (symbol_code syms.Assign))))
    (λ g. small_follows (expr_small m) (λ v. small_nothing (record { place = x.place; name = x.name; width = w; value = v }))))))
    (λ b. small_nothing (bs ++ b ∷ [])))).left

pub another_param_eats : (ps : List Parameter) (w r : List Terminal) (x : List Parameter) → read_another_param ps w ≡ Ok (x, r) → length r < length w
another_param_eats ps = (eats_parses (another_param_parses ps)).left

-- a turn that fails
pub fails : {A : Type 0} (text : List ℕ) (e : ReadError) (test : Option Terminal → Bool) (go : A → Reading Terminal A)
    (eats : (a : A) (w r : List Terminal) (x : A) → go a w ≡ Ok (x, r) → length r < length w) (a : A) (w : List Terminal) (total : Read Terminal A) →
    read_many test go a w ≡ total → test (head_of w) ≡ true → Fails text e (go a w) → Fails text e total
fails text errors.NoMemory test go eats a w total so_far t h = tt
fails text (errors.Refused e rest) test go eats a w total so_far t h = fails_here test go eats a w total so_far (rule_of e, terminals text rest.now) t h

-- ---- layers

pub chain_none : (k : ℕ) (p : Reading Terminal Tree) (w : List Terminal) → k ≡ 0 → read_chain k p w ≡ p w
unfolding read_chain
chain_none zero p w e = refl
chain_none (suc k) p w e = absurd cc

layer_other : (k : ℕ) (p : Reading Terminal Tree) → (k ≡ 3 → ⊥) → read_layer k p ≡ read_chained k p
unfolding read_layer
layer_other zero p h = refl
layer_other (suc zero) p h = refl
layer_other (suc (suc zero)) p h = refl
layer_other (suc (suc (suc zero))) p h = absurd (h refl)
layer_other (suc (suc (suc (suc k)))) p h = refl

layer_three : (k : ℕ) (p : Reading Terminal Tree) → k ≡ 3 → read_layer k p ≡ read_compared k p
unfolding read_layer
layer_three zero p h = absurd (omega arith)
layer_three (suc zero) p h = absurd (omega arith)
layer_three (suc (suc zero)) p h = absurd (omega arith)
layer_three (suc (suc (suc zero))) p h = refl
layer_three (suc (suc (suc (suc k)))) p h = absurd (omega arith)

layers : (k j : ℕ) (p : Reading Terminal Tree) → suc j ≡ k → read_chain k p ≡ read_layer j (read_chain j p)
unfolding read_chain
layers k j p e = ap (λ (n : ℕ). read_chain n p) (sym e)

pub chain_compared : (k : ℕ) (p : Reading Terminal Tree) (w : List Terminal) → (k ≡ 0 → ⊥) → k - 1 ≡ 3 → read_chain k p w ≡ read_compared (k - 1) (read_chain (k - 1) p) w
chain_compared k p w n e = let i : suc (k - 1) ≡ k = omega arith in ap (λ (q : Reading Terminal Tree). q w) (layers k (k - 1) p i ∙ layer_three (k - 1) (read_chain (k - 1) p) e)

pub chain_chained : (k : ℕ) (p : Reading Terminal Tree) (w : List Terminal) → (k ≡ 0 → ⊥) → (k - 1 ≡ 3 → ⊥) → read_chain k p w ≡ read_chained (k - 1) (read_chain (k - 1) p) w
chain_chained k p w n e = let i : suc (k - 1) ≡ k = omega arith in ap (λ (q : Reading Terminal Tree). q w) (layers k (k - 1) p i ∙ layer_other (k - 1) (read_chain (k - 1) p) e)

-- ---- a case

pub expr_cases : (k : ℕ) (w : List Terminal) → (k ≡ 0 → ⊥) → comes (word_code keys.If ∷ []) (head_of w) ≡ false → comes (word_code keys.Let ∷ [])
    (head_of w) ≡ false → comes (word_code keys.Case ∷ []) (head_of w) ≡ true → expr_at k w ≡ read_cases (expr_at (k - 1)) (arms_at (k - 1)) w
unfolding expr_at read_expr arms_at
expr_cases zero w n a b c = absurd (n refl)
expr_cases (suc k) w n a b c =
    let i : k ≡ suc k - 1 = omega arith in
    rw (a, b, c) (ap (λ (j : ℕ). read_cases (expr_at j) (arms_at j) w) i)
