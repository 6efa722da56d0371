-- Signals that are declared line by line.
use Rattle.safl_unit.proofs.Common.{CheckedProgram, Line, Netlist, Sig, Signal, get_map, named, numbered, take_suc, with_signals}
use Rattle.std.proofs.Common.{◌≡◌, ℕ, zero, suc, ◌+◌, ◌≤◌, List, [], ◌∷◌, ◌++◌, map, length, length-append, take, Some, None, slice_get, refl, sym, ap, subst, ◌∙◌, arith, append_assoc}
use Rattle.std.specs.Str.{IsUtf8}
use Rattle.std.specs.String.{string_bytes}
use Rattle.std.specs.Option.{option_map_or}
use Rattle.std.proofs.lemmas.Str.{IsUtf8-nil, IsUtf8-string_bytes}
use Rattle.std.proofs.lemmas.List.{append-nil, length-map, length-take-le, map-append}
use Rattle.safl_term.specs.Tables.{Tables, name_of, param_names}
use Rattle.safl_term.proofs.HeldByChecked.{each_checked, params_named}
use Rattle.safl_term.specs.declared.checked.Function.{Function}
use Rattle.safl_term.specs.declared.checked.Parameter.{Parameter}

-- ---- names are texts

no_text : (o : _) → IsUtf8 (option_map_or (λ (f : Function). string_bytes f.name) o [])
no_text None = IsUtf8-nil
no_text (Some f) = IsUtf8-string_bytes f.name

table_name : (t : Tables) (f : ℕ) → IsUtf8 (name_of t f)
unfolding name_of
table_name t f = no_text (slice_get t.functions f)

pub name_text : (c : CheckedProgram) (f : ℕ) (x : List ℕ) → x ≡ c.name f → IsUtf8 x
name_text c f x e = subst IsUtf8 (sym e) (each_checked (λ c. IsUtf8 (c.name f)) (λ t. table_name t f) c)

param_in : (ps : List Parameter) (i : ℕ) (x : List ℕ) → slice_get (map (λ (p : Parameter). string_bytes p.name) ps) i ≡ Some x → IsUtf8 x
param_in [] i x e = absurd (cc)
param_in (p ∷ ps) zero x e = let q : string_bytes p.name ≡ x = cc in subst IsUtf8 q (IsUtf8-string_bytes p.name)
param_in (p ∷ ps) (suc i) x e = param_in ps i x e

params_in : (o : _) (i : ℕ) (x : List ℕ) → slice_get (option_map_or (λ (f : Function). map (λ (p : Parameter). string_bytes p.name) f.params.items) o []) i ≡ Some x → IsUtf8 x
params_in None i x e = absurd (cc)
params_in (Some f) i x e = param_in f.params.items i x e

table_param : (t : Tables) (f i : ℕ) (x : List ℕ) → slice_get (param_names t f) i ≡ Some x → IsUtf8 x
unfolding param_names
table_param t f i x e = params_in (slice_get t.functions f) i x e

pub param_text : (c : CheckedProgram) (f i : ℕ) (x : List ℕ) → slice_get (c.param_names f) i ≡ Some x → IsUtf8 x
param_text c f = each_checked (λ c. (i : ℕ) (x : List ℕ) → slice_get (c.param_names f) i ≡ Some x → IsUtf8 x) (λ t. table_param t f) c

-- ---- more signals

-- a net with these lines, and then with those
pub lines_on : (n m k : Netlist) (g : Line → Signal) (xs ys : List Line) → m ≡ with_signals n (map g xs) → k ≡ with_signals m (map g ys) → k ≡ with_signals n (map g (xs ++ ys))
lines_on n m k g xs ys e f =
    f ∙ ap (λ (a : Netlist). with_signals a (map g ys)) e
    ∙ ap (λ l. record { signals = l; outputs = n.outputs }) (append_assoc n.signals (map g xs) (map g ys) ∙ ap (λ l. n.signals ++ l) (sym (map-append g xs ys)))

pub lines_none : (n : Netlist) (g : Line → Signal) → n ≡ with_signals n (map g [])
lines_none n g = ap (λ l. record { signals = l; outputs = n.outputs }) (sym (append-nil n.signals))

pub lines_count : (n m : Netlist) (g : Line → Signal) (xs : List Line) → m ≡ with_signals n (map g xs) → length m.signals ≡ length n.signals + length xs
lines_count n m g xs e = ap (λ (a : Netlist). length a.signals) e ∙ length-append n.signals (map g xs) ∙ ap (λ a. length n.signals + a) (length-map xs g)

-- ---- numbers in a row

pub numbered_more : (s a b : ℕ) → numbered s (a + b) ≡ numbered s a ++ numbered (s + a) b
numbered_more s zero b = ap (λ x. numbered s x) (let e : 0 + b ≡ b = omega arith in e) ∙ ap (λ x. numbered x b) (let e : s ≡ s + 0 = omega arith in e)
numbered_more s (suc a) b =
    ap (λ x. numbered s x) (let e : suc a + b ≡ suc (a + b) = omega arith in e)
    ∙ ap (λ l. record { 0 = s } ∷ l) (numbered_more (suc s) a b ∙ ap (λ x. numbered (suc s) a ++ numbered x b) (let e : suc s + a ≡ s + suc a = omega arith in e))

pub numbered_next : (s i : ℕ) (xs : List Sig) (x : Sig) → xs ≡ numbered s i → x.0 ≡ s + i → xs ++ x ∷ [] ≡ numbered s (i + 1)
numbered_next s i xs x e f = ap (λ l. l ++ x ∷ []) e ∙ ap (λ (a : ℕ). numbered s i ++ record { 0 = a } ∷ []) f ∙ sym (numbered_more s i 1)

-- ---- the lines of parameters

pub named_get : (xs : List (List ℕ)) (ws : List ℕ) (i : ℕ) (x : List ℕ) (w : ℕ) → slice_get xs i ≡ Some x → slice_get ws i ≡ Some w → slice_get (named xs ws) i ≡ Some (x, w)
named_get [] ws i x w e f = absurd (cc)
named_get (a ∷ xs) [] i x w e f = absurd (cc)
named_get (a ∷ xs) (b ∷ ws) zero x w e f = let p : a ≡ x = cc in let q : b ≡ w = cc in ap (λ z. Some (z, b)) p ∙ ap (λ z. Some (x, z)) q
named_get (a ∷ xs) (b ∷ ws) (suc i) x w e f = named_get xs ws i x w e f

pub named_long : (xs : List (List ℕ)) (ws : List ℕ) → length xs ≡ length ws → length (named xs ws) ≡ length ws
named_long [] [] e = refl
named_long [] (w ∷ ws) e = absurd (omega (arith, e))
named_long (x ∷ xs) [] e = absurd (omega (arith, e))
named_long (x ∷ xs) (w ∷ ws) e = ap suc (named_long xs ws (omega (arith, e)))

-- the lines of a function's parameters, with these names
pub param_lines_long : (c : CheckedProgram) (f : ℕ) (g : List ℕ → List ℕ) → length (named (map g (c.param_names f)) (c.program.params f)) ≡ length (c.program.params f)
param_lines_long c f g = named_long (map g (c.param_names f)) (c.program.params f) (length-map (c.param_names f) g ∙ params_named c f)

-- one more of them
pub param_step : (c : CheckedProgram) (f i w s : ℕ) (x : List ℕ) (g : List ℕ → List ℕ) (h : Line → Signal) (n m k : Netlist)
    → slice_get (c.param_names f) i ≡ Some x → slice_get (c.program.params f) i ≡ Some w
    → m ≡ with_signals n (map h (take i (named (map g (c.param_names f)) (c.program.params f)))) → k ≡ with_signals m (h (g x, w) ∷ [])
    → k ≡ with_signals n (map h (take (i + 1) (named (map g (c.param_names f)) (c.program.params f))))
param_step c f i w s x g h n m k a b e q =
    let ls = named (map g (c.param_names f)) (c.program.params f) in
    let here = named_get (map g (c.param_names f)) (c.program.params f) i (g x) w (get_map g (c.param_names f) i x a) b in
    lines_on n m k h (take i ls) ((g x, w) ∷ []) e q
    ∙ ap (λ l. with_signals n (map h l)) (sym (take_suc ls i (g x, w) here))
    ∙ ap (λ j. with_signals n (map h (take j ls))) (let r : suc i ≡ i + 1 = omega arith in r)

-- how many there are so far
pub param_count : (c : CheckedProgram) (f i : ℕ) (g : List ℕ → List ℕ) (h : Line → Signal) (n m : Netlist) → i ≤ length (c.program.params f)
    → m ≡ with_signals n (map h (take i (named (map g (c.param_names f)) (c.program.params f)))) → length m.signals ≡ length n.signals + i
param_count c f i g h n m l e =
    let ls = named (map g (c.param_names f)) (c.program.params f) in
    let long = param_lines_long c f g in
    lines_count n m h (take i ls) e ∙ ap (λ a. length n.signals + a) (length-take-le i ls (omega (arith, l, long)))
