-- The order of checking: the first fault of a program, or its numbered form.
use Rattle.std.specs.Prelude.{ℕ, suc, ◌+◌, ◌^◌, List, [], ◌∷◌, ◌++◌, length, map, Option, Some, None, Bool, true, false, ◌&&◌, not, ◌==◌, nat_lt, nat_le, if◌then◌else◌, codes, slice_get, Result, Ok, Err}
use Rattle.std.specs.List.{list_any}
use Rattle.std.specs.Str.{bytes_eq}
use Rattle.safl_word.specs.declared.fault.Rule.{Rule}
use Rattle.safl_word.specs.declared.fault.Rule.TheVariants as rules
use Rattle.safl_word.specs.declared.fault.Fault.{Fault}
use Rattle.safl_word.specs.declared.primitive.Primitive.{Primitive}
use Rattle.safl_word.specs.Primitives.{result_width}
use Rattle.std.specs.Option.{option_or}
use Rattle.safl_term.specs.Terms as terms
use Rattle.safl_term.specs.Terms.{Term, Const, Var, Loop, Terms, Nil, Cons}
use Rattle.safl_tree.specs.Tree.{Definition}
use Rattle.safl_tree.specs.Source.{fault_at}
use Rattle.safl_typing.specs.Rewriting.{Expression, Number, Sized, Variable, If, Let, Op, Call, Expressions, no_expression, an_expression, Bindings, no_binding, a_binding, Shape, Alike, Comparing, Shifting, Resizing, shape, flexible, count, rewritten, nodes, Placed, placed, long_let}
use Rattle.safl_typing.specs.Heads.{Slot, Head, Known, Callee, Member, Above, Unknown, callee, sites, sites_bound, unit_of, params_of, heads}
use Rattle.safl_typing.specs.Typing.{At, innermost, slots, word, widths_of}
use Rattle.safl_word.specs.Limits.{bindings_max, functions_max, params_max, sites_max, nodes_max}
use Rattle.safl_typing.specs.Forms.{FunctionForm, Form, all_sites}

-- ---- faults

-- the fault of a rule with two numbers: the expected and the found one, or a limit's number and its value
abbrev pub fault_with : Rule → ℕ → ℕ → ℕ → Fault
fault_with e p wanted found = record { rule = e; place = p; first = wanted; second = found }

-- the rest of the check, if what comes before it has no fault
abbrev pub after : {A B : Type 0} → Result A Fault → (A → Result B Fault) → Result B Fault
after (Err f) rest = Err f
after (Ok a) rest = rest a

abbrev pub unless : {A : Type 0} → Option Fault → Result A Fault → Result A Fault
unless (Some f) rest = Err f
unless None rest = rest

-- the fault, if the test fails
abbrev pub needs : Bool → Fault → Option Fault
needs b f = if b then None else Some f

-- ---- expressions

-- a width and a term; the widths and the terms of several expressions
pub record Typed : Type 0 where
  pub width : ℕ
  pub term : Term

pub record TypedAll : Type 0 where
  pub widths : List ℕ
  pub terms : Terms

-- the terms of several expressions of one width
pub record TypedAlike : Type 0 where
  pub width : ℕ
  pub terms : Terms

-- how an expression is checked: its width is to be found, or it is expected to have a width
pub data Wanted : Type 0 where
  Any : Wanted
  Exactly : (width : ℕ) → Wanted

abbrev pub is_any : Wanted → Bool
is_any Any = true
is_any (Exactly w) = false

-- whether an expression gets a width: a width is expected, or the expression is rigid
abbrev pub is_known : Wanted → Bool → Bool
is_known Any is_flexible = not is_flexible
is_known (Exactly w) is_flexible = true

abbrev pub wanted_by : Option ℕ → Wanted
wanted_by None = Any
wanted_by (Some w) = Exactly w

-- an expression whose width was found to be v. E12 if another width is expected
abbrev pub settle : ℕ → Wanted → ℕ → Term → Result Typed Fault
settle p Any v t = Ok (record { width = v; term = t })
settle p (Exactly w) v t = if w == v then Ok (record { width = v; term = t }) else Err (fault_with rules.E12 p w v)

-- a number. It has any width that it fits
abbrev pub check_number : ℕ → ℕ → Wanted → Result Typed Fault
check_number p n Any = Err (fault_at rules.E14 p)
check_number p n (Exactly w) = if nat_lt n (2 ^ w) then Ok (record { width = w; term = Const (word w n) }) else Err (fault_at rules.E13 p)

abbrev pub sized : ℕ → ℕ → ℕ → Wanted → Result Typed Fault
sized p v n m = if nat_lt n (2 ^ v) then settle p m v (Const (word v n)) else Err (fault_at rules.E13 p)

abbrev pub variable : ℕ → Wanted → Option At → Result Typed Fault
variable p m None = Err (fault_at rules.E08 p)
variable p m (Some a) = settle p m a.width (Var a.slot)

-- two branches. If no width is expected, the first rigid one gives it
abbrev pub branches : Bool → Wanted → (Wanted → Result Typed Fault) → (Wanted → Result Typed Fault) → Term → Result Typed Fault
branches true m first second x = after (second m) (λ z. after (first (Exactly z.width)) (λ y. Ok (record { width = z.width; term = terms.If x y.term z.term })))
branches false m first second x = after (first m) (λ y. after (second (Exactly y.width)) (λ z. Ok (record { width = y.width; term = terms.If x y.term z.term })))

-- operands of one width: an operand, and those that follow it
abbrev pub alike : Bool → Wanted → (Wanted → Result Typed Fault) → (Wanted → Result TypedAlike Fault) → Result TypedAlike Fault
alike true m first others = after (others m) (λ r. after (first (Exactly r.width)) (λ x. Ok (record { width = r.width; terms = Cons x.term r.terms })))
alike false m first others = after (first m) (λ x. after (others (Exactly x.width)) (λ r. Ok (record { width = x.width; terms = Cons x.term r.terms })))

-- an operator with this width in the table of widths, if there is one
abbrev pub resized : ℕ → Wanted → Primitive → Option ℕ → Terms → Result Typed Fault
resized p m o None us = Err (fault_at rules.E05 p)
resized p m o (Some w) us = settle p m w (terms.Op o us)

-- an operator, by what it requires of its operands
abbrev pub operated : Shape → ℕ → Wanted → Primitive → (Wanted → Result TypedAlike Fault) → Result TypedAlike Fault → Result TypedAll Fault → Result Typed Fault
operated Alike p m o alike shift all = after (alike m) (λ r. Ok (record { width = r.width; term = terms.Op o r.terms }))
operated Comparing p m o alike shift all = after (alike Any) (λ r. settle p m 1 (terms.Op o r.terms))
operated Shifting p m o alike shift all = after shift (λ r. settle p m r.width (terms.Op o r.terms))
operated Resizing p m o alike shift all = after all (λ r. resized p m o (result_width o r.widths) r.terms)

-- a call: first its function, then the number of its arguments, and then these, each against the width of its parameter
abbrev pub arguments : ℕ → Wanted → Head → ℕ → Result TypedAll Fault → (Terms → Term) → Result Typed Fault
arguments p m h n args call =
    unless (needs (length h.params == n) (fault_with rules.E11 p (length h.params) n))
    (after args (λ r. settle p m h.width (call r.terms)))

abbrev pub called : Callee → Bool → ℕ → ℕ → Wanted → ℕ → (ℕ → List ℕ → Result TypedAll Fault) → Result Typed Fault
called (Member i h) tail lo p m n args = unless (needs tail (fault_at rules.E10 p)) (arguments p m h n (args lo (widths_of h.params)) (λ us. Loop i us))
called (Above i h) tail lo p m n args = arguments p m h n (args (suc lo) (widths_of h.params)) (λ us. terms.Call i lo us)
called Unknown tail lo p m n args = Err (fault_at rules.E09 p)

-- E07 at the first name that is earlier in the list or among those seen before
abbrev pub repeated : List (List ℕ) → List Placed → Option Fault
repeated seen [] = None
repeated seen (x ∷ xs) = if list_any (bytes_eq x.name) seen then Some (fault_at rules.E07 x.place) else repeated (x.name ∷ seen) xs

-- how the operands of an operator are checked. For `cat`, `bits` and `ext` each width is found; for a shift that of the second
-- operand if it is rigid
abbrev pub all_any : Expressions → List Wanted
all_any no_expression = []
all_any (an_expression e es) = Any ∷ all_any es

abbrev pub amounts : ℕ → Expressions → List Wanted
amounts w no_expression = []
amounts w (an_expression e es) = (if flexible e then Exactly w else Any) ∷ amounts w es

abbrev pub exactly : List ℕ → List Wanted
exactly ws = map (λ w. Exactly w) ws

-- Checks an expression in a body that sees the functions of k, with slots s. Its sites are numbered from lo on, in the order of
-- the text, whatever is checked first.
abbrev mutual
  pub check : Known → List Slot → Bool → ℕ → Wanted → Expression → Result Typed Fault
  check k s tail lo m (Number p n) = check_number p n m
  check k s tail lo m (Sized p v n) = sized p v n m
  check k s tail lo m (Variable p x) = variable p m (innermost x 0 s)
  check k s tail lo m (If p c a b) =
      unless (needs (is_known m (flexible a && flexible b)) (fault_at rules.E14 p))
      (after (check k s false lo (Exactly 1) c)
      (λ x. branches (is_any m && flexible a) m (λ v. check k s tail (lo + sites k c) v a) (λ v. check k s tail (lo + sites k c + sites k a) v b) x.term))
  check k s tail lo m (Let p bs b) =
      unless (needs (is_known m (flexible b)) (fault_at rules.E14 p))
      (unless (repeated [] (placed bs))
      (after (check_bound k s lo bs)
      (λ r. after (check k (s ++ slots bs r.widths) tail (lo + sites_bound k bs) m b)
      (λ y. Ok (record { width = y.width; term = terms.Let r.terms y.term })))))
  check k s tail lo m (Op p o es) = operated (shape o) p m o (λ v. check_alike k s lo p v es) (check_shift k s lo p es) (check_all k s lo (all_any es) es)
  check k s tail lo m (Call p f es) = called (callee k f) tail lo p m (count es) (λ first ws. check_all k s first (exactly ws) es)

  -- checks several expressions in order, each as it is wanted
  pub check_all : Known → List Slot → ℕ → List Wanted → Expressions → Result TypedAll Fault
  check_all k s lo ms no_expression = Ok (record { widths = []; terms = Nil })
  check_all k s lo [] (an_expression e es) = Ok (record { widths = []; terms = Nil })
  check_all k s lo (m ∷ ms) (an_expression e es) =
      after (check k s false lo m e)
      (λ x. after (check_all k s (lo + sites k e) ms es)
      (λ r. Ok (record { widths = x.width ∷ r.widths; terms = Cons x.term r.terms })))

  -- Checks operands of one width. If no width is expected, the first rigid operand gives it, and is checked first.
  pub check_alike : Known → List Slot → ℕ → ℕ → Wanted → Expressions → Result TypedAlike Fault
  check_alike k s lo p Any no_expression = Err (fault_at rules.E14 p)
  check_alike k s lo p (Exactly w) no_expression = Ok (record { width = w; terms = Nil })
  check_alike k s lo p m (an_expression e es) =
      alike (is_any m && flexible e) m (λ v. check k s false lo v e) (λ v. check_alike k s (lo + sites k e) p v es)

  -- Checks the operands of a shift. The width of the first has to be found; then the others are checked.
  pub check_shift : Known → List Slot → ℕ → ℕ → Expressions → Result TypedAlike Fault
  check_shift k s lo p no_expression = Err (fault_at rules.E14 p)
  check_shift k s lo p (an_expression e es) =
      after (check k s false lo Any e)
      (λ x. after (check_all k s (lo + sites k e) (amounts x.width es) es)
      (λ r. Ok (record { width = x.width; terms = Cons x.term r.terms })))

  -- checks bindings in order, each against its written width if it has one
  pub check_bound : Known → List Slot → ℕ → Bindings → Result TypedAll Fault
  check_bound k s lo no_binding = Ok (record { widths = []; terms = Nil })
  check_bound k s lo (a_binding p x v e bs) =
      after (check k s false lo (wanted_by v) e)
      (λ x. after (check_bound k s (lo + sites k e) bs)
      (λ r. Ok (record { widths = x.width ∷ r.widths; terms = Cons x.term r.terms })))

-- ---- limits

abbrev pub limit : ℕ → ℕ → Option ℕ → Option Fault
limit number value None = None
limit number value (Some p) = Some (fault_with rules.E16 p number value)

-- the first definition that passes a limit; the first is function n, u is the group before it, and so many sites and nodes come before
abbrev pub limits_from : List Head → ℕ → ℕ → ℕ → ℕ → List Definition → Option Fault
limits_from all n u placed_sites placed_nodes [] = None
limits_from all n u placed_sites placed_nodes (d ∷ ds) =
    let body : Expression = rewritten d.body in
    let in_all : ℕ = placed_sites + sites (record { heads = all; unit = unit_of n u d }) body in
    let nodes_all : ℕ = placed_nodes + nodes body in
    option_or (limit 2 params_max (slice_get (map (λ p. p.place) d.params) params_max))
    (option_or (limit 3 bindings_max (long_let body))
    (option_or (needs (nat_le in_all sites_max) (fault_with rules.E16 d.place 4 sites_max))
    (option_or (needs (nat_le nodes_all nodes_max) (fault_with rules.E16 d.place 5 nodes_max))
    (limits_from all (suc n) (unit_of n u d) in_all nodes_all ds))))

abbrev pub limits : List Definition → Option Fault
limits ds = option_or (limit 1 functions_max (slice_get (map (λ d. d.place) ds) functions_max)) (limits_from (heads ds) 0 0 0 0 ds)

-- ---- definitions

-- the faults of a head: E06 if an earlier definition has the name, E12 if the width is not the group's, and E07
abbrev pub head_fault : List (List ℕ) → ℕ → Definition → Option Fault
head_fault earlier w d =
    option_or (if list_any (bytes_eq d.name) earlier then Some (fault_at rules.E06 d.place) else None)
    (option_or (needs (w == d.width) (fault_with rules.E12 d.place w d.width))
    (repeated [] (map (λ p. record { place = p.place; name = p.name }) d.params)))

-- the faults of the heads of the group's other functions, one by one
abbrev pub joined_faults : List (List ℕ) → ℕ → List Definition → Option Fault
joined_faults earlier w [] = None
joined_faults earlier w (d ∷ ds) = if d.joined then option_or (head_fault earlier w d) (joined_faults (d.name ∷ earlier) w ds) else None

-- all heads of a group are checked before its first body
abbrev pub group_fault : List (List ℕ) → Definition → List Definition → Option Fault
group_fault earlier d ds = if d.joined then None else option_or (head_fault earlier d.width d) (joined_faults (d.name ∷ earlier) d.width ds)

abbrev pub function : ℕ → ℕ → Definition → Term → FunctionForm
function u lo d t = record { name = d.name; params = params_of d; width = d.width; unit = u; first_site = lo; body = t }

-- the definitions in order. The first is function n, u is the group before it, and its sites are numbered from lo on
abbrev pub functions_from : List Head → List (List ℕ) → ℕ → ℕ → ℕ → List Definition → Result (List FunctionForm) Fault
functions_from all earlier n u lo [] = Ok []
functions_from all earlier n u lo (d ∷ ds) =
    let known : Known = record { heads = all; unit = unit_of n u d } in
    let body : Expression = rewritten d.body in
    unless (group_fault earlier d ds)
    (after (check known (params_of d) true lo (Exactly d.width) body)
    (λ x. after (functions_from all (d.name ∷ earlier) (suc n) (unit_of n u d) (lo + sites known body) ds)
    (λ fs. Ok (function (unit_of n u d) lo d x.term ∷ fs))))

-- the last definition is `main`
abbrev pub main_fault : List Definition → Option Fault
main_fault [] = Some (fault_at rules.E15 0)
main_fault (d ∷ []) = needs (bytes_eq d.name (codes "main")) (fault_at rules.E15 d.place)
main_fault (d ∷ (e ∷ ds)) = main_fault (e ∷ ds)

-- the check of a program: first limits, then the definitions, and then whether the last one is `main`
unfoldable pub outcome : List Definition → Result Form Fault
outcome ds =
    unless (limits ds)
    (after (functions_from (heads ds) [] 0 0 1 ds)
    (λ fs. unless (main_fault ds) (Ok (record { functions = fs; sites = all_sites 0 fs }))))

-- ---- parts by name

abbrev pub fault : Rule → ℕ → Fault
fault e p = fault_at e p

abbrev pub placed_params : Definition → List Placed
placed_params d = map (λ p. record { place = p.place; name = p.name }) d.params
