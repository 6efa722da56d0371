-- The functions of the definitions so far, and what the walk over the others adds to them.
use Rattle.safl_check.proofs.Common.{CheckErr, Def, Definition, Fault, Function, RefusesFault, known, shown_definition, shown_definitions}
use Rattle.safl_check.proofs.Common.{shown_expression, shown_heads, shown_slots, slice_get_read}
use Rattle.std.proofs.Common.{◌≡◌, ℕ, suc, ◌+◌, ◌<◌, ◌≤◌, List, [], ◌∷◌, ◌++◌, length, map, drop, get_or, append_assoc, Option, Some, None, true, refl, sym, ap, ◌∙◌, subst, arith}
use Rattle.std.specs.Prelude.{Result, Ok, Err, slice_get, min}
use Rattle.std.proofs.Math.ListN.{get_or-map}
use Rattle.std.proofs.Math.Numerals.{add-one}
use Rattle.std.proofs.lemmas.List.{drop_all, append-nil, length-map, map-append}
use Rattle.safl_word.proofs.Lists.{drop_read}
use Rattle.safl_tree.specs.Printable.{IsFormedDefinition, IsFormedProgram}
use Rattle.safl_typing.specs.declared.expression.Expression as code_expression
use Rattle.safl_typing.specs.declared.heads.Head as code_head
use Rattle.safl_typing.specs.declared.typed.CheckErr.TheVariants as errors
use Rattle.safl_typing.specs.Rewriting.{Expression, rewritten}
use Rattle.safl_typing.specs.Heads.{Slot, Head, Known, unit_of, params_of, heads, sites}
use Rattle.safl_typing.specs.Forms.{FunctionForm, shown_function}
use Rattle.safl_typing.specs.Walk.{Exactly, after, unless, limits, check, group_fault, function, functions_from}
use Rattle.safl_typing.specs.MayWalk.{MayCheck}
use Rattle.safl_check.specs.Groups.{name_in, earlier, first_group_fault, group_fault_at}
use Rattle.safl_check.specs.Functions.{checked_function}
use Rattle.safl_check.proofs.Remaining.{AreKnown, AreLeft, all_left, is_paired, rest_left, same_sites, may_check, same_known, as_many_heads}

-- functions, and then those of the rest
abbrev pub joined_with : List FunctionForm → Result (List FunctionForm) Fault → Result (List FunctionForm) Fault
joined_with fs r = after r (λ gs. Ok (fs ++ gs))

none_before : (r : Result (List FunctionForm) Fault) → r ≡ joined_with [] r
none_before (Ok gs) = refl
none_before (Err f) = refl

one_more : (fs : List FunctionForm) (f : FunctionForm) (r : Result (List FunctionForm) Fault) → joined_with fs (after r (λ gs. Ok (f ∷ gs))) ≡ joined_with (fs ++ f ∷ []) r
one_more fs f (Ok gs) = ap (λ (l : List FunctionForm). Ok l) (sym (append_assoc fs (f ∷ []) gs))
one_more fs f (Err e) = refl

after_ok : {A B C : Type 0} (r : Result A Fault) (g : A → B) (rest : B → Result C Fault) → after (after r (λ x. Ok (g x))) rest ≡ after r (λ x. rest (g x))
after_ok (Ok x) g rest = refl
after_ok (Err f) g rest = refl

-- the walk from a definition on, where its group has no fault
abbrev pub from_function : List Head → List (List ℕ) → ℕ → ℕ → ℕ → Definition → List Definition → Result FunctionForm Fault → Result (List FunctionForm) Fault
from_function all names n u lo d ds r =
    after r (λ f. after (functions_from all (d.name ∷ names) (suc n) (unit_of n u d) (lo + sites (record { heads = all; unit = unit_of n u d }) (rewritten d.body)) ds) (λ fs. Ok (f ∷ fs)))

functions_step : (all : List Head) (names : List (List ℕ)) (n u lo : ℕ) (d : Definition) (ds : List Definition)
    → functions_from all names n u lo (d ∷ ds) ≡ unless (group_fault names d ds)
    (from_function all names n u lo d ds (checked_function (record { heads = all; unit = unit_of n u d }) (params_of d) lo d (rewritten d.body)))
functions_step all names n u lo d ds =
    ap (λ (r : Result (List FunctionForm) Fault). unless (group_fault names d ds) r)
    (sym (after_ok (check (record { heads = all; unit = unit_of n u d }) (params_of d) true lo (Exactly d.width) (rewritten d.body))
    (λ x. function (unit_of n u d) lo d x.term) _))

group_stops : (all : List Head) (names : List (List ℕ)) (n u lo : ℕ) (ds : List Definition) (fs : List FunctionForm) (whole : Result (List FunctionForm) Fault) (f : Fault)
    → whole ≡ joined_with fs (functions_from all names n u lo ds) → first_group_fault names ds ≡ Some f → whole ≡ Err f
group_stops all names n u lo [] fs whole f p e = absurd cc
group_stops all names n u lo (d ∷ ds) fs whole f p e =
    let r : Result (List FunctionForm) Fault = from_function all names n u lo d ds (checked_function (record { heads = all; unit = unit_of n u d }) (params_of d) lo d (rewritten d.body)) in
    p ∙ ap (λ z. joined_with fs z) (functions_step all names n u lo d ds) ∙ ap (λ (o : Option Fault). joined_with fs (unless o r)) e

-- the functions of the first i definitions, and what is left
pub record IsWalked (ds : List Definition) (hs : List code_head.Head) (fs : List Function) (i lo : ℕ) : Type 0 where
  pub group : ℕ
  pub left : AreLeft (heads ds) i group lo (drop i ds) (drop i hs)
  pub functions : functions_from (heads ds) [] 0 0 1 ds ≡ joined_with (map shown_function fs) (functions_from (heads ds) (earlier ds i) i group lo (drop i ds))

pub walk_begins : (ds : List Definition) (hs : List code_head.Head) → IsFormedProgram ds → shown_heads hs ≡ heads ds → limits ds ≡ None → IsWalked ds hs [] 0 1
walk_begins ds hs formed is e = record { group = 0; left = all_left ds hs formed is e; functions = none_before _ }

pub walk_ends : (ds : List Definition) (hs : List code_head.Head) (fs : List Function) (i lo : ℕ) → IsWalked ds hs fs i lo → length ds ≤ i →
    functions_from (heads ds) [] 0 0 1 ds ≡ Ok (map shown_function fs)
walk_ends ds hs fs i lo w h =
    w.functions ∙ ap (λ (l : List Definition). joined_with (map shown_function fs) (functions_from (heads ds) (earlier ds i) i w.group lo l)) (drop_all i ds h)
    ∙ ap (λ (l : List FunctionForm). Ok l) (append-nil (map shown_function fs))

pub group_refused : (ds : List Definition) (hs : List code_head.Head) (fs : List Function) (i lo : ℕ) (f : Fault) → IsWalked ds hs fs i lo →
    group_fault_at ds i ≡ Some f → functions_from (heads ds) [] 0 0 1 ds ≡ Err f
group_refused ds hs fs i lo f w e = group_stops (heads ds) (earlier ds i) i w.group lo (drop i ds) (map shown_function fs) _ f w.functions e

-- definition i, with its head
pub record IsThere (ds : List Definition) (hs : List code_head.Head) (i : ℕ) (d : Definition) (h : code_head.Head) : Type 0 where
  pub name : name_in (slice_get ds i) ≡ d.name
  pub definition : drop i ds ≡ d ∷ drop (i + 1) ds
  pub head : drop i hs ≡ h ∷ drop (i + 1) hs

pub is_there : (defs : List Def) (hs : List code_head.Head) (i : ℕ) (d : Def) (h : code_head.Head)
    → shown_heads hs ≡ heads (shown_definitions defs) → i < length defs → d ≡ get_or defs i d → h ≡ get_or hs i h → IsThere (shown_definitions defs) hs i (shown_definition d) h
is_there defs hs i d h is few ed eh =
    let lt : i < length (shown_definitions defs) = omega (arith, few, length-map defs shown_definition) in
    let q : shown_definition d ≡ get_or (shown_definitions defs) i (shown_definition d) = ap shown_definition ed ∙ sym (get_or-map shown_definition defs i d) in
    record {
      name = ap name_in (slice_get_read (shown_definitions defs) (length (shown_definitions defs)) i (shown_definition d) refl lt q);
      definition = drop_read (shown_definitions defs) i (shown_definition d) lt q;
      head = drop_read hs i h (omega (arith, lt, as_many_heads (shown_definitions defs) hs is)) eh;
    }

stops : {A : Type 0} (e : CheckErr) (whole : Result (List FunctionForm) Fault) (fs : List FunctionForm) (r : Result A Fault)
    (rest : A → Result (List FunctionForm) Fault) → whole ≡ joined_with fs (after r rest) → RefusesFault e r → RefusesFault e whole
stops (errors.Refused f) whole fs r rest p h = p ∙ ap (λ z. joined_with fs (after z rest)) h
stops errors.TooDeep whole fs r rest p h = absurd h
stops errors.NoMemory whole fs r rest p h = tt

module _ (ds : List Definition) (hs : List code_head.Head) (fs : List Function) (i lo : ℕ) (d : Definition) (h : code_head.Head)
    (b : code_expression.Expression) (walked : IsWalked ds hs fs i lo) (there : IsThere ds hs i d h) (body : shown_expression b ≡ rewritten d.body) where
  -- the group of definition i, what its body sees, and how many sites it has
  abbrev own : ℕ
  own = unit_of i walked.group d

  abbrev sees : Known
  sees = record { heads = heads ds; unit = own }

  abbrev own_sites : ℕ
  own_sites = sites sees (rewritten d.body)

  -- the walk from here on, where the function of definition i is this
  abbrev from_here : Result FunctionForm Fault → Result (List FunctionForm) Fault
  from_here r = from_function (heads ds) (earlier ds i) i walked.group lo d (drop (i + 1) ds) r

  left_here : AreLeft (heads ds) i walked.group lo (d ∷ drop (i + 1) ds) (h ∷ drop (i + 1) hs)
  left_here =
      subst (λ (l : List code_head.Head). AreLeft (heads ds) i walked.group lo (d ∷ drop (i + 1) ds) l) there.head
      (subst (λ (l : List Definition). AreLeft (heads ds) i walked.group lo l (drop i hs)) there.definition walked.left)

  pub formed_here : IsFormedDefinition d
  formed_here = left_here.formed.0

  pub params_here : shown_slots h.params.items ≡ params_of d
  params_here = (is_paired (heads ds) i walked.group lo d (drop (i + 1) ds) h (drop (i + 1) hs) left_here).params

  pub may_check_here : (whole : List code_head.Head) → AreKnown (heads ds) whole → MayCheck whole h.unit (shown_slots h.params.items) lo (shown_expression b)
  may_check_here whole k = may_check (heads ds) i walked.group lo d (drop (i + 1) ds) h (drop (i + 1) hs) left_here b body whole k

  functions_here : functions_from (heads ds) [] 0 0 1 ds ≡ joined_with (map shown_function fs) (unless (group_fault_at ds i) (from_here (checked_function sees (params_of d) lo d (rewritten d.body))))
  functions_here =
      walked.functions ∙ ap (λ (l : List Definition). joined_with (map shown_function fs) (functions_from (heads ds) (earlier ds i) i walked.group lo l)) there.definition
      ∙ ap (λ (r : Result (List FunctionForm) Fault). joined_with (map shown_function fs) r) (functions_step (heads ds) (earlier ds i) i walked.group lo d (drop (i + 1) ds))
      ∙ sym (ap (λ (l : List Definition). joined_with (map shown_function fs)
      (unless (first_group_fault (earlier ds i) l) (from_here (checked_function sees (params_of d) lo d (rewritten d.body))))) there.definition)

  -- the function of the code is that of the walk
  same_function : (whole : List code_head.Head) → AreKnown (heads ds) whole → checked_function (known whole h.unit) (shown_slots h.params.items) lo d
      (shown_expression b) ≡ checked_function sees (params_of d) lo d (rewritten d.body)
  same_function whole k =
      let q = is_paired (heads ds) i walked.group lo d (drop (i + 1) ds) h (drop (i + 1) hs) left_here in
      ap (λ (z : Known). checked_function z (shown_slots h.params.items) lo d (shown_expression b)) (same_known (heads ds) own whole h k q.unit)
      ∙ ap (λ (l : List Slot). checked_function sees l lo d (shown_expression b)) q.params ∙ ap (λ (e : Expression). checked_function sees (params_of d) lo d e) body

  function_next : (whole : List code_head.Head) → AreKnown (heads ds) whole → group_fault_at ds i ≡ None → functions_from (heads ds) [] 0 0 1 ds ≡
      joined_with (map shown_function fs) (from_here (checked_function (known whole h.unit) (shown_slots h.params.items) lo d (shown_expression b)))
  function_next whole k g =
      functions_here ∙ ap (λ (o : Option Fault). joined_with (map shown_function fs) (unless o (from_here (checked_function sees (params_of d) lo d (rewritten d.body))))) g
      ∙ sym (ap (λ (r : Result FunctionForm Fault). joined_with (map shown_function fs) (from_here r)) (same_function whole k))

  pub function_refused : (whole : List code_head.Head) → AreKnown (heads ds) whole → (e : CheckErr) → group_fault_at ds i ≡ None → RefusesFault e
      (checked_function (known whole h.unit) (shown_slots h.params.items) lo d (shown_expression b)) → RefusesFault e (functions_from (heads ds) [] 0 0 1 ds)
  function_refused whole k e g r = stops e _ (map shown_function fs) (checked_function (known whole h.unit) (shown_slots h.params.items) lo d (shown_expression b)) _ (function_next whole k g) r

  names_next : earlier ds (i + 1) ≡ d.name ∷ earlier ds i
  names_next = ap (λ (n : ℕ). earlier ds n) (add-one i) ∙ ap (λ (x : List ℕ). x ∷ earlier ds i) there.name

  -- the function is added to those before it
  added : (whole : List code_head.Head) → AreKnown (heads ds) whole → (f : Function) → group_fault_at ds i ≡ None → checked_function
      (known whole h.unit) (shown_slots h.params.items) lo d (shown_expression b) ≡ Ok (shown_function f)
      → functions_from (heads ds) [] 0 0 1 ds ≡ joined_with (map shown_function (fs ++ f ∷ [])) (functions_from (heads ds) (earlier ds (i + 1)) (i + 1) own (lo + own_sites) (drop (i + 1) ds))
  added whole k f g r =
      let shown_next : map shown_function (fs ++ f ∷ []) ≡ map shown_function fs ++ shown_function f ∷ [] = map-append shown_function fs (f ∷ []) in
      function_next whole k g ∙ ap (λ (z : Result FunctionForm Fault). joined_with (map shown_function fs) (from_here z)) r
      ∙ one_more (map shown_function fs) (shown_function f) (functions_from (heads ds) (d.name ∷ earlier ds i) (suc i) own (lo + own_sites) (drop (i + 1) ds))
      ∙ sym (ap (λ (l : List FunctionForm). joined_with l (functions_from (heads ds) (d.name ∷ earlier ds i) (suc i) own (lo + own_sites) (drop (i + 1) ds))) shown_next)
      ∙ sym (ap (λ (l : List (List ℕ)). joined_with (map shown_function (fs ++ f ∷ [])) (functions_from (heads ds) l (suc i) own (lo + own_sites) (drop (i + 1) ds))) names_next)
      ∙ sym (ap (λ (n : ℕ). joined_with (map shown_function (fs ++ f ∷ [])) (functions_from (heads ds) (earlier ds (i + 1)) n own (lo + own_sites) (drop (i + 1) ds))) (add-one i))

  next_is : (whole : List code_head.Head) → AreKnown (heads ds) whole → (next : ℕ) → next ≡ min 4001 (lo + sites (known whole h.unit) (shown_expression b)) → lo + own_sites ≡ next
  next_is whole k next e =
      omega (arith, e, (may_check_here whole k).within, same_sites (heads ds) i walked.group lo d (drop (i + 1) ds) h (drop (i + 1) hs) left_here b body whole k)

  left_next : AreLeft (heads ds) (i + 1) own (lo + own_sites) (drop (i + 1) ds) (drop (i + 1) hs)
  left_next =
      subst (λ (n : ℕ). AreLeft (heads ds) n own (lo + own_sites) (drop (i + 1) ds) (drop (i + 1) hs)) (sym (add-one i))
      (rest_left (heads ds) i walked.group lo d (drop (i + 1) ds) h (drop (i + 1) hs) left_here)

  pub walk_goes_on : (whole again : List code_head.Head) → AreKnown (heads ds) whole → AreKnown (heads ds) again → (f : Function) (gs : List Function) (next : ℕ) → group_fault_at ds i ≡ None
      → checked_function (known whole h.unit) (shown_slots h.params.items) lo d (shown_expression b) ≡ Ok (shown_function f) → gs ≡ fs ++ f ∷ [] →
      next ≡ min 4001 (lo + sites (known again h.unit) (shown_expression b)) → IsWalked ds hs gs (i + 1) next
  walk_goes_on whole again k l f gs next g r eg en =
      let w : IsWalked ds hs (fs ++ f ∷ []) (i + 1) (lo + own_sites) = record { group = own; left = left_next; functions = added whole k f g r } in
      subst (λ (l : List Function). IsWalked ds hs l (i + 1) next) (sym eg) (subst (λ (n : ℕ). IsWalked ds hs (fs ++ f ∷ []) (i + 1) n) (next_is again l next en) w)
