-- What is asked of the parts of an expression, and the walk over each form, step by step.
use Rattle.safl_typing.proofs.Common.{AllByRecursion, Bound, CheckErr, Fault, Primitive, length-append, result_width, shown_bindings}
use Rattle.safl_typing.proofs.Common.{shown_expression, shown_expressions, slice_get_read, slots, widths_of}
use Rattle.std.proofs.Common.{◌≡◌, ℕ, zero, suc, ◌+◌, ◌*◌, ◌<◌, ◌≤◌, ◌^◌, arith, get_or, List, [], ◌∷◌, ◌++◌, length, Option, Some, None, Bool, true, false, refl, sym, ap, ◌∙◌, subst}
use Rattle.std.specs.Prelude.{min, map, ◌&&◌, ◌==◌, Result, Ok, Err, slice_get}
use Rattle.safl_word.specs.declared.fault.Rule.TheVariants as rules
use Rattle.safl_term.specs.Terms as terms
use Rattle.safl_term.specs.Terms.{Term, Terms, Loop, Nil, Cons}
use Rattle.safl_typing.specs.declared.expression.Expression as code
use Rattle.safl_typing.specs.declared.heads.Slot as code_slot
use Rattle.safl_typing.specs.declared.heads.Head as code_head
use Rattle.safl_typing.specs.declared.heads.Callee as code_callee
use Rattle.safl_typing.specs.declared.heads.Callee.TheVariants as callees
use Rattle.safl_typing.specs.declared.typed.CheckErr.TheVariants as errors
use Rattle.safl_typing.specs.declared.typed.Wanted as code_wanted
use Rattle.safl_typing.specs.declared.typed.Wanted.TheVariants as wants
use Rattle.safl_typing.specs.Rewriting.{Expression, Number, Sized, Variable, If, Let, Op, Call, Expressions, no_expression, an_expression, Bindings}
use Rattle.safl_typing.specs.Rewriting.{no_binding, a_binding, Shape, Alike, Comparing, Shifting, Resizing, shape, flexible, count, nodes, nodes_in}
use Rattle.safl_typing.specs.Rewriting.{nodes_bound, placed}
use Rattle.safl_typing.specs.Heads.{Slot, Head, Known, Callee, Member, Above, Unknown, callee, sites, sites_in, sites_bound}
use Rattle.safl_typing.specs.Ranges.{IsWide, WideSlots, WideHeads}
use Rattle.safl_typing.specs.Walk.{fault, fault_with, after, unless, needs, Typed, TypedAll, TypedAlike, Wanted, Any, Exactly, is_any, is_known}
use Rattle.safl_typing.specs.Walk.{wanted_by, settle, branches, alike, resized, operated, arguments, called, repeated, all_any, amounts}
use Rattle.safl_typing.specs.Walk.{exactly, check, check_all, check_alike, check_shift, check_bound}
use Rattle.safl_typing.specs.PlainHeads.{shown_slots, shown_head, shown_heads, known, with_number, a_member, an_earlier, shown_callee, IsOneOf}
use Rattle.safl_typing.specs.PlainTyped.{shown_wanted, HasWidthOfWord, HasWideWanted, RefusesFault, operand_wanted, operands_wanted}
use Rattle.safl_typing.specs.MayWalk.{CountParams, MayWalk, MayCheck, MayCheckAll, MayBind}
use Rattle.safl_typing.proofs.Wide.{WideCallee, callee_wide, wide_slots, wide_append}
use Rattle.safl_typing.proofs.SlotsBelowLets.{goes}
use Rattle.safl_typing.proofs.Sound.{WideWanted, checks_has, checks_have_alike, checks_have_bound}

pub some_node : (e : Expression) → 1 ≤ nodes e
some_node (Number p n) = omega arith
some_node (Sized p w n) = omega arith
some_node (Variable p x) = omega arith
some_node (If p c a b) = omega arith
some_node (Let p bs b) = omega arith
some_node (Op p o es) = omega arith
some_node (Call p f es) = omega arith

pub next_site : (lo n r : ℕ) → r ≡ min 4001 (lo + n) → lo + n ≤ 4001 → r ≡ lo + n
next_site lo n r e h = omega (arith, e, h)

pub may_part : {R S : Type 0} (hs : List code_head.Head) (ss : List Slot) (lo n d lo2 n2 d2 : ℕ) → MayWalk hs ss lo R n d → S → lo2 + n2 ≤ 4001 → d2 ≤ d → MayWalk hs ss lo2 S n2 d2
may_part hs ss lo n d lo2 n2 d2 h s w l = record { heads = h.heads; counted = h.counted; params = h.params; slots = h.slots; range = s; within = w; room = omega (arith, h.room, l) }

-- ---- lists

pub first_of : (hs : List code_head.Head) (u : ℕ) (ss : List Slot) (lo : ℕ) (es : List code.Expression) (y : code.Expression) (ys : List code.Expression)
    → es ≡ y ∷ ys → MayCheckAll hs u ss lo (shown_expressions es) → MayCheck hs u ss lo (shown_expression y)
first_of hs u ss lo es y ys e h =
    let g : MayCheckAll hs u ss lo (shown_expressions (y ∷ ys)) = subst (λ (l : List code.Expression). MayCheckAll hs u ss lo (shown_expressions l)) e h in
    may_part hs ss lo (sites_in (known hs u) (shown_expressions (y ∷ ys))) (nodes_in (shown_expressions (y ∷ ys))) lo
    (sites (known hs u) (shown_expression y)) (nodes (shown_expression y)) g g.range.0 (omega (arith, g.within)) (omega arith)

pub rest_of : (hs : List code_head.Head) (u : ℕ) (ss : List Slot) (lo : ℕ) (es : List code.Expression) (y : code.Expression) (ys : List code.Expression) (r : ℕ)
    → es ≡ y ∷ ys → r ≡ min 4001 (lo + sites (known hs u) (shown_expression y)) → MayCheckAll hs u ss lo (shown_expressions es) → MayCheckAll hs u ss r (shown_expressions ys)
rest_of hs u ss lo es y ys r e q h =
    let g : MayCheckAll hs u ss lo (shown_expressions (y ∷ ys)) = subst (λ (l : List code.Expression). MayCheckAll hs u ss lo (shown_expressions l)) e h in
    may_part hs ss lo (sites_in (known hs u) (shown_expressions (y ∷ ys))) (nodes_in (shown_expressions (y ∷ ys))) r
    (sites_in (known hs u) (shown_expressions ys)) (nodes_in (shown_expressions ys)) g g.range.1 (omega (arith, g.within, q)) (omega arith)

pub next_of : (hs : List code_head.Head) (u : ℕ) (ss : List Slot) (lo : ℕ) (es : List code.Expression) (y : code.Expression) (ys : List code.Expression) (r : ℕ)
    → es ≡ y ∷ ys → r ≡ min 4001 (lo + sites (known hs u) (shown_expression y)) → MayCheckAll hs u ss lo (shown_expressions es) → r ≡ lo + sites (known hs u) (shown_expression y)
next_of hs u ss lo es y ys r e q h = next_site lo (sites (known hs u) (shown_expression y)) r q (first_of hs u ss lo es y ys e h).within

pub less_first : (es : List code.Expression) (y : code.Expression) (ys : List code.Expression) → es ≡ y ∷ ys → 4 * nodes (shown_expression y) < 4 * nodes_in (shown_expressions es) + 1
less_first es y ys e = omega (arith, ap (λ (l : List code.Expression). nodes_in (shown_expressions l)) e)

pub less_rest : (es : List code.Expression) (y : code.Expression) (ys : List code.Expression) → es ≡ y ∷ ys → 4 * nodes_in (shown_expressions ys) + 1 < 4 * nodes_in (shown_expressions es) + 1
less_rest es y ys e = omega (arith, some_node (shown_expression y), ap (λ (l : List code.Expression). nodes_in (shown_expressions l)) e)

-- the same of bindings
pub bound_first : (hs : List code_head.Head) (u : ℕ) (ss : List Slot) (lo : ℕ) (es : List Bound) (y : Bound) (ys : List Bound)
    → es ≡ y ∷ ys → MayBind hs u ss lo (shown_bindings es) → MayCheck hs u ss lo (shown_expression y.value)
bound_first hs u ss lo es y ys e h =
    let g : MayBind hs u ss lo (shown_bindings (y ∷ ys)) = subst (λ (l : List Bound). MayBind hs u ss lo (shown_bindings l)) e h in
    may_part hs ss lo (sites_bound (known hs u) (shown_bindings (y ∷ ys))) (nodes_bound (shown_bindings (y ∷ ys))) lo
    (sites (known hs u) (shown_expression y.value)) (nodes (shown_expression y.value)) g g.range.1 (omega (arith, g.within)) (omega arith)

pub bound_rest : (hs : List code_head.Head) (u : ℕ) (ss : List Slot) (lo : ℕ) (es : List Bound) (y : Bound) (ys : List Bound) (r : ℕ)
    → es ≡ y ∷ ys → r ≡ min 4001 (lo + sites (known hs u) (shown_expression y.value)) → MayBind hs u ss lo (shown_bindings es) → MayBind hs u ss r (shown_bindings ys)
bound_rest hs u ss lo es y ys r e q h =
    let g : MayBind hs u ss lo (shown_bindings (y ∷ ys)) = subst (λ (l : List Bound). MayBind hs u ss lo (shown_bindings l)) e h in
    may_part hs ss lo (sites_bound (known hs u) (shown_bindings (y ∷ ys))) (nodes_bound (shown_bindings (y ∷ ys))) r
    (sites_bound (known hs u) (shown_bindings ys)) (nodes_bound (shown_bindings ys)) g g.range.2 (omega (arith, g.within, q)) (omega arith)

written_wide : (o : Option ℕ) (m : code_wanted.Wanted) → shown_wanted m ≡ wanted_by o → ((v : ℕ) → o ≡ Some v → IsWide v) → HasWideWanted m
written_wide o wants.Any e f = tt
written_wide None (wants.Exactly w) e f = absurd cc
written_wide (Some v) (wants.Exactly w) e f = let q : v ≡ w = cc in let g = f v refl in subst HasWidthOfWord q (g.some, g.bounded)

pub bound_wanted : (hs : List code_head.Head) (u : ℕ) (ss : List Slot) (lo : ℕ) (es : List Bound) (y : Bound) (ys : List Bound) (m : code_wanted.Wanted)
    → es ≡ y ∷ ys → MayBind hs u ss lo (shown_bindings es) → shown_wanted m ≡ wanted_by y.width → HasWideWanted m
bound_wanted hs u ss lo es y ys m e h q =
    let g : MayBind hs u ss lo (shown_bindings (y ∷ ys)) = subst (λ (l : List Bound). MayBind hs u ss lo (shown_bindings l)) e h in
    written_wide y.width m q g.range.0

pub bound_next : (hs : List code_head.Head) (u : ℕ) (ss : List Slot) (lo : ℕ) (es : List Bound) (y : Bound) (ys : List Bound) (r : ℕ)
    → es ≡ y ∷ ys → r ≡ min 4001 (lo + sites (known hs u) (shown_expression y.value)) → MayBind hs u ss lo (shown_bindings es) → r ≡ lo + sites (known hs u) (shown_expression y.value)
bound_next hs u ss lo es y ys r e q h = next_site lo (sites (known hs u) (shown_expression y.value)) r q (bound_first hs u ss lo es y ys e h).within

pub bound_less_first : (es : List Bound) (y : Bound) (ys : List Bound) → es ≡ y ∷ ys → 4 * nodes (shown_expression y.value) < 4 * nodes_bound (shown_bindings es) + 1
bound_less_first es y ys e = omega (arith, ap (λ (l : List Bound). nodes_bound (shown_bindings l)) e)

pub bound_less_rest : (es : List Bound) (y : Bound) (ys : List Bound) → es ≡ y ∷ ys → 4 * nodes_bound (shown_bindings ys) + 1 < 4 * nodes_bound (shown_bindings es) + 1
bound_less_rest es y ys e = omega (arith, some_node (shown_expression y.value), ap (λ (l : List Bound). nodes_bound (shown_bindings l)) e)

-- ---- widths that were found

pub wide_wanted : (m : code_wanted.Wanted) → HasWideWanted m → WideWanted (shown_wanted m)
wide_wanted wants.Any h = tt
wide_wanted (wants.Exactly w) h = record { some = h.0; bounded = h.1 }

pub found_wide : (hs : List code_head.Head) (u : ℕ) (ss : List Slot) (tail : Bool) (lo : ℕ) (m : code_wanted.Wanted) (e : Expression) (x : Typed)
    → MayCheck hs u ss lo e → HasWideWanted m → check (known hs u) ss tail lo (shown_wanted m) e ≡ Ok x → HasWidthOfWord x.width
found_wide hs u ss tail lo m e x h w q =
    let g = (checks_has (known hs u) ss tail lo (lo + sites (known hs u) e) (shown_wanted m) e x refl h.heads h.slots h.range (wide_wanted m w) q).wide in
    (g.some, g.bounded)

pub alike_wide : (hs : List code_head.Head) (u : ℕ) (ss : List Slot) (lo p : ℕ) (m : code_wanted.Wanted) (es : Expressions) (r : TypedAlike)
    → MayCheckAll hs u ss lo es → HasWideWanted m → check_alike (known hs u) ss lo p (shown_wanted m) es ≡ Ok r → HasWidthOfWord r.width
alike_wide hs u ss lo p m es r h w q =
    let g = (checks_have_alike (known hs u) ss lo (lo + sites_in (known hs u) es) p (shown_wanted m) es r refl h.heads h.slots h.range (wide_wanted m w) q).wide in
    (g.some, g.bounded)

operand_wide : (o : Option ℕ) (b : Bool) (m : code_wanted.Wanted) → ((w : ℕ) → o ≡ Some w → HasWidthOfWord w) → shown_wanted m ≡ operand_wanted o b → HasWideWanted m
operand_wide o b wants.Any h e = tt
operand_wide None b (wants.Exactly w) h e = absurd cc
operand_wide (Some v) true (wants.Exactly w) h e = let q : v ≡ w = cc in subst HasWidthOfWord q (h v refl)
operand_wide (Some v) false (wants.Exactly w) h e = absurd cc

pub operands_wide : (o : Option ℕ) (es : Expressions) (ms : List code_wanted.Wanted) → ((w : ℕ) → o ≡ Some w → HasWidthOfWord w)
    → map shown_wanted ms ≡ operands_wanted o es → AllByRecursion HasWideWanted ms
operands_wide o es [] h e = tt
operands_wide None no_expression (m ∷ ms) h e = absurd cc
operands_wide (Some w) no_expression (m ∷ ms) h e = absurd cc
operands_wide None (an_expression y ys) (m ∷ ms) h e =
    let p : shown_wanted m ≡ Any = cc in let q : map shown_wanted ms ≡ all_any ys = cc in
    (operand_wide None false m h p, operands_wide None ys ms h q)
operands_wide (Some w) (an_expression y ys) (m ∷ ms) h e =
    let p : shown_wanted m ≡ operand_wanted (Some w) (flexible y) = cc in let q : map shown_wanted ms ≡ amounts w ys = cc in
    (operand_wide (Some w) (flexible y) m h p, operands_wide (Some w) ys ms h q)

pub same_some : (a b : ℕ) → ◌≡◌ {A = Option ℕ} (Some a) (Some b) → a ≡ b
same_some a b e = cc

pub none_wide : (w : ℕ) → ◌≡◌ {A = Option ℕ} None (Some w) → HasWidthOfWord w
none_wide w e = absurd cc

pub arguments_wide : (ps : List code_slot.Slot) (ms : List code_wanted.Wanted) → WideSlots (shown_slots ps) → map shown_wanted ms ≡ exactly (widths_of (shown_slots ps))
    → AllByRecursion HasWideWanted ms
arguments_wide ps [] h e = tt
arguments_wide [] (m ∷ ms) h e = absurd cc
arguments_wide (p ∷ ps) (wants.Any ∷ ms) h e = absurd cc
arguments_wide (p ∷ ps) (wants.Exactly w ∷ ms) h e =
    let v : p.width ≡ w = cc in let q : map shown_wanted ms ≡ exactly (widths_of (shown_slots ps)) = cc in
    (subst HasWidthOfWord v (h.0.some, h.0.bounded), arguments_wide ps ms h.1 q)

-- ---- expressions and bindings, in order

abbrev pub joined : Typed → TypedAll → TypedAll
joined x r = record { widths = x.width ∷ r.widths; terms = Cons x.term r.terms }

abbrev pub with_operand : ℕ → Typed → Terms → TypedAlike
with_operand w x us = record { width = w; terms = Cons x.term us }

pub all_is : (k : Known) (s : List Slot) (lo : ℕ) (ms : List code_wanted.Wanted) (m : code_wanted.Wanted) (ns : List code_wanted.Wanted)
    (es : List code.Expression) (y : code.Expression) (ys : List code.Expression) (n : ℕ)
    → ms ≡ m ∷ ns → es ≡ y ∷ ys → n ≡ lo + sites k (shown_expression y)
    → check_all k s lo (map shown_wanted ms) (shown_expressions es) ≡ after (check k s false lo (shown_wanted m) (shown_expression y))
    (λ x. after (check_all k s n (map shown_wanted ns) (shown_expressions ys)) (λ r. Ok (joined x r)))
all_is k s lo ms m ns es y ys n em e en =
    let f : ℕ → Result TypedAll Fault = λ i. after (check k s false lo (shown_wanted m) (shown_expression y))
    (λ x. after (check_all k s i (map shown_wanted ns) (shown_expressions ys)) (λ r. Ok (joined x r))) in
    ap (λ (l : List code_wanted.Wanted). check_all k s lo (map shown_wanted l) (shown_expressions es)) em
    ∙ ap (λ (l : List code.Expression). check_all k s lo (map shown_wanted (m ∷ ns)) (shown_expressions l)) e ∙ sym (ap f en)

pub all_none : (k : Known) (s : List Slot) (lo : ℕ) (ms : List code_wanted.Wanted) (es : Expressions) → length ms ≡ 0 → check_all k s lo
    (map shown_wanted ms) es ≡ Ok (record { widths = []; terms = Nil })
all_none k s lo [] no_expression e = refl
all_none k s lo [] (an_expression y ys) e = refl
all_none k s lo (m ∷ ms) es e = absurd (omega (arith, e))

pub none_is : (k : Known) (s : List Slot) (lo : ℕ) (ms : List Wanted) (es : List code.Expression) → length es ≡ 0 → check_all k s lo ms
    (shown_expressions es) ≡ Ok (record { widths = []; terms = Nil })
none_is k s lo ms [] e = refl
none_is k s lo ms (y ∷ ys) e = absurd (omega (arith, e))

pub no_bound : (k : Known) (s : List Slot) (lo : ℕ) (bs : List Bound) → length bs ≡ 0 → check_bound k s lo (shown_bindings bs) ≡ Ok (record { widths = []; terms = Nil })
no_bound k s lo [] e = refl
no_bound k s lo (b ∷ bs) e = absurd (omega (arith, e))

pub no_list : (es : List code.Expression) → length es ≡ 0 → shown_expressions es ≡ no_expression
no_list [] e = refl
no_list (y ∷ ys) e = absurd (omega (arith, e))

pub bound_is : (k : Known) (s : List Slot) (lo : ℕ) (es : List Bound) (y : Bound) (ys : List Bound) (m : Wanted) (n : ℕ)
    → es ≡ y ∷ ys → m ≡ wanted_by y.width → n ≡ lo + sites k (shown_expression y.value)
    → check_bound k s lo (shown_bindings es) ≡ after (check k s false lo m (shown_expression y.value)) (λ x. after (check_bound k s n (shown_bindings ys)) (λ r. Ok (joined x r)))
bound_is k s lo es y ys m n e em en =
    let f : Wanted → ℕ → Result TypedAll Fault = λ v i. after (check k s false lo v (shown_expression y.value)) (λ x. after (check_bound k s i (shown_bindings ys)) (λ r. Ok (joined x r))) in
    ap (λ (l : List Bound). check_bound k s lo (shown_bindings l)) e
    ∙ sym (ap (λ (v : Wanted). f v (lo + sites k (shown_expression y.value))) em) ∙ sym (ap (λ (i : ℕ). f m i) en)

pub shift_is : (k : Known) (s : List Slot) (lo p : ℕ) (es : List code.Expression) (y : code.Expression) (ys : List code.Expression) (n : ℕ)
    → es ≡ y ∷ ys → n ≡ lo + sites k (shown_expression y)
    → check_shift k s lo p (shown_expressions es) ≡ after (check k s false lo Any (shown_expression y))
    (λ x. after (check_all k s n (amounts x.width (shown_expressions ys)) (shown_expressions ys)) (λ r. Ok (with_operand x.width x r.terms)))
shift_is k s lo p es y ys n e en =
    let f : ℕ → Result TypedAlike Fault = λ i. after (check k s false lo Any (shown_expression y))
    (λ x. after (check_all k s i (amounts x.width (shown_expressions ys)) (shown_expressions ys)) (λ r. Ok (with_operand x.width x r.terms))) in
    ap (λ (l : List code.Expression). check_shift k s lo p (shown_expressions l)) e ∙ sym (ap f en)

pub shift_goes : (k : Known) (s : List Slot) (lo p : ℕ) (es : List code.Expression) (y : code.Expression) (ys : List code.Expression) (n : ℕ) (x : Typed) (ms : List Wanted)
    → es ≡ y ∷ ys → n ≡ lo + sites k (shown_expression y) → check k s false lo Any (shown_expression y) ≡ Ok x → ms ≡ amounts x.width (shown_expressions ys)
    → check_shift k s lo p (shown_expressions es) ≡ after (check_all k s n ms (shown_expressions ys)) (λ r. Ok (with_operand x.width x r.terms))
shift_goes k s lo p es y ys n x ms e en h q =
    goes _ _ _ x (shift_is k s lo p es y ys n e en) h
    ∙ ap (λ (l : List Wanted). after (check_all k s n l (shown_expressions ys)) (λ r. Ok (with_operand x.width x r.terms))) (sym q)

pub alike_later : (k : Known) (s : List Slot) (lo p : ℕ) (m : Wanted) (es : List code.Expression) (y : code.Expression) (ys : List code.Expression) (n : ℕ)
    → es ≡ y ∷ ys → (is_any m && flexible (shown_expression y)) ≡ true → n ≡ lo + sites k (shown_expression y)
    → check_alike k s lo p m (shown_expressions es) ≡ after (check_alike k s n p m (shown_expressions ys))
    (λ r. after (check k s false lo (Exactly r.width) (shown_expression y)) (λ x. Ok (with_operand r.width x r.terms)))
alike_later k s lo p m es y ys n e b en =
    let f : ℕ → Result TypedAlike Fault = λ i. after (check_alike k s i p m (shown_expressions ys))
    (λ r. after (check k s false lo (Exactly r.width) (shown_expression y)) (λ x. Ok (with_operand r.width x r.terms))) in
    ap (λ (l : List code.Expression). check_alike k s lo p m (shown_expressions l)) e
    ∙ ap (λ (c : Bool). alike c m (λ v. check k s false lo v (shown_expression y)) (λ v. check_alike k s (lo + sites k (shown_expression y)) p v (shown_expressions ys))) b ∙ sym (ap f en)

pub alike_first : (k : Known) (s : List Slot) (lo p : ℕ) (m : Wanted) (es : List code.Expression) (y : code.Expression) (ys : List code.Expression) (n : ℕ)
    → es ≡ y ∷ ys → (is_any m && flexible (shown_expression y)) ≡ false → n ≡ lo + sites k (shown_expression y)
    → check_alike k s lo p m (shown_expressions es) ≡ after (check k s false lo m (shown_expression y))
    (λ x. after (check_alike k s n p (Exactly x.width) (shown_expressions ys)) (λ r. Ok (with_operand x.width x r.terms)))
alike_first k s lo p m es y ys n e b en =
    let f : ℕ → Result TypedAlike Fault = λ i. after (check k s false lo m (shown_expression y))
    (λ x. after (check_alike k s i p (Exactly x.width) (shown_expressions ys)) (λ r. Ok (with_operand x.width x r.terms))) in
    ap (λ (l : List code.Expression). check_alike k s lo p m (shown_expressions l)) e
    ∙ ap (λ (c : Bool). alike c m (λ v. check k s false lo v (shown_expression y)) (λ v. check_alike k s (lo + sites k (shown_expression y)) p v (shown_expressions ys))) b ∙ sym (ap f en)

-- ---- ifs and lets

pub branches_later : (k : Known) (s : List Slot) (tail : Bool) (lo : ℕ) (m : Wanted) (a b : Expression) (t : Term) (n : ℕ)
    → (is_any m && flexible a) ≡ true → n ≡ lo + sites k a
    → branches (is_any m && flexible a) m (λ v. check k s tail lo v a) (λ v. check k s tail (lo + sites k a) v b) t
    ≡ after (check k s tail n m b) (λ z. after (check k s tail lo (Exactly z.width) a) (λ y. Ok (record { width = z.width; term = terms.If t y.term z.term })))
branches_later k s tail lo m a b t n e en =
    let f : ℕ → Result Typed Fault = λ i. after (check k s tail i m b) (λ z. after (check k s tail lo (Exactly z.width) a) (λ y. Ok (record { width = z.width; term = terms.If t y.term z.term }))) in
    ap (λ (c : Bool). branches c m (λ v. check k s tail lo v a) (λ v. check k s tail (lo + sites k a) v b) t) e ∙ sym (ap f en)

pub branches_first : (k : Known) (s : List Slot) (tail : Bool) (lo : ℕ) (m : Wanted) (a b : Expression) (t : Term) (n : ℕ)
    → (is_any m && flexible a) ≡ false → n ≡ lo + sites k a
    → branches (is_any m && flexible a) m (λ v. check k s tail lo v a) (λ v. check k s tail (lo + sites k a) v b) t
    ≡ after (check k s tail lo m a) (λ y. after (check k s tail n (Exactly y.width) b) (λ z. Ok (record { width = y.width; term = terms.If t y.term z.term })))
branches_first k s tail lo m a b t n e en =
    let f : ℕ → Result Typed Fault = λ i. after (check k s tail lo m a) (λ y. after (check k s tail i (Exactly y.width) b) (λ z. Ok (record { width = y.width; term = terms.If t y.term z.term }))) in
    ap (λ (c : Bool). branches c m (λ v. check k s tail lo v a) (λ v. check k s tail (lo + sites k a) v b) t) e ∙ sym (ap f en)

pub choice_not : (k : Known) (s : List Slot) (tail : Bool) (lo : ℕ) (m : Wanted) (p : ℕ) (c a b : Expression) → is_known m (flexible a && flexible b)
    ≡ false → check k s tail lo m (If p c a b) ≡ Err (fault rules.E14 p)
choice_not k s tail lo m p c a b e =
    ap (λ (t : Bool). unless (needs t (fault rules.E14 p)) (after (check k s false lo (Exactly 1) c)
    (λ x. branches (is_any m && flexible a) m (λ v. check k s tail (lo + sites k c) v a) (λ v. check k s tail (lo + sites k c + sites k a) v b) x.term))) e

pub choice_is : (k : Known) (s : List Slot) (tail : Bool) (lo : ℕ) (m : Wanted) (p : ℕ) (c a b : Expression) (n : ℕ) → is_known m (flexible a && flexible b) ≡ true → n ≡ lo + sites k c
    → check k s tail lo m (If p c a b) ≡ after (check k s false lo (Exactly 1) c)
    (λ x. branches (is_any m && flexible a) m (λ v. check k s tail n v a) (λ v. check k s tail (n + sites k a) v b) x.term)
choice_is k s tail lo m p c a b n e en =
    let f : ℕ → Result Typed Fault = λ i. after (check k s false lo (Exactly 1) c)
    (λ x. branches (is_any m && flexible a) m (λ v. check k s tail i v a) (λ v. check k s tail (i + sites k a) v b) x.term) in
    ap (λ (t : Bool). unless (needs t (fault rules.E14 p)) (f (lo + sites k c))) e ∙ sym (ap f en)

pub binding_not : (k : Known) (s : List Slot) (tail : Bool) (lo : ℕ) (m : Wanted) (p : ℕ) (bs : Bindings) (b : Expression) → is_known m (flexible b) ≡
    false → check k s tail lo m (Let p bs b) ≡ Err (fault rules.E14 p)
binding_not k s tail lo m p bs b e =
    ap (λ (t : Bool). unless (needs t (fault rules.E14 p)) (unless (repeated [] (placed bs))
    (after (check_bound k s lo bs) (λ r. after (check k (s ++ slots bs r.widths) tail (lo + sites_bound k bs) m b)
    (λ y. Ok (record { width = y.width; term = terms.Let r.terms y.term })))))) e

binding_known : (k : Known) (s : List Slot) (tail : Bool) (lo : ℕ) (m : Wanted) (p : ℕ) (bs : Bindings) (b : Expression) (o : Option Fault) → is_known
    m (flexible b) ≡ true → repeated [] (placed bs) ≡ o
    → check k s tail lo m (Let p bs b) ≡ unless o (after (check_bound k s lo bs)
    (λ r. after (check k (s ++ slots bs r.widths) tail (lo + sites_bound k bs) m b) (λ y. Ok (record { width = y.width; term = terms.Let r.terms y.term }))))
binding_known k s tail lo m p bs b o e q =
    let f : Option Fault → Result Typed Fault = λ z. unless z (after (check_bound k s lo bs)
    (λ r. after (check k (s ++ slots bs r.widths) tail (lo + sites_bound k bs) m b) (λ y. Ok (record { width = y.width; term = terms.Let r.terms y.term })))) in
    ap (λ (t : Bool). unless (needs t (fault rules.E14 p)) (f (repeated [] (placed bs)))) e ∙ ap f q

pub binding_is : (k : Known) (s : List Slot) (tail : Bool) (lo : ℕ) (m : Wanted) (p : ℕ) (bs : Bindings) (b : Expression) (n : ℕ) → is_known m
    (flexible b) ≡ true → repeated [] (placed bs) ≡ None → n ≡ lo + sites_bound k bs
    → check k s tail lo m (Let p bs b) ≡ after (check_bound k s lo bs)
    (λ r. after (check k (s ++ slots bs r.widths) tail n m b) (λ y. Ok (record { width = y.width; term = terms.Let r.terms y.term })))
binding_is k s tail lo m p bs b n e q en =
    let f : ℕ → Result Typed Fault = λ i. after (check_bound k s lo bs)
    (λ r. after (check k (s ++ slots bs r.widths) tail i m b) (λ y. Ok (record { width = y.width; term = terms.Let r.terms y.term }))) in
    binding_known k s tail lo m p bs b None e q ∙ sym (ap f en)

slots_few : (bs : Bindings) (ws : List ℕ) → length (slots bs ws) ≤ nodes_bound bs
slots_few no_binding ws = omega arith
slots_few (a_binding p x v e bs) [] = omega arith
slots_few (a_binding p x v e bs) (w ∷ ws) = omega (arith, some_node e, slots_few bs ws)

pub slots_length : (ss : List code_slot.Slot) → length (shown_slots ss) ≡ length ss
slots_length [] = refl
slots_length (s ∷ ss) = ap (λ n. suc n) (slots_length ss)

pub may_below : (hs : List code_head.Head) (u : ℕ) (ss below : List Slot) (lo p : ℕ) (bs : Bindings) (b : Expression) (r : TypedAll) (n : ℕ)
    → MayCheck hs u ss lo (Let p bs b) → n ≡ min 4001 (lo + sites_bound (known hs u) bs) → check_bound (known hs u) ss lo bs ≡ Ok r
    → below ≡ ss ++ slots bs r.widths → MayCheck hs u below n b
may_below hs u ss below lo p bs b r n h q c e =
    let w = (checks_have_bound (known hs u) ss lo (lo + sites_bound (known hs u) bs) bs r refl h.heads h.slots h.range.0 c).wide in
    let l : length below ≡ length ss + length (slots bs r.widths) = omega (arith, ap (λ (z : List Slot). length z) e, length-append ss (slots bs r.widths)) in
    record {
      heads = h.heads;
      counted = h.counted;
      params = h.params;
      slots = subst WideSlots (sym e)
          (wide_append ss (slots bs r.widths) h.slots (wide_slots bs r.widths w));
      range = h.range.1;
      within = omega (arith, h.within, q);
      room = omega
          (arith, h.room, l, slots_few bs r.widths);
    }

-- ---- operators

operated_is : (k : Known) (s : List Slot) (tail : Bool) (lo : ℕ) (m : Wanted) (p : ℕ) (o : Primitive) (es : Expressions) (sh : Shape) → sh ≡ shape o
    → check k s tail lo m (Op p o es) ≡ operated sh p m o (λ v. check_alike k s lo p v es) (check_shift k s lo p es) (check_all k s lo (all_any es) es)
operated_is k s tail lo m p o es sh e = sym (ap (λ (z : Shape). operated z p m o (λ v. check_alike k s lo p v es) (check_shift k s lo p es) (check_all k s lo (all_any es) es)) e)

pub alike_is : (k : Known) (s : List Slot) (tail : Bool) (lo : ℕ) (m : Wanted) (p : ℕ) (o : Primitive) (es : Expressions) → Alike ≡ shape o
    → check k s tail lo m (Op p o es) ≡ after (check_alike k s lo p m es) (λ r. Ok (record { width = r.width; term = terms.Op o r.terms }))
alike_is k s tail lo m p o es e = operated_is k s tail lo m p o es Alike e

pub comparing_is : (k : Known) (s : List Slot) (tail : Bool) (lo : ℕ) (m : Wanted) (p : ℕ) (o : Primitive) (es : Expressions) → Comparing ≡ shape o
    → check k s tail lo m (Op p o es) ≡ after (check_alike k s lo p Any es) (λ r. settle p m 1 (terms.Op o r.terms))
comparing_is k s tail lo m p o es e = operated_is k s tail lo m p o es Comparing e

pub shifting_is : (k : Known) (s : List Slot) (tail : Bool) (lo : ℕ) (m : Wanted) (p : ℕ) (o : Primitive) (es : Expressions) → Shifting ≡ shape o
    → check k s tail lo m (Op p o es) ≡ after (check_shift k s lo p es) (λ r. settle p m r.width (terms.Op o r.terms))
shifting_is k s tail lo m p o es e = operated_is k s tail lo m p o es Shifting e

pub resizing_is : (k : Known) (s : List Slot) (tail : Bool) (lo : ℕ) (m : Wanted) (p : ℕ) (o : Primitive) (es : Expressions) → Resizing ≡ shape o
    → check k s tail lo m (Op p o es) ≡ after (check_all k s lo (all_any es) es) (λ r. resized p m o (result_width o r.widths) r.terms)
resizing_is k s tail lo m p o es e = operated_is k s tail lo m p o es Resizing e

-- ---- calls

pub callee_member : (hs : List code_head.Head) (k : Known) (f : List ℕ) (c : code_callee.Callee) (n : ℕ) (h : code_head.Head) → shown_callee hs c ≡
    callee k f → IsOneOf hs c → c ≡ callees.Member n → h ≡ get_or hs n h → callee k f ≡ Member n (shown_head h)
callee_member hs k f c n h e one is get =
    sym e ∙ ap (shown_callee hs) is ∙ ap (λ (o : Option code_head.Head). a_member (with_number n o)) (slice_get_read hs (length hs) n h refl (subst (IsOneOf hs) is one) get)

pub callee_above : (hs : List code_head.Head) (k : Known) (f : List ℕ) (c : code_callee.Callee) (n : ℕ) (h : code_head.Head) → shown_callee hs c ≡
    callee k f → IsOneOf hs c → c ≡ callees.Above n → h ≡ get_or hs n h → callee k f ≡ Above n (shown_head h)
callee_above hs k f c n h e one is get =
    sym e ∙ ap (shown_callee hs) is ∙ ap (λ (o : Option code_head.Head). an_earlier (with_number n o)) (slice_get_read hs (length hs) n h refl (subst (IsOneOf hs) is one) get)

called_is : (k : Known) (s : List Slot) (tail : Bool) (lo : ℕ) (m : Wanted) (p : ℕ) (f : List ℕ) (es : Expressions) (c : Callee) → callee k f ≡ c
    → check k s tail lo m (Call p f es) ≡ called c tail lo p m (count es) (λ first ws. check_all k s first (exactly ws) es)
called_is k s tail lo m p f es c e = ap (λ (z : Callee). called z tail lo p m (count es) (λ first ws. check_all k s first (exactly ws) es)) e

pub unknown_is : (k : Known) (s : List Slot) (tail : Bool) (lo : ℕ) (m : Wanted) (p : ℕ) (f : List ℕ) (es : Expressions) → callee k f ≡ Unknown →
    check k s tail lo m (Call p f es) ≡ Err (fault rules.E09 p)
unknown_is k s tail lo m p f es e = called_is k s tail lo m p f es Unknown e

pub not_tail : (k : Known) (s : List Slot) (tail : Bool) (lo : ℕ) (m : Wanted) (p : ℕ) (f : List ℕ) (es : Expressions) (n : ℕ) (h : Head) → callee k f
    ≡ Member n h → tail ≡ false → check k s tail lo m (Call p f es) ≡ Err (fault rules.E10 p)
not_tail k s tail lo m p f es n h e t =
    called_is k s tail lo m p f es (Member n h) e ∙ ap (λ (b : Bool). unless (needs b (fault rules.E10 p))
    (arguments p m h (count es) (check_all k s lo (exactly (widths_of h.params)) es) (λ us. Loop n us))) t

pub count_all : (es : List code.Expression) → count (shown_expressions es) ≡ length es
count_all [] = refl
count_all (y ∷ ys) = let i = count_all ys in omega (arith, i)

pub few_arguments : (es : Expressions) → count es ≤ nodes_in es
few_arguments no_expression = omega arith
few_arguments (an_expression e es) = omega (arith, some_node e, few_arguments es)

-- ---- results

pub ok_all : (a b : TypedAll) → a ≡ b → ◌≡◌ {A = Result TypedAll Fault} (Ok a) (Ok b)
ok_all a b e = rw e refl

pub ok_typed : (a b : Typed) → a ≡ b → ◌≡◌ {A = Result Typed Fault} (Ok a) (Ok b)
ok_typed a b e = rw e refl

pub same_typed : (v w : ℕ) (t u : Term) → v ≡ w → t ≡ u → ◌≡◌ {A = Typed} (record { width = v; term = t }) (record { width = w; term = u })
same_typed v w t u e q = rw (e, q) refl

pub refused_is : {A : Type 0} (r : CheckErr) (q : Result A Fault) (f : Fault) → r ≡ errors.Refused f → q ≡ Err f → RefusesFault r q
refused_is r q f e h = subst (λ (z : CheckErr). RefusesFault z q) (sym e) h

-- ---- functions that are called

pub few_params : (hs : List code_head.Head) (n : ℕ) (h : code_head.Head) → CountParams hs → n < length hs → h ≡ get_or hs n h → length h.params.items < 2 ^ 32
few_params [] n h c lt get = absurd (omega (arith, lt))
few_params (y ∷ ys) zero h c lt get = subst (λ (z : code_head.Head). length z.params.items < 2 ^ 32) (sym get) c.0
few_params (y ∷ ys) (suc n) h c lt get = few_params ys n h c.1 (omega (arith, lt)) get

pub wide_member : (hs : List code_head.Head) (u : ℕ) (f : List ℕ) (n : ℕ) (h : code_head.Head) → WideHeads (shown_heads hs) → callee (known hs u) f ≡
    Member n (shown_head h) → WideSlots (shown_head h).params
wide_member hs u f n h w e = let g : WideCallee (Member n (shown_head h)) = subst WideCallee e (callee_wide (known hs u) f w) in g.params

pub wide_above : (hs : List code_head.Head) (u : ℕ) (f : List ℕ) (n : ℕ) (h : code_head.Head) → WideHeads (shown_heads hs) → callee (known hs u) f ≡
    Above n (shown_head h) → WideSlots (shown_head h).params
wide_above hs u f n h w e = let g : WideCallee (Above n (shown_head h)) = subst WideCallee e (callee_wide (known hs u) f w) in g.params

pub same_count : (a b : ℕ) (ps : List code_slot.Slot) (es : List code.Expression) → a ≡ length ps → b ≡ length es → (a == b) ≡ (length (shown_slots ps) == count (shown_expressions es))
same_count a b ps es e q = ap (λ (n : ℕ). n == b) (e ∙ sym (slots_length ps)) ∙ ap (λ (n : ℕ). length (shown_slots ps) == n) (q ∙ sym (count_all es))

counted_after : {A B : Type 0} (o : Option Fault) (r : Result A Fault) (rest : A → Result B Fault) → unless o (after r rest) ≡ after (unless o r) rest
counted_after None r rest = refl
counted_after (Some f) r rest = refl

abbrev pub counted_arguments : Known → List Slot → ℕ → ℕ → Head → Expressions → Result TypedAll Fault
counted_arguments k s lo p h es = unless (needs (length h.params == count es) (fault_with rules.E11 p (length h.params) (count es))) (check_all k s lo (exactly (widths_of h.params)) es)

pub loop_is : (k : Known) (s : List Slot) (tail : Bool) (lo : ℕ) (m : Wanted) (p : ℕ) (f : List ℕ) (es : Expressions) (n : ℕ) (h : Head) → callee k f ≡ Member n h → tail ≡ true
    → check k s tail lo m (Call p f es) ≡ after (counted_arguments k s lo p h es) (λ r. settle p m h.width (Loop n r.terms))
loop_is k s tail lo m p f es n h e t =
    called_is k s tail lo m p f es (Member n h) e ∙ ap (λ (b : Bool). unless (needs b (fault rules.E10 p))
    (arguments p m h (count es) (check_all k s lo (exactly (widths_of h.params)) es) (λ us. Loop n us))) t
    ∙ counted_after (needs (length h.params == count es) (fault_with rules.E11 p (length h.params) (count es)))
    (check_all k s lo (exactly (widths_of h.params)) es) (λ r. settle p m h.width (Loop n r.terms))

pub call_is : (k : Known) (s : List Slot) (tail : Bool) (lo : ℕ) (m : Wanted) (p : ℕ) (f : List ℕ) (es : Expressions) (n : ℕ) (h : Head) (next : ℕ) → callee k f ≡ Above n h → next ≡ suc lo
    → check k s tail lo m (Call p f es) ≡ after (counted_arguments k s next p h es) (λ r. settle p m h.width (terms.Call n lo r.terms))
call_is k s tail lo m p f es n h next e en =
    called_is k s tail lo m p f es (Above n h) e
    ∙ counted_after (needs (length h.params == count es) (fault_with rules.E11 p (length h.params) (count es)))
    (check_all k s (suc lo) (exactly (widths_of h.params)) es) (λ r. settle p m h.width (terms.Call n lo r.terms))
    ∙ sym (ap (λ (i : ℕ). after (counted_arguments k s i p h es) (λ r. settle p m h.width (terms.Call n lo r.terms))) en)

-- ---- heads and refusals

abbrev pub refusal : Fault → Result TypedAll Fault
refusal f = Err f

-- the function of a number, where it is one
abbrev pub head_at : List code_head.Head → ℕ → Head
head_at [] n = record { name = []; params = []; width = 0; unit = 0 }
head_at (h ∷ hs) zero = shown_head h
head_at (h ∷ hs) (suc n) = head_at hs n

get_head : (hs : List code_head.Head) (n : ℕ) → n < length hs → (h : code_head.Head) × (slice_get hs n ≡ Some h) × (shown_head h ≡ head_at hs n)
get_head [] n lt = absurd (omega (arith, lt))
get_head (h ∷ hs) zero lt = (h, refl, refl)
get_head (h ∷ hs) (suc n) lt = get_head hs n (omega (arith, lt))

pub member_is : (hs : List code_head.Head) (k : Known) (f : List ℕ) (c : code_callee.Callee) (n : ℕ) → shown_callee hs c ≡ callee k f → IsOneOf hs c →
    c ≡ callees.Member n → callee k f ≡ Member n (head_at hs n)
member_is hs k f c n e one is =
    let g = get_head hs n (subst (IsOneOf hs) is one) in
    sym e ∙ ap (shown_callee hs) is ∙ ap (λ (o : Option code_head.Head). a_member (with_number n o)) g.1 ∙ ap (λ (h : Head). Member n h) g.2

pub wrong_is : (p : ℕ) (ps : List code_slot.Slot) (es : List code.Expression) → errors.Refused (fault_with rules.E11 p (length ps) (length es)) ≡
    errors.Refused (fault_with rules.E11 p (length (shown_slots ps)) (count (shown_expressions es)))
wrong_is p ps es = ap (λ (n : ℕ). errors.Refused (fault_with rules.E11 p n (length es))) (sym (slots_length ps)) ∙ ap
    (λ (n : ℕ). errors.Refused (fault_with rules.E11 p (length (shown_slots ps)) n)) (sym (count_all es))
