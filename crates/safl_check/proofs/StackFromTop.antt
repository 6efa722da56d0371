-- A stack of expressions, from its top down.
use Rattle.safl_check.proofs.Common.{Bind, drop_more, on_ok_weaker, option_or}
use Rattle.std.proofs.Common.{◌≡◌, ℕ, ◌+◌, ◌*◌, ◌-◌, ◌<◌, ◌≤◌, arith, List, [], ◌∷◌, ◌++◌, length, map, drop, get_or, Vec, Box, Global, Option, refl, sym, ap, subst, ◌∙◌, append_assoc}
use Rattle.std.specs.Prelude.{min, Result, OnOk}
use denote.Ref.{Bor}
use Rattle.safl_word.specs.declared.primitive.Primitive.{Primitive}
use Rattle.safl_tree.specs.Tree.{Tree, trees_of, binds_of, arms_of}
use Rattle.safl_tree.specs.Shown.{shown_tree, shown_node, shown_trees, shown_bounds, shown_labelled}
use Rattle.safl_tree.specs.declared.tree.Node.{Node}
use Rattle.safl_tree.specs.declared.tree.Node.TheVariants.{If, Let, Case, Op, Call}
use Rattle.safl_tree.specs.declared.tree.Expr.{Expr}
use Rattle.safl_tree.specs.declared.tree.Arm.{Arm}
use Rattle.safl_check.specs.Parts as shown
use Rattle.safl_check.specs.Parts.{trees_in, values_in, arms_in, parts, pending, values_of, arm_count, own_nodes, own_sites, own_long_let, total_nodes}
use Rattle.safl_word.specs.Limits.{bindings_max}
use Rattle.safl_typing.specs.Heads.{Known}
use Rattle.safl_typing.specs.Rewriting.{Expression, rewritten_binds, excess, placed}
use Rattle.safl_tree.proofs.ShownTrees.{op_shows, call_shows, let_shows, case_shows}
use Rattle.safl_check.proofs.CountsByParts.{IsMeasured, measured_next, parts_fewer}

-- one more on the top
pub pending_top : (es : List (Bor Expr)) (e : Bor Expr) → pending (es ++ e ∷ []) ≡ shown_tree e.now ∷ pending es
pending_top [] e = refl
pending_top (x ∷ xs) e = ap (λ (l : List Tree). l ++ shown_tree x.now ∷ []) (pending_top xs e)

-- the element before those from i on
before : {A : Type 0} (s : A → Tree) (xs : List A) (i : ℕ) (x : A) → 0 < i → i ≤ length xs → x ≡ get_or xs (i - 1) x → map s (drop (i - 1) xs) ≡ s x ∷ map s (drop i xs)
before {A = A} s xs i x some le is =
    let e : i - 1 + 1 ≡ i = omega arith in
    ap (λ (l : List A). map s l) (drop_more xs (i - 1) x (omega arith) ∙ ap (λ (z : A). z ∷ drop (i - 1 + 1) xs) (sym is) ∙ ap (λ (j : ℕ). x ∷ drop j xs) e)

pub pushed : {A : Type 0} (s : A → Tree) (xs : List A) (i : ℕ) (x : A) (old new : List (Bor Expr)) (r : Bor Expr) (under : List Tree)
    → 0 < i → i ≤ length xs → x ≡ get_or xs (i - 1) x → new ≡ old ++ r ∷ [] → shown_tree r.now ≡ s x → pending old ≡ map s (drop i xs) ++ under → pending new ≡ map s (drop (i - 1) xs) ++ under
pushed s xs i x old new r under some le is q v h =
    ap pending q ∙ pending_top old r ∙ ap (λ (l : List Tree). shown_tree r.now ∷ l) h ∙ ap (λ (t : Tree). t ∷ (map s (drop i xs) ++ under)) v
    ∙ sym (ap (λ (l : List Tree). l ++ under) (before s xs i x some le is))

-- an arm's value, and then its label
pub arm_pushed : (arms : List Arm) (i : ℕ) (a : Arm) (old mid new : List (Bor Expr)) (v l : Bor Expr) (under : List Tree)
    → 0 < i → i ≤ length arms → a ≡ get_or arms (i - 1) a → mid ≡ old ++ v ∷ [] → new ≡ mid ++ l ∷ [] → shown_tree v.now ≡ shown_tree a.value → shown_tree l.now ≡ shown_tree a.label
    → pending old ≡ shown.arms_of (drop i arms) ++ under → pending new ≡ shown.arms_of (drop (i - 1) arms) ++ under
arm_pushed arms i a old mid new v l under some le is p q ev el h =
    let e : i - 1 + 1 ≡ i = omega arith in
    let d : drop (i - 1) arms ≡ a ∷ drop i arms =
    drop_more arms (i - 1) a (omega arith) ∙ ap (λ (z : Arm). z ∷ drop (i - 1 + 1) arms) (sym is) ∙ ap (λ (j : ℕ). a ∷ drop j arms) e in
    ap pending q ∙ pending_top mid l ∙ ap (λ (x : List Tree). shown_tree l.now ∷ x) (ap pending p ∙ pending_top old v ∙ ap (λ (x : List Tree). shown_tree v.now ∷ x) h)
    ∙ ap (λ (t : Tree). t ∷ (shown_tree v.now ∷ (shown.arms_of (drop i arms) ++ under))) el ∙ ap (λ (t : Tree). shown_tree a.label ∷ (t ∷ (shown.arms_of (drop i arms) ++ under))) ev
    ∙ sym (ap (λ (x : List Arm). shown.arms_of x ++ under) d)

-- the lists of the plain tree are those that it was made of
pub trees_back : (ts : List Tree) → trees_in (trees_of ts) ≡ ts
trees_back [] = refl
trees_back (t ∷ ts) = ap (λ (l : List Tree). t ∷ l) (trees_back ts)

pub values_back : (bs : List Bind) → values_in (binds_of (shown_bounds bs)) ≡ values_of bs
values_back [] = refl
values_back (b ∷ bs) = ap (λ (l : List Tree). shown_tree b.value ∷ l) (values_back bs)

pub arms_back : (arms : List Arm) (t : Tree) → arms_in (arms_of (shown_labelled arms) t) ≡ shown.arms_of arms ++ t ∷ []
arms_back [] t = refl
arms_back (a ∷ arms) t = ap (λ (l : List Tree). shown_tree a.label ∷ (shown_tree a.value ∷ l)) (arms_back arms t)

-- ---- the parts of an expression on a stack

top : (s t : List (Bor Expr)) (r : Bor Expr) (e : Expr) → t ≡ s ++ r ∷ [] → r.now ≡ e → pending t ≡ shown_tree e ∷ pending s
top s t r e q v = ap pending q ∙ pending_top s r ∙ ap (λ (z : Expr). shown_tree z ∷ pending s) v

pub if_pushed : (n : Node) (p : ℕ) (c a b : Box Expr Global) (s0 s1 s2 s3 : List (Bor Expr)) (x y z : Bor Expr) → n ≡ If c a b
    → s1 ≡ s0 ++ z ∷ [] → s2 ≡ s1 ++ y ∷ [] → s3 ≡ s2 ++ x ∷ [] → z.now ≡ b.value → y.now ≡ a.value → x.now ≡ c.value → pending s3 ≡ parts (shown_node n p) ++ pending s0
if_pushed n p c a b s0 s1 s2 s3 x y z is qz qy qx ez ey ex =
    top s2 s3 x c.value qx ex ∙ ap (λ (l : List Tree). shown_tree c.value ∷ l) (top s1 s2 y a.value qy ey ∙ ap (λ (l : List Tree). shown_tree a.value ∷ l) (top s0 s1 z b.value qz ez))
    ∙ sym (ap (λ (m : Node). parts (shown_node m p) ++ pending s0) is)

pub let_pushed : {A E : Type 0} (r : Result A E) (n : Node) (p : ℕ) (binds : Vec Bind Global) (b : Box Expr Global) (xs : List Bind) (s0 s1 s2 : List (Bor Expr)) (x : Bor Expr) → n ≡ Let binds b
    → s1 ≡ s0 ++ x ∷ [] → x.now ≡ b.value → xs ≡ binds.items → OnOk r (pending s2 ≡ values_of xs ++ pending s1) → OnOk r (pending s2 ≡ parts (shown_node n p) ++ pending s0)
let_pushed r n p binds b xs s0 s1 s2 x is q e same h =
    let whole : parts (shown_node n p) ++ pending s0 ≡ values_of xs ++ pending s1 =
    ap (λ (m : Node). parts (shown_node m p) ++ pending s0) is ∙ ap (λ (t : Tree). parts t ++ pending s0) (let_shows binds b p)
    ∙ ap (λ (l : List Tree). (l ++ shown_tree b.value ∷ []) ++ pending s0) (values_back binds.items ∙ sym (ap values_of same))
    ∙ append_assoc (values_of xs) (shown_tree b.value ∷ []) (pending s0) ∙ ap (λ (l : List Tree). values_of xs ++ l) (sym (top s0 s1 x b.value q e)) in
    on_ok_weaker r (λ g. g ∙ sym whole) h

pub case_pushed : (n : Node) (p : ℕ) (e : Box Expr Global) (arms : Vec Arm Global) (d : Box Expr Global) (xs : List Arm) (s0 s1 s2 s3 : List (Bor Expr)) (x y : Bor Expr) → n ≡ Case e arms d
    → s1 ≡ s0 ++ y ∷ [] → y.now ≡ d.value → xs ≡ arms.items → pending s2 ≡ shown.arms_of xs ++ pending s1 → s3 ≡ s2 ++ x ∷ [] → x.now ≡ e.value → pending s3 ≡ parts (shown_node n p) ++ pending s0
case_pushed n p e arms d xs s0 s1 s2 s3 x y is qy ey same h qx ex =
    let inner : arms_in (arms_of (shown_labelled arms.items) (shown_tree d.value)) ++ pending s0 ≡ pending s2 =
    ap (λ (l : List Tree). l ++ pending s0) (arms_back arms.items (shown_tree d.value) ∙ ap (λ (l : List Arm). shown.arms_of l ++ shown_tree d.value ∷ []) (sym same))
    ∙ append_assoc (shown.arms_of xs) (shown_tree d.value ∷ []) (pending s0) ∙ ap (λ (l : List Tree). shown.arms_of xs ++ l) (sym (top s0 s1 y d.value qy ey)) ∙ sym h in
    top s2 s3 x e.value qx ex ∙ ap (λ (l : List Tree). shown_tree e.value ∷ l) (sym inner)
    ∙ sym (ap (λ (m : Node). parts (shown_node m p) ++ pending s0) is ∙ ap (λ (t : Tree). parts t ++ pending s0) (case_shows e arms d p))

pub op_pushed : {A E : Type 0} (r : Result A E) (n : Node) (p : ℕ) (o : Primitive) (es : Vec Expr Global) (xs : List Expr) (s0 s1 : List (Bor Expr)) → n ≡ Op o es → xs ≡ es.items
    → OnOk r (pending s1 ≡ shown_trees xs ++ pending s0) → OnOk r (pending s1 ≡ parts (shown_node n p) ++ pending s0)
op_pushed r n p o es xs s0 s1 is same h =
    let whole : parts (shown_node n p) ++ pending s0 ≡ shown_trees xs ++ pending s0 =
    ap (λ (m : Node). parts (shown_node m p) ++ pending s0) is ∙ ap (λ (t : Tree). parts t ++ pending s0) (op_shows o es p)
    ∙ ap (λ (l : List Tree). l ++ pending s0) (trees_back (shown_trees es.items) ∙ sym (ap shown_trees same)) in
    on_ok_weaker r (λ g. g ∙ sym whole) h

pub call_pushed : {A E : Type 0} (r : Result A E) (n : Node) (p : ℕ) (f : List ℕ) (es : Vec Expr Global) (xs : List Expr) (s0 s1 : List (Bor Expr)) → n ≡ Call f es → xs ≡ es.items
    → OnOk r (pending s1 ≡ shown_trees xs ++ pending s0) → OnOk r (pending s1 ≡ parts (shown_node n p) ++ pending s0)
call_pushed r n p f es xs s0 s1 is same h =
    let whole : parts (shown_node n p) ++ pending s0 ≡ shown_trees xs ++ pending s0 =
    ap (λ (m : Node). parts (shown_node m p) ++ pending s0) is ∙ ap (λ (t : Tree). parts t ++ pending s0) (call_shows f es p)
    ∙ ap (λ (l : List Tree). l ++ pending s0) (trees_back (shown_trees es.items) ∙ sym (ap shown_trees same)) in
    on_ok_weaker r (λ g. g ∙ sym whole) h

-- ---- what a let and a case count by themselves

places_of : (bs : List Bind) → map (λ x. x.place) (placed (rewritten_binds (binds_of (shown_bounds bs)))) ≡ map (λ (b : Bind). b.place) bs
places_of [] = refl
places_of (b ∷ bs) = ap (λ (l : List ℕ). b.place ∷ l) (places_of bs)

pub long_let_at : (n : Node) (p : ℕ) (binds : Vec Bind Global) (b : Box Expr Global) (xs : List Bind) (r : Option ℕ) → n ≡ Let binds b → xs ≡ binds.items
    → r ≡ excess bindings_max (map (λ (b : Bind). b.place) xs) → r ≡ own_long_let (shown_node n p)
long_let_at n p binds b xs r is same h =
    h ∙ ap (λ (l : List Bind). excess bindings_max (map (λ (b : Bind). b.place) l)) same ∙ ap (λ (l : List ℕ). excess bindings_max l) (sym (places_of binds.items))
    ∙ sym (ap (λ (m : Node). own_long_let (shown_node m p)) is ∙ ap own_long_let (let_shows binds b p))

arms_counted : (arms : List Arm) (t : Tree) → arm_count (arms_of (shown_labelled arms) t) ≡ length arms
arms_counted [] t = refl
arms_counted (a ∷ arms) t = omega (arith, arms_counted arms t)

pub case_nodes : (n : Node) (p : ℕ) (e : Box Expr Global) (arms : Vec Arm Global) (d : Box Expr Global) (count r : ℕ) → n ≡ Case e arms d → count ≡ length arms.items
    → r ≡ min 50001 (1 + 3 * count) → r ≡ min 50001 (own_nodes (shown_node n p))
case_nodes n p e arms d count r is same h =
    let own : own_nodes (shown_node n p) ≡ 1 + 3 * arm_count (arms_of (shown_labelled arms.items) (shown_tree d.value)) = ap
    (λ (m : Node). own_nodes (shown_node m p)) is ∙ ap own_nodes (case_shows e arms d p) in
    omega (arith, h, same, own, arms_counted arms.items (shown_tree d.value))

-- ---- one step of a walk

popped : (old rest : List (Bor Expr)) (e : Bor Expr) → old ≡ rest ++ e ∷ [] → pending old ≡ shown_tree e.now ∷ pending rest
popped old rest e q = ap pending q ∙ pending_top rest e

pub walk_smaller : (old rest new : List (Bor Expr)) (e : Bor Expr) → old ≡ rest ++ e ∷ [] → pending new ≡ parts (shown_tree e.now) ++ pending rest →
    total_nodes (pending new) < total_nodes (pending old)
walk_smaller old rest new e q h = omega (arith, ap total_nodes h, ap total_nodes (popped old rest e q), parts_fewer (shown_tree e.now) (pending rest))

pub walk_next : (k : Known) (s0 n0 : ℕ) (body : Expression) (long : Option ℕ) (s n : ℕ) (old rest new : List (Bor Expr)) (e : Bor Expr) (long' : Option ℕ) (s' n' : ℕ)
    → IsMeasured k s0 n0 body long s n (pending old) → old ≡ rest ++ e ∷ [] → long' ≡ option_or long (own_long_let (shown_tree e.now)) → s' ≡ min 4001
    (s + own_sites k (shown_tree e.now)) → n' ≡ min 50001 (n + min 50001 (own_nodes (shown_tree e.now)))
    → pending new ≡ parts (shown_tree e.now) ++ pending rest → IsMeasured k s0 n0 body long' s' n' (pending new)
walk_next k s0 n0 body long s n old rest new e long' s' n' m q el es en h =
    let was : IsMeasured k s0 n0 body long s n (shown_tree e.now ∷ pending rest) = subst (λ (l : List Tree). IsMeasured k s0 n0 body long s n l) (popped old rest e q) m in
    subst (λ (l : List Tree). IsMeasured k s0 n0 body long' s' n' l) (sym h) (measured_next k s0 n0 body long s n (shown_tree e.now) (pending rest) long' s' n' was el es en)
