-- Checking for the width alone finds the widths and the faults that the walk finds.
use Rattle.safl_typing.proofs.Common.{Definition, Fault, Primitive, or_else, result_err, result_width}
use Rattle.std.proofs.Common.{◌≡◌, ℕ, suc, ◌+◌, ◌^◌, List, [], ◌∷◌, ◌++◌, length, map, Option, Some, None, Bool, true, false, cond, refl, ap, ◌∙◌}
use Rattle.std.specs.Prelude.{Result, Ok, Err, ◌&&◌, ◌==◌, nat_lt, is_none, option_map}
use Rattle.safl_word.specs.declared.fault.Rule.TheVariants as rules
use Rattle.safl_term.specs.Terms as terms
use Rattle.safl_term.specs.Terms.{Term, Const, Var, Loop, Terms, Cons}
use Rattle.safl_typing.specs.Rewriting.{Expression, Number, Sized, Variable, If, Let, Op, Call, Expressions, no_expression, an_expression, Bindings}
use Rattle.safl_typing.specs.Rewriting.{no_binding, a_binding, Shape, Alike, Comparing, Shifting, Resizing, shape, flexible, count, rewritten, placed}
use Rattle.safl_typing.specs.Heads.{Slot, Head, Known, Callee, Member, Above, Unknown, callee, sites, sites_bound, unit_of, params_of, heads}
use Rattle.safl_typing.specs.Typing.{At, innermost, slots, word, widths_of}
use Rattle.safl_typing.specs.Forms.{FunctionForm, Form, all_sites}
use Rattle.safl_typing.specs.Walk as walk
use Rattle.safl_typing.specs.Walk.{fault, fault_with, after, unless, needs, Typed, TypedAll, TypedAlike, Wanted, Any, Exactly, is_any, is_known, wanted_by}
use Rattle.safl_typing.specs.Walk.{branches, all_any, amounts, exactly, repeated, limits, group_fault, function, functions_from, main_fault, outcome}
use Rattle.safl_typing.specs.FirstFault.{settle, settle_or, width_of_number, unsettled, in_turn, operated, arguments, called, expected, check, check_all}
use Rattle.safl_typing.specs.FirstFault.{check_alike, check_shift, check_bound, fault_from, first_fault}

-- a result with another value
abbrev mapped : {A B : Type 0} → (A → B) → Result A Fault → Result B Fault
mapped f (Ok a) = Ok (f a)
mapped f (Err e) = Err e

-- the width that is expected, if one is
abbrev asked : Wanted → Option ℕ
asked Any = None
asked (Exactly w) = Some w

abbrev width : Typed → ℕ
width x = x.width

abbrev widths : TypedAll → List ℕ
widths r = r.widths

abbrev one_width : TypedAlike → ℕ
one_width r = r.width

-- ---- results

after_mapped : {A B C D : Type 0} (p : A → B) (q : C → D) (r : Result A Fault) (x : Result B Fault) (f : A → Result C Fault) (g : B → Result D Fault)
    → mapped p r ≡ x → ((a : A) → mapped q (f a) ≡ g (p a)) → mapped q (after r f) ≡ after x g
after_mapped {B = B} p q (Ok a) x f g e h = h a ∙ ap (λ (z : Result B Fault). after z g) e
after_mapped {B = B} p q (Err t) x f g e h = ap (λ (z : Result B Fault). after z g) e

unless_mapped : {A B : Type 0} (p : A → B) (o : Option Fault) (r : Result A Fault) (x : Result B Fault) → mapped p r ≡ x → mapped p (unless o r) ≡ unless o x
unless_mapped p (Some f) r x e = refl
unless_mapped p None r x e = e

cond_mapped : {A B : Type 0} (p : A → B) (b : Bool) (r s : Result A Fault) → mapped p (cond b r s) ≡ cond b (mapped p r) (mapped p s)
cond_mapped p true r s = refl
cond_mapped p false r s = refl

-- ---- parts of expressions

settle_same : (p : ℕ) (m : Wanted) (v : ℕ) (t : Term) → mapped width (walk.settle p m v t) ≡ settle p (asked m) v
settle_same p Any v t = refl
settle_same p (Exactly w) v t = cond_mapped width (w == v) (Ok (record { width = v; term = t })) (Err (fault_with rules.E12 p w v))

number_same : (p n : ℕ) (m : Wanted) → mapped width (walk.check_number p n m) ≡ width_of_number p n (asked m)
number_same p n Any = refl
number_same p n (Exactly w) = cond_mapped width (nat_lt n (2 ^ w)) (Ok (record { width = w; term = Const (word w n) })) (Err (fault rules.E13 p))

sized_same : (p v n : ℕ) (m : Wanted) → mapped width (walk.sized p v n m) ≡ cond (nat_lt n (2 ^ v)) (settle p (asked m) v) (Err (fault rules.E13 p))
sized_same p v n m = by (nat_lt n (2 ^ v))
  where
    by : (b : Bool) → mapped width (cond b (walk.settle p m v (Const (word v n))) (Err (fault rules.E13 p))) ≡ cond b (settle p (asked m) v) (Err (fault rules.E13 p))
    by true = settle_same p m v (Const (word v n))
    by false = refl

variable_same : (p : ℕ) (m : Wanted) (o : Option At) → mapped width (walk.variable p m o) ≡ settle_or (fault rules.E08 p) p (asked m) (option_map (λ a. a.width) o)
variable_same p m None = refl
variable_same p m (Some a) = settle_same p m a.width (Var a.slot)

resized_same : (p : ℕ) (m : Wanted) (o : Primitive) (found : Option ℕ) (us : Terms)
    → mapped width (walk.resized p m o found us) ≡ settle_or (fault rules.E05 p) p (asked m) found
resized_same p m o None us = refl
resized_same p m o (Some w) us = settle_same p m w (terms.Op o us)

known_same : (p : ℕ) (m : Wanted) (b : Bool) → needs (is_known m b) (fault rules.E14 p) ≡ unsettled p (asked m) b
known_same p Any true = refl
known_same p Any false = refl
known_same p (Exactly w) true = refl
known_same p (Exactly w) false = refl

-- the first of two steps gives the width
turn_same : {A B C : Type 0} (p : A → ℕ) (q : B → ℕ) (r : C → ℕ) (m : Wanted) (f : Wanted → Result A Fault) (g : Wanted → Result B Fault) (made : A → B → C)
    (i j : Option ℕ → Result ℕ Fault) → ((v : Wanted) → mapped p (f v) ≡ i (asked v)) → ((v : Wanted) → mapped q (g v) ≡ j (asked v))
    → ((a : A) (b : B) → mapped r (Ok (made a b)) ≡ Ok (p a))
    → mapped r (after (f m) (λ a. after (g (Exactly (p a))) (λ b. Ok (made a b)))) ≡ in_turn false (asked m) i j
turn_same p q r m f g made i j hf hg e =
    after_mapped p r (f m) (i (asked m)) (λ a. after (g (Exactly (p a))) (λ b. Ok (made a b))) (λ w. after (j (Some w)) (λ v. Ok w)) (hf m)
    (λ a. after_mapped q r (g (Exactly (p a))) (j (Some (p a))) (λ b. Ok (made a b)) (λ v. Ok (p a)) (hg (Exactly (p a))) (λ b. e a b))

branches_same : (b : Bool) (m : Wanted) (f g : Wanted → Result Typed Fault) (i j : Option ℕ → Result ℕ Fault) (x : Term)
    → ((v : Wanted) → mapped width (f v) ≡ i (asked v)) → ((v : Wanted) → mapped width (g v) ≡ j (asked v))
    → mapped width (branches (is_any m && b) m f g x) ≡ in_turn (is_none (asked m) && b) (asked m) i j
branches_same true Any f g i j x hf hg =
    turn_same width width width Any g f (λ z y. record { width = z.width; term = terms.If x y.term z.term }) j i hg hf (λ z y. refl)
branches_same false Any f g i j x hf hg =
    turn_same width width width Any f g (λ y z. record { width = y.width; term = terms.If x y.term z.term }) i j hf hg (λ y z. refl)
branches_same b (Exactly w) f g i j x hf hg =
    turn_same width width width (Exactly w) f g (λ y z. record { width = y.width; term = terms.If x y.term z.term }) i j hf hg (λ y z. refl)

alike_same : (b : Bool) (m : Wanted) (f : Wanted → Result Typed Fault) (g : Wanted → Result TypedAlike Fault) (i j : Option ℕ → Result ℕ Fault)
    → ((v : Wanted) → mapped width (f v) ≡ i (asked v)) → ((v : Wanted) → mapped one_width (g v) ≡ j (asked v))
    → mapped one_width (walk.alike (is_any m && b) m f g) ≡ in_turn (is_none (asked m) && b) (asked m) i j
alike_same true Any f g i j hf hg =
    turn_same one_width width one_width Any g f (λ r x. record { width = r.width; terms = Cons x.term r.terms }) j i hg hf (λ r x. refl)
alike_same false Any f g i j hf hg =
    turn_same width one_width one_width Any f g (λ x r. record { width = x.width; terms = Cons x.term r.terms }) i j hf hg (λ x r. refl)
alike_same b (Exactly w) f g i j hf hg =
    turn_same width one_width one_width (Exactly w) f g (λ x r. record { width = x.width; terms = Cons x.term r.terms }) i j hf hg (λ x r. refl)

operation_width : (o : Primitive) (r : Result TypedAlike Fault) → mapped width (after r (λ x. Ok (record { width = x.width; term = terms.Op o x.terms }))) ≡ mapped one_width r
operation_width o (Ok x) = refl
operation_width o (Err f) = refl

let_width : (us : Terms) (r : Result Typed Fault) → mapped width (after r (λ y. Ok (record { width = y.width; term = terms.Let us y.term }))) ≡ mapped width r
let_width us (Ok y) = refl
let_width us (Err f) = refl

operated_same : (o : Primitive) (p : ℕ) (m : Wanted) (sh : Shape) (same : Wanted → Result TypedAlike Fault) (shift : Result TypedAlike Fault) (all : Result TypedAll Fault)
    (i : Option ℕ → Result ℕ Fault) (j : Result ℕ Fault) (l : Result (List ℕ) Fault)
    → ((v : Wanted) → mapped one_width (same v) ≡ i (asked v)) → mapped one_width shift ≡ j → mapped widths all ≡ l
    → mapped width (walk.operated sh p m o same shift all) ≡ operated o p (asked m) sh i j l
operated_same o p m Alike same shift all i j l f g h = operation_width o (same m) ∙ f m
operated_same o p m Comparing same shift all i j l f g h =
    after_mapped one_width width (same Any) (i None) (λ r. walk.settle p m 1 (terms.Op o r.terms)) (λ w. settle p (asked m) 1) (f Any) (λ r. settle_same p m 1 (terms.Op o r.terms))
operated_same o p m Shifting same shift all i j l f g h =
    after_mapped one_width width shift j (λ r. walk.settle p m r.width (terms.Op o r.terms)) (λ w. settle p (asked m) w) g (λ r. settle_same p m r.width (terms.Op o r.terms))
operated_same o p m Resizing same shift all i j l f g h =
    after_mapped widths width all l (λ r. walk.resized p m o (result_width o r.widths) r.terms) (λ ws. settle_or (fault rules.E05 p) p (asked m) (result_width o ws)) h
    (λ r. resized_same p m o (result_width o r.widths) r.terms)

arguments_same : (p : ℕ) (m : Wanted) (h : Head) (n : ℕ) (args : Result TypedAll Fault) (call : Terms → Term) (found : List ℕ → Result (List ℕ) Fault)
    → mapped widths args ≡ found (widths_of h.params) → mapped width (walk.arguments p m h n args call) ≡ arguments p (asked m) h n found
arguments_same p m h n args call found e =
    unless_mapped width (needs (length h.params == n) (fault_with rules.E11 p (length h.params) n)) (after args (λ r. walk.settle p m h.width (call r.terms)))
    (after (found (widths_of h.params)) (λ ws. settle p (asked m) h.width))
    (after_mapped widths width args (found (widths_of h.params)) (λ r. walk.settle p m h.width (call r.terms)) (λ ws. settle p (asked m) h.width) e
    (λ r. settle_same p m h.width (call r.terms)))

called_same : (c : Callee) (tail : Bool) (lo p : ℕ) (m : Wanted) (n : ℕ) (args : ℕ → List ℕ → Result TypedAll Fault) (found : List ℕ → Result (List ℕ) Fault)
    → ((first : ℕ) (ws : List ℕ) → mapped widths (args first ws) ≡ found ws) → mapped width (walk.called c tail lo p m n args) ≡ called c tail p (asked m) n found
called_same (Member i h) tail lo p m n args found e =
    unless_mapped width (needs tail (fault rules.E10 p)) (walk.arguments p m h n (args lo (widths_of h.params)) (λ us. Loop i us)) (arguments p (asked m) h n found)
    (arguments_same p m h n (args lo (widths_of h.params)) (λ us. Loop i us) found (e lo (widths_of h.params)))
called_same (Above i h) tail lo p m n args found e =
    arguments_same p m h n (args (suc lo) (widths_of h.params)) (λ us. terms.Call i lo us) found (e (suc lo) (widths_of h.params))
called_same Unknown tail lo p m n args found e = refl

-- ---- what is expected

any_asked : (es : Expressions) → map asked (all_any es) ≡ expected (λ e. None) es
any_asked no_expression = refl
any_asked (an_expression e es) = ap (λ (l : List (Option ℕ)). None ∷ l) (any_asked es)

amount_asked : (b : Bool) (w : ℕ) → asked (cond b (Exactly w) Any) ≡ cond b (Some w) None
amount_asked true w = refl
amount_asked false w = refl

amounts_asked : (w : ℕ) (es : Expressions) → map asked (amounts w es) ≡ expected (λ e. cond (flexible e) (Some w) None) es
amounts_asked w no_expression = refl
amounts_asked w (an_expression e es) =
    ap (λ (o : Option ℕ). o ∷ map asked (amounts w es)) (amount_asked (flexible e) w)
    ∙ ap (λ (l : List (Option ℕ)). cond (flexible e) (Some w) None ∷ l) (amounts_asked w es)

exactly_asked : (ws : List ℕ) → map asked (exactly ws) ≡ map (λ w. Some w) ws
exactly_asked [] = refl
exactly_asked (w ∷ ws) = ap (λ (l : List (Option ℕ)). Some w ∷ l) (exactly_asked ws)

written_asked : (v : Option ℕ) → asked (wanted_by v) ≡ v
written_asked None = refl
written_asked (Some w) = refl

-- ---- expressions

mutual
  same : (k : Known) (s : List Slot) (tail : Bool) (lo : ℕ) (m : Wanted) (e : Expression) → mapped width (walk.check k s tail lo m e) ≡ check k s tail (asked m) e
  same k s tail lo m (Number p n) = number_same p n m
  same k s tail lo m (Sized p v n) = sized_same p v n m
  same k s tail lo m (Variable p x) = variable_same p m (innermost x 0 s)
  same k s tail lo m (If p c a b) =
      let parts : Result Typed Fault = after (walk.check k s false lo (Exactly 1) c)
      (λ x. branches (is_any m && flexible a) m (λ v. walk.check k s tail (lo + sites k c) v a) (λ v. walk.check k s tail (lo + sites k c + sites k a) v b) x.term) in
      let found : Result ℕ Fault = after (check k s false (Some 1) c) (λ w. in_turn (is_none (asked m) && flexible a) (asked m) (λ v. check k s tail v a) (λ v. check k s tail v b)) in
      unless_mapped width (needs (is_known m (flexible a && flexible b)) (fault rules.E14 p)) parts found
      (after_mapped width width (walk.check k s false lo (Exactly 1) c) (check k s false (Some 1) c)
      (λ x. branches (is_any m && flexible a) m (λ v. walk.check k s tail (lo + sites k c) v a) (λ v. walk.check k s tail (lo + sites k c + sites k a) v b) x.term)
      (λ w. in_turn (is_none (asked m) && flexible a) (asked m) (λ v. check k s tail v a) (λ v. check k s tail v b)) (same k s false lo (Exactly 1) c)
      (λ x. branches_same (flexible a) m (λ v. walk.check k s tail (lo + sites k c) v a) (λ v. walk.check k s tail (lo + sites k c + sites k a) v b)
      (λ v. check k s tail v a) (λ v. check k s tail v b) x.term (λ v. same k s tail (lo + sites k c) v a) (λ v. same k s tail (lo + sites k c + sites k a) v b)))
      ∙ ap (λ (o : Option Fault). unless o found) (known_same p m (flexible a && flexible b))
  same k s tail lo m (Let p bs b) =
      let parts : Result Typed Fault = after (walk.check_bound k s lo bs)
      (λ r. after (walk.check k (s ++ slots bs r.widths) tail (lo + sites_bound k bs) m b) (λ y. Ok (record { width = y.width; term = terms.Let r.terms y.term }))) in
      let found : Result ℕ Fault = after (check_bound k s bs) (λ ws. check k (s ++ slots bs ws) tail (asked m) b) in
      unless_mapped width (needs (is_known m (flexible b)) (fault rules.E14 p)) (unless (repeated [] (placed bs)) parts) (unless (repeated [] (placed bs)) found)
      (unless_mapped width (repeated [] (placed bs)) parts found
      (after_mapped widths width (walk.check_bound k s lo bs) (check_bound k s bs)
      (λ r. after (walk.check k (s ++ slots bs r.widths) tail (lo + sites_bound k bs) m b) (λ y. Ok (record { width = y.width; term = terms.Let r.terms y.term })))
      (λ ws. check k (s ++ slots bs ws) tail (asked m) b) (same_bound k s lo bs)
      (λ r. let_width r.terms (walk.check k (s ++ slots bs r.widths) tail (lo + sites_bound k bs) m b) ∙ same k (s ++ slots bs r.widths) tail (lo + sites_bound k bs) m b)))
      ∙ ap (λ (o : Option Fault). unless o (unless (repeated [] (placed bs)) found)) (known_same p m (flexible b))
  same k s tail lo m (Op p o es) =
      operated_same o p m (shape o) (λ v. walk.check_alike k s lo p v es) (walk.check_shift k s lo p es) (walk.check_all k s lo (all_any es) es)
      (λ v. check_alike k s p v es) (check_shift k s p es) (check_all k s (expected (λ e. None) es) es)
      (λ v. same_alike k s lo p v es) (same_shift k s lo p es)
      (same_all k s lo (all_any es) es ∙ ap (λ (l : List (Option ℕ)). check_all k s l es) (any_asked es))
  same k s tail lo m (Call p f es) =
      called_same (callee k f) tail lo p m (count es) (λ first ws. walk.check_all k s first (exactly ws) es) (λ ws. check_all k s (map (λ w. Some w) ws) es)
      (λ first ws. same_all k s first (exactly ws) es ∙ ap (λ (l : List (Option ℕ)). check_all k s l es) (exactly_asked ws))

  same_all : (k : Known) (s : List Slot) (lo : ℕ) (ms : List Wanted) (es : Expressions) → mapped widths (walk.check_all k s lo ms es) ≡ check_all k s (map asked ms) es
  same_all k s lo ms no_expression = refl
  same_all k s lo [] (an_expression e es) = refl
  same_all k s lo (m ∷ ms) (an_expression e es) =
      after_mapped width widths (walk.check k s false lo m e) (check k s false (asked m) e)
      (λ x. after (walk.check_all k s (lo + sites k e) ms es) (λ r. Ok (record { widths = x.width ∷ r.widths; terms = Cons x.term r.terms })))
      (λ w. after (check_all k s (map asked ms) es) (λ ws. Ok (w ∷ ws))) (same k s false lo m e)
      (λ x. after_mapped widths widths (walk.check_all k s (lo + sites k e) ms es) (check_all k s (map asked ms) es)
      (λ r. Ok (record { widths = x.width ∷ r.widths; terms = Cons x.term r.terms })) (λ ws. Ok (x.width ∷ ws)) (same_all k s (lo + sites k e) ms es) (λ r. refl))

  same_alike : (k : Known) (s : List Slot) (lo p : ℕ) (m : Wanted) (es : Expressions) → mapped one_width (walk.check_alike k s lo p m es) ≡ check_alike k s p (asked m) es
  same_alike k s lo p Any no_expression = refl
  same_alike k s lo p (Exactly w) no_expression = refl
  same_alike k s lo p m (an_expression e es) =
      alike_same (flexible e) m (λ v. walk.check k s false lo v e) (λ v. walk.check_alike k s (lo + sites k e) p v es) (λ v. check k s false v e) (λ v. check_alike k s p v es)
      (λ v. same k s false lo v e) (λ v. same_alike k s (lo + sites k e) p v es)

  same_shift : (k : Known) (s : List Slot) (lo p : ℕ) (es : Expressions) → mapped one_width (walk.check_shift k s lo p es) ≡ check_shift k s p es
  same_shift k s lo p no_expression = refl
  same_shift k s lo p (an_expression e es) =
      after_mapped width one_width (walk.check k s false lo Any e) (check k s false None e)
      (λ x. after (walk.check_all k s (lo + sites k e) (amounts x.width es) es) (λ r. Ok (record { width = x.width; terms = Cons x.term r.terms })))
      (λ w. after (check_all k s (expected (λ a. cond (flexible a) (Some w) None) es) es) (λ ws. Ok w)) (same k s false lo Any e)
      (λ x. after_mapped widths one_width (walk.check_all k s (lo + sites k e) (amounts x.width es) es) (check_all k s (expected (λ a. cond (flexible a) (Some x.width) None) es) es)
      (λ r. Ok (record { width = x.width; terms = Cons x.term r.terms })) (λ ws. Ok x.width)
      (same_all k s (lo + sites k e) (amounts x.width es) es ∙ ap (λ (l : List (Option ℕ)). check_all k s l es) (amounts_asked x.width es)) (λ r. refl))

  same_bound : (k : Known) (s : List Slot) (lo : ℕ) (bs : Bindings) → mapped widths (walk.check_bound k s lo bs) ≡ check_bound k s bs
  same_bound k s lo no_binding = refl
  same_bound k s lo (a_binding p x v e bs) =
      after_mapped width widths (walk.check k s false lo (wanted_by v) e) (check k s false v e)
      (λ y. after (walk.check_bound k s (lo + sites k e) bs) (λ r. Ok (record { widths = y.width ∷ r.widths; terms = Cons y.term r.terms })))
      (λ w. after (check_bound k s bs) (λ ws. Ok (w ∷ ws)))
      (same k s false lo (wanted_by v) e ∙ ap (λ (o : Option ℕ). check k s false o e) (written_asked v))
      (λ y. after_mapped widths widths (walk.check_bound k s (lo + sites k e) bs) (check_bound k s bs)
      (λ r. Ok (record { widths = y.width ∷ r.widths; terms = Cons y.term r.terms })) (λ ws. Ok (y.width ∷ ws)) (same_bound k s (lo + sites k e) bs) (λ r. refl))

-- ---- faults

err_mapped : {A B : Type 0} (p : A → B) (r : Result A Fault) → result_err r ≡ result_err (mapped p r)
err_mapped p (Ok a) = refl
err_mapped p (Err f) = refl

err_unless : {A : Type 0} (o : Option Fault) (r : Result A Fault) → result_err (unless o r) ≡ or_else o (result_err r)
err_unless (Some f) r = refl
err_unless None r = refl

err_after : {A B : Type 0} (r : Result A Fault) (f : A → Result B Fault) (o : Option Fault) → ((a : A) → result_err (f a) ≡ o) → result_err (after r f) ≡ or_else (result_err r) o
err_after (Ok a) f o h = h a
err_after (Err e) f o h = refl

or_none : (o : Option Fault) → or_else o None ≡ o
or_none (Some f) = refl
or_none None = refl

same_from : (all : List Head) (earlier : List (List ℕ)) (n u lo : ℕ) (ds : List Definition)
    → result_err (functions_from all earlier n u lo ds) ≡ fault_from all earlier n u ds
same_from all earlier n u lo [] = refl
same_from all earlier n u lo (d ∷ ds) =
    let known : Known = record { heads = all; unit = unit_of n u d } in
    let body : Expression = rewritten d.body in
    let checked : Result Typed Fault = walk.check known (params_of d) true lo (Exactly d.width) body in
    let others : Result (List FunctionForm) Fault = functions_from all (d.name ∷ earlier) (suc n) (unit_of n u d) (lo + sites known body) ds in
    let rest : Option Fault = fault_from all (d.name ∷ earlier) (suc n) (unit_of n u d) ds in
    let later : Typed → Result (List FunctionForm) Fault = λ x. after others (λ fs. Ok (function (unit_of n u d) lo d x.term ∷ fs)) in
    err_unless (group_fault earlier d ds) (after checked later)
    ∙ ap (λ (o : Option Fault). or_else (group_fault earlier d ds) o)
    (err_after checked later rest
    (λ x. err_after others (λ fs. Ok (function (unit_of n u d) lo d x.term ∷ fs)) None (λ fs. refl)
    ∙ or_none (result_err others) ∙ same_from all (d.name ∷ earlier) (suc n) (unit_of n u d) (lo + sites known body) ds)
    ∙ ap (λ (o : Option Fault). or_else o rest)
    (err_mapped width checked ∙ ap (λ (r : Result ℕ Fault). result_err r) (same known (params_of d) true lo (Exactly d.width) body)))

-- the walk's fault is the first fault
pub same_fault : (ds : List Definition) → result_err (outcome ds) ≡ first_fault ds
unfolding outcome first_fault
same_fault ds =
    let found : Result (List FunctionForm) Fault = functions_from (heads ds) [] 0 0 1 ds in
    let form : List FunctionForm → Result Form Fault = λ fs. Ok (record { functions = fs; sites = all_sites 0 fs }) in
    let ended : List FunctionForm → Result Form Fault = λ fs. unless (main_fault ds) (form fs) in
    err_unless (limits ds) (after found ended)
    ∙ ap (λ (o : Option Fault). or_else (limits ds) o)
    (err_after found ended (main_fault ds) (λ fs. err_unless (main_fault ds) (form fs) ∙ or_none (main_fault ds))
    ∙ ap (λ (o : Option Fault). or_else o (main_fault ds)) (same_from (heads ds) [] 0 0 1 ds))
