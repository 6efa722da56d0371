-- Names that stand earlier, and the members of a group one by one.
use Rattle.safl_check.proofs.Common.{Def, Fault, Param, bytes_eq, list_any, option_map, or_else}
use Rattle.std.proofs.Common.{◌≡◌, ℕ, zero, suc, ◌+◌, ◌<◌, ◌≤◌, arith, List, [], ◌∷◌, length, map, take, drop, get_or, Bool, true, false, cond}
use Rattle.std.proofs.Common.{Option, Some, None, IfSome, refl, sym, ap, subst, ◌∙◌, ⊎_elim}
use Rattle.std.specs.Prelude.{◌||◌, ◌==◌, slice_get}
use Rattle.std.proofs.lemmas.Bool.{eq-eqb, ne_eqb}
use Rattle.std.proofs.lemmas.List.{drop_more, drop-map}
use Rattle.std.proofs.lemmas.List.Folds.{list_any_more}
use Rattle.std.proofs.lemmas.Option.{slice_get_read, slice_get_cases, slice_get-map}
use Rattle.std.proofs.Math.Bool.{or_comm}
use Rattle.safl_word.specs.declared.fault.Rule.TheVariants as rules
use Rattle.safl_tree.specs.Tree.{Definition, Parameter}
use Rattle.safl_tree.specs.Shown.{shown_definition, shown_definitions, shown_parameters}
use Rattle.safl_typing.specs.Walk.{fault, fault_with, needs, repeated, placed_params, head_fault, joined_faults}
use Rattle.safl_typing.specs.Rewriting.{Placed}
use Rattle.safl_check.specs.Groups.{name_in, earlier, first_group_fault, group_fault_at}
use Rattle.safl_check.proofs.FirstOfTwo.{first_of, second_of}

-- ---- names before a place

abbrev pub name_at : {A : Type 0} → (A → List ℕ) → Option A → List ℕ
name_at name None = []
name_at name (Some a) = name a

-- the names of the first so many, the last one first
abbrev pub names_before : {A : Type 0} → (A → List ℕ) → List A → ℕ → List (List ℕ)
names_before name xs zero = []
names_before name xs (suc n) = name_at name (slice_get xs n) ∷ names_before name xs n

pub names_next : {A : Type 0} (name : A → List ℕ) (xs : List A) (i : ℕ) (x : A) → i < length xs → x ≡ get_or xs i x → names_before name xs (i + 1) ≡ name x ∷ names_before name xs i
names_next {A = A} name xs i x lt is =
    let e : i + 1 ≡ suc i = omega arith in
    ap (λ (n : ℕ). names_before name xs n) e ∙ ap (λ (o : Option A). name_at name o ∷ names_before name xs i) (slice_get_read xs (length xs) i x refl lt is)

-- the order does not matter
pub any_before : {A : Type 0} (name : A → List ℕ) (x : List ℕ) (xs : List A) (n : ℕ) → n ≤ length xs → list_any (bytes_eq x) (names_before name xs n)
    ≡ list_any (λ (a : A). bytes_eq x (name a)) (take n xs)
any_before name x xs zero le = refl
any_before {A = A} name x xs (suc n) le = ⊎_elim
    (λ q.
    let test : A → Bool = λ (a : A). bytes_eq x (name a) in
    let lt : n < length xs = omega (arith, le) in
    let e : suc n ≡ n + 1 = omega arith in
    let more : list_any test (take (suc n) xs) ≡ (list_any test (take n xs) || test q.0) =
    ap (λ (k : ℕ). list_any test (take k xs)) e ∙ list_any_more test xs n q.0 lt ∙ ap (λ (a : A). list_any test (take n xs) || test a) q.3 in
    ap (λ (o : Option A). bytes_eq x (name_at name o) || list_any (bytes_eq x) (names_before name xs n)) q.2
    ∙ ap (λ (b : Bool). test q.0 || b) (any_before name x xs n (omega (arith, le))) ∙ or_comm (test q.0) (list_any test (take n xs)) ∙ sym more)
    (λ q. absurd (omega (arith, q.0, le))) (slice_get_cases xs n).1

abbrev pub def_names : List Def → ℕ → List (List ℕ)
def_names ds n = names_before (λ (d : Def). d.name) ds n

shown_name : (o : Option Def) → name_in (option_map shown_definition o) ≡ name_at (λ (d : Def). d.name) o
shown_name None = refl
shown_name (Some d) = refl

earlier_names : (ds : List Def) (n : ℕ) → earlier (shown_definitions ds) n ≡ def_names ds n
earlier_names ds zero = refl
earlier_names ds (suc n) =
    ap (λ (o : Option Definition). name_in o ∷ earlier (shown_definitions ds) n) (slice_get-map shown_definition ds n) ∙ ap
    (λ (x : List ℕ). x ∷ earlier (shown_definitions ds) n) (shown_name (slice_get ds n))
    ∙ ap (λ (l : List (List ℕ)). name_at (λ (d : Def). d.name) (slice_get ds n) ∷ l) (earlier_names ds n)

earlier_next : (ds : List Def) (i : ℕ) (d : Def) → i < length ds → d ≡ get_or ds i d → earlier (shown_definitions ds) (i + 1) ≡ d.name ∷ earlier (shown_definitions ds) i
earlier_next ds i d lt is = earlier_names ds (i + 1) ∙ names_next (λ (d : Def). d.name) ds i d lt is ∙ ap (λ (l : List (List ℕ)). d.name ∷ l) (sym (earlier_names ds i))

-- ---- parameters

abbrev pub places : List Param → List Placed
places ps = map (λ (p : Parameter). record { place = p.place; name = p.name }) (shown_parameters ps)

abbrev pub param_names : List Param → ℕ → List (List ℕ)
param_names ps n = names_before (λ (p : Param). p.name) ps n

repeated_at : (ps : List Param) (i : ℕ) (p : Param) (c : Bool) → i < length ps → p ≡ get_or ps i p → c ≡ list_any (λ (q : Param). bytes_eq p.name q.name) (take i ps)
    → repeated (param_names ps i) (places (drop i ps)) ≡ cond c (Some (fault rules.E07 p.place)) (repeated (param_names ps (i + 1)) (places (drop (i + 1) ps)))
repeated_at ps i p c lt is q =
    let t : drop i ps ≡ p ∷ drop (i + 1) ps = drop_more ps i p lt ∙ ap (λ (z : Param). z ∷ drop (i + 1) ps) (sym is) in
    let among : list_any (bytes_eq p.name) (param_names ps i) ≡ c = any_before (λ (p : Param). p.name) p.name ps i (omega (arith, lt)) ∙ sym q in
    ap (λ (l : List Param). repeated (param_names ps i) (places l)) t
    ∙ ap (λ (b : Bool). cond b (Some (fault rules.E07 p.place)) (repeated (p.name ∷ param_names ps i) (places (drop (i + 1) ps)))) among
    ∙ ap (λ (l : List (List ℕ)). cond c (Some (fault rules.E07 p.place)) (repeated l (places (drop (i + 1) ps)))) (sym (names_next (λ (p : Param). p.name) ps i p lt is))

pub repeated_here : (ps : List Param) (i : ℕ) (p : Param) (c : Bool) → i < length ps → p ≡ get_or ps i p → c ≡ list_any (λ (q : Param). bytes_eq p.name q.name) (take i ps) → c ≡ true
    → repeated (param_names ps i) (places (drop i ps)) ≡ Some (fault rules.E07 p.place)
repeated_here ps i p c lt is q e = repeated_at ps i p true lt is (sym e ∙ q)

pub repeated_next : (ps : List Param) (i : ℕ) (p : Param) (c : Bool) → i < length ps → p ≡ get_or ps i p → c ≡ list_any (λ (q : Param). bytes_eq p.name q.name) (take i ps) → c ≡ false
    → repeated (param_names ps i) (places (drop i ps)) ≡ repeated (param_names ps (i + 1)) (places (drop (i + 1) ps))
repeated_next ps i p c lt is q e = repeated_at ps i p false lt is (sym e ∙ q)

-- ---- one head

pub head_named : (names : List (List ℕ)) (w : ℕ) (d : Definition) → list_any (bytes_eq d.name) names ≡ true → head_fault names w d ≡ Some (fault rules.E06 d.place)
head_named names w d e = ap (λ (b : Bool). or_else (cond b (Some (fault rules.E06 d.place)) None)
    (or_else (needs (w == d.width) (fault_with rules.E12 d.place w d.width)) (repeated [] (placed_params d)))) e

head_new : (names : List (List ℕ)) (w : ℕ) (d : Definition) (b : Bool) → list_any (bytes_eq d.name) names ≡ false → (w == d.width) ≡ b
    → head_fault names w d ≡ or_else (needs b (fault_with rules.E12 d.place w d.width)) (repeated [] (placed_params d))
head_new names w d b e q =
    ap (λ (c : Bool). or_else (cond c (Some (fault rules.E06 d.place)) None) (or_else (needs (w == d.width) (fault_with rules.E12 d.place w d.width)) (repeated [] (placed_params d)))) e
    ∙ ap (λ (c : Bool). or_else (needs c (fault_with rules.E12 d.place w d.width)) (repeated [] (placed_params d))) q

pub head_other : (names : List (List ℕ)) (w : ℕ) (d : Definition) (wanted found : ℕ) → list_any (bytes_eq d.name) names ≡ false → (d.width ≡ w → ⊥) → wanted ≡ w → found ≡ d.width
    → head_fault names w d ≡ Some (fault_with rules.E12 d.place wanted found)
head_other names w d wanted found e ne p q =
    head_new names w d false e (ne_eqb w d.width (λ h. ne (sym h))) ∙ ap (λ (n : ℕ). Some (fault_with rules.E12 d.place n d.width)) (sym p) ∙ ap
    (λ (n : ℕ). Some (fault_with rules.E12 d.place wanted n)) (sym q)

pub head_same : (names : List (List ℕ)) (w : ℕ) (d : Definition) → list_any (bytes_eq d.name) names ≡ false → d.width ≡ w → head_fault names w d ≡ repeated [] (placed_params d)
head_same names w d e h = head_new names w d true e (eq-eqb w d.width (sym h))

-- ---- members

pub joined_at : (ds : List Def) (i w : ℕ) (d : Def) (b : Bool) → i < length ds → d ≡ get_or ds i d → d.joined ≡ b
    → joined_faults (earlier (shown_definitions ds) i) w (shown_definitions (drop i ds)) ≡ cond b
    (or_else (head_fault (earlier (shown_definitions ds) i) w (shown_definition d))
    (joined_faults (earlier (shown_definitions ds) (i + 1)) w (shown_definitions (drop (i + 1) ds)))) None
joined_at ds i w d b lt is j =
    let t : drop i ds ≡ d ∷ drop (i + 1) ds = drop_more ds i d lt ∙ ap (λ (z : Def). z ∷ drop (i + 1) ds) (sym is) in
    ap (λ (l : List Def). joined_faults (earlier (shown_definitions ds) i) w (shown_definitions l)) t
    ∙ ap (λ (c : Bool). cond c (or_else (head_fault (earlier (shown_definitions ds) i) w (shown_definition d))
    (joined_faults (d.name ∷ earlier (shown_definitions ds) i) w (shown_definitions (drop (i + 1) ds)))) None) j
    ∙ ap (λ (l : List (List ℕ)). cond b (or_else (head_fault (earlier (shown_definitions ds) i) w (shown_definition d))
    (joined_faults l w (shown_definitions (drop (i + 1) ds)))) None) (sym (earlier_next ds i d lt is))

pub group_at : (ds : List Def) (i : ℕ) (d : Def) (b : Bool) → i < length ds → d ≡ get_or ds i d → d.joined ≡ b
    → group_fault_at (shown_definitions ds) i ≡ cond b None (or_else (head_fault (earlier (shown_definitions ds) i) d.width (shown_definition d))
    (joined_faults (earlier (shown_definitions ds) (i + 1)) d.width (shown_definitions (drop (i + 1) ds))))
group_at ds i d b lt is j =
    let t : drop i ds ≡ d ∷ drop (i + 1) ds = drop_more ds i d lt ∙ ap (λ (z : Def). z ∷ drop (i + 1) ds) (sym is) in
    ap (λ (l : List Definition). first_group_fault (earlier (shown_definitions ds) i) l) (drop-map shown_definition i ds)
    ∙ ap (λ (l : List Def). first_group_fault (earlier (shown_definitions ds) i) (shown_definitions l)) t
    ∙ ap (λ (c : Bool). cond c None (or_else (head_fault (earlier (shown_definitions ds) i) d.width (shown_definition d))
    (joined_faults (d.name ∷ earlier (shown_definitions ds) i) d.width (shown_definitions (drop (i + 1) ds))))) j
    ∙ ap (λ (l : List (List ℕ)). cond b None (or_else (head_fault (earlier (shown_definitions ds) i) d.width (shown_definition d))
    (joined_faults l d.width (shown_definitions (drop (i + 1) ds))))) (sym (earlier_next ds i d lt is))

-- ---- the head of a definition, and those that follow it

abbrev pub HasHeadFault : List Def → ℕ → ℕ → Option Fault → Def → Type 0
HasHeadFault ds n w r d = r ≡ head_fault (earlier (shown_definitions ds) n) w (shown_definition d)

pub head_shown : (ds : List Def) (n w : ℕ) (d : Def) (r : Option Fault) → n < length ds → d ≡ get_or ds n d → HasHeadFault ds n w r d → IfSome (slice_get ds n) (HasHeadFault ds n w r)
head_shown ds n w d r lt is h = subst (λ (o : Option Def). IfSome o (HasHeadFault ds n w r)) (sym (slice_get_read ds (length ds) n d refl lt is)) h

head_here : (ds : List Def) (n w : ℕ) (d : Def) (r : Option Fault) → n < length ds → d ≡ get_or ds n d → IfSome (slice_get ds n) (HasHeadFault ds n w r) → HasHeadFault ds n w r d
head_here ds n w d r lt is h = subst (λ (o : Option Def). IfSome o (HasHeadFault ds n w r)) (slice_get_read ds (length ds) n d refl lt is) h

pub group_stops : (ds : List Def) (i : ℕ) (d : Def) (f : Fault) → i < length ds → d ≡ get_or ds i d → d.joined ≡ false
    → IfSome (slice_get ds i) (HasHeadFault ds i d.width (Some f)) → Some f ≡ group_fault_at (shown_definitions ds) i
group_stops ds i d f lt is j h = sym (first_of _ _ _ f (group_at ds i d false lt is j) (head_here ds i d.width d (Some f) lt is h))

pub group_next : (ds : List Def) (i : ℕ) (d : Def) → i < length ds → d ≡ get_or ds i d → d.joined ≡ false
    → IfSome (slice_get ds i) (HasHeadFault ds i d.width (None)) → group_fault_at (shown_definitions ds) i ≡ joined_faults
    (earlier (shown_definitions ds) (i + 1)) d.width (shown_definitions (drop (i + 1) ds))
group_next ds i d lt is j h = second_of _ _ _ (group_at ds i d false lt is j) (head_here ds i d.width d None lt is h)

pub joined_stops : (ds : List Def) (i w : ℕ) (d : Def) (f : Fault) (o : Option Fault) → i < length ds → d ≡ get_or ds i d → d.joined ≡ true → o ≡
    joined_faults (earlier (shown_definitions ds) i) w (shown_definitions (drop i ds))
    → IfSome (slice_get ds i) (HasHeadFault ds i w (Some f)) → Some f ≡ o
joined_stops ds i w d f o lt is j e h = sym (first_of _ _ _ f (e ∙ joined_at ds i w d true lt is j) (head_here ds i w d (Some f) lt is h))

pub joined_next : (ds : List Def) (i w : ℕ) (d : Def) (o : Option Fault) → i < length ds → d ≡ get_or ds i d → d.joined ≡ true → o ≡ joined_faults
    (earlier (shown_definitions ds) i) w (shown_definitions (drop i ds))
    → IfSome (slice_get ds i) (HasHeadFault ds i w (None)) → o ≡ joined_faults (earlier (shown_definitions ds) (i + 1)) w (shown_definitions (drop (i + 1) ds))
joined_next ds i w d o lt is j e h = second_of _ _ _ (e ∙ joined_at ds i w d true lt is j) (head_here ds i w d None lt is h)
