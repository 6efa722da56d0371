-- Functions that are found by their names.
use Rattle.safl_typing.proofs.Common.{bytes_eq, bytes_eq-Decides}
use Rattle.std.proofs.Common.{◌≡◌, ℕ, zero, suc, ◌+◌, ◌<◌, ◌≤◌, arith, List, [], ◌∷◌, ◌++◌, length, drop, get_or, drop-cons, add-one, Bool, true}
use Rattle.std.proofs.Common.{false, cond, Option, Some, None, IfSome, Vec, refl, sym, ap, ◌∙◌, subst, ⊎_elim}
use Rattle.std.specs.Prelude.{slice_get, ◌&&◌}
use Rattle.std.specs.Global.{Global}
use Rattle.std.proofs.lemmas.Cmp.{nat_list_eq_equiv}
use Rattle.std.proofs.lemmas.List.{drop_all, length_push}
use Rattle.std.proofs.lemmas.Option.{slice_get_read, slice_get_cases, get_or_from_slice_get}
use Rattle.indexmap.specs.IndexMap.{insert_entry}
use Rattle.std.proofs.lemmas.Bool.{and_right}
use Rattle.safl_word.proofs.Lists.{get_in_front}
use Rattle.safl_word.proofs.Naturals.{lower_or_last}
use Rattle.safl_typing.specs.declared.heads.Head as code
use Rattle.safl_typing.specs.Heads.{Head, Numbered, first_head}
use Rattle.safl_typing.specs.PlainHeads.{shown_head, shown_heads, numbered, with_number}
use Rattle.safl_typing.specs.Named.{name_of, has_name, last_named, before_it, kept, KeepsNames}

-- ---- a table with one more name

abbrev same_key : Vec ℕ Global → Vec ℕ Global → Bool
same_key x y = bytes_eq x.items y.items

over : {A : Type 0} (b : Bool) (x y z : A) → cond b x z ≡ cond b x (cond b y z)
over true x y z = refl
over false x y z = refl

past : {A : Type 0} (a b : Bool) (x y z : A) → (a ≡ true → b ≡ true → ⊥) → cond a x (cond b y z) ≡ cond b y (cond a x z)
past true true x y z n = absurd (n refl refl)
past true false x y z n = refl
past false b x y z n = refl

kept_insert : (es : List (Vec ℕ Global × ℕ)) (key : Vec ℕ Global) (v : ℕ) (name : List ℕ) → kept (insert_entry same_key es key v) name ≡ cond (bytes_eq name key.items) (Some v) (kept es name)
kept_insert [] key v name = refl
kept_insert (e ∷ es) key v name = by (kept_insert es key v name) (same_key key e.0) refl
  where
    by : kept (insert_entry same_key es key v) name ≡ cond (bytes_eq name key.items) (Some v) (kept es name) → (b : Bool) → same_key key e.0 ≡ b →
        kept (insert_entry same_key (e ∷ es) key v) name ≡ cond (bytes_eq name key.items) (Some v) (kept (e ∷ es) name)
    by rest true q =
        ap (λ (b : Bool). kept (cond b ((e.0, v) ∷ es) (e ∷ insert_entry same_key es key v)) name) q
        ∙ over (bytes_eq name e.0.items) (Some v) (Some e.1) (kept es name)
        ∙ ap (λ (k : List ℕ). cond (bytes_eq name k) (Some v) (kept (e ∷ es) name)) (sym ((bytes_eq-Decides key.items e.0.items).0 q))
    by rest false q =
        ap (λ (b : Bool). kept (cond b ((e.0, v) ∷ es) (e ∷ insert_entry same_key es key v)) name) q
        ∙ ap (λ (o : Option ℕ). cond (bytes_eq name e.0.items) (Some e.1) o) rest
        ∙ past (bytes_eq name e.0.items) (bytes_eq name key.items) (Some e.1) (Some v) (kept es name)
        (λ here there. let t : same_key key e.0 ≡ true = (bytes_eq-Decides key.items e.0.items).1
        (sym ((bytes_eq-Decides name key.items).0 there) ∙ (bytes_eq-Decides name e.0.items).0 here) in absurd cc)

at_end : {A : Type 0} (xs : List A) (y : A) (m : ℕ) → m ≡ length xs → slice_get (xs ++ y ∷ []) m ≡ Some y
at_end [] y zero e = refl
at_end [] y (suc m) e = absurd (omega (arith, e))
at_end (x ∷ xs) y zero e = absurd (omega (arith, e))
at_end (x ∷ xs) y (suc m) e = at_end xs y m (omega (arith, e))

named_next : (hs : List code.Head) (name : List ℕ) (i : ℕ) (h : code.Head) → slice_get hs i ≡ Some h → last_named hs name (i + 1) ≡ cond (bytes_eq name h.name) (Some i) (last_named hs name i)
named_next hs name i h at = ap (λ (n : ℕ). last_named hs name n) (add-one i) ∙ ap (λ (o : Option code.Head). cond (has_name name o) (Some i) (last_named hs name i)) at

pub keeps_next : (entries new : List (Vec ℕ Global × ℕ)) (before after : List (Option ℕ)) (hs : List code.Head) (i : ℕ) (h : code.Head) (key : Vec ℕ Global) (old : Option ℕ)
    → i < length hs → h ≡ get_or hs i h → key.items ≡ h.name → KeepsNames entries before hs i
    → new ≡ insert_entry same_key entries key i → old ≡ kept entries key.items → after ≡ before ++ old ∷ [] → KeepsNames new after hs (i + 1)
keeps_next entries new before after hs i h key old lt is named keeps en eo ea =
    let at : slice_get hs i ≡ Some h = slice_get_read hs (length hs) i h refl lt is in
    let own : old ≡ before_it hs i = eo ∙ keeps.last key.items ∙ ap (λ (x : List ℕ). last_named hs x i) (named ∙ sym (ap name_of at)) in
    record {
      last = λ name. ap (λ (l : List (Vec ℕ Global × ℕ)). kept l name) en ∙ kept_insert entries key i name
          ∙ ap (λ (k : List ℕ). cond (bytes_eq name k) (Some i) (kept entries name)) named ∙ ap (λ (o : Option ℕ). cond (bytes_eq name h.name) (Some i) o) (keeps.last name)
          ∙ sym (named_next hs name i h at);
      counted = ap (λ (l : List (Option ℕ)). length l) ea ∙ length_push before old ∙ ap (λ (n : ℕ). n + 1) keeps.counted;
      links = λ m less. ap (λ (l : List (Option ℕ)). slice_get l m) ea ∙ ⊎_elim
          (λ front. get_in_front before (old ∷ []) m (omega (arith, front, keeps.counted)) ∙ keeps.links m front)
          (λ e. at_end before old m (e ∙ sym keeps.counted) ∙ ap (λ (o : Option ℕ). Some o) (own ∙ ap (λ (k : ℕ). before_it hs k) (sym e)))
          (lower_or_last m i less);
    }

-- ---- the functions of one name, from the last to the first

abbrev pub bound : Option ℕ → ℕ
bound None = 0
bound (Some m) = suc m

-- a function of this name, among the first so many
abbrev pub IsNamed : List code.Head → List ℕ → ℕ → Option ℕ → Type 0
IsNamed hs f n at = IfSome at (λ m. (m < n) × (name_of (slice_get hs m) ≡ f))

last_is : (hs : List code.Head) (f : List ℕ) (n : ℕ) → n ≤ length hs → IsNamed hs f n (last_named hs f n)
last_is hs f zero le = tt
last_is hs f (suc n) le = ⊎_elim
    (λ q. by (last_is hs f n (omega (arith, le))) q.0 (bytes_eq f q.0.name) q.2 refl)
    (λ q. absurd (omega (arith, q.0, le))) (slice_get_cases hs n).1
  where
    sooner : (o : Option ℕ) → IsNamed hs f n o → IsNamed hs f (suc n) o
    sooner None h = tt
    sooner (Some m) h = (omega (arith, h.0), h.1)

    by : IsNamed hs f n (last_named hs f n) → (h : code.Head) (b : Bool) → slice_get hs n ≡ Some h → bytes_eq f h.name ≡ b → IsNamed hs f (suc n) (last_named hs f (suc n))
    by rest h true at e = subst (IsNamed hs f (suc n)) (sym (ap (λ (o : Option code.Head). cond (has_name f o) (Some n) (last_named hs f n)) at ∙ ap
        (λ (b : Bool). cond b (Some n) (last_named hs f n)) e)) (omega arith, ap name_of at ∙ sym ((bytes_eq-Decides f h.name).0 e))
    by rest h false at e = subst (IsNamed hs f (suc n)) (sym (ap (λ (o : Option code.Head). cond (has_name f o) (Some n) (last_named hs f n)) at ∙ ap
        (λ (b : Bool). cond b (Some n) (last_named hs f n)) e)) (sooner (last_named hs f n) rest)

bound_named : (hs : List code.Head) (f : List ℕ) (n : ℕ) (at : Option ℕ) → IsNamed hs f n at → bound at ≤ n
bound_named hs f n None h = omega arith
bound_named hs f n (Some m) h = omega (arith, h.0)

bound_falls : (hs : List code.Head) (m : ℕ) (next : Option ℕ) → m < length hs → next ≡ before_it hs m → bound next < suc m
bound_falls hs m next lt e = omega (arith, ap bound e, bound_named hs (name_of (slice_get hs m)) m (before_it hs m) (last_is hs (name_of (slice_get hs m)) m (omega (arith, lt))))

and_true : (a b : Bool) → b ≡ true → (a && b) ≡ a
and_true true b e = e
and_true false b e = refl

module _ (in_unit : ℕ → Bool) (f : List ℕ) (hs : List code.Head) where
  abbrev pub passes : Head → Bool
  passes h = in_unit h.unit && bytes_eq h.name f

  abbrev from : ℕ → Option Numbered
  from n = first_head passes n (shown_heads (drop n hs))

  from_step : (n : ℕ) (h : code.Head) → n < length hs → slice_get hs n ≡ Some h
      → from n ≡ cond (in_unit h.unit && bytes_eq h.name f) (Some (record { number = n; head = shown_head h })) (from (suc n))
  from_step n h lt at =
      ap (λ (l : List code.Head). first_head passes n (shown_heads l)) (drop-cons hs n h lt ∙ ap (λ (z : code.Head). z ∷ drop (suc n) hs) (get_or_from_slice_get hs n h h at))

  skip : (n : ℕ) → n ≤ length hs → from (bound (last_named hs f n)) ≡ from n
  skip zero le = refl
  skip (suc n) le = ⊎_elim
      (λ q. by (skip n (omega (arith, le))) q.0 (bytes_eq f q.0.name) q.2 refl)
      (λ q. absurd (omega (arith, q.0, le))) (slice_get_cases hs n).1
    where
      by : from (bound (last_named hs f n)) ≡ from n → (h : code.Head) (b : Bool) → slice_get hs n ≡ Some h → bytes_eq f h.name ≡ b → from (bound (last_named hs f (suc n))) ≡ from (suc n)
      by rest h true at e = ap (λ (o : Option ℕ). from (bound o))
          (ap (λ (o : Option code.Head). cond (has_name f o) (Some n) (last_named hs f n)) at ∙ ap (λ (b : Bool). cond b (Some n) (last_named hs f n)) e)
      by rest h false at e =
          ap (λ (o : Option ℕ). from (bound o)) (ap (λ (o : Option code.Head). cond (has_name f o) (Some n) (last_named hs f n)) at ∙ ap (λ (b : Bool). cond b (Some n) (last_named hs f n)) e)
          ∙ rest ∙ from_step n h (omega (arith, le)) at
          ∙ ap (λ (b : Bool). cond b (Some (record { number = n; head = shown_head h })) (from (suc n))) (and_right (in_unit h.unit) (bytes_eq h.name f) (nat_list_eq_equiv.symm h.name f ∙ e))

  -- the first function that passes, of those from here on
  pub record IsSought (at found : Option ℕ) : Type 0 where
    pub named : IsNamed hs f (length hs) at
    pub within : IfSome found (λ n. n < length hs)
    pub first : numbered hs found ≡ from (bound at)

  pub sought_begins : (at : Option ℕ) → at ≡ last_named hs f (length hs) → IsSought at None
  sought_begins at e = subst (λ (o : Option ℕ). IsSought o None) (sym e) (record {
    named = last_is hs f (length hs) (omega arith);
    within = tt;
    first = sym (skip (length hs) (omega arith) ∙ ap (λ (l : List code.Head). first_head passes (length hs) (shown_heads l)) (drop_all (length hs) hs (omega arith)));
  })

  found_within : (b : Bool) (m : ℕ) (found : Option ℕ) → m < length hs → IfSome found (λ n. n < length hs) → IfSome (cond b (Some m) found) (λ n. n < length hs)
  found_within true m found lt h = lt
  found_within false m found lt h = h

  found_first : (b : Bool) (m : ℕ) (h : code.Head) (found : Option ℕ) → slice_get hs m ≡ Some h
      → numbered hs (cond b (Some m) found) ≡ cond b (Some (record { number = m; head = shown_head h })) (numbered hs found)
  found_first true m h found at = ap (λ (o : Option code.Head). with_number m o) at
  found_first false m h found at = refl

  module _ (m : ℕ) (h : code.Head) (found next : Option ℕ) (sought : IsSought (Some m) found) (at : slice_get hs m ≡ Some h) (e : next ≡ before_it hs m) where
    next_is : next ≡ last_named hs f m
    next_is = e ∙ ap (λ (x : List ℕ). last_named hs x m) sought.named.1

    further : (o : Option ℕ) → IsNamed hs f m o → IsNamed hs f (length hs) o
    further None n = tt
    further (Some k) n = (omega (arith, n.0, sought.named.0), n.1)

    tested : (in_unit h.unit && bytes_eq h.name f) ≡ in_unit h.unit
    tested = and_true (in_unit h.unit) (bytes_eq h.name f) ((bytes_eq-Decides h.name f).1 (sym (ap name_of at) ∙ sought.named.1))

    sought_next : (b : Bool) → in_unit h.unit ≡ b → IsSought next (cond b (Some m) found)
    sought_next b u =
        let le : m ≤ length hs = omega (arith, sought.named.0) in
        subst (λ (o : Option ℕ). IsSought o (cond b (Some m) found)) (sym next_is) (record {
          named = further (last_named hs f m) (last_is hs f m le);
          within = found_within b m found sought.named.0 sought.within;
          first = found_first b m h found at ∙ ap (λ (o : Option Numbered). cond b (Some (record { number = m; head = shown_head h })) o) sought.first
              ∙ sym (skip m le ∙ from_step m h sought.named.0 at ∙ ap (λ (c : Bool). cond c (Some (record { number = m; head = shown_head h })) (from (suc m))) (tested ∙ u));
        })

  pub sought_more : (at found next new : Option ℕ) (m : ℕ) (h : code.Head) (b : Bool) → IsSought at found → at ≡ Some m → slice_get hs m ≡ Some h →
      next ≡ before_it hs m → in_unit h.unit ≡ b → new ≡ cond b (Some m) found → IsSought next new
  sought_more at found next new m h b sought is get e u n =
      subst (λ (o : Option ℕ). IsSought next o) (sym n) (sought_next m h found next (subst (λ (o : Option ℕ). IsSought o found) is sought) get e b u)

  pub sought_falls : (at found next : Option ℕ) (m : ℕ) → IsSought at found → at ≡ Some m → next ≡ before_it hs m → bound next < bound at
  sought_falls at found next m sought is e =
      let there : IsSought (Some m) found = subst (λ (o : Option ℕ). IsSought o found) is sought in
      omega (arith, ap bound is, bound_falls hs m next there.named.0 e)

-- what is read at a number
pub got : (hs : List code.Head) (n : ℕ) (h : code.Head) → slice_get hs n ≡ Some h → h ≡ get_or hs n h
got hs n h e = sym (get_or_from_slice_get hs n h h e)
