-- The definitions that are left of a walk: their bodies may be checked, where no limit is passed.
use Rattle.safl_check.proofs.Common.{known, length-map, shown_expression, shown_head, shown_heads, shown_slots}
use Rattle.std.proofs.Common.{◌≡◌, ℕ, suc, ◌+◌, ◌<◌, ◌≤◌, ◌^◌, List, [], ◌∷◌, length, map, None, refl, sym, ap, ◌∙◌, subst, arith}
use Rattle.std.specs.Prelude.{nat_le}
use Rattle.std.proofs.lemmas.Bool.{leb-true}
use Rattle.safl_tree.specs.Tree.{Definition, Parameter}
use Rattle.safl_tree.specs.Printable.{AreFormedDefinitions, IsFormedProgram}
use Rattle.safl_typing.specs.declared.expression.Expression as code_expression
use Rattle.safl_typing.specs.declared.heads.Slot as code_slot
use Rattle.safl_typing.specs.declared.heads.Head as code_head
use Rattle.safl_typing.specs.Rewriting.{Expression, rewritten, nodes, excess, long_let}
use Rattle.safl_typing.specs.Heads.{Slot, Head, Known, unit_of, slot_of, params_of, head_of, heads_from, heads, sites}
use Rattle.safl_word.specs.Limits.{bindings_max, functions_max, params_max, sites_max, nodes_max}
use Rattle.safl_typing.specs.Ranges.{WideSlots, WideHeads, IsInRange}
use Rattle.safl_typing.specs.Walk.{fault_with, needs, limit, limits_from, limits}
use Rattle.safl_typing.specs.MayWalk.{CountParams, MayCheck}
use Rattle.safl_typing.proofs.Formed.{params_wide, heads_wide, formed_range}
use Rattle.safl_typing.proofs.Limits.{none_both, none_limit, none_excess}
use Rattle.safl_typing.proofs.Placing.{heads_length}
use Rattle.safl_typing.proofs.Sound.{needs_ok}
use Rattle.safl_typing.proofs.HeadsByName.{heads_count}

parts_same : {A : Type 0} (x y : A) (xs ys : List A) → x ∷ xs ≡ y ∷ ys → (x ≡ y) × (xs ≡ ys)
parts_same x y xs ys e = (cc, cc)

-- ---- limits

-- the first definition passes none, and nor do those after it
pub record KeepsLimits (all : List Head) (n u s m : ℕ) (d : Definition) (ds : List Definition) : Type 0 where
  pub few_params : length d.params ≤ params_max
  pub few_sites : s + sites (record { heads = all; unit = unit_of n u d }) (rewritten d.body) ≤ sites_max
  pub few_nodes : m + nodes (rewritten d.body) ≤ nodes_max
  pub rest : limits_from all (suc n) (unit_of n u d) (s + sites (record { heads = all; unit = unit_of n u d }) (rewritten d.body)) (m + nodes (rewritten d.body)) ds ≡ None

keeps_limits : (all : List Head) (n u s m : ℕ) (d : Definition) (ds : List Definition) → limits_from all n u s m (d ∷ ds) ≡ None → KeepsLimits all n u s m d ds
keeps_limits all n u s m d ds e =
    let places : List ℕ = map (λ (p : Parameter). p.place) d.params in
    let in_all : ℕ = s + sites (record { heads = all; unit = unit_of n u d }) (rewritten d.body) in
    let nodes_all : ℕ = m + nodes (rewritten d.body) in
    let q1 = none_both (limit 2 params_max (excess params_max places)) _ e in
    let q2 = none_both (limit 3 bindings_max (long_let (rewritten d.body))) _ q1.1 in
    let q3 = none_both (needs (nat_le in_all sites_max) (fault_with _ d.place 4 sites_max)) _ q2.1 in
    let q4 = none_both (needs (nat_le nodes_all nodes_max) (fault_with _ d.place 5 nodes_max)) _ q3.1 in
    record {
      few_params = subst (λ (k : ℕ). k ≤ params_max) (length-map d.params (λ (p : Parameter). p.place)) (none_excess params_max places (none_limit 2 params_max _ q1.0));
      few_sites = leb-true in_all sites_max (needs_ok _ _ q3.0);
      few_nodes = leb-true nodes_all nodes_max (needs_ok _ _ q4.0);
      rest = q4.1;
    }

params_count : (hs : List code_slot.Slot) (d : Definition) → shown_slots hs ≡ params_of d → length hs ≡ length d.params
params_count hs d e = sym (length-map hs _) ∙ (ap (λ (l : List Slot). length l) e ∙ length-map d.params _)

counts_params : (all : List Head) (n u s m : ℕ) (ds : List Definition) (hs : List code_head.Head) → limits_from all n u s m ds ≡ None → shown_heads hs ≡ heads_from n u ds → CountParams hs
counts_params all n u s m ds [] e q = tt
counts_params all n u s m [] (h ∷ hs) e q = absurd cc
counts_params all n u s m (d ∷ ds) (h ∷ hs) e q =
    let k = keeps_limits all n u s m d ds e in
    let p = parts_same (shown_head h) (head_of (unit_of n u d) d) (shown_heads hs) (heads_from (suc n) (unit_of n u d) ds) q in
    (omega (arith, params_count h.params.items d (ap (λ (z : Head). z.params) p.0), k.few_params), counts_params all (suc n) (unit_of n u d) _ _ ds hs k.rest p.1)

-- ---- the heads of the whole program

pub as_many_heads : (ds : List Definition) (hs : List code_head.Head) → shown_heads hs ≡ heads ds → length hs ≡ length ds
as_many_heads ds hs is = sym (heads_count hs) ∙ (ap (λ (l : List Head). length l) is ∙ heads_length 0 0 ds)

-- the heads can be walked
pub record AreKnown (all : List Head) (hs : List code_head.Head) : Type 0 where
  pub same : shown_heads hs ≡ all
  pub wide : WideHeads (shown_heads hs)
  pub counted : length hs < 2 ^ 32
  pub params : CountParams hs

few_functions : (ds : List Definition) → limits ds ≡ None → length ds ≤ functions_max
few_functions ds e =
    let q = none_both (limit 1 functions_max (excess functions_max (map (λ (d : Definition). d.place) ds))) _ e in
    subst (λ (k : ℕ). k ≤ functions_max) (length-map ds (λ (d : Definition). d.place)) (none_excess functions_max _ (none_limit 1 functions_max _ q.0))

no_limit_from : (ds : List Definition) → limits ds ≡ None → limits_from (heads ds) 0 0 0 0 ds ≡ None
no_limit_from ds e = (none_both (limit 1 functions_max (excess functions_max (map (λ (d : Definition). d.place) ds))) _ e).1

pub are_known : (ds : List Definition) (hs : List code_head.Head) → IsFormedProgram ds → shown_heads hs ≡ heads ds → limits ds ≡ None → AreKnown (heads ds) hs
are_known ds hs formed is e =
    record {
      same = is;
      wide = subst WideHeads (sym is) (heads_wide 0 0 ds formed.formed);
      counted = omega (arith, as_many_heads ds hs is, few_functions ds e);
      params = counts_params (heads ds) 0 0 0 0 ds hs (no_limit_from ds e) is;
    }

-- ---- what is left

-- the definitions from number n on, with their heads, where u is the group before them, and their sites are numbered from lo on
pub record AreLeft (all : List Head) (n u lo : ℕ) (ds : List Definition) (hs : List code_head.Head) : Type 0 where
  pub formed : AreFormedDefinitions ds
  pub heads : shown_heads hs ≡ heads_from n u ds
  pub sites_before : ℕ
  pub nodes_before : ℕ
  pub first : lo ≡ suc sites_before
  pub limits : limits_from all n u sites_before nodes_before ds ≡ None

pub all_left : (ds : List Definition) (hs : List code_head.Head) → IsFormedProgram ds → shown_heads hs ≡ heads ds → limits ds ≡ None → AreLeft (heads ds) 0 0 1 ds hs
all_left ds hs formed is e =
    record { formed = formed.formed; heads = is; sites_before = 0; nodes_before = 0; first = refl; limits = no_limit_from ds e }

-- a definition with its head
pub record IsPaired (u : ℕ) (d : Definition) (h : code_head.Head) : Type 0 where
  pub unit : h.unit ≡ u
  pub params : shown_slots h.params.items ≡ params_of d

pub same_known : (all : List Head) (u : ℕ) (whole : List code_head.Head) (h : code_head.Head) → AreKnown all whole → h.unit ≡ u → ◌≡◌ {A = Known}
    (known whole h.unit) (record { heads = all; unit = u })
same_known all u whole h k e = rw (k.same, e) refl

module _ (all : List Head) (n u lo : ℕ) (d : Definition) (ds : List Definition) (h : code_head.Head) (hs : List code_head.Head) (left : AreLeft all n u lo (d ∷ ds) (h ∷ hs)) where
  pub is_paired : IsPaired (unit_of n u d) d h
  is_paired =
      let p = parts_same (shown_head h) (head_of (unit_of n u d) d) (shown_heads hs) (heads_from (suc n) (unit_of n u d) ds) left.heads in
      record { unit = ap (λ (z : Head). z.unit) p.0; params = ap (λ (z : Head). z.params) p.0 }

  pub rest_left : AreLeft all (suc n) (unit_of n u d) (lo + sites (record { heads = all; unit = unit_of n u d }) (rewritten d.body)) ds hs
  rest_left =
      let k = keeps_limits all n u left.sites_before left.nodes_before d ds left.limits in
      let p = parts_same (shown_head h) (head_of (unit_of n u d) d) (shown_heads hs) (heads_from (suc n) (unit_of n u d) ds) left.heads in
      record {
        formed = left.formed.1;
        heads = p.1;
        sites_before = left.sites_before + sites (record { heads = all; unit = unit_of n u d }) (rewritten d.body);
        nodes_before = left.nodes_before + nodes (rewritten d.body);
        first = omega (arith, left.first);
        limits = k.rest;
      }

  pub same_sites : (b : code_expression.Expression) → shown_expression b ≡ rewritten d.body → (whole : List code_head.Head) → AreKnown all whole →
      sites (known whole h.unit) (shown_expression b) ≡ sites (record { heads = all; unit = unit_of n u d }) (rewritten d.body)
  same_sites b body whole k =
      ap (λ (z : Known). sites z (shown_expression b)) (same_known all (unit_of n u d) whole h k is_paired.unit) ∙ ap (λ (e : Expression). sites (record { heads = all; unit = unit_of n u d }) e) body

  pub may_check : (b : code_expression.Expression) → shown_expression b ≡ rewritten d.body → (whole : List code_head.Head) → AreKnown all whole →
      MayCheck whole h.unit (shown_slots h.params.items) lo (shown_expression b)
  may_check b body whole known_all =
      let k = keeps_limits all n u left.sites_before left.nodes_before d ds left.limits in
      let same = same_sites b body whole known_all in
      record {
        heads = known_all.wide;
        counted = known_all.counted;
        params = known_all.params;
        slots = subst WideSlots (sym is_paired.params) (params_wide d.params left.formed.0.1);
        range = subst IsInRange (sym body) (formed_range d.body left.formed.0.3);
        within = omega (arith, same, left.first, k.few_sites);
        room = omega (arith, ap (λ (l : List Slot). length l) is_paired.params, length-map d.params slot_of, k.few_params, k.few_nodes, ap (λ (e : Expression). nodes e) body);
      }
