-- The callee of a site of a checked program.
use Rattle.safl_reshape.proofs.Common.{CheckedProgram, Def, Definition, Head, IsChecked, Program, bytes_eq, calls, heads, heads_length}
use Rattle.safl_reshape.proofs.Common.{is_member, name_in, or_parts, rewritten, shown_definitions, shown_tree, slice_get, slice_get_read}
use Rattle.std.proofs.Common.{◌≡◌, ℕ, zero, suc, ◌<◌, List, [], ◌∷◌, length, map, get_or, Option, Some, None, Bool, false, refl, sym, ap, ◌∙◌, subst, arith}
use Rattle.std.specs.List.{list_any}
use Rattle.safl_word.proofs.Lists.{get_some}
use Rattle.safl_term.specs.Tables.{Tables, program_of}
use Rattle.safl_term.proofs.HeldByChecked.{each_checked}
use Rattle.safl_term.specs.declared.checked.Function.{Function}
use Rattle.safl_typing.specs.declared.heads.Head as code
use Rattle.safl_typing.specs.PlainHeads.{shown_head, shown_heads, known}
use Rattle.safl_reshape.proofs.Putting.{def_shown}
use Rattle.safl_typing.specs.Forms.{IsFormOf, shown_form, shown_function, function_names}
use Rattle.safl_typing.proofs.Names.{not_seen}
use Rattle.safl_typing.proofs.Walks.{as_many as lengths}
use Rattle.safl_check.specs.Numbered.{program_in}
use Rattle.safl_reshape.specs.Reshaped.{Unjoined, IsCopyable, copy_name, calls_group, is_recursive}
use Rattle.safl_reshape.specs.Refusals.{HasSite, joined_at, name_for, is_taken, MayCopy}
use Rattle.safl_reshape.proofs.Standing.{here, unit_is}
use Rattle.safl_reshape.proofs.Copies.{unit_own}

pub shown_functions : (fs : List Function) → length (map shown_function fs) ≡ length fs
shown_functions [] = refl
shown_functions (f ∷ fs) = ap (λ (z : ℕ). suc z) (shown_functions fs)

tables_long : (t : Tables) → (program_of t).functions ≡ length t.functions
unfolding program_of
tables_long t = refl

functions_are : (c : CheckedProgram) → c.program.functions ≡ length c.tables.functions
functions_are = each_checked (λ c. c.program.functions ≡ length c.tables.functions) tables_long

as_many : (ds : List Definition) (c : CheckedProgram) → IsFormOf ds (shown_form c) → c.program.functions ≡ length ds
as_many ds c is = functions_are c ∙ (sym (shown_functions c.tables.functions) ∙ lengths (heads ds) 0 0 0 1 (suc is.last_site) ds (map shown_function c.tables.functions) is.functions)

pub callee_within : (ds : List Definition) (c : CheckedProgram) (k : ℕ) → IsFormOf ds (shown_form c) → IsChecked c → HasSite c.program k → c.program.callee k < length ds
callee_within ds c k is ok s = let q = ok.formed.calls k s.from s.to in let m = as_many ds c is in omega (arith, q.1, m)

unjoined : (o : Option Definition) → joined_at o ≡ false → Unjoined o
unjoined None e = tt
unjoined (Some d) e = e

pub copyable : (ds : List Definition) (c : CheckedProgram) (k : ℕ) → IsFormOf ds (shown_form c) → IsChecked c → c.program ≡ program_in (shown_form c) → MayCopy c.program ds k
    → (d : Definition) × (slice_get ds (c.program.callee k) ≡ Some d) × IsCopyable ds (shown_form c) k (c.program.callee k) d (copy_name d.name k)
copyable ds c k is ok e may =
    let C = c.program in
    let j = C.callee k in
    let q = ok.formed.calls k may.site.from may.site.to in
    let m = as_many ds c is in
    let lt = callee_within ds c k is ok may.site in
    let d = get_some ds j lt in
    let h = get_some (heads ds) j (omega (arith, heads_length 0 0 ds, lt)) in
    let g = or_parts (joined_at (slice_get ds j)) (joined_at (slice_get ds (suc j))) may.alone in
    let al : Unjoined (slice_get ds j) = unjoined (slice_get ds j) g.0 in
    let u = unit_own 0 0 ds j h.0 al h.1 in
    let v : C.unit j ≡ h.0.unit = ap (λ (z : Program). z.unit j) e ∙ unit_is ds (shown_form c) is j h.0 (here ds (shown_form c) is j h.0 h.1) in
    let f = ok.formed.first (C.caller k) q.0 in
    let nf : name_for ds k j ≡ copy_name d.0.name k = ap (λ (o : Option Definition). copy_name (name_in o) k) d.1 in
    let fr : list_any (bytes_eq (copy_name d.0.name k)) (function_names ds) ≡ false = sym (ap (λ (x : List ℕ). is_taken ds x) nf) ∙ may.free in (
      d.0,
      d.1,
      record {
        site = ap (λ (z : Program). z.callee k) (sym e);
        defined = d.1;
        alone = subst Unjoined d.1 al;
        next = unjoined (slice_get ds (suc j)) g.1;
        before = omega (arith, q.2, u, v, f.0, q.0, m);
        fresh = λ i t. not_seen (copy_name d.0.name k) (function_names ds) i fr t;
      },
    )

-- ---- heads of the code

plain_at : (hs : List code.Head) (i : ℕ) (h : code.Head) → slice_get hs i ≡ Some h → slice_get (shown_heads hs) i ≡ Some (shown_head h)
plain_at [] i h e = absurd cc
plain_at (x ∷ hs) zero h e = let q : x ≡ h = cc in ap (λ (z : code.Head). Some (shown_head z)) q
plain_at (x ∷ hs) (suc i) h e = plain_at hs i h e

-- whether function i calls itself or another member of its group
pub recursive_shown : (ds : List Def) (hs : List code.Head) (i j : ℕ) (h : code.Head) (d : Def) (r : Bool) → shown_heads hs ≡ heads
    (shown_definitions ds) → slice_get hs i ≡ Some h → i < length ds → d ≡ get_or ds i d → i ≡ j
    → r ≡ calls is_member (known hs h.unit) (rewritten (shown_tree d.body)) → r ≡ is_recursive (shown_definitions ds) j
recursive_shown ds hs i j h d r e g lt is q f =
    let a : slice_get (heads (shown_definitions ds)) i ≡ Some (shown_head h) = sym (ap (λ (l : List Head). slice_get l i) e) ∙ plain_at hs i h g in
    let b = def_shown ds i (Some d) (slice_get_read ds (length ds) i d refl lt is) in
    f ∙ (ap (λ (l : List Head). calls is_member (record { heads = l; unit = h.unit }) (rewritten (shown_tree d.body))) e
    ∙ (ap (λ (o : Option Definition). calls_group (heads (shown_definitions ds)) (Some (shown_head h)) o) (sym b)
    ∙ (ap (λ (o : Option Head). calls_group (heads (shown_definitions ds)) o (slice_get (shown_definitions ds) i)) (sym a) ∙ ap (λ (n : ℕ). is_recursive (shown_definitions ds) n) q)))
