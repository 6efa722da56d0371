use Rattle.safl_reshape.proofs.Common.{Def, Definition, slice_get_read}
use Rattle.std.proofs.Common.{◌≡◌, ◌<◌, ℕ, List, Option, Some, false, ap, sym, refl, ◌∙◌, arith, length}
use Rattle.safl_tree.specs.Shown.{shown_definition, shown_definitions}
use Rattle.safl_reshape.specs.Reshaped.{copy_name, copied, copied_as, copied_under}
use Rattle.safl_reshape.specs.Refusals.{HasSite, is_grouped, is_taken, name_for}
use Rattle.safl_reshape.proofs.Putting.{shown_length, name_shown, def_shown}
use Rattle.safl_reshape.proofs.Callees.{callee_within}
use Rattle.safl_reshape.proofs.copy.copied_defs.Goals as goal

pub is_grouped-requires : goal.is_grouped-requires
is_grouped-requires c =
    let s : HasSite c.args.checked.now.program c.args.site = record { from = omega arith; to = omega (arith, c.sites-sites.ensures) } in
    let w : (c.args.checked.now.program.callee c.args.site) < length (shown_definitions c.args.defs.now) = callee_within
    (shown_definitions c.args.defs.now) c.args.checked.now c.args.site c.requires.form c.sites-sites.ensures.checked s in
    let lt : c.callee-callee.result < length c.args.defs.now = omega (arith, w, shown_length c.args.defs.now, c.callee-callee.ensures.number) in
    lt

pub bounds-defs-callee : goal.bounds-defs-callee
bounds-defs-callee c =
    let s : HasSite c.args.checked.now.program c.args.site = record { from = omega arith; to = omega (arith, c.sites-sites.ensures) } in
    let w : (c.args.checked.now.program.callee c.args.site) < length (shown_definitions c.args.defs.now) = callee_within
    (shown_definitions c.args.defs.now) c.args.checked.now c.args.site c.requires.form c.sites-sites.ensures.checked s in
    let lt : c.callee-callee.result < length c.args.defs.now = omega (arith, w, shown_length c.args.defs.now, c.callee-callee.ensures.number) in
    lt

pub returns-then-bytes-gt-NAME_MAX-clause-refused : goal.returns-then-bytes-gt-NAME_MAX-clause-refused
returns-then-bytes-gt-NAME_MAX-clause-refused c =
    let s : HasSite c.args.checked.now.program c.args.site = record { from = omega arith; to = omega (arith, c.sites-sites.ensures) } in
    let w : (c.args.checked.now.program.callee c.args.site) < length (shown_definitions c.args.defs.now) = callee_within
    (shown_definitions c.args.defs.now) c.args.checked.now c.args.site c.requires.form c.sites-sites.ensures.checked s in
    let lt : c.callee-callee.result < length c.args.defs.now = omega (arith, w, shown_length c.args.defs.now, c.callee-callee.ensures.number) in
    let g : is_grouped (shown_definitions c.args.defs.now) (c.args.checked.now.program.callee c.args.site) ≡ false = sym
    (ap (λ (n : ℕ). is_grouped (shown_definitions c.args.defs.now) n) c.callee-callee.ensures.number) ∙ (sym c.is_grouped.ensures ∙ c.if-is_grouped.false) in
    let n : name_for (shown_definitions c.args.defs.now) c.args.site (c.args.checked.now.program.callee c.args.site) ≡ c.in_ok-name.name =
    name_shown c.args.defs.now c.callee-callee.result (c.args.checked.now.program.callee c.args.site) c.args.site c.index-defs-callee.result
    lt c.index-defs-callee.is c.callee-callee.ensures.number ∙ (ap (λ (z : Def). copy_name z.name c.args.site) c.index-defs-callee.is ∙ sym c.in_ok-name.ensures) in
    let b = ap (λ (x : List ℕ). length x) c.bytes.ensures.bytes in
    let q = ap (λ (x : List ℕ). length x) n in
    (s, g, omega (arith, b, q, c.if-bytes-gt-NAME_MAX.true))

pub returns-then-is_taken-clause-refused : goal.returns-then-is_taken-clause-refused
returns-then-is_taken-clause-refused c =
    let s : HasSite c.args.checked.now.program c.args.site = record { from = omega arith; to = omega (arith, c.sites-sites.ensures) } in
    let w : (c.args.checked.now.program.callee c.args.site) < length (shown_definitions c.args.defs.now) = callee_within
    (shown_definitions c.args.defs.now) c.args.checked.now c.args.site c.requires.form c.sites-sites.ensures.checked s in
    let lt : c.callee-callee.result < length c.args.defs.now = omega (arith, w, shown_length c.args.defs.now, c.callee-callee.ensures.number) in
    let g : is_grouped (shown_definitions c.args.defs.now) (c.args.checked.now.program.callee c.args.site) ≡ false = sym
    (ap (λ (n : ℕ). is_grouped (shown_definitions c.args.defs.now) n) c.callee-callee.ensures.number) ∙ (sym c.is_grouped.ensures ∙ c.if-is_grouped.false) in
    let n : name_for (shown_definitions c.args.defs.now) c.args.site (c.args.checked.now.program.callee c.args.site) ≡ c.in_ok-name.name =
    name_shown c.args.defs.now c.callee-callee.result (c.args.checked.now.program.callee c.args.site) c.args.site c.index-defs-callee.result
    lt c.index-defs-callee.is c.callee-callee.ensures.number ∙ (ap (λ (z : Def). copy_name z.name c.args.site) c.index-defs-callee.is ∙ sym c.in_ok-name.ensures) in
    let b = ap (λ (x : List ℕ). length x) c.bytes.ensures.bytes in
    let q = ap (λ (x : List ℕ). length x) n in
    (s, g, omega (arith, b, q, c.if-bytes-gt-NAME_MAX.false), ap (λ (x : List ℕ). is_taken (shown_definitions c.args.defs.now) x) n ∙ (sym c.is_taken.ensures ∙ c.if-is_taken.true))

pub copy_function-requires-clause-within : goal.copy_function-requires-clause-within
copy_function-requires-clause-within c =
    let s : HasSite c.args.checked.now.program c.args.site = record { from = omega arith; to = omega (arith, c.sites-sites.ensures) } in
    let w : (c.args.checked.now.program.callee c.args.site) < length (shown_definitions c.args.defs.now) = callee_within
    (shown_definitions c.args.defs.now) c.args.checked.now c.args.site c.requires.form c.sites-sites.ensures.checked s in
    let lt : c.callee-callee.result < length c.args.defs.now = omega (arith, w, shown_length c.args.defs.now, c.callee-callee.ensures.number) in
    lt

pub returns-clause-may : goal.returns-clause-may
returns-clause-may c =
    let s : HasSite c.args.checked.now.program c.args.site = record { from = omega arith; to = omega (arith, c.sites-sites.ensures) } in
    let w : (c.args.checked.now.program.callee c.args.site) < length (shown_definitions c.args.defs.now) = callee_within
    (shown_definitions c.args.defs.now) c.args.checked.now c.args.site c.requires.form c.sites-sites.ensures.checked s in
    let lt : c.callee-callee.result < length c.args.defs.now = omega (arith, w, shown_length c.args.defs.now, c.callee-callee.ensures.number) in
    let g : is_grouped (shown_definitions c.args.defs.now) (c.args.checked.now.program.callee c.args.site) ≡ false = sym
    (ap (λ (n : ℕ). is_grouped (shown_definitions c.args.defs.now) n) c.callee-callee.ensures.number) ∙ (sym c.is_grouped.ensures ∙ c.if-is_grouped.false) in
    let n : name_for (shown_definitions c.args.defs.now) c.args.site (c.args.checked.now.program.callee c.args.site) ≡ c.in_ok-name.name =
    name_shown c.args.defs.now c.callee-callee.result (c.args.checked.now.program.callee c.args.site) c.args.site c.index-defs-callee.result
    lt c.index-defs-callee.is c.callee-callee.ensures.number ∙ (ap (λ (z : Def). copy_name z.name c.args.site) c.index-defs-callee.is ∙ sym c.in_ok-name.ensures) in
    let b = ap (λ (x : List ℕ). length x) c.bytes.ensures.bytes in
    let q = ap (λ (x : List ℕ). length x) n in
    record {
      site = s;
      alone = g;
      short = omega (arith, b, q, c.if-bytes-gt-NAME_MAX.false);
      free = ap
          (λ (x : List ℕ). is_taken (shown_definitions c.args.defs.now) x) n ∙ (sym c.is_taken.ensures ∙ c.if-is_taken.false);
    }

pub returns-clause-copied : goal.returns-clause-copied
returns-clause-copied c =
    let s : HasSite c.args.checked.now.program c.args.site = record { from = omega arith; to = omega (arith, c.sites-sites.ensures) } in
    let w : (c.args.checked.now.program.callee c.args.site) < length (shown_definitions c.args.defs.now) = callee_within
    (shown_definitions c.args.defs.now) c.args.checked.now c.args.site c.requires.form c.sites-sites.ensures.checked s in
    let lt : c.callee-callee.result < length c.args.defs.now = omega (arith, w, shown_length c.args.defs.now, c.callee-callee.ensures.number) in
    let st = def_shown c.args.defs.now c.callee-callee.result (Some c.index-defs-callee.result)
    (slice_get_read c.args.defs.now (length c.args.defs.now) c.callee-callee.result c.index-defs-callee.result refl lt c.index-defs-callee.is) in
    let d : Definition = shown_definition c.index-defs-callee.result in
    let n : c.in_ok-name.name ≡ copy_name d.name c.args.site = c.in_ok-name.ensures ∙ sym (ap (λ (z : Def). copy_name z.name c.args.site) c.index-defs-callee.is) in
    c.in_ok-copy_function.ensures d st ∙ (ap (λ (x : List ℕ). copied_under x (shown_definitions c.args.defs.now) c.args.site c.callee-callee.result d)
    n ∙ (ap (λ (o : Option Definition). copied_as o (shown_definitions c.args.defs.now) c.args.site c.callee-callee.result) (sym st) ∙ ap
    (λ (j : ℕ). copied (shown_definitions c.args.defs.now) c.args.site j) c.callee-callee.ensures.number))
