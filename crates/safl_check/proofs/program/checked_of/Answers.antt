use Rattle.safl_check.proofs.Common.{Function, shown_definitions}
use Rattle.std.proofs.Common.{◌≤◌, List, length, map, refl, sym, ap, ◌∙◌, subst}
use Rattle.safl_term.specs.Checked.{CheckedProgram, IsChecked}
use Rattle.safl_typing.specs.Forms.{IsFormOf, all_sites, shown_form, shown_function}
use Rattle.safl_check.proofs.OutcomeByParts.{fault_of_main, form_shown, few_functions}
use Rattle.safl_check.proofs.program.checked_of.Goals as goal

pub returns-in-Some-clause-refused : goal.returns-in-Some-clause-refused
returns-in-Some-clause-refused c = fault_of_main (shown_definitions c.args.defs.now) _ c.in-Some.fault c.requires.within c.requires.functions (sym c.in-Some.ensures)

pub sites_of-requires : goal.sites_of-requires
sites_of-requires c =
    let form = form_shown c.walk_law.ensures (shown_definitions c.args.defs.now) c.args.functions.items _ c.requires.formed c.requires.within c.requires.functions (sym c.in_default.ensures) refl in
    subst (λ (l : List Function). length l ≤ 1000) (sym c.deref.ensures.value) (few_functions _ _ _ form)

pub new-requires-clause-checked : goal.new-requires-clause-checked
new-requires-clause-checked c =
    let sites = c.in_ok-sites.ensures ∙ ap (λ (l : List Function). all_sites 0 (map shown_function l)) c.deref.ensures.value in
    let form = form_shown c.walk_law.ensures (shown_definitions c.args.defs.now) c.args.functions.items c.in_ok-sites.sites.items c.requires.formed
    c.requires.within c.requires.functions (sym c.in_default.ensures) sites in
    c.forms_are_checked_law.ensures (shown_definitions c.args.defs.now) _ c.requires.formed c.requires.shallow form

pub returns-clause-form : goal.returns-clause-form
returns-clause-form c =
    let sites = c.in_ok-sites.ensures ∙ ap (λ (l : List Function). all_sites 0 (map shown_function l)) c.deref.ensures.value in
    let form = form_shown c.walk_law.ensures (shown_definitions c.args.defs.now) c.args.functions.items c.in_ok-sites.sites.items c.requires.formed
    c.requires.within c.requires.functions (sym c.in_default.ensures) sites in
    subst (λ (p : CheckedProgram). IsFormOf (shown_definitions c.args.defs.now) (shown_form p)) (sym c.new.ensures) form

pub returns-clause-checked : goal.returns-clause-checked
returns-clause-checked c =
    let sites = c.in_ok-sites.ensures ∙ ap (λ (l : List Function). all_sites 0 (map shown_function l)) c.deref.ensures.value in
    let form = form_shown c.walk_law.ensures (shown_definitions c.args.defs.now) c.args.functions.items c.in_ok-sites.sites.items c.requires.formed
    c.requires.within c.requires.functions (sym c.in_default.ensures) sites in
    subst IsChecked (sym c.new.ensures) (c.forms_are_checked_law.ensures (shown_definitions c.args.defs.now) _ c.requires.formed c.requires.shallow form)
