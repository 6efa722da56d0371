use Rattle.safl_probe.proofs.Common.{false≢true, on_err_always}
use Rattle.std.proofs.Common.{◌≡◌, Result, Ok, Err, OnOk, OnErr, is_ok, sym, ap, ◌∙◌}
use Rattle.safl_probe.proofs.Growing.{opened_only, unopened}
use Rattle.safl_probe.proofs.tell.tell_one.Goals as goal

at_err : {T E F : Type 0} (r : Result T E) (s : Result T F) (f : F) (P : Type 0) → s ≡ Err f → is_ok s ≡ is_ok r → OnErr r P → P
at_err (Ok x) s f P is same h = absurd (false≢true (sym (ap is_ok is) ∙ same))
at_err (Err e) s f P is same h = h

at_ok : {T E F : Type 0} (r : Result T E) (s : Result T F) (x : T) (P : Type 0) → s ≡ Ok x → is_ok s ≡ is_ok r → OnOk r P → P
at_ok (Ok y) s x P is same h = h
at_ok (Err e) s x P is same h = absurd (false≢true (sym same ∙ ap is_ok is))

pub returns-in_err-map_err-clause-part : goal.returns-in_err-map_err-clause-part
returns-in_err-map_err-clause-part g c =
    on_err_always c.from_residual.result _
    (unopened c.args.moment c.args.name.now _ _ _ (at_err c.open.result c.map_err.result _ _ c.in_err-map_err.was c.map_err.ensures.variant c.open.ensures.at_beginning)
    (at_err c.open.result c.map_err.result _ _ c.in_err-map_err.was c.map_err.ensures.variant c.open.ensures.not_opened))

pub returns-in-Err-clause-part : goal.returns-in-Err-clause-part
returns-in-Err-clause-part g c = opened_only c.args.moment c.args.name.now _ _ _ (at_ok c.open.result c.map_err.result _ _ c.in_ok-map_err.was c.map_err.ensures.variant c.open.ensures.opened)
