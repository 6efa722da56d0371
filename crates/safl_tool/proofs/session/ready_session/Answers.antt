use Rattle.safl_tool.proofs.Common.{Netlist, Opened, Simulation, argument_widths, err_from_is_err_and, resets}
use Rattle.std.proofs.Common.{◌≡◌, ◌<◌, ◌-◌, ℕ, List, length, true, slice_index, sym, ap, subst, ◌∙◌, arith, inl, inr}
use Rattle.std.proofs.lemmas.List.{get_or_read}
use Rattle.safl_session.specs.declared.script.ScriptErr.{ScriptErr}
use Rattle.safl_session.specs.declared.script.ScriptErr.TheVariants as errors
use Rattle.safl_session.specs.Lines.{Count, Argument}
use Rattle.safl_session.specs.Scripts.{IsScript, RefusesScript}
use Rattle.safl_tool.specs.CommandTasks.{RefusesSourceOf, RefusesSession}
use Rattle.safl_tool.proofs.Conversed.{misscripted, placed, count_told, argument_told}
use Rattle.safl_tool.proofs.Refusing.{refuses_more}
use Rattle.safl_tool.proofs.session.ready_session.Goals as goal

pub returns-in_err-net-clause-refused : goal.returns-in_err-net-clause-refused
returns-in_err-net-clause-refused c =
    let p = err_from_is_err_and c.from_residual.result c.from_residual.ensures.1 in
    rw (p.1, p.2)
    (refuses_more (RefusesSourceOf c.args.name.now c.args.source.now) (RefusesSession c.args.name.now c.args.source.now c.args.script.now) (λ s line h. inl h)
    c.in_err-net.field-0.0 c.in_err-net.ensures.refused)

pub returns-in-Err-Count-clause-refused : goal.returns-in-Err-Count-clause-refused
returns-in-Err-Count-clause-refused c =
    let n : Netlist = c.in_ok-net.net in
    let l = c.in-Err-Count.line in
    let given = c.in-Err-Count.given in
    let e : ScriptErr = errors.Count l given in
    let widths : c.deref.result.now ≡ argument_widths n.signals = c.deref.ensures.value ∙ c.in_ok-widths.ensures in
    let refused : RefusesScript (argument_widths n.signals) c.args.script.now e =
    subst (λ (ws : List ℕ). RefusesScript ws c.args.script.now e) widths
    (subst (λ (x : ScriptErr). RefusesScript c.deref.result.now c.args.script.now x) c.in-Err-Count.field-0-is c.in-Err-Count.ensures.refused) in
    let a = c.len.ensures in
    let b = c.in_ok-widths.widths.ok.0 in
    let d = ap length c.in_ok-widths.ensures in
    let long : c.len.result ≡ length (argument_widths n.signals) = omega (arith, a, b, d) in
    inr (misscripted c.args.name.now c.args.source.now c.args.script.now n c.in_ok-net.ensures.compiled (Count l given) refused _
    (count_told _ l c.len.result (length (argument_widths n.signals)) _ given c.in-Err-Count.line-is long c.in-Err-Count.given-is))

pub index-width-requires : goal.index-width-requires
index-width-requires c =
    let l = c.in-Err-Argument.line in
    let p = c.in-Err-Argument.place in
    let e : ScriptErr = errors.Argument l p in
    let h = placed c.deref.result.now c.args.script.now l p (subst (λ (x : ScriptErr). RefusesScript c.deref.result.now c.args.script.now x)
    c.in-Err-Argument.field-0-is c.in-Err-Argument.ensures.refused) in
    let a = ap length c.deref.ensures.value in
    let b = c.in_ok-widths.widths.ok.0 in
    let low = h.0 in
    let high = h.1 in
    omega (arith, a, b, low, high)

pub returns-in-Err-Argument-clause-refused : goal.returns-in-Err-Argument-clause-refused
returns-in-Err-Argument-clause-refused c =
    let n : Netlist = c.in_ok-net.net in
    let l = c.in-Err-Argument.line in
    let p = c.in-Err-Argument.place in
    let e : ScriptErr = errors.Argument l p in
    let at_read : RefusesScript c.deref.result.now c.args.script.now e = subst
    (λ (x : ScriptErr). RefusesScript c.deref.result.now c.args.script.now x) c.in-Err-Argument.field-0-is c.in-Err-Argument.ensures.refused in
    let widths : c.deref.result.now ≡ argument_widths n.signals = c.deref.ensures.value ∙ c.in_ok-widths.ensures in
    let refused : RefusesScript (argument_widths n.signals) c.args.script.now e = subst (λ (ws : List ℕ). RefusesScript ws c.args.script.now e) widths at_read in
    let h = placed c.deref.result.now c.args.script.now l p at_read in
    let a = ap length c.deref.ensures.value in
    let low = h.0 in
    let high = h.1 in
    let place = c.in-Err-Argument.place-is in
    let bound : p - 1 < length c.in_ok-widths.widths.items = omega (arith, a, low, high) in
    let width = get_or_read c.in_ok-widths.widths.items _ c.index-width.result.now
    (subst (λ (k : ℕ). k - 1 < length c.in_ok-widths.widths.items) (sym place) bound) c.index-width.ensures 0
    ∙ ap (λ (k : ℕ). slice_index c.in_ok-widths.widths.items (k - 1)) place ∙ ap (λ (ws : List ℕ). slice_index ws (p - 1)) c.in_ok-widths.ensures in
    inr (misscripted c.args.name.now c.args.source.now c.args.script.now n c.in_ok-net.ensures.compiled (Argument l p) refused _
    (argument_told _ l _ p c.index-width.result.now (slice_index (argument_widths n.signals) (p - 1)) c.in-Err-Argument.line-is place width))

pub returns-in-Ok-new-2-clause-opened : goal.returns-in-Ok-new-2-clause-opened
returns-in-Ok-new-2-clause-opened c =
    let n : Netlist = c.in_ok-net.net in
    let at : Netlist → Opened = λ m. record { net = m; state = resets m; is_open = true } in
    let of : Simulation → Opened = λ s. record { net = s.net; state = s.state; is_open = true } in
    let widths : c.deref.result.now ≡ argument_widths n.signals = c.deref.ensures.value ∙ c.in_ok-widths.ensures in
    record {
      net = n;
      compiled = c.in_ok-net.ensures.compiled;
      fresh = c.in-Ok-new-2.ensures.made ∙ ap of c.in-Ok-new.ensures.made ∙ ap at c.in_ok-ordered.ensures;
      calls = subst (λ (ws : List ℕ). IsScript ws c.args.script.now c.in-Ok.calls) widths c.in-Ok.ensures.read;
    }
