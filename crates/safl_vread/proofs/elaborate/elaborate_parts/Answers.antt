use Rattle.safl_vread.proofs.Common.{Driver, File, HasDrivers, VErr, append_empty, declared_number_faults, err_from_is_err_and, flat_map}
use Rattle.std.proofs.Common.{sym, subst, ◌≡◌, ◌∙◌, List, ℕ, [], Result, Ok, Err}
use Rattle.safl_verilog.specs.Faults.{all_number_faults, stated_number_faults}
use Rattle.safl_vparse.specs.declared.file.Declaration.{Declaration}
use Rattle.safl_vparse.specs.declared.file.Span.{Span}
use Rattle.safl_vparse.specs.declared.file.Statement.{Statement}
use Rattle.safl_vparse.specs.Shown.{shown_declarations, shown_statements}
use Rattle.safl_vread.specs.Firsts.{Answers}
use Rattle.safl_vread.specs.Parts.{parts_at, later_faults}
use Rattle.safl_vread.proofs.FaultsOfFile.{empty, numbers_first, header_first, declared_first, later_answers}
use Rattle.safl_vread.proofs.elaborate.elaborate_parts.Goals as goal

pub returns-in-Some-clause-faults : goal.returns-in-Some-clause-faults
returns-in-Some-clause-faults c = numbers_first (parts_at c.args.text.now c.args.header.now c.args.declarations.now c.args.statements.now) c.in-Some.fault c.in-Some.ensures

pub returns-in_err-listed-clause-faults : goal.returns-in_err-listed-clause-faults
returns-in_err-listed-clause-faults c =
    let f : File = parts_at c.args.text.now c.args.header.now c.args.declarations.now c.args.statements.now in
    let a = empty (all_number_faults f) (sym c.in_default.is ∙ c.number_fault.ensures) in
    let p = err_from_is_err_and c.from_residual.result c.from_residual.ensures.1 in
    rw (p.1, p.2) (header_first f a c.in_err-listed.field-0.0 c.in_err-listed.ensures.faults)

pub scope_of-requires : goal.scope_of-requires
scope_of-requires c =
    let f : File = parts_at c.args.text.now c.args.header.now c.args.declarations.now c.args.statements.now in
    (append_empty (flat_map declared_number_faults f.declarations) (flat_map stated_number_faults f.statements) (empty (all_number_faults f) (sym c.in_default.is ∙ c.number_fault.ensures))).0

pub returns-in_err-scope-clause-faults : goal.returns-in_err-scope-clause-faults
returns-in_err-scope-clause-faults c =
    let f : File = parts_at c.args.text.now c.args.header.now c.args.declarations.now c.args.statements.now in
    let a = empty (all_number_faults f) (sym c.in_default.is ∙ c.number_fault.ensures) in
    let p = err_from_is_err_and c.from_residual-in_err-scope.result c.from_residual-in_err-scope.ensures.1 in
    rw (p.1, p.2) (declared_first f a c.in_ok-listed.ensures.faults c.in_err-scope.field-0.0 c.in_err-scope.ensures.faults)

pub all_drivers-requires-clause-numbers : goal.all_drivers-requires-clause-numbers
all_drivers-requires-clause-numbers c =
    let f : File = parts_at c.args.text.now c.args.header.now c.args.declarations.now c.args.statements.now in
    let a = empty (all_number_faults f) (sym c.in_default.is ∙ c.number_fault.ensures) in
    subst (λ (t : List ℕ). flat_map stated_number_faults (shown_statements t c.args.statements.now) ≡ []) (sym c.in_ok-scope.ensures.text)
    (append_empty (flat_map declared_number_faults f.declarations) (flat_map stated_number_faults f.statements) a).1

-- the faults behind, of the parts that were passed
later : {A : Type 0} (text t : List ℕ) (header : List Span) (ds xs : List Declaration) (ss : List Statement) (r : Result A VErr) → t ≡ text → xs ≡ ds
    → Answers (later_faults (parts_at t header xs ss)) r → Answers (later_faults (parts_at text header ds ss)) r
later text t header ds xs ss r e f h = subst (λ (d : List Declaration). Answers (later_faults (parts_at text header d ss)) r) f
    (subst (λ (l : List ℕ). Answers (later_faults (parts_at l header xs ss)) r) e h)

pub returns-in_err-drivers-clause-faults : goal.returns-in_err-drivers-clause-faults
returns-in_err-drivers-clause-faults c =
    let f : File = parts_at c.args.text.now c.args.header.now c.args.declarations.now c.args.statements.now in
    let a = empty (all_number_faults f) (sym c.in_default.is ∙ c.number_fault.ensures) in
    let p = err_from_is_err_and c.from_residual-in_err-drivers.result c.from_residual-in_err-drivers.ensures.1 in
    let r : Result (List Driver) VErr = Err c.in_err-drivers.field-0.0 in
    let k = later c.args.text.now c.in_ok-scope.scope.text.now c.args.header.now c.args.declarations.now c.in_ok-scope.scope.declarations.now
    c.args.statements.now r c.in_ok-scope.ensures.text c.in_ok-scope.ensures.declarations c.in_err-drivers.ensures.faults in
    rw (p.1, p.2) (later_answers f a c.in_ok-listed.ensures.faults r c.in_ok-scope.ensures.faults k)

pub returns-clause-faults : goal.returns-clause-faults
returns-clause-faults c =
    let f : File = parts_at c.args.text.now c.args.header.now c.args.declarations.now c.args.statements.now in
    let a = empty (all_number_faults f) (sym c.in_default.is ∙ c.number_fault.ensures) in
    let r : Result (List Driver) VErr = Ok c.in_ok-drivers.drivers.items in
    let k = later c.args.text.now c.in_ok-scope.scope.text.now c.args.header.now c.args.declarations.now c.in_ok-scope.scope.declarations.now
    c.args.statements.now r c.in_ok-scope.ensures.text c.in_ok-scope.ensures.declarations c.in_ok-drivers.ensures.faults in
    later_answers f a c.in_ok-listed.ensures.faults r c.in_ok-scope.ensures.faults k

pub returns-clause-drivers : goal.returns-clause-drivers
returns-clause-drivers c =
    let vs : List Driver = c.in_ok-drivers.drivers.items in
    let k = subst (λ (t : List ℕ). HasDrivers (shown_declarations t c.in_ok-scope.scope.declarations.now) (shown_statements t c.args.statements.now)
    vs) c.in_ok-scope.ensures.text c.in_ok-drivers.ensures.drivers in
    subst (λ (d : List Declaration). HasDrivers (shown_declarations c.args.text.now d) (shown_statements c.args.text.now c.args.statements.now) vs) c.in_ok-scope.ensures.declarations k
