use Rattle.std.proofs.Common.{ap, sym, subst, ◌≡◌, ◌∙◌, List, ℕ, Some, position, bytes_eq, get_or, slice_get}
use Rattle.safl_verilog.specs.Files.{Declaration}
use Rattle.safl_verilog.specs.Faults.{find, range_width}
use Rattle.safl_vparse.specs.Shown.{shown_declaration, shown_declarations}
use Rattle.safl_vread.proofs.DeclaredByName.{Finds, finds, mapped_at, found_at, describes, undescribed}
use Rattle.safl_vread.proofs.scope.Scope.find.Goals as goal

pub returns-in-None : goal.returns-in-None
returns-in-None c =
    let ds : List Declaration = shown_declarations c.args.self.now.text.now c.args.self.now.declarations.now in
    let e = ap (λ (l : List (List ℕ)). position (bytes_eq c.args.name.now) l) (sym c.args.self.now.named) in
    undescribed ds c.args.name.now (find ds c.args.name.now)
    (subst (λ p. Finds ds c.args.name.now (find ds c.args.name.now) p) (e ∙ sym c.place.ensures.place ∙ c.in-None.is) (finds ds c.args.name.now))

pub returns-in-Some : goal.returns-in-Some
returns-in-Some c =
    let ds : List Declaration = shown_declarations c.args.self.now.text.now c.args.self.now.declarations.now in
    let e = ap (λ (l : List (List ℕ)). position (bytes_eq c.args.name.now) l) (sym c.args.self.now.named) in
    describes ds c.args.name.now (find ds c.args.name.now) _
    (subst (λ p. Finds ds c.args.name.now (find ds c.args.name.now) p) (e ∙ sym c.place.ensures.place ∙ c.in-Some.is) (finds ds c.args.name.now))
    (λ (d : Declaration) (h : slice_get ds c.in-Some.place ≡ Some d). ap (λ (v : Declaration). v.sort)
    (mapped_at (shown_declaration c.args.self.now.text.now) c.args.self.now.declarations.now c.in-Some.place _ d h))
    (λ (d : Declaration) (h : slice_get ds c.in-Some.place ≡ Some d). c.index-width.ensures ∙ ap
    (λ (l : List ℕ). get_or l c.in-Some.place c.index-width.result.now) c.args.self.now.measured ∙ found_at
    (λ (v : Declaration). range_width v.range) ds c.in-Some.place d c.index-width.result.now h)
    c.is_signal-signal.ensures
