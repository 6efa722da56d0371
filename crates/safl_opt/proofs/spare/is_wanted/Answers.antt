use Rattle.safl_opt.proofs.Common.{Cell, Netlist, Wire, cell_in, cell_of, kind_at, width_of}
use Rattle.std.proofs.Common.{◌≡◌, ℕ, Some, None, true, false, refl, sym, ap, subst, ◌∙◌}
use Rattle.safl_opt.specs.Spare.{IsNeeded, IsAlone, HasReader, IsWanted}
use Rattle.safl_opt.proofs.Coming.{cell_fits}
use Rattle.safl_opt.proofs.Adding.{kind_of_cell}
use Rattle.safl_opt.proofs.spare.is_wanted.Goals as goal

pub returns-then-not-is_read : goal.returns-then-not-is_read
returns-then-not-is_read c = ((λ e. absurd (let z = e in cc)), (λ w. absurd (let a = c.is_read.ensures.1 w.is_read in let b = c.if-not-is_read.true in cc)))

pub has_own_cell-requires : goal.has_own_cell-requires
has_own_cell-requires c = (
  width_of c.args.n.now c.args.s.0,
  cell_fits c.args.n.now c.args.s.0 (cell_of c.in-Some.cell.now) c.signals-count.ensures.netlist (kind_of_cell (kind_at c.args.n.now c.args.s.0) (cell_of c.in-Some.cell.now) c.in-Some.ensures),
)

one_cell : (n : Netlist) (s : ℕ) (d c : Cell) → kind_at n s ≡ Wire (Some d) → kind_at n s ≡ Wire (Some c) → d ≡ c
one_cell n s d c e f = let z = sym e ∙ f in cc

of_cell : (n : Netlist) (s : ℕ) (d : Cell) → kind_at n s ≡ Wire (Some d) → IsNeeded n d × IsAlone n s d → HasReader n s → IsWanted n s
of_cell n s d e h r = record {
  needed = λ c q. subst (IsNeeded n) (one_cell n s d c e q) h.0;
  alone = λ c q. subst (IsAlone n s) (one_cell n s d c e q) h.1;
  is_read = r;
}

pub returns-in-Some : goal.returns-in-Some
returns-in-Some c =
    let k = kind_of_cell (kind_at c.args.n.now c.args.s.0) (cell_of c.in-Some.cell.now) c.in-Some.ensures in (
      (λ e. of_cell c.args.n.now c.args.s.0 (cell_of c.in-Some.cell.now) k (c.has_own_cell.ensures.0 e) (c.is_read.ensures.0 c.if-not-is_read.false)),
      (λ w. c.has_own_cell.ensures.1 (w.needed (cell_of c.in-Some.cell.now) k, w.alone (cell_of c.in-Some.cell.now) k)),
    )

no_cell : (n : Netlist) (s : ℕ) (c : Cell) → None ≡ cell_in (kind_at n s) → kind_at n s ≡ Wire (Some c) → ⊥
no_cell n s c e q = let z : None ≡ Some c = e ∙ ap cell_in q in cc

pub returns-in-None : goal.returns-in-None
returns-in-None c = (
  (λ e. record {
    needed = λ d q. absurd (no_cell c.args.n.now c.args.s.0 d c.in-None.ensures q);
    alone = λ d q. absurd (no_cell c.args.n.now c.args.s.0 d c.in-None.ensures q);
    is_read = c.is_read.ensures.0 c.if-not-is_read.false;
  }),
  (λ w. refl),
)
