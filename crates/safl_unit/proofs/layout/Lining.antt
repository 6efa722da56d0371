-- The lines of the ties of a bank are those of the layout.
use Rattle.safl_unit.proofs.Common.{Bank, CheckedProgram, Choice, EachAt, IsChecked, MemberPins, Names, Program, Sig, SitePins, UnitPins}
use Rattle.safl_unit.proofs.Common.{argument_lines, at_line, codes, function_lines, many, map-append, of_function, of_param, unit_head}
use Rattle.std.proofs.Common.{◌≡◌, ℕ, zero, suc, ◌<◌, List, [], ◌∷◌, ◌++◌, map, length, Some, Bool, true, false, cond, slice_get, ◌==◌, nat_lt, refl, sym, ap, ◌∙◌, arith}
use Rattle.safl_circuit.specs.Layout.{Line, lines, unit_lines, site_lines, layout_registers}
use Rattle.safl_unit.specs.Ties.{Tie, line_of, ties, tied, unit_ties, member_ties, function_ties, call_registers, site_ties, register_ties}
use Rattle.safl_unit.proofs.layout.Declaring.{param_lines_long}
use Rattle.safl_unit.proofs.layout.Ordering.{units_in_order}

pub tied_lines : (ls : List Line) (ss : List Sig) → length ss ≡ length ls → map line_of (tied ls ss) ≡ ls
tied_lines [] ss e = refl
tied_lines (l ∷ ls) [] e = absurd (omega (arith, e))
tied_lines (l ∷ ls) (s ∷ ss) e = ap (λ x. l ∷ x) (tied_lines ls ss (omega (arith, e)))

pub ties_lines : (g : ℕ → List Tie) (h : ℕ → List Line) (n : ℕ) → ((i : ℕ) → i < n → map line_of (g i) ≡ h i) → map line_of (ties g n) ≡ lines h n
unfolding ties lines
ties_lines g h zero e = refl
ties_lines g h (suc n) e =
    map-append line_of (ties g n) (g n) ∙ ap (λ l. l ++ map line_of (g n)) (ties_lines g h n (λ i l. e i (omega (arith, l)))) ∙ ap (λ l. lines h n ++ l) (e n (omega arith))

head_lines : (b : Bool) (x y z : Line) (r s t : Sig) → map line_of (cond b ((x, r) ∷ (y, s) ∷ (z, t) ∷ []) []) ≡ cond b (x ∷ y ∷ z ∷ []) []
head_lines true x y z r s t = refl
head_lines false x y z r s t = refl

one_line : (b : Bool) (x : Line) (r : Sig) → map line_of (cond b ((x, r) ∷ []) []) ≡ cond b (x ∷ []) []
one_line true x r = refl
one_line false x r = refl

site_three : (a b : Bool) (x y z : Line) (r s t : Sig) → map line_of (cond a ((x, r) ∷ (y, s) ∷ cond b ((z, t) ∷ []) []) []) ≡ cond a (x ∷ y ∷ cond b (z ∷ []) []) []
site_three true true x y z r s t = refl
site_three true false x y z r s t = refl
site_three false b x y z r s t = refl

-- an entry that is there
pub there : {A : Type 0} (xs : List A) (i n : ℕ) → length xs ≡ n → i < n → (x : A) × (slice_get xs i ≡ Some x)
there [] i n e l = absurd (omega (arith, e, l))
there (x ∷ xs) zero n e l = (x, refl)
there (x ∷ xs) (suc i) zero e l = absurd (omega (arith, l))
there (x ∷ xs) (suc i) (suc n) e l = there xs i n (omega (arith, e)) (omega (arith, l))

-- the tables have their lengths, and each function an argument for each parameter
pub record IsFull (C : Program) (b : Bank) : Type 0 where
  pub units : length b.units.items ≡ C.functions
  pub members : length b.members.items ≡ C.functions
  pub sites : length b.sites.items ≡ suc C.sites
  pub args : EachAt b.members.items (λ f m. length m.args.items ≡ length (C.params f))

pub register_lines : (c : CheckedProgram) → IsChecked c → (P : Choice) (b : Bank) → IsFull c.program b → map line_of
    (register_ties c.program c.names P b) ≡ layout_registers c.program c.names P
register_lines c h P b full =
    map-append line_of (ties (function_ties C D b.units.items b.members.items) C.functions) (ties (site_ties C P b.sites.items) (suc C.sites))
    ∙ ap (λ l. l ++ map line_of (ties (site_ties C P b.sites.items) (suc C.sites)))
    (ties_lines (function_ties C D b.units.items b.members.items) (function_lines C D) C.functions
    (λ f l. of_one f (there b.units.items f C.functions full.units l) (there b.members.items f C.functions full.members l))
    ∙ sym (units_in_order c h))
    ∙ ap (λ l. lines (unit_lines C D) C.functions ++ l)
    (ties_lines (site_ties C P b.sites.items) (site_lines C P) (suc C.sites) (λ k l. of_call k (there b.sites.items k (suc C.sites) full.sites l)))
  where
    C : Program
    C = c.program

    D : Names
    D = c.names

    of_one : (f : ℕ) → ((u : UnitPins) × (slice_get b.units.items f ≡ Some u)) → ((m : MemberPins) × (slice_get b.members.items f ≡ Some m)) → map
        line_of (function_ties C D b.units.items b.members.items f) ≡ function_lines C D f
    of_one f (u, e) (m, q) =
        ap (λ o. map line_of (unit_ties C D f o ++ member_ties C D f (slice_get b.members.items f))) e
        ∙ ap (λ o. map line_of (unit_ties C D f (Some u) ++ member_ties C D f o)) q
        ∙ map-append line_of (unit_ties C D f (Some u)) (member_ties C D f (Some m))
        ∙ ap (λ l. l ++ map line_of (member_ties C D f (Some m))) (head_lines (C.unit f == f) _ _ _ u.run u.fin u.res)
        ∙ ap (λ l. unit_head C D f ++ l)
        (map-append line_of (cond (many C f) (((of_function D (codes "at$") f, 1), m.at) ∷ []) []) (tied (argument_lines C D f) m.args.items)
        ∙ ap (λ l. l ++ map line_of (tied (argument_lines C D f) m.args.items)) (one_line (many C f) (of_function D (codes "at$") f, 1) m.at)
        ∙ ap (λ l. at_line C D f ++ l) (tied_lines (argument_lines C D f) m.args.items (full.args f m q ∙ sym (param_lines_long c f (of_param D f)))))

    of_call : (k : ℕ) → ((s : SitePins) × (slice_get b.sites.items k ≡ Some s)) → map line_of (site_ties C P b.sites.items k) ≡ site_lines C P k
    of_call k (s, e) = ap (λ o. map line_of (call_registers C P k o)) e ∙ site_three (nat_lt 0 k) (P.kept k) _ _ _ s.sent s.got s.keep
