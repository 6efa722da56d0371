-- The declared net has no temporaries.
use Rattle.safl_unit.proofs.Common.{Choice, IsSettled, Names, Program, codes, false≢true, many, unit_for}
use Rattle.std.proofs.Common.{◌≡◌, ℕ, zero, suc, List, [], ◌∷◌, ◌++◌, map, Some, None, Bool, true, false, cond, slice_get, ◌==◌, nat_lt, refl, sym, ap, ◌∙◌}
use Rattle.safl_net.specs.Netlist.{Netlist, Signal, Wire, Cell}
use Rattle.safl_net.specs.Names.{is_temp, IsTidy}
use Rattle.safl_circuit.specs.Names.{of_function, of_site, of_param, is_unit}
use Rattle.safl_circuit.specs.Layout.{Line, lines, named, member_lines, unit_lines, site_lines, function_wires, site_wires, layout_inputs, layout_registers, layout_wires}
use Rattle.safl_unit.specs.Finished.{input_line, open_register, open_wire, declared_signals, declared_net}

-- no line has the name of a temporary
abbrev Lasting : List Line → Type 0
Lasting [] = Unit {0}
Lasting (l ∷ ls) = (is_temp l.0 ≡ false) × Lasting ls

lasting_more : (xs ys : List Line) → Lasting xs → Lasting ys → Lasting (xs ++ ys)
lasting_more [] ys a b = b
lasting_more (x ∷ xs) ys a b = (a.0, lasting_more xs ys a.1 b)

lasting_cond : (b : Bool) (xs : List Line) → Lasting xs → Lasting (cond b xs [])
lasting_cond true xs a = a
lasting_cond false xs a = tt

lasting_lines : (g : ℕ → List Line) (n : ℕ) → ((i : ℕ) → Lasting (g i)) → Lasting (lines g n)
unfolding lines
lasting_lines g zero a = tt
lasting_lines g (suc n) a = lasting_more (lines g n) (g n) (lasting_lines g n a) (a n)

lasting_named : (f : List ℕ → List ℕ) (xs : List (List ℕ)) (ws : List ℕ) → ((x : List ℕ) → is_temp (f x) ≡ false) → Lasting (named (map f xs) ws)
lasting_named f [] ws a = tt
lasting_named f (x ∷ xs) [] a = tt
lasting_named f (x ∷ xs) (w ∷ ws) a = (a x, lasting_named f xs ws a)

lasting_inputs : (C : Program) (D : Names) → Lasting (layout_inputs C D)
lasting_inputs C D = (refl, lasting_named (λ x. codes "in$" ++ x) (D.params C.main) (C.params C.main) (λ x. refl))

lasting_member : (C : Program) (D : Names) (u f : ℕ) → Lasting (member_lines C D u f)
lasting_member C D u f =
    lasting_cond (C.unit f == u) _
    (lasting_more (cond (many C f) ((of_function D (codes "at$") f, 1) ∷ []) []) _ (lasting_cond (many C f) _ (refl, tt)) (lasting_named (of_param D f) (D.params f) (C.params f) (λ x. refl)))

lasting_unit : (C : Program) (D : Names) (u : ℕ) → Lasting (unit_lines C D u)
lasting_unit C D u = lasting_cond (is_unit C u) _ (refl, (refl, (refl, lasting_lines (member_lines C D u) C.functions (λ f. lasting_member C D u f))))

lasting_site : (C : Program) (P : Choice) (k : ℕ) → Lasting (site_lines C P k)
lasting_site C P k = lasting_cond (nat_lt 0 k) _ (refl, (refl, lasting_cond (P.kept k) _ (refl, tt)))

lasting_call : (C : Program) (P : Choice) (k : ℕ) → Lasting (site_wires C P k)
lasting_call C P k = lasting_cond (nat_lt 0 k) _ (
  refl,
  (
    refl,
    lasting_more (cond (P.arbiter (unit_for C k)) ((of_site (codes "arb$") k, 1) ∷ []) [])
        _ (lasting_cond (P.arbiter (unit_for C k)) _ (refl, tt)) (refl, tt),
  ),
)

lasting_registers : (C : Program) (D : Names) (P : Choice) → Lasting (layout_registers C D P)
lasting_registers C D P = lasting_more (lines (unit_lines C D) C.functions) _ (lasting_lines (unit_lines C D) C.functions (λ u. lasting_unit C D u))
    (lasting_lines (site_lines C P) (suc C.sites) (λ k. lasting_site C P k))

lasting_wires : (C : Program) (D : Names) (P : Choice) → Lasting (layout_wires C D P)
lasting_wires C D P =
    lasting_more (lines (function_wires D) C.functions) _ (lasting_lines (function_wires D) C.functions (λ f. (refl, (refl, tt))))
    (lasting_more (lines (site_wires C P) (suc C.sites)) _ (lasting_lines (site_wires C P) (suc C.sites) (λ k. lasting_call C P k)) (refl, tt))

-- nor a signal
abbrev NoTemps : List Signal → Type 0
NoTemps [] = Unit {0}
NoTemps (g ∷ gs) = (is_temp g.name ≡ false) × NoTemps gs

none_more : (xs ys : List Signal) → NoTemps xs → NoTemps ys → NoTemps (xs ++ ys)
none_more [] ys a b = b
none_more (x ∷ xs) ys a b = (a.0, none_more xs ys a.1 b)

none_made : (make : Line → Signal) → ((l : Line) → (make l).name ≡ l.0) → (ls : List Line) → Lasting ls → NoTemps (map make ls)
none_made make e [] a = tt
none_made make e (l ∷ ls) a = (ap is_temp (e l) ∙ a.0, none_made make e ls a.1)

no_temp_at : (gs : List Signal) (s : ℕ) (g : Signal) → NoTemps gs → slice_get gs s ≡ Some g → is_temp g.name ≡ false
no_temp_at [] s g a e = absurd (cc)
no_temp_at (x ∷ gs) zero g a e = let q : x ≡ g = cc in ap (λ (y : Signal). is_temp y.name) (sym q) ∙ a.0
no_temp_at (x ∷ gs) (suc s) g a e = no_temp_at gs s g a.1 e

pub declared_tidy : (C : Program) (D : Names) (P : Choice) (n : Netlist) → n ≡ declared_net C D P → IsTidy n
declared_tidy C D P n e = record {
  signals = λ s g at temp. absurd (false≢true (sym (no_temp_at (declared_signals C D P) s g all (ap (λ (m : Netlist). slice_get m.signals s) (sym e) ∙ at)) ∙ temp));
  outputs = λ i o at. by i o (ap (λ (m : Netlist). slice_get m.outputs i) (sym e) ∙ at);
}
  where
    all : NoTemps (declared_signals C D P)
    all =
        none_more (map input_line (layout_inputs C D)) _ (none_made input_line (λ l. refl) (layout_inputs C D) (lasting_inputs C D))
        (none_more (map open_register (layout_registers C D P)) _
        (none_made open_register (λ l. refl) (layout_registers C D P) (lasting_registers C D P))
        (none_made open_wire (λ l. refl) (layout_wires C D P) (lasting_wires C D P)))

    by : (i : ℕ) (o : List ℕ × ℕ) → None ≡ Some o → is_temp o.0 ≡ false
    by i o q = absurd (cc)

-- ---- nor a cell

abbrev NoCells : List Signal → Type 0
NoCells [] = Unit {0}
NoCells (g ∷ gs) = ((c : Cell) → g.kind ≡ Wire (Some c) → ⊥) × NoCells gs

cells_more : (xs ys : List Signal) → NoCells xs → NoCells ys → NoCells (xs ++ ys)
cells_more [] ys a b = b
cells_more (x ∷ xs) ys a b = (a.0, cells_more xs ys a.1 b)

cells_made : (make : Line → Signal) → ((l : Line) (c : Cell) → (make l).kind ≡ Wire (Some c) → ⊥) → (ls : List Line) → NoCells (map make ls)
cells_made make f [] = tt
cells_made make f (l ∷ ls) = (f l, cells_made make f ls)

no_cell_at : (gs : List Signal) (s : ℕ) (g : Signal) (c : Cell) → NoCells gs → slice_get gs s ≡ Some g → g.kind ≡ Wire (Some c) → ⊥
no_cell_at [] s g c a e k = absurd (cc)
no_cell_at (x ∷ gs) zero g c a e k = let q : x ≡ g = cc in a.0 c (ap (λ (y : Signal). y.kind) q ∙ k)
no_cell_at (x ∷ gs) (suc s) g c a e k = no_cell_at gs s g c a.1 e k

pub declared_settled : (C : Program) (D : Names) (P : Choice) (n : Netlist) → n ≡ declared_net C D P → IsSettled n
declared_settled C D P n e = record {
  acyclic = record { rank = λ s. s; rises = λ s t i g h c d at kind o th dk. absurd (none s g c at kind) };
  reads = λ s t i g c at kind o. absurd (none s g c at kind);
}
  where
    all : NoCells (declared_signals C D P)
    all =
        cells_more (map input_line (layout_inputs C D)) _ (cells_made input_line (λ l c k. absurd (cc)) (layout_inputs C D))
        (cells_more (map open_register (layout_registers C D P)) _ (cells_made open_register (λ l c k. absurd (cc)) (layout_registers C D P))
        (cells_made open_wire (λ l c k. absurd (cc)) (layout_wires C D P)))

    none : (s : ℕ) (g : Signal) (c : Cell) → slice_get n.signals s ≡ Some g → g.kind ≡ Wire (Some c) → ⊥
    none s g c at kind = no_cell_at (declared_signals C D P) s g c all (ap (λ (m : Netlist). slice_get m.signals s) (sym e) ∙ at) kind
