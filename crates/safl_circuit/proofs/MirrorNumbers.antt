-- Registers and inputs of cycles that show the same.
use Rattle.safl_circuit.proofs.Common.{Names, Program, codes, flat_map, fun_ext, is_temp}
use Rattle.std.proofs.Common.{◌≡◌, ℕ, suc, List, [], ◌∷◌, ◌++◌, map, length, Bool, true, false, cond, slice_get, slice_index, Some, refl, sym, ap, ◌∙◌, arith, inl, inr, ◌⊎◌}
use Rattle.safl_net.specs.Netlist.{Netlist, Signal, Kind, Input, Reg, Wire}
use Rattle.safl_net.specs.Runs.{is_argument, input_numbers, start_number}
use Rattle.safl_net.specs.Valuations.{Valuation, Fits, read, read_next}
use Rattle.safl_net.proofs.Reading.{read_word}
use Rattle.safl_circuit.specs.Equations.{Inputs}
use Rattle.safl_circuit.specs.Names.{view, registers_now, registers_next, input_now, one, as_words}
use Rattle.safl_net.specs.Mirrors.{Line, input_line, inputs_in, ShowsCycle}
use Rattle.safl_net.proofs.GatheredLists.{Member, map_members}
use Rattle.safl_net.proofs.Twins.{input_lasts}
use Rattle.safl_circuit.specs.Mirrored.{AreMirrors}

-- ---- registers

abbrev masked : (List ℕ → ℕ) → List ℕ → ℕ
masked f name = cond (is_temp name) 0 (f name)

-- no register of a circuit has the name of a temporary
view_masked : (C : Program) (D : Names) (f : List ℕ → ℕ) → view C D f ≡ view C D (masked f)
view_masked C D f = refl

view_same : (C : Program) (D : Names) (f g : List ℕ → ℕ) → ((name : List ℕ) → is_temp name ≡ false → f name ≡ g name) → view C D f ≡ view C D g
view_same C D f g h = view_masked C D f ∙ ap (view C D) (fun_ext (λ name. by name (is_temp name) refl)) ∙ sym (view_masked C D g)
  where
    by : (name : List ℕ) (b : Bool) → is_temp name ≡ b → cond b 0 (f name) ≡ cond b 0 (g name)
    by name true e = refl
    by name false e = h name e

pub now_same : (C : Program) (D : Names) (n m : Netlist) (v w : Valuation) → ShowsCycle n m v w → registers_now C D m w ≡ registers_now C D n v
now_same C D n m v w s = view_same C D (read m w) (read n v) s.now

pub next_same : (C : Program) (D : Names) (n m : Netlist) (v w : Valuation) → ShowsCycle n m v w → registers_next C D m w ≡ registers_next C D n v
next_same C D n m v w s = view_same C D (read_next m w) (read_next n v) s.next

-- ---- inputs

abbrev argument_lines : List Line → List Line
argument_lines [] = []
argument_lines (l ∷ ls) = cond (is_argument l.0 Input) (l ∷ argument_lines ls) (argument_lines ls)

arguments_named : (f : List ℕ → ℕ) (gs : List Signal) (v : Valuation) → length v ≡ length gs → ((s : ℕ) (g : Signal) → slice_get gs s ≡ Some g → slice_index v s ≡ f g.name)
    → input_numbers gs v ≡ map (λ (l : Line). f l.0) (argument_lines (flat_map (λ g. input_line g g.kind) gs))
unfolding input_numbers
arguments_named f [] v len h = refl
arguments_named f (g ∷ gs) [] len h = absurd (omega (arith, len))
arguments_named f (g ∷ gs) (w ∷ ws) len h = by g.kind (arguments_named f gs ws (omega (arith, len)) (λ s x e. h (suc s) x e))
  where
    pick : (b : Bool) → input_numbers gs ws ≡ map (λ (l : Line). f l.0) (argument_lines (flat_map (λ g. input_line g g.kind) gs))
        → cond b (w ∷ input_numbers gs ws) (input_numbers gs ws) ≡ map (λ (l : Line). f l.0)
        (cond b ((g.name, g.width) ∷ argument_lines (flat_map (λ g. input_line g g.kind) gs)) (argument_lines (flat_map (λ g. input_line g g.kind) gs)))
    pick true ih = ap (λ a. a ∷ input_numbers gs ws) (h 0 g refl) ∙ ap (λ l. f g.name ∷ l) ih
    pick false ih = ih

    by : (k : Kind) → input_numbers gs ws ≡ map (λ (l : Line). f l.0) (argument_lines (flat_map (λ g. input_line g g.kind) gs))
        → cond (is_argument g.name k) (w ∷ input_numbers gs ws) (input_numbers gs ws) ≡ map (λ (l : Line). f l.0) (argument_lines (input_line g k ++ flat_map (λ g. input_line g g.kind) gs))
    by Input ih = pick (is_argument g.name Input) ih
    by (Reg init next) ih = ih
    by (Wire cell) ih = ih

are_inputs : (ls : List Line) (x : Line) → Member x (argument_lines ls) → Member x ls
are_inputs [] x h = h
are_inputs (l ∷ ls) x h = by (is_argument l.0 Input) h (λ k. are_inputs ls x k)
  where
    by : (b : Bool) → Member x (cond b (l ∷ argument_lines ls) (argument_lines ls)) → (Member x (argument_lines ls) → Member x ls) → (l ≡ x) ⊎ Member x ls
    by true (inl e) k = inl e
    by true (inr h) k = inr (k h)
    by false h k = inr (k h)

arguments_same : (n m : Netlist) → AreMirrors n m → (s t : ℕ → ℕ) (v w : Valuation) → Fits n s v → Fits m t w → ShowsCycle n m v w → input_numbers m.signals w ≡ input_numbers n.signals v
arguments_same n m a s t v w fv fw shows =
    arguments_named (read m w) m.signals w fw.full (λ s g e. sym (read_word m w s g a.new e))
    ∙ ap (λ ls. map (λ (l : Line). read m w l.0) (argument_lines ls)) a.alike.inputs
    ∙ map_members (λ (l : Line). read m w l.0) (λ (l : Line). read n v l.0) (argument_lines (inputs_in n)) (λ x h. shows.now x.0 (input_lasts n a.old_tidy x (are_inputs (inputs_in n) x h)))
    ∙ sym (arguments_named (read n v) n.signals v fv.full (λ s g e. sym (read_word n v s g a.old e)))

pub input_same : (C : Program) (n m : Netlist) → AreMirrors n m → (s t : ℕ → ℕ) (v w : Valuation) → Fits n s v → Fits m t w → ShowsCycle n m v w → input_now C m w ≡ input_now C n v
input_same C n m a s t v w fv fw shows =
    ap (λ (x : ℕ). (let r : Inputs = record { start = one x; words = as_words (C.params C.main) (input_numbers m.signals w) } in r)) (shows.now (codes "start") refl)
    ∙ ap (λ l. (let r : Inputs = record { start = one (start_number n v); words = as_words (C.params C.main) l } in r)) (arguments_same n m a s t v w fv fw shows)
