-- The texts of the first signals and outputs, one more at a time.
use Rattle.std.proofs.Common.{get_or, ◌≡◌, ℕ, zero, suc, ◌+◌, ◌<◌, List, [], ◌∷◌, ◌++◌, length, take, Option, Some, None, refl, sym, ap, ◌∙◌, append_assoc, add-one, arith, subst}
use Rattle.std.specs.Prelude.{slice_get, option_map}
use Rattle.std.specs.List.{flat_map}
use Rattle.std.specs.Prelude.{All}
use Rattle.std.proofs.lemmas.Option.{same_Some}
use Rattle.safl_word.proofs.Lists.{get_some}
use Rattle.safl_word.proofs.Options.{both_halves}
use Rattle.safl_net.specs.declared.cell.Sig.{Sig}
use Rattle.safl_net.specs.declared.cell.Cell.{Cell as Made}
use Rattle.safl_net.specs.Netlist.{Netlist, Signal, Kind, Input, Reg, Wire, Cell, width_of, width_in}
use Rattle.safl_net.specs.Rules.{IsNetlist, KindFits, CellFits}
use Rattle.safl_net.specs.Making.{kind_at, name_at, kind_in, name_in, cell_in, next_in, numbers}
use Rattle.safl_net.specs.Stored.{cell_of}
use Rattle.safl_net.specs.Written.{Text}
use Rattle.safl_net.specs.WrittenParts.{output_port, port}

-- one more element
one_more : {A : Type 0} (f : A → Text) (xs : List A) (i : ℕ) (x : A) → slice_get xs i ≡ Some x → flat_map f (take (suc i) xs) ≡ flat_map f (take i xs) ++ f x
one_more f [] i x e = absurd (cc)
one_more f (y ∷ ys) zero x e = let h : y ≡ x = cc in ap (λ z. f z ++ []) h ∙ nothing (f x)
  where
    nothing : (t : Text) → t ++ [] ≡ t
    nothing [] = refl
    nothing (c ∷ cs) = ap (λ l. c ∷ l) (nothing cs)
one_more f (y ∷ ys) (suc i) x e = ap (λ l. f y ++ l) (one_more f ys i x e) ∙ sym (append_assoc (f y) (flat_map f (take i ys)) (f x))

-- one more after what stood before
after_more : {A : Type 0} (f : A → Text) (xs : List A) (i : ℕ) (x : A) (start before now : Text) → slice_get xs i ≡ Some x → before ≡ start ++
    flat_map f (take i xs) → now ≡ before ++ f x → now ≡ start ++ flat_map f (take (i + 1) xs)
after_more f xs i x start before now e b n =
    n ∙ ap (λ l. l ++ f x) b ∙ append_assoc start (flat_map f (take i xs)) (f x) ∙ ap (λ l. start ++ l) (sym (one_more f xs i x e)) ∙ ap (λ k. start ++ flat_map f (take k xs)) (sym (add-one i))

-- the signal of a number, by its name, width and kind
abbrev pub signal_at : Netlist → ℕ → Signal
signal_at n s = record { name = name_at n s; width = width_of n s; kind = kind_at n s }

shown : (n : Netlist) (s : ℕ) (g : Signal) → slice_get n.signals s ≡ Some g → signal_at n s ≡ g
shown n s g e = ap (λ (o : Option Signal). record { name = name_in o; width = width_in o; kind = kind_in o }) e

pub signal_more : (f : Signal → Text) (n : Netlist) (i : ℕ) (start before now : Text) → i < length n.signals → before ≡ start ++ flat_map f
    (take i n.signals) → now ≡ before ++ f (signal_at n i) → now ≡ start ++ flat_map f (take (i + 1) n.signals)
signal_more f n i start before now lt b e =
    let g = get_some n.signals i lt in
    after_more f n.signals i g.0 start before now g.1 b (e ∙ ap (λ x. before ++ f x) (shown n i g.0 g.1))

pub output_more : (f : List ℕ × ℕ → Text) (n : Netlist) (i : ℕ) (name : List ℕ) (s : ℕ) (start before now : Text) → Some name ≡ option_map (λ x. x.0)
    (slice_get n.outputs i) → Some s ≡ option_map (λ x. x.1) (slice_get n.outputs i)
    → before ≡ start ++ flat_map f (take i n.outputs) → now ≡ before ++ f (name, s) → now ≡ start ++ flat_map f (take (i + 1) n.outputs)
output_more f n i name s start before now a b = after_more f n.outputs i (name, s) start before now (both_halves (slice_get n.outputs i) name s a b)

-- a port needs no more than the output's name
pub port_more : (n : Netlist) (i : ℕ) (name : List ℕ) (start before now : Text) → i < length n.outputs → Some name ≡ option_map (λ x. x.0) (slice_get n.outputs i)
    → before ≡ start ++ flat_map output_port (take i n.outputs) → now ≡ before ++ port name → now ≡ start ++ flat_map output_port (take (i + 1) n.outputs)
port_more n i name start before now lt e b h =
    let o = get_some n.outputs i lt in
    let same : name ≡ o.0.0 = same_Some _ _ (e ∙ ap (option_map (λ x. x.0)) o.1) in
    after_more output_port n.outputs i o.0 start before now o.1 b (h ∙ ap (λ x. before ++ port x) same)

cell_fits : (n : Netlist) (w : ℕ) (k : Kind) (c : Cell) → KindFits n w k → Some c ≡ cell_in k → CellFits n w c
cell_fits n w Input c f e = absurd (cc)
cell_fits n w (Reg init next) c f e = absurd (cc)
cell_fits n w (Wire None) c f e = absurd (cc)
cell_fits n w (Wire (Some d)) c f e = let same : d ≡ c = cc in subst (CellFits n w) same f

known_each : (bound : ℕ) (xs : List Sig) → All (λ s. s < bound) (numbers xs) → (k : ℕ) (d : Sig) → k < length xs → (get_or xs k d).0 < bound
known_each bound [] h k d lt = absurd (omega (arith, lt))
known_each bound (x ∷ xs) h zero d lt = h 0 0 (omega arith)
known_each bound (x ∷ xs) h (suc k) d lt = known_each bound xs (λ j e l. h (suc j) e (omega (arith, l))) k d (omega (arith, lt))

-- a cell's operands are signals of the net
pub cell_known : (n : Netlist) (s : ℕ) (m : Made) → IsNetlist n → s < length n.signals → Some (cell_of m) ≡ cell_in (kind_at n s) → (k : ℕ) (d : Sig)
    → k < length m.operands.items → (get_or m.operands.items k d).0 < length n.signals
cell_known n s m is lt e =
    let g = get_some n.signals s lt in
    let fits = (is.signals s g.0 g.1).kind in
    known_each (length n.signals) m.operands.items (cell_fits n g.0.width g.0.kind (cell_of m) fits (e ∙ ap (λ o. cell_in (kind_in o)) g.1)).known

next_fits : (n : Netlist) (w : ℕ) (k : Kind) (m : ℕ) → KindFits n w k → Some m ≡ next_in k → m < length n.signals
next_fits n w Input m f e = absurd (cc)
next_fits n w (Reg init None) m f e = absurd (cc)
next_fits n w (Reg init (Some t)) m f e = let same : t ≡ m = cc in subst (λ x. x < length n.signals) same f.1
next_fits n w (Wire cell) m f e = absurd (cc)

-- a next signal is one of the net
pub next_known : (n : Netlist) (s m : ℕ) → IsNetlist n → s < length n.signals → Some m ≡ next_in (kind_at n s) → m < length n.signals
next_known n s m is lt e =
    let g = get_some n.signals s lt in
    next_fits n g.0.width g.0.kind m (is.signals s g.0 g.1).kind (e ∙ ap (λ o. next_in (kind_in o)) g.1)
