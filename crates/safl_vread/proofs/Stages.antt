-- The net between its stages.
use Rattle.safl_vread.proofs.Common.{Driver, Sort, option_map, slice_get-get_or, slice_get-map, slice_index, widths_of}
use Rattle.std.proofs.Common.{◌≡◌, ℕ, zero, suc, ◌+◌, ◌<◌, ◌≤◌, List, [], ◌∷◌, ◌++◌, length, get_or, map, take, Option, Some, refl, sym, ap, subst, ◌∙◌, arith, slice_get}
use Rattle.std.proofs.lemmas.List.{length-take-le, map-append, length-map, take_more}
use Rattle.safl_net.specs.Netlist.{Netlist, Signal, Kind, Input, open_kind}
use Rattle.safl_net.specs.Making.{with_signal, set_kind, with_kind, kind_in, kind_at}
use Rattle.safl_verilog.specs.Files.{Declaration}
use Rattle.safl_verilog.specs.Faults.{range_width}
use Rattle.safl_vread.proofs.DeclaredByName.{found_at}
use Rattle.safl_vread.specs.Nets.{Fits, AllFit, kind_with, opened, signal_with, signal_in, signal_at, signals_at, partly}

-- ---- signals that are still open

pub one_more : (F : ℕ → Signal) (order : List ℕ) (i q : ℕ) → i < length order → q ≡ get_or order i q → map opened (map F (take (i + 1) order)) ≡ map opened (map F (take i order)) ++ opened (F q) ∷ []
one_more F order i q l at =
    ap (λ (k : List ℕ). map opened (map F k)) (take_more order i q l ∙ ap (λ (n : ℕ). take i order ++ n ∷ []) (sym at))
    ∙ ap (map opened) (map-append F (take i order) (q ∷ [])) ∙ map-append opened (map F (take i order)) (F q ∷ [])

pub declared_long : (F : ℕ → Signal) (order : List ℕ) (i : ℕ) → i < length order → length (map opened (map F (take i order))) ≡ i
declared_long F order i l = length-map (map F (take i order)) opened ∙ length-map (take i order) F ∙ length-take-le i order (omega (arith, l))

-- ---- signals that are set one after the other

pub partly_long : (s : ℕ) (gs : List Signal) → length (partly s gs) ≡ length gs
partly_long zero gs = length-map gs opened
partly_long (suc s) [] = refl
partly_long (suc s) (g ∷ gs) = ap suc (partly_long s gs)

pub partly_at : (s : ℕ) (gs : List Signal) (g : Signal) → slice_get gs s ≡ Some g → slice_get (partly s gs) s ≡ Some (opened g)
partly_at zero [] g h = absurd cc
partly_at zero (y ∷ gs) g h = let e : y ≡ g = cc in ap (λ (v : Signal). Some (opened v)) e
partly_at (suc s) [] g h = absurd cc
partly_at (suc s) (y ∷ gs) g h = partly_at s gs g h

pub partly_next : (s : ℕ) (gs : List Signal) (g : Signal) → slice_get gs s ≡ Some g → set_kind (partly s gs) s g.kind ≡ partly (suc s) gs
partly_next zero [] g h = absurd cc
partly_next zero (y ∷ gs) g h = let e : y ≡ g = cc in ap (λ (k : Kind). record { name = y.name; width = y.width; kind = k } ∷ map opened gs) (sym (ap (λ (v : Signal). v.kind) e))
partly_next (suc s) [] g h = absurd cc
partly_next (suc s) (y ∷ gs) g h = ap (λ (l : List Signal). y ∷ l) (partly_next s gs g h)

pub partly_all : (s : ℕ) (gs : List Signal) → length gs ≤ s → partly s gs ≡ gs
partly_all zero [] h = refl
partly_all zero (g ∷ gs) h = absurd (omega (arith, h))
partly_all (suc s) [] h = refl
partly_all (suc s) (g ∷ gs) h = ap (λ (l : List Signal). g ∷ l) (partly_all s gs (omega (arith, h)))

-- the kind that is there stays
pub kind_stays : (gs : List Signal) (s : ℕ) (k : Kind) → s < length gs → kind_in (slice_get gs s) ≡ k → set_kind gs s k ≡ gs
kind_stays [] s k l h = absurd (omega (arith, l))
kind_stays (g ∷ gs) zero k l h = ap (λ (k : Kind). record { name = g.name; width = g.width; kind = k } ∷ gs) (sym h)
kind_stays (g ∷ gs) (suc s) k l h = ap (λ (l : List Signal). g ∷ l) (kind_stays gs s k (omega (arith, l)) h)

-- ---- the signal of a place

module _ {X : Type 0} (g : X → Declaration) (xs : List X) (vs : List Driver) (p : ℕ) (x : X) (u : Driver) (full : length vs ≡ length xs) (l : p < length xs) (is : u ≡ get_or vs p u) where
  pub declared_there : slice_get (map g xs) p ≡ Some (g (get_or xs p x))
  declared_there = slice_get-map g xs p ∙ ap (option_map g) (slice_get-get_or xs p x l)

  pub driver_there : slice_get vs p ≡ Some u
  driver_there = slice_get-get_or vs p u (omega (arith, full, l)) ∙ ap Some (sym is)

  pub signal_there : (ns : List ℕ) → signal_at (map g xs) vs ns p ≡ signal_with ns (g (get_or xs p x)) u
  signal_there ns = ap (λ (o : Option Declaration). signal_in ns o (slice_get vs p)) declared_there ∙ ap (λ (o : Option Driver). signal_in ns (Some (g (get_or xs p x))) o) driver_there

  pub fits_there : AllFit (map g xs) vs → Fits (length (map g xs)) (g (get_or xs p x)).sort (range_width (g (get_or xs p x)).range) u
  fits_there h = h p (g (get_or xs p x)) u declared_there driver_there

  fits_numbers : (numbers : List ℕ) → length numbers ≡ length xs → AllFit (map g xs) vs → Fits (length numbers) (g (get_or xs p x)).sort (range_width (g (get_or xs p x)).range) u
  fits_numbers numbers k h = subst (λ (n : ℕ). Fits n (g (get_or xs p x)).sort (range_width (g (get_or xs p x)).range) u) (length-map xs g ∙ sym k) (fits_there h)

  pub some_width : (numbers : List ℕ) → length numbers ≡ length xs → AllFit (map g xs) vs → (w : ℕ) × Fits (length numbers) (g (get_or xs p x)).sort w u
  some_width numbers k h = (range_width (g (get_or xs p x)).range, fits_numbers numbers k h)

  pub width_there : (widths : List ℕ) → widths ≡ widths_of (map g xs) → slice_index widths p ≡ range_width (g (get_or xs p x)).range
  width_there widths e = ap (λ (w : List ℕ). slice_index w p) e ∙ found_at (λ (d : Declaration). range_width d.range) (map g xs) p (g (get_or xs p x)) 0 declared_there

  pub fits_width : (widths : List ℕ) (w : ℕ) → widths ≡ widths_of (map g xs) → w ≡ slice_index widths p → AllFit (map g xs) vs → (n : ℕ) × Fits n (g (get_or xs p x)).sort w u
  fits_width widths w e f h = (length (map g xs), subst (λ (k : ℕ). Fits (length (map g xs)) (g (get_or xs p x)).sort k u) (sym (f ∙ width_there widths e)) (fits_there h))

  -- one more signal is declared
  pub declares_next : (ns order : List ℕ) (i : ℕ) (old new : Netlist) → i < length order → p ≡ get_or order i p → old ≡ record
      { signals = map opened (signals_at (map g xs) vs ns (take i order)); outputs = [] } → new ≡ with_signal old (opened (signal_with ns (g (get_or xs p x)) u))
      → new ≡ record { signals = map opened (signals_at (map g xs) vs ns (take (i + 1) order)); outputs = [] }
  declares_next ns order i old new k at e f =
      let more = one_more (signal_at (map g xs) vs ns) order i p k at in
      f ∙ ap (λ (n : Netlist). with_signal n (opened (signal_with ns (g (get_or xs p x)) u))) e
      ∙ ap (λ (z : Signal). record { signals = map opened (signals_at (map g xs) vs ns (take i order)) ++ opened z ∷ []; outputs = [] }) (sym (signal_there ns))
      ∙ ap (λ (gs : List Signal). record { signals = gs; outputs = [] }) (sym more)

  -- one more signal is set
  there_in : (ns order : List ℕ) (i : ℕ) → slice_get order i ≡ Some p → slice_get (signals_at (map g xs) vs ns order) i ≡ Some (signal_with ns (g (get_or xs p x)) u)
  there_in ns order i at = slice_get-map (signal_at (map g xs) vs ns) order i ∙ ap (option_map (signal_at (map g xs) vs ns)) at ∙ ap Some (signal_there ns)

  pub opens_there : (ns order : List ℕ) (i : ℕ) (net : Netlist) (os : List (List ℕ × ℕ)) → slice_get order i ≡ Some p → net ≡ record
      { signals = partly i (signals_at (map g xs) vs ns order); outputs = os } → kind_at net i ≡ open_kind (kind_with ns (g (get_or xs p x)).sort u)
  opens_there ns order i net os at e = ap (λ (n : Netlist). kind_at n i) e ∙ ap kind_in
      (partly_at i (signals_at (map g xs) vs ns order) (signal_with ns (g (get_or xs p x)) u) (there_in ns order i at))

  pub sets_next : (ns order : List ℕ) (i : ℕ) (net new : Netlist) (os : List (List ℕ × ℕ)) → slice_get order i ≡ Some p → net ≡ record
      { signals = partly i (signals_at (map g xs) vs ns order); outputs = os } → new ≡ with_kind net i (kind_with ns (g (get_or xs p x)).sort u)
      → new ≡ record { signals = partly (suc i) (signals_at (map g xs) vs ns order); outputs = os }
  sets_next ns order i net new os at e f =
      f ∙ ap (λ (n : Netlist). with_kind n i (kind_with ns (g (get_or xs p x)).sort u)) e
      ∙ ap (λ (gs : List Signal). record { signals = gs; outputs = os }) (partly_next i (signals_at (map g xs) vs ns order) (signal_with ns (g (get_or xs p x)) u) (there_in ns order i at))

-- what is not driven stays
pub input_stays : (net : Netlist) (s : ℕ) (ns : List ℕ) (sort known : Sort) (v : Driver) → kind_with ns known v ≡ Input → sort ≡ known → s < length
    net.signals → kind_at net s ≡ open_kind (kind_with ns sort v) → net ≡ with_kind net s (kind_with ns sort v)
input_stays net s ns sort known v i e l h =
    let k : kind_with ns sort v ≡ Input = ap (λ (z : Sort). kind_with ns z v) e ∙ i in
    let same : open_kind (kind_with ns sort v) ≡ kind_with ns sort v = ap open_kind k ∙ sym k in
    sym (ap (λ (gs : List Signal). record { signals = gs; outputs = net.outputs }) (kind_stays net.signals s (kind_with ns sort v) l (h ∙ same)))
