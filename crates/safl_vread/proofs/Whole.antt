-- The whole net is the netlist of the file.
use Rattle.safl_vread.proofs.Common.{AreNumbers, Driver, IsFileText, IsOrder, Reads, Sort, append_empty, declared_names, each_at, filter}
use Rattle.safl_vread.proofs.Common.{flat_map, later_faults, slice_get-get_or, slice_get_within}
use Rattle.std.proofs.Common.{◌≡◌, ℕ, ◌<◌, List, [], ◌∷◌, ◌++◌, length, get_or, map, cond, Option, Some, codes, refl, sym, ap, subst, ◌∙◌, arith, slice_get}
use Rattle.safl_net.specs.Netlist.{Netlist, Signal, place}
use Rattle.safl_net.specs.Whole.{IsWhole}
use Rattle.safl_net.proofs.EachOf.{no_parts}
use Rattle.safl_verilog.specs.declared.token.Sort.TheVariants as sorts
use Rattle.safl_verilog.specs.Files.{Declaration, File}
use Rattle.safl_verilog.specs.Faults.{is_output, range_width, faults, missing_faults, all_number_faults, repeat_faults, all_port_faults, all_statement_faults}
use Rattle.safl_verilog.specs.Netlists.{netlist, signals_of, signal_of, output_of}
use Rattle.safl_vread.specs.declared.driver.Driver.TheVariants as driver
use Rattle.safl_vread.specs.Drivers.{Drives, HasDrivers}
use Rattle.safl_vread.proofs.FaultsOfFile.{parted}
use Rattle.safl_vread.proofs.WholeFiles.{reads_whole}
use Rattle.safl_vread.specs.Nets.{Fits, AllFit, AllSuit, signal_in, signal_at, signals_at, shown_with, outputs_with, with_outputs}
use Rattle.safl_vread.proofs.Suiting.{all_suit}
use Rattle.safl_vread.proofs.Driven.{all_fit, signal_is, shown_is}
use Rattle.safl_vread.proofs.Outputs.{outputs_are}

mapped : (at : ℕ → Option Declaration) (F : ℕ → Signal) (G : Declaration → Signal) → ((p : ℕ) (d : Declaration) → at p ≡ Some d → F p ≡ G d) →
    (order : List ℕ) (xs : List Declaration) → map at order ≡ map Some xs → map F order ≡ map G xs
mapped at F G h [] [] e = refl
mapped at F G h [] (x ∷ xs) e = absurd cc
mapped at F G h (p ∷ order) [] e = absurd cc
mapped at F G h (p ∷ order) (x ∷ xs) e =
    let here : at p ≡ Some x = cc in
    let rest : map at order ≡ map Some xs = cc in
    ap (λ (g : Signal). g ∷ map F order) (h p x here) ∙ ap (λ (l : List Signal). G x ∷ l) (mapped at F G h order xs rest)

module _ (f : File) (vs : List Driver) (order ns : List ℕ) (h : HasDrivers f.declarations f.statements vs) (fit : AllFit f.declarations vs) (n : AreNumbers f.declarations order ns) where
  signal_here : (p : ℕ) (d : Declaration) → slice_get f.declarations p ≡ Some d → signal_at f.declarations vs ns p ≡ signal_of f d
  signal_here p d e =
      let v : Driver = get_or vs p driver.Open in
      let l : p < length vs = omega (arith, slice_get_within f.declarations p d e, h.full) in
      let there : slice_get vs p ≡ Some v = slice_get-get_or vs p driver.Open l in
      ap (λ (o : Option Declaration). signal_in ns o (slice_get vs p)) e ∙ ap (λ (o : Option Driver). signal_in ns (Some d) o) there
      ∙ signal_is f order ns n (length f.declarations) d v (h.each p d v e there) (fit p d v e there)

  output_sort : (s : Sort) (d : Declaration) (v : Driver) → d.sort ≡ s → Drives f.declarations f.statements d v → Fits (length f.declarations) d.sort
      (range_width d.range) v → cond (is_output s) ((d.name.bytes, shown_with ns v) ∷ []) [] ≡ cond (is_output s) (output_of f d ∷ []) []
  output_sort sorts.Input d v e a b = refl
  output_sort sorts.Output d v e a b = ap (λ (k : ℕ). (d.name.bytes, k) ∷ []) (shown_is f order ns n d v e a b)
  output_sort sorts.Reg d v e a b = refl
  output_sort sorts.Wire d v e a b = refl

  pub whole_net : IsOrder f.declarations order → record { signals = signals_at f.declarations vs ns order; outputs = outputs_with ns f.declarations vs } ≡ netlist f
  unfolding netlist
  whole_net o =
      let a : signals_at f.declarations vs ns order ≡ map (signal_of f) (signals_of f.declarations) = mapped (slice_get f.declarations)
      (signal_at f.declarations vs ns) (signal_of f) signal_here order (signals_of f.declarations) o in
      let b : outputs_with ns f.declarations vs ≡ map (output_of f) (filter (λ (d : Declaration). is_output d.sort) f.declarations) =
      outputs_are f ns f.declarations vs h.full (λ i d v x y. output_sort d.sort d v refl (h.each i d v x y) (fit i d v x y)) in
      ap (λ (k : List Signal). record { signals = k; outputs = outputs_with ns f.declarations vs }) a
      ∙ ap (λ (k : List (List ℕ × ℕ)). record { signals = map (signal_of f) (signals_of f.declarations); outputs = k }) b

-- a file that reads as a netlist has a signal
pub some_signal : (f : File) → IsWhole (netlist f) → 0 < length (signals_of f.declarations)
unfolding netlist place
some_signal f h = by (signals_of f.declarations) h.start.signal h.start.at
  where
    by : (ds : List Declaration) (s : ℕ) → place (map (signal_of f) ds) (codes "start") 0 ≡ Some s → 0 < length ds
    by [] s e = absurd cc
    by (d ∷ ds) s e = omega arith

-- the net after the stages, which read the numbers and the order by references
pub net_whole : (f : File) (ds : List Declaration) (vs : List Driver) (ns order : List ℕ) (declared connected shown : Netlist)
    (ns1 ns2 order1 : List ℕ) → f.declarations ≡ ds → HasDrivers f.declarations f.statements vs → AllFit ds vs → AreNumbers ds order ns → IsOrder ds order
    → ns1 ≡ ns → ns2 ≡ ns → order1 ≡ order → declared.outputs ≡ [] → connected ≡ record
    { signals = signals_at ds vs ns1 order1; outputs = declared.outputs } → shown ≡ with_outputs connected (outputs_with ns2 ds vs) → shown ≡ netlist f
net_whole f ds vs ns order declared connected shown ns1 ns2 order1 e h fit n o a b q none c s =
    let made : List Signal = signals_at ds vs ns order in
    let same : signals_at ds vs ns1 order1 ≡ made = ap (λ (k : List ℕ). signals_at ds vs k order1) a ∙ ap (signals_at ds vs ns) q in
    let two : connected ≡ record { signals = made; outputs = [] } = c ∙ ap (λ (k : List Signal). record { signals = k; outputs = declared.outputs })
    same ∙ ap (λ (k : List (List ℕ × ℕ)). record { signals = made; outputs = k }) none in
    let three : shown ≡ record { signals = made; outputs = outputs_with ns ds vs } = s ∙ ap
    (λ (k : List ℕ). with_outputs connected (outputs_with k ds vs)) b ∙ ap (λ (m : Netlist). with_outputs m (outputs_with ns ds vs)) two in
    three
    ∙ ap (λ (x : List Declaration). record { signals = signals_at x vs ns order; outputs = outputs_with ns x vs }) (sym e)
    ∙ whole_net f vs order ns h (subst (λ (x : List Declaration). AllFit x vs) (sym e) fit)
    (subst (λ (x : List Declaration). AreNumbers x order ns) (sym e) n) (subst (λ (x : List Declaration). IsOrder x order) (sym e) o)

-- ---- from the text

-- no name of a file without faults is left open
pub none_missing : (f : File) → faults f ≡ [] → (i : ℕ) (d : Declaration) → slice_get f.declarations i ≡ Some d → missing_faults f.statements d ≡ []
none_missing f h i d at =
    let a = append_empty (all_number_faults f) _ (sym (parted f) ∙ h) in
    let b = append_empty (repeat_faults [] f.header) _ a.1 in
    let c = append_empty (repeat_faults [] (declared_names f.declarations)) (later_faults f) b.1 in
    let e = append_empty (all_port_faults f ++ all_statement_faults f.declarations [] f.statements) (flat_map (missing_faults f.statements) f.declarations) c.1 in
    each_at (λ (d : Declaration). missing_faults f.statements d ≡ []) f.declarations i d (no_parts (missing_faults f.statements) f.declarations e.1) at

pub file_reads : (text : List ℕ) (f : File) → IsFileText text f → faults f ≡ [] → Reads text (netlist f)
file_reads text f d h = record { tokens = d.tokens; cut = d.cut; file = f; derived = d.derived; kept = h; means = refl }

pub text_fits : (f : File) (ds : List Declaration) (vs us : List Driver) → f.declarations ≡ ds → us ≡ vs → faults f ≡ [] → HasDrivers f.declarations f.statements vs → AllFit ds us
text_fits f ds vs us e u h k = subst (λ (x : List Declaration). AllFit x us) e
    (subst (λ (x : List Driver). AllFit f.declarations x) (sym u) (all_fit f.declarations f.statements vs k (none_missing f h)))

pub text_suits : (f : File) (ds : List Declaration) (vs us : List Driver) → f.declarations ≡ ds → us ≡ vs → HasDrivers f.declarations f.statements vs → AllSuit ds us
text_suits f ds vs us e u k = subst (λ (x : List Declaration). AllSuit x us) e (subst (λ (x : List Driver). AllSuit f.declarations x) (sym u) (all_suit f.declarations f.statements vs k))

pub text_some : (text : List ℕ) (f : File) (ds : List Declaration) → f.declarations ≡ ds → IsFileText text f → faults f ≡ [] → 0 < length (signals_of ds)
text_some text f ds e d h = subst (λ (x : List Declaration). 0 < length (signals_of x)) e (some_signal f (reads_whole text (netlist f) (file_reads text f d h)))

pub text_whole : (text : List ℕ) (f : File) (ds : List Declaration) (vs us : List Driver) (n : Netlist) → f.declarations ≡ ds → us ≡ vs → IsFileText
    text f → faults f ≡ [] → HasDrivers f.declarations f.statements vs
    → ((g : File) → g.declarations ≡ ds → HasDrivers g.declarations g.statements us → n ≡ netlist g) → IsWhole n
text_whole text f ds vs us n e u d h k by =
    subst IsWhole (sym (by f e (subst (λ (x : List Driver). HasDrivers f.declarations f.statements x) (sym u) k))) (reads_whole text (netlist f) (file_reads text f d h))
