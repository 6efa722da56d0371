-- Outputs, one after the other.
use Rattle.safl_vread.proofs.Common.{Distinct, Driver, Netlist, Signal, filter, is_output, names, option_map}
use Rattle.std.proofs.Common.{◌≡◌, ℕ, suc, ◌+◌, ◌<◌, ◌≤◌, List, [], ◌∷◌, ◌++◌, length, get_or, map, drop, Some, Bool, true, false, cond, refl, sym}
use Rattle.std.proofs.Common.{ap, ◌∙◌, arith, append_assoc, slice_get, length-append}
use Rattle.std.proofs.lemmas.List.{drop_more, drop_all, append-nil}
use Rattle.std.proofs.lemmas.Option.{slice_get-get_or, slice_get-map}
use Rattle.safl_net.specs.Names.{named_output}
use Rattle.safl_verilog.specs.Files.{Declaration, File}
use Rattle.safl_verilog.specs.Netlists.{output_of}
use Rattle.safl_vread.proofs.NewNames.{output_unnamed}
use Rattle.safl_vread.specs.Nets.{shown_with, output_with, outputs_with, with_outputs}

-- ---- the loop

-- what is made and what is left give all outputs
pub record Shows {X : Type 0} (ns : List ℕ) (g : X → Declaration) (xs : List X) (vs : List Driver) (old now : Netlist) (i : ℕ) : Type 0 where
  pub signals : now.signals ≡ old.signals
  pub outputs : now.outputs ++ outputs_with ns (map g (drop i xs)) (drop i vs) ≡ old.outputs ++ outputs_with ns (map g xs) vs
  pub few : length now.outputs ≤ length old.outputs + i
  pub new : (k : ℕ) (d : Declaration) → i ≤ k → slice_get (map g xs) k ≡ Some d → named_output now.outputs d.name.bytes ≡ false

output_few : (ns : List ℕ) (d : Declaration) (v : Driver) → length (output_with ns d v) ≤ 1
output_few ns d v = by (is_output d.sort)
  where
    by : (b : Bool) → length {A = List ℕ × ℕ} (cond b ((d.name.bytes, shown_with ns v) ∷ []) []) ≤ 1
    by true = omega arith
    by false = omega arith

pub begins_outputs : {X : Type 0} (ns : List ℕ) (g : X → Declaration) (xs : List X) (vs : List Driver) (old : Netlist) → old.outputs ≡ [] → Shows ns g xs vs old old 0
begins_outputs ns g xs vs old e = record { signals = refl; outputs = refl; few = omega arith; new = λ k d l h. ap (λ (os : List (List ℕ × ℕ)). named_output os d.name.bytes) e }

module _ {X : Type 0} (ns : List ℕ) (g : X → Declaration) (xs : List X) (vs : List Driver) (old now new : Netlist) (i : ℕ) (x : X) (v : Driver) (full : length vs ≡ length xs) where
  pub goes_on_outputs : i < length xs → Distinct (names (map g xs)) → Shows ns g xs vs old now i → new ≡ with_outputs now
      (output_with ns (g (get_or xs i x)) (get_or vs i v)) → Shows ns g xs vs old new (i + 1)
  goes_on_outputs l a h e =
      let here : List (List ℕ × ℕ) = output_with ns (g (get_or xs i x)) (get_or vs i v) in
      let rest : List (List ℕ × ℕ) = outputs_with ns (map g (drop (i + 1) xs)) (drop (i + 1) vs) in
      let q : drop i xs ≡ get_or xs i x ∷ drop (i + 1) xs = drop_more xs i x l in
      let b : drop i vs ≡ get_or vs i v ∷ drop (i + 1) vs = drop_more vs i v (omega (arith, l, full)) in
      let parted : outputs_with ns (map g (drop i xs)) (drop i vs) ≡ here ++ rest = ap (λ (k : List X). outputs_with ns (map g k) (drop i vs)) q ∙ ap
      (λ (k : List Driver). outputs_with ns (g (get_or xs i x) ∷ map g (drop (i + 1) xs)) k) b in
      let made : new.outputs ≡ now.outputs ++ here = ap (λ (n : Netlist). n.outputs) e in
      record {
        signals = ap (λ (n : Netlist). n.signals) e ∙ h.signals;
        outputs = ap (λ (k : List (List ℕ × ℕ)). k ++ rest) made ∙ append_assoc now.outputs here rest ∙ sym (ap (λ (k : List (List ℕ × ℕ)). now.outputs ++ k) parted) ∙ h.outputs;
        few = omega (arith, ap length made, length-append now.outputs here, output_few ns (g (get_or xs i x)) (get_or vs i v), h.few);
        new = λ k d m there.
            ap (λ (os : List (List ℕ × ℕ)). named_output os d.name.bytes) made
            ∙ output_unnamed (map g xs) a ns now.outputs (g (get_or xs i x)) d (get_or vs i v) i k
            (slice_get-map g xs i ∙ ap (option_map g) (slice_get-get_or xs i x l)) there m (h.new k d (omega (arith, m)) there);
      }

  pub ends_outputs : length xs ≤ i → Shows ns g xs vs old now i → now ≡ with_outputs old (outputs_with ns (map g xs) vs)
  ends_outputs l h =
      let none : outputs_with ns (map g (drop i xs)) (drop i vs) ≡ [] = ap (λ (k : List X). outputs_with ns (map g k) (drop i vs)) (drop_all i xs l) in
      let all : now.outputs ≡ old.outputs ++ outputs_with ns (map g xs) vs = sym (append-nil now.outputs) ∙ sym (ap (λ (k : List (List ℕ × ℕ)). now.outputs ++ k) none) ∙ h.outputs in
      ap (λ (k : List Signal). record { signals = k; outputs = now.outputs }) h.signals ∙ ap (λ (k : List (List ℕ × ℕ)). record { signals = old.signals; outputs = k }) all

-- ---- what they are

pub outputs_are : (f : File) (ns : List ℕ) (ds : List Declaration) (vs : List Driver) → length vs ≡ length ds
    → ((i : ℕ) (d : Declaration) (v : Driver) → slice_get ds i ≡ Some d → slice_get vs i ≡ Some v → output_with ns d v ≡ cond (is_output d.sort) (output_of f d ∷ []) [])
    → outputs_with ns ds vs ≡ map (output_of f) (filter (λ (d : Declaration). is_output d.sort) ds)
outputs_are f ns [] vs l h = refl
outputs_are f ns (d ∷ ds) [] l h = absurd cc
outputs_are f ns (d ∷ ds) (v ∷ vs) l h =
    ap (λ (k : List (List ℕ × ℕ)). k ++ outputs_with ns ds vs) (h 0 d v refl refl)
    ∙ ap (λ (k : List (List ℕ × ℕ)). cond (is_output d.sort) (output_of f d ∷ []) [] ++ k) (outputs_are f ns ds vs (omega (arith, l)) (λ i e u a b. h (suc i) e u a b))
    ∙ by (is_output d.sort)
  where
    by : (b : Bool) → cond b (output_of f d ∷ []) [] ++ map (output_of f) (filter (λ (d : Declaration). is_output d.sort) ds) ≡ map (output_of f)
        (cond b (d ∷ filter (λ (d : Declaration). is_output d.sort) ds) (filter (λ (d : Declaration). is_output d.sort) ds))
    by true = refl
    by false = refl
