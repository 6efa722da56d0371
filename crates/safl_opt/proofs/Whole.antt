-- The net that is built is what is wanted.
use Rattle.safl_opt.proofs.Common.{Different, Folds, IsAcyclic, IsNetlist, IsOrder, IsSmaller, Sig, Values, kind_in, place_of, sig_at}
use Rattle.std.proofs.Common.{◌≡◌, ℕ, List, [], ◌∷◌, map, length, Option, Some, None, Bool, true, false, IsSome, is_some, bytes_eq, cond, refl, sym, ap, ◌∙◌}
use Rattle.std.specs.Prelude.{codes}
use Rattle.safl_net.specs.Netlist.{Netlist, Kind, Input, Reg, Wire, AllSet, width_in, width_of, place, output_place}
use Rattle.safl_net.specs.Names.{is_temp, IsTidy}
use Rattle.safl_net.specs.Whole.{IsWhole}
use Rattle.safl_net.specs.Mirrors.{Line, outputs_in, Alike}
use Rattle.safl_opt.specs.Building.{AreRead, AreNeeded, Builds}
use Rattle.safl_net.proofs.MirrorsRunAlike.{run_alike}
use Rattle.safl_opt.proofs.Standing.{SameSort, Stands, found, stands_mirrors}
use Rattle.safl_opt.proofs.Built.{back, acyclic}
use Rattle.safl_opt.proofs.Leaning.{lean_built}
use Rattle.safl_opt.proofs.Matching.{stands, all_set}
use Rattle.safl_opt.proofs.Interface.{laid_out, alike}

-- ---- ports

-- the output of a name, with its width, in a list of lines
line_width : List Line → List ℕ → Option ℕ
line_width [] name = None
line_width (l ∷ ls) name = cond (bytes_eq l.0 name) (Some l.1) (line_width ls name)

with_width : Netlist → Option ℕ → Option ℕ
with_width n None = None
with_width n (Some s) = Some (width_of n s)

output_line : (n : Netlist) (name : List ℕ) → line_width (outputs_in n) name ≡ with_width n (output_place n.outputs name)
unfolding line_width with_width
output_line n name = by n.outputs
  where
    by : (os : List (List ℕ × ℕ)) → line_width (map (λ o. (o.0, width_of n o.1)) os) name ≡ with_width n (output_place os name)
    by [] = refl
    by (o ∷ os) = one (bytes_eq o.0 name) (by os)
      where
        one : (c : Bool) → line_width (map (λ o. (o.0, width_of n o.1)) os) name ≡ with_width n (output_place os name)
            → cond c (Some (width_of n o.1)) (line_width (map (λ o. (o.0, width_of n o.1)) os) name) ≡ with_width n (cond c (Some o.1) (output_place os name))
        one true e = refl
        one false e = e

output_there : (n m : Netlist) → Alike n m → (name : List ℕ) (s : ℕ) → output_place n.outputs name ≡ Some s → (t : ℕ) × (output_place m.outputs name ≡ Some t) × (width_of m t ≡ width_of n s)
unfolding with_width
output_there n m a name s e = by (output_place m.outputs name) refl (sym (output_line m name) ∙ ap (λ l. line_width l name) a.outputs ∙ output_line n name ∙ ap (with_width n) e)
  where
    by : (o : Option ℕ) → output_place m.outputs name ≡ o → with_width m o ≡ Some (width_of n s) → (t : ℕ) × (output_place m.outputs name ≡ Some t) × (width_of m t ≡ width_of n s)
    by None q h = absurd (cc)
    by (Some t) q h = (t, q, (cc))

some_there : (n : Netlist) (name : List ℕ) → IsSome (output_place n.outputs name) → (s : ℕ) × (output_place n.outputs name ≡ Some s)
some_there n name h = by (output_place n.outputs name) refl h
  where
    by : (o : Option ℕ) → output_place n.outputs name ≡ o → IsSome o → (s : ℕ) × (output_place n.outputs name ≡ Some s)
    by None q k = absurd (cc)
    by (Some s) q k = (s, q)

whole_kept : (n m : Netlist) → IsNetlist m → Alike n m → AllSet m → (bk fr : ℕ → ℕ) → Stands n m bk fr → IsWhole n → IsWhole m
whole_kept n m km a set bk fr st w =
    let g = found n (codes "start") w.start.signal w.start.at in
    let r = st.old w.start.signal g.0 g.1 (ap is_temp g.2) in
    let d = output_there n m a (codes "done") w.done.signal w.done.at in
    let s = some_there n (codes "result") w.result in
    let t = output_there n m a (codes "result") s.0 s.1 in
    record {
      set = set;
      start = record {
        signal = fr w.start.signal;
        at = ap (λ x. place m.signals x 0) (sym (r.1.name ∙ g.2)) ∙ place_of m (fr w.start.signal) r.0 km r.1.new;
        input = ap kind_in r.1.new ∙ is_input g.0.kind r.0.kind (sym (ap kind_in g.1) ∙ w.start.input) r.1.sort;
        bit = ap width_in r.1.new ∙ r.1.width ∙ sym (ap width_in g.1) ∙ w.start.bit;
      };
      done = record { signal = d.0; at = d.1; bit = d.2 ∙ w.done.bit };
      result = ap is_some t.1;
    }
  where
    is_input : (k j : Kind) → k ≡ Input → SameSort k j → j ≡ Input
    is_input Input Input e s = refl
    is_input Input (Reg i p) e s = absurd s
    is_input Input (Wire c) e s = absurd s
    is_input (Reg i p) j e s = absurd (cc)
    is_input (Wire c) j e s = absurd (cc)

-- ---- all of it

pub smaller : (n : Netlist) → IsNetlist n → IsTidy n → (ws : List ℕ) → IsOrder n ws → IsAcyclic n → (f : Values) → Folds n ws (length ws) f →
    Different f.nodes → (read : List Bool) → AreRead n f read → AreNeeded n f read
    → (made : List Sig) (m : Netlist) → Builds n f read made m → IsNetlist m → IsTidy m → IsSmaller n m
smaller n kn tidy ws order ac f h different read marks needed made m b km tidy_m =
    let st = stands n kn ws order f h read marks made m b needed different tidy in
    let set = all_set n kn ws order f h read marks made m b needed different tidy in
    let acm = acyclic n kn ws order f h read marks made m b in
    let al = alike n kn ws order f h read marks made m b needed different tidy in
    let mirrors = stands_mirrors n m kn km order.set set ac acm (back n kn ws order f h read marks made m b) (λ s. sig_at f.ids.items s) st in
    record {
      alike = al;
      mirrors = mirrors;
      runs = run_alike n m kn km tidy order.set ac al mirrors;
      laid_out = laid_out n kn ws order f h read marks made m b needed different tidy;
      tidy = tidy_m;
      set = set;
      acyclic = acm;
      whole = whole_kept n m km al set (back n kn ws order f h read marks made m b) (λ s. sig_at f.ids.items s) st;
      lean = lean_built n kn ws order f h read marks made m b needed different;
    }
