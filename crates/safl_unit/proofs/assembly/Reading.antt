-- What is read by name in a valuation that fits.
use Rattle.safl_unit.proofs.Common.{IsNetlist, bytes_eq-Decides}
use Rattle.std.proofs.Common.{◌≡◌, ℕ, zero, suc, ◌+◌, List, [], ◌∷◌, Some, Bool, true, false, cond, slice_get, refl, sym, ap, ◌∙◌, arith, bytes_eq}
use Rattle.safl_net.specs.Netlist.{Netlist, Signal, Reg, place}
use Rattle.safl_net.specs.Valuations.{Valuation, signal_word, read, read_next, next_at, next_number, number_at}
use Rattle.safl_net.proofs.Reading.{place_of}

-- ---- names

-- where no earlier signal has the name
place_found : (gs : List Signal) (j s : ℕ) (g : Signal) → slice_get gs s ≡ Some g → ((t : ℕ) (h : Signal) → slice_get gs t ≡ Some h → h.name ≡ g.name → t ≡ s) → place gs g.name j ≡ Some (s + j)
unfolding place
place_found [] j s g e apart = absurd (cc)
place_found (x ∷ gs) j zero g e apart =
    let q : x ≡ g = cc in
    ap (λ b. cond b (Some j) (place gs g.name (suc j))) ((bytes_eq-Decides x.name g.name).1 (ap (λ (y : Signal). y.name) q)) ∙ ap Some (omega arith)
place_found (x ∷ gs) j (suc s) g e apart =
    by (bytes_eq x.name g.name) refl (place_found gs (suc j) s g e (λ t h a n. let r = apart (suc t) h a n in omega (arith, r)))
  where
    by : (b : Bool) → bytes_eq x.name g.name ≡ b → place gs g.name (suc j) ≡ Some (s + suc j) → cond b (Some j) (place gs g.name (suc j)) ≡ Some (suc s + j)
    by true q again = absurd (let r = apart 0 x refl ((bytes_eq-Decides x.name g.name).0 q) in omega (arith, r))
    by false q again = again ∙ ap Some (omega arith)

pub read_is : (n : Netlist) (v : Valuation) (s : ℕ) (g : Signal) (name : List ℕ) → IsNetlist n → slice_get n.signals s ≡ Some g → g.name ≡ name → read n v name ≡ (signal_word n v s).bits
read_is n v s g name w e q = ap (λ x. read n v x) (sym q) ∙ ap (number_at v) (place_of n s g w e)

-- the next number of a register is that of its next signal
pub read_next_is : (n : Netlist) (v : Valuation) (s m width init : ℕ) (name : List ℕ) → IsNetlist n → slice_get n.signals s ≡ Some
    (record { name = name; width = width; kind = Reg init (Some m) }) → read_next n v name ≡ (signal_word n v m).bits
read_next_is n v s m width init name w e = ap (next_at n v) (place_of n s (record { name = name; width = width; kind = Reg init (Some m) }) w e) ∙ ap (next_number v) e
