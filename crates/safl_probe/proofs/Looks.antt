-- What is watched, one signal more at a time, and what is seen of it.
use Rattle.safl_probe.proofs.Common.{Entry, Word, get_some, watched_all, watched_in}
use Rattle.std.proofs.Common.{◌≡◌, ℕ, zero, suc, ◌<◌, List, [], ◌∷◌, ◌++◌, length, map, Option, Some, None, slice_get, slice_index, refl, sym, ap, ◌∙◌}
use Rattle.std.specs.Prelude.{option_map}
use Rattle.safl_word.proofs.Options.{both_halves}
use Rattle.safl_net.specs.Netlist.{Netlist, Signal, width_of, width_in}
use Rattle.safl_net.specs.Making.{kind_at, name_at, kind_in, name_in}

-- a signal by its name, width and kind
pub signal_there : (n : Netlist) (i : ℕ) → i < length n.signals → slice_get n.signals i ≡ Some (record { name = name_at n i; width = width_of n i; kind = kind_at n i })
signal_there n i within =
    let g = get_some n.signals i within in
    g.1 ∙ ap Some (sym (ap (λ (o : Option Signal). let s : Signal = record { name = name_in o; width = width_in o; kind = kind_in o } in s) g.1))

-- an output by its name and signal, which is one of the net
pub output_there : (n : Netlist) (i : ℕ) (name : List ℕ) (s : ℕ) → Some name ≡ option_map (λ x. x.0) (slice_get n.outputs i) → Some s ≡ option_map
    (λ x. x.1) (slice_get n.outputs i) → slice_get n.outputs i ≡ Some (name, s)
output_there n i name s a b = both_halves (slice_get n.outputs i) name s a b

-- one more entry
pub pushed : (es : List Entry) (e : Entry) → watched_all (es ++ e ∷ []) ≡ watched_all es ++ watched_in e ∷ []
pushed [] e = refl
pushed (d ∷ es) e = ap (λ l. watched_in d ∷ l) (pushed es e)

-- the number of a word in a frame
pub number_of : (words : List Word) (i : ℕ) (w : Word) → slice_get words i ≡ Some w → w.bits ≡ slice_index (map (λ (u : Word). u.bits) words) i
number_of [] i w at = absurd (cc)
number_of (u ∷ words) zero w at = let same : u ≡ w = cc in sym (ap (λ (x : Word). x.bits) same)
number_of (u ∷ words) (suc i) w at = number_of words i w at

pub number_none : (words : List Word) (i : ℕ) → slice_get words i ≡ None → 0 ≡ slice_index (map (λ (u : Word). u.bits) words) i
number_none [] i at = refl
number_none (u ∷ words) zero at = absurd (cc)
number_none (u ∷ words) (suc i) at = number_none words i at
