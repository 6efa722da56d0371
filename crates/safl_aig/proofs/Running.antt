-- What mirrors each cycle mirrors runs.
use Rattle.std.proofs.Common.{◌≡◌, ℕ, zero, suc, ◌+◌, List, [], ◌∷◌, ◌++◌, map, length, Bool, true, false, cond, Option, Some, None, slice_get, slice_index, refl, sym, ap, ◌∙◌, arith, length-append}
use Rattle.std.specs.List.{AllZip}
use Rattle.safl_net.specs.Netlist.{Netlist, Signal, Kind, Input, Reg, Wire, width_of, is_register}
use Rattle.safl_net.specs.Making.{kind_at, kind_in}
use Rattle.safl_net.specs.Valuations.{Valuation, Fits, Holds, reset_state, next_state}
use Rattle.safl_aiger.specs.Literals.{Assignment, bits_of}
use Rattle.safl_aiger.specs.Circuits.{Circuit, latches}
use Rattle.safl_aiger.specs.Runs.{RunsFrom, all_false, next_bits}
use Rattle.safl_aiger.specs.Runs.{FitsCircuit as Suits}
use Rattle.safl_aiger.proofs.Evaluating.{false_long}
use Rattle.safl_aig.specs.Bits.{gathered, of_kind, for_registers, signal_bits}
use Rattle.safl_aig.specs.Mirrors.{Mirrors, SameBits, EqualBits, RunsOn, given_bits}
use Rattle.safl_aig.proofs.Gathering.{gathered_same}

-- in a valuation that fits a state the registers have its bits
registers_fit : (n : Netlist) (state : ℕ → ℕ) (v : Valuation) → Fits n state v → for_registers n (signal_bits n state) ≡ for_registers n (signal_bits n (slice_index v))
registers_fit n state v f = gathered_same (of_kind is_register n (signal_bits n state)) (of_kind is_register n (signal_bits n (slice_index v)))
    (length n.signals) (λ s l. at s (slice_get n.signals s) refl)
  where
    on_kind : (s : ℕ) (k : Kind) → Holds n v (state s) (slice_index v s) k → cond (is_register k) (signal_bits n state s) [] ≡ cond (is_register k) (signal_bits n (slice_index v) s) []
    on_kind s Input h = refl
    on_kind s (Reg init next) h = ap (bits_of (width_of n s)) (sym h)
    on_kind s (Wire cell) h = refl

    at : (s : ℕ) (o : Option Signal) → slice_get n.signals s ≡ o → cond (is_register (kind_in o)) (signal_bits n state s) [] ≡ cond (is_register (kind_in o)) (signal_bits n (slice_index v) s) []
    at s None e = refl
    at s (Some g) e = on_kind s g.kind (f.each s g e).1

no_bits : (w : ℕ) → bits_of w 0 ≡ all_false w
no_bits zero = refl
no_bits (suc w) = ap (λ l. false ∷ l) (no_bits w)

false-append : (a b : ℕ) → all_false a ++ all_false b ≡ all_false (a + b)
false-append zero b = ap all_false (let z : b ≡ 0 + b = omega arith in z)
false-append (suc a) b = ap (λ l. false ∷ l) (false-append a b) ∙ ap all_false (let z : suc (a + b) ≡ suc a + b = omega arith in z)

-- where all registers are 0, their bits are
zeros : (n : Netlist) (f : ℕ → ℕ) → ((s : ℕ) → f s ≡ 0) → (k : ℕ) → gathered (of_kind is_register n (signal_bits n f)) k ≡ all_false (length (gathered (of_kind is_register n (signal_bits n f)) k))
zeros n f h zero = refl
zeros n f h (suc k) =
    let e = zeros n f h k in
    let o = one (is_register (kind_at n k)) in
    (λ i. e i ++ o i) ∙ false-append (length (gathered (of_kind is_register n (signal_bits n f)) k))
    (length (of_kind is_register n (signal_bits n f) k)) ∙ ap all_false
    (sym (length-append (gathered (of_kind is_register n (signal_bits n f)) k) (of_kind is_register n (signal_bits n f) k)))
  where
    word : signal_bits n f k ≡ all_false (length (signal_bits n f k))
    word = let z = ap (bits_of (width_of n k)) (h k) ∙ no_bits (width_of n k) in z ∙ ap all_false (sym (ap length z ∙ false_long (width_of n k)))

    one : (b : Bool) → cond b (signal_bits n f k) [] ≡ all_false (length (cond b (signal_bits n f k) []))
    one true = word
    one false = refl

goes : (n : Netlist) (a : Circuit) → Mirrors n a → (state : ℕ → ℕ) (held : List Bool) → held ≡ for_registers n (signal_bits n state) →
    (vs : List Valuation) (ms : List Assignment) → RunsOn n state vs → RunsFrom a held (map (given_bits n) vs) ms → AllZip (EqualBits n a) vs ms
goes n a h state held e [] [] r q = tt
goes n a h state held e [] (m ∷ ms) r q = absurd q
goes n a h state held e (v ∷ vs) [] r q = absurd q
goes n a h state held e (v ∷ vs) (m ∷ ms) r q =
    let f : Suits a held (given_bits n v) m = q.0 in
    let l = f.latches ∙ e ∙ registers_fit n state v r.0 in (
      record { registers = l; outputs = h.outputs state v m r.0 f.wired f.inputs l },
      goes n a h (next_state n v) (next_bits a m) (h.nexts state v m r.0 f.wired f.inputs l) vs ms r.1 q.1,
    )

pub law : (n : Netlist) (a : Circuit) → Mirrors n a → SameBits n a
law n a h vs ms r q = goes n a h (reset_state n) (all_false (latches a)) (ap all_false h.count ∙ sym (zeros n (reset_state n) h.resets (length n.signals))) vs ms r q
