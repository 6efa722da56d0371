-- A connected net is mirrored.
use Rattle.safl_aig.proofs.Common.{AllZero, Connected, Gates, Lit, Pins, length-map, next_lits, next_sig, output_lits}
use Rattle.std.proofs.Common.{◌≡◌, ℕ, zero, suc, ◌+◌, ◌<◌, ◌^◌, List, [], ◌∷◌, ◌++◌, length, Bool, true, false, cond, Option, Some, None, slice_get}
use Rattle.std.proofs.Common.{slice_index, unwrap_or, refl, sym, ap, ◌∙◌, subst, arith}
use Rattle.safl_net.specs.Netlist.{Netlist, Signal, Kind, Input, Reg, Wire, IsSet, AllSet, width_in, width_of, is_input, is_register}
use Rattle.safl_net.specs.Valuations.{Valuation, Fits, reset_state, next_state, next_number, kind_next}
use Rattle.safl_net.specs.Making.{kind_at, kind_in, sort_of, next_in}
use Rattle.safl_net.specs.Rules.{IsNetlist, KindFits}
use Rattle.safl_order.specs.Order.{IsWire}
use Rattle.safl_aiger.specs.Literals.{Assignment, on, values, number, shown, bits_of}
use Rattle.safl_aiger.specs.Circuits.{Circuit, latches, base}
use Rattle.safl_aiger.specs.Runs.{Wired, variable_bits, input_bits, latch_bits}
use Rattle.safl_bits.specs.Gates.{Holds as Shows}
use Rattle.safl_bits.proofs.Numbers.{tell, bits_long, number_bits}
use Rattle.safl_aig.specs.Bits.{gathered, of_kind, for_registers, output_at, signal_bits}
use Rattle.safl_aig.specs.Mirrors.{Mirrors, given_bits}
use Rattle.safl_aig.specs.Tables.{lits_at, Agrees, variable_lits, width_if, bits_before, input_count, latch_count, kind_lits}
use Rattle.safl_aig.proofs.Gathering.{gathered_same, gathered_map, gathered_long, gathered_split, summed_same}
use Rattle.safl_aig.proofs.Nets.{output_known}
use Rattle.safl_aig.proofs.Sources.{variable_values}

variable_long : (m : Assignment) (first k : ℕ) → length (variable_bits m first k) ≡ k
variable_long m first zero = refl
variable_long m first (suc k) = ap suc (variable_long m (suc first) k)

bits-append : (m : Assignment) (first a b : ℕ) → variable_bits m first (a + b) ≡ variable_bits m first a ++ variable_bits m (first + a) b
bits-append m first zero b = λ i. variable_bits m ((let z : first ≡ first + 0 = omega arith in z) i) ((let z : 0 + b ≡ b = omega arith in z) i)
bits-append m first (suc a) b =
    ap (variable_bits m first) (let z : suc a + b ≡ suc (a + b) = omega arith in z) ∙ ap (λ l. m first ∷ l) (bits-append m (suc first) a b)
    ∙ (λ i. m first ∷ (variable_bits m (suc first) a ++ variable_bits m ((let z : suc first + a ≡ first + suc a = omega arith in z) i) b))

-- the variables of the signals of a kind, signal by signal
abbrev own_bits : Assignment → ℕ → (Kind → Bool) → Netlist → ℕ → List Bool
own_bits m first test n s = variable_bits m (first + bits_before test n s) (width_of n s)

given_parts : (m : Assignment) (first : ℕ) (test : Kind → Bool) (n : Netlist) (k : ℕ) → variable_bits m first (bits_before test n k) ≡ gathered (of_kind test n (own_bits m first test n)) k
given_parts m first test n zero = refl
given_parts m first test n (suc k) =
    bits-append m first (bits_before test n k) (width_if test n k) ∙ (λ i. given_parts m first test n k i ++ one (test (kind_at n k)) i)
  where
    one : (b : Bool) → variable_bits m (first + bits_before test n k) (cond b (width_of n k) 0) ≡ cond b (own_bits m first test n k) []
    one true = refl
    one false = refl

same_long : (m : Assignment) (first : ℕ) (test : Kind → Bool) (n : Netlist) (f : ℕ → ℕ) (s : ℕ) → length (of_kind test n (own_bits m first test n) s) ≡ length (of_kind test n (signal_bits n f) s)
same_long m first test n f s = one (test (kind_at n s))
  where
    one : (b : Bool) → length (cond b (own_bits m first test n s) []) ≡ length (cond b (signal_bits n f s) [])
    one true = variable_long m (first + bits_before test n s) (width_of n s) ∙ sym (bits_long (width_of n s) (f s))
    one false = refl

-- variables that have the bits of the signals of a kind have those of each
own : (m : Assignment) (first : ℕ) (test : Kind → Bool) (n : Netlist) (f : ℕ → ℕ) → variable_bits m first (bits_before test n (length n.signals)) ≡
    gathered (of_kind test n (signal_bits n f)) (length n.signals)
    → (s : ℕ) → s < length n.signals → test (kind_at n s) ≡ true → own_bits m first test n s ≡ signal_bits n f s
own m first test n f e s l t =
    let p = gathered_split (of_kind test n (own_bits m first test n)) (of_kind test n (signal_bits n f)) (length n.signals)
    (λ k h. same_long m first test n f k) (sym (given_parts m first test n (length n.signals)) ∙ e) s l in
    sym (ap (λ b. cond b (own_bits m first test n s) []) t) ∙ p ∙ ap (λ b. cond b (signal_bits n f s) []) t

fits_width : (n : Netlist) (state : ℕ → ℕ) (v : Valuation) (s : ℕ) → Fits n state v → s < length n.signals → slice_index v s < 2 ^ width_of n s
fits_width n state v s f l = by (slice_get n.signals s) refl
  where
    some : (gs : List Signal) (k : ℕ) → k < length gs → slice_get gs k ≡ None → ⊥
    some [] k h e = omega (arith, h)
    some (g ∷ gs) zero h e = cc
    some (g ∷ gs) (suc k) h e = some gs k (omega (arith, h)) e

    by : (o : Option Signal) → slice_get n.signals s ≡ o → slice_index v s < 2 ^ width_of n s
    by None e = absurd (some n.signals s l e)
    by (Some g) e = subst (λ w. slice_index v s < 2 ^ w) (sym (ap width_in e)) (f.each s g e).0

module _ (n : Netlist) (g : Gates) (table : List Pins) (done : Connected n g table) (state : ℕ → ℕ) (v : Valuation) (m : Assignment) (fits : Fits n state v) (holds : Shows g m)
    (inputs : variable_bits m 1 (input_count n) ≡ given_bits n v) (registers : variable_bits m (1 + input_count n) (latch_count n) ≡ for_registers n (signal_bits n (slice_index v))) where
  source_shows : (s : ℕ) → s < length n.signals → ¬ (IsWire n s) → Agrees m (slice_index v) table s
  source_shows s l w = by (kind_at n s) refl
    where
      from : (ls : List Lit) → lits_at table s ≡ ls → values m ls ≡ signal_bits n (slice_index v) s → Agrees m (slice_index v) table s
      from ls e h = ap (shown m) e ∙ ap number h ∙ number_bits (width_of n s) (slice_index v s) (fits_width n state v s fits l)

      by : (k : Kind) → kind_at n s ≡ k → Agrees m (slice_index v) table s
      by Input q =
          from (variable_lits (1 + bits_before is_input n s) (width_of n s)) (done.sources s l w ∙ ap (kind_lits n s) q)
          (variable_values m (1 + bits_before is_input n s) (width_of n s) ∙ own m 1 is_input n (slice_index v) inputs s l (ap is_input q))
      by (Reg init next) q =
          from (variable_lits (1 + input_count n + bits_before is_register n s) (width_of n s)) (done.sources s l w ∙ ap (kind_lits n s) q)
          (variable_values m (1 + input_count n + bits_before is_register n s) (width_of n s) ∙ own m (1 + input_count n) is_register n (slice_index v) registers s l (ap is_register q))
      by (Wire cell) q = absurd (w (ap sort_of q))

  -- each signal's literals have the signal's bits
  pub signal_shows : (s : ℕ) → s < length n.signals → values m (lits_at table s) ≡ signal_bits n (slice_index v) s
  signal_shows s l =
      let a = done.agrees m state v holds fits source_shows s l in
      let w = length-map (lits_at table s) (on m) ∙ (done.ready s l).long in
      sym (tell (values m (lits_at table s))) ∙ (λ i. bits_of (w i) (a i))

-- the next signal of a register
pub record NextFits (n : Netlist) (s : ℕ) : Type 0 where
  pub known : next_sig n s < length n.signals
  pub width : width_of n (next_sig n s) ≡ width_of n s
  pub state : (v : Valuation) → next_state n v s ≡ slice_index v (next_sig n s)

pub next_fits : (n : Netlist) → IsNetlist n → AllSet n → (s : ℕ) → is_register (kind_at n s) ≡ true → NextFits n s
next_fits n made set s t = by (slice_get n.signals s) refl t
  where
    on_kind : (g : Signal) (k : Kind) → slice_get n.signals s ≡ Some g → g.kind ≡ k → is_register k ≡ true → KindFits n g.width k → IsSet k → NextFits n s
    on_kind g Input e q t f i = absurd (cc)
    on_kind g (Wire cell) e q t f i = absurd (cc)
    on_kind g (Reg init None) e q t f i = absurd i
    on_kind g (Reg init (Some next)) e q t f i =
        let k : kind_at n s ≡ Reg init (Some next) = ap kind_in e ∙ q in
        let x : next_sig n s ≡ next = ap (λ y. unwrap_or (next_in y) 0) k in
        record {
          known = subst (λ y. y < length n.signals) (sym x) f.1;
          width = ap (width_of n) x ∙ f.2 ∙ sym (ap width_in e);
          state = λ v. ap (next_number v) e ∙ ap (kind_next v) q ∙ ap (slice_index v) (sym x);
        }

    by : (o : Option Signal) → slice_get n.signals s ≡ o → is_register (kind_in o) ≡ true → NextFits n s
    by None e h = absurd (cc)
    by (Some g) e h = on_kind g g.kind e refl h (made.signals s g e).kind (set s g e)

-- for registers it is enough to look at registers
register_case : {A : Type 0} (n : Netlist) (f g : ℕ → A) (z : A) (s : ℕ) → (is_register (kind_at n s) ≡ true → f s ≡ g s) → cond
    (is_register (kind_at n s)) (f s) z ≡ cond (is_register (kind_at n s)) (g s) z
register_case n f g z s h = by (is_register (kind_at n s)) h
  where
    by : (b : Bool) → (b ≡ true → f s ≡ g s) → cond b (f s) z ≡ cond b (g s) z
    by true h = h refl
    by false h = refl

long_case : {A : Type 0} (b : Bool) (xs : List A) (w : ℕ) → (b ≡ true → length xs ≡ w) → length (cond b xs []) ≡ cond b w 0
long_case true xs w h = h refl
long_case false xs w h = refl

pub nexts_long : (n : Netlist) (g : Gates) (table : List Pins) → IsNetlist n → AllSet n → Connected n g table → length (next_lits n table) ≡ latch_count n
nexts_long n g table made set done =
    gathered_long (of_kind is_register n (λ s. lits_at table (next_sig n s))) (length n.signals)
    ∙ summed_same _ (width_if is_register n) (length n.signals)
    (λ s l. long_case (is_register (kind_at n s)) (lits_at table (next_sig n s)) (width_of n s)
    (λ t. let f = next_fits n made set s t in (done.ready (next_sig n s) f.known).long ∙ f.width))

-- what latches and outputs of a connected net take, with its ANDs
pub record IsMade (n : Netlist) (g : Gates) (table : List Pins) (a : Circuit) : Type 0 where
  pub ands : a.ands ≡ g.ands
  pub inputs : a.inputs ≡ input_count n
  pub nexts : a.nexts ≡ next_lits n table
  pub outputs : a.outputs ≡ output_lits n table

pub mirrors : (n : Netlist) (g : Gates) (table : List Pins) (a : Circuit) → IsNetlist n → AllSet n → AllZero n → Connected n g table → IsMade n g table a → Mirrors n a
mirrors n g table a made set zero_all done is =
    record {
      resets = zero_all;
      count = long ∙ sym (gathered_long (of_kind is_register n (signal_bits n (reset_state n))) (length n.signals) ∙ summed_same _
          (width_if is_register n) (length n.signals) (λ s l. long_case (is_register (kind_at n s)) (signal_bits n (reset_state n) s) (width_of n s)
          (λ t. bits_long (width_of n s) (reset_state n s))));
      outputs = λ state v m f w i r.
          let h = shows state v m f w i r in
          ap (values m) is.outputs ∙ gathered_map (on m) (λ k. lits_at table (output_at n k)) (length n.outputs)
          ∙ gathered_same (λ k. values m (lits_at table (output_at n k))) (λ k. signal_bits n (slice_index v) (output_at n k)) (length n.outputs) (λ k l. h (output_at n k) (output_known n made k l));
      nexts = λ state v m f w i r.
          let h = shows state v m f w i r in
          ap (values m) is.nexts ∙ gathered_map (on m) (of_kind is_register n (λ s. lits_at table (next_sig n s))) (length n.signals)
          ∙ gathered_same (λ s. values m (of_kind is_register n (λ s. lits_at table (next_sig n s)) s)) (of_kind is_register n (signal_bits n (next_state n v))) (length n.signals)
          (λ s l. through m (is_register (kind_at n s)) (lits_at table (next_sig n s)) ∙ register_case n (λ s. values m (lits_at table (next_sig n s))) (signal_bits n (next_state n v)) [] s
          (λ t. let x = next_fits n made set s t in h (next_sig n s) x.known ∙ (λ j. bits_of (x.width j) (sym (x.state v) j))));
    }
  where
    long : latches a ≡ latch_count n
    long = ap length is.nexts ∙ nexts_long n g table made set done

    first : base a ≡ g.first
    first = (λ i. 1 + is.inputs i + long i) ∙ sym done.first

    through : (m : Assignment) (b : Bool) (ls : List Lit) → values m (cond b ls []) ≡ cond b (values m ls) []
    through m true ls = refl
    through m false ls = refl

    shows : (state : ℕ → ℕ) (v : Valuation) (m : Assignment) → Fits n state v → Wired (base a) a.ands m → input_bits a m ≡ given_bits n v → latch_bits
        a m ≡ for_registers n (signal_bits n (slice_index v)) → (s : ℕ) → s < length n.signals → values m (lits_at table s) ≡ signal_bits n (slice_index v) s
    shows state v m f w i r = signal_shows n g table done state v m f
        (subst (λ k. Wired k g.ands m) first (subst (λ l. Wired (base a) l m) is.ands w)) (ap (variable_bits m 1) (sym is.inputs) ∙ i)
        ((λ j. variable_bits m (1 + sym is.inputs j) (sym long j)) ∙ r)
