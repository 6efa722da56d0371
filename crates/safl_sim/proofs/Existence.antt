-- There are runs: each cycle has a valuation, from which the next goes on.
use Rattle.std.proofs.Common.{◌≡◌, ℕ, zero, suc, ◌+◌, ◌<◌, ◌^◌, List, [], ◌∷◌, ◌++◌, map, length, Option, Some, None, Bool, true, false, slice_get, slice_index, refl, sym, ap, subst, ◌∙◌, arith}
use Rattle.std.proofs.lemmas.Nat.{pow_pos}
use Rattle.safl_word.specs.Words.{Word, IsWord, AreWords}
use Rattle.safl_net.specs.Laws.{FitWidths}
use Rattle.safl_net.specs.Netlist.{Netlist, Signal, Kind, Input, Reg, Wire, width_in, width_of}
use Rattle.safl_net.specs.Rules.{IsNetlist, KindFits}
use Rattle.safl_net.specs.Runs.{GoesOn, input_numbers}
use Rattle.safl_net.specs.Valuations.{Valuation, Fits, IsAcyclic, next_state, next_number, kind_next, reset_state}
use Rattle.safl_net.specs.Whole.{IsWhole}
use Rattle.safl_net.proofs.Existence.{exactly_one}
use Rattle.safl_net.specs.Arguments.{AreArguments}
use Rattle.safl_net.proofs.SignalKinds.{reset_at}
use Rattle.safl_sim.specs.Existence.{RunsExist, ResetFits, OneRunExists}
use Rattle.safl_sim.specs.Outcomes.{IsCallRun}
use Rattle.safl_sim.specs.Places.{AreInputs, HasWords}
use Rattle.safl_sim.specs.Words.{own_word, others, is_start, input_words, zero_of, bit_word}
use Rattle.safl_sim.proofs.Builds.{resets_fit}
use Rattle.safl_sim.proofs.Giving.{own_value, input_values, inputs_map, sizes, sizes_long, size_at, values_are, words_had, are_inputs, zero_widths, zero_bits, widths, bits}
use Rattle.safl_sim.proofs.OneCall.{only_run}

-- the number of a signal, where it is an input: the first of those that are left
abbrev first_of : Kind → List ℕ → ℕ
first_of Input [] = 0
first_of Input (w ∷ ws) = w
first_of (Reg init next) ws = 0
first_of (Wire cell) ws = 0

abbrev rest_of : Kind → List ℕ → List ℕ
rest_of Input [] = []
rest_of Input (w ∷ ws) = ws
rest_of (Reg init next) ws = ws
rest_of (Wire cell) ws = ws

-- a number for each signal, where the inputs have these
abbrev fill : List Signal → List ℕ → List ℕ
fill [] ws = []
fill (g ∷ gs) ws = first_of g.kind ws ∷ fill gs (rest_of g.kind ws)

fill_long : (gs : List Signal) (ws : List ℕ) → length (fill gs ws) ≡ length gs
fill_long [] ws = refl
fill_long (g ∷ gs) ws = ap suc (fill_long gs (rest_of g.kind ws))

fill_values : (gs : List Signal) (words : List Word) → widths words ≡ input_values gs (sizes gs) → input_values gs (fill gs (bits words)) ≡ bits words
fill_values [] [] e = refl
fill_values [] (x ∷ words) e = absurd cc
fill_values (g ∷ gs) words e = on g.kind words e (λ rest q. fill_values gs rest q)
  where
    on : (k : Kind) (words : List Word) → widths words ≡ own_value k g.width ++ input_values gs (sizes gs)
        → ((rest : List Word) → widths rest ≡ input_values gs (sizes gs) → input_values gs (fill gs (bits rest)) ≡ bits rest)
        → own_value k (first_of k (bits words)) ++ input_values gs (fill gs (rest_of k (bits words))) ≡ bits words
    on Input [] e rest = absurd cc
    on Input (x ∷ words) e rest = ap (λ l. x.bits ∷ l) (rest words (cc))
    on (Reg init next) words e rest = rest words e
    on (Wire cell) words e rest = rest words e

fill_fits : (gs : List Signal) (words : List Word) → AreWords words → widths words ≡ input_values gs (sizes gs) → (s : ℕ) (g : Signal) → slice_get gs
    s ≡ Some g → slice_index (fill gs (bits words)) s < 2 ^ g.width
fill_fits [] words are e s h at = absurd cc
fill_fits (g ∷ gs) words are e zero h at = subst (λ (x : Signal). first_of g.kind (bits words) < 2 ^ x.width) (let q : g ≡ h = cc in q) (on g.kind words are e)
  where
    on : (k : Kind) (words : List Word) → AreWords words → widths words ≡ own_value k g.width ++ input_values gs (sizes gs) → first_of k (bits words) < 2 ^ g.width
    on Input [] are e = absurd cc
    on Input (x ∷ words) are e = let w : x.width ≡ g.width = cc in subst (λ n. x.bits < 2 ^ n) w are.0.fits
    on (Reg init next) words are e = pow_pos g.width
    on (Wire cell) words are e = pow_pos g.width
fill_fits (g ∷ gs) words are e (suc s) h at = on g.kind words are e (λ rest a q. fill_fits gs rest a q s h at)
  where
    on : (k : Kind) (words : List Word) → AreWords words → widths words ≡ own_value k g.width ++ input_values gs (sizes gs)
        → ((rest : List Word) → AreWords rest → widths rest ≡ input_values gs (sizes gs) → slice_index (fill gs (bits rest)) s < 2 ^ h.width)
        → slice_index (fill gs (rest_of k (bits words))) s < 2 ^ h.width
    on Input [] are e rest = absurd cc
    on Input (x ∷ words) are e rest = rest words are.1 (cc)
    on (Reg init next) words are e rest = rest words are e
    on (Wire cell) words are e rest = rest words are e

-- what agrees on the inputs has the same numbers there
values_same : (gs : List Signal) (v u : List ℕ) → length v ≡ length gs → length u ≡ length gs →
    ((s : ℕ) (g : Signal) → slice_get gs s ≡ Some g → g.kind ≡ Input → slice_index v s ≡ slice_index u s) → input_values gs v ≡ input_values gs u
values_same [] v u l m h = refl
values_same (g ∷ gs) [] u l m h = absurd (omega (arith, l))
values_same (g ∷ gs) (x ∷ v) [] l m h = absurd (omega (arith, m))
values_same (g ∷ gs) (x ∷ v) (y ∷ u) l m h = on g.kind (λ k. h 0 g refl k) (values_same gs v u (omega (arith, l)) (omega (arith, m)) (λ s k at is. h (suc s) k at is))
  where
    on : (k : Kind) → (k ≡ Input → x ≡ y) → input_values gs v ≡ input_values gs u → own_value k x ++ input_values gs v ≡ own_value k y ++ input_values gs u
    on Input e rest = ap (λ z. z ∷ input_values gs v) (e refl) ∙ ap (λ l. y ∷ l) rest
    on (Reg init next) e rest = rest
    on (Wire cell) e rest = rest

-- the words of a cycle are words
input_are_words : (gs : List Signal) (start : Word) (args : List Word) → IsWord start → AreWords args → AreWords (input_words gs start args)
unfolding input_words
input_are_words [] start args s a = tt
input_are_words (g ∷ gs) start args s a = on g.kind (is_start g.name) args a (λ rest b. input_are_words gs start rest s b)
  where
    on : (k : Kind) (b : Bool) (args : List Word) → AreWords args → ((rest : List Word) → AreWords rest → AreWords (input_words gs start rest)) →
        AreWords (own_word k b start args ++ input_words gs start (others k b args))
    on Input true args a rest = (s, rest args a)
    on Input false [] a rest = rest [] tt
    on Input false (x ∷ args) a rest = (a.0, rest args a.1)
    on (Reg init next) b args a rest = rest args a
    on (Wire cell) b args a rest = rest args a

zeros_are_words : (args : List Word) → AreWords args → AreWords (map zero_of args)
zeros_are_words [] a = tt
zeros_are_words (x ∷ args) a = (record { some = a.0.some; bounded = a.0.bounded; fits = pow_pos x.width }, zeros_are_words args a.1)

one_bit : (x : ℕ) → x < 2 → IsWord (bit_word x)
one_bit x h = record { some = omega arith; bounded = omega arith; fits = h }

none_within : {A : Type 0} (xs : List A) (i : ℕ) → slice_get xs i ≡ None → i < length xs → ⊥
none_within [] i e h = omega (arith, h)
none_within (x ∷ xs) zero e h = cc
none_within (x ∷ xs) (suc i) e h = none_within xs i e (omega (arith, h))

-- the state after a cycle is of the widths
pub next_fits : (n : Netlist) (state : ℕ → ℕ) (v : Valuation) → IsNetlist n → Fits n state v → FitWidths n (next_state n v)
next_fits n state v made fits s g at = subst (λ x. x < 2 ^ g.width) (sym (ap (next_number v) at)) (on g.kind (made.signals s g at).kind)
  where
    of : (m : ℕ) (o : Option Signal) → slice_get n.signals m ≡ o → m < length n.signals → width_in o ≡ g.width → slice_index v m < 2 ^ g.width
    of m None e low w = absurd (none_within n.signals m e low)
    of m (Some h) e low w = subst (λ k. slice_index v m < 2 ^ k) w (fits.each m h e).0

    on : (k : Kind) → KindFits n g.width k → kind_next v k < 2 ^ g.width
    on Input f = pow_pos g.width
    on (Reg init None) f = pow_pos g.width
    on (Reg init (Some m)) f = of m (slice_get n.signals m) refl f.1 f.2
    on (Wire cell) f = pow_pos g.width

pub reset_fits : ResetFits
reset_fits n made s g at = subst (λ x. x < 2 ^ g.width) (reset_at n.signals s) (resets_fit n made s g at)

module _ (n : Netlist) (made : IsNetlist n) (whole : IsWhole n) (acyclic : IsAcyclic n) where
  -- words for the inputs of a cycle
  record Given (words : List Word) : Type 0 where
    are : AreWords words
    inputs : AreInputs n words

  sized : (words : List Word) → AreInputs n words → widths words ≡ input_values n.signals (sizes n.signals)
  sized words a = a ∙ inputs_map n.signals (sizes n.signals) (width_of n) 0 (sizes_long n.signals) (λ k. ap (width_of n) (let z : k + 0 ≡ k = omega arith in z) ∙ size_at n.signals k)

  cycle : (state : ℕ → ℕ) (words : List Word) → FitWidths n state → Given words → (v : Valuation) × Fits n state v × HasWords n v words
  cycle state words fit given =
      let gs : List Signal = n.signals in
      let w = sized words given.inputs in
      let u : List ℕ = fill gs (bits words) in
      let one = exactly_one n made whole.set acyclic state (slice_index u) fit (fill_fits gs words given.are w) in
      let v = one.0 in
      let is = one.1 in
      (v, is.fits, values_are n v is.fits.full ∙ values_same gs v u is.fits.full (fill_long gs (bits words)) is.inputs ∙ fill_values gs words w)

  module _ (args : List Word) (are : AreWords args) (fit : AreArguments n args) where
    abbrev first : List Word
    first = input_words n.signals (bit_word 1) args

    abbrev later : List Word
    later = input_words n.signals (bit_word 0) (map zero_of args)

    given_first : Given first
    given_first = record { are = input_are_words n.signals (bit_word 1) args (one_bit 1 (omega arith)) are; inputs = are_inputs n 1 args made whole fit }

    given_later : Given later
    given_later = record {
      are = input_are_words n.signals (bit_word 0) (map zero_of args) (one_bit 0 (omega arith)) (zeros_are_words args are);
      inputs = are_inputs n 0 (map zero_of args) made whole (zero_widths args ∙ fit);
    }

    abbrev Zeros : List Valuation → Type 0
    Zeros vs = (c : ℕ) (v : Valuation) → slice_get vs c ≡ Some v → input_numbers n.signals v ≡ map (λ (w : Word). 0) args

    zeros_more : (v : Valuation) (vs : List Valuation) → input_numbers n.signals v ≡ map (λ (w : Word). 0) args → Zeros vs → Zeros (v ∷ vs)
    zeros_more v vs e z zero u at = subst (λ x. input_numbers n.signals x ≡ map (λ (w : Word). 0) args) (let q : v ≡ u = cc in q) e
    zeros_more v vs e z (suc c) u at = z c u at

    goes : (count : ℕ) (state : ℕ → ℕ) → FitWidths n state → (vs : List Valuation) × GoesOn n state vs × Zeros vs × (length vs ≡ count)
    goes zero state f = ([], tt, (λ c v e. absurd (cc)), refl)
    goes (suc count) state f =
        let c = cycle state later f given_later in
        let h = words_had n 0 (map zero_of args) c.0 whole (zero_widths args ∙ fit) c.1.full c.2 in
        let more = goes count (next_state n c.0) (next_fits n state c.0 made c.1) in
        (c.0 ∷ more.0, (c.1, h.0, more.1), zeros_more c.0 more.0 (h.1 ∙ zero_bits args) more.2, ap suc more.3)

    pub call_exists : (count : ℕ) (state : ℕ → ℕ) → FitWidths n state → (vs : List Valuation) × IsCallRun n state args vs × (length vs ≡ count)
    call_exists zero state f = ([], record { run = tt; zeros = λ c v e. absurd (cc) }, refl)
    call_exists (suc count) state f =
        let c = cycle state first f given_first in
        let h = words_had n 1 args c.0 whole fit c.1.full c.2 in
        let more = goes count (next_state n c.0) (next_fits n state c.0 made c.1) in
        (c.0 ∷ more.0, record { run = (c.1, h.0, h.1, more.1); zeros = more.2 }, ap suc more.3)

pub runs_exist : RunsExist
runs_exist n made whole acyclic state fits args are fit count =
    let t = call_exists n made whole acyclic args are fit count state fits in
    (t.0, t.1.run, t.2)

pub one_run_exists : OneRunExists
one_run_exists n made whole acyclic args are fit count =
    let t = call_exists n made whole acyclic args are fit count (reset_state n) (reset_fits n made) in
    (t.0, only_run n made whole acyclic args t.0 count t.1 t.2)
