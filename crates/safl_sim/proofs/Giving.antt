-- The words of a cycle give `start` and the arguments their numbers.
use Rattle.std.proofs.Common.{◌≡◌, ℕ, zero, suc, ◌+◌, List, [], ◌∷◌, ◌++◌, map, length, Bool, true, false, cond, slice_get, slice_index, refl, sym, ap, ◌∙◌, arith}
use Rattle.safl_word.specs.Words.{Word}
use Rattle.safl_net.specs.Netlist.{Netlist, Signal, Kind, Input, Reg, Wire, width_in, width_of, with_input}
use Rattle.safl_net.specs.Valuations.{Valuation}
use Rattle.safl_net.specs.Runs.{is_argument, input_numbers, start_number}
use Rattle.safl_net.specs.Rules.{IsNetlist}
use Rattle.safl_net.specs.Whole.{IsWhole, HasStart}
use Rattle.safl_sim.specs.Places.{inputs_from, inputs_of, AreInputs, HasWords}
use Rattle.safl_net.specs.Arguments.{argument_widths, AreArguments}
use Rattle.safl_sim.specs.Words.{own_word, others, is_start, input_words, zero_of, bit_word}
use Rattle.safl_sim.proofs.Names.{Starts, starts, start_is, start_at}

-- the numbers of the inputs, by a list with one for each signal
abbrev pub own_value : Kind → ℕ → List ℕ
own_value Input w = w ∷ []
own_value (Reg init next) w = []
own_value (Wire cell) w = []

abbrev pub input_values : List Signal → List ℕ → List ℕ
input_values [] v = []
input_values (g ∷ gs) [] = []
input_values (g ∷ gs) (w ∷ ws) = own_value g.kind w ++ input_values gs ws

pub inputs_map : (gs : List Signal) (v : List ℕ) (f : ℕ → ℕ) (i : ℕ) → length v ≡ length gs → ((k : ℕ) → f (k + i) ≡ slice_index v k) → map f (inputs_from gs i) ≡ input_values gs v
inputs_map [] v f i l h = refl
inputs_map (g ∷ gs) [] f i l h = absurd (omega (arith, l))
inputs_map (g ∷ gs) (w ∷ ws) f i l h =
    on g.kind (ap f (let z : i ≡ 0 + i = omega arith in z) ∙ h 0)
    (inputs_map gs ws f (suc i) (omega (arith, l)) (λ k. ap f (let z : k + suc i ≡ suc k + i = omega arith in z) ∙ h (suc k)))
  where
    on : (k : Kind) → f i ≡ w → map f (inputs_from gs (suc i)) ≡ input_values gs ws → map f (with_input k i (inputs_from gs (suc i))) ≡ own_value k w ++ input_values gs ws
    on Input a e = ap (λ x. x ∷ map f (inputs_from gs (suc i))) a ∙ ap (λ l. w ∷ l) e
    on (Reg init next) a e = e
    on (Wire cell) a e = e

module _ (f : Word → ℕ) (start : Word) where
  -- where `start` and the arguments have their numbers, the inputs have those of the words
  pub giving : (gs : List Signal) (v : List ℕ) (args : List Word) → length v ≡ length gs → Starts gs v (f start) → input_numbers gs v ≡ map f args →
      input_values gs v ≡ map f (input_words gs start args)
  unfolding input_numbers input_words
  giving [] v args l s e = refl
  giving (g ∷ gs) [] args l s e = absurd (omega (arith, l))
  giving (g ∷ gs) (w ∷ ws) args l s e =
      on g.kind args (λ kind named. s 0 g refl kind named) e (λ rest q. giving gs ws rest (omega (arith, l)) (λ t h at kind named. s (suc t) h at kind named) q)
    where
      one : (b : Bool) (args : List Word) → (b ≡ true → w ≡ f start) → cond (cond b false true) (w ∷ input_numbers gs ws) (input_numbers gs ws) ≡ map f args
          → ((rest : List Word) → input_numbers gs ws ≡ map f rest → input_values gs ws ≡ map f (input_words gs start rest))
          → w ∷ input_values gs ws ≡ map f (own_word Input b start args ++ input_words gs start (others Input b args))
      one true args s e rest = ap (λ x. x ∷ input_values gs ws) (s refl) ∙ ap (λ l. f start ∷ l) (rest args e)
      one false [] s e rest = absurd (cc)
      one false (x ∷ args) s e rest = let a : w ≡ f x = cc in ap (λ y. y ∷ input_values gs ws) a ∙ ap (λ l. f x ∷ l) (rest args (cc))

      on : (k : Kind) (args : List Word) → (k ≡ Input → is_start g.name ≡ true → w ≡ f start) → cond (is_argument g.name k) (w ∷ input_numbers gs ws) (input_numbers gs ws) ≡ map f args
          → ((rest : List Word) → input_numbers gs ws ≡ map f rest → input_values gs ws ≡ map f (input_words gs start rest))
          → own_value k w ++ input_values gs ws ≡ map f (own_word k (is_start g.name) start args ++ input_words gs start (others k (is_start g.name) args))
      on Input args s e rest = one (is_start g.name) args (s refl) e rest
      on (Reg init next) args s e rest = rest args e
      on (Wire cell) args s e rest = rest args e

-- where the inputs have the numbers of the words, so have `start` and the arguments
pub record Given (gs : List Signal) (v : List ℕ) (x : ℕ) (args : List ℕ) : Type 0 where
  pub start : Starts gs v x
  pub numbers : input_numbers gs v ≡ args

starts_more : (g : Signal) (gs : List Signal) (w : ℕ) (ws : List ℕ) (x : ℕ) → (g.kind ≡ Input → is_start g.name ≡ true → w ≡ x) → Starts gs ws x → Starts (g ∷ gs) (w ∷ ws) x
starts_more g gs w ws x h rest zero k at kind named =
    let q : k ≡ g = cc in
    h (ap (λ (y : Signal). y.kind) (sym q) ∙ kind) (ap (λ (y : Signal). is_start y.name) (sym q) ∙ named)
starts_more g gs w ws x h rest (suc s) k at kind named = rest s k at kind named

abbrev pub bits : List Word → List ℕ
bits args = map (λ (w : Word). w.bits) args

abbrev pub widths : List Word → List ℕ
widths args = map (λ (w : Word). w.width) args

module _ (start : Word) where
  pub given : (gs : List Signal) (v : List ℕ) (args : List Word) → length v ≡ length gs → widths args ≡ argument_widths gs → input_values gs v ≡ bits
      (input_words gs start args) → Given gs v start.bits (bits args)
  unfolding argument_widths input_words input_numbers
  given [] v [] l a e = record { start = λ s g f. absurd (cc); numbers = refl }
  given [] v (x ∷ args) l a e = absurd (cc)
  given (g ∷ gs) [] args l a e = absurd (omega (arith, l))
  given (g ∷ gs) (w ∷ ws) args l a e = on g.kind refl args a e (λ rest p q. given gs ws rest (omega (arith, l)) p q)
    where
      one : (b : Bool) → is_start g.name ≡ b → g.kind ≡ Input → (args : List Word) → widths args ≡ cond (cond b false true) (g.width ∷ argument_widths gs) (argument_widths gs)
          → w ∷ input_values gs ws ≡ bits (own_word Input b start args ++ input_words gs start (others Input b args))
          → ((rest : List Word) → widths rest ≡ argument_widths gs → input_values gs ws ≡ bits (input_words gs start rest) → Given gs ws start.bits (bits rest))
          → (Starts (g ∷ gs) (w ∷ ws) start.bits) × (cond (cond b false true) (w ∷ input_numbers gs ws) (input_numbers gs ws) ≡ bits args)
      one true named q args a e rest = let r = rest args a (cc) in (starts_more g gs w ws start.bits (λ k n. cc) r.start, r.numbers)
      one false named q [] a e rest = absurd (cc)
      one false named q (x ∷ args) a e rest =
          let r = rest args (cc) (cc) in
          let n = r.numbers in
          (starts_more g gs w ws start.bits (λ k m. absurd (let z : true ≡ false = sym m ∙ named in cc)) r.start, cc)

      on : (k : Kind) → g.kind ≡ k → (args : List Word) → widths args ≡ cond (is_argument g.name k) (g.width ∷ argument_widths gs) (argument_widths gs)
          → own_value k w ++ input_values gs ws ≡ bits (own_word k (is_start g.name) start args ++ input_words gs start (others k (is_start g.name) args))
          → ((rest : List Word) → widths rest ≡ argument_widths gs → input_values gs ws ≡ bits (input_words gs start rest) → Given gs ws start.bits (bits rest))
          → Given (g ∷ gs) (w ∷ ws) start.bits (bits args)
      on Input q args a e rest =
          let r = one (is_start g.name) refl q args a e rest in
          record { start = r.0; numbers = ap (λ k. cond (is_argument g.name k) (w ∷ input_numbers gs ws) (input_numbers gs ws)) q ∙ r.1 }
      on (Reg init next) q args a e rest =
          let r = rest args a e in
          record {
            start = starts_more g gs w ws start.bits (λ k n. absurd (cc)) r.start;
            numbers = ap
                (λ k. cond (is_argument g.name k) (w ∷ input_numbers gs ws) (input_numbers gs ws)) q ∙ r.numbers;
          }
      on (Wire cell) q args a e rest =
          let r = rest args a e in
          record {
            start = starts_more g gs w ws start.bits (λ k n. absurd (cc)) r.start;
            numbers = ap
                (λ k. cond (is_argument g.name k) (w ∷ input_numbers gs ws) (input_numbers gs ws)) q ∙ r.numbers;
          }

-- the widths of the signals, as numbers
abbrev pub sizes : List Signal → List ℕ
sizes gs = map (λ (g : Signal). g.width) gs

pub sizes_long : (gs : List Signal) → length (sizes gs) ≡ length gs
sizes_long [] = refl
sizes_long (g ∷ gs) = ap suc (sizes_long gs)

pub size_at : (gs : List Signal) (k : ℕ) → width_in (slice_get gs k) ≡ slice_index (sizes gs) k
size_at [] k = refl
size_at (g ∷ gs) zero = refl
size_at (g ∷ gs) (suc k) = size_at gs k

size_numbers : (gs : List Signal) → input_numbers gs (sizes gs) ≡ argument_widths gs
unfolding argument_widths input_numbers
size_numbers [] = refl
size_numbers (g ∷ gs) = ap (λ l. cond (is_argument g.name g.kind) (g.width ∷ l) l) (size_numbers gs)

-- the words are of the inputs' widths
pub are_inputs : (n : Netlist) (x : ℕ) (args : List Word) → IsNetlist n → IsWhole n → AreArguments n args → AreInputs n (input_words n.signals (bit_word x) args)
are_inputs n x args made whole a =
    let gs : List Signal = n.signals in
    let h : HasStart n = whole.start in
    let one : slice_index (sizes gs) h.signal ≡ 1 = sym (size_at gs h.signal) ∙ h.bit in
    sym (inputs_map gs (sizes gs) (width_of n) 0 (sizes_long gs) (λ k. ap (width_of n) (let z : k + 0 ≡ k = omega arith in z) ∙ size_at gs k)
    ∙ giving (λ (w : Word). w.width) (bit_word x) gs (sizes gs) args (sizes_long gs) (starts n (sizes gs) 1 made h one) (size_numbers gs ∙ sym a))

-- the inputs have the numbers of the words exactly where `start` and the arguments have theirs
pub values_are : (n : Netlist) (v : Valuation) → length v ≡ length n.signals → map (slice_index v) (inputs_of n) ≡ input_values n.signals v
values_are n v l = inputs_map n.signals v (slice_index v) 0 l (λ k. ap (slice_index v) (let z : k + 0 ≡ k = omega arith in z))

pub has_words : (n : Netlist) (x : ℕ) (args : List Word) (v : Valuation) → IsNetlist n → IsWhole n → length v ≡ length n.signals → start_number n v ≡
    x → input_numbers n.signals v ≡ bits args → HasWords n v (input_words n.signals (bit_word x) args)
has_words n x args v made whole l s e =
    values_are n v l
    ∙ giving (λ (w : Word). w.bits) (bit_word x) n.signals v args l (starts n v x made whole.start (start_at n v x whole.start s)) e

pub words_had : (n : Netlist) (x : ℕ) (args : List Word) (v : Valuation) → IsWhole n → AreArguments n args → length v ≡ length n.signals → HasWords n
    v (input_words n.signals (bit_word x) args) → (start_number n v ≡ x) × (input_numbers n.signals v ≡ bits args)
words_had n x args v whole a l h =
    let r = given (bit_word x) n.signals v args l a (sym (values_are n v l) ∙ h) in
    (start_is n v x whole.start r.start, r.numbers)

-- zeros are arguments too
pub zero_widths : (args : List Word) → widths (map zero_of args) ≡ widths args
zero_widths [] = refl
zero_widths (w ∷ args) = ap (λ l. w.width ∷ l) (zero_widths args)

pub zero_bits : (args : List Word) → bits (map zero_of args) ≡ map (λ (w : Word). 0) args
zero_bits [] = refl
zero_bits (w ∷ args) = ap (λ l. 0 ∷ l) (zero_bits args)
