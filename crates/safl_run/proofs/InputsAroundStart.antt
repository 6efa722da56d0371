-- The words of the inputs, round the place of `start`.
use Rattle.std.proofs.Common.{◌≡◌, ℕ, zero, suc, ◌+◌, ◌-◌, ◌<◌, ◌≤◌, List, [], ◌∷◌, ◌++◌, map, length, take, drop, Bool, true, false, cond, Some}
use Rattle.std.proofs.Common.{slice_get, refl, sym, ap, subst, ◌∙◌, arith, codes, append_assoc, Vec, Global}
use Rattle.std.specs.Option.{option_or}
use Rattle.std.specs.Vec.{with_item}
use Rattle.std.proofs.lemmas.List.{append-nil, length-set, length-drop, length-take-le, take_at, drop_all, length-append}
use borrow.Rule.Slice.PartMut.{put_mid}
use Rattle.std.proofs.lemmas.Nat.{pow_pos}
use Rattle.std.proofs.lemmas.Slice.Eq.{bytes_eq-Decides}
use Rattle.safl_word.specs.Words.{Word, IsWord}
use Rattle.safl_word.proofs.Lists.{get_some, slice_set_here, take_next}
use Rattle.safl_net.specs.Netlist.{Netlist, Signal, Kind, Input, Reg, Wire, width_in, width_of, output_place}
use Rattle.safl_net.specs.Making.{found, kind_at, kind_in}
use Rattle.safl_net.specs.Rules.{IsNetlist}
use Rattle.safl_net.specs.Runs.{is_argument}
use Rattle.safl_net.specs.Whole.{IsWhole, HasStart}
use Rattle.safl_net.specs.Arguments.{argument_widths, AreArguments}
use Rattle.safl_sim.specs.Words.{own_word, others, is_start, input_words, zero_of, bit_word}
use Rattle.safl_sim.proofs.Giving.{widths}
use Rattle.safl_sim.proofs.Names.{place_at}
use Rattle.safl_run.specs.Rooms.{IsRoom, own_zero, zeros_of}

-- the signal of this number alone is named `start`; it is an input of one bit
record OneStart (gs : List Signal) (s : ℕ) : Type 0 where
  signal : Signal
  at : slice_get gs s ≡ Some signal
  input : signal.kind ≡ Input
  named : is_start signal.name ≡ true
  bit : signal.width ≡ 1
  only : (t : ℕ) (g : Signal) → slice_get gs t ≡ Some g → is_start g.name ≡ true → t ≡ s

one_start : (n : Netlist) → IsNetlist n → (h : HasStart n) → OneStart n.signals h.signal
one_start n made h =
    let p = place_at n.signals (codes "start") 0 h.signal h.at in
    let here : p.from ≡ h.signal = (let a = p.is in omega (arith, a)) in
    record {
      signal = p.signal;
      at = subst (λ k. slice_get n.signals k ≡ Some p.signal) here p.at;
      input = sym (ap kind_in p.at) ∙ ap (kind_at n) here ∙ h.input;
      named = (bytes_eq-Decides p.signal.name (codes "start")).1 p.named;
      bit = sym (ap width_in p.at) ∙ ap (width_of n) here ∙ h.bit;
      only = λ t g at named. made.apart t p.from g p.signal at p.at ((bytes_eq-Decides g.name (codes "start")).0 named ∙ sym p.named) ∙ here;
    }

-- among signals without `start` the inputs' words are the arguments
abbrev Plain : List Signal → Word → List Word → Type 0
Plain gs w args = (input_words gs w args ≡ args) × (length (zeros_of gs) ≡ length args)

no_start : (gs : List Signal) (w : Word) (args : List Word) → ((t : ℕ) (g : Signal) → slice_get gs t ≡ Some g → is_start g.name ≡ true → ⊥) → widths args ≡ argument_widths gs → Plain gs w args
unfolding argument_widths input_words zeros_of
no_start [] w [] none e = (refl, refl)
no_start [] w (x ∷ args) none e = absurd (cc)
no_start (g ∷ gs) w args none e = on g.kind args e (λ rest a. no_start gs w rest (λ t h at named. none (suc t) h at named) a)
  where
    one : (b : Bool) → is_start g.name ≡ b → (args : List Word) → widths args ≡ cond (cond b false true) (g.width ∷ argument_widths gs)
        (argument_widths gs) → ((rest : List Word) → widths rest ≡ argument_widths gs → Plain gs w rest)
        → (own_word Input b w args ++ input_words gs w (others Input b args) ≡ args) × (suc (length (zeros_of gs)) ≡ length args)
    one true named args e rest = absurd (none 0 g refl named)
    one false named [] e rest = absurd (cc)
    one false named (x ∷ args) e rest = let r = rest args (cc) in (ap (λ l. x ∷ l) r.0, ap suc r.1)

    on : (k : Kind) (args : List Word) → widths args ≡ cond (is_argument g.name k) (g.width ∷ argument_widths gs) (argument_widths gs) →
        ((rest : List Word) → widths rest ≡ argument_widths gs → Plain gs w rest)
        → (own_word k (is_start g.name) w args ++ input_words gs w (others k (is_start g.name) args) ≡ args) × (length (own_zero k g.width ++ zeros_of gs) ≡ length args)
    on Input args e rest = one (is_start g.name) refl args e rest
    on (Reg init next) args e rest = rest args e
    on (Wire cell) args e rest = rest args e

-- the inputs' words are the arguments, with a word at the place of `start`
record Placed (place count : ℕ) (words : List Word) (w : Word) (args : List Word) : Type 0 where
  pub within : place ≤ length args
  pub long : count ≡ length args + 1
  pub are : words ≡ take place args ++ w ∷ drop place args

at_start : (gs : List Signal) (s : ℕ) (w : Word) (args : List Word) → OneStart gs s → widths args ≡ argument_widths gs → Placed
    (length (zeros_of (take s gs))) (length (zeros_of gs)) (input_words gs w args) w args
unfolding argument_widths input_words zeros_of
at_start [] s w args o e = absurd (let q = o.at in cc)
at_start (g ∷ gs) zero w args o e =
    let q : o.signal ≡ g = (let a = o.at in cc) in
    on g.kind (ap (λ (x : Signal). x.kind) (sym q) ∙ o.input) args e (ap (λ (x : Signal). is_start x.name) (sym q) ∙ o.named)
  where
    one : (b : Bool) → b ≡ true → (args : List Word) → widths args ≡ cond (cond b false true) (g.width ∷ argument_widths gs) (argument_widths gs)
        → Placed 0 (suc (length (zeros_of gs))) (own_word Input b w args ++ input_words gs w (others Input b args)) w args
    one false named args e = absurd (cc)
    one true named args e =
        let r = no_start gs w args (λ t h at is. let z : suc t ≡ 0 = o.only (suc t) h at is in omega (arith, z)) e in
        record { within = omega arith; long = (let a = r.1 in omega (arith, a)); are = ap (λ l. w ∷ l) r.0 }

    on : (k : Kind) → k ≡ Input → (args : List Word) → widths args ≡ cond (is_argument g.name k) (g.width ∷ argument_widths gs) (argument_widths gs) → is_start g.name ≡ true
        → Placed 0 (length (own_zero k g.width ++ zeros_of gs)) (own_word k (is_start g.name) w args ++ input_words gs w (others k (is_start g.name) args)) w args
    on Input is args e named = one (is_start g.name) named args e
    on (Reg init next) is args e named = absurd (cc)
    on (Wire cell) is args e named = absurd (cc)
at_start (g ∷ gs) (suc s) w args o e = on g.kind args e (λ rest a. at_start gs s w rest tail a)
  where
    tail : OneStart gs s
    tail = record { signal = o.signal; at = o.at; input = o.input; named = o.named; bit = o.bit; only = λ t h at is. let z : suc t ≡ suc s = o.only (suc t) h at is in omega (arith, z) }

    one : (b : Bool) → is_start g.name ≡ b → (args : List Word) → widths args ≡ cond (cond b false true) (g.width ∷ argument_widths gs) (argument_widths gs)
        → ((rest : List Word) → widths rest ≡ argument_widths gs → Placed (length (zeros_of (take s gs))) (length (zeros_of gs)) (input_words gs w rest) w rest)
        → Placed (suc (length (zeros_of (take s gs)))) (suc (length (zeros_of gs))) (own_word Input b w args ++ input_words gs w (others Input b args)) w args
    one true named args e rest = absurd (let z : 0 ≡ suc s = o.only 0 g refl named in omega (arith, z))
    one false named [] e rest = absurd (cc)
    one false named (x ∷ args) e rest =
        let r = rest args (cc) in
        record { within = (let a = r.within in omega (arith, a)); long = (let a = r.long in omega (arith, a)); are = ap (λ l. x ∷ l) r.are }

    on : (k : Kind) (args : List Word) → widths args ≡ cond (is_argument g.name k) (g.width ∷ argument_widths gs) (argument_widths gs)
        → ((rest : List Word) → widths rest ≡ argument_widths gs → Placed (length (zeros_of (take s gs))) (length (zeros_of gs)) (input_words gs w rest) w rest)
        → Placed (length (own_zero k g.width ++ zeros_of (take s gs))) (length (own_zero k g.width ++ zeros_of gs))
        (own_word k (is_start g.name) w args ++ input_words gs w (others k (is_start g.name) args)) w args
    on Input args e rest = one (is_start g.name) refl args e rest
    on (Reg init next) args e rest = rest args e
    on (Wire cell) args e rest = rest args e

-- the zeros are the words of a later cycle
zero_words : (gs : List Signal) (args : List Word) → ((t : ℕ) (g : Signal) → slice_get gs t ≡ Some g → is_start g.name ≡ true → g.width ≡ 1) → widths
    args ≡ argument_widths gs → zeros_of gs ≡ input_words gs (bit_word 0) (map zero_of args)
unfolding argument_widths input_words zeros_of
zero_words [] [] bit e = refl
zero_words [] (x ∷ args) bit e = refl
zero_words (g ∷ gs) args bit e = on g.kind args e (λ rest a. zero_words gs rest (λ t h at named. bit (suc t) h at named) a)
  where
    one : (b : Bool) → is_start g.name ≡ b → (args : List Word) → widths args ≡ cond (cond b false true) (g.width ∷ argument_widths gs) (argument_widths gs)
        → ((rest : List Word) → widths rest ≡ argument_widths gs → zeros_of gs ≡ input_words gs (bit_word 0) (map zero_of rest))
        → own_zero Input g.width ++ zeros_of gs ≡ own_word Input b (bit_word 0) (map zero_of args) ++ input_words gs (bit_word 0) (others Input b (map zero_of args))
    one true named args e rest = ap (λ x. zero_of (record { width = x; bits = 0 }) ∷ zeros_of gs) (bit 0 g refl named) ∙ ap (λ l. bit_word 0 ∷ l) (rest args e)
    one false named [] e rest = absurd (cc)
    one false named (x ∷ args) e rest =
        let q : g.width ≡ x.width = cc in
        ap (λ y. zero_of (record { width = y; bits = 0 }) ∷ zeros_of gs) q ∙ ap (λ l. zero_of x ∷ l) (rest args (cc))

    on : (k : Kind) (args : List Word) → widths args ≡ cond (is_argument g.name k) (g.width ∷ argument_widths gs) (argument_widths gs)
        → ((rest : List Word) → widths rest ≡ argument_widths gs → zeros_of gs ≡ input_words gs (bit_word 0) (map zero_of rest))
        → own_zero k g.width ++ zeros_of gs ≡ own_word k (is_start g.name) (bit_word 0) (map zero_of args) ++ input_words gs (bit_word 0) (others k (is_start g.name) (map zero_of args))
    on Input args e rest = one (is_start g.name) refl args e rest
    on (Reg init next) args e rest = rest args e
    on (Wire cell) args e rest = rest args e

-- words of some widths
zero_args : List ℕ → List Word
zero_args [] = []
zero_args (w ∷ ws) = record { width = w; bits = 0 } ∷ zero_args ws

zero_args_widths : (ws : List ℕ) → widths (zero_args ws) ≡ ws
unfolding zero_args
zero_args_widths [] = refl
zero_args_widths (w ∷ ws) = ap (λ l. w ∷ l) (zero_args_widths ws)

pub start_found : (n : Netlist) (whole : IsWhole n) (s : ℕ) → Some s ≡ found n (codes "start") → s ≡ whole.start.signal
start_found n whole s e = let q : Some s ≡ Some whole.start.signal = e ∙ ap (λ o. option_or o (output_place n.outputs (codes "start"))) whole.start.at in cc

-- what is known of the place of `start` and of the zeros
module _ (n : Netlist) (made : IsNetlist n) (whole : IsWhole n) where
  start : OneStart n.signals whole.start.signal
  start = one_start n made whole.start

  abbrev pub place : ℕ
  place = length (zeros_of (take whole.start.signal n.signals))

  placed : (w : Word) (args : List Word) → AreArguments n args → Placed place (length (zeros_of n.signals)) (input_words n.signals w args) w args
  placed w args are = at_start n.signals whole.start.signal w args start are

  pub place_within : (args : List Word) → AreArguments n args → place ≤ length args
  place_within args are = (placed (bit_word 0) args are).within

  pub zeros_long : (args : List Word) → AreArguments n args → length (zeros_of n.signals) ≡ length args + 1
  zeros_long args are = (placed (bit_word 0) args are).long

  pub words_placed : (w : Word) (args : List Word) → AreArguments n args → input_words n.signals w args ≡ take place args ++ w ∷ drop place args
  words_placed w args are = (placed w args are).are

  pub later_words : (args : List Word) → AreArguments n args → zeros_of n.signals ≡ input_words n.signals (bit_word 0) (map zero_of args)
  later_words args are =
      zero_words n.signals args
      (λ t g at named. let same : g ≡ start.signal = (let a = start.at in let b = ap (slice_get n.signals) (start.only t g at named) in cc) in ap (λ (x : Signal). x.width) same ∙ start.bit)
      are

  pub place_inside : place < length (zeros_of n.signals)
  place_inside =
      let p = placed (bit_word 0) (zero_args (argument_widths n.signals)) (zero_args_widths (argument_widths n.signals)) in
      let a = p.within in
      let b = p.long in
      omega (arith, a, b)

  pub is_room : (k : ℕ) (first later : Vec Word Global) (w : Word) → k ≡ place → first.items ≡ zeros_of n.signals → later.items ≡ zeros_of n.signals →
      w ≡ bit_word 1 → IsRoom n (record { first = with_item first k w; later = later; start = k })
  is_room k first later w here f l one = record {
    one = slice_set_here first.items k w (let a = place_inside in let b = ap length f in omega (arith, a, b, here)) ∙ ap Some one;
    within = λ args are. subst (λ x. x ≤ length args) (sym here) (place_within args are);
    long = λ args are. length-set first.items k w ∙ ap length f ∙ zeros_long args are;
    words = λ args are. words_placed (bit_word 1) args are ∙ ap (λ x. take x args ++ bit_word 1 ∷ drop x args) (sym here);
    later = λ args are. l ∙ later_words args are;
  }

zeros_append : (gs hs : List Signal) → zeros_of (gs ++ hs) ≡ zeros_of gs ++ zeros_of hs
unfolding zeros_of
zeros_append [] hs = refl
zeros_append (g ∷ gs) hs = ap (λ l. own_zero g.kind g.width ++ l) (zeros_append gs hs) ∙ sym (append_assoc (own_zero g.kind g.width) (zeros_of gs) (zeros_of hs))

zeros_last : (gs : List Signal) (g : Signal) → zeros_of (gs ++ g ∷ []) ≡ zeros_of gs ++ own_zero g.kind g.width
unfolding zeros_of
zeros_last gs g = zeros_append gs (g ∷ []) ∙ ap (λ l. zeros_of gs ++ l) (append-nil (own_zero g.kind g.width))

pub zeros_more : (n : Netlist) (i : ℕ) → i < length n.signals → zeros_of (take (i + 1) n.signals) ≡ zeros_of (take i n.signals) ++ own_zero (kind_at n i) (width_of n i)
zeros_more n i h =
    let s = get_some n.signals i h in
    ap zeros_of (take_next n.signals i s.0 s.1)
    ∙ zeros_last (take i n.signals) s.0
    ∙ ap (λ o. zeros_of (take i n.signals) ++ own_zero (kind_in o) (width_in o)) (sym s.1)

pub zeros_none : (n : Netlist) → zeros_of (take 0 n.signals) ≡ []
unfolding zeros_of
zeros_none n = refl

-- a zero of a signal's width is a word
pub zero_is_word : (n : Netlist) (s : ℕ) → IsNetlist n → s < length n.signals → IsWord (record { width = width_of n s; bits = 0 })
zero_is_word n s made h =
    let g = get_some n.signals s h in
    let f = made.signals s g.0 g.1 in
    subst (λ o. IsWord (record { width = width_in o; bits = 0 })) (sym g.1) (record { some = f.some; bounded = f.most; fits = pow_pos g.0.width })

-- the arguments round the word at a place
split_at : (xs : List Word) (p : ℕ) (w : Word) → slice_get xs p ≡ Some w → (r : List Word) × (drop p xs ≡ w ∷ r)
split_at [] p w e = absurd (cc)
split_at (x ∷ xs) zero w e = (xs, (let q : x ≡ w = cc in ap (λ y. y ∷ xs) q))
split_at (x ∷ xs) (suc p) w e = split_at xs p w e

seam : (xs : List Word) (w : Word) (rest : List Word) (k : ℕ) → length xs ≡ k → take (k + 1) (xs ++ w ∷ rest) ≡ xs ++ w ∷ []
seam xs w rest k e = ap (take (k + 1)) (sym (append_assoc xs (w ∷ []) rest)) ∙ take_at (xs ++ w ∷ []) rest (k + 1) (length-append xs (w ∷ []) ∙ ap (λ j. j + 1) e)

pub put_round : (words args first last : List Word) (p : ℕ) (w : Word) → p ≤ length args → slice_get words p ≡ Some w → first ≡ take p args → last ≡ drop p args
    → put_mid (p + 1) (length (first ++ drop p words) - (p + 1)) (first ++ drop p words) last ≡ take p args ++ w ∷ drop p args
put_round words args first last p w within at f l =
    let r = split_at words p w at in
    let long : length first ≡ p = ap length f ∙ length-take-le p args within in
    let xs : List Word = first ++ drop p words in
    let taken : take (p + 1) xs ≡ take p args ++ w ∷ [] = ap (λ d. take (p + 1) (first ++ d)) r.1 ∙ seam first w r.0 p long ∙ ap (λ d. d ++ w ∷ []) f in
    let none : drop (length xs - (p + 1)) (drop (p + 1) xs) ≡ [] = drop_all (length xs - (p + 1)) (drop (p + 1) xs) (let e = length-drop (p + 1) xs in omega (arith, e)) in
    ap (λ d. d ++ (last ++ drop (length xs - (p + 1)) (drop (p + 1) xs))) taken
    ∙ ap (λ d. (take p args ++ w ∷ []) ++ (last ++ d)) none
    ∙ ap (λ d. (take p args ++ w ∷ []) ++ d) (append-nil last ∙ l)
    ∙ append_assoc (take p args) (w ∷ []) (drop p args)
