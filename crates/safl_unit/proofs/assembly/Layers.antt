-- The lines, kinds and numbers of a circuit's signals, from the list of its signals.
use Rattle.safl_unit.proofs.Common.{AreTemps, HasCell, append-nil, as_word, bytes_eq-Decides, codes, words}
use Rattle.std.proofs.Common.{◌≡◌, ℕ, zero, suc, List, [], ◌∷◌, ◌++◌, map, length, length-append, Option, Some, None, Bool, true, false, cond}
use Rattle.std.proofs.Common.{slice_get, slice_index, bytes_eq, decimal, refl, sym, ap, subst, ◌∙◌, arith, append_assoc}
use Rattle.safl_net.specs.Netlist.{Netlist, Signal, Kind, Input, Reg, Wire, IsSet, AllSet, width_in, width_of}
use Rattle.safl_net.specs.Valuations.{Valuation, signal_word, kind_reset, reset_number, reset_state}
use Rattle.safl_net.specs.Runs.{is_argument, input_numbers}
use Rattle.safl_circuit.specs.Names.{as_words}
use Rattle.safl_circuit.specs.Layout.{Line, named, each_line, input_kind, register_kind, wire_kind, temporaries}
use Rattle.safl_circuit.proofs.MirrorLines.{more as each_more}
use Rattle.safl_unit.specs.Ties.{Tie, line_of, numbered}
use Rattle.safl_unit.specs.Finished.{input_line, set_register, set_wire}
use Rattle.safl_unit.proofs.assembly.Members.{get_at}

-- ---- lines

each_none : {A : Type 0} (f : Line → Kind → List Line) (make : A → Signal) (xs : List A) → ((x : A) → f ((make x).name, (make x).width) (make x).kind ≡ []) → each_line f (map make xs) ≡ []
unfolding each_line
each_none f make [] e = refl
each_none f make (x ∷ xs) e = ap (λ l. l ++ each_line f (map make xs)) (e x) ∙ each_none f make xs e

each_one : {A : Type 0} (f : Line → Kind → List Line) (make : A → Signal) (line : A → Line) (xs : List A) →
    ((x : A) → f ((make x).name, (make x).width) (make x).kind ≡ line x ∷ []) → each_line f (map make xs) ≡ map line xs
unfolding each_line
each_one f make line [] e = refl
each_one f make line (x ∷ xs) e = ap (λ l. l ++ each_line f (map make xs)) (e x) ∙ ap (λ l. line x ∷ l) (each_one f make line xs e)

temps_none : (f : Line → Kind → List Line) → ((l : Line) (k : Kind) → HasCell k → f l k ≡ []) → (i : ℕ) (gs : List Signal) → AreTemps i gs → each_line f gs ≡ []
unfolding each_line
temps_none f e i [] h = refl
temps_none f e i (g ∷ gs) h = ap (λ l. l ++ each_line f gs) (e (g.name, g.width) g.kind h.1) ∙ temps_none f e (suc i) gs h.2

no_input : (l : Line) (k : Kind) → HasCell k → input_kind l k ≡ []
no_input l Input h = absurd h
no_input l (Reg init next) h = absurd h
no_input l (Wire None) h = absurd h
no_input l (Wire (Some c)) h = refl

no_register : (l : Line) (k : Kind) → HasCell k → register_kind l k ≡ []
no_register l Input h = absurd h
no_register l (Reg init next) h = absurd h
no_register l (Wire None) h = absurd h
no_register l (Wire (Some c)) h = refl

one_line : (l : Line) (k : Kind) → HasCell k → wire_kind l k ≡ l ∷ []
one_line l Input h = absurd h
one_line l (Reg init next) h = absurd h
one_line l (Wire None) h = absurd h
one_line l (Wire (Some c)) h = refl

temps_lines : (i : ℕ) (gs : List Signal) → AreTemps i gs → each_line wire_kind gs ≡ temporaries i (map (λ (g : Signal). g.width) gs)
unfolding each_line
temps_lines i [] h = refl
temps_lines i (g ∷ gs) h =
    ap (λ l. l ++ each_line wire_kind gs) (one_line (g.name, g.width) g.kind h.1)
    ∙ ap (λ (x : List ℕ). (x, g.width) ∷ each_line wire_kind gs) h.0
    ∙ ap (λ l. (110 ∷ 36 ∷ decimal i, g.width) ∷ l) (temps_lines (suc i) gs h.2)

-- the inputs, the registers, the named wires and the temporaries
module _ (ls : List Line) (rs ws : List Tie) (i : ℕ) (more : List Signal) (temps : AreTemps i more) where
  abbrev pub all : List Signal
  all = (map input_line ls ++ (map set_register rs ++ map set_wire ws)) ++ more

  split : (f : Line → Kind → List Line) → each_line f all ≡ (each_line f (map input_line ls) ++ (each_line f (map set_register rs) ++ each_line f (map set_wire ws))) ++ each_line f more
  split f =
      each_more f (map input_line ls ++ (map set_register rs ++ map set_wire ws)) more
      ∙ ap (λ l. l ++ each_line f more) (each_more f (map input_line ls) (map set_register rs ++ map set_wire ws) ∙ ap
      (λ l. each_line f (map input_line ls) ++ l) (each_more f (map set_register rs) (map set_wire ws)))

  same_lines : (xs : List Line) → map (λ (l : Line). (l.0, l.1)) xs ≡ xs
  same_lines [] = refl
  same_lines (x ∷ xs) = ap (λ l. x ∷ l) (same_lines xs)

  same_ties : (xs : List Tie) → map (λ (t : Tie). (t.0.0, t.0.1)) xs ≡ map line_of xs
  same_ties [] = refl
  same_ties (x ∷ xs) = ap (λ l. x.0 ∷ l) (same_ties xs)

  pub input_lines : each_line input_kind all ≡ ls
  input_lines =
      split input_kind
      ∙ ap (λ l. (l ++ (each_line input_kind (map set_register rs) ++ each_line input_kind (map set_wire ws))) ++ each_line input_kind more)
      (each_one input_kind input_line (λ l. (l.0, l.1)) ls (λ x. refl) ∙ same_lines ls)
      ∙ ap (λ l. (ls ++ (l ++ each_line input_kind (map set_wire ws))) ++ each_line input_kind more) (each_none input_kind set_register rs (λ x. refl))
      ∙ ap (λ l. (ls ++ l) ++ each_line input_kind more) (each_none input_kind set_wire ws (λ x. refl))
      ∙ ap (λ l. (ls ++ []) ++ l) (temps_none input_kind no_input i more temps)
      ∙ append-nil (ls ++ []) ∙ append-nil ls

  pub register_lines_of : each_line register_kind all ≡ map line_of rs
  register_lines_of =
      split register_kind
      ∙ ap (λ l. (l ++ (each_line register_kind (map set_register rs) ++ each_line register_kind (map set_wire ws))) ++ each_line register_kind more)
      (each_none register_kind input_line ls (λ x. refl))
      ∙ ap (λ l. (l ++ each_line register_kind (map set_wire ws)) ++ each_line register_kind more) (each_one register_kind set_register (λ t. (t.0.0, t.0.1)) rs (λ x. refl) ∙ same_ties rs)
      ∙ ap (λ l. (map line_of rs ++ l) ++ each_line register_kind more) (each_none register_kind set_wire ws (λ x. refl))
      ∙ ap (λ l. (map line_of rs ++ []) ++ l) (temps_none register_kind no_register i more temps)
      ∙ append-nil (map line_of rs ++ []) ∙ append-nil (map line_of rs)

  pub wire_lines_of : each_line wire_kind all ≡ map line_of ws ++ temporaries i (map (λ (g : Signal). g.width) more)
  wire_lines_of =
      split wire_kind
      ∙ ap (λ l. (l ++ (each_line wire_kind (map set_register rs) ++ each_line wire_kind (map set_wire ws))) ++ each_line wire_kind more) (each_none wire_kind input_line ls (λ x. refl))
      ∙ ap (λ l. (l ++ each_line wire_kind (map set_wire ws)) ++ each_line wire_kind more) (each_none wire_kind set_register rs (λ x. refl))
      ∙ ap (λ l. l ++ each_line wire_kind more) (each_one wire_kind set_wire (λ t. (t.0.0, t.0.1)) ws (λ x. refl) ∙ same_ties ws)
      ∙ ap (λ l. map line_of ws ++ l) (temps_lines i more temps)

-- ---- what holds of each signal

abbrev pub AllSignals : (Signal → Type 0) → List Signal → Type 0
AllSignals Q [] = Unit {0}
AllSignals Q (g ∷ gs) = Q g × AllSignals Q gs

all_more : (Q : Signal → Type 0) (xs ys : List Signal) → AllSignals Q xs → AllSignals Q ys → AllSignals Q (xs ++ ys)
all_more Q [] ys a b = b
all_more Q (x ∷ xs) ys a b = (a.0, all_more Q xs ys a.1 b)

all_made : {A : Type 0} (Q : Signal → Type 0) (make : A → Signal) (xs : List A) → ((x : A) → Q (make x)) → AllSignals Q (map make xs)
all_made Q make [] f = tt
all_made Q make (x ∷ xs) f = (f x, all_made Q make xs f)

all_temps : (Q : Signal → Type 0) → ((g : Signal) → HasCell g.kind → Q g) → (i : ℕ) (gs : List Signal) → AreTemps i gs → AllSignals Q gs
all_temps Q f i [] h = tt
all_temps Q f i (g ∷ gs) h = (f g h.1, all_temps Q f (suc i) gs h.2)

all_get : (Q : Signal → Type 0) (gs : List Signal) (s : ℕ) (g : Signal) → AllSignals Q gs → slice_get gs s ≡ Some g → Q g
all_get Q [] s g h e = absurd (cc)
all_get Q (x ∷ gs) zero g h e = let q : x ≡ g = cc in subst Q q h.0
all_get Q (x ∷ gs) (suc s) g h e = all_get Q gs s g h.1 e

cell_set : (k : Kind) → HasCell k → IsSet k
cell_set Input h = absurd h
cell_set (Reg init next) h = absurd h
cell_set (Wire None) h = absurd h
cell_set (Wire (Some c)) h = tt

cell_reset : (k : Kind) → HasCell k → kind_reset k ≡ 0
cell_reset Input h = absurd h
cell_reset (Reg init next) h = absurd h
cell_reset (Wire None) h = absurd h
cell_reset (Wire (Some c)) h = refl

cell_free : (name : List ℕ) (k : Kind) → HasCell k → is_argument name k ≡ false
cell_free name Input h = absurd h
cell_free name (Reg init next) h = absurd h
cell_free name (Wire None) h = absurd h
cell_free name (Wire (Some c)) h = refl

all_of : (Q : Signal → Type 0) (ls : List Line) (rs ws : List Tie) (i : ℕ) (more : List Signal) → AreTemps i more → ((l : Line) → Q (input_line l)) →
    ((t : Tie) → Q (set_register t)) → ((t : Tie) → Q (set_wire t)) → ((g : Signal) → HasCell g.kind → Q g)
    → AllSignals Q ((map input_line ls ++ (map set_register rs ++ map set_wire ws)) ++ more)
all_of Q ls rs ws i more temps a b d e =
    all_more Q (map input_line ls ++ (map set_register rs ++ map set_wire ws)) more
    (all_more Q (map input_line ls) (map set_register rs ++ map set_wire ws) (all_made Q input_line ls a)
    (all_more Q (map set_register rs) (map set_wire ws) (all_made Q set_register rs b) (all_made Q set_wire ws d)))
    (all_temps Q e i more temps)

pub is_set : (ls : List Line) (rs ws : List Tie) (i : ℕ) (more : List Signal) (n : Netlist) → AreTemps i more → n.signals ≡
    (map input_line ls ++ (map set_register rs ++ map set_wire ws)) ++ more → AllSet n
is_set ls rs ws i more n temps e = λ s g at.
    all_get (λ (x : Signal). IsSet x.kind) ((map input_line ls ++ (map set_register rs ++ map set_wire ws)) ++ more) s g
    (all_of (λ (x : Signal). IsSet x.kind) ls rs ws i more temps (λ l. tt) (λ t. tt) (λ t. tt) (λ x h. cell_set x.kind h)) (ap (λ l. slice_get l s) (sym e) ∙ at)

pub is_reset : (ls : List Line) (rs ws : List Tie) (i : ℕ) (more : List Signal) (n : Netlist) → AreTemps i more → n.signals ≡
    (map input_line ls ++ (map set_register rs ++ map set_wire ws)) ++ more → (s : ℕ) → reset_state n s ≡ 0
is_reset ls rs ws i more n temps e s =
    by (slice_get n.signals s)
    (λ g at. all_get (λ (x : Signal). kind_reset x.kind ≡ 0) ((map input_line ls ++ (map set_register rs ++ map set_wire ws)) ++ more) s g
    (all_of (λ (x : Signal). kind_reset x.kind ≡ 0) ls rs ws i more temps (λ l. refl) (λ t. refl) (λ t. refl) (λ x h. cell_reset x.kind h)) (ap (λ l. slice_get l s) (sym e) ∙ at))
  where
    by : (o : Option Signal) → ((g : Signal) → o ≡ Some g → kind_reset g.kind ≡ 0) → reset_number o ≡ 0
    by None f = refl
    by (Some g) f = f g refl

-- ---- the numbers of the inputs

abbrev first_code : List ℕ → ℕ
first_code [] = 0
first_code (x ∷ xs) = x

pub not_start : (x : List ℕ) → bytes_eq (codes "in$" ++ x) (codes "start") ≡ false
not_start x = by (bytes_eq (codes "in$" ++ x) (codes "start")) refl
  where
    by : (b : Bool) → bytes_eq (codes "in$" ++ x) (codes "start") ≡ b → b ≡ false
    by true e = let q : codes "in$" ++ x ≡ codes "start" = (bytes_eq-Decides (codes "in$" ++ x) (codes "start")).0 e in let r : 105 ≡ 115 = ap first_code q in absurd (omega (arith, r))
    by false e = refl

index_end : (xs ys : List ℕ) (y : ℕ) → slice_index (xs ++ y ∷ ys) (length xs) ≡ y
index_end [] ys y = refl
index_end (x ∷ xs) ys y = index_end xs ys y

word_at : (n : Netlist) (v : Valuation) (s x y : ℕ) → width_of n s ≡ x → slice_index v s ≡ y → signal_word n v s ≡ as_word x y
word_at n v s x y e q = ap (λ a. record { width = a; bits = slice_index v s }) e ∙ ap (λ a. record { width = x; bits = a }) q

words_from : (n : Netlist) (v pre vs : Valuation) (front back : List Signal) (names : List (List ℕ)) (ws : List ℕ) → v ≡ pre ++ vs → length front ≡ length pre
    → n.signals ≡ front ++ (map input_line (named (map (λ x. codes "in$" ++ x) names) ws) ++ back) → length names ≡ length ws → length v ≡ length
    n.signals → AllSignals (λ g. is_argument g.name g.kind ≡ false) back
    → words (signal_word n v) (numbered (length pre) (length ws)) ≡ as_words ws (input_numbers (map input_line (named (map (λ x. codes "in$" ++ x) names) ws) ++ back) vs)
unfolding input_numbers
words_from n v pre vs front back names [] ev ef en el long none = refl
words_from n v pre vs front back [] (w ∷ ws) ev ef en el long none = absurd (omega (arith, el))
words_from n v pre [] front back (x ∷ names) (w ∷ ws) ev ef en el long none =
    let a = ap length ev in
    let b = length-append pre [] in
    let d = ap length en in
    let e = length-append front (input_line (codes "in$" ++ x, w) ∷ (map input_line (named (map (λ x. codes "in$" ++ x) names) ws) ++ back)) in
    absurd (omega (arith, a, b, d, e, ef, long))
words_from n v pre (y ∷ vs) front back (x ∷ names) (w ∷ ws) ev ef en el long none =
    let g : Signal = input_line (codes "in$" ++ x, w) in
    let rest = map input_line (named (map (λ x. codes "in$" ++ x) names) ws) ++ back in
    let lp = length-append pre (y ∷ []) in
    let lf = length-append front (g ∷ []) in
    let again = words_from n v (pre ++ y ∷ []) vs (front ++ g ∷ []) back names ws (ev ∙ sym (append_assoc pre (y ∷ []) vs))
    (omega (arith, lp, lf, ef)) (en ∙ sym (append_assoc front (g ∷ []) rest)) (omega (arith, el)) long none in
    let wide : width_of n (length pre) ≡ w = ap (λ l. width_in (slice_get l (length pre))) en ∙ ap (λ k. width_in (slice_get (front ++ (g ∷ rest)) k)) (sym ef) ∙ ap width_in (get_at front rest g) in
    let here = word_at n v (length pre) w y wide (ap (λ l. slice_index l (length pre)) ev ∙ index_end pre vs y) in
    ap (λ a. a ∷ words (signal_word n v) (numbered (suc (length pre)) (length ws))) here
    ∙ ap (λ l. as_word w y ∷ l) (ap (λ k. words (signal_word n v) (numbered k (length ws))) (let q : suc (length pre) ≡ length (pre ++ y ∷ []) = omega (arith, lp) in q) ∙ again)
    ∙ sym (ap (λ b. as_words (w ∷ ws) (cond (cond b false true) (y ∷ input_numbers rest vs) (input_numbers rest vs))) (not_start x))

-- the number of `start` is none of these
start_first : (gs : List Signal) (y : ℕ) (vs : List ℕ) → input_numbers gs vs ≡ input_numbers (input_line (codes "start", 1) ∷ gs) (y ∷ vs)
unfolding input_numbers
start_first gs y vs = sym (ap (λ b. cond (cond b false true) (y ∷ input_numbers gs vs) (input_numbers gs vs)) ((bytes_eq-Decides (codes "start") (codes "start")).1 refl))

-- the words of the ports are those of the inputs after `start`
pub input_words : (names : List (List ℕ)) (ws : List ℕ) (rs us : List Tie) (i : ℕ) (more : List Signal) (n : Netlist) (v : Valuation) → AreTemps i
    more → length names ≡ length ws → length v ≡ length n.signals
    → n.signals ≡ (map input_line ((codes "start", 1) ∷ named (map (λ x. codes "in$" ++ x) names) ws) ++ (map set_register rs ++ map set_wire us)) ++ more
    → words (signal_word n v) (numbered 1 (length ws)) ≡ as_words ws (input_numbers n.signals v)
unfolding input_numbers
input_words names ws rs us i more n [] temps el long e =
    let q : 0 ≡ suc (length ((map input_line (named (map (λ x. codes "in$" ++ x) names) ws) ++ (map set_register rs ++ map set_wire us)) ++ more)) = long ∙ ap length e in
    absurd (omega (arith, q))
input_words names ws rs us i more n (y ∷ vs) temps el long e =
    let port = map input_line (named (map (λ x. codes "in$" ++ x) names) ws) in
    let regs = map set_register rs in
    let wirs = map set_wire us in
    let back = (regs ++ wirs) ++ more in
    let free = all_more (λ g. is_argument g.name g.kind ≡ false) (regs ++ wirs) more
    (all_more (λ g. is_argument g.name g.kind ≡ false) regs wirs (all_made (λ g. is_argument g.name g.kind ≡ false) set_register rs (λ t. refl))
    (all_made (λ g. is_argument g.name g.kind ≡ false) set_wire us (λ t. refl)))
    (all_temps (λ g. is_argument g.name g.kind ≡ false) (λ g h. cell_free g.name g.kind h) i more temps) in
    let whole : n.signals ≡ (input_line (codes "start", 1) ∷ []) ++ (port ++ back) = e ∙ ap (λ l. input_line (codes "start", 1) ∷ l) (append_assoc port (regs ++ wirs) more) in
    words_from n (y ∷ vs) (y ∷ []) vs (input_line (codes "start", 1) ∷ []) back names ws refl refl whole el long free
    ∙ ap (λ l. as_words ws l) (start_first (port ++ back) y vs)
    ∙ ap (λ l. as_words ws (input_numbers l (y ∷ vs))) (sym whole)
