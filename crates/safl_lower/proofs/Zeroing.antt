-- Words that are 0 unless they are ready, and what cells say of them.
use Rattle.safl_lower.proofs.Common.{Always, AreSources, Form, IsSource, Load, Lowered, Readiness, ReadyAt, Sig, Word, eqb-true, fits, gate}
use Rattle.safl_lower.proofs.Common.{get_some, is_ready, on, op_width, unwrap_or, width_is, width_max, wired_before, word_eq}
use Rattle.std.proofs.Common.{◌≡◌, ℕ, zero, suc, ◌<◌, ◌≤◌, List, [], ◌∷◌, ◌++◌, map, length, All, Option, Some, None, Bool, true, false, ◌&&◌, ◌==◌, cond}
use Rattle.std.proofs.Common.{slice_get, Result, Ok, Err, IfOk, OnOk, refl, sym, ap, subst, ◌∙◌, arith}
use Rattle.std.proofs.lemmas.List.{length-map}
use Rattle.safl_net.specs.declared.cell.Op.{Op}
use Rattle.safl_net.specs.declared.cell.Op.TheVariants.{Const, Mux}
use Rattle.safl_net.specs.declared.cell.Cell.{Cell as Made}
use Rattle.safl_net.specs.Netlist.{Netlist, Signal, Kind, Input, Reg, Wire, Cell, width_in, width_of}
use Rattle.safl_net.specs.Valuations.{cell_word}
use Rattle.safl_net.specs.Rules.{IsNetlist, KindFits, CellFits}
use Rattle.safl_net.specs.Making.{kind_at, kind_in, cell_in, numbers, signal_widths}
use Rattle.safl_net.specs.Stored.{cell_of}
use Rattle.safl_net.specs.Growth.{Val, words, Wired, Grows, KindHolds, maybe_width, width_at}
use Rattle.safl_net.specs.Settled.{IsSettled, IsSteady}
use Rattle.safl_lower.specs.declared.resets.Form.TheVariants.{Zero, Choice, Other}
use Rattle.safl_lower.specs.Tables.{pin, taken_in, FitsIn}
use Rattle.safl_lower.specs.Lowering.{gives, Shaped}
use Rattle.safl_lower.specs.Resets.{zero_word, word_or_zero, word_in, HasWordOf, LoadsWord, Splits, IsOfForm, IsConstantForm, IsChoiceForm}
use Rattle.safl_lower.proofs.BitWords.{choose_is}
use Rattle.safl_lower.proofs.Cells.{sources_length}

-- ---- what is ready, and what is not

pub gate_else : {A : Type 0} (p : Bool) (a b : A) → unwrap_or (gate p (Some a)) b ≡ cond p a b
gate_else true a b = refl
gate_else false a b = refl

pub when_ready : (v : Val) (w : ℕ) (r : Lowered) (q : Readiness) → r.ready ≡ q → word_or_zero v w r ≡ cond (is_ready v q) (v r.value.0) (zero_word w)
when_ready v w r q e = ap (λ (x : Readiness). unwrap_or (gate (is_ready v x) (Some (v r.value.0))) (zero_word w)) e ∙ gate_else (is_ready v q) (v r.value.0) (zero_word w)

-- a choice between two of them
pub chosen_or_zero : {A : Type 0} (b : Bool) (p q : Option A) (d : A) → unwrap_or (cond b p q) d ≡ cond b (unwrap_or p d) (unwrap_or q d)
chosen_or_zero true p q d = refl
chosen_or_zero false p q d = refl

-- what a choice by a bit gives
pub chosen_one : (v : Val) (x test taken other : Lowered) (c : Sig) (w : ℕ) → test.ready ≡ Always → test.value ≡ c →
    gives v x ≡ gate (is_ready v test.ready) (cond (on v test.value) (gives v taken) (gives v other))
    → word_or_zero v w x ≡ cond (on v c) (word_or_zero v w taken) (word_or_zero v w other)
chosen_one v x test taken other c w p q h =
    ap (λ (o : Option Word). unwrap_or o (zero_word w))
    (h ∙ ap (λ (z : Readiness). gate (is_ready v z) (cond (on v test.value) (gives v taken) (gives v other))) p
    ∙ ap (λ (s : Sig). cond (on v s) (gives v taken) (gives v other)) q)
    ∙ chosen_or_zero (on v c) (gives v taken) (gives v other) (zero_word w)

pub chosen_word : {E : Type 0} (m : Netlist) (r : Result Lowered E) (test taken other : Lowered) (c : Sig) (w : ℕ) → test.ready ≡ Always → test.value ≡ c →
    IfOk r (λ x. (v : Val) → Wired m v → gives v x ≡ gate (is_ready v test.ready) (cond (on v test.value) (gives v taken) (gives v other)))
    → IfOk r (λ x. (v : Val) → Wired m v → word_or_zero v w x ≡ cond (on v c) (word_or_zero v w taken) (word_or_zero v w other))
chosen_word m (Err e) test taken other c w p q h = tt
chosen_word m (Ok x) test taken other c w p q h = λ v u. chosen_one v x test taken other c w p q (h v u)

pub split_word : {E : Type 0} (n m : Netlist) (r : Result Lowered E) (s c : Sig) (taken other : Lowered) (w : ℕ) → Grows n m → Splits n w s c taken other →
    IfOk r (λ x. (v : Val) → Wired m v → word_or_zero v w x ≡ cond (on v c) (word_or_zero v w taken) (word_or_zero v w other))
    → IfOk r (λ x. HasWordOf m w s x)
split_word n m (Err e) s c taken other w g p h = tt
split_word n m (Ok x) s c taken other w g p h = λ v u. p v (wired_before g u) ∙ sym (h v u)

pub pin_is : (xs : List Sig) (i : ℕ) (s : Sig) → slice_get xs i ≡ Some s → pin xs i ≡ s
pin_is [] i s e = absurd (cc)
pin_is (x ∷ xs) zero s e = let k : x ≡ s = cc in k
pin_is (x ∷ xs) (suc i) s e = pin_is xs i s e

pub loads_word : {E : Type 0} (n m : Netlist) (r : Result Lowered E) (o : Option Load) (l : Load) (i : ℕ) (s : Sig) (taken other : Lowered) (w : ℕ) → Grows n m →
    o ≡ Some l → slice_get l.words.items i ≡ Some s → HasWordOf n w s taken
    → IfOk r (λ x. (v : Val) → Wired m v → word_or_zero v w x ≡ cond (on v l.bit) (word_or_zero v w taken) (word_or_zero v w other))
    → IfOk r (λ x. LoadsWord m o i w other x)
loads_word n m (Err e) o l i s taken other w g is at p h = tt
loads_word n m (Ok x) o l i s taken other w g is at p h = λ v u.
    let here : pin l.words.items i ≡ s = pin_is l.words.items i s at in
    h v u ∙ ap (λ (z : Word). cond (on v l.bit) z (word_or_zero v w other)) (sym (p v (wired_before g u)) ∙ sym (ap (λ (z : Sig). v z.0) here))
    ∙ sym (ap (λ (z : Option Load). word_in v z i (word_or_zero v w other)) is)

pub if_ok : {A E : Type 0} (r : Result A E) {P : Type 0} → P → OnOk r P
if_ok (Ok x) p = p
if_ok (Err e) p = tt

-- ---- the words of a load at a place

pub placed : (n : Netlist) (xs : List Sig) (ws : List ℕ) (i w : ℕ) → AreSources n xs ws → slice_get ws i ≡ Some w → (i < length xs) × ((x : Sig) → slice_get xs i ≡ Some x → IsSource n x w)
placed n [] [] i w h e = absurd (cc)
placed n [] (u ∷ us) i w h e = absurd h.widths
placed n (x ∷ xs) [] i w h e = absurd h.widths
placed n (x ∷ xs) (u ∷ us) zero w h e = (
  omega arith,
  λ y q.
      let p : x ≡ y = cc in
      let k : u ≡ w = cc in
      subst (λ (z : Sig). IsSource n z w) p (subst (λ (z : ℕ). IsSource n x z) k (record { width = h.widths.0; steady = h.steady.0 })),
)
placed n (x ∷ xs) (u ∷ us) (suc i) w h e =
    let r = placed n xs us i w (record { widths = h.widths.1; steady = h.steady.1 }) e in
    let l = r.0 in
    (omega (arith, l), r.1)

pub mapped : (v : Val) (xs : List Sig) (i : ℕ) → i < length xs → slice_get (words v xs) i ≡ Some (v (pin xs i).0)
mapped v [] i l = absurd (omega (arith, l))
mapped v (x ∷ xs) zero l = refl
mapped v (x ∷ xs) (suc i) l = mapped v xs i (omega (arith, l))

pub loaded_at : (n : Netlist) (v : Val) (o : Option Load) (ws : List ℕ) (us : List Word) (i w : ℕ) (u : Word) → FitsIn n o ws → slice_get ws i ≡ Some w → slice_get us i ≡ Some u →
    slice_get (unwrap_or (taken_in v o) us) i ≡ Some (word_in v o i u)
loaded_at n v None ws us i w u f k e = e
loaded_at n v (Some l) ws us i w u f k e = by (on v l.bit)
  where
    by : (b : Bool) → slice_get (unwrap_or (gate b (Some (words v l.words.items))) us) i ≡ Some (cond b (v (pin l.words.items i).0) u)
    by true = mapped v l.words.items i (placed n l.words.items ws i w f.words k).0
    by false = e

pub loaded_long : (n : Netlist) (v : Val) (o : Option Load) (ws : List ℕ) (us : List Word) → FitsIn n o ws → length us ≡ length ws → length (unwrap_or (taken_in v o) us) ≡ length ws
loaded_long n v None ws us f e = e
loaded_long n v (Some l) ws us f e = by (on v l.bit)
  where
    by : (b : Bool) → length (unwrap_or (gate b (Some (words v l.words.items))) us) ≡ length ws
    by true = length-map l.words.items (λ (s : Sig). v s.0) ∙ sources_length n l.words.items ws f.words
    by false = e

pub words_end : (v : Val) (xs : List Sig) (x : Sig) → words v (xs ++ x ∷ []) ≡ words v xs ++ v x.0 ∷ []
words_end v [] x = refl
words_end v (y ∷ xs) x = ap (λ (l : List Word). v y.0 ∷ l) (words_end v xs x)

-- a word that is always ready
pub always_shaped : (n : Netlist) (r : Lowered) (s : Sig) (w : ℕ) → r.ready ≡ Always → r.value ≡ s → IsSource n s w → Shaped n r w
always_shaped n r s w p q h = record { ready = subst (λ (z : Readiness). ReadyAt n z) (sym p) tt; width = λ e. subst (λ (z : Sig). IsSource n z w) (sym q) h }

-- ---- widths

pub same_width : (n : Netlist) (s : Sig) (w k : ℕ) → IsSource n s w → k ≡ width_of n s.0 → k ≡ w
same_width n s w k q e = e ∙ width_is n s.0 w q.width

-- a signal's width is that of a word
pub width_fits : (n : Netlist) → IsNetlist n → (s w : ℕ) → width_at n s ≡ Some w → (1 ≤ w) × (w ≤ width_max)
width_fits n made s w e = by (slice_get n.signals s) refl e
  where
    by : (o : Option Signal) → slice_get n.signals s ≡ o → maybe_width o ≡ Some w → (1 ≤ w) × (w ≤ width_max)
    by None q h = absurd (cc)
    by (Some g) q h =
        let k : g.width ≡ w = cc in
        let f = made.signals s g q in
        subst (λ (x : ℕ). (1 ≤ x) × (x ≤ width_max)) k (f.some, f.most)

width_there : (n : Netlist) (s : ℕ) → s < length n.signals → width_at n s ≡ Some (width_of n s)
width_there n s l = let g = get_some n.signals s l in ap maybe_width g.1 ∙ sym (ap (λ (o : Option Signal). Some (width_in o)) g.1)

-- ---- cells

kind_of_cell : (k : Kind) (c : Cell) → Some c ≡ cell_in k → k ≡ Wire (Some c)
kind_of_cell Input c e = absurd (cc)
kind_of_cell (Reg init next) c e = absurd (cc)
kind_of_cell (Wire cell) c e = ap Wire (sym e)

signal_here : (n : Netlist) (s : ℕ) (c : Cell) → kind_at n s ≡ Wire (Some c) → (g : Signal) × (slice_get n.signals s ≡ Some g) × (g.kind ≡ Wire (Some c))
signal_here n s c e = by (slice_get n.signals s) refl e
  where
    by : (o : Option Signal) → slice_get n.signals s ≡ o → kind_in o ≡ Wire (Some c) → (g : Signal) × (slice_get n.signals s ≡ Some g) × (g.kind ≡ Wire (Some c))
    by None q h = absurd (cc)
    by (Some g) q h = (g, q, h)

-- a wire has the word of its cell
cell_shows : (n : Netlist) (v : Val) (s : ℕ) (c : Cell) → Wired n v → kind_at n s ≡ Wire (Some c) → v s ≡ cell_word c.op (map v c.operands)
cell_shows n v s c w e = let g = signal_here n s c e in subst (KindHolds v (v s)) g.2 (w.each s g.0 g.1).kind

cell_fits : (n : Netlist) → IsNetlist n → (s : ℕ) (c : Cell) → kind_at n s ≡ Wire (Some c) → CellFits n (width_of n s) c
cell_fits n made s c e =
    let g = signal_here n s c e in
    let k : width_of n s ≡ g.0.width = ap width_in g.1 in
    subst (λ (x : ℕ). CellFits n x c) (sym k) (subst (KindFits n g.0.width) g.2 (made.signals s g.0 g.1).kind)

-- the word of a constant that is 0
pub constant_right : (n : Netlist) (s : Sig) (d : Made) (word : Word) → Some (cell_of d) ≡ cell_in (kind_at n s.0) → d.op ≡ Const word → (r : Form) → IsConstantForm word r →
    (w : ℕ) → IsSource n s w → IsOfForm n s w r
constant_right n s d word e o (Choice c a b) h w q = absurd h
constant_right n s d word e o Other h w q = tt
constant_right n s d word e o Zero h w q = λ v u.
    let f = fits n v s.0 w u q.width in
    let x : v s.0 ≡ word = cell_shows n v s.0 (cell_of d) u (kind_of_cell (kind_at n s.0) (cell_of d) e) ∙ ap (λ (p : Op). cell_word p (map v (numbers d.operands.items))) o in
    word_eq (v s.0) (zero_word w) f.width (ap (λ (x : Word). x.bits) x ∙ h)

mux_widths : (c a b w : ℕ) → op_width Mux (c ∷ a ∷ b ∷ []) ≡ Some w → (c ≡ 1) × (a ≡ w) × (b ≡ w)
mux_widths c a b w e = by (c == 1) (a == b) refl refl e
  where
    by : (p q : Bool) → (c == 1) ≡ p → (a == b) ≡ q → cond (p && q) (Some a) None ≡ Some w → (c ≡ 1) × (a ≡ w) × (b ≡ w)
    by true true x y h = let k : a ≡ w = cc in (eqb-true c 1 x, k, sym (eqb-true a b y) ∙ k)
    by true false x y h = absurd (cc)
    by false q x y h = absurd (cc)

-- the operands of a choice, and its word
pub choice_right : (n : Netlist) → IsNetlist n → IsSettled n → (s : Sig) (d : Made) → Some (cell_of d) ≡ cell_in (kind_at n s.0) → d.op ≡ Mux → (xs : List Sig) →
    xs ≡ d.operands.items → (r : Form) → IsChoiceForm xs r → (w : ℕ) → IsSource n s w → IsOfForm n s w r
choice_right n made settled s d e o xs l Zero h w q = absurd h
choice_right n made settled s d e o xs l Other h w q = absurd h
choice_right n made settled s d e o xs l (Choice c a b) h w q =
    let k = kind_of_cell (kind_at n s.0) (cell_of d) e in
    let g = signal_here n s.0 (cell_of d) k in
    let three : numbers d.operands.items ≡ c.0 ∷ a.0 ∷ b.0 ∷ [] = ap numbers (sym l ∙ h) in
    let f = cell_fits n made s.0 (cell_of d) k in
    let known = subst (All (λ (t : ℕ). t < length n.signals)) three f.known in
    let gives : op_width Mux (signal_widths n (c.0 ∷ a.0 ∷ b.0 ∷ [])) ≡ Some (width_of n s.0) =
    sym (ap (λ (p : Op). op_width p (signal_widths n (c.0 ∷ a.0 ∷ b.0 ∷ []))) o) ∙ sym (ap (λ (ts : List ℕ). op_width d.op (signal_widths n ts)) three) ∙ f.gives in
    let m = mux_widths (width_of n c.0) (width_of n a.0) (width_of n b.0) (width_of n s.0) gives in
    let same : width_of n s.0 ≡ w = width_is n s.0 w q.width in
    let steady : (i t : ℕ) → slice_get (c.0 ∷ a.0 ∷ b.0 ∷ []) i ≡ Some t → IsSteady n t =
    λ i t p. settled.reads s.0 t i g.0 (cell_of d) g.1 g.2 (ap (λ (ts : List ℕ). slice_get ts i) three ∙ p) in
    record {
      test = record { width = width_there n c.0 (known 0 0 (omega arith)) ∙ ap Some m.0; steady = steady 0 c.0 refl };
      taken = record { width = width_there n a.0 (known 1 0 (omega arith)) ∙ ap Some (m.1 ∙ same); steady = steady 1 a.0 refl };
      other = record { width = width_there n b.0 (known 2 0 (omega arith)) ∙ ap Some (m.2 ∙ same); steady = steady 2 b.0 refl };
      word = λ v u.
          cell_shows n v s.0 (cell_of d) u k ∙ ap (λ (p : Op). cell_word p (map v (numbers d.operands.items))) o
          ∙ ap (λ (ts : List ℕ). cell_word Mux (map v ts)) three ∙ choose_is (v c.0) (v a.0) (v b.0);
    }

pub choice_three : (n : Netlist) → IsNetlist n → (s : Sig) (d : Made) → Some (cell_of d) ≡ cell_in (kind_at n s.0) → d.op ≡ Mux → (xs : List Sig) → xs ≡ d.operands.items → length xs ≡ 3
choice_three n made s d e o xs l =
    let f = cell_fits n made s.0 (cell_of d) (kind_of_cell (kind_at n s.0) (cell_of d) e) in
    ap length l ∙ by d.operands.items (sym (ap (λ (p : Op). op_width p (signal_widths n (numbers d.operands.items))) o) ∙ f.gives)
  where
    by : (ys : List Sig) → op_width Mux (signal_widths n (numbers ys)) ≡ Some (width_of n s.0) → length ys ≡ 3
    by [] h = absurd (cc)
    by (x ∷ []) h = absurd (cc)
    by (x ∷ y ∷ []) h = absurd (cc)
    by (x ∷ y ∷ z ∷ []) h = refl
    by (x ∷ y ∷ z ∷ t ∷ ys) h = absurd (cc)
