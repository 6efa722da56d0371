-- How the circuits of parts make the circuit of a term: pure facts on options and bits.
use Rattle.safl_lower.proofs.Common.{Word, choose, gate, or_else_none}
use Rattle.std.proofs.Common.{◌≡◌, List, [], ◌∷◌, ◌++◌, Option, Some, None, Bool, true, false, not, ◌&&◌, cond, ◌==◌, refl, sym, ap, ◌∙◌}
use Rattle.std.proofs.lemmas.Option.{same_Some}
use Rattle.safl_term.specs.Readiness.{Answer, Ready, LoopTo, NotYet, word_of, select, with_all, or_else}
use Rattle.safl_lower.proofs.BitWords.{choose_is}

-- ---- options

pub gate_or : {A : Type 0} (b : Bool) (x y : Option A) → gate b (or_else x y) ≡ or_else (gate b x) (gate b y)
gate_or true x y = refl
gate_or false x y = refl

pub gate_none : {A : Type 0} (b : Bool) → gate {A = A} b None ≡ None
gate_none true = refl
gate_none false = refl

pub gate_gate : {A : Type 0} (a b : Bool) (x : Option A) → gate a (gate b x) ≡ gate (a && b) x
gate_gate true b x = refl
gate_gate false b x = refl

-- ---- an if: r and w are the readiness and the word of the condition

abbrev pub sel : Bool → Word → Answer → Type 0
sel r w a = gate r (Some w) ≡ word_of a

-- value
pub if_value : (r : Bool) (w : Word) (c a b : Answer) (x y : Option Word) → gate r (Some w) ≡ word_of c → x ≡ word_of a → y ≡ word_of b
    → gate r (cond (w.bits == 1) x y) ≡ word_of (select c NotYet a b)
if_value true w (Ready u) a b x y e f g = by (w.bits == 1) ∙ ap word_of (sym (choose_is w a b)) ∙ ap (λ (z : Word). word_of (choose z a b)) (same_Some _ _ e)
  where
    by : (t : Bool) → cond t x y ≡ word_of (cond t a b)
    by true = f
    by false = g
if_value true w (LoopTo h vs) a b x y e f g = absurd (cc)
if_value true w NotYet a b x y e f g = absurd (cc)
if_value false w (Ready u) a b x y e f g = absurd (cc)
if_value false w (LoopTo h vs) a b x y e f g = refl
if_value false w NotYet a b x y e f g = refl

-- where a choice is ready, it has the word of the branch that is selected
pub chosen : (t c y n r : Bool) (wy wn w : Word) → r ≡ (t && cond c y n) → (cond c y n ≡ true → w ≡ cond c wy wn) → gate r (Some w) ≡ gate t (cond c (gate y (Some wy)) (gate n (Some wn)))
chosen false c y n r wy wn w e h = ap (λ (b : Bool). gate b (Some w)) e
chosen true true true n r wy wn w e h = ap (λ (b : Bool). gate b (Some w)) e ∙ ap (λ (x : Word). Some x) (h refl)
chosen true true false n r wy wn w e h = ap (λ (b : Bool). gate b (Some w)) e
chosen true false y true r wy wn w e h = ap (λ (b : Bool). gate b (Some w)) e ∙ ap (λ (x : Word). Some x) (h refl)
chosen true false y false r wy wn w e h = ap (λ (b : Bool). gate b (Some w)) e

-- wants (and tail calls) below the two paths
pub if_wants : {A : Type 0} (p q r : Bool) (w : Word) (c : Answer) (x y : Option A) → gate r (Some w) ≡ word_of c
    → or_else (gate (((p && r) && (w.bits == 1)) && q) x) (gate (((p && r) && not (w.bits == 1)) && q) y) ≡ gate (p && q) (select c None x y)
if_wants false q r w c x y e = sym (gate_none' {B = _} (select c None x y))
  where
    gate_none' : {B : Type 0} (o : Option B) → gate false o ≡ None
    gate_none' o = refl
if_wants true q true w (Ready x) a b e = by (w.bits == 1) ∙ ap (gate q) (sym (choose_is w a b)) ∙ ap (λ (y : Word). gate q (choose y a b)) (same_Some _ _ e)
  where
    by : (t : Bool) → or_else (gate (t && q) a) (gate (not t && q) b) ≡ gate q (cond t a b)
    by true = or_else_none (gate q a)
    by false = refl
if_wants true q true w (LoopTo h vs) a b e = absurd (cc)
if_wants true q true w NotYet a b e = absurd (cc)
if_wants true q false w (Ready x) a b e = absurd (cc)
if_wants true q false w (LoopTo h vs) a b e = sym (gate_none q)
if_wants true q false w NotYet a b e = sym (gate_none q)

-- ---- a let: r and ws are the readiness and the words of the bindings

pub let_value : (r s : Bool) (ws : List Word) (o : Option (List Word)) (w : Word) (go : List Word → Answer) → gate r (Some ws) ≡ o → gate s (Some w) ≡ word_of (go ws)
    → gate (r && s) (Some w) ≡ word_of (with_all o NotYet go)
let_value true s ws (Some x) w go e f = f ∙ ap (λ (l : List Word). word_of (go l)) (some_words e)
  where
    some_words : {x y : List Word} → Some x ≡ Some y → x ≡ y
    some_words e = cc
let_value true s ws None w go e f = absurd (cc)
let_value false s ws None w go e f = refl
let_value false s ws (Some x) w go e f = absurd (cc)

pub let_wants : {A : Type 0} (p q r : Bool) (ws : List Word) (o : Option (List Word)) (go : List Word → Option A) → gate r (Some ws) ≡ o
    → gate ((p && r) && q) (go ws) ≡ gate (p && q) (with_all o None go)
let_wants false q r ws o go e = refl
let_wants true q true ws (Some x) go e = ap (λ (l : List Word). gate q (go l)) (some_words e)
  where
    some_words : {x y : List Word} → Some x ≡ Some y → x ≡ y
    some_words e = cc
let_wants true q true ws None go e = absurd (cc)
let_wants true q false ws None go e = sym (gate_none q)
let_wants true q false ws (Some x) go e = absurd (cc)

-- ---- lists of parts

-- the words so far, and one more
abbrev pub and_then : Option (List Word) → Option Word → Option (List Word)
and_then None o = None
and_then (Some vs) None = None
and_then (Some vs) (Some w) = Some (vs ++ w ∷ [])

pub join : (r s : Bool) (ws : List Word) (w : Word) → and_then (gate r (Some ws)) (gate s (Some w)) ≡ gate (r && s) (Some (ws ++ w ∷ []))
join true true ws w = refl
join true false ws w = refl
join false s ws w = refl
