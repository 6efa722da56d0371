-- The calls and tail calls that the parts of a term have added.
use Rattle.safl_lower.proofs.Common.{Grows, Netlist, Out, Owner, Program, Sig, Spans, TailCall, Typed, Val, Want, Word, and-true}
use Rattle.safl_lower.proofs.Common.{false_true, gate, goes_of, or_else_none, pick, pick_ap, words}
use Rattle.std.proofs.Common.{◌≡◌, ℕ, zero, suc, ◌+◌, ◌<◌, List, [], ◌∷◌, ◌++◌, map, length, Option, Some, None, Bool, true, false, not, ◌&&◌}
use Rattle.std.proofs.Common.{◌==◌, refl, sym, ap, subst, ◌∙◌, arith, append_assoc}
use Rattle.safl_term.specs.Terms.{Term, Const, Var, Op, If, Let, Call, Loop}
use Rattle.safl_term.specs.Readiness.{Answer, Ready, LoopTo, NotYet, word_of, apply_to, loop_to, select, with_all, or_else, answer, answers}
use Rattle.safl_lower.specs.Entries.{Told, WantFits, LoopFits, WantsFit, LoopsFit, OutFits, member_of, Mates, cost}
use Rattle.safl_lower.proofs.Arms.{gate_none, if_wants, let_wants}
use Rattle.safl_lower.proofs.Building.{source_grown, sources_grown}
use Rattle.safl_lower.proofs.Goes.{goes_call, goes_with}

pub words_more : (v : Val) (xs ys : List Sig) → words v (xs ++ ys) ≡ words v xs ++ words v ys
words_more v [] ys = refl
words_more v (x ∷ xs) ys = ap (λ (l : List Word). v x.0 ∷ l) (words_more v xs ys)

pub stays : {A : Type 0} (x : Option A) (b : Bool) → x ≡ or_else x (gate b None)
stays x b = sym (ap (or_else x) (gate_none b) ∙ or_else_none x)

pub stays_by : {A : Type 0} (x y : Option A) (b : Bool) → y ≡ None → x ≡ or_else x (gate b y)
stays_by x y b e = stays x b ∙ ap (λ (o : Option _). or_else x (gate b o)) (sym e)

-- ---- terms outside tail position

pub pick_none : {A : Type 0} (n : ℕ) (y z : Option A) → y ≡ None → z ≡ None → pick n y z ≡ None
pick_none zero y z e f = f
pick_none (suc zero) y z e f = e
pick_none (suc (suc n)) y z e f = f

-- such a term goes on to no member
pub goes_nowhere : (p : Program) (g lo hi : ℕ) (back : ℕ → Option Word) (t : Term) (env : List Word) → Spans p g false lo hi t → goes_of (answer back env t) ≡ None
unfolding answer
goes_nowhere p g lo hi back (Const w) env h = refl
goes_nowhere p g lo hi back (Var i) env h = refl
goes_nowhere p g lo hi back (Op o ts) env h = by (answers back env ts)
  where
    by : (x : Option (List Word)) → goes_of (apply_to o x) ≡ None
    by None = refl
    by (Some vs) = refl
goes_nowhere p g lo hi back (If c a b) env (m, n, x, y, z) = by (answer back env c) (answer back env a) (answer back env b) (goes_nowhere p g m n back a env y) (goes_nowhere p g n hi back b env z)
  where
    by : (x y z : Answer) → goes_of y ≡ None → goes_of z ≡ None → goes_of (select x NotYet y z) ≡ None
    by (Ready w) y z e f = pick_ap goes_of w.bits y z ∙ pick_none w.bits (goes_of y) (goes_of z) e f
    by (LoopTo g vs) y z e f = refl
    by NotYet y z e f = refl
goes_nowhere p g lo hi back (Let bs b) env (m, x, y) = goes_with (answers back env bs) (λ vs. answer back (env ++ vs) b) (λ vs. goes_nowhere p g m hi back b (env ++ vs) y)
goes_nowhere p g lo hi back (Call f k ts) env h = goes_call (back k)
goes_nowhere p g lo hi back (Loop i ts) env h = false_true h.0

pub no_goes : {F : Owner} {slots : List ℕ} {w : ℕ} (back : ℕ → Option Word) (t : Term) (env : List Word) → Typed F false slots t w → goes_of (answer back env t) ≡ None
no_goes {F} back t env h = goes_nowhere F.program F.function h.low h.high back t env h.spans

-- ---- the entries

pub more_twice : {A : Type 0} (x0 x1 x2 a b : List A) → x1 ≡ x0 ++ a → x2 ≡ x1 ++ b → x2 ≡ x0 ++ (a ++ b)
more_twice x0 x1 x2 a b e f = f ∙ ap (λ (l : List _). l ++ b) e ∙ append_assoc x0 a b

pub wants_kept : {a b : Netlist} (F : Owner) (es : List Want) → Grows a b → WantsFit F a es → WantsFit F b es
wants_kept F [] g h = tt
wants_kept F (e ∷ es) g h = (record { bit = source_grown g e.want 1 h.0.bit; sized = sources_grown g e.args.items _ h.0.sized }, wants_kept F es g h.1)

pub loops_kept : {a b : Netlist} (F : Owner) (es : List TailCall) → Grows a b → LoopsFit F a es → LoopsFit F b es
loops_kept F [] g h = tt
loops_kept F (e ∷ es) g h = (record { bit = source_grown g e.taken 1 h.0.bit; sized = sources_grown g e.args.items _ h.0.sized }, loops_kept F es g h.1)

pub out_kept : {a b : Netlist} {F : Owner} {o : Out} → Grows a b → OutFits F a o → OutFits F b o
out_kept {F = F} {o = o} g h = record { wants = wants_kept F o.wants.items g h.wants; loops = loops_kept F o.loops.items g h.loops }

pub wants_end : (F : Owner) (n : Netlist) (es : List Want) (e : Want) → WantsFit F n es → WantFits F n e → WantsFit F n (es ++ e ∷ [])
wants_end F n [] e h k = (k, tt)
wants_end F n (x ∷ es) e h k = (h.0, wants_end F n es e h.1 k)

pub loops_end : (F : Owner) (n : Netlist) (es : List TailCall) (e : TailCall) → LoopsFit F n es → LoopFits F n e → LoopsFit F n (es ++ e ∷ [])
loops_end F n [] e h k = (k, tt)
loops_end F n (x ∷ es) e h k = (h.0, loops_end F n es e h.1 k)

-- ---- what is told

pub told_by : (v : Val) (es : List TailCall) (x y : Option (ℕ × List Word)) → ((z : ℕ × List Word) → Some z ≡ x → Some z ≡ y) → Told v es x → Told v es y
told_by v [] x y f h = tt
told_by v (e ∷ es) x y f h = (λ q. f (e.member, words v e.args.items) (h.0 q), told_by v es x y f h.1)

pub told_more : (v : Val) (es fs : List TailCall) (x : Option (ℕ × List Word)) → Told v es x → Told v fs x → Told v (es ++ fs) x
told_more v [] fs x h k = k
told_more v (e ∷ es) fs x h k = (h.0, told_more v es fs x h.1 k)

pub never_is : {A B : Type 0} (z : A) (x : Option A) → x ≡ None → Some z ≡ x → B
never_is z x e f = absurd (cc)

pub gate_is_none : {A : Type 0} (p : Bool) (x : Option A) → x ≡ None → gate p x ≡ None
gate_is_none true x e = e
gate_is_none false x e = refl

pub if_first : {A : Type 0} (p r : Bool) (w : Word) (c : Answer) (x y : Option A) (z : A) → gate r (Some w) ≡ word_of c → Some z ≡ gate
    ((p && r) && (w.bits == 1)) x → Some z ≡ gate p (select c None x y)
if_first p r w c x y z e h =
    ap (λ (o : Option _). or_else o (gate (((p && r) && not (w.bits == 1)) && true) y)) (h ∙ ap (λ (b : Bool). gate b x) (sym (and-true _)))
    ∙ if_wants p true r w c x y e ∙ ap (λ (b : Bool). gate b (select c None x y)) (and-true p)

off_other : {A : Type 0} (s t : Bool) (y x : Option A) (z : A) → Some z ≡ gate (s && not t) y → gate (s && t) x ≡ None
off_other true true y x z h = absurd (cc)
off_other true false y x z h = refl
off_other false t y x z h = refl

pub if_second : {A : Type 0} (p r : Bool) (w : Word) (c : Answer) (x y : Option A) (z : A) → gate r (Some w) ≡ word_of c → Some z ≡ gate
    ((p && r) && not (w.bits == 1)) y → Some z ≡ gate p (select c None x y)
if_second p r w c x y z e k =
    k ∙ ap (λ (b : Bool). gate b y) (sym (and-true _))
    ∙ ap (λ (o : Option _). or_else o (gate (((p && r) && not (w.bits == 1)) && true) y)) (sym (ap (λ (b : Bool). gate b x) (and-true _) ∙ off_other (p && r) (w.bits == 1) y x z k))
    ∙ if_wants p true r w c x y e ∙ ap (λ (b : Bool). gate b (select c None x y)) (and-true p)

pub let_second : {A : Type 0} (p r : Bool) (ws : List Word) (o : Option (List Word)) (go : List Word → Option A) (x : Option A) (z : A) → gate r
    (Some ws) ≡ o → x ≡ go ws → Some z ≡ gate (p && r) x → Some z ≡ gate p (with_all o None go)
let_second p r ws o go x z e g h =
    h ∙ ap (gate (p && r)) g ∙ ap (λ (b : Bool). gate b (go ws)) (sym (and-true (p && r)))
    ∙ let_wants p true r ws o go e ∙ ap (λ (b : Bool). gate b (with_all o None go)) (and-true p)

pub taken_tells : (h : ℕ) (t p r : Bool) (ws : List Word) (o : Option (List Word)) → t ≡ (p && r) → gate r (Some ws) ≡ o → t ≡ true → Some (h, ws) ≡ gate p (goes_of (loop_to h o))
taken_tells h t true true ws None e f g = absurd (cc)
taken_tells h t true true ws (Some vs) e f g = let q : ws ≡ vs = cc in ap (λ (l : List Word). Some (h, l)) q
taken_tells h t true false ws o e f g = absurd (cc)
taken_tells h t false r ws o e f g = absurd (cc)

pub cost_end : (es : List TailCall) (e : TailCall) → cost (es ++ e ∷ []) ≡ cost es + (1 + length e.args.items)
cost_end [] e = omega arith
cost_end (d ∷ es) e = let h = cost_end es e in omega (arith, h)

pub mates_end : (F : Owner) (ks : List ℕ) (k : ℕ) → Mates F ks → k < F.program.functions → F.program.unit k ≡ F.program.unit F.function → Mates F (ks ++ k ∷ [])
mates_end F [] k h l m = (l, m, tt)
mates_end F (j ∷ ks) k h l m = (h.0, h.1, mates_end F ks k h.2 l m)

pub mates_same : (F : Owner) (es fs : List TailCall) → fs ≡ es → Mates F (map member_of es) → Mates F (map member_of fs)
mates_same F es fs e h = subst (λ (l : List TailCall). Mates F (map member_of l)) (sym e) h
