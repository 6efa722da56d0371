-- What a new temporary adds to a net.
use Rattle.safl_lower.proofs.Common.{AreSources, Builds, IsSource, IsTidy, Netlist, Sig, Word, on, op_width}
use Rattle.std.proofs.Common.{◌≡◌, ℕ, List, [], ◌∷◌, ◌++◌, true, false, subst, Some, Bool, not, cond, Result, Ok, Err, IfOk, OnOk, OnErr, length}
use Rattle.std.proofs.Common.{take, slice_get, suc, zero, ◌+◌, refl, ap, sym, ◌∙◌, add-one, arith}
use Rattle.safl_net.specs.declared.cell.Op.{Op}
use Rattle.safl_net.specs.Making.{with_signal, temporary}
use Rattle.safl_net.specs.Growth.{Val, words, Wired, width_at}
use Rattle.safl_net.specs.Settled.{AreSteady, Settles}
use Rattle.safl_net.proofs.Growth.{Made, made, sized_gives}
use Rattle.safl_net.proofs.Settling.{settles_temp, settles_same, steady_new}
use Rattle.safl_net.proofs.Growth.{wired_before}

settles_made : {E : Type 0} (n m : Netlist) (r : Result Sig E) (op : Op) (xs : List Sig) → AreSteady n xs → OnOk r (m ≡ with_signal n (temporary n op xs)) → OnErr r (m ≡ n) → Settles n m
settles_made n m (Ok s) op xs h a b = settles_temp n m op xs h a
settles_made n m (Err e) op xs h a b = settles_same n m b

source_made : {E : Type 0} (n m : Netlist) (r : Result Sig E) (op : Op) (xs : List Sig) (w : ℕ) → OnOk r (m ≡ with_signal n (temporary n op xs)) →
    IfOk r (λ s. s.0 ≡ length n.signals) → IfOk r (λ s. width_at m s.0 ≡ Some w) → IfOk r (λ s. IsSource m s w)
source_made n m (Ok s) op xs w a b h = record { width = h; steady = steady_new n m (temporary n op xs) s.0 tt a b }
source_made n m (Err e) op xs w a b h = tt

-- a cell on signals that may be read
module _ {E : Type 0} (n m : Netlist) (r : Result Sig E) (op : Op) (xs : List Sig) (added : OnOk r (m ≡ with_signal n (temporary n op xs)))
    (numbered : IfOk r (λ s. s.0 ≡ length n.signals)) (refused : OnErr r (m ≡ n)) where
  pub cell_made : (ws : List ℕ) (w : ℕ) → AreSources n xs ws → op_width op ws ≡ Some w → Made n m r w op xs
  cell_made ws w h e = made n m r w op xs (sized_gives n op xs ws w h.widths e) added numbered refused

  pub cell_builds : (ws : List ℕ) (w : ℕ) → AreSources n xs ws → op_width op ws ≡ Some w → IsTidy m → Builds n m 1
  cell_builds ws w h e t = let k = cell_made ws w h e in record { tidy = t; grows = k.grows; settles = settles_made n m r op xs h.steady added refused; count = k.count }

  pub cell_source : (ws : List ℕ) (w : ℕ) → AreSources n xs ws → op_width op ws ≡ Some w → IfOk r (λ s. IsSource m s w)
  cell_source ws w h e = source_made n m r op xs w added numbered (cell_made ws w h e).width

pub one_source : {n : Netlist} {a : Sig} {w : ℕ} → IsSource n a w → AreSources n (a ∷ []) (w ∷ [])
one_source p = record { widths = (p.width, tt); steady = (p.steady, tt) }

pub two_sources : {n : Netlist} {a b : Sig} {u w : ℕ} → IsSource n a u → IsSource n b w → AreSources n (a ∷ b ∷ []) (u ∷ w ∷ [])
two_sources p q = record { widths = (p.width, (q.width, tt)); steady = (p.steady, (q.steady, tt)) }

pub three_sources : {n : Netlist} {a b c : Sig} {u v w : ℕ} → IsSource n a u → IsSource n b v → IsSource n c w → AreSources n (a ∷ b ∷ c ∷ []) (u ∷ v ∷ w ∷ [])
three_sources p q s = record { widths = (p.width, (q.width, (s.width, tt))); steady = (p.steady, (q.steady, (s.steady, tt))) }

pub no_sources : (n : Netlist) → AreSources n [] []
no_sources n = record { widths = tt; steady = tt }

-- a gate of one bit and of another that is turned
pub with_not : {E : Type 0} (f : Bool → Bool → Bool) (n m : Netlist) (r : Result Sig E) (a b turned : Sig) → Builds n m 1 → ((v : Val) → Wired n v → on v turned ≡ not (on v b))
    → IfOk r (λ s. (v : Val) → Wired m v → on v s ≡ f (on v a) (on v turned)) → IfOk r (λ s. (v : Val) → Wired m v → on v s ≡ f (on v a) (not (on v b)))
with_not f n m (Ok s) a b turned g t h = λ v w. h v w ∙ ap (f (on v a)) (t v (wired_before g.grows w))
with_not f n m (Err e) a b turned g t h = tt

-- ---- choosing between lists, one by one

-- the list up to a number is one longer
pub words_next : (v : Val) (xs : List Sig) (i : ℕ) (x : Sig) → slice_get xs i ≡ Some x → words v (take (suc i) xs) ≡ words v (take i xs) ++ v x.0 ∷ []
words_next v [] i x e = absurd (cc)
words_next v (y ∷ xs) zero x e = let q : y ≡ x = cc in ap (λ (z : Sig). v z.0 ∷ []) q
words_next v (y ∷ xs) (suc i) x e = ap (λ (l : List Word). v y.0 ∷ l) (words_next v xs i x e)

words_end : (v : Val) (xs : List Sig) (x : Sig) → words v (xs ++ x ∷ []) ≡ words v xs ++ v x.0 ∷ []
words_end v [] x = refl
words_end v (y ∷ xs) x = ap (λ (l : List Word). v y.0 ∷ l) (words_end v xs x)

chosen_next : (t : Bool) (xs ys : List Word) (x y : Word) → cond t xs ys ++ cond t x y ∷ [] ≡ cond t (xs ++ x ∷ []) (ys ++ y ∷ [])
chosen_next true xs ys x y = refl
chosen_next false xs ys x y = refl

pub chosen_more : (v : Val) (c : Sig) (all a b : List Sig) (next x y : Sig) (i : ℕ) → slice_get a i ≡ Some x → slice_get b i ≡ Some y → words v all ≡
    cond (on v c) (words v (take i a)) (words v (take i b)) → v next.0 ≡ cond (on v c) (v x.0) (v y.0)
    → words v (all ++ next ∷ []) ≡ cond (on v c) (words v (take (i + 1) a)) (words v (take (i + 1) b))
chosen_more v c all a b next x y i p q h e =
    words_end v all next ∙ ap (λ (l : List Word). l ++ v next.0 ∷ []) h ∙ ap (λ (w : Word). cond (on v c) (words v (take i a)) (words v (take i b)) ++ w ∷ []) e
    ∙ chosen_next (on v c) (words v (take i a)) (words v (take i b)) (v x.0) (v y.0)
    ∙ ap (λ (l : List Word). cond (on v c) l (words v (take i b) ++ v y.0 ∷ [])) (sym (words_next v a i x p)) ∙ ap
    (λ (l : List Word). cond (on v c) (words v (take (suc i) a)) l) (sym (words_next v b i y q))
    ∙ ap (λ (k : ℕ). cond (on v c) (words v (take k a)) (words v (take k b))) (sym (add-one i))

-- a source of a list
pub source_at : (n : Netlist) (xs : List Sig) (ws : List ℕ) (i : ℕ) (x : Sig) → AreSources n xs ws → slice_get xs i ≡ Some x → (w : ℕ) × (slice_get ws i ≡ Some w) × IsSource n x w
source_at n [] ws i x h e = absurd (cc)
source_at n (y ∷ xs) [] i x h e = absurd h.widths
source_at n (y ∷ xs) (w ∷ ws) zero x h e =
    let q : y ≡ x = cc in (w, refl, subst (λ (z : Sig). IsSource n z w) q (record { width = h.widths.0; steady = h.steady.0 }))
source_at n (y ∷ xs) (w ∷ ws) (suc i) x h e = source_at n xs ws i x (record { widths = h.widths.1; steady = h.steady.1 }) e

pub sources_length : (n : Netlist) (xs : List Sig) (ws : List ℕ) → AreSources n xs ws → length xs ≡ length ws
sources_length n [] [] h = refl
sources_length n [] (w ∷ ws) h = absurd h.widths
sources_length n (x ∷ xs) [] h = absurd h.widths
sources_length n (x ∷ xs) (w ∷ ws) h = let e = sources_length n xs ws (record { widths = h.widths.1; steady = h.steady.1 }) in omega (arith, e)

sources_next : (n : Netlist) (xs : List Sig) (ws : List ℕ) (i : ℕ) (x : Sig) (w : ℕ) → AreSources n xs (take i ws) → slice_get ws i ≡ Some w →
    IsSource n x w → AreSources n (xs ++ x ∷ []) (take (suc i) ws)
sources_next n xs [] i x w h e s = absurd (cc)
sources_next n [] (u ∷ ws) zero x w h e s = let q : u ≡ w = cc in subst (λ (k : ℕ). AreSources n (x ∷ []) (k ∷ [])) (sym q) (one_source s)
sources_next n (y ∷ xs) (u ∷ ws) zero x w h e s = absurd h.widths
sources_next n [] (u ∷ ws) (suc i) x w h e s = absurd h.widths
sources_next n (y ∷ xs) (u ∷ ws) (suc i) x w h e s =
    let r = sources_next n xs ws i x w (record { widths = h.widths.1; steady = h.steady.1 }) e s in
    record { widths = (h.widths.0, r.widths); steady = (h.steady.0, r.steady) }

pub sources_more : (n : Netlist) (xs : List Sig) (ws : List ℕ) (i : ℕ) (x : Sig) (w : ℕ) → AreSources n xs (take i ws) → slice_get ws i ≡ Some w →
    IsSource n x w → AreSources n (xs ++ x ∷ []) (take (i + 1) ws)
sources_more n xs ws i x w h e s = subst (λ (k : ℕ). AreSources n (xs ++ x ∷ []) (take k ws)) (sym (add-one i)) (sources_next n xs ws i x w h e s)
