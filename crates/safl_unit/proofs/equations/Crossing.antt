-- The tables of an edge show what the equations say.
use Rattle.safl_unit.proofs.Common.{Builds, Choice, Load, Netlist, Outcomes, Pins, Program, Sig, Val, Word, both_ways, either_some, eq_flip}
use Rattle.safl_unit.proofs.Common.{gate, load_kept, on, one_some, or_else, some_if, some_kept, unit_for, words}
use Rattle.std.proofs.Common.{◌≡◌, ℕ, zero, suc, ◌<◌, List, [], ◌∷◌, Option, Some, None, Bool, true, false, cond, not, ◌&&◌, ◌||◌, ◌==◌, slice_get, is_some, refl, sym, ap, ◌∙◌, arith}
use Rattle.std.proofs.lemmas.Bool.{false≢true, eq-eqb, eqb-true, and_parts, and_from}
use Rattle.safl_calls.specs.Picks.{first}
use Rattle.safl_calls.proofs.Basics.{first_cong}
use Rattle.safl_circuit.specs.Equations.{Registers, Inputs, body_wants, want, wants_at, go, go_words, end_word, loop_words}
use Rattle.safl_circuit.specs.Equations.{ends, taken_loop, starts, loads, starts_it}
use Rattle.safl_circuit.proofs.Searched.{end_in, loop_in, go_in, load_in as loads_from, if_other}
use Rattle.safl_lower.specs.Tables.{pin, taken_in, taken_at, taken_from, on_from, one_word}
use Rattle.safl_unit.specs.Stages.{called, OutcomesFit, HasOutcomes, HasGoes, HasEnds, HasLoads, HasStarts, HasClears, HasEntries, HasRivals}
use Rattle.safl_unit.specs.Edges.{one_below, operands_in, rival, ShowsBits, ShowsLoads, ShowsBelow}
use Rattle.safl_unit.proofs.equations.Chains.{gates_both}
use Rattle.safl_unit.proofs.equations.Others.{below_true, below_found}

-- ---- firsts and tests, number by number

else_word : (a b : Option Word) → or_else (one_word a) (one_word b) ≡ one_word (or_else a b)
else_word None b = refl
else_word (Some w) b = refl

first_word : (g : ℕ → Option Word) (n : ℕ) → first (λ i. one_word (g i)) n ≡ one_word (first g n)
unfolding first
first_word g zero = refl
first_word g (suc n) = ap (λ (x : Option (List Word)). or_else x (one_word (g n))) (first_word g n) ∙ else_word (first g n) (g n)

first_is : {A : Type 0} (g : ℕ → Option A) (n : ℕ) → is_some (first g n) ≡ one_below (λ i. is_some (g i)) n
unfolding first one_below
first_is g zero = refl
first_is g (suc n) = either_some (first g n) (g n) ∙ ap (λ (x : Bool). x || is_some (g n)) (first_is g n)

below_same : (t u : ℕ → Bool) (n : ℕ) → ((i : ℕ) → i < n → t i ≡ u i) → one_below t n ≡ one_below u n
unfolding one_below
below_same t u zero e = refl
below_same t u (suc n) e = ap (λ (x : Bool). x || t n) (below_same t u n (λ i l. e i (omega (arith, l)))) ∙ ap (λ (x : Bool). one_below u n || x) (e n (omega arith))

-- it holds of one number alone
below_at : (t : ℕ → Bool) (n f : ℕ) → f < n → one_below (λ h. (f == h) && t h) n ≡ t f
below_at t n f l =
    both_ways (one_below (λ h. (f == h) && t h) n) (t f)
    (λ e. let x = below_true (λ h. (f == h) && t h) n e in let p = and_parts (f == x.0) (t x.0) x.2 in ap t (eqb-true f x.0 p.0) ∙ p.1)
    (λ e. below_found (λ h. (f == h) && t h) n f l (and_from (f == f) (t f) (eq-eqb f f refl) e))

word_if : (b : Bool) (o : Option Word) → gate b (one_word o) ≡ one_word (cond b o None)
word_if true o = refl
word_if false o = refl

-- ---- a site that starts is wanted

module _ (C : Program) (P : Choice) (r : Registers) (i : Inputs) where
  wanted_if : (a w x : Bool) → cond a (w && x) w ≡ true → w ≡ true
  wanted_if true w x h = (and_parts w x h).0
  wanted_if false w x h = h

  start_if : (b : Bool) (ws : List Word) → b ≡ true → is_some (cond b (Some ws) None) ≡ true
  start_if b ws e = some_if b ws ∙ e

  go_called : (k : ℕ) → go C P r i k ≡ true → is_some (called C P r i k) ≡ true
  unfolding go
  go_called zero h = start_if i.start i.words (and_parts i.start (not (r.run (C.unit C.main))) h).0
  go_called (suc k) h =
      wanted_if (P.arbiter (unit_for C (suc k))) (want C P r (suc k)) (not (r.run (unit_for C (suc k))) && not (is_some (first (wants_at C P r (unit_for C (suc k))) (suc k)))) h

  -- the words that a site loads are those with which it is called
  called_if : (b : Bool) (ws : List Word) → is_some (cond b (Some ws) None) ≡ true → cond b (Some ws) None ≡ Some ws
  called_if true ws h = refl
  called_if false ws h = absurd (false≢true h)

  go_loads : (k : ℕ) → go C P r i k ≡ true → go_words C P r i k ≡ called C P r i k
  go_loads zero h = ap (λ (b : Bool). cond b (Some i.words) None) h ∙ sym (called_if i.start i.words (go_called zero h))
  go_loads (suc k) h = ap (λ (b : Bool). cond b (body_wants C P r (suc k)) None) h

  go_rests : (k : ℕ) → go C P r i k ≡ false → go_words C P r i k ≡ None
  go_rests zero h = ap (λ (b : Bool). cond b (Some i.words) None) h
  go_rests (suc k) h = ap (λ (b : Bool). cond b (body_wants C P r (suc k)) None) h

  operands_are : (v : Val) (o : Option Load) (c : Option (List Word)) → taken_in v o ≡ c → is_some c ≡ true → operands_in v o ≡ c
  operands_are v None c e h = absurd (false≢true (ap is_some e ∙ h))
  operands_are v (Some l) c e h = by (on v l.bit) e
    where
      by : (b : Bool) → gate b (Some (words v l.words.items)) ≡ c → Some (words v l.words.items) ≡ c
      by true q = q
      by false q = absurd (false≢true (ap is_some q ∙ h))

  loaded : (v : Val) (o : Option Load) (s : Sig) (k : ℕ) → on v s ≡ go C P r i k → taken_in v o ≡ called C P r i k → gate (on v s) (operands_in v o) ≡ go_words C P r i k
  loaded v o s k e f = by (go C P r i k) refl
    where
      by : (b : Bool) → go C P r i k ≡ b → gate (on v s) (operands_in v o) ≡ go_words C P r i k
      by true q = ap (λ (b : Bool). gate b (operands_in v o)) (e ∙ q) ∙ operands_are v o (called C P r i k) f (go_called k q) ∙ sym (go_loads k q)
      by false q = ap (λ (b : Bool). gate b (operands_in v o)) (e ∙ q) ∙ sym (go_rests k q)

-- ---- the tables

pub outcomes_fit_kept : {a b : Netlist} {k : ℕ} → Builds a b k → {C : Program} {o : Outcomes} → OutcomesFit C a o → OutcomesFit C b o
outcomes_fit_kept h {C} {o} q = record {
  ends_length = q.ends_length;
  loops_length = q.loops_length;
  wants_length = q.wants_length;
  ends = λ f l e. load_kept h (q.ends f l e);
  loops = some_kept h o.loops.items C.params q.loops;
  wants = λ k l e. load_kept h (q.wants k l e);
}

module _ (C : Program) (P : Choice) (n : Netlist) (p : Pins) where
  pub has_ends : (o : Outcomes) (all : List (Option Load)) → HasOutcomes C P n p o → ShowsLoads n all C.functions (λ u. C.result u ∷ [])
      (λ v u. first (λ f. gate (u == C.unit f) (taken_at v o.ends.items f)) C.functions) → HasEnds C P n p all
  unfolding ends
  has_ends o all q t = record {
    count = t.entries;
    fits = t.fits;
    shows = λ v r i c u l.
        t.shows v c.wired u
        ∙ first_cong (λ f. gate (u == C.unit f) (taken_at v o.ends.items f)) (λ f. one_word (end_in C P r u f)) C.functions
        (λ f m. ap (λ (x : Option (List Word)). gate (u == C.unit f) x) ((q.shows v r i c).ends f m) ∙ ap
        (λ (b : Bool). gate b (one_word (end_word C P r f))) (eq_flip u (C.unit f)) ∙ word_if (C.unit f == u) (end_word C P r f))
        ∙ first_word (end_in C P r u) C.functions;
  }

  pub has_loads : (o : Outcomes) (goes : List Sig) (all : List (Option Load)) → HasOutcomes C P n p o → HasGoes C P n p goes
      → ShowsLoads n all C.functions C.params (λ v f. first (λ k. gate ((f == C.callee k) && on v (pin goes k)) (operands_in v (slice_get o.wants.items k))) (suc C.sites)) → HasLoads C P n p all
  unfolding loads
  has_loads o goes all q g t = record {
    count = t.entries;
    fits = t.fits;
    shows = λ v r i c f l.
        t.shows v c.wired f
        ∙ first_cong (λ k. gate ((f == C.callee k) && on v (pin goes k)) (operands_in v (slice_get o.wants.items k))) (loads_from C P r i f) (suc C.sites)
        (λ k m. gates_both (f == C.callee k) (on v (pin goes k)) (operands_in v (slice_get o.wants.items k))
        ∙ ap (λ (x : Option (List Word)). gate (f == C.callee k) x)
        (loaded C P r i v (slice_get o.wants.items k) (pin goes k) k (g.shows v r i c k (omega (arith, m))) ((q.shows v r i c).wants k (omega (arith, m))))
        ∙ ap (λ (b : Bool). gate b (go_words C P r i k)) (eq_flip f (C.callee k)));
  }

  pub has_starts : (goes : List Sig) (bits : List (Option Sig)) → HasGoes C P n p goes → ShowsBits n bits C.functions
      (λ v u. one_below (λ k. (u == unit_for C k) && on v (pin goes k)) (suc C.sites)) → HasStarts C P n p bits
  unfolding starts
  has_starts goes bits g t = record {
    count = t.entries;
    fits = t.fits;
    shows = λ v r i c u l.
        t.shows v c.wired u
        ∙ below_same (λ k. (u == unit_for C k) && on v (pin goes k)) (λ k. is_some (go_in C P r i u k)) (suc C.sites)
        (λ k m. ap (λ (b : Bool). b && on v (pin goes k)) (eq_flip u (unit_for C k)) ∙ ap (λ (b : Bool). (unit_for C k == u) && b)
        (g.shows v r i c k (omega (arith, m))) ∙ sym (some_if ((unit_for C k == u) && go C P r i k) k))
        ∙ sym (first_is (go_in C P r i u) (suc C.sites));
  }

  pub has_clears : (o : Outcomes) (all : List (Option Load)) (bits : List (Option Sig)) → HasOutcomes C P n p o → HasEnds C P n p all
      → ShowsBits n bits C.functions (λ v u. is_some (taken_from v all u) || one_below (λ h. (u == C.unit h) && is_some (taken_from v o.loops.items h)) C.functions) → HasClears C P n p bits
  unfolding taken_loop
  has_clears o all bits q e t = record {
    count = t.entries;
    fits = t.fits;
    shows = λ v r i c u l.
        let rest = below_same (λ h. (u == C.unit h) && is_some (taken_from v o.loops.items h)) (λ h. is_some (loop_in C P r u h)) C.functions
        (λ h m. ap (λ (b : Bool). b && is_some (taken_from v o.loops.items h)) (eq_flip u (C.unit h)) ∙ ap (λ (x : Option (List Word)). (C.unit h == u) && is_some x) ((q.shows v r i c).loops h m)
        ∙ sym (some_if ((C.unit h == u) && is_some (loop_words C P r h)) h)) in
        t.shows v c.wired u
        ∙ ap (λ (b : Bool). b || one_below (λ h. (u == C.unit h) && is_some (taken_from v o.loops.items h)) C.functions) (ap is_some (e.shows v r i c u l) ∙ one_some (ends C P r u))
        ∙ ap (λ (b : Bool). is_some (ends C P r u) || b) (rest ∙ sym (first_is (loop_in C P r u) C.functions));
  }

  pub has_entries : (o : Outcomes) (all : List (Option Load)) (bits : List (Option Sig)) → HasOutcomes C P n p o → HasLoads C P n p all
      → ShowsBits n bits C.functions (λ v f. is_some (taken_from v all f) || one_below (λ h. (f == h) && is_some (taken_from v o.loops.items h)) C.functions) → HasEntries C P n p bits
  has_entries o all bits q e t = record {
    count = t.entries;
    fits = t.fits;
    shows = λ v r i c f l.
        t.shows v c.wired f
        ∙ ap (λ (b : Bool). b || one_below (λ h. (f == h) && is_some (taken_from v o.loops.items h)) C.functions) (ap is_some (e.shows v r i c f l))
        ∙ ap (λ (b : Bool). is_some (loads C P r i f) || b) (below_at (λ h. is_some (taken_from v o.loops.items h)) C.functions f l ∙ ap is_some ((q.shows v r i c).loops f l));
  }

  pub has_rivals : (entries bits : List (Option Sig)) → HasEntries C P n p entries → ShowsBelow n bits C.functions
      (λ v f. one_below (rival C (on_from v entries) f) C.functions) → HasRivals C P n p bits
  has_rivals entries bits e t = record {
    count = t.entries;
    fits = t.fits;
    shows = λ v r i c f l.
        t.shows v c.wired f l
        ∙ below_same (rival C (on_from v entries) f) (λ g. is_some (if_other C P r i f g)) C.functions
        (λ g m. ap (λ (b : Bool). (C.unit g == C.unit f) && (not (g == f) && b)) (e.shows v r i c g m) ∙ sym (some_if ((C.unit g == C.unit f) && (not (g == f) && starts_it C P r i g)) g))
        ∙ sym (first_is (if_other C P r i f) C.functions);
  }
