-- The sets of a machine whose main waits to be accepted.
use Rattle.safl_core.proofs.Common.{AreCalled, Program, Word, bytes_eq-Decides, can, from_bool, widths}
use Rattle.std.proofs.Common.{◌≡◌, ◌≢◌, ℕ, zero, suc, ◌<◌, List, length, set, cond, is_some, nat_le, get_or, replicate, Option, Some, None, Bool}
use Rattle.std.proofs.Common.{true, false, refl, sym, ap, ◌∙◌, subst, arith, length-set}
use Rattle.std.proofs.lemmas.List.{get_or-set_same, get_or-set_other, get_or-replicate, length-replicate}
use Rattle.safl_calls.specs.Machine.{Finish, Return, LoopInto, opening, asked}
use Rattle.safl_number_set.specs.Groups.{Grouped}
use Rattle.safl_core.specs.declared.enabled.Enabled.{Enabled}
use Rattle.safl_core.specs.Marking.{Marks, AreMarked, OpensWith}

abbrev no_words : Option (List Word)
no_words = None

abbrev zeros_of : ℕ → List ℕ
zeros_of n = replicate n 0

zeros_long : (n : ℕ) → length (zeros_of n) ≡ n
zeros_long n = length-replicate n 0

abbrev ones_of : ℕ → List ℕ
ones_of n = replicate n 1

ones_long : (n : ℕ) → length (ones_of n) ≡ n
ones_long n = length-replicate n 1

no_bits : (p : ℕ → Bool) (n : ℕ) (s : List ℕ) → s ≡ replicate n 0 → ((k : ℕ) → p k ≡ false) → Marks p n s
no_bits p n s is none = record {
  long = ap (λ (l : List ℕ). length l) is ∙ zeros_long n;
  each = λ k lt. ap (λ (l : List ℕ). get_or l k 0) is ∙ (get_or-replicate n k 0 0 lt ∙ sym (ap from_bool (none k)));
}

nothing : (b : Bool) → is_some (cond b no_words no_words) ≡ false
nothing true = refl
nothing false = refl

later : (C : Program) (args : List Word) (j : ℕ) → is_some (asked C args opening (suc j)) ≡ false
later C args j = nothing (nat_le (suc j) C.sites)

first : (C : Program) (args : List Word) → widths args ≡ C.params C.main → is_some (asked C args opening 0) ≡ true
first C args given = ap (λ b. is_some (cond b (Some args) None)) ((bytes_eq-Decides (widths args) (C.params C.main)).1 given)

pub marked_first : (C : Program) (args : List Word) (e : Enabled) → widths args ≡ C.params C.main → OpensWith C e → AreMarked C args opening e
marked_first C args e given o = record {
  called = subst (λ (l : List ℕ). AreCalled C l) (sym (ap (λ (a : Grouped). a.group) o.accepts)) o.called;
  waits = record {
    long = within_is_long ∙ (length-set (zeros_of (length o.units)) 0 1 ∙ (zeros_long (length o.units) ∙ o.called.long));
    each = λ k lt. ap (λ (a : Grouped). get_or a.within k 0) o.accepts ∙ (ap (λ n. get_or (set (zeros_of n) 0 1) k 0) o.called.long ∙ by k lt);
  };
  idle = record {
    long = ap (λ (a : Grouped). length a.opened) o.accepts ∙ ones_long C.functions;
    each = λ u lt. ap (λ (a : Grouped). get_or a.opened u 0) o.accepts ∙ get_or-replicate C.functions u 1 0 lt;
  };
  finishes = no_bits (λ f. can C args opening (Finish f)) C.functions e.finishes o.finishes (λ f. refl);
  returns = no_bits (λ k. can C args opening (Return k)) (suc C.sites) e.returns o.returns (λ k. refl);
  loops = no_bits (λ h. can C args opening (LoopInto h)) C.functions e.loops o.loops (λ h. refl);
  busy = no_bits (λ u. false) C.functions e.busy o.busy (λ u. refl);
}
  where
    within_is_long : length e.accepts.within ≡ length (set (zeros_of (length o.units)) 0 1)
    within_is_long = ap (λ (a : Grouped). length a.within) o.accepts

    by : (k : ℕ) → k < suc C.sites → get_or (set (replicate (suc C.sites) 0) 0 1) k 0 ≡ from_bool (is_some (asked C args opening k))
    by zero lt = get_or-set_same (replicate (suc C.sites) 0) 0 1 0 (omega (arith, zeros_long (suc C.sites))) ∙ sym (ap from_bool (first C args given))
    by (suc j) lt = get_or-set_other (replicate (suc C.sites) 0) 0 (suc j) 1 0 (off j) ∙ (get_or-replicate (suc C.sites) (suc j) 0 0 lt ∙ sym (ap from_bool (later C args j)))
      where
        off : (j : ℕ) → suc j ≢ 0
        off j q = omega (arith, q)
