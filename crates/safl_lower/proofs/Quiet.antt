-- Terms without calls and tail calls want nothing, and go on to no member.
use Rattle.safl_lower.proofs.Common.{Word, goes_of, hold_calls, holds_calls, neither, pick_ap, with_none}
use Rattle.std.proofs.Common.{◌≡◌, ℕ, List, ◌++◌, Option, None, false, ◌||◌, refl, ◌∙◌}
use Rattle.std.proofs.lemmas.Bool.{or_parts}
use Rattle.safl_term.specs.Terms.{Term, Const, Var, Op, If, Let, Call, Loop, Terms, Nil, Cons}
use Rattle.safl_term.specs.Readiness.{Answer, Ready, LoopTo, NotYet, select, with_all, answer, answers, wanted, wanted_in}
use Rattle.safl_lower.proofs.Calls.{select_none}
use Rattle.safl_lower.proofs.Gathered.{pick_none}
use Rattle.safl_lower.proofs.Leaves.{goes_op}
use Rattle.safl_lower.proofs.Goes.{goes_with}

mutual
  unfolding wanted

  pub no_wants : (back : ℕ → Option Word) (t : Term) (env : List Word) (k : ℕ) → holds_calls t ≡ false → wanted back env t k ≡ None
  no_wants back (Const w) env k h = refl
  no_wants back (Var i) env k h = refl
  no_wants back (Op p ts) env k h = no_wants_in back ts env k h
  no_wants back (If c a b) env k h =
      let x = or_parts (holds_calls c || holds_calls a) (holds_calls b) h in
      let y = or_parts (holds_calls c) (holds_calls a) x.0 in
      neither (wanted back env c k) (select (answer back env c) None (wanted back env a k) (wanted back env b k)) (no_wants back c env k y.0)
      (select_none (answer back env c) (wanted back env a k) (wanted back env b k) (no_wants back a env k y.1) (no_wants back b env k x.1))
  no_wants back (Let bs b) env k h =
      let x = or_parts (hold_calls bs) (holds_calls b) h in
      neither (wanted_in back env bs k) (with_all (answers back env bs) None (λ vs. wanted back (env ++ vs) b k)) (no_wants_in back bs env k x.0)
      (with_none (answers back env bs) (λ vs. wanted back (env ++ vs) b k) (λ vs. no_wants back b (env ++ vs) k x.1))
  no_wants back (Call f j ts) env k h = absurd (cc)
  no_wants back (Loop i ts) env k h = absurd (cc)

  pub no_wants_in : (back : ℕ → Option Word) (ts : Terms) (env : List Word) (k : ℕ) → hold_calls ts ≡ false → wanted_in back env ts k ≡ None
  no_wants_in back Nil env k h = refl
  no_wants_in back (Cons t ts) env k h =
      let x = or_parts (holds_calls t) (hold_calls ts) h in
      neither (wanted back env t k) (wanted_in back env ts k) (no_wants back t env k x.0) (no_wants_in back ts env k x.1)

pub no_going : (back : ℕ → Option Word) (t : Term) (env : List Word) → holds_calls t ≡ false → goes_of (answer back env t) ≡ None
unfolding answer
no_going back (Const w) env h = refl
no_going back (Var i) env h = refl
no_going back (Op p ts) env h = goes_op p (answers back env ts)
no_going back (If c a b) env h =
    let x = or_parts (holds_calls c || holds_calls a) (holds_calls b) h in
    let y = or_parts (holds_calls c) (holds_calls a) x.0 in
    by (answer back env c) (answer back env a) (answer back env b) (no_going back a env y.1) (no_going back b env x.1)
  where
    by : (x y z : Answer) → goes_of y ≡ None → goes_of z ≡ None → goes_of (select x NotYet y z) ≡ None
    by (Ready w) y z e f = pick_ap goes_of w.bits y z ∙ pick_none w.bits (goes_of y) (goes_of z) e f
    by (LoopTo g vs) y z e f = refl
    by NotYet y z e f = refl
no_going back (Let bs b) env h = goes_with (answers back env bs) (λ vs. answer back (env ++ vs) b) (λ vs. no_going back b (env ++ vs) (or_parts (hold_calls bs) (holds_calls b) h).1)
no_going back (Call f k ts) env h = absurd (cc)
no_going back (Loop i ts) env h = absurd (cc)
