-- Spans that do not depend on arguments, and what bounds a span.
use Rattle.safl_calls.proofs.Common.{Program, Term, Terms, Word, pick, span, spans}
use Rattle.std.proofs.Common.{◌≡◌, ℕ, zero, suc, ◌+◌, ◌*◌, ◌≤◌, List, refl, arith}
use Rattle.safl_calls.specs.Fixed.{Takes, takes_const, takes_var, takes_op, takes_if, takes_let, takes_call, TakeAll, take_nil, take_cons, IsFixed, IsShort}
use Rattle.safl_term.specs.Meaning.{Gives, gives_const, gives_var, gives_op, gives_if, gives_let, gives_call, gives_loop, GivesAll, gives_nil, gives_cons}
use Rattle.safl_term.specs.Meaning.{cost, costs, loops, loops_all}

takes_pick : (C : Program) (u n : ℕ) (a b : Term) → Takes C a n → Takes C b n → Takes C (pick u a b) n
takes_pick C zero n a b x y = y
takes_pick C (suc zero) n a b x y = x
takes_pick C (suc (suc u)) n a b x y = y

mutual
  takes_span : (C : Program) {env : List Word} {t : Term} {v : Word} {n : ℕ} → Takes C t n → (d : Gives C env t v) → span C d ≡ n
  takes_span C takes_const gives_const = refl
  takes_span C takes_var gives_var = refl
  takes_span C (takes_op h) (gives_op ds) = take_spans C h ds
  takes_span C (takes_if {a = a} {b = b} {n = n} c x y) (gives_if {u = u} q d) = omega (arith, takes_span C c q, takes_span C (takes_pick C u.bits n a b x y) d)
  takes_span C (takes_let h x) (gives_let ds d) = omega (arith, take_spans C h ds, takes_span C x d)
  takes_span C (takes_call h x) (gives_call ds d) = omega (arith, take_spans C h ds, takes_span C x d)

  take_spans : (C : Program) {env : List Word} {ts : Terms} {vs : List Word} {n : ℕ} → TakeAll C ts n → (d : GivesAll C env ts vs) → spans C d ≡ n
  take_spans C take_nil gives_nil = refl
  take_spans C (take_cons x h) (gives_cons d ds) = omega (arith, takes_span C x d, take_spans C h ds)

mutual
  span_short : (C : Program) {env : List Word} {t : Term} {v : Word} (d : Gives C env t v) → span C d + loops C d ≤ 2 * cost C d
  span_short C gives_const = omega arith
  span_short C gives_var = omega arith
  span_short C (gives_op ds) = spans_short C ds
  span_short C (gives_if q d) = omega (arith, span_short C q, span_short C d)
  span_short C (gives_let ds d) = omega (arith, spans_short C ds, span_short C d)
  span_short C (gives_call ds d) = omega (arith, spans_short C ds, span_short C d)
  span_short C (gives_loop ds d) = omega (arith, spans_short C ds, span_short C d)

  spans_short : (C : Program) {env : List Word} {ts : Terms} {vs : List Word} (d : GivesAll C env ts vs) → spans C d + loops_all C d ≤ 2 * costs C d
  spans_short C gives_nil = omega arith
  spans_short C (gives_cons d ds) = omega (arith, span_short C d, spans_short C ds)

pub is_fixed : (C : Program) → IsFixed C
is_fixed C n h args v d = let e = takes_span C h d in omega (arith, e)

pub is_short : (C : Program) → IsShort C
is_short C args v d = let e = span_short C d in omega (arith, e)
