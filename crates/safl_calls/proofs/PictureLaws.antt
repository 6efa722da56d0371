-- The laws, of the picture.
use Rattle.safl_calls.proofs.Common.{IsNumbered, IsPermutation, Program, Returned, Stage, Term, Word, one_value}
use Rattle.std.proofs.Common.{◌≡◌, ℕ, ◌+◌, ◌*◌, ◌≤◌, List, ◌++◌, length, refl, subst, arith}
use Rattle.std.specs.Prelude.{◌≢◌}
use Rattle.std.proofs.lemmas.List.Sums.{sum_by-append}
use Rattle.safl_calls.specs.Starts.{start_count, starts_count}
use Rattle.safl_calls.specs.Moves.{move_count, moves_count}
use Rattle.safl_calls.proofs.Activities.{fresh, Scene, Trail, l_none, l_more, applied, applied_by}
use Rattle.safl_calls.proofs.Holds.{Outside}
use Rattle.safl_calls.proofs.Preserved.{fine_opening, fine_legal}
use Rattle.safl_calls.proofs.Ledger.{counts, counted, counted_at_most, counted_all}
use Rattle.safl_calls.proofs.Owed.{Weights, owed, owed_all}
use Rattle.safl_calls.proofs.Progress.{progress, over}
use Rattle.safl_calls.specs.Machine.{Event, Accept, Finish, Return, LoopInto}
use Rattle.safl_term.specs.Meaning.{Main, main_cost, main_calls, at_function, calls_to, calls_all, Gives, GivesAll, gives_const, gives_var, gives_op}
use Rattle.safl_term.specs.Meaning.{gives_if, gives_let, gives_call, gives_loop, gives_nil, gives_cons, cost, costs, loops, loops_all}
use Rattle.safl_calls.proofs.Permutes.{is_words, times, counts_permute}
use Rattle.safl_calls.proofs.Activities.{opening, Step}

-- each event counts one
abbrev ones : Weights
ones = record { accept = λ f ws. 1; loop = λ f ws. 1; finish = 1; give = 1 }

mutual
  owed_ones : (p : Program) {env : List Word} {t : Term} {v : Word} (d : Gives p env t v) → owed p ones fresh d + 2 * loops p d ≡ 3 * cost p d
  owed_ones p gives_const = refl
  owed_ones p gives_var = refl
  owed_ones p (gives_op ds) = owed_ones_all p ds
  owed_ones p (gives_if c d) = omega (arith, owed_ones p c, owed_ones p d)
  owed_ones p (gives_let ds d) = omega (arith, owed_ones_all p ds, owed_ones p d)
  owed_ones p (gives_call ds d) = omega (arith, owed_ones_all p ds, owed_ones p d)
  owed_ones p (gives_loop ds d) = omega (arith, owed_ones_all p ds, owed_ones p d)

  owed_ones_all : (p : Program) {env : List Word} {ts : _} {vs : List Word} (d : GivesAll p env ts vs) → owed_all p ones fresh d + 2 * loops_all p d ≡ 3 * costs p d
  owed_ones_all p gives_nil = refl
  owed_ones_all p (gives_cons d ds) = omega (arith, owed_ones p d, owed_ones_all p ds)

counts_one : (p : Program) (e : Event) (t : Scene) → counts p ones e t ≡ 1
counts_one p (Accept k) t = refl
counts_one p (Finish f) t = refl
counts_one p (Return k) t = refl
counts_one p (LoopInto h) t = refl

counted_ones : (p : Program) {args : List Word} {s t : Scene} {es : List Event} (l : Trail p args s es t) → counted p ones l ≡ length es
counted_ones p l_none = refl
counted_ones p (l_more {t = t} {e = e} q l) = omega (arith, counts_one p e t, counted_ones p l)

-- main evaluates to at most one word, in one number of applications
pub one_meaning : (p : Program) (args : List Word) (v w : Word) (d : Main p args v) (e : Main p args w) → (v ≡ w) × (main_cost p args d ≡ main_cost p args e)
one_meaning p args v w d e = let q = one_value p (cost p e) d e refl in (q.0, omega (arith, q.1))

main_value : (p : Program) (args : List Word) (U : _) (o : Stage) (v : Word) → o ≡ Returned v → Outside p args U o → Main p args v
main_value p args U o v e h = subst (Outside p args U) e h

pub right : (p : Program) (n : ℕ) → IsNumbered p n → (args : List Word) (events : List Event) (s : Scene) (v : Word) → Trail p args opening events s →
    s.outside ≡ Returned v → (d : Main p args v) × (length events + 2 * loops p d ≡ 3 * main_cost p args d)
right p n wf args es s v l r =
    let h = fine_legal p n args wf (fine_opening p args) l in
    let d = main_value p args s.units s.outside v r h.main in
    let all = counted_all p ones n args v d wf v l r in
    (d, omega (arith, all, counted_ones p l, owed_ones p d))

pub goes_on : (p : Program) (n : ℕ) → IsNumbered p n → (args : List Word) (events : List Event) (s : Scene) → Trail p args opening events s →
    ((v : Word) → s.outside ≢ Returned v) → (e : Event) × (t : Scene) × Step p args s e t
goes_on p n wf args es s l open_ = progress p n args s wf (fine_legal p n args wf (fine_opening p args) l) open_

pub stops : (p : Program) (n : ℕ) → IsNumbered p n → (args : List Word) (events : List Event) (s t : Scene) (v : Word) (e : Event) → Trail p args
    opening events s → s.outside ≡ Returned v → Step p args s e t → ⊥
stops p n wf args es s t v e l r q = over p n args v wf (fine_legal p n args wf (fine_opening p args) l) r q

pub bounded : (p : Program) (n : ℕ) → IsNumbered p n → (args : List Word) (events : List Event) (s : Scene) (v : Word) (d : Main p args v) → Trail p
    args opening events s → length events + 2 * loops p d ≤ 3 * main_cost p args d
bounded p n wf args es s v d l =
    let most = counted_at_most p ones n args v d wf l in
    omega (arith, most, counted_ones p l, owed_ones p d)

-- an application of f on ws counts one
abbrev at_words : ℕ → List Word → Weights
at_words f ws = record { accept = λ g us. times ws (at_function f g us); loop = λ g us. times ws (at_function f g us); finish = 0; give = 0 }

mutual
  owed_calls : (p : Program) (f : ℕ) (ws : List Word) {env : List Word} {t : Term} {v : Word} (d : Gives p env t v) → owed p (at_words f ws) fresh d ≡ times ws (calls_to p f d)
  owed_calls p f ws gives_const = refl
  owed_calls p f ws gives_var = refl
  owed_calls p f ws (gives_op ds) = owed_calls_all p f ws ds
  owed_calls p f ws (gives_if c d) = omega (arith, owed_calls p f ws c, owed_calls p f ws d, sum_by-append (is_words ws) (calls_to p f c) (calls_to p f d))
  owed_calls p f ws (gives_let ds d) = omega (arith, owed_calls_all p f ws ds, owed_calls p f ws d, sum_by-append (is_words ws) (calls_all p f ds) (calls_to p f d))
  owed_calls p f ws (gives_call {f = g} {us = us} ds d) = omega (
    arith,
    owed_calls_all p f ws ds,
    owed_calls p f ws d,
    sum_by-append (is_words ws) (calls_all p f ds) (at_function f g us ++ calls_to p f d),
    sum_by-append (is_words ws) (at_function f g us) (calls_to p f d),
  )
  owed_calls p f ws (gives_loop {h = g} {us = us} ds d) = omega (
    arith,
    owed_calls_all p f ws ds,
    owed_calls p f ws d,
    sum_by-append (is_words ws) (calls_all p f ds) (at_function f g us ++ calls_to p f d),
    sum_by-append (is_words ws) (at_function f g us) (calls_to p f d),
  )

  owed_calls_all : (p : Program) (f : ℕ) (ws : List Word) {env : List Word} {ts : _} {vs : List Word} (d : GivesAll p env ts vs) → owed_all p (at_words f ws) fresh d ≡ times ws (calls_all p f d)
  owed_calls_all p f ws gives_nil = refl
  owed_calls_all p f ws (gives_cons d ds) = omega (arith, owed_calls p f ws d, owed_calls_all p f ws ds, sum_by-append (is_words ws) (calls_to p f d) (calls_all p f ds))

counts_applied : (p : Program) (f : ℕ) (ws : List Word) (e : Event) (t : Scene) → counts p (at_words f ws) e t ≡ times ws (applied_by p f e t)
counts_applied p f ws (Accept k) t = refl
counts_applied p f ws (Finish g) t = refl
counts_applied p f ws (Return k) t = refl
counts_applied p f ws (LoopInto h) t = refl

counted_calls : (p : Program) (f : ℕ) (ws : List Word) {args : List Word} {s t : Scene} {es : List Event} (l : Trail p args s es t) → counted p (at_words f ws) l ≡ times ws (applied p f l)
counted_calls p f ws l_none = refl
counted_calls p f ws (l_more {t = t} {e = e} q l) = omega (arith, counts_applied p f ws e t, counted_calls p f ws l, sum_by-append (is_words ws) (applied_by p f e t) (applied p f l))

pub same_calls : (p : Program) (n : ℕ) → IsNumbered p n → (args : List Word) (events : List Event) (s : Scene) (v w : Word) (d : Main p args w)
    (l : Trail p args opening events s) → s.outside ≡ Returned v → (f : ℕ) → IsPermutation (main_calls p args d f) (applied p f l)
same_calls p n wf args es s v w d l r f =
    counts_permute (main_calls p args d f) (applied p f l) (λ ws.
    let all = counted_all p (at_words f ws) n args w d wf v l r in
    let a = counted_calls p f ws l in
    let b = owed_calls p f ws d in
    let c = sum_by-append (is_words ws) (at_function f (p.callee 0) args) (calls_to p f d) in
    omega (arith, all, a, b, c))

-- each start counts one
abbrev starting : Weights
starting = record { accept = λ f ws. 1; loop = λ f ws. 1; finish = 0; give = 0 }

mutual
  owed_starting : (p : Program) {env : List Word} {t : Term} {v : Word} (d : Gives p env t v) → owed p starting fresh d ≡ cost p d
  owed_starting p gives_const = refl
  owed_starting p gives_var = refl
  owed_starting p (gives_op ds) = owed_starting_all p ds
  owed_starting p (gives_if c d) = omega (arith, owed_starting p c, owed_starting p d)
  owed_starting p (gives_let ds d) = omega (arith, owed_starting_all p ds, owed_starting p d)
  owed_starting p (gives_call ds d) = omega (arith, owed_starting_all p ds, owed_starting p d)
  owed_starting p (gives_loop ds d) = omega (arith, owed_starting_all p ds, owed_starting p d)

  owed_starting_all : (p : Program) {env : List Word} {ts : _} {vs : List Word} (d : GivesAll p env ts vs) → owed_all p starting fresh d ≡ costs p d
  owed_starting_all p gives_nil = refl
  owed_starting_all p (gives_cons d ds) = omega (arith, owed_starting p d, owed_starting_all p ds)

counts_start : (p : Program) (e : Event) (t : Scene) → counts p starting e t ≡ start_count e
counts_start p (Accept k) t = refl
counts_start p (Finish f) t = refl
counts_start p (Return k) t = refl
counts_start p (LoopInto h) t = refl

counted_starting : (p : Program) {args : List Word} {s t : Scene} {es : List Event} (l : Trail p args s es t) → counted p starting l ≡ starts_count es
unfolding starts_count
counted_starting p l_none = refl
counted_starting p (l_more {t = t} {e = e} q l) = omega (arith, counts_start p e t, counted_starting p l)

-- where main has returned, the starts are the calls
pub started : (p : Program) (n : ℕ) → IsNumbered p n → (args : List Word) (events : List Event) (s : Scene) (v w : Word) (d : Main p args w) → Trail p
    args opening events s → s.outside ≡ Returned v → starts_count events ≡ main_cost p args d
started p n wf args es s v w d l r =
    let all = counted_all p starting n args w d wf v l r in
    omega (arith, all, counted_starting p l, owed_starting p d)

-- each event but a Return counts one
abbrev moving : Weights
moving = record { accept = λ f ws. 1; loop = λ f ws. 1; finish = 1; give = 0 }

mutual
  owed_moving : (p : Program) {env : List Word} {t : Term} {v : Word} (d : Gives p env t v) → owed p moving fresh d + loops p d ≡ 2 * cost p d
  owed_moving p gives_const = refl
  owed_moving p gives_var = refl
  owed_moving p (gives_op ds) = owed_moving_all p ds
  owed_moving p (gives_if c d) = omega (arith, owed_moving p c, owed_moving p d)
  owed_moving p (gives_let ds d) = omega (arith, owed_moving_all p ds, owed_moving p d)
  owed_moving p (gives_call ds d) = omega (arith, owed_moving_all p ds, owed_moving p d)
  owed_moving p (gives_loop ds d) = omega (arith, owed_moving_all p ds, owed_moving p d)

  owed_moving_all : (p : Program) {env : List Word} {ts : _} {vs : List Word} (d : GivesAll p env ts vs) → owed_all p moving fresh d + loops_all p d ≡ 2 * costs p d
  owed_moving_all p gives_nil = refl
  owed_moving_all p (gives_cons d ds) = omega (arith, owed_moving p d, owed_moving_all p ds)

counts_move : (p : Program) (e : Event) (t : Scene) → counts p moving e t ≡ move_count e
counts_move p (Accept k) t = refl
counts_move p (Finish f) t = refl
counts_move p (Return k) t = refl
counts_move p (LoopInto h) t = refl

counted_moving : (p : Program) {args : List Word} {s t : Scene} {es : List Event} (l : Trail p args s es t) → counted p moving l ≡ moves_count es
unfolding moves_count
counted_moving p l_none = refl
counted_moving p (l_more {t = t} {e = e} q l) = omega (arith, counts_move p e t, counted_moving p l)

pub few_moves : (p : Program) (n : ℕ) → IsNumbered p n → (args : List Word) (events : List Event) (s : Scene) (v : Word) (d : Main p args v) → Trail p
    args opening events s → moves_count events + loops p d ≤ 2 * main_cost p args d
few_moves p n wf args es s v d l =
    let most = counted_at_most p moving n args v d wf l in
    omega (arith, most, counted_moving p l, owed_moving p d)

pub all_moves : (p : Program) (n : ℕ) → IsNumbered p n → (args : List Word) (events : List Event) (s : Scene) (v w : Word) (d : Main p args w) → Trail
    p args opening events s → s.outside ≡ Returned v → moves_count events + loops p d ≡ 2 * main_cost p args d
all_moves p n wf args es s v w d l r =
    let all = counted_all p moving n args w d wf v l r in
    omega (arith, all, counted_moving p l, owed_moving p d)
