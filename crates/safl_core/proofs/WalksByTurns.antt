-- Walks, a turn at a time.
use Rattle.safl_core.proofs.Common.{CheckedProgram, GoesOn, IsOver, IsPicked, Word, back_word, busy, false≢true, length_push, numbered}
use Rattle.std.proofs.Common.{◌≡◌, ℕ, ◌+◌, ◌*◌, ◌<◌, List, [], ◌∷◌, ◌++◌, max, Option, Some, None, ◌⊎◌, ⊎_elim, refl, sym, ap, ◌∙◌, subst, arith}
use Rattle.std.specs.Prelude.{IfNone, IsNone, IsSome}
use Rattle.safl_core.specs.declared.event.Event as machine_event
use Rattle.safl_core.proofs.LawsOfKept.{goes_on, over}
use Rattle.safl_word.specs.Naturals.{number_after}
use Rattle.safl_term.specs.Meaning.{Main, main_cost, loops}
use Rattle.safl_calls.specs.Machine.{Event, opening, after_event, fire, Enabled}
use Rattle.safl_calls.proofs.Basics.{legal_append, legal_one}
use Rattle.safl_calls.proofs.MachineLaws as law
use Rattle.safl_term.specs.Readiness.{Answer as Kept}
use Rattle.safl_core.specs.Shown.{Shown, state, event_of, CanFire, Fires, IsKept}
use Rattle.safl_core.specs.Walking.{Walked, start, turn, IsShort}

pub first_turn : (m : Shown) (seed u : ℕ) → u ≡ busy m.program (state m) → Walked m.program m.args (state m) seed 0 (state m) seed u
first_turn m seed u e = subst (λ w. Walked m.program m.args (state m) seed 0 (state m) seed w) (sym e) start

pub one_turn : (m0 m m1 : Shown) (seed n x u y w b : ℕ) (e : Event) → m.checked ≡ m0.checked → m.args ≡ m0.args → Walked m0.program m0.args (state m0) seed n (state m) x u
    → Fires m e m1 → y ≡ number_after x → IsPicked m.program m.args (state m) y e → b ≡ busy m1.program (state m1) → w ≡ max u b
    → Walked m0.program m0.args (state m0) seed (n + 1) (state m1) y w
one_turn m0 m m1 seed n x u y w b e p a walked f ey pick eb ew =
    let C = m0.program in
    let A = m0.args in
    let by_number : IsPicked m.program m.args (state m) (number_after x) e = subst (λ z. IsPicked m.program m.args (state m) z e) ey pick in
    let by_args : IsPicked m.program A (state m) (number_after x) e = subst (λ X. IsPicked m.program X (state m) (number_after x) e) a by_number in
    let at : IsPicked C A (state m) (number_after x) e = subst (λ (P : CheckedProgram). IsPicked P.program A (state m) (number_after x) e) p by_args in
    let next : state m1 ≡ fire C A (state m) e = f.next ∙ (ap (λ (P : CheckedProgram). fire P.program m.args (state m) e) p ∙ ap (λ X. fire C X (state m) e) a) in
    let units : w ≡ max u (busy C (fire C A (state m) e)) = ew ∙ ap (max u) (eb ∙ (ap (λ (P : CheckedProgram). busy P.program (state m1)) (f.program ∙ p) ∙ ap (busy C) next)) in
    subst (λ t. Walked C A (state m0) seed (n + 1) t y w) (sym next)
    (subst (λ z. Walked C A (state m0) seed (n + 1) (fire C A (state m) e) z w) (sym ey)
    (subst (λ z. Walked C A (state m0) seed (n + 1) (fire C A (state m) e) (number_after x) z) (sym units) (turn walked at)))

-- where some event is enabled, main gives no value in the events so far
pub short_of : {m : Shown} {answers : List Kept} {wants : List (Option (List Word))} {room : ℕ} → IsKept m answers wants room → GoesOn m → IsShort m m.events
short_of {m} h on = λ v d.
    let C = m.program in
    let e = on.0 in
    let can = subst (λ s. Enabled C m.args s e) (sym h.reached.ends) on.1 in
    let legal = legal_append C m.args opening h.reached.list (e ∷ []) h.reached.legal (legal_one C m.args (after_event C m.args opening h.reached.list) e can) in
    let b = law.bounded C C.functions (numbered C h.checked.formed) h.checked.formed.numbered m.args (h.reached.list ++ e ∷ []) legal v d in
    omega (arith, b, length_push h.reached.list e, h.reached.count)

abbrev ShortBy : CheckedProgram → List Word → ℕ → Type 0
ShortBy c args n = (v : Word) (d : Main c.program args v) → n + 2 * loops c.program d < 3 * main_cost c.program args d

pub short_is : (m0 m : Shown) (n k : ℕ) → m.checked ≡ m0.checked → m.args ≡ m0.args → n ≡ k → IsShort m n → IsShort m0 k
short_is m0 m n k p a e h =
    subst (λ P. ShortBy P m0.args k) p (subst (λ X. ShortBy m.checked X k) a (subst (ShortBy m.checked m.args) e h))

-- where main has not returned, all turns were taken
pub short_end : (o q : Option Word) {T A R : Type 0} → o ≡ q → T ⊎ IsSome q → (T → A → R) → IfNone o A → IfNone o R
short_end (Some v) q e t f a = tt
short_end None q e t f a = ⊎_elim (λ x. f x a) (λ s. absurd (never (subst (λ (z : Option Word). IsSome z) (sym e) s))) t
  where
    never : IsSome {T = Word} None → ⊥
    never s = false≢true s

pub not_over : (m : Shown) {A : Type 0} → GoesOn m → IsOver m → A
not_over m on over = absurd (over on.0 on.1)

abbrev pub Ends : Option machine_event.Event → Shown → Type 0
Ends o m = (IsNone o → IsSome (back_word ((state m).site 0))) × (IsSome (back_word ((state m).site 0)) → IsNone o)

-- nothing is picked exactly where main has returned
pub none_ends : {m : Shown} {answers : List Kept} {wants : List (Option (List Word))} {room : ℕ} (h : IsKept m answers wants room) → IsOver m → Ends None m
none_ends {m} h nothing = (λ n. by (back_word ((state m).site 0)) refl, λ s. search arith)
  where
    by : (o : Option Word) → back_word ((state m).site 0) ≡ o → IsSome o
    by None e = not_over m (goes_on h e) nothing
    by (Some v) e = search arith

pub some_ends : {m : Shown} {answers : List Kept} {wants : List (Option (List Word))} {room : ℕ} (h : IsKept m answers wants room) (e : machine_event.Event) → CanFire m (event_of e) → Ends (Some e) m
some_ends {m} h e can = (λ n. absurd (search arith), λ s. by (back_word ((state m).site 0)) refl s)
  where
    by : (o : Option Word) → back_word ((state m).site 0) ≡ o → IsSome o → IsNone (Some e)
    by None q s = absurd (search arith)
    by (Some v) q s = absurd (over h v q (event_of e) can)
