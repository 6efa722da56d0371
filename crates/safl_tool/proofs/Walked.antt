-- What a walk of a new machine says of its program.
use Rattle.safl_tool.proofs.Common.{CheckedProgram, Walked, Word, false≢true}
use Rattle.std.proofs.Common.{◌≡◌, ℕ, ◌+◌, ◌-◌, ◌*◌, ◌<◌, List, Option, Some, None, sym, ap, subst, ◌∙◌, arith, inl, inr}
use Rattle.std.specs.Prelude.{IfSome, IfNone, IsSome}
use Rattle.safl_term.proofs.HeldByChecked.{main_is_last}
use Rattle.safl_term.specs.Meaning.{Main, main_cost, loops}
use Rattle.safl_term.specs.Readiness.{back_word}
use Rattle.safl_calls.specs.Machine.{State, opening}
use Rattle.safl_core.specs.Outcomes.{IsValue}
use Rattle.safl_core.specs.Shown.{Shown, Opens, state}
use Rattle.safl_core.specs.Walking as turns
use Rattle.safl_core.specs.Walking.{IsWalk, IsShort}
use Rattle.safl_tool.specs.Walking.{MainGives, WalksFrom}

-- main is the last function
pub last_function : (c : CheckedProgram) (k : ℕ) → k ≡ c.program.functions → k - 1 ≡ c.program.main
last_function c k e = ap (λ (x : ℕ). x - 1) e ∙ sym (main_is_last c)

-- what three events for each call, but two less for each tail call, are said of
abbrev Valued : Word → CheckedProgram → List Word → ℕ → Type 0
Valued v c words events = (d : Main c.program words v) × (events + 2 * loops c.program d ≡ 3 * main_cost c.program words d)

abbrev Short : CheckedProgram → List Word → ℕ → Type 0
Short c words events = (v : Word) (d : Main c.program words v) → events + 2 * loops c.program d < 3 * main_cost c.program words d

module _ (c : CheckedProgram) (words : List Word) (m n : Shown) (seed steps : ℕ) (w : Walked) (opens : Opens c words m) (is : IsWalk m seed steps n w.units) (counted : w.events ≡ n.events) where
  same_program : n.checked ≡ c
  same_program = is.program ∙ opens.program

  same_args : n.args ≡ words
  same_args = is.args ∙ opens.given

  turned : w.events ≡ is.turns
  turned = let a = is.events in let b = opens.none in omega (arith, a, b, counted)

  walked : turns.Walked c.program words opening seed w.events (state n) is.number w.units
  walked =
      let a = subst (λ (p : CheckedProgram). turns.Walked p.program m.args (state m) seed is.turns (state n) is.number w.units) opens.program is.walked in
      let b = subst (λ (l : List Word). turns.Walked c.program l (state m) seed is.turns (state n) is.number w.units) opens.given a in
      let d = subst (λ (s : State). turns.Walked c.program words s seed is.turns (state n) is.number w.units) opens.first b in
      subst (λ (k : ℕ). turns.Walked c.program words opening seed k (state n) is.number w.units) (sym turned) d

  all_turns : None ≡ back_word ((state n).site 0) → w.events ≡ steps
  all_turns e = elim is.ends [ inl h ↦ turned ∙ h | inr h ↦ absurd (false≢true (subst (λ (o : Option Word). IsSome o) (sym e) h)) ]

  gives : (r : Option Word) → r ≡ back_word ((state n).site 0) → IfSome r (λ v. IsValue n v) → IfNone r (IsShort m (m.events + steps)) → MainGives c.program words steps w.events r
  gives None e value short =
      let a : Short c m.args (m.events + steps) = subst (λ (p : CheckedProgram). Short p m.args (m.events + steps)) opens.program short in
      let b : Short c words (m.events + steps) = subst (λ (l : List Word). Short c l (m.events + steps)) opens.given a in
      (all_turns e, subst (λ (k : ℕ). Short c words k) (let z = opens.none in omega (arith, z)) b)
  gives (Some v) e value short =
      let a : Valued v c n.args n.events = subst (λ (p : CheckedProgram). Valued v p n.args n.events) same_program value in
      let b : Valued v c words n.events = subst (λ (l : List Word). Valued v c l n.events) same_args a in
      subst (λ (k : ℕ). Valued v c words k) (sym counted) b

  pub walks_from : w.result ≡ back_word ((state n).site 0) → IfSome w.result (λ v. IsValue n v) → IfNone w.result (IsShort m (m.events + steps)) → WalksFrom c.program words seed steps w
  walks_from e value short = record {
    last = state n;
    number = is.number;
    walked = walked;
    within = let a = is.within in let b = turned in omega (arith, a, b);
    returned = e;
    gives = gives w.result e value short;
  }
