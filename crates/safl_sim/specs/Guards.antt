-- Guards: when a reader of a place looks at the place.
use Rattle.std.specs.Prelude.{◌≡◌, ℕ, ◌+◌, ◌<◌, ◌≤◌, List, length, Some, slice_get, slice_index}
use Rattle.std.specs.Coded.{×_prop, Π_prop, le_prop}
use mathlib.Core.HLevel.{⊥_prop}
use Rattle.safl_sim.specs.declared.step.Action.{Action}
use Rattle.safl_sim.specs.declared.step.Action.TheVariants.{Choose, WideChoose}
use Rattle.safl_sim.specs.declared.step.Guard.{Guard}
use Rattle.safl_sim.specs.declared.step.Guard.TheVariants.{Always, If, Unless}
use Rattle.safl_sim.specs.declared.step.Step.{Step}
use Rattle.safl_sim.specs.Readers.{IsBlind, Blind}

-- the guard says that its reader does not look
abbrev pub Unseen : (ℕ → ℕ) → Guard → Type 0
Unseen f Always = ⊥
Unseen f (If c) = ¬ (f c ≡ 1)
Unseen f (Unless c) = f c ≡ 1

-- if the guard says so, reader k is blind to place p
abbrev pub IsGuard : List Step → ℕ → ℕ → Guard → Type 0
IsGuard steps p k g = (values : List ℕ) → Unseen (slice_index values) g → Blind steps values p k

-- each reader of each place has such a guard
abbrev pub AreGuards : List Step → List ℕ → List ℕ → List Guard → Type 0
AreGuards steps starts readers guards = (p j k : ℕ) (g : Guard) → p + 1 < length starts → slice_index starts p ≤ j → j < slice_index starts (p + 1)
    → slice_get readers j ≡ Some k → slice_get guards j ≡ Some g → IsGuard steps p k g

-- each reader has such a guard, and there are as many guards as readers
abbrev pub AreGuarded : List Step → List ℕ → List ℕ → List Guard → Type 0
AreGuarded steps starts readers guards = (length guards ≡ length readers) × AreGuards steps starts readers guards

pub IsBlind-prop : (f : ℕ → ℕ) (p : ℕ) (action : Action) → IsProp (IsBlind f p action)
IsBlind-prop f p (Choose c a b) = ×_prop (Π_prop λ _. ⊥_prop) (Π_prop λ _. ⊥_prop)
IsBlind-prop f p (WideChoose c a b) = ×_prop (Π_prop λ _. ⊥_prop) (Π_prop λ _. ⊥_prop)
IsBlind-prop f p action = ⊥_prop

pub AreGuards-prop : (steps : List Step) (starts readers : List ℕ) (guards : List Guard) → IsProp (AreGuards steps starts readers guards)
AreGuards-prop steps starts readers guards =
    Π_prop λ p. Π_prop λ j. Π_prop λ k. Π_prop λ g. Π_prop λ _. Π_prop λ _. Π_prop λ _. Π_prop λ _. Π_prop λ _. Π_prop λ values. Π_prop λ _.
    ×_prop le_prop (Π_prop λ s. Π_prop λ _. IsBlind-prop (slice_index values) p s.action)
