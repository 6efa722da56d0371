-- Numbers that are given to places, and steps that hold.
use Rattle.std.proofs.Common.{◌≡◌, ◌⊎◌, inl, inr, ℕ, zero, suc, ◌+◌, ◌/◌, ◌<◌, ◌≤◌, ◌^◌, List, [], ◌∷◌, map, length, set, Some, slice_get, slice_index, refl, sym, ap, subst, ◌∙◌, arith}
use Rattle.std.proofs.lemmas.Nat.Bits.{bit_at-lt}
use Rattle.std.proofs.lemmas.Option.{slice_get_within}
use Rattle.std.proofs.lemmas.Bool.{cases_eq, cases_lt}
use Rattle.safl_word.specs.Words.{pick, as_word}
use Rattle.safl_net.specs.Netlist.{Netlist, Signal, Wire, Cell, width_of}
use Rattle.safl_net.specs.Valuations.{signal_word, cell_word}
use Rattle.safl_net.specs.Laws.{FitWidths}
use Rattle.safl_net.specs.Making.{kind_at, cell_in}
use Rattle.safl_order.specs.Order.{IsOrder, operands_of, operands_in}
use Rattle.safl_sim.specs.declared.step.Action.{Action}
use Rattle.safl_sim.specs.declared.step.Action.TheVariants.{Choose, WideChoose}
use Rattle.safl_sim.specs.declared.step.Step.{Step}
use Rattle.safl_sim.specs.declared.step.Register.{Register}
use Rattle.safl_sim.specs.Marks.{marked, first_register}
use Rattle.safl_sim.specs.Readers.{Lists, Reader, AreReaders, IsBlind, HasGiven, Agrees, Kept, Inside, Holding}
use Rattle.safl_word.proofs.Lists.{get_some, map_at}
use Rattle.safl_word.proofs.Words.{pick_ap}
use Rattle.safl_sim.specs.Steps.{Choice, plain_number, action_number, IsStep, AreSteps, Goes}
use Rattle.safl_sim.proofs.Written.{index_here, index_other}

-- a step is marked or not
pub mark_or_none : (marks : List ℕ) (k : ℕ) → (marked marks k ≡ 0) ⊎ (marked marks k ≡ 1)
mark_or_none marks k = by (marked marks k) (bit_at-lt (slice_index marks (k / 64)) _) refl
  where
    by : (x : ℕ) → marked marks k < 2 → marked marks k ≡ x → (marked marks k ≡ 0) ⊎ (marked marks k ≡ 1)
    by zero h e = inl e
    by (suc x) h e = inr (omega (arith, h, e))

pub was_none : (marks marks' : List ℕ) (k : ℕ) → ((k : ℕ) → marked marks k ≡ 1 → marked marks' k ≡ 1) → marked marks' k ≡ 0 → marked marks k ≡ 0
was_none marks marks' k grows e = elim (mark_or_none marks k) [ inl h ↦ h | inr h ↦ absurd (let a = grows k h in omega (arith, a, e)) ]

-- where the number was there already, nothing is written
pub set_same : (xs : List ℕ) (p x : ℕ) → slice_index xs p ≡ x → set xs p x ≡ xs
set_same [] p x e = refl
set_same (y ∷ xs) zero x e = ap (λ z. z ∷ xs) (sym e)
set_same (y ∷ xs) (suc p) x e = ap (λ l. y ∷ l) (set_same xs p x e)

pub operands_same : (n : Netlist) (values : List ℕ) (s x : ℕ) (ts : List ℕ) → ((i u : ℕ) → slice_get ts i ≡ Some u → ¬ (u ≡ s)) → map
    (signal_word n (set values s x)) ts ≡ map (signal_word n values) ts
operands_same n values s x ts h = map_at (signal_word n (set values s x)) (signal_word n values) ts (λ i u e. ap (λ b. as_word (width_of n u) b) (index_other values s x u (h i u e)))

-- a step that holds, and reads not what is written and writes it not, holds
pub agrees_apart : (n : Netlist) (values : List ℕ) (p x t : ℕ) (d : Cell) → ¬ (t ≡ p) → ((i u : ℕ) → slice_get d.operands i ≡ Some u → ¬ (u ≡ p)) → Agrees n values t d → Agrees n (set values p x) t d
agrees_apart n values p x t d ne away e = index_other values p x t ne ∙ e ∙ ap (λ l. (cell_word d.op l).bits) (sym (operands_same n values p x d.operands away))

-- a choice that is blind to a place gives the same whatever number stands there
choice_same : (values : List ℕ) (p x c a b : ℕ) → ¬ (c ≡ p) → ¬ (pick (slice_index (set values p x) c) a b ≡ p)
    → plain_number (slice_index (set values p x)) (Choice c a b) ≡ plain_number (slice_index values) (Choice c a b)
choice_same values p x c a b apart away =
    let chosen = pick (slice_index (set values p x) c) a b in
    sym (pick_ap (slice_index (set values p x)) (slice_index (set values p x) c) a b)
    ∙ index_other values p x chosen away
    ∙ pick_ap (slice_index values) (slice_index (set values p x) c) a b
    ∙ ap (λ i. pick i (slice_index values a) (slice_index values b)) (index_other values p x c apart)

blind_same : (values : List ℕ) (p x : ℕ) (action : Action) → IsBlind (slice_index (set values p x)) p action → action_number
    (slice_index (set values p x)) action ≡ action_number (slice_index values) action
blind_same values p x (Choose c a b) blind = choice_same values p x c a b blind.0 blind.1
blind_same values p x (WideChoose c a b) blind = choice_same values p x c a b blind.0 blind.1
blind_same values p x action blind = absurd blind

-- a step that holds, and is blind to what is written and writes it not, holds
agrees_blind : (n : Netlist) (values : List ℕ) (p x t : ℕ) (d : Cell) (step : Step) → IsStep n t step → kind_at n t ≡ Wire (Some d) → ¬ (t ≡ p) →
    FitWidths n (slice_index values) → FitWidths n (slice_index (set values p x))
    → IsBlind (slice_index (set values p x)) p step.action → Agrees n values t d → Agrees n (set values p x) t d
agrees_blind n values p x t d step is kind ne fits fits' blind e =
    let same : Wire (Some d) ≡ Wire (Some is.cell) = sym kind ∙ is.is in
    let one : d ≡ is.cell = cc in
    let held : slice_index values t ≡ (cell_word is.cell.op (map (signal_word n values) is.cell.operands)).bits = subst (λ z. Agrees n values t z) one e in
    subst (λ z. Agrees n (set values p x) t z) (sym one)
    (index_other values p x t ne ∙ held ∙ sym (is.performs.gives (slice_index values) fits) ∙ sym (blind_same values p x step.action blind) ∙ is.performs.gives (slice_index (set values p x)) fits')

-- a place is an operand or not
reads_or_not : (ts : List ℕ) (p : ℕ) → ((i : ℕ) × (slice_get ts i ≡ Some p)) ⊎ ((i u : ℕ) → slice_get ts i ≡ Some u → ¬ (u ≡ p))
reads_or_not [] p = inr (λ i u e. absurd (cc))
reads_or_not (t ∷ ts) p = elim (cases_eq t p) [
  | inl q ↦ inl (0, ap Some q)
  | inr n ↦ elim (reads_or_not ts p) [
    | inl h ↦ inl (suc h.0, h.1)
    | inr away ↦ inr (both n away)
  ]
]
  where
    both : ¬ (t ≡ p) → ((i u : ℕ) → slice_get ts i ≡ Some u → ¬ (u ≡ p)) → (i u : ℕ) → slice_get (t ∷ ts) i ≡ Some u → ¬ (u ≡ p)
    both n away zero u e same = n (let q : t ≡ u = cc in q ∙ same)
    both n away (suc i) u e same = away i u e same

-- give: a step that is not marked afterwards held before and holds
pub given_stays : (n : Netlist) (ws : List ℕ) (steps : List Step) (regs : List Register) (starts readers : List ℕ) (p x : ℕ)
    (values values' marks marks' : List ℕ) → AreReaders n ws regs starts readers → AreSteps n ws steps
    → FitWidths n (slice_index values) → FitWidths n (slice_index values') → HasGiven steps starts readers p x values values' marks marks'
    → (k t : ℕ) (d : Cell) → slice_get ws k ≡ Some t → kind_at n t ≡ Wire (Some d) → ¬ (t ≡ p) → marked marks' k ≡ 0 → Agrees n values t d → Agrees n values' t d
given_stays n ws steps regs starts readers p x values values' marks marks' r are fits fits' g k t d at kind ne none e = subst (λ l. Agrees n l t d)
    (sym g.is) (elim (cases_eq (slice_index values p) x) [
      | inl q ↦ subst (λ l. Agrees n l t d) (sym (set_same values p x q)) e
      | inr q ↦ elim (reads_or_not d.operands p) [
        | inl f ↦
            let read : slice_get (operands_of n t) f.0 ≡ Some p = ap (λ y. slice_get (operands_in (cell_in y)) f.0) kind ∙ f.1 in
            elim (g.told k q (r.all p k f.0 t at read)) [
              | inl a ↦ absurd (omega (arith, a, none))
              | inr u ↦
                  let s = get_some steps k u.0 in
                  agrees_blind n values p x t d s.0 (are.each k t s.0 at s.1) kind ne fits (subst (λ l. FitWidths n (slice_index l)) g.is fits')
                  (subst (λ l. IsBlind (slice_index l) p s.0.action) g.is (u.1 s.0 s.1)) e
            ]
        | inr away ↦ agrees_apart n values p x t d ne away e
      ]
    ])

-- and so did a register
pub given_kept : (n : Netlist) (ws : List ℕ) (steps : List Step) (regs : List Register) (now starts readers : List ℕ) (p x : ℕ)
    (values values' marks marks' : List ℕ) → AreReaders n ws regs starts readers → length steps ≡ length ws → HasGiven steps starts readers p x values
    values' marks marks'
    → Kept (first_register (length ws)) regs now values marks → Kept (first_register (length ws)) regs now values' marks'
given_kept n ws steps regs now starts readers p x values values' marks marks' r long g w k q e none =
    w k q e (was_none marks marks' (first_register (length ws) + k) g.grows none) ∙ sym (ap (λ l. slice_index l q.next.0) g.is ∙ same)
  where
    same : slice_index (set values p x) q.next.0 ≡ slice_index values q.next.0
    same = elim (cases_eq q.next.0 p) [
      | inl z ↦ elim (cases_eq (slice_index values p) x) [
        | inl y ↦ ap (λ l. slice_index l q.next.0) (set_same values p x y)
        | inr y ↦ absurd (elim (g.told (first_register (length ws) + k) y (subst (λ u. Reader starts readers u (first_register (length ws) + k)) z (r.nexts k q e))) [
          | inl a ↦ omega (arith, a, none)
          | inr u ↦ let a = u.0 in omega (arith, a, long)
        ])
      ]
      | inr z ↦ index_other values p x q.next.0 z
    ]

-- only steps and registers are marked
pub given_inside : (n : Netlist) (ws : List ℕ) (steps : List Step) (regs : List Register) (starts readers : List ℕ) (p x : ℕ)
    (values values' marks marks' : List ℕ) → AreReaders n ws regs starts readers → HasGiven steps starts readers p x values values' marks marks'
    → Inside (length ws) (length regs) marks → Inside (length ws) (length regs) marks'
given_inside n ws steps regs starts readers p x values values' marks marks' r g w = record {
  step = λ k e l. elim (cases_lt k (length ws)) [
    | inl h ↦ h
    | inr h ↦ w.step k (sym (g.others k (λ a. let b = r.only p k a l in let c = slice_get_within ws k b.0 b.2 in absurd (omega (arith, c, h)))) ∙ e) l
  ];
  register = λ k e. elim (cases_lt k (first_register (length ws) + length regs)) [
    | inl h ↦ h
    | inr h ↦ w.register k (sym (g.others k (λ a. let b = r.within p k a in absurd (omega (arith, b, h)))) ∙ e)
  ];
}

-- a place that is no wire
pub given_holding : (n : Netlist) (ws : List ℕ) (steps : List Step) (regs : List Register) (now starts readers : List ℕ) (p x : ℕ)
    (values values' marks marks' : List ℕ) → AreReaders n ws regs starts readers → AreSteps n ws steps
    → FitWidths n (slice_index values) → FitWidths n (slice_index values') → HasGiven steps starts readers p x values values' marks marks'
    → ((k : ℕ) → ¬ (slice_get ws k ≡ Some p)) → Holding n ws regs now values marks → Holding n ws regs now values' marks'
given_holding n ws steps regs now starts readers p x values values' marks marks' r are fits fits' g away w = record {
  stays = λ k t d at kind none. given_stays n ws steps regs starts readers p x values values' marks marks' r are fits fits' g k t d at kind
      (λ e. away k (at ∙ ap Some e)) none (w.stays k t d at kind (was_none marks marks' k g.grows none));
  kept = given_kept n ws steps regs now starts readers p x values values' marks marks' r are.long g w.kept;
  inside = given_inside n ws steps regs starts readers p x values values' marks marks' r g w.inside;
}

-- the steps before a place that a step writes stay as they are: readers stand later
pub given_below : (n : Netlist) (ws : List ℕ) (steps : List Step) (regs : List Register) (starts readers : List ℕ) (i s x : ℕ)
    (values values' marks marks' : List ℕ) → IsOrder n ws → AreReaders n ws regs starts readers → HasGiven steps starts readers s x values values' marks marks'
    → slice_get ws i ≡ Some s → (k : ℕ) → k ≤ i → marked marks k ≡ 0 → marked marks' k ≡ 0
given_below n ws steps regs starts readers i s x values values' marks marks' o r g at k le none =
    g.others k (λ a.
    let b = r.only s k a (let l = slice_get_within ws i s at in omega (arith, l, le)) in
    let c = o.before k b.0 b.1 s b.2 b.3 (o.wires i s at) in
    let q = o.once c.0 i s c.2 at in
    let l = c.1 in
    absurd (omega (arith, l, q, le))) ∙ none

-- a number that fits its place
pub fits_set : (n : Netlist) (values : List ℕ) (p x : ℕ) → p < length values → ((g : Signal) → slice_get n.signals p ≡ Some g → x < 2 ^ g.width) →
    FitWidths n (slice_index values) → FitWidths n (slice_index (set values p x))
fits_set n values p x inside small fits s g e = elim (cases_eq s p) [
  | inl q ↦ subst (λ y. y < 2 ^ g.width) (sym (ap (slice_index (set values p x)) q ∙ index_here values p x inside)) (small g (sym (ap (slice_get n.signals) q) ∙ e))
  | inr q ↦ subst (λ y. y < 2 ^ g.width) (sym (index_other values p x s q)) (fits s g e)
]

-- one more place that is no wire
pub goes_step : (n : Netlist) (ws : List ℕ) (steps : List Step) (regs : List Register) (now starts readers : List ℕ) (p x : ℕ)
    (v0 v1 v2 m0 m1 m2 : List ℕ) → Goes n ws steps regs now starts readers v0 v1 m0 m1 → ((k : ℕ) → ¬ (slice_get ws k ≡ Some p))
    → p < length v1 → (FitWidths n (slice_index now) → (g : Signal) → slice_get n.signals p ≡ Some g → x < 2 ^ g.width) → HasGiven steps starts
    readers p x v1 v2 m1 m2 → Goes n ws steps regs now starts readers v0 v2 m0 m2
goes_step n ws steps regs now starts readers p x v0 v1 v2 m0 m1 m2 w away inside small g = λ r are state fits h.
    let before = w r are state fits h in
    let after : FitWidths n (slice_index v2) = subst (λ l. FitWidths n (slice_index l)) (sym g.is) (fits_set n v1 p x inside (small state) before.0) in
    (after, given_holding n ws steps regs now starts readers p x v1 v2 m1 m2 r are before.0 after g away before.1)

pub lists_same : (starts readers : List ℕ) (a b c d : ℕ) → a ≡ c → b ≡ d → Lists starts readers c d → Lists starts readers a b
lists_same starts readers a b c d e f l = subst (λ x. Lists starts readers x b) (sym e) (subst (λ x. Lists starts readers c x) (sym f) l)
