-- What a plan has to ensure: arbiters where sites meet, and shown words that serve.
use Rattle.std.specs.Prelude.{◌≡◌, ◌≢◌, ℕ, zero, suc, ◌<◌, List, Option, Some, None, Bool, false, cond, ◌⊎◌}
use Rattle.safl_word.specs.Words.{Word}
use Rattle.safl_term.specs.Program.{Program, unit_for}
use Rattle.safl_term.specs.Readiness.{Stage, Unsent, Sent, Returned, answer, wanted}
use Rattle.safl_sites.specs.Conflicts.{Conflict}
use Rattle.safl_calls.specs.Machine.{State, Runs, Event, opening, asked, back, after_event, last_word, EachList}

-- The word that a circuit shows for a site. If the site is kept, it is the word that the site has returned; otherwise it is the
-- word that its unit finished last. For a unit that has finished nothing it is d.
abbrev pub shown_as : Bool → Word → Stage → Option Word
shown_as keep last Unsent = None
shown_as keep last Sent = None
shown_as keep last (Returned v) = Some (cond keep v last)

abbrev pub shown_words : Program → (ℕ → Bool) → (ℕ → Word) → List Word → List Event → ℕ → Option Word
shown_words C kept d args es zero = None
shown_words C kept d args es (suc k) =
    shown_as (kept (suc k)) (last_word C args opening es (unit_for C (suc k)) (d (unit_for C (suc k))))
    ((after_event C args opening es).site (suc k))

-- the site is wanted and unsent, or in flight: sent and not returned
abbrev pub Busy : Program → List Word → State → ℕ → Type 0
Busy C args s k = ((ws : List Word) × (asked C args s k ≡ Some ws)) ⊎ (s.site k ≡ Sent)

-- two sites of one unit that are busy at once conflict
abbrev pub BusySitesConflict : Program → Type 0
BusySitesConflict C =
    EachList C (λ args es. (j k : ℕ) → 0 < j → 0 < k → j ≢ k → unit_for C j ≡ unit_for C k
    → Busy C args (after_event C args opening es) j → Busy C args (after_event C args opening es) k → Conflict C j k)

-- at a unit without an arbiter at most one site is busy
pub record OneInUse (C : Program) (arbiter : ℕ → Bool) : Type 0 where
  pub one : EachList C (λ args es. (j k : ℕ) → 0 < j → 0 < k → unit_for C j ≡ unit_for C k → arbiter (unit_for C j) ≡ false
      → Busy C args (after_event C args opening es) j → Busy C args (after_event C args opening es) k → j ≡ k)

-- with the shown words a running body has the same answer as with the returned words, and wants its unsent sites with the same
-- words
pub record ShownWordsServe (C : Program) (kept : ℕ → Bool) : Type 0 where
  pub same_answer : (d : ℕ → Word) → EachList C (λ args es. (u f k : ℕ) (ws : List Word) → (after_event C args opening es).unit u ≡ Runs f k ws
      → answer (shown_words C kept d args es) ws (C.body f) ≡ answer (back (after_event C args opening es)) ws (C.body f))
  pub same_wants : (d : ℕ → Word) → EachList C (λ args es. (u f j : ℕ) (ws : List Word) → (after_event C args opening es).unit u ≡ Runs f j ws
      → (k : ℕ) → (after_event C args opening es).site k ≡ Unsent
      → wanted (shown_words C kept d args es) ws (C.body f) k ≡ wanted (back (after_event C args opening es)) ws (C.body f) k)
