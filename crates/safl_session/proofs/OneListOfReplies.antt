-- There is one list of replies to calls.
use Rattle.safl_session.proofs.Common.{All-head, All-tail, AllReply, AreReplies, AreWords, FitWidths, IsNetlist, Netlist, Word}
use Rattle.std.proofs.Common.{◌≡◌, ℕ, List, [], ◌∷◌, ◌++◌, Option, Some, None, refl, sym, ap, subst, ◌∙◌}
use Rattle.safl_net.specs.Valuations.{IsAcyclic}
use Rattle.safl_net.specs.Whole.{IsWhole}
use Rattle.safl_net.specs.Arguments.{AreArguments}
use Rattle.safl_sim.specs.declared.done.Done.{Done as Reply}
use Rattle.safl_run.specs.Calls.{Answers, Replies}
use Rattle.safl_run.proofs.OneAnswer.{answered, answers_along, once, replies_once as reply_once}
use Rattle.safl_session.specs.Laws.{AreCallsOf, RepliesExist, RepliesOnce, RepliesJoin}

-- equal states give the same replies
are_along : (n : Netlist) (limit : ℕ) (state other : ℕ → ℕ) (calls : List (List Word)) (rs : List Reply) → ((s : ℕ) → state s ≡ other s) → AreReplies
    n limit state calls rs → AreReplies n limit other calls rs
are_along n limit state other [] [] e a = tt
are_along n limit state other [] (r ∷ rs) e a = absurd a
are_along n limit state other (args ∷ calls) [] e a = answers_along n limit state other args None state e a
are_along n limit state other (args ∷ calls) (r ∷ rs) e a = (a.0, answers_along n limit state other args (Some r) a.0 e a.1, a.2)

module _ (n : Netlist) (made : IsNetlist n) (whole : IsWhole n) (acyclic : IsAcyclic n) (limit : ℕ) where
  exist : (state : ℕ → ℕ) → FitWidths n state → (calls : List (List Word)) → AreCallsOf n calls → (rs : List Reply) × AreReplies n limit state calls rs
  exist state fit [] all = ([], tt)
  exist state fit (args ∷ calls) all =
      let one = All-head (λ a. AreWords a × AreArguments n a) args calls all in
      let a = answered n made whole acyclic limit state fit args one.0 one.1 in
      by a.0 a.1 a.2 a.3 (λ after f. exist after f calls (All-tail (λ a. AreWords a × AreArguments n a) args calls all))
    where
      by : (answer : Option Reply) (after : ℕ → ℕ) → Answers n limit state args answer after → FitWidths n after
          → ((after : ℕ → ℕ) → FitWidths n after → (rs : List Reply) × AreReplies n limit after calls rs) → (rs : List Reply) × AreReplies n limit state (args ∷ calls) rs
      by None after a f rest = ([], a)
      by (Some r) after a f rest = let more = rest after f in (r ∷ more.0, (after, a, more.1))

  only : (state : ℕ → ℕ) → (calls : List (List Word)) → (rs qs : List Reply) → AreReplies n limit state calls rs → AreReplies n limit state calls qs → rs ≡ qs
  only state [] [] [] a b = refl
  only state [] [] (q ∷ qs) a b = absurd b
  only state [] (r ∷ rs) qs a b = absurd a
  only state (args ∷ calls) [] [] a b = refl
  only state (args ∷ calls) [] (q ∷ qs) a b = absurd (let e = once n made whole acyclic limit state args None (Some q) state b.0 a b.1 in cc)
  only state (args ∷ calls) (r ∷ rs) [] a b = absurd (let e = once n made whole acyclic limit state args (Some r) None a.0 state a.1 b in cc)
  only state (args ∷ calls) (r ∷ rs) (q ∷ qs) a b =
      let same = reply_once n made whole acyclic limit state args r q a.0 b.0 a.1 b.1 in
      let rest : rs ≡ qs = only a.0 calls rs qs a.2 (are_along n limit b.0 a.0 calls qs (λ s. sym (same.1 s)) b.2) in
      ap (λ x. x ∷ rs) same.0 ∙ ap (λ l. q ∷ l) rest

pub replies_exist : RepliesExist
replies_exist n made whole acyclic limit state fit calls all = exist n made whole acyclic limit state fit calls all

pub replies_once : RepliesOnce
replies_once n made whole acyclic limit state fit calls all rs qs a b = only n made whole acyclic limit state calls rs qs a b

-- more calls go on from the last state
pub replies_join : RepliesJoin
replies_join n limit state last [] more [] qs a b = subst (λ s. AreReplies n limit s more qs) a b
replies_join n limit state last [] more (r ∷ rs) qs a b = absurd a
replies_join n limit state last (args ∷ calls) more [] qs a b = absurd a
replies_join n limit state last (args ∷ calls) more (r ∷ rs) qs a b = (a.0, a.1, replies_join n limit a.0 last calls more rs qs a.2 b)

pub all_more : (n : Netlist) (limit : ℕ) (state now after : ℕ → ℕ) (calls : List (List Word)) (rs : List Reply) (args : List Word) (r : Reply) →
    AllReply n limit state calls rs now → Replies n limit now args r after
    → AllReply n limit state (calls ++ args ∷ []) (rs ++ r ∷ []) after
all_more n limit state now after [] [] args r a p = (after, subst (λ s. Replies n limit s args r after) a p, refl)
all_more n limit state now after [] (q ∷ rs) args r a p = absurd a
all_more n limit state now after (x ∷ calls) [] args r a p = absurd a
all_more n limit state now after (x ∷ calls) (q ∷ rs) args r a p = (a.0, a.1, all_more n limit a.0 now after calls rs args r a.2 p)
