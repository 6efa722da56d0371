-- What a command gives of the contents of its files, by what the function of the command makes of them.
use Rattle.safl_tool.proofs.Common.{Answer, Bor, Declines, Files, IfErr, IfOk, Lines, MatchResult, Refusal, RefusesBy, Vec, content_at}
use Rattle.std.proofs.Common.{◌≡◌, ℕ, ◌≤◌, List, [], ◌∷◌, length, Option, None, Result, Ok, Err, refl, sym, ap, subst}
use Rattle.std.specs.declared.alloc.Global.{Global}
use Rattle.safl_task.specs.Tasks.{Input, Given, AreContents, Only, Both, reading, reading_both}
use Rattle.safl_task.proofs.Following.{Refusing, Giving}
use Rattle.safl_command.specs.Traces.{Traces}
use Rattle.safl_tool.specs.Answers.{Answers, CanBeGiven, outputs_of, printed, traces_for, WillGive}
use Rattle.safl_task.specs.Tasks.{only_writes}
use Rattle.safl_tool.specs.declared.answer.Answer.TheVariants as answer
use Rattle.safl_tool.proofs.Refusing.{refuses_more}

-- ---- the contents

pub contents_alone : (holds : Option Files) (inputs : List Input) (cs : List (List ℕ)) → AreContents holds inputs cs → AreContents None inputs cs
contents_alone holds [] [] h = tt
contents_alone holds [] (c ∷ cs) h = absurd h
contents_alone holds (i ∷ is) [] h = absurd h
contents_alone holds (i ∷ is) (c ∷ cs) h = (h.0, tt, contents_alone holds is cs h.2)

-- there is one
pub one_within : (i : Input) (cs : List (List ℕ)) → AreContents None (i ∷ []) cs → length (content_at cs 0) ≤ i.limit
one_within i [] h = absurd h
one_within i (c ∷ cs) h = h.0

pub one_is : (i : Input) (cs : List (List ℕ)) → AreContents None (i ∷ []) cs → content_at cs 0 ∷ [] ≡ cs
one_is i [] h = absurd h
one_is i (c ∷ []) h = refl
one_is i (c ∷ (d ∷ cs)) h = absurd h.2

-- there are two
pub two_within : (i j : Input) (cs : List (List ℕ)) → AreContents None (i ∷ j ∷ []) cs → (length (content_at cs 0) ≤ i.limit) × (length (content_at cs 1) ≤ j.limit)
two_within i j [] h = absurd h
two_within i j (c ∷ []) h = absurd h.2
two_within i j (c ∷ (d ∷ cs)) h = (h.0, h.2.0)

pub two_are : (i j : Input) (cs : List (List ℕ)) → AreContents None (i ∷ j ∷ []) cs → content_at cs 0 ∷ content_at cs 1 ∷ [] ≡ cs
two_are i j [] h = absurd h
two_are i j (c ∷ []) h = absurd h.2
two_are i j (c ∷ (d ∷ [])) h = refl
two_are i j (c ∷ (d ∷ (e ∷ cs))) h = absurd h.2.2

-- ---- an answer that is made of what a function gives

module _ {X : Type 0} (f : X → Answer) (x : Result X Refusal) (y : Result Answer Refusal) (same : MatchResult x (λ l. y ≡ Ok (f l)) (λ r. y ≡ Err r)) where
  pub given_on : (P : X → Type 0) (Q : Answer → Type 0) → ((l : X) → P l → Q (f l)) → IfOk x P → IfOk y Q
  given_on P Q g p = go x same p
    where
      go : (x : Result X Refusal) → MatchResult x (λ l. y ≡ Ok (f l)) (λ r. y ≡ Err r) → IfOk x P → IfOk y Q
      go (Ok l) e p = subst (λ (r : Result Answer Refusal). IfOk r Q) (sym e) (g l p)
      go (Err r) e p = subst (λ (r : Result Answer Refusal). IfOk r Q) (sym e) tt

  pub traces_on : (T : Traces) → ((l : X) → traces_for (f l) ≡ T) → IfOk y (λ a. traces_for a ≡ T)
  traces_on T g = go x same
    where
      go : (x : Result X Refusal) → MatchResult x (λ l. y ≡ Ok (f l)) (λ r. y ≡ Err r) → IfOk y (λ a. traces_for a ≡ T)
      go (Ok l) e = subst (λ (r : Result Answer Refusal). IfOk r (λ a. traces_for a ≡ T)) (sym e) (g l)
      go (Err r) e = subst (λ (r : Result Answer Refusal). IfOk r (λ a. traces_for a ≡ T)) (sym e) tt

  pub refused_on : (Q : Refusal → Type 0) (P : Refusal → Type 0) → ((r : Refusal) → P r → Q r) → IfErr x P → IfErr y Q
  refused_on Q P g p = go x same p
    where
      go : (x : Result X Refusal) → MatchResult x (λ l. y ≡ Ok (f l)) (λ r. y ≡ Err r) → IfErr x P → IfErr y Q
      go (Ok l) e p = subst (λ (r : Result Answer Refusal). IfErr r Q) (sym e) tt
      go (Err r) e p = subst (λ (r : Result Answer Refusal). IfErr r Q) (sym e) (g r p)

-- ---- of one file

module _ (input : Input) (R : Refusing) (G : Giving) (P : List ℕ → Type 0) (cs : List (List ℕ)) (within : AreContents None (input ∷ []) cs) (content : List ℕ) (is : content ≡ content_at cs 0) where
  only_at : (Q : List ℕ → Type 0) → Q content → Only Q cs
  only_at Q q = subst (λ (l : List (List ℕ)). Only Q l) (one_is input cs within) (subst Q is q)

  -- it is printed, or written
  pub prints : (x : Result Lines Refusal) (y : Result Answer Refusal) → MatchResult x (λ l. y ≡ Ok (answer.Printed l)) (λ r. y ≡ Err r) → IfOk x
      (λ l. G content (printed l)) → IfOk y (Answers (reading input [] R G P) cs)
  prints x y same p =
      given_on answer.Printed x y same (λ l. G content (printed l)) (Answers (reading input [] R G P) cs)
      (λ l p. record { gives = λ g e. only_at (λ c. G c g) (subst (G content) (sym e) p); outputs = refl; can = tt }) p

  pub writes : (name : Bor (List ℕ)) (output : List ℕ) → name.now ≡ output → (x : Result (Vec ℕ Global) Refusal) (y : Result Answer Refusal) →
      MatchResult x (λ t. y ≡ Ok (answer.File name t)) (λ r. y ≡ Err r)
      → IfOk x (λ t. G content (only_writes t.items)) → IfOk y (Answers (reading input (output ∷ []) R G P) cs)
  writes name output e x y same p =
      given_on (answer.File name) x y same (λ t. G content (only_writes t.items)) (Answers (reading input (output ∷ []) R G P) cs)
      (λ t p. record { gives = λ g h. only_at (λ c. G c g) (subst (G content) (sym h) p); outputs = ap (λ (l : List ℕ). l ∷ []) (sym e); can = tt }) p

  -- or another answer is made of it
  pub answers_with : {X : Type 0} (f : X → Answer) (outputs : List (List ℕ)) (x : Result X Refusal) (y : Result Answer Refusal) → MatchResult x (λ l. y ≡ Ok (f l)) (λ r. y ≡ Err r)
      → ((l : X) → outputs ≡ outputs_of (f l)) → (Q : X → Type 0) → ((l : X) → Q l → CanBeGiven (f l)) → ((l : X) → Q l → (g : Given) → WillGive (f l) g → G content g) → IfOk x Q
      → IfOk y (Answers (reading input outputs R G P) cs)
  answers_with f outputs x y same os Q can gives q =
      given_on f x y same Q (Answers (reading input outputs R G P) cs)
      (λ l p. record { gives = λ g h. only_at (λ c. G c g) (gives l p g h); outputs = os l; can = can l p }) q

  -- or it is refused
  pub declines : {X : Type 0} (f : X → Answer) (outputs : List (List ℕ)) (x : Result X Refusal) (y : Result Answer Refusal) → MatchResult x
      (λ l. y ≡ Ok (f l)) (λ r. y ≡ Err r) → IfErr x (RefusesBy (R content))
      → IfErr y (Declines (reading input outputs R G P) cs)
  declines f outputs x y same p =
      refused_on f x y same (Declines (reading input outputs R G P) cs) (RefusesBy (R content))
      (λ r h. refuses_more (R content) ((reading input outputs R G P).Refuses cs) (λ s line q. only_at (λ c. R c s line) q) r h) p

-- ---- of two files

module _ (one two : Input) (R : List ℕ → Refusing) (G : List ℕ → Giving) (P : List ℕ → List ℕ → Type 0) (cs : List (List ℕ))
    (within : AreContents None (one ∷ two ∷ []) cs) (c d : List ℕ) (is : c ≡ content_at cs 0) (is' : d ≡ content_at cs 1) where
  both_at : (Q : List ℕ → List ℕ → Type 0) → Q c d → Both Q cs
  both_at Q q = subst (λ (l : List (List ℕ)). Both Q l) (two_are one two cs within) (subst (λ (x : List ℕ). Q (content_at cs 0) x) is' (subst (λ (x : List ℕ). Q x d) is q))

  pub both_answers : {X : Type 0} (f : X → Answer) (x : Result X Refusal) (y : Result Answer Refusal) → MatchResult x (λ l. y ≡ Ok (f l)) (λ r. y ≡ Err r)
      → ((l : X) → [] ≡ outputs_of (f l)) → (Q : X → Type 0) → ((l : X) → Q l → CanBeGiven (f l)) → ((l : X) → Q l → (g : Given) → WillGive (f l) g → G c d g) → IfOk x Q
      → IfOk y (Answers (reading_both one two R G P) cs)
  both_answers f x y same os Q can gives q =
      given_on f x y same Q (Answers (reading_both one two R G P) cs)
      (λ l p. record { gives = λ g h. both_at (λ a b. G a b g) (gives l p g h); outputs = os l; can = can l p }) q

  pub both_declines : {X : Type 0} (f : X → Answer) (x : Result X Refusal) (y : Result Answer Refusal) → MatchResult x (λ l. y ≡ Ok (f l))
      (λ r. y ≡ Err r) → IfErr x (RefusesBy (R c d)) → IfErr y (Declines (reading_both one two R G P) cs)
  both_declines f x y same p =
      refused_on f x y same (Declines (reading_both one two R G P) cs) (RefusesBy (R c d))
      (λ r h. refuses_more (R c d) ((reading_both one two R G P).Refuses cs) (λ s line q. both_at (λ a b. R a b s line) q) r h) p
