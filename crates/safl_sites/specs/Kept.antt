-- Which sites feed a term, and which sites keep their words.
use Rattle.std.specs.Prelude.{◌≡◌, ◌≢◌, ℕ, ◌+◌, List, [], ◌∷◌, ◌++◌, length, replicate, Bool, true, false, ◌||◌, ◌==◌, ◌⊎◌, get_or}
use Rattle.safl_term.specs.Program.{Program, unit_for, arity}
use Rattle.safl_term.specs.Terms.{Term, Terms, Const, Var, Op, If, Let, Call, Loop, Nil, Cons}
use Rattle.safl_sites.specs.Conflicts.{Reaches, ReachesIn, Conflict}

unfoldable mutual
  -- Whether site k feeds the term. The list says of each slot in scope whether k feeds it. A call is fed only by its own site,
  -- an operator and an if by what feeds their parts, a let by what feeds its body, and a variable by what feeds its binding. A
  -- constant, a parameter and a loop are fed by nothing.
  pub feeds : ℕ → List Bool → Term → Bool
  feeds k fe (Var i) = get_or fe i false
  feeds k fe (Op p ts) = feeds_any k fe ts
  feeds k fe (If c a b) = feeds k fe c || (feeds k fe a || feeds k fe b)
  feeds k fe (Let bs b) = feeds k (fe ++ feeds_each k fe bs) b
  feeds k fe (Call f j ts) = j == k
  feeds k fe _ = false

  pub feeds_any : ℕ → List Bool → Terms → Bool
  feeds_any k fe Nil = false
  feeds_any k fe (Cons t ts) = feeds k fe t || feeds_any k fe ts

  pub feeds_each : ℕ → List Bool → Terms → List Bool
  feeds_each k fe Nil = []
  feeds_each k fe (Cons t ts) = feeds k fe t ∷ feeds_each k fe ts

unfoldable mutual
  -- the term uses the slot
  pub Uses : ℕ → Term → Type 0
  Uses i (Const n) = ⊥
  Uses i (Var j) = j ≡ i
  Uses i (Op p ts) = UsesIn i ts
  Uses i (If c a b) = Uses i c ⊎ (Uses i a ⊎ Uses i b)
  Uses i (Let bs b) = UsesIn i bs ⊎ Uses i b
  Uses i (Call f j ts) = UsesIn i ts
  Uses i (Loop h ts) = UsesIn i ts

  pub UsesIn : ℕ → Terms → Type 0
  UsesIn i Nil = ⊥
  UsesIn i (Cons t ts) = Uses i t ⊎ UsesIn i ts

unfoldable mutual
  unfolding feeds

  -- k feeds the condition of an if within the term
  pub Decides : ℕ → List Bool → Term → Type 0
  Decides k fe (Op p ts) = DecidesIn k fe ts
  Decides k fe (If c a b) = (feeds k fe c ≡ true) ⊎ (Decides k fe c ⊎ (Decides k fe a ⊎ Decides k fe b))
  Decides k fe (Let bs b) = DecidesIn k fe bs ⊎ Decides k (fe ++ feeds_each k fe bs) b
  Decides k fe (Call f j ts) = DecidesIn k fe ts
  Decides k fe (Loop h ts) = DecidesIn k fe ts
  Decides k fe _ = ⊥

  pub DecidesIn : ℕ → List Bool → Terms → Type 0
  DecidesIn k fe Nil = ⊥
  DecidesIn k fe (Cons t ts) = Decides k fe t ⊎ DecidesIn k fe ts

-- k is in reach of the body of a let. If the body is itself a call, k is in reach of one of its arguments
unfoldable pub InBody : Program → ℕ → Term → Type 0
unfolding ReachesIn
InBody C k (Call f j ts) = ReachesIn C k ts
InBody C k t = Reaches C k t

unfoldable mutual
  unfolding feeds InBody Uses

  -- in a let within the term, k feeds the binding of a slot that the body uses, and j is in reach of that body
  pub Held : Program → ℕ → ℕ → List Bool → Term → Type 0
  Held C k j fe (Op p ts) = HeldIn C k j fe ts
  Held C k j fe (If c a b) = Held C k j fe c ⊎ (Held C k j fe a ⊎ Held C k j fe b)
  Held C k j fe (Let bs b) = ((i : ℕ) × (get_or (feeds_each k fe bs) i false ≡ true) × Uses (length fe + i) b × InBody C j b) ⊎ (HeldIn C k j fe bs ⊎ Held C k j (fe ++ feeds_each k fe bs) b)
  Held C k j fe (Call f i ts) = HeldIn C k j fe ts
  Held C k j fe (Loop h ts) = HeldIn C k j fe ts
  Held C k j fe _ = ⊥

  pub HeldIn : Program → ℕ → ℕ → List Bool → Terms → Type 0
  HeldIn C k j fe Nil = ⊥
  HeldIn C k j fe (Cons t ts) = Held C k j fe t ⊎ HeldIn C k j fe ts

-- Why site k keeps its word: because of another site of its unit. Either the two conflict; or k feeds a condition of the body
-- that has k, and the other is in reach of that body; or k feeds a binding of a let there that the let's body uses, and the other
-- is in reach of the let's body. No site feeds the parameters.
pub record Kept (C : Program) (k : ℕ) : Type 0 where
  pub because : ℕ
  pub other : k ≢ because
  pub same : unit_for C k ≡ unit_for C because
  pub why : let body = C.body (C.caller k) in let fe = replicate (arity C (C.caller k)) false in
      Conflict C k because ⊎ ((Decides k fe body × Reaches C because body) ⊎ Held C k because fe body)
