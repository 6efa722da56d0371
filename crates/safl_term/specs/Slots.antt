-- The slots to which the lets of a term bind.
use Rattle.std.specs.Prelude.{◌≡◌, ℕ, suc, ◌+◌}
use Rattle.safl_term.specs.Terms as plain
use Rattle.safl_term.specs.Tree.{shown_row}
use Rattle.safl_term.specs.declared.term.Term.{Term, Const, Var, If', Let', Op', Call', Loop', Row_of-Term, end_of-Term, more_of-Term}

-- how many terms these are
abbrev pub count : plain.Terms → ℕ
count plain.Nil = 0
count (plain.Cons t ts) = suc (count ts)

unfoldable mutual
  -- In a term with n slots in scope, each let names slot n, which is that of its first binding. Its bindings have n slots in
  -- scope too, and its body also those of the bindings. All other parts have the slots of their term in scope.
  pub HasSlots : ℕ → Term → Type 0
  HasSlots n (Const w) = Unit {0}
  HasSlots n (Var i) = Unit {0}
  HasSlots n (If' p c q a r b) = HasSlots n c × HasSlots n a × HasSlots n b
  HasSlots n (Let' slot shape ts q b) = (slot ≡ n) × HaveSlots n ts × HasSlots (n + count (shown_row ts)) b
  HasSlots n (Op' o shape ts) = HaveSlots n ts
  HasSlots n (Call' f k shape ts) = HaveSlots n ts
  HasSlots n (Loop' h shape ts) = HaveSlots n ts

  pub HaveSlots : ℕ → {m : _} → Row_of-Term m → Type 0
  HaveSlots n end_of-Term = Unit {0}
  HaveSlots n (more_of-Term t rest) = HasSlots n t × HaveSlots n rest
