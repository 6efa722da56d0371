-- The heads of a program's functions, and which of them a call may name.
use Rattle.std.specs.Prelude.{ℕ, suc, ◌+◌, List, [], ◌∷◌, map, Option, Some, None, Bool, ◌&&◌, ◌==◌, nat_lt, if◌then◌else◌}
use Rattle.std.specs.Option.{option_map_or}
use Rattle.std.specs.Str.{bytes_eq}
use Rattle.safl_tree.specs.Tree.{Definition, Parameter}
use Rattle.safl_typing.specs.Rewriting.{Expression, Call, Expressions, Bindings, gathered_over, gathered_in, gathered_bound}

-- the name of a parameter or a binding, and its width
pub record Slot : Type 0 where
  pub name : List ℕ
  pub width : ℕ

-- the head of a function: its name, its parameters, the width of its result, and the number of the first function of its group
pub record Head : Type 0 where
  pub name : List ℕ
  pub params : List Slot
  pub width : ℕ
  pub unit : ℕ

abbrev pub params_of : Definition → List Slot
params_of d = map (λ (p : Parameter). record { name = p.name; width = p.width }) d.params

-- the group of function n. u is the group of the function before it
abbrev pub unit_of : ℕ → ℕ → Definition → ℕ
unit_of n u d = if d.joined then u else n

-- the heads of functions that are numbered from n on
abbrev pub heads_from : ℕ → ℕ → List Definition → List Head
heads_from n u [] = []
heads_from n u (d ∷ ds) =
    record { name = d.name; params = params_of d; width = d.width; unit = unit_of n u d } ∷ heads_from (suc n) (unit_of n u d) ds

-- what a body sees: all heads of the program, and its own group
pub record Known : Type 0 where
  pub heads : List Head
  pub unit : ℕ

-- the number and the head of a function
pub record Numbered : Type 0 where
  pub number : ℕ
  pub head : Head

-- the first head that passes the test
abbrev pub first_head : (Head → Bool) → ℕ → List Head → Option Numbered
first_head test n [] = None
first_head test n (h ∷ hs) = if test h then Some (record { number = n; head = h }) else first_head test (suc n) hs

-- the function that a call names: one of the caller's own group, or one of an earlier group
pub data Callee : Type 0 where
  Member : (number : ℕ) (head : Head) → Callee
  Above : (number : ℕ) (head : Head) → Callee
  Unknown : Callee

abbrev pub callee : Known → List ℕ → Callee
callee k f =
    option_map_or (λ (m : Numbered). Member m.number m.head) (first_head (λ h. h.unit == k.unit && bytes_eq h.name f) 0 k.heads)
    (option_map_or (λ (m : Numbered). Above m.number m.head) (first_head (λ h. nat_lt h.unit k.unit && bytes_eq h.name f) 0 k.heads) Unknown)

-- 1 if a call of this function is a call site, else 0. It is one unless the function belongs to the caller's group
abbrev pub is_site : Callee → ℕ
is_site (Member i h) = 0
is_site _ = 1

-- one more than n if the expression itself is a call site
abbrev pub and_own_site : Known → Expression → ℕ → ℕ
and_own_site k (Call p f es) n = is_site (callee k f) + n
and_own_site k _ n = n

-- the number of call sites of an expression
abbrev pub sites : Known → Expression → ℕ
sites k e = gathered_over (and_own_site k) (λ (m n : ℕ). m + n) 0 e

abbrev pub sites_in : Known → Expressions → ℕ
sites_in k es = gathered_in (and_own_site k) (λ (m n : ℕ). m + n) 0 es

abbrev pub sites_bound : Known → Bindings → ℕ
sites_bound k bs = gathered_bound (and_own_site k) (λ (m n : ℕ). m + n) 0 bs

-- ---- parts by name

abbrev pub heads : List Definition → List Head
heads ds = heads_from 0 0 ds

abbrev pub member_or : Option Numbered → Option Numbered → Callee
member_or o above = option_map_or (λ (m : Numbered). Member m.number m.head) o (option_map_or (λ (m : Numbered). Above m.number m.head) above Unknown)

abbrev pub slot_of : Parameter → Slot
slot_of p = record { name = p.name; width = p.width }

abbrev pub head_of : ℕ → Definition → Head
head_of u d = record { name = d.name; params = params_of d; width = d.width; unit = u }
