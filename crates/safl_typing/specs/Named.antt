-- Which functions have a given name.
use Rattle.std.specs.Prelude.{ℕ, zero, suc, ◌≡◌, ◌<◌, Bool, false, List, [], Option, Some, None, length, slice_get, if◌then◌else◌}
use Rattle.std.specs.Str.{bytes_eq}
use Rattle.std.specs.Global.{Global}
use Rattle.std.specs.Prelude.{Vec}
use Rattle.std.specs.Map.{lookup}
use Rattle.safl_typing.specs.declared.heads.Head.{Head}

abbrev pub name_of : Option Head → List ℕ
name_of None = []
name_of (Some h) = h.name

abbrev pub has_name : List ℕ → Option Head → Bool
has_name name None = false
has_name name (Some h) = bytes_eq name h.name

-- the last of the first n functions that has the name
abbrev pub last_named : List Head → List ℕ → ℕ → Option ℕ
last_named hs name zero = None
last_named hs name (suc n) = if has_name name (slice_get hs n) then Some n else last_named hs name n

-- the last of the functions before this one that has its name
abbrev pub before_it : List Head → ℕ → Option ℕ
before_it hs n = last_named hs (name_of (slice_get hs n)) n

-- the number that is stored for a name
abbrev pub kept : List (Vec ℕ Global × ℕ) → List ℕ → Option ℕ
kept entries name = lookup (λ (k : Vec ℕ Global). bytes_eq name k.items) entries

-- for each name the last of the first n functions with it is stored, and for each function the one before it with the same name
pub record KeepsNames (entries : List (Vec ℕ Global × ℕ)) (before : List (Option ℕ)) (hs : List Head) (n : ℕ) : Type 0 where
  pub last : (name : List ℕ) → kept entries name ≡ last_named hs name n
  pub counted : length before ≡ n
  pub links : (m : ℕ) → m < n → slice_get before m ≡ Some (before_it hs m)
