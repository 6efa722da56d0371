-- Why a reshaping is refused, in the order of the checks.
use Rattle.std.specs.Prelude.{◌≡◌, ℕ, suc, ◌<◌, ◌≤◌, List, [], length, Option, Bool, true, false, ◌||◌, ◌⊎◌, slice_get}
use Rattle.std.specs.Option.{option_map_or}
use Rattle.std.specs.List.{list_any}
use Rattle.std.specs.Str.{bytes_eq}
use Rattle.safl_word.specs.Limits.{name_max, functions_max, sites_max, nodes_max}
use Rattle.safl_term.specs.Program.{Program}
use Rattle.safl_tree.specs.Tree.{Definition}
use Rattle.safl_tree.specs.Printable.{AllKeepLevels}
use Rattle.safl_typing.specs.Heads.{heads}
use Rattle.safl_typing.specs.Forms.{Form, nodes_of, function_names, IsFormOf}
use Rattle.safl_check.specs.Numbered.{program_in}
use Rattle.safl_reshape.specs.declared.error.ReshapeErr.{ReshapeErr}
use Rattle.safl_reshape.specs.declared.error.ReshapeErr.TheVariants as errors
use Rattle.safl_reshape.specs.Laws.{IsAlike, Spares}
use Rattle.safl_reshape.specs.Limits.{site_total, KeepsLimits}
use Rattle.safl_reshape.specs.Reshaped.{copy_name, copied, unfolded, is_recursive}

pub record HasSite (C : Program) (k : ℕ) : Type 0 where
  pub from : 1 ≤ k
  pub to : k ≤ C.sites

-- whether the group of function j has two or more members
abbrev pub is_grouped : List Definition → ℕ → Bool
is_grouped ds j =
    option_map_or (λ (d : Definition). d.joined) (slice_get ds j) false || option_map_or (λ (d : Definition). d.joined) (slice_get ds (suc j)) false

-- the name of the copy of function j for site k
abbrev pub name_for : List Definition → ℕ → ℕ → List ℕ
name_for ds k j = copy_name (option_map_or (λ (d : Definition). d.name) (slice_get ds j) []) k

abbrev pub is_taken : List Definition → List ℕ → Bool
is_taken ds x = list_any (bytes_eq x) (function_names ds)

-- site k exists, and the function that it calls may be copied
pub record MayCopy (C : Program) (ds : List Definition) (k : ℕ) : Type 0 where
  pub site : HasSite C k
  pub alone : is_grouped ds (C.callee k) ≡ false
  pub short : length (name_for ds k (C.callee k)) ≤ name_max
  pub free : is_taken ds (name_for ds k (C.callee k)) ≡ false

-- the program passes this limit, and none of those before it
abbrev pub PassesLimit : List Definition → ℕ → Type 0
PassesLimit ds i =
    ((i ≡ 1) × (functions_max < length ds))
    ⊎ (((i ≡ 4) × (length ds ≤ functions_max) × (sites_max < site_total (heads ds) 0 0 ds))
    ⊎ ((i ≡ 5) × (length ds ≤ functions_max) × (site_total (heads ds) 0 0 ds ≤ sites_max) × (nodes_max < nodes_of ds)))

-- why a copy is refused: each error says that it is the first to apply
abbrev pub RefusesCopy : Program → List Definition → ℕ → ReshapeErr → Type 0
RefusesCopy C ds k errors.NoSite = HasSite C k → ⊥
RefusesCopy C ds k errors.Grouped = HasSite C k × (is_grouped ds (C.callee k) ≡ true)
RefusesCopy C ds k errors.Recursive = ⊥
RefusesCopy C ds k errors.NameLong = HasSite C k × (is_grouped ds (C.callee k) ≡ false) × (name_max < length (name_for ds k (C.callee k)))
RefusesCopy C ds k errors.NameTaken =
    HasSite C k × (is_grouped ds (C.callee k) ≡ false) × (length (name_for ds k (C.callee k)) ≤ name_max) × (is_taken ds (name_for ds k (C.callee k)) ≡ true)
RefusesCopy C ds k (errors.Limit i) = MayCopy C ds k × PassesLimit (copied ds k (C.callee k)) i
RefusesCopy C ds k errors.TooDeep = MayCopy C ds k × KeepsLimits (copied ds k (C.callee k)) × (AllKeepLevels (copied ds k (C.callee k)) → ⊥)
RefusesCopy C ds k errors.NoMemory = Unit {0}

-- why a copy is refused, said of the program's form
abbrev pub CopyRefused : List Definition → ℕ → ReshapeErr → Type 0
CopyRefused ds k e = (c : Form) → IsFormOf ds c → RefusesCopy (program_in c) ds k e

-- nothing refuses the copy, and es is the program with it
abbrev pub IsCopied : List Definition → ℕ → List Definition → Type 0
IsCopied ds k es = (c : Form) → IsFormOf ds c → MayCopy (program_in c) ds k × KeepsLimits es × AllKeepLevels es × (es ≡ copied ds k ((program_in c).callee k))

-- the second program has a form, and gives the same as the first, in as many calls
abbrev pub GivesAlike : List Definition → List Definition → Type 0
GivesAlike ds es = (c : Form) → IsFormOf ds c → (e : Form) × IsFormOf es e × IsAlike (program_in c) (program_in e)

-- site k exists, and the function that it calls may be unfolded
pub record MayUnfold (C : Program) (ds : List Definition) (k : ℕ) : Type 0 where
  pub site : HasSite C k
  pub alone : is_recursive ds (C.callee k) ≡ false

-- why an unfolding is refused: each error says that it is the first to apply
abbrev pub RefusesUnfolding : Program → List Definition → ℕ → ReshapeErr → Type 0
RefusesUnfolding C ds k errors.NoSite = HasSite C k → ⊥
RefusesUnfolding C ds k errors.Grouped = ⊥
RefusesUnfolding C ds k errors.Recursive = HasSite C k × (is_recursive ds (C.callee k) ≡ true)
RefusesUnfolding C ds k errors.NameLong = ⊥
RefusesUnfolding C ds k errors.NameTaken = ⊥
RefusesUnfolding C ds k (errors.Limit i) = MayUnfold C ds k × PassesLimit (unfolded ds k) i
RefusesUnfolding C ds k errors.TooDeep = MayUnfold C ds k × KeepsLimits (unfolded ds k) × (AllKeepLevels (unfolded ds k) → ⊥)
RefusesUnfolding C ds k errors.NoMemory = Unit {0}

abbrev pub UnfoldingRefused : List Definition → ℕ → ReshapeErr → Type 0
UnfoldingRefused ds k e = (c : Form) → IsFormOf ds c → RefusesUnfolding (program_in c) ds k e

-- nothing refuses the unfolding, and es is the program with it
abbrev pub IsUnfolded : List Definition → ℕ → List Definition → Type 0
IsUnfolded ds k es = (c : Form) → IsFormOf ds c → MayUnfold (program_in c) ds k × KeepsLimits es × AllKeepLevels es × (es ≡ unfolded ds k)

-- the second program has a form, and gives the same as the first, in one call less each time that the call of site k was made
abbrev pub GivesSparing : ℕ → List Definition → List Definition → Type 0
GivesSparing k ds es = (c : Form) → IsFormOf ds c → (e : Form) × IsFormOf es e × Spares k (program_in c) (program_in e)

-- if the error names a limit, the program passes it
abbrev pub RefusesLimit : List Definition → ReshapeErr → Type 0
RefusesLimit ds errors.NoSite = ⊥
RefusesLimit ds errors.Grouped = ⊥
RefusesLimit ds errors.Recursive = ⊥
RefusesLimit ds errors.NameLong = ⊥
RefusesLimit ds errors.NameTaken = ⊥
RefusesLimit ds (errors.Limit i) = PassesLimit ds i
RefusesLimit ds errors.TooDeep = ⊥
RefusesLimit ds errors.NoMemory = Unit {0}

-- ---- parts by name

abbrev pub joined_at : Option Definition → Bool
joined_at o = option_map_or (λ (d : Definition). d.joined) o false
