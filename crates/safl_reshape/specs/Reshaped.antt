-- What a program is reshaped to: a function is copied for one of its calls, or a call is replaced by the function's body.
use Rattle.std.specs.Prelude.{◌≡◌, ℕ, zero, suc, ◌<◌, length, List, [], ◌∷◌, ◌++◌, Option, Some, None, Bool, false, ◌==◌, if◌then◌else◌, slice_get, codes, decimal}
use Rattle.std.specs.Option.{option_map_or}
use Rattle.safl_tree.specs.Tree.{Tree, Variable, Let, Call, Trees, a_tree, Binds, no_bind, a_bind, Parameter, Definition}
use Rattle.safl_typing.specs.Rewriting.{rewritten}
use Rattle.safl_typing.specs.Heads.{Head, Member, Above, heads}
use Rattle.safl_typing.specs.Forms.{Form, function_names}
use Rattle.safl_check.specs.Numbered.{program_in}
use Rattle.safl_reshape.specs.Changed.{Change, changed, changed_definitions, calls, is_member}

-- ---- replacing a call by a body

-- the bindings of each parameter, with its width, to the argument at its place
abbrev pub bound_params : List Parameter → Trees → Binds
bound_params (p ∷ ps) (a_tree t ts) = a_bind p.place p.name (Some p.width) t (bound_params ps ts)
bound_params ps ts = no_bind

-- a body under a let of its parameters, or the body alone if there are none
abbrev pub body_under : ℕ → List Parameter → Trees → Tree → Tree
body_under place (p ∷ ps) (a_tree t ts) body = Let place (bound_params (p ∷ ps) (a_tree t ts)) body
body_under place ps ts body = body

-- the body of a definition under a let of its parameters, or the body alone if it has none
abbrev pub placed_body : ℕ → Definition → Trees → Tree
placed_body place d ts = body_under place d.params ts d.body

-- the unfolded call: `let r:w = B in r`
abbrev pub unfolded_call : ℕ → Definition → Trees → Tree
unfolded_call place d ts = Let place (a_bind place (codes "r") (Some d.width) (body_under place d.params ts d.body) no_bind) (Variable place (codes "r"))

-- the change that replaces only the call of site k
abbrev pub unfolding_call : List Definition → ℕ → Change
unfolding_call ds k (Above i h) lo place x ts =
    if lo == k then option_map_or (λ (d : Definition). unfolded_call place d ts) (slice_get ds i) (Call place x ts) else Call place x ts
unfolding_call ds k _ lo place x ts = Call place x ts

abbrev pub unfolded : List Definition → ℕ → List Definition
unfolded ds k = changed_definitions (heads ds) (unfolding_call ds k) 0 0 1 ds

-- whether the body of a definition calls a function of its group
abbrev pub calls_group : List Head → Option Head → Option Definition → Bool
calls_group all (Some h) (Some d) = calls is_member (record { heads = all; unit = h.unit }) (rewritten d.body)
calls_group all h d = false

-- whether function j calls a function of its group
abbrev pub is_recursive : List Definition → ℕ → Bool
is_recursive ds j = calls_group (heads ds) (slice_get (heads ds) j) (slice_get ds j)

-- ---- copying a function for a call

-- the name of the copy of a function for site k
abbrev pub copy_name : List ℕ → ℕ → List ℕ
copy_name name k = name ++ (codes "_" ++ decimal k)

-- the change that gives the new name to the call of site k, and to no other
abbrev pub copying_call : ℕ → List ℕ → Change
copying_call k new (Above i h) lo place x ts = Call place (if lo == k then new else x) ts
copying_call k new _ lo place x ts = Call place x ts

-- the change that gives the new name to all calls of functions of the caller's own group
abbrev pub own_call : List ℕ → Change
own_call new (Member i h) lo place x ts = Call place new ts
own_call new _ lo place x ts = Call place x ts

-- the copy of function j under a new name. It is a group of its own
abbrev pub copy_of : List Head → ℕ → List ℕ → Definition → Definition
copy_of all j new d = record d { joined = false; name = new; body = changed (record { heads = all; unit = j }) (own_call new) 1 d.body }

-- the definitions with one more right after number j
abbrev pub put_behind : ℕ → Definition → List Definition → List Definition
put_behind j x [] = []
put_behind zero x (d ∷ ds) = d ∷ (x ∷ ds)
put_behind (suc j) x (d ∷ ds) = d ∷ put_behind j x ds

-- the program with function j, whose definition is d, copied under a new name for the call of site k
abbrev pub copied_under : List ℕ → List Definition → ℕ → ℕ → Definition → List Definition
copied_under new ds k j d = put_behind j (copy_of (heads ds) j new d) (changed_definitions (heads ds) (copying_call k new) 0 0 1 ds)

-- es is the program with function j copied under a new name for the call of site k
abbrev pub IsCopiedUnder : List ℕ → List Definition → ℕ → ℕ → List Definition → Type 0
IsCopiedUnder new ds k j es = (d : Definition) → slice_get ds j ≡ Some d → es ≡ copied_under new ds k j d

abbrev pub copied : List Definition → ℕ → ℕ → List Definition
copied ds k j = option_map_or (λ (d : Definition). copied_under (copy_name d.name k) ds k j d) (slice_get ds j) ds

-- the definition, if there is one, is not joined to the one before it
abbrev pub Unjoined : Option Definition → Type 0
Unjoined None = Unit {0}
Unjoined (Some d) = d.joined ≡ false

-- Function j, whose definition is d, may be copied for site k under a new name. It is a group of its own, and not the last
-- function.
pub record IsCopyable (ds : List Definition) (c : Form) (k j : ℕ) (d : Definition) (new : List ℕ) : Type 0 where
  pub site : (program_in c).callee k ≡ j
  pub defined : slice_get ds j ≡ Some d
  pub alone : d.joined ≡ false
  pub next : Unjoined (slice_get ds (suc j))
  pub before : suc j < length ds
  pub fresh : (i : ℕ) → slice_get (function_names ds) i ≡ Some new → ⊥

-- ---- parts by name

abbrev pub result_name : List ℕ
result_name = codes "r"

abbrev pub unfolded_as : Option Definition → ℕ → List ℕ → Trees → Tree
unfolded_as o place x ts = option_map_or (λ (d : Definition). unfolded_call place d ts) o (Call place x ts)

abbrev pub copied_as : Option Definition → List Definition → ℕ → ℕ → List Definition
copied_as o ds k j = option_map_or (λ (d : Definition). copied_under (copy_name d.name k) ds k j d) o ds
