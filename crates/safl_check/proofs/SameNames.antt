-- Definitions with one name, by their heads.
use Rattle.safl_check.proofs.Common.{Def, Definition, bytes_eq, list_any, option_map, shown_definition, shown_definitions, shown_heads}
use Rattle.std.proofs.Common.{◌≡◌, ℕ, zero, suc, ◌<◌, ◌≤◌, arith, List, [], ◌∷◌, length, get_or, Bool, true, false, cond, Option, Some, None, is_some, refl, sym, ap, ◌∙◌, ⊎_elim}
use Rattle.std.specs.Prelude.{◌||◌, slice_get}
use Rattle.std.proofs.lemmas.Option.{slice_get_read, slice_get_cases, slice_get-map}
use Rattle.safl_typing.specs.declared.heads.Head as code
use Rattle.safl_typing.specs.Heads.{Head, unit_of, heads_from, heads}
use Rattle.safl_typing.specs.Named.{name_of, has_name, last_named, before_it}
use Rattle.safl_check.specs.Groups.{name_in, earlier}

abbrev head_name : Option Head → List ℕ
head_name None = []
head_name (Some h) = h.name

shown_head_name : (hs : List code.Head) (m : ℕ) → name_of (slice_get hs m) ≡ head_name (slice_get (shown_heads hs) m)
shown_head_name [] m = refl
shown_head_name (h ∷ hs) zero = refl
shown_head_name (h ∷ hs) (suc m) = shown_head_name hs m

defined_name : (n u : ℕ) (ds : List Definition) (m : ℕ) → head_name (slice_get (heads_from n u ds) m) ≡ name_in (slice_get ds m)
defined_name n u [] m = refl
defined_name n u (d ∷ ds) zero = refl
defined_name n u (d ∷ ds) (suc m) = defined_name (suc n) (unit_of n u d) ds m

same_name : (hs : List code.Head) (ds : List Definition) (m : ℕ) → shown_heads hs ≡ heads ds → name_of (slice_get hs m) ≡ name_in (slice_get ds m)
same_name hs ds m e = shown_head_name hs m ∙ ap (λ (l : List Head). head_name (slice_get l m)) e ∙ defined_name 0 0 ds m

is_some_or : (b : Bool) (n : ℕ) (o : Option ℕ) → is_some (cond b (Some n) o) ≡ (b || is_some o)
is_some_or true n o = refl
is_some_or false n o = refl

named_there : (hs : List code.Head) (x : List ℕ) (n : ℕ) → n < length hs → has_name x (slice_get hs n) ≡ bytes_eq x (name_of (slice_get hs n))
named_there hs x n lt = ⊎_elim
    (λ q. ap (λ (o : Option code.Head). has_name x o) q.2 ∙ sym (ap (λ (o : Option code.Head). bytes_eq x (name_of o)) q.2))
    (λ q. absurd (omega (arith, q.0, lt))) (slice_get_cases hs n).1

last_any : (hs : List code.Head) (ds : List Definition) (x : List ℕ) (n : ℕ) → shown_heads hs ≡ heads ds → n ≤ length hs → is_some (last_named hs x n) ≡ list_any (bytes_eq x) (earlier ds n)
last_any hs ds x zero e le = refl
last_any hs ds x (suc n) e le =
    is_some_or (has_name x (slice_get hs n)) n (last_named hs x n)
    ∙ ap (λ (b : Bool). b || is_some (last_named hs x n)) (named_there hs x n (omega (arith, le)) ∙ ap (λ (y : List ℕ). bytes_eq x y) (same_name hs ds n e))
    ∙ ap (λ (b : Bool). bytes_eq x (name_in (slice_get ds n)) || b) (last_any hs ds x n e (omega (arith, le)))

-- an earlier definition has the name exactly where an earlier function has it
pub namesake : (hs : List code.Head) (ds : List Def) (n : ℕ) (d : Def) → shown_heads hs ≡ heads (shown_definitions ds) → n < length hs → n < length ds → d ≡ get_or ds n d
    → is_some (before_it hs n) ≡ list_any (bytes_eq d.name) (earlier (shown_definitions ds) n)
namesake hs ds n d e lt less is =
    let own : name_of (slice_get hs n) ≡ d.name =
    same_name hs (shown_definitions ds) n e ∙ ap name_in (slice_get-map shown_definition ds n) ∙ ap
    (λ (o : Option Def). name_in (option_map shown_definition o)) (slice_get_read ds (length ds) n d refl less is) in
    ap (λ (x : List ℕ). is_some (last_named hs x n)) own ∙ last_any hs (shown_definitions ds) d.name n e (omega (arith, lt))
