-- Which files the probes are asked for, and what they hold afterwards.
use Rattle.safl_tool.proofs.Common.{AreApart, Asked, Files, IsAsked, IsRunOf, IsWriting, Netlist, ProbeState, Refusal, SameProbes}
use Rattle.safl_tool.proofs.Common.{ShelfState, TellsOn, TraceKind, Valuation, WatchingFails, Word, WriteFailed, asked, bytes_eq-Decides}
use Rattle.safl_tool.proofs.Common.{false≢true, file_of, files_of, is_any_given, option_or, probe_at, trace_at}
use Rattle.std.proofs.Common.{◌≡◌, ◌⊎◌, ℕ, zero, suc, ◌+◌, ◌<◌, List, [], ◌∷◌, ◌++◌, map, length, take, drop, get_or, ◌≤◌, bytes_eq, if◌then◌else◌}
use Rattle.std.proofs.Common.{Bool, true, false, not, Option, Some, None, is_some, Contains, String, string_bytes, option_map, refl, sym, ap, subst}
use Rattle.std.proofs.Common.{◌∙◌, append_assoc, inl, inr, arith}
use Rattle.std.specs.Prelude.{◌&&◌, ◌||◌, IsSomeAnd}
use Rattle.std.specs.declared.alloc.Global.{Global}
use Rattle.std.proofs.lemmas.List.{at_drop_more, drop_all, append-nil, length-map}
use Rattle.safl_probe.specs.Texts.{Text, trace, opening_text, frames_text, closing}
use Rattle.safl_probe.specs.Watching.{kind_of, watched_by}
use Rattle.safl_probe.specs.declared.kind.TraceKind.TheVariants.{Vcd, Starts, Toggles, Silent}
use Rattle.safl_probe.specs.Growth.{AllGrow, Made, OldOrPart, Relation}
use Rattle.safl_command.specs.Traces.{Traces, differ, is_named, are_apart}
use Rattle.safl_probe.proofs.Growing.{is_within}
use Rattle.safl_tool.specs.declared.refusal.Refusal.TheVariants as refusal
use Rattle.safl_task.specs.Endings.{LeavesAll, LeavesParts}
use Rattle.safl_tool.specs.Tracing.{one_given, given_files, files_for, traces_of, file_of_kind, file_at, without, AreAskedFor, asked_by, have_probes, kinds_of}

-- ---- the files of the kinds

pub still : (a b : TraceKind) (t : Traces) (name : List ℕ) → file_of_kind (without t a) b ≡ Some name → file_of_kind t b ≡ Some name
still Vcd Vcd t name e = absurd (cc)
still Vcd Starts t name e = e
still Vcd Toggles t name e = e
still Vcd Silent t name e = e
still Starts Vcd t name e = e
still Starts Starts t name e = absurd (cc)
still Starts Toggles t name e = e
still Starts Silent t name e = e
still Toggles Vcd t name e = e
still Toggles Starts t name e = e
still Toggles Toggles t name e = absurd (cc)
still Toggles Silent t name e = e
still Silent b t name e = e

pub gone : (a : TraceKind) (t : Traces) (name : List ℕ) → file_of_kind (without t a) a ≡ Some name → ⊥
gone Vcd t name e = cc
gone Starts t name e = cc
gone Toggles t name e = cc
gone Silent t name e = cc

other : (a b : TraceKind) → (a ≡ b) ⊎ ((t : Traces) → file_of_kind (without t a) b ≡ file_of_kind t b)
other Vcd Vcd = inl refl
other Vcd Starts = inr (λ t. refl)
other Vcd Toggles = inr (λ t. refl)
other Vcd Silent = inr (λ t. refl)
other Starts Vcd = inr (λ t. refl)
other Starts Starts = inl refl
other Starts Toggles = inr (λ t. refl)
other Starts Silent = inr (λ t. refl)
other Toggles Vcd = inr (λ t. refl)
other Toggles Starts = inr (λ t. refl)
other Toggles Toggles = inl refl
other Toggles Silent = inr (λ t. refl)
other Silent b = inr (λ t. refl)

-- files that are given have different names
all_true : (a b c d e f : Bool) → (a && (b && (c && (d && (e && f))))) ≡ true → (d ≡ true) × (e ≡ true) × (f ≡ true)
all_true true true true true true true h = (refl, refl, refl)
all_true false b c d e f h = absurd (false≢true h)
all_true true false c d e f h = absurd (false≢true h)
all_true true true false d e f h = absurd (false≢true h)
all_true true true true false e f h = absurd (false≢true h)
all_true true true true true false f h = absurd (false≢true h)
all_true true true true true true false h = absurd (false≢true h)

clash : (o p : Option (List ℕ)) (name : List ℕ) → differ o p ≡ true → o ≡ Some name → p ≡ Some name → ⊥
clash o p name h e f =
    let g : differ o (Some name) ≡ true = subst (λ (x : Option (List ℕ)). differ o x ≡ true) f h in
    let k : differ (Some name) (Some name) ≡ true = subst (λ (x : Option (List ℕ)). differ x (Some name) ≡ true) e g in
    let s : bytes_eq name name ≡ true = (bytes_eq-Decides name name).1 refl in
    false≢true (sym (ap not s) ∙ k)

one_kind : (t : Traces) → are_apart t ≡ true → (a b : TraceKind) (name : List ℕ) → file_of_kind t a ≡ Some name → file_of_kind t b ≡ Some name → a ≡ b
one_kind t apart = go (all_true (is_named t.vcd) (is_named t.starts) (is_named t.toggles) (differ t.vcd t.starts) (differ t.vcd t.toggles) (differ t.starts t.toggles) apart)
  where
    go : (differ t.vcd t.starts ≡ true) × (differ t.vcd t.toggles ≡ true) × (differ t.starts t.toggles ≡ true) → (a b : TraceKind) (name : List ℕ) →
        file_of_kind t a ≡ Some name → file_of_kind t b ≡ Some name → a ≡ b
    go h Vcd Vcd name e f = refl
    go h Vcd Starts name e f = absurd (clash t.vcd t.starts name h.0 e f)
    go h Vcd Toggles name e f = absurd (clash t.vcd t.toggles name h.1 e f)
    go h Vcd Silent name e f = absurd (cc)
    go h Starts Vcd name e f = absurd (clash t.vcd t.starts name h.0 f e)
    go h Starts Starts name e f = refl
    go h Starts Toggles name e f = absurd (clash t.starts t.toggles name h.2 e f)
    go h Starts Silent name e f = absurd (cc)
    go h Toggles Vcd name e f = absurd (clash t.vcd t.toggles name h.1 f e)
    go h Toggles Starts name e f = absurd (clash t.starts t.toggles name h.2 f e)
    go h Toggles Toggles name e f = refl
    go h Toggles Silent name e f = absurd (cc)
    go h Silent b name e f = absurd (cc)

-- ---- the probes that are asked

pub asked_sound : (t : Traces) (kinds : List ℕ) (i : ℕ) (name : List ℕ) → IsAsked (asked_by t kinds) i name → file_of_kind t (kind_of (get_or kinds i 0)) ≡ Some name
asked_sound t [] i name h = absurd (cc)
asked_sound t (m ∷ ms) zero name h = h
asked_sound t (m ∷ ms) (suc i) name h = still (kind_of m) (kind_of (get_or ms i 0)) t name (asked_sound (without t (kind_of m)) ms i name h)

asked_once : (t : Traces) (kinds : List ℕ) (i j : ℕ) (a b : List ℕ) → IsAsked (asked_by t kinds) i a → IsAsked (asked_by t kinds) j b → kind_of (get_or kinds i 0) ≡ kind_of (get_or kinds j 0) → i ≡ j
asked_once t [] i j a b f g e = absurd (cc)
asked_once t (m ∷ ms) zero zero a b f g e = refl
asked_once t (m ∷ ms) zero (suc j) a b f g e = absurd (gone (kind_of m) t b (ap (file_of_kind (without t (kind_of m))) e ∙ asked_sound (without t (kind_of m)) ms j b g))
asked_once t (m ∷ ms) (suc i) zero a b f g e = absurd (gone (kind_of m) t a (ap (file_of_kind (without t (kind_of m))) (sym e) ∙ asked_sound (without t (kind_of m)) ms i a f))
asked_once t (m ∷ ms) (suc i) (suc j) a b f g e = ap suc (asked_once (without t (kind_of m)) ms i j a b f g e)

pub asked_apart : (t : Traces) (kinds : List ℕ) → are_apart t ≡ true → AreApart (asked_by t kinds)
asked_apart t kinds apart i j name f g =
    asked_once t kinds i j name name f g
    (one_kind t apart (kind_of (get_or kinds i 0)) (kind_of (get_or kinds j 0)) name (asked_sound t kinds i name f) (asked_sound t kinds j name g))

any_false : (a b c : Bool) → not (a || (b || c)) ≡ true → (a ≡ false) × (b ≡ false) × (c ≡ false)
any_false true b c h = absurd (false≢true h)
any_false false true c h = absurd (false≢true h)
any_false false false true h = absurd (false≢true h)
any_false false false false h = (refl, refl, refl)

none_left : (t : Traces) (k : TraceKind) (name : List ℕ) → not (is_any_given t) ≡ true → file_of_kind t k ≡ Some name → ⊥
none_left t k name h = go (any_false (is_some t.vcd) (is_some t.starts) (is_some t.toggles) h) k
  where
    go : (is_some t.vcd ≡ false) × (is_some t.starts ≡ false) × (is_some t.toggles ≡ false) → (k : TraceKind) → file_of_kind t k ≡ Some name → ⊥
    go p Vcd e = false≢true (sym p.0 ∙ ap is_some e)
    go p Starts e = false≢true (sym p.1 ∙ ap is_some e)
    go p Toggles e = false≢true (sym p.2 ∙ ap is_some e)
    go p Silent e = cc

-- each file that is given has the place of a probe
pub asked_place : (t : Traces) (kinds : List ℕ) → have_probes t kinds ≡ true → (k : TraceKind) (name : List ℕ) → file_of_kind t k ≡ Some name
    → (i : ℕ) × IsAsked (asked_by t kinds) i name × (kind_of (get_or kinds i 0) ≡ k)
asked_place t [] there k name e = absurd (none_left t k name there e)
asked_place t (m ∷ ms) there k name e =
    elim (other (kind_of m) k) [
      | inl same ↦ (0, ap (file_of_kind t) same ∙ e, same)
      | inr apart ↦
          let rest = asked_place (without t (kind_of m)) ms there k name (apart t ∙ e) in
          (suc rest.0, rest.1, rest.2)
    ]

pub kind_same : (ps : List ProbeState) (i : ℕ) → get_or (kinds_of ps) i 0 ≡ (probe_at ps i).kind
kind_same [] i = refl
kind_same (p ∷ ps) zero = refl
kind_same (p ∷ ps) (suc i) = kind_same ps i

-- ---- the files that are given, in order

abbrev IsIn : List ℕ → ℕ → List (List ℕ × ℕ) → Type 0
IsIn name kind [] = ⊥
IsIn name kind (f ∷ fs) = ((f.0 ≡ name) × (f.1 ≡ kind)) ⊎ IsIn name kind fs

in_first : (name : List ℕ) (kind : ℕ) (xs ys : List (List ℕ × ℕ)) → IsIn name kind xs → IsIn name kind (xs ++ ys)
in_first name kind [] ys h = absurd h
in_first name kind (x ∷ xs) ys h = elim h [ inl e ↦ inl e | inr k ↦ inr (in_first name kind xs ys k) ]

in_second : (name : List ℕ) (kind : ℕ) (xs ys : List (List ℕ × ℕ)) → IsIn name kind ys → IsIn name kind (xs ++ ys)
in_second name kind [] ys h = h
in_second name kind (x ∷ xs) ys h = inr (in_second name kind xs ys h)

in_either : (name : List ℕ) (kind : ℕ) (xs ys : List (List ℕ × ℕ)) → IsIn name kind (xs ++ ys) → IsIn name kind xs ⊎ IsIn name kind ys
in_either name kind [] ys h = inr h
in_either name kind (x ∷ xs) ys h = elim h [
  | inl e ↦ inl (inl e)
  | inr k ↦ elim (in_either name kind xs ys k) [ inl a ↦ inl (inr a) | inr b ↦ inr b ]
]

one_in : (o : Option (List ℕ)) (k : ℕ) (name : List ℕ) → o ≡ Some name → IsIn name k (one_given o k)
one_in None k name e = absurd (cc)
one_in (Some x) k name e = inl ((let f : x ≡ name = cc in f), refl)

one_is : (o : Option (List ℕ)) (k : ℕ) (name : List ℕ) (kind : ℕ) → IsIn name kind (one_given o k) → (o ≡ Some name) × (kind ≡ k)
one_is None k name kind h = absurd h
one_is (Some x) k name kind h = elim h [ inl e ↦ (ap (λ (y : List ℕ). Some y) e.0, sym e.1) | inr never ↦ absurd never ]

given_in : (t : Traces) (k : TraceKind) (name : List ℕ) → file_of_kind t k ≡ Some name → (m : ℕ) × IsIn name m (given_files t)
given_in t Vcd name e = (1, in_first name 1 (one_given t.vcd 1 ++ one_given t.starts 2) (one_given t.toggles 3) (in_first name 1 (one_given t.vcd 1) (one_given t.starts 2) (one_in t.vcd 1 name e)))
given_in t Starts name e = (
  2,
  in_first name 2 (one_given t.vcd 1 ++ one_given t.starts 2) (one_given t.toggles 3)
      (in_second name 2 (one_given t.vcd 1) (one_given t.starts 2) (one_in t.starts 2 name e)),
)
given_in t Toggles name e = (3, in_second name 3 (one_given t.vcd 1 ++ one_given t.starts 2) (one_given t.toggles 3) (one_in t.toggles 3 name e))
given_in t Silent name e = absurd (cc)

given_kind : (t : Traces) (name : List ℕ) (m : ℕ) → IsIn name m (given_files t) → file_of_kind t (kind_of m) ≡ Some name
given_kind t name m h =
    elim (in_either name m (one_given t.vcd 1 ++ one_given t.starts 2) (one_given t.toggles 3) h) [
      | inl two ↦
          elim (in_either name m (one_given t.vcd 1) (one_given t.starts 2) two) [
            | inl a ↦ let p = one_is t.vcd 1 name m a in subst (λ k. file_of_kind t (kind_of k) ≡ Some name) (sym p.1) p.0
            | inr b ↦ let p = one_is t.starts 2 name m b in subst (λ k. file_of_kind t (kind_of k) ≡ Some name) (sym p.1) p.0
          ]
      | inr c ↦ let p = one_is t.toggles 3 name m c in subst (λ k. file_of_kind t (kind_of k) ≡ Some name) (sym p.1) p.0
    ]

contained : (fs : List (List ℕ × ℕ)) (name : List ℕ) (m : ℕ) → IsIn name m fs → Contains (map (λ f. f.0) fs) name
contained [] name m h = absurd h
contained (f ∷ fs) name m h = elim h [
  | inl e ↦ (0, omega arith, e.0)
  | inr k ↦ let c = contained fs name m k in (suc c.0, (let a = c.1 in omega (arith, a)), c.2)
]

pub asked_output : (t : Traces) (kinds : List ℕ) (i : ℕ) (name : List ℕ) → IsAsked (asked_by t kinds) i name → Contains (files_for t) name
asked_output t kinds i name h =
    let g = given_in t (kind_of (get_or kinds i 0)) name (asked_sound t kinds i name h) in
    contained (given_files t) name g.0 g.1

-- ---- what the files hold

abbrev Found : List (List ℕ × ℕ) → (ℕ → Text) → List ℕ → Option Text → Type 0
Found fs f name o = ((m : ℕ) × IsIn name m fs × (o ≡ Some (f m))) ⊎ (((m : ℕ) → IsIn name m fs → ⊥) × (o ≡ None))

found : (fs : List (List ℕ × ℕ)) (f : ℕ → Text) (name : List ℕ) → Found fs f name (file_of (files_of (map (λ p. p.0) fs) (map (λ p. f p.1) fs)) name)
found [] f name = inr ((λ m h. absurd h), refl)
found (p ∷ fs) f name = go (bytes_eq p.0 name) refl (file_of (files_of (map (λ p. p.0) fs) (map (λ p. f p.1) fs)) name) (found fs f name)
  where
    go : (b : Bool) → bytes_eq p.0 name ≡ b → (o : Option Text) → Found fs f name o → Found (p ∷ fs) f name (if b then Some (f p.1) else o)
    go true e o r = inl (p.1, inl ((bytes_eq-Decides p.0 name).0 e, refl), refl)
    go false e o r = elim r [
      | inl h ↦ inl (h.0, inr h.1, h.2)
      | inr h ↦ inr ((λ m i. elim i [ inl q ↦ (let hit : bytes_eq p.0 name ≡ true = (bytes_eq-Decides p.0 name).1 q.0 in false≢true (sym e ∙ hit)) | inr q ↦ h.0 m q ]), h.1)
    ]

same_trace : (k m : ℕ) (n : Netlist) (frames : List Valuation) → kind_of k ≡ kind_of m → trace k n frames ≡ trace m n frames
same_trace k m n frames e = ap (λ (c : TraceKind). opening_text c (watched_by c n) ++ frames_text c (watched_by c n) 0 None frames ++ closing c (length frames)) e

module _ (t : Traces) (ps : List ProbeState) (there : have_probes t (kinds_of ps) ≡ true) (n : Netlist) (frames : List Valuation) where
  abbrev text : ℕ → Text
  text i = trace (probe_at ps i).kind n frames

  text_at : (i m : ℕ) → kind_of (get_or (kinds_of ps) i 0) ≡ kind_of m → text i ≡ trace m n frames
  text_at i m e = same_trace (probe_at ps i).kind m n frames (ap kind_of (sym (kind_same ps i)) ∙ e)

  unnamed : (name : List ℕ) → ((m : ℕ) → IsIn name m (given_files t) → ⊥) → (i : ℕ) → IsAsked (asked_by t (kinds_of ps)) i name → ⊥
  unnamed name free i k = let g = given_in t (kind_of (get_or (kinds_of ps) i 0)) name (asked_sound t (kinds_of ps) i name k) in free g.0 g.1

  pub files_whole : (x y : Option Files) → TellsOn (AllGrow Made (asked_by t (kinds_of ps)) (λ i. trace (probe_at ps i).kind n frames)) x y → TellsOn
      (LeavesAll (files_of (files_for t) (traces_of t n frames))) x y
  files_whole None y h = tt
  files_whole (Some a) None h = h
  files_whole (Some a) (Some b) h = λ name. go name (file_of (files_of (files_for t) (traces_of t n frames)) name) (found (given_files t) (λ m. trace m n frames) name)
    where
      go : (name : List ℕ) (o : Option Text) → Found (given_files t) (λ m. trace m n frames) name o → file_of b name ≡ option_or o (file_of a name)
      go name o r = elim r [
        | inl p ↦
            let q = asked_place t (kinds_of ps) there (kind_of p.0) name (given_kind t name p.0 p.1) in
            h.files q.0 name q.1 ∙ ap (λ (x : Text). Some x) (text_at q.0 p.0 q.2) ∙ sym (ap (λ (u : Option Text). option_or u (file_of a name)) p.2)
        | inr p ↦ h.others name (unnamed name p.0) ∙ sym (ap (λ (u : Option Text). option_or u (file_of a name)) p.1)
      ]

  pub files_parts : (x y : Option Files) → TellsOn (AllGrow OldOrPart (asked_by t (kinds_of ps)) (λ i. trace (probe_at ps i).kind n frames)) x y →
      TellsOn (LeavesParts (files_of (files_for t) (traces_of t n frames))) x y
  files_parts None y h = tt
  files_parts (Some a) None h = h
  files_parts (Some a) (Some b) h = λ name. go name (file_of (files_of (files_for t) (traces_of t n frames)) name) (found (given_files t) (λ m. trace m n frames) name)
    where
      go : (name : List ℕ) (o : Option Text) → Found (given_files t) (λ m. trace m n frames) name o
          → (file_of b name ≡ file_of a name) ⊎ IsSomeAnd o (λ x. (count : ℕ) × (file_of b name ≡ Some (take count x)))
      go name o r = elim r [
        | inl p ↦
            let q = asked_place t (kinds_of ps) there (kind_of p.0) name (given_kind t name p.0 p.1) in
            elim (h.files q.0 name q.1) [
              | inl same ↦ inl same
              | inr c ↦ inr (subst (λ (u : Option Text). IsSomeAnd u (λ x. (count : ℕ) × (file_of b name ≡ Some (take count x)))) (sym p.2)
                  (c.0, c.1 ∙ ap (λ (x : Text). Some (take c.0 x)) (text_at q.0 p.0 q.2)))
            ]
        | inr p ↦ inl (h.others name (unnamed name p.0))
      ]

-- ---- the probes, one after the other

pub kind_at : {P : Type 0} (st : P → ProbeState) (xs : List P) (i : ℕ) (x : P) → i < length xs → x ≡ get_or xs i x → get_or (kinds_of (map st xs)) i 0 ≡ (st x).kind
kind_at st [] i x lt e = absurd (omega (arith, lt))
kind_at st (y ∷ ys) zero x lt e = ap (λ z. (st z).kind) (sym e)
kind_at st (y ∷ ys) (suc i) x lt e = kind_at st ys i x (omega (arith, lt)) e

pub kinds_long : {P : Type 0} (st : P → ProbeState) (xs : List P) → length (kinds_of (map st xs)) ≡ length xs
kinds_long st [] = refl
kinds_long st (x ∷ xs) = ap suc (kinds_long st xs)

-- one more is asked
pub asked_more : (ks : List ℕ) (i k : ℕ) (w u : Traces) (had : Asked) (x : Option (List ℕ)) (all : Asked) → i < length ks → get_or ks i 0 ≡ k → x ≡
    file_of_kind w (kind_of k) → u ≡ without w (kind_of k) → had ++ asked_by w (drop i ks) ≡ all
    → (had ++ x ∷ []) ++ asked_by u (drop (i + 1) ks) ≡ all
asked_more ks i k w u had x all lt is e f h =
    append_assoc had (x ∷ []) (asked_by u (drop (i + 1) ks))
    ∙ ap (λ (o : Option (List ℕ)). had ++ (o ∷ asked_by u (drop (i + 1) ks))) e
    ∙ ap (λ (t : Traces). had ++ (file_of_kind w (kind_of k) ∷ asked_by t (drop (i + 1) ks))) f
    ∙ ap (λ (l : ℕ). had ++ (file_of_kind w (kind_of l) ∷ asked_by (without w (kind_of l)) (drop (i + 1) ks))) (sym is)
    ∙ ap (λ (l : Asked). had ++ l) (sym (at_drop_more (asked_by w) ks i 0 lt)) ∙ h

-- and what is left has probes as before
pub left_more : (ks : List ℕ) (i k : ℕ) (w u : Traces) (all : Bool) → i < length ks → get_or ks i 0 ≡ k → u ≡ without w (kind_of k)
    → have_probes w (drop i ks) ≡ all → have_probes u (drop (i + 1) ks) ≡ all
left_more ks i k w u all lt is f h =
    ap (λ (t : Traces). have_probes t (drop (i + 1) ks)) (f ∙ ap (λ (l : ℕ). without w (kind_of l)) (sym is)) ∙ sym (at_drop_more (have_probes w) ks i 0 lt) ∙ h

pub asked_all : (ks : List ℕ) (i : ℕ) (w : Traces) (had all : Asked) → length ks ≤ i → had ++ asked_by w (drop i ks) ≡ all → had ≡ all
asked_all ks i w had all le h = sym (ap (λ (l : List ℕ). had ++ asked_by w l) (drop_all i ks le) ∙ append-nil had) ∙ h

pub left_all : (ks : List ℕ) (i : ℕ) (w : Traces) (all : Bool) → length ks ≤ i → have_probes w (drop i ks) ≡ all → not (is_any_given w) ≡ all
left_all ks i w all le h = sym (ap (have_probes w) (drop_all i ks le)) ∙ h

-- ---- the files

asked_long : (t : Traces) (kinds : List ℕ) → length (asked_by t kinds) ≡ length kinds
asked_long t [] = refl
asked_long t (k ∷ ks) = ap suc (asked_long (without t (kind_of k)) ks)

pub files_long : {P : Type 0} (st : P → ProbeState) (xs : List P) (t : Traces) (files : List (Option (String Global))) → AreAskedFor t (asked files) (map st xs) → length files ≡ length xs
files_long st xs t files a =
    sym (length-map files (option_map string_bytes)) ∙ ap (λ (l : Asked). length l) a.is ∙ asked_long t (kinds_of (map st xs)) ∙ kinds_long st xs

pub handed : (R : Relation) (n : Netlist) (given words : List Word) (limit : ℕ) (asks : Asked) (ps : List ProbeState) (x y : Option Files) → given ≡ words → AreApart asks
    → ((vs : List Valuation) → IsRunOf n given limit vs → AreApart asks → TellsOn (AllGrow R asks (trace_at n vs ps)) x y) → (vs : List Valuation) →
    IsRunOf n words limit vs → TellsOn (AllGrow R asks (trace_at n vs ps)) x y
handed R n given words limit asks ps x y e apart h vs run = h vs (subst (λ (l : List Word). IsRunOf n l limit vs) (sym e) run) apart

-- ---- a file that was not written

module _ (t : Traces) (asks : Asked) (ps qs : List ProbeState) (a : AreAskedFor t asks ps) (same : SameProbes ps qs) (place : ℕ) (old new : ShelfState) (failed : WriteFailed place asks old new) where
  pub there : place < length qs
  there =
      let h = is_within asks place failed.name failed.asked in
      let long : length asks ≡ length ps = ap (λ (l : Asked). length l) a.is ∙ asked_long t (kinds_of ps) ∙ length-map ps (λ (p : ProbeState). p.kind) in
      let count = same.count in
      omega (arith, h, long, count)

  pub its_file : file_at t qs place ≡ Some failed.name
  its_file =
      ap (λ k. file_of_kind t (kind_of k)) (same.kinds place ∙ sym (kind_same ps place))
      ∙ asked_sound t (kinds_of ps) place failed.name (subst (λ (l : Asked). IsAsked l place failed.name) a.is failed.asked)

  pub wrote : (r : Refusal) → IsWriting (file_at t qs place) r → WatchingFails asks ps qs old new r
  wrote (refusal.Write name) h =
      let e : Some failed.name ≡ Some name.now = sym its_file ∙ h in
      let n : failed.name ≡ name.now = cc in
      ((place, subst (λ (x : List ℕ). IsAsked asks place x) n failed.asked), failed.rose)
  wrote _ never = absurd never
