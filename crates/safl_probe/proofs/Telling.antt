-- Probes that are told of a moment, one after the other.
use Rattle.safl_probe.proofs.Common.{DriveErr, Moment, Netlist, SameReads, ShelfState, Valuation, cases_eq, lower_or_last, rose_later}
use Rattle.std.proofs.Common.{◌≡◌, ℕ, ◌+◌, ◌<◌, ◌≤◌, List, length, map, set, get_or, Option, Some, None, String, string_bytes, option_map, refl, sym, ap, subst, ◌∙◌, inl, inr, arith}
use Rattle.std.specs.declared.alloc.Global.{Global}
use Rattle.std.proofs.lemmas.List.{map-set, length-map, length-set, get_or-set_same, get_or-set_other, get_or-map}
use Rattle.safl_io.specs.Counts.{Rose}
use Rattle.safl_probe.specs.Probing.{ProbeState, HasFailed, Tells, fresh}
use Rattle.safl_probe.specs.Asked.{Asked, IsAsked, SameUnasked, asked, probe_at}
use Rattle.safl_probe.specs.Moments.{CanTell, text_at, state_at}
use Rattle.safl_probe.specs.Stopping.{Blames, Stopped, SameProbes, KeepsProbes}
use Rattle.safl_probe.specs.declared.drive_err.DriveErr.TheVariants as why

module _ (P : Type 0) (st : P → ProbeState) where
  abbrev states : List P → List ProbeState
  states xs = map st xs

  -- the probe at a place that was written, and at another one
  at_written : (xs : List P) (i : ℕ) (x : P) → i < length xs → probe_at (states (set xs i x)) i ≡ st x
  at_written xs i x lt =
      ap (λ l. probe_at l i) (map-set st xs i x) ∙ get_or-set_same (states xs) i (st x) (fresh 0) (let e = length-map xs st in omega (arith, lt, e))

  at_other : (xs : List P) (i j : ℕ) (x : P) → (j ≡ i → ⊥) → probe_at (states (set xs i x)) j ≡ probe_at (states xs) j
  at_other xs i j x ne = ap (λ l. probe_at l j) (map-set st xs i x) ∙ get_or-set_other (states xs) i j (st x) (fresh 0) ne

  pub at_place : (xs : List P) (i : ℕ) (x : P) → i < length xs → x ≡ get_or xs i x → probe_at (states xs) i ≡ st x
  at_place xs i x lt e = get_or-map st xs i x (fresh 0) lt ∙ ap st (sym e)

  -- a fact about every place, where one was written
  everywhere : (F : ℕ → ProbeState → Type 0) (xs : List P) (i : ℕ) (x : P) → i < length xs → F i (st x) → ((j : ℕ) → F j (probe_at (states xs) j)) → (j : ℕ) → F j (probe_at (states (set xs i x)) j)
  everywhere F xs i x lt here all j =
      elim (cases_eq j i) [
        | inl e ↦ subst (λ k. F k (probe_at (states (set xs i x)) k)) (sym e) (subst (λ s. F i s) (sym (at_written xs i x lt)) here)
        | inr ne ↦ subst (λ s. F j s) (sym (at_other xs i j x ne)) (all j)
      ]

  pub same_probes : (ps : List P) → SameProbes (states ps) (states ps)
  same_probes ps = record { count = refl; kinds = λ i. refl; faults = λ i. omega arith }

  same_more : (ps qs : List P) (i : ℕ) (q x : P) → i < length qs → q ≡ get_or qs i q → (st x).kind ≡ (st q).kind → (st q).faults ≤ (st x).faults →
      SameProbes (states ps) (states qs) → SameProbes (states ps) (states (set qs i x))
  same_more ps qs i q x lt e kind faults s =
      let was : probe_at (states qs) i ≡ st q = at_place qs i q lt e in
      record {
        count = ap length (map-set st qs i x) ∙ length-set (states qs) i (st x) ∙ s.count;
        kinds =
            everywhere (λ j (t : ProbeState). t.kind ≡ (probe_at (states ps) j).kind) qs i x lt
            (kind ∙ ap (λ (t : ProbeState). t.kind) (sym was) ∙ s.kinds i) s.kinds;
        faults =
            everywhere (λ j (t : ProbeState). (probe_at (states ps) j).faults ≤ t.faults) qs i x lt
            (let a : (probe_at (states ps) i).faults ≤ (st q).faults = subst (λ (t : ProbeState). (probe_at (states ps) i).faults ≤ t.faults) was (s.faults i) in omega (arith, a, faults)) s.faults;
      }

  unasked_more : (names : Asked) (ps qs : List P) (i : ℕ) (name : List ℕ) (x : P) → IsAsked names i name → SameUnasked names ps qs → SameUnasked names ps (set qs i x)
  unasked_more names ps qs i name x asked s j none p =
      get_or-set_other qs i j x p (λ e. let f = sym asked ∙ subst (λ k. get_or names k None ≡ None) e none in absurd (cc)) ∙ s j none p

  pub keeps_more : (names : Asked) (ps qs : List P) (i : ℕ) (name : List ℕ) (q x : P) → i < length qs → q ≡ get_or qs i q → IsAsked names i name →
      (st x).kind ≡ (st q).kind → (st q).faults ≤ (st x).faults → KeepsProbes names st ps qs → KeepsProbes names st ps (set qs i x)
  keeps_more names ps qs i name q x lt e asked kind faults k = record {
    probes = same_more ps qs i q x lt e kind faults k.probes;
    unasked = unasked_more names ps qs i name x asked k.unasked;
  }

  -- the probes below a place were told, and the others are as they were
  pub record ToldTo (m : Moment) (n : Netlist) (v : Valuation) (names : Asked) (ps qs : List P) (count : ℕ) : Type 0 where
    pub long : length qs ≡ length ps
    pub told : (i : ℕ) (name : List ℕ) → i < count → IsAsked names i name → Tells (state_at m n v (probe_at (states ps) i)) (probe_at (states qs) i)
    pub rest : (i : ℕ) → count ≤ i → probe_at (states qs) i ≡ probe_at (states ps) i
    pub kept : KeepsProbes names st ps qs

  module _ (m : Moment) (n : Netlist) (v : Valuation) (names : Asked) (ps : List P) where
    pub none_told : ToldTo m n v names ps ps 0
    none_told = record {
      long = refl;
      told = λ i name lt k. absurd (omega (arith, lt));
      rest = λ i le. refl;
      kept = record { probes = same_probes ps; unasked = λ i none p. refl };
    }

    pub skip_told : (qs : List P) (i : ℕ) → get_or names i None ≡ None → ToldTo m n v names ps qs i → ToldTo m n v names ps qs (i + 1)
    skip_told qs i none t = record {
      long = t.long;
      told = λ j name lt k. elim (lower_or_last j i lt) [
        | inl below ↦ t.told j name below k
        | inr e ↦ absurd (let f = sym (subst (λ l. get_or names l None ≡ Some name) e k) ∙ none in cc)
      ];
      rest = λ j le. t.rest j (omega (arith, le));
      kept = t.kept;
    }

    pub more_told : (qs : List P) (i : ℕ) (name : List ℕ) (q x : P) → i < length qs → q ≡ get_or qs i q → IsAsked names i name → Tells
        (state_at m n v (st q)) (st x) → (st x).kind ≡ (st q).kind → (st q).faults ≤ (st x).faults → ToldTo m n v names ps qs i
        → ToldTo m n v names ps (set qs i x) (i + 1)
    more_told qs i name q x lt e asked tells kind faults t =
        let was : probe_at (states ps) i ≡ st q = sym (t.rest i (omega arith)) ∙ at_place qs i q lt e in
        record {
          long = length-set qs i x ∙ t.long;
          told = λ j other below k. elim (lower_or_last j i below) [
            | inl lower ↦
                subst (λ s. Tells (state_at m n v (probe_at (states ps) j)) s) (sym (at_other qs i j x (λ f. omega (arith, lower, f)))) (t.told j other lower k)
            | inr f ↦
                subst (λ l. Tells (state_at m n v (probe_at (states ps) l)) (probe_at (states (set qs i x)) l)) (sym f)
                (subst (λ s. Tells (state_at m n v (probe_at (states ps) i)) s) (sym (at_written qs i x lt)) (subst (λ s. Tells (state_at m n v s) (st x)) (sym was) tells))
          ];
          rest = λ j le. at_other qs i j x (λ f. omega (arith, le, f)) ∙ t.rest j (omega (arith, le));
          kept = keeps_more names ps qs i name q x lt e asked kind faults t.kept;
        }

    -- the text of the probe at a place is that of what it told at first, and it may be told
    pub text_was : (qs : List P) (i : ℕ) (q : P) → i < length qs → q ≡ get_or qs i q → ToldTo m n v names ps qs i → text_at m n v (st q) ≡ text_at m n v (probe_at (states ps) i)
    text_was qs i q lt e t = ap (λ s. text_at m n v s) (sym (at_place qs i q lt e) ∙ t.rest i (omega arith))

    pub can_tell : (qs : List P) (i : ℕ) (name : List ℕ) (q : P) → i < length qs → q ≡ get_or qs i q → ToldTo m n v names ps qs i → IsAsked names i name
        → ((j : ℕ) (other : List ℕ) → IsAsked names j other → CanTell m v (probe_at (states ps) j)) → CanTell m v (st q)
    can_tell qs i name q lt e t asked can = subst (λ s. CanTell m v s) (sym (t.rest i (omega arith)) ∙ at_place qs i q lt e) (can i name asked)

    pub stopped_at : (qs : List P) (i : ℕ) (name : List ℕ) (q x : P) (e : DriveErr) (a b c : ShelfState) → i < length qs → q ≡ get_or qs i q → IsAsked
        names i name → ToldTo m n v names ps qs i → SameReads a b → Blames e i (st q) (st x) b c
        → Stopped e names (states ps) (states (set qs i x)) a c
    stopped_at qs i name q x (why.Probe k) a b c lt e asked t r h =
        let was : probe_at (states ps) i ≡ st q = sym (t.rest i (omega arith)) ∙ at_place qs i q lt e in
        record {
          place = i;
          name = name;
          asked = asked;
          of_kind = ap (λ (s : ProbeState). s.kind) was ∙ h.0;
          rose = subst (λ (s : ProbeState). Rose s.faults (probe_at (states (set qs i x)) i).faults) (sym was)
              (subst (λ (s : ProbeState). Rose (st q).faults s.faults) (sym (at_written qs i x lt)) h.1);
          failed = subst (λ (s : ProbeState). HasFailed s) (sym (at_written qs i x lt)) h.2;
        }
    stopped_at qs i name q x (why.Write k) a b c lt e asked t r h = record {
      name = name;
      asked = subst (λ l. IsAsked names l name) (sym h.0) asked;
      rose = rose_later a.write_faults b.write_faults c.write_faults r.writes h.1;
    }
    stopped_at qs i name q x why.NoMemory a b c lt e asked t r h = tt

-- the file that a probe is asked for
pub asked_at : (files : List (Option (String Global))) (i : ℕ) (o : Option (String Global)) (name : String Global) → i < length files → o ≡ get_or
    files i o → o ≡ Some name → IsAsked (asked files) i (string_bytes name)
asked_at files i o name lt is some = get_or-map (option_map string_bytes) files i o None lt ∙ ap (option_map string_bytes) (sym is ∙ some)
