-- Files that grow, one piece after another.
use Rattle.safl_probe.proofs.Common.{AreApart, Asked, Beginning, End, Frame, IsAsked, Moment, TellsOn, TellsOn-then, Text, bytes_eq-Decides}
use Rattle.safl_probe.proofs.Common.{cases_eq, cases_lt, false≢true, lower_or_last}
use Rattle.std.proofs.Common.{◌≡◌, ◌≢◌, ℕ, ◌+◌, ◌<◌, ◌≤◌, ◌⊎◌, List, [], ◌++◌, take, length, get_or, Option, Some, None, IsSome, IsSomeAnd, IfSome}
use Rattle.std.proofs.Common.{OnSome, Bool, true, false, bytes_eq, refl, sym, ap, subst, ◌∙◌, inl, inr, arith}
use Rattle.std.proofs.lemmas.List.{append-nil, take_all, get_or_past}
use Rattle.std.specs.Bool.{Decides}
use Rattle.safl_io.specs.Shelf.{Files, file_of, Leaves, LeavesOldOrEmpty, Appends}
use Rattle.safl_probe.specs.Growth.{Longer, LongerPart, Grown, OldOrPart, GrownPart, Relation, Grows, AllGrow, FirstGrow, Opens, IsThere, AllThere, NowThere}

-- ---- what is told

pub told_weaker : {A : Type 0} (R S : A → A → Type 0) → ((a b : A) → R a b → S a b) → (x y : Option A) → TellsOn R x y → TellsOn S x y
told_weaker R S f None y t = tt
told_weaker R S f (Some a) None t = absurd t
told_weaker R S f (Some a) (Some b) t = f a b t

pub told_same : {A : Type 0} (R : A → A → Type 0) → ((a : A) → R a a) → (x y : Option A) → y ≡ x → TellsOn R x y
told_same {A} R f None y e = tt
told_same {A} R f (Some a) y e = subst (λ (o : Option A). TellsOn R (Some a) o) (sym e) (f a)

-- ---- one file

some_if : {A : Type 0} (o : Option A) (P : A → Type 0) → IsSomeAnd o P → IfSome o P
some_if None P h = tt
some_if (Some x) P h = h

pub longer_same : (had now : Option Text) → now ≡ had → Longer had [] now
longer_same None now e = tt
longer_same (Some h) now e = e ∙ ap (λ (t : Text). Some t) (sym (append-nil h))

part_same : (had now : Option Text) (text : Text) → now ≡ had → LongerPart had text now
part_same None now text e = tt
part_same (Some h) now text e = (0, e ∙ ap (λ (t : Text). Some t) (sym (append-nil h)))

part_whole : (had now : Option Text) (text : Text) → Longer had text now → LongerPart had text now
part_whole None now text e = tt
part_whole (Some h) now text e = (length text, e ∙ ap (λ (t : Text). Some (h ++ t)) (sym (take_all (length text) text (omega arith))))

pub appended : (name : List ℕ) (text : Text) (x y : Option Files) → TellsOn (Appends name text) x y → TellsOn (Grows Longer name text) x y
appended name text = told_weaker (Appends name text) (Grows Longer name text)
    (λ a b h. record { file = some_if (file_of a name) (λ had. file_of b name ≡ Some (had ++ text)) h.file; others = h.others })

pub not_created : (name : List ℕ) (x y : Option Files) → TellsOn (LeavesOldOrEmpty name) x y → TellsOn (Grows OldOrPart name []) x y
not_created name =
    told_weaker (LeavesOldOrEmpty name) (Grows OldOrPart name [])
    (λ a b h. record { file = elim h.file [ inl e ↦ inl e | inr e ↦ inr (0, e) ]; others = h.others })

part_from_nothing : (had now : Option Text) (text : Text) → had ≡ Some [] → LongerPart had text now → (count : ℕ) × (now ≡ Some (take count text))
part_from_nothing had now text e h = subst (λ (o : Option Text). LongerPart o text now) e h

made_part : (name : List ℕ) (text : Text) (a b c : Files) → Leaves name [] a b → Grows LongerPart name text b c → Grows (GrownPart Beginning) name text a c
made_part name text a b c l g = record {
  file = inr (part_from_nothing (file_of b name) (file_of c name) text l.file g.file);
  others = λ other ne. g.others other ne ∙ l.others other ne;
}

pub opened_torn : (m : Moment) (name : List ℕ) (text : Text) (x y z : Option Files) → Opens m name x y → TellsOn (Grows LongerPart name text) y z → TellsOn (Grows (GrownPart m) name text) x z
opened_torn Beginning name text x y z o g = TellsOn-then (Leaves name []) (Grows LongerPart name text) (Grows (GrownPart Beginning) name text) (made_part name text) x y z o g
opened_torn (Frame t) name text x y z o g = subst (λ (s : Option Files). TellsOn (Grows LongerPart name text) s z) o g
opened_torn End name text x y z o g = subst (λ (s : Option Files). TellsOn (Grows LongerPart name text) s z) o g

pub opened_only : (m : Moment) (name : List ℕ) (text : Text) (x y : Option Files) → Opens m name x y → TellsOn (Grows (GrownPart m) name text) x y
opened_only m name text x y o =
    opened_torn m name text x y y o
    (told_same (Grows LongerPart name text) (λ a. record { file = part_same (file_of a name) (file_of a name) text refl; others = λ other ne. refl }) y y refl)

old_or_any : (had now : Option Text) (text : Text) → OldOrPart had [] now → OldOrPart had text now
old_or_any had now text (inl e) = inl e
old_or_any had now text (inr h) = inr (0, h.1 ∙ ap (λ (t : Text). Some t) (take_all h.0 [] (omega arith)))

pub unopened : (m : Moment) (name : List ℕ) (text : Text) (x y : Option Files) → m ≡ Beginning → TellsOn (Grows OldOrPart name []) x y → TellsOn (Grows (GrownPart m) name text) x y
unopened m name text x y e g =
    subst (λ (k : Moment). TellsOn (Grows (GrownPart k) name text) x y) (sym e)
    (told_weaker (Grows OldOrPart name []) (Grows OldOrPart name text) (λ a b h. record { file = old_or_any (file_of a name) (file_of b name) text h.file; others = h.others }) x y g)

-- ---- the files of all asked probes, one after the other

same_part : (m : Moment) (had now : Option Text) (text : Text) → now ≡ had → GrownPart m had text now
same_part Beginning had now text e = inl e
same_part (Frame t) had now text e = part_same had now text e
same_part End had now text e = part_same had now text e

whole_part : (m : Moment) (had now : Option Text) (text : Text) → Grown m had text now → GrownPart m had text now
whole_part Beginning had now text e = inr (length text, e ∙ ap (λ (t : Text). Some t) (sym (take_all (length text) text (omega arith))))
whole_part (Frame t) had now text h = part_whole had now text h
whole_part End had now text h = part_whole had now text h

same_name : (names : Asked) (i : ℕ) (a b : List ℕ) → IsAsked names i a → IsAsked names i b → a ≡ b
same_name names i a b h k = let e = sym h ∙ k in grind arith

pub is_within : (names : Asked) (i : ℕ) (name : List ℕ) → IsAsked names i name → i < length names
is_within names i name h = elim (cases_lt i (length names)) [ inl k ↦ k | inr k ↦ absurd (let e = sym (get_or_past names i None k) ∙ h in cc) ]

not_that : (names : Asked) (i : ℕ) (name : List ℕ) → get_or names i None ≡ None → IsAsked names i name → ⊥
not_that names i name e h = let f = sym e ∙ h in cc

module _ (R : Relation) (names : Asked) (text : ℕ → Text) where
  pub first_none : (a : Files) → FirstGrow R names text 0 a a
  first_none a = record { files = λ i name lt h. absurd (omega (arith, lt)); others = λ name no. refl }

  pub first_skip : (i : ℕ) (a b : Files) → get_or names i None ≡ None → FirstGrow R names text i a b → FirstGrow R names text (i + 1) a b
  first_skip i a b none g = record {
    files = λ j name lt h. elim (lower_or_last j i lt) [ inl k ↦ g.files j name k h | inr e ↦ absurd (not_that names i name none (subst (λ k. IsAsked names k name) e h)) ];
    others = λ name no. g.others name (λ j lt h. no j (omega (arith, lt)) h);
  }

  pub first_more : (i : ℕ) (name : List ℕ) (a b c : Files) → AreApart names → IsAsked names i name → FirstGrow R names text i a b → Grows R name (text i) b c → FirstGrow R names text (i + 1) a c
  first_more i name a b c apart asked g h =
      let kept : file_of b name ≡ file_of a name = g.others name (λ j lt k. let e = apart j i name k asked in omega (arith, lt, e)) in
      record {
        files = λ j other lt k.
            elim (lower_or_last j i lt) [
              | inl below ↦
                  let ne : other ≢ name = λ e. let q = apart j i name (subst (λ l. IsAsked names j l) e k) asked in omega (arith, below, q) in
                  subst (λ o. R (file_of a other) (text j) o) (sym (h.others other ne)) (g.files j other below k)
              | inr e ↦
                  let same : name ≡ other = same_name names i name other asked (subst (λ l. IsAsked names l other) e k) in
                  subst (λ l. R (file_of a l) (text j) (file_of c l)) same (subst (λ l. R (file_of a name) (text l) (file_of c name)) (sym e) (subst (λ o. R o (text i) (file_of c name)) kept h.file))
            ];
        others = λ other no.
            h.others other (λ e. no i (omega arith) (subst (λ l. IsAsked names i l) (sym e) asked)) ∙ g.others other (λ j lt k. no j (omega (arith, lt)) k);
      }

  pub first_all : (count : ℕ) (a b : Files) → length names ≤ count → FirstGrow R names text count a b → AllGrow R names text a b
  first_all count a b long g = record {
    files = λ i name h. g.files i name (let k = is_within names i name h in omega (arith, k, long)) h;
    others = λ name no. g.others name (λ i lt h. no i h);
  }

-- after an error at one of the probes
first_part : (m : Moment) (names : Asked) (text : ℕ → Text) (i : ℕ) (name : List ℕ) (a b c : Files) → AreApart names → IsAsked names i name →
    FirstGrow (Grown m) names text i a b → Grows (GrownPart m) name (text i) b c
    → AllGrow (GrownPart m) names text a c
first_part m names text i name a b c apart asked g h =
    let kept : file_of b name ≡ file_of a name = g.others name (λ j lt k. let e = apart j i name k asked in omega (arith, lt, e)) in
    let here : GrownPart m (file_of a name) (text i) (file_of c name) = subst (λ o. GrownPart m o (text i) (file_of c name)) kept h.file in
    let far : (other : List ℕ) → other ≢ name → file_of c other ≡ file_of b other = h.others in
    record {
      files = λ j other k.
          elim (cases_eq j i) [
            | inl e ↦
                let same : name ≡ other = same_name names i name other asked (subst (λ l. IsAsked names l other) e k) in
                subst (λ l. GrownPart m (file_of a l) (text j) (file_of c l)) same (subst (λ l. GrownPart m (file_of a name) (text l) (file_of c name)) (sym e) here)
            | inr differ ↦
                let ne : other ≢ name = λ e. differ (apart j i name (subst (λ l. IsAsked names j l) e k) asked) in
                elim (cases_lt j i) [
                  | inl below ↦ whole_part m (file_of a other) (file_of c other) (text j) (subst (λ o. Grown m (file_of a other) (text j) o) (sym (far other ne)) (g.files j other below k))
                  | inr above ↦
                      same_part m (file_of a other) (file_of c other) (text j)
                      (far other ne ∙ g.others other (λ l lt q. let e = apart l j other q k in omega (arith, lt, above, e)))
                ]
          ];
      others = λ other no.
          far other (λ e. no i (subst (λ l. IsAsked names i l) (sym e) asked)) ∙ g.others other (λ j lt k. no j k);
    }

-- the same of what is told
pub told_none : (R : Relation) (names : Asked) (text : ℕ → Text) (x : Option Files) → TellsOn (FirstGrow R names text 0) x x
told_none R names text x = told_same (FirstGrow R names text 0) (first_none R names text) x x refl

pub told_skip : (R : Relation) (names : Asked) (text : ℕ → Text) (i : ℕ) (x y : Option Files) → get_or names i None ≡ None → TellsOn
    (FirstGrow R names text i) x y → TellsOn (FirstGrow R names text (i + 1)) x y
told_skip R names text i x y none t = told_weaker (FirstGrow R names text i) (FirstGrow R names text (i + 1)) (λ a b g. first_skip R names text i a b none g) x y t

pub told_more : (R : Relation) (names : Asked) (text : ℕ → Text) (i : ℕ) (name : List ℕ) (piece : Text) (x y z : Option Files) → AreApart names →
    IsAsked names i name → piece ≡ text i → TellsOn (FirstGrow R names text i) x y → TellsOn (Grows R name piece) y z
    → TellsOn (FirstGrow R names text (i + 1)) x z
told_more R names text i name piece x y z apart asked is t u =
    TellsOn-then (FirstGrow R names text i) (Grows R name (text i)) (FirstGrow R names text (i + 1)) (λ a b c g h. first_more R names text i name a b c apart asked g h) x y z t
    (subst (λ l. TellsOn (Grows R name l) y z) is u)

pub told_all : (R : Relation) (names : Asked) (text : ℕ → Text) (count : ℕ) (x y : Option Files) → length names ≤ count → TellsOn
    (FirstGrow R names text count) x y → TellsOn (AllGrow R names text) x y
told_all R names text count x y long t = told_weaker (FirstGrow R names text count) (AllGrow R names text) (λ a b g. first_all R names text count a b long g) x y t

pub told_part : (m : Moment) (names : Asked) (text : ℕ → Text) (i : ℕ) (name : List ℕ) (piece : Text) (x y z : Option Files) → AreApart names →
    IsAsked names i name → piece ≡ text i → TellsOn (FirstGrow (Grown m) names text i) x y
    → TellsOn (Grows (GrownPart m) name piece) y z → TellsOn (AllGrow (GrownPart m) names text) x z
told_part m names text i name piece x y z apart asked is t u =
    TellsOn-then (FirstGrow (Grown m) names text i) (Grows (GrownPart m) name (text i)) (AllGrow (GrownPart m) names text) (λ a b c g h. first_part m names text i name a b c apart asked g h) x y z t
    (subst (λ l. TellsOn (Grows (GrownPart m) name l) y z) is u)

-- ---- files that are there

-- the moment is not the beginning
abbrev pub IsLater : Moment → Type 0
IsLater Beginning = ⊥
IsLater (Frame t) = Unit {0}
IsLater End = Unit {0}

-- the files of the first probes are there, and after the beginning those of all
abbrev pub ThereTo : Moment → Asked → ℕ → Files → Type 0
ThereTo m names count files = (i : ℕ) (name : List ℕ) → IsAsked names i name → (i < count) ⊎ IsLater m → IsSome (file_of files name)

later_there : (m : Moment) (name : List ℕ) (files : Files) → IsLater m → IsThere m name (Some files) → IsSome (file_of files name)
later_there Beginning name files l h = absurd l
later_there (Frame t) name files l h = h
later_there End name files l h = h

there_later : (m : Moment) (name : List ℕ) (files : Files) → (IsLater m → IsSome (file_of files name)) → IsThere m name (Some files)
there_later Beginning name files h = tt
there_later (Frame t) name files h = h tt
there_later End name files h = h tt

longer_there : (had now : Option Text) (text : Text) → IsSome had → Longer had text now → IsSome now
longer_there None now text s h = absurd (false≢true s)
longer_there (Some t) now text s h = subst (λ (o : Option Text). IsSome o) (sym h) refl

grown_there : (m : Moment) (had now : Option Text) (text : Text) → (IsLater m → IsSome had) → Grown m had text now → IsSome now
grown_there Beginning had now text s h = subst (λ (o : Option Text). IsSome o) (sym h) refl
grown_there (Frame t) had now text s h = longer_there had now text (s tt) h
grown_there End had now text s h = longer_there had now text (s tt) h

chosen : (b : Bool) (P : Type 0) → Decides b P → P ⊎ (P → ⊥)
chosen true P d = inl (d.0 refl)
chosen false P d = inr (λ e. false≢true (d.1 e))

decide : (x y : List ℕ) → (x ≡ y) ⊎ (x ≡ y → ⊥)
decide x y = chosen (bytes_eq x y) (x ≡ y) (bytes_eq-Decides x y)

-- one more is there
there_more : (m : Moment) (names : Asked) (i : ℕ) (name : List ℕ) (text : Text) (b c : Files) → IsAsked names i name → ThereTo m names i b → Grows (Grown m) name text b c → ThereTo m names (i + 1) c
there_more m names i name text b c asked there g j other k which =
    elim (decide other name) [
      | inl e ↦ subst (λ l. IsSome (file_of c l)) (sym e) (grown_there m (file_of b name) (file_of c name) text (λ l. there i name asked (inr l)) g.file)
      | inr ne ↦
          subst (λ (o : Option Text). IsSome o) (sym (g.others other ne))
          (there j other k (elim which [
            | inl lt ↦ elim (lower_or_last j i lt) [ inl below ↦ inl below | inr e ↦ absurd (ne (sym (same_name names i name other asked (subst (λ l. IsAsked names l other) e k)))) ]
            | inr l ↦ inr l
          ]))
    ]

there_skip : (m : Moment) (names : Asked) (i : ℕ) (b : Files) → get_or names i None ≡ None → ThereTo m names i b → ThereTo m names (i + 1) b
there_skip m names i b none there j other k which =
    there j other k (elim which [
      | inl lt ↦ elim (lower_or_last j i lt) [ inl below ↦ inl below | inr e ↦ absurd (not_that names i other none (subst (λ l. IsAsked names l other) e k)) ]
      | inr l ↦ inr l
    ])

module _ (m : Moment) (names : Asked) where
  pub there_none : (x : Option Files) → AllThere m names x → TellsOn (λ _ now. ThereTo m names 0 now) x x
  there_none None h = tt
  there_none (Some a) h = λ j name k which. elim which [ inl lt ↦ absurd (omega (arith, lt)) | inr l ↦ later_there m name a l (h j name k) ]

  pub told_there_more : (i : ℕ) (name : List ℕ) (text : Text) (x y z : Option Files) → IsAsked names i name → TellsOn (λ _ now. ThereTo m names i now)
      x y → TellsOn (Grows (Grown m) name text) y z → TellsOn (λ _ now. ThereTo m names (i + 1) now) x z
  told_there_more i name text None y z asked t g = tt
  told_there_more i name text (Some a) None z asked t g = absurd t
  told_there_more i name text (Some a) (Some b) None asked t g = absurd g
  told_there_more i name text (Some a) (Some b) (Some c) asked t g = there_more m names i name text b c asked t g

  pub told_there_skip : (i : ℕ) (x y : Option Files) → get_or names i None ≡ None → TellsOn (λ _ now. ThereTo m names i now) x y → TellsOn (λ _ now. ThereTo m names (i + 1) now) x y
  told_there_skip i None y none t = tt
  told_there_skip i (Some a) None none t = absurd t
  told_there_skip i (Some a) (Some b) none t = there_skip m names i b none t

  pub told_there_all : (count : ℕ) (x y : Option Files) → length names ≤ count → TellsOn (λ _ now. ThereTo m names count now) x y → TellsOn (λ _ now. NowThere names now) x y
  told_there_all count None y long t = tt
  told_there_all count (Some a) None long t = absurd t
  told_there_all count (Some a) (Some b) long t = λ i name k. t i name k (inl (let w = is_within names i name k in omega (arith, w, long)))

  -- the count of strays, after one more
  pub strays_more : (i : ℕ) (name : List ℕ) (x y : Option Files) (before now after : ℕ) → IsAsked names i name → TellsOn (λ _ f. ThereTo m names i f)
      x y → OnSome x (now ≡ before) → (IsThere m name y → OnSome y (after ≡ now)) → OnSome x (after ≡ before)
  strays_more i name None y before now after asked t s h = tt
  strays_more i name (Some a) None before now after asked t s h = absurd t
  strays_more i name (Some a) (Some b) before now after asked t s h = h (there_later m name b (λ l. t i name asked (inr l))) ∙ s

pub strays_none : (x : Option Files) (count : ℕ) → OnSome x (count ≡ count)
strays_none None count = tt
strays_none (Some a) count = refl
