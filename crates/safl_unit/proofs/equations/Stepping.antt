-- The next words of the registers, by one entry more.
use Rattle.safl_unit.proofs.Common.{AreSources, Builds, Choice, IsSource, Load, MemberFits, MemberPins, Netlist, Program, Sig, SiteFits}
use Rattle.safl_unit.proofs.Common.{SitePins, UnitFits, UnitPins, Val, Wired, Word, many, on, unwrap_or, wired_before, words}
use Rattle.std.proofs.Common.{◌≡◌, ℕ, suc, ◌+◌, ◌<◌, List, [], ◌∷◌, ◌++◌, length, length-append, Option, Some, Bool, true, false, cond, Result, Ok, Err, IfOk}
use Rattle.std.proofs.Common.{slice_get, slice_index_or, ◌⊎◌, ⊎_elim, refl, sym, ap, subst, ◌∙◌, arith}
use Rattle.std.proofs.lemmas.Option.{same_Some}
use Rattle.safl_lower.specs.Tables.{EachAt, pin, entry_in, taken_in, taken_from, on_in, on_from}
use Rattle.safl_lower.proofs.Zeroing.{gate_else}
use Rattle.safl_unit.specs.Steps.{UnitStep, MemberStep, SiteStep, UnitsNext, MembersNext, SitesNext}
use Rattle.safl_unit.proofs.equations.Keeping.{unit_kept, member_kept, site_kept}
use Rattle.safl_unit.proofs.equations.Sites.{first_only}
use Rattle.safl_unit.proofs.equations.Tables.{each_none, each_push}

-- a word of a load, and where it is chosen
pub only_word : (n : Netlist) (xs : List Sig) (w : ℕ) (other : Sig) → AreSources n xs (w ∷ []) → other ≡ slice_index_or xs 0 other → IsSource n other w × (xs ≡ other ∷ [])
only_word n [] w other h e = absurd h.widths
only_word n (x ∷ []) w other h e =
    let q : other ≡ x = e in (subst (λ (s : Sig). IsSource n s w) (sym q) (record { width = h.widths.0; steady = h.steady.0 }), ap (λ (s : Sig). s ∷ []) (sym q))
only_word n (x ∷ (y ∷ xs)) w other h e = absurd h.widths.1

words_show : (v : Val) (xs us : List Word) (o : Option Load) (l : Load) → o ≡ Some l → xs ≡ cond (on v l.bit) (words v l.words.items) us → xs ≡ unwrap_or (taken_in v o) us
words_show v xs us o l e q = q ∙ sym (gate_else (on v l.bit) (words v l.words.items) us) ∙ ap (λ (x : Option Load). unwrap_or (taken_in v x) us) (sym e)

one_chosen : (b : Bool) (x y : Word) → cond b x y ∷ [] ≡ cond b (x ∷ []) (y ∷ [])
one_chosen true x y = refl
one_chosen false x y = refl

pub load_word_value : {E : Type 0} (m : Netlist) (r : Result Sig E) (load : Option Load) (l : Load) (other word : Sig) → load ≡ Some l → l.words.items ≡ other ∷ []
    → IfOk r (λ s. (v : Val) → Wired m v → v s.0 ≡ cond (on v l.bit) (v other.0) (v word.0)) → IfOk r (λ s. (v : Val) → Wired m v → v s.0 ∷ [] ≡ unwrap_or (taken_in v load) (v word.0 ∷ []))
load_word_value m (Ok s) load l other word e q h = λ v w.
    words_show v (v s.0 ∷ []) (v word.0 ∷ []) load l e
    (ap (λ (x : Word). x ∷ []) (h v w) ∙ one_chosen (on v l.bit) (v other.0) (v word.0) ∙ ap (λ (xs : List Sig). cond (on v l.bit) (words v xs) (v word.0 ∷ [])) (sym q))
load_word_value m (Err x) load l other word e q h = tt

-- one more entry, of the next number
pub next_entry : {A : Type 0} (xs ys : List A) (a : A) (m : ℕ) (Q : ℕ → A → Type 0) → length xs ≡ m → ys ≡ xs ++ a ∷ [] → EachAt xs Q → Q m a → EachAt ys Q
next_entry {A} xs ys a m Q l e all here = subst (λ (zs : List A). EachAt zs Q) (sym e) (each_push xs a Q all (subst (λ (k : ℕ). Q k a) (sym l) here))

pub next_length : {A : Type 0} (xs ys : List A) (a : A) (m : ℕ) → length xs ≡ m → ys ≡ xs ++ a ∷ [] → length ys ≡ m + 1
next_length {A} xs ys a m l e = let h = ap (λ (zs : List A). length zs) e in let k = length-append xs (a ∷ []) in omega (arith, h, k, l)

pub no_units : (C : Program) (n : Netlist) (now : List UnitPins) (ends : List (Option Load)) (starts : List (Option Sig)) (after : List UnitPins) → after ≡ [] → UnitsNext C n now ends starts after 0
no_units C n now ends starts after e = record {
  entries = ap (λ (zs : List UnitPins). length zs) e;
  fits = subst (λ (zs : List UnitPins). EachAt zs (λ f y. UnitFits n y (C.result f))) (sym e) (each_none (λ f y. UnitFits n y (C.result f)));
  shows = λ v w.
      subst (λ (zs : List UnitPins). EachAt zs (λ f y. (x : UnitPins) → slice_get now (C.unit f) ≡ Some x → UnitStep v (taken_from v ends (C.unit f)) (on_from v starts (C.unit f)) x y)) (sym e)
      (each_none (λ f y. (x : UnitPins) → slice_get now (C.unit f) ≡ Some x → UnitStep v (taken_from v ends (C.unit f)) (on_from v starts (C.unit f)) x y));
}

module _ (C : Program) (a b : Netlist) (now : List UnitPins) (ends : List (Option Load)) (starts : List (Option Sig)) (all ys : List UnitPins)
    (f u : ℕ) (end : Option Load) (start : Option Sig) (x y : UnitPins)
    (so : UnitsNext C a now ends starts all f) (built : Builds a b 5) (of : u ≡ C.unit f) (width : C.result u ≡ C.result f) (own : C.unit u ≡ u)
    (at_end : slice_get ends u ≡ Some end) (at_start : slice_get starts u ≡ Some start) (at : slice_get now u ≡ Some x)
    (this : (slice_get all u ≡ Some y) ⊎ (UnitFits b y (C.result u) × ((v : Val) → Wired b v → UnitStep v (taken_in v end) (on_in v start) x y))) (push : ys ≡ all ++ y ∷ []) where
  abbrev Step : Val → ℕ → UnitPins → UnitPins → Type 0
  Step v k x y = UnitStep v (taken_from v ends k) (on_from v starts k) x y

  abbrev StepAt : Val → ℕ → UnitPins → Type 0
  StepAt v k y = (x : UnitPins) → slice_get now k ≡ Some x → Step v k x y

  fit_here : UnitFits b y (C.result f)
  fit_here = subst (λ (w : ℕ). UnitFits b y w) width (⊎_elim (λ (e : slice_get all u ≡ Some y). unit_kept built (so.fits u y e))
      (λ (h : UnitFits b y (C.result u) × ((v : Val) → Wired b v → UnitStep v (taken_in v end) (on_in v start) x y)). h.0) this)

  own_step : (v : Val) → UnitStep v (taken_in v end) (on_in v start) x y → StepAt v u y
  own_step v h z e =
      let q : x ≡ z = same_Some x z (sym at ∙ e) in
      subst (λ (t : UnitPins). Step v u t y) q
      (subst (λ (o : Option (Option Load)). UnitStep v (taken_in v (entry_in o)) (on_from v starts u) x y) (sym at_end)
      (subst (λ (o : Option (Option Sig)). UnitStep v (taken_in v end) (on_in v (entry_in o)) x y) (sym at_start) h))

  step_here : (v : Val) → Wired b v → StepAt v (C.unit f) y
  step_here v w =
      ⊎_elim (λ (e : slice_get all u ≡ Some y). subst (λ (k : ℕ). StepAt v k y) (own ∙ of) (so.shows v (wired_before built.grows w) u y e))
      (λ (h : UnitFits b y (C.result u) × ((v : Val) → Wired b v → UnitStep v (taken_in v end) (on_in v start) x y)). subst (λ (k : ℕ). StepAt v k y) of (own_step v (h.1 v w))) this

  pub more_units : UnitsNext C b now ends starts ys (f + 1)
  more_units = record {
    entries = next_length all ys y f so.entries push;
    fits = next_entry all ys y f (λ g z. UnitFits b z (C.result g)) so.entries push (λ g z e. unit_kept built (so.fits g z e)) fit_here;
    shows = λ v w. next_entry all ys y f (λ g z. StepAt v (C.unit g) z) so.entries push (so.shows v (wired_before built.grows w)) (step_here v w);
  }

pub no_members : (C : Program) (n : Netlist) (now : List MemberPins) (entries rivals : List (Option Sig)) (loads looped : List (Option Load))
    (after : List MemberPins) → after ≡ [] → MembersNext C n now entries rivals loads looped after 0
no_members C n now entries rivals loads looped after e = record {
  entries_after = ap (λ (zs : List MemberPins). length zs) e;
  fits = subst (λ (zs : List MemberPins). EachAt zs (λ f y. MemberFits n y (C.params f))) (sym e) (each_none (λ f y. MemberFits n y (C.params f)));
  shows = λ v w.
      subst (λ (zs : List MemberPins). EachAt zs (λ f y. (x : MemberPins) → slice_get now f ≡ Some x → MemberStep v (many C f) (on_from v entries f)
      (on_from v rivals f) (taken_from v loads f) (taken_from v looped f) x y)) (sym e)
      (each_none (λ f y. (x : MemberPins) → slice_get now f ≡ Some x → MemberStep v (many C f) (on_from v entries f) (on_from v rivals f) (taken_from v loads f) (taken_from v looped f) x y));
}

module _ (C : Program) (a b : Netlist) (k : ℕ) (now : List MemberPins) (entries rivals : List (Option Sig)) (loads looped : List (Option Load))
    (all ys : List MemberPins) (f : ℕ) (e r : Option Sig) (l g : Option Load) (x y : MemberPins)
    (so : MembersNext C a now entries rivals loads looped all f) (built : Builds a b k) (at_entry : slice_get entries f ≡ Some e) (at_rival : slice_get rivals f ≡ Some r)
    (at_load : slice_get loads f ≡ Some l) (at_loop : slice_get looped f ≡ Some g) (at : slice_get now f ≡ Some x) (fit : MemberFits b y (C.params f))
    (shown : (v : Val) → Wired b v → MemberStep v (many C f) (on_in v e) (on_in v r) (taken_in v l) (taken_in v g) x y) (push : ys ≡ all ++ y ∷ []) where
  abbrev Next : Val → ℕ → MemberPins → Type 0
  Next v h y = (x : MemberPins) → slice_get now h ≡ Some x → MemberStep v (many C h) (on_from v entries h) (on_from v rivals h) (taken_from v loads h) (taken_from v looped h) x y

  next_here : (v : Val) → Wired b v → Next v f y
  next_here v w z q =
      let same : x ≡ z = same_Some x z (sym at ∙ q) in
      subst (λ (t : MemberPins). MemberStep v (many C f) (on_from v entries f) (on_from v rivals f) (taken_from v loads f) (taken_from v looped f) t y) same
      (subst (λ (o : Option (Option Sig)). MemberStep v (many C f) (on_in v (entry_in o)) (on_from v rivals f) (taken_from v loads f) (taken_from v looped f) x y) (sym at_entry)
      (subst (λ (o : Option (Option Sig)). MemberStep v (many C f) (on_in v e) (on_in v (entry_in o)) (taken_from v loads f) (taken_from v looped f) x y) (sym at_rival)
      (subst (λ (o : Option (Option Load)). MemberStep v (many C f) (on_in v e) (on_in v r) (taken_in v (entry_in o)) (taken_from v looped f) x y) (sym at_load)
      (subst (λ (o : Option (Option Load)). MemberStep v (many C f) (on_in v e) (on_in v r) (taken_in v l) (taken_in v (entry_in o)) x y) (sym at_loop) (shown v w)))))

  pub more_members : MembersNext C b now entries rivals loads looped ys (f + 1)
  more_members = record {
    entries_after = next_length all ys y f so.entries_after push;
    fits = next_entry all ys y f (λ h z. MemberFits b z (C.params h)) so.entries_after push (λ h z q. member_kept built (so.fits h z q)) fit;
    shows = λ v w. next_entry all ys y f (λ h z. Next v h z) so.entries_after push (so.shows v (wired_before built.grows w)) (next_here v w);
  }

abbrev SiteNext : Program → Choice → List UnitPins → List SitePins → List Sig → List Sig → List (Option Sig) → Val → ℕ → SitePins → Type 0
SiteNext C P units now rets goes clears v k y = (u : UnitPins) (x : SitePins) → slice_get units (C.callee k) ≡ Some u → slice_get now k ≡ Some x
    → SiteStep v (P.kept k) (on v (pin rets k)) (on v (pin goes k)) (on_from v clears (C.unit (C.caller k))) (v u.res.0) x y

pub no_sites : (C : Program) (P : Choice) (n : Netlist) (units : List UnitPins) (now : List SitePins) (rets goes : List Sig)
    (clears : List (Option Sig)) (after : List SitePins) → length after ≡ 1 → SitesNext C P n units now rets goes clears after 0
no_sites C P n units now rets goes clears after e = record {
  entries = e;
  fits = first_only after (λ k y. SiteFits n y (C.result (C.callee k))) e;
  shows = λ v w. first_only after (λ k y. SiteNext C P units now rets goes clears v k y) e;
}

module _ (C : Program) (P : Choice) (a b : Netlist) (units : List UnitPins) (now : List SitePins) (rets goes : List Sig) (clears : List (Option Sig))
    (all ys : List SitePins) (m k : ℕ) (next : k ≡ suc m) (u : UnitPins) (clear : Option Sig) (x y : SitePins)
    (so : SitesNext C P a units now rets goes clears all m) (built : Builds a b 7) (at_unit : slice_get units (C.callee k) ≡ Some u)
    (at_clear : slice_get clears (C.unit (C.caller k)) ≡ Some clear) (at : slice_get now k ≡ Some x)
    (fit : SiteFits b y (C.result (C.callee k))) (shown : (v : Val) → Wired b v → SiteStep v (P.kept k) (on v (pin rets k)) (on v (pin goes k))
    (on_in v clear) (v u.res.0) x y) (push : ys ≡ all ++ y ∷ []) where
  site_here : (v : Val) → Wired b v → SiteNext C P units now rets goes clears v k y
  site_here v w h z q s =
      let same : x ≡ z = same_Some x z (sym at ∙ s) in
      let unit : u ≡ h = same_Some u h (sym at_unit ∙ q) in
      subst (λ (t : SitePins). SiteStep v (P.kept k) (on v (pin rets k)) (on v (pin goes k)) (on_from v clears (C.unit (C.caller k))) (v h.res.0) t y) same
      (subst (λ (t : UnitPins). SiteStep v (P.kept k) (on v (pin rets k)) (on v (pin goes k)) (on_from v clears (C.unit (C.caller k))) (v t.res.0) x y) unit
      (subst (λ (o : Option (Option Sig)). SiteStep v (P.kept k) (on v (pin rets k)) (on v (pin goes k)) (on_in v (entry_in o)) (v u.res.0) x y) (sym at_clear) (shown v w)))

  pub more_sites : SitesNext C P b units now rets goes clears ys k
  more_sites =
      let count : length all ≡ k = let e = so.entries in omega (arith, e, next) in
      record {
        entries = let e = next_length all ys y k count push in omega (arith, e);
        fits = next_entry all ys y k (λ j z. 0 < j → SiteFits b z (C.result (C.callee j))) count push (λ j z q l. site_kept built (so.fits j z q l)) (λ l. fit);
        shows = λ v w. next_entry all ys y k (λ j z. 0 < j → SiteNext C P units now rets goes clears v j z) count push (so.shows v (wired_before built.grows w)) (λ l. site_here v w);
      }
