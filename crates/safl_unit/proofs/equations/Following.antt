-- The next words of the registers are those of the equations.
use Rattle.safl_unit.proofs.Common.{Choice, MemberPins, SitePins, UnitPins, Val, Word, one_some, one_word, or_else, unwrap_or, words}
use Rattle.std.proofs.Common.{◌≡◌, ℕ, List, [], ◌∷◌, Option, Some, None, Bool, true, false, cond, not, ◌&&◌, ◌||◌, is_some, refl, ap, ◌∙◌}
use Rattle.safl_term.specs.Program.{Program, unit_for}
use Rattle.safl_circuit.specs.Equations.{Registers, Inputs, many, ret, go, ends, starts, loads, loop_words, clears, starts_it, starts_other, next}
use Rattle.safl_unit.specs.Cycles.{UnitShows, MemberShows, SiteShows}
use Rattle.safl_unit.specs.Steps.{UnitStep, MemberStep, SiteStep}

-- set, and cleared before all
set_first : (a b e : Bool) → ((a || b) && not e) ≡ cond e false (b || a)
set_first true true true = refl
set_first true false true = refl
set_first false true true = refl
set_first false false true = refl
set_first true true false = refl
set_first true false false = refl
set_first false true false = refl
set_first false false false = refl

set_last : (a b e : Bool) → ((a || b) && not e) ≡ cond e false (a || b)
set_last true b true = refl
set_last true b false = refl
set_last false true true = refl
set_last false true false = refl
set_last false false true = refl
set_last false false false = refl

word_or : (o : Option Word) (a b : Word) → a ∷ [] ≡ unwrap_or (one_word o) (b ∷ []) → a ≡ unwrap_or o b
word_or None a b e = cc
word_or (Some w) a b e = cc

or_twice : {A : Type 0} (a b : Option A) (d : A) → unwrap_or a (unwrap_or b d) ≡ unwrap_or (or_else a b) d
or_twice None b d = refl
or_twice (Some x) b d = refl

module _ (C : Program) (P : Choice) (v : Val) (r : Registers) (i : Inputs) where
  pub unit_follows : (u : ℕ) (end : Option (List Word)) (start : Bool) (x y : UnitPins) → UnitStep v end start x y → UnitShows v x r u → end ≡
      one_word (ends C P r u) → start ≡ is_some (starts C P r i u) → UnitShows v y (next C P i r) u
  unfolding next
  unit_follows u end start x y h a e s =
      let some : is_some end ≡ is_some (ends C P r u) = ap is_some e ∙ one_some (ends C P r u) in
      record {
        run = h.run ∙ ap (λ (b : Bool). (start || b) && not (is_some end)) a.run ∙ ap (λ (b : Bool). (b || r.run u) && not (is_some end)) s ∙ ap
            (λ (b : Bool). (is_some (starts C P r i u) || r.run u) && not b) some
            ∙ set_first (is_some (starts C P r i u)) (r.run u) (is_some (ends C P r u));
        fin = h.fin ∙ some;
        res = word_or (ends C P r u) (v y.res.0) (r.res u) (h.res ∙ ap (λ (o : Option (List Word)). unwrap_or o (v x.res.0 ∷ [])) e ∙ ap
            (λ (w : Word). unwrap_or (one_word (ends C P r u)) (w ∷ [])) a.res);
      }

  pub member_follows : (f : ℕ) (entry rival : Bool) (load looped : Option (List Word)) (x y : MemberPins) → MemberStep v (many C f) entry rival load looped x y → MemberShows C v x r f
      → entry ≡ starts_it C P r i f → rival ≡ starts_other C P r i f → load ≡ loads C P r i f → looped ≡ loop_words C P r f → MemberShows C v y (next C P i r) f
  unfolding next
  member_follows f entry rival load looped x y h a e s l k = record {
    at = λ m.
        h.at m ∙ ap (λ (b : Bool). (entry || b) && not rival) (a.at m) ∙ ap (λ (b : Bool). (b || r.at f) && not rival) e ∙ ap (λ (b : Bool). (starts_it C P r i f || r.at f) && not b) s
        ∙ set_first (starts_it C P r i f) (r.at f) (starts_other C P r i f);
    arg = h.args ∙ ap (λ (o : Option (List Word)). unwrap_or o (unwrap_or looped (words v x.args.items))) l ∙ ap
        (λ (o : Option (List Word)). unwrap_or (loads C P r i f) (unwrap_or o (words v x.args.items))) k
        ∙ ap (λ (ws : List Word). unwrap_or (loads C P r i f) (unwrap_or (loop_words C P r f) ws)) a.arg ∙ or_twice (loads C P r i f) (loop_words C P r f) (r.arg f);
  }

  pub site_follows : (k : ℕ) (back sent clear : Bool) (res : Word) (x y : SitePins) → SiteStep v (P.kept k) back sent clear res x y → SiteShows P v x r k
      → back ≡ ret C r k → sent ≡ go C P r i k → clear ≡ clears C P r (C.unit (C.caller k)) → res ≡ r.res (unit_for C k) → SiteShows P v y (next C P i r) k
  unfolding next
  site_follows k back sent clear res x y h a b s c w = record {
    sent = h.sent ∙ ap (λ (t : Bool). (t || sent) && not clear) a.sent ∙ ap (λ (t : Bool). (r.sent k || t) && not clear) s ∙ ap (λ (t : Bool). (r.sent k || go C P r i k) && not t) c
        ∙ set_last (r.sent k) (go C P r i k) (clears C P r (C.unit (C.caller k)));
    got = h.got ∙ ap (λ (t : Bool). (t || back) && not clear) a.got ∙ ap (λ (t : Bool). (r.got k || t) && not clear) b ∙ ap (λ (t : Bool). (r.got k || ret C r k) && not t) c
        ∙ set_last (r.got k) (ret C r k) (clears C P r (C.unit (C.caller k)));
    keep = λ m. h.keep m ∙ ap (λ (t : Bool). cond t res (v x.keep.0)) b ∙ ap (λ (t : Word). cond (ret C r k) t (v x.keep.0)) w ∙ ap
        (λ (t : Word). cond (ret C r k) (r.res (unit_for C k)) t) (a.keep m);
  }
