-- Slots below a let, terms with their widths, and faults that stop the walk.
use Rattle.safl_typing.proofs.Common.{Bound, CheckErr, Fault, Slot, shown_bindings, slots}
use Rattle.std.proofs.Common.{◌≡◌, ℕ, List, [], ◌∷◌, ◌++◌, append_assoc, refl, sym, ap, ◌∙◌}
use Rattle.std.specs.Prelude.{Result, Ok}
use Rattle.safl_term.specs.Terms.{Term}
use Rattle.safl_typing.specs.declared.heads.Slot as code
use Rattle.safl_typing.specs.declared.typed.CheckErr.TheVariants as errors
use Rattle.safl_typing.specs.Walk.{Typed, after}
use Rattle.safl_typing.specs.PlainHeads.{shown_slot, shown_slots}
use Rattle.safl_typing.specs.PlainTyped.{RefusesFault}

pub same_term : (w : ℕ) (t u : Term) → t ≡ u → ◌≡◌ {A = Result Typed Fault} (Ok (record { width = w; term = t })) (Ok (record { width = w; term = u }))
same_term w t u e = rw e refl

-- ---- slots

pub slots_append : (a b : List code.Slot) → shown_slots (a ++ b) ≡ shown_slots a ++ shown_slots b
slots_append [] b = refl
slots_append (s ∷ a) b = ap (λ (l : List Slot). shown_slot s ∷ l) (slots_append a b)

pub slots_more : (all more end : List code.Slot) (bound : List Bound) (b : Bound) (bs : List Bound) (widths : List ℕ) (w : ℕ) (ws : List ℕ) (name bytes : List ℕ)
    → bound ≡ b ∷ bs → widths ≡ w ∷ ws → name ≡ bytes → bytes ≡ b.name → more ≡ all ++ record { name = name; width = w } ∷ []
    → shown_slots end ≡ shown_slots more ++ slots (shown_bindings bs) ws
    → shown_slots end ≡ shown_slots all ++ slots (shown_bindings bound) widths
slots_more all more end bound b bs widths w ws name bytes eb ew en ey em h =
    let rest : List Slot = slots (shown_bindings bs) ws in
    h ∙ ap (λ (l : List code.Slot). shown_slots l ++ rest) em
    ∙ ap (λ (l : List Slot). l ++ rest) (slots_append all (record { name = name; width = w } ∷ []))
    ∙ append_assoc (shown_slots all) (record { name = name; width = w } ∷ []) rest
    ∙ ap (λ (x : List ℕ). shown_slots all ++ record { name = x; width = w } ∷ rest) (en ∙ ey)
    ∙ sym (ap (λ (l : List Bound). shown_slots all ++ slots (shown_bindings l) (w ∷ ws)) eb)
    ∙ sym (ap (λ (l : List ℕ). shown_slots all ++ slots (shown_bindings bound) l) ew)

-- ---- faults

pub fails : {A B : Type 0} (e : CheckErr) (q : Result B Fault) (r : Result A Fault) (rest : A → Result B Fault) → q ≡ after r rest → RefusesFault e r → RefusesFault e q
fails (errors.Refused f) q r rest p h = p ∙ ap (λ z. after z rest) h
fails errors.TooDeep q r rest p h = h
fails errors.NoMemory q r rest p h = tt

pub goes : {A B : Type 0} (q : Result B Fault) (r : Result A Fault) (rest : A → Result B Fault) (a : A) → q ≡ after r rest → r ≡ Ok a → q ≡ rest a
goes q r rest a p h = p ∙ ap (λ z. after z rest) h
