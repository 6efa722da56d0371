-- A well-formed program's values are words of their widths.
use Rattle.safl_term.proofs.Common.{Program, apply_width, result_width, widths}
use Rattle.std.proofs.Common.{◌≡◌, ℕ, zero, suc, ◌<◌, List, [], ◌∷◌, ◌++◌, Bool, true, false, Some, None, refl, sym, ap, ◌∙◌, subst}
use Rattle.std.specs.Prelude.{slice_get}
use Rattle.safl_word.specs.Words.{Word, IsWord, slot}
use Rattle.safl_word.specs.Words.{AreWords}
use Rattle.safl_word.proofs.Fits.{apply_fits}
use Rattle.safl_term.specs.Terms.{Term, Terms}
use Rattle.safl_term.specs.Meaning.{Gives, gives_const, gives_var, gives_op, gives_if, gives_let, gives_call, gives_loop, GivesAll, gives_nil, gives_cons, Main}
use Rattle.safl_term.specs.WellFormed.{Spans, SpansAll, HasWidth, HaveWidths, AreWordsOf, IsWellFormed}
use Rattle.safl_term.proofs.Picking.{pick_two}
use Rattle.safl_term.proofs.Places.{fits_choose}

-- words of the slots' widths
pub are_widths : (vs : List Word) (ws : List ℕ) → AreWordsOf vs ws → widths vs ≡ ws
are_widths [] [] h = refl
are_widths [] (w ∷ ws) h = absurd h
are_widths (v ∷ vs) [] h = absurd h
are_widths (v ∷ vs) (w ∷ ws) h = ap (λ n. n ∷ widths vs) h.1 ∙ ap (λ l. w ∷ l) (are_widths vs ws h.2)

each_word : (vs : List Word) (ws : List ℕ) → AreWordsOf vs ws → AreWords vs
each_word [] [] h = tt
each_word [] (w ∷ ws) h = absurd h
each_word (v ∷ vs) [] h = absurd h
each_word (v ∷ vs) (w ∷ ws) h = (h.0, each_word vs ws h.2)

are_append : (us vs : List Word) (ws xs : List ℕ) → AreWordsOf us ws → AreWordsOf vs xs → AreWordsOf (us ++ vs) (ws ++ xs)
are_append [] vs [] xs h k = k
are_append [] vs (w ∷ ws) xs h k = absurd h
are_append (u ∷ us) vs [] xs h k = absurd h
are_append (u ∷ us) vs (w ∷ ws) xs h k = (h.0, h.1, are_append us vs ws xs h.2 k)

slot_word : (env : List Word) (slots : List ℕ) (i n : ℕ) → AreWordsOf env slots → slice_get slots i ≡ Some n → IsWord (slot env i) × ((slot env i).width ≡ n)
slot_word [] [] i n h e = none_some e
  where
    none_some : {A : Type 0} → None ≡ Some n → A
    none_some e = cc
slot_word [] (w ∷ ws) i n h e = absurd h
slot_word (v ∷ vs) [] i n h e = absurd h
slot_word (v ∷ vs) (w ∷ ws) zero n h e = (h.0, h.1 ∙ some_is e)
  where
    some_is : Some w ≡ Some n → w ≡ n
    some_is e = cc
slot_word (v ∷ vs) (w ∷ ws) (suc i) n h e = slot_word vs ws i n h.2 e

module _ (C : Program) (wf : IsWellFormed C) where
  mutual
    pub value_word : (g : ℕ) (tail : Bool) (lo hi : ℕ) (slots : List ℕ) (n : ℕ) {env : List Word} {t : Term} {v : Word} → Gives C env t v → Spans C g
        tail lo hi t → HasWidth C slots t n → AreWordsOf env slots → IsWord v × (v.width ≡ n)
    value_word g tail lo hi slots n gives_const s h e = (h.0, h.1)
    value_word g tail lo hi slots n (gives_var {env = env} {i = i}) s h e = slot_word env slots i n e h
    value_word g tail lo hi slots n (gives_op {o = o} {vs = vs} ds) s (ws, h, r) e =
        let all = values_words g lo hi slots ws ds s h e in
        let w = ap (result_width o) (are_widths vs ws all) ∙ r in
        (apply_fits o vs n (each_word vs ws all) w, apply_width o vs n w)
    value_word g tail lo hi slots n (gives_if {a = x} {b = y} {u = u} c d) (m, k, sc, sx, sy) h e =
        let ch = fits_choose C g tail m k hi x y u sx sy in
        value_word g tail ch.low ch.high slots n d ch.fits (pick_two u.bits x y x y (λ t z. HasWidth C slots t n) h.1 h.2) e
    value_word g tail lo hi slots n (gives_let {env = env} {us = us} ds d) (m, st, sx) (ws, h, hx) e =
        let all = values_words g lo m slots ws ds st h e in
        value_word g tail m hi (slots ++ ws) n d sx hx (are_append env us slots ws e all)
    value_word g tail lo hi slots n (gives_call {f = f} ds d) (s0, s1, s2, s3, st) h e =
        let all = values_words g (suc lo) hi slots (C.params f) ds st h.0 e in
        let b = wf.numbered.bodies f in
        let v = value_word f true b.0 b.1 (C.params f) (C.result f) d b.3 (wf.widths f h.2) all in
        (v.0, v.1 ∙ h.1)
    value_word g tail lo hi slots n (gives_loop {h = m} ds d) (s0, s1, st) h e =
        let all = values_words g lo hi slots (C.params m) ds st h.0 e in
        let b = wf.numbered.bodies m in
        let v = value_word m true b.0 b.1 (C.params m) (C.result m) d b.3 (wf.widths m h.2) all in
        (v.0, v.1 ∙ h.1)

    pub values_words : (g lo hi : ℕ) (slots ws : List ℕ) {env : List Word} {ts : Terms} {vs : List Word} → GivesAll C env ts vs → SpansAll C g lo hi
        ts → HaveWidths C slots ts ws → AreWordsOf env slots → AreWordsOf vs ws
    values_words g lo hi slots [] gives_nil s h e = tt
    values_words g lo hi slots (w ∷ ws) gives_nil s h e = absurd h
    values_words g lo hi slots [] (gives_cons d ds) s h e = absurd h
    values_words g lo hi slots (w ∷ ws) (gives_cons d ds) (m, st, sts) h e =
        let v = value_word g false lo m slots w d st h.0 e in
        (v.0, v.1, values_words g m hi slots ws ds sts h.1 e)

  pub main_word : (args : List Word) (v : Word) → AreWordsOf args (C.params C.main) → Main C args v → IsWord v × (v.width ≡ C.result C.main)
  main_word args v h d =
      let b = wf.numbered.bodies (C.callee 0) in
      let lt = subst (λ m. m < C.functions) (sym wf.main) wf.main_in in
      let q = value_word (C.callee 0) true b.0 b.1 (C.params (C.callee 0)) (C.result (C.callee 0)) d b.3 (wf.widths (C.callee 0) lt) (subst (λ m. AreWordsOf args (C.params m)) (sym wf.main) h) in
      (q.0, q.1 ∙ ap C.result wf.main)
