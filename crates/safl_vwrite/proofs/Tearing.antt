-- A prefix of a net's text reads as no netlist, or is the whole text with or without its last line feed.
use Rattle.std.proofs.Common.{◌≡◌, ℕ, ◌==◌, Bool, true, false, List, [], ◌∷◌, ◌++◌, take, drop, Some, None, Option, refl, sym, ap, ◌∙◌, inl, inr}
use Rattle.std.proofs.lemmas.List.{append-nil, take-append-drop}
use Rattle.std.proofs.lemmas.Bool.Decides.{Decides-eqb}
use Rattle.safl_io.specs.Told.{TellsOn}
use Rattle.safl_io.specs.Shelf.{Files, LeavesOldOrPart}
use Rattle.safl_net.specs.Netlist.{Netlist}
use Rattle.safl_net.specs.Rules.{IsNetlist}
use Rattle.safl_net.specs.Written.{written}
use Rattle.safl_verilog.specs.Laws.{NoShorterText}
use Rattle.safl_vwrite.specs.Torn.{IsTornOrWhole, LeavesOldOrTorn}

module _ (law : NoShorterText) (n : Netlist) (net : IsNetlist n) where
  pub torn : (part rest : List ℕ) → written n ≡ part ++ rest → IsTornOrWhole n part
  torn part [] e = inr (inl (sym (e ∙ append-nil part)))
  torn part (c ∷ []) e = go (c == 10) refl
    where
      go : (b : Bool) → (c == 10) ≡ b → IsTornOrWhole n part
      go true h = let same : c ≡ 10 = (Decides-eqb c 10).0 h in inr (inr (ap (λ d. part ++ d ∷ []) (sym same) ∙ sym e))
      go false h = inl (λ m r. elim (law n m part (c ∷ []) net e r) [ inl k ↦ cc | inr k ↦ (let same : c ≡ 10 = cc in let hit : (c == 10) ≡ true = (Decides-eqb c 10).1 same in cc) ])
  torn part (c ∷ (d ∷ rest)) e = inl (λ m r. elim (law n m part (c ∷ (d ∷ rest)) net e r) [ inl k ↦ cc | inr k ↦ cc ])

-- so is what a write that failed has left of the text
leaves_torn : (n : Netlist) (name text : List ℕ) → ((part rest : List ℕ) → text ≡ part ++ rest → IsTornOrWhole n part) → (old new : Files) →
    LeavesOldOrPart name text old new → LeavesOldOrTorn name n old new
leaves_torn n name text parts old new h = record {
  file = elim h.file [ inl same ↦ inl same | inr k ↦ inr (take k.0 text, k.1, parts (take k.0 text) (drop k.0 text) (sym (take-append-drop k.0 text))) ];
  others = h.others;
}

pub tells_torn : (n : Netlist) (name text : List ℕ) → ((part rest : List ℕ) → text ≡ part ++ rest → IsTornOrWhole n part) → (old new : Option Files) →
    TellsOn (LeavesOldOrPart name text) old new → TellsOn (LeavesOldOrTorn name n) old new
tells_torn n name text parts None new h = tt
tells_torn n name text parts (Some old) None h = absurd h
tells_torn n name text parts (Some old) (Some new) h = leaves_torn n name text parts old new h
