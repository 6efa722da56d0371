-- The widths of a program that has the form are in range.
use Rattle.safl_typing.proofs.Common.{Arms, Binds, Definition, Parameter, Tree, Trees, same_Some}
use Rattle.std.proofs.Common.{◌≡◌, ℕ, suc, List, [], ◌∷◌, map, Option, Some, None, Bool, true, false, cond, refl, subst}
use Rattle.std.specs.Prelude.{nat_le}
use Rattle.std.proofs.lemmas.Bool.{leb-true}
use Rattle.safl_word.specs.Limits.{width_max}
use Rattle.safl_tree.specs.Tree as source
use Rattle.safl_tree.specs.Grammar.{is_written_width}
use Rattle.safl_tree.specs.Printable.{IsLabel, FitsWritten, IsFormed, AreFormed, AreFormedBinds, AreFormedArms, AreFormedParameters, AreFormedDefinitions}
use Rattle.safl_typing.specs.Rewriting.{rewritten, rewritten_all, rewritten_binds, rewritten_arms}
use Rattle.safl_typing.specs.Heads.{slot_of, unit_of, heads_from}
use Rattle.safl_typing.specs.Ranges.{IsWide, WideSlots, WideHeads, IsInRange, AreInRange, BoundInRange}

width_here : (b : Bool) (n : ℕ) → nat_le 1 n ≡ b → cond b (nat_le n width_max) false ≡ true → IsWide n
width_here true n q e = record { some = leb-true 1 n q; bounded = leb-true n width_max e }
width_here false n q e = absurd cc

pub width_wide : (n : ℕ) → is_written_width n ≡ true → IsWide n
width_wide n e = width_here (nat_le 1 n) n refl e

written_wide : (w : Option ℕ) → FitsWritten w → (v : ℕ) → w ≡ Some v → IsWide v
written_wide None h v e = absurd cc
written_wide (Some w) h v e = subst IsWide (same_Some w v e) (width_wide w h)

label_range : (l : Tree) → IsLabel l → IsInRange (rewritten l)
label_range (source.Number p n) h = tt
label_range (source.Sized p w n) h = width_wide w h.0
label_range (source.Variable p x) h = absurd h
label_range (source.If p c a b) h = absurd h
label_range (source.Let p bs t) h = absurd h
label_range (source.Cases p e arms) h = absurd h
label_range (source.Op p o ts) h = absurd h
label_range (source.Call p f ts) h = absurd h

mutual
  pub formed_range : (t : Tree) → IsFormed t → IsInRange (rewritten t)
  formed_range (source.Number p n) h = tt
  formed_range (source.Sized p w n) h = width_wide w h.0
  formed_range (source.Variable p x) h = tt
  formed_range (source.If p c a b) h = (formed_range c h.0, formed_range a h.1, formed_range b h.2)
  formed_range (source.Let p bs t) h = (binds_range bs h.1, formed_range t h.2)
  formed_range (source.Cases p e arms) h = (((λ v q. absurd cc), formed_range e h.0, tt), arms_range p arms h.1)
  formed_range (source.Op p o ts) h = all_range ts h.2
  formed_range (source.Call p f ts) h = all_range ts h.1

  all_range : (ts : Trees) → AreFormed ts → AreInRange (rewritten_all ts)
  all_range source.no_tree h = tt
  all_range (source.a_tree t ts) h = (formed_range t h.0, all_range ts h.1)

  binds_range : (bs : Binds) → AreFormedBinds bs → BoundInRange (rewritten_binds bs)
  binds_range source.no_bind h = tt
  binds_range (source.a_bind p x w t bs) h = (written_wide w h.1, formed_range t h.2, binds_range bs h.3)

  arms_range : (p : ℕ) (arms : Arms) → AreFormedArms arms → IsInRange (rewritten_arms p arms)
  arms_range p (source.default_arm t) h = formed_range t h
  arms_range p (source.an_arm l t arms) h = ((tt, (label_range l h.0, tt)), formed_range t h.1, arms_range p arms h.2)

pub params_wide : (ps : List Parameter) → AreFormedParameters ps → WideSlots (map slot_of ps)
params_wide [] h = tt
params_wide (p ∷ ps) h = (width_wide p.width h.0.1, params_wide ps h.1)

pub heads_wide : (n u : ℕ) (ds : List Definition) → AreFormedDefinitions ds → WideHeads (heads_from n u ds)
heads_wide n u [] h = tt
heads_wide n u (d ∷ ds) h = (record { width = width_wide d.width h.0.2; params = params_wide d.params h.0.1 }, heads_wide (suc n) (unit_of n u d) ds h.1)
