-- Parameters with their arguments.
use Rattle.safl_reshape.proofs.Common.{Binds, Bound, Param, Parameter, Tree, binds_of, shown_parameters, trees_of, zipped}
use Rattle.std.proofs.Common.{◌≡◌, ℕ, ◌<◌, List, [], ◌∷◌, length, Some, refl, sym, ap, ◌∙◌, arith}
use Rattle.safl_tree.specs.Tree as source
use Rattle.safl_reshape.specs.Reshaped.{bound_params, body_under}

zip_binds : (ps : List Parameter) (ts : List Tree) → bound_params ps (trees_of ts) ≡ binds_of (zipped ps ts)
zip_binds [] ts = refl
zip_binds (p ∷ ps) [] = refl
zip_binds (p ∷ ps) (t ∷ ts) = ap (source.a_bind p.place p.name (Some p.width) t) (zip_binds ps ts)

pub under_done : (p : ℕ) (ps : List Param) (ts : List Tree) (x b body : Tree) (bs : List Bound) → 0 < length ps → 0 < length ts → bs ≡ zipped
    (shown_parameters ps) ts → x ≡ source.Let p (binds_of bs) b → b ≡ body → x ≡ body_under p (shown_parameters ps) (trees_of ts) body
under_done p [] ts x b body bs l m e f g = absurd (omega (arith, l))
under_done p (q ∷ ps) [] x b body bs l m e f g = absurd (omega (arith, m))
under_done p (q ∷ ps) (t ∷ us) x b body bs l m e f g =
    let ts = t ∷ us in
    f ∙ (ap (λ (z : List Bound). source.Let p (binds_of z) b) e ∙
    (ap (λ (z : Binds). source.Let p z b) (sym (zip_binds (shown_parameters (q ∷ ps)) ts)) ∙ ap
    (λ (z : Tree). source.Let p (bound_params (shown_parameters (q ∷ ps)) (trees_of ts)) z) g))
