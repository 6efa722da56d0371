-- One more item of a list.
use Rattle.std.proofs.Common.{◌≡◌, List, [], ◌∷◌, ◌++◌, map, ap, ◌∙◌}
use Rattle.std.proofs.lemmas.List.{append_assoc, map_push}

pub end_map : {A B : Type 0} (f : A → B) (xs zs : List A) (x : A) (ys : List B) → zs ≡ xs ++ x ∷ [] → map f zs ++ ys ≡ map f xs ++ (f x ∷ ys)
end_map f xs zs x ys e = ap (λ l. map f l ++ ys) e ∙ (ap (λ l. l ++ ys) (map_push f xs x) ∙ append_assoc (map f xs) (f x ∷ []) ys)
