-- Lists of the code, one item after another.
use Rattle.safl_reshape.proofs.Common.{Arm, Bind, Bound, Def, Definition, Expr, Head, Known, Labelled, Tree, drop_read, unit_of}
use Rattle.std.proofs.Common.{◌≡◌, ℕ, ◌+◌, ◌<◌, List, [], ◌∷◌, ◌++◌, length, map, drop, get_or, sym, ap, ◌∙◌, add-one}
use Rattle.safl_tree.specs.Shown.{shown_tree, shown_trees, shown_bind, shown_bounds, shown_arm, shown_labelled, shown_definition, shown_definitions}
use Rattle.safl_reshape.specs.Changed.{Change, changed, sites_in_tree, with_body, changed_definitions}
use Rattle.safl_reshape.specs.Lists.{sites_list, changed_list, sites_bounds, changed_bounds, sites_labelled, changed_labelled}
use Rattle.safl_reshape.proofs.NextItems.{end_map}

module _ (k : Known) where
  pub list_left : (es : List Expr) (i : ℕ) (e : Expr) → i < length es → e ≡ get_or es i e → sites_list k (shown_trees (drop i es)) ≡ sites_in_tree k
      (shown_tree e) + sites_list k (shown_trees (drop (i + 1) es))
  list_left es i e lt is = ap (λ (l : List Expr). sites_list k (shown_trees l)) (drop_read es i e lt is)

  pub bounds_left : (es : List Bind) (i : ℕ) (e : Bind) → i < length es → e ≡ get_or es i e → sites_bounds k (shown_bounds (drop i es)) ≡
      sites_in_tree k (shown_tree e.value) + sites_bounds k (shown_bounds (drop (i + 1) es))
  bounds_left es i e lt is = ap (λ (l : List Bind). sites_bounds k (shown_bounds l)) (drop_read es i e lt is)

  pub arms_left : (es : List Arm) (i : ℕ) (e : Arm) → i < length es → e ≡ get_or es i e → sites_labelled k (shown_labelled (drop i es)) ≡
      (sites_in_tree k (shown_tree e.label) + sites_in_tree k (shown_tree e.value)) + sites_labelled k (shown_labelled (drop (i + 1) es))
  arms_left es i e lt is = ap (λ (l : List Arm). sites_labelled k (shown_labelled l)) (drop_read es i e lt is)

  module _ (ch : Change) where
    pub list_more : (es : List Expr) (i : ℕ) (e : Expr) (all new : List Expr) (x : Expr) (m : ℕ) (whole : List Tree) → i < length es → e ≡ get_or es i
        e → new ≡ all ++ x ∷ [] → shown_tree x ≡ changed k ch m (shown_tree e)
        → shown_trees all ++ changed_list k ch m (shown_trees (drop i es)) ≡ whole → shown_trees new ++ changed_list k ch (m + sites_in_tree k (shown_tree e)) (shown_trees (drop (i + 1) es)) ≡ whole
    list_more es i e all new x m whole lt is en ex h =
        end_map shown_tree all new x (changed_list k ch (m + sites_in_tree k (shown_tree e)) (shown_trees (drop (i + 1) es))) en
        ∙ (ap (λ (z : Tree). shown_trees all ++ (z ∷ changed_list k ch (m + sites_in_tree k (shown_tree e)) (shown_trees (drop (i + 1) es)))) ex
        ∙ (ap (λ (l : List Expr). shown_trees all ++ changed_list k ch m (shown_trees l)) (sym (drop_read es i e lt is)) ∙ h))

    pub bounds_more : (es : List Bind) (i : ℕ) (e : Bind) (all new : List Bind) (x : Bind) (m : ℕ) (whole : List Bound) → i < length es → e ≡ get_or
        es i e → new ≡ all ++ x ∷ [] → x.place ≡ e.place → x.name ≡ e.name → x.width ≡ e.width → shown_tree x.value ≡ changed k ch m (shown_tree e.value)
        → shown_bounds all ++ changed_bounds k ch m (shown_bounds (drop i es)) ≡ whole → shown_bounds new ++ changed_bounds k ch
        (m + sites_in_tree k (shown_tree e.value)) (shown_bounds (drop (i + 1) es)) ≡ whole
    bounds_more es i e all new x m whole lt is en ep ex ew ev h =
        let b : shown_bind x ≡ record { place = e.place; name = e.name; width = e.width; value = changed k ch m (shown_tree e.value) } = cc in
        end_map shown_bind all new x (changed_bounds k ch (m + sites_in_tree k (shown_tree e.value)) (shown_bounds (drop (i + 1) es))) en
        ∙ (ap (λ (z : Bound). shown_bounds all ++ (z ∷ changed_bounds k ch (m + sites_in_tree k (shown_tree e.value)) (shown_bounds (drop (i + 1) es)))) b
        ∙ (ap (λ (l : List Bind). shown_bounds all ++ changed_bounds k ch m (shown_bounds l)) (sym (drop_read es i e lt is)) ∙ h))

    pub arms_more : (es : List Arm) (i : ℕ) (e : Arm) (all new : List Arm) (x : Arm) (m : ℕ) (whole : List Labelled) → i < length es → e ≡ get_or es i
        e → new ≡ all ++ x ∷ [] → shown_tree x.label ≡ changed k ch m (shown_tree e.label) → shown_tree x.value ≡ changed k ch
        (m + sites_in_tree k (shown_tree e.label)) (shown_tree e.value)
        → shown_labelled all ++ changed_labelled k ch m (shown_labelled (drop i es)) ≡ whole → shown_labelled new ++ changed_labelled k ch
        (m + (sites_in_tree k (shown_tree e.label) + sites_in_tree k (shown_tree e.value))) (shown_labelled (drop (i + 1) es)) ≡ whole
    arms_more es i e all new x m whole lt is en el ev h =
        let b : shown_arm x ≡ record { label = changed k ch m (shown_tree e.label); value = changed k ch (m + sites_in_tree k (shown_tree e.label)) (shown_tree e.value) } = cc in
        end_map shown_arm all new x (changed_labelled k ch (m + (sites_in_tree k (shown_tree e.label) + sites_in_tree k (shown_tree e.value))) (shown_labelled (drop (i + 1) es))) en
        ∙ (ap (λ (z : Labelled). shown_labelled all ++ (z ∷ changed_labelled k ch
        (m + (sites_in_tree k (shown_tree e.label) + sites_in_tree k (shown_tree e.value))) (shown_labelled (drop (i + 1) es)))) b
        ∙ (ap (λ (l : List Arm). shown_labelled all ++ changed_labelled k ch m (shown_labelled l)) (sym (drop_read es i e lt is)) ∙ h))

pub same_more : {A B : Type 0} (f : A → B) (xs : List A) (i : ℕ) (x : A) (all new : List A) (y : A) (whole : List B) → i < length xs → x ≡ get_or xs i x → new ≡ all ++ y ∷ [] → f y ≡ f x
    → map f all ++ map f (drop i xs) ≡ whole → map f new ++ map f (drop (i + 1) xs) ≡ whole
same_more f xs i x all new y whole lt is en e h =
    end_map f all new y (map f (drop (i + 1) xs)) en ∙ (ap (λ z. map f all ++ (z ∷ map f (drop (i + 1) xs))) e ∙ (ap (λ l. map f all ++ map f l) (sym (drop_read xs i x lt is)) ∙ h))

pub defs_more : (hs : List Head) (ch : Change) (ds : List Def) (n u v m : ℕ) (d : Def) (all new : List Def) (x : Def) (body : Tree)
    (whole : List Definition) → n < length ds → d ≡ get_or ds n d → v ≡ unit_of n u (shown_definition d) → new ≡ all ++ x ∷ []
    → shown_definition x ≡ with_body (shown_definition d) body → body ≡ changed (record { heads = hs; unit = v }) ch m (shown_tree d.body)
    → shown_definitions all ++ changed_definitions hs ch n u m (shown_definitions (drop n ds)) ≡ whole
    → shown_definitions new ++ changed_definitions hs ch (n + 1) v (m + sites_in_tree (record { heads = hs; unit = v }) (shown_tree d.body)) (shown_definitions (drop (n + 1) ds)) ≡ whole
defs_more hs ch ds n u v m d all new x body whole lt is ev en ex eb h =
    let r = changed_definitions hs ch (n + 1) v (m + sites_in_tree (record { heads = hs; unit = v }) (shown_tree d.body)) (shown_definitions (drop (n + 1) ds)) in
    end_map shown_definition all new x r en
    ∙ (ap (λ (z : Definition). shown_definitions all ++ (z ∷ r)) (ex ∙ ap (λ (z : Tree). with_body (shown_definition d) z) eb)
    ∙ (ap (λ (w : ℕ). shown_definitions all ++ (with_body (shown_definition d) (changed (record { heads = hs; unit = w }) ch m (shown_tree d.body)) ∷
    changed_definitions hs ch (n + 1) w (m + sites_in_tree (record { heads = hs; unit = w }) (shown_tree d.body)) (shown_definitions (drop (n + 1) ds)))) ev
    ∙ (ap (λ (w : ℕ). shown_definitions all ++ (with_body (shown_definition d)
    (changed (record { heads = hs; unit = unit_of n u (shown_definition d) }) ch m (shown_tree d.body)) ∷ changed_definitions hs ch w
    (unit_of n u (shown_definition d)) (m + sites_in_tree (record { heads = hs; unit = unit_of n u (shown_definition d) }) (shown_tree d.body))
    (shown_definitions (drop (n + 1) ds)))) (add-one n)
    ∙ (ap (λ (l : List Def). shown_definitions all ++ changed_definitions hs ch n u m (shown_definitions l)) (sym (drop_read ds n d lt is)) ∙ h))))
