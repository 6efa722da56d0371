use Rattle.safl_lower.proofs.Common.{Load, entry_in, map_push, slice_get_read}
use Rattle.std.proofs.Common.{◌≡◌, ◌++◌, ◌∷◌, [], List, map, map-id, length, Option, Some, None, rules, refl, sym, ap, ◌∙◌}
use Rattle.std.specs.Option.{IsSome}
use Rattle.std.proofs.lemmas.Iterator.Consumers.{YieldsList-turn, YieldsList-end}
use Rattle.std.proofs.lemmas.Iterator.Adapters.{YieldsList-from_vec}
use Rattle.safl_lower.proofs.load_tables.all_loads.Goals as goal

is_there : (o : Option Load) → (o ≡ None → ⊥) → IsSome o
is_there None h = absurd (h refl)
is_there (Some l) h = search rules

pub unwrap-requires : goal.unwrap-requires
unwrap-requires c =
    let turn = YieldsList-turn (YieldsList-from_vec {s = c.into_iter-place-iterator.result} c.args.table.items (search rules) (search rules))
    c.loop-place.yielded c.loop-place.place-iterator c.loop-place.yielded_by c.next.result c.next.new.self c.in-Some.place c.in-Some.is c.next.ensures.steps in
    let at = slice_get_read c.args.table.items (length c.args.table.items) (length c.loop-place.yielded) c.in-Some.place refl turn.0 turn.1 in
    is_there c.in-Some.place (λ e. c.requires (length c.loop-place.yielded) turn.0 (ap entry_in at ∙ e))

pub loop-place-preserved : goal.loop-place-preserved
loop-place-preserved c =
    ap (λ (ls : List Load). map (λ (l : Load). Some l) ls) c.in_ok-push.ensures.items
    ∙ map_push (λ (l : Load). Some l) c.loop-place.loads.items c.unwrap.result
    ∙ ap (λ (os : List (Option Load)). os ++ Some c.unwrap.result ∷ []) c.loop-place.invariant
    ∙ ap (λ (o : Option Load). c.loop-place.yielded ++ o ∷ []) (sym c.unwrap.ensures)

pub returns : goal.returns
returns c =
    let end = YieldsList-end (YieldsList-from_vec {s = c.into_iter-place-iterator.result} c.args.table.items (search rules) (search rules))
    c.loop-place.yielded c.loop-place.place-iterator c.loop-place.yielded_by c.next.result c.next.new.self c.in-None.is c.next.ensures.steps in
    c.loop-place.invariant ∙ sym (map-id c.loop-place.yielded) ∙ end.0
