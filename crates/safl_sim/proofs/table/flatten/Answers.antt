use Rattle.std.proofs.Common.{◌≡◌, ℕ, List, ◌∷◌, ◌++◌, ◌+◌, [], length, get_or, sym, ap, subst, ◌∙◌, arith}
use Rattle.std.proofs.lemmas.Option.{slice_get-get_or}
use Rattle.safl_sim.specs.Readers.{AreFlat}
use Rattle.safl_sim.proofs.Tables.{flat_step}
use Rattle.safl_sim.proofs.table.flatten.Goals as goal

pub places-preserved : goal.places-preserved
places-preserved c =
    let lists = c.args.lists.now in
    let p = c.places.p in
    let v = get_or lists p [] in
    let here = slice_get-get_or lists p [] (let a = c.places-test.true in let b = c.requires in omega (arith, a, b)) in
    let starts = c.places.starts.items in
    let readers = c.places.readers.items in
    let w = flat_step lists starts readers p v c.places.invariant here in
    let all = c.in_ok-append.ensures v here in
    let count : c.len.result ≡ length (readers ++ v) = (let a = c.len.ensures in let b = ap length all in let d = c.append.new.out.ok.0 in omega (arith, a, b, d)) in
    subst (λ (l : List ℕ). AreFlat lists c.push-in-places.new.self.items l (p + 1)) (sym all)
    (subst (λ (l : List ℕ). AreFlat lists l (readers ++ v) (p + 1)) (sym (c.in_ok-push-2.ensures.items ∙ ap (λ (x : ℕ). starts ++ x ∷ []) (c.in_ok-end.ensures.number ∙ count))) w)

pub returns : goal.returns
returns c = subst (λ k. AreFlat c.args.lists.now c.places.starts.items c.places.readers.items k)
    (let a = c.places-test.false in let b = c.places.auto.p-end in let d = c.requires in let z : c.places.p ≡ length c.args.lists.now = omega
    (arith, a, b, d) in z) c.places.invariant
