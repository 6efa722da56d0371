use Rattle.std.proofs.Common.{◌≡◌, ◌+◌, ◌-◌, suc, length, ◌∙◌, subst, arith}
use Rattle.safl_number_set.specs.Linking.{AreLinkedFrom}
use Rattle.safl_number_set.proofs.LinkedBlocks.{linked_none}
use Rattle.safl_number_set.proofs.links.linked.Goals as goal

pub loop-done-init : goal.loop-done-init
loop-done-init c =
    let G = c.args.group.now in
    let start : length G ≡ length G - 0 = omega arith in
    let heads = c.in_ok-heads.ensures.items_if_clones_equal (λ y e. e) in
    let heads_all : length c.in_ok-heads.heads.items ≡ c.args.count = omega (arith, c.in_ok-heads.heads.ok.0, c.in_ok-heads.ensures.len) in
    let ends_all : length c.in_ok-ends.ends.items ≡ length G = omega (arith, c.in_ok-ends.ends.ok.0, c.in_ok-ends.ensures.len) in
    let nexts_all : length c.in_ok-nexts.nexts.items ≡ length G = omega (arith, c.in_ok-nexts.nexts.ok.0, c.in_ok-nexts.ensures.len) in
    record {
      count = heads_all;
      linked = subst (λ k. AreLinkedFrom k G (record { ends = c.in_ok-ends.ends; heads = c.in_ok-heads.heads; nexts = c.in_ok-nexts.nexts })) start
          (linked_none G (record {
            ends = c.in_ok-ends.ends;
            heads = c.in_ok-heads.heads;
            nexts = c.in_ok-nexts.nexts;
          }) c.args.count heads heads_all ends_all nexts_all);
    }

pub link-requires-clause-linked : goal.link-requires-clause-linked
link-requires-clause-linked c =
    let G = c.args.group.now in
    let e : length G - c.loop-done.done ≡ suc (length G - c.loop-done.done - 1) = omega (arith, c.loop-done-test.true) in
    subst (λ k. AreLinkedFrom k G c.loop-done.links) e c.loop-done.invariant.linked

pub loop-done-preserved : goal.loop-done-preserved
loop-done-preserved c =
    let G = c.args.group.now in
    let e : length G - c.loop-done.done - 1 ≡ length G - (c.loop-done.done + 1) = omega (arith, c.loop-done-test.true) in
    record {
      count = c.link.ensures.count ∙ c.loop-done.invariant.count;
      linked = subst (λ k. AreLinkedFrom k G c.link.new.links) e c.link.ensures.linked;
    }

pub returns-clause-linked : goal.returns-clause-linked
returns-clause-linked c =
    let G = c.args.group.now in
    let e : length G - c.loop-done.done ≡ 0 = omega (arith, c.loop-done-test.false) in
    subst (λ k. AreLinkedFrom k G c.loop-done.links) e c.loop-done.invariant.linked
