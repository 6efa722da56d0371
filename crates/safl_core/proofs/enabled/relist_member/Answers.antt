use Rattle.safl_core.proofs.Common.{Answer, Finish, List, LoopInto, NotYet, Return, ap, asked, calls_of, can, get_or, is_idle, is_ready}
use Rattle.safl_core.proofs.Common.{is_some, loops_to, not, refl, runs, unit_at, ◌&&◌, ◌∙◌}
use Rattle.safl_core.specs.declared.mode.Mode.{Mode}
use Rattle.safl_core.proofs.SetsPutRight.{rights_same, rights_put}
use Rattle.safl_core.proofs.LawsOfKept.{finish_test, loop_test}
use Rattle.safl_core.proofs.enabled.relist_member.Goals as goal

pub returns : goal.returns
returns c =
    let C = c.args.c.now.program in
    let args = c.args.opening.now in
    let s = c.args.state.now in
    let e = c.args.enabled.now in
    let f = c.args.f in
    let u = c.unit-unit.result in
    let h = c.requires.kept.1 in
    let finishes = c.finishes.ensures
    ∙ (ap (λ (x : List Mode). runs (unit_at x u) f && is_ready (get_or c.deref-2.result.now u NotYet)) c.deref.ensures.value
    ∙ ap (λ (x : List Answer). runs (unit_at s.modes.items u) f && is_ready (get_or x u NotYet)) c.deref-2.ensures.value) in
    let loops = c.loops.ensures ∙ ap (λ (x : List Answer). loops_to (get_or x u NotYet) f) c.deref-3.ensures.value in
    record {
      called = refl;
      waits = rights_same (λ j. is_some (asked C args (calls_of s) j)) e.accepts.within;
      idle = rights_same (λ v. is_idle ((calls_of s).unit v)) e.accepts.opened;
      finishes = rights_put (λ g. can C args (calls_of s) (Finish g)) e.finishes c.put.new.self f c.finishes.result c.put.ensures
          (finish_test h f u c.finishes.result c.unit-unit.ensures.number finishes);
      returns = rights_same (λ j. can C args (calls_of s) (Return j)) e.returns;
      loops = rights_put (λ g. can C args (calls_of s) (LoopInto g)) e.loops c.put-2.new.self f c.loops.result c.put-2.ensures (loop_test h f u c.loops.result c.unit-unit.ensures.number loops);
      busy = rights_same (λ v. not (is_idle ((calls_of s).unit v))) e.busy;
    }
