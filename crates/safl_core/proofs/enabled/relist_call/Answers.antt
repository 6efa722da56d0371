use Rattle.safl_core.proofs.Common.{List, Option, Word, ap, arith, calls_of, can, is_idle, is_some, not, stage_at, wanted_at, ◌&&◌, ◌∙◌}
use Rattle.safl_calls.specs.Machine.{Finish, Return, LoopInto, asked, is_unsent}
use Rattle.safl_evaluate.specs.declared.stage.Stage.{Stage}
use Rattle.safl_core.proofs.SetsPutRight.{rights_same, rights_is, rights_put}
use Rattle.safl_core.proofs.LawsOfKept.{waits_test}
use Rattle.safl_core.proofs.enabled.relist_call.Goals as goal

pub put-requires : goal.put-requires
put-requires c = omega (arith, c.requires.site, c.requires.places.called.long)

pub returns : goal.returns
returns c =
    let C = c.args.c.now.program in
    let args = c.args.opening.now in
    let s = c.args.state.now in
    let e = c.args.enabled.now in
    let k = c.args.k in
    let h = c.requires.kept.1 in
    let waits = c.waits-waits.ensures
    ∙ (ap (λ (x : List Stage). is_unsent (stage_at x k) && wanted_at c.deref-2.result.now k) c.deref.ensures.value
    ∙ (ap (λ (x : List (Option (List Word))). is_unsent (stage_at s.stages.items k) && wanted_at x k) c.deref-2.ensures.value
    ∙ waits_test h k c.requires.site)) in
    record {
      called = ap (λ a. a.group) c.put.ensures;
      waits = rights_put (λ j. is_some (asked C args (calls_of s) j)) e.accepts.within c.put.new.self.within k c.waits-waits.result
          (ap (λ a. a.within) c.put.ensures) waits;
      idle = rights_is (λ v. is_idle ((calls_of s).unit v)) e.accepts.opened c.put.new.self.opened (ap (λ a. a.opened) c.put.ensures);
      finishes = rights_same (λ f. can C args (calls_of s) (Finish f)) e.finishes;
      returns = rights_same (λ j. can C args (calls_of s) (Return j)) e.returns;
      loops = rights_same (λ n. can C args (calls_of s) (LoopInto n)) e.loops;
      busy = rights_same (λ v. not (is_idle ((calls_of s).unit v))) e.busy;
    }
