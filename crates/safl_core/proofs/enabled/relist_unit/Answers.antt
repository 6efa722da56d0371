use Rattle.safl_core.proofs.Common.{Finish, List, LoopInto, Return, ap, arith, asked, calls_of, can, is_idle, is_some, not, unit_at, ◌∙◌}
use Rattle.safl_core.specs.declared.mode.Mode.{Mode}
use Rattle.safl_core.proofs.SetsPutRight.{rights_same, rights_is, rights_put}
use Rattle.safl_core.proofs.enabled.relist_unit.Goals as goal

pub turn-requires : goal.turn-requires
turn-requires c = omega (arith, c.requires.unit, c.requires.places.idle)

pub returns : goal.returns
returns c =
    let C = c.args.c.now.program in
    let args = c.args.opening.now in
    let s = c.args.state.now in
    let e = c.args.enabled.now in
    let u = c.args.u in
    let idle = c.is_idle-idle.ensures ∙ ap (λ (x : List Mode). is_idle (unit_at x u)) c.deref.ensures.value in
    record {
      called = ap (λ a. a.group) c.turn.ensures;
      waits = rights_is (λ j. is_some (asked C args (calls_of s) j)) e.accepts.within c.turn.new.self.within (ap (λ a. a.within) c.turn.ensures);
      idle = rights_put (λ v. is_idle ((calls_of s).unit v)) e.accepts.opened c.turn.new.self.opened u c.is_idle-idle.result (ap (λ a. a.opened) c.turn.ensures) idle;
      finishes = rights_same (λ f. can C args (calls_of s) (Finish f)) e.finishes;
      returns = rights_same (λ j. can C args (calls_of s) (Return j)) e.returns;
      loops = rights_same (λ n. can C args (calls_of s) (LoopInto n)) e.loops;
      busy = rights_put (λ v. not (is_idle ((calls_of s).unit v))) e.busy c.put.new.self u (not c.is_idle-idle.result) c.put.ensures (ap not idle);
    }
