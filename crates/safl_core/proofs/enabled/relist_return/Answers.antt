use Rattle.safl_core.proofs.Common.{Finish, List, LoopInto, Nothing, Relists, Return, ap, arith, asked, calls_of, can, delivers_to, is_idle}
use Rattle.safl_core.proofs.Common.{is_sent, is_some, not, refl, stage_at, sym, unit_at, unit_for, ◌&&◌, ◌∙◌, ◌≡◌}
use Rattle.safl_core.specs.declared.mode.Mode.{Mode}
use Rattle.safl_evaluate.specs.declared.stage.Stage.{Stage}
use Rattle.safl_core.proofs.SetsPutRight.{rights_same, rights_put, relists_by, relists_none, some_is, none_is}
use Rattle.safl_core.proofs.LawsOfKept.{return_test}
use Rattle.safl_core.proofs.enabled.relist_return.Goals as goal

pub returns-in_default : goal.returns-in_default
returns-in_default c =
    relists_by c.requires.places
    (λ j lt q. q)
    (λ j lt q. absurd (none_is c.args.site j c.in_default.is q))
    (λ g lt q. q)
    (λ v lt q. q)
    (relists_none c.args.enabled.now)

pub returns-then-k-sites : goal.returns-then-k-sites
returns-then-k-sites c =
    relists_by c.requires.places
    (λ j lt q. q)
    (λ j lt q. absurd (omega (arith, lt, some_is c.args.site c.in-Some.k j c.in-Some.is q, c.if-k-sites.true, c.sites.ensures.count)))
    (λ g lt q. q)
    (λ v lt q. q)
    (relists_none c.args.enabled.now)

pub returns : goal.returns
returns c =
    let C = c.args.c.now.program in
    let args = c.args.opening.now in
    let s = c.args.state.now in
    let e = c.args.enabled.now in
    let k = c.in-Some.k in
    let h = c.requires.kept.1 in
    let returns = c.returns-returns.ensures
    ∙ (ap (λ (x : List Mode). is_sent (stage_at c.deref-2.result.now k) && delivers_to (unit_at x (unit_for C k)) k) c.deref.ensures.value
    ∙ ap (λ (x : List Stage). is_sent (stage_at x k) && delivers_to (unit_at s.modes.items (unit_for C k)) k) c.deref-2.ensures.value) in
    let at : Relists C args (calls_of s) Nothing (λ j. j ≡ k) Nothing Nothing e (record e { returns = c.put.new.self }) = record {
      called = refl;
      waits = rights_same (λ j. is_some (asked C args (calls_of s) j)) e.accepts.within;
      idle = rights_same (λ v. is_idle ((calls_of s).unit v)) e.accepts.opened;
      finishes = rights_same (λ f. can C args (calls_of s) (Finish f)) e.finishes;
      returns = rights_put (λ j. can C args (calls_of s) (Return j)) e.returns c.put.new.self k c.returns-returns.result c.put.ensures (return_test h k c.returns-returns.result returns);
      loops = rights_same (λ n. can C args (calls_of s) (LoopInto n)) e.loops;
      busy = rights_same (λ v. not (is_idle ((calls_of s).unit v))) e.busy;
    } in
    relists_by c.requires.places
    (λ j lt q. q)
    (λ j lt q. sym (some_is c.args.site k j c.in-Some.is q))
    (λ g lt q. q)
    (λ v lt q. q)
    at
