use Rattle.safl_tool.proofs.Common.{Option, SinkState, map, string_bytes, world}
use Rattle.safl_command.specs.Commands.{Command, command_of}
use Rattle.safl_tool.proofs.Followed.{follows}
use Rattle.safl_tool.proofs.Promised.{builds, checks, simulates, converses, converts}
use Rattle.safl_tool.proofs.top.run.Goals as goal

pub returns-clause-headline : goal.returns-clause-headline
returns-clause-headline g c = λ input output say ok.
    builds (map string_bytes c.args.words.now)
    (world (g.S.Shelf.told c.args.shelf.now) (g.O.Sink.told c.args.out.now) (λ p. (goal.Probe-dyn g (p.vtable, p.value)).state p.value)
    c.args.probes.now.items)
    (world (g.S.Shelf.told c.dispatch.new.shelf) (g.O.Sink.told c.dispatch.new.out) (λ p. (goal.Probe-dyn g (p.vtable, p.value)).state p.value)
    c.dispatch.new.probes.items)
    (g.E.Sink.told c.args.err.now) (g.E.Sink.told c.dispatch.new.err) c.dispatch.result c.dispatch.ensures.ends ok input output say

pub returns-clause-check : goal.returns-clause-check
returns-clause-check g c = λ input say ok.
    checks (map string_bytes c.args.words.now)
    (world (g.S.Shelf.told c.args.shelf.now) (g.O.Sink.told c.args.out.now) (λ p. (goal.Probe-dyn g (p.vtable, p.value)).state p.value)
    c.args.probes.now.items)
    (world (g.S.Shelf.told c.dispatch.new.shelf) (g.O.Sink.told c.dispatch.new.out) (λ p. (goal.Probe-dyn g (p.vtable, p.value)).state p.value)
    c.dispatch.new.probes.items)
    (g.E.Sink.told c.args.err.now) (g.E.Sink.told c.dispatch.new.err) c.dispatch.result c.dispatch.ensures.ends ok input say

pub returns-clause-sim : goal.returns-clause-sim
returns-clause-sim g c = λ input limit traces args say ok.
    simulates (map string_bytes c.args.words.now)
    (world (g.S.Shelf.told c.args.shelf.now) (g.O.Sink.told c.args.out.now) (λ p. (goal.Probe-dyn g (p.vtable, p.value)).state p.value)
    c.args.probes.now.items)
    (world (g.S.Shelf.told c.dispatch.new.shelf) (g.O.Sink.told c.dispatch.new.out) (λ p. (goal.Probe-dyn g (p.vtable, p.value)).state p.value)
    c.dispatch.new.probes.items)
    (g.E.Sink.told c.args.err.now) (g.E.Sink.told c.dispatch.new.err) c.dispatch.result c.dispatch.ensures.ends ok input limit traces args say

pub returns-clause-session : goal.returns-clause-session
returns-clause-session g c = λ input script limit say ok.
    converses (map string_bytes c.args.words.now)
    (world (g.S.Shelf.told c.args.shelf.now) (g.O.Sink.told c.args.out.now) (λ p. (goal.Probe-dyn g (p.vtable, p.value)).state p.value)
    c.args.probes.now.items)
    (world (g.S.Shelf.told c.dispatch.new.shelf) (g.O.Sink.told c.dispatch.new.out) (λ p. (goal.Probe-dyn g (p.vtable, p.value)).state p.value)
    c.dispatch.new.probes.items)
    (g.E.Sink.told c.args.err.now) (g.E.Sink.told c.dispatch.new.err) c.dispatch.result c.dispatch.ensures.ends ok input script limit say

pub returns-clause-aig : goal.returns-clause-aig
returns-clause-aig g c = λ input output say ok.
    converts (map string_bytes c.args.words.now)
    (world (g.S.Shelf.told c.args.shelf.now) (g.O.Sink.told c.args.out.now) (λ p. (goal.Probe-dyn g (p.vtable, p.value)).state p.value)
    c.args.probes.now.items)
    (world (g.S.Shelf.told c.dispatch.new.shelf) (g.O.Sink.told c.dispatch.new.out) (λ p. (goal.Probe-dyn g (p.vtable, p.value)).state p.value)
    c.dispatch.new.probes.items)
    (g.E.Sink.told c.args.err.now) (g.E.Sink.told c.dispatch.new.err) c.dispatch.result c.dispatch.ensures.ends ok input output say

pub returns-clause-follows : goal.returns-clause-follows
returns-clause-follows g c =
    let m : Option Command = command_of (map string_bytes c.args.words.now) in
    let before : SinkState = g.E.Sink.told c.args.err.now in
    let after : SinkState = g.E.Sink.told c.dispatch.new.err in
    follows
    (record {
      once = c.one_program_law.ensures;
      apart = c.not_both_law.ensures;
      one = c.one_netlist_law.ensures;
      free = c.not_both_law-2.ensures;
      trees = c.one_program_law-2.ensures;
      sound = c.no_fault_law.ensures;
      replies = c.session_law.ensures.replies;
      reset =
          c.session_law.ensures.reset;
      script = c.script_law.ensures.script;
      misread = c.script_law.ensures.not_both;
    })
    m (world (g.S.Shelf.told c.args.shelf.now) (g.O.Sink.told c.args.out.now) (λ p. (goal.Probe-dyn g (p.vtable, p.value)).state p.value)
    c.args.probes.now.items) (world (g.S.Shelf.told c.dispatch.new.shelf) (g.O.Sink.told c.dispatch.new.out)
    (λ p. (goal.Probe-dyn g (p.vtable, p.value)).state p.value) c.dispatch.new.probes.items)
    before after c.dispatch.result c.dispatch.ensures.ends c.dispatch.ensures.spares c.dispatch.ensures.attended
