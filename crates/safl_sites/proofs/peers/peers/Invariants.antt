use Rattle.safl_sites.specs.Peers.{ArePeers}
use Rattle.safl_sites.proofs.peers.peers.Given as goal

abbrev pub invariant-loop-done : goal.invariant-loop-done
invariant-loop-done l = ArePeers l.c.program l.done l.peers.items
