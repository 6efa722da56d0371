-- What a runner holds.
use Rattle.std.specs.Prelude.{◌≡◌, ℕ, ◌<◌, List, length, Some, codes}
use Rattle.safl_net.specs.Netlist.{Netlist, output_place, width_of}
use Rattle.safl_net.specs.Rules.{IsNetlist}
use Rattle.safl_net.specs.Whole.{IsWhole}
use Rattle.safl_run.specs.declared.harness.Harness.{Harness}
use Rattle.safl_run.specs.Rooms.{IsRoom}

-- the net, and the state of its registers by the numbers of signals
pub record Running : Type 0 where
  pub net : Netlist
  pub state : List ℕ

-- the net is whole, there is room for the words of its inputs, and the harness has the signals of `done` and `result`
pub record IsHarness (n : Netlist) (h : Harness) : Type 0 where
  pub made : IsNetlist n
  pub whole : IsWhole n
  pub is_room : IsRoom n h.room
  pub shows_done : Some h.done.0 ≡ output_place n.outputs (codes "done")
  pub done_known : h.done.0 < length n.signals
  pub done_bit : width_of n h.done.0 ≡ 1
  pub shows_result : Some h.result.0 ≡ output_place n.outputs (codes "result")
  pub result_known : h.result.0 < length n.signals
