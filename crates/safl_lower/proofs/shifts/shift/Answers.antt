use Rattle.std.proofs.Common.{[], ◌∷◌, slice_index_or, arith}
use Rattle.safl_lower.proofs.Shifting.{operands, two_there, cell_width, shift_value, shifts_it}
use Rattle.safl_lower.proofs.shifts.shift.Goals as goal
use Rattle.safl_lower.proofs.Building.{source_grown, builds_on}
use Rattle.safl_lower.proofs.Cells.{two_sources}

pub bounds-operands-1 : goal.bounds-operands-1
bounds-operands-1 c =
    let q = c.requires.sized in
    two_there (operands c.args.net.now c.args.primitive c.args.operands.now q.0 (record { 0 = 0 }) q.1 c.requires.kind q.2 q.3)

pub cut_down-requires-clause-sized : goal.cut_down-requires-clause-sized
cut_down-requires-clause-sized c =
    let q = c.requires.sized in
    let o = operands c.args.net.now c.args.primitive c.args.operands.now q.0 (record { 0 = 0 }) q.1 c.requires.kind q.2 q.3 in
    (o.amount_width, o.amount, o.some, o.most)

pub operate-requires-clause-operands : goal.operate-requires-clause-operands
operate-requires-clause-operands c =
    let q = c.requires.sized in
    let o = operands c.args.net.now c.args.primitive c.args.operands.now q.0 (record { 0 = 0 }) q.1 c.requires.kind q.2 q.3 in
    let a = c.in_ok-amount.ensures.narrow in
    let narrow = a.narrow in (
      q.1 ∷ a.width ∷ [],
      q.1,
      two_sources (source_grown c.cut_down.ensures.built.grows (slice_index_or c.args.operands.now 0 (record { 0 = 0 })) q.1
          o.word) a.source,
      cell_width c.args.primitive c.requires.kind q.1 a.width o.wide a.some (omega (arith, narrow)),
    )

pub returns-clause-built : goal.returns-clause-built
returns-clause-built c = builds_on c.cut_down.ensures.built c.operate.ensures.built

pub returns-clause-word : goal.returns-clause-word
returns-clause-word c = record {
  fits = λ ws w p e.
      let o = operands c.args.net.now c.args.primitive c.args.operands.now ws (record { 0 = 0 }) w c.requires.kind p e in
      let a = c.in_ok-amount.ensures.narrow in
      let narrow = a.narrow in
      c.operate.ensures.word.fits (w ∷ a.width ∷ []) w (two_sources (source_grown c.cut_down.ensures.built.grows
      (slice_index_or c.args.operands.now 0 (record { 0 = 0 })) w o.word) a.source)
      (cell_width c.args.primitive c.requires.kind w a.width o.wide a.some (omega (arith, narrow)));
  value =
      let q = c.requires.sized in
      let o = operands c.args.net.now c.args.primitive c.args.operands.now q.0 (record { 0 = 0 }) q.1 c.requires.kind q.2 q.3 in
      shift_value c.args.net.now c.cut_down.new.net c.operate.new.net c.operate.result c.args.primitive c.args.operands.now (record { 0 = 0 })
      c.in_ok-amount.amount q.1 c.requires.kind o c.cut_down.ensures.built.grows c.operate.ensures.built.grows c.in_ok-amount.ensures.value c.operate.ensures.word.value;
}

pub returns-clause-narrow : goal.returns-clause-narrow
returns-clause-narrow c = shifts_it c.cut_down.new.net c.operate.new.net c.operate.result (slice_index_or c.args.operands.now 0 (record { 0 = 0 }))
    c.in_ok-amount.amount c.operate.ensures.built.grows c.in_ok-amount.ensures.narrow c.operate.ensures.gate
