use Rattle.safl_lower.proofs.Common.{length, refl, slice_get_read, ◌+◌}
use Rattle.safl_lower.specs.Rows.{load_joins}
use Rattle.safl_lower.proofs.JoinedRows.{row_pushed, total_pushed, loads_longer}
use Rattle.safl_lower.proofs.rows.push_load.Goals as goal

pub returns-clause-rows : goal.returns-clause-rows
returns-clause-rows c = λ i.
    let at = slice_get_read c.args.rows.now.items (length c.args.rows.now.items) c.args.place c.index_mut.result.now refl c.requires.place c.index_mut.ensures.value in
    row_pushed c.args.rows.now.items c.args.place i c.index_mut.result.now c.push.new.self c.args.load c.requires.place at c.in_ok-push.ensures.items

pub returns-clause-gates : goal.returns-clause-gates
returns-clause-gates c =
    let at = slice_get_read c.args.rows.now.items (length c.args.rows.now.items) c.args.place c.index_mut.result.now refl c.requires.place c.index_mut.ensures.value in
    total_pushed load_joins c.args.rows.now.items c.args.place c.index_mut.result.now c.push.new.self c.args.load (1 + length c.args.load.words.items)
    at c.in_ok-push.ensures.items (λ l. loads_longer l c.args.load)
