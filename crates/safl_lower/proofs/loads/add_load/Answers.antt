use Rattle.safl_lower.proofs.Common.{length, refl, slice_get_read, words}
use Rattle.safl_lower.proofs.KnownLoads.{some_kept}
use Rattle.safl_lower.proofs.Joining.{loads_set, loads_set_fit, load_at}
use Rattle.safl_lower.proofs.loads.add_load.Goals as goal

pub returns-clause-fits : goal.returns-clause-fits
returns-clause-fits c = λ ws h q.
    let e = slice_get_read c.args.loads.now.items (length c.args.loads.now.items) c.args.place c.index.result.now refl c.requires.place c.index.ensures in
    loads_set_fit c.joined.new.net c.args.loads.now.items c.args.place c.in_ok-joined.joined ws c.requires.place (some_kept c.joined.ensures.built c.args.loads.now.items ws h)
    (c.in_ok-joined.ensures.fits (ws c.args.place) (load_at c.args.net.now c.args.loads.now.items c.args.place c.index.result.now (ws c.args.place) e (h c.args.place)) q)

pub returns-clause-shows : goal.returns-clause-shows
returns-clause-shows c = λ v w i.
    let e = slice_get_read c.args.loads.now.items (length c.args.loads.now.items) c.args.place c.index.result.now refl c.requires.place c.index.ensures in
    loads_set v c.args.loads.now.items c.args.place i c.index.result.now c.in_ok-joined.joined c.args.bit (words v c.args.operands.now) c.requires.place e (c.in_ok-joined.ensures.shows v w)
