use Rattle.safl_lower.proofs.Common.{length, refl, slice_get_read}
use Rattle.safl_lower.proofs.KnownLoads.{bits_kept}
use Rattle.safl_lower.proofs.Joining.{bits_set, bits_set_fit}
use Rattle.safl_lower.proofs.loads.add_bit.Goals as goal

pub returns-clause-shows : goal.returns-clause-shows
returns-clause-shows c = λ v w i.
    let e = slice_get_read c.args.bits.now.items (length c.args.bits.now.items) c.args.place c.index.result.now refl c.requires.place c.index.ensures in
    bits_set v c.args.bits.now.items c.args.place i c.index.result.now c.in_ok-joined.joined c.args.bit c.requires.place e (c.in_ok-joined.ensures.value v w)

pub returns-clause-fits : goal.returns-clause-fits
returns-clause-fits c =
    bits_set_fit c.or_some.new.net c.args.bits.now.items c.args.place c.in_ok-joined.joined c.requires.place
    (bits_kept c.or_some.ensures.built c.args.bits.now.items c.requires.fits) c.in_ok-joined.ensures.fits
