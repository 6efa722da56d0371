-- What one site shows.
use Rattle.std.specs.Prelude.{◌≡◌, Bool, ◌&&◌, ◌||◌, not, cond}
use Rattle.safl_net.specs.Growth.{Val}
use Rattle.safl_net.specs.Bits.{on}
use Rattle.safl_unit.specs.declared.pins.UnitPins.{UnitPins}
use Rattle.safl_unit.specs.declared.pins.SitePins.{SitePins}
use Rattle.safl_unit.specs.declared.returns.SiteReturn.{SiteReturn}

-- A site is delivered to if its unit has finished and it was sent and has not got its word. It has returned if it has got its
-- word or is delivered to. It shows the word of its unit, or the kept word if it is kept and not delivered to.
pub record SiteShown (v : Val) (kept : Bool) (u : UnitPins) (s : SitePins) (r : SiteReturn) : Type 0 where
  pub ret : on v r.ret ≡ (on v u.fin && (on v s.sent && not (on v s.got)))
  pub sent : on v r.ports.sent ≡ on v s.sent
  pub returned : on v r.ports.returned ≡ (on v s.got || on v r.ret)
  pub value : v r.ports.value.0 ≡ cond (kept && not (on v r.ret)) (v s.keep.0) (v u.res.0)
