use Rattle.call_held.specs.Held.{some_held, none_held}
use Rattle.call_held.proofs.enquire.Goals as goal

pub returns-in-Some : goal.returns-in-Some
returns-in-Some c = let h = (some_held c.args.t c.requires c.args.name c.place_of.ensures c.in-Some.is).1 in (h.0, h.1.1 _)

pub returns-in-None : goal.returns-in-None
returns-in-None c = let h = none_held c.args.t c.requires c.args.name c.place_of.ensures c.in-None.is in (h.0, h.1.1.1)
