use mathlib.Core.Path.{◌∙◌}
use Rattle.call_held.specs.Held.{some_held, none_held}
use Rattle.gelmush.proofs.gelmush_enquire.Goals as goal

pub returns-in-Some : goal.returns-in-Some
returns-in-Some c = let h = (some_held _ c.requires _ c.place_of.ensures c.in-Some.is).1 in (h.0, h.1.1 _)

pub returns-in-None : goal.returns-in-None
returns-in-None c =
    let h = none_held _ c.requires _ c.place_of.ensures c.in-None.is in
    (c.number.ensures ∙ h.0, c.free_entry.ensures ∙ h.1.1.1)
