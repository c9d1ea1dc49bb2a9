-- The laws by which a plain loop over intervals computes looking ahead: over a table, steps A, B and F in turn, until nothing is held.
-- Each turn leaves the table tidy and the longest life one shorter; looking ahead says no where the turn misses, and otherwise what it
-- says after the turn. Assumes nothing.
use Rattle.std.specs.Prelude.{[]}
use Rattle.spec_model.specs.declared.Table.{Table}
use Rattle.spec_model.specs.Tables.{held_of}
use Rattle.spec_rules.specs.Share.{step_b}
use Rattle.law_ahead.specs.Tables.{stepped}

-- the table one interval on, as looking ahead has it: without extras
abbrev pub looked_past : Table → Table
looked_past t = stepped (step_b t.frame (held_of t)) [] t
