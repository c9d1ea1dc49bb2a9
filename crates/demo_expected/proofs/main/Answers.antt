-- The memory of case 10 is made of one word. Assumes nothing.
use Rattle.std.proofs.lemmas.List.{get_or-replicate}
use Rattle.spec_rules.specs.Records.{plan_words}
use Rattle.demo_expected.proofs.main.Goals as goal

pub case_10-requires-clause-each : goal.case_10-requires-clause-each
case_10-requires-clause-each c = λ i h. get_or-replicate plan_words i 77777 0 h
