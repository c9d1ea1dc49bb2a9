-- Looking ahead says yes exactly where the entries fit: kind 1 passes the header test, and they can be served in time. Kind 1 entries only
-- leave, so where the test passes in the first interval it passes in all: looking ahead is that one test, and looking ahead without it.
-- Assumes nothing.
use Rattle.std.specs.Prelude.{◌≡◌, true, List}
use Rattle.spec_model.specs.Entries.{asks}
use Rattle.spec_model.specs.declared.Frame.{Frame}
use Rattle.spec_model.specs.declared.Entry.{Entry}
use Rattle.spec_rules.specs.Header.{header_test}
use Rattle.law_ahead.specs.Timely.{Timely}

-- ---- the entries fit
pub record Fits (F : Frame) (es : List Entry) : Type 0 where
  pub test : header_test F asks es ≡ true
  pub timely : Timely F es
