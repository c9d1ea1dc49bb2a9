-- Each answer and each part is that of a line of case 9. Assumes nothing.
use Rattle.std.proofs.Common.{◌+◌}
use Rattle.demo_expected.specs.Said.{at9, window_told, line}
use Rattle.demo_expected.proofs.case_9.Goals as goal

pub expect_window-requires : goal.expect_window-requires
expect_window-requires c =
    window_told (line (at9 + 4)) (line (at9 + 5)) _ c.beacon_of_case_1.ensures.words

pub expect_window-requires-2 : goal.expect_window-requires-2
expect_window-requires-2 c =
    window_told (line (at9 + 4)) (line (at9 + 6)) _ c.beacon_of_case_1.ensures.words

pub expect_window-requires-3 : goal.expect_window-requires-3
expect_window-requires-3 c =
    window_told (line (at9 + 4)) (line (at9 + 7)) _ c.beacon_of_case_1.ensures.words
