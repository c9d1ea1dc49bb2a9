use Rattle.std.proofs.Common.{◌≡◌, ◌∙◌, fold, min, rules}
use Rattle.ahead_figures.specs.Figures.{never}
use Rattle.ahead_next.specs.EndLaws.{first_fold}
use Rattle.ahead_next.proofs.next_end.Goals as goal

pub returns : goal.returns
returns c =
    let folded : c.fold.result ≡ fold (λ n f. min n f.end.0) never c.args.figures.now = search rules in
    folded ∙ first_fold c.args.figures.now
