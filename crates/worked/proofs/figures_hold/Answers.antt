use Rattle.worked.proofs.figures_hold.Goals as goal
use Rattle.worked.specs.Figures.{figures}
use Rattle.worked.proofs.Figures.{all_shown}

-- src/lib.rt:6:1
pub returns : goal.returns
returns c = all_shown figures
