use Rattle.usage.proofs.theorems.balanced.Goals as goal
use Rattle.usage.proofs.Runs as runs

-- src/theorems.rt:7:1
pub returns : goal.returns
returns c = runs.balanced
