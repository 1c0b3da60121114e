-- The figures, computed. Assumes nothing.
use Rattle.std.proofs.Common.{List, [], ◌∷◌, refl}
use Rattle.std.specs.List.{AllByRecursion}
use Rattle.bank.specs.Slots as slots
use Rattle.group.specs.Walk as walk
use Rattle.information.specs.Command as command
use Rattle.worked.specs.Figures.{Figure, Shown}
use Rattle.worked.specs.Figures.Figure.{RequestAll, RequestRefused, TotalReached, UplinkAlone, Answered, Stopped, Overdrawn, Shares, RollingOver, RollingFull}

request_all : Shown RequestAll
unfolding walk.avps command.read_command_group
request_all = refl

request_refused : Shown RequestRefused
unfolding walk.avps command.read_command_group
request_refused = refl

rolling_full : Shown RollingFull
unfolding slots.places
rolling_full = refl

shown : (f : Figure) → Shown f
shown RequestAll = request_all
shown RequestRefused = request_refused
shown TotalReached = (refl, refl)
shown UplinkAlone = (refl, refl)
shown Answered = (refl, refl)
shown Stopped = (refl, refl)
shown Overdrawn = (refl, refl)
shown Shares = (refl, refl)
shown RollingOver = (refl, refl)
shown RollingFull = rolling_full

pub all_shown : (fs : List Figure) → AllByRecursion Shown fs
all_shown [] = tt
all_shown (f ∷ fs) = (shown f, all_shown fs)
