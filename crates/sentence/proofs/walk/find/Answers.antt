use Rattle.std.proofs.Common.{sym}
use Rattle.sentence.proofs.Nearer.{body_shorter, rest_shorter}
use Rattle.sentence.proofs.walk.find.Goals as goal

pub loop-avp-smaller-then-place-end : goal.loop-avp-smaller-then-place-end
loop-avp-smaller-then-place-end c = body_shorter _ _ _ (sym c.in-Ok.ensures)

pub loop-avp-smaller : goal.loop-avp-smaller
loop-avp-smaller c = rest_shorter _ _ _ (sym c.in-Ok.ensures)
