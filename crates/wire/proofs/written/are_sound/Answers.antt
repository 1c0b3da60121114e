use Rattle.std.proofs.Common.{rules}
use Rattle.std.proofs.iter.runs.Made.{chains}
use Rattle.wire.proofs.Checks.{every_by}
use Rattle.wire.proofs.written.are_sound.Goals as goal

pub returns : goal.returns
returns g c = every_by g.V.Written.sound c.args.groups.now c.all.result (search (rules, chains))
