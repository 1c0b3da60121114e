use Rattle.std.proofs.Common.{rules}
use Rattle.std.proofs.iter.runs.Made.{chains}
use Rattle.wire.proofs.Checks.{distinct_by}
use Rattle.wire.proofs.written.are_distinct.Goals as goal

pub returns : goal.returns
returns g c = distinct_by g.V.Entry.keyed c.args.groups.now c.all.result (search (rules, chains))
