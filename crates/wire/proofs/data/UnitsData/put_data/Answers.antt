use Rattle.std.proofs.Common.{sym, ap}
use Rattle.draft.proofs.Puts.{put_same, put_then}
use Rattle.wire.specs.Octets.{units_data}
use Rattle.wire.proofs.data.UnitsData.put_data.Goals as goal

pub returns-in_ok-put_octets-in-Both : goal.returns-in_ok-put_octets-in-Both
returns-in_ok-put_octets-in-Both c = put_same (ap units_data (sym c.in-Both.is)) (put_then c.in_ok-put_octets-in-Both.ensures c.put_octets-in-Both-2.ensures)
