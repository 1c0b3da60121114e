use Rattle.std.proofs.Common.{◌-◌, length, arith}
use Rattle.draft.proofs.Bytes.{zeros}
use Rattle.draft.proofs.Puts.{put_same, put_then}
use Rattle.draft.proofs.draft.Draft.put_avp.Goals as goal

pub returns : goal.returns
returns c = put_then c.in_ok-put_header.ensures (put_then c.in_ok-put.ensures (put_same (zeros (length c.args.octets.now) (c.next_multiple_of.result - length c.args.octets.now) (omega arith) (omega arith)) c.put-2.ensures))
