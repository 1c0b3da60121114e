use Rattle.std.proofs.Common.{rules}
use Rattle.std.proofs.Output.{has_written_append, has_written_of_eq}
use Rattle.hexadecimal.proofs.Steps.{four_more}
use Rattle.hexadecimal.proofs.writing.HexDisplay.fmt.Goals as goal

pub loop-octets-preserved : goal.loop-octets-preserved
loop-octets-preserved g c = λ plain.
    let so_far = c.loop-octets.invariant plain in
    (_, has_written_append _ _ _ _ _ _ so_far.1 (search rules), four_more so_far.0 c.loop-octets.octets.now _ c.in-len4-up.len_at_least so_far.2)

pub returns-clause-writes : goal.returns-clause-writes
returns-clause-writes g c = λ plain ok.
    let so_far = c.loop-octets.invariant plain in
    has_written_of_eq _ _ _ _ _ so_far.2 (has_written_append _ _ _ _ _ _ so_far.1 (search rules))
