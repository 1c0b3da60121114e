use Rattle.std.proofs.Common.{rules}
use Rattle.std.proofs.Output.{has_written_append}
use Rattle.hexadecimal.proofs.Steps.{octet_more}
use Rattle.hexadecimal.proofs.writing.write_octets.Goals as goal

pub loop-octet-preserved : goal.loop-octet-preserved
loop-octet-preserved g c = λ plain.
    let so_far = c.loop-octet.invariant plain in
    (_, has_written_append _ _ _ _ _ _ so_far.1 (search rules), octet_more so_far.0 c.args.octets.now _ _ c.loop-octet-test.true so_far.2)
