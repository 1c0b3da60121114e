use Rattle.std.proofs.Common.{length, ap, arith}
use Rattle.wire.specs.Lengths.{key_length}
use Rattle.wire.proofs.parts.key_size.Goals as goal

pub returns-clause-value : goal.returns-clause-value
returns-clause-value c = omega (arith, ap length c.octets.ensures.value, key_length c.args.key.now)
