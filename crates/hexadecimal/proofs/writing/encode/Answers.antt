use Rattle.std.proofs.Common.{arith}
use Rattle.hexadecimal.proofs.Trip.{read_back}
use Rattle.hexadecimal.proofs.writing.encode.Goals as goal

pub returns-clause-reads_back : goal.returns-clause-reads_back
returns-clause-reads_back c = read_back c.args.octets.now (λ k. omega (arith, c.type_inv.octets k))
