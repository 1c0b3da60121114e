use Rattle.std.proofs.Common.{◌≡◌, length, rules, arith}
use Rattle.wire.specs.Octets.{granted_data}
use Rattle.wire.specs.Lengths.{answer_length, granted_length}
use Rattle.wire.proofs.answer.AnswerGroupData.size.Goals as goal

pub returns : goal.returns
returns c =
    let granted : c.map_or.result ≡ length (granted_data c.args.self.now.granted) = search (rules, granted_length) in
    omega (arith, answer_length c.args.self.now, c.key_size.ensures.value)
