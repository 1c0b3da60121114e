use Rattle.std.proofs.Common.{◌∙◌}
use Rattle.words.proofs.Digits.{value_stops, value_goes, value_ends}
use Rattle.words.proofs.numbers.value.Goals as goal

pub returns-in_err-number : goal.returns-in_err-number
returns-in_err-number c =
    c.from_residual.ensures ∙ value_stops c.args.digits.now _ _ _ c.loop-character-test.true c.in_err-number.ensures c.loop-character.invariant

pub loop-character-preserved : goal.loop-character-preserved
loop-character-preserved c = value_goes c.args.digits.now _ _ _ _ c.loop-character-test.true c.in_ok-number.ensures c.loop-character.invariant

pub returns : goal.returns
returns c = value_ends c.args.digits.now _ _ _ c.loop-character-test.false c.loop-character.invariant
