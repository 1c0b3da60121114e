use Rattle.std.proofs.Common.{◌<◌, vec_items, ap, ◌∙◌, inr, arith}
use Rattle.hexadecimal.proofs.Steps.{space, bad, first_again, second_again, ended, half}
use Rattle.hexadecimal.proofs.reading.decode.Goals as goal
use Rattle.hexadecimal.proofs.reading.decode.Goals.{in-None, in-Some-high+in_ok-push-in-Some-high}

pub loop-place-preserved-then-character-eq32 : goal.loop-place-preserved-then-character-eq32
loop-place-preserved-then-character-eq32 c =
    (space _ _ c.args.text.now _ _ c.loop-place-test.true c.if-character-eq32.true c.loop-place.invariant.0, c.loop-place.invariant.1)

pub returns-in_default : goal.returns-in_default
returns-in_default c =
    record {
      octets = inr (bad _ _ c.args.text.now _ _ c.loop-place-test.true c.if-character-eq32.false c.in_default.ensures.value c.loop-place.invariant.0);
      within = c.loop-place-test.true;
    }

pub overflow_add-first : goal.overflow_add-first
overflow_add-first c =
    let high : c.in-Some-high.first < 16 = rw c.in-Some-high.is at c.loop-place.invariant.1 in
    let low : c.in-Some.digit < 16 = c.in-Some.ensures.small in
    omega arith

pub loop-place-preserved : goal.loop-place-preserved
loop-place-preserved c =
    elim c.match-high.branch [
      | in-None w ↦
          first_again _ _ _ _ c.args.text.now _ _ c.loop-place-test.true c.if-character-eq32.false c.in-Some.ensures.value c.in-Some.ensures.small
          (ap vec_items w.octets-is) w.in-None.is w.high-is c.loop-place.invariant
      | in-Some-high+in_ok-push-in-Some-high w ↦
          second_again _ _ _ _ c.args.text.now _ _ _ c.loop-place-test.true c.if-character-eq32.false c.in-Some.ensures.value
          (ap vec_items w.octets-is ∙ w.in_ok-push-in-Some-high.ensures.items) w.in-Some-high.is w.high-is c.loop-place.invariant
    ]

pub returns-in-None-high : goal.returns-in-None-high
returns-in-None-high c =
    record { octets = ended _ c.args.text.now _ _ c.loop-place-test.false (rw c.in-None-high.is at c.loop-place.invariant.0); within = tt }

pub returns-in-Some-high-2 : goal.returns-in-Some-high-2
returns-in-Some-high-2 c =
    record { octets = inr (half _ c.args.text.now _ _ _ c.loop-place-test.false (rw c.in-Some-high-2.is at c.loop-place.invariant.0)); within = tt }
