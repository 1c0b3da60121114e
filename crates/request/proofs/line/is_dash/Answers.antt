use Rattle.std.proofs.Common.{inl, inr}
use Rattle.request.proofs.Walks.{dash_space, dash_goes, dash_stops, dash_ends}
use Rattle.request.proofs.line.is_dash.Goals as goal
use Rattle.request.proofs.line.is_dash.Goals.{then-seen-via-then-seen, then-seen-via-else-seen+then-character-ne45}

pub loop-character-preserved-then-character-eq32 : goal.loop-character-preserved-then-character-eq32
loop-character-preserved-then-character-eq32 c = dash_space c.args.text.now _ _ _ c.loop-character-test.true c.if-character-eq32.true c.loop-character.invariant

pub returns-then-seen : goal.returns-then-seen
returns-then-seen c =
    elim c.then-seen.branch [
      | then-seen-via-then-seen w ↦ dash_stops c.args.text.now _ _ _ c.loop-character-test.true c.if-character-eq32.false (inl w.if-seen.true) c.loop-character.invariant
      | then-seen-via-else-seen+then-character-ne45 w ↦
          dash_stops c.args.text.now _ _ _ c.loop-character-test.true c.if-character-eq32.false (inr w.if-character-ne45.true) c.loop-character.invariant
    ]

pub loop-character-preserved : goal.loop-character-preserved
loop-character-preserved c =
    dash_goes c.args.text.now _ _ _ c.loop-character-test.true c.if-character-eq32.false c.if-seen.false c.if-character-ne45.false c.loop-character.invariant

pub returns : goal.returns
returns c = dash_ends c.args.text.now _ _ _ c.loop-character-test.false c.loop-character.invariant
