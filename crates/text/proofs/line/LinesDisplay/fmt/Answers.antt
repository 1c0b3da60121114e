use Rattle.std.proofs.Common.{[], ◌∷◌, refl, rules}
use Rattle.std.proofs.Output.{has_written_append, has_written_of_eq}
use Rattle.text.proofs.Written.{line_goes, line_ends}
use Rattle.text.proofs.line.LinesDisplay.fmt.Goals as goal

pub loop-group-preserved : goal.loop-group-preserved
loop-group-preserved g c = λ plain.
    let so_far = c.loop-group.invariant plain in (
      _,
      has_written_append _ _ _ _ (10 ∷ []) _ (has_written_append _ _ _ _ (g.V.Line.lined c.group-item.result) c.fmt_line.new.f so_far.1 (search rules)) (search rules),
      line_goes g.V.Line.lined c.args.self.now.0.now _ _ _ _ _ _ c.loop-group-test.true c.group-item.is refl refl so_far.2,
    )

pub returns-clause-writes : goal.returns-clause-writes
returns-clause-writes g c = λ plain ok.
    let so_far = c.loop-group.invariant plain in
    has_written_of_eq _ _ _ _ _ (line_ends g.V.Line.lined c.args.self.now.0.now _ _ _ c.loop-group-test.false so_far.2) so_far.1
