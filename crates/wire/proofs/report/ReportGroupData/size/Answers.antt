use Rattle.std.proofs.Common.{sym, ◌∙◌}
use Rattle.wire.specs.Lengths.{report_length}
use Rattle.wire.proofs.report.ReportGroupData.size.Goals as goal

pub returns : goal.returns
returns c = rw c.from.ensures at c.size.ensures ∙ sym (report_length c.args.self.now)
