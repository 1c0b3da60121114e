use Rattle.std.proofs.Common.{sym, ◌∙◌}
use Rattle.group.proofs.Within.{fault_of_lem}
use Rattle.message.proofs.Within.{verdict_in}
use Rattle.message.proofs.checking.verdict.Goals as goal

pub returns : goal.returns
returns c = record {
  value = c.read_as.ensures;
  within = λ f e. fault_of_lem _ (verdict_in c.args.kind c.args.octets.now) f (sym c.read_as.ensures ∙ e);
}
