use Rattle.std.proofs.Common.{sym, ap, ◌∙◌}
use Rattle.either_bank.proofs.Passes.{passes}
use Rattle.either_bank.proofs.pass.Goals as goal

pub returns : goal.returns
returns g c =
    let b = g.B.Bank in
    let r =
    passes b.ceiling (b.counts c.args.bank.now) (b.counts c.add.new.self) (b.counts c.add-2.new.self) c.args.place c.args.more
    (g.met.B.Bank.sixteen c.args.bank.now) (sym c.in_ok-add.ensures.answers) c.add.ensures.leaves
    (sym c.in_ok-add-2.ensures.answers) c.add-2.ensures.leaves in
    record { leaves = c.take_out.ensures.leaves ∙ ap (λ x. x.0) r; answers = c.take_out.ensures.answers ∙ ap (λ x. x.1) r }
