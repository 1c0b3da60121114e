use Rattle.std.proofs.Common.{sym, ◌∙◌}
use Rattle.std.proofs.lemmas.Result.{err_from_is_err_and}
use Rattle.avp.specs.Header.{span}
use Rattle.group.specs.Members.{member}
use Rattle.group.proofs.Walks.{further, some_left, none_left, gather_ends, gather_next, gather_stops, gather_breaks, read_through}
use Rattle.group.proofs.members.read.Goals as goal

pub returns-in_err-avp : goal.returns-in_err-avp
returns-in_err-avp g c =
    let p = err_from_is_err_and c.from_residual.result c.from_residual.ensures.1 in
    let some = some_left _ _ c.is_empty.ensures c.loop-rest-test.true in
    rw (p.1, p.2)
    (read_through g.G.Group.rules _ _ _
    (c.loop-rest.invariant ∙ gather_breaks (member g.G.Group.rules) (span c.loop-rest.rest) (g.G.Group.sofar c.loop-rest.group) some _ c.in_err-avp.ensures))

pub returns-in_err-take : goal.returns-in_err-take
returns-in_err-take g c =
    let p = err_from_is_err_and c.from_residual-in_err-take.result c.from_residual-in_err-take.ensures.1 in
    let some = some_left _ _ c.is_empty.ensures c.loop-rest-test.true in
    rw (p.1, p.2)
    (read_through g.G.Group.rules _ _ _
    (c.loop-rest.invariant ∙ gather_stops (member g.G.Group.rules) (span c.loop-rest.rest) (g.G.Group.sofar c.loop-rest.group) some _ _ c.in_ok-avp.ensures c.in_err-take.ensures))

pub loop-rest-smaller : goal.loop-rest-smaller
loop-rest-smaller g c = further _ _ _ (sym c.in_ok-avp.ensures)

pub loop-rest-preserved : goal.loop-rest-preserved
loop-rest-preserved g c =
    let some = some_left _ _ c.is_empty.ensures c.loop-rest-test.true in
    c.loop-rest.invariant ∙ gather_next (member g.G.Group.rules) (span c.loop-rest.rest) (g.G.Group.sofar c.loop-rest.group) some _ _ c.in_ok-avp.ensures c.in_ok-take.ensures

pub returns : goal.returns
returns g c =
    let none = none_left _ _ c.is_empty.ensures c.loop-rest-test.false in
    c.finish.ensures
    ∙ read_through g.G.Group.rules _ _ _ (c.loop-rest.invariant ∙ gather_ends (member g.G.Group.rules) (span c.loop-rest.rest) (g.G.Group.sofar c.loop-rest.group) none)
