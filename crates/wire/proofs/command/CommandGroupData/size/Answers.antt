use Rattle.std.proofs.Common.{◌≡◌, rules, length, sym, ap, ◌∙◌, arith}
use Rattle.wire.specs.Octets.{order_data}
use Rattle.wire.specs.Lengths.{grant_length, disable_length, request_length, named_size}
use Rattle.wire.proofs.command.CommandGroupData.size.Goals as goal

pub returns-in-Grant : goal.returns-in-Grant
returns-in-Grant c = c.size.ensures ∙ sym (grant_length _ _ _) ∙ ap (λ o. length (order_data o)) (sym c.in-Grant.is)

pub returns-in-Disable : goal.returns-in-Disable
returns-in-Disable c = omega (arith, c.key_size.ensures.value, disable_length c.in-Disable.key, ap (λ o. length (order_data o)) c.in-Disable.is)

pub returns-in-Request : goal.returns-in-Request
returns-in-Request c =
    let named : c.map_or.result ≡ named_size c.in-Request.key = search rules in
    omega (arith, request_length c.in-Request.key, ap (λ o. length (order_data o)) c.in-Request.is)
