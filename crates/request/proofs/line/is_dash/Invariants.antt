use Rattle.std.proofs.Common.{◌≡◌, false, drop}
use Rattle.request.proofs.Walks.{dash_from}
use Rattle.request.proofs.line.is_dash.Given as goal

abbrev pub invariant-loop-character : goal.invariant-loop-character
invariant-loop-character l = dash_from l.seen (drop l.character-index l.text) ≡ dash_from false l.text
