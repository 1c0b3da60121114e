use Rattle.std.proofs.lemmas.Slice.Eq.{slice_eq-Decides}
use Rattle.words.proofs.Same.{alike}
use Rattle.words.proofs.words.is_word.Goals as goal
use Rattle.std.proofs.lemmas.Bool.Decides.{Decides-eqb}

pub returns : goal.returns
returns c = rw c.as_bytes.ensures.value at (alike c.args.characters.now _ _ (slice_eq-Decides Decides-eqb c.args.characters.now _ _ c.eq.ensures))
