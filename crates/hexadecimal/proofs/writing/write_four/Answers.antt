use Rattle.hexadecimal.proofs.Steps.{eight_text}
use Rattle.hexadecimal.proofs.writing.write_four.Goals as goal

pub unreachable-requires : goal.unreachable-requires
unreachable-requires g c =
    c.in-Err.ensures.cases.0
    (eight_text _ _ _ _ _ _ _ _ c.letter.ensures.ascii c.letter-2.ensures.ascii c.letter-3.ensures.ascii c.letter-4.ensures.ascii c.letter-5.ensures.ascii c.letter-6.ensures.ascii c.letter-7.ensures.ascii c.letter-8.ensures.ascii)
