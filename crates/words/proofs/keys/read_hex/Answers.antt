use Rattle.std.proofs.Common.{length, refl, ◌∙◌, arith, length-set}
use Rattle.words.proofs.Pairs.{behind_nothing, evenly, hex_none, pair_at, pair_goes, pair_stops}
use Rattle.words.proofs.keys.read_hex.Goals as goal

pub loop-place-init : goal.loop-place-init
loop-place-init c = (refl, behind_nothing _)

pub returns-in_err-octets : goal.returns-in_err-octets
returns-in_err-octets c =
    let digits = c.args.digits.now in
    let even = evenly (length digits) (omega (arith, c.in_default-empty.len_below, c.as_chunks.ensures.back_len)) (omega (arith, c.if-pairs-gt16.false, c.as_chunks.ensures.front_len)) in
    let pair = pair_at _ digits _ _ c.as_chunks.ensures.front c.as_chunks.ensures.front_len c.loop-place-test.true in
    c.from_residual.ensures ∙ hex_none digits even (pair_stops digits c.loop-place.octets _ _ (omega (arith, c.as_chunks.ensures.front_len)) (c.in_err-octets.ensures ∙ pair) c.loop-place.invariant.1)

pub loop-place-preserved : goal.loop-place-preserved
loop-place-preserved c =
    let digits = c.args.digits.now in
    let pair = pair_at _ digits _ _ c.as_chunks.ensures.front c.as_chunks.ensures.front_len c.loop-place-test.true in (
      simp length-set c.loop-place.invariant.0,
      pair_goes digits c.loop-place.octets _ _ _ (omega (arith, c.as_chunks.ensures.front_len)) (omega (arith, c.loop-place.invariant.0, c.if-pairs-gt16.false)) (c.in_ok-octets.ensures ∙ pair) c.loop-place.invariant.1,
    )
