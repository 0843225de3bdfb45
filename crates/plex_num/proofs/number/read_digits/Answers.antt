use Rattle.std.proofs.Common.{◌≡◌, ◌-◌, ◌*◌, ◌+◌, arith, refl, sym, ap, ◌∙◌, get_or}
use Rattle.plex_num.proofs.Digits.{digits_step, small_step}
use Rattle.plex_num.proofs.number.read_digits.Goals as goal

pub loop-byte-preserved : goal.loop-byte-preserved
loop-byte-preserved c = record {
  rest = digits_step c.args.text.now c.loop-byte.byte-index c.loop-byte.value
      (get_or c.args.text.now c.loop-byte.byte-index 0) _ _ c.loop-byte-test.true refl
      (sym c.is_ascii_digit.ensures.value ∙ c.if-not-is_ascii_digit.false)
      (ap (λ d. c.loop-byte.value * 10 + d) c.from-digit.ensures) c.loop-byte.invariant.rest;
  small = small_step c.loop-byte.value c.loop-byte.byte-index c.from-digit.result _ c.loop-byte.invariant.small
      (let e : c.from-digit.result ≡ get_or c.args.text.now c.loop-byte.byte-index 0 - 48 = c.from-digit.ensures in
      grind (arith, e, c.is_ascii_digit.ensures.cases, c.if-not-is_ascii_digit.false)) refl;
}
