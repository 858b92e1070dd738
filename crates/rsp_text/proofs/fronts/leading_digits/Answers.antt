use Rattle.std.specs.Char.{is_ascii_digit}
use Rattle.rsp_text.proofs.DigitLaws.{all-take_while}
use Rattle.rsp_text.proofs.fronts.leading_digits.Goals as goal

pub returns-clause-digits : goal.returns-clause-digits
returns-clause-digits c = rw c.digit_count.ensures.value (all-take_while is_ascii_digit c.args.text.now)
