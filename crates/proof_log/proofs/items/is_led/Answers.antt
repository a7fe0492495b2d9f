use Rattle.proof_log.proofs.Digits.{led_long}
use Rattle.proof_log.proofs.items.is_led.Goals as goal

pub returns-in-len2-up : goal.returns-in-len2-up
returns-in-len2-up c = led_long c.args.word.now c.in-len2-up.len_at_least
