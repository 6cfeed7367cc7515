-- `text::put_digits` calls itself for the tenth of n, so n is the measure.
use Rattle.text.proofs.+put_digits.Given as goal

abbrev pub decreases-put_digits : goal.decreases-put_digits
decreases-put_digits l = l.n
