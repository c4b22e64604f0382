-- `put_decimal` calls itself with one place less. Assumes nothing.
use Rattle.text.proofs.putting.Page.+put_decimal.Given as goal

abbrev pub decreases-put_decimal : goal.decreases-put_decimal
decreases-put_decimal l = l.places
