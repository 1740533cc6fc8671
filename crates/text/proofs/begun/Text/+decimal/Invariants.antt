-- `decimal` calls itself for a tenth of the number, which is smaller, so that the calls end.
use Rattle.text.proofs.begun.Text.+decimal.Given as goal

abbrev pub decreases-decimal : goal.decreases-decimal
decreases-decimal l = l.n
