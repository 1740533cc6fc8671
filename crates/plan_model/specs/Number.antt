-- "unsigned decimals of 1 to 9 digits without leading zeros (a lone 0 has the form)"
use Rattle.std.specs.Prelude.{Bool, ◌&&◌, List, ℕ, length}
use Rattle.model.specs.Lists.{within, all}
use Rattle.text.specs.Number.{is_digit, no_leading_zero}
use Rattle.plan_model.specs.Limits.{max_digits}

unfoldable pub is_number : List ℕ → Bool
is_number w = within 1 max_digits (length w) && no_leading_zero w && all is_digit w
