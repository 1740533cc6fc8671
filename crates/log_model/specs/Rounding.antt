-- Document 02, (iv): the last column of the rerun, and its rounding.
use Rattle.std.specs.Prelude.{◌≡◌, cond, ℕ, ◌+◌, ◌*◌, ◌/◌, ◌%◌, ◌≤◌, ◌<◌, leb}
use Rattle.model.specs.Lists.{is_zero}

-- Document 02, (iv): "rounded to nearest, a half upward": a / b, and up where what is left over is at least half of b.
unfoldable pub nearest : ℕ → ℕ → ℕ
nearest a b = a / b + cond (leb b (2 * (a % b))) 1 0

-- Document 02, (iv): "busy ticks × 1,000 / all ticks, rounded to nearest, a half upward; 0 when no tick passed"
unfoldable pub thousandths : ℕ → ℕ → ℕ
thousandths busy all = cond (is_zero all) 0 (nearest (busy * 1000) all)

-- What that means: busy / all and the figure in thousandths differ by half a thousandth at most, and where they differ by just that the figure is the
-- larger. Both sides are multiplied by 2,000 × all.
pub record Rounded (busy all figure : ℕ) : Type 0 where
  pub not_above : 2 * (figure * all) ≤ 2 * (busy * 1000) + all
  pub not_below : 2 * (busy * 1000) < 2 * (figure * all) + all

-- Of any ticks. Document 02, (iv): "0 when no tick passed"
pub record ThousandthsMean : Type 0 where
  pub to_nearest : (busy all : ℕ) → 1 ≤ all → Rounded busy all (thousandths busy all)
  pub no_tick : (busy : ℕ) → thousandths busy 0 ≡ 0
