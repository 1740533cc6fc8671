-- "Declined: ticket and tick are 0, margin is 0 save for 11 and 12, which give that same smallest margin. After 1 the reply is untouched. Every decline leaves
-- the image alone." Which margin 11 and 12 give stands in `Exact`.
use Rattle.std.specs.Prelude.{◌≡◌, ◌≢◌, List, ◌++◌, ℕ, length, take}
use Rattle.model.specs.Bytes.{four_bytes}
use Rattle.model.specs.Layout.{reply_size, reply_margin_at}
use Rattle.model.specs.Calls.{Result, Call, perform}

pub record DeclinedAt (image reply : List ℕ) (r : Result) : Type 0 where
  pub image_left : r.image ≡ image
  pub reply_left : r.number ≡ 1 → r.reply ≡ reply
  pub reply_whole : r.number ≢ 1 → length r.reply ≡ reply_size
  pub number_given : r.number ≢ 1 → take reply_margin_at r.reply ≡ four_bytes r.number ++ four_bytes 0 ++ four_bytes 0
  pub all_given : r.number ≢ 1 → r.number ≢ 11 → r.number ≢ 12 → r.reply ≡ four_bytes r.number ++ four_bytes 0 ++ four_bytes 0 ++ four_bytes 0

-- Of each call, whatever is lent to it.
abbrev pub Declines : Type 0
Declines = (call : Call) (image reply : List ℕ) → (perform call image reply).number ≢ 0 → DeclinedAt image reply (perform call image reply)
