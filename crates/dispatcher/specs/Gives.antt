-- A call does what its definition says: the number that it returns, every byte of the image and every byte of the reply that it leaves.
use Rattle.std.specs.Prelude.{◌≡◌, List, ℕ}
use Rattle.model.specs.Calls.{Result}

pub record Gives (result : Result) (number : ℕ) (image reply : List ℕ) : Type 0 where
  pub number_is : number ≡ result.number
  pub image_is : image ≡ result.image
  pub reply_is : reply ≡ result.reply
