-- An image that an order can be accepted into: questions 2 to 4 pass, and 6 to 10 of the order at the state that it says.
use Rattle.std.specs.Prelude.{◌≡◌, true, List, ℕ, length}
use Rattle.model.specs.declared.Block.{Block}
use Rattle.model.specs.declared.Order.{Order}
use Rattle.model.specs.Layout.{image_size}
use Rattle.model.specs.Image.{marked, decode}
use Rattle.model.specs.Soundness.{sound}
use Rattle.model.specs.Admission.{arrival}
use Rattle.call_laws.specs.Considered.{Fitting}

-- a is the order as it is accepted.
pub record Acceptable (image : List ℕ) (b : Block) (a : Order) : Type 0 where
  pub whole : length image ≡ image_size
  pub is_marked : marked image ≡ true
  pub is_sound : sound image ≡ true
  pub fitting : Fitting (decode image) b
  pub arrives : a ≡ arrival (decode image) b
