-- What `zero_beyond` promises of any type with a zero says of a row of numbers what document 01 says.
use Rattle.std.proofs.Common.{◌≡◌, ℕ, ◌∙◌, ap, Bool, List, drop, nat_eq}
use Rattle.model.specs.Lists.{all}
use Rattle.model.specs.Soundness.{zero_beyond}

pub numbers_beyond : {holds : Bool} (n : ℕ) (row : List ℕ) → (zero : ℕ) × (zero ≡ 0) × (holds ≡ all (λ x. nat_eq x zero) (drop n row)) → holds ≡ zero_beyond n row
unfolding zero_beyond
numbers_beyond n row h = h.2 ∙ ap (λ (zero : ℕ). all (λ x. nat_eq x zero) (drop n row)) h.1
