-- The digest is the library's fold.
use Rattle.std.proofs.Common.{◌≡◌, ℕ, List, [], ◌∷◌, refl}
use Rattle.std.specs.List.{fold}
use Rattle.trials.specs.Digest.{folded, digest_of}

pub digest_fold : (d : ℕ) (l : List ℕ) → digest_of d l ≡ fold folded d l
unfolding digest_of
digest_fold d [] = refl
digest_fold d (x ∷ l) = digest_fold (folded d x) l
