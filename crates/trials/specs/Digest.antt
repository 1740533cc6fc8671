-- A digest of bytes: a number of 32 bits that another list of bytes hardly has too. The bytes are the digits of a number in another base, of which the
-- rest modulo a prime is kept.
use Rattle.std.specs.Prelude.{ℕ, ◌+◌, ◌*◌, ◌%◌, List, [], ◌∷◌}

unfoldable pub folded : ℕ → ℕ → ℕ
folded digest byte = (digest * 16777619 + byte) % 4294967291

unfoldable pub digest_of : ℕ → List ℕ → ℕ
digest_of digest [] = digest
digest_of digest (byte ∷ bytes) = digest_of (folded digest byte) bytes
