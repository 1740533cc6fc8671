-- A part of a slice that a method of the library writes, `fill` or `copy_from_slice` of `s[a..e]`: the same as a store from place a on.
use Rattle.std.proofs.Common.{◌≡◌, sym, ◌∙◌, List, append_assoc, ℕ, ◌+◌, ◌≤◌, length, arith}
use borrow.Rule.Slice.PartMut.{put_mid}
use lib.ListN.{take, drop}
use lib.Seq.{sets-eq, drop-drop}
use Rattle.lists.specs.Stored.{Stored}

pub stored_mid : (a k : ℕ) (l vs : List ℕ) → a + k ≤ length l → length vs ≡ k → Stored l a vs (put_mid a k l vs)
stored_mid a k l vs h e =
    let room : a + length vs ≤ length l = omega arith in
    record { is = rw (drop-drop k a l, ← e) (sym (append_assoc (take a l) vs (drop (a + length vs) l)) ∙ sym (sets-eq vs l a room)) }
