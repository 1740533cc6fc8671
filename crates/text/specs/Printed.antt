-- What a printer does to a text that is printed into a lent buffer.
use Rattle.std.specs.Prelude.{◌≡◌, List, ℕ, ◌+◌, ◌≤◌, length}
use Rattle.lists.specs.Stored.{Put}
use Rattle.text.specs.declared.begun.Text.{Text}

-- The bytes stand in the buffer from the end of the text on, nothing else in it changed, and the text ends after them. The buffer is the one that was lent.
pub record Printed (before : Text) (bytes : List ℕ) (after : Text) : Type 0 where
  pub put : Put before.out.now before.at bytes after.at after.out.now
  pub room : length after.out.now ≡ length before.out.now
  pub buffer : after.out.ghost_name ≡ before.out.ghost_name

-- The buffer has room for the bytes after the text.
abbrev pub Room : Text → List ℕ → Type 0
Room text bytes = text.at + length bytes ≤ length text.out.now
