-- A word for statements that say exactly when a call returns a number.

-- Each follows from the other.
infix 3 ◌⇔◌
pub record ◌⇔◌ (P Q : Type 0) : Type 0 where
  pub only : P → Q
  pub if : Q → P
