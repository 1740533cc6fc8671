-- What was fed, after some bytes more: which bytes, no contract of a call of C's can say.
use Rattle.std.specs.Prelude.{◌≡◌, List, ℕ}
use Rattle.log_model.specs.Reading.{Fed, fed_all}

pub record Reached (f g : Fed) : Type 0 where
  pub bytes : List ℕ
  pub fed : g ≡ fed_all f bytes
