-- A log that is run, and what a method leaves of it.
use Rattle.std.specs.Prelude.{◌≡◌}
use Rattle.log_model.specs.declared.Rerun.{Rerun}
use Rattle.log_model.specs.Reading.{Ran}
use Rattle.log_lines.specs.declared.Running.{Running}

-- It, as the definitions have it.
abbrev pub ran_of : Running → Ran
ran_of r = record { rerun = r.rerun; image = r.image.now }

-- The image stands where it stood, and it and what is known of the log are as a definition says.
pub record Leaves (before : Running) (s : Ran) (after : Running) : Type 0 where
  pub same : after.image.ghost_name ≡ before.image.ghost_name
  pub is : ran_of after ≡ s

-- The same where no call is made, so that the image is as it was.
abbrev pub Counts : Running → Rerun → Running → Type 0
Counts before r after = Leaves before (record { rerun = r; image = before.image.now }) after
