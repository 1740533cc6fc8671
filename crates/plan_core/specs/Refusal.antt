-- Document 01's number for each reason to decline.
use Rattle.std.specs.Prelude.{ℕ}
use Rattle.plan_core.specs.declared.refusal.Refusal.{Refusal}
use Rattle.plan_core.specs.declared.refusal.Refusal.TheVariants.{Stations, Count, Figures}

abbrev pub number_of : Refusal → ℕ
number_of Stations = 14
number_of Count = 17
number_of Figures = 18
