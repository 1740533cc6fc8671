-- The values of a line fit its fields (document 02, (iv): "a value too large for its field"), and it has N ranks and N costs.
use Rattle.std.specs.Prelude.{◌≡◌, List, [], ◌∷◌, ℕ, ◌≤◌, length, get_or}
use Rattle.log_model.specs.Limits.{most8, most16, most32}
use Rattle.log_model.specs.Lines.{Line, offered, advanced}

abbrev pub NoneAbove : ℕ → List ℕ → Type 0
NoneAbove most l = (i : ℕ) → get_or l i 0 ≤ most

pub record OfferFits (n due : ℕ) (ranks costs : List ℕ) (number ticket : ℕ) : Type 0 where
  pub due_in : due ≤ most32
  pub ranks_count : length ranks ≡ n
  pub ranks_fit : NoneAbove most8 ranks
  pub costs_count : length costs ≡ n
  pub costs_fit : NoneAbove most16 costs
  pub number_fits : number ≤ most32
  pub ticket_fits : ticket ≤ most32

abbrev pub LineFits : ℕ → Line → Type 0
LineFits n (offered due_in ranks costs number ticket) = OfferFits n due_in ranks costs number ticket
LineFits n (advanced ticket) = ticket ≤ most32

abbrev pub AllFit : ℕ → List Line → Type 0
AllFit n [] = Unit {0}
AllFit n (line ∷ later) = LineFits n line × AllFit n later
