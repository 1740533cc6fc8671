-- Document 01, "The run book": lists of calls from a fresh cabinet, with the image and the history as each call leaves them.
use Rattle.std.specs.Prelude.{◌≢◌, List, [], ◌∷◌, ◌++◌, ℕ, zero, suc}
use Rattle.model.specs.declared.Service.{Service}
use Rattle.model.specs.Tick.{starts}
use Rattle.model.specs.Image.{decode}
use Rattle.model.specs.Calls.{Result, open_call, Call, opening, quoting, offering, quoting_format, offering_format, advancing, perform}
use Rattle.model.specs.History.{History, begun, feed}

-- A call of the list, with the reply buffer that is lent to it: "the reply buffer of each call has any length and holds any bytes".
pub record Lent : Type 0 where
  pub call : Call
  pub reply : List ℕ

-- The image, and the history beside it, as the calls so far leave them.
pub record Run : Type 0 where
  pub image : List ℕ
  pub history : History

-- "A list starts from the image that a done open leaves, with any N from 1 to 8."
unfoldable pub started : List ℕ → ℕ → List ℕ → Run
started image n reply = record { image = (open_call image n reply).image; history = begun n }

-- "Each call gets the image as the call before left it, and nobody else writes it."
unfoldable pub outcome : Run → Lent → Result
outcome run lent = perform lent.call run.image lent.reply

-- "The book is fed the calls in turn: which call it is, its arguments other than image and reply, and the number it returned."
unfoldable pub after_call : Run → Lent → Run
after_call run lent =
    let result = outcome run lent in
    record { image = result.image; history = feed lent.call result.number run.history }

unfoldable pub after_all : Run → List Lent → Run
after_all run [] = run
after_all run (lent ∷ later) = after_all (after_call run lent) later

-- "lists of these calls: quote, offer, advance, and open where it declines"
abbrev pub Allowed : Call → Result → Type 0
Allowed (opening n) result = result.number ≢ 0
Allowed (quoting block) result = Unit {0}
Allowed (offering block) result = Unit {0}
Allowed (quoting_format f) result = Unit {0}
Allowed (offering_format f) result = Unit {0}
Allowed advancing result = Unit {0}

abbrev pub AllAllowed : Run → List Lent → Type 0
AllAllowed run [] = Unit {0}
AllAllowed run (lent ∷ later) = Allowed lent.call (outcome run lent) × AllAllowed (after_call run lent) later

-- The entries of the stations during each tick of a list of calls, in turn: as the starts of each done advance leave them.
abbrev pub during_call : Call → List ℕ → ℕ → List (List Service)
during_call (opening n) image number = []
during_call (quoting block) image number = []
during_call (offering block) image number = []
during_call (quoting_format f) image number = []
during_call (offering_format f) image number = []
during_call advancing image zero = (starts (decode image)).services ∷ []
during_call advancing image (suc other) = []

abbrev pub during_calls : List ℕ → List Lent → List (List Service)
during_calls image [] = []
during_calls image (lent ∷ later) =
    let r = perform lent.call image lent.reply in
    during_call lent.call image r.number ++ during_calls r.image later
