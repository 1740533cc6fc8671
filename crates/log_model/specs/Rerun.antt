-- Document 02, (iv): "It runs the log from a fresh cabinet".
use Rattle.std.specs.Prelude.{◌≡◌, ◌≢◌, Bool, false, cond, not, ◌&&◌, List, [], ◌∷◌, map, ℕ, ◌+◌, length, replicate, eqb}
use Rattle.model.specs.declared.Service.{Service}
use Rattle.model.specs.Lists.{at, is_zero, only}
use Rattle.model.specs.Bytes.{word}
use Rattle.model.specs.State.{idle, fresh}
use Rattle.model.specs.Layout.{reply_size, reply_ticket_at}
use Rattle.model.specs.Image.{encode}
use Rattle.model.specs.Calls.{Result, advance_call, perform}
use Rattle.model.specs.Runs.{Lent, during_calls}
use Rattle.log_model.specs.Lines.{Line, advanced, call_of, number_of, ticket_of}

-- The reply buffer that is lent to each call: 16 bytes, whatever they are.
abbrev pub lent_reply : List ℕ
lent_reply = replicate reply_size 0

abbrev pub lent_of : Line → Lent
lent_of line = record { call = call_of line; reply = lent_reply }

-- Whether a call gives what a line records. Document 02, (iv): "a `T` whose advance is declined disagrees": its number is not 0. The reply of a declined order
-- has ticket 0.
unfoldable pub agrees : Line → Result → Bool
agrees line result = eqb result.number (number_of line) && eqb (word result.reply reply_ticket_at) (ticket_of line)

-- Document 02, (iv): "a `T` whose advance is declined disagrees", whatever ticket it records.
abbrev pub DeclinedDisagrees : Type 0
DeclinedDisagrees = (image : List ℕ) (ticket : ℕ) → (advance_call image lent_reply).number ≢ 0 → agrees (advanced ticket) (advance_call image lent_reply) ≡ false

-- Document 02, (iv): "the number of the first line that disagrees", where the first of these is line k; 0 when each agrees.
unfoldable pub first_difference : ℕ → List ℕ → List Line → ℕ
first_difference k image [] = 0
first_difference k image (line ∷ later) =
    let result = perform (call_of line) image lent_reply in
    cond (agrees line result) (first_difference (k + 1) result.image later) k

unfoldable pub differs_at : ℕ → List Line → ℕ
differs_at n calls = first_difference 2 (encode (fresh n)) calls

-- The entries of the stations during each tick that passed. Document 02, (iv): "all ticks"
unfoldable pub ticks_of : ℕ → List Line → List (List Service)
ticks_of n calls = during_calls (encode (fresh n)) (map lent_of calls)

-- Document 02, (iv): "busy ticks", of station k: those in which it had an order in service.
abbrev pub is_busy : ℕ → List Service → Bool
is_busy k services = not (is_zero (at idle services k).ticket)

unfoldable pub busy_ticks : ℕ → List (List Service) → ℕ
busy_ticks k ticks = length (only (is_busy k) ticks)
