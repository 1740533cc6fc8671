-- The row that is printed of a run: `cabinet 2 500 173 12 40 28 31 9 0 17 25 3735928559`
use Rattle.std.specs.Prelude.{ℕ, List, [], ◌∷◌, ◌++◌}
use Rattle.text.specs.Ascii.{ascii}
use Rattle.image_text.specs.Report.{line_feed, spaced}
use Rattle.trials.specs.declared.soak_rows.Run.{Run}

-- The number of stations, calls so far, clock, live orders, orders accepted and out so far, calls declined by 6, 7, 10, 11 and 12 so far, and the digest.
unfoldable pub figures : ℕ → ℕ → ℕ → Run → List ℕ
figures n clock live run =
    n
    ∷ run.calls
    ∷ clock
    ∷ live
    ∷ run.accepted
    ∷ run.out
    ∷ run.six
    ∷ run.seven
    ∷ run.ten
    ∷ run.eleven
    ∷ run.twelve
    ∷ run.digest
    ∷ []

unfoldable pub row : List ℕ → List ℕ
row values = ascii "cabinet" ++ spaced values ++ line_feed
