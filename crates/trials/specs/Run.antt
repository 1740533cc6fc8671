-- What a long run carries from call to call beside the image. The counts are of 32 bits, and no run is so long that one wraps.
use Rattle.std.specs.Prelude.{ℕ, ◌+◌, ◌%◌, Bool, true, cond, ◌==◌}
use Rattle.trials.specs.declared.soak_rows.Run.{Run}

-- A seed, no calls, and a digest of nothing.
unfoldable pub start_of : ℕ → Run
start_of seed =
    record { seed = seed; calls = 0; accepted = 0; out = 0; six = 0; seven = 0; ten = 0; eleven = 0; twelve = 0; digest = 1 }

unfoldable pub more : ℕ → Bool → ℕ
more count again = cond again ((count + 1) % 4294967296) count

-- One call more: the seed that it leaves, whether it accepted an order, whether an order is out, its number, and the digest with its reply and image.
unfoldable pub counted : Run → ℕ → Bool → Bool → ℕ → ℕ → Run
counted run seed accepted out number digest =
    record {
      seed = seed;
      calls = more run.calls true;
      accepted = more run.accepted accepted;
      out = more run.out out;
      six = more run.six (number == 6);
      seven = more run.seven (number == 7);
      ten = more run.ten (number == 10);
      eleven = more run.eleven (number == 11);
      twelve = more run.twelve (number == 12);
      digest = digest;
    }
