-- The fresh state has the facts of a sound one, for nobody is live and every station is idle; the rest follows.
use mathlib.Core.Path.{refl}
use mathlib.Core.Logic.{inl}
use mathlib.Core.List.Memᴰ
use Prim.Native.Nat.{ℕ, ◌≤◌}
use native.Mathlib.Omega.{arith}
use Rattle.model.specs.Limits.{max_stations}
use Rattle.model.specs.State.{idle, fresh}
use Rattle.schedule.proofs.Laws.{at-replicate}
use Rattle.image_laws.specs.SoundFacts.{SoundState, Shaped, SoundInRange}
use Rattle.image_laws.specs.Fresh.{FreshSound}
use Rattle.image_laws.proofs.Written.{decode-encode}
use Rattle.image_laws.proofs.Sound.{gives_sound}
use Rattle.image_laws.proofs.Fits.{sound_fits}

module _ (n : ℕ) (low : 1 ≤ n) (high : n ≤ max_stations) where
  facts : SoundState (fresh n)
  unfolding fresh
  facts =
      record {
        n_low = low;
        n_high = high;
        live = omega arith;
        clock = omega arith;
        rising = tt;
        below = λ o m. absurd (Memᴰ.not-nil m);
        orders = λ o m. absurd (Memᴰ.not-nil m);
        idle_beyond = λ k h. at-replicate max_stations idle k;
        services = λ k l h. inl (at-replicate max_stations idle k);
      }

  shaped : Shaped (fresh n)
  unfolding fresh
  shaped =
      record {
        next = omega arith;
        eight = refl;
        ticket = λ o m. absurd (Memᴰ.not-nil m);
        ranks = λ o m. absurd (Memᴰ.not-nil m);
        costs = λ o m. absurd (Memᴰ.not-nil m);
        maxima = λ o m. absurd (Memᴰ.not-nil m);
      }

  state : SoundInRange (fresh n)
  state = record { facts = facts; in_range = sound_fits (fresh n) facts shaped }

pub fresh_sound : FreshSound
fresh_sound n low high =
    let h = state n low high in
    record { state = h; image = gives_sound (fresh n) h; read = decode-encode (fresh n) h.in_range }
