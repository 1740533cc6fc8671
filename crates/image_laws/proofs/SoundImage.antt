-- A sound state, written, is a sound image that says it.
use Rattle.model.specs.State.{State}
use Rattle.model.specs.Image.{encode}
use Rattle.image_laws.specs.InRange.{ByteRanks}
use Rattle.image_laws.specs.SoundFacts.{SoundInRange}
use Rattle.image_laws.specs.SoundImage.{SoundImage}
use Rattle.image_laws.proofs.Written.{decode-encode, encode-length, encode_bytes, encode-marked}
use Rattle.image_laws.proofs.Sound.{gives_sound}

pub sound_image : (s : State) → SoundInRange s → ByteRanks s → SoundImage (encode s) s
sound_image s h ranks =
    record {
      whole = encode-length s h.in_range;
      bytes = encode_bytes s h.in_range ranks;
      is_marked = encode-marked s;
      is_sound = gives_sound s h;
      says = decode-encode s h.in_range;
    }
