-- Document 01, "The image": reading undoes writing, and writing undoes reading of a marked and sound image.
use Rattle.std.specs.Prelude.{◌≡◌, true, List, ℕ, length}
use Rattle.model.specs.State.{State}
use Rattle.model.specs.Layout.{image_size}
use Rattle.model.specs.Image.{marked, decode, encode}
use Rattle.model.specs.Soundness.{sound}
use Rattle.image_laws.specs.InRange.{byte_limit, Below, InRange, ByteRanks}

-- What was written is what is read.
abbrev pub DecodeEncode : Type 0
DecodeEncode = (s : State) → InRange s → decode (encode s) ≡ s

-- What was read is what is written: a marked and sound image holds nothing that its state does not say.
abbrev pub EncodeDecode : Type 0
EncodeDecode =
    (image : List ℕ) → length image ≡ image_size → Below byte_limit image → marked image ≡ true → sound image ≡ true → encode (decode image) ≡ image

-- "2,128 bytes."
abbrev pub EncodeLength : Type 0
EncodeLength = (s : State) → InRange s → length (encode s) ≡ image_size

-- It is bytes where the ranks are, and the ranks of an image of bytes are.
abbrev pub EncodeBytes : Type 0
EncodeBytes = (s : State) → InRange s → ByteRanks s → Below byte_limit (encode s)

abbrev pub DecodeByteRanks : Type 0
DecodeByteRanks = (image : List ℕ) → Below byte_limit image → ByteRanks (decode image)

-- "Bytes 0 to 2 are the mark `WMC`; 3 to 4 the version, 1"
abbrev pub EncodeMarked : Type 0
EncodeMarked = (s : State) → marked (encode s) ≡ true
