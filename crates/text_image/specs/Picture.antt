-- The picture of an image (document 01, "Firmware text").
-- Assumes nothing.
use Rattle.std.specs.Prelude.{ℕ, ◌<◌, ◌≡◌, List, length, get_or, set, replicate}
use Rattle.firmware_text.specs.Image.{Image, segment, byte, end, broken}

-- the bytes of an image put at their addresses, in its order
unfoldable pub placed : Image → List ℕ → List ℕ
placed (segment a i) region = placed i region
placed (byte p a v i) region = placed i (set region a v)
placed end region = region
placed (broken p) region = region

-- the picture, as document 01 defines it: n bytes, those of the image at their addresses, 0xFF elsewhere
unfoldable pub picture_of : ℕ → Image → List ℕ
picture_of n i = placed i (replicate n 0xFF)

-- the image has the value at the address
pub data Has : Image → ℕ → ℕ → Type 0 where
  here : {p a v : ℕ} {i : Image} → Has (byte p a v i) a v
  later : {p b w a v : ℕ} {i : Image} → Has i a v → Has (byte p b w i) a v
  below : {b a v : ℕ} {i : Image} → Has i a v → Has (segment b i) a v

-- what a picture is, address by address
pub record Shows (n : ℕ) (i : Image) (picture : List ℕ) : Type 0 where
  pub size : length picture ≡ n
  pub given : (a v : ℕ) → a < n → Has i a v → get_or picture a 0 ≡ v
  pub elsewhere : (a : ℕ) → a < n → ((v : ℕ) → Has i a v → ⊥) → get_or picture a 0 ≡ 0xFF
