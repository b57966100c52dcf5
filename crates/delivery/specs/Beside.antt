-- Runs side by side: one over zeros, one over 0xFF and any other; and what a packet makes known of their regions (document 02, T-09).
-- Assumes nothing.
use Rattle.std.specs.Prelude.{List, [], ◌∷◌, ◌≡◌, ℕ, length, drop, replicate}
use Rattle.known_bits.specs.Known.{WithRange}
use Rattle.loader.specs.declared.Loader.{Loader}
use Rattle.packet.specs.Packet.{address_of}
use Rattle.packet.specs.declared.Command.{Command}
use Rattle.packet.specs.declared.Command.TheVariants.{Password, Erase, Write, RangeChecksum, Start, Unknown}
use Rattle.delivery.specs.Check.{Trial}

-- address by address the three have the same byte, or 0x00, 0xFF and anything
pub data Agree : (zeros ones other : List ℕ) → Type 0 where
  nothing : Agree [] [] []
  known : {x : ℕ} {z f r : List ℕ} → Agree z f r → Agree (x ∷ z) (x ∷ f) (x ∷ r)
  untouched : {x : ℕ} {z f r : List ℕ} → Agree z f r → Agree (0x00 ∷ z) (0xFF ∷ f) (x ∷ r)

-- two trial runs, and any other with its state and region, side by side
pub record Beside (zeros ones : Trial) (loader : Loader) (region : List ℕ) : Type 0 where
  pub ones_state : ones.loader ≡ zeros.loader
  pub other_state : loader ≡ zeros.loader
  pub agree : Agree zeros.region ones.region region

-- what a command that is a success adds to the known bits: all of them after an erase, those of its range after a write
abbrev pub Learns : Command → (core old new : List ℕ) → Type 0
Learns Password core old new = new ≡ old
Learns Erase core old new = new ≡ replicate (length old) 0xFF
Learns Write core old new = WithRange (address_of core) (length (drop 5 core)) old new
Learns RangeChecksum core old new = new ≡ old
Learns Start core old new = new ≡ old
Learns Unknown core old new = new ≡ old
