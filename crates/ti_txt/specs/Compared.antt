-- A buffer beside a set of addresses.
-- Assumes nothing.
use Rattle.std.specs.Prelude.{ℕ, ◌<◌, ◌≡◌, List, Bool, true, false, length, get_or}
use Rattle.address_set.specs.Bits.{marked}

-- whether each byte whose address is not in the set is 0xFF; if not, one is another
abbrev pub BlankElsewhere : List ℕ → List ℕ → Bool → Type 0
BlankElsewhere buffer map true = (a : ℕ) → a < length buffer → marked map a ≡ false → get_or buffer a 0 ≡ 0xFF
BlankElsewhere buffer map false = (a : ℕ) × (a < length buffer) × (marked map a ≡ false) × (get_or buffer a 0 ≡ 0xFF → ⊥)
