-- What stands in a line of a report, and how a name from outside is shown.
-- Assumes nothing.
use Rattle.std.specs.Prelude.{Bool, List, [], ◌∷◌, ◌++◌, ℕ, ◌-◌, ◌/◌, ◌%◌, codes, length, take, get_or, nat_lt, nat_le, ◌==◌, ◌&&◌, ◌||◌, if◌then◌else◌}
use Rattle.hex.specs.Hex.{encode_lower}

-- what a line holds with new bytes behind what it held: as many of them as it has room for, up to 256 in all
abbrev pub lengthened : List ℕ → List ℕ → List ℕ
lengthened held new = held ++ take (256 - length held) new

-- a checksum in words: 0x, and the four hexadecimal digits of its high and its low byte
abbrev pub checksum_text : ℕ → List ℕ
checksum_text sum = codes "0x" ++ encode_lower (sum / 256 ∷ sum % 256 ∷ [])

-- a control character of ASCII
abbrev pub is_control : ℕ → Bool
is_control b = nat_lt b 0x20 || (b == 0x7F)

-- what stands behind 0xC2 in the control characters above ASCII
abbrev pub is_of_control : ℕ → Bool
is_of_control b = nat_le 0x80 b && nat_le b 0x9F

-- a byte of a name by its neighbours, as it is shown: a question mark for one of a control character. A byte from 0x80 to 0x9F is one of a letter
-- where another that is above ASCII stands before it, but for 0xC2
abbrev pub cleaned : ℕ → ℕ → ℕ → ℕ
cleaned before b after =
    if is_control b || (is_of_control b && (nat_lt before 0x80 || (before == 0xC2))) || ((b == 0xC2) && is_of_control after)
    then 63 else b

-- a name as it is shown, by the byte before it, 0 for none
abbrev pub printable : ℕ → List ℕ → List ℕ
printable before [] = []
printable before (b ∷ rest) = cleaned before b (get_or rest 0 0) ∷ printable b rest
