-- The size of a flash region (document 01, "The loader", refusal 1).
-- Assumes nothing.
use Rattle.std.specs.Prelude.{ℕ, ◌%◌, Bool, ◌&&◌, leb, eqb}

-- N is a multiple of 4,096 from 4,096 to 262,144
abbrev pub good_size : ℕ → Bool
good_size n = leb 4096 n && leb n 262144 && eqb (n % 4096) 0
