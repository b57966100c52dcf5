-- What a region's size is at most.
-- Assumes nothing.
use Prim.Native.Nat.{ℕ, ◌%◌, ◌≤◌}
use mathlib.Core.Path.{◌≡◌}
use mathlib.Core.Bool.{true, ◌&&◌}
use lib.Dec.{leb, eqb}
use borrow.Author.Tests.{leb-true}
use Rattle.test_laws.proofs.Tests.{both}
use Rattle.region.specs.Size.{good_size}

pub good-small : (n : ℕ) → good_size n ≡ true → n ≤ 262144
good-small n e = leb-true n 262144 (both (leb 4096 n) (leb n 262144) (both (leb 4096 n && leb n 262144) (eqb (n % 4096) 0) e).0).1
