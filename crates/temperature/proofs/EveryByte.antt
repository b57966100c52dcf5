-- Rules of every temperature, each by one test that is computed at all 256 values.
-- Assumes nothing.
use mathlib.Core.Path.{◌≡◌, ap}
use mathlib.Core.Bool.{Bool, true, false, false≢true}
use Prim.Native.Nat.{◌<◌}
use borrow.Author.Tests.{eqb-true}
use lib.Dec.{eqb}
use lib.IntN.{ℤ, pos, negsuc}
use lib.Signed.{mag}
use Rattle.test_laws.proofs.Tests.{every_below, below}

-- every temperature is n or -(n + 1), for n below 128
pub every-temperature : (test : ℤ → Bool) → every_below 128 (λ n. test (pos n)) ≡ true → every_below 128 (λ n. test (negsuc n)) ≡ true
    → (z : ℤ) → mag z < 128 → test z ≡ true
every-temperature test s t (pos n) h = below 128 (λ n. test (pos n)) s n h
every-temperature test s t (negsuc n) h = below 128 (λ n. test (negsuc n)) t n h

-- two integers are the same, as a test that computes
abbrev pub same_z : ℤ → ℤ → Bool
same_z (pos m) (pos n) = eqb m n
same_z (negsuc m) (negsuc n) = eqb m n
same_z (pos m) (negsuc n) = false
same_z (negsuc m) (pos n) = false

pub same-z : (y z : ℤ) → same_z y z ≡ true → y ≡ z
same-z (pos m) (pos n) t = ap pos (eqb-true m n t)
same-z (negsuc m) (negsuc n) t = ap negsuc (eqb-true m n t)
same-z (pos m) (negsuc n) t = absurd (false≢true t)
same-z (negsuc m) (pos n) t = absurd (false≢true t)
