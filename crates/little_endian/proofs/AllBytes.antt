-- Lists whose every element is a byte, element by element: what their parts are, and what is put together of them.
-- Assumes nothing.
use mathlib.Core.Path.{◌≡◌, refl, ap}
use mathlib.Core.Bool.{Bool, true, false}
use mathlib.Core.List.{List, [], ◌∷◌, ◌++◌}
use Prim.Native.Nat.{ℕ, zero, suc, ◌+◌, ◌<◌}
use native.Mathlib.Omega.{arith}
use borrow.Author.Tests.{leb-true, leb-false}
use lib.Dec.{leb}
use lib.ListN.{length, take, drop, replicate}
use Rattle.little_endian.specs.Bytes.{Bytes, stored_at}
use Rattle.little_endian.proofs.Stored.{stored-between, stored-length, stored-not}

-- each element is a byte
abbrev pub AllBytes : List ℕ → Type 0
AllBytes [] = Unit
AllBytes (b ∷ bytes) = (b < 256) × AllBytes bytes

-- as it is said index by index
pub all-bytes : (l : List ℕ) → Bytes l → AllBytes l
all-bytes [] b = tt
all-bytes (x ∷ l) b = (b 0, all-bytes l (λ i. b (suc i)))

pub bytes-all : (l : List ℕ) → AllBytes l → Bytes l
bytes-all [] a i = omega arith
bytes-all (x ∷ l) a zero = a.0
bytes-all (x ∷ l) a (suc i) = bytes-all l a.1 i

pub bytes_take : (n : ℕ) (l : List ℕ) → AllBytes l → AllBytes (take n l)
bytes_take zero l a = tt
bytes_take (suc n) [] a = tt
bytes_take (suc n) (x ∷ l) a = (a.0, bytes_take n l a.1)

pub bytes_drop : (n : ℕ) (l : List ℕ) → AllBytes l → AllBytes (drop n l)
bytes_drop zero l a = a
bytes_drop (suc n) [] a = tt
bytes_drop (suc n) (x ∷ l) a = bytes_drop n l a.1

bytes-append : (x y : List ℕ) → AllBytes x → AllBytes y → AllBytes (x ++ y)
bytes-append [] y a b = b
bytes-append (h ∷ x) y a b = (a.0, bytes-append x y a.1 b)

pub bytes-filled : (n b : ℕ) → b < 256 → AllBytes (replicate n b)
bytes-filled zero b small = tt
bytes-filled (suc n) b small = (small, bytes-filled n b small)

-- bytes stored in a list, whether they fit or not: a list of bytes, as long as before
pub record Stored (at : ℕ) (new old : List ℕ) : Type 0 where
  pub long : length (stored_at at new old) ≡ length old
  pub bytes : AllBytes (stored_at at new old)

pub bytes-stored : (at : ℕ) (new old : List ℕ) → AllBytes new → AllBytes old → Stored at new old
bytes-stored at new old a b = go (leb (at + length new) (length old)) refl
  where
    go : (t : Bool) → leb (at + length new) (length old) ≡ t → Stored at new old
    go true e = record {
      long = stored-length at new old (leb-true _ _ e);
      bytes = rw (stored-between at new old (leb-true _ _ e))
          (bytes-append (take at old) _ (bytes_take at old b) (bytes-append new _ a (bytes_drop (at + length new) old b)));
    }
    go false e = record { long = ap length (stored-not at new old (leb-false _ _ e)); bytes = rw (stored-not at new old (leb-false _ _ e)) b }
