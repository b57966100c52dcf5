-- Laws of writing: the test of two lists, pair by pair, and what a write leaves.
-- Assumes nothing.
use mathlib.Core.Path.{◌≡◌, refl, sym, ap, ◌∙◌}
use mathlib.Core.Bool.{Bool, false, false≢true, ◌&&◌}
use mathlib.Core.List.{List, [], ◌∷◌}
use Prim.Native.Nat.{ℕ, ◌<◌, ◌≤◌}
use native.Mathlib.Omega.{arith}
use Rattle.std.proofs.Math.Bool.{and-false}
use lib.Bits.{bit_and}
use lib.Dec.{eqb}
use borrow.Author.Tests.{leb-true}
use lib.ListN.{length, take, drop}
use Rattle.little_endian.proofs.Stored.{stored-length}
use Rattle.std.specs.List.{zip, list_all}
use Rattle.test_laws.proofs.Tests.{both, on-cond}
use Rattle.flash.specs.Flash.{inside, writable, Written, write_of}

-- a new byte equals old AND new
abbrev pub clears : ℕ × ℕ → Bool
clears p = eqb p.1 (bit_and p.0 p.1)

-- no more new bytes than old ones: each beside its own
pub writable-by_pairs : (old new : List ℕ) → length new ≤ length old → list_all clears (zip old new) ≡ writable old new
unfolding writable
writable-by_pairs [] [] fits = refl
writable-by_pairs [] (n ∷ new) fits = absurd (omega arith)
writable-by_pairs (o ∷ old) [] fits = refl
writable-by_pairs (o ∷ old) (n ∷ new) fits = ap (λ (b : Bool). clears (o, n) && b) (writable-by_pairs old new (omega arith))

-- more new bytes than old ones
pub writable_short : (old new : List ℕ) → length old < length new → writable old new ≡ false
unfolding writable
writable_short old [] past = absurd (omega arith)
writable_short [] (n ∷ new) past = refl
writable_short (o ∷ old) (n ∷ new) past = ap (λ (b : Bool). clears (o, n) && b) (writable_short old new (omega arith)) ∙ and-false (clears (o, n))

-- what holds of a write that is done or not: the region keeps its length, and one that is not done leaves it
pub record Leaves (region : List ℕ) (w : Written) : Type 0 where
  pub long : length w.region ≡ length region
  pub kept : w.done ≡ false → w.region ≡ region

pub write-leaves : (new : List ℕ) (address : ℕ) (region : List ℕ) → Leaves region (write_of new address region)
unfolding write_of
write-leaves new address region =
    on-cond (Leaves region) _ _ _
    (λ e.
    let fits = leb-true _ _ (both (inside address (length new) (length region)) (writable (take (length new) (drop address region)) new) e).0 in
    record { long = stored-length address new region fits; kept = λ z. absurd (false≢true (sym z)) })
    (λ e. record { long = refl; kept = λ z. refl })
