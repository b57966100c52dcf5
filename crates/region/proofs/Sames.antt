-- The test of two lists is true exactly if they are one.
-- Assumes nothing.
use Prim.Native.Nat.{ℕ}
use mathlib.Core.Path.{◌≡◌, refl, sym, ap, ◌∙◌}
use mathlib.Core.List.{List, [], ◌∷◌}
use mathlib.Core.Bool.{Bool, true, false, false≢true}
use lib.Dec.{eqb}
use borrow.Author.Tests.{eqb-true, eq-eqb}
use Rattle.test_laws.proofs.Tests.{both}
use Rattle.region.specs.Same.{same}

same_refl : (l : List ℕ) → same l l ≡ true
unfolding same
same_refl [] = refl
same_refl (a ∷ l) = rw (eq-eqb a a refl, same_refl l)

pub same-eq : (l m : List ℕ) → same l m ≡ true → l ≡ m
unfolding same
same-eq [] [] e = refl
same-eq [] (b ∷ m) e = absurd (false≢true e)
same-eq (a ∷ l) [] e = absurd (false≢true e)
same-eq (a ∷ l) (b ∷ m) e =
    let t = both (eqb a b) (same l m) e in
    ap (◌∷ l) (eqb-true a b t.0) ∙ ap (b ∷◌) (same-eq l m t.1)

pub same_true : (l m : List ℕ) → l ≡ m → same l m ≡ true
same_true l m e = ap (same l) (sym e) ∙ same_refl l

pub same_false : (l m : List ℕ) → (l ≡ m → ⊥) → same l m ≡ false
same_false l m n = go (same l m) refl
  where
    go : (t : Bool) → same l m ≡ t → same l m ≡ false
    go true e = absurd (n (same-eq l m e))
    go false e = e
