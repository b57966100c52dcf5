-- Tests that are joined, choices by a test, and tests that are computed at every number below a bound.
-- Assumes nothing.
use mathlib.Core.Path.{◌≡◌, refl}
use mathlib.Core.Bool.{Bool, true, false, cond, not, ◌&&◌, ◌||◌, beq, false≢true}
use mathlib.Core.Logic.{⊎_elim}
use Prim.Native.Nat.{ℕ, zero, suc, ◌<◌}
use native.Mathlib.Nat.{le_of_suc-le-suc, not-suc-le-zero, eq-or-lt_of_le}

-- both tests of a conjunction hold
pub both : (a b : Bool) → a && b ≡ true → (a ≡ true) × (b ≡ true)
both true b e = (refl, e)
both false b e = absurd (false≢true e)

-- a test that is asked only where another holds
pub there : (a b : Bool) → a ≡ true → not a || b ≡ true → b ≡ true
there a b h e = rw h at e

-- what holds of each case of a choice, where the test picks it, holds of the choice
pub on-cond : {A : Type 0} (P : A → Type 0) (test : Bool) (x y : A) → (test ≡ true → P x) → (test ≡ false → P y) → P (cond test x y)
on-cond P true x y hx hy = hx refl
on-cond P false x y hx hy = hy refl

-- two tests that are found equal are equal
pub beq-eq : (a b : Bool) → beq a b ≡ true → a ≡ b
beq-eq true true h = refl
beq-eq true false h = absurd (false≢true h)
beq-eq false true h = absurd (false≢true h)
beq-eq false false h = refl

-- a test at every number below another
abbrev pub every_below : ℕ → (ℕ → Bool) → Bool
every_below zero test = true
every_below (suc n) test = test n && every_below n test

pub below : (n : ℕ) (test : ℕ → Bool) → every_below n test ≡ true → (k : ℕ) → k < n → test k ≡ true
below zero test t k h = absurd (not-suc-le-zero h)
below (suc n) test t k h =
    let p = both (test n) (every_below n test) t in
    ⊎_elim (λ e. rw e p.0) (λ l. below n test p.1 k l) (eq-or-lt_of_le (le_of_suc-le-suc h))
