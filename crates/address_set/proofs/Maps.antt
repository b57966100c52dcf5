-- A bit of a map, set and tested. What happens to a byte is computed at all bytes and bits.
-- Assumes nothing.
use Prim.Native.Nat.{ℕ, ◌+◌, ◌*◌, ◌/◌, ◌%◌, ◌^◌, ◌<◌, ◌≤◌}
use mathlib.Core.Path.{◌≡◌, refl, sym, ap, ◌∙◌}
use mathlib.Core.List.{List}
use mathlib.Core.Bool.{Bool, true, false, ◌&&◌, ◌||◌, not, beq}
use native.Mathlib.Omega.{arith}
use native.Mathlib.Nat.{zero-div}
use lib.ListN.{length, set, get_or, replicate, get_or-replicate, get_or-eq_default, length-replicate}
use lib.Seq.{get_or-set_same, get_or-set_other}
use lib.Dec.{ltb, eqb}
use borrow.Author.Tests.{ltb-true, ltb-false, eqb-true, eqb-false, eq-eqb, ne_eqb, lt-ltb, le-ltb}
use Rattle.test_laws.proofs.Tests.{beq-eq, both, there, every_below, below}
use Rattle.address_set.specs.Bits.{marked, Marked}

-- the bit k of a byte
abbrev bit : ℕ → ℕ → Bool
bit w k = eqb (w / 2 ^ k % 2) 1

-- the byte with the bit k added
abbrev with : ℕ → ℕ → ℕ
with w k = w + 1 * 2 ^ k % 256

-- a byte whose bit k is clear has that bit besides, once it is added, and stays a byte
right : ℕ → ℕ → Bool
right w k = not (not (bit w k)) || (ltb (with w k) 256 && every_below 8 (λ j. beq (bit (with w k) j) (eqb j k || bit w j)))

table : every_below 256 (λ w. every_below 8 (λ k. right w k)) ≡ true
unfolding right
table = refl

module _ (w k : ℕ) (hw : w < 256) (hk : k < 8) (clear : bit w k ≡ false) where
  known : (ltb (with w k) 256 && every_below 8 (λ j. beq (bit (with w k) j) (eqb j k || bit w j))) ≡ true
  unfolding right
  known =
      there (not (bit w k)) (ltb (with w k) 256 && every_below 8 (λ j. beq (bit (with w k) j) (eqb j k || bit w j))) (ap not clear)
      (below 8 (λ m. right w m) (below 256 (λ x. every_below 8 (λ m. right x m)) table w hw) k hk)

  pub with-fits : with w k < 256
  with-fits = ltb-true _ _ (both (ltb (with w k) 256) (every_below 8 (λ j. beq (bit (with w k) j) (eqb j k || bit w j))) known).0

  with-bit : (j : ℕ) → j < 8 → bit (with w k) j ≡ (eqb j k || bit w j)
  with-bit j hj = beq-eq _ _ (below 8 (λ i. beq (bit (with w k) i) (eqb i k || bit w i)) (both (ltb (with w k) 256) (every_below 8 (λ i. beq (bit (with w k) i) (eqb i k || bit w i))) known).1 j hj)

-- equal quotients: equal numbers exactly when equal remainders
same-quotient : (a b : ℕ) → b / 8 ≡ a / 8 → eqb (b % 8) (a % 8) ≡ eqb b a
same-quotient a b q = go (eqb b a) refl
  where
    go : (t : Bool) → eqb b a ≡ t → eqb (b % 8) (a % 8) ≡ eqb b a
    go true e = eq-eqb (b % 8) (a % 8) (omega (arith, eqb-true b a e)) ∙ sym e
    go false e = ne_eqb (b % 8) (a % 8) (λ (r : b % 8 ≡ a % 8). eqb-false b a e (omega arith)) ∙ sym e

and_right : (t : Bool) → t ≡ (t && true)
and_right true = refl
and_right false = refl

and_none : (t : Bool) → (t && false) ≡ false
and_none true = refl
and_none false = refl

-- the set with the address, where the map has a bit for it
here : (map new : List ℕ) (a : ℕ) → a / 8 < length map → ((b : ℕ) → marked new b ≡ (eqb b a || marked map b)) → Marked map new a
here map new a h f =
    record { bits = λ b. f b ∙ ap (λ (t : Bool). t || marked map b) (and_right (eqb b a) ∙ ap (λ (t : Bool). eqb b a && t) (sym (lt-ltb _ _ h))) }

-- and what a caller knows of the set then
pub marked_more : (map new : List ℕ) (a : ℕ) → a / 8 < length map → Marked map new a → (b : ℕ) → marked new b ≡ (eqb b a || marked map b)
marked_more map new a h m b =
    m.bits b ∙ ap (λ (t : Bool). t || marked map b) (ap (λ (t : Bool). eqb b a && t) (lt-ltb _ _ h) ∙ sym (and_right (eqb b a)))

-- the bit was clear, and is set
pub mark-clear : (map : List ℕ) (a : ℕ) → a / 8 < length map → get_or map (a / 8) 0 < 256 → bit (get_or map (a / 8) 0) (a % 8) ≡ false
    → Marked map (set map (a / 8) (with (get_or map (a / 8) 0) (a % 8))) a
unfolding marked
mark-clear map a h hw clear = here map new a h (λ b. go b (eqb (b / 8) (a / 8)) refl)
  where
    new : List ℕ
    new = set map (a / 8) (with (get_or map (a / 8) 0) (a % 8))

    go : (b : ℕ) (t : Bool) → eqb (b / 8) (a / 8) ≡ t → marked new b ≡ (eqb b a || marked map b)
    go b true e =
        let q : b / 8 ≡ a / 8 = eqb-true _ _ e in
        ap (λ (i : ℕ). bit (get_or new i 0) (b % 8)) q
        ∙ ap (λ (x : ℕ). bit x (b % 8)) (get_or-set_same map (a / 8) (with (get_or map (a / 8) 0) (a % 8)) 0 h)
        ∙ with-bit (get_or map (a / 8) 0) (a % 8) hw (omega arith) clear (b % 8) (omega arith)
        ∙ ap (λ (x : Bool). x || bit (get_or map (a / 8) 0) (b % 8)) (same-quotient a b q)
        ∙ ap (λ (i : ℕ). eqb b a || bit (get_or map i 0) (b % 8)) (sym q)
    go b false e =
        let n : b / 8 ≡ a / 8 → ⊥ = eqb-false _ _ e in
        ap (λ (x : ℕ). bit x (b % 8)) (get_or-set_other map (a / 8) (b / 8) (with (get_or map (a / 8) 0) (a % 8)) 0 n)
        ∙ ap (λ (x : Bool). x || marked map b) (sym (ne_eqb b a (λ i. n (ap (λ (x : ℕ). x / 8) i))))

-- the bit was set, and the map is as it was
pub mark_set : (map : List ℕ) (a : ℕ) → a / 8 < length map → marked map a ≡ true → Marked map map a
mark_set map a h e = here map map a h (λ b. go b (eqb b a) refl)
  where
    go : (b : ℕ) (t : Bool) → eqb b a ≡ t → marked map b ≡ (eqb b a || marked map b)
    go b true i = (ap (marked map) (eqb-true b a i) ∙ e) ∙ ap (λ (x : Bool). x || marked map b) (sym i)
    go b false i = ap (λ (x : Bool). x || marked map b) (sym i)

zero_bit : (k x : ℕ) → x ≡ 0 → bit x k ≡ false
zero_bit k x e = ap (λ (y : ℕ). eqb (y % 2) 1) (ap (λ (y : ℕ). y / 2 ^ k) e ∙ zero-div (2 ^ k))

-- an address for which the map has no bit
pub behind_end : (map : List ℕ) (a : ℕ) → length map ≤ a / 8 → marked map a ≡ false
unfolding marked
behind_end map a h = zero_bit (a % 8) _ (get_or-eq_default map 0 h)

pub mark-none : (map : List ℕ) (a : ℕ) → length map ≤ a / 8 → Marked map map a
mark-none map a h =
    record { bits = λ b. ap (λ (t : Bool). t || marked map b) (sym (ap (λ (t : Bool). eqb b a && t) (le-ltb _ _ h) ∙ and_none (eqb b a))) }

-- the empty set
pub unmarked : (n a : ℕ) → marked (replicate n 0) a ≡ false
unfolding marked
unmarked n a = go (ltb (a / 8) n) refl
  where
    go : (t : Bool) → ltb (a / 8) n ≡ t → bit (get_or (replicate n 0) (a / 8) 0) (a % 8) ≡ false
    go true e = zero_bit (a % 8) _ (get_or-replicate n (a / 8) 0 0 (ltb-true _ _ e))
    go false e = zero_bit (a % 8) _ (get_or-eq_default (replicate n 0) 0 (rw (length-replicate {A = ℕ} n 0) (ltb-false _ _ e)))
