-- Three runs, address by address: one over zeros, one over 0xFF and any other have the same byte (known), or 0x00, 0xFF and anything (untouched).
-- Assumes nothing.
use mathlib.Core.Path.{◌≡◌, refl, sym, ap}
use mathlib.Core.Bool.{true, false, false≢true}
use mathlib.Core.List.{List, [], ◌∷◌, ◌++◌, head-eq_of_cons-eq, tail-eq_of_cons-eq}
use Prim.Native.Nat.{ℕ, zero, suc, ◌+◌, ◌≤◌}
use native.Mathlib.Nat.{suc_inj, suc-ne-zero}
use native.Mathlib.Omega.{arith}
use borrow.Author.Tests.{eqb-true, eqb-false, eq-eqb}
use lib.Bits.{bit_and, and_zero_r}
use lib.Dec.{eqb}
use lib.ListN.{length, get_or, take, drop, replicate}
use Rattle.flash.specs.Flash.{writable}
use Rattle.little_endian.specs.Bytes.{stored_at}
use Rattle.little_endian.proofs.Stored.{stored-between}
use Rattle.test_laws.proofs.Tests.{both}
use Rattle.delivery.specs.Beside.{Agree, nothing, known, untouched}

pub agree-start : (n : ℕ) (r : List ℕ) → length r ≡ n → Agree (replicate n 0x00) (replicate n 0xFF) r
agree-start zero [] h = nothing
agree-start zero (x ∷ r) h = absurd (suc-ne-zero (length r) h)
agree-start (suc n) [] h = absurd (suc-ne-zero n (sym h))
agree-start (suc n) (x ∷ r) h = untouched (agree-start n r (suc_inj h))

-- one run three times
pub agree_same : (x : List ℕ) → Agree x x x
agree_same [] = nothing
agree_same (x ∷ xs) = known (agree_same xs)

-- the run over 0xFF is one of the others
pub agree-ones : {z f r : List ℕ} → Agree z f r → Agree z f f
agree-ones nothing = nothing
agree-ones (known a) = known (agree-ones a)
agree-ones (untouched a) = untouched (agree-ones a)

pub length-other : {z f r : List ℕ} → Agree z f r → length r ≡ length z
length-other nothing = refl
length-other (known a) = ap suc (length-other a)
length-other (untouched a) = ap suc (length-other a)

pub agree-take : (n : ℕ) {z f r : List ℕ} → Agree z f r → Agree (take n z) (take n f) (take n r)
agree-take zero a = nothing
agree-take (suc n) nothing = nothing
agree-take (suc n) (known a) = known (agree-take n a)
agree-take (suc n) (untouched a) = untouched (agree-take n a)

pub agree-drop : (n : ℕ) {z f r : List ℕ} → Agree z f r → Agree (drop n z) (drop n f) (drop n r)
agree-drop zero a = a
agree-drop (suc n) nothing = nothing
agree-drop (suc n) (known a) = agree-drop n a
agree-drop (suc n) (untouched a) = agree-drop n a

agree-append : {z f r z' f' r' : List ℕ} → Agree z f r → Agree z' f' r' → Agree (z ++ z') (f ++ f') (r ++ r')
agree-append nothing b = b
agree-append (known a) b = known (agree-append a b)
agree-append (untouched a) b = untouched (agree-append a b)

-- bytes stored in all three are known
pub agree-stored : (at : ℕ) (new : List ℕ) {z f r : List ℕ} → Agree z f r → at + length new ≤ length z → Agree (stored_at at new z) (stored_at at new f) (stored_at at new r)
agree-stored at new {z} {f} {r} a fits =
    rw (stored-between at new z fits, stored-between at new f (rw (length-other (agree-ones a)) fits), stored-between at new r (rw (length-other a) fits))
    (agree-append (agree-take at a) (agree-append (agree_same new) (agree-drop (at + length new) a)))

-- an erase leaves everything known
pub agree-erased : {z f r : List ℕ} → Agree z f r → Agree (replicate (length z) 0xFF) (replicate (length f) 0xFF) (replicate (length r) 0xFF)
agree-erased {z} a = rw (length-other (agree-ones a), length-other a) (agree_same (replicate (length z) 0xFF))

-- where the runs over zeros and over 0xFF have the same bytes, so has any other
pub agree-equal : {z f r : List ℕ} → Agree z f r → z ≡ f → r ≡ z
agree-equal nothing h = refl
agree-equal (known {x = x} a) h = ap (x ∷◌) (agree-equal a (tail-eq_of_cons-eq h))
agree-equal (untouched a) h = absurd (let differ : ◌≡◌ {A = ℕ} 0x00 0xFF = head-eq_of_cons-eq h in omega arith)

-- where the runs over zeros and over 0xFF differ, the first has 0x00
pub agree-unknown : {z f r : List ℕ} → Agree z f r → (a : ℕ) → eqb (get_or z a 0) (get_or f a 0) ≡ false → get_or z a 0 ≡ 0
agree-unknown nothing a e = refl
agree-unknown (known {x = x} t) zero e = absurd (eqb-false x x e refl)
agree-unknown (known t) (suc a) e = agree-unknown t a e
agree-unknown (untouched t) zero e = refl
agree-unknown (untouched t) (suc a) e = agree-unknown t a e

-- and where they have the same byte, so has any other
pub agree-known : {z f r : List ℕ} → Agree z f r → (a : ℕ) → eqb (get_or z a 0) (get_or f a 0) ≡ true → get_or r a 0 ≡ get_or z a 0
agree-known nothing a e = refl
agree-known (known t) zero e = refl
agree-known (known t) (suc a) e = agree-known t a e
agree-known (untouched t) zero e = absurd (false≢true e)
agree-known (untouched t) (suc a) e = agree-known t a e

-- what may be written over the run over zeros may be written over any: a 0x00 takes only 0, and 0 goes over anything
pub writable_other : {z f r : List ℕ} → Agree z f r → (new : List ℕ) → writable z new ≡ true → writable r new ≡ true
unfolding writable
writable_other a [] h = refl
writable_other nothing (d ∷ new) h = h
writable_other (known {x = x} {z = z} a) (d ∷ new) h =
    let t = both (eqb d (bit_and x d)) (writable z new) h in
    rw (t.0, writable_other a new t.1)
writable_other (untouched {x = x} {z = z} a) (d ∷ new) h =
    let t = both (eqb d (bit_and 0x00 d)) (writable z new) h in
    let zero-byte : d ≡ 0 = eqb-true d 0 t.0 in
    rw (eq-eqb d (bit_and x d) (rw zero-byte (sym (and_zero_r x))), writable_other a new t.1)
