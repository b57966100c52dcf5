-- Stretches of a region, one behind the other, are joined as their bytes are.
-- Assumes nothing.
use mathlib.Core.Path.{◌≡◌, refl, sym, ap, ◌∙◌}
use mathlib.Core.Bool.{Bool, true, false, cond}
use mathlib.Core.List.{List, [], ◌∷◌, ◌++◌}
use Prim.Native.Nat.{ℕ, ◌+◌, ◌≤◌}
use native.Mathlib.Nat.{add-zero}
use native.Mathlib.Omega.{arith}
use borrow.Author.Tests.{leb-true, le-leb}
use lib.ListN.{length, take, drop, length-drop}
use lib.Seq.{take-add, drop-drop, length-take-le}
use Rattle.std.proofs.lemmas.Option.{none-some}
use Rattle.std.specs.Prelude.{Option, Some, None}
use Rattle.std.specs.Option.{unwrap_or}
use Rattle.crc.specs.Crc.{checksum_of, joined_of, register, bit_string, bits_in}
use Rattle.crc.proofs.Linear.{joins}
use Rattle.flash.specs.Flash.{inside, range_of}
use Rattle.flash.specs.Stretches.{Stretch, Answered, bytes_in, joined_all, StretchesJoin}

-- a range that has a checksum is inside, and has that of its bytes
answered : (within : Bool) (sum said : ℕ) → cond within (Some sum) None ≡ Some said → (within ≡ true) × (sum ≡ said)
answered true sum said h = (refl, ap (λ (o : Option ℕ). unwrap_or o 0) h)
answered false sum said h = absurd (none-some said h)

-- no bytes from inside the region have the checksum that every check starts at
nothing : (address : ℕ) (region : List ℕ) → address ≤ length region → range_of address 0 region ≡ Some 0xFFFF
unfolding range_of register bit_string bits_in
nothing address region h =
    let within : inside address 0 (length region) ≡ true = le-leb (address + 0) (length region) (omega arith) in
    simp within refl

-- two ranges, one behind the other
two-join : (address n m first second : ℕ) (region : List ℕ)
    → range_of address n region ≡ Some first → range_of (address + n) m region ≡ Some second
    → range_of address (n + m) region ≡ Some (joined_of first second m)
unfolding range_of
two-join address n m first second region one other =
    let x = take n (drop address region) in
    let y = take m (drop (address + n) region) in
    let a = answered (inside address n (length region)) (checksum_of x) first one in
    let b = answered (inside (address + n) m (length region)) (checksum_of y) second other in
    let fits : address + n + m ≤ length region = leb-true _ _ b.0 in
    let within : inside address (n + m) (length region) ≡ true = le-leb (address + (n + m)) (length region) (omega arith) in
    let parts : take (n + m) (drop address region) ≡ x ++ y =
    take-add n m (drop address region) ∙ ap (λ (l : List ℕ). x ++ take m l) (drop-drop n address region) in
    let long : length y ≡ m = length-take-le m (drop (address + n) region) (omega (arith, length-drop (address + n) region)) in
    simp within (ap Some
    (ap checksum_of parts ∙ sym (joins 16 0x1021 0xFFFF x y) ∙ rw (a.1, b.1, long)))

-- behind a range of n bytes whose checksum is known
behind-join : (address n first : ℕ) (stretches : List Stretch) (region : List ℕ)
    → range_of address n region ≡ Some first → Answered (address + n) stretches region
    → range_of address (n + bytes_in stretches) region ≡ Some (joined_all first stretches)
behind-join address n first [] region known answers = ap (λ (k : ℕ). range_of address k region) (add-zero n) ∙ known
behind-join address n first (s ∷ stretches) region known answers =
    let next : address + n + s.count ≡ address + (n + s.count) = omega arith in
    let all : n + (s.count + bytes_in stretches) ≡ n + s.count + bytes_in stretches = omega arith in
    let rest : Answered (address + (n + s.count)) stretches region = rw (sym next) answers.1 in
    ap (λ (k : ℕ). range_of address k region) all
    ∙ behind-join address (n + s.count) (joined_of first s.sum s.count) stretches region
    (two-join address n s.count first s.sum region known answers.0) rest

pub stretches-join : StretchesJoin
stretches-join address stretches region h answers =
    let here : Answered (address + 0) stretches region = rw (add-zero address) answers in
    let all : bytes_in stretches ≡ 0 + bytes_in stretches = omega arith in
    ap (λ (k : ℕ). range_of address k region) all ∙ behind-join address 0 0xFFFF stretches region (nothing address region h) here
