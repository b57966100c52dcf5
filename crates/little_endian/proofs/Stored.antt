-- Laws of bytes stored at a place: as a lent part comes back, and one store behind another.
-- Assumes nothing.
use mathlib.Core.Path.{◌≡◌, refl, sym, ap, ap₂, ◌∙◌}
use mathlib.Core.Bool.{Bool, true, false, ◌&&◌}
use mathlib.Core.List.{List, [], ◌∷◌, ◌++◌, append-nil, append_assoc}
use Prim.Native.Nat.{ℕ, ◌+◌, ◌-◌, ◌≤◌, ◌<◌}
use native.Mathlib.Nat.{add_assoc, add-zero}
use native.Mathlib.Omega.{arith}
use borrow.Author.Tests.{le-leb, lt-leb, leb-true, leb-false, ltb-false}
use lib.Dec.{leb, ltb}
use lib.ListN.{length, get_or, take, drop, length-append, length-drop, drop_of_length-le, take-append-drop, get_or-append}
use lib.Seq.{take_all, take_at, drop_at, take-length, drop-drop, drop-append-add, length-take-le, get_or-take, get_or-drop, get_or-append-add}
use Rattle.little_endian.specs.Bytes.{stored_at, PutBehind, joined}

module _ (at : ℕ) (new old : List ℕ) (fits : at + length new ≤ length old) where
  -- new bytes that fit stand between what was before them and what was behind
  pub stored-between : stored_at at new old ≡ take at old ++ (new ++ drop (at + length new) old)
  unfolding stored_at
  stored-between = rw (le-leb (at + length new) (length old) fits)

  -- the part from a place on, lent to a copier and come back
  pub part-copied : take at old ++ ((take (length new) new ++ drop (length new) (take (length old - at) (drop at old))) ++ drop (length old - at) (drop at old))
      ≡ stored_at at new old
  part-copied =
      let lent : take (length old - at) (drop at old) ≡ drop at old = take_all (length old - at) (drop at old) (rw length-drop (omega arith)) in
      let past : drop (length old - at) (drop at old) ≡ [] = drop_of_length-le (drop at old) {i = length old - at} (rw length-drop (omega arith)) in
      rw (past, lent, take-length, drop-drop, append-nil) (sym stored-between)

  -- the part that as many new bytes take, lent to a copier and come back
  pub part-filled : take at old ++ (new ++ drop (at + length new - at) (drop at old)) ≡ stored_at at new old
  part-filled =
      let part : at + length new - at ≡ length new = omega arith in
      rw (part, drop-drop) (sym stored-between)

  front_length : length (take at old ++ new) ≡ at + length new
  front_length = length-append (take at old) new ∙ ap (λ (n : ℕ). n + length new) (length-take-le at old (omega arith))

  pub stored-length : length (stored_at at new old) ≡ length old
  stored-length =
      ap length (stored-between ∙ sym (append_assoc (take at old) new (drop (at + length new) old)))
      ∙ length-append (take at old ++ new) (drop (at + length new) old)
      ∙ rw (front_length, length-drop) (omega arith)

  -- what is behind them stays
  pub stored-behind : drop (at + length new) (stored_at at new old) ≡ drop (at + length new) old
  stored-behind =
      let behind = drop (at + length new) old in
      ap (drop (at + length new)) (stored-between ∙ sym (append_assoc (take at old) new behind)) ∙ drop_at (take at old ++ new) behind (at + length new) front_length

-- new bytes that do not fit are not stored
pub stored-not : (at : ℕ) (new old : List ℕ) → length old < at + length new → stored_at at new old ≡ old
unfolding stored_at
stored-not at new old past = rw (lt-leb (at + length new) (length old) past)

-- nothing stored, at any place
pub stored-nothing : (at : ℕ) (old : List ℕ) → stored_at at [] old ≡ old
stored-nothing at old = go (leb (at + 0) (length old)) refl
  where
    go : (t : Bool) → leb (at + 0) (length old) ≡ t → stored_at at [] old ≡ old
    go true e = stored-between at [] old (leb-true _ _ e) ∙ rw add-zero (take-append-drop at old)
    go false e = stored-not at [] old (leb-false _ _ e)

-- bytes stored where they stand already change nothing
pub stored_same : (at : ℕ) (new old : List ℕ) → at + length new ≤ length old → take (length new) (drop at old) ≡ new → stored_at at new old ≡ old
stored_same at new old fits same =
    stored-between at new old fits
    ∙ ap₂ (λ (x y : List ℕ). take at old ++ (x ++ y)) (sym same) (sym (drop-drop (length new) at old))
    ∙ ap (λ (x : List ℕ). take at old ++ x) (take-append-drop (length new) (drop at old))
    ∙ take-append-drop at old

-- bytes stored right behind others are stored with them
pub stored-joined : (at : ℕ) (x y old : List ℕ) → at + (length x + length y) ≤ length old
    → stored_at (at + length x) y (stored_at at x old) ≡ stored_at at (x ++ y) old
stored-joined at x y old fits =
    let first : at + length x ≤ length old = omega arith in
    let second : at + length x + length y ≤ length (stored_at at x old) = rw (stored-length at x old first) (omega arith) in
    let whole : at + length (x ++ y) ≤ length old = rw (length-append x y) fits in
    let front = take at old ++ x in
    let rest = drop (at + length x) old in
    let before : take (at + length x) (front ++ rest) ≡ front = take_at front rest (at + length x) (front_length at x old first) in
    let after : drop (at + length x + length y) (front ++ rest) ≡ drop (at + length (x ++ y)) old =
    rw (← front_length at x old first, drop-append-add, drop-drop, front_length at x old first, length-append x y, add_assoc) in
    stored-between (at + length x) y (stored_at at x old) second
    ∙ rw (stored-between at x old first, stored-between at (x ++ y) old whole, ← append_assoc (take at old) x, before, after) (simp append_assoc)

-- bytes put behind others are put with them
pub put_then : (x y : List ℕ) (n : ℕ) (old : List ℕ) (h : ℕ) (mid : List ℕ) (r : ℕ) (new : List ℕ)
    → PutBehind x n old h mid → PutBehind y h mid r new → n + (length x + length y) ≤ length old → PutBehind (x ++ y) n old r new
put_then x y n old h mid r new first second room = (
  second.0 ∙ rw (first.0, length-append x y) (omega arith),
  second.1 ∙ ap₂ (λ (at : ℕ) (l : List ℕ). stored_at at y l) first.0 first.1 ∙ stored-joined n x y old room,
)

-- lists stored one after the other, each right behind the one before
abbrev pub stored_in_turn : ℕ → List (List ℕ) → List ℕ → List ℕ
stored_in_turn at [] old = old
stored_in_turn at (x ∷ xs) old = stored_in_turn (at + length x) xs (stored_at at x old)

-- storing them one after the other stores them all
pub in-turn : (at : ℕ) (xs : List (List ℕ)) (old : List ℕ) → at + length (joined xs) ≤ length old
    → stored_in_turn at xs old ≡ stored_at at (joined xs) old
in-turn at [] old fits = sym (stored-nothing at old)
in-turn at (x ∷ xs) old fits =
    let room : at + (length x + length (joined xs)) ≤ length old = rw (← length-append x (joined xs)) fits in
    in-turn (at + length x) xs (stored_at at x old) (rw (stored-length at x old (omega arith)) (omega arith))
    ∙ stored-joined at x (joined xs) old room

-- ---- byte by byte

module _ (at : ℕ) (new old : List ℕ) (a : ℕ) (fits : at + length new ≤ length old) where
  -- the three parts, and where the second begins
  abbrev parts : List ℕ
  parts = take at old ++ (new ++ drop (at + length new) old)

  long : length (take at old) ≡ at
  long = length-take-le at old (omega arith)

  part : get_or (stored_at at new old) a 0 ≡ get_or parts a 0
  part = ap (λ (l : List ℕ). get_or l a 0) (stored-between at new old fits)

  behind_first : at ≤ a → get_or parts a 0 ≡ get_or (new ++ drop (at + length new) old) (a - at) 0
  behind_first past =
      let place : a ≡ length (take at old) + (a - at) = rw long (omega arith) in
      ap (λ (m : ℕ). get_or parts m 0) place ∙ get_or-append-add (take at old) (new ++ drop (at + length new) old) (a - at) 0

  -- a new byte
  pub stored-inside : at ≤ a → a < at + length new → get_or (stored_at at new old) a 0 ≡ get_or new (a - at) 0
  stored-inside low high = part ∙ behind_first low ∙ get_or-append new (drop (at + length new) old) 0 (a - at) (omega arith)

  -- one that stays
  pub stored-outside : (leb at a && ltb a (at + length new)) ≡ false → get_or (stored_at at new old) a 0 ≡ get_or old a 0
  stored-outside outside = go (leb at a) refl outside
    where
      go : (t : Bool) → leb at a ≡ t → (t && ltb a (at + length new)) ≡ false → get_or (stored_at at new old) a 0 ≡ get_or old a 0
      go true e o =
          let low : at ≤ a = leb-true _ _ e in
          let past : at + length new ≤ a = ltb-false _ _ o in
          let place : a - at ≡ length new + (a - at - length new) = omega arith in
          let back : at + length new + (a - at - length new) ≡ a = omega arith in
          part ∙ behind_first low ∙ ap (λ (m : ℕ). get_or (new ++ drop (at + length new) old) m 0) place
          ∙ get_or-append-add new (drop (at + length new) old) (a - at - length new) 0
          ∙ get_or-drop (at + length new) old (a - at - length new) 0
          ∙ ap (λ (m : ℕ). get_or old m 0) back
      go false e o =
          let before : a < at = leb-false _ _ e in
          part ∙ get_or-append (take at old) (new ++ drop (at + length new) old) 0 a (omega (arith, before, long)) ∙ get_or-take at old a 0 before
