-- Laws of lists of packets: the framing from an offset on, one packet more or none, and where the last packet of a list ends.
-- Assumes nothing.
use mathlib.Core.Path.{◌≡◌, refl, sym, ap, subst, ◌∙◌}
use mathlib.Core.List.{List, [], ◌∷◌, map}
use Prim.Native.Nat.{ℕ, suc, ◌+◌, ◌-◌, ◌≤◌}
use native.Mathlib.Nat.{add_assoc}
use native.Mathlib.Omega.{arith}
use lib.ListN.{length, take, drop, length-append, length-drop}
use lib.Seq.{length-take-le, drop-drop}
use Rattle.std.proofs.lemmas.Option.{none-some}
use Rattle.std.specs.Option.{option_map, unwrap_or}
use Rattle.std.specs.Prelude.{Option, Some, None}
use Rattle.std.proofs.lemmas.Iterator.{items_from_drains}
use Rattle.std.proofs.lemmas.Iterator.Consumers.{YieldsList-from_first}
use Rattle.std.specs.Iterator.{Drains, YieldsFirstBy}
use Rattle.std.specs.List.{last_or}
use Rattle.std.specs.Prelude.{MatchOption}
use Rattle.little_endian.specs.Bytes.{joined}
use Rattle.script.specs.Script.{frame_length, front_of, frames_of}
use Rattle.script.proofs.Framing.{front_cut, front-whole, frames-end, frames-next, frames-few, frames-cut}
use Rattle.tool_words.specs.Packets.{packets_from, packets_of, packet_of, most, Listed, listed}

module _ (at : ℕ) (script : List ℕ) where
  -- no packet at an offset, and so none from there on
  pub none-listed : packet_of at script ≡ None → packets_from at script ≡ []
  none-listed = go (front_of (drop at script)) refl
    where
      go : (front : Option ℕ) → front_of (drop at script) ≡ front → option_map (λ n. take n (drop at script)) front ≡ None → packets_from at script ≡ []
      go None is e = ap (λ f. f.packets) (frames-end (drop at script) (front_cut (drop at script) is))
      go (Some k) is e = absurd (none-some _ (sym e))

  -- a packet at an offset, and then those behind it
  pub next-listed : (packet : List ℕ) → packet_of at script ≡ Some packet → packets_from at script ≡ packet ∷ packets_from (at + length packet) script
  next-listed packet = go (front_of (drop at script)) refl
    where
      go : (front : Option ℕ) → front_of (drop at script) ≡ front → option_map (λ n. take n (drop at script)) front ≡ Some packet
          → packets_from at script ≡ packet ∷ packets_from (at + length packet) script
      go None is e = absurd (none-some _ e)
      go (Some k) is e =
          let whole = front-whole (drop at script) k is in
          let first : take k (drop at script) ≡ packet = ap (λ (o : Option (List ℕ)). unwrap_or o []) e in
          let framed : frame_length (drop at script) ≡ k = sym whole.0 in
          let long : length packet ≡ k = ap length (sym first) ∙ length-take-le k (drop at script) (omega (arith, whole.0, whole.1)) in
          ap (λ f. f.packets) (frames-next (drop at script) whole.1) ∙ rw (framed, long, drop-drop, first) refl

pub length-listed : (number at : ℕ) (packets : List (List ℕ)) → length (listed number at packets) ≡ length packets
length-listed number at [] = refl
length-listed number at (packet ∷ packets) = ap suc (length-listed (most (number + 1)) (at + length packet) packets)

-- behind a packet that ends at an offset, the last of a list from there on ends where all of them do, joined
end_behind : (N : Type 0) (number at : ℕ) (packets : List (List ℕ)) (before : Listed) → before.at + length before.bytes ≡ at
    → MatchOption (last_or (Some before) (listed number at packets)) N (λ last. last.at + length last.bytes ≡ at + length (joined packets))
end_behind N number at [] before ends = omega (arith, ends)
end_behind N number at (packet ∷ packets) before ends =
    rw (length-append packet (joined packets), ← add_assoc at (length packet) (length (joined packets)))
    (end_behind N (most (number + 1)) (at + length packet) packets (record { number = most (number + 1); at = at; bytes = packet }) refl)

end-listed : (number at : ℕ) (packets : List (List ℕ))
    → MatchOption (last_or None (listed number at packets)) (packets ≡ []) (λ last. last.at + length last.bytes ≡ at + length (joined packets))
end-listed number at [] = refl
end-listed number at (packet ∷ packets) =
    rw (length-append packet (joined packets), ← add_assoc at (length packet) (length (joined packets)))
    (end_behind ((packet ∷ packets) ≡ []) (most (number + 1)) (at + length packet) packets
    (record { number = most (number + 1); at = at; bytes = packet }) refl)

-- the last of a list, seen by a function
module _ {A B : Type 0} (view : A → B) where
  last-viewed : (before : Option A) (items : List A) → last_or (option_map view before) (map view items) ≡ option_map view (last_or before items)
  last-viewed before [] = refl
  last-viewed before (item ∷ items) = last-viewed (Some item) items

  match-viewed : (o : Option A) (N : Type 0) (P : B → Type 0) → MatchOption (option_map view o) N P → MatchOption o N (λ x. P (view x))
  match-viewed None N P holds = holds
  match-viewed (Some x) N P holds = holds

-- the same of items that are listed as these packets are
pub end-seen : {A : Type 0} (view : A → Listed) (items : List A) (number at : ℕ) (packets : List (List ℕ)) → map view items ≡ listed number at packets
    → MatchOption (last_or None items) (packets ≡ []) (λ last. (view last).at + length (view last).bytes ≡ at + length (joined packets))
end-seen view items number at packets same =
    match-viewed view (last_or None items) (packets ≡ []) (λ last. last.at + length last.bytes ≡ at + length (joined packets))
    (subst (λ (o : Option Listed). MatchOption o (packets ≡ []) (λ last. last.at + length last.bytes ≡ at + length (joined packets)))
    (sym (ap (last_or None) same) ∙ last-viewed view None items) (end-listed number at packets))

-- the items that a run took are all that there were
pub seen-all : {S A B : Type 0} (view : A → B) (rest : S → List B) (s : S) (all : List B) → rest s ≡ all
    → (items : List A) → Drains (YieldsFirstBy view rest) s items → map view items ≡ all
seen-all view rest s all is items ran = items_from_drains items (ran.1.0, ran.1.1, λ w. (ran.0, ran.1.2)) (YieldsList-from_first view rest all is)

-- there are no more packets than bytes, and joined they are no longer
pub few-packets : (script : List ℕ) → length (packets_of script) ≤ length script
few-packets script = omega (arith, frames-few (drop 5 script), length-drop 5 script)

pub short-packets : (script : List ℕ) → length (joined (packets_of script)) ≤ length script - 5
short-packets script =
    let f = frames_of (drop 5 script) in
    let long = ap length (frames-cut (drop 5 script)).joins in
    omega (arith, long, length-append (joined f.packets) f.rest, length-drop 5 script)
