-- Laws of packets put one behind another, and the parts of a script as they are put.
-- Assumes nothing.
use mathlib.Core.Path.{◌≡◌, refl, sym, ap, ◌∙◌}
use mathlib.Core.List.{List, [], ◌∷◌, ◌++◌, append-nil, append_assoc}
use Prim.Native.Nat.{ℕ, ◌+◌, ◌-◌, ◌≤◌, ◌<◌}
use native.Mathlib.Omega.{arith}
use borrow.Author.Tests.{le-leb, lt-leb}
use lib.Dec.{leb}
use lib.ListN.{length, take, drop, replicate, length-append, length-drop, length-replicate, drop_of_length-le}
use lib.Seq.{length-take-le, drop-drop}
use Rattle.firmware_text.specs.Image.{Image}
use Rattle.firmware_text.specs.Segments.{segments_of}
use Rattle.little_endian.specs.Bytes.{stored_at}
use Rattle.little_endian.proofs.Stored.{stored-between, stored-nothing, put_then}
use Rattle.packet.specs.Packet.{packet_of, longest_core, write_of}
use Rattle.packet.proofs.Written.{packet-length, packet-fills}
use Rattle.script.specs.Page.{addressed, writes_of, packets_of, page_script}
use Rattle.script.specs.Script.{head}
use Rattle.test_laws.proofs.Tests.{on-cond}
use Rattle.script.proofs.Pages.{packets-append}
use Rattle.planner.specs.Walk.{PutIfRoom, packet_from, front}

module _ (least : ℕ) (core : List ℕ) where
  pub packet-none : length core < least → packet_from least core ≡ []
  unfolding packet_from
  packet-none short = rw (lt-leb least (length core) short) refl

  pub packet-some : least ≤ length core → packet_from least core ≡ packet_of core
  unfolding packet_from
  packet-some long = rw (le-leb least (length core) long) refl

  pub packet-short : length (packet_from least core) ≤ length core + 5
  unfolding packet_from
  packet-short =
      on-cond (λ l. length l ≤ length core + 5) (leb least (length core)) (packet_of core) [] (λ _. omega (arith, packet-length core))
      (λ _. omega arith)

-- a packet written over a part of a buffer that is as long as it
pub packet-part : (n : ℕ) (core out : List ℕ) → 1 ≤ length core → length core ≤ longest_core → n + length core + 5 ≤ length out
    → take n out ++ ((write_of core (take (n + length core + 5 - n) (drop n out))).buffer ++ drop (n + length core + 5 - n) (drop n out))
    ≡ stored_at n (packet_of core) out
packet-part n core out some small room =
    let long = packet-length core in
    let part : n + length core + 5 - n ≡ length (packet_of core) = omega (arith, long) in
    let sized : length (take (length (packet_of core)) (drop n out)) ≡ length core + 5 =
    length-take-le (length (packet_of core)) (drop n out) (rw (length-drop n out) (omega (arith, long))) ∙ long in
    rw (part, packet-fills core _ some small sized, drop-drop) (sym (stored-between n (packet_of core) out (omega (arith, long))))

-- bytes put behind others are put with them
pub room-then : (x y : List ℕ) (n : ℕ) (old : List ℕ) (h : ℕ) (mid : List ℕ) (r : ℕ) (new : List ℕ) → length mid ≡ length old
    → PutIfRoom x n old h mid → PutIfRoom y h mid r new → PutIfRoom (x ++ y) n old r new
room-then x y n old h mid r new sized first second = (
  second.0 ∙ rw (first.0, length-append x y) (omega arith),
  λ room.
      let fits : n + (length x + length y) ≤ length old = rw (length-append x y) at room in
      (put_then x y n old h mid r new (first.0, first.1 (omega arith)) (second.0, second.1 (omega (arith, first.0))) fits).1,
)

-- nothing put behind
pub room-nothing : (n : ℕ) (old : List ℕ) → PutIfRoom [] n old n old
room-nothing n old = (omega arith, λ room. sym (stored-nothing n old))

-- ---- the parts of a script

-- a password stored behind its code
pub unlock-core : (password : List ℕ) → length password ≡ 256 → stored_at 1 password (replicate 257 0x21) ≡ 0x21 ∷ password
unlock-core password wide =
    let old = replicate {A = ℕ} 257 0x21 in
    let all = length-replicate {A = ℕ} 257 0x21 in
    stored-between 1 password old (omega (arith, all))
    ∙ ap (λ (l : List ℕ). 0x21 ∷ (password ++ l)) (drop_of_length-le old {i = 1 + length password} (omega (arith, all)))
    ∙ ap (0x21 ∷◌) (append-nil password)

-- the beginning of a script: head, password, erase
pub front-parts : (password unlock : List ℕ) → unlock ≡ 0x21 ∷ password
    → (head ++ packet_from 1 unlock) ++ packet_from 1 (0x15 ∷ []) ≡ front password
front-parts password unlock e =
    rw (e, packet-some 1 (0x21 ∷ password) (omega arith), packet-some 1 (0x15 ∷ []) (omega arith), append-nil (packet_of (0x15 ∷ [])))
    (append_assoc head (packet_of (0x21 ∷ password)) (packet_of (0x15 ∷ [])))

-- how long it is
pub front_length : (password : List ℕ) → length password ≡ 256 → length (front password) ≡ 273
front_length password wide =
    let unlock = packet_of (0x21 ∷ password) in
    let erase = packet_of (0x15 ∷ []) in
    omega (
      arith,
      length-append head (unlock ++ (erase ++ [])),
      length-append unlock (erase ++ []),
      length-append erase [],
      packet-length (0x21 ∷ password),
      packet-length (0x15 ∷ []),
    )

-- the page's own script with no range checksum: the beginning, the writes, the start
pub page-parts : (image : Image) (password : List ℕ) (entry : ℕ)
    → (front password ++ packets_of (writes_of (segments_of image))) ++ packet_of (addressed 0x27 entry)
    ≡ page_script image password entry []
unfolding page_script
page-parts image password entry =
    let writes = writes_of (segments_of image) in
    let last = addressed 0x27 entry ∷ [] in
    let end : packets_of (writes ++ last) ≡ packets_of writes ++ packet_of (addressed 0x27 entry) =
    packets-append writes last ∙ ap (packets_of writes ++◌) (append-nil (packet_of (addressed 0x27 entry))) in
    rw end (simp append_assoc)
