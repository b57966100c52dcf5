-- Laws of the page's own scripts: blocks, one more or the last; what the framing finds in such a script; how long its writes are at most.
-- Assumes nothing.
use mathlib.Core.Path.{◌≡◌, refl, sym, ap, ◌∙◌}
use mathlib.Core.Bool.{Bool, true, false}
use mathlib.Core.List.{List, [], ◌∷◌, ◌++◌, map, append-nil, append_assoc}
use Prim.Native.Nat.{ℕ, zero, suc, ◌+◌, ◌*◌, ◌/◌, ◌≤◌, ◌<◌}
use native.Mathlib.Omega.{arith}
use borrow.Author.Tests.{eqb-true, eqb-false}
use lib.Dec.{eqb}
use lib.ListN.{length, take, drop, length-append, length-drop}
use lib.Seq.{length-take-le, take_at, drop_at}
use Rattle.firmware_text.specs.Image.{Image, segment, byte, end, broken}
use Rattle.firmware_text.specs.Segments.{Segment, bytes_ahead, segments_of}
use Rattle.firmware_text.specs.Machine.{image_of}
use Rattle.firmware_text.proofs.Counts.{parts, image-few}
use Rattle.packet.specs.Packet.{packet_of}
use Rattle.packet.proofs.Written.{packet-length, length-again}
use Rattle.region.specs.Same.{same}
use Rattle.script.specs.Script.{headed, frames_of, Framed}
use Rattle.script.specs.Page.{addressed, write_core, blocks, writes_of, Range, range_core, cores_of, packets_of, page_script}
use Rattle.script.proofs.Framing.{cut-unique}

pub packets-append : (x y : List (List ℕ)) → packets_of (x ++ y) ≡ packets_of x ++ packets_of y
packets-append [] y = refl
packets-append (c ∷ x) y = ap (packet_of c ++◌) (packets-append x y) ∙ sym (append_assoc (packet_of c) (packets_of x) (packets_of y))

-- the blocks of bytes from an address on
abbrev pub blocks_from : ℕ → List ℕ → List (List ℕ)
blocks_from a bytes = blocks (length bytes / 256) a bytes

-- a full block before others
pub blocks-full : (a : ℕ) (bytes more : List ℕ) → length bytes ≡ 256
    → blocks_from a (bytes ++ more) ≡ write_core a bytes ∷ blocks_from (a + 256) more
unfolding blocks
blocks-full a bytes more full =
    let count : length (bytes ++ more) / 256 ≡ suc (length more / 256) = rw (length-append bytes more, full) (omega arith) in
    rw (count, take_at bytes more 256 full, drop_at bytes more 256 full) refl

-- no bytes
pub blocks-none : (a : ℕ) → blocks_from a [] ≡ []
unfolding blocks
blocks-none a = refl

-- the last block
pub blocks_last : (a : ℕ) (bytes : List ℕ) → 1 ≤ length bytes → length bytes ≤ 256 → blocks_from a bytes ≡ write_core a bytes ∷ []
unfolding blocks
blocks_last a [] some few = absurd (omega arith)
blocks_last a (b ∷ bytes) some few = go (eqb (length (b ∷ bytes)) 256) refl
  where
    go : (t : Bool) → eqb (length (b ∷ bytes)) 256 ≡ t → blocks_from a (b ∷ bytes) ≡ write_core a (b ∷ bytes) ∷ []
    go true e = ap (blocks_from a) (sym (append-nil (b ∷ bytes))) ∙ blocks-full a (b ∷ bytes) [] (eqb-true _ _ e)
    go false e =
        let short : length (b ∷ bytes) / 256 ≡ 0 = omega (arith, eqb-false (length (b ∷ bytes)) 256 e) in
        ap (λ (n : ℕ). blocks n a (b ∷ bytes)) short

-- ---- the framing of such a script

-- the cores' lengths fit two bytes
abbrev Short : List (List ℕ) → Type 0
Short [] = Unit
Short (c ∷ cores) = (length c < 65536) × Short cores

short-append : (x y : List (List ℕ)) → Short x → Short y → Short (x ++ y)
short-append [] y a b = b
short-append (c ∷ x) y a b = (a.0, short-append x y a.1 b)

short-blocks : (n a : ℕ) (bytes : List ℕ) → n ≡ length bytes / 256 → Short (blocks n a bytes)
unfolding blocks
short-blocks zero a [] e = tt
short-blocks zero a (b ∷ bytes) e = (omega arith, tt)
short-blocks (suc n) a bytes e = (
  rw (length-take-le 256 bytes (omega arith)) (omega arith),
  short-blocks n (a + 256) (drop 256 bytes) (rw length-drop (omega arith)),
)

short-writes : (segments : List Segment) → Short (writes_of segments)
short-writes [] = tt
short-writes (s ∷ segments) =
    short-append (blocks_from s.start s.bytes) (writes_of segments) (short-blocks _ s.start s.bytes refl) (short-writes segments)

short-ranges : (ranges : List Range) → Short (map range_core ranges)
short-ranges [] = tt
short-ranges (r ∷ ranges) = (omega arith, short-ranges ranges)

packets-framed : (cores : List (List ℕ)) → Short cores → Framed (map packet_of cores)
packets-framed [] short = tt
packets-framed (c ∷ cores) short = (omega (arith, packet-length c, length-again c short.0), packets-framed cores short.1)

module _ (image : Image) (password : List ℕ) (entry : ℕ) (ranges : List Range) where
  pub page-headed : headed (page_script image password entry ranges) ≡ true
  unfolding headed page_script same
  page-headed = refl

  -- it is a script: the framing uses up its bytes, and finds the packets of its cores
  pub page-framed : length password ≡ 256
      → frames_of (drop 5 (page_script image password entry ranges))
      ≡ record { packets = map packet_of (cores_of image password entry ranges); rest = [] }
  unfolding page_script
  page-framed wide =
      let cores = cores_of image password entry ranges in
      let writes = writes_of (segments_of image) in
      let last = addressed 0x27 entry ∷ [] in
      let behind : Short (map range_core ranges ++ last) =
      short-append (map range_core ranges) last (short-ranges ranges) (omega arith, tt) in
      let short : Short cores = (omega arith, (omega arith, short-append writes _ (short-writes (segments_of image)) behind)) in
      cut-unique (packets_of cores) _
      (record { joins = append-nil (packets_of cores); framed = packets-framed cores short; ends = omega arith })

-- ---- how long the writes of a text are

-- five and a half bytes for each byte, and as many besides: a packet around a core of one byte has eleven
blocks-short : (n a : ℕ) (bytes : List ℕ) → n ≡ length bytes / 256 → 2 * length (packets_of (blocks n a bytes)) ≤ 11 + 11 * length bytes
unfolding blocks
blocks-short zero a [] e = omega arith
blocks-short zero a (b ∷ bytes) e =
    omega (arith, length-append (packet_of (write_core a (b ∷ bytes))) [], packet-length (write_core a (b ∷ bytes)))
blocks-short (suc n) a bytes e =
    let first = write_core a (take 256 bytes) in
    let more = drop 256 bytes in
    omega (
      arith,
      length-append (packet_of first) (packets_of (blocks n (a + 256) more)),
      packet-length first,
      length-take-le 256 bytes (omega arith),
      length-drop 256 bytes,
      blocks-short n (a + 256) more (rw length-drop (omega arith)),
    )

writes-few : (i : Image) → 2 * length (packets_of (writes_of (segments_of i))) + 11 * length (bytes_ahead i) ≤ 11 * parts i
writes-few (segment a i) =
    let bytes = bytes_ahead i in
    let rest = writes_of (segments_of i) in
    omega (
      arith,
      ap length (packets-append (blocks_from a bytes) rest),
      length-append (packets_of (blocks_from a bytes)) (packets_of rest),
      blocks-short _ a bytes refl,
      writes-few i,
    )
writes-few (byte p a v i) = omega (arith, writes-few i)
writes-few end = omega arith
writes-few (broken p) = omega arith

-- the writes of a text take at most eleven bytes for every six of it
pub writes_short : (text : List ℕ) → 6 * length (packets_of (writes_of (segments_of (image_of text)))) ≤ 11 * (length text + 1)
writes_short text = omega (arith, writes-few (image_of text), image-few text)
