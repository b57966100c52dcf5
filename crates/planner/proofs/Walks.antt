-- How far the walk through a text is, one part of its image at a time.
-- Assumes nothing.
use mathlib.Core.Path.{◌≡◌, refl, sym, ap, subst, ◌∙◌}
use mathlib.Core.Bool.{Bool, true, false, cond}
use mathlib.Core.List.{List, [], ◌∷◌, ◌++◌, append-nil, append_assoc}
use Prim.Native.Nat.{ℕ, ◌+◌, ◌≤◌, ◌<◌}
use native.Mathlib.Omega.{arith}
use borrow.Author.Tests.{leb-true, leb-false}
use lib.Dec.{leb}
use lib.ListN.{length, length-append}
use Rattle.firmware_text.specs.Image.{Image, segment, byte}
use Rattle.firmware_text.specs.Order.{Rising, InOrder}
use Rattle.firmware_text.specs.Segments.{bytes_ahead, segments_of}
use Rattle.firmware_text.specs.Machine.{image_of}
use Rattle.firmware_text.proofs.Orders.{image-in-order, image-starts}
use Rattle.packet.specs.Packet.{packet_of}
use Rattle.script.specs.Page.{addressed, write_core, writes_of, packets_of}
use Rattle.script.proofs.Pages.{writes_short, packets-append, blocks_from, blocks-full, blocks-none, blocks_last}
use Rattle.planner.specs.Walk.{PutIfRoom, packet_from}
use Rattle.planner.proofs.Puts.{packet-none, packet-some, room-then, room-nothing}

-- the last block of a segment is a packet, if it has a byte
closed : (start : ℕ) (bytes : List ℕ) → length bytes ≤ 256 → packets_of (blocks_from start bytes) ≡ packet_from 6 (write_core start bytes)
closed start [] few = ap packets_of (blocks-none start) ∙ sym (packet-none 6 (write_core start []) (omega arith))
closed start (b ∷ bytes) few =
    ap packets_of (blocks_last start (b ∷ bytes) (omega arith) few)
    ∙ append-nil (packet_of (write_core start (b ∷ bytes)))
    ∙ sym (packet-some 6 (write_core start (b ∷ bytes)) (omega arith))

-- cores put before others
regroup : (done : List ℕ) (x y : List (List ℕ)) (first : List ℕ) → packets_of x ≡ first
    → done ++ packets_of (x ++ y) ≡ (done ++ first) ++ packets_of y
regroup done x y first e = ap (done ++◌) (packets-append x y ∙ ap (◌++ packets_of y) e) ∙ sym (append_assoc done first (packets_of y))

-- a walk with the image i left: packets that are put, and a block that is begun, from whose start on what is left gives the rest of the
-- whole
pub record Reaches (whole : List ℕ) (n : ℕ) (old : List ℕ) (i : Image) (core : List ℕ) (held : ℕ) (out : List ℕ) : Type 0 where
  pub done : List ℕ
  pub start : ℕ
  pub bytes : List ℕ
  pub sized : length out ≡ length old
  pub put : PutIfRoom done n old held out
  pub begun : core ≡ write_core start bytes
  pub few : length bytes ≤ 256
  pub rising : Rising (start + length bytes) i
  pub order : InOrder i
  pub left : whole ≡ done ++ packets_of (blocks_from start (bytes ++ bytes_ahead i) ++ writes_of (segments_of i))

pub reach-start : (text : List ℕ) (n : ℕ) (old core : List ℕ) → core ≡ addressed 0x20 0
    → Reaches (packets_of (writes_of (segments_of (image_of text)))) n old (image_of text) core n old
reach-start text n old core e =
    let i = image_of text in
    let none = ap (blocks_from 0) (image-starts text).0 ∙ blocks-none 0 in
    record {
      done = [];
      start = 0;
      bytes = [];
      sized = refl;
      put = room-nothing n old;
      begun = e;
      few = omega arith;
      rising = (image-starts text).1 (0 + 0);
      order = image-in-order text;
      left = ap (λ (cores : List (List ℕ)). packets_of (cores ++ writes_of (segments_of i))) (sym none);
    }

-- what `put` asks for: what is put so far is part of the whole, which is short
pub reach-allows : (text : List ℕ) (n : ℕ) (old : List ℕ) (i : Image) (core : List ℕ) (held : ℕ) (out : List ℕ)
    → Reaches (packets_of (writes_of (segments_of (image_of text)))) n old i core held out → length text ≤ 1048576 → n < 1000 → held < 4294967296
reach-allows text n old i core held out r short first =
    omega (arith, writes_short text, r.put.0, ap length r.left ∙ length-append r.done _)

module _ (whole : List ℕ) (n : ℕ) (old : List ℕ) (core : List ℕ) (held : ℕ) (out : List ℕ) where
  module _ (next : ℕ) (new : List ℕ) (sized : length new ≡ length out) where
    -- a segment opens: the block that was begun is the last of its own
    pub reach-segment : (a : ℕ) (k : Image) (begun : List ℕ) → Reaches whole n old (segment a k) core held out
        → PutIfRoom (packet_from 6 core) held out next new → begun ≡ addressed 0x20 a → Reaches whole n old k begun next new
    reach-segment a k begun r p e =
        let last = blocks_from r.start r.bytes in
        let more = blocks_from a (bytes_ahead k) ++ writes_of (segments_of k) in
        let tail : packets_of last ≡ packet_from 6 core = closed r.start r.bytes r.few ∙ ap (packet_from 6) (sym r.begun) in
        record {
          done = r.done ++ packet_from 6 core;
          start = a;
          bytes = [];
          sized = sized ∙ r.sized;
          put = room-then r.done (packet_from 6 core) n old held out next new r.sized r.put p;
          begun = e;
          few = omega arith;
          rising = subst (λ (x : ℕ). Rising x k) (omega arith) r.order.0;
          order = r.order.1;
          left =
              r.left
              ∙ ap (λ (bytes : List ℕ). r.done ++ packets_of (blocks_from r.start bytes ++ more)) (append-nil r.bytes)
              ∙ regroup r.done last more (packet_from 6 core) tail;
        }

    -- a byte of the segment: the block takes it, or it is full and the byte begins another
    pub reach-byte : (p a v : ℕ) (k : Image) (begun : List ℕ) → Reaches whole n old (byte p a v k) core held out
        → PutIfRoom (packet_from 261 core) held out next new → begun ≡ cond (leb 261 (length core)) (addressed 0x20 a) core ++ (v ∷ [])
        → Reaches whole n old k begun next new
    reach-byte p a v k begun r q e = go (leb 261 (length core)) refl e
      where
        writes : List (List ℕ)
        writes = writes_of (segments_of k)

        long : length core ≡ 5 + length r.bytes
        long = ap length r.begun ∙ omega arith

        put-more : PutIfRoom (r.done ++ packet_from 261 core) n old next new
        put-more = room-then r.done (packet_from 261 core) n old held out next new r.sized r.put q

        go : (t : Bool) → leb 261 (length core) ≡ t → begun ≡ cond t (addressed 0x20 a) core ++ (v ∷ [])
            → Reaches whole n old k begun next new
        go true h is =
            let full : length r.bytes ≡ 256 = omega (arith, leb-true 261 (length core) h, long, r.few) in
            let more = v ∷ bytes_ahead k in
            let first =
            append-nil (packet_of (write_core r.start r.bytes)) ∙ ap packet_of (sym r.begun)
            ∙ sym (packet-some 261 core (leb-true 261 (length core) h)) in
            let here : r.start + 256 ≡ a = omega (arith, full, r.rising.0) in
            record {
              done = r.done ++ packet_from 261 core;
              start = a;
              bytes = v ∷ [];
              sized = sized ∙ r.sized;
              put = put-more;
              begun = is;
              few = omega arith;
              rising = subst (λ (x : ℕ). Rising x k) (omega (arith, r.rising.0)) r.rising.1;
              order = r.order;
              left =
                  r.left
                  ∙ ap (λ (cores : List (List ℕ)). r.done ++ packets_of (cores ++ writes)) (blocks-full r.start r.bytes more full)
                  ∙ regroup r.done (write_core r.start r.bytes ∷ []) (blocks_from (r.start + 256) more ++ writes)
                  (packet_from 261 core) first
                  ∙ ap (λ (x : ℕ). (r.done ++ packet_from 261 core) ++ packets_of (blocks_from x more ++ writes)) here;
            }
        go false h is =
            let few : length r.bytes < 256 = omega (arith, leb-false 261 (length core) h, long) in
            let count : length (r.bytes ++ (v ∷ [])) ≡ length r.bytes + 1 = length-append r.bytes (v ∷ []) in
            let none = packet-none 261 core (leb-false 261 (length core) h) in
            record {
              done = r.done ++ packet_from 261 core;
              start = r.start;
              bytes = r.bytes ++ (v ∷ []);
              sized = sized ∙ r.sized;
              put = put-more;
              begun = is ∙ ap (◌++ (v ∷ [])) r.begun;
              few = omega (arith, count);
              rising = subst (λ (x : ℕ). Rising x k) (omega (arith, count)) r.rising.1;
              order = r.order;
              left =
                  r.left
                  ∙ ap (λ (bytes : List ℕ). r.done ++ packets_of (blocks_from r.start bytes ++ writes))
                  (sym (append_assoc r.bytes (v ∷ []) (bytes_ahead k)))
                  ∙ ap (◌++ packets_of (blocks_from r.start ((r.bytes ++ (v ∷ [])) ++ bytes_ahead k) ++ writes))
                  (sym (append-nil r.done) ∙ ap (r.done ++◌) (sym none));
            }

    -- nothing is left
    pub reach-end : (i : Image) → bytes_ahead i ≡ [] → segments_of i ≡ [] → Reaches whole n old i core held out
        → PutIfRoom (packet_from 6 core) held out next new → PutIfRoom whole n old next new
    reach-end i none last r p =
        let all : whole ≡ r.done ++ packet_from 6 core =
        r.left
        ∙ rw (none, last, append-nil r.bytes, append-nil (blocks_from r.start r.bytes), r.begun)
        (ap (r.done ++◌) (closed r.start r.bytes r.few)) in
        rw all (room-then r.done (packet_from 6 core) n old held out next new r.sized r.put p)
