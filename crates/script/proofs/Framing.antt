-- Laws of scripts: how long a head is; the framing, one packet more or none, how many there are at most, and that it is the one way to cut
-- bytes into packets and a rest.
-- Assumes nothing.
use mathlib.Core.Path.{◌≡◌, refl, sym, ap, ◌∙◌}
use mathlib.Core.Bool.{Bool, true, false, cond}
use mathlib.Core.List.{List, [], ◌∷◌, ◌++◌, append_assoc}
use Prim.Native.Nat.{ℕ, zero, suc, ◌+◌, ◌*◌, ◌-◌, ◌≤◌, ◌<◌}
use native.Mathlib.Omega.{arith}
use borrow.Author.Tests.{lt-ltb, le-ltb, ltb-true, ltb-false}
use lib.Dec.{ltb}
use lib.ListN.{length, take, drop, length-append, length-drop, length-take, take-append-drop, get_or-append}
use lib.Seq.{length-take-le, take_all, take-append_seam, drop-append_seam}
use Rattle.little_endian.specs.Bytes.{number_at, joined}
use Rattle.region.proofs.Sames.{same-eq}
use Rattle.test_laws.proofs.Tests.{on-cond}
use Rattle.std.proofs.lemmas.Option.{none-some}
use Rattle.std.specs.Option.{unwrap_or}
use Rattle.std.specs.Prelude.{Option, Some, None}
use Rattle.script.specs.Script.{head, headed, frame_length, front_of, Frames, packet_before, frames_up_to, frames_of, Framed, Cut}

-- a head has five bytes
pub headed-long : (bytes : List ℕ) → headed bytes ≡ true → 5 ≤ length bytes
unfolding headed
headed-long bytes e =
    let front : length (take 5 bytes) ≡ 5 = ap length (same-eq (take 5 bytes) head e) in
    omega (arith, front, length-take 5 bytes)

-- the framing that ends before a packet
abbrev pub no_packet : List ℕ → Frames
no_packet bytes = record { packets = []; rest = bytes }

-- bytes that end inside a packet have none
up-to-end : (n : ℕ) (bytes : List ℕ) → length bytes < frame_length bytes → frames_up_to n bytes ≡ no_packet bytes
unfolding frames_up_to
up-to-end zero bytes cut = refl
up-to-end (suc n) bytes cut = rw (lt-ltb (length bytes) (frame_length bytes) cut) refl

-- more than enough is enough
enough : (n m : ℕ) (bytes : List ℕ) → length bytes ≤ n → length bytes ≤ m → frames_up_to n bytes ≡ frames_up_to m bytes
unfolding frames_up_to
enough zero m bytes hn hm = sym (up-to-end m bytes (omega arith))
enough (suc n) zero bytes hn hm = up-to-end (suc n) bytes (omega arith)
enough (suc n) (suc m) bytes hn hm =
    let f = frame_length bytes in
    ap (λ (r : Frames). cond (ltb (length bytes) f) (no_packet bytes) (packet_before (take f bytes) r))
    (enough n m (drop f bytes) (rw length-drop (omega arith)) (rw length-drop (omega arith)))

module _ (bytes : List ℕ) where
  pub frames-end : length bytes < frame_length bytes → frames_of bytes ≡ no_packet bytes
  frames-end = up-to-end (length bytes) bytes

  pub frames-next : frame_length bytes ≤ length bytes
      → frames_of bytes ≡ packet_before (take (frame_length bytes) bytes) (frames_of (drop (frame_length bytes) bytes))
  unfolding frames_up_to
  frames-next whole =
      let f = frame_length bytes in
      let left = drop f bytes in
      enough (length bytes) (suc (length bytes)) bytes (omega arith) (omega arith)
      ∙ rw (le-ltb (length bytes) f whole)
      (ap (packet_before (take f bytes)) (enough (length bytes) (length left) left (rw length-drop (omega arith)) (omega arith)))

-- a packet has at least five bytes
up-to-few : (n : ℕ) (bytes : List ℕ) → 5 * length (frames_up_to n bytes).packets ≤ length bytes
unfolding frames_up_to
up-to-few zero bytes = omega arith
up-to-few (suc n) bytes =
    let f = frame_length bytes in
    let left = drop f bytes in
    on-cond (λ r. 5 * length r.packets ≤ length bytes) (ltb (length bytes) f) (no_packet bytes)
    (packet_before (take f bytes) (frames_up_to n left))
    (λ e. omega arith)
    (λ e. omega (arith, up-to-few n left, length-drop f bytes, ltb-false (length bytes) f e))

pub frames-few : (bytes : List ℕ) → 5 * length (frames_of bytes).packets ≤ length bytes
frames-few bytes = up-to-few (length bytes) bytes

-- the core length stands in the first three bytes
prefix-length : (p q : List ℕ) → 3 ≤ length p → frame_length (p ++ q) ≡ frame_length p
unfolding number_at
prefix-length p q some = rw (get_or-append p q 0 1 (omega arith), get_or-append p q 0 2 (omega arith)) refl

-- a packet that is cut off is as long as it says
cut-length : (bytes : List ℕ) → frame_length bytes ≤ length bytes
    → length (take (frame_length bytes) bytes) ≡ frame_length (take (frame_length bytes) bytes)
cut-length bytes whole =
    let f = frame_length bytes in
    let long = length-take-le f bytes whole in
    long ∙ ap frame_length (sym (take-append-drop f bytes)) ∙ prefix-length (take f bytes) (drop f bytes) (omega (arith, long))

-- a framing that has fuel enough
up-to-cut : (n : ℕ) (bytes : List ℕ) → length bytes ≤ n → Cut bytes (frames_up_to n bytes)
unfolding frames_up_to
up-to-cut zero bytes few = record { joins = refl; framed = tt; ends = omega arith }
up-to-cut (suc n) bytes few =
    let f = frame_length bytes in
    let left = drop f bytes in
    let more = frames_up_to n left in
    let c = up-to-cut n left (rw length-drop (omega arith)) in
    on-cond (Cut bytes) (ltb (length bytes) f) (no_packet bytes) (packet_before (take f bytes) more)
    (λ e. record { joins = refl; framed = tt; ends = ltb-true (length bytes) f e })
    (λ e. record {
      joins = append_assoc (take f bytes) (joined more.packets) more.rest ∙ ap (take f bytes ++◌) c.joins ∙ take-append-drop f bytes;
      framed = (cut-length bytes (ltb-false (length bytes) f e), c.framed);
      ends = c.ends;
    })

-- the framing cuts bytes into packets and a rest
pub frames-cut : (bytes : List ℕ) → Cut bytes (frames_of bytes)
frames-cut bytes = up-to-cut (length bytes) bytes (omega arith)

-- it finds the packets that were joined
frames-again : (packets : List (List ℕ)) (rest : List ℕ) → Framed packets → length rest < frame_length rest
    → frames_of (joined packets ++ rest) ≡ record { packets = packets; rest = rest }
frames-again [] rest framed ends = frames-end rest ends
frames-again (p ∷ ps) rest framed ends =
    let more = joined ps ++ rest in
    let f : frame_length (p ++ more) ≡ length p = prefix-length p more (omega (arith, framed.0)) ∙ sym framed.0 in
    ap frames_of (append_assoc p (joined ps) rest)
    ∙ frames-next (p ++ more) (rw (f, length-append p more) (omega arith))
    ∙ rw (f, take-append_seam p more, drop-append_seam p more) (ap (packet_before p) (frames-again ps rest framed.1 ends))

-- and there is no other cut
pub cut-unique : (bytes : List ℕ) (f : Frames) → Cut bytes f → frames_of bytes ≡ f
cut-unique bytes f c = ap frames_of (sym c.joins) ∙ frames-again f.packets f.rest c.framed c.ends

-- a choice of none, or not
chosen : (test : Bool) (n : ℕ) → cond test None (Some n) ≡ None → test ≡ true
chosen true n e = refl
chosen false n e = absurd (none-some n (sym e))

not_chosen : (test : Bool) (n k : ℕ) → cond test None (Some n) ≡ Some k → (k ≡ n) × (test ≡ false)
not_chosen true n k e = absurd (none-some k e)
not_chosen false n k e = (ap (λ (o : Option ℕ). unwrap_or o 0) (sym e), refl)

module _ (bytes : List ℕ) where
  -- no packet at the front: the bytes end inside it
  pub front_cut : front_of bytes ≡ None → length bytes < frame_length bytes
  unfolding front_of
  front_cut e =
      let f = frame_length bytes in
      ltb-true (length bytes) f (chosen (ltb (length bytes) f) f e)

  -- a packet at the front is as long as the framing says, and whole
  pub front-whole : (k : ℕ) → front_of bytes ≡ Some k → (k ≡ frame_length bytes) × (frame_length bytes ≤ length bytes)
  unfolding front_of
  front-whole k e =
      let f = frame_length bytes in
      let t = not_chosen (ltb (length bytes) f) f k e in
      (t.0, ltb-false (length bytes) f t.1)

  -- and so no longer than the bytes
  pub front-short : (k : ℕ) → front_of bytes ≡ Some k → k ≤ length bytes
  front-short k e = let w = front-whole k e in omega (arith, w.0, w.1)

-- the part of a list from a place to its end
pub part-tail : (l : List ℕ) (at : ℕ) → take (length l - at) (drop at l) ≡ drop at l
part-tail l at = take_all (length l - at) (drop at l) (rw (length-drop at l) (omega arith))

-- a packet that is found at the front of that part
pub front-inside : (l : List ℕ) (at k : ℕ) → at ≤ length l → front_of (take (length l - at) (drop at l)) ≡ Some k
    → (k ≡ frame_length (drop at l)) × (at + k ≤ length l)
front-inside l at k inside is =
    let w = front-whole (drop at l) k (ap front_of (sym (part-tail l at)) ∙ is) in
    let fits : k ≤ length l - at = rw (w.0, ← (length-drop at l)) w.1 in
    (w.0, omega arith)
