-- The page's own scripts work on any region.
-- Assumes nothing.
use mathlib.Core.Path.{◌≡◌, refl, sym, ap, ◌∙◌, subst}
use mathlib.Core.Bool.{true, false}
use mathlib.Core.List.{List, [], ◌∷◌, ◌++◌, map, append_assoc}
use Prim.Native.Nat.{ℕ, zero, suc, ◌+◌, ◌/◌, ◌<◌, ◌≤◌}
use native.Mathlib.Omega.{arith}
use lib.ListN.{length, take, drop, replicate, length-drop, take-append-drop}
use lib.Seq.{length-take-le, sets, sets-eq}
use Rattle.card.specs.Call.{with_loader}
use Rattle.card.specs.declared.Card.{Card}
use Rattle.crc.specs.Crc.{checksum_of}
use Rattle.firmware_text.specs.Image.{Image, segment, byte, end, broken}
use Rattle.firmware_text.specs.Segments.{bytes_ahead, segments_of}
use Rattle.little_endian.specs.Bytes.{stored_at}
use Rattle.little_endian.proofs.AllBytes.{AllBytes, bytes_take, bytes_drop}
use Rattle.little_endian.proofs.Stored.{stored-between, stored-length, stored-nothing, stored-joined}
use Rattle.loader.specs.Loader.{Outcome, outcome, is_application, received_of}
use Rattle.loader.specs.declared.Mode.TheVariants.{Locked}
use Rattle.loader.specs.declared.Reply.TheVariants.{Message, Data}
use Rattle.packet.specs.Packet.{packet_of}
use Rattle.region.specs.Size.{good_size}
use Rattle.region.proofs.Sizes.{good-small}
use Rattle.script.specs.Page.{addressed, write_core, blocks, writes_of, Range, range_core, cores_of, Inside}
use Rattle.text_image.specs.Picture.{placed}
use Rattle.delivery.specs.Sending.{Roomy}
use Rattle.delivery.proofs.Step.{Ok}
use Rattle.delivery.proofs.Sent.{Sent, send-last, send-next}
use Rattle.delivery.proofs.Blank.{Blank, blank-writable, blank-first, blank-second, Ready, past, ready-segment, ahead-inside, ahead-blank, ahead-bytes, ahead-put}
use Rattle.delivery.proofs.Cores.{unlocked, sent-password, sent-erase, sent-write, sent-range, sent-start}

-- bytes stored one by one, where they fit or there are none
one_by_one : (a : ℕ) (bytes region : List ℕ) → (1 ≤ length bytes → a + length bytes ≤ length region) → sets region a bytes ≡ stored_at a bytes region
one_by_one a [] region fits = sym (stored-nothing a region)
one_by_one a (b ∷ bytes) region fits =
    let room = fits (omega arith) in
    sets-eq (b ∷ bytes) region a room ∙ append_assoc (take a region) (b ∷ bytes) _ ∙ sym (stored-between a (b ∷ bytes) region room)

-- a block before the rest of its bytes
block-stored : (a : ℕ) (bytes region : List ℕ) → 256 ≤ length bytes → a + length bytes ≤ length region
    → stored_at (a + 256) (drop 256 bytes) (stored_at a (take 256 bytes) region) ≡ stored_at a bytes region
block-stored a bytes region full fits =
    let long : length (take 256 bytes) ≡ 256 = length-take-le 256 bytes full in
    ap (λ (n : ℕ). stored_at (a + n) (drop 256 bytes) (stored_at a (take 256 bytes) region)) (sym long)
    ∙ stored-joined a (take 256 bytes) (drop 256 bytes) region (omega (arith, long, length-drop 256 bytes))
    ∙ ap (λ (l : List ℕ). stored_at a l region) (take-append-drop 256 bytes)

module _ (n : ℕ) (good : good_size n ≡ true) (password : List ℕ) (wide : length password ≡ 256) (buffer : ℕ → List ℕ) (roomy : Roomy buffer) (picture : List ℕ) (card : Card) (expected : ℕ) where
  -- the packets of these cores do the rest of the work on a card, from the i-th call on
  abbrev Does : ℕ → Card → List ℕ → List (List ℕ) → Type 0
  Does i c region cores = Sent n good password wide buffer roomy picture i c region (map packet_of cores)

  -- the card with its loader unlocked
  abbrev here : Card
  here = with_loader (unlocked expected) card

  -- a core before others
  does : (i : ℕ) (c : Card) (region core : List ℕ) (cores : List (List ℕ)) (o : Outcome) → is_application c.loader.mode ≡ false → length region ≡ n
      → received_of c.loader region password (packet_of core) ≡ o → Ok o → is_application o.loader.mode ≡ false
      → Does (suc i) (with_loader o.loader c) o.region cores → Does i c region (core ∷ cores)
  does i c region core cores o inloader sized e ok stays more =
      send-next n good password wide buffer roomy picture i c region (packet_of core) inloader sized (map packet_of cores) (rw e ok) (rw e stays) (rw e more)

  start-does : (i entry : ℕ) → length picture ≡ n → entry < n → checksum_of picture ≡ expected → Does i here picture (addressed 0x27 entry ∷ [])
  start-does i entry sized inside sum =
      let e = sent-start expected picture password entry (omega (arith, good-small n good)) (omega arith) sum in
      send-last n good password wide buffer roomy picture i here picture (packet_of (addressed 0x27 entry)) refl sized (rw e refl) refl (rw e refl) (rw e refl)

  ranges-do : (ranges : List Range) (i : ℕ) (region : List ℕ) (cores : List (List ℕ)) → length region ≡ n → Inside n ranges
      → ((j : ℕ) → Does j here region cores) → Does i here region (map range_core ranges ++ cores)
  ranges-do [] i region cores sized inside more = more i
  ranges-do (r ∷ ranges) i region cores sized inside more =
      does i here region (range_core r) (map range_core ranges ++ cores) (outcome (unlocked expected) region (Data (checksum_of (take r.count (drop r.address region))))) refl sized
      (sent-range expected region password r (omega (arith, good-small n good, inside.0)) inside.1 (omega (arith, inside.0))) refl refl
      (ranges-do ranges (suc i) region cores sized inside.2 more)

  -- one write over a blank part
  write-does : (i a : ℕ) (new region : List ℕ) (cores : List (List ℕ)) → length region ≡ n → Blank region a (length new) → AllBytes new → 1 ≤ length new → length new ≤ 256
      → Does (suc i) here (stored_at a new region) cores → Does i here region (write_core a new ∷ cores)
  write-does i a new region cores sized b bytes some few more =
      does i here region (write_core a new) cores (outcome (unlocked expected) (stored_at a new region) (Message 0x00)) refl sized
      (sent-write expected region password a new (omega (arith, b.fits, good-small n good)) some few b.fits (blank-writable region a new b bytes)) refl refl more

  blocks-do : (count i a : ℕ) (bytes region : List ℕ) (cores : List (List ℕ)) → count ≡ length bytes / 256 → length region ≡ n → (1 ≤ length bytes → Blank region a (length bytes)) → AllBytes bytes
      → ((j : ℕ) → Does j here (stored_at a bytes region) cores) → Does i here region (blocks count a bytes ++ cores)
  unfolding blocks
  blocks-do zero i a [] region cores e sized b bytes more = subst (λ (r : List ℕ). Does i here r cores) (stored-nothing a region) (more i)
  blocks-do zero i a (x ∷ bytes) region cores e sized b all more = write-does i a (x ∷ bytes) region cores sized (b (omega arith)) all (omega arith) (omega arith) (more (suc i))
  blocks-do (suc count) i a bytes region cores e sized b all more =
      let full : 256 ≤ length bytes = omega arith in
      let first : length (take 256 bytes) ≡ 256 = length-take-le 256 bytes full in
      let split : length bytes ≡ 256 + length (drop 256 bytes) = omega (arith, length-drop 256 bytes) in
      let whole : Blank region a (256 + length (drop 256 bytes)) = subst (Blank region a) split (b (omega arith)) in
      let front : Blank region a (length (take 256 bytes)) = subst (Blank region a) (sym first) (blank-first region a 256 (length (drop 256 bytes)) whole) in
      write-does i a (take 256 bytes) region (blocks count (a + 256) (drop 256 bytes) ++ cores) sized front (bytes_take 256 bytes all) (omega (arith, first)) (omega (arith, first))
      (blocks-do count (suc i) (a + 256) (drop 256 bytes) (stored_at a (take 256 bytes) region) cores (rw (length-drop 256 bytes) (omega arith))
      (stored-length a (take 256 bytes) region front.fits ∙ sized) (λ _. blank-second region a 256 (length (drop 256 bytes)) whole (take 256 bytes) first) (bytes_drop 256 bytes all)
      (λ j. subst (λ (r : List ℕ). Does j here r cores) (sym (block-stored a bytes region full (b (omega arith)).fits)) (more j)))

  segments-do : (image : Image) (i : ℕ) (region : List ℕ) (cores : List (List ℕ)) → Ready n region (past image)
      → ((j : ℕ) → Does j here (placed (past image) region) cores) → Does i here region (writes_of (segments_of image) ++ cores)
  unfolding placed
  segments-do (segment a image) i region cores r more =
      let bytes = bytes_ahead image in
      let up = r.order.0 in
      let q = ready-segment n region a image r in
      let b : 1 ≤ length bytes → Blank region a (length bytes) = λ some. ahead-blank n region image a q up (ahead-inside n region image a q up some) in
      let put = subst (λ (l : List ℕ). Ready n l (past image) × (placed (past image) l ≡ placed image region)) (one_by_one a bytes region (λ some. (b some).fits)) (ahead-put n region image a q up) in
      rw append_assoc
      (blocks-do (length bytes / 256) i a bytes region (writes_of (segments_of image) ++ cores) refl r.sized b (ahead-bytes image q.valued)
      (λ j. segments-do image j (stored_at a bytes region) cores put.0 (λ k. subst (λ (l : List ℕ). Does k here l cores) (sym put.1) (more k))))
  segments-do (byte p a v image) i region cores r more = segments-do image i region cores r more
  segments-do end i region cores r more = more i
  segments-do (broken p) i region cores r more = more i

  -- the page's cores, from a freshly entered loader over any region on
  pub page-does : (image : Image) (ranges : List Range) (entry : ℕ) (region : List ℕ) → card.loader.mode ≡ Locked → card.loader.expected ≡ expected → length region ≡ n
      → Ready n (replicate n 0xFF) (past image) → placed (past image) (replicate n 0xFF) ≡ picture → length picture ≡ n
      → Inside n ranges → checksum_of picture ≡ expected → entry < n → Does 0 card region (cores_of image password entry ranges)
  page-does image ranges entry region is_locked expects sized ready holds long inside sum enters =
      let last = addressed 0x27 entry ∷ [] in
      let after = writes_of (segments_of image) ++ (map range_core ranges ++ last) in
      does 0 card region (0x21 ∷ password) ((0x15 ∷ []) ∷ after) (outcome (unlocked expected) region (Message 0x00)) (rw is_locked refl) sized
      (sent-password expected region password card.loader expects wide) refl refl
      (does 1 here region (0x15 ∷ []) after (outcome (unlocked expected) (replicate n 0xFF) (Message 0x00)) refl sized
      (sent-erase expected region password ∙ ap (λ (k : ℕ). outcome (unlocked expected) (replicate k 0xFF) (Message 0x00)) sized) refl refl
      (segments-do image 2 (replicate n 0xFF) (map range_core ranges ++ last) ready
      (λ j. subst (λ (r : List ℕ). Does j here r (map range_core ranges ++ last)) (sym holds)
      (ranges-do ranges j picture last long inside (λ k. start-does k entry long enters sum)))))
