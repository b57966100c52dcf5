-- Laws of a call: what every one keeps, what one that is no success leaves, where the reply stands, and what application mode does with a packet.
-- Assumes nothing.
use mathlib.Core.Path.{◌≡◌, refl, sym, ap, ◌∙◌, subst}
use mathlib.Core.Bool.{Bool, true, false, false≢true, not, ◌&&◌}
use mathlib.Core.List.{List, [], ◌++◌}
use Prim.Native.Nat.{ℕ, ◌≤◌}
use native.Mathlib.Nat.{zero-add}
use native.Mathlib.Omega.{arith}
use borrow.Author.Tests.{eq-eqb, le-ltb, ltb-false}
use lib.Dec.{eqb, ltb}
use lib.ListN.{length, drop}
use Rattle.little_endian.specs.Bytes.{stored_at}
use Rattle.little_endian.proofs.Stored.{stored-between}
use Rattle.application.specs.Response.{Answer, left_by, answer_of}
use Rattle.application.specs.Response as response
use Rattle.application.proofs.Laws.{long-refused, Short, answer-short}
use Rattle.loader.specs.Loader.{is_application, succeeded_of, received_of}
use Rattle.loader.specs.Reply.{bytes_of}
use Rattle.loader.specs.declared.Loader.{Loader}
use Rattle.loader.specs.declared.Mode.{Mode}
use Rattle.loader.specs.declared.Mode.TheVariants.{Application, Locked, Unlocked}
use Rattle.loader.proofs.Laws as loader
use Rattle.loader.proofs.Replies.{reply-short}
use Rattle.region.specs.Size.{good_size}
use Rattle.test_laws.proofs.Tests.{on-cond}
use Rattle.card.specs.Call.{Said, refused, replied, is_success, After, after, room, with_loader, settled_by, in_application, received_by, in_loader, call_of}
use Rattle.card.specs.declared.Card.{Card}

-- whether an answer is a refusal
abbrev is_refusal : Said → Bool
is_refusal (refused n) = true
is_refusal (replied n success) = false

-- what holds of every call
pub record Keeps (card : Card) (region buffer : List ℕ) (a : After) : Type 0 where
  -- the region's length, the version, the sensor record and the expected checksum never change
  pub long : length a.region ≡ length region
  pub version-kept : a.card.version ≡ card.version
  pub record-kept : a.card.«record» ≡ card.«record»
  pub expects : a.card.loader.expected ≡ card.loader.expected
  -- a refused call changes nothing
  pub refused-kept : (n : ℕ) → a.answer ≡ refused n → a ≡ after card region buffer (refused n)

-- so many bytes stand over the front of a buffer, and those beyond keep their values
pub record Over (n : ℕ) (old new : List ℕ) : Type 0 where
  pub front : List ℕ
  pub long : length front ≡ n
  pub is : new ≡ front ++ drop n old

-- bytes that fit stand over the front
over : (bytes buffer : List ℕ) → length bytes ≤ length buffer → Over (length bytes) buffer (stored_at 0 bytes buffer)
over bytes buffer fits =
    record { front = bytes; long = refl; is = stored-between 0 bytes buffer (omega arith) ∙ ap (λ (n : ℕ). bytes ++ drop n buffer) (zero-add (length bytes)) }

-- the bytes of a reply, by the answer
abbrev Answered : List ℕ → After → Type 0
Answered buffer a = (n : ℕ) (success : Bool) → a.answer ≡ replied n success → Over n buffer a.buffer

-- the number of bytes that an answer says
abbrev replied_count : Said → ℕ
replied_count (refused n) = 0
replied_count (replied n success) = n

-- a reply that was put
stands : (bytes buffer : List ℕ) (success : Bool) → length bytes ≤ length buffer
    → (n : ℕ) (other : Bool) → replied (length bytes) success ≡ replied n other → Over n buffer (stored_at 0 bytes buffer)
stands bytes buffer success fits n other e = subst (λ (k : ℕ). Over k buffer (stored_at 0 bytes buffer)) (ap replied_count e) (over bytes buffer fits)

answer-stands : (card : Card) (region buffer : List ℕ) (a : Answer) → Short a → 64 ≤ length buffer → Answered buffer (settled_by card region (left_by a buffer))
answer-stands card region buffer (response.refused n) short fits m s e = absurd (false≢true (sym (ap is_refusal e)))
answer-stands card region buffer (response.replied bytes) short fits m s e = stands bytes buffer false (omega arith) m s e
answer-stands card region buffer response.locks short fits m s e =
    subst (λ (k : ℕ). Over k buffer buffer) (ap replied_count e) (record { front = []; long = refl; is = refl })

-- a mode's room
room-64 : (mode : Mode) → is_application mode ≡ true → room mode ≡ 64
room-64 Application e = refl
room-64 Locked e = absurd (false≢true e)
room-64 Unlocked e = absurd (false≢true e)

room-9 : (mode : Mode) → is_application mode ≡ false → room mode ≡ 9
room-9 Application e = absurd (false≢true (sym e))
room-9 Locked e = refl
room-9 Unlocked e = refl

-- a message in a loader mode that is no success
failed : (card : Card) (region password message buffer : List ℕ) → is_success (in_loader card region password message buffer).answer ≡ false
    → ((in_loader card region password message buffer).card ≡ card) × ((in_loader card region password message buffer).region ≡ region)
unfolding in_loader
failed card region password message buffer e =
    let k = loader.receive-keeps card.loader region password message in
    (ap (λ (l : Loader). with_loader l card) (k.state-kept e), k.region-kept e)

-- a message in application mode that is longer than any request
refused-long : (card : Card) (region message buffer : List ℕ) → 3 ≤ length message
    → ((in_application card region message buffer).card ≡ card) × ((in_application card region message buffer).region ≡ region)
    × (is_success (in_application card region message buffer).answer ≡ false)
unfolding in_application
refused-long card region message buffer long = rw (long-refused card.version card.«record» message long) (refl, refl, refl)

application-stands : (card : Card) (region message buffer : List ℕ) → 64 ≤ length buffer → Answered buffer (in_application card region message buffer)
unfolding in_application
application-stands card region message buffer fits =
    answer-stands card region buffer (answer_of card.version card.«record» message) (answer-short card.version card.«record» message) fits

loader-stands : (card : Card) (region password message buffer : List ℕ) → 9 ≤ length buffer → Answered buffer (in_loader card region password message buffer)
unfolding in_loader
loader-stands card region password message buffer fits =
    let reply = (received_of card.loader region password message).reply in
    stands (bytes_of reply) buffer (succeeded_of reply) (omega (arith, reply-short reply))

module _ (card : Card) (size : ℕ) (region password message buffer : List ℕ) where
  -- what holds of a refused call and of each kind of mode holds of a call
  pub call-cases : (P : After → Type 0) → ((n : ℕ) → P (after card region buffer (refused n)))
      → (is_application card.loader.mode ≡ true → room card.loader.mode ≤ length buffer → P (in_application card region message buffer))
      → (is_application card.loader.mode ≡ false → room card.loader.mode ≤ length buffer → P (in_loader card region password message buffer))
      → P (call_of card size region password message buffer)
  unfolding call_of
  call-cases P bad application inloader =
      let mode = card.loader.mode in
      on-cond P (not (good_size size && eqb (length region) size)) (after card region buffer (refused 1)) _ (λ e. bad 1)
      (λ e. on-cond P (not (eqb (length password) 256)) (after card region buffer (refused 2)) _ (λ e. bad 2)
      (λ e. on-cond P (ltb (length buffer) (room mode)) (after card region buffer (refused 13)) _ (λ e. bad 13)
      (λ e.
      let fits : room mode ≤ length buffer = ltb-false (length buffer) (room mode) e in
      on-cond P (is_application mode) (in_application card region message buffer) (in_loader card region password message buffer)
      (λ m. application m fits) (λ m. inloader m fits))))

  answer_keeps : (a : Answer) → Keeps card region buffer (settled_by card region (left_by a buffer))
  answer_keeps (response.refused n) =
      record { long = refl; version-kept = refl; record-kept = refl; expects = refl; refused-kept = λ m e. ap (after card region buffer) e }
  answer_keeps (response.replied bytes) =
      record { long = refl; version-kept = refl; record-kept = refl; expects = refl; refused-kept = λ m e. absurd (false≢true (ap is_refusal e)) }
  answer_keeps response.locks =
      record { long = refl; version-kept = refl; record-kept = refl; expects = refl; refused-kept = λ m e. absurd (false≢true (ap is_refusal e)) }

  application-keeps : Keeps card region buffer (in_application card region message buffer)
  unfolding in_application
  application-keeps = answer_keeps (answer_of card.version card.«record» message)

  loader-keeps : Keeps card region buffer (in_loader card region password message buffer)
  unfolding in_loader
  loader-keeps =
      let k = loader.receive-keeps card.loader region password message in
      record { long = k.long; version-kept = refl; record-kept = refl; expects = k.expects; refused-kept = λ m e. absurd (false≢true (ap is_refusal e)) }

  pub call-keeps : Keeps card region buffer (call_of card size region password message buffer)
  call-keeps =
      call-cases (Keeps card region buffer)
      (λ n. record { long = refl; version-kept = refl; record-kept = refl; expects = refl; refused-kept = λ m e. ap (after card region buffer) e })
      (λ e fits. application-keeps) (λ e fits. loader-keeps)

  -- in a loader mode what is no success leaves state and region
  pub failed-kept : is_application card.loader.mode ≡ false → is_success (call_of card size region password message buffer).answer ≡ false
      → ((call_of card size region password message buffer).card ≡ card) × ((call_of card size region password message buffer).region ≡ region)
  failed-kept mode =
      call-cases (λ a. is_success a.answer ≡ false → (a.card ≡ card) × (a.region ≡ region))
      (λ n e. (refl, refl)) (λ e fits. absurd (false≢true (sym mode ∙ e))) (λ e fits. failed card region password message buffer)

  -- in application mode no message of three or more bytes, and so no packet, is a success or changes anything
  pub packet-refused : is_application card.loader.mode ≡ true → 3 ≤ length message
      → ((call_of card size region password message buffer).card ≡ card) × ((call_of card size region password message buffer).region ≡ region)
      × (is_success (call_of card size region password message buffer).answer ≡ false)
  packet-refused mode long =
      call-cases (λ a. (a.card ≡ card) × (a.region ≡ region) × (is_success a.answer ≡ false))
      (λ n. (refl, refl, refl)) (λ e fits. refused-long card region message buffer long) (λ e fits. absurd (false≢true (sym e ∙ mode)))

  -- the bytes answered stand over the front of the reply buffer, and those beyond keep their values
  pub reply-stands : Answered buffer (call_of card size region password message buffer)
  reply-stands =
      call-cases (Answered buffer) (λ k n s e. absurd (false≢true (sym (ap is_refusal e))))
      (λ e fits. application-stands card region message buffer (rw (room-64 card.loader.mode e) at fits))
      (λ e fits. loader-stands card region password message buffer (rw (room-9 card.loader.mode e) at fits))

  -- a call in a loader mode whose lent memory is not refused hands its message to the loader
  pub call-received : is_application card.loader.mode ≡ false → good_size size ≡ true → length region ≡ size → length password ≡ 256 → 9 ≤ length buffer
      → call_of card size region password message buffer ≡ received_by card buffer (received_of card.loader region password message)
  unfolding call_of in_loader
  call-received mode good sized wide fits =
      let roomy : room card.loader.mode ≤ length buffer = rw (room-9 card.loader.mode mode) fits in
      rw (good, eq-eqb (length region) size sized, eq-eqb (length password) 256 wide, le-ltb (length buffer) (room card.loader.mode) roomy, mode, call_of)
