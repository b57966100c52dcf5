-- Laws of a power cut and a restart, for the loader's part: no work in application mode; what a cut write and a cut erase leave, and what
-- a cut at 0 and one at the whole work do; a second restart.
-- Assumes nothing.
use mathlib.Core.Path.{◌≡◌, refl, sym, ap, ◌∙◌}
use mathlib.Core.Bool.{Bool, true, false, cond, not, ◌&&◌, false≢true}
use mathlib.Core.List.{List, [], ◌∷◌, ◌++◌, append-nil}
use Prim.Native.Nat.{ℕ, ◌+◌, ◌*◌, ◌/◌, ◌%◌, ◌≤◌}
use native.Mathlib.Nat.{zero-add}
use native.Mathlib.Omega.{arith}
use lib.Dec.{eqb}
use lib.ListN.{length, take, drop, replicate, length-replicate, drop_of_length-le}
use lib.Seq.{take-length, length-take-le}
use Rattle.flash.specs.Flash.{allows_of, written, write_of, starts_of}
use Rattle.little_endian.specs.Bytes.{stored_at}
use Rattle.little_endian.proofs.Stored.{stored-between, stored-nothing}
use Rattle.packet.specs.Packet.{acknowledgement_of, core_of, command_of, address_of}
use Rattle.packet.specs.declared.Command.{Command}
use Rattle.packet.specs.declared.Command.TheVariants.{Password, Erase, Write, RangeChecksum, Start, Unknown}
use Rattle.region.specs.Same.{same}
use Rattle.test_laws.proofs.Tests.{on-cond}
use Rattle.loader.specs.Loader.{Outcome, outcome, is_unlocked, wants_unlocked, succeeded_of, done_of, password_of, write_done, range_done, start_of, obeyed_of, received_of}
use Rattle.power_cut.specs.Cut.{command_work, work_by, work_of, left_by, left_of, restarted_of}
use Rattle.loader.specs.declared.Loader.{Loader}
use Rattle.loader.specs.declared.Reply.TheVariants.{Byte, Message}
use Rattle.loader.proofs.Laws.{receive-keeps}

-- new bytes over the front of a list
pub over-front : (new old : List ℕ) (n : ℕ) → length new ≡ n → n ≤ length old → new ++ drop n old ≡ stored_at 0 new old
over-front new old n long fits =
    ap (λ (k : ℕ). new ++ drop k old) (sym long ∙ sym (zero-add (length new))) ∙ sym (stored-between 0 new old (omega arith))

-- ---- the work

-- a command without work has none, whatever comes of it
pub no-work : (t : Bool) → ◌≡◌ {A = ℕ} 0 (cond t 0 0)
no-work true = refl
no-work false = refl

-- the work of a write, by its test
by-test : (t : Bool) (n : ℕ) (x y : List ℕ) → cond t n 0 ≡ cond (succeeded_of (Message (cond (cond t (written true x) (written false y)).done 0x00 0x01))) n 0
by-test true n x y = refl
by-test false n x y = refl

pub write-works : (loader : Loader) (region password core : List ℕ)
    → cond (allows_of (drop 5 core) (address_of core) region) (length (drop 5 core)) 0 ≡ work_by Write core region (done_of Write loader region password core)
unfolding command_work done_of write_done write_of
write-works loader region password core = by-test (allows_of (drop 5 core) (address_of core) region) (length (drop 5 core)) _ _

-- a message that would be refused has no work
pub refused-idle : (loader : Loader) (region password message : List ℕ) → succeeded_of (received_of loader region password message).reply ≡ false → work_of loader region password message ≡ 0
unfolding work_of
refused-idle loader region password message e = rw e refl

module _ (loader : Loader) (region password : List ℕ) where
  -- a command that is not held back though the loader is not unlocked has no work
  free-idle : (c : Command) (core : List ℕ) (t : Bool) → wants_unlocked c ≡ false → cond t (command_work c core (length region)) 0 ≡ 0
  unfolding command_work
  free-idle Password core t e = sym (no-work t)
  free-idle Erase core t e = absurd (false≢true (sym e))
  free-idle Write core t e = absurd (false≢true (sym e))
  free-idle RangeChecksum core t e = absurd (false≢true (sym e))
  free-idle Start core t e = absurd (false≢true (sym e))
  free-idle Unknown core t e = sym (no-work t)

  abbrev Idle : List ℕ → Outcome → Type 0
  Idle core o = work_by (command_of core) core region o ≡ 0

  wants-not : (w : Bool) → (w && true) ≡ false → w ≡ false
  wants-not true e = e
  wants-not false e = refl

  obeyed-idle : (core : List ℕ) → is_unlocked loader.mode ≡ false → Idle core (obeyed_of loader region password core)
  unfolding obeyed_of
  obeyed-idle core shut =
      on-cond (Idle core) (wants_unlocked (command_of core) && not (is_unlocked loader.mode)) _ _ (λ e. refl)
      (λ e. free-idle (command_of core) core (succeeded_of (done_of (command_of core) loader region password core).reply) (wants-not (wants_unlocked (command_of core)) (rw shut at e)))

  -- a loader that is not unlocked, as in application mode, has no work
  pub shut-idle : (message : List ℕ) → is_unlocked loader.mode ≡ false → work_of loader region password message ≡ 0
  unfolding work_of received_of
  shut-idle message shut =
      let core = core_of message in
      on-cond (Idle core) (same message (0x31 ∷ [])) (outcome loader region (Byte 0x01)) _ (λ e. refl)
      (λ e. on-cond (Idle core) (not (eqb (acknowledgement_of message) 0x00)) (outcome loader region (Byte (acknowledgement_of message))) (obeyed_of loader region password core) (λ e. refl) (λ e. obeyed-idle core shut))

-- ---- what a cut leaves

-- a cut write leaves the bytes before its address, its first new bytes, and the old ones after
pub write-left : (core region : List ℕ) (k : ℕ) → k ≤ length (drop 5 core) → address_of core + length (drop 5 core) ≤ length region
    → left_by Write core k region ≡ take (address_of core) region ++ (take k (drop 5 core) ++ drop (address_of core + k) region)
unfolding left_by
write-left core region k few fits =
    let new = take k (drop 5 core) in
    let long : length new ≡ k = length-take-le k (drop 5 core) few in
    stored-between (address_of core) new region (omega (arith, long))
    ∙ ap (λ (n : ℕ). take (address_of core) region ++ (new ++ drop (address_of core + n) region)) long

-- a cut erase leaves its first blocks at 0xFF, and the old bytes after
pub erase-left : (core region : List ℕ) (k : ℕ) → k * 4096 ≤ length region → left_by Erase core k region ≡ replicate (k * 4096) 0xFF ++ drop (k * 4096) region
unfolding left_by
erase-left core region k fits = sym (over-front (replicate (k * 4096) 0xFF) region (k * 4096) (length-replicate (k * 4096) 0xFF) fits)

-- none of a command's work leaves the region
none_left : (c : Command) (core region : List ℕ) → left_by c core 0 region ≡ region
unfolding left_by
none_left Password core region = refl
none_left Erase core region = stored-nothing 0 region
none_left Write core region = stored-nothing (address_of core) region
none_left RangeChecksum core region = refl
none_left Start core region = refl
none_left Unknown core region = refl

-- a cut at 0 leaves the region
pub cut-none : (message region : List ℕ) → left_of message 0 region ≡ region
cut-none message region = none_left (command_of (core_of message)) (core_of message) region

-- all blocks
whole-erase : (region : List ℕ) → length region % 4096 ≡ 0 → stored_at 0 (replicate (length region / 4096 * 4096) 0xFF) region ≡ replicate (length region) 0xFF
whole-erase region even =
    let all : length region / 4096 * 4096 ≡ length region = omega (arith, even) in
    let end : length region ≤ length region = omega arith in
    rw all
    (sym (over-front (replicate (length region) 0xFF) region (length region) (length-replicate (length region) 0xFF) end)
    ∙ ap (λ (l : List ℕ). replicate (length region) 0xFF ++ l) (drop_of_length-le region end) ∙ append-nil (replicate (length region) 0xFF))

module _ (loader : Loader) (region password : List ℕ) (even : length region % 4096 ≡ 0) where
  abbrev Whole : Command → List ℕ → Outcome → Type 0
  Whole c core o = succeeded_of o.reply ≡ true → left_by c core (command_work c core (length region)) region ≡ o.region

  whole-write : (core : List ℕ) (t : Bool) → succeeded_of (Message (cond (cond t (written true (stored_at (address_of core) (drop 5 core) region)) (written false region)).done 0x00 0x01)) ≡ true
      → stored_at (address_of core) (take (length (drop 5 core)) (drop 5 core)) region ≡ (cond t (written true (stored_at (address_of core) (drop 5 core) region)) (written false region)).region
  whole-write core true e = ap (λ (l : List ℕ). stored_at (address_of core) l region) (take-length (drop 5 core))
  whole-write core false e = absurd (false≢true e)

  whole-done : (c : Command) (core : List ℕ) → Whole c core (done_of c loader region password core)
  unfolding left_by command_work done_of password_of write_done write_of range_done start_of
  whole-done Password core = on-cond (λ (o : Outcome). succeeded_of o.reply ≡ true → region ≡ o.region) (same (drop 1 core) password) _ _ (λ _ e. refl) (λ _ e. refl)
  whole-done Erase core = λ e. whole-erase region even
  whole-done Write core = λ e. whole-write core (allows_of (drop 5 core) (address_of core) region) e
  whole-done RangeChecksum core = λ e. refl
  whole-done Start core = on-cond (λ (o : Outcome). succeeded_of o.reply ≡ true → region ≡ o.region) (starts_of (address_of core) loader.expected region) _ _ (λ _ e. refl) (λ _ e. refl)
  whole-done Unknown core = λ e. refl

  whole-obeyed : (core : List ℕ) → Whole (command_of core) core (obeyed_of loader region password core)
  unfolding obeyed_of
  whole-obeyed core =
      on-cond (Whole (command_of core) core) (wants_unlocked (command_of core) && not (is_unlocked loader.mode)) _ _
      (λ _ e. absurd (false≢true e)) (λ _. whole-done (command_of core) core)

  whole-received : (message : List ℕ) → Whole (command_of (core_of message)) (core_of message) (received_of loader region password message)
  unfolding received_of
  whole-received message =
      let core = core_of message in
      on-cond (Whole (command_of core) core) (same message (0x31 ∷ [])) (outcome loader region (Byte 0x01)) _ (λ _ e. absurd (false≢true e))
      (λ _. on-cond (Whole (command_of core) core) (not (eqb (acknowledgement_of message) 0x00)) (outcome loader region (Byte (acknowledgement_of message))) (obeyed_of loader region password core) (λ _ e. absurd (false≢true e)) (λ _. whole-obeyed core))

  -- a cut at the whole work leaves what the message leaves
  pub cut-whole : (message : List ℕ) → left_of message (work_of loader region password message) region ≡ (received_of loader region password message).region
  unfolding work_of
  cut-whole message = go (succeeded_of (received_of loader region password message).reply) refl
    where
      core : List ℕ
      core = core_of message

      go : (t : Bool) → succeeded_of (received_of loader region password message).reply ≡ t
          → left_of message (cond t (command_work (command_of (core_of message)) (core_of message) (length region)) 0) region ≡ (received_of loader region password message).region
      go true e = whole-received message e
      go false e = cut-none message region ∙ sym ((receive-keeps loader region password message).region-kept e)

-- ---- a restart

-- a second restart changes nothing
pub restart-again : (loader : Loader) (region : List ℕ) → restarted_of (restarted_of loader region) region ≡ restarted_of loader region
unfolding restarted_of
restart-again loader region = refl
