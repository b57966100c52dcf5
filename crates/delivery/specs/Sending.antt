-- Sending a script to a card (document 01, "Scripts, planner, checker", its last paragraph): a list of loader calls.
-- Assumes nothing.
use Rattle.std.specs.Prelude.{Bool, true, ◌&&◌, List, [], ◌∷◌, ◌≢◌, ◌≡◌, ℕ, suc, ◌≤◌, length, drop}
use Rattle.card.specs.Call.{After, call_of, is_success}
use Rattle.card.specs.declared.Card.{Card}
use Rattle.little_endian.specs.Bytes.{Bytes}
use Rattle.loader.specs.Loader.{is_application, is_unlocked}
use Rattle.loader.specs.declared.Mode.{Mode}
use Rattle.loader.specs.declared.Mode.TheVariants.{Locked}
use Rattle.script.specs.Script.{headed, frames_of}
use Rattle.delivery.specs.Check.{is_empty}

-- bytes are a script: the head is right, and the framing uses up the rest exactly
pub record IsScript (bytes : List ℕ) : Type 0 where
  pub begins : headed bytes ≡ true
  pub used_up : (frames_of (drop 5 bytes)).rest ≡ []

-- the packets of a script
abbrev pub packets_in : List ℕ → List (List ℕ)
packets_in script = (frames_of (drop 5 script)).packets

-- one call of `card::call`: the mode that it met, and what it answered and left
pub record Call : Type 0 where
  pub met : Mode
  pub gave : After

-- what each of the calls is given: the size of the region, the password, and a reply buffer, the i-th call `buffer i`
pub record Lent : Type 0 where
  pub size : ℕ
  pub password : List ℕ
  pub buffer : ℕ → List ℕ

-- the i-th call, for a card, a region and a packet, which is its whole message
abbrev pub call_no : Lent → ℕ → Card → List ℕ → List ℕ → Call
call_no lent i card region packet =
    record { met = card.loader.mode; gave = call_of card lent.size region lent.password packet (lent.buffer i) }

-- the list of calls that sends packets in order, from the i-th on: each gets the state and the region that the one before returned
-- or left, and nothing comes between
abbrev pub calls_of : Lent → ℕ → Card → List ℕ → List (List ℕ) → List Call
calls_of lent i card region [] = []
calls_of lent i card region (packet ∷ packets) =
    call_no lent i card region packet
    ∷ calls_of lent (suc i) (call_no lent i card region packet).gave.card (call_no lent i card region packet).gave.region packets

-- the region that calls leave
abbrev pub region_after : List ℕ → List Call → List ℕ
region_after region [] = region
region_after region (c ∷ calls) = region_after c.gave.region calls

-- a call starts the firmware: it takes the mode from unlocked to application
abbrev pub starts : Call → Bool
starts c = is_unlocked c.met && is_application c.gave.card.loader.mode

-- each call is a success
abbrev pub AllSucceed : List Call → Type 0
AllSucceed [] = Unit
AllSucceed (c ∷ calls) = (is_success c.gave.answer ≡ true) × AllSucceed calls

-- the last call starts the firmware, and no other
abbrev pub OnlyLastStarts : List Call → Type 0
OnlyLastStarts [] = Unit
OnlyLastStarts (c ∷ calls) = (starts c ≡ is_empty calls) × OnlyLastStarts calls

-- a list of calls, from a region on, puts a picture there and starts the firmware
pub record Delivers (picture region : List ℕ) (calls : List Call) : Type 0 where
  pub some_packet : calls ≢ []
  pub succeed : AllSucceed calls
  pub last_starts : OnlyLastStarts calls
  pub holds : region_after region calls ≡ picture

-- a card whose loader was freshly entered: locked, with the expected checksum, and a region of n bytes; the bytes and the rest of
-- the state are arbitrary
pub record Entered (n expected : ℕ) (card : Card) (region : List ℕ) : Type 0 where
  pub is_locked : card.loader.mode ≡ Locked
  pub expects : card.loader.expected ≡ expected
  pub sized : length region ≡ n
  pub bytes : Bytes region

-- reply buffers that no call refuses in a loader mode
abbrev pub Roomy : (ℕ → List ℕ) → Type 0
Roomy buffer = (i : ℕ) → 9 ≤ length (buffer i)

-- bytes are a script that puts a picture into every such card, whatever its region held before
pub record Works (script picture password : List ℕ) (expected n : ℕ) : Type 0 where
  pub is_script : IsScript script
  pub delivers : (card : Card) (region : List ℕ) → Entered n expected card region → (buffer : ℕ → List ℕ) → Roomy buffer
      → Delivers picture region (calls_of (record { size = n; password = password; buffer = buffer }) 0 card region (packets_in script))
