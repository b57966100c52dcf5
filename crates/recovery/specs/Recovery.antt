-- Downloads that the power cuts short, and the script sent afresh (document 02, T-07).
-- Assumes nothing.
use Rattle.std.specs.Prelude.{Bool, cond, not, ◌&&◌, true, List, [], ◌∷◌, ◌≡◌, ℕ, ◌≤◌, length, get_or, take}
use Rattle.card.specs.Call.{After, call_of}
use Rattle.card.specs.Mains.{Cut, Restart, done, cut_of, restart_of}
use Rattle.card.specs.declared.Card.{Card}
use Rattle.crc.specs.Crc.{checksum_of}
use Rattle.firmware_text.specs.Machine.{image_of}
use Rattle.loader.specs.Loader.{is_application}
use Rattle.text_image.specs.Picture.{picture_of}
use Rattle.delivery.specs.Check.{passed}
use Rattle.delivery.specs.OneRegion.{LimitsOne, one_of}
use Rattle.delivery.specs.Sending.{packets_in, Call, calls_of, region_after, Delivers, Entered, Roomy}

-- a card and its region
pub record Held : Type 0 where
  pub card : Card
  pub region : List ℕ

-- the two together
abbrev pub held : Card → List ℕ → Held
held card region = record { card = card; region = region }

-- the card that calls leave
abbrev pub card_after : Card → List Call → Card
card_after card [] = card
card_after card (c ∷ calls) = card_after c.gave.card calls

-- the card and the region that calls leave
abbrev pub held_after : Held → List Call → Held
held_after h calls = held (card_after h.card calls) (region_after h.region calls)

-- a call brings the firmware up: it meets another mode than application, and gives application; document 01's start, which
-- meets unlocked, is one way
abbrev pub brings_up : Call → Bool
brings_up c = not (is_application c.met) && is_application c.gave.card.loader.mode

-- no call brings the firmware up with another checksum than a given one
abbrev pub UpOnlyWith : ℕ → List Call → Type 0
UpOnlyWith sum [] = Unit
UpOnlyWith sum (c ∷ calls) = (brings_up c ≡ true → checksum_of c.gave.region ≡ sum) × UpOnlyWith sum calls

-- an attempt to send a script, which a power cut ends: `whole` packets are sent, and the next is cut at `place` of its
-- work; behind the last packet there is none, and the place is 0.
-- `buffer i` is the reply buffer that is lent with the i-th packet, `reply` the one that is lent with 0x32
pub record Attempt : Type 0 where
  pub whole : ℕ
  pub place : ℕ
  pub buffer : ℕ → List ℕ
  pub reply : List ℕ

-- a region of n bytes, a password, and the packets of a script
module _ (n : ℕ) (password : List ℕ) (packets : List (List ℕ)) where
  -- the calls that send packets to a card, with these reply buffers
  abbrev pub sending : (buffer : ℕ → List ℕ) → List (List ℕ) → Held → List Call
  sending buffer some h = calls_of (record { size = n; password = password; buffer = buffer }) 0 h.card h.region some

  module _ (a : Attempt) (h : Held) where
    -- the calls of the packets that are sent whole
    abbrev pub calls_in : List Call
    calls_in = sending a.buffer (take a.whole packets) h

    -- the card and the region that they leave
    abbrev pub reached : Held
    reached = held_after h calls_in

    -- the cut of the next packet
    abbrev pub cut_in : Cut
    cut_in = cut_of reached.card n reached.region password (get_or packets a.whole []) a.place

    -- the restart behind it
    abbrev pub restart_in : Restart
    restart_in = restart_of reached.card n cut_in.region

    -- 0x32 to the card that came up
    abbrev pub entering : After
    entering = call_of restart_in.card n cut_in.region password (0x32 ∷ []) a.reply

    -- the card and the region behind the attempt: 0x32 is sent if the card came up in application
    abbrev pub behind : Held
    behind =
        cond (is_application restart_in.card.loader.mode) (held entering.card entering.region)
        (held restart_in.card cut_in.region)

    -- an attempt that can be: no lent memory is refused, and the cut is not beyond the packet's work
    pub record Possible : Type 0 where
      pub roomy : Roomy a.buffer
      pub room : 64 ≤ length a.reply
      pub inside : cut_in.answer ≡ done

    -- neither a call of the attempt nor its restart brings the firmware up with another checksum; 0x32 is sent only to a
    -- card in application, which it leaves
    pub record NeverOther (sum : ℕ) : Type 0 where
      pub by_calls : UpOnlyWith sum calls_in
      pub by_restart : is_application restart_in.card.loader.mode ≡ true → checksum_of cut_in.region ≡ sum

  -- the card and the region behind attempts, one after the other
  abbrev pub behind_all : List Attempt → Held → Held
  behind_all [] h = h
  behind_all (a ∷ attempts) h = behind_all attempts (behind a h)

  -- each of them can be
  abbrev pub AllPossible : List Attempt → Held → Type 0
  AllPossible [] h = Unit
  AllPossible (a ∷ attempts) h = Possible a h × AllPossible attempts (behind a h)

  -- none of them brings the firmware up with another checksum
  abbrev pub NeverIn : ℕ → List Attempt → Held → Type 0
  NeverIn sum [] h = Unit
  NeverIn sum (a ∷ attempts) h = NeverOther a h sum × NeverIn sum attempts (behind a h)

  module _ (attempts : List Attempt) (h : Held) (buffer uncut : ℕ → List ℕ) where
    -- the calls that send the script afresh to what attempts left
    abbrev pub afresh : List Call
    afresh = sending buffer packets (behind_all attempts h)

    -- those that send it uncut to the card and the region of the start
    abbrev pub at_once : List Call
    at_once = sending uncut packets h

    -- the script is delivered afresh as it is uncut
    pub record Recovered (picture : List ℕ) (sum : ℕ) : Type 0 where
      -- the card is found as a freshly entered loader is
      pub entered : Entered n sum (behind_all attempts h).card (behind_all attempts h).region
      -- each packet succeeds, the last and no other starts the firmware, and the region then is the picture
      pub delivers : Delivers picture (behind_all attempts h).region afresh
      -- region and mode end as in the uncut run
      pub same_region : (held_after (behind_all attempts h) afresh).region ≡ (held_after h at_once).region
      pub same_mode : (held_after (behind_all attempts h) afresh).card.loader.mode ≡ (held_after h at_once).card.loader.mode
      -- the firmware is never started with another checksum, neither in the attempts nor afterwards
      pub never_before : NeverIn sum attempts h
      pub never_after : UpOnlyWith sum afresh

-- T-07: so it is of every script that the checker passes, with the region and the known bits that it is lent (T-09), cut any number of
-- times, at any moments. A cut between a restart and 0x32 is followed by another restart, which changes nothing (`restart-twice` of
-- `card`).
-- What a cut leaves is fixed by `left_by` of `power_cut`: this claim asks of it only that the region stays n bytes
abbrev pub Recovers : Type 0
Recovers =
    (script text password : List ℕ) (expected n : ℕ) (lent known : List ℕ) → LimitsOne script text password n lent known
    → (one_of script text password expected n lent known).answer ≡ passed
    → (card : Card) (region : List ℕ) → Entered n expected card region
    → (attempts : List Attempt) → AllPossible n password (packets_in script) attempts (held card region)
    → (buffer uncut : ℕ → List ℕ) → Roomy buffer → Roomy uncut
    → Recovered n password (packets_in script) attempts (held card region) buffer uncut (picture_of n (image_of text)) expected
