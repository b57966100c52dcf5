-- The checker with one region and a bit for each of its bytes (document 02, T-09), defined from the two runs of `Check.antt`.
-- Assumes nothing.
use Rattle.std.specs.Prelude.{true, false, cond, List, [], ◌∷◌, ◌↔◌, ◌≡◌, ℕ, ◌/◌, ◌<◌, eqb, length, get_or, take, replicate}
use Rattle.address_set.specs.Bits.{marked}
use Rattle.crc.specs.Crc.{checksum_of}
use Rattle.firmware_text.specs.Machine.{image_of}
use Rattle.flash.specs.Flash.{allows_of}
use Rattle.known_bits.specs.Known.{unknown_of, differ, known_of, Knows}
use Rattle.little_endian.specs.Bytes.{Bytes}
use Rattle.planner.specs.Plan.{planned, plan_of}
use Rattle.text_image.specs.Picture.{picture_of}
use Rattle.delivery.specs.Check.{Said, passed, refused, Checked, trial, locked, run_of, judged_of, check_of}
use Rattle.delivery.specs.Demand.{Limits, Upholds}
use Rattle.delivery.specs.Meaning.{behind_all}
use Rattle.delivery.specs.Sending.{packets_in}

-- what the checker answers: pass or refusal and place, the number of packets that succeeded, that of the bytes still unknown at the end
-- of the run, and the region and its known bits then
pub record One : Type 0 where
  pub answer : Said
  pub packets : ℕ
  pub unknown : ℕ
  pub region : List ℕ
  pub known : List ℕ

-- the five together
abbrev pub one : Said → (packets unknown : ℕ) (region known : List ℕ) → One
one answer packets unknown region known = record { answer = answer; packets = packets; unknown = unknown; region = region; known = known }

-- what two runs came to, in one region: that of the run over zeros, known where the two buffers have the same byte and unknown where
-- they differ
unfoldable pub single : Checked → One
single c = one c.answer c.packets (differ c.zeros c.ones) c.zeros (known_of c.zeros c.ones)

-- what is judged before the run is begun, with a region and known bits of these lengths: 1 if the bits are not n/8 bytes, and else what is
-- judged with two buffers of the region's length
unfoldable pub judged_one : (script text password : List ℕ) (n region-length known-length : ℕ) → Said
judged_one script text password n region-length known-length =
    cond (eqb known-length (n / 8)) (judged_of script text password n region-length region-length) (refused 1 0)

-- a refusal then, before 7 in the table, leaves the memory untouched and reports 0 unknown
abbrev pub unless_refused_one : Said → (region known : List ℕ) → One → One
unless_refused_one passed region known next = next
unless_refused_one (refused number place) region known next = one (refused number place) 0 0 region known

-- the checker: a script, a firmware text, a password, an expected checksum, the region's size, and the region and the known bits as they
-- are lent
unfoldable pub one_of : (script text password : List ℕ) (expected n : ℕ) (region known : List ℕ) → One
one_of script text password expected n region known =
    unless_refused_one (judged_one script text password n (length region) (length known)) region known
    (single (run_of script (picture_of n (image_of text)) password expected n))

-- ---- the comparison with two buffers

-- memory that both take: two buffers of n bytes, and a region of n bytes with n/8 bytes of known bits
pub record BothTake (n : ℕ) (zeros ones region known : List ℕ) : Type 0 where
  pub zeros_sized : length zeros ≡ n
  pub ones_sized : length ones ≡ n
  pub region_sized : length region ≡ n
  pub known_sized : length known ≡ n / 8

-- the same pass, or refusal and place, and the same number of packets. Where the run was begun, which `judged` says, the region is the
-- buffer of zeros, the bits say where the two buffers have the same byte, and the unknown bytes are the places where they differ, which the
-- count of the bits gives. A refusal before that reports none and leaves the lent memory
pub record AsTwo (judged : Said) (two : Checked) (region known : List ℕ) (c : One) : Type 0 where
  pub answer : c.answer ≡ two.answer
  pub packets : c.packets ≡ two.packets
  pub unknown : judged ≡ passed → c.unknown ≡ differ two.zeros two.ones
  pub counted : judged ≡ passed → unknown_of c.known ≡ differ two.zeros two.ones
  pub holds : judged ≡ passed → c.region ≡ two.zeros
  pub bits : judged ≡ passed → Knows two.zeros two.ones c.known
  pub before : (number place : ℕ) → judged ≡ refused number place → c ≡ one (refused number place) 0 0 region known

-- so it is on every input that both take. The answer is defined from the two runs; that the code gives it is the contract of
-- `checker::check`
abbrev pub SameAsTwo : Type 0
SameAsTwo =
    (script text password : List ℕ) (expected n : ℕ) (zeros ones region known : List ℕ) → BothTake n zeros ones region known
    → AsTwo (judged_of script text password n (length zeros) (length ones)) (check_of script text password expected n zeros ones)
    region known (one_of script text password expected n region known)

-- ---- what the bits say

-- the byte at an address stands as 0, and a write of one byte there is allowed exactly if the byte is 0; a longer one is judged byte by
-- byte
pub record StandsAsZero (region : List ℕ) (a : ℕ) : Type 0 where
  pub stands : get_or region a 0 ≡ 0
  pub takes : (new : ℕ) → (allows_of (new ∷ []) a region ≡ true) ↔ (new ≡ 0)

-- so it is of every unknown byte, wherever a run ends: with a pass, or with any of 7 to 12
abbrev pub UnknownIsZero : Type 0
UnknownIsZero =
    (script text password : List ℕ) (expected n : ℕ) (region known : List ℕ)
    → judged_one script text password n (length region) (length known) ≡ passed
    → (a : ℕ) → a < n → marked (one_of script text password expected n region known).known a ≡ false
    → StandsAsZero (one_of script text password expected n region known).region a

-- what a flash holds that held some bytes, behind the first packets of a script, run as the trial runs are
abbrev pub flash_behind : (script password : List ℕ) (expected packets : ℕ) (held : List ℕ) → List ℕ
flash_behind script password expected packets held =
    (behind_all password (take packets (packets_in script)) (trial (locked expected) held)).region

-- a bit is 1 exactly where every flash, whatever bytes it held, has the region's byte behind the packets that succeeded in both runs
abbrev pub KnownMeansKnown : Type 0
KnownMeansKnown =
    (script text password : List ℕ) (expected n : ℕ) (region known : List ℕ)
    → judged_one script text password n (length region) (length known) ≡ passed
    → (a : ℕ) → a < n
    → (marked (one_of script text password expected n region known).known a ≡ true)
    ↔ ((held : List ℕ) → Bytes held → length held ≡ n
    → get_or (flash_behind script password expected (one_of script text password expected n region known).packets held) a 0
    ≡ get_or (one_of script text password expected n region known).region a 0)

-- 0 is reported, every bit is 1, and the region is the picture
pub record AllKnown (picture : List ℕ) (n : ℕ) (c : One) : Type 0 where
  pub none : c.unknown ≡ 0
  pub bits : c.known ≡ replicate (n / 8) 0xFF
  pub holds : c.region ≡ picture

-- so it is on every pass
abbrev pub PassKnowsAll : Type 0
PassKnowsAll =
    (script text password : List ℕ) (expected n : ℕ) (region known : List ℕ)
    → (one_of script text password expected n region known).answer ≡ passed
    → AllKnown (picture_of n (image_of text)) n (one_of script text password expected n region known)

-- ---- demand 3

-- document 01's limits, with T-09's memory: those for two buffers of the region's length, and n/8 bytes of known bits
pub record LimitsOne (script text password : List ℕ) (n : ℕ) (region known : List ℕ) : Type 0 where
  pub within : Limits script text password n region region
  pub known_sized : length known ≡ n / 8

-- demand 3, of every check within the limits
abbrev pub Demand3One : Type 0
Demand3One =
    (script text password : List ℕ) (expected n : ℕ) (region known : List ℕ) → LimitsOne script text password n region known
    → Upholds script text password expected n (one_of script text password expected n region known).answer

-- what the planner writes, it passes: on the same text, password and size, with the image's checksum expected
abbrev pub PlannedPassesOne : Type 0
PlannedPassesOne =
    (text password : List ℕ) (entry n : ℕ) (output : List ℕ) (count : ℕ) (region known : List ℕ) → length region ≡ n → length known ≡ n / 8
    → (plan_of text password entry n output).answer ≡ planned count
    → (one_of (take count (plan_of text password entry n output).output) text password
    (checksum_of (picture_of n (image_of text))) n region known).answer ≡ passed
