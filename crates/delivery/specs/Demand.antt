-- Demand 3: what a pass of the checker is worth, as one statement about the list of loader calls. Here it is said of document 01's checker
-- with two trial buffers; `Demand3One` says the same of T-09's, with one region (`OneRegion.antt`).
-- Assumes nothing.
use Rattle.std.specs.Prelude.{true, List, ◌↔◌, ◌≡◌, ℕ, ◌<◌, ◌≤◌, length, take}
use Rattle.crc.specs.Crc.{checksum_of}
use Rattle.firmware_text.specs.Machine.{image_of}
use Rattle.planner.specs.Plan.{planned, plan_of}
use Rattle.region.specs.Size.{good_size}
use Rattle.script.specs.Page.{ByTheRules}
use Rattle.script.specs.Script.{longest_script}
use Rattle.text_image.specs.Picture.{picture_of}
use Rattle.text_image.specs.Rules.{rules_of, sound}
use Rattle.delivery.specs.Check.{Said, passed, check_of}
use Rattle.delivery.specs.Sending.{Works}

-- document 01's limits: none of refusals 1, 2, 18, 3, 4 and 5
pub record Limits (script text password : List ℕ) (n : ℕ) (zeros ones : List ℕ) : Type 0 where
  pub size : good_size n ≡ true
  pub zeros_sized : length zeros ≡ n
  pub ones_sized : length ones ≡ n
  pub wide : length password ≡ 256
  pub short : length script ≤ longest_script
  pub from_sound : rules_of text n ≡ sound

-- demand 3 of one check and its answer, for the picture of the text's image
pub record Upholds (script text password : List ℕ) (expected n : ℕ) (answer : Said) : Type 0 where
  -- it passes the bytes exactly when they are a script that puts the picture into every card
  pub exactly : (answer ≡ passed) ↔ Works script (picture_of n (image_of text)) password expected n
  -- and it passes every script written by the page's own rules for that image, if it carries that password, the expected checksum is the
  -- image's and the entry address lies in the region
  pub page : (entry : ℕ) → ByTheRules n (image_of text) password entry script → checksum_of (picture_of n (image_of text)) ≡ expected
      → entry < n → answer ≡ passed

-- demand 3: so it is of every check within the limits
abbrev pub Demand3 : Type 0
Demand3 =
    (script text password : List ℕ) (expected n : ℕ) (zeros ones : List ℕ) → Limits script text password n zeros ones
    → Upholds script text password expected n (check_of script text password expected n zeros ones).answer

-- what the planner writes, the checker passes: on the same text, password and size, with the image's checksum expected
abbrev pub PlannedPasses : Type 0
PlannedPasses =
    (text password : List ℕ) (entry n : ℕ) (output : List ℕ) (count : ℕ) (zeros ones : List ℕ) → length zeros ≡ n → length ones ≡ n
    → (plan_of text password entry n output).answer ≡ planned count
    → (check_of (take count (plan_of text password entry n output).output) text password
    (checksum_of (picture_of n (image_of text))) n zeros ones).answer ≡ passed
