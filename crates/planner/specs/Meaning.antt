-- What the planner's answer says of the output (document 01, "Scripts, planner, checker").
-- Assumes nothing.
use Rattle.std.specs.Prelude.{true, List, [], ◌≡◌, ℕ, ◌<◌, ◌≤◌, length, take, drop}
use Rattle.firmware_text.specs.Machine.{image_of}
use Rattle.region.specs.Size.{good_size}
use Rattle.script.specs.Script.{headed, frames_of, longest_script}
use Rattle.script.specs.Page.{ByTheRules}
use Rattle.text_image.specs.Rules.{rules_of, sound}
use Rattle.planner.specs.Plan.{planned, plan_of}

-- a script was written over the front of an output
pub record Wrote (text password : List ℕ) (entry n : ℕ) (before : List ℕ) (count : ℕ) (after : List ℕ) : Type 0 where
  pub script : List ℕ
  -- the size and the password's length are right, its text is sound for the region, and the entry address lies in it
  pub good : good_size n ≡ true
  pub wide : length password ≡ 256
  pub from_sound : rules_of text n ≡ sound
  pub enters : entry < n
  -- it is a script by the page's own rules, which the framing uses up, and not above document 01's limit
  pub by_rules : ByTheRules n (image_of text) password entry script
  pub begins : headed script ≡ true
  pub used_up : (frames_of (drop 5 script)).rest ≡ []
  pub short : length script ≤ longest_script
  -- the answer is its length; it stands first in the output, and later bytes are untouched
  pub counted : count ≡ length script
  pub first : take count after ≡ script
  pub untouched : drop count after ≡ drop count before

-- whenever the planner answers a length
abbrev pub PlansRight : Type 0
PlansRight =
    (text password : List ℕ) (entry n : ℕ) (output : List ℕ) (count : ℕ) → (plan_of text password entry n output).answer ≡ planned count
    → Wrote text password entry n output count (plan_of text password entry n output).output
