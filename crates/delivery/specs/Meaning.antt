-- What the number and the two buffers of document 01's checker are ("Scripts, planner, checker").
-- Assumes nothing.
use Rattle.std.specs.Prelude.{true, List, [], ◌∷◌, ◌≡◌, ℕ, ◌≤◌, length, take, replicate}
use Rattle.delivery.specs.Check.{Checked, Trial, trial, locked, succeeds_on, behind, run_of}
use Rattle.delivery.specs.Sending.{packets_in}

-- a trial run behind packets
abbrev pub behind_all : List ℕ → List (List ℕ) → Trial → Trial
behind_all password [] t = t
behind_all password (packet ∷ packets) t = behind_all password packets (behind password packet t)

-- each packet is a success in a trial run, where it meets what the one before it left
abbrev pub AllSucceedOn : List ℕ → List (List ℕ) → Trial → Type 0
AllSucceedOn password [] t = Unit
AllSucceedOn password (packet ∷ packets) t = (succeeds_on password packet t ≡ true) × AllSucceedOn password packets (behind password packet t)

-- packets succeeded in a trial run, and a buffer holds what they left
pub record Left (password : List ℕ) (packets : List (List ℕ)) (t : Trial) (buffer : List ℕ) : Type 0 where
  pub succeeded : AllSucceedOn password packets t
  pub holds : buffer ≡ (behind_all password packets t).region

-- so many packets of a script succeeded in both runs, and both buffers hold what they left
pub record Counts (script password : List ℕ) (expected n : ℕ) (c : Checked) : Type 0 where
  pub few : c.packets ≤ length (packets_in script)
  pub over_zeros : Left password (take c.packets (packets_in script)) (trial (locked expected) (replicate n 0x00)) c.zeros
  pub over_ones : Left password (take c.packets (packets_in script)) (trial (locked expected) (replicate n 0xFF)) c.ones

-- so it is of every check that runs packets, passed or refused
abbrev pub CountsRight : Type 0
CountsRight = (script picture password : List ℕ) (expected n : ℕ) → Counts script password expected n (run_of script picture password expected n)
