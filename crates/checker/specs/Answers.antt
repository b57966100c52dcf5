-- What the checker answers, in document 01's terms ("Scripts, planner, checker", "Refusal numbers") and T-09's.
-- Assumes nothing.
use Rattle.std.specs.Prelude.{List, ◌≡◌, ℕ, ◌≤◌, length, Result, Ok, Err}
use Rattle.delivery.specs.Beside.{Beside}
use Rattle.delivery.specs.Check.{Said, passed, refused, Trial}
use Rattle.delivery.specs.Check as check
use Rattle.delivery.specs.OneRegion.{One, one}
use Rattle.known_bits.specs.Known.{longest_map, Knows}
use Rattle.loader.specs.declared.Loader.{Loader}
use Rattle.refusal.specs.Refusal.{number_of}
use Rattle.refusal.specs.declared.Refusal.{Refusal}
use Rattle.refusal.specs.declared.Refused.{Refused}
use Rattle.checker.specs.declared.Checked.{Checked}

-- what was said, in these terms
abbrev pub said : Result (Unit {0}) Refused → Said
said (Ok none) = passed
said (Err why) = refused (number_of why.refusal) why.place

-- what was answered, and the region and its known bits then
abbrev pub answered : Checked → List ℕ → List ℕ → One
answered r region known = one (said r.answer) r.packets r.unknown region known

-- what became of a packet: the refusal that it got, 0 if none
abbrev pub fault_of : Result Loader Refusal → ℕ
fault_of (Err why) = number_of why
fault_of (Ok next) = 0

-- and the loader's state behind it
abbrev pub next_of : Result Loader Refusal → Loader → Loader
next_of (Err why) loader = loader
next_of (Ok next) loader = next

-- a run in one region beside the two over 0x00 and over 0xFF: it is the run over 0x00, the other stands beside it, and the bits, no more
-- than a region has, say where their buffers have the same byte
pub record Tells (zeros ones : Trial) (known : List ℕ) : Type 0 where
  pub beside : Beside zeros ones ones.loader ones.region
  pub knows : Knows zeros.region ones.region known
  pub short : length known ≤ longest_map

-- a packet in both runs, told in one region: the same refusal, the same run over 0x00, and the bits tell of the other
pub record Follows (s : check.Step) (fault : ℕ) (zeros : Trial) (known : List ℕ) : Type 0 where
  pub faults : s.fault ≡ fault
  pub runs : s.zeros ≡ zeros
  pub tells : Tells zeros s.ones known
