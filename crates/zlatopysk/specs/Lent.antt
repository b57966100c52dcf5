-- What the public functions leave in lent memory, for programs in C and Rust: the answer's numbers, and every lent byte
-- (document 01, "What the contracts must say"; document 02, T-07, T-09).
-- Assumes nothing.
use Rattle.std.specs.Prelude.{List, ℕ, get_or}
use Rattle.ti_txt.specs.Answers.{Outcome}
use Rattle.planner.specs.Plan as plan
use Rattle.delivery.specs.OneRegion.{One}
use Rattle.application.specs.declared.Version.{Version}
use Rattle.card.specs.Call.{After}
use Rattle.card.specs.Mains.{Cut, Restart}
use Rattle.card.specs.declared.Card.{Card}
use Rattle.sensor_record.specs.Answers.{Answer, refused, held, Output}
use Rattle.record_layout.specs.Layout.{value_bytes}
use Rattle.record_layout.specs.Reading.{values_in}
use Rattle.zlatopysk.specs.Numbers.{numbers, read_numbers, plan_numbers, check_numbers, mode_of, call_numbers, cut_numbers, restart_numbers}

-- the numbers of an answer, and the lent bytes then
pub record Left : Type 0 where
  pub answer : List ℕ
  pub lent : List ℕ

-- the two together
abbrev pub left : List ℕ → List ℕ → Left
left answer lent = record { answer = answer; lent = lent }

-- the numbers of an answer, and two lents of bytes then
pub record LeftBoth : Type 0 where
  pub answer : List ℕ
  pub lent : List ℕ
  pub also : List ℕ

-- the three together
abbrev pub left_both : List ℕ → List ℕ → List ℕ → LeftBoth
left_both answer lent also = record { answer = answer; lent = lent; also = also }

-- the reader: its answer, and the region
abbrev pub read_left : Outcome → Left
read_left o = left (read_numbers o.answer) o.region

-- the planner: its answer, and the output
abbrev pub plan_left : plan.Left → Left
plan_left l = left (plan_numbers l.answer) l.output

-- the checker: its answer, the region and its known bits
abbrev pub check_left : One → LeftBoth
check_left c = left_both (check_numbers c.answer c.packets c.unknown) c.region c.known

-- the version of three bytes xx, yy, zz
abbrev pub version_of : List ℕ → Version
version_of b = record { xx = get_or b 0 0; yy = get_or b 1 0; zz = get_or b 2 0 }

-- the card of a mode's number, an expected checksum, a version's three bytes and a record's 87
abbrev pub card_of : ℕ → ℕ → List ℕ → List ℕ → Card
card_of mode expected version values =
    record { loader = record { mode = mode_of mode; expected = expected }; version = version_of version; «record» = values_in values }

-- a call: its answer, the region and the reply buffer
abbrev pub call_left : After → LeftBoth
call_left a = left_both (call_numbers a.answer a.card.loader.mode) a.region a.buffer

-- a cut: its answer, and the region
abbrev pub cut_left : Cut → Left
cut_left c = left (cut_numbers c.answer) c.region

-- a restart: its answer, and the mode, which is all of the card that it changes
abbrev pub restart_left : Restart → List ℕ
restart_left r = restart_numbers r.answer r.card.loader.mode

-- the record's reader: its answer, and the 87 bytes of values, as they were where it refuses
abbrev pub held_left : Answer → List ℕ → Left
held_left (refused number) old = left (numbers number 0 0) old
held_left (held r) old = left (numbers 0 0 0) (value_bytes r)

-- the record's writer: its answer, and the output
abbrev pub written_left : Output → Left
written_left o = left (numbers o.refusal 0 0) o.out
