-- What a command says of its core: document 01's row of the table.
-- Assumes nothing.
use mathlib.Core.Path.{◌≡◌, refl, ◌∙◌}
use mathlib.Core.Bool.{true, ◌&&◌}
use mathlib.Core.List.{List}
use Prim.Native.Nat.{ℕ, ◌+◌, ◌≤◌}
use borrow.Author.Tests.{eqb-true, leb-true}
use lib.Dec.{eqb, leb}
use lib.ListN.{length, get_or}
use Rattle.test_laws.proofs.Tests.{both, on-cond}
use Rattle.packet.specs.Packet.{core_of, acknowledgement_of, in_row, command_of}
use Rattle.packet.specs.declared.Command.{Command}
use Rattle.packet.specs.declared.Command.TheVariants.{Password, Erase, Write, RangeChecksum, Start, Unknown}
use Rattle.packet.proofs.Judged.{faultless, core-length}

-- a core has the code of a row, and a length from its least to its greatest
pub record Row (core : List ℕ) (code least greatest : ℕ) : Type 0 where
  pub begins : get_or core 0 0 ≡ code
  pub long : least ≤ length core
  pub short : length core ≤ greatest

-- the row of each command; of an unknown one nothing is said
abbrev pub RowOf : Command → List ℕ → Type 0
RowOf Password core = Row core 0x21 257 257
RowOf Erase core = Row core 0x15 1 1
RowOf Write core = Row core 0x20 6 261
RowOf RangeChecksum core = Row core 0x26 7 7
RowOf Start core = Row core 0x27 5 5
RowOf Unknown core = core ≡ core

in-its-row : (core : List ℕ) (code least greatest : ℕ) → in_row core code least greatest ≡ true → Row core code least greatest
unfolding in_row
in-its-row core code least greatest e =
    let first = both (eqb (get_or core 0 0) code) (leb least (length core) && leb (length core) greatest) e in
    let second = both (leb least (length core)) (leb (length core) greatest) first.1 in
    record { begins = eqb-true _ _ first.0; long = leb-true _ _ second.0; short = leb-true _ _ second.1 }

-- a command's core keeps the row of the command
pub command-row : (core : List ℕ) → RowOf (command_of core) core
unfolding command_of
command-row core =
    let P : Command → Type 0 = λ c. RowOf c core in
    on-cond P _ _ _ (in-its-row core 0x21 257 257)
    (λ _. on-cond P _ _ _ (in-its-row core 0x15 1 1)
    (λ _. on-cond P _ _ _ (in-its-row core 0x20 6 261)
    (λ _. on-cond P _ _ _ (in-its-row core 0x26 7 7)
    (λ _. on-cond P _ _ _ (in-its-row core 0x27 5 5) (λ _. refl)))))

-- a packet without fault is five bytes longer than its core
pub message-length : (message : List ℕ) → acknowledgement_of message ≡ 0x00 → length message ≡ length (core_of message) + 5
message-length message e =
    let f = faultless message e in
    f.exact ∙ rw (core-length message f) refl
