-- A card's mode comes back from its number, and the mode is all of the card that a call or a restart changes.
-- So the numbers that they answer carry its state on.
-- Assumes nothing.
use mathlib.Core.Path.{◌≡◌, refl, sym}
use mathlib.Core.Bool.{Bool, true, false, cond, not, ◌&&◌}
use mathlib.Core.List.{List}
use Prim.Native.Nat.{ℕ}
use lib.Dec.{eqb}
use lib.ListN.{length}
use Rattle.crc.specs.Crc.{checksum_of}
use Rattle.region.specs.Size.{good_size}
use Rattle.loader.specs.Loader.{in_mode}
use Rattle.loader.specs.declared.Mode.{Mode}
use Rattle.loader.specs.declared.Mode.TheVariants.{Application, Locked, Unlocked}
use Rattle.power_cut.specs.Cut.{restarted_of}
use Rattle.card.specs.Call.{with_loader, call_of}
use Rattle.card.specs.Mains.{Restart, refused, done, restarted, restart_of}
use Rattle.card.specs.declared.Card.{Card}
use Rattle.card.proofs.Laws.{call-keeps}
use Rattle.zlatopysk.specs.Numbers.{mode_number, mode_of}

mode-again : (mode : Mode) → mode_of (mode_number mode) ≡ mode
unfolding mode_of
mode-again Application = refl
mode-again Locked = refl
mode-again Unlocked = refl

-- a card with the mode of a mode's number, and the rest as it is
abbrev by_number : Mode → Card → Card
by_number mode card =
    record {
      loader = record { mode = mode_of (mode_number mode); expected = card.loader.expected };
      version = card.version;
      «record» = card.«record»;
    }

-- that is the card in this mode
in-mode : (mode : Mode) (card : Card) → with_loader (in_mode mode card.loader) card ≡ by_number mode card
in-mode mode card =
    λ i. record {
      loader = record { mode = sym (mode-again mode) i; expected = card.loader.expected };
      version = card.version;
      «record» = card.«record»;
    }

-- the card behind a call is the card before it, with the mode of the number that was answered
pub card-carried : (card : Card) (size : ℕ) (region password message buffer : List ℕ)
    → (call_of card size region password message buffer).card
    ≡ by_number (call_of card size region password message buffer).card.loader.mode card
card-carried card size region password message buffer =
    let kept = call-keeps card size region password message buffer in
    λ i. record {
      loader = record {
        mode = sym (mode-again (call_of card size region password message buffer).card.loader.mode) i;
        expected = kept.expects i;
      };
      version = kept.version-kept i;
      «record» = kept.record-kept i;
    }

-- a restart, by the test of the size
abbrev up : Bool → Mode → Card → Restart
up bad mode card = cond bad (restarted (refused 1) card) (restarted done (with_loader (in_mode mode card.loader) card))

up-carried : (bad : Bool) (mode : Mode) (card : Card) → (up bad mode card).card ≡ by_number (up bad mode card).card.loader.mode card
up-carried true mode card = in-mode card.loader.mode card
up-carried false mode card = in-mode mode card

-- and so is the card behind a restart
pub restart-carried : (card : Card) (size : ℕ) (region : List ℕ)
    → (restart_of card size region).card ≡ by_number (restart_of card size region).card.loader.mode card
unfolding restart_of restarted_of
restart-carried card size region =
    let mode = cond (eqb (checksum_of region) card.loader.expected) Application Locked in
    up-carried (not (good_size size && eqb (length region) size)) mode card
