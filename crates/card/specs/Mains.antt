-- A power cut and a restart of a card (document 02, T-07).
-- Assumes nothing.
use Rattle.std.specs.Prelude.{cond, not, Result, Ok, Err, List, ℕ, eqb, ltb, length}
use Rattle.power_cut.specs.Cut.{work_of, left_of, restarted_of}
use Rattle.refusal.specs.Refusal.{number_of}
use Rattle.refusal.specs.declared.Refusal.{Refusal}
use Rattle.card.specs.Call.{with_loader, bad_region}
use Rattle.card.specs.declared.Card.{Card}

-- an answer in the papers' terms: a refusal's number, or none
pub data Ending : Type 0 where
  refused : ℕ → Ending
  done : Ending

-- what was answered, in these terms
abbrev pub ending_of : Result Unit Refusal → Ending
ending_of (Err why) = refused (number_of why)
ending_of (Ok none) = done

-- what a cut answers, and the region then; the state stays until the restart
pub record Cut : Type 0 where
  pub answer : Ending
  pub region : List ℕ

-- the two together
abbrev pub cut : Ending → List ℕ → Cut
cut answer region = record { answer = answer; region = region }

-- a message is cut at a place: refusals 1, 2 and 21, a place beyond the packet's work; in application mode no message has
-- any (`application-idle`)
unfoldable pub cut_of : Card → (size : ℕ) → (region password message : List ℕ) → (place : ℕ) → Cut
cut_of card size region password message place =
    cond (bad_region size region) (cut (refused 1) region)
    (cond (not (eqb (length password) 256)) (cut (refused 2) region)
    (cond (ltb (work_of card.loader region password message) place) (cut (refused 21) region)
    (cut done (left_of message place region))))

-- what a restart answers, and the card then
pub record Restart : Type 0 where
  pub answer : Ending
  pub card : Card

-- the two together
abbrev pub restarted : Ending → Card → Restart
restarted answer card = record { answer = answer; card = card }

-- a restart: refusal 1; then the loader's part comes up, and the rest of the state stays
unfoldable pub restart_of : Card → (size : ℕ) → (region : List ℕ) → Restart
restart_of card size region =
    cond (bad_region size region) (restarted (refused 1) card)
    (restarted done (with_loader (restarted_of card.loader region) card))
