-- Laws of a power cut and a restart: a cut at 0 leaves the region, one at the whole work what the call leaves; in application mode there is no work; a second restart changes nothing.
-- Assumes nothing.
use mathlib.Core.Path.{◌≡◌, refl, sym, ap, ◌∙◌}
use mathlib.Core.Bool.{Bool, true, false, cond, not, ◌&&◌, false≢true}
use mathlib.Core.List.{List}
use Prim.Native.Nat.{ℕ, ◌%◌, ◌≤◌}
use native.Mathlib.Omega.{arith}
use borrow.Author.Tests.{eq-eqb, eqb-true, le-ltb}
use lib.Dec.{eqb, leb, ltb}
use lib.ListN.{length}
use Rattle.application.specs.Response.{Answer, left_by, answer_of}
use Rattle.application.specs.Response as response
use Rattle.loader.specs.Loader.{is_application, is_unlocked}
use Rattle.power_cut.specs.Cut.{work_of, left_of, restarted_of}
use Rattle.loader.specs.declared.Loader.{Loader}
use Rattle.loader.specs.declared.Mode.{Mode}
use Rattle.loader.specs.declared.Mode.TheVariants.{Application, Locked, Unlocked}
use Rattle.power_cut.proofs.Cuts.{shut-idle, cut-none, cut-whole, restart-again}
use Rattle.region.specs.Size.{good_size}
use Rattle.test_laws.proofs.Tests.{both, on-cond}
use Rattle.card.specs.Call.{After, room, with_loader, settled_by, in_application, call_of}
use Rattle.card.specs.Mains as mains
use Rattle.card.specs.Mains.{Cut, cut, cut_of, Restart, restarted, restart_of}
use Rattle.card.specs.declared.Card.{Card}
use Rattle.card.proofs.Laws.{call-cases, call-received}

not-unlocked : (mode : Mode) → is_application mode ≡ true → is_unlocked mode ≡ false
not-unlocked Application e = refl
not-unlocked Locked e = absurd (false≢true e)
not-unlocked Unlocked e = absurd (false≢true e)

-- in application mode a message has no work
pub application-idle : (card : Card) (region password message : List ℕ) → is_application card.loader.mode ≡ true → work_of card.loader region password message ≡ 0
application-idle card region password message mode = shut-idle card.loader region password message (not-unlocked card.loader.mode mode)

-- a call in application mode leaves the region
answered : (card : Card) (region buffer : List ℕ) (a : Answer) → (settled_by card region (left_by a buffer)).region ≡ region
answered card region buffer (response.refused n) = refl
answered card region buffer (response.replied bytes) = refl
answered card region buffer response.locks = refl

pub requested : (card : Card) (region message buffer : List ℕ) → (in_application card region message buffer).region ≡ region
unfolding in_application
requested card region message buffer = answered card region buffer (answer_of card.version card.«record» message)

application-keeps : (card : Card) (size : ℕ) (region password message buffer : List ℕ) → is_application card.loader.mode ≡ true → (call_of card size region password message buffer).region ≡ region
application-keeps card size region password message buffer mode =
    call-cases card size region password message buffer (λ a. a.region ≡ region) (λ n. refl) (λ m fits. requested card region message buffer) (λ m fits. absurd (false≢true (sym m ∙ mode)))

-- every mode's room holds a loader's reply
least-room : (mode : Mode) → 9 ≤ room mode
least-room Application = omega arith
least-room Locked = omega arith
least-room Unlocked = omega arith

-- a cut at 0 leaves the region
pub cut-at-none : (card : Card) (size : ℕ) (region password message : List ℕ) → (cut_of card size region password message 0).region ≡ region
unfolding cut_of
cut-at-none card size region password message =
    let P : Cut → Type 0 = λ c. c.region ≡ region in
    on-cond P (not (good_size size && eqb (length region) size)) (cut (mains.refused 1) region) _ (λ e. refl)
    (λ e. on-cond P (not (eqb (length password) 256)) (cut (mains.refused 2) region) _ (λ e. refl)
    (λ e. on-cond P (ltb (work_of card.loader region password message) 0) (cut (mains.refused 21) region) (cut mains.done (left_of message 0 region)) (λ e. refl)
    (λ e. cut-none message region)))

-- a refused cut leaves it too
pub refused-cut : (card : Card) (size : ℕ) (region password message : List ℕ) (place n : ℕ)
    → (cut_of card size region password message place).answer ≡ mains.refused n → (cut_of card size region password message place).region ≡ region
unfolding cut_of
refused-cut card size region password message place n =
    let P : Cut → Type 0 = λ c. c.answer ≡ mains.refused n → c.region ≡ region in
    on-cond P (not (good_size size && eqb (length region) size)) (cut (mains.refused 1) region) _ (λ _ e. refl)
    (λ _. on-cond P (not (eqb (length password) 256)) (cut (mains.refused 2) region) _ (λ _ e. refl)
    (λ _. on-cond P (ltb (work_of card.loader region password message) place) (cut (mains.refused 21) region) (cut mains.done (left_of message place region)) (λ _ e. refl)
    (λ _ e. absurd (let z : ◌≡◌ {A = ℕ} 0 1 = cc in omega arith))))

module _ (card : Card) (size : ℕ) (region password message : List ℕ) (good : good_size size ≡ true) (sized : length region ≡ size) (wide : length password ≡ 256) where
  -- a cut that is not beyond the work
  pub cut-is : (place : ℕ) → place ≤ work_of card.loader region password message → cut_of card size region password message place ≡ cut mains.done (left_of message place region)
  unfolding cut_of
  cut-is place inside = rw (good, eq-eqb (length region) size sized, eq-eqb (length password) 256 wide, le-ltb (work_of card.loader region password message) place inside) refl

  even : length region % 4096 ≡ 0
  even = ap (λ (n : ℕ). n % 4096) sized ∙ eqb-true (size % 4096) 0 (both (leb 4096 size && leb size 262144) (eqb (size % 4096) 0) good).1

  -- a cut at the whole work leaves what the call leaves, in a loader mode
  whole-loader : (buffer : List ℕ) → is_application card.loader.mode ≡ false → 9 ≤ length buffer
      → (cut_of card size region password message (work_of card.loader region password message)).region ≡ (call_of card size region password message buffer).region
  whole-loader buffer mode fits =
      let whole : work_of card.loader region password message ≤ work_of card.loader region password message = omega arith in
      ap (λ (c : Cut). c.region) (cut-is (work_of card.loader region password message) whole)
      ∙ cut-whole card.loader region password even message
      ∙ ap (λ (a : After). a.region) (sym (call-received card size region password message buffer mode good sized wide fits))

  -- in application mode that is none, and the call leaves the region
  whole-application : (buffer : List ℕ) → is_application card.loader.mode ≡ true
      → (cut_of card size region password message (work_of card.loader region password message)).region ≡ (call_of card size region password message buffer).region
  whole-application buffer mode =
      ap (λ (k : ℕ). (cut_of card size region password message k).region) (application-idle card region password message mode)
      ∙ cut-at-none card size region password message
      ∙ sym (application-keeps card size region password message buffer mode)

  -- in every mode, of a call whose lent memory is not refused
  pub cut-at-whole : (buffer : List ℕ) → room card.loader.mode ≤ length buffer
      → (cut_of card size region password message (work_of card.loader region password message)).region ≡ (call_of card size region password message buffer).region
  cut-at-whole buffer fits = go (is_application card.loader.mode) refl
    where
      go : (t : Bool) → is_application card.loader.mode ≡ t
          → (cut_of card size region password message (work_of card.loader region password message)).region ≡ (call_of card size region password message buffer).region
      go true mode = whole-application buffer mode
      go false mode = whole-loader buffer mode (omega (arith, fits, least-room card.loader.mode))

-- a restart, by the test of the size
abbrev up : Bool → List ℕ → Card → Restart
up bad region card = cond bad (restarted (mains.refused 1) card) (restarted mains.done (with_loader (restarted_of card.loader region) card))

up-twice : (bad : Bool) (region : List ℕ) (card : Card) → up bad region (up bad region card).card ≡ up bad region card
up-twice true region card = refl
up-twice false region card = ap (λ (l : Loader). restarted mains.done (with_loader l card)) (restart-again card.loader region)

-- a second restart changes nothing
pub restart-twice : (card : Card) (size : ℕ) (region : List ℕ) → restart_of (restart_of card size region).card size region ≡ restart_of card size region
unfolding restart_of
restart-twice card size region = up-twice (not (good_size size && eqb (length region) size)) region card
