-- A call that brings the firmware up meets the expected checksum, whatever the message is.
-- Assumes nothing.
use mathlib.Core.Path.{◌≡◌, refl, sym, ◌∙◌, subst}
use mathlib.Core.Bool.{Bool, true, false, not, ◌&&◌, false≢true, true≢false}
use mathlib.Core.List.{List, [], ◌∷◌}
use Prim.Native.Nat.{ℕ, suc}
use borrow.Author.Tests.{eqb-true}
use lib.Dec.{eqb, ltb}
use lib.ListN.{length, drop}
use Rattle.card.specs.Call.{call_of, in_loader}
use Rattle.card.specs.declared.Card.{Card}
use Rattle.card.proofs.Laws.{call-cases, call-keeps}
use Rattle.crc.specs.Crc.{checksum_of}
use Rattle.flash.specs.Flash.{starts_of}
use Rattle.loader.specs.Loader.{Outcome, is_application, is_unlocked, wants_unlocked, done_of, password_of, write_done, range_done, start_of, obeyed_of, received_of}
use Rattle.loader.specs.declared.Loader.{Loader}
use Rattle.packet.specs.Packet.{acknowledgement_of, core_of, command_of, address_of}
use Rattle.packet.specs.declared.Command.{Command}
use Rattle.packet.specs.declared.Command.TheVariants.{Password, Erase, Write, RangeChecksum, Start, Unknown}
use Rattle.region.specs.Same.{same}
use Rattle.test_laws.proofs.Tests.{both, on-cond}
use Rattle.delivery.specs.Sending.{Lent, calls_of}
use Rattle.recovery.specs.Recovery.{UpOnlyWith}

starts-sum : (entry expected : ℕ) (region : List ℕ) → starts_of entry expected region ≡ true → checksum_of region ≡ expected
unfolding starts_of
starts-sum entry expected region e = eqb-true _ _ (both (ltb entry (length region)) (eqb (checksum_of region) expected) e).1

module _ (loader : Loader) (region password : List ℕ) (inloader : is_application loader.mode ≡ false) where
  -- where the mode becomes application, the checksum is the expected one
  abbrev Right : Outcome → Type 0
  Right o = is_application o.loader.mode ≡ true → checksum_of o.region ≡ loader.expected

  stays : {A : Type 0} → is_application loader.mode ≡ true → A
  stays e = absurd (true≢false (sym e ∙ inloader))

  done-right : (c : Command) (core : List ℕ) → Right (done_of c loader region password core)
  unfolding done_of password_of write_done range_done start_of
  done-right Password core =
      on-cond Right (same (drop 1 core) password) _ _ (λ _ e. absurd (false≢true e)) (λ _ e. stays e)
  done-right Erase core = λ e. stays e
  done-right Write core = λ e. stays e
  done-right RangeChecksum core = λ e. stays e
  done-right Start core =
      on-cond Right (starts_of (address_of core) loader.expected region) _ _ (λ s e. starts-sum (address_of core) loader.expected region s) (λ _ e. stays e)
  done-right Unknown core = λ e. stays e

  obeyed-right : (core : List ℕ) → Right (obeyed_of loader region password core)
  unfolding obeyed_of
  obeyed-right core = on-cond Right (wants_unlocked (command_of core) && not (is_unlocked loader.mode)) _ _ (λ _ e. stays e) (λ _. done-right (command_of core) core)

  received-right : (message : List ℕ) → Right (received_of loader region password message)
  unfolding received_of
  received-right message =
      on-cond Right (same message (0x31 ∷ [])) _ _ (λ _ e. stays e)
      (λ _. on-cond Right (not (eqb (acknowledgement_of message) 0x00)) _ _ (λ _ e. stays e) (λ _. obeyed-right (core_of message)))

loader-right : (card : Card) (region password message buffer : List ℕ) → is_application card.loader.mode ≡ false
    → is_application (in_loader card region password message buffer).card.loader.mode ≡ true → checksum_of (in_loader card region password message buffer).region ≡ card.loader.expected
unfolding in_loader
loader-right card region password message buffer inloader = received-right card.loader region password inloader message

pub call-right : (card : Card) (size : ℕ) (region password message buffer : List ℕ) → is_application card.loader.mode ≡ false
    → is_application (call_of card size region password message buffer).card.loader.mode ≡ true
    → checksum_of (call_of card size region password message buffer).region ≡ card.loader.expected
call-right card size region password message buffer inloader =
    call-cases card size region password message buffer
    (λ r. is_application r.card.loader.mode ≡ true → checksum_of r.region ≡ card.loader.expected)
    (λ n e. absurd (true≢false (sym e ∙ inloader))) (λ m fits. absurd (true≢false (sym m ∙ inloader)))
    (λ m fits. loader-right card region password message buffer inloader)

not-true : (t : Bool) → not t ≡ true → t ≡ false
not-true true e = absurd (false≢true e)
not-true false e = refl

-- whatever packets are sent to whatever card, none brings the firmware up with another checksum than the card expects
pub calls-right : (lent : Lent) (i : ℕ) (card : Card) (region : List ℕ) (packets : List (List ℕ)) → UpOnlyWith card.loader.expected (calls_of lent i card region packets)
calls-right lent i card region [] = tt
calls-right lent i card region (packet ∷ packets) =
    let met = is_application card.loader.mode in
    let made = call_of card lent.size region lent.password packet (lent.buffer i) in (
      λ up.
          let t = both (not met) (is_application made.card.loader.mode) up in
          call-right card lent.size region lent.password packet (lent.buffer i) (not-true met t.0) t.1,
      subst (λ (sum : ℕ). UpOnlyWith sum (calls_of lent (suc i) made.card made.region packets)) (call-keeps card lent.size region lent.password packet (lent.buffer i)).expects
          (calls-right lent (suc i) made.card made.region packets),
    )
