-- The list of calls that sends packets to a card in a loader mode, one call at a time.
-- Assumes nothing.
use mathlib.Core.Path.{◌≡◌, refl, sym, ◌∙◌}
use mathlib.Core.Bool.{Bool, true, false, ◌&&◌}
use mathlib.Core.List.{List, [], ◌∷◌, cons≢nil}
use mathlib.Core.Logic.{◌≢◌}
use Prim.Native.Nat.{ℕ, suc}
use lib.ListN.{length}
use Rattle.card.specs.Call.{with_loader, received_by}
use Rattle.card.specs.declared.Card.{Card}
use Rattle.card.proofs.Laws.{call-received}
use Rattle.loader.specs.Loader.{Outcome, is_application, is_unlocked, received_of}
use Rattle.region.specs.Size.{good_size}
use Rattle.delivery.specs.Check.{is_empty}
use Rattle.delivery.specs.Sending.{Call, Lent, calls_of, region_after, AllSucceed, OnlyLastStarts, Delivers, Roomy}
use Rattle.delivery.proofs.Step.{Ok}

-- a list that is not empty
not-empty : (calls : List Call) → calls ≢ [] → is_empty calls ≡ false
not-empty [] some = absurd (some refl)
not-empty (c ∷ calls) some = refl

-- a second test that fails
pub and-false : (a : Bool) {b : Bool} → b ≡ false → a && b ≡ false
and-false true e = e
and-false false e = refl

-- the calls of a region's size, a password and reply buffers that no call refuses in a loader mode
module _ (n : ℕ) (good : good_size n ≡ true) (password : List ℕ) (wide : length password ≡ 256) (buffer : ℕ → List ℕ) (roomy : Roomy buffer) (picture : List ℕ) where
  abbrev lent : Lent
  lent = record { size = n; password = password; buffer = buffer }

  -- packets from the i-th call on put the picture into a card with a region, and start the firmware
  abbrev pub Sent : ℕ → Card → List ℕ → List (List ℕ) → Type 0
  Sent i card region packets = Delivers picture region (calls_of lent i card region packets)

  module _ (i : ℕ) (card : Card) (region packet : List ℕ) (inloader : is_application card.loader.mode ≡ false) (sized : length region ≡ n) where
    -- what the loader makes of the packet
    abbrev made : Outcome
    made = received_of card.loader region password packet

    -- what the calls say of their first packet and of those behind it
    pub record First (packets : List (List ℕ)) : Type 0 where
      pub ok : Ok made
      pub last_starts : is_unlocked card.loader.mode && is_application made.loader.mode ≡ is_empty packets
      pub holds : region_after made.region (calls_of lent (suc i) (with_loader made.loader card) made.region packets) ≡ picture
      pub succeed-behind : AllSucceed (calls_of lent (suc i) (with_loader made.loader card) made.region packets)
      pub starts-behind : OnlyLastStarts (calls_of lent (suc i) (with_loader made.loader card) made.region packets)

    pub sent-first : (packets : List (List ℕ)) → Sent i card region (packet ∷ packets) → First packets
    sent-first packets sent =
        let received : Delivers picture region (record { met = card.loader.mode; gave = received_by card (buffer i) made } ∷ calls_of lent (suc i) (with_loader made.loader card) made.region packets) =
        rw (call-received card n region password packet (buffer i) inloader good sized wide (roomy i)) at sent in
        record {
          ok = received.succeed.0;
          last_starts = received.last_starts.0 ∙ calls-empty packets (suc i) (with_loader made.loader card) made.region;
          holds = received.holds;
          succeed-behind = received.succeed.1;
          starts-behind = received.last_starts.1;
        }
      where
        -- there is a call for each packet
        calls-empty : (packets : List (List ℕ)) (j : ℕ) (c : Card) (l : List ℕ) → is_empty (calls_of lent j c l packets) ≡ is_empty packets
        calls-empty [] j c l = refl
        calls-empty (p ∷ packets) j c l = refl

    -- the last packet
    pub send-last : Ok made → is_unlocked card.loader.mode ≡ true → is_application made.loader.mode ≡ true → made.region ≡ picture → Sent i card region (packet ∷ [])
    send-last ok unlocked starts holds =
        rw (call-received card n region password packet (buffer i) inloader good sized wide (roomy i))
        (record { some_packet = cons≢nil; succeed = (ok, tt); last_starts = (rw (unlocked, starts) refl, tt); holds = holds })

    -- a packet before others
    pub send-next : (packets : List (List ℕ)) → Ok made → is_application made.loader.mode ≡ false
        → Sent (suc i) (with_loader made.loader card) made.region packets → Sent i card region (packet ∷ packets)
    send-next packets ok stays more =
        let calls = calls_of lent (suc i) (with_loader made.loader card) made.region packets in
        rw (call-received card n region password packet (buffer i) inloader good sized wide (roomy i))
        (record {
          some_packet = cons≢nil;
          succeed = (ok, more.succeed);
          last_starts = (and-false (is_unlocked card.loader.mode) stays ∙ sym (not-empty calls more.some_packet), more.last_starts);
          holds = more.holds;
        })
