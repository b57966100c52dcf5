-- T-07, proved: behind every attempt the card is a freshly entered loader again.
-- Assumes nothing.
use mathlib.Core.Path.{◌≡◌, refl, sym, ap, ◌∙◌, subst}
use mathlib.Core.Bool.{Bool, true, false, cond, false≢true}
use mathlib.Core.List.{List, [], ◌∷◌, cons≢nil}
use mathlib.Core.Logic.{◌≢◌}
use Prim.Native.Nat.{ℕ, suc, ◌≤◌}
use borrow.Author.Tests.{eqb-true, eq-eqb, le-ltb}
use lib.Dec.{eqb}
use lib.ListN.{length, get_or, take}
use Rattle.application.specs.Request.{bare_of, request_of}
use Rattle.application.specs.Response.{answer_of, reply_of}
use Rattle.card.specs.Call.{After, after, replied, with_loader, in_application, call_of}
use Rattle.card.specs.Mains.{Restart, restarted, done}
use Rattle.card.specs.declared.Card.{Card}
use Rattle.card.proofs.Laws.{call-keeps}
use Rattle.crc.specs.Crc.{checksum_of}
use Rattle.delivery.specs.Sending.{packets_in, Call, Lent, calls_of, region_after, OnlyLastStarts, Delivers, Entered, Works}
use Rattle.delivery.proofs.OneRegion.{demand3-one}
use Rattle.firmware_text.specs.Machine.{image_of}
use Rattle.little_endian.specs.Bytes.{Bytes}
use Rattle.little_endian.proofs.AllBytes.{AllBytes, all-bytes, bytes-all}
use Rattle.loader.specs.Loader.{in_mode, is_application, is_unlocked}
use Rattle.loader.specs.declared.Mode.{Mode}
use Rattle.loader.specs.declared.Mode.TheVariants.{Application, Locked, Unlocked}
use Rattle.region.specs.Size.{good_size}
use Rattle.text_image.specs.Picture.{picture_of}
use Rattle.test_laws.proofs.Tests.{both}
use Rattle.recovery.specs.Recovery.{Held, held, card_after, UpOnlyWith, Attempt, sending, calls_in, reached, cut_in, restart_in, behind, Possible, NeverOther, behind_all, AllPossible, NeverIn, Recovers}
use Rattle.recovery.proofs.Bytes.{call-bytes}
use Rattle.recovery.proofs.Starts.{calls-right}
use Rattle.recovery.proofs.Cuts.{cut-kept, restart-is}

-- what calls keep
record Kept (card : Card) (region : List ℕ) (c : Card) (r : List ℕ) : Type 0 where
  expects : c.loader.expected ≡ card.loader.expected
  long : length r ≡ length region
  bytes : AllBytes r

calls-keep : (lent : Lent) (i : ℕ) (card : Card) (region : List ℕ) (packets : List (List ℕ)) → AllBytes region
    → Kept card region (card_after card (calls_of lent i card region packets)) (region_after region (calls_of lent i card region packets))
calls-keep lent i card region [] a = record { expects = refl; long = refl; bytes = a }
calls-keep lent i card region (packet ∷ packets) a =
    let made = call_of card lent.size region lent.password packet (lent.buffer i) in
    let one = call-keeps card lent.size region lent.password packet (lent.buffer i) in
    let more = calls-keep lent (suc i) made.card made.region packets (call-bytes card lent.size region lent.password packet (lent.buffer i) a) in
    record { expects = more.expects ∙ one.expects; long = more.long ∙ one.long; bytes = more.bytes }

is-application : (m : Mode) → is_application m ≡ true → m ≡ Application
is-application Application h = refl
is-application Locked h = absurd (false≢true h)
is-application Unlocked h = absurd (false≢true h)

-- 0x32 in application mode
enters : (card : Card) (n : ℕ) (region password buffer : List ℕ) → good_size n ≡ true → length region ≡ n → length password ≡ 256 → 64 ≤ length buffer → card.loader.mode ≡ Application
    → call_of card n region password (0x32 ∷ []) buffer ≡ after (with_loader (in_mode Locked card.loader) card) region buffer (replied 0 false)
unfolding call_of in_application answer_of request_of bare_of reply_of
enters card n region password buffer good sized wide room mode =
    rw (good, eq-eqb (length region) n sized, eq-eqb (length password) 256 wide, mode, le-ltb (length buffer) 64 room) refl

came_up : (t : Bool) → is_application (cond t Application Locked) ≡ t
came_up true = refl
came_up false = refl

-- what the calls are given
abbrev lent : ℕ → List ℕ → (ℕ → List ℕ) → Lent
lent n password buffer = record { size = n; password = password; buffer = buffer }

module _ (n : ℕ) (good : good_size n ≡ true) (password : List ℕ) (wide : length password ≡ 256) (packets : List (List ℕ)) (expected : ℕ) where
  abbrev In : Held → Type 0
  In h = Entered n expected h.card h.region

  module _ (a : Attempt) (h : Held) (en : In h) (p : Possible n password packets a h) where
    abbrev whole : Kept h.card h.region (reached n password packets a h).card (reached n password packets a h).region
    whole = calls-keep (lent n password a.buffer) 0 h.card h.region (take a.whole packets) (all-bytes h.region en.bytes)

    abbrev cut-region : List ℕ
    cut-region = (cut_in n password packets a h).region

    abbrev was : (length cut-region ≡ length (reached n password packets a h).region) × AllBytes cut-region
    was = cut-kept (reached n password packets a h).card n (reached n password packets a h).region password (get_or packets a.whole []) a.place whole.bytes p.inside

    cut-sized : length cut-region ≡ n
    cut-sized = was.0 ∙ whole.long ∙ en.sized

    expects : (reached n password packets a h).card.loader.expected ≡ expected
    expects = whole.expects ∙ en.expects

    sum-right : Bool
    sum-right = eqb (checksum_of cut-region) (reached n password packets a h).card.loader.expected

    up : Card
    up = with_loader (in_mode (cond sum-right Application Locked) (reached n password packets a h).card.loader) (reached n password packets a h).card

    restart-so : restart_in n password packets a h ≡ restarted done up
    unfolding up sum-right
    restart-so = restart-is (reached n password packets a h).card n cut-region good cut-sized

    up-mode : is_application (restart_in n password packets a h).card.loader.mode ≡ sum-right
    unfolding up
    up-mode = ap (λ (r : Restart). is_application r.card.loader.mode) restart-so ∙ came_up sum-right

    never : NeverOther n password packets a h expected
    unfolding sum-right
    never = record {
      by_calls = subst (λ (s : ℕ). UpOnlyWith s (calls_in n password packets a h)) en.expects
          (calls-right (lent n password a.buffer) 0 h.card h.region (take a.whole packets));
      by_restart = λ e. eqb-true _ _ (sym up-mode ∙ e) ∙ expects;
    }

    -- the card that came up, by its mode
    by_mode : (t : Bool) → sum-right ≡ t → In (behind n password packets a h)
    unfolding up
    by_mode true e =
        let mode : (restart_in n password packets a h).card.loader.mode ≡ Application = is-application _ (up-mode ∙ e) in
        let entered = enters (restart_in n password packets a h).card n cut-region password a.reply good cut-sized wide p.room mode in
        rw (up-mode ∙ e)
        (record {
          is_locked = ap (λ (r : After). r.card.loader.mode) entered;
          expects = ap (λ (r : After). r.card.loader.expected) entered ∙ ap (λ (r : Restart). r.card.loader.expected) restart-so ∙ expects;
          sized = ap (λ (r : After). length r.region) entered ∙ cut-sized;
          bytes = subst (λ (l : List ℕ). Bytes l) (sym (ap (λ (r : After). r.region) entered)) (bytes-all cut-region was.1);
        })
    by_mode false e =
        rw (up-mode ∙ e)
        (record {
          is_locked = ap (λ (r : Restart). r.card.loader.mode) restart-so ∙ ap (λ (t : Bool). cond t Application Locked) e;
          expects = ap (λ (r : Restart). r.card.loader.expected) restart-so ∙ expects;
          sized = cut-sized;
          bytes = bytes-all cut-region was.1;
        })

    again : In (behind n password packets a h)
    again = by_mode sum-right refl

  all-again : (attempts : List Attempt) (h : Held) → In h → AllPossible n password packets attempts h
      → In (behind_all n password packets attempts h) × NeverIn n password packets expected attempts h
  all-again [] h en p = (en, tt)
  all-again (a ∷ attempts) h en p =
      let more = all-again attempts (behind n password packets a h) (again a h en p.0) p.1 in
      (more.0, (never a h en p.0, more.1))

ends : (card : Card) (calls : List Call) → calls ≢ [] → OnlyLastStarts calls → (card_after card calls).loader.mode ≡ Application
ends card [] some last = absurd (some refl)
ends card (c ∷ []) some last = is-application _ (both (is_unlocked c.met) (is_application c.gave.card.loader.mode) last.0).1
ends card (c ∷ d ∷ calls) some last = ends c.gave.card (d ∷ calls) cons≢nil last.1

pub recovers : Recovers
recovers script text password expected n lent-region known l pass card region en attempts possible buffer uncut roomy roomy' =
    record {
      entered = all.0;
      delivers = d;
      same_region = d.holds ∙ sym d'.holds;
      same_mode = ends _ _ d.some_packet d.last_starts ∙ sym (ends _ _ d'.some_packet d'.last_starts);
      never_before = all.1;
      never_after = subst (λ (s : ℕ). UpOnlyWith s afresh) all.0.expects (calls-right (lent n password buffer) 0 h.card h.region packets);
    }
  where
    packets : List (List ℕ)
    packets = packets_in script

    h : Held
    h = behind_all n password packets attempts (held card region)

    afresh : List Call
    afresh = sending n password packets buffer packets h

    all : Entered n expected h.card h.region × NeverIn n password packets expected attempts (held card region)
    all = all-again n l.within.size password l.within.wide packets expected attempts (held card region) en possible

    w : Works script (picture_of n (image_of text)) password expected n
    w = (demand3-one script text password expected n lent-region known l).exactly.0 pass

    d : Delivers (picture_of n (image_of text)) h.region afresh
    d = w.delivers h.card h.region all.0 buffer roomy

    d' : Delivers (picture_of n (image_of text)) region (sending n password packets uncut packets (held card region))
    d' = w.delivers card region en uncut roomy'
