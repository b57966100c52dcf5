-- One packet over one region, beside the same packet over two buffers.
-- Assumes nothing.
use mathlib.Core.Path.{◌≡◌, refl, sym, ap, ap₂, ◌∙◌, subst}
use mathlib.Core.Bool.{Bool, true, false, not, ◌&&◌}
use mathlib.Core.List.{List}
use Prim.Native.Nat.{ℕ}
use borrow.Author.Tests.{eqb-true, eqb-false}
use lib.Dec.{eqb}
use lib.ListN.{length}
use Rattle.delivery.specs.Beside.{Learns}
use Rattle.delivery.specs.Check.{Said, Trial, trial, step, step_of, behind, begins_start, starts_too_early, found}
use Rattle.delivery.specs.Check as check
use Rattle.delivery.specs.OneRegion.{one, single}
use Rattle.delivery.proofs.Exact.{both-next}
use Rattle.delivery.proofs.Learns.{received-knows}
use Rattle.delivery.proofs.Runs.{step-done}
use Rattle.firmware_text.specs.Machine.{image_of}
use Rattle.known_bits.specs.Known.{unknown_of, differ, Knows}
use Rattle.known_bits.proofs.Laws.{differ-zero, differ_same, unknown-differ, knows-known}
use Rattle.little_endian.specs.Bytes.{Bytes}
use Rattle.loader.specs.Loader.{Outcome, received_of, succeeded_of}
use Rattle.loader.specs.declared.Loader.{Loader}
use Rattle.loader.proofs.Laws.{receive-keeps}
use Rattle.packet.specs.Packet.{core_of, command_of}
use Rattle.packet.specs.declared.Command.{Command}
use Rattle.packet.specs.declared.Command.TheVariants.{Write}
use Rattle.packet.proofs.Commands.{Row, RowOf, command-row}
use Rattle.region.specs.Same.{same}
use Rattle.region.proofs.Sames.{same-eq, same_true}
use Rattle.text_image.specs.Picture.{picture_of}
use Rattle.text_image.specs.Rules.{rules_of, sound}
use Rattle.ti_txt.specs.Answers.{is_picture_of}
use Rattle.checker.specs.Answers.{fault_of, next_of, Tells, Follows}
use Rattle.std.specs.Prelude.{Result}
use Rattle.refusal.specs.declared.Refusal.{Refusal}

-- what two runs came to, told in one region
pub single-told : (s : Said) (n unknown : ℕ) (zeros ones : Trial) (known : List ℕ) → Bytes known → Tells zeros ones known
    → unknown ≡ unknown_of known
    → one s n unknown zeros.region known ≡ single (found s n zeros ones)
unfolding single
single-told s n unknown zeros ones known bytes t e =
    ap₂ (λ (m : ℕ) (bits : List ℕ). one s n m zeros.region bits)
    (e ∙ unknown-differ known zeros.region ones.region t.short bytes t.knows)
    (knows-known known zeros.region ones.region bytes t.knows)

-- ---- what a packet makes known

-- a core that is a write's
pub write-row : (core : List ℕ) → Write ≡ command_of core → Row core 0x20 6 261
write-row core e = subst (λ (k : Command). RowOf k core) (sym e) (command-row core)

-- ---- one packet

-- a buffer compared with the picture of a text that is sound for its length
is-picture : (text buffer : List ℕ) → rules_of text (length buffer) ≡ sound
    → is_picture_of text buffer ≡ same buffer (picture_of (length buffer) (image_of text))
unfolding is_picture_of
is-picture text buffer e = rw e refl

-- where one buffer is the picture, the other is too exactly if no place differs
module _ (z f picture : List ℕ) (long : length f ≡ length z) where
  differs : z ≡ picture → (differ z f ≡ 0 → ⊥) → (t : Bool) → same f picture ≡ t → false ≡ t
  differs e some true w = absurd (some (ap (differ z) (same-eq f picture w ∙ sym e) ∙ differ_same z))
  differs e some false w = refl

  other-too : z ≡ picture → (t : Bool) → eqb (differ z f) 0 ≡ t → t ≡ same f picture
  other-too e true h = sym (same_true f picture (sym (differ-zero z f long (eqb-true _ _ h)) ∙ e))
  other-too e false h = differs e (eqb-false _ _ h) (same f picture) refl

  both-pictures : (same z picture && eqb (differ z f) 0) ≡ (same z picture && same f picture)
  both-pictures = go (same z picture) refl
    where
      go : (t : Bool) → same z picture ≡ t → (t && eqb (differ z f) 0) ≡ (t && same f picture)
      go true e = other-too (same-eq z picture e) (eqb (differ z f) 0) refl
      go false e = refl

module _ (password text packet : List ℕ) (loader : Loader) (region known : List ℕ) (ones : Trial)
    (sound-text : rules_of text (length region) ≡ sound) (bytes : Bytes known) (t : Tells (trial loader region) ones known)
    (early : Bool) (asked : early ≡ (begins_start packet && not (is_picture_of text region && eqb (unknown_of known) 0))) where
  -- the picture of the text
  abbrev picture : List ℕ
  picture = picture_of (length region) (image_of text)

  -- the packet in both runs
  abbrev two : check.Step
  two = step_of password picture packet (trial loader region) ones

  early-is : early ≡ starts_too_early picture packet (trial loader region) ones
  early-is =
      let other = ones.region in
      let unknown : unknown_of known ≡ differ region other = unknown-differ known region other t.short bytes t.knows in
      asked ∙ ap (λ (b : Bool). begins_start packet && not b)
      (ap₂ (λ (p : Bool) (n : ℕ). p && eqb n 0) (is-picture text region sound-text) unknown ∙ both-pictures region other picture
      t.knows.beside)

  step-early : early ≡ true → two ≡ step 10 (trial loader region) ones
  unfolding step_of
  step-early is = rw (sym early-is ∙ is, step_of) refl

  -- a start before the picture is there
  pub follow-early : early ≡ true → Follows two 10 (trial loader region) known
  follow-early is = rw (step-early is) (record { faults = refl; runs = refl; tells = t })

  module _ (no : early ≡ false) (o : Outcome) (ran : o ≡ received_of loader region password packet) where
    -- what was said to the packet
    succeeds : (b : Bool) → succeeded_of o.reply ≡ b → succeeded_of (received_of loader region password packet).reply ≡ b
    succeeds b e = ap (λ (x : Outcome). succeeded_of x.reply) (sym ran) ∙ e

    step-failed : succeeded_of o.reply ≡ false → two ≡ step 8 (trial loader region) ones
    unfolding step_of
    step-failed failed = rw (sym early-is ∙ no, succeeds false failed, step_of) refl

    -- a packet that is refused leaves the region and what is known of it
    pub follow-failed : succeeded_of o.reply ≡ false → Follows two 8 (trial loader o.region) known
    follow-failed failed =
        let kept : o.region ≡ region =
        ap (λ (x : Outcome). x.region) ran ∙ (receive-keeps loader region password packet).region-kept (succeeds false failed) in
        rw (step-failed failed, kept) (record { faults = refl; runs = refl; tells = t })

    step-ran : succeeded_of o.reply ≡ true → two ≡ step 0 (behind password packet (trial loader region)) (behind password packet ones)
    unfolding step_of
    step-ran ok = rw (sym early-is ∙ no, succeeds true ok, step_of) refl

    -- one that is a success, with what it made known
    pub follow-ran : succeeded_of o.reply ≡ true → (new : List ℕ) → length new ≡ length known
        → Learns (command_of (core_of packet)) (core_of packet) known new
        → Follows two 0 (trial o.loader o.region) new
    follow-ran ok new sized learns =
        let knows : Knows (received_of loader region password packet).region
        (received_of loader ones.region password packet).region new =
        received-knows loader t.beside.agree known new t.short t.knows password packet (succeeds true ok) learns in
        let done = step-done password picture packet (trial loader region) ones (ap (λ (s : check.Step). s.fault) (step-ran ok)) in
        let left : behind password packet (trial loader region) ≡ trial o.loader o.region =
        ap (λ (x : Outcome). trial x.loader x.region) (sym ran) in
        rw (step-ran ok)
        (record {
          faults = refl;
          runs = left;
          tells = subst (λ (x : Trial). Tells x (behind password packet ones) new) left
              (record {
                beside = (both-next password picture packet t.beside done).1;
                knows = rw t.beside.ones_state knows;
                short = rw sized t.short;
              });
        })

-- the same, said of the same packet and size in other words, by what became of it
pub follow-as : (r r' : Result Loader Refusal) (password text packet packet' : List ℕ) (n n' : ℕ) (zeros ones : Trial) (loader : Loader)
    (region known : List ℕ)
    → r ≡ r' → n ≡ n' → packet ≡ packet'
    → Follows (step_of password (picture_of n (image_of text)) packet zeros ones) (fault_of r) (trial (next_of r loader) region) known
    → Follows (step_of password (picture_of n' (image_of text)) packet' zeros ones) (fault_of r') (trial (next_of r' loader) region) known
follow-as r r' password text packet packet' n n' zeros ones loader region known er en ep f = rw (← er, ← en, ← ep) f
