-- What the reader's outcome says of a text, in the grammar's terms.
-- Assumes nothing.
use Prim.Native.Nat.{ℕ, ◌≤◌}
use mathlib.Core.Path.{◌≡◌, refl, sym, ap, subst, ◌∙◌}
use mathlib.Core.Bool.{true}
use mathlib.Core.List.{List, []}
use native.Mathlib.Omega.{arith}
use lib.ListN.{length}
use borrow.Author.Tests.{eq-eqb, le-ltb}
use Rattle.region.specs.Size.{good_size}
use Rattle.firmware_text.specs.Image.{Image, Fault, none, at, fault_of}
use Rattle.firmware_text.specs.Grammar.{WellFormed, Longest, denoted}
use Rattle.firmware_text.specs.Machine.{image_of}
use Rattle.firmware_text.proofs.Means.{meaning}
use Rattle.text_image.specs.Rules.{Judgement, sound, refused, unless, outside_of, repeated_of, image_rules, rules_of, longest, is_sound}
use Rattle.text_image.specs.Picture.{picture_of, Shows}
use Rattle.text_image.proofs.Sounds.{sound-parts, not_none}
use Rattle.text_image.proofs.Pictures.{picture-shows}
use Rattle.ti_txt.specs.Answers.{Outcome, filled, read_of}
use Rattle.ti_txt.specs.Meaning.{Reads, ReadsRight}

-- a text within the limits is judged by the rules of its image
within : (text : List ℕ) (n : ℕ) (old : List ℕ) → good_size n ≡ true → length old ≡ n → length text ≤ longest
    → filled (image_rules n (image_of text)) (picture_of n (image_of text)) old ≡ read_of text n old
unfolding read_of rules_of
within text n old g s l = rw (eq-eqb _ _ s, g, le-ltb longest (length text) l) refl

-- the number and the place of a refusal; a sound text has neither
numbered : Judgement → ℕ
numbered sound = 0
numbered (refused number place) = number

placed_at : Judgement → ℕ
placed_at sound = 0
placed_at (refused number place) = place

-- the rules behind the third give no refusal 3
later-rules : (o r : Fault) (p : ℕ) → unless 4 o (unless 5 r sound) ≡ refused 3 p → ⊥
unfolding numbered
later-rules (at q) r p e = let z : ◌≡◌ {A = ℕ} 4 3 = ap numbered e in omega arith
later-rules none (at q) p e = let z : ◌≡◌ {A = ℕ} 5 3 = ap numbered e in omega arith
later-rules none none p e = let z : ◌≡◌ {A = ℕ} 0 3 = ap numbered e in omega arith

module _ (text : List ℕ) (n : ℕ) (old : List ℕ) where
  o : Outcome
  o = filled (image_rules n (image_of text)) (picture_of n (image_of text)) old

  -- a text that is malformed at a place
  broken-reads : (q : ℕ) → fault_of (image_of text) ≡ at q → Reads text n o
  unfolding o image_rules numbered placed_at
  broken-reads q e =
      let answer : o.answer ≡ refused 3 q = rw e refl in
      let not : WellFormed text → ⊥ = λ w. not_none q _ (sym e) ((meaning text).accepted.1 w) in
      record {
        third = λ p f. (not, subst (Longest text) (ap placed_at (sym answer ∙ f)) ((meaning text).longest q e));
        malformed = λ _. (q, answer);
        shown = λ f. let z : ◌≡◌ {A = ℕ} 3 0 = ap numbered (sym answer ∙ f) in absurd (omega arith);
      }

  -- a text that is well-formed
  whole-reads : fault_of (image_of text) ≡ none → Reads text n o
  unfolding o image_rules
  whole-reads e =
      let w = (meaning text).accepted.0 e in
      record {
        third = λ p f. absurd (later-rules (outside_of n (image_of text)) (repeated_of [] (image_of text)) p (rw e at f));
        malformed = λ h. absurd (h w);
        shown = λ f. (w, shows w f);
      }
    where
      shows : (w : WellFormed text) → image_rules n (image_of text) ≡ sound → Shows n (denoted w) o.region
      shows w f =
          let once = (sound-parts n (image_of text) (ap is_sound f)).2 in
          subst (λ (r : List ℕ). Shows n (denoted w) r)
          (ap (λ (j : Judgement). (filled j (picture_of n (image_of text)) old).region) (sym f))
          (subst (λ (i : Image). Shows n i (picture_of n (image_of text))) ((meaning text).image w) (picture-shows n (image_of text) once))

  within-reads : Reads text n o
  within-reads = go (fault_of (image_of text)) refl
    where
      go : (f : Fault) → fault_of (image_of text) ≡ f → Reads text n o
      go none e = whole-reads e
      go (at q) e = broken-reads q e

-- the reader's outcome says what the grammar says
pub reads-right : ReadsRight
unfolding o
reads-right text n old g s l = subst (Reads text n) (within text n old g s l) (within-reads text n old)
