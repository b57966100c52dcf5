-- What a sound text has none of.
-- Assumes nothing.
use Prim.Native.Nat.{ℕ, ◌≤◌}
use mathlib.Core.Path.{◌≡◌, refl, ap, ◌∙◌}
use mathlib.Core.List.{List, []}
use mathlib.Core.Bool.{Bool, true, false, cond, false≢true}
use borrow.Author.Tests.{ltb-false}
use lib.Dec.{ltb}
use lib.ListN.{length}
use Rattle.region.specs.Size.{good_size}
use Rattle.firmware_text.specs.Machine.{image_of}
use Rattle.firmware_text.specs.Image.{Image, Fault, none, at, fault_of}
use Rattle.text_image.specs.Rules.{outside_of, repeated_of, Judgement, sound, refused, unless, longest, image_rules, rules_of, is_sound}

-- a fault of the kind, or the next rule
passed : (number : ℕ) (f : Fault) (next : Judgement) → is_sound (unless number f next) ≡ true → (f ≡ none) × (is_sound next ≡ true)
passed number none next e = (refl, e)
passed number (at p) next e = absurd (false≢true e)

-- no fault of any kind
pub sound-parts : (n : ℕ) (i : Image) → is_sound (image_rules n i) ≡ true
    → (fault_of i ≡ none) × (outside_of n i ≡ none) × (repeated_of [] i ≡ none)
unfolding image_rules
sound-parts n i e =
    let third = passed 3 (fault_of i) _ e in
    let fourth = passed 4 (outside_of n i) _ third.1 in
    let fifth = passed 5 (repeated_of [] i) sound fourth.1 in
    (third.0, fourth.0, fifth.0)

pub parts-sound : (n : ℕ) (i : Image) → none ≡ fault_of i → none ≡ outside_of n i → none ≡ repeated_of [] i
    → is_sound (image_rules n i) ≡ true
unfolding image_rules
parts-sound n i f o r = rw (← f, ← o, ← r)

-- a sound text is no longer than the longest that is read, and its image keeps the rules
module _ (text : List ℕ) (n : ℕ) (e : rules_of text n ≡ sound) where
  both-rules : (length text ≤ longest) × (is_sound (image_rules n (image_of text)) ≡ true)
  unfolding rules_of
  both-rules = go (good_size n) (ltb longest (length text)) refl (ap is_sound e)
    where
      go : (good long : Bool) → ltb longest (length text) ≡ long
          → is_sound (cond good (cond long (refused 18 0) (image_rules n (image_of text))) (refused 1 0)) ≡ true
          → (length text ≤ longest) × (is_sound (image_rules n (image_of text)) ≡ true)
      go true true h x = absurd (false≢true x)
      go true false h x = (ltb-false longest (length text) h, x)
      go false long h x = absurd (false≢true x)

  pub sound-short : length text ≤ longest
  sound-short = both-rules.0

  pub sound-image : is_sound (image_rules n (image_of text)) ≡ true
  sound-image = both-rules.1

-- no fault is a fault
pub not_none : {A : Type 0} (p : ℕ) (f : Fault) → at p ≡ f → f ≡ none → A
not_none p f e g = absurd (false≢true (ap test (e ∙ g)))
  where
    test : Fault → Bool
    test none = true
    test (at p) = false
