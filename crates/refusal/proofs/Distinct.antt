-- No two refusals have one number, so a promise that gives the number gives the refusal; and none has the number 0 or 9.
-- Assumes nothing.
use mathlib.Core.Path.{◌≡◌, refl, sym, ap, ◌∙◌}
use mathlib.Core.Logic.{◌≢◌}
use mathlib.Core.List.{List, [], ◌∷◌}
use mathlib.Core.Bool.{false}
use Prim.Native.Nat.{ℕ}
use native.Mathlib.Omega.{arith}
use borrow.Author.Tests.{ne_eqb}
use lib.Dec.{eqb}
use lib.ListN.{get_or}
use Rattle.refusal.specs.Refusal.{number_of}
use Rattle.refusal.specs.declared.Refusal.{Refusal}
use Rattle.refusal.specs.declared.Refusal.TheVariants as the

-- the refusals from number 1 on; 9, 19 and 20 are of no refusal, and a filler stands there
in_order : List Refusal
in_order =
    the.RegionSize ∷ the.PasswordLength ∷ the.TextMalformed ∷ the.AddressOutside ∷ the.AddressRepeated ∷ the.ScriptHead ∷ the.PacketCut ∷ the.RefusedOverZeros
    ∷ the.RegionSize ∷ the.PictureDiffers ∷ the.BytesAfterStart ∷ the.NotStarted ∷ the.OutputShort ∷ the.EntryOutside ∷ the.RequestUnknown ∷ the.RequestForOtherCard
    ∷ the.RecordUnsound ∷ the.TooLong ∷ the.RegionSize ∷ the.RegionSize ∷ the.CutBeyondWork ∷ []

-- the refusal that has a number
named : ℕ → Refusal
named n = get_or (the.RegionSize ∷ in_order) n the.RegionSize

named_again : (r : Refusal) → named (number_of r) ≡ r
unfolding named in_order
named_again the.RegionSize = refl
named_again the.PasswordLength = refl
named_again the.EntryOutside = refl
named_again the.TooLong = refl
named_again the.TextMalformed = refl
named_again the.AddressOutside = refl
named_again the.AddressRepeated = refl
named_again the.OutputShort = refl
named_again the.ScriptHead = refl
named_again the.PacketCut = refl
named_again the.PictureDiffers = refl
named_again the.RefusedOverZeros = refl
named_again the.BytesAfterStart = refl
named_again the.NotStarted = refl
named_again the.RequestUnknown = refl
named_again the.RequestForOtherCard = refl
named_again the.RecordUnsound = refl
named_again the.CutBeyondWork = refl

pub distinct : (a b : Refusal) → number_of a ≡ number_of b → a ≡ b
distinct a b same = sym (named_again a) ∙ ap named same ∙ named_again b

-- no refusal has a number at which a filler stands
no-filler : (n : ℕ) → named n ≡ the.RegionSize → (n ≡ 1 → ⊥) → (r : Refusal) → number_of r ≢ n
no-filler n filler other r is = other (sym is ∙ ap number_of (sym (named_again r) ∙ ap named is ∙ filler))

-- no refusal has the number 0, so that 0 can stand for none
pub some_number : (r : Refusal) → eqb (number_of r) 0 ≡ false
unfolding named
some_number r = ne_eqb (number_of r) 0 (no-filler 0 refl (λ e. absurd (omega (arith, e))) r)

-- no refusal has the number 9: it is out of the table, and stays unused (document 02, T-08)
pub nine-unused : (r : Refusal) → number_of r ≢ 9
unfolding named in_order
nine-unused = no-filler 9 refl (λ e. absurd (omega (arith, e)))
