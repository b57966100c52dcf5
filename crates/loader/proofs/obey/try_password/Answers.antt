-- `loader::obey::try_password` meets its contract, over every region: the password is right, or it is not.
-- Assumes nothing.
use mathlib.Core.Path.{◌≡◌, refl, sym, ap, ◌∙◌}
use mathlib.Core.Bool.{true, false}
use mathlib.Core.List.{List}
use Prim.Native.Nat.{ℕ}
use lib.ListN.{drop}
use Rattle.region.specs.Same.{same}
use Rattle.loader.specs.Loader.{outcome, password_of}
use Rattle.loader.specs.declared.Received.{Received}
use Rattle.loader.proofs.obey.try_password.Goals as goal

pub returns-then-eq : goal.returns-then-eq
unfolding password_of same
returns-then-eq c =
    let a = c.args in
    let right : same (drop 1 a.core.now) a.password.now ≡ true =
    ap (λ (l : List ℕ). same l a.password.now) (sym c.behind.ensures) ∙ sym c.eq.ensures ∙ c.if-eq.true in
    λ region. ap (λ (r : Received). outcome r.loader region r.reply) c.say.ensures ∙ rw right refl

pub returns : goal.returns
unfolding password_of same
returns c =
    let a = c.args in
    let wrong : same (drop 1 a.core.now) a.password.now ≡ false =
    ap (λ (l : List ℕ). same l a.password.now) (sym c.behind.ensures) ∙ sym c.eq.ensures ∙ c.if-eq.false in
    λ region. ap (λ (r : Received). outcome r.loader region r.reply) c.say-2.ensures ∙ rw wrong refl
