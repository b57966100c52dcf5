-- `planner::write` meets its contract: the length that was told first decides.
-- Assumes nothing.
use mathlib.Core.Path.{◌≡◌, refl, ap₂}
use mathlib.Core.Bool.{true, false}
use mathlib.Core.List.{List, []}
use Prim.Native.Nat.{ℕ}
use native.Mathlib.Omega.{arith}
use borrow.Author.Tests.{lt-ltb, le-ltb}
use lib.Dec.{ltb}
use lib.ListN.{length}
use Rattle.firmware_text.specs.Machine.{image_of}
use Rattle.script.specs.Page.{page_script}
use Rattle.planner.specs.Plan.{planned, left, put_over}
use Rattle.planner.proofs.write.Goals as goal

pub returns-then-out-length : goal.returns-then-out-length
unfolding put_over
returns-then-out-length c =
    let args = c.args in
    let out = args.out.now in
    let script = page_script (image_of args.text.now) args.password.now args.entry [] in
    let short : ltb (length out) (length script) ≡ true =
    lt-ltb (length out) (length script) (omega (arith, c.put_script-length.ensures.0)) in
    rw (short, c.into.ensures) refl

pub returns : goal.returns
unfolding put_over
returns c =
    let args = c.args in
    let out = args.out.now in
    let script = page_script (image_of args.text.now) args.password.now args.entry [] in
    let put = c.put_script.ensures in
    let long : ltb (length out) (length script) ≡ false =
    le-ltb (length out) (length script) (omega (arith, c.put_script-length.ensures.0)) in
    let whole : c.put_script.result ≡ length script = omega (arith, put.0) in
    rw long (ap₂ (λ (n : ℕ) (l : List ℕ). left (planned n) l) whole (put.1 (omega (arith, c.put_script-length.ensures.0))))
