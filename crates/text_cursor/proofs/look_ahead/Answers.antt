-- `text_cursor::look_ahead` meets its contract: by where the cursor stands.
-- Assumes nothing.
use Prim.Native.Nat.{◌<◌}
use mathlib.Core.Path.{sym, ap, ◌∙◌}
use mathlib.Core.Logic.{⊎_elim}
use native.Mathlib.Omega.{arith}
use Rattle.firmware_text.specs.Machine.{State}
use Rattle.text_cursor.specs.Walk.{from}
use Rattle.text_cursor.proofs.Walks.{stop-line, stop-first, stop-pair}
use Rattle.text_cursor.proofs.look_ahead.Goals as goal

pub returns-then-pairs-eq0 : goal.returns-then-pairs-eq0
returns-then-pairs-eq0 c =
    let text = c.args.text.now in
    let at = c.args.at in
    let k = c.args.pairs in (
      λ a. ap (λ (s : State). from s at text)
          (sym (⊎_elim (λ none. stop-line k a none) (λ first. stop-first k a first.1) c.then-pairs-eq0.either)),
      omega arith,
    )

pub returns : goal.returns
returns c =
    let text = c.args.text.now in
    let at = c.args.at in
    let k = c.args.pairs in
    let some : 0 < k = omega (arith, c.if-pairs-eq0.false) in (
      λ a. c.behind_pair.ensures.0 k a c.if-pairs-ge-START.false
          ∙ ap (λ (s : State). from s at text) (sym (stop-pair k a some c.if-pairs-ge-START.false)),
      c.behind_pair.ensures.1,
    )
