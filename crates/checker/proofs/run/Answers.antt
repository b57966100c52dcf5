-- `checker::run` meets its contract: what is left to run gives the answer.
-- Assumes nothing.
use Rattle.std.proofs.Common.{◌≡◌, ℕ, ◌+◌, ◌*◌, ◌≤◌, Option, Some, None, sym, refl, ap, ◌∙◌, length, take, drop, arith}
use lib.ListN.{length-replicate}
use Rattle.std.proofs.lemmas.List.{places}
use Rattle.delivery.specs.Check.{trial, step_of}
use Rattle.delivery.specs.OneRegion.{single}
use denote.Enum.Bare.{sameb}
use Rattle.loader.specs.Loader.{is_application}
use Rattle.loader.specs.contracts.Mode.{the_type}
use Rattle.loader.specs.declared.Mode.{Mode}
use Rattle.loader.specs.declared.Mode.TheVariants.{Application, Locked, Unlocked}
use Rattle.refusal.specs.Refusal.{number_of}
use Rattle.refusal.proofs.Distinct.{some_number}
use Rattle.script.proofs.Framing.{part-tail}
use Rattle.checker.proofs.Steps.{follow-as}
use Rattle.checker.proofs.Walk.{ahead, stand-begin, stand-end, stand-refused, stand-next}
use Rattle.checker.proofs.run.Goals as goal
use Rattle.checker.proofs.run.Invariants.{pictured}

-- the mode is compared with application
compared : (mode : Mode) → sameb the_type mode Application ≡ is_application mode
compared Application = refl
compared Locked = refl
compared Unlocked = refl

-- an answer that is no length is none
is_none : (o : Option ℕ) → ((k : ℕ) → o ≡ Some k → ⊥) → o ≡ None
is_none None other = refl
is_none (Some k) other = absurd (other k refl)

pub loop-length-init : goal.loop-length-init
loop-length-init c =
    let a = c.args in
    let known = a.known.now in
    let eight : length a.region.now ≡ length known * 8 =
    ap length c.requires.3 ∙ length-replicate {A = ℕ} (length known * 8) 0x00 in (
      stand-begin a.script.now _ a.password.now a.expected (length a.region.now) (length known) _ _ _
          refl eight c.requires.3 c.requires.4 c.requires.5,
      omega arith,
      omega arith,
      refl,
      refl,
    )

pub returns-in_default : goal.returns-in_default
returns-in_default c =
    let a = c.args in
    let l = c.loop-length in
    let s = l.invariant.0 in
    let mode = c.eq-started in
    c.found.ensures (trial l.state l.region) s.ones s.tells
    ∙ ap single
    (stand-end _ a.password.now (pictured a.text.now a.region.now) a.script.now (trial l.state l.region) l.known l.at l.packets s
    mode.result (mode.ensures ∙ compared l.state.mode)
    (sym c.packet_ahead.ensures ∙ is_none c.packet_ahead.result c.in_default.not-Some) _ c.ended.ensures)

pub slice_bounds-run_packet-end : goal.slice_bounds-run_packet-end
slice_bounds-run_packet-end c =
    let l = c.loop-length in
    let w = ahead c.args.script.now l.at c.in-Some.length c.eq-started.result l.invariant.1 (sym c.packet_ahead.ensures ∙ c.in-Some.is) in
    let fits : l.at + c.in-Some.length ≤ length c.args.script.now = w.fits in
    grind (arith, places)

pub returns-in-Err : goal.returns-in-Err
returns-in-Err c =
    let a = c.args in
    let l = c.loop-length in
    let s = l.invariant.0 in
    let script = a.script.now in
    let zeros = trial l.state l.region in
    let k = c.in-Some.length in
    let ran = c.run_packet in
    let mode = c.eq-started in
    let w = ahead script l.at k mode.result l.invariant.1 (sym c.packet_ahead.ensures ∙ c.in-Some.is) in
    let two = step_of a.password.now (pictured a.text.now a.region.now) (take k (drop l.at script)) zeros s.ones in
    let follows = follow-as _ _ a.password.now a.text.now _ (take k (drop l.at script)) _ (length a.region.now) zeros
    s.ones l.state ran.new.region ran.new.known
    c.in-Err.is l.invariant.3 (ap (take k) (part-tail script l.at)) (ran.ensures s.ones s.tells) in
    c.found-in-Err.ensures (trial l.state ran.new.region) two.ones follows.tells
    ∙ ap single
    (stand-refused _ a.password.now (pictured a.text.now a.region.now) script zeros l.known l.at l.packets s k
    mode.result (mode.ensures ∙ compared l.state.mode) w
    (number_of c.in-Err.refusal) (trial l.state ran.new.region) ran.new.known (some_number c.in-Err.refusal) follows)

pub overflow_add-at : goal.overflow_add-at
overflow_add-at c =
    let l = c.loop-length in
    let w = ahead c.args.script.now l.at c.in-Some.length c.eq-started.result l.invariant.1 (sym c.packet_ahead.ensures ∙ c.in-Some.is) in
    record { fits = omega (arith, w.fits) }

pub loop-length-smaller : goal.loop-length-smaller
loop-length-smaller c =
    let l = c.loop-length in
    let w = ahead c.args.script.now l.at c.in-Some.length c.eq-started.result l.invariant.1 (sym c.packet_ahead.ensures ∙ c.in-Some.is) in
    omega (arith, w.fits, w.is)

pub loop-length-preserved : goal.loop-length-preserved
loop-length-preserved c =
    let a = c.args in
    let l = c.loop-length in
    let s = l.invariant.0 in
    let script = a.script.now in
    let zeros = trial l.state l.region in
    let k = c.in-Some.length in
    let ran = c.run_packet in
    let mode = c.eq-started in
    let w = ahead script l.at k mode.result l.invariant.1 (sym c.packet_ahead.ensures ∙ c.in-Some.is) in
    let follows = follow-as _ _ a.password.now a.text.now _ (take k (drop l.at script)) _ (length a.region.now) zeros
    s.ones l.state _ _
    c.in-Ok.is l.invariant.3 (ap (take k) (part-tail script l.at)) (ran.ensures s.ones s.tells) in (
      stand-next _ a.password.now (pictured a.text.now a.region.now) script zeros l.known l.at l.packets s k
          mode.result (mode.ensures ∙ compared l.state.mode) w
          _ _ follows,
      w.fits,
      omega (arith, l.invariant.2, w.is),
      ran.auto.region ∙ l.invariant.3,
      ran.auto.known ∙ l.invariant.4,
    )
