-- `checker::run_packet` meets its contract.
-- Assumes nothing.
use mathlib.Core.Path.{sym, ◌∙◌}
use Rattle.std.proofs.Common.{rules}
use Rattle.checker.proofs.Steps.{follow-early, follow-failed, follow-ran}
use Rattle.checker.proofs.run_packet.Goals as goal

pub returns-then-starts_too_early : goal.returns-then-starts_too_early
returns-then-starts_too_early c =
    let early = c.starts_too_early in
    let a = c.args in
    λ ones t.
    follow-early a.password.now a.text.now a.packet.now a.loader a.region.now a.known.now ones c.requires
    (λ i. search rules) t early.result early.ensures c.if-starts_too_early.true

pub returns-then-not-succeeded : goal.returns-then-not-succeeded
returns-then-not-succeeded c =
    let early = c.starts_too_early in
    let a = c.args in
    λ ones t.
    follow-failed a.password.now a.text.now a.packet.now a.loader a.region.now a.known.now ones c.requires
    (λ i. search rules) t early.result early.ensures c.if-starts_too_early.false
    _ c.receive-ran.ensures (sym c.succeeded.ensures ∙ c.if-not-succeeded.true)

pub returns : goal.returns
returns c =
    let early = c.starts_too_early in
    let a = c.args in
    λ ones t.
    follow-ran a.password.now a.text.now a.packet.now a.loader a.region.now a.known.now ones c.requires
    (λ i. search rules) t early.result early.ensures c.if-starts_too_early.false
    _ c.receive-ran.ensures (sym c.succeeded.ensures ∙ c.if-not-succeeded.false)
    c.learn.new.known c.learn.auto.known c.learn.ensures
