-- `checker::check` meets its contract.
-- Assumes nothing.
use Rattle.std.proofs.Common.{◌≡◌, ℕ, ◌*◌, length, replicate, sym, ap, ◌∙◌}
use Rattle.delivery.specs.Check.{passed, refused, run_of}
use Rattle.delivery.specs.OneRegion.{single, judged_one}
use Rattle.delivery.proofs.OneRegion.{eighths-short}
use Rattle.firmware_text.specs.Machine.{image_of}
use Rattle.refusal.specs.Refusal.{number_of}
use Rattle.script.proofs.Framing.{headed-long}
use Rattle.text_image.specs.Picture.{picture_of}
use Rattle.text_image.specs.Rules.{rules_of}
use Rattle.checker.specs.Answers.{said}
use Rattle.checker.proofs.Checks.{bits-sized, said-passed, check-by, upheld}
use Rattle.checker.proofs.check.Goals as goal

pub returns-in-Err : goal.returns-in-Err
returns-in-Err c =
    let a = c.args in
    let why = c.in-Err.refused in
    let both = upheld a.script.now a.text.now a.password.now a.expected a.size a.region.now a.known.now _
    (check-by a.script.now a.text.now a.password.now a.expected a.size a.region.now a.known.now
    (refused (number_of why.refusal) why.place) (sym c.judge.ensures ∙ ap said c.in-Err.is)) in
    record { answer = both.0; demand3 = both.1 }

pub run-requires : goal.run-requires
run-requires c =
    let a = c.args in
    let j = said-passed a.script.now a.text.now a.password.now a.size (length a.region.now) (length a.known.now)
    (sym c.judge.ensures ∙ ap said c.in_default.is) in
    let sized = j.fine.sized in
    let long : length c.fill.new.self ≡ a.size = c.fill.ensures.len ∙ sized.region_sized in
    let bits : length c.fill-2.new.self ≡ length a.known.now = c.fill-2.ensures.len in
    let eight : length a.region.now ≡ length c.fill-2.new.self * 8 =
    sized.region_sized ∙ sym (bits-sized a.size _ _ sized) ∙ ap (λ (n : ℕ). n * 8) (sym bits) in (
      headed-long _ j.begins,
      j.fine.short,
      ap (rules_of a.text.now) long ∙ j.from_sound,
      c.fill.ensures.after (λ y e. e) ∙ ap (λ (n : ℕ). replicate n 0x00) eight,
      c.fill-2.ensures.after (λ y e. e) ∙ ap (λ (n : ℕ). replicate n 0x00) (sym bits),
      rw (bits, sized.known_sized) (eighths-short a.size sized.good),
    )

pub returns : goal.returns
returns c =
    let a = c.args in
    let ok : judged_one a.script.now a.text.now a.password.now a.size (length a.region.now) (length a.known.now) ≡ passed =
    sym c.judge.ensures ∙ ap said c.in_default.is in
    let j = said-passed a.script.now a.text.now a.password.now a.size (length a.region.now) (length a.known.now) ok in
    let long : length c.fill.new.self ≡ a.size = c.fill.ensures.len ∙ j.fine.sized.region_sized in
    let both = upheld a.script.now a.text.now a.password.now a.expected a.size a.region.now a.known.now _
    (c.run.ensures
    ∙ ap (λ (n : ℕ). single (run_of a.script.now (picture_of n (image_of a.text.now)) a.password.now a.expected n)) long
    ∙ check-by a.script.now a.text.now a.password.now a.expected a.size a.region.now a.known.now passed ok) in
    record { answer = both.0; demand3 = both.1 }
