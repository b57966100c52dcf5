-- Total power from the 12 V readings (document 01, "Application mode").
-- Assumes nothing.
use Rattle.std.specs.Prelude.{ℕ, ◌*◌, ◌/◌}

-- volts raw times amps raw, of 1.25 mV and 1.25 mA, in watts: 640,000 of their product are one; the fraction is dropped
abbrev pub watts_of : ℕ → ℕ → ℕ
watts_of volts amps = volts * amps / 640000
