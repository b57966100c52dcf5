-- A number in decimal as the library writes it, how long the parts of a line are at most, and what stands in one that holds a text.
-- Assumes nothing.
use mathlib.Core.Path.{◌≡◌, refl, ap₂, ◌∙◌}
use mathlib.Core.List.{List, [], ◌∷◌, ◌++◌}
use Prim.Native.Nat.{ℕ, zero, suc, ◌+◌, ◌/◌, ◌%◌, ◌^◌, ◌<◌, ◌≤◌}
use native.Mathlib.Omega.{arith}
use borrow.Author.Tests.{lt-ltb, ltb-true, ltb-false}
use lib.Dec.{ltb}
use lib.ListN.{length, get_or, take, drop, replicate, length-append, length-replicate}
use lib.Seq.{take_at}
use Rattle.std.specs.Fmt.{decimal as written}
use Rattle.std.proofs.lemmas.Fmt.{decimal_digit, decimal_step}
use Rattle.crc.specs.Crc.{checksum_of}
use Rattle.little_endian.proofs.Stored.{stored-between}
use Rattle.packet.specs.Packet.{core_of}
use Rattle.power_cut.specs.Cut.{restarted_of}
use Rattle.loader.specs.declared.Loader.{Loader}
use Rattle.loader.specs.declared.Mode.{Mode}
use Rattle.loader.specs.declared.Mode.TheVariants.{Application, Locked, Unlocked}
use Rattle.loader.specs.declared.Reply.{Reply}
use Rattle.loader.specs.declared.Reply.TheVariants.{Nothing, Byte, Message, Data}
use Rattle.test_laws.proofs.Tests.{on-cond}
use Rattle.trace_lines.specs.Lines.{ascii, digit, decimals, decimal, fields, line_of, mode_name, word_of, end_line, four_digits, cut_line, line_text, Holds}
use Rattle.trace_lines.specs.declared.Ending.{Ending}
use Rattle.trace_lines.specs.declared.Ending.TheVariants.{InMode, Cut, Long, Mark}
use Rattle.trace_lines.specs.declared.Line.{Line}

-- a number in decimal is what the library writes of it
decimals-written : (more n : ℕ) → n < 10 ^ suc more → n < 2 ^ 64 → decimals more n ≡ written n
unfolding decimals digit
decimals-written zero n few fits =
    let small : n < 10 = omega (arith, few) in
    rw (decimal_digit n small, lt-ltb n 10 small) refl
decimals-written (suc more) n few fits =
    on-cond (λ (l : List ℕ). l ≡ written n) (ltb n 10) (digit n ∷ []) (decimals more (n / 10) ++ (digit (n % 10) ∷ []))
    (λ e. rw (e, decimal_digit n (ltb-true n 10 e)) refl)
    (λ e.
    let last : n % 10 < 10 = omega arith in
    rw (lt-ltb (n % 10) 10 last, decimal_step n (ltb-false n 10 e) fits, decimals-written more (n / 10) (omega (arith, few)) (omega (arith, fits))) refl)

pub decimal_written : (n : ℕ) → n < 2 ^ 16 → decimal n ≡ written n
decimal_written n few = decimals-written 4 n (omega (arith, few)) (omega (arith, few))

decimals-short : (more n : ℕ) → length (decimals more n) ≤ suc more
unfolding decimals
decimals-short zero n = omega arith
decimals-short (suc more) n =
    on-cond (λ (l : List ℕ). length l ≤ suc (suc more)) (ltb n 10) (digit n ∷ []) (decimals more (n / 10) ++ (digit (n % 10) ∷ [])) (λ e. omega arith)
    (λ e. omega (arith, length-append (decimals more (n / 10)) (digit (n % 10) ∷ []), decimals-short more (n / 10)))

pub decimal_short : (n : ℕ) → length (decimal n) ≤ 5
decimal_short = decimals-short 4

pub offset-short : (n : ℕ) → length (decimal n ++ ascii " ") ≤ 6
offset-short n = rw (length-append (decimal n) (ascii " ")) (omega (arith, decimal_short n))

-- the fields of a line and its end
pub fields-short : (command : ℕ) (reply : Reply) → length (fields command reply ++ ascii "\n") ≤ 11
unfolding fields
fields-short command Nothing = omega arith
fields-short command (Byte ack) = omega arith
fields-short command (Message message) = omega arith
fields-short command (Data sum) = omega arith

-- the name of a mode
pub name-short : (mode : Mode) → length (mode_name mode) ≤ 11
name-short Application = omega arith
name-short Locked = omega arith
name-short Unlocked = omega arith

-- the last word of the end line
pub word-short : (ending : Ending) → length (word_of ending) ≤ 11
word-short (InMode mode) = name-short mode
word-short Cut = omega arith
word-short Long = omega arith
word-short Mark = omega arith

pub line-short : (at : ℕ) (packet : List ℕ) (reply : Reply) → length (line_of at packet reply) ≤ 17
line-short at packet reply =
    let command : ℕ = get_or (core_of packet) 0 0 in
    omega (
      arith,
      length-append (decimal at) (ascii " " ++ (fields command reply ++ ascii "\n")),
      decimal_short at,
      fields-short command reply,
    )

pub cut_short : (at place : ℕ) (loader : Loader) (region : List ℕ) → length (cut_line at place loader region) ≤ 29
cut_short at place loader region =
    let mode : Mode = (restarted_of loader region).mode in
    let sum : List ℕ = ascii " " ++ (four_digits (checksum_of region) ++ ascii "\n") in
    omega (
      arith,
      length-append (decimal at) (ascii " " ++ (decimal place ++ (ascii " " ++ (mode_name mode ++ sum)))),
      length-append (decimal place) (ascii " " ++ (mode_name mode ++ sum)),
      length-append (mode_name mode) sum,
      decimal_short at,
      decimal_short place,
      name-short mode,
    )

pub end_short : (at : ℕ) (ending : Ending) → length (end_line at ending) ≤ 22
end_short at ending =
    omega (
      arith,
      length-append (decimal at) (ascii " " ++ (word_of ending ++ ascii "\n")),
      length-append (word_of ending) (ascii "\n"),
      decimal_short at,
      word-short ending,
    )

-- the text of a line stands at its front
pub text_in : (line : Line) (text : List ℕ) → Holds line text → length text ≤ 32 → line_text line ≡ text
text_in line text h short =
    let zeros : List ℕ = replicate 32 0 in
    let front : 0 + length text ≤ length zeros = rw (length-replicate {A = ℕ} 32 0) (omega arith) in
    ap₂ (λ (n : ℕ) (l : List ℕ). take n l) h.0 (h.1 ∙ stored-between 0 text zeros front) ∙ take_at text (drop (0 + length text) zeros) (0 + length text) (omega arith)
