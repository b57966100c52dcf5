-- The lines of a trace (document 01, "Worked numbers", its last paragraph) and of the cuts (document 02, T-07).
-- Assumes nothing.
use Rattle.std.specs.Prelude.{cond, List, [], ◌∷◌, ◌++◌, ℕ, zero, suc, ◌+◌, ◌/◌, ◌%◌, ltb, get_or, take, replicate}
use Prim.Native.Char.{code}
use Prim.Native.String.{String, len, char_at}
use Rattle.crc.specs.Crc.{checksum_of}
use Rattle.little_endian.specs.Bytes.{PutBehind}
use Rattle.packet.specs.Packet.{core_of}
use Rattle.power_cut.specs.Cut.{restarted_of}
use Rattle.loader.specs.declared.Loader.{Loader}
use Rattle.loader.specs.declared.Mode.{Mode}
use Rattle.loader.specs.declared.Mode.TheVariants.{Application, Locked, Unlocked}
use Rattle.loader.specs.declared.Reply.{Reply}
use Rattle.loader.specs.declared.Reply.TheVariants.{Nothing, Byte, Message, Data}
use Rattle.trace_lines.specs.declared.Ending.{Ending}
use Rattle.trace_lines.specs.declared.Ending.TheVariants.{InMode, Cut, Long, Mark}
use Rattle.trace_lines.specs.declared.Line.{Line}

-- so many characters of a text from a place on, as bytes
abbrev pub codes : (count at : ℕ) → String → List ℕ
codes zero at text = []
codes (suc n) at text = code (char_at text at) ∷ codes n (at + 1) text

-- the bytes of an ASCII text
abbrev pub ascii : String → List ℕ
ascii text = codes (len text) 0 text

-- a decimal digit, or a lower-case hex digit, in ASCII
unfoldable pub digit : ℕ → ℕ
digit n = cond (ltb n 10) (48 + n) (87 + n)

-- a number in decimal, in at most `more` + 1 digits
unfoldable pub decimals : (more n : ℕ) → List ℕ
decimals zero n = digit n ∷ []
decimals (suc more) n = cond (ltb n 10) (digit n ∷ []) (decimals more (n / 10) ++ (digit (n % 10) ∷ []))

-- a number below 100,000 in decimal
abbrev pub decimal : ℕ → List ℕ
decimal = decimals 4

-- a byte in two lower-case hex digits
abbrev pub hex : ℕ → List ℕ
hex b = digit (b / 16) ∷ digit (b % 16) ∷ []

-- command, ack and message of a packet: `-` for a command after a non-zero ack or a field not answered, `data` for a data reply
unfoldable pub fields : ℕ → Reply → List ℕ
fields command Nothing = hex command ++ ascii " - -"
fields command (Byte ack) = ascii "- " ++ (hex ack ++ ascii " -")
fields command (Message message) = hex command ++ (ascii " 00 " ++ hex message)
fields command (Data sum) = hex command ++ ascii " 00 data"

-- the line of a packet: its offset and the fields
abbrev pub line_of : ℕ → List ℕ → Reply → List ℕ
line_of at packet reply = decimal at ++ (ascii " " ++ (fields (get_or (core_of packet) 0 0) reply ++ ascii "\n"))

-- the name of a mode
abbrev pub mode_name : Mode → List ℕ
mode_name Application = ascii "application"
mode_name Locked = ascii "locked"
mode_name Unlocked = ascii "unlocked"

-- the word of an ending
abbrev pub word_of : Ending → List ℕ
word_of (InMode mode) = mode_name mode
word_of Cut = ascii "cut"
word_of Long = ascii "long"
word_of Mark = ascii "mark"

-- the end line: the offset reached, and the word
abbrev pub end_line : ℕ → Ending → List ℕ
end_line at ending = ascii "end " ++ (decimal at ++ (ascii " " ++ (word_of ending ++ ascii "\n")))

-- a checksum in four lower-case hex digits, the high byte first
abbrev pub four_digits : ℕ → List ℕ
four_digits sum = hex (sum / 256) ++ hex (sum % 256)

-- the line of a cut: packet offset and place, mode after restart, and the checksum of the region that the cut leaves
abbrev pub cut_line : (at place : ℕ) → Loader → List ℕ → List ℕ
cut_line at place loader region =
    let mode : Mode = (restarted_of loader region).mode in
    let sum : ℕ = checksum_of region in
    decimal at ++ (ascii " " ++ (decimal place ++ (ascii " " ++ (mode_name mode ++ (ascii " " ++ (four_digits sum ++ ascii "\n"))))))

-- the text of a line: the first of its bytes, so many as its length
abbrev pub line_text : Line → List ℕ
line_text line = take line.length line.bytes

-- a line holds a text: the text stands over the front of 32 zero bytes, and the line's length is the text's
abbrev pub Holds : Line → List ℕ → Type 0
Holds line text = PutBehind text 0 (replicate 32 0) line.length line.bytes
