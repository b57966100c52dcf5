-- The trace of a script (document 01, "Worked numbers", its last paragraph), and of the cuts of its packets (document 02, T-07).
-- Assumes nothing.
use Rattle.std.specs.Prelude.{Result, Ok, Err}
use Rattle.std.specs.Prelude.{cond, not, List, [], ◌∷◌, ◌++◌, ℕ, zero, suc, ◌+◌, ltb, length, drop, replicate}
use Rattle.little_endian.specs.Bytes.{stored_at}
use Rattle.refusal.specs.Refusal.{number_of}
use Rattle.refusal.specs.declared.Refusal.{Refusal}
use Rattle.power_cut.specs.Cut.{work_of, left_of}
use Rattle.loader.specs.Loader.{Outcome, is_application, received_of}
use Rattle.loader.specs.declared.Loader.{Loader}
use Rattle.loader.specs.declared.Mode.{Mode}
use Rattle.loader.specs.declared.Mode.TheVariants.{Application, Locked, Unlocked}
use Rattle.script.specs.Script.{headed, Frames, frames_of}
use Rattle.trace_lines.specs.Lines.{ascii, line_of, end_line, cut_line}
use Rattle.trace_lines.specs.declared.Ending.{Ending}
use Rattle.trace_lines.specs.declared.Ending.TheVariants.{InMode, Cut, Long, Mark}

-- what is shown of a script's packets
pub data Kind : Type 0 where
  Trace : Kind
  Cuts : Kind

-- the lines of the cuts of a packet at so many places from 0 on
unfoldable pub cut_lines : (at : ℕ) → Loader → (region packet : List ℕ) → (count : ℕ) → List ℕ
cut_lines at loader region packet zero = []
cut_lines at loader region packet (suc k) = cut_lines at loader region packet k ++ cut_line at k loader (left_of packet k region)

-- the lines of a packet: of the trace one, of the cuts one for each place of its work
abbrev pub packet_lines : Kind → (password : List ℕ) → Loader → (region : List ℕ) → ℕ → (packet : List ℕ) → List ℕ
packet_lines Trace password loader region at packet = line_of at packet (received_of loader region password packet).reply
packet_lines Cuts password loader region at packet = cut_lines at loader region packet (suc (work_of loader region password packet))

-- how a script ends whose packets are used up: in its mode where nothing is left or the firmware started, else `cut`, inside a packet
abbrev pub ending_of : Mode → List ℕ → Ending
ending_of mode [] = InMode mode
ending_of Application (b ∷ rest) = InMode Application
ending_of Locked (b ∷ rest) = Cut
ending_of Unlocked (b ∷ rest) = Cut

-- the lines from an offset on, under a password, for the packets that are left and what the framing left behind them; it stops at a
-- start that succeeds
unfoldable pub lines_from : Kind → (password : List ℕ) → Loader → (region : List ℕ) → ℕ → (rest : List ℕ) → List (List ℕ) → List ℕ
lines_from kind password loader region at rest [] = end_line at (ending_of loader.mode rest)
lines_from kind password loader region at rest (packet ∷ packets) =
    let ran : Outcome = received_of loader region password packet in
    cond (is_application loader.mode)
    (end_line at (InMode loader.mode))
    (packet_lines kind password loader region at packet
    ++ lines_from kind password ran.loader ran.region (at + length packet) rest packets)

-- the lines of a framing
abbrev pub lines_at : Kind → (password : List ℕ) → Loader → (region : List ℕ) → ℕ → Frames → List ℕ
lines_at kind password loader region at f = lines_from kind password loader region at f.rest f.packets

-- a locked loader that expects the checksum 0
abbrev pub locked : Loader
locked = record { mode = Locked; expected = 0 }

-- `long`, else `mark`, else the packets run by a locked loader: 4,096 zero bytes, password all 0xFF, expected checksum 0
unfoldable pub body_of : Kind → List ℕ → List ℕ
body_of kind input =
    cond (ltb 16384 (length input)) (end_line 0 Long)
    (cond (not (headed input)) (end_line 0 Mark)
    (lines_at kind (replicate 256 0xFF) locked (replicate 4096 0) 5 (frames_of (drop 5 input))))

-- the trace: the header line always stands
abbrev pub text_of : List ℕ → List ℕ
text_of input = ascii "at cmd ack msg\n" ++ body_of Trace input

-- the cuts: instead of a packet's line one for each place at which it can be cut
abbrev pub cuts_of : List ℕ → List ℕ
cuts_of input = ascii "at cut mode sum\n" ++ body_of Cuts input

-- an answer in document 01's terms: a refusal's number, or the text's length
pub data Said : Type 0 where
  refused : ℕ → Said
  written : ℕ → Said

-- what was answered, in these terms
abbrev pub said : Result ℕ Refusal → Said
said (Err why) = refused (number_of why)
said (Ok n) = written n

-- what is answered, and the buffer then
pub record Left : Type 0 where
  pub answer : Said
  pub buffer : List ℕ

-- the two together
abbrev pub left : Said → List ℕ → Left
left answer buffer = record { answer = answer; buffer = buffer }

-- a text put over the front of a buffer: 13 for one that has less than the room asked for
unfoldable pub put_of : (room : ℕ) → (text buffer : List ℕ) → Left
put_of room text buffer =
    cond (ltb (length buffer) room)
    (left (refused 13) buffer)
    (left (written (length text)) (stored_at 0 text buffer))

-- the trace put over the front of a buffer: 13 for one under 65,536 bytes, which hold every trace (`text-short`)
abbrev pub traced_of : (input buffer : List ℕ) → Left
traced_of input buffer = put_of 65536 (text_of input) buffer

-- the cuts put over the front of a buffer: 13 for one under 524,288 bytes, which hold every such text (`cuts-short`)
abbrev pub cuts_written_of : (input buffer : List ℕ) → Left
cuts_written_of input buffer = put_of 524288 (cuts_of input) buffer
