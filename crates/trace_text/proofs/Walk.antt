-- Laws of the lines from an offset on: the trace ends, or one packet is run and the lines go on behind it; and how long a trace is at most.
-- Assumes nothing.
use mathlib.Core.Path.{◌≡◌, refl, sym, ap, ◌∙◌, subst}
use mathlib.Core.Bool.{Bool, true, false, false≢true, not, ◌||◌}
use mathlib.Core.List.{List, [], ◌∷◌, ◌++◌, append_assoc, append-nil}
use Prim.Native.Nat.{ℕ, zero, suc, ◌+◌, ◌*◌, ◌-◌, ◌≤◌, ◌<◌}
use mathlib.Core.Logic.{⊎_elim}
use native.Mathlib.Nat.{zero-add, min-le_right, le_of_suc-le-suc, eq-or-lt_of_le}
use native.Mathlib.Numerals.{add-one}
use native.Mathlib.Omega.{arith}
use borrow.Author.Tests.{eqb-true, ltb-false}
use Rattle.std.specs.Prelude.{None}
use lib.Dec.{eqb, ltb}
use lib.ListN.{length, take, drop, replicate, length-take, length-drop, length-append, length-replicate, drop_of_length-le}
use lib.Seq.{take_all, drop-drop, length-take-le}
use Rattle.packet.specs.Packet.{core_length, core_of, command_of}
use Rattle.packet.specs.declared.Command.{Command}
use Rattle.packet.specs.declared.Command.TheVariants.{Password, Erase, Write, RangeChecksum, Start, Unknown}
use Rattle.power_cut.specs.Cut.{command_work, work_of, left_of}
use Rattle.loader.specs.Loader.{Outcome, is_application, succeeded_of, received_of}
use Rattle.loader.proofs.Laws.{receive-keeps}
use Rattle.loader.specs.declared.Loader.{Loader}
use Rattle.loader.specs.declared.Mode.{Mode}
use Rattle.loader.specs.declared.Mode.TheVariants.{Application, Locked, Unlocked}
use Rattle.script.specs.Script.{headed, frame_length, front_of, packet_before, frames_of, Framed}
use Rattle.script.proofs.Framing.{frames-end, frames-next, frames-few, frames-cut, front_cut}
use Rattle.test_laws.proofs.Tests.{on-cond}
use Rattle.little_endian.specs.Bytes.{PutBehind, stored_at, joined}
use Rattle.little_endian.proofs.Stored.{put_then, stored-nothing, stored-between, stored-length}
use Rattle.trace_text.specs.Trace.{Kind, Trace, Cuts, cut_lines, packet_lines, ending_of, lines_from, lines_at, locked, body_of, text_of, cuts_of}
use Rattle.trace_lines.specs.Lines.{ascii, line_of, end_line, cut_line}
use Rattle.trace_lines.proofs.Texts.{line-short, cut_short, end_short}
use Rattle.trace_lines.specs.declared.Ending.{Ending}
use Rattle.trace_lines.specs.declared.Ending.TheVariants.{InMode, Cut, Long, Mark}

-- the firmware started, or nothing is left
abbrev pub over : Mode → List ℕ → Bool
over mode bytes = is_application mode || eqb (length bytes) 0

-- past a start that succeeded the mode is the ending
started-ending : (mode : Mode) (rest : List ℕ) → is_application mode ≡ true → ending_of mode rest ≡ InMode mode
started-ending Application [] e = refl
started-ending Application (b ∷ rest) e = refl
started-ending Locked rest e = absurd (false≢true e)
started-ending Unlocked rest e = absurd (false≢true e)

-- a packet that is begun and not whole
cut-ending : (mode : Mode) (rest : List ℕ) → over mode rest ≡ false → ending_of mode rest ≡ Cut
cut-ending Application rest e = absurd (false≢true (sym e))
cut-ending Locked [] e = absurd (false≢true (sym e))
cut-ending Locked (b ∷ rest) e = refl
cut-ending Unlocked [] e = absurd (false≢true (sym e))
cut-ending Unlocked (b ∷ rest) e = refl

-- no bytes
none_left : (bytes : List ℕ) → length bytes ≡ 0 → bytes ≡ []
none_left [] e = refl
none_left (b ∷ bytes) e = absurd (omega (arith, e))

-- one of two tests
either : (a b : Bool) → a || b ≡ true → (a ≡ false → b ≡ true)
either true b e n = absurd (false≢true (sym n))
either false b e n = e

neither : (a b : Bool) → a || b ≡ false → a ≡ false
neither true b e = e
neither false b e = refl

-- the lines of a loader that started the firmware
started : (kind : Kind) (password : List ℕ) (loader : Loader) (region : List ℕ) (at : ℕ) (rest : List ℕ) (packets : List (List ℕ)) → is_application loader.mode ≡ true
    → lines_from kind password loader region at rest packets ≡ end_line at (InMode loader.mode)
unfolding lines_from
started kind password loader region at rest [] e = ap (end_line at) (started-ending loader.mode rest e)
started kind password loader region at rest (p ∷ ps) e = rw e refl

-- no packet is left
unpacked : (kind : Kind) (password : List ℕ) (loader : Loader) (region : List ℕ) (at : ℕ) (bytes : List ℕ) → length bytes < frame_length bytes
    → lines_at kind password loader region at (frames_of bytes) ≡ end_line at (ending_of loader.mode bytes)
unfolding lines_from
unpacked kind password loader region at bytes cut = ap (lines_at kind password loader region at) (frames-end bytes cut)

module _ (kind : Kind) (password : List ℕ) (loader : Loader) (region : List ℕ) (at : ℕ) where
  module _ (bytes : List ℕ) where
    -- the trace ends in the mode
    pub lines-over : over loader.mode bytes ≡ true → lines_at kind password loader region at (frames_of bytes) ≡ end_line at (InMode loader.mode)
    lines-over e = go (is_application loader.mode) refl
      where
        go : (t : Bool) → is_application loader.mode ≡ t → lines_at kind password loader region at (frames_of bytes) ≡ end_line at (InMode loader.mode)
        go true t = started kind password loader region at (frames_of bytes).rest (frames_of bytes).packets t
        go false t =
            let none : bytes ≡ [] = none_left bytes (eqb-true (length bytes) 0 (either _ _ e t)) in
            ap (λ (l : List ℕ). lines_at kind password loader region at (frames_of l)) none ∙ unpacked kind password loader region at [] (omega arith)

    -- the trace ends inside a packet
    pub lines_cut : over loader.mode bytes ≡ false → front_of bytes ≡ None → lines_at kind password loader region at (frames_of bytes) ≡ end_line at Cut
    lines_cut e none = unpacked kind password loader region at bytes (front_cut bytes none) ∙ ap (end_line at) (cut-ending loader.mode bytes e)

    -- a packet is run
    pub lines_next : (n : ℕ) → n ≡ frame_length bytes → n ≤ length bytes → over loader.mode bytes ≡ false
        → (l : Loader) (r : List ℕ) → l ≡ (received_of loader region password (take n bytes)).loader → r ≡ (received_of loader region password (take n bytes)).region
        → lines_at kind password loader region at (frames_of bytes)
        ≡ packet_lines kind password loader region at (take n bytes) ++ lines_at kind password l r (at + n) (frames_of (drop n bytes))
    unfolding lines_from
    lines_next n is whole e l r isl isr =
        let framed : frames_of bytes ≡ packet_before (take n bytes) (frames_of (drop n bytes)) = rw is (frames-next bytes (rw is at whole)) in
        ap (lines_at kind password loader region at) framed
        ∙ rw (neither (is_application loader.mode) (eqb (length bytes) 0) e, length-take-le n bytes whole, ← isl, ← isr) refl

-- the rest of a buffer behind what it has, as it is lent on, and the buffer with a rest that came back
abbrev pub rest_of : ℕ → List ℕ → List ℕ
rest_of held out = take (length out - held) (drop held out)

abbrev pub put_back : ℕ → (out rest : List ℕ) → List ℕ
put_back held out rest = take held out ++ (rest ++ drop (length out - held) (drop held out))

rest-is : (held : ℕ) (out : List ℕ) → rest_of held out ≡ drop held out
rest-is held out = take_all (length out - held) (drop held out) (rw length-drop (omega arith))

pub length-rest : (held : ℕ) (out : List ℕ) → length (rest_of held out) ≡ length out - held
length-rest held out = ap length (rest-is held out) ∙ length-drop held out

-- a buffer that has a text at its front
pub record HasText (text old : List ℕ) (held : ℕ) (out : List ℕ) : Type 0 where
  pub within : held ≤ length out
  pub long : length out ≡ length old
  pub put : PutBehind text 0 old held out

-- no text yet
pub none_yet : (old : List ℕ) → HasText [] old 0 old
none_yet old = record { within = omega arith; long = refl; put = (omega arith, sym (stored-nothing 0 old)) }

-- bytes put over the rest of a buffer are put behind its text
pub put_rest : (x y old : List ℕ) (held : ℕ) (out : List ℕ) (more : ℕ) (rest : List ℕ) → HasText x old held out → PutBehind y 0 (rest_of held out) more rest
    → length x + length y ≤ length old → HasText (x ++ y) old (held + more) (put_back held out rest)
put_rest x y old held out more rest first second room =
    let fits : held + length y ≤ length out = omega (arith, first.long, first.put.0) in
    let part : 0 + length y ≤ length (drop held out) = rw (length-drop held out) (omega arith) in
    let past : drop (length out - held) (drop held out) ≡ [] = drop_of_length-le (drop held out) {i = length out - held} (rw length-drop (omega arith)) in
    let put : rest ≡ y ++ drop (0 + length y) (drop held out) = second.1 ∙ ap (stored_at 0 y) (rest-is held out) ∙ stored-between 0 y (drop held out) part in
    let is : put_back held out rest ≡ stored_at held y out =
    rw (past, append-nil) (rw put (ap (λ (l : List ℕ). take held out ++ (y ++ l)) (rw zero-add (drop-drop (length y) held out))) ∙ sym (stored-between held y out fits)) in
    let long : length (put_back held out rest) ≡ length out = ap length is ∙ stored-length held y out fits in
    record {
      within = omega (arith, second.0, long, fits);
      long = long ∙ first.long;
      put = put_then x y 0 old held out (held + more) (put_back held out rest) first.put (omega (arith, second.0), is) (omega (arith, room));
    }

-- a walk that has come to an offset: the text so far, and that what is left to walk gives the rest
pub record Reaches (kind : Kind) (whole old password script : List ℕ) (at : ℕ) (loader : Loader) (region : List ℕ) (held : ℕ) (out : List ℕ) : Type 0 where
  pub text : List ℕ
  pub has : HasText text old held out
  pub left : whole ≡ text ++ lines_at kind password loader region at (frames_of (drop at script))

module _ (kind : Kind) (whole old password script : List ℕ) (at : ℕ) (loader : Loader) (region : List ℕ) (held : ℕ) (out : List ℕ)
    (r : Reaches kind whole old password script at loader region held out) (room : length whole ≤ length old) where
  -- what is put last has the rest of the buffer, and makes the whole
  pub reach-end-room : (ending : Ending) → lines_at kind password loader region at (frames_of (drop at script)) ≡ end_line at ending
      → length (end_line at ending) ≤ length (rest_of held out)
  reach-end-room ending e =
      let all = ap length r.left ∙ length-append r.text (lines_at kind password loader region at (frames_of (drop at script))) in
      omega (arith, ap length e, all, r.has.put.0, r.has.long, room, length-rest held out)

  pub reach-end : (ending : Ending) → lines_at kind password loader region at (frames_of (drop at script)) ≡ end_line at ending
      → (last : ℕ) (rest : List ℕ) → PutBehind (end_line at ending) 0 (rest_of held out) last rest → HasText whole old (held + last) (put_back held out rest)
  reach-end ending e last rest p =
      let all : whole ≡ r.text ++ end_line at ending = r.left ∙ ap (r.text ++◌) e in
      let fits : length r.text + length (end_line at ending) ≤ length old = omega (arith, room, ap length all ∙ length-append r.text (end_line at ending)) in
      subst (λ (text : List ℕ). HasText text old (held + last) (put_back held out rest)) (sym all)
      (put_rest r.text (end_line at ending) old held out last rest r.has p fits)

  -- one packet more
  pub reach-next : (k : ℕ) → k ≡ frame_length (drop at script) → at + k ≤ length script → over loader.mode (drop at script) ≡ false
      → (l : Loader) (g : List ℕ) → l ≡ (received_of loader region password (take k (drop at script))).loader → g ≡ (received_of loader region password (take k (drop at script))).region
      → (more : ℕ) (new : List ℕ) → PutBehind (packet_lines kind password loader region at (take k (drop at script))) 0 (rest_of held out) more new
      → Reaches kind whole old password script (at + k) l g (held + more) (put_back held out new)
  reach-next k is fits e l g isl isg more new p =
      let bytes = drop at script in
      let line = packet_lines kind password loader region at (take k bytes) in
      let rest = lines_at kind password l g (at + k) (frames_of (drop k bytes)) in
      let lines = lines_next kind password loader region at bytes k is (rw (length-drop at script) (omega arith)) e l g isl isg in
      let all : whole ≡ (r.text ++ line) ++ rest = r.left ∙ ap (r.text ++◌) lines ∙ sym (append_assoc r.text line rest) in
      let parts = ap length all ∙ length-append (r.text ++ line) rest in
      record {
        text = r.text ++ line;
        has = put_rest r.text line old held out more new r.has p (omega (arith, room, parts, length-append r.text line));
        left =
            all
            ∙ ap (λ (b : List ℕ). (r.text ++ line) ++ lines_at kind password l g (at + k) (frames_of b)) (drop-drop k at script);
      }

  -- the lines of one packet more are part of the whole
  pub reach-room : (k : ℕ) → k ≡ frame_length (drop at script) → at + k ≤ length script → over loader.mode (drop at script) ≡ false
      → length (packet_lines kind password loader region at (take k (drop at script))) ≤ length (rest_of held out)
  reach-room k is fits e =
      let bytes = drop at script in
      let ran : Outcome = received_of loader region password (take k bytes) in
      let line = packet_lines kind password loader region at (take k bytes) in
      let rest = lines_at kind password ran.loader ran.region (at + k) (frames_of (drop k bytes)) in
      let lines = lines_next kind password loader region at bytes k is (rw (length-drop at script) (omega arith)) e ran.loader ran.region refl refl in
      let all : whole ≡ r.text ++ (line ++ rest) = r.left ∙ ap (r.text ++◌) lines in
      omega (arith, room, r.has.put.0, r.has.long, ap length all ∙ length-append r.text (line ++ rest), length-append line rest, length-rest held out)

-- how long the lines of so many packets are at most, in a trace
lines-few : (password : List ℕ) (loader : Loader) (region : List ℕ) (at : ℕ) (rest : List ℕ) (packets : List (List ℕ))
    → length (lines_from Trace password loader region at rest packets) ≤ 17 * length packets + 22
unfolding lines_from
lines-few password loader region at rest [] = end_short at (ending_of loader.mode rest)
lines-few password loader region at rest (p ∷ ps) =
    let ran : Outcome = received_of loader region password p in
    let line = line_of at p ran.reply in
    let more = lines_from Trace password ran.loader ran.region (at + length p) rest ps in
    on-cond (λ (l : List ℕ). length l ≤ 17 * length (p ∷ ps) + 22) (is_application loader.mode) (end_line at (InMode loader.mode)) (line ++ more)
    (λ e. omega (arith, end_short at (InMode loader.mode)))
    (λ e. omega (arith, length-append line more, line-short at p ran.reply, lines-few password ran.loader ran.region (at + length p) rest ps))

-- how long what follows the header is at most, by the lines of the packets
body-within : (kind : Kind) (input : List ℕ) (k : ℕ) → 22 ≤ k
    → (length input ≤ 16384 → length (lines_at kind (replicate 256 0xFF) locked (replicate 4096 0) 5 (frames_of (drop 5 input))) ≤ k) → length (body_of kind input) ≤ k
unfolding body_of
body-within kind input k least lines =
    on-cond (λ (l : List ℕ). length l ≤ k) (ltb 16384 (length input)) (end_line 0 Long) _ (λ e. omega (arith, end_short 0 Long))
    (λ e. on-cond (λ (l : List ℕ). length l ≤ k) (not (headed input)) (end_line 0 Mark)
    (lines_at kind (replicate 256 0xFF) locked (replicate 4096 0) 5 (frames_of (drop 5 input)))
    (λ f. omega (arith, end_short 0 Mark)) (λ f. lines (ltb-false 16384 (length input) e)))

-- no trace is longer
pub text-short : (input : List ℕ) → length (text_of input) ≤ 55712
text-short input =
    let f = frames_of (drop 5 input) in
    let body = body-within Trace input 55697 (omega arith) (λ few. omega (arith, few, lines-few (replicate 256 0xFF) locked (replicate 4096 0) 5 f.rest f.packets, frames-few (drop 5 input), length-drop 5 input)) in
    omega (arith, length-append (ascii "at cmd ack msg\n") (body_of Trace input), body)

-- ---- the cuts

-- a core is shorter than its message
core-few : (message : List ℕ) → length (core_of message) ≤ length message - 3
core-few message = rw (length-take (core_length message) (drop 3 message), length-drop 3 message) (omega (arith, min-le_right (core_length message) (length message - 3)))

of-command : (c : Command) (core message region : List ℕ) → 5 ≤ length message → length region ≤ 4096 → length core ≤ length message - 3 → suc (command_work c core (length region)) ≤ length message
unfolding command_work
of-command Password core message region some small few = omega arith
of-command Erase core message region some small few = omega arith
of-command Write core message region some small few = omega (arith, length-drop 5 core)
of-command RangeChecksum core message region some small few = omega arith
of-command Start core message region some small few = omega arith
of-command Unknown core message region some small few = omega arith

-- a packet has no more places than bytes
pub work-few : (loader : Loader) (region password message : List ℕ) → 5 ≤ length message → length region ≤ 4096 → suc (work_of loader region password message) ≤ length message
unfolding work_of
work-few loader region password message some small =
    on-cond (λ (k : ℕ). suc k ≤ length message) (succeeded_of (received_of loader region password message).reply) (command_work (command_of (core_of message)) (core_of message) (length region)) 0
    (λ e. of-command (command_of (core_of message)) (core_of message) message region some small (core-few message)) (λ e. omega arith)

-- the lines of so many places
cut-lines-few : (at : ℕ) (loader : Loader) (region packet : List ℕ) (k : ℕ) → length (cut_lines at loader region packet k) ≤ 29 * k
unfolding cut_lines
cut-lines-few at loader region packet zero = omega arith
cut-lines-few at loader region packet (suc k) =
    omega (arith, length-append (cut_lines at loader region packet k) (cut_line at k loader (left_of packet k region)), cut-lines-few at loader region packet k, cut_short at k loader (left_of packet k region))

-- more places have no fewer lines
pub cut-grow : (at : ℕ) (loader : Loader) (region packet : List ℕ) (m k : ℕ) → k ≤ m → length (cut_lines at loader region packet k) ≤ length (cut_lines at loader region packet m)
unfolding cut_lines
cut-grow at loader region packet zero k h = ⊎_elim (λ e. rw e (omega arith)) (λ l. absurd (omega arith)) (eq-or-lt_of_le h)
cut-grow at loader region packet (suc m) k h =
    ⊎_elim (λ e. rw e (omega arith))
    (λ l. omega (arith, cut-grow at loader region packet m k (le_of_suc-le-suc l), length-append (cut_lines at loader region packet m) (cut_line at m loader (left_of packet m region))))
    (eq-or-lt_of_le h)

module _ (at : ℕ) (loader : Loader) (region packet : List ℕ) (last k : ℕ) (old : List ℕ) (held : ℕ) (out : List ℕ)
    (before : HasText (cut_lines at loader region packet k) old held out) (inside : k ≤ last) (room : length (cut_lines at loader region packet (suc last)) ≤ length old) where
  abbrev next : List ℕ
  next = cut_line at k loader (left_of packet k region)

  fits : length (cut_lines at loader region packet k) + length next ≤ length old
  unfolding cut_lines
  fits = omega (arith, room, length-append (cut_lines at loader region packet k) next, cut-grow at loader region packet (suc last) (suc k) (omega (arith, inside)))

  -- the line of one place more has room
  pub cut-room : (line : List ℕ) → line ≡ next → held + length line ≤ length old
  cut-room line is = rw is (omega (arith, before.put.0, fits))

  -- and is put
  pub cut-next : (line : List ℕ) → line ≡ next → (more : ℕ) (new : List ℕ) → PutBehind line 0 (rest_of held out) more new
      → HasText (cut_lines at loader region packet (k + 1)) old (held + more) (put_back held out new)
  unfolding cut_lines
  cut-next line is more new put =
      rw (add-one k) (put_rest (cut_lines at loader region packet k) next old held out more new before (rw is at put) fits)

-- how long the lines of packets are at most, in the cuts
cuts-few : (password : List ℕ) (loader : Loader) (region : List ℕ) (at : ℕ) (rest : List ℕ) (packets : List (List ℕ)) → Framed packets → length region ≤ 4096
    → length (lines_from Cuts password loader region at rest packets) ≤ 29 * length (joined packets) + 22
unfolding lines_from
cuts-few password loader region at rest [] framed small = omega (arith, end_short at (ending_of loader.mode rest))
cuts-few password loader region at rest (p ∷ ps) framed small =
    let ran : Outcome = received_of loader region password p in
    let places = suc (work_of loader region password p) in
    let line = cut_lines at loader region p places in
    let more = lines_from Cuts password ran.loader ran.region (at + length p) rest ps in
    let kept = (receive-keeps loader region password p).long in
    on-cond (λ (l : List ℕ). length l ≤ 29 * length (joined (p ∷ ps)) + 22) (is_application loader.mode) (end_line at (InMode loader.mode)) (line ++ more)
    (λ e. omega (arith, end_short at (InMode loader.mode)))
    (λ e. omega (
      arith,
      length-append line more,
      length-append p (joined ps),
      cut-lines-few at loader region p places,
      work-few loader region password p (omega (arith, framed.0)) small,
      cuts-few password ran.loader ran.region (at + length p) rest ps framed.1 (omega (arith, kept, small)),
    ))

-- no text of cuts is longer
pub cuts-short : (input : List ℕ) → length (cuts_of input) ≤ 475029
cuts-short input =
    let f = frames_of (drop 5 input) in
    let cut = frames-cut (drop 5 input) in
    let zeros : length (replicate {A = ℕ} 4096 0) ≤ 4096 = rw (length-replicate {A = ℕ} 4096 0) (omega arith) in
    let whole : length (joined f.packets) ≤ length (drop 5 input) = omega (arith, ap length cut.joins, length-append (joined f.packets) f.rest) in
    let body = body-within Cuts input 475013 (omega arith)
    (λ few. omega (arith, few, whole, length-drop 5 input, cuts-few (replicate 256 0xFF) locked (replicate 4096 0) 5 f.rest f.packets cut.framed zeros)) in
    omega (arith, length-append (ascii "at cut mode sum\n") (body_of Cuts input), body)
