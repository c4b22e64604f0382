-- Demand 2: "A frame the transmitter sends is read back by an idle, enabled, empty, undisturbed receiver with the same
-- format and 16X pulses as the same character, cut to its data bits, without an error mark." Either channel sends, and
-- either receives; what joins TxD to RxD stands outside the chip, and is any list of events in which the receiver's
-- pulses find the levels that were sent. Order 2: "Demand 2's receiver is in normal mode or automatic echo, or in local
-- loopback with the frame its own transmitter's." Assumes nothing.
use Rattle.std.specs.Prelude.{ℕ, ◌≡◌, Bool, true, false, not, ◌||◌, List, [], ◌∷◌, ◌++◌, map, eqb, length}
use Rattle.format.specs.Digits.{cut_of}
use Rattle.format.specs.Format.{format_of}
use Rattle.format.specs.declared.format.Format.{Format}
use Rattle.frame.specs.Levels.{frame}
use Rattle.character.specs.Character.{clean}
use Rattle.feed.specs.declared.feed.Setting.{Setting}
use Rattle.sampler.specs.Lines.{Line, at16, arrivals}
use Rattle.sampler.specs.Lines.Line.{pulse}
use Rattle.receiver.specs.ReadBack.{Idle}
use Rattle.byte_bits.specs.Bytes.{has_bit}
use Rattle.events.specs.declared.events.Event.{Event}
use Rattle.events.specs.declared.events.Event.TheVariants.{ChipReset, Read, Write, Acknowledge, Pins, Tick}
use Rattle.demands.specs.Chip.{Chip, Channel, of_channel, register_of, and_then, shows, status_bit, each_of}
use Rattle.demands.specs.Told.{programmed, in_normal, in_local}
use Rattle.demands.specs.Delivery.{lines_from, ledger, held}
use Rattle.demands.specs.Sending.{sender_after, standing, Starts, started_frame, keeps_from, pulses_from, sent_from}

-- "idle, enabled, empty": "it is idle while it hunts and its last sample was high", and the ready bit is clear
pub record Listens (c : Chip) (levels : ℕ) (ch : Channel) (es : List Event) : Type 0 where
  pub idle : Idle (ledger ch levels es).sampler
  pub enabled : (programmed ch es).receives ≡ true
  pub empty : status_bit c levels ch es 0 ≡ false

-- "undisturbed": no chip reset, no write of the channel's mode registers, CSR or command, no read of its buffer
abbrev pub undisturbed : Channel → Event → Bool
undisturbed ch ChipReset = false
undisturbed ch (Read n) = not (eqb n (register_of ch 3))
undisturbed ch (Write n byte) = not (eqb n (register_of ch 0) || (eqb n (register_of ch 1) || eqb n (register_of ch 2)))
undisturbed ch Acknowledge = true
undisturbed ch (Pins x) = true
undisturbed ch Tick = true

-- pulses that find these levels
abbrev pub carried : Setting → List Bool → List Line
carried f ls = map (λ (level : Bool). pulse level f) ls

-- the format that MR1 chooses
abbrev pub format_after : Channel → List Event → Format
format_after ch es = format_of (programmed ch es).mr1

-- "with the same format": "4-3 parity 00 with, 01 forced, 10 none; 2 odd, or forced high; 1-0 data bits less 5". With
-- none, bit 2 chooses nothing, and may differ.
pub record SameFormat (f g : Format) : Type 0 where
  pub bits : f.width ≡ g.width
  pub parity : f.parity ≡ g.parity
  pub odd : f.parity ≡ 0 → f.odd ≡ g.odd
  pub high : f.parity ≡ 1 → f.odd ≡ g.odd

-- Exactly that character arrives, cut to its data bits and without a mark, and nothing else; it is what is held;
-- overrun and break change are as they were; the receiver is idle again.
pub record ReadBack (c : Chip) (levels : ℕ) (ch : Channel) (es gs : List Event) (x : ℕ) : Type 0 where
  pub one : arrivals (ledger ch levels es).sampler (lines_from ch levels es gs)
      ≡ clean (cut_of (format_after ch es).width.0 x) ∷ []
  pub held : held c levels ch (es ++ gs) ≡ clean (cut_of (format_after ch es).width.0 x) ∷ []
  pub overrun : status_bit c levels ch (es ++ gs) 4 ≡ status_bit c levels ch es 4
  pub change : has_bit (shows c levels (es ++ gs) 5) (of_channel ch 2 6) ≡ has_bit (shows c levels es 5) (of_channel ch 2 6)
  pub idle : Idle (ledger ch levels (es ++ gs)).sampler

pub record ReadsBack (c : Chip) : Type 0 where
  -- a frame, in the receiver's format and with any stop code, found by its pulses while nothing disturbs it
  pub frame : (levels : ℕ) (ch : Channel) (es gs : List Event) (code x : ℕ) → Listens c levels ch es
      → each_of (undisturbed ch) gs ≡ true
      → lines_from ch levels es gs ≡ carried (at16 (format_after ch es)) (frame true (format_after ch es) code x)
      → ReadBack c levels ch es gs x
  -- What a transmitter sends from a character's start, with 16X pulses and the same format, and what the receiver's
  -- pulses find. They may be of one chip or of two, which were reset with other levels on their pins and had other
  -- events.
  pub sent : (there here : ℕ) (sender receiver : Channel) (es fs before gs : List Event) (e : Event)
      → Starts there sender es e → in_normal (programmed sender es) ≡ true
      → keeps_from sender (and_then es e) fs ≡ true
      → pulses_from there sender es (e ∷ fs) ≡ length (started_frame there sender es e)
      → (standing there sender es e).sixteen ≡ true → SameFormat (format_after sender es) (format_after receiver before)
      → Listens c here receiver before → each_of (undisturbed receiver) gs ≡ true
      → lines_from receiver here before gs
      ≡ carried (at16 (format_after receiver before)) (sent_from c there sender es (e ∷ fs))
      → ReadBack c here receiver before gs (sender_after there sender es).holding
  -- Order 2, "in local loopback with the frame its own transmitter's": what a channel's transmitter sends with 16X pulses
  -- its own receiver reads back, whatever RxD does meanwhile and whatever is written to the buffer. (What is looped
  -- back is on no pin: `Loops` ties it to one.)
  pub looped : (levels : ℕ) (ch : Channel) (es fs : List Event) (e : Event) → Starts levels ch es e
      → in_local (programmed ch es) ≡ true
      → pulses_from levels ch es (e ∷ fs) ≡ length (started_frame levels ch es e)
      → (standing levels ch es e).sixteen ≡ true
      → Listens c levels ch es → each_of (undisturbed ch) (e ∷ fs) ≡ true
      → ReadBack c levels ch es (e ∷ fs) (sender_after levels ch es).holding
