-- The read-back shuts wrong chips out: the frame of 31 with 5 data bits, at 16X by the pins' clocks, as it is handed to receiver A, and as transmitter A
-- should send it. Assumes nothing.
use Prim.Native.Nat.{ℕ, suc, zero}
use mathlib.Core.Path.{◌≡◌, refl, sym, ◌∙◌, ap}
use mathlib.Core.Bool.{Bool, true, not, ◌&&◌}
use mathlib.Core.List.{List, [], ◌∷◌, ◌++◌}
use native.Mathlib.Omega.{arith}
use lib.ListN.{length, get_or, replicate}
use Rattle.format.specs.Digits.{cut_of}
use Rattle.format.specs.declared.format.Format.{Format}
use Rattle.format.specs.Pick.{pick}
use Rattle.format.specs.Format.{format_of}
use Rattle.format.specs.Parity.{has_parity_of}
use Rattle.frame.specs.Levels.{frame}
use Rattle.sampler.specs.Lines.{at16, arrivals}
use Rattle.character.specs.declared.character.Character.{Character}
use Rattle.character.specs.Character.{no_character}
use Rattle.receiver.proofs.Wrong.{keeps_nothing}
use Rattle.events.specs.declared.events.Event.{Event}
use Rattle.events.specs.declared.events.Event.TheVariants.{Write, Pins}
use Rattle.demands.specs.Chip.{each_of, and_then}
use Rattle.demands.specs.Chip.Channel.{A}
use Rattle.demands.specs.Delivery.{lines_at, lines_from, fate_of, ledger_from, ledger, held_for, held}
use Rattle.demands.specs.Told.{programmed, in_normal}
use Rattle.demands.specs.Sending.{inputs_at, inputs_from, sender_after, standing, Starts, started_frame, keeps_from, pulses_from, sent_from}
use Rattle.demands.specs.ReadBack.{Listens, undisturbed, carried, format_after, SameFormat, ReadBack, ReadsBack}
use Rattle.demands.specs.Cases.{heard}
use Rattle.demands_shut_out.proofs.Chips.{chip_with, cuts_short, never_sends, falls}
use Rattle.demands.proofs.ReadBack.{sent_equal}
use Rattle.demands.proofs.Laws.Formats.{none_same}
use Rattle.demands.proofs.Computing.{computing}

-- ---- the events ----

-- MR1 16, CSR code 14, and the receiver enabled; then one high
abbrev listening : List Event
listening = Write 0 16 ∷ Write 1 238 ∷ Write 2 1 ∷ heard (true ∷ [])

abbrev handed : List Event
handed = heard (frame true (format_of 16) 0 31)

-- as many pulses that find the line high
abbrev highs : List Event
highs = heard (replicate 113 true)

-- MR1 16, MR2 0, CSR code 14, the transmitter enabled, and 31 to send
abbrev about : List Event
about = Write 0 16 ∷ Write 0 0 ∷ Write 1 238 ∷ Write 2 4 ∷ Write 3 31 ∷ []

-- IP3 falls again, so many times
abbrev falls_on : ℕ → List Event
falls_on zero = []
falls_on (suc n) = Pins 255 ∷ falls ∷ falls_on n

-- MR1 bit 2 is taken for a parity bit forced high where none is chosen
abbrev forces_always : Format → ℕ → ℕ → List Bool
forces_always f code x =
    frame true (pick (not (has_parity_of f) && f.odd) (record { width = f.width; parity = 1; odd = true }) f) code x

-- ---- what they make ----

record Computed : Type 0 where
  quiet : each_of (undisturbed A) handed ≡ true
  cut : cut_of (format_after A listening).width.0 31 ≡ 31
  listens_keeps_nothing : Listens (chip_with keeps_nothing) 255 A listening
  listens_cuts_short : Listens cuts_short 255 A listening
  carries : lines_from A 255 listening handed ≡ carried (at16 (format_after A listening)) (frame true (format_after A listening) 0 31)
  held_keeps_nothing : held (chip_with keeps_nothing) 255 A (listening ++ handed) ≡ []
  held_cuts_short : (get_or (held cuts_short 255 A (listening ++ handed)) 0 no_character).byte ≡ 15
  starts : Starts 255 A about falls
  normal : in_normal (programmed A about) ≡ true
  keeps : keeps_from A (and_then about falls) (falls_on 112) ≡ true
  sixteen : (standing 255 A about falls).sixteen ≡ true
  format : format_after A about ≡ format_after A listening
  quiet_highs : each_of (undisturbed A) highs ≡ true
  listens_never_sends : Listens never_sends 255 A listening
  carries_highs : lines_from A 255 listening highs ≡ carried (at16 (format_after A listening)) (replicate 113 true)
  sent_never_sends : sent_from never_sends 255 A about (falls ∷ falls_on 112) ≡ replicate 113 true
  none : arrivals (ledger A 255 listening).sampler (carried (at16 (format_after A listening)) (replicate 113 true)) ≡ []
  whole : pulses_from 255 A about (falls ∷ falls_on 112) ≡ length (started_frame 255 A about falls)

computed : Computed
unfolding computing lines_at lines_from fate_of ledger_from held_for heard keeps_nothing inputs_at inputs_from keeps_from pulses_from sent_from arrivals
computed =
    record {
      quiet = refl;
      cut = refl;
      listens_keeps_nothing = record { idle = record { hunts = refl; high = refl }; enabled = refl; empty = refl };
      listens_cuts_short = record { idle = record { hunts = refl; high = refl }; enabled = refl; empty = refl };
      carries = refl;
      held_keeps_nothing = refl;
      held_cuts_short = refl;
      starts = record { pulse = refl; mode = refl; startable = record { idle = refl; enabled = refl; full = refl; clear = refl } };
      normal = refl;
      keeps = refl;
      sixteen = refl;
      format = refl;
      quiet_highs = refl;
      listens_never_sends = record { idle = record { hunts = refl; high = refl }; enabled = refl; empty = refl };
      carries_highs = refl;
      sent_never_sends = refl;
      none = refl;
      whole = refl;
    }

-- ---- shut out ----

-- "with the same format": "10 none; 2 odd, or forced high": without parity the frame does not hang on bit 2
pub no_forces_always : ((f g : Format) (code x : ℕ) → SameFormat f g → forces_always f code x ≡ forces_always g code x) → ⊥
unfolding computing
no_forces_always h =
    let z : ◌≡◌ {A = ℕ} 129 113 = ap length (h (format_of 20) (format_of 16) 0 31 (none_same 20 16 refl refl refl)) in
    omega arith

-- nothing is kept
pub no_keeps_nothing : ReadsBack (chip_with keeps_nothing) → ⊥
no_keeps_nothing h =
    let x : ReadBack (chip_with keeps_nothing) 255 A listening handed 31 =
    h.frame 255 A listening handed 0 31 computed.listens_keeps_nothing computed.quiet computed.carries
    in
    let z : ◌≡◌ {A = ℕ} 0 1 = ap length (sym computed.held_keeps_nothing ∙ x.held) in
    omega arith

-- nothing is sent: what its pulses find on TxD makes no character
pub no_never_sends : ReadsBack never_sends → ⊥
no_never_sends h =
    let x : ReadBack never_sends 255 A listening highs (sender_after 255 A about).holding =
    sent_equal never_sends h 255 255 A A about (falls_on 112) listening highs falls computed.starts computed.normal computed.keeps computed.whole
    computed.sixteen computed.format computed.listens_never_sends computed.quiet_highs
    (computed.carries_highs ∙ ap (carried (at16 (format_after A listening))) (sym computed.sent_never_sends))
    in
    let z : ◌≡◌ {A = ℕ} 0 1 =
    ap length (sym computed.none ∙ ap (arrivals (ledger A 255 listening).sampler) (sym computed.carries_highs) ∙ x.one)
    in
    omega arith

-- "cut to its data bits", and no shorter
pub no_cuts_short : ReadsBack cuts_short → ⊥
no_cuts_short h =
    let x : ReadBack cuts_short 255 A listening handed 31 =
    h.frame 255 A listening handed 0 31 computed.listens_cuts_short computed.quiet computed.carries
    in
    let z : ◌≡◌ {A = ℕ} 15 31 =
    sym computed.held_cuts_short ∙ ap (λ (l : List Character). (get_or l 0 no_character).byte) x.held ∙ computed.cut
    in
    omega arith
