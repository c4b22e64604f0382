-- Order 2: what `looped` and `Loops` suppose is met, and what they then say, computed: in local loopback a channel's receiver reads back what its own
-- transmitter sends, while RxDA is low; and in automatic echo what comes in on RxDA is read. Assumes nothing.
use Prim.Native.Nat.{ℕ, zero, suc}
use mathlib.Core.Path.{◌≡◌, refl, subst}
use mathlib.Core.Bool.{true}
use mathlib.Core.List.{List, [], ◌∷◌, ◌++◌}
use lib.ListN.{length}
use Rattle.format.specs.Format.{format_of}
use Rattle.frame.specs.Levels.{frame}
use Rattle.character.specs.Character.{clean}
use Rattle.sampler.specs.Lines.{at16}
use Rattle.events.specs.declared.events.Event.{Event}
use Rattle.events.specs.declared.events.Event.TheVariants.{Write, Pins}
use Rattle.chip_device.specs.declared.device.Device.{Device}
use Rattle.chip_device.specs.Device.{is_sound_of}
use Rattle.demands.specs.Chip.{each_of}
use Rattle.demands.specs.Chip.Channel.{A}
use Rattle.demands.specs.Told.{programmed, in_local}
use Rattle.demands.specs.Delivery.{lines_at, lines_from, fate_of, ledger_from, held}
use Rattle.demands.specs.Sending.{standing, inputs_at, inputs_from, sender_after, Starts, started_frame, pulses_from}
use Rattle.demands.specs.ReadBack.{Listens, undisturbed, carried, format_after, ReadBack}
use Rattle.demands.specs.Cases.{heard}
use Rattle.demands.specs.Loops.{with_mr2, Apart}
use Rattle.demands.proofs.ReadBack.{reads_back}
use Rattle.demands.proofs.Laws.Looks.{chip}
use Rattle.demands.proofs.Laws.Run.{run_at}
use Rattle.demands.proofs.Computing.{computing}

-- MR1 16, MR2 0 in local loopback, CSR code 14 (16X) for both, both enabled; one pulse; and 21 to send
abbrev about : List Event
about = Write 0 16 ∷ Write 0 128 ∷ Write 1 238 ∷ Write 2 5 ∷ Pins 247 ∷ Pins 255 ∷ Write 3 21 ∷ []

-- IP3 falls with RxDA low, and so many times more
abbrev falls : Event
falls = Pins 183

abbrev falls_on : ℕ → List Event
falls_on zero = []
falls_on (suc n) = Pins 191 ∷ falls ∷ falls_on n

pub record Looped : Type 0 where
  pub starts : Starts 255 A about falls
  pub local : in_local (programmed A about) ≡ true
  -- 16 pulses for the start and each of five data bits, and a stop of 17
  pub whole : pulses_from 255 A about (falls ∷ falls_on 112) ≡ length (started_frame 255 A about falls)
  pub sixteen : (standing 255 A about falls).sixteen ≡ true
  pub listens : Listens chip 255 A about
  pub undisturbed : each_of (undisturbed A) (falls ∷ falls_on 112) ≡ true
  pub holding : (sender_after 255 A about).holding ≡ 21

pub looped_example : Looped
unfolding computing lines_at lines_from fate_of ledger_from inputs_at inputs_from pulses_from
looped_example =
    record {
      starts = record { pulse = refl; mode = refl; startable = record { idle = refl; enabled = refl; full = refl; clear = refl } };
      local = refl;
      whole = refl;
      sixteen = refl;
      listens = record { idle = record { hunts = refl; high = refl }; enabled = refl; empty = refl };
      undisturbed = refl;
      holding = refl;
    }

-- so it is read back
pub looped_back : ReadBack chip 255 A about (falls ∷ falls_on 112) 21
looped_back =
    let x : Looped = looped_example in
    subst (λ (byte : ℕ). ReadBack chip 255 A about (falls ∷ falls_on 112) byte) x.holding
    (reads_back.looped 255 A about (falls_on 112) falls x.starts x.local x.whole x.sixteen x.listens x.undisturbed)

pub looped_held : held chip 255 A (about ++ falls ∷ falls_on 112) ≡ clean 21 ∷ []
unfolding computing
looped_held = looped_back.held

-- ---- automatic echo: "Demand 2's receiver is in normal mode or automatic echo" ----

-- MR1 16, MR2 0 in automatic echo, CSR code 14, the receiver enabled; one high
abbrev echoing : List Event
echoing = Write 0 16 ∷ Write 0 64 ∷ Write 1 238 ∷ Write 2 1 ∷ heard (true ∷ [])

abbrev arrives : List Event
arrives = heard (frame true (format_of 16) 0 21)

pub record Echoed : Type 0 where
  pub listens : Listens chip 255 A echoing
  pub undisturbed : each_of (undisturbed A) arrives ≡ true
  pub found : lines_from A 255 echoing arrives ≡ carried (at16 (format_after A echoing)) (frame true (format_after A echoing) 0 21)

pub echoed_example : Echoed
unfolding computing lines_at lines_from fate_of ledger_from heard
echoed_example =
    record {
      listens = record { idle = record { hunts = refl; high = refl }; enabled = refl; empty = refl };
      undisturbed = refl;
      found = refl;
    }

pub echoed_back : ReadBack chip 255 A echoing arrives 21
echoed_back = reads_back.frame 255 A echoing arrives 0 21 echoed_example.listens echoed_example.undisturbed echoed_example.found

-- ---- two devices that differ in MR2 bits 7-6 alone ----

abbrev in_loop : Device
in_loop = run_at 255 about

abbrev in_normal : Device
in_normal = record { front = with_mr2 A in_loop.front 0; a = in_loop.a; b = in_loop.b }

pub record Tied : Type 0 where
  pub loop : is_sound_of in_loop ≡ true
  pub normal : is_sound_of in_normal ≡ true
  pub apart : Apart A in_loop.front in_normal.front

pub tied : Tied
unfolding computing
tied = record { loop = refl; normal = refl; apart = record { local = refl; normal = refl; below = refl; same = refl } }
