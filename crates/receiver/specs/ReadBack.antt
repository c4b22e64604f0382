-- Demand 2: "A frame the transmitter sends is read back by an idle, enabled, empty, undisturbed receiver with the
-- same format and 16X pulses as the same character, cut to its data bits, without an error mark." Assumes nothing.
use Rattle.std.specs.Prelude.{ℕ, ◌≤◌, ◌≡◌, Bool, true, List, [], ◌∷◌, ◌++◌}
use Rattle.format.specs.declared.format.Format.{Format}
use Rattle.format.specs.Digits.{cut_of}
use Rattle.frame.specs.Levels.{before_stop, levels}
use Rattle.character.specs.declared.character.Character.{Character}
use Rattle.character.specs.Character.{clean}
use Rattle.sampler_state.specs.declared.state.Sampler.{Sampler}
use Rattle.feed.specs.declared.feed.Setting.{Setting}
use Rattle.sampler.specs.Lines.{at16, after_lines, arrivals}
use Rattle.queue.specs.Queue.{held_of}
use Rattle.receiver_state.specs.declared.arrivals.Receiver.{Receiver}
use Rattle.feed.specs.declared.feed.Feed.{Feed}
use Rattle.feed.specs.declared.feed.Feed.TheVariants.{Pulse, Read}
use Rattle.receiver.specs.Delivery.{lines_over, Step, Show, after, given}

-- levels, one a pulse
abbrev pub pulses : Setting → List Bool → List Feed
pulses f [] = []
pulses f (level ∷ ls) = Pulse level f ∷ pulses f ls

-- the frame of byte `x` in a format, with a stop of `n` sixteenths, as feeds
abbrev pub sent : Format → ℕ → ℕ → List Feed
sent f n x = pulses (at16 f) (levels 16 n (before_stop f x))

-- frames back to back
abbrev pub sent_all : Format → ℕ → List ℕ → List Feed
sent_all f n [] = []
sent_all f n (x ∷ xs) = sent f n x ++ sent_all f n xs

-- "it is idle while it hunts and its last sample was high"
pub record Idle (s : Sampler) : Type 0 where
  pub hunts : s.phase ≡ 0
  pub high : s.high ≡ true

abbrev pub clean_cuts : Format → List ℕ → List Character
clean_cuts f [] = []
clean_cuts f (x ∷ xs) = clean (cut_of f.width.0 x) ∷ clean_cuts f xs

-- Exactly one character arrives, the byte cut to its data bits and without a mark; it is the one held; a read gives it,
-- and SR shows no mark before it; overrun and break change are as they were; the receiver is idle again.
pub record ReadBack (step : Step) (show : Show) (f : Format) (n x : ℕ) (r : Receiver) : Type 0 where
  pub one : arrivals r.sampler (lines_over (sent f n x)) ≡ clean (cut_of f.width.0 x) ∷ []
  pub held : held_of (after step r (sent f n x)).queue ≡ clean (cut_of f.width.0 x) ∷ []
  pub reading : given step show (after step r (sent f n x)) Read ≡ clean (cut_of f.width.0 x) ∷ []
  pub overrun : (after step r (sent f n x)).overrun ≡ r.overrun
  pub change : (after step r (sent f n x)).change ≡ r.change
  pub idle : Idle (after step r (sent f n x)).sampler

-- a receiver that reads back: any width that MR1 can choose, any parity, any stop of 9 sixteenths or more, any byte
abbrev pub ReadsBack : Step → Show → Type 0
ReadsBack step show =
    (f : Format) (n x : ℕ) (r : Receiver) → f.width.0 ≤ 8 → 9 ≤ n → Idle r.sampler → held_of r.queue ≡ []
    → ReadBack step show f n x r

-- Frames back to back: each byte arrives once, in order, cut to its data bits and without a mark, and the sampler is
-- idle again.
pub record ReadBackAll (f : Format) (n : ℕ) (xs : List ℕ) (s : Sampler) : Type 0 where
  pub each : arrivals s (lines_over (sent_all f n xs)) ≡ clean_cuts f xs
  pub idle : Idle (after_lines s (lines_over (sent_all f n xs)))
