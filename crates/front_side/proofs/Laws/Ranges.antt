-- All that is done to a side keeps it in range, from any that is, reached or not: each rule changes one part, by that part's own law, or leaves
-- it alone. What the receiver is handed is then in range too. Assumes nothing.
use Prim.Native.Nat.{ℕ}
use mathlib.Core.Path.{◌≡◌, refl}
use mathlib.Core.Bool.{Bool, true, false, not, and-eq-true_iff}
use borrow.Author.Tests.{not-true}
use Rattle.format.specs.Format.{mr1_not_modelled, mr2_not_modelled}
use Rattle.format.specs.Pick.{pick}
use Rattle.clocks.specs.Sound.{phases_in_range}
use Rattle.clocks.proofs.Laws.Ranges.{restarted_in_range, restarted_on_change_kept}
use Rattle.feed.specs.declared.feed.Feed.{Feed}
use Rattle.feed.specs.Ranges.{feed_in_range}
use Rattle.transmitter.specs.declared.transmitter.Input.{Input}
use Rattle.transmitter.specs.Sound.{transmitter_in_range}
use Rattle.transmitter.specs.Transmitter.{after_input}
use Rattle.transmitter.proofs.Laws.Ranges.{ranges_kept}
use Rattle.front_side.specs.declared.side.Side.{Side}
use Rattle.front_side.specs.Side.{fresh_side, with_modes, with_enabled, with_echo, with_transmitter, mode_not_modelled, mode_written, csr_written, set_changed, buffer_written}
use Rattle.front_side.specs.Sound.{side_in_range}

-- the ranges, a part a field
pub record SideWithin (s : Side) : Type 0 where
  pub mr1 : mr1_not_modelled s.mr1 ≡ false
  pub mr2 : mr2_not_modelled s.mr2 ≡ false
  pub transmitter : transmitter_in_range s.transmitter ≡ true
  pub phases : phases_in_range s.phases ≡ true

-- a side, and what its receiver is handed with it
pub record HandsWithin (s : Side) (e : Feed) : Type 0 where
  pub side : SideWithin s
  pub feed : feed_in_range e ≡ true

pub side_told : (s : Side) → side_in_range s ≡ true → SideWithin s
side_told s e =
    let a = (and-eq-true_iff (not (mr1_not_modelled s.mr1)) _).0 e in
    let b = (and-eq-true_iff (not (mr2_not_modelled s.mr2)) _).0 a.1 in
    let c = (and-eq-true_iff (transmitter_in_range s.transmitter) _).0 b.1 in
    record { mr1 = not-true _ a.0; mr2 = not-true _ b.0; transmitter = c.0; phases = c.1 }

pub side_shown : (s : Side) → SideWithin s → side_in_range s ≡ true
side_shown s h = rw (h.mr1, h.mr2, h.transmitter, h.phases)

-- ---- what a program writes ----

pub fresh_side_within : SideWithin fresh_side
unfolding fresh_side
fresh_side_within = record { mr1 = refl; mr2 = refl; transmitter = refl; phases = restarted_in_range }

-- another pointer, another enable and another echoed level
pub pointed_within : (s : Side) (moved enabled echo : Bool) → SideWithin s
    → SideWithin (with_modes (with_echo (with_enabled s enabled) echo) s.mr1 s.mr2 moved)
pointed_within s moved enabled echo h = record { mr1 = h.mr1; mr2 = h.mr2; transmitter = h.transmitter; phases = h.phases }

pub mode_written_within : (s : Side) (byte : ℕ) → mode_not_modelled s byte ≡ false → SideWithin s → SideWithin (mode_written s byte)
unfolding mode_not_modelled mode_written pick
mode_written_within s byte e h = go s.moved e
  where
    go : (t : Bool) → pick t (mr2_not_modelled byte) (mr1_not_modelled byte) ≡ false
        → SideWithin (pick t (with_modes s s.mr1 byte s.moved) (with_modes s byte s.mr2 true))
    go true e = record { mr1 = h.mr1; mr2 = e; transmitter = h.transmitter; phases = h.phases }
    go false e = record { mr1 = e; mr2 = h.mr2; transmitter = h.transmitter; phases = h.phases }

pub csr_written_within : (s : Side) (byte : ℕ) → SideWithin s → SideWithin (csr_written s byte)
unfolding csr_written
csr_written_within s byte h = record { mr1 = h.mr1; mr2 = h.mr2; transmitter = h.transmitter; phases = restarted_in_range }

pub set_changed_within : (s : Side) (before after : ℕ) → SideWithin s → SideWithin (set_changed s before after)
unfolding set_changed
set_changed_within s before after h =
    record {
      mr1 = h.mr1;
      mr2 = h.mr2;
      transmitter = h.transmitter;
      phases = restarted_on_change_kept s.phases before after h.phases;
    }

-- a byte into the transmit buffer is one of the transmitter's inputs
pub input_within : (s : Side) (x : Input) → SideWithin s → SideWithin (with_transmitter s (after_input s.transmitter x))
input_within s x h = record { mr1 = h.mr1; mr2 = h.mr2; transmitter = ranges_kept s.transmitter x h.transmitter; phases = h.phases }

pub buffer_written_within : (s : Side) (byte : ℕ) → SideWithin s → SideWithin (buffer_written s byte)
unfolding buffer_written
buffer_written_within s byte h = input_within s _ h
