-- What is said of a receiver shuts wrong chips out: a law is taken at a few events, where what the wrong one gives and what the law says are computed,
-- and differ. Assumes nothing.
use Prim.Native.Nat.{ℕ, ◌+◌, ◌/◌, ◌%◌}
use mathlib.Core.Path.{refl, sym, ap}
use mathlib.Core.Bool.{Bool, false, ◌&&◌, true≢false}
use mathlib.Core.List.{List, [], ◌∷◌, ◌++◌}
use borrow.Author.Tests.{eqb-false}
use lib.Dec.{eqb}
use lib.ListN.{replicate}
use Rattle.format.specs.Format.{format_of}
use Rattle.format.specs.Pick.{pick}
use Rattle.frame.specs.Levels.{frame}
use Rattle.receiver.specs.Receiver.{fed_of}
use Rattle.receiver.specs.Delivery as Receivers
use Rattle.character.specs.declared.character.Marks.{Marks}
use Rattle.character.specs.Character.{no_marks}
use Rattle.receiver_state.specs.declared.arrivals.Receiver.{Receiver}
use Rattle.receiver_state.specs.Arrivals.{with_change}
use Rattle.events.specs.declared.events.Event.{Event}
use Rattle.events.specs.declared.events.Event.TheVariants.{Read}
use Rattle.chip_laws.specs.Lists.{Seen}
use Rattle.chip_laws.specs.Table.{Step}
use Rattle.chip_laws.proofs.Wrong.{is_read_of}
use Rattle.demands.specs.Chip.{chip_of}
use Rattle.demands.specs.Chip.Channel.{A}
use Rattle.demands.specs.Delivery.{lines_at, fate_of, ledger_from, held_for}
use Rattle.demands.specs.Received.{last_from, sums_from, change_from, Received}
use Rattle.demands.specs.Cases.{heard}
use Rattle.demands_shut_out.proofs.Chips.{chip_with, hides_marks, leads_to, shown_by, heard_at}
use Rattle.demands.proofs.Computing.{computing}

-- ---- more that are wrong ----

-- "break change set": it never is
abbrev no_change : Receivers.Step
no_change r e = record { receiver = with_change (fed_of r e).receiver false; byte = (fed_of r e).byte; fresh = (fed_of r e).fresh }

-- a receiver with other sums, and another last byte read
abbrev with_sums : Receiver → Marks → ℕ → Receiver
with_sums r sums last = record { sampler = r.sampler; queue = r.queue; overrun = r.overrun; sums = sums; change = r.change; last = last }

-- "Block: the marks, each bit ORed, of all that became oldest": none
abbrev no_sums : Receivers.Step
no_sums r e = let x : Receiver = (fed_of r e).receiver in record { receiver = with_sums x no_marks x.last; byte = (fed_of r e).byte; fresh = (fed_of r e).fresh }

-- "reading an empty queue repeats the last byte read": it answers 0
abbrev forgets_last : Receivers.Step
forgets_last r e = let x : Receiver = (fed_of r e).receiver in record { receiver = with_sums x x.sums 0; byte = (fed_of r e).byte; fresh = (fed_of r e).fresh }

-- the same: it repeats the byte once, and answers 0 from then on
abbrev repeats_once : Step
repeats_once =
    leads_to
    (λ d e x. pick (is_read_of 3 e && eqb d.a.queue.count 0)
    (record { front = x.front; a = with_sums x.a x.a.sums 0; b = x.b })
    x)

-- "FFULL: three in the queue.": A's SR bit 1 is set by two
abbrev full_at_two : Step
full_at_two = shown_by (λ d n byte. pick (eqb n 1 && eqb d.a.queue.count 2) (byte + 2) byte)

-- "Character errors: SR 7-5 show the oldest's marks": A's are 0 then; block errors are shown
abbrev hides_character_marks : Step
hides_character_marks = shown_by (λ d n byte. pick (eqb n 1 && eqb (d.front.a.mr1 / 32 % 2) 0) (byte % 32) byte)

-- ---- the events ----

abbrev breaks : ℕ → List Event
breaks mr1 = heard_at mr1 (replicate 7 false)

abbrev one : List Bool
one = frame false (format_of 16) 7 1

-- ---- shut out ----

pub record WrongReceived : Type 0 where
  pub no_no_change : Received (chip_with no_change) → ⊥
  pub no_no_sums : Received (chip_with no_sums) → ⊥
  pub no_forgets_last : Received (chip_with forgets_last) → ⊥
  pub no_repeats_once : Received (chip_of repeats_once) → ⊥
  pub no_full_at_two : Received (chip_of full_at_two) → ⊥
  pub no_hides_character_marks : Received (chip_of hides_character_marks) → ⊥
  pub no_hides_marks : Received hides_marks → ⊥

pub wrong_received : WrongReceived
unfolding computing lines_at fate_of ledger_from held_for last_from sums_from change_from heard
wrong_received =
    record {
      no_no_change = λ h. true≢false (sym (h.change 255 A (breaks 16)));
      no_no_sums = λ h. true≢false (sym (ap (λ (x : Marks). x.broken) (h.block 255 A (breaks 48) refl)));
      no_forgets_last = λ h. eqb-false 0 1 refl (h.repeats 255 A (heard_at 16 one ++ Read 3 ∷ []) refl);
      no_repeats_once = λ h. eqb-false 0 1 refl (ap (λ (x : Seen). x.byte) (h.nothing 255 A (heard_at 16 one ++ Read 3 ∷ []) [] (Read 3) refl));
      no_full_at_two = λ h. true≢false (h.full 255 A (heard_at 16 (one ++ one)));
      no_hides_character_marks = λ h. true≢false (sym (ap (λ (x : Marks). x.broken) (h.character 255 A (breaks 16) refl)));
      no_hides_marks = λ h. true≢false (sym (ap (λ (x : Marks). x.broken) (h.character 255 A (breaks 16) refl)));
    }
