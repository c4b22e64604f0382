-- A whole poll at once: a list of events, one by one, up to and including the first that is refused. Assumes nothing.
use Rattle.std.specs.Prelude.{ℕ, suc, Bool, not, List, [], ◌∷◌, length, eqb, ltb}
use Rattle.format.specs.Pick.{pick}
use Rattle.chip_device.specs.declared.device.Device.{Device}
use Rattle.chip_device.specs.Device.{is_sound_of}
use Rattle.chip_step.specs.declared.chip.Answer.{Answer}
use Rattle.records.specs.declared.records.EventRecord.{EventRecord}
use Rattle.records.specs.declared.records.Seen.{Seen}
use Rattle.records.specs.Records.{seen_of}
use Rattle.poll.specs.Step.{single_of}
use Rattle.poll.specs.declared.polling.Polled.{Polled}

-- "The answer has the number, the data byte (0 where none is read), IRQ (1 when asserted), TxDA, TxDB, the OP0-OP7
-- levels and the new state."; order 1: "The receive buffer read shall also say fresh or stale"
abbrev pub seen_in : Answer → Seen
seen_in a = seen_of a.number a.byte a.fresh a.lines

abbrev pub is_refused : Answer → Bool
is_refused a = not (eqb a.number 0)

-- order 5: "Refusals, in this order and before any event: 1, 8 for answer space shorter than the list, 9 for a list ..
-- over its limit"
unfoldable pub poll_refusal : Device → ℕ → ℕ → ℕ
poll_refusal d listed space = pick (is_sound_of d) (pick (ltb space listed) 8 (pick (ltb 4096 listed) 9 0)) 1

-- how many answers are written, the last state, and what the space for the answers then holds
pub record After : Type 0 where
  pub count : ℕ
  pub state : Device
  pub answers : List Seen

-- "nothing is written and the count is 0"
abbrev pub untouched : Device → List Seen → After
untouched d xs = record { count = 0; state = d; answers = xs }

-- one more answer, at the front
abbrev pub more : Seen → After → After
more x r = record { count = suc r.count; state = r.state; answers = x ∷ r.answers }

-- a list of events, by any single step: "It ends at the first refused event; answers up to and including that one are
-- written, later ones stay, the count says how many were written". (It ends where no room is left, too; a call with
-- less room than events is refused.)
unfoldable pub poll_from : (Device → EventRecord → Answer) → Device → List EventRecord → List Seen → After
poll_from step d [] xs = untouched d xs
poll_from step d (e ∷ es) [] = untouched d []
poll_from step d (e ∷ es) (x ∷ xs) =
    more (seen_in (step d e))
    (pick (is_refused (step d e)) (untouched (step d e).state xs) (poll_from step (step d e).state es xs))

-- a call that is not refused: "equal to the same events one by one"
unfoldable pub after_poll : Device → List EventRecord → List Seen → After
after_poll d es xs =
    pick (eqb (poll_refusal d (length es) (length xs)) 0) (poll_from single_of d es xs) (untouched d xs)

unfoldable pub polled_of : Device → List EventRecord → List Seen → Polled
polled_of d es xs =
    record {
      number = poll_refusal d (length es) (length xs);
      count = (after_poll d es xs).count;
      state = (after_poll d es xs).state;
    }

abbrev pub answers_after : Device → List EventRecord → List Seen → List Seen
answers_after d es xs = (after_poll d es xs).answers
