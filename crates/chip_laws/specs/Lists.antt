-- The chip over list queues: what is held is a list, the oldest first, "At most four are ever held." (demand 3). It
-- shares the front, the lines and the data byte with the chip as laid out, and differs in its receivers alone. Assumes
-- nothing.
use Rattle.std.specs.Prelude.{ℕ, ◌≡◌, Bool, true, false, not, ◌&&◌, ◌||◌, List, [], ◌∷◌, eqb, leb, length}
use Rattle.std.specs.Prelude.{Option, None, Some}
use Rattle.format.specs.Pick.{pick}
use Rattle.character.specs.declared.character.Character.{Character}
use Rattle.character.specs.declared.character.Marks.{Marks}
use Rattle.character.specs.Character.{no_marks, or_marks}
use Rattle.sampler_state.specs.declared.state.Sampler.{Sampler}
use Rattle.sampler_state.specs.State.{hunting}
use Rattle.sampler_hunting.specs.declared.hunting.Sampled.{Sampled}
use Rattle.sampler.specs.Sampler.{sample_of}
use Rattle.sampler.specs.Sound.{sampler_in_range}
use Rattle.queue.specs.Queue.{put, waits, without_waiting, top_marks, top_unmarked, held_of}
use Rattle.receiver_state.specs.declared.arrivals.Receiver.{Receiver}
use Rattle.feed.specs.declared.feed.Effect.{Effect}
use Rattle.feed.specs.declared.feed.Effect.TheVariants.{NoEffect, Reset, ClearErrors, ClearBreakChange}
use Rattle.feed.specs.declared.feed.Enabling.{Enabling}
use Rattle.feed.specs.declared.feed.Enabling.TheVariants.{Stays, Enables, Disables}
use Rattle.receiver_status.specs.declared.status.Status.{Status}
use Rattle.feed.specs.declared.feed.Feed.{Feed}
use Rattle.feed.specs.declared.feed.Feed.TheVariants as Feeds
use Rattle.chip_shown.specs.declared.shown.Shown.{Shown}
use Rattle.chip_shown.specs.Shown.{block_errors, shown_of}
use Rattle.front.specs.declared.front.Front.{Front}
use Rattle.front.specs.declared.front.Handed.{Handed}
use Rattle.front.specs.Sound.{front_in_range}
use Rattle.events.specs.declared.events.Event.{Event}
use Rattle.events.specs.declared.events.Event.TheVariants.{ChipReset, Read, Write, Acknowledge, Pins, Tick}
use Rattle.front_events.specs.FrontEvents.{front_stepped}
use Rattle.chip_answers.specs.declared.answers.Lines.{Lines}
use Rattle.chip_answers.specs.Answers.{asserted_of, lines_of, no_lines, event_data, event_fresh}
use Rattle.chip_device.specs.declared.device.Device.{Device}
use Rattle.chip_step.specs.declared.chip.Answer.{Answer}
use Rattle.chip_device.specs.Device.{is_sound_of}
use Rattle.chip_refusals.specs.Rows.{register_above15, forbidden_read, forbidden_command, setting_not_modelled}
use Rattle.chip_refusals.specs.Refusals.{six_rows}
use Rattle.chip_laws.specs.Table.{Step}

-- ---- a receiver that holds a list ----

pub record ListReceiver : Type 0 where
  pub sampler : Sampler
  pub held : List Character
  pub overrun : Bool
  pub sums : Marks
  pub change : Bool
  pub last : ℕ

pub record ListFed : Type 0 where
  pub receiver : ListReceiver
  pub byte : ℕ
  pub fresh : Bool

abbrev pub fresh_list : ListReceiver
fresh_list = record { sampler = hunting false; held = []; overrun = false; sums = no_marks; change = false; last = 0 }

-- "A confirmed start while one waits removes the waiting one and sets overrun."
unfoldable pub list_started : ListReceiver → Bool → ListReceiver
list_started r true =
    record {
      sampler = r.sampler;
      held = without_waiting r.held;
      overrun = r.overrun || waits r.held;
      sums = r.sums;
      change = r.change;
      last = r.last;
    }
list_started r false = r

-- what became oldest joins the sums
unfoldable pub summed : List Character → Marks → Character → Marks
summed [] sums c = or_marks sums c.marks
summed (x ∷ h) sums c = sums

-- "An arrival goes to the queue of three, or waits when that is full."
unfoldable pub list_arrived : ListReceiver → Option Character → ListReceiver
list_arrived r None = r
list_arrived r (Some c) =
    record {
      sampler = r.sampler;
      held = put r.held c;
      overrun = r.overrun;
      sums = summed r.held r.sums c;
      change = r.change;
      last = r.last;
    }

unfoldable pub list_answered : ListReceiver → Sampled → ListReceiver
list_answered r m =
    list_arrived
    (list_started
    (record {
      sampler = m.next;
      held = r.held;
      overrun = r.overrun;
      sums = r.sums;
      change = r.change || m.change;
      last = r.last;
    })
    m.started)
    m.came

-- "Disable drops the character being put together and ends the wait for a break's end, no more."
abbrev pub list_dropped : ListReceiver → ListReceiver
list_dropped r =
    record {
      sampler = hunting false;
      held = r.held;
      overrun = r.overrun;
      sums = r.sums;
      change = r.change;
      last = r.last;
    }

unfoldable pub list_effect : ListReceiver → Effect → ListReceiver
list_effect r NoEffect = r
list_effect r Reset =
    record {
      sampler = hunting false;
      held = [];
      overrun = r.overrun;
      sums = r.sums;
      change = r.change;
      last = r.last;
    }
list_effect r ClearErrors =
    record {
      sampler = r.sampler;
      held = top_unmarked r.held;
      overrun = false;
      sums = no_marks;
      change = r.change;
      last = r.last;
    }
list_effect r ClearBreakChange =
    record {
      sampler = r.sampler;
      held = r.held;
      overrun = r.overrun;
      sums = r.sums;
      change = false;
      last = r.last;
    }

unfoldable pub list_enabling : ListReceiver → Enabling → ListReceiver
list_enabling r Stays = r
list_enabling r Enables = list_dropped r
list_enabling r Disables = list_dropped r

-- "A read takes the oldest and moves the waiting one up; reading an empty queue repeats the last byte read (0 after a
-- chip reset) and takes nothing." Order 1: "fresh exactly when RxRDY was set before it".
unfoldable pub list_read : ListReceiver → List Character → ListFed
list_read r [] = record { receiver = r; byte = r.last; fresh = false }
list_read r (c ∷ h) =
    record {
      receiver =
          record {
            sampler = r.sampler;
            held = h;
            overrun = r.overrun;
            sums = or_marks r.sums (top_marks h);
            change = r.change;
            last = c.byte;
          };
      byte = c.byte;
      fresh = true;
    }

abbrev pub list_unread : ListReceiver → ListFed
list_unread r = record { receiver = r; byte = 0; fresh = false }

unfoldable pub list_fed_of : ListReceiver → Feed → ListFed
list_fed_of r Feeds.Nothing = list_unread r
list_fed_of r (Feeds.Pulse level f) = list_unread (list_answered r (sample_of r.sampler level f))
list_fed_of r (Feeds.Command e t) = list_unread (list_enabling (list_effect r e) t)
list_fed_of r Feeds.Read = list_read r r.held
list_fed_of r Feeds.ChipReset = list_unread fresh_list

-- "RxRDY: queue not empty. FFULL: three in the queue."
abbrev pub list_status : ListReceiver → Bool → Status
list_status r block =
    record {
      marks = pick block r.sums (top_marks r.held);
      overrun = r.overrun;
      full = leb 3 (length r.held);
      ready = not (eqb (length r.held) 0);
    }

-- "the waiting place used only with three characters held and no confirmed start under way": a fourth is the one that
-- waits
abbrev pub list_sound : ListReceiver → Bool
list_sound r =
    (sampler_in_range r.sampler && leb (length r.held) 4)
    && (not (waits r.held) || not (eqb r.sampler.phase 2))

-- ---- the chip ----

pub record ListDevice : Type 0 where
  pub front : Front
  pub a : ListReceiver
  pub b : ListReceiver

-- an answer less its state, and with it
pub record Seen : Type 0 where
  pub number : ℕ
  pub byte : ℕ
  pub fresh : Bool
  pub lines : Lines

pub record ListAnswer : Type 0 where
  pub seen : Seen
  pub state : ListDevice

abbrev pub list_is_sound : ListDevice → Bool
list_is_sound d = front_in_range d.front && (list_sound d.a && list_sound d.b)

abbrev pub list_shown_a : ListDevice → Shown
list_shown_a d = shown_of d.front.a (list_status d.a (block_errors d.front.a)) d.a.change

abbrev pub list_shown_b : ListDevice → Shown
list_shown_b d = shown_of d.front.b (list_status d.b (block_errors d.front.b)) d.b.change

abbrev pub list_lines : ListDevice → Lines
list_lines d = lines_of d.front (list_shown_a d) (list_shown_b d)

unfoldable pub list_next : ListDevice → Event → ListDevice
list_next d e =
    let h : Handed = front_stepped d.front e in
    record { front = h.front; a = (list_fed_of d.a h.a).receiver; b = (list_fed_of d.b h.b).receiver }

unfoldable pub list_byte : ListDevice → Event → ℕ
list_byte d e =
    let h : Handed = front_stepped d.front e in
    event_data d.front (list_shown_a d) (list_shown_b d) (list_fed_of d.a h.a).byte (list_fed_of d.b h.b).byte e

unfoldable pub list_fresh : ListDevice → Event → Bool
list_fresh d e =
    let h : Handed = front_stepped d.front e in
    event_fresh (list_fed_of d.a h.a).fresh (list_fed_of d.b h.b).fresh e

unfoldable pub list_unasserted : ListDevice → Event → Bool
list_unasserted d ChipReset = false
list_unasserted d (Read n) = false
list_unasserted d (Write n byte) = false
list_unasserted d Acknowledge = not (asserted_of d.front (list_shown_a d) (list_shown_b d))
list_unasserted d (Pins levels) = false
list_unasserted d Tick = false

-- the table of answers
unfoldable pub list_number : ListDevice → Event → ℕ
list_number d e =
    six_rows (not (list_is_sound d)) (register_above15 e) (forbidden_read e) (forbidden_command e)
    (setting_not_modelled d.front e) (list_unasserted d e)
    (pick (not (list_is_sound (list_next d e))) 7 0)

unfoldable pub list_refused : ListDevice → ℕ → ListAnswer
list_refused d n =
    record {
      seen = record { number = n; byte = 0; fresh = false; lines = pick (eqb n 1) no_lines (list_lines d) };
      state = d;
    }

unfoldable pub list_step_of : ListDevice → Event → ListAnswer
list_step_of d e =
    pick (eqb (list_number d e) 0)
    (record {
      seen = record { number = 0; byte = list_byte d e; fresh = list_fresh d e; lines = list_lines (list_next d e) };
      state = list_next d e;
    })
    (list_refused d (list_number d e))

-- ---- the statement ----

-- the lists that a layout means
abbrev pub list_of : Receiver → ListReceiver
list_of r =
    record {
      sampler = r.sampler;
      held = held_of r.queue;
      overrun = r.overrun;
      sums = r.sums;
      change = r.change;
      last = r.last;
    }

abbrev pub lists_of : Device → ListDevice
lists_of d = record { front = d.front; a = list_of d.a; b = list_of d.b }

abbrev pub seen_of : Answer → Seen
seen_of x = record { number = x.number; byte = x.byte; fresh = x.fresh; lines = x.lines }

-- what is seen of a list of events
unfoldable pub all_seen : Step → Device → List Event → List Seen
all_seen step d [] = []
all_seen step d (e ∷ es) = seen_of (step d e) ∷ all_seen step (step d e).state es

unfoldable pub list_all_seen : (ListDevice → Event → ListAnswer) → ListDevice → List Event → List Seen
list_all_seen step d [] = []
list_all_seen step d (e ∷ es) = (step d e).seen ∷ list_all_seen step (step d e).state es

-- A laid-out chip and one over lists (it is proved of `step_of` and `list_step_of`) give the same answers, less the
-- states, to every event on a sound device and to every list of events; and the new state means the other's new state.
-- An unsound layout need not mean an unsound list: one that counts five means a list of four.
pub record SameAnswers (step : Step) (other : ListDevice → Event → ListAnswer) : Type 0 where
  pub answers : (d : Device) (e : Event) → is_sound_of d ≡ true → seen_of (step d e) ≡ (other (lists_of d) e).seen
  pub states : (d : Device) (e : Event) → is_sound_of d ≡ true → lists_of (step d e).state ≡ (other (lists_of d) e).state
  pub lists : (d : Device) (es : List Event) → is_sound_of d ≡ true → all_seen step d es ≡ list_all_seen other (lists_of d) es
