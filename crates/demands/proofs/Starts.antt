-- Demand 3's ledger leans on the sampling rule alone. Its sampler is the one that has heard all the lines so far, so the starts that an event brings it are those
-- that `starts_from` tells of the event's lines, which `Confirms` (crate sampler_laws) says; by them and by what arrives its entries are written. Assumes nothing.
use Prim.Native.Nat.{ℕ}
use mathlib.Core.Path.{◌≡◌, refl}
use mathlib.Core.Bool.{false}
use mathlib.Core.List.{List, [], ◌∷◌, ◌++◌, append-nil, append_assoc}
use Rattle.format.proofs.Laws.Pick.{pick_all}
use Rattle.sampler_state.specs.declared.state.Sampler.{Sampler}
use Rattle.sampler_state.specs.State.{hunting}
use Rattle.sampler.specs.Lines.{Line, hears, after_lines}
use Rattle.sampler_laws.specs.Sampling.{flags_from}
use Rattle.sampler_laws.specs.Confirms.{starts_from}
use Rattle.receiver.specs.Delivery.{Ledger, opened, pulse_written}
use Rattle.events.specs.declared.events.Event.{Event}
use Rattle.events.specs.declared.events.Event.TheVariants.{ChipReset, Read, Write, Acknowledge, Pins, Tick}
use Rattle.demands.specs.Chip.{Channel, and_then}
use Rattle.demands.specs.Delivery.{lines_at, lines_from, fate_of, heard_all, ledger_from, ledger}
use Rattle.demands.specs.Received.{changes}
use Rattle.demands.specs.Starts.{cames_from, booked, some, alone, Leans}
use Rattle.demands.proofs.Laws.Follows.{ledger_append}

heard_booked : (l : Ledger) (xs : List Line) → (heard_all l xs).entries ≡ booked (starts_from l.sampler xs) (cames_from l.sampler xs) l.entries
heard_booked l [] = refl
heard_booked l (x ∷ xs) = heard_booked (pulse_written l (hears l.sampler x)) xs

-- ---- the sampler that hears an event's lines ----

after_append : (s : Sampler) (xs ys : List Line) → after_lines s (xs ++ ys) ≡ after_lines (after_lines s xs) ys
unfolding after_lines
after_append s [] ys = refl
after_append s (x ∷ xs) ys = after_append (hears s x).next xs ys

starts_append : (s : Sampler) (xs ys : List Line) → starts_from s (xs ++ ys) ≡ starts_from s xs ++ starts_from (after_lines s xs) ys
unfolding after_lines
starts_append s [] ys = refl
starts_append s (x ∷ xs) ys = rw (starts_append (hears s x).next xs ys)

heard_sampler : (l : Ledger) (xs : List Line) → (heard_all l xs).sampler ≡ after_lines l.sampler xs
unfolding after_lines
heard_sampler l [] = refl
heard_sampler l (x ∷ xs) = heard_sampler (pulse_written l (hears l.sampler x)) xs

-- a fate that an event brings by its register and byte leaves it as it is
fate_sampler : (ch : Channel) (l : Ledger) (e : Event) → (fate_of ch l e).sampler ≡ l.sampler
unfolding fate_of
fate_sampler ch l ChipReset = refl
fate_sampler ch l (Read n) = pick_all (λ (m : Ledger). m.sampler ≡ l.sampler) _ _ _ refl refl
fate_sampler ch l (Write n byte) =
    let same : Ledger → Type 0 = λ (m : Ledger). m.sampler ≡ l.sampler in
    pick_all same _ _ _ (pick_all same _ _ _ refl (pick_all same _ _ _ refl refl)) refl
fate_sampler ch l Acknowledge = refl
fate_sampler ch l (Pins x) = refl
fate_sampler ch l Tick = refl

ledger_sampler : (ch : Channel) (levels : ℕ) (l : Ledger) (before es : List Event)
    → (ledger_from ch levels l before es).sampler ≡ after_lines l.sampler (lines_from ch levels before es)
unfolding ledger_from lines_from after_lines
ledger_sampler ch levels l before [] = refl
ledger_sampler ch levels l before (e ∷ es) =
    rw (
      ledger_sampler ch levels (heard_all (fate_of ch l e) (lines_at ch levels before e)) (and_then before e) es,
      heard_sampler (fate_of ch l e) (lines_at ch levels before e),
      fate_sampler ch l e,
      after_append l.sampler (lines_at ch levels before e) (lines_from ch levels (and_then before e) es),
    )

lines_append : (ch : Channel) (levels : ℕ) (before es : List Event) (e : Event)
    → lines_from ch levels before (and_then es e) ≡ lines_from ch levels before es ++ lines_at ch levels (before ++ es) e
unfolding lines_from
lines_append ch levels before [] e = rw (append-nil before, append-nil)
lines_append ch levels before (x ∷ es) e = rw (lines_append ch levels (and_then before x) es e, append_assoc before (x ∷ []) es, append_assoc)

changes_told : (s : Sampler) (xs : List Line) → changes s xs ≡ some (flags_from s xs)
changes_told s [] = refl
changes_told s (x ∷ xs) = rw (changes_told (hears s x).next xs)

-- ---- one event more ----

pub ledger_leans : (ch : Channel) (levels : ℕ) (es : List Event) (e : Event) → Leans ch levels es e
ledger_leans ch levels es e =
    record {
      sampler = ledger_sampler ch levels opened [] es;
      starting = rw (lines_append ch levels [] es e) (starts_append (hunting false) (lines_from ch levels [] es) (lines_at ch levels es e));
      entered = rw (
        ledger_append ch levels opened [] es e,
        heard_booked (fate_of ch (ledger ch levels es) e) (lines_at ch levels es e),
        fate_sampler ch (ledger ch levels es) e,
        ledger_sampler ch levels opened [] es,
      );
      changing = rw (ledger_sampler ch levels opened [] es) (changes_told (alone ch levels es) (lines_at ch levels es e));
    }
