-- Demand 3 shuts wrong chips out. Each has had, by its answers, other bytes than the ledger says are due; both are computed for a few events on
-- receiver A with the 1X clock of its pin and five data bits, seven pulses a character. Assumes nothing.
use Prim.Native.Nat.{ℕ}
use mathlib.Core.Path.{◌≡◌, refl, sym, ◌∙◌, ap}
use mathlib.Core.Bool.{Bool, true, false, true≢false}
use mathlib.Core.List.{List, [], ◌∷◌, ◌++◌, map}
use native.Mathlib.Omega.{arith}
use lib.ListN.{length, get_or, replicate}
use Rattle.format.specs.Format.{format_of}
use Rattle.frame.specs.Levels.{frame}
use Rattle.character.specs.declared.character.Character.{Character}
use Rattle.character.specs.declared.character.Marks.{Marks}
use Rattle.character.specs.Character.{no_character}
use Rattle.receiver.specs.Delivery.{Fate, live, known, fated_by}
use Rattle.receiver.specs.Delivery.Fate.{WasRead, Held}
use Rattle.receiver.proofs.Wrong.{drops_arriving, keeps_waiting, reads_two, disable_empties, keeps_nothing}
use Rattle.events.specs.declared.events.Event.{Event}
use Rattle.events.specs.declared.events.Event.TheVariants.{Read, Write}
use Rattle.chip_laws.specs.Lists.{Seen}
use Rattle.chip_laws.proofs.Examples.{idle_lines}
use Rattle.chip_laws.proofs.Wrong.{status_takes, crossed}
use Rattle.demands.specs.Chip.{Chip, Channel, chip_of, status_bit}
use Rattle.demands.specs.Chip.Channel.{A, B}
use Rattle.demands.specs.Delivery.{lines_at, fate_of, ledger_from, ledger, read_from, held_for, held, Demand3}
use Rattle.demands.specs.Cases.{heard}
use Rattle.demands_shut_out.proofs.Chips.{constant, refuses_all, does_nothing, idles_later, chip_with, read_keeps, stale_takes, reset_goes_on, hides_overrun, heard_at}
use Rattle.demands_shut_out.proofs.Chips.{hides_marks, always_ready}
use Rattle.demands.proofs.Computing.{computing}

-- ---- what is due, and what was had ----

abbrev bytes_of : List (Character × Fate) → List ℕ
bytes_of l = map (λ (x : Character × Fate). x.0.byte) l

abbrev first_marks : List (Character × Fate) → Marks
first_marks l = (get_or l 0 (no_character, Held)).0.marks

-- by the ledger: the bytes that arrived, less those lost
abbrev pub due : Channel → List Event → List ℕ
due ch es = bytes_of (map known (live (ledger ch 255 es).entries))

-- by the answers: the bytes that were read, and then those held
abbrev pub had : Chip → Channel → List Event → List ℕ
had c ch es = bytes_of (fated_by WasRead (read_from c 255 ch [] es) ++ fated_by Held (held c 255 ch es))

due_had : {c : Chip} → Demand3 c → (ch : Channel) (es : List Event) → due ch es ≡ had c ch es
due_had h ch es = ap bytes_of (h 255 ch es).fates

-- so that they are the same at each place
pub differs : {c : Chip} (ch : Channel) (es : List Event) {a b : List ℕ} (k : ℕ) → due ch es ≡ a → had c ch es ≡ b
    → (get_or a k 0 ≡ get_or b k 0 → ⊥) → Demand3 c → ⊥
differs ch es k p q unlike h = unlike (ap (λ (l : List ℕ). get_or l k 0) (sym p ∙ due_had h ch es ∙ q))

-- ---- the events ----

-- these bytes arrive, each in seven pulses
abbrev arrive : List ℕ → List Event
arrive [] = []
arrive (x ∷ xs) = heard (frame false (format_of 16) 7 x) ++ arrive xs

-- MR1 16, CSR code 15, and the receiver enabled; then one high, and they arrive
abbrev pub line : List ℕ → List Event
line xs = heard_at 16 [] ++ arrive xs

abbrev two : List Event
two = line (1 ∷ 2 ∷ [])

abbrev four : List Event
four = line (1 ∷ 2 ∷ 3 ∷ 4 ∷ [])

abbrev five : List Event
five = four ++ arrive (5 ∷ [])

-- a start bit, then a reset that enables again, and highs
abbrev restarted : List Event
restarted = line [] ++ heard (false ∷ []) ++ Write 2 33 ∷ heard (replicate 6 true)

-- a one is being put together while the empty buffer is read
abbrev read_between : List Event
read_between = line [] ++ heard (false ∷ true ∷ false ∷ []) ++ Read 3 ∷ heard (false ∷ false ∷ false ∷ true ∷ [])

-- a break
abbrev breaks : List Event
breaks = line [] ++ heard (replicate 7 false)

-- ---- what they make ----

record Computed : Type 0 where
  due_nothing : due A [] ≡ []
  due_two : due A two ≡ 1 ∷ 2 ∷ []
  due_none : due B two ≡ []
  due_five : due A five ≡ 1 ∷ 2 ∷ 3 ∷ 5 ∷ []
  due_reset : due A (four ++ Write 2 32 ∷ []) ≡ []
  due_disabled : due A (two ++ Write 2 2 ∷ []) ≡ 1 ∷ 2 ∷ []
  due_status : due A (two ++ Read 1 ∷ []) ≡ 1 ∷ 2 ∷ []
  due_read : due A (two ++ Read 3 ∷ []) ≡ 1 ∷ 2 ∷ []
  due_restarted : due A restarted ≡ []
  due_between : due A read_between ≡ 1 ∷ []
  had_constant : (x : Seen) → x.fresh ≡ false → had (constant x) A two ≡ []
  had_four : (x : Seen) → x.fresh ≡ true → length (had (constant x) A []) ≡ 4
  had_does_nothing : had does_nothing A two ≡ []
  had_idles_later : had idles_later A two ≡ []
  had_keeps_nothing : had (chip_with keeps_nothing) A two ≡ []
  had_keeps_waiting : had (chip_with keeps_waiting) A (four ++ Write 2 32 ∷ []) ≡ 4 ∷ []
  had_disable_empties : had (chip_with disable_empties) A (two ++ Write 2 2 ∷ []) ≡ []
  had_status_takes : had (chip_of status_takes) A (two ++ Read 1 ∷ []) ≡ 2 ∷ []
  had_drops_arriving : had (chip_with drops_arriving) A five ≡ 1 ∷ 2 ∷ 3 ∷ 4 ∷ []
  had_reads_two : had (chip_with reads_two) A (two ++ Read 3 ∷ []) ≡ 1 ∷ []
  had_read_keeps : had (chip_with read_keeps) A (two ++ Read 3 ∷ []) ≡ 1 ∷ 1 ∷ 1 ∷ 1 ∷ 1 ∷ []
  had_reset_goes_on : had (chip_with reset_goes_on) A restarted ≡ 31 ∷ []
  had_stale_takes : had (chip_with stale_takes) A read_between ≡ []
  had_crossed : had (chip_of crossed) B two ≡ 1 ∷ 1 ∷ 1 ∷ 1 ∷ []
  overran : (ledger A 255 five).overran ≡ true
  overran_hides_overrun : status_bit hides_overrun 255 A five 4 ≡ false
  marked : (first_marks (map known (live (ledger A 255 breaks).entries))).broken ≡ true
  marked_hides_marks : (first_marks (fated_by WasRead (read_from hides_marks 255 A [] breaks) ++ fated_by Held (held hides_marks 255 A breaks))).broken ≡ false
  ready_always_ready : status_bit always_ready 255 A (replicate 4 (Read 3)) 0 ≡ true

computed : Computed
unfolding computing lines_at fate_of ledger_from read_from held_for heard drops_arriving keeps_waiting reads_two disable_empties keeps_nothing
computed =
    record {
      due_nothing = refl;
      due_two = refl;
      due_none = refl;
      due_five = refl;
      due_reset = refl;
      due_disabled = refl;
      due_status = refl;
      due_read = refl;
      due_restarted = refl;
      due_between = refl;
      had_constant = λ x e. rw e;
      had_four = λ x e. rw e;
      had_does_nothing = refl;
      had_idles_later = refl;
      had_keeps_nothing = refl;
      had_keeps_waiting = refl;
      had_disable_empties = refl;
      had_status_takes = refl;
      had_drops_arriving = refl;
      had_reads_two = refl;
      had_read_keeps = refl;
      had_reset_goes_on = refl;
      had_stale_takes = refl;
      had_crossed = refl;
      overran = refl;
      overran_hides_overrun = refl;
      marked = refl;
      marked_hides_marks = refl;
      ready_always_ready = refl;
    }

-- ---- shut out by the bytes ----

-- where it says stale, nothing was read and two arrived; where it says fresh, four are held before anything arrives
pub no_constant : (x : Seen) → Demand3 (constant x) → ⊥
no_constant x h = go x.fresh refl
  where
    go : (t : Bool) → x.fresh ≡ t → ⊥
    go false e = differs A two 0 computed.due_two (computed.had_constant x e) (λ z. omega arith) h
    go true e = omega (arith, ap length (sym computed.due_nothing ∙ due_had h A []) ∙ computed.had_four x e)

pub no_refuses_all : Demand3 refuses_all → ⊥
no_refuses_all = no_constant (record { number = 2; byte = 0; fresh = false; lines = idle_lines false })

pub no_does_nothing : Demand3 does_nothing → ⊥
no_does_nothing = differs A two 0 computed.due_two computed.had_does_nothing (λ e. omega arith)

pub no_idles_later : Demand3 idles_later → ⊥
no_idles_later = differs A two 0 computed.due_two computed.had_idles_later (λ e. omega arith)

-- "an empty queue can't meet it"
pub no_keeps_nothing : Demand3 (chip_with keeps_nothing) → ⊥
no_keeps_nothing = differs A two 0 computed.due_two computed.had_keeps_nothing (λ e. omega arith)

-- "A receiver reset that keeps the waiting character."
pub no_keeps_waiting : Demand3 (chip_with keeps_waiting) → ⊥
no_keeps_waiting = differs A (four ++ Write 2 32 ∷ []) 0 computed.due_reset computed.had_keeps_waiting (λ e. omega arith)

-- "Overrun that keeps the waiting character and drops the arriving one."
pub no_drops_arriving : Demand3 (chip_with drops_arriving) → ⊥
no_drops_arriving = differs A five 3 computed.due_five computed.had_drops_arriving (λ e. omega arith)

-- "A status read that takes a character."
pub no_status_takes : Demand3 (chip_of status_takes) → ⊥
no_status_takes = differs A (two ++ Read 1 ∷ []) 0 computed.due_status computed.had_status_takes (λ e. omega arith)

-- "reading an empty queue .. takes nothing"
pub no_stale_takes : Demand3 (chip_with stale_takes) → ⊥
no_stale_takes = differs A read_between 0 computed.due_between computed.had_stale_takes (λ e. omega arith)

-- "Disable drops the character being put together and ends the wait for a break's end, no more."
pub no_disable_empties : Demand3 (chip_with disable_empties) → ⊥
no_disable_empties = differs A (two ++ Write 2 2 ∷ []) 0 computed.due_disabled computed.had_disable_empties (λ e. omega arith)

-- "A read takes the oldest": not two, and not none
pub no_reads_two : Demand3 (chip_with reads_two) → ⊥
no_reads_two = differs A (two ++ Read 3 ∷ []) 1 computed.due_read computed.had_reads_two (λ e. omega arith)

pub no_read_keeps : Demand3 (chip_with read_keeps) → ⊥
no_read_keeps = differs A (two ++ Read 3 ∷ []) 1 computed.due_read computed.had_read_keeps (λ e. omega arith)

pub no_reset_goes_on : Demand3 (chip_with reset_goes_on) → ⊥
no_reset_goes_on = differs A restarted 0 computed.due_restarted computed.had_reset_goes_on (λ e. omega arith)

-- what A is handed comes to B
pub no_crossed : Demand3 (chip_of crossed) → ⊥
no_crossed = differs B two 0 computed.due_none computed.had_crossed (λ e. omega arith)

-- ---- shut out by the status ----

pub no_hides_overrun : Demand3 hides_overrun → ⊥
no_hides_overrun h = true≢false (sym computed.overran ∙ sym (h 255 A five).overrun ∙ computed.overran_hides_overrun)

pub no_hides_marks : Demand3 hides_marks → ⊥
no_hides_marks h =
    true≢false
    (sym computed.marked ∙ ap (λ (l : List (Character × Fate)). (first_marks l).broken) (h 255 A breaks).fates ∙ computed.marked_hides_marks)

pub no_always_ready : Demand3 always_ready → ⊥
no_always_ready h = true≢false (sym computed.ready_always_ready ∙ (h 255 A []).four)
