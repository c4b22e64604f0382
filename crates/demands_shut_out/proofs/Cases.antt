-- Document 01's eleven cases shut wrong chips out, each case one at least, by computing the case. Where a row fails, it does so whatever answers the
-- frame requests, or the events. Assumes nothing.
use Prim.Native.Nat.{ℕ}
use mathlib.Core.Path.{◌≡◌, refl, sym, ◌∙◌}
use mathlib.Core.Bool.{Bool, true, false, ◌&&◌, true≢false}
use mathlib.Core.List.{List}
use native.Mathlib.Omega.{arith}
use borrow.Author.Tests.{eqb-true}
use lib.Dec.{eqb}
use Rattle.format.specs.Digits.{bit}
use Rattle.request.specs.declared.request.FrameAnswer.{FrameAnswer}
use Rattle.receiver.proofs.Wrong.{drops_arriving, keeps_waiting}
use Rattle.chip_laws.specs.Lists.{Seen}
use Rattle.demands.specs.Chip.{Chip, chip_of}
use Rattle.demands.specs.Demand1.{Request}
use Rattle.demands.specs.Cases.{Row, holds, all_hold, heard, case1, case2, case3, case4sent, case5, case6, case7, case8, case9, case10, case11, case11low, sum}
use Rattle.demands.specs.Cases.{table}
use Rattle.demands_shut_out.proofs.Chips.{constant, refuses_all, does_nothing, idles_later, chip_with, starts_unseen, never_terminal, never_sends}
use Rattle.demands_shut_out.proofs.Chips.{shows_bits, same_frame, one_more, never_odd, eight_bits}
use Rattle.demands_shut_out.proofs.Counter.{start_never_sets, start_always_sets}
use Rattle.demands.proofs.Computing.{computing}

-- ---- each computed ----

-- that a case does not hold, of a chip and of a way to answer frame requests
abbrev Fails : Chip → Request → List Row → Type 0
Fails c r rows = all_hold c r rows ≡ false

pub record WrongCases : Type 0 where
  -- "refusing all"
  pub no_refuses_all : (r : Request) → Fails refuses_all r table
  -- "OP 255"
  pub no_shows_bits : (r : Request) → Fails shows_bits r case1
  -- "doing nothing (case 2)"
  pub no_does_nothing : (r : Request) → Fails does_nothing r case2
  -- "an invented pulse count (frame length is the format's sum, case 3)"
  pub no_one_more : (c : Chip) → Fails c one_more case3
  -- "0101010101", as it is sent
  pub no_never_sends : (r : Request) → Fails never_sends r case4sent
  -- "even parity bit 0, odd 1"
  pub no_never_odd : (c : Chip) → Fails c never_odd case5
  -- "255 with 5 bits: data 31."
  pub no_eight_bits : (c : Chip) → Fails c eight_bits case6
  -- "working at the first event and idling later (case 7, ..)"
  pub no_idles_later : (r : Request) → Fails idles_later r case7
  -- "Overrun that keeps the waiting character and drops the arriving one."
  pub no_drops_arriving : (r : Request) → Fails (chip_with drops_arriving) r case7
  -- "A receiver reset that keeps the waiting character."
  pub no_keeps_waiting : (r : Request) → Fails (chip_with keeps_waiting) r case8
  -- "Low 8 pulses, high at p+8: nothing."
  pub no_starts_unseen : (r : Request) → Fails (chip_with starts_unseen) r case9
  -- "ISR bit 3 after 48 ticks", "after 4 ticks"
  pub no_never_terminal : (r : Request) → Fails never_terminal r case10
  pub no_never_terminal_timer : (r : Request) → Fails never_terminal r case11
  -- order 4: "clear the bit with stop, then start: the bit is set."
  pub no_start_never_sets : (r : Request) → Fails (chip_of start_never_sets) r case11low
  pub no_start_always_sets : (r : Request) → Fails (chip_of start_always_sets) r case11low

pub wrong_cases : WrongCases
unfolding computing holds all_hold heard drops_arriving keeps_waiting
wrong_cases =
    record {
      no_refuses_all = λ r. refl;
      no_shows_bits = λ r. refl;
      no_does_nothing = λ r. refl;
      no_one_more = λ c. refl;
      no_never_sends = λ r. refl;
      no_never_odd = λ c. refl;
      no_eight_bits = λ c. refl;
      no_idles_later = λ r. refl;
      no_drops_arriving = λ r. refl;
      no_keeps_waiting = λ r. refl;
      no_starts_unseen = λ r. refl;
      no_never_terminal = λ r. refl;
      no_never_terminal_timer = λ r. refl;
      no_start_never_sets = λ r. refl;
      no_start_always_sets = λ r. refl;
    }

-- ---- one answer for all ----

first : (a b : Bool) → (a && b) ≡ true → a ≡ true
first true b h = refl
first false b h = h

second : (a b : Bool) → (a && b) ≡ true → b ≡ true
second true b h = h
second false b h = absurd (true≢false (sym h))

-- two rows that ask for two numbers in one place
one_value : (t : Bool) (n x y : ℕ) (more : Bool) → (x ≡ y → ⊥) → ((t && eqb n x) && ((t && eqb n y) && more)) ≡ true → ⊥
one_value t n x y more differ h =
    let left : n ≡ x = eqb-true n x (second t _ (first (t && eqb n x) _ h)) in
    let right : n ≡ y = eqb-true n y (second t _ (first (t && eqb n y) more (second (t && eqb n x) _ h))) in
    differ (sym left ∙ right)

-- "one constant answer (case 4)": TxDA is low in the start bit, and high in the next
pub no_constant : (x : Seen) (r : Request) → all_hold (constant x) r case4sent ≡ true → ⊥
unfolding all_hold holds
no_constant x r h = one_value (eqb x.number 0) (bit x.lines.txda) 0 1 _ (λ e. omega arith) h

-- a request with one answer and one space: in case 3 it would hold 9 highs, and 17
pub no_same_frame : (c : Chip) (a : FrameAnswer) (space : List ℕ) → all_hold c (same_frame a space) case3 ≡ true → ⊥
unfolding all_hold holds
no_same_frame c a space h = one_value (eqb a.number 0) (sum space) 9 17 _ (λ e. omega arith) h
