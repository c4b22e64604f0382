-- `has_room` meets its contract: a clock without room leaves none for all, and the last one decides. Assumes nothing.
use Prim.Native.Nat.{◌<◌}
use mathlib.Core.Path.{◌≡◌, sym, ◌∙◌, ap}
use native.Mathlib.Omega.{arith}
use Rattle.format.specs.declared.counts.Ticks.{Ticks}
use Rattle.chip_fast.specs.Passing.{front_room}
use Rattle.chip_fast.proofs.Laws.Passing.{none_left, last_decides}
use Rattle.chip_fast.proofs.passing.has_room.Goals as goal

some : {x room : Ticks} → x ≡ room → (x.0 ≡ 0 → ⊥) → 0 < room.0
some {x} e h = rw (← e) (omega arith)

pub returns-then-timer-eq0 : goal.returns-then-timer-eq0
returns-then-timer-eq0 c =
    let told = rw c.mode_of.ensures at c.timer_room-timer.ensures in
    let none = ap (λ (x : Ticks). x.0) (sym told) ∙ c.if-timer-eq0.true in
    none_left (front_room c.args.front) (omega (arith, none))

pub returns-then-receiver_a-eq0 : goal.returns-then-receiver_a-eq0
returns-then-receiver_a-eq0 c =
    let none = ap (λ (x : Ticks). x.0) (sym c.side_room-receiver_a.ensures) ∙ c.if-receiver_a-eq0.true in
    none_left (front_room c.args.front) (omega (arith, none))

pub returns-then-transmitter_a-eq0 : goal.returns-then-transmitter_a-eq0
returns-then-transmitter_a-eq0 c =
    let none = ap (λ (x : Ticks). x.0) (sym c.side_room-transmitter_a.ensures) ∙ c.if-transmitter_a-eq0.true in
    none_left (front_room c.args.front) (omega (arith, none))

pub returns-then-receiver_b-eq0 : goal.returns-then-receiver_b-eq0
returns-then-receiver_b-eq0 c =
    let none = ap (λ (x : Ticks). x.0) (sym c.side_room-receiver_b.ensures) ∙ c.if-receiver_b-eq0.true in
    none_left (front_room c.args.front) (omega (arith, none))

pub returns : goal.returns
returns c =
    let timer = rw c.mode_of.ensures at c.timer_room-timer.ensures in
    simp c.side_room-transmitter_b.ensures
    (last_decides _ _ _ _ _ (some timer c.if-timer-eq0.false) (some c.side_room-receiver_a.ensures c.if-receiver_a-eq0.false)
    (some c.side_room-transmitter_a.ensures c.if-transmitter_a-eq0.false) (some c.side_room-receiver_b.ensures c.if-receiver_b-eq0.false))
