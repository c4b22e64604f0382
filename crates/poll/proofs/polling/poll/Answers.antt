-- `poll` meets its contract: a refused call takes no event; each turn of the loop takes one, and the loop is left at a refused one, or where no event
-- is left. Assumes nothing.
use Prim.Native.Nat.{ℕ, ◌+◌, ◌<◌}
use mathlib.Core.Path.{◌≡◌, sym, ◌∙◌, ap}
use mathlib.Core.Bool.{true, false}
use mathlib.Core.List.{List}
use native.Mathlib.Nat.{le_refl}
use native.Mathlib.Omega.{arith}
use lib.ListN.{length, get_or, set}
use borrow.Author.Rules.{rules}
use Rattle.chip_device.specs.declared.device.Device.{Device}
use Rattle.records.specs.declared.records.EventRecord.{EventRecord}
use Rattle.records.specs.declared.records.Seen.{Seen}
use Rattle.refusal.proofs.Laws.{never_0}
use Rattle.poll.specs.declared.polling.Polled.{Polled}
use Rattle.poll.specs.Step.{turn_of}
use Rattle.poll.specs.Poll.{is_refused, poll_refusal, After, untouched, after_poll, polled_of}
use Rattle.poll.proofs.Runs.{Done, no_event, settled, over, on, starts}
use Rattle.poll.proofs.Asked.{room_given, asked, refused}
use Rattle.poll.proofs.polling.poll.Goals as goal

-- a refused call, and one that is not, put together
stays : (d : Device) (es : List EventRecord) (xs : List Seen) (n : ℕ) (r : Polled) → n ≡ poll_refusal d (length es) (length xs)
    → after_poll d es xs ≡ untouched d xs → r ≡ record { number = n; count = 0; state = d } → r ≡ polled_of d es xs
unfolding polled_of
stays d es xs n r e u eq = eq ∙ rw (e, u)

ends : (d : Device) (es : List EventRecord) (xs zs : List Seen) (i : ℕ) (s : Device) (r : Polled) → 0 ≡ poll_refusal d (length es) (length xs)
    → Done turn_of (after_poll d es xs) es (length es) i s zs → r ≡ record { number = 0; count = i; state = s } → r ≡ polled_of d es xs
unfolding polled_of
ends d es xs zs i s r e h eq = eq ∙ rw (← e, h.count, h.state)

pub returns-in-Some : goal.returns-in-Some
returns-in-Some c =
    let a = c.args in
    let first = c.in-Some.ensures in
    let none = refused a.device a.events.now a.answers.now (λ z. never_0 c.in-Some.refusal (first ∙ z)) in
    (stays a.device a.events.now a.answers.now _ _ first none (c.end_poll.ensures ∙ rw c.number.ensures), sym (ap (λ (r : After). r.answers) none))

pub loop-i-init : goal.loop-i-init
loop-i-init c =
    let a = c.args in
    starts turn_of _ a.events.now _ a.device a.answers.now (asked a.device a.events.now a.answers.now c.in_default.ensures)

pub offset_bounds-answers-i : goal.offset_bounds-answers-i
offset_bounds-answers-i c =
    let a = c.args in
    let room = room_given a.device (length a.events.now) (length a.answers.now) (sym c.in_default.ensures) in
    let l : c.loop-i.i < length c.loop-i.answers = omega (arith, room) in
    search rules

pub bounds-answers-i : goal.bounds-answers-i
bounds-answers-i c =
    let a = c.args in
    omega (arith, room_given a.device (length a.events.now) (length a.answers.now) (sym c.in_default.ensures))

pub returns-then-is_refused : goal.returns-then-is_refused
returns-then-is_refused c =
    let a = c.args in
    let room = room_given a.device (length a.events.now) (length a.answers.now) (sym c.in_default.ensures) in
    let z : c.loop-i.i < length c.loop-i.answers = omega (arith, room) in
    let r : is_refused (turn_of c.loop-i.state (get_or a.events.now c.loop-i.i no_event)) ≡ true =
    rw (← c.turn-answer.ensures) (sym c.is_refused.ensures ∙ c.if-is_refused.true) in
    let done : Done turn_of (after_poll a.device a.events.now a.answers.now) a.events.now (length a.events.now) (c.loop-i.i + 1) c.state_in-next.result (set c.loop-i.answers c.loop-i.i c.seen_in-seen.result) =
    rw (c.state_in-next.ensures, c.seen_in-seen.ensures, c.turn-answer.ensures)
    (over turn_of _ a.events.now _ c.loop-i.i c.loop-i.state c.loop-i.answers c.loop-i.invariant c.loop-i-test.true (le_refl _) z r) in
    (ends a.device a.events.now a.answers.now _ _ _ _ c.in_default.ensures done c.end_poll-then-is_refused.ensures, done.answers)

pub loop-i-preserved : goal.loop-i-preserved
loop-i-preserved c =
    let a = c.args in
    let room = room_given a.device (length a.events.now) (length a.answers.now) (sym c.in_default.ensures) in
    let z : c.loop-i.i < length c.loop-i.answers = omega (arith, room) in
    let r : is_refused (turn_of c.loop-i.state (get_or a.events.now c.loop-i.i no_event)) ≡ false =
    rw (← c.turn-answer.ensures) (sym c.is_refused.ensures ∙ c.if-is_refused.false) in
    rw (c.state_in-next.ensures, c.seen_in-seen.ensures, c.turn-answer.ensures)
    (on turn_of _ a.events.now _ c.loop-i.i c.loop-i.state c.loop-i.answers c.loop-i.invariant c.loop-i-test.true (le_refl _) z r)

pub returns : goal.returns
returns c =
    let a = c.args in
    let e : c.loop-i.i ≡ length a.events.now = omega arith in
    let done = settled turn_of _ a.events.now _ c.loop-i.i c.loop-i.state c.loop-i.answers c.loop-i.invariant e (le_refl _) in
    (ends a.device a.events.now a.answers.now _ _ _ _ c.in_default.ensures done (c.end_poll-2.ensures ∙ rw e), done.answers)
