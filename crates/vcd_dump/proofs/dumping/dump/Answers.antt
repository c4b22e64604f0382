-- `dump` meets its contract: each test decides its number, and the text that is written into no space has the length that is asked. Assumes
-- nothing.
use Prim.Native.Nat.{◌≤◌}
use mathlib.Core.Path.{refl, sym, ◌∙◌}
use native.Mathlib.Omega.{arith}
use lib.ListN.{length}
use Rattle.vcd_dump.specs.Dump.{text_of}
use Rattle.vcd_dump.proofs.Laws.Answers.{one, nine, eight, none, refused, accepted}
use Rattle.vcd_dump.proofs.dumping.dump.Goals as goal

pub returns-then-not-is_sound : goal.returns-then-not-is_sound
returns-then-not-is_sound c =
    let a = c.args in
    let u = sym c.is_sound.ensures ∙ c.if-not-is_sound.true in
    let r = refused a.device a.events.now a.space.now 1 refl (one a.device a.events.now a.space.now u) in
    record { answer = c.refuse.ensures ∙ r.0; space = r.1 }

pub returns-then-events-gt-MOST_EVENTS : goal.returns-then-events-gt-MOST_EVENTS
returns-then-events-gt-MOST_EVENTS c =
    let a = c.args in
    let u = sym c.is_sound.ensures ∙ c.if-not-is_sound.false in
    let r = refused a.device a.events.now a.space.now 9 refl (nine a.device a.events.now a.space.now u c.if-events-gt-MOST_EVENTS.true) in
    record { answer = c.refuse-then-events-gt-MOST_EVENTS.ensures ∙ r.0; space = r.1 }

pub write_waves-needed-requires : goal.write_waves-needed-requires
write_waves-needed-requires c =
    (sym c.is_sound.ensures ∙ c.if-not-is_sound.false, c.if-events-gt-MOST_EVENTS.false)

pub returns-then-space-needed : goal.returns-then-space-needed
returns-then-space-needed c =
    let a = c.args in
    let u = sym c.is_sound.ensures ∙ c.if-not-is_sound.false in
    let l = c.write_waves-needed.ensures.ends in
    let r = refused a.device a.events.now a.space.now 8 refl
    (eight a.device a.events.now a.space.now u c.if-events-gt-MOST_EVENTS.false (omega (arith, l, c.if-space-needed.true))) in
    record { answer = c.refuse-then-space-needed.ensures ∙ r.0; space = r.1 }

pub write_waves-length-requires : goal.write_waves-length-requires
write_waves-length-requires c =
    (sym c.is_sound.ensures ∙ c.if-not-is_sound.false, c.if-events-gt-MOST_EVENTS.false)

pub returns : goal.returns
returns c =
    let a = c.args in
    let u = sym c.is_sound.ensures ∙ c.if-not-is_sound.false in
    let l = c.write_waves-needed.ensures.ends in
    let fits : length (text_of a.device a.events.now) ≤ length a.space.now = omega (arith, l, c.if-space-needed.false) in
    let r = accepted a.device a.events.now a.space.now _ _ c.write_waves-length.ensures fits
    (none a.device a.events.now a.space.now u c.if-events-gt-MOST_EVENTS.false fits) in
    record { answer = r.0; space = r.1 }
