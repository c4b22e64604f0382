-- A line that is read byte by byte says what its words mean: what is read is a summary of its words, and what is told by the summary is what the
-- words mean, since a name's number is that name's alone and a capped number is its value. Assumes nothing.
use Prim.Native.Nat.{ℕ}
use mathlib.Core.Path.{◌≡◌, refl, sym, ap, ◌∙◌}
use mathlib.Core.Bool.{Bool, true, false, ◌&&◌, and-false, and-true}
use mathlib.Core.List.{List, [], ◌∷◌}
use native.Mathlib.Omega.{arith}
use lib.Dec.{leb}
use borrow.Author.Tests.{leb-false, lt-leb}
use Rattle.std.specs.Prelude.{Some, None}
use Rattle.format.specs.Pick.{pick}
use Rattle.format.proofs.Laws.Pick.{pick_yes}
use Rattle.events.specs.declared.events.Event.TheVariants.{Read, Write, Pins}
use Rattle.replay_script.specs.declared.lines.Line.{Line}
use Rattle.replay_script.specs.declared.lines.Line.TheVariants.{Skipped, Wrong, Ticks, One}
use Rattle.replay_script.specs.Script.{pieces_of, full_of, same_of, hash_of, all_digits, value_of, up_to, tick_text, read_text, pins_text, write_text, said, meant_of, line_of}
use Rattle.replay_script.specs.Lines.{told_alone, told_with_byte, told_with_one, byte_of, told_with_bytes, told_with_two, silent, told_of}
use Rattle.replay_script.specs.Reading.{started, taken_all}
use Rattle.replay_script.specs.Agrees.{AreBytes, Agrees}
use Rattle.replay_laws.proofs.Laws.Names.{name_from, named_reset, named_read, named_write, named_ack, named_pins, named_tick}
use Rattle.text.specs.Numbers.{number_from}
use Rattle.replay_laws.proofs.Laws.Numbers.{number_is}
use Rattle.replay_laws.proofs.Laws.Words.{comment_of, count_of, name_of, first_of, second_of, summary_of, read_words, AllBytes, words_bytes}

alone : (a : List ℕ) → AreBytes a → told_alone (name_from 1 a) ≡ said a []
unfolding told_alone said
alone a h = rw (named_reset a h, named_ack a h, named_tick a h)

-- the tests of one number and those of the definition, in every case: of a number up to the most, and of none
one_number : (tick read pins byte : Bool) (v : ℕ)
    → ◌≡◌ {A = Line} (pick tick (Ticks (record { 0 = v })) (pick byte (pick read (One (Read v)) (pick pins (One (Pins v)) Wrong)) Wrong))
    (pick (tick && true) (Ticks (record { 0 = v })) (pick (read && byte) (One (Read v)) (pick (pins && byte) (One (Pins v)) Wrong)))
unfolding pick
one_number true read pins byte v = refl
one_number false true pins true v = refl
one_number false false true true v = refl
one_number false false false true v = refl
one_number false true true false v = refl
one_number false true false false v = refl
one_number false false true false v = refl
one_number false false false false v = refl

no_number : (tick read pins : Bool) (v : ℕ)
    → ◌≡◌ {A = Line} Wrong (pick (tick && false) (Ticks (record { 0 = v })) (pick (read && false) (One (Read v)) (pick (pins && false) (One (Pins v)) Wrong)))
unfolding pick
no_number tick read pins v = rw (and-false tick, and-false read, and-false pins)

with_one : (a n : List ℕ) → AreBytes a → told_with_one (name_from 1 a) (number_from (Some 0) n) ≡ said a (n ∷ [])
unfolding told_with_one told_with_byte said pick
with_one a n h = rw (number_is n) (go (all_digits n) refl (leb (value_of n) 4000000000) refl)
  where
    go : (d : Bool) → all_digits n ≡ d → (m : Bool) → leb (value_of n) 4000000000 ≡ m
        → told_with_one (name_from 1 a) (pick (up_to 4000000000 n) (Some (value_of n)) None) ≡ said a (n ∷ [])
    go false e m f = rw e (no_number (same_of a tick_text) (same_of a read_text) (same_of a pins_text) (value_of n))
    go true e false f =
        let above = leb-false (value_of n) 4000000000 f in
        rw (e, f, lt-leb (value_of n) 255 (omega arith)) (no_number (same_of a tick_text) (same_of a read_text) (same_of a pins_text) (value_of n))
    go true e true f =
        rw (e, f, named_tick a h, named_read a h, named_pins a h)
        (rw f (one_number (same_of a tick_text) (same_of a read_text) (same_of a pins_text) (leb (value_of n) 255) (value_of n)))

-- a word that is a byte
byte_is : (w : List ℕ) → byte_of (number_from (Some 0) w) ≡ pick (up_to 255 w) (Some (value_of w)) None
unfolding byte_of pick
byte_is w = rw (number_is w) (go (all_digits w) (leb (value_of w) 4000000000) refl)
  where
    go : (d m : Bool) → leb (value_of w) 4000000000 ≡ m
        → byte_of (pick (d && m) (Some (value_of w)) None) ≡ pick (d && leb (value_of w) 255) (Some (value_of w)) None
    go false m e = refl
    go true true e = refl
    go true false e =
        let above = leb-false (value_of w) 4000000000 e in
        rw (lt-leb (value_of w) 255 (omega arith))

with_two : (a n b : List ℕ) → AreBytes a → told_with_two (name_from 1 a) (number_from (Some 0) n) (number_from (Some 0) b) ≡ said a (n ∷ b ∷ [])
unfolding told_with_bytes said pick
with_two a n b h = rw (byte_is n, byte_is b) (go (up_to 255 n) (up_to 255 b))
  where
    go : (first second : Bool)
        → told_with_bytes (name_from 1 a) (pick first (Some (value_of n)) None) (pick second (Some (value_of b)) None)
        ≡ pick (same_of a write_text && (first && second)) (One (Write (value_of n) (value_of b))) Wrong
    go true true = rw (named_write a h, and-true)
    go true false = rw and-false
    go false second = rw and-false

-- what is told by the summary of some words is what they mean
told_words : (ws : List (List ℕ)) → AllBytes ws → told_of (summary_of false ws) ≡ meant_of ws
unfolding told_of meant_of comment_of count_of name_of first_of second_of pick AllBytes said
told_words [] h = refl
told_words (a ∷ []) h = ap (λ (l : Line). pick (hash_of a) Skipped l) (alone a h.0)
told_words (a ∷ n ∷ []) h = ap (λ (l : Line). pick (hash_of a) Skipped l) (with_one a n h.0)
told_words (a ∷ n ∷ b ∷ []) h = ap (λ (l : Line). pick (hash_of a) Skipped l) (with_two a n b h.0)
told_words (a ∷ n ∷ b ∷ c ∷ ws) h = refl

pub reads : Agrees
reads line h = read_words line ∙ told_words (full_of (pieces_of line)) (words_bytes line h)

-- A line that `is_silent` tells a program to pass over says nothing: by the same words it is skipped.
pub passed_over : (line : List ℕ) → AreBytes line → silent (taken_all started line) ≡ true → line_of line ≡ Skipped
unfolding told_of
passed_over line h s = sym (reads line h) ∙ pick_yes _ _ _ s
