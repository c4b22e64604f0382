use mathlib.Core.Path.{refl}
use mathlib.Core.Logic.◌⊎◌.{inl, inr}
use Rattle.vcd_lines.specs.Body.{taken_of}
use Rattle.vcd_lines.proofs.body.take.Goals as goal
use Rattle.vcd_lines.proofs.body.take.Goals.{in-LineStart, in-Hash, in-Digits, in-Whole, in-Level, in-Outside}

pub returns : goal.returns
unfolding taken_of
returns c =
    elim c.match-reading.branch [
      | in-LineStart w ↦ rw (w.place-is, w.begin-place.ensures, c.is_in_time.ensures, w.in-LineStart.is) refl
      | in-Hash w ↦ rw (w.place-is, w.first_digit-place.ensures, c.is_in_time.ensures, w.in-Hash.is) refl
      | in-Digits w ↦ rw (w.place-is, w.next_digit-place.ensures, c.is_in_time.ensures, w.in-Digits.is) refl
      | in-Whole w ↦
          elim w.in-Whole.is [
            | inl (t, e) ↦ rw (w.place-is, w.must_end-place.ensures, c.is_in_time.ensures, e) refl
            | inr (v, code, e) ↦ rw (w.place-is, w.must_end-place.ensures, c.is_in_time.ensures, e) refl
          ]
      | in-Level w ↦ rw (w.place-is, w.take_code-place.ensures, c.is_in_time.ensures, w.in-Level.is) refl
      | in-Outside w ↦ rw (w.place-is, c.is_in_time.ensures, w.in-Outside.is) refl
    ]
