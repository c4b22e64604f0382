-- The answer and the space by the test that decides them, in the order of the tests. Assumes nothing.
use Prim.Native.Nat.{ℕ, ◌/◌, ◌<◌, ◌≤◌}
use mathlib.Core.Path.{◌≡◌, refl, ◌∙◌}
use mathlib.Core.Bool.{Bool, true, false}
use mathlib.Core.List.{List}
use native.Mathlib.Omega.{arith}
use lib.Dec.{eqb, ltb}
use lib.ListN.{length}
use borrow.Author.Tests.{lt-ltb, le-ltb, ltb-false}
use Rattle.format.specs.Pick.{pick}
use Rattle.chip_device.specs.declared.device.Device.{Device}
use Rattle.chip_device.specs.Device.{is_sound_of}
use Rattle.text.specs.Puts.{Puts}
use Rattle.text.proofs.Laws.Puts.{puts_whole}
use Rattle.vcd_dump.specs.declared.dumping.DumpAnswer.{DumpAnswer}
use Rattle.vcd_dump.specs.Waves.{events_of}
use Rattle.vcd_dump.specs.Dump.{text_of, number_of, dump_refusal, dumped_of, space_after}
use Rattle.vcd_dump.proofs.Laws.Records.{events_length}

module _ (d : Device) (bytes s : List ℕ) where
  -- ---- the number ----

  pub one : is_sound_of d ≡ false → number_of d bytes (length s) ≡ 1
  unfolding dump_refusal pick
  one u = rw u

  pub nine : is_sound_of d ≡ true → 1000000 < length bytes / 3 → number_of d bytes (length s) ≡ 9
  unfolding dump_refusal pick
  nine u h = rw (u, events_length bytes, lt-ltb 1000000 (length bytes / 3) h)

  pub eight : is_sound_of d ≡ true → length bytes / 3 ≤ 1000000 → length s < length (text_of d bytes) → number_of d bytes (length s) ≡ 8
  unfolding dump_refusal pick
  eight u h l = rw (u, events_length bytes, le-ltb 1000000 (length bytes / 3) h, lt-ltb (length s) (length (text_of d bytes)) l)

  pub none : is_sound_of d ≡ true → length bytes / 3 ≤ 1000000 → length (text_of d bytes) ≤ length s → number_of d bytes (length s) ≡ 0
  unfolding dump_refusal pick
  none u h l = rw (u, events_length bytes, le-ltb 1000000 (length bytes / 3) h, le-ltb (length s) (length (text_of d bytes)) l)

  -- ---- the answer, and the space ----

  -- a number that is not 0 is answered with no length, and the space stays
  pub refused : (n : ℕ) → eqb n 0 ≡ false → number_of d bytes (length s) ≡ n
      → (record { number = n; length = 0 } ≡ dumped_of d bytes (length s)) × (s ≡ space_after d bytes s)
  unfolding dumped_of space_after pick
  refused n z e = (rw (e, z), rw (e, z))

  pub accepted : (end : ℕ) (t : List ℕ) → Puts 0 (text_of d bytes) s t end → length (text_of d bytes) ≤ length s
      → number_of d bytes (length s) ≡ 0
      → (record { number = 0; length = end } ≡ dumped_of d bytes (length s)) × (t ≡ space_after d bytes s)
  unfolding dumped_of space_after pick
  accepted end t p l e =
      let a : end ≡ length (text_of d bytes) = p.ends ∙ omega arith in
      (rw (e, a), rw e (puts_whole p l))

-- the length is within the space
dumped_within : (d : Device) (bytes : List ℕ) (n : ℕ) → (dumped_of d bytes n).length ≤ n
unfolding dumped_of dump_refusal pick
dumped_within d bytes n = go (is_sound_of d) (ltb 1000000 (length (events_of bytes))) (ltb n (length (text_of d bytes))) refl
  where
    go : (t u v : Bool) → ltb n (length (text_of d bytes)) ≡ v
        → pick (eqb (pick t (pick u 9 (pick v 8 0)) 1) 0) (length (text_of d bytes)) 0 ≤ n
    go false u v e = omega arith
    go true true v e = omega arith
    go true false true e = omega arith
    go true false false e = ltb-false n (length (text_of d bytes)) e

pub answer_within : (d : Device) (bytes : List ℕ) (n : ℕ) (r : DumpAnswer) → r ≡ dumped_of d bytes n → r.length ≤ n
answer_within d bytes n r e = rw e (dumped_within d bytes n)
