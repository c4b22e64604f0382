-- Two single steps that agree where the device is sound poll alike from a sound device, if a sound device stays sound:
-- by induction on the list, an event at a time. Assumes nothing.
use mathlib.Core.Path.{◌≡◌, refl, ◌∙◌, ap}
use mathlib.Core.Bool.{true}
use mathlib.Core.List.{List, [], ◌∷◌}
use Rattle.format.specs.Pick.{pick}
use Rattle.chip_device.specs.declared.device.Device.{Device}
use Rattle.chip_device.specs.Device.{is_sound_of}
use Rattle.chip_step.specs.declared.chip.Answer.{Answer}
use Rattle.records.specs.declared.records.EventRecord.{EventRecord}
use Rattle.records.specs.declared.records.Seen.{Seen}
use Rattle.poll.specs.Poll.{seen_in, is_refused, After, untouched, more, poll_from}

module _ (quick single : Device → EventRecord → Answer)
    (same : (d : Device) (e : EventRecord) → is_sound_of d ≡ true → quick d e ≡ single d e)
    (stays : (d : Device) (e : EventRecord) → is_sound_of d ≡ true → is_sound_of (single d e).state ≡ true) where
  pub alike : (d : Device) (es : List EventRecord) (xs : List Seen) → is_sound_of d ≡ true
      → poll_from quick d es xs ≡ poll_from single d es xs
  unfolding poll_from
  alike d [] xs s = refl
  alike d (e ∷ es) [] s = refl
  alike d (e ∷ es) (x ∷ xs) s =
      ap (λ (a : Answer). turned a (poll_from quick a.state es xs)) (same d e s)
      ∙ ap (turned (single d e)) (alike (single d e).state es xs (stays d e s))
    where
      turned : Answer → After → After
      turned a r = more (seen_in a) (pick (is_refused a) (untouched a.state xs) r)
