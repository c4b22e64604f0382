-- Where the loop stands before event i: what is left of the text leads to the whole of it. An accepted event goes one on; a refused one, or
-- the list's end, leaves the time that the wave stands at. Assumes nothing.
use Prim.Native.Nat.{ℕ, ◌+◌, ◌*◌, ◌^◌, ◌<◌, ◌≤◌}
use mathlib.Core.Path.{◌≡◌, refl, sym, ◌∙◌, ap}
use mathlib.Core.Bool.{Bool, true}
use mathlib.Core.List.{List, [], ◌∷◌, ◌++◌, map}
use native.Mathlib.Omega.{arith}
use lib.Dec.{eqb}
use lib.ListN.{length, drop}
use Rattle.format.specs.Pick.{pick}
use Rattle.format.specs.Digits.{value_of}
use Rattle.format.proofs.Laws.Pick.{pick_all}
use Rattle.chip_answers.specs.declared.answers.Lines.{Lines}
use Rattle.chip_device.specs.declared.device.Device.{Device}
use Rattle.chip_device.specs.Device.{is_sound_of, device_lines}
use Rattle.chip_step.specs.declared.chip.Answer.{Answer}
use Rattle.chip_step.specs.Chip.{step_of}
use Rattle.chip_laws.proofs.Lists.{step_sound}
use Rattle.records.specs.declared.records.EventRecord.{EventRecord}
use Rattle.records.specs.Records.{event_of}
use Rattle.text.specs.declared.putting.Page.{Page}
use Rattle.text.specs.Puts.{Writes}
use Rattle.text.proofs.Laws.Pages.{Remains, remains_as, remains_then, remains_last}
use Rattle.vcd_text.proofs.Laws.Words.{changes_within}
use Rattle.vcd_dump.specs.declared.waves.Wave.{Wave}
use Rattle.vcd_dump.specs.Waves.{values_of, events_of}
use Rattle.vcd_dump.specs.Wave.{record_at, end_text, wave_after, Adds, rest_of}
use Rattle.vcd_dump.proofs.Laws.Records.{next_record, no_record, record_ticks}
use Rattle.vcd_dump.proofs.Laws.Values.{values_small}
use Rattle.vcd_dump.proofs.Laws.Rest.{accepted_lines, rest_end, rest-refused, rest-next}

-- ---- one event more ----

after_values : (w : Wave) (tick : Bool) (l : Lines) → (wave_after w tick l).values ≡ value_of (values_of l)
unfolding wave_after
after_values w tick l = refl

after_before : (w : Wave) (tick : Bool) (l : Lines) → w.before < 2 ^ 11 → w.values < 2 ^ 11
    → (wave_after w tick l).before < 2 ^ 11
unfolding wave_after
after_before w tick l h k = pick_all (λ (n : ℕ). n < 2 ^ 11) tick w.values w.before k h

after_tick : (w : Wave) (tick : Bool) (l : Lines) → (wave_after w tick l).tick ≤ w.tick + 1
unfolding wave_after
after_tick w tick l = pick_all (λ (n : ℕ). n ≤ w.tick + 1) tick (w.tick + 1) w.tick (omega arith) (omega arith)

ended_within : (w : Wave) (tick : Bool) → length (pick tick (end_text w) []) ≤ 55
ended_within w tick =
    pick_all (λ (l : List ℕ). length l ≤ 55) tick (end_text w) [] (changes_within w.tick w.before w.values) (omega arith)

-- ---- where the loop stands ----

module _ (events : List ℕ) (page₀ : Page) (wave₀ : Wave) (d₀ : Device) where
  abbrev pub whole : List ℕ
  whole = rest_of wave₀ d₀ (events_of events)

  pub record Stands (page : Page) (w : Wave) (d : Device) (i : ℕ) : Type 0 where
    pub sound : is_sound_of d ≡ true
    pub values : w.values ≡ value_of (values_of (device_lines d))
    pub before : w.before < 2 ^ 11
    pub tick : w.tick ≤ i
    pub place : page.at ≤ page₀.at + 55 * i
    pub left : Remains whole page₀ (rest_of w d (events_of (drop (3 * i) events))) page

  -- the values of a wave fit a word of eleven bits
  pub small : {page : Page} {w : Wave} {d : Device} {i : ℕ} → Stands page w d i → w.values < 2 ^ 11
  small {page} {w} {d} {i} st = rw st.values (values_small (device_lines d))

  events-next : (i : ℕ) → 3 * i + 2 < length events
      → events_of (drop (3 * i) events) ≡ event_of (record_at events i) ∷ events_of (drop (3 * (i + 1)) events)
  events-next i h = ap (map event_of) (next_record events i h)

  -- an accepted event
  pub stands_on : {page later : Page} {w r : Wave} {d : Device} (i : ℕ) (x : EventRecord) (a : Answer)
      → 3 * i + 2 < length events → Stands page w d i → x ≡ record_at events i → a ≡ step_of d (event_of x) → a.number ≡ 0
      → Adds w (eqb x.kind 5) a.lines page later r → Stands later r a.state (i + 1)
  stands_on {page} {later} {w} {r} {d} i x a h st ex ea n adds =
      let e = event_of x in
      let es = events_of (drop (3 * (i + 1)) events) in
      let accepted : (step_of d e).number ≡ 0 = ap (λ (y : Answer). y.number) (sym ea) ∙ n in
      let lines : a.lines ≡ device_lines a.state = rw ea (accepted_lines d e accepted) in
      let within = ended_within w (eqb x.kind 5) in
      let placed = adds.writes.puts.ends in
      let next : rest_of w d (event_of (record_at events i) ∷ es) ≡ pick (eqb x.kind 5) (end_text w) [] ++ rest_of r a.state es
      = rw (← ex)
      (rest-next w d st.values e es accepted
      ∙ rw (record_ticks x, ← ea) (ap (λ (v : Wave). pick (eqb x.kind 5) (end_text w) [] ++ rest_of v a.state es) (sym adds.wave))) in
      let above = st.place in
      record {
        sound = ap (λ (y : Answer). is_sound_of y.state) ea ∙ step_sound d e st.sound;
        values = ap (λ (v : Wave). v.values) adds.wave ∙ after_values w (eqb x.kind 5) a.lines ∙ rw lines;
        before = rw adds.wave (after_before w (eqb x.kind 5) a.lines st.before (small st));
        tick = let t = after_tick w (eqb x.kind 5) a.lines in
            let u = ap (λ (v : Wave). v.tick) adds.wave in
            let b = st.tick in
            omega arith;
        place = omega arith;
        left = remains_then (remains_as (ap (rest_of w d) (events-next i h) ∙ next) st.left) adds.writes;
      }

  -- a refused event
  pub stands-refused : {page later : Page} {w : Wave} {d : Device} (i : ℕ) (x : EventRecord) (a : Answer)
      → 3 * i + 2 < length events → Stands page w d i → x ≡ record_at events i → a ≡ step_of d (event_of x) → (a.number ≡ 0 → ⊥)
      → Writes (end_text w) page later → Writes whole page₀ later
  stands-refused {page} {later} {w} {d} i x a h st ex ea n p =
      remains_last (remains_as (ap (rest_of w d) (events-next i h) ∙ rw (← ex) (rest-refused w d st.values (event_of x) _ (rw ea at n))) st.left) p

  -- the list's end
  pub stands-end : {page later : Page} {w : Wave} {d : Device} (i : ℕ)
      → length events < 3 * i + 3 → Stands page w d i
      → Writes (end_text w) page later → Writes whole page₀ later
  stands-end {page} {later} {w} {d} i h st p =
      remains_last (remains_as (ap (λ (l : List EventRecord). rest_of w d (map event_of l)) (no_record events i h) ∙ rest_end w d st.values) st.left) p
