-- `Captures` says all: whoever meets it answers every call as ours does, and whoever meets `ReadsBack` has our logs of every dump. The number of pulses up to a time is one, so the characters are; and a text is outside the subset, or says its lines. Assumes nothing.
use Prim.Native.Nat.{ℕ, suc, ◌+◌, ◌*◌, ◌≤◌, ◌<◌}
use mathlib.Core.Path.{◌≡◌, refl, sym, ◌∙◌, ap, subst}
use mathlib.Core.Bool.{Bool, true, false, true≢false}
use mathlib.Core.List.{List, [], ◌∷◌}
use native.Mathlib.Nat.{mul-le-mul_right}
use native.Mathlib.Omega.{arith}
use lib.Dec.{ltb, leb}
use lib.ListN.{length}
use borrow.Author.Tests.{ltb-true, ltb-false, leb-true, leb-false}
use Rattle.format.specs.Pick.{pick}
use Rattle.format.specs.Format.{mr1_not_modelled}
use Rattle.character.specs.declared.character.Character.{Character}
use Rattle.events.specs.declared.events.Event.{Event}
use Rattle.chip_device.specs.declared.device.Device.{Device}
use Rattle.vcd_text.specs.Header.{Wire, chip_wires}
use Rattle.vcd_text.specs.Time.{time_of}
use Rattle.vcd_text.specs.Lines.{Line, times_of, RisesFrom}
use Rattle.std.specs.Prelude.{Ok, Err}
use Rattle.refusal.specs.declared.refusal.Refusal.TheVariants.{TimeNotLater}
use Rattle.vcd_read.specs.declared.scanning.Scanned.{Scanned}
use Rattle.vcd_read.specs.Scan.{no_times, times_from, scan_of, scan_number}
use Rattle.vcd_dump.specs.Dump.{events_text}
use Rattle.vcd_laws.proofs.Shows.{dump_lines}
use Rattle.vcd_subset.specs.Subset.{Named, Says}
use Rattle.vcd_subset.proofs.Takes.{rises_in_time, in_time_rises, taken, outside, told}
use Rattle.vcd_capture.specs.declared.capturing.Asked.{Asked}
use Rattle.vcd_capture.specs.Logs.{log_bytes}
use Rattle.vcd_capture.specs.Capture.{number_of}
use Rattle.capture_laws.specs.Captures.{period_for, Heard, HeardBy, sampled_on, Logged, Modelled, Number, Log, Captures}
use Rattle.capture_laws.specs.ReadsBack.{chip_line, shown_of, ReadsBack}
use Rattle.capture_laws.proofs.Captures.{log_on, captures}
use Rattle.capture_laws.proofs.ReadsBack.{reads_back}

-- ---- the characters ----

no_fewer : (period last n m : ℕ) → time_of (m * period) ≤ last → last < time_of (suc n * period) → n < m → ⊥
no_fewer period last n m a b h =
    let less : suc n * period ≤ m * period = mul-le-mul_right period h in
    omega arith

same_pulses : (q : Asked) (level : ℕ → Bool) (last : ℕ) (cs ds : List Character) (x : Heard q level last cs) (y : Heard q level last ds)
    → x.pulses ≡ y.pulses
same_pulses q level last cs ds x y = go (ltb x.pulses y.pulses) refl (ltb y.pulses x.pulses) refl
  where
    go : (s : Bool) → ltb x.pulses y.pulses ≡ s → (t : Bool) → ltb y.pulses x.pulses ≡ t → x.pulses ≡ y.pulses
    go true e t d = absurd (no_fewer (period_for q) last x.pulses y.pulses y.up_to x.no_more (ltb-true _ _ e))
    go false e true d = absurd (no_fewer (period_for q) last y.pulses x.pulses x.up_to y.no_more (ltb-true _ _ d))
    go false e false d =
        let a = ltb-false x.pulses y.pulses e in
        let b = ltb-false y.pulses x.pulses d in
        omega arith

heard_alike : (q : Asked) (level : ℕ → Bool) (times : List ℕ) (cs ds : List Character) → HeardBy q level times cs → HeardBy q level times ds → cs ≡ ds
unfolding HeardBy
heard_alike q level [] cs ds x y = x ∙ sym y
heard_alike q level (t ∷ ts) cs ds x y = x.are ∙ rw (same_pulses q level _ cs ds x y) (sym y.are)

logged_alike : (q : Asked) (level : ℕ → Bool) (times one two : List ℕ) → Logged q level times one → Logged q level times two → one ≡ two
logged_alike q level times one two x y =
    x.bytes ∙ ap log_bytes (heard_alike q level times x.characters y.characters x.heard y.heard) ∙ sym y.bytes

module _ (number : Number) (log : Log) (h : Captures number log) where
  pub log-alike : (q : Asked) (text a b : List ℕ) → Modelled q → (ws : List Wire) (ls : List Line) (ca cb : ℕ) → Says text ws ls
      → Named ws a ca → Named ws b cb → RisesFrom 0 (times_of ls) → (second : Bool) → log second q text a b ≡ log_on second q text a b
  log-alike q text a b m ws ls ca cb says na nb r second =
      logged_alike q (sampled_on (pick second cb ca) ls) (times_of ls) (log second q text a b) (log_on second q text a b)
      (h.hears q text a b m ws ls ca cb says na nb r second)
      (captures.hears q text a b m ws ls ca cb says na nb r second)

  -- ---- the numbers ----

  module _ (q : Asked) (text a b : List ℕ) (room_a room_b : ℕ) where
    abbrev Alike : Type 0
    Alike = number q text a b room_a room_b ≡ number_of q text a b room_a room_b

    module _ (m : Modelled q) (ws : List Wire) (ls : List Line) (ca cb : ℕ) (says : Says text ws ls) (na : Named ws a ca) (nb : Named ws b cb) where
      fitting-alike : RisesFrom 0 (times_of ls) → Alike
      fitting-alike r = go (leb (length (log false q text a b)) room_a) refl (leb (length (log true q text a b)) room_b) refl
        where
          first : log false q text a b ≡ log_on false q text a b
          first = log-alike q text a b m ws ls ca cb says na nb r false

          second : log true q text a b ≡ log_on true q text a b
          second = log-alike q text a b m ws ls ca cb says na nb r true

          short : ((length (log false q text a b) ≤ room_a) × (length (log true q text a b) ≤ room_b) → ⊥) → Alike
          short n =
              h.eight q text a b room_a room_b m ws ls ca cb says na nb r n
              ∙ sym (captures.eight q text a b room_a room_b m ws ls ca cb says na nb r
              (subst (λ (l : List ℕ). (length l ≤ room_a) × (length (log_on true q text a b) ≤ room_b) → ⊥) first
              (subst (λ (l : List ℕ). (length (log false q text a b) ≤ room_a) × (length l ≤ room_b) → ⊥) second n)))

          go : (s : Bool) → leb (length (log false q text a b)) room_a ≡ s → (t : Bool) → leb (length (log true q text a b)) room_b ≡ t → Alike
          go true e true d =
              let x = leb-true _ _ e in
              let y = leb-true _ _ d in
              h.none q text a b room_a room_b m ws ls ca cb says na nb r x y
              ∙ sym (captures.none q text a b room_a room_b m ws ls ca cb says na nb r
              (subst (λ (l : List ℕ). length l ≤ room_a) first x) (subst (λ (l : List ℕ). length l ≤ room_b) second y))
          go true e false d = short (λ (p : (length (log false q text a b) ≤ room_a) × (length (log true q text a b) ≤ room_b)).
              omega (arith, p.1, leb-false (length (log true q text a b)) room_b d))
          go false e t d = short (λ (p : (length (log false q text a b) ≤ room_a) × (length (log true q text a b) ≤ room_b)).
              omega (arith, p.0, leb-false (length (log false q text a b)) room_a e))

      inside-alike : Alike
      inside-alike = go (times_from no_times ls).late refl
        where
          go : (t : Bool) → (times_from no_times ls).late ≡ t → Alike
          go false e = fitting-alike (in_time_rises ls e)
          go true e =
              let late : RisesFrom 0 (times_of ls) → ⊥ = λ (r : RisesFrom 0 (times_of ls)). true≢false (sym e ∙ rises_in_time ls r) in
              h.eleven q text a b room_a room_b m ws ls ca cb says na nb late
              ∙ sym (captures.eleven q text a b room_a room_b m ws ls ca cb says na nb late)

    modelled-alike : Modelled q → Alike
    modelled-alike m =
        told text a b (inside-alike m)
        (λ none. h.ten q text a b room_a room_b m none ∙ sym (captures.ten q text a b room_a room_b m none))

    pub number-alike : Alike
    number-alike = go (mr1_not_modelled q.mr1) refl (leb q.code 12) refl
      where
        five : (Modelled q → ⊥) → Alike
        five n = h.five q text a b room_a room_b n ∙ sym (captures.five q text a b room_a room_b n)

        go : (s : Bool) → mr1_not_modelled q.mr1 ≡ s → (t : Bool) → leb q.code 12 ≡ t → Alike
        go false e true d = modelled-alike (e, leb-true q.code 12 d)
        go true e t d = five (λ (p : Modelled q). true≢false (sym e ∙ p.0))
        go false e false d = five (λ (p : Modelled q). omega (arith, p.1, leb-false q.code 12 d))

  -- ---- the logs of a text that is read ----

  module _ (q : Asked) (text a b : List ℕ) (m : Modelled q) (z : scan_number (scan_of text a b) ≡ 0) (second : Bool) where
    in_time : (late : Bool) (s : Scanned) → scan_number (pick late (Err TimeNotLater) (Ok s)) ≡ 0 → late ≡ false
    unfolding pick scan_number
    in_time true s e = absurd (omega arith)
    in_time false s e = refl

    pub log-read : log second q text a b ≡ log_on second q text a b
    unfolding scan_number
    log-read =
        told text a b
        (λ ws ls ca cb says na nb.
        log-alike q text a b m ws ls ca cb says na nb
        (in_time_rises ls (in_time (times_from no_times ls).late _ (ap scan_number (sym (taken text a b ws ls says ca cb na nb)) ∙ z)))
        second)
        (λ none. absurd (omega (arith, z, ap scan_number (outside text a b none))))

-- ---- dumps ----

-- `waves` says all of a dump's logs too: whoever meets it has ours.
pub dump_alike : (number : Number) (log : Log) → ReadsBack number log dump_lines → (d : Device) (es : List Event) → length es ≤ 1000000
    → (q : Asked) → Modelled q → (a b : List ℕ) (j k : ℕ) → j < 11 → k < 11 → Named chip_wires a (33 + j) → Named chip_wires b (33 + k)
    → (second : Bool) → log second q (events_text d es) a b ≡ log_on second q (events_text d es) a b
dump_alike number log h d es few q m a b j k lj lk na nb second =
    logged_alike q (chip_line d (shown_of d es) (pick second k j)) (times_of (dump_lines d es)) (log second q (events_text d es) a b)
    (log_on second q (events_text d es) a b) (h.waves d es few q m a b j k lj lk na nb second)
    (reads_back.waves d es few q m a b j k lj lk na nb second)
