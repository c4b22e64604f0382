-- What ReadsBack supposes of a receiver is met for every MR1 that is modelled, any levels and either channel, on its pin's clock: what its pulses
-- find follows by induction on the levels, from what the events tell. So every byte's frame is read back in every format. Assumes nothing.
use Prim.Native.Nat.{ℕ, suc, ◌<◌, ◌/◌, ◌%◌, ◌+◌, ◌^◌}
use mathlib.Core.Path.{◌≡◌, refl, ◌∙◌, ap}
use mathlib.Core.Bool.{Bool, true, false, ◌||◌, true≢false, and-false}
use mathlib.Core.List.{List, [], ◌∷◌, ◌++◌}
use native.Mathlib.Omega.{arith}
use lib.Dec.{eqb}
use lib.ListN.{length, length-append}
use borrow.Author.Tests.{ne_eqb}
use Rattle.format.specs.Digits.{bit}
use Rattle.format.specs.Pick.{pick}
use Rattle.format.specs.Format.{mr1_not_modelled, format_of}
use Rattle.format.specs.declared.format.Format.{Format}
use Rattle.frame.specs.Levels.{frame}
use Rattle.character.specs.declared.character.Character.{Character}
use Rattle.character.specs.Character.{clean}
use Rattle.sampler.specs.Lines.{at16, hears}
use Rattle.sampler.specs.Lines.Line.{pulse}
use Rattle.sampler.specs.Sampler.{sample_of}
use Rattle.sampler_hunting.specs.Hunting.{hunted}
use Rattle.receiver.specs.Delivery.{Ledger, Fate, fated_by}
use Rattle.receiver.specs.Delivery.Fate.{WasRead, Held}
use Rattle.receiver.specs.ReadBack.{Idle}
use Rattle.clocks.specs.Pulses.Side.{receives}
use Rattle.byte_bits.specs.Bytes.{has_bit}
use Rattle.events.specs.declared.events.Event.{Event}
use Rattle.events.specs.declared.events.Event.TheVariants.{Write, Pins}
use Rattle.demands.specs.Chip.{Channel, of_channel, register_of, and_then, over, status_bit, each_of}
use Rattle.demands.specs.Chip.Channel.{A, B}
use Rattle.demands.specs.Told.{levels_then, levels_after, Programmed, unprogrammed, programmed_then, programmed, in_local, in_remote}
use Rattle.demands.specs.Delivery.{lines_at, lines_from, fate_of, ledger_from, ledger, read_from, held}
use Rattle.demands.specs.ReadBack.{Listens, undisturbed, carried, format_after, ReadBack}
use Rattle.demands.proofs.Laws.Told.{over_then}
use Rattle.demands.proofs.Pulses.{pulses}
use Rattle.demands.proofs.Delivery.{demand_3}
use Rattle.demands.proofs.Received.{received}
use Rattle.demands.proofs.ReadBack.{reads_back}
use Rattle.demands.proofs.Laws.Looks.{chip}

-- ---- the events ----

-- "receiver on a rising edge (A IP4, B IP2)", with "6 RxDA, 7 RxDB" at a level and every other pin high: the clock low, and high
abbrev low : Channel → Bool → ℕ
low ch level = of_channel ch (pick level 239 175) (pick level 251 123)

abbrev high : Channel → Bool → ℕ
high ch level = of_channel ch (pick level 255 191) (pick level 255 127)

-- pulses with RxD at these levels
abbrev pub heard : Channel → List Bool → List Event
heard ch [] = []
heard ch (level ∷ ls) = Pins (low ch level) ∷ Pins (high ch level) ∷ heard ch ls

-- ---- the levels ----

-- code 14, and the receiver enabled
pub record Clocked (p : Programmed) : Type 0 where
  pub code : p.csr / 16 ≡ 14
  pub enabled : p.receives ≡ true
  -- order 2: "in normal mode or automatic echo"
  pub local : in_local p ≡ false
  pub remote : in_remote p ≡ false

low_clock : (ch : Channel) (level : Bool) → has_bit (low ch level) (of_channel ch 4 2) ≡ false
unfolding has_bit pick
low_clock A true = refl
low_clock A false = refl
low_clock B true = refl
low_clock B false = refl

high_clock : (ch : Channel) (level : Bool) → has_bit (high ch level) (of_channel ch 4 2) ≡ true
unfolding has_bit pick
high_clock A true = refl
high_clock A false = refl
high_clock B true = refl
high_clock B false = refl

on_line : (ch : Channel) (level : Bool) → has_bit (high ch level) (of_channel ch 6 7) ≡ level
unfolding has_bit pick
on_line A true = refl
on_line A false = refl
on_line B true = refl
on_line B false = refl

pub told_on : (ch : Channel) (es : List Event) (x : ℕ) → programmed ch (and_then es (Pins x)) ≡ programmed ch es
unfolding programmed_then
told_on ch es x = over_then (programmed_then ch) unprogrammed es (Pins x)

pub levels_on : (levels : ℕ) (es : List Event) (x : ℕ) → levels_after levels (and_then es (Pins x)) ≡ x
levels_on levels es x = over_then levels_then levels es (Pins x)

-- the clock goes low: nothing is heard
falls_silent : (levels : ℕ) (ch : Channel) (es : List Event) (x : ℕ) → Clocked (programmed ch es) → has_bit x (of_channel ch 4 2) ≡ false
    → lines_at ch levels es (Pins x) ≡ []
unfolding lines_at pick
falls_silent levels ch es x k down =
    let code : 13 < (programmed ch es).csr / 16 = rw k.code (omega arith) in
    rw (k.enabled, k.local, k.remote, pulses.pin receives ch levels es (Pins x) code, down, and-false)

-- and high: the level on RxD is
rises_heard : (levels : ℕ) (ch : Channel) (es : List Event) (x : ℕ) → Clocked (programmed ch es)
    → has_bit (levels_after levels es) (of_channel ch 4 2) ≡ false → has_bit x (of_channel ch 4 2) ≡ true
    → lines_at ch levels es (Pins x) ≡ pulse (has_bit x (of_channel ch 6 7)) (at16 (format_after ch es)) ∷ []
unfolding lines_at pick
rises_heard levels ch es x k down up =
    let code : 13 < (programmed ch es).csr / 16 = rw k.code (omega arith) in
    rw (k.enabled, k.local, k.remote, pulses.pin receives ch levels es (Pins x) code, down, up, levels_on levels es x, k.code)

-- what the pulses find, in the format that MR1 chooses
pub found : (levels : ℕ) (ch : Channel) (es : List Event) → Clocked (programmed ch es) → (ls : List Bool)
    → lines_from ch levels es (heard ch ls) ≡ carried (at16 (format_after ch es)) ls
unfolding lines_from
found levels ch es k [] = refl
found levels ch es k (level ∷ ls) =
    let fs : List Event = and_then es (Pins (low ch level)) in
    let gs : List Event = and_then fs (Pins (high ch level)) in
    let once : programmed ch fs ≡ programmed ch es = told_on ch es (low ch level) in
    let twice : programmed ch gs ≡ programmed ch es = told_on ch fs (high ch level) ∙ once in
    let down : has_bit (levels_after levels fs) (of_channel ch 4 2) ≡ false = rw (levels_on levels es (low ch level)) (low_clock ch level) in
    rw (
      falls_silent levels ch es (low ch level) k (low_clock ch level),
      rises_heard levels ch fs (high ch level) (rw once k) down (high_clock ch level),
      on_line ch level,
      found levels ch gs (rw twice k) ls,
      twice,
      once,
    )

-- ---- the set-up ----

-- "Not modelled (5): MR1 bit 7 set or bits 4-3 = 11": any other MR1
pub record Modelled (mr1 : ℕ) : Type 0 where
  pub seven : mr1 / 128 % 2 ≡ 0
  pub parity : mr1 / 8 % 4 < 3

-- MR1, CSR code 14, and the receiver enabled
abbrev enabling : Channel → ℕ → List Event
enabling ch mr1 = Write (register_of ch 0) mr1 ∷ Write (register_of ch 1) 238 ∷ Write (register_of ch 2) 1 ∷ []

-- then one high
abbrev pub listening : Channel → ℕ → List Event
listening ch mr1 = enabling ch mr1 ++ heard ch (true ∷ [])

pub modelled : (mr1 : ℕ) → Modelled mr1 → mr1_not_modelled mr1 ≡ false
modelled mr1 m = rw (m.seven, ne_eqb (mr1 / 8 % 4) 3 (λ e. absurd (omega (arith, e, m.parity))))

abbrev told : ℕ → Programmed
told mr1 = record { mr1 = mr1; mr2 = 0; moved = true; csr = 238; receives = true; transmits = false }

set_told : (ch : Channel) (mr1 : ℕ) → mr1_not_modelled mr1 ≡ false → programmed ch (enabling ch mr1) ≡ told mr1
unfolding over programmed_then pick
set_told A mr1 m = rw m
set_told B mr1 m = rw m

listening_told : (ch : Channel) (mr1 : ℕ) → Modelled mr1 → programmed ch (listening ch mr1) ≡ told mr1
listening_told ch mr1 m =
    told_on ch (and_then (enabling ch mr1) (Pins (low ch true))) (high ch true)
    ∙ told_on ch (enabling ch mr1) (low ch true) ∙ set_told ch mr1 (modelled mr1 m)

told_clocked : (mr1 : ℕ) → Clocked (told mr1)
told_clocked mr1 = record { code = refl; enabled = refl; local = refl; remote = refl }

-- idle, and nothing has arrived
record Quiet (l : Ledger) : Type 0 where
  idle : Idle l.sampler
  none : l.entries ≡ []

-- what it hears: it is enabled, and one pulse finds a high
idle_ledger : (levels : ℕ) (ch : Channel) (mr1 : ℕ) → Modelled mr1 → Quiet (ledger ch levels (listening ch mr1))
unfolding ledger_from lines_at fate_of over programmed_then hears sample_of hunted pick
idle_ledger levels ch mr1 m = go ch (modelled mr1 m) (silent ch) (sounds ch)
  where
    es : Channel → List Event
    es ch = enabling ch mr1

    fs : Channel → List Event
    fs ch = and_then (es ch) (Pins (low ch true))

    k : (ch : Channel) → Clocked (programmed ch (es ch))
    k ch = rw (set_told ch mr1 (modelled mr1 m)) (told_clocked mr1)

    silent : (ch : Channel) → lines_at ch levels (es ch) (Pins (low ch true)) ≡ []
    silent ch = falls_silent levels ch (es ch) (low ch true) (k ch) (low_clock ch true)

    sounds : (ch : Channel) → lines_at ch levels (fs ch) (Pins (high ch true)) ≡ pulse true (at16 (format_after ch (fs ch))) ∷ []
    sounds ch =
        rises_heard levels ch (fs ch) (high ch true) (rw (told_on ch (es ch) (low ch true)) (k ch))
        (rw (levels_on levels (es ch) (low ch true)) (low_clock ch true)) (high_clock ch true)
        ∙ rw (on_line ch true)

    go : (ch : Channel) → mr1_not_modelled mr1 ≡ false → lines_at ch levels (es ch) (Pins (low ch true)) ≡ []
        → lines_at ch levels (fs ch) (Pins (high ch true)) ≡ pulse true (at16 (format_after ch (fs ch))) ∷ []
        → Quiet (ledger ch levels (listening ch mr1))
    go A n p q = rw (p, q, n) (record { idle = record { hunts = refl; high = refl }; none = refl })
    go B n p q = rw (p, q, n) (record { idle = record { hunts = refl; high = refl }; none = refl })

-- ---- all that is supposed of a receiver ----

fated_length : (f : Fate) (cs : List Character) → length (fated_by f cs) ≡ length cs
fated_length f [] = refl
fated_length f (c ∷ cs) = ap suc (fated_length f cs)

-- nothing has arrived: nothing is held, and the ready bit is clear
empty : (levels : ℕ) (ch : Channel) (es : List Event) → (ledger ch levels es).entries ≡ [] → status_bit chip levels ch es 0 ≡ false
empty levels ch es none =
    let read : List (Character × Fate) = fated_by WasRead (read_from chip levels ch [] es) in
    let kept : List (Character × Fate) = fated_by Held (held chip levels ch es) in
    let both : [] ≡ read ++ kept = rw none at (demand_3 levels ch es).fates in
    let sum : 0 ≡ length read + length kept = ap length both ∙ length-append read kept in
    let zero : length (held chip levels ch es) ≡ 0 = omega (arith, sum, fated_length Held (held chip levels ch es)) in
    received.ready levels ch es ∙ rw zero

undisturbed_by : (ch : Channel) (ls : List Bool) → each_of (undisturbed ch) (heard ch ls) ≡ true
undisturbed_by ch [] = refl
undisturbed_by ch (level ∷ ls) = undisturbed_by ch ls

-- with any levels on the pins at the chip reset
pub record Met (levels : ℕ) (ch : Channel) (mr1 : ℕ) (ls : List Bool) : Type 0 where
  pub listens : Listens chip levels ch (listening ch mr1)
  pub format : format_after ch (listening ch mr1) ≡ format_of mr1
  pub undisturbed : each_of (undisturbed ch) (heard ch ls) ≡ true
  pub found : lines_from ch levels (listening ch mr1) (heard ch ls) ≡ carried (at16 (format_of mr1)) ls

pub met : (levels : ℕ) (ch : Channel) (mr1 : ℕ) (ls : List Bool) → Modelled mr1 → Met levels ch mr1 ls
met levels ch mr1 ls m =
    let told : programmed ch (listening ch mr1) ≡ told mr1 = listening_told ch mr1 m in
    let quiet : Quiet (ledger ch levels (listening ch mr1)) = idle_ledger levels ch mr1 m in
    record {
      listens = record {
        idle = quiet.idle;
        enabled = ap (λ (p : Programmed). p.receives) told;
        empty = empty levels ch (listening ch mr1) quiet.none;
      };
      format = ap (λ (p : Programmed). format_of p.mr1) told;
      undisturbed = undisturbed_by ch ls;
      found =
          found levels ch (listening ch mr1) (rw told (told_clocked mr1)) ls
          ∙ ap (λ (p : Programmed). carried (at16 (format_of p.mr1)) ls) told;
    }

-- ---- a frame ----

-- "the same character, cut to its data bits, without an error mark"; "1-0 data bits less 5"
pub record FrameRead (levels : ℕ) (ch : Channel) (mr1 code x : ℕ) : Type 0 where
  pub back : ReadBack chip levels ch (listening ch mr1) (heard ch (frame true (format_of mr1) code x)) x
  pub held : held chip levels ch (listening ch mr1 ++ heard ch (frame true (format_of mr1) code x)) ≡ clean (x % 2 ^ (mr1 % 4 + 5)) ∷ []

pub frame_read : (levels : ℕ) (ch : Channel) (mr1 code x : ℕ) → Modelled mr1 → FrameRead levels ch mr1 code x
unfolding format_of
frame_read levels ch mr1 code x m =
    let ls : List Bool = frame true (format_of mr1) code x in
    let s : Met levels ch mr1 ls = met levels ch mr1 ls m in
    let back : ReadBack chip levels ch (listening ch mr1) (heard ch ls) x =
    reads_back.frame levels ch (listening ch mr1) (heard ch ls) code x s.listens s.undisturbed
    (s.found ∙ rw s.format) in
    record { back = back; held = back.held ∙ ap (λ (f : Format). clean (x % 2 ^ f.width.0) ∷ []) s.format }

-- ---- shut out ----

-- "MR1 bit 7 set or bits 4-3 = 11": a test that refuses 01, forced parity, too, so that no receiver would take it
no_forced_refused : ((mr1 : ℕ) → Modelled mr1 → (eqb (mr1 / 128 % 2) 1 || eqb (mr1 / 8 % 2) 1) ≡ false) → ⊥
no_forced_refused h = true≢false (h 8 (record { seven = refl; parity = omega arith }))

-- "1-0 data bits less 5": 6 data bits taken for 7
no_six_as_seven : ((mr1 x : ℕ) → Modelled mr1 → x % 2 ^ (mr1 % 4 + 5 + bit (eqb (mr1 % 4) 1)) ≡ x % 2 ^ (mr1 % 4 + 5)) → ⊥
no_six_as_seven h = omega (arith, h 1 64 (record { seven = refl; parity = omega arith }))
