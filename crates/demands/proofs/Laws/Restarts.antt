-- The phases of a channel's clocks in the front run alone: so many ticks after a restart each stands at their number % its period, whatever events
-- came between, and a code below 13 pulses by it. Assumes nothing.
use Prim.Native.Nat.{ℕ, suc, ◌/◌, ◌%◌, ◌<◌}
use mathlib.Core.Path.{◌≡◌, refl, sym, ◌∙◌, ap}
use mathlib.Core.Bool.{Bool, true, false, ◌&&◌}
use mathlib.Core.List.{List, [], ◌∷◌}
use native.Mathlib.Omega.{arith}
use native.Mathlib.Nat.{zero-mod}
use lib.Dec.{eqb}
use borrow.Author.Tests.{eqb-true, lt-ltb}
use Rattle.format.specs.declared.counts.Ticks.{Ticks}
use Rattle.format.specs.Pick.{pick}
use Rattle.format.proofs.Laws.Pick.{pick_all}
use Rattle.dividers.specs.declared.divider.Divided.{Divided}
use Rattle.dividers.specs.Rates.{period_of}
use Rattle.dividers.proofs.Laws.Divider.{ticks_of, divided_at}
use Rattle.dividers.proofs.Laws.Rates.{period_between}
use Rattle.clocks.specs.declared.channel.ClockEvent.{ClockEvent}
use Rattle.clocks.specs.declared.channel.Phases.{Phases}
use Rattle.clocks.specs.Channel.{restarted, restarted_on_change, ticked_of, clocked_of}
use Rattle.clocks.specs.Channel as Channels
use Rattle.clocks.specs.Pulses.{Side, code_of}
use Rattle.clocks.specs.Pulses.Side.{receives, transmits}
use Rattle.clocks.proofs.Pulses.{phase_of, side_in}
use Rattle.front_side.specs.declared.side.Side as Sides
use Rattle.front_modes.specs.Modes.{mode_set}
use Rattle.front_side.specs.Side.{fresh_side, mode_written, csr_written, set_changed, buffer_written}
use Rattle.front_commands.specs.Commands.{side_commanded}
use Rattle.front.specs.declared.front.Front.{Front}
use Rattle.front.specs.Front.{front_at}
use Rattle.events.specs.declared.events.Event.{Event}
use Rattle.events.specs.declared.events.Event.TheVariants.{ChipReset, Read, Write, Acknowledge, Pins, Tick}
use Rattle.demands.specs.Chip.{Channel, register_of, over}
use Rattle.demands.specs.Chip.Channel.{A, B}
use Rattle.demands.specs.Told.{last_written}
use Rattle.demands.specs.Clocks.{front_then, front_after, side_of, clocks_of, pulsed_by}
use Rattle.demands.specs.Pulses.{Restarts, restarts_then, ticks_after, tick_event}
use Rattle.demands.proofs.Laws.Fronts.{side_written, side_next, side_next_lem}
use Rattle.demands.proofs.Laws.Told.{acr_next}

-- ---- a side of a channel, on a code below 13 ----

-- a tick, so many of them after a restart
clocked_tick : (side : Side) (p : Phases) (second : Bool) (csr k : ℕ) (b : ClockEvent) → code_of side csr < 13 → b.tick ≡ true
    → phase_of side p ≡ ticks_of (k % (period_of second (code_of side csr)).0)
    → side_in side (clocked_of p second csr b)
    ≡ record { phase = ticks_of (suc k % (period_of second (code_of side csr)).0); pulse = eqb (suc k % (period_of second (code_of side csr)).0) 0 }
unfolding clocked_of Channels.side_of ticked_of pick
clocked_tick receives p second csr k b h t e =
    let z = (period_between second (code_of receives csr) h).0 in
    rw (lt-ltb _ 13 h, t, e) (divided_at (period_of second (code_of receives csr)) k (omega arith))
clocked_tick transmits p second csr k b h t e =
    let z = (period_between second (code_of transmits csr) h).0 in
    rw (lt-ltb _ 13 h, t, e) (divided_at (period_of second (code_of transmits csr)) k (omega arith))

-- any other event
clocked_still : (side : Side) (p : Phases) (second : Bool) (csr : ℕ) (b : ClockEvent) → code_of side csr < 13 → b.tick ≡ false
    → side_in side (clocked_of p second csr b) ≡ record { phase = phase_of side p; pulse = false }
unfolding clocked_of Channels.side_of ticked_of pick
clocked_still receives p second csr b h t = rw (lt-ltb _ 13 h, t)
clocked_still transmits p second csr b h t = rw (lt-ltb _ 13 h, t)

-- ---- where a channel's phases stand, so many ticks after a restart ----

abbrev Stands : ℕ → ℕ → Sides.Side → Type 0
Stands acr ticks s =
    (side : Side) → code_of side s.csr < 13
    → phase_of side s.phases ≡ ticks_of (ticks % (period_of (eqb (acr / 128) 1) (code_of side s.csr)).0)

phase_restarted : (side : Side) (n : ℕ) → phase_of side restarted ≡ ticks_of (0 % n)
phase_restarted receives n = rw (zero-mod n)
phase_restarted transmits n = rw (zero-mod n)

stands_restarted : (acr : ℕ) (s : Sides.Side) → s.phases ≡ restarted → Stands acr 0 s
stands_restarted acr s e side h = rw e (phase_restarted side _)

-- a side whose clocks are another's
abbrev pub SameClocks : Sides.Side → Sides.Side → Type 0
SameClocks r s = (s.csr ≡ r.csr) × (s.phases ≡ r.phases)

stands_same : (acr ticks : ℕ) (r s : Sides.Side) → SameClocks r s → Stands acr ticks r → Stands acr ticks s
stands_same acr ticks r s same p side h = rw (same.0, same.1) (p side (rw same.0 at h))

-- an event that restarts nothing and is no tick
stands_clocked : (acr ticks : ℕ) (s : Sides.Side) (b : ClockEvent) → b.tick ≡ false → Stands acr ticks s
    → (side : Side) → code_of side s.csr < 13
    → phase_of side (clocked_of s.phases (eqb (acr / 128) 1) s.csr b).phases
    ≡ ticks_of (ticks % (period_of (eqb (acr / 128) 1) (code_of side s.csr)).0)
stands_clocked acr ticks s b t p side h =
    ap (λ (d : Divided Ticks). d.phase) (clocked_still side s.phases (eqb (acr / 128) 1) s.csr b h t) ∙ p side h

stands_ticked : (acr ticks : ℕ) (s : Sides.Side) (b : ClockEvent) → b.tick ≡ true → Stands acr ticks s
    → (side : Side) → code_of side s.csr < 13
    → phase_of side (clocked_of s.phases (eqb (acr / 128) 1) s.csr b).phases
    ≡ ticks_of (suc ticks % (period_of (eqb (acr / 128) 1) (code_of side s.csr)).0)
stands_ticked acr ticks s b t p side h =
    ap (λ (d : Divided Ticks). d.phase) (clocked_tick side s.phases (eqb (acr / 128) 1) s.csr ticks b h t (p side h))

-- ---- a write ----

pick_other : {A : Type 0} (P : A → Type 0) (t : Bool) (x y : A) → t ≡ false → P y → P (pick t x y)
unfolding pick
pick_other P t x y e q = rw e q

-- one that is not to the channel's CSR or to ACR
pub written_same : (ch : Channel) (f : Front) (n byte : ℕ) → eqb n (register_of ch 1) ≡ false → eqb n 4 ≡ false
    → SameClocks (side_of ch f) (side_written ch f n byte)
unfolding mode_set mode_written side_commanded buffer_written
written_same ch f n byte h k =
    pick_all P _ _ _ (pick_all P _ _ _ (refl, refl) (pick_all P _ _ _ written written))
    (pick_other P _ _ _ h
    (pick_all P _ _ _ (pick_all P _ _ _ (refl, refl) (refl, refl))
    (pick_all P _ _ _ (refl, refl)
    (pick_other P _ _ _ k
    (refl, refl)))))
  where
    P : Sides.Side → Type 0
    P s = SameClocks (side_of ch f) s

    written : P (mode_written (side_of ch f) byte)
    written = pick_all P _ _ _ (refl, refl) (refl, refl)

-- one to its CSR
pub csr_restarts : (ch : Channel) (f : Front) (n byte : ℕ) → eqb n (register_of ch 1) ≡ true → (side_written ch f n byte).phases ≡ restarted
unfolding csr_written pick
csr_restarts A f n byte e = let z : n ≡ 1 = eqb-true n 1 e in rw z
csr_restarts B f n byte e = let z : n ≡ 9 = eqb-true n 9 e in rw z

-- one to ACR
pub acr_written : (ch : Channel) (f : Front) (n byte : ℕ) → eqb n 4 ≡ true → side_written ch f n byte ≡ set_changed (side_of ch f) f.acr byte
unfolding pick
acr_written A f n byte e = let z : n ≡ 4 = eqb-true n 4 e in rw z
acr_written B f n byte e = let z : n ≡ 4 = eqb-true n 4 e in rw z

-- ---- what is counted since a restart ----

-- A fact of ACR, a count and a side, where a restart begins the count anew, only the clocks of the side matter, and of ACR only bit 7.
pub record Counts (P : ℕ → ℕ → Sides.Side → Type 0) : Type 0 where
  pub restarts : (acr : ℕ) (s : Sides.Side) → s.phases ≡ restarted → P acr 0 s
  pub same : (acr n : ℕ) (r s : Sides.Side) → SameClocks r s → P acr n r → P acr n s
  pub set : (acr byte n : ℕ) (s : Sides.Side) → eqb (acr / 128) (byte / 128) ≡ true → P acr n s → P byte n s

-- it goes over a write as the restarts tell
pub counts_written : (P : ℕ → ℕ → Sides.Side → Type 0) → Counts P → (ch : Channel) (x : Restarts) (f : Front) (n byte : ℕ) → f.acr ≡ x.acr
    → P f.acr x.ticks (side_of ch f)
    → P (last_written 4 0 f.acr (Write n byte)) (restarts_then ch x (Write n byte)).ticks (side_written ch f n byte)
unfolding set_changed restarted_on_change pick
counts_written P laws ch x f n byte told p = go (eqb n (register_of ch 1)) (eqb n 4) (eqb (f.acr / 128) (byte / 128)) refl refl refl
  where
    s : Sides.Side
    s = side_written ch f n byte

    Goal : Type 0
    Goal = P (last_written 4 0 f.acr (Write n byte)) (restarts_then ch x (Write n byte)).ticks s

    at : {acr before : ℕ} → acr ≡ before → {ticks past : ℕ} → ticks ≡ past → P before past s → P acr ticks s
    at e d q = rw (e, d) q

    go : (t u v : Bool) → eqb n (register_of ch 1) ≡ t → eqb n 4 ≡ u → eqb (f.acr / 128) (byte / 128) ≡ v → Goal
    go true u v h k w =
        let past : (restarts_then ch x (Write n byte)).ticks ≡ 0 = rw h in
        at {before = last_written 4 0 f.acr (Write n byte)} refl past (laws.restarts _ s (csr_restarts ch f n byte h))
    go false true true h k w =
        let set : last_written 4 0 f.acr (Write n byte) ≡ byte = rw k in
        let past : (restarts_then ch x (Write n byte)).ticks ≡ x.ticks = rw (h, k, ← told, w) in
        let same : SameClocks (side_of ch f) s = rw (acr_written ch f n byte k, w) (refl, refl) in
        at set past (laws.same byte x.ticks (side_of ch f) s same (laws.set f.acr byte x.ticks (side_of ch f) w p))
    go false true false h k w =
        let set : last_written 4 0 f.acr (Write n byte) ≡ byte = rw k in
        let past : (restarts_then ch x (Write n byte)).ticks ≡ 0 = rw (h, k, ← told, w) in
        let anew : s.phases ≡ restarted = rw (acr_written ch f n byte k, w) in
        at set past (laws.restarts byte s anew)
    go false false v h k w =
        let set : last_written 4 0 f.acr (Write n byte) ≡ f.acr = rw k in
        let past : (restarts_then ch x (Write n byte)).ticks ≡ x.ticks = rw (h, k) in
        at set past (laws.same f.acr x.ticks (side_of ch f) s (written_same ch f n byte h k) p)

-- ---- any event ----

-- a front whose phases stand as the restarts tell
record Told (ch : Channel) (x : Restarts) (f : Front) : Type 0 where
  acr : f.acr ≡ x.acr
  phases : Stands f.acr x.ticks (side_of ch f)

stands : Counts Stands
stands =
    record {
      restarts = stands_restarted;
      same = stands_same;
      set = λ acr byte n s e p side h. rw (← eqb-true (acr / 128) (byte / 128) e) (p side h);
    }

phases_next : (ch : Channel) (x : Restarts) (f : Front) (e : Event) → Told ch x f
    → Stands (last_written 4 0 f.acr e) (restarts_then ch x e).ticks (side_next ch f e)
unfolding fresh_side clocks_of
phases_next ch x f ChipReset p = stands_restarted 0 fresh_side refl
phases_next ch x f (Read n) p =
    stands_same f.acr x.ticks (side_of ch f) (side_next ch f (Read n))
    (pick_all (SameClocks (side_of ch f)) (eqb n (register_of ch 0)) _ _ (refl, refl) (refl, refl)) p.phases
phases_next ch x f (Write n byte) p = counts_written Stands stands ch x f n byte p.acr p.phases
phases_next ch x f Acknowledge p = p.phases
phases_next ch x f (Pins levels) p = stands_clocked f.acr x.ticks (side_of ch f) _ refl p.phases
phases_next ch x f Tick p = stands_ticked f.acr x.ticks (side_of ch f) _ refl p.phases

pub acr_restarts : (ch : Channel) (x : Restarts) (e : Event) → (restarts_then ch x e).acr ≡ last_written 4 0 x.acr e
unfolding pick
acr_restarts ch x ChipReset = refl
acr_restarts ch x (Read n) = refl
acr_restarts A x (Write n byte) = go (eqb n 1) (eqb n 4) refl refl
  where
    go : (t u : Bool) → eqb n 1 ≡ t → eqb n 4 ≡ u → (restarts_then A x (Write n byte)).acr ≡ pick (eqb n 4) byte x.acr
    go true u h k = let z : n ≡ 1 = eqb-true n 1 h in rw z
    go false true h k = rw (h, k)
    go false false h k = rw (h, k)
acr_restarts B x (Write n byte) = go (eqb n 9) (eqb n 4) refl refl
  where
    go : (t u : Bool) → eqb n 9 ≡ t → eqb n 4 ≡ u → (restarts_then B x (Write n byte)).acr ≡ pick (eqb n 4) byte x.acr
    go true u h k = let z : n ≡ 9 = eqb-true n 9 h in rw z
    go false true h k = rw (h, k)
    go false false h k = rw (h, k)
acr_restarts ch x Acknowledge = refl
acr_restarts ch x (Pins levels) = refl
acr_restarts ch x Tick = refl

told_next : (ch : Channel) (x : Restarts) (f : Front) (e : Event) → Told ch x f → Told ch (restarts_then ch x e) (front_then f e)
told_next ch x f e p =
    record {
      acr = acr_next f e ∙ rw p.acr (sym (acr_restarts ch x e));
      phases = rw (acr_next f e, side_next_lem ch f e) (phases_next ch x f e p);
    }

told_over : (ch : Channel) (x : Restarts) (f : Front) (es : List Event) → Told ch x f → Told ch (over (restarts_then ch) x es) (over front_then f es)
unfolding over
told_over ch x f [] p = p
told_over ch x f (e ∷ es) p = told_over ch (restarts_then ch x e) (front_then f e) es (told_next ch x f e p)

-- ---- codes 0 to 12 ----

pub fixed_pulse : (side : Side) (ch : Channel) (levels : ℕ) (es : List Event) (e : Event) → code_of side (side_of ch (front_after levels es)).csr < 13
    → pulsed_by side ch (front_after levels es) e
    ≡ (tick_event e
    && eqb (suc (ticks_after ch es) % (period_of (eqb ((front_after levels es).acr / 128) 1) (code_of side (side_of ch (front_after levels es)).csr)).0) 0)
unfolding front_at fresh_side pulsed_by clocks_of
fixed_pulse side ch levels es e h = go e
  where
    f : Front
    f = front_after levels es

    fresh : (ch : Channel) → (side_of ch (front_at levels)).phases ≡ restarted
    fresh A = refl
    fresh B = refl

    here : Told ch (over (restarts_then ch) (record { acr = 0; ticks = 0 }) es) f
    here = told_over ch _ (front_at levels) es (record { acr = refl; phases = stands_restarted 0 (side_of ch (front_at levels)) (fresh ch) })

    pulse : Divided Ticks → Bool
    pulse d = d.pulse

    go : (e : Event)
        → pulsed_by side ch f e ≡ (tick_event e && eqb (suc (ticks_after ch es) % (period_of (eqb (f.acr / 128) 1) (code_of side (side_of ch f).csr)).0) 0)
    go ChipReset = refl
    go (Read n) = refl
    go (Write n byte) = refl
    go Acknowledge = refl
    go (Pins x) =
        ap pulse (clocked_still side (side_of ch f).phases (eqb (f.acr / 128) 1) (side_of ch f).csr _ h refl)
    go Tick =
        ap pulse (clocked_tick side (side_of ch f).phases (eqb (f.acr / 128) 1) (side_of ch f).csr (ticks_after ch es) _ h refl (here.phases side h))
