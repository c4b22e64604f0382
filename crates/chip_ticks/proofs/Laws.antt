-- The laws that loops over ticks go by. Ticks within the room change no line, so that a hop, which is so many of them and one tick more, is as many
-- single ticks; and what is spent by hops adds up. Assumes nothing.
use Prim.Native.Nat.{ℕ, zero, suc, ◌+◌, ◌-◌, ◌<◌, ◌≤◌, min}
use mathlib.Core.Path.{◌≡◌, refl, sym, ◌∙◌, ap, subst}
use mathlib.Core.Bool.{Bool, true, false, ◌&&◌, true≢false}
use native.Mathlib.Omega.{arith}
use lib.Dec.{eqb-suc-zero}
use borrow.Author.Tests.{lt-ltb, le-ltb}
use Rattle.format.specs.Pick.{pick}
use Rattle.dividers.proofs.Laws.Divider.{ticks_of}
use Rattle.events.specs.declared.events.Event.TheVariants.{Tick}
use Rattle.chip_answers.specs.Answers.{no_lines}
use Rattle.chip_device.specs.declared.device.Device.{Device}
use Rattle.chip_device.specs.Device.{is_sound_of, device_lines}
use Rattle.chip_step.specs.declared.chip.Answer.{Answer}
use Rattle.chip_step.specs.Chip.{refusal_lines, step_of}
use Rattle.chip_fast.specs.Passing.{front_room, passed_of}
use Rattle.chip_fast.specs.declared.fast.Hopped.{Hopped}
use Rattle.chip_fast.specs.Fast.{at_rest, full_of, hop_of}
use Rattle.chip_fast.proofs.Laws.Ticked.{tick_step, unsound_refused}
use Rattle.chip_fast.proofs.Laws.Many.{ticked as on, passes, first_sound, first_falls}
use Rattle.chip_ticks.specs.declared.ticks.Spent.{Spent}
use Rattle.chip_ticks.specs.Ticks.{ticked, spent_none, later, spent_of, is_over}
use Rattle.chip_ticks.specs.Run.{run_refusal, ran_of, run_of}

-- ---- many ticks, and the last answer ----

-- so many ticks, and then so many more
pub ticked_more : (m n : ℕ) (a : Answer) → ticked (m + n) a ≡ ticked n (ticked m a)
unfolding ticked
ticked_more zero n a =
    let e : zero + n ≡ n = omega arith in
    rw e
ticked_more (suc m) n a =
    let e : suc m + n ≡ suc (m + n) = omega arith in
    rw e (ticked_more m n (step_of a.state Tick))

-- no tick more
pub ticked_none : (n : ℕ) (a : Answer) → n ≡ 0 → ticked n a ≡ a
unfolding ticked
ticked_none n a e = rw e

-- a tick of a sound device: accepted, and it is answered by its state
tick_rests : (d : Device) → is_sound_of d ≡ true → at_rest (step_of d Tick).state ≡ step_of d Tick
unfolding at_rest
tick_rests d s = ap (λ (x : Answer). at_rest x.state) (tick_step d s) ∙ sym (tick_step d s)

rests : (n : ℕ) (a : Answer) → is_sound_of a.state ≡ true
    → at_rest (spent_of false (suc n) a.state).state ≡ ticked (suc n) a
unfolding ticked spent_of pick
rests zero a s = tick_rests a.state s
rests (suc n) a s = rests n (step_of a.state Tick) (first_sound a.state s)

pub ticked_sound : (n : ℕ) (a : Answer) → 0 < n → is_sound_of a.state ≡ true
    → at_rest (spent_of false n a.state).state ≡ ticked n a
ticked_sound zero a l s = absurd (omega arith)
ticked_sound (suc n) a l s = rests n a s

-- "the state as given"
unsound_stays : (d : Device) → is_sound_of d ≡ false → (step_of d Tick).state ≡ d
unsound_stays d s = ap (λ (x : Answer). x.state) (sym (unsound_refused d Tick s))

refused_on : (n : ℕ) (a : Answer) → is_sound_of a.state ≡ false → step_of a.state Tick ≡ ticked (suc n) a
unfolding ticked
refused_on zero a s = refl
refused_on (suc n) a s =
    let e = unsound_stays a.state s in
    ap (λ (d : Device). step_of d Tick) (sym e) ∙ refused_on n (step_of a.state Tick) (ap is_sound_of e ∙ s)

pub ticked_unsound : (n : ℕ) (a : Answer) → 0 < n → is_sound_of a.state ≡ false → step_of a.state Tick ≡ ticked n a
ticked_unsound zero a l s = absurd (omega arith)
ticked_unsound (suc n) a l s = refused_on n a s

-- ---- a hop ----

abbrev pub plus : ℕ → Spent → Spent
plus n s = record { ticks = n + s.ticks; state = s.state }

-- one tick that is not over
one_spent : (watch : Bool) (n : ℕ) (d : Device) → (watch && (device_lines d).irq) ≡ false
    → spent_of watch (suc n) d ≡ later (spent_of watch n (step_of d Tick).state)
unfolding spent_of pick
one_spent watch n d e = rw e

full_state : (d : Device) → is_sound_of d ≡ true → (step_of d Tick).state ≡ full_of d
unfolding at_rest
full_state d s = ap (λ (x : Answer). x.state) (tick_step d s)

-- no line changes in a still tick
still_line : (watch : Bool) (d : Device) → is_sound_of d ≡ true → 1 ≤ front_room d.front
    → (watch && (device_lines (step_of d Tick).state).irq) ≡ (watch && (device_lines d).irq)
still_line watch d s h = ap (λ l. watch && l.irq) (passes.lines 1 d s h)

hop_on : (watch : Bool) (n m : ℕ) (d : Device) → is_sound_of d ≡ true → n ≤ front_room d.front
    → (watch && (device_lines d).irq) ≡ false
    → spent_of watch (n + suc m) d ≡ plus (suc n) (spent_of watch m (full_of (on n d)))
hop_on watch zero m d s h e =
    let z : zero + suc m ≡ suc m = omega arith in
    let rest = one_spent watch m d e in
    ap (λ (k : ℕ). spent_of watch k d) z ∙ rest ∙ ap (λ (x : Device). later (spent_of watch m x)) (full_state d s)
    ∙ made (spent_of watch m (full_of d))
  where
    made : (x : Spent) → later x ≡ plus 1 x
    made x = ap (λ (k : ℕ). record { ticks = k; state = x.state }) (omega arith)
hop_on watch (suc n) m d s h e =
    let z : suc n + suc m ≡ suc (n + suc m) = omega arith in
    let x = (step_of d Tick).state in
    let same = still_line watch d s (omega (arith, h)) in
    ap (λ (k : ℕ). spent_of watch k d) z ∙ one_spent watch (n + suc m) d e
    ∙ ap later (hop_on watch n m x (first_sound d s) (first_falls n d s h) (same ∙ e))
    ∙ made (spent_of watch m (full_of (on n x)))
  where
    made : (x : Spent) → later (plus (suc n) x) ≡ plus (suc (suc n)) x
    made x = ap (λ (k : ℕ). record { ticks = k; state = x.state }) (omega arith)

-- the state after a hop of n still ticks
abbrev hopped : Device → ℕ → Device
hopped d n = full_of (passed_of d (ticks_of n))

hop_spent : (watch : Bool) (n m : ℕ) (d : Device) → is_sound_of d ≡ true → n ≤ front_room d.front
    → (watch && (device_lines d).irq) ≡ false
    → spent_of watch (n + suc m) d ≡ plus (suc n) (spent_of watch m (hopped d n))
hop_spent watch n m d s h e =
    hop_on watch n m d s h e ∙ ap (λ (x : Device). plus (suc n) (spent_of watch m (full_of x))) (passes.states n d s h)

on_sound : (n : ℕ) (d : Device) → is_sound_of d ≡ true → is_sound_of (on n d) ≡ true
on_sound zero d s = s
on_sound (suc n) d s = on_sound n (step_of d Tick).state (first_sound d s)

hop_sound : (n : ℕ) (d : Device) → is_sound_of d ≡ true → n ≤ front_room d.front → is_sound_of (hopped d n) ≡ true
hop_sound n d s h =
    let sound = on_sound n d s in
    ap (λ (x : Device). is_sound_of (full_of x)) (sym (passes.states n d s h))
    ∙ ap is_sound_of (sym (full_state (on n d) sound)) ∙ first_sound (on n d) sound

-- ---- what is spent ----

looked : (watch x : Bool) → pick watch x false ≡ (watch && x)
unfolding pick
looked true x = refl
looked false x = refl

some_left : (watch : Bool) (n : ℕ) (d : Device) → is_over watch (suc n) d ≡ (watch && (device_lines d).irq)
unfolding is_over pick
some_left watch n d = rw (eqb-suc-zero n) (looked watch (device_lines d).irq)

pub over_none : (watch : Bool) (n : ℕ) (d : Device) → is_over watch n d ≡ true → spent_of watch n d ≡ spent_none d
unfolding spent_of pick
over_none watch zero d e = refl
over_none watch (suc n) d e =
    let asserted = sym (some_left watch n d) ∙ e in
    rw asserted

-- not over: some are left, and IRQ is not asserted where it is looked at
pub not_over : (watch : Bool) (n : ℕ) (d : Device) → is_over watch n d ≡ false → (0 < n) × ((watch && (device_lines d).irq) ≡ false)
unfolding is_over pick
not_over watch zero d e = absurd (true≢false e)
not_over watch (suc n) d e = (omega arith, sym (some_left watch n d) ∙ e)

most_of : (t : Bool) (n : ℕ) (d : Device) (x : Spent) → x.ticks ≤ n → (pick t (spent_none d) (later x)).ticks ≤ suc n
unfolding pick
most_of true n d x h = omega arith
most_of false n d x h = omega (arith, h)

pub spent_most : (watch : Bool) (n : ℕ) (d : Device) → (spent_of watch n d).ticks ≤ n
unfolding spent_of
spent_most watch zero d = omega arith
spent_most watch (suc n) d =
    most_of (watch && (device_lines d).irq) n d (spent_of watch n (step_of d Tick).state) (spent_most watch n (step_of d Tick).state)

-- Where the loop stands: of n ticks so many are left, and what they spend, and what is spent already, is what n spend.
pub record Sofar (watch : Bool) (n : ℕ) (d : Device) (left : ℕ) (x : Device) : Type 0 where
  pub sound : is_sound_of x ≡ true
  pub most : left ≤ n
  pub spent : spent_of watch n d ≡ plus (n - left) (spent_of watch left x)

pub starts : (watch : Bool) (n : ℕ) (d : Device) → is_sound_of d ≡ true → Sofar watch n d n d
starts watch n d s =
    record {
      sound = s;
      most = omega arith;
      spent = ap (λ (k : ℕ). record { ticks = k; state = (spent_of watch n d).state }) (omega arith);
    }

adds : (n left k : ℕ) (x : Spent) → suc k ≤ left → left ≤ n → plus (n - left) (plus (suc k) x) ≡ plus (n - (left - (k + 1))) x
adds n left k x h l = ap (λ (m : ℕ). record { ticks = m; state = x.state }) (omega arith)

hops_by : (watch : Bool) (n : ℕ) (d : Device) (left : ℕ) (x : Device) (k : ℕ) → Sofar watch n d left x
    → is_over watch left x ≡ false → k ≤ front_room x.front → suc k ≤ left → Sofar watch n d (left - (k + 1)) (hopped x k)
hops_by watch n d left x k h e room l =
    let some = not_over watch left x e in
    let most = h.most in
    let parts : left ≡ k + suc (left - (k + 1)) = omega arith in
    record {
      sound = hop_sound k x h.sound room;
      most = omega arith;
      spent =
          h.spent ∙ ap (λ (m : ℕ). plus (n - left) (spent_of watch m x)) parts
          ∙ ap (plus (n - left)) (hop_spent watch k (left - (k + 1)) x h.sound room some.1)
          ∙ adds n left k (spent_of watch (left - (k + 1)) (hopped x k)) l most;
    }

-- a hop is within the room, and within what is left
pub hop_within : (left : ℕ) (x : Device) (h : Hopped) → 0 < left → h ≡ hop_of x (ticks_of (left - 1))
    → (h.still.0 ≤ front_room x.front) × (suc h.still.0 ≤ left)
unfolding hop_of
hop_within left x h some made = rw made (least_first _ _, least-second _ _ some)
  where
    least_first : (a b : ℕ) → min a b ≤ a
    least_first a b = omega arith

    least-second : (a b : ℕ) → 0 < b → suc (min a (b - 1)) ≤ b
    least-second a b l = omega (arith, l)

hop_state : (left : ℕ) (x : Device) (h : Hopped) → h ≡ hop_of x (ticks_of (left - 1)) → hopped x h.still.0 ≡ h.state
unfolding hop_of
hop_state left x h made = rw made

pub hops : (watch : Bool) (n : ℕ) (d : Device) (left : ℕ) (x : Device) (h : Hopped) → Sofar watch n d left x → is_over watch left x ≡ false
    → h ≡ hop_of x (ticks_of (left - 1)) → Sofar watch n d (left - (h.still.0 + 1)) h.state
hops watch n d left x h sofar e made =
    let within = hop_within left x h (not_over watch left x e).0 made in
    subst (λ (z : Device). Sofar watch n d (left - (h.still.0 + 1)) z) (hop_state left x h made)
    (hops_by watch n d left x h.still.0 sofar e within.0 within.1)

pub ends : (watch : Bool) (n : ℕ) (d : Device) (left : ℕ) (x : Device) → Sofar watch n d left x → is_over watch left x ≡ true
    → record { ticks = n - left; state = x } ≡ spent_of watch n d
ends watch n d left x h e =
    let none : n - left + 0 ≡ n - left = omega arith in
    sym (h.spent ∙ ap (plus (n - left)) (over_none watch left x e) ∙ ap (λ (k : ℕ). record { ticks = k; state = x }) none)

-- ---- a run ----

pub run_unsound : (d : Device) (budget : ℕ) → is_sound_of d ≡ false
    → record { number = 1; ticks = 0; lines = no_lines; state = d } ≡ run_of d budget
unfolding run_of run_refusal refusal_lines pick
run_unsound d budget s = rw s

pub run_over : (d : Device) (budget : ℕ) → is_sound_of d ≡ true → 1000000 < budget
    → record { number = 9; ticks = 0; lines = device_lines d; state = d } ≡ run_of d budget
unfolding run_of run_refusal refusal_lines pick
run_over d budget s l = rw (s, lt-ltb 1000000 budget l)

pub run_within : (d : Device) (budget : ℕ) → is_sound_of d ≡ true → budget ≤ 1000000
    → ran_of (spent_of true budget d) ≡ run_of d budget
unfolding run_of run_refusal pick
run_within d budget s l = rw (s, le-ltb 1000000 budget l)
