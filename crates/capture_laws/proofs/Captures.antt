-- The theorem: our capture is order 7's, of every text. What is scanned goes by the subset, and what is heard by the levels that the lines give. Assumes nothing.
use Prim.Native.Nat.{ℕ, zero, suc, ◌+◌, ◌-◌, ◌*◌, ◌/◌, ◌≤◌, ◌<◌}
use mathlib.Core.Path.{◌≡◌, refl, ◌∙◌, ap}
use mathlib.Core.Bool.{Bool, true, false, ◌||◌}
use mathlib.Core.List.{List, [], ◌∷◌}
use native.Mathlib.Nat.{zero-lt-suc, div-le_self}
use native.Mathlib.Omega.{arith}
use lib.Dec.{ltb}
use lib.ListN.{length, drop, get_or}
use borrow.Author.Tests.{ne_eqb, le-ltb, ltb-false, leb-true, leb-false}
use Rattle.std.specs.Prelude.{Some, Ok, Err}
use Rattle.format.specs.Pick.{pick}
use Rattle.format.specs.Format.{mr1_not_modelled, format_of}
use Rattle.feed.specs.declared.feed.Setting.{Setting}
use Rattle.character.specs.declared.character.Character.{Character}
use Rattle.sampler_state.specs.State.{hunting}
use Rattle.sampler.specs.Lines.{at16, arrivals}
use Rattle.dividers.proofs.Laws.Rates.{period_between}
use Rattle.vcd_text.specs.Header.{Wire, header_of}
use Rattle.vcd_text.specs.Time.{time_of}
use Rattle.vcd_text.specs.Lines.{Line, lines_text, times_of, RisesFrom}
use Rattle.vcd_text.specs.Lines.Line.{Time, Value}
use Rattle.vcd_read.specs.declared.checking.Times.{Times}
use Rattle.refusal.specs.declared.refusal.Refusal.{Refusal}
use Rattle.refusal.specs.declared.refusal.Refusal.TheVariants.{TextOutside, TimeNotLater}
use Rattle.refusal.specs.Refusal as Refusals
use Rattle.vcd_read.specs.declared.scanning.Scanned.{Scanned}
use Rattle.vcd_lines.specs.Body.{started}
use Rattle.vcd_read.specs.Wires.{has_code}
use Rattle.vcd_read.specs.Scan.{no_times, time_added, times_from, scan_of, found_in}
use Rattle.vcd_lines.proofs.Laws.Reads.{readable}
use Rattle.vcd_subset.specs.Subset.{Named, Says}
use Rattle.vcd_subset.proofs.Header.{header-left}
use Rattle.vcd_subset.proofs.Takes.{lines_are, rises_in_time, in_time_rises, taken, outside}
use Rattle.vcd_capture.specs.declared.capturing.Asked.{Asked}
use Rattle.vcd_capture.specs.Logs.{log_bytes}
use Rattle.vcd_capture.specs.Ear.{ticks_before, pulses_before, heard_from, just_enabled}
use Rattle.vcd_capture.specs.Capture.{setting_of, end_after, end_of, text_refusal, capture_refusal, log_a, log_b, number_of}
use Rattle.vcd_capture.specs.Waves.{level_pulses, NoneAfter}
use Rattle.vcd_capture.proofs.Laws.Waves.{early, late, text-heard}
use Rattle.capture_laws.specs.Captures.{period_for, Heard, last_of, HeardBy, sampled_on, Logged, Modelled, Log, Captures}

-- ---- the last time ----

-- it is no earlier than one before it
last_grows : (x : Times) (u : ℕ) (ls : List Line) → x.last ≡ Some u → RisesFrom (suc u) (times_of ls) → u + 1 ≤ end_of (times_from x ls)
unfolding RisesFrom times_of times_from end_after
last_grows x u [] e r = rw e (omega arith)
last_grows x u (Value c v ∷ ls) e r = last_grows x u ls e r
last_grows x u (Time t ∷ ls) e (l, r) = let h = last_grows (time_added x t) t ls refl r in omega arith

none_after : (x : Times) (u : ℕ) (ls : List Line) → RisesFrom u (times_of ls) → NoneAfter (end_of (times_from x ls)) ls
unfolding RisesFrom times_of times_from NoneAfter
none_after x u [] r = tt
none_after x u (Value c v ∷ ls) r = none_after x u ls r
none_after x u (Time t ∷ ls) (l, r) =
    let h = last_grows (time_added x t) t ls refl r in
    (omega arith, none_after (time_added x t) (suc t) ls r)

end_is : (x : Times) (u : ℕ) (ls : List Line) → x.last ≡ Some u → end_of (times_from x ls) ≡ last_of u (times_of ls) + 1
unfolding times_of times_from end_after last_of
end_is x u [] e = rw e
end_is x u (Value c v ∷ ls) e = end_is x u ls e
end_is x u (Time t ∷ ls) e = end_is (time_added x t) t ls refl

-- ---- the levels ----

lines_any : (known : ℕ → Bool) (timed : Bool) (ls : List Line) → readable known timed ls → readable (λ (c : ℕ). true) timed ls
unfolding readable
lines_any known timed [] h = tt
lines_any known timed (Time t ∷ ls) (l, h) = (l, lines_any known true ls h)
lines_any known timed (Value c v ∷ ls) (t, (k, h)) = (t, (refl, lines_any known timed ls h))

-- ---- where the times end ----

no_times_lem : (x : Times) (ls : List Line) → times_of ls ≡ [] → times_from x ls ≡ x
unfolding times_of times_from
no_times_lem x [] e = refl
no_times_lem x (Value c v ∷ ls) e = no_times_lem x ls e
no_times_lem x (Time t ∷ ls) e = absurd (omega (arith, ap length e))

some_times : (x : Times) (ls : List Line) (t : ℕ) (ts : List ℕ) → times_of ls ≡ t ∷ ts → end_of (times_from x ls) ≡ last_of t ts + 1
unfolding times_of times_from
some_times x [] t ts e = absurd (omega (arith, ap length e))
some_times x (Value c v ∷ ls) t ts e = some_times x ls t ts e
some_times x (Time u ∷ ls) t ts e =
    let first : u ≡ t = ap (λ (l : List ℕ). get_or l 0 0) e in
    let rest : times_of ls ≡ ts = ap (drop 1) e in
    end_is (time_added x u) u ls refl ∙ rw (first, rest)

no_pulses : (p : ℕ) → pulses_before (suc p) 0 ≡ 0
unfolding pulses_before ticks_before pick
no_pulses p =
    rw (ne_eqb (suc p) 0 (λ (z : suc p ≡ 0). omega arith))
    (let d = div-le_self ((0 * 2304 - 1) / 625000) (suc p) in omega arith)

module _ (q : Asked) (p : ℕ) (period : period_for q ≡ suc p) (code : ℕ) (ls : List Line) where
  abbrev f : Setting
  f = at16 (format_of q.mr1)

  abbrev heard_of : ℕ → List Character
  heard_of n = arrivals (hunting false) (level_pulses (sampled_on code ls) (suc p) f 1 n)

  -- the pulses up to a time are those before the next
  pulses-in : (last n : ℕ) → n ≡ pulses_before (suc p) (last + 1) → time_of (n * suc p) ≤ last
  pulses-in last zero e = omega arith
  pulses-in last (suc n) e =
      let h = leb-false (last + 1) (time_of (suc n * suc p)) (early p (suc n) (last + 1) (zero-lt-suc n) (omega arith)) in
      omega arith

  pulses-out : (last n : ℕ) → n ≡ pulses_before (suc p) (last + 1) → last < time_of (suc n * suc p)
  pulses-out last n e =
      let h = leb-true (last + 1) (time_of (suc n * suc p)) (late p (suc n) (last + 1) (omega arith)) in
      omega arith

  heard-up-to : (last : ℕ) → Heard q (sampled_on code ls) last (heard_of (pulses_before (suc p) (last + 1)))
  heard-up-to last =
      let n = pulses_before (suc p) (last + 1) in
      record { pulses = n; up_to = rw period (pulses-in last n refl); no_more = rw period (pulses-out last n refl); are = rw period }

  heard-none : heard_of (pulses_before (suc p) 0) ≡ []
  unfolding arrivals level_pulses
  heard-none = rw (no_pulses p)

  heard-by : (ts : List ℕ) → times_of ls ≡ ts → HeardBy q (sampled_on code ls) ts (heard_of (pulses_before (suc p) (end_of (times_from no_times ls))))
  unfolding HeardBy end_after pick
  heard-by [] e = rw (no_times_lem no_times ls e) heard-none
  heard-by (t ∷ ts) e = rw (some_times no_times ls t ts e) (heard-up-to (last_of t ts))

  -- the whole: what is heard of the lines
  lines-heard : readable (λ (c : ℕ). true) false ls → RisesFrom 0 (times_of ls)
      → HeardBy q (sampled_on code ls) (times_of ls)
      (heard_from (period_for q) (setting_of q.mr1) code (end_of (times_from no_times ls)) started just_enabled (lines_text ls))
  unfolding setting_of
  lines-heard r rises =
      let end = end_of (times_from no_times ls) in
      rw (period, text-heard p f code end ls r (none_after no_times 0 ls rises))
      (heard-by (times_of ls) refl)

-- ---- the numbers ----

neither : (x y : Bool) → x ≡ false → y ≡ false → (x || y) ≡ false
neither x y e f = rw (e, f)

module _ (q : Asked) (text a b : List ℕ) where
  modelled-is : Modelled q → (mr1_not_modelled q.mr1 || ltb 12 q.code) ≡ false
  modelled-is (m, c) = rw (m, le-ltb 12 q.code c)

  not-modelled : (Modelled q → ⊥) → (mr1_not_modelled q.mr1 || ltb 12 q.code) ≡ true
  not-modelled h = go (mr1_not_modelled q.mr1) refl (ltb 12 q.code) refl
    where
      go : (x : Bool) → mr1_not_modelled q.mr1 ≡ x → (y : Bool) → ltb 12 q.code ≡ y → (x || y) ≡ true
      go true e y d = refl
      go false e true d = refl
      go false e false d = absurd (h (e, ltb-false 12 q.code d))

  is-five : (room_a room_b : ℕ) → (Modelled q → ⊥) → number_of q text a b room_a room_b ≡ 5
  unfolding capture_refusal pick
  is-five room_a room_b h = rw (not-modelled h)

  module _ (m : Modelled q) (room_a room_b : ℕ) where
    is-refused : (x : Refusal) → scan_of text a b ≡ Err x → number_of q text a b room_a room_b ≡ Refusals.number_of x
    unfolding capture_refusal text_refusal pick
    is-refused x e = rw (modelled-is m, e)

    is-fitted : (t : Bool) (s : Scanned) → scan_of text a b ≡ Ok s
        → (ltb room_a (length (log_a q text a b)) || ltb room_b (length (log_b q text a b))) ≡ t
        → number_of q text a b room_a room_b ≡ pick t 8 0
    unfolding capture_refusal text_refusal pick
    is-fitted true s e f = rw (modelled-is m, f, e)
    is-fitted false s e f = rw (modelled-is m, f, e)

-- ---- a text that is read ----

module _ (text a b : List ℕ) (ws : List Wire) (ls : List Line) (ca cb : ℕ) (says : Says text ws ls) (na : Named ws a ca) (nb : Named ws b cb) where
  abbrev accepted : Scanned
  accepted = record { code_a = ca; code_b = cb; body = length (header_of ws); times = times_from no_times ls }

  in_time : RisesFrom 0 (times_of ls) → scan_of text a b ≡ Ok accepted
  unfolding pick
  in_time r = taken text a b ws ls says ca cb na nb ∙ rw (rises_in_time ls r)

  too-late : (RisesFrom 0 (times_of ls) → ⊥) → scan_of text a b ≡ Err TimeNotLater
  unfolding pick
  too-late n = taken text a b ws ls says ca cb na nb ∙ go (times_from no_times ls).late refl
    where
      go : (t : Bool) → (times_from no_times ls).late ≡ t → pick t (Err TimeNotLater) (Ok accepted) ≡ Err TimeNotLater
      go true e = refl
      go false e = absurd (n (in_time_rises ls e))

  lines_left : drop (length (header_of ws)) text ≡ lines_text ls
  lines_left = rw says.written (header-left ws (lines_text ls))

  abbrev heard_on : Asked → ℕ → List Character
  heard_on q code =
      heard_from (period_for q) (setting_of q.mr1) code (end_of (times_from no_times ls)) started just_enabled (lines_text ls)

  log_is : (q : Asked) → RisesFrom 0 (times_of ls)
      → (log_a q text a b ≡ log_bytes (heard_on q ca)) × (log_b q text a b ≡ log_bytes (heard_on q cb))
  unfolding found_in
  log_is q r = (rw (in_time r, lines_left), rw (in_time r, lines_left))

  is-logged : (q : Asked) (code : ℕ) → Modelled q → RisesFrom 0 (times_of ls)
      → HeardBy q (sampled_on code ls) (times_of ls) (heard_on q code)
  is-logged q code (m, c) r =
      let (least, most) = period_between q.acr7 q.code (omega arith) in
      let period : period_for q ≡ suc (period_for q - 1) = omega arith in
      lines-heard q (period_for q - 1) period code ls (lines_any (has_code ws) false ls (lines_are ws false ls says.lines)) r

-- ---- the theorem ----

abbrev pub log_on : Log
log_on second q text a b = pick second (log_b q text a b) (log_a q text a b)

is_heard : (q : Asked) (text a b : List ℕ) → Modelled q → (ws : List Wire) (ls : List Line) (ca cb : ℕ) → Says text ws ls
    → Named ws a ca → Named ws b cb → RisesFrom 0 (times_of ls) → (second : Bool)
    → Logged q (sampled_on (pick second cb ca) ls) (times_of ls) (log_on second q text a b)
unfolding pick
is_heard q text a b m ws ls ca cb says na nb r true =
    record {
      characters = heard_on text a b ws ls ca cb says na nb q cb;
      heard = is-logged text a b ws ls ca cb says na nb q cb m r;
      bytes = (log_is text a b ws ls ca cb says na nb q r).1;
    }
is_heard q text a b m ws ls ca cb says na nb r false =
    record {
      characters = heard_on text a b ws ls ca cb says na nb q ca;
      heard = is-logged text a b ws ls ca cb says na nb q ca m r;
      bytes = (log_is text a b ws ls ca cb says na nb q r).0;
    }

not_fitting : (x m y n : ℕ) → ((x ≤ m) × (y ≤ n) → ⊥) → (ltb m x || ltb n y) ≡ true
not_fitting x m y n h = go (ltb m x) refl (ltb n y) refl
  where
    go : (s : Bool) → ltb m x ≡ s → (t : Bool) → ltb n y ≡ t → (s || t) ≡ true
    go true e t d = refl
    go false e true d = refl
    go false e false d = absurd (h (ltb-false m x e, ltb-false n y d))

pub captures : Captures number_of log_on
unfolding pick
captures =
    record {
      five = is-five;
      ten = λ q text a b room_a room_b m none.
          is-refused q text a b m room_a room_b TextOutside (outside text a b none);
      eleven = λ q text a b room_a room_b m ws ls ca cb says na nb late.
          is-refused q text a b m room_a room_b TimeNotLater (too-late text a b ws ls ca cb says na nb late);
      eight = λ q text a b room_a room_b m ws ls ca cb says na nb r short.
          is-fitted q text a b m room_a room_b true _ (in_time text a b ws ls ca cb says na nb r) (not_fitting _ _ _ _ short);
      none = λ q text a b room_a room_b m ws ls ca cb says na nb r fa fb.
          is-fitted q text a b m room_a room_b false _ (in_time text a b ws ls ca cb says na nb r)
          (neither _ _ (le-ltb _ _ fa) (le-ltb _ _ fb));
      hears = is_heard;
    }
