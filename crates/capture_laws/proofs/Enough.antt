-- The theorem: no text that is read gives more than 23,405 characters on a line. `spent` are the pulses that have gone into the character under way, at most: each pulse adds one at most, and a character takes 105 of them away. Assumes nothing.
use Prim.Native.Nat.{ℕ, zero, suc, ◌+◌, ◌-◌, ◌*◌, ◌≤◌}
use mathlib.Core.Path.{◌≡◌, refl, ap}
use mathlib.Core.Bool.{Bool, true, false}
use mathlib.Core.List.{List, [], ◌∷◌}
use native.Mathlib.Nat.{mul-le-mul_left}
use native.Mathlib.Omega.{arith}
use lib.Dec.{eqb, ltb}
use lib.ListN.{length, length-append}
use borrow.Author.Tests.{eqb-true, eqb-false, ltb-false}
use Rattle.std.specs.Prelude.{option_to_list}
use Rattle.format.specs.declared.format.Format.{Format}
use Rattle.format.specs.Pick.{pick}
use Rattle.format.specs.Format.{format_of}
use Rattle.format.specs.Parity.{has_parity_of}
use Rattle.format.proofs.Laws.Pick.{pick_all}
use Rattle.feed.specs.declared.feed.Setting.{Setting}
use Rattle.character.specs.declared.character.Character.{Character}
use Rattle.sampler_state.specs.declared.state.Sampler.{Sampler}
use Rattle.sampler_state.specs.State.{no_setting, hunting, gap_of, after_stop}
use Rattle.sampler_state.specs.Assembly.{data_width_of, samples_of}
use Rattle.sampler_hunting.specs.declared.hunting.Sampled.{Sampled}
use Rattle.sampler_hunting.specs.Hunting.{low_at, hunted, looked_again, followed, waited}
use Rattle.sampler.specs.Sampler.{finished, sampled, assembled, sample_of}
use Rattle.sampler.specs.Lines.{at16, hears, arrivals}
use Rattle.dividers.proofs.Laws.Rates.{period_between}
use Rattle.vcd_text.specs.Header.{Wire}
use Rattle.vcd_text.specs.Lines.{Line, times_of, RisesFrom}
use Rattle.vcd_text.specs.Lines.Line.{Time, Value}
use Rattle.vcd_subset.specs.Subset.{Named, GoodLines, Says}
use Rattle.vcd_capture.specs.declared.capturing.Asked.{Asked}
use Rattle.vcd_capture.proofs.Laws.Hearing.{log_length}
use Rattle.vcd_capture.specs.Waves.{level_pulses}
use Rattle.capture_laws.specs.Captures.{period_for, Heard, last_of, HeardBy, sampled_on, Modelled}
use Rattle.capture_laws.specs.Enough.{Enough}
use Rattle.capture_laws.proofs.Captures.{log_on, captures}

-- ---- what a pulse costs ----

-- 16X, and at least five samples before the stop's
abbrev Wide : Setting → Type 0
Wide f = (f.sixteen ≡ true) × (5 ≤ (samples_of f.format).0)

-- 1 with the low at p, 9 with p+8, 16 more with each of five samples, and 104 before the stop's
unfoldable spent : Sampler → ℕ
spent s =
    pick (eqb s.phase 1) (8 - s.left.0)
    (pick (eqb s.phase 2) (104 - (s.left.0 + 16 * (5 - s.taken.0))) 0)

-- what a pulse gives, where so many were spent before it
record Costs (n : ℕ) (r : Sampled) : Type 0 where
  paid : 105 * length (option_to_list r.came) + spent r.next ≤ suc n
  wide : Wide r.next.setting

samples_wide : (f : Format) → 5 ≤ f.width.0 → 5 ≤ (samples_of f).0
unfolding samples_of data_width_of pick
samples_wide f h = go (has_parity_of f) refl (ltb f.width.0 8) refl
  where
    go : (s : Bool) → has_parity_of f ≡ s → (t : Bool) → ltb f.width.0 8 ≡ t → 5 ≤ (samples_of f).0
    go true e true d = rw (e, d) (omega arith)
    go true e false d = rw (e, d) (omega arith)
    go false e true d = rw (e, d) (omega arith)
    go false e false d = rw (e, d) (omega arith)

mr1_wide : (mr1 : ℕ) → Wide (at16 (format_of mr1))
unfolding format_of
mr1_wide mr1 = (refl, samples_wide (format_of mr1) (omega arith))

none_wide : Wide no_setting
none_wide = mr1_wide 0

-- outside a character nothing is spent
idle : (n : ℕ) (r : Sampled) → option_to_list r.came ≡ [] → spent r.next ≡ 0 → r.next.setting ≡ no_setting → Costs n r
idle n r e z s = record { paid = let none = ap length e in omega arith; wide = rw s none_wide }

low_costs : (n : ℕ) (f : Setting) → Wide f → Costs n (low_at f)
unfolding low_at spent pick
low_costs n f w = rw w.0 (record { paid = omega arith; wide = (refl, w.1) })

hunted_costs : (n : ℕ) (s : Sampler) (level : Bool) (f : Setting) → Wide f → Costs n (hunted s level f)
unfolding hunted spent pick
hunted_costs n s level f w =
    pick_all (Costs n) level _ _ (idle n _ refl refl refl)
    (pick_all (Costs n) s.high _ _ (low_costs n f w) (idle n _ refl refl refl))

followed_costs : (n : ℕ) (s : Sampler) (level : Bool) (f : Setting) → Wide f → Costs n (followed s level f)
unfolding followed spent pick
followed_costs n s level f w =
    pick_all (Costs n) level _ _ (idle n _ refl refl refl)
    (pick_all (Costs n) (eqb s.left.0 0) _ _ (low_costs n f w) (idle n _ refl refl refl))

waited_costs : (n : ℕ) (s : Sampler) (level : Bool) (f : Setting) → Costs n (waited s level f)
unfolding waited spent pick
waited_costs n s level f =
    pick_all (Costs n) level _ _
    (pick_all (Costs n) f.sixteen _ _
    (pick_all (Costs n) (eqb s.left.0 0) _ _ (idle n _ refl refl refl) (idle n _ refl refl refl))
    (idle n _ refl refl refl))
    (idle n _ refl refl refl)

-- the low at p is one, and so are the eight up to p+8
looked_costs : (s : Sampler) (level : Bool) → Wide s.setting → Costs (8 - s.left.0) (looked_again s level)
unfolding looked_again gap_of spent pick
looked_costs s level w = go (eqb s.left.0 0) refl level
  where
    go : (t : Bool) → eqb s.left.0 0 ≡ t → (level : Bool) → Costs (8 - s.left.0) (looked_again s level)
    go true e true = rw e (idle _ _ refl refl refl)
    go true e false = let z = eqb-true s.left.0 0 e in rw (e, w.0) (record { paid = omega arith; wide = (refl, w.1) })
    go false e level = let z = eqb-false s.left.0 0 e in rw e (record { paid = omega arith; wide = w })

-- the character takes 105 with the pulse that brings it
finished_costs : (f : Setting) (v : ℕ) (stop : Bool) → Wide f → Costs 104 (finished f v stop)
unfolding finished after_stop spent pick
finished_costs f v true w = record { paid = omega arith; wide = none_wide }
finished_costs f v false w =
    pick_all (Costs 104) (eqb v 0) _ _ (record { paid = omega arith; wide = none_wide })
    (rw w.0 (record { paid = omega arith; wide = none_wide }))

-- 16 for each sample, the stop's too
assembled_costs : (s : Sampler) (level : Bool) → Wide s.setting
    → Costs (104 - (s.left.0 + 16 * (5 - s.taken.0))) (assembled s level)
unfolding assembled sampled gap_of spent pick
assembled_costs s level w =
    go (eqb s.left.0 0) refl (ltb s.taken.0 (samples_of s.setting.format).0) refl
  where
    go : (t : Bool) → eqb s.left.0 0 ≡ t → (u : Bool) → ltb s.taken.0 (samples_of s.setting.format).0 ≡ u
        → Costs (104 - (s.left.0 + 16 * (5 - s.taken.0))) (assembled s level)
    go true e true d =
        let z = eqb-true s.left.0 0 e in
        rw (e, d, w.0) (record { paid = omega arith; wide = (refl, w.1) })
    go true e false d =
        let z = eqb-true s.left.0 0 e in
        let l = ltb-false s.taken.0 (samples_of s.setting.format).0 d in
        let all : 104 - (s.left.0 + 16 * (5 - s.taken.0)) ≡ 104 = omega (arith, z, l, w.1) in
        rw (e, d, all) (finished_costs s.setting s.value level w)
    go false e u d = let z = eqb-false s.left.0 0 e in rw e (record { paid = omega arith; wide = w })

pulse_costs : (s : Sampler) (level : Bool) (f : Setting) → Wide s.setting → Wide f → Costs (spent s) (sample_of s level f)
unfolding sample_of spent pick
pulse_costs s level f v w = go (eqb s.phase 1) refl (eqb s.phase 2) refl
  where
    go : (t : Bool) → eqb s.phase 1 ≡ t → (u : Bool) → eqb s.phase 2 ≡ u → Costs (spent s) (sample_of s level f)
    go true e u d = rw e (looked_costs s level v)
    go false e true d = rw (e, d) (assembled_costs s level v)
    go false e false d =
        rw (e, d)
        (pick_all (Costs 0) (eqb s.phase 3) _ _ (followed_costs 0 s level f w)
        (pick_all (Costs 0) (eqb s.phase 4) _ _ (waited_costs 0 s level f) (hunted_costs 0 s level f w)))

-- ---- all the pulses ----

pulses_cost : (level : ℕ → Bool) (period : ℕ) (f : Setting) → Wide f → (n first : ℕ) (s : Sampler) → Wide s.setting
    → 105 * length (arrivals s (level_pulses level period f first n)) ≤ n + spent s
unfolding level_pulses arrivals hears
pulses_cost level period f w zero first s v = omega arith
pulses_cost level period f w (suc n) first s v =
    let r = sample_of s (level (first * period)) f in
    let one = pulse_costs s (level (first * period)) f v w in
    let rest = pulses_cost level period f w n (suc first) r.next one.wide in
    let both = length-append (option_to_list r.came) (arrivals r.next (level_pulses level period f (suc first) n)) in
    omega (arith, one.paid, rest, both)

-- ---- the last time ----

last_early : (ws : List Wire) (timed : Bool) (u : ℕ) (ls : List Line) → u ≤ 4000000000 → GoodLines ws timed ls
    → last_of u (times_of ls) ≤ 4000000000
unfolding GoodLines times_of last_of
last_early ws timed u [] l h = l
last_early ws timed u (Value c v ∷ ls) l (e, (k, h)) = last_early ws timed u ls l h
last_early ws timed u (Time t ∷ ls) l (m, h) = last_early ws true t ls m h

few_heard : (q : Asked) (level : ℕ → Bool) (last : ℕ) (cs : List Character) → 6 ≤ period_for q → last ≤ 4000000000
    → Heard q level last cs → length cs ≤ 23405
unfolding spent pick
few_heard q level last cs p l h =
    let cost = pulses_cost level (period_for q) (at16 (format_of q.mr1)) (mr1_wide q.mr1) h.pulses 1 (hunting false) none_wide in
    let six = mul-le-mul_left h.pulses p in
    let are = ap length h.are in
    omega (arith, cost, six, are, h.up_to)

few_lines : (q : Asked) (level : ℕ → Bool) (ws : List Wire) (timed : Bool) (ls : List Line) (cs : List Character) → 6 ≤ period_for q
    → GoodLines ws timed ls → HeardBy q level (times_of ls) cs → length cs ≤ 23405
unfolding GoodLines times_of HeardBy
few_lines q level ws timed [] cs p g h = let none = ap length h in omega arith
few_lines q level ws timed (Value c v ∷ ls) cs p (e, (k, g)) h = few_lines q level ws timed ls cs p g h
few_lines q level ws timed (Time t ∷ ls) cs p (m, g) h = few_heard q level _ cs p (last_early ws true t ls m g) h

-- ---- the theorem ----

is_enough : (q : Asked) (text a b : List ℕ) → Modelled q → (ws : List Wire) (ls : List Line) (ca cb : ℕ) → Says text ws ls
    → Named ws a ca → Named ws b cb → RisesFrom 0 (times_of ls) → (second : Bool) → length (log_on second q text a b) ≤ 46810
is_enough q text a b m ws ls ca cb says na nb r second =
    let logged = captures.hears q text a b m ws ls ca cb says na nb r second in
    let (least, most) = period_between q.acr7 q.code (omega (arith, m.1)) in
    let few = few_lines q (sampled_on (pick second cb ca) ls) ws false ls logged.characters least says.lines logged.heard in
    let long = log_length logged.characters in
    let are = ap length logged.bytes in
    omega (arith, few, long, are)

pub enough : Enough log_on
enough = record { most = is_enough }
