-- A frame as an idle sampler hears it. At a bit's edge eight pulses are left to pass; sixteen equal levels take the sampler from one
-- edge to the next with that bit put in, and nine high ones end the character. Once over the width, by the list of bits. Assumes nothing.
use Prim.Native.Nat.{ℕ, zero, suc, ◌+◌, ◌-◌, ◌*◌, ◌^◌, ◌≤◌, ◌<◌}
use mathlib.Core.Path.{◌≡◌, refl, ap₂, ◌∙◌}
use mathlib.Core.Bool.{Bool, true, false}
use mathlib.Core.List.{List, [], ◌∷◌, ◌++◌, append_assoc}
use native.Mathlib.Omega.{arith}
use native.Mathlib.Numerals.{add-one}
use native.Mathlib.Nat.{pow-succ', add-zero, zero-add, zero-mul, mul-one}
use lib.Dec.{ltb}
use lib.ListN.{length, replicate, replicate-append-replicate}
use borrow.Author.Tests.{lt-ltb, le-ltb}
use Rattle.format.specs.declared.format.Format.{Format}
use Rattle.format.specs.Pick.{pick}
use Rattle.format.specs.Digits.{bit, value_of, cut_of}
use Rattle.format.specs.Parity.{data_bits, parity_bits}
use Rattle.frame.specs.Levels.{before_stop, spread, levels}
use Rattle.character.specs.declared.character.Character.{Character}
use Rattle.character.specs.Character.{clean}
use Rattle.sampler_state.specs.declared.state.Sampler.{Sampler}
use Rattle.feed.specs.declared.feed.Setting.{Setting}
use Rattle.sampler_state.specs.Assembly.{samples_of, with_sample, character_of}
use Rattle.sampler_state.specs.State.{hunting, assembling, gap_of, after_stop}
use Rattle.sampler_state.proofs.Laws.Assembly.{samples_are, with_sample_small, with_sample_adds, sampled_clean}
use Rattle.std.specs.Prelude.{Option, None, Some}
use Rattle.sampler_hunting.specs.Hunting.{low_at, hunted, looked_again}
use Rattle.sampler.specs.Sampler.{finished, sampled, assembled, sample_of}
use Rattle.sampler.specs.Lines.{at16}

-- what a sampler says, in order: break change, a confirmed start, or an arrival
pub data Said : Type 0 where
  changes began : Said
  came : Character → Said

abbrev pub changing : Bool → List Said
changing true = changes ∷ []
changing false = []

abbrev pub begun : Bool → List Said
begun true = began ∷ []
begun false = []

abbrev pub coming : Option Character → List Said
coming None = []
coming (Some c) = came c ∷ []

-- over levels, one a pulse, in one setting
unfoldable pub heard : Setting → Sampler → List Bool → List Said
heard f s [] = []
heard f s (b ∷ ls) =
    changing (sample_of s b f).change ++ (begun (sample_of s b f).started ++ (coming (sample_of s b f).came ++ heard f (sample_of s b f).next ls))

unfoldable pub reached : Setting → Sampler → List Bool → Sampler
reached f s [] = s
reached f s (b ∷ ls) = reached f (sample_of s b f).next ls

-- From `s` over the levels it says `x`, no more, and comes to `t`.
pub record Ran (f : Setting) (s : Sampler) (ls : List Bool) (x : List Said) (t : Sampler) : Type 0 where
  pub says : heard f s ls ≡ x
  pub ends : reached f s ls ≡ t

reached_append : (f : Setting) (s : Sampler) (a b : List Bool) → reached f s (a ++ b) ≡ reached f (reached f s a) b
unfolding reached
reached_append f s [] b = refl
reached_append f s (l ∷ a) b = reached_append f (sample_of s l f).next a b

heard_append : (f : Setting) (s : Sampler) (a b : List Bool) → heard f s (a ++ b) ≡ heard f s a ++ heard f (reached f s a) b
unfolding heard reached
heard_append f s [] b = refl
heard_append f s (l ∷ a) b = rw (heard_append f (sample_of s l f).next a b, append_assoc, append_assoc, append_assoc)

ran_then : {f : Setting} {s t u : Sampler} {a b : List Bool} {x y : List Said} → Ran f s a x t → Ran f t b y u → Ran f s (a ++ b) (x ++ y) u
ran_then {f} {s} {t} {u} {a} {b} h k =
    record {
      says = rw (heard_append f s a b, h.says, h.ends, k.says);
      ends = rw (reached_append f s a b, h.ends, k.ends);
    }

pub put_in : (b : Bool) (k v n : ℕ) → v < 2 ^ k → with_sample v k b + n * 2 ^ (k + 1) ≡ v + (bit b + 2 * n) * 2 ^ k
put_in b k v n h = rw (with_sample_adds v k b h, add-one k, pow-succ' 2 k) (omega arith)

module _ (f : Format) where
  -- a character under way, with so many pulses left to pass; at the edge of a bit they are eight
  abbrev under : ℕ → ℕ → ℕ → Sampler
  under left k v = assembling (at16 f) (record { 0 = left }) (record { 0 = k }) v

  start : Ran (at16 f) (hunting true) (replicate 16 false) (began ∷ []) (under 8 0 0)
  unfolding heard reached sample_of hunted low_at looked_again assembled gap_of pick
  start = record { says = refl; ends = refl }

  first-half : (b : Bool) (k v : ℕ) → Ran (at16 f) (under 8 k v) (replicate 8 b) [] (under 0 k v)
  unfolding heard reached sample_of assembled pick
  first-half b k v = record { says = refl; ends = refl }

  second-half : (b : Bool) (k v : ℕ) → Ran (at16 f) (under 15 k v) (replicate 7 b) [] (under 8 k v)
  unfolding heard reached sample_of assembled pick
  second-half b k v = record { says = refl; ends = refl }

  sample : (b : Bool) (k v : ℕ) → k < (samples_of f).0 → Ran (at16 f) (under 0 k v) (b ∷ []) [] (under 15 (k + 1) (with_sample v k b))
  unfolding heard reached sample_of assembled sampled gap_of pick
  sample b k v h =
      let e : ltb k (samples_of f).0 ≡ true = lt-ltb k (samples_of f).0 h in
      record { says = rw e; ends = rw (e, reached) }

  one_bit : (b : Bool) (k v : ℕ) → k < (samples_of f).0 → Ran (at16 f) (under 8 k v) (replicate 16 b) [] (under 8 (k + 1) (with_sample v k b))
  one_bit b k v h = ran_then (ran_then (first-half b k v) (sample b k v h)) (second-half b (k + 1) (with_sample v k b))

  stop-sample : (k v : ℕ) → (samples_of f).0 ≤ k → Ran (at16 f) (under 0 k v) (true ∷ []) (came (character_of f v true) ∷ []) (hunting true)
  unfolding heard reached sample_of assembled sampled finished after_stop pick
  stop-sample k v h =
      let e : ltb k (samples_of f).0 ≡ false = le-ltb k (samples_of f).0 h in
      record { says = rw e; ends = rw (e, reached) }

  -- the stop past its ninth pulse
  highs : (m : ℕ) → Ran (at16 f) (hunting true) (replicate m true) [] (hunting true)
  unfolding heard reached sample_of hunted pick
  highs zero = record { says = refl; ends = refl }
  highs (suc m) = record { says = (highs m).says; ends = (highs m).ends }

  stop : (k v n : ℕ) → (samples_of f).0 ≤ k → 9 ≤ n → Ran (at16 f) (under 8 k v) (replicate n true) (came (character_of f v true) ∷ []) (hunting true)
  stop k v n h l =
      let a : 9 + (n - 9) ≡ n = omega arith in
      let e : replicate 9 true ++ replicate (n - 9) true ≡ replicate n true = replicate-append-replicate 9 (n - 9) true ∙ rw a in
      rw (← e) (ran_then (ran_then (first-half true k v) (stop-sample k v h)) (highs (n - 9)))

  -- any bits, put in above those that are taken
  bits : (bs : List Bool) (k v : ℕ) → v < 2 ^ k → k + length bs ≤ (samples_of f).0
      → Ran (at16 f) (under 8 k v) (spread 16 bs) [] (under 8 (k + length bs) (v + value_of bs * 2 ^ k))
  unfolding heard reached spread value_of
  bits [] k v s h = record { says = refl; ends = rw (add-zero k, zero-mul, add-zero v) }
  bits (b ∷ bs) k v s h =
      let r = ran_then (one_bit b k v (omega arith)) (bits bs (k + 1) (with_sample v k b) (with_sample_small v k b) (omega arith)) in
      record { says = r.says; ends = r.ends ∙ ap₂ (under 8) (omega arith) (put_in b k v (value_of bs) s) }

  -- An idle sampler hears a frame as one confirmed start and then one arrival, the character cut to its data bits and without a mark,
  -- and is idle again.
  pub hears-frame : (n x : ℕ) → f.width.0 ≤ 8 → 9 ≤ n
      → Ran (at16 f) (hunting true) (levels 16 n (before_stop f x)) (began ∷ came (clean (cut_of f.width.0 x)) ∷ []) (hunting true)
  unfolding levels spread before_stop
  hears-frame n x w h =
      let bs : List Bool = data_bits f x ++ parity_bits f x in
      let len : (samples_of f).0 ≡ length bs = samples_are f x w in
      let end : character_of f (0 + value_of bs * 2 ^ 0) true ≡ clean (cut_of f.width.0 x) = rw (zero-add, mul-one) (sampled_clean f x w) in
      rw (← end) (ran_then (ran_then start (bits bs 0 0 (omega arith) (omega arith))) (stop (0 + length bs) (0 + value_of bs * 2 ^ 0) n (omega arith) h))
