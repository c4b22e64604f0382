-- Where three have room while a confirmed start is under way (phase 2), and else four, there is room for what the sampler answers to a
-- pulse: a confirmed start cuts to three, and an arrival comes out of phase 2 alone, and leaves it. Assumes nothing.
use Prim.Native.Nat.{ℕ, suc, min, ◌≤◌}
use mathlib.Core.Bool.{Bool, true, false}
use native.Mathlib.Omega.{arith}
use lib.Dec.{eqb, ltb}
use Rattle.format.specs.Pick.{pick}
use Rattle.format.proofs.Laws.Pick.{pick_all}
use Rattle.sampler_state.specs.declared.state.Sampler.{Sampler}
use Rattle.feed.specs.declared.feed.Setting.{Setting}
use Rattle.sampler_state.specs.Assembly.{samples_of}
use Rattle.sampler_state.specs.State.{after_stop}
use Rattle.std.specs.Prelude.{Option, None, Some}
use Rattle.character.specs.declared.character.Character.{Character}
use Rattle.sampler_hunting.specs.declared.hunting.Sampled.{Sampled}
use Rattle.sampler_hunting.specs.Hunting.{confirmed, low_at, hunted, looked_again, followed, waited}
use Rattle.sampler.specs.Sampler.{arrived, finished, sampled, assembled, sample_of}

-- three while a confirmed start is under way, else four
abbrev pub most : Sampler → ℕ
most s = pick (eqb s.phase 2) 3 4

pub most_four : (s : Sampler) → most s ≤ 4
most_four s = pick_all (λ (n : ℕ). n ≤ 4) (eqb s.phase 2) 3 4 (omega arith) (omega arith)

-- how many of `n` are held after a start, if there is one
abbrev pub cut : Bool → ℕ → ℕ
cut true n = min 3 n
cut false n = n

-- and after an arrival, if there is one
abbrev pub grown : Option Character → ℕ → ℕ
grown None n = n
grown (Some c) n = suc n

-- where `n` were held, there is room for what the sampler answers
abbrev pub Roomy : ℕ → Sampled → Type 0
Roomy n m = grown m.came (cut m.started n) ≤ most m.next

room_confirmed : (n : ℕ) (f : Setting) → Roomy n (confirmed f)
unfolding pick
room_confirmed n f = omega arith

room_low : (n : ℕ) (f : Setting) → n ≤ 4 → Roomy n (low_at f)
unfolding low_at pick
room_low n f h = pick_all (Roomy n) f.sixteen _ _ h (room_confirmed n f)

room_hunted : (n : ℕ) (s : Sampler) (level : Bool) (f : Setting) → n ≤ 4 → Roomy n (hunted s level f)
unfolding hunted pick
room_hunted n s level f h = pick_all (Roomy n) level _ _ h (pick_all (Roomy n) s.high _ _ (room_low n f h) h)

room_looked_again : (n : ℕ) (s : Sampler) (level : Bool) → n ≤ 4 → Roomy n (looked_again s level)
unfolding looked_again pick
room_looked_again n s level h = pick_all (Roomy n) (eqb s.left.0 0) _ _ (pick_all (Roomy n) level _ _ h (room_confirmed n s.setting)) h

room_arrived : (n : ℕ) (f : Setting) (v : ℕ) (stop : Bool) → n ≤ 3 → Roomy n (arrived f v stop)
unfolding after_stop pick
room_arrived n f v stop h =
    let four : suc n ≤ 4 = omega arith in
    pick_all (λ (s : Sampler). suc n ≤ most s) stop _ _ four (pick_all (λ (s : Sampler). suc n ≤ most s) f.sixteen _ _ four four)

room_finished : (n : ℕ) (f : Setting) (v : ℕ) (stop : Bool) → n ≤ 3 → Roomy n (finished f v stop)
unfolding finished pick
room_finished n f v stop h =
    pick_all (Roomy n) stop _ _ (room_arrived n f v true h) (pick_all (Roomy n) (eqb v 0) _ _ (omega arith) (room_arrived n f v false h))

room_sampled : (n : ℕ) (s : Sampler) (level : Bool) → n ≤ 3 → Roomy n (sampled s level)
unfolding sampled pick
room_sampled n s level h =
    pick_all (Roomy n) (ltb s.taken.0 (samples_of s.setting.format).0) _ _ h (room_finished n s.setting s.value level h)

room_assembled : (n : ℕ) (s : Sampler) (level : Bool) → n ≤ 3 → Roomy n (assembled s level)
unfolding assembled pick
room_assembled n s level h = pick_all (Roomy n) (eqb s.left.0 0) _ _ (room_sampled n s level h) h

room_followed : (n : ℕ) (s : Sampler) (level : Bool) (f : Setting) → n ≤ 4 → Roomy n (followed s level f)
unfolding followed pick
room_followed n s level f h = pick_all (Roomy n) level _ _ h (pick_all (Roomy n) (eqb s.left.0 0) _ _ (room_low n f h) h)

room_waited : (n : ℕ) (s : Sampler) (level : Bool) (f : Setting) → n ≤ 4 → Roomy n (waited s level f)
unfolding waited pick
room_waited n s level f h =
    pick_all (Roomy n) level _ _ (pick_all (Roomy n) f.sixteen _ _ (pick_all (Roomy n) (eqb s.left.0 0) _ _ h h) h) h

pub room_sample : (n : ℕ) (s : Sampler) (level : Bool) (f : Setting) → n ≤ most s → Roomy n (sample_of s level f)
unfolding sample_of pick
room_sample n s level f h = pick_all (Roomy n) (eqb s.phase 1) _ _ (room_looked_again n s level four) (go (eqb s.phase 2) h)
  where
    four : n ≤ 4
    four = omega (arith, most_four s)

    others : Roomy n (pick (eqb s.phase 3) (followed s level f) (pick (eqb s.phase 4) (waited s level f) (hunted s level f)))
    others =
        pick_all (Roomy n) (eqb s.phase 3) _ _ (room_followed n s level f four)
        (pick_all (Roomy n) (eqb s.phase 4) _ _ (room_waited n s level f four) (room_hunted n s level f four))

    go : (t : Bool) → n ≤ pick t 3 4
        → Roomy n (pick t (assembled s level) (pick (eqb s.phase 3) (followed s level f) (pick (eqb s.phase 4) (waited s level f) (hunted s level f))))
    go true h = room_assembled n s level h
    go false h = others
