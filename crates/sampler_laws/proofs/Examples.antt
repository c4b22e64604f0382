-- What the sampling rule supposes is met, by computing the definitions, with what then arrives: a frame, a low stop, a break, a low that is too short,
-- and at 1X; what an enable and a disable do, and break change. The same of confirmed starts and of how long a break lasts. Assumes nothing.
use mathlib.Core.Path.{◌≡◌, refl, sym}
use mathlib.Core.Bool.{Bool, true, false, true≢false}
use mathlib.Core.List.{List, [], ◌∷◌, ◌++◌, map}
use native.Mathlib.Omega.{arith}
use lib.Dec.{eqb}
use lib.ListN.{length, drop, replicate, take}
use Rattle.format.specs.Digits.{value_of}
use Rattle.format.specs.Format.{format_of}
use Rattle.frame.specs.Levels.{frame}
use Rattle.character.specs.declared.character.Character.{Character}
use Rattle.character.specs.Character.{break_character, clean}
use Rattle.feed.specs.declared.feed.Setting.{Setting}
use Rattle.sampler_state.specs.State.{hunting}
use Rattle.sampler.specs.Lines.{Line, arrivals}
use Rattle.sampler.specs.Lines.Line.{pulse, enable, disable}
use Rattle.sampler_laws.specs.Sampling.{Found, lines, level_at, samples, character_at, all_at, all_sixteen, Sixteen, sample_at, stop_at, all_low, flags_from}
use Rattle.sampler_laws.specs.Breaks.{Broken, Stopped, Unstopped, Run, runs, few, all_few, Ends}
use Rattle.sampler_laws.specs.Breaks.Broken.{broken16, broken1}
use Rattle.sampler_laws.specs.Breaks.Stopped.{stopped16, stopped1}
use Rattle.sampler_laws.specs.Confirms.{starts_from}
use Rattle.sampler.proofs.Computing.{computing}

-- MR1 19: 8 data bits, no parity; with 16X pulses, and with 1X
abbrev fast : Setting
fast = record { format = format_of 19; sixteen = true }

abbrev slow : Setting
slow = record { format = format_of 19; sixteen = false }

abbrev at : Setting → List Bool → Found
at f ls = map (λ (level : Bool). (level, f)) ls

-- what arrives of a low and these, after a high
abbrev after : Setting → Found → List Character
after f ls = arrivals (hunting true) (pulse false f ∷ lines ls)

-- by one that was just enabled; and which of a low and these set break change, after a high
abbrev enabled : List Line → List Character
enabled xs = arrivals (hunting false) xs

abbrev flags : Setting → Found → List Bool
flags f ls = flags_from (hunting true) (pulse false f ∷ lines ls)

-- ---- the levels after the low at p, to the first stop sample ----

-- the frame of 85
abbrev framed : Found
framed = at fast (take 152 (drop 1 (frame true (format_of 19) 7 85)))

-- 254 with a low stop
abbrev unstopped : Found
unstopped = at fast (replicate 24 false ++ replicate 112 true ++ replicate 16 false)

abbrev broken : Found
broken = at fast (replicate 152 false)

-- high at p+8
abbrev short : Found
short = at fast (replicate 7 false ++ true ∷ [])

-- at 1X: 254, and a break
abbrev once : Found
once = at slow (false ∷ replicate 8 true)

abbrev broken_once : Found
broken_once = at slow (replicate 9 false)

-- ---- by computing ----

pub record SamplingExamples : Type 0 where
  pub of_frame : Sixteen fast framed
  pub stopped : stop_at fast framed ≡ true
  pub character : character_at (format_of 19) (sample_at framed) ≡ clean 85
  pub arrives : after fast framed ≡ clean 85 ∷ []
  -- and not before the stop sample
  pub early : (level_at (take 151 framed) 7 ≡ false) × (length (take 151 framed) ≡ 151)
  pub not_yet : after fast (take 151 framed) ≡ []
  -- nor before p+8, where nothing is asked of the level
  pub earliest : (length (take 5 framed) ≡ 5) × (level_at (take 5 framed) 7 ≡ true) × (after fast (take 5 framed) ≡ [])
  pub too_short : (level_at short 7 ≡ true) × (length short ≡ 8)
  pub nothing : after fast short ≡ []
  -- a low stop: the character has the framing mark
  pub of_unstopped : Sixteen fast unstopped
  pub low_stop : (stop_at fast unstopped ≡ false) × (all_low fast unstopped ≡ false)
  pub framing : map (λ (x : Character). x.marks.framing) (after fast unstopped) ≡ true ∷ []
  -- seven lows more, which the next makes a new low at p; eight highs
  pub lows : (all_at false (at fast (replicate 7 false)) ≡ true) × (length (at fast (replicate 7 false)) ≡ 7)
  pub highs : (all_at true (at fast (replicate 8 true)) ≡ true) × (all_sixteen (at fast (replicate 8 true)) ≡ true)
  -- and fewer of each, with a high or a low after them
  pub three_lows : (all_at false (at fast (replicate 3 false)) ≡ true) × (length (at fast (replicate 3 false)) ≡ 3)
  pub until : map (λ (x : Character). x.byte) (after fast (unstopped ++ at fast (replicate 3 false ++ true ∷ false ∷ []) ++ framed)) ≡ 254 ∷ 85 ∷ []
  pub three_highs : (all_at true (at fast (replicate 3 true)) ≡ true) × (all_sixteen (at fast (replicate 3 true)) ≡ true)
  pub ends : after fast (broken ++ at fast (replicate 3 true ++ replicate 7 true) ++ at fast (false ∷ []) ++ framed) ≡ break_character ∷ clean 85 ∷ []
  pub waits : after fast (broken ++ at fast (replicate 3 true ++ false ∷ replicate 7 true) ++ at fast (false ∷ []) ++ framed) ≡ break_character ∷ []
  -- one high at 1X ends it
  pub one_high : after fast (broken ++ at slow (true ∷ []) ++ at fast (false ∷ []) ++ framed) ≡ break_character ∷ clean 85 ∷ []
  -- a break
  pub of_break : Sixteen fast broken
  pub all_low_lem : all_low fast broken ≡ true
  pub break : after fast broken ≡ break_character ∷ []
  -- at 1X
  pub of_once : length once ≡ 9
  pub other : eqb (value_of (samples (level_at once) 9)) 0 ≡ false
  pub one : after slow once ≡ clean 254 ∷ []
  pub once_broken : eqb (value_of (samples (level_at broken_once) 9)) 0 ≡ true
  pub one_break : after slow broken_once ≡ break_character ∷ []
  -- which eight highs at 16X end, and seven do not
  pub slowly : after slow (broken_once ++ at fast (false ∷ replicate 8 true ++ false ∷ []) ++ framed) ≡ break_character ∷ clean 85 ∷ []
  pub not_slowly : after slow (broken_once ++ at fast (false ∷ replicate 7 true ++ false ∷ []) ++ framed) ≡ break_character ∷ []
  -- just enabled: lows do not count, until a high
  pub no_high : enabled (lines (at fast (false ∷ []) ++ framed)) ≡ []
  pub a_high : enabled (lines (at fast (false ∷ true ∷ false ∷ []) ++ framed)) ≡ clean 85 ∷ []
  -- a character is dropped by a disable a pulse before its stop sample, not by one after it
  pub drops : enabled (lines (at fast (true ∷ false ∷ []) ++ take 151 framed) ++ disable ∷ enable ∷ lines (at fast (true ∷ []))) ≡ []
  pub keeps : enabled (lines (at fast (true ∷ false ∷ []) ++ framed) ++ disable ∷ enable ∷ lines (at fast (true ∷ []))) ≡ clean 85 ∷ []
  -- break change: at a break, and at its end; at no other character
  pub unchanged : (flags fast framed ≡ replicate 153 false) × (flags fast unstopped ≡ replicate 153 false)
  pub seven_highs : (all_at true (at fast (replicate 7 true)) ≡ true) × (all_sixteen (at fast (replicate 7 true)) ≡ true)
  pub changes : flags fast (broken ++ at fast (false ∷ replicate 8 true)) ≡ replicate 152 false ++ true ∷ replicate 8 false ++ true ∷ []
  pub changes_once : flags slow (broken_once ++ at slow (false ∷ true ∷ [])) ≡ replicate 9 false ++ true ∷ false ∷ true ∷ []

pub sampling_examples : SamplingExamples
unfolding computing arrivals
sampling_examples =
    record {
      of_frame = record { sixteen = refl; width = omega arith; low = refl; end = refl };
      stopped = refl;
      character = refl;
      arrives = refl;
      early = (refl, refl);
      not_yet = refl;
      earliest = (refl, refl, refl);
      too_short = (refl, refl);
      nothing = refl;
      of_unstopped = record { sixteen = refl; width = omega arith; low = refl; end = refl };
      low_stop = (refl, refl);
      framing = refl;
      lows = (refl, refl);
      highs = (refl, refl);
      three_lows = (refl, refl);
      until = refl;
      three_highs = (refl, refl);
      ends = refl;
      waits = refl;
      one_high = refl;
      of_break = record { sixteen = refl; width = omega arith; low = refl; end = refl };
      all_low_lem = refl;
      break = refl;
      of_once = refl;
      other = refl;
      one = refl;
      once_broken = refl;
      one_break = refl;
      slowly = refl;
      not_slowly = refl;
      no_high = refl;
      a_high = refl;
      drops = refl;
      keeps = refl;
      unchanged = (refl, refl);
      seven_highs = (refl, refl);
      changes = refl;
      changes_once = refl;
    }

-- ---- confirmed starts, and how long a break lasts ----

-- which of a low and these confirm a start, after a high
abbrev starting : Setting → Found → List Bool
starting f ls = starts_from (hunting true) (pulse false f ∷ lines ls)

-- no highs and a low, three and a low, seven and a low
abbrev interruptions : List Run
interruptions = ([], fast) ∷ (at fast (replicate 3 true), fast) ∷ (at fast (replicate 7 true), slow) ∷ []

pub record StartExamples : Type 0 where
  -- what the statements suppose
  pub of_stopped : Stopped fast framed × Stopped slow once
  pub of_unstopped : Unstopped fast unstopped
  pub of_broken : Broken fast broken × Broken slow broken_once
  pub of_few : (few (at fast (replicate 7 true)) ≡ true) × (few (at fast (replicate 8 true)) ≡ false) × (few (at slow (true ∷ [])) ≡ false)
  pub interrupted : (all_few interruptions ≡ true) × (length (runs interruptions) ≡ 13)
  -- the eighth high at 16X ends a break, and the first or the fourth at 1X
  pub ended : Ends (at fast (replicate 7 true)) fast × Ends [] slow × Ends (at fast (replicate 3 true)) slow
  -- a start at p+8 and at no other pulse of a character, of one with a low stop, of a break; none where p+8 is high
  pub sixteen : starting fast framed ≡ replicate 8 false ++ true ∷ replicate 144 false
  pub low_stop : starting fast unstopped ≡ replicate 8 false ++ true ∷ replicate 144 false
  pub in_break : starting fast (broken ++ at fast (replicate 8 true)) ≡ replicate 8 false ++ true ∷ replicate 152 false
  pub too_short : starting fast short ≡ replicate 9 false
  pub too_early : starting fast (take 7 broken) ≡ replicate 8 false
  -- at 1X at p
  pub one : starting slow once ≡ true ∷ replicate 9 false
  pub next : starting slow (once ++ at slow (false ∷ [])) ≡ true ∷ replicate 9 false ++ true ∷ []
  -- after a low stop the eighth low is a new p, and it is looked at again eight pulses later, or is a start at once at 1X
  pub again : starting fast (unstopped ++ at fast (replicate 16 false)) ≡ replicate 8 false ++ true ∷ replicate 144 false ++ replicate 15 false ++ true ∷ []
  pub again_high : starting fast (unstopped ++ at fast (replicate 15 false ++ true ∷ [])) ≡ replicate 8 false ++ true ∷ replicate 160 false
  pub again_one : starting fast (unstopped ++ at slow (replicate 8 false)) ≡ replicate 8 false ++ true ∷ replicate 151 false ++ true ∷ []
  -- one just enabled: not a low before a high
  pub enabled_low : starts_from (hunting false) (lines (at slow (false ∷ false ∷ true ∷ false ∷ []))) ≡ replicate 3 false ++ true ∷ []
  pub disabled : starts_from (hunting false) (pulse true fast ∷ lines (at fast (replicate 8 false)) ++ disable ∷ enable ∷ pulse false fast ∷ []) ≡ replicate 12 false
  -- a 1X break and then 16X: one high does not end it, with no low between; lows enough for another character are the same break
  pub slow_waits : after slow (broken_once ++ at fast (true ∷ replicate 153 false)) ≡ break_character ∷ []
  -- three highs at 16X and then one at 1X end it, and what follows is heard
  pub mixed : after fast (broken ++ at fast (replicate 3 true) ++ at slow (true ∷ false ∷ []) ++ once) ≡ break_character ∷ clean 254 ∷ []
  -- any number of interrupted runs, and break change at none of them
  pub runs_wait : after fast (broken ++ runs interruptions ++ at fast (replicate 7 true)) ≡ break_character ∷ []
  pub runs_unchanged : flags fast (broken ++ runs interruptions) ≡ replicate 152 false ++ true ∷ replicate 13 false
  pub runs_slow : flags slow (broken_once ++ runs interruptions ++ at fast (replicate 8 true)) ≡ replicate 9 false ++ true ∷ replicate 20 false ++ true ∷ []
  -- nor at a false start, a 1X character, or a low while it hunts
  pub none_changes : (flags fast short ≡ replicate 9 false) × (flags slow once ≡ replicate 10 false)
  pub hunting_unchanged : flags_from (hunting false) (lines broken) ≡ replicate 152 false

pub start_examples : StartExamples
unfolding computing arrivals
start_examples =
    record {
      of_stopped = (stopped16 sampling_examples.of_frame refl, stopped1 (record { one = refl; width = omega arith; end = refl }) refl);
      of_unstopped = record { made = sampling_examples.of_unstopped; low = refl; some = refl };
      of_broken = (broken16 sampling_examples.of_break refl, broken1 (record { one = refl; width = omega arith; end = refl }) refl);
      of_few = (refl, refl, refl);
      interrupted = (refl, refl);
      ended = (λ e. refl, λ e. absurd (true≢false (sym e)), λ e. absurd (true≢false (sym e)));
      sixteen = refl;
      low_stop = refl;
      in_break = refl;
      too_short = refl;
      too_early = refl;
      one = refl;
      next = refl;
      again = refl;
      again_high = refl;
      again_one = refl;
      enabled_low = refl;
      disabled = refl;
      slow_waits = refl;
      mixed = refl;
      runs_wait = refl;
      runs_unchanged = refl;
      runs_slow = refl;
      none_changes = (refl, refl);
      hunting_unchanged = refl;
    }
