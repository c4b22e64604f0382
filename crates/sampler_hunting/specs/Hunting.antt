-- The answer to a pulse of a sampler outside a character: it hunts for a start, looks at it again, follows a low stop,
-- waits for a break's end. `true` is a high level. Assumes nothing.
use Rattle.std.specs.Prelude.{◌-◌, Bool, true, false, eqb, None}
use Rattle.format.specs.Pick.{pick}
use Rattle.sampler_state.specs.declared.state.Sampler.{Sampler}
use Rattle.feed.specs.declared.feed.Setting.{Setting}
use Rattle.sampler_state.specs.State.{hunting, starting, assembling, after_low_stop, in_break, gap_of}
use Rattle.sampler_hunting.specs.declared.hunting.Sampled.{Sampled}

-- no start, no character, no break change
abbrev pub still : Sampler → Sampled
still s = record { next = s; started = false; came = None; change = false }

-- a confirmed start: no sample is taken yet
abbrev pub confirmed : Setting → Sampled
confirmed f =
    record {
      next = assembling f (gap_of f.sixteen) (record { 0 = 0 }) 0;
      started = true;
      came = None;
      change = false;
    }

-- The low at p, where "Format and 16X or 1X are taken". 16X: looked at again at p+8. 1X: "confirmed at once".
unfoldable pub low_at : Setting → Sampled
low_at f = pick f.sixteen (still (starting f (record { 0 = 7 }))) (confirmed f)

-- "after a high, a low at pulse p"; "hunting and a break's end go by CSR as it stands"
unfoldable pub hunted : Sampler → Bool → Setting → Sampled
hunted s level f = pick level (still (hunting true)) (pick s.high (low_at f) (still (hunting false)))

-- "at p+8 it must still be low, else hunt again"
unfoldable pub looked_again : Sampler → Bool → Sampled
looked_again s level =
    pick (eqb s.left.0 0)
    (pick level (still (hunting true)) (confirmed s.setting))
    (still (starting s.setting (record { 0 = s.left.0 - 1 })))

-- "if low at the 8 next pulses, the last of them counts as a new low at p"; ".. until a high or a start"
unfoldable pub followed : Sampler → Bool → Setting → Sampled
followed s level f =
    pick level (still (hunting true)) (pick (eqb s.left.0 0) (low_at f) (still (after_low_stop (s.left.0 - 1))))

-- "then break change is set again"
abbrev pub ended : Sampled
ended = record { next = hunting true; started = false; came = None; change = true }

-- "hunting waits for 8 high pulses in a row"; at 1X "one high ends a break"
unfoldable pub waited : Sampler → Bool → Setting → Sampled
waited s level f =
    pick level
    (pick f.sixteen (pick (eqb s.left.0 0) ended (still (in_break (s.left.0 - 1)))) ended)
    (still (in_break 7))
