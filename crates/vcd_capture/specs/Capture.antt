-- Order 7: "Customers send value change dumps of the real chip's two RxD lines. .. Turn each line, up to the last time, into
-- characters by document 01's receiver, just enabled, phase 0, for a given MR1, ACR bit 7 and CSR code 0 to 12." Assumes
-- nothing.
use Rattle.std.specs.Prelude.{ℕ, ◌+◌, ◌≡◌, Bool, true, ◌||◌, List, [], ◌++◌, eqb, ltb, length, drop}
use Rattle.std.specs.Prelude.{Option, None, Some, Result, Ok, Err}
use Rattle.format.specs.Pick.{pick}
use Rattle.format.specs.Format.{mr1_not_modelled, format_of}
use Rattle.feed.specs.declared.feed.Setting.{Setting}
use Rattle.character.specs.declared.character.Character.{Character}
use Rattle.dividers.specs.Rates.{period_of}
use Rattle.vcd_read.specs.declared.checking.Times.{Times}
use Rattle.vcd_read.specs.declared.scanning.Scanned.{Scanned}
use Rattle.vcd_lines.specs.Body.{started}
use Rattle.vcd_read.specs.Scan.{scan_of, found_in}
use Rattle.refusal.specs.declared.refusal.Refusal.{Refusal}
use Rattle.refusal.specs.declared.refusal.Refusal.TheVariants.{SettingNotModelled, SpaceShort}
use Rattle.refusal.specs.Refusal.{answer_number}
use Rattle.vcd_capture.specs.declared.capturing.Asked.{Asked}
use Rattle.vcd_capture.specs.declared.capturing.Captured.{Captured}
use Rattle.vcd_capture.specs.Logs.{log_bytes}
use Rattle.vcd_capture.specs.Ear.{heard_from, just_enabled}

-- "codes 0 to 12" are all 16X
unfoldable pub setting_of : ℕ → Setting
setting_of mr1 = record { format = format_of mr1; sixteen = true }

-- "up to the last time": ticks at that time count; where there is none, no tick does
unfoldable pub end_after : Option ℕ → ℕ
end_after None = 0
end_after (Some last) = last + 1

abbrev pub end_of : Times → ℕ
end_of t = end_after t.last

-- the characters of the wire with this code, and their bytes
abbrev pub characters_of : Asked → List ℕ → Scanned → ℕ → List Character
characters_of q text s wire =
    heard_from (period_of q.acr7 q.code).0 (setting_of q.mr1) wire (end_of s.times) started just_enabled
    (drop s.body text)

abbrev pub log_of : Asked → List ℕ → Scanned → ℕ → List ℕ
log_of q text s wire = log_bytes (characters_of q text s wire)

-- the call: what it asks for, the text, the two names and the two logs' lengths
abbrev pub log_a : Asked → List ℕ → List ℕ → List ℕ → List ℕ
log_a q text a b = log_of q text (found_in (scan_of text a b)) (found_in (scan_of text a b)).code_a

abbrev pub log_b : Asked → List ℕ → List ℕ → List ℕ → List ℕ
log_b q text a b = log_of q text (found_in (scan_of text a b)) (found_in (scan_of text a b)).code_b

-- "Refusals, in this order: 5 (a code above 12 too), 10 .., 11 .., 8 either log too short"
unfoldable pub text_refusal : Result Scanned Refusal → Option Refusal → Option Refusal
text_refusal (Err refusal) next = Some refusal
text_refusal (Ok s) next = next

unfoldable pub capture_refusal : Asked → Result Scanned Refusal → ℕ → ℕ → ℕ → ℕ → Option Refusal
capture_refusal q s a b room_a room_b =
    pick (mr1_not_modelled q.mr1 || ltb 12 q.code) (Some SettingNotModelled)
    (text_refusal s (pick (ltb room_a a || ltb room_b b) (Some SpaceShort) None))

abbrev pub refusal_of : Asked → List ℕ → List ℕ → List ℕ → ℕ → ℕ → Option Refusal
refusal_of q text a b room_a room_b =
    capture_refusal q (scan_of text a b) (length (log_a q text a b)) (length (log_b q text a b)) room_a room_b

abbrev pub number_of : Asked → List ℕ → List ℕ → List ℕ → ℕ → ℕ → ℕ
number_of q text a b room_a room_b = answer_number (refusal_of q text a b room_a room_b)

unfoldable pub captured_by : Option Refusal → Captured → Result Captured Refusal
captured_by (Some refusal) filled = Err refusal
captured_by None filled = Ok filled

unfoldable pub captured_of : Asked → List ℕ → List ℕ → List ℕ → ℕ → ℕ → Result Captured Refusal
captured_of q text a b room_a room_b =
    captured_by (refusal_of q text a b room_a room_b)
    (record { length_a = length (log_a q text a b); length_b = length (log_b q text a b) })

-- a log then: the characters of its channel, and past them what it held; "both logs stay" where the call is refused
unfoldable pub log_after : ℕ → List ℕ → List ℕ → List ℕ
log_after number filled log = pick (eqb number 0) (filled ++ drop (length filled) log) log

-- what is promised of a call: the answer, and both logs whole
pub record CaptureMet (q : Asked) (text a b before_a before_b after_a after_b : List ℕ) (r : Result Captured Refusal)
    : Type 0 where
  pub answer : r ≡ captured_of q text a b (length before_a) (length before_b)
  pub first : after_a ≡ log_after (number_of q text a b (length before_a) (length before_b)) (log_a q text a b) before_a
  pub second : after_b ≡ log_after (number_of q text a b (length before_a) (length before_b)) (log_b q text a b) before_b

-- "the caller names a channel and is handed the filled part of that channel's log"; "the part is then empty"
unfoldable pub handed_of : Asked → List ℕ → List ℕ → List ℕ → ℕ → ℕ → Bool → List ℕ
handed_of q text a b room_a room_b channel_b =
    pick (eqb (number_of q text a b room_a room_b) 0) (pick channel_b (log_b q text a b) (log_a q text a b)) []
