-- The numbers of the table of answers. Assumes nothing.
use Rattle.std.specs.Prelude.{ℕ, Option, Some, None}
use Rattle.refusal.specs.declared.refusal.Refusal.{Refusal}
use Rattle.refusal.specs.declared.refusal.Refusal.TheVariants.{StateUnsound, RegisterAbove15, ReadForbidden, CommandForbidden, SettingNotModelled, AcknowledgeUnasserted, NewStateUnsound, SpaceShort, OverLimit, TextOutside, TimeNotLater}

-- each row's number, as document 01 and the orders give it
abbrev pub number_of : Refusal → ℕ
number_of StateUnsound = 1
number_of RegisterAbove15 = 2
number_of ReadForbidden = 3
number_of CommandForbidden = 4
number_of SettingNotModelled = 5
number_of AcknowledgeUnasserted = 6
number_of NewStateUnsound = 7
number_of SpaceShort = 8
number_of OverLimit = 9
number_of TextOutside = 10
number_of TimeNotLater = 11

-- 0 is accepted
abbrev pub answer_number : Option Refusal → ℕ
answer_number None = 0
answer_number (Some refusal) = number_of refusal
