-- The numbers of the rows, written out: what `number_of` is of each, that none is 0, and that an answer's number tells the answer.
-- Assumes nothing.
use Prim.Native.Nat.{ℕ}
use mathlib.Core.Path.{◌≡◌, refl, sym, ◌∙◌, ap}
use mathlib.Core.Bool.{false}
use mathlib.Core.List.{List, [], ◌∷◌, map}
use native.Mathlib.Omega.{arith}
use lib.Dec.{eqb}
use lib.ListN.{get_or}
use Rattle.std.specs.Prelude.{Option, Some, None}
use Rattle.refusal.specs.declared.refusal.Refusal.{Refusal}
use Rattle.refusal.specs.declared.refusal.Refusal.TheVariants.{StateUnsound, RegisterAbove15, ReadForbidden, CommandForbidden, SettingNotModelled, AcknowledgeUnasserted, NewStateUnsound, SpaceShort, OverLimit, TextOutside, TimeNotLater}
use Rattle.refusal.specs.Refusal.{number_of, answer_number}

-- the rows in the order of the table
abbrev pub rows : List Refusal
rows =
    StateUnsound ∷ RegisterAbove15 ∷ ReadForbidden ∷ CommandForbidden ∷ SettingNotModelled ∷ AcknowledgeUnasserted ∷ NewStateUnsound
    ∷ SpaceShort ∷ OverLimit ∷ TextOutside ∷ TimeNotLater ∷ []

-- The table's rows after 0, accepted. The statement takes the numbers that it speaks of.
abbrev pub Numbered : (Refusal → ℕ) → Type 0
Numbered number = map number rows ≡ 1 ∷ 2 ∷ 3 ∷ 4 ∷ 5 ∷ 6 ∷ 7 ∷ 8 ∷ 9 ∷ 10 ∷ 11 ∷ []

pub numbered : Numbered number_of
numbered = refl

-- a refusal is never answered as 0, accepted
pub never_0 : (refusal : Refusal) → number_of refusal ≡ 0 → ⊥
never_0 StateUnsound h = omega arith
never_0 RegisterAbove15 h = omega arith
never_0 ReadForbidden h = omega arith
never_0 CommandForbidden h = omega arith
never_0 SettingNotModelled h = omega arith
never_0 AcknowledgeUnasserted h = omega arith
never_0 NewStateUnsound h = omega arith
never_0 SpaceShort h = omega arith
never_0 OverLimit h = omega arith
never_0 TextOutside h = omega arith
never_0 TimeNotLater h = omega arith

-- 1 is the first row's alone
pub other_rows : (refusal : Refusal) → (refusal ≡ StateUnsound → ⊥) → eqb (number_of refusal) 1 ≡ false
other_rows StateUnsound h = absurd (h refl)
other_rows RegisterAbove15 h = refl
other_rows ReadForbidden h = refl
other_rows CommandForbidden h = refl
other_rows SettingNotModelled h = refl
other_rows AcknowledgeUnasserted h = refl
other_rows NewStateUnsound h = refl
other_rows SpaceShort h = refl
other_rows OverLimit h = refl
other_rows TextOutside h = refl
other_rows TimeNotLater h = refl

-- what an answer's number says: the table from its first row on, read backwards
numbered_so : ℕ → Option Refusal
numbered_so n =
    get_or
    (None ∷ Some StateUnsound ∷ Some RegisterAbove15 ∷ Some ReadForbidden ∷ Some CommandForbidden ∷ Some SettingNotModelled
    ∷ Some AcknowledgeUnasserted ∷ Some NewStateUnsound ∷ Some SpaceShort ∷ Some OverLimit ∷ Some TextOutside ∷ Some TimeNotLater ∷ [])
    n None

said_back : (x : Option Refusal) → numbered_so (answer_number x) ≡ x
unfolding numbered_so
said_back None = refl
said_back (Some StateUnsound) = refl
said_back (Some RegisterAbove15) = refl
said_back (Some ReadForbidden) = refl
said_back (Some CommandForbidden) = refl
said_back (Some SettingNotModelled) = refl
said_back (Some AcknowledgeUnasserted) = refl
said_back (Some NewStateUnsound) = refl
said_back (Some SpaceShort) = refl
said_back (Some OverLimit) = refl
said_back (Some TextOutside) = refl
said_back (Some TimeNotLater) = refl

-- So a routine whose clause gives its answer's number gives its answer: two that fit the same words are equal.
pub one_refusal : (x y : Option Refusal) → answer_number x ≡ answer_number y → x ≡ y
one_refusal x y h = sym (said_back x) ∙ ap numbered_so h ∙ said_back y
