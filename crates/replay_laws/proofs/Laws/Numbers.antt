-- A number that is read digit by digit is the number that its digits spell, if it is not above the most, and else none. Assumes nothing.
use Prim.Native.Nat.{ℕ, ◌+◌, ◌-◌, ◌*◌}
use mathlib.Core.Path.{◌≡◌, refl, ◌∙◌}
use mathlib.Core.Bool.{Bool, true, false, ◌&&◌}
use mathlib.Core.List.{List, [], ◌∷◌, ◌++◌}
use native.Mathlib.Omega.{arith}
use lib.Dec.{leb}
use borrow.Author.Tests.{leb-false, lt-leb}
use Rattle.std.specs.Prelude.{Option, Some, None}
use Rattle.format.specs.Pick.{pick}
use Rattle.format.proofs.Laws.Pick.{pick_yes, pick_no}
use Rattle.text.specs.Numbers.{digit, value_after, number_after, number_from}
use Rattle.replay_script.specs.Script.{all_digits, value_from, value_of, up_to}

pub number_snoc : (n : Option ℕ) (w : List ℕ) (b : ℕ) → number_from n (w ++ b ∷ []) ≡ number_after (number_from n w) b
unfolding number_from
number_snoc n [] b = refl
number_snoc n (c ∷ w) b = number_snoc (number_after n c) w b

-- a number up to the most
unfoldable cap_of : ℕ → Option ℕ
cap_of n = pick (leb n 4000000000) (Some n) None

none_from : (w : List ℕ) → number_from None w ≡ None
unfolding number_from number_after
none_from [] = refl
none_from (b ∷ w) = none_from w

nothing : (t : Bool) → ◌≡◌ {A = Option ℕ} None (pick t None None)
unfolding pick
nothing true = refl
nothing false = refl

-- one digit more, or one byte that is none
cap_after : (n b : ℕ) → number_after (cap_of n) b ≡ pick (digit b) (cap_of (n * 10 + (b - 48))) None
unfolding cap_of number_after value_after
cap_after n b = go (leb n 4000000000) refl
  where
    go : (t : Bool) → leb n 4000000000 ≡ t → number_after (cap_of n) b ≡ pick (digit b) (cap_of (n * 10 + (b - 48))) None
    go true e = rw (pick_yes (leb n 4000000000) (Some n) None e)
    go false e =
        let above = leb-false n 4000000000 e in
        rw (pick_no (leb n 4000000000) (Some n) None e, pick_no (leb (n * 10 + (b - 48)) 4000000000) (Some (n * 10 + (b - 48))) None (lt-leb _ _ (omega arith)))
        (nothing (digit b))

number_capped : (n : ℕ) (w : List ℕ) → number_from (cap_of n) w ≡ pick (all_digits w) (cap_of (value_from n w)) None
unfolding number_from all_digits value_from pick
number_capped n [] = refl
number_capped n (b ∷ w) = rw (cap_after n b) (go (number_capped (n * 10 + (b - 48)) w) (digit b))
  where
    go : number_from (cap_of (n * 10 + (b - 48))) w ≡ pick (all_digits w) (cap_of (value_from (n * 10 + (b - 48)) w)) None
        → (t : Bool)
        → number_from (pick t (cap_of (n * 10 + (b - 48))) None) w ≡ pick (t && all_digits w) (cap_of (value_from (n * 10 + (b - 48)) w)) None
    go rest true = rest
    go rest false = none_from w

pub number_is : (w : List ℕ) → number_from (Some 0) w ≡ pick (up_to 4000000000 w) (Some (value_of w)) None
unfolding cap_of pick
number_is w = number_capped 0 w ∙ go (all_digits w) (leb (value_of w) 4000000000)
  where
    go : (t u : Bool) → pick t (pick u (Some (value_of w)) None) None ≡ pick (t && u) (Some (value_of w)) None
    go true u = refl
    go false u = refl
