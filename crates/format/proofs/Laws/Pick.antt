-- A choice is its first or its second: a proof sees `pick t x y` as one term, and opens it by these. Assumes nothing.
use mathlib.Core.Path.{◌≡◌, refl}
use mathlib.Core.Bool.{Bool, true, false}
use Rattle.format.specs.Pick.{pick}

pub pick_yes : {A : Type 0} (t : Bool) (x y : A) → t ≡ true → pick t x y ≡ x
unfolding pick
pick_yes t x y e = rw e

pub pick_no : {A : Type 0} (t : Bool) (x y : A) → t ≡ false → pick t x y ≡ y
unfolding pick
pick_no t x y e = rw e

-- what holds of both holds of the choice
pub pick_all : {A : Type 0} (P : A → Type 0) (t : Bool) (x y : A) → P x → P y → P (pick t x y)
unfolding pick
pick_all P true x y p q = p
pick_all P false x y p q = q

-- the first of a choice may know that the test held
pub pick_known : {A : Type 0} (P : A → Type 0) (t : Bool) (x y : A) → (t ≡ true → P x) → P y → P (pick t x y)
unfolding pick
pick_known P true x y p q = p refl
pick_known P false x y p q = q
